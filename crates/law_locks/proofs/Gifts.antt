-- What is known of messages: to which entry a stamp belongs that a reply gives, and that none but administrators ask to write an entry.
use Rattle.std.proofs.Common.{◌≡◌, ◌≤◌, ◌<◌, ℕ, refl, subst, arith, ◌∙◌}
use Rattle.std.specs.Prelude.{⊤}
use Rattle.afs_num.specs.declared.location_calls.LocCall.TheVariants as loc
use Rattle.afs_num.specs.declared.location_calls.LocReply.{LocReply}
use Rattle.afs_num.specs.declared.location_calls.LocReply.TheVariants as entries
use Rattle.afs_num.specs.declared.messages.Call.{Call}
use Rattle.afs_num.specs.declared.messages.Call.TheVariants as ask
use Rattle.afs_num.specs.declared.messages.Carried.{Carried}
use Rattle.afs_num.specs.declared.messages.Carried.TheVariants as carried
use Rattle.afs_num.specs.declared.messages.Message.{Message}
use Rattle.afs_num.specs.declared.messages.Reply.{Reply}
use Rattle.afs_num.specs.declared.messages.Reply.TheVariants as tell
use Rattle.afs_num.specs.declared.types.Head.{Head}
use Rattle.afs_num.specs.declared.types.Node.{Node}
use Rattle.afs_num.specs.declared.types.Node.TheVariants.{Admin, Client, Loc, Server}
use Rattle.spec_adminrows.specs.AdminRow.{AdminState}
use Rattle.spec_adminrows.specs.declared.places.Creating.TheVariants as creating
use Rattle.spec_adminrows.specs.declared.places.Fresh.{Fresh}
use Rattle.spec_adminrows.specs.declared.places.Place.{Place}
use Rattle.spec_adminrows.specs.declared.places.Place.TheVariants as places
use Rattle.law_courses.specs.Courses.{Course, IsUpTo, Question}
use Rattle.law_locks.specs.Lines.{IsDrawnFor}

-- ---- calls

abbrev pub IsHarmless : Call → Type 0
IsHarmless (ask.Location (loc.ReplaceEntry id e)) = ⊥
IsHarmless (ask.Location (loc.DeleteEntry id)) = ⊥
IsHarmless call = ⊤

-- of an administrator's call more is known by its course
abbrev pub CallBy : Call → Node → Type 0
CallBy call (Admin n) = ⊤
CallBy call (Server i) = IsHarmless call
CallBy call (Client n) = IsHarmless call
CallBy call Loc = IsHarmless call

-- ---- replies that give a stamp

-- To a call that makes an entry: of which, its question tells.
abbrev pub MadeBy : (ℕ → ℕ) → ℕ → Course → (ℕ → AdminState) → Head → ℕ → Node → Type 0
MadeBy entry_of next course admins head stamp (Admin n) =
    IsUpTo head.epoch head.number (admins n) × ((f : Fresh) (v : ℕ) → (course n head.epoch head.number).place ≡ places.Creates f (creating.Enters v) → IsDrawnFor entry_of next v stamp)
MadeBy entry_of next course admins head stamp (Server i) = ⊤
MadeBy entry_of next course admins head stamp (Client n) = ⊤
MadeBy entry_of next course admins head stamp Loc = ⊤

abbrev pub ReplyGives : (ℕ → ℕ) → ℕ → Course → (ℕ → AdminState) → Head → Reply → Type 0
ReplyGives entry_of next course admins head (tell.Location (entries.SetLock stamp e)) = IsDrawnFor entry_of next e.read_write stamp
ReplyGives entry_of next course admins head (tell.Location (entries.CreateEntry stamp)) = MadeBy entry_of next course admins head stamp head.to
ReplyGives entry_of next course admins head reply = ⊤

abbrev pub GiftIn : (ℕ → ℕ) → ℕ → Course → (ℕ → AdminState) → Head → Carried → Type 0
GiftIn entry_of next course admins head (carried.Call user call) = CallBy call head.from
GiftIn entry_of next course admins head (carried.Refusal code) = ⊤
GiftIn entry_of next course admins head (carried.Reply reply) = ReplyGives entry_of next course admins head reply
GiftIn entry_of next course admins head carried.Notice = ⊤

abbrev pub IsGift : (ℕ → ℕ) → ℕ → Course → (ℕ → AdminState) → Message → Type 0
IsGift entry_of next course admins m = GiftIn entry_of next course admins m.head m.carried

-- ---- messages of others than the database

abbrev pub GivesNone : Reply → Type 0
GivesNone (tell.Location (entries.SetLock stamp e)) = ⊥
GivesNone (tell.Location (entries.CreateEntry stamp)) = ⊥
GivesNone reply = ⊤

abbrev pub PlainIn : Head → Carried → Type 0
PlainIn head (carried.Call user call) = CallBy call head.from
PlainIn head (carried.Refusal code) = ⊤
PlainIn head (carried.Reply reply) = GivesNone reply
PlainIn head carried.Notice = ⊤

abbrev pub Plain : Message → Type 0
Plain m = PlainIn m.head m.carried

-- ---- one kind from the other, and as stamps are drawn

module _ (entry_of : ℕ → ℕ) (next : ℕ) (course : Course) (admins : ℕ → AdminState) where
  location_plain : (head : Head) (reply : LocReply) → GivesNone (tell.Location reply) → ReplyGives entry_of next course admins head (tell.Location reply)
  location_plain head (entries.SetLock stamp e) h = absurd h
  location_plain head (entries.CreateEntry stamp) h = absurd h
  location_plain head reply h = tt

  reply_plain : (head : Head) (reply : Reply) → GivesNone reply → ReplyGives entry_of next course admins head reply
  reply_plain head (tell.Location reply) h = location_plain head reply h
  reply_plain head (tell.Volume reply) h = tt
  reply_plain head (tell.File reply) h = tt

  plain_in : (head : Head) (x : Carried) → PlainIn head x → GiftIn entry_of next course admins head x
  plain_in head (carried.Call user call) h = h
  plain_in head (carried.Refusal code) h = tt
  plain_in head (carried.Reply reply) h = reply_plain head reply h
  plain_in head carried.Notice h = tt

  pub plain_gift : (m : Message) → Plain m → IsGift entry_of next course admins m
  plain_gift m h = plain_in m.head m.carried h

module _ (entry_of now : ℕ → ℕ) (n k : ℕ) (le : n ≤ k) (same : (b : ℕ) → b < n → now b ≡ entry_of b) where
  pub still_drawn : (volume stamp : ℕ) → IsDrawnFor entry_of n volume stamp → IsDrawnFor now k volume stamp
  still_drawn volume stamp h = ((h.0.0, let below : stamp < n = h.0.1 in omega (arith, le, below)), same stamp h.0.1 ∙ h.1)

  module _ (course next : Course) (admins later : ℕ → AdminState) (stays : (i e j : ℕ) → IsUpTo e j (admins i) → next i e j ≡ course i e j) (up : (i e j : ℕ) → IsUpTo e j (admins i) → IsUpTo e j (later i)) where
    still_made : (head : Head) (stamp : ℕ) (x : Node) → MadeBy entry_of n course admins head stamp x → MadeBy now k next later head stamp x
    still_made head stamp (Admin i) h =
        (up i head.epoch head.number h.0, λ f v at. still_drawn v stamp (h.1 f v (subst (λ (q : Place). q ≡ places.Creates f (creating.Enters v)) (same_place i head.epoch head.number h.0) at)))
      where
        same_place : (i e j : ℕ) → IsUpTo e j (admins i) → (next i e j).place ≡ (course i e j).place
        same_place i e j u = subst (λ (q : Question). (next i e j).place ≡ q.place) (stays i e j u) refl
    still_made head stamp (Server i) h = tt
    still_made head stamp (Client i) h = tt
    still_made head stamp Loc h = tt

    still_location : (head : Head) (reply : LocReply) → ReplyGives entry_of n course admins head (tell.Location reply) → ReplyGives now k next later head (tell.Location reply)
    still_location head (entries.SetLock stamp e) h = still_drawn e.read_write stamp h
    still_location head (entries.CreateEntry stamp) h = still_made head stamp head.to h
    still_location head reply h = tt

    still_reply : (head : Head) (reply : Reply) → ReplyGives entry_of n course admins head reply → ReplyGives now k next later head reply
    still_reply head (tell.Location reply) h = still_location head reply h
    still_reply head (tell.Volume reply) h = tt
    still_reply head (tell.File reply) h = tt

    still_in : (head : Head) (x : Carried) → GiftIn entry_of n course admins head x → GiftIn now k next later head x
    still_in head (carried.Call user call) h = h
    still_in head (carried.Refusal code) h = tt
    still_in head (carried.Reply reply) h = still_reply head reply h
    still_in head carried.Notice h = tt

    pub still_gift : (m : Message) → IsGift entry_of n course admins m → IsGift now k next later m
    still_gift m h = still_in m.head m.carried h
