-- Parcels and the messages that they carry.
use Rattle.std.proofs.Common.{◌≡◌, ℕ, zero, suc, ◌+◌, ◌≤◌, List, [], ◌∷◌, ◌++◌, Option, Some, None, length, take, drop, refl, sym, ap, subst, ◌∙◌, arith}
use Rattle.std.proofs.lemmas.List.{append-nil, take-append-le, drop-append-le, length-drop, take_all}
use Rattle.afs_num.specs.Places.{at_place}
use Rattle.spec_history.specs.declared.lines.Entry as kept
use Rattle.afs_num.specs.declared.types.Head.{Head}
use Rattle.afs_num.specs.declared.types.Parcel.{Parcel}
use Rattle.afs_num.specs.declared.messages.Message.{Message}
use Rattle.afs_num.specs.declared.messages.Received.{Received}
use Rattle.afs_num.specs.declared.messages.Received.TheVariants.{Nothing, Unserved, Unreadable, Whole}
use Rattle.spec_model.specs.Messages.{received, spelled, parcels_read, messages_spelled}
use Rattle.spec_rows.specs.Runs.{Entry}
use Rattle.spec_model.specs.Telling.{with_received, messages_of, AreRead}
use Rattle.afs_text.specs.Telling.{entries_as_told, sent_by}

-- a parcel's header, its bytes, and what is read in them
abbrev Seen : Type 0
Seen = Head × List ℕ × Received

head_is : {X : Type 0} (x y : X) (xs ys : List X) → x ∷ xs ≡ y ∷ ys → x ≡ y
head_is x y xs ys e = cc

tail_is : {X : Type 0} (x y : X) (xs ys : List X) → x ∷ xs ≡ y ∷ ys → xs ≡ ys
tail_is x y xs ys e = cc

pub messages_of-read : (ps : List Parcel) (ms : List Message) → parcels_read ps ≡ messages_spelled ms → messages_of ps ≡ ms
messages_of-read [] [] e = refl
messages_of-read [] (m ∷ ms) e = absurd cc
messages_of-read (p ∷ ps) [] e = absurd cc
messages_of-read (p ∷ ps) (m ∷ ms) e =
    let first : received p.bytes ≡ Whole m = ap (λ (x : Seen). x.2) (head_is _ _ _ _ e) in
    ap (λ (r : Received). with_received r (messages_of ps)) first ∙ ap (λ (t : List Message). m ∷ t) (messages_of-read ps ms (tail_is _ _ _ _ e))

pub are_read : (ps : List Parcel) (ms : List Message) → parcels_read ps ≡ messages_spelled ms → AreRead ps
are_read ps ms e = subst (λ (t : List Message). parcels_read ps ≡ messages_spelled t) (sym (messages_of-read ps ms e)) e

with_received-append : (r : Received) (ms ns : List Message) → with_received r (ms ++ ns) ≡ with_received r ms ++ ns
with_received-append Nothing ms ns = refl
with_received-append (Unserved h) ms ns = refl
with_received-append (Unreadable h) ms ns = refl
with_received-append (Whole m) ms ns = refl

pub messages_of-append : (ps qs : List Parcel) → messages_of (ps ++ qs) ≡ messages_of ps ++ messages_of qs
messages_of-append [] qs = refl
messages_of-append (p ∷ ps) qs =
    ap (λ (t : List Message). with_received (received p.bytes) t) (messages_of-append ps qs) ∙ with_received-append (received p.bytes) (messages_of ps) (messages_of qs)

pub parcels_read-append : (ps qs : List Parcel) → parcels_read (ps ++ qs) ≡ parcels_read ps ++ parcels_read qs
parcels_read-append [] qs = refl
parcels_read-append (p ∷ ps) qs = ap (λ (t : List Seen). (p.head, p.bytes, received p.bytes) ∷ t) (parcels_read-append ps qs)

pub messages_spelled-append : (ms ns : List Message) → messages_spelled (ms ++ ns) ≡ messages_spelled ms ++ messages_spelled ns
messages_spelled-append [] ns = refl
messages_spelled-append (m ∷ ms) ns = ap (λ (t : List Seen). (m.head, spelled m, Whole m) ∷ t) (messages_spelled-append ms ns)

pub AreRead-append : (ps qs : List Parcel) → AreRead ps → AreRead qs → AreRead (ps ++ qs)
AreRead-append ps qs p q =
    parcels_read-append ps qs ∙ ap (λ (t : List Seen). t ++ parcels_read qs) p ∙ ap (λ (t : List Seen). messages_spelled (messages_of ps) ++ t) q
    ∙ sym (messages_spelled-append (messages_of ps) (messages_of qs)) ∙ ap messages_spelled (sym (messages_of-append ps qs))

-- ---- places

-- a parcel and a message that stand at one place
pub record Carries (p : Parcel) (m : Message) : Type 0 where
  pub head : p.head ≡ m.head
  pub bytes : received p.bytes ≡ Whole m

abbrev pub AtPlace : Option Parcel → Option Message → Type 0
AtPlace None None = Unit {0}
AtPlace None (Some m) = ⊥
AtPlace (Some p) None = ⊥
AtPlace (Some p) (Some m) = Carries p m

pub places_agree : (ps : List Parcel) (ms : List Message) → parcels_read ps ≡ messages_spelled ms → (place : ℕ) → AtPlace (at_place ps place) (at_place ms place)
places_agree [] [] e place = tt
places_agree [] (m ∷ ms) e place = absurd cc
places_agree (p ∷ ps) [] e place = absurd cc
places_agree (p ∷ ps) (m ∷ ms) e zero = tt
places_agree (p ∷ ps) (m ∷ ms) e (suc zero) =
    let both = head_is _ _ _ _ e in record { head = ap (λ (x : Seen). x.0) both; bytes = ap (λ (x : Seen). x.2) both }
places_agree (p ∷ ps) (m ∷ ms) e (suc (suc place)) = places_agree ps ms (tail_is _ _ _ _ e) (suc place)

-- ---- entries

pub sent_by-push : (es : List kept.Entry) (e : kept.Entry) → sent_by (es ++ e ∷ []) ≡ sent_by es + e.sent
sent_by-push [] e = omega arith
sent_by-push (x ∷ es) e =
    let more = sent_by-push es e in
    omega (arith, more)

-- an entry with these messages
abbrev pub with_messages : kept.Entry → List Message → Entry
with_messages e ms = record { actor = e.actor; lines = e.lines; sent = ms; volumes = [] }

-- an entry more tells its own messages, and changes nothing of what was told before
pub told-push : (ps qs : List Parcel) (es : List kept.Entry) (e : kept.Entry) → sent_by es ≡ length ps → e.sent ≡ length qs → entries_as_told (ps ++ qs) (es ++ e ∷ []) ≡ entries_as_told ps es ++ with_messages e (messages_of qs) ∷ []
told-push [] qs [] e all own =
    let whole : take e.sent qs ≡ qs = take_all e.sent qs (omega (arith, own)) in
    ap (λ (ts : List Parcel). with_messages e (messages_of ts) ∷ []) whole
told-push (p ∷ ps) qs [] e all own = absurd (omega (arith, all))
told-push ps qs (x ∷ es) e all own =
    let fits : x.sent ≤ length ps = omega (arith, all) in
    let rest : sent_by es ≡ length (drop x.sent ps) = omega (arith, all, length-drop x.sent ps) in
    ap (λ (ts : List Parcel). with_messages x (messages_of ts) ∷ entries_as_told (drop x.sent (ps ++ qs)) (es ++ e ∷ [])) (take-append-le x.sent ps qs fits)
    ∙ ap (λ (ts : List Entry). with_messages x (messages_of (take x.sent ps)) ∷ ts)
    (ap (λ (ts : List Parcel). entries_as_told ts (es ++ e ∷ [])) (drop-append-le x.sent ps qs fits) ∙ told-push (drop x.sent ps) qs es e rest own)

-- an entry that sent nothing
pub told-still : (ps : List Parcel) (es : List kept.Entry) (e : kept.Entry) → sent_by es ≡ length ps → e.sent ≡ 0 → entries_as_told ps (es ++ e ∷ []) ≡ entries_as_told ps es ++ with_messages e [] ∷ []
told-still ps es e all own = subst (λ (qs : List Parcel). entries_as_told qs (es ++ e ∷ []) ≡ entries_as_told ps es ++ with_messages e [] ∷ []) (append-nil ps) (told-push ps [] es e all own)
