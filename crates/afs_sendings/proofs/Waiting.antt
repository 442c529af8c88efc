-- Replies that go out or wait on, one after the other.
use Rattle.std.proofs.Common.{◌≡◌, ℕ, Bool, true, false, List, [], ◌∷◌, ◌++◌, if◌then◌else◌, refl, ap, ◌∙◌, append_assoc}
use Rattle.std.specs.Prelude.{filter}
use Rattle.std.proofs.lemmas.List.{append-nil}
use Rattle.afs_num.specs.declared.messages.Message.{Message}
use Rattle.afs_num.specs.declared.messages.Received.{Received}
use Rattle.afs_num.specs.declared.types.Head.{Head}
use Rattle.afs_num.specs.declared.types.Parcel.{Parcel}
use Rattle.spec_model.specs.Messages.{messages_spelled, parcels_read, received}
use Rattle.spec_rows.specs.Callbacks.{replies_of}
use Rattle.spec_rows.specs.States.{Held}

-- parcels one behind the other are read so
pub read_behind : (ps qs : List Parcel) → parcels_read (ps ++ qs) ≡ parcels_read ps ++ parcels_read qs
read_behind [] qs = refl
read_behind (p ∷ ps) qs = ap (λ (xs : List (Head × List ℕ × Received)). (p.head, p.bytes, received p.bytes) ∷ xs) (read_behind ps qs)

pub sent_one : (ps new : List Parcel) (p : Parcel) (m : Message) → new ≡ ps ++ p ∷ [] → parcels_read (p ∷ []) ≡ messages_spelled (m ∷ []) → parcels_read new ≡ parcels_read ps ++ messages_spelled (m ∷ [])
sent_one ps new p m is reads = ap parcels_read is ∙ (read_behind ps (p ∷ []) ∙ ap (λ (xs : List (Head × List ℕ × Received)). parcels_read ps ++ xs) reads)

-- the next reply goes out, or none
pub sent_next : (ready : Held → Bool) (ps : List Parcel) (h : Held) (hs : List Held) →
    (parcels_read ps ++ messages_spelled (replies_of (filter ready (h ∷ [])))) ++ messages_spelled (replies_of (filter ready hs)) ≡ parcels_read ps ++ messages_spelled (replies_of (filter ready (h ∷ hs)))
sent_next ready ps h hs = by (ready h)
  where
    by : (t : Bool) → (parcels_read ps ++ messages_spelled (replies_of (if t then h ∷ [] else []))) ++ messages_spelled (replies_of (filter ready hs)) ≡ parcels_read ps ++ messages_spelled (replies_of (if t then h ∷ filter ready hs else filter ready hs))
    by true = append_assoc (parcels_read ps) (messages_spelled (h.reply ∷ [])) (messages_spelled (replies_of (filter ready hs)))
    by false = ap (λ (xs : List (Head × List ℕ × Received)). xs ++ messages_spelled (replies_of (filter ready hs))) (append-nil (parcels_read ps))

pub held_next : (waits : Held → Bool) (held : List Held) (h : Held) (hs : List Held) → (held ++ filter waits (h ∷ [])) ++ filter waits hs ≡ held ++ filter waits (h ∷ hs)
held_next waits held h hs = by (waits h)
  where
    by : (t : Bool) → (held ++ (if t then h ∷ [] else [])) ++ filter waits hs ≡ held ++ (if t then h ∷ filter waits hs else filter waits hs)
    by true = append_assoc held (h ∷ []) (filter waits hs)
    by false = ap (λ (ws : List Held). ws ++ filter waits hs) (append-nil held)
