-- Replies, parted into those that wait no more and those that do, one after the other.
use Rattle.std.proofs.Common.{◌≡◌, Bool, true, false, List, [], ◌∷◌, ◌++◌, if◌then◌else◌, ap, append_assoc}
use Rattle.std.specs.Prelude.{filter}
use Rattle.std.proofs.lemmas.List.{append-nil}
use Rattle.afs_num.specs.declared.messages.Message.{Message}
use Rattle.spec_rows.specs.Callbacks.{replies_of}
use Rattle.spec_rows.specs.States.{Held}

pub sent_next : (ready : Held → Bool) (sent : List Message) (h : Held) (hs : List Held) → (sent ++ replies_of (filter ready (h ∷ []))) ++ replies_of (filter ready hs) ≡ sent ++ replies_of (filter ready (h ∷ hs))
sent_next ready sent h hs = by (ready h)
  where
    by : (t : Bool) → (sent ++ replies_of (if t then h ∷ [] else [])) ++ replies_of (filter ready hs) ≡ sent ++ replies_of (if t then h ∷ filter ready hs else filter ready hs)
    by true = append_assoc sent (replies_of (h ∷ [])) (replies_of (filter ready hs))
    by false = ap (λ (ms : List Message). ms ++ replies_of (filter ready hs)) (append-nil sent)

pub held_next : (waits : Held → Bool) (held : List Held) (h : Held) (hs : List Held) → (held ++ filter waits (h ∷ [])) ++ filter waits hs ≡ held ++ filter waits (h ∷ hs)
held_next waits held h hs = by (waits h)
  where
    by : (t : Bool) → (held ++ (if t then h ∷ [] else [])) ++ filter waits hs ≡ held ++ (if t then h ∷ filter waits hs else filter waits hs)
    by true = append_assoc held (h ∷ []) (filter waits hs)
    by false = ap (λ (ws : List Held). ws ++ filter waits hs) (append-nil held)
