-- The inputs of a schedule, as they are played one after the other.
use Rattle.std.proofs.Common.{refl, ap, sym, subst, append_assoc, ◌≡◌, ℕ, suc, List, [], ◌∷◌, ◌++◌, length, Option, Some, None}
use Rattle.std.proofs.lemmas.List.{append-nil}
use Rattle.afs_num.specs.declared.messages.Message.{Message}
use Rattle.afs_num.specs.declared.types.Parcel.{Parcel}
use Rattle.spec_history.specs.declared.scripts.Event.{Event}
use Rattle.spec_history.specs.declared.scripts.Script.{Script}
use Rattle.spec_model.specs.Messages.{messages_spelled, parcels_read}
use Rattle.spec_runs.specs.NodeRuns.{CellInput}
use Rattle.afs_schedule.specs.Schedules.{events_of, first_turn, next_event, schedule_behind, waiting, AreFirst, AreInputs, IsInput, IsNext, ScheduleState}
use Rattle.afs_cell.specs.UnderWay.{SoFar}

-- before any event
pub none_yet : (s : Script) → SoFar s [] (first_turn s) (events_of s)
none_yet s = record { all = λ ys h. h; first = λ ys h. h }

-- one event more
pub one_more : (s : Script) (xs : List CellInput) (t : ScheduleState) (es more : List Event) (e : Event) (x : CellInput) → SoFar s xs t es → next_event (waiting t) es ≡ Some (e, more) → IsInput t e x → SoFar s (xs ++ x ∷ []) (schedule_behind t e x) more
one_more s xs t es more e x far next is = record {
  all = λ ys h.
      subst (λ (zs : List CellInput). AreInputs (first_turn s) (events_of s) zs) (sym (append_assoc xs (x ∷ []) ys))
      (far.all (x ∷ ys) (subst (λ (o : Option (Event × List Event)). IsNext t o x (λ u rest. AreInputs u rest ys)) (sym next) (is, h)));
  first = λ ys h.
      subst (λ (zs : List CellInput). AreFirst (first_turn s) (events_of s) zs) (sym (append_assoc xs (x ∷ []) ys))
      (far.first (x ∷ ys) (subst (λ (o : Option (Event × List Event)). IsNext t o x (λ u rest. AreFirst u rest ys)) (sym next) (is, h)));
}

-- no event is left
pub all_played : (s : Script) (xs : List CellInput) (t : ScheduleState) (es : List Event) → SoFar s xs t es → next_event (waiting t) es ≡ None → AreInputs (first_turn s) (events_of s) xs
all_played s xs t es far none = subst (λ (zs : List CellInput). AreInputs (first_turn s) (events_of s) zs) (append-nil xs) (far.all [] none)

-- one is
pub first_played : (s : Script) (xs : List CellInput) (t : ScheduleState) (es : List Event) → SoFar s xs t es → (next_event (waiting t) es ≡ None → ⊥) → AreFirst (first_turn s) (events_of s) xs
first_played s xs t es far some = subst (λ (zs : List CellInput). AreFirst (first_turn s) (events_of s) zs) (append-nil xs) (far.first [] some)

tail_is : {X : Type 0} (x y : X) (xs ys : List X) → x ∷ xs ≡ y ∷ ys → xs ≡ ys
tail_is x y xs ys e = cc

-- as many messages as parcels
pub as_many : (ps : List Parcel) (ms : List Message) → parcels_read ps ≡ messages_spelled ms → length ps ≡ length ms
as_many [] [] e = refl
as_many [] (m ∷ ms) e = absurd cc
as_many (p ∷ ps) [] e = absurd cc
as_many (p ∷ ps) (m ∷ ms) e = ap (λ (n : ℕ). suc n) (as_many ps ms (tail_is _ _ _ _ e))
