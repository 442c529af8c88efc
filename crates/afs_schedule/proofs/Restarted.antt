-- A restart after a step that a set stop or failure ended begins as that tells.
use Rattle.std.specs.Prelude.{◌≡◌, ℕ, zero, suc, Bool, true, false, Option, Some}
use Rattle.std.proofs.Common.{refl, subst, ◌∙◌}
use Rattle.afs_num.specs.declared.messages.Message.{Message}
use Rattle.afs_num.specs.declared.types.Node.TheVariants.{Server}
use Rattle.spec_history.specs.declared.scripts.Event.TheVariants as events
use Rattle.spec_rows.specs.Runs.{in_step, leaves_after, nothing, starts_again, Blow, Fall, MayBegin, Outcome}
use Rattle.spec_runs.specs.NodeRuns.{usual}
use Rattle.afs_schedule.specs.Schedules.{IsInput, ScheduleState}

same_after : (i j : ℕ) (a b : Bool) (o p : Outcome) → usual (starts_again i a o) ≡ usual (starts_again j b p) → a ≡ b
same_after i j a b o p e = cc

begins_nothing : (i : ℕ) (a : Bool) (o : Outcome) → usual (starts_again i a o) ≡ usual nothing → ⊥
begins_nothing i a o e = absurd cc

pub begins_so : (t : ScheduleState) (i : ℕ) (m : Message) (clock : ℕ) (b : Blow) (after : Bool) (o : Outcome) → (t.cell.hosts i).down ≡ Some (in_step m clock b) → b.is_set ≡ true
    → IsInput t (events.Restart (Server i)) (usual (starts_again i after o)) → after ≡ leaves_after b
begins_so t zero m clock b after o down set input = absurd (begins_nothing zero after o input.1.1.1)
begins_so t (suc i) m clock b after o down set input =
    same_after (suc i) (suc i) after input.0 o input.1.0 input.1.1.1 ∙ subst (λ (d : Option Fall). MayBegin d input.0) down input.1.1.0 set

-- where the first of the four calls wasn't made, nothing is left of the step, whatever the pick
pub nothing_at_the_first : (t : ScheduleState) (i : ℕ) (m : Message) (clock pick : ℕ) (o : Outcome) → (t.cell.hosts i).down ≡ Some (in_step m clock (record { call = 1; is_set = true; stops = true; pick = pick }))
    → IsInput t (events.Restart (Server i)) (usual (starts_again i true o)) → ⊥
nothing_at_the_first t i m clock pick o down input =
    let wrong = begins_so t i m clock (record { call = 1; is_set = true; stops = true; pick = pick }) true o down refl input in
    absurd cc

-- where the last wasn't, a stop with pick 1 leaves the step
pub all_at_the_last : (t : ScheduleState) (i : ℕ) (m : Message) (clock : ℕ) (o : Outcome) → (t.cell.hosts i).down ≡ Some (in_step m clock (record { call = 4; is_set = true; stops = true; pick = 1 }))
    → IsInput t (events.Restart (Server i)) (usual (starts_again i false o)) → ⊥
all_at_the_last t i m clock o down input =
    let wrong = begins_so t i m clock (record { call = 4; is_set = true; stops = true; pick = 1 }) false o down refl input in
    absurd cc
