-- The clock rises: a step of the world.
use Rattle.std.proofs.Common.{ap, sym, subst, ◌∙◌, ◌≡◌, ◌≤◌, ◌<◌, ◌+◌, ℕ, List, length, false, Option, Ok, Err}
use Rattle.afs_num.specs.declared.histories.Actor.TheVariants as actors
use Rattle.spec_history.specs.declared.lines.Line.TheVariants as lines
use Rattle.spec_history.specs.declared.scripts.Event.TheVariants as events
use Rattle.afs_schedule.specs.Schedules.{IsInput, ScheduleState}
use Rattle.afs_cell.specs.Noting.{Notes}
use Rattle.afs_cell.specs.Steps.{Stepped}
use Rattle.afs_cell.specs.Worlds.{most_history_entries, most_ticks, IsSafe, WorldState}
use Rattle.afs_cell.specs.declared.faults.WorldFault.{WorldFault}
use Rattle.afs_cell.specs.declared.faults.WorldFault.TheVariants as faulty
use Rattle.afs_cell.proofs.Eventful.{tick_steps}
use Rattle.afs_cell.proofs.Settled.{nothing_changes}

module _ {D : Type 0} (seen : D → Option (List ℕ)) (may_leave : D → List ℕ → Type 0) (faults limit : D → ℕ) (n : ℕ) (w : WorldState D) (safe : IsSafe limit w.script w) where
  -- its entry stands, and it has risen
  pub ticked : (noted : WorldState D) → Notes actors.Clock (lines.Tick n) w noted (Ok tt) → (new : WorldState D) → new ≡ record noted { clock = noted.clock + n } → 1 ≤ n → w.is_lost ≡ false → length w.history < most_history_entries → w.clock + n ≤ most_ticks
      → Stepped seen may_leave faults limit w.script (λ (t : ScheduleState). IsInput t (events.Tick n)) w new (Ok tt)
  ticked noted notes new is some going few within =
      subst (λ (v : WorldState D). Stepped seen may_leave faults limit w.script (λ (t : ScheduleState). IsInput t (events.Tick n)) w v (Ok tt)) (sym (is ∙ ap (λ (v : WorldState D). record v { clock = v.clock + n }) notes))
      (tick_steps seen may_leave faults limit w.script n w some safe going few within)

  -- memory was wanting
  pub not_ticked : (new : WorldState D) (e : WorldFault) → Notes actors.Clock (lines.Tick n) w new (Err e) → Stepped seen may_leave faults limit w.script (λ (t : ScheduleState). IsInput t (events.Tick n)) w new (Err e)
  not_ticked new e notes =
      subst (λ (f : WorldFault). Stepped seen may_leave faults limit w.script (λ (t : ScheduleState). IsInput t (events.Tick n)) w new (Err f)) (sym notes.0)
      (subst (λ (v : WorldState D). Stepped seen may_leave faults limit w.script (λ (t : ScheduleState). IsInput t (events.Tick n)) w v (Err faulty.OutOfMemory)) (sym notes.1)
      (nothing_changes seen may_leave faults limit w.script (λ (t : ScheduleState). IsInput t (events.Tick n)) w safe))
