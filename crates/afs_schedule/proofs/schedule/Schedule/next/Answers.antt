use Rattle.std.proofs.Common.{ap₂, refl, sym, ◌∙◌, ◌≡◌, ◌≤◌, ◌⊎◌, arith, inl, ℕ, List, Bool, true, false, Option, Some}
use Rattle.std.specs.Prelude.{IfSome}
use Rattle.spec_history.specs.declared.scripts.Event.{Event}
use Rattle.afs_schedule.specs.Schedules.{lowest, next_event}
use Rattle.afs_schedule.proofs.Drained.{drained, settles}
use Rattle.afs_schedule.proofs.Taken.{taken}
use Rattle.afs_schedule.proofs.schedule.Schedule.next.Goals as goal

pub returns-clause-ok : goal.returns-clause-ok
returns-clause-ok c = λ es named h.
    let is : Some (c.in-Some.event, c.in-Some.rest.now) ≡ next_event (lowest c.args.sent 1 named) es =
    c.in-Some.ensures ∙ ap₂ (λ (low : Option ℕ) (left : List Event). next_event low left) (c.waiting.ensures.lowest named h.named_so) h.events in
    taken (record { events = c.in-Some.rest; named = c.comes.new.self; names_again = c.args.self.now.names_again }) named c.in-Some.event (next_event (lowest c.args.sent 1 named) es)
    is (c.in_ok-comes.ensures.ok named h.named_so)
    (λ drains. (drained c.args.self.now.named.first c.waiting.result es (c.in-Some.event, c.in-Some.rest.now) (sym (c.in-Some.ensures ∙ ap₂ (λ (low : Option ℕ) (left : List Event). next_event low left) refl h.events)) c.waiting.ensures.above (h.drains drains)).rest)

pub returns-clause-behind : goal.returns-clause-behind
returns-clause-behind c = λ es named h.
    settles c.args.self.now.names_again c.args.self.now.named.first c.comes.new.self.first c.waiting.result es (c.in-Some.event, c.in-Some.rest.now) (sym (c.in-Some.ensures ∙ ap₂ (λ (low : Option ℕ) (left : List Event). next_event low left) refl h.events)) c.waiting.ensures.above h.drains
    c.in_ok-comes.ensures.grows
