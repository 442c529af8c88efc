use Rattle.std.proofs.Common.{rules, ◌≡◌, ℕ, List, Option, filter, is_some, arith, ap, ◌∙◌}
use Rattle.indexmap.proofs.CallerLemmas.{filter-RetainsPairs}
use Rattle.spec_breaks.specs.declared.types.OwedBreak.{OwedBreak}
use Rattle.afs_promise.specs.Owing.{Owing, breaks_in}
use Rattle.afs_promise.proofs.Breaks.{kept_owing, kept_breaks}
use Rattle.afs_promise.proofs.owed.OwedList.tidy_breaks.Goals as goal

abbrev owing : ℕ → ℕ → List OwedBreak → Owing
owing last room os = record { breaks = os; last = last; room = room }

pub invariant_of-self : goal.invariant_of-self
invariant_of-self c =
    let kept : c.retain.new.self.entries ≡ filter (λ (e : ℕ × Option OwedBreak). is_some e.1) c.self.inside.breaks.entries = filter-RetainsPairs _ (λ e. is_some e.1) _ (λ k v b w g h. search rules) _ _ c.retain.ensures.filtered in
    (kept_owing kept c.self.invariant.0, c.self.invariant.1, omega (arith, c.self.invariant.2, c.retain.ensures.room.0), c.self.invariant.3)

pub returns-then-len-self : goal.returns-then-len-self
returns-then-len-self c =
    let kept : c.retain.new.self.entries ≡ filter (λ (e : ℕ × Option OwedBreak). is_some e.1) c.self.inside.breaks.entries = filter-RetainsPairs _ (λ e. is_some e.1) _ (λ k v b w g h. search rules) _ _ c.retain.ensures.filtered in
    ap (owing c.self.inside.last c.self.inside.room) (ap breaks_in kept ∙ kept_breaks c.self.inside.breaks.entries) ∙ c.self.view_is
