use Rattle.std.proofs.Common.{ℕ, List, Option, ap, sym, subst, arith, ◌∙◌}
use Rattle.std.specs.BinaryHeap.{heap_items}
use Rattle.spec_breaks.specs.declared.types.OwedBreak.{OwedBreak}
use Rattle.spec_breaks.specs.Promises.{without_break}
use Rattle.afs_promise.specs.Owing.{Owing, IsOwing, breaks_in}
use Rattle.afs_promise.proofs.Breaks.{counts_some, struck_owing, struck_breaks}
use Rattle.afs_promise.proofs.owed.OwedList.end.Goals as goal

pub end-requires : goal.end-requires
end-requires c = λ some. counts_some c.args.number c.self.invariant.0 some

pub invariant_of-self : goal.invariant_of-self
invariant_of-self c = (
  subst (λ (es : List (ℕ × Option OwedBreak)). IsOwing es (heap_items c.self.inside.due) c.self.inside.last c.end.new.count) (sym c.end.ensures.entries) (struck_owing c.args.number c.end.ensures.count c.self.invariant.0),
  c.self.invariant.1,
  omega (arith, c.self.invariant.2, c.end.ensures.spare),
  c.self.invariant.3,
)

pub returns-clause-breaks : goal.returns-clause-breaks
returns-clause-breaks c = ap breaks_in c.end.ensures.entries ∙ (struck_breaks 0 c.self.inside.last c.args.number c.self.inside.breaks.entries c.self.invariant.0.ascends ∙ ap (λ (v : Owing). without_break c.args.number v.breaks) c.self.view_is)
