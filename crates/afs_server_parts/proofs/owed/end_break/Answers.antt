use Rattle.std.proofs.Common.{◌≡◌, not, nat_eq, rules, subst, sym}
use Rattle.std.specs.Prelude.{filter}
use Rattle.std.specs.List.{All}
use Rattle.std.proofs.lemmas.Fn.{filter_same}
use Rattle.std.proofs.lemmas.List.Elements.{All-filter}
use Rattle.spec_breaks.specs.declared.types.OwedBreak.{OwedBreak}
use Rattle.afs_server_parts.specs.Turning.{IsBreakToNode}
use Rattle.afs_server_parts.proofs.owed.end_break.Goals as goal

pub returns-clause-left : goal.returns-clause-left
returns-clause-left c = filter_same _ (λ (o : OwedBreak). not (nat_eq o.number c.args.number)) _ (λ x b f' h. search rules) _ _ c.retain.ensures.filtered

pub returns-clause-nodes : goal.returns-clause-nodes
returns-clause-nodes c h =
    let left : c.retain.new.self.items ≡ filter (λ (o : OwedBreak). not (nat_eq o.number c.args.number)) c.args.owed.now.items = filter_same _ (λ (o : OwedBreak). not (nat_eq o.number c.args.number)) _ (λ x b f' h. search rules) _ _ c.retain.ensures.filtered in
    subst (All IsBreakToNode) (sym left) (All-filter (λ (o : OwedBreak). not (nat_eq o.number c.args.number)) IsBreakToNode c.args.owed.now.items h)
