use Rattle.std.proofs.Common.{◌≡◌, rules, List, [], ◌∷◌, ◌++◌, Some, None, ap, sym, subst, ◌∙◌}
use Rattle.afs_num.specs.Nodes.{node_number, node_of}
use Rattle.afs_num.specs.declared.types.Node.{Node}
use Rattle.spec_model.specs.Calls.{call_seat, call_seated}
use Rattle.spec_rows.specs.States.{Seat}
use Rattle.afs_message.specs.Spelled.{reply_in}
use Rattle.afs_saving.specs.Kept.{or_loc}
use Rattle.afs_saving.proofs.Kept.{no_others}
use Rattle.afs_saving.proofs.restoring.keep_again.Goals as goal

pub returns-clause-seats : goal.returns-clause-seats
returns-clause-seats c =
    let key = c.args.key in
    let old = c.args.callers.now.seats in
    let found : node_of (node_number key.node) ≡ Some c.in-Some.node = search rules in
    let same : or_loc (node_of (node_number key.node)) ≡ c.in-Some.node = ap or_loc found in
    let seat : Seat = record { caller = c.in-Some.node; epoch = key.epoch; number = key.number; reply = reply_in (Some c.args.reply.now) } in
    let none : call_seat c.in-Some.node old ≡ None = subst (λ (n : Node). call_seat n old ≡ None) same c.requires.fresh in
    c.in_ok-restore.ensures.seats
    ∙ (ap (call_seated seat) c.in_ok-reserve.ensures.seats
    ∙ (ap (λ (ss : List Seat). ss ++ seat ∷ []) (no_others c.in-Some.node old none)
    ∙ ap (λ (n : Node). old ++ record { caller = n; epoch = key.epoch; number = key.number; reply = reply_in (Some c.args.reply.now) } ∷ []) (sym same)))
