use Rattle.std.proofs.Common.{◌≡◌, rules, sym, ◌∙◌}
use Rattle.afs_num.specs.Nodes.{node_number}
use Rattle.spec_ideal.specs.Tables.{get}
use Rattle.spec_model.specs.Calls.{call_seat}
use Rattle.spec_rows.specs.Callbacks.{is_seat_of}
use Rattle.afs_sharing.specs.Callers.{is_answer_to}
use Rattle.afs_sharing.specs.Lasting.{lasting_of}
use Rattle.afs_sharing.proofs.Repeating.{found_answer, last_change}
use Rattle.afs_sharing.proofs.answering.is_last_change.Goals as goal

pub returns : goal.returns
returns g c =
    let m = c.args.reply.now in
    let durable = c.args.store.now.durable in
    let found = found_answer m c.kept-kept.result (get (node_number m.head.to) durable.kept) (search rules) (search rules) in
    let law : is_answer_to m.head c.kept-kept.result ≡ is_seat_of m (call_seat m.head.to (lasting_of durable).kept) = found ∙ sym (last_change m m.head.to durable.kept c.requires.node c.requires.kept) in
    search (rules, law)
