use Rattle.std.proofs.Common.{◌≡◌, false, rules, sym, ap, ◌∙◌}
use Rattle.std.specs.Prelude.{is_some}
use Rattle.spec_rows.specs.Callbacks.{starts_by}
use Rattle.afs_callees.specs.Called.{call_to}
use Rattle.afs_server_parts.specs.Turning.{started_with}
use Rattle.afs_server_parts.proofs.Turning.{not_waiting}
use Rattle.afs_server_parts.proofs.pumping.start_by.Goals as goal

pub returns-clause-started : goal.returns-clause-started
returns-clause-started c l hs q =
    let none : is_some (call_to c.args.calls.now.callees.items c.args.oldest.now.client) ≡ false = search rules in
    c.in_ok-start.ensures.started l hs q
    ∙ ap (starts_by c.args.stand.node c.args.stand.boot (started_with l hs c.args.calls.now) c.args.oldest.now) (sym (not_waiting (call_to c.args.calls.now.callees.items c.args.oldest.now.client) none))
