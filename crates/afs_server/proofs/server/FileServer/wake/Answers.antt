use Rattle.std.proofs.Common.{◌≡◌, ◌≤◌, ◌+◌, [], arith, sym, subst}
use Rattle.spec_breaks.specs.Promises.{Lists}
use Rattle.spec_rows.specs.Callbacks as row
use Rattle.spec_rows.specs.Callbacks.{no_turn}
use Rattle.afs_server.specs.Handling.{server_seen}
use Rattle.afs_server.specs.Seen.{backs_seen}
use Rattle.afs_server.proofs.Drawn.{drawn_after, lists_after}
use Rattle.afs_callbacks.proofs.Lasting.{lasting_to_nodes}
use Rattle.afs_sharing.proofs.Drawn.{breaks_drawn, expired_draws}
use Rattle.afs_server.proofs.server.FileServer.wake.Goals as goal

pub returns-clause-draws : goal.returns-clause-draws
returns-clause-draws g c =
    let old = c.args.self.now in
    let store = c.args.store.now in
    let turn = no_turn (row.expired c.args.now (backs_seen old store.drawn)) in
    let made = c.in_ok-outs.ensures.0 in
    let drawn = drawn_after store.node (server_seen old store) [] [] turn c.pass.new.self c.pass.new.store c.in_ok-outs.outs made (lasting_to_nodes c.args.now old.lists.owed c.requires.serves.owed) in
    let lists = lists_after store.node (server_seen old store) [] [] turn c.pass.new.self c.pass.new.store c.in_ok-outs.outs made in
    (omega (arith, drawn), subst (λ (l : Lists). breaks_drawn l ≤ breaks_drawn old.lists) (sym lists) (expired_draws c.args.now old.lists))
