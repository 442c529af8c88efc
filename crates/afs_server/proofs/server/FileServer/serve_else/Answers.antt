use Rattle.std.proofs.Common.{◌≡◌, [], rules}
use Rattle.afs_num.specs.declared.calls.FsCall.TheVariants as calls
use Rattle.afs_server.specs.Handling.{holds_seen, server_seen}
use Rattle.afs_decisions.proofs.Admitting.{time_told}
use Rattle.afs_server.proofs.server.FileServer.serve_else.Goals as goal

pub returns-in-GetTime : goal.returns-in-GetTime
returns-in-GetTime g c =
    let is : c.args.call.now ≡ calls.GetTime = c.in-GetTime.is in
    let none : c.none.result ≡ [] = c.none.ensures in
    let opcode = c.requires.call.opcode in
    record {
      decides = time_told (holds_seen c.args.store.now) (server_seen c.args.self.now c.args.store.now) c.args.now c.args.head.now c.args.user.now c.args.call.now c.none.result is none;
      told = search (rules, opcode, is);
      fits = search (rules, none);
    }
