use Rattle.std.proofs.Common.{◌≡◌, ◌∙◌, true, ap, sym, subst, rules}
use Rattle.afs_num.specs.Nodes.{node_number, is_known}
use Rattle.afs_xdr.specs.Words.{IsBytes}
use Rattle.spec_ideal.specs.Tables.{set}
use Rattle.afs_memory.specs.Called.{IsCaller}
use Rattle.afs_memory.specs.declared.memory.KeptReply.{KeptReply}
use Rattle.afs_memory.proofs.Held.{still_called}
use Rattle.afs_memory.proofs.memory.State.keep.Goals as goal

pub invariant_of-self : goal.invariant_of-self
invariant_of-self c =
    let reply : KeptReply = record { caller = c.in-Some.caller; epoch = c.args.epoch; number = c.args.number; reply = c.args.reply } in
    let put : c.put.new.self.table ≡ set c.number.result reply c.args.self.now.kept.table = search rules in
    let known : is_known (node_number c.in-Some.caller) ≡ true = subst IsCaller c.in-Some.is c.requires.caller in
    record {
      called = still_called c.number.result reply c.args.self.now.kept.table c.put.new.self.table put (sym c.number.ensures, (ap is_known c.number.ensures ∙ known, subst IsBytes c.as_slice.ensures c.are_bytes.ensures)) c.args.self.now.called;
    }
