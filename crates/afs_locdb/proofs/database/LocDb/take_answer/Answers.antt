use Rattle.std.proofs.Common.{None, refl, sym, subst}
use Rattle.std.specs.Prelude.{Result, Ok, Err}
use Rattle.spec_history.specs.declared.lines.Outs.{Outs}
use Rattle.afs_locdb.specs.Deciding.{decision_of}
use Rattle.afs_locdb.specs.Handling.{loc_record_decided}
use Rattle.afs_locdb.specs.Seen.{loc_seen}
use Rattle.afs_saving.proofs.Still.{out_of_memory}
use Rattle.afs_locdb.proofs.Wholly.{answered_disk, made_none, none_made, none_recorded, wanting_disk}
use Rattle.afs_locdb.proofs.database.LocDb.take_answer.Goals as goal

pub returns-clause-does : goal.returns-clause-does
returns-clause-does g c =
    let b = c.args.self.now in
    let s = loc_seen b in
    made_none (decision_of s c.args.head.now c.args.decided) b c.answer_decided.new.self c.in_ok-outs.outs (none_recorded s c.args.head.now c.args.decided b.store.durable.boot c.requires.leaves) c.in_ok-outs.ensures

pub returns-clause-disk : goal.returns-clause-disk
returns-clause-disk g c =
    let b = c.args.self.now in
    let s = loc_seen b in
    answered_disk g.D.Disk (decision_of s c.args.head.now c.args.decided) b c.answer_decided.new.self c.in_ok-outs.outs (none_recorded s c.args.head.now c.args.decided b.store.durable.boot c.requires.leaves) c.in_ok-outs.ensures

pub returns-in_err-outs-clause-does : goal.returns-in_err-outs-clause-does
returns-in_err-outs-clause-does g c = none_made (decision_of (loc_seen c.args.self.now) c.args.head.now c.args.decided) c.args.self.now c.answer_decided.new.self c.from_residual.result (out_of_memory c.from_residual.result c.from_residual.ensures.1) c.in_err-outs.ensures

pub returns-in_err-outs-clause-disk : goal.returns-in_err-outs-clause-disk
returns-in_err-outs-clause-disk g c =
    let b = c.args.self.now in
    wanting_disk g.D.Disk (loc_record_decided b.store.durable.boot (decision_of (loc_seen b) c.args.head.now c.args.decided)) b c.answer_decided.new.self c.from_residual.result (out_of_memory c.from_residual.result c.from_residual.ensures.1) c.in_err-outs.ensures
