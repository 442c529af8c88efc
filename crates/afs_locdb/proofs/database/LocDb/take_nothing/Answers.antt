use Rattle.std.proofs.Common.{None, refl, sym, subst}
use Rattle.std.specs.Prelude.{Result, Ok, Err}
use Rattle.spec_history.specs.declared.lines.Outs.{Outs}
use Rattle.spec_rows.specs.LocRow.{drops}
use Rattle.afs_saving.proofs.Still.{out_of_memory}
use Rattle.afs_locdb.proofs.Wholly.{answered_disk, made_none, none_made, wanting_disk}
use Rattle.afs_locdb.proofs.database.LocDb.take_nothing.Goals as goal

pub returns-clause-does : goal.returns-clause-does
returns-clause-does g c = made_none drops c.args.self.now c.pass.new.self c.in_ok-outs.outs refl c.in_ok-outs.ensures

pub returns-clause-disk : goal.returns-clause-disk
returns-clause-disk g c = answered_disk g.D.Disk drops c.args.self.now c.pass.new.self c.in_ok-outs.outs refl c.in_ok-outs.ensures

pub returns-in_err-outs-clause-does : goal.returns-in_err-outs-clause-does
returns-in_err-outs-clause-does g c = none_made drops c.args.self.now c.pass.new.self c.from_residual.result (out_of_memory c.from_residual.result c.from_residual.ensures.1) c.in_err-outs.ensures

pub returns-in_err-outs-clause-disk : goal.returns-in_err-outs-clause-disk
returns-in_err-outs-clause-disk g c = wanting_disk g.D.Disk None c.args.self.now c.pass.new.self c.from_residual.result (out_of_memory c.from_residual.result c.from_residual.ensures.1) c.in_err-outs.ensures
