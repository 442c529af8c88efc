use Rattle.std.proofs.Common.{refl, sym, subst, inl, inr}
use Rattle.spec_history.specs.declared.scripts.Script.{Script}
use Rattle.afs_generate.specs.Generated.{generated}
use Rattle.afs_grammar.specs.CellScripts.{IsCellScript}
use Rattle.afs_cell.specs.Replays.{LendingLeaves, SetUpLeaves}
use Rattle.afs_top.proofs.Calls.{ends_as_made}
use Rattle.afs_top.proofs.made.make_and_play.Goals as goal

pub play_made-requires : goal.play_made-requires
play_made-requires g c = record {
  script = subst (λ (s : Script). IsCellScript s) (sym c.in-Ok.ensures) (c.generated_are_of_cells.ensures c.args.number);
}

pub returns-in-Ok : goal.returns-in-Ok
returns-in-Ok g c =
    inr (ends_as_made c.args.number c.in-Ok.script (generated c.args.number) c.in-Ok.ensures _ (SetUpLeaves g.B.D.Disk.seen g.B.D.Disk.may_leave g.B.D.Disk.faults) (LendingLeaves g.B.D.Disk.seen g.B.D.Disk.faults g.B.D.Disk.limit) _ c.play_made.result c.play_made.ensures)

pub returns-in-Err : goal.returns-in-Err
returns-in-Err g c = inl (refl, record { sink = refl; lends = refl; given = refl })
