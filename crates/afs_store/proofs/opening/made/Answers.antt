use Rattle.std.proofs.Common.{◌≡◌, ◌+◌, ℕ, List, Some, refl, sym, subst}
use Rattle.std.specs.Option.{option_map}
use Rattle.afs_store.specs.Folds.{wanted_lines}
use Rattle.afs_store.specs.Rereading.{IsMade}
use Rattle.afs_store.specs.Stores.{Stands, StoreOf}
use Rattle.afs_store.proofs.Attached.{kept_folded}
use Rattle.afs_store.proofs.opening.made.Goals as goal

pub of-requires-clause-kept : goal.of-requires-clause-kept
of-requires-clause-kept g c =
    let j = c.args.journal in
    kept_folded g.S.Fold.fold g.met.S.Fold.sound j.gate (g.D.Disk.limit j.disk) (g.D.Disk.size j.disk) (g.S.Fold.fold.held c.in-Ok.state) j.found c.records.result.now (g.D.Disk.seen j.disk) (g.D.Disk.may_leave j.disk)
    (record { same = c.records.ensures; folds = c.in-Ok.ensures.folded }) c.requires.rests (g.met.D.Disk.measures j.disk) c.requires.ends

pub returns-in-Ok-clause-made : goal.returns-in-Ok-clause-made
returns-in-Ok-clause-made g c =
    let k = g.S.Fold.fold in
    let j = c.args.journal in
    subst (λ (s : StoreOf g.row.D.Denot g.row.R.Denot g.row.T.Denot). IsMade (Stands k) k.capacity g.D.Disk.seen g.D.Disk.may_leave g.D.Disk.limit c.args.node j s) (sym c.of.ensures)
    (record {
      rest = refl;
      capacity = g.met.S.Fold.sound.sized (j.gate + 1) (g.D.Disk.limit j.disk) (k.held c.in-Ok.state);
      kept = kept_folded k g.met.S.Fold.sound j.gate (g.D.Disk.limit j.disk) (g.D.Disk.size j.disk) (k.held c.in-Ok.state) j.found c.records.result.now (g.D.Disk.seen j.disk) (g.D.Disk.may_leave j.disk)
          (record { same = c.records.ensures; folds = c.in-Ok.ensures.folded }) c.requires.rests (g.met.D.Disk.measures j.disk) c.requires.ends;
    })

pub returns-in-Ok-clause-lines : goal.returns-in-Ok-clause-lines
returns-in-Ok-clause-lines g c = λ capacity.
    subst (λ (rs : List (List ℕ)). option_map (wanted_lines g.S.Fold.fold c.args.wanted) (g.S.Fold.fold.last_effect c.args.node capacity rs) ≡ Some c.in-Ok.lines) (c.records.ensures) (c.in-Ok.ensures.lines capacity)
