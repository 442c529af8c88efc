-- A long name goes before its numbers.
use Rattle.std.proofs.Common.{ℕ, List, ◌++◌, ap, codes}
use Rattle.std.specs.Fmt.{decimal}
use Rattle.afs_num.specs.declared.directories.Name.{Name}
use Rattle.spec_model.specs.LineText.{name_text}
use Rattle.afs_text.proofs.Laid.{laid_nowhere, lays_as, lays_stop, lays_then}
use Rattle.afs_text.proofs.bodies.lay_name.Goals as goal

abbrev numbers : Name → List ℕ
numbers n = codes "=" ++ (decimal n.vnode ++ (codes "." ++ decimal n.unique))

pub returns-in_err-make_room : goal.returns-in_err-make_room
returns-in_err-make_room g c = laid_nowhere _ _ _ _ _ _ _ _ _ c.from_residual.ensures.0 c.in_err-make_room.ensures.laid

pub returns-in_err-lay_long : goal.returns-in_err-lay_long
returns-in_err-lay_long g c =
    lays_as _ _ _ _ _ _ _ _ _ (ap (λ (t : List ℕ). name_text t ++ numbers c.args.name.now) c.as_slice-bytes.ensures) (lays_stop (name_text c.as_slice-bytes.result.now) (numbers c.args.name.now) c.args.piece.now _ _ _ _ _ _ _ c.from_residual-in_err-lay_long.ensures.0 c.in_err-lay_long.ensures)

pub returns : goal.returns
returns g c =
    lays_as _ _ _ _ _ _ _ _ _ (ap (λ (t : List ℕ). name_text t ++ numbers c.args.name.now) c.as_slice-bytes.ensures) (lays_then (name_text c.as_slice-bytes.result.now) (numbers c.args.name.now) c.args.piece.now _ _ _ _ _ _ _ _ _ _ c.in_ok-lay_long.ensures c.lay_short.ensures)
