-- Each goes on behind those before it.
use Rattle.std.proofs.Common.{ℕ, ◌++◌, List, codes}
use Rattle.std.specs.List.{flat_map}
use Rattle.afs_num.specs.declared.directories.Name.{Name}
use Rattle.spec_model.specs.LineText.{entry_name_text, more_names_text}
use Rattle.afs_text.proofs.Laid.{lays_end, lays_item, lays_itself, lays_last, lays_more, lays_no_more}
use Rattle.afs_text.proofs.bodies.lay_more_names.Goals as goal

abbrev more : List Name → List ℕ
more ns = flat_map (λ (n : Name). codes "," ++ entry_name_text n) ns

pub loop-name-init : goal.loop-name-init
loop-name-init g c = lays_itself _ _ _ _

pub loop-name-preserved : goal.loop-name-preserved
loop-name-preserved g c =
    lays_more (codes "," ++ entry_name_text c.name-item.result) _ _ _ _ _ _ _ _ _ _ _ _ (lays_item more _ _ _ _ _ _ _ _ _ _ _ c.loop-name-test.true c.name-item.is c.loop-name.invariant) c.in_ok-lay_next_name.ensures

pub returns-in_err-lay_next_name : goal.returns-in_err-lay_next_name
unfolding more_names_text
returns-in_err-lay_next_name g c =
    lays_no_more (codes "," ++ entry_name_text c.name-item.result) _ _ _ c.loop-name.piece _ _ _ _ _ _ _ _ _ (lays_item more _ _ _ _ _ _ _ _ _ _ _ c.loop-name-test.true c.name-item.is c.loop-name.invariant) c.from_residual.ensures.0 c.in_err-lay_next_name.ensures

pub returns : goal.returns
unfolding more_names_text
returns g c = lays_end _ _ _ _ _ _ _ _ (lays_last more _ _ _ _ _ _ _ _ _ c.loop-name-test.false c.loop-name.invariant)
