use Rattle.std.proofs.Common.{ap, sym, ◌∙◌}
use Rattle.std.specs.List.{list_all}
use Rattle.spec_records.specs.Sound.{gives_one}
use Rattle.afs_volume.specs.Seen.{seen}
use Rattle.afs_patch.specs.Patching.{after, gives_touched}
use Rattle.afs_patch.proofs.Patches.{gives_left}
use Rattle.afs_patch.proofs.patching.Patch.gives_still.Goals as goal

pub returns-in-Some : goal.returns-in-Some
returns-in-Some c = λ e.
    let touched = c.args.self.now.touched.now in
    let w = after c.args.self.now.volume.now c.args.self.now.change.now in
    let unique = (seen c.args.d.now).unique in
    let kept = rw c.in-Some.is at c.requires.kept in
    let there = rw c.in-Some.is at c.requires.there in
    let tested = ap (list_all (gives_touched touched w c.args.number unique)) (sym c.requires.names) ∙ (sym c.gives_all_touched.ensures ∙ e) in
    ap (list_all (gives_one w c.args.number unique)) c.requires.names
    ∙ gives_left c.args.number touched c.args.self.now.volume.now c.args.self.now.change.now (seen c.in-Some.field-0.now) (seen c.args.d.now) c.requires.touched (sym there) kept.0 kept.1 tested
