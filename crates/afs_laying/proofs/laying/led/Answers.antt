use Rattle.std.proofs.Common.{◌≡◌, ◌∷◌, ◌+◌, ◌∙◌, refl, drop, true, Some, None, ap, sym, rules}
use Rattle.spec_ideal.specs.Directories.{named}
use Rattle.spec_ideal.specs.Operations.{is_kind, named_vnode, number_named}
use Rattle.spec_ideal.specs.SetUp.{led_to}
use Rattle.spec_ideal.specs.Tables.{get}
use Rattle.spec_ideal.specs.Volumes.{a_directory}
use Rattle.afs_laying.specs.Filled.{found_seen}
use Rattle.afs_volume.specs.Giving.{volume_of}
use Rattle.afs_volume.specs.Seen.{seen}
use Rattle.afs_laying.proofs.Led.{begins, goes, nowhere}
use Rattle.afs_volume.proofs.Walked.{from_place}
use Rattle.afs_laying.proofs.laying.led.Goals as goal

pub loop-name-init : goal.loop-name-init
loop-name-init c =
    let v = volume_of c.args.volume.now in
    let there : Some (seen c.in-Some.root.now) ≡ get 1 v.vnodes = search rules in
    record { leads = begins c.args.volume.now.head.id v c.args.path.now c.in-Some.root.now there (search rules); there = search rules }

pub returns-in_default-clause-leads : goal.returns-in_default-clause-leads
returns-in_default-clause-leads c =
    let v = volume_of c.args.volume.now in
    let none : None ≡ get 1 v.vnodes = search rules in
    rw (nowhere c.args.volume.now.head.id v c.args.path.now none) refl

pub loop-name-preserved : goal.loop-name-preserved
loop-name-preserved c =
    let v = volume_of c.args.volume.now in
    let id = c.args.volume.now.head.id in
    let at = c.loop-name.at.now in
    let x = c.in-Some-named.x.now in
    let name = c.as_slice.result.now in
    let i = c.loop-name.name-index in
    let rest = drop (i + 1) c.args.path.now in
    let first : drop i c.args.path.now ≡ name ∷ rest = search (rules, from_place c.args.path.now i name) in
    let directory : is_kind (seen at).kind a_directory ≡ true = search rules in
    let found : Some (seen x) ≡ named_vnode v (named name (seen at).names) = search rules in
    let number : x.vnode ≡ number_named (named name (seen at).names) = search rules in
    record {
      leads = sym (goes id v name rest at x directory found number) ∙ (ap (λ names. led_to id v names (found_seen id at)) (sym first) ∙ c.loop-name.invariant.leads);
      there = search rules;
    }
