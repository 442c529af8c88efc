use Rattle.std.proofs.Common.{◌≡◌, ℕ, Bool, List, IfSome, nat_eq, ap, subst, sym, ◌∙◌}
use Rattle.std.specs.Prelude.{◌&&◌, not}
use Rattle.afs_num.specs.declared.volumes.VolumeHead.{VolumeHead}
use Rattle.spec_ideal.specs.Images.{Image}
use Rattle.afs_vnode.specs.Stores.{Held}
use Rattle.afs_volume.specs.Seen.{AreReadable}
use Rattle.afs_restore.specs.Filling.{filled, given_in, AreMade}
use Rattle.afs_restore.specs.Parts.{dump_in}
use Rattle.afs_restore.proofs.Given.{dump_good, dump_list}
use Rattle.afs_restore.proofs.Making.{anew_for, makes}
use Rattle.afs_restore.proofs.Restored.{head_with}
use Rattle.afs_restore.proofs.restoring.made.Goals as goal

pub filled-requires-clause-readable : goal.filled-requires-clause-readable
filled-requires-clause-readable c = subst (λ (s : Held). AreReadable s.table) (sym c.vnodes.ensures) c.args.old.now.readable

pub filled-requires-clause-good : goal.filled-requires-clause-good
filled-requires-clause-good c = rw (c.as_slice-live.ensures.value, c.as_slice.ensures.value) (dump_good (dump_in c.args.parts.now) c.requires)

pub assembled-requires-clause-listed : goal.assembled-requires-clause-listed
assembled-requires-clause-listed c = rw c.as_slice-live.ensures.value (dump_list (dump_in c.args.parts.now) c.requires)

pub returns-clause-value : goal.returns-clause-value
returns-clause-value c =
    let p = c.args.parts.now in
    let old = c.args.old.now in
    let told = p.headers.told in
    let live = c.as_slice-live.result.now in
    let images = c.as_slice.result.now in
    let all : c.in_ok-vnodes.vnodes ≡ filled (anew_for old told) old.vnodes.table p.live.items (given_in p.live.items p.images.items) =
    c.in_ok-vnodes.ensures.value
    ∙ (ap (λ (b : Bool). filled b c.vnodes.result.now.table live (given_in live images)) (c.is_other_family-anew.ensures ∙ ap (λ (h : VolumeHead). nat_eq h.kind 0 && not (nat_eq h.id told.family)) c.head.ensures.value)
    ∙ (ap (λ (s : Held). filled (anew_for old told) s.table live (given_in live images)) c.vnodes.ensures
    ∙ (ap (λ (ps : List (ℕ × ℕ)). filled (anew_for old told) old.vnodes.table ps (given_in ps images)) c.as_slice-live.ensures.value
    ∙ ap (λ (is : List Image). filled (anew_for old told) old.vnodes.table p.live.items (given_in p.live.items is)) c.as_slice.ensures.value))) in
    makes p old c.in_ok-vnodes.vnodes c.in_ok-head.head c.assembled.result c.requires
    (c.in_ok-head.ensures ∙ ap (λ (h : VolumeHead). head_with h told) c.head-2.ensures.value)
    all
    (subst (λ (ps : List (ℕ × ℕ)). IfSome c.in_ok-vnodes.vnodes (AreMade ps)) c.as_slice-live.ensures.value c.in_ok-vnodes.ensures.made)
    c.assembled.ensures.ok c.assembled.ensures.not_sound
