use Rattle.std.proofs.Common.{◌≡◌, List, Option, ℕ, true, is_some, nat_eq, refl, sym, subst, rules}
use Rattle.std.specs.Prelude.{◌&&◌}
use Rattle.afs_num.specs.declared.calls.FsCall.TheVariants as calls
use Rattle.spec_ideal.specs.Operations.{by_tests, effect, is_directory, vnode_in}
use Rattle.spec_ideal.specs.Volumes.{vnode_of}
use Rattle.afs_reads.specs.Replying.{caller_seen}
use Rattle.afs_changes.specs.Planning.{takes_place, Plans}
use Rattle.afs_volume.specs.Giving.{volume_of}
use Rattle.afs_changes.proofs.Renamed.{behind_kinds}
use Rattle.afs_changes.proofs.renaming.rename_in.Goals as goal

pub returns : goal.returns
returns c =
    let v = volume_of c.args.volume.now in
    let d = c.args.from.now.fid.now in
    let e = c.args.to.now.fid.now in
    let old : List ℕ = c.args.from.now.name.now in
    let new : List ℕ = c.args.to.now.name.now in
    let caller = caller_seen c.args.caller.now in
    let from : is_some (vnode_of d v) ≡ true = rw c.requires.from refl in
    let to : is_some (vnode_of e v) ≡ true = rw c.requires.to refl in
    let both : (is_directory (vnode_of d v) && is_directory (vnode_of e v)) ≡ true = rw (c.requires.from, c.requires.to) c.requires.directories in
    let source : takes_place (vnode_in d old v) (vnode_in e new v) ≡ true = search rules in
    let target : takes_place (vnode_in e new v) (vnode_in d old v) ≡ true = search rules in
    let writable : nat_eq v.kind 0 ≡ true = search rules in
    subst (λ (o : Option ℕ). Plans (by_tests o (effect caller (calls.Rename d old e new) v)) c.moves.result) (sym (behind_kinds caller d e old new v c.requires.within from to both source target writable)) c.moves.ensures
