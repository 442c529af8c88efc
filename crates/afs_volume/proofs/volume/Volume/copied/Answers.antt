use Rattle.std.proofs.Common.{nat_eq, sym, subst, ◌≡◌, true}
use Rattle.indexmap.specs.IndexMap as maps
use Rattle.afs_num.specs.declared.vnodes.Vnode as image
use Rattle.spec_ideal.specs.Tables.{Table}
use Rattle.spec_ideal.specs.Volumes.{blocks_in}
use Rattle.spec_records.specs.Sound.{is_sound}
use Rattle.afs_volume.specs.Listed.{Lists}
use Rattle.afs_volume.specs.Seen.{all_seen, volume_seen, AreReadable}
use Rattle.afs_volume.proofs.Soundly.{same_vnodes}
use Rattle.afs_volume.proofs.volume.Volume.copied.Goals as goal

pub share-requires : goal.share-requires
share-requires c = subst (λ (t : Table image.Vnode). Lists (maps.get nat_eq c.args.self.now.dirs.dirs) (all_seen t)) (sym c.in_ok-vnodes.ensures) c.args.self.now.listed

pub invariant_of-result : goal.invariant_of-result
invariant_of-result c =
    let v = c.args.self.now in
    let same = sym c.in_ok-vnodes.ensures in
    record {
      fits = c.requires.fits;
      readable = subst AreReadable same v.readable;
      listed = c.in_ok-dirs.ensures;
      counted = subst (λ (t : Table image.Vnode). v.blocks ≡ blocks_in (all_seen t)) same v.counted;
      sound = subst (λ (t : Table image.Vnode). is_sound (volume_seen c.args.head t) ≡ true) same (same_vnodes v.head c.args.head v.vnodes.table v.readable c.requires.unique v.sound);
    }
