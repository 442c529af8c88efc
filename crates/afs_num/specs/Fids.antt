-- Equality and order of fids, as tests.
use Rattle.std.specs.Prelude.{Bool, ◌&&◌, ◌==◌}
use Rattle.std.specs.declared.cmp.Ordering.{Ordering}
use Rattle.std.specs.Ordering.{nat_cmp, ordering_then}
use Rattle.afs_num.specs.declared.types.Fid.{Fid}

abbrev pub same_fid : Fid → Fid → Bool
same_fid f g = (f.volume == g.volume) && ((f.vnode == g.vnode) && (f.unique == g.unique))

-- by volume, then by vnode, then by unique
abbrev pub fid_order : Fid → Fid → Ordering
fid_order f g = ordering_then (nat_cmp f.volume g.volume) (ordering_then (nat_cmp f.vnode g.vnode) (nat_cmp f.unique g.unique))
