use Rattle.std.proofs.Common.{◌≡◌, ◌+◌, ◌<◌, ◌≤◌, ℕ, length}
use Rattle.std.specs.List.{slice_index_or}
use Rattle.afs_num.specs.declared.types.Parcel.{Parcel}
use Rattle.afs_wire.proofs.wire.bring_forward.Given as goal

abbrev pub invariant-loop-i : goal.invariant-loop-i
invariant-loop-i l = record {
  len : length l.parcels ≡ length l.fn.parcels;
  front : (k : ℕ) (d : Parcel) → k < l.i → slice_index_or l.parcels k d ≡ slice_index_or l.fn.parcels (k + l.first) d;
  behind : (k : ℕ) (d : Parcel) → l.i + l.first ≤ k → slice_index_or l.parcels k d ≡ slice_index_or l.fn.parcels k d;
}
