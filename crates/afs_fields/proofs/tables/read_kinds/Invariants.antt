use Rattle.std.proofs.Common.{◌≡◌, ◌+◌, drop, length}
use Rattle.afs_xdr.specs.Reading.{KeepsEnd}
use Rattle.spec_shape.specs.Reading.{fields_at}
use Rattle.spec_shape.proofs.Loops.{with_front}
use Rattle.afs_fields.proofs.tables.read_kinds.Given as goal

-- the fields so far and those still to read are all
abbrev pub invariant-loop-kind : goal.invariant-loop-kind
invariant-loop-kind l = record {
  place : l.place ≡ l.kind-index + 1;
  count : length l.fields ≡ l.kind-index;
  all : with_front l.fields (fields_at l.place (drop l.kind-index l.kinds) l.r.left) ≡ fields_at 1 l.kinds l.fn.r.left;
  end : KeepsEnd l.fn.r l.r;
}
