use Rattle.std.proofs.Common.{◌≡◌, ◌≤◌, ◌+◌, ◌*◌, ◌-◌, [], true, length}
use Rattle.afs_xdr.specs.Reading.{KeepsEnd}
use Rattle.spec_shape.proofs.Loops.{with_front}
use Rattle.spec_ideal.specs.Directories.{follow, names_at}
use Rattle.afs_dir.specs.Reads.{last_name}
use Rattle.afs_dir.proofs.reading.read_names.Given as goal

-- the names so far and those still to read are all
abbrev pub invariant-loop : goal.invariant-loop
invariant-loop l = record {
  all : with_front l.names.items (names_at (l.count - l.counter) (last_name [] l.names.items) l.reader.left) ≡ names_at l.count [] l.fn.reader.left;
  ordered : follow [] l.names.items ≡ true;
  many : length l.names.items ≡ l.counter;
  end : KeepsEnd l.fn.reader l.reader;
  far : l.reader.at ≤ l.fn.reader.at + 270 * l.counter;
}
