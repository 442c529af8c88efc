use Rattle.std.proofs.Common.{◌≡◌, ◌+◌, ◌*◌, ◌≤◌, ◌-◌, ◌++◌, take, length, vec_len}
use Rattle.std.specs.Vec.{vec_capacity}
use Rattle.afs_xdr.specs.Words.{words}
use Rattle.afs_xdr.proofs.writing.with_words.Given as goal

abbrev pub invariant-loop-n : goal.invariant-loop-n
invariant-loop-n l = record {
  written : l.out.items ≡ l.fn.bytes.items ++ words (take l.n-index l.ns);
  room : vec_len l.out + 4 * (length l.ns - l.n-index) ≤ vec_capacity l.out;
}
