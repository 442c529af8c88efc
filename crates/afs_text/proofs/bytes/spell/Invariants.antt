use Rattle.std.proofs.Common.{◌≡◌, ◌-◌, ◌≤◌, take, drop, map, length, false}
use Rattle.std.specs.Fmt.{digit_glyph}
use Rattle.afs_text.proofs.bytes.spell.Given as goal

abbrev pub invariant-loop-i : goal.invariant-loop-i
invariant-loop-i l = record {
  done : take l.i l.halves ≡ map (digit_glyph false) (take l.i l.fn.halves);
  left : drop l.i l.halves ≡ drop l.i l.fn.halves;
  within : l.i ≤ length l.halves;
  long : length l.halves ≡ length l.fn.halves;
}

abbrev pub decreases-loop-i : goal.decreases-loop-i
decreases-loop-i l = length l.halves - l.i
