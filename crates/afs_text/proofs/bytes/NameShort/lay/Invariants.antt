use Rattle.std.proofs.Common.{◌≡◌, ◌≤◌, ◌*◌, length, take}
use Rattle.std.specs.List.{flat_map}
use Rattle.spec_model.specs.LineText.{name_byte}
use Rattle.afs_text.specs.Laying.{LaysAt}
use Rattle.afs_text.proofs.bytes.NameShort.lay.Given as goal

abbrev pub invariant-loop-b : goal.invariant-loop-b
invariant-loop-b l = record {
  laid : LaysAt (flat_map name_byte (take l.b-index l.fn.self.0.now)) l.at l.fn.bytes l.bytes l.end;
  few : length (flat_map (name_byte) (take l.b-index l.fn.self.0.now)) ≤ 3 * l.b-index;
}
