use Rattle.std.proofs.Common.{◌≡◌, ◌++◌, drop, map}
use Rattle.std.specs.List.{AllByRecursion}
use Rattle.afs_changes.specs.Drawing.{all_freed, all_left, all_told, shown_by, CanBeDrawn, IsLeft}
use Rattle.afs_changes.specs.Planning.{edits_seen}
use Rattle.afs_volume.specs.Giving.{volume_of}
use Rattle.afs_volume.specs.Listed.{listed_as}
use Rattle.afs_changes.proofs.drafting.draft_of.Given as goal

abbrev pub invariant-loop-edit : goal.invariant-loop-edit
invariant-loop-edit l = record {
  time : l.draft.time ≡ l.fn.time;
  versions : l.draft.versions ++ all_told l.volume.head.id (volume_of l.volume) (edits_seen (drop l.edit-index l.edits)) ≡ all_told l.volume.head.id (volume_of l.volume) (edits_seen l.edits);
  vnodes : shown_by l.draft.vnodes ++ all_left (volume_of l.volume) (edits_seen (drop l.edit-index l.edits)) ≡ all_left (volume_of l.volume) (edits_seen l.edits);
  removed : l.draft.removed ++ all_freed (volume_of l.volume) (edits_seen (drop l.edit-index l.edits)) ≡ all_freed (volume_of l.volume) (edits_seen l.edits);
  images : AllByRecursion (IsLeft l.draft.time) l.draft.vnodes;
  names : l.draft.names ≡ map listed_as l.draft.vnodes;
  fit : AllByRecursion (CanBeDrawn (volume_of l.volume)) (edits_seen (drop l.edit-index l.edits));
}
