use Rattle.std.proofs.Common.{◌≡◌, Some, map, refl, sym, ap, ◌∙◌}
use Rattle.spec_records.specs.Changes.{stored_between}
use Rattle.afs_laying.specs.Filled.{at_once}
use Rattle.afs_changes.specs.Planning.{edits_seen}
use Rattle.afs_volume.specs.Giving.{volume_of}
use Rattle.afs_volume.specs.Listed.{listed_as}
use Rattle.afs_volume.specs.Taking.{stored_of}
use Rattle.afs_laying.proofs.AtFirst.{each_fits, each_readable, laid_now, laid_volume, listed_first}
use Rattle.afs_laying.proofs.AtSetUp.{laid_at_set_up}
use Rattle.afs_changes.proofs.Changed.{next_low}
use Rattle.afs_laying.proofs.laying.lay_edits.Goals as goal

pub draft_of-requires : goal.draft_of-requires
draft_of-requires c = c.requires.drawn

pub unique_left-unique-requires : goal.unique_left-unique-requires
unique_left-unique-requires c = next_low (volume_of c.args.volume.now) (edits_seen c.args.edits.now) c.requires.fits

pub take-requires-clause-taken : goal.take-requires-clause-taken
take-requires-clause-taken c =
    rw (laid_now c.args.volume.now c.make_room.new.self (edits_seen c.args.edits.now) c.in_ok-draft.draft c.unique_left-unique.result c.in_ok-vnodes.vnodes c.requires
    (record { time = c.in_ok-draft.ensures.time; versions = c.in_ok-draft.ensures.versions; vnodes = c.in_ok-draft.ensures.vnodes; removed = c.in_ok-draft.ensures.removed; images = c.in_ok-draft.ensures.images })
    c.unique_left-unique.ensures c.in_ok-vnodes.ensures c.in_ok-make_room.ensures.head c.in_ok-make_room.ensures.vnodes) refl

pub take-requires-clause-read : goal.take-requires-clause-read
take-requires-clause-read c = rw c.in_ok-vnodes.ensures (each_readable c.in_ok-draft.draft.vnodes c.in_ok-draft.ensures.images)

pub take-requires-clause-fits : goal.take-requires-clause-fits
take-requires-clause-fits c = rw c.in_ok-vnodes.ensures (each_fits c.in_ok-draft.draft.vnodes c.in_ok-draft.ensures.images)

pub take-requires-clause-names : goal.take-requires-clause-names
take-requires-clause-names c = c.into_vec.ensures ∙ (c.in_ok-draft.ensures.names ∙ (sym (listed_first c.in_ok-draft.draft.vnodes) ∙ ap (map listed_as) (sym c.in_ok-vnodes.ensures)))

kept : (c : goal.After-take) → Some (stored_between 0 (edits_seen c.args.edits.now) (at_once c.args.volume.now.head.id (edits_seen c.args.edits.now) (volume_of c.args.volume.now)) (stored_of c.args.volume.now)) ≡ Some (stored_of c.take.new.self)
kept c =
    sym (laid_now c.args.volume.now c.make_room.new.self (edits_seen c.args.edits.now) c.in_ok-draft.draft c.unique_left-unique.result c.in_ok-vnodes.vnodes c.requires
    (record { time = c.in_ok-draft.ensures.time; versions = c.in_ok-draft.ensures.versions; vnodes = c.in_ok-draft.ensures.vnodes; removed = c.in_ok-draft.ensures.removed; images = c.in_ok-draft.ensures.images })
    c.unique_left-unique.ensures c.in_ok-vnodes.ensures c.in_ok-make_room.ensures.head c.in_ok-make_room.ensures.vnodes)
    ∙ c.take.ensures.stored

pub returns-clause-ok : goal.returns-clause-ok
returns-clause-ok c = laid_volume c.args.volume.now c.take.new.self (edits_seen c.args.edits.now) (kept c)

pub returns-clause-times : goal.returns-clause-times
returns-clause-times c = laid_at_set_up c.args.volume.now c.take.new.self (edits_seen c.args.edits.now) (kept c)
