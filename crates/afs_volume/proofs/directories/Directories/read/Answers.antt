use Rattle.std.proofs.Common.{nat_eq, sym, ◌∙◌, rules}
use Rattle.indexmap.specs.IndexMap as maps
use Rattle.afs_volume.specs.Assembling.{reads_pair}
use Rattle.afs_volume.proofs.Listing.{none_yet}
use Rattle.afs_volume.proofs.Readable.{end_readable, one_more_readable}
use Rattle.afs_volume.proofs.Walked.{goes_on, stops}
use Rattle.afs_volume.proofs.directories.Directories.read.Goals as goal

pub loop-place-init : goal.loop-place-init
loop-place-init c = record { listed = none_yet (maps.get nat_eq c.new-dirs.result.dirs) c.args.vnodes.now.table c.new-dirs.ensures; value = search rules; readable = search rules }

pub loop-place-preserved : goal.loop-place-preserved
loop-place-preserved c =
    let t = c.args.vnodes.now.table in
    record {
      listed = c.in_ok-read_place.ensures.listed;
      value = goes_on reads_pair t c.loop-place.place c.in_ok-read_place.ensures.read ∙ c.loop-place.invariant.value;
      readable = one_more_readable t c.loop-place.place c.loop-place.invariant.readable c.in_ok-read_place.ensures.readable;
    }

pub returns-in_err-read_place-clause-not_sound : goal.returns-in_err-read_place-clause-not_sound
returns-in_err-read_place-clause-not_sound c e =
    sym c.loop-place.invariant.value ∙ stops reads_pair c.args.vnodes.now.table c.loop-place.place (c.in_err-read_place.ensures.not_sound (search rules))

pub returns-clause-readable : goal.returns-clause-readable
returns-clause-readable c = end_readable c.args.vnodes.now.table c.loop-place.place (search rules) c.loop-place.invariant.readable
