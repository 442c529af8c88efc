use Rattle.std.proofs.Common.{ℕ, ◌++◌, ap, sym, map, Option}
use Rattle.spec_ideal.specs.Tables.{Table}
use Rattle.spec_records.specs.Durable.{outcome_versions}
use Rattle.afs_volume.specs.Seen.{volume_seen}
use Rattle.afs_memory.specs.Telling.{outcomes_seen, version_within}
use Rattle.afs_shelves.proofs.Lists.{on_ok}
use Rattle.afs_shelves.proofs.Lists.{drop_none}
use Rattle.afs_memory.proofs.Told.{one_told}
use Rattle.afs_memory.proofs.lines.tell_at.Goals as goal

pub returns-in-Some : goal.returns-in-Some
returns-in-Some c =
    on_ok c.tell_one.result _ _
    (λ told. one_told c.args.volume.now.head.id (volume_seen c.args.volume.now.head c.args.volume.now.vnodes.table) c.args.images.now c.args.outcomes.now.table c.args.place c.in-Some.item.now.0 c.in-Some.item.now.1 c.args.versions.now c.tell_one.new.versions (sym c.in-Some.ensures.value) told)
    c.tell_one.ensures

pub returns-in-None : goal.returns-in-None
returns-in-None c =
    ap (λ (t : Table (Option ℕ)). c.args.versions.now ++ map version_within (outcome_versions c.args.volume.now.head.id (volume_seen c.args.volume.now.head c.args.volume.now.vnodes.table) (outcomes_seen c.args.images.now t)))
    (drop_none c.args.outcomes.now.table c.args.place (sym c.in-None.ensures.value))
