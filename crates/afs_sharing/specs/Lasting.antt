-- What the disk of a server keeps, as the rows have it.
use Rattle.std.specs.Prelude.{map}
use Rattle.spec_records.specs.Durable.{Durable}
use Rattle.spec_rows.specs.States.{Lasting}
use Rattle.afs_saving.specs.Kept.{seat_kept, AreToNodes}

-- a kept reply's bytes as the message that is read in them
abbrev pub lasting_of : Durable → Lasting
lasting_of d = record {
  boot = d.boot;
  volumes = d.volumes;
  stamps = d.stamps;
  forwardings = d.forwardings;
  kept = map seat_kept d.kept;
  journal = d.journal;
  capacity = d.capacity;
}

-- each kept reply is one to a node of the cell
abbrev pub KeepsForNodes : Durable → Type 0
KeepsForNodes d = AreToNodes d.kept
