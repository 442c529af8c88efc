-- What the disk of a server node that is down stands for.
use Rattle.std.specs.Prelude.{ℕ, List, Bool}
use Rattle.afs_num.specs.declared.messages.Received.TheVariants.{Whole}
use Rattle.afs_num.specs.declared.records.Mark.{Mark}
use Rattle.afs_num.specs.declared.records.StoreRecord.{StoreRecord}
use Rattle.afs_num.specs.declared.types.Node.{Node}
use Rattle.afs_journal.specs.Records.{whole_records}
use Rattle.spec_records.specs.Durable.{Durable}
use Rattle.spec_rows.specs.Hosts.{Fall}
use Rattle.spec_rows.specs.States.{Lasting}
use Rattle.afs_readying.specs.declared.prepared.Prepared.{Prepared}
use Rattle.afs_volstore.specs.VolumeFold.{volume_fold}
use Rattle.afs_volstore.specs.declared.held.Held.{Held}
use Rattle.afs_server.specs.Seen.{begun_state}
use Rattle.spec_volrows.specs.NodeHosts.{node_kind}
use Rattle.spec_volrows.specs.VolStates.{fresh_vol, NodeState}
use Rattle.afs_node.specs.Handling.{node_record}
use Rattle.afs_sharing.specs.Lasting.{lasting_of}
use Rattle.afs_host.specs.Standing.{Keeping, IsKeptAs, IsKeptFound, IsKeptIn}

-- over what a restart finds: the volume server begins with the callers to whom the disk keeps replies
abbrev pub begun_node : Durable → NodeState
begun_node d = record { file = begun_state d; vol = fresh_vol (lasting_of d).kept }

abbrev pub server_keeping : Node → Keeping StoreRecord Durable Held Prepared Lasting NodeState
server_keeping me = record {
  kind = node_kind me;
  fold = volume_fold;
  read = lasting_of;
  lasting = λ s. s.file.lasting;
  capacity = λ l. l.capacity;
  boot = λ l. l.boot;
  decided = λ s clock m. node_record me s clock (Whole m);
  begun = begun_node;
}

abbrev pub LiesAs : Node → NodeState → Fall → Mark → Bool → List (List ℕ) → Type 0
LiesAs me s fall mark after records = IsKeptAs (server_keeping me) s fall mark after records

abbrev pub LiesFound : Node → NodeState → Fall → Mark → List (List ℕ) → Type 0
LiesFound me s fall mark records = IsKeptFound (server_keeping me) s fall mark records

abbrev pub LiesIn : Node → NodeState → Fall → Mark → List (List ℕ) → Type 0
LiesIn me s fall mark records = IsKeptIn (server_keeping me) s fall mark records

-- so it is of the whole records of these bytes
abbrev pub Lies : Node → NodeState → Fall → Mark → List ℕ → Type 0
Lies me s fall mark bytes = LiesIn me s fall mark (whole_records bytes)
