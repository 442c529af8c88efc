-- A file server beside a volume server as a host: its kind, where no volume is held.
use Rattle.std.specs.Prelude.{◌≡◌, ℕ, [], ◌++◌, Bool}
use Rattle.afs_num.specs.declared.messages.Message.{Message}
use Rattle.afs_num.specs.declared.messages.Received.{Received}
use Rattle.afs_num.specs.declared.messages.Received.TheVariants.{Whole}
use Rattle.afs_num.specs.declared.types.Node.{Node}
use Rattle.spec_rows.specs.Hosts.{begun_from, given, restarted, served, Fall, NodeKind, Luck, Outcome}
use Rattle.spec_rows.specs.ServerHosts.{can_start, server_kind, ServerHost}
use Rattle.spec_rows.specs.ServerRow.{begun_after, device_calls, revived}
use Rattle.spec_rows.specs.States.{ServerState}
use Rattle.spec_rows.specs.Steps.{Begun}
use Rattle.spec_fold.specs.Effects.{vanished_lines}
use Rattle.spec_volrows.specs.FileLaws.{IsOpen}
use Rattle.spec_volrows.specs.FileRow.{file_decides, file_row, file_start}

-- with what it begins behind a restart that was interrupted with its record whole: the volumes that vanished in that one are told first
abbrev pub file_begun_again : Node → ServerState → Begun ServerState
file_begun_again me s = record { state = revived s; before = λ ls. vanished_lines me s.lasting.volumes ++ ls }

-- the file server `me`
abbrev pub file_kind : Node → NodeKind ServerState
file_kind me = record {
  me = me;
  device_calls = λ s clock found. device_calls s clock (file_decides me [] s clock found);
  row = file_row me [];
  begun_after = λ s clock m. begun_after me s clock (file_decides me [] s clock (Whole m));
  begun_again = file_begun_again me;
  start = file_start me;
  can_start = can_start;
}

-- Where its volumes are all in service it is the host of a file server alone.
pub record OpenHostsArePlain : Type 0 where
  pub given_found : (me : Node) (h : ServerHost) (clock place : ℕ) (found : Received) → IsOpen h.state → given (file_kind me) h clock place found ≡ given (server_kind me) h clock place found
  pub served_it : (me : Node) (h : ServerHost) (clock place : ℕ) (luck : Luck) (m : Message) → IsOpen h.state → served (file_kind me) h clock place luck m ≡ served (server_kind me) h clock place luck m
  pub begins : (me : Node) (s : ServerState) (after : Bool) (fall : Fall) → IsOpen s → begun_from (file_kind me) s after fall ≡ begun_from (server_kind me) s after fall
  pub starts_again : (me : Node) (h : ServerHost) (clock count : ℕ) (after : Bool) (outcome : Outcome) (fall : Fall) → IsOpen h.state →
      restarted (file_kind me) h clock count after outcome fall ≡ restarted (server_kind me) h clock count after outcome fall
