-- A file server as a host: its kind, and the inputs that servers alone have.
use Rattle.std.specs.Prelude.{ℕ, Bool}
use Rattle.afs_num.specs.declared.messages.Received.TheVariants.{Whole}
use Rattle.afs_num.specs.declared.types.Node.{Node}
use Rattle.spec_records.specs.Changes.{can_boot}
use Rattle.spec_rows.specs.Hosts.{begun_from, goes, Fall, Host, HostStep, NodeKind}
use Rattle.spec_rows.specs.ServerRow.{begun_after, decides, device_calls, revived}
use Rattle.spec_rows.specs.ServerSteps.{back_timeout_row, server_row, start_row, wake_row}
use Rattle.spec_rows.specs.States.{durable_of, BackCall, ServerState}
use Rattle.spec_rows.specs.Steps.{begun_before, Begun}

abbrev pub ServerHost : Type 0
ServerHost = Host ServerState

-- the next boot number has a record, and that fits
abbrev pub can_start : ServerState → Bool
can_start s = can_boot (durable_of s.lasting)

-- the file server `me`
abbrev pub server_kind : Node → NodeKind ServerState
server_kind me = record {
  me = me;
  device_calls = λ s clock found. device_calls s clock (decides me s clock found);
  row = server_row me;
  begun_after = λ s clock m. begun_after me s clock (decides me s clock (Whole m));
  begun_again = λ s. begun_before (revived s);
  start = start_row me;
  can_start = can_start;
}

-- its unanswered call to this node is timed out
abbrev pub timed_out : Node → ServerHost → ℕ → Node → BackCall → HostStep ServerState
timed_out me h clock callee b = goes h.armed (back_timeout_row me h.state clock callee b)

-- time has passed
abbrev pub woken : Node → ServerHost → ℕ → HostStep ServerState
woken me h clock = goes h.armed (wake_row me h.state clock)

-- what its restart begins with, where it finds the disk as before the interrupted step, or as after it
abbrev pub begun_by_disk : Node → ServerState → Bool → Fall → Begun ServerState
begun_by_disk me s after fall = begun_from (server_kind me) s after fall
