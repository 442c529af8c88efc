-- A node whose callers are clients steps as its file server does.
use Rattle.std.proofs.Common.{◌≡◌, List, [], ◌++◌, sym, ap, ◌∙◌, append-nil}
use Rattle.std.specs.Prelude.{filter}
use Rattle.afs_num.specs.declared.messages.Message.{Message}
use Rattle.spec_rows.specs.Callbacks.{is_ready, replies_of}
use Rattle.spec_rows.specs.States.{Held, ServerState}
use Rattle.spec_rows.specs.Steps.{Step}
use Rattle.spec_volrows.specs.FileRow.{file_row}
use Rattle.spec_volrows.specs.VolLaws.{resting, ClientsLeaveVolumesAlone}
use Rattle.spec_volrows.specs.VolRow.{holds_of}
use Rattle.spec_volrows.specs.VolStates.{NodeState, VolState}
use Rattle.spec_volrows.specs.VolSteps.{file_stepped, waits_for_breaks, node_row}

with_held : VolState → List Held → Step ServerState → Step NodeState
with_held v hs s = record {
  state = record { file = s.state; vol = record v { held = filter (waits_for_breaks s.state.backs.lists.owed) hs } };
  lines = s.lines;
  sent = s.sent ++ replies_of (filter (is_ready s.state.backs.lists.owed) hs);
}

pub none_held : (v : VolState) (s : Step ServerState) → v.held ≡ [] → file_stepped v s ≡ resting v s
unfolding with_held
none_held v s none =
    ap (λ (hs : List Held). with_held v hs s) none
    ∙ (ap (λ (ms : List Message). record { state = record { file = s.state; vol = record v { held = [] } }; lines = s.lines; sent = ms }) (append-nil s.sent)
    ∙ ap (λ (hs : List Held). record { state = record { file = s.state; vol = record v { held = hs } }; lines = s.lines; sent = s.sent }) (sym none))

pub clients_leave : ClientsLeaveVolumesAlone
unfolding node_row
clients_leave me s clock place m none client = rw client (none_held s.vol (file_row me (holds_of s.vol.transactions) s.file clock place m) none)
