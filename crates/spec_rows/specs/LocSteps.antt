-- The steps of the location database, each with its new state, its lines and the messages that it sends; and the database as a host.
use Rattle.std.specs.Prelude.{ℕ, ◌+◌, List, [], ◌∷◌, ◌++◌}
use Rattle.afs_num.specs.declared.messages.Received.{Received}
use Rattle.afs_num.specs.declared.messages.Received.TheVariants.{Whole}
use Rattle.afs_num.specs.declared.types.Node.TheVariants.{Loc}
use Rattle.spec_history.specs.declared.lines.Line.{Line}
use Rattle.spec_history.specs.declared.lines.Line.TheVariants as lines
use Rattle.spec_records.specs.LocEffects.{deed_told}
use Rattle.spec_rows.specs.Hosts.{Host, NodeKind}
use Rattle.spec_rows.specs.LocRow.{loc_can_start, loc_decides, loc_device_calls, loc_left, loc_revived, loc_saved, loc_sent, saves, LocDecision, LocState}
use Rattle.spec_rows.specs.Steps.{begun_before, Begun, Step}

-- only a change tells something
abbrev pub loc_told : LocState → LocDecision → List Line
loc_told s (saves head c) = deed_told c.deed s.lasting.entries
loc_told s d = []

-- what is decided on the message of this place is done
abbrev pub loc_does : LocState → ℕ → LocDecision → Step LocState
loc_does s place d = record { state = loc_left s d; lines = lines.Given place ∷ loc_told s d; sent = loc_sent s d }

-- the location database, given the message of this place
unfoldable pub loc_row : LocState → ℕ → Received → Step LocState
loc_row s place m = loc_does s place (loc_decides s m)

-- ---- a restart

-- behind an interrupted step whose record is whole: the state after it, and the lines that it would have told
abbrev pub loc_begun_after : LocState → LocDecision → Begun LocState
loc_begun_after s (saves head c) = record { state = loc_saved head c s; before = λ ls. deed_told c.deed s.lasting.entries ++ ls }
loc_begun_after s d = begun_before s

-- it owes nothing to anybody, and sends nothing
unfoldable pub loc_start_row : Begun LocState → Step LocState
loc_start_row begun = record { state = loc_revived begun.state; lines = begun.before (lines.Restart Loc (begun.state.lasting.boot + 1) ∷ []); sent = [] }

-- ---- the host

abbrev pub LocHost : Type 0
LocHost = Host LocState

-- its row looks at no clock, and its restart at no number of clients
abbrev pub loc_kind : NodeKind LocState
loc_kind = record {
  me = Loc;
  device_calls = λ s clock found. loc_device_calls s (loc_decides s found);
  row = λ s clock place found. loc_row s place found;
  begun_after = λ s clock m. loc_begun_after s (loc_decides s (Whole m));
  begun_again = λ s. begun_before (loc_revived s);
  start = λ clock count begun. loc_start_row begun;
  can_start = loc_can_start;
}
