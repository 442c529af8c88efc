-- What a step sends that leaves what is on the disk as it is.
use Rattle.std.specs.Prelude.{ℕ, ℤ, ◌&&◌, ◌++◌, List, [], ◌∷◌, Bool, true, false, Option, Some, None, if◌then◌else◌}
use Rattle.afs_num.specs.Nodes.{same_node}
use Rattle.afs_num.specs.declared.messages.Message.{Message}
use Rattle.afs_num.specs.declared.types.Head.{Head}
use Rattle.afs_num.specs.declared.types.Node.{Node}
use Rattle.spec_breaks.specs.declared.types.OwedBreak.{OwedBreak}
use Rattle.spec_history.specs.declared.lines.Line.{Line}
use Rattle.spec_rows.specs.Callbacks.{alls, is_ready}
use Rattle.spec_rows.specs.States.{Held}
use Rattle.afs_callees.specs.Called.{call_to, known_to}
use Rattle.afs_server_parts.specs.Ending.{IsPlan}
use Rattle.afs_server_parts.specs.Turning.{sent_turns}
use Rattle.afs_server_parts.specs.declared.ending.Ended.{Ended}
use Rattle.afs_callbacks.specs.States.{CallbackState}
use Rattle.afs_sendings.specs.Pieces.{call_seen, Piece, Way}
use Rattle.spec_volrows.specs.VolStates.{Sending}
use Rattle.spec_volrows.specs.VolSteps.{answered_by, ends_sending, sending_goes_on, held_vol, is_awaited, vol_answers, vol_renews, vol_rests, VolTurn}
use Rattle.afs_volstore.specs.Stores.{Store}
use Rattle.afs_volserv.specs.Handling.{backs_then}
use Rattle.afs_volserv.specs.Seen.{vol_seen, VolMemory}
use Rattle.afs_sharing.specs.Stores.{stand_of}
use Rattle.afs_sharing.specs.Lasting.{lasting_of}

-- what comes of it that these messages go out, where the node's own calls are drawn up to this number
abbrev pub IsSent : {D : Type 0} → ℕ → ℕ → List Message → CallbackState → Store D → Ended → Type 0
IsSent {D} now last ms k s e = IsPlan (record (stand_of s) { last = last }) (sent_turns ms (record (backs_then k s now) { last_call = last })) [] e

-- nothing happens
abbrev pub rests_then : {D : Type 0} → VolMemory → CallbackState → Store D → ℕ → VolTurn
rests_then {D} m k s clock = vol_rests (lasting_of s.durable) (vol_seen m) (backs_then k s clock)

-- these messages go out, and nothing else happens
abbrev pub sent_then : {D : Type 0} → VolMemory → CallbackState → Store D → ℕ → List Message → VolTurn
sent_then {D} m k s clock ms = record (rests_then m k s clock) { sent = ms }

-- ---- a kept reply is asked again

-- it goes out, or waits for these breaks
abbrev pub again_then : {D : Type 0} → VolMemory → CallbackState → Store D → ℕ → Message → List ℕ → VolTurn
again_then {D} m k s clock reply waits = vol_answers (lasting_of s.durable) (vol_seen m) (backs_then k s clock) [] reply waits true

-- it waits for these breaks
abbrev pub waits_then : {D : Type 0} → VolMemory → CallbackState → Store D → ℕ → Message → List ℕ → VolTurn
waits_then {D} m k s clock reply waits =
    vol_rests (lasting_of s.durable) (record (vol_seen m) { held = m.held ++ held_vol reply waits true ∷ [] }) (backs_then k s clock)

-- for which breaks it waits, if it is given at all
abbrev pub waits_again : List OwedBreak → Option Held → Bool → Option (List ℕ)
waits_again os (Some h) good = if h.again && is_ready os h then Some [] else None
waits_again os None true = Some (alls os)
waits_again os None false = Some []

-- ---- dumps that go to other servers

-- nothing was done so far with the node's own calls
abbrev pub way_before : {D : Type 0} → VolMemory → Store D → Way
way_before {D} m s = record { last = s.drawn; calls = call_to m.callees; known = known_to m.callees; sent = [] }

-- the unanswered call to which a reply or a notice of this header is
abbrev pub is_heard : Node → ℕ → Head → Piece → Bool
is_heard me boot head c = same_node head.to me && is_awaited boot (call_seen c) head

abbrev pub heard_by : Node → ℕ → Head → Option Piece → Option Piece
heard_by me boot head None = None
heard_by me boot head (Some c) = if is_heard me boot head c then Some c else None

-- a piece of these dumps to the node was answered with this code
abbrev pub answered_then : {D : Type 0} → VolMemory → CallbackState → Store D → ℕ → Node → List Sending → ℤ → VolTurn
answered_then {D} m k s clock n dumps code = answered_by s.node (lasting_of s.durable) (vol_seen m) (backs_then k s clock) n dumps code

-- the first of these dumps has ended with this code, which these lines tell
abbrev pub ended_then : {D : Type 0} → VolMemory → CallbackState → Store D → ℕ → List Line → Node → List Sending → Sending → ℤ → VolTurn
ended_then {D} m k s clock ls n rest first code = ends_sending s.node (lasting_of s.durable) (vol_seen m) (backs_then k s clock) ls n rest first code

-- a piece of it went, and the next one follows
abbrev pub went_then : {D : Type 0} → VolMemory → CallbackState → Store D → ℕ → Node → List Sending → Sending → VolTurn
went_then {D} m k s clock n rest first = sending_goes_on s.node (lasting_of s.durable) (vol_seen m) (backs_then k s clock) n rest first

-- the node told this boot number, and the call to it is sent again
abbrev pub renewed_then : {D : Type 0} → VolMemory → CallbackState → Store D → ℕ → Node → ℕ → Piece → VolTurn
renewed_then {D} m k s clock n known c = vol_renews s.node (lasting_of s.durable) (vol_seen m) (backs_then k s clock) n known (call_seen c) c.content
