-- The steps of a file server, each with its new state, its lines and the messages that it sends.
use Rattle.std.specs.Prelude.{ℕ, ◌+◌, List, [], ◌∷◌}
use Rattle.afs_num.specs.declared.types.Node.{Node}
use Rattle.afs_num.specs.declared.messages.Received.{Received}
use Rattle.spec_rows.specs.Callbacks.{CallbackStep, expired, no_turn, turned_in, call_timed_out, pumped, risen_turn}
use Rattle.spec_history.specs.declared.lines.Line.{Line}
use Rattle.spec_history.specs.declared.lines.Line.TheVariants as lines
use Rattle.spec_rows.specs.ServerRow.{Decision, decides, does, revived}
use Rattle.spec_rows.specs.States.{BackCall, ServerState}
use Rattle.spec_rows.specs.Steps.{Begun, Step}

-- what a server does with its calls and promises comes last in its step; these are all its lines
abbrev pub stepped : Node → ServerState → List Line → CallbackStep → Step ServerState
stepped me s ls t = record { state = record s { backs = (pumped me s.lasting.boot t).backs }; lines = ls; sent = (pumped me s.lasting.boot t).sent }

-- what is decided on a message is done, and then what it does with its calls and promises
abbrev pub done : Node → ServerState → ℕ → ℕ → Decision → CallbackStep → Step ServerState
done me s clock place d t = stepped me (does me s clock place d []).state (does me s clock place d t.lines).lines t

-- the server `me`, given the message of this place
unfoldable pub server_row : Node → ServerState → ℕ → ℕ → Received → Step ServerState
server_row me s clock place m = done me s clock place (decides me s clock m) (turned_in me s clock (expired clock s.backs) (decides me s clock m) m)

-- its unanswered call to this node is timed out
unfoldable pub back_timeout_row : Node → ServerState → ℕ → Node → BackCall → Step ServerState
back_timeout_row me s clock n c = stepped me s (call_timed_out me s.lasting.boot n c (expired clock s.backs)).lines (call_timed_out me s.lasting.boot n c (expired clock s.backs))

-- time has passed
unfoldable pub wake_row : Node → ServerState → ℕ → Step ServerState
wake_row me s clock = stepped me s [] (no_turn (expired clock s.backs))

-- it begins again, in a cell of so many clients
unfoldable pub start_row : Node → ℕ → ℕ → Begun ServerState → Step ServerState
start_row me clock count begun =
    stepped me (revived begun.state) (begun.before (lines.Restart me (begun.state.lasting.boot + 1) ∷ (risen_turn me clock count).lines)) (risen_turn me clock count)
