-- The steps of a server and of the location database, as walks over the runs of a cell name them. A step that sends nothing adds no message to those that were sent.
use Rattle.std.proofs.Common.{ℕ, Bool, List, [], ◌∷◌, Some, sym, subst}
use Rattle.std.proofs.lemmas.List.{append-nil}
use Rattle.afs_num.specs.declared.histories.Actor.TheVariants as actors
use Rattle.afs_num.specs.declared.messages.Message.{Message}
use Rattle.afs_num.specs.declared.messages.Received.TheVariants.{Whole}
use Rattle.afs_num.specs.declared.types.Node.TheVariants.{Loc, Server}
use Rattle.spec_history.specs.declared.lines.Line.{Line}
use Rattle.spec_rows.specs.Callbacks.{put}
use Rattle.spec_rows.specs.Hosts.{fall_line, falls, goes, sets, stays, HostStep}
use Rattle.spec_rows.specs.LocSteps.{LocHost}
use Rattle.spec_rows.specs.Runs.{loc_stepped, server_stepped, unarmed, Armed, Cell, Fall, Moved, ServerHost}
use Rattle.spec_rows.specs.ServerRow.{decides, device_calls}
use Rattle.spec_rows.specs.ServerSteps.{start_row}
use Rattle.spec_rows.specs.States.{ServerState}
use Rattle.spec_rows.specs.Steps.{Begun, Step}

-- ---- steps that send

abbrev pub server_moves : Cell → ℕ → Armed → Step ServerState → Moved
server_moves c i armed s = server_stepped c i (goes armed s)

abbrev pub server_rises : Cell → ℕ → Begun ServerState → Moved
server_rises c i f = server_moves c i unarmed (start_row (Server i) c.clock c.count f)

-- ---- steps that send nothing

-- the server is this then, and the messages are those that were
abbrev pub quietly : Cell → ℕ → HostStep ServerState → Moved
quietly c i s = record {
  entry = record { actor = actors.Node (Server i); lines = s.lines; sent = []; volumes = [] };
  cell = record c { hosts = put i s.host c.hosts };
}

abbrev pub server_falls : Cell → ℕ → List Line → Fall → Moved
server_falls c i ls fall = quietly c i (falls (c.hosts i) ls fall)

abbrev pub server_set : Cell → ℕ → Line → Armed → Moved
server_set c i l armed = quietly c i (sets (c.hosts i) l armed)

abbrev pub server_stays : Cell → ℕ → Begun ServerState → Line → Fall → Moved
server_stays c i f l fall = quietly c i (stays f l fall)

-- the line of a step that its disk ended
abbrev pub blow_line : ℕ → Bool → Line
blow_line i stops = fall_line (Server i) stops

-- how many device calls its step makes
abbrev pub calls_at : Cell → ℕ → Message → ℕ
calls_at c i m = device_calls (c.hosts i).state c.clock (decides (Server i) (c.hosts i).state c.clock (Whole m))

-- what holds of the quiet step holds of the step
quiet_is : (M : Moved → Type 0) (c : Cell) (i : ℕ) (h : ServerHost) (ls : List Line) → M (quietly c i (record { host = h; lines = ls; sent = [] })) → M (server_stepped c i (record { host = h; lines = ls; sent = [] }))
quiet_is M c i h ls m =
    subst (λ (ms : List Message). M (record { entry = record { actor = actors.Node (Server i); lines = ls; sent = []; volumes = [] }; cell = record c { hosts = put i h c.hosts; sent = ms } })) (sym (append-nil c.sent)) m

pub falls_is : (M : Moved → Type 0) (c : Cell) (i : ℕ) (ls : List Line) (fall : Fall) → M (server_falls c i ls fall) → M (server_stepped c i (falls (c.hosts i) ls fall))
falls_is M c i ls fall m = quiet_is M c i (record (c.hosts i) { down = Some fall; armed = unarmed }) ls m

pub sets_is : (M : Moved → Type 0) (c : Cell) (i : ℕ) (l : Line) (armed : Armed) → M (server_set c i l armed) → M (server_stepped c i (sets (c.hosts i) l armed))
sets_is M c i l armed m = quiet_is M c i (record (c.hosts i) { armed = armed }) (l ∷ []) m

pub stays_is : (M : Moved → Type 0) (c : Cell) (i : ℕ) (f : Begun ServerState) (l : Line) (fall : Fall) → M (server_stays c i f l fall) → M (server_stepped c i (stays f l fall))
stays_is M c i f l fall m = quiet_is M c i (record { state = f.state; down = Some fall; armed = unarmed }) (f.before (l ∷ [])) m

-- ---- the location database

-- it is this then, told these lines and sent these messages
abbrev pub loc_becomes : Cell → LocHost → List Line → List Message → Moved
loc_becomes c l ls ms = loc_stepped c (record { host = l; lines = ls; sent = ms })
