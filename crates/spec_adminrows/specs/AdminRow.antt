-- The row of an administrator: how an act begins, what it does with a message and at a timeout, and when it begins again.
use Rattle.std.specs.Prelude.{ℕ, ◌+◌, List, [], ◌∷◌, ◌++◌, Bool, ◌&&◌, Option, Some, None, nat_eq, find, filter, not, length, if◌then◌else◌}
use Rattle.std.specs.Option.{option_map}
use Rattle.std.specs.Str.{bytes_eq}
use Rattle.spec_history.specs.declared.scripts.AdminAct.{AdminAct}
use Rattle.spec_history.specs.declared.scripts.AdminAct.TheVariants as acts
use Rattle.spec_history.specs.declared.lines.Line.{Line}
use Rattle.spec_history.specs.declared.lines.Line.TheVariants as lines
use Rattle.spec_model.specs.Calls.{Admitted, admitted, call_seated, is_sent_again}
use Rattle.spec_model.specs.Calls as pairs
use Rattle.spec_model.specs.CellRows.{call_number}
use Rattle.afs_num.specs.Nodes.{same_node}
use Rattle.afs_num.specs.declared.messages.Carried.{Carried}
use Rattle.afs_num.specs.declared.messages.Carried.TheVariants as carried
use Rattle.afs_num.specs.declared.messages.Message.{Message}
use Rattle.afs_num.specs.declared.messages.Received.{Received}
use Rattle.afs_num.specs.declared.messages.Received.TheVariants.{Nothing, Unserved, Unreadable, Whole}
use Rattle.afs_num.specs.declared.types.Half.TheVariants as halves
use Rattle.afs_num.specs.declared.types.Head.{Head}
use Rattle.afs_num.specs.declared.types.Node.{Node}
use Rattle.spec_rows.specs.ClientRow.{boot_of, with_boot}
use Rattle.spec_rows.specs.ServerRow.{boot_told, not_served, refusal, seat_for}
use Rattle.spec_rows.specs.States.{KnownBoot, Seat}
use Rattle.spec_rows.specs.Steps.{Step}
use Rattle.spec_adminrows.specs.Acts.{answered, asks_at, begins_with, refused}
use Rattle.spec_adminrows.specs.Turns.{dead}
use Rattle.spec_adminrows.specs.declared.places.Place.{Place}
use Rattle.spec_adminrows.specs.declared.turns.Ask.{Ask}
use Rattle.spec_adminrows.specs.declared.turns.Errand.{Errand}
use Rattle.spec_adminrows.specs.declared.turns.HeldDump.{HeldDump}
use Rattle.spec_adminrows.specs.declared.turns.Running.{Running}
use Rattle.spec_adminrows.specs.declared.turns.Turn.{Turn}
use Rattle.spec_adminrows.specs.declared.turns.Turn.TheVariants as turns

-- ---- its state

-- How many servers the cell has; its epoch, and the number of its last call in it; the boot numbers of nodes as it knows them; those that
-- called it; the dumps that it holds; and the act that runs, with how often its unanswered call was timed out.
pub record AdminState : Type 0 where
  pub servers : ℕ
  pub epoch : ℕ
  pub last : ℕ
  pub boots : List KnownBoot
  pub seats : List Seat
  pub dumps : List HeldDump
  pub running : Option Running
  pub tries : ℕ

-- ---- its unanswered call is told by the place of its act

abbrev pub errand_of : AdminState → AdminAct → Errand
errand_of a act = record { act = act; servers = a.servers }

abbrev pub ask_of : AdminState → Running → Ask
ask_of a r = asks_at (errand_of a r.act) r.place

-- whose answer it waits for
abbrev pub waiting_on : AdminState → Option Node
waiting_on a = option_map (λ (r : Running). (ask_of a r).callee) a.running

abbrev pub ask_head : Node → AdminState → Ask → Head
ask_head me a q = record {
  half = halves.Call;
  from = me;
  to = q.callee;
  epoch = a.epoch;
  number = a.last;
  boot = boot_of q.callee a.boots;
  stamp = q.stamp;
  opcode = call_number q.call;
}

abbrev pub ask_message : Node → AdminState → Ask → Message
ask_message me a q = record { head = ask_head me a q; carried = carried.Call [] q.call }

-- ---- dumps

abbrev pub has_label : List ℕ → HeldDump → Bool
has_label label d = bytes_eq d.label label

abbrev pub has_other_label : List ℕ → HeldDump → Bool
has_other_label label d = not (has_label label d)

-- a dump takes the place of the one under its label
abbrev pub with_dump : List ℕ → List ℕ → AdminState → AdminState
with_dump label bytes a = record a { dumps = filter (has_other_label label) a.dumps ++ record { label = label; bytes = bytes } ∷ [] }

abbrev pub dump_held : List ℕ → List HeldDump → Option (List ℕ)
dump_held label ds = option_map (λ (d : HeldDump). d.bytes) (find (has_label label) ds)

-- ---- what a turn of the act does, behind these lines

-- what its place needs is asked under the next number
abbrev pub asking : AdminState → Running → AdminState
asking a r = record a { last = a.last + 1; tries = 0; running = Some r }

abbrev pub asks_step : Node → AdminState → Running → List Line → Step AdminState
asks_step me a r ls = record { state = asking a r; lines = ls; sent = ask_message me (asking a r) (ask_of a r) ∷ [] }

abbrev pub ends_step : AdminState → List Line → Step AdminState
ends_step a ls = record { state = record a { running = None }; lines = ls; sent = [] }

abbrev pub running_at : AdminAct → Place → Running
running_at act p = record { act = act; place = p }

abbrev pub turned : Node → AdminState → AdminAct → List Line → Turn → Step AdminState
turned me a act ls (turns.Goes p) = asks_step me a (running_at act p) ls
turned me a act ls (turns.Keeps label bytes p) = asks_step me (with_dump label bytes a) (running_at act p) (ls ++ lines.Dumped me label (length bytes) ∷ [])
turned me a act ls (turns.Ends code) = ends_step a (ls ++ lines.Answer me code ∷ [])
turned me a act ls (turns.Sticks code) = ends_step a (ls ++ lines.Stuck me code ∷ [])
turned me a act ls turns.Passes = record { state = a; lines = ls; sent = [] }

-- ---- an act begins

abbrev pub label_in : AdminAct → List ℕ
label_in (acts.Restore name server label) = label
label_in act = []

-- the administrator `me`, which does nothing else, begins an act
unfoldable pub admin_begin_row : Node → AdminState → AdminAct → Step AdminState
admin_begin_row me a act = turned me a act (lines.BeginAdmin me act ∷ []) (begins_with act (dump_held (label_in act) a.dumps))

-- ---- a message comes

abbrev pub told : AdminState → ℕ → List Message → Step AdminState
told a place sent = record { state = a; lines = lines.Given place ∷ []; sent = sent }

-- it serves no call
abbrev pub serves_not : AdminState → ℕ → Head → Message → Step AdminState
serves_not a place head reply = told (record a { seats = call_seated (seat_for head reply) a.seats }) place (reply ∷ [])

abbrev pub admits : AdminState → ℕ → Head → Admitted Message → Step AdminState
admits a place head pairs.runs = serves_not a place head (refusal a.epoch head not_served)
admits a place head (pairs.kept reply) = told a place (reply ∷ [])
admits a place head pairs.in_progress = told a place []
admits a place head pairs.older = told a place []
admits a place head (pairs.wrong_boot boot) = told a place (boot_told a.epoch head ∷ [])

abbrev pub called : AdminState → ℕ → Head → Step AdminState
called a place head = admits a place head (admitted a.epoch a.seats head)

-- its callee has another boot number, and is asked again under that
abbrev pub knows_boot : AdminState → Node → ℕ → AdminState
knows_boot a callee boot = record a { boots = with_boot callee boot a.boots }

abbrev pub asks_again : Node → AdminState → ℕ → Ask → Step AdminState
asks_again me a place q = told a place (ask_message me a q ∷ [])

abbrev pub hears : Node → AdminState → ℕ → Running → Head → Carried → Step AdminState
hears me a place r head (carried.Call user call) = told a place []
hears me a place r head (carried.Refusal code) = turned me a r.act (lines.Given place ∷ []) (refused r.place code)
hears me a place r head (carried.Reply reply) = turned me a r.act (lines.Given place ∷ []) (answered (errand_of a r.act) r.place reply)
hears me a place r head carried.Notice = asks_again me (knows_boot a head.from head.boot) place (ask_of a r)

-- it is the callee's, for the unanswered call
abbrev pub is_awaited : AdminState → Head → Ask → Bool
is_awaited a head q = same_node head.from q.callee && (nat_eq head.epoch a.epoch && (nat_eq head.number a.last && nat_eq head.opcode (call_number q.call)))

abbrev pub awaits : Node → AdminState → ℕ → Head → Carried → Option Running → Step AdminState
awaits me a place head x None = told a place []
awaits me a place head x (Some r) = if is_awaited a head (ask_of a r) then hears me a place r head x else told a place []

abbrev pub gets : Node → AdminState → ℕ → Head → Carried → Step AdminState
gets me a place head (carried.Call user call) = called a place head
gets me a place head x = awaits me a place head x a.running

-- a message to another node does nothing
abbrev pub takes_in : Node → AdminState → ℕ → Received → Step AdminState
takes_in me a place Nothing = told a place []
takes_in me a place (Unserved head) = if same_node head.to me then called a place head else told a place []
takes_in me a place (Unreadable head) = if same_node head.to me then called a place head else told a place []
takes_in me a place (Whole m) = if same_node m.head.to me then gets me a place m.head m.carried else told a place []

-- the administrator `me`, given the message of this place
unfoldable pub admin_row : Node → AdminState → ℕ → Received → Step AdminState
admin_row me a place m = takes_in me a place m

-- ---- its unanswered call is timed out: it is sent again, or given up

abbrev pub admin_timeout_line : Node → AdminState → Ask → Line
admin_timeout_line me a q = lines.Timeout me q.callee a.epoch a.last (a.tries + 1)

abbrev pub sends_again : Node → AdminState → Ask → Step AdminState
sends_again me a q = record { state = record a { tries = a.tries + 1 }; lines = admin_timeout_line me a q ∷ []; sent = ask_message me a q ∷ [] }

unfoldable pub admin_timeout_row : Node → AdminState → Running → Step AdminState
admin_timeout_row me a r =
    if is_sent_again a.tries then sends_again me a (ask_of a r) else turned me a r.act (admin_timeout_line me a (ask_of a r) ∷ []) (refused r.place dead)

-- ---- a new administrator; and one that begins again, which has kept nothing, and has the next epoch

abbrev pub new_admin : ℕ → ℕ → AdminState
new_admin servers epoch = record { servers = servers; epoch = epoch; last = 0; boots = []; seats = []; dumps = []; running = None; tries = 0 }

abbrev pub admin_reborn : AdminState → AdminState
admin_reborn a = new_admin a.servers (a.epoch + 1)
