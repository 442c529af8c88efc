-- Worked runs with the location database: the lines of its steps, and clients that ask it.
use Rattle.std.proofs.Common.{map, negsuc, ◌≡◌, ◌+◌, ℕ, List, [], ◌∷◌, ◌++◌, pos, refl}
use Rattle.std.specs.Prelude.{codes, false}
use Rattle.spec_history.specs.declared.acts.Act.{Act}
use Rattle.spec_history.specs.declared.acts.Act.TheVariants as acts
use Rattle.spec_history.specs.declared.acts.Operand.TheVariants as operands
use Rattle.spec_history.specs.declared.lines.Line.{Line}
use Rattle.spec_history.specs.declared.lines.Line.TheVariants as lines
use Rattle.afs_num.specs.Names.{volume_name_ok, is_name_of}
use Rattle.afs_num.specs.declared.location_calls.LocCall.TheVariants as calls
use Rattle.afs_num.specs.declared.location_calls.LocEntry.{LocEntry}
use Rattle.afs_num.specs.declared.location_calls.LocReply.TheVariants as replies
use Rattle.afs_num.specs.declared.messages.Carried.{Carried}
use Rattle.afs_num.specs.declared.messages.Carried.TheVariants as carried
use Rattle.afs_num.specs.declared.messages.Message.{Message}
use Rattle.afs_num.specs.declared.messages.Received.TheVariants.{Whole}
use Rattle.afs_num.specs.declared.messages.Reply.TheVariants as tell
use Rattle.afs_num.specs.declared.types.Half.TheVariants as halves
use Rattle.afs_num.specs.declared.types.Node.{Node}
use Rattle.afs_num.specs.declared.types.Node.TheVariants.{Client, Loc, Server}
use Rattle.spec_model.specs.Messages.{spelled}
use Rattle.spec_records.specs.LocRecords.{entry_form, loc_record_bytes}
use Rattle.spec_records.specs.Records.{head_form}
use Rattle.spec_rows.specs.ClientRow.{begin_row, client_row, guest_row}
use Rattle.spec_rows.specs.Going.{ClientState}
use Rattle.spec_rows.specs.LocRow.{LocState}
use Rattle.spec_rows.specs.LocSteps.{loc_row, loc_start_row}
use Rattle.spec_rows.specs.Runs.{begins, comes_up, first_loc, gives, moved, start, starts_again, steady, stops, waits}
use Rattle.spec_rows.specs.Steps.{Step}
use Rattle.spec_rows.proofs.LocWorked.{at_2, call_from, more, proj}
use Rattle.spec_rows.proofs.Worked.{code, file, home, script, told}
use Rattle.afs_xdr.specs.Words.{opaque, pad, word}

-- ---- what its steps tell

abbrev all_lines : LocState → List Message → List (List Line)
all_lines s [] = []
all_lines s (m ∷ ms) = (loc_row s 9 (Whole m)).lines ∷ all_lines (loc_row s 9 (Whole m)).state ms

abbrev database : LocState
database = first_loc 268435456 (script 1).volumes

abbrev given : List Line → List Line
given ls = lines.Given 9 ∷ ls

-- a lock, one that stands in the way, one by force; then the release of a recovery
lines_of_locks : all_lines database (call_from 1 1 0 (calls.SetLock home 16 0) ∷ call_from 2 1 0 (calls.SetLock home 16 0) ∷ call_from 2 2 0 (calls.SetLock home 16 1) ∷ call_from 2 3 2 (calls.ReleaseLock home) ∷ []) ≡
    given (lines.Locked home 1 16 ∷ []) ∷ given [] ∷ given (lines.Locked home 2 16 ∷ []) ∷ given (lines.Recovered home ∷ lines.Unlocked home ∷ []) ∷ []
unfolding loc_row loc_record_bytes entry_form head_form spelled opaque pad word
lines_of_locks = refl

-- a site that is another, and a change of copies alone; a new entry is locked before it is located; then it goes
lines_of_entries : all_lines database (call_from 1 1 0 (calls.SetLock home 16 0) ∷ call_from 1 2 1 (calls.ReplaceEntry home at_2) ∷ call_from 1 3 1 (calls.ReplaceEntry home (record at_2 { backup = 7 }))
    ∷ call_from 1 4 0 (calls.CreateEntry more) ∷ call_from 1 5 2 (calls.DeleteEntry 536870913) ∷ call_from 1 6 1 (calls.ReleaseLock home) ∷ []) ≡
    given (lines.Locked home 1 16 ∷ []) ∷ given (lines.Located home (Server 2) ∷ []) ∷ given [] ∷ given (lines.Locked 536870913 2 16 ∷ lines.Located 536870913 (Server 1) ∷ [])
    ∷ given (lines.Unlocked 536870913 ∷ []) ∷ given (lines.Unlocked home ∷ []) ∷ []
unfolding loc_row loc_record_bytes entry_form head_form spelled opaque pad word volume_name_ok is_name_of
lines_of_entries = refl

-- ---- the cell

-- it stops, and begins again with the next boot; while it is down it doesn't stop, and while it is up it doesn't begin again
row_restarted : told (start (script 1)) (stops 0 ∷ stops 0 ∷ starts_again 0 false comes_up ∷ starts_again 0 false comes_up ∷ []) ≡ lines.Crash Loc ∷ lines.Void ∷ lines.Restart Loc 2 ∷ lines.Void ∷ []
unfolding moved loc_start_row loc_record_bytes entry_form head_form spelled opaque pad word
row_restarted = refl

-- ---- a client asks it

abbrev unknown : Act
unknown = acts.Open (operands.Path (record { volume = codes "nosuch"; names = codes "a" ∷ [] }))

abbrev copy : Act
copy = acts.Open (operands.Path (record { volume = codes "proj.readonly"; names = [] }))

-- it stops and begins again: it tells its boot, and is asked again; a copy that there isn't; and one that never answers
row_asked : told (start (script 1)) (begins 1 unknown ∷ stops 0 ∷ gives 1 steady ∷ starts_again 0 false comes_up ∷ gives 1 steady ∷ gives 2 steady ∷ gives 3 steady ∷ gives 3 steady ∷ gives 4 steady
    ∷ begins 1 copy ∷ gives 6 steady ∷ gives 7 steady ∷ begins 1 unknown ∷ waits 1 ∷ waits 1 ∷ waits 1 ∷ []) ≡
    lines.Begin (Client 1) unknown ∷ lines.Crash Loc ∷ lines.Void ∷ lines.Restart Loc 2 ∷ lines.Given 1 ∷ lines.Given 2 ∷ lines.Given 3 ∷ lines.Given 3 ∷ lines.Given 4 ∷ code 1 363524
    ∷ lines.Begin (Client 1) copy ∷ lines.Given 6 ∷ lines.Given 7 ∷ code 1 363524
    ∷ lines.Begin (Client 1) unknown ∷ lines.Timeout (Client 1) Loc 1 3 1 ∷ lines.Timeout (Client 1) Loc 1 3 2 ∷ lines.Timeout (Client 1) Loc 1 3 3 ∷ lines.Answer (Client 1) (record { 0 = negsuc 0 }) ∷ []
unfolding moved begin_row client_row loc_row loc_start_row loc_record_bytes entry_form head_form spelled opaque pad word
row_asked = refl

-- ---- a client whose table is stale, and a volume that goes on moving: it asks where the server tells that it isn't, and ends where
-- the database knows no other server

abbrev stale : ClientState
stale = record ((start (script 1)).clients 1) { table = at_2 ∷ [] }

abbrev from_node : Node → ℕ → ℕ → Carried → Message
from_node n number opcode x = record { head = record { half = halves.Reply; from = n; to = Client 1; epoch = 1; number = number; boot = 1; stamp = 0; opcode = opcode }; carried = x }

abbrev gone : Carried
gone = carried.Refusal (record { 0 = pos 103 })

abbrev located_there : LocEntry → Carried
located_there e = carried.Reply (tell.Location (replies.GetEntryById e))

abbrev turns : Step ClientState → ℕ → List Message → List (List Line × List Node)
turns s place [] = (s.lines, map (λ m. m.head.to) s.sent) ∷ []
turns s place (m ∷ ms) = (s.lines, map (λ m. m.head.to) s.sent) ∷ turns (guest_row (Client 1) s.state 0 place (Whole m)) (place + 1) ms

row_moved : turns (begin_row (Client 1) stale 0 (acts.Open (operands.Fid file))) 5
    (from_node (Server 2) 1 130 gone ∷ from_node Loc 2 503 (located_there proj) ∷ from_node (Server 1) 3 130 gone ∷ from_node Loc 4 503 (located_there proj) ∷ []) ≡
    (lines.Begin (Client 1) (acts.Open (operands.Fid file)) ∷ [], Server 2 ∷ []) ∷ (lines.Given 5 ∷ [], Loc ∷ []) ∷ (lines.Given 6 ∷ [], Server 1 ∷ []) ∷ (lines.Given 7 ∷ [], Loc ∷ []) ∷ (lines.Given 8 ∷ code 1 103 ∷ [], []) ∷ []
unfolding begin_row client_row
row_moved = refl

-- one that goes on moving is followed four times; the fifth refusal is the answer
row_followed : turns (begin_row (Client 1) stale 0 (acts.Open (operands.Fid file))) 5
    (from_node (Server 2) 1 130 gone ∷ from_node Loc 2 503 (located_there proj) ∷ from_node (Server 1) 3 130 gone ∷ from_node Loc 4 503 (located_there at_2)
    ∷ from_node (Server 2) 5 130 gone ∷ from_node Loc 6 503 (located_there proj) ∷ from_node (Server 1) 7 130 gone ∷ from_node Loc 8 503 (located_there at_2) ∷ from_node (Server 2) 9 130 gone ∷ []) ≡
    (lines.Begin (Client 1) (acts.Open (operands.Fid file)) ∷ [], Server 2 ∷ []) ∷ (lines.Given 5 ∷ [], Loc ∷ []) ∷ (lines.Given 6 ∷ [], Server 1 ∷ []) ∷ (lines.Given 7 ∷ [], Loc ∷ []) ∷ (lines.Given 8 ∷ [], Server 2 ∷ [])
    ∷ (lines.Given 9 ∷ [], Loc ∷ []) ∷ (lines.Given 10 ∷ [], Server 1 ∷ []) ∷ (lines.Given 11 ∷ [], Loc ∷ []) ∷ (lines.Given 12 ∷ [], Server 2 ∷ []) ∷ (lines.Given 13 ∷ code 1 103 ∷ [], []) ∷ []
unfolding begin_row client_row
row_followed = refl

-- where the database refuses, its code is the answer, not that of the server
row_refused : turns (begin_row (Client 1) stale 0 (acts.Open (operands.Fid file))) 5
    (from_node (Server 2) 1 130 gone ∷ from_node Loc 2 503 (carried.Refusal (record { 0 = pos 363524 })) ∷ []) ≡
    (lines.Begin (Client 1) (acts.Open (operands.Fid file)) ∷ [], Server 2 ∷ []) ∷ (lines.Given 5 ∷ [], Loc ∷ []) ∷ (lines.Given 6 ∷ code 1 363524 ∷ [], []) ∷ []
unfolding begin_row client_row
row_refused = refl

-- ---- an act with two operands asks for each where it comes to it

abbrev two : Act
two = acts.Link (record { volume = codes "proj"; names = [] }) (record { volume = codes "more"; names = codes "x" ∷ [] })

abbrev named_so : LocEntry → Carried
named_so e = carried.Reply (tell.Location (replies.GetEntryByName e))

row_both : turns (begin_row (Client 1) (record stale { table = [] }) 0 two) 5 (from_node Loc 1 504 (named_so proj) ∷ from_node Loc 2 504 (named_so more) ∷ []) ≡
    (lines.Begin (Client 1) two ∷ [], Loc ∷ []) ∷ (lines.Given 5 ∷ [], Loc ∷ []) ∷ (lines.Given 6 ∷ [], Server 1 ∷ []) ∷ []
unfolding begin_row client_row
row_both = refl
