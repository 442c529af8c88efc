-- What is said of the location database and of the acts that ask it, in runs where nobody changes what it has.
use Rattle.spec_history.specs.declared.scripts.Script.{Script}
use Rattle.law_legal.specs.Ideal.{set_up_entry, user_of}
use Rattle.law_legal.specs.Once.{past_of}
use Rattle.law_legal.specs.Past.{AskedSince}
use Rattle.afs_num.specs.declared.location_calls.LocEntry.{LocEntry}
use Rattle.afs_num.specs.declared.messages.Carried.{Carried}
use Rattle.afs_num.specs.declared.messages.Carried.TheVariants as carried
use Rattle.afs_num.specs.declared.messages.Message.{Message}
use Rattle.afs_num.specs.declared.messages.Reply.TheVariants as tell
use Rattle.afs_num.specs.declared.types.Node.TheVariants.{Client, Loc}
use Rattle.spec_rows.specs.ClientRow.{entry_in, has_location, question}
use Rattle.spec_rows.specs.Going.{Seek, locates, next, no_entry}
use Rattle.spec_rows.specs.Runs.{Cell, Entry, RunsTo, locations, message_at}
use Rattle.std.specs.Prelude.{◌⊎◌, ⊤, pos, ◌≡◌, ℕ, List, ◌∷◌, [], true, Option, Some, None}

-- a reply tells an entry, which stands in a client's first table; and what refuses tells that there is no such entry
abbrev pub IsToldIn : Script → Carried → Type 0
IsToldIn S (carried.Reply (tell.Location reply)) = (e : LocEntry) × ((entry_in reply ≡ Some e) × (has_location e (locations S) ≡ true))
IsToldIn S (carried.Reply reply) = ⊥
IsToldIn S (carried.Refusal code) = code.0 ≡ pos no_entry
IsToldIn S x = ⊤

-- the opcodes of look-ups, by number and by name
abbrev pub IsLookupNumber : ℕ → Type 0
IsLookupNumber n = (n ≡ 503) ⊎ (n ≡ 504)

-- what a client is told of a look-up
abbrev pub TellsLookup : Script → Message → Type 0
TellsLookup S m = (j : ℕ) → m.head.to ≡ Client j → IsLookupNumber m.head.opcode → IsToldIn S m.carried

-- what the location database tells of a volume is what the script says of it
abbrev pub LocTellsTheScript : Type 0
LocTellsTheScript = (s : Script) (history : List Entry) (end : Cell) → RunsTo history s end → (place : ℕ) (m : Message) → message_at end.sent place ≡ Some m → m.head.from ≡ Loc → TellsLookup s m

-- an act that waits for the database waits for no server; where none refused it, it needs what it asks; and it asked that for its
-- user, under its client's last key, since it began
abbrev pub SeeksAreAsked : Type 0
SeeksAreAsked =
    (s : Script) (history : List Entry) (end : Cell) → RunsTo history s end → (j : ℕ) (k : Seek) → (end.clients j).seeking ≡ Some k
    → ((end.clients j).running ≡ None) × ((k.left ≡ None → next k.act ≡ locates k.operand) × AskedSince (record { node = Client j; epoch = (end.clients j).epoch; number = (end.clients j).last }) (user_of s (Client j)) (question k.operand) (past_of (set_up_entry s ∷ []) history))
