-- What a client keeps that reads read-only volumes too, and to which of their sites its calls go.
use Rattle.std.specs.Prelude.{ℕ, List, [], ◌∷◌, ◌++◌, Bool, not, ◌&&◌, Option, Some, None, nat_eq, nat_lt, map, filter, if◌then◌else◌}
use Rattle.spec_history.specs.declared.acts.Operand.{Operand}
use Rattle.spec_history.specs.declared.lines.Line.{Line}
use Rattle.spec_history.specs.declared.lines.Line.TheVariants as lines
use Rattle.spec_ideal.specs.Tables.{Table, get}
use Rattle.afs_num.specs.declared.location_calls.LocEntry.{LocEntry}
use Rattle.afs_num.specs.declared.location_calls.LocSite.{LocSite}
use Rattle.afs_num.specs.declared.types.Code.{Code}
use Rattle.afs_num.specs.declared.types.Node.{Node}
use Rattle.afs_num.specs.declared.types.Node.TheVariants as nodes
use Rattle.spec_rows.specs.ClientRow.{asking, call_message, call_of, dead_code, ended, number_or_none, volume_asked}
use Rattle.spec_rows.specs.Going.{find_location, operand_in, ClientState, Going}
use Rattle.spec_rows.specs.States.{Location}
use Rattle.spec_rows.specs.Steps.{Step}
use Rattle.spec_adminrows.specs.Entries.{is_read_only_site}

-- ---- its state

-- Where an act stands among the sites of a read-only volume. `sites` are those that it hasn't left, in the order of the volume's entry, and
-- the first of them is called. Beside them stand the last release that a site of it offered and that was below the highest seen, and the last code,
-- other than 106 and 110, with which a site of it refused.
pub record Round : Type 0 where
  pub volume : ℕ
  pub sites : List ℕ
  pub offered : Option ℕ
  pub refusal : Option Code

-- A client, the highest release that it has seen of each read-only volume since it last began, and the round in which its act made its last
-- call in such a volume. A release counts as seen where the reply that told it was used.
pub record CopyState : Type 0 where
  pub client : ClientState
  pub seen : Table ℕ
  pub round : Option Round

-- a client that has seen no release and is in no round
abbrev pub new_copies : ClientState → CopyState
new_copies k = record { client = k; seen = []; round = None }

abbrev pub with_client : CopyState → ClientState → CopyState
with_client c k = record c { client = k }

-- the highest release that it has seen of this volume; 0 where it has seen none
abbrev pub seen_of : CopyState → ℕ → ℕ
seen_of c id = number_or_none (get id c.seen)

-- ---- the round of an act in a volume

abbrev pub read_only_sites : LocEntry → List ℕ
read_only_sites e = map (λ (s : LocSite). s.server) (filter is_read_only_site e.sites)

-- the entry's read-only volume has this number
abbrev pub is_read_only_of : ℕ → LocEntry → Bool
is_read_only_of id e = not (nat_eq id 0) && nat_eq e.read_only id

-- through all its sites
abbrev pub new_round : ℕ → LocEntry → Round
new_round id e = record { volume = id; sites = read_only_sites e; offered = None; refusal = None }

abbrev pub round_by_entry : ℕ → Option LocEntry → Option Round
round_by_entry id None = None
round_by_entry id (Some e) = if is_read_only_of id e then Some (new_round id e) else None

-- what the table has of an operand
abbrev pub entry_located : List Location → Option Operand → Option LocEntry
entry_located table None = None
entry_located table (Some o) = find_location table o

abbrev pub round_begun : ℕ → Option Round → Option Round
round_begun id None = None
round_begun id (Some r) = if nat_eq r.volume id then Some r else None

abbrev pub round_or : Option Round → Option Round → Option Round
round_or None o = o
round_or (Some r) o = Some r

-- The round that the act's first call in the volume began: its sites are those that the entry had then. Before that call a new one, where the
-- volume is the read-only one of its operand's entry. There is none where it isn't. One round is kept: an act that went on from one volume to
-- another makes no more calls in the first.
abbrev pub round_in : CopyState → Going → ℕ → Option Round
round_in c act id = round_or (round_begun id c.round) (round_by_entry id (entry_located c.client.table (operand_in act id)))

-- the one in whose volume the act calls
abbrev pub round_of : CopyState → Going → Option Round
round_of c act = round_in c act (volume_asked (call_of c.client act))

-- ---- the act calls the first site that it hasn't left; where it has left all, it is answered

abbrev pub code_or_dead : Option Code → Code
code_or_dead None = dead_code
code_or_dead (Some code) = code

-- 105, the last release offered and the highest seen, where a site offered an older one; else the last refusal; else -1
abbrev pub round_left : Node → Round → ℕ → Option ℕ → Line
round_left me r seen (Some n) = lines.Older me n seen
round_left me r seen None = lines.Answer me (code_or_dead r.refusal)

abbrev pub left_line : Node → Round → ℕ → Line
left_line me r seen = round_left me r seen r.offered

-- it asks this server, under the next number
abbrev pub asking_at : ClientState → Going → ℕ → ClientState
asking_at k act server = record (asking k act) { callee = nodes.Server server }

abbrev pub calls_site : Node → CopyState → Going → ℕ → List Line → Step CopyState
calls_site me c act server ls = record {
  state = with_client c (asking_at c.client act server);
  lines = ls;
  sent = call_message me (asking_at c.client act server) act ∷ [];
}

abbrev pub leaves_all : Node → CopyState → Round → List Line → Step CopyState
leaves_all me c r ls = record { state = with_client c (ended c.client c.client.cache); lines = ls ++ left_line me r (seen_of c r.volume) ∷ []; sent = [] }

abbrev pub goes_round : Node → CopyState → Going → Round → List ℕ → List Line → Step CopyState
goes_round me c act r [] ls = leaves_all me c r ls
goes_round me c act r (server ∷ others) ls = calls_site me (record c { round = Some r }) act server ls

-- behind these lines
abbrev pub calls_round : Node → CopyState → Going → Round → List Line → Step CopyState
calls_round me c act r ls = goes_round me c act r r.sites ls

abbrev pub behind_first : List ℕ → List ℕ
behind_first [] = []
behind_first (server ∷ others) = others

-- it leaves the site that it called last
abbrev pub leaves_site : Node → CopyState → Going → Round → List Line → Step CopyState
leaves_site me c act r ls = calls_round me c act (record r { sites = behind_first r.sites }) ls

-- ---- a step of the client's row, in which a call of a read-only volume goes to its site

-- the act for which this client made a call since that number
abbrev pub asked_since : ℕ → ClientState → Option Going
asked_since last k = if nat_lt last k.last then k.running else None

abbrev pub as_it_is : CopyState → Step ClientState → Step CopyState
as_it_is c s = record { state = with_client c s.state; lines = s.lines; sent = s.sent }

-- the client with the number, the callee, the timeouts and the mark of a spoiled reply that it had before it made the call
abbrev pub unasked : ClientState → ClientState → ClientState
unasked before k = record k { last = before.last; callee = before.callee; tries = before.tries; spoiled = before.spoiled }

-- the call is made in the round, under the same number, or it isn't made
abbrev pub sited_in : Node → CopyState → Step ClientState → Going → Option Round → Step CopyState
sited_in me c s act None = as_it_is c s
sited_in me c s act (Some r) = calls_round me (with_client c (unasked c.client s.state)) act r s.lines

abbrev pub sited_by : Node → CopyState → Step ClientState → Option Going → Step CopyState
sited_by me c s None = as_it_is c s
sited_by me c s (Some act) = sited_in me c s act (round_of (with_client c s.state) act)

abbrev pub sited : Node → CopyState → Step ClientState → Step CopyState
sited me c s = sited_by me c s (asked_since c.client.last s.state)
