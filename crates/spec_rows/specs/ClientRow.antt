-- The row of a client, a cache manager: how an act begins, and what it does with a message.
use Rattle.std.specs.Prelude.{suc, zero, ◌||◌, Result, Ok, Err, ℕ, ◌+◌, List, [], ◌∷◌, ◌++◌, Bool, true, false, not, ◌&&◌, Option, Some, None, ℤ, pos, negsuc, nat_eq, nat_lt, map, filter, find, take, drop, length, if◌then◌else◌}
use Rattle.std.specs.List.{list_any, flat_map}
use Rattle.spec_ideal.specs.Directories.{directory_of}
use Rattle.spec_ideal.specs.Operations.{volume_called, volume_changed, is_number}
use Rattle.spec_rows.specs.Going.{reads_of, ClientState, Going, Left, Need, Seek, reads, reads_status, gives_back, locates, answers, next, call_for, began, with_read, base_of, filled, no_entry, find_location, operand_in, volume_at}
use Rattle.spec_rows.specs.Scopes.{may_change}
use Rattle.spec_rows.specs.ServerRow.{replied, boot_told, seat_for, not_served, bad_fields}
use Rattle.spec_records.specs.Entries.{same_entry, site_of}
use Rattle.spec_rows.specs.States.{CacheEntry, Gift, KnownBoot, Location, Seat}
use Rattle.spec_rows.specs.Steps.{Step}
use Rattle.spec_history.specs.declared.acts.Act.{Act}
use Rattle.spec_history.specs.declared.acts.Operand.{Operand}
use Rattle.spec_history.specs.declared.acts.Operand.TheVariants as operands
use Rattle.spec_history.specs.declared.lines.Line.{Line}
use Rattle.spec_history.specs.declared.lines.Line.TheVariants as lines
use Rattle.spec_model.specs.Calls.{Admitted, admitted, call_seated, is_sent_again, last_timeout}
use Rattle.spec_model.specs.Calls as pairs
use Rattle.spec_model.specs.CellRows as cell_rows
use Rattle.spec_model.specs.CellRows.{client_calls}
use Rattle.afs_num.specs.declared.location_calls.LocCall.{LocCall}
use Rattle.afs_num.specs.declared.location_calls.LocCall.TheVariants as loc
use Rattle.afs_num.specs.declared.location_calls.LocEntry.{LocEntry}
use Rattle.afs_num.specs.declared.location_calls.LocReply.{LocReply}
use Rattle.afs_num.specs.declared.location_calls.LocReply.TheVariants as answered
use Rattle.std.specs.Str.{bytes_eq}
use Rattle.spec_model.specs.FsRows.{call_number}
use Rattle.spec_shape.specs.Tables.{is_among}
use Rattle.afs_num.specs.Fids.{same_fid}
use Rattle.afs_num.specs.Keyed.{keyed, put_first}
use Rattle.afs_num.specs.Nodes.{same_node}
use Rattle.afs_num.specs.declared.types.Code.{Code}
use Rattle.afs_num.specs.declared.types.Fid.{Fid}
use Rattle.afs_num.specs.declared.types.Node.{Node}
use Rattle.afs_num.specs.declared.types.Node.TheVariants as nodes
use Rattle.afs_num.specs.declared.types.Half.TheVariants as halves
use Rattle.afs_num.specs.declared.types.Head.{Head}
use Rattle.afs_num.specs.declared.directories.Name.{Name}
use Rattle.afs_num.specs.declared.calls.AfsCallBack.{AfsCallBack}
use Rattle.afs_num.specs.declared.calls.AfsFetchStatus.{AfsFetchStatus}
use Rattle.afs_num.specs.declared.calls.AfsVolSync.{AfsVolSync}
use Rattle.afs_num.specs.declared.calls.FsCall.{FsCall}
use Rattle.afs_num.specs.declared.calls.FsCall.TheVariants as calls
use Rattle.afs_num.specs.declared.calls.FsReply.{FsReply}
use Rattle.afs_num.specs.declared.calls.FsReply.TheVariants as replies
use Rattle.afs_num.specs.declared.messages.Call.TheVariants as ask
use Rattle.afs_num.specs.declared.messages.Carried.{Carried}
use Rattle.afs_num.specs.declared.messages.Carried.TheVariants as carried
use Rattle.afs_num.specs.declared.messages.Message.{Message}
use Rattle.afs_num.specs.declared.messages.Received.{Received}
use Rattle.afs_num.specs.declared.messages.Received.TheVariants.{Nothing, Unserved, Unreadable, Whole}
use Rattle.afs_num.specs.declared.messages.Reply.TheVariants as tell
use Rattle.afs_num.specs.declared.histories.Body.{Body}
use Rattle.afs_num.specs.declared.histories.Body.TheVariants as bodies
use Rattle.afs_num.specs.declared.histories.ReadBody.{ReadBody}
use Rattle.afs_num.specs.declared.histories.ReadBody.TheVariants as seen
use Rattle.afs_num.specs.declared.histories.ReadSource.{ReadSource}
use Rattle.afs_num.specs.declared.histories.ReadSource.TheVariants.{Cached, Fetched}
use Rattle.afs_num.specs.declared.histories.ReadStatus.{ReadStatus}

-- ---- the cache, the entry that was used last first

abbrev pub find_cached : Fid → List CacheEntry → Option CacheEntry
find_cached fid cache = find (λ e. same_fid e.fid fid) cache

-- an entry that is used stands first
abbrev pub used_first : CacheEntry → List CacheEntry → List CacheEntry
used_first entry cache = entry ∷ filter (λ e. not (same_fid e.fid entry.fid)) cache

-- a reply without a body leaves that of the same index
abbrev pub body_kept : Option Body → ℕ → Option CacheEntry → Option Body
body_kept (Some body) index old = Some body
body_kept None index None = None
body_kept None index (Some old) = if nat_eq old.index index then old.body else None

-- the entry as it is put beside what the cache holds of its fid
abbrev pub joined : CacheEntry → List CacheEntry → CacheEntry
joined entry cache = record entry { body = body_kept entry.body entry.index (find_cached entry.fid cache) }

-- a reply's entry takes the place of the one of its fid; where there are too many, the one that was used first goes
abbrev pub put_entry : ℕ → CacheEntry → List CacheEntry → List CacheEntry
put_entry capacity entry cache = take capacity (used_first (joined entry cache) cache)

abbrev pub put_entries : ℕ → List CacheEntry → List CacheEntry → List CacheEntry
put_entries capacity [] cache = cache
put_entries capacity (e ∷ es) cache = put_entries capacity es (put_entry capacity e cache)

abbrev pub is_trusted : ℕ → CacheEntry → Bool
is_trusted clock entry = nat_lt clock entry.expiry

-- after the client's own store, a trusted entry of the fid has the reply's status, what the store made of its body, under the
-- reply's index, and keeps its expiry; an entry that isn't trusted stays
abbrev pub refreshed : ℕ → Fid → ℕ → ReadStatus → (Option Body → Option Body) → CacheEntry → CacheEntry
refreshed clock fid index status made entry =
    if (same_fid entry.fid fid && is_trusted clock entry) then record entry { index = index; status = status; body = made entry.body } else entry

-- an entry that is trusted stands just below this index
abbrev pub stands_below : ℕ → ℕ → Option CacheEntry → Bool
stands_below clock index None = true
stands_below clock index (Some entry) = if is_trusted clock entry then nat_eq (entry.index + 1) index else true

-- ---- what replies tell

-- the names that bytes spell; other bytes spell none
abbrev pub names_told : Result (List Name) ℕ → List Name
names_told (Ok names) = names
names_told (Err offset) = []

-- what a body is, by the type in its status
abbrev pub body_told : ℕ → List ℕ → Body
body_told kind contents = if nat_eq kind 1 then bodies.File contents else (if nat_eq kind 2 then bodies.Dir (names_told (directory_of contents)) else bodies.Link contents)

abbrev pub status_told : AfsFetchStatus → ReadStatus
status_told status = record { kind = status.file_type; link_count = status.link_count; length = status.length; mode = status.unix_mode_bits }

abbrev pub cache_entry_told : Node → Fid → AfsFetchStatus → AfsCallBack → AfsVolSync → Option Body → CacheEntry
cache_entry_told server fid status callback sync body = record {
  fid = fid;
  index = status.sync_counter;
  status = status_told status;
  body = body;
  server = server;
  expiry = callback.expiration_time;
  release = sync.release;
}

-- one entry for each fid, status and promise
abbrev pub entries_told : Node → AfsVolSync → List Fid → List AfsFetchStatus → List AfsCallBack → List CacheEntry
entries_told server sync (f ∷ fs) (s ∷ ss) (c ∷ cs) = cache_entry_told server f s c sync None ∷ entries_told server sync fs ss cs
entries_told server sync fs ss cs = []

-- ---- calls

-- 1 stands where there is none: an act calls in no volume that its table lacks, or that has no site
abbrev pub or_first : Option ℕ → ℕ
or_first None = 1
or_first (Some i) = i

abbrev pub home_of : Location → ℕ
home_of l = or_first (site_of l)

abbrev pub server_or_first : Option Location → ℕ
server_or_first None = 1
server_or_first (Some l) = home_of l

-- Where the volume of this operand is: where the table has it now. A copy is asked for where its read-write volume is: a backup is
-- always there. For a read-only volume this is not all: `spec_copyrows` has the rows of a client that looks at its sites.
abbrev pub server_for : List Location → Option Operand → ℕ
server_for table None = 1
server_for table (Some o) = server_or_first (find_location table o)

abbrev pub number_or_none : Option ℕ → ℕ
number_or_none None = 0
number_or_none (Some n) = n

-- the volume of the call's first fid
abbrev pub volume_asked : FsCall → ℕ
volume_asked (calls.BulkStatus (f ∷ fs)) = f.volume
volume_asked call = number_or_none (volume_called call)

-- a server's boot number is 1 until it tells another
abbrev pub boot_or_first : Option KnownBoot → ℕ
boot_or_first None = 1
boot_or_first (Some k) = k.boot

abbrev pub boot_of : Node → List KnownBoot → ℕ
boot_of server boots = boot_or_first (keyed (λ (k : KnownBoot). k.server) same_node server boots)

abbrev pub with_boot : Node → ℕ → List KnownBoot → List KnownBoot
with_boot server boot boots = put_first (λ (k : KnownBoot). k.server) same_node (record { server = server; boot = boot }) boots

-- ---- promises are given back: server by server, so many in one call at most

abbrev pub most_given : ℕ
most_given = 50

abbrev pub gift_of : CacheEntry → Gift
gift_of e = record { server = e.server; fid = e.fid; expiry = e.expiry }

abbrev pub gifts_to : List Gift → ℕ → List Gift
gifts_to gs n = filter (λ g. same_node g.server (nodes.Server n)) gs

-- by the numbers of their servers
abbrev pub in_order : List Gift → List Gift
in_order gs = flat_map (gifts_to gs) (1 ∷ 2 ∷ 3 ∷ 4 ∷ 5 ∷ 6 ∷ 7 ∷ 8 ∷ [])

abbrev pub batch_to : Node → ℕ → List Gift → List Gift
batch_to server zero gs = []
batch_to server (suc k) [] = []
batch_to server (suc k) (g ∷ gs) = if same_node g.server server then g ∷ batch_to server k gs else []

-- the first that go in one call
abbrev pub batch : List Gift → List Gift
batch [] = []
batch (g ∷ gs) = batch_to g.server most_given (g ∷ gs)

abbrev pub behind_batch : List Gift → List Gift
behind_batch gs = drop (length (batch gs)) gs

abbrev pub given_promise : Gift → AfsCallBack
given_promise g = record { version = 1; expiration_time = g.expiry; kind = 2 }

abbrev pub gift_call : List Gift → FsCall
gift_call gs = calls.GiveUpCallBacks (map (λ g. g.fid) gs) (map given_promise gs)

abbrev pub first_server_of : List Gift → Node
first_server_of [] = nodes.Server 1
first_server_of (g ∷ gs) = g.server

-- ---- the client's unanswered call

abbrev pub call_by : List Gift → Need → FsCall
call_by gifts gives_back = gift_call (batch gifts)
call_by gifts need = call_for need

abbrev pub call_of : ClientState → Going → FsCall
call_of c act = call_by c.gifts (next act)

abbrev pub callee_by : ClientState → Going → Need → Node
callee_by c act gives_back = first_server_of c.gifts
callee_by c act need = nodes.Server (server_for c.table (operand_in act (volume_asked (call_for need))))

abbrev pub callee_of : ClientState → Going → Node
callee_of c act = callee_by c act (next act)

abbrev pub opcode_of : ClientState → Going → ℕ
opcode_of c act = call_number (call_of c act)

abbrev pub call_head : Node → ClientState → Going → Head
call_head me c act = record {
  half = halves.Call;
  from = me;
  to = c.callee;
  epoch = c.epoch;
  number = c.last;
  boot = boot_of c.callee c.boots;
  stamp = 0;
  opcode = opcode_of c act;
}

abbrev pub call_message : Node → ClientState → Going → Message
call_message me c act = record { head = call_head me c act; carried = carried.Call c.user (ask.File (call_of c act)) }

-- the act asks what it needs, under the next number
abbrev pub asking : ClientState → Going → ClientState
asking c act = record c { last = c.last + 1; tries = 0; running = Some act; callee = callee_of c act; spoiled = false; seeking = None }

-- behind these lines the act goes on with a call
abbrev pub calls_step : Node → ClientState → Going → (List Line → List Line) → Step ClientState
calls_step me c act front = record {
  state = asking c act;
  lines = front [];
  sent = call_message me (asking c act) act ∷ [];
}

-- ---- what it asks of the location database

-- a path's volume is asked for by its name, without the end of a copy; a fid's by its number
abbrev pub question : Operand → LocCall
question (operands.Path p) = loc.GetEntryByName (base_of p.volume)
question (operands.Fid f) = loc.GetEntryById f.volume

abbrev pub seek_head : Node → ClientState → Operand → Head
seek_head me c o = record {
  half = halves.Call;
  from = me;
  to = nodes.Loc;
  epoch = c.epoch;
  number = c.last;
  boot = boot_of nodes.Loc c.boots;
  stamp = 0;
  opcode = cell_rows.call_number (ask.Location (question o));
}

abbrev pub seek_message : Node → ClientState → Operand → Message
seek_message me c o = record { head = seek_head me c o; carried = carried.Call c.user (ask.Location (question o)) }

-- it asks under the next number, and waits for no server
abbrev pub seeking_for : ClientState → Seek → List CacheEntry → ClientState
seeking_for c k cache = record c { last = c.last + 1; tries = 0; running = None; gifts = []; callee = nodes.Loc; spoiled = false; cache = cache; seeking = Some k }

-- behind these lines the act asks where a volume is
abbrev pub seeks_step : Node → ClientState → Seek → List CacheEntry → (List Line → List Line) → Step ClientState
seeks_step me c k cache front = record { state = seeking_for c k cache; lines = front []; sent = seek_message me (seeking_for c k cache) k.operand ∷ [] }

-- ---- answers

abbrev pub zero_code : Code
zero_code = record { 0 = pos 0 }

-- no act runs, and the cache is this
abbrev pub ended : ClientState → List CacheEntry → ClientState
ended c cache = record c { running = None; gifts = []; cache = cache; seeking = None }

abbrev pub ends_step : Node → ClientState → List CacheEntry → (List Line → List Line) → Code → Step ClientState
ends_step me c cache front code = record { state = ended c cache; lines = front (lines.Answer me code ∷ []); sent = [] }

-- lines of given-up entries, before these
abbrev pub dropped : Node → List CacheEntry → List Line → List Line
dropped me [] ls = ls
dropped me (e ∷ es) ls = lines.Drop me e.fid ∷ dropped me es ls

-- ---- what an act reads. It goes as far as it comes without a message

-- a read: what it shows, and whether a reply brought it
pub record Look : Type 0 where
  pub fid : Fid
  pub index : ℕ
  pub source : ReadSource
  pub body : ReadBody

abbrev pub look_at : ReadSource → CacheEntry → ReadBody → Look
look_at source entry body = record { fid = entry.fid; index = entry.index; source = source; body = body }

-- the act that has read so far, the cache, and its reads
pub record Walked : Type 0 where
  pub act : Going
  pub cache : List CacheEntry
  pub looks : List Look

abbrev pub not_walked : Going → List CacheEntry → Walked
not_walked act cache = record { act = act; cache = cache; looks = [] }

-- this read, and then those
abbrev pub behind : Look → Walked → Walked
behind l w = record { act = w.act; cache = w.cache; looks = l ∷ w.looks }

-- what a trusted entry shows of what is needed: its body, if it holds that, or its status
abbrev pub body_seen : Option Body → Option ReadBody
body_seen None = None
body_seen (Some body) = Some (seen.Contents body)

abbrev pub shown_by : Need → CacheEntry → Option ReadBody
shown_by (reads f) entry = body_seen entry.body
shown_by (reads_status f) entry = Some (seen.Status entry.status)
shown_by need entry = None

abbrev pub walked_with : (Going → List CacheEntry → Walked) → Going → List CacheEntry → CacheEntry → Option ReadBody → Walked
walked_with more act cache entry None = not_walked act cache
walked_with more act cache entry (Some body) = behind (look_at Cached entry body) (more (with_read entry.fid body act) (used_first entry cache))

abbrev pub walked_at : (Going → List CacheEntry → Walked) → ℕ → Going → List CacheEntry → Need → Option CacheEntry → Walked
walked_at more clock act cache need None = not_walked act cache
walked_at more clock act cache need (Some entry) = if is_trusted clock entry then walked_with more act cache entry (shown_by need entry) else not_walked act cache

abbrev pub walked_by : (Going → List CacheEntry → Walked) → ℕ → Going → List CacheEntry → Need → Walked
walked_by more clock act cache (reads f) = walked_at more clock act cache (reads f) (find_cached f cache)
walked_by more clock act cache (reads_status f) = walked_at more clock act cache (reads_status f) (find_cached f cache)
walked_by more clock act cache need = not_walked act cache

-- what the act needs is read from the cache while it is trusted, at most so often
abbrev pub walked : ℕ → ℕ → Going → List CacheEntry → Walked
walked zero clock act cache = not_walked act cache
walked (suc n) clock act cache = walked_by (walked n clock) clock act cache (next act)

abbrev pub most_reads : Going → ℕ
most_reads act = reads_of act.act

-- the lines of reads, before these
abbrev pub looked : Node → List Look → List Line → List Line
looked me [] ls = ls
looked me (l ∷ looks) ls = lines.Read me l.fid l.index l.source l.body ∷ looked me looks ls

-- behind these lines the act has come so far: it is answered, or calls; what it gives back it may have none of
abbrev pub goes_by : Node → ClientState → (List Line → List Line) → Walked → Need → Step ClientState
goes_by me c front w (answers n) = ends_step me c w.cache (λ ls. front (looked me w.looks ls)) (record { 0 = pos n })
goes_by me c front w (locates o) = seeks_step me c (record { act = w.act; operand = o; left = None }) w.cache (λ ls. front (looked me w.looks ls))
goes_by me c front w need = calls_step me (record c { cache = w.cache }) w.act (λ ls. front (looked me w.looks ls))

abbrev pub goes_on : Node → ClientState → (List Line → List Line) → Walked → Step ClientState
goes_on me c front w = goes_by me c front w (next w.act)

-- it goes on as far as the cache shows what it needs
abbrev pub walks_on : Node → ClientState → ℕ → (List Line → List Line) → Going → List CacheEntry → Step ClientState
walks_on me c clock front act cache = goes_on me c front (walked (most_reads act) clock act cache)

-- ---- promises are given back

abbrev pub gives_by : Node → ClientState → (List Line → List Line) → Going → List Gift → Step ClientState
gives_by me c front act [] = ends_step me c c.cache front zero_code
gives_by me c front act (g ∷ gs) = calls_step me (record c { gifts = g ∷ gs }) act front

abbrev pub trusted_in : ℕ → List CacheEntry → List CacheEntry
trusted_in clock cache = filter (is_trusted clock) cache

abbrev pub untrusted_in : ℕ → List CacheEntry → List CacheEntry
untrusted_in clock cache = filter (λ e. not (is_trusted clock e)) cache

-- all entries that are trusted go, and then their servers are told
abbrev pub gives_all : Node → ClientState → ℕ → Going → (List Line → List Line) → Step ClientState
gives_all me c clock act front =
    gives_by me (record c { cache = untrusted_in clock c.cache }) (λ ls. front (dropped me (trusted_in clock c.cache) ls)) act (in_order (map gift_of (trusted_in clock c.cache)))

-- ---- an act begins

abbrev pub begins_by : Node → ClientState → ℕ → (List Line → List Line) → Going → Need → Step ClientState
begins_by me c clock front act gives_back = gives_all me c clock act front
begins_by me c clock front act need = walks_on me c clock front act c.cache

-- the client `me`, which is idle, begins an act
unfoldable pub begin_row : Node → ClientState → ℕ → Act → Step ClientState
begin_row me c clock act = begins_by me (record c { busy = 0; moved = 0 }) clock (λ ls. lines.Begin me act ∷ ls) (began c.table act) (next (began c.table act))

-- ---- a message comes

abbrev pub told_step : ClientState → ℕ → List Message → Step ClientState
told_step c place sent = record { state = c; lines = lines.Given place ∷ []; sent = sent }

abbrev pub ignores : ClientState → ℕ → Step ClientState
ignores c place = told_step c place []

-- the lines of a step that is given the message of this place
abbrev pub with_given : ℕ → List Line → List Line
with_given place ls = lines.Given place ∷ ls

abbrev pub answers_step : Node → ClientState → ℕ → Code → Step ClientState
answers_step me c place code = ends_step me c c.cache (with_given place) code

-- the call is made again under the next number
abbrev pub calls_again : Node → ClientState → ℕ → Going → Step ClientState
calls_again me c place act = calls_step me c act (with_given place)

-- ---- replies to reading calls. One whose promise has ended by now can't be used: the client calls again

abbrev pub read_lines : Node → ℕ → Look → List Line → List Line
read_lines me place look ls = lines.Given place ∷ looked me (look ∷ []) ls

abbrev pub takes_entry : Node → ClientState → ℕ → ℕ → Going → CacheEntry → ReadBody → Step ClientState
takes_entry me c clock place act entry body =
    if is_trusted clock entry then walks_on me c clock (read_lines me place (look_at Fetched entry body)) (with_read entry.fid body act) (put_entry c.capacity entry c.cache)
    else calls_again me c place act

-- what they show is read in their order, once all of them stand in the cache
abbrev pub status_look : CacheEntry → Look
status_look e = look_at Fetched e (seen.Status e.status)

abbrev pub with_statuses : List CacheEntry → Going → Going
with_statuses [] act = act
with_statuses (e ∷ es) act = with_statuses es (with_read e.fid (seen.Status e.status) act)

abbrev pub takes_entries : Node → ClientState → ℕ → ℕ → Going → List CacheEntry → Step ClientState
takes_entries me c clock place act entries =
    if list_any (λ e. not (is_trusted clock e)) entries then calls_again me c place act
    else walks_on me c clock (λ ls. with_given place (looked me (map status_look entries) ls)) (with_statuses entries act) (put_entries c.capacity entries c.cache)

-- rights come without a promise: an entry of an older index or release goes behind the read
abbrev pub is_older : Fid → ℕ → ℕ → CacheEntry → Bool
is_older fid index release e = same_fid e.fid fid && (nat_lt e.index index || nat_lt e.release release)

abbrev pub takes_rights : Node → ClientState → ℕ → ℕ → Going → Fid → ℕ → ℕ → List ℕ → Step ClientState
takes_rights me c clock place act fid index release text =
    walks_on me c clock (λ ls. read_lines me place (record { fid = fid; index = index; source = Fetched; body = seen.AccessList text }) (dropped me (filter (is_older fid index release) c.cache) ls)) (with_read fid (seen.AccessList text) act)
    (filter (λ e. not (is_older fid index release e)) c.cache)

-- ---- replies to changing calls

-- the entries of a volume
abbrev pub left_in : Option ℕ → List CacheEntry → List CacheEntry
left_in None cache = cache
left_in (Some id) cache = filter (λ e. not (nat_eq e.fid.volume id)) cache

abbrev pub given_up_in : Option ℕ → List CacheEntry → List CacheEntry
given_up_in None cache = []
given_up_in (Some id) cache = filter (λ e. nat_eq e.fid.volume id) cache

-- the entries that a call, answered with 0, leaves, and those that it takes away
abbrev pub left_after : FsCall → List CacheEntry → List CacheEntry
left_after call cache = filter (λ e. not (may_change call e.fid)) cache

abbrev pub dropped_after : FsCall → List CacheEntry → List CacheEntry
dropped_after call cache = filter (λ e. may_change call e.fid) cache

-- the entries of what the call may have changed are given up
abbrev pub takes_plain : Node → ClientState → ℕ → FsCall → Step ClientState
takes_plain me c place call = ends_step me c (left_after call c.cache) (λ ls. with_given place (dropped me (dropped_after call c.cache) ls)) zero_code

abbrev pub takes_stored : Node → ClientState → ℕ → ℕ → Fid → ℕ → ReadStatus → (Option Body → Option Body) → Step ClientState
takes_stored me c clock place fid index status made = ends_step me c (map (refreshed clock fid index status made) c.cache) (with_given place) zero_code

-- of a reply that a break overtook nothing is cached
abbrev pub takes_bytes : Node → ClientState → ℕ → ℕ → Fid → AfsFetchStatus → List ℕ → FsCall → Step ClientState
takes_bytes me c clock place fid status contents call =
    if c.spoiled then takes_plain me c place call else takes_stored me c clock place fid status.sync_counter (status_told status) (λ body. Some (bodies.File contents))

-- the body under a status or rights that were stored is that of the version before: a trusted entry of another is given up
abbrev pub takes_status : Node → ClientState → ℕ → ℕ → Fid → AfsFetchStatus → FsCall → Step ClientState
takes_status me c clock place fid status call =
    if (not c.spoiled && stands_below clock status.sync_counter (find_cached fid c.cache)) then takes_stored me c clock place fid status.sync_counter (status_told status) (λ body. body) else takes_plain me c place call

-- ---- replies, by their calls

abbrev pub takes_data : Node → ClientState → ℕ → ℕ → Going → List ℕ → AfsFetchStatus → AfsCallBack → AfsVolSync → FsCall → Step ClientState
takes_data me c clock place act contents status callback sync (calls.FetchData fid position wanted) =
    takes_entry me c clock place act (cache_entry_told c.callee fid status callback sync (Some (body_told status.file_type contents))) (seen.Contents (body_told status.file_type contents))
takes_data me c clock place act contents status callback sync call = takes_plain me c place call

abbrev pub takes_shown : Node → ClientState → ℕ → ℕ → Going → AfsFetchStatus → AfsCallBack → AfsVolSync → FsCall → Step ClientState
takes_shown me c clock place act status callback sync (calls.FetchStatus fid) =
    takes_entry me c clock place act (cache_entry_told c.callee fid status callback sync None) (seen.Status (status_told status))
takes_shown me c clock place act status callback sync call = takes_plain me c place call

abbrev pub takes_bulk : Node → ClientState → ℕ → ℕ → Going → List AfsFetchStatus → List AfsCallBack → AfsVolSync → FsCall → Step ClientState
takes_bulk me c clock place act statuses callbacks sync (calls.BulkStatus fids) = takes_entries me c clock place act (entries_told c.callee sync fids statuses callbacks)
takes_bulk me c clock place act statuses callbacks sync call = takes_plain me c place call

abbrev pub takes_list : Node → ClientState → ℕ → ℕ → Going → List ℕ → AfsFetchStatus → AfsVolSync → FsCall → Step ClientState
takes_list me c clock place act text status sync (calls.FetchAcl fid) = takes_rights me c clock place act fid status.sync_counter sync.release text
takes_list me c clock place act text status sync call = takes_plain me c place call

abbrev pub takes_set : Node → ClientState → ℕ → ℕ → AfsFetchStatus → FsCall → Step ClientState
takes_set me c clock place status (calls.StoreData fid set position wanted file_length contents) = takes_bytes me c clock place fid status contents (calls.StoreData fid set position wanted file_length contents)
takes_set me c clock place status (calls.StoreAcl fid acl) = takes_status me c clock place fid status (calls.StoreAcl fid acl)
takes_set me c clock place status (calls.StoreStatus fid set) = takes_status me c clock place fid status (calls.StoreStatus fid set)
takes_set me c clock place status call = takes_plain me c place call

abbrev pub takes_given : Node → ClientState → ℕ → Going → FsCall → Step ClientState
takes_given me c place act (calls.GiveUpCallBacks fids callbacks) = gives_by me c (with_given place) act (behind_batch c.gifts)
takes_given me c place act call = takes_plain me c place call

abbrev pub takes : Node → ClientState → ℕ → ℕ → Going → FsCall → FsReply → Step ClientState
takes me c clock place act call (replies.FetchData contents status callback sync) = takes_data me c clock place act contents status callback sync call
takes me c clock place act call (replies.FetchAcl text status sync) = takes_list me c clock place act text status sync call
takes me c clock place act call (replies.FetchStatus status callback sync) = takes_shown me c clock place act status callback sync call
takes me c clock place act call (replies.BulkStatus statuses callbacks sync) = takes_bulk me c clock place act statuses callbacks sync call
takes me c clock place act call (replies.StoreData status sync) = takes_set me c clock place status call
takes me c clock place act call (replies.StoreAcl status sync) = takes_set me c clock place status call
takes me c clock place act call (replies.StoreStatus status sync) = takes_set me c clock place status call
takes me c clock place act call replies.GiveUpCallBacks = takes_given me c place act call
takes me c clock place act call reply = takes_plain me c place call

-- ---- refusals

-- 106 and 110: the volume is out of service, or busy, for a while
abbrev pub is_busy_code : Code → Bool
is_busy_code code = is_number code.0 106 || is_number code.0 110

-- so often an act asks again
abbrev pub most_busy : ℕ
most_busy = 8

-- 103 and 111: the server has no such volume, or not any more
abbrev pub is_gone_code : Code → Bool
is_gone_code code = is_number code.0 103 || is_number code.0 111

-- so often an act asks where a volume went
abbrev pub most_moved : ℕ
most_moved = 4

abbrev pub asks_where : Node → ClientState → ℕ → Going → Code → Option Operand → Step ClientState
asks_where me c place act code None = answers_step me c place code
asks_where me c place act code (Some o) =
    seeks_step me (record c { moved = c.moved + 1 }) (record { act = act; operand = o; left = Some (record { server = c.callee; code = code }) }) c.cache (with_given place)

abbrev pub refuses_for_good : Node → ClientState → ℕ → Going → Code → Step ClientState
refuses_for_good me c place act code =
    if (is_gone_code code && nat_lt c.moved most_moved) then asks_where me c place act code (operand_in act (volume_asked (call_of c act))) else answers_step me c place code

abbrev pub refuses : Node → ClientState → ℕ → Going → Code → Step ClientState
refuses me c place act code =
    if (is_busy_code code && nat_lt c.busy most_busy) then calls_again me (record c { busy = c.busy + 1 }) place act else refuses_for_good me c place act code

-- ---- the message that answers the unanswered call

-- the reply to a reading call that a break overtook isn't used
abbrev pub is_reading : Option ℕ → Bool
is_reading None = true
is_reading (Some id) = false

abbrev pub is_spent : ClientState → Going → Bool
is_spent c act = c.spoiled && is_reading (volume_changed (call_of c act))

-- the call is sent again with the boot number that its callee told
abbrev pub knows_boot : ClientState → ℕ → ClientState
knows_boot c boot = record c { boots = with_boot c.callee boot c.boots }

abbrev pub resends_step : Node → ClientState → ℕ → Going → ℕ → Step ClientState
resends_step me c place act boot = told_step (knows_boot c boot) place (call_message me (knows_boot c boot) act ∷ [])

abbrev pub counts : Node → ClientState → ℕ → ℕ → Going → Head → Carried → Step ClientState
counts me c clock place act head (carried.Call user call) = ignores c place
counts me c clock place act head (carried.Refusal code) = if is_spent c act then calls_again me c place act else refuses me c place act code
counts me c clock place act head (carried.Reply (tell.File reply)) = if is_spent c act then calls_again me c place act else takes me c clock place act (call_of c act) reply
counts me c clock place act head (carried.Reply reply) = ignores c place
counts me c clock place act head carried.Notice = resends_step me c place act head.boot

-- whether a reply or notice is that to the unanswered call: it comes from its callee, and has its key and its opcode
abbrev pub is_awaited : ClientState → Going → Head → Bool
is_awaited c act head =
    same_node head.from c.callee && (nat_eq head.epoch c.epoch && (nat_eq head.number c.last && nat_eq head.opcode (opcode_of c act)))

abbrev pub awaits : Node → ClientState → ℕ → ℕ → Head → Carried → Option Going → Step ClientState
awaits me c clock place head x None = ignores c place
awaits me c clock place head x (Some act) = if is_awaited c act head then counts me c clock place act head x else ignores c place

-- ---- a server breaks promises

abbrev pub is_among_fids : Fid → List Fid → Bool
is_among_fids f [] = false
is_among_fids f (g ∷ fs) = if same_fid g f then true else is_among_fids f fs

-- one of the fids is among the call's arguments
abbrev pub names_call : List Fid → FsCall → Bool
names_call fs (calls.FetchData fid position wanted) = is_among_fids fid fs
names_call fs (calls.FetchAcl fid) = is_among_fids fid fs
names_call fs (calls.FetchStatus fid) = is_among_fids fid fs
names_call fs (calls.StoreData fid status position wanted file_length contents) = is_among_fids fid fs
names_call fs (calls.StoreAcl fid acl) = is_among_fids fid fs
names_call fs (calls.StoreStatus fid status) = is_among_fids fid fs
names_call fs (calls.RemoveFile directory name) = is_among_fids directory fs
names_call fs (calls.CreateFile directory name status) = is_among_fids directory fs
names_call fs (calls.Rename directory name target other) = is_among_fids directory fs || is_among_fids target fs
names_call fs (calls.Symlink directory name target status) = is_among_fids directory fs
names_call fs (calls.Link directory name fid) = is_among_fids directory fs || is_among_fids fid fs
names_call fs (calls.MakeDir directory name status) = is_among_fids directory fs
names_call fs (calls.RemoveDir directory name) = is_among_fids directory fs
names_call fs (calls.BulkStatus fids) = list_any (λ f. is_among_fids f fs) fids
names_call fs call = false

abbrev pub names_act : ClientState → List Fid → Option Going → Bool
names_act c fs None = false
names_act c fs (Some act) = names_call fs (call_of c act)

-- what answers promises that are given back is never spoiled
abbrev pub is_spoiled_by_all : FsCall → Bool
is_spoiled_by_all (calls.GiveUpCallBacks fids callbacks) = false
is_spoiled_by_all call = true

-- a call to this server waits
abbrev pub is_waiting : ClientState → Node → Option Going → Bool
is_waiting c server None = false
is_waiting c server (Some act) = same_node c.callee server && is_spoiled_by_all (call_of c act)

abbrev pub drop_line : Node → Fid → Line
drop_line me f = lines.Drop me f

-- a server's call is answered, and the reply is kept
abbrev pub replies_step : ClientState → ℕ → Head → (List Line) → Carried → Step ClientState
replies_step c place head ls x = record {
  state = record c { seats = call_seated (seat_for head (replied c.epoch head x)) c.seats };
  lines = lines.Given place ∷ ls;
  sent = replied c.epoch head x ∷ [];
}

abbrev pub reply_carried : FsReply → Carried
reply_carried reply = carried.Reply (tell.File reply)

-- the entries go, and a reply that names one of the fids is spoiled
abbrev pub without_fids : ClientState → List Fid → ClientState
without_fids c fs = record c {
  cache = filter (λ e. not (is_among_fids e.fid fs)) c.cache;
  spoiled = if names_act c fs c.running then true else c.spoiled;
}

-- all that the server promised goes, and its reply is spoiled
abbrev pub without_server : ClientState → Node → ClientState
without_server c server = record c {
  cache = filter (λ e. not (same_node e.server server)) c.cache;
  spoiled = if is_waiting c server c.running then true else c.spoiled;
}

abbrev pub refused_with : ℤ → Carried
refused_with code = carried.Refusal (record { 0 = code })

abbrev pub breaks : Node → ClientState → ℕ → Head → FsCall → Step ClientState
breaks me c place head (calls.CallBack fs callbacks) = replies_step (without_fids c fs) place head (map (drop_line me) fs) (reply_carried replies.CallBack)
breaks me c place head calls.InitCallBackState = replies_step (without_server c head.from) place head (lines.DropAll me head.from ∷ []) (reply_carried replies.InitCallBackState)
breaks me c place head calls.Probe = replies_step c place head [] (reply_carried replies.Probe)
breaks me c place head call = replies_step c place head [] (refused_with not_served)

-- calls of other interfaces aren't served
abbrev pub runs_carried : Node → ClientState → ℕ → Head → Carried → Step ClientState
runs_carried me c place head (carried.Call user (ask.File call)) = breaks me c place head call
runs_carried me c place head (carried.Call user call) = replies_step c place head [] (refused_with not_served)
runs_carried me c place head x = ignores c place

-- a call that is to run
abbrev pub runs_call : Node → ClientState → ℕ → Head → Received → Step ClientState
runs_call me c place head Nothing = ignores c place
runs_call me c place head (Unserved other) = replies_step c place head [] (refused_with not_served)
runs_call me c place head (Unreadable other) = replies_step c place head [] (refused_with (if is_among client_calls head.opcode then bad_fields else not_served))
runs_call me c place head (Whole m) = runs_carried me c place head m.carried

-- first the boot number is compared, then the pair; a call in progress or older than its caller's last one gets no answer
abbrev pub admits_call : Node → ClientState → ℕ → Head → Received → Admitted Message → Step ClientState
admits_call me c place head r pairs.runs = runs_call me c place head r
admits_call me c place head r (pairs.kept reply) = told_step c place (reply ∷ [])
admits_call me c place head r pairs.in_progress = ignores c place
admits_call me c place head r pairs.older = ignores c place
admits_call me c place head r (pairs.wrong_boot boot) = told_step c place (boot_told c.epoch head ∷ [])

abbrev pub called : Node → ClientState → ℕ → Head → Received → Step ClientState
called me c place head r = admits_call me c place head r (admitted c.epoch c.seats head)

-- ---- what a message is

abbrev pub whole : Head → Carried → Received
whole head x = Whole (record { head = head; carried = x })

abbrev pub hears : Node → ClientState → ℕ → ℕ → Head → Carried → Step ClientState
hears me c clock place head (carried.Call user call) = called me c place head (whole head (carried.Call user call))
hears me c clock place head x = awaits me c clock place head x c.running

-- a message to another node does nothing
abbrev pub takes_in : Node → ClientState → ℕ → ℕ → Received → Step ClientState
takes_in me c clock place Nothing = ignores c place
takes_in me c clock place (Unserved head) = if same_node head.to me then called me c place head (Unserved head) else ignores c place
takes_in me c clock place (Unreadable head) = if same_node head.to me then called me c place head (Unreadable head) else ignores c place
takes_in me c clock place (Whole m) = if same_node m.head.to me then hears me c clock place m.head m.carried else ignores c place

-- the client `me`, given the message of this place, where it doesn't wait for the location database
unfoldable pub client_row : Node → ClientState → ℕ → ℕ → Received → Step ClientState
client_row me c clock place m = takes_in me c clock place m

-- ---- the unanswered call is timed out

-- -1: the call was given up
abbrev pub dead_code : Code
dead_code = record { 0 = negsuc 0 }

abbrev pub timeout_line : Node → ClientState → ℕ → Line
timeout_line me c count = lines.Timeout me c.callee c.epoch c.last count

abbrev pub tries_again : Node → ClientState → Going → Step ClientState
tries_again me c act = record {
  state = record c { tries = c.tries + 1 };
  lines = timeout_line me c (c.tries + 1) ∷ [];
  sent = call_message me c act ∷ [];
}

-- a changing call that was given up may still run: no entry of its volume stays
abbrev pub gives_up : Node → ClientState → FsCall → Step ClientState
gives_up me c call = ends_step me c (left_in (volume_changed call) c.cache) (λ ls. timeout_line me c last_timeout ∷ dropped me (given_up_in (volume_changed call) c.cache) ls) dead_code

-- the call is sent again, and at its last timeout given up
abbrev pub timeout_row : Node → ClientState → Going → Step ClientState
timeout_row me c act = if is_sent_again c.tries then tries_again me c act else gives_up me c (call_of c act)

-- ---- the location database answers

-- the table has just this entry
abbrev pub has_location : Location → List Location → Bool
has_location l t = list_any (same_entry l) t

abbrev pub stands_for : Location → Location → Bool
stands_for l k = bytes_eq k.name l.name || nat_eq k.read_write l.read_write

-- it takes the place of all that have its name or its number
abbrev pub put_location : Location → List Location → List Location
put_location l t = if has_location l t then t else filter (λ k. not (stands_for l k)) t ++ l ∷ []

abbrev pub entry_in : LocReply → Option LocEntry
entry_in (answered.GetEntryById e) = Some e
entry_in (answered.GetEntryByName e) = Some e
entry_in reply = None

-- the act is answered
abbrev pub sought_ends : Node → ClientState → (List Line → List Line) → Code → Step ClientState
sought_ends me c front code = record { state = record c { seeking = None }; lines = front (lines.Answer me code ∷ []); sent = [] }

abbrev pub no_entry_code : Code
no_entry_code = record { 0 = pos no_entry }

-- the table with this entry in it
abbrev pub knows_place : Location → ClientState → ClientState
knows_place l c = record c { table = put_location l c.table }

-- the act goes on, where the entry has the number that it lacked
abbrev pub located_on : Node → ClientState → ℕ → ℕ → Going → Option ℕ → Step ClientState
located_on me c clock place act None = sought_ends me c (with_given place) no_entry_code
located_on me c clock place act (Some id) = walks_on me c clock (with_given place) (filled c.table act) c.cache

-- the call that was refused is made anew, unless the entry lacks the number, or names the server that was left
abbrev pub moved_on : Node → ClientState → ℕ → Going → Left → Option ℕ → Step ClientState
moved_on me c place act left None = sought_ends me c (with_given place) no_entry_code
moved_on me c place act left (Some id) = if same_node (callee_of c act) left.server then sought_ends me c (with_given place) left.code else calls_again me c place act

-- The table has the entry then. Where it had just this one, that names the server that was left.
abbrev pub located : Node → ClientState → ℕ → ℕ → Seek → Location → Option Left → Step ClientState
located me c clock place k l None = located_on me (knows_place l c) clock place k.act (volume_at (knows_place l c).table k.operand)
located me c clock place k l (Some left) =
    if has_location l c.table then sought_ends me c (with_given place) left.code else moved_on me (knows_place l c) place k.act left (volume_at (knows_place l c).table k.operand)

abbrev pub located_by : Node → ClientState → ℕ → ℕ → Seek → Option LocEntry → Step ClientState
located_by me c clock place k None = ignores c place
located_by me c clock place k (Some e) = located me c clock place k e k.left

-- the database told its boot number: it is asked again
abbrev pub seeks_again : Node → ClientState → ℕ → Seek → ℕ → Step ClientState
seeks_again me c place k boot =
    told_step (record c { boots = with_boot nodes.Loc boot c.boots }) place (seek_message me (record c { boots = with_boot nodes.Loc boot c.boots }) k.operand ∷ [])

-- where the database refuses, that is the act's answer
abbrev pub sought_by : Node → ClientState → ℕ → ℕ → Seek → Head → Carried → Step ClientState
sought_by me c clock place k head (carried.Refusal code) = sought_ends me c (with_given place) code
sought_by me c clock place k head (carried.Reply (tell.Location reply)) = located_by me c clock place k (entry_in reply)
sought_by me c clock place k head carried.Notice = seeks_again me c place k head.boot
sought_by me c clock place k head x = ignores c place

abbrev pub is_answer : Carried → Bool
is_answer (carried.Call user call) = false
is_answer x = true

-- it answers the call for which the act waits
abbrev pub is_sought : Node → ClientState → Seek → Head → Carried → Bool
is_sought me c k head x =
    (is_answer x && same_node head.to me) && (same_node head.from nodes.Loc && (nat_eq head.epoch c.epoch && (nat_eq head.number c.last && nat_eq head.opcode (cell_rows.call_number (ask.Location (question k.operand))))))

-- while an act waits for the database, what isn't its answer comes as to a client without an act
abbrev pub sought_or : Node → ClientState → ℕ → ℕ → Message → Option Seek → Step ClientState
sought_or me c clock place m None = client_row me c clock place (Whole m)
sought_or me c clock place m (Some k) = if is_sought me c k m.head m.carried then sought_by me c clock place k m.head m.carried else client_row me c clock place (Whole m)

-- the client `me`, whatever it waits for
abbrev pub guest_row : Node → ClientState → ℕ → ℕ → Received → Step ClientState
guest_row me c clock place (Whole m) = sought_or me c clock place m c.seeking
guest_row me c clock place r = client_row me c clock place r

-- and its call to the database is timed out
abbrev pub seeks_on : Node → ClientState → Seek → Step ClientState
seeks_on me c k = record {
  state = record c { tries = c.tries + 1 };
  lines = timeout_line me c (c.tries + 1) ∷ [];
  sent = seek_message me c k.operand ∷ [];
}

abbrev pub seek_timeout_row : Node → ClientState → Seek → Step ClientState
seek_timeout_row me c k = if is_sent_again c.tries then seeks_on me c k else sought_ends me c (λ ls. timeout_line me c last_timeout ∷ ls) dead_code

-- the act that began and isn't answered
abbrev pub act_sought : Option Seek → Option Going
act_sought None = None
act_sought (Some k) = Some k.act

abbrev pub act_by : Option Going → Option Seek → Option Going
act_by None o = act_sought o
act_by (Some act) o = Some act

abbrev pub act_of : ClientState → Option Going
act_of c = act_by c.running c.seeking

-- ---- a new client, and one that begins again: it keeps nothing, has the next epoch, and is handed this table

abbrev pub new_client : ℕ → ℕ → List ℕ → List Location → ClientState
new_client epoch capacity user table = record {
  epoch = epoch;
  last = 0;
  user = user;
  capacity = capacity;
  table = table;
  boots = [];
  seats = [];
  cache = [];
  running = None;
  busy = 0;
  callee = nodes.Server 1;
  tries = 0;
  spoiled = false;
  gifts = [];
  seeking = None;
  moved = 0;
}

abbrev pub reborn : List Location → ClientState → ClientState
reborn table c = new_client (c.epoch + 1) c.capacity c.user table
