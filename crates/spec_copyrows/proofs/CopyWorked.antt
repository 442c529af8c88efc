-- Worked acts of a client in read-only volumes, by hand-made replies.
use Rattle.std.proofs.Common.{◌≡◌, ℕ, zero, suc, ◌+◌, List, [], ◌∷◌, ◌++◌, Option, Some, None, map, pos, negsuc, refl}
use Rattle.std.specs.Prelude.{Bool, true, false, codes, find}
use Rattle.spec_history.specs.declared.acts.Act.{Act}
use Rattle.spec_history.specs.declared.acts.Act.TheVariants as acts
use Rattle.spec_history.specs.declared.acts.Operand.TheVariants as operands
use Rattle.spec_history.specs.declared.acts.Path.{Path}
use Rattle.spec_history.specs.declared.lines.Line.{Line}
use Rattle.spec_history.specs.declared.lines.Line.TheVariants as lines
use Rattle.afs_num.specs.declared.calls.AfsFetchStatus.{AfsFetchStatus}
use Rattle.afs_num.specs.declared.calls.FsCall.TheVariants as calls
use Rattle.afs_num.specs.declared.calls.FsReply.TheVariants as replies
use Rattle.afs_num.specs.declared.histories.Body.TheVariants as bodies
use Rattle.afs_num.specs.declared.histories.ReadBody.TheVariants as seen
use Rattle.afs_num.specs.declared.histories.ReadSource.TheVariants.{Fetched}
use Rattle.afs_num.specs.declared.location_calls.LocEntry.{LocEntry}
use Rattle.afs_num.specs.declared.location_calls.LocReply.TheVariants as located
use Rattle.afs_num.specs.declared.location_calls.LocSite.{LocSite}
use Rattle.afs_num.specs.declared.messages.Call.TheVariants as ask
use Rattle.afs_num.specs.declared.messages.Carried.{Carried}
use Rattle.afs_num.specs.declared.messages.Carried.TheVariants as carried
use Rattle.afs_num.specs.declared.messages.Message.{Message}
use Rattle.afs_num.specs.declared.messages.Received.TheVariants.{Whole}
use Rattle.afs_num.specs.declared.messages.Reply.TheVariants as tell
use Rattle.afs_num.specs.declared.types.Fid.{Fid}
use Rattle.afs_num.specs.declared.types.Half.TheVariants as halves
use Rattle.afs_num.specs.declared.types.Node.{Node}
use Rattle.afs_num.specs.declared.types.Node.TheVariants.{Client, Loc, Server}
use Rattle.afs_xdr.specs.Words.{counted_at, opaque_at, word_at}
use Rattle.spec_ideal.specs.Directories.{bytes_below, count_at, directory_of, name_at, names_at, spelled_at, whole_at}
use Rattle.afs_num.specs.Names.{name_ok}
use Rattle.spec_rows.specs.ClientRow.{begin_row, client_row, new_client, opcode_of, volume_asked}
use Rattle.spec_rows.specs.Going.{began, ClientState, Going}
use Rattle.spec_rows.specs.States.{CacheEntry}
use Rattle.spec_rows.specs.Steps.{Step}
use Rattle.spec_copyrows.specs.CopyRow.{copies_reborn, copy_begin_row, copy_row, copy_timeout_row}
use Rattle.spec_copyrows.specs.Sites.{new_copies, round_in, CopyState, Round}

-- ---- a volume at server 1, with read-only sites at 2 and 3

abbrev home : ℕ
home = 536870912

abbrev copy : ℕ
copy = 536870913

abbrev entry_with : List LocSite → LocEntry
entry_with sites = record { name = codes "proj"; read_write = home; read_only = copy; backup = 0; flags = 12288; sites = record { server = 1; flags = 4 } ∷ sites }

abbrev entry : LocEntry
entry = entry_with (record { server = 2; flags = 2 } ∷ record { server = 3; flags = 2 } ∷ [])

abbrev file : Fid
file = record { volume = copy; vnode = 2; unique = 2 }

abbrev looks : Act
looks = acts.Stat (operands.Fid file)

-- one that saw this release of it
abbrev client : LocEntry → ℕ → CopyState
client e n = record (new_copies (new_client 1 64 (codes "guest") (e ∷ []))) { seen = (copy, n) ∷ [] }

abbrev status : AfsFetchStatus
status = record { interface_version = 1; file_type = 1; link_count = 1; length = 3; data_version = 2; author = 0; owner = 0; caller_access = 0; anonymous_access = 0; unix_mode_bits = 420; parent_vnode = 1; parent_unique = 1; seg_size = 0; client_mod_time = 0; server_mod_time = 0; group = 0; sync_counter = 5; spare1 = 0; spare2 = 0; spare3 = 0; spare4 = 0 }

-- under this release, with a promise until this tick
abbrev shows_until : ℕ → ℕ → Carried
shows_until n expiry = carried.Reply (tell.File (replies.FetchStatus status (record { version = 1; expiration_time = expiry; kind = 2 }) (record { release = n; spare1 = 0; spare2 = 0; spare3 = 0; spare4 = 0; spare5 = 0 })))

abbrev shows : ℕ → Carried
shows n = shows_until n 7200

abbrev refuses : ℕ → Carried
refuses code = carried.Refusal (record { 0 = pos code })

abbrev rights : Act
rights = acts.GetAccessList (operands.Fid file)

abbrev shows_rights : ℕ → Carried
shows_rights n = carried.Reply (tell.File (replies.FetchAcl [] status (record { release = n; spare1 = 0; spare2 = 0; spare3 = 0; spare4 = 0; spare5 = 0 })))

-- what a server answers, to the call of this number; or the call times out; or, once the act is answered, this one begins
pub data Turn : Type 0 where
  says : ℕ → ℕ → Carried → Turn
  waits : Turn
  begins : Act → Turn

abbrev message : Node → ℕ → ℕ → Carried → Message
message node opcode number x = record { head = record { half = halves.Reply; from = node; to = Client 1; epoch = 1; number = number; boot = 1; stamp = 0; opcode = opcode }; carried = x }

abbrev opcode_in : ClientState → Option Going → ℕ
opcode_in k None = 0
opcode_in k (Some act) = opcode_of k act

abbrev times_out : CopyState → Option Going → Step CopyState
times_out c None = record { state = c; lines = []; sent = [] }
times_out c (Some act) = copy_timeout_row (Client 1) c act

abbrev turn : CopyState → Turn → Step CopyState
turn c (says server number x) = copy_row (Client 1) c 0 9 (Whole (message (Server server) (opcode_in c.client c.client.running) number x))
turn c waits = times_out c c.client.running
turn c (begins act) = copy_begin_row (Client 1) c 0 act

-- whom it calls, and what it tells
pub record Shown : Type 0 where
  pub calls : List Node
  pub told : List Line

abbrev then_shown : Step CopyState → Shown → Shown
then_shown s rest = record { calls = map (λ (m : Message). m.head.to) s.sent ++ rest.calls; told = s.lines ++ rest.told }

abbrev shown : Step CopyState → List Turn → Shown
shown s [] = then_shown s (record { calls = []; told = [] })
shown s (t ∷ ts) = then_shown s (shown (turn s.state t) ts)

abbrev acts_of : CopyState → Act → List Turn → Shown
acts_of c act ts = shown (copy_begin_row (Client 1) c 0 act) ts

abbrev run_of : CopyState → List Turn → Shown
run_of c ts = acts_of c looks ts

-- of a client that saw this release
abbrev run : ℕ → List Turn → Shown
run n ts = run_of (client entry n) ts

abbrev begun_with : Act → Line
begun_with act = lines.Begin (Client 1) act

abbrev begun : Line
begun = begun_with looks

abbrev given : Line
given = lines.Given 9

abbrev read : Line
read = lines.Read (Client 1) file 5 Fetched (seen.Status (record { kind = 1; link_count = 1; length = 3; mode = 420 }))

abbrev code : ℕ → Line
code n = lines.Answer (Client 1) (record { 0 = pos n })

abbrev dead : Line
dead = lines.Answer (Client 1) (record { 0 = negsuc 0 })

abbrev older : ℕ → ℕ → Line
older n m = lines.Older (Client 1) n m

abbrev late : ℕ → ℕ → ℕ → Line
late server number n = lines.Timeout (Client 1) (Server server) 1 number n

-- ---- releases

-- the first site has a newer one
newer : run 1 (says 2 1 (shows 2) ∷ []) ≡ record { calls = Server 2 ∷ []; told = begun ∷ given ∷ read ∷ code 0 ∷ [] }
unfolding copy_begin_row copy_row begin_row client_row
newer = refl

-- the first has an older one, the second that which was seen
behind : run 2 (says 2 1 (shows 1) ∷ says 3 2 (shows 2) ∷ []) ≡ record { calls = Server 2 ∷ Server 3 ∷ []; told = begun ∷ given ∷ given ∷ read ∷ code 0 ∷ [] }
unfolding copy_begin_row copy_row begin_row client_row
behind = refl

-- both have an older one: the last that was offered, and the highest seen
both_behind : run 7 (says 2 1 (shows 5) ∷ says 3 2 (shows 4) ∷ []) ≡ record { calls = Server 2 ∷ Server 3 ∷ []; told = begun ∷ given ∷ given ∷ older 4 7 ∷ [] }
unfolding copy_begin_row copy_row begin_row client_row
both_behind = refl

-- the first has an older one, the second refuses
older_then_refused : run 2 (says 2 1 (shows 1) ∷ says 3 2 (refuses 103) ∷ []) ≡ record { calls = Server 2 ∷ Server 3 ∷ []; told = begun ∷ given ∷ given ∷ older 1 2 ∷ [] }
unfolding copy_begin_row copy_row begin_row client_row
older_then_refused = refl

-- an older one whose promise is over offers nothing: the site is asked again
over : run 2 (says 2 1 (shows_until 1 0) ∷ says 2 2 (refuses 102) ∷ says 3 3 (refuses 103) ∷ []) ≡ record { calls = Server 2 ∷ Server 2 ∷ Server 3 ∷ []; told = begun ∷ given ∷ given ∷ given ∷ code 103 ∷ [] }
unfolding copy_begin_row copy_row begin_row client_row
over = refl

-- a release that was used counts for the acts behind it
noted : run 1 (says 2 1 (shows 2) ∷ begins rights ∷ says 2 2 (shows_rights 1) ∷ says 3 3 (refuses 103) ∷ []) ≡
    record { calls = Server 2 ∷ Server 2 ∷ Server 3 ∷ []; told = begun ∷ given ∷ read ∷ code 0 ∷ begun_with rights ∷ given ∷ given ∷ older 1 2 ∷ [] }
unfolding copy_begin_row copy_row begin_row client_row
noted = refl

-- behind a crash none counts
forgets : (copies_reborn [] (client entry 7)).seen ≡ []
forgets = refl

-- a newer release takes away what is cached of the volume, and nothing of others
abbrev kept : ℕ → ℕ → ℕ → CacheEntry
kept volume vnode release = record { fid = record { volume = volume; vnode = vnode; unique = 1 }; index = 1; status = record { kind = 1; link_count = 1; length = 3; mode = 420 }; body = None; server = Server 2; expiry = 9000; release = release }

abbrev holding : CopyState
holding = record (client entry 1) { client = record (client entry 1).client { cache = kept copy 4 1 ∷ kept home 4 0 ∷ kept copy 6 0 ∷ [] } }

abbrev drop : ℕ → ℕ → Line
drop volume vnode = lines.Drop (Client 1) (record { volume = volume; vnode = vnode; unique = 1 })

newer_drops : run_of holding (says 2 1 (shows 2) ∷ []) ≡ record { calls = Server 2 ∷ []; told = begun ∷ given ∷ drop copy 4 ∷ drop copy 6 ∷ read ∷ code 0 ∷ [] }
unfolding copy_begin_row copy_row begin_row client_row
newer_drops = refl

-- ---- refusals and dead calls

-- busy is asked again at the same site; then both refuse, and the last refusal counts
refused : run 2 (says 2 1 (refuses 110) ∷ says 2 2 (refuses 13) ∷ says 3 3 (refuses 103) ∷ []) ≡ record { calls = Server 2 ∷ Server 2 ∷ Server 3 ∷ []; told = begun ∷ given ∷ given ∷ given ∷ code 103 ∷ [] }
unfolding copy_begin_row copy_row begin_row client_row
refused = refl

-- the ninth time that it is told to wait is the answer, whichever site tells it, and although one offered an older release
abbrev told_to_wait : ℕ → ℕ → ℕ → ℕ → List Turn → List Turn
told_to_wait server number reason zero more = more
told_to_wait server number reason (suc n) more = says server number (refuses reason) ∷ told_to_wait server (number + 1) reason n more

busy : run 2 (told_to_wait 2 1 110 4 (says 2 5 (shows 1) ∷ told_to_wait 3 6 106 5 [])) ≡ record {
  calls = Server 2 ∷ Server 2 ∷ Server 2 ∷ Server 2 ∷ Server 2 ∷ Server 3 ∷ Server 3 ∷ Server 3 ∷ Server 3 ∷ Server 3 ∷ [];
  told = begun ∷ given ∷ given ∷ given ∷ given ∷ given ∷ given ∷ given ∷ given ∷ given ∷ given ∷ code 106 ∷ [];
}
unfolding copy_begin_row copy_row begin_row client_row
busy = refl

-- the first is dead, and a late reply of it counts for nothing; the second serves
first_dead : run 2 (waits ∷ waits ∷ waits ∷ says 2 1 (shows 2) ∷ says 3 2 (shows 2) ∷ []) ≡
    record { calls = Server 2 ∷ Server 2 ∷ Server 2 ∷ Server 3 ∷ []; told = begun ∷ late 2 1 1 ∷ late 2 1 2 ∷ late 2 1 3 ∷ given ∷ given ∷ read ∷ code 0 ∷ [] }
unfolding copy_begin_row copy_row copy_timeout_row begin_row client_row
first_dead = refl

-- both are
all_dead : run 2 (waits ∷ waits ∷ waits ∷ waits ∷ waits ∷ waits ∷ []) ≡
    record { calls = Server 2 ∷ Server 2 ∷ Server 2 ∷ Server 3 ∷ Server 3 ∷ Server 3 ∷ []; told = begun ∷ late 2 1 1 ∷ late 2 1 2 ∷ late 2 1 3 ∷ late 3 2 1 ∷ late 3 2 2 ∷ late 3 2 3 ∷ dead ∷ [] }
unfolding copy_begin_row copy_row copy_timeout_row begin_row client_row
all_dead = refl

-- a change that is given up may have been made: what is cached of the volume goes, and the next site is asked
abbrev changes : Act
changes = acts.SetMode (operands.Fid file) 384

abbrev looks_again : Act
looks_again = acts.Stat (operands.Fid (kept copy 4 1).fid)

change_dead : acts_of holding changes (waits ∷ waits ∷ waits ∷ says 3 2 (refuses 30) ∷ begins looks_again ∷ []) ≡ record {
  calls = Server 2 ∷ Server 2 ∷ Server 2 ∷ Server 3 ∷ Server 2 ∷ [];
  told = begun_with changes ∷ late 2 1 1 ∷ late 2 1 2 ∷ late 2 1 3 ∷ drop copy 4 ∷ drop copy 6 ∷ given ∷ code 30 ∷ begun_with looks_again ∷ [];
}
unfolding copy_begin_row copy_row copy_timeout_row begin_row client_row
change_dead = refl

-- the entry has a read-only volume without a site: no call is made
nowhere : run_of (client (entry_with []) 2) [] ≡ record { calls = []; told = begun ∷ dead ∷ [] }
unfolding copy_begin_row begin_row
nowhere = refl

-- a site that is new is one too
new_site : run_of (client (entry_with (record { server = 3; flags = 3 } ∷ [])) 2) (says 3 1 (refuses 103) ∷ []) ≡ record { calls = Server 3 ∷ []; told = begun ∷ given ∷ code 103 ∷ [] }
unfolding copy_begin_row copy_row begin_row client_row
new_site = refl

-- ---- where volumes are

-- the sites are those of the act's first call in the volume, whatever the table has now
abbrev middle : Round
middle = record { volume = copy; sites = 3 ∷ []; offered = Some 1; refusal = None }

fixed : round_in (record (client (entry_with []) 2) { round = Some middle }) (began [] looks) copy ≡ Some middle
fixed = refl

-- each act begins at the first site
begins_anew : run_of (record (client entry 2) { round = Some middle }) [] ≡ record { calls = Server 2 ∷ []; told = begun ∷ [] }
unfolding copy_begin_row begin_row
begins_anew = refl

-- `mv proj/x proj.backup/y`, while the volume and its backup have moved: the backup is the one that the database tells behind the first walk
abbrev home_entry : ℕ → ℕ → LocEntry
home_entry server backup = record { name = codes "proj"; read_write = home; read_only = 0; backup = backup; flags = 20480; sites = record { server = server; flags = 4 } ∷ [] }

abbrev path : List ℕ → List ℕ → Path
path volume name = record { volume = volume; names = name ∷ [] }

abbrev moves : Act
moves = acts.Move (path (codes "proj") (codes "x")) (path (codes "proj.backup") (codes "y"))

abbrev directory : Carried
directory = carried.Reply (tell.File (replies.FetchData [] (record status { file_type = 2 }) (record { version = 1; expiration_time = 7200; kind = 2 }) (record { release = 0; spare1 = 0; spare2 = 0; spare3 = 0; spare4 = 0; spare5 = 0 })))

abbrev volume_of : Carried → ℕ
volume_of (carried.Call user (ask.File call)) = volume_asked call
volume_of x = 0

-- the server, and the volume of the call; none of a question
abbrev asked : Message → Node × ℕ
asked m = (m.head.to, volume_of m.carried)

abbrev hears : CopyState → Message → Step CopyState
hears c m = copy_row (Client 1) c 0 9 (Whole m)

abbrev asks : Step CopyState → List Message → List (Node × ℕ)
asks s [] = map asked s.sent
asks s (m ∷ ms) = map asked s.sent ++ asks (hears s.state m) ms

second : asks (copy_begin_row (Client 1) (new_copies (new_client 1 64 (codes "guest") (home_entry 1 (home + 2) ∷ []))) 0 moves)
    (message (Server 1) 130 1 (refuses 103) ∷ message Loc 504 2 (carried.Reply (tell.Location (located.GetEntryByName (home_entry 2 (home + 3))))) ∷ message (Server 2) 130 3 directory ∷ []) ≡
    (Server 1, home) ∷ (Loc, 0) ∷ (Server 2, home) ∷ (Server 2, home + 3) ∷ []
unfolding copy_begin_row copy_row begin_row client_row
second = refl

-- once the act walks there, it asks for what it asked for, although the backup has moved and is another
second_stays : asks (copy_begin_row (Client 1) (new_copies (new_client 1 64 (codes "guest") (home_entry 1 (home + 2) ∷ []))) 0 moves)
    (message (Server 1) 130 1 directory ∷ message (Server 1) 130 2 (refuses 103) ∷ message Loc 504 3 (carried.Reply (tell.Location (located.GetEntryByName (home_entry 2 (home + 3))))) ∷ []) ≡
    (Server 1, home) ∷ (Server 1, home + 2) ∷ (Loc, 0) ∷ (Server 2, home + 2) ∷ []
unfolding copy_begin_row copy_row begin_row client_row
second_stays = refl

-- it is told to wait four times in the first volume and five times in the second: the ninth time is the answer, and no call follows
abbrev waits_out : ℕ → ℕ → ℕ → List Message → List Message
waits_out number reason zero more = more
waits_out number reason (suc n) more = message (Server 1) 130 number (refuses reason) ∷ waits_out (number + 1) reason n more

abbrev so_often : ℕ → Node × ℕ → List (Node × ℕ)
so_often zero call = []
so_often (suc n) call = call ∷ so_often n call

busy_in_two : asks (copy_begin_row (Client 1) (new_copies (new_client 1 64 (codes "guest") (home_entry 1 (home + 2) ∷ []))) 0 moves)
    (waits_out 1 110 4 (message (Server 1) 130 5 directory ∷ waits_out 6 106 5 [])) ≡ so_often 5 (Server 1, home) ++ so_often 5 (Server 1, home + 2)
unfolding copy_begin_row copy_row begin_row client_row
busy_in_two = refl

abbrev breaks_it : ℕ → Message
breaks_it number = record { head = record { half = halves.Call; from = Server 2; to = Client 1; epoch = 1; number = number; boot = 1; stamp = 0; opcode = 204 }; carried = carried.Call [] (ask.File (calls.CallBack (file ∷ []) [])) }

abbrev tells : Step CopyState → List Message → List Line
tells s [] = s.lines
tells s (m ∷ ms) = s.lines ++ tells (hears s.state m) ms

-- a break overtakes an older release, and then a refusal: the same site is asked again, and neither counts
overtaken : asks (copy_begin_row (Client 1) (client entry 2) 0 looks) (breaks_it 1 ∷ message (Server 2) 132 1 (shows 1) ∷ breaks_it 2 ∷ message (Server 2) 132 2 (refuses 103) ∷ message (Server 2) 132 3 (refuses 13) ∷ message (Server 3) 132 4 (refuses 102) ∷ []) ≡
    (Server 2, copy) ∷ (Server 2, 0) ∷ (Server 2, copy) ∷ (Server 2, 0) ∷ (Server 2, copy) ∷ (Server 3, copy) ∷ []
unfolding copy_begin_row copy_row copy_timeout_row begin_row client_row
overtaken = refl

overtaken_told : tells (copy_begin_row (Client 1) (client entry 2) 0 looks) (breaks_it 1 ∷ message (Server 2) 132 1 (shows 1) ∷ message (Server 2) 132 2 (refuses 13) ∷ message (Server 3) 132 3 (refuses 102) ∷ []) ≡
    begun ∷ given ∷ lines.Drop (Client 1) file ∷ given ∷ given ∷ given ∷ code 102 ∷ []
unfolding copy_begin_row copy_row copy_timeout_row begin_row client_row
overtaken_told = refl

overtaken_refusal : tells (copy_begin_row (Client 1) (client (entry_with (record { server = 2; flags = 2 } ∷ [])) 2) 0 looks) (breaks_it 1 ∷ message (Server 2) 132 1 (refuses 13) ∷ message (Server 2) 132 2 (shows 2) ∷ []) ≡
    begun ∷ given ∷ lines.Drop (Client 1) file ∷ given ∷ given ∷ read ∷ code 0 ∷ []
unfolding copy_begin_row copy_row copy_timeout_row begin_row client_row
overtaken_refusal = refl

-- a release rises in the act: 105 tells the highest seen at the answer
abbrev names_all : Act
names_all = acts.StatAll (operands.Fid (record { volume = copy; vnode = 1; unique = 1 }))

abbrev directory_at : ℕ → Carried
directory_at n = carried.Reply (tell.File (replies.FetchData (0 ∷ 0 ∷ 0 ∷ 1 ∷ 0 ∷ 0 ∷ 0 ∷ 1 ∷ 97 ∷ 0 ∷ 0 ∷ 0 ∷ 0 ∷ 0 ∷ 0 ∷ 2 ∷ 0 ∷ 0 ∷ 0 ∷ 2 ∷ []) (record status { file_type = 2 }) (record { version = 1; expiration_time = 7200; kind = 2 }) (record { release = n; spare1 = 0; spare2 = 0; spare3 = 0; spare4 = 0; spare5 = 0 })))

abbrev all_of : ℕ → List ℕ → Carried
all_of n expiries = carried.Reply (tell.File (replies.BulkStatus (map (λ (x : ℕ). status) expiries) (map (λ (x : ℕ). record { version = 1; expiration_time = x; kind = 2 }) expiries) (record { release = n; spare1 = 0; spare2 = 0; spare3 = 0; spare4 = 0; spare5 = 0 })))

abbrev is_older : Line → Bool
is_older (lines.Older me n m) = true
is_older l = false

rises : (acts_of (client entry 2) names_all (says 2 1 (directory_at 1) ∷ says 3 2 (directory_at 3) ∷ says 3 3 (refuses 13) ∷ [])).calls ≡ Server 2 ∷ Server 3 ∷ Server 3 ∷ []
unfolding copy_begin_row copy_row copy_timeout_row begin_row client_row directory_of whole_at count_at word_at names_at name_at spelled_at opaque_at counted_at name_ok bytes_below
rises = refl

rises_told : find (λ (l : Line). is_older l) (acts_of (client entry 2) names_all (says 2 1 (directory_at 1) ∷ says 3 2 (directory_at 3) ∷ says 3 3 (refuses 13) ∷ [])).told ≡ Some (older 1 3)
unfolding copy_begin_row copy_row copy_timeout_row begin_row client_row directory_of whole_at count_at word_at names_at name_at spelled_at opaque_at counted_at name_ok bytes_below
rises_told = refl

-- an older release among the status of many is left, one whose promise is over is asked again at the same site
bulk : (acts_of (client entry 2) names_all (says 2 1 (directory_at 2) ∷ says 2 2 (all_of 1 (0 ∷ [])) ∷ says 2 3 (all_of 1 (7200 ∷ [])) ∷ says 3 4 (all_of 2 (7200 ∷ [])) ∷ [])).calls ≡ Server 2 ∷ Server 2 ∷ Server 2 ∷ Server 3 ∷ []
unfolding copy_begin_row copy_row copy_timeout_row begin_row client_row directory_of whole_at count_at word_at names_at name_at spelled_at opaque_at counted_at name_ok bytes_below
bulk = refl

-- an older directory
older_directory : (acts_of (client entry 2) names_all (says 2 1 (directory_at 1) ∷ [])).calls ≡ Server 2 ∷ Server 3 ∷ []
unfolding copy_begin_row copy_row copy_timeout_row begin_row client_row
older_directory = refl

-- told to wait, and then dead: nobody refused
wait_then_dead : run 2 (says 2 1 (refuses 106) ∷ waits ∷ waits ∷ waits ∷ says 3 3 (refuses 110) ∷ waits ∷ waits ∷ waits ∷ []) ≡
    record { calls = Server 2 ∷ Server 2 ∷ Server 2 ∷ Server 2 ∷ Server 3 ∷ Server 3 ∷ Server 3 ∷ Server 3 ∷ []; told = begun ∷ given ∷ late 2 2 1 ∷ late 2 2 2 ∷ late 2 2 3 ∷ given ∷ late 3 4 1 ∷ late 3 4 2 ∷ late 3 4 3 ∷ dead ∷ [] }
unfolding copy_begin_row copy_row copy_timeout_row begin_row client_row
wait_then_dead = refl

-- refused, then dead: the refusal is the answer
refused_then_dead : run 2 (says 2 1 (refuses 103) ∷ waits ∷ waits ∷ waits ∷ []) ≡
    record { calls = Server 2 ∷ Server 3 ∷ Server 3 ∷ Server 3 ∷ []; told = begun ∷ given ∷ late 3 2 1 ∷ late 3 2 2 ∷ late 3 2 3 ∷ code 103 ∷ [] }
unfolding copy_begin_row copy_row copy_timeout_row begin_row client_row
refused_then_dead = refl

-- a boot notice is answered at the same site, and counts no timeout away
noticed : run 2 (waits ∷ waits ∷ says 2 1 carried.Notice ∷ waits ∷ []) ≡
    record { calls = Server 2 ∷ Server 2 ∷ Server 2 ∷ Server 2 ∷ Server 3 ∷ []; told = begun ∷ late 2 1 1 ∷ late 2 1 2 ∷ given ∷ late 2 1 3 ∷ [] }
unfolding copy_begin_row copy_row copy_timeout_row begin_row client_row
noticed = refl

-- two read-only volumes: what a site of the first offered isn't told of the second
abbrev more_entry : LocEntry
more_entry = record { name = codes "more"; read_write = home + 5; read_only = home + 6; backup = 0; flags = 12288; sites = record { server = 4; flags = 2 } ∷ record { server = 1; flags = 4 } ∷ record { server = 2; flags = 2 } ∷ [] }

abbrev both_known : CopyState
both_known = record (new_copies (new_client 1 64 (codes "guest") (entry ∷ more_entry ∷ []))) { seen = (copy, 2) ∷ (home + 6, 9) ∷ [] }

abbrev across : Act
across = acts.Move (path (codes "proj.readonly") (codes "x")) (path (codes "more.readonly") (codes "y"))

abbrev dir_read : ℕ → Line
dir_read volume = lines.Read (Client 1) (record { volume = volume; vnode = 1; unique = 1 }) 5 Fetched (seen.Contents (bodies.Dir (record { name = codes "a"; vnode = 2; unique = 2 } ∷ [])))

two_copies : acts_of both_known across (says 2 1 (directory_at 1) ∷ says 3 2 (directory_at 2) ∷ says 4 3 (refuses 13) ∷ says 2 4 (refuses 102) ∷ []) ≡
    record { calls = Server 2 ∷ Server 3 ∷ Server 4 ∷ Server 2 ∷ []; told = begun_with across ∷ given ∷ given ∷ dir_read copy ∷ given ∷ given ∷ code 102 ∷ [] }
unfolding copy_begin_row copy_row copy_timeout_row begin_row client_row directory_of whole_at count_at word_at names_at name_at spelled_at opaque_at counted_at name_ok bytes_below
two_copies = refl

two_copies_older : acts_of both_known across (says 2 1 (directory_at 2) ∷ says 4 2 (directory_at 3) ∷ says 2 3 (refuses 102) ∷ []) ≡
    record { calls = Server 2 ∷ Server 4 ∷ Server 2 ∷ []; told = begun_with across ∷ given ∷ dir_read copy ∷ given ∷ given ∷ older 3 9 ∷ [] }
unfolding copy_begin_row copy_row copy_timeout_row begin_row client_row directory_of whole_at count_at word_at names_at name_at spelled_at opaque_at counted_at name_ok bytes_below
two_copies_older = refl

-- a backup is asked for at home, whatever release it has; where it is gone, the database is asked
abbrev backup_client : CopyState
backup_client = record (new_copies (new_client 1 64 (codes "guest") (record entry { backup = home + 7 } ∷ []))) { seen = (home + 7, 5) ∷ (copy, 5) ∷ [] }

abbrev backup_looks : Act
backup_looks = acts.Stat (operands.Fid (record { volume = home + 7; vnode = 2; unique = 2 }))

backup_dead : acts_of backup_client backup_looks (waits ∷ waits ∷ waits ∷ []) ≡ record { calls = Server 1 ∷ Server 1 ∷ Server 1 ∷ []; told = begun_with backup_looks ∷ late 1 1 1 ∷ late 1 1 2 ∷ late 1 1 3 ∷ dead ∷ [] }
unfolding copy_begin_row copy_row copy_timeout_row begin_row client_row
backup_dead = refl

backup_gone : (acts_of backup_client backup_looks (says 1 1 (refuses 103) ∷ [])).calls ≡ Server 1 ∷ Loc ∷ []
unfolding copy_begin_row copy_row copy_timeout_row begin_row client_row
backup_gone = refl

-- the database tells the read-only volume's number, and with it the sites
asks_first : asks (copy_begin_row (Client 1) (new_copies (new_client 1 64 (codes "guest") (home_entry 1 0 ∷ []))) 0 (acts.ListNames (operands.Path (path (codes "proj.readonly") (codes "x")))))
    (message Loc 504 1 (carried.Reply (tell.Location (located.GetEntryByName entry))) ∷ message (Server 2) 130 2 (refuses 103) ∷ message (Server 3) 130 3 (refuses 111) ∷ []) ≡
    (Loc, 0) ∷ (Server 2, copy) ∷ (Server 3, copy) ∷ []
unfolding copy_begin_row copy_row copy_timeout_row begin_row client_row
asks_first = refl

-- the read-write volume of a family with read-only sites is asked for at home, and it has no next site
abbrev home_looks : Act
home_looks = acts.Stat (operands.Fid (record { volume = home; vnode = 2; unique = 2 }))

at_home : acts_of (client entry 2) home_looks (waits ∷ waits ∷ waits ∷ []) ≡ record { calls = Server 1 ∷ Server 1 ∷ Server 1 ∷ []; told = begun_with home_looks ∷ late 1 1 1 ∷ late 1 1 2 ∷ late 1 1 3 ∷ dead ∷ [] }
unfolding copy_begin_row copy_row copy_timeout_row begin_row client_row
at_home = refl

at_home_refused : (acts_of (client entry 2) home_looks (says 1 1 (refuses 103) ∷ [])).calls ≡ Server 1 ∷ Loc ∷ []
unfolding copy_begin_row copy_row copy_timeout_row begin_row client_row
at_home_refused = refl

at_home_release : acts_of (client entry 2) home_looks (says 1 1 (shows 0) ∷ []) ≡ record { calls = Server 1 ∷ []; told = begun_with home_looks ∷ given ∷ lines.Read (Client 1) (record { volume = home; vnode = 2; unique = 2 }) 5 Fetched (seen.Status (record { kind = 1; link_count = 1; length = 3; mode = 420 })) ∷ code 0 ∷ [] }
unfolding copy_begin_row copy_row copy_timeout_row begin_row client_row
at_home_release = refl

-- the entry of the reply's own fid goes too, with its body: it is fetched when the file is opened
abbrev holds_file : CopyState
holds_file = record (client entry 1) { client = record (client entry 1).client { cache = record (kept copy 2 1) { fid = file; index = 5; body = Some (bodies.File (97 ∷ 98 ∷ 99 ∷ [])); expiry = 0 } ∷ [] } }

abbrev opens : Act
opens = acts.Open (operands.Fid file)

newer_drops_its_own : acts_of holds_file looks (says 2 1 (shows 2) ∷ begins opens ∷ []) ≡ record { calls = Server 2 ∷ Server 2 ∷ []; told = begun ∷ given ∷ lines.Drop (Client 1) file ∷ read ∷ code 0 ∷ begun_with opens ∷ [] }
unfolding copy_begin_row copy_row copy_timeout_row begin_row client_row
newer_drops_its_own = refl

-- under the same release its body stays
same_keeps : (acts_of (record holds_file { seen = (copy, 1) ∷ [] }) looks (says 2 1 (shows 1) ∷ begins opens ∷ [])).calls ≡ Server 2 ∷ []
unfolding copy_begin_row copy_row copy_timeout_row begin_row client_row
same_keeps = refl

-- a directory whose promise is over offers no release, neither an older nor a newer one
abbrev directory_over : ℕ → Carried
directory_over n = carried.Reply (tell.File (replies.FetchData [] (record status { file_type = 2 }) (record { version = 1; expiration_time = 0; kind = 2 }) (record { release = n; spare1 = 0; spare2 = 0; spare3 = 0; spare4 = 0; spare5 = 0 })))

directories_over : acts_of (client entry 2) names_all (says 2 1 (directory_over 1) ∷ says 2 2 (directory_over 9) ∷ says 2 3 (refuses 13) ∷ says 3 4 (refuses 102) ∷ []) ≡
    record { calls = Server 2 ∷ Server 2 ∷ Server 2 ∷ Server 3 ∷ []; told = begun_with names_all ∷ given ∷ given ∷ given ∷ given ∷ code 102 ∷ [] }
unfolding copy_begin_row copy_row copy_timeout_row begin_row client_row
directories_over = refl

directory_over_unseen : acts_of (client entry 2) names_all (says 2 1 (directory_over 9) ∷ says 2 2 (directory_at 1) ∷ says 3 3 (refuses 102) ∷ []) ≡
    record { calls = Server 2 ∷ Server 2 ∷ Server 3 ∷ []; told = begun_with names_all ∷ given ∷ given ∷ given ∷ older 1 2 ∷ [] }
unfolding copy_begin_row copy_row copy_timeout_row begin_row client_row
directory_over_unseen = refl

-- the first operand is asked for, and the name has other numbers meanwhile: the second is looked up in what the database told
abbrev out_of_copy : Act
out_of_copy = acts.Move (path (codes "proj.readonly") (codes "x")) (path (codes "proj") (codes "y"))

second_after_first : asks (copy_begin_row (Client 1) (new_copies (new_client 1 64 (codes "guest") (home_entry 1 0 ∷ []))) 0 out_of_copy)
    (message Loc 504 1 (carried.Reply (tell.Location (located.GetEntryByName (record entry { read_write = home + 9 })))) ∷ message (Server 2) 130 2 directory ∷ []) ≡
    (Loc, 0) ∷ (Server 2, copy) ∷ (Server 1, home + 9) ∷ []
unfolding copy_begin_row copy_row copy_timeout_row begin_row client_row
second_after_first = refl
