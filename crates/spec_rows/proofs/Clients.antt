-- Worked steps of one client, whose replies are given by hand.
use Rattle.std.proofs.Common.{◌≡◌, ℕ, List, [], ◌∷◌, Option, Some, None, pos, negsuc, refl}
use Rattle.std.specs.Prelude.{codes, true, false, Bool, map}
use Rattle.spec_history.specs.declared.acts.Act.TheVariants as acts
use Rattle.spec_history.specs.declared.acts.Operand.TheVariants as operands
use Rattle.spec_history.specs.declared.lines.Line.{Line}
use Rattle.spec_history.specs.declared.lines.Line.TheVariants as lines
use Rattle.afs_num.specs.declared.calls.AfsCallBack.{AfsCallBack}
use Rattle.afs_num.specs.declared.calls.AfsFetchStatus.{AfsFetchStatus}
use Rattle.afs_num.specs.declared.calls.AfsVolSync.{AfsVolSync}
use Rattle.afs_num.specs.declared.calls.FsCall.{FsCall}
use Rattle.afs_num.specs.declared.calls.FsCall.TheVariants as calls
use Rattle.afs_num.specs.declared.calls.FsReply.{FsReply}
use Rattle.afs_num.specs.declared.calls.FsReply.TheVariants as replies
use Rattle.afs_num.specs.declared.directories.Name.{Name}
use Rattle.afs_num.specs.declared.histories.Body.TheVariants as bodies
use Rattle.afs_num.specs.declared.histories.ReadBody.{ReadBody}
use Rattle.afs_num.specs.declared.histories.ReadBody.TheVariants as seen
use Rattle.afs_num.specs.declared.histories.ReadSource.TheVariants.{Cached, Fetched}
use Rattle.afs_num.specs.declared.messages.Call.TheVariants as ask
use Rattle.afs_num.specs.declared.messages.Carried.{Carried}
use Rattle.afs_num.specs.declared.messages.Carried.TheVariants as carried
use Rattle.afs_num.specs.declared.messages.Message.{Message}
use Rattle.afs_num.specs.declared.messages.Received.{Received}
use Rattle.afs_num.specs.declared.messages.Received.TheVariants.{Unserved, Unreadable, Whole}
use Rattle.afs_num.specs.declared.messages.Reply.TheVariants as tell
use Rattle.afs_num.specs.declared.types.Fid.{Fid}
use Rattle.afs_num.specs.declared.types.Half.TheVariants as halves
use Rattle.afs_num.specs.declared.types.Head.{Head}
use Rattle.afs_num.specs.declared.types.Node.{Node}
use Rattle.afs_num.specs.declared.types.Node.TheVariants.{Server, Client}
use Rattle.spec_records.specs.Entries.{exists_read_write, read_write_site}
use Rattle.spec_rows.specs.ClientRow.{begin_row, client_row, new_client, call_head, timeout_row}
use Rattle.spec_rows.specs.Going.{ClientState, Going}
use Rattle.spec_rows.specs.ServerRow.{replied}
use Rattle.spec_rows.specs.States.{CacheEntry, Location}
use Rattle.spec_rows.specs.Steps.{Step}

abbrev home : ℕ
home = 536870912

abbrev at : ℕ → Fid
at n = record { volume = home; vnode = n; unique = n }

abbrev me : Node
me = Client 1

abbrev known_entry : List ℕ → ℕ → ℕ → Location
known_entry name id server = record { name = name; read_write = id; read_only = 0; backup = 0; flags = exists_read_write; sites = record { server = server; flags = read_write_site } ∷ [] }

abbrev proj : List Location
proj = known_entry (codes "proj") home 1 ∷ known_entry (codes "more") 7 2 ∷ []

abbrev client : ClientState
client = new_client 1 64 (codes "guest") proj

-- an act begins; the reply to its call comes at the place 9
abbrev begins : ClientState → acts.the_data → Step ClientState
begins c act = begin_row me c 0 act

abbrev hears_by : ClientState → Carried → Option Going → List Line → Step ClientState
hears_by c x None ls = record { state = c; lines = ls; sent = [] }
hears_by c x (Some act) ls = client_row me c 0 9 (Whole (replied 1 (call_head me c act) x))

abbrev hears : ClientState → Carried → Step ClientState
hears c x = hears_by c x c.running []

abbrev replies_with : FsReply → Carried
replies_with reply = carried.Reply (tell.File reply)

abbrev refuses_with : ℕ → Carried
refuses_with code = carried.Refusal (record { 0 = pos code })

abbrev status : ℕ → ℕ → AfsFetchStatus
status kind index = record {
  interface_version = 1;
  file_type = kind;
  link_count = 1;
  length = 3;
  data_version = 1;
  author = 0;
  owner = 0;
  caller_access = 127;
  anonymous_access = 127;
  unix_mode_bits = 420;
  parent_vnode = 1;
  parent_unique = 1;
  seg_size = 0;
  client_mod_time = 0;
  server_mod_time = 0;
  group = 0;
  sync_counter = index;
  spare1 = 0;
  spare2 = 0;
  spare3 = 0;
  spare4 = 0;
}

abbrev promise : ℕ → AfsCallBack
promise expiry = record { version = 1; expiration_time = expiry; kind = 2 }

abbrev sync : AfsVolSync
sync = record { release = 0; spare1 = 0; spare2 = 0; spare3 = 0; spare4 = 0; spare5 = 0 }

abbrev entry : ℕ → ℕ → Node → ℕ → Option (List ℕ) → CacheEntry
entry n index server expiry None = record { fid = at n; index = index; status = record { kind = 1; link_count = 1; length = 3; mode = 420 }; body = None; server = server; expiry = expiry; release = 0 }
entry n index server expiry (Some bytes) = record { fid = at n; index = index; status = record { kind = 1; link_count = 1; length = 3; mode = 420 }; body = Some (bodies.File bytes); server = server; expiry = expiry; release = 0 }

abbrev holding : List CacheEntry → ClientState
holding cache = record client { cache = cache }

abbrev calls_of : List Message → List Carried
calls_of ms = map (λ m. m.carried) ms

abbrev answer : ℕ → Line
answer code = lines.Answer me (record { 0 = pos code })

-- ---- the status of a directory's names

abbrev lists_two : ClientState
lists_two = (begins (holding (record (entry 1 1 (Server 1) 10 None) { body = Some (bodies.Dir (record { name = codes "a"; vnode = 2; unique = 2 } ∷ record { name = codes "b"; vnode = 4; unique = 4 } ∷ [])) } ∷ [])) (acts.StatAll (operands.Fid (at 1)))).state

bulk_is_asked : calls_of (begins (holding (record (entry 1 1 (Server 1) 10 None) { body = Some (bodies.Dir (record { name = codes "a"; vnode = 2; unique = 2 } ∷ record { name = codes "b"; vnode = 4; unique = 4 } ∷ [])) } ∷ [])) (acts.StatAll (operands.Fid (at 1)))).sent
    ≡ carried.Call (codes "guest") (ask.File (calls.BulkStatus (at 2 ∷ at 4 ∷ []))) ∷ []
unfolding begin_row
bulk_is_asked = refl

bulk_is_read : (hears lists_two (replies_with (replies.BulkStatus (status 1 3 ∷ status 1 5 ∷ []) (promise 20 ∷ promise 20 ∷ []) sync))).lines ≡
    lines.Given 9 ∷ lines.Read me (at 2) 3 Fetched (seen.Status (record { kind = 1; link_count = 1; length = 3; mode = 420 })) ∷ lines.Read me (at 4) 5 Fetched (seen.Status (record { kind = 1; link_count = 1; length = 3; mode = 420 })) ∷ answer 0 ∷ []
unfolding begin_row client_row
bulk_is_read = refl

bulk_is_cached : map (λ e. e.fid) (hears lists_two (replies_with (replies.BulkStatus (status 1 3 ∷ status 1 5 ∷ []) (promise 20 ∷ promise 20 ∷ []) sync))).state.cache ≡ at 4 ∷ at 2 ∷ at 1 ∷ []
unfolding begin_row client_row
bulk_is_cached = refl

-- one of the promises has ended: the client calls again
bulk_has_ended : (hears lists_two (replies_with (replies.BulkStatus (status 1 3 ∷ status 1 5 ∷ []) (promise 20 ∷ promise 0 ∷ []) sync))).lines ≡ lines.Given 9 ∷ []
unfolding begin_row client_row
bulk_has_ended = refl

-- an empty directory asks nothing; a file has no names
empty_is_done : (begins (holding (record (entry 1 1 (Server 1) 10 None) { body = Some (bodies.Dir []) } ∷ [])) (acts.StatAll (operands.Fid (at 1)))).lines ≡ lines.Begin me (acts.StatAll (operands.Fid (at 1))) ∷ lines.Read me (at 1) 1 Cached (seen.Contents (bodies.Dir [])) ∷ answer 0 ∷ []
unfolding begin_row
empty_is_done = refl

file_has_no_names : (begins (holding (entry 2 1 (Server 1) 10 (Some (codes "abc")) ∷ [])) (acts.StatAll (operands.Fid (at 2)))).lines ≡ lines.Begin me (acts.StatAll (operands.Fid (at 2))) ∷ lines.Read me (at 2) 1 Cached (seen.Contents (bodies.File (codes "abc"))) ∷ answer 20 ∷ []
unfolding begin_row
file_has_no_names = refl

-- ---- a reply without a body leaves the one of the same index

renewed : (hears (begins (holding (entry 2 1 (Server 1) 0 (Some (codes "abc")) ∷ [])) (acts.Stat (operands.Fid (at 2)))).state (replies_with (replies.FetchStatus (status 1 1) (promise 20) sync))).state.cache ≡ entry 2 1 (Server 1) 20 (Some (codes "abc")) ∷ []
unfolding begin_row client_row
renewed = refl

outdated : (hears (begins (holding (entry 2 1 (Server 1) 0 (Some (codes "abc")) ∷ [])) (acts.Stat (operands.Fid (at 2)))).state (replies_with (replies.FetchStatus (status 1 2) (promise 20) sync))).state.cache ≡ entry 2 2 (Server 1) 20 None ∷ []
unfolding begin_row client_row
outdated = refl

-- ---- all is given up: what is trusted goes, server by server

abbrev gives_up : Step ClientState
gives_up = begins (holding (entry 2 1 (Server 2) 10 None ∷ entry 4 1 (Server 1) 11 None ∷ entry 6 1 (Server 1) 0 None ∷ entry 8 1 (Server 2) 12 None ∷ [])) acts.GiveUp

given_up : gives_up.lines ≡ lines.Begin me acts.GiveUp ∷ lines.Drop me (at 2) ∷ lines.Drop me (at 4) ∷ lines.Drop me (at 8) ∷ []
unfolding begin_row
given_up = refl

kept_untrusted : gives_up.state.cache ≡ entry 6 1 (Server 1) 0 None ∷ []
unfolding begin_row
kept_untrusted = refl

first_is_told : calls_of gives_up.sent ≡ carried.Call (codes "guest") (ask.File (calls.GiveUpCallBacks (at 4 ∷ []) (promise 11 ∷ []))) ∷ []
unfolding begin_row
first_is_told = refl

second_is_told : calls_of (hears gives_up.state (replies_with replies.GiveUpCallBacks)).sent ≡ carried.Call (codes "guest") (ask.File (calls.GiveUpCallBacks (at 2 ∷ at 8 ∷ []) (promise 10 ∷ promise 12 ∷ []))) ∷ []
unfolding begin_row client_row
second_is_told = refl

second_callee : (hears gives_up.state (replies_with replies.GiveUpCallBacks)).state.callee ≡ Server 2
unfolding begin_row client_row
second_callee = refl

all_is_given : (hears (hears gives_up.state (replies_with replies.GiveUpCallBacks)).state (replies_with replies.GiveUpCallBacks)).lines ≡ lines.Given 9 ∷ answer 0 ∷ []
unfolding begin_row client_row
all_is_given = refl

nothing_to_give : (begins client acts.GiveUp).lines ≡ lines.Begin me acts.GiveUp ∷ answer 0 ∷ []
unfolding begin_row
nothing_to_give = refl

-- ---- the other volume's server is asked

other_server : (begins client (acts.Open (operands.Fid (record { volume = 7; vnode = 2; unique = 2 })))).state.callee ≡ Server 2
unfolding begin_row
other_server = refl

-- ---- a volume that is busy is asked eight times more; the ninth such answer is the act's

abbrev opens : ClientState
opens = (begins client (acts.Open (operands.Fid (at 2)))).state

again_at_once : (hears opens (refuses_with 110)).lines ≡ lines.Given 9 ∷ []
unfolding begin_row client_row
again_at_once = refl

ninth_answers : (hears (record opens { busy = 8 }) (refuses_with 106)).lines ≡ lines.Given 9 ∷ answer 106 ∷ []
unfolding begin_row client_row
ninth_answers = refl

-- ---- servers call

abbrev called : ℕ → ℕ → Carried → Received
called opcode boot x = Whole (record { head = record { half = halves.Call; from = Server 2; to = me; epoch = 1; number = 1; boot = boot; stamp = 0; opcode = opcode }; carried = x })

abbrev ring : ℕ → Head
ring opcode = record { half = halves.Call; from = Server 2; to = me; epoch = 1; number = 1; boot = 1; stamp = 0; opcode = opcode }

-- what one server promised goes, and only a call to that server is spoiled
all_of_one : (client_row me (record (holding (entry 2 1 (Server 2) 10 None ∷ entry 4 1 (Server 1) 10 None ∷ [])) { running = opens.running; callee = Server 1 }) 0 9 (called 205 1 (carried.Call [] (ask.File calls.InitCallBackState)))).state.cache ≡ entry 4 1 (Server 1) 10 None ∷ []
unfolding client_row
all_of_one = refl

not_spoiled : (client_row me opens 0 9 (called 205 1 (carried.Call [] (ask.File calls.InitCallBackState)))).state.spoiled ≡ false
unfolding begin_row client_row
not_spoiled = refl

spoiled_by_name : (client_row me opens 0 9 (called 204 1 (carried.Call [] (ask.File (calls.CallBack (at 2 ∷ []) (promise 1 ∷ [])))))).state.spoiled ≡ true
unfolding begin_row client_row
spoiled_by_name = refl

-- what answers promises that are given back isn't spoiled
gifts_not_spoiled : (client_row me gives_up.state 0 9 (called 204 1 (carried.Call [] (ask.File (calls.CallBack (at 4 ∷ []) (promise 1 ∷ [])))))).state.spoiled ≡ false
unfolding begin_row client_row
gifts_not_spoiled = refl

probed : (client_row me client 0 9 (called 206 1 (carried.Call [] (ask.File calls.Probe)))).sent ≡ replied 1 (ring 206) (carried.Reply (tell.File replies.Probe)) ∷ []
unfolding client_row
probed = refl

not_served_here : (client_row me client 0 9 (called 132 1 (carried.Call [] (ask.File (calls.FetchStatus (at 2)))))).sent ≡ replied 1 (ring 132) (carried.Refusal (record { 0 = negsuc 454 })) ∷ []
unfolding client_row
not_served_here = refl

unreadable_here : (client_row me client 0 9 (Unreadable (ring 204))).sent ≡ replied 1 (ring 204) (carried.Refusal (record { 0 = negsuc 452 })) ∷ []
unfolding client_row
unreadable_here = refl

unserved_here : (client_row me client 0 9 (Unserved (ring 130))).sent ≡ replied 1 (ring 130) (carried.Refusal (record { 0 = negsuc 454 })) ∷ []
unfolding client_row
unserved_here = refl

-- ---- given up

given_up_call : (timeout_row me (record opens { tries = 2 }) (record { act = acts.Open (operands.Fid (at 2)); homes = record { first = Some home; second = None }; reads = [] })).lines ≡ lines.Timeout me (Server 1) 1 1 3 ∷ lines.Answer me (record { 0 = negsuc 0 }) ∷ []
unfolding begin_row
given_up_call = refl
