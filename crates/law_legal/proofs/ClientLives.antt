-- A client that is down does nothing but begin again, in the epoch after its last, and one that is up tells its crash alone, however many
-- servers a cell has.
use Rattle.spec_history.specs.declared.acts.Operand.{Operand}
use Rattle.law_legal.proofs.DatabaseDoes.{IsSoundLoc}
use Rattle.law_legal.proofs.ActCallsInRuns.{quietly, sought_acts_in}
use Rattle.spec_rows.specs.LocSteps.{loc_kind}
use Rattle.spec_rows.specs.LocRow.{LocState}
use Rattle.spec_history.specs.declared.acts.Act.{Act}
use Rattle.spec_history.specs.declared.lines.Line.{Line}
use Rattle.spec_history.specs.declared.lines.Line.TheVariants as lines
use Rattle.spec_history.specs.declared.scripts.Script.{Script}
use Rattle.spec_ideal.specs.Operations.{volume_changed}
use Rattle.law_legal.proofs.ActLines.{Acts, who_at}
use Rattle.law_legal.proofs.ActSteps.{begins_acts, given_acts, waits_acts, missed_acts}
use Rattle.law_legal.proofs.BaseLaws.{at_put, node_apart, same_node-refl, same_node-true}
use Rattle.law_legal.proofs.VolumeChanges.{run_each}
use Rattle.law_legal.proofs.CallKeysOnce.{IsKnown, any_told, by_key}
use Rattle.law_legal.proofs.RunWalk.{IsKept, each_moved, idle_by}
use Rattle.law_legal.proofs.RunLinesInPlace.{Placed, PlacedStep, placed_first, placed_kept, placed_moves}
use Rattle.law_legal.proofs.RunSetUp.{AreVersions, all_versions}
use Rattle.law_legal.specs.Ideal.{first_lines, set_up_entry}
use Rattle.law_legal.specs.Legal.{IsInPlace, IsLived, has_crash_or_restart}
use Rattle.law_legal.specs.Lives.{epoch_after}
use Rattle.law_legal.specs.Parts.{EachEntry, EachLine}
use Rattle.law_legal.specs.Past.{is_down, lines_of, onto}
use Rattle.spec_model.specs.Calls as pairs
use Rattle.spec_model.specs.Calls.{Admitted, admitted}
use Rattle.afs_num.specs.Nodes.{same_node}
use Rattle.afs_num.specs.declared.calls.AfsCallBack.{AfsCallBack}
use Rattle.afs_num.specs.declared.calls.AfsFetchStatus.{AfsFetchStatus}
use Rattle.afs_num.specs.declared.calls.AfsVolSync.{AfsVolSync}
use Rattle.afs_num.specs.declared.calls.FsCall.{FsCall}
use Rattle.afs_num.specs.declared.calls.FsCall.TheVariants as calls
use Rattle.afs_num.specs.declared.calls.FsReply.{FsReply}
use Rattle.afs_num.specs.declared.calls.FsReply.TheVariants as replies
use Rattle.afs_num.specs.declared.histories.Actor.{Actor}
use Rattle.afs_num.specs.declared.histories.Actor.TheVariants as actors
use Rattle.afs_num.specs.declared.histories.Body.TheVariants as bodies
use Rattle.afs_num.specs.declared.histories.ReadBody.{ReadBody}
use Rattle.afs_num.specs.declared.histories.ReadBody.TheVariants as seen
use Rattle.afs_num.specs.declared.histories.ReadSource.TheVariants.{Fetched}
use Rattle.afs_num.specs.declared.messages.Call.TheVariants as ask
use Rattle.afs_num.specs.declared.messages.Carried.{Carried}
use Rattle.afs_num.specs.declared.messages.Carried.TheVariants as carried
use Rattle.afs_num.specs.declared.messages.Message.{Message}
use Rattle.afs_num.specs.declared.messages.Received.TheVariants.{Whole}
use Rattle.afs_num.specs.declared.messages.Reply.TheVariants as tell
use Rattle.afs_num.specs.declared.types.Code.{Code}
use Rattle.afs_num.specs.declared.types.Fid.{Fid}
use Rattle.afs_num.specs.declared.types.Head.{Head}
use Rattle.afs_num.specs.declared.types.Node.{Node}
use Rattle.afs_num.specs.declared.types.Node.TheVariants.{Admin, Client, Loc, Server}
use Rattle.spec_rows.specs.Callbacks.{put}
use Rattle.spec_rows.specs.ClientRow.{Look, Walked, admits_call, answers_step, awaits, find_cached, stands_below, put_entries, put_entry, takes_stored, begin_row, begins_by, behind_batch, body_told, breaks, call_of, calls_again, client_row, counts, dead_code, drop_line, dropped, dropped_after, entries_told, cache_entry_told, gift_of, with_given, given_up_in, gives_by, gives_up, goes_by, hears, ignores, in_order, is_awaited, is_busy_code, is_older, is_spent, is_trusted, look_at, looked, most_busy, most_reads, read_lines, reborn, refuses, runs_carried, status_look, status_told, takes, takes_bulk, takes_bytes, takes_data, takes_entries, takes_entry, takes_given, takes_list, takes_plain, takes_rights, takes_set, takes_shown, takes_status, timeout_row, tries_again, trusted_in, untrusted_in, walked, walks_on, whole, with_statuses, seek_timeout_row, sought_ends, seeks_on, timeout_line, sought_by, sought_or, is_sought, act_of, asks_where, volume_asked, is_gone_code, refuses_for_good, most_moved}
use Rattle.spec_rows.specs.Going.{ClientState, Going, Need, answers, began, gives_back, next, with_read, Seek, operand_in}
use Rattle.law_legal.proofs.RunSteps.{calls_at}
use Rattle.spec_rows.specs.Hosts.{sets, crashed, set_to_fail, set_to_stop, HostStep, served}
use Rattle.spec_rows.specs.LocRow.{LocState}
use Rattle.spec_rows.specs.LocSteps.{loc_kind}
use Rattle.spec_rows.specs.ServerHosts.{can_start}
use Rattle.spec_rows.specs.Runs.{Armed, Blow, Cell, Entry, Fall, Input, Luck, Moved, Outcome, RunsTo, back_timed, begins, begun_by, begun_by_disk, client_falls, client_moves, client_rises, client_starts, client_stops, comes_up, fails_early, fails_midway, given_at, given_to, gives, has_client, has_host, is_full, message_at, moved, nothing, server_armed, server_ends, server_given, server_restarted, server_served, server_stopped, server_timed, server_waits, server_wakes, sets_fail, sets_stop, without_boot_record, start, starts_again, stops, struck, ticked, ticks, voided, waited_by, waits, wakes, loc_restarted, loc_up, sought_for}
use Rattle.spec_rows.specs.States.{BackCall, CacheEntry, Gift, ServerState}
use Rattle.spec_rows.specs.Steps.{Step, Begun}
use Rattle.std.proofs.Common.{zero, suc, ◌+◌, ◌≡◌, ◌⊎◌, inl, inr, ℕ, Bool, true, false, cond, List, [], ◌∷◌, ◌++◌, map, Option, Some, None, refl, sym, ap, subst, ◌∙◌, filter, not}
use Rattle.std.specs.List.{list_any}
use Rattle.std.specs.Prelude.{⊤, ◌||◌, ◌&&◌, nat_lt}

-- ---- the steps of a client that is up tell neither a crash nor a restart

abbrev pub Alive : List Line → Type 0
Alive ls = has_crash_or_restart ls ≡ false

-- so do these lines, before such
abbrev IsFront : (List Line → List Line) → Type 0
IsFront front = (ls : List Line) → Alive ls → Alive (front ls)

either_alive : (t : Bool) (a b : Step ClientState) → Alive a.lines → Alive b.lines → Alive (cond t a b).lines
either_alive true a b h k = h
either_alive false a b h k = k

dropped_alive : (me : Node) (es : List CacheEntry) → IsFront (dropped me es)
dropped_alive me [] ls h = h
dropped_alive me (e ∷ es) ls h = dropped_alive me es ls h

looked_alive : (me : Node) (looks : List Look) → IsFront (looked me looks)
looked_alive me [] ls h = h
looked_alive me (l ∷ looks) ls h = looked_alive me looks ls h

drops_alive : (me : Node) (fs : List Fid) → Alive (map (drop_line me) fs)
drops_alive me [] = refl
drops_alive me (f ∷ fs) = drops_alive me fs

goes_alive : (me : Node) (c : ClientState) (front : List Line → List Line) (w : Walked) (need : Need) → IsFront front → Alive (goes_by me c front w need).lines
goes_alive me c front w (answers n) f = f _ (looked_alive me w.looks _ refl)
goes_alive me c front w need f = f _ (looked_alive me w.looks [] refl)

walks_alive : (me : Node) (c : ClientState) (clock : ℕ) (front : List Line → List Line) (act : Going) (cache : List CacheEntry) → IsFront front → Alive (walks_on me c clock front act cache).lines
walks_alive me c clock front act cache f = let w : Walked = walked (most_reads act) clock act cache in goes_alive me c front w (next w.act) f

gives_alive : (me : Node) (c : ClientState) (front : List Line → List Line) (act : Going) (gs : List Gift) → IsFront front → Alive (gives_by me c front act gs).lines
gives_alive me c front act [] f = f _ refl
gives_alive me c front act (g ∷ gs) f = f [] refl

plain_alive : (me : Node) (c : ClientState) (place : ℕ) (call : FsCall) → Alive (takes_plain me c place call).lines
plain_alive me c place call = dropped_alive me (dropped_after call c.cache) _ refl

entry_alive : (me : Node) (c : ClientState) (clock place : ℕ) (act : Going) (e : CacheEntry) (body : ReadBody) → Alive (takes_entry me c clock place act e body).lines
entry_alive me c clock place act e body = either_alive (is_trusted clock e) _ (calls_again me c place act) (walks_alive me c clock (read_lines me place (look_at Fetched e body)) (with_read e.fid body act) (put_entry c.capacity e c.cache) (λ ls h. h)) refl

entries_alive : (me : Node) (c : ClientState) (clock place : ℕ) (act : Going) (es : List CacheEntry) → Alive (takes_entries me c clock place act es).lines
entries_alive me c clock place act es = either_alive (list_any (λ e. not (is_trusted clock e)) es) (calls_again me c place act) _ refl (walks_alive me c clock (λ ls. with_given place (looked me (map status_look es) ls)) (with_statuses es act) (put_entries c.capacity es c.cache) (λ ls h. looked_alive me (map status_look es) ls h))

rights_alive : (me : Node) (c : ClientState) (clock place : ℕ) (act : Going) (f : Fid) (index release : ℕ) (text : List ℕ) → Alive (takes_rights me c clock place act f index release text).lines
rights_alive me c clock place act f index release text =
    walks_alive me c clock (λ ls. read_lines me place (record { fid = f; index = index; source = Fetched; body = seen.AccessList text }) (dropped me (filter (is_older f index release) c.cache) ls)) (with_read f (seen.AccessList text) act) (filter (λ e. not (is_older f index release e)) c.cache) (λ ls h. dropped_alive me (filter (is_older f index release) c.cache) ls h)

bytes_alive : (me : Node) (c : ClientState) (clock place : ℕ) (f : Fid) (status : AfsFetchStatus) (contents : List ℕ) (call : FsCall) → Alive (takes_bytes me c clock place f status contents call).lines
bytes_alive me c clock place f status contents call = either_alive c.spoiled (takes_plain me c place call) (takes_stored me c clock place f status.sync_counter (status_told status) (λ body. Some (bodies.File contents))) (plain_alive me c place call) refl

status_alive : (me : Node) (c : ClientState) (clock place : ℕ) (f : Fid) (status : AfsFetchStatus) (call : FsCall) → Alive (takes_status me c clock place f status call).lines
status_alive me c clock place f status call = either_alive (not c.spoiled && stands_below clock status.sync_counter (find_cached f c.cache)) (takes_stored me c clock place f status.sync_counter (status_told status) (λ body. body)) (takes_plain me c place call) refl (plain_alive me c place call)

data_alive : (me : Node) (c : ClientState) (clock place : ℕ) (act : Going) (contents : List ℕ) (status : AfsFetchStatus) (callback : AfsCallBack) (sync : AfsVolSync) (call : FsCall) → Alive (takes_data me c clock place act contents status callback sync call).lines
data_alive me c clock place act contents status callback sync (calls.FetchData f position wanted) = entry_alive me c clock place act (cache_entry_told c.callee f status callback sync (Some (body_told status.file_type contents))) (seen.Contents (body_told status.file_type contents))
data_alive me c clock place act contents status callback sync call = plain_alive me c place call

shown_alive : (me : Node) (c : ClientState) (clock place : ℕ) (act : Going) (status : AfsFetchStatus) (callback : AfsCallBack) (sync : AfsVolSync) (call : FsCall) → Alive (takes_shown me c clock place act status callback sync call).lines
shown_alive me c clock place act status callback sync (calls.FetchStatus f) = entry_alive me c clock place act (cache_entry_told c.callee f status callback sync None) (seen.Status (status_told status))
shown_alive me c clock place act status callback sync call = plain_alive me c place call

list_alive : (me : Node) (c : ClientState) (clock place : ℕ) (act : Going) (text : List ℕ) (status : AfsFetchStatus) (sync : AfsVolSync) (call : FsCall) → Alive (takes_list me c clock place act text status sync call).lines
list_alive me c clock place act text status sync (calls.FetchAcl f) = rights_alive me c clock place act f status.sync_counter sync.release text
list_alive me c clock place act text status sync call = plain_alive me c place call

set_alive : (me : Node) (c : ClientState) (clock place : ℕ) (status : AfsFetchStatus) (call : FsCall) → Alive (takes_set me c clock place status call).lines
set_alive me c clock place status (calls.StoreData f set position wanted file_length contents) = bytes_alive me c clock place f status contents (calls.StoreData f set position wanted file_length contents)
set_alive me c clock place status (calls.StoreAcl f acl) = status_alive me c clock place f status (calls.StoreAcl f acl)
set_alive me c clock place status (calls.StoreStatus f set) = status_alive me c clock place f status (calls.StoreStatus f set)
set_alive me c clock place status call = plain_alive me c place call

bulk_alive : (me : Node) (c : ClientState) (clock place : ℕ) (act : Going) (statuses : List AfsFetchStatus) (callbacks : List AfsCallBack) (sync : AfsVolSync) (call : FsCall) → Alive (takes_bulk me c clock place act statuses callbacks sync call).lines
bulk_alive me c clock place act statuses callbacks sync (calls.BulkStatus fids) = entries_alive me c clock place act (entries_told c.callee sync fids statuses callbacks)
bulk_alive me c clock place act statuses callbacks sync call = plain_alive me c place call

given_alive : (me : Node) (c : ClientState) (place : ℕ) (act : Going) (call : FsCall) → Alive (takes_given me c place act call).lines
given_alive me c place act (calls.GiveUpCallBacks fids callbacks) = gives_alive me c (with_given place) act (behind_batch c.gifts) (λ ls h. h)
given_alive me c place act call = plain_alive me c place call

takes_alive : (me : Node) (c : ClientState) (clock place : ℕ) (act : Going) (call : FsCall) (reply : FsReply) → Alive (takes me c clock place act call reply).lines
takes_alive me c clock place act call (replies.FetchData contents status callback sync) = data_alive me c clock place act contents status callback sync call
takes_alive me c clock place act call (replies.FetchAcl text status sync) = list_alive me c clock place act text status sync call
takes_alive me c clock place act call (replies.FetchStatus status callback sync) = shown_alive me c clock place act status callback sync call
takes_alive me c clock place act call (replies.BulkStatus statuses callbacks sync) = bulk_alive me c clock place act statuses callbacks sync call
takes_alive me c clock place act call (replies.StoreData status sync) = set_alive me c clock place status call
takes_alive me c clock place act call (replies.StoreAcl status sync) = set_alive me c clock place status call
takes_alive me c clock place act call (replies.StoreStatus status sync) = set_alive me c clock place status call
takes_alive me c clock place act call replies.GiveUpCallBacks = given_alive me c place act call
takes_alive me c clock place act call reply = plain_alive me c place call

where_alive : (me : Node) (c : ClientState) (place : ℕ) (act : Going) (code : Code) (o : Option Operand) → Alive (asks_where me c place act code o).lines
where_alive me c place act code None = refl
where_alive me c place act code (Some o) = refl

refuses_alive : (me : Node) (c : ClientState) (place : ℕ) (act : Going) (code : Code) → Alive (refuses me c place act code).lines
refuses_alive me c place act code = either_alive (is_busy_code code && nat_lt c.busy most_busy) (calls_again me (record c { busy = c.busy + 1 }) place act) (refuses_for_good me c place act code) refl
    (either_alive (is_gone_code code && nat_lt c.moved most_moved) (asks_where me c place act code (operand_in act (volume_asked (call_of c act)))) (answers_step me c place code) (where_alive me c place act code (operand_in act (volume_asked (call_of c act)))) refl)

counts_alive : (me : Node) (c : ClientState) (clock place : ℕ) (act : Going) (head : Head) (x : Carried) → Alive (counts me c clock place act head x).lines
counts_alive me c clock place act head (carried.Call user call) = refl
counts_alive me c clock place act head (carried.Refusal code) = either_alive (is_spent c act) (calls_again me c place act) (refuses me c place act code) refl (refuses_alive me c place act code)
counts_alive me c clock place act head (carried.Reply (tell.File reply)) = either_alive (is_spent c act) (calls_again me c place act) (takes me c clock place act (call_of c act) reply) refl (takes_alive me c clock place act (call_of c act) reply)
counts_alive me c clock place act head (carried.Reply reply) = refl
counts_alive me c clock place act head carried.Notice = refl

awaits_alive : (me : Node) (c : ClientState) (clock place : ℕ) (head : Head) (x : Carried) (o : Option Going) → Alive (awaits me c clock place head x o).lines
awaits_alive me c clock place head x None = refl
awaits_alive me c clock place head x (Some act) = either_alive (is_awaited c act head) (counts me c clock place act head x) (ignores c place) (counts_alive me c clock place act head x) refl

breaks_alive : (me : Node) (c : ClientState) (place : ℕ) (head : Head) (call : FsCall) → Alive (breaks me c place head call).lines
breaks_alive me c place head (calls.CallBack fs callbacks) = drops_alive me fs
breaks_alive me c place head calls.InitCallBackState = refl
breaks_alive me c place head calls.Probe = refl
breaks_alive me c place head call = refl

runs_alive : (me : Node) (c : ClientState) (place : ℕ) (head : Head) (x : Carried) → Alive (runs_carried me c place head x).lines
runs_alive me c place head (carried.Call user (ask.File call)) = breaks_alive me c place head call
runs_alive me c place head (carried.Call user call) = refl
runs_alive me c place head x = refl

admits_alive : (me : Node) (c : ClientState) (place : ℕ) (head : Head) (x : Carried) (o : Admitted Message) → Alive (admits_call me c place head (whole head x) o).lines
admits_alive me c place head x pairs.runs = runs_alive me c place head x
admits_alive me c place head x (pairs.kept reply) = refl
admits_alive me c place head x pairs.in_progress = refl
admits_alive me c place head x pairs.older = refl
admits_alive me c place head x (pairs.wrong_boot boot) = refl

hears_alive : (me : Node) (c : ClientState) (clock place : ℕ) (head : Head) (x : Carried) → Alive (hears me c clock place head x).lines
hears_alive me c clock place head (carried.Call user call) = admits_alive me c place head (carried.Call user call) (admitted c.epoch c.seats head)
hears_alive me c clock place head x = awaits_alive me c clock place head x c.running

pub missed_alive : (me : Node) (c : ClientState) (k : Seek) → Alive (seek_timeout_row me c k).lines
missed_alive me c k = either_alive (nat_lt c.tries 2) (seeks_on me c k) (sought_ends me c (λ ls. timeout_line me c 3 ∷ ls) dead_code) refl refl

pub told_alive : (me : Node) (c : ClientState) (clock place : ℕ) (m : Message) → Alive (client_row me c clock place (Whole m)).lines
unfolding client_row
told_alive me c clock place m = either_alive (same_node m.head.to me) (hears me c clock place m.head m.carried) (ignores c place) (hears_alive me c clock place m.head m.carried) refl

first_alive : (me : Node) (c : ClientState) (clock : ℕ) (front : List Line → List Line) (act : Going) (need : Need) → IsFront front → Alive (begins_by me c clock front act need).lines
first_alive me c clock front act gives_back f = gives_alive me (record c { cache = untrusted_in clock c.cache }) (λ ls. front (dropped me (trusted_in clock c.cache) ls)) act (in_order (map gift_of (trusted_in clock c.cache))) (λ ls h. f _ (dropped_alive me (trusted_in clock c.cache) ls h))
first_alive me c clock front act need f = walks_alive me c clock front act c.cache f

pub begun_alive : (me : Node) (c : ClientState) (clock : ℕ) (act : Act) → Alive (begin_row me c clock act).lines
unfolding begin_row
begun_alive me c clock act = first_alive me (record c { busy = 0; moved = 0 }) clock (λ ls. lines.Begin me act ∷ ls) (began c.table act) (next (began c.table act)) (λ ls h. h)

pub waited_alive : (me : Node) (c : ClientState) (act : Going) → Alive (timeout_row me c act).lines
waited_alive me c act = either_alive (nat_lt c.tries 2) (tries_again me c act) (gives_up me c (call_of c act)) refl (dropped_alive me (given_up_in (volume_changed (call_of c act)) c.cache) (lines.Answer me dead_code ∷ []) refl)

-- ---- which clients are down

-- lines without a crash and a restart leave that
alive_down : (c : Node) (ls o : List Line) → Alive ls → is_down c (onto o ls) ≡ is_down c o
alive_down c [] o h = refl
alive_down c (lines.Crash n ∷ ls) o h = absurd cc
alive_down c (lines.Restart n boot ∷ ls) o h = absurd cc
alive_down c (l ∷ ls) o h = alive_down c ls (l ∷ o) h

pub not_node : (who : Actor) (n : Node) (j : ℕ) → (who ≡ actors.Node (Client j) → ⊥) → who ≡ actors.Node n → same_node n (Client j) ≡ false
not_node who n j other by = node_apart n (Client j) (λ e. other (by ∙ ap actors.Node e))

-- and so do the lines of another node's entry
others_down : (s : Script) (who : Actor) (j : ℕ) (past : List Entry) (own ls o : List Line) → (who ≡ actors.Node (Client j) → ⊥) → EachLine (IsInPlace s) who past own ls → is_down (Client j) (onto o ls) ≡ is_down (Client j) o
others_down s who j past own [] o other p = refl
others_down s who j past own (lines.Crash n ∷ ls) o other p = others_down s who j past (lines.Crash n ∷ own) ls (lines.Crash n ∷ o) other p.1 ∙ ap (λ (t : Bool). cond t true (is_down (Client j) o)) (not_node who n j other p.0)
others_down s who j past own (lines.Restart n boot ∷ ls) o other p = others_down s who j past (lines.Restart n boot ∷ own) ls (lines.Restart n boot ∷ o) other p.1 ∙ ap (λ (t : Bool). cond t false (is_down (Client j) o)) (not_node who n j other p.0.0)
others_down s who j past own (l ∷ ls) o other p = others_down s who j past (l ∷ own) ls (l ∷ o) other p.1

abbrev DownOf : (ℕ → Bool) → List Entry → Type 0
DownOf away past = (j : ℕ) → is_down (Client j) (lines_of past) ≡ away j

abbrev pub DownIn : Cell → List Entry → Type 0
DownIn c past = DownOf c.away past

-- ---- which epochs they are in

pub alive_epoch : (c : Node) (ls o : List Line) → Alive ls → epoch_after c (onto o ls) ≡ epoch_after c o
alive_epoch c [] o h = refl
alive_epoch c (lines.Crash n ∷ ls) o h = absurd cc
alive_epoch c (lines.Restart n boot ∷ ls) o h = absurd cc
alive_epoch c (l ∷ ls) o h = alive_epoch c ls (l ∷ o) h

others_epoch : (s : Script) (who : Actor) (j : ℕ) (past : List Entry) (own ls o : List Line) → (who ≡ actors.Node (Client j) → ⊥) → EachLine (IsInPlace s) who past own ls → epoch_after (Client j) (onto o ls) ≡ epoch_after (Client j) o
others_epoch s who j past own [] o other p = refl
others_epoch s who j past own (lines.Crash n ∷ ls) o other p = others_epoch s who j past (lines.Crash n ∷ own) ls (lines.Crash n ∷ o) other p.1 ∙ ap (λ (t : Bool). cond t (epoch_after (Client j) o + 1) (epoch_after (Client j) o)) (not_node who n j other p.0)
others_epoch s who j past own (l ∷ ls) o other p = others_epoch s who j past (l ∷ own) ls (l ∷ o) other p.1

abbrev EpochsOf : (ℕ → ClientState) → List Entry → Type 0
EpochsOf clients past = (j : ℕ) → epoch_after (Client j) (lines_of past) ≡ (clients j).epoch

abbrev pub EpochsIn : Cell → List Entry → Type 0
EpochsIn c past = EpochsOf c.clients past

abbrev pub Lived : Script → Cell → List Entry → Type 0
Lived s c past = Placed s c past × (DownIn c past × EpochsIn c past)

-- ---- a step

-- what is asked of a client's entry
abbrev pub IsClientLived : Actor → List Entry → List Line → List Message → Type 0
IsClientLived (actors.Node (Client j)) past ls sent = IsLived (Client j) (is_down (Client j) (lines_of past)) (epoch_after (Client j) (lines_of past)) ls sent
IsClientLived who past ls sent = ⊤

record Lives (past : List Entry) (m : Moved) : Type 0 where
  good : IsClientLived m.entry.actor past m.entry.lines m.entry.sent
  down : DownIn m.cell (m.entry ∷ past)
  epochs : EpochsIn m.cell (m.entry ∷ past)

-- it is no client's
record Besides (c : Cell) (m : Moved) : Type 0 where
  other : (j : ℕ) → m.entry.actor ≡ actors.Node (Client j) → ⊥
  away : m.cell.away ≡ c.away
  clients : m.cell.clients ≡ c.clients

besides_lived : (who : Actor) (past : List Entry) (ls : List Line) (sent : List Message) → ((j : ℕ) → who ≡ actors.Node (Client j) → ⊥) → IsClientLived who past ls sent
besides_lived (actors.Node (Client j)) past ls sent other = absurd (other j refl)
besides_lived (actors.Node (Server i)) past ls sent other = tt
besides_lived (actors.Node (Admin i)) past ls sent other = tt
besides_lived (actors.Node Loc) past ls sent other = tt
besides_lived actors.Clock past ls sent other = tt
besides_lived actors.Nobody past ls sent other = tt

besides_lives : (s : Script) (c : Cell) (past : List Entry) (m : Moved) → Lived s c past → EachLine (IsInPlace s) m.entry.actor past [] m.entry.lines → Besides c m → Lives past m
besides_lives s c past m h p b = record {
  good = besides_lived m.entry.actor past m.entry.lines m.entry.sent b.other;
  down = subst (λ (away : ℕ → Bool). DownOf away (m.entry ∷ past)) (sym b.away) (λ j. others_down s m.entry.actor j past [] m.entry.lines (lines_of past) (b.other j) p ∙ h.1.0 j);
  epochs = subst (λ (clients : ℕ → ClientState). EpochsOf clients (m.entry ∷ past)) (sym b.clients) (λ j. others_epoch s m.entry.actor j past [] m.entry.lines (lines_of past) (b.other j) p ∙ h.1.1 j);
}

-- of a client that is up, which tells neither a crash nor a restart
pub same_epoch : (n : ℕ) (x : ClientState) (st : Step ClientState) → Acts n (who_at x) x.gifts st → Alive st.lines → st.state.epoch ≡ x.epoch
same_epoch n x st a alive = elim a.goes [
  | inl r ↦ r.epoch
  | inr y ↦ elim y [
    | inl z ↦ z.epoch
    | inr z ↦ elim z.how [
      | inl f ↦ let no : true ≡ false = ap has_crash_or_restart (sym f.1.1) ∙ alive in absurd cc
      | inr t ↦ t.0
    ]
  ]
]

up_lives : (s : Script) (c : Cell) (past : List Entry) (n : ℕ) (st : Step ClientState) → Lived s c past → c.away n ≡ false → Alive st.lines → Acts n (who_at (c.clients n)) (c.clients n).gifts st → Lives past (client_moves c n st)
up_lives s c past n st h up alive a = record {
  good = subst (λ (t : Bool). IsLived (Client n) t (epoch_after (Client n) (lines_of past)) st.lines st.sent) (sym (h.1.0 n ∙ up)) (inr alive);
  down = λ j. alive_down (Client j) st.lines (lines_of past) alive ∙ h.1.0 j;
  epochs = λ j. alive_epoch (Client j) st.lines (lines_of past) alive ∙ (h.1.1 j ∙ at_put n j (λ (x : ClientState). (c.clients j).epoch ≡ x.epoch) st.state c.clients (λ same. ap (λ (k : ℕ). (c.clients k).epoch) (sym same) ∙ sym (same_epoch n (c.clients n) st a alive)) (λ other. refl));
}

-- of one that stops, or begins again
turned_down : (n : ℕ) (past : List Entry) (away : ℕ → Bool) (t : Bool) (o : List Line) → is_down (Client n) o ≡ t → ((j : ℕ) → (n ≡ j → ⊥) → is_down (Client j) o ≡ is_down (Client j) (lines_of past)) → DownOf away past → (j : ℕ) → is_down (Client j) o ≡ put n t away j
turned_down n past away t o own others h j = at_put n j (λ (x : Bool). is_down (Client j) o ≡ x) t away (λ same. subst (λ (k : ℕ). is_down (Client k) o ≡ t) same own) (λ ne. others j ne ∙ h j)

pub client_apart : (n j : ℕ) → (n ≡ j → ⊥) → same_node (Client n) (Client j) ≡ false
client_apart n j ne = node_apart (Client n) (Client j) (λ e. ne (one_client n j e))
  where
    one_client : (n j : ℕ) → Client n ≡ Client j → n ≡ j
    one_client n j e = cc

falls_lives : (s : Script) (c : Cell) (past : List Entry) (n : ℕ) → Lived s c past → c.away n ≡ false → Lives past (client_falls c n)
falls_lives s c past n h up = record {
  good = subst (λ (t : Bool). IsLived (Client n) t (epoch_after (Client n) (lines_of past)) (lines.Crash (Client n) ∷ []) []) (sym (h.1.0 n ∙ up)) (inl (refl, refl));
  down = turned_down n past c.away true (lines.Crash (Client n) ∷ lines_of past) (ap (λ (t : Bool). cond t true (is_down (Client n) (lines_of past))) (same_node-refl (Client n))) (λ j ne. ap (λ (t : Bool). cond t true (is_down (Client j) (lines_of past))) (client_apart n j ne)) h.1.0;
  epochs = λ j. at_put n j (λ (x : ClientState). epoch_after (Client j) (lines.Crash (Client n) ∷ lines_of past) ≡ x.epoch) (reborn c.handed (c.clients n)) c.clients
      (λ same. subst (λ (k : ℕ). epoch_after (Client k) (lines.Crash (Client n) ∷ lines_of past) ≡ (c.clients n).epoch + 1) same
      (ap (λ (t : Bool). cond t (epoch_after (Client n) (lines_of past) + 1) (epoch_after (Client n) (lines_of past))) (same_node-refl (Client n)) ∙ ap (λ (k : ℕ). k + 1) (h.1.1 n)))
      (λ ne. ap (λ (t : Bool). cond t (epoch_after (Client j) (lines_of past) + 1) (epoch_after (Client j) (lines_of past))) (client_apart n j ne) ∙ h.1.1 j);
}

rises_lives : (s : Script) (c : Cell) (past : List Entry) (n : ℕ) → Lived s c past → c.away n ≡ true → Lives past (client_rises c n)
rises_lives s c past n h down = record {
  good = subst (λ (t : Bool). IsLived (Client n) t (epoch_after (Client n) (lines_of past)) (lines.Restart (Client n) (c.clients n).epoch ∷ []) []) (sym (h.1.0 n ∙ down)) (ap (λ (k : ℕ). lines.Restart (Client n) k ∷ []) (sym (h.1.1 n)), refl);
  down = turned_down n past c.away false (lines.Restart (Client n) (c.clients n).epoch ∷ lines_of past) (ap (λ (t : Bool). cond t false (is_down (Client n) (lines_of past))) (same_node-refl (Client n))) (λ j ne. ap (λ (t : Bool). cond t false (is_down (Client j) (lines_of past))) (client_apart n j ne)) h.1.0;
  epochs = λ j. h.1.1 j ∙ at_put n j (λ (x : ClientState). (c.clients j).epoch ≡ x.epoch) (c.clients n) c.clients (λ same. ap (λ (k : ℕ). (c.clients k).epoch) (sym same)) (λ other. refl);
}

-- ---- every input. `P` tells that the lines of the step are in place

abbrev InPlace : Script → List Entry → Moved → Type 0
InPlace s past m = EachLine (IsInPlace s) m.entry.actor past [] m.entry.lines

void_lives : (s : Script) (c : Cell) (past : List Entry) → Lived s c past → Lives past (voided c)
void_lives s c past h = besides_lives s c past (voided c) h (refl, tt) (record { other = λ j e. absurd cc; away = refl; clients = refl })

-- where no client of this number is up, nothing comes
unless_away : (s : Script) (c : Cell) (past : List Entry) (has away : Bool) (m : Moved) → Lived s c past → (away ≡ false → Lives past m) → Lives past (cond (not has || away) (voided c) m)
unless_away s c past true true m h w = void_lives s c past h
unless_away s c past true false m h w = w refl
unless_away s c past false away m h w = void_lives s c past h

if_down : (s : Script) (c : Cell) (past : List Entry) (away : Bool) (m : Moved) → Lived s c past → (away ≡ true → Lives past m) → Lives past (cond away m (voided c))
if_down s c past true m h w = w refl
if_down s c past false m h w = void_lives s c past h

begun_lives : (s : Script) (c : Cell) (past : List Entry) (n : ℕ) (act : Act) (g : Option Going) → Lived s c past → c.away n ≡ false → act_of (c.clients n) ≡ g → Lives past (begun_by c n act g)
begun_lives s c past n act None h up r = let q = idle_by (c.clients n).running (c.clients n).seeking r in up_lives s c past n _ h up (begun_alive (Client n) (c.clients n) c.clock act) (begins_acts n (c.clients n) c.clock act q.0 q.1)
begun_lives s c past n act (Some g) h up r = void_lives s c past h

missed_lives : (s : Script) (c : Cell) (past : List Entry) (n : ℕ) (o : Option Seek) → Lived s c past → c.away n ≡ false → (c.clients n).running ≡ None → (c.clients n).seeking ≡ o → Lives past (sought_for c n o)
missed_lives s c past n None h up r z = void_lives s c past h
missed_lives s c past n (Some k) h up r z = up_lives s c past n _ h up (missed_alive (Client n) (c.clients n) k) (missed_acts n (c.clients n) k r z)

waited_lives : (s : Script) (c : Cell) (past : List Entry) (n : ℕ) (g : Option Going) → Lived s c past → c.away n ≡ false → (c.clients n).running ≡ g → Lives past (waited_by c n g)
waited_lives s c past n None h up r = missed_lives s c past n (c.clients n).seeking h up r refl
waited_lives s c past n (Some act) h up r = up_lives s c past n _ h up (waited_alive (Client n) (c.clients n) act) (waits_acts n (c.clients n) act r)

-- ---- the inputs of servers

void_besides : (c : Cell) → Besides c (voided c)
void_besides c = record { other = λ j e. absurd cc; away = refl; clients = refl }

-- whatever the location database does
loc_up_besides : (c : Cell) (st : HostStep LocState) (d : Option Fall) → Besides c (loc_up c st d)
loc_up_besides c st None = record { other = λ j e. absurd cc; away = refl; clients = refl }
loc_up_besides c st (Some fall) = void_besides c

loc_restarted_besides : (c : Cell) (after : Bool) (out : Outcome) (d : Option Fall) → Besides c (loc_restarted c after out d)
loc_restarted_besides c after out None = void_besides c
loc_restarted_besides c after out (Some fall) = record { other = λ j e. absurd cc; away = refl; clients = refl }

if_besides : (c : Cell) (t : Bool) (m : Moved) → Besides c m → Besides c (cond t m (voided c))
if_besides c true m b = b
if_besides c false m b = void_besides c

served_besides : (c : Cell) (i place : ℕ) (m : Message) (b : Option Blow) → Besides c (server_served c i place m b)
served_besides c i place m None = record { other = λ j e. absurd cc; away = refl; clients = refl }
served_besides c i place m (Some b) = record { other = λ j e. absurd cc; away = refl; clients = refl }

received_besides : (c : Cell) (i place : ℕ) (luck : Luck) (m : Message) (d : Option Fall) → Besides c (server_given c i place luck m d)
received_besides c i place luck m None = served_besides c i place m (struck (c.hosts i).armed luck (calls_at c i m))
received_besides c i place luck m (Some fall) = void_besides c

stopped_besides : (c : Cell) (i : ℕ) (d : Option Fall) → Besides c (server_stopped c i d)
stopped_besides c i None = record { other = λ j e. absurd cc; away = refl; clients = refl }
stopped_besides c i (Some fall) = void_besides c

ends_besides : (c : Cell) (i : ℕ) (f : Begun ServerState) (fall : Fall) (out : Outcome) → Besides c (server_ends c i f fall out)
ends_besides c i f fall comes_up = record { other = λ j e. absurd cc; away = refl; clients = refl }
ends_besides c i f fall fails_early = record { other = λ j e. absurd cc; away = refl; clients = refl }
ends_besides c i f fall fails_midway = record { other = λ j e. absurd cc; away = refl; clients = refl }
ends_besides c i f fall is_full = record { other = λ j e. absurd cc; away = refl; clients = refl }

restarted_besides : (c : Cell) (i : ℕ) (after : Bool) (out : Outcome) (d : Option Fall) → Besides c (server_restarted c i after out d)
restarted_besides c i after out None = void_besides c
restarted_besides c i after out (Some fall) = ends_besides c i (begun_by_disk (Server i) (c.hosts i).state after fall) fall (without_boot_record (can_start (begun_by_disk (Server i) (c.hosts i).state after fall).state) out)

armed_besides : (c : Cell) (i : ℕ) (l : Line) (armed : Armed) (d : Option Fall) → Besides c (server_armed c i (sets (c.hosts i) l armed) d)
armed_besides c i l armed None = record { other = λ j e. absurd cc; away = refl; clients = refl }
armed_besides c i l armed (Some fall) = void_besides c

back_besides : (c : Cell) (i : ℕ) (n : Node) (b : Option BackCall) → Besides c (back_timed c i n b)
back_besides c i n None = void_besides c
back_besides c i n (Some b) = record { other = λ j e. absurd cc; away = refl; clients = refl }

timed_besides : (c : Cell) (i : ℕ) (n : Node) (d : Option Fall) → Besides c (server_timed c i n d)
timed_besides c i n None = back_besides c i n ((c.hosts i).state.backs.calls n)
timed_besides c i n (Some fall) = void_besides c

woken_besides : (c : Cell) (i : ℕ) (d : Option Fall) → Besides c (server_wakes c i d)
woken_besides c i None = record { other = λ j e. absurd cc; away = refl; clients = refl }
woken_besides c i (Some fall) = void_besides c

-- ---- every input

-- a message comes to a client, whatever that waits for
told_lives : (s : Script) (c : Cell) (past : List Entry) (n place : ℕ) (m : Message) → Lived s c past → c.away n ≡ false → Lives past (client_moves c n (client_row (Client n) (c.clients n) c.clock place (Whole m)))
told_lives s c past n place m h up = up_lives s c past n _ h up (told_alive (Client n) (c.clients n) c.clock place m) (given_acts (by_key (IsKnown h.0.0.0.keys.callees c.clients)) any_told n (c.clients n) c.clock place m (h.0.0.0.keys.replies n) (h.0.0.1.seats n))

sought_lives : (s : Script) (c : Cell) (past : List Entry) (n place : ℕ) (m : Message) (k : Seek) (t : Bool) → Lived s c past → c.away n ≡ false → message_at c.sent place ≡ Some m → (c.clients n).seeking ≡ Some k → is_sought (Client n) (c.clients n) k m.head m.carried ≡ t
    → Lives past (client_moves c n (cond t (sought_by (Client n) (c.clients n) c.clock place k m.head m.carried) (client_row (Client n) (c.clients n) c.clock place (Whole m))))
sought_lives s c past n place m k true h up at z e = up_lives s c past n _ h up (quietly s c past n place m k (λ st. Alive st.lines) h.0.0.1 at z e (λ code. refl) refl refl) (sought_acts_in s c past n place m k h.0.0.1 at z e)
sought_lives s c past n place m k false h up at z e = told_lives s c past n place m h up

guest_lives : (s : Script) (c : Cell) (past : List Entry) (n place : ℕ) (m : Message) (o : Option Seek) → Lived s c past → c.away n ≡ false → message_at c.sent place ≡ Some m → (c.clients n).seeking ≡ o → Lives past (client_moves c n (sought_or (Client n) (c.clients n) c.clock place m o))
guest_lives s c past n place m None h up at z = told_lives s c past n place m h up
guest_lives s c past n place m (Some k) h up at z = sought_lives s c past n place m k (is_sought (Client n) (c.clients n) k m.head m.carried) h up at z refl

to_lives : (s : Script) (c : Cell) (past : List Entry) (place : ℕ) (luck : Luck) (m : Message) (to : Node) → Lived s c past → message_at c.sent place ≡ Some m → InPlace s past (given_to c place luck m to) → Lives past (given_to c place luck m to)
to_lives s c past place luck m (Server i) h at p = besides_lives s c past _ h p (if_besides c (has_host c i) _ (received_besides c i place luck m (c.hosts i).down))
to_lives s c past place luck m (Client n) h at p = unless_away s c past (has_client c.count n) (c.away n) _ h (λ up. guest_lives s c past n place m (c.clients n).seeking h up at refl)
to_lives s c past place luck m Loc h at p = besides_lives s c past _ h p (loc_up_besides c (served loc_kind c.loc c.clock place luck m) c.loc.down)
to_lives s c past place luck m (Admin n) h at p = void_lives s c past h

at_lives : (s : Script) (c : Cell) (past : List Entry) (place : ℕ) (luck : Luck) (o : Option Message) → Lived s c past → message_at c.sent place ≡ o → InPlace s past (given_at c place luck o) → Lives past (given_at c place luck o)
at_lives s c past place luck None h at p = void_lives s c past h
at_lives s c past place luck (Some m) h at p = to_lives s c past place luck m m.head.to h at p

moved_lives : (s : Script) (c : Cell) (past : List Entry) (x : Input) → Lived s c past → InPlace s past (moved c x) → Lives past (moved c x)
unfolding moved
moved_lives s c past (begins n act) h p = unless_away s c past (has_client c.count n) (c.away n) _ h (λ up. begun_lives s c past n act (act_of (c.clients n)) h up refl)
moved_lives s c past (gives place luck) h p = at_lives s c past place luck (message_at c.sent place) h refl p
moved_lives s c past (waits n) h p = unless_away s c past (has_client c.count n) (c.away n) _ h (λ up. waited_lives s c past n (c.clients n).running h up refl)
moved_lives s c past (ticks zero) h p = void_lives s c past h
moved_lives s c past (ticks (suc n)) h p = besides_lives s c past (ticked c (suc n)) h p (record { other = λ j e. absurd cc; away = refl; clients = refl })
moved_lives s c past (client_stops n) h p = unless_away s c past (has_client c.count n) (c.away n) _ h (λ up. falls_lives s c past n h up)
moved_lives s c past (client_starts n) h p = if_down s c past (c.away n) _ h (λ down. rises_lives s c past n h down)
moved_lives s c past (stops zero) h p = besides_lives s c past _ h p (loc_up_besides c (crashed loc_kind c.loc) c.loc.down)
moved_lives s c past (stops (suc i)) h p = besides_lives s c past _ h p (if_besides c (has_host c (suc i)) _ (stopped_besides c (suc i) (c.hosts (suc i)).down))
moved_lives s c past (starts_again zero after out) h p = besides_lives s c past _ h p (loc_restarted_besides c after out c.loc.down)
moved_lives s c past (starts_again (suc i) after out) h p = besides_lives s c past _ h p (if_besides c (has_host c (suc i)) _ (restarted_besides c (suc i) after out (c.hosts (suc i)).down))
moved_lives s c past (sets_stop zero calls pick) h p = besides_lives s c past _ h p (loc_up_besides c (set_to_stop loc_kind c.loc calls pick) c.loc.down)
moved_lives s c past (sets_stop (suc i) calls pick) h p = besides_lives s c past _ h p (if_besides c (has_host c (suc i)) _ (armed_besides c (suc i) (lines.Stop (Server (suc i)) calls pick) _ (c.hosts (suc i)).down))
moved_lives s c past (sets_fail zero call) h p = besides_lives s c past _ h p (loc_up_besides c (set_to_fail loc_kind c.loc call) c.loc.down)
moved_lives s c past (sets_fail (suc i) call) h p = besides_lives s c past _ h p (if_besides c (has_host c (suc i)) _ (armed_besides c (suc i) (lines.Fail (Server (suc i)) call) _ (c.hosts (suc i)).down))
moved_lives s c past (server_waits i n) h p = besides_lives s c past _ h p (if_besides c (has_host c i) _ (timed_besides c i n (c.hosts i).down))
moved_lives s c past (wakes i) h p = besides_lives s c past _ h p (if_besides c (has_host c i) _ (woken_besides c i (c.hosts i).down))
moved_lives s c past nothing h p = void_lives s c past h

step_lives : (s : Script) (c : Cell) (past : List Entry) (x : Input) → IsSoundLoc c.loc.state → Lived s c past → Lives past (moved c x)
step_lives s c past x so h = moved_lives s c past x h (each_moved (Placed s) (PlacedStep s) (placed_moves s) c past x so h.0)

pub lived_kept : (s : Script) → IsKept (Lived s)
lived_kept s c past x so h = let k = step_lives s c past x so h in (placed_kept s c past x so h.0, (k.down, k.epochs))

-- the set-up tells versions alone
pub versions_alive : (ls : List Line) → AreVersions ls → Alive ls
versions_alive [] h = refl
versions_alive (lines.Version v ∷ ls) h = versions_alive ls h
versions_alive (l ∷ ls) h = absurd h

first_down : (j : ℕ) (ls : List Line) → AreVersions ls → is_down (Client j) (onto [] ls) ≡ false
first_down j ls h = alive_down (Client j) ls [] (versions_alive ls h)

first_epoch : (j : ℕ) (ls : List Line) → AreVersions ls → epoch_after (Client j) (onto [] ls) ≡ 1
first_epoch j ls h = alive_epoch (Client j) ls [] (versions_alive ls h)

pub lived_first : (s : Script) → Lived s (start s) (set_up_entry s ∷ [])
lived_first s = (placed_first s, (λ j. first_down j (first_lines s.volumes) (all_versions s.volumes), λ j. first_epoch j (first_lines s.volumes) (all_versions s.volumes)))

pub run_lived : (s : Script) (h : List Entry) (end : Cell) → RunsTo h s end → EachEntry (λ past e. IsClientLived e.actor past e.lines e.sent) (set_up_entry s ∷ []) h
run_lived s h end r =
    run_each (Lived s) (λ past e. IsClientLived e.actor past e.lines e.sent) (lived_kept s) (λ c past x so k. (step_lives s c past x so k).good) r.inputs s (set_up_entry s ∷ []) h end (lived_first s) r.leads
