-- A client of a run that runs a call which breaks promises drops in that step what these are on, however many servers a cell has.
use Rattle.spec_history.specs.declared.acts.Operand.{Operand}
use Rattle.law_legal.proofs.ActCallsInRuns.{sought_answer, sought_acts_in, quietly}
use Rattle.law_legal.proofs.ActCalls.{AskedIn}
use Rattle.spec_history.specs.declared.acts.Act.{Act}
use Rattle.spec_history.specs.declared.lines.Line.{Line}
use Rattle.spec_history.specs.declared.lines.Line.TheVariants as lines
use Rattle.spec_history.specs.declared.scripts.Script.{Script}
use Rattle.law_legal.proofs.ActLines.{Acts, who_at}
use Rattle.law_legal.proofs.ActSteps.{begins_acts, given_acts, waits_acts, missed_acts}
use Rattle.law_legal.proofs.BaseLaws.{UpTo, at_put, at_seat, below-false, below-true, same_node-refl, same_node-true, some_of}
use Rattle.law_legal.proofs.VolumeChanges.{run_each}
use Rattle.law_legal.proofs.RunGivenWasSent.{begun_ungiven, waited_ungiven, sought_given, missed_ungiven}
use Rattle.law_legal.proofs.ServerHearsInRuns.{client_given}
use Rattle.law_legal.proofs.CallKeysOnce.{IsKnown, any_told, by_key}
use Rattle.law_legal.proofs.ClientLives.{Alive, begun_alive, client_apart, not_node, same_epoch, told_alive, waited_alive, missed_alive}
use Rattle.law_legal.proofs.RunWalk.{EachMove, IsUnsought, IsKept, each_moved}
use Rattle.law_legal.proofs.RunLinesInPlace.{Placed, PlacedStep, placed_first, placed_kept, placed_moves}
use Rattle.law_legal.proofs.RunSetUp.{AreVersions, all_versions}
use Rattle.law_legal.proofs.ReadUses.{none_given}
use Rattle.law_legal.specs.Breaks.{HasDrop, IsNamedIn}
use Rattle.law_legal.specs.Ideal.{first_lines, set_up_entry}
use Rattle.law_legal.specs.Legal.{AreDroppedIn, DropsBroken, DropsGiven, HandlesBreaks, IsInPlace, IsOfDisk, RunsHere}
use Rattle.law_legal.specs.Parts.{EachEntry, EachLine}
use Rattle.law_legal.specs.Past.{IsCall, IsCallToOrLater, IsCallUnder, IsFirstOfItsBoot, called_key, given_message, lines_of, onto, boot_risen, sent_of, server_boot}
use Rattle.spec_model.specs.Calls as pairs
use Rattle.spec_model.specs.Calls.{Admitted, admitted, call_seat, call_seated, compared, pair_below, paired, repeated}
use Rattle.afs_num.specs.Nodes.{same_node}
use Rattle.afs_num.specs.declared.calls.AfsCallBack.{AfsCallBack}
use Rattle.afs_num.specs.declared.calls.AfsFetchStatus.{AfsFetchStatus}
use Rattle.afs_num.specs.declared.calls.AfsVolSync.{AfsVolSync}
use Rattle.afs_num.specs.declared.calls.FsCall.{FsCall}
use Rattle.afs_num.specs.declared.calls.FsCall.TheVariants as calls
use Rattle.afs_num.specs.declared.calls.FsReply.{FsReply}
use Rattle.afs_num.specs.declared.calls.FsReply.TheVariants as replies
use Rattle.afs_num.specs.declared.histories.Actor.{Actor}
use Rattle.afs_num.specs.declared.histories.Actor.TheVariants as actors
use Rattle.afs_num.specs.declared.histories.ReadBody.{ReadBody}
use Rattle.afs_num.specs.declared.messages.Call.TheVariants as ask
use Rattle.afs_num.specs.declared.messages.Carried.{Carried}
use Rattle.afs_num.specs.declared.messages.Carried.TheVariants as carried
use Rattle.afs_num.specs.declared.messages.Message.{Message}
use Rattle.afs_num.specs.declared.messages.Received.TheVariants.{Whole}
use Rattle.afs_num.specs.declared.messages.Reply.TheVariants as tell
use Rattle.afs_num.specs.declared.types.Code.{Code}
use Rattle.afs_num.specs.declared.types.Fid.{Fid}
use Rattle.afs_num.specs.declared.types.Head.{Head}
use Rattle.afs_num.specs.declared.types.Key.{Key}
use Rattle.afs_num.specs.declared.types.Node.{Node}
use Rattle.afs_num.specs.declared.types.Node.TheVariants.{Admin, Client, Loc, Server}
use Rattle.spec_rows.specs.Callbacks.{put}
use Rattle.afs_num.specs.declared.histories.ReadBody.TheVariants as seen
use Rattle.afs_num.specs.declared.histories.ReadSource.TheVariants.{Fetched}
use Rattle.spec_rows.specs.ClientRow.{dropped, with_given, is_older, status_told, look_at, looked, put_entries, put_entry, read_lines, status_look, with_statuses, Walked, admits_call, awaits, begin_row, begins_by, behind_batch, breaks, call_of, calls_again, client_row, counts, reply_carried, drop_line, gift_of, gives_by, gives_up, goes_by, hears, ignores, in_order, is_awaited, stands_below, is_busy_code, is_spent, is_trusted, most_busy, most_reads, refused_with, refuses, runs_carried, takes, takes_bulk, takes_bytes, takes_data, takes_entries, takes_entry, takes_given, takes_list, takes_plain, takes_rights, takes_set, takes_shown, takes_status, takes_stored, timeout_row, tries_again, trusted_in, untrusted_in, walked, walks_on, whole, cache_entry_told, entries_told, body_told, find_cached, reborn, sought_by, is_answer, seek_timeout_row, sought_ends, is_sought, seeks_on, dead_code, timeout_line, is_gone_code, asks_where, volume_asked, most_moved}
use Rattle.spec_rows.specs.Going.{ClientState, Going, Need, answers, began, gives_back, next, with_read, Seek, operand_in}
use Rattle.law_legal.proofs.RunSteps.{blow_line, server_falls, server_moves, server_rises, server_set, server_stays, loc_becomes}
use Rattle.spec_rows.specs.Runs.{Armed, Cell, Entry, Fall, Moved, RunsTo, at_rest, begun_by_disk, client_falls, client_moves, client_rises, in_boot, in_step, message_at, start, ticked, voided}
use Rattle.spec_rows.specs.ServerRow.{not_served, replied, seat_for}
use Rattle.spec_rows.specs.ServerSteps.{back_timeout_row, server_row, wake_row}
use Rattle.spec_rows.specs.States.{CacheEntry, Gift, Seat}
use Rattle.spec_rows.specs.Steps.{Step}
use Rattle.std.proofs.Common.{suc, ◌+◌, ◌<◌, ◌≤◌, ◌≡◌, ◌⊎◌, inl, inr, ℕ, Bool, true, false, cond, List, [], ◌∷◌, ◌++◌, map, Option, Some, None, refl, sym, ap, subst, ◌∙◌, arith, eq-eqb, eqb-true, filter, nat_eq, nat_lt, not}
use Rattle.std.specs.List.{list_any}
use Rattle.std.specs.Prelude.{⊤, ◌&&◌}

-- ---- which calls a client has run: its seats. Only a call that it runs takes one

either_seats : (t : Bool) (a b : Step ClientState) (seats : List Seat) → a.state.seats ≡ seats → b.state.seats ≡ seats → (cond t a b).state.seats ≡ seats
either_seats true a b seats h k = h
either_seats false a b seats h k = k

goes_seats : (me : Node) (c : ClientState) (front : List Line → List Line) (w : Walked) (need : Need) → (goes_by me c front w need).state.seats ≡ c.seats
goes_seats me c front w (answers n) = refl
goes_seats me c front w need = refl

walks_seats : (me : Node) (c : ClientState) (clock : ℕ) (front : List Line → List Line) (act : Going) (cache : List CacheEntry) → (walks_on me c clock front act cache).state.seats ≡ c.seats
walks_seats me c clock front act cache = let w : Walked = walked (most_reads act) clock act cache in goes_seats me c front w (next w.act)

gives_seats : (me : Node) (c : ClientState) (front : List Line → List Line) (act : Going) (gs : List Gift) → (gives_by me c front act gs).state.seats ≡ c.seats
gives_seats me c front act [] = refl
gives_seats me c front act (g ∷ gs) = refl

entry_seats : (me : Node) (c : ClientState) (clock place : ℕ) (act : Going) (e : CacheEntry) (body : ReadBody) → (takes_entry me c clock place act e body).state.seats ≡ c.seats
entry_seats me c clock place act e body = either_seats (is_trusted clock e) _ (calls_again me c place act) c.seats (walks_seats me c clock (read_lines me place (look_at Fetched e body)) (with_read e.fid body act) (put_entry c.capacity e c.cache)) refl

entries_seats : (me : Node) (c : ClientState) (clock place : ℕ) (act : Going) (es : List CacheEntry) → (takes_entries me c clock place act es).state.seats ≡ c.seats
entries_seats me c clock place act es = either_seats (list_any (λ e. not (is_trusted clock e)) es) (calls_again me c place act) _ c.seats refl (walks_seats me c clock (λ ls. with_given place (looked me (map status_look es) ls)) (with_statuses es act) (put_entries c.capacity es c.cache))

rights_seats : (me : Node) (c : ClientState) (clock place : ℕ) (act : Going) (f : Fid) (index release : ℕ) (text : List ℕ) → (takes_rights me c clock place act f index release text).state.seats ≡ c.seats
rights_seats me c clock place act f index release text =
    walks_seats me c clock (λ ls. read_lines me place (record { fid = f; index = index; source = Fetched; body = seen.AccessList text }) (dropped me (filter (is_older f index release) c.cache) ls)) (with_read f (seen.AccessList text) act) (filter (λ e. not (is_older f index release e)) c.cache)

bytes_seats : (me : Node) (c : ClientState) (clock place : ℕ) (f : Fid) (status : AfsFetchStatus) (contents : List ℕ) (call : FsCall) → (takes_bytes me c clock place f status contents call).state.seats ≡ c.seats
bytes_seats me c clock place f status contents call = either_seats c.spoiled (takes_plain me c place call) _ c.seats refl refl

status_seats : (me : Node) (c : ClientState) (clock place : ℕ) (f : Fid) (status : AfsFetchStatus) (call : FsCall) → (takes_status me c clock place f status call).state.seats ≡ c.seats
status_seats me c clock place f status call = either_seats (not c.spoiled && stands_below clock status.sync_counter (find_cached f c.cache)) _ (takes_plain me c place call) c.seats refl refl

data_seats : (me : Node) (c : ClientState) (clock place : ℕ) (act : Going) (contents : List ℕ) (status : AfsFetchStatus) (callback : AfsCallBack) (sync : AfsVolSync) (call : FsCall) → (takes_data me c clock place act contents status callback sync call).state.seats ≡ c.seats
data_seats me c clock place act contents status callback sync (calls.FetchData f position wanted) = entry_seats me c clock place act (cache_entry_told c.callee f status callback sync (Some (body_told status.file_type contents))) (seen.Contents (body_told status.file_type contents))
data_seats me c clock place act contents status callback sync call = refl

shown_seats : (me : Node) (c : ClientState) (clock place : ℕ) (act : Going) (status : AfsFetchStatus) (callback : AfsCallBack) (sync : AfsVolSync) (call : FsCall) → (takes_shown me c clock place act status callback sync call).state.seats ≡ c.seats
shown_seats me c clock place act status callback sync (calls.FetchStatus f) = entry_seats me c clock place act (cache_entry_told c.callee f status callback sync None) (seen.Status (status_told status))
shown_seats me c clock place act status callback sync call = refl

list_seats : (me : Node) (c : ClientState) (clock place : ℕ) (act : Going) (text : List ℕ) (status : AfsFetchStatus) (sync : AfsVolSync) (call : FsCall) → (takes_list me c clock place act text status sync call).state.seats ≡ c.seats
list_seats me c clock place act text status sync (calls.FetchAcl f) = rights_seats me c clock place act f status.sync_counter sync.release text
list_seats me c clock place act text status sync call = refl

set_seats : (me : Node) (c : ClientState) (clock place : ℕ) (status : AfsFetchStatus) (call : FsCall) → (takes_set me c clock place status call).state.seats ≡ c.seats
set_seats me c clock place status (calls.StoreData f set position wanted file_length contents) = bytes_seats me c clock place f status contents (calls.StoreData f set position wanted file_length contents)
set_seats me c clock place status (calls.StoreAcl f acl) = status_seats me c clock place f status (calls.StoreAcl f acl)
set_seats me c clock place status (calls.StoreStatus f set) = status_seats me c clock place f status (calls.StoreStatus f set)
set_seats me c clock place status call = refl

bulk_seats : (me : Node) (c : ClientState) (clock place : ℕ) (act : Going) (statuses : List AfsFetchStatus) (callbacks : List AfsCallBack) (sync : AfsVolSync) (call : FsCall) → (takes_bulk me c clock place act statuses callbacks sync call).state.seats ≡ c.seats
bulk_seats me c clock place act statuses callbacks sync (calls.BulkStatus fids) = entries_seats me c clock place act (entries_told c.callee sync fids statuses callbacks)
bulk_seats me c clock place act statuses callbacks sync call = refl

given_seats : (me : Node) (c : ClientState) (place : ℕ) (act : Going) (call : FsCall) → (takes_given me c place act call).state.seats ≡ c.seats
given_seats me c place act (calls.GiveUpCallBacks fids callbacks) = gives_seats me c (with_given place) act (behind_batch c.gifts)
given_seats me c place act call = refl

takes_seats : (me : Node) (c : ClientState) (clock place : ℕ) (act : Going) (call : FsCall) (reply : FsReply) → (takes me c clock place act call reply).state.seats ≡ c.seats
takes_seats me c clock place act call (replies.FetchData contents status callback sync) = data_seats me c clock place act contents status callback sync call
takes_seats me c clock place act call (replies.FetchAcl text status sync) = list_seats me c clock place act text status sync call
takes_seats me c clock place act call (replies.FetchStatus status callback sync) = shown_seats me c clock place act status callback sync call
takes_seats me c clock place act call (replies.BulkStatus statuses callbacks sync) = bulk_seats me c clock place act statuses callbacks sync call
takes_seats me c clock place act call (replies.StoreData status sync) = set_seats me c clock place status call
takes_seats me c clock place act call (replies.StoreAcl status sync) = set_seats me c clock place status call
takes_seats me c clock place act call (replies.StoreStatus status sync) = set_seats me c clock place status call
takes_seats me c clock place act call replies.GiveUpCallBacks = given_seats me c place act call
takes_seats me c clock place act call reply = refl

where_seats : (me : Node) (c : ClientState) (place : ℕ) (act : Going) (code : Code) (o : Option Operand) → (asks_where me c place act code o).state.seats ≡ c.seats
where_seats me c place act code None = refl
where_seats me c place act code (Some o) = refl

refuses_seats : (me : Node) (c : ClientState) (place : ℕ) (act : Going) (code : Code) → (refuses me c place act code).state.seats ≡ c.seats
refuses_seats me c place act code = either_seats (is_busy_code code && nat_lt c.busy most_busy) _ _ c.seats refl (either_seats (is_gone_code code && nat_lt c.moved most_moved) _ _ c.seats (where_seats me c place act code (operand_in act (volume_asked (call_of c act)))) refl)

counts_seats : (me : Node) (c : ClientState) (clock place : ℕ) (act : Going) (head : Head) (x : Carried) → (counts me c clock place act head x).state.seats ≡ c.seats
counts_seats me c clock place act head (carried.Call user call) = refl
counts_seats me c clock place act head (carried.Refusal code) = either_seats (is_spent c act) (calls_again me c place act) (refuses me c place act code) c.seats refl (refuses_seats me c place act code)
counts_seats me c clock place act head (carried.Reply (tell.File reply)) = either_seats (is_spent c act) (calls_again me c place act) (takes me c clock place act (call_of c act) reply) c.seats refl (takes_seats me c clock place act (call_of c act) reply)
counts_seats me c clock place act head (carried.Reply reply) = refl
counts_seats me c clock place act head carried.Notice = refl

awaits_seats : (me : Node) (c : ClientState) (clock place : ℕ) (head : Head) (x : Carried) (o : Option Going) → (awaits me c clock place head x o).state.seats ≡ c.seats
awaits_seats me c clock place head x None = refl
awaits_seats me c clock place head x (Some act) = either_seats (is_awaited c act head) (counts me c clock place act head x) (ignores c place) c.seats (counts_seats me c clock place act head x) refl

-- the caller's seat is that of this call
abbrev Takes : Head → List Seat → List Seat → Type 0
Takes head before after = (r : Message) × (after ≡ call_seated (seat_for head r) before)

breaks_seats : (me : Node) (c : ClientState) (place : ℕ) (head : Head) (call : FsCall) → Takes head c.seats (breaks me c place head call).state.seats
breaks_seats me c place head (calls.CallBack fs callbacks) = (replied c.epoch head (reply_carried replies.CallBack), refl)
breaks_seats me c place head calls.InitCallBackState = (replied c.epoch head (reply_carried replies.InitCallBackState), refl)
breaks_seats me c place head calls.Probe = (replied c.epoch head (reply_carried replies.Probe), refl)
breaks_seats me c place head call = (replied c.epoch head (refused_with not_served), refl)

runs_seats : (me : Node) (c : ClientState) (place : ℕ) (head : Head) (x : Carried) → IsCall x → Takes head c.seats (runs_carried me c place head x).state.seats
runs_seats me c place head (carried.Call user (ask.File call)) is = breaks_seats me c place head call
runs_seats me c place head (carried.Call user call) is = (replied c.epoch head (refused_with not_served), refl)
runs_seats me c place head x is = absurd is

-- the seats after a step that is given this message
abbrev SeatsOf : Node → ClientState → Head → Carried → List Seat → Type 0
SeatsOf me c head x after = (after ≡ c.seats) ⊎ ((head.to ≡ me) × ((admitted c.epoch c.seats head ≡ pairs.runs) × (IsCall x × Takes head c.seats after)))

admits_seats : (me : Node) (c : ClientState) (place : ℕ) (head : Head) (x : Carried) (o : Admitted Message) → IsCall x → head.to ≡ me → admitted c.epoch c.seats head ≡ o → SeatsOf me c head x (admits_call me c place head (whole head x) o).state.seats
admits_seats me c place head x pairs.runs is to e = inr (to, (e, (is, runs_seats me c place head x is)))
admits_seats me c place head x (pairs.kept reply) is to e = inl refl
admits_seats me c place head x pairs.in_progress is to e = inl refl
admits_seats me c place head x pairs.older is to e = inl refl
admits_seats me c place head x (pairs.wrong_boot boot) is to e = inl refl

hears_seats : (me : Node) (c : ClientState) (clock place : ℕ) (head : Head) (x : Carried) → head.to ≡ me → SeatsOf me c head x (hears me c clock place head x).state.seats
hears_seats me c clock place head (carried.Call user call) to = admits_seats me c place head (carried.Call user call) (admitted c.epoch c.seats head) tt to refl
hears_seats me c clock place head x to = inl (awaits_seats me c clock place head x c.running)

row_seats : (t : Bool) (me : Node) (c : ClientState) (clock place : ℕ) (m : Message) → same_node m.head.to me ≡ t → SeatsOf me c m.head m.carried (cond t (hears me c clock place m.head m.carried) (ignores c place)).state.seats
row_seats true me c clock place m e = hears_seats me c clock place m.head m.carried (same_node-true m.head.to me e)
row_seats false me c clock place m e = inl refl

told_seats : (me : Node) (c : ClientState) (clock place : ℕ) (m : Message) → SeatsOf me c m.head m.carried (client_row me c clock place (Whole m)).state.seats
unfolding client_row
told_seats me c clock place m = row_seats (same_node m.head.to me) me c clock place m refl

first_seats : (me : Node) (c : ClientState) (clock : ℕ) (front : List Line → List Line) (act : Going) (need : Need) → (begins_by me c clock front act need).state.seats ≡ c.seats
first_seats me c clock front act gives_back = gives_seats me (record c { cache = untrusted_in clock c.cache }) (λ ls. front (dropped me (trusted_in clock c.cache) ls)) act (in_order (map gift_of (trusted_in clock c.cache)))
first_seats me c clock front act need = walks_seats me c clock front act c.cache

begun_seats : (me : Node) (c : ClientState) (clock : ℕ) (act : Act) → (begin_row me c clock act).state.seats ≡ c.seats
unfolding begin_row
begun_seats me c clock act = first_seats me (record c { busy = 0; moved = 0 }) clock (λ ls. lines.Begin me act ∷ ls) (began c.table act) (next (began c.table act))

waited_seats : (me : Node) (c : ClientState) (act : Going) → (timeout_row me c act).state.seats ≡ c.seats
waited_seats me c act = either_seats (nat_lt c.tries 2) (tries_again me c act) (gives_up me c (call_of c act)) c.seats refl refl

-- ---- what a call that runs tells

named_drop : (server me : Node) (f : Fid) (fs : List Fid) → IsNamedIn f fs → HasDrop server me (Some f) (map (drop_line me) fs)
named_drop server me f [] x = absurd x
named_drop server me f (g ∷ fs) (inl e) = inl (refl, ap Some (sym e))
named_drop server me f (g ∷ fs) (inr x) = inr (named_drop server me f fs x)

all_drops : (server me : Node) (fs : List Fid) (ls : List Line) → ((f : Fid) → IsNamedIn f fs → HasDrop server me (Some f) ls) → AreDroppedIn server me fs ls
all_drops server me [] ls w = tt
all_drops server me (f ∷ fs) ls w = (w f (inl refl), all_drops server me fs ls (λ g x. w g (inr x)))

runs_drops : (me : Node) (c : ClientState) (place : ℕ) (head : Head) (x : Carried) → DropsBroken me head x (runs_carried me c place head x).lines
runs_drops me c place head (carried.Call user (ask.File (calls.CallBack fs callbacks))) = all_drops head.from me fs (lines.Given place ∷ map (drop_line me) fs) (λ f x. named_drop head.from me f fs x)
runs_drops me c place head (carried.Call user (ask.File calls.InitCallBackState)) = inl (refl, refl)
runs_drops me c place head (carried.Call user (ask.File call)) = tt
runs_drops me c place head (carried.Call user call) = tt
runs_drops me c place head (carried.Refusal code) = tt
runs_drops me c place head (carried.Reply reply) = tt
runs_drops me c place head carried.Notice = tt

hears_drops : (me : Node) (c : ClientState) (clock place : ℕ) (head : Head) (x : Carried) → IsCall x → admitted c.epoch c.seats head ≡ pairs.runs → DropsBroken me head x (hears me c clock place head x).lines
hears_drops me c clock place head (carried.Call user call) is e =
    subst (λ (o : Admitted Message). DropsBroken me head (carried.Call user call) (admits_call me c place head (whole head (carried.Call user call)) o).lines) (sym e) (runs_drops me c place head (carried.Call user call))
hears_drops me c clock place head x is e = absurd is

row_drops : (t : Bool) (me : Node) (c : ClientState) (clock place : ℕ) (m : Message) → t ≡ true → IsCall m.carried → admitted c.epoch c.seats m.head ≡ pairs.runs → DropsBroken me m.head m.carried (cond t (hears me c clock place m.head m.carried) (ignores c place)).lines
row_drops true me c clock place m e is runs = hears_drops me c clock place m.head m.carried is runs
row_drops false me c clock place m e is runs = absurd cc

told_drops : (me : Node) (c : ClientState) (clock place : ℕ) (m : Message) → m.head.to ≡ me → IsCall m.carried → admitted c.epoch c.seats m.head ≡ pairs.runs → DropsBroken me m.head m.carried (client_row me c clock place (Whole m)).lines
unfolding client_row
told_drops me c clock place m to is runs = row_drops (same_node m.head.to me) me c clock place m (ap (λ (n : Node). same_node n me) to ∙ same_node-refl me) is runs

-- ---- the epoch in which a client is, by its lines

not_client : (who : Actor) (n : Node) (j : ℕ) → IsOfDisk who n → same_node n (Client j) ≡ false
not_client who (Server i) j of = refl
not_client who (Client i) j of = absurd of
not_client who (Admin i) j of = absurd of
not_client who Loc j of = refl

alive_boot : (s : Script) (who : Actor) (j : ℕ) (past : List Entry) (own ls o : List Line) → EachLine (IsInPlace s) who past own ls → Alive ls → server_boot (Client j) (onto o ls) ≡ server_boot (Client j) o
alive_boot s who j past own [] o p h = refl
alive_boot s who j past own (lines.Crash n ∷ ls) o p h = absurd cc
alive_boot s who j past own (lines.Restart n boot ∷ ls) o p h = absurd cc
alive_boot s who j past own (lines.Fault n ∷ ls) o p h = alive_boot s who j past (lines.Fault n ∷ own) ls (lines.Fault n ∷ o) p.1 h ∙ ap (λ (t : Bool). cond t None (server_boot (Client j) o)) (not_client who n j p.0)
alive_boot s who j past own (l ∷ ls) o p h = alive_boot s who j past (l ∷ own) ls (l ∷ o) p.1 h

others_boot : (s : Script) (who : Actor) (j : ℕ) (past : List Entry) (own ls o : List Line) → (who ≡ actors.Node (Client j) → ⊥) → EachLine (IsInPlace s) who past own ls → server_boot (Client j) (onto o ls) ≡ server_boot (Client j) o
others_boot s who j past own [] o other p = refl
others_boot s who j past own (lines.Crash n ∷ ls) o other p = others_boot s who j past (lines.Crash n ∷ own) ls (lines.Crash n ∷ o) other p.1 ∙ ap (λ (t : Bool). cond t None (server_boot (Client j) o)) (not_node who n j other p.0)
others_boot s who j past own (lines.Fault n ∷ ls) o other p = others_boot s who j past (lines.Fault n ∷ own) ls (lines.Fault n ∷ o) other p.1 ∙ ap (λ (t : Bool). cond t None (server_boot (Client j) o)) (not_client who n j p.0)
others_boot s who j past own (lines.Restart n boot ∷ ls) o other p =
    others_boot s who j past (lines.Restart n boot ∷ own) ls (lines.Restart n boot ∷ o) other p.1 ∙ ap (λ (t : Bool). cond t (boot_risen (server_boot (Client j) o) boot) (server_boot (Client j) o)) (not_node who n j other p.0.0)
others_boot s who j past own (l ∷ ls) o other p = others_boot s who j past (l ∷ own) ls (l ∷ o) other p.1

-- ---- what holds after every entry

-- one that is up is in its epoch
abbrev BootsAt : ℕ → ClientState → List Entry → Type 0
BootsAt j x past = (b : ℕ) → server_boot (Client j) (lines_of past) ≡ Some b → b ≡ x.epoch

abbrev seat_of : Node → Seat → Key
seat_of q seat = record { node = q; epoch = seat.epoch; number = seat.number }

-- each call that has a seat it was given in this epoch
abbrev SeatsAt : ℕ → ClientState → List Entry → Type 0
SeatsAt j x past = (q : Node) (seat : Seat) → call_seat q x.seats ≡ Some seat → IsFirstOfItsBoot (Client j) (seat_of q seat) x.epoch past → ⊥

record Serving (j : ℕ) (x : ClientState) (past : List Entry) : Type 0 where
  boots : BootsAt j x past
  seats : SeatsAt j x past

abbrev ServingIn : Cell → List Entry → Type 0
ServingIn c past = (j : ℕ) → Serving j (c.clients j) past

abbrev Served : Script → Cell → List Entry → Type 0
Served s c past = Placed s c past × ServingIn c past

record Handles (c : Cell) (past : List Entry) (m : Moved) : Type 0 where
  good : HandlesBreaks m.entry.actor past m.entry.lines
  serving : ServingIn m.cell (m.entry ∷ past)

-- no client's
besides_good : (who : Actor) (past : List Entry) (ls : List Line) → ((j : ℕ) → who ≡ actors.Node (Client j) → ⊥) → HandlesBreaks who past ls
besides_good (actors.Node (Client j)) past ls other = absurd (other j refl)
besides_good (actors.Node (Server i)) past ls other = tt
besides_good (actors.Node (Admin i)) past ls other = tt
besides_good (actors.Node Loc) past ls other = tt
besides_good actors.Clock past ls other = tt
besides_good actors.Nobody past ls other = tt

other_serving : (s : Script) (j : ℕ) (x : ClientState) (e : Entry) (past : List Entry) → (e.actor ≡ actors.Node (Client j) → ⊥) → EachLine (IsInPlace s) e.actor past [] e.lines → Serving j x past → Serving j x (e ∷ past)
other_serving s j x e past other p h = record {
  boots = λ b is. h.boots b (sym (others_boot s e.actor j past [] e.lines (lines_of past) other p) ∙ is);
  seats = λ q seat at t. h.seats q seat at t.1;
}

besides_handles : (s : Script) (c : Cell) (past : List Entry) (m : Moved) → Served s c past → EachLine (IsInPlace s) m.entry.actor past [] m.entry.lines → ((j : ℕ) → m.entry.actor ≡ actors.Node (Client j) → ⊥) → m.cell.clients ≡ c.clients → Handles c past m
besides_handles s c past m h p other same = record {
  good = besides_good m.entry.actor past m.entry.lines other;
  serving = subst (λ (clients : ℕ → ClientState). (j : ℕ) → Serving j (clients j) (m.entry ∷ past)) (sym same) (λ j. other_serving s j (c.clients j) m.entry past (other j) p (h.1 j));
}

one_client : (i j : ℕ) → actors.Node (Client i) ≡ actors.Node (Client j) → i ≡ j
one_client i j e = cc

own_serving : (s : Script) (c : Cell) (past : List Entry) (n : ℕ) (x : ClientState) (ls : List Line) (sent : List Message) → Served s c past → EachLine (IsInPlace s) (actors.Node (Client n)) past [] ls → Serving n x (record { actor = actors.Node (Client n); lines = ls; sent = sent; volumes = [] } ∷ past)
    → (j : ℕ) → Serving j (put n x c.clients j) (record { actor = actors.Node (Client n); lines = ls; sent = sent; volumes = [] } ∷ past)
own_serving s c past n x ls sent h p own j =
    let e : Entry = record { actor = actors.Node (Client n); lines = ls; sent = sent; volumes = [] } in
    at_put n j (λ (y : ClientState). Serving j y (e ∷ past)) x c.clients (λ same. subst (λ (k : ℕ). Serving k x (e ∷ past)) same own) (λ ne. other_serving s j (c.clients j) e past (λ z. ne (one_client n j z)) p (h.1 j))

-- one that goes on
up_boots : (s : Script) (past : List Entry) (n : ℕ) (x : ClientState) (st : Step ClientState) → BootsAt n x past → EachLine (IsInPlace s) (actors.Node (Client n)) past [] st.lines → Alive st.lines → st.state.epoch ≡ x.epoch → (b : ℕ) → server_boot (Client n) (onto (lines_of past) st.lines) ≡ Some b → b ≡ st.state.epoch
up_boots s past n x st h p alive same b is = h b (sym (alive_boot s (actors.Node (Client n)) n past [] st.lines (lines_of past) p alive) ∙ is) ∙ sym same

same_seats : (n : ℕ) (x y : ClientState) (e : Entry) (past : List Entry) → SeatsAt n x past → y.epoch ≡ x.epoch → y.seats ≡ x.seats → SeatsAt n y (e ∷ past)
same_seats n x y e past h epoch seats q seat at t =
    h q seat (ap (call_seat q) (sym seats) ∙ at) (subst (λ (k : ℕ). IsFirstOfItsBoot (Client n) (seat_of q seat) k past) epoch t.1)

-- it is given nothing
quiet_handles : (s : Script) (c : Cell) (past : List Entry) (n : ℕ) (st : Step ClientState) → Served s c past → EachLine (IsInPlace s) (actors.Node (Client n)) past [] st.lines → Alive st.lines → Acts n (who_at (c.clients n)) (c.clients n).gifts st → st.state.seats ≡ (c.clients n).seats → given_message st.lines (sent_of past) ≡ None → Handles c past (client_moves c n st)
quiet_handles s c past n st h p alive a seats none =
    let same : st.state.epoch ≡ (c.clients n).epoch = same_epoch n (c.clients n) st a alive in
    record {
      good = λ k r. subst (λ (o : Option Message). DropsGiven (Client n) o st.lines) (sym none) tt;
      serving = own_serving s c past n st.state st.lines st.sent h p (record {
        boots = up_boots s past n (c.clients n) st (h.1 n).boots p alive same;
        seats = same_seats n (c.clients n) st.state (record { actor = actors.Node (Client n); lines = st.lines; sent = st.sent; volumes = [] }) past (h.1 n).seats same seats;
      });
    }

-- ---- a call that wasn't given to it in this epoch, nor a later one of its caller, it runs

up_to_up : (e n d m b k : ℕ) → UpTo e n d m → UpTo d m b k → UpTo e n b k
up_to_up e n d m b k (inl x) (inl y) = inl (omega (arith, x, y))
up_to_up e n d m b k (inl x) (inr y) = inl (omega (arith, x, y.0))
up_to_up e n d m b k (inr x) (inl y) = inl (omega (arith, x.0, y))
up_to_up e n d m b k (inr x) (inr y) = inr (x.0 ∙ y.0, omega (arith, x.1, y.1))

later_call : (s : Node) (k l : Key) (b : ℕ) (o : Option Message) → k.node ≡ l.node → UpTo k.epoch k.number l.epoch l.number → IsCallToOrLater s l b o → IsCallToOrLater s k b o
later_call s k l b None same up x = x
later_call s k l b (Some m) same up x = (x.0, ((x.1.0.0 ∙ sym same, up_to_up k.epoch k.number l.epoch l.number m.head.epoch m.head.number up x.1.0.1), x.1.1))

come_later : (s : Node) (k l : Key) (b : ℕ) (past : List Entry) → k.node ≡ l.node → UpTo k.epoch k.number l.epoch l.number → IsFirstOfItsBoot s k b past → IsFirstOfItsBoot s l b past
come_later s k l b [] same up t = tt
come_later s k l b (e ∷ past) same up t = (λ x. t.0 (later_call s k l b (given_message e.lines (sent_of past)) same up x), come_later s k l b past same up t.1)

compared_runs : (a t : Bool) (epoch number : ℕ) (seat : Seat) → pair_below epoch number seat.epoch seat.number ≡ a → pair_below seat.epoch seat.number epoch number ≡ t → (UpTo epoch number seat.epoch seat.number → ⊥) → cond a pairs.older (cond t pairs.runs (repeated seat.reply)) ≡ pairs.runs
compared_runs true t epoch number seat a b none = absurd (none (below_up (below-true epoch number seat.epoch seat.number a)))
  where
    below_up : (epoch < seat.epoch) ⊎ ((epoch ≡ seat.epoch) × (number < seat.number)) → UpTo epoch number seat.epoch seat.number
    below_up (inl x) = inl x
    below_up (inr x) = inr (x.0, omega (arith, x.1))
compared_runs false true epoch number seat a b none = refl
compared_runs false false epoch number seat a b none = absurd (none (below-false seat.epoch seat.number epoch number b))

paired_runs : (epoch number : ℕ) (o : Option Seat) → ((seat : Seat) → o ≡ Some seat → UpTo epoch number seat.epoch seat.number → ⊥) → paired epoch number o ≡ pairs.runs
paired_runs epoch number None none = refl
paired_runs epoch number (Some seat) none = compared_runs (pair_below epoch number seat.epoch seat.number) (pair_below seat.epoch seat.number epoch number) epoch number seat refl refl (none seat refl)

is_run : (n : ℕ) (x : ClientState) (past : List Entry) (m : Message) → SeatsAt n x past → m.head.boot ≡ x.epoch → IsFirstOfItsBoot (Client n) (called_key m.head) x.epoch past → admitted x.epoch x.seats m.head ≡ pairs.runs
is_run n x past m h boot t =
    ap (λ (b : Bool). cond b (paired m.head.epoch m.head.number (call_seat m.head.from x.seats)) (pairs.wrong_boot x.epoch)) (eq-eqb m.head.boot x.epoch boot)
    ∙ paired_runs m.head.epoch m.head.number (call_seat m.head.from x.seats) (λ seat at up. h m.head.from seat at (come_later (Client n) (called_key m.head) (seat_of m.head.from seat) x.epoch past refl up t))

-- one that is given a message
new_seats : (n : ℕ) (x y : ClientState) (e : Entry) (past : List Entry) (m : Message) → SeatsAt n x past → y.epoch ≡ x.epoch → given_message e.lines (sent_of past) ≡ Some m → SeatsOf (Client n) x m.head m.carried y.seats → SeatsAt n y (e ∷ past)
new_seats n x y e past m h epoch given (inl same) = same_seats n x y e past h epoch same
new_seats n x y e past m h epoch given (inr w) = λ q seat at t.
    let s : Seat = seat_for m.head w.1.1.1.0 in
    at_seat s q x.seats (λ (o : Option Seat). o ≡ Some seat → ⊥)
    (λ own is. (let own_ : s ≡ seat = some_of s seat is in
    t.0 (subst (λ (o : Option Message). IsCallToOrLater (Client n) (seat_of q seat) y.epoch o) (sym given)
    (subst (λ (z : Seat). IsCallToOrLater (Client n) (seat_of q z) y.epoch (Some m)) own_ ((w.1.1.0, w.0), ((own, inr (refl, le_self m.head.number)), own_boot x.epoch x.seats m.head w.1.0 ∙ sym epoch))))))
    (λ other is. h q seat is (subst (λ (k : ℕ). IsFirstOfItsBoot (Client n) (seat_of q seat) k past) epoch t.1))
    (ap (call_seat q) (sym w.1.1.1.1) ∙ at)
  where
    le_self : (k : ℕ) → k ≤ k
    le_self k = omega arith

    boot_by : (t : Bool) (boot epoch : ℕ) (o : Admitted Message) → nat_eq boot epoch ≡ t → cond t o (pairs.wrong_boot epoch) ≡ pairs.runs → boot ≡ epoch
    boot_by true boot epoch o e r = eqb-true boot epoch e
    boot_by false boot epoch o e r = absurd cc

    own_boot : (epoch : ℕ) (seats : List Seat) (head : Head) → admitted epoch seats head ≡ pairs.runs → head.boot ≡ epoch
    own_boot epoch seats head r = boot_by (nat_eq head.boot epoch) head.boot epoch (paired head.epoch head.number (call_seat head.from seats)) refl r

told_good : (c : Cell) (past : List Entry) (n place : ℕ) (m : Message) → Serving n (c.clients n) past → given_message (client_row (Client n) (c.clients n) c.clock place (Whole m)).lines (sent_of past) ≡ Some m → HandlesBreaks (actors.Node (Client n)) past (client_row (Client n) (c.clients n) c.clock place (Whole m)).lines
told_good c past n place m h given k r =
    let x : ClientState = c.clients n in
    let ls : List Line = (client_row (Client n) x c.clock place (Whole m)).lines in
    let under : IsCallUnder (Client n) k r.boot (Some m) = subst (IsCallUnder (Client n) k r.boot) given r.given in
    let now : r.boot ≡ x.epoch = h.boots r.boot r.up in
    let first : IsFirstOfItsBoot (Client n) (called_key m.head) x.epoch past = subst (λ (l : Key). IsFirstOfItsBoot (Client n) l x.epoch past) (sym under.1.0) (subst (λ (b : ℕ). IsFirstOfItsBoot (Client n) k b past) now r.first) in
    subst (λ (o : Option Message). DropsGiven (Client n) o ls) (sym given) (told_drops (Client n) x c.clock place m under.0.1 under.0.0 (is_run n x past m h.seats (under.1.1 ∙ now) first))

-- ---- every step

told_handles : (s : Script) (c : Cell) (past : List Entry) (n place : ℕ) (m : Message) → Served s c past → message_at c.sent place ≡ Some m → m.head.to ≡ Client n → IsUnsought n (c.clients n) m → Handles c past (client_moves c n (client_row (Client n) (c.clients n) c.clock place (Whole m)))
told_handles s c past n place m h at to un =
    let x : ClientState = c.clients n in
    let st : Step ClientState = client_row (Client n) x c.clock place (Whole m) in
    let p : EachLine (IsInPlace s) (actors.Node (Client n)) past [] st.lines = (placed_moves s).told c past n place m h.0 at to un in
    let alive : Alive st.lines = told_alive (Client n) x c.clock place m in
    let a : Acts n (who_at x) x.gifts st = given_acts (by_key (IsKnown h.0.0.0.keys.callees c.clients)) any_told n x c.clock place m (h.0.0.0.keys.replies n) (h.0.0.1.seats n) in
    let same : st.state.epoch ≡ x.epoch = same_epoch n x st a alive in
    let given : given_message st.lines (sent_of past) ≡ Some m = (client_given c past n place m h.0.0.0.hears to at).given (sent_of past) ∙ (ap (λ (ms : List Message). message_at ms place) h.0.0.0.hears.told ∙ at) in
    record {
      good = told_good c past n place m (h.1 n) given;
      serving = own_serving s c past n st.state st.lines st.sent h p (record {
        boots = up_boots s past n x st (h.1 n).boots p alive same;
        seats = new_seats n x st.state (record { actor = actors.Node (Client n); lines = st.lines; sent = st.sent; volumes = [] }) past m (h.1 n).seats same given (told_seats (Client n) x c.clock place m);
      });
    }

-- the database's answer is no call
no_call : (me : Node) (head : Head) (x : Carried) (ls : List Line) → is_answer x ≡ true → DropsBroken me head x ls
no_call me head (carried.Call user call) ls h = absurd cc
no_call me head (carried.Refusal code) ls h = tt
no_call me head (carried.Reply reply) ls h = tt
no_call me head carried.Notice ls h = tt

sought_handles : (s : Script) (c : Cell) (past : List Entry) (n place : ℕ) (m : Message) (k : Seek) → Served s c past → message_at c.sent place ≡ Some m → m.head.to ≡ Client n → (c.clients n).seeking ≡ Some k → is_sought (Client n) (c.clients n) k m.head m.carried ≡ true → Handles c past (client_moves c n (sought_by (Client n) (c.clients n) c.clock place k m.head m.carried))
sought_handles s c past n place m k h at to z e =
    let x : ClientState = c.clients n in
    let st : Step ClientState = sought_by (Client n) x c.clock place k m.head m.carried in
    let A : AskedIn s c past = h.0.0.1 in
    let p : EachLine (IsInPlace s) (actors.Node (Client n)) past [] st.lines = (placed_moves s).sought c past n place m k h.0 at to z e in
    let alive : Alive st.lines = quietly s c past n place m k (λ y. Alive y.lines) A at z e (λ code. refl) refl refl in
    let same : st.state.epoch ≡ x.epoch = same_epoch n x st (sought_acts_in s c past n place m k A at z e) alive in
    record {
      good = λ l r. subst (λ (o : Option Message). DropsGiven (Client n) o st.lines) (sym (sought_given c past n place m k h.0.0.0 at)) (no_call (Client n) m.head m.carried st.lines (sought_answer (Client n) x k m e));
      serving = own_serving s c past n st.state st.lines st.sent h p (record {
        boots = up_boots s past n x st (h.1 n).boots p alive same;
        seats = same_seats n x st.state (record { actor = actors.Node (Client n); lines = st.lines; sent = st.sent; volumes = [] }) past (h.1 n).seats same (quietly s c past n place m k (λ y. y.state.seats ≡ x.seats) A at z e (λ code. refl) refl refl);
      });
    }

missed_seats : (me : Node) (c : ClientState) (k : Seek) → (seek_timeout_row me c k).state.seats ≡ c.seats
missed_seats me c k = either_seats (nat_lt c.tries 2) (seeks_on me c k) (sought_ends me c (λ ls. timeout_line me c 3 ∷ ls) dead_code) c.seats refl refl

falls_handles : (s : Script) (c : Cell) (past : List Entry) (n : ℕ) → Served s c past → Handles c past (client_falls c n)
falls_handles s c past n h = record {
  good = λ k r. tt;
  serving = own_serving s c past n (reborn c.handed (c.clients n)) (lines.Crash (Client n) ∷ []) [] h ((placed_moves s).fallen c past n h.0) (record {
    boots = λ b is. (let none : None ≡ Some b = ap (λ (t : Bool). cond t None (server_boot (Client n) (lines_of past))) (sym (same_node-refl (Client n))) ∙ is in absurd cc);
    seats = λ q seat at t. absurd cc;
  });
}

rises_handles : (s : Script) (c : Cell) (past : List Entry) (n : ℕ) → Served s c past → Handles c past (client_rises c n)
rises_handles s c past n h = record {
  good = λ k r. tt;
  serving = own_serving s c past n (c.clients n) (lines.Restart (Client n) (c.clients n).epoch ∷ []) [] h ((placed_moves s).risen c past n h.0) (record {
    boots = λ b is. risen_boot (server_boot (Client n) (lines_of past)) (c.clients n).epoch b (h.1 n).boots (ap (λ (t : Bool). cond t (boot_risen (server_boot (Client n) (lines_of past)) (c.clients n).epoch) (server_boot (Client n) (lines_of past))) (sym (same_node-refl (Client n))) ∙ is);
    seats = λ q seat at t. (h.1 n).seats q seat at t.1;
  });
}
  where
    risen_boot : (o : Option ℕ) (epoch b : ℕ) → ((k : ℕ) → o ≡ Some k → k ≡ epoch) → boot_risen o epoch ≡ Some b → b ≡ epoch
    risen_boot None epoch b w e = sym (some_of epoch b e)
    risen_boot (Some old) epoch b w e = w b e

handled_moves : (s : Script) → EachMove (Served s) Handles
handled_moves s = (let q : EachMove (Placed s) (PlacedStep s) = placed_moves s in record {
  void = λ c past h. besides_handles s c past (voided c) h (q.void c past h.0) (λ j e. absurd cc) refl;
  ticked = λ c past n h. besides_handles s c past (ticked c (suc n)) h (q.ticked c past n h.0) (λ j e. absurd cc) refl;
  begun = λ c past n act h r z0. quiet_handles s c past n (begin_row (Client n) (c.clients n) c.clock act) h (q.begun c past n act h.0 r z0) (begun_alive (Client n) (c.clients n) c.clock act) (begins_acts n (c.clients n) c.clock act r z0) (begun_seats (Client n) (c.clients n) c.clock act)
      (none_given (begin_row (Client n) (c.clients n) c.clock act).lines (sent_of past) (begun_ungiven (Client n) (c.clients n) c.clock act));
  told = λ c past n place m h at to un. told_handles s c past n place m h at to un;
  sought = λ c past n place m k h at to z e. sought_handles s c past n place m k h at to z e;
  missed = λ c past n k h r z. quiet_handles s c past n (seek_timeout_row (Client n) (c.clients n) k) h (q.missed c past n k h.0 r z) (missed_alive (Client n) (c.clients n) k) (missed_acts n (c.clients n) k r z) (missed_seats (Client n) (c.clients n) k)
      (none_given (seek_timeout_row (Client n) (c.clients n) k).lines (sent_of past) (missed_ungiven (Client n) (c.clients n) k));
  loc = λ c past l ls ms h st. besides_handles s c past (loc_becomes c l ls ms) h (q.loc c past l ls ms h.0 st) (λ j e. absurd cc) refl;
  waited = λ c past n act h r. quiet_handles s c past n (timeout_row (Client n) (c.clients n) act) h (q.waited c past n act h.0 r) (waited_alive (Client n) (c.clients n) act) (waits_acts n (c.clients n) act r) (waited_seats (Client n) (c.clients n) act)
      (none_given (timeout_row (Client n) (c.clients n) act).lines (sent_of past) (waited_ungiven (Client n) (c.clients n) act));
  fallen = λ c past n h. falls_handles s c past n h;
  risen = λ c past n h. rises_handles s c past n h;
  served = λ c past i place m armed h up at to. besides_handles s c past (server_moves c i armed (server_row (Server i) (c.hosts i).state c.clock place (Whole m))) h (q.served c past i place m armed h.0 up at to) (λ j e. absurd cc) refl;
  cut = λ c past i place m t h up at to. besides_handles s c past (server_falls c i (lines.Given place ∷ blow_line i t.stops ∷ []) (in_step m c.clock t)) h (q.cut c past i place m t h.0 up at to) (λ j e. absurd cc) refl;
  stopped = λ c past i h up. besides_handles s c past (server_falls c i (lines.Crash (Server i) ∷ []) at_rest) h (q.stopped c past i h.0 up) (λ j e. absurd cc) refl;
  stop_set = λ c past i calls pick armed h up. besides_handles s c past (server_set c i (lines.Stop (Server i) calls pick) armed) h (q.stop_set c past i calls pick armed h.0 up) (λ j e. absurd cc) refl;
  fail_set = λ c past i call armed h up. besides_handles s c past (server_set c i (lines.Fail (Server i) call) armed) h (q.fail_set c past i call armed h.0 up) (λ j e. absurd cc) refl;
  timed = λ c past i n b armed h up at. besides_handles s c past (server_moves c i armed (back_timeout_row (Server i) (c.hosts i).state c.clock n b)) h (q.timed c past i n b armed h.0 up at) (λ j e. absurd cc) refl;
  woken = λ c past i armed h up. besides_handles s c past (server_moves c i armed (wake_row (Server i) (c.hosts i).state c.clock)) h (q.woken c past i armed h.0 up) (λ j e. absurd cc) refl;
  started = λ c past i after fall h down. besides_handles s c past (server_rises c i (begun_by_disk (Server i) (c.hosts i).state after fall)) h (q.started c past i after fall h.0 down) (λ j e. absurd cc) refl;
  early = λ c past i fall h down. besides_handles s c past (server_falls c i (lines.Fault (Server i) ∷ []) fall) h (q.early c past i fall h.0 down) (λ j e. absurd cc) refl;
  midway = λ c past i after fall h down. besides_handles s c past (server_stays c i (begun_by_disk (Server i) (c.hosts i).state after fall) (lines.Fault (Server i)) in_boot) h (q.midway c past i after fall h.0 down) (λ j e. absurd cc) refl;
  full = λ c past i after fall h down. besides_handles s c past (server_stays c i (begun_by_disk (Server i) (c.hosts i).state after fall) (lines.Full (Server i)) at_rest) h (q.full c past i after fall h.0 down) (λ j e. absurd cc) refl;
})

served_kept : (s : Script) → IsKept (Served s)
served_kept s c past x so h = (placed_kept s c past x so h.0, (each_moved (Served s) Handles (handled_moves s) c past x so h).serving)

-- the set-up tells versions alone
first_boot : (j : ℕ) (ls o : List Line) → AreVersions ls → server_boot (Client j) (onto o ls) ≡ server_boot (Client j) o
first_boot j [] o h = refl
first_boot j (lines.Version v ∷ ls) o h = first_boot j ls (lines.Version v ∷ o) h
first_boot j (l ∷ ls) o h = absurd h

served_first : (s : Script) → Served s (start s) (set_up_entry s ∷ [])
served_first s = (
  placed_first s,
  λ j. record {
    boots = λ b is. sym (some_of 1 b (sym (first_boot j (first_lines s.volumes) [] (all_versions s.volumes)) ∙ is));
    seats = λ q seat at t. absurd cc;
  },
)

pub run_handled : (s : Script) (h : List Entry) (end : Cell) → RunsTo h s end → EachEntry (λ past e. HandlesBreaks e.actor past e.lines) (set_up_entry s ∷ []) h
run_handled s h end r =
    run_each (Served s) (λ past e. HandlesBreaks e.actor past e.lines) (served_kept s) (λ c past x so k. (each_moved (Served s) Handles (handled_moves s) c past x so k).good) r.inputs s (set_up_entry s ∷ []) h end (served_first s) r.leads
