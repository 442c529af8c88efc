-- What a client tells servers that call it, however many a cell has: that it was given their calls, and dropped what those break.
use Rattle.law_legal.specs.LocLaws.{IsToldIn}
use Rattle.spec_history.specs.declared.scripts.Script.{Script}
use Rattle.spec_history.specs.declared.acts.Operand.{Operand}
use Rattle.spec_history.specs.declared.acts.Act.{Act}
use Rattle.spec_history.specs.declared.lines.Line.{Line}
use Rattle.spec_history.specs.declared.lines.Line.TheVariants as lines
use Rattle.law_legal.proofs.ActLines.{is_of}
use Rattle.law_legal.proofs.ActSteps.{IsPlaced, by_quiet, sought_quiet}
use Rattle.law_legal.proofs.OwedPasses.{Plain, all_lines, drop_onto, is_oweless, is_still, is_unchanging, is_up, carried_over, plain_step, seated_over}
use Rattle.law_legal.proofs.BaseLaws.{ByServer, Each, IfBack, IfDone, LastSeat, OfCall, OfReply, OfServer, at_seat, both, by_server, each_map, kept_last, of_reply, same_node-true, server_any, some_of, not_loc}
use Rattle.law_legal.proofs.OwedFacts.{AllOf, BackIn, BackedIn, CallOut, DoneIn, DroppedOwe, IsDone, SeatedIn}
use Rattle.law_legal.proofs.PromiseLists.{Owed}
use Rattle.law_legal.proofs.ServerSeats.{AreSeated, IsReplyOf}
use Rattle.law_legal.specs.Breaks.{CarriesBreak, HasDrop, IsNamedIn, IsCarried, NamesIn}
use Rattle.law_legal.specs.Past.{lines_on, onto}
use Rattle.spec_model.specs.Calls as pairs
use Rattle.spec_model.specs.Calls.{Admitted, admitted, call_seat, call_seated}
use Rattle.afs_num.specs.Nodes.{same_node}
use Rattle.afs_num.specs.declared.calls.AfsCallBack.{AfsCallBack}
use Rattle.afs_num.specs.declared.calls.AfsFetchStatus.{AfsFetchStatus}
use Rattle.afs_num.specs.declared.calls.AfsVolSync.{AfsVolSync}
use Rattle.afs_num.specs.declared.calls.FsCall.{FsCall}
use Rattle.afs_num.specs.declared.calls.FsCall.TheVariants as calls
use Rattle.afs_num.specs.declared.calls.FsReply.{FsReply}
use Rattle.afs_num.specs.declared.calls.FsReply.TheVariants as replies
use Rattle.afs_num.specs.declared.histories.Actor.TheVariants as actors
use Rattle.afs_num.specs.declared.histories.Body.TheVariants as bodies
use Rattle.afs_num.specs.declared.histories.ReadBody.{ReadBody}
use Rattle.afs_num.specs.declared.histories.ReadBody.TheVariants as seen
use Rattle.afs_num.specs.declared.histories.ReadSource.TheVariants.{Fetched}
use Rattle.afs_num.specs.declared.messages.Call.TheVariants as ask
use Rattle.afs_num.specs.declared.messages.Carried.{Carried}
use Rattle.afs_num.specs.declared.messages.Carried.TheVariants as carried
use Rattle.afs_num.specs.declared.messages.Message.{Message}
use Rattle.afs_num.specs.declared.messages.Received.TheVariants.{Whole}
use Rattle.afs_num.specs.declared.messages.Reply.TheVariants as tell
use Rattle.afs_num.specs.declared.types.Code.{Code}
use Rattle.afs_num.specs.declared.types.Fid.{Fid}
use Rattle.afs_num.specs.declared.types.Head.{Head}
use Rattle.afs_num.specs.declared.types.Node.{Node}
use Rattle.afs_num.specs.declared.types.Node.TheVariants.{Client, Server}
use Rattle.spec_rows.specs.Callbacks.{breaks_call}
use Rattle.spec_rows.specs.ClientRow.{Walked, admits_call, answers_step, awaits, begin_row, begins_by, behind_batch, body_told, breaks, call_of, calls_again, client_row, counts, reply_carried, drop_line, dropped, entries_told, cache_entry_told, find_cached, gift_of, with_given, gives_by, gives_up, goes_by, goes_on, hears, ignores, in_order, is_awaited, stands_below, is_busy_code, is_older, is_spent, is_trusted, look_at, looked, most_busy, most_reads, put_entries, put_entry, read_lines, refused_with, refuses, replies_step, status_look, status_told, takes, takes_bulk, takes_data, takes_entries, takes_entry, takes_given, takes_list, takes_plain, takes_rights, takes_set, takes_shown, takes_stored, timeout_row, told_step, tries_again, trusted_in, untrusted_in, walked, walks_on, whole, with_statuses, without_fids, without_server, asks_where, refuses_for_good, is_gone_code, most_moved, volume_asked, sought_by, seek_timeout_row}
use Rattle.spec_rows.specs.Going.{ClientState, Going, Need, answers, began, gives_back, next, with_read, operand_in, Seek}
use Rattle.spec_rows.specs.Runs.{Entry, Fall}
use Rattle.spec_rows.specs.ServerRow.{boot_told, not_served, replied, seat_for}
use Rattle.spec_rows.specs.States.{Backs, CacheEntry, Gift, Seat}
use Rattle.spec_rows.specs.Steps.{Step}
use Rattle.std.proofs.Common.{◌≡◌, ℕ, inl, inr, Bool, true, false, cond, List, [], ◌∷◌, ◌+◌, map, nat_eq, nat_lt, Option, Some, None, refl, sym, ap, subst, ◌∙◌}
use Rattle.std.proofs.Math.Nat.{le_refl}
use Rattle.std.specs.List.{list_any}
use Rattle.std.specs.Prelude.{◌&&◌, filter, not}
use Rattle.law_legal.proofs.OwedLoad.{carried_by, two_all}
use Rattle.law_legal.proofs.OwedTurns.{of_reply_any}

-- ---- a step that answers no call

-- it sends calls alone, and what is kept for callers stays
pub record Speaks (seats : List Seat) (s : Step ClientState) : Type 0 where
  pub calls : Each (λ m. OfReply ⊥ m.carried) s.sent
  pub seats' : s.state.seats ≡ seats

either_speaks : (t : Bool) (seats : List Seat) (a b : Step ClientState) → Speaks seats a → Speaks seats b → Speaks seats (cond t a b)
either_speaks true seats a b h k = h
either_speaks false seats a b h k = k

goes_speaks : (me : Node) (c : ClientState) (front : List Line → List Line) (w : Walked) (need : Need) → Speaks c.seats (goes_by me c front w need)
goes_speaks me c front w (answers n) = record { calls = tt; seats' = refl }
goes_speaks me c front w need = record { calls = (tt, tt); seats' = refl }

on_speaks : (me : Node) (c : ClientState) (front : List Line → List Line) (w : Walked) → Speaks c.seats (goes_on me c front w)
on_speaks me c front w = goes_speaks me c front w (next w.act)

walks_speaks : (me : Node) (c : ClientState) (clock : ℕ) (front : List Line → List Line) (act : Going) (cache : List CacheEntry) → Speaks c.seats (walks_on me c clock front act cache)
walks_speaks me c clock front act cache = on_speaks me c front (walked (most_reads act) clock act cache)

gives_speaks : (me : Node) (c : ClientState) (front : List Line → List Line) (act : Going) (gs : List Gift) → Speaks c.seats (gives_by me c front act gs)
gives_speaks me c front act [] = record { calls = tt; seats' = refl }
gives_speaks me c front act (g ∷ gs) = record { calls = (tt, tt); seats' = refl }

begins_speaks : (me : Node) (c : ClientState) (clock : ℕ) (front : List Line → List Line) (act : Going) (need : Need) → Speaks c.seats (begins_by me c clock front act need)
begins_speaks me c clock front act gives_back = gives_speaks me (record c { cache = untrusted_in clock c.cache }) (λ ls. front (dropped me (trusted_in clock c.cache) ls)) act (in_order (map gift_of (trusted_in clock c.cache)))
begins_speaks me c clock front act need = walks_speaks me c clock front act c.cache

pub begun_speaks : (me : Node) (c : ClientState) (clock : ℕ) (act : Act) → Speaks c.seats (begin_row me c clock act)
unfolding begin_row
begun_speaks me c clock act = begins_speaks me (record c { busy = 0; moved = 0 }) clock (λ ls. lines.Begin me act ∷ ls) (began c.table act) (next (began c.table act))

again_speaks : (me : Node) (c : ClientState) (place : ℕ) (act : Going) → Speaks c.seats (calls_again me c place act)
again_speaks me c place act = record { calls = (tt, tt); seats' = refl }

plain_speaks : (me : Node) (c : ClientState) (place : ℕ) (call : FsCall) → Speaks c.seats (takes_plain me c place call)
plain_speaks me c place call = record { calls = tt; seats' = refl }

entry_speaks : (me : Node) (c : ClientState) (clock place : ℕ) (act : Going) (entry : CacheEntry) (body : ReadBody) → Speaks c.seats (takes_entry me c clock place act entry body)
entry_speaks me c clock place act entry body =
    either_speaks (is_trusted clock entry) c.seats (walks_on me c clock (read_lines me place (look_at Fetched entry body)) (with_read entry.fid body act) (put_entry c.capacity entry c.cache)) (calls_again me c place act)
    (walks_speaks me c clock (read_lines me place (look_at Fetched entry body)) (with_read entry.fid body act) (put_entry c.capacity entry c.cache)) (again_speaks me c place act)

data_speaks : (me : Node) (c : ClientState) (clock place : ℕ) (act : Going) (contents : List ℕ) (status : AfsFetchStatus) (callback : AfsCallBack) (sync : AfsVolSync) (call : FsCall) → Speaks c.seats (takes_data me c clock place act contents status callback sync call)
data_speaks me c clock place act contents status callback sync (calls.FetchData f position wanted) = entry_speaks me c clock place act (cache_entry_told c.callee f status callback sync (Some (body_told status.file_type contents))) (seen.Contents (body_told status.file_type contents))
data_speaks me c clock place act contents status callback sync call = plain_speaks me c place call

shown_speaks : (me : Node) (c : ClientState) (clock place : ℕ) (act : Going) (status : AfsFetchStatus) (callback : AfsCallBack) (sync : AfsVolSync) (call : FsCall) → Speaks c.seats (takes_shown me c clock place act status callback sync call)
shown_speaks me c clock place act status callback sync (calls.FetchStatus f) = entry_speaks me c clock place act (cache_entry_told c.callee f status callback sync None) (seen.Status (status_told status))
shown_speaks me c clock place act status callback sync call = plain_speaks me c place call

entries_speaks : (me : Node) (c : ClientState) (clock place : ℕ) (act : Going) (entries : List CacheEntry) → Speaks c.seats (takes_entries me c clock place act entries)
entries_speaks me c clock place act entries =
    either_speaks (list_any (λ e. not (is_trusted clock e)) entries) c.seats (calls_again me c place act) (walks_on me c clock (λ ls. with_given place (looked me (map status_look entries) ls)) (with_statuses entries act) (put_entries c.capacity entries c.cache)) (again_speaks me c place act)
    (walks_speaks me c clock (λ ls. with_given place (looked me (map status_look entries) ls)) (with_statuses entries act) (put_entries c.capacity entries c.cache))

bulk_speaks : (me : Node) (c : ClientState) (clock place : ℕ) (act : Going) (statuses : List AfsFetchStatus) (callbacks : List AfsCallBack) (sync : AfsVolSync) (call : FsCall) → Speaks c.seats (takes_bulk me c clock place act statuses callbacks sync call)
bulk_speaks me c clock place act statuses callbacks sync (calls.BulkStatus fids) = entries_speaks me c clock place act (entries_told c.callee sync fids statuses callbacks)
bulk_speaks me c clock place act statuses callbacks sync call = plain_speaks me c place call

rights_speaks : (me : Node) (c : ClientState) (clock place : ℕ) (act : Going) (f : Fid) (index release : ℕ) (text : List ℕ) → Speaks c.seats (takes_rights me c clock place act f index release text)
rights_speaks me c clock place act f index release text =
    walks_speaks me c clock (λ ls. read_lines me place (record { fid = f; index = index; source = Fetched; body = seen.AccessList text }) (dropped me (filter (is_older f index release) c.cache) ls)) (with_read f (seen.AccessList text) act) (filter (λ e. not (is_older f index release e)) c.cache)

list_speaks : (me : Node) (c : ClientState) (clock place : ℕ) (act : Going) (text : List ℕ) (status : AfsFetchStatus) (sync : AfsVolSync) (call : FsCall) → Speaks c.seats (takes_list me c clock place act text status sync call)
list_speaks me c clock place act text status sync (calls.FetchAcl f) = rights_speaks me c clock place act f status.sync_counter sync.release text
list_speaks me c clock place act text status sync call = plain_speaks me c place call

status_speaks : (t : Bool) (me : Node) (c : ClientState) (clock place : ℕ) (f : Fid) (status : AfsFetchStatus) (call : FsCall) → Speaks c.seats (cond t (takes_stored me c clock place f status.sync_counter (status_told status) (λ body. body)) (takes_plain me c place call))
status_speaks true me c clock place f status call = record { calls = tt; seats' = refl }
status_speaks false me c clock place f status call = record { calls = tt; seats' = refl }

bytes_speaks : (t : Bool) (me : Node) (c : ClientState) (clock place : ℕ) (f : Fid) (status : AfsFetchStatus) (contents : List ℕ) (call : FsCall) → Speaks c.seats (cond t (takes_plain me c place call) (takes_stored me c clock place f status.sync_counter (status_told status) (λ body. Some (bodies.File contents))))
bytes_speaks true me c clock place f status contents call = record { calls = tt; seats' = refl }
bytes_speaks false me c clock place f status contents call = record { calls = tt; seats' = refl }

set_speaks : (me : Node) (c : ClientState) (clock place : ℕ) (status : AfsFetchStatus) (call : FsCall) → Speaks c.seats (takes_set me c clock place status call)
set_speaks me c clock place status (calls.StoreData f set position wanted file_length contents) = bytes_speaks c.spoiled me c clock place f status contents (calls.StoreData f set position wanted file_length contents)
set_speaks me c clock place status (calls.StoreAcl f acl) = status_speaks (not c.spoiled && stands_below clock status.sync_counter (find_cached f c.cache)) me c clock place f status (calls.StoreAcl f acl)
set_speaks me c clock place status (calls.StoreStatus f set) = status_speaks (not c.spoiled && stands_below clock status.sync_counter (find_cached f c.cache)) me c clock place f status (calls.StoreStatus f set)
set_speaks me c clock place status call = plain_speaks me c place call

given_speaks : (me : Node) (c : ClientState) (place : ℕ) (act : Going) (call : FsCall) → Speaks c.seats (takes_given me c place act call)
given_speaks me c place act (calls.GiveUpCallBacks fids callbacks) = gives_speaks me c (with_given place) act (behind_batch c.gifts)
given_speaks me c place act call = plain_speaks me c place call

takes_speaks : (me : Node) (c : ClientState) (clock place : ℕ) (act : Going) (call : FsCall) (reply : FsReply) → Speaks c.seats (takes me c clock place act call reply)
takes_speaks me c clock place act call (replies.FetchData contents status callback sync) = data_speaks me c clock place act contents status callback sync call
takes_speaks me c clock place act call (replies.FetchAcl text status sync) = list_speaks me c clock place act text status sync call
takes_speaks me c clock place act call (replies.FetchStatus status callback sync) = shown_speaks me c clock place act status callback sync call
takes_speaks me c clock place act call (replies.BulkStatus statuses callbacks sync) = bulk_speaks me c clock place act statuses callbacks sync call
takes_speaks me c clock place act call (replies.StoreData status sync) = set_speaks me c clock place status call
takes_speaks me c clock place act call (replies.StoreAcl status sync) = set_speaks me c clock place status call
takes_speaks me c clock place act call (replies.StoreStatus status sync) = set_speaks me c clock place status call
takes_speaks me c clock place act call replies.GiveUpCallBacks = given_speaks me c place act call
takes_speaks me c clock place act call reply = plain_speaks me c place call

where_speaks : (me : Node) (c : ClientState) (place : ℕ) (act : Going) (code : Code) (o : Option Operand) → Speaks c.seats (asks_where me c place act code o)
where_speaks me c place act code None = record { calls = tt; seats' = refl }
where_speaks me c place act code (Some o) = record { calls = (tt, tt); seats' = refl }

refuses_speaks : (me : Node) (c : ClientState) (place : ℕ) (act : Going) (code : Code) → Speaks c.seats (refuses me c place act code)
refuses_speaks me c place act code =
    either_speaks (is_busy_code code && nat_lt c.busy most_busy) c.seats (calls_again me (record c { busy = c.busy + 1 }) place act) (refuses_for_good me c place act code) (record { calls = (tt, tt); seats' = refl })
    (either_speaks (is_gone_code code && nat_lt c.moved most_moved) c.seats (asks_where me c place act code (operand_in act (volume_asked (call_of c act)))) (answers_step me c place code) (where_speaks me c place act code (operand_in act (volume_asked (call_of c act)))) (record { calls = tt; seats' = refl }))

counts_speaks : (me : Node) (c : ClientState) (clock place : ℕ) (act : Going) (head : Head) (x : Carried) → Speaks c.seats (counts me c clock place act head x)
counts_speaks me c clock place act head (carried.Call user call) = record { calls = tt; seats' = refl }
counts_speaks me c clock place act head (carried.Refusal code) = either_speaks (is_spent c act) c.seats (calls_again me c place act) (refuses me c place act code) (again_speaks me c place act) (refuses_speaks me c place act code)
counts_speaks me c clock place act head (carried.Reply (tell.File reply)) = either_speaks (is_spent c act) c.seats (calls_again me c place act) (takes me c clock place act (call_of c act) reply) (again_speaks me c place act) (takes_speaks me c clock place act (call_of c act) reply)
counts_speaks me c clock place act head (carried.Reply reply) = record { calls = tt; seats' = refl }
counts_speaks me c clock place act head carried.Notice = record { calls = (tt, tt); seats' = refl }

ignores_speaks : (c : ClientState) (place : ℕ) → Speaks c.seats (ignores c place)
ignores_speaks c place = record { calls = tt; seats' = refl }

awaits_speaks : (me : Node) (c : ClientState) (clock place : ℕ) (head : Head) (x : Carried) (o : Option Going) → Speaks c.seats (awaits me c clock place head x o)
awaits_speaks me c clock place head x None = ignores_speaks c place
awaits_speaks me c clock place head x (Some act) = either_speaks (is_awaited c act head) c.seats (counts me c clock place act head x) (ignores c place) (counts_speaks me c clock place act head x) (ignores_speaks c place)

waits_by : (t : Bool) (me : Node) (c : ClientState) (act : Going) → Speaks c.seats (cond t (tries_again me c act) (gives_up me c (call_of c act)))
waits_by true me c act = record { calls = (tt, tt); seats' = refl }
waits_by false me c act = record { calls = tt; seats' = refl }

pub waits_speaks : (me : Node) (c : ClientState) (act : Going) → Speaks c.seats (timeout_row me c act)
waits_speaks me c act = waits_by (nat_lt c.tries 2) me c act

-- ---- what a client has told a server

-- these lines of the client's stop no server, and grant, owe and change nothing
of_up : (n i : ℕ) (l : Line) → is_of n l ≡ true → (is_up (Server i) l ≡ true) × ((is_still l ≡ true) × ((is_oweless l ≡ true) × (is_unchanging l ≡ true)))
of_up n i (lines.Crash m) h = (ap (λ (q : Node). is_up (Server i) (lines.Crash q)) (same_node-true m (Client n) h), (refl, (refl, refl)))
of_up n i (lines.Fault m) h = absurd cc
of_up n i (lines.Grant s c f index expiry) h = absurd cc
of_up n i (lines.Owe s c what k) h = absurd cc
of_up n i (lines.Change s k count) h = absurd cc
of_up n i l h = (refl, (refl, (refl, refl)))

pub of_plain : (n i : ℕ) (ls : List Line) → all_lines (is_of n) ls ≡ true → Plain (Server i) ls
of_plain n i [] h = record { up = refl; still = refl; oweless = refl; unchanging = refl }
of_plain n i (l ∷ ls) h =
    let q = both (is_of n l) (all_lines (is_of n) ls) h in
    let a = of_up n i l q.0 in
    let b : Plain (Server i) ls = of_plain n i ls q.1 in
    record { up = rw (a.0, b.up) refl; still = rw (a.1.0, b.still) refl; oweless = rw (a.1.1.0, b.oweless) refl; unchanging = rw (a.1.1.1, b.unchanging) refl }

-- what a step of client n must leave for a server
pub record Tells (me : Node) (d : Option Fall) (b : Backs) (boot : ℕ) (past : List Entry) (n : ℕ) (ms : List Message) (seats : List Seat) : Type 0 where
  pub dones : Each (IfDone (DoneIn me d b.calls b.last_call boot past)) ms
  pub seated : (seat : Seat) (m : Message) → call_seat me seats ≡ Some seat → seat.reply ≡ Some m → SeatedIn me d b.calls b.last_call boot past n m

-- what a client keeps for the server, over a step of its own
pub old_seated : (me : Node) (d : Option Fall) (b : Backs) (boot : ℕ) (seats : List Seat) (cs : ℕ → Option Seat) (clock : ℕ) (sent : List Message) (e : Entry) (past : List Entry) (n : ℕ) → Plain me e.lines → BackedIn me d b boot seats cs clock sent past
    → (seat : Seat) (m : Message) → cs n ≡ Some seat → seat.reply ≡ Some m → SeatedIn me d b.calls b.last_call boot (e ∷ past) n m
old_seated me d b boot seats cs clock sent e past n p B seat m x y = seated_over me d d b b boot clock clock e past (plain_step me d b clock clock e past p (le_refl _)) n m (B.seated n seat m x y)

no_done : (P : Message → Type 0) (m : Message) → OfReply ⊥ m.carried → IfDone P m
no_done P m h = of_reply ⊥ (OfServer m.head.to (P m)) (λ z. absurd z) m.carried h

pub speaks_tells : (me : Node) (d : Option Fall) (b : Backs) (boot : ℕ) (past : List Entry) (n : ℕ) (old : List Seat) (s : Step ClientState) → Speaks old s → ((seat : Seat) (m : Message) → call_seat me old ≡ Some seat → seat.reply ≡ Some m → SeatedIn me d b.calls b.last_call boot past n m) → Tells me d b boot past n s.sent s.state.seats
speaks_tells me d b boot past n old s h w = record {
  dones = each_map (λ m. OfReply ⊥ m.carried) (IfDone (DoneIn me d b.calls b.last_call boot past)) (no_done (DoneIn me d b.calls b.last_call boot past)) s.sent h.calls;
  seated = λ seat m x y. w seat m (ap (call_seat me) (sym h.seats') ∙ x) y;
}

-- ---- it is called by a server

-- a call of the server that was handled in this entry, whose lines drop what any break of such a call is on
handled : (me : Node) (d : Option Fall) (b : Backs) (boot : ℕ) (seats : List Seat) (cs : ℕ → Option Seat) (clock : ℕ) (sent : List Message) (e : Entry) (past : List Entry) (n : ℕ) (head : Head) (user : List ℕ) (call : FsCall) → BackedIn me d b boot seats cs clock sent past → BackIn me d b.calls b.last_call boot head user call → head.to ≡ Client n → head.from ≡ me → all_lines (is_up me) e.lines ≡ true
    → ((w : Option Fid) (o : List Line) → CarriesBreak call w → HasDrop me (Client n) w (onto o e.lines)) → IsDone me d b.calls b.last_call boot (e ∷ past) (Client n) head.epoch head.number
handled me d b boot seats cs clock sent e past n head user call B k to own up drop =
    let one : k.client ≡ Client n = sym k.to ∙ to in
    record {
      booted = k.booted own;
      below = k.below own;
      dropped = λ c x y at q.
          let is : call ≡ breaks_call c.content = k.is c own x y (ap b.calls one ∙ at) q in
          let out : CallOut me (Client n) c b.last_call boot past = B.outs x (Client n) c at in
          subst (λ (k : ℕ). AllOf (DroppedOwe me (Client n) k head.number (e ∷ past)) c.content) (sym y)
          (subst (λ (k : ℕ). AllOf (DroppedOwe me (Client n) boot k (e ∷ past)) c.content) (sym q)
          (two_all (λ (o : Owed). IsCarried me (Client n) boot c.number o.what o.number past) (λ (o : Owed). CarriesBreak (breaks_call c.content) o.what) (DroppedOwe me (Client n) boot c.number (e ∷ past))
          (λ o z w. record { carried = carried_over me (Client n) boot c.number o.what o.number e past up z; dropped = drop o.what (lines_on [] z.sent.newer) (subst (λ (u : FsCall). CarriesBreak u o.what) (sym is) w) }) c.content (carried_by me (Client n) boot c past b.last_call out) out.carries));
    }

-- the lines drop each of the fids
named_drop : (s c : Node) (f : Fid) (fs : List Fid) (o : List Line) → IsNamedIn f fs → HasDrop s c (Some f) (onto o (map (drop_line c) fs))
named_drop s c f [] o h = absurd h
named_drop s c f (g ∷ fs) o (inl e) = drop_onto s c (Some f) (map (drop_line c) fs) (lines.Drop c g ∷ o) (inl (refl, ap Some (sym e)))
named_drop s c f (g ∷ fs) o (inr h) = named_drop s c f fs (lines.Drop c g ∷ o) h

named_by : (s c : Node) (w : Option Fid) (fs : List Fid) (o : List Line) → NamesIn w fs → HasDrop s c w (onto o (map (drop_line c) fs))
named_by s c None fs o h = absurd h
named_by s c (Some f) fs o h = named_drop s c f fs o h

-- the call is answered, and the reply is kept
replied_tells : (me : Node) (d : Option Fall) (b : Backs) (boot : ℕ) (past : List Entry) (n : ℕ) (epoch : ℕ) (old : List Seat) (head : Head) (y : Carried) → head.to ≡ Client n → (OfReply ⊥ y → ⊥) → (head.from ≡ me → IsDone me d b.calls b.last_call boot past (Client n) head.epoch head.number)
    → ((seat : Seat) (m : Message) → call_seat me old ≡ Some seat → seat.reply ≡ Some m → SeatedIn me d b.calls b.last_call boot past n m) → Tells me d b boot past n (replied epoch head y ∷ []) (call_seated (seat_for head (replied epoch head y)) old)
replied_tells me d b boot past n epoch old head y to is done_ w =
    let r : Message = replied epoch head y in
    let P : Message → Type 0 = DoneIn me d b.calls b.last_call boot past in
    record {
      dones = (of_reply_any (OfServer head.from (P r)) y (server_any head.from (P r) (record { client = Client n; from = to; done = done_ })), tt);
      seated = λ seat m. at_seat (seat_for head r) me old (λ o. o ≡ Some seat → seat.reply ≡ Some m → SeatedIn me d b.calls b.last_call boot past n m)
          (λ own x z. subst (SeatedIn me d b.calls b.last_call boot past n) (some_of r m (ap (λ (s : Seat). s.reply) (some_of (seat_for head r) seat x) ∙ z)) (record { to = own; from = to; is_reply = is; done = done_ own }))
          (λ other x z. w seat m x z);
    }

-- what was kept is told again
again_tells : (me : Node) (d : Option Fall) (b : Backs) (boot : ℕ) (past : List Entry) (n : ℕ) (old : List Seat) (head : Head) (r : Message) → AreSeated (Client n) old → LastSeat head.epoch head.number (call_seat head.from old) r
    → ((seat : Seat) (m : Message) → call_seat me old ≡ Some seat → seat.reply ≡ Some m → SeatedIn me d b.calls b.last_call boot past n m) → Tells me d b boot past n (r ∷ []) old
again_tells me d b boot past n old head r q l w =
    let k : IsReplyOf (Client n) head.from l.seat r = q head.from l.seat r l.at l.reply in
    let P : Message → Type 0 = DoneIn me d b.calls b.last_call boot past in
    record {
      dones = (of_reply_any (OfServer r.head.to (P r)) r.carried (server_any r.head.to (P r) (record { client = Client n; from = k.from; done = λ own. (w l.seat r (ap (λ (m : Node). call_seat m old) (sym own ∙ k.to) ∙ l.at) l.reply).done })), tt);
      seated = w;
    }

pub kept_at : (t : Bool) (boot : ℕ) (e n : ℕ) (o : Option Seat) (r : Message) → cond t (pairs.paired e n o) (pairs.wrong_boot boot) ≡ pairs.kept r → LastSeat e n o r
kept_at true boot e n o r k = kept_last e n o r k
kept_at false boot e n o r k = absurd cc

-- what is known of a client's step for the server
record Given (me : Node) (d : Option Fall) (b : Backs) (boot : ℕ) (seats : List Seat) (cs : ℕ → Option Seat) (clock : ℕ) (sent : List Message) (past : List Entry) (n : ℕ) (c : ClientState) : Type 0 where
  backed : BackedIn me d b boot seats cs clock sent past
  own : cs n ≡ call_seat me c.seats
  seated : AreSeated (Client n) c.seats

abbrev of_step : ℕ → Step ClientState → Entry
of_step n s = record { actor = actors.Node (Client n); lines = s.lines; sent = s.sent; volumes = [] }

abbrev Leaves : Node → Option Fall → Backs → ℕ → List Entry → ℕ → Step ClientState → Type 0
Leaves me d b boot past n s = Plain me s.lines → Tells me d b boot (of_step n s ∷ past) n s.sent s.state.seats

old_of : (me : Node) (d : Option Fall) (b : Backs) (boot : ℕ) (seats : List Seat) (cs : ℕ → Option Seat) (clock : ℕ) (sent : List Message) (e : Entry) (past : List Entry) (n : ℕ) (c : ClientState) → Given me d b boot seats cs clock sent past n c → Plain me e.lines
    → (seat : Seat) (m : Message) → call_seat me c.seats ≡ Some seat → seat.reply ≡ Some m → SeatedIn me d b.calls b.last_call boot (e ∷ past) n m
old_of me d b boot seats cs clock sent e past n c g p seat m x y = old_seated me d b boot seats cs clock sent e past n p g.backed seat m (g.own ∙ x) y

speaks_leaves : (me : Node) (d : Option Fall) (b : Backs) (boot : ℕ) (seats : List Seat) (cs : ℕ → Option Seat) (clock : ℕ) (sent : List Message) (past : List Entry) (n : ℕ) (c : ClientState) (s : Step ClientState) → Given me d b boot seats cs clock sent past n c → Speaks c.seats s → Leaves me d b boot past n s
speaks_leaves me d b boot seats cs clock sent past n c s g h p = speaks_tells me d b boot (of_step n s ∷ past) n c.seats s h (old_of me d b boot seats cs clock sent (of_step n s) past n c g p)

-- the call runs
handles : (me : Node) (d : Option Fall) (b : Backs) (boot : ℕ) (seats : List Seat) (cs : ℕ → Option Seat) (clock : ℕ) (sent : List Message) (past : List Entry) (n : ℕ) (c x : ClientState) (place : ℕ) (head : Head) (user : List ℕ) (call : FsCall) (ls : List Line) (y : Carried) → Given me d b boot seats cs clock sent past n c → x.seats ≡ c.seats → head.to ≡ Client n → (OfReply ⊥ y → ⊥)
    → (head.from ≡ me → BackIn me d b.calls b.last_call boot head user call) → (head.from ≡ me → (w : Option Fid) (o : List Line) → CarriesBreak call w → HasDrop me (Client n) w (onto (lines.Given place ∷ o) ls)) → Leaves me d b boot past n (replies_step x place head ls y)
handles me d b boot seats cs clock sent past n c x place head user call ls y g same to is k drop p =
    let e : Entry = of_step n (replies_step x place head ls y) in
    subst (λ (old : List Seat). Tells me d b boot (e ∷ past) n (replied x.epoch head y ∷ []) (call_seated (seat_for head (replied x.epoch head y)) old)) (sym same)
    (replied_tells me d b boot (e ∷ past) n x.epoch c.seats head y to is (λ own. handled me d b boot seats cs clock sent e past n head user call g.backed (k own) to own p.up (drop own)) (old_of me d b boot seats cs clock sent e past n c g p))

breaks_leaves : (me : Node) (d : Option Fall) (b : Backs) (boot : ℕ) (seats : List Seat) (cs : ℕ → Option Seat) (clock : ℕ) (sent : List Message) (past : List Entry) (n : ℕ) (c : ClientState) (place : ℕ) (head : Head) (user : List ℕ) (call : FsCall) → Given me d b boot seats cs clock sent past n c → head.to ≡ Client n
    → (head.from ≡ me → BackIn me d b.calls b.last_call boot head user call) → Leaves me d b boot past n (breaks (Client n) c place head call)
breaks_leaves me d b boot seats cs clock sent past n c place head user (calls.CallBack fs callbacks) g to k = handles me d b boot seats cs clock sent past n c (without_fids c fs) place head user (calls.CallBack fs callbacks) _ (reply_carried replies.CallBack) g refl to (λ z. z) k (λ own w o z. named_by me (Client n) w fs (lines.Given place ∷ o) z)
breaks_leaves me d b boot seats cs clock sent past n c place head user calls.InitCallBackState g to k = handles me d b boot seats cs clock sent past n c (without_server c head.from) place head user calls.InitCallBackState _ (reply_carried replies.InitCallBackState) g refl to (λ z. z) k (λ own w o z. inl (refl, own))
breaks_leaves me d b boot seats cs clock sent past n c place head user calls.Probe g to k = handles me d b boot seats cs clock sent past n c c place head user calls.Probe [] (reply_carried replies.Probe) g refl to (λ z. z) k (λ own w o z. absurd z)
breaks_leaves me d b boot seats cs clock sent past n c place head user call g to k = handles me d b boot seats cs clock sent past n c c place head user call [] (refused_with not_served) g refl to (λ z. z) k (λ own w o z. absurd z)

admits_leaves : (me : Node) (d : Option Fall) (b : Backs) (boot : ℕ) (seats : List Seat) (cs : ℕ → Option Seat) (clock : ℕ) (sent : List Message) (past : List Entry) (n : ℕ) (c : ClientState) (place : ℕ) (head : Head) (user : List ℕ) (call : FsCall) (o : Admitted Message) → Given me d b boot seats cs clock sent past n c → head.to ≡ Client n
    → (head.from ≡ me → BackIn me d b.calls b.last_call boot head user call) → admitted c.epoch c.seats head ≡ o → Leaves me d b boot past n (admits_call (Client n) c place head (whole head (carried.Call user (ask.File call))) o)
admits_leaves me d b boot seats cs clock sent past n c place head user call pairs.runs g to k e = breaks_leaves me d b boot seats cs clock sent past n c place head user call g to k
admits_leaves me d b boot seats cs clock sent past n c place head user call (pairs.kept reply) g to k e =
    λ p. again_tells me d b boot (of_step n (told_step c place (reply ∷ [])) ∷ past) n c.seats head reply g.seated (kept_at (nat_eq head.boot c.epoch) c.epoch head.epoch head.number (call_seat head.from c.seats) reply e) (old_of me d b boot seats cs clock sent (of_step n (told_step c place (reply ∷ []))) past n c g p)
admits_leaves me d b boot seats cs clock sent past n c place head user call pairs.in_progress g to k e = speaks_leaves me d b boot seats cs clock sent past n c (ignores c place) g (record { calls = tt; seats' = refl })
admits_leaves me d b boot seats cs clock sent past n c place head user call pairs.older g to k e = speaks_leaves me d b boot seats cs clock sent past n c (ignores c place) g (record { calls = tt; seats' = refl })
admits_leaves me d b boot seats cs clock sent past n c place head user call (pairs.wrong_boot other) g to k e = speaks_leaves me d b boot seats cs clock sent past n c (told_step c place (boot_told c.epoch head ∷ [])) g (record { calls = (tt, tt); seats' = refl })

hears_leaves : (i : ℕ) (d : Option Fall) (b : Backs) (boot : ℕ) (seats : List Seat) (cs : ℕ → Option Seat) (clock : ℕ) (sent : List Message) (past : List Entry) (n : ℕ) (c : ClientState) (place : ℕ) (head : Head) (x : Carried) → Given (Server i) d b boot seats cs clock sent past n c → head.to ≡ Client n → OfCall (ByServer (BackIn (Server i) d b.calls b.last_call boot)) head x → Leaves (Server i) d b boot past n (hears (Client n) c clock place head x)
hears_leaves i d b boot seats cs clock sent past n c place head (carried.Call user (ask.File call)) g to k = admits_leaves (Server i) d b boot seats cs clock sent past n c place head user call (admitted c.epoch c.seats head) g to (λ own. by_server i head.from _ own k) refl
hears_leaves i d b boot seats cs clock sent past n c place head (carried.Call user (ask.Volume call)) g to k = absurd k
hears_leaves i d b boot seats cs clock sent past n c place head (carried.Call user (ask.Location call)) g to k = not_loc head (Client n) _ to refl k.0
hears_leaves i d b boot seats cs clock sent past n c place head (carried.Refusal code) g to k = speaks_leaves (Server i) d b boot seats cs clock sent past n c (awaits (Client n) c clock place head (carried.Refusal code) c.running) g (awaits_speaks (Client n) c clock place head (carried.Refusal code) c.running)
hears_leaves i d b boot seats cs clock sent past n c place head (carried.Reply reply) g to k = speaks_leaves (Server i) d b boot seats cs clock sent past n c (awaits (Client n) c clock place head (carried.Reply reply) c.running) g (awaits_speaks (Client n) c clock place head (carried.Reply reply) c.running)
hears_leaves i d b boot seats cs clock sent past n c place head carried.Notice g to k = speaks_leaves (Server i) d b boot seats cs clock sent past n c (awaits (Client n) c clock place head carried.Notice c.running) g (awaits_speaks (Client n) c clock place head carried.Notice c.running)

if_leaves : (t : Bool) (me : Node) (d : Option Fall) (b : Backs) (boot : ℕ) (past : List Entry) (n : ℕ) (x y : Step ClientState) (head : Head) → same_node head.to (Client n) ≡ t → (head.to ≡ Client n → Leaves me d b boot past n x) → Leaves me d b boot past n y → Leaves me d b boot past n (cond t x y)
if_leaves true me d b boot past n x y head e h k = h (same_node-true head.to (Client n) e)
if_leaves false me d b boot past n x y head e h k = k

pub told_leaves : (i : ℕ) (d : Option Fall) (b : Backs) (boot : ℕ) (seats : List Seat) (cs : ℕ → Option Seat) (clock : ℕ) (sent : List Message) (past : List Entry) (n : ℕ) (c : ClientState) (place : ℕ) (m : Message) → BackedIn (Server i) d b boot seats cs clock sent past → cs n ≡ call_seat (Server i) c.seats → AreSeated (Client n) c.seats → IfBack (BackIn (Server i) d b.calls b.last_call boot) m
    → Plain (Server i) (client_row (Client n) c clock place (Whole m)).lines → Tells (Server i) d b boot (of_step n (client_row (Client n) c clock place (Whole m)) ∷ past) n (client_row (Client n) c clock place (Whole m)).sent (client_row (Client n) c clock place (Whole m)).state.seats
unfolding client_row
told_leaves i d b boot seats cs clock sent past n c place m B own seated k =
    let g : Given (Server i) d b boot seats cs clock sent past n c = record { backed = B; own = own; seated = seated } in
    if_leaves (same_node m.head.to (Client n)) (Server i) d b boot past n (hears (Client n) c clock place m.head m.carried) (ignores c place) m.head refl (λ to. hears_leaves i d b boot seats cs clock sent past n c place m.head m.carried g to k) (speaks_leaves (Server i) d b boot seats cs clock sent past n c (ignores c place) g (record { calls = tt; seats' = refl }))

-- an act that waits for the location database
pub sought_speaks : (S : Script) (n : ℕ) (c : ClientState) (clock place : ℕ) (k : Seek) (head : Head) (x : Carried) → IsPlaced S c k → IsToldIn S x → Speaks c.seats (sought_by (Client n) c clock place k head x)
sought_speaks S n c clock place k head x p w =
    by_quiet (Speaks c.seats) n c place k head x (sought_by (Client n) c clock place k head x) (sought_quiet S n c clock place k head x p w)
    (λ code y z. record { calls = tt; seats' = refl }) (record { calls = tt; seats' = refl }) (record { calls = (tt, tt); seats' = refl })

pub missed_speaks : (me : Node) (c : ClientState) (k : Seek) → Speaks c.seats (seek_timeout_row me c k)
missed_speaks me c k = either_speaks (nat_lt c.tries 2) c.seats _ _ (record { calls = (tt, tt); seats' = refl }) (record { calls = tt; seats' = refl })
