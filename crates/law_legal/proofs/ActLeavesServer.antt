-- Where an act that a server refused for good comes to wait for the location database: on the reply that it awaited.
use Rattle.spec_history.specs.declared.scripts.Script.{Script}
use Rattle.law_legal.specs.LocLaws.{IsToldIn}
use Rattle.law_legal.proofs.ActSteps.{IsPlaced, by_quiet, sought_quiet}
use Rattle.afs_num.specs.declared.histories.ReadBody.TheVariants as seen
use Rattle.afs_num.specs.declared.histories.Body.TheVariants as bodies
use Rattle.afs_num.specs.declared.histories.ReadSource.TheVariants.{Fetched}
use Rattle.spec_history.specs.declared.acts.Act.{Act}
use Rattle.spec_history.specs.declared.acts.Operand.{Operand}
use Rattle.spec_history.specs.declared.lines.Line.{Line}
use Rattle.spec_history.specs.declared.lines.Line.TheVariants as lines
use Rattle.law_legal.proofs.BaseLaws.{both, some_of}
use Rattle.spec_model.specs.Calls as pairs
use Rattle.spec_model.specs.Calls.{Admitted, admitted}
use Rattle.afs_num.specs.Nodes.{same_node}
use Rattle.afs_num.specs.declared.calls.AfsCallBack.{AfsCallBack}
use Rattle.afs_num.specs.declared.calls.AfsFetchStatus.{AfsFetchStatus}
use Rattle.afs_num.specs.declared.calls.AfsVolSync.{AfsVolSync}
use Rattle.afs_num.specs.declared.calls.FsCall.{FsCall}
use Rattle.afs_num.specs.declared.calls.FsCall.TheVariants as calls
use Rattle.afs_num.specs.declared.calls.FsReply.{FsReply}
use Rattle.afs_num.specs.declared.calls.FsReply.TheVariants as replies
use Rattle.afs_num.specs.declared.messages.Call.TheVariants as ask
use Rattle.afs_num.specs.declared.messages.Carried.{Carried}
use Rattle.afs_num.specs.declared.messages.Carried.TheVariants as carried
use Rattle.afs_num.specs.declared.messages.Message.{Message}
use Rattle.afs_num.specs.declared.messages.Received.TheVariants.{Whole}
use Rattle.afs_num.specs.declared.messages.Reply.TheVariants as tell
use Rattle.afs_num.specs.declared.types.Code.{Code}
use Rattle.afs_num.specs.declared.types.Fid.{Fid}
use Rattle.afs_num.specs.declared.types.Head.{Head}
use Rattle.afs_num.specs.declared.types.Node.TheVariants.{Client}
use Rattle.afs_num.specs.declared.histories.ReadBody.{ReadBody}
use Rattle.spec_rows.specs.ClientRow.{Walked, admits_call, asks_where, awaits, begin_row, begins_by, behind_batch, breaks, call_of, client_row, counts, gives_by, goes_by, hears, ignores, is_awaited, is_busy_code, is_gone_code, is_spent, is_trusted, most_busy, most_moved, refuses, runs_carried, takes, takes_bulk, takes_bytes, takes_data, takes_entries, takes_entry, takes_given, takes_list, takes_rights, takes_set, takes_shown, takes_status, volume_asked, walks_on, whole, find_cached, stands_below, asking, calls_again, dropped, ended, entries_told, gift_of, with_given, in_order, is_older, left_after, look_at, looked, most_reads, put_entries, put_entry, read_lines, refreshed, status_look, status_told, trusted_in, untrusted_in, walked, with_statuses, cache_entry_told, body_told, timeout_row, seek_timeout_row, sought_by}
use Rattle.spec_rows.specs.Going.{ClientState, Going, Left, Need, Seek, answers, began, gives_back, locates, next, operand_in, with_read}
use Rattle.spec_rows.specs.States.{CacheEntry, Gift}
use Rattle.spec_rows.specs.Steps.{Step}
use Rattle.std.proofs.Common.{◌≡◌, ◌∙◌, ℕ, ◌⊎◌, inl, inr, Bool, true, false, cond, List, [], ◌∷◌, Option, Some, None, refl, sym, ap, not, map, filter}
use Rattle.std.specs.List.{list_any}
use Rattle.std.specs.Prelude.{◌&&◌, nat_lt}

-- no server was left
abbrev pub NoLeft : ClientState → Type 0
NoLeft y = (k : Seek) (left : Left) → y.seeking ≡ Some k → k.left ≡ Some left → ⊥

either_none : (t : Bool) (a b : Step ClientState) → NoLeft a.state → NoLeft b.state → NoLeft (cond t a b).state
either_none true a b h w = h
either_none false a b h w = w

asks_none : (y : ClientState) (act : Going) → NoLeft (asking y act)
asks_none y act q left e f = absurd cc

ends_none : (y : ClientState) (cache : List CacheEntry) → NoLeft (ended y cache)
ends_none y cache q left e f = absurd cc

goes_none : (n : ℕ) (y : ClientState) (front : List Line → List Line) (w : Walked) (need : Need) → NoLeft (goes_by (Client n) y front w need).state
goes_none n y front w (answers k) = λ q left e f. absurd cc
goes_none n y front w (locates o) = λ q left e f. (let z : None ≡ Some left = ap (λ (u : Seek). u.left) (some_of _ q e) ∙ f in absurd cc)
goes_none n y front w need = λ q left e f. absurd cc

walks_none : (n clock : ℕ) (y : ClientState) (front : List Line → List Line) (act : Going) (cache : List CacheEntry) → NoLeft (walks_on (Client n) y clock front act cache).state
walks_none n clock y front act cache = let w : Walked = walked (most_reads act) clock act cache in goes_none n y front w (next w.act)

gives_none : (n : ℕ) (y : ClientState) (front : List Line → List Line) (act : Going) (gs : List Gift) → NoLeft (gives_by (Client n) y front act gs).state
gives_none n y front act [] = λ q left e f. absurd cc
gives_none n y front act (g ∷ gs) = λ q left e f. absurd cc

first_none : (n clock : ℕ) (y : ClientState) (front : List Line → List Line) (act : Going) (need : Need) → NoLeft (begins_by (Client n) y clock front act need).state
first_none n clock y front act gives_back = gives_none n (record y { cache = untrusted_in clock y.cache }) (λ ls. front (dropped (Client n) (trusted_in clock y.cache) ls)) act (in_order (map gift_of (trusted_in clock y.cache)))
first_none n clock y front act need = walks_none n clock y front act y.cache

pub begins_none : (n clock : ℕ) (c : ClientState) (act : Act) → NoLeft (begin_row (Client n) c clock act).state
unfolding begin_row
begins_none n clock c act = first_none n clock (record c { busy = 0; moved = 0 }) (λ ls. lines.Begin (Client n) act ∷ ls) (began c.table act) (next (began c.table act))

entry_none : (n clock place : ℕ) (c : ClientState) (act : Going) (e : CacheEntry) (body : ReadBody) → NoLeft (takes_entry (Client n) c clock place act e body).state
entry_none n clock place c act e body = either_none (is_trusted clock e) (walks_on (Client n) c clock (read_lines (Client n) place (look_at Fetched e body)) (with_read e.fid body act) (put_entry c.capacity e c.cache)) (calls_again (Client n) c place act) (walks_none n clock c (read_lines (Client n) place (look_at Fetched e body)) (with_read e.fid body act) (put_entry c.capacity e c.cache)) (asks_none c act)

data_none : (n clock place : ℕ) (c : ClientState) (act : Going) (contents : List ℕ) (status : AfsFetchStatus) (callback : AfsCallBack) (sync : AfsVolSync) (call : FsCall) → NoLeft (takes_data (Client n) c clock place act contents status callback sync call).state
data_none n clock place c act contents status callback sync (calls.FetchData f position wanted) = entry_none n clock place c act (cache_entry_told c.callee f status callback sync (Some (body_told status.file_type contents))) (seen.Contents (body_told status.file_type contents))
data_none n clock place c act contents status callback sync call = λ q left e f. absurd cc

shown_none : (n clock place : ℕ) (c : ClientState) (act : Going) (status : AfsFetchStatus) (callback : AfsCallBack) (sync : AfsVolSync) (call : FsCall) → NoLeft (takes_shown (Client n) c clock place act status callback sync call).state
shown_none n clock place c act status callback sync (calls.FetchStatus f) = entry_none n clock place c act (cache_entry_told c.callee f status callback sync None) (seen.Status (status_told status))
shown_none n clock place c act status callback sync call = λ q left e f. absurd cc

list_none : (n clock place : ℕ) (c : ClientState) (act : Going) (text : List ℕ) (status : AfsFetchStatus) (sync : AfsVolSync) (call : FsCall) → NoLeft (takes_list (Client n) c clock place act text status sync call).state
list_none n clock place c act text status sync (calls.FetchAcl f) =
    walks_none n clock c (λ ls. read_lines (Client n) place (record { fid = f; index = status.sync_counter; source = Fetched; body = seen.AccessList text }) (dropped (Client n) (filter (is_older f status.sync_counter sync.release) c.cache) ls)) (with_read f (seen.AccessList text) act) (filter (λ e. not (is_older f status.sync_counter sync.release e)) c.cache)
list_none n clock place c act text status sync call = λ q left e f. absurd cc

bulk_none : (n clock place : ℕ) (c : ClientState) (act : Going) (statuses : List AfsFetchStatus) (callbacks : List AfsCallBack) (sync : AfsVolSync) (call : FsCall) → NoLeft (takes_bulk (Client n) c clock place act statuses callbacks sync call).state
bulk_none n clock place c act statuses callbacks sync (calls.BulkStatus fids) =
    let es : List CacheEntry = entries_told c.callee sync fids statuses callbacks in
    let on : Step ClientState = walks_on (Client n) c clock (λ ls. with_given place (looked (Client n) (map status_look es) ls)) (with_statuses es act) (put_entries c.capacity es c.cache) in
    either_none (list_any (λ e. not (is_trusted clock e)) es) (calls_again (Client n) c place act) on (asks_none c act) (walks_none n clock c (λ ls. with_given place (looked (Client n) (map status_look es) ls)) (with_statuses es act) (put_entries c.capacity es c.cache))
bulk_none n clock place c act statuses callbacks sync call = λ q left e f. absurd cc

status_none : (n clock place : ℕ) (c : ClientState) (f : Fid) (status : AfsFetchStatus) (call : FsCall) → NoLeft (takes_status (Client n) c clock place f status call).state
status_none n clock place c f status call = either_none (not c.spoiled && stands_below clock status.sync_counter (find_cached f c.cache)) _ _ (ends_none c (map (refreshed clock f status.sync_counter (status_told status) (λ body. body)) c.cache)) (ends_none c (left_after call c.cache))

set_none : (n clock place : ℕ) (c : ClientState) (status : AfsFetchStatus) (call : FsCall) → NoLeft (takes_set (Client n) c clock place status call).state
set_none n clock place c status (calls.StoreData f set position wanted file_length contents) = either_none c.spoiled _ _ (ends_none c (left_after (calls.StoreData f set position wanted file_length contents) c.cache)) (ends_none c (map (refreshed clock f status.sync_counter (status_told status) (λ body. Some (bodies.File contents))) c.cache))
set_none n clock place c status (calls.StoreAcl f acl) = status_none n clock place c f status (calls.StoreAcl f acl)
set_none n clock place c status (calls.StoreStatus f set) = status_none n clock place c f status (calls.StoreStatus f set)
set_none n clock place c status call = λ q left e f. absurd cc

given_none : (n place : ℕ) (c : ClientState) (act : Going) (call : FsCall) → NoLeft (takes_given (Client n) c place act call).state
given_none n place c act (calls.GiveUpCallBacks fids callbacks) = gives_none n c (with_given place) act (behind_batch c.gifts)
given_none n place c act call = λ q left e f. absurd cc

takes_none : (n clock place : ℕ) (c : ClientState) (act : Going) (call : FsCall) (reply : FsReply) → NoLeft (takes (Client n) c clock place act call reply).state
takes_none n clock place c act call (replies.FetchData contents status callback sync) = data_none n clock place c act contents status callback sync call
takes_none n clock place c act call (replies.FetchAcl text status sync) = list_none n clock place c act text status sync call
takes_none n clock place c act call (replies.FetchStatus status callback sync) = shown_none n clock place c act status callback sync call
takes_none n clock place c act call (replies.StoreData status sync) = set_none n clock place c status call
takes_none n clock place c act call (replies.StoreAcl status sync) = set_none n clock place c status call
takes_none n clock place c act call (replies.StoreStatus status sync) = set_none n clock place c status call
takes_none n clock place c act call (replies.BulkStatus statuses callbacks sync) = bulk_none n clock place c act statuses callbacks sync call
takes_none n clock place c act call replies.GiveUpCallBacks = given_none n place c act call
takes_none n clock place c act call reply = λ q left e f. absurd cc

-- ---- a message

-- the act that waited was refused
pub record IsLeaving (c : ClientState) (place : ℕ) (head : Head) (x : Carried) (st : Step ClientState) (k : Seek) (left : Left) : Type 0 where
  pub runs : c.running ≡ Some k.act
  pub awaited : is_awaited c k.act head ≡ true
  pub refused : x ≡ carried.Refusal left.code
  pub lines : st.lines ≡ lines.Given place ∷ []
  pub gone : is_gone_code left.code ≡ true

abbrev pub Leaves : ClientState → ℕ → Head → Carried → Step ClientState → Type 0
Leaves c place head x st = (k : Seek) (left : Left) → st.state.seeking ≡ Some k → k.left ≡ Some left → (st.state.last ≡ c.last) ⊎ IsLeaving c place head x st k left

either_leaves : (t : Bool) (c : ClientState) (place : ℕ) (head : Head) (x : Carried) (a b : Step ClientState) → Leaves c place head x a → Leaves c place head x b → Leaves c place head x (cond t a b)
either_leaves true c place head x a b h w = h
either_leaves false c place head x a b h w = w

leaves_if : (t : Bool) (c : ClientState) (place : ℕ) (head : Head) (x : Carried) (a b : Step ClientState) → (t ≡ true → Leaves c place head x a) → Leaves c place head x b → Leaves c place head x (cond t a b)
leaves_if true c place head x a b h w = h refl
leaves_if false c place head x a b h w = w

where_leaves : (n place : ℕ) (c : ClientState) (act : Going) (head : Head) (code : Code) (o : Option Operand) → is_gone_code code ≡ true → c.running ≡ Some act → is_awaited c act head ≡ true → Leaves c place head (carried.Refusal code) (asks_where (Client n) c place act code o)
where_leaves n place c act head code None g r w = λ k left e f. absurd cc
where_leaves n place c act head code (Some o) g r w = λ k left e f.
    let is : record { act = act; operand = o; left = Some (record { server = c.callee; code = code }) } ≡ k = some_of _ k e in
    let same : act ≡ k.act = ap (λ (q : Seek). q.act) is in
    let gone : code ≡ left.code = ap (λ (l : Left). l.code) (some_of (record { server = c.callee; code = code }) left (ap (λ (q : Seek). q.left) is ∙ f)) in
    inr (record { runs = r ∙ ap (λ (g : Going). Some g) same; awaited = sym (ap (λ (g : Going). is_awaited c g head) same) ∙ w; refused = ap (λ (d : Code). carried.Refusal d) gone; lines = refl; gone = ap is_gone_code (sym gone) ∙ g })

counts_leaves : (n clock place : ℕ) (c : ClientState) (act : Going) (head : Head) (x : Carried) → c.running ≡ Some act → is_awaited c act head ≡ true → Leaves c place head x (counts (Client n) c clock place act head x)
counts_leaves n clock place c act head (carried.Call user call) r w = λ k left e f. inl refl
counts_leaves n clock place c act head (carried.Refusal code) r w =
    either_leaves (is_spent c act) c place head (carried.Refusal code) _ _ (λ k left e f. absurd cc)
    (either_leaves (is_busy_code code && nat_lt c.busy most_busy) c place head (carried.Refusal code) _ _ (λ k left e f. absurd cc)
    (leaves_if (is_gone_code code && nat_lt c.moved most_moved) c place head (carried.Refusal code) _ _ (λ g. where_leaves n place c act head code (operand_in act (volume_asked (call_of c act))) (both (is_gone_code code) (nat_lt c.moved most_moved) g).0 r w) (λ k left e f. absurd cc)))
counts_leaves n clock place c act head (carried.Reply (tell.File reply)) r w = either_leaves (is_spent c act) c place head (carried.Reply (tell.File reply)) _ _ (λ k left e f. absurd cc) (λ k left e f. absurd (takes_none n clock place c act (call_of c act) reply k left e f))
counts_leaves n clock place c act head (carried.Reply reply) r w = λ k left e f. inl refl
counts_leaves n clock place c act head carried.Notice r w = λ k left e f. inl refl

awaited_leaves : (t : Bool) (n clock place : ℕ) (c : ClientState) (act : Going) (head : Head) (x : Carried) → c.running ≡ Some act → is_awaited c act head ≡ t → Leaves c place head x (cond t (counts (Client n) c clock place act head x) (ignores c place))
awaited_leaves true n clock place c act head x r w = counts_leaves n clock place c act head x r w
awaited_leaves false n clock place c act head x r w = λ k left e f. inl refl

awaits_leaves : (n clock place : ℕ) (c : ClientState) (head : Head) (x : Carried) (o : Option Going) → c.running ≡ o → Leaves c place head x (awaits (Client n) c clock place head x o)
awaits_leaves n clock place c head x None r = λ k left e f. inl refl
awaits_leaves n clock place c head x (Some act) r = awaited_leaves (is_awaited c act head) n clock place c act head x r refl

breaks_leaves : (n place : ℕ) (c : ClientState) (head h : Head) (x : Carried) (call : FsCall) → Leaves c place h x (breaks (Client n) c place head call)
breaks_leaves n place c head h x (calls.CallBack fs callbacks) = λ k left e f. inl refl
breaks_leaves n place c head h x calls.InitCallBackState = λ k left e f. inl refl
breaks_leaves n place c head h x calls.Probe = λ k left e f. inl refl
breaks_leaves n place c head h x call = λ k left e f. inl refl

runs_leaves : (n place : ℕ) (c : ClientState) (head : Head) (x : Carried) → Leaves c place head x (runs_carried (Client n) c place head x)
runs_leaves n place c head (carried.Call user (ask.File call)) = breaks_leaves n place c head head (carried.Call user (ask.File call)) call
runs_leaves n place c head (carried.Call user call) = λ k left e f. inl refl
runs_leaves n place c head x = λ k left e f. inl refl

admits_leaves : (n place : ℕ) (c : ClientState) (head : Head) (x : Carried) (o : Admitted Message) → Leaves c place head x (admits_call (Client n) c place head (whole head x) o)
admits_leaves n place c head x pairs.runs = runs_leaves n place c head x
admits_leaves n place c head x (pairs.kept reply) = λ k left e f. inl refl
admits_leaves n place c head x pairs.in_progress = λ k left e f. inl refl
admits_leaves n place c head x pairs.older = λ k left e f. inl refl
admits_leaves n place c head x (pairs.wrong_boot boot) = λ k left e f. inl refl

hears_leaves : (n clock place : ℕ) (c : ClientState) (head : Head) (x : Carried) → Leaves c place head x (hears (Client n) c clock place head x)
hears_leaves n clock place c head (carried.Call user call) = admits_leaves n place c head (carried.Call user call) (admitted c.epoch c.seats head)
hears_leaves n clock place c head x = awaits_leaves n clock place c head x c.running refl

pub row_leaves : (n clock place : ℕ) (c : ClientState) (m : Message) → Leaves c place m.head m.carried (client_row (Client n) c clock place (Whole m))
unfolding client_row
row_leaves n clock place c m = either_leaves (same_node m.head.to (Client n)) c place m.head m.carried _ _ (hears_leaves n clock place c m.head m.carried) (λ k left e f. inl refl)

-- ---- its steps without a message

either_last : (t : Bool) (k : ℕ) (a b : Step ClientState) → a.state.last ≡ k → b.state.last ≡ k → (cond t a b).state.last ≡ k
either_last true k a b h w = h
either_last false k a b h w = w

pub waits_last : (n : ℕ) (c : ClientState) (act : Going) → (timeout_row (Client n) c act).state.last ≡ c.last
waits_last n c act = either_last (nat_lt c.tries 2) c.last _ _ refl refl

pub missed_last : (n : ℕ) (c : ClientState) (k : Seek) → (seek_timeout_row (Client n) c k).state.last ≡ c.last
missed_last n c k = either_last (nat_lt c.tries 2) c.last _ _ refl refl

pub sought_last : (S : Script) (n : ℕ) (c : ClientState) (clock place : ℕ) (k : Seek) (head : Head) (x : Carried) → IsPlaced S c k → IsToldIn S x → (sought_by (Client n) c clock place k head x).state.last ≡ c.last
sought_last S n c clock place k head x p w =
    by_quiet (λ st. st.state.last ≡ c.last) n c place k head x (sought_by (Client n) c clock place k head x) (sought_quiet S n c clock place k head x p w) (λ code y z. refl) refl refl
