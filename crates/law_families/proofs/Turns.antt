-- The steps of a server node leave its volumes and its transactions of their families.
use Rattle.std.proofs.Common.{◌≡◌, ℕ, ℤ, Bool, true, false, cond, List, [], ◌∷◌, Option, Some, None, refl, sym, ap, subst}
use Rattle.std.specs.Prelude.{◌&&◌, ◌||◌, not}
use Rattle.afs_num.specs.Nodes.{same_node}
use Rattle.afs_num.specs.declared.messages.Carried.{Carried}
use Rattle.afs_num.specs.declared.messages.Carried.TheVariants as carried
use Rattle.afs_num.specs.declared.messages.Message.{Message}
use Rattle.afs_num.specs.declared.messages.Received.TheVariants.{Whole}
use Rattle.afs_num.specs.declared.types.Head.{Head}
use Rattle.afs_num.specs.declared.types.Node.{Node}
use Rattle.afs_num.specs.declared.types.Node.TheVariants.{Server}
use Rattle.spec_history.specs.declared.lines.Line.{Line}
use Rattle.spec_ideal.specs.Operations.{is_number}
use Rattle.spec_ideal.specs.Tables.{Table}
use Rattle.spec_model.specs.Calls.{finished, is_sent_again, key_of}
use Rattle.spec_records.specs.Durable.{Stored}
use Rattle.spec_fold.specs.Deeds.{done_by}
use Rattle.spec_rows.specs.Callbacks.{expired, is_ready, put_at}
use Rattle.spec_rows.specs.ServerRow as files
use Rattle.spec_rows.specs.ServerRow.{begun_after, does, is_unflagged, Decision}
use Rattle.spec_rows.specs.ServerSteps.{back_timeout_row, wake_row}
use Rattle.spec_rows.specs.States.{durable_of, BackCall, Backs, Held, Lasting, ServerState}
use Rattle.spec_rows.specs.Steps.{Begun}
use Rattle.spec_volrows.specs.FileRow.{file_decides, file_row, file_start}
use Rattle.spec_volrows.specs.VolLaws.{is_saved, IsApart, ShowsDeed}
use Rattle.spec_volrows.proofs.VolNodes.{nodes_stay_apart}
use Rattle.spec_volrows.proofs.VolTurns.{deeds_are_shown, others_leave_files}
use Rattle.spec_volrows.specs.VolRow.{holds_of}
use Rattle.spec_volrows.specs.VolStates.{NodeState, PieceCall, Sending, VolState}
use Rattle.spec_volrows.specs.VolSteps.{answered_by, code_told, deed_done, deed_head, dispatches, drops, ends_sending, forward_reply, given_up, sending_goes_on, in_progress, is_awaited, is_of_client, piece_gone, next_by, next_piece, node_back_timeout_row, node_begun_after, node_file_decides, node_row, node_start_row, node_wake_row, piece_timeout_row, queued, repeats, replies_to, saves, sent_whole, tells_boot, vol_answers, vol_begun_after, vol_decides, vol_renews, vol_repeats, vol_rests, vol_seated, vol_timed, vol_told, vol_told_by, vol_turn, vol_turned_by, with_transactions, Deed, VolDecision, VolTurn}
use Rattle.law_places.proofs.Choices.{decided_open, Chooses}
use Rattle.law_places.proofs.Shifting.{stamp_volumes}
use Rattle.law_families.proofs.Making.{Fits}
use Rattle.law_families.proofs.Verdicts.{decided_keeps, Keeps}
use Rattle.law_families.proofs.Volumes.{all_kept, body_goes, change_goes, same_goes, wide, AreOf, AreOwn, Goes, IsFit}

-- ---- turns of a volume server

-- the volumes and the transactions behind it
abbrev TurnOf : VolTurn → Type 0
TurnOf t = AreOf t.lasting.volumes t.vol.transactions

module _ (l : Lasting) (v : VolState) (all : AreOf l.volumes v.transactions) where
  either : (b : Bool) (x y : VolTurn) → TurnOf x → TurnOf y → TurnOf (cond b x y)
  either true x y h k = h
  either false x y h k = k

  answers_of : (b : Backs) (ls : List Line) (reply : Message) (waits : List ℕ) (again : Bool) → TurnOf (vol_answers l v b ls reply waits again)
  answers_of b ls reply [] again = all
  answers_of b ls reply (k ∷ ks) again = all

  repeats_of : (b : Backs) (reply : Message) (o : Option Held) (good : Bool) → TurnOf (vol_repeats l v b reply o good)
  repeats_of b reply (Some h) good = either (h.again && is_ready b.lists.owed h) (vol_answers l v b [] reply [] true) (vol_rests l v b) (answers_of b [] reply [] true) all
  repeats_of b reply None true = answers_of b [] reply _ true
  repeats_of b reply None false = answers_of b [] reply [] true

  next_by_of : (me : Node) (boot : ℕ) (n : Node) (t : VolTurn) (xs : List Sending) (c : Option PieceCall) → TurnOf t → TurnOf (next_by me boot n t xs c)
  next_by_of me boot n t [] c h = h
  next_by_of me boot n t (x ∷ xs) (Some c) h = h
  next_by_of me boot n t (x ∷ xs) None h = h

  next_of : (me : Node) (boot : ℕ) (n : Node) (t : VolTurn) → TurnOf t → TurnOf (next_piece me boot n t)
  next_of me boot n t h = next_by_of me boot n t (t.vol.sendings n) (t.vol.calls n) h

  ends_of : (me : Node) (b : Backs) (ls : List Line) (n : Node) (xs : List Sending) (x : Sending) (code : ℤ) → TurnOf (ends_sending me l v b ls n xs x code)
  ends_of me b ls n xs x code = next_of me l.boot n (record {
    lasting = l;
    vol = record v { sendings = put_at n xs v.sendings; calls = put_at n None v.calls; seats = finished (key_of x.head) (forward_reply l.boot x.head code) v.seats };
    backs = b;
    lines = ls;
    sent = forward_reply l.boot x.head code ∷ [];
  }) all

  goes_of : (me : Node) (b : Backs) (n : Node) (xs : List Sending) (x : Sending) → TurnOf (sending_goes_on me l v b n xs x)
  goes_of me b n xs x = next_of me l.boot n (vol_rests l (record v { sendings = put_at n (piece_gone x ∷ xs) v.sendings; calls = put_at n None v.calls }) b) all

  answered_of : (me : Node) (b : Backs) (n : Node) (xs : List Sending) (code : ℤ) → TurnOf (answered_by me l v b n xs code)
  answered_of me b n [] code = all
  answered_of me b n (x ∷ xs) code = either (not (is_number code 0) || sent_whole x) (ends_sending me l v b [] n xs x code) (sending_goes_on me l v b n xs x) (ends_of me b [] n xs x code) (goes_of me b n xs x)

  renews_of : (me : Node) (b : Backs) (n : Node) (known : ℕ) (c : PieceCall) (xs : List Sending) → TurnOf (vol_renews me l v b n known c xs)
  renews_of me b n known c [] = all
  renews_of me b n known c (x ∷ xs) = all

  told_by_of : (me : Node) (b : Backs) (head : Head) (x : Carried) (o : Option PieceCall) → TurnOf (vol_told_by me l v b head x o)
  told_by_of me b head x None = all
  told_by_of me b head carried.Notice (Some p) = either (is_awaited l.boot p head) _ (vol_rests l v b) (renews_of me b head.from head.boot p (v.sendings head.from)) all
  told_by_of me b head (carried.Call user call) (Some p) = either (is_awaited l.boot p head) _ (vol_rests l v b) (answered_of me b head.from (v.sendings head.from) (code_told (carried.Call user call))) all
  told_by_of me b head (carried.Refusal code) (Some p) = either (is_awaited l.boot p head) _ (vol_rests l v b) (answered_of me b head.from (v.sendings head.from) (code_told (carried.Refusal code))) all
  told_by_of me b head (carried.Reply reply) (Some p) = either (is_awaited l.boot p head) _ (vol_rests l v b) (answered_of me b head.from (v.sendings head.from) (code_told (carried.Reply reply))) all

  told_of : (me : Node) (b : Backs) (head : Head) (x : Carried) → TurnOf (vol_told me l v b head x)
  told_of me b head x = either (same_node head.to me) _ (vol_rests l v b) (told_by_of me b head x (v.calls head.from)) all

  timed_of : (me : Node) (b : Backs) (n : Node) (c : PieceCall) (xs : List Sending) → TurnOf (vol_timed me l v b n c xs)
  timed_of me b n c [] = all
  timed_of me b n c (x ∷ xs) = either (is_sent_again c.tries) _ _ all (ends_of me b _ n xs x given_up)

-- what a record leaves on the disk
pub deed_volumes : (head : Head) (x : Deed) (l : Lasting) → (deed_done head x l).volumes ≡ (done_by x.body (durable_of l)).volumes
deed_volumes head x l = stamp_volumes (deed_head head x) (done_by x.body (durable_of l))

turn_of : (me : Node) (l : Lasting) (v : VolState) (b : Backs) (d : VolDecision) → Keeps (durable_of l) d → AreOf l.volumes v.transactions → TurnOf (vol_turn me l v b d)
turn_of me l v b drops k all = all
turn_of me l v b (tells_boot head) k all = all
turn_of me l v b (repeats reply) k all = repeats_of l v all b reply _ _
turn_of me l v b (replies_to head reply ts last) k all = answers_of l (vol_seated head reply (with_transactions ts last v)) k b [] reply [] false
turn_of me l v b (dispatches head x) k all = next_of l v all me l.boot (Server x.server) (vol_rests l (queued head x (in_progress head v)) b) all
turn_of me l v b (saves head x) k all =
    answers_of (deed_done head x l) (vol_seated head x.reply (with_transactions x.transactions x.last v)) (subst (λ (t : Table Stored). AreOf t x.transactions) (sym (deed_volumes head x l)) k.1) _ _ x.reply _ false

turned_of : (me : Node) (l : Lasting) (v : VolState) (b : Backs) (d : VolDecision) (head : Head) (x : Carried) → Keeps (durable_of l) d → AreOf l.volumes v.transactions → TurnOf (vol_turned_by me l v b d head x)
turned_of me l v b d head (carried.Call user call) k all = turn_of me l v b d k all
turned_of me l v b d head (carried.Refusal code) k all = told_of l v all me b head (carried.Refusal code)
turned_of me l v b d head (carried.Reply reply) k all = told_of l v all me b head (carried.Reply reply)
turned_of me l v b d head carried.Notice k all = told_of l v all me b head carried.Notice

-- ---- steps of a node

-- its transactions are apart, and of the families of their volumes
pub record IsWell (s : NodeState) : Type 0 where
  pub apart : IsApart s
  pub all : AreOf s.file.lasting.volumes s.vol.transactions

abbrev pub OwnBy : NodeState → Type 0
OwnBy s = AreOwn s.file.lasting.volumes

does_goes : (me : Node) (s : ServerState) (clock place : ℕ) (d : Decision) → Chooses s d → Goes s.lasting.volumes (does me s clock place d []).state.lasting.volumes
does_goes me s clock place files.drops h = same_goes s.lasting.volumes
does_goes me s clock place (files.tells_boot head) h = same_goes s.lasting.volumes
does_goes me s clock place (files.repeats reply) h = same_goes s.lasting.volumes
does_goes me s clock place (files.refuses head code) h = same_goes s.lasting.volumes
does_goes me s clock place (files.shows head r) h = same_goes s.lasting.volumes
does_goes me s clock place (files.saves head c) h = change_goes clock c s.lasting.volumes h.found

file_goes : (me : Node) (holds : Table ℕ) (s : ServerState) (clock place : ℕ) (m : Message) → Goes s.lasting.volumes (file_row me holds s clock place (Whole m)).state.lasting.volumes
unfolding file_row
file_goes me holds s clock place m = let z = does_goes me s clock place (file_decides me holds s clock (Whole m)) (decided_open me holds s clock (Whole m)) in record { follows = z.follows; own = z.own }

decides : (me : Node) (s : NodeState) (m : Message) → Fits m → IsWell s → Keeps (durable_of s.file.lasting) (vol_decides me (durable_of s.file.lasting) s.vol (Whole m))
decides me s m fits h = decided_keeps (durable_of s.file.lasting) s.vol h.apart h.all me m fits

-- given a message
row_all_by : (b : Bool) (me : Node) (s : NodeState) (clock place : ℕ) (m : Message) → is_of_client (Some m.head.from) ≡ b → Fits m → IsWell s → AreOf (node_row me s clock place (Whole m)).state.file.lasting.volumes (node_row me s clock place (Whole m)).state.vol.transactions
unfolding node_row
row_all_by true me s clock place m is fits h = rw is (wide s.file.lasting.volumes _ s.vol.last_transaction s.vol.transactions (file_goes me (holds_of s.vol.transactions) s.file clock place m).follows h.apart h.all)
row_all_by false me s clock place m is fits h = rw is (turned_of me s.file.lasting s.vol (expired clock s.file.backs) (vol_decides me (durable_of s.file.lasting) s.vol (Whole m)) m.head m.carried (decides me s m fits h) h.all)

pub row_well : (me : Node) (s : NodeState) (clock place : ℕ) (m : Message) → Fits m → IsWell s → IsWell (node_row me s clock place (Whole m)).state
row_well me s clock place m fits h = record { apart = nodes_stay_apart.given me s clock place (Whole m) h.apart; all = row_all_by (is_of_client (Some m.head.from)) me s clock place m refl fits h }

file_own : (me : Node) (s : NodeState) (clock place : ℕ) (m : Message) → is_of_client (Some m.head.from) ≡ true → OwnBy s → OwnBy (node_row me s clock place (Whole m)).state
unfolding node_row
file_own me s clock place m is own = rw is ((file_goes me (holds_of s.vol.transactions) s.file clock place m).own own)

deed_own : (head : Head) (x : Deed) (l : Lasting) → IsFit (durable_of l) x.body → AreOwn l.volumes → AreOwn (deed_done head x l).volumes
deed_own head x l fit own = subst AreOwn (sym (deed_volumes head x l)) ((body_goes x.body (durable_of l) fit).own own)

still_own : (me : Node) (s : NodeState) (clock place : ℕ) (m : Message) → is_of_client (Some m.head.from) ≡ false → is_saved (vol_decides me (durable_of s.file.lasting) s.vol (Whole m)) ≡ false → OwnBy s → OwnBy (node_row me s clock place (Whole m)).state
still_own me s clock place m other none own = subst (λ (l : Lasting). AreOwn l.volumes) (sym (others_leave_files.given me s clock place (Whole m) other none).lasting) own

vol_own : (me : Node) (s : NodeState) (clock place : ℕ) (m : Message) (d : VolDecision) → is_of_client (Some m.head.from) ≡ false → vol_decides me (durable_of s.file.lasting) s.vol (Whole m) ≡ d → Keeps (durable_of s.file.lasting) d → OwnBy s → OwnBy (node_row me s clock place (Whole m)).state
vol_own me s clock place m (saves head x) other is keeps own =
    let shown : ShowsDeed me s clock place head x (node_row me s clock place (Whole m)) = deeds_are_shown me s clock place (Whole m) head x other is in
    subst (λ (l : Lasting). AreOwn l.volumes) (sym shown.lasting) (deed_own head x s.file.lasting keeps.0 own)
vol_own me s clock place m d other is keeps own = still_own me s clock place m other (ap is_saved is) own

row_own_by : (b : Bool) (me : Node) (s : NodeState) (clock place : ℕ) (m : Message) → is_of_client (Some m.head.from) ≡ b → Fits m → IsWell s → OwnBy s → OwnBy (node_row me s clock place (Whole m)).state
row_own_by true me s clock place m is fits h own = file_own me s clock place m is own
row_own_by false me s clock place m is fits h own = vol_own me s clock place m (vol_decides me (durable_of s.file.lasting) s.vol (Whole m)) is refl (decides me s m fits h) own

pub row_own : (me : Node) (s : NodeState) (clock place : ℕ) (m : Message) → Fits m → IsWell s → OwnBy s → OwnBy (node_row me s clock place (Whole m)).state
row_own me s clock place m fits h own = row_own_by (is_of_client (Some m.head.from)) me s clock place m refl fits h own

-- its timeouts, and as time passes
late_all : (me : Node) (s : NodeState) (clock : ℕ) (n : Node) (c : PieceCall) → IsWell s → AreOf (piece_timeout_row me s clock n c).state.file.lasting.volumes (piece_timeout_row me s clock n c).state.vol.transactions
unfolding piece_timeout_row
late_all me s clock n c h = timed_of s.file.lasting s.vol h.all me (expired clock s.file.backs) n c (s.vol.sendings n)

pub late_well : (me : Node) (s : NodeState) (clock : ℕ) (n : Node) (c : PieceCall) → IsWell s → IsWell (piece_timeout_row me s clock n c).state
late_well me s clock n c h = record { apart = nodes_stay_apart.late me s clock n c h.apart; all = late_all me s clock n c h }

pub late_own : (me : Node) (s : NodeState) (clock : ℕ) (n : Node) (c : PieceCall) → OwnBy s → OwnBy (piece_timeout_row me s clock n c).state
late_own me s clock n c own = subst (λ (l : Lasting). AreOwn l.volumes) (sym (others_leave_files.late me s clock n c).lasting) own

back_all : (me : Node) (s : NodeState) (clock : ℕ) (n : Node) (c : BackCall) → IsWell s → AreOf (node_back_timeout_row me s clock n c).state.file.lasting.volumes (node_back_timeout_row me s clock n c).state.vol.transactions
unfolding node_back_timeout_row back_timeout_row
back_all me s clock n c h = h.all

pub back_well : (me : Node) (s : NodeState) (clock : ℕ) (n : Node) (c : BackCall) → IsWell s → IsWell (node_back_timeout_row me s clock n c).state
back_well me s clock n c h = record { apart = nodes_stay_apart.back me s clock n c h.apart; all = back_all me s clock n c h }

pub back_own : (me : Node) (s : NodeState) (clock : ℕ) (n : Node) (c : BackCall) → OwnBy s → OwnBy (node_back_timeout_row me s clock n c).state
unfolding node_back_timeout_row back_timeout_row
back_own me s clock n c own = own

wake_all : (me : Node) (s : NodeState) (clock : ℕ) → IsWell s → AreOf (node_wake_row me s clock).state.file.lasting.volumes (node_wake_row me s clock).state.vol.transactions
unfolding node_wake_row wake_row
wake_all me s clock h = h.all

pub wake_well : (me : Node) (s : NodeState) (clock : ℕ) → IsWell s → IsWell (node_wake_row me s clock).state
wake_well me s clock h = record { apart = nodes_stay_apart.woken me s clock h.apart; all = wake_all me s clock h }

pub wake_own : (me : Node) (s : NodeState) (clock : ℕ) → OwnBy s → OwnBy (node_wake_row me s clock).state
unfolding node_wake_row wake_row
wake_own me s clock own = own

-- ---- a restart

file_begins : (me : Node) (s : ServerState) (clock : ℕ) (d : Decision) → Chooses s d → AreOwn s.lasting.volumes → AreOwn (begun_after me s clock d).state.lasting.volumes
file_begins me s clock files.drops h own = own
file_begins me s clock (files.tells_boot head) h own = own
file_begins me s clock (files.repeats reply) h own = own
file_begins me s clock (files.refuses head code) h own = own
file_begins me s clock (files.shows head r) h own = own
file_begins me s clock (files.saves head c) h own = (change_goes clock c s.lasting.volumes h.found).own own

vol_begins : (me : Node) (s : ServerState) (d : VolDecision) → Keeps (durable_of s.lasting) d → AreOwn s.lasting.volumes → AreOwn (vol_begun_after me s d).state.lasting.volumes
vol_begins me s drops h own = own
vol_begins me s (tells_boot head) h own = own
vol_begins me s (repeats reply) h own = own
vol_begins me s (replies_to head reply ts last) h own = own
vol_begins me s (dispatches head x) h own = own
vol_begins me s (saves head x) h own = deed_own head x s.lasting h.0 own

begins_by : (b : Bool) (x y : Begun ServerState) → AreOwn x.state.lasting.volumes → AreOwn y.state.lasting.volumes → AreOwn (cond b x y).state.lasting.volumes
begins_by true x y h k = h
begins_by false x y h k = k

-- behind a step that was interrupted with its record whole
pub cut_own : (me : Node) (s : NodeState) (clock : ℕ) (m : Message) → Fits m → IsWell s → OwnBy s → AreOwn (node_begun_after me s clock (Whole m)).state.lasting.volumes
cut_own me s clock m fits h own =
    begins_by (is_of_client (Some m.head.from)) (begun_after me s.file clock (node_file_decides me s clock (Whole m))) (vol_begun_after me s.file (vol_decides me (durable_of s.file.lasting) s.vol (Whole m)))
    (file_begins me s.file clock (node_file_decides me s clock (Whole m)) (decided_open me (holds_of s.vol.transactions) s.file clock (Whole m)) own)
    (vol_begins me s.file (vol_decides me (durable_of s.file.lasting) s.vol (Whole m)) (decides me s m fits h) own)

-- and what it has when it is up
start_all : (me : Node) (clock count : ℕ) (begun : Begun ServerState) → AreOf (node_start_row me clock count begun).state.file.lasting.volumes (node_start_row me clock count begun).state.vol.transactions
unfolding node_start_row file_start
start_all me clock count begun n t e = absurd cc

pub start_well : (me : Node) (clock count : ℕ) (begun : Begun ServerState) → IsWell (node_start_row me clock count begun).state
start_well me clock count begun = record { apart = nodes_stay_apart.started me clock count begun; all = start_all me clock count begun }

pub start_own : (me : Node) (clock count : ℕ) (begun : Begun ServerState) → AreOwn begun.state.lasting.volumes → OwnBy (node_start_row me clock count begun).state
unfolding node_start_row file_start
start_own me clock count begun own = all_kept is_unflagged begun.state.lasting.volumes own
