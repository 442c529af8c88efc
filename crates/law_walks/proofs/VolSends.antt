-- What a volume server sends, keeps and holds, and a server node of both halves.
use Rattle.std.proofs.Common.{◌≡◌, ℕ, ℤ, ◌+◌, Bool, true, false, cond, List, [], ◌∷◌, ◌++◌, Option, Some, None, refl, sym, subst}
use Rattle.std.specs.Prelude.{◌&&◌, ◌||◌, not}
use Rattle.std.specs.List.{AllByRecursion}
use Rattle.afs_num.specs.Nodes.{same_node}
use Rattle.afs_num.specs.declared.messages.Carried.{Carried}
use Rattle.afs_num.specs.declared.messages.Carried.TheVariants as carried
use Rattle.afs_num.specs.declared.messages.Message.{Message}
use Rattle.afs_num.specs.declared.messages.Received.TheVariants.{Whole}
use Rattle.afs_num.specs.declared.types.Head.{Head}
use Rattle.afs_num.specs.declared.types.Node.{Node}
use Rattle.afs_num.specs.declared.types.Node.TheVariants.{Server}
use Rattle.spec_history.specs.declared.lines.Line.{Line}
use Rattle.spec_history.specs.declared.lines.Line.TheVariants as lines
use Rattle.spec_ideal.specs.Operations.{is_number}
use Rattle.spec_model.specs.Calls.{call_seat, finished, is_sent_again, key_of}
use Rattle.spec_rows.specs.Callbacks.{expired, held_under, is_ready, is_seat_of, key_answered, put_at}
use Rattle.spec_rows.specs.States.{durable_of, BackCall, Backs, Held, Lasting, ServerState}
use Rattle.spec_rows.specs.Steps.{Begun, Step}
use Rattle.spec_volrows.specs.FileRow.{file_row}
use Rattle.spec_volrows.specs.VolRow.{holds_of}
use Rattle.spec_volrows.specs.VolStates.{NodeState, PieceCall, Sending, VolState}
use Rattle.spec_volrows.specs.VolSteps as vols
use Rattle.spec_volrows.specs.VolSteps.{answered_by, code_told, deed_done, dispatches, ends_sending, file_stepped, forward_reply, from_of, given_up, sending_goes_on, in_progress, is_awaited, is_of_client, waits_for_breaks, piece_gone, next_by, next_piece, node_back_timeout_row, node_row, node_start_row, node_wake_row, piece_timeout_row, queued, released, replies_to, sending_of, sent_whole, vol_answers, vol_decides, vol_renews, vol_repeats, vol_rests, vol_row, vol_seated, vol_stepped, vol_timed, vol_told, vol_told_by, vol_turn, vol_turned, vol_turned_by, withdraws_from, with_transactions, VolDecision, VolTurn}
use Rattle.law_walks.specs.Sends.{FileMakes, HeldAre, HeldIs, NodeIs, SeatsAre, ServerMakes, VolIs, VolMakes}
use Rattle.law_walks.proofs.FileSends.{file_sends, late_sends, out_is, start_sends, stepped_is, wake_sends, FileSends}
use Rattle.law_walks.proofs.Seats.{all_filter, all_more, finished_is, placed_is, seated_is, started_is}
use Rattle.law_walks.proofs.VolDecides.{decides_all}

-- what it begins with
record VolHas (P : Message → Type 0) (S : Sending → Type 0) (l : Lasting) (v : VolState) (b : Backs) : Type 0 where
  kept : SeatsAre P l.kept
  seats : SeatsAre P v.seats
  held : HeldAre P v.held
  backs : HeldAre P b.held
  sendings : (n : Node) → AllByRecursion S (v.sendings n)

record VolTurnIs (P : Message → Type 0) (S : Sending → Type 0) (boot : ℕ) (t : VolTurn) : Type 0 where
  kept : SeatsAre P t.lasting.kept
  seats : SeatsAre P t.vol.seats
  held : HeldAre P t.vol.held
  backs : HeldAre P t.backs.held
  sendings : (n : Node) → AllByRecursion S (t.vol.sendings n)
  sent : AllByRecursion P t.sent
  boots : t.lasting.boot ≡ boot

-- ---- a map changed at one node

put_by : {A : Type 0} (b : Bool) (Q : A → Type 0) (x y : A) → Q x → Q y → Q (cond b x y)
put_by {A} true Q x y h k = h
put_by {A} false Q x y h k = k

all_put : {A : Type 0} (n : Node) (Q : A → Type 0) (x : A) (f : Node → A) → Q x → ((j : Node) → Q (f j)) → (j : Node) → Q (put_at n x f j)
all_put {A} n Q x f h k j = put_by _ Q x (f j) h (k j)

module _ (P : Message → Type 0) (S : Sending → Type 0) (me : Node) (boot : ℕ) (makes : ServerMakes P S me boot) where
  rests_is : (l : Lasting) (v : VolState) (b : Backs) → l.boot ≡ boot → VolHas P S l v b → VolTurnIs P S boot (vol_rests l v b)
  rests_is l v b is h = record { kept = h.kept; seats = h.seats; held = h.held; backs = h.backs; sendings = h.sendings; sent = tt; boots = is }

  answers_is : (l : Lasting) (v : VolState) (b : Backs) (ls : List Line) (reply : Message) (waits : List ℕ) (again : Bool) → l.boot ≡ boot → VolHas P S l v b → P reply → VolTurnIs P S boot (vol_answers l v b ls reply waits again)
  answers_is l v b ls reply [] again is h r = record { kept = h.kept; seats = h.seats; held = h.held; backs = h.backs; sendings = h.sendings; sent = (r, tt); boots = is }
  answers_is l v b ls reply (k ∷ ks) again is h r =
      record { kept = h.kept; seats = h.seats; held = all_more (HeldIs P) v.held _ h.held (r, tt); backs = h.backs; sendings = h.sendings; sent = tt; boots = is }

  next_is_by : (n : Node) (t : VolTurn) (xs : List Sending) (c : Option PieceCall) → AllByRecursion S xs → VolTurnIs P S boot t → VolTurnIs P S boot (next_by me boot n t xs c)
  next_is_by n t [] c all h = h
  next_is_by n t (x ∷ xs) (Some c) all h = h
  next_is_by n t (x ∷ xs) None all h =
      record { kept = h.kept; seats = h.seats; held = h.held; backs = h.backs; sendings = h.sendings; sent = all_more P t.sent _ h.sent (makes.piece n (t.vol.known n) _ x all.0, tt); boots = h.boots }

  next_is : (n : Node) (t : VolTurn) → VolTurnIs P S boot t → VolTurnIs P S boot (next_piece me boot n t)
  next_is n t h = next_is_by n t (t.vol.sendings n) (t.vol.calls n) (h.sendings n) h

  either_vol : (b : Bool) (x y : VolTurn) → VolTurnIs P S boot x → VolTurnIs P S boot y → VolTurnIs P S boot (cond b x y)
  either_vol true x y h k = h
  either_vol false x y h k = k

  repeated_is : (l : Lasting) (v : VolState) (b : Backs) (reply : Message) (o : Option Held) (good : Bool) → l.boot ≡ boot → VolHas P S l v b → P reply → VolTurnIs P S boot (vol_repeats l v b reply o good)
  repeated_is l v b reply (Some w) good is h r = either_vol (w.again && is_ready b.lists.owed w) _ _ (answers_is l v b [] reply [] true is h r) (rests_is l v b is h)
  repeated_is l v b reply None true is h r = answers_is l v b [] reply _ true is h r
  repeated_is l v b reply None false is h r = answers_is l v b [] reply [] true is h r

module _ (P : Message → Type 0) (S : Sending → Type 0) (me : Node) (l : Lasting) (makes : ServerMakes P S me l.boot) where
  ends_is : (v : VolState) (b : Backs) (ls : List Line) (n : Node) (xs : List Sending) (x : Sending) (code : ℤ) → AllByRecursion S (x ∷ xs) → VolHas P S l v b → VolTurnIs P S l.boot (ends_sending me l v b ls n xs x code)
  ends_is v b ls n xs x code all h = next_is P S me l.boot makes n (record {
    lasting = l;
    vol = record v { sendings = put_at n xs v.sendings; calls = put_at n None v.calls; seats = finished (key_of x.head) (forward_reply l.boot x.head code) v.seats };
    backs = b;
    lines = ls;
    sent = forward_reply l.boot x.head code ∷ [];
  }) (record {
    kept = h.kept;
    seats = finished_is P (key_of x.head) (forward_reply l.boot x.head code) v.seats (makes.forward x code all.0) h.seats;
    held = h.held;
    backs = h.backs;
    sendings = all_put n (AllByRecursion S) xs v.sendings all.1 h.sendings;
    sent = (makes.forward x code all.0, tt);
    boots = refl;
  })

  goes_is : (v : VolState) (b : Backs) (n : Node) (xs : List Sending) (x : Sending) → AllByRecursion S (x ∷ xs) → VolHas P S l v b → VolTurnIs P S l.boot (sending_goes_on me l v b n xs x)
  goes_is v b n xs x all h =
      next_is P S me l.boot makes n (vol_rests l (record v { sendings = put_at n (piece_gone x ∷ xs) v.sendings; calls = put_at n None v.calls }) b)
      (record { kept = h.kept; seats = h.seats; held = h.held; backs = h.backs; sendings = all_put n (AllByRecursion S) (piece_gone x ∷ xs) v.sendings (makes.moved x all.0, all.1) h.sendings; sent = tt; boots = refl })

  answered_is : (v : VolState) (b : Backs) (n : Node) (xs : List Sending) (code : ℤ) → AllByRecursion S xs → VolHas P S l v b → VolTurnIs P S l.boot (answered_by me l v b n xs code)
  answered_is v b n [] code all h = rests_is P S me l.boot makes l v b refl h
  answered_is v b n (x ∷ xs) code all h = either_vol P S me l.boot makes (not (is_number code 0) || sent_whole x) _ _ (ends_is v b [] n xs x code all h) (goes_is v b n xs x all h)

  renews_is : (v : VolState) (b : Backs) (n : Node) (known : ℕ) (c : PieceCall) (xs : List Sending) → AllByRecursion S xs → VolHas P S l v b → VolTurnIs P S l.boot (vol_renews me l v b n known c xs)
  renews_is v b n known c [] all h = rests_is P S me l.boot makes l v b refl h
  renews_is v b n known c (x ∷ xs) all h = record { kept = h.kept; seats = h.seats; held = h.held; backs = h.backs; sendings = h.sendings; sent = (makes.piece n known c.number x all.0, tt); boots = refl }

  told_is_by : (v : VolState) (b : Backs) (head : Head) (c : Carried) (o : Option PieceCall) → VolHas P S l v b → VolTurnIs P S l.boot (vol_told_by me l v b head c o)
  told_is_by v b head c None h = rests_is P S me l.boot makes l v b refl h
  told_is_by v b head carried.Notice (Some p) h =
      either_vol P S me l.boot makes (is_awaited l.boot p head) _ _ (renews_is v b head.from head.boot p (v.sendings head.from) (h.sendings head.from) h) (rests_is P S me l.boot makes l v b refl h)
  told_is_by v b head (carried.Call user call) (Some p) h =
      either_vol P S me l.boot makes (is_awaited l.boot p head) _ _ (answered_is v b head.from (v.sendings head.from) (code_told (carried.Call user call)) (h.sendings head.from) h) (rests_is P S me l.boot makes l v b refl h)
  told_is_by v b head (carried.Refusal code) (Some p) h =
      either_vol P S me l.boot makes (is_awaited l.boot p head) _ _ (answered_is v b head.from (v.sendings head.from) (code_told (carried.Refusal code)) (h.sendings head.from) h) (rests_is P S me l.boot makes l v b refl h)
  told_is_by v b head (carried.Reply reply) (Some p) h =
      either_vol P S me l.boot makes (is_awaited l.boot p head) _ _ (answered_is v b head.from (v.sendings head.from) (code_told (carried.Reply reply)) (h.sendings head.from) h) (rests_is P S me l.boot makes l v b refl h)

  told_is : (v : VolState) (b : Backs) (head : Head) (c : Carried) → VolHas P S l v b → VolTurnIs P S l.boot (vol_told me l v b head c)
  told_is v b head c h = either_vol P S me l.boot makes (same_node head.to me) _ _ (told_is_by v b head c (v.calls head.from) h) (rests_is P S me l.boot makes l v b refl h)

  timed_is : (v : VolState) (b : Backs) (n : Node) (c : PieceCall) (xs : List Sending) → AllByRecursion S xs → VolHas P S l v b → VolTurnIs P S l.boot (vol_timed me l v b n c xs)
  timed_is v b n c [] all h = rests_is P S me l.boot makes l v b refl h
  timed_is v b n c (x ∷ xs) all h = either_vol P S me l.boot makes (is_sent_again c.tries) _ _
      (record { kept = h.kept; seats = h.seats; held = h.held; backs = h.backs; sendings = h.sendings; sent = (makes.piece n (v.known n) c.number x all.0, tt); boots = refl }) (ends_is v b _ n xs x given_up all h)

  turn_is : (v : VolState) (b : Backs) (d : VolDecision) → VolHas P S l v b → VolIs P P S me d → VolTurnIs P S l.boot (vol_turn me l v b d)
  turn_is v b vols.drops h d = rests_is P S me l.boot makes l v b refl h
  turn_is v b (vols.tells_boot head) h d =
      record { kept = h.kept; seats = h.seats; held = h.held; backs = h.backs; sendings = h.sendings; sent = (makes.file.answers.notice head d, tt); boots = refl }
  turn_is v b (vols.repeats reply) h d = repeated_is P S me l.boot makes l v b reply (held_under (key_answered reply) v.held) (is_seat_of reply (call_seat reply.head.to l.kept)) refl h d
  turn_is v b (replies_to head reply ts last) h d =
      answers_is P S me l.boot makes l (vol_seated head reply (with_transactions ts last v)) b [] reply [] false refl
      (record { kept = h.kept; seats = seated_is P _ v.seats d h.seats; held = h.held; backs = h.backs; sendings = h.sendings }) d
  turn_is v b (dispatches head x) h d =
      next_is P S me l.boot makes (Server x.server) (vol_rests l (queued head x (in_progress head v)) b) (record {
        kept = h.kept;
        seats = started_is P (key_of head) v.seats h.seats;
        held = h.held;
        backs = h.backs;
        sendings = all_put (Server x.server) (AllByRecursion S) (v.sendings (Server x.server) ++ sending_of head x ∷ []) v.sendings (all_more S (v.sendings (Server x.server)) _ (h.sendings (Server x.server)) (d, tt)) h.sendings;
        sent = tt;
        boots = refl;
      })
  turn_is v b (vols.saves head x) h d =
      answers_is P S me l.boot makes (deed_done head x l) (vol_seated head x.reply (with_transactions x.transactions x.last v)) (record b { lists = withdraws_from x.withdraws b.lists }) _ x.reply _ false refl
      (record { kept = placed_is P _ l.kept d h.kept; seats = seated_is P _ v.seats d h.seats; held = h.held; backs = h.backs; sendings = h.sendings }) d

  turned_is_by : (v : VolState) (b : Backs) (d : VolDecision) (head : Head) (c : Carried) → VolHas P S l v b → VolIs P P S me d → VolTurnIs P S l.boot (vol_turned_by me l v b d head c)
  turned_is_by v b d head (carried.Call user call) h k = turn_is v b d h k
  turned_is_by v b d head (carried.Refusal code) h k = told_is v b head (carried.Refusal code) h
  turned_is_by v b d head (carried.Reply reply) h k = told_is v b head (carried.Reply reply) h
  turned_is_by v b d head carried.Notice h k = told_is v b head carried.Notice h

-- ---- a node

pub record NodeSends (P : Message → Type 0) (S : Sending → Type 0) (s : Step NodeState) : Type 0 where
  pub has : NodeIs P S s.state
  pub sent : AllByRecursion P s.sent

module _ (P : Message → Type 0) (S : Sending → Type 0) where
  released_sends : (v : VolState) (ls : List Line) (s : Step ServerState) → SeatsAre P v.seats → HeldAre P v.held → ((n : Node) → AllByRecursion S (v.sendings n)) → FileSends P s → NodeSends P S (released v ls s)
  released_sends v ls s seats held sendings h = record {
    has = record { file = h.has; seats = seats; held = all_filter (HeldIs P) (waits_for_breaks s.state.backs.lists.owed) v.held held; sendings = sendings };
    sent = all_more P s.sent _ h.sent (out_is P _ (all_filter (HeldIs P) (is_ready s.state.backs.lists.owed) v.held held));
  }

  vol_sends : (me : Node) (s : NodeState) (ls : List Line) (t : VolTurn) → FileMakes P me s.file.lasting.boot → NodeIs P S s → VolTurnIs P S s.file.lasting.boot t → NodeSends P S (vol_stepped me s.file ls t)
  vol_sends me s ls t makes h k =
      released_sends t.vol (ls ++ t.lines) _ k.seats k.held k.sendings
      (stepped_is P me (record s.file { lasting = t.lasting }) [] (record { backs = t.backs; lines = []; sent = t.sent; outs = [] }) (subst (FileMakes P me) (sym k.boots) makes) h.file.seats k.kept
      (record { held = k.backs; sent = k.sent; outs = tt }))

  had : (s : NodeState) (clock : ℕ) → NodeIs P S s → VolHas P S s.file.lasting s.vol (expired clock s.file.backs)
  had s clock h = record { kept = h.file.kept; seats = h.seats; held = h.held; backs = h.file.held; sendings = h.sendings }

  either_sends : (b : Bool) (x y : Step NodeState) → NodeSends P S x → NodeSends P S y → NodeSends P S (cond b x y)
  either_sends true x y h k = h
  either_sends false x y h k = k

  pub row_sends : (me : Node) (s : NodeState) (clock place : ℕ) (m : Message) → ServerMakes P S me s.file.lasting.boot → NodeIs P S s → VolMakes P S (vol_decides me (durable_of s.file.lasting) s.vol (Whole m)) → NodeSends P S (node_row me s clock place (Whole m))
  unfolding node_row
  row_sends me s clock place m makes h k =
      let l : Lasting = s.file.lasting in
      let b : Backs = expired clock s.file.backs in
      let d : VolDecision = vol_decides me (durable_of l) s.vol (Whole m) in
      either_sends (is_of_client (from_of (Whole m))) (file_stepped s.vol (file_row me (holds_of s.vol.transactions) s.file clock place (Whole m))) (vol_row me s clock place (Whole m))
      (released_sends s.vol _ _ h.seats h.held h.sendings (file_sends P me (holds_of s.vol.transactions) s.file clock place m makes.file h.file))
      (vol_sends me s (lines.Given place ∷ []) (vol_turned me l s.vol b d (Whole m)) makes.file h (turned_is_by P S me l makes s.vol b d m.head m.carried (had s clock h) (decides_all P S me (durable_of l) s.vol m k h.seats)))

  pub piece_sends : (me : Node) (s : NodeState) (clock : ℕ) (n : Node) (c : PieceCall) → ServerMakes P S me s.file.lasting.boot → NodeIs P S s → NodeSends P S (piece_timeout_row me s clock n c)
  unfolding piece_timeout_row
  piece_sends me s clock n c makes h =
      vol_sends me s [] (vol_timed me s.file.lasting s.vol (expired clock s.file.backs) n c (s.vol.sendings n)) makes.file h (timed_is P S me s.file.lasting makes s.vol (expired clock s.file.backs) n c (s.vol.sendings n) (h.sendings n) (had s clock h))

  pub back_sends : (me : Node) (s : NodeState) (clock : ℕ) (n : Node) (c : BackCall) → ServerMakes P S me s.file.lasting.boot → NodeIs P S s → NodeSends P S (node_back_timeout_row me s clock n c)
  unfolding node_back_timeout_row
  back_sends me s clock n c makes h = released_sends s.vol _ _ h.seats h.held h.sendings (late_sends P me s.file clock n c makes.file h.file)

  pub woken_sends : (me : Node) (s : NodeState) (clock : ℕ) → ServerMakes P S me s.file.lasting.boot → NodeIs P S s → NodeSends P S (node_wake_row me s clock)
  unfolding node_wake_row
  woken_sends me s clock makes h = released_sends s.vol _ _ h.seats h.held h.sendings (wake_sends P me s.file clock makes.file h.file)

  pub risen_sends : (me : Node) (clock count : ℕ) (f : Begun ServerState) → FileMakes P me (f.state.lasting.boot + 1) → SeatsAre P f.state.lasting.kept → NodeSends P S (node_start_row me clock count f)
  unfolding node_start_row
  risen_sends me clock count f makes kept = let z = start_sends P me clock count f makes kept in record { has = record { file = z.has; seats = kept; held = tt; sendings = λ n. tt }; sent = z.sent }
