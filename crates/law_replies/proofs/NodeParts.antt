-- What a server node of both halves sends, keeps and holds stays P, in the same way.
use Rattle.std.proofs.Common.{◌≡◌, ℕ, ℤ, Bool, true, false, cond, List, [], ◌∷◌, ◌++◌, Option, Some, None, refl}
use Rattle.std.specs.Prelude.{⊤, ◌&&◌, ◌||◌, not}
use Rattle.std.specs.List.{AllByRecursion}
use Rattle.afs_num.specs.Nodes.{same_node}
use Rattle.afs_num.specs.declared.messages.Carried.{Carried}
use Rattle.afs_num.specs.declared.messages.Carried.TheVariants as carried
use Rattle.afs_num.specs.declared.messages.Message.{Message}
use Rattle.afs_num.specs.declared.messages.Received.TheVariants.{Whole}
use Rattle.afs_num.specs.declared.types.Head.{Head}
use Rattle.afs_num.specs.declared.types.Node.{Node}
use Rattle.afs_num.specs.declared.types.Node.TheVariants.{Server}
use Rattle.spec_history.specs.declared.lines.Line.{Line}
use Rattle.spec_history.specs.declared.lines.Line.TheVariants as lines
use Rattle.spec_ideal.specs.Operations.{is_number}
use Rattle.spec_model.specs.Calls.{call_seat, finished, is_sent_again, key_of}
use Rattle.spec_rows.specs.Callbacks.{expired, held_under, is_ready, is_seat_of, key_answered, put_at}
use Rattle.spec_rows.specs.States.{durable_of, BackCall, Backs, Held, Lasting, ServerState}
use Rattle.spec_rows.specs.Hosts.{at_rest, begun_from, in_boot, in_step, Fall}
use Rattle.spec_rows.specs.ServerRow.{begun_after, is_client}
use Rattle.spec_rows.specs.Steps.{Begun, Step}
use Rattle.spec_volrows.specs.NodeHosts.{node_kind}
use Rattle.spec_volrows.specs.FileRow.{file_row}
use Rattle.spec_volrows.specs.VolRow.{holds_of}
use Rattle.spec_volrows.specs.VolStates.{NodeState, PieceCall, Sending, VolState}
use Rattle.spec_volrows.specs.VolSteps as vols
use Rattle.spec_volrows.specs.VolSteps.{answered_by, code_told, deed_done, dispatches, ends_sending, file_stepped, forward_reply, from_of, given_up, sending_goes_on, in_progress, is_awaited, is_of_client, waits_for_breaks, piece_gone, next_by, next_piece, node_back_timeout_row, node_file_decides, vol_begun_after, node_row, node_start_row, node_wake_row, piece_timeout_row, queued, released, replies_to, sending_of, sent_whole, vol_answers, vol_decides, vol_renews, vol_repeats, vol_rests, vol_row, vol_seated, vol_stepped, vol_timed, vol_told, vol_told_by, vol_turn, vol_turned, vol_turned_by, withdraws_from, with_transactions, VolDecision, VolTurn}
use Rattle.law_walks.specs.Sends.{FileIs, HeldAre, HeldIs, NodeIs, SeatsAre, VolIs, VolMakes}
use Rattle.law_walks.proofs.FileSends.{out_is, FileSends}
use Rattle.law_walks.proofs.Seats.{all_filter, all_more, finished_is, placed_is, seated_is, started_is}
use Rattle.law_walks.proofs.VolDecides.{decides_all}
use Rattle.law_walks.proofs.VolSends.{NodeSends}
use Rattle.law_replies.proofs.FileParts.{begun_parts, file_parts, late_parts, start_parts, stepped_is, wake_parts, FileMade, Spares}

-- What a volume server makes is P: what carries no answer, and the replies to dumps that are sent on; and the dumps stay S.
pub record VolBase (P : Message → Type 0) (S : Sending → Type 0) (boot : ℕ) : Type 0 where
  pub spares : Spares P
  pub forward : (x : Sending) (code : ℤ) → S x → P (forward_reply boot x.head code)
  pub moved : (x : Sending) → S x → S (piece_gone x)

-- what it begins with
record VolHas (P : Message → Type 0) (S : Sending → Type 0) (l : Lasting) (v : VolState) (b : Backs) : Type 0 where
  kept : SeatsAre P l.kept
  seats : SeatsAre P v.seats
  held : HeldAre P v.held
  backs : HeldAre P b.held
  sendings : (n : Node) → AllByRecursion S (v.sendings n)

record VolTurnIs (P : Message → Type 0) (S : Sending → Type 0) (boot : ℕ) (t : VolTurn) : Type 0 where
  kept : SeatsAre P t.lasting.kept
  seats : SeatsAre P t.vol.seats
  held : HeldAre P t.vol.held
  backs : HeldAre P t.backs.held
  sendings : (n : Node) → AllByRecursion S (t.vol.sendings n)
  sent : AllByRecursion P t.sent
  boots : t.lasting.boot ≡ boot

-- ---- a map changed at one node

put_by : {A : Type 0} (b : Bool) (Q : A → Type 0) (x y : A) → Q x → Q y → Q (cond b x y)
put_by {A} true Q x y h k = h
put_by {A} false Q x y h k = k

all_put : {A : Type 0} (n : Node) (Q : A → Type 0) (x : A) (f : Node → A) → Q x → ((j : Node) → Q (f j)) → (j : Node) → Q (put_at n x f j)
all_put {A} n Q x f h k j = put_by _ Q x (f j) h (k j)

module _ (P : Message → Type 0) (S : Sending → Type 0) (me : Node) (boot : ℕ) (makes : VolBase P S boot) where
  rests_is : (l : Lasting) (v : VolState) (b : Backs) → l.boot ≡ boot → VolHas P S l v b → VolTurnIs P S boot (vol_rests l v b)
  rests_is l v b is h = record { kept = h.kept; seats = h.seats; held = h.held; backs = h.backs; sendings = h.sendings; sent = tt; boots = is }

  answers_is : (l : Lasting) (v : VolState) (b : Backs) (ls : List Line) (reply : Message) (waits : List ℕ) (again : Bool) → l.boot ≡ boot → VolHas P S l v b → P reply → VolTurnIs P S boot (vol_answers l v b ls reply waits again)
  answers_is l v b ls reply [] again is h r = record { kept = h.kept; seats = h.seats; held = h.held; backs = h.backs; sendings = h.sendings; sent = (r, tt); boots = is }
  answers_is l v b ls reply (k ∷ ks) again is h r =
      record { kept = h.kept; seats = h.seats; held = all_more (HeldIs P) v.held _ h.held (r, tt); backs = h.backs; sendings = h.sendings; sent = tt; boots = is }

  next_is_by : (n : Node) (t : VolTurn) (xs : List Sending) (c : Option PieceCall) → AllByRecursion S xs → VolTurnIs P S boot t → VolTurnIs P S boot (next_by me boot n t xs c)
  next_is_by n t [] c all h = h
  next_is_by n t (x ∷ xs) (Some c) all h = h
  next_is_by n t (x ∷ xs) None all h =
      record { kept = h.kept; seats = h.seats; held = h.held; backs = h.backs; sendings = h.sendings; sent = all_more P t.sent _ h.sent (makes.spares _ refl, tt); boots = h.boots }

  next_is : (n : Node) (t : VolTurn) → VolTurnIs P S boot t → VolTurnIs P S boot (next_piece me boot n t)
  next_is n t h = next_is_by n t (t.vol.sendings n) (t.vol.calls n) (h.sendings n) h

  either_vol : (b : Bool) (x y : VolTurn) → VolTurnIs P S boot x → VolTurnIs P S boot y → VolTurnIs P S boot (cond b x y)
  either_vol true x y h k = h
  either_vol false x y h k = k

  repeated_is : (l : Lasting) (v : VolState) (b : Backs) (reply : Message) (o : Option Held) (good : Bool) → l.boot ≡ boot → VolHas P S l v b → P reply → VolTurnIs P S boot (vol_repeats l v b reply o good)
  repeated_is l v b reply (Some w) good is h r = either_vol (w.again && is_ready b.lists.owed w) _ _ (answers_is l v b [] reply [] true is h r) (rests_is l v b is h)
  repeated_is l v b reply None true is h r = answers_is l v b [] reply _ true is h r
  repeated_is l v b reply None false is h r = answers_is l v b [] reply [] true is h r

module _ (P : Message → Type 0) (S : Sending → Type 0) (me : Node) (l : Lasting) (makes : VolBase P S l.boot) where
  ends_is : (v : VolState) (b : Backs) (ls : List Line) (n : Node) (xs : List Sending) (x : Sending) (code : ℤ) → AllByRecursion S (x ∷ xs) → VolHas P S l v b → VolTurnIs P S l.boot (ends_sending me l v b ls n xs x code)
  ends_is v b ls n xs x code all h = next_is P S me l.boot makes n (record {
    lasting = l;
    vol = record v { sendings = put_at n xs v.sendings; calls = put_at n None v.calls; seats = finished (key_of x.head) (forward_reply l.boot x.head code) v.seats };
    backs = b;
    lines = ls;
    sent = forward_reply l.boot x.head code ∷ [];
  }) (record {
    kept = h.kept;
    seats = finished_is P (key_of x.head) (forward_reply l.boot x.head code) v.seats (makes.forward x code all.0) h.seats;
    held = h.held;
    backs = h.backs;
    sendings = all_put n (AllByRecursion S) xs v.sendings all.1 h.sendings;
    sent = (makes.forward x code all.0, tt);
    boots = refl;
  })

  goes_is : (v : VolState) (b : Backs) (n : Node) (xs : List Sending) (x : Sending) → AllByRecursion S (x ∷ xs) → VolHas P S l v b → VolTurnIs P S l.boot (sending_goes_on me l v b n xs x)
  goes_is v b n xs x all h =
      next_is P S me l.boot makes n (vol_rests l (record v { sendings = put_at n (piece_gone x ∷ xs) v.sendings; calls = put_at n None v.calls }) b)
      (record { kept = h.kept; seats = h.seats; held = h.held; backs = h.backs; sendings = all_put n (AllByRecursion S) (piece_gone x ∷ xs) v.sendings (makes.moved x all.0, all.1) h.sendings; sent = tt; boots = refl })

  answered_is : (v : VolState) (b : Backs) (n : Node) (xs : List Sending) (code : ℤ) → AllByRecursion S xs → VolHas P S l v b → VolTurnIs P S l.boot (answered_by me l v b n xs code)
  answered_is v b n [] code all h = rests_is P S me l.boot makes l v b refl h
  answered_is v b n (x ∷ xs) code all h = either_vol P S me l.boot makes (not (is_number code 0) || sent_whole x) _ _ (ends_is v b [] n xs x code all h) (goes_is v b n xs x all h)

  renews_is : (v : VolState) (b : Backs) (n : Node) (known : ℕ) (c : PieceCall) (xs : List Sending) → AllByRecursion S xs → VolHas P S l v b → VolTurnIs P S l.boot (vol_renews me l v b n known c xs)
  renews_is v b n known c [] all h = rests_is P S me l.boot makes l v b refl h
  renews_is v b n known c (x ∷ xs) all h = record { kept = h.kept; seats = h.seats; held = h.held; backs = h.backs; sendings = h.sendings; sent = (makes.spares _ refl, tt); boots = refl }

  told_is_by : (v : VolState) (b : Backs) (head : Head) (c : Carried) (o : Option PieceCall) → VolHas P S l v b → VolTurnIs P S l.boot (vol_told_by me l v b head c o)
  told_is_by v b head c None h = rests_is P S me l.boot makes l v b refl h
  told_is_by v b head carried.Notice (Some p) h =
      either_vol P S me l.boot makes (is_awaited l.boot p head) _ _ (renews_is v b head.from head.boot p (v.sendings head.from) (h.sendings head.from) h) (rests_is P S me l.boot makes l v b refl h)
  told_is_by v b head (carried.Call user call) (Some p) h =
      either_vol P S me l.boot makes (is_awaited l.boot p head) _ _ (answered_is v b head.from (v.sendings head.from) (code_told (carried.Call user call)) (h.sendings head.from) h) (rests_is P S me l.boot makes l v b refl h)
  told_is_by v b head (carried.Refusal code) (Some p) h =
      either_vol P S me l.boot makes (is_awaited l.boot p head) _ _ (answered_is v b head.from (v.sendings head.from) (code_told (carried.Refusal code)) (h.sendings head.from) h) (rests_is P S me l.boot makes l v b refl h)
  told_is_by v b head (carried.Reply reply) (Some p) h =
      either_vol P S me l.boot makes (is_awaited l.boot p head) _ _ (answered_is v b head.from (v.sendings head.from) (code_told (carried.Reply reply)) (h.sendings head.from) h) (rests_is P S me l.boot makes l v b refl h)

  told_is : (v : VolState) (b : Backs) (head : Head) (c : Carried) → VolHas P S l v b → VolTurnIs P S l.boot (vol_told me l v b head c)
  told_is v b head c h = either_vol P S me l.boot makes (same_node head.to me) _ _ (told_is_by v b head c (v.calls head.from) h) (rests_is P S me l.boot makes l v b refl h)

  timed_is : (v : VolState) (b : Backs) (n : Node) (c : PieceCall) (xs : List Sending) → AllByRecursion S xs → VolHas P S l v b → VolTurnIs P S l.boot (vol_timed me l v b n c xs)
  timed_is v b n c [] all h = rests_is P S me l.boot makes l v b refl h
  timed_is v b n c (x ∷ xs) all h = either_vol P S me l.boot makes (is_sent_again c.tries) _ _
      (record { kept = h.kept; seats = h.seats; held = h.held; backs = h.backs; sendings = h.sendings; sent = (makes.spares _ refl, tt); boots = refl }) (ends_is v b _ n xs x given_up all h)

  turn_is : (v : VolState) (b : Backs) (d : VolDecision) → VolHas P S l v b → VolIs P P S me d → VolTurnIs P S l.boot (vol_turn me l v b d)
  turn_is v b vols.drops h d = rests_is P S me l.boot makes l v b refl h
  turn_is v b (vols.tells_boot head) h d =
      record { kept = h.kept; seats = h.seats; held = h.held; backs = h.backs; sendings = h.sendings; sent = (makes.spares _ refl, tt); boots = refl }
  turn_is v b (vols.repeats reply) h d = repeated_is P S me l.boot makes l v b reply (held_under (key_answered reply) v.held) (is_seat_of reply (call_seat reply.head.to l.kept)) refl h d
  turn_is v b (replies_to head reply ts last) h d =
      answers_is P S me l.boot makes l (vol_seated head reply (with_transactions ts last v)) b [] reply [] false refl
      (record { kept = h.kept; seats = seated_is P _ v.seats d h.seats; held = h.held; backs = h.backs; sendings = h.sendings }) d
  turn_is v b (dispatches head x) h d =
      next_is P S me l.boot makes (Server x.server) (vol_rests l (queued head x (in_progress head v)) b) (record {
        kept = h.kept;
        seats = started_is P (key_of head) v.seats h.seats;
        held = h.held;
        backs = h.backs;
        sendings = all_put (Server x.server) (AllByRecursion S) (v.sendings (Server x.server) ++ sending_of head x ∷ []) v.sendings (all_more S (v.sendings (Server x.server)) _ (h.sendings (Server x.server)) (d, tt)) h.sendings;
        sent = tt;
        boots = refl;
      })
  turn_is v b (vols.saves head x) h d =
      answers_is P S me l.boot makes (deed_done head x l) (vol_seated head x.reply (with_transactions x.transactions x.last v)) (record b { lists = withdraws_from x.withdraws b.lists }) _ x.reply _ false refl
      (record { kept = placed_is P _ l.kept d h.kept; seats = seated_is P _ v.seats d h.seats; held = h.held; backs = h.backs; sendings = h.sendings }) d

  turned_is_by : (v : VolState) (b : Backs) (d : VolDecision) (head : Head) (c : Carried) → VolHas P S l v b → VolIs P P S me d → VolTurnIs P S l.boot (vol_turned_by me l v b d head c)
  turned_is_by v b d head (carried.Call user call) h k = turn_is v b d h k
  turned_is_by v b d head (carried.Refusal code) h k = told_is v b head (carried.Refusal code) h
  turned_is_by v b d head (carried.Reply reply) h k = told_is v b head (carried.Reply reply) h
  turned_is_by v b d head carried.Notice h k = told_is v b head carried.Notice h

-- ---- a node

module _ (P : Message → Type 0) (S : Sending → Type 0) (me : Node) where
  released_parts : (v : VolState) (ls : List Line) (s : Step ServerState) → SeatsAre P v.seats → HeldAre P v.held → ((n : Node) → AllByRecursion S (v.sendings n)) → FileSends P s → NodeSends P S (released v ls s)
  released_parts v ls s seats held sendings h = record {
    has = record { file = h.has; seats = seats; held = all_filter (HeldIs P) (waits_for_breaks s.state.backs.lists.owed) v.held held; sendings = sendings };
    sent = all_more P s.sent _ h.sent (out_is P _ (all_filter (HeldIs P) (is_ready s.state.backs.lists.owed) v.held held));
  }

  vol_parts : (s : NodeState) (ls : List Line) (t : VolTurn) → Spares P → NodeIs P S s → VolTurnIs P S s.file.lasting.boot t → NodeSends P S (vol_stepped me s.file ls t)
  vol_parts s ls t spares h k =
      released_parts t.vol (ls ++ t.lines) _ k.seats k.held k.sendings
      (stepped_is P spares me (record s.file { lasting = t.lasting }) [] (record { backs = t.backs; lines = []; sent = t.sent; outs = [] }) h.file.seats k.kept (record { held = k.backs; sent = k.sent; outs = tt }))

  had : (s : NodeState) (clock : ℕ) → NodeIs P S s → VolHas P S s.file.lasting s.vol (expired clock s.file.backs)
  had s clock h = record { kept = h.file.kept; seats = h.seats; held = h.held; backs = h.file.held; sendings = h.sendings }

  -- what is decided on a message: by the file server for a client, and by the volume server for others
  abbrev pub Made : Bool → NodeState → ℕ → Message → Type 0
  Made true s clock m = FileMade P s.file.lasting.boot clock (node_file_decides me s clock (Whole m))
  Made false s clock m = VolMakes P S (vol_decides me (durable_of s.file.lasting) s.vol (Whole m))

  row_by : (b : Bool) (s : NodeState) (clock place : ℕ) (m : Message) → VolBase P S s.file.lasting.boot → NodeIs P S s → Made b s clock m
      → NodeSends P S (cond b (file_stepped s.vol (file_row me (holds_of s.vol.transactions) s.file clock place (Whole m))) (vol_row me s clock place (Whole m)))
  row_by true s clock place m makes h made = released_parts s.vol _ _ h.seats h.held h.sendings (file_parts P makes.spares me (holds_of s.vol.transactions) s.file clock place m h.file made)
  row_by false s clock place m makes h made =
      let l : Lasting = s.file.lasting in
      let b : Backs = expired clock s.file.backs in
      let d : VolDecision = vol_decides me (durable_of l) s.vol (Whole m) in
      vol_parts s (lines.Given place ∷ []) (vol_turned me l s.vol b d (Whole m)) makes.spares h (turned_is_by P S me l makes s.vol b d m.head m.carried (had s clock h) (decides_all P S me (durable_of l) s.vol m made h.seats))

  pub row_parts : (s : NodeState) (clock place : ℕ) (m : Message) → VolBase P S s.file.lasting.boot → NodeIs P S s → Made (is_client m.head.from) s clock m → NodeSends P S (node_row me s clock place (Whole m))
  unfolding node_row
  row_parts s clock place m makes h made = row_by (is_client m.head.from) s clock place m makes h made

  pub piece_parts : (s : NodeState) (clock : ℕ) (n : Node) (c : PieceCall) → VolBase P S s.file.lasting.boot → NodeIs P S s → NodeSends P S (piece_timeout_row me s clock n c)
  unfolding piece_timeout_row
  piece_parts s clock n c makes h =
      vol_parts s [] (vol_timed me s.file.lasting s.vol (expired clock s.file.backs) n c (s.vol.sendings n)) makes.spares h (timed_is P S me s.file.lasting makes s.vol (expired clock s.file.backs) n c (s.vol.sendings n) (h.sendings n) (had s clock h))

  pub back_parts : (s : NodeState) (clock : ℕ) (n : Node) (c : BackCall) → Spares P → NodeIs P S s → NodeSends P S (node_back_timeout_row me s clock n c)
  unfolding node_back_timeout_row
  back_parts s clock n c spares h = released_parts s.vol _ _ h.seats h.held h.sendings (late_parts P spares me s.file clock n c h.file)

  pub woken_parts : (s : NodeState) (clock : ℕ) → Spares P → NodeIs P S s → NodeSends P S (node_wake_row me s clock)
  unfolding node_wake_row
  woken_parts s clock spares h = released_parts s.vol _ _ h.seats h.held h.sendings (wake_parts P spares me s.file clock h.file)

  pub risen_parts : (clock count : ℕ) (f : Begun ServerState) → Spares P → SeatsAre P f.state.lasting.kept → NodeSends P S (node_start_row me clock count f)
  unfolding node_start_row
  risen_parts clock count f spares kept = let z = start_parts P spares me clock count f kept in record { has = record { file = z.has; seats = kept; held = tt; sendings = λ n. tt }; sent = z.sent }

  -- ---- a restart

  vol_begun_parts : (s : NodeState) (d : VolDecision) → VolIs P P S me d → FileIs P s.file → FileIs P (vol_begun_after me s.file d).state
  vol_begun_parts s vols.drops k f = f
  vol_begun_parts s (vols.tells_boot head) k f = f
  vol_begun_parts s (vols.repeats reply) k f = f
  vol_begun_parts s (replies_to head reply ts last) k f = f
  vol_begun_parts s (dispatches head x) k f = f
  vol_begun_parts s (vols.saves head x) k f = record { seats = f.seats; kept = placed_is P _ s.file.lasting.kept k f.kept; held = f.held }

  cut_by : (b : Bool) (s : NodeState) (clock : ℕ) (m : Message) → Spares P → NodeIs P S s → Made b s clock m
      → FileIs P (cond b (begun_after me s.file clock (node_file_decides me s clock (Whole m))) (vol_begun_after me s.file (vol_decides me (durable_of s.file.lasting) s.vol (Whole m)))).state
  cut_by true s clock m spares h made = begun_parts P spares me s.file clock (node_file_decides me s clock (Whole m)) h.file made
  cut_by false s clock m spares h made = vol_begun_parts s (vol_decides me (durable_of s.file.lasting) s.vol (Whole m)) (decides_all P S me (durable_of s.file.lasting) s.vol m made h.seats) h.file

  -- what was decided on the message of an interrupted step, where its record is found
  abbrev pub CutMade : NodeState → Bool → Fall → Type 0
  CutMade s false fall = ⊤
  CutMade s true at_rest = ⊤
  CutMade s true in_boot = ⊤
  CutMade s true (in_step m clock b) = Made (is_client m.head.from) s clock m

  with_file_is : (s : NodeState) (file : ServerState) → NodeIs P S s → FileIs P file → NodeIs P S (record s { file = file })
  with_file_is s file h k = record { file = k; seats = h.seats; held = h.held; sendings = h.sendings }

  pub begun_is : (s : NodeState) (after : Bool) (fall : Fall) → Spares P → NodeIs P S s → CutMade s after fall → NodeIs P S (begun_from (node_kind me) s after fall).state
  begun_is s false at_rest spares h made = h
  begun_is s true at_rest spares h made = h
  begun_is s false (in_step m clock b) spares h made = h
  begun_is s true (in_step m clock b) spares h made = with_file_is s _ h (cut_by (is_client m.head.from) s clock m spares h made)
  begun_is s false in_boot spares h made = h
  begun_is s true in_boot spares h made = with_file_is s _ h (record { seats = h.file.kept; kept = h.file.kept; held = h.file.held })
