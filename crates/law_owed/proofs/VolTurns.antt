-- What a volume server's step makes of the breaks and the calls of the file server beside it: it withdraws promises, and draws numbers.
use Rattle.std.proofs.Common.{◌≡◌, ℕ, ℤ, ◌+◌, Bool, true, false, cond, List, [], ◌∷◌, Option, Some, None, refl, arith}
use Rattle.std.specs.Prelude.{⊤, ◌&&◌, ◌||◌, not}
use Rattle.std.proofs.Math.Nat.{le_trans}
use Rattle.afs_num.specs.Nodes.{same_node}
use Rattle.afs_num.specs.declared.messages.Carried.{Carried}
use Rattle.afs_num.specs.declared.messages.Carried.TheVariants as carried
use Rattle.afs_num.specs.declared.messages.Message.{Message}
use Rattle.afs_num.specs.declared.types.Head.{Head}
use Rattle.afs_num.specs.declared.types.Node.{Node}
use Rattle.afs_num.specs.declared.types.Node.TheVariants.{Server}
use Rattle.spec_history.specs.declared.lines.Line.{Line}
use Rattle.spec_breaks.specs.declared.types.OwedBreak.{OwedBreak}
use Rattle.spec_ideal.specs.Operations.{is_number}
use Rattle.law_legal.proofs.BaseLaws.{a_key}
use Rattle.law_legal.proofs.OwedFacts.{all_both, AllOf, IsOwed}
use Rattle.law_legal.specs.Past.{lines_of}
use Rattle.spec_model.specs.Calls.{call_seat, finished, is_sent_again, key_of}
use Rattle.spec_rows.specs.Callbacks.{alls, breaks_call, held_under, is_ready, is_seat_of, key_answered, put_at}
use Rattle.spec_rows.specs.Runs.{Entry}
use Rattle.spec_rows.specs.ServerRow.{boot_told}
use Rattle.spec_rows.specs.States.{Backs, Held, Lasting}
use Rattle.spec_volrows.specs.VolStates.{PieceCall, Sending, VolState}
use Rattle.spec_volrows.specs.VolSteps as vols
use Rattle.spec_volrows.specs.VolSteps.{answered_by, code_told, deed_done, dispatches, ends_sending, forward_reply, given_up, sending_goes_on, in_progress, is_awaited, piece_gone, piece_message, next_by, next_piece, owes_of, queued, replies_to, sent_whole, vol_answers, vol_renews, vol_repeats, vol_rests, vol_seated, vol_timed, vol_told, vol_told_by, vol_turn, vol_turned_by, with_transactions, withdraws_from, VolDecision, VolTurn}
use Rattle.law_walks.specs.Sends.{HeldAre, HeldIs, SeatsAre, VolIs}
use Rattle.law_walks.proofs.Seats.{all_more, finished_is, placed_is, seated_is, started_is}
use Rattle.law_owed.proofs.Owing.{known_more, no_call_known, no_call_this, out_more, Alone, CarriesThis, IsKnown, IsNoCall}
use Rattle.law_owed.proofs.FileTurns.{Base}

-- what it begins with
pub record VolBase (me : Node) (last : ℕ) (es : List Entry) (l : Lasting) (v : VolState) (b : Backs) : Type 0 where
  pub base : Base me l.boot last es b
  pub kept : SeatsAre IsNoCall l.kept
  pub seats : SeatsAre IsNoCall v.seats
  pub waiting : HeldAre IsNoCall v.held

pub record GoodVol (me : Node) (boot last : ℕ) (es : List Entry) (t : VolTurn) : Type 0 where
  pub base : Base me boot last es t.backs
  pub known : AllOf (IsKnown me None t.backs.last_call boot) t.sent
  pub kept : SeatsAre IsNoCall t.lasting.kept
  pub seats : SeatsAre IsNoCall t.vol.seats
  pub waiting : HeldAre IsNoCall t.vol.held
  pub boots : t.lasting.boot ≡ boot
  pub alone : Alone me boot t.backs t.sent

forward_by : (boot : ℕ) (head : Head) (b : Bool) (x y : Message) → IsNoCall x → IsNoCall y → IsNoCall (cond b x y)
forward_by boot head true x y h k = h
forward_by boot head false x y h k = k

forward_no_call : (boot : ℕ) (head : Head) (code : ℤ) → IsNoCall (forward_reply boot head code)
forward_no_call boot head code = forward_by boot head (is_number code 0) _ _ refl refl

module _ (me : Node) (boot last : ℕ) (es : List Entry) where
  next_good : (n : Node) (t : VolTurn) (xs : List Sending) (c : Option PieceCall) → GoodVol me boot last es t → GoodVol me boot last es (next_by me boot n t xs c)
  next_good n t [] c h = h
  next_good n t (x ∷ xs) (Some c) h = h
  next_good n t (x ∷ xs) None h = record {
    base = record {
      owes = record { owing = h.base.owes.owing; outs = λ j c at. out_more me j c t.backs.last_call (t.backs.last_call + 1) boot es (omega arith) (h.base.owes.outs j c at) };
      rises = le_trans h.base.rises (omega arith);
      held = h.base.held;
      earlier = h.base.earlier;
    };
    known = all_both (IsKnown me None (t.backs.last_call + 1) boot) t.sent _ (known_more me t.backs.last_call (t.backs.last_call + 1) boot t.sent (omega arith) h.known) (tt, tt);
    kept = h.kept;
    seats = h.seats;
    waiting = h.waiting;
    boots = h.boots;
    alone = λ j k at. all_both (CarriesThis j (a_key me boot k.number) (breaks_call k.content)) t.sent _ (h.alone j k at) (no_call_this j _ _ (piece_message me boot n (t.vol.known n) (t.backs.last_call + 1) x) refl, tt);
  }

  next_one : (n : Node) (t : VolTurn) → GoodVol me boot last es t → GoodVol me boot last es (next_piece me boot n t)
  next_one n t h = next_good n t (t.vol.sendings n) (t.vol.calls n) h

  either_vol : (b : Bool) (x y : VolTurn) → GoodVol me boot last es x → GoodVol me boot last es y → GoodVol me boot last es (cond b x y)
  either_vol true x y h k = h
  either_vol false x y h k = k

  answers_good : (l : Lasting) (v : VolState) (b : Backs) (ls : List Line) (reply : Message) (waits : List ℕ) (again : Bool) → l.boot ≡ boot → Base me boot last es b → SeatsAre IsNoCall l.kept → SeatsAre IsNoCall v.seats → HeldAre IsNoCall v.held → IsNoCall reply
      → GoodVol me boot last es (vol_answers l v b ls reply waits again)
  answers_good l v b ls reply [] again same base kept seats waiting r = record { base = base; known = (no_call_known me None b.last_call boot reply r, tt); kept = kept; seats = seats; waiting = waiting; boots = same; alone = λ j k at. (no_call_this j _ _ reply r, tt) }
  answers_good l v b ls reply (k ∷ ks) again same base kept seats waiting r = record { base = base; known = tt; kept = kept; seats = seats; waiting = all_more (HeldIs IsNoCall) v.held _ waiting (r, tt); boots = same; alone = λ j k at. tt }

module _ (me : Node) (last : ℕ) (es : List Entry) (l : Lasting) (v : VolState) (b : Backs) (h : VolBase me last es l v b) where
  rests : GoodVol me l.boot last es (vol_rests l v b)
  rests = record { base = h.base; known = tt; kept = h.kept; seats = h.seats; waiting = h.waiting; boots = refl; alone = λ j k at. tt }

  repeated : (reply : Message) (o : Option Held) (good : Bool) → IsNoCall reply → GoodVol me l.boot last es (vol_repeats l v b reply o good)
  repeated reply (Some w) good r = either_vol me l.boot last es (w.again && is_ready b.lists.owed w) _ _ (answers_good me l.boot last es l v b [] reply [] true refl h.base h.kept h.seats h.waiting r) rests
  repeated reply None true r = answers_good me l.boot last es l v b [] reply (alls b.lists.owed) true refl h.base h.kept h.seats h.waiting r
  repeated reply None false r = answers_good me l.boot last es l v b [] reply [] true refl h.base h.kept h.seats h.waiting r

  ends_good : (ls : List Line) (n : Node) (xs : List Sending) (x : Sending) (code : ℤ) → GoodVol me l.boot last es (ends_sending me l v b ls n xs x code)
  ends_good ls n xs x code = next_one me l.boot last es n (record {
    lasting = l;
    vol = record v { sendings = put_at n xs v.sendings; calls = put_at n None v.calls; seats = finished (key_of x.head) (forward_reply l.boot x.head code) v.seats };
    backs = b;
    lines = ls;
    sent = forward_reply l.boot x.head code ∷ [];
  }) (record {
    base = h.base;
    known = (no_call_known me None b.last_call l.boot (forward_reply l.boot x.head code) (forward_no_call l.boot x.head code), tt);
    kept = h.kept;
    seats = finished_is IsNoCall (key_of x.head) (forward_reply l.boot x.head code) v.seats (forward_no_call l.boot x.head code) h.seats;
    waiting = h.waiting;
    boots = refl;
    alone = λ j k at. (no_call_this j _ _ (forward_reply l.boot x.head code) (forward_no_call l.boot x.head code), tt);
  })

  goes_good : (n : Node) (xs : List Sending) (x : Sending) → GoodVol me l.boot last es (sending_goes_on me l v b n xs x)
  goes_good n xs x =
      next_one me l.boot last es n (vol_rests l (record v { sendings = put_at n (piece_gone x ∷ xs) v.sendings; calls = put_at n None v.calls }) b) (record { base = h.base; known = tt; kept = h.kept; seats = h.seats; waiting = h.waiting; boots = refl; alone = λ j k at. tt })

  answered_good : (n : Node) (xs : List Sending) (code : ℤ) → GoodVol me l.boot last es (answered_by me l v b n xs code)
  answered_good n [] code = rests
  answered_good n (x ∷ xs) code = either_vol me l.boot last es (not (is_number code 0) || sent_whole x) _ _ (ends_good [] n xs x code) (goes_good n xs x)

  renews_good : (n : Node) (known : ℕ) (c : PieceCall) (xs : List Sending) → GoodVol me l.boot last es (vol_renews me l v b n known c xs)
  renews_good n known c [] = rests
  renews_good n known c (x ∷ xs) = record { base = h.base; known = (tt, tt); kept = h.kept; seats = h.seats; waiting = h.waiting; boots = refl; alone = λ j k at. (no_call_this j _ _ (piece_message me l.boot n known c.number x) refl, tt) }

  told_by_good : (head : Head) (c : Carried) (o : Option PieceCall) → GoodVol me l.boot last es (vol_told_by me l v b head c o)
  told_by_good head c None = rests
  told_by_good head carried.Notice (Some p) = either_vol me l.boot last es (is_awaited l.boot p head) _ _ (renews_good head.from head.boot p (v.sendings head.from)) rests
  told_by_good head (carried.Call user call) (Some p) = either_vol me l.boot last es (is_awaited l.boot p head) _ _ (answered_good head.from (v.sendings head.from) (code_told (carried.Call user call))) rests
  told_by_good head (carried.Refusal code) (Some p) = either_vol me l.boot last es (is_awaited l.boot p head) _ _ (answered_good head.from (v.sendings head.from) (code_told (carried.Refusal code))) rests
  told_by_good head (carried.Reply reply) (Some p) = either_vol me l.boot last es (is_awaited l.boot p head) _ _ (answered_good head.from (v.sendings head.from) (code_told (carried.Reply reply))) rests

  told_good : (head : Head) (c : Carried) → GoodVol me l.boot last es (vol_told me l v b head c)
  told_good head c = either_vol me l.boot last es (same_node head.to me) _ _ (told_by_good head c (v.calls head.from)) rests

  pub timed_good : (n : Node) (c : PieceCall) (xs : List Sending) → GoodVol me l.boot last es (vol_timed me l v b n c xs)
  timed_good n c [] = rests
  timed_good n c (x ∷ xs) = either_vol me l.boot last es (is_sent_again c.tries) _ _ (record { base = h.base; known = (tt, tt); kept = h.kept; seats = h.seats; waiting = h.waiting; boots = refl; alone = λ j k at. (no_call_this j _ _ (piece_message me l.boot n (v.known n) c.number x) refl, tt) }) (ends_good _ n xs x given_up)

  -- promises that are withdrawn are owed breaks
  withdrawn_base : (o : Option ℕ) → AllOf (λ (x : OwedBreak). IsOwed me x.client (lines_of es) x) (owes_of o b.lists) → Base me l.boot last es (record b { lists = withdraws_from o b.lists })
  withdrawn_base None new = h.base
  withdrawn_base (Some id) new = record { owes = record { owing = all_both (λ (x : OwedBreak). IsOwed me x.client (lines_of es) x) b.lists.owed (owes_of (Some id) b.lists) h.base.owes.owing new; outs = h.base.owes.outs }; rises = h.base.rises; held = h.base.held; earlier = h.base.earlier }

  -- what is saved tells what it owes
  abbrev pub OwesAreTold : VolDecision → Type 0
  OwesAreTold (vols.saves head x) = AllOf (λ (o : OwedBreak). IsOwed me o.client (lines_of es) o) (owes_of x.withdraws b.lists)
  OwesAreTold d = ⊤

  turn_good : (d : VolDecision) → VolIs IsNoCall IsNoCall (λ (x : Sending). ⊤) me d → OwesAreTold d → GoodVol me l.boot last es (vol_turn me l v b d)
  turn_good vols.drops k is = rests
  turn_good (vols.tells_boot head) k is = record { base = h.base; known = (tt, tt); kept = h.kept; seats = h.seats; waiting = h.waiting; boots = refl; alone = λ j k at. (no_call_this j _ _ (boot_told l.boot head) refl, tt) }
  turn_good (vols.repeats reply) k is = repeated reply (held_under (key_answered reply) v.held) (is_seat_of reply (call_seat reply.head.to l.kept)) k
  turn_good (replies_to head reply ts last') k is =
      answers_good me l.boot last es l (vol_seated head reply (with_transactions ts last' v)) b [] reply [] false refl h.base h.kept (seated_is IsNoCall _ v.seats k h.seats) h.waiting k
  turn_good (dispatches head x) k is =
      next_one me l.boot last es (Server x.server) (vol_rests l (queued head x (in_progress head v)) b) (record { base = h.base; known = tt; kept = h.kept; seats = started_is IsNoCall (key_of head) v.seats h.seats; waiting = h.waiting; boots = refl; alone = λ j k at. tt })
  turn_good (vols.saves head x) k is =
      answers_good me l.boot last es (deed_done head x l) (vol_seated head x.reply (with_transactions x.transactions x.last v)) (record b { lists = withdraws_from x.withdraws b.lists }) _ x.reply _ false refl (withdrawn_base x.withdraws is)
      (placed_is IsNoCall _ l.kept k h.kept) (seated_is IsNoCall _ v.seats k h.seats) h.waiting k

  pub turned_good : (d : VolDecision) (head : Head) (c : Carried) → VolIs IsNoCall IsNoCall (λ (x : Sending). ⊤) me d → OwesAreTold d → GoodVol me l.boot last es (vol_turned_by me l v b d head c)
  turned_good d head (carried.Call user call) k is = turn_good d k is
  turned_good d head (carried.Refusal code) k is = told_good head (carried.Refusal code)
  turned_good d head (carried.Reply reply) k is = told_good head (carried.Reply reply)
  turned_good d head carried.Notice k is = told_good head carried.Notice
