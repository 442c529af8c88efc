-- A reply that a node keeps for a caller is its own, to that caller, under the pair of the caller's last call.
use Rattle.spec_rows.specs.Steps.{Begun}
use Rattle.spec_history.specs.declared.lines.Line.{Line}
use Rattle.spec_history.specs.declared.scripts.Script.{Script}
use Rattle.law_legal.proofs.BaseLaws.{LastSeat, a_key, at_put, at_seat, kept_last, same_node-true, some_of}
use Rattle.law_legal.proofs.ServerRefusesForGood.{IfFirm, IsFirm, IsSentBy, hears_firm}
use Rattle.law_legal.proofs.ServerDiskKeeps.{at_placed}
use Rattle.law_legal.specs.Ideal.{set_up_entry}
use Rattle.law_legal.specs.Laws.{seat_key}
use Rattle.law_legal.specs.Legal.{GoodGift, HasOwnHalf}
use Rattle.law_legal.specs.Once.{past_of}
use Rattle.law_legal.specs.Past.{HasCode, IsCall, IsReply, Ran, answered_key}
use Rattle.spec_model.specs.Calls as pairs
use Rattle.spec_model.specs.Calls.{Admitted, admitted, call_seat, call_seated, paired}
use Rattle.afs_num.specs.Nodes.{same_node}
use Rattle.afs_num.specs.declared.calls.FsCall.{FsCall}
use Rattle.afs_num.specs.declared.calls.FsReply.{FsReply}
use Rattle.afs_num.specs.declared.messages.Call.TheVariants as ask
use Rattle.afs_num.specs.declared.messages.Carried.{Carried}
use Rattle.afs_num.specs.declared.messages.Carried.TheVariants as carried
use Rattle.afs_num.specs.declared.messages.Message.{Message}
use Rattle.afs_num.specs.declared.messages.Received.{Received}
use Rattle.afs_num.specs.declared.messages.Received.TheVariants.{Whole}
use Rattle.afs_num.specs.declared.types.Head.{Head}
use Rattle.afs_num.specs.declared.types.Node.{Node}
use Rattle.afs_num.specs.declared.types.Node.TheVariants.{Client, Server}
use Rattle.spec_rows.specs.Callbacks.{put}
use Rattle.spec_rows.specs.Runs.{Cell, Entry, Fall, RunsTo, at_rest, begun_by_disk, in_boot, in_step, start, ServerHost}
use Rattle.spec_rows.specs.ServerRow.{Change, Decision, admits, begun_after, carried_by, decides, does, drops, hears, is_client, not_served, promise_ticks, refuses, repeats, replied, reply_head, runs_received, saves, seat_for, seat_placed, serves_call, shows, tells_boot, whole}
use Rattle.spec_rows.specs.ServerSteps.{back_timeout_row, server_row, start_row, wake_row}
use Rattle.spec_rows.specs.States.{BackCall, Seat, ServerState}
use Rattle.std.proofs.Common.{◌≡◌, ℕ, ◌+◌, Bool, true, false, cond, List, [], ◌∷◌, Option, Some, None, refl, sym, ap, subst, nat_eq, ◌∙◌}
use Rattle.std.specs.Prelude.{⊤}

-- ---- the seats

pub record IsReplyOf (me n : Node) (seat : Seat) (m : Message) : Type 0 where
  pub from : m.head.from ≡ me
  pub to : m.head.to ≡ n
  pub epoch : m.head.epoch ≡ seat.epoch
  pub number : m.head.number ≡ seat.number
  pub reply : IsReply m
  pub firm : IsFirm m.head m.carried

abbrev pub AreSeated : Node → List Seat → Type 0
AreSeated me seats = (n : Node) (seat : Seat) (m : Message) → call_seat n seats ≡ Some seat → seat.reply ≡ Some m → IsReplyOf me n seat m

-- of a seat that is taken
abbrev IsSeat : Node → Node → Option Seat → Type 0
IsSeat me n o = (seat : Seat) (m : Message) → o ≡ Some seat → seat.reply ≡ Some m → IsReplyOf me n seat m

own_reply : (me : Node) (boot : ℕ) (head : Head) (c : Carried) (n : Node) → head.to ≡ me → HasCode c → IsFirm (reply_head boot head) c → head.from ≡ n → IsSeat me n (Some (seat_for head (replied boot head c)))
own_reply me boot head c n to code firm from seat m e r =
    let same : seat_for head (replied boot head c) ≡ seat = some_of (seat_for head (replied boot head c)) seat e in
    let is : replied boot head c ≡ m = some_of (replied boot head c) m (ap (λ (s : Seat). s.reply) same ∙ r) in
    subst (IsReplyOf me n seat) is (subst (λ (s : Seat). IsReplyOf me n s (replied boot head c)) same (record { from = to; to = from; epoch = refl; number = refl; reply = (refl, code); firm = firm }))

pub seated : (me : Node) (boot : ℕ) (head : Head) (c : Carried) (seats : List Seat) → head.to ≡ me → HasCode c → IsFirm (reply_head boot head) c → AreSeated me seats → AreSeated me (call_seated (seat_for head (replied boot head c)) seats)
seated me boot head c seats to code firm h n = at_seat (seat_for head (replied boot head c)) n seats (IsSeat me n) (λ own. own_reply me boot head c n to code firm own) (λ other. h n)

pub placed : (me : Node) (boot : ℕ) (head : Head) (c : Carried) (seats : List Seat) → head.to ≡ me → HasCode c → IsFirm (reply_head boot head) c → AreSeated me seats → AreSeated me (seat_placed (seat_for head (replied boot head c)) seats)
placed me boot head c seats to code firm h n = at_placed (seat_for head (replied boot head c)) n seats (IsSeat me n) (λ own. own_reply me boot head c n to code firm own) (λ other. h n)

both_not : (c : Carried) → HasCode c → IsCall c → ⊥
both_not (carried.Call user call) h k = absurd h
both_not (carried.Refusal code) h k = absurd k
both_not (carried.Reply reply) h k = absurd k
both_not carried.Notice h k = absurd h

pub code_half : (m : Message) → HasCode m.carried → HasOwnHalf m
code_half m h call = absurd (both_not m.carried h call)

pub code_gift : (head : Head) (c : Carried) (ls : List Line) → HasCode c → GoodGift head c ls
code_gift head (carried.Call user call) ls h = absurd h
code_gift head (carried.Refusal code) ls h = tt
code_gift head (carried.Reply reply) ls h = tt
code_gift head carried.Notice ls h = absurd h

-- a reply that is repeated is one of them
kept_sent : (me n : Node) (seat : Seat) (m : Message) → IsReplyOf me n seat m → IsSentBy me m
kept_sent me n seat m r = record { from = r.from; half = code_half m r.reply.1; firm = r.firm; gift = λ z ls. code_gift m.head m.carried ls r.reply.1 }

kept_by : (t : Bool) (me : Node) (boot : ℕ) (seats : List Seat) (head : Head) (m : Message) → AreSeated me seats → cond t (paired head.epoch head.number (call_seat head.from seats)) (pairs.wrong_boot boot) ≡ pairs.kept m → IsSentBy me m
kept_by true me boot seats head m h e = let l : LastSeat head.epoch head.number (call_seat head.from seats) m = kept_last head.epoch head.number (call_seat head.from seats) m e in kept_sent me head.from l.seat m (h head.from l.seat m l.at l.reply)
kept_by false me boot seats head m h e = absurd cc

pub kept_from : (me : Node) (boot : ℕ) (seats : List Seat) (head : Head) (m : Message) → AreSeated me seats → admitted boot seats head ≡ pairs.kept m → IsSentBy me m
kept_from me boot seats head m h e = kept_by (nat_eq head.boot boot) me boot seats head m h e
