-- What a volume server decides: on a call to it, by what it makes for that, or with a kept reply.
use Rattle.std.proofs.Common.{◌≡◌, ℕ, ℤ, Bool, true, false, cond, Option, Some, None, refl, nat_lt}
use Rattle.std.specs.Prelude.{⊤}
use Rattle.afs_num.specs.Nodes.{same_node}
use Rattle.afs_num.specs.declared.messages.Call.TheVariants as ask
use Rattle.afs_num.specs.declared.messages.Carried.{Carried}
use Rattle.afs_num.specs.declared.messages.Carried.TheVariants as carried
use Rattle.afs_num.specs.declared.messages.Message.{Message}
use Rattle.afs_num.specs.declared.messages.Received.TheVariants.{Whole}
use Rattle.afs_num.specs.declared.types.Head.{Head}
use Rattle.afs_num.specs.declared.types.Node.{Node}
use Rattle.afs_num.specs.declared.volume_calls.VolCall.{VolCall}
use Rattle.afs_num.specs.declared.volume_calls.VolReply.{VolReply}
use Rattle.afs_num.specs.declared.records.RecordBody.{RecordBody}
use Rattle.spec_ideal.specs.Tables.{Table}
use Rattle.spec_model.specs.Calls.{admitted, Admitted}
use Rattle.spec_model.specs.Calls as pairs
use Rattle.spec_records.specs.Durable.{has_room, stamp_of, Durable}
use Rattle.spec_rows.specs.ServerRow.{not_served, refusal}
use Rattle.spec_volrows.specs.VolRow.{accepted, family_of, refused, sends, verdict, without_family, Dispatch, Plan, Verdict}
use Rattle.spec_volrows.specs.VolStates.{Sending, Transaction, VolState}
use Rattle.spec_volrows.specs.VolSteps.{deed_record, dispatches, drops, is_vol_caller, judged_by, not_written, raised_by, repeats, replies_to, same_by, same_written, saves, sending_of, tells_boot, vol_admits, vol_carried, vol_decides, vol_hears, vol_reply, written, Deed, VolDecision}
use Rattle.law_walks.specs.Sends.{AdmittedIs, IsTo, SeatsAre, VolIs, VolMakes}
use Rattle.law_walks.proofs.Seats.{admitted_is, any_seats}

-- what it answers to this call is N
pub record MakesFor (N : Message → Type 0) (S : Sending → Type 0) (boot : ℕ) (head : Head) : Type 0 where
  pub reply : (r : VolReply) → N (vol_reply boot head r)
  pub refused : (code : ℤ) → N (refusal boot head code)
  pub sends_on : (x : Dispatch) → S (sending_of head x)

-- K is asked of what it kept
module _ (N K : Message → Type 0) (S : Sending → Type 0) (me : Node) where
  either : (b : Bool) (x y : VolDecision) → VolIs N K S me x → VolIs N K S me y → VolIs N K S me (cond b x y)
  either true x y h k = h
  either false x y h k = k

  module _ (d : Durable) (head : Head) (h : MakesFor N S d.boot head) where
    not_is : (ts : Table Transaction) (last : ℕ) (v : Verdict) → VolIs N K S me (not_written d.boot head ts last v)
    not_is ts last (refused code after) = h.refused _
    not_is ts last (accepted p) = h.refused _
    not_is ts last (sends x) = h.refused _

    written_is : (x : Deed) (full : VolDecision) → N x.reply → VolIs N K S me full → VolIs N K S me (written d head x full)
    written_is x full now later = either (has_room d (deed_record head x)) (saves head x) full now later

    plan_is : (ts : Table Transaction) (last : ℕ) (p : Plan) (o : Option RecordBody) → VolIs N K S me (same_written d head ts last p o)
    plan_is ts last p None = h.reply p.reply
    plan_is ts last p (Some body) = written_is _ _ (h.reply p.reply) (not_is ts last (accepted p))

    same_is : (ts : Table Transaction) (last : ℕ) (v : Verdict) → VolIs N K S me (same_by d head ts last v)
    same_is ts last (refused code after) = h.refused _
    same_is ts last (accepted p) = plan_is ts last p p.body
    same_is ts last (sends x) = h.sends_on x

    raised_is : (family : ℕ) (live : Table Transaction) (last : ℕ) (v : Verdict) (full : VolDecision) → VolIs N K S me full → VolIs N K S me (raised_by d head family live last v full)
    raised_is family live last (refused code after) full k = written_is _ full (h.refused _) k
    raised_is family live last (accepted p) full k = written_is _ full (h.reply p.reply) k
    raised_is family live last (sends x) full k = h.sends_on x

    pub judged_is : (family stored : ℕ) (ts : Table Transaction) (last : ℕ) (call : VolCall) → VolIs N K S me (judged_by d head family stored ts last call)
    judged_is family stored ts last call =
        either (nat_lt head.stamp stored) _ _ (h.refused _)
        (either (nat_lt stored head.stamp) _ _
        (raised_is family (without_family family ts) last (verdict d (without_family family ts) last head.stamp call) _ (not_is ts last (verdict d ts last head.stamp call)))
        (same_is ts last (verdict d ts last head.stamp call)))

    carried_is : (v : VolState) (c : Carried) → VolIs N K S me (vol_carried d v head c)
    carried_is v (carried.Call user (ask.Volume call)) = judged_is (family_of call) (stamp_of (family_of call) d) v.transactions v.last_transaction call
    carried_is v (carried.Call user (ask.File call)) = h.refused not_served
    carried_is v (carried.Call user (ask.Location call)) = h.refused not_served
    carried_is v (carried.Refusal code) = tt
    carried_is v (carried.Reply reply) = tt
    carried_is v carried.Notice = tt

    admits_is : (v : VolState) (c : Carried) (a : Admitted Message) → IsTo me head → AdmittedIs K a → VolIs N K S me (vol_admits d v head (Whole (record { head = head; carried = c })) a)
    admits_is v c pairs.runs to k = either (is_vol_caller head.from) _ _ (carried_is v c) (h.refused not_served)
    admits_is v c (pairs.kept reply) to k = k
    admits_is v c pairs.in_progress to k = tt
    admits_is v c pairs.older to k = tt
    admits_is v c (pairs.wrong_boot boot) to k = to

  called_is : (d : Durable) (v : VolState) (head : Head) (c : Carried) (b : Bool) → same_node head.to me ≡ b → (IsTo me head → MakesFor N S d.boot head) → AdmittedIs K (admitted d.boot v.seats head) →
      VolIs N K S me (cond b (vol_admits d v head (Whole (record { head = head; carried = c })) (admitted d.boot v.seats head)) drops)
  called_is d v head c true to h k = admits_is d head (h to) v c (admitted d.boot v.seats head) to k
  called_is d v head c false to h k = tt

  hears_is : (d : Durable) (v : VolState) (head : Head) (c : Carried) → (IsTo me head → MakesFor N S d.boot head) → SeatsAre K v.seats → VolIs N K S me (vol_hears me d v head c)
  hears_is d v head (carried.Call user call) h k = called_is d v head (carried.Call user call) (same_node head.to me) refl h (admitted_is K d.boot v.seats head k)
  hears_is d v head (carried.Refusal code) h k = tt
  hears_is d v head (carried.Reply reply) h k = tt
  hears_is d v head carried.Notice h k = tt

  pub decides_is : (d : Durable) (v : VolState) (m : Message) → (IsTo me m.head → MakesFor N S d.boot m.head) → SeatsAre K v.seats → VolIs N K S me (vol_decides me d v (Whole m))
  decides_is d v m h k = hears_is d v m.head m.carried h k

-- ---- with what it makes at this step

makes_of : (N K : Message → Type 0) (S : Sending → Type 0) (me : Node) (d : VolDecision) → VolIs N K S me d → VolMakes N S d
makes_of N K S me drops h = tt
makes_of N K S me (tells_boot head) h = tt
makes_of N K S me (repeats reply) h = tt
makes_of N K S me (replies_to head reply ts last) h = h
makes_of N K S me (dispatches head x) h = h
makes_of N K S me (saves head x) h = h

-- what it makes for a call, where that is so whatever it answers
pub makes_any : (P : Message → Type 0) (S : Sending → Type 0) (me : Node) (d : Durable) (v : VolState) (m : Message) → (IsTo me m.head → MakesFor P S d.boot m.head) → VolMakes P S (vol_decides me d v (Whole m))
makes_any P S me d v m h = makes_of P (λ (k : Message). ⊤) S me (vol_decides me d v (Whole m)) (decides_is P (λ (k : Message). ⊤) S me d v m h (any_seats v.seats))

whole_of : (N P : Message → Type 0) (S T : Sending → Type 0) (me : Node) (d : VolDecision) → VolMakes P S d → VolIs N P T me d → VolIs P P S me d
whole_of N P S T me drops h k = tt
whole_of N P S T me (tells_boot head) h k = k
whole_of N P S T me (repeats reply) h k = k
whole_of N P S T me (replies_to head reply ts last) h k = h
whole_of N P S T me (dispatches head x) h k = h
whole_of N P S T me (saves head x) h k = h

-- so that all it answers is P
pub decides_all : (P : Message → Type 0) (S : Sending → Type 0) (me : Node) (d : Durable) (v : VolState) (m : Message) → VolMakes P S (vol_decides me d v (Whole m)) → SeatsAre P v.seats → VolIs P P S me (vol_decides me d v (Whole m))
decides_all P S me d v m h k =
    whole_of (λ (x : Message). ⊤) P S (λ (x : Sending). ⊤) me (vol_decides me d v (Whole m)) h
    (decides_is (λ (x : Message). ⊤) P (λ (x : Sending). ⊤) me d v m (λ to. record { reply = λ r. tt; refused = λ code. tt; sends_on = λ x. tt }) k)
