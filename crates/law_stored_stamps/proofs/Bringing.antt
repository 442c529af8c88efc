-- A volume server that answers a call, and doesn't refuse it, has stored the call's stamp of the family by then, or a higher one.
use Rattle.std.proofs.Common.{◌≡◌, ◌≤◌, ◌<◌, ◌⊎◌, inl, inr, ℕ, Bool, true, false, cond, List, Option, Some, None, refl, sym, ap, subst, ◌∙◌, arith, eq-eqb}
use Rattle.std.proofs.lemmas.Bool.Decides.{nat_tests}
use Rattle.std.specs.Prelude.{⊤, nat_eq, nat_lt}
use Rattle.afs_num.specs.declared.messages.Call.TheVariants as ask
use Rattle.afs_num.specs.declared.messages.Carried.{Carried}
use Rattle.afs_num.specs.declared.messages.Carried.TheVariants as carried
use Rattle.afs_num.specs.declared.messages.Message.{Message}
use Rattle.afs_num.specs.declared.records.RecordBody.{RecordBody}
use Rattle.afs_num.specs.declared.records.RecordBody.TheVariants as bodies
use Rattle.afs_num.specs.declared.types.Head.{Head}
use Rattle.afs_num.specs.declared.volume_calls.VolCall.{VolCall}
use Rattle.spec_ideal.specs.Tables.{get, set, Table}
use Rattle.spec_ideal.proofs.Tables.{get_set}
use Rattle.spec_fold.specs.Deeds.{done_by}
use Rattle.spec_records.specs.Durable.{has_room, or_zero, stamp_of, with_stamp, Durable}
use Rattle.spec_rows.specs.ServerRow.{reply_head}
use Rattle.spec_volrows.specs.VolRow.{family_of, last_after, transactions_after, verdict, without_family, After, Plan, Verdict}
use Rattle.spec_volrows.specs.VolRow as verdicts
use Rattle.spec_volrows.specs.VolStates.{Transaction, VolState}
use Rattle.spec_volrows.specs.VolSteps.{deed_head, deed_record, dispatches, drops, judged, judged_by, not_written, or_stamp, raised_by, repeats, replies_to, same_by, same_written, saves, tells_boot, vol_refusal, vol_reply, written, Deed, VolDecision}

-- what is asked of a reply, and nothing of a refusal
abbrev pub IfAnswered : Type 0 → Carried → Type 0
IfAnswered A (carried.Reply reply) = A
IfAnswered A (carried.Refusal code) = ⊤
IfAnswered A (carried.Call user call) = ⊥
IfAnswered A carried.Notice = ⊥

-- The message is an answer to the call of this header. If it is no refusal, this holds.
pub record Answers (A : Type 0) (boot : ℕ) (head : Head) (m : Message) : Type 0 where
  pub to_it : m.head ≡ reply_head boot head
  pub well : IfAnswered A m.carried

-- The stamp of the family was no lower than the call's, or what is written is none.
abbrev pub IsHigh : ℕ → ℕ → ℕ → Type 0
IsHigh stamp before after = (stamp ≤ before) ⊎ (stamp ≤ after)

abbrev pub Brings : Durable → Head → ℕ → VolDecision → Type 0
Brings d head family (replies_to h reply ts last) = Answers (head.stamp ≤ stamp_of family d) d.boot head reply
Brings d head family (saves h x) = Answers (IsHigh head.stamp (stamp_of family d) (stamp_of family (with_stamp (deed_head h x) (done_by x.body d)))) d.boot head x.reply
Brings d head family drops = ⊤
Brings d head family (tells_boot h) = ⊤
Brings d head family (repeats reply) = ⊤
Brings d head family (dispatches h x) = ⊤

module _ (d : Durable) (head : Head) (family : ℕ) where
  refused_brings : (A : Type 0) (code : ℕ) → Answers A d.boot head (vol_refusal d.boot head code)
  refused_brings A code = record { to_it = refl; well = tt }

  full_brings : (ts : Table Transaction) (last : ℕ) (v : Verdict) → Brings d head family (not_written d.boot head ts last v)
  full_brings ts last (verdicts.refused code after) = refused_brings _ code
  full_brings ts last (verdicts.accepted p) = refused_brings _ _
  full_brings ts last (verdicts.sends x) = refused_brings _ _

  written_brings : (b : Bool) (x : Deed) (full : VolDecision) → Brings d head family (saves head x) → Brings d head family full → Brings d head family (cond b (saves head x) full)
  written_brings true x full h k = h
  written_brings false x full h k = k

  -- the stamp is raised to the call's
  raised_to : (x : Deed) → x.family ≡ family → x.stamp ≡ head.stamp → nat_eq head.stamp 0 ≡ false → head.stamp ≤ stamp_of family (with_stamp (deed_head head x) (done_by x.body d))
  raised_to x its is some =
      let e : Durable = done_by x.body d in
      let here : stamp_of family (with_stamp (deed_head head x) e) ≡ head.stamp = rw (its, is, some) (ap or_zero (get_set family family head.stamp e.stamps) ∙ rw (eq-eqb family family refl) refl) in
      grind (arith, here)

  raised_brings : (live : Table Transaction) (last : ℕ) (v : Verdict) (full : VolDecision) → nat_eq head.stamp 0 ≡ false → Brings d head family full → Brings d head family (raised_by d head family live last v full)
  raised_brings live last (verdicts.refused code after) full some h =
      written_brings (has_room d _) _ full (refused_brings _ code) h
  raised_brings live last (verdicts.accepted p) full some h =
      let x : Deed = record {
        reply = vol_reply d.boot head p.reply;
        body = or_stamp p.body;
        family = family;
        stamp = head.stamp;
        withdraws = p.withdraws;
        transactions = transactions_after last p.after live;
        last = last_after last p.after;
      } in
      written_brings (has_room d (deed_record head x)) x full (record { to_it = refl; well = inr (raised_to x refl refl some) }) h
  raised_brings live last (verdicts.sends x) full some h = tt

  -- it is the call's already
  same_brings_body : (ts : Table Transaction) (last : ℕ) (p : Plan) (o : Option RecordBody) → head.stamp ≡ stamp_of family d → Brings d head family (same_written d head ts last p o)
  same_brings_body ts last p None is = record { to_it = refl; well = grind (arith, is) }
  same_brings_body ts last p (Some body) is = written_brings (has_room d _) _ _ (record { to_it = refl; well = inl (grind (arith, is)) }) (full_brings ts last (verdicts.accepted p))

  same_brings : (ts : Table Transaction) (last : ℕ) (v : Verdict) → head.stamp ≡ stamp_of family d → Brings d head family (same_by d head ts last v)
  same_brings ts last (verdicts.refused code after) is = refused_brings _ code
  same_brings ts last (verdicts.accepted p) is = same_brings_body ts last p p.body is
  same_brings ts last (verdicts.sends x) is = tt

  cases : (a b : Bool) (x y z : VolDecision) → Brings d head family x → (b ≡ true → Brings d head family y) → (a ≡ false → b ≡ false → Brings d head family z) → Brings d head family (cond a x (cond b y z))
  cases true b x y z h k l = h
  cases false true x y z h k l = k refl
  cases false false x y z h k l = l refl refl

some_stamp : (a b : ℕ) → nat_lt a b ≡ true → nat_eq b 0 ≡ false
some_stamp a b e = grind (arith, nat_tests, e)

neither : (a b : ℕ) → nat_lt a b ≡ false → nat_lt b a ≡ false → a ≡ b
neither a b e f = grind (arith, nat_tests, e, f)

pub judged_brings : (d : Durable) (v : VolState) (head : Head) (call : VolCall) → Brings d head (family_of call) (judged d v head call)
judged_brings d v head call =
    let f : ℕ = family_of call in
    let live : Table Transaction = without_family f v.transactions in
    let full : VolDecision = not_written d.boot head v.transactions v.last_transaction (verdict d v.transactions v.last_transaction head.stamp call) in
    cases d head f (nat_lt head.stamp (stamp_of f d)) (nat_lt (stamp_of f d) head.stamp) _ _ _ (refused_brings d head f _ _)
    (λ above. raised_brings d head f live v.last_transaction (verdict d live v.last_transaction head.stamp call) full (some_stamp (stamp_of f d) head.stamp above) (full_brings d head f v.transactions v.last_transaction _))
    (λ e k. same_brings d head f v.transactions v.last_transaction _ (neither head.stamp (stamp_of f d) e k))
