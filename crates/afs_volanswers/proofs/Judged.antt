-- What is decided in code by a verdict is what the row decides, and it can be done.
use Rattle.std.proofs.Common.{◌≡◌, ℕ, Option, Some, None, refl, sym, subst, ◌∙◌}
use Rattle.std.specs.Prelude.{IfOk, Result}
use Rattle.std.proofs.lemmas.Result.{IfOk-weaker}
use Rattle.afs_num.specs.declared.records.RecordBody.{RecordBody}
use Rattle.afs_num.specs.declared.records.RecordBody.TheVariants as bodies
use Rattle.afs_num.specs.declared.volume_calls.VolCall.{VolCall}
use Rattle.spec_ideal.specs.Tables.{Table}
use Rattle.spec_records.specs.Durable.{Durable, Kept}
use Rattle.afs_volume.specs.declared.volume.Volume.{Volume}
use Rattle.spec_volrows.specs.VolLaws.{AreApart}
use Rattle.spec_volrows.specs.VolRow as row
use Rattle.spec_volrows.specs.VolRow.{last_after, transactions_after, without_family}
use Rattle.spec_volrows.specs.VolStates.{Transaction, VolState}
use Rattle.spec_volrows.specs.VolSteps.{or_stamp}
use Rattle.spec_volrows.proofs.VolApart.{after_body, full_none, none_apart, or_stamp_is, rest_apart, verdict_apart, Apart, None_begun}
use Rattle.spec_volrows.proofs.VolKeeping.{stamp_taken, verdict_taken, BodyTaken, Taken}
use Rattle.afs_voldecisions.specs.Numbering.{Numbered}
use Rattle.afs_voldecisions.specs.Replies.{CanAnswer}
use Rattle.afs_voldecisions.specs.Verdicts.{after_of, verdict_of, CanTell, HasForm}
use Rattle.afs_voldecisions.specs.declared.replies.Answer.{Answer}
use Rattle.afs_voldecisions.specs.declared.replies.Answer.TheVariants as answers
use Rattle.afs_voldecisions.specs.declared.transactions.After.{After}
use Rattle.afs_voldecisions.specs.declared.verdicts.Plan.{Plan}
use Rattle.afs_voldecisions.specs.declared.verdicts.Verdict.{Verdict}
use Rattle.afs_voldecisions.specs.declared.verdicts.Verdict.TheVariants as verdicts
use Rattle.afs_volanswers.specs.Deciding.{raised_decided, same_decided, same_planned, CanBecome, CanBeDone, IsCoded, IsFullAnswer, IsMadeIfWritten, IsMadeInVerdict, IsMadeThere}
use Rattle.afs_volanswers.specs.Flagged.{AreFlagged}
use Rattle.afs_volanswers.specs.declared.decided.Decided.{Decided}
use Rattle.afs_volanswers.proofs.Plain.{few_after, few_rest, flagged_after, same_verdict, verdict_plain, HasFlag, IsPlain}

pub equal_ok : {E : Type 0} (P : Decided → Type 0) (r : Result Decided E) (z : Decided) → IfOk r (λ y. y ≡ z) → P z → IfOk r P
equal_ok P r z h p = IfOk-weaker r (λ y. y ≡ z) P (λ y e. subst P (sym e) p) h

-- ---- what is known of the row's verdict over these transactions

pub record IsRight (d : Durable) (ts : Table Transaction) (last : ℕ) (r : row.Verdict) : Type 0 where
  pub taken : Taken d r
  pub apart : Apart d ts last r
  pub plain : IsPlain r

pub verdict_right : (d : Durable) (ts : Table Transaction) (last stamp : ℕ) (call : VolCall) → AreApart d.volumes last ts → IsRight d ts last (row.verdict d ts last stamp call)
verdict_right d ts last stamp call apart = record { taken = verdict_taken d ts last stamp call; apart = verdict_apart d ts last stamp call apart; plain = verdict_plain d ts last stamp call }

pub coded : (x : Verdict) → IsPlain (verdict_of x) → IsCoded x
coded (verdicts.Refused code after) low = low
coded (verdicts.Accepted p) h = tt
coded (verdicts.Sends x) h = tt

-- and so of the code's, which was judged over the disk with other kept replies
pub known : (kept : Table Kept) (d : Durable) (ts : Table Transaction) (last stamp : ℕ) (call : VolCall) (x : Verdict) → verdict_of x ≡ row.verdict (record d { kept = kept }) ts last stamp call → AreApart d.volumes last ts →
    IsRight d ts last (verdict_of x)
known kept d ts last stamp call x is apart = subst (IsRight d ts last) (sym (is ∙ same_verdict kept d ts last stamp call)) (verdict_right d ts last stamp call apart)

none_flag : (after : row.After) → None_begun after → HasFlag after
unfolding None_begun
none_flag row.stay n = tt
none_flag (row.begins id family flags stamp) n = absurd n
none_flag (row.ends number) n = tt
none_flag (row.gives number bytes) n = tt

becomes : (d : Durable) (ts : Table Transaction) (last : ℕ) (after : row.After) → None_begun after → AreApart d.volumes last ts → AreFlagged ts → CanBecome d last after ts
becomes d ts last after n apart flagged = record { apart = none_apart d.volumes last after ts n apart; flagged = flagged_after last after ts (none_flag after n) flagged }

abbrev pub numbered : VolState → Numbered
numbered v = record { table = v.transactions; last = v.last_transaction }

-- ---- under the stored stamp

planned_can : (d : Durable) (v : VolState) (opcode : ℕ) (p : Plan) (o : Option RecordBody) → CanAnswer opcode (answers.Told p.reply) → HasForm o → IsMadeIfWritten d o p.made → BodyTaken d p.withdraws o → HasFlag (after_of p.after) →
    AreApart (after_body o d).volumes (last_after v.last_transaction (after_of p.after)) (transactions_after v.last_transaction (after_of p.after) v.transactions) → AreFlagged v.transactions → CanBeDone d v opcode (same_planned (numbered v) p o)
unfolding BodyTaken after_body
planned_can d v opcode p None told form made taken flag apart flagged =
    (told, record { apart = apart; flagged = flagged_after v.last_transaction (after_of p.after) v.transactions flag flagged })
planned_can d v opcode p (Some body) told form made taken flag apart flagged = record {
  answer = told;
  form = form;
  taken = taken.0;
  made = made;
  apart = apart;
  flagged = flagged_after v.last_transaction (after_of p.after) v.transactions flag flagged;
  few = few_after v.last_transaction (after_of p.after) v.transactions;
}

pub same_can : (d : Durable) (v : VolState) (opcode : ℕ) (x : Verdict) → IsRight d v.transactions v.last_transaction (verdict_of x) → CanTell opcode x → IsMadeInVerdict d x → AreApart d.volumes v.last_transaction v.transactions → AreFlagged v.transactions →
    CanBeDone d v opcode (same_decided (numbered v) x)
unfolding Apart Taken
same_can d v opcode (verdicts.Refused code after) right told made apart flagged = (told, becomes d v.transactions v.last_transaction (after_of after) right.apart apart flagged)
same_can d v opcode (verdicts.Accepted p) right told made apart flagged = planned_can d v opcode p p.body told.0 told.1 made right.taken right.plain right.apart flagged
same_can d v opcode (verdicts.Sends x) right told made apart flagged = told

-- ---- under a higher stamp, where `live` are the transactions of other families

stamp_form : (o : Option RecordBody) → HasForm o → HasForm (Some (or_stamp o))
stamp_form None form = tt
stamp_form (Some body) form = form

stamp_made : (d : Durable) (o : Option RecordBody) (made : Option Volume) → IsMadeIfWritten d o made → IsMadeThere d (or_stamp o) made
stamp_made d None made none = subst (IsMadeThere d bodies.Stamp) (sym none) tt
stamp_made d (Some body) made there = there

pub raised_can : (d : Durable) (v : VolState) (opcode family stamp last : ℕ) (x : Verdict) →
    let live = without_family family v.transactions in
    IsRight d live last (verdict_of x) → CanTell opcode x → IsMadeInVerdict d x → AreApart d.volumes last live → AreFlagged live → CanBeDone d v opcode (raised_decided family stamp (record { table = live; last = last }) x)
unfolding Apart Taken
raised_can d v opcode family stamp last (verdicts.Refused code after) right told made apart flagged =
    let live = without_family family v.transactions in
    let b = becomes d live last (after_of after) right.apart apart flagged in
    record { answer = told; form = tt; taken = refl; made = tt; apart = b.apart; flagged = b.flagged; few = few_rest last family (after_of after) v.transactions }
raised_can d v opcode family stamp last (verdicts.Accepted p) right told made apart flagged =
    let live = without_family family v.transactions in
    record {
      answer = told.0;
      form = stamp_form p.body told.1;
      taken = (stamp_taken d p.withdraws p.body right.taken).0;
      made = stamp_made d p.body p.made made;
      apart = subst (λ (e : Durable). AreApart e.volumes (last_after last (after_of p.after)) (transactions_after last (after_of p.after) live)) (or_stamp_is p.body d) right.apart;
      flagged = flagged_after last (after_of p.after) live right.plain flagged;
      few = few_rest last family (after_of p.after) v.transactions;
    }
raised_can d v opcode family stamp last (verdicts.Sends x) right told made apart flagged = told

pub rest_known : (kept : Table Kept) (d : Durable) (ts : Table Transaction) (last family stamp : ℕ) (call : VolCall) (x : Verdict) → verdict_of x ≡ row.verdict (record d { kept = kept }) (without_family family ts) last stamp call →
    AreApart d.volumes last ts → IsRight d (without_family family ts) last (verdict_of x)
rest_known kept d ts last family stamp call x is apart = known kept d (without_family family ts) last stamp call x is (rest_apart d.volumes last family ts apart)

-- ---- where there is no room for the record

pub full_answers : (opcode other : ℕ) (x : Verdict) (a : Answer × After) → IsFullAnswer x a → CanTell other x → CanAnswer opcode a.0
full_answers opcode other (verdicts.Refused code after) a is told = subst (λ (b : Answer × After). CanAnswer opcode b.0) (sym is) told
full_answers opcode other (verdicts.Accepted p) a is told = subst (CanAnswer opcode) (sym is.0) refl
full_answers opcode other (verdicts.Sends x) a is told = subst (λ (b : Answer × After). CanAnswer opcode b.0) (sym is) refl

full_begins : (d : Durable) (ts : Table Transaction) (last : ℕ) (x : Verdict) (a : Answer × After) → IsFullAnswer x a → Apart d ts last (verdict_of x) → None_begun (after_of a.1)
unfolding Apart None_begun
full_begins d ts last (verdicts.Refused code after) a is own = subst (λ (b : Answer × After). None_begun (after_of b.1)) (sym is) own
full_begins d ts last (verdicts.Accepted p) a is own = subst None_begun (sym is.1) (full_none (after_of p.after))
full_begins d ts last (verdicts.Sends x) a is own = subst (λ (b : Answer × After). None_begun (after_of b.1)) (sym is) tt

pub full_becomes : (d : Durable) (ts : Table Transaction) (last : ℕ) (x : Verdict) (a : Answer × After) → IsFullAnswer x a → IsRight d ts last (verdict_of x) → AreApart d.volumes last ts → AreFlagged ts → CanBecome d last (after_of a.1) ts
full_becomes d ts last x a is right apart flagged = becomes d ts last (after_of a.1) (full_begins d ts last x a is right.apart) apart flagged
