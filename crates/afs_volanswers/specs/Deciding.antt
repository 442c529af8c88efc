-- What a volume server decides on a message.
use Rattle.std.specs.Prelude.{◌≡◌, ◌≤◌, ◌<◌, ◌+◌, ◌^◌, ℕ, length, pos, Bool, false, true, Option, Some, None}
use Rattle.afs_num.specs.Nodes.{IsNode}
use Rattle.afs_num.specs.declared.messages.Call.TheVariants as ask
use Rattle.afs_num.specs.declared.messages.Carried.{Carried}
use Rattle.afs_num.specs.declared.messages.Carried.TheVariants as carried
use Rattle.afs_num.specs.declared.messages.Message.{Message}
use Rattle.afs_num.specs.declared.messages.Received.{Received}
use Rattle.afs_num.specs.declared.messages.Received.TheVariants.{Whole}
use Rattle.afs_num.specs.declared.records.RecordBody.{RecordBody}
use Rattle.afs_num.specs.declared.records.RecordBody.TheVariants as bodies
use Rattle.afs_num.specs.declared.types.Head.{Head}
use Rattle.afs_num.specs.declared.volume_calls.VolCall.{VolCall}
use Rattle.spec_ideal.specs.Tables.{Table}
use Rattle.spec_model.specs.Calls.{runs, Admitted}
use Rattle.spec_records.specs.Durable.{Durable}
use Rattle.spec_shape.specs.Tables.{IsServer}
use Rattle.spec_fold.specs.Deeds.{can_take, done_by}
use Rattle.afs_memory.specs.Named.{IsRestored, IsRestoredThere}
use Rattle.afs_volume.specs.declared.volume.Volume.{Volume}
use Rattle.spec_volrows.specs.VolLaws.{AreApart}
use Rattle.spec_volrows.specs.VolRow as row
use Rattle.spec_volrows.specs.VolRow.{last_after, transactions_after, without_family}
use Rattle.spec_volrows.specs.VolSteps.{dispatches, drops, is_vol_caller, not_written, or_stamp, raised_by, repeats, replies_to, same_by, tells_boot, when_full, written, Deed, VolDecision}
use Rattle.spec_volrows.specs.VolStates.{Transaction, VolState}
use Rattle.afs_voldecisions.specs.Numbering.{Numbered}
use Rattle.afs_voldecisions.specs.Replies.{answer_message, CanAnswer}
use Rattle.afs_voldecisions.specs.Verdicts.{after_of, dispatch_of, HasForm}
use Rattle.afs_voldecisions.specs.declared.replies.Answer.{Answer}
use Rattle.afs_voldecisions.specs.declared.replies.Answer.TheVariants as answers
use Rattle.afs_voldecisions.specs.declared.transactions.After.{After}
use Rattle.afs_voldecisions.specs.declared.transactions.After.TheVariants as afters
use Rattle.afs_voldecisions.specs.declared.verdicts.Plan.{Plan}
use Rattle.afs_voldecisions.specs.declared.verdicts.Verdict.{Verdict}
use Rattle.afs_voldecisions.specs.declared.verdicts.Verdict.TheVariants as verdicts
use Rattle.afs_volanswers.specs.Flagged.{AreFlagged}
use Rattle.afs_volanswers.specs.declared.decided.Decided.{Decided}
use Rattle.afs_volanswers.specs.declared.decided.Decided.TheVariants as decided
use Rattle.afs_volanswers.specs.declared.decided.Saving.{Saving}

-- ---- the row's decision

-- what is written, with its reply
abbrev pub deed_of : ℕ → Head → Saving → Deed
deed_of boot head x = record {
  reply = answer_message boot head x.answer;
  body = x.body;
  family = x.family;
  stamp = x.stamp;
  withdraws = x.withdraws;
  transactions = x.transactions.table;
  last = x.transactions.last;
}

-- a call is answered so, and nothing is written
abbrev pub answers_of : ℕ → Head → Table Transaction → ℕ → row.After → Message → VolDecision
answers_of boot head ts last after reply = replies_to head reply (transactions_after last after ts) (last_after last after)

-- What is decided on the call of this header. What is written is decided on where there is room for its record, which is known once it is
-- spelled: `full` is decided else.
abbrev pub decision_of : Durable → VolState → Head → VolDecision → Decided → VolDecision
decision_of d v head full decided.Drops = drops
decision_of d v head full decided.TellsBoot = tells_boot head
decision_of d v head full (decided.Repeats reply) = repeats reply
decision_of d v head full (decided.Answers answer after) = answers_of d.boot head v.transactions v.last_transaction (after_of after) (answer_message d.boot head answer)
decision_of d v head full (decided.Dispatches x) = dispatches head (dispatch_of x)
decision_of d v head full (decided.Saves x) = written d head (deed_of d.boot head x) full

-- what is decided on this call where there is no room for its record
abbrev pub full_for : Durable → VolState → Head → VolCall → VolDecision
full_for d v head call = not_written d.boot head v.transactions v.last_transaction (row.verdict d v.transactions v.last_transaction head.stamp call)

abbrev pub full_carried : Durable → VolState → Head → Carried → VolDecision
full_carried d v head (carried.Call user (ask.Volume call)) = full_for d v head call
full_carried d v head c = drops

-- on the call that was received, if it is one of the volume server's
abbrev pub full_then : Durable → VolState → Head → Received → VolDecision
full_then d v head (Whole m) = full_carried d v head m.carried
full_then d v head r = drops

-- the call of the volume server's interface that was received
abbrev pub call_carried : Carried → Option VolCall
call_carried (carried.Call user (ask.Volume call)) = Some call
call_carried c = None

abbrev pub call_in : Received → Option VolCall
call_in (Whole m) = call_carried m.carried
call_in r = None

-- the decision leaves the disk as it is
abbrev pub leaves_disk : Decided → Bool
leaves_disk (decided.Saves x) = false
leaves_disk d = true

-- ---- what is told, written and sent can be

-- a volume was made to judge the call: the one that its record makes of what the disk keeps
abbrev pub IsMadeThere : Durable → RecordBody → Option Volume → Type 0
IsMadeThere d body None = Unit {0}
IsMadeThere d body (Some v) = IsRestored body v × IsRestoredThere body v d

abbrev pub IsMadeIfWritten : Durable → Option RecordBody → Option Volume → Type 0
IsMadeIfWritten d None made = made ≡ None
IsMadeIfWritten d (Some body) made = IsMadeThere d body made

-- and so it is with a verdict
abbrev pub IsMadeInVerdict : Durable → Verdict → Type 0
IsMadeInVerdict d (verdicts.Accepted p) = IsMadeIfWritten d p.body p.made
IsMadeInVerdict d x = Unit {0}

-- Its body has a form in a record, and can be taken; a volume that comes with it is what the body makes of the disk; then its transactions are
-- apart, each with the flags of one, and there is at most one more of them.
pub record CanBeSaved (d : Durable) (v : VolState) (opcode : ℕ) (x : Saving) : Type 0 where
  pub answer : CanAnswer opcode x.answer
  pub form : HasForm (Some x.body)
  pub taken : can_take x.body d ≡ true
  pub made : IsMadeThere d x.body x.made
  pub apart : AreApart (done_by x.body d).volumes x.transactions.last x.transactions.table
  pub flagged : AreFlagged x.transactions.table
  pub few : length x.transactions.table ≤ length v.transactions + 1

-- what becomes of the transactions of a call that is answered so leaves them in order
pub record CanBecome (d : Durable) (last : ℕ) (after : row.After) (ts : Table Transaction) : Type 0 where
  pub apart : AreApart d.volumes (last_after last after) (transactions_after last after ts)
  pub flagged : AreFlagged (transactions_after last after ts)

abbrev pub CanBeDone : Durable → VolState → ℕ → Decided → Type 0
CanBeDone d v opcode decided.Drops = Unit {0}
CanBeDone d v opcode decided.TellsBoot = Unit {0}
CanBeDone d v opcode (decided.Repeats reply) = IsNode reply.head.to
CanBeDone d v opcode (decided.Answers answer after) = CanAnswer opcode answer × CanBecome d v.last_transaction (after_of after) v.transactions
CanBeDone d v opcode (decided.Dispatches x) = (opcode ≡ 103) × IsServer x.server
CanBeDone d v opcode (decided.Saves x) = CanBeSaved d v opcode x

-- where the decision runs the call, the call's pair is to run
abbrev pub Runs : Decided → Admitted Message → Type 0
Runs (decided.Answers answer after) a = a ≡ runs
Runs (decided.Dispatches x) a = a ≡ runs
Runs (decided.Saves x) a = a ≡ runs
Runs d a = Unit {0}

-- what is written is asked by a server or an administrator
abbrev pub IsOfCaller : Head → Decided → Type 0
IsOfCaller head (decided.Saves x) = is_vol_caller head.from ≡ true
IsOfCaller head d = Unit {0}

-- and by a call of the volume server's interface
abbrev pub IsOfVolumes : Carried → Type 0
IsOfVolumes (carried.Call user (ask.Volume call)) = Unit {0}
IsOfVolumes c = ⊥

abbrev pub IsVolumeCall : Received → Type 0
IsVolumeCall (Whole m) = IsOfVolumes m.carried
IsVolumeCall r = ⊥

abbrev pub IsAskedIn : Carried → Decided → Type 0
IsAskedIn c (decided.Saves x) = IsOfVolumes c
IsAskedIn c d = Unit {0}

abbrev pub IsAskedBy : Received → Decided → Type 0
IsAskedBy r (decided.Saves x) = IsVolumeCall r
IsAskedBy r d = Unit {0}

-- ---- by a verdict

-- the transactions after it
abbrev pub changed : Numbered → After → Numbered
changed ts after = record { table = transactions_after ts.last (after_of after) ts.table; last = last_after ts.last (after_of after) }

-- what is written with its answer, under this stamp
abbrev pub saving_of : Numbered → ℕ → ℕ → Answer → RecordBody → Option ℕ → After → Option Volume → Saving
saving_of ts family stamp answer body withdraws after made = record {
  answer = answer;
  body = body;
  family = family;
  stamp = stamp;
  withdraws = withdraws;
  transactions = changed ts after;
  made = made;
}

-- under the stored stamp: an accepted call that writes this, or nothing
abbrev pub same_planned : Numbered → Plan → Option RecordBody → Decided
same_planned ts p None = decided.Answers (answers.Told p.reply) p.after
same_planned ts p (Some body) = decided.Saves (saving_of ts 0 0 (answers.Told p.reply) body p.withdraws p.after p.made)

abbrev pub same_decided : Numbered → Verdict → Decided
same_decided ts (verdicts.Refused code after) = decided.Answers (answers.Refused (pos code)) after
same_decided ts (verdicts.Accepted p) = same_planned ts p p.body
same_decided ts (verdicts.Sends x) = decided.Dispatches x

-- under a higher one, which is written alone where the call writes nothing else
abbrev pub raised_decided : ℕ → ℕ → Numbered → Verdict → Decided
raised_decided family stamp live (verdicts.Refused code after) = decided.Saves (saving_of live family stamp (answers.Refused (pos code)) bodies.Stamp None after None)
raised_decided family stamp live (verdicts.Accepted p) = decided.Saves (saving_of live family stamp (answers.Told p.reply) (or_stamp p.body) p.withdraws p.after p.made)
raised_decided family stamp live (verdicts.Sends x) = decided.Dispatches x

-- a refusal's code is a positive word
abbrev pub IsCoded : Verdict → Type 0
IsCoded (verdicts.Refused code after) = code < 2 ^ 31
IsCoded x = Unit {0}

-- the row's decision under the stored stamp, and under a higher one
abbrev pub same_judged : Durable → VolState → Head → VolCall → VolDecision
same_judged d v head call = same_by d head v.transactions v.last_transaction (row.verdict d v.transactions v.last_transaction head.stamp call)

abbrev pub raised_judged : Durable → VolState → Head → VolCall → VolDecision
raised_judged d v head call =
    let live = without_family (row.family_of call) v.transactions in
    raised_by d head (row.family_of call) live v.last_transaction (row.verdict d live v.last_transaction head.stamp call) (full_for d v head call)

-- what is answered where there is no room for the record of what a verdict says
abbrev pub IsFullAnswer : Verdict → Answer × After → Type 0
IsFullAnswer (verdicts.Refused code after) a = a ≡ (answers.Refused (pos code), after)
IsFullAnswer (verdicts.Accepted p) a = (a.0 ≡ answers.Refused (pos 108)) × (after_of a.1 ≡ when_full (after_of p.after))
IsFullAnswer (verdicts.Sends x) a = a ≡ (answers.Refused (pos 108), afters.Stays)
