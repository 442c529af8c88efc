-- What is written, before its record stands on the disk and behind it.
use Rattle.std.specs.Prelude.{◌≡◌, ◌≤◌, ◌<◌, ◌+◌, ◌++◌, ℕ, List, [], ◌∷◌, length, Option, Some, None, Bool, false, Result, Ok, Err}
use Rattle.afs_num.specs.declared.messages.Message.{Message}
use Rattle.afs_num.specs.declared.messages.Received.TheVariants.{Whole}
use Rattle.afs_num.specs.declared.types.Head.{Head}
use Rattle.spec_history.specs.declared.lines.Line.{Line}
use Rattle.spec_history.specs.declared.lines.Outs.{Outs}
use Rattle.spec_breaks.specs.Promises.{expired, lasting_breaks, Lists}
use Rattle.spec_breaks.specs.declared.types.OwedBreak.{OwedBreak}
use Rattle.spec_fold.specs.Fold.{folded}
use Rattle.spec_model.specs.Calls.{call_seated}
use Rattle.spec_model.specs.Messages.{received, spelled}
use Rattle.spec_records.specs.Records.{FitsRecord}
use Rattle.spec_rows.specs.Callbacks.{alls, break_numbers}
use Rattle.spec_rows.specs.ServerRow.{seat_for}
use Rattle.spec_rows.specs.States.{Held}
use Rattle.spec_volrows.specs.VolRow.{holds_of}
use Rattle.spec_volrows.specs.VolSteps.{deed_record, held_vol, owes_of, withdraws_from}
use Rattle.afs_server_parts.specs.Ending.{IsPlan}
use Rattle.afs_server_parts.specs.Turning.{sent_turns}
use Rattle.afs_callbacks.specs.Answering.{with_lists}
use Rattle.afs_callbacks.specs.States.{backs_at, CallbackState}
use Rattle.afs_volstore.specs.Stores.{Store}
use Rattle.afs_server_parts.specs.declared.faults.NodeFault.{NodeFault}
use Rattle.afs_server_parts.specs.declared.faults.NodeFault.TheVariants as faults
use Rattle.afs_voldecisions.specs.Replies.{answer_message}
use Rattle.afs_volanswers.specs.Deciding.{deed_of}
use Rattle.afs_volserv.specs.Seen.{CanRelease, HasRoom, VolMemory}
use Rattle.afs_volanswers.specs.Flagged.{AreAlone, AreFlagged}
use Rattle.afs_volanswers.specs.declared.decided.Saving.{Saving}
use Rattle.afs_volserv.specs.declared.saving.Planned.{Planned}
use Rattle.afs_sharing.specs.Callers.{IsToRun}
use Rattle.afs_sharing.specs.Stores.{stand_of, IsClosed}

-- ---- the reply goes out at once, or waits for breaks

abbrev pub sent_now : Message → List ℕ → List Message
sent_now reply [] = reply ∷ []
sent_now reply (n ∷ ns) = []

abbrev pub held_on : Message → List ℕ → Bool → Option Held
held_on reply [] again = None
held_on reply (n ∷ ns) again = Some (held_vol reply (n ∷ ns) again)

abbrev pub held_or_none : Option Held → List Held
held_or_none None = []
held_or_none (Some h) = h ∷ []

-- ---- before

-- the breaks that become owed at this time, and those for which the reply waits
abbrev pub breaks_by : ℕ → Option ℕ → CallbackState → List OwedBreak
breaks_by now withdraws k = owes_of withdraws (expired now k.lists)

abbrev pub waits_by : ℕ → List OwedBreak → CallbackState → List ℕ
waits_by now breaks k = break_numbers breaks ++ alls (lasting_breaks now k.lists.owed)

-- what comes of it that these messages go out and these breaks become owed, whatever is promised besides
pub record IsPlanBeside {D : Type 0} (now : ℕ) (ms : List Message) (breaks : List OwedBreak) (k : CallbackState) (s : Store D) (p : Planned) : Type 0 where
  pub plan : (l : Lists) → l.owed ≡ lasting_breaks now k.lists.owed ++ breaks → IsPlan (stand_of s) (sent_turns ms (with_lists l (backs_at k s.drawn))) [] p.ended

-- What this saving for the call of this header comes to at this time.
pub record IsPlanned {D : Type 0} (now : ℕ) (head : Head) (x : Saving) (k : CallbackState) (s : Store D) (p : Planned) : Type 0 where
  pub rec : p.rec ≡ deed_record head (deed_of s.durable.boot head x)
  pub fits : FitsRecord p.rec
  pub read : received (spelled p.reply) ≡ Whole p.reply
  pub reply : p.reply ≡ answer_message s.durable.boot head x.answer
  pub breaks : p.breaks ≡ breaks_by now x.withdraws k
  pub waits : p.waits ≡ held_on p.reply (waits_by now p.breaks k) false
  pub ended : IsPlanBeside now (sent_now p.reply (waits_by now p.breaks k)) p.breaks k s p
  pub withdraws : p.withdraws ≡ x.withdraws
  pub transactions : p.transactions ≡ x.transactions

-- the record is prepared, or there is no room for it; what else a store has is the same, but for the room of its disk
pub record CanPut {D : Type 0} (now : ℕ) (head : Head) (p : Planned) (m : VolMemory) (k : CallbackState) (s : Store D) : Type 0 where
  pub runs : IsToRun head m.seats
  pub room : HasRoom m s
  pub up : s.closed ≡ false
  pub fits : FitsRecord p.rec
  pub drawn : s.drawn ≤ p.ended.last
  pub breaks : k.lists.last_owed + length k.lists.promises < 4000000000
  pub alone : AreAlone m.transactions
  pub holds : s.holds.table ≡ holds_of m.transactions
  pub flagged : AreFlagged p.transactions.table
  pub few : length p.transactions.table ≤ length m.transactions + 1

-- ---- behind

-- in memory, once the record stands on the disk
pub record IsTaken (head : Head) (p : Planned) (old new : VolMemory) : Type 0 where
  pub memory : new ≡ record old {
    seats = call_seated (seat_for head p.reply) old.seats;
    transactions = p.transactions.table;
    last = p.transactions.last;
    held = old.held ++ held_or_none p.waits;
    room = new.room;
  }
  pub release : CanRelease new

-- of promises and breaks
abbrev pub IsWithdrawn : ℕ → Planned → CallbackState → CallbackState → Type 0
IsWithdrawn now p k l = l ≡ record { lists = withdraws_from p.withdraws (expired now k.lists); callees = p.ended.callees.items; held = p.ended.held }

-- and in the store
pub record IsPut {D : Type 0} (p : Planned) (s u : Store D) : Type 0 where
  pub store : u ≡ record s { durable = u.durable; disk = u.disk; prepared = None; count = s.count + 1; drawn = p.ended.last; holds = u.holds }
  pub holds : u.holds.table ≡ holds_of p.transactions.table
  pub folds : folded p.rec s.durable ≡ Some u.durable

-- its record, which is prepared, is put on the disk, and then the rest is done, with these lines
abbrev pub Puts : {D : Type 0} → ℕ → Head → Planned → List Line → VolMemory → VolMemory → CallbackState → CallbackState → Store D → Store D → Result Outs NodeFault → Type 0
Puts {D} now head p ls old new k l s u (Ok outs) = IsTaken head p old new × (IsWithdrawn now p k l × (IsPut p s u × (outs ≡ record p.ended.outs { lines = ls })))
Puts {D} now head p ls old new k l s u (Err faults.OutOfMemory) = (new ≡ old) × ((l ≡ k) × (u ≡ s))
Puts {D} now head p ls old new k l s u (Err faults.Down) = IsClosed s u
