-- What a disk keeps with the record of a change is what the row leaves on it.
use Rattle.spec_model.specs.Calls.{key_of}
use Rattle.std.proofs.Common.{◌+◌, ◌≡◌, ℕ, List, Option, Some, refl, sym, ap, subst, ◌∙◌}
use Rattle.afs_num.specs.Nodes.{node_number, IsNode}
use Rattle.afs_num.specs.declared.calls.FsReply.{FsReply}
use Rattle.afs_num.specs.declared.messages.Message.{Message}
use Rattle.afs_num.specs.declared.records.RecordBody.TheVariants as bodies
use Rattle.afs_num.specs.declared.types.Head.{Head}
use Rattle.afs_num.specs.declared.volumes.Change as made
use Rattle.spec_ideal.specs.Tables.{get, set}
use Rattle.spec_records.specs.Changes.{keeping}
use Rattle.spec_records.specs.Durable as disk
use Rattle.spec_records.specs.Durable.{changed_stored, place_length, placing, with_journal, Durable, Stored}
use Rattle.spec_fold.specs.Fold.{folded}
use Rattle.spec_rows.specs.ServerRow.{carried_by, change_reply_to, lasting_after, promise_ticks, record_of, replied, seat_for, stored_by, Change}
use Rattle.afs_message.specs.Spelled.{message_in, Spells}
use Rattle.afs_decisions.specs.Deciding.{IsMade}
use Rattle.afs_callbacks.specs.Answering.{reply_told}
use Rattle.afs_callbacks.specs.Saving.{change_kept}
use Rattle.afs_sharing.specs.Lasting.{lasting_of}
use Rattle.afs_saving.specs.Kept.{or_loc, seat_kept, AreToNodes}
use Rattle.afs_saving.proofs.Seats.{seats_set}

abbrev some : {A : Type 0} → A → Option A
some x = Some x

some_is : {A : Type 0} (x y : A) → some x ≡ some y → x ≡ y
some_is x y e = cc

-- ---- the record and the reply of a change

pub reply_is : (boot clock id : ℕ) (head : Head) (c : Change) (x : made.Change) → IsMade clock id c x → change_reply_to boot head clock c ≡ reply_told boot head (clock + 7200) x.reply
reply_is boot clock id head c x is = ap (λ (o : Option FsReply). replied boot head (carried_by (clock + promise_ticks) o)) is.reply

pub record_is : (boot clock id : ℕ) (head : Head) (c : Change) (x : made.Change) (bytes : List ℕ) → IsMade clock id c x → Spells (change_reply_to boot head clock c) bytes → record_of boot head clock c ≡ change_kept head id x bytes
record_is boot clock id head c x bytes is spells = λ i. record {
  head = keeping (key_of head) (sym spells.spelled i);
  body = bodies.Change (is.number i) (sym is.counter i) (sym is.unique i) (sym is.vnodes i) (sym is.removed i);
}

-- ---- the fold

abbrev pub kept_reply : Head → List ℕ → disk.Kept
kept_reply head bytes = record { epoch = head.epoch; number = head.number; reply = bytes }

abbrev pub durable_saved : Head → ℕ → made.Change → List ℕ → Stored → Durable → Durable
durable_saved head id x bytes st d =
    with_journal (placing d (change_kept head id x bytes)).journal (record d { volumes = set id st d.volumes; kept = set (node_number head.from) (kept_reply head bytes) d.kept })

pub folds : (head : Head) (id : ℕ) (x : made.Change) (bytes : List ℕ) (before st : Stored) (d : Durable) → get id d.volumes ≡ Some before → changed_stored x.counter x.unique x.vnodes x.removed before ≡ Some st → folded (change_kept head id x bytes) d ≡ Some (durable_saved head id x bytes st d)
unfolding folded
folds head id x bytes before st d there made = rw there (rw made refl)

-- ---- kept replies

seat_is : (head : Head) (m : Message) (bytes : List ℕ) → IsNode head.from → Spells m bytes → seat_kept (node_number head.from, kept_reply head bytes) ≡ seat_for head m
seat_is head m bytes node spells = λ i. record { caller = ap or_loc node i; epoch = head.epoch; number = head.number; reply = ap message_in spells.read i }

-- ---- what the row leaves

pub lasting_saved : (clock id : ℕ) (head : Head) (c : Change) (x : made.Change) (bytes : List ℕ) (d : Durable) → IsMade clock id c x → Spells (change_reply_to d.boot head clock c) bytes → IsNode head.from → AreToNodes d.kept →
    lasting_of (durable_saved head id x bytes (stored_by clock c) d) ≡ lasting_after head clock c (lasting_of d)
lasting_saved clock id head c x bytes d is spells node are =
    let m = change_reply_to d.boot head clock c in
    let kept = seats_set head.from (kept_reply head bytes) (seat_for head m) d.kept node refl (seat_is head m bytes node spells) are in
    let same = sym (record_is d.boot clock id head c x bytes is spells) in λ i. record {
      boot = d.boot;
      volumes = set (sym is.number i) (stored_by clock c) d.volumes;
      stamps = d.stamps;
      forwardings = d.forwardings;
      kept = kept i;
      journal = d.journal + place_length (same i);
      capacity = d.capacity;
    }

-- whatever the disk keeps with the record
pub lasting_left : (clock id : ℕ) (head : Head) (c : Change) (x : made.Change) (bytes : List ℕ) (d e : Durable) → get id d.volumes ≡ Some c.before → IsMade clock id c x → Spells (change_reply_to d.boot head clock c) bytes → IsNode head.from → AreToNodes d.kept →
    folded (change_kept head id x bytes) d ≡ Some e → lasting_of e ≡ lasting_after head clock c (lasting_of d)
lasting_left clock id head c x bytes d e there is spells node are folds_to =
    let one = some_is _ e (sym (folds head id x bytes c.before (stored_by clock c) d there is.kept) ∙ folds_to) in
    subst (λ (k : Durable). lasting_of k ≡ lasting_after head clock c (lasting_of d)) one (lasting_saved clock id head c x bytes d is spells node are)
