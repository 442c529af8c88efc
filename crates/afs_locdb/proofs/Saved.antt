-- What a disk keeps with the record of a change is what the row leaves on it.
use Rattle.std.proofs.Common.{◌≡◌, ◌+◌, ℕ, Bool, true, false, List, [], Option, Some, None, refl, sym, ap, subst, ◌∙◌, if◌then◌else◌}
use Rattle.afs_num.specs.Nodes.{node_number, IsNode}
use Rattle.afs_num.specs.declared.location_calls.LocCall.{LocCall}
use Rattle.afs_num.specs.declared.location_calls.LocCall.TheVariants as calls
use Rattle.afs_num.specs.declared.messages.Message.{Message}
use Rattle.afs_num.specs.declared.messages.Received.TheVariants.{Whole}
use Rattle.afs_num.specs.declared.types.Head.{Head}
use Rattle.spec_ideal.specs.Tables.{set}
use Rattle.spec_model.specs.Messages.{received, spelled}
use Rattle.law_legal.proofs.DatabaseCalls.{loc_folds}
use Rattle.law_legal.specs.Database.{AreKeyed}
use Rattle.spec_records.specs.Durable as disk
use Rattle.spec_records.specs.LocDurable.{can_do, entries_after, loc_folded, loc_place_length, LocDurable}
use Rattle.spec_rows.specs.LocRow.{changes, loc_lasting_after, loc_op, loc_record_of, reply_to, LocChange, LocLasting}
use Rattle.spec_rows.specs.ServerRow.{seat_for}
use Rattle.spec_rows.specs.States.{Seat}
use Rattle.spec_shape.specs.Taking.{◌>>=◌}
use Rattle.afs_message.specs.Spelled.{message_in}
use Rattle.afs_locdb.specs.Seen.{lasting_of}
use Rattle.afs_saving.specs.Kept.{or_loc, seat_kept, AreToNodes}
use Rattle.afs_saving.proofs.Seats.{seats_set}

abbrev some : {A : Type 0} → A → Option A
some x = Some x

some_is : {A : Type 0} (x y : A) → some x ≡ some y → x ≡ y
some_is x y e = cc

-- ---- a call looks at entries and counters alone

pub op_same : (stamp : ℕ) (call : LocCall) (l : LocLasting) (boot : ℕ) (kept : List Seat) (journal capacity : ℕ) → loc_op stamp call (record l { boot = boot; kept = kept; journal = journal; capacity = capacity }) ≡ loc_op stamp call l
op_same stamp (calls.CreateEntry e) l boot kept journal capacity = refl
op_same stamp (calls.DeleteEntry id) l boot kept journal capacity = refl
op_same stamp (calls.GetEntryById id) l boot kept journal capacity = refl
op_same stamp (calls.GetEntryByName name) l boot kept journal capacity = refl
op_same stamp calls.GetNewVolumeId l boot kept journal capacity = refl
op_same stamp (calls.ReplaceEntry id e) l boot kept journal capacity = refl
op_same stamp (calls.SetLock id operation force) l boot kept journal capacity = refl
op_same stamp (calls.ReleaseLock id) l boot kept journal capacity = refl
op_same stamp (calls.ListEntry index) l boot kept journal capacity = refl

-- ---- what a call changes can be done

can_by : (b : Bool) (x e : LocDurable) (f : LocDurable → Option LocDurable) → ((if b then Some x else None) >>= f) ≡ Some e → b ≡ true
can_by true x e f h = refl
can_by false x e f h = absurd cc

pub can : (stamp : ℕ) (call : LocCall) (l : LocLasting) (head : Head) (c : LocChange) → loc_op stamp call l ≡ changes c → AreKeyed l.entries → IsNode head.from → can_do c.deed l.entries ≡ true
unfolding loc_folded
can stamp call l head c is keyed node =
    let m : LocLasting = record l { kept = [] } in
    can_by (can_do c.deed l.entries) _ _ _ (loc_folds m head stamp call c (op_same stamp call l l.boot [] l.journal l.capacity ∙ is) keyed node tt)

-- ---- the fold

abbrev pub kept_reply : Head → Message → disk.Kept
kept_reply head m = record { epoch = head.epoch; number = head.number; reply = spelled m }

abbrev pub durable_saved : Head → LocChange → LocDurable → LocDurable
durable_saved head c d = record d {
  entries = entries_after c.deed d.entries;
  next_id = c.next_id;
  next_stamp = c.next_stamp;
  kept = set (node_number head.from) (kept_reply head (reply_to d.boot head c.reply)) d.kept;
  journal = d.journal + loc_place_length (loc_record_of d.boot head c);
}

pub folds : (head : Head) (c : LocChange) (d : LocDurable) → can_do c.deed d.entries ≡ true → loc_folded (loc_record_of d.boot head c) d ≡ Some (durable_saved head c d)
unfolding loc_folded
folds head c d can = rw can refl

-- ---- kept replies

seat_is : (head : Head) (m : Message) → IsNode head.from → received (spelled m) ≡ Whole m → seat_kept (node_number head.from, kept_reply head m) ≡ seat_for head m
seat_is head m node read = λ i. record { caller = ap or_loc node i; epoch = head.epoch; number = head.number; reply = ap message_in read i }

-- ---- what the row leaves

pub lasting_saved : (head : Head) (c : LocChange) (d : LocDurable) → received (spelled (reply_to d.boot head c.reply)) ≡ Whole (reply_to d.boot head c.reply) → IsNode head.from → AreToNodes d.kept → lasting_of (durable_saved head c d) ≡ loc_lasting_after head c (lasting_of d)
lasting_saved head c d read node are =
    let m = reply_to d.boot head c.reply in
    ap (λ (seats : List Seat). record (lasting_of (durable_saved head c d)) { kept = seats }) (seats_set head.from (kept_reply head m) (seat_for head m) d.kept node refl (seat_is head m node read) are)

-- whatever the disk keeps with the record
pub lasting_left : (head : Head) (c : LocChange) (d e : LocDurable) → can_do c.deed d.entries ≡ true → received (spelled (reply_to d.boot head c.reply)) ≡ Whole (reply_to d.boot head c.reply) → IsNode head.from → AreToNodes d.kept →
    loc_folded (loc_record_of d.boot head c) d ≡ Some e → lasting_of e ≡ loc_lasting_after head c (lasting_of d)
lasting_left head c d e can read node are folds_to =
    let one = some_is _ e (sym (folds head c d can) ∙ folds_to) in
    subst (λ (k : LocDurable). lasting_of k ≡ loc_lasting_after head c (lasting_of d)) one (lasting_saved head c d read node are)
