-- What a disk keeps with a record of the volume server is what the row leaves on it.
use Rattle.std.proofs.Common.{◌≡◌, true, map, Option, Some, refl, sym, ap, subst, ◌∙◌}
use Rattle.std.specs.Prelude.{IsSome}
use Rattle.afs_num.specs.Nodes.{node_number, IsNode}
use Rattle.afs_num.specs.declared.messages.Message.{Message}
use Rattle.afs_num.specs.declared.messages.Received.TheVariants.{Whole}
use Rattle.afs_num.specs.declared.records.RecordBody.{RecordBody}
use Rattle.afs_num.specs.declared.records.RecordBody.TheVariants as bodies
use Rattle.afs_num.specs.declared.types.Head.{Head}
use Rattle.spec_ideal.specs.Tables.{set, Table}
use Rattle.spec_fold.specs.Deeds.{can_take, done_by}
use Rattle.spec_fold.specs.Fold.{body_taken, folded}
use Rattle.afs_message.specs.Spelled.{message_in}
use Rattle.spec_model.specs.Messages.{received, spelled}
use Rattle.spec_records.specs.Durable as disk
use Rattle.spec_records.specs.Durable.{placing, with_journal, with_stamp, Durable}
use Rattle.spec_rows.specs.ServerRow.{seat_for, seat_placed}
use Rattle.spec_rows.specs.States.{durable_of}
use Rattle.spec_volrows.specs.VolSteps.{deed_done, deed_head, deed_record, Deed}
use Rattle.afs_volserv.proofs.Alike.{deed_like, like}
use Rattle.afs_sharing.specs.Lasting.{lasting_of, KeepsForNodes}
use Rattle.afs_saving.specs.Kept.{or_loc, seat_kept, AreToNodes}
use Rattle.afs_saving.proofs.Seats.{seats_set, set_to_nodes}

some_is : {A : Type 0} (x y : A) → ◌≡◌ {A = Option A} (Some x) (Some y) → x ≡ y
some_is x y e = cc

taken_is : (body : RecordBody) (d : Durable) → can_take body d ≡ true → body_taken body d ≡ Some (done_by body d)
taken_is (bodies.First volumes) d e = absurd cc
taken_is (bodies.Change id counter unique vnodes removed) d e = absurd cc
taken_is (bodies.Boot boot) d e = absurd cc
taken_is (bodies.Create id family name kind flags quota is_new) d e = rw e refl
taken_is (bodies.Delete id) d e = rw e refl
taken_is (bodies.Clone source id name kind release) d e = rw e refl
taken_is (bodies.Restore id dump) d e = rw e refl
taken_is (bodies.Flags id flags) d e = rw e refl
taken_is (bodies.Forward id to) d e = rw e refl
taken_is bodies.Stamp d e = refl

-- what its record says, without the reply and the journal's length
abbrev pub deed_left : Head → Deed → Durable → Durable
deed_left head x d = with_stamp (deed_head head x) (done_by x.body d)

abbrev pub kept_reply : Head → Message → disk.Kept
kept_reply head reply = record { epoch = head.epoch; number = head.number; reply = spelled reply }

-- and with them
abbrev pub durable_saved : Head → Deed → Durable → Durable
durable_saved head x d =
    with_journal (placing d (deed_record head x)).journal (record (deed_left head x d) { kept = set (node_number head.from) (kept_reply head x.reply) (deed_left head x d).kept })

pub folds : (head : Head) (x : Deed) (d : Durable) → can_take x.body d ≡ true → folded (deed_record head x) d ≡ Some (durable_saved head x d)
unfolding folded
folds head x d can = rw (taken_is x.body d can) refl

pub is_taken : (head : Head) (x : Deed) (d : Durable) → can_take x.body d ≡ true → IsSome (folded (deed_record head x) d)
is_taken head x d can = subst (λ (o : Option Durable). IsSome o) (sym (folds head x d can)) refl

-- what it is in, which it leaves alone
left_is : (head : Head) (x : Deed) (d : Durable) → deed_left head x d ≡ like d (deed_left head x d)
left_is head x d = deed_like d d (deed_head head x) x.body

pub volumes_left : (head : Head) (x : Deed) (d e : Durable) → can_take x.body d ≡ true → folded (deed_record head x) d ≡ Some e → e.volumes ≡ (deed_left head x d).volumes
volumes_left head x d e can folds_to = ap (λ (k : Durable). k.volumes) (some_is e (durable_saved head x d) (sym folds_to ∙ folds head x d can))

pub kept_left : (head : Head) (x : Deed) (d e : Durable) → can_take x.body d ≡ true → IsNode head.from → KeepsForNodes d → folded (deed_record head x) d ≡ Some e → KeepsForNodes e
kept_left head x d e can node keeps folds_to =
    subst (λ (k : Durable). KeepsForNodes k) (sym (some_is e (durable_saved head x d) (sym folds_to ∙ folds head x d can)))
    (set_to_nodes head.from (kept_reply head x.reply) (deed_left head x d).kept node (subst AreToNodes (sym (ap (λ (k : Durable). k.kept) (left_is head x d))) keeps))

-- ---- what the row leaves

seat_is : (head : Head) (m : Message) → IsNode head.from → received (spelled m) ≡ Whole m → seat_kept (node_number head.from, kept_reply head m) ≡ seat_for head m
seat_is head m node read = λ i. record { caller = ap or_loc node i; epoch = head.epoch; number = head.number; reply = ap message_in read i }

-- the row has the same of the disk, but for the kept replies
row_left : (head : Head) (x : Deed) (d : Durable) → deed_left head x (durable_of (lasting_of d)) ≡ like (durable_of (lasting_of d)) (deed_left head x d)
row_left head x d = deed_like (durable_of (lasting_of d)) d (deed_head head x) x.body

lasting_saved : (head : Head) (x : Deed) (d : Durable) → IsNode head.from → KeepsForNodes d → received (spelled x.reply) ≡ Whole x.reply → lasting_of (durable_saved head x d) ≡ deed_done head x (lasting_of d)
lasting_saved head x d node keeps read =
    let same = left_is head x d in
    let row = sym (row_left head x d) in
    let k = kept_reply head x.reply in
    let replies : map seat_kept (set (node_number head.from) k (deed_left head x d).kept) ≡ seat_placed (seat_for head x.reply) (map seat_kept d.kept) =
    ap (λ (t : Table disk.Kept). map seat_kept (set (node_number head.from) k t)) (ap (λ (e : Durable). e.kept) same)
    ∙ seats_set head.from k (seat_for head x.reply) d.kept node refl (seat_is head x.reply node read) keeps in λ i. record {
      boot = ap (λ (e : Durable). e.boot) same i;
      volumes = ap (λ (e : Durable). e.volumes) row i;
      stamps = ap (λ (e : Durable). e.stamps) row i;
      forwardings = ap (λ (e : Durable). e.forwardings) row i;
      kept = replies i;
      journal = (placing d (deed_record head x)).journal;
      capacity = ap (λ (e : Durable). e.capacity) same i;
    }

-- whatever the disk keeps with the record
pub lasting_left : (head : Head) (x : Deed) (d e : Durable) → can_take x.body d ≡ true → IsNode head.from → KeepsForNodes d → received (spelled x.reply) ≡ Whole x.reply → folded (deed_record head x) d ≡ Some e → lasting_of e ≡ deed_done head x (lasting_of d)
lasting_left head x d e can node keeps read folds_to =
    subst (λ (k : Durable). lasting_of k ≡ deed_done head x (lasting_of d)) (some_is (durable_saved head x d) e (sym (folds head x d can) ∙ folds_to)) (lasting_saved head x d node keeps read)
