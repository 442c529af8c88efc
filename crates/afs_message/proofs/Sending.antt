-- Messages as they are sent.
use Rattle.std.proofs.Common.{◌≡◌, ℕ, List, [], ◌∷◌, ◌++◌, map, refl, sym, ap, ◌∙◌}
use Rattle.std.proofs.lemmas.List.{map-append}
use Rattle.afs_num.specs.declared.types.Head.{Head}
use Rattle.afs_num.specs.declared.types.Parcel.{Parcel}
use Rattle.afs_num.specs.declared.messages.Message.{Message}
use Rattle.afs_num.specs.declared.messages.Received.{Received}
use Rattle.afs_num.specs.declared.messages.Received.TheVariants.{Whole}
use Rattle.spec_model.specs.Messages.{messages_spelled, parcels_read, received, spelled}
use Rattle.afs_message.specs.Spelled.{message_read, IsMessage}
use Rattle.afs_message.specs.Sending.{parcel_message, AreMessages}

abbrev Read : Type 0
Read = Head × List ℕ × Received

abbrev parcel_read : Parcel → Read
parcel_read p = (p.head, p.bytes, received p.bytes)

abbrev message_spelled : Message → Read
message_spelled m = (m.head, spelled m, Whole m)

abbrev first : Read → List Read → Read
first r [] = r
first r (x ∷ xs) = x

abbrev head_of : Read → Head
head_of (h, bytes, r) = h

abbrev bytes_of : Read → List ℕ
bytes_of (h, bytes, r) = bytes

abbrev received_of : Read → Received
received_of (h, bytes, r) = r

-- ---- one more goes out

same_read : (p : Parcel) (m : Message) → parcels_read (p ∷ []) ≡ messages_spelled (m ∷ []) → parcel_read p ≡ message_spelled m
same_read p m e = ap (first (parcel_read p)) e

pub is_message : (p : Parcel) (m : Message) → parcels_read (p ∷ []) ≡ messages_spelled (m ∷ []) → IsMessage p.head p.bytes
is_message p m e = record {
  message = m;
  headed = sym (ap head_of (same_read p m e));
  spells = record { spelled = ap bytes_of (same_read p m e); read = ap received_of (same_read p m e) };
}

pub all_more : (ps : List Parcel) (p : Parcel) → AreMessages ps → IsMessage p.head p.bytes → AreMessages (ps ++ p ∷ [])
all_more [] p all is = (is, tt)
all_more (q ∷ ps) p all is = (all.0, all_more ps p all.1 is)

pub seen_more : (ps : List Parcel) (p : Parcel) (m : Message) → parcels_read (p ∷ []) ≡ messages_spelled (m ∷ []) → map parcel_message (ps ++ p ∷ []) ≡ map parcel_message ps ++ m ∷ []
seen_more ps p m e =
    map-append parcel_message ps (p ∷ [])
    ∙ ap (λ (x : Message). map parcel_message ps ++ x ∷ []) (ap (message_read p.head) (ap received_of (same_read p m e)))

-- ---- all that go out

spelled_by : (p : Parcel) → IsMessage p.head p.bytes → parcel_read p ≡ message_spelled (parcel_message p)
spelled_by p is =
    let spells : parcel_read p ≡ message_spelled is.message = λ i. (sym is.headed i, is.spells.spelled i, is.spells.read i) in
    spells ∙ ap message_spelled (sym (ap (message_read p.head) is.spells.read))

pub all_spelled : (ps : List Parcel) → AreMessages ps → parcels_read ps ≡ messages_spelled (map parcel_message ps)
all_spelled [] all = refl
all_spelled (p ∷ ps) all = λ i. spelled_by p all.0 i ∷ all_spelled ps all.1 i
