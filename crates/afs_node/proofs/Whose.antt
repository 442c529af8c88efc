-- Whose message it is: by its header, and by what is found in it.
use Rattle.std.specs.Prelude.{◌≡◌, ◌⊎◌, ℕ, ℤ, List, [], Bool, true, false, Option, Some, Result, Ok, Err, if◌then◌else◌}
use Rattle.std.proofs.Common.{refl, ap, sym, subst, ◌∙◌, inl, inr}
use Rattle.afs_num.specs.declared.messages.Call.{Call}
use Rattle.afs_num.specs.declared.messages.Message.{Message}
use Rattle.afs_num.specs.declared.messages.Received.{Received}
use Rattle.afs_num.specs.declared.messages.Received.TheVariants.{Nothing, Unserved, Whole}
use Rattle.afs_num.specs.declared.messages.Reply.{Reply}
use Rattle.afs_num.specs.declared.types.Half.{Half}
use Rattle.afs_num.specs.declared.types.Half.TheVariants as halves
use Rattle.afs_num.specs.declared.types.Head.{Head}
use Rattle.afs_num.specs.declared.types.Node.{Node}
use Rattle.afs_xdr.specs.declared.faults.XdrFault.{XdrFault}
use Rattle.spec_shape.specs.declared.faults.ShapeFault.{ShapeFault}
use Rattle.spec_shape.specs.declared.kinds.Field.{Field}
use Rattle.spec_shape.specs.Reading.{fields_to_end_at}
use Rattle.spec_shape.specs.Tables.{is_among}
use Rattle.spec_model.specs.CellRows.{all_calls, cell_calls, cell_replies}
use Rattle.spec_model.specs.Heads.{head_at}
use Rattle.spec_model.specs.Messages.{read_behind_head, read_body, received, received_by, received_call, received_notice, received_reply}
use Rattle.spec_model.specs.Rpc.{asked_at, first_of, replied_at}
use Rattle.spec_records.proofs.Forms.{some_is}
use Rattle.spec_rows.specs.ServerRow.{is_client}
use Rattle.spec_volrows.specs.VolSteps.{from_of, is_of_client}
use Rattle.afs_node.specs.Seen.{is_from_client, sent_by_client}

-- ---- what is found has the header's sender

abbrev IsOfSender : Node → Received → Type 0
IsOfSender from r = (r ≡ Nothing) ⊎ (from_of r ≡ Some from)

abbrev IsOfHead : Result Head XdrFault → Received → Type 0
IsOfHead (Ok head) r = IsOfSender head.from r
IsOfHead (Err fault) r = r ≡ Nothing

call_found : (head : Head) (r : Result (List ℕ × Call) ShapeFault) → IsOfSender head.from (received_call head r)
call_found head (Ok call) = inr refl
call_found head (Err e) = inr refl

called_found : (head : Head) (rest : List ℕ) (t : Bool) → IsOfSender head.from (if t then received_call head (asked_at cell_calls head.opcode rest) else Unserved head)
called_found head rest true = call_found head (asked_at cell_calls head.opcode rest)
called_found head rest false = inr refl

reply_found : (head : Head) (r : Result (ℤ × Option Reply) ShapeFault) → IsOfSender head.from (received_reply head r)
reply_found head (Ok reply) = inr refl
reply_found head (Err e) = inl refl

notice_found : (head : Head) (r : Result (List Field) ShapeFault) → IsOfSender head.from (received_notice head r)
notice_found head (Ok nothing) = inr refl
notice_found head (Err e) = inl refl

body_found : (served : List ℕ) (head : Head) (half : Half) (rest : List ℕ) → IsOfSender head.from (read_body served head half rest)
body_found served head halves.Call rest = called_found head rest (is_among served head.opcode)
body_found served head halves.Reply rest = reply_found head (replied_at cell_replies head.opcode rest)
body_found served head halves.Boot rest = notice_found head (fields_to_end_at [] rest)

behind_found : (served : List ℕ) (h : Result (Head × List ℕ) XdrFault) → IsOfHead (first_of h) (read_behind_head served h)
behind_found served (Ok h) = body_found served h.0 h.0.half h.1
behind_found served (Err e) = refl

found_so : (served bytes : List ℕ) → IsOfHead (first_of (head_at bytes)) (received_by served bytes)
unfolding received_by
found_so served bytes = behind_found served (head_at bytes)

-- ---- a client's, or another's

client_so : (h : Result Head XdrFault) (r : Received) → IsOfHead h r → is_from_client h ≡ true → is_of_client (from_of r) ≡ true
client_so (Ok head) r (inl none) client = ap (λ (x : Received). is_of_client (from_of x)) none
client_so (Ok head) r (inr from) client = ap is_of_client from ∙ client
client_so (Err e) r none client = ap (λ (x : Received). is_of_client (from_of x)) none

pub of_client : (served bytes : List ℕ) → sent_by_client bytes ≡ true → is_of_client (from_of (received_by served bytes)) ≡ true
of_client served bytes client = client_so (first_of (head_at bytes)) (received_by served bytes) (found_so served bytes) client

-- no client's, or nothing was found
abbrev pub IsOther : Received → Type 0
IsOther r = (is_of_client (from_of r) ≡ false) ⊎ (r ≡ Nothing)

other_so : (h : Result Head XdrFault) (r : Received) → IsOfHead h r → is_from_client h ≡ false → IsOther r
other_so (Ok head) r (inl none) other = inr none
other_so (Ok head) r (inr from) other = inl (ap is_of_client from ∙ other)
other_so (Err e) r none other = absurd cc

pub of_other : (served bytes : List ℕ) → sent_by_client bytes ≡ false → IsOther (received_by served bytes)
of_other served bytes other = other_so (first_of (head_at bytes)) (received_by served bytes) (found_so served bytes) other

-- ---- a message's header is that of its bytes

whole_so : (h : Result Head XdrFault) (m : Message) → IsOfHead h (Whole m) → is_from_client h ≡ is_client m.head.from
whole_so (Ok head) m (inl none) = absurd cc
whole_so (Ok head) m (inr from) = ap is_client (sym (some_is m.head.from head.from from))
whole_so (Err e) m none = absurd cc

pub sent_by : (bytes : List ℕ) (m : Message) → received bytes ≡ Whole m → sent_by_client bytes ≡ is_client m.head.from
sent_by bytes m whole = whole_so (first_of (head_at bytes)) m (subst (IsOfHead (first_of (head_at bytes))) whole (found_so all_calls bytes))
