-- The header of what is read in bytes.
use Rattle.std.proofs.Common.{◌≡◌, ℕ, ℤ, List, [], Option, Result, Ok, Err, refl, sym, ap, ◌∙◌}
use Rattle.afs_num.specs.declared.types.Half.{Half}
use Rattle.afs_num.specs.declared.types.Half.TheVariants as halves
use Rattle.afs_num.specs.declared.types.Head.{Head}
use Rattle.afs_num.specs.declared.messages.Call.{Call}
use Rattle.afs_num.specs.declared.messages.Reply.{Reply}
use Rattle.afs_num.specs.declared.messages.Message.{Message}
use Rattle.afs_num.specs.declared.messages.Received.TheVariants.{Nothing, Whole}
use Rattle.afs_xdr.specs.declared.faults.XdrFault.{XdrFault}
use Rattle.spec_shape.specs.declared.faults.ShapeFault.{ShapeFault}
use Rattle.spec_shape.specs.declared.faults.ShapeFault.TheVariants as faults
use Rattle.spec_shape.specs.declared.kinds.Field.{Field}
use Rattle.spec_shape.specs.Reading.{fields_to_end_at}
use Rattle.spec_shape.specs.Tables.{is_among}
use Rattle.spec_model.specs.CellRows.{cell_calls, cell_replies}
use Rattle.spec_model.specs.Rpc.{asked_at, replied_at, first_of}
use Rattle.spec_model.specs.Heads.{head_at}
use Rattle.spec_model.specs.Messages.{received_by, read_body, read_behind_head, received_call, received_reply, received_notice}
use Rattle.spec_model.proofs.Spellings.{whole_of, was_served}

call_head : (head : Head) (read : Result (List ℕ × Call) ShapeFault) (m : Message) → received_call head read ≡ Whole m → head ≡ m.head
call_head head (Ok c) m e = ap (λ (x : Message). x.head) (whole_of _ m e)
call_head head (Err f) m e = absurd cc

reply_head : (head : Head) (read : Result (ℤ × Option Reply) ShapeFault) (m : Message) → received_reply head read ≡ Whole m → head ≡ m.head
reply_head head (Ok r) m e = ap (λ (x : Message). x.head) (whole_of _ m e)
reply_head head (Err f) m e = absurd cc

notice_head : (head : Head) (read : Result (List Field) ShapeFault) (m : Message) → received_notice head read ≡ Whole m → head ≡ m.head
notice_head head (Ok fs) m e = ap (λ (x : Message). x.head) (whole_of _ m e)
notice_head head (Err f) m e = absurd cc

body_head : (served : List ℕ) (head : Head) (half : Half) (bytes : List ℕ) (m : Message) → read_body served head half bytes ≡ Whole m → head ≡ m.head
body_head served head halves.Call bytes m e =
    let read = asked_at cell_calls head.opcode bytes in
    call_head head read m (was_served (is_among served head.opcode) (received_call head read) head m e)
body_head served head halves.Reply bytes m e = reply_head head (replied_at cell_replies head.opcode bytes) m e
body_head served head halves.Boot bytes m e = notice_head head (fields_to_end_at [] bytes) m e

first_is : (h : Head × List ℕ) (head : Head) → ◌≡◌ {A = Result Head XdrFault} (first_of {A = Head} {E = XdrFault} (Ok h)) (Ok head) → h.0 ≡ head
first_is h head e = cc

head_by : (served : List ℕ) (o : Result (Head × List ℕ) XdrFault) (head : Head) (m : Message) → first_of o ≡ Ok head → read_behind_head served o ≡ Whole m → head ≡ m.head
head_by served (Ok h) head m f e = sym (first_is h head f) ∙ body_head served h.0 h.0.half h.1 m e
head_by served (Err x) head m f e = absurd cc

-- the header that is read is that of the message that is read
pub read_head_is : (served bytes : List ℕ) (head : Head) (m : Message) → first_of (head_at bytes) ≡ Ok head → received_by served bytes ≡ Whole m → head ≡ m.head
unfolding received_by
read_head_is served bytes head m f e = head_by served (head_at bytes) head m f e

nothing_by : (served : List ℕ) (o : Result (Head × List ℕ) XdrFault) (x : XdrFault) → first_of o ≡ Err x → read_behind_head served o ≡ Nothing
nothing_by served (Ok h) x f = absurd cc
nothing_by served (Err y) x f = refl

-- without a header there is nothing
pub no_header : (served bytes : List ℕ) (x : XdrFault) → first_of (head_at bytes) ≡ Err x → received_by served bytes ≡ Nothing
unfolding received_by
no_header served bytes x f = nothing_by served (head_at bytes) x f
