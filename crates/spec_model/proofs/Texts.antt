-- A parcel and the message whose spelling it has have one line, with the bytes or without.
use Rattle.std.proofs.Common.{◌≡◌, ℕ, suc, ◌+◌, List, [], ◌∷◌, ◌++◌, length, drop, refl, ap, sym, ◌∙◌, Result, Ok, Err, Option, Some, None, ℤ, pos, negsuc, Bool, true, false}
use Rattle.std.specs.Prelude.{nat_lt, codes, if◌then◌else◌}
use Rattle.afs_xdr.specs.declared.faults.XdrFault.TheVariants.{Short}
use Rattle.std.proofs.lemmas.Bool.{eqb-true}
use Rattle.std.proofs.lemmas.List.{drop-drop}
use Rattle.afs_num.specs.Nodes.{node_of}
use Rattle.afs_num.specs.declared.types.Half.{Half}
use Rattle.afs_num.specs.declared.types.Half.TheVariants as halves
use Rattle.afs_num.specs.declared.types.Node.{Node}
use Rattle.afs_num.specs.declared.types.Head.{Head}
use Rattle.afs_num.specs.declared.types.Parcel.{Parcel}
use Rattle.afs_num.specs.declared.messages.Carried.TheVariants as carried
use Rattle.afs_num.specs.declared.messages.Message.{Message}
use Rattle.afs_num.specs.declared.messages.Received.TheVariants.{Whole}
use Rattle.afs_xdr.specs.declared.faults.XdrFault.{XdrFault}
use Rattle.afs_xdr.specs.Words.{◌>>=◌, word_at}
use Rattle.afs_num.specs.declared.messages.Call.{Call}
use Rattle.afs_num.specs.declared.messages.Reply.{Reply}
use Rattle.spec_shape.specs.declared.faults.ShapeFault.{ShapeFault}
use Rattle.spec_shape.specs.declared.kinds.Field.{Field}
use Rattle.spec_shape.specs.Reading.{in_place, signed_at, fields_to_end_at}
use Rattle.spec_shape.proofs.FieldLaws.{bind_ok, in_place_ok, shape_ok_is}
use Rattle.spec_model.specs.Heads.{head_at, half_at, node_at, known, half_of, is_zero}
use Rattle.spec_model.specs.Rpc.{asked_at, answer_at, replied_at}
use Rattle.spec_shape.specs.Tables.{is_among}
use Rattle.spec_model.specs.CellRows.{cell_calls, cell_replies, all_calls}
use Rattle.spec_model.specs.Messages.{received_call, carried_reply, received_reply, received_notice, read_body, read_behind_head, received_by, received, spelled, parcels_read, messages_spelled}
use Rattle.spec_model.proofs.Spellings.{whole_of, was_served}
use Rattle.spec_model.specs.Telling.{code_read, code_at}
use Rattle.std.specs.Fmt.{decimal}
use Rattle.spec_model.specs.Text.{sent_text, head_text, code_text, tail_text, code_carried, message_text}

-- what is read next was read, where the whole is
pub record Went {A B : Type 0} (r : Result A XdrFault) (f : A → Result B XdrFault) (x : B) : Type 0 where
  pub mid : A
  pub first : r ≡ Ok mid
  pub next : f mid ≡ Ok x

pub went : {A B : Type 0} (r : Result A XdrFault) (f : A → Result B XdrFault) (x : B) → r >>= f ≡ Ok x → Went r f x
went (Ok y) f x h = record { mid = y; first = refl; next = h }
went (Err e) f x h = cc

if_ok : {A : Type 0} (b : Bool) (x r : A) (e : XdrFault) → (let v : Result A XdrFault = (if b then Err e else Ok x) in v) ≡ Ok r → r ≡ x
if_ok true x r e h = cc
if_ok false x r e h = cc

word_rest : (k : ℕ) (whole bytes : List ℕ) (r : ℕ × List ℕ) → bytes ≡ drop k whole → word_at bytes ≡ Ok r → r.1 ≡ drop (k + 4) whole
unfolding word_at
word_rest k whole bytes r at h =
    ap (λ (p : ℕ × List ℕ). p.1) (if_ok (nat_lt (length bytes) 4) _ r Short h) ∙ (ap (drop 4) at ∙ drop-drop 4 k whole)

known_rest : {A : Type 0} (o : Option A) (rest : List ℕ) (r : A × List ℕ) → known o rest ≡ Ok r → r.1 ≡ rest
known_rest {A} (Some x) rest r h = let e : (let p : A × List ℕ = (x, rest) in p) ≡ r = cc in sym (ap (λ (p : A × List ℕ). p.1) e)
known_rest None rest r h = cc

half_rest : (bytes : List ℕ) (r : Half × List ℕ) → half_at bytes ≡ Ok r → r.1 ≡ drop 4 bytes
unfolding half_at
half_rest bytes r h =
    let w = went (word_at bytes) (λ n. known (half_of n.0) n.1) r h in
    known_rest (half_of w.mid.0) w.mid.1 r w.next ∙ word_rest 0 bytes bytes w.mid refl w.first

node_rest : (k : ℕ) (whole bytes : List ℕ) (r : Node × List ℕ) → bytes ≡ drop k whole → node_at bytes ≡ Ok r → r.1 ≡ drop (k + 4) whole
unfolding node_at
node_rest k whole bytes r at h =
    let w = went (word_at bytes) (λ n. known (node_of n.0) n.1) r h in
    known_rest (node_of w.mid.0) w.mid.1 r w.next ∙ word_rest k whole bytes w.mid at w.first

-- a header, field by field

abbrev Headed : Type 0
Headed = Result (Head × List ℕ) XdrFault

abbrev with_opcode : Half → Node → Node → ℕ → ℕ → ℕ → ℕ → ℕ × List ℕ → Headed
with_opcode half from to epoch number boot stamp opcode =
    Ok (record { half = half; from = from; to = to; epoch = epoch; number = number; boot = boot; stamp = stamp; opcode = opcode.0 }, opcode.1)

abbrev with_stamp : Half → Node → Node → ℕ → ℕ → ℕ → ℕ × List ℕ → Headed
with_stamp half from to epoch number boot stamp = word_at stamp.1 >>= with_opcode half from to epoch number boot stamp.0

abbrev with_boot : Half → Node → Node → ℕ → ℕ → ℕ × List ℕ → Headed
with_boot half from to epoch number boot = word_at boot.1 >>= with_stamp half from to epoch number boot.0

abbrev with_number : Half → Node → Node → ℕ → ℕ × List ℕ → Headed
with_number half from to epoch number = word_at number.1 >>= with_boot half from to epoch number.0

abbrev with_epoch : Half → Node → Node → ℕ × List ℕ → Headed
with_epoch half from to epoch = word_at epoch.1 >>= with_number half from to epoch.0

abbrev with_to : Half → Node → Node × List ℕ → Headed
with_to half from to = word_at to.1 >>= with_epoch half from to.0

abbrev with_from : Half → Node × List ℕ → Headed
with_from half from = node_at from.1 >>= with_to half from.0

abbrev with_half : Half × List ℕ → Headed
with_half half = node_at half.1 >>= with_from half.0

-- a header takes 32 bytes: each field goes on behind the one before

opcode_end : (bytes : List ℕ) (half : Half) (from : Node) (to : Node) (epoch : ℕ) (number : ℕ) (boot : ℕ) (stamp : ℕ) (opcode : ℕ × List ℕ) (r : Head × List ℕ) → opcode.1 ≡ drop 32 bytes → with_opcode half from to epoch number boot stamp opcode ≡ Ok r → r.1 ≡ drop 32 bytes
opcode_end bytes half from to epoch number boot stamp opcode r at h =
    let whole : Head × List ℕ = (record { half = half; from = from; to = to; epoch = epoch; number = number; boot = boot; stamp = stamp; opcode = opcode.0 }, opcode.1) in
    let e : whole ≡ r = cc in
    sym (ap (λ (p : Head × List ℕ). p.1) e) ∙ at

stamp_end : (bytes : List ℕ) (half : Half) (from : Node) (to : Node) (epoch : ℕ) (number : ℕ) (boot : ℕ) (stamp : ℕ × List ℕ) (r : Head × List ℕ) → stamp.1 ≡ drop 28 bytes → with_stamp half from to epoch number boot stamp ≡ Ok r → r.1 ≡ drop 32 bytes
stamp_end bytes half from to epoch number boot stamp r at h =
    let w = went (word_at stamp.1) (with_opcode half from to epoch number boot stamp.0) r h in
    opcode_end bytes half from to epoch number boot stamp.0 w.mid r (word_rest 28 bytes stamp.1 w.mid at w.first) w.next

boot_end : (bytes : List ℕ) (half : Half) (from : Node) (to : Node) (epoch : ℕ) (number : ℕ) (boot : ℕ × List ℕ) (r : Head × List ℕ) → boot.1 ≡ drop 24 bytes → with_boot half from to epoch number boot ≡ Ok r → r.1 ≡ drop 32 bytes
boot_end bytes half from to epoch number boot r at h =
    let w = went (word_at boot.1) (with_stamp half from to epoch number boot.0) r h in
    stamp_end bytes half from to epoch number boot.0 w.mid r (word_rest 24 bytes boot.1 w.mid at w.first) w.next

number_end : (bytes : List ℕ) (half : Half) (from : Node) (to : Node) (epoch : ℕ) (number : ℕ × List ℕ) (r : Head × List ℕ) → number.1 ≡ drop 20 bytes → with_number half from to epoch number ≡ Ok r → r.1 ≡ drop 32 bytes
number_end bytes half from to epoch number r at h =
    let w = went (word_at number.1) (with_boot half from to epoch number.0) r h in
    boot_end bytes half from to epoch number.0 w.mid r (word_rest 20 bytes number.1 w.mid at w.first) w.next

epoch_end : (bytes : List ℕ) (half : Half) (from : Node) (to : Node) (epoch : ℕ × List ℕ) (r : Head × List ℕ) → epoch.1 ≡ drop 16 bytes → with_epoch half from to epoch ≡ Ok r → r.1 ≡ drop 32 bytes
epoch_end bytes half from to epoch r at h =
    let w = went (word_at epoch.1) (with_number half from to epoch.0) r h in
    number_end bytes half from to epoch.0 w.mid r (word_rest 16 bytes epoch.1 w.mid at w.first) w.next

to_end : (bytes : List ℕ) (half : Half) (from : Node) (to : Node × List ℕ) (r : Head × List ℕ) → to.1 ≡ drop 12 bytes → with_to half from to ≡ Ok r → r.1 ≡ drop 32 bytes
to_end bytes half from to r at h =
    let w = went (word_at to.1) (with_epoch half from to.0) r h in
    epoch_end bytes half from to.0 w.mid r (word_rest 12 bytes to.1 w.mid at w.first) w.next

from_end : (bytes : List ℕ) (half : Half) (from : Node × List ℕ) (r : Head × List ℕ) → from.1 ≡ drop 8 bytes → with_from half from ≡ Ok r → r.1 ≡ drop 32 bytes
from_end bytes half from r at h =
    let w = went (node_at from.1) (with_to half from.0) r h in
    to_end bytes half from.0 w.mid r (node_rest 8 bytes from.1 w.mid at w.first) w.next

half_end : (bytes : List ℕ) (half : Half × List ℕ) (r : Head × List ℕ) → half.1 ≡ drop 4 bytes → with_half half ≡ Ok r → r.1 ≡ drop 32 bytes
half_end bytes half r at h =
    let w = went (node_at half.1) (with_from half.0) r h in
    from_end bytes half.0 w.mid r (node_rest 4 bytes half.1 w.mid at w.first) w.next

pub head_rest : (bytes : List ℕ) (r : Head × List ℕ) → head_at bytes ≡ Ok r → r.1 ≡ drop 32 bytes
unfolding head_at
head_rest bytes r h =
    let w = went (half_at bytes) with_half r h in
    half_end bytes w.mid r (half_rest bytes w.mid w.first) w.next

-- ---- the code of a reply

is_pos_zero : (z : ℤ) → is_zero z ≡ true → z ≡ pos 0
is_pos_zero (pos n) h = ap pos (eqb-true n 0 h)
is_pos_zero (negsuc n) h = cc

-- behind a code that isn't 0 there is no reply
replied_zero : (opcode : ℕ) (zero : Bool) (bytes : List ℕ) (reply : Reply) → answer_at cell_replies opcode zero bytes ≡ Ok (Some reply) → zero ≡ true
unfolding answer_at
replied_zero opcode true bytes reply h = refl
replied_zero opcode false bytes reply h =
    let a = bind_ok (fields_to_end_at [] bytes) (λ nothing. Ok None) (Some reply) h in
    cc

carried_code : (opcode : ℕ) (code : ℤ) (bytes : List ℕ) (reply : Option Reply) → answer_at cell_replies opcode (is_zero code) bytes ≡ Ok reply → code ≡ code_carried (carried_reply code reply)
carried_code opcode code bytes (Some reply) h = is_pos_zero code (replied_zero opcode (is_zero code) bytes reply h)
carried_code opcode code bytes None h = refl

replied_code : (opcode : ℕ) (bytes : List ℕ) (r : ℤ × Option Reply) → replied_at cell_replies opcode bytes ≡ Ok r → code_read (signed_at bytes) ≡ code_carried (carried_reply r.0 r.1)
unfolding replied_at
replied_code opcode bytes r h =
    let a = bind_ok (in_place 0 (signed_at bytes)) _ r h in
    let b = bind_ok (answer_at cell_replies opcode (is_zero a.0.0) a.0.1) _ r a.2 in
    let same : a.0.0 ≡ code_carried (carried_reply a.0.0 b.0) = carried_code opcode a.0.0 a.0.1 b.0 b.1 in
    ap code_read (in_place_ok 0 (signed_at bytes) a.0 a.1) ∙ (same ∙ ap (λ (x : ℤ × Option Reply). code_carried (carried_reply x.0 x.1)) (shape_ok_is (a.0.0, b.0) r b.2))

heard_code : (head : Head) (bytes : List ℕ) (read : Result (ℤ × Option Reply) ShapeFault) (m : Message) → replied_at cell_replies head.opcode bytes ≡ read → received_reply head read ≡ Whole m → code_read (signed_at bytes) ≡ code_carried m.carried
heard_code head bytes (Ok r) m at h = replied_code head.opcode bytes r at ∙ ap (λ (n : Message). code_carried n.carried) (whole_of _ m h)
heard_code head bytes (Err f) m at h = cc

-- what isn't a reply is received under its own half
call_half : (head : Head) (read : Result (List ℕ × Call) ShapeFault) (m : Message) → received_call head read ≡ Whole m → head.half ≡ m.head.half
call_half head (Ok c) m h = ap (λ (n : Message). n.head.half) (whole_of _ m h)
call_half head (Err f) m h = cc

notice_half : (head : Head) (read : Result (List Field) ShapeFault) (m : Message) → received_notice head read ≡ Whole m → head.half ≡ m.head.half
notice_half head (Ok fs) m h = ap (λ (n : Message). n.head.half) (whole_of _ m h)
notice_half head (Err f) m h = cc

behind_code : (head : Head) (half : Half) (rest : List ℕ) (m : Message) → head.half ≡ half → m.head.half ≡ halves.Reply → read_body all_calls head half rest ≡ Whole m → code_read (signed_at rest) ≡ code_carried m.carried
behind_code head halves.Call rest m is reply h =
    let read = asked_at cell_calls head.opcode rest in
    let e : halves.Call ≡ halves.Reply = sym is ∙ (call_half head read m (was_served (is_among all_calls head.opcode) (received_call head read) head m h) ∙ reply) in
    cc
behind_code head halves.Reply rest m is reply h = heard_code head rest (replied_at cell_replies head.opcode rest) m refl h
behind_code head halves.Boot rest m is reply h =
    let e : halves.Boot ≡ halves.Reply = sym is ∙ (notice_half head (fields_to_end_at [] rest) m h ∙ reply) in
    cc

found_code : (bytes : List ℕ) (m : Message) (o : Result (Head × List ℕ) XdrFault) → head_at bytes ≡ o → m.head.half ≡ halves.Reply → read_behind_head all_calls o ≡ Whole m → code_at bytes ≡ code_carried m.carried
unfolding code_at
found_code bytes m (Ok h) at reply w =
    ap (λ (rest : List ℕ). code_read (signed_at rest)) (sym (head_rest bytes h at)) ∙ behind_code h.0 h.0.half h.1 m refl reply w
found_code bytes m (Err e) at reply w = cc

-- the code of a reply stands in its bytes
pub reply_code : (bytes : List ℕ) (m : Message) → m.head.half ≡ halves.Reply → received bytes ≡ Whole m → code_at bytes ≡ code_carried m.carried
unfolding received_by
reply_code bytes m reply w = found_code bytes m (head_at bytes) refl reply w

-- ---- messages

code_same : (half : Half) (a b : ℤ) → (half ≡ halves.Reply → a ≡ b) → code_text half a ≡ code_text half b
unfolding code_text
code_same halves.Call a b same = refl
code_same halves.Reply a b same = ap (λ (z : ℤ). code_text halves.Reply z) (same refl)
code_same halves.Boot a b same = refl

sent_same : (wire : Bool) (place : ℕ) (h : Head) (a b : ℤ) (bytes : List ℕ) → (h.half ≡ halves.Reply → a ≡ b) → sent_text wire place h a bytes ≡ sent_text wire place h b bytes
unfolding sent_text
sent_same wire place h a b bytes same =
    ap (λ (t : List ℕ). codes "sent " ++ (decimal place ++ (codes " " ++ (head_text h ++ (t ++ (tail_text wire bytes ++ codes "\n")))))) (code_same h.half a b same)

-- the bytes of a message are its spelling, and are read as it
pub parcel_same : (wire : Bool) (place : ℕ) (p : Parcel) (m : Message) → p.head ≡ m.head → p.bytes ≡ spelled m → received p.bytes ≡ Whole m → sent_text wire place p.head (code_at p.bytes) p.bytes ≡ message_text wire place m
unfolding message_text
parcel_same wire place p m head bytes read =
    ap (λ (h : Head). sent_text wire place h (code_at p.bytes) p.bytes) head
    ∙ (sent_same wire place m.head (code_at p.bytes) (code_carried m.carried) p.bytes (λ reply. reply_code p.bytes m reply read)
    ∙ ap (λ (b : List ℕ). sent_text wire place m.head (code_carried m.carried) b) bytes)

others_are : {A : Type 0} {x y : A} {xs ys : List A} → x ∷ xs ≡ y ∷ ys → xs ≡ ys
others_are h = cc

pub parcels_length : (ps : List Parcel) (ms : List Message) → parcels_read ps ≡ messages_spelled ms → length ps ≡ length ms
parcels_length [] [] h = refl
parcels_length [] (m ∷ ms) h = cc
parcels_length (p ∷ ps) [] h = cc
parcels_length (p ∷ ps) (m ∷ ms) h = ap (λ (n : ℕ). suc n) (parcels_length ps ms (others_are h))
