-- A message that is spelled is read again, one that is read is spelled so, and no spelling begins another.
use Rattle.std.proofs.Common.{◌≡◌, ℕ, Bool, true, false, cond, List, [], ◌∷◌, ◌++◌, length, Option, Some, None, Result, Ok, Err, refl, sym, ap, subst, ◌∙◌, append_assoc, append-nil, arith, eqb-true}
use Rattle.std.specs.Prelude.{ℤ, pos, negsuc, FitsSigned, IsSome}
use Rattle.std.specs.Int.{w32}
use Rattle.afs_num.specs.declared.types.Half.{Half}
use Rattle.afs_num.specs.declared.types.Half.TheVariants as halves
use Rattle.afs_num.specs.declared.types.Head.{Head}
use Rattle.afs_num.specs.declared.types.Code.{Code}
use Rattle.afs_num.specs.declared.messages.Call.{Call}
use Rattle.afs_num.specs.declared.messages.Reply.{Reply}
use Rattle.afs_num.specs.declared.messages.Carried.{Carried}
use Rattle.afs_num.specs.declared.messages.Carried.TheVariants as carried
use Rattle.afs_num.specs.declared.messages.Message.{Message}
use Rattle.afs_num.specs.declared.messages.Received.{Received}
use Rattle.afs_num.specs.declared.messages.Received.TheVariants.{Nothing, Unserved, Unreadable, Whole}
use Rattle.afs_xdr.specs.declared.faults.XdrFault.{XdrFault}
use Rattle.afs_xdr.specs.Words.{words}
use Rattle.spec_shape.specs.declared.faults.ShapeFault.{ShapeFault}
use Rattle.spec_shape.specs.declared.faults.ShapeFault.TheVariants as faults
use Rattle.spec_shape.specs.declared.kinds.Field.{Field}
use Rattle.spec_shape.specs.Reading.{fields_to_end_at}
use Rattle.spec_shape.specs.Tables.{kinds_in, is_among}
use Rattle.spec_shape.specs.Rows.{message_of, Made}
use Rattle.spec_shape.proofs.Codecs.{IsBytes}
use Rattle.spec_shape.proofs.BodyLaws.{last_fields_again, last_fields_more, row_of}
use Rattle.spec_shape.proofs.InterfaceLaws.{kinds_among}
use Rattle.spec_model.specs.Heads.{head_words, head_at, is_zero, IsSoundHead, FitsHead}
use Rattle.spec_model.specs.Rpc.{IsCall, IsAnswer, IsReply, call_bytes, asked_at, replied_at}
use Rattle.spec_model.specs.CellRows.{cell_calls, cell_replies, reply_rows, call_number, all_calls}
use Rattle.spec_model.specs.SpellingLaws.{CallsAreFound, RepliesAreFound, RefusalsAreFound, RowsMakeCalls, RowsMakeReplies}
use Rattle.spec_model.specs.Messages.{carried_bytes, spelled, received_call, carried_reply, received_reply, received_notice, read_body, read_behind_head, called_at, received_by, received, IsSoundReceived, HasSpelling, IsSoundCarried, IsInRange, FitsMessage, FoundBy, is_whole, is_unserved}
use Rattle.spec_model.proofs.HeadLaws.{head_again, head_takes}
use Rattle.spec_model.proofs.RpcLaws.{TakesAsked, asked_takes, asked_again, asked_more, TakesReplied, replied_takes, replied_again, replied_more, none_left, own_row}
use Rattle.spec_model.proofs.CellMade.{calls_sound, replies_sound}

fits_head : (m : Message) → FitsMessage m → FitsHead m.head
fits_head m fits = record { from = fits.sound.0.0; to = fits.sound.0.1; numbers = fits.numbers }

zero_fits : FitsSigned w32 (pos 0)
zero_fits = omega arith

-- ---- what is spelled is read again

-- a call is among those that are served
abbrev IsServed : List ℕ → ℕ → Carried → Type 0
IsServed served opcode (carried.Call user call) = is_among served opcode ≡ true
IsServed served opcode c = Unit {0}

body_again : (served : List ℕ) (head : Head) (half : Half) (c : Carried) → IsServed served head.opcode c → IsSoundCarried half head.opcode c → IsInRange c → read_body served head half (carried_bytes c) ≡ Whole (record { head = head; carried = c })
body_again served head half (carried.Call user call) is s r = rw (s.0, is, s.1, asked_again cell_calls calls_sound user call s.2 s.3 r) refl
body_again served head half (carried.Refusal code) is s r = rw (s.0, replied_again cell_replies replies_sound head.opcode code.0 None r s.1) refl
body_again served head half (carried.Reply reply) is s r = rw (s.0, replied_again cell_replies replies_sound head.opcode (pos 0) (Some reply) zero_fits (refl, s.1, s.2, r)) refl
body_again served head half carried.Notice is s r = rw (s, last_fields_again [] [] tt tt) refl

-- a call that has a row is served by some node
has_node : (half : Half) (opcode : ℕ) (c : Carried) → IsSoundCarried half opcode c → IsServed all_calls opcode c
has_node half opcode (carried.Call user call) s =
    let k = row_of cell_calls call s.3 in
    ap (is_among all_calls) s.1 ∙ kinds_among cell_calls cell_calls.each (cell_calls.row call).opcode k.0 k.1
has_node half opcode (carried.Refusal code) s = tt
has_node half opcode (carried.Reply reply) s = tt
has_node half opcode carried.Notice s = tt

message_served : (served : List ℕ) (m : Message) → IsServed served m.head.opcode m.carried → FitsMessage m → received_by served (spelled m) ≡ Whole m
unfolding received_by spelled
message_served served m is fits = rw (head_again m.head (carried_bytes m.carried) (fits_head m fits)) (body_again served m.head m.head.half m.carried is fits.sound.1 fits.in_range)

pub message_again : (m : Message) → FitsMessage m → received (spelled m) ≡ Whole m
message_again m fits = message_served all_calls m (has_node m.head.half m.head.opcode m.carried fits.sound.1) fits

-- ---- what is read is spelled so

-- all the bytes behind a header, and what they carry
record TakesBody (half : Half) (opcode : ℕ) (bytes : List ℕ) (c : Carried) : Type 0 where
  whole : bytes ≡ carried_bytes c
  sound : IsSoundCarried half opcode c
  in_range : IsInRange c

zero_is : (code : ℤ) → is_zero code ≡ true → code ≡ pos 0
zero_is (pos n) e = ap pos (eqb-true n 0 e)
zero_is (negsuc n) e = absurd cc

call_taken : (opcode : ℕ) (bytes user : List ℕ) (call : Call) → TakesAsked cell_calls opcode bytes user call → TakesBody halves.Call opcode bytes (carried.Call user call)
call_taken opcode bytes user call t = record { whole = t.whole; sound = (refl, t.opcode_is, t.user_fits, t.within); in_range = t.in_range }

reply_taken : (opcode : ℕ) (bytes : List ℕ) (code : ℤ) (reply : Option Reply) → TakesReplied cell_replies opcode bytes code reply → TakesBody halves.Reply opcode bytes (carried_reply code reply)
reply_taken opcode bytes code None t = record { whole = t.whole; sound = (refl, t.answer); in_range = t.code_fits }
reply_taken opcode bytes code (Some reply) t =
    let zero = subst (λ (z : ℤ). TakesReplied cell_replies opcode bytes z (Some reply)) (zero_is code t.answer.0) t in
    record { whole = zero.whole; sound = (refl, zero.answer.1, zero.answer.2); in_range = zero.answer.3 }

pub whole_of : (m n : Message) → ◌≡◌ {A = Received} (Whole m) (Whole n) → m ≡ n
whole_of m n e = cc

abbrev IsSpelled : List ℕ → Message → Type 0
IsSpelled bytes m = (spelled m ≡ bytes) × FitsMessage m

spelled_by : (bytes : List ℕ) (head : Head) (rest : List ℕ) (c : Carried) (m : Message) → bytes ≡ words (head_words head) ++ rest → FitsHead head → ◌≡◌ {A = Received} (Whole (record { head = head; carried = c })) (Whole m) → TakesBody head.half head.opcode rest c → IsSpelled bytes m
unfolding spelled
spelled_by bytes head rest c m parts fits is t =
    subst (IsSpelled bytes) (whole_of _ m is)
    (ap (λ (b : List ℕ). words (head_words head) ++ b) (sym t.whole) ∙ sym parts, record { sound = ((fits.from, fits.to), t.sound); numbers = fits.numbers; in_range = t.in_range })

call_spelled : (bytes : List ℕ) (head : Head) (rest : List ℕ) (read : Result (List ℕ × Call) ShapeFault) (m : Message) → bytes ≡ words (head_words head) ++ rest → IsBytes rest → FitsHead head → halves.Call ≡ head.half
    → asked_at cell_calls head.opcode rest ≡ read → received_call head read ≡ Whole m → IsSpelled bytes m
call_spelled bytes head rest (Ok c) m parts left fits is at e =
    let t = call_taken head.opcode rest c.0 c.1 (asked_takes cell_calls calls_sound head.opcode rest c.0 c.1 left at) in
    spelled_by bytes head rest (carried.Call c.0 c.1) m parts fits e (subst (λ (h : Half). TakesBody h head.opcode rest (carried.Call c.0 c.1)) is t)
call_spelled bytes head rest (Err e) m parts left fits is at h = absurd cc

-- what is found as a message was served
pub was_served : (b : Bool) (found : Received) (head : Head) (m : Message) → cond b found (Unserved head) ≡ Whole m → found ≡ Whole m
was_served true found head m e = e
was_served false found head m e = absurd cc

reply_spelled : (bytes : List ℕ) (head : Head) (rest : List ℕ) (read : Result (ℤ × Option Reply) ShapeFault) (m : Message) → bytes ≡ words (head_words head) ++ rest → IsBytes rest → FitsHead head → halves.Reply ≡ head.half
    → replied_at cell_replies head.opcode rest ≡ read → received_reply head read ≡ Whole m → IsSpelled bytes m
reply_spelled bytes head rest (Ok r) m parts left fits is at e =
    let t = reply_taken head.opcode rest r.0 r.1 (replied_takes cell_replies replies_sound head.opcode rest r.0 r.1 left at) in
    spelled_by bytes head rest (carried_reply r.0 r.1) m parts fits e (subst (λ (h : Half). TakesBody h head.opcode rest (carried_reply r.0 r.1)) is t)
reply_spelled bytes head rest (Err f) m parts left fits is at e = absurd cc

notice_spelled : (bytes : List ℕ) (head : Head) (rest : List ℕ) (read : Result (List Field) ShapeFault) (m : Message) → bytes ≡ words (head_words head) ++ rest → IsBytes rest → FitsHead head → halves.Boot ≡ head.half
    → fields_to_end_at [] rest ≡ read → received_notice head read ≡ Whole m → IsSpelled bytes m
notice_spelled bytes head rest (Ok fs) m parts left fits is at e =
    spelled_by bytes head rest carried.Notice m parts fits e (record { whole = none_left rest fs left at; sound = sym is; in_range = tt })
notice_spelled bytes head rest (Err f) m parts left fits is at e = absurd cc

body_spelled : (served bytes : List ℕ) (head : Head) (rest : List ℕ) (half : Half) (m : Message) → bytes ≡ words (head_words head) ++ rest → IsBytes rest → FitsHead head → half ≡ head.half → read_body served head half rest ≡ Whole m → IsSpelled bytes m
body_spelled served bytes head rest halves.Call m parts left fits is e =
    let read = asked_at cell_calls head.opcode rest in
    call_spelled bytes head rest read m parts left fits is refl (was_served (is_among served head.opcode) (received_call head read) head m e)
body_spelled served bytes head rest halves.Reply m parts left fits is e = reply_spelled bytes head rest (replied_at cell_replies head.opcode rest) m parts left fits is refl e
body_spelled served bytes head rest halves.Boot m parts left fits is e = notice_spelled bytes head rest (fields_to_end_at [] rest) m parts left fits is refl e

head_spelled : (served bytes : List ℕ) (m : Message) (o : Result (Head × List ℕ) XdrFault) → IsBytes bytes → head_at bytes ≡ o → read_behind_head served o ≡ Whole m → IsSpelled bytes m
head_spelled served bytes m (Ok h) fits at e =
    let t = head_takes bytes h.0 h.1 fits at in
    body_spelled served bytes h.0 h.1 h.0.half m t.takes.parts t.takes.rest_fits t.fits refl e
head_spelled served bytes m (Err f) fits at e = absurd cc

read_spelled_by : (served bytes : List ℕ) (m : Message) → IsBytes bytes → received_by served bytes ≡ Whole m → (spelled m ≡ bytes) × FitsMessage m
unfolding received_by
read_spelled_by served bytes m fits e = head_spelled served bytes m (head_at bytes) fits refl e

pub read_spelled : (bytes : List ℕ) (m : Message) → IsBytes bytes → received bytes ≡ Whole m → (spelled m ≡ bytes) × FitsMessage m
read_spelled bytes m fits e = read_spelled_by all_calls bytes m fits e

-- ---- what a node receives is sound

-- where a message is received, it has a spelling
abbrev WholeHasSpelling : Received → Type 0
WholeHasSpelling r = (m : Message) → r ≡ Whole m → HasSpelling m

call_sound : (b : Bool) (head : Head) (read : Result (List ℕ × Call) ShapeFault) → IsSoundHead head → WholeHasSpelling (cond b (received_call head read) (Unserved head)) → IsSoundReceived (cond b (received_call head read) (Unserved head))
call_sound true head (Ok c) nodes whole = whole _ refl
call_sound true head (Err e) nodes whole = nodes
call_sound false head read nodes whole = nodes

reply_sound : (head : Head) (read : Result (ℤ × Option Reply) ShapeFault) → WholeHasSpelling (received_reply head read) → IsSoundReceived (received_reply head read)
reply_sound head (Ok r) whole = whole _ refl
reply_sound head (Err f) whole = tt

notice_sound : (head : Head) (read : Result (List Field) ShapeFault) → WholeHasSpelling (received_notice head read) → IsSoundReceived (received_notice head read)
notice_sound head (Ok fs) whole = whole _ refl
notice_sound head (Err f) whole = tt

body_sound : (served : List ℕ) (head : Head) (half : Half) (rest : List ℕ) → IsSoundHead head → WholeHasSpelling (read_body served head half rest) → IsSoundReceived (read_body served head half rest)
body_sound served head halves.Call rest nodes whole = call_sound (is_among served head.opcode) head (asked_at cell_calls head.opcode rest) nodes whole
body_sound served head halves.Reply rest nodes whole = reply_sound head (replied_at cell_replies head.opcode rest) whole
body_sound served head halves.Boot rest nodes whole = notice_sound head (fields_to_end_at [] rest) whole

head_sound : (served bytes : List ℕ) (o : Result (Head × List ℕ) XdrFault) → IsBytes bytes → head_at bytes ≡ o → WholeHasSpelling (read_behind_head served o) → IsSoundReceived (read_behind_head served o)
head_sound served bytes (Ok h) fits at whole = let t = head_takes bytes h.0 h.1 fits at in body_sound served h.0 h.0.half h.1 (t.fits.from, t.fits.to) whole
head_sound served bytes (Err f) fits at whole = tt

pub read_sound : (served bytes : List ℕ) → IsBytes bytes → IsSoundReceived (received_by served bytes)
unfolding received_by
read_sound served bytes fits = head_sound served bytes (head_at bytes) fits refl (λ m e. (read_spelled_by served bytes m fits e).1.sound)

-- ---- what is found is what the tables spell

call_fits : (h : Head) (user : List ℕ) (call : Call) → IsCall cell_calls h user call → FitsMessage (record { head = h; carried = carried.Call user call })
call_fits h user call is = record { sound = ((is.head.1.from, is.head.1.to), (is.head.0, is.opcode, is.user_fits, is.within)); numbers = is.head.1.numbers; in_range = is.in_range }

fits_call : (h : Head) (user : List ℕ) (call : Call) → FitsMessage (record { head = h; carried = carried.Call user call }) → IsCall cell_calls h user call
fits_call h user call f = let s = f.sound.1 in
    record { head = (s.0, record { from = f.sound.0.0; to = f.sound.0.1; numbers = f.numbers }); opcode = s.1; user_fits = s.2; within = s.3; in_range = f.in_range }

pub calls_are_found : CallsAreFound
unfolding spelled
calls_are_found bytes h user call fits =
    let m : Message = record { head = h; carried = carried.Call user call } in
    (λ s. ap received s.1 ∙ message_again m (call_fits h user call s.0), λ e. let r = read_spelled bytes m fits e in (fits_call h user call r.1, sym r.0))

reply_fits : (h : Head) (reply : Reply) → IsReply cell_replies h (pos 0) (Some reply) → FitsMessage (record { head = h; carried = carried.Reply reply })
reply_fits h reply is = record { sound = ((is.head.1.from, is.head.1.to), (is.head.0, is.answer.1, is.answer.2)); numbers = is.head.1.numbers; in_range = is.answer.3 }

fits_reply : (h : Head) (reply : Reply) → FitsMessage (record { head = h; carried = carried.Reply reply }) → IsReply cell_replies h (pos 0) (Some reply)
fits_reply h reply f = let s = f.sound.1 in
    record {
      head = (s.0, record { from = f.sound.0.0; to = f.sound.0.1; numbers = f.numbers });
      code_fits = zero_fits;
      has_row = own_row cell_replies h.opcode (pos 0) (Some reply) (refl, s.2) s.1;
      answer = (refl, s.1, s.2, f.in_range);
    }

pub replies_are_found : RepliesAreFound
unfolding spelled
replies_are_found bytes h reply fits =
    let m : Message = record { head = h; carried = carried.Reply reply } in
    (λ s. ap received s.1 ∙ message_again m (reply_fits h reply s.0), λ e. let r = read_spelled bytes m fits e in (fits_reply h reply r.1, sym r.0))

refusal_fits : (h : Head) (code : Code) → IsReply cell_replies h code.0 None → FitsMessage (record { head = h; carried = carried.Refusal code })
refusal_fits h code is = record { sound = ((is.head.1.from, is.head.1.to), (is.head.0, is.answer)); numbers = is.head.1.numbers; in_range = is.code_fits }

fits_refusal : (h : Head) (code : Code) → IsSome (kinds_in h.opcode reply_rows) → FitsMessage (record { head = h; carried = carried.Refusal code }) → IsReply cell_replies h code.0 None
fits_refusal h code row f = let s = f.sound.1 in
    record { head = (s.0, record { from = f.sound.0.0; to = f.sound.0.1; numbers = f.numbers }); code_fits = f.in_range; has_row = row; answer = s.1 }

pub refusals_are_found : RefusalsAreFound
unfolding spelled
refusals_are_found bytes h code fits row =
    let m : Message = record { head = h; carried = carried.Refusal code } in
    (λ s. ap received s.1 ∙ message_again m (refusal_fits h code s.0), λ e. let r = read_spelled bytes m fits e in (fits_refusal h code row r.1, sym r.0))

is_some : {A : Type 0} (o : Option A) (x : A) → o ≡ Some x → IsSome o
is_some o x e = rw e refl

pub rows_make_calls : RowsMakeCalls
rows_make_calls opcode ks fs row are = let m = calls_sound.makes opcode ks fs row are in is_some (message_of cell_calls opcode fs) m.message m.is

pub rows_make_replies : RowsMakeReplies
rows_make_replies opcode ks fs row are = let m = replies_sound.makes opcode ks fs row are in is_some (message_of cell_replies opcode fs) m.message m.is

-- ---- what is spelled, with more behind it, is refused: reading ends at the last byte

-- there is no message in it
abbrev IsNotWhole : Received → Type 0
IsNotWhole Nothing = Unit {0}
IsNotWhole (Unserved head) = Unit {0}
IsNotWhole (Unreadable head) = Unit {0}
IsNotWhole (Whole m) = ⊥

either_refused : (b : Bool) (head other : Head) → IsNotWhole (cond b (Unreadable head) (Unserved other))
either_refused true head other = tt
either_refused false head other = tt

body_more : (served : List ℕ) (head : Head) (half : Half) (c : Carried) (byte : ℕ) (more : List ℕ) → IsSoundCarried half head.opcode c → IsInRange c → IsNotWhole (read_body served head half (carried_bytes c ++ byte ∷ more))
body_more served head half (carried.Call user call) byte more s r = rw (s.0, s.1, asked_more cell_calls user call byte more s.2 s.3 r) (either_refused _ _ _)
body_more served head half (carried.Refusal code) byte more s r = rw (s.0, replied_more cell_replies head.opcode code.0 None byte more r s.1) tt
body_more served head half (carried.Reply reply) byte more s r = rw (s.0, replied_more cell_replies head.opcode (pos 0) (Some reply) byte more zero_fits (refl, s.1, s.2, r)) tt
body_more served head half carried.Notice byte more s r = rw (s, last_fields_more [] [] byte more tt tt) tt

message_more : (m : Message) (byte : ℕ) (more : List ℕ) → FitsMessage m → IsNotWhole (received (spelled m ++ byte ∷ more))
unfolding received_by spelled
message_more m byte more fits =
    rw (append_assoc (words (head_words m.head)) (carried_bytes m.carried) (byte ∷ more), head_again m.head (carried_bytes m.carried ++ byte ∷ more) (fits_head m fits))
    (body_more all_calls m.head m.head.half m.carried byte more fits.sound.1 fits.in_range)

same_spelling : (m n : Message) → FitsMessage m → FitsMessage n → spelled m ≡ spelled n → m ≡ n
same_spelling m n f g e = whole_of m n (sym (message_again m f) ∙ (ap received e ∙ message_again n g))

-- no message's spelling begins another's
pub no_beginning : (m n : Message) (rest : List ℕ) → FitsMessage m → FitsMessage n → spelled m ++ rest ≡ spelled n → (m ≡ n) × (rest ≡ [])
no_beginning m n [] f g e = (same_spelling m n f g (sym (append-nil (spelled m)) ∙ e), refl)
no_beginning m n (byte ∷ more) f g e = absurd (subst IsNotWhole (ap received e ∙ message_again n g) (message_more m byte more f))

-- ---- what a node of one kind finds in the spelling of a message

call_found : (served : List ℕ) (head : Head) (user : List ℕ) (call : Call) (b : Bool) → is_among served (call_number call) ≡ b
    → FoundBy served (record { head = head; carried = carried.Call user call }) (cond b (Whole (record { head = head; carried = carried.Call user call })) (Unserved head))
call_found served head user call true e = is_whole refl
call_found served head user call false e = is_unserved user call refl e refl

called_found : (served : List ℕ) (head : Head) (user : List ℕ) (call : Call) → IsSoundCarried head.half head.opcode (carried.Call user call) → IsInRange (carried.Call user call)
    → FoundBy served (record { head = head; carried = carried.Call user call }) (called_at served head (carried_bytes (carried.Call user call)))
called_found served head user call s r =
    let asked = asked_again cell_calls calls_sound user call s.2 s.3 r in
    let read : asked_at cell_calls head.opcode (call_bytes cell_calls user call) ≡ Ok (user, call) = ap (λ (n : ℕ). asked_at cell_calls n (call_bytes cell_calls user call)) s.1 ∙ asked in
    let found = call_found served head user call (is_among served (call_number call)) refl in
    let same : called_at served head (carried_bytes (carried.Call user call)) ≡ cond (is_among served (call_number call)) (Whole (record { head = head; carried = carried.Call user call })) (Unserved head) =
    ap (λ (n : ℕ). cond (is_among served n) (received_call head (asked_at cell_calls head.opcode (call_bytes cell_calls user call))) (Unserved head)) s.1
    ∙ ap (λ (x : Result (List ℕ × Call) ShapeFault). cond (is_among served (call_number call)) (received_call head x) (Unserved head)) read in
    subst (FoundBy served (record { head = head; carried = carried.Call user call })) (sym same) found

body_found : (served : List ℕ) (head : Head) (half : Half) (c : Carried) → head.half ≡ half → IsSoundCarried half head.opcode c → IsInRange c → FoundBy served (record { head = head; carried = c }) (read_body served head half (carried_bytes c))
body_found served head half (carried.Call user call) is s r =
    let sound : IsSoundCarried head.half head.opcode (carried.Call user call) = (is ∙ s.0, s.1, s.2, s.3) in
    subst (λ (h : Half). FoundBy served (record { head = head; carried = carried.Call user call }) (read_body served head h (carried_bytes (carried.Call user call)))) (sym s.0) (called_found served head user call sound r)
body_found served head half (carried.Refusal code) is s r = is_whole (body_again served head half (carried.Refusal code) tt s r)
body_found served head half (carried.Reply reply) is s r = is_whole (body_again served head half (carried.Reply reply) tt s r)
body_found served head half carried.Notice is s r = is_whole (body_again served head half carried.Notice tt s r)

found_by : (served : List ℕ) (m : Message) → FitsMessage m → FoundBy served m (received_by served (spelled m))
unfolding received_by spelled
found_by served m fits = rw (head_again m.head (carried_bytes m.carried) (fits_head m fits)) (body_found served m.head m.head.half m.carried refl fits.sound.1 fits.in_range)

pub found_in : (served bytes : List ℕ) (m : Message) → IsBytes bytes → received bytes ≡ Whole m → FoundBy served m (received_by served bytes)
found_in served bytes m fits e =
    let s = read_spelled bytes m fits e in
    subst (λ (b : List ℕ). FoundBy served m (received_by served b)) s.0 (found_by served m s.1)
