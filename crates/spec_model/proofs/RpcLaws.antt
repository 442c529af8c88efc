-- Calls and replies over any sound table: what is read is spelled so, what is spelled is read, and no spelling begins
-- another.
use Rattle.std.proofs.Common.{◌≡◌, ℕ, ◌+◌, ◌^◌, ◌<◌, ◌≤◌, Bool, true, false, cond, List, [], ◌∷◌, ◌++◌, length, Option, Some, None, Result, Ok, Err, ℤ, refl, sym, ap, subst, ◌∙◌, append_assoc, append-nil, arith, eqb-true}
use Rattle.std.specs.Prelude.{IsSome, IfOk, FitsSigned, pos, negsuc}
use Rattle.std.specs.Int.{w32}
use Rattle.std.specs.List.{AllByRecursion}
use Rattle.afs_num.specs.declared.types.Half.{Half}
use Rattle.afs_num.specs.declared.types.Half.TheVariants as halves
use Rattle.afs_num.specs.declared.types.Head.{Head}
use Rattle.afs_num.specs.declared.types.Code.{Code}
use Rattle.afs_xdr.specs.declared.faults.XdrFault.{XdrFault}
use Rattle.afs_xdr.specs.Words.{AreWords, word, words, opaque, opaque_at}
use Rattle.spec_shape.specs.declared.faults.ShapeFault.{ShapeFault}
use Rattle.spec_shape.specs.declared.faults.ShapeFault.TheVariants as faults
use Rattle.spec_shape.specs.declared.kinds.Kind.{Kind}
use Rattle.spec_shape.specs.declared.kinds.Field.{Field}
use Rattle.spec_shape.specs.Spelling.{fields_spelled, IsSpellable}
use Rattle.spec_shape.specs.Reading.{◌>>=◌, in_place, signed_at, fields_to_end_at, GivesShape}
use Rattle.spec_shape.specs.Tables.{kinds_in, AreOf, AreInRange}
use Rattle.spec_shape.specs.Rows.{MessageTable, table_rows, IsWithin, IsSoundTable}
use Rattle.spec_shape.specs.Bodies.{row_at, body_at}
use Rattle.spec_shape.proofs.Codecs.{IsBytes, Takes, opaque_codec, signed_codec}
use Rattle.spec_shape.proofs.FieldLaws.{bind_ok, in_place_ok, shape_ok_is}
use Rattle.spec_shape.proofs.BodyLaws.{last_fields_take, last_fields_again, last_fields_more, extra, row_ok, row_of, row_again, body_takes, body_again, body_more}
use Rattle.spec_shape.proofs.Spellable.{AreOf-each}
use Rattle.spec_model.specs.Heads.{user_limit, head_words, head_at, signed_word, is_zero}
use Rattle.spec_model.specs.Rpc.{IsHead, IsHeadFor, IsCall, IsAnswer, IsReply, IsOpcodeOf, CanAnswer, call_bytes, spelled_call, answer_fields, reply_bytes, spelled_reply, SpellsCall, SpellsReply, asked_at, answer_at, replied_at, same_half, in_head, half_head_at, call_at, reply_at, IsValueOrNoMemory, ReadsCall, ReadsReply, coded}
use Rattle.spec_model.proofs.HeadLaws.{head_takes, head_again}

abbrev fine : {A : Type 0} → A → Result A ShapeFault
fine x = Ok x

ok_is_no_err : {A : Type 0} (x : A) (f : ShapeFault) → fine x ≡ Err f → ⊥
ok_is_no_err x f e = absurd cc

abbrev three : {A B C : Type 0} → A → B → C → A × B × C
three x y z = (x, y, z)

-- ---- a header of one half

in_head_ok : {A : Type 0} (r : Result A XdrFault) (x : A) → in_head r ≡ Ok x → r ≡ Ok x
in_head_ok (Ok y) x e = cc
in_head_ok (Err f) x e = absurd cc

kept_ok : {A : Type 0} (b : Bool) (x y : A) (f : ShapeFault) → cond b (Ok x) (Err f) ≡ Ok y → (b ≡ true) × (x ≡ y)
kept_ok true x y f e = (refl, cc)
kept_ok false x y f e = absurd cc

same_half-true : (a b : Half) → same_half a b ≡ true → a ≡ b
same_half-true halves.Call halves.Call e = refl
same_half-true halves.Reply halves.Reply e = refl
same_half-true halves.Boot halves.Boot e = refl
same_half-true _ _ e = absurd cc

same_half-refl : (a : Half) → same_half a a ≡ true
same_half-refl halves.Call = refl
same_half-refl halves.Reply = refl
same_half-refl halves.Boot = refl

record TakesHalf (half : Half) (bytes : List ℕ) (h : Head) (rest : List ℕ) : Type 0 where
  takes : Takes bytes (words (head_words h)) rest
  is_head : IsHead half h

half_head_takes : (half : Half) (bytes : List ℕ) (h : Head) (rest : List ℕ) → IsBytes bytes → half_head_at half bytes ≡ Ok (h, rest) → TakesHalf half bytes h rest
unfolding half_head_at
half_head_takes half bytes h rest fits e =
    let a = bind_ok (in_head (head_at bytes)) (λ head. cond (same_half head.0.half half) (Ok head) (Err _)) (h, rest) e in
    let k = kept_ok (same_half a.0.0.half half) a.0 (h, rest) _ a.2 in
    let t = head_takes bytes a.0.0 a.0.1 fits (in_head_ok (head_at bytes) a.0 a.1) in
    let here : TakesHalf half bytes a.0.0 a.0.1 = record { takes = t.takes; is_head = (same_half-true a.0.0.half half k.0, t.fits) } in
    subst (λ (p : Head × List ℕ). TakesHalf half bytes p.0 p.1) k.1 here

half_head_again : (half : Half) (h : Head) (rest : List ℕ) → IsHead half h → half_head_at half (words (head_words h) ++ rest) ≡ Ok (h, rest)
unfolding half_head_at
half_head_again half h rest is =
    let same : same_half h.half half ≡ true = ap (λ (x : Half). same_half h.half x) (sym is.0) ∙ same_half-refl h.half in
    rw (head_again h rest is.1, same) refl

-- ---- behind the header of a call

pub record TakesAsked {X : Type 0} (table : MessageTable X) (opcode : ℕ) (bytes user : List ℕ) (call : X) : Type 0 where
  pub whole : bytes ≡ call_bytes table user call
  pub opcode_is : opcode ≡ (table.row call).opcode
  pub user_fits : length user ≤ user_limit
  pub within : IsWithin table call
  pub in_range : AreInRange (table.row call).fields

pub asked_takes : {X : Type 0} (table : MessageTable X) → IsSoundTable table → (opcode : ℕ) (bytes user : List ℕ) (call : X) → IsBytes bytes → asked_at table opcode bytes ≡ Ok (user, call) → TakesAsked table opcode bytes user call
unfolding asked_at
asked_takes {X} table sound opcode bytes user call fits e =
    let a = bind_ok (row_at table opcode) (λ ks. in_place 0 (opaque_at user_limit bytes) >>= λ u. body_at table opcode ks u.1 >>= λ c. Ok (u.0, c)) (user, call) e in
    let b = bind_ok (in_place 0 (opaque_at user_limit bytes)) (λ u. body_at table opcode a.0 u.1 >>= λ c. Ok (u.0, c)) (user, call) a.2 in
    let d = bind_ok (body_at table opcode a.0 b.0.1) (λ c. Ok (b.0.0, c)) (user, call) b.2 in
    let u = (opaque_codec user_limit).takes bytes b.0.0 b.0.1 fits (in_place_ok 0 (opaque_at user_limit bytes) b.0 b.1) in
    let t = body_takes table sound opcode a.0 b.0.1 d.0 u.0.rest_fits a.1 d.1 in
    let here : TakesAsked table opcode bytes b.0.0 d.0 = record {
      whole = u.0.parts ∙ ap (λ (rest : List ℕ). opaque b.0.0 ++ rest) t.whole;
      opcode_is = t.opcode_is;
      user_fits = u.1.0;
      within = t.within;
      in_range = t.in_range;
    } in
    subst (λ (p : List ℕ × X). TakesAsked table opcode bytes p.0 p.1) (shape_ok_is (b.0.0, d.0) (user, call) d.2) here

pub asked_again : {X : Type 0} (table : MessageTable X) → IsSoundTable table → (user : List ℕ) (call : X) → length user ≤ user_limit → IsWithin table call → AreInRange (table.row call).fields
    → asked_at table (table.row call).opcode (call_bytes table user call) ≡ Ok (user, call)
unfolding asked_at
asked_again table sound user call few within in_range =
    let k = row_of table call within in
    let small : length user < 2 ^ 32 = omega arith in
    rw (row_again table (table.row call).opcode k.0 k.1, (opaque_codec user_limit).again user (fields_spelled (table.row call).fields) (few, small), body_again table sound k.0 call k.2 in_range) refl

pub asked_more : {X : Type 0} (table : MessageTable X) (user : List ℕ) (call : X) (byte : ℕ) (more : List ℕ) → length user ≤ user_limit → IsWithin table call → AreInRange (table.row call).fields
    → asked_at table (table.row call).opcode (call_bytes table user call ++ byte ∷ more) ≡ Err (extra (length (table.row call).fields))
unfolding asked_at
asked_more table user call byte more few within in_range =
    let k = row_of table call within in
    let small : length user < 2 ^ 32 = omega arith in
    let regrouped = append_assoc (opaque user) (fields_spelled (table.row call).fields) (byte ∷ more) in
    rw (regrouped, row_again table (table.row call).opcode k.0 k.1, (opaque_codec user_limit).again user (fields_spelled (table.row call).fields ++ byte ∷ more) (few, small), body_more table (table.row call).opcode k.0 (table.row call).fields byte more k.2 in_range) refl

-- ---- behind the header of a reply

-- nothing is left where no field was to come
pub none_left : (bytes : List ℕ) (fs : List Field) → IsBytes bytes → fields_to_end_at [] bytes ≡ Ok fs → bytes ≡ []
none_left bytes [] fits e = (last_fields_take [] bytes [] fits e).whole
none_left bytes (f ∷ fs) fits e = absurd (last_fields_take [] bytes (f ∷ fs) fits e).are_of

pub record TakesAnswer {X : Type 0} (table : MessageTable X) (opcode : ℕ) (code : ℤ) (bytes : List ℕ) (reply : Option X) : Type 0 where
  pub whole : bytes ≡ fields_spelled (answer_fields table reply)
  pub answer : IsAnswer table opcode code reply

answer_takes : {X : Type 0} (table : MessageTable X) → IsSoundTable table → (opcode : ℕ) (code : ℤ) (zero : Bool) (bytes : List ℕ) (reply : Option X) → IsBytes bytes → is_zero code ≡ zero → answer_at table opcode zero bytes ≡ Ok reply
    → TakesAnswer table opcode code bytes reply
unfolding answer_at
answer_takes {X} table sound opcode code true bytes reply fits z e =
    let a = bind_ok (row_at table opcode) (λ ks. body_at table opcode ks bytes >>= λ x. Ok (Some x)) reply e in
    let b = bind_ok (body_at table opcode a.0 bytes) (λ x. Ok (Some x)) reply a.2 in
    let t = body_takes table sound opcode a.0 bytes b.0 fits a.1 b.1 in
    let here : TakesAnswer table opcode code bytes (Some b.0) = record { whole = t.whole; answer = (z, t.opcode_is, t.within, t.in_range) } in
    subst (λ (x : Option X). TakesAnswer table opcode code bytes x) (shape_ok_is (Some b.0) reply b.2) here
answer_takes {X} table sound opcode code false bytes reply fits z e =
    let a = bind_ok (fields_to_end_at [] bytes) (λ nothing. Ok None) reply e in
    let here : TakesAnswer table opcode code bytes None = record { whole = none_left bytes a.0 fits a.1; answer = z } in
    subst (λ (x : Option X). TakesAnswer table opcode code bytes x) (shape_ok_is None reply a.2) here

pub record TakesReplied {X : Type 0} (table : MessageTable X) (opcode : ℕ) (bytes : List ℕ) (code : ℤ) (reply : Option X) : Type 0 where
  pub whole : bytes ≡ reply_bytes table code reply
  pub code_fits : FitsSigned w32 code
  pub answer : IsAnswer table opcode code reply

pub replied_takes : {X : Type 0} (table : MessageTable X) → IsSoundTable table → (opcode : ℕ) (bytes : List ℕ) (code : ℤ) (reply : Option X) → IsBytes bytes → replied_at table opcode bytes ≡ Ok (code, reply) → TakesReplied table opcode bytes code reply
unfolding replied_at
replied_takes {X} table sound opcode bytes code reply fits e =
    let a = bind_ok (in_place 0 (signed_at bytes)) (λ z. answer_at table opcode (is_zero z.0) z.1 >>= λ x. Ok (z.0, x)) (code, reply) e in
    let b = bind_ok (answer_at table opcode (is_zero a.0.0) a.0.1) (λ x. Ok (a.0.0, x)) (code, reply) a.2 in
    let c = signed_codec.takes bytes a.0.0 a.0.1 fits (in_place_ok 0 (signed_at bytes) a.0 a.1) in
    let t = answer_takes table sound opcode a.0.0 (is_zero a.0.0) a.0.1 b.0 c.0.rest_fits refl b.1 in
    let here : TakesReplied table opcode bytes a.0.0 b.0 = record { whole = c.0.parts ∙ ap (λ (rest : List ℕ). word (signed_word a.0.0) ++ rest) t.whole; code_fits = c.1; answer = t.answer } in
    subst (λ (p : ℤ × Option X). TakesReplied table opcode bytes p.0 p.1) (shape_ok_is (a.0.0, b.0) (code, reply) b.2) here

answer_again : {X : Type 0} (table : MessageTable X) → IsSoundTable table → (opcode : ℕ) (code : ℤ) (reply : Option X) → IsAnswer table opcode code reply → answer_at table opcode (is_zero code) (fields_spelled (answer_fields table reply)) ≡ Ok reply
unfolding answer_at
answer_again table sound opcode code None a = rw (a, last_fields_again [] [] tt tt) refl
answer_again table sound opcode code (Some reply) a =
    let k = row_of table reply a.2 in
    rw (a.0, a.1, row_again table (table.row reply).opcode k.0 k.1, body_again table sound k.0 reply k.2 a.3) refl

pub replied_again : {X : Type 0} (table : MessageTable X) → IsSoundTable table → (opcode : ℕ) (code : ℤ) (reply : Option X) → FitsSigned w32 code → IsAnswer table opcode code reply → replied_at table opcode (reply_bytes table code reply) ≡ Ok (code, reply)
unfolding replied_at
replied_again table sound opcode code reply small a = rw (signed_codec.again code (fields_spelled (answer_fields table reply)) small, answer_again table sound opcode code reply a) refl

answer_more : {X : Type 0} (table : MessageTable X) (opcode : ℕ) (code : ℤ) (reply : Option X) (byte : ℕ) (more : List ℕ) → IsAnswer table opcode code reply
    → answer_at table opcode (is_zero code) (fields_spelled (answer_fields table reply) ++ byte ∷ more) ≡ Err (extra (length (answer_fields table reply)))
unfolding answer_at
answer_more table opcode code None byte more a = rw (a, last_fields_more [] [] byte more tt tt) refl
answer_more table opcode code (Some reply) byte more a =
    let k = row_of table reply a.2 in
    rw (a.0, a.1, row_again table (table.row reply).opcode k.0 k.1, body_more table (table.row reply).opcode k.0 (table.row reply).fields byte more k.2 a.3) refl

pub replied_more : {X : Type 0} (table : MessageTable X) (opcode : ℕ) (code : ℤ) (reply : Option X) (byte : ℕ) (more : List ℕ) → FitsSigned w32 code → IsAnswer table opcode code reply
    → replied_at table opcode (reply_bytes table code reply ++ byte ∷ more) ≡ Err (extra (length (answer_fields table reply)))
unfolding replied_at
replied_more table opcode code reply byte more small a =
    let fs = fields_spelled (answer_fields table reply) in
    rw (append_assoc (word (signed_word code)) fs (byte ∷ more), signed_codec.again code (fs ++ byte ∷ more) small, answer_more table opcode code reply byte more a) refl

-- ---- whole calls

call_takes : {X : Type 0} (table : MessageTable X) → IsSoundTable table → (bytes : List ℕ) (h : Head) (user : List ℕ) (call : X) → IsBytes bytes → call_at table bytes ≡ Ok (h, user, call) → SpellsCall table h user call bytes
unfolding call_at
call_takes {X} table sound bytes h user call fits e =
    let a = bind_ok (half_head_at halves.Call bytes) (λ head. asked_at table head.0.opcode head.1 >>= λ c. Ok (head.0, c.0, c.1)) (h, user, call) e in
    let b = bind_ok (asked_at table a.0.0.opcode a.0.1) (λ c. Ok (a.0.0, c.0, c.1)) (h, user, call) a.2 in
    let t0 = half_head_takes halves.Call bytes a.0.0 a.0.1 fits a.1 in
    let t1 = asked_takes table sound a.0.0.opcode a.0.1 b.0.0 b.0.1 t0.takes.rest_fits b.1 in
    let here : SpellsCall table a.0.0 b.0.0 b.0.1 bytes = (
      record { head = t0.is_head; opcode = t1.opcode_is; user_fits = t1.user_fits; within = t1.within; in_range = t1.in_range },
      t0.takes.parts ∙ ap (λ (rest : List ℕ). words (head_words a.0.0) ++ rest) t1.whole,
    ) in
    subst (λ (p : Head × List ℕ × X). SpellsCall table p.0 p.1 p.2 bytes) (shape_ok_is (a.0.0, b.0.0, b.0.1) (h, user, call) b.2) here

call_again : {X : Type 0} (table : MessageTable X) → IsSoundTable table → (bytes : List ℕ) (h : Head) (user : List ℕ) (call : X) → SpellsCall table h user call bytes → call_at table bytes ≡ Ok (h, user, call)
unfolding call_at
call_again table sound bytes h user call s =
    rw (s.1, half_head_again halves.Call h (call_bytes table user call) s.0.head, s.0.opcode, asked_again table sound user call s.0.user_fits s.0.within s.0.in_range) refl

call_more : {X : Type 0} (table : MessageTable X) (bytes : List ℕ) (h : Head) (user : List ℕ) (call : X) (byte : ℕ) (more : List ℕ) → SpellsCall table h user call bytes
    → call_at table (bytes ++ byte ∷ more) ≡ Err (extra (length (table.row call).fields))
unfolding call_at
call_more table bytes h user call byte more s =
    let regrouped = append_assoc (words (head_words h)) (call_bytes table user call) (byte ∷ more) in
    rw (s.1, regrouped, half_head_again halves.Call h (call_bytes table user call ++ byte ∷ more) s.0.head, s.0.opcode, asked_more table user call byte more s.0.user_fits s.0.within s.0.in_range) refl

pub read_call_is_spelled : {X : Type 0} (table : MessageTable X) → IsSoundTable table → (bytes : List ℕ) (r : Result (Head × List ℕ × X) ShapeFault) → IsBytes bytes → ReadsCall table bytes r → IfOk r (λ m. SpellsCall table m.0 m.1 m.2 bytes)
read_call_is_spelled table sound bytes (Ok m) fits reads = call_takes table sound bytes m.0 m.1 m.2 fits reads
read_call_is_spelled table sound bytes (Err e) fits reads = tt

-- a result is the value that was read, as its view tells it
gives_value : {X Y : Type 0} (view : X → Y) (back : Y → X) → ((x : X) → back (view x) ≡ x) → (read : Result Y ShapeFault) (y : Y) (r : Result X ShapeFault) → GivesShape view read r → read ≡ Ok y → IsValueOrNoMemory (back y) r
gives_value {X} {Y} view back undone read y (Ok x) gives e = sym (undone x) ∙ ap back (shape_ok_is (view x) y (sym gives ∙ e))
gives_value view back undone read y (Err faults.OutOfMemory) gives e = tt
gives_value view back undone read y (Err (faults.Head f)) gives e = ok_is_no_err y (faults.Head f) (sym e ∙ gives)
gives_value view back undone read y (Err (faults.NoRow n)) gives e = ok_is_no_err y (faults.NoRow n) (sym e ∙ gives)
gives_value view back undone read y (Err (faults.Field i f)) gives e = ok_is_no_err y (faults.Field i f) (sym e ∙ gives)

pub spelled_call_is_read : {X : Type 0} (table : MessageTable X) → IsSoundTable table → (bytes : List ℕ) (r : Result (Head × List ℕ × X) ShapeFault) (h : Head) (user : List ℕ) (call : X) → ReadsCall table bytes r → SpellsCall table h user call bytes → IsValueOrNoMemory (h, user, call) r
spelled_call_is_read {X} table sound bytes r h user call reads s = gives_value (λ m. m) (λ m. m) (λ m. refl) (call_at table bytes) (h, user, call) r reads (call_again table sound bytes h user call s)

-- where all of some bytes and a front of them are spellings, the front is all
pub no_call_begins : {X : Type 0} (table : MessageTable X) → IsSoundTable table → (h g : Head) (user name : List ℕ) (call other : X) (bytes more : List ℕ) → SpellsCall table h user call bytes → SpellsCall table g name other (bytes ++ more) → (more ≡ []) × (three h user call ≡ three g name other)
no_call_begins table sound h g user name call other bytes [] s t =
    (refl, shape_ok_is _ _ (sym (call_again table sound bytes h user call s) ∙ (ap (call_at table) (sym (append-nil bytes)) ∙ call_again table sound (bytes ++ []) g name other t)))
no_call_begins table sound h g user name call other bytes (byte ∷ more) s t =
    absurd (ok_is_no_err (g, name, other) (extra (length (table.row call).fields)) (sym (call_again table sound (bytes ++ byte ∷ more) g name other t) ∙ call_more table bytes h user call byte more s))

-- ---- whole replies

some_row : (o : Option (List Kind)) (ks : List Kind) → o ≡ Some ks → IsSome o
some_row (Some x) ks e = refl
some_row None ks e = absurd cc

reply_takes : {X : Type 0} (table : MessageTable X) → IsSoundTable table → (bytes : List ℕ) (h : Head) (code : ℤ) (reply : Option X) → IsBytes bytes → reply_at table bytes ≡ Ok (h, code, reply) → SpellsReply table h code reply bytes
unfolding reply_at
reply_takes {X} table sound bytes h code reply fits e =
    let a = bind_ok (half_head_at halves.Reply bytes) (λ head. row_at table head.0.opcode >>= λ ks. replied_at table head.0.opcode head.1 >>= λ r. Ok (head.0, r.0, r.1)) (h, code, reply) e in
    let b = bind_ok (row_at table a.0.0.opcode) (λ ks. replied_at table a.0.0.opcode a.0.1 >>= λ r. Ok (a.0.0, r.0, r.1)) (h, code, reply) a.2 in
    let c = bind_ok (replied_at table a.0.0.opcode a.0.1) (λ r. Ok (a.0.0, r.0, r.1)) (h, code, reply) b.2 in
    let t0 = half_head_takes halves.Reply bytes a.0.0 a.0.1 fits a.1 in
    let t1 = replied_takes table sound a.0.0.opcode a.0.1 c.0.0 c.0.1 t0.takes.rest_fits c.1 in
    let row = some_row (kinds_in a.0.0.opcode (table_rows table)) b.0 (row_ok a.0.0.opcode (kinds_in a.0.0.opcode (table_rows table)) b.0 b.1) in
    let here : SpellsReply table a.0.0 c.0.0 c.0.1 bytes = (
      record { head = t0.is_head; code_fits = t1.code_fits; has_row = row; answer = t1.answer },
      t0.takes.parts ∙ ap (λ (rest : List ℕ). words (head_words a.0.0) ++ rest) t1.whole,
    ) in
    subst (λ (p : Head × ℤ × Option X). SpellsReply table p.0 p.1 p.2 bytes) (shape_ok_is (a.0.0, c.0.0, c.0.1) (h, code, reply) c.2) here

row_some : (o : Option (List Kind)) → IsSome o → (ks : List Kind) × (o ≡ Some ks)
row_some (Some ks) h = (ks, refl)
row_some None h = absurd cc

reply_again : {X : Type 0} (table : MessageTable X) → IsSoundTable table → (bytes : List ℕ) (h : Head) (code : ℤ) (reply : Option X) → SpellsReply table h code reply bytes → reply_at table bytes ≡ Ok (h, code, reply)
unfolding reply_at
reply_again table sound bytes h code reply s =
    let k = row_some (kinds_in h.opcode (table_rows table)) s.0.has_row in
    rw (s.1, half_head_again halves.Reply h (reply_bytes table code reply) s.0.head, row_again table h.opcode k.0 k.1, replied_again table sound h.opcode code reply s.0.code_fits s.0.answer) refl

reply_more : {X : Type 0} (table : MessageTable X) (bytes : List ℕ) (h : Head) (code : ℤ) (reply : Option X) (byte : ℕ) (more : List ℕ) → SpellsReply table h code reply bytes
    → reply_at table (bytes ++ byte ∷ more) ≡ Err (extra (length (answer_fields table reply)))
unfolding reply_at
reply_more table bytes h code reply byte more s =
    let k = row_some (kinds_in h.opcode (table_rows table)) s.0.has_row in
    let regrouped = append_assoc (words (head_words h)) (reply_bytes table code reply) (byte ∷ more) in
    rw (s.1, regrouped, half_head_again halves.Reply h (reply_bytes table code reply ++ byte ∷ more) s.0.head, row_again table h.opcode k.0 k.1, replied_more table h.opcode code reply byte more s.0.code_fits s.0.answer) refl

pub read_reply_is_spelled : {X : Type 0} (table : MessageTable X) → IsSoundTable table → (bytes : List ℕ) (r : Result (Head × Code × Option X) ShapeFault) → IsBytes bytes → ReadsReply table bytes r → IfOk r (λ m. SpellsReply table m.0 m.1.0 m.2 bytes)
read_reply_is_spelled table sound bytes (Ok m) fits reads = reply_takes table sound bytes m.0 m.1.0 m.2 fits reads
read_reply_is_spelled table sound bytes (Err e) fits reads = tt

abbrev uncoded : {X : Type 0} → Head × ℤ × Option X → Head × Code × Option X
uncoded m = (m.0, record { 0 = m.1 }, m.2)

pub spelled_reply_is_read : {X : Type 0} (table : MessageTable X) → IsSoundTable table → (bytes : List ℕ) (r : Result (Head × Code × Option X) ShapeFault) (h : Head) (code : ℤ) (reply : Option X) → ReadsReply table bytes r → SpellsReply table h code reply bytes
    → IsValueOrNoMemory (h, record { 0 = code }, reply) r
spelled_reply_is_read {X} table sound bytes r h code reply reads s = gives_value coded uncoded (λ m. refl) (reply_at table bytes) (h, code, reply) r reads (reply_again table sound bytes h code reply s)

pub no_reply_begins : {X : Type 0} (table : MessageTable X) → IsSoundTable table → (h g : Head) (code other : ℤ) (a b : Option X) (bytes more : List ℕ) → SpellsReply table h code a bytes → SpellsReply table g other b (bytes ++ more) → (more ≡ []) × (three h code a ≡ three g other b)
no_reply_begins table sound h g code other a b bytes [] s t =
    (refl, shape_ok_is _ _ (sym (reply_again table sound bytes h code a s) ∙ (ap (reply_at table) (sym (append-nil bytes)) ∙ reply_again table sound (bytes ++ []) g other b t)))
no_reply_begins table sound h g code other a b bytes (byte ∷ more) s t =
    absurd (ok_is_no_err (g, other, b) (extra (length (answer_fields table a))) (sym (reply_again table sound (bytes ++ byte ∷ more) g other b t) ∙ reply_more table bytes h code a byte more s))

-- ---- what fits a row can be written, and is spelled so under a header of its own

pub message_spellable : {X : Type 0} (table : MessageTable X) (x : X) → IsWithin table x → AllByRecursion IsSpellable (table.row x).fields
message_spellable table x h = let k = row_of table x h in AreOf-each k.0 (table.row x).fields k.2

pub answer_spellable : {X : Type 0} (table : MessageTable X) (code : ℤ) (reply : Option X) → CanAnswer table code reply → AllByRecursion IsSpellable (answer_fields table reply)
answer_spellable table code None h = tt
answer_spellable table code (Some reply) h = message_spellable table reply h.1

pub call_spells : {X : Type 0} (table : MessageTable X) (h : Head) (user : List ℕ) (call : X) (bytes : List ℕ) → length user ≤ user_limit → IsWithin table call → AreWords (head_words h) → AreInRange (table.row call).fields
    → bytes ≡ spelled_call table h user call → IsHeadFor halves.Call (table.row call).opcode h → SpellsCall table h user call bytes
call_spells table h user call bytes few within numbers in_range e head =
    (record { head = (head.1, record { from = head.0.0; to = head.0.1; numbers = numbers }); opcode = head.2; user_fits = few; within = within; in_range = in_range }, e)

pub own_row : {X : Type 0} (table : MessageTable X) (opcode : ℕ) (code : ℤ) (reply : Option X) → CanAnswer table code reply → IsOpcodeOf table opcode reply → IsSome (kinds_in opcode (table_rows table))
own_row table opcode code None can is = is
own_row table opcode code (Some reply) can is =
    let k = row_of table reply can.1 in
    some_row (kinds_in opcode (table_rows table)) k.0 (ap (λ (n : ℕ). kinds_in n (table_rows table)) is ∙ k.1)

answered : {X : Type 0} (table : MessageTable X) (opcode : ℕ) (code : ℤ) (reply : Option X) → CanAnswer table code reply → AreInRange (answer_fields table reply) → IsOpcodeOf table opcode reply → IsAnswer table opcode code reply
answered table opcode code None can in_range is = can
answered table opcode code (Some reply) can in_range is = (can.0, is, can.1, in_range)

pub reply_spells : {X : Type 0} (table : MessageTable X) (h : Head) (code : ℤ) (reply : Option X) (bytes : List ℕ) → CanAnswer table code reply → AreWords (head_words h) → FitsSigned w32 code → AreInRange (answer_fields table reply)
    → bytes ≡ spelled_reply table h code reply → IsHeadFor halves.Reply h.opcode h → IsOpcodeOf table h.opcode reply → SpellsReply table h code reply bytes
reply_spells table h code reply bytes can numbers small in_range e head is = (
  record {
    head = (head.1, record { from = head.0.0; to = head.0.1; numbers = numbers });
    code_fits = small;
    has_row = own_row table h.opcode code reply can is;
    answer = answered table h.opcode code reply can in_range is;
  },
  e,
)
