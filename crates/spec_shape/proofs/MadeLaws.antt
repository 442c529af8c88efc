-- What makes a table sound: each slot hands out what is of its kind, and each row's maker a message of that row.
use Rattle.std.proofs.Common.{◌≡◌, ℕ, Bool, true, false, cond, eqb, List, [], ◌∷◌, ◌++◌, Option, Some, None, refl, sym, ap, subst, ◌∙◌, append_assoc, append-nil}
use Rattle.std.specs.Prelude.{nat_eq, ◌==◌, find, map}
use Rattle.std.specs.Option.{option_map}
use Rattle.std.proofs.lemmas.Bool.{eqb-true, eqb-false, eq-eqb, ne_eqb}
use Rattle.spec_shape.specs.declared.kinds.Kind.{Kind}
use Rattle.spec_shape.specs.declared.kinds.Kind.TheVariants as kinds
use Rattle.spec_shape.specs.declared.kinds.Field.{Field}
use Rattle.spec_shape.specs.declared.kinds.Field.TheVariants as fields
use Rattle.spec_shape.specs.Taking.{◌>>=◌, no_more, taken_behind, word_first, signed_first, volume_kind_first, server_first, fid_first, store_status_first, status_first, callback_first, sync_first, octets_first, fids_first, callbacks_first, statuses_first, volumes_first, entry_first}
use Rattle.spec_shape.specs.Tables.{kinds_in, IsOf, AreOf}
use Rattle.spec_shape.specs.Rows.{MessageRow, MessageTable, table_rows, made_in, message_of, Made}

-- ---- slots

-- a field that is taken from the front, as what it holds
pub record Taken {A : Type 0} (field : A → Field) (first : List Field → Option (A × List Field)) (f : Field) (fs : List Field) : Type 0 where
  pub value : A
  pub is : field value ≡ f
  pub taken : first (f ∷ fs) ≡ Some (value, fs)

-- each field of the kind is taken so
pub record IsSlot {A : Type 0} (kind : Kind) (field : A → Field) (first : List Field → Option (A × List Field)) : Type 0 where
  pub takes : (f : Field) (fs : List Field) → IsOf kind f → Taken field first f fs

word_taken : (f : Field) (fs : List Field) → IsOf kinds.Word f → Taken fields.Word word_first f fs
word_taken (fields.Word x) fs h = record { value = x; is = refl; taken = refl }
word_taken _ fs h = absurd h

pub word : IsSlot kinds.Word fields.Word word_first
word = record { takes = word_taken }

signed_taken : (f : Field) (fs : List Field) → IsOf kinds.Signed f → Taken fields.Signed signed_first f fs
signed_taken (fields.Signed x) fs h = record { value = x; is = refl; taken = refl }
signed_taken _ fs h = absurd h

pub signed : IsSlot kinds.Signed fields.Signed signed_first
signed = record { takes = signed_taken }

volume_kind_taken : (f : Field) (fs : List Field) → IsOf kinds.VolumeKind f → Taken fields.VolumeKind volume_kind_first f fs
volume_kind_taken (fields.VolumeKind x) fs h = record { value = x; is = refl; taken = refl }
volume_kind_taken _ fs h = absurd h

pub volume_kind : IsSlot kinds.VolumeKind fields.VolumeKind volume_kind_first
volume_kind = record { takes = volume_kind_taken }

server_taken : (f : Field) (fs : List Field) → IsOf kinds.Server f → Taken fields.Server server_first f fs
server_taken (fields.Server x) fs h = record { value = x; is = refl; taken = refl }
server_taken _ fs h = absurd h

pub server : IsSlot kinds.Server fields.Server server_first
server = record { takes = server_taken }

entry_taken : (f : Field) (fs : List Field) → IsOf kinds.Entry f → Taken fields.Entry entry_first f fs
entry_taken (fields.Entry x) fs h = record { value = x; is = refl; taken = refl }
entry_taken _ fs h = absurd h

pub entry : IsSlot kinds.Entry fields.Entry entry_first
entry = record { takes = entry_taken }

fid_taken : (f : Field) (fs : List Field) → IsOf kinds.Fid f → Taken fields.Fid fid_first f fs
fid_taken (fields.Fid x) fs h = record { value = x; is = refl; taken = refl }
fid_taken _ fs h = absurd h

pub fid : IsSlot kinds.Fid fields.Fid fid_first
fid = record { takes = fid_taken }

store_status_taken : (f : Field) (fs : List Field) → IsOf kinds.StoreStatus f → Taken fields.StoreStatus store_status_first f fs
store_status_taken (fields.StoreStatus x) fs h = record { value = x; is = refl; taken = refl }
store_status_taken _ fs h = absurd h

pub store_status : IsSlot kinds.StoreStatus fields.StoreStatus store_status_first
store_status = record { takes = store_status_taken }

status_taken : (f : Field) (fs : List Field) → IsOf kinds.FetchStatus f → Taken fields.FetchStatus status_first f fs
status_taken (fields.FetchStatus x) fs h = record { value = x; is = refl; taken = refl }
status_taken _ fs h = absurd h

pub status : IsSlot kinds.FetchStatus fields.FetchStatus status_first
status = record { takes = status_taken }

callback_taken : (f : Field) (fs : List Field) → IsOf kinds.CallBack f → Taken fields.CallBack callback_first f fs
callback_taken (fields.CallBack x) fs h = record { value = x; is = refl; taken = refl }
callback_taken _ fs h = absurd h

pub callback : IsSlot kinds.CallBack fields.CallBack callback_first
callback = record { takes = callback_taken }

sync_taken : (f : Field) (fs : List Field) → IsOf kinds.VolSync f → Taken fields.VolSync sync_first f fs
sync_taken (fields.VolSync x) fs h = record { value = x; is = refl; taken = refl }
sync_taken _ fs h = absurd h

pub sync : IsSlot kinds.VolSync fields.VolSync sync_first
sync = record { takes = sync_taken }

opaque_taken : (most : ℕ) (f : Field) (fs : List Field) → IsOf (kinds.Opaque most) f → Taken fields.Opaque octets_first f fs
opaque_taken most (fields.Opaque x) fs h = record { value = x; is = refl; taken = refl }
opaque_taken most _ fs h = absurd h

pub opaque : {most : ℕ} → IsSlot (kinds.Opaque most) fields.Opaque octets_first
opaque {most} = record { takes = opaque_taken most }

fids_taken : (most : ℕ) (f : Field) (fs : List Field) → IsOf (kinds.Fids most) f → Taken fields.Fids fids_first f fs
fids_taken most (fields.Fids x) fs h = record { value = x; is = refl; taken = refl }
fids_taken most _ fs h = absurd h

pub fids : {most : ℕ} → IsSlot (kinds.Fids most) fields.Fids fids_first
fids {most} = record { takes = fids_taken most }

callbacks_taken : (most : ℕ) (f : Field) (fs : List Field) → IsOf (kinds.CallBacks most) f → Taken fields.CallBacks callbacks_first f fs
callbacks_taken most (fields.CallBacks x) fs h = record { value = x; is = refl; taken = refl }
callbacks_taken most _ fs h = absurd h

pub callbacks : {most : ℕ} → IsSlot (kinds.CallBacks most) fields.CallBacks callbacks_first
callbacks {most} = record { takes = callbacks_taken most }

statuses_taken : (most : ℕ) (f : Field) (fs : List Field) → IsOf (kinds.Statuses most) f → Taken fields.Statuses statuses_first f fs
statuses_taken most (fields.Statuses x) fs h = record { value = x; is = refl; taken = refl }
statuses_taken most _ fs h = absurd h

pub statuses : {most : ℕ} → IsSlot (kinds.Statuses most) fields.Statuses statuses_first
statuses {most} = record { takes = statuses_taken most }

volumes_taken : (most : ℕ) (f : Field) (fs : List Field) → IsOf (kinds.Volumes most) f → Taken fields.Volumes volumes_first f fs
volumes_taken most (fields.Volumes x) fs h = record { value = x; is = refl; taken = refl }
volumes_taken most _ fs h = absurd h

pub volumes : {most : ℕ} → IsSlot (kinds.Volumes most) fields.Volumes volumes_first
volumes {most} = record { takes = volumes_taken most }

-- ---- rows

-- behind fields in front, fields of these kinds make a message of this row
pub record MakesBehind {X : Type 0} (table : MessageTable X) (opcode : ℕ) (front : List Field) (make : List Field → Option X) (ks : List Kind) : Type 0 where
  pub makes : (fs : List Field) → AreOf ks fs → Made table opcode (make fs) (front ++ fs)

-- what is taken, given to this maker
abbrev pub given : {V X : Type 0} → (V → X) → (List Field → Option V) → List Field → Option X
given maker taken fs = option_map maker (taken fs)

ends : {X : Type 0} (table : MessageTable X) (opcode : ℕ) (front : List Field) (x : X) → (table.row x).fields ≡ front → (table.row x).opcode ≡ opcode → (fs : List Field) → AreOf [] fs → Made table opcode (given (λ u. x) no_more fs) (front ++ fs)
ends table opcode front x e n [] h = record { message = x; is = refl; fields_are = e ∙ sym (append-nil front); opcode_is = n }
ends table opcode front x e n (f ∷ fs) h = absurd h

pub at_end : {X : Type 0} {table : MessageTable X} {opcode : ℕ} {front : List Field} (x : X) → (table.row x).fields ≡ front → (table.row x).opcode ≡ opcode → MakesBehind table opcode front (given (λ u. x) no_more) []
at_end {X} {table} {opcode} {front} x e n = record { makes = ends table opcode front x e n }

made_of : {A V X : Type 0} (maker : A × V → X) (x : A) (o : Option V) → option_map maker (o >>= λ v. Some (x, v)) ≡ option_map (λ v. maker (x, v)) o
made_of maker x (Some v) = refl
made_of maker x None = refl

goes_on : {A V X : Type 0} (table : MessageTable X) (opcode : ℕ) (front : List Field) (kind : Kind) (field : A → Field) (first : List Field → Option (A × List Field)) (rest : List Field → Option V) (maker : A × V → X) (ks : List Kind)
    → IsSlot kind field first → ((x : A) → MakesBehind table opcode (front ++ field x ∷ []) (given (λ v. maker (x, v)) rest) ks) → (fs : List Field) → AreOf (kind ∷ ks) fs → Made table opcode (given maker (taken_behind first rest) fs) (front ++ fs)
unfolding taken_behind
goes_on table opcode front kind field first rest maker ks is next (f ∷ fs) h =
    let t = is.takes f fs h.0 in
    let m = (next t.value).makes fs h.1 in
    let all : (front ++ field t.value ∷ []) ++ fs ≡ front ++ f ∷ fs = append_assoc front (field t.value ∷ []) fs ∙ ap (λ (g : Field). front ++ g ∷ fs) t.is in
    record { message = m.message; is = rw t.taken (made_of maker t.value (rest fs) ∙ m.is); fields_are = m.fields_are ∙ all; opcode_is = m.opcode_is }
goes_on table opcode front kind field first rest maker ks is next [] h = absurd h

pub slot : {A V X : Type 0} {table : MessageTable X} {opcode : ℕ} {front : List Field} {kind : Kind} {field : A → Field} {first : List Field → Option (A × List Field)} {ks : List Kind} (rest : List Field → Option V) (maker : A × V → X)
    → IsSlot kind field first → ((x : A) → MakesBehind table opcode (front ++ field x ∷ []) (given (λ v. maker (x, v)) rest) ks) → MakesBehind table opcode front (given maker (taken_behind first rest)) (kind ∷ ks)
slot {A} {V} {X} {table} {opcode} {front} {kind} {field} {first} {ks} rest maker is next = record { makes = goes_on table opcode front kind field first rest maker ks is next }

-- ---- tables

-- the row of this message makes its messages
abbrev pub RowMakes : {X : Type 0} → MessageTable X → X → Type 0
RowMakes table x = let r = table.row x in MakesBehind table r.opcode [] r.make r.kinds

eqb_swap : (a b : ℕ) → eqb a b ≡ true → nat_eq b a ≡ true
eqb_swap a b e = eq-eqb b a (sym (eqb-true a b e))

eqb_apart : (a b : ℕ) → eqb a b ≡ false → nat_eq b a ≡ false
eqb_apart a b e = ne_eqb b a (λ same. eqb-false a b e (sym same))

some_is : {A : Type 0} (x y : A) → Some x ≡ Some y → x ≡ y
some_is x y e = cc

made_here : {X : Type 0} (table : MessageTable X) (n : ℕ) (r : MessageRow X) (o : Option (ℕ × List Kind)) (rest : Option X) (ks : List Kind) (fs : List Field) (b : Bool)
    → eqb r.opcode n ≡ b → MakesBehind table r.opcode [] r.make r.kinds → (option_map (λ x. x.1) o ≡ Some ks → Made table n rest fs)
    → option_map (λ x. x.1) (cond b (Some (r.opcode, r.kinds)) o) ≡ Some ks → AreOf ks fs → Made table n (cond (nat_eq n r.opcode) (r.make fs) rest) fs
made_here {X} table n r o rest ks fs true e makes further is are =
    let here : r.kinds ≡ ks = some_is r.kinds ks is in
    let m = makes.makes fs (subst (λ (k : List Kind). AreOf k fs) (sym here) are) in
    let yes : nat_eq n r.opcode ≡ true = eqb_swap r.opcode n e in
    record {
      message = m.message;
      is = ap (λ (b : Bool). cond b (r.make fs) rest) yes ∙ m.is;
      fields_are = m.fields_are;
      opcode_is = m.opcode_is ∙ eqb-true r.opcode n e;
    }
made_here {X} table n r o rest ks fs false e makes further is are =
    let later = further is in
    let no : nat_eq n r.opcode ≡ false = eqb_apart r.opcode n e in
    record {
      message = later.message;
      is = ap (λ (b : Bool). cond b (r.make fs) rest) no ∙ later.is;
      fields_are = later.fields_are;
      opcode_is = later.opcode_is;
    }

abbrev rows_of_each : {X : Type 0} → MessageTable X → List X → List (ℕ × List Kind)
rows_of_each table each = map (λ x. let r = table.row x in (r.opcode, r.kinds)) each

-- fields of the kinds of any of these rows make its message
made_by : {X : Type 0} (table : MessageTable X) (each : List X) → ((x : X) → RowMakes table x)
    → (n : ℕ) (ks : List Kind) (fs : List Field) → kinds_in n (rows_of_each table each) ≡ Some ks → AreOf ks fs → Made table n (made_in n fs (map table.row each)) fs
made_by table [] all n ks fs e h = absurd cc
made_by table (x ∷ xs) all n ks fs e h =
    let r = table.row x in
    made_here table n r (find (λ p. p.0 == n) (rows_of_each table xs)) (made_in n fs (map table.row xs)) ks fs (r.opcode == n) refl (all x) (λ later. made_by table xs all n ks fs later h) e h

pub all_make : {X : Type 0} (table : MessageTable X) → ((x : X) → RowMakes table x) → (n : ℕ) (ks : List Kind) (fs : List Field) → kinds_in n (table_rows table) ≡ Some ks → AreOf ks fs → Made table n (message_of table n fs) fs
all_make table all n ks fs e h = made_by table table.each all n ks fs e h
