-- The records of a server's journal, and the one table that spells them in both directions.
-- Where something is read from bytes, `.0` is what was read, and `.1` are the bytes behind it.
use Rattle.std.specs.Prelude.{◌≡◌, ◌+◌, ℕ, List, [], ◌∷◌, ◌++◌, length, map, Bool, true, false, ◌&&◌, not, Option, Some, None, is_some, nat_eq, nat_lt, if◌then◌else◌}
use Rattle.std.specs.List.{flat_map, list_all, AllByRecursion}
use Rattle.afs_num.specs.Nodes.{is_between, node_number, node_of}
use Rattle.afs_num.specs.declared.types.Node.{Node}
use Rattle.afs_num.specs.declared.vnodes.Vnode.{Vnode}
use Rattle.afs_num.specs.declared.records.RecordHead.{RecordHead}
use Rattle.afs_num.specs.declared.records.StoredVolume.{StoredVolume}
use Rattle.afs_num.specs.declared.records.RecordBody.{RecordBody}
use Rattle.afs_num.specs.declared.records.RecordBody.TheVariants as bodies
use Rattle.afs_num.specs.declared.records.StoreRecord.{StoreRecord}
use Rattle.spec_shape.specs.Taking.{◌>>=◌}
use Rattle.spec_ideal.specs.VnodeMaps.{most_vnodes}
use Rattle.spec_records.specs.Forms.{Form, word_form, text_form, image_form, ◌before◌, known_as, only, many_at, list_form}

-- ---- limits

-- at most so many bytes of a volume's name
abbrev pub most_name : ℕ
most_name = 32

-- at most so many bytes of a dump
abbrev pub most_dump : ℕ
most_dump = 33554432

-- any word counts the bytes of a kept reply
abbrev pub most_reply : ℕ
most_reply = 4294967295

-- ---- forms of words

-- a word from the first number to the last
abbrev pub between : ℕ → ℕ → Form ℕ
between low high = only (is_between low high) word_form

-- this word and no other
abbrev pub mark_form : ℕ → Form (Unit {0})
mark_form n = known_as word_form (λ u. n) (λ m. if nat_eq m n then Some tt else None)

-- 0 for a read-write volume, 1 for a read-only one, 2 for a backup
abbrev pub kind_form : Form ℕ
kind_form = between 0 2

-- servers are 1 to 8
abbrev pub server_form : Form ℕ
server_form = between 1 8

-- 0 or 1
abbrev pub flag_number : Bool → ℕ
flag_number b = if b then 1 else 0

abbrev pub flag_of : ℕ → Option Bool
flag_of n = if nat_eq n 0 then Some false else (if nat_eq n 1 then Some true else None)

abbrev pub flag_form : Form Bool
flag_form = known_as word_form flag_number flag_of

-- the caller whose reply is kept, by its number; 0 where none is. The location database calls no server.
abbrev pub caller_number : Option Node → ℕ
caller_number None = 0
caller_number (Some n) = node_number n

abbrev pub caller_numbered : ℕ → Option (Option Node)
caller_numbered n = if nat_eq n 0 then Some None else (node_of n >>= λ m. Some (Some m))

abbrev pub caller_form : Form (Option Node)
caller_form = known_as word_form caller_number caller_numbered

-- ---- the head of a record

abbrev pub head_parts : RecordHead → ℕ × (ℕ × (Option Node × (ℕ × (ℕ × List ℕ))))
head_parts h = (h.family, (h.stamp, (h.caller, (h.epoch, (h.number, h.reply)))))

abbrev pub record_head : ℕ × (ℕ × (Option Node × (ℕ × (ℕ × List ℕ)))) → RecordHead
record_head p = record { family = p.0; stamp = p.1.0; caller = p.1.1.0; epoch = p.1.1.1.0; number = p.1.1.1.1.0; reply = p.1.1.1.1.1 }

-- where no reply is kept, all that would tell of one is 0 or empty
abbrev pub tells_call : Option Node → ℕ → ℕ → List ℕ → Bool
tells_call None epoch number reply = nat_eq epoch 0 && (nat_eq number 0 && nat_eq (length reply) 0)
tells_call (Some caller) epoch number reply = true

abbrev pub head_made : ℕ × (ℕ × (Option Node × (ℕ × (ℕ × List ℕ)))) → Option RecordHead
head_made p = if tells_call p.1.1.0 p.1.1.1.0 p.1.1.1.1.0 p.1.1.1.1.1 then Some (record_head p) else None

unfoldable pub head_form : Form RecordHead
head_form = known_as (word_form before word_form before caller_form before word_form before word_form before text_form most_reply) head_parts head_made

-- ---- a whole volume: its name and flags, then the second and third part of a full dump

-- what tells the second part, and each image of the third
abbrev pub volume_mark : ℕ
volume_mark = 2

abbrev pub vnode_mark : ℕ
vnode_mark = 3

abbrev pub listed_form : Form (ℕ × ℕ)
listed_form = word_form before word_form

abbrev pub marked_form : Form Vnode
marked_form = known_as (mark_form vnode_mark before image_form) (λ v. (tt, v)) (λ p. Some p.1)

abbrev pub listed_vnode : Vnode → ℕ × ℕ
listed_vnode v = (v.vnode, v.unique)

-- the vnodes are those that were listed, one for one
abbrev pub are_listed : List (ℕ × ℕ) → List Vnode → Bool
are_listed [] [] = true
are_listed (p ∷ ps) (v ∷ vs) = nat_eq p.0 v.vnode && (nat_eq p.1 v.unique && are_listed ps vs)
are_listed ps vs = false

-- by ascending number, from this one on
abbrev pub ascend_from : ℕ → List Vnode → Bool
ascend_from n [] = true
ascend_from n (v ∷ vs) = not (nat_lt v.vnode n) && ascend_from (v.vnode + 1) vs

-- a full dump has the images of the vnodes whose change counter is above 0
abbrev pub was_changed : Vnode → Bool
was_changed v = nat_lt 0 v.change_counter

-- the vnodes of a full dump: all that are listed, in order
abbrev pub are_whole : List (ℕ × ℕ) → List Vnode → Bool
are_whole ps vs = not (nat_lt most_vnodes (length ps)) && (are_listed ps vs && (ascend_from 0 vs && list_all was_changed vs))

-- all are listed, and then stand one behind the other
abbrev pub vnodes_form : Form (List Vnode)
vnodes_form = record {
  spelled = λ vs. (list_form listed_form).spelled (map listed_vnode vs) ++ flat_map marked_form.spelled vs;
  at = λ bytes.
      (list_form listed_form).at bytes
      >>= λ ps. (many_at marked_form.at (length ps.0) ps.1
      >>= λ vs. (if are_whole ps.0 vs.0 then Some vs else None));
  Fits = λ vs. (list_form listed_form).Fits (map listed_vnode vs) × (AllByRecursion marked_form.Fits vs × (are_whole (map listed_vnode vs) vs ≡ true));
}

abbrev pub VolumeParts : Type 0
VolumeParts = List ℕ × (ℕ × (Unit {0} × (ℕ × (ℕ × (ℕ × (ℕ × (ℕ × (ℕ × (ℕ × List Vnode)))))))))

abbrev pub volume_parts : StoredVolume → VolumeParts
volume_parts v =
    (v.head.name, (v.head.flags, (tt, (v.head.id, (v.head.family, (v.head.kind, (v.head.quota, (v.head.unique, (v.head.counter, (v.head.release, v.vnodes))))))))))

abbrev pub volume_made : VolumeParts → Option StoredVolume
volume_made p = Some (record {
  head = record {
    id = p.1.1.1.0;
    family = p.1.1.1.1.0;
    name = p.0;
    kind = p.1.1.1.1.1.0;
    flags = p.1.0;
    quota = p.1.1.1.1.1.1.0;
    unique = p.1.1.1.1.1.1.1.0;
    counter = p.1.1.1.1.1.1.1.1.0;
    release = p.1.1.1.1.1.1.1.1.1.0;
  };
  vnodes = p.1.1.1.1.1.1.1.1.1.1;
})

unfoldable pub volume_form : Form StoredVolume
volume_form =
    known_as (text_form most_name before word_form before mark_form volume_mark before word_form before word_form before kind_form before word_form before word_form before word_form before word_form before vnodes_form)
    volume_parts volume_made

-- ---- a row of the table: one & the next & .. & end, each field's form with its value. They take a maker of type F to
-- what the row makes.

pub record Slot (A : Type 0) : Type 1 where
  pub form : Form A
  pub value : A

pub record Slots (F X : Type 0) : Type 1 where
  pub spelled : List ℕ
  pub Fits : Type 0
  pub make : F → List ℕ → Option X

-- nothing stands behind the last
abbrev pub made_at_end : {X : Type 0} → X → List ℕ → Option X
made_at_end x [] = Some x
made_at_end x (b ∷ bytes) = None

abbrev pub made_behind : {A F X : Type 0} → Form A → (F → List ℕ → Option X) → (A → F) → List ℕ → Option X
made_behind form make maker bytes = form.at bytes >>= λ x. make (maker x.0) x.1

abbrev pub end : {X : Type 0} → Slots X X
end = record { spelled = []; Fits = Unit {0}; make = made_at_end }

infixr 10 ◌&◌
abbrev pub ◌&◌ : {A F X : Type 0} → Slot A → Slots F X → Slots (A → F) X
s & rest = record { spelled = s.form.spelled s.value ++ rest.spelled; Fits = s.form.Fits s.value × rest.Fits; make = made_behind s.form rest.make }

pub record Row (X : Type 0) : Type 1 where
  pub number : ℕ
  pub spelled : List ℕ
  pub Fits : Type 0
  pub make : List ℕ → Option X

abbrev pub numbered : {F X : Type 0} → ℕ → F → Slots F X → Row X
numbered number maker slots = record { number = number; spelled = slots.spelled; Fits = slots.Fits; make = slots.make maker }

-- ---- a journal's table: the row of each body, and one body of each row, whatever its fields hold

pub record RecordTable (X : Type 0) : Type 1 where
  pub row : X → Row X
  pub each : List X

-- what the first of these rows with this number makes of the bytes
abbrev pub made_in : {X : Type 0} → (X → Row X) → ℕ → List ℕ → List X → Option X
made_in {X} row number bytes [] = None
made_in {X} row number bytes (d ∷ ds) = if nat_eq number (row d).number then (row d).make bytes else made_in row number bytes ds

-- the body of this kind, to the last byte
abbrev pub body_in : {X : Type 0} → RecordTable X → ℕ → List ℕ → Option X
body_in {X} table number bytes = made_in table.row number bytes table.each

-- a record: its kind, its head, its fields
abbrev pub spelled_in : {X : Type 0} → RecordTable X → RecordHead → X → List ℕ
spelled_in {X} table head body = word_form.spelled (table.row body).number ++ (head_form.spelled head ++ (table.row body).spelled)

-- the kind of a start's record, in each journal
abbrev pub start_kind : ℕ
start_kind = 3

-- nobody calls for a start
abbrev pub may_call : ℕ → Option Node → Bool
may_call number caller = if nat_eq number start_kind then not (is_some caller) else true

-- the body of this kind, where this caller may call for it
abbrev pub body_for : {X : Type 0} → RecordTable X → ℕ → Option Node → List ℕ → Option X
body_for {X} table number caller bytes = if may_call number caller then body_in table number bytes else None

-- what `make` makes of the record that these bytes are, if they are one
abbrev pub read_in : {X R : Type 0} → RecordTable X → (RecordHead → X → R) → List ℕ → Option R
read_in {X} {R} table make bytes = do
  number ← word_form.at bytes
  head ← head_form.at number.1
  body ← body_for table number.0 head.0.caller head.1
  Some (make head.0 body)

-- within the limits
pub record FitsIn {X : Type 0} (table : RecordTable X) (h : RecordHead) (b : X) : Type 0 where
  pub head : head_form.Fits h
  pub body : (table.row b).Fits
  pub caller : may_call (table.row b).number h.caller ≡ true

-- ---- the fields of the rows

abbrev pub word : ℕ → Slot ℕ
word n = record { form = word_form; value = n }

abbrev pub text : ℕ → List ℕ → Slot (List ℕ)
text most bytes = record { form = text_form most; value = bytes }

abbrev pub volume_kind : ℕ → Slot ℕ
volume_kind n = record { form = kind_form; value = n }

abbrev pub server : ℕ → Slot ℕ
server n = record { form = server_form; value = n }

abbrev pub flag : Bool → Slot Bool
flag b = record { form = flag_form; value = b }

abbrev pub images : List Vnode → Slot (List Vnode)
images vs = record { form = list_form image_form; value = vs }

abbrev pub numbers : List ℕ → Slot (List ℕ)
numbers ns = record { form = list_form word_form; value = ns }

abbrev pub volumes : List StoredVolume → Slot (List StoredVolume)
volumes vs = record { form = list_form volume_form; value = vs }

-- ---- the table

abbrev pub row : RecordBody → Row RecordBody
row (bodies.First vs) = numbered 1 bodies.First (volumes vs & end)
row (bodies.Change id counter unique vnodes removed) =
    numbered 2 bodies.Change (word id & word counter & word unique & images vnodes & numbers removed & end)
row (bodies.Boot boot) = numbered 3 bodies.Boot (word boot & end)
row (bodies.Create id family name kind flags quota is_new) =
    numbered 4 bodies.Create (word id & word family & text most_name name & volume_kind kind & word flags & word quota & flag is_new & end)
row (bodies.Delete id) = numbered 5 bodies.Delete (word id & end)
row (bodies.Clone source id name kind release) =
    numbered 6 bodies.Clone (word source & word id & text most_name name & volume_kind kind & word release & end)
row (bodies.Restore id dump) = numbered 7 bodies.Restore (word id & text most_dump dump & end)
row (bodies.Flags id flags) = numbered 8 bodies.Flags (word id & word flags & end)
row (bodies.Forward id to) = numbered 9 bodies.Forward (word id & server to & end)
row bodies.Stamp = numbered 10 bodies.Stamp end

-- one body of each row, whatever its fields hold
abbrev pub each : List RecordBody
each =
    bodies.First [] ∷ bodies.Change 0 0 0 [] [] ∷ bodies.Boot 0 ∷ bodies.Create 0 0 [] 0 0 0 false ∷ bodies.Delete 0
    ∷ bodies.Clone 0 0 [] 0 0 ∷ bodies.Restore 0 [] ∷ bodies.Flags 0 0 ∷ bodies.Forward 0 0 ∷ bodies.Stamp ∷ []

abbrev pub store_table : RecordTable RecordBody
store_table = record { row = row; each = each }

-- the body of this kind, to the last byte
abbrev pub body_at : ℕ → List ℕ → Option RecordBody
body_at number bytes = body_in store_table number bytes

-- ---- a server's record

unfoldable pub record_bytes : StoreRecord → List ℕ
record_bytes r = spelled_in store_table r.head r.body

abbrev pub store_record : RecordHead → RecordBody → StoreRecord
store_record head body = record { head = head; body = body }

-- the record that these bytes are, if they are one
unfoldable pub record_at : List ℕ → Option StoreRecord
record_at bytes = read_in store_table store_record bytes

-- within the limits: it has a spelling
abbrev pub FitsRecord : StoreRecord → Type 0
FitsRecord r = FitsIn store_table r.head r.body
