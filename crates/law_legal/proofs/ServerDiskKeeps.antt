use Rattle.spec_history.specs.declared.lines.Line.TheVariants as lines
use Rattle.spec_history.specs.declared.lines.Line.{Line}
use Rattle.afs_num.specs.declared.histories.Version.{Version}
use Rattle.spec_ideal.specs.ChangeLaws.{IsOneChange}
use Rattle.spec_records.proofs.Effects.{changes_told}
use Rattle.afs_num.specs.declared.messages.Message.{Message}
use Rattle.spec_model.specs.Messages.{spelled}
use Rattle.spec_records.proofs.Tested.{passes}
use Rattle.spec_fold.proofs.Kept.{change_kept}
use Rattle.spec_records.specs.Laws.{CanBeStored}
use Rattle.afs_num.specs.declared.types.Head.{Head}
-- What a server's disk keeps: the callers by their numbers, and the volumes with what stands beside them.
use Rattle.std.proofs.Common.{◌≡◌, ℕ, Bool, true, false, cond, eqb, nat_eq, nat_lt, List, [], ◌∷◌, Option, Some, refl, sym, ap, subst, ◌∙◌, eq-eqb, eqb-true, ◌+◌}
use Rattle.std.specs.Prelude.{filter, length, map}
use Rattle.std.specs.List.{AllByRecursion}
use Rattle.std.specs.Option.{option_map}
use Rattle.afs_num.specs.Nodes.{same_node, node_number, node_of, IsNode}
use Rattle.afs_num.specs.declared.types.Node.{Node}
use Rattle.spec_ideal.specs.Tables.{Table, get, set}
use Rattle.spec_ideal.specs.Volumes.{Volume, edited_all, counted}
use Rattle.law_legal.proofs.BaseLaws.{same_node-true, same_node-refl, some_of}
use Rattle.law_legal.proofs.VolumeEdits.{get-set}
use Rattle.spec_rows.specs.Runs.{first_stored}
use Rattle.spec_rows.specs.ServerRow.{seat_placed, is_unflagged, Change, record_of, lasting_after, lasting_started, change_reply_to, seat_for, versions_made, versioned}
use Rattle.spec_rows.specs.States.{Seat, kept_of, kept_by_number, volume_in, Lasting, durable_of}
use Rattle.spec_model.specs.Calls.{call_seat, key_of}
use Rattle.spec_records.specs.Changes.{at_set_up, keeping, boot_record, images_left, numbers_gone}
use Rattle.spec_records.specs.Durable.{Stored, Kept, change_lines, versions_told}
use Rattle.spec_fold.specs.Effects.{effect_of}
use Rattle.spec_fold.specs.Fold.{folded}

-- ---- callers by their numbers

own_by : (x s : Seat) (seats : List Seat) (a b : Bool) → same_node s.caller x.caller ≡ a → call_seat x.caller (seat_placed x seats) ≡ Some x → call_seat x.caller (cond a (x ∷ seats) (cond b (x ∷ s ∷ seats) (s ∷ seat_placed x seats))) ≡ Some x
own_by x s seats true b e ih = rw (same_node-refl x.caller) refl
own_by x s seats false true e ih = rw (same_node-refl x.caller) refl
own_by x s seats false false e ih = rw e ih

pub own_placed : (x : Seat) (seats : List Seat) → call_seat x.caller (seat_placed x seats) ≡ Some x
own_placed x [] = rw (same_node-refl x.caller) refl
own_placed x (s ∷ seats) = own_by x s seats (same_node s.caller x.caller) (nat_lt (node_number x.caller) (node_number s.caller)) refl (own_placed x seats)

skipped : (m : Node) (s : Seat) (xs ys : List Seat) (t : Bool) → same_node s.caller m ≡ t → call_seat m xs ≡ call_seat m ys → call_seat m (s ∷ xs) ≡ call_seat m (s ∷ ys)
skipped m s xs ys true e h = rw e refl
skipped m s xs ys false e h = rw e h

other_by : (x s : Seat) (m : Node) (seats : List Seat) (a b : Bool) → same_node s.caller x.caller ≡ a → same_node x.caller m ≡ false → call_seat m (seat_placed x seats) ≡ call_seat m seats → call_seat m (cond a (x ∷ seats) (cond b (x ∷ s ∷ seats) (s ∷ seat_placed x seats))) ≡ call_seat m (s ∷ seats)
other_by x s m seats true b a e ih = let same : s.caller ≡ x.caller = same_node-true s.caller x.caller a in let no : same_node s.caller m ≡ false = ap (λ (y : Node). same_node y m) same ∙ e in rw (e, no) refl
other_by x s m seats false true a e ih = rw e refl
other_by x s m seats false false a e ih = skipped m s (seat_placed x seats) seats (same_node s.caller m) refl ih

other_placed : (x : Seat) (m : Node) (seats : List Seat) → same_node x.caller m ≡ false → call_seat m (seat_placed x seats) ≡ call_seat m seats
other_placed x m [] e = rw e refl
other_placed x m (s ∷ seats) e = other_by x s m seats (same_node s.caller x.caller) (nat_lt (node_number x.caller) (node_number s.caller)) refl e (other_placed x m seats e)

at_placed_by : (t : Bool) (x : Seat) (m : Node) (seats : List Seat) (P : Option Seat → Type 0) → same_node x.caller m ≡ t → (x.caller ≡ m → P (Some x)) → ((x.caller ≡ m → ⊥) → P (call_seat m seats)) → P (call_seat m (seat_placed x seats))
at_placed_by true x m seats P t a b = let same : x.caller ≡ m = same_node-true x.caller m t in subst (λ (y : Node). P (call_seat y (seat_placed x seats))) same (subst P (sym (own_placed x seats)) (a same))
at_placed_by false x m seats P t a b = subst P (sym (other_placed x m seats t)) (b (λ e. let yes : same_node x.caller m ≡ true = ap (λ (y : Node). same_node x.caller y) (sym e) ∙ same_node-refl x.caller in absurd cc))

pub at_placed : (x : Seat) (m : Node) (seats : List Seat) (P : Option Seat → Type 0) → (x.caller ≡ m → P (Some x)) → ((x.caller ≡ m → ⊥) → P (call_seat m seats)) → P (call_seat m (seat_placed x seats))
at_placed x m seats P a b = at_placed_by (same_node x.caller m) x m seats P refl a b

-- nodes within the cell's counts have numbers of their own
no_number : (u : Bool) (a b : Node) → nat_eq (node_number a) (node_number b) ≡ u → same_node a b ≡ false → IsNode a → IsNode b → u ≡ false
no_number false a b u t p q = refl
no_number true a b u t p q =
    let numbers : node_number a ≡ node_number b = eqb-true (node_number a) (node_number b) u in
    let same : a ≡ b = some_of a b (sym p ∙ (ap node_of numbers ∙ q)) in
    let yes : same_node a b ≡ true = ap (same_node a) (sym same) ∙ same_node-refl a in
    absurd cc

numbers_by : (t : Bool) (a b : Node) → same_node a b ≡ t → IsNode a → IsNode b → nat_eq (node_number a) (node_number b) ≡ t
numbers_by true a b t p q = eq-eqb (node_number a) (node_number b) (ap node_number (same_node-true a b t))
numbers_by false a b t p q = no_number (nat_eq (node_number a) (node_number b)) a b refl t p q

placed_by : (x s : Seat) (seats : List Seat) (a b : Bool) → nat_eq (node_number s.caller) (node_number x.caller) ≡ a → nat_lt (node_number x.caller) (node_number s.caller) ≡ b → kept_by_number (seat_placed x seats) ≡ set (node_number x.caller) (kept_of x) (kept_by_number seats)
    → kept_by_number (cond a (x ∷ seats) (cond b (x ∷ s ∷ seats) (s ∷ seat_placed x seats))) ≡ set (node_number x.caller) (kept_of x) (kept_by_number (s ∷ seats))
placed_by x s seats true b p q ih = rw p refl
placed_by x s seats false true p q ih = rw (p, q) refl
placed_by x s seats false false p q ih = rw (p, q) (ap (λ (t : Table Kept). (node_number s.caller, kept_of s) ∷ t) ih)

pub kept_placed : (x : Seat) (seats : List Seat) → IsNode x.caller → AllByRecursion (λ (s : Seat). IsNode s.caller) seats → kept_by_number (seat_placed x seats) ≡ set (node_number x.caller) (kept_of x) (kept_by_number seats)
kept_placed x [] n h = refl
kept_placed x (s ∷ seats) n h = placed_by x s seats (same_node s.caller x.caller) (nat_lt (node_number x.caller) (node_number s.caller)) (numbers_by (same_node s.caller x.caller) s.caller x.caller refl h.0 n) refl (kept_placed x seats n h.1)

-- ---- volumes

option_cond : (b : Bool) (x : Stored) (o : Option Stored) → option_map (λ (st : Stored). st.volume) (cond b (Some x) o) ≡ cond b (Some x.volume) (option_map (λ (st : Stored). st.volume) o)
option_cond true x o = refl
option_cond false x o = refl

-- what is found after a volume was put
pub volume_put : (id other : ℕ) (x : Stored) (v : Volume) (t : Table Stored) → x.volume ≡ v → volume_in other (set id x t) ≡ cond (eqb id other) (Some v) (volume_in other t)
volume_put id other x v t is =
    ap (option_map (λ (st : Stored). st.volume)) (get-set id other x t) ∙ (option_cond (eqb id other) x (get other t) ∙ ap (λ (w : Volume). cond (eqb id other) (Some w) (volume_in other t)) is)

-- the volumes of set-up
first_by : (b : Bool) (v : Volume) (o : Option Stored) (p : Option Volume) → option_map (λ (st : Stored). st.volume) o ≡ p → option_map (λ (st : Stored). st.volume) (cond b (Some (at_set_up v)) o) ≡ cond b (Some v) p
first_by true v o p h = refl
first_by false v o p h = h

pub first_in : (id : ℕ) (t : Table Volume) → volume_in id (first_stored t) ≡ get id t
first_in id [] = refl
first_in id (p ∷ ps) = first_by (nat_eq p.0 id) p.1 (get id (first_stored ps)) (get id ps) (first_in id ps)

-- ---- no volume goes at a start

-- one that has no flag of delete on salvage
abbrev pub unflagged : Volume → Bool
unflagged v = is_unflagged (0, record { volume = v; times = []; is_new = false })

stays_by : (a b : Bool) (id : ℕ) (p : ℕ × Stored) (ps : Table Stored) → nat_eq p.0 id ≡ a → is_unflagged p ≡ b → (a ≡ true → b ≡ true) → volume_in id (filter is_unflagged ps) ≡ volume_in id ps → volume_in id (cond b (p ∷ filter is_unflagged ps) (filter is_unflagged ps)) ≡ volume_in id (p ∷ ps)
stays_by true true id p ps x y h ih = rw x refl
stays_by true false id p ps x y h ih = let z = h refl in absurd cc
stays_by false true id p ps x y h ih = rw x ih
stays_by false false id p ps x y h ih = rw x ih

found_as : (a : Bool) (id : ℕ) (p : ℕ × Stored) (ps : Table Stored) → nat_eq p.0 id ≡ a → a ≡ true → volume_in id (p ∷ ps) ≡ Some p.1.volume
found_as true id p ps x t = rw x refl
found_as false id p ps x t = absurd cc

rest_as : (a : Bool) (id : ℕ) (p : ℕ × Stored) (ps : Table Stored) (v : Volume) → nat_eq p.0 id ≡ a → (volume_in id (p ∷ ps) ≡ Some v → unflagged v ≡ true) → a ≡ false → volume_in id ps ≡ Some v → unflagged v ≡ true
rest_as true id p ps v x h f e = absurd cc
rest_as false id p ps v x h f e = h (rw x e)

keeps_this : (b : Bool) (id : ℕ) (p : ℕ × Stored) (ps : Table Stored) → nat_eq p.0 id ≡ true → is_unflagged p ≡ b → b ≡ true → volume_in id (cond b (p ∷ filter is_unflagged ps) (filter is_unflagged ps)) ≡ volume_in id (p ∷ ps)
keeps_this true id p ps x y z = rw x refl
keeps_this false id p ps x y z = absurd cc

stays_at : (a : Bool) (id : ℕ) (p : ℕ × Stored) (ps : Table Stored) → nat_eq p.0 id ≡ a → ((v : Volume) → volume_in id (p ∷ ps) ≡ Some v → unflagged v ≡ true) → (((v : Volume) → volume_in id ps ≡ Some v → unflagged v ≡ true) → volume_in id (filter is_unflagged ps) ≡ volume_in id ps) → volume_in id (filter is_unflagged (p ∷ ps)) ≡ volume_in id (p ∷ ps)
stays_at true id p ps x h ih = keeps_this (is_unflagged p) id p ps x refl (h p.1.volume (found_as true id p ps x refl))
stays_at false id p ps x h ih = stays_by false (is_unflagged p) id p ps x refl (λ z. absurd cc) (ih (λ v e. rest_as false id p ps v x (h v) refl e))

-- where the volume of a number stays, what is found under it stays
pub found_started : (id : ℕ) (t : Table Stored) → ((v : Volume) → volume_in id t ≡ Some v → unflagged v ≡ true) → volume_in id (filter is_unflagged t) ≡ volume_in id t
found_started id [] h = refl
found_started id (p ∷ ps) h = stays_at (nat_eq p.0 id) id p ps refl h (found_started id ps)

-- ---- what stays on the disk is the fold of its records

pub change_folded : (l : Lasting) (head : Head) (clock : ℕ) (c : Change) → get c.id l.volumes ≡ Some c.before → CanBeStored c.id c.edits c.before.volume → IsNode head.from → AllByRecursion (λ (s : Seat). IsNode s.caller) l.kept →
    folded (record_of l.boot head clock c) (durable_of l) ≡ Some (durable_of (lasting_after head clock c l))
change_folded l head clock c there can node nodes =
    let m : Message = change_reply_to l.boot head clock c in
    change_kept (keeping (key_of head) (spelled m)) c.id clock c.edits c.before (durable_of l) there can (passes (counted (edited_all c.id c.edits c.before.volume)) can.sound)
    ∙ ap (λ (k : Table Kept). Some (record (durable_of (lasting_after head clock c l)) { kept = k })) (sym (kept_placed (seat_for head m) l.kept node nodes))

as_versioned : (vs : List Version) → map lines.Version vs ≡ versioned vs []
as_versioned [] = refl
as_versioned (v ∷ vs) = ap (λ (ls : List Line). lines.Version v ∷ ls) (as_versioned vs)

-- what its record tells
pub effect_told : (me : Node) (l : Lasting) (head : Head) (clock : ℕ) (c : Change) → get c.id l.volumes ≡ Some c.before → IsOneChange c.id c.edits c.before.volume → CanBeStored c.id c.edits c.before.volume →
    effect_of me (record_of l.boot head clock c) (durable_of l) ≡ lines.Change me (key_of head) (length (versions_made c)) ∷ versioned (versions_made c) []
effect_told me l head clock c there one can =
    let before : Volume = c.before.volume in
    let after : Volume = counted (edited_all c.id c.edits before) in
    ap (λ (o : Option Stored). change_lines me (key_of head) (versions_told c.id (images_left clock c.edits after) (numbers_gone c.edits before after) o)) there
    ∙ (ap (change_lines me (key_of head)) (changes_told c.id clock c.edits c.before one can)
    ∙ ap (λ (ls : List Line). lines.Change me (key_of head) (length (versions_made c)) ∷ ls) (as_versioned (versions_made c)))

pub start_folded : (l : Lasting) → folded (boot_record (l.boot + 1)) (durable_of l) ≡ Some (durable_of (lasting_started l))
unfolding folded
start_folded l = refl
