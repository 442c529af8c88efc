-- A file of set-up: the edits that lay it at once.
use Rattle.std.proofs.Common.{◌≡◌, ℕ, ◌+◌, ◌<◌, ◌≤◌, Bool, true, false, not, List, length, Option, Some, None, Result, Ok, Err, pos, nat_eq, nat_lt, if◌then◌else◌, refl, sym, ap, subst, ◌∙◌, arith}
use Rattle.std.specs.Prelude.{is_some, IfOk}
use Rattle.std.specs.List.{list_all, AllByRecursion}
use Rattle.std.specs.Option.{option_map}
use Rattle.std.proofs.lemmas.Bool.Decides.{nat_tests}
use Rattle.afs_num.specs.declared.directories.Name.{Name}
use Rattle.afs_num.specs.declared.types.Fid.{Fid}
use Rattle.afs_num.specs.declared.calls.FsCall.TheVariants as calls
use Rattle.spec_shape.specs.Reading.{◌>>=◌}
use Rattle.spec_ideal.specs.Directories.{with_name}
use Rattle.spec_ideal.specs.Operations as ops
use Rattle.spec_ideal.specs.Operations.{all_rights, changes, creating, edit_fits, free_number, directory_name, names_in, new_file, no_amend, op, tests}
use Rattle.spec_ideal.specs.SetUp.{a_file_of, called, laid_by, laid_in, new_fid, nothing_set, stores_all}
use Rattle.spec_ideal.specs.Soundness.{IsSound}
use Rattle.spec_ideal.specs.Tables.{get, AscendsFrom}
use Rattle.spec_ideal.specs.VnodeMaps.{most_vnodes}
use Rattle.spec_ideal.specs.Volumes.{VnodeKind, a_directory, a_file, a_link, Vnode, Volume, Amend, Edit, amends, makes, amended, ascending, blocks_in, edited_all, if_unique, vnode_of, with_status}
use Rattle.spec_ideal.proofs.Basics.{both}
use Rattle.spec_ideal.proofs.Laid.{called_sound}
use Rattle.spec_ideal.proofs.Looks.{Distinct, MakesAs}
use Rattle.spec_ideal.proofs.Scopes.{accepted, all_pass}
use Rattle.spec_ideal.proofs.Tables.{ascends_lower, free_is_free}
use Rattle.spec_ideal.proofs.Tellings.{FindEach}
use Rattle.afs_changes.specs.Drawing.{CanBeDrawn, HasOwn}
use Rattle.afs_laying.specs.Filled.{at_once, code_in, filled, filled_at_once, is_accepted, CanBeLaid, IsCodeOf, IsFilled, LaysEdits}
use Rattle.afs_reads.specs.Replying.{checked}
use Rattle.afs_changes.specs.Planning.{edits_seen}
use Rattle.afs_changes.specs.declared.edits.Edit as code
use Rattle.afs_reads.specs.declared.faults.OpFault.{OpFault}
use Rattle.afs_reads.specs.declared.faults.OpFault.TheVariants as faults
use Rattle.afs_laying.proofs.AtOnce.{apart_by, creates, file_at_once, in_order, two, two_filled}
use Rattle.afs_changes.proofs.Changed.{own_by, within}

-- ---- the file is made, and then its bytes are stored

pub file_laid : (id : ℕ) (d : Fid) (name bytes : List ℕ) (v : Volume) (es : List Edit) (m : ℕ) → IsSound v → op id all_rights (calls.CreateFile d name nothing_set) v ≡ changes es m → laid_in id v d name (a_file_of bytes) ≡ filled_at_once id bytes es v
file_laid id d name bytes v es m h e =
    ap (λ (r : ops.Result). laid_by id r v >>= λ made. called id (stores_all (new_fid id v) bytes) made) e ∙ file_at_once id d name bytes v es m h e

-- ---- its edits

pub same_filled : (id : ℕ) (d : Fid) (name bytes : List ℕ) (v : Volume) (es : List Edit) (m : ℕ) → op id all_rights (calls.CreateFile d name nothing_set) v ≡ changes es m
    → ascending (creating d name nothing_set None (record (new_file d) { contents = bytes }) v) ≡ filled bytes es
same_filled id d name bytes v es m e =
    let n : ℕ = free_number a_file v in
    let b : Bool = nat_lt n d.vnode in
    let a : Amend = record no_amend { names = Some (with_name (directory_name name n v.next) (names_in (vnode_of d v))) } in
    let x : Vnode = with_status (Some nothing_set) (new_file d) in
    in_order b d.vnode n a (record x { contents = bytes }) ∙ (sym (two_filled bytes b d.vnode n a x) ∙ ap (filled bytes) (sym (creates id d name v es m e).is))

two_apart : (b : Bool) (d n : ℕ) (a : Amend) (x : Vnode) → (d ≡ n → ⊥) → Distinct (two b d n a x)
two_apart true d n a x ne = ((λ e. ne e, tt), (tt, tt))
two_apart false d n a x ne = ((λ e. ne (sym e), tt), (tt, tt))

two_one : (b : Bool) (d n u : ℕ) (a : Amend) (x : Vnode) → MakesAs u u (two b d n a x)
two_one true d n u a x = (refl, (tt, tt))
two_one false d n u a x = (refl, tt)

two_found : (b : Bool) (d n : ℕ) (a : Amend) (x y : Vnode) (v : Volume) → get d v.vnodes ≡ Some y → get n v.vnodes ≡ None → FindEach v (two b d n a x)
two_found true d n a x y v there free = (free, ((y, there), tt))
two_found false d n a x y v there free = ((y, there), (free, tt))

two_fits : (b : Bool) (d n : ℕ) (a : Amend) (x f : Vnode) (v : Volume) → list_all (edit_fits v) (two b d n a x) ≡ true → list_all (edit_fits v) (two b d n a f) ≡ true
two_fits true d n a x f v e = e
two_fits false d n a x f v e = e

two_drawn : (b : Bool) (d n : ℕ) (a : Amend) (x y : Vnode) (v : Volume) → v.counter < ops.last_count → list_all (edit_fits v) (two b d n a x) ≡ true → get d v.vnodes ≡ Some y → get n v.vnodes ≡ None → HasOwn y.kind (amended (v.counter + 1) a y)
    → AllByRecursion (CanBeDrawn v) (two b d n a x)
two_drawn true d n a x y v low fits there free own =
    let one = both (edit_fits v (makes n x)) _ fits in
    let two = both (edit_fits v (amends d a)) true one.1 in
    (record { counter = low; fits = one.0; stands = free }, (record { counter = low; fits = two.0; stands = rw there own }, tt))
two_drawn false d n a x y v low fits there free own =
    let one = both (edit_fits v (amends d a)) _ fits in
    let two = both (edit_fits v (makes n x)) true one.1 in
    (record { counter = low; fits = one.0; stands = rw there own }, (record { counter = low; fits = two.0; stands = free }, tt))

names_kept : (k : VnodeKind) (c : ℕ) (o : Option (List Name)) (y : Vnode) → k ≡ a_directory → HasOwn k y → HasOwn k (amended c (record no_amend { names = o }) y)
names_kept a_directory c o y is own = own
names_kept a_file c o y is own = absurd cc
names_kept a_link c o y is own = absurd cc

kind_so : (k : VnodeKind) → ops.is_kind k a_directory ≡ true → k ≡ a_directory
kind_so a_directory e = refl
kind_so a_file e = absurd cc
kind_so a_link e = absurd cc

there_by : (b : Bool) (x y : Vnode) → x ≡ y → ops.is_directory (if b then Some x else None) ≡ true → y.kind ≡ a_directory
there_by true x y is e = ap (λ (z : Vnode). z.kind) (sym is) ∙ kind_so x.kind e
there_by false x y is e = absurd cc

there_kind : (u : ℕ) (o : Option Vnode) (y : Vnode) → o ≡ Some y → ops.is_directory (if_unique u o) ≡ true → y.kind ≡ a_directory
there_kind u None y is e = absurd cc
there_kind u (Some x) y is e = there_by (nat_eq x.unique u) x y (let z : x ≡ y = cc in z) e

both_ok : (r : Result Volume ℕ) (f : Volume → Result Volume ℕ) (y : Volume) → (r >>= f) ≡ Ok y → (x : Volume) × ((r ≡ Ok x) × (f x ≡ Ok y))
both_ok (Ok x) f y e = (x, (refl, e))
both_ok (Err code) f y e = absurd cc

both_sound : (id : ℕ) (d : Fid) (name bytes : List ℕ) (v w : Volume) → IsSound v → laid_in id v d name (a_file_of bytes) ≡ Ok w → IsSound w
both_sound id d name bytes v w h e =
    let p = both_ok (called id (calls.CreateFile d name nothing_set) v) (λ made. called id (stores_all (new_fid id v) bytes) made) w e in
    called_sound id (stores_all (new_fid id v) bytes) p.0 w (called_sound id (calls.CreateFile d name nothing_set) v p.0 h p.1.0) p.1.1

pub can_be_laid : (id : ℕ) (d : Fid) (name bytes : List ℕ) (v : Volume) (es : List Edit) (m : ℕ) → IsSound v → length v.vnodes ≤ most_vnodes → op id all_rights (calls.CreateFile d name nothing_set) v ≡ changes es m
    → laid_in id v d name (a_file_of bytes) ≡ Ok (at_once id (filled bytes es) v) → CanBeLaid id v (filled bytes es)
can_be_laid id d name bytes v es m h few e laid =
    let c = creates id d name v es m e in
    let n : ℕ = free_number a_file v in
    let b : Bool = nat_lt n d.vnode in
    let a : Amend = record no_amend { names = Some (with_name (directory_name name n v.next) (names_in (vnode_of d v))) } in
    let x : Vnode = with_status (Some nothing_set) (new_file d) in
    let f : Vnode = record x { contents = bytes } in
    let up : AscendsFrom 0 v.vnodes = ascends_lower 0 1 v.vnodes (omega arith) h.ascending in
    let free : get n v.vnodes ≡ None = free_is_free 0 2 v.vnodes up in
    let apart : nat_eq d.vnode n ≡ false = apart_by d.vnode n v.vnodes c.y (nat_eq d.vnode n) refl c.there free in
    let w = within id all_rights (calls.CreateFile d name nothing_set) v es m e in
    let passed = all_pass (tests all_rights (calls.CreateFile d name nothing_set) v) (accepted id all_rights (calls.CreateFile d name nothing_set) v es m e).tested in
    let fits : list_all (edit_fits v) (two b d.vnode n a f) ≡ true = two_fits b d.vnode n a x f v (subst (λ (fs : List Edit). list_all (edit_fits v) fs ≡ true) c.is w.fits) in
    let kind : c.y.kind ≡ a_directory = there_kind d.unique (get d.vnode v.vnodes) c.y c.there passed.1.0 in
    let own : HasOwn c.y.kind (amended (v.counter + 1) a c.y) = names_kept c.y.kind (v.counter + 1) a.names c.y kind (own_by c.y.kind c.y (h.vnodes d.vnode c.y c.there).body) in
    let is : filled bytes es ≡ two b d.vnode n a f = ap (filled bytes) c.is ∙ two_filled bytes b d.vnode n a x in
    let sound : IsSound (at_once id (filled bytes es) v) = both_sound id d name bytes v (at_once id (filled bytes es) v) h laid in
    subst (CanBeLaid id v) (sym is)
    (record {
      sound = h;
      few = few;
      apart = two_apart b d.vnode n a f (λ same. let z : nat_eq d.vnode n ≡ true = grind (arith, nat_tests, same) in absurd (let q : true ≡ false = sym z ∙ apart in cc));
      one = two_one b d.vnode n v.next a f;
      finds = two_found b d.vnode n a f c.y v c.there free;
      fits = fits;
      drawn = two_drawn b d.vnode n a f c.y v w.low fits c.there free own;
      laid = subst (λ (fs : List Edit). IsSound (at_once id fs v)) is sound;
    })

pub accepted_is : (r : ops.Result) → is_accepted r ≡ true → (es : List Edit) × ((m : ℕ) × (r ≡ changes es m))
accepted_is (ops.changes es n) e = (es, (n, refl))
accepted_is (ops.refused code) e = absurd cc
accepted_is (ops.reads shown) e = absurd cc
accepted_is ops.no_operation e = absurd cc

-- the answers in between

pub too_long : (id : ℕ) (bytes : List ℕ) (es : List Edit) (v : Volume) (r : Result Volume ℕ) → r ≡ filled_at_once id bytes es v → nat_lt ops.most_file_bytes (length bytes) ≡ true → r ≡ Err 27
too_long id bytes es v r is long = is ∙ rw long refl

pub too_many : (id : ℕ) (bytes : List ℕ) (es : List Edit) (v : Volume) (r : Result Volume ℕ) → r ≡ filled_at_once id bytes es v → nat_lt ops.most_file_bytes (length bytes) ≡ false → nat_lt v.quota (blocks_in (edited_all id (filled bytes es) v).vnodes) ≡ true → r ≡ Err 109
too_many id bytes es v r is long more = is ∙ rw (long, more) refl

pub laid_whole : (id : ℕ) (bytes : List ℕ) (es : List Edit) (v : Volume) (r : Result Volume ℕ) → r ≡ filled_at_once id bytes es v → nat_lt ops.most_file_bytes (length bytes) ≡ false → nat_lt v.quota (blocks_in (edited_all id (filled bytes es) v).vnodes) ≡ false → r ≡ Ok (at_once id (filled bytes es) v)
laid_whole id bytes es v r is long more = is ∙ rw (long, more) refl

-- ---- where CreateFile is accepted

there_accepted : (id : ℕ) (d : Fid) (name : List ℕ) (v : Volume) → is_accepted (op id all_rights (calls.CreateFile d name nothing_set) v) ≡ true → (is_some (vnode_of d v) ≡ true) × (ops.is_directory (vnode_of d v) ≡ true)
there_accepted id d name v h =
    let a = accepted_is (op id all_rights (calls.CreateFile d name nothing_set) v) h in
    let t = all_pass (tests all_rights (calls.CreateFile d name nothing_set) v) (accepted id all_rights (calls.CreateFile d name nothing_set) v a.0 a.1.0 a.1.1).tested in
    (t.0, t.1.0)

pub is_there : (id : ℕ) (d : Fid) (name : List ℕ) (v : Volume) → is_accepted (op id all_rights (calls.CreateFile d name nothing_set) v) ≡ true → vnode_of d v ≡ None → ⊥
is_there id d name v h none = let there = (there_accepted id d name v h).0 in let z : false ≡ true = ap (λ (o : Option Vnode). is_some o) (sym none) ∙ there in cc

pub is_filled : (id : ℕ) (d : Fid) (name bytes : List ℕ) (v : Volume) (fs : List Edit) (y : Vnode) → is_accepted (op id all_rights (calls.CreateFile d name nothing_set) v) ≡ true → y ≡ record (new_file d) { contents = bytes }
    → fs ≡ ascending (creating d name nothing_set None y v) → IsFilled id d name bytes v fs
is_filled id d name bytes v fs y h file is =
    let a = accepted_is (op id all_rights (calls.CreateFile d name nothing_set) v) h in
    (a.0, (a.1.0, (a.1.1, is ∙ (ap (λ (x : Vnode). ascending (creating d name nothing_set None x v)) file ∙ same_filled id d name bytes v a.0 a.1.0 a.1.1))))

-- ---- what laying it is answered

pub long_refused : (id : ℕ) (d : Fid) (name bytes : List ℕ) (v : Volume) → IsSound v → is_accepted (op id all_rights (calls.CreateFile d name nothing_set) v) ≡ true → nat_lt ops.most_file_bytes (length bytes) ≡ true → laid_in id v d name (a_file_of bytes) ≡ Err 27
long_refused id d name bytes v sound h long =
    let a = accepted_is (op id all_rights (calls.CreateFile d name nothing_set) v) h in
    too_long id bytes a.0 v _ (file_laid id d name bytes v a.0 a.1.0 sound a.1.1) long

pub many_refused : (id : ℕ) (d : Fid) (name bytes : List ℕ) (v : Volume) (fs : List Edit) → IsSound v → IsFilled id d name bytes v fs → nat_lt ops.most_file_bytes (length bytes) ≡ false → nat_lt v.quota (blocks_in (edited_all id fs v).vnodes) ≡ true
    → laid_in id v d name (a_file_of bytes) ≡ Err 109
many_refused id d name bytes v fs sound f short more =
    too_many id bytes f.0 v _ (file_laid id d name bytes v f.0 f.1.0 sound f.1.1.0) short (subst (λ (es : List Edit). nat_lt v.quota (blocks_in (edited_all id es v).vnodes) ≡ true) f.1.1.1 more)

pub file_lays : (id : ℕ) (d : Fid) (name bytes : List ℕ) (v : Volume) (fs : List Edit) → IsSound v → length v.vnodes ≤ most_vnodes → IsFilled id d name bytes v fs → nat_lt ops.most_file_bytes (length bytes) ≡ false
    → nat_lt v.quota (blocks_in (edited_all id fs v).vnodes) ≡ false → CanBeLaid id v fs × (laid_in id v d name (a_file_of bytes) ≡ Ok (at_once id fs v))
file_lays id d name bytes v fs sound few f short enough =
    let laid = laid_whole id bytes f.0 v (laid_in id v d name (a_file_of bytes)) (file_laid id d name bytes v f.0 f.1.0 sound f.1.1.0) short (subst (λ (es : List Edit). nat_lt v.quota (blocks_in (edited_all id es v).vnodes) ≡ false) f.1.1.1 enough) in
    subst (λ (es : List Edit). CanBeLaid id v es × (laid_in id v d name (a_file_of bytes) ≡ Ok (at_once id es v))) (sym f.1.1.1) (can_be_laid id d name bytes v f.0 f.1.0 sound few f.1.1.0 laid, laid)

-- its edits are of two vnodes
pub filled_apart : (id : ℕ) (d : Fid) (name bytes : List ℕ) (v : Volume) (fs : List Edit) → IsSound v → IsFilled id d name bytes v fs → Distinct fs
filled_apart id d name bytes v fs h f =
    let c = creates id d name v f.0 f.1.0 f.1.1.0 in
    let n : ℕ = free_number a_file v in
    let b : Bool = nat_lt n d.vnode in
    let a : Amend = record no_amend { names = Some (with_name (directory_name name n v.next) (names_in (vnode_of d v))) } in
    let x : Vnode = with_status (Some nothing_set) (new_file d) in
    let up : AscendsFrom 0 v.vnodes = ascends_lower 0 1 v.vnodes (omega arith) h.ascending in
    let apart : nat_eq d.vnode n ≡ false = apart_by d.vnode n v.vnodes c.y (nat_eq d.vnode n) refl c.there (free_is_free 0 2 v.vnodes up) in
    let is : fs ≡ two b d.vnode n a (record x { contents = bytes }) = f.1.1.1 ∙ (ap (filled bytes) c.is ∙ two_filled bytes b d.vnode n a x) in
    subst Distinct (sym is) (two_apart b d.vnode n a (record x { contents = bytes }) (λ same. let z : nat_eq d.vnode n ≡ true = grind (arith, nat_tests, same) in absurd (let q : true ≡ false = sym z ∙ apart in cc)))

two_long : (b : Bool) (d n : ℕ) (a : Amend) (x : Vnode) → length (two b d n a x) ≡ 2
two_long true d n a x = refl
two_long false d n a x = refl

pub filled_few : (id : ℕ) (d : Fid) (name bytes : List ℕ) (v : Volume) (fs : List Edit) → IsFilled id d name bytes v fs → length fs ≡ 2
filled_few id d name bytes v fs f =
    let c = creates id d name v f.0 f.1.0 f.1.1.0 in
    let n : ℕ = free_number a_file v in
    let b : Bool = nat_lt n d.vnode in
    let a : Amend = record no_amend { names = Some (with_name (directory_name name n v.next) (names_in (vnode_of d v))) } in
    let x : Vnode = with_status (Some nothing_set) (new_file d) in
    ap (λ (es : List Edit). length es) (f.1.1.1 ∙ (ap (filled bytes) c.is ∙ two_filled bytes b d.vnode n a x)) ∙ two_long b d.vnode n a (record x { contents = bytes })

pub if_filled : {E : Type 0} (id : ℕ) (d : Fid) (name bytes : List ℕ) (v : Volume) (y : Vnode) (r : Result (List code.Edit) E) → is_accepted (op id all_rights (calls.CreateFile d name nothing_set) v) ≡ true → y ≡ record (new_file d) { contents = bytes }
    → IfOk r (λ es. edits_seen es ≡ ascending (creating d name nothing_set None y v)) → IfOk r (λ es. IsFilled id d name bytes v (edits_seen es))
if_filled {E} id d name bytes v y (Ok es) h file is = is_filled id d name bytes v (edits_seen es) y h file is
if_filled {E} id d name bytes v y (Err e) h file is = tt

-- ---- tests of the code

pub failed : (b : Bool) (code : ℕ) (e : OpFault) → Err e ≡ checked b code → (b ≡ false) × (e ≡ faults.Code (record { 0 = pos code }))
failed true code e is = absurd cc
failed false code e is = (refl, cc)

pub passed : (b : Bool) (code : ℕ) (x : Unit {0}) → Ok x ≡ checked b code → b ≡ true
passed true code x is = refl
passed false code x is = absurd cc

pub not_false : (b : Bool) → not b ≡ false → b ≡ true
not_false true e = refl
not_false false e = absurd cc

pub not_true : (b : Bool) → not b ≡ true → b ≡ false
not_true true e = absurd cc
not_true false e = refl

pub lays_as : (id : ℕ) (v : Volume) (r : Result Volume ℕ) (res : Result (List code.Edit) OpFault) (e : OpFault) → res ≡ Err e → IsCodeOf r e → LaysEdits id v r res
lays_as id v r res e is h = subst (λ (q : Result (List code.Edit) OpFault). LaysEdits id v r q) (sym is) h

pub code_as : (r : Result Volume ℕ) (n : ℕ) (e : OpFault) → e ≡ faults.Code (record { 0 = pos n }) → r ≡ Err n → IsCodeOf r e
code_as r n e is refused = subst (λ (f : OpFault). IsCodeOf r f) (sym is) (ap (λ (q : Result Volume ℕ). option_map pos (code_in q)) refused)
