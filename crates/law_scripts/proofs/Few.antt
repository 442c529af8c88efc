-- A first volume has no more vnodes than there may be.
use Rattle.std.proofs.Common.{◌≡◌, ℕ, ◌≤◌, Bool, true, false, cond, List, [], ◌∷◌, length, Option, Some, None, Result, Ok, Err, nat_lt, refl, ap, sym, subst, ◌∙◌, arith, if◌then◌else◌}
use Rattle.std.specs.Option.{ok_or}
use Rattle.afs_num.specs.declared.types.Fid.{Fid}
use Rattle.afs_num.specs.declared.calls.FsCall.{FsCall}
use Rattle.afs_num.specs.declared.calls.FsCall.TheVariants as calls
use Rattle.afs_num.specs.declared.directories.Name.{Name}
use Rattle.spec_history.specs.Written.{bytes_in}
use Rattle.spec_history.specs.declared.scripts.SetupLine.{SetupLine}
use Rattle.spec_history.specs.declared.scripts.SetupLine.TheVariants as lines
use Rattle.spec_history.specs.declared.scripts.VolumeLine.{VolumeLine}
use Rattle.spec_shape.specs.Reading.{◌>>=◌}
use Rattle.spec_ideal.specs.Directories.{named}
use Rattle.spec_ideal.specs.Operations as ops
use Rattle.spec_ideal.specs.Operations.{all_rights, is_kind, named_vnode, op, Found, IsOn}
use Rattle.spec_ideal.specs.SetUp.{a_dir, a_file_of, a_link_to, acl_laid, all_at_first, at_first, called, empty_volume, filled_by, first_volume, found_at, found_named, from_found, laid, laid_at, laid_by, laid_in, laid_or, led, led_to, new_fid, nothing_set, one_at_first, parted, stores_all, unless_over, Laid}
use Rattle.spec_ideal.specs.Soundness.{IsSound}
use Rattle.spec_ideal.specs.Tables.{Table, get, AscendsFrom}
use Rattle.spec_ideal.specs.VnodeImage.{most_acl, most_contents}
use Rattle.spec_ideal.specs.VnodeMaps.{most_vnodes}
use Rattle.spec_ideal.specs.Volumes.{a_directory, edit_number, edited_all, Edit, Vnode, Volume}
use Rattle.spec_ideal.proofs.Laid.{new_is_sound}
use Rattle.spec_ideal.proofs.Preserved.{operations_leave_sound}
use Rattle.spec_ideal.proofs.Tables.{ascends_lower, ascends_set}
use Rattle.afs_laying.specs.Filled.{at_once}
use Rattle.afs_laying.proofs.Called.{can_be_laid}
use Rattle.afs_changes.proofs.Few.{few_after, set_there}

-- ---- a call

one_long : (n : ℕ) (o : Option Vnode) (t : Table Vnode) → AscendsFrom 0 t → get n t ≡ o → (length (one_at_first n o t) ≡ length t) × AscendsFrom 0 (one_at_first n o t)
one_long n None t up is = (refl, up)
one_long n (Some x) t up is = (set_there 0 n (at_first x) x t up is, ascends_set 0 n (at_first x) t (omega arith) up)

as_long : (es : List Edit) (t : Table Vnode) → AscendsFrom 0 t → length (all_at_first es t) ≡ length t
as_long [] t up = refl
as_long (e ∷ es) t up =
    let one = one_long (edit_number e) (get (edit_number e) t) t up refl in
    as_long es (one_at_first (edit_number e) (get (edit_number e) t) t) one.1 ∙ one.0

-- a sound volume with no more vnodes than there may be
abbrev IsSmall : Volume → Type 0
IsSmall v = IsSound v × (length v.vnodes ≤ most_vnodes)

ok_is : (a b : Volume) → ◌≡◌ {A = Result Volume ℕ} (Ok a) (Ok b) → a ≡ b
ok_is a b e = cc

call_small : (id : ℕ) (call : FsCall) (v w : Volume) (r : ops.Result) → op id all_rights call v ≡ r → IsOn id call → IsSmall v → laid_by id r v ≡ Ok w → IsSmall w
call_small id call v w (ops.refused code) is on h e = absurd cc
call_small id call v w (ops.reads shown) is on h e = absurd cc
call_small id call v w ops.no_operation is on h e = absurd cc
call_small id call v w (ops.changes es n) is on h e =
    let can = can_be_laid id call v es n h.0 h.1 on is in
    let after : Volume = edited_all id es v in
    let up : AscendsFrom 0 after.vnodes = ascends_lower 0 1 after.vnodes (omega arith) (operations_leave_sound id all_rights call v es n h.0 is).sound.ascending in
    let many = few_after id es v can.one can.fits (ascends_lower 0 1 v.vnodes (omega arith) h.0.ascending) h.1 in
    let size = as_long es after.vnodes up in
    subst IsSmall (ok_is (at_once id es v) w e) (can.laid, (let z : length (all_at_first es after.vnodes) ≤ most_vnodes = omega (arith, many, size) in z))

called_small : (id : ℕ) (call : FsCall) (v w : Volume) → IsOn id call → IsSmall v → called id call v ≡ Ok w → IsSmall w
called_small id call v w on h e = call_small id call v w (op id all_rights call v) refl on h e

both_ok : {A B : Type 0} (r : Result A ℕ) (f : A → Result B ℕ) (y : B) → (r >>= f) ≡ Ok y → (x : A) × ((r ≡ Ok x) × (f x ≡ Ok y))
both_ok {A} {B} (Ok x) f y e = (x, (refl, e))
both_ok {A} {B} (Err code) f y e = absurd cc

-- ---- paths lead to fids of the volume

found_here : (id n : ℕ) (o : Option Vnode) (f : Found) → found_at id n o ≡ Some f → f.fid.volume ≡ id
found_here id n None f e = absurd cc
found_here id n (Some x) f e = let z : record { fid = record { volume = id; vnode = n; unique = x.unique }; vnode = x } ≡ f = cc in ap (λ (g : Found). g.fid.volume) (sym z)

named_here : (id : ℕ) (v : Volume) (o : Option Name) (f : Found) → found_named id v o ≡ Some f → f.fid.volume ≡ id
named_here id v None f e = absurd cc
named_here id v (Some n) f e = found_here id n.vnode (named_vnode v (Some n)) f e

found_is : (a b : Found) → ◌≡◌ {A = Result Found ℕ} (Ok a) (Ok b) → a ≡ b
found_is a b e = cc

next_here : (id : ℕ) (goes : Found → Result Found ℕ) (o : Option Found) (f : Found) → ((g : Found) → o ≡ Some g → goes g ≡ Ok f → f.fid.volume ≡ id) → from_found goes o ≡ Ok f → f.fid.volume ≡ id
next_here id goes None f h e = absurd cc
next_here id goes (Some g) f h e = h g refl e

step_here : (t : Bool) (id : ℕ) (r : Result Found ℕ) (f : Found) → (r ≡ Ok f → f.fid.volume ≡ id) → (if t then r else Err 20) ≡ Ok f → f.fid.volume ≡ id
step_here true id r f h e = h e
step_here false id r f h e = absurd cc

led_here : (id : ℕ) (v : Volume) (names : List (List ℕ)) (at f : Found) → at.fid.volume ≡ id → led_to id v names at ≡ Ok f → f.fid.volume ≡ id
led_here id v [] at f h e = ap (λ (g : Found). g.fid.volume) (sym (found_is at f e)) ∙ h
led_here id v (name ∷ names) at f h e =
    step_here (is_kind at.vnode.kind a_directory) id (from_found (led_to id v names) (found_named id v (named name at.vnode.names))) f
    (λ d. next_here id (led_to id v names) (found_named id v (named name at.vnode.names)) f (λ g is goes. led_here id v names g f (named_here id v (named name at.vnode.names) g is) goes) d) e

root_here : (id : ℕ) (o : Option Found) (f : Found) → ((g : Found) → o ≡ Some g → g.fid.volume ≡ id) → ok_or {E = ℕ} o 102 ≡ Ok f → f.fid.volume ≡ id
root_here id None f h e = absurd cc
root_here id (Some g) f h e = ap (λ (k : Found). k.fid.volume) (sym (found_is g f e)) ∙ h g refl

path_here : (id : ℕ) (v : Volume) (path : List (List ℕ)) (f : Found) → led id v path ≡ Ok f → f.fid.volume ≡ id
unfolding led
path_here id v path f e =
    let root = both_ok (ok_or (found_at id 1 (get 1 v.vnodes)) 102) (led_to id v path) f e in
    led_here id v path root.0 f (root_here id (found_at id 1 (get 1 v.vnodes)) root.0 (λ g is. found_here id 1 (get 1 v.vnodes) g is) root.1.0) root.1.1

-- ---- lines

in_small : (id : ℕ) (v w : Volume) (d : Fid) (name : List ℕ) (x : Laid) → d.volume ≡ id → IsSmall v → laid_in id v d name x ≡ Ok w → IsSmall w
in_small id v w d name a_dir on h e = called_small id (calls.MakeDir d name nothing_set) v w (ap (λ (n : ℕ). Some n) on) h e
in_small id v w d name (a_link_to target) on h e = called_small id (calls.Symlink d name target nothing_set) v w (ap (λ (n : ℕ). Some n) on) h e
in_small id v w d name (a_file_of bytes) on h e =
    let stores : FsCall = stores_all (new_fid id v) bytes in
    let made = both_ok (called id (calls.CreateFile d name nothing_set) v) (called id stores) w e in
    called_small id stores made.0 w refl (called_small id (calls.CreateFile d name nothing_set) v made.0 (ap (λ (n : ℕ). Some n) on) h made.1.0) made.1.1

path_small : (id : ℕ) (path : List (List ℕ)) (x : Laid) (v w : Volume) → IsSmall v → laid_at id path x v ≡ Ok w → IsSmall w
unfolding laid_at
path_small id path x v w h e =
    let p = both_ok (ok_or (parted path) 22) (λ (parts : List (List ℕ) × List ℕ). led id v parts.0 >>= (λ (at : Found). laid_in id v at.fid parts.1 x)) w e in
    let q = both_ok (led id v p.0.0) (λ (at : Found). laid_in id v at.fid p.0.1 x) w p.1.1 in
    in_small id v w q.0.fid p.0.1 x (path_here id v p.0.0 q.0 q.1.0) h q.1.1

list_small : (id : ℕ) (path : List (List ℕ)) (text : List ℕ) (v w : Volume) → IsSmall v → acl_laid id path text v ≡ Ok w → IsSmall w
unfolding acl_laid
list_small id path text v w h e =
    let q = both_ok (led id v path) (λ (at : Found). called id (calls.StoreAcl at.fid text) v) w e in
    called_small id (calls.StoreAcl q.0.fid text) v w (ap (λ (n : ℕ). Some n) (path_here id v path q.0 q.1.0)) h q.1.1

within : (most count : ℕ) (t : Bool) (r : Result Volume ℕ) (w : Volume) → nat_lt most count ≡ t → unless_over most count r ≡ Ok w → r ≡ Ok w
within most count true r w t e = let z : ◌≡◌ {A = Result Volume ℕ} (Err 27) (Ok w) = ap (λ (b : Bool). cond b (Err 27) r) (sym t) ∙ e in absurd cc
within most count false r w t e = ap (λ (b : Bool). cond b (Err 27) r) (sym t) ∙ e

line_small : (id : ℕ) (line : SetupLine) (v w : Volume) → IsSmall v → laid id line v ≡ Ok w → IsSmall w
line_small id (lines.Directory path) v w h e = path_small id path a_dir v w h e
line_small id (lines.File path contents) v w h e = path_small id path (a_file_of (bytes_in contents)) v w h e
line_small id (lines.Link path target) v w h e =
    path_small id path (a_link_to (bytes_in target)) v w h (within most_contents (length (bytes_in target)) (nat_lt most_contents (length (bytes_in target))) (laid_at id path (a_link_to (bytes_in target)) v) w refl e)
line_small id (lines.AccessList path text) v w h e =
    list_small id path (bytes_in text) v w h (within most_acl (length (bytes_in text)) (nat_lt most_acl (length (bytes_in text))) (acl_laid id path (bytes_in text) v) w refl e)

or_small : (v : Volume) (r : Result Volume ℕ) → ((w : Volume) → r ≡ Ok w → IsSmall w) → IsSmall v → IsSmall (laid_or v r)
or_small v (Ok w) one h = one w refl
or_small v (Err code) one h = h

filled_small : (id : ℕ) (ls : List SetupLine) (v : Volume) → IsSmall v → IsSmall (filled_by id ls v)
filled_small id [] v h = h
filled_small id (l ∷ ls) v h = filled_small id ls (laid_or v (laid id l v)) (or_small v (laid id l v) (λ w e. line_small id l v w h e) h)

pub first_few : (l : VolumeLine) → length (first_volume l).vnodes ≤ most_vnodes
first_few l = (filled_small l.id l.lines (empty_volume l) (new_is_sound l.id l.name 0 0 l.quota, omega arith)).1
