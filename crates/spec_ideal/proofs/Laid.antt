-- Set-up: a new volume is sound, and what its lines lay leaves it so.
use Rattle.std.proofs.Common.{◌≡◌, ℕ, ◌⊎◌, inl, inr, Bool, true, false, cond, eqb, List, [], ◌∷◌, Option, Some, None, refl, sym, ap, subst, ◌∙◌, arith, eqb-true}
use Rattle.std.specs.Prelude.{Result, Ok, Err, length, nat_lt}
use Rattle.spec_shape.specs.Reading.{◌>>=◌}
use Rattle.afs_num.specs.declared.calls.FsCall.{FsCall}
use Rattle.std.specs.Option.{ok_or}
use Rattle.afs_num.specs.declared.calls.FsCall.TheVariants as calls
use Rattle.afs_num.specs.declared.types.Fid.{Fid}
use Rattle.spec_ideal.specs.Tables.{Table, get, AscendsFrom}
use Rattle.spec_ideal.specs.AccessLists.{IsAccessList}
use Rattle.spec_ideal.specs.VnodeImage.{most_acl, most_contents}
use Rattle.spec_ideal.specs.Volumes.{Vnode, Volume, Edit, edit_number, edited, edited_all, counted}
use Rattle.spec_ideal.specs.Operations as ops
use Rattle.spec_ideal.specs.Operations.{all_rights, Found, op}
use Rattle.spec_ideal.specs.SetUp.{new_root, new_volume, at_first, one_at_first, all_at_first, laid_by, called, nothing_set, new_fid, stores_all, parted, led, Laid, a_dir, a_file_of, a_link_to, laid_in, laid_at, acl_laid, laid, laid_all, unless_over, laid_or, filled_by, empty_volume, first_volume}
use Rattle.spec_history.specs.Written.{bytes_in}
use Rattle.spec_history.specs.declared.scripts.SetupLine.{SetupLine}
use Rattle.spec_history.specs.declared.scripts.SetupLine.TheVariants as lines
use Rattle.spec_history.specs.declared.scripts.VolumeLine.{VolumeLine}
use Rattle.spec_ideal.specs.Soundness.{IsSoundVnode, IsSound}
use Rattle.spec_ideal.specs.SoundnessLaws.{IsAtFirst, IsSetUp, SetUpTellsOnce, SetUpIsLaidOut, IsLaidOut, FirstVolumes}
use Rattle.spec_ideal.proofs.Looks.{edit_look}
use Rattle.spec_ideal.proofs.Basics.{some_of}
use Rattle.spec_ideal.proofs.Tables.{get_set, ascends_set}
use Rattle.spec_ideal.proofs.Maps.{Sound, differ, AreLike, like_itself, like_of, as_like}
use Rattle.spec_ideal.proofs.Ranks.{at, steps, ranked_same}
use Rattle.spec_ideal.proofs.Kept.{as_map, as_ranked, as_volume, above_root}
use Rattle.spec_ideal.proofs.Preserved.{operations_leave_sound}

-- ---- a new volume

new_list : IsAccessList new_root.acl
new_list = record { few = omega arith; positive = (record { name = refl; single = refl; rights = omega arith }, tt); negative = tt }

root_by : (b : Bool) (family : ℕ) (name : List ℕ) (kind flags quota n : ℕ) (x : Vnode) → eqb 1 n ≡ b → cond b (Some new_root) None ≡ Some x → IsSoundVnode (new_volume family name kind flags quota) n x
root_by false family name kind flags quota n x b e = absurd cc
root_by true family name kind flags quota n x b e =
    subst (λ (m : ℕ). IsSoundVnode (new_volume family name kind flags quota) m x) (eqb-true 1 n b)
    (subst (IsSoundVnode (new_volume family name kind flags quota) 1) (some_of new_root x e) (record {
      kind = (λ t. refl, λ t. refl);
      unique = omega arith;
      body = record { names = record { ordered = refl; few = omega arith }; acl = new_list; contents = refl; links = refl };
      given = λ k d lt. absurd (omega (arith, lt));
      placed = λ ne. absurd (ne refl);
    }))

pub new_is_sound : (family : ℕ) (name : List ℕ) (kind flags quota : ℕ) → IsSound (new_volume family name kind flags quota)
new_is_sound family name kind flags quota = record {
  root = (refl, (refl, (refl, refl)));
  ascending = (omega arith, tt);
  vnodes = λ n x e. root_by (eqb 1 n) family name kind flags quota n x refl e;
}

-- ---- indexes and counters as at first

like_trans : (a b c : Option Vnode) → AreLike a b → AreLike b c → AreLike a c
like_trans None None c p q = q
like_trans None (Some y) c p q = absurd p
like_trans (Some x) None c p q = absurd p
like_trans (Some x) (Some y) None p q = absurd q
like_trans (Some x) (Some y) (Some z) p q = record {
  seen = record {
    unique = q.seen.unique ∙ p.seen.unique;
    kind = q.seen.kind ∙ p.seen.kind;
    links = q.seen.links ∙ p.seen.links;
    parent = q.seen.parent ∙ p.seen.parent;
    parent_unique = q.seen.parent_unique ∙ p.seen.parent_unique;
    names = q.seen.names ∙ p.seen.names;
  };
  contents = q.contents ∙ p.contents;
  acl = q.acl ∙ p.acl;
}

first_like : (b : Bool) (n m : ℕ) (x : Vnode) (t : Table Vnode) → eqb n m ≡ b → get n t ≡ Some x → AreLike (get m t) (cond b (Some (at_first x)) (get m t))
first_like true n m x t b e = subst (λ (o : Option Vnode). AreLike o (Some (at_first x))) (sym (ap (λ (k : ℕ). get k t) (sym (eqb-true n m b)) ∙ e)) (record { seen = record { unique = refl; kind = refl; links = refl; parent = refl; parent_unique = refl; names = refl }; contents = refl; acl = refl })
first_like false n m x t b e = like_itself (get m t)

one_like : (n m : ℕ) (o : Option Vnode) (t : Table Vnode) → get n t ≡ o → AreLike (get m t) (get m (one_at_first n o t))
one_like n m None t e = like_itself (get m t)
one_like n m (Some x) t e = subst (AreLike (get m t)) (sym (get_set m n (at_first x) t)) (first_like (eqb n m) n m x t refl e)

all_like : (es : List Edit) (m : ℕ) (t : Table Vnode) → AreLike (get m t) (get m (all_at_first es t))
all_like [] m t = like_itself (get m t)
all_like (e ∷ es) m t =
    let u : Table Vnode = one_at_first (edit_number e) (get (edit_number e) t) t in
    like_trans (get m t) (get m u) (get m (all_at_first es u)) (one_like (edit_number e) m (get (edit_number e) t) t refl) (all_like es m u)

one_up : (n : ℕ) (o : Option Vnode) (t : Table Vnode) → get n t ≡ o → AscendsFrom 1 t → AscendsFrom 1 (one_at_first n o t)
one_up n None t e up = up
one_up n (Some x) t e up = ascends_set 1 n (at_first x) t (above_root n t x up e) up

all_up : (es : List Edit) (t : Table Vnode) → AscendsFrom 1 t → AscendsFrom 1 (all_at_first es t)
all_up [] t up = up
all_up (e ∷ es) t up = all_up es (one_at_first (edit_number e) (get (edit_number e) t) t) (one_up (edit_number e) (get (edit_number e) t) t refl up)

pub first_sound : (es : List Edit) (v w : Volume) → IsSound v → w.next ≡ v.next → w.vnodes ≡ all_at_first es v.vnodes → IsSound w
first_sound es v w h next vnodes =
    let like : (n : ℕ) → AreLike (at v n) (at w n) = λ n. subst (λ (t : Table Vnode). AreLike (get n v.vnodes) (get n t)) (sym vnodes) (all_like es n v.vnodes) in
    as_volume w (steps v) (subst (AscendsFrom 1) (sym vnodes) (all_up es v.vnodes h.ascending))
    (subst (λ (k : ℕ). Sound k (at w)) (sym next) (as_like v.next (at v) (at w) like (as_map v h)))
    (ranked_same (at v) (at w) (steps v) (as_ranked v h) (λ n y e. let o = like_of (at v n) y (subst (AreLike (at v n)) e (like n)) in (o.0, (o.1.0, o.1.1.seen.parent))))

-- ---- lines

ok_is : {A : Type 0} (a b : A) → ◌≡◌ {A = Result A ℕ} (Ok a) (Ok b) → a ≡ b
ok_is {A} a b e = cc

laid_sound : (id : ℕ) (call : FsCall) (v w : Volume) (r : ops.Result) → op id all_rights call v ≡ r → IsSound v → laid_by id r v ≡ Ok w → IsSound w
laid_sound id call v w (ops.refused code) is h e = absurd cc
laid_sound id call v w (ops.reads shown) is h e = absurd cc
laid_sound id call v w ops.no_operation is h e = absurd cc
laid_sound id call v w (ops.changes es n) is h e =
    let after : Volume = counted (edited_all id es v) in
    let one : record after { counter = 1; vnodes = all_at_first es after.vnodes } ≡ w = ok_is (record after { counter = 1; vnodes = all_at_first es after.vnodes }) w e in
    subst IsSound one (first_sound es after (record after { counter = 1; vnodes = all_at_first es after.vnodes }) (operations_leave_sound id all_rights call v es n h is).sound refl refl)

pub called_sound : (id : ℕ) (call : FsCall) (v w : Volume) → IsSound v → called id call v ≡ Ok w → IsSound w
called_sound id call v w h e = laid_sound id call v w (op id all_rights call v) refl h e

both_ok : {A B : Type 0} (r : Result A ℕ) (f : A → Result B ℕ) (y : B) → (r >>= f) ≡ Ok y → (x : A) × ((r ≡ Ok x) × (f x ≡ Ok y))
both_ok {A} {B} (Ok x) f y e = (x, (refl, e))
both_ok {A} {B} (Err code) f y e = absurd cc

-- what each call keeps the lines keep
abbrev pub Keeps : (Volume → Type 0) → ℕ → Type 0
Keeps P id = (call : FsCall) (v w : Volume) → P v → called id call v ≡ Ok w → P w

in_kept : (P : Volume → Type 0) (id : ℕ) (v w : Volume) (d : Fid) (name : List ℕ) (x : Laid) → Keeps P id → P v → laid_in id v d name x ≡ Ok w → P w
in_kept P id v w d name a_dir keeps h e = keeps (calls.MakeDir d name nothing_set) v w h e
in_kept P id v w d name (a_link_to target) keeps h e = keeps (calls.Symlink d name target nothing_set) v w h e
in_kept P id v w d name (a_file_of bytes) keeps h e =
    let creates : FsCall = calls.CreateFile d name nothing_set in
    let stores : FsCall = stores_all (new_fid id v) bytes in
    let r = both_ok (called id creates v) (called id stores) w e in
    keeps stores r.0 w (keeps creates v r.0 h r.1.0) r.1.1

pub names_kept : (P : Volume → Type 0) (id : ℕ) (path : List (List ℕ)) (x : Laid) (v w : Volume) → Keeps P id → P v → laid_at id path x v ≡ Ok w → P w
unfolding laid_at
names_kept P id path x v w keeps h e =
    let p = both_ok (ok_or (parted path) 22) (λ (parts : List (List ℕ) × List ℕ). led id v parts.0 >>= (λ (at : Found). laid_in id v at.fid parts.1 x)) w e in
    let q = both_ok (led id v p.0.0) (λ (at : Found). laid_in id v at.fid p.0.1 x) w p.1.1 in
    in_kept P id v w q.0.fid p.0.1 x keeps h q.1.1

pub lists_kept : (P : Volume → Type 0) (id : ℕ) (path : List (List ℕ)) (text : List ℕ) (v w : Volume) → Keeps P id → P v → acl_laid id path text v ≡ Ok w → P w
unfolding acl_laid
lists_kept P id path text v w keeps h e =
    let q = both_ok (led id v path) (λ (at : Found). called id (calls.StoreAcl at.fid text) v) w e in
    keeps (calls.StoreAcl q.0.fid text) v w h q.1.1

-- a text that isn't too large is laid
within : (most count : ℕ) (t : Bool) (r : Result Volume ℕ) (w : Volume) → nat_lt most count ≡ t → unless_over most count r ≡ Ok w → r ≡ Ok w
within most count true r w t e = let z : Err 27 ≡ Ok w = ap (λ (b : Bool). cond b (Err 27) r) (sym t) ∙ e in absurd cc
within most count false r w t e = ap (λ (b : Bool). cond b (Err 27) r) (sym t) ∙ e

line_kept : (P : Volume → Type 0) (id : ℕ) (line : SetupLine) (v w : Volume) → Keeps P id → P v → laid id line v ≡ Ok w → P w
line_kept P id (lines.Directory path) v w keeps h e = names_kept P id path a_dir v w keeps h e
line_kept P id (lines.File path contents) v w keeps h e = names_kept P id path (a_file_of (bytes_in contents)) v w keeps h e
line_kept P id (lines.Link path target) v w keeps h e = names_kept P id path (a_link_to (bytes_in target)) v w keeps h (within most_contents (length (bytes_in target)) (nat_lt most_contents (length (bytes_in target))) (laid_at id path (a_link_to (bytes_in target)) v) w refl e)
line_kept P id (lines.AccessList path text) v w keeps h e = lists_kept P id path (bytes_in text) v w keeps h (within most_acl (length (bytes_in text)) (nat_lt most_acl (length (bytes_in text))) (acl_laid id path (bytes_in text) v) w refl e)

pub all_kept : (P : Volume → Type 0) (id : ℕ) (ls : List SetupLine) (v w : Volume) → Keeps P id → P v → laid_all id ls v ≡ Ok w → P w
all_kept P id [] v w keeps h e = subst P (ok_is v w e) h
all_kept P id (line ∷ ls) v w keeps h e =
    let r = both_ok (laid id line v) (laid_all id ls) w e in
    all_kept P id ls r.0 w keeps (line_kept P id line v r.0 keeps h r.1.0) r.1.1

or_kept : (P : Volume → Type 0) (v : Volume) (r : Result Volume ℕ) → ((w : Volume) → r ≡ Ok w → P w) → P v → P (laid_or v r)
or_kept P v (Ok w) keeps h = keeps w refl
or_kept P v (Err code) keeps h = h

pub filled_kept : (P : Volume → Type 0) (id : ℕ) (ls : List SetupLine) (v : Volume) → Keeps P id → P v → P (filled_by id ls v)
filled_kept P id [] v keeps h = h
filled_kept P id (line ∷ ls) v keeps h = filled_kept P id ls (laid_or v (laid id line v)) keeps (or_kept P v (laid id line v) (λ w e. line_kept P id line v w keeps h e) h)

-- lines that are accepted fill as they are laid
pub filled_as : (id : ℕ) (ls : List SetupLine) (v w : Volume) → laid_all id ls v ≡ Ok w → filled_by id ls v ≡ w
filled_as id [] v w e = ok_is v w e
filled_as id (line ∷ ls) v w e =
    let r = both_ok (laid id line v) (laid_all id ls) w e in
    ap (λ (o : Result Volume ℕ). filled_by id ls (laid_or v o)) r.1.0 ∙ filled_as id ls r.0 w r.1.1

pub names_sound : (id : ℕ) (path : List (List ℕ)) (x : Laid) (v w : Volume) → IsSound v → laid_at id path x v ≡ Ok w → IsSound w
names_sound id path x v w = names_kept IsSound id path x v w (called_sound id)

pub lists_sound : (id : ℕ) (path : List (List ℕ)) (text : List ℕ) (v w : Volume) → IsSound v → acl_laid id path text v ≡ Ok w → IsSound w
lists_sound id path text v w = lists_kept IsSound id path text v w (called_sound id)

-- ---- what was never changed

-- the vnode is one of those that are edited
abbrev Among : ℕ → List Edit → Type 0
Among n [] = ⊥
Among n (e ∷ es) = (edit_number e ≡ n) ⊎ Among n es

-- all are as at first but those that are still to be set back
abbrev FirstBut : List Edit → Table Vnode → Type 0
FirstBut es t = (n : ℕ) (x : Vnode) → get n t ≡ Some x → IsAtFirst x ⊎ Among n es

first_or : (x : Vnode) → IsAtFirst x ⊎ ⊥ → IsAtFirst x
first_or x (inl h) = h
first_or x (inr h) = absurd h

still_by : (b : Bool) (n m : ℕ) (x y : Vnode) (o : Option Vnode) (e : Edit) (es : List Edit) → edit_number e ≡ n → eqb n m ≡ b → cond b (Some (at_first y)) o ≡ Some x → (o ≡ Some x → IsAtFirst x ⊎ Among m (e ∷ es)) → IsAtFirst x ⊎ Among m es
still_by true n m x y o e es is t f h = inl (subst IsAtFirst (some_of (at_first y) x f) (record { index = refl; data_version = refl; changed = refl }))
still_by false n m x y o e es is t f h = of_rest (h f)
  where
    of_rest : IsAtFirst x ⊎ Among m (e ∷ es) → IsAtFirst x ⊎ Among m es
    of_rest (inl a) = inl a
    of_rest (inr (inl s)) = absurd (differ n m t (sym is ∙ s))
    of_rest (inr (inr a)) = inr a

gone_by : (n m : ℕ) (x : Vnode) (e : Edit) (es : List Edit) (t : Table Vnode) → edit_number e ≡ n → get n t ≡ None → get m t ≡ Some x → IsAtFirst x ⊎ Among m (e ∷ es) → IsAtFirst x ⊎ Among m es
gone_by n m x e es t is none f (inl a) = inl a
gone_by n m x e es t is none f (inr (inl s)) = let z : None ≡ Some x = sym none ∙ (ap (λ (k : ℕ). get k t) (sym is ∙ s) ∙ f) in absurd cc
gone_by n m x e es t is none f (inr (inr a)) = inr a

one_first : (e : Edit) (es : List Edit) (t : Table Vnode) (o : Option Vnode) → get (edit_number e) t ≡ o → FirstBut (e ∷ es) t → FirstBut es (one_at_first (edit_number e) o t)
one_first e es t None is h m x f = gone_by (edit_number e) m x e es t refl is f (h m x f)
one_first e es t (Some y) is h m x f = still_by (eqb (edit_number e) m) (edit_number e) m x y (get m t) e es refl refl (sym (get_set m (edit_number e) (at_first y) t) ∙ f) (h m x)

all_first : (es : List Edit) (t : Table Vnode) → FirstBut es t → (n : ℕ) (x : Vnode) → get n (all_at_first es t) ≡ Some x → IsAtFirst x
all_first [] t h n x f = first_or x (h n x f)
all_first (e ∷ es) t h n x f = all_first es (one_at_first (edit_number e) (get (edit_number e) t) t) (one_first e es t (get (edit_number e) t) refl h) n x f

edited_by : (b : Bool) (all : List Edit) (n m : ℕ) (x : Vnode) (a o : Option Vnode) → eqb n m ≡ b → Among n all → (o ≡ Some x → IsAtFirst x ⊎ Among m all) → cond b a o ≡ Some x → IsAtFirst x ⊎ Among m all
edited_by true all n m x a o t among h f = inr (subst (λ (k : ℕ). Among k all) (eqb-true n m t) among)
edited_by false all n m x a o t among h f = h f

edits_first : (id : ℕ) (all es : List Edit) (v : Volume) → ((n : ℕ) → Among n es → Among n all) → FirstBut all v.vnodes → FirstBut all (edited_all id es v).vnodes
edits_first id all [] v among h = h
edits_first id all (e ∷ es) v among h =
    edits_first id all es (edited id e v).volume (λ n a. among n (inr a))
    (λ m x f. edited_by (eqb (edit_number e) m) all (edit_number e) m x _ (get m v.vnodes) refl (among (edit_number e) (inl refl)) (h m x) (sym (edit_look id m e v) ∙ f))

laid_first : (id : ℕ) (v w : Volume) (r : ops.Result) → IsSetUp v → laid_by id r v ≡ Ok w → IsSetUp w
laid_first id v w (ops.refused code) h e = absurd cc
laid_first id v w (ops.reads shown) h e = absurd cc
laid_first id v w ops.no_operation h e = absurd cc
laid_first id v w (ops.changes es n) h e =
    let after : Volume = counted (edited_all id es v) in
    let one : record after { counter = 1; vnodes = all_at_first es after.vnodes } ≡ w = ok_is (record after { counter = 1; vnodes = all_at_first es after.vnodes }) w e in
    subst IsSetUp one (record { counter = refl; vnodes = all_first es after.vnodes (edits_first id es es v (λ m a. a) (λ m x f. inl (h.vnodes m x f))) })

pub called_first : (id : ℕ) → Keeps IsSetUp id
called_first id call v w h e = laid_first id v w (op id all_rights call v) h e

root_first : (b : Bool) (x : Vnode) → cond b (Some new_root) None ≡ Some x → IsAtFirst x
root_first false x e = absurd cc
root_first true x e = subst IsAtFirst (some_of new_root x e) (record { index = refl; data_version = refl; changed = refl })

pub new_first : (family : ℕ) (name : List ℕ) (kind flags quota : ℕ) → IsSetUp (new_volume family name kind flags quota)
new_first family name kind flags quota = record { counter = refl; vnodes = λ n x e. root_first (eqb 1 n) x e }

pub set_up : SetUpTellsOnce
set_up = record {
  new = new_first;
  names = λ id path x v w. names_kept IsSetUp id path x v w (called_first id);
  lists = λ id path text v w. lists_kept IsSetUp id path text v w (called_first id);
}

pub laid_out : SetUpIsLaidOut
laid_out id family name kind flags quota ls w e =
    let new : Volume = new_volume family name kind flags quota in
    record {
      sound = all_kept IsSound id ls new w (called_sound id) (new_is_sound family name kind flags quota) e;
      set_up = all_kept IsSetUp id ls new w (called_first id) (new_first family name kind flags quota) e;
    }

first_is_laid_out : (l : VolumeLine) → IsLaidOut (first_volume l)
first_is_laid_out l = record {
  sound = filled_kept IsSound l.id l.lines (empty_volume l) (called_sound l.id) (new_is_sound l.id l.name 0 0 l.quota);
  set_up = filled_kept IsSetUp l.id l.lines (empty_volume l) (called_first l.id) (new_first l.id l.name 0 0 l.quota);
}

pub first_volumes : FirstVolumes
first_volumes = record { laid_out = first_is_laid_out; accepted = λ l w e. filled_as l.id l.lines (empty_volume l) w e }
