-- Edits: tables, and what a list of edits tells is what it makes.
use Rattle.spec_ideal.specs.Tables.{Table, get, set, unset}
use Rattle.spec_ideal.specs.Told.{last_told, Agrees, AreNext, Follows}
use Rattle.spec_ideal.specs.Volumes.{VnodeKind, a_file, a_directory, a_link, Vnode, Volume, Edit, amends, makes, frees, Amend, amended, fresh, version_at, gone_at, if_unique, amends_at, makes_at, frees_at, edited, edited_all, versions_by, body_by, counted}
use Rattle.law_legal.proofs.BaseLaws.{same_fid-true, same_fid-refl, apart}
use Rattle.law_legal.specs.Ideal.{IsThat, told_by, versions_in, version_in, latest, last_version, HasVersion}
use Rattle.spec_history.specs.declared.lines.Line.{Line}
use Rattle.std.proofs.Common.{◌≡◌, ℕ, ◌+◌, ◌<◌, ◌≤◌, ◌⊎◌, inl, inr, Bool, true, false, cond, eqb, ltb, not, List, [], ◌∷◌, ◌++◌, Option, Some, None, refl, sym, ap, subst, ◌∙◌, arith, eq-eqb, eqb-true}
use Rattle.std.specs.Prelude.{◌&&◌, ⊤}
use Rattle.std.specs.Option.{option_map}
use Rattle.afs_num.specs.Fids.{same_fid}
use Rattle.afs_num.specs.declared.types.Fid.{Fid}
use Rattle.afs_num.specs.declared.histories.Body.{Body}
use Rattle.afs_num.specs.declared.histories.Body.TheVariants as bodies
use Rattle.spec_history.specs.declared.lines.Line.TheVariants as lines
use Rattle.afs_num.specs.declared.histories.Version.{Version}

-- ---- tables

got_by : {A : Type 0} (b t l : Bool) (n m k : ℕ) (x y : A) (ps : Table A) → eqb k n ≡ b → eqb n m ≡ t → (get m (set n x ps) ≡ cond t (Some x) (get m ps)) → get m (cond b ((n, x) ∷ ps) (cond l ((n, x) ∷ (k, y) ∷ ps) ((k, y) ∷ set n x ps))) ≡ cond t (Some x) (cond (eqb k m) (Some y) (get m ps))
got_by {A} true true l n m k x y ps b t h = rw t refl
got_by {A} true false l n m k x y ps b t h =
    let no : eqb k m ≡ false = ap (λ (z : ℕ). eqb z m) (eqb-true k n b) ∙ t in
    rw (t, no) refl
got_by {A} false true true n m k x y ps b t h = rw t refl
got_by {A} false false true n m k x y ps b t h = rw t refl
got_by {A} false true false n m k x y ps b t h =
    let no : eqb k m ≡ false = ap (eqb k) (sym (eqb-true n m t)) ∙ b in
    rw no h
got_by {A} false false false n m k x y ps b t h = ap (λ (o : Option A). cond (eqb k m) (Some y) o) h

pub get-set : {A : Type 0} (n m : ℕ) (x : A) (ps : Table A) → get m (set n x ps) ≡ cond (eqb n m) (Some x) (get m ps)
get-set {A} n m x [] = refl
get-set {A} n m x (p ∷ ps) = got_by (eqb p.0 n) (eqb n m) (ltb n p.0) n m p.0 x p.1 ps refl refl (get-set n m x ps)

none_either : {A : Type 0} (t : Bool) → ◌≡◌ {A = Option A} None (cond t None None)
none_either {A} true = refl
none_either {A} false = refl

left_by : {A : Type 0} (b t : Bool) (n m k : ℕ) (y : A) (ps rest : Table A) → eqb k n ≡ b → eqb n m ≡ t → get m rest ≡ cond t None (get m ps) → get m (cond (not b) ((k, y) ∷ rest) rest) ≡ cond t None (cond (eqb k m) (Some y) (get m ps))
left_by {A} true true n m k y ps rest b t h = h
left_by {A} true false n m k y ps rest b t h =
    let no : eqb k m ≡ false = ap (λ (z : ℕ). eqb z m) (eqb-true k n b) ∙ t in
    rw no h
left_by {A} false true n m k y ps rest b t h =
    let no : eqb k m ≡ false = ap (eqb k) (sym (eqb-true n m t)) ∙ b in
    rw no h
left_by {A} false false n m k y ps rest b t h = ap (λ (o : Option A). cond (eqb k m) (Some y) o) h

pub get-unset : {A : Type 0} (n m : ℕ) (ps : Table A) → get m (unset n ps) ≡ cond (eqb n m) None (get m ps)
get-unset {A} n m [] = none_either (eqb n m)
get-unset {A} n m (p ∷ ps) = left_by (eqb p.0 n) (eqb n m) n m p.0 p.1 ps (unset n ps) refl refl (get-unset n m ps)

-- ---- versions on lines

abbrev pub fid_at : ℕ → ℕ → ℕ → Fid
fid_at id n u = record { volume = id; vnode = n; unique = u }

-- the lines of versions, on older ones
abbrev pub on_top : List Version → List Line → List Line
on_top [] ls = ls
on_top (v ∷ vs) ls = on_top vs (lines.Version v ∷ ls)

pub on_top_more : (vs ws : List Version) (ls : List Line) → on_top (vs ++ ws) ls ≡ on_top ws (on_top vs ls)
on_top_more [] ws ls = refl
on_top_more (v ∷ vs) ws ls = on_top_more vs ws (lines.Version v ∷ ls)

-- the last version, unless the vnode is gone
abbrev pub live_by : Body → Version → Option Version
live_by bodies.Gone v = None
live_by b v = Some v

abbrev pub live : Option Version → Option Version
live None = None
live (Some v) = live_by v.body v

abbrev pub index_in : Option Version → ℕ
index_in None = 0
index_in (Some v) = v.index

pub granted_in : (o : Option Version) (v : Version) (i : ℕ) → index_in o ≤ i → o ≡ Some v → v.index ≤ i
granted_in o v i le e = subst (λ (x : Option Version). index_in x ≤ i) e le

live_kind : (k : VnodeKind) (id n : ℕ) (x : Vnode) → live_by (body_by k x) (version_at id n x) ≡ Some (version_at id n x)
live_kind a_file id n x = refl
live_kind a_directory id n x = refl
live_kind a_link id n x = refl

pub live_is : (id n : ℕ) (x : Vnode) → live (Some (version_at id n x)) ≡ Some (version_at id n x)
live_is id n x = live_kind x.kind id n x

-- What a volume's lines and its value have in common: each vnode is what the last version of its fid says, and no version
-- has a unique number to come
pub record Sound (id : ℕ) (v : Volume) (ls : List Line) : Type 0 where
  pub agree : (n u : ℕ) → live (last_version (fid_at id n u) ls) ≡ option_map (version_at id n) (if_unique u (get n v.vnodes))
  pub new : (n u : ℕ) → v.next ≤ u → last_version (fid_at id n u) ls ≡ None

-- each version is of the volume, and no lower than the one before of its fid
abbrev pub Grow : ℕ → List Version → List Line → Type 0
Grow id [] ls = ⊤
Grow id (v ∷ vs) ls = ((v.fid.volume ≡ id) × (index_in (last_version v.fid ls) ≤ v.index)) × Grow id vs (lines.Version v ∷ ls)

pub record Told (id : ℕ) (v : Volume) (vs : List Version) (ls : List Line) : Type 0 where
  pub sound : Sound id v (on_top vs ls)
  pub grow : Grow id vs ls

-- ---- one edit

same_parts : (id n m u w : ℕ) (a b : Bool) → eqb n m ≡ a → eqb u w ≡ b → same_fid (fid_at id n u) (fid_at id m w) ≡ (a && b)
same_parts id n m u w a b p q = rw (eq-eqb id id refl, p, q) refl

-- where a vnode is, the last version of its fid has its index
live_index_by : (b : Body) (v w : Version) → live_by b v ≡ Some w → Some v ≡ Some w
live_index_by (bodies.File c) v w e = e
live_index_by (bodies.Dir c) v w e = e
live_index_by (bodies.Link c) v w e = e
live_index_by bodies.Gone v w e = absurd cc

pub live_index : (o : Option Version) (w : Version) → live o ≡ Some w → o ≡ Some w
live_index None w e = absurd cc
live_index (Some v) w e = live_index_by v.body v w e

at_unique : (x : Vnode) → if_unique x.unique (Some x) ≡ Some x
at_unique x = rw (eq-eqb x.unique x.unique refl) refl

pub there : (id n : ℕ) (v : Volume) (x : Vnode) (ls : List Line) → get n v.vnodes ≡ Some x → Sound id v ls → last_version (fid_at id n x.unique) ls ≡ Some (version_at id n x)
there id n v x ls e h = live_index _ _ (h.agree n x.unique ∙ ap (λ (o : Option Vnode). option_map (version_at id n) (if_unique x.unique o)) e ∙ ap (option_map (version_at id n)) (at_unique x))

-- a number to come isn't that of a vnode
not_there : (id n : ℕ) (v : Volume) (x : Vnode) (ls : List Line) → get n v.vnodes ≡ Some x → Sound id v ls → v.next ≤ x.unique → ⊥
not_there id n v x ls e h le = let a = there id n v x ls e h in let b = h.new n x.unique le in absurd cc

-- a vnode takes the place of the one that is there, or of none
abbrev HadNone : ℕ → ℕ → ℕ → List Line → Type 0
HadNone id n u ls = live (last_version (fid_at id n u) ls) ≡ None

other_none : (id n m u : ℕ) (x : Vnode) (v : Volume) (ls : List Line) → get n v.vnodes ≡ Some x → Sound id v ls → eqb n m ≡ true → eqb x.unique u ≡ false → HadNone id m u ls
other_none id n m u x v ls e h p q =
    h.agree m u ∙ (ap (λ (o : Option Vnode). option_map (version_at id m) (if_unique u o)) (ap (λ (z : ℕ). get z v.vnodes) (sym (eqb-true n m p)) ∙ e) ∙ rw q refl)

free_none : (id n m u : ℕ) (v : Volume) (ls : List Line) → get n v.vnodes ≡ None → Sound id v ls → eqb n m ≡ true → HadNone id m u ls
free_none id n m u v ls e h p = h.agree m u ∙ ap (λ (o : Option Vnode). option_map (version_at id m) (if_unique u o)) (ap (λ (z : ℕ). get z v.vnodes) (sym (eqb-true n m p)) ∙ e)

put_agree : (a b : Bool) (id n m u : ℕ) (y : Vnode) (v : Volume) (ls : List Line) → Sound id v ls → eqb n m ≡ a → eqb y.unique u ≡ b → (a ≡ true → b ≡ false → HadNone id m u ls)
    → live (cond (a && b) (Some (version_at id n y)) (last_version (fid_at id m u) ls)) ≡ option_map (version_at id m) (if_unique u (cond a (Some y) (get m v.vnodes)))
put_agree true true id n m u y v ls h p q w = rw q (subst (λ (z : ℕ). live (Some (version_at id n y)) ≡ Some (version_at id z y)) (eqb-true n m p) (live_is id n y))
put_agree true false id n m u y v ls h p q w = rw q (w refl refl)
put_agree false b id n m u y v ls h p q w = h.agree m u

gone_agree : (a b : Bool) (id n m u : ℕ) (x : Vnode) (v : Volume) (ls : List Line) → Sound id v ls → (a ≡ true → b ≡ false → HadNone id m u ls)
    → live (cond (a && b) (Some (gone_at id n x)) (last_version (fid_at id m u) ls)) ≡ option_map (version_at id m) (if_unique u (cond a None (get m v.vnodes)))
gone_agree true true id n m u x v ls h w = refl
gone_agree true false id n m u x v ls h w = w refl refl
gone_agree false b id n m u x v ls h w = h.agree m u

new_by : (a b : Bool) (w : Version) (o : Option Version) → (a ≡ true → b ≡ true → ⊥) → o ≡ None → cond (a && b) (Some w) o ≡ None
new_by true true w o ne h = absurd (ne refl refl)
new_by true false w o ne h = h
new_by false b w o ne h = h

seen_last : (id n k m u : ℕ) (w : Version) (ls : List Line) → w.fid ≡ fid_at id n k → last_version (fid_at id m u) (lines.Version w ∷ ls) ≡ cond (eqb n m && eqb k u) (Some w) (last_version (fid_at id m u) ls)
seen_last id n k m u w ls e = ap (λ (t : Bool). cond t (Some w) (last_version (fid_at id m u) ls)) (ap (λ (f : Fid). same_fid f (fid_at id m u)) e ∙ same_parts id n m k u (eqb n m) (eqb k u) refl refl)

amends_told : (id n : ℕ) (a : Amend) (v : Volume) (o : Option Vnode) (ls : List Line) → get n v.vnodes ≡ o → Sound id v ls → Told id (amends_at id n a v o).volume (amends_at id n a v o).versions ls
amends_told id n a v None ls e h = record { sound = h; grow = tt }
amends_told id n a v (Some x) ls e h =
    let y : Vnode = amended (v.counter + 1) a x in
    record {
      sound = record {
        agree = λ m u. ap live (seen_last id n x.unique m u (version_at id n y) ls refl) ∙ (put_agree (eqb n m) (eqb x.unique u) id n m u y v ls h refl refl (λ p q. other_none id n m u x v ls e h p q) ∙ ap (λ (o : Option Vnode). option_map (version_at id m) (if_unique u o)) (sym (get-set n m y v.vnodes)));
        new = λ m u le. seen_last id n x.unique m u (version_at id n y) ls refl ∙ new_by (eqb n m) (eqb x.unique u) (version_at id n y) _ (λ p q. not_there id n v x ls e h (subst (λ (z : ℕ). v.next ≤ z) (sym (eqb-true x.unique u q)) le)) (h.new m u le);
      };
      grow = ((refl, subst (λ (o : Option Version). index_in o ≤ x.index + 1) (sym (there id n v x ls e h)) (omega arith)), tt);
    }

makes_told : (id n : ℕ) (x : Vnode) (v : Volume) (o : Option Vnode) (ls : List Line) → get n v.vnodes ≡ o → Sound id v ls → Told id (makes_at id n x v o).volume (makes_at id n x v o).versions ls
makes_told id n x v (Some z) ls e h = record { sound = h; grow = tt }
makes_told id n x v None ls e h =
    let y : Vnode = fresh (v.counter + 1) v.next x in
    record {
      sound = record {
        agree = λ m u. ap live (seen_last id n v.next m u (version_at id n y) ls refl) ∙ (put_agree (eqb n m) (eqb v.next u) id n m u y v ls h refl refl (λ p q. free_none id n m u v ls e h p) ∙ ap (λ (o : Option Vnode). option_map (version_at id m) (if_unique u o)) (sym (get-set n m y v.vnodes)));
        new = λ m u le. seen_last id n v.next m u (version_at id n y) ls refl ∙ new_by (eqb n m) (eqb v.next u) (version_at id n y) _ (λ p q. let same : v.next ≡ u = eqb-true v.next u q in absurd (omega arith)) (h.new m u (omega arith));
      };
      grow = ((refl, subst (λ (o : Option Version). index_in o ≤ 1) (sym (h.new n v.next (omega arith))) (omega arith)), tt);
    }

frees_told : (id n : ℕ) (v : Volume) (o : Option Vnode) (ls : List Line) → get n v.vnodes ≡ o → Sound id v ls → Told id (frees_at id n v o).volume (frees_at id n v o).versions ls
frees_told id n v None ls e h = record { sound = h; grow = tt }
frees_told id n v (Some x) ls e h = record {
  sound = record {
    agree = λ m u. ap live (seen_last id n x.unique m u (gone_at id n x) ls refl) ∙ (gone_agree (eqb n m) (eqb x.unique u) id n m u x v ls h (λ p q. other_none id n m u x v ls e h p q) ∙ ap (λ (o : Option Vnode). option_map (version_at id m) (if_unique u o)) (sym (get-unset n m v.vnodes)));
    new = λ m u le. seen_last id n x.unique m u (gone_at id n x) ls refl ∙ new_by (eqb n m) (eqb x.unique u) (gone_at id n x) _ (λ p q. not_there id n v x ls e h (subst (λ (z : ℕ). v.next ≤ z) (sym (eqb-true x.unique u q)) le)) (h.new m u le);
  };
  grow = ((refl, subst (λ (o : Option Version). index_in o ≤ x.index + 1) (sym (there id n v x ls e h)) (omega arith)), tt);
}

edit_told : (id : ℕ) (e : Edit) (v : Volume) (ls : List Line) → Sound id v ls → Told id (edited id e v).volume (edited id e v).versions ls
edit_told id (amends n a) v ls h = amends_told id n a v (get n v.vnodes) ls refl h
edit_told id (makes n x) v ls h = makes_told id n x v (get n v.vnodes) ls refl h
edit_told id (frees n) v ls h = frees_told id n v (get n v.vnodes) ls refl h

-- ---- all of them

grow_more : (id : ℕ) (vs ws : List Version) (ls : List Line) → Grow id vs ls → Grow id ws (on_top vs ls) → Grow id (vs ++ ws) ls
grow_more id [] ws ls a b = b
grow_more id (v ∷ vs) ws ls a b = (a.0, grow_more id vs ws (lines.Version v ∷ ls) a.1 b)

pub edits_told : (id : ℕ) (es : List Edit) (v : Volume) (ls : List Line) → Sound id v ls → Told id (edited_all id es v) (versions_by id es v) ls
edits_told id [] v ls h = record { sound = h; grow = tt }
edits_told id (e ∷ es) v ls h =
    let one : Told id (edited id e v).volume (edited id e v).versions ls = edit_told id e v ls h in
    let rest : Told id (edited_all id es (edited id e v).volume) (versions_by id es (edited id e v).volume) (on_top (edited id e v).versions ls) = edits_told id es (edited id e v).volume (on_top (edited id e v).versions ls) one.sound in
    record {
      sound = subst (Sound id (edited_all id es (edited id e v).volume)) (sym (on_top_more (edited id e v).versions (versions_by id es (edited id e v).volume) ls)) rest.sound;
      grow = grow_more id (edited id e v).versions (versions_by id es (edited id e v).volume) ls one.grow rest.grow;
    }

pub counted_sound : (id : ℕ) (v : Volume) (ls : List Line) → Sound id v ls → Sound id (counted v) ls
counted_sound id v ls h = record { agree = h.agree; new = h.new }

-- ---- what versions that grow do to the last ones

-- the last version of a fid has its highest index
abbrev pub Tops : List Line → Type 0
Tops ls = (f : Fid) (i : ℕ) (b : Body) → HasVersion f i b ls → i ≤ index_in (last_version f ls)

top_by : (t : Bool) (w : Version) (f : Fid) (i : ℕ) (b : Body) (ls : List Line) → same_fid w.fid f ≡ t → index_in (last_version w.fid ls) ≤ w.index → Tops ls → ((w.fid ≡ f) × ((w.index ≡ i) × (w.body ≡ b))) ⊎ HasVersion f i b ls → i ≤ index_in (cond t (Some w) (last_version f ls))
top_by true w f i b ls t le top (inl x) = let e : w.index ≡ i = x.1.0 in omega arith
top_by true w f i b ls t le top (inr x) =
    let a : i ≤ index_in (last_version f ls) = top f i b x in
    let c : index_in (last_version f ls) ≤ w.index = subst (λ (g : Fid). index_in (last_version g ls) ≤ w.index) (same_fid-true w.fid f t) le in
    omega arith
top_by false w f i b ls t le top (inl x) = absurd (apart w.fid f t x.0)
top_by false w f i b ls t le top (inr x) = top f i b x

pub tops : (id : ℕ) (vs : List Version) (ls : List Line) → Grow id vs ls → Tops ls → Tops (on_top vs ls)
tops id [] ls g h = h
tops id (v ∷ vs) ls g h = tops id vs (lines.Version v ∷ ls) g.1 (λ f i b x. top_by (same_fid v.fid f) v f i b ls refl g.0.1 h x)

pub none_by : (t : Bool) (f : Fid) (i : ℕ) (b : Body) (v : Version) (o : Option Version) (S : Type 0) → same_fid v.fid f ≡ t → (o ≡ None → S → ⊥) → cond t (Some v) o ≡ None → ((v.fid ≡ f) × ((v.index ≡ i) × (v.body ≡ b))) ⊎ S → ⊥
none_by true f i b v o S t h e s = absurd cc
none_by false f i b v o S t h e (inl x) = let yes : same_fid v.fid f ≡ true = ap (λ (y : Fid). same_fid y f) x.0 ∙ same_fid-refl f in absurd cc
none_by false f i b v o S t h e (inr s) = h e s

pub none_in : (f : Fid) (i : ℕ) (b : Body) (l o : Option Version) (S : Type 0) → (o ≡ None → S → ⊥) → latest f l o ≡ None → IsThat f i b l S → ⊥
none_in f i b None o S h e x = h e x
none_in f i b (Some v) o S h e x = none_by (same_fid v.fid f) f i b v o S refl h e x

pub none_has : (f : Fid) (i : ℕ) (b : Body) (ls : List Line) → last_version f ls ≡ None → HasVersion f i b ls → ⊥
none_has f i b [] e x = x
none_has f i b (l ∷ ls) e x = none_in f i b (version_in l) (last_version f ls) (HasVersion f i b ls) (none_has f i b ls) e x

-- a fid has one body under each index
abbrev pub Ones : List Line → Type 0
Ones ls = (f : Fid) (i : ℕ) (a b : Body) → HasVersion f i a ls → HasVersion f i b ls → a ≡ b

pub one_more : (w : Version) (ls : List Line) → ((i : ℕ) (b : Body) → HasVersion w.fid i b ls → i < w.index) → Ones ls → Ones (lines.Version w ∷ ls)
one_more w ls above h f i a b (inl x) (inl y) = sym x.1.1 ∙ y.1.1
one_more w ls above h f i a b (inl x) (inr y) =
    let l : i < w.index = above i b (subst (λ (g : Fid). HasVersion g i b ls) (sym x.0) y) in let e : w.index ≡ i = x.1.0 in absurd (omega arith)
one_more w ls above h f i a b (inr x) (inl y) =
    let l : i < w.index = above i a (subst (λ (g : Fid). HasVersion g i a ls) (sym y.0) x) in let e : w.index ≡ i = y.1.0 in absurd (omega arith)
one_more w ls above h f i a b (inr x) (inr y) = h f i a b x y

-- the version is above all of its fid
follow_above : (w : Version) (ls : List Line) (o : Option Version) → last_version w.fid ls ≡ o → Follows o w → Tops ls → (i : ℕ) (b : Body) → HasVersion w.fid i b ls → i < w.index
follow_above w ls None e f top i b x = absurd (none_has w.fid i b ls e x)
follow_above w ls (Some last) e f top i b x =
    let le : i ≤ last.index = subst (λ (o : Option Version). i ≤ index_in o) e (top w.fid i b x) in let next : w.index ≡ last.index + 1 = f.1.0 in omega arith

last_more : (w : Version) (ls : List Line) (told : List Version) → ((f : Fid) → last_version f ls ≡ last_told f told) → (f : Fid) → last_version f (lines.Version w ∷ ls) ≡ last_told f (w ∷ told)
last_more w ls told same f = ap (λ (o : Option Version). cond (same_fid w.fid f) (Some w) o) (same f)

pub ones : (id : ℕ) (vs : List Version) (ls : List Line) (told : List Version) → ((f : Fid) → last_version f ls ≡ last_told f told) → AreNext id vs told → Grow id vs ls → Tops ls → Ones ls → Ones (on_top vs ls)
ones id [] ls told same next g top h = h
ones id (v ∷ vs) ls told same next g top h =
    ones id vs (lines.Version v ∷ ls) (v ∷ told) (last_more v ls told same) next.1.1 g.1 (tops id (v ∷ []) ls (g.0, tt) top)
    (one_more v ls (follow_above v ls (last_told v.fid told) (same v.fid) next.1.0 top) h)

-- all that lines tell
last_by : (f : Fid) (o : Option Version) (ls : List Line) (p : Option Version) → p ≡ last_told f (versions_in ls) → latest f o p ≡ last_told f (told_by o (versions_in ls))
last_by f None ls p e = e
last_by f (Some v) ls p e = ap (λ (x : Option Version). cond (same_fid v.fid f) (Some v) x) e

pub last_of : (f : Fid) (ls : List Line) → last_version f ls ≡ last_told f (versions_in ls)
last_of f [] = refl
last_of f (l ∷ ls) = last_by f (version_in l) ls (last_version f ls) (last_of f ls)

pub agrees_of : (id : ℕ) (v : Volume) (ls : List Line) → Sound id v ls → Agrees id v (versions_in ls)
agrees_of id v ls x = record {
  held = λ n q. ap live (sym (last_of (fid_at id n q) ls)) ∙ x.agree n q;
  unseen = λ n q le. sym (last_of (fid_at id n q) ls) ∙ x.new n q le;
}

-- of another volume they are none
abbrev pub touches : Fid → List Version → Bool
touches f [] = false
touches f (v ∷ vs) = cond (same_fid v.fid f) true (touches f vs)

untouched_by : (t u : Bool) (f : Fid) (v : Version) (vs : List Version) (ls : List Line) → same_fid v.fid f ≡ t → cond t true u ≡ false → (u ≡ false → last_version f (on_top vs (lines.Version v ∷ ls)) ≡ last_version f (lines.Version v ∷ ls)) → last_version f (on_top vs (lines.Version v ∷ ls)) ≡ last_version f ls
untouched_by true u f v vs ls t e h = absurd cc
untouched_by false u f v vs ls t e h = h e ∙ rw t refl

pub untouched : (f : Fid) (vs : List Version) (ls : List Line) → touches f vs ≡ false → last_version f (on_top vs ls) ≡ last_version f ls
untouched f [] ls e = refl
untouched f (v ∷ vs) ls e = untouched_by (same_fid v.fid f) (touches f vs) f v vs ls refl e (untouched f vs (lines.Version v ∷ ls))

touch_by : (t : Bool) (f : Fid) (id : ℕ) (v : Version) (u : Bool) → same_fid v.fid f ≡ t → v.fid.volume ≡ id → (u ≡ true → f.volume ≡ id) → cond t true u ≡ true → f.volume ≡ id
touch_by true f id v u t e h w = sym (ap (λ (g : Fid). g.volume) (same_fid-true v.fid f t)) ∙ e
touch_by false f id v u t e h w = h w

pub touched_volume : (f : Fid) (id : ℕ) (vs : List Version) (ls : List Line) → Grow id vs ls → touches f vs ≡ true → f.volume ≡ id
touched_volume f id [] ls g e = absurd cc
touched_volume f id (v ∷ vs) ls g e = touch_by (same_fid v.fid f) f id v (touches f vs) refl g.0.0 (touched_volume f id vs (lines.Version v ∷ ls) g.1) e

no_touch : (t : Bool) → (t ≡ true → ⊥) → t ≡ false
no_touch true h = absurd (h refl)
no_touch false h = refl

pub not_touched : (f : Fid) (id : ℕ) (vs : List Version) (ls : List Line) → Grow id vs ls → (f.volume ≡ id → ⊥) → touches f vs ≡ false
not_touched f id vs ls g ne = no_touch (touches f vs) (λ t. ne (touched_volume f id vs ls g t))

-- ---- a server's volumes, and lines: a volume that isn't there has no versions

abbrev pub SoundIn : ℕ → Option Volume → List Line → Type 0
SoundIn id None ls = (n u : ℕ) → last_version (fid_at id n u) ls ≡ None
SoundIn id (Some v) ls = Sound id v ls

-- the same, where no line of the volume's came to the lines
pub sound_same : (id : ℕ) (o : Option Volume) (old new : List Line) → ((n u : ℕ) → last_version (fid_at id n u) new ≡ last_version (fid_at id n u) old) → SoundIn id o old → SoundIn id o new
sound_same id None old new e h = λ n u. e n u ∙ h n u
sound_same id (Some v) old new e h = record { agree = λ n u. ap live (e n u) ∙ h.agree n u; new = λ n u le. e n u ∙ h.new n u le }
