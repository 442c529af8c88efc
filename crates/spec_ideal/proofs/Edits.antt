-- Edits: what a list of edits tells is what it makes.
use Rattle.std.proofs.Common.{◌≡◌, ℕ, ◌+◌, ◌<◌, ◌≤◌, ◌⊎◌, inl, inr, Bool, true, false, cond, eqb, List, [], ◌∷◌, ◌++◌, Option, Some, None, refl, sym, ap, subst, ◌∙◌, arith, eq-eqb, eqb-true}
use Rattle.std.specs.Prelude.{◌&&◌}
use Rattle.std.specs.Option.{option_map}
use Rattle.afs_num.specs.Fids.{same_fid}
use Rattle.afs_num.specs.declared.types.Fid.{Fid}
use Rattle.afs_num.specs.declared.directories.Name.{Name}
use Rattle.afs_num.specs.declared.histories.Body.{Body}
use Rattle.afs_num.specs.declared.histories.Body.TheVariants as bodies
use Rattle.afs_num.specs.declared.histories.Version.{Version}
use Rattle.spec_ideal.specs.Tables.{Table, get, AscendsFrom}
use Rattle.spec_ideal.specs.SetUp.{first_versions}
use Rattle.spec_ideal.specs.Volumes.{VnodeKind, a_file, a_directory, a_link, Vnode, Volume, Edit, amends, makes, frees, Amend, amended, fresh, version_at, gone_at, if_unique, amends_at, makes_at, frees_at, edited, edited_all, versions_by, body_by, counted}
use Rattle.spec_ideal.specs.ChangeLaws.{IsUnseen}
use Rattle.spec_ideal.specs.Told.{last_told, IsTold, on_top, touches, fid_at, live_by, live, Agrees, RaisesData, Follows, AreNext}
use Rattle.spec_ideal.proofs.Tables.{get_below, get_set, get_unset}
use Rattle.spec_ideal.proofs.Basics.{same_fid-true, apart}

-- ---- versions on older ones

pub on_top_more : (vs ws : List Version) (ls : List Version) → on_top (vs ++ ws) ls ≡ on_top ws (on_top vs ls)
on_top_more [] ws ls = refl
on_top_more (v ∷ vs) ws ls = on_top_more vs ws (v ∷ ls)

abbrev pub index_in : Option Version → ℕ
index_in None = 0
index_in (Some v) = v.index

live_kind : (k : VnodeKind) (id n : ℕ) (x : Vnode) → live_by (body_by k x) (version_at id n x) ≡ Some (version_at id n x)
live_kind a_file id n x = refl
live_kind a_directory id n x = refl
live_kind a_link id n x = refl

pub live_is : (id n : ℕ) (x : Vnode) → live (Some (version_at id n x)) ≡ Some (version_at id n x)
live_is id n x = live_kind x.kind id n x

pub record Told (id : ℕ) (v : Volume) (vs : List Version) (ls : List Version) : Type 0 where
  pub agrees : Agrees id v (on_top vs ls)
  pub next : AreNext id vs ls

-- ---- one edit

same_parts : (id n m u w : ℕ) (a b : Bool) → eqb n m ≡ a → eqb u w ≡ b → same_fid (fid_at id n u) (fid_at id m w) ≡ (a && b)
same_parts id n m u w a b p q = rw (eq-eqb id id refl, p, q) refl

-- where a vnode is, the last version of its fid has its index
live_index_by : (b : Body) (v w : Version) → live_by b v ≡ Some w → Some v ≡ Some w
live_index_by (bodies.File c) v w e = e
live_index_by (bodies.Dir c) v w e = e
live_index_by (bodies.Link c) v w e = e
live_index_by bodies.Gone v w e = absurd cc

pub live_index : (o : Option Version) (w : Version) → live o ≡ Some w → o ≡ Some w
live_index None w e = absurd cc
live_index (Some v) w e = live_index_by v.body v w e

at_unique : (x : Vnode) → if_unique x.unique (Some x) ≡ Some x
at_unique x = rw (eq-eqb x.unique x.unique refl) refl

pub there : (id n : ℕ) (v : Volume) (x : Vnode) (ls : List Version) → get n v.vnodes ≡ Some x → Agrees id v ls → last_told (fid_at id n x.unique) ls ≡ Some (version_at id n x)
there id n v x ls e h = live_index _ _ (h.held n x.unique ∙ ap (λ (o : Option Vnode). option_map (version_at id n) (if_unique x.unique o)) e ∙ ap (option_map (version_at id n)) (at_unique x))

-- a number to come isn't that of a vnode
not_there : (id n : ℕ) (v : Volume) (x : Vnode) (ls : List Version) → get n v.vnodes ≡ Some x → Agrees id v ls → v.next ≤ x.unique → ⊥
not_there id n v x ls e h le = let a = there id n v x ls e h in let b = h.unseen n x.unique le in absurd cc

-- a vnode takes the place of the one that is there, or of none
abbrev HadNone : ℕ → ℕ → ℕ → List Version → Type 0
HadNone id n u ls = live (last_told (fid_at id n u) ls) ≡ None

other_none : (id n m u : ℕ) (x : Vnode) (v : Volume) (ls : List Version) → get n v.vnodes ≡ Some x → Agrees id v ls → eqb n m ≡ true → eqb x.unique u ≡ false → HadNone id m u ls
other_none id n m u x v ls e h p q =
    h.held m u ∙ (ap (λ (o : Option Vnode). option_map (version_at id m) (if_unique u o)) (ap (λ (z : ℕ). get z v.vnodes) (sym (eqb-true n m p)) ∙ e) ∙ rw q refl)

free_none : (id n m u : ℕ) (v : Volume) (ls : List Version) → get n v.vnodes ≡ None → Agrees id v ls → eqb n m ≡ true → HadNone id m u ls
free_none id n m u v ls e h p = h.held m u ∙ ap (λ (o : Option Vnode). option_map (version_at id m) (if_unique u o)) (ap (λ (z : ℕ). get z v.vnodes) (sym (eqb-true n m p)) ∙ e)

put_agree : (a b : Bool) (id n m u : ℕ) (y : Vnode) (v : Volume) (ls : List Version) → Agrees id v ls → eqb n m ≡ a → eqb y.unique u ≡ b → (a ≡ true → b ≡ false → HadNone id m u ls)
    → live (cond (a && b) (Some (version_at id n y)) (last_told (fid_at id m u) ls)) ≡ option_map (version_at id m) (if_unique u (cond a (Some y) (get m v.vnodes)))
put_agree true true id n m u y v ls h p q w = rw q (subst (λ (z : ℕ). live (Some (version_at id n y)) ≡ Some (version_at id z y)) (eqb-true n m p) (live_is id n y))
put_agree true false id n m u y v ls h p q w = rw q (w refl refl)
put_agree false b id n m u y v ls h p q w = h.held m u

gone_agree : (a b : Bool) (id n m u : ℕ) (x : Vnode) (v : Volume) (ls : List Version) → Agrees id v ls → (a ≡ true → b ≡ false → HadNone id m u ls)
    → live (cond (a && b) (Some (gone_at id n x)) (last_told (fid_at id m u) ls)) ≡ option_map (version_at id m) (if_unique u (cond a None (get m v.vnodes)))
gone_agree true true id n m u x v ls h w = refl
gone_agree true false id n m u x v ls h w = w refl refl
gone_agree false b id n m u x v ls h w = h.held m u

new_by : (a b : Bool) (w : Version) (o : Option Version) → (a ≡ true → b ≡ true → ⊥) → o ≡ None → cond (a && b) (Some w) o ≡ None
new_by true true w o ne h = absurd (ne refl refl)
new_by true false w o ne h = h
new_by false b w o ne h = h

seen_last : (id n k m u : ℕ) (w : Version) (ls : List Version) → w.fid ≡ fid_at id n k → last_told (fid_at id m u) (w ∷ ls) ≡ cond (eqb n m && eqb k u) (Some w) (last_told (fid_at id m u) ls)
seen_last id n k m u w ls e = ap (λ (t : Bool). cond t (Some w) (last_told (fid_at id m u) ls)) (ap (λ (f : Fid). same_fid f (fid_at id m u)) e ∙ same_parts id n m k u (eqb n m) (eqb k u) refl refl)

not_gone : (k : VnodeKind) (id n : ℕ) (x : Vnode) → body_by k x ≡ bodies.Gone → ⊥
not_gone a_file id n x e = absurd cc
not_gone a_directory id n x e = absurd cc
not_gone a_link id n x e = absurd cc

-- without contents and names the body stays
amended_raises : (counter : ℕ) (c : Option (List ℕ)) (ns : Option (List Name)) (a : Amend) (k : VnodeKind) (id n : ℕ) (x : Vnode) → x.kind ≡ k → a.contents ≡ c → a.names ≡ ns → RaisesData (version_at id n x) (version_at id n (amended counter a x))
amended_raises counter (Some c) ns a k id n x t p q = inl (rw p refl)
amended_raises counter None (Some ns) a k id n x t p q = inl (rw (p, q) refl)
amended_raises counter None None a a_file id n x t p q = inr (rw (p, q) refl, rw (t, p) refl)
amended_raises counter None None a a_directory id n x t p q = inr (rw (p, q) refl, rw (t, q) refl)
amended_raises counter None None a a_link id n x t p q = inr (rw (p, q) refl, rw (t, p) refl)

amended_follows : (id n counter : ℕ) (a : Amend) (x : Vnode) → Follows (Some (version_at id n x)) (version_at id n (amended counter a x))
amended_follows id n counter a x = (not_gone x.kind id n x, (refl, amended_raises counter a.contents a.names a x.kind id n x refl refl refl))

amends_told : (id n : ℕ) (a : Amend) (v : Volume) (o : Option Vnode) (ls : List Version) → get n v.vnodes ≡ o → Agrees id v ls → Told id (amends_at id n a v o).volume (amends_at id n a v o).versions ls
amends_told id n a v None ls e h = record { agrees = h; next = tt }
amends_told id n a v (Some x) ls e h =
    let y : Vnode = amended (v.counter + 1) a x in
    record {
      agrees = record {
        held = λ m u. ap live (seen_last id n x.unique m u (version_at id n y) ls refl) ∙ (put_agree (eqb n m) (eqb x.unique u) id n m u y v ls h refl refl (λ p q. other_none id n m u x v ls e h p q) ∙ ap (λ (o : Option Vnode). option_map (version_at id m) (if_unique u o)) (sym (get_set m n y v.vnodes)));
        unseen = λ m u le. seen_last id n x.unique m u (version_at id n y) ls refl ∙ new_by (eqb n m) (eqb x.unique u) (version_at id n y) _ (λ p q. not_there id n v x ls e h (subst (λ (z : ℕ). v.next ≤ z) (sym (eqb-true x.unique u q)) le)) (h.unseen m u le);
      };
      next = (refl, (subst (λ (o : Option Version). Follows o (version_at id n y)) (sym (there id n v x ls e h)) (amended_follows id n (v.counter + 1) a x), tt));
    }

makes_told : (id n : ℕ) (x : Vnode) (v : Volume) (o : Option Vnode) (ls : List Version) → get n v.vnodes ≡ o → Agrees id v ls → Told id (makes_at id n x v o).volume (makes_at id n x v o).versions ls
makes_told id n x v (Some z) ls e h = record { agrees = h; next = tt }
makes_told id n x v None ls e h =
    let y : Vnode = fresh (v.counter + 1) v.next x in
    record {
      agrees = record {
        held = λ m u. ap live (seen_last id n v.next m u (version_at id n y) ls refl) ∙ (put_agree (eqb n m) (eqb v.next u) id n m u y v ls h refl refl (λ p q. free_none id n m u v ls e h p) ∙ ap (λ (o : Option Vnode). option_map (version_at id m) (if_unique u o)) (sym (get_set m n y v.vnodes)));
        unseen = λ m u le. seen_last id n v.next m u (version_at id n y) ls refl ∙ new_by (eqb n m) (eqb v.next u) (version_at id n y) _ (λ p q. let same : v.next ≡ u = eqb-true v.next u q in absurd (omega arith)) (h.unseen m u (omega arith));
      };
      next = (refl, (subst (λ (o : Option Version). Follows o (version_at id n y)) (sym (h.unseen n v.next (omega arith))) (refl, refl), tt));
    }

frees_told : (id n : ℕ) (v : Volume) (o : Option Vnode) (ls : List Version) → get n v.vnodes ≡ o → Agrees id v ls → Told id (frees_at id n v o).volume (frees_at id n v o).versions ls
frees_told id n v None ls e h = record { agrees = h; next = tt }
frees_told id n v (Some x) ls e h = record {
  agrees = record {
    held = λ m u. ap live (seen_last id n x.unique m u (gone_at id n x) ls refl) ∙ (gone_agree (eqb n m) (eqb x.unique u) id n m u x v ls h (λ p q. other_none id n m u x v ls e h p q) ∙ ap (λ (o : Option Vnode). option_map (version_at id m) (if_unique u o)) (sym (get_unset m n v.vnodes)));
    unseen = λ m u le. seen_last id n x.unique m u (gone_at id n x) ls refl ∙ new_by (eqb n m) (eqb x.unique u) (gone_at id n x) _ (λ p q. not_there id n v x ls e h (subst (λ (z : ℕ). v.next ≤ z) (sym (eqb-true x.unique u q)) le)) (h.unseen m u le);
  };
  next = (refl, (subst (λ (o : Option Version). Follows o (gone_at id n x)) (sym (there id n v x ls e h)) (not_gone x.kind id n x, (refl, inl refl)), tt));
}

edit_told : (id : ℕ) (e : Edit) (v : Volume) (ls : List Version) → Agrees id v ls → Told id (edited id e v).volume (edited id e v).versions ls
edit_told id (amends n a) v ls h = amends_told id n a v (get n v.vnodes) ls refl h
edit_told id (makes n x) v ls h = makes_told id n x v (get n v.vnodes) ls refl h
edit_told id (frees n) v ls h = frees_told id n v (get n v.vnodes) ls refl h

-- ---- all of them

more_next : (id : ℕ) (vs ws : List Version) (ls : List Version) → AreNext id vs ls → AreNext id ws (on_top vs ls) → AreNext id (vs ++ ws) ls
more_next id [] ws ls a b = b
more_next id (v ∷ vs) ws ls a b = (a.0, (a.1.0, more_next id vs ws (v ∷ ls) a.1.1 b))

pub edits_told : (id : ℕ) (es : List Edit) (v : Volume) (ls : List Version) → Agrees id v ls → Told id (edited_all id es v) (versions_by id es v) ls
edits_told id [] v ls h = record { agrees = h; next = tt }
edits_told id (e ∷ es) v ls h =
    let one : Told id (edited id e v).volume (edited id e v).versions ls = edit_told id e v ls h in
    let rest : Told id (edited_all id es (edited id e v).volume) (versions_by id es (edited id e v).volume) (on_top (edited id e v).versions ls) = edits_told id es (edited id e v).volume (on_top (edited id e v).versions ls) one.agrees in
    record {
      agrees = subst (Agrees id (edited_all id es (edited id e v).volume)) (sym (on_top_more (edited id e v).versions (versions_by id es (edited id e v).volume) ls)) rest.agrees;
      next = more_next id (edited id e v).versions (versions_by id es (edited id e v).volume) ls one.next rest.next;
    }

pub counted_sound : (id : ℕ) (v : Volume) (ls : List Version) → Agrees id v ls → Agrees id (counted v) ls
counted_sound id v ls h = record { held = h.held; unseen = h.unseen }

-- ---- what versions that grow do to the last ones

abbrev pub Rises : List Version → List Version → Type 0
Rises old new = (f : Fid) → index_in (last_told f old) ≤ index_in (last_told f new)

rises_by : (t : Bool) (w : Version) (f : Fid) (o : Option Version) → same_fid w.fid f ≡ t → (w.fid ≡ f → index_in o ≤ w.index) → index_in o ≤ index_in (cond t (Some w) o)
rises_by true w f o t h = h (same_fid-true w.fid f t)
rises_by false w f o t h = omega arith

rises_one : (w : Version) (ls : List Version) (f : Fid) → index_in (last_told w.fid ls) ≤ w.index → index_in (last_told f ls) ≤ index_in (last_told f (w ∷ ls))
rises_one w ls f le = rises_by (same_fid w.fid f) w f (last_told f ls) refl (λ e. subst (λ (g : Fid). index_in (last_told g ls) ≤ w.index) e le)

follows_up : (o : Option Version) (v : Version) → Follows o v → index_in o ≤ v.index
follows_up None v h = omega arith
follows_up (Some last) v h = let a : v.index ≡ last.index + 1 = h.1.0 in omega arith

pub rises : (id : ℕ) (vs : List Version) (ls : List Version) → AreNext id vs ls → Rises ls (on_top vs ls)
rises id [] ls g f = omega arith
rises id (v ∷ vs) ls g f =
    let a : index_in (last_told f ls) ≤ index_in (last_told f (v ∷ ls)) = rises_one v ls f (follows_up (last_told v.fid ls) v g.1.0) in
    let b : index_in (last_told f (v ∷ ls)) ≤ index_in (last_told f (on_top vs (v ∷ ls))) = rises id vs (v ∷ ls) g.1.1 f in
    omega arith

-- the last version of a fid has its highest index
abbrev pub Tops : List Version → Type 0
Tops ls = (f : Fid) (i : ℕ) (b : Body) → IsTold f i b ls → i ≤ index_in (last_told f ls)

top_by : (t : Bool) (w : Version) (f : Fid) (i : ℕ) (b : Body) (ls : List Version) → same_fid w.fid f ≡ t → index_in (last_told w.fid ls) ≤ w.index → Tops ls → ((w.fid ≡ f) × ((w.index ≡ i) × (w.body ≡ b))) ⊎ IsTold f i b ls → i ≤ index_in (cond t (Some w) (last_told f ls))
top_by true w f i b ls t le top (inl x) = let e : w.index ≡ i = x.1.0 in omega arith
top_by true w f i b ls t le top (inr x) =
    let a : i ≤ index_in (last_told f ls) = top f i b x in
    let c : index_in (last_told f ls) ≤ w.index = subst (λ (g : Fid). index_in (last_told g ls) ≤ w.index) (same_fid-true w.fid f t) le in
    omega arith
top_by false w f i b ls t le top (inl x) = absurd (apart w.fid f t x.0)
top_by false w f i b ls t le top (inr x) = top f i b x

pub tops : (id : ℕ) (vs : List Version) (ls : List Version) → AreNext id vs ls → Tops ls → Tops (on_top vs ls)
tops id [] ls g h = h
tops id (v ∷ vs) ls g h = tops id vs (v ∷ ls) g.1.1 (λ f i b x. top_by (same_fid v.fid f) v f i b ls refl (follows_up (last_told v.fid ls) v g.1.0) h x)

-- of another volume they are none

untouched_by : (t u : Bool) (f : Fid) (v : Version) (vs : List Version) (ls : List Version) → same_fid v.fid f ≡ t → cond t true u ≡ false → (u ≡ false → last_told f (on_top vs (v ∷ ls)) ≡ last_told f (v ∷ ls)) → last_told f (on_top vs (v ∷ ls)) ≡ last_told f ls
untouched_by true u f v vs ls t e h = absurd cc
untouched_by false u f v vs ls t e h = h e ∙ rw t refl

pub untouched : (f : Fid) (vs : List Version) (ls : List Version) → touches f vs ≡ false → last_told f (on_top vs ls) ≡ last_told f ls
untouched f [] ls e = refl
untouched f (v ∷ vs) ls e = untouched_by (same_fid v.fid f) (touches f vs) f v vs ls refl e (untouched f vs (v ∷ ls))

touch_by : (t : Bool) (f : Fid) (id : ℕ) (v : Version) (u : Bool) → same_fid v.fid f ≡ t → v.fid.volume ≡ id → (u ≡ true → f.volume ≡ id) → cond t true u ≡ true → f.volume ≡ id
touch_by true f id v u t e h w = sym (ap (λ (g : Fid). g.volume) (same_fid-true v.fid f t)) ∙ e
touch_by false f id v u t e h w = h w

pub touched_volume : (f : Fid) (id : ℕ) (vs : List Version) (ls : List Version) → AreNext id vs ls → touches f vs ≡ true → f.volume ≡ id
touched_volume f id [] ls g e = absurd cc
touched_volume f id (v ∷ vs) ls g e = touch_by (same_fid v.fid f) f id v (touches f vs) refl g.0 (touched_volume f id vs (v ∷ ls) g.1.1) e

no_touch : (t : Bool) → (t ≡ true → ⊥) → t ≡ false
no_touch true h = absurd (h refl)
no_touch false h = refl

pub not_touched : (f : Fid) (id : ℕ) (vs : List Version) (ls : List Version) → AreNext id vs ls → (f.volume ≡ id → ⊥) → touches f vs ≡ false
not_touched f id vs ls g ne = no_touch (touches f vs) (λ t. ne (touched_volume f id vs ls g t))

-- ---- volumes that may be there: one that is not has no versions

abbrev pub AgreesIn : ℕ → Option Volume → List Version → Type 0
AgreesIn id None ls = (n u : ℕ) → last_told (fid_at id n u) ls ≡ None
AgreesIn id (Some v) ls = Agrees id v ls

-- the same, where no line of the volume's came to the lines
pub sound_same : (id : ℕ) (o : Option Volume) (old new : List Version) → ((n u : ℕ) → last_told (fid_at id n u) new ≡ last_told (fid_at id n u) old) → AgreesIn id o old → AgreesIn id o new
sound_same id None old new e h = λ n u. e n u ∙ h n u
sound_same id (Some v) old new e h = record { held = λ n u. ap live (e n u) ∙ h.held n u; unseen = λ n u le. e n u ∙ h.unseen n u le }

-- ---- set-up: what a volume holds, told once

first_by : (k n u : ℕ) (id : ℕ) (x : Vnode) (o : Option Vnode) (told : Option Version) (a b : Bool) → eqb k n ≡ a → eqb x.unique u ≡ b → live told ≡ option_map (version_at id n) (if_unique u o) → (a ≡ true → o ≡ None)
    → live (cond (a && b) (Some (version_at id k x)) told) ≡ option_map (version_at id n) (if_unique u (cond a (Some x) o))
first_by k n u id x o told true true p q h w = rw q (subst (λ (z : ℕ). live (Some (version_at id k x)) ≡ Some (version_at id z x)) (eqb-true k n p) (live_is id k x))
first_by k n u id x o told true false p q h w = h ∙ (ap (λ (z : Option Vnode). option_map (version_at id n) (if_unique u z)) (w refl) ∙ rw q refl)
first_by k n u id x o told false b p q h w = h

above_none : (k n m : ℕ) (x : Vnode) (t : Table Vnode) → k < m → AscendsFrom m t → eqb k n ≡ true → get n t ≡ None
above_none k n m x t lt up e = ap (λ (z : ℕ). get z t) (sym (eqb-true k n e)) ∙ get_below m k t lt up

pub first_held : (id n u m : ℕ) (t : Table Vnode) → AscendsFrom m t → live (last_told (fid_at id n u) (first_versions id t)) ≡ option_map (version_at id n) (if_unique u (get n t))
first_held id n u m [] up = refl
first_held id n u m (p ∷ ps) up =
    ap live (seen_last id p.0 p.1.unique n u (version_at id p.0 p.1) (first_versions id ps) refl)
    ∙ first_by p.0 n u id p.1 (get n ps) _ (eqb p.0 n) (eqb p.1.unique u) refl refl (first_held id n u (p.0 + 1) ps up.1) (λ e. above_none p.0 n (p.0 + 1) p.1 ps (omega arith) up.1 e)

-- what is found behind the first is found
later_by : (b : Bool) (k : ℕ) (x : Vnode) (p : ℕ × Vnode) (ps : Table Vnode) → eqb p.0 k ≡ b → AscendsFrom (p.0 + 1) ps → get k ps ≡ Some x → cond b (Some p.1) (get k ps) ≡ Some x
later_by true k x p ps e up h = let none = above_none p.0 k (p.0 + 1) p.1 ps (omega arith) up e in absurd cc
later_by false k x p ps e up h = h

later : (k : ℕ) (x : Vnode) (p : ℕ × Vnode) (ps : Table Vnode) (m : ℕ) → AscendsFrom m (p ∷ ps) → get k ps ≡ Some x → get k (p ∷ ps) ≡ Some x
later k x p ps m up e = later_by (eqb p.0 k) k x p ps refl up.1 e

first_unseen : (id n u : ℕ) (t : Table Vnode) → ((k : ℕ) (x : Vnode) → get k t ≡ Some x → x.unique < u) → (m : ℕ) → AscendsFrom m t → last_told (fid_at id n u) (first_versions id t) ≡ None
first_unseen id n u [] h m up = refl
first_unseen id n u (p ∷ ps) h m up =
    seen_last id p.0 p.1.unique n u (version_at id p.0 p.1) (first_versions id ps) refl
    ∙ new_by (eqb p.0 n) (eqb p.1.unique u) (version_at id p.0 p.1) _
    (λ a b. let low : p.1.unique < u = h p.0 p.1 (rw (eq-eqb p.0 p.0 refl) refl) in let same : p.1.unique ≡ u = eqb-true p.1.unique u b in absurd (omega arith))
    (first_unseen id n u ps (λ k x e. h k x (later k x p ps m up e)) (p.0 + 1) up.1)

pub first_agrees : (id : ℕ) (v : Volume) → AscendsFrom 1 v.vnodes → ((n : ℕ) (x : Vnode) → get n v.vnodes ≡ Some x → x.unique < v.next) → Agrees id v (first_versions id v.vnodes)
first_agrees id v up low = record {
  held = λ n u. first_held id n u 1 v.vnodes up;
  unseen = λ n u le. first_unseen id n u v.vnodes (λ k x e. let a : x.unique < v.next = low k x e in omega arith) 1 up;
}

-- ---- what is gone has no more versions

gone_by : (t : Bool) (f : Fid) (v last : Version) (told : List Version) (rest : Bool) → same_fid v.fid f ≡ t → Follows (last_told v.fid told) v → last_told f told ≡ Some last → last.body ≡ bodies.Gone
    → ((last_told f (v ∷ told) ≡ Some last) → rest ≡ false) → cond t true rest ≡ false
gone_by true f v last told rest t h e gone more =
    let is : last_told v.fid told ≡ Some last = ap (λ (g : Fid). last_told g told) (same_fid-true v.fid f t) ∙ e in
    absurd ((subst (λ (o : Option Version). Follows o v) is h).0 gone)
gone_by false f v last told rest t h e gone more = more (rw t e)

pub gone_is_last : (id : ℕ) (vs told : List Version) (f : Fid) (last : Version) → AreNext id vs told → last_told f told ≡ Some last → last.body ≡ bodies.Gone → touches f vs ≡ false
gone_is_last id [] told f last h e gone = refl
gone_is_last id (v ∷ vs) told f last h e gone = gone_by (same_fid v.fid f) f v last told (touches f vs) refl h.1.0 e gone (λ e'. gone_is_last id vs (v ∷ told) f last h.1.1 e' gone)

pub new_is_unseen : (id n : ℕ) (x : Vnode) (v : Volume) (told : List Version) → Agrees id v told → get n v.vnodes ≡ None → IsUnseen id n x v told
new_is_unseen id n x v told h e = record { version = rw e refl; unseen = λ m. h.unseen m v.next (omega arith) }
