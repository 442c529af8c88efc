-- What the set-up tells, and what it leaves.
use Rattle.spec_ideal.proofs.Edits.{first_agrees}
use Rattle.spec_ideal.specs.SetUp.{first_versions, first_volume}
use Rattle.spec_ideal.specs.Tables.{AscendsFrom, Table, get, set}
use Rattle.spec_ideal.specs.Told.{last_told}
use Rattle.spec_ideal.specs.Volumes.{version_at, Vnode, Volume}
use Rattle.law_legal.proofs.OwedPasses.{all_lines, is_oweless, is_still}
use Rattle.law_legal.proofs.BaseLaws.{Each, same_fid-refl, same_fid-true, some_of}
use Rattle.law_legal.proofs.VolumeEdits.{one_more, Ones, index_in, fid_at, live, SoundIn, sound_same, Tops, get-set, none_has}
use Rattle.law_legal.proofs.BaseWords.{IsFine, Reached}
use Rattle.law_legal.proofs.VolumeNames.{first_fine}
use Rattle.law_legal.specs.Ideal.{first_told, last_version, HasVersion, IsAccepted, Reach, highest_over, first_lines, set_up_entry, IsPutAt, first_where, highest_reached, change_key, volume_after, brought, or_before, changed_under}
use Rattle.law_legal.specs.Legal.{AreRising, IsOfScript}
use Rattle.spec_history.specs.declared.lines.Line.{Line}
use Rattle.law_legal.specs.Past.{onto, lines_of, given_message}
use Rattle.spec_rows.specs.Runs.{Entry, first_volumes, unless_there}
use Rattle.std.proofs.Common.{◌≡◌, ℕ, ◌+◌, ◌≤◌, ◌⊎◌, inl, inr, Bool, true, false, cond, List, [], ◌∷◌, ◌++◌, Option, Some, None, refl, sym, ap, subst, ◌∙◌, arith, eqb-true, eqb, eq-eqb, le_of_eq}
use Rattle.std.specs.Prelude.{is_some, ⊤}
use Rattle.afs_num.specs.Fids.{same_fid}
use Rattle.afs_num.specs.declared.types.Fid.{Fid}
use Rattle.afs_num.specs.declared.types.Key.{Key}
use Rattle.afs_num.specs.declared.types.Node.{Node}
use Rattle.afs_num.specs.declared.messages.Message.{Message}
use Rattle.spec_history.specs.declared.scripts.Script.{Script}
use Rattle.afs_num.specs.declared.histories.Body.{Body}
use Rattle.afs_num.specs.declared.histories.Version.{Version}
use Rattle.spec_history.specs.declared.scripts.VolumeLine.{VolumeLine}
use Rattle.spec_history.specs.declared.lines.Line.TheVariants as lines
use Rattle.law_legal.proofs.OwedLoadBreaks.{onto_both}

-- ---- every input

pub last_each : (P : Message → Type 0) (a b : List Message) → Each P (a ++ b) → Each P b
last_each P [] b h = h
last_each P (m ∷ a) b h = last_each P a b h.1

-- the entries are of nodes of the script, and boots rise
abbrev pub AreEntries : Script → List Entry → List Entry → Type 0
AreEntries s past [] = ⊤
AreEntries s past (e ∷ es) = (IsOfScript s e.actor × AreRising (lines_of past) e.lines) × AreEntries s (e ∷ past) es

-- ---- the set-up

-- the lines of a set-up volume's versions, the newest first
abbrev pub version_lines : ℕ → Table Vnode → List Line → List Line
version_lines id [] o = o
version_lines id (p ∷ ps) o = lines.Version (version_at id p.0 p.1) ∷ version_lines id ps o

pub onto_first : (id : ℕ) (t : Table Vnode) (tail o : List Line) → onto o (first_told id t tail) ≡ onto (version_lines id t o) tail
onto_first id [] tail o = refl
onto_first id (p ∷ ps) tail o = onto_first id ps (lines.Version (version_at id p.0 p.1) ∷ tail) o

-- what versions pass over, the set-up passes over
pub first_by : (t : Bool) (P : List Line → Type 0) (a b : List Line) → (t ≡ true → P a) → (t ≡ false → P b) → P (first_where t a b)
first_by true P a b x y = x refl
first_by false P a b x y = y refl

pub passed : (P : List Line → Type 0) → ((v : Version) (o : List Line) → P o → P (lines.Version v ∷ o)) → (id : ℕ) (t : Table Vnode) (o : List Line) → P o → P (version_lines id t o)
passed P w id [] o h = h
passed P w id (p ∷ ps) o h = w (version_at id p.0 p.1) (version_lines id ps o) (passed P w id ps o h)

abbrev pub lines_at : VolumeLine → List Line
lines_at v = first_told v.id (first_volume v).vnodes []

pub first_passed : (P : List Line → Type 0) → ((v : Version) (o : List Line) → P o → P (lines.Version v ∷ o)) → (vs : List VolumeLine) (o : List Line) → P o → P (onto o (first_lines vs))
first_passed P w [] o h = h
first_passed P w (v ∷ vs) o h = first_by (is_some (get v.id (first_volumes vs))) (λ (ls : List Line). P (onto o ls)) (first_lines vs) (first_lines vs ++ lines_at v)
    (λ t. first_passed P w vs o h) (λ t. subst P (sym (onto_both o (first_lines vs) (lines_at v) ∙ onto_first v.id (first_volume v).vnodes [] (onto o (first_lines vs)))) (passed P w v.id (first_volume v).vnodes (onto o (first_lines vs)) (first_passed P w vs o h)))

-- ---- volumes and lines of the set-up agree

-- what was told last of a volume, before what others told
abbrev pub or_told : Option Version → Option Version → Option Version
or_told None o = o
or_told (Some w) o = Some w

last_by : (t : Bool) (w : Version) (a b : Option Version) → cond t (Some w) (or_told a b) ≡ or_told (cond t (Some w) a) b
last_by true w a b = refl
last_by false w a b = refl

pub last_lines : (f : Fid) (id : ℕ) (t : Table Vnode) (o : List Line) → last_version f (version_lines id t o) ≡ or_told (last_told f (first_versions id t)) (last_version f o)
last_lines f id [] o = refl
last_lines f id (p ∷ ps) o = ap (λ (x : Option Version). cond (same_fid (version_at id p.0 p.1).fid f) (Some (version_at id p.0 p.1)) x) (last_lines f id ps o) ∙ last_by (same_fid (version_at id p.0 p.1).fid f) (version_at id p.0 p.1) (last_told f (first_versions id ps)) (last_version f o)

apart_by : (t : Bool) (id other : ℕ) (f : Fid) (w : Version) (a : Option Version) → same_fid w.fid f ≡ t → w.fid.volume ≡ id → f.volume ≡ other → (other ≡ id → ⊥) → a ≡ None → cond t (Some w) a ≡ None
apart_by true id other f w a t x y ne h = absurd (ne (sym y ∙ (ap (λ (g : Fid). g.volume) (sym (same_fid-true w.fid f t)) ∙ x)))
apart_by false id other f w a t x y ne h = h

pub other_told : (f : Fid) (id : ℕ) (t : Table Vnode) → (f.volume ≡ id → ⊥) → last_told f (first_versions id t) ≡ None
other_told f id [] ne = refl
other_told f id (p ∷ ps) ne = apart_by (same_fid (version_at id p.0 p.1).fid f) id f.volume f (version_at id p.0 p.1) (last_told f (first_versions id ps)) refl refl refl ne (other_told f id ps ne)

pub told_alone : (a b : Option Version) → b ≡ None → or_told a b ≡ a
told_alone None b e = e
told_alone (Some w) b e = refl

pub told_none : (a b : Option Version) → a ≡ None → or_told a b ≡ b
told_none a b e = subst (λ (x : Option Version). or_told x b ≡ b) (sym e) refl

-- what the set-up of volumes must give
pub record FirstFacts (t : Table Volume) (ls : List Line) : Type 0 where
  pub sound : (id : ℕ) → SoundIn id (get id t) ls
  pub top : Tops ls
  pub one : Ones ls
  pub fine : (id : ℕ) (v : Volume) → get id t ≡ Some v → IsFine v

pub not_some : (o : Option Volume) → is_some o ≡ false → o ≡ None
not_some None e = refl
not_some (Some v) e = absurd cc

-- the versions of a table that ascends have its numbers
numbers_from : (f : Fid) (i : ℕ) (b : Body) (id m : ℕ) (t : Table Vnode) (o : List Line) → AscendsFrom m t → HasVersion f i b (version_lines id t o) → ((m ≤ f.vnode) × (f.volume ≡ id)) ⊎ HasVersion f i b o
numbers_from f i b id m [] o a h = inr h
numbers_from f i b id m (p ∷ ps) o a (inl x) = let q : m ≤ p.0 = a.0 in inl (subst (λ (g : Fid). m ≤ g.vnode) x.0 q, ap (λ (g : Fid). g.volume) (sym x.0))
numbers_from f i b id m (p ∷ ps) o a (inr x) = elim (numbers_from f i b id (p.0 + 1) ps o a.1 x) [
  | inl y ↦ let q : m ≤ p.0 = a.0 in let l : p.0 + 1 ≤ f.vnode = y.0 in inl (omega arith, y.1)
  | inr y ↦ inr y
]

top_by : (t : Bool) (f : Fid) (i : ℕ) (w : Version) (a : Option Version) → same_fid w.fid f ≡ t → (t ≡ true → i ≤ w.index) → (t ≡ false → i ≤ index_in a) → i ≤ index_in (cond t (Some w) a)
top_by true f i w a t x y = x refl
top_by false f i w a t x y = y refl

pub tops_lines : (id m : ℕ) (t : Table Vnode) (o : List Line) → AscendsFrom m t → ((n u : ℕ) → last_version (fid_at id n u) o ≡ None) → Tops o → Tops (version_lines id t o)
tops_lines id m [] o a none h f i b x = h f i b x
tops_lines id m (p ∷ ps) o a none h f i b (inl x) =
    top_by (same_fid (version_at id p.0 p.1).fid f) f i (version_at id p.0 p.1) (last_version f (version_lines id ps o)) refl (λ t. le_of_eq (sym x.1.0)) (λ t. let yes : same_fid (version_at id p.0 p.1).fid f ≡ true = ap (λ (g : Fid). same_fid g f) x.0 ∙ same_fid-refl f in absurd cc)
tops_lines id m (p ∷ ps) o a none h f i b (inr x) =
    top_by (same_fid (version_at id p.0 p.1).fid f) f i (version_at id p.0 p.1) (last_version f (version_lines id ps o)) refl
    (λ t. let same : (version_at id p.0 p.1).fid ≡ f = same_fid-true _ f t in
    elim (numbers_from f i b id (p.0 + 1) ps o a.1 x) [
      | inl y ↦ let l : p.0 + 1 ≤ f.vnode = y.0 in let e : p.0 ≡ f.vnode = ap (λ (g : Fid). g.vnode) same in absurd (omega arith)
      | inr y ↦ absurd (none_has f i b o (subst (λ (g : Fid). last_version g o ≡ None) same (none p.0 p.1.unique)) y)
    ])
    (λ t. tops_lines id (p.0 + 1) ps o a.1 none h f i b x)

-- they are the first of their fids
pub ones_lines : (id m : ℕ) (t : Table Vnode) (o : List Line) → AscendsFrom m t → ((n u : ℕ) → last_version (fid_at id n u) o ≡ None) → Ones o → Ones (version_lines id t o)
ones_lines id m [] o a none h = h
ones_lines id m (p ∷ ps) o a none h =
    let w : Version = version_at id p.0 p.1 in
    one_more w (version_lines id ps o) (λ i b x. elim (numbers_from w.fid i b id (p.0 + 1) ps o a.1 x) [
      | inl y ↦ let l : p.0 + 1 ≤ p.0 = y.0 in absurd (omega arith)
      | inr y ↦ absurd (none_has w.fid i b o (none p.0 p.1.unique) y)
    ]) (ones_lines id (p.0 + 1) ps o a.1 none h)

pub first_sound_by : (t : Bool) (id other : ℕ) (V : Volume) (o : Option Volume) (L : List Line) → eqb id other ≡ t → IsFine V → ((n u : ℕ) → last_version (fid_at id n u) L ≡ None) → SoundIn other o L → SoundIn other (cond t (Some V) o) (version_lines id V.vnodes L)
first_sound_by true id other V o L t f none old =
    let a = first_agrees id V f.ascends f.below in
    subst (λ (i : ℕ). SoundIn i (Some V) (version_lines id V.vnodes L)) (eqb-true id other t) (record {
      agree = λ n u. ap live (last_lines (fid_at id n u) id V.vnodes L ∙ told_alone (last_told (fid_at id n u) (first_versions id V.vnodes)) (last_version (fid_at id n u) L) (none n u)) ∙ a.held n u;
      new = λ n u le. last_lines (fid_at id n u) id V.vnodes L ∙ (told_alone (last_told (fid_at id n u) (first_versions id V.vnodes)) (last_version (fid_at id n u) L) (none n u) ∙ a.unseen n u le);
    })
first_sound_by false id other V o L t f none old =
    sound_same other o L (version_lines id V.vnodes L) (λ n u. last_lines (fid_at other n u) id V.vnodes L ∙ told_none (last_told (fid_at other n u) (first_versions id V.vnodes)) (last_version (fid_at other n u) L) (other_told (fid_at other n u) id V.vnodes (λ q. let yes : eqb id other ≡ true = eq-eqb id other (sym q) in absurd cc))) old

fine_by : (t : Bool) (V u : Volume) (o : Option Volume) → IsFine V → (o ≡ Some u → IsFine u) → cond t (Some V) o ≡ Some u → IsFine u
fine_by true V u o f h e = subst IsFine (some_of V u e) f
fine_by false V u o f h e = h e

pub first_new_volume : (v : VolumeLine) (t : Table Volume) (ls : List Line) → get v.id t ≡ None → FirstFacts t ls → FirstFacts (set v.id (first_volume v) t) (version_lines v.id (first_volume v).vnodes ls)
first_new_volume v t ls none h =
    let old : (n u : ℕ) → last_version (fid_at v.id n u) ls ≡ None = subst (λ (o : Option Volume). SoundIn v.id o ls) none (h.sound v.id) in
    record {
      sound = λ other. subst (λ (o : Option Volume). SoundIn other o (version_lines v.id (first_volume v).vnodes ls)) (sym (get-set v.id other (first_volume v) t)) (first_sound_by (eqb v.id other) v.id other (first_volume v) (get other t) ls refl (first_fine v) old (h.sound other));
      top = tops_lines v.id 1 (first_volume v).vnodes ls (first_fine v).ascends old h.top;
      one = ones_lines v.id 1 (first_volume v).vnodes ls (first_fine v).ascends old h.one;
      fine = λ i u e. fine_by (eqb v.id i) (first_volume v) u (get i t) (first_fine v) (h.fine i u) (sym (get-set v.id i (first_volume v) t) ∙ e);
    }

pub first_facts_by : (b : Bool) (v : VolumeLine) (t : Table Volume) (ls : List Line) → is_some (get v.id t) ≡ b → FirstFacts t (onto [] ls) → FirstFacts (unless_there b v.id (first_volume v) t) (onto [] (first_where b ls (ls ++ lines_at v)))
first_facts_by true v t ls b h = h
first_facts_by false v t ls b h = subst (FirstFacts (set v.id (first_volume v) t)) (sym (onto_both [] ls (lines_at v) ∙ onto_first v.id (first_volume v).vnodes [] (onto [] ls))) (first_new_volume v t (onto [] ls) (not_some (get v.id t) b) h)

pub first_facts : (vs : List VolumeLine) → FirstFacts (first_volumes vs) (onto [] (first_lines vs))
first_facts [] = record { sound = λ id n u. refl; top = λ f i b x. absurd x; one = λ f i a b x y. absurd x; fine = λ i u e. absurd cc }
first_facts (v ∷ vs) = first_facts_by (is_some (get v.id (first_volumes vs))) v (first_volumes vs) (first_lines vs) refl (first_facts vs)

-- ---- nothing else is told at set-up

pub any_home : (s : Script) (id : ℕ) (server : Node) (ls : List Line) → IsPutAt id server s.volumes → IsAccepted s id server ls
any_home s id server [] h = h
any_home s id server (l ∷ ls) h = any_home s id server ls h

pub found_by' : (t : Bool) (id other : ℕ) (V u : Volume) (o : Option Volume) (P : Type 0) → eqb id other ≡ t → (o ≡ Some u → P) → cond t (Some V) o ≡ Some u → (id ≡ other) ⊎ P
found_by' true id other V u o P t h e = inl (eqb-true id other t)
found_by' false id other V u o P t h e = inr (h e)

pub found_there : (b : Bool) (v : VolumeLine) (t : Table Volume) (id : ℕ) (u : Volume) (P : Type 0) → (get id t ≡ Some u → P) → get id (unless_there b v.id (first_volume v) t) ≡ Some u → ((b ≡ false) × (v.id ≡ id)) ⊎ P
found_there true v t id u P h e = inr (h e)
found_there false v t id u P h e = elim (found_by' (eqb v.id id) v.id id (first_volume v) u (get id t) P refl h (sym (get-set v.id id (first_volume v) t) ∙ e)) [ inl y ↦ inl (refl, y) | inr y ↦ inr y ]

-- all of them are versions
abbrev pub AreVersions : List Line → Type 0
AreVersions [] = ⊤
AreVersions (lines.Version v ∷ ls) = AreVersions ls
AreVersions (l ∷ ls) = ⊥

pub are_versions : (id : ℕ) (t : Table Vnode) (tail : List Line) → AreVersions tail → AreVersions (first_told id t tail)
are_versions id [] tail h = h
are_versions id (p ∷ ps) tail h = are_versions id ps (lines.Version (version_at id p.0 p.1) ∷ tail) h

pub more_versions : (a b : List Line) → AreVersions a → AreVersions b → AreVersions (a ++ b)
more_versions [] b h k = k
more_versions (lines.Version v ∷ a) b h k = more_versions a b h k
more_versions (l ∷ a) b h k = absurd h

pub all_versions : (vs : List VolumeLine) → AreVersions (first_lines vs)
all_versions [] = tt
all_versions (v ∷ vs) = first_by (is_some (get v.id (first_volumes vs))) AreVersions (first_lines vs) (first_lines vs ++ lines_at v) (λ t. all_versions vs) (λ t. more_versions (first_lines vs) (lines_at v) (all_versions vs) (are_versions v.id (first_volume v).vnodes [] tt))

pub reach_first : (c : Node) (f : Fid) (past : List Entry) (r : Reach) (ls : List Line) → AreVersions ls → highest_over c f past false r ls ≡ r
reach_first c f past r [] h = refl
reach_first c f past r (lines.Version v ∷ ls) h = reach_first c f past r ls h
reach_first c f past r (l ∷ ls) h = absurd h

pub key_first : (ls : List Line) → AreVersions ls → change_key ls ≡ None
key_first [] h = refl
key_first (lines.Version v ∷ ls) h = key_first ls h
key_first (l ∷ ls) h = absurd h

pub given_first : (ls : List Line) (sent : List Message) → AreVersions ls → given_message ls sent ≡ None
given_first [] sent h = refl
given_first (lines.Version v ∷ ls) sent h = given_first ls sent h
given_first (l ∷ ls) sent h = absurd h

pub reached_first : (c : Node) (f : Fid) (i : ℕ) (s : Script) → Reached c f i (set_up_entry s ∷ [])
reached_first c f i s =
    let at : highest_reached c f (set_up_entry s ∷ []) ≡ record { made = 0; seen = 0 } = reach_first c f [] (record { made = 0; seen = 0 }) (first_lines s.volumes) (all_versions s.volumes) in
    record { made = subst (λ (r : Reach). r.made ≤ i) (sym at) (omega arith); seen = subst (λ (r : Reach). r.seen ≤ i) (sym at) (omega arith) }

pub or_none : (o : Option Volume) → o ≡ or_before o None
or_none None = refl
or_none (Some v) = refl

pub brought_first : (id : ℕ) (t : Table Volume) → get id t ≡ brought id t None
brought_first id [] = refl
brought_first id (p ∷ ps) = or_none (get id (p ∷ ps))

pub ideal_first : (s : Script) (id : ℕ) → get id (first_volumes s.volumes) ≡ volume_after id (set_up_entry s ∷ [])
ideal_first s id = brought_first id (first_volumes s.volumes) ∙ ap (λ (o : Option Key). brought id (first_volumes s.volumes) (changed_under id o [] None)) (sym (key_first (first_lines s.volumes) (all_versions s.volumes)))

pub first_still : (ls : List Line) → AreVersions ls → all_lines is_still ls ≡ true
first_still [] h = refl
first_still (lines.Version v ∷ ls) h = first_still ls h
first_still (l ∷ ls) h = absurd h

pub first_oweless : (ls : List Line) → AreVersions ls → all_lines is_oweless ls ≡ true
first_oweless [] h = refl
first_oweless (lines.Version v ∷ ls) h = first_oweless ls h
first_oweless (l ∷ ls) h = absurd h

pub lines_none : (newer : List Entry) (x at : Entry) (older : List Entry) → x ∷ [] ≡ newer ++ (at ∷ older) → x ≡ at
lines_none [] x at older e = cc
lines_none (y ∷ []) x at older e = absurd cc
lines_none (y ∷ z ∷ newer) x at older e = absurd cc
