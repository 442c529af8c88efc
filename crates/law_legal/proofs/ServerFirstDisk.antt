-- What set-up puts on a server's disk is what the server begins with.
use Rattle.std.proofs.Common.{◌≡◌, ℕ, ◌+◌, ◌<◌, ◌≤◌, Bool, true, false, cond, List, [], ◌∷◌, ◌++◌, length, Option, Some, None, nat_eq, nat_lt, refl, sym, ap, subst, ◌∙◌, arith, append_assoc}
use Rattle.std.specs.Prelude.{◌&&◌, is_some, map, not, ⊤, Ok, Err}
use Rattle.std.specs.Prelude as outcome
use Rattle.std.proofs.lemmas.Bool.Decides.{nat_tests}
use Rattle.afs_num.specs.declared.records.StoredVolume.{StoredVolume}
use Rattle.spec_history.specs.declared.scripts.SetupLine.{SetupLine}
use Rattle.spec_history.specs.declared.scripts.VolumeLine.{VolumeLine}
use Rattle.spec_shape.specs.Taking.{◌>>=◌}
use Rattle.spec_ideal.specs.Images.{image_of, value_of, values_of}
use Rattle.spec_ideal.specs.SetUp.{empty_volume, filled_by, first_volume, laid, laid_or}
use Rattle.spec_ideal.specs.Tables.{Table, get, set, AscendsFrom}
use Rattle.spec_ideal.specs.VnodeMaps.{most_vnodes}
use Rattle.spec_ideal.specs.Volumes.{Vnode, Volume}
use Rattle.spec_ideal.proofs.Laid as setting
use Rattle.spec_ideal.specs.SoundnessLaws.{FirstVolumes}
use Rattle.spec_ideal.proofs.Tables.{ascends_lower, ascends_set, get_below}
use Rattle.spec_records.specs.Changes.{accepted, at_set_up, laid_all, record_of_volumes, stored_volume, volume_laid, volumes_laid}
use Rattle.spec_records.specs.Durable.{allowed, by_number, has_room, most_volumes, nothing_on, or_zero, place_length, stored_of, times_of, volume_with, with_stored, with_volumes, Durable, Stored}
use Rattle.spec_fold.specs.Fold.{first_folded, folded}
use Rattle.spec_records.specs.Sound.{is_sound}
use Rattle.spec_records.proofs.Kept.{value_back}
use Rattle.spec_rows.specs.Runs.{counts_later, first_lasting, first_stored, first_volumes, placed_at, unless_there, first_volumes_at}
use Rattle.spec_rows.specs.States.{durable_of}
use Rattle.law_legal.specs.Laws.{placed_lines, AscendBy, SetUpsAreFirst}
use Rattle.law_legal.proofs.BaseLaws.{some_of}
use Rattle.law_legal.proofs.VolumeNames.{first_fine}

-- ---- tables by ascending numbers

-- a number below all others stands first
pub set_first : {A : Type 0} (n m : ℕ) (x : A) (t : Table A) → n < m → AscendsFrom m t → set n x t ≡ (n, x) ∷ t
set_first {A} n m x [] lt up = refl
set_first {A} n m x (p ∷ ps) lt up =
    let le : m ≤ p.0 = up.0 in
    let other : nat_eq p.0 n ≡ false = grind (arith, nat_tests, lt, le) in
    let below : nat_lt n p.0 ≡ true = grind (arith, nat_tests, lt, le) in
    rw (other, below) refl

-- and one above all others last
pub AllBelow : {A : Type 0} → ℕ → Table A → Type 0
AllBelow {A} n [] = ⊤
AllBelow {A} n (p ∷ ps) = (p.0 < n) × AllBelow n ps

pub below_nil : (A : Type 0) (n : ℕ) → AllBelow {A = A} n []
unfolding AllBelow
below_nil A n = tt

pub set_last : {A : Type 0} (n : ℕ) (x : A) (t : Table A) → AllBelow n t → set n x t ≡ t ++ (n, x) ∷ []
unfolding AllBelow
set_last {A} n x [] b = refl
set_last {A} n x (p ∷ ps) b =
    let lt : p.0 < n = b.0 in
    let other : nat_eq p.0 n ≡ false = grind (arith, nat_tests, lt) in
    let above : nat_lt n p.0 ≡ false = grind (arith, nat_tests, lt) in
    rw (other, above) (ap (λ (t : Table A). p ∷ t) (set_last n x ps b.1))

pub below_more : {A : Type 0} (n m : ℕ) (x : A) (t : Table A) → n < m → AllBelow n t → AllBelow m (t ++ (n, x) ∷ [])
unfolding AllBelow
below_more {A} n m x [] lt b = (lt, tt)
below_more {A} n m x (p ∷ ps) lt b = (omega (arith, b.0, lt), below_more n m x ps lt b.1)

pub below_up : {A : Type 0} (n m : ℕ) (t : Table A) → n ≤ m → AllBelow n t → AllBelow m t
unfolding AllBelow
below_up {A} n m [] le b = tt
below_up {A} n m (p ∷ ps) le b = (omega (arith, b.0, le), below_up n m ps le b.1)

pub nil_behind : {A : Type 0} (t : List A) → t ++ [] ≡ t
nil_behind {A} [] = refl
nil_behind {A} (x ∷ xs) = ap (λ (ys : List A). x ∷ ys) (nil_behind xs)

pub none_is : {A : Type 0} (x : A) → None ≡ Some x → ⊥
none_is {A} x e = cc

-- ---- what lines lay

firsts : List VolumeLine → Table Stored
firsts [] = []
firsts (l ∷ ls) = (l.id, at_set_up (first_volume l)) ∷ firsts ls

by_line : (r : outcome.Result Volume ℕ) (id : ℕ) (ls : List SetupLine) (v w : Volume) → ((u : Volume) → laid_all id ls u ≡ Some w → filled_by id ls u ≡ w) → (accepted r >>= laid_all id ls) ≡ Some w → filled_by id ls (laid_or v r) ≡ w
by_line (Ok u) id ls v w h e = h u e
by_line (Err code) id ls v w h e = absurd (none_is w e)

laid_first : (id : ℕ) (ls : List SetupLine) (v w : Volume) → laid_all id ls v ≡ Some w → filled_by id ls v ≡ w
laid_first id [] v w e = some_of v w e
laid_first id (l ∷ ls) v w e = by_line (laid id l v) id ls v w (λ u f. laid_first id ls u w f) e

one_more : (o : Option Volume) (l : VolumeLine) (ls : List VolumeLine) (t u : Table Stored) → volume_laid l ≡ o → AllBelow l.id t → (AllBelow (l.id + 1) (t ++ (l.id, at_set_up (first_volume l)) ∷ []) → volumes_laid ls (t ++ (l.id, at_set_up (first_volume l)) ∷ []) ≡ Some u → u ≡ (t ++ (l.id, at_set_up (first_volume l)) ∷ []) ++ firsts ls)
    → (o >>= λ v. volumes_laid ls (set l.id (at_set_up v) t)) ≡ Some u → u ≡ t ++ ((l.id, at_set_up (first_volume l)) ∷ firsts ls)
one_more None l ls t u is b h e = absurd (none_is u e)
one_more (Some v) l ls t u is b h e =
    let x : Stored = at_set_up (first_volume l) in
    let same : first_volume l ≡ v = laid_first l.id l.lines (empty_volume l) v is in
    let last : set l.id (at_set_up v) t ≡ t ++ (l.id, x) ∷ [] = ap (λ (w : Volume). set l.id (at_set_up w) t) (sym same) ∙ set_last l.id x t b in
    h (below_more l.id (l.id + 1) x t (omega arith) b) (ap (volumes_laid ls) (sym last) ∙ e) ∙ append_assoc t ((l.id, x) ∷ []) (firsts ls)

volumes_are : (ls : List VolumeLine) (t u : Table Stored) (n : ℕ) → AllBelow n t → AscendBy n ls → volumes_laid ls t ≡ Some u → u ≡ t ++ firsts ls
unfolding firsts
volumes_are [] t u n b up e = sym (some_of t u e) ∙ sym (nil_behind t)
volumes_are (l ∷ ls) t u n b up e =
    one_more (volume_laid l) l ls t u refl (below_up n l.id t up.0 b) (λ c f. volumes_are ls (t ++ (l.id, at_set_up (first_volume l)) ∷ []) u (l.id + 1) c up.1 f) e

-- ---- what is read of their record

here : {A : Type 0} (p : ℕ × A) (ps : Table A) → get p.0 (p ∷ ps) ≡ Some p.1
here {A} p ps = grind (arith, nat_tests)

later_by : {A : Type 0} (t : Bool) (p : ℕ × A) (ps : Table A) (n : ℕ) (x : A) → nat_eq p.0 n ≡ t → AscendsFrom (p.0 + 1) ps → get n ps ≡ Some x → cond t (Some p.1) (get n ps) ≡ Some x
later_by {A} true p ps n x is up e =
    let lt : n < p.0 + 1 = grind (arith, nat_tests, is) in
    absurd (none_is x (sym (get_below (p.0 + 1) n ps lt up) ∙ e))
later_by {A} false p ps n x is up e = e

later : {A : Type 0} (p : ℕ × A) (ps : Table A) (n : ℕ) (x : A) → AscendsFrom (p.0 + 1) ps → get n ps ≡ Some x → get n (p ∷ ps) ≡ Some x
later {A} p ps n x up e = later_by (nat_eq p.0 n) p ps n x refl up e

abbrev Back : Table Vnode → Type 0
Back vs = (time n : ℕ) (x : Vnode) → get n vs ≡ Some x → value_of (image_of n time x) ≡ Some x

values_back : (times : Table ℕ) (vs : Table Vnode) (m : ℕ) → AscendsFrom m vs → Back vs → values_of (by_number (map (λ (p : ℕ × Vnode). image_of p.0 (or_zero (get p.0 times)) p.1) vs)) ≡ Some vs
values_back times [] m up h = refl
values_back times (p ∷ ps) m up h =
    rw (h (or_zero (get p.0 times)) p.0 p.1 (here p ps), values_back times ps (p.0 + 1) up.1 (λ time n x e. h time n x (later p ps n x up.1 e))) refl

abbrev at_nought : Table Vnode → Table ℕ
at_nought vs = map (λ (p : ℕ × Vnode). (p.0, 0)) vs

nought_by : (t : Bool) (n : ℕ) (vs : Table Vnode) → or_zero (get n (at_nought vs)) ≡ 0 → or_zero (cond t (Some 0) (get n (at_nought vs))) ≡ 0
nought_by true n vs h = refl
nought_by false n vs h = h

nought : (n : ℕ) (vs : Table Vnode) → or_zero (get n (at_nought vs)) ≡ 0
nought n [] = refl
nought n (p ∷ ps) = nought_by (nat_eq p.0 n) n ps (nought n ps)

times_back : (times : Table ℕ) (vs : Table Vnode) → ((n : ℕ) → or_zero (get n times) ≡ 0) → times_of (map (λ (p : ℕ × Vnode). image_of p.0 (or_zero (get p.0 times)) p.1) vs) ≡ at_nought vs
times_back times [] h = refl
times_back times (p ∷ ps) h = ap (λ (k : ℕ). (p.0, k) ∷ times_of (map (λ (q : ℕ × Vnode). image_of q.0 (or_zero (get q.0 times)) q.1) ps)) (h p.0) ∙ ap (λ (t : Table ℕ). (p.0, 0) ∷ t) (times_back times ps h)

allowed_by : (t : Bool) (s u : Stored) → cond t (Some s) None ≡ Some u → s ≡ u
allowed_by true s u e = some_of s u e
allowed_by false s u e = absurd (none_is u e)

allowed_is : (s u : Stored) → allowed s ≡ Some u → s ≡ u
allowed_is s u e = allowed_by (not (nat_lt most_vnodes (length s.volume.vnodes)) && is_sound s.volume) s u e

stored_back : (id : ℕ) (v : Volume) (s : Stored) → AscendsFrom 1 v.vnodes → Back v.vnodes → stored_of (stored_volume id (at_set_up v)) ≡ Some s → s ≡ at_set_up v
stored_back id v s up h e =
    let sv : StoredVolume = stored_volume id (at_set_up v) in
    let read : values_of (by_number sv.vnodes) ≡ Some v.vnodes = values_back (at_nought v.vnodes) v.vnodes 1 up h in
    let held : allowed (record { volume = volume_with sv v.vnodes; times = times_of sv.vnodes; is_new = false }) ≡ Some s =
    sym (ap (λ (o : Option (Table Vnode)). o >>= λ vnodes. allowed (record { volume = volume_with sv vnodes; times = times_of sv.vnodes; is_new = false })) read) ∙ e in
    sym (allowed_is (record { volume = volume_with sv v.vnodes; times = times_of sv.vnodes; is_new = false }) s held)
    ∙ ap (λ (t : Table ℕ). record { volume = v; times = t; is_new = false }) (times_back (at_nought v.vnodes) v.vnodes (λ n. nought n v.vnodes))

line_back : (l : VolumeLine) → Back (first_volume l).vnodes
line_back l time n x e =
    let law : FirstVolumes = setting.first_volumes in
    value_back n time x ((law.laid_out l).sound.vnodes n x e).body ((first_fine l).readable n x e).fit

room_by : (t : Bool) (d e : Durable) (id : ℕ) (x : Stored) (ss : List StoredVolume) → (cond t None (Some (record d { volumes = set id x d.volumes })) >>= with_volumes ss) ≡ Some e → with_volumes ss (record d { volumes = set id x d.volumes }) ≡ Some e
room_by true d e id x ss h = absurd (none_is e h)
room_by false d e id x ss h = h

abbrev told_all : Table Stored → List StoredVolume
told_all t = map (λ (p : ℕ × Stored). stored_volume p.0 p.1) t

one_back : (o : Option Stored) (l : VolumeLine) (ls : List VolumeLine) (d e : Durable) → stored_of (stored_volume l.id (at_set_up (first_volume l))) ≡ o → AllBelow l.id d.volumes
    → ((c : Durable) → c ≡ record d { volumes = d.volumes ++ (l.id, at_set_up (first_volume l)) ∷ [] } → with_volumes (told_all (firsts ls)) c ≡ Some e → e ≡ record c { volumes = c.volumes ++ firsts ls })
    → (o >>= λ x. (with_stored l.id x d >>= with_volumes (told_all (firsts ls)))) ≡ Some e → e ≡ record d { volumes = d.volumes ++ ((l.id, at_set_up (first_volume l)) ∷ firsts ls) }
one_back None l ls d e is b h f = absurd (none_is e f)
one_back (Some x) l ls d e is b h f =
    let y : Stored = at_set_up (first_volume l) in
    let same : x ≡ y = stored_back l.id (first_volume l) x (first_fine l).ascends (line_back l) is in
    let c : Durable = record d { volumes = set l.id x d.volumes } in
    let last : c ≡ record d { volumes = d.volumes ++ (l.id, y) ∷ [] } = ap (λ (t : Table Stored). record d { volumes = t }) (ap (λ (z : Stored). set l.id z d.volumes) same ∙ set_last l.id y d.volumes b) in
    let rest : with_volumes (told_all (firsts ls)) c ≡ Some e = room_by (nat_lt most_volumes (length (set l.id x d.volumes))) d e l.id x (told_all (firsts ls)) f in
    h c last rest ∙ (ap (λ (a : Durable). record a { volumes = a.volumes ++ firsts ls }) last ∙ ap (λ (t : Table Stored). record d { volumes = t }) (append_assoc d.volumes ((l.id, y) ∷ []) (firsts ls)))

volumes_back : (ls : List VolumeLine) (d e : Durable) (n : ℕ) → AllBelow n d.volumes → AscendBy n ls → with_volumes (told_all (firsts ls)) d ≡ Some e → e ≡ record d { volumes = d.volumes ++ firsts ls }
unfolding firsts
volumes_back [] d e n b up f = sym (some_of d e f) ∙ ap (λ (t : Table Stored). record d { volumes = t }) (sym (nil_behind d.volumes))
volumes_back (l ∷ ls) d e n b up f =
    let y : Stored = at_set_up (first_volume l) in
    let low : AllBelow l.id d.volumes = below_up n l.id d.volumes up.0 b in
    one_back (stored_of (stored_volume l.id y)) l ls d e refl low
    (λ c is g. volumes_back ls c e (l.id + 1) (subst (λ (a : Durable). AllBelow (l.id + 1) a.volumes) (sym is) (below_more l.id (l.id + 1) y d.volumes (omega arith) low)) up.1 g) f

-- ---- what a server begins with

up_lower : (m n : ℕ) (vs : List VolumeLine) → m ≤ n → AscendBy n vs → AscendBy m vs
up_lower m n [] le up = tt
up_lower m n (v ∷ vs) le up = (omega (arith, up.0, le), up.1)

there_up : (t : Bool) (n : ℕ) (id : ℕ) (x : Volume) (vs : Table Volume) → n ≤ id → AscendsFrom (id + 1) vs → AscendsFrom n (unless_there t id x vs)
there_up true n id x vs le up = ascends_lower n (id + 1) vs (omega (arith, le)) up
there_up false n id x vs le up = ascends_set n id x vs le (ascends_lower n (id + 1) vs (omega (arith, le)) up)

first_up : (n : ℕ) (vs : List VolumeLine) → AscendBy n vs → AscendsFrom n (first_volumes vs)
first_up n [] up = tt
first_up n (v ∷ vs) up = there_up (is_some (get v.id (first_volumes vs))) n v.id (first_volume v) (first_volumes vs) up.0 (first_up (v.id + 1) vs up.1)

pub not_later : (v : VolumeLine) (vs : List VolumeLine) → AscendBy (v.id + 1) vs → counts_later v.id vs ≡ false
not_later v vs up = ap is_some (get_below (v.id + 1) v.id (first_volumes vs) (omega arith) (first_up (v.id + 1) vs up))

placed_up : (t b : Bool) (n id : ℕ) (x : Volume) (vs : Table Volume) → n ≤ id → AscendsFrom (id + 1) vs → AscendsFrom n (placed_at t b id x vs)
placed_up true b n id x vs le up = ascends_lower n (id + 1) vs (omega (arith, le)) up
placed_up false true n id x vs le up = ascends_set n id x vs le (ascends_lower n (id + 1) vs (omega (arith, le)) up)
placed_up false false n id x vs le up = ascends_lower n (id + 1) vs (omega (arith, le)) up

at_up : (server n : ℕ) (vs : List VolumeLine) → AscendBy n vs → AscendsFrom n (first_volumes_at server vs)
at_up server n [] up = tt
at_up server n (v ∷ vs) up = placed_up (counts_later v.id vs) (nat_eq v.server server) n v.id (first_volume v) (first_volumes_at server vs) up.0 (at_up server (v.id + 1) vs up.1)

placed_by : (t b : Bool) (v : VolumeLine) (vs : Table Volume) (ls : List VolumeLine) → t ≡ false → AscendsFrom (v.id + 1) vs → first_stored vs ≡ firsts ls → first_stored (placed_at t b v.id (first_volume v) vs) ≡ firsts (cond b (v ∷ ls) ls)
unfolding firsts
placed_by true b v vs ls is up h = absurd cc
placed_by false true v vs ls is up h = ap first_stored (set_first v.id (v.id + 1) (first_volume v) vs (omega arith) up) ∙ ap (λ (t : Table Stored). (v.id, at_set_up (first_volume v)) ∷ t) h
placed_by false false v vs ls is up h = h

begins_with : (server n : ℕ) (vs : List VolumeLine) → AscendBy n vs → first_stored (first_volumes_at server vs) ≡ firsts (placed_lines server vs)
unfolding firsts
begins_with server n [] up = refl
begins_with server n (v ∷ vs) up =
    placed_by (counts_later v.id vs) (nat_eq v.server server) v (first_volumes_at server vs) (placed_lines server vs) (not_later v vs up.1) (at_up server (v.id + 1) vs up.1) (begins_with server (v.id + 1) vs up.1)

kept_up : (t : Bool) (n : ℕ) (v : VolumeLine) (ls : List VolumeLine) → n ≤ v.id → AscendBy (v.id + 1) ls → AscendBy n (cond t (v ∷ ls) ls)
kept_up true n v ls le up = (le, up)
kept_up false n v ls le up = up_lower n (v.id + 1) ls (omega (arith, le)) up

lines_up : (server n : ℕ) (vs : List VolumeLine) → AscendBy n vs → AscendBy n (placed_lines server vs)
lines_up server n [] up = tt
lines_up server n (v ∷ vs) up = kept_up (nat_eq v.server server) n v (placed_lines server vs) up.0 (lines_up server (v.id + 1) vs up.1)

-- ---- both are one

abbrev begun : ℕ → Table Stored → Durable
begun capacity t = durable_of (first_lasting capacity t)

taken_by : (o : Option Durable) (n : ℕ) (d : Durable) → (o >>= λ e. Some (record e { journal = n })) ≡ Some d → (e : Durable) × ((o ≡ Some e) × (d ≡ record e { journal = n }))
taken_by None n d h = absurd (none_is d h)
taken_by (Some e) n d h = (e, (refl, sym (some_of (record e { journal = n }) d h)))

put_first : (b : Bool) (capacity : ℕ) (t : Table Stored) (ls : List VolumeLine) (d : Durable) → t ≡ firsts ls → AscendBy 0 ls → cond b (first_folded (record_of_volumes t) (nothing_on capacity)) None ≡ Some d → d ≡ begun capacity (firsts ls)
unfolding folded AllBelow
put_first false capacity t ls d is up h = absurd (none_is d h)
put_first true capacity t ls d is up h =
    let n : ℕ = 1 + place_length (record_of_volumes t) in
    let r = taken_by (with_volumes (told_all t) (nothing_on capacity)) n d h in
    let e : Durable = r.0 in
    let volumes : e ≡ record (nothing_on capacity) { volumes = firsts ls } = volumes_back ls (nothing_on capacity) e 0 tt up (ap (λ (u : Table Stored). with_volumes (told_all u) (nothing_on capacity)) (sym is) ∙ r.1.0) in
    r.1.1 ∙ (ap (λ (a : Durable). record a { journal = n }) volumes ∙ ap (λ (u : Table Stored). record (begun capacity (firsts ls)) { journal = 1 + place_length (record_of_volumes u) }) is)

laid_by : (o : Option (Table Stored)) (capacity : ℕ) (ls : List VolumeLine) (d : Durable) → volumes_laid ls [] ≡ o → AscendBy 0 ls
    → ((o >>= λ t. Some (record_of_volumes t)) >>= λ r. cond (has_room (nothing_on capacity) r) (first_folded r (nothing_on capacity)) None) ≡ Some d → d ≡ begun capacity (firsts ls)
unfolding AllBelow
laid_by None capacity ls d is up h = absurd (none_is d h)
laid_by (Some t) capacity ls d is up h = put_first (has_room (nothing_on capacity) (record_of_volumes t)) capacity t ls d (volumes_are ls [] t 0 tt up is) up h

pub set_ups_first : SetUpsAreFirst
set_ups_first capacity server vs d up h =
    laid_by (volumes_laid (placed_lines server vs) []) capacity (placed_lines server vs) d refl (lines_up server 0 vs up) h
    ∙ ap (begun capacity) (sym (begins_with server 0 vs up))
