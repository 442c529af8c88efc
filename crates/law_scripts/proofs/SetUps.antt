-- Each server's volumes are accepted at set-up, and their first record is folded.
use Rattle.std.proofs.Common.{◌≡◌, ℕ, ◌+◌, ◌<◌, ◌≤◌, Bool, true, false, cond, List, [], ◌∷◌, ◌++◌, length, Option, Some, None, Result, Ok, Err, nat_eq, nat_le, nat_lt, if◌then◌else◌, refl, sym, ap, subst, ◌∙◌, arith, append_assoc}
use Rattle.std.specs.Prelude.{◌&&◌, filter, is_some, map, not, ⊤}
use Rattle.std.specs.List.{AllByRecursion}
use Rattle.std.proofs.lemmas.Bool.Decides.{nat_tests}
use Rattle.std.proofs.lemmas.List.{length-append}
use Rattle.afs_num.specs.declared.records.StoreRecord.{StoreRecord}
use Rattle.afs_num.specs.declared.records.StoredVolume.{StoredVolume}
use Rattle.afs_num.specs.declared.scripts.Reason.{Reason}
use Rattle.spec_history.specs.declared.scripts.Script.{Script}
use Rattle.spec_history.specs.declared.scripts.SetupLine.{SetupLine}
use Rattle.spec_history.specs.declared.scripts.VolumeLine.{VolumeLine}
use Rattle.spec_shape.specs.Taking.{◌>>=◌}
use Rattle.spec_ideal.specs.Images.{image_of, value_of, values_of}
use Rattle.spec_ideal.specs.SetUp.{empty_volume, filled_by, first_volume, laid, laid_or}
use Rattle.spec_ideal.specs.SoundnessLaws.{FirstVolumes}
use Rattle.spec_ideal.specs.Tables.{Table, get, set, AscendsFrom}
use Rattle.spec_ideal.specs.VnodeMaps.{most_vnodes}
use Rattle.spec_ideal.specs.Volumes.{Vnode, Volume}
use Rattle.spec_ideal.proofs.Basics.{both_true}
use Rattle.spec_ideal.proofs.Laid as setting
use Rattle.spec_ideal.proofs.Tables.{get_below}
use Rattle.spec_records.specs.Changes.{accepted, at_set_up, first_record, images_of, laid_all, no_head, record_of_volumes, stored_volume, volume_laid, volumes_laid}
use Rattle.spec_fold.specs.SetUps.{set_up}
use Rattle.spec_records.specs.Durable.{allowed, by_number, has_room, most_volumes, noted, nothing_on, or_zero, place_length, stored_of, times_of, volume_with, with_journal, with_stored, with_volumes, Durable, Stored}
use Rattle.spec_fold.specs.Fold.{first_folded, folded}
use Rattle.spec_records.specs.Sound.{is_sound}
use Rattle.spec_records.proofs.Kept.{value_back}
use Rattle.spec_records.proofs.Tested.{passes}
use Rattle.law_legal.specs.Laws.{AscendBy}
use Rattle.law_legal.proofs.VolumeNames.{first_fine}
use Rattle.afs_volstore.specs.Laying.{HasShortName}
use Rattle.afs_words.specs.declared.nodes.Counts.{Counts}
use Rattle.afs_grammar.specs.CellScripts.{counts_of, AreAccepted, AreVolumes, IsCellScript}
use Rattle.afs_grammar.specs.Lines.{fits_server, stands_at_server, setup_accepts, stored_all, lines_of_server}
use Rattle.law_scripts.specs.SetUps.{SetUpsAreAccepted}
use Rattle.law_scripts.proofs.Few.{first_few}
use Rattle.law_scripts.proofs.Scripts.{names_are_short, numbers_ascend}

-- ---- lines that are accepted are laid

lay_by : (r : Result Volume ℕ) (id : ℕ) (ls : List SetupLine) (v : Volume) → setup_accepts r ≡ Ok tt → laid_all id ls (laid_or v r) ≡ Some (filled_by id ls (laid_or v r)) → (accepted r >>= laid_all id ls) ≡ Some (filled_by id ls (laid_or v r))
lay_by (Ok w) id ls v good more = more
lay_by (Err code) id ls v good more = absurd cc

all_laid : (id : ℕ) (ls : List SetupLine) (v : Volume) → AreAccepted id ls v → laid_all id ls v ≡ Some (filled_by id ls v)
all_laid id [] v h = refl
all_laid id (l ∷ ls) v h = lay_by (laid id l v) id ls v h.0 (all_laid id ls (laid_or v (laid id l v)) h.1)

abbrev IsTaken : VolumeLine → Type 0
IsTaken l = volume_laid l ≡ Some (first_volume l)

abbrev AreTaken : List VolumeLine → Type 0
AreTaken ls = AllByRecursion IsTaken ls

taken : (c : Counts) (n : ℕ) (ls : List VolumeLine) → AreVolumes c n ls → AreTaken ls
taken c n [] h = tt
taken c n (l ∷ ls) h = (all_laid l.id l.lines (empty_volume l) h.0.lines, taken c (n + 1) ls h.1)

kept_by : (P : VolumeLine → Type 0) (t : Bool) (l : VolumeLine) (ls : List VolumeLine) → P l → AllByRecursion P ls → AllByRecursion P (cond t (l ∷ ls) ls)
kept_by P true l ls one more = (one, more)
kept_by P false l ls one more = more

kept : (P : VolumeLine → Type 0) (server : ℕ) (ls : List VolumeLine) → AllByRecursion P ls → AllByRecursion P (lines_of_server server ls)
kept P server [] h = tt
kept P server (l ∷ ls) h = kept_by P (stands_at_server server l) l (lines_of_server server ls) h.0 (kept P server ls h.1)

-- ---- tables by ascending numbers

lower : (m n : ℕ) (ls : List VolumeLine) → m ≤ n → AscendBy n ls → AscendBy m ls
lower m n [] le up = tt
lower m n (l ∷ ls) le up = (omega (arith, le, up.0), up.1)

ascend_by : (t : Bool) (n : ℕ) (l : VolumeLine) (ls : List VolumeLine) → n ≤ l.id → AscendBy (l.id + 1) ls → AscendBy n (cond t (l ∷ ls) ls)
ascend_by true n l ls le up = (le, up)
ascend_by false n l ls le up = lower n (l.id + 1) ls (omega (arith, le)) up

ascend_at : (server n : ℕ) (ls : List VolumeLine) → AscendBy n ls → AscendBy n (lines_of_server server ls)
ascend_at server n [] up = tt
ascend_at server n (l ∷ ls) up = ascend_by (stands_at_server server l) n l (lines_of_server server ls) up.0 (ascend_at server (l.id + 1) ls up.1)

-- what the lines of a server leave, by ascending numbers
firsts : List VolumeLine → Table Stored
firsts [] = []
firsts (l ∷ ls) = (l.id, at_set_up (first_volume l)) ∷ firsts ls

firsts_up : (n : ℕ) (ls : List VolumeLine) → AscendBy n ls → AscendsFrom n (firsts ls)
unfolding firsts
firsts_up n [] up = tt
firsts_up n (l ∷ ls) up = (up.0, firsts_up (l.id + 1) ls up.1)

set_first : (n m : ℕ) (x : Stored) (t : Table Stored) → n < m → AscendsFrom m t → set n x t ≡ (n, x) ∷ t
set_first n m x [] lt up = refl
set_first n m x (p ∷ ps) lt up =
    let le : m ≤ p.0 = up.0 in
    let other : nat_eq p.0 n ≡ false = grind (arith, nat_tests, lt, le) in
    let below : nat_lt n p.0 ≡ true = grind (arith, nat_tests, lt, le) in
    rw (other, below) refl

stored_is : (n : ℕ) (ls : List VolumeLine) → AscendBy n ls → stored_all ls ≡ firsts ls
unfolding firsts
stored_is n [] up = refl
stored_is n (l ∷ ls) up =
    ap (set l.id (at_set_up (first_volume l))) (stored_is (l.id + 1) ls up.1)
    ∙ set_first l.id (l.id + 1) (at_set_up (first_volume l)) (firsts ls) (omega arith) (firsts_up (l.id + 1) ls up.1)

-- a number above all others stands last
AllBelow : ℕ → Table Stored → Type 0
AllBelow n [] = ⊤
AllBelow n (p ∷ ps) = (p.0 < n) × AllBelow n ps

set_last : (n : ℕ) (x : Stored) (t : Table Stored) → AllBelow n t → set n x t ≡ t ++ (n, x) ∷ []
unfolding AllBelow
set_last n x [] b = refl
set_last n x (p ∷ ps) b =
    let lt : p.0 < n = b.0 in
    let other : nat_eq p.0 n ≡ false = grind (arith, nat_tests, lt) in
    let above : nat_lt n p.0 ≡ false = grind (arith, nat_tests, lt) in
    rw (other, above) (ap (λ (t : Table Stored). p ∷ t) (set_last n x ps b.1))

below_more : (n m : ℕ) (x : Stored) (t : Table Stored) → n < m → AllBelow n t → AllBelow m (t ++ (n, x) ∷ [])
unfolding AllBelow
below_more n m x [] lt b = (lt, tt)
below_more n m x (p ∷ ps) lt b = (omega (arith, b.0, lt), below_more n m x ps lt b.1)

below_up : (n m : ℕ) (t : Table Stored) → n ≤ m → AllBelow n t → AllBelow m t
unfolding AllBelow
below_up n m [] le b = tt
below_up n m (p ∷ ps) le b = (omega (arith, b.0, le), below_up n m ps le b.1)

nil_behind : (t : Table Stored) → t ++ [] ≡ t
nil_behind [] = refl
nil_behind (x ∷ xs) = ap (λ (ys : Table Stored). x ∷ ys) (nil_behind xs)

-- ---- all volumes of a server are laid

volumes_are : (ls : List VolumeLine) (t : Table Stored) (n : ℕ) → AllBelow n t → AscendBy n ls → AreTaken ls → volumes_laid ls t ≡ Some (t ++ firsts ls)
unfolding firsts
volumes_are [] t n b up h = ap (λ (u : Table Stored). Some u) (sym (nil_behind t))
volumes_are (l ∷ ls) t n b up h =
    let x : Stored = at_set_up (first_volume l) in
    let low : AllBelow l.id t = below_up n l.id t up.0 b in
    ap (λ (o : Option Volume). o >>= λ v. volumes_laid ls (set l.id (at_set_up v) t)) h.0
    ∙ (ap (volumes_laid ls) (set_last l.id x t low)
    ∙ (volumes_are ls (t ++ (l.id, x) ∷ []) (l.id + 1) (below_more l.id (l.id + 1) x t (omega arith) low) up.1 h.1
    ∙ ap (λ (u : Table Stored). Some u) (append_assoc t ((l.id, x) ∷ []) (firsts ls))))

-- ---- their record is read

here : (p : ℕ × Vnode) (ps : Table Vnode) → get p.0 (p ∷ ps) ≡ Some p.1
here p ps = grind (arith, nat_tests)

none_is : (x : Vnode) → None ≡ Some x → ⊥
none_is x e = cc

later_by : (t : Bool) (p : ℕ × Vnode) (ps : Table Vnode) (n : ℕ) (x : Vnode) → nat_eq p.0 n ≡ t → AscendsFrom (p.0 + 1) ps → get n ps ≡ Some x → cond t (Some p.1) (get n ps) ≡ Some x
later_by true p ps n x is up e =
    let lt : n < p.0 + 1 = grind (arith, nat_tests, is) in
    absurd (none_is x (sym (get_below (p.0 + 1) n ps lt up) ∙ e))
later_by false p ps n x is up e = e

abbrev Back : Table Vnode → Type 0
Back vs = (time n : ℕ) (x : Vnode) → get n vs ≡ Some x → value_of (image_of n time x) ≡ Some x

values_back : (times : Table ℕ) (vs : Table Vnode) (m : ℕ) → AscendsFrom m vs → Back vs → values_of (by_number (map (λ (p : ℕ × Vnode). image_of p.0 (or_zero (get p.0 times)) p.1) vs)) ≡ Some vs
values_back times [] m up h = refl
values_back times (p ∷ ps) m up h =
    rw (h (or_zero (get p.0 times)) p.0 p.1 (here p ps), values_back times ps (p.0 + 1) up.1 (λ time n x e. h time n x (later_by (nat_eq p.0 n) p ps n x refl up.1 e))) refl

abbrev at_nought : Table Vnode → Table ℕ
at_nought vs = map (λ (p : ℕ × Vnode). (p.0, 0)) vs

nought_by : (t : Bool) (n : ℕ) (vs : Table Vnode) → or_zero (get n (at_nought vs)) ≡ 0 → or_zero (cond t (Some 0) (get n (at_nought vs))) ≡ 0
nought_by true n vs h = refl
nought_by false n vs h = h

nought : (n : ℕ) (vs : Table Vnode) → or_zero (get n (at_nought vs)) ≡ 0
nought n [] = refl
nought n (p ∷ ps) = nought_by (nat_eq p.0 n) n ps (nought n ps)

times_back : (times : Table ℕ) (vs : Table Vnode) → ((n : ℕ) → or_zero (get n times) ≡ 0) → times_of (map (λ (p : ℕ × Vnode). image_of p.0 (or_zero (get p.0 times)) p.1) vs) ≡ at_nought vs
times_back times [] h = refl
times_back times (p ∷ ps) h = ap (λ (k : ℕ). (p.0, k) ∷ times_of (map (λ (q : ℕ × Vnode). image_of q.0 (or_zero (get q.0 times)) q.1) ps)) (h p.0) ∙ ap (λ (t : Table ℕ). (p.0, 0) ∷ t) (times_back times ps h)

few_test : (n : ℕ) → n ≤ most_vnodes → not (nat_lt most_vnodes n) ≡ true
few_test n le = grind (arith, nat_tests, le)

allowed_is : (s : Stored) → length s.volume.vnodes ≤ most_vnodes → is_sound s.volume ≡ true → allowed s ≡ Some s
allowed_is s few sound = rw (few_test (length s.volume.vnodes) few, sound) refl

stored_back : (id : ℕ) (v : Volume) → AscendsFrom 1 v.vnodes → Back v.vnodes → length v.vnodes ≤ most_vnodes → is_sound v ≡ true → stored_of (stored_volume id (at_set_up v)) ≡ Some (at_set_up v)
stored_back id v up h few sound =
    let sv : StoredVolume = stored_volume id (at_set_up v) in
    ap (λ (o : Option (Table Vnode)). o >>= λ vnodes. allowed (record { volume = volume_with sv vnodes; times = times_of sv.vnodes; is_new = false })) (values_back (at_nought v.vnodes) v.vnodes 1 up h)
    ∙ (ap (λ (t : Table ℕ). allowed (record { volume = v; times = t; is_new = false })) (times_back (at_nought v.vnodes) v.vnodes (λ n. nought n v.vnodes))
    ∙ allowed_is (at_set_up v) few sound)

line_back : (l : VolumeLine) → stored_of (stored_volume l.id (at_set_up (first_volume l))) ≡ Some (at_set_up (first_volume l))
line_back l =
    let law : FirstVolumes = setting.first_volumes in
    let sound = (law.laid_out l).sound in
    stored_back l.id (first_volume l) (first_fine l).ascends (λ time n x e. value_back n time x (sound.vnodes n x e).body ((first_fine l).readable n x e).fit) (first_few l) (passes (first_volume l) sound)

abbrev told_all : Table Stored → List StoredVolume
told_all t = map (λ (p : ℕ × Stored). stored_volume p.0 p.1) t

room_test : (n : ℕ) → n ≤ most_volumes → nat_lt most_volumes n ≡ false
room_test n le = grind (arith, nat_tests, le)

one_put : (l : VolumeLine) (d : Durable) → AllBelow l.id d.volumes → length d.volumes + 1 ≤ most_volumes → with_stored l.id (at_set_up (first_volume l)) d ≡ Some (record d { volumes = d.volumes ++ (l.id, at_set_up (first_volume l)) ∷ [] })
one_put l d low few =
    let x : Stored = at_set_up (first_volume l) in
    let last = set_last l.id x d.volumes low in
    let long = length-append d.volumes ((l.id, x) ∷ []) in
    ap (λ (t : Table Stored). if nat_lt most_volumes (length t) then None else Some (record d { volumes = t })) last
    ∙ rw (room_test (length (d.volumes ++ (l.id, x) ∷ [])) (omega (arith, long, few))) refl

volumes_back : (ls : List VolumeLine) (d : Durable) (n : ℕ) → AllBelow n d.volumes → AscendBy n ls → length d.volumes + length ls ≤ most_volumes → with_volumes (told_all (firsts ls)) d ≡ Some (record d { volumes = d.volumes ++ firsts ls })
unfolding firsts
volumes_back [] d n b up few = ap (λ (t : Table Stored). Some (record d { volumes = t })) (sym (nil_behind d.volumes))
volumes_back (l ∷ ls) d n b up few =
    let x : Stored = at_set_up (first_volume l) in
    let low : AllBelow l.id d.volumes = below_up n l.id d.volumes up.0 b in
    let c : Durable = record d { volumes = d.volumes ++ (l.id, x) ∷ [] } in
    let long = length-append d.volumes ((l.id, x) ∷ []) in
    ap (λ (o : Option Stored). o >>= λ y. (with_stored l.id y d >>= with_volumes (told_all (firsts ls)))) (line_back l)
    ∙ (ap (λ (o : Option Durable). o >>= with_volumes (told_all (firsts ls))) (one_put l d low (omega (arith, few)))
    ∙ (volumes_back ls c (l.id + 1) (below_more l.id (l.id + 1) x d.volumes (omega arith) low) up.1 (omega (arith, long, few))
    ∙ ap (λ (t : Table Stored). Some (record d { volumes = t })) (append_assoc d.volumes ((l.id, x) ∷ []) (firsts ls))))

-- ---- so they are set up

some_test : {A : Type 0} (o : Option A) (x : A) → o ≡ Some x → is_some o ≡ true
some_test {A} o x e = ap is_some e

room_is : (capacity : ℕ) (r : StoreRecord) → nat_le (1 + place_length r) capacity ≡ true → has_room (nothing_on capacity) r ≡ true
room_is capacity r e = grind (arith, nat_tests, e)

folds : (capacity : ℕ) (ls : List VolumeLine) (n : ℕ) → AscendBy n ls → length ls ≤ most_volumes → (d : Durable) × (first_folded (record_of_volumes (firsts ls)) (nothing_on capacity) ≡ Some d)
unfolding folded AllBelow
folds capacity ls n up few =
    let r : StoreRecord = record_of_volumes (firsts ls) in (
      with_journal (1 + place_length r) (noted no_head (record (nothing_on capacity) { volumes = firsts ls })),
      ap (λ (o : Option Durable). o >>= λ e. Some (with_journal (1 + place_length r) (noted no_head e))) (volumes_back ls (nothing_on capacity) n tt up (omega (arith, few))),
    )

sets_up : (capacity : ℕ) (ls : List VolumeLine) (n : ℕ) → AscendBy n ls → AreTaken ls → length ls ≤ most_volumes → fits_server capacity ls ≡ true → (d : Durable) × (set_up capacity ls ≡ Some d)
unfolding AllBelow
sets_up capacity ls n up h few fits =
    let r : StoreRecord = record_of_volumes (firsts ls) in
    let told : first_record ls ≡ Some r = ap (λ (o : Option (Table Stored)). o >>= λ t. Some (record_of_volumes t)) (volumes_are ls [] n tt up h) in
    let room : has_room (nothing_on capacity) r ≡ true = room_is capacity r (subst (λ (t : Table Stored). nat_le (1 + place_length (record_of_volumes t)) capacity ≡ true) (stored_is n ls up) fits) in
    let made = folds capacity ls n up few in (
      made.0,
      ap (λ (o : Option StoreRecord). o >>= λ x. (if has_room (nothing_on capacity) x then first_folded x (nothing_on capacity) else None)) told
          ∙ (ap (λ (b : Bool). if b then first_folded r (nothing_on capacity) else None) room ∙ made.1),
    )

pub set_ups_are_accepted : SetUpsAreAccepted
unfolding AllBelow
set_ups_are_accepted s h server =
    let ls : List VolumeLine = lines_of_server server s.volumes in
    let up : AscendBy 0 ls = ascend_at server 0 s.volumes (numbers_ascend s h) in
    let all : AreTaken ls = kept IsTaken server s.volumes (taken (counts_of s) 536870912 s.volumes h.volumes) in (
      record {
        names = kept HasShortName server s.volumes (names_are_short s h);
        accepted = some_test (volumes_laid ls []) (firsts ls) (volumes_are ls [] 0 tt up all);
        few = h.few server;
      },
      sets_up s.capacity ls 0 up all (h.few server) (h.fits server),
    )
