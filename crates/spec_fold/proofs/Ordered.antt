-- The volumes on a disk stand by their numbers, and are no more than a server may have, whatever its records.
use Rattle.std.proofs.Common.{◌≡◌, ℕ, suc, ◌+◌, ◌≤◌, Bool, true, false, List, [], ◌∷◌, length, filter, Option, Some, None, is_some, nat_eq, nat_lt, refl, sym, ap, subst, ◌∙◌, arith, if◌then◌else◌}
use Rattle.std.specs.Prelude.{not, ◌&&◌, ◌||◌}
use Rattle.std.proofs.lemmas.Bool.{ltb-false, ltb-true}
use Rattle.std.proofs.lemmas.Bool.Decides.{nat_tests}
use Rattle.afs_num.specs.declared.records.RecordBody.{RecordBody}
use Rattle.afs_num.specs.declared.records.RecordBody.TheVariants as bodies
use Rattle.afs_num.specs.declared.records.RecordHead.{RecordHead}
use Rattle.afs_num.specs.declared.records.StoredVolume.{StoredVolume}
use Rattle.afs_num.specs.declared.records.StoreRecord.{StoreRecord}
use Rattle.afs_num.specs.declared.types.Node.{Node}
use Rattle.spec_shape.specs.Taking.{◌>>=◌}
use Rattle.spec_ideal.specs.Tables.{get, set, AscendsFrom, Table}
use Rattle.spec_ideal.proofs.Tables.{ascends_set, get_below, get_set}
use Rattle.spec_records.specs.Durable.{changed_stored, is_flagged, most_volumes, noted, nothing_on, placing, replaced, stored_of, with_journal, with_reply, with_stamp, with_stored, with_volumes, Durable, Stored}
use Rattle.spec_records.specs.Records.{record_at}
use Rattle.spec_records.proofs.Forms.{bound, some_is}
use Rattle.spec_dumps.specs.Restores.{restored_from}
use Rattle.spec_fold.specs.Deeds.{can_take, clone_made, clone_put, created, done_by, flagged, has_volume, on_stored, or_as_was, with_release}
use Rattle.spec_fold.specs.Fold.{body_taken, first_folded, fold_all, fold_from, folded}
use Rattle.spec_fold.specs.Orders.{AreFew, RecordsLeaveFew}

-- ---- tables

set_length : {A : Type 0} (m n : ℕ) (x : A) (t : Table A) → AscendsFrom m t → length (set n x t) ≡ (if is_some (get n t) then length t else suc (length t))
set_length {A} m n x [] up = refl
set_length {A} m n x (p ∷ ps) up = grind (arith, nat_tests, up.0, up.1, get_below (p.0 + 1) n ps, set_length (p.0 + 1) n x ps up.1)

left_by : {A : Type 0} (b : Bool) (p : A) (ps rest : List A) → length rest ≤ length ps → length (if b then p ∷ rest else rest) ≤ suc (length ps)
left_by {A} true p ps rest le = omega (arith, le)
left_by {A} false p ps rest le = omega (arith, le)

no_more : {A : Type 0} (keep : A → Bool) (ps : List A) → length (filter keep ps) ≤ length ps
no_more {A} keep [] = omega arith
no_more {A} keep (p ∷ ps) = left_by (keep p) p ps (filter keep ps) (no_more keep ps)

kept_by : (m : ℕ) (b : Bool) (p : ℕ × Stored) (ps rest : Table Stored) → m ≤ p.0 → AscendsFrom (p.0 + 1) rest → AscendsFrom m (if b then p ∷ rest else rest)
kept_by m true p ps rest le up = (le, up)
kept_by m false p ps rest le up = lower m (p.0 + 1) rest (omega (arith, le)) up
  where
    lower : (m n : ℕ) (t : Table Stored) → m ≤ n → AscendsFrom n t → AscendsFrom m t
    lower m n [] le up = tt
    lower m n (q ∷ qs) le up = (omega (arith, le, up.0), up.1)

kept_up : (m : ℕ) (keep : ℕ × Stored → Bool) (t : Table Stored) → AscendsFrom m t → AscendsFrom m (filter keep t)
kept_up m keep [] up = tt
kept_up m keep (p ∷ ps) up = kept_by m (keep p) p ps (filter keep ps) up.0 (kept_up (p.0 + 1) keep ps up.1)

-- ---- one volume more or less

few_kept : (keep : ℕ × Stored → Bool) (t : Table Stored) → AreFew t → AreFew (filter keep t)
few_kept keep t few = (kept_up 0 keep t few.0, (let z : length (filter keep t) ≤ most_volumes = omega (arith, few.1, no_more keep t) in z))

few_again : (id : ℕ) (x : Stored) (t : Table Stored) → AreFew t → is_some (get id t) ≡ true → AreFew (set id x t)
few_again id x t few there =
    let same : length (set id x t) ≡ length t = set_length 0 id x t few.0 ∙ ap (λ (b : Bool). if b then length t else suc (length t)) there in
    (ascends_set 0 id x t (omega arith) few.0, (let z : length (set id x t) ≤ most_volumes = omega (arith, few.1, same) in z))

few_by : (b : Bool) (n k : ℕ) → k ≡ (if b then n else suc n) → suc n ≤ most_volumes → k ≤ most_volumes
few_by true n k is le = omega (arith, is, le)
few_by false n k is le = omega (arith, is, le)

few_more : (id : ℕ) (x : Stored) (t : Table Stored) → AreFew t → suc (length t) ≤ most_volumes → AreFew (set id x t)
few_more id x t few room = (ascends_set 0 id x t (omega arith) few.0, few_by (is_some (get id t)) (length t) (length (set id x t)) (set_length 0 id x t few.0) room)

-- ---- set-up, changes and starts

few_with : (b : Bool) (id : ℕ) (x : Stored) (d e : Durable) → nat_lt most_volumes (length (set id x d.volumes)) ≡ b → AreFew d.volumes → (if b then None else Some (record d { volumes = set id x d.volumes })) ≡ Some e → AreFew e.volumes
few_with true id x d e is few h = absurd cc
few_with false id x d e is few h =
    subst (λ (f : Durable). AreFew f.volumes) (some_is (record d { volumes = set id x d.volumes }) e h) (ascends_set 0 id x d.volumes (omega arith) few.0, ltb-false most_volumes (length (set id x d.volumes)) is)

few_set_up : (vs : List StoredVolume) (d e : Durable) → AreFew d.volumes → with_volumes vs d ≡ Some e → AreFew e.volumes
few_set_up [] d e few h = subst (λ (f : Durable). AreFew f.volumes) (some_is d e h) few
few_set_up (v ∷ vs) d e few h =
    let a = bound (stored_of v) (λ x. (with_stored v.head.id x d >>= with_volumes vs)) e h in
    let b = bound (with_stored v.head.id a.0 d) (with_volumes vs) e a.1.1 in
    few_set_up vs b.0 e (few_with (nat_lt most_volumes (length (set v.head.id a.0 d.volumes))) v.head.id a.0 d b.0 refl few b.1.0) b.1.1

few_replaced : (id : ℕ) (o : Option Stored) (d e : Durable) → AreFew d.volumes → is_some (get id d.volumes) ≡ true → replaced id o d ≡ Some e → AreFew e.volumes
few_replaced id None d e few there h = absurd cc
few_replaced id (Some s) d e few there h = subst (λ (f : Durable). AreFew f.volumes) (some_is (record d { volumes = set id s d.volumes }) e h) (few_again id s d.volumes few there)

-- ---- what a volume server does

few_stored : (id : ℕ) (f : Stored → Stored) (o : Option Stored) (d : Durable) → get id d.volumes ≡ o → AreFew d.volumes → AreFew (on_stored id f o d).volumes
few_stored id f None d is few = few
few_stored id f (Some s) d is few = few_again id (f s) d.volumes few (ap is_some is)

both : (a b : Bool) → (a && b) ≡ true → (a ≡ true) × (b ≡ true)
both true b e = (refl, e)
both false b e = absurd cc

either : (a b : Bool) → a ≡ false → (a || b) ≡ true → b ≡ true
either true b is e = absurd cc
either false b is e = e

still_there : (id source : ℕ) (x : Stored) (t : Table Stored) → is_some (get id t) ≡ true → is_some (get id (set source x t)) ≡ true
still_there id source x t there = ap is_some (get_set id source x t) ∙ by (nat_eq source id)
  where
    by : (b : Bool) → is_some (if b then Some x else get id t) ≡ true
    by true = refl
    by false = there

few_clone : (source id : ℕ) (name : List ℕ) (kind release : ℕ) (s : Stored) (o : Option Stored) (d : Durable) → get source d.volumes ≡ Some s → get id d.volumes ≡ o → AreFew d.volumes → (is_some o || nat_lt (length d.volumes) most_volumes) ≡ true
    → AreFew (clone_put source id name kind release s o d).volumes
few_clone source id name kind release s None d there is few room =
    let t = set source (with_release release s) d.volumes in
    let same : length t ≡ length d.volumes = set_length 0 source (with_release release s) d.volumes few.0 ∙ ap (λ (o : Option Stored). if is_some o then length d.volumes else suc (length d.volumes)) there in
    few_more id _ t (few_again source (with_release release s) d.volumes few (ap is_some there)) (let z : suc (length t) ≤ most_volumes = omega (arith, same, ltb-true (length d.volumes) most_volumes room) in z)
few_clone source id name kind release s (Some old) d there is few room =
    few_again id _ (set source (with_release release s) d.volumes) (few_again source (with_release release s) d.volumes few (ap is_some there)) (still_there id source (with_release release s) d.volumes (ap is_some is))

few_made : (source id : ℕ) (name : List ℕ) (kind release : ℕ) (o : Option Stored) (d : Durable) → get source d.volumes ≡ o → AreFew d.volumes → (is_some (get id d.volumes) || nat_lt (length d.volumes) most_volumes) ≡ true
    → AreFew (clone_made source id name kind release o d).volumes
few_made source id name kind release None d is few room = few
few_made source id name kind release (Some s) d is few room = few_clone source id name kind release s (get id d.volumes) d is refl few room

few_done : (b : RecordBody) (d : Durable) → can_take b d ≡ true → AreFew d.volumes → AreFew (done_by b d).volumes
few_done (bodies.First vs) d can few = few
few_done (bodies.Change id counter unique vnodes removed) d can few = few
few_done (bodies.Boot boot) d can few = few
few_done (bodies.Create id family name kind flags quota is_new) d can few =
    few_more id (created family name kind flags quota is_new) d.volumes few (ltb-true (length d.volumes) most_volumes (both (not (has_volume id d)) (nat_lt (length d.volumes) most_volumes) can).1)
few_done (bodies.Delete id) d can few = few_kept (λ (p : ℕ × Stored). not (nat_eq p.0 id)) d.volumes few
few_done (bodies.Clone source id name kind release) d can few = few_made source id name kind release (get source d.volumes) d refl few (both (has_volume source d) (has_volume id d || nat_lt (length d.volumes) most_volumes) can).1
few_done (bodies.Restore id dump) d can few = few_stored id (λ (s : Stored). or_as_was s (restored_from id s dump)) (get id d.volumes) d refl few
few_done (bodies.Flags id flags) d can few = few_stored id (flagged flags) (get id d.volumes) d refl few
few_done (bodies.Forward id to) d can few = few
few_done bodies.Stamp d can few = few

few_if : (b : Bool) (body : RecordBody) (d e : Durable) → can_take body d ≡ b → AreFew d.volumes → (if b then Some (done_by body d) else None) ≡ Some e → AreFew e.volumes
few_if true body d e can few h = subst (λ (f : Durable). AreFew f.volumes) (some_is (done_by body d) e h) (few_done body d can few)
few_if false body d e can few h = absurd cc

pub few_taken : (b : RecordBody) (d e : Durable) → AreFew d.volumes → body_taken b d ≡ Some e → AreFew e.volumes
few_taken (bodies.First vs) d e few h = few_set_up vs d e few h
few_taken (bodies.Change id counter unique vnodes removed) d e few h =
    let a = bound (get id d.volumes) (λ s. replaced id (changed_stored counter unique vnodes removed s) d) e h in
    few_replaced id (changed_stored counter unique vnodes removed a.0) d e few (ap is_some a.1.0) a.1.1
few_taken (bodies.Boot boot) d e few h =
    subst (λ (f : Durable). AreFew f.volumes) (some_is _ e h) (few_kept (λ (p : ℕ × Stored). not (is_flagged p.1)) d.volumes few)
few_taken (bodies.Create id family name kind flags quota is_new) d e few h = few_if (can_take (bodies.Create id family name kind flags quota is_new) d) (bodies.Create id family name kind flags quota is_new) d e refl few h
few_taken (bodies.Delete id) d e few h = few_if (can_take (bodies.Delete id) d) (bodies.Delete id) d e refl few h
few_taken (bodies.Clone source id name kind release) d e few h = few_if (can_take (bodies.Clone source id name kind release) d) (bodies.Clone source id name kind release) d e refl few h
few_taken (bodies.Restore id dump) d e few h = few_if (can_take (bodies.Restore id dump) d) (bodies.Restore id dump) d e refl few h
few_taken (bodies.Flags id flags) d e few h = few_if (can_take (bodies.Flags id flags) d) (bodies.Flags id flags) d e refl few h
few_taken (bodies.Forward id to) d e few h = few_if (can_take (bodies.Forward id to) d) (bodies.Forward id to) d e refl few h
few_taken bodies.Stamp d e few h = few_if true bodies.Stamp d e refl few h

-- ---- records

stamped_by : (b : Bool) (h : RecordHead) (d : Durable) → (if b then d else record d { stamps = set h.family h.stamp d.stamps }).volumes ≡ d.volumes
stamped_by true h d = refl
stamped_by false h d = refl

replied_by : (o : Option Node) (h : RecordHead) (d : Durable) → (with_reply o h d).volumes ≡ d.volumes
replied_by None h d = refl
replied_by (Some n) h d = refl

pub noted_volumes : (h : RecordHead) (d : Durable) → (noted h d).volumes ≡ d.volumes
noted_volumes h d = replied_by h.caller h (with_stamp h d) ∙ stamped_by (nat_eq h.stamp 0) h d

few_folded : (r : StoreRecord) (d e : Durable) → AreFew d.volumes → folded r d ≡ Some e → AreFew e.volumes
unfolding folded
few_folded r d e few h =
    let a = bound (body_taken r.body d) (λ f. Some (with_journal (placing d r).journal (noted r.head f))) e h in
    subst (λ (f : Durable). AreFew f.volumes) (some_is (with_journal (placing d r).journal (noted r.head a.0)) e a.1.1) (subst AreFew (sym (noted_volumes r.head a.0)) (few_taken r.body d a.0 few a.1.0))

few_from : (bs : List (List ℕ)) (d e : Durable) → AreFew d.volumes → fold_from bs d ≡ Some e → AreFew e.volumes
few_from [] d e few h = subst (λ (f : Durable). AreFew f.volumes) (some_is d e h) few
few_from (b ∷ bs) d e few h =
    let a = bound (record_at b) (λ r. (folded r d >>= fold_from bs)) e h in
    let c = bound (folded a.0 d) (fold_from bs) e a.1.1 in
    few_from bs c.0 e (few_folded a.0 d c.0 few c.1.0) c.1.1

few_first : (b : Bool) (r : StoreRecord) (d e : Durable) → AreFew d.volumes → (if b then folded r d else None) ≡ Some e → AreFew e.volumes
few_first true r d e few h = few_folded r d e few h
few_first false r d e few h = absurd cc

few_all : (capacity : ℕ) (bs : List (List ℕ)) (d : Durable) → fold_all capacity bs ≡ Some d → AreFew d.volumes
few_all capacity [] d h = absurd cc
few_all capacity (b ∷ bs) d h =
    let a = bound (record_at b) (λ r. (first_folded r (nothing_on capacity) >>= fold_from bs)) d h in
    let c = bound (first_folded a.0 (nothing_on capacity)) (fold_from bs) d a.1.1 in
    few_from bs c.0 d (few_first _ a.0 (nothing_on capacity) c.0 (tt, (let z : 0 ≤ most_volumes = omega arith in z)) c.1.0) c.1.1

pub records_leave_few : RecordsLeaveFew
records_leave_few = record { one = few_folded; all = λ records d stands. few_all d.capacity records d stands }
