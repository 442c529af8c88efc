-- What is restored is what was dumped.
use Rattle.std.proofs.Common.{◌≡◌, ◌⊎◌, ℕ, zero, suc, ◌+◌, ◌<◌, ◌≤◌, Bool, true, false, cond, List, [], ◌∷◌, length, map, filter, Option, Some, None, nat_eq, nat_lt, refl, sym, ap, subst, ◌∙◌, arith, inl, inr, le-ltb}
use Rattle.std.specs.Prelude.{⊤, ◌&&◌, ◌||◌, not}
use Rattle.std.specs.Option.{option_map}
use Rattle.std.specs.List.{list_all}
use Rattle.afs_num.specs.declared.directories.Name.{Name}
use Rattle.spec_ideal.specs.Operations.{leads_up, is_below}
use Rattle.std.proofs.lemmas.Bool.Decides.{nat_tests}
use Rattle.std.proofs.lemmas.Bool.{eqb-true}
use Rattle.spec_ideal.specs.Images.{Image, image_of, value_of}
use Rattle.spec_ideal.specs.Tables.{Table, get, AscendsFrom}
use Rattle.spec_ideal.specs.VnodeMaps.{most_vnodes}
use Rattle.spec_ideal.specs.Volumes.{VnodeKind, a_file, a_directory, a_link, Vnode, Volume}
use Rattle.spec_ideal.proofs.Tables.{get_below}
use Rattle.spec_dumps.specs.Clones.{cloned, recloned}
use Rattle.spec_dumps.specs.Dumps.{Dump, dump_of, live_in, is_since, timed_images, images_since}
use Rattle.spec_dumps.specs.Restores.{image_in, Timed, timed, vnode_by, indexed, restored_vnodes, vnodes_in, times_in, is_other_family, stored_with, allowed_with, restored}
use Rattle.spec_records.specs.Durable.{Stored, or_zero, allowed}
use Rattle.spec_records.specs.Sound.{ascends_from, gives_held, gives_one, is_named_in, is_placed, is_sound_vnode, is_root, is_sound, kind_is_right, has_by_kind}
use Rattle.spec_dumps.specs.Laws.{HoldsUntil, reindexed, with_content, DumpsAreRestored, FullDumpsNeedNothing, CopiesHold, IncrementsFollow, ClonesAreSound}
use Rattle.spec_records.proofs.Kept.{value_back}
use Rattle.spec_records.proofs.Tested.{passes}

-- ---- the image of a vnode in the dump

image_if : Bool → Image → Option Image
image_if true i = Some i
image_if false i = None

image_for : ℕ → Table ℕ → ℕ → Option Vnode → Option Image
image_for from times n None = None
image_for from times n (Some x) = image_if (nat_lt from x.changed) (image_of n (or_zero (get n times)) x)

here : {A : Type 0} (p : ℕ × A) (ps : Table A) → get p.0 (p ∷ ps) ≡ Some p.1
here {A} p ps = grind (arith, nat_tests)

image_step : (from n : ℕ) (times : Table ℕ) (p : ℕ × Vnode) (ps : Table Vnode) (b c : Bool) → nat_eq p.0 n ≡ b → nat_lt from p.1.changed ≡ c → get n ps ≡ cond b None (get n ps) →
    image_in n (timed_images times (filter (is_since from) ps)) ≡ image_for from times n (get n ps) →
    image_in n (timed_images times (cond c (p ∷ filter (is_since from) ps) (filter (is_since from) ps))) ≡ image_for from times n (cond b (Some p.1) (get n ps))
unfolding image_if image_for
image_step from n times p ps true true is since none later = rw (is, since) (ap (λ (k : ℕ). Some (image_of k (or_zero (get k times)) p.1)) (eqb-true p.0 n is))
image_step from n times p ps true false is since none later = later ∙ (ap (image_for from times n) none ∙ rw since refl)
image_step from n times p ps false true is since none later = rw is later
image_step from n times p ps false false is since none later = later

none_there : (n : ℕ) (p : ℕ × Vnode) (ps : Table Vnode) (b : Bool) → nat_eq p.0 n ≡ b → AscendsFrom (p.0 + 1) ps → get n ps ≡ cond b None (get n ps)
none_there n p ps true is up = get_below (p.0 + 1) n ps (grind (arith, nat_tests, is)) up
none_there n p ps false is up = refl

image_found : (from n m : ℕ) (times : Table ℕ) (t : Table Vnode) → AscendsFrom m t → image_in n (timed_images times (filter (is_since from) t)) ≡ image_for from times n (get n t)
unfolding image_for
image_found from n m times [] up = refl
image_found from n m times (p ∷ ps) up =
    image_step from n times p ps (nat_eq p.0 n) (nat_lt from p.1.changed) refl refl (none_there n p ps (nat_eq p.0 n) refl up.1) (image_found from n (p.0 + 1) times ps up.1)

-- ---- each vnode is found

with_time : Stored → ℕ × Vnode → ℕ × Timed
with_time s p = (p.0, (p.1, or_zero (get p.0 s.times)))

same_unique_by : (x : Vnode) (time : ℕ) (b : Bool) → b ≡ true → timed time (cond b (Some x) None) ≡ Some (x, time)
same_unique_by x time true e = refl
same_unique_by x time false e = absurd cc

same_unique : (x : Vnode) (time : ℕ) → timed time (cond (nat_eq x.unique x.unique) (Some x) None) ≡ Some (x, time)
same_unique x time = same_unique_by x time (nat_eq x.unique x.unique) (grind (arith, nat_tests))

found_since : (from n : ℕ) (s t : Stored) (x : Vnode) (b : Bool) → nat_lt from x.changed ≡ b → value_of (image_of n (or_zero (get n s.times)) x) ≡ Some x →
    (from < x.changed) ⊎ ((get n t.volume.vnodes ≡ Some x) × (or_zero (get n t.times) ≡ or_zero (get n s.times))) →
    vnode_by (image_if b (image_of n (or_zero (get n s.times)) x)) n x.unique t ≡ Some (x, or_zero (get n s.times))
unfolding image_if
found_since from n s t x true is value holds = rw value refl
found_since from n s t x false is value (inl lt) = absurd (grind (arith, nat_tests, is, lt))
found_since from n s t x false is value (inr h) = rw (h.0, h.1) (same_unique x (or_zero (get n s.times)))

-- those of the list are found in the table
AreIn : Table Vnode → Table Vnode → Type 0
AreIn t [] = ⊤
AreIn t (p ∷ ps) = (get p.0 t ≡ Some p.1) × AreIn t ps

later_in : (k : ℕ) (x : Vnode) (p : ℕ × Vnode) (ps : Table Vnode) (b : Bool) → nat_eq p.0 k ≡ b → AscendsFrom (p.0 + 1) ps → get k ps ≡ Some x → get k (p ∷ ps) ≡ Some x
later_in k x p ps true is up e = let z : None ≡ Some x = sym (get_below (p.0 + 1) k ps (grind (arith, nat_tests, is)) up) ∙ e in absurd cc
later_in k x p ps false is up e = rw is e

are_in : (m : ℕ) (t ps : Table Vnode) → AscendsFrom m ps → ((k : ℕ) (x : Vnode) → get k ps ≡ Some x → get k t ≡ Some x) → AreIn t ps
unfolding AreIn
are_in m t [] up h = tt
are_in m t (p ∷ ps) up h = (h p.0 p.1 (here p ps), are_in (p.0 + 1) t ps up.1 (λ k x e. h k x (later_in k x p ps (nat_eq p.0 k) refl up.1 e)))

all_found : (from m : ℕ) (s t : Stored) (ps : Table Vnode) → AscendsFrom m s.volume.vnodes → ((n : ℕ) (x : Vnode) → get n s.volume.vnodes ≡ Some x → value_of (image_of n (or_zero (get n s.times)) x) ≡ Some x) → HoldsUntil from t s → AreIn s.volume.vnodes ps →
    restored_vnodes (live_in ps) (images_since from s) t ≡ Some (map (with_time s) ps)
unfolding AreIn with_time image_for
all_found from m s t [] up values holds here_in = refl
all_found from m s t (p ∷ ps) up values holds here_in =
    let one : vnode_by (image_in p.0 (images_since from s)) p.0 p.1.unique t ≡ Some (p.1, or_zero (get p.0 s.times)) =
    ap (λ (o : Option Image). vnode_by o p.0 p.1.unique t) (image_found from p.0 m s.times s.volume.vnodes up ∙ ap (image_for from s.times p.0) here_in.0)
    ∙ found_since from p.0 s t p.1 (nat_lt from p.1.changed) refl (values p.0 p.1 here_in.0) (holds p.0 p.1 here_in.0) in
    rw (one, all_found from m s t ps up values holds here_in.1) refl

-- ---- the tables

vnodes_back : (anew : Bool) (s : Stored) (ps : Table Vnode) → vnodes_in anew (map (with_time s) ps) ≡ reindexed anew ps
unfolding with_time
vnodes_back anew s [] = refl
vnodes_back anew s (p ∷ ps) = ap (λ (t : Table Vnode). (p.0, indexed anew p.1) ∷ t) (vnodes_back anew s ps)

times_back : (s : Stored) (ps : Table Vnode) → times_in (map (with_time s) ps) ≡ map (λ (p : ℕ × Vnode). (p.0, or_zero (get p.0 s.times))) ps
unfolding with_time
times_back s [] = refl
times_back s (p ∷ ps) = ap (λ (t : Table ℕ). (p.0, or_zero (get p.0 s.times)) ∷ t) (times_back s ps)

pub reindexed_none : (t : Table Vnode) → reindexed false t ≡ t
reindexed_none [] = refl
reindexed_none (p ∷ ps) = ap (λ (t : Table Vnode). p ∷ t) (reindexed_none ps)

-- ---- soundness is a matter of vnodes, without their indexes, and of the next unique number

again_by : (anew : Bool) (p : ℕ × Vnode) (ps : Table Vnode) (n : ℕ) (b : Bool) → get n (reindexed anew ps) ≡ option_map (indexed anew) (get n ps) → cond b (Some (indexed anew p.1)) (get n (reindexed anew ps)) ≡ option_map (indexed anew) (cond b (Some p.1) (get n ps))
again_by anew p ps n true e = refl
again_by anew p ps n false e = e

get_again : (anew : Bool) (n : ℕ) (t : Table Vnode) → get n (reindexed anew t) ≡ option_map (indexed anew) (get n t)
get_again anew n [] = refl
get_again anew n (p ∷ ps) = again_by anew p ps n (nat_eq p.0 n) (get_again anew n ps)

same_length : (anew : Bool) (t : Table Vnode) → length (reindexed anew t) ≡ length t
same_length anew [] = refl
same_length anew (p ∷ ps) = ap suc (same_length anew ps)

all_same : {A : Type 0} (f g : A → Bool) (xs : List A) → ((x : A) → f x ≡ g x) → list_all f xs ≡ list_all g xs
all_same {A} f g [] h = refl
all_same {A} f g (x ∷ xs) h = ap (λ (b : Bool). b && list_all f xs) (h x) ∙ ap (λ (b : Bool). g x && b) (all_same f g xs h)

-- two volumes with the same next unique number, one with the other's vnodes under these indexes
pub record IsLike (anew : Bool) (w v : Volume) : Type 0 where
  pub next : w.next ≡ v.next
  pub vnodes : w.vnodes ≡ reindexed anew v.vnodes

like_get : (anew : Bool) (w v : Volume) (n : ℕ) → IsLike anew w v → get n w.vnodes ≡ option_map (indexed anew) (get n v.vnodes)
like_get anew w v n like = ap (get n) like.vnodes ∙ get_again anew n v.vnodes

held_same : (anew : Bool) (d u n : ℕ) (o : Option Vnode) (name : Name) → gives_held d u n (option_map (indexed anew) o) name ≡ gives_held d u n o name
held_same anew d u n None name = refl
held_same true d u n (Some x) name = refl
held_same false d u n (Some x) name = refl

gives_same : (anew : Bool) (w v : Volume) (d u : ℕ) (name : Name) → IsLike anew w v → gives_one w d u name ≡ gives_one v d u name
gives_same anew w v d u name like = ap (λ (o : Option Vnode). gives_held d u name.vnode o name) (like_get anew w v name.vnode like) ∙ held_same anew d u name.vnode (get name.vnode v.vnodes) name

named_same : (anew : Bool) (o : Option Vnode) (n : ℕ) (x : Vnode) → is_named_in (option_map (indexed anew) o) n (indexed anew x) ≡ is_named_in o n x
named_same anew None n x = refl
named_same true (Some d) n x = refl
named_same false (Some d) n x = refl

leads_same : (anew : Bool) (fuel n top : ℕ) (w v : Volume) (o : Option Vnode) → IsLike anew w v → leads_up fuel n top w (option_map (indexed anew) o) ≡ leads_up fuel n top v o
leads_same anew zero n top w v o like = refl
leads_same anew (suc fuel) n top w v None like = refl
leads_same true (suc fuel) n top w v (Some x) like = ap (λ (b : Bool). nat_eq n top || b) (ap (λ (p : Option Vnode). leads_up fuel x.parent top w p) (like_get true w v x.parent like) ∙ leads_same true fuel x.parent top w v (get x.parent v.vnodes) like)
leads_same false (suc fuel) n top w v (Some x) like = ap (λ (b : Bool). nat_eq n top || b) (ap (λ (p : Option Vnode). leads_up fuel x.parent top w p) (like_get false w v x.parent like) ∙ leads_same false fuel x.parent top w v (get x.parent v.vnodes) like)

below_same : (anew : Bool) (n top : ℕ) (w v : Volume) → IsLike anew w v → is_below n top w ≡ is_below n top v
below_same anew n top w v like =
    ap (λ (k : ℕ). leads_up k n top w (get n w.vnodes)) (ap length like.vnodes ∙ same_length anew v.vnodes)
    ∙ (ap (λ (o : Option Vnode). leads_up (length v.vnodes) n top w o) (like_get anew w v n like) ∙ leads_same anew (length v.vnodes) n top w v (get n v.vnodes) like)

placed_same : (anew : Bool) (w v : Volume) (n : ℕ) (x : Vnode) → IsLike anew w v → is_placed w n (indexed anew x) ≡ is_placed v n x
placed_same true w v n x like =
    ap (λ (b : Bool). b && is_below n 1 w) (ap (λ (o : Option Vnode). is_named_in o n (indexed true x)) (like_get true w v x.parent like) ∙ named_same true (get x.parent v.vnodes) n x)
    ∙ ap (λ (b : Bool). is_named_in (get x.parent v.vnodes) n x && b) (below_same true n 1 w v like)
placed_same false w v n x like =
    ap (λ (b : Bool). b && is_below n 1 w) (ap (λ (o : Option Vnode). is_named_in o n (indexed false x)) (like_get false w v x.parent like) ∙ named_same false (get x.parent v.vnodes) n x)
    ∙ ap (λ (b : Bool). is_named_in (get x.parent v.vnodes) n x && b) (below_same false n 1 w v like)

by_kind_same : (k : VnodeKind) (x : Vnode) → has_by_kind k (indexed true x) ≡ has_by_kind k x
by_kind_same a_file x = refl
by_kind_same a_directory x = refl
by_kind_same a_link x = refl

vnode_same : (anew : Bool) (w v : Volume) (n : ℕ) (x : Vnode) → IsLike anew w v → is_sound_vnode w n (indexed anew x) ≡ is_sound_vnode v n x
vnode_same true w v n x like =
    ap (λ (b : Bool). kind_is_right n x.kind && (nat_lt x.unique w.next && (b && (list_all (gives_one w n x.unique) x.names && (nat_eq n 1 || is_placed w n (indexed true x)))))) (by_kind_same x.kind x)
    ∙ (ap (λ (k : ℕ). kind_is_right n x.kind && (nat_lt x.unique k && (has_by_kind x.kind x && (list_all (gives_one w n x.unique) x.names && (nat_eq n 1 || is_placed w n (indexed true x)))))) like.next
    ∙ (ap (λ (b : Bool). kind_is_right n x.kind && (nat_lt x.unique v.next && (has_by_kind x.kind x && (b && (nat_eq n 1 || is_placed w n (indexed true x)))))) (all_same (gives_one w n x.unique) (gives_one v n x.unique) x.names (λ name. gives_same true w v n x.unique name like))
    ∙ ap (λ (b : Bool). kind_is_right n x.kind && (nat_lt x.unique v.next && (has_by_kind x.kind x && (list_all (gives_one v n x.unique) x.names && (nat_eq n 1 || b))))) (placed_same true w v n x like)))
vnode_same false w v n x like =
    ap (λ (b : Bool). kind_is_right n x.kind && (nat_lt x.unique w.next && (b && (list_all (gives_one w n x.unique) x.names && (nat_eq n 1 || is_placed w n (indexed false x)))))) refl
    ∙ (ap (λ (k : ℕ). kind_is_right n x.kind && (nat_lt x.unique k && (has_by_kind x.kind x && (list_all (gives_one w n x.unique) x.names && (nat_eq n 1 || is_placed w n (indexed false x)))))) like.next
    ∙ (ap (λ (b : Bool). kind_is_right n x.kind && (nat_lt x.unique v.next && (has_by_kind x.kind x && (b && (nat_eq n 1 || is_placed w n (indexed false x)))))) (all_same (gives_one w n x.unique) (gives_one v n x.unique) x.names (λ name. gives_same false w v n x.unique name like))
    ∙ ap (λ (b : Bool). kind_is_right n x.kind && (nat_lt x.unique v.next && (has_by_kind x.kind x && (list_all (gives_one v n x.unique) x.names && (nat_eq n 1 || b))))) (placed_same false w v n x like)))

vnodes_same : (anew : Bool) (w v : Volume) (ps : Table Vnode) → IsLike anew w v → list_all (λ (p : ℕ × Vnode). is_sound_vnode w p.0 p.1) (reindexed anew ps) ≡ list_all (λ (p : ℕ × Vnode). is_sound_vnode v p.0 p.1) ps
vnodes_same anew w v [] like = refl
vnodes_same anew w v (p ∷ ps) like =
    ap (λ (b : Bool). b && list_all (λ (q : ℕ × Vnode). is_sound_vnode w q.0 q.1) (reindexed anew ps)) (vnode_same anew w v p.0 p.1 like)
    ∙ ap (λ (b : Bool). is_sound_vnode v p.0 p.1 && b) (vnodes_same anew w v ps like)

root_same : (anew : Bool) (o : Option Vnode) → is_root (option_map (indexed anew) o) ≡ is_root o
root_same anew None = refl
root_same true (Some x) = refl
root_same false (Some x) = refl

ascends_same : (anew : Bool) (n : ℕ) (t : Table Vnode) → ascends_from n (reindexed anew t) ≡ ascends_from n t
ascends_same anew n [] = refl
ascends_same anew n (p ∷ ps) = ap (λ (b : Bool). not (nat_lt p.0 n) && b) (ascends_same anew (p.0 + 1) ps)

pub sound_same : (anew : Bool) (w v : Volume) → IsLike anew w v → is_sound w ≡ is_sound v
unfolding is_sound
sound_same anew w v like =
    ap (λ (b : Bool). b && (ascends_from 1 w.vnodes && list_all (λ (p : ℕ × Vnode). is_sound_vnode w p.0 p.1) w.vnodes)) (ap is_root (like_get anew w v 1 like) ∙ root_same anew (get 1 v.vnodes))
    ∙ (ap (λ (b : Bool). is_root (get 1 v.vnodes) && (b && list_all (λ (p : ℕ × Vnode). is_sound_vnode w p.0 p.1) w.vnodes)) (ap (ascends_from 1) like.vnodes ∙ ascends_same anew 1 v.vnodes)
    ∙ ap (λ (b : Bool). is_root (get 1 v.vnodes) && (ascends_from 1 v.vnodes && b)) (ap (list_all (λ (p : ℕ × Vnode). is_sound_vnode w p.0 p.1)) like.vnodes ∙ vnodes_same anew w v v.vnodes like))

-- ---- what is restored

may_stand : (s : Stored) → length s.volume.vnodes ≤ most_vnodes → is_sound s.volume ≡ true → allowed s ≡ Some s
may_stand s few sound = rw (le-ltb most_vnodes (length s.volume.vnodes) few, sound) refl

pub restored_is : DumpsAreRestored
restored_is id source from s t can holds =
    let d : Dump = dump_of source from s in
    let anew : Bool = is_other_family id t d in
    let values : (n : ℕ) (x : Vnode) → get n s.volume.vnodes ≡ Some x → value_of (image_of n (or_zero (get n s.times)) x) ≡ Some x = λ n x e. value_back n (or_zero (get n s.times)) x (can.sound.vnodes n x e).body (can.images n x e).names in
    let found : restored_vnodes d.live d.images t ≡ Some (map (with_time s) s.volume.vnodes) =
    all_found from 1 s t s.volume.vnodes can.sound.ascending values holds (are_in 1 s.volume.vnodes s.volume.vnodes can.sound.ascending (λ k x e. e)) in
    let made : stored_with id t d (map (with_time s) s.volume.vnodes) ≡ with_content anew t s =
    ap (λ (ns : Table Vnode). record t { volume = record t.volume { quota = s.volume.quota; next = s.volume.next; counter = s.volume.counter; release = s.volume.release; vnodes = ns }; times = times_in (map (with_time s) s.volume.vnodes) }) (vnodes_back anew s s.volume.vnodes)
    ∙ ap (λ (ts : Table ℕ). record t { volume = record t.volume { quota = s.volume.quota; next = s.volume.next; counter = s.volume.counter; release = s.volume.release; vnodes = reindexed anew s.volume.vnodes }; times = ts }) (times_back s s.volume.vnodes ∙ sym can.times) in
    let sound : is_sound (with_content anew t s).volume ≡ true = sound_same anew (with_content anew t s).volume s.volume (record { next = refl; vnodes = refl }) ∙ passes s.volume can.sound in
    ap (allowed_with id t d) found
    ∙ (ap allowed made ∙ may_stand (with_content anew t s) (omega (arith, same_length anew s.volume.vnodes, can.few)) sound)

pub full_needs_nothing : FullDumpsNeedNothing
full_needs_nothing s t counted_s = λ n x e. inl (omega (arith, counted_s n x e))

pub copies_hold : CopiesHold
copies_hold = record {
  cloned = λ from name kind release c s holds. holds;
  recloned = λ from clone release c s holds. holds;
  restored = λ from t c s holds n x e. subst (λ (vs : Table Vnode). (from < x.changed) ⊎ ((get n vs ≡ Some x) × (or_zero (get n c.times) ≡ or_zero (get n s.times)))) (sym (reindexed_none c.volume.vnodes)) (holds n x e);
}

pub increments_follow : IncrementsFollow
increments_follow id copied source t c s can_c counted_c can_s holds same same_again =
    let from : ℕ = c.volume.counter in
    let u : Stored = with_content false t c in
    let first : restored id t (dump_of copied 0 c) ≡ Some u =
    restored_is id copied 0 c t can_c (full_needs_nothing c t counted_c) ∙ ap (λ (b : Bool). Some (with_content b t c)) same in
    let second : restored id u (dump_of source from s) ≡ Some (with_content false t s) =
    restored_is id source from s u can_s (copies_hold.restored from t c s holds) ∙ ap (λ (b : Bool). Some (with_content b u s)) same_again in
    (u, (first, second))

-- with the same vnodes and the same next unique number
like_itself : (w v : Volume) → w.next ≡ v.next → w.vnodes ≡ v.vnodes → IsLike false w v
like_itself w v next vnodes = record { next = next; vnodes = vnodes ∙ sym (reindexed_none v.vnodes) }

pub clones_sound : ClonesAreSound
clones_sound = record {
  cloned = λ name kind release s. sound_same false (cloned name kind release s).volume s.volume (like_itself (cloned name kind release s).volume s.volume refl refl);
  recloned = λ clone release s. sound_same false (recloned clone release s).volume s.volume (like_itself (recloned clone release s).volume s.volume refl refl);
}
