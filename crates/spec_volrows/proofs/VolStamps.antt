-- A stored stamp never falls, and each transaction has the stored stamp of its family.
use Rattle.std.proofs.Common.{◌≡◌, ℕ, ◌+◌, ◌≤◌, ◌<◌, Bool, true, false, cond, List, [], ◌∷◌, ◌++◌, Option, Some, None, Result, Ok, Err, nat_eq, nat_lt, refl, sym, ap, subst, ◌∙◌, arith, eqb-true, eq-eqb}
use Rattle.std.specs.Prelude.{⊤, not, ◌||◌, length}
use Rattle.std.proofs.lemmas.Bool.Decides.{nat_tests}
use Rattle.afs_num.specs.declared.types.Head.{Head}
use Rattle.afs_num.specs.declared.volume_calls.VolCall.{VolCall}
use Rattle.afs_num.specs.declared.volume_calls.VolCall.TheVariants as calls
use Rattle.afs_num.specs.declared.records.RecordBody.{RecordBody}
use Rattle.afs_num.specs.declared.records.RecordBody.TheVariants as bodies
use Rattle.spec_ideal.specs.Operations.{is_last_count}
use Rattle.spec_ideal.specs.Tables.{Table, get, set, unset}
use Rattle.spec_ideal.proofs.Tables.{get_set}
use Rattle.spec_dumps.specs.Restores.{fed, restored_from}
use Rattle.spec_fold.specs.Deeds.{clone_put, done_by, flagged, has_volume, has_volume_room, on_stored, or_as_was, clone_made}
use Rattle.spec_records.specs.Durable.{Durable, Stored, has_room, or_zero, stamp_of, with_stamp}
use Rattle.spec_records.specs.Records.{most_dump}
use Rattle.spec_volrows.proofs.Deciding.{each_decision}
use Rattle.spec_volrows.specs.VolLaws.{AreStamped, KeepsStamps, StampsStand, StandsAfter}
use Rattle.spec_volrows.specs.VolRow.{After, Plan, Verdict, accepted, bad_dump, begins, begins_on, clones_anew, dumps_piece, ends, family_of, found, gave, gives, in_its_volume, in_transaction, volume_held_code, is_held_by_other, is_there_already, last_after, no_room_left, part_given, refused, sends, stay, transactions_after, refused_where, verdict, volume_of_family, whole_given, without_family}
use Rattle.spec_volrows.specs.VolStates.{Transaction}
use Rattle.spec_volrows.specs.VolSteps.{Deed, VolDecision, deed_head, deed_record, judged_by, not_written, or_stamp, raised_by, same_by, same_written, saves, vol_refusal, vol_reply, when_full}

-- ---- what a verdict begins has the call's family and stamp

Begins : ℕ → ℕ → After → Type 0
Begins family stamp (begins id f flags s) = (f ≡ family) × (s ≡ stamp)
Begins family stamp stay = ⊤
Begins family stamp (ends number) = ⊤
Begins family stamp (gives number bytes) = ⊤

BeginsNone : After → Type 0
BeginsNone (begins id f flags s) = ⊥
BeginsNone stay = ⊤
BeginsNone (ends number) = ⊤
BeginsNone (gives number bytes) = ⊤

BeginsOwn : ℕ → ℕ → Verdict → Type 0
BeginsOwn family stamp (refused code after) = BeginsNone after
BeginsOwn family stamp (accepted p) = Begins family stamp p.after
BeginsOwn family stamp (sends x) = ⊤

unless_own : (f s : ℕ) (b : Bool) (code : ℕ) (v : Verdict) → BeginsOwn f s v → BeginsOwn f s (refused_where b code v)
unfolding BeginsOwn Begins BeginsNone
unless_own f s true code v h = tt
unless_own f s false code v h = h

long_own : (f s : ℕ) (b : Bool) (number : ℕ) (v : Verdict) → BeginsOwn f s v → BeginsOwn f s (cond b (refused no_room_left (gives number [])) v)
unfolding BeginsOwn Begins BeginsNone
long_own f s true number v h = tt
long_own f s false number v h = h

volume_own : (f s : ℕ) (t : Transaction) (g : Transaction → Stored → Verdict) (o : Option Stored) → ((x : Stored) → BeginsOwn f s (g t x)) → BeginsOwn f s (in_its_volume t g o)
unfolding BeginsOwn Begins BeginsNone
volume_own f s t g None h = tt
volume_own f s t g (Some x) h = h x

in_own : (f s : ℕ) (d : Durable) (o : Option Transaction) (g : Transaction → Stored → Verdict) → ((t : Transaction) (x : Stored) → BeginsOwn f s (g t x)) → BeginsOwn f s (in_transaction d o g)
unfolding BeginsOwn Begins BeginsNone
in_own f s d None g h = tt
in_own f s d (Some t) g h = volume_own f s t g (get t.volume d.volumes) (h t)

whole_own : (f s number id : ℕ) (bytes : List ℕ) (r : Result Stored ℕ) → BeginsOwn f s (whole_given number id bytes r)
unfolding BeginsOwn Begins BeginsNone
whole_own f s number id bytes (Ok x) = tt
whole_own f s number id bytes (Err e) = tt

part_own : (f s number : ℕ) (bytes : List ℕ) (o : Option ℕ) → BeginsOwn f s (part_given number bytes o)
unfolding BeginsOwn Begins BeginsNone
part_own f s number bytes None = tt
part_own f s number bytes (Some e) = tt

piece_own : (f s : ℕ) (b : Bool) (number id : ℕ) (bytes : List ℕ) (r : Result Stored ℕ) → BeginsOwn f s (cond b (part_given number bytes (fed bytes)) (whole_given number id bytes r))
piece_own f s true number id bytes r = part_own f s number bytes (fed bytes)
piece_own f s false number id bytes r = whole_own f s number id bytes r

on_own : (f s : ℕ) (ts : Table Transaction) (last id flags : ℕ) (o : Option Stored) → BeginsOwn f s (begins_on ts last s f id flags o)
unfolding BeginsOwn Begins BeginsNone
on_own f s ts last id flags None = tt
on_own f s ts last id flags (Some x) = unless_own f s (is_held_by_other 0 id ts) volume_held_code _ (refl, refl)

anew_own : (f s number : ℕ) (ts : Table Transaction) (id : ℕ) (t : Transaction) (x : Stored) (o : Option Stored) → BeginsOwn f s (clones_anew number ts id t x o)
unfolding BeginsOwn Begins BeginsNone
anew_own f s number ts id t x None = tt
anew_own f s number ts id t x (Some old) = unless_own f s (is_held_by_other number id ts) volume_held_code _ (unless_own f s (is_last_count x.volume.release) no_room_left _ tt)

dumps_own : (f s offset : ℕ) (bytes : List ℕ) → BeginsOwn f s (dumps_piece offset bytes)
unfolding BeginsOwn Begins BeginsNone
dumps_own f s offset bytes = unless_own f s (nat_lt (length bytes) offset) bad_dump _ tt

verdict_own : (d : Durable) (ts : Table Transaction) (last stamp : ℕ) (call : VolCall) → BeginsOwn (family_of call) stamp (verdict d ts last stamp call)
unfolding BeginsOwn Begins BeginsNone
verdict_own d ts last stamp (calls.CreateVolume family id name kind flags quota) =
    unless_own family stamp (has_volume id d) is_there_already _ (unless_own family stamp (not (has_volume_room d)) no_room_left _ (refl, refl))
verdict_own d ts last stamp (calls.DeleteVolume family number) = in_own family stamp d (found family number ts) _ (λ t x. tt)
verdict_own d ts last stamp (calls.Restore family number offset final piece) =
    in_own family stamp d (found family number ts) _ (λ t x. unless_own family stamp (not (nat_eq offset (length t.given))) bad_dump _ (long_own family stamp (nat_lt most_dump (length (t.given ++ piece))) number _ (piece_own family stamp (nat_eq final 0) number t.volume (t.given ++ piece) (restored_from t.volume x (t.given ++ piece)))))
verdict_own d ts last stamp (calls.Forward family number from server target) = in_own family stamp d (found family number ts) _ (λ t x. tt)
verdict_own d ts last stamp (calls.EndTrans family number) = in_own family stamp d (found family number ts) _ (λ t x. tt)
verdict_own d ts last stamp (calls.Clone family number id name kind) =
    unless_own family stamp (has_volume id d) is_there_already _ (in_own family stamp d (found family number ts) _ (λ t x. unless_own family stamp (not (has_volume_room d) || is_last_count x.volume.release) no_room_left _ tt))
verdict_own d ts last stamp (calls.SetFlags family number flags) = in_own family stamp d (found family number ts) _ (λ t x. tt)
verdict_own d ts last stamp (calls.GetFlags family number) = in_own family stamp d (found family number ts) _ (λ t x. tt)
verdict_own d ts last stamp (calls.TransCreate family id flags) = on_own family stamp ts last id flags (volume_of_family family (get id d.volumes))
verdict_own d ts last stamp (calls.Dump family number from offset) = in_own family stamp d (found family number ts) _ (λ t x. dumps_own family stamp offset _)
verdict_own d ts last stamp (calls.SetForwarding family number server) = in_own family stamp d (found family number ts) _ (λ t x. tt)
verdict_own d ts last stamp (calls.GetStatus family number) = in_own family stamp d (found family number ts) _ (λ t x. tt)
verdict_own d ts last stamp (calls.ListVols family) = tt
verdict_own d ts last stamp (calls.ReClone family number id) = in_own family stamp d (found family number ts) _ (λ t x. anew_own family stamp number ts id t x (volume_of_family family (get id d.volumes)))

-- ---- transactions that have the stamp of their family, by any stamps

Has : (ℕ → ℕ) → ℕ × Transaction → Type 0
Has stamps p = p.1.stamp ≡ stamps p.1.family

set_by : (stamps : ℕ → ℕ) (a b : Bool) (n : ℕ) (x : Transaction) (p : ℕ × Transaction) (ps : Table Transaction) → x.stamp ≡ stamps x.family → p.1.stamp ≡ stamps p.1.family → AreStamped stamps ps → AreStamped stamps (set n x ps) → AreStamped stamps (cond a ((n, x) ∷ ps) (cond b ((n, x) ∷ p ∷ ps) (p ∷ set n x ps)))
set_by stamps true b n x p ps h k all later = (h, all)
set_by stamps false true n x p ps h k all later = (h, (k, all))
set_by stamps false false n x p ps h k all later = (k, later)

all_set : (stamps : ℕ → ℕ) (n : ℕ) (x : Transaction) (t : Table Transaction) → x.stamp ≡ stamps x.family → AreStamped stamps t → AreStamped stamps (set n x t)
all_set stamps n x [] h all = (h, tt)
all_set stamps n x (p ∷ ps) h all = set_by stamps (nat_eq p.0 n) (nat_lt n p.0) n x p ps h all.0 all.1 (all_set stamps n x ps h all.1)

filter_by : (stamps : ℕ → ℕ) (b : Bool) (p : ℕ × Transaction) (rest : Table Transaction) → p.1.stamp ≡ stamps p.1.family → AreStamped stamps rest → AreStamped stamps (cond b (p ∷ rest) rest)
filter_by stamps true p rest h all = (h, all)
filter_by stamps false p rest h all = all

all_unset : (stamps : ℕ → ℕ) (n : ℕ) (t : Table Transaction) → AreStamped stamps t → AreStamped stamps (unset n t)
all_unset stamps n [] all = tt
all_unset stamps n (p ∷ ps) all = filter_by stamps (not (nat_eq p.0 n)) p (unset n ps) all.0 (all_unset stamps n ps all.1)

get_by : (stamps : ℕ → ℕ) (b : Bool) (p : ℕ × Transaction) (o : Option Transaction) (t : Transaction) → p.1.stamp ≡ stamps p.1.family → (o ≡ Some t → t.stamp ≡ stamps t.family) → cond b (Some p.1) o ≡ Some t → t.stamp ≡ stamps t.family
get_by stamps true p o t h later e = let same : p.1 ≡ t = cc in subst (λ (x : Transaction). x.stamp ≡ stamps x.family) same h
get_by stamps false p o t h later e = later e

all_get : (stamps : ℕ → ℕ) (n : ℕ) (ts : Table Transaction) (t : Transaction) → AreStamped stamps ts → get n ts ≡ Some t → t.stamp ≡ stamps t.family
all_get stamps n [] t all e = absurd cc
all_get stamps n (p ∷ ps) t all e = get_by stamps (nat_eq p.0 n) p (get n ps) t all.0 (all_get stamps n ps t all.1) e

gave_all : (stamps : ℕ → ℕ) (number : ℕ) (bytes : List ℕ) (o : Option Transaction) (ts : Table Transaction) → AreStamped stamps ts → ((t : Transaction) → o ≡ Some t → t.stamp ≡ stamps t.family) → AreStamped stamps (gave number bytes o ts)
gave_all stamps number bytes None ts all h = all
gave_all stamps number bytes (Some t) ts all h = all_set stamps number (record t { given = bytes }) ts (h t refl) all

after_all : (stamps : ℕ → ℕ) (family stamp last : ℕ) (after : After) (ts : Table Transaction) → stamp ≡ stamps family → Begins family stamp after → AreStamped stamps ts → AreStamped stamps (transactions_after last after ts)
unfolding Begins
after_all stamps family stamp last stay ts own h all = all
after_all stamps family stamp last (begins id f flags s) ts own h all =
    all_set stamps (last + 1) (record { volume = id; family = f; flags = flags; stamp = s; given = [] }) ts (h.1 ∙ (own ∙ ap stamps (sym h.0))) all
after_all stamps family stamp last (ends number) ts own h all = all_unset stamps number ts all
after_all stamps family stamp last (gives number bytes) ts own h all = gave_all stamps number bytes (get number ts) ts all (λ t e. all_get stamps number ts t all e)

full_none : (after : After) → BeginsNone (when_full after)
unfolding BeginsNone
full_none stay = tt
full_none (begins id f flags s) = tt
full_none (ends number) = tt
full_none (gives number bytes) = tt

none_own : (family stamp : ℕ) (after : After) → BeginsNone after → Begins family stamp after
unfolding Begins BeginsNone
none_own family stamp stay h = tt
none_own family stamp (begins id f flags s) h = absurd h
none_own family stamp (ends number) h = tt
none_own family stamp (gives number bytes) h = tt

none_all : (stamps : ℕ → ℕ) (last : ℕ) (after : After) (ts : Table Transaction) → BeginsNone after → AreStamped stamps ts → AreStamped stamps (transactions_after last after ts)
none_all stamps last after ts none all = after_all stamps 0 (stamps 0) last after ts refl (none_own 0 (stamps 0) after none) all

-- those of other families don't see a new stamp
others_by : (b : Bool) (old new : ℕ → ℕ) (family : ℕ) (p : ℕ × Transaction) (rest : Table Transaction) → nat_eq p.1.family family ≡ b → p.1.stamp ≡ old p.1.family → ((f : ℕ) → nat_eq f family ≡ false → old f ≡ new f) → AreStamped new rest → AreStamped new (cond (not b) (p ∷ rest) rest)
others_by true old new family p rest is h same all = all
others_by false old new family p rest is h same all = (h ∙ same p.1.family is, all)

others_all : (old new : ℕ → ℕ) (family : ℕ) (ts : Table Transaction) → ((f : ℕ) → nat_eq f family ≡ false → old f ≡ new f) → AreStamped old ts → AreStamped new (without_family family ts)
others_all old new family [] same all = tt
others_all old new family (p ∷ ps) same all = others_by (nat_eq p.1.family family) old new family p (without_family family ps) refl all.0 same (others_all old new family ps same all.1)

-- ---- what a record does to the stamps

stored_stamps : (id : ℕ) (f : Stored → Stored) (o : Option Stored) (d : Durable) → (on_stored id f o d).stamps ≡ d.stamps
stored_stamps id f None d = refl
stored_stamps id f (Some s) d = refl

put_stamps : (source id : ℕ) (name : List ℕ) (kind release : ℕ) (s : Stored) (o : Option Stored) (d : Durable) → (clone_put source id name kind release s o d).stamps ≡ d.stamps
put_stamps source id name kind release s None d = refl
put_stamps source id name kind release s (Some old) d = refl

clone_stamps : (source id : ℕ) (name : List ℕ) (kind release : ℕ) (o : Option Stored) (d : Durable) → (clone_made source id name kind release o d).stamps ≡ d.stamps
clone_stamps source id name kind release None d = refl
clone_stamps source id name kind release (Some s) d = put_stamps source id name kind release s (get id d.volumes) d

done_stamps : (body : RecordBody) (d : Durable) → (done_by body d).stamps ≡ d.stamps
done_stamps (bodies.First volumes) d = refl
done_stamps (bodies.Change id counter unique vnodes removed) d = refl
done_stamps (bodies.Boot boot) d = refl
done_stamps (bodies.Create id family name kind flags quota is_new) d = refl
done_stamps (bodies.Delete id) d = refl
done_stamps (bodies.Clone source id name kind release) d = clone_stamps source id name kind release (get source d.volumes) d
done_stamps (bodies.Restore id dump) d = stored_stamps id (λ s. or_as_was s (restored_from id s dump)) (get id d.volumes) d
done_stamps (bodies.Flags id flags) d = stored_stamps id (flagged flags) (get id d.volumes) d
done_stamps (bodies.Forward id to) d = refl
done_stamps bodies.Stamp d = refl

-- where none is raised
same_stamps : (body : RecordBody) (d : Durable) (f : ℕ) → or_zero (get f (done_by body d).stamps) ≡ stamp_of f d
same_stamps body d f = ap (λ (t : Table ℕ). or_zero (get f t)) (done_stamps body d)

-- where one is
raised_put : (b : Bool) (family stamp f : ℕ) (t : Table ℕ) → nat_eq family f ≡ b → or_zero (get f (set family stamp t)) ≡ cond b stamp (or_zero (get f t))
raised_put true family stamp f t e = ap or_zero (get_set f family stamp t) ∙ rw e refl
raised_put false family stamp f t e = ap or_zero (get_set f family stamp t) ∙ rw e refl

not_equal : (a b : ℕ) → nat_eq a b ≡ false → nat_eq b a ≡ false
not_equal a b e = grind (arith, nat_tests, e)

raised_stamp : (family stamp f : ℕ) (e : Durable) → nat_eq stamp 0 ≡ false → (b : Bool) → nat_eq family f ≡ b → stamp_of f (cond (nat_eq stamp 0) e (record e { stamps = set family stamp e.stamps })) ≡ cond b stamp (stamp_of f e)
raised_stamp family stamp f e some b is = rw some (raised_put b family stamp f e.stamps is)

-- ---- decisions

all_same : (old new : ℕ → ℕ) (ts : Table Transaction) → ((f : ℕ) → new f ≡ old f) → AreStamped old ts → AreStamped new ts
all_same old new [] same all = tt
all_same old new (p ∷ ps) same all = (all.0 ∙ sym (same p.1.family), all_same old new ps same all.1)

written_by : (b : Bool) (d : Durable) (head : Head) (x : Deed) (full : VolDecision) → StandsAfter d head x → KeepsStamps d full → KeepsStamps d (cond b (saves head x) full)
written_by true d head x full h k = h
written_by false d head x full h k = k

full_keeps : (d : Durable) (boot : ℕ) (head : Head) (ts : Table Transaction) (last f s : ℕ) (v : Verdict) → BeginsOwn f s v → AreStamped (λ (f : ℕ). stamp_of f d) ts → KeepsStamps d (not_written boot head ts last v)
unfolding BeginsOwn
full_keeps d boot head ts last f s (refused code after) own all = none_all (λ (f : ℕ). stamp_of f d) last after ts own all
full_keeps d boot head ts last f s (accepted p) own all = none_all (λ (f : ℕ). stamp_of f d) last (when_full p.after) ts (full_none p.after) all
full_keeps d boot head ts last f s (sends x) own all = all

same_after : (d : Durable) (head : Head) (x : Deed) → x.stamp ≡ 0 → AreStamped (λ (f : ℕ). stamp_of f d) x.transactions → StandsAfter d head x
same_after d head x zero_stamp all =
    let same : (f : ℕ) → stamp_of f (with_stamp (deed_head head x) (done_by x.body d)) ≡ stamp_of f d = λ f. rw zero_stamp (same_stamps x.body d f) in
    record { transactions = all_same (λ (f : ℕ). stamp_of f d) _ x.transactions same all; stamps = λ f. let e = same f in grind (arith, e) }

same_keeps_body : (d : Durable) (head : Head) (ts : Table Transaction) (last f : ℕ) (p : Plan) (o : Option RecordBody) → head.stamp ≡ stamp_of f d → Begins f head.stamp p.after → AreStamped (λ (f : ℕ). stamp_of f d) ts → KeepsStamps d (same_written d head ts last p o)
unfolding BeginsOwn
same_keeps_body d head ts last f p None is own all = after_all (λ (f : ℕ). stamp_of f d) f head.stamp last p.after ts is own all
same_keeps_body d head ts last f p (Some body) is own all =
    let x : Deed = record {
      reply = vol_reply d.boot head p.reply;
      body = body;
      family = 0;
      stamp = 0;
      withdraws = p.withdraws;
      transactions = transactions_after last p.after ts;
      last = last_after last p.after;
    } in
    written_by (has_room d (deed_record head x)) d head x (not_written d.boot head ts last (accepted p))
    (same_after d head x refl (after_all (λ (f : ℕ). stamp_of f d) f head.stamp last p.after ts is own all))
    (full_keeps d d.boot head ts last f head.stamp (accepted p) own all)

same_keeps : (d : Durable) (head : Head) (ts : Table Transaction) (last f : ℕ) (v : Verdict) → head.stamp ≡ stamp_of f d → BeginsOwn f head.stamp v → AreStamped (λ (f : ℕ). stamp_of f d) ts → KeepsStamps d (same_by d head ts last v)
unfolding BeginsOwn
same_keeps d head ts last f (refused code after) is own all = none_all (λ (f : ℕ). stamp_of f d) last after ts own all
same_keeps d head ts last f (accepted p) is own all = same_keeps_body d head ts last f p p.body is own all
same_keeps d head ts last f (sends x) is own all = tt

-- a higher one
not_below_by : (b : Bool) (stamp old new : ℕ) → new ≡ cond b stamp old → old < stamp → old ≤ new
not_below_by true stamp old new e lt = grind (arith, e, lt)
not_below_by false stamp old new e lt = grind (arith, e)

higher_at : (b : Bool) (family stamp f : ℕ) (e d : Durable) → nat_eq family f ≡ b → nat_eq stamp 0 ≡ false → ((g : ℕ) → stamp_of g e ≡ stamp_of g d) → stamp_of family d < stamp → stamp_of f d ≤ stamp_of f (cond (nat_eq stamp 0) e (record e { stamps = set family stamp e.stamps }))
higher_at true family stamp f e d is some same lt =
    let new : stamp_of f (cond (nat_eq stamp 0) e (record e { stamps = set family stamp e.stamps })) ≡ stamp = raised_stamp family stamp f e some true is in
    let one : family ≡ f = eqb-true family f is in
    let old : stamp_of family d ≡ stamp_of f d = ap (λ (g : ℕ). stamp_of g d) one in
    grind (arith, new, old, lt)
higher_at false family stamp f e d is some same lt =
    let new : stamp_of f (cond (nat_eq stamp 0) e (record e { stamps = set family stamp e.stamps })) ≡ stamp_of f e = raised_stamp family stamp f e some false is in
    let old : stamp_of f e ≡ stamp_of f d = same f in
    grind (arith, new, old)

raised_after : (d : Durable) (head : Head) (x : Deed) (ts : Table Transaction) (last : ℕ) (after : After) → x.stamp ≡ head.stamp → x.transactions ≡ transactions_after last after (without_family x.family ts) → stamp_of x.family d < head.stamp →
    Begins x.family head.stamp after → AreStamped (λ (f : ℕ). stamp_of f d) ts → StandsAfter d head x
raised_after d head x ts last after is live lt own all =
    let e : Durable = done_by x.body d in
    let new : ℕ → ℕ = λ f. stamp_of f (with_stamp (deed_head head x) e) in
    let some : nat_eq x.stamp 0 ≡ false = grind (arith, nat_tests, is, lt) in
    let same : (g : ℕ) → stamp_of g e ≡ stamp_of g d = same_stamps x.body d in
    let other : (f : ℕ) → nat_eq f x.family ≡ false → stamp_of f d ≡ new f = λ f no. sym (raised_stamp x.family x.stamp f e some false (not_equal f x.family no) ∙ same f) in
    let here : head.stamp ≡ new x.family = sym (raised_stamp x.family x.stamp x.family e some true (eq-eqb x.family x.family refl) ∙ is) in
    record {
      transactions = subst (AreStamped new) (sym live) (after_all new x.family head.stamp last after (without_family x.family ts) here own (others_all (λ f. stamp_of f d) new x.family ts other all));
      stamps = λ f. higher_at (nat_eq x.family f) x.family x.stamp f e d refl some same (grind (arith, is, lt));
    }

raised_keeps : (d : Durable) (head : Head) (family : ℕ) (ts : Table Transaction) (last : ℕ) (v : Verdict) (full : VolDecision) → stamp_of family d < head.stamp → BeginsOwn family head.stamp v → AreStamped (λ (f : ℕ). stamp_of f d) ts → KeepsStamps d full
    → KeepsStamps d (raised_by d head family (without_family family ts) last v full)
unfolding BeginsOwn
raised_keeps d head family ts last (refused code after) full lt own all h =
    let x : Deed = record {
      reply = vol_refusal d.boot head code;
      body = bodies.Stamp;
      family = family;
      stamp = head.stamp;
      withdraws = None;
      transactions = transactions_after last after (without_family family ts);
      last = last_after last after;
    } in
    written_by (has_room d (deed_record head x)) d head x full (raised_after d head x ts last after refl refl lt (none_own family head.stamp after own) all) h
raised_keeps d head family ts last (accepted p) full lt own all h =
    let x : Deed = record {
      reply = vol_reply d.boot head p.reply;
      body = or_stamp p.body;
      family = family;
      stamp = head.stamp;
      withdraws = p.withdraws;
      transactions = transactions_after last p.after (without_family family ts);
      last = last_after last p.after;
    } in
    written_by (has_room d (deed_record head x)) d head x full (raised_after d head x ts last p.after refl refl lt own all) h
raised_keeps d head family ts last (sends x) full lt own all h = tt

judged_cases : (d : Durable) (a b : Bool) (x y z : VolDecision) → KeepsStamps d x → (b ≡ true → KeepsStamps d y) → (a ≡ false → b ≡ false → KeepsStamps d z) → KeepsStamps d (cond a x (cond b y z))
judged_cases d true b x y z h k l = h
judged_cases d false true x y z h k l = k refl
judged_cases d false false x y z h k l = l refl refl

below_tells : (a b : ℕ) → nat_lt a b ≡ true → a < b
below_tells a b e = grind (arith, nat_tests, e)

neither : (a b : ℕ) → nat_lt a b ≡ false → nat_lt b a ≡ false → a ≡ b
neither a b e f = grind (arith, nat_tests, e, f)

judged_keeps : (d : Durable) (head : Head) (ts : Table Transaction) (last : ℕ) (call : VolCall) → AreStamped (λ (f : ℕ). stamp_of f d) ts → KeepsStamps d (judged_by d head (family_of call) (stamp_of (family_of call) d) ts last call)
judged_keeps d head ts last call all =
    judged_cases d (nat_lt head.stamp (stamp_of (family_of call) d)) (nat_lt (stamp_of (family_of call) d) head.stamp) _ _ _ all
    (λ above. raised_keeps d head (family_of call) ts last (verdict d (without_family (family_of call) ts) last head.stamp call) (not_written d.boot head ts last (verdict d ts last head.stamp call)) (below_tells (stamp_of (family_of call) d) head.stamp above)
    (verdict_own d (without_family (family_of call) ts) last head.stamp call) all (full_keeps d d.boot head ts last (family_of call) head.stamp (verdict d ts last head.stamp call) (verdict_own d ts last head.stamp call) all))
    (λ e f. same_keeps d head ts last (family_of call) (verdict d ts last head.stamp call) (neither head.stamp (stamp_of (family_of call) d) e f) (verdict_own d ts last head.stamp call) all)

pub stamps_stand : StampsStand
stamps_stand me d v m all = each_decision (KeepsStamps d) me d v m (record {
  dropped = tt;
  told = λ head. tt;
  repeated = λ reply. tt;
  refused = λ head code. all;
  judged = λ head call. judged_keeps d head v.transactions v.last_transaction call all;
})
