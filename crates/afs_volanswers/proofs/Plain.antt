-- What verdicts have in common: a refusal has a positive word for a code, a transaction that begins has the flags of one, and there is at most
-- one more of them. Kept replies are nothing to a verdict.
use Rattle.std.proofs.Common.{◌≡◌, ◌≤◌, ◌<◌, ◌+◌, ◌^◌, inl, inr, ℕ, Bool, true, false, cond, List, [], ◌∷◌, ◌++◌, length, Option, Some, None, Result, Ok, Err, nat_eq, nat_lt, refl, ap, subst, arith, lit<}
use Rattle.std.specs.Prelude.{not, ◌||◌, filter}
use Rattle.afs_num.specs.declared.volume_calls.VolCall.{VolCall}
use Rattle.afs_num.specs.declared.volume_calls.VolCall.TheVariants as calls
use Rattle.spec_ideal.specs.Operations.{is_last_count}
use Rattle.spec_ideal.specs.Tables.{get, set, Table}
use Rattle.spec_dumps.specs.Restores.{fed, restored_from}
use Rattle.spec_fold.specs.Deeds.{has_volume, has_volume_room}
use Rattle.spec_records.specs.Durable.{Durable, Kept, Stored}
use Rattle.spec_records.specs.Records.{most_dump}
use Rattle.spec_volrows.specs.VolRow.{accepted, bad_dump, begins, begins_on, clones, clones_anew, dumps_piece, ends, found, gave, gives, in_its_volume, in_transaction, volume_held_code, is_held_by_other, is_of_other, is_there_already, no_room_left, part_given, refused, sends, stay, transactions_after, refused_where, verdict, volume_of_family, whole_given, without_family, After, Verdict}
use Rattle.spec_volrows.specs.VolStates.{Transaction}
use Rattle.afs_volanswers.specs.Flagged.{AreFlagged, IsHoldFlag}

-- ---- a verdict's code and flags

abbrev pub HasFlag : After → Type 0
HasFlag (begins id family flags stamp) = IsHoldFlag flags
HasFlag stay = Unit {0}
HasFlag (ends number) = Unit {0}
HasFlag (gives number bytes) = Unit {0}

abbrev pub IsPlain : Verdict → Type 0
IsPlain (refused code after) = code < 2 ^ 31
IsPlain (accepted p) = HasFlag p.after
IsPlain (sends x) = Unit {0}

unless_plain : (b : Bool) (code : ℕ) (v : Verdict) → code < 2 ^ 31 → IsPlain v → IsPlain (refused_where b code v)
unless_plain true code v low h = low
unless_plain false code v low h = h

long_plain : (b : Bool) (number : ℕ) (v : Verdict) → IsPlain v → IsPlain (cond b (refused no_room_left (gives number [])) v)
long_plain true number v h = lit< tt
long_plain false number v h = h

volume_plain : (t : Transaction) (f : Transaction → Stored → Verdict) (o : Option Stored) → ((s : Stored) → IsPlain (f t s)) → IsPlain (in_its_volume t f o)
volume_plain t f None h = lit< tt
volume_plain t f (Some s) h = h s

in_plain : (d : Durable) (o : Option Transaction) (f : Transaction → Stored → Verdict) → ((t : Transaction) (s : Stored) → IsPlain (f t s)) → IsPlain (in_transaction d o f)
in_plain d None f h = lit< tt
in_plain d (Some t) f h = volume_plain t f (get t.volume d.volumes) (h t)

whole_plain : (number id : ℕ) (bytes : List ℕ) (r : Result Stored ℕ) → IsPlain (whole_given number id bytes r)
whole_plain number id bytes (Ok s) = tt
whole_plain number id bytes (Err offset) = lit< tt

part_plain : (number : ℕ) (bytes : List ℕ) (o : Option ℕ) → IsPlain (part_given number bytes o)
part_plain number bytes None = tt
part_plain number bytes (Some offset) = lit< tt

piece_plain : (b : Bool) (number id : ℕ) (bytes : List ℕ) (r : Result Stored ℕ) → IsPlain (cond b (part_given number bytes (fed bytes)) (whole_given number id bytes r))
piece_plain true number id bytes r = part_plain number bytes (fed bytes)
piece_plain false number id bytes r = whole_plain number id bytes r

flag_plain : (b : Bool) → IsHoldFlag (cond b 2 1)
flag_plain true = inr refl
flag_plain false = inl refl

begins_plain : (ts : Table Transaction) (last stamp family id flags : ℕ) (o : Option Stored) → IsPlain (begins_on ts last stamp family id flags o)
begins_plain ts last stamp family id flags None = lit< tt
begins_plain ts last stamp family id flags (Some s) = unless_plain (is_held_by_other 0 id ts) volume_held_code _ (lit< tt) (flag_plain (nat_eq flags 2))

anew_plain : (number : ℕ) (ts : Table Transaction) (id : ℕ) (t : Transaction) (s : Stored) (o : Option Stored) → IsPlain (clones_anew number ts id t s o)
anew_plain number ts id t s None = lit< tt
anew_plain number ts id t s (Some old) = unless_plain (is_held_by_other number id ts) volume_held_code _ (lit< tt) (unless_plain (is_last_count s.volume.release) no_room_left _ (lit< tt) tt)

dumps_plain : (offset : ℕ) (bytes : List ℕ) → IsPlain (dumps_piece offset bytes)
dumps_plain offset bytes = unless_plain (nat_lt (length bytes) offset) bad_dump _ (lit< tt) tt

pub verdict_plain : (d : Durable) (ts : Table Transaction) (last stamp : ℕ) (call : VolCall) → IsPlain (verdict d ts last stamp call)
verdict_plain d ts last stamp (calls.CreateVolume family id name kind flags quota) =
    unless_plain (has_volume id d) is_there_already _ (lit< tt) (unless_plain (not (has_volume_room d)) no_room_left _ (lit< tt) (inl refl))
verdict_plain d ts last stamp (calls.DeleteVolume family number) = in_plain d (found family number ts) _ (λ t s. tt)
verdict_plain d ts last stamp (calls.Restore family number offset final piece) =
    in_plain d (found family number ts) _ (λ t s. unless_plain (not (nat_eq offset (length t.given))) bad_dump _ (lit< tt)
    (long_plain (nat_lt most_dump (length (t.given ++ piece))) number _ (piece_plain (nat_eq final 0) number t.volume (t.given ++ piece) (restored_from t.volume s (t.given ++ piece)))))
verdict_plain d ts last stamp (calls.Forward family number from server target) = in_plain d (found family number ts) _ (λ t s. tt)
verdict_plain d ts last stamp (calls.EndTrans family number) = in_plain d (found family number ts) _ (λ t s. tt)
verdict_plain d ts last stamp (calls.Clone family number id name kind) =
    unless_plain (has_volume id d) is_there_already _ (lit< tt) (in_plain d (found family number ts) _ (λ t s. unless_plain (not (has_volume_room d) || is_last_count s.volume.release) no_room_left _ (lit< tt) tt))
verdict_plain d ts last stamp (calls.SetFlags family number flags) = in_plain d (found family number ts) _ (λ t s. tt)
verdict_plain d ts last stamp (calls.GetFlags family number) = in_plain d (found family number ts) _ (λ t s. tt)
verdict_plain d ts last stamp (calls.TransCreate family id flags) = begins_plain ts last stamp family id flags (volume_of_family family (get id d.volumes))
verdict_plain d ts last stamp (calls.Dump family number from offset) = in_plain d (found family number ts) _ (λ t s. dumps_plain offset _)
verdict_plain d ts last stamp (calls.SetForwarding family number server) = in_plain d (found family number ts) _ (λ t s. tt)
verdict_plain d ts last stamp (calls.GetStatus family number) = in_plain d (found family number ts) _ (λ t s. tt)
verdict_plain d ts last stamp (calls.ListVols family) = tt
verdict_plain d ts last stamp (calls.ReClone family number id) = in_plain d (found family number ts) _ (λ t s. anew_plain number ts id t s (volume_of_family family (get id d.volumes)))

-- ---- what becomes of the transactions: their flags

set_by : (a b : Bool) (n : ℕ) (x : Transaction) (p : ℕ × Transaction) (ps : Table Transaction) → IsHoldFlag x.flags → IsHoldFlag p.1.flags → AreFlagged ps → AreFlagged (set n x ps) → AreFlagged (cond a ((n, x) ∷ ps) (cond b ((n, x) ∷ p ∷ ps) (p ∷ set n x ps)))
set_by true b n x p ps h k all later = (h, all)
set_by false true n x p ps h k all later = (h, (k, all))
set_by false false n x p ps h k all later = (k, later)

flagged_set : (n : ℕ) (x : Transaction) (ts : Table Transaction) → IsHoldFlag x.flags → AreFlagged ts → AreFlagged (set n x ts)
flagged_set n x [] h all = (h, tt)
flagged_set n x (p ∷ ps) h all = set_by (nat_eq p.0 n) (nat_lt n p.0) n x p ps h all.0 all.1 (flagged_set n x ps h all.1)

filter_by : (b : Bool) (p : ℕ × Transaction) (rest : Table Transaction) → IsHoldFlag p.1.flags → AreFlagged rest → AreFlagged (cond b (p ∷ rest) rest)
filter_by true p rest h all = (h, all)
filter_by false p rest h all = all

flagged_filter : (f : ℕ × Transaction → Bool) (ts : Table Transaction) → AreFlagged ts → AreFlagged (filter f ts)
flagged_filter f [] all = tt
flagged_filter f (p ∷ ps) all = filter_by (f p) p (filter f ps) all.0 (flagged_filter f ps all.1)

pub flagged_rest : (family : ℕ) (ts : Table Transaction) → AreFlagged ts → AreFlagged (without_family family ts)
flagged_rest family ts all = flagged_filter (is_of_other family) ts all

some_is : {A : Type 0} (x y : A) → ◌≡◌ {A = Option A} (Some x) (Some y) → x ≡ y
some_is {A} x y e = cc

get_by : (b : Bool) (p : ℕ × Transaction) (o : Option Transaction) (t : Transaction) → IsHoldFlag p.1.flags → (o ≡ Some t → IsHoldFlag t.flags) → cond b (Some p.1) o ≡ Some t → IsHoldFlag t.flags
get_by true p o t h later e = subst (λ (u : Transaction). IsHoldFlag u.flags) (some_is p.1 t e) h
get_by false p o t h later e = later e

flagged_get : (n : ℕ) (ts : Table Transaction) (t : Transaction) → AreFlagged ts → get n ts ≡ Some t → IsHoldFlag t.flags
flagged_get n [] t all e = absurd cc
flagged_get n (p ∷ ps) t all e = get_by (nat_eq p.0 n) p (get n ps) t all.0 (flagged_get n ps t all.1) e

flagged_gave : (number : ℕ) (bytes : List ℕ) (o : Option Transaction) (ts : Table Transaction) → get number ts ≡ o → AreFlagged ts → AreFlagged (gave number bytes o ts)
flagged_gave number bytes None ts is all = all
flagged_gave number bytes (Some t) ts is all = flagged_set number (record t { given = bytes }) ts (flagged_get number ts t all is) all

pub flagged_after : (last : ℕ) (after : After) (ts : Table Transaction) → HasFlag after → AreFlagged ts → AreFlagged (transactions_after last after ts)
flagged_after last stay ts h all = all
flagged_after last (begins id family flags stamp) ts h all = flagged_set (last + 1) (record { volume = id; family = family; flags = flags; stamp = stamp; given = [] }) ts h all
flagged_after last (ends number) ts h all = flagged_filter (λ (p : ℕ × Transaction). not (nat_eq p.0 number)) ts all
flagged_after last (gives number bytes) ts h all = flagged_gave number bytes (get number ts) ts refl all

-- ---- and how many they are

set_most_by : (a b : Bool) (n : ℕ) (x : Transaction) (p : ℕ × Transaction) (ps : Table Transaction) → length (set n x ps) ≤ length ps + 1 → length (cond a ((n, x) ∷ ps) (cond b ((n, x) ∷ p ∷ ps) (p ∷ set n x ps))) ≤ length (p ∷ ps) + 1
set_most_by true b n x p ps h = omega arith
set_most_by false true n x p ps h = omega arith
set_most_by false false n x p ps h = omega (arith, h)

set_most : (n : ℕ) (x : Transaction) (ts : Table Transaction) → length (set n x ts) ≤ length ts + 1
set_most n x [] = omega arith
set_most n x (p ∷ ps) = set_most_by (nat_eq p.0 n) (nat_lt n p.0) n x p ps (set_most n x ps)

filter_most_by : (b : Bool) (p : ℕ × Transaction) (ps rest : Table Transaction) → length rest ≤ length ps → length (cond b (p ∷ rest) rest) ≤ length (p ∷ ps)
filter_most_by true p ps rest h = omega (arith, h)
filter_most_by false p ps rest h = omega (arith, h)

filter_most : (f : ℕ × Transaction → Bool) (ts : Table Transaction) → length (filter f ts) ≤ length ts
filter_most f [] = omega arith
filter_most f (p ∷ ps) = filter_most_by (f p) p ps (filter f ps) (filter_most f ps)

gave_most : (number : ℕ) (bytes : List ℕ) (o : Option Transaction) (ts : Table Transaction) → length (gave number bytes o ts) ≤ length ts + 1
gave_most number bytes None ts = omega arith
gave_most number bytes (Some t) ts = set_most number (record t { given = bytes }) ts

pub few_after : (last : ℕ) (after : After) (ts : Table Transaction) → length (transactions_after last after ts) ≤ length ts + 1
few_after last stay ts = omega arith
few_after last (begins id family flags stamp) ts = set_most (last + 1) (record { volume = id; family = family; flags = flags; stamp = stamp; given = [] }) ts
few_after last (ends number) ts = let most = filter_most (λ (p : ℕ × Transaction). not (nat_eq p.0 number)) ts in omega (arith, most)
few_after last (gives number bytes) ts = gave_most number bytes (get number ts) ts

pub few_rest : (last family : ℕ) (after : After) (ts : Table Transaction) → length (transactions_after last after (without_family family ts)) ≤ length ts + 1
few_rest last family after ts =
    let most = few_after last after (without_family family ts) in
    let rest = filter_most (is_of_other family) ts in
    omega (arith, most, rest)

-- ---- with other kept replies

module _ (kept : Table Kept) (d : Durable) where
  same_transaction : (o : Option Transaction) (f : Transaction → Stored → Verdict) → in_transaction (record d { kept = kept }) o f ≡ in_transaction d o f
  same_transaction None f = refl
  same_transaction (Some t) f = refl

  pub same_verdict : (ts : Table Transaction) (last stamp : ℕ) (call : VolCall) → verdict (record d { kept = kept }) ts last stamp call ≡ verdict d ts last stamp call
  same_verdict ts last stamp (calls.CreateVolume family id name kind flags quota) = refl
  same_verdict ts last stamp (calls.DeleteVolume family number) = same_transaction (found family number ts) _
  same_verdict ts last stamp (calls.Restore family number offset final piece) = same_transaction (found family number ts) _
  same_verdict ts last stamp (calls.Forward family number from server target) = same_transaction (found family number ts) _
  same_verdict ts last stamp (calls.EndTrans family number) = same_transaction (found family number ts) _
  same_verdict ts last stamp (calls.Clone family number id name kind) = ap (refused_where (has_volume id d) is_there_already) (same_transaction (found family number ts) (clones d id name kind))
  same_verdict ts last stamp (calls.SetFlags family number flags) = same_transaction (found family number ts) _
  same_verdict ts last stamp (calls.GetFlags family number) = same_transaction (found family number ts) _
  same_verdict ts last stamp (calls.TransCreate family id flags) = refl
  same_verdict ts last stamp (calls.Dump family number from offset) = same_transaction (found family number ts) _
  same_verdict ts last stamp (calls.SetForwarding family number server) = same_transaction (found family number ts) _
  same_verdict ts last stamp (calls.GetStatus family number) = same_transaction (found family number ts) _
  same_verdict ts last stamp (calls.ListVols family) = refl
  same_verdict ts last stamp (calls.ReClone family number id) = same_transaction (found family number ts) _
