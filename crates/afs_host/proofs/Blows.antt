-- What ended a step that its disk ended, and with which luck.
use Rattle.std.specs.Prelude.{◌≡◌, ◌<◌, ◌≤◌, ◌⊎◌, ℕ, zero, suc, ◌+◌, ◌&&◌, ◌||◌, Bool, true, false, Option, Some, None, nat_eq, nat_lt, if◌then◌else◌}
use Rattle.std.specs.Option.{option_map}
use Rattle.std.proofs.Common.{ap, sym, subst, ◌∙◌, refl, inl, inr, arith, lt-ltb, le-ltb}
use Rattle.std.proofs.Math.Dec.{eqb-suc-zero}
use Rattle.std.proofs.Math.Nat.{le_refl}
use Rattle.std.proofs.lemmas.Bool.{ltb-true, ltb-false}
use Rattle.afs_disk.specs.Disk.{IsAt, IsBeyond, Setting, Trips}
use Rattle.spec_rows.specs.Hosts.{fail_blow, gives_out, own_blow, sooner, steady, stop_blow, struck, within, Armed, Blow, Luck, GivesOut, IsLuck}
use Rattle.afs_journal.specs.Left.{ReachesCall}
use Rattle.afs_host.specs.Setting.{pick_of, stops_at, stops_now}

-- A blow to which the disk was set came at the last device call; a stop has the pick that was set with it.
pub record IsSetBlow (armed : Armed) (setting : Setting) (first last : ℕ) (b : Blow) : Type 0 where
  pub trips : Trips setting last
  pub counted : last ≡ first + b.call
  pub pick : b.stops ≡ true → b.pick ≡ pick_of armed

-- A step of four device calls is struck with some luck, and was stopped or not. Where the disk fails by itself this holds.
pub record Explained (armed : Armed) (setting : Setting) (first last : ℕ) (stops : Bool) (rose : Type 0) : Type 0 where
  pub luck : Luck
  pub is_luck : IsLuck luck
  pub blow : Blow
  pub struck_is : struck armed luck 4 ≡ Some blow
  pub stops_is : blow.stops ≡ stops
  pub told : blow.is_set ≡ true → IsSetBlow armed setting first last blow
  pub blame : GivesOut luck → rose

-- the disk fails by itself at the first call
abbrev own : Blow
own = record { call = 1; is_set = false; stops = false; pick = 0 }

chosen : (t : Bool) (a b : Option Blow) → t ≡ false → (if t then a else b) ≡ b
chosen t a b e = ap (λ (x : Bool). if x then a else b) e

in_four : (b : Blow) → b.call ≤ 4 → within 4 (Some b) ≡ Some b
in_four b small = chosen (nat_lt 4 b.call) None (Some b) (le-ltb 4 b.call small)

-- What is known of a step that its disk ended, its calls numbered from the one after `first` up to `last`. `came` tells whether a stop came.
pub record IsEnded (armed : Armed) (setting : Setting) (first last : ℕ) (came : Bool) (rose : Type 0) : Type 0 where
  pub stop : setting.stop ≡ option_map (λ (s : ℕ × ℕ). first + s.0) armed.stop
  pub fail : setting.fail ≡ option_map (λ (k : ℕ). first + k) armed.fail
  pub due : (k : ℕ) → armed.fail ≡ Some k → 1 ≤ k
  pub few : last ≤ first + 4
  pub reached : ReachesCall setting first last
  pub came_so : IsBeyond setting.stop last → came ≡ true
  pub came_is : came ≡ true → IsBeyond setting.stop last
  pub cause : Trips setting last ⊎ rose

-- ---- what is known tells the case

beyond_none : (setting : Option ℕ) (last : ℕ) → setting ≡ None → IsBeyond setting last → ⊥
beyond_none setting last e b = subst (λ (o : Option ℕ). IsBeyond o last) e b

beyond_some : (setting : Option ℕ) (last x : ℕ) → setting ≡ Some x → IsBeyond setting last → x < last
beyond_some setting last x e b = subst (λ (o : Option ℕ). IsBeyond o last) e b

is_beyond : (setting : Option ℕ) (last x : ℕ) → setting ≡ Some x → x < last → IsBeyond setting last
is_beyond setting last x e b = subst (λ (o : Option ℕ). IsBeyond o last) (sym e) b

at_none : (setting : Option ℕ) (last : ℕ) → setting ≡ None → IsAt setting last → ⊥
at_none setting last e b = subst (λ (o : Option ℕ). IsAt o last) e b

at_some : (setting : Option ℕ) (last x : ℕ) → setting ≡ Some x → IsAt setting last → last ≡ x
at_some setting last x e b = subst (λ (o : Option ℕ). IsAt o last) e b

pub neither : (t : Bool) → t ≡ true → t ≡ false → ⊥
neither t e f = absurd cc

pub none_cause : (setting : Setting) (last : ℕ) (rose : Type 0) → setting.stop ≡ None → setting.fail ≡ None → Trips setting last ⊎ rose → rose
none_cause setting last rose stop fail (inl (inl b)) = absurd (beyond_none setting.stop last stop b)
none_cause setting last rose stop fail (inl (inr at)) = absurd (at_none setting.fail last fail at)
none_cause setting last rose stop fail (inr did) = did

is_at : (setting : Option ℕ) (last x : ℕ) → setting ≡ Some x → last ≡ x → IsAt setting last
is_at setting last x e b = subst (λ (o : Option ℕ). IsAt o last) (sym e) b

-- ---- the call at which it was set is the last that came

stop_last_by : (setting : Setting) (first last s : ℕ) → setting.stop ≡ Some (first + s) → ReachesCall setting first last → first + s < last → (t : Bool) → nat_lt (first + s + 1) last ≡ t → last ≡ first + (s + 1)
stop_last_by setting first last s stop reached beyond true e =
    absurd (reached.passed (first + s + 1) (omega (arith)) (ltb-true (first + s + 1) last e) (inl (is_beyond setting.stop (first + s + 1) (first + s) stop (omega (arith)))))
stop_last_by setting first last s stop reached beyond false e = omega (arith, beyond, ltb-false (first + s + 1) last e)

stop_last : (setting : Setting) (first last s : ℕ) → setting.stop ≡ Some (first + s) → ReachesCall setting first last → first + s < last → last ≡ first + (s + 1)
stop_last setting first last s stop reached beyond = stop_last_by setting first last s stop reached beyond (nat_lt (first + s + 1) last) refl

fail_last_by : (setting : Setting) (first last k : ℕ) → setting.fail ≡ Some (first + k) → 1 ≤ k → ReachesCall setting first last → (t : Bool) → nat_lt (first + k) last ≡ t → last ≤ first + k
fail_last_by setting first last k fail due reached true e =
    absurd (reached.passed (first + k) (omega (arith, due)) (ltb-true (first + k) last e) (inr (is_at setting.fail (first + k) (first + k) fail refl)))
fail_last_by setting first last k fail due reached false e = omega (arith, ltb-false (first + k) last e)

fail_last : (setting : Setting) (first last k : ℕ) → setting.fail ≡ Some (first + k) → 1 ≤ k → ReachesCall setting first last → last ≤ first + k
fail_last setting first last k fail due reached = fail_last_by setting first last k fail due reached (nat_lt (first + k) last) refl

stays_by : (setting : Setting) (first last s : ℕ) (came : Bool) → setting.stop ≡ Some (first + s) → (IsBeyond setting.stop last → came ≡ true) → came ≡ false → (t : Bool) → nat_lt (first + s) last ≡ t → last ≤ first + s
stays_by setting first last s came stop came_so not_so true e = absurd (neither came (came_so (is_beyond setting.stop last (first + s) stop (ltb-true (first + s) last e))) not_so)
stays_by setting first last s came stop came_so not_so false e = omega (arith, ltb-false (first + s) last e)

-- no stop came: so many calls were to pass
stays : (setting : Setting) (first last s : ℕ) (came : Bool) → setting.stop ≡ Some (first + s) → (IsBeyond setting.stop last → came ≡ true) → came ≡ false → last ≤ first + s
stays setting first last s came stop came_so not_so = stays_by setting first last s came stop came_so not_so (nat_lt (first + s) last) refl

-- ---- the cases, by what comes first

abbrev stop_at : ℕ → ℕ → Blow
stop_at s pick = record { call = s + 1; is_set = true; stops = true; pick = pick }

abbrev fail_at : ℕ → Blow
fail_at k = record { call = k; is_set = true; stops = false; pick = 0 }

module _ (armed : Armed) (setting : Setting) (first last : ℕ) (rose : Type 0) where
  -- the disk did as it was set to
  steadily : (b : Blow) → sooner (stop_blow armed.stop) (fail_blow armed.fail) ≡ Some b → b.call ≤ 4 → IsSetBlow armed setting first last b → Explained armed setting first last b.stops rose
  steadily b is small told = record {
    luck = steady;
    is_luck = tt;
    blow = b;
    struck_is = ap (λ (x : Option Blow). within 4 (sooner x None)) is ∙ in_four b small;
    stops_is = refl;
    told = λ set. told;
    blame = λ impossible. absurd impossible;
  }

  -- it failed by itself where nothing is set
  alone : sooner (stop_blow armed.stop) (fail_blow armed.fail) ≡ None → rose → Explained armed setting first last false rose
  alone is did = record {
    luck = gives_out 1;
    is_luck = le_refl 1;
    blow = own;
    struck_is = ap (λ (x : Option Blow). within 4 (sooner x (Some own))) is;
    stops_is = refl;
    told = λ set. absurd cc;
    blame = λ own_luck. did;
  }

  -- or before what is set
  before : (b : Blow) → sooner (stop_blow armed.stop) (fail_blow armed.fail) ≡ Some b → 1 < b.call → rose → Explained armed setting first last false rose
  before b is later did = record {
    luck = gives_out 1;
    is_luck = le_refl 1;
    blow = own;
    struck_is = ap (λ (x : Option Blow). within 4 (sooner x (Some own))) is ∙ ap (λ (t : Bool). within 4 (if t then Some own else Some b)) (lt-ltb 1 b.call later);
    stops_is = refl;
    told = λ set. absurd cc;
    blame = λ own_luck. did;
  }

  module _ (few : last ≤ first + 4) (some : first < last) where
    failed : (k : ℕ) → sooner (stop_blow armed.stop) (fail_blow armed.fail) ≡ Some (fail_at k) → (last ≡ first + k → Trips setting last) → last ≡ first + k → Explained armed setting first last false rose
    failed k is trips there = steadily (fail_at k) is (omega (arith, few, there)) (record { trips = trips there; counted = there; pick = λ stops. absurd cc })

    by_itself : (k : ℕ) → sooner (stop_blow armed.stop) (fail_blow armed.fail) ≡ Some (fail_at k) → last ≤ first + k → (last ≡ first + k → Trips setting last) → rose → (t : Bool) → nat_lt 1 k ≡ t → Explained armed setting first last false rose
    by_itself k is late trips did true e = before (fail_at k) is (ltb-true 1 k e) did
    by_itself k is late trips did false e = failed k is trips (omega (arith, some, late, ltb-false 1 k e))

    -- a failure comes first, at this call
    with_fail : (k : ℕ) → sooner (stop_blow armed.stop) (fail_blow armed.fail) ≡ Some (fail_at k) → last ≤ first + k → (last ≡ first + k → Trips setting last) → (last ≡ first + k) ⊎ rose → Explained armed setting first last false rose
    with_fail k is late trips (inl there) = failed k is trips there
    with_fail k is late trips (inr did) = by_itself k is late trips did (nat_lt 1 k) refl

    -- a stop comes first, after so many calls: it came, or the disk failed by itself before
    with_stop : (s pick : ℕ) (came : Bool) → sooner (stop_blow armed.stop) (fail_blow armed.fail) ≡ Some (stop_at s pick) → (came ≡ true → last ≡ first + (s + 1)) → (last ≡ first + (s + 1) → Trips setting last) → pick ≡ pick_of armed →
        (came ≡ false → last ≤ first + s) → (came ≡ false → rose) → Explained armed setting first last (came || nat_eq s 0) rose
    with_stop s pick true is there trips set stay did = steadily (stop_at s pick) is (omega (arith, few, there refl)) (record { trips = trips (there refl); counted = there refl; pick = λ stops. set })
    with_stop zero pick false is there trips set stay did = absurd (omega (arith, some, stay refl))
    with_stop (suc s) pick false is there trips set stay did =
        subst (λ (stops : Bool). Explained armed setting first last stops rose) (sym (eqb-suc-zero s)) (before (stop_at (suc s) pick) is (omega (arith)) (did refl))

-- both are set
stop_first : (s pick k : ℕ) → s < k → sooner (Some (stop_at s pick)) (Some (fail_at k)) ≡ Some (stop_at s pick)
stop_first s pick k less = chosen (nat_lt k (s + 1)) (Some (fail_at k)) (Some (stop_at s pick)) (le-ltb k (s + 1) (omega (arith, less)))

fail_first : (s pick k : ℕ) → k ≤ s → sooner (Some (stop_at s pick)) (Some (fail_at k)) ≡ Some (fail_at k)
fail_first s pick k le = ap (λ (t : Bool). if t then Some (fail_at k) else Some (stop_at s pick)) (lt-ltb k (s + 1) (omega (arith, le)))

-- ---- what ended it, by what is set

fail_cause : (setting : Setting) (first last k : ℕ) (rose : Type 0) → (IsBeyond setting.stop last → ⊥) → setting.fail ≡ Some (first + k) → Trips setting last ⊎ rose → (last ≡ first + k) ⊎ rose
fail_cause setting first last k rose none fail (inl (inl b)) = absurd (none b)
fail_cause setting first last k rose none fail (inl (inr at)) = inl (at_some setting.fail last (first + k) fail at)
fail_cause setting first last k rose none fail (inr did) = inr did

-- no stop came, and no failure was due yet
own_by : (setting : Setting) (last : ℕ) (came : Bool) (rose : Type 0) → (IsAt setting.fail last → came ≡ true) → (IsBeyond setting.stop last → came ≡ true) → Trips setting last ⊎ rose → came ≡ false → rose
own_by setting last came rose at_so came_so (inl (inl b)) not_so = absurd (neither came (came_so b) not_so)
own_by setting last came rose at_so came_so (inl (inr at)) not_so = absurd (neither came (at_so at) not_so)
own_by setting last came rose at_so came_so (inr did) not_so = did

abbrev both : ℕ → ℕ → ℕ → Armed
both s pick k = record { stop = Some (s, pick); fail = Some k }

with_both : (t : Bool) (s pick k : ℕ) (setting : Setting) (first last : ℕ) (came : Bool) (rose : Type 0) → nat_lt s k ≡ t → IsEnded (both s pick k) setting first last came rose → Explained (both s pick k) setting first last (t && (came || nat_eq s 0)) rose
with_both true s pick k setting first last came rose less h =
    with_stop (both s pick k) setting first last rose h.few h.reached.some s pick came (stop_first s pick k (ltb-true s k less))
    (λ e. stop_last setting first last s h.stop h.reached (beyond_some setting.stop last (first + s) h.stop (h.came_is e)))
    (λ there. inl (is_beyond setting.stop last (first + s) h.stop (omega (arith, there)))) refl
    (stays setting first last s came h.stop h.came_so)
    (own_by setting last came rose (λ at. h.came_so (is_beyond setting.stop last (first + s) h.stop (omega (arith, ltb-true s k less, at_some setting.fail last (first + k) h.fail at)))) h.came_so h.cause)
with_both false s pick k setting first last came rose later h =
    let late = fail_last setting first last k h.fail (h.due k refl) h.reached in
    with_fail (both s pick k) setting first last rose h.few h.reached.some k (fail_first s pick k (ltb-false s k later)) late (λ there. inr (is_at setting.fail last (first + k) h.fail there))
    (fail_cause setting first last k rose (λ b. absurd (omega (arith, ltb-false s k later, late, beyond_some setting.stop last (first + s) h.stop b))) h.fail h.cause)

by_setting : (stop : Option (ℕ × ℕ)) (fail : Option ℕ) (setting : Setting) (first last : ℕ) (came : Bool) (rose : Type 0) → IsEnded (record { stop = stop; fail = fail }) setting first last came rose →
    Explained (record { stop = stop; fail = fail }) setting first last (stops_at came stop fail) rose
by_setting None None setting first last came rose h = alone (record { stop = None; fail = None }) setting first last rose refl (none_cause setting last rose h.stop h.fail h.cause)
by_setting None (Some k) setting first last came rose h =
    with_fail (record { stop = None; fail = Some k }) setting first last rose h.few h.reached.some k refl (fail_last setting first last k h.fail (h.due k refl) h.reached) (λ there. inr (is_at setting.fail last (first + k) h.fail there))
    (fail_cause setting first last k rose (beyond_none setting.stop last h.stop) h.fail h.cause)
by_setting (Some s) None setting first last came rose h =
    with_stop (record { stop = Some s; fail = None }) setting first last rose h.few h.reached.some s.0 s.1 came refl
    (λ e. stop_last setting first last s.0 h.stop h.reached (beyond_some setting.stop last (first + s.0) h.stop (h.came_is e)))
    (λ there. inl (is_beyond setting.stop last (first + s.0) h.stop (omega (arith, there)))) refl
    (stays setting first last s.0 came h.stop h.came_so)
    (own_by setting last came rose (λ at. absurd (at_none setting.fail last h.fail at)) h.came_so h.cause)
by_setting (Some s) (Some k) setting first last came rose h = with_both (nat_lt s.0 k) s.0 s.1 k setting first last came rose refl h

-- so a step that its disk ended was stopped where its stop came first, and came or had no call left to pass; else its disk failed
pub explained : (armed : Armed) (setting : Setting) (first last : ℕ) (came : Bool) (rose : Type 0) → IsEnded armed setting first last came rose → Explained armed setting first last (stops_now came armed) rose
explained armed setting first last came rose h = by_setting armed.stop armed.fail setting first last came rose h
