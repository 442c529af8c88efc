-- A node that is up is its host, and its disk is set as before, less the calls that came.
use Rattle.std.specs.Prelude.{◌≡◌, ◌≤◌, ◌<◌, ℕ, zero, suc, ◌+◌, ◌-◌, Bool, true, false, Option, Some, None, nat_lt, if◌then◌else◌}
use Rattle.std.specs.Option.{option_map}
use Rattle.std.proofs.Common.{refl, ap, sym, subst, ◌∙◌, inl, inr, arith, lt-ltb}
use Rattle.std.proofs.lemmas.Bool.{ltb-true, ltb-false}
use Rattle.afs_disk.specs.Disk.{IsAt, IsBeyond, PassesAll, Setting}
use Rattle.afs_disk.specs.Fuses.{Fused}
use Rattle.spec_rows.specs.Hosts.{fail_blow, lowered, sooner, steady, stop_blow, struck, within, Armed, Blow, Host}
use Rattle.spec_records.proofs.Forms.{some_is}
use Rattle.afs_host.specs.Seats.{IsHostUp, Running}
use Rattle.afs_host.specs.Setting.{IsSet}

-- what holds of the host that is just the node's state holds of each for which it stands
pub as_host_up : {N T S : Type 0} (seen : N → T → S) (r : Running N T) (h : Host S) (P : Host S → Type 0) → IsHostUp seen r h → P (record { state = seen r.memory r.store; down = None; armed = r.armed }) → P h
as_host_up {N} {T} {S} seen r h P up p =
    let state = subst (λ (s : S). P (record { state = s; down = None; armed = r.armed })) (sym up.state) p in
    let down = subst (λ d. P (record { state = h.state; down = d; armed = r.armed })) (sym up.down) state in
    subst (λ (a : Armed). P (record { state = h.state; down = h.down; armed = a })) (sym up.armed) down

-- ---- a step that passed

-- a stop that came at none of these calls comes after them
passes_stop : (t : Bool) (setting : Setting) (first n s : ℕ) → nat_lt s n ≡ t → setting.stop ≡ Some (first + s) → PassesAll setting first (first + n) → n ≤ s
passes_stop true setting first n s less is passes =
    let lt = ltb-true s n less in
    absurd (passes (first + n) (omega (arith, lt)) (omega (arith)) (inl (subst (λ (o : Option ℕ). IsBeyond o (first + n)) (sym is) (omega (arith, lt)))))
passes_stop false setting first n s less is passes = ltb-false s n less

-- so does a failure
passes_fail : (t : Bool) (setting : Setting) (first n k : ℕ) → nat_lt n k ≡ t → setting.fail ≡ Some (first + k) → 1 ≤ k → PassesAll setting first (first + n) → n < k
passes_fail true setting first n k less is due passes = ltb-true n k less
passes_fail false setting first n k less is due passes =
    let le = ltb-false n k less in
    absurd (passes (first + k) (omega (arith, due)) (omega (arith, le)) (inr (subst (λ (o : Option ℕ). IsAt o (first + k)) (sym is) refl)))

abbrev Late : ℕ → Option Blow → Type 0
Late n None = Unit {0}
Late n (Some b) = n < b.call

late_chosen : (t : Bool) (n : ℕ) (a b : Blow) → n < a.call → n < b.call → Late n (if t then Some b else Some a)
late_chosen true n a b la lb = lb
late_chosen false n a b la lb = la

late_sooner : (n : ℕ) (a b : Option Blow) → Late n a → Late n b → Late n (sooner a b)
late_sooner n None b la lb = lb
late_sooner n (Some a) None la lb = la
late_sooner n (Some a) (Some b) la lb = late_chosen (nat_lt b.call a.call) n a b la lb

late_stop : (stop : Option (ℕ × ℕ)) (setting : Setting) (first n : ℕ) → setting.stop ≡ option_map (λ (s : ℕ × ℕ). first + s.0) stop → PassesAll setting first (first + n) → Late n (stop_blow stop)
late_stop None setting first n is passes = tt
late_stop (Some s) setting first n is passes = omega (arith, passes_stop (nat_lt s.0 n) setting first n s.0 refl is passes)

late_fail : (fail : Option ℕ) (setting : Setting) (first n : ℕ) → setting.fail ≡ option_map (λ (k : ℕ). first + k) fail → ((k : ℕ) → fail ≡ Some k → 1 ≤ k) → PassesAll setting first (first + n) → Late n (fail_blow fail)
late_fail None setting first n is due passes = tt
late_fail (Some k) setting first n is due passes = passes_fail (nat_lt n k) setting first n k refl is (due k refl) passes

within_late : (n : ℕ) (b : Option Blow) → Late n b → within n b ≡ None
within_late zero b late = refl
within_late (suc n) None late = refl
within_late (suc n) (Some b) late = ap (λ (t : Bool). if t then None else Some b) (lt-ltb (suc n) b.call late)

-- the disk did as it was set to, and hit nothing
pub unstruck : {D : Type 0} (armed : Armed) (f : Fused D) (n : ℕ) → IsSet armed f → PassesAll (record { stop = f.stop; fail = f.fail }) f.calls (f.calls + n) → struck armed steady n ≡ None
unstruck {D} armed f n set passes =
    within_late n (sooner (sooner (stop_blow armed.stop) (fail_blow armed.fail)) None)
    (late_sooner n (sooner (stop_blow armed.stop) (fail_blow armed.fail)) None
    (late_sooner n (stop_blow armed.stop) (fail_blow armed.fail) (late_stop armed.stop (record { stop = f.stop; fail = f.fail }) f.calls n set.stop passes) (late_fail armed.fail (record { stop = f.stop; fail = f.fail }) f.calls n set.fail set.due passes))
    tt)

lowered_stop : (stop : Option (ℕ × ℕ)) (setting : Setting) (first n : ℕ) → setting.stop ≡ option_map (λ (s : ℕ × ℕ). first + s.0) stop → PassesAll setting first (first + n) →
    setting.stop ≡ option_map (λ (s : ℕ × ℕ). first + n + s.0) (option_map (λ (s : ℕ × ℕ). (s.0 - n, s.1)) stop)
lowered_stop None setting first n is passes = is
lowered_stop (Some s) setting first n is passes =
    let le = passes_stop (nat_lt s.0 n) setting first n s.0 refl is passes in
    is ∙ ap (λ (x : ℕ). Some x) (omega (arith, le))

lowered_fail : (fail : Option ℕ) (setting : Setting) (first n : ℕ) → setting.fail ≡ option_map (λ (k : ℕ). first + k) fail → ((k : ℕ) → fail ≡ Some k → 1 ≤ k) → PassesAll setting first (first + n) →
    setting.fail ≡ option_map (λ (k : ℕ). first + n + k) (option_map (λ (k : ℕ). k - n) fail)
lowered_fail None setting first n is due passes = is
lowered_fail (Some k) setting first n is due passes =
    let lt = passes_fail (nat_lt n k) setting first n k refl is (due k refl) passes in
    is ∙ ap (λ (x : ℕ). Some x) (omega (arith, lt))

lowered_due : (fail : Option ℕ) (setting : Setting) (first n : ℕ) → setting.fail ≡ option_map (λ (k : ℕ). first + k) fail → ((k : ℕ) → fail ≡ Some k → 1 ≤ k) → PassesAll setting first (first + n) →
    (k : ℕ) → option_map (λ (k : ℕ). k - n) fail ≡ Some k → 1 ≤ k
lowered_due None setting first n is due passes k e = absurd cc
lowered_due (Some j) setting first n is due passes k e =
    let lt = passes_fail (nat_lt n j) setting first n j refl is (due j refl) passes in
    let same = some_is (j - n) k e in
    omega (arith, lt, same)

-- what the disk is still set to, counted from its calls by then
pub lowered_set : {D : Type 0} (armed : Armed) (f t : Fused D) (n : ℕ) → IsSet armed f → PassesAll (record { stop = f.stop; fail = f.fail }) f.calls (f.calls + n) → t.stop ≡ f.stop → t.fail ≡ f.fail → t.calls ≡ f.calls + n → IsSet (lowered n armed) t
lowered_set {D} armed f t n set passes stop fail calls = record {
  stop = stop ∙ (lowered_stop armed.stop (record { stop = f.stop; fail = f.fail }) f.calls n set.stop passes ∙ ap (λ (x : ℕ). option_map (λ (s : ℕ × ℕ). x + s.0) (lowered n armed).stop) (sym calls));
  fail = fail ∙ (lowered_fail armed.fail (record { stop = f.stop; fail = f.fail }) f.calls n set.fail set.due passes ∙ ap (λ (x : ℕ). option_map (λ (k : ℕ). x + k) (lowered n armed).fail) (sym calls));
  due = lowered_due armed.fail (record { stop = f.stop; fail = f.fail }) f.calls n set.fail set.due passes;
}

-- so it is where nothing came to the disk
pub same_set : {D : Type 0} (armed : Armed) (f t : Fused D) → IsSet armed f → t.stop ≡ f.stop → t.fail ≡ f.fail → t.calls ≡ f.calls → IsSet armed t
same_set {D} armed f t set stop fail calls = record {
  stop = stop ∙ (set.stop ∙ ap (λ (x : ℕ). option_map (λ (s : ℕ × ℕ). x + s.0) armed.stop) (sym calls));
  fail = fail ∙ (set.fail ∙ ap (λ (x : ℕ). option_map (λ (k : ℕ). x + k) armed.fail) (sym calls));
  due = set.due;
}
