-- What comes next in a schedule.
use Rattle.std.proofs.Common.{refl, arith, ap, sym, subst, ◌∙◌, ◌≡◌, ◌≤◌, ◌+◌, ℕ, zero, suc, List, [], ◌∷◌, Bool, true, false, Option, Some, None, nat_eq, if◌then◌else◌}
use Rattle.std.specs.List.{list_any, All}
use Rattle.std.proofs.lemmas.List.Elements.{All-head, All-tail}
use Rattle.spec_history.specs.declared.scripts.Event.{Event}
use Rattle.spec_history.specs.declared.scripts.Event.TheVariants as events
use Rattle.afs_words.specs.declared.nodes.Counts.{Counts}
use Rattle.afs_grammar.specs.CellScripts.{FitsEvent}
use Rattle.afs_grammar.specs.Lines.{ticks_in, ticks_of}
use Rattle.afs_schedule.specs.Schedules.{lowest, named_by, next_event}
use Rattle.afs_schedule.specs.Taking.{IsLeft, IsTaken}
use Rattle.afs_schedule.specs.declared.schedule.Schedule.{Schedule}
use Rattle.afs_clients.proofs.Numbers.{none_some, some_is}

-- a place has a number from 1 on
abbrev IsLow : Option ℕ → Type 0
IsLow None = Unit {0}
IsLow (Some place) = 1 ≤ place

low_by : (b : Bool) (n place : ℕ) (named : List ℕ) → 1 ≤ place → IsLow (lowest n (place + 1) named) → IsLow (if b then lowest n (place + 1) named else Some place)
low_by true n place named one more = more
low_by false n place named one more = one

pub low_from : (n place : ℕ) (named : List ℕ) → 1 ≤ place → IsLow (lowest n place named)
low_from zero place named one = tt
low_from (suc n) place named one = low_by (list_any (nat_eq place) named) n place named one (low_from n (place + 1) named (omega (arith, one)))

-- the next event, and those behind it, of events that fit
pub record IsNextOf (c : Counts) (es : List Event) (r : Event × List Event) : Type 0 where
  pub fits : FitsEvent c r.0
  pub rest : All (FitsEvent c) r.1
  pub one : r.0 ≡ events.Drain → ⊥
  pub ticks : ticks_of r.0 + ticks_in r.1 ≤ ticks_in es

plain_next : (low : Option ℕ) (e : Event) (es : List Event) → (e ≡ events.Drain → ⊥) → next_event low (e ∷ es) ≡ Some (e, es)
plain_next low events.Drain es one = absurd (one refl)
plain_next None (events.Act n) es one = refl
plain_next None (events.Deliver place) es one = refl
plain_next None (events.Timeout n callee) es one = refl
plain_next None (events.Wake server) es one = refl
plain_next None (events.Tick n) es one = refl
plain_next None (events.Crash n) es one = refl
plain_next None (events.CrashDisk n pick) es one = refl
plain_next None (events.Restart n) es one = refl
plain_next None (events.Stop n calls pick) es one = refl
plain_next None (events.Fail n call) es one = refl
plain_next (Some low) (events.Act n) es one = refl
plain_next (Some low) (events.Deliver place) es one = refl
plain_next (Some low) (events.Timeout n callee) es one = refl
plain_next (Some low) (events.Wake server) es one = refl
plain_next (Some low) (events.Tick n) es one = refl
plain_next (Some low) (events.Crash n) es one = refl
plain_next (Some low) (events.CrashDisk n pick) es one = refl
plain_next (Some low) (events.Restart n) es one = refl
plain_next (Some low) (events.Stop n calls pick) es one = refl
plain_next (Some low) (events.Fail n call) es one = refl

no_drain : (place : ℕ) → events.Deliver place ≡ events.Drain → ⊥
no_drain place d = absurd cc

module _ (c : Counts) where
  -- the first event
  head_next : (low : Option ℕ) (e : Event) (es : List Event) (r : Event × List Event) → (e ≡ events.Drain → ⊥) → All (FitsEvent c) (e ∷ es) → next_event low (e ∷ es) ≡ Some r → IsNextOf c (e ∷ es) r
  head_next low e es r one all next =
      subst (λ (q : Event × List Event). IsNextOf c (e ∷ es) q) (some_is (e, es) r (sym (plain_next low e es one) ∙ next))
      (record { fits = All-head (FitsEvent c) e es all; rest = All-tail (FitsEvent c) e es all; one = one; ticks = omega arith })

  -- a delivery of a drain
  drained : (place : ℕ) (es : List Event) (r : Event × List Event) → 1 ≤ place → All (FitsEvent c) (events.Drain ∷ es) → Some (events.Deliver place, events.Drain ∷ es) ≡ Some r → IsNextOf c (events.Drain ∷ es) r
  drained place es r low all next =
      subst (λ (q : Event × List Event). IsNextOf c (events.Drain ∷ es) q) (some_is (events.Deliver place, events.Drain ∷ es) r next)
      (record { fits = low; rest = all; one = no_drain place; ticks = omega arith })

  behind : (es : List Event) (r : Event × List Event) → IsNextOf c es r → IsNextOf c (events.Drain ∷ es) r
  behind es r next = record { fits = next.fits; rest = next.rest; one = next.one; ticks = let t = next.ticks in omega (arith, t) }

  pub is_next : (low : Option ℕ) (es : List Event) (r : Event × List Event) → IsLow low → All (FitsEvent c) es → next_event low es ≡ Some r → IsNextOf c es r
  is_next None [] r low all next = absurd (none_some r next)
  is_next (Some place) [] r low all next = absurd (none_some r next)
  is_next None (events.Drain ∷ es) r low all next = behind es r (is_next None es r low (All-tail (FitsEvent c) events.Drain es all) next)
  is_next (Some place) (events.Drain ∷ es) r low all next = drained place es r low all next
  is_next low (events.Act n ∷ es) r some all next = head_next low (events.Act n) es r (λ d. absurd cc) all next
  is_next low (events.Deliver at ∷ es) r some all next = head_next low (events.Deliver at) es r (λ d. absurd cc) all next
  is_next low (events.Timeout n callee ∷ es) r some all next = head_next low (events.Timeout n callee) es r (λ d. absurd cc) all next
  is_next low (events.Wake server ∷ es) r some all next = head_next low (events.Wake server) es r (λ d. absurd cc) all next
  is_next low (events.Tick n ∷ es) r some all next = head_next low (events.Tick n) es r (λ d. absurd cc) all next
  is_next low (events.Crash n ∷ es) r some all next = head_next low (events.Crash n) es r (λ d. absurd cc) all next
  is_next low (events.CrashDisk n pick ∷ es) r some all next = head_next low (events.CrashDisk n pick) es r (λ d. absurd cc) all next
  is_next low (events.Restart n ∷ es) r some all next = head_next low (events.Restart n) es r (λ d. absurd cc) all next
  is_next low (events.Stop n calls pick ∷ es) r some all next = head_next low (events.Stop n calls pick) es r (λ d. absurd cc) all next
  is_next low (events.Fail n call ∷ es) r some all next = head_next low (events.Fail n call) es r (λ d. absurd cc) all next

-- ---- what is taken

pub record HasTaken (new : Schedule) (named : List ℕ) (event : Event) (o : Option (Event × List Event)) : Type 0 where
  pub behind : List Event
  pub next : o ≡ Some (event, behind)
  pub left : IsLeft new behind (named_by event named)

pub taken_some : (new : Schedule) (named : List ℕ) (event : Event) (o : Option (Event × List Event)) → IsTaken new named (Some event) o → HasTaken new named event o
taken_some new named event None h = absurd h
taken_some new named event (Some r) h = record { behind = r.1; next = ap (λ (e : Event). Some (e, r.1)) (sym h.0); left = h.1 }

pub taken_none : (new : Schedule) (named : List ℕ) (o : Option (Event × List Event)) → IsTaken new named None o → o ≡ None
taken_none new named None h = refl
taken_none new named (Some r) h = absurd h
