-- What a drain leaves, and what it names.
use Rattle.std.proofs.Common.{arith, refl, subst, ◌≡◌, ◌≤◌, ◌<◌, ◌⊎◌, inl, inr, ℕ, List, [], ◌∷◌, Bool, true, false, Option, Some, None}
use Rattle.std.specs.Prelude.{IfSome}
use Rattle.std.specs.List.{list_any}
use Rattle.spec_history.specs.declared.scripts.Event.{Event}
use Rattle.spec_history.specs.declared.scripts.Event.TheVariants as events
use Rattle.afs_schedule.specs.Schedules.{next_event}
use Rattle.afs_schedule.specs.Settled.{is_deliver, settled_so, DeliversBehind}

-- The event that comes next of such without a deliver: it names a place behind these, and what is left has no deliver either.
pub record IsDrained (places : ℕ) (e : Event × List Event) : Type 0 where
  pub behind : DeliversBehind places e.0
  pub rest : list_any is_deliver e.1 ≡ false

none_behind : (e : Event) → DeliversBehind 0 e
none_behind (events.Deliver place) = inl refl
none_behind events.Drain = tt
none_behind (events.Act n) = tt
none_behind (events.Timeout n callee) = tt
none_behind (events.Wake server) = tt
none_behind (events.Tick n) = tt
none_behind (events.Crash n) = tt
none_behind (events.CrashDisk n pick) = tt
none_behind (events.Restart n) = tt
none_behind (events.Stop n calls pick) = tt
none_behind (events.Fail n call) = tt

none_is : (e : Event × List Event) → None ≡ Some e → ⊥
none_is e h = absurd cc

true_false : true ≡ false → ⊥
true_false e = absurd cc

is_same : (places : ℕ) (x e : Event × List Event) → Some x ≡ Some e → IsDrained places x → IsDrained places e
is_same places x e h d = let same : x ≡ e = cc in subst (λ (y : Event × List Event). IsDrained places y) same d

pub drained : (places : ℕ) (low : Option ℕ) (es : List Event) (e : Event × List Event) → next_event low es ≡ Some e → IfSome low (λ (place : ℕ). places < place) → list_any is_deliver es ≡ false → IsDrained places e
drained places None [] e h above none = absurd (none_is e h)
drained places (Some low) [] e h above none = absurd (none_is e h)
drained places (Some low) (events.Drain ∷ es) e h above none = is_same places (events.Deliver low, events.Drain ∷ es) e h (record { behind = inr above; rest = none })
drained places None (events.Drain ∷ es) e h above none = drained places None es e h tt none
drained places low (events.Deliver place ∷ es) e h above none = absurd (true_false none)
drained places None (events.Act n ∷ es) e h above none = is_same places (events.Act n, es) e h (record { behind = tt; rest = none })
drained places None (events.Timeout n callee ∷ es) e h above none = is_same places (events.Timeout n callee, es) e h (record { behind = tt; rest = none })
drained places None (events.Wake server ∷ es) e h above none = is_same places (events.Wake server, es) e h (record { behind = tt; rest = none })
drained places None (events.Tick n ∷ es) e h above none = is_same places (events.Tick n, es) e h (record { behind = tt; rest = none })
drained places None (events.Crash n ∷ es) e h above none = is_same places (events.Crash n, es) e h (record { behind = tt; rest = none })
drained places None (events.CrashDisk n pick ∷ es) e h above none = is_same places (events.CrashDisk n pick, es) e h (record { behind = tt; rest = none })
drained places None (events.Restart n ∷ es) e h above none = is_same places (events.Restart n, es) e h (record { behind = tt; rest = none })
drained places None (events.Stop n calls pick ∷ es) e h above none = is_same places (events.Stop n calls pick, es) e h (record { behind = tt; rest = none })
drained places None (events.Fail n call ∷ es) e h above none = is_same places (events.Fail n call, es) e h (record { behind = tt; rest = none })
drained places (Some low) (events.Act n ∷ es) e h above none = is_same places (events.Act n, es) e h (record { behind = tt; rest = none })
drained places (Some low) (events.Timeout n callee ∷ es) e h above none = is_same places (events.Timeout n callee, es) e h (record { behind = tt; rest = none })
drained places (Some low) (events.Wake server ∷ es) e h above none = is_same places (events.Wake server, es) e h (record { behind = tt; rest = none })
drained places (Some low) (events.Tick n ∷ es) e h above none = is_same places (events.Tick n, es) e h (record { behind = tt; rest = none })
drained places (Some low) (events.Crash n ∷ es) e h above none = is_same places (events.Crash n, es) e h (record { behind = tt; rest = none })
drained places (Some low) (events.CrashDisk n pick ∷ es) e h above none = is_same places (events.CrashDisk n pick, es) e h (record { behind = tt; rest = none })
drained places (Some low) (events.Restart n ∷ es) e h above none = is_same places (events.Restart n, es) e h (record { behind = tt; rest = none })
drained places (Some low) (events.Stop n calls pick ∷ es) e h above none = is_same places (events.Stop n calls pick, es) e h (record { behind = tt; rest = none })
drained places (Some low) (events.Fail n call ∷ es) e h above none = is_same places (events.Fail n call, es) e h (record { behind = tt; rest = none })

-- what is settled stays so, and the event names none of it
pub settles : (again : Bool) (first later : ℕ) (low : Option ℕ) (es : List Event) (e : Event × List Event) → next_event low es ≡ Some e → IfSome low (λ (place : ℕ). first < place) → (again ≡ false → list_any is_deliver es ≡ false) → first ≤ later → (settled_so again first ≤ settled_so again later) × DeliversBehind (settled_so again first) e.0
settles true first later low es e h above drains grows = (omega (arith), none_behind e.0)
settles false first later low es e h above drains grows = (grows, (drained first low es e h above (drains refl)).behind)
