-- Where no reply is ready, none goes out and all wait on.
use Rattle.std.proofs.Common.{◌≡◌, Bool, true, false, cond, List, [], ◌∷◌, not, ◌||◌, refl, ap}
use Rattle.std.specs.Prelude.{filter}
use Rattle.std.specs.List.{list_any}
use Rattle.spec_rows.specs.States.{Held}

none_by : (t : Bool) (ready : Held → Bool) (h : Held) (hs : List Held) → (t || list_any ready hs) ≡ false → (list_any ready hs ≡ false → filter ready hs ≡ []) → cond t (h ∷ filter ready hs) (filter ready hs) ≡ []
none_by true ready h hs e rest = absurd cc
none_by false ready h hs e rest = rest e

pub none_sent : (ready : Held → Bool) (hs : List Held) → list_any ready hs ≡ false → filter ready hs ≡ []
none_sent ready [] e = refl
none_sent ready (h ∷ hs) e = none_by (ready h) ready h hs e (none_sent ready hs)

abbrev waits : (Held → Bool) → List Held → List Held
waits ready hs = filter (λ (h : Held). not (ready h)) hs

wait_by : (t : Bool) (ready : Held → Bool) (h : Held) (hs : List Held) → (t || list_any ready hs) ≡ false → (list_any ready hs ≡ false → waits ready hs ≡ hs) → cond (not t) (h ∷ waits ready hs) (waits ready hs) ≡ h ∷ hs
wait_by true ready h hs e rest = absurd cc
wait_by false ready h hs e rest = ap (λ (ws : List Held). h ∷ ws) (rest e)

pub all_wait : (ready : Held → Bool) (hs : List Held) → list_any ready hs ≡ false → filter (λ (h : Held). not (ready h)) hs ≡ hs
all_wait ready [] e = refl
all_wait ready (h ∷ hs) e = wait_by (ready h) ready h hs e (all_wait ready hs)
