-- What is written piece by piece: the pieces one behind another, or, where a write failed, a beginning of them.
use Rattle.std.proofs.Common.{◌≡◌, ℕ, suc, zero, ◌+◌, ◌≤◌, List, [], ◌∷◌, ◌++◌, ◌<◌, length, take, drop, refl, ap, sym, ◌∙◌, subst, drop_of_length-le, take-append-drop, append-nil, Result, Ok, Err, Option, Some, None, arith}
use Rattle.std.specs.Prelude.{OnErr, IsErr}
use Rattle.std.specs.Io.KnownBytes.{Appends, Keeps}
use Rattle.std.proofs.KnownBytes.{Appends-nil, Appends-trans, Appends-kept}
use Rattle.std.proofs.lemmas.List.{take_all, drop_more}
use Rattle.std.proofs.Math.ListN.{get_or}
use Rattle.afs_outside.specs.declared.outside.Failed.{Failed}
use Rattle.afs_outside.specs.Outside.{HasCause, AppendsFront, Puts}

-- a beginning of the first piece is one of both
front_of_first : (n : ℕ) (x y : List ℕ) → (m : ℕ) × (take m (x ++ y) ≡ take n x)
front_of_first zero x y = (zero, refl)
front_of_first (suc n) [] y = (zero, refl)
front_of_first (suc n) (b ∷ bs) y =
    let more = front_of_first n bs y in
    (suc more.0, ap (λ (l : List ℕ). b ∷ l) more.1)

-- the first piece and a beginning of the second are a beginning of both
front_of_second : (m : ℕ) (x y : List ℕ) → (n : ℕ) × (take n (x ++ y) ≡ x ++ take m y)
front_of_second m [] y = (m, refl)
front_of_second m (b ∷ bs) y =
    let more = front_of_second m bs y in
    (suc more.0, ap (λ (l : List ℕ). b ∷ l) more.1)

front_stops : (a b : Option (List ℕ)) (x y : List ℕ) → AppendsFront a b x → AppendsFront a b (x ++ y)
front_stops a b x y front =
    let more = front_of_first front.0 x y in
    (more.0, subst (λ (l : List ℕ). Appends a b l) (sym more.1) front.1)

front_then : (a b c : Option (List ℕ)) (x y : List ℕ) → Appends a b x → AppendsFront b c y → AppendsFront a c (x ++ y)
front_then a b c x y whole front =
    let both = front_of_second front.0 x y in
    (both.0, subst (λ (l : List ℕ). Appends a c l) (sym both.1) (Appends-trans a b c x (take front.0 y) whole front.1))

-- what was appended whole is a beginning of itself
pub front_kept : {T : Type 0} (a b c : Option (List ℕ)) (x : List ℕ) (r : Result T Failed) → Appends a b x → Keeps b c → OnErr r (AppendsFront a c x)
front_kept a b c x (Ok v) whole kept = tt
front_kept a b c x (Err e) whole kept = (length x, subst (λ (l : List ℕ). Appends a c l) (sym (take_all (length x) x (omega (arith)))) (Appends-kept a b c x whole kept))

-- nothing was written
pub puts_nothing : {T : Type 0} (a : Option (List ℕ)) (f : ℕ) (u : T) → Puts [] a a f f (Ok u)
puts_nothing a f u = record { whole = Appends-nil a; front = tt; cause = record { kept = omega (arith); cause = tt; quiet = refl } }

-- the first piece failed: the others weren't begun
pub puts_stop : {T U : Type 0} (x y : List ℕ) (a b : Option (List ℕ)) (f g : ℕ) (e : Failed) (r : Result U Failed) → IsErr r → Puts {T = T} x a b f g (Err e) → Puts (x ++ y) a b f g r
puts_stop x y a b f g e (Ok v) failed p = cc
puts_stop x y a b f g e (Err d) failed p = record { whole = tt; front = front_stops a b x y p.front; cause = record { kept = p.cause.kept; cause = p.cause.cause; quiet = tt } }

-- the first piece was written, and then what is behind it
pub puts_then : {T U : Type 0} (x y : List ℕ) (a b c : Option (List ℕ)) (f g h : ℕ) (u : T) (r : Result U Failed) → Puts x a b f g (Ok u) → Puts y b c g h r → Puts (x ++ y) a c f h r
puts_then x y a b c f g h u (Ok v) p q = record { whole = Appends-trans a b c x y p.whole q.whole; front = tt; cause = record { kept = omega (arith, p.cause.kept, q.cause.kept); cause = tt; quiet = q.cause.quiet ∙ p.cause.quiet } }
puts_then x y a b c f g h u (Err e) p q = record { whole = tt; front = front_then a b c x y p.whole q.front; cause = record { kept = omega (arith, p.cause.kept, q.cause.kept); cause = omega (arith, p.cause.kept, q.cause.kept, q.cause.cause); quiet = tt } }

-- ---- in a loop

-- so far as the text was written, writing the rest of it writes the whole, or fails in it
abbrev pub Completes : (rest whole : List ℕ) (start now : Option (List ℕ)) (before count : ℕ) → Type 0
Completes rest whole start now before count =
    (new : Option (List ℕ)) (after : ℕ) (result : Result (Unit {0}) Failed) → Puts rest now new count after result → Puts whole start new before after result

-- at the beginning all is left
pub completes_itself : (whole : List ℕ) (a : Option (List ℕ)) (f : ℕ) → Completes whole whole a a f f
completes_itself whole a f new after result p = p

-- the next piece was written
pub completes_more : (x rest whole : List ℕ) (a b c : Option (List ℕ)) (f g h : ℕ) (u : Unit {0}) → Completes (x ++ rest) whole a b f g → Puts x b c g h (Ok u) → Completes rest whole a c f h
completes_more x rest whole a b c f g h u left p new after result q = left new after result (puts_then x rest b c new g h after u result p q)

-- the next piece failed
pub completes_stop : (x rest whole : List ℕ) (a b c : Option (List ℕ)) (f g h : ℕ) (e : Failed) (r : Result (Unit {0}) Failed) → Completes (x ++ rest) whole a b f g → IsErr r → Puts {T = Unit {0}} x b c g h (Err e) → Puts whole a c f h r
completes_stop x rest whole a b c f g h e r left failed p = left c h r (puts_stop x rest b c g h e r failed p)

-- nothing is left
pub completes_end : (whole : List ℕ) (a b : Option (List ℕ)) (f g : ℕ) (u : Unit {0}) → Completes [] whole a b f g → Puts whole a b f g (Ok u)
completes_end whole a b f g u left = left b g (Ok u) (puts_nothing b g u)

-- the item that is at hand is the next, and the others are behind it
pub at_item : {X : Type 0} (F : List X → List ℕ) (whole : List ℕ) (a b : Option (List ℕ)) (f g : ℕ) (xs : List X) (i : ℕ) (d x : X) → i < length xs → x ≡ get_or xs i d
    → Completes (F (drop i xs)) whole a b f g → Completes (F (x ∷ drop (i + 1) xs)) whole a b f g
at_item {X = X} F whole a b f g xs i d x within is left =
    subst (λ (ys : List X). Completes (F ys) whole a b f g) (drop_more xs i d within ∙ ap (λ (y : X). y ∷ drop (i + 1) xs) (sym is)) left

-- all items were written
pub at_end : {X : Type 0} (F : List X → List ℕ) (whole : List ℕ) (a b : Option (List ℕ)) (f g : ℕ) (xs : List X) (i : ℕ) → length xs ≤ i
    → Completes (F (drop i xs)) whole a b f g → Completes (F []) whole a b f g
at_end {X = X} F whole a b f g xs i all left =
    subst (λ (ys : List X). Completes (F ys) whole a b f g) (drop_of_length-le xs all) left

-- ---- at the end

appends_none : (a b : Option (List ℕ)) → Keeps a b → Appends a b []
appends_none None b kept = tt
appends_none (Some x) None kept = absurd kept
appends_none (Some x) (Some y) kept = kept ∙ sym (append-nil x)

-- nothing was written
pub puts_kept : {T : Type 0} (a b : Option (List ℕ)) (f g : ℕ) (r : Result T Failed) → Keeps a b → HasCause f g r → Puts [] a b f g r
puts_kept a b f g (Ok v) kept cause = record { whole = appends_none a b kept; front = tt; cause = cause }
puts_kept a b f g (Err e) kept cause = record { whole = tt; front = (zero, appends_none a b kept); cause = cause }

-- the text was written, and was passed on or was not
pub puts_passed : {T U : Type 0} (x : List ℕ) (a b c : Option (List ℕ)) (f g h : ℕ) (u : T) (r : Result U Failed) → Puts x a b f g (Ok u) → Puts [] b c g h r → Puts x a c f h r
puts_passed x a b c f g h u r p q = subst (λ (t : List ℕ). Puts t a c f h r) (append-nil x) (puts_then x [] a b c f g h u r p q)

-- the call ends as its last part did
pub puts_fail : {T U : Type 0} (x : List ℕ) (a b : Option (List ℕ)) (f g : ℕ) (e : Failed) (r : Result U Failed) → IsErr r → Puts {T = T} x a b f g (Err e) → Puts x a b f g r
puts_fail x a b f g e (Ok v) failed p = cc
puts_fail x a b f g e (Err d) failed p = record { whole = tt; front = p.front; cause = record { kept = p.cause.kept; cause = p.cause.cause; quiet = tt } }

-- a beginning was written, and then the rest
pub puts_rest : {T : Type 0} (n : ℕ) (bytes rest : List ℕ) (a b c : Option (List ℕ)) (f g h : ℕ) (r : Result T Failed)
    → Appends a b (take n bytes) → g ≡ f → rest ≡ drop n bytes → Puts rest b c g h r → Puts bytes a c f h r
puts_rest n bytes rest a b c f g h r first quiet is p =
    let begun : Puts {T = Unit {0}} (take n bytes) a b f g (Ok tt) = record { whole = first; front = tt; cause = record { kept = omega (arith, quiet); cause = tt; quiet = quiet } } in
    let left = subst (λ (t : List ℕ). Puts t b c g h r) is p in
    subst (λ (t : List ℕ). Puts t a c f h r) (take-append-drop n bytes) (puts_then (take n bytes) (drop n bytes) a b c f g h tt r begun left)
