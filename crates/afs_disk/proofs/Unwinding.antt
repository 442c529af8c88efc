-- What taking writes back gives.
use Rattle.std.proofs.Common.{◌≡◌, ◌≤◌, inl, inr, ℕ, ◌+◌, ◌-◌, min, max, List, [], ◌∷◌, ◌++◌, length, take, drop, refl, sym, ◌∙◌, ap, subst, arith, append_assoc, length-append, length-drop, take-append-drop}
use Rattle.std.proofs.lemmas.List.{length-take, length-take-le, take_all, drop_all, take_at, drop_at, take-append-le, drop-append-le, append-nil, drop-drop, drop-take, take-take}
use Rattle.std.proofs.lemmas.Bool.{cases_lt}
use Rattle.afs_disk.specs.declared.medium.Span.{Span}
use Rattle.afs_disk.specs.Spans.{Fit, unwound}
use Rattle.afs_disk.specs.Disk.{overwritten}
use Rattle.afs_disk.proofs.Painting.{length-overwritten}

-- one write more, and what it wrote over
pub unwound-push : (ss : List Span) (s : Span) (saved over bytes : List ℕ) (size : ℕ) → Fit ss (length saved) size → length over ≡ s.over → unwound (ss ++ s ∷ []) (saved ++ over) bytes ≡ unwound ss saved (overwritten s.at over bytes)
unwound-push [] s [] over bytes size fit is = ap (λ (l : List ℕ). overwritten s.at l bytes) (take_all s.over over (omega (arith, is)))
unwound-push [] s (x ∷ saved) over bytes size fit is = absurd (omega (arith, fit))
unwound-push (t ∷ ss) s saved over bytes size fit is =
    ap (λ (l : List ℕ). overwritten t.at l (unwound (ss ++ s ∷ []) (drop t.over (saved ++ over)) bytes)) (take-append-le t.over saved over fit.0)
    ∙ ap (λ (l : List ℕ). overwritten t.at (take t.over saved) (unwound (ss ++ s ∷ []) l bytes)) (drop-append-le t.over saved over fit.0)
    ∙ ap (overwritten t.at (take t.over saved)) (unwound-push ss s (drop t.over saved) over bytes size (subst (λ (n : ℕ). Fit ss n size) (sym (length-drop t.over saved)) fit.2) is)

pub fit-push : (ss : List Span) (s : Span) (saved size : ℕ) → Fit ss saved size → s.at + s.over ≤ size → Fit (ss ++ s ∷ []) (saved + s.over) size
fit-push [] s saved size fit le = (omega (arith, fit), le, omega (arith, fit))
fit-push (t ∷ ss) s saved size fit le = (omega (arith, fit.0), fit.1, subst (λ (n : ℕ). Fit (ss ++ s ∷ []) n size) (omega (arith, fit.0)) (fit-push ss s (saved - t.over) size fit.2 le))

-- the last of these writes lies within the bytes, and what it wrote over is the last that was saved
pub record Last (ss : List Span) (s : Span) (saved size : ℕ) : Type 0 where
  pub over : s.over ≤ saved
  pub inside : s.at + s.over ≤ size
  pub rest : Fit ss (saved - s.over) size

pub fit-last : (ss : List Span) (s : Span) (saved size : ℕ) → Fit (ss ++ s ∷ []) saved size → Last ss s saved size
fit-last [] s saved size fit = record { over = fit.0; inside = fit.1; rest = fit.2 }
fit-last (t ∷ ss) s saved size fit =
    let last = fit-last ss s (saved - t.over) size fit.2 in
    record {
      over = omega (arith, fit.0, last.over);
      inside = last.inside;
      rest = (omega (arith, fit.0, last.over), fit.1, subst (λ (n : ℕ). Fit ss n size) (omega (arith, fit.0, last.over)) last.rest);
    }

-- more bytes behind change nothing
pub fit-more : (ss : List Span) (saved size more : ℕ) → Fit ss saved size → size ≤ more → Fit ss saved more
fit-more [] saved size more fit le = fit
fit-more (t ∷ ss) saved size more fit le = (fit.0, omega (arith, fit.1), fit-more ss (saved - t.over) size more fit.2 le)

pub length-unwound : (ss : List Span) (saved bytes : List ℕ) → Fit ss (length saved) (length bytes) → length (unwound ss saved bytes) ≡ length bytes
length-unwound [] saved bytes fit = refl
length-unwound (t ∷ ss) saved bytes fit =
    let rest = length-unwound ss (drop t.over saved) bytes (subst (λ (n : ℕ). Fit ss n (length bytes)) (sym (length-drop t.over saved)) fit.2) in
    omega (arith, rest, length-overwritten t.at (take t.over saved) (unwound ss (drop t.over saved) bytes) (omega (arith, rest, fit.1)), length-take-le t.over saved fit.0, fit.1)

overwritten-append : (at : ℕ) (bytes old more : List ℕ) → at + length bytes ≤ length old → overwritten at bytes (old ++ more) ≡ overwritten at bytes old ++ more
overwritten-append at bytes old more le =
    ap (λ (l : List ℕ). l ++ (bytes ++ drop (at + length bytes) (old ++ more))) (take-append-le at old more (omega arith))
    ∙ ap (λ (l : List ℕ). take at old ++ (bytes ++ l)) (drop-append-le (at + length bytes) old more le)
    ∙ ap (λ (l : List ℕ). take at old ++ l) (sym (append_assoc bytes (drop (at + length bytes) old) more))
    ∙ sym (append_assoc (take at old) (bytes ++ drop (at + length bytes) old) more)

pub unwound-append : (ss : List Span) (saved bytes more : List ℕ) → Fit ss (length saved) (length bytes) → unwound ss saved (bytes ++ more) ≡ unwound ss saved bytes ++ more
unwound-append [] saved bytes more fit = refl
unwound-append (t ∷ ss) saved bytes more fit =
    let inner = subst (λ (n : ℕ). Fit ss n (length bytes)) (sym (length-drop t.over saved)) fit.2 in
    ap (overwritten t.at (take t.over saved)) (unwound-append ss (drop t.over saved) bytes more inner)
    ∙ overwritten-append t.at (take t.over saved) (unwound ss (drop t.over saved) bytes) more (omega (arith, length-unwound ss (drop t.over saved) bytes inner, length-take-le t.over saved fit.0, fit.1))

-- a write, and then what it wrote over, gives the bytes again, and more behind them
pub again : (at n : ℕ) (written bytes : List ℕ) → at ≤ length bytes → n ≡ min (length written) (length bytes - at) → overwritten at (take n (drop at bytes)) (overwritten at written bytes) ≡ bytes ++ drop n written
again at n written bytes le is =
    let front = take at bytes in
    let rest = drop (at + length written) bytes in
    let over = take n (drop at bytes) in
    let front_long : length front ≡ at = length-take-le at bytes le in
    let over_long : length over ≡ n = length-take-le n (drop at bytes) (omega (arith, length-drop at bytes, is)) in
    let few : n ≤ length written = omega (arith, is) in
    let behind : drop (at + length over) (overwritten at written bytes) ≡ drop n written ++ rest =
    ap (λ (k : ℕ). drop (at + k) (overwritten at written bytes)) over_long ∙ sym (drop-drop n at (overwritten at written bytes))
    ∙ ap (drop n) (drop_at front (written ++ rest) at front_long) ∙ drop-append-le n written rest few in
    let made : overwritten at over (overwritten at written bytes) ≡ front ++ (over ++ (drop n written ++ rest)) =
    ap (λ (l : List ℕ). l ++ (over ++ drop (at + length over) (overwritten at written bytes))) (take_at front (written ++ rest) at front_long) ∙ ap (λ (l : List ℕ). front ++ (over ++ l)) behind in
    made ∙ elim (cases_lt (length bytes - at) (length written)) [
      | inl lt ↦
          let all : over ≡ drop at bytes = take_all n (drop at bytes) (omega (arith, length-drop at bytes, is)) in
          let none : rest ≡ [] = drop_all (at + length written) bytes (omega (arith, le)) in
          ap (λ (l : List ℕ). front ++ (l ++ (drop n written ++ rest))) all ∙ ap (λ (l : List ℕ). front ++ (drop at bytes ++ (drop n written ++ l))) none
          ∙ ap (λ (l : List ℕ). front ++ (drop at bytes ++ l)) (append-nil (drop n written)) ∙ sym (append_assoc front (drop at bytes) (drop n written)) ∙ ap (λ (l : List ℕ). l ++ drop n written) (take-append-drop at bytes)
      | inr ge ↦
          let whole : n ≡ length written = omega (arith, is) in
          let none : drop n written ≡ [] = drop_all n written (omega (arith, whole)) in
          ap (λ (l : List ℕ). front ++ (over ++ (l ++ rest))) none ∙ ap (λ (k : ℕ). front ++ (over ++ drop (at + k) bytes)) (sym whole)
          ∙ ap (λ (l : List ℕ). front ++ (over ++ l)) (sym (drop-drop n at bytes)) ∙ ap (λ (l : List ℕ). front ++ l) (take-append-drop n (drop at bytes)) ∙ take-append-drop at bytes
          ∙ sym (append-nil bytes) ∙ ap (λ (l : List ℕ). bytes ++ l) (sym none)
    ]

-- what was kept is kept
pub kept_on : (ss : List Span) (s : Span) (saved over bytes written : List ℕ) (kept : ℕ) → Fit ss (length saved) (length bytes) → kept ≤ length bytes → s.at ≤ length bytes → s.over ≡ min (length written) (length bytes - s.at) → over ≡ take s.over (drop s.at bytes)
    → take kept (unwound (ss ++ s ∷ []) (saved ++ over) (overwritten s.at written bytes)) ≡ take kept (unwound ss saved bytes)
kept_on ss s saved over bytes written kept fit le inside is over-is =
    let over_long : length over ≡ s.over = ap length over-is ∙ length-take-le s.over (drop s.at bytes) (omega (arith, length-drop s.at bytes, is)) in
    let back : overwritten s.at over (overwritten s.at written bytes) ≡ bytes ++ drop s.over written = ap (λ (l : List ℕ). overwritten s.at l (overwritten s.at written bytes)) over-is ∙ again s.at s.over written bytes inside is in
    ap (take kept) (unwound-push ss s saved over (overwritten s.at written bytes) (length bytes) fit over_long ∙ ap (unwound ss saved) back ∙ unwound-append ss saved bytes (drop s.over written) fit)
    ∙ take-append-le kept (unwound ss saved bytes) (drop s.over written) (omega (arith, length-unwound ss saved bytes fit, le))

-- a write into the bytes of which a read sees the front
pub seen_after : (at size : ℕ) (written bytes : List ℕ) → at ≤ size → size ≤ length bytes → take (max size (at + length written)) (overwritten at written bytes) ≡ overwritten at written (take size bytes)
seen_after at size written bytes le few =
    let front = take at bytes in
    let end = at + length written in
    let rest = drop end bytes in
    let front_long : length front ≡ at = length-take-le at bytes (omega (arith, le, few)) in
    let long : length (front ++ written) ≡ end = omega (arith, length-append front written, front_long) in
    let regrouped : overwritten at written bytes ≡ (front ++ written) ++ rest = sym (append_assoc front written rest) in
    let same_front : take at (take size bytes) ≡ front = take-take at size bytes le in
    elim (cases_lt end size) [
      | inl lt ↦
          let k = size - end in
          let most : max size end ≡ size = omega arith in
          let part : drop end (take size bytes) ≡ take k rest = ap (λ (n : ℕ). drop end (take n bytes)) (omega arith) ∙ drop-take end k bytes in
          let part_long : length (take k rest) ≡ k = length-take-le k rest (omega (arith, length-drop end bytes)) in
          let total : length ((front ++ written) ++ take k rest) ≡ size = omega (arith, length-append (front ++ written) (take k rest), long, part_long) in
          let divided : (front ++ written) ++ rest ≡ ((front ++ written) ++ take k rest) ++ drop k rest = ap (λ (l : List ℕ). (front ++ written) ++ l) (sym (take-append-drop k rest)) ∙ sym (append_assoc (front ++ written) (take k rest) (drop k rest)) in
          ap (λ (n : ℕ). take n (overwritten at written bytes)) most ∙ ap (take size) (regrouped ∙ divided) ∙ take_at ((front ++ written) ++ take k rest) (drop k rest) size total
          ∙ append_assoc front written (take k rest) ∙ ap (λ (l : List ℕ). front ++ (written ++ l)) (sym part) ∙ ap (λ (l : List ℕ). l ++ (written ++ drop end (take size bytes))) (sym same_front)
      | inr ge ↦
          let most : max size end ≡ end = omega arith in
          let none : drop end (take size bytes) ≡ [] = drop_all end (take size bytes) (omega (arith, length-take size bytes)) in
          ap (λ (n : ℕ). take n (overwritten at written bytes)) most ∙ ap (take end) regrouped ∙ take_at (front ++ written) rest end long
          ∙ ap (λ (l : List ℕ). front ++ l) (sym (append-nil written)) ∙ ap (λ (l : List ℕ). front ++ (written ++ l)) (sym none) ∙ ap (λ (l : List ℕ). l ++ (written ++ drop end (take size bytes))) (sym same_front)
    ]

-- what holds after a write
pub fit_after : (ss : List Span) (s : Span) (saved over bytes written : List ℕ) → Fit ss (length saved) (length bytes) → s.at ≤ length bytes → s.over ≡ min (length written) (length bytes - s.at) → length over ≡ s.over
    → Fit (ss ++ s ∷ []) (length (saved ++ over)) (length (overwritten s.at written bytes))
fit_after ss s saved over bytes written fit inside is long =
    let more = fit-more (ss ++ s ∷ []) (length saved + s.over) (length bytes) (length (overwritten s.at written bytes)) (fit-push ss s (length saved) (length bytes) fit (omega (arith, is, inside))) (omega (arith, length-overwritten s.at written bytes inside)) in
    subst (λ (n : ℕ). Fit (ss ++ s ∷ []) n (length (overwritten s.at written bytes))) (omega (arith, length-append saved over, long)) more
