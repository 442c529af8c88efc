use Rattle.std.proofs.Common.{◌≡◌, ◌≤◌, ◌+◌, ◌-◌, ℕ, List, [], ◌∷◌, ◌++◌, length, take, drop, arith, refl, sym, ◌∙◌, ap, subst, take-append-drop, length-drop}
use Rattle.std.proofs.lemmas.List.{length-take-le}
use Rattle.afs_disk.specs.Disk.{overwritten}
use Rattle.afs_disk.specs.declared.medium.Span.{Span}
use Rattle.afs_disk.specs.Spans.{Fit, unwound}
use Rattle.afs_disk.proofs.Painting.{length-overwritten}
use Rattle.afs_disk.proofs.Unwinding.{Last, fit-last, unwound-push}
use Rattle.afs_disk.proofs.medium.unwind.Goals as goal

-- one write taken back
module _ (spans ss : List Span) (s : Span) (saved front last bytes : List ℕ) (popped : spans ≡ ss ++ s ∷ []) (fit : Fit spans (length saved) (length bytes)) (front-is : front ≡ take (length saved - s.over) saved) (last-is : last ≡ drop (length saved - s.over) saved) where
  ends : Last ss s (length saved) (length bytes)
  ends = fit-last ss s (length saved) (length bytes) (subst (λ (l : List Span). Fit l (length saved) (length bytes)) popped fit)

  long : length last ≡ s.over
  long = omega (arith, ap length last-is, length-drop (length saved - s.over) saved, ends.over)

  inside : s.at + length last ≤ length bytes
  inside = omega (arith, long, ends.inside)

  rest : length front ≡ length saved - s.over
  rest = ap length front-is ∙ length-take-le (length saved - s.over) saved (omega arith)

  fit_rest : Fit ss (length front) (length bytes)
  fit_rest = subst (λ (n : ℕ). Fit ss n (length bytes)) (sym rest) ends.rest

  one_back : unwound ss front (overwritten s.at last bytes) ≡ unwound spans saved bytes
  one_back = sym (ap (λ (l : List Span). unwound l saved bytes) popped ∙ ap (λ (l : List ℕ). unwound (ss ++ s ∷ []) l bytes) (sym (take-append-drop (length saved - s.over) saved) ∙ ap (λ (l : List ℕ). l ++ drop (length saved - s.over) saved) (sym front-is) ∙ ap (λ (l : List ℕ). front ++ l) (sym last-is))
      ∙ unwound-push ss s front last bytes (length bytes) fit_rest long)

  fit_back : Fit ss (length front) (length (overwritten s.at last bytes))
  fit_back = subst (λ (n : ℕ). Fit ss (length front) n) (omega (arith, length-overwritten s.at last bytes (omega (arith, inside)), inside)) fit_rest

pub overflow_sub-front : goal.overflow_sub-front
overflow_sub-front c =
    let last = fit-last _ _ _ _ (subst (λ (l : List Span). Fit l (length c.loop-span.saved.items) (length c.loop-span.bytes)) c.in-Some.ensures.items c.loop-span.invariant.fit) in
    omega (arith, last.over, ap length c.as_slice-all.ensures.value)

pub put_back-requires : goal.put_back-requires
put_back-requires c =
    let size = ap length c.as_slice-all.ensures.value in
    let last-is = c.split_at.ensures.back ∙ ap (λ (l : List ℕ). drop (length l - c.in-Some.span.over) l) c.as_slice-all.ensures.value in
    inside c.loop-span.spans.items c.pop.new.self.items c.in-Some.span c.loop-span.saved.items (take (length c.loop-span.saved.items - c.in-Some.span.over) c.loop-span.saved.items) c.split_at.result.1.now c.loop-span.bytes c.in-Some.ensures.items c.loop-span.invariant.fit refl last-is

pub loop-span-preserved : goal.loop-span-preserved
loop-span-preserved c =
    let size : length c.as_slice-all.result.now ≡ length c.loop-span.saved.items = ap length c.as_slice-all.ensures.value in
    let last-is = c.split_at.ensures.back ∙ ap (λ (l : List ℕ). drop (length l - c.in-Some.span.over) l) c.as_slice-all.ensures.value in
    let front-is = c.truncate.ensures.items ∙ ap (λ (n : ℕ). take (n - c.in-Some.span.over) c.loop-span.saved.items) size in
    let back = one_back c.loop-span.spans.items c.pop.new.self.items c.in-Some.span c.loop-span.saved.items c.truncate.new.self.items c.split_at.result.1.now c.loop-span.bytes c.in-Some.ensures.items c.loop-span.invariant.fit front-is last-is in
    let fits = fit_back c.loop-span.spans.items c.pop.new.self.items c.in-Some.span c.loop-span.saved.items c.truncate.new.self.items c.split_at.result.1.now c.loop-span.bytes c.in-Some.ensures.items c.loop-span.invariant.fit front-is last-is in
    record {
      whole = ap (unwound c.pop.new.self.items c.truncate.new.self.items) c.put_back.ensures ∙ back ∙ c.loop-span.invariant.whole;
      fit = subst (λ (l : List ℕ). Fit c.pop.new.self.items (length c.truncate.new.self.items) (length l)) (sym c.put_back.ensures) fits;
    }
