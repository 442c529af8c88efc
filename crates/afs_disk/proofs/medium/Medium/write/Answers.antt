use Rattle.std.proofs.Common.{◌≡◌, ◌≤◌, ◌+◌, ◌-◌, ℕ, List, [], ◌∷◌, ◌++◌, length, take, drop, min, max, arith, sym, ◌∙◌, ap, subst, length-drop}
use Rattle.std.proofs.lemmas.List.{length-take, length-take-le}
use Rattle.afs_disk.specs.Disk.{overwritten}
use Rattle.afs_disk.specs.declared.medium.Span.{Span}
use Rattle.afs_disk.specs.Images.{Held}
use Rattle.afs_disk.specs.Spans.{Fit, unwound}
use Rattle.afs_disk.proofs.Painting.{length-overwritten}
use Rattle.afs_disk.proofs.Unwinding.{kept_on, seen_after, fit_after}
use Rattle.afs_disk.proofs.medium.Medium.write.Goals as goal

pub invariant_of-self-2 : goal.invariant_of-self-2
invariant_of-self-2 c =
    let at = c.args.at in
    let bytes = c.self.inside.bytes.items in
    let n = c.min-over.result in
    let span : Span = record { at = c.args.at; len = length c.args.written.now; over = c.min-over.result } in
    let over = take (at + n - at) (drop at c.deref.result.now) in
    let sees = ap (λ (h : Held). h.now) c.self.view_is in
    let within : c.args.at ≤ c.self.inside.len = omega (arith, c.requires.inside, ap length sees, length-take c.self.inside.len c.self.inside.bytes.items, c.self.invariant.0) in
    let counted : c.min-over.result ≡ min (length c.args.written.now) (length c.self.inside.bytes.items - c.args.at) = omega (arith, c.min-over.ensures, c.len.ensures, c.self.inside.bytes.ok) in
    let over-is : take (at + n - at) (drop at c.deref.result.now) ≡ take n (drop at bytes) = ap (λ (k : ℕ). take k (drop at c.deref.result.now)) (omega arith) ∙ ap (λ (l : List ℕ). take n (drop at l)) c.deref.ensures.value in
    let inside : c.args.at ≤ length c.self.inside.bytes.items = omega (arith, within, c.self.invariant.0) in
    let long : length over ≡ n = ap length over-is ∙ length-take-le n (drop at bytes) (omega (arith, counted, length-drop at bytes)) in
    let size = ap length c.in_ok-overwrite.ensures.is ∙ length-overwritten at c.args.written.now bytes inside in
    let fits = fit_after c.self.inside.spans.items span c.self.inside.saved.items over bytes c.args.written.now c.self.invariant.2 inside counted long in (
      omega (arith, size, c.max-self-inside.ensures, c.self.invariant.0),
      omega (arith, size, c.self.invariant.1),
      subst (λ (l : List ℕ). Fit c.push.new.self.items (length c.extend_from_slice.new.self.items) (length l)) (sym c.in_ok-overwrite.ensures.is)
          (subst (λ (l : List ℕ). Fit c.push.new.self.items (length l) (length (overwritten at c.args.written.now bytes))) (sym c.in_ok-extend_from_slice.ensures.items)
          (subst (λ (l : List Span). Fit l (length (c.self.inside.saved.items ++ over)) (length (overwritten at c.args.written.now bytes))) (sym c.in_ok-push.ensures.items) fits)),
    )

pub returns-clause-now : goal.returns-clause-now
returns-clause-now c =
    let at = c.args.at in
    let bytes = c.self.inside.bytes.items in
    let n = c.min-over.result in
    let span : Span = record { at = c.args.at; len = length c.args.written.now; over = c.min-over.result } in
    let over = take (at + n - at) (drop at c.deref.result.now) in
    let sees = ap (λ (h : Held). h.now) c.self.view_is in
    let within : c.args.at ≤ c.self.inside.len = omega (arith, c.requires.inside, ap length sees, length-take c.self.inside.len c.self.inside.bytes.items, c.self.invariant.0) in
    let counted : c.min-over.result ≡ min (length c.args.written.now) (length c.self.inside.bytes.items - c.args.at) = omega (arith, c.min-over.ensures, c.len.ensures, c.self.inside.bytes.ok) in
    let over-is : take (at + n - at) (drop at c.deref.result.now) ≡ take n (drop at bytes) = ap (λ (k : ℕ). take k (drop at c.deref.result.now)) (omega arith) ∙ ap (λ (l : List ℕ). take n (drop at l)) c.deref.ensures.value in
    let inside : c.args.at ≤ length c.self.inside.bytes.items = omega (arith, within, c.self.invariant.0) in
    ap (λ (k : ℕ). take k c.overwrite.new.bytes.items) c.max-self-inside.ensures ∙ ap (take (max c.self.inside.len (at + length c.args.written.now))) c.in_ok-overwrite.ensures.is
    ∙ seen_after at c.self.inside.len c.args.written.now bytes within c.self.invariant.0 ∙ ap (overwritten at c.args.written.now) sees

pub returns-clause-kept : goal.returns-clause-kept
returns-clause-kept c =
    let at = c.args.at in
    let bytes = c.self.inside.bytes.items in
    let n = c.min-over.result in
    let span : Span = record { at = c.args.at; len = length c.args.written.now; over = c.min-over.result } in
    let over = take (at + n - at) (drop at c.deref.result.now) in
    let sees = ap (λ (h : Held). h.now) c.self.view_is in
    let within : c.args.at ≤ c.self.inside.len = omega (arith, c.requires.inside, ap length sees, length-take c.self.inside.len c.self.inside.bytes.items, c.self.invariant.0) in
    let counted : c.min-over.result ≡ min (length c.args.written.now) (length c.self.inside.bytes.items - c.args.at) = omega (arith, c.min-over.ensures, c.len.ensures, c.self.inside.bytes.ok) in
    let over-is : take (at + n - at) (drop at c.deref.result.now) ≡ take n (drop at bytes) = ap (λ (k : ℕ). take k (drop at c.deref.result.now)) (omega arith) ∙ ap (λ (l : List ℕ). take n (drop at l)) c.deref.ensures.value in
    let inside : c.args.at ≤ length c.self.inside.bytes.items = omega (arith, within, c.self.invariant.0) in
    let keeps = ap (λ (h : Held). h.kept) c.self.view_is in
    ap (λ (l : List Span). take c.self.inside.kept (unwound l c.extend_from_slice.new.self.items c.overwrite.new.bytes.items)) c.in_ok-push.ensures.items
    ∙ ap (λ (l : List ℕ). take c.self.inside.kept (unwound (c.self.inside.spans.items ++ span ∷ []) l c.overwrite.new.bytes.items)) c.in_ok-extend_from_slice.ensures.items
    ∙ ap (λ (l : List ℕ). take c.self.inside.kept (unwound (c.self.inside.spans.items ++ span ∷ []) (c.self.inside.saved.items ++ over) l)) c.in_ok-overwrite.ensures.is
    ∙ kept_on c.self.inside.spans.items span c.self.inside.saved.items over bytes c.args.written.now c.self.inside.kept c.self.invariant.2 c.self.invariant.1 inside counted over-is
    ∙ keeps
