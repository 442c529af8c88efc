use Rattle.std.proofs.Common.{◌≡◌, ◌+◌, ◌-◌, ◌⊎◌, inl, inr, ⊎_elim, ℕ, List, length, take, drop, replicate, ◌++◌, sym, ◌∙◌, ap, arith, rules, length-drop}
use Rattle.std.proofs.lemmas.Bool.{cases_lt}
use Rattle.std.proofs.lemmas.List.{length-take}
use Rattle.afs_disk.proofs.Painting.{paint_mid, paint_past}
use Rattle.afs_disk.proofs.medium.paint_over.Goals as goal

pub returns-then-at-size : goal.returns-then-at-size
returns-then-at-size c =
    let at = c.args.at in
    let xs = c.args.bytes.now in
    let k = c.min.result in
    let width : at + k - at ≡ k = omega arith in
    let long : length (take (at + k - at) (drop at xs)) ≡ k = omega (arith, length-take (at + k - at) (drop at xs), length-drop at xs, c.min.ensures, c.if-at-size.true) in
    let part : c.fill.new.self ≡ replicate k c.args.value = c.fill.ensures.after (λ y h. search rules) ∙ ap (λ (n : ℕ). replicate n c.args.value) long in
    let ends : (k ≡ c.args.len) ⊎ (at + k ≡ length xs) = ⊎_elim (λ lt. inl (omega (arith, c.min.ensures))) (λ le. inr (omega (arith, c.min.ensures, c.if-at-size.true))) (cases_lt c.args.len (length xs - at)) in
    ap (λ (n : ℕ). take at xs ++ (c.fill.new.self ++ drop n (drop at xs))) width
    ∙ ap (λ (ys : List ℕ). take at xs ++ (ys ++ drop k (drop at xs))) part
    ∙ sym (paint_mid c.args.value at c.args.len k xs (omega (arith, c.min.ensures, c.if-at-size.true)) (omega (arith, c.min.ensures)) ends)

pub returns-else-at-size : goal.returns-else-at-size
returns-else-at-size c = sym (paint_past c.args.value c.args.at c.args.len c.args.bytes.now c.if-at-size.false)
