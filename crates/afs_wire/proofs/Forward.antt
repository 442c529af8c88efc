-- What comes to the front of a list is what stood behind the first so many.
use Rattle.std.proofs.Common.{◌≡◌, ◌+◌, ◌-◌, ◌<◌, ◌≤◌, ℕ, List, length, take, drop, ap, sym, ◌∙◌, arith}
use Rattle.std.specs.List.{slice_index_or}
use Rattle.std.proofs.lemmas.List.{get_or-drop, get_or-take, length-drop, length-take-le, same_lists}

pub came_forward : {A : Type 0} (old new : List A) (first last : ℕ) → first ≤ length old → length new ≡ length old → length old - first ≤ last
    → ((k : ℕ) (d : A) → k < last → slice_index_or new k d ≡ slice_index_or old (k + first) d) → take (length old - first) new ≡ drop first old
came_forward {A} old new first last few len all moved =
    let short : length (take (length old - first) new) ≡ length old - first = length-take-le (length old - first) new (omega (arith, few, len)) in
    let long : length (drop first old) ≡ length old - first = length-drop first old in
    same_lists (take (length old - first) new) (drop first old) (short ∙ sym long)
    (λ k d below. get_or-take (length old - first) new k d (omega (arith, below, short))
    ∙ (moved k d (omega (arith, below, short, all))
    ∙ (ap (λ (j : ℕ). slice_index_or old j d) (let same : k + first ≡ first + k = omega arith in same)
    ∙ sym (get_or-drop first old k d))))
