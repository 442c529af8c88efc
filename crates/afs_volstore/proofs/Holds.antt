-- Volumes that are held, by their words.
use Rattle.std.proofs.Common.{◌≡◌, ℕ, Bool, true, Option, Some, None, is_some, nat_eq, refl, sym, ap, subst, ◌∙◌, inl, inr}
use Rattle.std.specs.Prelude.{◌⊎◌}
use Rattle.std.specs.Option.{option_map}
use Rattle.spec_ideal.specs.Tables.{Table, get, set, unset}
use Rattle.spec_records.specs.Durable.{or_zero}
use Rattle.afs_seats.specs.Seated.{seen_as}
use Rattle.afs_seats.proofs.Places.{get_seen, set_seen}
use Rattle.afs_shelves.proofs.Done.{less_seen}
use Rattle.afs_volstore.specs.Stores.{hold_word}

word_again : (flags : ℕ) → (flags ≡ 1) ⊎ (flags ≡ 2) → hold_word (nat_eq flags 2) ≡ flags
word_again flags (inl one) = subst (λ (n : ℕ). hold_word (nat_eq n 2) ≡ n) (sym one) refl
word_again flags (inr two) = subst (λ (n : ℕ). hold_word (nat_eq n 2) ≡ n) (sym two) refl

pub held_too : (id flags : ℕ) (old new : Table Bool) → (flags ≡ 1) ⊎ (flags ≡ 2) → new ≡ set id (nat_eq flags 2) old → seen_as hold_word new ≡ set id flags (seen_as hold_word old)
held_too id flags old new which is =
    ap (seen_as hold_word) is ∙ (sym (set_seen hold_word id (nat_eq flags 2) old) ∙ ap (λ (n : ℕ). set id n (seen_as hold_word old)) (word_again flags which))

pub held_no_more : (id : ℕ) (old new : Table Bool) → new ≡ unset id old → seen_as hold_word new ≡ unset id (seen_as hold_word old)
held_no_more id old new is = sym (less_seen hold_word id old new is)

pub held_is : (id : ℕ) (t : Table Bool) (o : Option Bool) → o ≡ get id t → option_map hold_word o ≡ get id (seen_as hold_word t)
held_is id t o is = ap (option_map hold_word) is ∙ sym (get_seen hold_word id t)

-- what is held as a word is held
pub is_held : (id : ℕ) (t : Table Bool) → is_some (get id (seen_as hold_word t)) ≡ true → is_some (get id t) ≡ true
is_held id t some = sym (some_too (get id t)) ∙ (ap is_some (sym (get_seen hold_word id t)) ∙ some)
  where
    some_too : (o : Option Bool) → is_some (option_map hold_word o) ≡ is_some o
    some_too None = refl
    some_too (Some b) = refl
