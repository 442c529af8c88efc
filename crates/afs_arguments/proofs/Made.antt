-- Where clap takes the words behind `gen`, they are one word.
use Rattle.std.proofs.Common.{◌≡◌, List, [], ◌∷◌, true, false, Option, Some, None, codes, refl, sym, ap, subst, ◌∙◌, bytes_eq, ◌⊎◌, inl, inr}
use Rattle.std.specs.List.{fold}
use Rattle.clap.specs.Faults.{check_fault, defaults_fault, level_fault, settle_fault, turn_fault, walk_fault}
use Rattle.clap.specs.Kinds.{Kinds, or_else}
use Rattle.clap.specs.Walk.{Row, Text, Walk, finished, first_of, idle, nothing_held, settled, walk, walk_from, walked, with_default}
use Rattle.clap.specs.declared.error.kind.ErrorKind.TheVariants.{UnknownArgument}
use Rattle.afs_arguments.proofs.Leaf.{held, made_leaf, made_rules}
use Rattle.afs_arguments.proofs.Words.{made_word_is, not_none, IsBadIn, IsPlainIn}
use Rattle.afs_arguments.proofs.Walks.{NoDashes, first, front, second, tail}

abbrev start : Walk
start = walk_from nothing_held

-- a word was taken
abbrev taken : Text → Walk
taken word = record { held = held [] (Some (codes "N", word ∷ [])); waiting = idle; position = 2; is_trailing = false; stopped = None }

-- ---- one word after the other

bad_first : (word : Text) → IsBadIn made_rules word → turn_fault made_leaf [] start word ≡ [] → ⊥
bad_first word b e =
    let refuses = rw (b.dashes) at e in
    b.fault [] None (first _ _ refuses)

plain_turn : (word : Text) → IsPlainIn made_rules word → turn_fault made_leaf [] start word ≡ []
plain_turn word p = rw (p.dashes, p.fault [] None, p.met idle [] None) refl

plain_walk : (word : Text) → IsPlainIn made_rules word → walked made_rules [] start word ≡ taken word
unfolding walked
plain_walk word p = rw (p.dashes, p.met idle [] None) refl

-- no further word is taken
no_further : (word further : Text) → IsBadIn made_rules further ⊎ IsPlainIn made_rules further → turn_fault made_leaf [] (taken word) further ≡ [] → ⊥
no_further word further (inl b) e =
    let refuses = rw (b.dashes) at e in
    b.fault [] (Some (codes "N", word ∷ [])) (first _ _ refuses)
no_further word further (inr p) e =
    let there : turn_fault made_leaf [] (taken word) further ≡ UnknownArgument ∷ [] = rw (p.dashes, p.fault [] (Some (codes "N", word ∷ [])), p.met idle [] (Some (codes "N", word ∷ []))) refl in
    not_none _ _ (sym there ∙ e)

-- ---- at their end

-- what is refused there
abbrev at_end : Walk → Kinds
at_end w = or_else [] (or_else (settle_fault made_rules false w.held) (or_else (defaults_fault (settled made_rules w.held).rows made_rules) (check_fault made_leaf (finished made_rules w.held) false)))

level_is : (words : List Text) → level_fault made_leaf [] nothing_held words false [] ≡ or_else (walk_fault made_leaf [] start words) (at_end (walk made_rules [] nothing_held words))
level_is words = refl

taken_passes : (word : Text) → at_end (taken word) ≡ []
unfolding defaults_fault
taken_passes word = refl

pub takes_word : (word : Text) → IsPlainIn made_rules word → level_fault made_leaf [] nothing_held (word ∷ []) false [] ≡ []
unfolding walk_fault
takes_word word p =
    ap (λ (k : Kinds). or_else (or_else k []) (at_end (walked made_rules [] start word))) (plain_turn word p) ∙ (ap at_end (plain_walk word p) ∙ taken_passes word)

-- ---- what is found

abbrev pub made_rows : List Text → List Row
made_rows words = fold with_default (settled made_rules (walk made_rules [] nothing_held words).held).rows made_rules

-- it is the only word
pub record FindsOne (words : List Text) : Type 0 where
  pub word : Text
  pub are : words ≡ word ∷ []
  pub name : first_of (codes "N") (made_rows words) ≡ Some word

found_word : (word : Text) → IsPlainIn made_rules word → first_of (codes "N") (made_rows (word ∷ [])) ≡ Some word
found_word word p = ap (λ (w : Walk). first_of (codes "N") (fold with_default (settled made_rules w.held).rows made_rules)) (plain_walk word p)

pub finds_one : (words : List Text) → NoDashes words → level_fault made_leaf [] nothing_held words false [] ≡ [] → FindsOne words
unfolding walk_fault defaults_fault
finds_one [] none e = absurd (not_none _ _ e)
finds_one (word ∷ rest) none e = by_word (made_word_is word (front word rest none)) where
  walk_passes : walk_fault made_leaf [] start (word ∷ rest) ≡ []
  walk_passes = first (walk_fault made_leaf [] start (word ∷ rest)) (at_end (walk made_rules [] nothing_held (word ∷ rest))) e

  turn : turn_fault made_leaf [] start word ≡ []
  turn = first (turn_fault made_leaf [] start word) (walk_fault made_leaf [] (walked made_rules [] start word) rest) walk_passes

  further : walk_fault made_leaf [] (walked made_rules [] start word) rest ≡ []
  further = second (turn_fault made_leaf [] start word) (walk_fault made_leaf [] (walked made_rules [] start word) rest) walk_passes

  alone : (rest : List Text) → NoDashes rest → IsPlainIn made_rules word → walk_fault made_leaf [] (taken word) rest ≡ [] → FindsOne (word ∷ rest)
  alone [] none p passes = record { word = word; are = refl; name = found_word word p }
  alone (another ∷ more) none p passes =
      absurd (no_further word another (made_word_is another (front another more none)) (first (turn_fault made_leaf [] (taken word) another) (walk_fault made_leaf [] (walked made_rules [] (taken word) another) more) passes))

  by_word : IsBadIn made_rules word ⊎ IsPlainIn made_rules word → FindsOne (word ∷ rest)
  by_word (inl b) = absurd (bad_first word b turn)
  by_word (inr p) = alone rest (tail word rest none) p (subst (λ (w : Walk). walk_fault made_leaf [] w rest ≡ []) (plain_walk word p) further)
