-- What a word is to clap, in a replay and behind `gen`.
use Rattle.std.proofs.Common.{◌≡◌, ℕ, List, [], ◌∷◌, ◌++◌, Bool, true, false, cond, ◌==◌, Option, Some, None, codes, refl, sym, ap, subst, ◌∙◌, ◌⊎◌, inl, inr, not, nat_eq, bytes_eq, suc, ◌+◌, take, drop, arith}
use Rattle.std.proofs.lemmas.Bool.{eqb-true}
use Rattle.std.proofs.lemmas.Slice.Eq.{bytes_eq-Decides}
use Rattle.std.specs.Prelude.{option_and_then, slice_get}
use Rattle.std.specs.List.{list_any, prefix_len}
use Rattle.std.specs.Str.{chars}
use Rattle.clap.specs.Lexer.{long_of, long_of_rest, name_and_value, short_of, strip_byte}
use Rattle.clap.specs.Faults.{flag_word_fault, flags_fault}
use Rattle.clap.specs.Kinds.{Kinds}
use Rattle.clap.specs.Walk.{Row, Rule, Text, Waiting, arg_by_short, bundle_met, long_or_other, plain_word}
use Rattle.clap.specs.declared.error.kind.ErrorKind.{ErrorKind}
use Rattle.clap.specs.declared.error.kind.ErrorKind.TheVariants.{TooManyValues, UnknownArgument}
use Rattle.spec_model.specs.ScriptWords.{numeral, ranged}
use Rattle.afs_command.specs.Forms.{is_name}
use Rattle.afs_arguments.proofs.Leaf.{held, made_rules, rules}

pub some_is : {A : Type 0} {x y : A} → Some x ≡ Some y → x ≡ y
some_is e = cc

pub alike : (a b : List ℕ) → bytes_eq a b ≡ true → a ≡ b
alike a b = (bytes_eq-Decides a b).0

pub not_none : (k : ErrorKind) (more : Kinds) → k ∷ more ≡ [] → ⊥
not_none k more e = absurd cc

pub not_false : (b : Bool) → not b ≡ true → b ≡ false
not_false true e = sym e
not_false false e = refl

-- ---- how a word is cut

stripped : (c : ℕ) (text rest : Text) → strip_byte c text ≡ Some rest → text ≡ c ∷ rest
stripped c [] rest e = absurd cc
stripped c (x ∷ more) rest e = either (x == c) refl e where
  either : (is : Bool) → (x == c) ≡ is → cond is (Some more) None ≡ Some rest → x ∷ more ≡ c ∷ rest
  either true is e = ap (λ (n : ℕ). n ∷ more) (eqb-true x c is) ∙ ap (λ (t : Text). c ∷ t) (some_is e)
  either false is e = absurd cc

stepped : {A B : Type 0} (f : A → Option B) (o : Option A) (y : B) → option_and_then f o ≡ Some y → (x : A) × ((o ≡ Some x) × (f x ≡ Some y))
stepped f None y e = absurd cc
stepped f (Some x) y e = (x, (refl, e))

-- what stands behind the name
abbrev pub behind : Option Text → Text
behind None = []
behind (Some value) = 61 ∷ value

longer : (x : ℕ) (more : Text) (n : ℕ) (has : Bool) → x ∷ (take n more ++ behind (cond has (Some (drop (n + 1) more)) None)) ≡ take (1 + n) (x ∷ more) ++ behind (cond has (Some (drop ((1 + n) + 1) (x ∷ more))) None)
longer x more n has =
    let one : 1 + n ≡ suc n = omega arith in
    let two : (1 + n) + 1 ≡ suc (n + 1) = omega arith in
    rw (two, one) refl

cut : (text : Text) → text ≡ (name_and_value text).0 ++ behind (name_and_value text).1
cut [] = refl
cut (x ∷ more) = either (x == 61) refl (cut more) where
  either : (is : Bool) → (x == 61) ≡ is → more ≡ (name_and_value more).0 ++ behind (name_and_value more).1 → x ∷ more ≡ (name_and_value (x ∷ more)).0 ++ behind (name_and_value (x ∷ more)).1
  either true is rest = rw (is) (ap (λ (n : ℕ). n ∷ more) (eqb-true x 61 is))
  either false is rest = rw (is) (ap (λ (t : Text). x ∷ t) rest ∙ longer x more (prefix_len (λ (y : ℕ). not (y == 61)) more) (list_any (λ (y : ℕ). y == 61) more))

cut_rest : (text : Text) (p : Text × Option Text) → long_of_rest text ≡ Some p → text ≡ p.0 ++ behind p.1
cut_rest [] p e = absurd cc
cut_rest (x ∷ more) p e = cut (x ∷ more) ∙ ap (λ (q : Text × Option Text). q.0 ++ behind q.1) (some_is e)

spelled : (word name : Text) (value : Option Text) → long_of word ≡ Some (name, value) → word ≡ 45 ∷ 45 ∷ (name ++ behind value)
spelled word name value e =
    let last = stepped long_of_rest (option_and_then (strip_byte 45) (strip_byte 45 word)) (name, value) e in
    let first = stepped (strip_byte 45) (strip_byte 45 word) last.0 last.1.0 in
    stripped 45 word first.0 first.1.0 ∙ ap (λ (t : Text). 45 ∷ t) (stripped 45 first.0 last.0 first.1.1 ∙ ap (λ (t : Text). 45 ∷ t) (cut_rest last.0 (name, value) last.1.1))

-- ---- the kinds of words

-- the word is a flag that these rules haven't, or one with a value that it doesn't take
pub record IsBadIn (all : List Rule) (word : Text) : Type 0 where
  pub dashes : bytes_eq word (codes "--") ≡ false
  pub fault : (rows : List Row) (pending : Option (Text × List Text)) → flag_word_fault all false (long_of word) word (held rows pending) ≡ [] → ⊥

-- the word is no flag
pub record IsPlainIn (all : List Rule) (word : Text) : Type 0 where
  pub dashes : bytes_eq word (codes "--") ≡ false
  pub fault : (rows : List Row) (pending : Option (Text × List Text)) → flag_word_fault all false (long_of word) word (held rows pending) ≡ []
  pub met : (waiting : Waiting) (rows : List Row) (pending : Option (Text × List Text)) → long_or_other all waiting word (long_of word) (held rows pending) ≡ plain_word all waiting word (held rows pending)

abbrev pub IsBad : Text → Type 0
IsBad word = IsBadIn rules word

abbrev pub IsPlain : Text → Type 0
IsPlain word = IsPlainIn rules word

pub data Word (word : Text) : Type 0 where
  tells : word ≡ codes "--wire" → Word word
  asks : word ≡ codes "--disks" → Word word
  names : (name : Text) → word ≡ codes "--disks=" ++ name → Word word
  bad : IsBad word → Word word
  plain : IsPlain word → Word word

of_wire : (word name : Text) (value : Option Text) → bytes_eq word (codes "--") ≡ false → long_of word ≡ Some (name, value) → bytes_eq (codes "wire") name ≡ true → Word word
of_wire word name None d e is = tells (spelled word name None e ∙ ap (λ (n : Text). 45 ∷ 45 ∷ (n ++ [])) (sym (alike (codes "wire") name is)))
of_wire word name (Some value) d e is = bad (record { dashes = d; fault = fault }) where
  fault : (rows : List Row) (pending : Option (Text × List Text)) → flag_word_fault rules false (long_of word) word (held rows pending) ≡ [] → ⊥
  fault rows pending f =
      let there : flag_word_fault rules false (long_of word) word (held rows pending) ≡ TooManyValues ∷ [] = rw (e, is) refl in
      not_none _ _ (sym there ∙ f)

of_disks : (word name : Text) (value : Option Text) → long_of word ≡ Some (name, value) → bytes_eq (codes "disks") name ≡ true → Word word
of_disks word name None e is = asks (spelled word name None e ∙ ap (λ (n : Text). 45 ∷ 45 ∷ (n ++ [])) (sym (alike (codes "disks") name is)))
of_disks word name (Some value) e is = names value (spelled word name (Some value) e ∙ ap (λ (n : Text). 45 ∷ 45 ∷ (n ++ 61 ∷ value)) (sym (alike (codes "disks") name is)))

of_other : (word name : Text) (value : Option Text) → bytes_eq word (codes "--") ≡ false → long_of word ≡ Some (name, value) → bytes_eq (codes "wire") name ≡ false → bytes_eq (codes "disks") name ≡ false → Word word
of_other word name value d e no_wire no_disks = bad (record { dashes = d; fault = fault }) where
  fault : (rows : List Row) (pending : Option (Text × List Text)) → flag_word_fault rules false (long_of word) word (held rows pending) ≡ [] → ⊥
  fault rows pending f =
      let there : flag_word_fault rules false (long_of word) word (held rows pending) ≡ UnknownArgument ∷ [] = rw (e, no_wire, no_disks) refl in
      not_none _ _ (sym there ∙ f)

of_long : (word name : Text) (value : Option Text) → bytes_eq word (codes "--") ≡ false → long_of word ≡ Some (name, value) → Word word
of_long word name value d e = by_wire (bytes_eq (codes "wire") name) refl where
  by_disks : (is : Bool) → bytes_eq (codes "disks") name ≡ is → bytes_eq (codes "wire") name ≡ false → Word word
  by_disks true is no_wire = of_disks word name value e is
  by_disks false is no_wire = of_other word name value d e no_wire is

  by_wire : (is : Bool) → bytes_eq (codes "wire") name ≡ is → Word word
  by_wire true is = of_wire word name value d e is
  by_wire false is = by_disks (bytes_eq (codes "disks") name) refl is

-- no rule has a short flag
of_short : (all : List Rule) → ((letter : ℕ) → arg_by_short all letter ≡ None) → (word flags : Text) → bytes_eq word (codes "--") ≡ false → long_of word ≡ None → short_of word ≡ Some flags → IsBadIn all word ⊎ IsPlainIn all word
unfolding flags_fault bundle_met
of_short all none word [] d l s = inr (record { dashes = d; fault = λ rows pending. rw (l, s) refl; met = λ waiting rows pending. rw (l, s) refl })
of_short all none word (x ∷ more) d l s = by_first (slice_get (chars (x ∷ more)) 0) refl where
  by_first : (first : Option ℕ) → slice_get (chars (x ∷ more)) 0 ≡ first → IsBadIn all word ⊎ IsPlainIn all word
  by_first None is = inr (record { dashes = d; fault = λ rows pending. rw (l, s, is) refl; met = λ waiting rows pending. rw (l, s, is) refl })
  by_first (Some flag) is = inl (record { dashes = d; fault = fault }) where
    fault : (rows : List Row) (pending : Option (Text × List Text)) → flag_word_fault all false (long_of word) word (held rows pending) ≡ [] → ⊥
    fault rows pending f =
        let there : flag_word_fault all false (long_of word) word (held rows pending) ≡ UnknownArgument ∷ [] = rw (l, s, is, none flag) refl in
        not_none _ _ (sym there ∙ f)

of_plain : (all : List Rule) (word : Text) → bytes_eq word (codes "--") ≡ false → long_of word ≡ None → short_of word ≡ None → IsPlainIn all word
of_plain all word d l s = record { dashes = d; fault = λ rows pending. rw (l, s) refl; met = λ waiting rows pending. rw (l, s) refl }

either_word : (word : Text) → IsBad word ⊎ IsPlain word → Word word
either_word word (inl b) = bad b
either_word word (inr p) = plain p

-- each word but `--` is of one of the kinds
pub word_is : (word : Text) → bytes_eq word (codes "--") ≡ false → Word word
word_is word d = by_long (long_of word) refl where
  by_short : (flags : Option Text) → long_of word ≡ None → short_of word ≡ flags → Word word
  by_short None l s = plain (of_plain rules word d l s)
  by_short (Some flags) l s = either_word word (of_short rules (λ letter. refl) word flags d l s)

  by_long : (cut : Option (Text × Option Text)) → long_of word ≡ cut → Word word
  by_long None l = by_short (short_of word) l refl
  by_long (Some p) l = of_long word p.0 p.1 d l

-- behind `gen` each is a flag that it hasn't, or none
pub made_word_is : (word : Text) → bytes_eq word (codes "--") ≡ false → IsBadIn made_rules word ⊎ IsPlainIn made_rules word
made_word_is word d = by_long (long_of word) refl where
  by_short : (flags : Option Text) → long_of word ≡ None → short_of word ≡ flags → IsBadIn made_rules word ⊎ IsPlainIn made_rules word
  by_short None l s = inr (of_plain made_rules word d l s)
  by_short (Some flags) l s = of_short made_rules (λ letter. refl) word flags d l s

  by_long : (cut : Option (Text × Option Text)) → long_of word ≡ cut → IsBadIn made_rules word ⊎ IsPlainIn made_rules word
  by_long None l = by_short (short_of word) l refl
  by_long (Some p) l = inl (record { dashes = d; fault = fault }) where
    fault : (rows : List Row) (pending : Option (Text × List Text)) → flag_word_fault made_rules false (long_of word) word (held rows pending) ≡ [] → ⊥
    fault rows pending f =
        let there : flag_word_fault made_rules false (long_of word) word (held rows pending) ≡ UnknownArgument ∷ [] = rw (l) refl in
        not_none _ _ (sym there ∙ f)

-- a folder's name is no flag
pub name_is_plain : (all : List Rule) (name : Text) → is_name name ≡ true → IsPlainIn all name
name_is_plain all [] is = absurd cc
name_is_plain all (letter ∷ more) is =
    let no : nat_eq letter 45 ≡ false = not_false (nat_eq letter 45) is in
    of_plain all (letter ∷ more) (rw (no) refl) (rw (no) refl) (rw (no) refl)

-- and no number begins as an option does
hyphen_is_none : (more : Text) (number : ℕ) → ranged 1 1000 (45 ∷ more) ≡ Some number → ⊥
unfolding ranged numeral
hyphen_is_none more number is = absurd cc

pub number_is_name : (word : Text) (number : ℕ) → ranged 1 1000 word ≡ Some number → is_name word ≡ true
unfolding ranged numeral
number_is_name [] number is = absurd cc
number_is_name (letter ∷ more) number is = either (nat_eq letter 45) refl where
  either : (hyphen : Bool) → nat_eq letter 45 ≡ hyphen → not (nat_eq letter 45) ≡ true
  either true h = absurd (hyphen_is_none more number (subst (λ (n : ℕ). ranged 1 1000 (n ∷ more) ≡ Some number) (eqb-true letter 45 h) is))
  either false h = rw (h) refl
