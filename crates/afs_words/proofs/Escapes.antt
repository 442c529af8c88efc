-- A spelled name goes on behind its first byte.
use Rattle.std.proofs.Common.{◌≡◌, ℕ, ◌<◌, Bool, true, false, List, [], ◌∷◌, ◌++◌, length, Some, None, if◌then◌else◌, refl, ap, ◌∙◌, append_assoc, rules, arith}
use Rattle.std.specs.Prelude.{◌&&◌}
use Rattle.std.specs.List.{list_all}
use Rattle.afs_num.specs.Names.{is_plain}
use Rattle.afs_words.specs.Words.{unescaped_from, is_escape, escaped_byte}

pub plain_goes_on : (out : List ℕ) (a : ℕ) (more : List ℕ) → is_plain a ≡ true → unescaped_from out (a ∷ more) ≡ unescaped_from (out ++ a ∷ []) more
plain_goes_on out a [] plain = rw plain refl
plain_goes_on out a (b ∷ []) plain = rw plain refl
plain_goes_on out a (b ∷ c ∷ more) plain = rw plain refl

pub escape_goes_on : (out : List ℕ) (a b c : ℕ) (more : List ℕ) → is_plain a ≡ false → is_escape a b c ≡ true → unescaped_from out (a ∷ b ∷ c ∷ more) ≡ unescaped_from (out ++ escaped_byte b c ∷ []) more
escape_goes_on out a b c more plain escape = rw (plain, escape) refl

pub no_escape : (out : List ℕ) (a b c : ℕ) (more : List ℕ) → is_plain a ≡ false → is_escape a b c ≡ false → unescaped_from out (a ∷ b ∷ c ∷ more) ≡ None
no_escape out a b c more plain escape = rw (plain, escape) refl

pub too_short : (out : List ℕ) (a : ℕ) (more : List ℕ) → is_plain a ≡ false → length more < 2 → unescaped_from out (a ∷ more) ≡ None
too_short out a [] plain short = rw plain refl
too_short out a (b ∷ []) plain short = rw plain refl
too_short out a (b ∷ c ∷ more) plain short = absurd (omega (arith, short))

pub escaped_on : (out : List ℕ) (a b c byte : ℕ) (more : List ℕ) → is_plain a ≡ false → Some byte ≡ (if is_escape a b c then Some (escaped_byte b c) else None) → unescaped_from out (a ∷ b ∷ c ∷ more) ≡ unescaped_from (out ++ byte ∷ []) more
escaped_on out a b c byte more plain e = by (is_escape a b c) refl e
  where
    by : (t : Bool) → is_escape a b c ≡ t → Some byte ≡ (if t then Some (escaped_byte b c) else None) → unescaped_from out (a ∷ b ∷ c ∷ more) ≡ unescaped_from (out ++ byte ∷ []) more
    by true f e = escape_goes_on out a b c more plain f ∙ ap (λ (n : ℕ). unescaped_from (out ++ n ∷ []) more) (let same : escaped_byte b c ≡ byte = cc in same)
    by false f e = absurd cc

both_by : (s t : Bool) → (s && t) ≡ true → (s ≡ true) × (t ≡ true)
both_by true t e = (refl, e)
both_by false t e = absurd cc

all_stay : (out spelled : List ℕ) → list_all is_plain spelled ≡ true → unescaped_from out spelled ≡ Some (out ++ spelled)
all_stay out [] all = ap Some (let end : out ≡ out ++ [] = search rules in end)
all_stay out (a ∷ more) all =
    let plain = both_by (is_plain a) (list_all is_plain more) all in
    plain_goes_on out a more plain.0 ∙ (all_stay (out ++ a ∷ []) more plain.1 ∙ ap Some (append_assoc out (a ∷ []) more))

-- plain bytes are their own spelling
pub plain_stays : (spelled : List ℕ) → list_all is_plain spelled ≡ true → unescaped_from [] spelled ≡ Some spelled
plain_stays spelled all = all_stay [] spelled all
