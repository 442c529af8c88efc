-- The words of a line of a script, read from left to right. Each reader takes the words that are left, and gives what
-- it read with the words behind it, or the reason why the line is bad.
use Rattle.std.specs.Prelude.{ℕ, Bool, true, false, List, [], ◌∷◌, ◌++◌, ◌+◌, ◌-◌, ◌*◌, ◌&&◌, ◌||◌, nat_eq, nat_le, length, Option, Some, None, Result, Ok, Err, if◌then◌else◌}
use Rattle.std.specs.List.{slice_split}
use Rattle.std.specs.Option.{ok_or}
use Rattle.afs_num.specs.Names.{is_in}
use Rattle.afs_num.specs.declared.types.Fid.{Fid}
use Rattle.afs_num.specs.declared.scripts.Reason.{Reason}
use Rattle.afs_num.specs.declared.scripts.Reason.TheVariants as reasons

-- first the one, then the other with what it gave; the first refusal is the answer
infixl 10 ◌>>=◌
abbrev pub ◌>>=◌ : {A B E : Type 0} → Result A E → (A → Result B E) → Result B E
(Ok x) >>= f = f x
(Err e) >>= f = Err e

-- a test that has to pass
abbrev pub must : Bool → Reason → Result (Unit {0}) Reason
must true reason = Ok tt
must false reason = Err reason

-- what stands between the bytes `cut`: one part more than there are such bytes
abbrev pub parts : ℕ → List ℕ → List (List ℕ)
parts cut bytes = slice_split (λ b. nat_eq b cut) bytes

-- the next word; it isn't empty, so a space stands neither twice nor at an end
unfoldable pub word_at : List (List ℕ) → Result (List ℕ × List (List ℕ)) Reason
word_at [] = Err reasons.Word
word_at ([] ∷ more) = Err reasons.Word
word_at ((b ∷ bs) ∷ more) = Ok (b ∷ bs, more)

-- no word is left over
unfoldable pub no_word_left : List (List ℕ) → Result (Unit {0}) Reason
no_word_left [] = Ok tt
no_word_left (word ∷ more) = Err reasons.Word

-- Numbers: decimal, without leading zeros.

-- n with the digits behind it, as far as it stays at most `high`
abbrev pub number_from : ℕ → ℕ → List ℕ → Option ℕ
number_from high n [] = Some n
number_from high n (d ∷ ds) =
    if is_in 48 57 d && nat_le (n * 10 + (d - 48)) high then number_from high (n * 10 + (d - 48)) ds else None

unfoldable pub numeral : ℕ → List ℕ → Option ℕ
numeral high [] = None
numeral high (d ∷ ds) =
    if nat_eq d 48 then (if nat_eq (length ds) 0 then Some 0 else None) else number_from high 0 (d ∷ ds)

abbrev pub at_least : ℕ → Option ℕ → Option ℕ
at_least low None = None
at_least low (Some n) = if nat_le low n then Some n else None

-- a number from `low` to `high`
unfoldable pub ranged : ℕ → ℕ → List ℕ → Option ℕ
ranged low high word = at_least low (numeral high word)

unfoldable pub number_at : ℕ → ℕ → List (List ℕ) → Result (ℕ × List (List ℕ)) Reason
number_at low high words = do
  word ← word_at words
  n ← ok_or (ranged low high word.0) reasons.Number
  Ok (n, word.1)

-- a node of one kind, of which there are `count`: the letter of the kind and the node's number
unfoldable pub node_number_read : ℕ → ℕ → List ℕ → Option ℕ
node_number_read letter count [] = None
node_number_read letter count (b ∷ digits) = if nat_eq b letter then ranged 1 count digits else None

-- Contents: `hex:` and pairs of lower-case hexadecimal digits.

abbrev pub is_hex : ℕ → Bool
is_hex b = is_in 48 57 b || is_in 97 102 b

abbrev pub hex_value : ℕ → ℕ
hex_value b = if nat_le b 57 then b - 48 else b - 87

-- `out` with the bytes that the digits stand for behind it
abbrev pub hex_from : List ℕ → List ℕ → Option (List ℕ)
hex_from out [] = Some out
hex_from out (a ∷ []) = None
hex_from out (a ∷ b ∷ digits) =
    if is_hex a && is_hex b then hex_from (out ++ (hex_value a * 16 + hex_value b) ∷ []) digits else None

-- A fid: `@` and its three numbers, parted by dots.

unfoldable pub field_at : List (List ℕ) → Result (ℕ × List (List ℕ)) Reason
field_at [] = Err reasons.Path
field_at (word ∷ more) = do
  n ← ok_or (ranged 0 4294967295 word) reasons.Path
  Ok (n, more)

unfoldable pub fid_of : List (List ℕ) → Result Fid Reason
fid_of fields = do
  volume ← field_at fields
  vnode ← field_at volume.1
  unique ← field_at vnode.1
  three ← must (nat_eq (length unique.1) 0) reasons.Path
  Ok (record { volume = volume.0; vnode = vnode.0; unique = unique.0 })
