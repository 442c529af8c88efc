-- XDR: the spelling of words and opaques (RFC 4506, sections 4.2 and 4.10), and its reading.
use Rattle.std.specs.Prelude.{ℕ, ◌+◌, ◌-◌, ◌%◌, ◌==◌, ◌<◌, ◌^◌, List, ◌++◌, length, take, drop, Bool, Result, Ok, Err, nat_lt, replicate, if◌then◌else◌, slice_index}
use Rattle.std.specs.List.{flat_map, list_all, AllByRecursion}
use Rattle.std.specs.Int.{w32, to_be_bytes, from_be_bytes}
use Rattle.afs_xdr.specs.declared.faults.XdrFault.{XdrFault}
use Rattle.afs_xdr.specs.declared.faults.XdrFault.TheVariants.{Short, TooLong, BadPad, Extra}

infixl 10 ◌>>=◌
-- what is read next, from the bytes that are left
abbrev pub ◌>>=◌ : {A B : Type 0} → Result A XdrFault → (A → Result B XdrFault) → Result B XdrFault
(Ok x) >>= f = f x
(Err e) >>= f = Err e

-- a word: four bytes, the highest first
unfoldable pub word : ℕ → List ℕ
word n = to_be_bytes w32 n

abbrev pub words : List ℕ → List ℕ
words ns = flat_map word ns

-- numbers that fit in a word each
abbrev pub AreWords : List ℕ → Type 0
AreWords ns = AllByRecursion (λ n. n < 2 ^ 32) ns

-- as many zero bytes as bring n bytes to a multiple of four
abbrev pub pad_length : ℕ → ℕ
pad_length n = (4 - n % 4) % 4

unfoldable pub pad : ℕ → List ℕ
pad n = replicate (pad_length n) 0

-- an opaque: its count, its bytes, its pad
unfoldable pub opaque : List ℕ → List ℕ
opaque bytes = word (length bytes) ++ (bytes ++ pad (length bytes))

unfoldable pub word_at : List ℕ → Result (ℕ × List ℕ) XdrFault
word_at bytes = if nat_lt (length bytes) 4 then Err Short else Ok (from_be_bytes w32 (take 4 bytes), drop 4 bytes)

abbrev pub are_zero : List ℕ → Bool
are_zero bytes = list_all (λ b. b == 0) bytes

-- the bytes of an opaque of n bytes, behind its count
unfoldable pub counted_at : ℕ → List ℕ → Result (List ℕ × List ℕ) XdrFault
counted_at n bytes =
    if nat_lt (length bytes) (n + pad_length n) then Err Short
    else (if are_zero (take (pad_length n) (drop n bytes)) then Ok (take n bytes, drop (pad_length n) (drop n bytes)) else Err BadPad)

-- an opaque of at most so many bytes
unfoldable pub opaque_at : ℕ → List ℕ → Result (List ℕ × List ℕ) XdrFault
opaque_at most bytes = do
  count ← word_at bytes
  if nat_lt most count.0 then Err TooLong else counted_at count.0 count.1

-- nothing is left
abbrev pub end_at : List ℕ → Result (Unit {0}) XdrFault
end_at bytes = if length bytes == 0 then Ok tt else Err Extra

-- numbers that are bytes
abbrev pub IsBytes : List ℕ → Type 0
IsBytes bytes = (i : ℕ) → slice_index bytes i < 256
