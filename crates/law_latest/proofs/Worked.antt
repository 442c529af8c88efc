-- Worked histories: changes in the order of their keys; and some that are refused, each for one reason.
use Rattle.std.proofs.Common.{◌≡◌, ℕ, ◌+◌, ◌<◌, inl, inr, List, [], ◌∷◌, refl, subst, arith}
use Rattle.afs_num.specs.declared.histories.Actor.TheVariants as actors
use Rattle.afs_num.specs.declared.types.Key.{Key}
use Rattle.afs_num.specs.declared.types.Node.TheVariants.{Client, Server}
use Rattle.spec_history.specs.declared.lines.Line.{Line}
use Rattle.spec_history.specs.declared.lines.Line.TheVariants as lines
use Rattle.law_legal.specs.Past.{HasChangeBy, IsLater}
use Rattle.spec_rows.specs.Runs.{Entry}
use Rattle.law_latest.specs.Latest.{FollowInOrder}

-- the keys of a client's calls
abbrev key : ℕ → Key
key n = record { node = Client 1; epoch = 1; number = n }

-- an entry of this server with such lines
abbrev tells : ℕ → List Line → Entry
tells server ls = record { actor = actors.Node (Server server); lines = ls; sent = []; volumes = [] }

-- it changes something under this key
abbrev changes : ℕ → ℕ → Entry
changes server n = tells server (lines.Change (Server server) (key n) 0 ∷ [])

-- ---- the first is its server's first change, and the second has a later key

first_then : (k : Key) → HasChangeBy (Server 1) k (lines.Change (Server 1) (key 1) 0 ∷ []) → IsLater (key 2) k
first_then k (inl x) = subst (IsLater (key 2)) x.1 (inr (refl, omega arith))
first_then k (inr x) = absurd x

in_turn : FollowInOrder [] (changes 1 1 ∷ changes 1 2 ∷ [])
in_turn = (
  (record { own_entry = refl; only = refl; latest = λ k x same. absurd x }, tt),
  ((record { own_entry = refl; only = refl; latest = λ k x same. first_then k x }, tt), tt),
)

-- of another server nothing is asked
elsewhere : FollowInOrder [] (changes 1 2 ∷ changes 2 1 ∷ [])
elsewhere = (
  (record { own_entry = refl; only = refl; latest = λ k x same. absurd x }, tt),
  ((record { own_entry = refl; only = refl; latest = λ k x same. elim x [ inl y ↦ (let no : Server 1 ≡ Server 2 = y.0 in absurd cc) | inr y ↦ absurd y ] }, tt), tt),
)

-- ---- refused

-- a key isn't later than itself, nor than a later one
not_later : (n m : ℕ) → n < m + 1 → IsLater (key n) (key m) → ⊥
not_later n m le (inl x) = absurd (omega arith)
not_later n m le (inr x) = let y : m < n = x.1 in absurd (omega arith)

-- a second change under the key
twice : FollowInOrder [] (changes 1 1 ∷ changes 1 1 ∷ []) → ⊥
twice h = not_later 1 1 (omega arith) (h.1.0.0.latest (key 1) (inl (refl, refl)) refl)

-- a change under an earlier one
too_late : FollowInOrder [] (changes 1 2 ∷ changes 1 1 ∷ []) → ⊥
too_late h = not_later 1 2 (omega arith) (h.1.0.0.latest (key 2) (inl (refl, refl)) refl)

-- two changes in one entry
two_at_once : FollowInOrder [] (tells 1 (lines.Change (Server 1) (key 1) 0 ∷ lines.Change (Server 1) (key 2) 0 ∷ []) ∷ []) → ⊥
two_at_once h = let no = h.0.1.0.only in absurd cc

-- a change in another server's entry
in_anothers_entry : FollowInOrder [] (tells 2 (lines.Change (Server 1) (key 1) 0 ∷ []) ∷ []) → ⊥
in_anothers_entry h = let no = h.0.0.own_entry in absurd cc
