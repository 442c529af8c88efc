-- Lists with one item a key. An item has the key that `key` takes from it, and `same` compares two keys.
use Rattle.std.specs.Prelude.{ℕ, ◌+◌, ◌≤◌, ◌<◌, List, [], ◌∷◌, ◌++◌, Bool, not, Option, Some, None, find, filter}

abbrev pub keyed : {T K : Type 0} → (T → K) → (K → K → Bool) → K → List T → Option T
keyed {T} key same k items = find (λ (x : T). same (key x) k) items

abbrev pub other_keyed : {T K : Type 0} → (T → K) → (K → K → Bool) → K → List T → List T
other_keyed {T} key same k items = filter (λ (x : T). not (same (key x) k)) items

-- the item takes the place of the one with its key, and stands last, or first
abbrev pub put_last : {T K : Type 0} → (T → K) → (K → K → Bool) → T → List T → List T
put_last key same x items = other_keyed key same (key x) items ++ x ∷ []

abbrev pub put_first : {T K : Type 0} → (T → K) → (K → K → Bool) → T → List T → List T
put_first key same x items = x ∷ other_keyed key same (key x) items

-- an item whose key has one already needs no room
abbrev pub HasRoom : {T : Type 0} → Option T → ℕ → Type 0
HasRoom {T} None room = 0 < room
HasRoom {T} (Some x) room = Unit {0}

-- without the item of its key a list is shorter
abbrev pub Frees : {T : Type 0} → Option T → ℕ → ℕ → Type 0
Frees {T} None new old = new ≤ old
Frees {T} (Some x) new old = new < old

-- the first item of a key takes one place of the room at most, a later one none
abbrev pub KeepsRoom : {T : Type 0} → Option T → ℕ → ℕ → Type 0
KeepsRoom {T} None old new = old ≤ new + 1
KeepsRoom {T} (Some x) old new = old ≤ new
