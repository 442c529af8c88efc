-- A sink that gathers bytes before it passes them on to the sink behind it.
use Rattle.std.specs.Prelude.{◌≡◌, ℕ, List, ◌++◌, length, take, drop, Option, Result, Ok}
use Rattle.std.specs.Io.KnownBytes.{Appends, append_known}
use Rattle.afs_outside.specs.declared.outside.Failed.{Failed}

-- the sink behind, and the bytes that wait to be passed on to it
pub record Gathered (K : Type 0) : Type 0 where
  pub inner : K
  pub waiting : List ℕ

-- all that it was given: what the sink behind holds, and then what waits
abbrev pub given_to : {K : Type 0} → (K → Option (List ℕ)) → Gathered K → Option (List ℕ)
given_to held s = append_known (held s.inner) s.waiting

-- the bytes were taken and wait behind the others, and the sink behind wasn't called
pub record Gathers {K : Type 0} (old new : Gathered K) (bytes : List ℕ) (result : Result ℕ Failed) : Type 0 where
  pub taken : result ≡ Ok (length bytes)
  pub waiting : new.waiting ≡ old.waiting ++ bytes
  pub inner : new.inner ≡ old.inner

-- all that waited was passed on
abbrev pub PassesAll : {K : Type 0} → (K → Option (List ℕ)) → Gathered K → Gathered K → Type 0
PassesAll held old new = Appends (held old.inner) (held new.inner) old.waiting

-- a beginning of what waited was passed on, and the rest waits
abbrev pub PassesSome : {K : Type 0} → (K → Option (List ℕ)) → Gathered K → Gathered K → Type 0
PassesSome held old new = (n : ℕ) × Appends (held old.inner) (held new.inner) (take n old.waiting) × (new.waiting ≡ drop n old.waiting)
