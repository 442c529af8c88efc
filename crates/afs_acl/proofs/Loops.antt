-- Reading one entry after the other.
use Rattle.std.proofs.Common.{◌≡◌, ℕ, suc, ◌+◌, ◌-◌, ◌<◌, List, [], ◌∷◌, ◌++◌, Result, Ok, Err, ap, sym, ◌∙◌, arith}
use Rattle.afs_num.specs.declared.acls.AclEntry.{AclEntry}
use Rattle.spec_shape.specs.Reading.{◌>>=◌}
use Rattle.spec_ideal.specs.AccessLists.{Refusal, acl_entry_at, entries_at}

-- at least one is left to read
pub one_left : (count counter : ℕ) (others : List AclEntry) (bytes : List ℕ) → counter < count → entries_at (count - counter) others bytes ≡ (acl_entry_at others bytes >>= (λ e. entries_at (count - (counter + 1)) (others ++ e.0 ∷ []) e.1))
one_left count counter others bytes lt = ap (λ (n : ℕ). entries_at n others bytes) (let z : count - counter ≡ suc (count - (counter + 1)) = omega (arith, lt) in z)

pub goes_on : (count counter : ℕ) (others : List AclEntry) (bytes after : List ℕ) (e : AclEntry) (all : Result (List AclEntry × List ℕ) Refusal) →
    counter < count → acl_entry_at others bytes ≡ Ok (e, after) → entries_at (count - counter) others bytes ≡ all → entries_at (count - (counter + 1)) (others ++ e ∷ []) after ≡ all
goes_on count counter others bytes after e all lt read told =
    sym (ap (λ r. r >>= (λ x. entries_at (count - (counter + 1)) (others ++ x.0 ∷ []) x.1)) read) ∙ (sym (one_left count counter others bytes lt) ∙ told)

pub stops : (count counter : ℕ) (others : List AclEntry) (bytes : List ℕ) (why : Refusal) (all : Result (List AclEntry × List ℕ) Refusal) →
    counter < count → acl_entry_at others bytes ≡ Err why → entries_at (count - counter) others bytes ≡ all → all ≡ Err why
stops count counter others bytes why all lt read told =
    sym told ∙ (one_left count counter others bytes lt ∙ ap (λ r. r >>= (λ x. entries_at (count - (counter + 1)) (others ++ x.0 ∷ []) x.1)) read)
