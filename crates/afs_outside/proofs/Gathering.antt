-- What was gathered, and went on to the sink behind.
use Rattle.std.proofs.Common.{◌≡◌, ℕ, List, [], ◌++◌, length, take, drop, Result, Ok, Err, refl, sym, ap, subst, ◌∙◌, le_refl, append-nil, take-append-drop, drop_of_length-le}
use Rattle.std.specs.Prelude.{Option, Some, None, OnErr, OnOk}
use Rattle.std.specs.Io.KnownBytes.{Appends, Keeps, append_known}
use Rattle.std.proofs.KnownBytes.{append_known-moved, append_known-grown, append_known-kept, Appends-kept, Keeps-refl, Keeps-trans}
use Rattle.std.proofs.lemmas.List.{take_all}
use Rattle.afs_outside.specs.Buffered.{Gathered, given_to, PassesSome}

-- where none wait, the sink behind has them all
none_waits : (known : Option (List ℕ)) → known ≡ append_known known []
none_waits None = refl
none_waits (Some xs) = ap (λ (l : List ℕ). Some l) (sym (append-nil xs))

-- what went on no longer waits
pub moved : {K : Type 0} (held : K → Option (List ℕ)) (old new : Gathered K) (n : ℕ)
    → Appends (held old.inner) (held new.inner) (take n old.waiting) → new.waiting ≡ drop n old.waiting → Keeps (given_to held old) (given_to held new)
moved held old new n passed left =
    append_known-moved (held old.inner) (held new.inner) (take n old.waiting) new.waiting old.waiting passed
    (sym (take-append-drop n old.waiting) ∙ ap (λ (l : List ℕ). take n old.waiting ++ l) (sym left))

-- a part of it went on
pub moved_some : {K T E : Type 0} (held : K → Option (List ℕ)) (old new : Gathered K) (n : ℕ) (r : Result T E)
    → Appends (held old.inner) (held new.inner) (take n old.waiting) → new.waiting ≡ drop n old.waiting → OnErr r (PassesSome held old new)
moved_some held old new n (Ok x) passed left = tt
moved_some held old new n (Err e) passed left = (n, passed, left)

-- all of it went on, and then the sink behind kept it
pub moved_all : {K T E : Type 0} (held : K → Option (List ℕ)) (old new : Gathered K) (between : Option (List ℕ)) (r : Result T E)
    → Appends (held old.inner) between old.waiting → Keeps between (held new.inner) → new.waiting ≡ [] → OnErr r (PassesSome held old new)
moved_all held old new between (Ok x) passed kept none = tt
moved_all held old new between (Err e) passed kept none =
    let n = length old.waiting in
    let whole = Appends-kept (held old.inner) between (held new.inner) old.waiting passed kept in
    (n, subst (λ (l : List ℕ). Appends (held old.inner) (held new.inner) l) (sym (take_all n old.waiting (le_refl n))) whole, none ∙ sym (drop_of_length-le old.waiting (le_refl n)))

-- nothing waits any more, and the sink behind has passed on all that it holds
pub all_passed : {K T E : Type 0} (held : K → Option (List ℕ)) (new : Gathered K) (passed : Option (List ℕ)) (r : Result T E)
    → new.waiting ≡ [] → OnOk r (passed ≡ held new.inner) → OnOk r (passed ≡ given_to held new)
all_passed {K} held new passed (Ok x) none all = all ∙ (none_waits (held new.inner) ∙ ap (λ (l : List ℕ). append_known (held new.inner) l) (sym none))
all_passed {K} held new passed (Err e) none all = tt

-- the sink behind kept what it has, and nothing more was gathered
pub kept_behind : {K : Type 0} (held : K → Option (List ℕ)) (old between new : Gathered K)
    → Keeps (given_to held old) (given_to held between) → Keeps (held between.inner) (held new.inner) → new.waiting ≡ between.waiting → Keeps (given_to held old) (given_to held new)
kept_behind held old between new first second same =
    let later = append_known-kept (held between.inner) (held new.inner) between.waiting second in
    subst (λ (l : List ℕ). Keeps (given_to held old) (append_known (held new.inner) l)) (sym same) (Keeps-trans (given_to held old) (given_to held between) (append_known (held new.inner) between.waiting) first later)

-- what was taken waits behind the rest
pub gathered_behind : {K : Type 0} (held : K → Option (List ℕ)) (old between new : Gathered K) (bytes : List ℕ)
    → Keeps (given_to held old) (given_to held between) → new.inner ≡ between.inner → new.waiting ≡ between.waiting ++ bytes → Appends (given_to held old) (given_to held new) bytes
gathered_behind {K = K} held old between new bytes first inner waiting =
    subst (λ (k : K). Appends (given_to held old) (append_known (held k) new.waiting) bytes) (sym inner) (append_known-grown (given_to held old) (held between.inner) between.waiting new.waiting bytes first waiting)

-- all that was to be taken waits behind the rest
pub gathered : {K : Type 0} (held : K → Option (List ℕ)) (old new : Gathered K) (bytes : List ℕ)
    → new.inner ≡ old.inner → new.waiting ≡ old.waiting ++ bytes → Appends (given_to held old) (given_to held new) (take (length bytes) bytes)
gathered held old new bytes inner waiting =
    subst (λ (l : List ℕ). Appends (given_to held old) (given_to held new) l) (sym (take_all (length bytes) bytes (le_refl (length bytes)))) (gathered_behind held old old new bytes (Keeps-refl (given_to held old)) inner waiting)
