-- What a `?` hands up is the stop of the call before it.
use Rattle.std.proofs.Common.{◌≡◌, subst}
use Rattle.std.specs.Prelude.{Result, Err}
use Rattle.std.specs.Result.{IsErrAnd}
use Rattle.std.proofs.lemmas.Result.{err_from_is_err_and}

pub handed_up : {T F : Type 0} (r : Result T F) (e : F) → IsErrAnd r (λ (f : F). f ≡ e) → r ≡ Err e
handed_up {T} {F} r e h = let p = err_from_is_err_and r h in subst (λ (f : F). r ≡ Err f) p.2 p.1
