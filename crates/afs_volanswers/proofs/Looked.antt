-- A volume that was made to judge a call is the one that its record makes of what the disk keeps.
use Rattle.std.proofs.Common.{◌≡◌, ℕ, Bool, List, Option, Some, None, Ok, refl, sym, ap, subst, ◌∙◌}
use Rattle.std.specs.Prelude.{IfSome}
use Rattle.std.specs.Borrow.{Bor}
use Rattle.afs_num.specs.declared.records.RecordBody.{RecordBody}
use Rattle.afs_num.specs.declared.records.RecordBody.TheVariants as bodies
use Rattle.spec_dumps.specs.Restores.{restored_from}
use Rattle.spec_fold.specs.Deeds.{can_restore}
use Rattle.spec_ideal.specs.Tables.{get}
use Rattle.spec_records.specs.Durable.{Durable, Stored}
use Rattle.afs_shelves.specs.Shelving.{is_new_in, stored_as}
use Rattle.afs_volume.specs.declared.volume.Volume.{Volume}
use Rattle.afs_voldecisions.specs.Verdicts.{made_in, IsMadeIn, IsMadeOf, IsMadeOrNone, IsMadeWith}
use Rattle.afs_voldecisions.specs.declared.verdicts.Verdict.{Verdict}
use Rattle.afs_voldecisions.specs.declared.verdicts.Verdict.TheVariants as verdicts
use Rattle.afs_volanswers.specs.Deciding.{IsMadeIfWritten, IsMadeInVerdict, IsMadeThere}

some_is : {A : Type 0} (x y : A) → ◌≡◌ {A = Option A} (Some x) (Some y) → x ≡ y
some_is x y e = cc

made_there : (d : Durable) (v w : Volume) (is_new : Bool) (id : ℕ) (dump : List ℕ) → get v.head.id d.volumes ≡ Some (stored_as is_new v) → IsMadeOf v id dump w → IsMadeThere d (bodies.Restore id dump) (Some w)
made_there d v w is_new id dump there is =
    let here : get id d.volumes ≡ Some (stored_as is_new v) = ap (λ (n : ℕ). get n d.volumes) is.here ∙ there in (
      is.number,
      record {
        can = ap (can_restore id dump) here ∙ rw (is.made is_new) refl;
        made = λ s found.
            let same : stored_as is_new v ≡ s = some_is _ s (sym here ∙ (ap (λ (n : ℕ). get n d.volumes) (sym is.number) ∙ found)) in
            ap (λ (n : ℕ). restored_from n s dump) is.number ∙ (ap (λ (t : Stored). restored_from id t dump) (sym same) ∙ (is.made is_new ∙ ap (λ (t : Stored). Ok (stored_as t.is_new w)) same));
      },
    )

made_if : (d : Durable) (v : Volume) (is_new : Bool) (body : Option RecordBody) (made : Option Volume) → get v.head.id d.volumes ≡ Some (stored_as is_new v) → IsMadeOrNone v body made → IsMadeIfWritten d body made
made_if d v is_new None None there is = refl
made_if d v is_new (Some body) None there is = tt
made_if d v is_new None (Some w) there is = absurd is
made_if d v is_new (Some (bodies.Restore id dump)) (Some w) there is = made_there d v w is_new id dump there is
made_if d v is_new (Some body) (Some w) there is = absurd is

none_made : (d : Durable) (body : Option RecordBody) (made : Option Volume) → made ≡ None → IsMadeIfWritten d body made
none_made d None made none = none
none_made d (Some body) made none = subst (IsMadeThere d body) (sym none) tt

made_in_volume : (d : Durable) (v : Volume) (is_new : Bool) (x : Verdict) → get v.head.id d.volumes ≡ Some (stored_as is_new v) → IsMadeIn v x → IsMadeInVerdict d x
made_in_volume d v is_new (verdicts.Refused code after) there is = tt
made_in_volume d v is_new (verdicts.Accepted p) there is = made_if d v is_new p.body p.made there is
made_in_volume d v is_new (verdicts.Sends x) there is = tt

none_in : (d : Durable) (x : Verdict) → made_in x ≡ None → IsMadeInVerdict d x
none_in d (verdicts.Refused code after) none = tt
none_in d (verdicts.Accepted p) none = none_made d p.body p.made none
none_in d (verdicts.Sends x) none = tt

pub made_as_written : (d : Durable) (held : Option (Bor Volume)) (x : Verdict) → IfSome held (λ v. get v.now.head.id d.volumes ≡ Some (stored_as (is_new_in v.now.head.id d.volumes) v.now)) → IsMadeWith held x → IsMadeInVerdict d x
made_as_written d None x there is = none_in d x is
made_as_written d (Some v) x there is = made_in_volume d v.now (is_new_in v.now.head.id d.volumes) x there is
