-- What a dump makes of a volume is the row's verdict, and the volume is that of its record.
use Rattle.std.proofs.Common.{◌≡◌, ◌∙◌, ℕ, List, [], ◌++◌, Bool, true, false, Option, Some, None, Ok, Err, length, nat_eq, nat_lt, refl, ap, sym, subst}
use Rattle.afs_num.specs.declared.records.RecordBody.{RecordBody}
use Rattle.afs_num.specs.declared.records.RecordBody.TheVariants as bodies
use Rattle.afs_num.specs.declared.volume_calls.VolReply.TheVariants as replies
use Rattle.spec_records.specs.Durable.{Stored}
use Rattle.spec_records.specs.Records.{most_dump}
use Rattle.spec_dumps.specs.Restores.{restored_from}
use Rattle.afs_volume.specs.Taking.{stored_of}
use Rattle.afs_volume.specs.declared.volume.Volume.{Volume}
use Rattle.afs_shelves.specs.Shelving.{stored_as}
use Rattle.afs_shelves.proofs.Made.{refused_as, restored_as}
use Rattle.spec_volrows.specs.VolRow as row
use Rattle.spec_volrows.specs.VolStates.{Transaction}
use Rattle.afs_voldecisions.specs.Verdicts.{made_in, verdict_of, CanTell, IsJudged, IsMadeBy, IsMadeIn, IsMadeOrNone}
use Rattle.afs_voldecisions.specs.declared.verdicts.Verdict.{Verdict}
use Rattle.afs_voldecisions.specs.declared.verdicts.Verdict.TheVariants as verdicts
use Rattle.afs_voldecisions.proofs.Judging.{judged_of}

-- ---- the whole dump

abbrev body_in : row.Verdict → Option RecordBody
body_in (row.refused code after) = None
body_in (row.accepted p) = p.body
body_in (row.sends x) = None

made_is : (v made : Volume) (body : Option RecordBody) (x : Verdict) → body_in (verdict_of x) ≡ body → made_in x ≡ Some made → IsMadeBy v body made → IsMadeIn v x
made_is v made body (verdicts.Refused code after) e m by = tt
made_is v made body (verdicts.Accepted p) e m by =
    subst (λ (o : Option Volume). IsMadeOrNone v p.body o) (sym m) (subst (λ (b : Option RecordBody). IsMadeBy v b made) (sym e) by)
made_is v made body (verdicts.Sends x) e m by = tt

pub restored_is : (number : ℕ) (dump : List ℕ) (v made : Volume) (x : Verdict) → verdict_of x ≡ row.writes replies.Restore (bodies.Restore v.head.id dump) (Some v.head.id) (row.gives number []) → CanTell 102 x → made_in x ≡ Some made
    → made.head.id ≡ v.head.id → restored_from v.head.id (stored_of v) dump ≡ Ok (stored_of made) → (is_new : Bool) → IsJudged 102 v (row.whole_given number v.head.id dump (restored_from v.head.id (stored_as is_new v) dump)) x
restored_is number dump v made x e told m same is is_new =
    let id = v.head.id in
    record {
      decides = e ∙ sym (ap (row.whole_given number id dump) (restored_as is_new id dump v made is));
      told = told;
      made = made_is v made (Some (bodies.Restore id dump)) x (ap body_in e) m (record { here = refl; number = same; made = λ b. restored_as b id dump v made is });
    }

pub refused_is : (number offset : ℕ) (dump : List ℕ) (v : Volume) (x : Verdict) → verdict_of x ≡ row.refused row.bad_dump (row.gives number []) → CanTell 102 x → made_in x ≡ None
    → restored_from v.head.id (stored_of v) dump ≡ Err offset → (is_new : Bool) → IsJudged 102 v (row.whole_given number v.head.id dump (restored_from v.head.id (stored_as is_new v) dump)) x
refused_is number offset dump v x e told unmade is is_new =
    let id = v.head.id in
    judged_of 102 v (row.whole_given number id dump (restored_from id (stored_as is_new v) dump)) x
    (record { decides = e ∙ sym (ap (row.whole_given number id dump) (refused_as is_new id offset dump v is)); told = told; unmade = unmade })

-- ---- its last piece

last_given : (number offset last id : ℕ) (piece given : List ℕ) (t : Transaction) (s : Stored) → nat_eq offset (length t.given) ≡ true → given ≡ t.given ++ piece → nat_lt most_dump (length given) ≡ false → nat_eq last 0 ≡ false
    → t.volume ≡ id → row.restores number offset last piece t s ≡ row.whole_given number id given (restored_from id s given)
last_given number offset last id piece given t s at joined short final held = rw (at, ← joined, short, final, held) refl

pub last_is : (number offset last : ℕ) (piece given : List ℕ) (t : Transaction) (v : Volume) → nat_eq offset (length t.given) ≡ true → given ≡ t.given ++ piece → nat_lt most_dump (length given) ≡ false → nat_eq last 0 ≡ false
    → (x : Verdict) → ((is_new : Bool) → IsJudged 102 v (row.whole_given number v.head.id given (restored_from v.head.id (stored_as is_new v) given)) x)
    → (is_new : Bool) → t.volume ≡ v.head.id → IsJudged 102 v (row.restores number offset last piece t (stored_as is_new v)) x
last_is number offset last piece given t v at joined short final x h is_new held =
    subst (λ (r : row.Verdict). IsJudged 102 v r x) (sym (last_given number offset last v.head.id piece given t (stored_as is_new v) at joined short final held)) (h is_new)
