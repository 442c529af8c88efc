use Rattle.std.proofs.Common.{◌≡◌, ◌∙◌, ℕ, List, Some, ap, rules, subst, sym}
use Rattle.std.specs.Prelude.{Err, Ok}
use Rattle.spec_ideal.specs.Tables.{get}
use Rattle.spec_dumps.specs.Restores.{restored_from}
use Rattle.afs_restore.specs.declared.faults.DumpFault.{DumpFault}
use Rattle.afs_shelves.specs.Deeds.{SuitsDeed}
use Rattle.afs_shelves.specs.Shelving.{kept_on, shelved}
use Rattle.afs_shelves.specs.declared.deed.Deed.TheVariants as deeds
use Rattle.afs_volume.specs.Taking.{stored_of}
use Rattle.afs_shelves.proofs.Made.{can_be_restored, cant_be_restored, restored_in}
use Rattle.afs_readying.proofs.deeds.restored.Goals as goal

pub returns-in_ok-copy-in-Ok-clause-suits : goal.returns-in_ok-copy-in-Ok-clause-suits
returns-in_ok-copy-in-Ok-clause-suits c =
    let d = kept_on c.args.shelves.now in
    let old = c.in-Some.old.now in
    let v = c.in-Ok.volume in
    let there : get v.head.id d.volumes ≡ Some (shelved old) = ap (λ (n : ℕ). get n d.volumes) (c.in-Ok.ensures.id ∙ c.in-Some.ensures.id) ∙ c.in-Some.ensures.some in
    let made : restored_from v.head.id (stored_of old.volume) c.args.dump.now ≡ Ok (stored_of v) =
    subst (λ (bytes : List ℕ). restored_from v.head.id (stored_of old.volume) bytes ≡ Ok (stored_of v)) c.as_slice.ensures
    (subst (λ (n : ℕ). restored_from n (stored_of old.volume) c.as_slice.result.now ≡ Ok (stored_of v)) (sym c.in-Ok.ensures.id) c.in-Ok.ensures.ok) in
    subst (λ (bytes : List ℕ). SuitsDeed (deeds.Restore (record { dump = bytes; volume = v })) d) (sym c.in_ok-copy-in-Ok.ensures)
    (record {
      can = can_be_restored d v.head.id c.args.dump.now old (stored_of v) there made;
      made = restored_in d c.args.dump.now v old there made;
    })

pub returns-in-Err-Bad-clause-bad : goal.returns-in-Err-Bad-clause-bad
returns-in-Err-Bad-clause-bad c = λ e.
    let d = kept_on c.args.shelves.now in
    let old = c.in-Some.old.now in
    let refused : restored_from old.volume.head.id (stored_of old.volume) c.as_slice.result.now ≡ Err c.in-Err-Bad.field-0-0 = c.restore.ensures.bad c.in-Err-Bad.field-0-0 (c.in-Err-Bad.is ∙ ap (λ (f : DumpFault). Err f) c.in-Err-Bad.field-0-is) in
    cant_be_restored d c.args.id c.in-Err-Bad.field-0-0 c.args.dump.now old c.in-Some.ensures.some
    (subst (λ (bytes : List ℕ). restored_from c.args.id (stored_of old.volume) bytes ≡ Err c.in-Err-Bad.field-0-0) c.as_slice.ensures
    (subst (λ (n : ℕ). restored_from n (stored_of old.volume) c.as_slice.result.now ≡ Err c.in-Err-Bad.field-0-0) c.in-Some.ensures.id refused))
