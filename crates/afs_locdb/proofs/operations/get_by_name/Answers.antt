use Rattle.std.proofs.Common.{refl, sym, subst}
use Rattle.spec_records.specs.LocRecords.{entry_form, Listed}
use Rattle.afs_locdb.proofs.Formed.{entry_within}
use Rattle.afs_locdb.proofs.operations.get_by_name.Goals as goal

pub returns-in_ok-copy_entry-in-Some-clause-told : goal.returns-in_ok-copy_entry-in-Some-clause-told
returns-in_ok-copy_entry-in-Some-clause-told c = (refl, (entry_within _ (subst entry_form.Fits (sym c.in_ok-copy_entry-in-Some.ensures) (subst (λ (l : Listed). entry_form.Fits l.entry) (sym c.listed.view_is) c.in-Some.ensures.fits.0.0)), tt))
