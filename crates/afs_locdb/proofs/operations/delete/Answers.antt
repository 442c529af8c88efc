use Rattle.std.proofs.Common.{refl, sym, subst}
use Rattle.spec_records.specs.LocRecords.{entry_form, Listed}
use Rattle.afs_locdb.proofs.Formed.{removes_fits}
use Rattle.afs_locdb.proofs.operations.delete.Goals as goal

pub returns-in_ok-copy_entry-in-Ok-clause-told : goal.returns-in_ok-copy_entry-in-Ok-clause-told
returns-in_ok-copy_entry-in-Ok-clause-told c = (
  (refl, tt),
  record {
    deed = removes_fits _ (subst entry_form.Fits (sym c.in_ok-copy_entry-in-Ok.ensures) (subst (λ (l : Listed). entry_form.Fits l.entry) (sym c.listed.view_is) c.in-Ok.ensures.fits.0.0));
    next_id = c.are_words.ensures.0;
    next_stamp = c.are_words.ensures.1.0;
  },
)
