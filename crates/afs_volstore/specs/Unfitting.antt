-- Why a record isn't taken.
use Rattle.afs_record.specs.declared.faults.Unfit.{Unfit}
use Rattle.afs_record.specs.declared.faults.Unfit.TheVariants as faults
use Rattle.afs_store.specs.declared.fold.Unfit as store
use Rattle.afs_store.specs.declared.fold.Unfit.TheVariants as told

-- as the store says it
abbrev pub unfit_of : Unfit → store.Unfit
unfit_of faults.Bad = told.Bad
unfit_of faults.OutOfMemory = told.OutOfMemory
