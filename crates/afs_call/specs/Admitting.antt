-- What a table of calls answers, in the words of the rules of calls.
use Rattle.spec_model.specs.Calls.{Admitted, runs, kept, in_progress, older, wrong_boot}
use Rattle.afs_call.specs.declared.seat.Admit.{Admit}
use Rattle.afs_call.specs.declared.seat.Admit.TheVariants.{Run, Kept, InProgress, Old, WrongBoot}

abbrev pub means : {R : Type 0} → Admit R → Admitted R
means {R} Run = runs
means {R} (Kept reply) = kept reply.now
means {R} InProgress = in_progress
means {R} Old = older
means {R} (WrongBoot boot) = wrong_boot boot
