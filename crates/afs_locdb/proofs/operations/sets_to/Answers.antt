use Rattle.afs_locdb.proofs.Formed.{sets_fits}
use Rattle.afs_locdb.proofs.operations.sets_to.Goals as goal

pub returns-clause-form : goal.returns-clause-form
returns-clause-form c = record { deed = sets_fits _ c.requires; next_id = c.are_words.ensures.0; next_stamp = c.are_words.ensures.1.0 }
