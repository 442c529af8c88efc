use Rattle.spec_ideal.proofs.AccessLists.{acl_again}
use Rattle.afs_acl.proofs.laws.texts_are_read_again.Goals as goal

pub returns : goal.returns
returns c = acl_again
