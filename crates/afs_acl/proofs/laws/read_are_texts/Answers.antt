use Rattle.spec_ideal.proofs.AccessLists.{read_is_text}
use Rattle.afs_acl.proofs.laws.read_are_texts.Goals as goal

pub returns : goal.returns
returns c = read_is_text
