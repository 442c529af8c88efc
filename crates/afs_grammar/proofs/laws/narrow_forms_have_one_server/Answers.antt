use Rattle.afs_grammar.proofs.Servers.{one_server}
use Rattle.afs_grammar.proofs.laws.narrow_forms_have_one_server.Goals as goal

pub returns : goal.returns
returns c = one_server
