use Rattle.std.proofs.Common.{rules}
use Rattle.spec_ideal.proofs.AccessLists.{acl_again}
use Rattle.afs_acl.proofs.acl.Acl.text.Goals as goal

pub returns-clause-parsed : goal.returns-clause-parsed
returns-clause-parsed c = search (rules, acl_again c.self.inside.list c.self.invariant)
