use Rattle.std.proofs.Common.{ℕ, ◌≤◌, List, length, subst, sym}
use Rattle.afs_grammar.proofs.Names.{short_name}
use Rattle.afs_ground.proofs.laid.Laid.new.Goals as goal

pub new-requires-clause-name : goal.new-requires-clause-name
new-requires-clause-name c = subst (λ (n : List ℕ). length n ≤ 32) (sym c.as_slice-name.ensures) (short_name c.args.line.now.name c.requires.name)
