-- The volumes of a script that was read, or made, are numbered one after the other.
use Rattle.std.proofs.Common.{ℕ, List, [], ◌∷◌, ◌+◌}
use Rattle.spec_history.specs.declared.scripts.Script.{Script}
use Rattle.spec_history.specs.declared.scripts.VolumeLine.{VolumeLine}
use Rattle.afs_words.specs.declared.nodes.Counts.{Counts}
use Rattle.afs_grammar.specs.CellScripts.{counts_of, AreVolumes, IsCellScript}
use Rattle.law_numbers.specs.Numbers.{AreNumberedFrom, IsNumbered}

each_numbered : (c : Counts) (n : ℕ) (ls : List VolumeLine) → AreVolumes c n ls → AreNumberedFrom n ls
each_numbered c n [] are = tt
each_numbered c n (l ∷ ls) are = (are.0.id, each_numbered c (n + 1) ls are.1)

pub are_numbered : (s : Script) → IsCellScript s → IsNumbered s
are_numbered s cell = each_numbered (counts_of s) 536870912 s.volumes cell.volumes
