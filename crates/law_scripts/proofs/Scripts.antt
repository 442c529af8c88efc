-- What every script of a cell has: short names, ascending numbers and volumes at its own servers.
use Rattle.std.proofs.Common.{◌≡◌, ℕ, ◌+◌, ◌≤◌, List, [], ◌∷◌, arith}
use Rattle.spec_history.specs.declared.scripts.VolumeLine.{VolumeLine}
use Rattle.law_legal.specs.Cells.{AreInCell}
use Rattle.law_legal.specs.Laws.{AscendBy}
use Rattle.afs_volstore.specs.Laying.{HaveShortNames}
use Rattle.afs_words.specs.declared.nodes.Counts.{Counts}
use Rattle.afs_grammar.specs.CellScripts.{counts_of, AreVolumes}
use Rattle.afs_grammar.proofs.Names.{short_name}
use Rattle.law_scripts.specs.SetUps.{NamesAreShort, NumbersAscend, VolumesAreInCell}

ascend : (c : Counts) (m n : ℕ) (ls : List VolumeLine) → m ≤ n → AreVolumes c n ls → AscendBy m ls
ascend c m n [] le h = tt
ascend c m n (l ∷ ls) le h = (let is = h.0.id in omega (arith, le, is), ascend c (l.id + 1) (n + 1) ls (let is = h.0.id in omega (arith, is)) h.1)

pub numbers_ascend : NumbersAscend
numbers_ascend s h = ascend (counts_of s) 0 536870912 s.volumes (omega arith) h.volumes

short : (c : Counts) (n : ℕ) (ls : List VolumeLine) → AreVolumes c n ls → HaveShortNames ls
short c n [] h = tt
short c n (l ∷ ls) h = (short_name l.name h.0.name, short c (n + 1) ls h.1)

pub names_are_short : NamesAreShort
names_are_short s h = short (counts_of s) 536870912 s.volumes h.volumes

in_cell : (c : Counts) (n : ℕ) (ls : List VolumeLine) → AreVolumes c n ls → AreInCell c.servers ls
in_cell c n [] h = tt
in_cell c n (l ∷ ls) h = (h.0.server, in_cell c (n + 1) ls h.1)

pub volumes_in_cell : VolumesAreInCell
volumes_in_cell s h = record { servers = h.servers.1; volumes = in_cell (counts_of s) 536870912 s.volumes h.volumes }
