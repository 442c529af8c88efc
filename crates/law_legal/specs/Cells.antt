-- The scripts of a cell.
use Rattle.std.specs.Prelude.{◌≤◌, ℕ, List, [], ◌∷◌, ⊤}
use Rattle.spec_history.specs.declared.scripts.Script.{Script}
use Rattle.spec_history.specs.declared.scripts.VolumeLine.{VolumeLine}

-- each volume is at a server of the cell, and the cell has eight at most
abbrev pub AreInCell : ℕ → List VolumeLine → Type 0
AreInCell n [] = ⊤
AreInCell n (v ∷ vs) = ((1 ≤ v.server) × (v.server ≤ n)) × AreInCell n vs

pub record IsOfCell (s : Script) : Type 0 where
  pub servers : s.servers ≤ 8
  pub volumes : AreInCell s.servers s.volumes
