-- Volumes that are laid on a ground.
use Rattle.std.specs.Prelude.{◌≡◌, ℕ, ◌+◌, List, length}
use Rattle.spec_history.specs.declared.scripts.VolumeLine.{VolumeLine}

-- the volume's number is the next behind these
abbrev pub IsNext : VolumeLine → List VolumeLine → Type 0
IsNext l ls = l.id ≡ 536870912 + length ls
