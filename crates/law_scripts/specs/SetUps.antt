-- What a script that was read gives the cell that plays it.
use Rattle.std.specs.Prelude.{◌≡◌, ℕ, Some}
use Rattle.spec_history.specs.declared.scripts.Script.{Script}
use Rattle.spec_fold.specs.SetUps.{set_up}
use Rattle.spec_records.specs.Durable.{Durable}
use Rattle.spec_records.specs.LocDurable.{loc_set_up, LocDurable}
use Rattle.law_legal.specs.Cells.{IsOfCell}
use Rattle.law_legal.specs.Laws.{AscendBy}
use Rattle.afs_volstore.specs.Laying.{HaveShortNames}
use Rattle.afs_volstore.specs.Opening.{CanBeSetUp}
use Rattle.afs_locdb.specs.Creating.{CanBeListed}
use Rattle.afs_grammar.specs.CellScripts.{IsCellScript}
use Rattle.afs_grammar.specs.Lines.{lines_of_server}

-- each server's volumes can be set up, and their first record fits on a disk of the script's capacity
abbrev pub SetUpsAreAccepted : Type 0
SetUpsAreAccepted = (s : Script) → IsCellScript s → (server : ℕ) → CanBeSetUp (lines_of_server server s.volumes) × ((d : Durable) × (set_up s.capacity (lines_of_server server s.volumes) ≡ Some d))

-- the location database can be set up with an entry for each volume, and its first record fits there too
abbrev pub LocSetUpsAreAccepted : Type 0
LocSetUpsAreAccepted = (s : Script) → IsCellScript s → CanBeListed s.volumes × ((d : LocDurable) × (loc_set_up s.capacity s.volumes ≡ Some d))

abbrev pub NamesAreShort : Type 0
NamesAreShort = (s : Script) → IsCellScript s → HaveShortNames s.volumes

abbrev pub NumbersAscend : Type 0
NumbersAscend = (s : Script) → IsCellScript s → AscendBy 0 s.volumes

-- each volume is at one of the cell's servers, of which there are eight at most
abbrev pub VolumesAreInCell : Type 0
VolumesAreInCell = (s : Script) → IsCellScript s → IsOfCell s
