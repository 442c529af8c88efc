-- The table of locations, when an entry comes.
use Rattle.std.specs.Prelude.{◌≡◌, List, [], ◌∷◌, ◌++◌, true, false, Option, Some, None}
use Rattle.afs_num.specs.declared.location_calls.LocSite.{LocSite}
use Rattle.spec_rows.specs.States.{Location}
use Rattle.spec_rows.specs.ClientRow.{has_location, put_location}

abbrev pub sites_from : List LocSite → Option (LocSite × List LocSite)
sites_from [] = None
sites_from (s ∷ ss) = Some (s, ss)

-- the table with the entry, where that isn't the table as it is
abbrev pub Puts : Location → List Location → Option (List Location) → Type 0
Puts l t None = has_location l t ≡ true
Puts l t (Some u) = (has_location l t ≡ false) × (u ≡ put_location l t)
