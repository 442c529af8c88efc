-- What is found of a volume, and what stands under its number.
use Rattle.std.proofs.Common.{◌≡◌, ℕ, Bool, true, false, Option, Some, None, refl, sym, ap, ◌∙◌}
use Rattle.std.specs.Prelude.{if◌then◌else◌, is_some}
use Rattle.std.specs.Borrow.{Bor}
use Rattle.std.specs.Option.{option_copied, option_map}
use Rattle.spec_records.specs.Durable.{Stored}
use Rattle.afs_shelves.specs.Shelving.{stored_as}
use Rattle.afs_volume.specs.declared.volume.Volume.{Volume}
use Rattle.spec_volrows.specs.VolRow.{volume_of_family}
use Rattle.afs_voldecisions.specs.Verdicts.{family_in, IsShelf}

pub seen_there : (id : ℕ) (v : Option (Bor Volume)) (o : Option Stored) → IsShelf id v o → is_some v ≡ is_some o
seen_there id None o e = sym (ap is_some e)
seen_there id (Some v) o is = sym (ap is_some is.1.1)

kept_as : (t is_new : Bool) (v : Volume) → (if t then Some (stored_as is_new v) else None) ≡ option_map (stored_as is_new) (if t then Some v else None)
kept_as true is_new v = refl
kept_as false is_new v = refl

-- where it is of the family
seen_of : (family id : ℕ) (v : Option (Bor Volume)) (o : Option Stored) → IsShelf id v o → (is_new : Bool) × (volume_of_family family o ≡ option_map (stored_as is_new) (family_in family (option_copied v)))
seen_of family id None o e = (false, ap (volume_of_family family) e)
seen_of family id (Some v) o is = (is.1.0, ap (volume_of_family family) is.1.1 ∙ kept_as _ is.1.0 v.now)

pub none_of_family : (family id : ℕ) (v : Option (Bor Volume)) (o : Option Stored) → IsShelf id v o → family_in family (option_copied v) ≡ None → volume_of_family family o ≡ None
none_of_family family id v o is none = let seen = seen_of family id v o is in seen.1 ∙ ap (option_map (stored_as seen.0)) none

pub one_of_family : (family id : ℕ) (v : Option (Bor Volume)) (o : Option Stored) (w : Volume) → IsShelf id v o → family_in family (option_copied v) ≡ Some w → (is_new : Bool) × (volume_of_family family o ≡ Some (stored_as is_new w))
one_of_family family id v o w is one = let seen = seen_of family id v o is in (seen.0, seen.1 ∙ ap (option_map (stored_as seen.0)) one)
