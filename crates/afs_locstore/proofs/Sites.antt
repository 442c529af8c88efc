-- The servers of an entry that has a spelling.
use Rattle.std.proofs.Common.{◌≡◌, ◌<◌, ℕ, Bool, true, false, List, [], ◌∷◌, Option, Some, None, find, arith, if◌then◌else◌, refl}
use Rattle.std.specs.Prelude.{IfSome}
use Rattle.std.specs.List.{AllByRecursion}
use Rattle.std.specs.Option.{option_map}
use Rattle.std.proofs.lemmas.Bool.Decides.{nat_tests}
use Rattle.afs_num.specs.Nodes.{is_between}
use Rattle.afs_num.specs.declared.location_calls.LocSite.{LocSite}
use Rattle.spec_records.specs.Entries.{is_read_write, site_of}
use Rattle.spec_records.specs.LocRecords.{listed_form, entry_form, site_form, Listed}

between_by : (n : ℕ) (b : Bool) → is_between 1 8 n ≡ b → (if b then Some n else None) ≡ Some n → n < 256
between_by n true e h = grind (arith, nat_tests, e)
between_by n false e h = absurd cc

site_small : (s : LocSite) → site_form.Fits s → s.server < 256
site_small s fits = between_by s.server (is_between 1 8 s.server) refl fits.0.0.1

found_small : (s : LocSite) (o : Option LocSite) (is : Bool) → site_form.Fits s → IfSome (option_map (λ (x : LocSite). x.server) o) (λ n. n < 256) → IfSome (option_map (λ (x : LocSite). x.server) (if is then Some s else o)) (λ n. n < 256)
found_small s o true fits later = site_small s fits
found_small s o false fits later = later

sites_small : (sites : List LocSite) → AllByRecursion site_form.Fits sites → IfSome (option_map (λ (x : LocSite). x.server) (find is_read_write sites)) (λ n. n < 256)
sites_small [] fits = tt
sites_small (s ∷ ss) fits = found_small s (find is_read_write ss) (is_read_write s) fits.0 (sites_small ss fits.1)

-- the server of the read-write volume is one of a cell
pub site_is_small : (l : Listed) → listed_form.Fits l → IfSome (site_of l.entry) (λ n. n < 256)
unfolding entry_form
site_is_small l fits = sites_small l.entry.sites fits.0.0.0.1.1.1.1.1.0.1
