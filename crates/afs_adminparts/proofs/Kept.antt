-- Turns that fit; and an entry that an act goes on with, which names the volume's server.
use Rattle.spec_rows.specs.ClientRow.{number_or_none}
use Rattle.std.proofs.Common.{◌≡◌, ◌≤◌, ℕ, Bool, true, false, cond, not, ◌&&◌, List, [], ◌∷◌, length, Option, Some, None, find, is_some, nat_lt, arith, refl}
use Rattle.std.specs.List.{AllByRecursion, list_all}
use Rattle.std.specs.Option.{option_map}
use Rattle.spec_history.specs.declared.scripts.AdminAct.{AdminAct}
use Rattle.afs_num.specs.Names.{has_size, is_copy_name, is_in, is_name_of, is_plain, volume_name_ok}
use Rattle.afs_num.specs.declared.location_calls.LocEntry.{LocEntry}
use Rattle.afs_num.specs.declared.location_calls.LocSite.{LocSite}
use Rattle.spec_records.specs.Entries.{is_read_write, site_of}
use Rattle.spec_rows.specs.LocRow.{most_listed_sites}
use Rattle.spec_shape.specs.Tables.{IsEntry, IsServer, IsSite}
use Rattle.spec_adminrows.specs.Entries.{home_in, is_usable}
use Rattle.spec_adminrows.specs.declared.turns.Turn.{Turn}
use Rattle.afs_adminparts.specs.Fitting.{FitsHold, FitsTurn, most_named}

pub both_true : (x y : Bool) → (x && y) ≡ true → (x ≡ true) × (y ≡ true)
both_true true y e = (refl, e)
both_true false y e = absurd cc

-- ---- turns

pub either_fits : (act : AdminAct) (b : Bool) (x y : Turn) → FitsTurn act x → FitsTurn act y → FitsTurn act (cond b x y)
either_fits act true x y first second = first
either_fits act false x y first second = second

-- where the second leads only if the test says so
pub guarded_fits : (act : AdminAct) (b : Bool) (x y : Turn) → (b ≡ true → FitsTurn act x) → FitsTurn act y → FitsTurn act (cond b x y)
guarded_fits act true x y first second = first refl
guarded_fits act false x y first second = second

-- ---- entries

abbrev server_in : Option LocSite → Option ℕ
server_in o = option_map (λ (s : LocSite). s.server) o

found_or : (b : Bool) (s : LocSite) (o : Option LocSite) → IsSite s → (is_some (server_in o) ≡ true → IsServer (number_or_none (server_in o)))
    → is_some (server_in (cond b (Some s) o)) ≡ true → IsServer (number_or_none (server_in (cond b (Some s) o)))
found_or true s o first rest h = first
found_or false s o first rest h = rest h

found_server : (sites : List LocSite) → AllByRecursion IsSite sites → is_some (server_in (find is_read_write sites)) ≡ true → IsServer (number_or_none (server_in (find is_read_write sites)))
found_server [] all h = absurd cc
found_server (s ∷ sites) all h = found_or (is_read_write s) s (find is_read_write sites) all.0 (found_server sites all.1) h

pub usable_home : (e : LocEntry) → IsEntry e → is_usable e ≡ true → IsServer (home_in e)
usable_home e is usable = found_server e.sites is.sites (both_true (is_some (site_of e)) _ usable).0

not_less : (b : Bool) → not b ≡ true → b ≡ false
not_less true h = absurd cc
not_less false h = refl

pub usable_few : (e : LocEntry) → is_usable e ≡ true → length e.sites ≤ most_listed_sites
usable_few e usable =
    let few = not_less (nat_lt most_listed_sites (length e.sites)) (both_true (is_some (site_of e)) _ usable).1 in
    grind (arith, few)

pub usable_fits : (e : LocEntry) (stamp : ℕ) → IsEntry e → is_usable e ≡ true → FitsHold (record { entry = e; stamp = stamp })
usable_fits e stamp is usable = record { entry = is; few = usable_few e usable; home = usable_home e is usable }

-- ---- names

pub volume_named : (name : List ℕ) → volume_name_ok name ≡ true → length name ≤ most_named
unfolding volume_name_ok is_name_of
volume_named name ok =
    let named = (both_true (has_size most_named name && list_all is_plain name && not (list_all (is_in 48 57) name)) _ ok).0 in
    let plain = (both_true (has_size most_named name && list_all is_plain name) _ named).0 in
    let sized = (both_true (has_size most_named name) _ plain).0 in
    grind (arith, sized)
