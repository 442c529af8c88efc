-- What makes an ask one that can be spelled: its callee is a node, names are within their limit, and so are the entries that are written.
use Rattle.std.proofs.Common.{◌≡◌, ◌≤◌, ◌<◌, ℕ, suc, ◌+◌, Bool, true, false, cond, ◌&&◌, List, [], ◌∷◌, length, map, refl, ap, subst, sym, arith, nat_eq}
use Rattle.std.specs.List.{AllByRecursion, list_any}
use Rattle.afs_num.specs.Nodes.{IsNode}
use Rattle.afs_num.specs.declared.location_calls.LocEntry.{LocEntry}
use Rattle.afs_num.specs.declared.location_calls.LocSite.{LocSite}
use Rattle.afs_num.specs.declared.types.Node.TheVariants as nodes
use Rattle.spec_records.specs.Entries.{is_read_write}
use Rattle.spec_shape.specs.Items.{site_limit, volume_name_limit}
use Rattle.spec_shape.specs.Tables.{IsCount, IsEntry, IsServer, IsSite}
use Rattle.spec_adminrows.specs.Asks.{home}
use Rattle.spec_adminrows.specs.Entries.{entry_moved, entry_released, is_read_only_site, site_moved, site_released}
use Rattle.spec_adminrows.specs.declared.places.Hold.{Hold}
use Rattle.afs_adminparts.specs.Fitting.{FitsHold}

-- ---- callees

pub server_node : (s : ℕ) → IsServer s → IsNode (nodes.Server s)
server_node s h = grind arith

-- the server of the entry's volume
pub home_node : (h : Hold) → FitsHold h → IsNode (nodes.Server (home h))
home_node h fits = server_node (home h) fits.home

-- ---- counts

pub name_counted : (name : List ℕ) → length name ≤ volume_name_limit → IsCount volume_name_limit (length name)
name_counted name few = (few, omega (arith, few))

-- ---- entries

all_mapped : {A B : Type 0} (P : A → Type 0) (Q : B → Type 0) (f : A → B) → ((x : A) → P x → Q (f x)) → (xs : List A) → AllByRecursion P xs → AllByRecursion Q (map f xs)
all_mapped P Q f step [] all = tt
all_mapped P Q f step (x ∷ xs) all = (step x all.0, all_mapped P Q f step xs all.1)

mapped_count : {A B : Type 0} (f : A → B) (xs : List A) → length (map f xs) ≡ length xs
mapped_count f [] = refl
mapped_count f (x ∷ xs) = ap suc (mapped_count f xs)

either_site : (b : Bool) (s t : LocSite) → IsSite s → IsSite t → IsSite (cond b s t)
either_site true s t first second = first
either_site false s t first second = second

sites_counted : (f : LocSite → LocSite) (e : LocEntry) → IsEntry e → IsCount site_limit (length (map f e.sites))
sites_counted f e is = subst (IsCount site_limit) (sym (mapped_count f e.sites)) is.count

pub moved_is_entry : (target : ℕ) (e : LocEntry) → IsServer target → IsEntry e → IsEntry (entry_moved target e)
moved_is_entry target e at is = record {
  name = is.name;
  count = sites_counted (site_moved target) e is;
  sites = all_mapped IsSite IsSite (site_moved target) (λ s h. either_site (is_read_write s) (record s { server = target }) s at h) e.sites is.sites;
}

pub released_is_entry : (read_only : ℕ) (reached : List ℕ) (e : LocEntry) → IsEntry e → IsEntry (entry_released read_only reached e)
released_is_entry read_only reached e is = record {
  name = is.name;
  count = sites_counted (site_released reached) e is;
  sites = all_mapped IsSite IsSite (site_released reached) (λ s h. either_site (is_read_only_site s && list_any (nat_eq s.server) reached) _ s h h) e.sites is.sites;
}
