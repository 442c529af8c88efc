-- The sites of a round are servers.
use Rattle.std.proofs.Common.{◌≡◌, ℕ, Bool, true, false, cond, List, [], ◌∷◌, map, filter, Some}
use Rattle.std.specs.Prelude.{slice_get}
use Rattle.std.specs.List.{AllByRecursion}
use Rattle.afs_num.specs.declared.location_calls.LocSite.{LocSite}
use Rattle.spec_adminrows.specs.Entries.{is_read_only_site}
use Rattle.spec_adminrows.specs.Releasing.{server_of}
use Rattle.spec_shape.specs.Tables.{IsServer, IsSite}
use Rattle.spec_copyrows.specs.Sites.{behind_first}

servers_by : (b : Bool) (s : LocSite) (rest : List LocSite) → IsSite s → AllByRecursion IsServer (map server_of rest) → AllByRecursion IsServer (map server_of (cond b (s ∷ rest) rest))
servers_by true s rest one all = (one, all)
servers_by false s rest one all = all

-- those of an entry's read-only volume
pub servers_are : (sites : List LocSite) → AllByRecursion IsSite sites → AllByRecursion IsServer (map server_of (filter is_read_only_site sites))
servers_are [] h = tt
servers_are (s ∷ ss) h = servers_by (is_read_only_site s) s (filter is_read_only_site ss) h.0 (servers_are ss h.1)

-- those behind the first
pub servers_behind : (servers : List ℕ) → AllByRecursion IsServer servers → AllByRecursion IsServer (behind_first servers)
servers_behind [] h = tt
servers_behind (s ∷ ss) h = h.1
