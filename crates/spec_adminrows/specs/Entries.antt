-- What administrators write into entries of the location database.
use Rattle.spec_rows.specs.ClientRow.{number_or_none}
use Rattle.std.specs.Prelude.{ℕ, ◌+◌, ◌-◌, List, [], ◌∷◌, ◌++◌, ◌&&◌, Bool, is_some, length, map, nat_eq, nat_lt, not, if◌then◌else◌}
use Rattle.std.specs.List.{list_any}
use Rattle.afs_num.specs.declared.location_calls.LocEntry.{LocEntry}
use Rattle.afs_num.specs.declared.location_calls.LocSite.{LocSite}
use Rattle.spec_ideal.specs.Volumes.{has_bit}
use Rattle.spec_records.specs.Entries.{exists_read_write, is_read_write, read_write_site, site_of}
use Rattle.spec_rows.specs.LocRow.{most_listed_sites}

-- ---- flags

-- of a site: it is new, and has a read-only volume
abbrev pub new_site : ℕ
new_site = 1

abbrev pub read_only_site : ℕ
read_only_site = 2

-- of an entry: its family has a read-only volume, or a backup
abbrev pub exists_read_only : ℕ
exists_read_only = 8192

abbrev pub exists_backup : ℕ
exists_backup = 16384

abbrev pub with_bit : ℕ → ℕ → ℕ
with_bit bit n = if has_bit bit n then n else n + bit

abbrev pub without_bit : ℕ → ℕ → ℕ
without_bit bit n = if has_bit bit n then n - bit else n

-- ---- where its volumes are

-- the server of the read-write volume; 0 where the entry names none
abbrev pub home_in : LocEntry → ℕ
home_in e = number_or_none (site_of e)

abbrev pub is_read_only_site : LocSite → Bool
is_read_only_site s = has_bit read_only_site s.flags

abbrev pub is_read_only_at : ℕ → LocSite → Bool
is_read_only_at server s = nat_eq s.server server && is_read_only_site s

abbrev pub has_read_only_at : ℕ → LocEntry → Bool
has_read_only_at server e = list_any (is_read_only_at server) e.sites

-- An act goes on with an entry only where that names the volume's server, and has no more sites than the database lists: with a further
-- one it can still be spelled. The database lists no other kind of entry, so in a run each one is usable. A reply with one that isn't counts
-- as none.
abbrev pub is_usable : LocEntry → Bool
is_usable e = is_some (site_of e) && not (nat_lt most_listed_sites (length e.sites))

-- ---- what is written

-- the entry of a new volume
abbrev pub new_entry : List ℕ → ℕ → ℕ → LocEntry
new_entry name volume server = record {
  name = name;
  read_write = volume;
  read_only = 0;
  backup = 0;
  flags = exists_read_write;
  sites = record { server = server; flags = read_write_site } ∷ [];
}

-- with a site of the read-only volume that is new
abbrev pub entry_added : ℕ → LocEntry → LocEntry
entry_added server e = record e { sites = e.sites ++ record { server = server; flags = new_site + read_only_site } ∷ [] }

-- with a backup
abbrev pub entry_backed : ℕ → LocEntry → LocEntry
entry_backed backup e = record e { backup = backup; flags = with_bit exists_backup e.flags }

-- a site that a release reached isn't new any more
abbrev pub site_released : List ℕ → LocSite → LocSite
site_released reached s = if (is_read_only_site s && list_any (nat_eq s.server) reached) then record s { flags = without_bit new_site s.flags } else s

abbrev pub entry_released : ℕ → List ℕ → LocEntry → LocEntry
entry_released read_only reached e = record e { read_only = read_only; flags = with_bit exists_read_only e.flags; sites = map (site_released reached) e.sites }

-- the volume is at another server, and its backup isn't there any more
abbrev pub site_moved : ℕ → LocSite → LocSite
site_moved target s = if is_read_write s then record s { server = target } else s

abbrev pub entry_moved : ℕ → LocEntry → LocEntry
entry_moved target e = record e { sites = map (site_moved target) e.sites; backup = 0; flags = without_bit exists_backup e.flags }
