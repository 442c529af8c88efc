-- Entries of the location database: what it says of a family of volumes, and the entry of a volume at set-up.
use Rattle.std.specs.Prelude.{ℕ, List, [], ◌∷◌, Bool, true, false, ◌&&◌, Option, find, nat_eq}
use Rattle.std.specs.Option.{option_map}
use Rattle.std.specs.Str.{bytes_eq}
use Rattle.afs_num.specs.declared.location_calls.LocEntry.{LocEntry}
use Rattle.afs_num.specs.declared.location_calls.LocSite.{LocSite}
use Rattle.spec_history.specs.declared.scripts.VolumeLine.{VolumeLine}
use Rattle.spec_ideal.specs.Volumes.{has_bit}

-- the flag of the site of a read-write volume
abbrev pub read_write_site : ℕ
read_write_site = 4

abbrev pub is_read_write : LocSite → Bool
is_read_write s = has_bit read_write_site s.flags

-- the server of the read-write volume
abbrev pub site_of : LocEntry → Option ℕ
site_of e = option_map (λ (s : LocSite). s.server) (find is_read_write e.sites)

-- ---- two entries are the same

abbrev pub same_sites : List LocSite → List LocSite → Bool
same_sites [] [] = true
same_sites (s ∷ ss) (t ∷ ts) = (nat_eq s.server t.server && nat_eq s.flags t.flags) && same_sites ss ts
same_sites ss ts = false

abbrev pub same_numbers : LocEntry → LocEntry → Bool
same_numbers e f = nat_eq e.read_write f.read_write && (nat_eq e.read_only f.read_only && nat_eq e.backup f.backup)

abbrev pub same_entry : LocEntry → LocEntry → Bool
same_entry e f = bytes_eq e.name f.name && (same_numbers e f && (nat_eq e.flags f.flags && same_sites e.sites f.sites))

-- ---- set-up

-- the flag of a family that has a read-write volume
abbrev pub exists_read_write : ℕ
exists_read_write = 4096

-- a volume of a script has no copies
abbrev pub entry_of_line : VolumeLine → LocEntry
entry_of_line v = record {
  name = v.name;
  read_write = v.id;
  read_only = 0;
  backup = 0;
  flags = exists_read_write;
  sites = record { server = v.server; flags = read_write_site } ∷ [];
}
