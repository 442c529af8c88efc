-- The cache of the program, in the words of the rows.
use Rattle.std.specs.Prelude.{◌≡◌, ◌≤◌, ◌<◌, ◌-◌, ◌||◌, ℕ, List, [], ◌∷◌, ◌++◌, Bool, true, false, map, filter, not, length, slice_get, nat_eq, nat_lt, is_some, IsSome, Option, Some, None, ◌==◌, ◌&&◌, if◌then◌else◌}
use Rattle.std.specs.List.{All, AllByRecursion}
use Rattle.std.specs.Option.{option_map}
use Rattle.std.specs.Map.{lookup, remove_entry}
use Rattle.afs_num.specs.Fids.{same_fid}
use Rattle.afs_num.specs.Nodes.{same_node}
use Rattle.afs_num.specs.declared.types.Fid.{Fid}
use Rattle.afs_num.specs.declared.histories.Body.{Body}
use Rattle.afs_num.specs.declared.histories.Body.TheVariants as bodies
use Rattle.spec_rows.specs.States.{CacheEntry, Gift}
use Rattle.spec_rows.specs.ClientRow.{find_cached, used_first, put_entry, is_trusted, is_older, is_among_fids}
use Rattle.afs_entries.specs.declared.cache.Slot.{Slot}
use Rattle.afs_entries.specs.declared.cache.Entry.{Entry}
use Rattle.afs_entries.specs.declared.cache.Fresh.{Fresh}
use Rattle.afs_entries.specs.declared.drops.Drops.{Drops}
use Rattle.afs_entries.specs.declared.drops.Drops.TheVariants as drops
use Rattle.lru.specs.LruCache.{LruCache}

-- the entries, that which was used last first, and how many there may be
pub record Kept : Type 0 where
  pub entries : List CacheEntry
  pub capacity : ℕ

abbrev pub slot_of : Fid → Slot
slot_of f = record { volume = f.volume; vnode = f.vnode; unique = f.unique }

abbrev pub fid_in : Slot → Fid
fid_in s = record { volume = s.volume; vnode = s.vnode; unique = s.unique }

abbrev pub entry_at : Fid → Entry → CacheEntry
entry_at f e = record { fid = f; index = e.index; status = e.status; body = e.body; server = e.server; expiry = e.expiry; release = e.release }

abbrev pub cached : Slot × Entry → CacheEntry
cached p = entry_at (fid_in p.0) p.1

abbrev pub kept : ℕ → LruCache Slot Entry → Kept
kept n c = record { entries = map cached c.entries; capacity = n }

-- it is as long as its capacity at most; the map has room for as many as there can be
pub record FitsCache (n : ℕ) (c : LruCache Slot Entry) : Type 0 where
  pub some : 0 < n
  pub few : length c.entries ≤ n
  pub wide : c.cap ≡ 18446744073709551615

-- ---- use

-- the entry of this fid stands first, where there is one
abbrev pub first_by : List CacheEntry → Option CacheEntry → List CacheEntry
first_by cache None = cache
first_by cache (Some e) = used_first e cache

abbrev pub touched : Fid → List CacheEntry → List CacheEntry
touched f cache = first_by cache (find_cached f cache)

abbrev pub touched_all : List Fid → List CacheEntry → List CacheEntry
touched_all [] cache = cache
touched_all (f ∷ fs) cache = touched_all fs (touched f cache)

-- ---- what goes

abbrev pub without : Fid → List CacheEntry → List CacheEntry
without f cache = filter (λ e. not (same_fid e.fid f)) cache

abbrev pub without_all : List Fid → List CacheEntry → List CacheEntry
without_all [] cache = cache
without_all (f ∷ fs) cache = without_all fs (without f cache)

-- without the entries of these fids
abbrev pub unlisted : List Fid → List CacheEntry → List CacheEntry
unlisted fs cache = filter (λ e. not (is_among_fids e.fid fs)) cache

abbrev pub drops_of : Drops → CacheEntry → Bool
drops_of drops.Nothing e = false
drops_of (drops.Fid f) e = same_fid f e.fid
drops_of (drops.Older f index release) e = is_older f index release e
drops_of (drops.Volume id) e = nat_eq e.fid.volume id
drops_of (drops.Below id release) e = nat_eq e.fid.volume id && nat_lt e.release release
drops_of (drops.Server s) e = same_node e.server s
drops_of (drops.Trusted now) e = is_trusted now e

abbrev pub fid_dropped : Drops → Option Fid
fid_dropped (drops.Fid f) = Some f
fid_dropped (drops.Older f index release) = Some f
fid_dropped d = None

-- whether this one goes
abbrev pub taken_by : Drops → Option CacheEntry → Bool
taken_by d None = false
taken_by d (Some e) = drops_of d e

-- the fids of the entries that go, in order
abbrev pub listed : Drops → List CacheEntry → List Fid
listed d cache = map (λ e. e.fid) (filter (drops_of d) cache)

abbrev pub left : Drops → List CacheEntry → List CacheEntry
left d cache = filter (λ e. not (drops_of d e)) cache

-- ---- what comes

abbrev pub entry_of : Fresh → CacheEntry
entry_of f = entry_at f.fid f.entry

-- the body that a store made
abbrev pub made_of : Option (List ℕ) → Option Body → Option Body
made_of None body = body
made_of (Some contents) body = Some (bodies.File contents)

-- the body of an entry that takes the place of an old one
abbrev pub body_over : Option Body → ℕ → Entry → Option Body
body_over (Some body) index old = Some body
body_over None index old = if nat_eq old.index index then old.body else None

abbrev pub entry_joined : Bool → Entry → Entry → Entry
entry_joined true e old = record e { body = body_over e.body e.index old }
entry_joined false e old = e

-- the fid of the entry that was used first
abbrev pub last_fid : List CacheEntry → Option Fid
last_fid cache = option_map (λ (e : CacheEntry). e.fid) (slice_get cache (length cache - 1))

abbrev pub evicted_by : Bool → List CacheEntry → Option Fid
evicted_by true cache = None
evicted_by false cache = last_fid cache

-- the fid whose entry goes where one of this fid comes into a cache of so many entries at most
abbrev pub evicted : ℕ → Fid → List CacheEntry → Option Fid
evicted n f cache = evicted_by (nat_lt (length cache) n || is_some (find_cached f cache)) cache

-- it is this fid
abbrev pub is_fid : Fid → Option Fid → Bool
is_fid f None = false
is_fid f (Some g) = same_fid g f

-- each fid has one entry
abbrev pub AreApart : List CacheEntry → Type 0
AreApart [] = Unit {0}
AreApart (e ∷ es) = AllByRecursion (λ (x : CacheEntry). same_fid e.fid x.fid ≡ false) es × AreApart es

-- what holds of every cache
pub record IsSound (k : Kept) : Type 0 where
  pub some : 0 < k.capacity
  pub few : length k.entries ≤ k.capacity
  pub apart : AreApart k.entries

-- ---- the cache as it will be

abbrev pub in_sight : Kept → Option Fresh → List CacheEntry
in_sight k None = k.entries
in_sight k (Some f) = put_entry k.capacity (entry_of f) k.entries

abbrev pub HasBody : Option Fresh → Type 0
HasBody None = Unit {0}
HasBody (Some f) = IsSome f.entry.body

-- ---- keys of the map

-- equality of slots, as the map has it
abbrev pub same_slot : Slot → Slot → Bool
same_slot a b = (a.volume == b.volume) && ((a.vnode == b.vnode) && (a.unique == b.unique))

abbrev pub HasKey : Slot → LruCache Slot Entry → Type 0
HasKey s c = IsSome (lookup (same_slot s) c.entries)

-- the old entries stand in front
abbrev pub IsFront : List (Slot × Entry) → List (Slot × Entry) → Type 0
IsFront old new = (tail : List (Slot × Entry)) × (new ≡ old ++ tail)

-- each of these has a place
abbrev pub HasAll : List Fresh → LruCache Slot Entry → Type 0
HasAll fresh c = All (λ (f : Fresh). HasKey (slot_of f.fid) c) fresh

-- the key has this entry, and stands first
abbrev pub raised : Slot → Entry → List (Slot × Entry) → List (Slot × Entry)
raised s v es = (s, v) ∷ remove_entry (same_slot s) es

abbrev pub KeepsKeys : LruCache Slot Entry → LruCache Slot Entry → Type 0
KeepsKeys old new = (s : Slot) → HasKey s old → HasKey s new

-- a pair comes behind others, unless its entry goes
abbrev pub with_left : Drops → Slot × Entry → List (Slot × Entry) → List (Slot × Entry)
with_left d p es = if drops_of d (cached p) then es else es ++ p ∷ []

-- ---- gifts

abbrev pub first_gift : List Gift → Option (Gift × List Gift)
first_gift [] = None
first_gift (g ∷ gs) = Some (g, gs)
