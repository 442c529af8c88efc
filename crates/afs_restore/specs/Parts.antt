-- What a reader of a dump keeps of what it read.
use Rattle.std.specs.Prelude.{◌≡◌, [], length, take}
use Rattle.spec_dumps.specs.Dumps.{Dump}
use Rattle.afs_restore.specs.Reading.{headers_told}
use Rattle.afs_restore.specs.declared.parts.Noted.{Noted}
use Rattle.afs_restore.specs.declared.parts.Parts.{Parts}

-- the dump that was read, where it was read whole
abbrev pub dump_in : Parts → Dump
dump_in p = record { headers = headers_told p.headers; live = p.live.items; images = p.images.items }

-- nothing was listed, and no image came
pub record IsAtFirst (p : Parts) : Type 0 where
  pub live : p.live.items ≡ []
  pub images : p.images.items ≡ []

-- both have read the same
pub record AreSame (p q : Parts) : Type 0 where
  pub headers : q.headers ≡ p.headers
  pub live : q.live.items ≡ p.live.items
  pub images : q.images.items ≡ p.images.items
  pub next : q.next ≡ p.next

-- what the first one has in its lists stands first in those of the second
pub record Keeps (p q : Parts) : Type 0 where
  pub live : take (length p.live.items) q.live.items ≡ p.live.items
  pub images : take (length p.images.items) q.images.items ≡ p.images.items

-- how far the reading came is noted
pub record IsNoted (p : Parts) (n : Noted) : Type 0 where
  pub headers : n.headers ≡ p.headers
  pub listed : n.listed ≡ length p.live.items
  pub imaged : n.imaged ≡ length p.images.items
  pub next : n.next ≡ p.next
