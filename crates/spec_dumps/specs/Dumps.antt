-- Dumps as values: a volume whole, or what was changed in it since its change counter stood at a number.
use Rattle.std.specs.Prelude.{ℕ, List, map, filter, Bool, nat_lt}
use Rattle.spec_ideal.specs.Images.{Image, image_of}
use Rattle.spec_ideal.specs.Tables.{Table, get}
use Rattle.spec_ideal.specs.Volumes.{Vnode, Volume}
use Rattle.spec_records.specs.Durable.{Stored, or_zero}

-- The dump header: the volume's number and name, and the change counter since which vnodes are dumped.
pub record DumpHeader : Type 0 where
  pub id : ℕ
  pub name : List ℕ
  pub from : ℕ

-- The volume header: what a dump has of the volume besides its vnodes. Its flags aren't dumped. `next` is the unique number that
-- the next new vnode gets.
pub record VolumeHeader : Type 0 where
  pub id : ℕ
  pub family : ℕ
  pub kind : ℕ
  pub quota : ℕ
  pub next : ℕ
  pub counter : ℕ
  pub release : ℕ

pub record Headers : Type 0 where
  pub dump : DumpHeader
  pub volume : VolumeHeader

-- After the headers stand the number and unique number of every vnode of the volume, and the images of those that were changed since.
pub record Dump : Type 0 where
  pub headers : Headers
  pub live : List (ℕ × ℕ)
  pub images : List Image

-- ---- the dump of a volume

abbrev pub headers_of : ℕ → ℕ → Volume → Headers
headers_of id from v = record {
  dump = record { id = id; name = v.name; from = from };
  volume = record { id = id; family = v.family; kind = v.kind; quota = v.quota; next = v.next; counter = v.counter; release = v.release };
}

abbrev pub live_in : Table Vnode → List (ℕ × ℕ)
live_in vnodes = map (λ (p : ℕ × Vnode). (p.0, p.1.unique)) vnodes

-- a vnode was changed last when the counter stood above this
abbrev pub is_since : ℕ → ℕ × Vnode → Bool
is_since from p = nat_lt from p.1.changed

-- each with its time
abbrev pub timed_images : Table ℕ → Table Vnode → List Image
timed_images times vnodes = map (λ (p : ℕ × Vnode). image_of p.0 (or_zero (get p.0 times)) p.1) vnodes

abbrev pub images_since : ℕ → Stored → List Image
images_since from s = timed_images s.times (filter (is_since from) s.volume.vnodes)

-- of the volume of this number, since the counter stood so; since 0 it is a full dump
abbrev pub dump_of : ℕ → ℕ → Stored → Dump
dump_of id from s =
    record { headers = headers_of id from s.volume; live = live_in s.volume.vnodes; images = images_since from s }
