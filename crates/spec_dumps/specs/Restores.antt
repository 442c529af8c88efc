-- What a dump makes of the volume that it is restored into, and when a stream that comes in pieces is refused.
use Rattle.std.specs.Prelude.{ℕ, ◌-◌, List, [], ◌∷◌, length, map, Bool, true, false, not, ◌&&◌, Option, Some, None, Result, Ok, Err, nat_eq, if◌then◌else◌}
use Rattle.spec_ideal.specs.Images.{Image, value_of}
use Rattle.spec_ideal.specs.Tables.{Table, get}
use Rattle.spec_ideal.specs.Volumes.{Vnode, if_unique}
use Rattle.spec_records.specs.Durable.{Stored, or_zero, allowed}
use Rattle.spec_dumps.specs.Fields.{FieldTaken, took, cut_at, bad_at}
use Rattle.spec_dumps.specs.Dumps.{Dump}
use Rattle.spec_dumps.specs.Streams.{dump_at}

-- ---- the vnodes: those that the dump lists, and no others

abbrev pub image_in : ℕ → List Image → Option Image
image_in n [] = None
image_in n (i ∷ is) = if nat_eq i.vnode n then Some i else image_in n is

-- a vnode with its time
abbrev pub Timed : Type 0
Timed = Vnode × ℕ

abbrev pub timed : ℕ → Option Vnode → Option Timed
timed time None = None
timed time (Some x) = Some (x, time)

-- the vnode of this number: that of the dump's image, or else the one that the volume has, if it has this unique number
abbrev pub vnode_by : Option Image → ℕ → ℕ → Stored → Option Timed
vnode_by (Some i) n unique s = timed i.server_time (value_of i)
vnode_by None n unique s = timed (or_zero (get n s.times)) (if_unique unique (get n s.volume.vnodes))

abbrev pub with_timed : ℕ → Option Timed → Option (Table Timed) → Option (Table Timed)
with_timed n (Some x) (Some t) = Some ((n, x) ∷ t)
with_timed n x t = None

-- all that are listed; None where the dump gives one of them no image, and the volume has it not
abbrev pub restored_vnodes : List (ℕ × ℕ) → List Image → Stored → Option (Table Timed)
restored_vnodes [] is s = Some []
restored_vnodes (p ∷ ps) is s = with_timed p.0 (vnode_by (image_in p.0 is) p.0 p.1 s) (restored_vnodes ps is s)

-- ---- the volume

-- The volume of this number is a read-write volume, and of another family than the dump's. The number of a read-write volume is
-- its family.
abbrev pub is_other_family : ℕ → Stored → Dump → Bool
is_other_family id s d = nat_eq s.volume.kind 0 && not (nat_eq id d.headers.volume.family)

-- there every index begins anew
abbrev pub indexed : Bool → Vnode → Vnode
indexed true x = record x { index = 1 }
indexed false x = x

abbrev pub vnodes_in : Bool → Table Timed → Table Vnode
vnodes_in anew t = map (λ (p : ℕ × Timed). (p.0, indexed anew p.1.0)) t

abbrev pub times_in : Table Timed → Table ℕ
times_in t = map (λ (p : ℕ × Timed). (p.0, p.1.1)) t

-- Family, name, kind and flags of the volume stay; all else is the dump's.
abbrev pub stored_with : ℕ → Stored → Dump → Table Timed → Stored
stored_with id s d t = record s {
  volume = record s.volume {
    quota = d.headers.volume.quota;
    next = d.headers.volume.next;
    counter = d.headers.volume.counter;
    release = d.headers.volume.release;
    vnodes = vnodes_in (is_other_family id s d) t;
  };
  times = times_in t;
}

abbrev pub allowed_with : ℕ → Stored → Dump → Option (Table Timed) → Option Stored
allowed_with id s d None = None
allowed_with id s d (Some t) = allowed (stored_with id s d t)

-- The volume of this number after a dump was restored into it; None where that is no sound volume.
abbrev pub restored : ℕ → Stored → Dump → Option Stored
restored id s d = allowed_with id s d (restored_vnodes d.live d.images s)

-- ---- a stream that comes in pieces

-- where a field begins: these are the bytes from it on
abbrev pub offset_in : List ℕ → List ℕ → ℕ
offset_in bytes left = length bytes - length left

abbrev pub refused_at : List ℕ → FieldTaken Dump → Option ℕ
refused_at bytes (took d rest) = None
refused_at bytes (cut_at left) = None
refused_at bytes (bad_at left) = Some (offset_in bytes left)

-- The offset at which the stream is refused by what came so far; None while it may still become a dump.
unfoldable pub fed : List ℕ → Option ℕ
fed bytes = refused_at bytes (dump_at bytes)

-- the tag of the end, and the magic after it
abbrev pub end_length : ℕ
end_length = 8

abbrev pub made_or : ℕ → Option Stored → Result Stored ℕ
made_or offset None = Err offset
made_or offset (Some s) = Ok s

abbrev pub finished_by : ℕ → Stored → List ℕ → FieldTaken Dump → Result Stored ℕ
finished_by id s bytes (took d rest) = made_or (length bytes - end_length) (restored id s d)
finished_by id s bytes (cut_at left) = Err (offset_in bytes left)
finished_by id s bytes (bad_at left) = Err (offset_in bytes left)

-- What a whole stream makes of the volume of this number, or the offset at which it is refused: that of the first field that is
-- bad or cut. Where the dump makes no sound volume, it is that of the end's tag.
unfoldable pub restored_from : ℕ → Stored → List ℕ → Result Stored ℕ
restored_from id s bytes = finished_by id s bytes (dump_at bytes)
