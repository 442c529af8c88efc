-- A disk behind a fuse.
use Rattle.std.specs.Prelude.{ℕ, ◌+◌, ◌-◌, ◌^◌, min, Option, Some}
use Rattle.afs_disk.specs.Disk.{Room}

-- A disk, how many device calls came to it, where they stop and fail, and how often they were stopped or failed by that.
pub record Fused (D : Type 0) : Type 0 where
  pub disk : D
  pub calls : ℕ
  pub stop : Option ℕ
  pub fail : Option ℕ
  pub tripped : ℕ

-- the last number of a counter
abbrev pub last_of_counter : ℕ
last_of_counter = 2 ^ 64 - 1

-- armed to pass so many device calls from now on, and no more
abbrev pub armed : {D : Type 0} → ℕ → Fused D → Fused D
armed passes fuse = record fuse { stop = Some (min (fuse.calls + passes) last_of_counter) }

-- set to fail at the nth device call from now on
abbrev pub failing : {D : Type 0} → ℕ → Fused D → Fused D
failing call fuse = record fuse { fail = Some (min (fuse.calls + call) last_of_counter) }

-- the room of the disk, for no more calls than are left to count
abbrev pub fused_room : Room → ℕ → Room
fused_room room calls = record { calls = min room.calls (last_of_counter - calls); bytes = room.bytes; end = room.end }
