-- A disk in memory, with all that a crash might have left of it since it was made.
use Rattle.std.specs.Prelude.{◌≡◌, ◌≤◌, ◌⊎◌, ◌↔◌, ℕ, ◌+◌, ◌-◌, min, None, Some, List, [], ◌∷◌, length, drop, slice_get, Result, IsErr, OnOk, OnErr}
use Rattle.std.proofs.Common.{inl, inr, ap}
use Rattle.afs_disk.specs.Disk.{Passes, Ran, Room}
use Rattle.afs_disk.specs.Fuses.{last_of_counter}
use Rattle.afs_disk.specs.Images.{Held, MayLeave, image}

-- What is held now and what was held before each device call and crash that changed something, the capacity, which device
-- calls are to fail (call n where byte n - 1 is 1), how many came and how many failed.
pub record Memory : Type 0 where
  pub held : Held
  pub past : List Held
  pub limit : ℕ
  pub failing : List ℕ
  pub calls : ℕ
  pub faults : ℕ

-- a crash in one of these states might have left this
abbrev pub HadLeft : List Held → List ℕ → Type 0
HadLeft [] c = ⊥
HadLeft (held ∷ past) c = MayLeave held c ⊎ HadLeft past c

abbrev pub Since : List Held → Held → ℕ → List ℕ → Type 0
Since past held t c = MayLeave held c ⊎ HadLeft (drop t past) c

-- The device call fails exactly where the plan says so, and then changes nothing but the counts. The plan stays.
pub record Planned {T E : Type 0} (old new : Memory) (result : Result T E) : Type 0 where
  pub fails : IsErr result ↔ (slice_get old.failing old.calls ≡ Some 1)
  pub stays : (new.failing ≡ old.failing) × (new.limit ≡ old.limit)
  pub counted : new.calls ≡ old.calls + 1
  pub quiet : OnOk result (new.faults ≡ old.faults)
  pub never_falls : old.faults ≤ new.faults
  pub untouched : OnErr result ((new.held ≡ old.held) × (new.past ≡ old.past))

-- its moments are how much it held before
abbrev pub MomentPasses : Memory → Memory → Type 0
MomentPasses old new = Passes (length old.past) (length new.past) (Since old.past old.held) (Since new.past new.held) (MayLeave new.held)

-- no one can set it to stop or to fail, and each of its faults is its own
abbrev pub RanUnset : {T E : Type 0} → Memory → Memory → Result T E → Type 0
RanUnset old new result = Ran (record { stop = None; fail = None }) old.calls new.calls old.faults new.faults old.faults new.faults result

abbrev pub memory_room : Memory → Room
memory_room m = record { calls = min m.held.room.calls (last_of_counter - m.calls); bytes = m.held.room.bytes; end = m.held.room.end }

none_left : (past : List Held) (c : List ℕ) → HadLeft (drop (length past) past) c → ⊥
none_left [] c had = had
none_left (held ∷ past) c had = none_left past c had

-- since this moment there is what a crash may leave now
pub only_now : (past : List Held) (held : Held) (c : List ℕ) → Since past held (length past) c → MayLeave held c
only_now past held c (inl now) = now
only_now past held c (inr had) = absurd (none_left past c had)

shown : (now bytes : List ℕ) → Some now ≡ Some bytes → bytes ≡ now
shown now bytes told = cc

-- what a pick leaves is one of the images
pub picked_leaves : (held : Held) (pick : ℕ) (bytes : List ℕ) → Some (image pick held) ≡ Some bytes → MayLeave held bytes
picked_leaves held pick bytes told = (pick, shown (image pick held) bytes told)

pub measured : (now bytes : List ℕ) → Some now ≡ Some bytes → length bytes ≡ length now
measured now bytes told = ap length (shown now bytes told)
