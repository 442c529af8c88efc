-- What a crash may leave of bytes in memory: four images.
use Rattle.std.specs.Prelude.{◌≡◌, ℕ, zero, suc, ◌==◌, if◌then◌else◌, List, [], ◌∷◌}
use Rattle.afs_disk.specs.Disk.{Room}

-- Bytes in memory: those of the last sync, those that a read gives, the place and number of bytes of each write since, and
-- the room.
pub record Held : Type 0 where
  pub kept : List ℕ
  pub now : List ℕ
  pub unsynced : List (ℕ × ℕ)
  pub room : Room

-- so many bytes from a place on are all of one value, as far as the bytes reach
abbrev pub paint : ℕ → ℕ → ℕ → List ℕ → List ℕ
paint value at n [] = []
paint value zero zero (x ∷ bytes) = x ∷ bytes
paint value zero (suc n) (x ∷ bytes) = value ∷ paint value zero n bytes
paint value (suc at) n (x ∷ bytes) = x ∷ paint value at n bytes

abbrev pub painted : ℕ → List (ℕ × ℕ) → List ℕ → List ℕ
painted value [] bytes = bytes
painted value (range ∷ ranges) bytes = painted value ranges (paint value range.0 range.1 bytes)

-- at 0 the old bytes, at 1 the new ones, at 2 the new ones with each range that wasn't synced all 0x00, at any other all 0xFF
abbrev pub image : ℕ → Held → List ℕ
image pick held =
    if pick == 0 then held.kept
    else (if pick == 1 then held.now
    else (if pick == 2 then painted 0 held.unsynced held.now
    else painted 255 held.unsynced held.now))

-- one of the images
abbrev pub MayLeave : Held → List ℕ → Type 0
MayLeave held c = (pick : ℕ) × (c ≡ image pick held)
