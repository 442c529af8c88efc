-- A stream that is read as its bytes come: at which stage its reader is, and what a step makes of the bytes.
use Rattle.std.specs.Prelude.{◌≡◌, ◌≤◌, ◌<◌, ℕ, zero, suc, List, [], drop, length, slice_get, Option, Some, None, Result, Err, nat_eq, false, true}
use Rattle.spec_dumps.specs.Feeding.{Begun, Stage, at_headers, at_count, at_pair, at_image, at_acl, at_contents, at_magic, at_end, begun, stepped}
use Rattle.spec_dumps.specs.Fields.{FieldTaken, took, ◌>>=◌}
use Rattle.afs_restore.specs.Parts.{dump_in, IsAtFirst}
use Rattle.afs_restore.specs.Reading.{headers_told, words_in}
use Rattle.afs_restore.specs.declared.parts.Parts.{Parts}
use Rattle.afs_restore.specs.declared.steps.Step.{Step}
use Rattle.afs_restore.specs.declared.steps.Step.TheVariants as steps
use Rattle.afs_restore.specs.declared.stops.Stop.{Stop}
use Rattle.afs_restore.specs.declared.stops.Stop.TheVariants as stops

-- the images come, from this place of the list on
abbrev pub begun_in : ℕ → Parts → Begun
begun_in place p = record { headers = headers_told p.headers; live = p.live.items; left = drop place p.live.items; images = p.images.items }

-- the stage at which this step comes next, where this was read
unfoldable pub stage_of : Step → Parts → Stage
stage_of steps.Headers p = at_headers
stage_of steps.Count p = at_count (headers_told p.headers)
stage_of (steps.Pair more least) p = at_pair (headers_told p.headers) more least p.live.items
stage_of (steps.Image place) p = at_image (begun_in place p)
stage_of (steps.Acl place) p = at_acl (begun_in place p) (words_in p.next)
stage_of (steps.Contents place) p = at_contents (begun_in place p) (words_in p.next) p.next.acl
stage_of steps.Magic p = at_magic (dump_in p)
stage_of steps.End p = at_end (dump_in p)

-- before the list and the images were read, there are none; a pair comes where one is left; and a place is one of the list, or its end
abbrev pub IsStep : Step → Parts → Type 0
IsStep steps.Headers p = IsAtFirst p
IsStep steps.Count p = IsAtFirst p
IsStep (steps.Pair more least) p = (0 < more) × (p.images.items ≡ [])
IsStep (steps.Image place) p = place ≤ length p.live.items
IsStep (steps.Acl place) p = place ≤ length p.live.items
IsStep (steps.Contents place) p = place ≤ length p.live.items
IsStep step p = Unit {0}

-- ---- a step

-- where no pair is left, the images come at once
abbrev pub past_pairs : Stage → Stage
past_pairs (at_pair h zero least ps) = at_image (begun h ps)
past_pairs stage = stage

unfoldable pub stepped_past : Stage → List ℕ → FieldTaken Stage
stepped_past stage bytes = stepped stage bytes >>= λ s. took (past_pairs s.0) s.1

-- what comes after the count of the list, or after a pair
abbrev pub pairs_step : ℕ → ℕ → Step
pairs_step zero least = steps.Image 0
pairs_step (suc n) least = steps.Pair (suc n) least

-- the first place of a vnode of this number
abbrev pub IsPlaceOf : List (ℕ × ℕ) → ℕ → Option ℕ → Type 0
IsPlaceOf left number None = (place : ℕ) (p : ℕ × ℕ) → slice_get left place ≡ Some p → nat_eq number p.0 ≡ false
IsPlaceOf left number (Some found) =
    (found < length left) × (((p : ℕ × ℕ) → slice_get left found ≡ Some p → nat_eq number p.0 ≡ true) × ((place : ℕ) (p : ℕ × ℕ) → place < found → slice_get left place ≡ Some p → nat_eq number p.0 ≡ false))

-- where a field is cut or bad, nothing more is kept
abbrev pub StaysThere : Parts → Parts → Result Step Stop → Type 0
StaysThere old new (Err stops.Cut) = new ≡ old
StaysThere old new (Err stops.Bad) = new ≡ old
StaysThere old new result = Unit {0}
