-- How far bytes are read on, and what a restorer was fed.
use Rattle.std.specs.Prelude.{◌≡◌, ◌≤◌, ℕ, ◌+◌, ◌-◌, List, [], ◌++◌, drop, length, Option, Some, None}
use Rattle.std.specs.List.{flat_map}
use Rattle.afs_xdr.specs.Words.{word, opaque, IsBytes}
use Rattle.spec_ideal.specs.Images.{Image}
use Rattle.spec_dumps.specs.Dumps.{Headers}
use Rattle.spec_dumps.specs.Feeding.{Begun, Stage, at_headers, at_count, at_pair, at_image, at_acl, at_contents, at_magic, at_end}
use Rattle.spec_dumps.specs.Fields.{cut_at}
use Rattle.spec_dumps.specs.Laws.{IsReading}
use Rattle.spec_dumps.specs.Restores.{fed}
use Rattle.spec_dumps.specs.Streams.{dump_at, end_magic, end_tag, headers_field, image_bytes, image_words_field, pair_bytes, vnode_tag, ImageWords}
use Rattle.afs_restore.specs.Steps.{stage_of, IsStep}
use Rattle.afs_restore.specs.declared.parts.Parts.{Parts}
use Rattle.afs_restore.specs.declared.reading.Read.{Read}
use Rattle.afs_restore.specs.declared.reading.Read.TheVariants as reads
use Rattle.afs_restore.specs.declared.steps.Step.{Step}
use Rattle.afs_restore.specs.declared.steps.Step.TheVariants as steps

-- ---- the bytes before a stage: what was read is spelled in one way, so what is kept of it tells them

-- the headers, the count, and these pairs of the list
abbrev pub list_bytes : Headers → ℕ → List (ℕ × ℕ) → List ℕ
list_bytes h count ps = (headers_field.spelled h ++ word count) ++ flat_map pair_bytes ps

-- these images after the list
abbrev pub images_bytes : Headers → List (ℕ × ℕ) → List Image → List ℕ
images_bytes h live is = list_bytes h (length live) live ++ flat_map image_bytes is

-- the words of one image more
abbrev pub words_bytes : Begun → ImageWords → List ℕ
words_bytes b w = (images_bytes b.headers b.live b.images ++ word vnode_tag) ++ (image_words_field (w.0, w.1.0)).spelled w

unfoldable pub bytes_before : Stage → List ℕ
bytes_before at_headers = []
bytes_before (at_count h) = headers_field.spelled h
bytes_before (at_pair h n least ps) = list_bytes h (length ps + n) ps
bytes_before (at_image b) = images_bytes b.headers b.live b.images
bytes_before (at_acl b w) = words_bytes b w
bytes_before (at_contents b w acl) = words_bytes b w ++ opaque acl
bytes_before (at_magic d) = images_bytes d.headers d.live d.images ++ word end_tag
bytes_before (at_end d) = (images_bytes d.headers d.live d.images ++ word end_tag) ++ word end_magic

-- the bytes that came, of which these are pending
unfoldable pub bytes_read : Step → Parts → List ℕ → List ℕ
bytes_read step p pending = bytes_before (stage_of step p) ++ pending

-- ---- reading on

-- A reader of these bytes is where this step comes next.
pub record ReaderStands (step : Step) (p : Parts) (pending : List ℕ) : Type 0 where
  pub may : IsStep step p
  pub reading : IsReading (bytes_read step p pending) (stage_of step p) pending

-- what is pending at the end of a dump, or from the beginning of a field that isn't whole yet: nothing, or so many bytes
abbrev pub Waits : Step → List ℕ → List ℕ → ℕ → Type 0
Waits steps.End bytes pending short = pending ≡ []
Waits step bytes pending short = (left : List ℕ) × ((dump_at bytes ≡ cut_at left) × (short ≡ length left))

-- The same bytes were read on, to where this step comes next and so many are pending.
pub record Reaches (from : Step) (before : Parts) (bytes : List ℕ) (step : Step) (after : Parts) (left : ℕ) : Type 0 where
  pub within : left ≤ length bytes
  pub same : bytes_read step after (drop (length bytes - left) bytes) ≡ bytes_read from before bytes
  pub stands : ReaderStands step after (drop (length bytes - left) bytes)

-- so many of the bytes are pending then
abbrev pub left_of : Read → ℕ
left_of (reads.Waits step left short) = left
left_of (reads.Refused step left short) = left

-- the bytes that are
abbrev pub pending_of : Read → List ℕ → List ℕ
pending_of read bytes = drop (length bytes - left_of read) bytes

abbrev pub ReadsOn : Step → Parts → List ℕ → Parts → Read → Type 0
ReadsOn from before bytes after (reads.Waits step left short) =
    Reaches from before bytes step after left × Waits step (bytes_read from before bytes) (drop (length bytes - left) bytes) short
ReadsOn from before bytes after (reads.Refused step left short) =
    Reaches from before bytes step after left × (fed (bytes_read from before bytes) ≡ Some (length (bytes_read from before bytes) - short))

-- ---- a restorer

-- These bytes came, so many, and they weren't refused.
pub record IsFedSoFar (step : Step) (p : Parts) (pending : List ℕ) (count short : ℕ) : Type 0 where
  pub stands : ReaderStands step p pending
  pub fits : IsBytes (bytes_read step p pending)
  pub many : count ≡ length (bytes_read step p pending)
  pub waits : Waits step (bytes_read step p pending) pending short

abbrev pub IsFed : Step → Parts → List ℕ → ℕ → ℕ → Option ℕ → Type 0
IsFed step p pending count short None = IsFedSoFar step p pending count short
IsFed step p pending count short (Some offset) = fed (bytes_read step p pending) ≡ Some offset
