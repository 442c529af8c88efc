-- What a call that reads a field of a stream gives, in terms of the bytes that were left.
use Rattle.std.specs.Prelude.{◌≡◌, ℕ, List, Result, Ok, Err}
use Rattle.spec_ideal.specs.Images.{Image}
use Rattle.afs_xdr.specs.Reading.{Reading}
use Rattle.spec_dumps.specs.Dumps.{DumpHeader, Headers, VolumeHeader}
use Rattle.spec_dumps.specs.Fields.{FieldTaken, took, cut_at, bad_at}
use Rattle.spec_dumps.specs.Streams.{image_parts, ImageWords}
use Rattle.afs_restore.specs.declared.headers.Headers as read
use Rattle.afs_restore.specs.declared.headers.Source.{Source}
use Rattle.afs_restore.specs.declared.headers.Told.{Told}
use Rattle.afs_restore.specs.declared.stops.Stop.{Stop}
use Rattle.afs_restore.specs.declared.stops.Stop.TheVariants as stops

-- The result, seen by view, is what this reading gives, and what it leaves is left; a field that is cut or bad is left, to its
-- first byte. Nothing is said where memory ran out.
abbrev pub ReadsField : {X Y : Type 0} → (List ℕ → FieldTaken Y) → (X → Y) → Reading → Reading → Result X Stop → Type 0
ReadsField at view old new (Ok x) = at old.left ≡ took (view x) new.left
ReadsField at view old new (Err stops.Cut) = at old.left ≡ cut_at new.left
ReadsField at view old new (Err stops.Bad) = at old.left ≡ bad_at new.left
ReadsField at view old new (Err stops.OutOfMemory) = Unit {0}

-- ---- what is read, as the definitions of dumps have it

abbrev pub source_told : Source → DumpHeader
source_told s = record { id = s.id; name = s.name; from = s.from }

abbrev pub volume_told : Told → VolumeHeader
volume_told t = record { id = t.id; family = t.family; kind = t.kind; quota = t.quota; next = t.unique; counter = t.counter; release = t.release }

abbrev pub headers_told : read.Headers → Headers
headers_told h = record { dump = source_told h.source; volume = volume_told h.told }

-- the words of the image of a vnode
abbrev pub words_in : Image → ImageWords
words_in x = (image_parts x).0
