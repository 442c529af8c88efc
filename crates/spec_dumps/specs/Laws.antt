-- Laws about clones and dumps: bytes and dumps are one for one; a stream is refused at one offset, whatever its pieces; and what is
-- restored is what was dumped.
use Rattle.std.specs.Prelude.{◌≡◌, ◌≤◌, ◌<◌, ◌⊎◌, ◌^◌, ℕ, List, [], ◌∷◌, ◌++◌, length, map, Bool, false, Some, Ok}
use Rattle.std.specs.List.{All}
use Rattle.spec_ideal.specs.ChangeLaws.{IsOneChange}
use Rattle.afs_xdr.specs.Words.{IsBytes}
use Rattle.spec_ideal.specs.Images.{HasImage, IsWord}
use Rattle.spec_ideal.specs.Soundness.{IsSound}
use Rattle.spec_ideal.specs.Tables.{Table, get}
use Rattle.spec_ideal.specs.VnodeMaps.{most_vnodes}
use Rattle.spec_ideal.specs.Volumes.{Vnode, Edit}
use Rattle.spec_records.specs.Records.{most_name}
use Rattle.spec_records.specs.Changes.{stored_after}
use Rattle.spec_records.specs.Durable.{Stored, or_zero}
use Rattle.spec_records.specs.Sound.{is_sound}
use Rattle.spec_dumps.specs.Fields.{took, cut_at, bad_at}
use Rattle.spec_dumps.specs.Clones.{cloned, recloned}
use Rattle.spec_dumps.specs.Dumps.{Dump, dump_of}
use Rattle.spec_dumps.specs.Streams.{dump_field, dump_bytes, FitsDump, dump_at, dump_ended}
use Rattle.spec_dumps.specs.Restores.{fed, restored_from, indexed, is_other_family, restored}
use Rattle.spec_dumps.specs.Feeding.{Stage, at_headers, at_end, stepped, read_on, IsAtEnd}

-- ---- dumps and bytes

-- a dump within the limits is read again from its bytes
abbrev pub DumpsAreReadAgain : Type 0
DumpsAreReadAgain = (d : Dump) → FitsDump d → dump_at (dump_bytes d) ≡ took d []

-- bytes that are read as a dump are its one spelling, to the last byte
pub record IsSpelled (bytes : List ℕ) (d : Dump) (rest : List ℕ) : Type 0 where
  pub fits : FitsDump d
  pub spelled : dump_bytes d ≡ bytes
  pub none_left : rest ≡ []

abbrev pub ReadDumpsAreSpelled : Type 0
ReadDumpsAreSpelled = (bytes : List ℕ) (d : Dump) (rest : List ℕ) → IsBytes bytes → dump_at bytes ≡ took d rest → IsSpelled bytes d rest

-- A stream that was refused is refused at the same offset, whatever follows: so it doesn't matter in which pieces it came.
abbrev pub RefusedStaysRefused : Type 0
RefusedStaysRefused = (bytes more : List ℕ) (offset : ℕ) → fed bytes ≡ Some offset → fed (bytes ++ more) ≡ Some offset

-- The beginning of a dump is cut: it isn't refused while more may come, and is no dump where it ends.
abbrev pub FrontsAreCut : Type 0
FrontsAreCut = (front : List ℕ) (b : ℕ) (more : List ℕ) (d : Dump) (rest : List ℕ) → dump_at (front ++ (b ∷ more)) ≡ took d rest →
    (left : List ℕ) × (dump_at front ≡ cut_at left)

-- ---- a reader of the bytes as they come

-- These bytes came, a reader of them is at this stage, and these of them are pending: whatever follows, the whole is read as the
-- reader goes on.
abbrev pub IsReading : List ℕ → Stage → List ℕ → Type 0
IsReading bytes stage pending = (more : List ℕ) → dump_field.at (bytes ++ more) ≡ read_on stage (pending ++ more)

-- A reader begins, is given more bytes, and takes steps. Where a step meets a bad field, the stream is bad there; where it meets one
-- that is cut, the stream is cut there, if no more comes; and at the end nothing may be pending.
pub record ReadersReadOn : Type 0 where
  pub begin : IsReading [] at_headers []
  pub more : (bytes piece pending : List ℕ) (stage : Stage) → IsReading bytes stage pending → IsReading (bytes ++ piece) stage (pending ++ piece)
  pub step : (bytes pending rest : List ℕ) (stage next : Stage) → IsReading bytes stage pending → stepped stage pending ≡ took next rest → IsReading bytes next rest
  pub bad : (bytes pending left : List ℕ) (stage : Stage) → IsReading bytes stage pending → stepped stage pending ≡ bad_at left → dump_at bytes ≡ bad_at left
  pub cut : (bytes pending left : List ℕ) (stage : Stage) → IsReading bytes stage pending → (IsAtEnd stage → ⊥) → stepped stage pending ≡ cut_at left → dump_at bytes ≡ cut_at left
  pub end : (bytes pending : List ℕ) (d : Dump) → IsReading bytes (at_end d) pending → dump_at bytes ≡ dump_ended d pending

-- ---- what is restored

-- each vnode has its time, and no other number has one
abbrev pub IsTimed : Stored → Type 0
IsTimed s = s.times ≡ map (λ (p : ℕ × Vnode). (p.0, or_zero (get p.0 s.times))) s.volume.vnodes

pub record CanBeDumped (s : Stored) : Type 0 where
  pub sound : IsSound s.volume
  pub few : length s.volume.vnodes ≤ most_vnodes
  pub images : (n : ℕ) (x : Vnode) → get n s.volume.vnodes ≡ Some x → HasImage x
  pub times : IsTimed s

-- The first volume has each vnode of the second one that wasn't changed since the counter stood so, with its time.
abbrev pub HoldsUntil : ℕ → Stored → Stored → Type 0
HoldsUntil from t s = (n : ℕ) (x : Vnode) → get n s.volume.vnodes ≡ Some x →
    (from < x.changed) ⊎ ((get n t.volume.vnodes ≡ Some x) × (or_zero (get n t.times) ≡ or_zero (get n s.times)))

abbrev pub reindexed : Bool → Table Vnode → Table Vnode
reindexed anew vnodes = map (λ (p : ℕ × Vnode). (p.0, indexed anew p.1)) vnodes

-- the first volume with all that the second one has, but with its own family, name, kind and flags
abbrev pub with_content : Bool → Stored → Stored → Stored
with_content anew t s = record t {
  volume = record t.volume {
    quota = s.volume.quota;
    next = s.volume.next;
    counter = s.volume.counter;
    release = s.volume.release;
    vnodes = reindexed anew s.volume.vnodes;
  };
  times = s.times;
}

-- A dump since a counter, restored into a volume that holds what wasn't changed since, gives the dumped volume. Vnodes that were
-- removed are gone, and the others are the same; only in a read-write volume of another family every index is 1.
abbrev pub DumpsAreRestored : Type 0
DumpsAreRestored = (id source from : ℕ) (s t : Stored) → CanBeDumped s → HoldsUntil from t s →
    restored id t (dump_of source from s) ≡ Some (with_content (is_other_family id t (dump_of source from s)) t s)

-- each vnode was changed at least once
abbrev pub HaveChanged : Stored → Type 0
HaveChanged s = (n : ℕ) (x : Vnode) → get n s.volume.vnodes ≡ Some x → 1 ≤ x.changed

-- A full dump is one since 0. Where each vnode was changed at least once, every volume holds what wasn't changed since: nothing. So
-- the dump is restored over any volume.
abbrev pub FullDumpsNeedNothing : Type 0
FullDumpsNeedNothing = (s t : Stored) → HaveChanged s → HoldsUntil 0 t s

-- A volume holds what it has itself. What a volume held until a counter, as a clone that was made then holds it, it goes on to hold of
-- each later state of the other: after a change, and after whatever leaves vnodes and times alone.
pub record ChangesAreSince : Type 0 where
  pub itself : (from : ℕ) (s : Stored) → HoldsUntil from s s
  pub changed : (from id time : ℕ) (t s : Stored) (edits : List Edit) → IsOneChange id edits s.volume → from ≤ s.volume.counter → HoldsUntil from t s →
      HoldsUntil from t (stored_after id time edits s)
  pub other : (from : ℕ) (t s later : Stored) → later.volume.vnodes ≡ s.volume.vnodes → later.times ≡ s.times → HoldsUntil from t s → HoldsUntil from t later

-- What a volume holds of another one, its clone holds too, and so does a volume into which a dump of the clone was restored, but for
-- one in which every index became 1.
pub record CopiesHold : Type 0 where
  pub cloned : (from : ℕ) (name : List ℕ) (kind release : ℕ) (c s : Stored) → HoldsUntil from c s → HoldsUntil from (cloned name kind release c) s
  pub recloned : (from : ℕ) (clone : Stored) (release : ℕ) (c s : Stored) → HoldsUntil from c s → HoldsUntil from (recloned clone release c) s
  pub restored : (from : ℕ) (t c s : Stored) → HoldsUntil from c s → HoldsUntil from (with_content false t c) s

-- So a full dump of a clone, and then an increment of the volume since the clone's counter, give the volume as it is at last.
abbrev pub IncrementsFollow : Type 0
IncrementsFollow = (id copied source : ℕ) (t c s : Stored) → CanBeDumped c → HaveChanged c → CanBeDumped s → HoldsUntil c.volume.counter c s →
    is_other_family id t (dump_of copied 0 c) ≡ false → is_other_family id t (dump_of source c.volume.counter s) ≡ false →
    (u : Stored) × ((restored id t (dump_of copied 0 c) ≡ Some u) × (restored id u (dump_of source c.volume.counter s) ≡ Some (with_content false t s)))

-- A clone is sound where the volume is.
pub record ClonesAreSound : Type 0 where
  pub cloned : (name : List ℕ) (kind release : ℕ) (s : Stored) → is_sound (cloned name kind release s).volume ≡ is_sound s.volume
  pub recloned : (clone : Stored) (release : ℕ) (s : Stored) → is_sound (recloned clone release s).volume ≡ is_sound s.volume

-- ---- what is restored from bytes

-- what a dump says fits in words
pub record IsDumpInWords (id from : ℕ) (s : Stored) : Type 0 where
  pub headers : All IsWord (id ∷ from ∷ s.volume.family ∷ s.volume.kind ∷ s.volume.quota ∷ s.volume.next ∷ s.volume.counter ∷ s.volume.release ∷ [])
  pub name : length s.volume.name ≤ most_name
  pub numbers : (n : ℕ) (x : Vnode) → get n s.volume.vnodes ≡ Some x → n < 2 ^ 32
  pub times : (n : ℕ) → or_zero (get n s.times) < 2 ^ 32

-- the dump of such a volume has a spelling
abbrev pub DumpsFit : Type 0
DumpsFit = (id from : ℕ) (s : Stored) → CanBeDumped s → IsDumpInWords id from s → FitsDump (dump_of id from s)

-- The bytes of a dump since a counter, restored into a volume that holds what wasn't changed since, give the dumped volume.
abbrev pub DumpsFinish : Type 0
DumpsFinish = (id source from : ℕ) (s t : Stored) → CanBeDumped s → IsDumpInWords source from s → HoldsUntil from t s →
    restored_from id t (dump_bytes (dump_of source from s)) ≡ Ok (with_content (is_other_family id t (dump_of source from s)) t s)
