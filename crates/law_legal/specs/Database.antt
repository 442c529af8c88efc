-- What is said of the location database by itself: what it keeps is the fold of its records, and its entries and locks stay in order.
use Rattle.std.specs.Prelude.{⊤, ◌≡◌, ◌≤◌, ◌<◌, ◌+◌, ℕ, List, [], ◌∷◌, Option, Some, None}
use Rattle.std.specs.List.{AllByRecursion}
use Rattle.afs_num.specs.Nodes.{IsNode}
use Rattle.afs_num.specs.declared.location_calls.LocCall.{LocCall}
use Rattle.afs_num.specs.declared.types.Head.{Head}
use Rattle.spec_ideal.specs.Tables.{Table}
use Rattle.spec_records.specs.LocDurable.{entries_after, loc_boot_record, loc_folded}
use Rattle.spec_records.specs.LocRecords.{Listed, Lock}
use Rattle.spec_rows.specs.LocRow.{changes, loc_durable_of, loc_lasting_after, loc_lasting_started, loc_op, loc_record_of, LocChange, LocLasting}
use Rattle.spec_rows.specs.States.{Seat}

-- ---- entries and locks in order

-- each entry stands under the number of its read-write volume
abbrev pub AreKeyed : Table Listed → Type 0
AreKeyed [] = ⊤
AreKeyed (p ∷ ps) = (p.1.entry.read_write ≡ p.0) × AreKeyed ps

-- a lock is under a stamp that was drawn, where this one is drawn next
abbrev pub IsDrawn : ℕ → Option Lock → Type 0
IsDrawn next None = ⊤
IsDrawn next (Some k) = k.stamp < next

abbrev pub AreDrawn : ℕ → Table Listed → Type 0
AreDrawn next [] = ⊤
AreDrawn next (p ∷ ps) = IsDrawn next p.1.lock × AreDrawn next ps

-- Entries stand under their numbers, and each lock's stamp was drawn. So no lock that stands has a stamp that will be drawn.
pub record IsInOrder (next : ℕ) (entries : Table Listed) : Type 0 where
  pub keyed : AreKeyed entries
  pub drawn : AreDrawn next entries

-- the counters never fall
pub record Rises (l : LocLasting) (c : LocChange) : Type 0 where
  pub ids : l.next_id ≤ c.next_id
  pub stamps : l.next_stamp ≤ c.next_stamp

-- whatever is called, with whichever stamp: a change leaves entries and locks in order
abbrev pub LocChangesKeepOrder : Type 0
LocChangesKeepOrder = (stamp : ℕ) (call : LocCall) (l : LocLasting) (c : LocChange) → loc_op stamp call l ≡ changes c → IsInOrder l.next_stamp l.entries →
    Rises l c × IsInOrder c.next_stamp (entries_after c.deed l.entries)

-- ---- its disk

-- What a change leaves is the fold of its record, where entries stand under their numbers, and the callers are nodes.
abbrev pub LocChangesAreFolded : Type 0
LocChangesAreFolded = (l : LocLasting) (head : Head) (stamp : ℕ) (call : LocCall) (c : LocChange) → loc_op stamp call l ≡ changes c → AreKeyed l.entries → IsNode head.from → AllByRecursion (λ (s : Seat). IsNode s.caller) l.kept →
    loc_folded (loc_record_of l.boot head c) (loc_durable_of l) ≡ Some (loc_durable_of (loc_lasting_after head c l))

-- what a start leaves is the fold of its record
abbrev pub LocStartsAreFolded : Type 0
LocStartsAreFolded = (l : LocLasting) → loc_folded (loc_boot_record (l.boot + 1)) (loc_durable_of l) ≡ Some (loc_durable_of (loc_lasting_started l))
