-- What a disk that is attached, or begun, makes a store of.
use Rattle.std.specs.Prelude.{◌≡◌, ◌≤◌, ◌&&◌, ◌+◌, ℕ, List, [], Bool, Option, length, nat_eq, if◌then◌else◌}
use Rattle.std.specs.Option.{option_map}
use Rattle.afs_num.specs.declared.types.Node.{Node}
use Rattle.spec_history.specs.declared.lines.Line.{Line}
use Rattle.afs_num.specs.declared.faults.StoreFault.{StoreFault}
use Rattle.afs_num.specs.declared.faults.StoreFault.TheVariants as faults
use Rattle.afs_num.specs.declared.records.Mark.{Mark}
use Rattle.afs_disk.specs.Disk.{Setting}
use Rattle.afs_store.specs.Folding.{Folding}

-- ---- the mark: how many records stand on the disk, in its one generation

abbrev pub same_mark : Mark → Mark → Bool
same_mark a b = nat_eq a.generation b.generation && nat_eq a.records b.records

-- A restart begins with the lines of the last record where the mark of the disk isn't the one that was told.
abbrev pub lines_begun : {R T S P : Type 0} → Folding R T S P → Node → Mark → ℕ → List (List ℕ) → Option (List Line)
lines_begun k node told capacity records =
    option_map (λ (e : List Line). if same_mark (record { generation = 0; records = length records }) told then [] else k.in_words e) (k.last_effect node capacity records)

-- ---- refusals

-- records can't be folded where one of them can't be taken, or memory was wanting
abbrev pub IsFoldFault : StoreFault → Type 0
IsFoldFault (faults.BadRecord number) = Unit {0}
IsFoldFault faults.OutOfMemory = Unit {0}
IsFoldFault refusal = ⊥

-- a disk can't be taken up where it failed, a record can't be taken or memory was wanting
abbrev pub IsAttachFault : StoreFault → Type 0
IsAttachFault (faults.BadRecord number) = Unit {0}
IsAttachFault faults.Failed = Unit {0}
IsAttachFault faults.OutOfMemory = Unit {0}
IsAttachFault refusal = ⊥

-- what set-up does to a disk's counts, in at most so many device calls: none falls, and it is set as it was
pub record Moved {D : Type 0} (most : ℕ) (faults own_faults calls : D → ℕ) (setting : D → Setting) (limit : D → ℕ) (old new : D) : Type 0 where
  pub never_falls : faults old ≤ faults new
  pub own_never_falls : own_faults old ≤ own_faults new
  pub counted : calls old ≤ calls new
  pub few : calls new ≤ calls old + most
  pub same_setting : setting new ≡ setting old
  pub same_limit : limit new ≡ limit old
