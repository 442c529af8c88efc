-- How a cell is set up.
use Rattle.std.specs.Prelude.{◌≡◌, ◌≤◌, ◌⊎◌, ◌+◌, ◌↔◌, ℕ, zero, suc, List, [], ◌∷◌, false, Option, Some, IsSome}
use Rattle.afs_num.specs.declared.types.Node.{Node}
use Rattle.afs_num.specs.declared.types.Node.TheVariants.{Loc, Server}
use Rattle.spec_history.specs.declared.scripts.Script.{Script}
use Rattle.afs_disk.specs.Disk.{LeavesJust, Rose}
use Rattle.afs_disk.specs.declared.disks.Lent.{Lent}
use Rattle.afs_grammar.specs.Lines.{lines_of_server}
use Rattle.afs_volstore.specs.Opening.{IsSetUpSoFar}
use Rattle.afs_cell.specs.Founding.{IsLocLeft}
use Rattle.afs_cell.specs.declared.faults.SetupFault.{SetupFault}
use Rattle.afs_cell.specs.declared.faults.SetupFault.TheVariants as setup

-- ---- set-up

-- no count of faults fell
abbrev pub NoneFell : {D : Type 0} → (D → ℕ) → List (Lent D) → List (Lent D) → Type 0
NoneFell {D} faults [] news = Unit {0}
NoneFell {D} faults (a ∷ olds) [] = ⊥
NoneFell {D} faults (a ∷ olds) (b ∷ news) = (faults a.disk ≤ faults b.disk) × NoneFell faults olds news

-- none rose
abbrev pub NoneRose : {D : Type 0} → (D → ℕ) → List (Lent D) → List (Lent D) → Type 0
NoneRose {D} faults [] [] = Unit {0}
NoneRose {D} faults (a ∷ olds) (b ∷ news) = (faults b.disk ≤ faults a.disk) × NoneRose faults olds news
NoneRose {D} faults olds news = ⊥

-- the node with a disk of this number: 0 is the location database
abbrev pub disk_node : ℕ → Node
disk_node zero = Loc
disk_node (suc i) = Server (suc i)

-- of these disks, those of the nodes from this number on, that of this node failed, and no other
abbrev pub RoseAt : {D : Type 0} → (D → ℕ) → Node → ℕ → List (Lent D) → List (Lent D) → Type 0
RoseAt {D} faults n i (a ∷ olds) (b ∷ news) = ((n ≡ disk_node i) × (Rose (faults a.disk) (faults b.disk) × NoneRose faults olds news)) ⊎ ((faults b.disk ≤ faults a.disk) × RoseAt faults n (i + 1) olds news)
RoseAt {D} faults n i olds news = ⊥

-- one of them failed, and no other; or none did
abbrev pub OneRoseAtMost : {D : Type 0} → (D → ℕ) → List (Lent D) → List (Lent D) → Type 0
OneRoseAtMost {D} faults olds news = ((n : Node) × RoseAt faults n 0 olds news) ⊎ NoneRose faults olds news

-- of these disks, those of the nodes from this number on, the one that a refusal names failed, and no other; or memory ran out, and none did
abbrev pub IsRefusedBy : {D : Type 0} → (D → ℕ) → ℕ → List (Lent D) → SetupFault → List (Lent D) → Type 0
IsRefusedBy {D} faults i disks (setup.Disk n) back = RoseAt faults n i disks back
IsRefusedBy {D} faults i disks setup.OutOfMemory back = NoneRose faults disks back

abbrev pub IsRefused : {D : Type 0} → (D → ℕ) → ℕ → List (Lent D) → SetupFault × List (Lent D) → Type 0
IsRefused {D} faults i disks e = NoneFell faults disks e.1 × IsRefusedBy faults i disks e.0 e.1

-- A disk that set-up hands back tells as before. Where it was empty, it holds no record, or just that of the set-up.
pub record IsLeftAt {D : Type 0} (seen : D → Option (List ℕ)) (may_leave : D → List ℕ → Type 0) (s : Script) (i : ℕ) (old new : D) : Type 0 where
  pub told : IsSome (seen new) ↔ IsSome (seen old)
  pub holds : seen old ≡ Some [] → LeavesJust [] (may_leave old) → (bytes : List ℕ) → seen new ≡ Some bytes → IsSetUpSoFar s.capacity (lines_of_server i s.volumes) bytes

-- so it is of each server's, in order of number from this one on
abbrev pub AreLeft : {D : Type 0} → (D → Option (List ℕ)) → (D → List ℕ → Type 0) → Script → ℕ → List (Lent D) → List (Lent D) → Type 0
AreLeft {D} seen may_leave s i [] [] = Unit {0}
AreLeft {D} seen may_leave s i (a ∷ olds) (b ∷ news) = IsLeftAt seen may_leave s i a.disk b.disk × AreLeft seen may_leave s (i + 1) olds news
AreLeft {D} seen may_leave s i olds news = ⊥

-- so it is of all disks: the first is the location database's
abbrev pub AreAllLeft : {D : Type 0} → (D → Option (List ℕ)) → (D → List ℕ → Type 0) → Script → List (Lent D) → List (Lent D) → Type 0
AreAllLeft {D} seen may_leave s (a ∷ olds) (b ∷ news) = IsLocLeft seen may_leave s a.disk b.disk × AreLeft seen may_leave s 1 olds news
AreAllLeft {D} seen may_leave s olds news = ⊥
