-- When records, what they make and the memory fit together.
use Rattle.std.specs.Prelude.{◌≡◌, ◌↔◌, ℕ, ◌+◌, List, Some, true, is_some}
use Rattle.std.specs.Option.{option_map}
use Rattle.afs_num.specs.declared.types.Node.{Node}
use Rattle.afs_store.specs.Folding.{Folding}
use Rattle.afs_store.specs.Folds.{all_folded, first_unfit, last_told, place_length}

pub record IsSound {R T S P : Type 0} (k : Folding R T S P) : Type 0 where
  -- a record that has a spelling is read again from it
  pub again : (r : R) → k.Fits r → k.read (k.spelled r) ≡ Some r
  -- a record does on a disk what it does in memory, and makes its journal longer by its place
  pub folds : (r : R) (j c : ℕ) (d : T) → k.folded r (k.placed j c d) ≡ option_map (k.placed (j + place_length k r) c) (k.done r d)
  -- it tells the same there
  pub tells : (node : Node) (r : R) (j c : ℕ) (d : T) → k.effect node r (k.placed j c d) ≡ k.effect node r d
  -- journal and capacity are those of the place, the boot number isn't
  pub long : (j c : ℕ) (d : T) → k.journal (k.placed j c d) ≡ j
  pub sized : (j c : ℕ) (d : T) → k.capacity (k.placed j c d) ≡ c
  pub boots : (j c : ℕ) (d : T) → k.boot (k.placed j c d) ≡ k.boot d
  -- a start can be taken at any time
  pub starts : (n : ℕ) (d : T) → is_some (k.done (k.start n) d) ≡ true
  -- what was made beforehand doesn't depend on the place
  pub suits : (p : P) (j c : ℕ) (d : T) → k.Suits p (k.placed j c d) ↔ k.Suits p d
  -- what was made ready has a spelling
  pub fits : (p : P) → k.IsReady p → k.Fits (k.record_of p)
  -- all records are folded one after the other
  pub all : (c : ℕ) (records : List (List ℕ)) → all_folded k c records ≡ k.fold_all c records
  pub bad : (c : ℕ) (records : List (List ℕ)) → first_unfit k c records ≡ k.first_bad c records
  pub last : (node : Node) (c : ℕ) (records : List (List ℕ)) → last_told k node c records ≡ k.last_effect node c records
