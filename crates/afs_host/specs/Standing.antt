-- What the disk of a node that is down stands for, of whatever kind the node is.
use Rattle.std.specs.Prelude.{◌≡◌, ◌⊎◌, ◌+◌, ℕ, List, [], ◌∷◌, ◌++◌, Bool, true, false, Option, Some, None}
use Rattle.afs_num.specs.declared.messages.Message.{Message}
use Rattle.afs_num.specs.declared.records.Mark.{Mark}
use Rattle.spec_history.specs.declared.lines.Line.{Line}
use Rattle.spec_records.specs.Durable.{mark_of}
use Rattle.spec_rows.specs.Hosts.{at_rest, begun_from, in_boot, in_step, Fall, NodeKind, MayFind}
use Rattle.afs_store.specs.Folding.{Folding}
use Rattle.afs_store.specs.Stores.{StandFor}

-- How a kind of node, whose state is one of S, keeps that on its disk: by which records R, which make there what is one of T; what is
-- read of this, and what of the state lasts, both as one of L, with the room of the disk and the boot in that; the record of a step that
-- a message begins at this clock; and the state over what a restart finds.
pub record Keeping (R T M P L S : Type 0) : Type 1 where
  pub kind : NodeKind S
  pub fold : Folding R T M P
  pub read : T → L
  pub lasting : S → L
  pub capacity : L → ℕ
  pub boot : L → ℕ
  pub decided : S → ℕ → Message → Option R
  pub begun : T → S

-- the record that the interrupted step was to make, or the restart: at rest there is none
abbrev pub record_of_fall : {R T M P L S : Type 0} → Keeping R T M P L S → S → Fall → Option R
record_of_fall k s at_rest = None
record_of_fall k s (in_step m clock b) = k.decided s clock m
record_of_fall k s in_boot = Some (k.fold.start (k.boot (k.lasting s) + 1))

-- the records are those of a disk that is read so
pub record StandsFor {R T M P L S : Type 0} (k : Keeping R T M P L S) (records : List (List ℕ)) (l : L) : Type 0 where
  pub durable : T
  pub stands : StandFor k.fold records durable
  pub read : k.read durable ≡ l

-- the records are those from before the interrupted step, and the mark tells their number
pub record LiesBefore {R T M P L S : Type 0} (k : Keeping R T M P L S) (s : S) (mark : Mark) (records : List (List ℕ)) : Type 0 where
  pub before : StandsFor k records (k.lasting s)
  pub marked : mark_of records ≡ mark

-- They are those, and then the record of the interrupted step, with which the disk is that after it. What this record tells is what the
-- step would have told.
pub record LiesAfter {R T M P L S : Type 0} (k : Keeping R T M P L S) (s : S) (fall : Fall) (mark : Mark) (records : List (List ℕ)) : Type 0 where
  pub first : List (List ℕ)
  pub last : R
  pub are : records ≡ first ++ k.fold.spelled last ∷ []
  pub before : LiesBefore k s mark first
  pub made : record_of_fall k s fall ≡ Some last
  pub read_again : k.fold.read (k.fold.spelled last) ≡ Some last
  pub after : StandsFor k records (k.lasting (begun_from k.kind s true fall).state)
  pub told : (ls : List Line) → (begun_from k.kind s true fall).before ls ≡ k.fold.in_words (k.fold.effect k.kind.me last before.before.durable) ++ ls

-- the one or the other
abbrev pub IsKeptAs : {R T M P L S : Type 0} → Keeping R T M P L S → S → Fall → Mark → Bool → List (List ℕ) → Type 0
IsKeptAs k s fall mark false records = LiesBefore k s mark records
IsKeptAs k s fall mark true records = LiesAfter k s fall mark records

-- They are those that a restart may find: where the disk was set to the blow that ended the step, that tells which.
abbrev pub IsKeptFound : {R T M P L S : Type 0} → Keeping R T M P L S → S → Fall → Mark → List (List ℕ) → Type 0
IsKeptFound k s fall mark records = (after : Bool) × (MayFind fall after × IsKeptAs k s fall mark after records)

abbrev pub IsKeptIn : {R T M P L S : Type 0} → Keeping R T M P L S → S → Fall → Mark → List (List ℕ) → Type 0
IsKeptIn k s fall mark records = LiesBefore k s mark records ⊎ LiesAfter k s fall mark records
