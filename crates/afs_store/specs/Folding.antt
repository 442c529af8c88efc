-- Records that change what a disk keeps.
use Rattle.std.specs.Prelude.{ℕ, List, Bool, Option}
use Rattle.spec_history.specs.declared.lines.Line.{Line}
use Rattle.afs_num.specs.declared.types.Node.{Node}

-- Records R change what a disk keeps, which is T. In memory it stands as S, and P is a record that was made ready to be done
-- there.
pub record Folding (R T S P : Type 0) : Type 1 where
  -- how a record is spelled and read, and which records have a spelling
  pub spelled : R → List ℕ
  pub read : List ℕ → Option R
  pub Fits : R → Type 0
  -- what stands on a disk without records; anything that is kept, with a journal of this length on a disk of this capacity
  pub nothing : T
  pub placed : ℕ → ℕ → T → T
  pub journal : T → ℕ
  pub capacity : T → ℕ
  -- what a record makes of what is kept, and what it does in memory: None where it can't be taken
  pub folded : R → T → Option T
  pub done : R → T → Option T
  -- whether a record may be the first
  pub is_first : R → Bool
  -- what a record tells, and the words in which a restart tells it
  pub effect : Node → R → T → List Line
  pub in_words : List Line → List Line
  -- the boot number, and the record of a start with another
  pub boot : T → ℕ
  pub start : ℕ → R
  -- of all records of a disk: what they make, the number of the first that can't be taken, what the last tells
  pub fold_all : ℕ → List (List ℕ) → Option T
  pub first_bad : ℕ → List (List ℕ) → Option ℕ
  pub last_effect : Node → ℕ → List (List ℕ) → Option (List Line)
  -- what the memory holds; of a record that was made ready, which it is, that it is ready, that what was made for it beforehand is
  -- what it makes of this, and that there is room for it
  pub held : S → T
  pub record_of : P → R
  pub IsReady : P → Type 0
  pub Suits : P → T → Type 0
  pub HasRoomFor : P → S → Type 0
