-- The script that a source holds.
use Rattle.std.specs.Prelude.{◌≡◌, ℕ, List, Option, Ok, ◌++◌, Result, Err, ◌⊎◌}
use Rattle.std.specs.Io.KnownBytes.{IsAtEnd}
use Rattle.afs_num.specs.declared.scripts.Reason.{Reason}
use Rattle.spec_history.specs.declared.scripts.Script.{Script}
use Rattle.afs_grammar.specs.Lines.{script_of}
use Rattle.afs_outside.specs.Outside.{HadAll, TakesTooMuch}
use Rattle.afs_command.specs.Spans.{IsUnchanged, RoseBy, Span}
use Rattle.afs_command.specs.declared.statuses.Status.{Status}
use Rattle.afs_command.specs.declared.statuses.Status.TheVariants as statuses
use Rattle.afs_command.specs.declared.scripts.Refusal.{Refusal}
use Rattle.afs_command.specs.declared.scripts.Refusal.TheVariants as refusals

-- how far the grammar is built: disks that stop, every act on paths, several clients and breaks, several servers, the location database
-- and administrators
abbrev pub level : ℕ
level = 9

-- the input is none: this is its first bad line, and the reason
abbrev pub IsBad : ℕ → Reason → List ℕ → Type 0
IsBad line reason input = script_of level input ≡ Err (line, reason)

-- the most bytes that a script may have
abbrev pub most_script_bytes : ℕ
most_script_bytes = 16777216

-- The source was read to its end, or one byte above the most that a script may have was taken from it.
abbrev pub IsReadOut : Span (Option (List ℕ)) → Type 0
IsReadOut source = IsAtEnd source.after ⊎ ((front : List ℕ) × TakesTooMuch most_script_bytes source.before source.after front)

-- an input that can't be played is refused by its first bad line; where memory runs out, nothing is said of it
abbrev pub RefusedBy : {A : Type 0} → List ℕ → Result A Refusal → Type 0
RefusedBy input (Err (refusals.Script line reason)) = IsBad line reason input
RefusedBy input (Err refusals.OutOfMemory) = Unit {0}
RefusedBy input (Ok x) = Unit {0}

abbrev pub IsLongRefusal : List ℕ → Refusal → Type 0
IsLongRefusal front (refusals.Script line reason) = (rest : List ℕ) → IsBad line reason (front ++ rest)
IsLongRefusal front refusals.OutOfMemory = Unit {0}

abbrev pub refusal_status : Refusal → Status
refusal_status (refusals.Script line reason) = statuses.Script line reason
refusal_status refusals.OutOfMemory = statuses.OutOfMemory

-- all was read that the source had left, which didn't fail, and that is this script
pub record GivesScript (source : Span (Option (List ℕ))) (faults : Span ℕ) (s : Script) : Type 0 where
  pub quiet : IsUnchanged faults
  pub input : List ℕ
  pub had : HadAll source.before input
  pub at_end : IsAtEnd source.after
  pub read : script_of level input ≡ Ok s

-- what the source had left is no script: it was read out, without a failure, and this is its first bad line, and the reason
pub record GivesBadLine (source : Span (Option (List ℕ))) (faults : Span ℕ) (line : ℕ) (reason : Reason) : Type 0 where
  pub quiet : IsUnchanged faults
  pub input : List ℕ
  pub had : HadAll source.before input
  pub taken : IsReadOut source
  pub bad : IsBad line reason input

-- so a call ends in which the source gives no script: by a bad line, by its fault, or as memory runs out
abbrev pub GivesNone : Span (Option (List ℕ)) → Span ℕ → Status → Type 0
GivesNone source faults (statuses.Script line reason) = GivesBadLine source faults line reason
GivesNone source faults statuses.ReadFault = RoseBy 1 faults
GivesNone source faults statuses.OutOfMemory = IsUnchanged faults
GivesNone source faults status = ⊥
