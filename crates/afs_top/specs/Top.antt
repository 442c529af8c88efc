-- What the program promises of a call: what its words ask for, what its source holds, and how the run of that ends.
use Rattle.std.specs.Prelude.{◌≡◌, ◌⊎◌, ℕ, List, Bool, Option, Ok}
use Rattle.std.specs.Io.KnownBytes.{IsAtEnd}
use Rattle.afs_num.specs.declared.scripts.Reason.{Reason}
use Rattle.spec_history.specs.declared.scripts.Script.{Script}
use Rattle.afs_disk.specs.declared.bank.Place.{Place}
use Rattle.afs_disk.specs.declared.bank.Place.TheVariants.{Memory}
use Rattle.afs_generate.specs.Generated.{generated}
use Rattle.afs_grammar.specs.Lines.{script_of}
use Rattle.afs_outside.specs.Outside.{Gives, HadAll}
use Rattle.afs_command.specs.Forms.{Asks, HaveForm}
use Rattle.afs_command.specs.Spans.{IsUnchanged, RoseBy, Span}
use Rattle.law_all.specs.Lawful.{EachIsLawful}
use Rattle.afs_lending.specs.Outside.{Outside}
use Rattle.afs_command.specs.declared.statuses.Form.TheVariants.{Gen, Replay}
use Rattle.afs_command.specs.declared.statuses.Status.{Status}
use Rattle.afs_command.specs.declared.statuses.Status.TheVariants as statuses
use Rattle.afs_command.specs.Reading.{level, IsBad, IsReadOut}
use Rattle.afs_cell.specs.Replays.{EndsReplay}
use Rattle.afs_cell.specs.Made.{EndsMade}
use Rattle.afs_top.specs.Made.{DoesNothing}

-- ---- how a call of the program ends

-- the input is a script
abbrev pub IsScript : List ℕ → Type 0
IsScript input = (script : Script) × (script_of level input ≡ Ok script)

-- The words ask for a replay. All was read that the source had left, which didn't fail, and that is a script. Each run of that script is
-- lawful, and its replay ends so: the run that this tells of is one of those.
pub record Answers (words : List (List ℕ)) (source : Span (Option (List ℕ))) (source_faults : Span ℕ) (Ends : Script → Bool → Place → Type 0) : Type 0 where
  pub quiet : IsUnchanged source_faults
  pub wire : Bool
  pub place : Place
  pub asked : Asks (Replay wire place) words
  pub input : List ℕ
  pub had : HadAll source.before input
  pub at_end : IsAtEnd source.after
  pub script : Script
  pub read : script_of level input ≡ Ok script
  pub lawful : EachIsLawful script
  pub ends : Ends script wire place

-- The words ask for the script that is made for a number. The source was not touched. Each run of that script is lawful, and its run ends so.
pub record Makes (words : List (List ℕ)) (source : Span (Option (List ℕ))) (source_faults : Span ℕ) (Ends : ℕ → Type 0) : Type 0 where
  pub untouched : IsUnchanged source
  pub quiet : IsUnchanged source_faults
  pub number : ℕ
  pub asked : Asks (Gen number) words
  pub lawful : EachIsLawful (generated number)
  pub ends : Ends number

-- the words ask for a replay
abbrev pub AskReplay : List (List ℕ) → Type 0
AskReplay words = (wire : Bool) × ((place : Place) × Asks (Replay wire place) words)

-- the words ask for a made script
abbrev pub AskMade : List (List ℕ) → Type 0
AskMade words = (number : ℕ) × Asks (Gen number) words

-- The words ask for a replay, and what the source had left is no script. It was read out before that was said, and didn't fail.
pub record Refuses (words : List (List ℕ)) (source : Span (Option (List ℕ))) (source_faults : Span ℕ) (line : ℕ) (reason : Reason) : Type 0 where
  pub quiet : IsUnchanged source_faults
  pub asked : AskReplay words
  pub input : List ℕ
  pub had : HadAll source.before input
  pub taken : IsReadOut source
  pub bad : IsBad line reason input

-- With these words, over this source, whose faults are counted, and over a bank: at which places its disks tell what they hold, and what
-- comes back of them where they are only set up, or where not all are lent. A replay ends so, or the run of a made script.
abbrev pub EndsByForm : List (List ℕ) → Span (Option (List ℕ)) → Span ℕ → (Place → Type 0) → (Script → Outside → Type 0) → (Script → Outside → ℕ → ℕ → Type 0) → Outside → Status → Type 0
EndsByForm words source source_faults Tells Left Unlent o status =
    Answers words source source_faults (λ s wire place. EndsReplay s wire place (Tells place) (Left s o) (Unlent s o) o status)
    ⊎ Makes words source source_faults (λ number. EndsMade number (generated number) (Tells Memory) (Left (generated number) o) (Unlent (generated number) o) o status)

abbrev pub Ends : List (List ℕ) → Span (Option (List ℕ)) → Span ℕ → (Place → Type 0) → (Script → Outside → Type 0) → (Script → Outside → ℕ → ℕ → Type 0) → Outside → Status → Type 0
Ends words source source_faults Tells Left Unlent o statuses.Usage = HaveForm words → ⊥
Ends words source source_faults Tells Left Unlent o (statuses.Script line reason) = Refuses words source source_faults line reason
Ends words source source_faults Tells Left Unlent o statuses.ReadFault = AskReplay words × RoseBy 1 source_faults
Ends words source source_faults Tells Left Unlent o statuses.OutOfMemory = HaveForm words × ((IsUnchanged source_faults × DoesNothing o) ⊎ EndsByForm words source source_faults Tells Left Unlent o statuses.OutOfMemory)
Ends words source source_faults Tells Left Unlent o status = EndsByForm words source source_faults Tells Left Unlent o status

-- the words ask for a replay, and what the source has left is a script; or they ask for a made script
abbrev pub CanPlay : List (List ℕ) → Option (List ℕ) → Type 0
CanPlay words left = (AskReplay words × Gives IsScript left) ⊎ AskMade words

-- these statuses come before anything is lent or written
abbrev pub IsBeforeReplay : Status → Type 0
IsBeforeReplay statuses.Usage = Unit {0}
IsBeforeReplay (statuses.Script line reason) = Unit {0}
IsBeforeReplay statuses.ReadFault = Unit {0}
IsBeforeReplay status = ⊥
