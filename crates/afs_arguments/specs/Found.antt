-- What clap finds in the words.
use Rattle.std.specs.Prelude.{◌≡◌, List, [], Bool, true, false, Option, Some, None, codes}
use Rattle.std.specs.List.{list_any}
use Rattle.std.specs.Str.{bytes_eq}
use Rattle.clap.specs.Faults.{fault_of}
use Rattle.clap.specs.Simple.{subcommand_of}
use Rattle.clap.specs.Walk.{Row, Text, first_of, one_of}
use Rattle.spec_model.specs.ScriptWords.{ranged}
use Rattle.afs_command.specs.Forms.{form_by, form_in, name_of, with_folder, Options}
use Rattle.afs_command.specs.declared.statuses.Form.{Form}
use Rattle.afs_arguments.specs.Program.{program}

abbrev pub flag_text : Bool → Text
flag_text true = codes "true"
flag_text false = codes "false"

-- the options, where the folder that clap found is a name
abbrev pub checked : Bool → Option Text → Option Options
checked told None = Some (record { wire = told; folder = None })
checked told (Some name) = with_folder told (name_of name)

-- the rows tell whether there was `--wire`
abbrev pub WireIsTold : List Row → Bool → Type 0
WireIsTold rows wire = (told : Bool) → one_of (codes "wire") rows ≡ Some (flag_text told) → wire ≡ told

-- these are the options of the rows
abbrev pub Finds : List Row → Options → Type 0
Finds rows o = (o.folder ≡ first_of (codes "disks") rows) × WireIsTold rows o.wire

-- the same of the rows of a replay, where that was asked for
abbrev pub FindsIn : Option (Text × List Row) → Option Options → Type 0
FindsIn rows None = (more : List Row) → rows ≡ Some (codes "replay", more) → ⊥
FindsIn rows (Some o) = (more : List Row) × ((rows ≡ Some (codes "replay", more)) × Finds more o)

-- where a made script was asked for, this is the word of its rows
abbrev pub FindsWord : Option (Text × List Row) → Option Text → Type 0
FindsWord rows word = (more : List Row) → rows ≡ Some (codes "gen", more) → word ≡ first_of (codes "N") more

-- what that word asks for
abbrev pub made_by : Option Text → Option Form
made_by None = None
made_by (Some word) = form_by (ranged 1 1000 word) None

-- clap takes these words, of which none is `--`, and finds these rows
pub record IsTakenAs (words : List Text) (rows : Option (Text × List Row)) : Type 0 where
  pub dashes : list_any (λ (word : Text). bytes_eq word (codes "--")) words ≡ false
  pub faults : fault_of program words ≡ []
  pub found : rows ≡ subcommand_of program words

-- so it is; or the words have none of the forms
abbrev pub IsTaken : List Text → Option (Option (Text × List Row)) → Type 0
IsTaken words None = None ≡ form_in words
IsTaken words (Some rows) = IsTakenAs words rows
