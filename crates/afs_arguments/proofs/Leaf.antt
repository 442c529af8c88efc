-- The commands as clap builds them, and the walks through their words.
use Rattle.std.proofs.Common.{◌≡◌, List, [], ◌∷◌, true, false, Option, Some, None, codes, refl}
use Rattle.clap.specs.Walk.{Held, Row, Rule, Text, Waiting, Walk}
use Rattle.clap.specs.Simple.{Shape, built}
use Rattle.clap.specs.declared.builder.action.ArgAction.TheVariants.{Set}
use Rattle.clap.specs.declared.builder.value_parser.Reading.TheVariants.{AsWritten}
use Rattle.clap.specs.declared.builder.value_parser.ValueParser.TheVariants.{Bool, String}
use Rattle.clap.specs.declared.parser.matches.ValueSource.TheVariants.{CommandLine}
use Rattle.afs_arguments.specs.Program.{disks_rule, gen, number_rule, program, replay, wire_rule}

abbrev pub wire : Rule
wire = record wire_rule { defaults = codes "false" ∷ []; missing = codes "true" ∷ []; parser = Some Bool; range = Some (record { start_inclusive = 0; end_inclusive = 0 }) }

abbrev pub disks : Rule
disks = record disks_rule { parser = Some String; range = Some (record { start_inclusive = 1; end_inclusive = 1 }) }

abbrev pub rules : List Rule
rules = wire ∷ disks ∷ []

abbrev pub leaf : Shape
leaf = record replay.top { rules = rules; no_binary_name = true; disable_help_flag = true; disable_help_subcommand = true; is_built = true }

abbrev pub number : Rule
number = record number_rule { index = Some 1; action = Some Set; parser = Some String; range = Some (record { start_inclusive = 1; end_inclusive = 1 }) }

abbrev pub made_rules : List Rule
made_rules = number ∷ []

abbrev pub made_leaf : Shape
made_leaf = record gen.top { rules = made_rules; no_binary_name = true; disable_help_flag = true; disable_help_subcommand = true; is_built = true }

abbrev pub top : Shape
top = record program.top { is_built = true }

pub built_is : built program ≡ record { top = top; subs = leaf ∷ made_leaf ∷ [] }
built_is = refl

-- what a walk holds, and where it stands
abbrev pub held : List Row → Option (Text × List Text) → Held
held rows pending = record { rows = rows; pending = pending; skip = 0 }

abbrev pub at : Waiting → List Row → Option (Text × List Text) → Walk
at waiting rows pending = record { held = held rows pending; waiting = waiting; position = 1; is_trailing = false; stopped = None }

-- the options that were met
abbrev pub wire_row : Row
wire_row = record { id = codes "wire"; values = codes "true" ∷ []; count = None; source = Some CommandLine; reading = AsWritten }

abbrev pub disks_row : Text → Row
disks_row name = record { id = codes "disks"; values = name ∷ []; count = None; source = Some CommandLine; reading = AsWritten }
