-- The program's command, as clap knows it: a command with one level of subcommands.
use Rattle.std.specs.Prelude.{◌≡◌, Some, true, false, codes}
use Rattle.clap.specs.Simple.{app_of}
use Rattle.clap.specs.Walk.{Rule}
use Rattle.clap.specs.Simple.{App, new_app, new_rule, on_top, with_rule, with_subcommand}
use Rattle.clap.specs.declared.builder.action.ArgAction.TheVariants.{Set, SetTrue}
use Rattle.clap.specs.declared.builder.command.Command.{Command}
use Rattle.clap.specs.declared.builder.command.Command.TheViews.{out-Command}

-- `--wire`, which takes no value
abbrev pub wire_rule : Rule
wire_rule = record (new_rule (codes "wire")) { long = Some (codes "wire"); action = Some SetTrue }

-- `--disks DIR` or `--disks=DIR`
abbrev pub disks_rule : Rule
disks_rule = record (new_rule (codes "disks")) { long = Some (codes "disks"); action = Some Set }

abbrev pub replay : App
replay = with_rule (with_rule (new_app (codes "replay")) wire_rule) disks_rule

-- the command `replay` with its two options, none of which goes down to a command below it
abbrev pub IsReplay : Command → Type 0
IsReplay c = (app_of c ≡ replay) × ((out-Command c).has_globals ≡ false)

-- the number for which a script is to be made
abbrev pub number_rule : Rule
number_rule = record (new_rule (codes "N")) { required = true }

abbrev pub gen : App
gen = with_rule (new_app (codes "gen")) number_rule

-- the command `gen` with its number
abbrev pub IsGen : Command → Type 0
IsGen c = (app_of c ≡ gen) × ((out-Command c).has_globals ≡ false)

-- Of the whole program the words are those behind its name. It has no help, and wants a command.
abbrev pub program : App
program =
    with_subcommand (with_subcommand (on_top (λ s. record s { no_binary_name = true; disable_help_flag = true; disable_help_subcommand = true; subcommand_required = true }) (new_app (codes "afscell"))) replay.top) gen.top
