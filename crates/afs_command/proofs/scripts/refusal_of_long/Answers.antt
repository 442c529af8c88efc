use Rattle.afs_grammar.proofs.TooLong.{too_long_is_none}
use Rattle.afs_command.specs.Reading.{level}
use Rattle.afs_command.proofs.Refused.{long_refusal}
use Rattle.afs_command.proofs.scripts.refusal_of_long.Goals as goal

pub unreachable-requires : goal.unreachable-requires
unreachable-requires c = too_long_is_none level c.args.input.now c.in-Ok.field-0 c.requires c.in-Ok.ensures.script

pub returns : goal.returns
returns c = long_refusal c.args.input.now c.in-Err.refusal c.requires c.in-Err.ensures.bad
