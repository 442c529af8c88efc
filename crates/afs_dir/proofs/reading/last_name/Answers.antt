use Rattle.std.proofs.Common.{ap, sym, ◌∙◌}
use Rattle.std.specs.Option.{option_copied}
use Rattle.afs_dir.proofs.Names.{last_there}
use Rattle.afs_dir.proofs.reading.last_name.Goals as goal

pub returns-in-Some : goal.returns-in-Some
returns-in-Some c = c.as_slice.ensures ∙ last_there c.args.names.now c.in-Some.n.now (sym c.last.ensures.value ∙ ap option_copied c.in-Some.is)
