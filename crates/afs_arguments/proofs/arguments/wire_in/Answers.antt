use Rattle.std.proofs.Common.{codes}
use Rattle.clap.specs.Matches.{found_of}
use Rattle.afs_arguments.proofs.Asking.{told_by}
use Rattle.afs_arguments.proofs.arguments.wire_in.Goals as goal

pub returns : goal.returns
returns c = told_by (found_of c.args.found.now) (codes "wire") c.get_flag.result c.get_flag.ensures.value c.get_flag.ensures.other
