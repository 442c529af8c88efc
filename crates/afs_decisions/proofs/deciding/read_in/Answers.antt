use Rattle.std.proofs.Common.{[]}
use Rattle.spec_rows.specs.Runs.{first_server}
use Rattle.spec_ideal.specs.Operations.{the_user}
use Rattle.afs_decisions.proofs.Decisions.{is_on, read_can_be_told, read_decides, read_fits}
use Rattle.afs_decisions.proofs.deciding.read_in.Goals as goal

pub read-read-requires-clause-on : goal.read-read-requires-clause-on
read-read-requires-clause-on c = is_on c.args.call.now c.args.volume.now.head.id c.requires.on

pub returns-clause-decides : goal.returns-clause-decides
returns-clause-decides c new s =
    read_decides s c.args.now c.args.head.now (the_user c.args.user.now) new c.args.volume.now c.args.call.now c.read-read.result c.in_ok-decided.decided c.requires.reading c.requires.on c.read-read.ensures.replies c.in_ok-decided.ensures

pub returns-clause-told : goal.returns-clause-told
returns-clause-told c =
    read_can_be_told c.args.head.now.opcode c.args.now (the_user c.args.user.now) c.args.volume.now c.args.call.now (first_server 0 []) c.args.head.now c.read-read.result c.in_ok-decided.decided
    c.requires.call.opcode c.requires.reading c.requires.on c.read-read.ensures.replies (c.read-read.ensures.fits c.requires.call.fits) c.in_ok-decided.ensures

pub returns-clause-fits : goal.returns-clause-fits
returns-clause-fits c = read_fits c.args.call.now c.read-read.result c.in_ok-decided.decided c.in_ok-decided.ensures
