use Rattle.std.proofs.Common.{sym, ap, ◌∙◌}
use Rattle.afs_volanswers.specs.Looking.{listed_there}
use Rattle.afs_volserv.proofs.looking.listed_at.Goals as goal

pub returns-clause-value : goal.returns-clause-value
returns-clause-value g c =
    let there = c.in_ok-volume_at.ensures.some in
    c.listed.ensures.value there.0 ∙ ap (listed_there c.args.family) (sym there.1)
