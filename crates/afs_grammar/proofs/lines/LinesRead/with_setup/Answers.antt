use Rattle.std.proofs.Common.{rules}
use Rattle.afs_grammar.proofs.Laid.{refused_as}
use Rattle.afs_grammar.proofs.lines.LinesRead.with_setup.Goals as goal

pub returns-in_err-lay-clause-value : goal.returns-in_err-lay-clause-value
returns-in_err-lay-clause-value g c =
    refused_as c.args.form.level c.args.self.now _ c.args.name.now c.place_of-place.result c.args.line c.in_err-lay.field-0.0 c.from_residual.result (search rules) (search rules) c.in_err-lay.ensures.value
