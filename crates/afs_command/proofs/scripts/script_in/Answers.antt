use Rattle.std.specs.Prelude.{◌≡◌}
use Rattle.std.proofs.Common.{rules, subst, sym}
use Rattle.afs_outside.specs.Outside.{TakesTooMuch}
use Rattle.afs_command.specs.Spans.{span}
use Rattle.afs_command.specs.Reading.{refusal_status, IsLongRefusal, GivesNone}
use Rattle.afs_command.proofs.Refused.{none_of_long}
use Rattle.afs_command.proofs.scripts.script_in.Goals as goal

pub returns-in-Err-TooLong-clause-none : goal.returns-in-Err-TooLong-clause-none
returns-in-Err-TooLong-clause-none g c =
    let long : TakesTooMuch 16777216 (g.S.Source.left c.args.source.now) (g.S.Source.left c.read_all.new.source) c.in-Err-TooLong.front = rw c.in-Err-TooLong.field-0-is at c.in-Err-TooLong.ensures.too_long in
    let quiet : g.S.Source.faults c.read_all.new.source ≡ g.S.Source.faults c.args.source.now = search rules in
    let refused : IsLongRefusal c.in-Err-TooLong.front c.refusal_of_long.result = search rules in
    let status : c.status.result ≡ refusal_status c.refusal_of_long.result = c.status.ensures in
    subst (GivesNone (span (g.S.Source.left c.args.source.now) (g.S.Source.left c.read_all.new.source)) (span (g.S.Source.faults c.args.source.now) (g.S.Source.faults c.read_all.new.source))) (sym status)
    (none_of_long (span (g.S.Source.left c.args.source.now) (g.S.Source.left c.read_all.new.source)) (span (g.S.Source.faults c.args.source.now) (g.S.Source.faults c.read_all.new.source)) c.in-Err-TooLong.front c.refusal_of_long.result quiet long refused)
