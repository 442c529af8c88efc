use Rattle.std.proofs.Common.{◌≡◌, Some, rules, ap, sym, subst, to_z-of_z, ◌∙◌}
use Rattle.std.specs.Prelude.{ℤ}
use Rattle.std.specs.declared.alloc.AllocError.{AllocError}
use Rattle.afs_sendings.specs.Pieces.{ends_with}
use Rattle.afs_sendings.specs.Sendings.{first_of, rest_of}
use Rattle.spec_volrows.specs.VolSteps.{VolTurn}
use Rattle.afs_volserv.specs.Handling.{StepsVolumes}
use Rattle.afs_volserv.specs.Sending.{ended_then}
use Rattle.afs_volserv.proofs.Moving.{answered_last, answered_more}
use Rattle.afs_volserv.proofs.server.VolServer.take_answer.Goals as goal

pub returns-then-has_ended : goal.returns-then-has_ended
returns-then-has_ended g c =
    let x = c.in-Some.first.now in
    let first : first_of c.args.call.now.content ≡ Some x = search rules in
    let code = to_z-of_z c.ranges.code in
    let last = ap (λ (z : ℤ). ends_with z x) (sym code) ∙ sym c.if-has_ended.ensures in
    let made = subst (λ (t : VolTurn). StepsVolumes {E = AllocError} t c.args.self.now c.end_first.new.self c.args.callbacks.now c.end_first.new.callbacks c.args.store.now c.end_first.new.store c.end_first.result) (λ i. ended_then c.args.self.now c.args.callbacks.now c.args.store.now c.args.now (c.new-lines.ensures i) c.args.node (rest_of c.args.call.now.content) x (code i)) c.end_first.ensures in
    subst (λ (t : VolTurn). StepsVolumes {E = AllocError} t c.args.self.now c.end_first.new.self c.args.callbacks.now c.end_first.new.callbacks c.args.store.now c.end_first.new.store c.end_first.result) (answered_last c.args.self.now c.args.callbacks.now c.args.store.now c.args.now c.args.node c.args.code c.args.call.now.content x first last) made

pub returns-else-has_ended : goal.returns-else-has_ended
returns-else-has_ended g c =
    let x = c.in-Some.first.now in
    let first : first_of c.args.call.now.content ≡ Some x = search rules in
    let code = to_z-of_z c.ranges.code in
    let more = ap (λ (z : ℤ). ends_with z x) (sym code) ∙ sym c.if-has_ended.ensures in
    subst (λ (t : VolTurn). StepsVolumes {E = AllocError} t c.args.self.now c.go_on.new.self c.args.callbacks.now c.go_on.new.callbacks c.args.store.now c.go_on.new.store c.go_on.result) (answered_more c.args.self.now c.args.callbacks.now c.args.store.now c.args.now c.args.node c.args.code c.args.call.now.content x first more) c.go_on.ensures
