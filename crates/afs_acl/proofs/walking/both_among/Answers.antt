use Rattle.std.proofs.Common.{sym, ◌∙◌}
use Rattle.afs_acl.specs.Walks.{entry_seen}
use Rattle.afs_acl.proofs.Walked.{walk_goes_on, walk_meets_again, walk_stops}
use Rattle.afs_acl.proofs.walking.both_among.Goals as goal

pub returns-in_err-entry : goal.returns-in_err-entry
returns-in_err-entry c =
    let w = c.loop-before.invariant in
    rw c.from_residual.ensures (walk_stops c.args.user.now c.args.bytes.now c.loop-before.rest.now c.args.count c.loop-before.before c.loop-before.both w c.loop-before-test.true c.in_err-entry.ensures)

pub returns-then-is_among : goal.returns-then-is_among
returns-then-is_among c =
    let w = c.loop-before.invariant in
    walk_meets_again c.args.user.now c.args.bytes.now c.loop-before.rest.now c.args.count c.loop-before.before c.loop-before.both (entry_seen c.in_ok-entry.entry) c.in_ok-entry.after.now w c.loop-before-test.true c.in_ok-entry.ensures (sym c.is_among.ensures ∙ c.if-is_among.true)

pub loop-before-preserved : goal.loop-before-preserved
loop-before-preserved c =
    let w = c.loop-before.invariant in
    rw c.with_one-both.ensures (walk_goes_on c.args.user.now c.args.bytes.now c.loop-before.rest.now c.args.count c.loop-before.before c.loop-before.both (entry_seen c.in_ok-entry.entry) c.in_ok-entry.after.now w c.loop-before-test.true c.in_ok-entry.ensures (sym c.is_among.ensures ∙ c.if-is_among.false))
