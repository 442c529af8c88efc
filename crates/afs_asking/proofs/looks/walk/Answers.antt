use Rattle.std.proofs.Common.{◌≡◌, ◌-◌, ℕ, suc, subst, arith}
use Rattle.std.specs.Option.{option_copied}
use Rattle.spec_rows.specs.ClientRow.{most_reads, walked}
use Rattle.afs_entries.specs.Cached.{in_sight}
use Rattle.afs_asking.specs.Looking.{IsOnWay}
use Rattle.afs_asking.proofs.Walking.{stopped, turns_on}
use Rattle.afs_asking.proofs.looks.walk.Goals as goal

pub returns-then-not-branch : goal.returns-then-not-branch
returns-then-not-branch c =
    let entries = in_sight c.args.sight.cache.now (option_copied c.args.sight.fresh) in
    stopped c.args.node c.args.now entries (walked (most_reads c.args.going) c.args.now c.args.going entries) c.args.lines.now c.loop-left.left c.in_ok-turn.field-0 c.loop-left.walked c.turn.new.self c.loop-left.lines c.turn.new.lines
    c.in_ok-turn.ensures c.if-not-branch.true c.loop-left.invariant

pub loop-left-preserved : goal.loop-left-preserved
loop-left-preserved c =
    let entries = in_sight c.args.sight.cache.now (option_copied c.args.sight.fresh) in
    let whole = walked (most_reads c.args.going) c.args.now c.args.going entries in
    let more : c.loop-left.left ≡ suc (c.loop-left.left - 1) = omega (arith, c.loop-left-test.true) in
    turns_on c.args.node c.args.now entries whole c.args.lines.now (c.loop-left.left - 1) c.in_ok-turn.field-0 c.loop-left.walked c.turn.new.self c.loop-left.lines c.turn.new.lines
    c.in_ok-turn.ensures c.if-not-branch.false (subst (λ (n : ℕ). IsOnWay c.args.node c.args.now entries whole c.args.lines.now n c.loop-left.walked c.loop-left.lines) more c.loop-left.invariant)
