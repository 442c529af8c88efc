use Rattle.std.proofs.Common.{arith, refl}
use Rattle.afs_promise.proofs.Logs.{alike_log}
use Rattle.afs_promise.proofs.grants.Grants.reserve.Goals as goal

pub invariant_of-self-in_err-reserve-2 : goal.invariant_of-self-in_err-reserve-2
invariant_of-self-in_err-reserve-2 c = (
  alike_log c.self-2.inside.latest c.reserve-2.new.self c.in_err-reserve-2.ensures.entries c.in_ok-reserve.ensures.items refl c.self-2.invariant.0,
  omega (arith, c.self-2.invariant.1, c.in_ok-reserve.ensures.len, c.in_ok-reserve.ensures.capacity),
  c.self-2.invariant.2,
  omega (arith, c.self-2.invariant.3, c.in_err-reserve-2.ensures.room.0),
  c.self-2.invariant.4,
)

pub invariant_of-self-in_err-reserve-3 : goal.invariant_of-self-in_err-reserve-3
invariant_of-self-in_err-reserve-3 c = (
  alike_log c.self-2.inside.latest c.reserve-2.new.self c.in_ok-reserve-2.ensures.entries c.in_ok-reserve.ensures.items c.in_err-reserve-3.ensures.items c.self-2.invariant.0,
  omega (arith, c.self-2.invariant.1, c.in_ok-reserve.ensures.len, c.in_ok-reserve.ensures.capacity),
  omega (arith, c.self-2.invariant.2, c.in_err-reserve-3.ensures.len, c.in_err-reserve-3.ensures.capacity),
  omega (arith, c.self-2.invariant.3, c.in_ok-reserve-2.ensures.room.0),
  c.self-2.invariant.4,
)

pub invariant_of-self-2 : goal.invariant_of-self-2
invariant_of-self-2 c = (
  alike_log c.self-2.inside.latest c.reserve-2.new.self c.in_ok-reserve-2.ensures.entries c.in_ok-reserve.ensures.items c.in_ok-reserve-3.ensures.items c.self-2.invariant.0,
  omega (arith, c.in_ok-reserve.ensures.len, c.in_ok-reserve.ensures.ok),
  omega (arith, c.in_ok-reserve-3.ensures.len, c.in_ok-reserve-3.ensures.ok),
  c.in_ok-reserve-2.ensures.ok,
  omega (arith, c.if-self-additional.false),
)
