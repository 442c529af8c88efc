use Rattle.std.proofs.Common.{List, ◌+◌, length, ap, arith}
use Rattle.afs_promise.specs.declared.types.Grant.{Grant}
use Rattle.spec_breaks.specs.Promises.{Lists}
use Rattle.afs_promise.proofs.Lists.{volume_long}
use Rattle.afs_promise.proofs.promises.Promises.withdraw_volume.Goals as goal

pub owe_each-requires-clause-room : goal.owe_each-requires-clause-room
owe_each-requires-clause-room c =
    omega (
      arith,
      volume_long c.args.volume c.take_volume.new.gone.items c.self.inside.grants.promises c.take_volume.ensures.hits,
      ap (λ (gs : List Grant). length gs) c.deref.ensures.value,
      c.self.invariant.0,
    )

pub owe_each-requires-clause-number : goal.owe_each-requires-clause-number
owe_each-requires-clause-number c =
    omega (
      arith,
      volume_long c.args.volume c.take_volume.new.gone.items c.self.inside.grants.promises c.take_volume.ensures.hits,
      ap (λ (gs : List Grant). length gs) c.deref.ensures.value,
      c.requires,
      ap (λ (l : Lists). l.last_owed + length l.promises) c.self.view_is,
    )
