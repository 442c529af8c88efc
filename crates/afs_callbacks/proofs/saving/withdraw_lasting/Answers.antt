use Rattle.std.proofs.Common.{◌≤◌, ◌+◌, length, sym, subst}
use Rattle.spec_breaks.specs.Promises.{Lists}
use Rattle.afs_promise.specs.Found.{without_found}
use Rattle.afs_callbacks.proofs.Holding.{expired_few}
use Rattle.afs_callbacks.proofs.saving.withdraw_lasting.Goals as goal

pub withdraw_found-requires-clause-held : goal.withdraw_found-requires-clause-held
withdraw_found-requires-clause-held c =
    subst (λ (l : Lists). length c.args.found.now + length (without_found c.args.found.now l.promises) ≤ length l.promises) (sym c.expire.ensures) c.requires.held

pub withdraw_found-requires-clause-number : goal.withdraw_found-requires-clause-number
withdraw_found-requires-clause-number c = expired_few c.args.now c.args.promises.now c.expire.new.self c.expire.ensures c.requires.number
