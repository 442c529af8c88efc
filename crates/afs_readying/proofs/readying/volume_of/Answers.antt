use Rattle.std.proofs.Common.{◌∙◌, ap, sym, rules}
use Rattle.afs_vnode.specs.Stores.{Held}
use Rattle.afs_volume.specs.Assembling.{make_volume}
use Rattle.afs_readying.proofs.Readied.{head_fits, in_order, made_again, no_parts, told_again}
use Rattle.afs_readying.proofs.readying.volume_of.Goals as goal

pub store_of-requires-clause-fits : goal.store_of-requires-clause-fits
store_of-requires-clause-fits c = (in_order c.args.given c.requires).fits

pub store_of-requires-clause-ascend : goal.store_of-requires-clause-ascend
store_of-requires-clause-ascend c = (in_order c.args.given c.requires).ascend

pub store_of-requires-clause-few : goal.store_of-requires-clause-few
store_of-requires-clause-few c = (in_order c.args.given c.requires).few

pub returns-in-Ok-clause-told : goal.returns-in-Ok-clause-told
returns-in-Ok-clause-told c = told_again c.args.given.head c.args.given.vnodes c.in-Ok.volume c.in-Ok.ensures.parts.0 (ap (λ (h : Held). h.table) c.in-Ok.ensures.parts.1 ∙ c.in_ok-vnodes.ensures)

pub returns-in-Ok-clause-again : goal.returns-in-Ok-clause-again
returns-in-Ok-clause-again c =
    made_again c.args.given.head c.args.given.vnodes c.in-Ok.volume c.in-Ok.ensures.parts.0 (ap (λ (h : Held). h.table) c.in-Ok.ensures.parts.1 ∙ c.in_ok-vnodes.ensures) (in_order c.args.given c.requires).few
    (ap (make_volume c.args.given.head) (sym c.in_ok-vnodes.ensures) ∙ c.in-Ok.ensures.whole)

pub returns-in-Err-NotSound-clause-bad : goal.returns-in-Err-NotSound-clause-bad
returns-in-Err-NotSound-clause-bad c = λ e.
    no_parts c.args.given (ap (make_volume c.args.given.head) (sym c.in_ok-vnodes.ensures) ∙ c.in-Err-NotSound.ensures.not_sound (search rules))

pub assemble-requires : goal.assemble-requires
assemble-requires c = head_fits c.args.given c.requires
