use Rattle.std.proofs.Common.{◌≡◌, ℕ, ap, refl, sym, subst, ◌∙◌}
use Rattle.afs_num.specs.declared.messages.Received.{Received}
use Rattle.afs_num.specs.declared.messages.Received.TheVariants.{Nothing, Unreadable, Unserved, Whole}
use Rattle.spec_rows.specs.ClientRow.{guest_row, ignores}
use Rattle.spec_rows.specs.ServerRow.{not_served}
use Rattle.spec_copyrows.specs.CopyRow.{copy_row}
use Rattle.afs_cache.specs.Managing.{TakesCopy}
use Rattle.afs_cache.specs.Serving.{takes_asking}
use Rattle.afs_cache.specs.declared.serving.Asking.TheVariants as askings
use Rattle.afs_cache.proofs.Answering.{takes_same}
use Rattle.afs_cache.proofs.Breaking.{asking_keeps, unreadable_as, unserved_as}
use Rattle.afs_cache.proofs.Placing.{still_taken}
use Rattle.afs_cache.proofs.Siting.{received_as, nothing_heard, unreadable_heard, unserved_heard}
use Rattle.afs_cache.proofs.Sought.{row_is}
use Rattle.afs_cache.proofs.node.CacheManager.take_in.Goals as goal

pub returns-in-Unserved : goal.returns-in-Unserved
returns-in-Unserved c =
    let old = c.args.self.now in
    let head = c.in-Unserved.head in
    let asking = askings.Refused (record { 0 = not_served }) in
    received_as c.args.now (Unserved head) c.args.received old c.take_asking.new.self c.take_asking.result (sym c.in-Unserved.is)
    (unserved_heard c.args.now head old c.take_asking.new.self c.take_asking.result
    (takes_same (λ (place : ℕ). takes_asking old.node old.state.client place head asking) (λ (place : ℕ). guest_row old.node old.state.client c.args.now place (Unserved head)) old c.take_asking.new.self c.take_asking.result
    (λ place. unserved_as old.node old.state.client c.args.now place head ∙ row_is old.node old.state.client c.args.now place (Unserved head))
    (still_taken (λ (place : ℕ). takes_asking old.node old.state.client place head asking) old c.take_asking.new.self c.take_asking.result (λ place. asking_keeps old.node old.state.client place head asking) c.take_asking.ensures)))

pub returns-in-Unreadable : goal.returns-in-Unreadable
returns-in-Unreadable c =
    let old = c.args.self.now in
    let head = c.in-Unreadable.head in
    let asking = askings.Refused c.unreadable-code.result in
    let new = c.take_asking-in-Unreadable.new.self in
    let result = c.take_asking-in-Unreadable.result in
    received_as c.args.now (Unreadable head) c.args.received old new result (sym c.in-Unreadable.is)
    (unreadable_heard c.args.now head old new result
    (takes_same (λ (place : ℕ). takes_asking old.node old.state.client place head asking) (λ (place : ℕ). guest_row old.node old.state.client c.args.now place (Unreadable head)) old new result
    (λ place. unreadable_as old.node old.state.client c.args.now place head c.unreadable-code.result c.unreadable-code.ensures ∙ row_is old.node old.state.client c.args.now place (Unreadable head))
    (still_taken (λ (place : ℕ). takes_asking old.node old.state.client place head asking) old new result (λ place. asking_keeps old.node old.state.client place head asking) c.take_asking-in-Unreadable.ensures)))

pub returns-in-Nothing : goal.returns-in-Nothing
returns-in-Nothing c =
    let old = c.args.self.now in
    received_as c.args.now Nothing c.args.received old old c.ignore.result (sym c.in-Nothing.is)
    (nothing_heard c.args.now old old c.ignore.result
    (takes_same (λ (place : ℕ). ignores old.state.client place) (λ (place : ℕ). guest_row old.node old.state.client c.args.now place Nothing) old old c.ignore.result (λ place. row_is old.node old.state.client c.args.now place Nothing) c.ignore.ensures.takes))

pub returns-in-Whole : goal.returns-in-Whole
returns-in-Whole c = received_as c.args.now (Whole c.in-Whole.message) c.args.received c.args.self.now c.take_message.new.self c.take_message.result (sym c.in-Whole.is) c.take_message.ensures
