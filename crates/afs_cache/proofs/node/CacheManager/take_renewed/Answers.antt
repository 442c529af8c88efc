use Rattle.std.proofs.Common.{◌≡◌, ◌<◌, ◌+◌, ℕ, Bool, true, false, cond, ◌||◌, ◌&&◌, List, [], ◌∷◌, ◌++◌, map, filter, Option, Some, None, Ok, Err, refl, ap, sym, subst, ◌∙◌}
use Rattle.std.specs.declared.alloc.AllocError.{AllocError}
use Rattle.spec_model.specs.Steps.{NodeState}
use Rattle.afs_num.specs.declared.messages.Received.TheVariants.{Whole}
use Rattle.afs_num.specs.declared.types.Node.{Node}
use Rattle.spec_rows.specs.Going.{ClientState}
use Rattle.spec_rows.specs.ClientRow.{guest_row}
use Rattle.spec_copyrows.specs.Sites.{CopyState}
use Rattle.afs_cache.specs.Managing.{number_limit, Takes}
use Rattle.afs_cache.proofs.Sought.{seeking_back, seeking_taken}
use Rattle.afs_cache.proofs.node.CacheManager.take_renewed.Goals as goal

pub take_guest-requires-clause-last : goal.take_guest-requires-clause-last
take_guest-requires-clause-last c = subst (λ (s : NodeState CopyState). s.state.client.last < number_limit) (sym c.swap_seeking-known.ensures.new) c.requires.last

pub returns-in-Ok : goal.returns-in-Ok
returns-in-Ok c =
    let old = c.args.self.now in
    let mid = c.swap_seeking-known.new.self in
    seeking_taken (λ (d : ClientState) (place : ℕ). guest_row old.node d c.args.now place (Whole (record { head = c.args.head.now; carried = c.args.carried }))) old mid c.take_guest.new.self (Some c.args.seeking) c.in-Ok.outs c.swap_seeking-known.ensures.new
    (subst (λ (n : Node). Takes {E = AllocError} (λ (place : ℕ). guest_row n mid.state.client c.args.now place (Whole (record { head = c.args.head.now; carried = c.args.carried }))) mid c.take_guest.new.self (Ok c.in-Ok.outs)) (ap (λ (s : NodeState CopyState). s.node) c.swap_seeking-known.ensures.new) c.in-Ok.ensures)

pub returns-in-Err : goal.returns-in-Err
returns-in-Err c =
    seeking_back c.args.self.now c.swap_seeking-known.new.self c.take_guest.new.self c.swap_seeking-seeking.new.self (Some c.args.seeking) c.swap_seeking-known.result c.swap_seeking-known.ensures.new c.swap_seeking-known.ensures.old c.in-Err.ensures c.swap_seeking-seeking.ensures.new
