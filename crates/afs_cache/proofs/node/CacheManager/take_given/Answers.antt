use Rattle.std.proofs.Common.{◌≡◌, ℕ, List, [], ◌∷◌, ◌++◌, Some, None, true, false, ap, map, filter, sym, ◌∙◌}
use Rattle.afs_num.specs.declared.calls.FsCall.{FsCall}
use Rattle.spec_rows.specs.Going.{ClientState, Going}
use Rattle.spec_rows.specs.ClientRow.{behind_batch, call_of, with_given, gives_by, takes_given, takes_plain}
use Rattle.afs_cache.specs.Wanted.{is_gift}
use Rattle.afs_cache.proofs.Replying.{given_as, holds_taken}
use Rattle.afs_cache.proofs.node.CacheManager.take_given.Goals as goal

pub returns-then-given : goal.returns-then-given
returns-then-given c =
    let old = c.args.self.now in
    let st = old.state.client in
    holds_taken true is_gift st (λ (place : ℕ) (act : Going) (call : FsCall). gives_by old.node st (with_given place) act (behind_batch st.gifts)) (λ (place : ℕ) (act : Going). takes_given old.node st place act) old c.give_on.new.self c.give_on.result (sym c.if-given.true ∙ c.has_given-given.ensures)
    (λ place act e. given_as old.node st place act (call_of st act) true e) c.give_on.ensures

pub returns-else-given : goal.returns-else-given
returns-else-given c =
    let old = c.args.self.now in
    let st = old.state.client in
    holds_taken false is_gift st (λ (place : ℕ) (act : Going). takes_plain old.node st place) (λ (place : ℕ) (act : Going). takes_given old.node st place act) old c.take_plain.new.self c.take_plain.result (sym c.if-given.false ∙ c.has_given-given.ensures)
    (λ place act e. given_as old.node st place act (call_of st act) false e) c.take_plain.ensures
