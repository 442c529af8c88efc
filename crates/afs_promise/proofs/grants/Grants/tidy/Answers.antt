use Rattle.std.proofs.Common.{rules, ◌≡◌, ℕ, List, arith, ap, ◌∙◌, filter}
use Rattle.std.proofs.lemmas.Fn.{filter_same}
use Rattle.indexmap.specs.IndexMap.{get}
use Rattle.spec_breaks.specs.declared.types.Promise.{Promise}
use Rattle.afs_promise.specs.Granting.{Granted, same_holding, is_held}
use Rattle.afs_promise.proofs.Logs.{tidied_log, tidied_held}
use Rattle.afs_promise.proofs.grants.Grants.tidy.Goals as goal

abbrev granted : ℕ → List Promise → Granted
granted n ps = record { promises = ps; room = n }

pub invariant_of-self : goal.invariant_of-self
invariant_of-self c =
    let kept : c.retain.new.self.items ≡ filter (is_held (get same_holding c.self.inside.latest)) c.self.inside.log.items = filter_same _ (is_held (get same_holding c.self.inside.latest)) _ (λ x b f' h. search rules) _ _ c.retain.ensures.filtered in
    (tidied_log kept c.self.invariant.0, omega (arith, c.self.invariant.1, c.retain.ensures.bound, c.retain.ensures.capacity), c.self.invariant.2, c.self.invariant.3, c.self.invariant.4)

pub returns-then-len-self : goal.returns-then-len-self
returns-then-len-self c =
    let kept : c.retain.new.self.items ≡ filter (is_held (get same_holding c.self.inside.latest)) c.self.inside.log.items = filter_same _ (is_held (get same_holding c.self.inside.latest)) _ (λ x b f' h. search rules) _ _ c.retain.ensures.filtered in
    ap (granted c.self.inside.room) (tidied_held (get same_holding c.self.inside.latest) c.self.inside.log.items c.retain.new.self.items kept) ∙ c.self.view_is
