use Rattle.std.proofs.Common.{◌≡◌, ◌∷◌, [], ℕ, ap, ◌∙◌}
use Rattle.afs_num.specs.declared.messages.Message.{Message}
use Rattle.spec_model.specs.Steps.{NodeState}
use Rattle.spec_rows.specs.Going.{ClientState}
use Rattle.spec_rows.specs.ClientRow.{told_step}
use Rattle.spec_rows.specs.ServerRow.{boot_told}
use Rattle.spec_copyrows.specs.Sites.{CopyState}
use Rattle.afs_cache.proofs.Placing.{stills_same}
use Rattle.afs_cache.proofs.node.CacheManager.tell_boot.Goals as goal

pub returns : goal.returns
returns c =
    let old = c.args.self.now in
    let notice = c.in_ok-notice.ensures ∙ (c.boot_told-notice.ensures ∙ (ap (λ (e : ℕ). boot_told e c.args.head.now) c.boot.ensures ∙ ap (λ (n : NodeState CopyState). boot_told n.state.client.epoch c.args.head.now) c.self.view_is)) in
    stills_same _ (λ (place : ℕ). told_step old.state.client place (boot_told old.state.client.epoch c.args.head.now ∷ [])) old old c.tell.result (λ place. ap (λ (m : Message). told_step old.state.client place (m ∷ [])) notice) c.tell.ensures
