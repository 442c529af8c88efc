use Rattle.std.proofs.Common.{◌≡◌, [], ◌∷◌, ap, ◌∙◌}
use Rattle.spec_history.specs.declared.acts.Act.{Act}
use Rattle.spec_history.specs.declared.lines.Line.TheVariants as lines
use Rattle.spec_rows.specs.Going.{began}
use Rattle.afs_cache.proofs.Dropping.{begun}
use Rattle.afs_cache.proofs.node.CacheManager.begin_act.Goals as goal

pub returns : goal.returns
returns c =
    let old = c.args.self.now in
    let same : c.in_ok-act.act ≡ c.args.act.now = c.in_ok-act.ensures ∙ c.in_ok-copy_act.ensures in
    begun old.node old.state.client c.args.now c.args.act.now c.in_ok-going.going c.in_ok-lines.lines old c.begin_going.new.self c.begin_going.result (c.in_ok-going.ensures.value ∙ ap (began old.state.client.table) same) (c.in_ok-lines.ensures ∙ ap (λ (act : Act). lines.Begin old.node act ∷ []) same) c.begin_going.ensures
