use Rattle.std.proofs.Common.{◌≡◌, ℕ, ◌+◌, List, [], ◌∷◌, ◌++◌, Some, None, true, false, ap, map, filter, sym, ◌∙◌}
use Rattle.spec_rows.specs.Going.{ClientState, Going}
use Rattle.spec_model.specs.Steps.{NodeState}
use Rattle.spec_rows.specs.ClientRow.{resends_step}
use Rattle.spec_copyrows.specs.Sites.{CopyState}
use Rattle.afs_cache.proofs.Replying.{idle_stays, resent_taken}
use Rattle.afs_cache.proofs.node.CacheManager.resend.Goals as goal

pub returns-in_default : goal.returns-in_default
returns-in_default c =
    let old = c.args.self.now in
    idle_stays old.state.client (λ (place : ℕ) (act : Going). resends_step old.node old.state.client place act c.args.boot) old old c.ignore.result c.in_default.ensures c.ignore.ensures.still

pub returns : goal.returns
returns c = resent_taken c.args.boot c.in-Some.asked.now c.args.self.now c.note.new.self c.in_ok-outs.outs c.in-Some.ensures c.in_ok-note.ensures.ok c.in_ok-outs.ensures.lines c.in_ok-outs.ensures.sent
