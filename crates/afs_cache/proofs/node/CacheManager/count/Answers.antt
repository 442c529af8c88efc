use Rattle.std.proofs.Common.{◌≡◌, ℕ, List, [], ◌∷◌, ◌++◌, Some, None, true, false, ap, map, filter, sym, ◌∙◌}
use Rattle.spec_rows.specs.Going.{ClientState, Going}
use Rattle.afs_num.specs.declared.messages.Carried.{Carried}
use Rattle.spec_rows.specs.ClientRow.{counts, resends_step}
use Rattle.afs_cache.specs.Wanted.{counts_reply}
use Rattle.afs_cache.specs.Managing.{hears_refusal, by_act}
use Rattle.afs_cache.proofs.Replying.{counted_as, ignored_taken, replied_as, resends_keep}
use Rattle.afs_cache.proofs.node.CacheManager.count.Goals as goal
use Rattle.afs_cache.proofs.Placing.{still_taken}

pub returns-in-Refusal : goal.returns-in-Refusal
returns-in-Refusal c =
    let old = c.args.self.now in
    counted_as old.node old.state.client c.args.now c.args.head.now (λ (place : ℕ) (act : Going). hears_refusal old.node old.state.client place act c.in-Refusal.code) c.args.carried old c.hear_refusal.new.self c.hear_refusal.result
    (λ place act. ap (counts old.node old.state.client c.args.now place act c.args.head.now) (sym c.in-Refusal.is)) c.hear_refusal.ensures

pub returns-in-Reply : goal.returns-in-Reply
returns-in-Reply c =
    let old = c.args.self.now in
    counted_as old.node old.state.client c.args.now c.args.head.now (λ (place : ℕ) (act : Going). counts_reply old.node old.state.client c.args.now place act c.in-Reply.reply) c.args.carried old c.count_reply.new.self c.count_reply.result
    (λ place act. replied_as old.node old.state.client c.args.now place act c.args.head.now c.in-Reply.reply ∙ ap (counts old.node old.state.client c.args.now place act c.args.head.now) (sym c.in-Reply.is)) c.count_reply.ensures

pub returns-in-Notice : goal.returns-in-Notice
returns-in-Notice c =
    let old = c.args.self.now in
    counted_as old.node old.state.client c.args.now c.args.head.now (λ (place : ℕ) (act : Going). resends_step old.node old.state.client place act c.args.head.now.boot) c.args.carried old c.resend.new.self c.resend.result
    (λ place act. ap (counts old.node old.state.client c.args.now place act c.args.head.now) (sym c.in-Notice.is))
    (still_taken (λ (place : ℕ). by_act old.state.client place (λ (act : Going). resends_step old.node old.state.client place act c.args.head.now.boot) old.state.client.running) old c.resend.new.self c.resend.result (λ place. resends_keep old.node old.state.client place c.args.head.now.boot old.state.client.running) c.resend.ensures)

pub returns : goal.returns
returns c =
    let old = c.args.self.now in
    ignored_taken old.state.client (λ (place : ℕ) (act : Going). counts old.node old.state.client c.args.now place act c.args.head.now c.args.carried) old old c.ignore.result (λ place act. ap (counts old.node old.state.client c.args.now place act c.args.head.now) (sym c.in-Call.is)) c.ignore.ensures.takes
