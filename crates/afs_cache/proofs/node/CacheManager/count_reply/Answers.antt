use Rattle.afs_cache.proofs.Replying.{ignored_taken}
use Rattle.std.proofs.Common.{◌≡◌, ℕ, ap, sym, ◌∙◌}
use Rattle.spec_rows.specs.Going.{Going}
use Rattle.afs_cache.specs.Wanted.{counts_reply}
use Rattle.afs_num.specs.declared.messages.Reply.{Reply}
use Rattle.afs_cache.specs.Managing.{by_act}
use Rattle.afs_cache.proofs.Answering.{takes_same}
use Rattle.afs_cache.proofs.Interfaces.{ignored_else, reply_is}
use Rattle.afs_cache.proofs.node.CacheManager.count_reply.Goals as goal

pub returns-in-Some : goal.returns-in-Some
returns-in-Some c =
    let old = c.args.self.now in
    takes_same _ (λ (place : ℕ). by_act old.state.client place (λ (act : Going). counts_reply old.node old.state.client c.args.now place act c.args.reply) old.state.client.running) old c.hear_reply.new.self c.hear_reply.result
    (λ place. ap (λ (x : Reply). by_act old.state.client place (λ (act : Going). counts_reply old.node old.state.client c.args.now place act x) old.state.client.running) (sym (reply_is c.args.reply _ (sym c.into_file.ensures ∙ c.in-Some.is)))) c.hear_reply.ensures

pub returns-in-None : goal.returns-in-None
returns-in-None c =
    let old = c.args.self.now in
    ignored_taken old.state.client (λ (place : ℕ) (act : Going). counts_reply old.node old.state.client c.args.now place act c.args.reply) old old c.ignore.result
    (λ place act. ignored_else old.node old.state.client c.args.now place act c.args.reply (sym c.into_file.ensures ∙ c.in-None.is)) c.ignore.ensures.takes
