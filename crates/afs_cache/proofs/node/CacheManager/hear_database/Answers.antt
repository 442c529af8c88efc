use Rattle.std.proofs.Common.{◌≡◌, ℕ, ◌+◌, ◌∷◌, ◌++◌, List, Some, None, ap, sym, ◌∙◌}
use Rattle.spec_rows.specs.Going.{ClientState, Going}
use Rattle.std.proofs.Common.{subst}
use Rattle.afs_num.specs.declared.messages.Carried.{Carried}
use Rattle.spec_model.specs.Messages.{HasSpelling}
use Rattle.spec_rows.specs.ClientRow.{with_given, located_by, seeks_again, sought_by, sought_ends}
use Rattle.afs_cache.specs.Locating.{entry_told}
use Rattle.afs_cache.proofs.Answering.{takes_same}
use Rattle.afs_cache.proofs.Sought.{told_as, entry_fits}
use Rattle.afs_cache.proofs.node.CacheManager.hear_database.Goals as goal

pub returns-in-Refusal : goal.returns-in-Refusal
returns-in-Refusal c = λ k e.
    let old = c.args.self.now in
    takes_same (λ (place : ℕ). sought_ends old.node old.state.client (with_given place) c.in-Refusal.code) (λ (place : ℕ). sought_by old.node old.state.client c.args.now place k c.args.head.now c.args.carried) old c.answer_seeking.new.self c.answer_seeking.result
    (λ place. ap (sought_by old.node old.state.client c.args.now place k c.args.head.now) (sym c.in-Refusal.is)) c.answer_seeking.ensures

pub returns-in-Reply : goal.returns-in-Reply
returns-in-Reply c = λ k e.
    let old = c.args.self.now in
    takes_same (λ (place : ℕ). located_by old.node old.state.client c.args.now place k (entry_told c.in-Reply.reply)) (λ (place : ℕ). sought_by old.node old.state.client c.args.now place k c.args.head.now c.args.carried) old c.hear_entry.new.self c.hear_entry.result
    (λ place. told_as old.node old.state.client c.args.now place k c.args.head.now c.in-Reply.reply ∙ ap (sought_by old.node old.state.client c.args.now place k c.args.head.now) (sym c.in-Reply.is)) (c.hear_entry.ensures k e)

pub returns-in-Notice : goal.returns-in-Notice
returns-in-Notice c = λ k e.
    let old = c.args.self.now in
    takes_same (λ (place : ℕ). seeks_again old.node old.state.client place k c.args.head.now.boot) (λ (place : ℕ). sought_by old.node old.state.client c.args.now place k c.args.head.now c.args.carried) old c.ask_again.new.self c.ask_again.result
    (λ place. ap (sought_by old.node old.state.client c.args.now place k c.args.head.now) (sym c.in-Notice.is)) (c.ask_again.ensures k e)

pub returns : goal.returns
returns c = λ k e.
    let old = c.args.self.now in
    takes_same _ (λ (place : ℕ). sought_by old.node old.state.client c.args.now place k c.args.head.now c.args.carried) old old c.ignore.result
    (λ place. ap (sought_by old.node old.state.client c.args.now place k c.args.head.now) (sym c.in-Call.is)) c.ignore.ensures.takes

pub hear_entry-requires-clause-entry : goal.hear_entry-requires-clause-entry
hear_entry-requires-clause-entry c = entry_fits c.in-Reply.reply c.args.head.now (subst (λ (x : Carried). HasSpelling (record { head = c.args.head.now; carried = x })) c.in-Reply.is c.requires.sound)
