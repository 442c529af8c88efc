use Rattle.std.proofs.Common.{◌≡◌, ◌<◌, ◌+◌, ℕ, Bool, true, false, cond, ◌||◌, ◌&&◌, List, [], ◌∷◌, ◌++◌, map, filter, Option, Some, None, Ok, Err, refl, ap, sym, subst, ◌∙◌}
use Rattle.std.specs.Prelude.{IsSome}
use Rattle.afs_num.specs.declared.messages.Carried.TheVariants as carried
use Rattle.afs_num.specs.declared.messages.Reply.TheVariants as tell
use Rattle.spec_copyrows.specs.CopyRow.{offer_in}
use Rattle.afs_cache.proofs.Siting.{offer_passed, offer_used, offered_some, unspent}
use Rattle.afs_cache.proofs.node.CacheManager.take_offer.Goals as goal

pub returns-then-passed : goal.returns-then-passed
returns-then-passed c = λ act run.
    let old = c.args.self.now in
    offer_passed c.args.now (record { head = c.args.head.now; carried = carried.Reply (tell.File c.args.reply) }) act c.args.round c.args.offer (offer_in c.args.reply) old c.call_round.new.self c.call_round.result run c.requires.offer (sym c.if-passed.true ∙ c.is_passed-passed.ensures) (c.call_round.ensures act run)

pub returns : goal.returns
returns c = λ act run.
    let old = c.args.self.now in
    offer_used c.args.now (record { head = c.args.head.now; carried = carried.Reply (tell.File c.args.reply) }) act c.args.round c.args.offer (offer_in c.args.reply) old c.take_release.new.self c.take_release.result run c.requires.offer (sym c.if-passed.false ∙ c.is_passed-passed.ensures) (c.take_release.ensures act run)

pub take_release-requires-clause-used : goal.take_release-requires-clause-used
take_release-requires-clause-used c = unspent _ c.args.offer.is_over (sym c.is_passed-passed.ensures ∙ c.if-passed.false)

pub take_release-requires-clause-reads : goal.take_release-requires-clause-reads
take_release-requires-clause-reads c = offered_some c.args.now (offer_in c.args.reply) c.args.offer c.requires.offer
