use Rattle.std.proofs.Common.{◌≡◌, ◌<◌, ◌+◌, ℕ, Bool, true, false, cond, ◌||◌, ◌&&◌, List, [], ◌∷◌, ◌++◌, map, filter, Option, Some, None, Ok, Err, refl, ap, sym, subst, ◌∙◌}
use Rattle.std.specs.Option.{option_map}
use Rattle.spec_copyrows.specs.CopyRow.{offer_in}
use Rattle.afs_num.specs.declared.messages.Carried.TheVariants as carried
use Rattle.afs_num.specs.declared.messages.Reply.TheVariants as tell
use Rattle.afs_cache.proofs.Siting.{none_offered, offer_none}
use Rattle.afs_cache.proofs.node.CacheManager.offer_at.Goals as goal

pub returns-in-None : goal.returns-in-None
returns-in-None c = λ act run.
    offer_none c.args.now (record { head = c.args.head.now; carried = carried.Reply (tell.File c.args.reply) }) act c.args.round (offer_in c.args.reply) c.args.self.now c.take_guest.new.self c.take_guest.result (none_offered c.args.now (offer_in c.args.reply) (sym c.in-None.is ∙ c.offer_in.ensures)) c.take_guest.ensures

pub take_offer-requires-clause-offer : goal.take_offer-requires-clause-offer
take_offer-requires-clause-offer c = sym c.in-Some.is ∙ c.offer_in.ensures
