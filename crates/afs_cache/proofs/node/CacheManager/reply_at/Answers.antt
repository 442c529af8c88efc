use Rattle.std.proofs.Common.{◌≡◌, ◌<◌, ◌+◌, ℕ, Bool, true, false, cond, ◌||◌, ◌&&◌, List, [], ◌∷◌, ◌++◌, map, filter, Option, Some, None, Ok, Err, refl, ap, sym, subst, ◌∙◌}
use Rattle.spec_model.specs.Messages.{HasSpelling}
use Rattle.afs_num.specs.declared.messages.Carried.TheVariants as carried
use Rattle.afs_num.specs.declared.messages.Reply.{Reply}
use Rattle.afs_num.specs.declared.messages.Reply.TheVariants as tell
use Rattle.afs_cache.proofs.Interfaces.{reply_is}
use Rattle.afs_cache.proofs.Siting.{file_heard, none_file, other_used, some_file}
use Rattle.afs_cache.proofs.node.CacheManager.reply_at.Goals as goal

pub returns-then-not-file : goal.returns-then-not-file
returns-then-not-file c = λ act run.
    other_used c.args.now (record { head = c.args.head.now; carried = carried.Reply c.args.reply }) act c.args.round c.args.reply c.args.self.now c.take_guest.new.self c.take_guest.result (none_file c.args.reply (sym c.is_file-file.ensures ∙ c.if-not-file.true)) c.take_guest.ensures

pub returns-in-Some : goal.returns-in-Some
returns-in-Some c =
    file_heard c.args.now c.args.head.now c.args.reply c.in-Some.reply c.args.round c.args.self.now c.offer_at.new.self c.offer_at.result (reply_is c.args.reply c.in-Some.reply (sym c.into_file.ensures ∙ c.in-Some.is)) c.offer_at.ensures

pub returns-in-None : goal.returns-in-None
returns-in-None c = absurd (some_file c.args.reply (sym c.is_file-file.ensures ∙ c.if-not-file.false) (sym c.into_file.ensures ∙ c.in-None.is))

pub offer_at-requires-clause-sound : goal.offer_at-requires-clause-sound
offer_at-requires-clause-sound c = subst (λ (x : Reply). HasSpelling (record { head = c.args.head.now; carried = carried.Reply x })) (reply_is c.args.reply c.in-Some.reply (sym c.into_file.ensures ∙ c.in-Some.is)) c.requires.sound
