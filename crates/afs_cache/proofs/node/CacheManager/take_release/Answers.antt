use Rattle.std.proofs.Common.{◌≡◌, ◌<◌, ◌+◌, ℕ, Bool, true, false, cond, ◌||◌, ◌&&◌, List, [], ◌∷◌, ◌++◌, map, filter, Option, Some, None, Ok, Err, refl, ap, sym, subst, ◌∙◌}
use Rattle.spec_history.specs.declared.lines.Line.TheVariants as lines
use Rattle.afs_num.specs.declared.messages.Carried.TheVariants as carried
use Rattle.afs_num.specs.declared.messages.Message.{Message}
use Rattle.afs_num.specs.declared.messages.Reply.TheVariants as tell
use Rattle.spec_rows.specs.Going.{Going}
use Rattle.spec_copyrows.specs.CopyRow.{uses_newer}
use Rattle.spec_copyrows.specs.Sites.{leaves_site, Round, seen_of}
use Rattle.std.specs.Prelude.{nat_lt}
use Rattle.afs_cache.specs.Rounds.{OfAct}
use Rattle.afs_cache.proofs.Siting.{release_newer, release_older, release_same}
use Rattle.afs_cache.proofs.node.CacheManager.take_release.Goals as goal

pub returns-then-older : goal.returns-then-older
returns-then-older c = λ act run.
    let old = c.args.self.now in
    release_older c.args.now (record { head = c.args.head.now; carried = carried.Reply (tell.File c.args.reply) }) act c.args.round c.args.release old c.leave_site.new.self c.leave_site.result
    (sym c.if-older.true ∙ (c.is_older-older.ensures ∙ ap (λ (v : ℕ). nat_lt c.args.release (seen_of old.state v)) c.volume-volume.ensures))
    (subst (λ (r : Round). OfAct (λ (place : ℕ) (g : Going). leaves_site old.node old.state g r (lines.Given place ∷ [])) old c.leave_site.new.self c.leave_site.result) c.note_offer.ensures c.leave_site.ensures act run)

pub returns-then-newer : goal.returns-then-newer
returns-then-newer c = λ act run.
    let old = c.args.self.now in
    let m : Message = record { head = c.args.head.now; carried = carried.Reply (tell.File c.args.reply) } in
    release_newer c.args.now m act c.args.round c.args.release old c.use_newer.new.self c.use_newer.result
    (sym c.if-older.false ∙ (c.is_older-older.ensures ∙ ap (λ (v : ℕ). nat_lt c.args.release (seen_of old.state v)) c.volume-volume.ensures))
    (sym c.if-newer.true ∙ (c.is_newer-newer.ensures ∙ ap (λ (v : ℕ). nat_lt (seen_of old.state v) c.args.release) c.volume-volume.ensures))
    (subst (λ (v : ℕ). OfAct (λ (place : ℕ) (g : Going). uses_newer old.node old.state c.args.now place m v c.args.release) old c.use_newer.new.self c.use_newer.result) c.volume-volume.ensures c.use_newer.ensures act run)

pub returns : goal.returns
returns c = λ act run.
    let old = c.args.self.now in
    release_same c.args.now (record { head = c.args.head.now; carried = carried.Reply (tell.File c.args.reply) }) act c.args.round c.args.release old c.take_guest.new.self c.take_guest.result
    (sym c.if-older.false ∙ (c.is_older-older.ensures ∙ ap (λ (v : ℕ). nat_lt c.args.release (seen_of old.state v)) c.volume-volume.ensures))
    (sym c.if-newer.false ∙ (c.is_newer-newer.ensures ∙ ap (λ (v : ℕ). nat_lt (seen_of old.state v) c.args.release) c.volume-volume.ensures)) c.take_guest.ensures
