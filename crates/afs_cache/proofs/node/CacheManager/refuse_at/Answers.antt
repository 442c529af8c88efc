use Rattle.std.proofs.Common.{◌≡◌, ◌<◌, ◌+◌, ℕ, Bool, true, false, cond, ◌||◌, ◌&&◌, List, [], ◌∷◌, ◌++◌, map, filter, Option, Some, None, Ok, Err, refl, ap, sym, subst, ◌∙◌}
use Rattle.spec_history.specs.declared.lines.Line.TheVariants as lines
use Rattle.afs_num.specs.declared.messages.Carried.TheVariants as carried
use Rattle.spec_rows.specs.Going.{Going}
use Rattle.spec_rows.specs.ClientRow.{is_busy_code, is_spent}
use Rattle.spec_copyrows.specs.Sites.{leaves_site, Round}
use Rattle.afs_cache.specs.Rounds.{OfAct}
use Rattle.afs_cache.proofs.Siting.{refusal_leaves, refusal_used, spent_is}
use Rattle.afs_cache.proofs.node.CacheManager.refuse_at.Goals as goal

pub returns-then-used : goal.returns-then-used
returns-then-used c = λ act run.
    let old = c.args.self.now in
    refusal_used c.args.now (record { head = c.args.head.now; carried = carried.Refusal c.args.code }) act c.args.round c.args.code old c.take_guest.new.self c.take_guest.result
    (sym c.if-used.true ∙ (c.is_refusal_used-used.ensures ∙ ap (λ (b : Bool). is_busy_code c.args.code || b) (spent_is old.state.client act run))) c.take_guest.ensures

pub returns : goal.returns
returns c = λ act run.
    let old = c.args.self.now in
    refusal_leaves c.args.now (record { head = c.args.head.now; carried = carried.Refusal c.args.code }) act c.args.round c.args.code old c.leave_site.new.self c.leave_site.result
    (sym c.if-used.false ∙ (c.is_refusal_used-used.ensures ∙ ap (λ (b : Bool). is_busy_code c.args.code || b) (spent_is old.state.client act run)))
    (subst (λ (r : Round). OfAct (λ (place : ℕ) (g : Going). leaves_site old.node old.state g r (lines.Given place ∷ [])) old c.leave_site.new.self c.leave_site.result) c.note_refusal.ensures c.leave_site.ensures act run)
