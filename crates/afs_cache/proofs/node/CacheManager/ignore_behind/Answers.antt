use Rattle.std.proofs.Common.{◌≡◌, ◌∷◌, List, refl, ap, sym, ◌∙◌}
use Rattle.std.proofs.lemmas.List.{append-nil}
use Rattle.spec_history.specs.declared.lines.Line.{Line}
use Rattle.spec_history.specs.declared.lines.Line.TheVariants as lines
use Rattle.spec_model.specs.Messages.{parcels_read}
use Rattle.afs_cache.proofs.node.CacheManager.ignore_behind.Goals as goal

pub returns : goal.returns
returns c = (
  refl,
  λ place. record {
    state = refl;
    lines = ap (λ (ls : List Line). lines.Given place ∷ ls) (c.quiet.ensures.lines ∙ sym (append-nil c.args.lines));
    sent = ap parcels_read c.quiet.ensures.sent;
  },
)
