use Rattle.std.proofs.Common.{ap, subst, sym, ◌∙◌, List, [], ◌∷◌, ◌++◌, Bool, cond}
use Rattle.afs_num.specs.declared.types.Fid.{Fid}
use Rattle.afs_entries.specs.Cached.{AreApart, Kept}
use Rattle.afs_entries.proofs.Listing.{apart, none_taken, one_listed, some_taken}
use Rattle.afs_entries.proofs.cache.Cache.one.Goals as goal

pub returns-then-not-loses : goal.returns-then-not-loses
returns-then-not-loses c =
    let es = c.args.self.now.entries in
    let apart_es : AreApart es = subst (λ (k : Kept). AreApart k.entries) c.self.view_is (apart c.self.inside.entries.entries c.len-count.ensures.valid.0) in
    c.new-fids.ensures.items
    ∙ sym (one_listed c.args.drops.now c.args.fid.now es c.requires apart_es
    ∙ (ap (λ (b : Bool). cond b (c.args.fid.now ∷ []) []) (sym c.loses.ensures) ∙ none_taken c.loses.result c.args.fid.now c.if-not-loses.true))

pub returns : goal.returns
returns c =
    let es = c.args.self.now.entries in
    let apart_es : AreApart es = subst (λ (k : Kept). AreApart k.entries) c.self.view_is (apart c.self.inside.entries.entries c.len-count.ensures.valid.0) in
    c.in_ok-push.ensures.items
    ∙ (ap (λ (fs : List Fid). fs ++ c.args.fid.now ∷ []) c.new-fids.ensures.items
    ∙ sym (one_listed c.args.drops.now c.args.fid.now es c.requires apart_es
    ∙ (ap (λ (b : Bool). cond b (c.args.fid.now ∷ []) []) (sym c.loses.ensures) ∙ some_taken c.loses.result c.args.fid.now c.if-not-loses.false)))
