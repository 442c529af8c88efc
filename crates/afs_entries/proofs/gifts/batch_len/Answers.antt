use Rattle.std.proofs.Common.{◌≤◌, ap, subst, sym, ◌∙◌, length, ℕ}
use Rattle.spec_rows.specs.States.{Gift}
use Rattle.afs_entries.proofs.Batches.{batch_first, few}
use Rattle.afs_entries.proofs.gifts.batch_len.Goals as goal

pub returns-in-len1-up-clause-value : goal.returns-in-len1-up-clause-value
returns-in-len1-up-clause-value c =
    c.count_to.ensures ∙ batch_first c.args.gifts.now c.first-item.result c.first.inside.server c.in-len1-up.len_at_least c.first-item.is (ap (λ (g : Gift). g.server) c.first.view_is)

pub returns-in-len1-up-clause-few : goal.returns-in-len1-up-clause-few
returns-in-len1-up-clause-few c =
    let is = c.count_to.ensures ∙ batch_first c.args.gifts.now c.first-item.result c.first.inside.server c.in-len1-up.len_at_least c.first-item.is (ap (λ (g : Gift). g.server) c.first.view_is) in
    subst (λ (n : ℕ). n ≤ 50) (sym is) (few c.args.gifts.now).0

pub returns-in-len1-up-clause-within : goal.returns-in-len1-up-clause-within
returns-in-len1-up-clause-within c =
    let is = c.count_to.ensures ∙ batch_first c.args.gifts.now c.first-item.result c.first.inside.server c.in-len1-up.len_at_least c.first-item.is (ap (λ (g : Gift). g.server) c.first.view_is) in
    subst (λ (n : ℕ). n ≤ length c.args.gifts.now) (sym is) (few c.args.gifts.now).1
