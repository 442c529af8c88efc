use Rattle.std.proofs.Common.{◌≡◌, ◌+◌, ◌∙◌, drop, false, rules, sym, ap, subst}
use Rattle.spec_volrows.specs.VolStates.{Sending}
use Rattle.spec_volrows.specs.VolSteps.{piece_gone, sent_whole}
use Rattle.afs_sendings.proofs.Spelled.{went}
use Rattle.afs_sendings.proofs.sendings.Sending.moved_on.Goals as goal

pub returns : goal.returns
returns c =
    let x = c.self.inside in
    let at : c.in-Some.at ≡ x.at + 33554432 = search rules in
    let bytes : c.in_ok-copy.field-0 ≡ x.bytes = search rules in
    let more = subst (λ (s : Sending). sent_whole s ≡ false) (sym c.self.view_is) c.requires in
    (λ i. record { head = x.head; family = x.family; target = x.target; at = at i; left = drop (at i) (bytes i) })
    ∙ (went x.head x.family x.target x.at x.bytes more ∙ ap piece_gone c.self.view_is)
