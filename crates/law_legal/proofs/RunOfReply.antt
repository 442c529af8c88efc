-- The entry that ran the call of a reply is one, however its past is split.
use Rattle.law_legal.proofs.OwedPasses.{entries_same}
use Rattle.law_legal.proofs.ServerChangesLater.{to_come_at}
use Rattle.law_legal.specs.Past.{IsCallToOrLater, IsFirstOfItsBoot, Ran, answered_key, given_message, sent_of}
use Rattle.afs_num.specs.declared.types.Head.{Head}
use Rattle.afs_num.specs.declared.types.Key.{Key}
use Rattle.afs_num.specs.declared.types.Node.{Node}
use Rattle.spec_rows.specs.Runs.{Entry}
use Rattle.std.proofs.Common.{◌≡◌, ℕ, inr, List, [], ◌∷◌, ◌++◌, sym, ap, subst, ◌∙◌, le_of_eq}

-- it was given the call under the reply's own key
its_call : (h : Head) (past : List Entry) → (r : Ran h past) → IsCallToOrLater h.from (answered_key h) h.boot (given_message r.at.lines (sent_of r.older))
its_call h past r =
    let k : answered_key h ≡ record { node = r.message.head.from; epoch = r.message.head.epoch; number = r.message.head.number } = sym r.key in
    subst (IsCallToOrLater h.from (answered_key h) h.boot) (sym r.given) ((r.is_call, r.callee), ((ap (λ (x : Key). x.node) r.key, inr (ap (λ (x : Key). x.epoch) k, le_of_eq (ap (λ (x : Key). x.number) k))), r.boot))

-- of two entries that were given it, each before any that was, none stands before the other
first_same : (s : Node) (k : Key) (boot : ℕ) (a : List Entry) (x : Entry) (b c : List Entry) (y : Entry) (d : List Entry) → a ++ (x ∷ b) ≡ c ++ (y ∷ d) → IsCallToOrLater s k boot (given_message x.lines (sent_of b)) → IsCallToOrLater s k boot (given_message y.lines (sent_of d)) → IsFirstOfItsBoot s k boot b → IsFirstOfItsBoot s k boot d → b ≡ d
first_same s k boot [] x b [] y d e p q f g = entries_same x y b d e
first_same s k boot [] x b (z ∷ c) y d e p q f g = absurd (to_come_at s k boot c y d (subst (IsFirstOfItsBoot s k boot) (entries_same x z b (c ++ (y ∷ d)) e) f) q)
first_same s k boot (z ∷ a) x b [] y d e p q f g = absurd (to_come_at s k boot a x b (subst (IsFirstOfItsBoot s k boot) (sym (entries_same z y (a ++ (x ∷ b)) d e)) g) p)
first_same s k boot (z ∷ a) x b (w ∷ c) y d e p q f g = first_same s k boot a x b c y d (entries_same z w (a ++ (x ∷ b)) (c ++ (y ∷ d)) e) p q f g

pub ran_same : (h : Head) (past : List Entry) (r q : Ran h past) → r.older ≡ q.older
ran_same h past r q = first_same h.from (answered_key h) h.boot r.newer r.at r.older q.newer q.at q.older (sym r.split ∙ q.split) (its_call h past r) (its_call h past q) r.first q.first
