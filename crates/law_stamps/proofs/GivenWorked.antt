-- A stamp that is told again to the same call, and histories in which two calls are told one: those are refused.
use Rattle.std.proofs.Common.{◌≡◌, ◌<◌, ℕ, [], ◌∷◌, refl, sym, ap, subst, arith, ◌∙◌}
use Rattle.afs_num.specs.declared.histories.Actor.TheVariants as actors
use Rattle.afs_num.specs.declared.location_calls.LocReply.TheVariants as replies
use Rattle.afs_num.specs.declared.messages.Carried.TheVariants as carried
use Rattle.afs_num.specs.declared.messages.Reply.TheVariants as tell
use Rattle.afs_num.specs.declared.types.Half.TheVariants as halves
use Rattle.afs_num.specs.declared.types.Key.{Key}
use Rattle.afs_num.specs.declared.types.Node.TheVariants.{Admin, Loc}
use Rattle.spec_rows.specs.Runs.{Entry}
use Rattle.spec_runs.specs.NodeRuns.{NodeCell}
use Rattle.law_stamps.specs.Given.{AreGivenOnce, AreTheirs}

-- the database tells an administrator's call of this number that its entry is made, under stamp 1
abbrev gives_to : ℕ → ℕ → Entry
gives_to n number = record {
  actor = actors.Node Loc;
  lines = [];
  sent = record {
    head = record { half = halves.Reply; from = Loc; to = Admin n; epoch = 1; number = number; boot = 1; stamp = 0; opcode = 501 };
    carried = carried.Reply (tell.Location (replies.CreateEntry 1));
  } ∷ [];
  volumes = [];
}

abbrev called : ℕ → ℕ → Key
called n number = record { node = Admin n; epoch = 1; number = number }

one_below : 1 < 2
one_below = omega (arith)

-- a reply that is sent again
again : AreTheirs (λ (stamp : ℕ). called 1 1) 2 (gives_to 1 1 ∷ gives_to 1 1 ∷ [])
again = (λ its. ((λ stamp e. let is : 1 ≡ stamp = cc in (subst (λ (n : ℕ). n < 2) is one_below, refl)), tt), (λ its. ((λ stamp e. let is : 1 ≡ stamp = cc in (subst (λ (n : ℕ). n < 2) is one_below, refl)), tt), tt))

-- two administrators have one stamp
two_have_it : (end : NodeCell) → AreGivenOnce (gives_to 1 1 ∷ gives_to 2 1 ∷ []) end → ⊥
two_have_it end h =
    let one : called 1 1 ≡ h.owner 1 = ((h.theirs.0 refl).0 1 refl).1 in
    let other : called 2 1 ≡ h.owner 1 = ((h.theirs.1.0 refl).0 1 refl).1 in
    let same : Admin 1 ≡ Admin 2 = ap (λ (k : Key). k.node) (one ∙ sym other) in
    absurd cc

-- two calls of an administrator have one stamp
both_have_it : (end : NodeCell) → AreGivenOnce (gives_to 1 1 ∷ gives_to 1 2 ∷ []) end → ⊥
both_have_it end h =
    let one : called 1 1 ≡ h.owner 1 = ((h.theirs.0 refl).0 1 refl).1 in
    let other : called 1 2 ≡ h.owner 1 = ((h.theirs.1.0 refl).0 1 refl).1 in
    let same : Admin 1 ≡ Admin 2 = ap (λ (k : Key). Admin k.number) (one ∙ sym other) in
    absurd cc
