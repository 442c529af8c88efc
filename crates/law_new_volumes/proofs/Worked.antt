-- A number that is told again to the same call; and histories that are refused: two calls are told one, or a number is told that a volume of the
-- script has, or one that wasn't drawn.
use Rattle.std.proofs.Common.{◌≡◌, ◌≤◌, ◌<◌, ℕ, [], ◌∷◌, refl, sym, ap, subst, arith, ◌∙◌}
use Rattle.afs_num.specs.declared.histories.Actor.TheVariants as actors
use Rattle.afs_num.specs.declared.location_calls.LocReply.TheVariants as replies
use Rattle.afs_num.specs.declared.messages.Carried.TheVariants as carried
use Rattle.afs_num.specs.declared.messages.Reply.TheVariants as tell
use Rattle.afs_num.specs.declared.types.Half.TheVariants as halves
use Rattle.afs_num.specs.declared.types.Key.{Key}
use Rattle.afs_num.specs.declared.types.Node.TheVariants.{Admin, Loc}
use Rattle.spec_history.specs.declared.scripts.Script.{Script}
use Rattle.spec_rows.specs.Runs.{Entry}
use Rattle.spec_runs.specs.NodeRuns.{node_start, NodeCell}
use Rattle.law_numbers.specs.Numbers.{next_volume}
use Rattle.law_new_volumes.specs.GivenNumbers.{AllGiveOwn, NumbersHaveOwners}

-- the database tells an administrator's call of this number that its new volume has this number
abbrev gives_to : ℕ → ℕ → ℕ → Entry
gives_to n number id = record {
  actor = actors.Node Loc;
  lines = [];
  sent = record {
    head = record { half = halves.Reply; from = Loc; to = Admin n; epoch = 1; number = number; boot = 1; stamp = 0; opcode = 505 };
    carried = carried.Reply (tell.Location (replies.GetNewVolumeId id));
  } ∷ [];
  volumes = [];
}

abbrev called : ℕ → ℕ → Key
called n number = record { node = Admin n; epoch = 1; number = number }

one_to_two : (1 ≤ 1) × (1 < 2)
one_to_two = (omega (arith), omega (arith))

-- a reply that is sent again
again : AllGiveOwn (λ (id : ℕ). called 1 1) 1 2 (gives_to 1 1 1 ∷ gives_to 1 1 1 ∷ [])
again = (((λ id e. let is : 1 ≡ id = cc in (subst (λ (n : ℕ). (1 ≤ n) × (n < 2)) is one_to_two, refl)), tt), (((λ id e. let is : 1 ≡ id = cc in (subst (λ (n : ℕ). (1 ≤ n) × (n < 2)) is one_to_two, refl)), tt), tt))

-- two administrators have one number
two_have_it : (s : Script) (end : NodeCell) → NumbersHaveOwners s (gives_to 1 1 1 ∷ gives_to 2 1 1 ∷ []) end → ⊥
two_have_it s end h =
    let one : called 1 1 ≡ h.number_owner 1 = (h.own.0.0 1 refl).1 in
    let other : called 2 1 ≡ h.number_owner 1 = (h.own.1.0.0 1 refl).1 in
    let same : Admin 1 ≡ Admin 2 = ap (λ (k : Key). k.node) (one ∙ sym other) in
    absurd cc

-- two calls of an administrator have one number
both_have_it : (s : Script) (end : NodeCell) → NumbersHaveOwners s (gives_to 1 1 1 ∷ gives_to 1 2 1 ∷ []) end → ⊥
both_have_it s end h =
    let one : called 1 1 ≡ h.number_owner 1 = (h.own.0.0 1 refl).1 in
    let other : called 1 2 ≡ h.number_owner 1 = (h.own.1.0.0 1 refl).1 in
    let same : Admin 1 ≡ Admin 2 = ap (λ (k : Key). Admin k.number) (one ∙ sym other) in
    absurd cc

-- a volume of the script may have it
of_the_script : (s : Script) (end : NodeCell) (id : ℕ) → id < next_volume (node_start s) → NumbersHaveOwners s (gives_to 1 1 id ∷ []) end → ⊥
of_the_script s end id below h = let above : next_volume (node_start s) ≤ id = (h.own.0.0 id refl).0.0 in omega (arith, below, above)

-- it is still to be drawn
not_drawn : (s : Script) (end : NodeCell) → NumbersHaveOwners s (gives_to 1 1 (next_volume end) ∷ []) end → ⊥
not_drawn s end h = let below : next_volume end < next_volume end = (h.own.0.0 (next_volume end) refl).0.1 in omega (arith, below)
