-- Who sends calls under a stamp, of each message that a cell ever sent.
use Rattle.std.proofs.Common.{◌≡◌, inl, inr, ℕ, List, Some, refl, sym, ap, subst, ◌∙◌}
use Rattle.std.specs.List.{AllByRecursion}
use Rattle.afs_num.specs.declared.messages.Carried.{Carried}
use Rattle.afs_num.specs.declared.messages.Carried.TheVariants as carried
use Rattle.afs_num.specs.declared.messages.Call.{Call}
use Rattle.afs_num.specs.declared.messages.Message.{Message}
use Rattle.afs_num.specs.declared.types.Head.{Head}
use Rattle.afs_num.specs.declared.types.Key.{Key}
use Rattle.afs_num.specs.declared.types.Node.{Node}
use Rattle.afs_num.specs.declared.types.Node.TheVariants.{Admin, Client, Loc, Server}
use Rattle.spec_history.specs.declared.scripts.Script.{Script}
use Rattle.spec_rows.specs.Runs.{message_at}
use Rattle.spec_runs.specs.NodeRuns.{node_start, CellInput, NodeCell}
use Rattle.law_walks.proofs.Seats.{found_at}
use Rattle.law_places.specs.Accepting.{cell_behind}
use Rattle.law_stamp_owners.specs.Owners.{IsGivenTo, IsUsed, UsedBy, UsedIn}
use Rattle.law_stamp_owners.proofs.Walk.{all_owned, AllOwned}

-- each stamp has an owner, for each message that was sent
pub record Owned (c : NodeCell) : Type 0 where
  pub owner : ℕ → Key
  pub next : ℕ
  pub used : AllByRecursion (IsUsed owner next) c.sent

pub are_owned : (s : Script) (inputs : List CellInput) → Owned (cell_behind (node_start s) inputs)
are_owned s inputs = let k : AllOwned (cell_behind (node_start s) inputs) = all_owned s inputs in record { owner = k.owner; next = _; used = k.used }

-- ---- two calls under one stamp, of which one is an administrator's

used_as : (owner : ℕ → Key) (next : ℕ) (m : Message) (user : List ℕ) (call : Call) (n : Node) → IsUsed owner next m → m.carried ≡ carried.Call user call → m.head.from ≡ n → UsedBy owner next m.head n
used_as owner next m user call n h is from = subst (UsedBy owner next m.head) from (subst (UsedIn owner next m.head) is h)

-- of a stamp that isn't 0
given_to : (owner : ℕ → Key) (next n : ℕ) (head : Head) → (head.stamp ≡ 0 → ⊥) → UsedBy owner next head (Admin n) → IsGivenTo owner next (Admin n) head.epoch head.number head.stamp
given_to owner next n head some (inl none) = absurd (some none)
given_to owner next n head some (inr given) = given

-- then the other is of the same, in the same epoch, or is a server's
pub record IsOfOne (n epoch : ℕ) (from : Node) (other : ℕ) : Type 0 where
  pub from' : from ≡ Admin n
  pub epoch' : other ≡ epoch

one_by : (owner : ℕ → Key) (next n : ℕ) (a b : Head) (from : Node) → IsGivenTo owner next (Admin n) a.epoch a.number a.stamp → b.stamp ≡ a.stamp → (a.stamp ≡ 0 → ⊥) → UsedBy owner next b from → ((i : ℕ) → from ≡ Server i → ⊥) → IsOfOne n a.epoch from b.epoch
one_by owner next n a b (Admin k) given same some used not_server =
    let other : IsGivenTo owner next (Admin k) b.epoch b.number b.stamp = given_to owner next k b (λ none. some (sym same ∙ none)) used in
    let keys : owner b.stamp ≡ owner a.stamp = ap owner same in
    record {
      from' = sym other.node ∙ (ap (λ (x : Key). x.node) keys ∙ given.node);
      epoch' = sym other.in_epoch ∙ (ap (λ (x : Key). x.epoch) keys ∙ given.in_epoch);
    }
one_by owner next n a b (Server i) given same some used not_server = absurd (not_server i refl)
one_by owner next n a b (Client i) given same some used not_server = absurd (some (sym same ∙ used))
one_by owner next n a b Loc given same some used not_server = absurd (some (sym same ∙ used))

pub one_owner : (c : NodeCell) (k : Owned c) (n first second : ℕ) (a b : Message) (user other_user : List ℕ) (call other : Call) → message_at c.sent first ≡ Some a → message_at c.sent second ≡ Some b →
    a.head.from ≡ Admin n → a.carried ≡ carried.Call user call → b.carried ≡ carried.Call other_user other → b.head.stamp ≡ a.head.stamp → (a.head.stamp ≡ 0 → ⊥) → ((i : ℕ) → b.head.from ≡ Server i → ⊥) → IsOfOne n a.head.epoch b.head.from b.head.epoch
one_owner c k n first second a b user other_user call other at_first at_second from is other_is same some not_server =
    let used : UsedBy k.owner k.next a.head (Admin n) = used_as k.owner k.next a user call (Admin n) (found_at (IsUsed k.owner k.next) first c.sent a k.used at_first) is from in
    one_by k.owner k.next n a.head b.head b.head.from (given_to k.owner k.next n a.head some used) same some
    (used_as k.owner k.next b other_user other b.head.from (found_at (IsUsed k.owner k.next) second c.sent b k.used at_second) other_is refl) not_server
