-- A volume server begins in order, and what a timeout does is what a step does.
use Rattle.std.proofs.Common.{◌≡◌, ◌≤◌, ◌<◌, ◌+◌, ℕ, [], refl, sym, subst, arith}
use Rattle.std.specs.Prelude.{min, Result, Err}
use Rattle.std.proofs.Math.Nat.{min-le_left, min-le_right}
use Rattle.afs_num.specs.Nodes.{IsNode}
use Rattle.spec_ideal.specs.Tables.{Table}
use Rattle.spec_records.specs.Durable.{Stored}
use Rattle.spec_history.specs.declared.lines.Outs.{Outs}
use Rattle.afs_callbacks.specs.States.{CallbackState}
use Rattle.afs_server_parts.specs.declared.faults.NodeFault.{NodeFault}
use Rattle.afs_server_parts.specs.declared.faults.NodeFault.TheVariants as faults
use Rattle.spec_volrows.specs.VolLaws.{AreApart}
use Rattle.spec_volrows.specs.VolSteps.{VolTurn}
use Rattle.afs_volserv.specs.Handling.{HandlesVolumes}
use Rattle.afs_volserv.specs.Seen.{ServesVolumes, VolMemory}
use Rattle.afs_volstore.specs.Stores.{Store}
use Rattle.afs_sharing.specs.Stores.{SameStore}
use Rattle.afs_sharing.specs.Lasting.{KeepsForNodes}

none_apart : (volumes : Table Stored) → AreApart volumes 0 []
none_apart volumes = record { ascend = tt; there = λ n t e. absurd cc; numbered = λ n t e. absurd cc; alone = λ n m t u e f same. absurd cc }

-- with no transactions and no calls of its own
pub begins_in_order : {D : Type 0} (m : VolMemory) (s : Store D) → m ≡ record m { transactions = []; last = 0; callees = [] } → IsNode s.node → m.boot ≡ s.durable.boot → KeepsForNodes s.durable → s.holds.table ≡ [] → ServesVolumes m s
begins_in_order {D} m s fresh node boot kept holds =
    subst (λ (v : VolMemory). ServesVolumes v s) (sym fresh)
    record { node = node; boot = boot; kept = kept; calls = λ n. tt; asked = λ n. tt; apart = none_apart s.durable.volumes; flagged = tt; holds = holds }

-- ---- room

pub room_so : (n a b c : ℕ) → n + 1 ≤ a → n + 1 ≤ b → n + 1 ≤ c → n < min a (min b c)
room_so n a b c p q r = grind (arith, p, q, r)

pub room_out : (n a b c : ℕ) → n ≤ min a (min b c) → n ≤ b
room_out n a b c p = let z = min-le_right a (min b c) in let y = min-le_left b c in omega (arith, p, z, y)

pub room_on : (n a b c : ℕ) → n ≤ min a (min b c) → n ≤ c
room_on n a b c p = let z = min-le_right a (min b c) in let y = min-le_right b c in omega (arith, p, z, y)

-- ---- a timeout

same_store : {D : Type 0} (s u : Store D) → u ≡ s → SameStore s u
same_store {D} s u e = subst (λ (t : Store D). SameStore s t) (sym e) refl

pub wants_handled : {D : Type 0} (t : VolTurn) (old new : VolMemory) (k l : CallbackState) (s u : Store D) (result : Result Outs NodeFault) → result ≡ Err faults.OutOfMemory → (new ≡ old) × ((l ≡ k) × (u ≡ s)) → HandlesVolumes t old new k l s u result
wants_handled {D} t old new k l s u result e same = subst (λ (r : Result Outs NodeFault). HandlesVolumes t old new k l s u r) (sym e) (same.0, (same.1.0, same_store s u same.1.1))

pub same_drawn : {D : Type 0} (s u : Store D) → u ≡ s → u ≡ record s { drawn = u.drawn; holds = u.holds }
same_drawn {D} s u e = subst (λ (t : Store D). t ≡ record s { drawn = t.drawn; holds = t.holds }) (sym e) refl
