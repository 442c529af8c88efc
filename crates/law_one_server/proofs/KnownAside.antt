-- Steps that aren't the location database's leave what acts know of it; and stamps that are over stay so through every step.
use Rattle.std.proofs.Common.{◌≡◌, ◌⊎◌, ◌≤◌, ◌<◌, inl, inr, ℕ, zero, suc, Bool, true, false, List, [], ◌∷◌, ◌++◌, Option, Some, None, refl, sym, ap, subst, ◌∙◌, arith}
use Rattle.std.specs.Prelude.{is_some}
use Rattle.spec_history.specs.declared.scripts.Script.{Script}
use Rattle.spec_ideal.specs.Tables.{get, Table}
use Rattle.spec_records.specs.LocRecords.{Listed}
use Rattle.spec_runs.specs.NodeRuns.{has_host, node_moved, node_start, CellInput, NodeCell}
use Rattle.law_places.specs.Accepting.{cell_behind, serves_at}
use Rattle.law_stamps.specs.Stamps.{stored_stamp}
use Rattle.law_stamps.specs.Told.{entries_in, stamp_in}
use Rattle.law_families.specs.Enables.{IsEnable}
use Rattle.law_families.proofs.Enabling.{are_asked}
use Rattle.law_stored_stamps.proofs.Rising.{same_count, stamps_rise}
use Rattle.law_one_server.specs.Knows.{lock_at, listed_site, site_by, HasLost, IsOver, IsShutAt}
use Rattle.law_one_server.proofs.KnownKept.{IsMild}

-- ---- what is over stays so

has_same : (c d : NodeCell) (i : ℕ) → d.host_count ≡ c.host_count → has_host d i ≡ has_host c i
has_same c d zero count = refl
has_same c d (suc i) count = rw count refl

pub has_same_hosts : (c : NodeCell) (x : CellInput) (i : ℕ) → has_host (node_moved c x).cell i ≡ has_host c i
has_same_hosts c x i = has_same c (node_moved c x).cell i (same_count c x)

below_more : (a b n : ℕ) → n < a → a ≤ b → n < b
below_more a b n low up = omega (arith, low, up)

pub over_stays : (s : Script) (inputs : List CellInput) (x : CellInput) (family stamp : ℕ) → IsOver (cell_behind (node_start s) inputs) family stamp → IsOver (node_moved (cell_behind (node_start s) inputs) x).cell family stamp
over_stays s inputs x family stamp over i there =
    let c : NodeCell = cell_behind (node_start s) inputs in
    below_more (stored_stamp c i family) (stored_stamp (node_moved c x).cell i family) stamp (over i (sym (has_same_hosts c x i) ∙ there)) (stamps_rise s inputs x i family)

-- ---- steps aside of the database

-- its entries are the same, and what is over is so still
pub record IsAside (c d : NodeCell) : Type 0 where
  pub entries : entries_in d ≡ entries_in c
  pub over : (family stamp : ℕ) → IsOver c family stamp → IsOver d family stamp

module _ (c d : NodeCell) (k : IsAside c d) (family stamp : ℕ) where
  pub aside_site : listed_site d family ≡ listed_site c family
  aside_site = ap (λ (t : Table Listed). site_by (get family t)) k.entries

  pub aside_listed : is_some (get family (entries_in c)) ≡ true → is_some (get family (entries_in d)) ≡ true
  aside_listed there = ap (λ (t : Table Listed). is_some (get family t)) k.entries ∙ there

  pub aside_lost : HasLost c family stamp → HasLost d family stamp
  aside_lost lost locked = lost (sym (ap (λ (t : Table Listed). stamp_in (get family t)) k.entries) ∙ locked)

  -- all is left where what is out of service is so still
  pub aside_mild : ((server : ℕ) → serves_at c family server ≡ false → IsShutAt d family stamp server) → IsMild c d family stamp
  aside_mild rests = record { site = aside_site; listed = aside_listed; over = k.over family stamp; lost = aside_lost; rests = rests }

-- a step that leaves the database as it was
pub is_aside : (s : Script) (inputs : List CellInput) (x : CellInput) → entries_in (node_moved (cell_behind (node_start s) inputs) x).cell ≡ entries_in (cell_behind (node_start s) inputs) → IsAside (cell_behind (node_start s) inputs) (node_moved (cell_behind (node_start s) inputs) x).cell
is_aside s inputs x same = record { entries = same; over = over_stays s inputs x }

-- ---- what comes into service

rests_by : (c d : NodeCell) (i family : ℕ) (b : Bool) → serves_at d family i ≡ b → (serves_at d family i ≡ true → IsEnable c i family) → (serves_at d family i ≡ false) ⊎ IsEnable c i family
rests_by c d i family true is asked = inr (asked is)
rests_by c d i family false is asked = inl is

-- What was out of service is so still, or a call brought it into service.
pub rests_or_comes : (s : Script) (inputs : List CellInput) (x : CellInput) (i family : ℕ) → serves_at (cell_behind (node_start s) inputs) family i ≡ false →
    (serves_at (node_moved (cell_behind (node_start s) inputs) x).cell family i ≡ false) ⊎ IsEnable (cell_behind (node_start s) inputs) i family
rests_or_comes s inputs x i family none =
    let c : NodeCell = cell_behind (node_start s) inputs in
    rests_by c (node_moved c x).cell i family (serves_at (node_moved c x).cell family i) refl (λ is. are_asked s inputs x i family none is)
