-- One input more: the cell has the servers that it had, and no stamp that they stored falls.
use Rattle.std.proofs.Common.{◌≡◌, ◌≤◌, ℕ, List, [], ◌∷◌, ◌++◌, refl, subst}
use Rattle.spec_history.specs.declared.scripts.Script.{Script}
use Rattle.spec_runs.specs.NodeRuns.{node_moved, node_start, CellInput, NodeCell, NodeMoved}
use Rattle.law_places.specs.Accepting.{cell_behind}
use Rattle.law_stamps.specs.Stamps.{stored_stamp}
use Rattle.law_stamps.proofs.Walk.{never_fall}
use Rattle.law_walks.proofs.EachKind.{any_admin, any_client, any_database, any_server, each}

pub one_more : (c : NodeCell) (xs : List CellInput) (x : CellInput) → cell_behind c (xs ++ x ∷ []) ≡ (node_moved (cell_behind c xs) x).cell
one_more c [] x = refl
one_more c (y ∷ xs) x = one_more (node_moved c y).cell xs x

pub same_count : (c : NodeCell) (x : CellInput) → (node_moved c x).cell.host_count ≡ c.host_count
same_count c x = each (λ (m : NodeMoved). m.cell.host_count ≡ c.host_count) c (record {
  void = refl;
  ticks = λ n. refl;
  servers = any_server (λ (m : NodeMoved). m.cell.host_count ≡ c.host_count) c (λ i s. refl);
  database = any_database (λ (m : NodeMoved). m.cell.host_count ≡ c.host_count) c (λ s. refl);
  clients = any_client (λ (m : NodeMoved). m.cell.host_count ≡ c.host_count) c (λ n s. refl) (λ n. refl) (λ n. refl);
  admins = any_admin (λ (m : NodeMoved). m.cell.host_count ≡ c.host_count) c (λ n s. refl) (λ n. refl) (λ n. refl);
}) x

pub stamps_rise : (s : Script) (inputs : List CellInput) (x : CellInput) (i family : ℕ) → stored_stamp (cell_behind (node_start s) inputs) i family ≤ stored_stamp (node_moved (cell_behind (node_start s) inputs) x).cell i family
stamps_rise s inputs x i family =
    subst (λ (d : NodeCell). stored_stamp (cell_behind (node_start s) inputs) i family ≤ stored_stamp d i family) (one_more (node_start s) inputs x) (never_fall s inputs (x ∷ []) i family)
