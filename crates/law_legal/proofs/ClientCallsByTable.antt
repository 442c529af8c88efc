-- Where clients send their calls: to the servers of the volumes that these ask.
use Rattle.spec_history.specs.declared.scripts.Script.{Script}
use Rattle.spec_history.specs.declared.scripts.VolumeLine.{VolumeLine}
use Rattle.spec_ideal.specs.Volumes.{Volume}
use Rattle.law_legal.proofs.BaseLaws.{Each, IfCall}
use Rattle.law_legal.proofs.VolumesAreIdeal.{Held, VolumesIn}
use Rattle.law_legal.proofs.ServerReasons.{IsAsked, held_by}
use Rattle.law_legal.specs.Ideal.{IsPutAt, volume_after}
use Rattle.afs_num.specs.declared.calls.FsCall.{FsCall}
use Rattle.afs_num.specs.declared.types.Head.{Head}
use Rattle.afs_num.specs.declared.types.Node.{Node}
use Rattle.afs_num.specs.declared.types.Node.TheVariants.{Server}
use Rattle.spec_records.specs.Entries.{entry_of_line}
use Rattle.spec_rows.specs.ClientRow.{server_or_first}
use Rattle.spec_rows.specs.Runs.{Cell, Entry, counts_later, location_by, locations, locations_in}
use Rattle.spec_rows.specs.States.{Location}
use Rattle.std.proofs.Common.{◌≡◌, ℕ, ◌⊎◌, inl, inr, Bool, true, false, cond, eq-eqb, eqb-true, find, nat_eq, List, [], ◌∷◌, Option, Some, None, refl, sym, subst, ◌∙◌}

-- where the table has the volume of this number
abbrev pub server_at : List Location → ℕ → ℕ
server_at t id = server_or_first (find (λ (l : Location). nat_eq l.read_write id) t)

-- a call is sent to the server of each volume that it asks
abbrev pub IsHome : Script → Head → List ℕ → FsCall → Type 0
IsHome s head user call = (id : ℕ) → IsAsked call id → head.to ≡ Server (server_at (locations s) id)

abbrev pub HomesIn : Script → Cell → Type 0
HomesIn s c = Each (IfCall (IsHome s)) c.sent

-- ---- where a volume is

abbrev pub IsPlaced : ℕ → List VolumeLine → List Location → Type 0
IsPlaced id vs table = IsPutAt id (Server (server_at table id)) vs ⊎ ((q : Node) → IsPutAt id q vs → ⊥)

found_at : (t : Bool) (id : ℕ) (v : VolumeLine) (vs : List VolumeLine) (table : List Location) → nat_eq v.id id ≡ t → counts_later v.id vs ≡ false → IsPlaced id vs table
    → (IsPutAt id (Server (server_or_first (cond t (Some (entry_of_line v)) (find (λ (l : Location). nat_eq l.read_write id) table)))) (v ∷ vs)) ⊎ ((q : Node) → IsPutAt id q (v ∷ vs) → ⊥)
found_at true id v vs table e f h = inl (inl (f, (eqb-true v.id id e, refl)))
found_at false id v vs table e f (inl x) = inl (inr x)
found_at false id v vs table e f (inr away) = inr (λ q z. elim z [
  | inl y ↦ (let same : nat_eq v.id id ≡ true = eq-eqb v.id id y.1.0 in absurd cc)
  | inr y ↦ away q y
])

placed_by : (t : Bool) (id : ℕ) (v : VolumeLine) (vs : List VolumeLine) → counts_later v.id vs ≡ t → IsPlaced id vs (locations_in vs) → IsPlaced id (v ∷ vs) (location_by t v (locations_in vs))
placed_by true id v vs e (inl x) = inl (inr x)
placed_by true id v vs e (inr away) = inr (λ q z. elim z [
  | inl y ↦ (let other : false ≡ true = sym y.0 ∙ e in absurd cc)
  | inr y ↦ away q y
])
placed_by false id v vs e h = found_at (nat_eq v.id id) id v vs (locations_in vs) refl e h

pub placed : (id : ℕ) (vs : List VolumeLine) → IsPlaced id vs (locations_in vs)
placed id [] = inr (λ q z. z)
placed id (v ∷ vs) = placed_by (counts_later v.id vs) id v vs refl (placed id vs)

-- a volume that is nowhere isn't held
not_held : (s : Script) (c : Cell) (past : List Entry) (i id : ℕ) (o : Option Volume) → VolumesIn s c past → ((q : Node) → IsPutAt id q s.volumes → ⊥) → held_by (c.hosts i).state id ≡ o → held_by (c.hosts i).state id ≡ volume_after id past
not_held s c past i id None V away e = e ∙ sym (V.none id (λ k. away (Server k)))
not_held s c past i id (Some v) V away e = absurd (away (Server i) (V.home i id v e))

-- a server holds just the ideal volume of each that is no other's
only_by : (s : Script) (c : Cell) (past : List Entry) (i id : ℕ) → VolumesIn s c past → IsPlaced id s.volumes (locations s) → ((q : Node) → IsPutAt id q s.volumes → q ≡ Server i) → held_by (c.hosts i).state id ≡ volume_after id past
only_by s c past i id V (inl x) only = V.ideal i id (subst (λ (q : Node). IsPutAt id q s.volumes) (only (Server (server_at (locations s) id)) x) x)
only_by s c past i id V (inr away) only = not_held s c past i id (held_by (c.hosts i).state id) V away refl

pub only_held : (s : Script) (c : Cell) (past : List Entry) (i id : ℕ) → VolumesIn s c past → ((q : Node) → IsPutAt id q s.volumes → q ≡ Server i) → held_by (c.hosts i).state id ≡ volume_after id past
only_held s c past i id V only = only_by s c past i id V (placed id s.volumes) only

-- the server that the table has holds just the ideal volume
home_same : (s : Script) (c : Cell) (past : List Entry) (i id : ℕ) → Held s c past → IsPlaced id s.volumes (locations s) → Server i ≡ Server (server_at (locations s) id) → held_by (c.hosts i).state id ≡ volume_after id past
home_same s c past i id h (inl x) to = h.1.ideal i id (subst (λ (q : Node). IsPutAt id q s.volumes) (sym to) x)
home_same s c past i id h (inr away) to = not_held s c past i id (held_by (c.hosts i).state id) h.1 away refl

pub home_held : (s : Script) (c : Cell) (past : List Entry) (i id : ℕ) → Held s c past → Server i ≡ Server (server_at (locations s) id) → held_by (c.hosts i).state id ≡ volume_after id past
home_held s c past i id h to = home_same s c past i id h (placed id s.volumes) to
