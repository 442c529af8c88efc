-- Of the lines with one volume's number the last counts.
use Rattle.std.proofs.Common.{◌≡◌, ℕ, Bool, true, false, cond, ◌||◌, List, [], ◌∷◌, ◌++◌, Option, Some, nat_eq, refl, ap, sym, ◌∙◌}
use Rattle.std.specs.Prelude.{is_some}
use Rattle.std.specs.List.{list_any}
use Rattle.std.proofs.lemmas.Bool.{eqb-true}
use Rattle.spec_ideal.specs.Tables.{Table, get}
use Rattle.spec_ideal.specs.Volumes.{Volume}
use Rattle.spec_ideal.proofs.Tables.{get_set}
use Rattle.spec_history.specs.declared.scripts.VolumeLine.{VolumeLine}
use Rattle.spec_rows.specs.States.{Location}
use Rattle.spec_ideal.specs.SetUp.{first_volume}
use Rattle.spec_rows.specs.Runs.{counts_later, first_volumes, location_by, locations_in, unless_there}
use Rattle.afs_acts.specs.Acts.{first_volume_line}

either : (b c : Bool) (x : Volume) (o : Option Volume) → is_some o ≡ c → is_some (cond b (Some x) o) ≡ b || c
either true c x o h = refl
either false c x o h = h

-- a number that is there already
there_by : (n id : ℕ) (t : Table Volume) (b : Bool) (c : Bool) → nat_eq n id ≡ b → is_some (get n t) ≡ true → is_some (get id t) ≡ c → is_some (get id t) ≡ b || c
there_by n id t true c e h q = ap (λ (m : ℕ). is_some (get m t)) (sym (eqb-true n id e)) ∙ h
there_by n id t false c e h q = q

told_by : (b : Bool) (n id : ℕ) (x : Volume) (t : Table Volume) (c : Bool) → is_some (get n t) ≡ b → is_some (get id t) ≡ c → is_some (get id (unless_there b n x t)) ≡ nat_eq n id || c
told_by true n id x t c h q = there_by n id t (nat_eq n id) c refl h q
told_by false n id x t c h q = ap is_some (get_set id n x t) ∙ either (nat_eq n id) c x (get id t) q

pub told_later : (id : ℕ) (vs : List VolumeLine) → counts_later id vs ≡ list_any (λ (v : VolumeLine). nat_eq v.id id) vs
told_later id [] = refl
told_later id (v ∷ vs) = told_by (is_some (get v.id (first_volumes vs))) v.id id (first_volume v) (first_volumes vs) (list_any (λ (w : VolumeLine). nat_eq w.id id) vs) refl (told_later id vs)

pub first_line : (vs : List VolumeLine) (v : VolumeLine) (rest : List VolumeLine) → first_volume_line vs ≡ Some (v, rest) → vs ≡ v ∷ rest
first_line [] v rest h = absurd cc
first_line (w ∷ ws) v rest h = let pair : (w, ws) ≡ (v, rest) = cc in ap (λ (p : VolumeLine × List VolumeLine). p.0 ∷ p.1) pair

-- so far and the rest
pub told_on : (done next : List Location) (v : VolumeLine) (rest : List VolumeLine) (later : Bool) → later ≡ list_any (λ (w : VolumeLine). nat_eq w.id v.id) rest
    → next ++ locations_in rest ≡ done ++ location_by later v (locations_in rest) → next ++ locations_in rest ≡ done ++ locations_in (v ∷ rest)
told_on done next v rest later h e = e ∙ ap (λ (b : Bool). done ++ location_by b v (locations_in rest)) (h ∙ sym (told_later v.id rest))
