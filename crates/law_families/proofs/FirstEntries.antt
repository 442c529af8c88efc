-- Set-up enters each volume of a script once, with its server; and a volume is in service there alone.
use Rattle.std.proofs.Common.{◌≡◌, ◌⊎◌, inl, inr, ℕ, Bool, true, false, cond, List, [], ◌∷◌, Option, Some, is_some, refl, sym, ap, subst, ◌∙◌, arith, eqb-true, eq-eqb}
use Rattle.std.specs.Prelude.{◌&&◌, ◌||◌, not, nat_eq}
use Rattle.afs_num.specs.declared.location_calls.LocEntry.{LocEntry}
use Rattle.spec_history.specs.declared.scripts.Script.{Script}
use Rattle.spec_history.specs.declared.scripts.VolumeLine.{VolumeLine}
use Rattle.spec_ideal.specs.SetUp.{first_volume}
use Rattle.spec_ideal.specs.Tables.{get, set, Table}
use Rattle.spec_ideal.specs.Volumes.{Volume}
use Rattle.spec_ideal.proofs.Tables.{ascends_set, get_set}
use Rattle.spec_records.specs.Entries.{entry_of_line, site_of}
use Rattle.spec_records.specs.LocDurable.{listed_line}
use Rattle.spec_records.specs.LocRecords.{Listed}
use Rattle.spec_rows.specs.LocRow.{has_id}
use Rattle.spec_rows.specs.Runs.{counts_later, first_entries, first_volumes, listed_by, placed_at, unless_there, first_volumes_at}
use Rattle.spec_runs.specs.NodeRuns.{node_start}
use Rattle.law_places.specs.Accepting.{serves_at}
use Rattle.law_places.proofs.FirstVolumes.{first_serves}
use Rattle.law_families.specs.Entries.{AreApart, AreKeyed}
use Rattle.law_families.proofs.Volumes.{put_found}

-- ---- entries stand under their numbers

set_keyed : (t : Table Listed) (x : Listed) → AreKeyed t → AreKeyed (set x.entry.read_write x t)
set_keyed t x h = record { ascends = ascends_set 0 x.entry.read_write x t (omega arith) h.ascends; keyed = λ k l at. by k l (put_found x.entry.read_write k x l t at) }
  where
    by : (k : ℕ) (l : Listed) → ((x.entry.read_write ≡ k) × (x ≡ l)) ⊎ (get k t ≡ Some l) → l.entry.read_write ≡ k
    by k l (inl here) = subst (λ (y : Listed). y.entry.read_write ≡ k) here.1 here.0
    by k l (inr there) = h.keyed k l there

listed_keyed : (b : Bool) (v : VolumeLine) (t : Table Listed) → AreKeyed t → AreKeyed (listed_by b v t)
listed_keyed true v t h = h
listed_keyed false v t h = set_keyed t (listed_line v) h

pub first_keyed : (vs : List VolumeLine) → AreKeyed (first_entries vs)
first_keyed [] = record { ascends = tt; keyed = λ k l at. absurd cc }
first_keyed (v ∷ vs) = listed_keyed (counts_later v.id vs) v (first_entries vs) (first_keyed vs)

-- ---- each has its own number, and no other

abbrev HasOne : LocEntry → Type 0
HasOne e = (id : ℕ) → has_id id e ≡ true → e.read_write ≡ id

abbrev HaveOne : Table Listed → Type 0
HaveOne t = (k : ℕ) (l : Listed) → get k t ≡ Some l → HasOne l.entry

-- 0 is no number
one_by : (n id : ℕ) (none own : Bool) → nat_eq id 0 ≡ none → nat_eq n id ≡ own → (not none && (own || (nat_eq 0 id || nat_eq 0 id))) ≡ true → n ≡ id
one_by n id true own is_none same has = absurd cc
one_by n id false true not_none same has = eqb-true n id same
one_by n id false false not_none same has = absurd (by (nat_eq 0 id) refl has)
  where
    by : (b : Bool) → nat_eq 0 id ≡ b → (b || b) ≡ true → ⊥
    by false is e = absurd cc
    by true is e = let no : true ≡ false = sym (eq-eqb id 0 (sym (eqb-true 0 id is))) ∙ not_none in absurd cc

line_one : (v : VolumeLine) → HasOne (entry_of_line v)
line_one v id has = one_by v.id id (nat_eq id 0) (nat_eq v.id id) refl refl has

listed_one : (b : Bool) (v : VolumeLine) (t : Table Listed) → HaveOne t → HaveOne (listed_by b v t)
listed_one true v t h k l at = h k l at
listed_one false v t h k l at = by (put_found v.id k (listed_line v) l t at)
  where
    by : ((v.id ≡ k) × (listed_line v ≡ l)) ⊎ (get k t ≡ Some l) → HasOne l.entry
    by (inl here) = subst (λ (x : Listed). HasOne x.entry) here.1 (line_one v)
    by (inr there) = h k l there

first_one : (vs : List VolumeLine) → HaveOne (first_entries vs)
first_one [] k l at = absurd cc
first_one (v ∷ vs) k l at = listed_one (counts_later v.id vs) v (first_entries vs) (first_one vs) k l at

pub first_apart : (vs : List VolumeLine) → AreApart (first_entries vs)
first_apart vs k j l m at_k at_j other id one two =
    let keyed = (first_keyed vs).keyed in
    other (sym (keyed k l at_k) ∙ (first_one vs k l at_k id one ∙ (sym (first_one vs j m at_j id two) ∙ keyed j m at_j)))

-- ---- where a volume is laid, its entry names the server

stays_by : {A : Type 0} (b : Bool) (x : A) (o : Option A) → is_some o ≡ true → is_some (cond b (Some x) o) ≡ true
stays_by {A} true x o h = refl
stays_by {A} false x o h = h

stays : {A : Type 0} (n k : ℕ) (x : A) (t : Table A) → is_some (get k t) ≡ true → is_some (get k (set n x t)) ≡ true
stays {A} n k x t h = ap is_some (get_set k n x t) ∙ stays_by (nat_eq n k) x (get k t) h

-- what is put in two tables
both_by : (b : Bool) (x y : Volume) (o p : Option Volume) → (is_some o ≡ true → is_some p ≡ true) → is_some (cond b (Some x) o) ≡ true → is_some (cond b (Some y) p) ≡ true
both_by true x y o p h e = refl
both_by false x y o p h e = h e

laid_counts_by : (c here : Bool) (v : VolumeLine) (k : ℕ) (t u : Table Volume) → (is_some (get k t) ≡ true → is_some (get k u) ≡ true) → is_some (get k (placed_at c here v.id (first_volume v) t)) ≡ true → is_some (get k (unless_there c v.id (first_volume v) u)) ≡ true
laid_counts_by true here v k t u h e = h e
laid_counts_by false true v k t u h e = ap is_some (get_set k v.id (first_volume v) u) ∙ both_by (nat_eq v.id k) (first_volume v) (first_volume v) (get k t) (get k u) h (sym (ap is_some (get_set k v.id (first_volume v) t)) ∙ e)
laid_counts_by false false v k t u h e = stays v.id k (first_volume v) u (h e)

laid_counts : (i k : ℕ) (vs : List VolumeLine) → is_some (get k (first_volumes_at i vs)) ≡ true → counts_later k vs ≡ true
laid_counts i k [] e = absurd cc
laid_counts i k (v ∷ vs) e = laid_counts_by (counts_later v.id vs) (nat_eq v.server i) v k (first_volumes_at i vs) (first_volumes vs) (laid_counts i k vs) e

-- its entry
pub record IsEntered (t : Table Listed) (volume server : ℕ) : Type 0 where
  pub listed : Listed
  pub there : get volume t ≡ Some listed
  pub names : site_of listed.entry ≡ Some server

-- another volume is entered
entered_by : (n k i : ℕ) (x : Listed) (t : Table Listed) (b : Bool) → nat_eq n k ≡ b → (b ≡ true → ⊥) → IsEntered t k i → IsEntered (set n x t) k i
entered_by n k i x t true is other h = absurd (other refl)
entered_by n k i x t false is other h = record { listed = h.listed; there = get_set k n x t ∙ (rw is h.there); names = h.names }

module _ (v : VolumeLine) (i k : ℕ) (vs : List VolumeLine) (later : is_some (get k (first_volumes_at i vs)) ≡ true → IsEntered (first_entries vs) k i) where
  -- one that is laid by a later line isn't this one
  not_this : counts_later v.id vs ≡ false → is_some (get k (first_volumes_at i vs)) ≡ true → nat_eq v.id k ≡ true → ⊥
  not_this none e same =
      let no : true ≡ false = sym (laid_counts i k vs e) ∙ (ap (λ (n : ℕ). counts_later n vs) (sym (eqb-true v.id k same)) ∙ none) in absurd cc

  others : counts_later v.id vs ≡ false → is_some (get k (first_volumes_at i vs)) ≡ true → IsEntered (set v.id (listed_line v) (first_entries vs)) k i
  others none e = entered_by v.id k i (listed_line v) (first_entries vs) (nat_eq v.id k) refl (not_this none e) (later e)

  this_by : (b : Bool) → nat_eq v.id k ≡ b → counts_later v.id vs ≡ false → v.server ≡ i → is_some (cond b (Some (first_volume v)) (get k (first_volumes_at i vs))) ≡ true → IsEntered (set v.id (listed_line v) (first_entries vs)) k i
  this_by true is none server e = record { listed = listed_line v; there = get_set k v.id (listed_line v) (first_entries vs) ∙ (rw is refl); names = ap Some server }
  this_by false is none server e = others none e

  entered : (c here : Bool) → counts_later v.id vs ≡ c → nat_eq v.server i ≡ here → is_some (get k (placed_at c here v.id (first_volume v) (first_volumes_at i vs))) ≡ true → IsEntered (listed_by c v (first_entries vs)) k i
  entered true here counts server e = later e
  entered false true counts server e = this_by (nat_eq v.id k) refl counts (eqb-true v.server i server) (sym (ap is_some (get_set k v.id (first_volume v) (first_volumes_at i vs))) ∙ e)
  entered false false counts server e = others counts e

laid_entered : (i k : ℕ) (vs : List VolumeLine) → is_some (get k (first_volumes_at i vs)) ≡ true → IsEntered (first_entries vs) k i
laid_entered i k [] e = absurd cc
laid_entered i k (v ∷ vs) e = entered v i k vs (laid_entered i k vs) (counts_later v.id vs) (nat_eq v.server i) refl refl e

-- wherever a volume is in service at set-up, its entry names that server
pub first_entered : (s : Script) (volume server : ℕ) → serves_at (node_start s) volume server ≡ true → IsEntered (first_entries s.volumes) volume server
first_entered s volume server e = laid_entered server volume s.volumes (first_serves volume server s.volumes ∙ e)
