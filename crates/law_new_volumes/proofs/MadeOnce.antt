-- So entries are made once, and go for good.
use Rattle.std.proofs.Common.{◌≡◌, ◌≤◌, ◌<◌, inl, ℕ, zero, suc, true, false, List, [], ◌∷◌, ◌++◌, Option, Some, None, is_some, refl, sym, ap, subst, arith, ◌∙◌}
use Rattle.std.specs.Prelude.{take}
use Rattle.spec_history.specs.declared.scripts.Script.{Script}
use Rattle.spec_ideal.specs.Tables.{get}
use Rattle.spec_records.specs.LocRecords.{Listed}
use Rattle.spec_runs.specs.NodeRuns.{node_start, CellInput}
use Rattle.law_families.specs.Entries.{AreKeyed}
use Rattle.law_places.specs.Accepting.{cell_behind}
use Rattle.law_stamps.specs.Told.{entries_in}
use Rattle.law_numbers.specs.Numbers.{next_volume, IsNumbered, IsSound}
use Rattle.law_numbers.proofs.Walk.{are_apart}
use Rattle.law_new_volumes.specs.MadeEntries.{EachEntryIsMadeOnce, EntriesGoForGood}
use Rattle.law_new_volumes.proofs.AskedOnce.{asked_once}
use Rattle.law_new_volumes.proofs.GivenOnce.{keyed}
use Rattle.law_new_volumes.proofs.Listing.{ever_on, gone_on, led, EverListed, IsThere}

-- ---- at set-up

first_ever : (s : Script) → IsNumbered s → (v : ℕ) → IsThere v (entries_in (cell_behind (node_start s) [])) → EverListed (next_volume (node_start s)) (node_start s) v
first_ever s numbered v there = by (get v (entries_in (node_start s))) refl
  where
    by : (o : Option Listed) → get v (entries_in (node_start s)) ≡ o → EverListed (next_volume (node_start s)) (node_start s) v
    by None is = let no : true ≡ false = sym there ∙ ap is_some is in absurd cc
    by (Some l) is =
        let k : AreKeyed (entries_in (node_start s)) = keyed s [] in
        let sound : IsSound (next_volume (node_start s)) l.entry = (are_apart s [] numbered).entries v l is in
        inl (subst (λ (w : ℕ). w < next_volume (node_start s)) (k.keyed v l is) sound.0.1)

-- a volume that is listed
pub ever_listed : (s : Script) (inputs : List CellInput) → IsNumbered s → (v : ℕ) → IsThere v (entries_in (cell_behind (node_start s) inputs)) → EverListed (next_volume (node_start s)) (cell_behind (node_start s) inputs) v
ever_listed s inputs numbered = led s [] inputs (first_ever s numbered)

-- ---- further on in a list

record GoesFurther {A : Type 0} (j k : ℕ) (xs : List A) : Type 0 where
  more : List A
  is : take k xs ≡ take j xs ++ more

further : {A : Type 0} (j k : ℕ) (xs : List A) → j ≤ k → GoesFurther j k xs
further {A} zero k xs le = record { more = take k xs; is = refl }
further {A} (suc j) zero xs le = absurd (omega (arith, le))
further {A} (suc j) (suc k) [] le = record { more = []; is = refl }
further {A} (suc j) (suc k) (x ∷ xs) le = let z = further j k xs (omega (arith, le)) in record { more = z.more; is = ap (λ (ys : List A). x ∷ ys) z.is }

module _ (s : Script) (inputs : List CellInput) (numbered : IsNumbered s) where
  gone : EntriesGoForGood s inputs
  gone i j k v le later listed none =
      let a : GoesFurther i j inputs = further i j inputs le in
      let b : GoesFurther j k inputs = further j k inputs later in
      let ever : EverListed (next_volume (node_start s)) (cell_behind (node_start s) (take j inputs)) v = subst (λ (xs : List CellInput). EverListed (next_volume (node_start s)) (cell_behind (node_start s) xs) v) (sym a.is) (ever_on s v (take i inputs) a.more (ever_listed s (take i inputs) numbered v listed)) in
      subst (λ (xs : List CellInput). get v (entries_in (cell_behind (node_start s) xs)) ≡ None) (sym b.is) (gone_on s v (take j inputs) b.more ever none)

pub made_once : EachEntryIsMadeOnce
made_once s inputs numbered = record { asked = asked_once s inputs; gone = gone s inputs numbered }
