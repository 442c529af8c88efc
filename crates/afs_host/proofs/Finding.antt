-- What a restart finds on the disk: the state before the interrupted step, or that after it.
use Rattle.std.specs.Prelude.{◌≡◌, ◌&&◌, ◌+◌, ℕ, List, [], ◌∷◌, ◌++◌, length, Bool, true, false, Option, Some, None, nat_eq, if◌then◌else◌}
use Rattle.std.specs.Option.{option_map}
use Rattle.std.proofs.lemmas.Bool.{ne_eqb}
use Rattle.std.proofs.lemmas.List.{length-append}
use Rattle.std.proofs.Common.{refl, ap, sym, subst, ◌∙◌, inl, inr, arith, eq-eqb}
use Rattle.afs_num.specs.declared.records.Mark.{Mark}
use Rattle.spec_history.specs.declared.lines.Line.{Line}
use Rattle.spec_records.specs.Durable.{mark_of}
use Rattle.spec_records.proofs.Forms.{some_is}
use Rattle.spec_rows.specs.Hosts.{at_rest, begun_from, in_boot, in_step, Fall, NodeKind, MayFind}
use Rattle.spec_rows.specs.Steps.{begun_before, Begun}
use Rattle.afs_store.specs.Opening.{lines_begun, same_mark}
use Rattle.afs_store.specs.Stores.{StandFor}
use Rattle.afs_host.specs.Standing.{IsKeptAs, IsKeptFound, IsKeptIn, Keeping, LiesAfter, LiesBefore}
use Rattle.afs_host.proofs.Folded.{effect_all, none_bad, one_taken, same_durable}
use Rattle.afs_host.proofs.Lying.{IsSoundKeeping}

-- ---- the lines with which a restart begins

same_mark_is : (a b : Mark) → a ≡ b → same_mark a b ≡ true
same_mark_is a b e =
    ap (λ (t : Bool). t && nat_eq a.records b.records) (eq-eqb a.generation b.generation (ap (λ (m : Mark). m.generation) e)) ∙ eq-eqb a.records b.records (ap (λ (m : Mark). m.records) e)

other_mark : (bs : List (List ℕ)) (bytes : List ℕ) (mark : Mark) → mark_of bs ≡ mark → same_mark (mark_of (bs ++ bytes ∷ [])) mark ≡ false
other_mark bs bytes mark e = subst (λ (m : Mark). same_mark (mark_of (bs ++ bytes ∷ [])) m ≡ false) e (ne_eqb (length (bs ++ bytes ∷ [])) (length bs) (λ same. omega (arith, same, length-append bs (bytes ∷ []))))

-- those of the last record, unless its number was told
abbrev unless_told : (List Line → List Line) → Mark → List (List ℕ) → List Line → List Line
unless_told words told records e = if same_mark (mark_of records) told then [] else words e

none_told : (words : List Line → List Line) (mark : Mark) (records : List (List ℕ)) (o : Option (List Line)) (front : List Line) → same_mark (mark_of records) mark ≡ true → option_map (unless_told words mark records) o ≡ Some front → front ≡ []
none_told words mark records None front same h = absurd cc
none_told words mark records (Some e) front same h = sym (some_is _ front h) ∙ ap (λ (t : Bool). if t then [] else words e) same

last_told : (words : List Line → List Line) (mark : Mark) (records : List (List ℕ)) (o : Option (List Line)) (e : List Line) (front : List Line) → same_mark (mark_of records) mark ≡ false → o ≡ Some e → option_map (unless_told words mark records) o ≡ Some front → front ≡ words e
last_told words mark records o e front other is h =
    sym (some_is (unless_told words mark records e) front (ap (option_map (unless_told words mark records)) (sym is) ∙ h)) ∙ ap (λ (t : Bool). if t then [] else words e) other

-- ---- what is found

state_before : {S : Type 0} (kind : NodeKind S) (s : S) (fall : Fall) → begun_from kind s false fall ≡ begun_before s
state_before {S} kind s at_rest = refl
state_before {S} kind s (in_step m clock b) = refl
state_before {S} kind s in_boot = refl

none_some : (number : ℕ) → None ≡ Some number → ⊥
none_some number e = absurd cc

module _ {R T M P L S : Type 0} (k : Keeping R T M P L S) (fit : IsSoundKeeping k) where
  -- what is read for the state has the capacity that this tells
  read_capacity : (d : T) (s : S) → k.read d ≡ k.lasting s → k.fold.capacity d ≡ k.capacity (k.lasting s)
  read_capacity d s read = sym (fit.sized d) ∙ ap k.capacity read

  -- which of the two it is, as the blow allows it, and with which lines the restart begins
  pub record Finds (s : S) (fall : Fall) (durable : T) (front : List Line) : Type 0 where
    pub after : Bool
    pub may : MayFind fall after
    pub read : k.read durable ≡ k.lasting (begun_from k.kind s after fall).state
    pub before : (ls : List Line) → (begun_from k.kind s after fall).before ls ≡ front ++ ls

  module _ (s : S) (fall : Fall) (mark : Mark) (records : List (List ℕ)) (capacity : ℕ) (sc : k.capacity (k.lasting s) ≡ capacity) where
    module _ (durable : T) (front : List Line) (dc : k.fold.capacity durable ≡ capacity) (stands : StandFor k.fold records durable) (lines : lines_begun k.fold k.kind.me mark capacity records ≡ Some front) where
      finds_before : MayFind fall false → LiesBefore k s mark records → Finds s fall durable front
      finds_before may b =
          let d = b.before.durable in
          let same = same_durable k.fold records durable d (dc ∙ (sym sc ∙ sym (read_capacity d s b.before.read))) stands b.before.stands in
          let none = none_told k.fold.in_words mark records (k.fold.last_effect k.kind.me capacity records) front (same_mark_is (mark_of records) mark b.marked) lines in
          record {
            after = false;
            may = may;
            read = ap k.read same ∙ (b.before.read ∙ ap (λ (x : Begun S). k.lasting x.state) (sym (state_before k.kind s fall)));
            before = λ ls. ap (λ (x : Begun S). x.before ls) (state_before k.kind s fall) ∙ ap (λ (f : List Line). f ++ ls) (sym none);
          }

      finds_after : MayFind fall true → LiesAfter k s fall mark records → Finds s fall durable front
      finds_after may a =
          let d = a.before.before.durable in
          let e = a.after.durable in
          let more = a.first ++ k.fold.spelled a.last ∷ [] in
          let d_capacity : k.fold.capacity d ≡ capacity = read_capacity d s a.before.before.read ∙ sc in
          let e_capacity : k.fold.capacity e ≡ capacity = read_capacity e (begun_from k.kind s true fall).state a.after.read ∙ (fit.same_capacity s fall ∙ sc) in
          let same = same_durable k.fold records durable e (dc ∙ sym e_capacity) stands a.after.stands in
          let whole = subst (λ (rs : List (List ℕ)). StandFor k.fold rs durable) a.are stands in
          let takes = one_taken k.fold fit.fold a.first a.last d durable a.before.before.stands whole a.read_again (dc ∙ sym d_capacity) in
          let folds = ap (λ (n : ℕ). k.fold.fold_all n a.first) (sym d_capacity) ∙ a.before.before.stands in
          let effect = effect_all k.fold fit.fold k.kind.me capacity a.first (k.fold.spelled a.last) a.last d durable folds a.read_again takes in
          let begun = subst (λ (rs : List (List ℕ)). lines_begun k.fold k.kind.me mark capacity rs ≡ Some front) a.are lines in
          let told = last_told k.fold.in_words mark more (k.fold.last_effect k.kind.me capacity more) (k.fold.effect k.kind.me a.last d) front (other_mark a.first (k.fold.spelled a.last) mark a.before.marked) effect begun in
          record {
            after = true;
            may = may;
            read = ap k.read same ∙ a.after.read;
            before = λ ls. a.told ls ∙ ap (λ (f : List Line). f ++ ls) (sym told);
          }

      finds_by : (after : Bool) → MayFind fall after → IsKeptAs k s fall mark after records → Finds s fall durable front
      finds_by false may b = finds_before may b
      finds_by true may a = finds_after may a

      pub finds_found : IsKeptFound k s fall mark records → Finds s fall durable front
      finds_found found = finds_by found.0 found.1.0 found.1.1

    -- both stand for something
    lies_stand : IsKeptIn k s fall mark records → (d : T) × (k.fold.fold_all capacity records ≡ Some d)
    lies_stand (inl b) =
        let d = b.before.durable in
        (d, ap (λ (n : ℕ). k.fold.fold_all n records) (sym (read_capacity d s b.before.read ∙ sc)) ∙ b.before.stands)
    lies_stand (inr a) =
        let d = a.after.durable in
        (d, ap (λ (n : ℕ). k.fold.fold_all n records) (sym (read_capacity d (begun_from k.kind s true fall).state a.after.read ∙ (fit.same_capacity s fall ∙ sc))) ∙ a.after.stands)

    -- so no record of them is bad
    pub lies_good : (number : ℕ) → IsKeptIn k s fall mark records → k.fold.first_bad capacity records ≡ Some number → ⊥
    lies_good number lies bad =
        let d = lies_stand lies in
        none_some number (sym (none_bad k.fold fit.fold capacity records d.0 d.1) ∙ bad)
