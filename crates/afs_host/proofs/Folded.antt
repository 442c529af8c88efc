-- What the records of a disk make, and what one more makes behind them, whatever kind of records they are.
use Rattle.std.specs.Prelude.{◌≡◌, ◌+◌, ℕ, List, [], ◌∷◌, ◌++◌, true, Option, Some, None}
use Rattle.std.proofs.Common.{refl, ap, sym, subst, ◌∙◌}
use Rattle.afs_num.specs.declared.types.Node.{Node}
use Rattle.spec_history.specs.declared.lines.Line.{Line}
use Rattle.spec_shape.specs.Taking.{◌>>=◌}
use Rattle.spec_records.proofs.Forms.{bound, some_is}
use Rattle.afs_store.specs.Folding.{Folding}
use Rattle.afs_store.specs.Folds.{all_folded, first_unfit, folded_from, last_told, taken_as, told_from, unfit_by, unfit_from}
use Rattle.afs_store.specs.Sound.{IsSound}
use Rattle.afs_store.specs.Stores.{StandFor}

bind_is : {A B : Type 0} (o : Option A) (x : A) (f : A → Option B) (y : B) → o ≡ Some x → (o >>= f) ≡ Some y → f x ≡ Some y
bind_is {A} {B} o x f y e h = subst (λ (p : Option A). (p >>= f) ≡ Some y) e h

module _ {R T M P : Type 0} (k : Folding R T M P) where
  -- the first record of a disk, on what stands there without one
  abbrev first_taken : ℕ → R → Option T
  first_taken capacity r = taken_as k true r (k.placed 1 capacity k.nothing)

  -- ---- records that stand for something with this one after them: it was taken

  more_from : (bs : List (List ℕ)) (bytes : List ℕ) (r : R) (c d e : T) → folded_from k bs c ≡ Some d → k.read bytes ≡ Some r → folded_from k (bs ++ bytes ∷ []) c ≡ Some e → k.folded r d ≡ Some e
  more_from [] bytes r c d e h is stands =
      let p = bind_is (k.read bytes) r (λ q. (k.folded q c >>= folded_from k [])) e is stands in
      let f = bound (k.folded r c) (folded_from k []) e p in
      subst (λ (x : T). k.folded r x ≡ Some e) (some_is c d h) (f.1.0 ∙ f.1.1)
  more_from (b ∷ bs) bytes r c d e h is stands =
      let p = bound (k.read b) (λ q. (k.folded q c >>= folded_from k bs)) d h in
      let f = bound (k.folded p.0 c) (folded_from k bs) d p.1.1 in
      let q = bind_is (k.read b) p.0 (λ q. (k.folded q c >>= folded_from k (bs ++ bytes ∷ []))) e p.1.0 stands in
      more_from bs bytes r f.0 d e f.1.1 is (bind_is (k.folded p.0 c) f.0 (folded_from k (bs ++ bytes ∷ [])) e f.1.0 q)

  more_all : (capacity : ℕ) (bs : List (List ℕ)) (bytes : List ℕ) (r : R) (d e : T) → all_folded k capacity bs ≡ Some d → k.read bytes ≡ Some r → all_folded k capacity (bs ++ bytes ∷ []) ≡ Some e → k.folded r d ≡ Some e
  more_all capacity [] bytes r d e h is stands = absurd cc
  more_all capacity (b ∷ bs) bytes r d e h is stands =
      let p = bound (k.read b) (λ q. (first_taken capacity q >>= folded_from k bs)) d h in
      let f = bound (first_taken capacity p.0) (folded_from k bs) d p.1.1 in
      let q = bind_is (k.read b) p.0 (λ q. (first_taken capacity q >>= folded_from k (bs ++ bytes ∷ []))) e p.1.0 stands in
      more_from bs bytes r f.0 d e f.1.1 is (bind_is (first_taken capacity p.0) f.0 (folded_from k (bs ++ bytes ∷ [])) e f.1.0 q)

  -- ---- records that stand for something can be taken

  good_from : (number : ℕ) (bs : List (List ℕ)) (c d : T) → folded_from k bs c ≡ Some d → unfit_from k number bs c ≡ None
  good_from number [] c d h = refl
  good_from number (b ∷ bs) c d h =
      let p = bound (k.read b) (λ q. (k.folded q c >>= folded_from k bs)) d h in
      let f = bound (k.folded p.0 c) (folded_from k bs) d p.1.1 in
      let takes : (k.read b >>= λ q. k.folded q c) ≡ Some f.0 = ap (λ (o : Option R). o >>= λ q. k.folded q c) p.1.0 ∙ f.1.0 in
      ap (λ (o : Option T). unfit_by number o (unfit_from k (number + 1) bs)) takes ∙ good_from (number + 1) bs f.0 d f.1.1

  good_all : (capacity : ℕ) (bs : List (List ℕ)) (d : T) → all_folded k capacity bs ≡ Some d → first_unfit k capacity bs ≡ None
  good_all capacity [] d h = absurd cc
  good_all capacity (b ∷ bs) d h =
      let p = bound (k.read b) (λ q. (first_taken capacity q >>= folded_from k bs)) d h in
      let f = bound (first_taken capacity p.0) (folded_from k bs) d p.1.1 in
      let takes : (k.read b >>= first_taken capacity) ≡ Some f.0 = ap (λ (o : Option R). o >>= first_taken capacity) p.1.0 ∙ f.1.0 in
      ap (λ (o : Option T). unfit_by 1 o (unfit_from k 2 bs)) takes ∙ good_from 2 bs f.0 d f.1.1

  -- ---- what the last record tells

  told_more : (node : Node) (bs : List (List ℕ)) (bytes : List ℕ) (r : R) (c d x : T) (e : List Line) → folded_from k bs c ≡ Some d → k.read bytes ≡ Some r → k.folded r d ≡ Some x → told_from k node (bs ++ bytes ∷ []) c e ≡ Some (k.effect node r d)
  told_more node [] bytes r c d x e h is takes =
      let same = some_is c d h in
      let first : told_from k node (bytes ∷ []) c e ≡ (k.folded r c >>= λ after. told_from k node [] after (k.effect node r c)) = ap (λ (o : Option R). o >>= λ q. (k.folded q c >>= λ after. told_from k node [] after (k.effect node q c))) is in
      let second : (k.folded r c >>= λ after. told_from k node [] after (k.effect node r c)) ≡ Some (k.effect node r c) = ap (λ (o : Option T). o >>= λ after. told_from k node [] after (k.effect node r c)) (ap (k.folded r) same ∙ takes) in
      first ∙ (second ∙ ap (λ (y : T). Some (k.effect node r y)) same)
  told_more node (b ∷ bs) bytes r c d x e h is takes =
      let p = bound (k.read b) (λ q. (k.folded q c >>= folded_from k bs)) d h in
      let f = bound (k.folded p.0 c) (folded_from k bs) d p.1.1 in
      let first : told_from k node (b ∷ (bs ++ bytes ∷ [])) c e ≡ (k.folded p.0 c >>= λ after. told_from k node (bs ++ bytes ∷ []) after (k.effect node p.0 c)) =
      ap (λ (o : Option R). o >>= λ q. (k.folded q c >>= λ after. told_from k node (bs ++ bytes ∷ []) after (k.effect node q c))) p.1.0 in
      let second = ap (λ (o : Option T). o >>= λ after. told_from k node (bs ++ bytes ∷ []) after (k.effect node p.0 c)) f.1.0 in
      first ∙ (second ∙ told_more node bs bytes r f.0 d x (k.effect node p.0 c) f.1.1 is takes)

  told_last : (node : Node) (capacity : ℕ) (bs : List (List ℕ)) (bytes : List ℕ) (r : R) (d x : T) → all_folded k capacity bs ≡ Some d → k.read bytes ≡ Some r → k.folded r d ≡ Some x → last_told k node capacity (bs ++ bytes ∷ []) ≡ Some (k.effect node r d)
  told_last node capacity [] bytes r d x h is takes = absurd cc
  told_last node capacity (b ∷ bs) bytes r d x h is takes =
      let none = k.placed 1 capacity k.nothing in
      let p = bound (k.read b) (λ q. (first_taken capacity q >>= folded_from k bs)) d h in
      let f = bound (first_taken capacity p.0) (folded_from k bs) d p.1.1 in
      let first : last_told k node capacity (b ∷ (bs ++ bytes ∷ [])) ≡ (first_taken capacity p.0 >>= λ after. told_from k node (bs ++ bytes ∷ []) after (k.effect node p.0 none)) =
      ap (λ (o : Option R). o >>= λ q. (first_taken capacity q >>= λ after. told_from k node (bs ++ bytes ∷ []) after (k.effect node q none))) p.1.0 in
      let second = ap (λ (o : Option T). o >>= λ after. told_from k node (bs ++ bytes ∷ []) after (k.effect node p.0 none)) f.1.0 in
      first ∙ (second ∙ told_more node bs bytes r f.0 d x (k.effect node p.0 none) f.1.1 is takes)

  -- ---- the same of records as a disk keeps them

  -- on a disk of one capacity records stand for one thing
  pub same_durable : (records : List (List ℕ)) (d e : T) → k.capacity d ≡ k.capacity e → StandFor k records d → StandFor k records e → d ≡ e
  same_durable records d e capacity hd he = some_is d e (sym hd ∙ (ap (λ (n : ℕ). k.fold_all n records) capacity ∙ he))

  module _ (sound : IsSound k) where
    pub one_taken : (records : List (List ℕ)) (r : R) (d e : T) → StandFor k records d → StandFor k (records ++ k.spelled r ∷ []) e → k.read (k.spelled r) ≡ Some r → k.capacity e ≡ k.capacity d → k.folded r d ≡ Some e
    one_taken records r d e before after is capacity =
        let more = records ++ k.spelled r ∷ [] in
        more_all (k.capacity d) records (k.spelled r) r d e (sound.all (k.capacity d) records ∙ before) is (subst (λ (n : ℕ). all_folded k n more ≡ Some e) capacity (sound.all (k.capacity e) more ∙ after))

    pub none_bad : (capacity : ℕ) (records : List (List ℕ)) (d : T) → k.fold_all capacity records ≡ Some d → k.first_bad capacity records ≡ None
    none_bad capacity records d h = sym (sound.bad capacity records) ∙ good_all capacity records d (sound.all capacity records ∙ h)

    pub effect_all : (node : Node) (capacity : ℕ) (records : List (List ℕ)) (bytes : List ℕ) (r : R) (d x : T) → k.fold_all capacity records ≡ Some d → k.read bytes ≡ Some r → k.folded r d ≡ Some x → k.last_effect node capacity (records ++ bytes ∷ []) ≡ Some (k.effect node r d)
    effect_all node capacity records bytes r d x h is takes =
        sym (sound.last node capacity (records ++ bytes ∷ [])) ∙ told_last node capacity records bytes r d x (sound.all capacity records ∙ h) is takes
