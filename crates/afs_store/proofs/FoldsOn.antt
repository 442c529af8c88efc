-- The fold of records by one more.
use Rattle.std.proofs.Common.{◌≡◌, ℕ, suc, ◌+◌, ◌≤◌, Bool, true, false, List, [], ◌∷◌, ◌++◌, length, Option, Some, None, zero, take, drop, nat_eq, slice_get, refl, sym, ap, subst, ◌∙◌, arith, length-append, Bor}
use Rattle.std.proofs.lemmas.Bool.Decides.{nat_tests}
use Rattle.std.specs.Option.{option_copied, option_map}
use Rattle.std.specs.Prelude.{Err, IfErr, Ok, Result}
use Rattle.afs_num.specs.declared.types.Node.{Node}
use Rattle.spec_history.specs.declared.lines.Line.{Line}
use Rattle.spec_shape.specs.Taking.{◌>>=◌}
use Rattle.afs_journal.specs.Records.{blocks, journal_bytes, place_of}
use Rattle.afs_xdr.specs.Words.{word}
use Rattle.afs_store.specs.Folding.{Folding}
use Rattle.afs_store.specs.Folds.{all_folded, first_unfit, folded_from, front_folded, is_none_yet, last_told, places_length, read_taken, taken_as, told_from, unfit_by, unfit_from, wanted_lines, IsBadAt, IsFront, TakesOne, TellsOne}
use Rattle.afs_store.specs.Sound.{IsSound}

-- ---- lengths

pub one_longer : (pre : List (List ℕ)) (b : List ℕ) → places_length (pre ++ b ∷ []) ≡ places_length pre + (length b + 9)
one_longer [] b = omega arith
one_longer (a ∷ pre) b = omega (arith, one_longer pre b)

length_word : (n : ℕ) → length (word n) ≡ 4
unfolding word
length_word n = refl

length_place : (n : ℕ) (b : List ℕ) → length (place_of n b) ≡ length b + 8
length_place n b = omega (arith, length-append (word (length b)) (word n ++ b), length-append (word n) b, length_word n, length_word (length b))

length_blocks : (n : ℕ) (bs : List (List ℕ)) → length (blocks n bs) ≡ places_length bs
length_blocks n [] = refl
length_blocks n (b ∷ bs) = omega (arith, length-append (place_of n b) (blocks (suc n) bs), length_place n b, length_blocks (suc n) bs)

pub journal_length : (bs : List (List ℕ)) → length (journal_bytes bs) ≡ places_length bs + 1
journal_length bs = omega (arith, length-append (blocks 1 bs) (0 ∷ []), length_blocks 1 bs)

pub some_is : {A : Type 0} (x y : A) → Some x ≡ Some y → x ≡ y
some_is {A} x y q = cc

pub if_err : {T E : Type 0} (r : Result T E) (P Q : E → Type 0) → ((x : E) → P x → Q x) → IfErr r P → IfErr r Q
if_err {T} {E} (Ok x) P Q f p = tt
if_err {T} {E} (Err e) P Q f p = f e p

-- ---- records gone through by places

take_next : {A : Type 0} (xs : List A) (i : ℕ) (x : A) → slice_get xs i ≡ Some x → take (suc i) xs ≡ take i xs ++ x ∷ []
take_next {A} [] i x e = absurd cc
take_next {A} (y ∷ ys) zero x e = ap (λ (z : A). z ∷ []) (let is : y ≡ x = cc in is)
take_next {A} (y ∷ ys) (suc i) x e = ap (λ (l : List A). y ∷ l) (take_next ys i x e)

pub take_step : {A : Type 0} (xs : List A) (i : ℕ) (x : A) → slice_get xs i ≡ Some x → take (i + 1) xs ≡ take i xs ++ x ∷ []
take_step {A} xs i x e = ap (λ (j : ℕ). take j xs) (let z : i + 1 ≡ suc i = omega arith in z) ∙ take_next xs i x e

split_next : {A : Type 0} (xs : List A) (i : ℕ) (x : A) (more : List A) → slice_get xs i ≡ Some x → xs ++ more ≡ take i xs ++ x ∷ (drop (suc i) xs ++ more)
split_next {A} [] i x more e = absurd cc
split_next {A} (y ∷ ys) zero x more e = ap (λ (z : A). z ∷ (ys ++ more)) (let is : y ≡ x = cc in is)
split_next {A} (y ∷ ys) (suc i) x more e = ap (λ (l : List A). y ∷ l) (split_next ys i x more e)

pub split_here : {A : Type 0} (xs : List A) (i : ℕ) (x : A) (more : List A) → slice_get xs i ≡ Some x → xs ++ more ≡ take i xs ++ x ∷ (drop (i + 1) xs ++ more)
split_here {A} xs i x more e = split_next xs i x more e ∙ ap (λ (j : ℕ). take i xs ++ x ∷ (drop j xs ++ more)) (let z : suc i ≡ i + 1 = omega arith in z)

pub taken_length : {A : Type 0} (xs : List A) (i : ℕ) (x : A) → slice_get xs i ≡ Some x → length (take i xs) ≡ i
taken_length {A} [] i x e = absurd cc
taken_length {A} (y ∷ ys) zero x e = refl
taken_length {A} (y ∷ ys) (suc i) x e = ap (λ (n : ℕ). suc n) (taken_length ys i x e)

pub take_whole : {A : Type 0} (xs : List A) (i : ℕ) → length xs ≤ i → take i xs ≡ xs
take_whole {A} [] zero le = refl
take_whole {A} [] (suc i) le = refl
take_whole {A} (y ∷ ys) zero le = absurd (omega (arith, le))
take_whole {A} (y ∷ ys) (suc i) le = ap (λ (l : List A). y ∷ l) (take_whole ys i (omega (arith, le)))

pub first_of : (pre : List (List ℕ)) → nat_eq (length pre + 1) 1 ≡ is_none_yet pre
first_of [] = refl
first_of (a ∷ pre) = grind (arith, nat_tests)

pub behind_none : (rs : List (List ℕ)) (i : ℕ) → slice_get rs i ≡ None → take (i + 1) rs ≡ take i rs
behind_none rs i e = ap (λ (j : ℕ). take j rs) (let z : i + 1 ≡ suc i = omega arith in z) ∙ past rs i e
  where
    past : (ss : List (List ℕ)) (k : ℕ) → slice_get ss k ≡ None → take (suc k) ss ≡ take k ss
    past [] zero f = refl
    past [] (suc k) f = refl
    past (a ∷ ss) zero f = absurd cc
    past (a ∷ ss) (suc k) f = ap (λ (l : List (List ℕ)). a ∷ l) (past ss k f)

-- nothing was found in a place
pub is_none_at : (o : Option (Bor (List ℕ))) (rs : List (List ℕ)) (i : ℕ) → option_copied o ≡ slice_get rs i → o ≡ None → slice_get rs i ≡ None
is_none_at o rs i found e = sym found ∙ ap option_copied e

module _ {R T S P : Type 0} (k : Folding R T S P) where
  -- ---- one more

  and_no_more : (o : Option T) → (o >>= folded_from k []) ≡ o
  and_no_more None = refl
  and_no_more (Some d) = refl

  alone : (first : Bool) (o : Option R) (d : T) → (o >>= λ r. (taken_as k first r d >>= folded_from k [])) ≡ (o >>= λ r. taken_as k first r d)
  alone first None d = refl
  alone first (Some r) d = and_no_more (taken_as k first r d)

  behind_by : (bs : List (List ℕ)) (b : List ℕ) (o : Option T) (d : T) → ((e : T) → folded_from k bs e ≡ Some d → folded_from k (bs ++ b ∷ []) e ≡ read_taken k false b d) → (o >>= folded_from k bs) ≡ Some d
      → (o >>= folded_from k (bs ++ b ∷ [])) ≡ read_taken k false b d
  behind_by bs b None d later e = absurd cc
  behind_by bs b (Some x) d later e = later x e

  behind_read : (bs : List (List ℕ)) (b : List ℕ) (f : R → Option T) (o : Option R) (d : T) → ((e : T) → folded_from k bs e ≡ Some d → folded_from k (bs ++ b ∷ []) e ≡ read_taken k false b d)
      → (o >>= λ r. (f r >>= folded_from k bs)) ≡ Some d → (o >>= λ r. (f r >>= folded_from k (bs ++ b ∷ []))) ≡ read_taken k false b d
  behind_read bs b f None d later e = absurd cc
  behind_read bs b f (Some r) d later e = behind_by bs b (f r) d later e

  from_behind : (bs : List (List ℕ)) (b : List ℕ) (x d : T) → folded_from k bs x ≡ Some d → folded_from k (bs ++ b ∷ []) x ≡ read_taken k false b d
  from_behind [] b x d e = alone false (k.read b) x ∙ ap (λ (y : T). read_taken k false b y) (some_is x d e)
  from_behind (a ∷ bs) b x d e = behind_read bs b (λ r. k.folded r x) (k.read a) d (λ y. from_behind bs b y d) e

  pub front_step : (c : ℕ) (pre : List (List ℕ)) (b : List ℕ) (d : T) → front_folded k c pre ≡ Some d → all_folded k c (pre ++ b ∷ []) ≡ read_taken k (is_none_yet pre) b d
  front_step c [] b d e = alone true (k.read b) (k.placed 1 c k.nothing) ∙ ap (λ (y : T). read_taken k true b y) (some_is (k.placed 1 c k.nothing) d e)
  front_step c (a ∷ pre) b d e = behind_read pre b (λ r. taken_as k true r (k.placed 1 c k.nothing)) (k.read a) d (λ y. from_behind pre b y d) e

  still_front : (c : ℕ) (pre : List (List ℕ)) (b : List ℕ) → front_folded k c (pre ++ b ∷ []) ≡ all_folded k c (pre ++ b ∷ [])
  still_front c [] b = refl
  still_front c (a ∷ pre) b = refl

  -- ---- which one is bad

  bad_here : (n : ℕ) (o : Option T) (next : T → Option ℕ) → o ≡ None → unfit_by n o next ≡ Some n
  bad_here n o next e = ap (λ (x : Option T). unfit_by n x next) e

  bad_behind : (n : ℕ) (bs : List (List ℕ)) (o : Option T) (d : T) (next : T → Option ℕ) (m : ℕ) → ((e : T) → folded_from k bs e ≡ Some d → next e ≡ Some m) → (o >>= folded_from k bs) ≡ Some d → unfit_by n o next ≡ Some m
  bad_behind n bs None d next m later e = absurd cc
  bad_behind n bs (Some x) d next m later e = later x e

  regroup : (bs : List (List ℕ)) (f : R → Option T) (o : Option R) → (o >>= λ r. (f r >>= folded_from k bs)) ≡ ((o >>= f) >>= folded_from k bs)
  regroup bs f None = refl
  regroup bs f (Some r) = refl

  bad_later : (n : ℕ) (bs : List (List ℕ)) (b : List ℕ) (post : List (List ℕ)) (x d : T) → folded_from k bs x ≡ Some d → read_taken k false b d ≡ None → unfit_from k n (bs ++ b ∷ post) x ≡ Some (n + length bs)
  bad_later n [] b post x d e bad =
      bad_here n (read_taken k false b x) (unfit_from k (n + 1) post) (ap (λ (y : T). read_taken k false b y) (some_is x d e) ∙ bad) ∙ ap (λ (m : ℕ). Some m) (let z : n ≡ n + 0 = omega arith in z)
  bad_later n (a ∷ bs) b post x d e bad =
      bad_behind n bs (k.read a >>= λ r. k.folded r x) d (unfit_from k (n + 1) (bs ++ b ∷ post)) (n + length (a ∷ bs))
      (λ y q. bad_later (n + 1) bs b post y d q bad ∙ ap (λ (m : ℕ). Some m) (let z : n + 1 + length bs ≡ n + length (a ∷ bs) = omega arith in z))
      (sym (regroup bs (λ r. k.folded r x) (k.read a)) ∙ e)

  bad_one : (c : ℕ) (pre : List (List ℕ)) (b : List ℕ) (post : List (List ℕ)) (d : T) → front_folded k c pre ≡ Some d → read_taken k (is_none_yet pre) b d ≡ None → first_unfit k c (pre ++ b ∷ post) ≡ Some (1 + length pre)
  bad_one c [] b post d e bad = bad_here 1 (read_taken k true b (k.placed 1 c k.nothing)) (unfit_from k 2 post) (ap (λ (y : T). read_taken k true b y) (some_is (k.placed 1 c k.nothing) d e) ∙ bad)
  bad_one c (a ∷ pre) b post d e bad =
      bad_behind 1 pre (k.read a >>= λ r. taken_as k true r (k.placed 1 c k.nothing)) d (unfit_from k 2 (pre ++ b ∷ post)) (1 + length (a ∷ pre))
      (λ y q. bad_later 2 pre b post y d q bad ∙ ap (λ (m : ℕ). Some m) (let z : 2 + length pre ≡ 1 + length (a ∷ pre) = omega arith in z))
      (sym (regroup pre (λ r. taken_as k true r (k.placed 1 c k.nothing)) (k.read a)) ∙ e)

  -- ---- what the last one tells

  tells_last : (node : Node) (w : Bool) (b : List ℕ) (ls : List Line) (first : Bool) (o : Option R) (d e : T) → k.read b ≡ o → TellsOne k node w b d ls → (o >>= λ r. taken_as k first r d) ≡ Some e
      → option_map (wanted_lines k w) (o >>= λ r. (taken_as k first r d >>= λ after. told_from k node [] after (k.effect node r d))) ≡ Some ls
  tells_last node w b ls first None d e is tells taken = absurd cc
  tells_last node w b ls first (Some r) d e is tells taken =
      ap (λ (x : Option T). option_map (wanted_lines k w) (x >>= λ after. told_from k node [] after (k.effect node r d))) taken ∙ ap (λ (l : List Line). Some l) (sym (tells r is))

  last_by : (node : Node) (w : Bool) (ls : List Line) (bs : List (List ℕ)) (b : List ℕ) (d : T) (f : List Line) (o : Option T)
      → ((y : T) (g : List Line) → folded_from k bs y ≡ Some d → option_map (wanted_lines k w) (told_from k node (bs ++ b ∷ []) y g) ≡ Some ls) → (o >>= folded_from k bs) ≡ Some d
      → option_map (wanted_lines k w) (o >>= λ after. told_from k node (bs ++ b ∷ []) after f) ≡ Some ls
  last_by node w ls bs b d f None later folds = absurd cc
  last_by node w ls bs b d f (Some y) later folds = later y f folds

  last_read : (node : Node) (w : Bool) (ls : List Line) (bs : List (List ℕ)) (b : List ℕ) (d : T) (g : R → Option T) (h : R → List Line) (o : Option R)
      → ((y : T) (f : List Line) → folded_from k bs y ≡ Some d → option_map (wanted_lines k w) (told_from k node (bs ++ b ∷ []) y f) ≡ Some ls) → (o >>= λ r. (g r >>= folded_from k bs)) ≡ Some d
      → option_map (wanted_lines k w) (o >>= λ r. (g r >>= λ after. told_from k node (bs ++ b ∷ []) after (h r))) ≡ Some ls
  last_read node w ls bs b d g h None later folds = absurd cc
  last_read node w ls bs b d g h (Some r) later folds = last_by node w ls bs b d (h r) (g r) later folds

  last_behind : (node : Node) (w : Bool) (ls : List Line) (bs : List (List ℕ)) (b : List ℕ) (x d e : T) (f : List Line) → folded_from k bs x ≡ Some d → read_taken k false b d ≡ Some e → TellsOne k node w b d ls
      → option_map (wanted_lines k w) (told_from k node (bs ++ b ∷ []) x f) ≡ Some ls
  last_behind node w ls [] b x d e f folds taken tells =
      ap (λ (y : T). option_map (wanted_lines k w) (k.read b >>= λ r. (k.folded r y >>= λ after. told_from k node [] after (k.effect node r y)))) (some_is x d folds) ∙ tells_last node w b ls false (k.read b) d e refl tells taken
  last_behind node w ls (a ∷ bs) b x d e f folds taken tells =
      last_read node w ls bs b d (λ r. k.folded r x) (λ r. k.effect node r x) (k.read a) (λ y g h. last_behind node w ls bs b y d e g h taken tells) folds

  tells_the_last : (node : Node) (w : Bool) (ls : List Line) (c : ℕ) (pre : List (List ℕ)) (b : List ℕ) (d e : T) → front_folded k c pre ≡ Some d → read_taken k (is_none_yet pre) b d ≡ Some e → TellsOne k node w b d ls
      → option_map (wanted_lines k w) (last_told k node c (pre ++ b ∷ [])) ≡ Some ls
  tells_the_last node w ls c [] b d e folds taken tells =
      ap (λ (y : T). option_map (wanted_lines k w) (k.read b >>= λ r. (taken_as k true r y >>= λ after. told_from k node [] after (k.effect node r y)))) (some_is (k.placed 1 c k.nothing) d folds) ∙ tells_last node w b ls true (k.read b) d e refl tells taken
  tells_the_last node w ls c (a ∷ pre) b d e folds taken tells =
      last_read node w ls pre b d (λ r. taken_as k true r (k.placed 1 c k.nothing)) (λ r. k.effect node r (k.placed 1 c k.nothing)) (k.read a) (λ y g h. last_behind node w ls pre b y d e g h taken tells) folds

  -- ---- one more is taken, or it is the first that is bad

  taken_first : (c : ℕ) (pre : List (List ℕ)) (b : List ℕ) (d e : T) → TakesOne k (nat_eq (length pre + 1) 1) b d e → read_taken k (is_none_yet pre) b (k.placed (1 + places_length pre) c d) ≡ Some (k.placed (1 + places_length pre + (length b + 9)) c e)
  taken_first c pre b d e takes =
      subst (λ (first : Bool). read_taken k first b (k.placed (1 + places_length pre) c d) ≡ Some (k.placed (1 + places_length pre + (length b + 9)) c e)) (first_of pre) (takes (1 + places_length pre) c)

  one_taken : (c : ℕ) (pre : List (List ℕ)) (b : List ℕ) (d e : T) → front_folded k c pre ≡ Some (k.placed (1 + places_length pre) c d) → TakesOne k (nat_eq (length pre + 1) 1) b d e
      → all_folded k c (pre ++ b ∷ []) ≡ Some (k.placed (1 + places_length (pre ++ b ∷ [])) c e)
  one_taken c pre b d e folds takes =
      front_step c pre b (k.placed (1 + places_length pre) c d) folds
      ∙ (taken_first c pre b d e takes ∙ ap (λ (j : ℕ). Some (k.placed j c e)) (let z : 1 + places_length pre + (length b + 9) ≡ 1 + places_length (pre ++ b ∷ []) = omega (arith, one_longer pre b) in z))

  module _ (sound : IsSound k) where
    pub all_taken : (c : ℕ) (pre : List (List ℕ)) (b : List ℕ) (d e : T) → front_folded k c pre ≡ Some (k.placed (1 + places_length pre) c d) → TakesOne k (nat_eq (length pre + 1) 1) b d e
        → k.fold_all c (pre ++ b ∷ []) ≡ Some (k.placed (1 + places_length (pre ++ b ∷ [])) c e)
    all_taken c pre b d e folds takes = sym (sound.all c (pre ++ b ∷ [])) ∙ one_taken c pre b d e folds takes

    pub bad_at : (c : ℕ) (pre : List (List ℕ)) (b : List ℕ) (post : List (List ℕ)) (d : T) (n : ℕ) → front_folded k c pre ≡ Some (k.placed (1 + places_length pre) c d) → n ≡ length pre + 1 → IsBadAt k (nat_eq (length pre + 1) 1) b d
        → k.first_bad c (pre ++ b ∷ post) ≡ Some n
    bad_at c pre b post d n folds is bad =
        sym (sound.bad c (pre ++ b ∷ post))
        ∙ (bad_one c pre b post (k.placed (1 + places_length pre) c d) folds (subst (λ (first : Bool). read_taken k first b (k.placed (1 + places_length pre) c d) ≡ None) (first_of pre) (bad (1 + places_length pre) c))
        ∙ ap (λ (m : ℕ). Some m) (let z : 1 + length pre ≡ n = omega (arith, is) in z))

    -- the last tells its lines
    pub told_last : (node : Node) (w : Bool) (ls : List Line) (c : ℕ) (pre : List (List ℕ)) (b : List ℕ) (d e : T) → front_folded k c pre ≡ Some (k.placed (1 + places_length pre) c d) → TakesOne k (nat_eq (length pre + 1) 1) b d e → TellsOne k node w b d ls
        → option_map (wanted_lines k w) (k.last_effect node c (pre ++ b ∷ [])) ≡ Some ls
    told_last node w ls c pre b d e folds takes tells =
        ap (option_map (wanted_lines k w)) (sym (sound.last node c (pre ++ b ∷ [])))
        ∙ tells_the_last node w ls c pre b (k.placed (1 + places_length pre) c d) (k.placed (1 + places_length pre + (length b + 9)) c e) folds (taken_first c pre b d e takes)
        (λ r is. tells r is ∙ ap (wanted_lines k w) (sym (sound.tells node r (1 + places_length pre) c d)))

    -- without records nothing is told: the first is missing
    pub none_at_all : (c : ℕ) → k.first_bad c [] ≡ Some 1
    none_at_all c = sym (sound.bad c [])

    -- ---- one record more, by its place

    pub goes_on : (rs : List (List ℕ)) (i : ℕ) (b : List ℕ) (d e : T) → slice_get rs i ≡ Some b → IsFront k (take i rs) d → TakesOne k (nat_eq (i + 1) 1) b d e → IsFront k (take (i + 1) rs) e
    goes_on rs i b d e at front takes c =
        subst (λ (xs : List (List ℕ)). front_folded k c xs ≡ Some (k.placed (1 + places_length xs) c e)) (sym (take_step rs i b at))
        (still_front c (take i rs) b ∙ one_taken c (take i rs) b d e (front c) (subst (λ (n : ℕ). TakesOne k (nat_eq (n + 1) 1) b d e) (sym (taken_length rs i b at)) takes))

    pub stops_at : (rs more : List (List ℕ)) (i n : ℕ) (b : List ℕ) (d : T) → slice_get rs i ≡ Some b → IsFront k (take i rs) d → (n ≡ i + 1) × IsBadAt k (nat_eq (i + 1) 1) b d → (c : ℕ) → k.first_bad c (rs ++ more) ≡ Some n
    stops_at rs more i n b d at front bad c =
        ap (k.first_bad c) (split_here rs i b more at)
        ∙ bad_at c (take i rs) b (drop (i + 1) rs ++ more) d n (front c) (bad.0 ∙ ap (λ (m : ℕ). m + 1) (sym (taken_length rs i b at))) (subst (λ (m : ℕ). IsBadAt k (nat_eq (m + 1) 1) b d) (sym (taken_length rs i b at)) bad.1)
