-- Lines that turn a volume at a server, and lines that don't; and lines that stand where they may.
use Rattle.std.proofs.Common.{◌≡◌, ℕ, Bool, true, false, cond, List, [], ◌∷◌, ◌++◌, refl, sym, ap, subst, ◌∙◌}
use Rattle.std.specs.Prelude.{◌&&◌, nat_eq}
use Rattle.afs_num.specs.Nodes.{same_node}
use Rattle.afs_num.specs.declared.types.Node.{Node}
use Rattle.spec_history.specs.declared.lines.Line.{Line}
use Rattle.spec_history.specs.declared.lines.Line.TheVariants as lines
use Rattle.spec_model.proofs.Basics.{both, same_node-refl, same_node-true}
use Rattle.law_places.specs.Accepting.{accepts_behind_line, accepts_behind_lines}
use Rattle.law_places.specs.Standing.{changing, AreGoodAt, IsGoodAt}

-- ---- lines one after the other

pub turned_on : (id : ℕ) (me : Node) (was : Bool) (xs ys : List Line) → accepts_behind_lines id me was (xs ++ ys) ≡ accepts_behind_lines id me (accepts_behind_lines id me was xs) ys
turned_on id me was [] ys = refl
turned_on id me was (x ∷ xs) ys = turned_on id me (accepts_behind_line id me was x) xs ys

-- ---- lines of one kind

abbrev pub all_lines : (Line → Bool) → List Line → Bool
all_lines test [] = true
all_lines test (l ∷ ls) = test l && all_lines test ls

pub all_on : (test : Line → Bool) (xs ys : List Line) → all_lines test xs ≡ true → all_lines test ys ≡ true → all_lines test (xs ++ ys) ≡ true
all_on test [] ys h k = k
all_on test (x ∷ xs) ys h k = let q = both (test x) (all_lines test xs) h in rw (q.0, all_on test xs ys q.1 k) refl

-- ---- lines that turn nothing

abbrev pub is_still : Line → Bool
is_still (lines.Fence v n) = false
is_still (lines.Enable v n) = false
is_still (lines.Vanish v n) = false
is_still (lines.Version v) = false
is_still (lines.Change n key count) = false
is_still l = true

abbrev pub AreStill : List Line → Type 0
AreStill ls = all_lines is_still ls ≡ true

still_one : (id : ℕ) (me : Node) (was : Bool) (l : Line) → is_still l ≡ true → accepts_behind_line id me was l ≡ was
still_one id me was (lines.Fence v n) h = absurd cc
still_one id me was (lines.Enable v n) h = absurd cc
still_one id me was (lines.Vanish v n) h = absurd cc
still_one id me was (lines.Version v) h = absurd cc
still_one id me was (lines.Change n key count) h = absurd cc
still_one id me was l h = refl

pub still_turned : (id : ℕ) (me : Node) (was : Bool) (ls : List Line) → AreStill ls → accepts_behind_lines id me was ls ≡ was
still_turned id me was [] h = refl
still_turned id me was (l ∷ ls) h =
    let q = both (is_still l) (all_lines is_still ls) h in ap (λ (b : Bool). accepts_behind_lines id me b ls) (still_one id me was l q.0) ∙ still_turned id me was ls q.1

-- ---- lines that turn a server's own volumes

abbrev pub is_own : Node → Line → Bool
is_own me (lines.Fence v n) = same_node n me
is_own me (lines.Enable v n) = same_node n me
is_own me (lines.Vanish v n) = same_node n me
is_own me (lines.Change n key count) = same_node n me
is_own me l = true

abbrev pub AreOwn : Node → List Line → Type 0
AreOwn me ls = all_lines (is_own me) ls ≡ true

still_own : (me : Node) (l : Line) → is_still l ≡ true → is_own me l ≡ true
still_own me (lines.Fence v n) h = absurd cc
still_own me (lines.Enable v n) h = absurd cc
still_own me (lines.Vanish v n) h = absurd cc
still_own me (lines.Version v) h = absurd cc
still_own me (lines.Change n key count) h = absurd cc
still_own me l h = refl

pub stills_own : (me : Node) (ls : List Line) → AreStill ls → AreOwn me ls
stills_own me [] h = refl
stills_own me (l ∷ ls) h = let q = both (is_still l) (all_lines is_still ls) h in rw (still_own me l q.0, stills_own me ls q.1) refl

-- they turn nothing at another server
off_both : (a b : Bool) (x y : Bool) → b ≡ false → cond (a && b) x y ≡ y
off_both true b x y h = rw h refl
off_both false b x y h = refl

off_node : (me other n : Node) → same_node other me ≡ false → same_node n other ≡ true → same_node n me ≡ false
off_node me other n apart h = ap (λ (m : Node). same_node m me) (same_node-true n other h) ∙ apart

other_one : (id : ℕ) (me other : Node) (was : Bool) (l : Line) → same_node other me ≡ false → is_own other l ≡ true → accepts_behind_line id me was l ≡ was
other_one id me other was (lines.Fence v n) apart h = off_both (nat_eq v id) (same_node n me) false was (off_node me other n apart h)
other_one id me other was (lines.Enable v n) apart h = off_both (nat_eq v id) (same_node n me) true was (off_node me other n apart h)
other_one id me other was (lines.Vanish v n) apart h = off_both (nat_eq v id) (same_node n me) false was (off_node me other n apart h)
other_one id me other was l apart h = refl

pub other_turned : (id : ℕ) (me other : Node) (was : Bool) (ls : List Line) → same_node other me ≡ false → AreOwn other ls → accepts_behind_lines id me was ls ≡ was
other_turned id me other was [] apart h = refl
other_turned id me other was (l ∷ ls) apart h =
    let q = both (is_own other l) (all_lines (is_own other) ls) h in ap (λ (b : Bool). accepts_behind_lines id me b ls) (other_one id me other was l apart q.0) ∙ other_turned id me other was ls apart q.1

-- ---- one line of the server itself

-- of this volume, or of another
pub here_turned : (v id : ℕ) (me : Node) (x was : Bool) (e : Bool) → nat_eq v id ≡ e → cond (nat_eq v id && same_node me me) x was ≡ cond e x was
here_turned v id me x was true is = rw (is, same_node-refl me) refl
here_turned v id me x was false is = rw is refl

-- ---- lines that are good where they stand

abbrev pub StandAt : ℕ → Node → Bool → List Line → Type 0
StandAt id me was ls = (under : Bool) → AreGoodAt id me was under ls

-- one after the other, whatever versions came before
pub good_on : (id : ℕ) (me : Node) (was under : Bool) (xs ys : List Line) → AreGoodAt id me was under xs → StandAt id me (accepts_behind_lines id me was xs) ys → AreGoodAt id me was under (xs ++ ys)
good_on id me was under [] ys h k = k under
good_on id me was under (x ∷ xs) ys h k = (h.0, good_on id me (accepts_behind_line id me was x) (changing me under x) xs ys h.1 k)

still_good_one : (id : ℕ) (me : Node) (was under : Bool) (l : Line) → is_still l ≡ true → IsGoodAt id me was under l
still_good_one id me was under (lines.Fence v n) h = absurd cc
still_good_one id me was under (lines.Enable v n) h = absurd cc
still_good_one id me was under (lines.Version v) h = absurd cc
still_good_one id me was under l h = tt

pub still_good : (id : ℕ) (me : Node) (was : Bool) (ls : List Line) → AreStill ls → StandAt id me was ls
still_good id me was [] h under = tt
still_good id me was (l ∷ ls) h under =
    let q = both (is_still l) (all_lines is_still ls) h in
    (still_good_one id me was under l q.0, subst (λ (b : Bool). AreGoodAt id me b (changing me under l) ls) (sym (still_one id me was l q.0)) (still_good id me was ls q.1 (changing me under l)))

-- another server's
other_good_one : (id : ℕ) (me other : Node) (was : Bool) (l : Line) → same_node other me ≡ false → is_own other l ≡ true → IsGoodAt id me was false l
other_good_one id me other was (lines.Version v) apart h = λ e. absurd cc
other_good_one id me other was (lines.Enable v n) apart h = λ e. let z : true ≡ false = sym (both (nat_eq v id) (same_node n me) e).1 ∙ off_node me other n apart h in absurd cc
other_good_one id me other was (lines.Fence v n) apart h = λ e. let z : true ≡ false = sym (both (nat_eq v id) (same_node n me) e).1 ∙ off_node me other n apart h in absurd cc
other_good_one id me other was l apart h = tt

other_changing : (me other : Node) (l : Line) → same_node other me ≡ false → is_own other l ≡ true → changing me false l ≡ false
other_changing me other (lines.Change n key count) apart h = off_node me other n apart h
other_changing me other l apart h = refl

pub other_good : (id : ℕ) (me other : Node) (was : Bool) (ls : List Line) → same_node other me ≡ false → AreOwn other ls → AreGoodAt id me was false ls
other_good id me other was [] apart h = tt
other_good id me other was (l ∷ ls) apart h =
    let q = both (is_own other l) (all_lines (is_own other) ls) h in (
      other_good_one id me other was l apart q.0,
      subst (λ (b : Bool). AreGoodAt id me b (changing me false l) ls) (sym (other_one id me other was l apart q.0))
          (subst (λ (u : Bool). AreGoodAt id me was u ls) (sym (other_changing me other l apart q.0)) (other_good id me other was ls apart q.1)),
    )
