-- What an entry of another node leaves of a client: it begins, reads and answers nothing of it.
use Rattle.spec_history.specs.declared.lines.Line.{Line}
use Rattle.spec_history.specs.declared.lines.Line.TheVariants as lines
use Rattle.spec_history.specs.declared.scripts.Script.{Script}
use Rattle.law_legal.proofs.ActLines.{is_of}
use Rattle.law_legal.proofs.OwedPasses.{all_lines}
use Rattle.law_legal.proofs.BaseLaws.{both, raised_up_to, same_fid-true}
use Rattle.law_legal.proofs.VolumeEdits.{index_in, touches}
use Rattle.law_legal.proofs.BaseWords.{Reached}
use Rattle.law_legal.proofs.KeptBesideOthers.{IsBeside}
use Rattle.law_legal.proofs.VolumesAreIdeal.{AreBlank, blank_by, of_blank}
use Rattle.law_legal.proofs.VersionsLatest.{has_onto}
use Rattle.law_legal.proofs.KeptIsLookedAt.{reach_blank}
use Rattle.law_legal.proofs.ActCalls.{all_idle, idle_leaves, is_idle, other_leaves, other_node}
use Rattle.law_legal.proofs.KeptStepAsks.{silent_reach}
use Rattle.law_legal.proofs.VolumeVersionsTold.{IsAgreed, IsSaved}
use Rattle.law_legal.proofs.ServerFinds.{last_has}
use Rattle.law_legal.specs.ClientParts.{is_silent}
use Rattle.law_legal.specs.Ideal.{HasVersion, Reach, is_zero_code, last_version, raised, highest_reached, highest_over}
use Rattle.law_legal.specs.Past.{is_of_act, lines_of, onto}
use Rattle.afs_num.specs.Fids.{same_fid}
use Rattle.afs_num.specs.Nodes.{same_node}
use Rattle.afs_num.specs.declared.histories.Actor.TheVariants as actors
use Rattle.afs_num.specs.declared.histories.Body.{Body}
use Rattle.afs_num.specs.declared.histories.Version.{Version}
use Rattle.afs_num.specs.declared.types.Fid.{Fid}
use Rattle.afs_num.specs.declared.types.Node.{Node}
use Rattle.afs_num.specs.declared.types.Node.TheVariants.{Client, Server}
use Rattle.spec_rows.specs.Runs.{Entry}
use Rattle.spec_rows.specs.ServerRow.{versioned}
use Rattle.std.proofs.Common.{◌≡◌, ◌≤◌, ℕ, ◌⊎◌, inl, inr, Bool, true, false, cond, List, [], ◌∷◌, Option, Some, None, refl, sym, ap, subst, ◌∙◌, le_trans, arith}
use Rattle.std.specs.Prelude.{◌&&◌}

-- ---- a server's lines

idle_silent : (ls : List Line) → all_lines is_idle ls ≡ true → is_silent ls ≡ true
idle_silent [] h = refl
idle_silent (lines.Begin n act ∷ ls) h = absurd cc
idle_silent (lines.Read n f index source body ∷ ls) h = absurd cc
idle_silent (lines.Answer n code ∷ ls) h = absurd cc
idle_silent (l ∷ ls) h = idle_silent ls (both (is_idle l) (all_lines is_idle ls) h).1

silent_seen : (c : Node) (f : Fid) (past : List Entry) (own : Bool) (r : Reach) (ls : List Line) → is_silent ls ≡ true → (highest_over c f past own r ls).seen ≡ r.seen
silent_seen c f past own r [] h = refl
silent_seen c f past own r (lines.Begin n act ∷ ls) h = absurd cc
silent_seen c f past own r (lines.Read n g index source body ∷ ls) h = absurd cc
silent_seen c f past own r (lines.Answer n code ∷ ls) h = absurd cc
silent_seen c f past own r (lines.Change q k count ∷ ls) h = silent_seen c f past (is_of_act c k past) r ls h
silent_seen c f past own r (lines.Version v ∷ ls) h = silent_seen c f past own (record { made = raised (own && same_fid v.fid f) v.index r.made; seen = r.seen }) ls h
silent_seen c f past own r (l ∷ ls) h = silent_seen c f past own r ls h

-- what is told stays under the last version
told_up : (f : Fid) (v : Version) (own t : Bool) (ls o : List Line) (k : ℕ) → ((i : ℕ) (b : Body) → HasVersion f i b (onto (lines.Version v ∷ o) ls) → i ≤ k) → (own && t) ≡ true → same_fid v.fid f ≡ t → v.index ≤ k
told_up f v own true ls o k up e t = up v.index v.body (has_onto f v.index v.body ls (lines.Version v ∷ o) (inl (same_fid-true v.fid f t, (refl, refl))))
told_up f v true false ls o k up e t = absurd cc
told_up f v false false ls o k up e t = absurd cc

made_up : (c : Node) (f : Fid) (past : List Entry) (own : Bool) (r : Reach) (ls o : List Line) (k : ℕ) → ((i : ℕ) (b : Body) → HasVersion f i b (onto o ls) → i ≤ k) → is_silent ls ≡ true → r.made ≤ k → (highest_over c f past own r ls).made ≤ k
made_up c f past own r [] o k up h le = le
made_up c f past own r (lines.Begin n act ∷ ls) o k up h le = absurd cc
made_up c f past own r (lines.Read n g index source body ∷ ls) o k up h le = absurd cc
made_up c f past own r (lines.Answer n code ∷ ls) o k up h le = absurd cc
made_up c f past own r (lines.Change q n count ∷ ls) o k up h le = made_up c f past (is_of_act c n past) r ls (lines.Change q n count ∷ o) k up h le
made_up c f past own r (lines.Version v ∷ ls) o k up h le =
    made_up c f past own (record { made = raised (own && same_fid v.fid f) v.index r.made; seen = r.seen }) ls (lines.Version v ∷ o) k up h (raised_up_to (own && same_fid v.fid f) v.index r.made k (λ t. told_up f v own (same_fid v.fid f) ls o k up t refl) le)
made_up c f past own r (l ∷ ls) o k up h le = made_up c f past own r ls (l ∷ o) k up h le

index_up : (f : Fid) (v : Option Version) (o : List Line) (k : ℕ) → last_version f o ≡ v → ((i : ℕ) (b : Body) → HasVersion f i b o → i ≤ k) → index_in v ≤ k
index_up f None o k e up = omega arith
index_up f (Some v) o k e up = up v.index v.body (last_has f o v e)

-- the last version doesn't go back
pub last_up : (s : Script) (f : Fid) (past : List Entry) (y : Entry) → IsAgreed s (y ∷ past) → index_in (last_version f (lines_of past)) ≤ index_in (last_version f (lines_of (y ∷ past)))
last_up s f past y A = index_up f (last_version f (lines_of past)) (lines_of past) (index_in (last_version f (lines_of (y ∷ past)))) refl (λ i b h. A.ascend.top f i b (has_onto f i b y.lines (lines_of past) h))

-- ---- a change that is none of the act's, or touches nothing of the object

and_no : (own t : Bool) → (own ≡ false) ⊎ (t ≡ false) → (own && t) ≡ false
and_no true t (inl e) = absurd cc
and_no true t (inr e) = e
and_no false t z = refl

raised_not : (t : Bool) (a b : ℕ) → t ≡ false → raised t a b ≡ b
raised_not true a b e = absurd cc
raised_not false a b e = refl

either_false : (a b : Bool) → cond a true b ≡ false → (a ≡ false) × (b ≡ false)
either_false true b e = absurd cc
either_false false b e = (refl, e)

untouched_reach : (c : Node) (f : Fid) (past : List Entry) (own : Bool) (r : Reach) (vs : List Version) (rest : List Line) → AreBlank rest → is_silent rest ≡ true → (own ≡ false) ⊎ (touches f vs ≡ false) → highest_over c f past own r (versioned vs rest) ≡ r
untouched_reach c f past own r [] rest b h z = silent_reach c f past own r rest b h
untouched_reach c f past own r (v ∷ vs) rest b h z =
    let p : ((own ≡ false) ⊎ (same_fid v.fid f ≡ false)) × ((own ≡ false) ⊎ (touches f vs ≡ false)) = elim z [
      | inl e ↦ (inl e, inl e)
      | inr e ↦ (let q = either_false (same_fid v.fid f) (touches f vs) e in (inr q.0, inr q.1))
    ] in
    untouched_reach c f past own (record { made = raised (own && same_fid v.fid f) v.index r.made; seen = r.seen }) vs rest b h p.1 ∙ ap (λ (m : ℕ). record { made = m; seen = r.seen }) (raised_not (own && same_fid v.fid f) v.index r.made (and_no own (same_fid v.fid f) p.0))

saved_reach : (s : Script) (c : Node) (f : Fid) (past : List Entry) (y : Entry) → (z : IsSaved s past y) → (is_of_act c z.key past ≡ false) ⊎ (touches f z.versions ≡ false) → highest_reached c f (y ∷ past) ≡ highest_reached c f past
saved_reach s c f past y z none =
    let r : Reach = highest_reached c f past in
    let ls : List Line = lines.Change (Server z.server) z.key z.count ∷ versioned z.versions z.rest in
    ap (highest_over c f past false r) z.split ∙ (reach_blank c f past false r z.front ls z.before ∙ (ap (λ (x : Reach). highest_over c f past false x ls) (silent_reach c f past false r z.front z.before (idle_silent z.front (all_idle z.server z.front z.from_front)))
    ∙ untouched_reach c f past (is_of_act c z.key past) r z.versions z.rest z.behind (idle_silent z.rest (all_idle z.server z.rest z.from_rest)) none))

pub beside_idle : (s : Script) (j : ℕ) (past : List Entry) (y : Entry) → AreBlank y.lines ⊎ IsSaved s past y → IsAgreed s (y ∷ past) → (y.actor ≡ actors.Node (Client j) → ⊥) → all_lines is_idle y.lines ≡ true → ((f : Fid) → Reached (Client j) f (index_in (last_version f (lines_of past))) past) → IsBeside s j past y
beside_idle s j past y told A other idle reached =
    let silent : is_silent y.lines ≡ true = idle_silent y.lines idle in
    record {
      told = told;
      agreed = A;
      actor = other;
      fetched = λ f. (idle_leaves s j y.lines (lines_of past) idle).fetched f;
      seen = λ f. silent_seen (Client j) f past false (highest_reached (Client j) f past) y.lines silent;
      blank = λ b f. ap (λ (r : Reach). r.made) (silent_reach (Client j) f past false (highest_reached (Client j) f past) y.lines b silent);
      made = λ z f none. ap (λ (r : Reach). r.made) (saved_reach s (Client j) f past y z none);
      reached = λ f. let k : ℕ = index_in (last_version f (lines_of (y ∷ past))) in record {
        made = made_up (Client j) f past false (highest_reached (Client j) f past) y.lines (lines_of past) k (λ i b h. A.ascend.top f i b h) silent (le_trans (reached f).made (last_up s f past y A));
        seen = subst (λ (n : ℕ). n ≤ k) (sym (silent_seen (Client j) f past false (highest_reached (Client j) f past) y.lines silent)) (le_trans (reached f).seen (last_up s f past y A));
      };
    }

-- ---- another client's lines

apart_reach : (i j : ℕ) (f : Fid) (past : List Entry) (own : Bool) (r : Reach) (ls : List Line) → all_lines (is_of i) ls ≡ true → (i ≡ j → ⊥) → highest_over (Client j) f past own r ls ≡ r
apart_reach i j f past own r [] h ne = refl
apart_reach i j f past own r (lines.Begin n act ∷ ls) h ne =
    let q = both (is_of i (lines.Begin n act)) (all_lines (is_of i) ls) h in
    apart_reach i j f past own (record { made = cond (same_node n (Client j)) 0 r.made; seen = r.seen }) ls q.1 ne ∙ ap (λ (t : Bool). record { made = cond t 0 r.made; seen = r.seen }) (other_node n i j q.0 ne)
apart_reach i j f past own r (lines.Read n g index source body ∷ ls) h ne =
    let q = both (is_of i (lines.Read n g index source body)) (all_lines (is_of i) ls) h in
    apart_reach i j f past own (record { made = r.made; seen = raised (same_node n (Client j) && same_fid g f) index r.seen }) ls q.1 ne ∙ ap (λ (t : Bool). record { made = r.made; seen = raised (t && same_fid g f) index r.seen }) (other_node n i j q.0 ne)
apart_reach i j f past own r (lines.Answer n code ∷ ls) h ne =
    let q = both (is_of i (lines.Answer n code)) (all_lines (is_of i) ls) h in
    apart_reach i j f past own (record { made = r.made; seen = raised (same_node n (Client j) && is_zero_code code) r.made r.seen }) ls q.1 ne ∙ ap (λ (t : Bool). record { made = r.made; seen = raised (t && is_zero_code code) r.made r.seen }) (other_node n i j q.0 ne)
apart_reach i j f past own r (lines.Change n k count ∷ ls) h ne = absurd cc
apart_reach i j f past own r (lines.Version v ∷ ls) h ne = absurd cc
apart_reach i j f past own r (l ∷ ls) h ne = apart_reach i j f past own r ls (both (is_of i l) (all_lines (is_of i) ls) h).1 ne

pub beside_other : (s : Script) (i j : ℕ) (past : List Entry) (y : Entry) → IsAgreed s (y ∷ past) → (y.actor ≡ actors.Node (Client j) → ⊥) → all_lines (is_of i) y.lines ≡ true → (i ≡ j → ⊥) → ((f : Fid) → Reached (Client j) f (index_in (last_version f (lines_of past))) past) → IsBeside s j past y
beside_other s i j past y A other of ne reached =
    let same : (f : Fid) → highest_reached (Client j) f (y ∷ past) ≡ highest_reached (Client j) f past = λ f. apart_reach i j f past false (highest_reached (Client j) f past) y.lines of ne in
    record {
      told = inl (blank_by (is_of i) (of_blank i) y.lines of);
      agreed = A;
      actor = other;
      fetched = λ f. (other_leaves s i j y.lines (lines_of past) of ne).fetched f;
      seen = λ f. ap (λ (r : Reach). r.seen) (same f);
      blank = λ b f. ap (λ (r : Reach). r.made) (same f);
      made = λ z f none. ap (λ (r : Reach). r.made) (same f);
      reached = λ f. let k : ℕ = index_in (last_version f (lines_of (y ∷ past))) in record {
        made = subst (λ (r : Reach). r.made ≤ k) (sym (same f)) (le_trans (reached f).made (last_up s f past y A));
        seen = subst (λ (r : Reach). r.seen ≤ k) (sym (same f)) (le_trans (reached f).seen (last_up s f past y A));
      };
    }
