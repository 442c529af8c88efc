-- Line by line of a run: where a volume accepts stores, or is enabled, the location database names that server, from before the entry on.
use Rattle.std.proofs.Common.{◌≡◌, ◌⊎◌, ◌≤◌, inl, inr, ℕ, zero, suc, Bool, true, false, List, [], ◌∷◌, Option, Some, None, refl, sym, ap, subst, ◌∙◌, nat_eq, eq-eqb, eqb-true, if◌then◌else◌}
use Rattle.std.specs.Prelude.{slice_get, take}
use Rattle.afs_num.specs.Nodes.{same_node}
use Rattle.afs_num.specs.declared.types.Node.{Node}
use Rattle.afs_num.specs.declared.types.Node.TheVariants.{Server}
use Rattle.spec_history.specs.declared.lines.Line.{Line}
use Rattle.spec_history.specs.declared.lines.Line.TheVariants as lines
use Rattle.spec_history.specs.declared.scripts.Script.{Script}
use Rattle.spec_ideal.specs.Tables.{get, Table}
use Rattle.spec_model.proofs.Basics.{both, same_node-refl, same_node-true}
use Rattle.spec_records.specs.LocRecords.{Listed}
use Rattle.spec_rows.specs.Runs.{first_entries, Entry}
use Rattle.spec_runs.specs.NodeRuns.{node_moved, node_start, CellInput, NodeCell, NodeLeads, NodeMoved}
use Rattle.law_walks.specs.Messages.{AllAre}
use Rattle.law_walks.proofs.AllMessages.{all_are_first, next_all}
use Rattle.law_places.specs.Accepting.{cell_behind, speaks_of, is_laid_at, serves_at, accepts_behind_line, accepts_behind_lines, accepts_behind}
use Rattle.law_places.specs.Standing.{changing, AreGoodAt, AreGoodIn, IsGoodAt}
use Rattle.law_places.proofs.Walk.{accepted_as_told, lines_stand_well}
use Rattle.law_stamps.specs.Told.{entries_in, entry_turned, home_by, home_listed, is_database, lines_turned, site_turned, turned_behind}
use Rattle.law_stamps.proofs.ToldWalk.{entries_are_told}
use Rattle.law_families.proofs.Making.{rules, Any, Fits, Made}
use Rattle.law_one_server.specs.Knows.{listed_site, site_by, AreClosed}
use Rattle.law_numbers.specs.Numbers.{IsNumbered}
use Rattle.law_enabling.specs.Enabling.{cut_at, line_behind, VolumesAreEnabledAlone}
use Rattle.law_enabling.proofs.Telling.{are_so, AreSo, IsSo, Opens}

-- ---- words that are the same

server_is : (i j : ℕ) → Server i ≡ Server j → i ≡ j
server_is i j e = cc

some_is : (i j : ℕ) → Some i ≡ Some j → i ≡ j
some_is i j e = cc

line_is : (l k : Line) → Some l ≡ Some k → l ≡ k
line_is l k e = cc

home_is : (o : Option Listed) (i : ℕ) → site_by o ≡ Some i → home_listed o ≡ Some (Server i)
home_is None i is = absurd cc
home_is (Some l) i is = ap home_by is

-- ---- the lines of an entry

-- A volume that accepts stores at a server behind some lines of an entry does so before the entry, or behind it, by an `enable` of that server.
module _ (c : NodeCell) (m : NodeMoved) (volume i : ℕ) where
  abbrev BeforeOrBehind : Bool → Type 0
  BeforeOrBehind was = (was ≡ true) ⊎ Opens c m volume i

  closes : (b was : Bool) → (if b then false else was) ≡ true → was ≡ true
  closes true was h = absurd cc
  closes false was h = h

  enables : (v : ℕ) (n : Node) (was b : Bool) → IsSo c m (lines.Enable v n) → speaks_of volume (Server i) v n ≡ b → (if b then true else was) ≡ true → BeforeOrBehind was
  enables v n was true so is h =
      let q = both (nat_eq v volume) (same_node n (Server i)) is in
      inr (subst (Opens c m volume) (server_is so.0 i (sym so.1.0 ∙ same_node-true n (Server i) q.1)) (subst (λ (w : ℕ). Opens c m w so.0) (eqb-true v volume q.0) so.1.1))
  enables v n was false so is h = inl h

  by_line : (was : Bool) (l : Line) → IsSo c m l → accepts_behind_line volume (Server i) was l ≡ true → BeforeOrBehind was
  by_line was (lines.Enable v n) so h = enables v n was (speaks_of volume (Server i) v n) so refl h
  by_line was (lines.Fence v n) so h = inl (closes (speaks_of volume (Server i) v n) was h)
  by_line was (lines.Vanish v n) so h = inl (closes (speaks_of volume (Server i) v n) was h)
  by_line was l so h = inl h

  by_lines : (was : Bool) (ls : List Line) (k : ℕ) → AreSo c m ls → accepts_behind_lines volume (Server i) was (take k ls) ≡ true → BeforeOrBehind was
  by_lines was ls zero so h = inl h
  by_lines was [] (suc k) so h = inl h
  by_lines was (l ∷ ls) (suc k) so h = by (by_lines (accepts_behind_line volume (Server i) was l) ls k so.1 h)
    where
      by : BeforeOrBehind (accepts_behind_line volume (Server i) was l) → BeforeOrBehind was
      by (inl e) = by_line was l so.0 e
      by (inr o) = inr o

so_at : (c : NodeCell) (m : NodeMoved) (ls : List Line) (k : ℕ) (l : Line) → AreSo c m ls → slice_get ls k ≡ Some l → IsSo c m l
so_at c m [] k l so is = absurd cc
so_at c m (x ∷ ls) zero l so is = subst (IsSo c m) (line_is x l is) so.0
so_at c m (x ∷ ls) (suc k) l so is = so_at c m ls k l so.1 is

here : (volume i : ℕ) → speaks_of volume (Server i) volume (Server i) ≡ true
here volume i = rw (eq-eqb volume volume refl, same_node-refl (Server i)) refl

-- where an `enable` stands, the volume doesn't accept stores at that server
rests_at : (volume i : ℕ) (was under : Bool) (ls : List Line) (k : ℕ) → AreGoodAt volume (Server i) was under ls → slice_get ls k ≡ Some (lines.Enable volume (Server i)) → accepts_behind_lines volume (Server i) was (take k ls) ≡ false
rests_at volume i was under [] k good is = absurd cc
rests_at volume i was under (l ∷ ls) zero good is =
    let its : IsGoodAt volume (Server i) was under (lines.Enable volume (Server i)) = subst (IsGoodAt volume (Server i) was under) (line_is l (lines.Enable volume (Server i)) is) good.0 in its (here volume i)
rests_at volume i was under (l ∷ ls) (suc k) good is = rests_at volume i (accepts_behind_line volume (Server i) was l) (changing (Server i) under l) ls k good.1 is

-- ---- the rest of a run

-- What is known of it, from a cell on, behind which volumes accept stores so, and are located so.
record Known (c : NodeCell) (xs : List CellInput) (es : List Entry) (was : ℕ → ℕ → Bool) (home : ℕ → Option Node) : Type 0 where
  told : (n volume i : ℕ) → accepts_behind volume (Server i) (was volume i) (take n es) ≡ serves_at (cell_behind c (take n xs)) volume i
  sites : (n volume : ℕ) (server : Node) → home_listed (get volume (entries_in (cell_behind c (take n xs)))) ≡ Some server → turned_behind (site_turned volume) (home volume) (take n es) ≡ Some server
  good : (volume i : ℕ) → AreGoodIn volume (Server i) (was volume i) es
  closed : (n : ℕ) → AreClosed (cell_behind c (take n xs))
  sent : AllAre Made Any Fits c

-- and what is to be shown, at each of its lines
record ComesIn (c : NodeCell) (xs : List CellInput) (es : List Entry) (was : ℕ → ℕ → Bool) (home : ℕ → Option Node) (n k volume : ℕ) (server : Node) : Type 0 where
  nowhere : (i : ℕ) → accepts_behind volume (Server i) (was volume i) (cut_at n k es) ≡ false
  told : turned_behind (site_turned volume) (home volume) (cut_at n k es) ≡ Some server
  listed : home_listed (get volume (entries_in (cell_behind c (take n xs)))) ≡ Some server

abbrev OneAt : List Entry → (ℕ → ℕ → Bool) → ℕ → ℕ → ℕ → Type 0
OneAt es was n k volume = (i j : ℕ) → accepts_behind volume (Server i) (was volume i) (cut_at n k es) ≡ true → accepts_behind volume (Server j) (was volume j) (cut_at n k es) ≡ true → i ≡ j

-- ---- its first entry

abbrev was_on : (ℕ → ℕ → Bool) → Entry → ℕ → ℕ → Bool
was_on was e volume i = accepts_behind_lines volume (Server i) (was volume i) e.lines

abbrev home_on : (ℕ → Option Node) → Entry → ℕ → Option Node
home_on home e volume = entry_turned (site_turned volume) (home volume) e

module _ (c : NodeCell) (x : CellInput) (xs : List CellInput) (e : Entry) (es : List Entry) (was : ℕ → ℕ → Bool) (home : ℕ → Option Node) (h : Known c (x ∷ xs) (e ∷ es) was home) (is : e ≡ (node_moved c x).entry) where
  abbrev m : NodeMoved
  m = node_moved c x

  so : AreSo c m e.lines
  so = subst (λ (y : Entry). AreSo c m y.lines) (sym is) (are_so c h.sent x)

  before_named : (volume i : ℕ) → was volume i ≡ true → listed_site c volume ≡ Some i
  before_named volume i w = h.closed 0 volume i (sym (h.told 0 volume i) ∙ w)

  opens_named : (volume i : ℕ) → Opens c m volume i → listed_site c volume ≡ Some i
  opens_named volume i o = ap (λ (t : Table Listed). site_by (get volume t)) (sym o.same) ∙ h.closed 1 volume i o.serves

  -- wherever it accepts stores behind some of the lines
  named : (k volume i : ℕ) → accepts_behind_lines volume (Server i) (was volume i) (take k e.lines) ≡ true → listed_site c volume ≡ Some i
  named k volume i at = by (by_lines c m volume i (was volume i) e.lines k so at)
    where
      by : (was volume i ≡ true) ⊎ Opens c m volume i → listed_site c volume ≡ Some i
      by (inl w) = before_named volume i w
      by (inr o) = opens_named volume i o

  one : (k volume : ℕ) → OneAt (e ∷ es) was zero k volume
  one k volume i j at_i at_j = some_is i j (sym (named k volume i at_i) ∙ named k volume j at_j)

  stays : (k volume : ℕ) (b : Bool) → is_database e.actor ≡ b → b ≡ false → (if b then lines_turned (site_turned volume) (home volume) (take k e.lines) else home volume) ≡ home volume
  stays k volume true is none = absurd cc
  stays k volume false is none = refl

  -- it is enabled at this server, behind some of the lines
  module _ (k volume i : ℕ) (at : slice_get e.lines k ≡ Some (lines.Enable volume (Server i))) (o : Opens c m volume i) where
    there : listed_site c volume ≡ Some i
    there = opens_named volume i o

    listed : home_listed (get volume (entries_in c)) ≡ Some (Server i)
    listed = home_is (get volume (entries_in c)) i there

    nowhere : (j : ℕ) → accepts_behind_lines volume (Server j) (was volume j) (take k e.lines) ≡ false
    nowhere j = by (accepts_behind_lines volume (Server j) (was volume j) (take k e.lines)) refl
      where
        by : (b : Bool) → accepts_behind_lines volume (Server j) (was volume j) (take k e.lines) ≡ b → accepts_behind_lines volume (Server j) (was volume j) (take k e.lines) ≡ false
        by true accepts =
            let same : i ≡ j = some_is i j (sym there ∙ named k volume j accepts) in
            subst (λ (n : ℕ). accepts_behind_lines volume (Server n) (was volume n) (take k e.lines) ≡ false) same (rests_at volume i (was volume i) false e.lines k (h.good volume i).0 at)
        by false accepts = accepts

    comes_at : ComesIn c (x ∷ xs) (e ∷ es) was home zero k volume (Server i)
    comes_at = record {
      nowhere = nowhere;
      told = stays k volume (is_database e.actor) refl (ap (λ (y : Entry). is_database y.actor) is ∙ o.other) ∙ h.sites 0 volume (Server i) listed;
      listed = listed;
    }

  comes : (k volume : ℕ) (server : Node) → slice_get e.lines k ≡ Some (lines.Enable volume server) → ComesIn c (x ∷ xs) (e ∷ es) was home zero k volume server
  comes k volume server at =
      let z : IsSo c m (lines.Enable volume server) = so_at c m e.lines k (lines.Enable volume server) so at in
      subst (ComesIn c (x ∷ xs) (e ∷ es) was home zero k volume) (sym z.1.0) (comes_at k volume z.0 (subst (λ (n : Node). slice_get e.lines k ≡ Some (lines.Enable volume n)) z.1.0 at) z.1.1)

  next : Known m.cell xs es (was_on was e) (home_on home e)
  next = record {
    told = λ n volume i. h.told (suc n) volume i;
    sites = λ n volume server there. h.sites (suc n) volume server there;
    good = λ volume i. (h.good volume i).1;
    closed = λ n. h.closed (suc n);
    sent = next_all Made Any Fits rules c h.sent x;
  }

-- ---- each entry

comes_in : (n k volume : ℕ) (server : Node) (c : NodeCell) (xs : List CellInput) (es : List Entry) (end : NodeCell) (was : ℕ → ℕ → Bool) (home : ℕ → Option Node) → NodeLeads c xs es end → Known c xs es was home → line_behind n k es ≡ Some (lines.Enable volume server) → ComesIn c xs es was home n k volume server
comes_in n k volume server c [] [] end was home leads h at = absurd cc
comes_in n k volume server c [] (e ∷ es) end was home leads h at = absurd leads
comes_in n k volume server c (x ∷ xs) [] end was home leads h at = absurd leads
comes_in zero k volume server c (x ∷ xs) (e ∷ es) end was home leads h at = comes c x xs e es was home h leads.0 k volume server at
comes_in (suc n) k volume server c (x ∷ xs) (e ∷ es) end was home leads h at =
    let z = comes_in n k volume server (node_moved c x).cell xs es end (was_on was e) (home_on home e) leads.1 (next c x xs e es was home h leads.0) at in record { nowhere = z.nowhere; told = z.told; listed = z.listed }

one_at : (n k volume : ℕ) (c : NodeCell) (xs : List CellInput) (es : List Entry) (end : NodeCell) (was : ℕ → ℕ → Bool) (home : ℕ → Option Node) → NodeLeads c xs es end → Known c xs es was home → OneAt es was n k volume
one_at n k volume c [] [] end was home leads h i j at_i at_j = some_is i j (sym (h.closed 0 volume i (sym (h.told 0 volume i) ∙ at_i)) ∙ h.closed 0 volume j (sym (h.told 0 volume j) ∙ at_j))
one_at n k volume c [] (e ∷ es) end was home leads h i j at_i at_j = absurd leads
one_at n k volume c (x ∷ xs) [] end was home leads h i j at_i at_j = absurd leads
one_at zero k volume c (x ∷ xs) (e ∷ es) end was home leads h i j at_i at_j = one c x xs e es was home h leads.0 k volume i j at_i at_j
one_at (suc n) k volume c (x ∷ xs) (e ∷ es) end was home leads h i j at_i at_j = one_at n k volume (node_moved c x).cell xs es end (was_on was e) (home_on home e) leads.1 (next c x xs e es was home h leads.0) i j at_i at_j

-- ---- a run

pub enabled_alone : ((s : Script) (inputs : List CellInput) → IsNumbered s → 1 ≤ s.servers → AreClosed (cell_behind (node_start s) inputs)) → VolumesAreEnabledAlone
enabled_alone closed s inputs history end numbered servers leads =
    let known : Known (node_start s) inputs history (is_laid_at s) (λ volume. home_listed (get volume (first_entries s.volumes))) = record {
      told = λ n volume i. accepted_as_told s inputs history end leads n volume i;
      sites = λ n volume server there. entries_are_told.sites s inputs history end leads n volume server there;
      good = λ volume i. lines_stand_well s inputs history end leads volume i;
      closed = λ n. closed s (take n inputs) numbered servers;
      sent = all_are_first Made Any Fits rules s;
    } in
    record {
      free = λ n k volume server at.
          let z = comes_in n k volume server (node_start s) inputs history end (is_laid_at s) (λ v. home_listed (get v (first_entries s.volumes))) leads known at in record { nowhere = z.nowhere; told = z.told; listed = z.listed };
      one = λ n k volume. one_at n k volume (node_start s) inputs history end (is_laid_at s) (λ v. home_listed (get v (first_entries s.volumes))) leads known;
    }
