-- No key changes anything twice: each change is told by the one server that its key's call was sent to, and there keys are in order.
use Rattle.std.proofs.Common.{◌≡◌, ◌<◌, ℕ, inl, inr, true, List, [], ◌∷◌, ◌++◌, refl, sym, ap, subst, ◌∙◌, append_assoc, arith}
use Rattle.std.specs.Prelude.{⊤}
use Rattle.std.specs.List.{AllByRecursion}
use Rattle.afs_num.specs.declared.histories.Actor.{Actor}
use Rattle.afs_num.specs.declared.types.Head.{Head}
use Rattle.afs_num.specs.declared.types.Key.{Key}
use Rattle.afs_num.specs.declared.types.Node.{Node}
use Rattle.afs_num.specs.declared.types.Node.TheVariants.{Admin, Client, Loc, Server}
use Rattle.spec_history.specs.declared.lines.Line.{Line}
use Rattle.spec_history.specs.declared.lines.Line.TheVariants as lines
use Rattle.spec_model.proofs.Basics.{both}
use Rattle.spec_model.specs.Calls.{key_of}
use Rattle.spec_rows.specs.Runs.{Entry}
use Rattle.spec_rows.specs.ServerRow.{is_client}
use Rattle.spec_runs.specs.NodeRuns.{node_moved, node_start, CellInput, NodeCell, NodeLeads, NodeMoved}
use Rattle.law_walks.proofs.Seats.{found_at}
use Rattle.law_legal.specs.Ideal.{set_up_entry}
use Rattle.law_legal.specs.Legal.{IsNew}
use Rattle.law_legal.specs.Once.{past_of, AreOnce}
use Rattle.law_legal.specs.Past.{lines_of, onto, HasChangeBy, IsLater, IsLatest}
use Rattle.law_places.specs.Accepting.{cell_behind}
use Rattle.law_places.proofs.Turning.{all_lines}
use Rattle.law_keys.specs.Asked.{WasSent}
use Rattle.law_keys.specs.Once.{AreInOrder, IsNamed}
use Rattle.law_keys.specs.Ran.{ran_by, ran_in, RanCall}
use Rattle.law_keys.proofs.Sending.{ran_sent}
use Rattle.law_keys.proofs.Walk.{in_order}
use Rattle.law_latest.specs.Latest.{FollowInOrder, StandInOrder}
use Rattle.law_latest.proofs.Changing.{TellsOne}
use Rattle.law_latest.proofs.Order.{changes_later, tells, EntryTells}
use Rattle.law_latest.proofs.ServerLines.{is_no_change, NoChange}
use Rattle.law_once.specs.Changes.{ChangesAreOnce}
use Rattle.law_once.proofs.Asking.{knows_asks, IsKnown, Knows}

-- ---- each change is told by the callee of its key

-- of this line, if it tells a change
abbrev IsByCallee : (Key → Node) → Line → Type 0
IsByCallee callee (lines.Change server k count) = server ≡ callee k
IsByCallee callee l = ⊤

abbrev AreByCallee : (Key → Node) → List Line → Type 0
AreByCallee callee ls = AllByRecursion (IsByCallee callee) ls

-- and of the calls that ran
abbrev RanAtCallee : (Key → Node) → RanCall → Type 0
RanAtCallee callee r = is_client r.head.from ≡ true → r.callee ≡ callee (key_of r.head)

plain_line : (callee : Key → Node) (l : Line) → is_no_change l ≡ true → IsByCallee callee l
plain_line callee (lines.Change server k count) h = absurd cc
plain_line callee l h = tt

plain_by : (callee : Key → Node) (ls : List Line) → NoChange ls → AreByCallee callee ls
plain_by callee [] h = tt
plain_by callee (l ∷ ls) h = let q = both (is_no_change l) (all_lines is_no_change ls) h in (plain_line callee l q.0, plain_by callee ls q.1)

one_by : (callee : Key → Node) (me : Node) (k : Key) (count : ℕ) (front rest : List Line) → me ≡ callee k → NoChange front → NoChange rest → AreByCallee callee (front ++ (lines.Change me k count ∷ rest))
one_by callee me k count [] rest is h r = (is, plain_by callee rest r)
one_by callee me k count (l ∷ front) rest is h r = let q = both (is_no_change l) (all_lines is_no_change front) h in (plain_line callee l q.0, one_by callee me k count front rest is q.1 r)

told_by : (callee : Key → Node) (me : Node) (new : List RanCall) (ls : List Line) → AllByRecursion (RanAtCallee callee) new → TellsOne me new ls → AreByCallee callee ls
told_by callee me new ls h t =
    let ran : RanAtCallee callee t.r = (subst (AllByRecursion (RanAtCallee callee)) t.ran h).0 in
    subst (AreByCallee callee) (sym t.split) (one_by callee me t.key t.count t.front t.rest (sym t.callee ∙ (ran t.client ∙ ap callee t.under)) t.before t.after)

entry_by : (callee : Key → Node) (m : NodeMoved) (new : List RanCall) → AllByRecursion (RanAtCallee callee) new → EntryTells m new → AreByCallee callee m.entry.lines
entry_by callee m new h (inl none) = plain_by callee m.entry.lines none
entry_by callee m new h (inr t) = told_by callee (Server t.server) new m.entry.lines h t.one

-- ---- calls that ran were sent to their callees

client_of : (n : Node) → is_client n ≡ true → (i : ℕ) × (n ≡ Client i)
client_of (Client i) h = (i, refl)
client_of (Server i) h = absurd cc
client_of (Admin i) h = absurd cc
client_of Loc h = absurd cc

module _ (end : NodeCell) (k : Knows end) where
  abbrev callee_of_key : Key → Node
  callee_of_key key = (k.asked key).callee

  ran_at : (r : RanCall) → WasSent end r → IsNamed r → RanAtCallee callee_of_key r
  ran_at r sent named client =
      let c = client_of r.head.from client in
      let known = found_at (IsKnown k.asked end.clients) sent.place end.sent sent.message k.asks.calls sent.at c.0 (ap (λ (h : Head). h.from) sent.head ∙ c.1) sent.is_call in
      sym named.callee ∙ (sym (ap (λ (h : Head). h.to) sent.head) ∙ (known.1.0 ∙ ap (λ (h : Head). callee_of_key (key_of h)) sent.head))

  all_at : (before rs : List RanCall) → AllByRecursion (WasSent end) rs → AreInOrder before rs → AllByRecursion (RanAtCallee callee_of_key) rs
  all_at before [] sent order = tt
  all_at before (r ∷ rs) sent order = (ran_at r sent.0 order.0.1, all_at (r ∷ before) rs sent.1 order.1)

all_front : {A : Type 0} (P : A → Type 0) (xs ys : List A) → AllByRecursion P (xs ++ ys) → AllByRecursion P xs × AllByRecursion P ys
all_front {A} P [] ys h = (tt, h)
all_front {A} P (x ∷ xs) ys h = let q = all_front P xs ys h.1 in ((h.0, q.0), q.1)

-- ---- so no earlier change has the key

not_itself : (k : Key) → IsLater k k → ⊥
not_itself k (inl h) = absurd (omega arith)
not_itself k (inr h) = let x : k.number < k.number = h.1 in absurd (omega arith)

behind : (s : Node) (k : Key) (l : Line) (ls : List Line) → HasChangeBy s k ls → HasChangeBy s k (l ∷ ls)
behind s k (lines.Change server key count) ls h = inr h
behind s k l ls h = h

module _ (callee : Key → Node) (server : Node) (k : Key) (is : server ≡ callee k) where
  new_at : (l : Line) (older tail : List Line) → (HasChangeBy server k (l ∷ (older ++ tail)) → ⊥) → IsByCallee callee l → IsNew k older → IsNew k (l ∷ older)
  new_at (lines.Change other key count) older tail never told new = (λ same. never (inl (told ∙ (sym (ap callee same) ∙ sym is), sym same)), new)
  new_at l older tail never told new = new

  new_over : (older tail : List Line) → (HasChangeBy server k (older ++ tail) → ⊥) → AreByCallee callee older → IsNew k older
  new_over [] tail never told = tt
  new_over (l ∷ older) tail never told = new_at l older tail never told.0 (new_over older tail (λ h. never (behind server k l (older ++ tail) h)) told.1)

  is_new : (older tail : List Line) → IsLatest server k (older ++ tail) → AreByCallee callee older → IsNew k older
  is_new older tail latest told = new_over older tail (λ h. not_itself k (latest k h refl)) told

-- ---- over the lines of an entry, with the lines before it, and those of the set-up at the end

module _ (callee : Key → Node) (who : Actor) (past : List Entry) (base tail : List Line) (is : lines_of past ≡ base ++ tail) where
  one_once : (own : List Line) (l : Line) (next : List Line) → StandInOrder who past own (l ∷ next) → IsByCallee callee l → AreByCallee callee (own ++ base) → AreOnce (own ++ base) → AreOnce (l ∷ (own ++ base))
  one_once own (lines.Change server k count) next good told before once =
      (is_new callee server k told (own ++ base) tail (subst (IsLatest server k) (ap (λ (ls : List Line). own ++ ls) is ∙ sym (append_assoc own base tail)) good.0.latest) before, once)
  one_once own l next good told before once = once

  entry_once : (own ls : List Line) → StandInOrder who past own ls → AreByCallee callee ls → AreByCallee callee (own ++ base) → AreOnce (own ++ base) → AreByCallee callee (onto (own ++ base) ls) × AreOnce (onto (own ++ base) ls)
  entry_once own [] good told before once = (before, once)
  entry_once own (l ∷ ls) good told before once = entry_once (l ∷ own) ls good.1 told.1 (told.0, before) (one_once own l ls good told.0 before once)

onto_front : (base tail ls : List Line) → onto (base ++ tail) ls ≡ onto base ls ++ tail
onto_front base tail [] = refl
onto_front base tail (l ∷ ls) = onto_front (l ∷ base) tail ls

-- ---- a run

-- of these entries, which stand behind others
follows : (callee : Key → Node) (c : NodeCell) (xs : List CellInput) (es : List Entry) (end : NodeCell) (past older : List Entry) (tail : List Line) → NodeLeads c xs es end → AllByRecursion (RanAtCallee callee) (ran_in c xs) → lines_of past ≡ lines_of older ++ tail
    → FollowInOrder past es → AreByCallee callee (lines_of older) → AreOnce (lines_of older) → AreOnce (lines_of (past_of older es))
follows callee c [] [] end past older tail leads ran is good before once = once
follows callee c [] (e ∷ es) end past older tail leads ran is good before once = absurd leads
follows callee c (x ∷ xs) [] end past older tail leads ran is good before once = absurd leads
follows callee c (x ∷ xs) (e ∷ es) end past older tail leads ran is good before once =
    let m : NodeMoved = node_moved c x in
    let q = all_front (RanAtCallee callee) (ran_by c x) (ran_in m.cell xs) ran in
    let told : AreByCallee callee e.lines = subst (λ (y : Entry). AreByCallee callee y.lines) (sym leads.0) (entry_by callee m (ran_by c x) q.0 (tells c x)) in
    let z = entry_once callee e.actor past (lines_of older) tail is [] e.lines good.0 told before once in
    follows callee m.cell xs es end (e ∷ past) (e ∷ older) tail leads.1 q.1 (ap (λ (ls : List Line). onto ls e.lines) is ∙ onto_front (lines_of older) tail e.lines) good.1 z.0 z.1

pub changes_once : ChangesAreOnce
changes_once s inputs history end leads =
    let c : NodeCell = cell_behind (node_start s) inputs in
    let k : Knows c = knows_asks s inputs in
    follows (callee_of_key c k) (node_start s) inputs history end (set_up_entry s ∷ []) [] (lines_of (set_up_entry s ∷ [])) leads
    (all_at c k [] (ran_in (node_start s) inputs) (ran_sent s inputs) (in_order s inputs)) refl (changes_later s inputs history end leads) tt tt
