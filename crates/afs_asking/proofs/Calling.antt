-- What an act asks has a spelling, and is for a node.
use Rattle.std.proofs.Common.{◌≡◌, ◌≤◌, ◌-◌, ℕ, zero, suc, Bool, true, false, cond, List, [], ◌∷◌, ◌++◌, map, take, length, refl, sym, subst, arith}
use Rattle.std.specs.List.{All}
use Rattle.std.proofs.lemmas.Bool.{eqb-true}
use Rattle.std.proofs.lemmas.List.Elements.{All-head, All-tail, All-nil, All-cons}
use Rattle.afs_num.specs.Nodes.{IsNode, same_node}
use Rattle.afs_num.specs.declared.types.Node.{Node}
use Rattle.afs_num.specs.declared.types.Node.TheVariants as nodes
use Rattle.afs_num.specs.declared.messages.Call.TheVariants as ask
use Rattle.spec_shape.specs.Rows.{IsWithin}
use Rattle.spec_shape.specs.Tables.{IsCount}
use Rattle.spec_model.specs.CellRows.{cell_calls}
use Rattle.spec_rows.specs.States.{Gift}
use Rattle.spec_rows.specs.Going as going
use Rattle.spec_rows.specs.Going.{Copy, Going, Need, backup_end, copy_of, next, readonly_end, without_end}
use Rattle.spec_history.specs.declared.acts.Operand.{Operand}
use Rattle.spec_history.specs.declared.acts.Operand.TheVariants as operands
use Rattle.spec_rows.specs.ClientRow.{batch, call_by, first_server_of, given_promise, gifts_to, in_order, question}
use Rattle.afs_acts.specs.Acts.{FitsCalls, IsShortOperand, FitsNeed}
use Rattle.afs_acts.proofs.Fitting.{next_fits}
use Rattle.afs_entries.proofs.Batches.{few}
use Rattle.afs_entries.proofs.Removing.{map_length}
use Rattle.afs_asking.specs.Asking.{IsGift}

counted : (n : ℕ) → n ≤ 50 → IsCount 50 n
counted n h = (h, omega (arith, h))

fids_few : (gifts : List Gift) → length (map (λ (g : Gift). g.fid) (batch gifts)) ≤ 50
fids_few gifts = subst (λ (n : ℕ). n ≤ 50) (sym (map_length (λ (g : Gift). g.fid) (batch gifts))) (few gifts).0

promises_few : (gifts : List Gift) → length (map given_promise (batch gifts)) ≤ 50
promises_few gifts = subst (λ (n : ℕ). n ≤ 50) (sym (map_length given_promise (batch gifts))) (few gifts).0

needed_within : (gifts : List Gift) (need : Need) → FitsNeed need → IsWithin cell_calls (ask.File (call_by gifts need))
needed_within gifts (going.reads f) h = (tt, (tt, (tt, tt)))
needed_within gifts (going.reads_status f) h = (tt, tt)
needed_within gifts (going.reads_statuses fs) h = (counted (length fs) h, tt)
needed_within gifts (going.reads_rights f) h = (tt, tt)
needed_within gifts (going.asks_for c) h = h
needed_within gifts going.gives_back h = (counted (length (map (λ (g : Gift). g.fid) (batch gifts))) (fids_few gifts), (counted (length (map given_promise (batch gifts))) (promises_few gifts), tt))
needed_within gifts (going.locates o) h = tt
needed_within gifts (going.answers n) h = tt

-- what an act needs within its limits
pub need_fits : (g : Going) (need : Need) → FitsCalls g.act → need ≡ next g → FitsNeed need
need_fits g need s q = subst FitsNeed (sym q) (next_fits g s)

-- the call of an act within its limits
pub call_within : (g : Going) (gifts : List Gift) → FitsCalls g.act → IsWithin cell_calls (ask.File (call_by gifts (next g)))
call_within g gifts s = needed_within gifts (next g) (next_fits g s)

pub first_is_node : (gs : List Gift) → All IsGift gs → IsNode (first_server_of gs)
first_is_node [] h = refl
first_is_node (g ∷ gs) h = All-head IsGift g gs h

-- ---- what is given back goes to nodes

same_number : (n : ℕ) (s : Node) → IsNode (nodes.Server n) → same_node s (nodes.Server n) ≡ true → IsNode s
same_number n nodes.Loc h e = absurd cc
same_number n (nodes.Server m) h e = let same : m ≡ n = eqb-true m n e in subst (λ (k : ℕ). IsNode (nodes.Server k)) (sym same) h
same_number n (nodes.Client m) h e = absurd cc
same_number n (nodes.Admin m) h e = absurd cc

to_one_by : (b : Bool) (n : ℕ) (g : Gift) (rest : List Gift) → IsNode (nodes.Server n) → same_node g.server (nodes.Server n) ≡ b → All IsGift rest → All IsGift (cond b (g ∷ rest) rest)
to_one_by true n g rest h e r = All-cons IsGift g rest (same_number n g.server h e) r
to_one_by false n g rest h e r = r

to_one : (n : ℕ) (gs : List Gift) → IsNode (nodes.Server n) → All IsGift (gifts_to gs n)
to_one n [] h = All-nil IsGift
to_one n (g ∷ gs) h = to_one_by (same_node g.server (nodes.Server n)) n g (gifts_to gs n) h refl (to_one n gs h)

both : (xs ys : List Gift) → All IsGift xs → All IsGift ys → All IsGift (xs ++ ys)
both [] ys h k = k
both (x ∷ xs) ys h k = All-cons IsGift x (xs ++ ys) (All-head IsGift x xs h) (both xs ys (All-tail IsGift x xs h) k)

pub in_order_nodes : (gs : List Gift) → All IsGift (in_order gs)
in_order_nodes gs =
    both (gifts_to gs 1) _ (to_one 1 gs refl)
    (both (gifts_to gs 2) _ (to_one 2 gs refl)
    (both (gifts_to gs 3) _ (to_one 3 gs refl)
    (both (gifts_to gs 4) _ (to_one 4 gs refl)
    (both (gifts_to gs 5) _ (to_one 5 gs refl)
    (both (gifts_to gs 6) _ (to_one 6 gs refl)
    (both (gifts_to gs 7) _ (to_one 7 gs refl)
    (both (gifts_to gs 8) _ (to_one 8 gs refl) (All-nil IsGift))))))))

-- ---- a question has a spelling

take_few : (n : ℕ) (xs : List ℕ) → length (take n xs) ≤ length xs
take_few zero xs = omega arith
take_few (suc n) [] = omega arith
take_few (suc n) (x ∷ xs) = let le = take_few n xs in omega (arith, le)

base_few : (copy : Copy) (name : List ℕ) → length (without_end copy name) ≤ length name
base_few going.itself name = omega arith
base_few going.read_only name = take_few (length name - length readonly_end) name
base_few going.backup name = take_few (length name - length backup_end) name

pub question_within : (o : Operand) → IsShortOperand o → IsWithin cell_calls (ask.Location (question o))
question_within (operands.Path p) h = let le = base_few (copy_of p.volume) p.volume in ((omega (arith, h, le), omega (arith, h, le)), tt)
question_within (operands.Fid f) h = (tt, tt)
