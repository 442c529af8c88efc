-- A message that a node reads is one that stands there.
use Rattle.std.specs.Prelude.{◌≡◌, ℕ, List, [], ◌∷◌, Bool, true, false, Result, Ok, Err, ◌==◌, ◌||◌, if◌then◌else◌}
use Rattle.std.proofs.Common.{refl, ap, sym, subst, ◌∙◌}
use Rattle.std.proofs.lemmas.Bool.{eqb-true}
use Rattle.afs_num.specs.declared.messages.Message.{Message}
use Rattle.afs_num.specs.declared.messages.Received.TheVariants.{Unserved, Whole}
use Rattle.afs_num.specs.declared.types.Half.{Half}
use Rattle.afs_num.specs.declared.types.Half.TheVariants as halves
use Rattle.afs_num.specs.declared.types.Head.{Head}
use Rattle.afs_xdr.specs.declared.faults.XdrFault.{XdrFault}
use Rattle.spec_shape.specs.Tables.{is_among}
use Rattle.spec_model.specs.CellRows.{all_calls, cell_calls}
use Rattle.spec_model.specs.Heads.{head_at}
use Rattle.spec_model.specs.Messages.{called_at, read_behind_head, read_body, received, received_by, received_call}
use Rattle.spec_model.specs.Rpc.{asked_at}

-- ---- calls that are all calls of the cell

among_by : (t : Bool) (n x : ℕ) (xs : List ℕ) → (x == n) ≡ t → is_among all_calls x ≡ true → (is_among xs n ≡ true → is_among all_calls n ≡ true) → is_among (x ∷ xs) n ≡ true → is_among all_calls n ≡ true
among_by true n x xs same there rest among = subst (λ (k : ℕ). is_among all_calls k ≡ true) (eqb-true x n same) there
among_by false n x xs other there rest among = rest (subst (λ (t : Bool). (t || is_among xs n) ≡ true) other among)

abbrev pub AreAmong : List ℕ → Type 0
AreAmong [] = Unit {0}
AreAmong (x ∷ xs) = (is_among all_calls x ≡ true) × AreAmong xs

pub among_all : (n : ℕ) (xs : List ℕ) → AreAmong xs → is_among xs n ≡ true → is_among all_calls n ≡ true
among_all n [] are among = absurd cc
among_all n (x ∷ xs) are among = among_by (x == n) n x xs refl are.0 (among_all n xs are.1) among

not_whole : (head : Head) (m : Message) → Unserved head ≡ Whole m → ⊥
not_whole head m e = absurd cc

-- ---- a node that serves calls of the cell
module _ (served : List ℕ) (cell : (n : ℕ) → is_among served n ≡ true → is_among all_calls n ≡ true) where
  call_stands : (t : Bool) (head : Head) (rest : List ℕ) (m : Message) → is_among served head.opcode ≡ t → called_at served head rest ≡ Whole m → called_at all_calls head rest ≡ Whole m
  call_stands true head rest m among is =
      let read : called_at served head rest ≡ received_call head (asked_at cell_calls head.opcode rest) = ap (λ (t : Bool). if t then received_call head (asked_at cell_calls head.opcode rest) else Unserved head) among in
      ap (λ (t : Bool). if t then received_call head (asked_at cell_calls head.opcode rest) else Unserved head) (cell head.opcode among) ∙ (sym read ∙ is)
  call_stands false head rest m among is =
      absurd (not_whole head m (sym (ap (λ (t : Bool). if t then received_call head (asked_at cell_calls head.opcode rest) else Unserved head) among) ∙ is))

  body_stands : (half : Half) (head : Head) (rest : List ℕ) (m : Message) → read_body served head half rest ≡ Whole m → read_body all_calls head half rest ≡ Whole m
  body_stands halves.Call head rest m is = call_stands (is_among served head.opcode) head rest m refl is
  body_stands halves.Reply head rest m is = is
  body_stands halves.Boot head rest m is = is

  behind_head : (h : Result (Head × List ℕ) XdrFault) (m : Message) → read_behind_head served h ≡ Whole m → read_behind_head all_calls h ≡ Whole m
  behind_head (Ok h) m is = body_stands h.0.half h.0 h.1 m is
  behind_head (Err e) m is = is

  pub stands_by : (bytes : List ℕ) (m : Message) → received_by served bytes ≡ Whole m → received bytes ≡ Whole m
  unfolding received_by
  stands_by bytes m is = behind_head (head_at bytes) m is
