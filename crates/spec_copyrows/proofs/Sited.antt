-- What becomes of a step of the client's row, by whether it makes a call.
use Rattle.std.proofs.Common.{◌≡◌, ◌<◌, ◌≤◌, ℕ, ◌+◌, Bool, true, false, cond, List, Option, Some, None, refl, sym, ap, arith, ltb-true, ltb-false, ◌∙◌}
use Rattle.std.specs.Prelude.{nat_lt}
use Rattle.spec_history.specs.declared.lines.Line.{Line}
use Rattle.afs_num.specs.declared.types.Node.{Node}
use Rattle.spec_rows.specs.ClientRow.{calls_step}
use Rattle.spec_rows.specs.Going.{ClientState, Going}
use Rattle.spec_rows.specs.Steps.{Step}
use Rattle.spec_copyrows.specs.Sites.{as_it_is, asked_since, round_of, sited, sited_by, sited_in, with_client, CopyState}

-- no number is below itself, and the next one is above it
not_below : (n : ℕ) (b : Bool) → nat_lt n n ≡ b → b ≡ false
not_below n true e = let below : n < n = ltb-true n n e in absurd (omega arith)
not_below n false e = refl

next_above : (n : ℕ) (b : Bool) → nat_lt n (n + 1) ≡ b → b ≡ true
next_above n true e = refl
next_above n false e = let above : n + 1 ≤ n = ltb-false n (n + 1) e in absurd (omega arith)

either_none : (b : Bool) (o : Option Going) → o ≡ None → cond b o None ≡ None
either_none true o e = e
either_none false o e = refl

-- it makes no call: its number stays
none_since : (last : ℕ) (k : ClientState) → k.last ≡ last → asked_since last k ≡ None
none_since last k same = ap (λ (b : Bool). cond b k.running None) (ap (nat_lt last) same ∙ not_below last (nat_lt last last) refl)

pub still_sited : (me : Node) (c : CopyState) (s : Step ClientState) → s.state.last ≡ c.client.last → sited me c s ≡ as_it_is c s
still_sited me c s same = ap (sited_by me c s) (none_since c.client.last s.state same)

-- or no act runs behind it: it is answered, or waits for the location database
pub rests_sited : (me : Node) (c : CopyState) (s : Step ClientState) → s.state.running ≡ None → sited me c s ≡ as_it_is c s
rests_sited me c s none = ap (sited_by me c s) (either_none (nat_lt c.client.last s.state.last) s.state.running none)

-- it makes a call, in a round or in none
pub calls_sited : (me : Node) (c : CopyState) (k : ClientState) (act : Going) (front : List Line → List Line) → k.last ≡ c.client.last → sited me c (calls_step me k act front) ≡ sited_in me c (calls_step me k act front) act (round_of (with_client c k) act)
calls_sited me c k act front same =
    ap (λ (b : Bool). sited_by me c (calls_step me k act front) (cond b (Some act) None))
    (ap (λ (n : ℕ). nat_lt n (k.last + 1)) (sym same) ∙ next_above k.last (nat_lt k.last (k.last + 1)) refl)
