use Rattle.std.proofs.Common.{◌≡◌, ◌+◌, ◌-◌, List, ℕ, length, Err, arith, ap, ◌∙◌, length-append}
use Rattle.spec_ideal.specs.AccessLists.{bad_from, acl_at}
use Rattle.spec_ideal.proofs.AccessLists.{read_is_text, bad_is_near, IsNear}
use Rattle.afs_acl.specs.Reading.{IsBadAt}
use Rattle.afs_acl.proofs.acl.Acl.parse.Goals as goal

-- the bytes before the bad one
sizes : (text rest : List ℕ) (n : IsNear 2000 text rest) → length text ≡ length n.front + length rest
sizes text rest n = ap (λ (xs : List ℕ). length xs) n.text ∙ length-append n.front rest

bad_at : (text rest : List ℕ) → acl_at text ≡ Err (bad_from rest) → IsBadAt text (length text - length rest) (acl_at text)
bad_at text rest e =
    let n = bad_is_near text rest e in
    record { front = n.front; rest = rest; text = n.text; bad = e; offset = omega (arith, sizes text rest n) }

pub invariant_of-result : goal.invariant_of-result
invariant_of-result c = (read_is_text c.args.text.now c.in-Ok.list c.in-Ok.ensures).0

pub overflow_sub-result : goal.overflow_sub-result
overflow_sub-result c = omega (arith, sizes c.args.text.now c.in-Err-BadFrom.rest.now (bad_is_near c.args.text.now c.in-Err-BadFrom.rest.now (rw c.in-Err-BadFrom.field-0-is at c.in-Err-BadFrom.ensures)))

pub overflow_cast-result : goal.overflow_cast-result
overflow_cast-result c =
    let n = bad_is_near c.args.text.now c.in-Err-BadFrom.rest.now (rw c.in-Err-BadFrom.field-0-is at c.in-Err-BadFrom.ensures) in
    omega (arith, sizes c.args.text.now c.in-Err-BadFrom.rest.now n, n.short)

pub returns-in-Ok-clause-spelled : goal.returns-in-Ok-clause-spelled
returns-in-Ok-clause-spelled c = (read_is_text c.args.text.now c.in-Ok.list c.in-Ok.ensures).1

pub returns-in-Err-BadFrom-clause-value : goal.returns-in-Err-BadFrom-clause-value
returns-in-Err-BadFrom-clause-value c = bad_at c.args.text.now c.in-Err-BadFrom.rest.now (rw c.in-Err-BadFrom.field-0-is at c.in-Err-BadFrom.ensures)
