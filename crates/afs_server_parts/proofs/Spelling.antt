-- A server's own calls have a spelling.
use Rattle.std.proofs.Common.{◌≤◌, ℕ, suc, List, [], ◌∷◌, Option, Some, None, map, length, refl, arith}
use Rattle.afs_num.specs.Nodes.{IsNode}
use Rattle.afs_num.specs.declared.types.Fid.{Fid}
use Rattle.afs_num.specs.declared.types.Node.{Node}
use Rattle.afs_num.specs.declared.types.Half.TheVariants.{Call}
use Rattle.afs_num.specs.declared.messages.Call.TheVariants as ask
use Rattle.afs_num.specs.declared.messages.Carried.TheVariants as carried
use Rattle.spec_model.specs.Messages.{HasSpelling, IsSoundCarried}
use Rattle.spec_breaks.specs.declared.types.OwedBreak.{OwedBreak}
use Rattle.spec_rows.specs.Callbacks.{break_message, breaks_call, breaks_opcode, broken_until, break_call, fid_before, fids_of, opcode_for}
use Rattle.spec_rows.specs.States.{BackCall}

before_few : (o : Option Fid) (fs : List Fid) (n : ℕ) → length fs ≤ n → length (fid_before o fs) ≤ suc n
before_few None fs n le = omega (arith, le)
before_few (Some f) fs n le = omega (arith, le)

fids_few : (os : List OwedBreak) → length (fids_of os) ≤ length os
fids_few [] = omega arith
fids_few (o ∷ os) = before_few o.what (fids_of os) (length os) (fids_few os)

callbacks_few : (os : List OwedBreak) → length (map broken_until os) ≤ length os
callbacks_few [] = omega arith
callbacks_few (o ∷ os) = let le = callbacks_few os in omega (arith, le)

carried_by : (what : Option Fid) (os : List OwedBreak) → length os ≤ 50 → IsSoundCarried Call (opcode_for what) (carried.Call [] (ask.File (break_call what os)))
carried_by None os few = (refl, refl, omega arith, tt)
carried_by (Some f) os few =
    let fids = fids_few os in
    let callbacks = callbacks_few os in
    (refl, refl, omega arith, (omega (arith, few, fids), (omega (arith, few, callbacks), tt)))

carried_for : (os : List OwedBreak) → length os ≤ 50 → IsSoundCarried Call (breaks_opcode os) (carried.Call [] (ask.File (breaks_call os)))
carried_for [] few = (refl, refl, omega arith, (omega arith, (omega arith, tt)))
carried_for (o ∷ os) few = carried_by o.what (o ∷ os) few

pub break_spelled : (me : Node) (boot : ℕ) (n : Node) (known : ℕ) (c : BackCall) → IsNode me → IsNode n → length c.content ≤ 50 → HasSpelling (break_message me boot n known c)
break_spelled me boot n known c is_me is_n few = ((is_me, is_n), carried_for c.content few)
