-- What a volume server's step withdraws, and what it sends.
use Rattle.std.proofs.Common.{◌≡◌, ◌≤◌, ◌<◌, ◌+◌, ℕ, Bool, true, false, cond, List, [], ◌∷◌, ◌++◌, length, Option, Some, None, refl, sym, ap, subst, ◌∙◌, arith}
use Rattle.std.specs.Prelude.{nat_lt}
use Rattle.std.specs.List.{All}
use Rattle.std.specs.Ordering.{is_lt}
use Rattle.std.proofs.lemmas.List.Elements.{All-cons, All-filter, All-head, All-nil, All-tail}
use Rattle.afs_num.specs.Fids.{fid_order}
use Rattle.afs_num.specs.declared.messages.Message.{Message}
use Rattle.spec_breaks.specs.Promises.{by_fid, expired, hits_on, promise_on_volume, lasting, owes_from, promise_put, Lists}
use Rattle.spec_breaks.specs.declared.types.OwedBreak.{OwedBreak}
use Rattle.spec_breaks.specs.declared.types.Promise.{Promise}
use Rattle.spec_rows.specs.Callbacks.{no_turn}
use Rattle.spec_rows.specs.States.{Backs}
use Rattle.spec_volrows.specs.VolSteps.{owes_of}
use Rattle.afs_server_parts.specs.Turning.{backs_with, sent_turns, IsTurn}
use Rattle.afs_server_parts.specs.declared.turns.Turn.{Turn}
use Rattle.afs_server_parts.proofs.Turning.{backs_of}
use Rattle.afs_promise.proofs.Lists.{by_fid_long}
use Rattle.afs_callbacks.specs.Answering.{with_lists}
use Rattle.afs_callbacks.specs.Besides.{promises_on}
use Rattle.afs_callbacks.specs.States.{IsPromiseToNode}
use Rattle.afs_callbacks.proofs.Withdrawn.{filter_few}

pub owes_on : (volume : Option ℕ) (l : Lists) → owes_from l.last_owed (promises_on volume l.promises) ≡ owes_of volume l
owes_on None l = refl
owes_on (Some id) l = refl

-- ---- they are no more than all

on_few : (volume : Option ℕ) (ps : List Promise) → length (promises_on volume ps) ≤ length ps
on_few None ps = omega arith
on_few (Some id) ps =
    let all = by_fid_long (hits_on id ps) in
    let few = filter_few (promise_on_volume id) ps in
    omega (arith, all, few)

pub on_draws : (volume : Option ℕ) (now : ℕ) (l : Lists) (ps : List Promise) → ps ≡ promises_on volume (lasting now l.promises) → l.last_owed + length l.promises < 4000000000 → l.last_owed + length ps < 4000000000
on_draws volume now l ps is draws =
    let long = ap length is in
    let few = on_few volume (lasting now l.promises) in
    let less = filter_few (λ (p : Promise). nat_lt now p.expiry) l.promises in
    omega (arith, long, few, less, draws)

pub expired_draws : (now : ℕ) (l m : Lists) → m ≡ expired now l → l.last_owed + length l.promises < 4000000000 → m.last_owed + length m.promises < 4000000000
expired_draws now l m is draws =
    let less = filter_few (λ (p : Promise). nat_lt now p.expiry) l.promises in
    subst (λ (k : Lists). k.last_owed + length k.promises < 4000000000) (sym is) (omega (arith, less, draws))

-- ---- and to the same nodes

placed_by : (t : Bool) (p q : Promise) (qs rest : List Promise) → IsPromiseToNode p → All IsPromiseToNode (q ∷ qs) → All IsPromiseToNode rest → All IsPromiseToNode (cond t (q ∷ rest) (p ∷ q ∷ qs))
placed_by true p q qs rest one all later = All-cons IsPromiseToNode q rest (All-head IsPromiseToNode q qs all) later
placed_by false p q qs rest one all later = All-cons IsPromiseToNode p (q ∷ qs) one all

placed_to_nodes : (p : Promise) (qs : List Promise) → IsPromiseToNode p → All IsPromiseToNode qs → All IsPromiseToNode (promise_put p qs)
placed_to_nodes p [] one all = All-cons IsPromiseToNode p [] one all
placed_to_nodes p (q ∷ qs) one all = placed_by (is_lt (fid_order q.fid p.fid)) p q qs (promise_put p qs) one all (placed_to_nodes p qs one (All-tail IsPromiseToNode q qs all))

by_fid_to_nodes : (ps : List Promise) → All IsPromiseToNode ps → All IsPromiseToNode (by_fid ps)
by_fid_to_nodes [] all = all
by_fid_to_nodes (p ∷ ps) all = placed_to_nodes p (by_fid ps) (All-head IsPromiseToNode p ps all) (by_fid_to_nodes ps (All-tail IsPromiseToNode p ps all))

on_to_nodes : (volume : Option ℕ) (ps : List Promise) → All IsPromiseToNode ps → All IsPromiseToNode (promises_on volume ps)
on_to_nodes None ps all = All-nil IsPromiseToNode
on_to_nodes (Some id) ps all = by_fid_to_nodes (hits_on id ps) (All-filter (promise_on_volume id) IsPromiseToNode ps all)

pub found_to_nodes : (volume : Option ℕ) (now : ℕ) (ps : List Promise) → All IsPromiseToNode ps → All IsPromiseToNode (promises_on volume (lasting now ps))
found_to_nodes volume now ps all = on_to_nodes volume (lasting now ps) (All-filter (λ (p : Promise). nat_lt now p.expiry) IsPromiseToNode ps all)

-- ---- the turn in which messages go out, with any lists that owe these breaks besides

pub sent_with : (ms : List Message) (os : List OwedBreak) (b : Backs) (l : Lists) (t u : Turn) → IsTurn (no_turn b) t → l.owed ≡ b.lists.owed ++ os →
    ((k : Lists) → k.owed ≡ t.owed.items ++ os → IsTurn (sent_turns ms (backs_with k t.held t.calls)) u) → IsTurn (sent_turns ms (with_lists l b)) u
sent_with ms os b l t u is e sends =
    let first = sends l (e ∙ ap (λ (xs : List OwedBreak). xs ++ os) is.owed) in
    subst (λ (x : Backs). IsTurn (sent_turns ms x) u) (ap (with_lists l) (backs_of b t is)) first
