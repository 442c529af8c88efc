use Rattle.std.proofs.Common.{◌≡◌, ◌<◌, ◌∙◌, subst, sym, arith, None}
use Rattle.spec_ideal.specs.Tables.{get, lowest_free}
use Rattle.spec_ideal.specs.VnodeMaps.{first_number}
use Rattle.spec_ideal.proofs.Tables.{free_is_free, lower_taken}
use Rattle.afs_vnode.specs.Stores.{table_of}
use Rattle.afs_vnode.proofs.Hints.{hint_free, hint_bound}
use Rattle.afs_vnode.proofs.Kept.{size_of, first_low}
use Rattle.afs_vnode.proofs.sorted.lowest_free.Goals as goal

pub free_number-requires-clause-low : goal.free_number-requires-clause-low
free_number-requires-clause-low c =
    let t = table_of c.args.vnodes.now in
    omega (arith, size_of c.args.vnodes.now, c.requires.few, first_low c.args.dir, hint_bound 0 (first_number c.args.dir) c.args.hint t c.requires.ascends c.requires.hint)

pub returns-clause-value : goal.returns-clause-value
returns-clause-value c =
    let t = table_of c.args.vnodes.now in
    c.free_number.ensures ∙ hint_free 0 (first_number c.args.dir) c.args.hint t c.requires.ascends c.requires.hint

pub returns-clause-free : goal.returns-clause-free
returns-clause-free c =
    let t = table_of c.args.vnodes.now in
    subst (λ n. get n t ≡ None) (sym c.free_number.ensures) (free_is_free 0 c.args.hint t c.requires.ascends)

pub returns-clause-lowest : goal.returns-clause-lowest
returns-clause-lowest c k ge lt even =
    let t = table_of c.args.vnodes.now in
    let first = first_number c.args.dir in
    let e : c.free_number.result ≡ lowest_free first t = c.free_number.ensures ∙ hint_free 0 first c.args.hint t c.requires.ascends c.requires.hint in
    lower_taken first k t ge (subst (λ n. k < n) e lt) even
