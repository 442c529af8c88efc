use Rattle.std.proofs.Common.{◌≡◌, ℕ, ◌<◌, ◌∷◌, List, Bool, true, length, drop, get_or, suc, Option, sym, ap, ◌∙◌, if◌then◌else◌, drop-cons, arith, length-append}
use Rattle.indexmap.specs.IndexMap.{get}
use Rattle.afs_promise.specs.declared.types.Grant.{Grant}
use Rattle.afs_promise.specs.declared.types.Holding.{Holding}
use Rattle.afs_promise.specs.Granting.{same_holding, is_held_on, held_on}
use Rattle.afs_promise.proofs.log.gather.Goals as goal

one_to_come : (latest : Holding → Option Grant) (volume i : ℕ) (log : List Grant) (d : Grant) → i < length log → is_held_on latest volume (get_or log i d) ≡ true → 0 < length (held_on latest volume (drop i log))
one_to_come latest volume i log d lt is =
    let one : held_on latest volume (drop i log) ≡ get_or log i d ∷ held_on latest volume (drop (suc i) log) =
    ap (held_on latest volume) (drop-cons log i d lt) ∙ ap (λ (b : Bool). if b then get_or log i d ∷ held_on latest volume (drop (suc i) log) else held_on latest volume (drop (suc i) log)) is
    in
    omega (arith, ap (λ (gs : List Grant). length gs) one)

pub add-requires : goal.add-requires
add-requires c =
    let more = one_to_come (get same_holding c.args.latest.now) c.args.volume c.loop-grant.grant-index c.args.log.now _ c.loop-grant-test.true (sym c.if-is_held_on.ensures) in
    omega (
      arith,
      more,
      c.requires,
      c.loop-grant.gone.ok.0,
      c.args.gone.now.ok.0,
      c.loop-grant.invariant.capacity,
      ap (λ (gs : List Grant). length gs) c.loop-grant.invariant.grants,
      length-append c.loop-grant.gone.items (held_on (get same_holding c.args.latest.now) c.args.volume (drop c.loop-grant.grant-index c.args.log.now)),
      length-append c.args.gone.now.items (held_on (get same_holding c.args.latest.now) c.args.volume c.args.log.now),
    )
