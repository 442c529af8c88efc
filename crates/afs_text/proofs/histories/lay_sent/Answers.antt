-- The line of each parcel goes on behind those before it.
use Rattle.std.proofs.Common.{◌≡◌, ℕ, ◌+◌, ap, arith}
use Rattle.afs_text.specs.KeptText.{parcels_text}
use Rattle.afs_text.proofs.Laid.{lays_end, lays_from, lays_last, lays_more, lays_no_more, parcels_left}
use Rattle.afs_text.proofs.histories.lay_sent.Goals as goal

pub loop-i-init : goal.loop-i-init
loop-i-init g c =
    let same : c.args.first_place + 0 ≡ c.args.first_place = omega (arith) in
    lays_from _ _ _ _ _ (ap (λ (n : ℕ). parcels_text c.args.wire n c.args.sent.now) same)

pub loop-i-preserved : goal.loop-i-preserved
loop-i-preserved g c =
    let next = parcels_left _ _ (c.args.first_place + (c.loop-i.i + 1)) _ _ _ _ _ _ _ _ _ _ _ (omega (arith)) c.loop-i-test.true c.index-sent-i.is c.loop-i.invariant in
    lays_more _ _ _ _ _ _ _ _ _ _ _ _ _ next c.in_ok-lay_parcel.ensures

pub returns-in_err-lay_parcel : goal.returns-in_err-lay_parcel
returns-in_err-lay_parcel g c =
    let next = parcels_left _ _ (c.args.first_place + (c.loop-i.i + 1)) _ _ _ _ _ _ _ _ _ _ _ (omega (arith)) c.loop-i-test.true c.index-sent-i.is c.loop-i.invariant in
    lays_no_more _ _ _ _ c.loop-i.piece _ _ _ _ _ _ _ _ _ next c.from_residual.ensures.0 c.in_err-lay_parcel.ensures

pub returns : goal.returns
returns g c = lays_end _ _ _ _ _ _ _ _ (lays_last (parcels_text c.args.wire _) _ _ _ _ _ _ _ _ _ c.loop-i-test.false c.loop-i.invariant)
