use Rattle.std.proofs.Common.{◌<◌, ◌+◌, ◌∷◌, [], true, List, length, arith, ap, sym, subst}
use Rattle.std.specs.Prelude.{min}
use Rattle.std.proofs.lemmas.List.{length-append}
use Rattle.spec_rows.specs.States.{Held}
use Rattle.spec_volrows.specs.VolSteps.{held_vol}
use Rattle.afs_volserv.specs.Seen.{VolMemory}
use Rattle.afs_volserv.proofs.Held.{below_both, over_both}
use Rattle.afs_volserv.proofs.server.VolServer.hold_again.Goals as goal

pub hold-requires : goal.hold-requires
hold-requires c =
    let w = c.self.inside.held in
    let less : length w.held < min (length w.held + w.room) (min w.out w.on) = subst (λ (m : VolMemory). length m.held < m.room) (sym c.self.view_is) c.requires in
    let some = (below_both (length w.held) (length w.held + w.room) (min w.out w.on) less).0 in
    omega (arith, some)

pub returns-clause-release : goal.returns-clause-release
returns-clause-release c =
    let w = c.self.inside.held in
    let v = c.hold.new.self in
    let less : length w.held < min (length w.held + w.room) (min w.out w.on) = subst (λ (m : VolMemory). length m.held < m.room) (sym c.self.view_is) c.requires in
    let rooms = below_both (length w.held) (length w.held + w.room) (min w.out w.on) less in
    let others = below_both (length w.held) w.out w.on rooms.1 in
    let long = length-append w.held (held_vol c.args.reply c.args.waits true ∷ []) in
    let held = ap (λ (hs : List Held). length hs) c.hold.ensures.held in
    let out = c.hold.ensures.out in
    let on = c.hold.ensures.on in
    over_both (length v.held) (length v.held + v.room) (min v.out v.on) (omega arith) (over_both (length v.held) v.out v.on (omega (arith, held, long, out, others.0)) (omega (arith, held, long, on, others.1)))
