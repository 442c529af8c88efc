use Rattle.std.proofs.Common.{◌+◌, ◌∙◌, Bool, List, ap, drop, sym}
use Rattle.afs_final.specs.Reading.{fault_in}
use Rattle.afs_final.specs.declared.reading.Left.{Left}
use Rattle.afs_final.proofs.Faults.{next_of, wants_too, with_wanting}
use Rattle.afs_volstore.specs.Stores.{Store}
use Rattle.afs_final.proofs.reading.fault_in.Goals as goal
use Rattle.afs_final.proofs.reading.fault_in.Goals.{in-Bad, in-Kept, in-Unread}

pub loop-one-preserved : goal.loop-one-preserved
loop-one-preserved g c =
    let i = c.loop-one.one-index in
    let left = c.args.left.now in
    let rest = drop (i + 1) left in
    let was = c.loop-one.is_wanting in
    elim c.match-one.branch [
      | in-Unread w ↦
          ap (λ (b : Bool). with_wanting b (fault_in rest)) w.is_wanting-is
          ∙ (wants_too was (fault_in rest) ∙ (ap (λ (xs : List (Left (Store g.row.D.Denot) g.row.D.Denot)). with_wanting was (fault_in xs)) (sym (next_of left i c.one-item.result _ c.loop-one-test.true c.one-item.is w.in-Unread.is)) ∙ c.loop-one.invariant))
      | in-Kept w ↦
          ap (λ (b : Bool). with_wanting b (fault_in rest)) w.is_wanting-is
          ∙ (ap (λ (xs : List (Left (Store g.row.D.Denot) g.row.D.Denot)). with_wanting was (fault_in xs)) (sym (next_of left i c.one-item.result _ c.loop-one-test.true c.one-item.is w.in-Kept.is)) ∙ c.loop-one.invariant)
      | in-Bad w ↦
          ap (λ (b : Bool). with_wanting b (fault_in rest)) w.is_wanting-is
          ∙ (ap (λ (xs : List (Left (Store g.row.D.Denot) g.row.D.Denot)). with_wanting was (fault_in xs)) (sym (next_of left i c.one-item.result _ c.loop-one-test.true c.one-item.is w.in-Bad.is)) ∙ c.loop-one.invariant)
    ]
