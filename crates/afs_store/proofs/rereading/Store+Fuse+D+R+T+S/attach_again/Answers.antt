use Rattle.std.specs.Prelude.{MatchResult, OnOk}
use Rattle.std.proofs.Common.{◌≡◌, ◌≤◌, ◌+◌, ℕ, ap, sym, subst, ◌∙◌}
use Rattle.afs_num.specs.declared.types.Node.{Node}
use Rattle.afs_disk.specs.Fuses.{Fused}
use Rattle.afs_store.specs.Rereading.{disk_after, IsAttached, IsRefused, IsTakenUp}
use Rattle.afs_store.specs.Stores.{IsKept, Stands, StoreOf}
use Rattle.afs_store.proofs.rereading.«Store+Fuse+D+R+T+S».attach_again.Goals as goal

pub again-requires-clause-limit : goal.again-requires-clause-limit
again-requires-clause-limit g c =
    let same : c.into_inner-disk.result ≡ c.args.self.disk.disk = c.into_inner-disk.ensures ∙ ap (λ (f : Fused g.row.D.Denot). f.disk) (c.into_disk.ensures ∙ ap (λ (s : StoreOf (Fused g.row.D.Denot) g.row.R.Denot g.row.T.Denot). s.disk) c.self.view_is) in
    subst (λ (d : g.row.D.Denot). g.D.Disk.limit d ≤ 268435456) (sym same) c.requires.limit

pub again-requires-clause-kept : goal.again-requires-clause-kept
again-requires-clause-kept g c =
    let j = c.self.inside.journal in
    let parts = g.S.Fold.fold.held c.self.inside.state in
    let here : c.into_inner-disk.result ≡ j.disk.disk = c.into_inner-disk.ensures ∙ ap (λ (f : Fused g.row.D.Denot). f.disk) c.into_disk.ensures in
    let kept : IsKept g.S.Fold.fold (g.S.Fold.fold.placed (j.gate + 1) (g.D.Disk.limit j.disk.disk) parts) (g.D.Disk.seen j.disk.disk) (g.D.Disk.may_leave j.disk.disk) = c.self.invariant.kept (ap (λ (s : StoreOf (Fused g.row.D.Denot) g.row.R.Denot g.row.T.Denot). s.closed) c.self.view_is ∙ c.requires.open) in
    subst (λ (d : g.row.D.Denot). IsKept g.S.Fold.fold (g.S.Fold.fold.placed c.len-len.result (g.D.Disk.limit d) parts) (g.D.Disk.seen d) (g.D.Disk.may_leave d)) (sym here)
    (subst (λ (n : ℕ). IsKept g.S.Fold.fold (g.S.Fold.fold.placed n (g.D.Disk.limit j.disk.disk) parts) (g.D.Disk.seen j.disk.disk) (g.D.Disk.may_leave j.disk.disk)) (sym c.len-len.ensures) kept)

pub returns-clause-was : goal.returns-clause-was
returns-clause-was g c =
    let j = c.self.inside.journal in
    let kept : IsKept g.S.Fold.fold (g.S.Fold.fold.placed (j.gate + 1) (g.D.Disk.limit j.disk.disk) (g.S.Fold.fold.held c.self.inside.state)) (g.D.Disk.seen j.disk.disk) (g.D.Disk.may_leave j.disk.disk) = c.self.invariant.kept (ap (λ (s : StoreOf (Fused g.row.D.Denot) g.row.R.Denot g.row.T.Denot). s.closed) c.self.view_is ∙ c.requires.open) in
    subst (λ (s : StoreOf (Fused g.row.D.Denot) g.row.R.Denot g.row.T.Denot). IsKept g.S.Fold.fold s.durable (g.D.Disk.seen s.disk.disk) (g.D.Disk.may_leave s.disk.disk) × (g.S.Fold.fold.capacity s.durable ≡ g.D.Disk.limit s.disk.disk)) c.self.view_is (kept, g.met.S.Fold.sound.sized (j.gate + 1) (g.D.Disk.limit j.disk.disk) (g.S.Fold.fold.held c.self.inside.state))

pub returns-clause-disk : goal.returns-clause-disk
returns-clause-disk g c =
    let same : c.into_inner-disk.result ≡ c.args.self.disk.disk = c.into_inner-disk.ensures ∙ ap (λ (f : Fused g.row.D.Denot). f.disk) (c.into_disk.ensures ∙ ap (λ (s : StoreOf (Fused g.row.D.Denot) g.row.R.Denot g.row.T.Denot). s.disk) c.self.view_is) in
    subst (λ (d : g.row.D.Denot). IsTakenUp g.D.Disk.seen g.D.Disk.may_leave g.D.Disk.moment g.D.Disk.left_since g.D.Disk.faults g.D.Disk.own_faults g.D.Disk.calls g.D.Disk.setting g.D.Disk.limit d (disk_after c.again.result)) same c.again.ensures.disk

pub returns-clause-attached : goal.returns-clause-attached
returns-clause-attached g c =
    let same : c.into_inner-disk.result ≡ c.args.self.disk.disk = c.into_inner-disk.ensures ∙ ap (λ (f : Fused g.row.D.Denot). f.disk) (c.into_disk.ensures ∙ ap (λ (s : StoreOf (Fused g.row.D.Denot) g.row.R.Denot g.row.T.Denot). s.disk) c.self.view_is) in
    subst
    (λ (d : g.row.D.Denot). MatchResult c.again.result (IsAttached (Stands g.S.Fold.fold) g.S.Fold.fold.capacity g.D.Disk.seen g.D.Disk.may_leave g.D.Disk.calls g.D.Disk.setting g.D.Disk.limit c.args.self.node d) (IsRefused g.S.Fold.fold.first_bad g.D.Disk.seen g.D.Disk.faults g.D.Disk.own_faults g.D.Disk.calls g.D.Disk.setting g.D.Disk.limit d))
    same
    (subst
    (λ (n : Node). MatchResult c.again.result (IsAttached (Stands g.S.Fold.fold) g.S.Fold.fold.capacity g.D.Disk.seen g.D.Disk.may_leave g.D.Disk.calls g.D.Disk.setting g.D.Disk.limit n c.into_inner-disk.result) (IsRefused g.S.Fold.fold.first_bad g.D.Disk.seen g.D.Disk.faults g.D.Disk.own_faults g.D.Disk.calls g.D.Disk.setting g.D.Disk.limit c.into_inner-disk.result))
    (ap (λ (s : StoreOf (Fused g.row.D.Denot) g.row.R.Denot g.row.T.Denot). s.node) c.self.view_is) c.again.ensures.attached)

pub returns-clause-quiet : goal.returns-clause-quiet
returns-clause-quiet g c =
    let same : c.into_inner-disk.result ≡ c.args.self.disk.disk = c.into_inner-disk.ensures ∙ ap (λ (f : Fused g.row.D.Denot). f.disk) (c.into_disk.ensures ∙ ap (λ (s : StoreOf (Fused g.row.D.Denot) g.row.R.Denot g.row.T.Denot). s.disk) c.self.view_is) in
    subst (λ (d : g.row.D.Denot). OnOk c.again.result ((g.D.Disk.faults (disk_after c.again.result) ≡ g.D.Disk.faults d) × (g.D.Disk.own_faults (disk_after c.again.result) ≡ g.D.Disk.own_faults d))) same c.again.ensures.quiet
