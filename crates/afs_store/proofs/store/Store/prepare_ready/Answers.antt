use Rattle.std.proofs.Common.{◌≡◌, ◌+◌, true, is_some, sym, ap, subst, ◌∙◌}
use Rattle.afs_store.specs.Stores.{StoreOf}
use Rattle.afs_store.proofs.Folding.{is_taken}
use Rattle.afs_store.proofs.Kept.{kept_on}
use Rattle.afs_store.proofs.Waiting.{waits_now}
use Rattle.afs_store.proofs.store.Store.prepare_ready.Goals as goal

pub invariant_of-self-2 : goal.invariant_of-self-2
invariant_of-self-2 g c =
    let k = g.S.Fold.fold in
    let j = c.self.inside.journal in
    let now = c.place.new.journal in
    let s = c.self.inside.state in
    let taken : is_some (k.done (k.record_of c.args.ready) (k.held s)) ≡ true =
    sym (is_taken k g.met.S.Fold.sound (k.record_of c.args.ready) (j.gate + 1) (g.D.Disk.limit j.disk) (k.held s))
    ∙ (ap (λ (x : StoreOf g.row.D.Denot g.row.R.Denot g.row.T.Denot). is_some (k.folded (k.record_of c.args.ready) x.durable)) c.self.view_is ∙ c.requires.taken) in
    let suits : k.Suits c.args.ready (k.held s) =
    (g.met.S.Fold.sound.suits c.args.ready (j.gate + 1) (g.D.Disk.limit j.disk) (k.held s)).0 (subst (λ (x : StoreOf g.row.D.Denot g.row.R.Denot g.row.T.Denot). k.Suits c.args.ready x.durable) (sym c.self.view_is) c.requires.suits) in
    record {
      ready = waits_now k g.D.Disk.limit g.D.Disk.space now s c.place.new.state c.args.ready taken c.place.ensures.held c.requires.ready suits c.in_ok-place.ensures.place c.in_ok-place.ensures.room;
      kept = λ here.
          kept_on k j.gate now.gate (g.D.Disk.limit j.disk) (g.D.Disk.limit now.disk) (k.held s) (k.held c.place.new.state) (g.D.Disk.seen j.disk) (g.D.Disk.seen now.disk) (g.D.Disk.may_leave j.disk) (g.D.Disk.may_leave now.disk)
          c.place.ensures.same.gate c.place.ensures.counts.same_limit c.place.ensures.held (c.self.invariant.kept (sym c.place.ensures.same.closed ∙ here)) c.place.ensures.same.disk.same_seen c.place.ensures.same.disk.leaves;
      counted = λ here bytes at. c.self.invariant.counted (sym c.place.ensures.same.closed ∙ here) bytes (sym c.place.ensures.same.disk.same_seen ∙ at) ∙ sym c.place.ensures.same.count;
    }
