use Rattle.std.proofs.Common.{◌≡◌, Some, sym, ap, subst, ◌∙◌}
use Rattle.std.specs.Option.{option_copied}
use Rattle.spec_volrows.specs.VolSteps.{written, VolDecision}
use Rattle.afs_volanswers.specs.Deciding.{call_in, decision_of, deed_of, full_then}
use Rattle.afs_volserv.specs.Handling.{vol_turn_then, TookVolumes}
use Rattle.afs_volserv.specs.Seen.{durable_seen, vol_seen}
use Rattle.afs_volanswers.specs.declared.decided.Decided.{Decided}
use Rattle.afs_volserv.proofs.Asked.{full_is}
use Rattle.afs_volserv.proofs.server.VolServer.save_decided.Goals as goal

pub returns : goal.returns
returns g c =
    let s = c.args.store.now in
    let k = c.args.callbacks.now in
    let old = c.args.self.now in
    let head = c.args.head.now in
    let d = durable_seen s in
    let v = vol_seen old in
    let full = full_then d v head c.args.received.now in
    let called : call_in c.args.received.now ≡ Some c.in-Some.call.now = sym c.volume_call.ensures ∙ ap option_copied c.in-Some.is in
    let saved : TookVolumes g.D.Disk (written d head (deed_of s.durable.boot head c.in-Saves.saving) full) (vol_turn_then old k s c.args.now (written d head (deed_of s.durable.boot head c.in-Saves.saving) full)) old c.save.new.self k c.save.new.callbacks s c.save.new.store c.save.result =
    subst (λ (f : VolDecision). TookVolumes g.D.Disk (written d head (deed_of s.durable.boot head c.in-Saves.saving) f) (vol_turn_then old k s c.args.now (written d head (deed_of s.durable.boot head c.in-Saves.saving) f)) old c.save.new.self k c.save.new.callbacks s c.save.new.store c.save.result)
    (sym (full_is d v head c.args.received.now c.in-Some.call.now called)) c.save.ensures in
    subst (λ (x : Decided). TookVolumes g.D.Disk (decision_of d v head full x) (vol_turn_then old k s c.args.now (decision_of d v head full x)) old c.save.new.self k c.save.new.callbacks s c.save.new.store c.save.result)
    (sym c.in-Saves.is) saved
