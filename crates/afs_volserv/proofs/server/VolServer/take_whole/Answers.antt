use Rattle.std.proofs.Common.{ℤ, rules, subst, to_z-of_z, SFits, w32, ◌∙◌}
use Rattle.afs_num.specs.declared.messages.Carried.TheVariants as carried
use Rattle.spec_volrows.specs.VolSteps.{drops, VolDecision, VolTurn}
use Rattle.afs_volserv.specs.Handling.{backs_then, vol_answered_then, TookVolumes}
use Rattle.afs_volserv.specs.Seen.{durable_seen, vol_seen}
use Rattle.afs_volserv.proofs.Taken.{in_call, in_carried, replied_told}
use Rattle.afs_sharing.specs.Lasting.{lasting_of}
use Rattle.afs_volserv.proofs.server.VolServer.take_whole.Goals as goal

pub returns-in-Call : goal.returns-in-Call
returns-in-Call g c =
    let s = c.args.store.now in
    let k = c.args.callbacks.now in
    let old = c.args.self.now in
    in_call (λ (d : VolDecision) (t : VolTurn). TookVolumes g.D.Disk d t old c.take_call.new.self k c.take_call.new.callbacks s c.take_call.new.store c.take_call.result) s.node (lasting_of s.durable) (durable_seen s) (vol_seen old) (backs_then k s c.args.now) c.args.received.now c.args.message.now c.in-Call.user c.in-Call.call c.requires.whole c.in-Call.is c.take_call.ensures

pub returns-in-Reply : goal.returns-in-Reply
returns-in-Reply g c =
    let s = c.args.store.now in
    let k = c.args.callbacks.now in
    let old = c.args.self.now in
    in_carried (λ (d : VolDecision) (t : VolTurn). TookVolumes g.D.Disk d t old c.take_reply.new.self k c.take_reply.new.callbacks s c.take_reply.new.store c.take_reply.result) s.node (lasting_of s.durable) (durable_seen s) (vol_seen old) (backs_then k s c.args.now) c.args.received.now c.args.message.now (carried.Reply c.in-Reply.reply) c.requires.whole c.in-Reply.is
    (subst (λ (t : VolTurn). TookVolumes g.D.Disk drops t old c.take_reply.new.self k c.take_reply.new.callbacks s c.take_reply.new.store c.take_reply.result)
    (replied_told s.node (lasting_of s.durable) (vol_seen old) (backs_then k s c.args.now) c.args.message.now.head c.in-Reply.reply) c.take_reply.ensures)

pub returns-in-Refusal : goal.returns-in-Refusal
returns-in-Refusal g c =
    let fits : SFits w32 c.number_of-number.result = search rules in
    let s = c.args.store.now in
    let k = c.args.callbacks.now in
    let old = c.args.self.now in
    in_carried (λ (d : VolDecision) (t : VolTurn). TookVolumes g.D.Disk d t old c.take_reply-in-Refusal.new.self k c.take_reply-in-Refusal.new.callbacks s c.take_reply-in-Refusal.new.store c.take_reply-in-Refusal.result) s.node (lasting_of s.durable) (durable_seen s) (vol_seen old) (backs_then k s c.args.now) c.args.received.now c.args.message.now (carried.Refusal c.in-Refusal.code) c.requires.whole c.in-Refusal.is
    (subst (λ (z : ℤ). TookVolumes g.D.Disk drops (vol_answered_then old k s c.args.now c.args.message.now.head z) old c.take_reply-in-Refusal.new.self k c.take_reply-in-Refusal.new.callbacks s c.take_reply-in-Refusal.new.store c.take_reply-in-Refusal.result)
    (to_z-of_z fits ∙ c.number_of-number.ensures) c.take_reply-in-Refusal.ensures)

pub returns-in-Notice : goal.returns-in-Notice
returns-in-Notice g c =
    let s = c.args.store.now in
    let k = c.args.callbacks.now in
    let old = c.args.self.now in
    in_carried (λ (d : VolDecision) (t : VolTurn). TookVolumes g.D.Disk d t old c.take_notice.new.self k c.take_notice.new.callbacks s c.take_notice.new.store c.take_notice.result) s.node (lasting_of s.durable) (durable_seen s) (vol_seen old) (backs_then k s c.args.now) c.args.received.now c.args.message.now carried.Notice c.requires.whole c.in-Notice.is c.take_notice.ensures
