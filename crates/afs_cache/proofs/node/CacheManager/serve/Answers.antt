use Rattle.std.proofs.Common.{◌≡◌, ℕ, List, [], ap, map, sym, subst, ◌∙◌}
use Rattle.afs_num.specs.declared.types.Fid.{Fid}
use Rattle.afs_num.specs.declared.calls.FsCall.{FsCall}
use Rattle.afs_num.specs.declared.calls.FsReply.TheVariants as replies
use Rattle.afs_num.specs.declared.messages.Carried.{Carried}
use Rattle.spec_rows.specs.ClientRow.{breaks, reply_carried, drop_line, replies_step, without_fids}
use Rattle.afs_cache.specs.Managing.{Takes}
use Rattle.afs_cache.proofs.Placing.{stills_same}
use Rattle.afs_cache.proofs.Breaking.{refused_others}
use Rattle.afs_cache.proofs.node.CacheManager.serve.Goals as goal

pub returns-in-CallBack : goal.returns-in-CallBack
returns-in-CallBack c =
    let old = c.args.self.now in
    let named : c.as_slice.result.now ≡ c.in-CallBack.fids = c.as_slice.ensures in
    stills_same (λ (place : ℕ). replies_step (without_fids old.state.client c.as_slice.result.now) place c.args.head.now (map (drop_line old.node) c.as_slice.result.now) (reply_carried replies.CallBack)) (λ (place : ℕ). breaks old.node old.state.client place c.args.head.now c.args.call) old c.break_fids.new.self c.break_fids.result
    (λ place. ap (λ (fs : List Fid). replies_step (without_fids old.state.client fs) place c.args.head.now (map (drop_line old.node) fs) (reply_carried replies.CallBack)) named ∙ ap (breaks old.node old.state.client place c.args.head.now) (sym c.in-CallBack.is))
    c.break_fids.ensures

pub returns-in-InitCallBackState : goal.returns-in-InitCallBackState
returns-in-InitCallBackState c =
    let old = c.args.self.now in
    stills_same _ (λ (place : ℕ). breaks old.node old.state.client place c.args.head.now c.args.call) old c.break_all.new.self c.break_all.result (λ place. ap (breaks old.node old.state.client place c.args.head.now) (sym c.in-InitCallBackState.is)) c.break_all.ensures

pub returns-in-Probe : goal.returns-in-Probe
returns-in-Probe c =
    let old = c.args.self.now in
    stills_same (λ (place : ℕ). replies_step old.state.client place c.args.head.now [] c.done.result) (λ (place : ℕ). breaks old.node old.state.client place c.args.head.now c.args.call) old c.reply_alone.new.self c.reply_alone.result
    (λ place. ap (λ (x : Carried). replies_step old.state.client place c.args.head.now [] x) c.done.ensures ∙ ap (breaks old.node old.state.client place c.args.head.now) (sym c.in-Probe.is))
    c.reply_alone.ensures

pub returns : goal.returns
returns c =
    let old = c.args.self.now in
    stills_same _ (λ (place : ℕ). breaks old.node old.state.client place c.args.head.now c.args.call) old c.refuse_call.new.self c.refuse_call.result
    (λ place. sym (refused_others old.node old.state.client place c.args.head.now c.args.call c.in_default.not-CallBack c.in_default.not-InitCallBackState c.in_default.not-Probe)) c.refuse_call.ensures
