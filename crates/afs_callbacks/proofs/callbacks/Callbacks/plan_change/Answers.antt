use Rattle.std.proofs.Common.{◌<◌, ◌^◌, ◌+◌, ℕ, List, length, ap, sym, subst, ◌∙◌}
use Rattle.afs_num.specs.declared.types.Fid.{Fid}
use Rattle.spec_breaks.specs.Promises.{lasting}
use Rattle.spec_breaks.specs.declared.types.OwedBreak.{OwedBreak}
use Rattle.afs_callees.specs.declared.telling.Grant.{Grant}
use Rattle.afs_callbacks.specs.Answering.{reply_told, IsRepliedAfter}
use Rattle.afs_callbacks.specs.Saving.{change_kept, hits_each, new_grants, saved_lines}
use Rattle.afs_callbacks.proofs.Short.{reply_short}
use Rattle.afs_callbacks.proofs.callbacks.Callbacks.plan_change.Goals as goal

pub plan_told-requires-clause-clients : goal.plan_told-requires-clause-clients
plan_told-requires-clause-clients c = c.in_ok-found.ensures.nodes

pub change_record-rec-requires-clause-short : goal.change_record-rec-requires-clause-short
change_record-rec-requires-clause-short c =
    subst (λ (bytes : List ℕ). length bytes < 2 ^ 32) (sym (c.in_ok-copy.ensures ∙ c.in_ok-saved.ensures.kept.spelled)) (reply_short c.args.stand.boot c.args.head.now (c.args.now + 7200) c.args.change.reply c.requires.written.reply)

pub returns : goal.returns
returns c =
    let s = c.args.stand in
    let x = c.args.change in
    let m = c.args.self.now in
    let head = c.args.head.now in
    let found = c.in_ok-found.found in
    let saved = c.in_ok-saved.saved in
    let reply = reply_told s.boot head (c.args.now + 7200) x.reply in
    let granted =
    subst (λ (gs : List Grant). IsRepliedAfter s m c.args.now reply found.breaks.items (saved_lines s.node head (c.args.now + 7200) x.versions gs found.breaks.items) saved.ended saved.kept)
    c.in_ok-found.ensures.grants c.in_ok-saved.ensures in
    let replied =
    subst (λ (os : List OwedBreak). IsRepliedAfter s m c.args.now reply os (saved_lines s.node head (c.args.now + 7200) x.versions (new_grants x.reply) os) saved.ended saved.kept)
    c.in_ok-found.ensures.breaks granted in
    let kept = c.into_kept-changed.ensures in
    record {
      replied = replied;
      rec = c.change_record-rec.ensures.record ∙ ap (change_kept head c.args.id x) c.in_ok-copy.ensures;
      fits = c.change_record-rec.ensures.fits;
      changed = kept.changed ∙ c.in_ok-found.ensures.changed;
      withdrawn = kept.withdrawn ∙ (c.in_ok-found.ensures.withdrawn ∙ ap (λ (fs : List Fid). hits_each head.from fs (lasting c.args.now m.lists.promises)) (sym kept.changed));
      granted = kept.granted ∙ c.in_ok-found.ensures.granted;
    }
