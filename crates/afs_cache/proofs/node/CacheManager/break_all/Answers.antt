use Rattle.std.proofs.Common.{◌≡◌, ◌∷◌, [], List, map, refl, ap, ◌∙◌}
use Rattle.afs_num.specs.declared.types.Fid.{Fid}
use Rattle.spec_history.specs.declared.lines.Line.TheVariants as lines
use Rattle.afs_num.specs.declared.calls.FsReply.TheVariants as replies
use Rattle.spec_rows.specs.ClientRow.{reply_carried, drop_line, is_waiting, names_act}
use Rattle.afs_entries.specs.Cached.{left, unlisted}
use Rattle.afs_entries.specs.declared.drops.Drops.TheVariants as drops
use Rattle.afs_cache.proofs.Breaking.{breaks_by}
use Rattle.afs_cache.proofs.node.CacheManager.break_all.Goals as goal

pub returns : goal.returns
returns c =
    let h = c.in_ok-outs.ensures in
    let k = c.lose.ensures in
    breaks_by c.args.self.now c.reply.new.self c.lose.new.self c.args.head.now (lines.DropAll c.args.self.now.node c.args.head.now.from ∷ []) c.in_ok-lines.lines (reply_carried replies.InitCallBackState) c.done.result c.deref.result.now (is_waiting c.args.self.now.state.client c.args.head.now.from c.args.self.now.state.client.running) c.is_waiting-is_waiting.result (left (drops.Server c.args.head.now.from) c.args.self.now.state.client.cache) c.in_ok-outs.outs h c.in_ok-lines.ensures c.done.ensures c.is_waiting-is_waiting.ensures (ap (λ (fs : List Fid). unlisted fs c.args.self.now.state.client.cache) c.deref.ensures.value ∙ c.in_ok-fids.ensures) k
