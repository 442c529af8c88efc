use Rattle.std.proofs.Common.{◌≡◌, ◌∷◌, [], map, refl}
use Rattle.spec_history.specs.declared.lines.Line.TheVariants as lines
use Rattle.afs_num.specs.declared.calls.FsReply.TheVariants as replies
use Rattle.spec_rows.specs.ClientRow.{reply_carried, drop_line, is_waiting, names_act}
use Rattle.afs_entries.specs.Cached.{left, unlisted}
use Rattle.afs_entries.specs.declared.drops.Drops.TheVariants as drops
use Rattle.afs_cache.proofs.Breaking.{breaks_by}
use Rattle.afs_cache.proofs.node.CacheManager.break_fids.Goals as goal

pub returns : goal.returns
returns c =
    let h = c.in_ok-outs.ensures in
    let k = c.lose.ensures in
    breaks_by c.args.self.now c.reply.new.self c.lose.new.self c.args.head.now (map (drop_line c.args.self.now.node) c.args.fids.now) c.in_ok-lines.lines (reply_carried replies.CallBack) c.done.result (c.args.fids.now) (names_act c.args.self.now.state.client c.args.fids.now c.args.self.now.state.client.running) c.is_named-is_named.result (unlisted c.args.fids.now c.args.self.now.state.client.cache) c.in_ok-outs.outs h c.in_ok-lines.ensures c.done.ensures c.is_named-is_named.ensures refl k
