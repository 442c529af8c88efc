use Rattle.std.proofs.Common.{◌≡◌, ℕ, List, [], ◌∷◌, ◌++◌, Some, None, true, false, ap, map, filter, sym, ◌∙◌}
use Rattle.spec_rows.specs.Going.{ClientState, Going}
use Rattle.afs_num.specs.declared.calls.FsCall.{FsCall}
use Rattle.afs_num.specs.declared.histories.Body.TheVariants as bodies
use Rattle.spec_rows.specs.ClientRow.{call_of, status_told, takes_bytes, takes_plain, takes_stored}
use Rattle.afs_cache.proofs.Replying.{spoiled_taken, unspoiled_taken, idle_act}
use Rattle.afs_cache.proofs.node.CacheManager.take_bytes.Goals as goal

pub returns-in_default : goal.returns-in_default
returns-in_default c =
    let old = c.args.self.now in
    idle_act old.state.client (λ (place : ℕ) (act : Going). takes_bytes old.node old.state.client c.args.now place c.args.fid c.args.status.now c.args.contents (call_of old.state.client act)) old old c.ignore.result c.in_default.ensures c.ignore.ensures.takes

pub returns-then-spoiled : goal.returns-then-spoiled
returns-then-spoiled c = spoiled_taken c.args.self.now.node c.args.self.now.state.client c.args.now c.args.fid c.args.status.now c.args.contents c.args.self.now c.take_plain.new.self c.take_plain.result (sym c.if-spoiled.true ∙ c.is_spoiled-spoiled.ensures) c.take_plain.ensures

pub returns-else-spoiled : goal.returns-else-spoiled
returns-else-spoiled c = unspoiled_taken c.args.self.now.node c.args.self.now.state.client c.args.now c.in-Some._asked.now c.args.fid c.args.status.now c.args.contents c.args.self.now c.take_stored.new.self c.take_stored.result c.in-Some.ensures (sym c.if-spoiled.false ∙ c.is_spoiled-spoiled.ensures) c.take_stored.ensures
