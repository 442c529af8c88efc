use Rattle.std.proofs.Common.{◌≡◌, ℕ, List, [], ◌∷◌, ◌++◌, Some, None, true, false, ap, map, filter, sym, ◌∙◌}
use Rattle.spec_rows.specs.Going.{ClientState, Going}
use Rattle.spec_history.specs.declared.lines.Line.{Line}
use Rattle.spec_history.specs.declared.lines.Line.TheVariants as lines
use Rattle.afs_num.specs.declared.calls.FsCall.{FsCall}
use Rattle.spec_rows.specs.ClientRow.{call_of, dropped, ends_step, takes_plain, zero_code}
use Rattle.afs_entries.specs.Cached.{drops_of, left}
use Rattle.afs_cache.specs.Managing.{by_act, by_call, telling}
use Rattle.afs_cache.proofs.Answering.{goes_taken}
use Rattle.afs_cache.proofs.Replying.{plain_taken, idle_behind}
use Rattle.afs_cache.proofs.node.CacheManager.take_plain_behind.Goals as goal

pub returns-in_default : goal.returns-in_default
returns-in_default c =
    let old = c.args.self.now in
    idle_behind (λ (place : ℕ) (act : Going). takes_plain old.node old.state.client place (call_of old.state.client act)) c.args.lines old old c.ignore_behind.result c.in_default.ensures c.ignore_behind.ensures

pub returns : goal.returns
returns c =
    let old = c.args.self.now in
    let drops = c.scope_of-drops.result in
    goes_taken (λ (front : List Line → List Line). ends_step old.node old.state.client (left drops old.state.client.cache) (λ (ls : List Line). front (dropped old.node (filter (drops_of drops) old.state.client.cache) ls)) zero_code)
    (λ (place : ℕ). telling c.args.lines (by_call old.state.client place (λ (act : Going). takes_plain old.node old.state.client place) old.state.client.running)) c.args.lines old c.end_dropping.new.self c.end_dropping.result
    (λ place. plain_taken old.node old.state.client place c.in-Some.asked.now c.args.lines drops c.file_call.result.now c.in-Some.ensures c.scope_of-drops.ensures c.file_call.ensures) c.end_dropping.ensures
