use Rattle.std.proofs.Common.{◌≡◌, ℕ, ◌+◌, List, [], ◌∷◌, ◌++◌, Some, None, true, false, ap, map, filter, sym, ◌∙◌}
use Rattle.spec_rows.specs.Going.{ClientState, Going}
use Rattle.spec_history.specs.declared.lines.Line.{Line}
use Rattle.spec_history.specs.declared.lines.Line.TheVariants as lines
use Rattle.spec_rows.specs.ClientRow.{dead_code, dropped, ends_step}
use Rattle.afs_entries.specs.Cached.{drops_of, left}
use Rattle.afs_cache.specs.Managing.{given_up}
use Rattle.afs_cache.proofs.Answering.{goes_answered}
use Rattle.afs_cache.proofs.Replying.{gives_up_as, idle_given_up, given_up_rests}
use Rattle.afs_cache.proofs.node.CacheManager.give_up.Goals as goal
use Rattle.afs_cache.proofs.Placing.{rest_answered}

pub returns-in_default : goal.returns-in_default
returns-in_default c =
    let old = c.args.self.now in
    idle_given_up old.node old.state.client old old c.ignore.result c.in_default.ensures c.ignore.ensures.answers

pub returns : goal.returns
returns c =
    let old = c.args.self.now in
    let drops = c.changed_by-drops.result in
    rest_answered (given_up old.node old.state.client old.state.client.running) old c.end_dropping.new.self c.end_dropping.result (given_up_rests old.node old.state.client c.in-Some.asked.now c.in-Some.ensures)
    (goes_answered (λ (front : List Line → List Line). ends_step old.node old.state.client (left drops old.state.client.cache) (λ (ls : List Line). front (dropped old.node (filter (drops_of drops) old.state.client.cache) ls)) dead_code) (given_up old.node old.state.client old.state.client.running)
    c.in_ok-lines.lines old c.end_dropping.new.self c.end_dropping.result
    (gives_up_as old.node old.state.client c.in-Some.asked.now c.in_ok-lines.lines drops c.file_call.result.now c.in-Some.ensures c.in_ok-lines.ensures c.changed_by-drops.ensures c.file_call.ensures) c.end_dropping.ensures)
