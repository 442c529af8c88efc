use Rattle.std.proofs.Common.{◌≡◌, ℕ, List, [], ◌∷◌, ◌++◌, Some, None, true, false, ap, map, filter, sym, ◌∙◌}
use Rattle.spec_rows.specs.Going.{ClientState, Going}
use Rattle.spec_history.specs.declared.lines.Line.{Line}
use Rattle.spec_history.specs.declared.lines.Line.TheVariants as lines
use Rattle.afs_num.specs.declared.histories.ReadBody.TheVariants as seen
use Rattle.spec_rows.specs.ClientRow.{dropped, goes_on, is_older, not_walked}
use Rattle.spec_rows.specs.States.{CacheEntry}
use Rattle.afs_cache.specs.Wanted.{shows_rights}
use Rattle.std.proofs.Common.{not}
use Rattle.afs_cache.specs.Managing.{by_act, by_call, telling}
use Rattle.afs_cache.proofs.Answering.{goes_taken}
use Rattle.afs_cache.proofs.Replying.{rights_taken, idle_behind}
use Rattle.afs_cache.proofs.node.CacheManager.take_list.Goals as goal

pub returns-in_default : goal.returns-in_default
returns-in_default c =
    let old = c.args.self.now in
    idle_behind (λ (place : ℕ) (act : Going). shows_rights old.node old.state.client place act c.args.fid c.args.index c.args.release c.args.text) c.args.lines old old c.ignore_behind.result c.in_default.ensures c.ignore_behind.ensures

pub returns : goal.returns
returns c =
    let old = c.args.self.now in
    let st = old.state.client in
    let older = is_older c.args.fid c.args.index c.args.release in
    goes_taken (λ (front : List Line → List Line). goes_on old.node st (λ (ls : List Line). front (dropped old.node (filter older st.cache) ls)) (not_walked c.in_ok-seen.seen.going (filter (λ (e : CacheEntry). not (older e)) st.cache)))
    (λ (place : ℕ). telling c.args.lines (by_act st place (λ (act : Going). shows_rights old.node st place act c.args.fid c.args.index c.args.release c.args.text) st.running)) c.in_ok-seen.seen.lines old c.go_dropping.new.self c.go_dropping.result
    (λ place. rights_taken old.node st place c.in-Some.asked.now c.args.lines c.in_ok-seen.seen.lines c.in_ok-seen.seen.going c.args.fid c.args.index c.args.release c.args.text c.in-Some.ensures c.in_ok-seen.ensures.lines c.in_ok-seen.ensures.going) c.go_dropping.ensures
