use Rattle.std.proofs.Common.{◌≡◌, ℕ, List, [], ◌∷◌, ◌++◌, Some, None, true, false, ap, map, filter, sym, ◌∙◌}
use Rattle.spec_rows.specs.Going.{ClientState, Going}
use Rattle.afs_num.specs.declared.calls.FsCall.{FsCall}
use Rattle.spec_rows.specs.ClientRow.{call_of, find_cached, stands_below, status_told, takes_plain, takes_status, takes_stored}
use Rattle.std.proofs.Common.{not, ◌&&◌}
use Rattle.afs_cache.proofs.Replying.{else_taken, idle_act, then_taken}
use Rattle.afs_cache.proofs.node.CacheManager.take_status.Goals as goal

pub returns-in_default : goal.returns-in_default
returns-in_default c =
    let old = c.args.self.now in
    idle_act old.state.client (λ (place : ℕ) (act : Going). takes_status old.node old.state.client c.args.now place c.args.fid c.args.status.now (call_of old.state.client act)) old old c.ignore.result c.in_default.ensures c.ignore.ensures.takes

pub returns-then-keeps : goal.returns-then-keeps
returns-then-keeps c =
    let old = c.args.self.now in
    let st = old.state.client in
    let status = c.args.status.now in
    then_taken st (not st.spoiled && stands_below c.args.now status.sync_counter (find_cached c.args.fid st.cache)) c.in-Some._asked.now (λ (place : ℕ). takes_stored old.node st c.args.now place c.args.fid status.sync_counter (status_told status) (λ body. body)) (takes_plain old.node st)
    old c.take_stored.new.self c.take_stored.result c.in-Some.ensures (sym c.if-keeps.true ∙ c.keeps_body-keeps.ensures) c.take_stored.ensures

pub returns-else-keeps : goal.returns-else-keeps
returns-else-keeps c =
    let old = c.args.self.now in
    let st = old.state.client in
    let status = c.args.status.now in
    else_taken st (not st.spoiled && stands_below c.args.now status.sync_counter (find_cached c.args.fid st.cache)) (λ (place : ℕ). takes_stored old.node st c.args.now place c.args.fid status.sync_counter (status_told status) (λ body. body)) (takes_plain old.node st)
    old c.take_plain.new.self c.take_plain.result (sym c.if-keeps.false ∙ c.keeps_body-keeps.ensures) c.take_plain.ensures
