use Rattle.afs_num.specs.declared.histories.Body.{Body}
use Rattle.afs_num.specs.declared.histories.ReadSource.TheVariants.{Fetched}
use Rattle.std.proofs.Common.{◌≡◌, ℕ, List, [], ◌∷◌, ◌++◌, Some, None, true, false, ap, map, filter, sym, ◌∙◌}
use Rattle.spec_rows.specs.Going.{ClientState, Going, with_read}
use Rattle.spec_history.specs.declared.lines.Line.{Line}
use Rattle.spec_history.specs.declared.lines.Line.TheVariants as lines
use Rattle.afs_num.specs.declared.histories.ReadBody.TheVariants as seen
use Rattle.afs_num.specs.declared.calls.FsCall.{FsCall}
use Rattle.spec_rows.specs.ClientRow.{body_told, cache_entry_told, is_trusted, look_at, put_entry, read_lines, takes_entry, walks_on}
use Rattle.afs_entries.specs.Cached.{entry_of}
use Rattle.afs_cache.specs.Managing.{by_act, by_call, telling}
use Rattle.afs_cache.proofs.Answering.{goes_taken}
use Rattle.afs_cache.proofs.Replying.{entry_taken, spent_taken, idle_behind}
use Rattle.afs_cache.proofs.node.CacheManager.take_body.Goals as goal

pub returns-in_default : goal.returns-in_default
returns-in_default c =
    let old = c.args.self.now in
    idle_behind (λ (place : ℕ) (act : Going). takes_entry old.node old.state.client c.args.now place act (cache_entry_told old.state.client.callee c.args.fid c.args.status.now c.args.callback.now c.args.sync.now (Some (body_told c.args.status.now.file_type c.args.contents))) (seen.Contents (body_told c.args.status.now.file_type c.args.contents))) c.args.lines old old c.ignore_behind.result c.in_default.ensures c.ignore_behind.ensures

pub returns-then-not-usable : goal.returns-then-not-usable
returns-then-not-usable c =
    let old = c.args.self.now in
    let st = old.state.client in
    let body = body_told c.args.status.now.file_type c.args.contents in
    let entry = cache_entry_told st.callee c.args.fid c.args.status.now c.args.callback.now c.args.sync.now (Some body) in
    spent_taken old.node st (is_trusted c.args.now entry)
    (λ (place : ℕ) (act : Going). walks_on old.node st c.args.now (read_lines old.node place (look_at Fetched entry (seen.Contents body))) (with_read c.args.fid (seen.Contents body) act) (put_entry st.capacity entry st.cache))
    c.args.lines old c.call_again_behind.new.self c.call_again_behind.result (sym c.if-not-usable.true ∙ c.is_usable-usable.ensures) c.call_again_behind.ensures

pub returns : goal.returns
returns c =
    let old = c.args.self.now in
    let st = old.state.client in
    let told_body = body_told c.args.status.now.file_type c.args.contents in
    let entry = cache_entry_told st.callee c.args.fid c.args.status.now c.args.callback.now c.args.sync.now (Some told_body) in
    goes_taken (λ (front : List Line → List Line). walks_on old.node st c.args.now front c.in_ok-going.field-0.going (put_entry st.capacity (entry_of c.fresh-fresh.result) st.cache))
    (λ (place : ℕ). telling c.args.lines (by_act st place (λ (act : Going). takes_entry old.node st c.args.now place act entry (seen.Contents told_body)) st.running)) c.in_ok-going.field-0.lines old c.walk_with.new.self c.walk_with.result
    (λ place. entry_taken old.node st c.args.now place c.in-Some.asked.now c.args.lines c.in_ok-going.field-0.lines c.in_ok-going.field-0.going (entry_of c.fresh-fresh.result) entry (seen.Contents c.in_ok-body.body) (seen.Contents told_body) c.in-Some.ensures (ap (λ (b : Body). seen.Contents b) c.in_ok-body.ensures) c.in_ok-going.ensures.lines c.in_ok-going.ensures.going (c.fresh-fresh.ensures.value ∙ ap (λ (b : Body). cache_entry_told st.callee c.args.fid c.args.status.now c.args.callback.now c.args.sync.now (Some b)) (c.in_ok-kept.ensures ∙ c.in_ok-body.ensures)) (sym c.if-not-usable.false ∙ c.is_usable-usable.ensures))
    c.walk_with.ensures
