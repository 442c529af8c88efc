use Rattle.afs_num.specs.declared.histories.ReadStatus.{ReadStatus}
use Rattle.spec_rows.specs.States.{CacheEntry}
use Rattle.afs_num.specs.declared.histories.ReadSource.TheVariants.{Fetched}
use Rattle.std.proofs.Common.{◌≡◌, ℕ, List, [], ◌∷◌, ◌++◌, Some, None, true, false, ap, map, filter, sym, ◌∙◌}
use Rattle.spec_rows.specs.Going.{ClientState, Going, with_read}
use Rattle.spec_history.specs.declared.lines.Line.{Line}
use Rattle.spec_history.specs.declared.lines.Line.TheVariants as lines
use Rattle.afs_num.specs.declared.histories.ReadBody.TheVariants as seen
use Rattle.spec_rows.specs.ClientRow.{cache_entry_told, goes_on, is_trusted, look_at, put_entries, put_entry, read_lines, not_walked}
use Rattle.afs_entries.specs.Cached.{entry_of}
use Rattle.afs_cache.specs.Wanted.{shows_status}
use Rattle.afs_cache.specs.Managing.{by_act, by_call, telling}
use Rattle.afs_cache.proofs.Answering.{goes_taken}
use Rattle.afs_cache.proofs.Replying.{spent_taken, status_taken, idle_behind}
use Rattle.afs_cache.proofs.node.CacheManager.take_seen.Goals as goal

pub returns-in_default : goal.returns-in_default
returns-in_default c =
    let old = c.args.self.now in
    idle_behind (λ (place : ℕ) (act : Going). shows_status old.node old.state.client c.args.now place act (cache_entry_told old.state.client.callee c.args.fid c.args.status.now c.args.callback.now c.args.sync.now None)) c.args.lines old old c.ignore_behind.result c.in_default.ensures c.ignore_behind.ensures

pub returns-then-not-usable : goal.returns-then-not-usable
returns-then-not-usable c =
    let old = c.args.self.now in
    let st = old.state.client in
    let entry = cache_entry_told st.callee c.args.fid c.args.status.now c.args.callback.now c.args.sync.now None in
    spent_taken old.node st (is_trusted c.args.now entry)
    (λ (place : ℕ) (act : Going). goes_on old.node st (read_lines old.node place (look_at Fetched entry (seen.Status entry.status))) (not_walked (with_read c.args.fid (seen.Status entry.status) act) (put_entry st.capacity entry st.cache)))
    c.args.lines old c.call_again_behind.new.self c.call_again_behind.result (sym c.if-not-usable.true ∙ c.is_usable-usable.ensures) c.call_again_behind.ensures

pub returns : goal.returns
returns c =
    let old = c.args.self.now in
    let st = old.state.client in
    let entry = cache_entry_told st.callee c.args.fid c.args.status.now c.args.callback.now c.args.sync.now None in
    let all = map entry_of c.in_ok-all.all.items in
    goes_taken (λ (front : List Line → List Line). goes_on old.node st front (not_walked c.in_ok-going.field-0.going (put_entries st.capacity all st.cache)))
    (λ (place : ℕ). telling c.args.lines (by_act st place (λ (act : Going). shows_status old.node st c.args.now place act entry) st.running)) c.in_ok-going.field-0.lines old c.go_with.new.self c.go_with.result
    (λ place. status_taken old.node st c.args.now place c.in-Some.asked.now c.args.lines c.in_ok-going.field-0.lines c.in_ok-going.field-0.going all entry c.in-Some.ensures (c.in_ok-going.ensures.lines ∙ ap (λ (x : ReadStatus). c.args.lines ++ lines.Read old.node c.args.fid c.args.status.now.sync_counter Fetched (seen.Status x) ∷ []) c.status_told.ensures) (c.in_ok-going.ensures.going ∙ ap (λ (x : ReadStatus). with_read c.args.fid (seen.Status x) c.in-Some.asked.now.going) c.status_told.ensures) (c.in_ok-all.ensures ∙ ap (λ (e : CacheEntry). e ∷ []) c.fresh-fresh.ensures.value) (sym c.if-not-usable.false ∙ c.is_usable-usable.ensures)) c.go_with.ensures
