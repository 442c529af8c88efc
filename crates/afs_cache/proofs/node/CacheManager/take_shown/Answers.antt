use Rattle.std.proofs.Common.{◌≡◌, ℕ, List, [], ◌∷◌, ◌++◌, Some, None, true, false, ap, map, filter, sym, ◌∙◌}
use Rattle.afs_num.specs.declared.calls.FsCall.{FsCall}
use Rattle.spec_rows.specs.Going.{ClientState, Going}
use Rattle.spec_rows.specs.ClientRow.{call_of, cache_entry_told, takes_plain, takes_shown}
use Rattle.afs_cache.specs.Wanted.{shows_status, status_wanted}
use Rattle.afs_cache.proofs.Replying.{none_behind, some_behind, status_as, status_none}
use Rattle.afs_cache.proofs.node.CacheManager.take_shown.Goals as goal

pub returns-in-Some : goal.returns-in-Some
returns-in-Some c =
    let old = c.args.self.now in
    let st = old.state.client in
    some_behind status_wanted st c.in-Some.fid
    (λ (place : ℕ) (act : Going) (call : FsCall). shows_status old.node st c.args.now place act (cache_entry_told st.callee c.in-Some.fid c.args.status.now c.args.callback.now c.args.sync.now None))
    (λ (place : ℕ) (act : Going). takes_shown old.node st c.args.now place act c.args.status.now c.args.callback.now c.args.sync.now) c.args.lines old c.take_seen.new.self c.take_seen.result c.in-Some.ensures
    (λ place act e. status_as old.node st c.args.now place act c.args.status.now c.args.callback.now c.args.sync.now c.in-Some.fid e) c.take_seen.ensures

pub returns-in-None : goal.returns-in-None
returns-in-None c =
    let old = c.args.self.now in
    let st = old.state.client in
    none_behind status_wanted st (λ (place : ℕ) (act : Going). takes_plain old.node st place)
    (λ (place : ℕ) (act : Going). takes_shown old.node st c.args.now place act c.args.status.now c.args.callback.now c.args.sync.now) c.args.lines old c.take_plain_behind.new.self c.take_plain_behind.result c.in-None.ensures
    (λ place act e. status_none old.node st c.args.now place act c.args.status.now c.args.callback.now c.args.sync.now (call_of st act) e) c.take_plain_behind.ensures
