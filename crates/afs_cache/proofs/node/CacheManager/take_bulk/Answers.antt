use Rattle.afs_entries.specs.Cached.{entry_of}
use Rattle.std.proofs.Common.{◌≡◌, ℕ, List, [], ◌∷◌, ◌++◌, Some, None, true, false, ap, map, filter, sym, ◌∙◌}
use Rattle.afs_num.specs.declared.calls.FsCall.{FsCall}
use Rattle.spec_rows.specs.Going.{ClientState, Going}
use Rattle.spec_rows.specs.States.{CacheEntry}
use Rattle.spec_rows.specs.ClientRow.{call_of, entries_told, takes_bulk, takes_plain}
use Rattle.afs_cache.specs.Wanted.{shows_statuses, statuses_wanted}
use Rattle.afs_cache.proofs.Replying.{bulk_as, bulk_none, none_behind, some_behind}
use Rattle.afs_cache.proofs.node.CacheManager.take_bulk.Goals as goal

pub returns-in_ok-all-in-Some : goal.returns-in_ok-all-in-Some
returns-in_ok-all-in-Some c =
    let old = c.args.self.now in
    let st = old.state.client in
    let all = map entry_of c.in_ok-all-in-Some.all.items in
    some_behind statuses_wanted st c.in-Some.fids.now (λ (place : ℕ) (act : Going) (call : FsCall). shows_statuses old.node st c.args.now place act all)
    (λ (place : ℕ) (act : Going). takes_bulk old.node st c.args.now place act c.args.statuses.now c.args.callbacks.now c.args.sync.now) c.args.lines old c.take_all.new.self c.take_all.result c.in-Some.ensures
    (λ place act e. ap (shows_statuses old.node st c.args.now place act) c.in_ok-all-in-Some.ensures ∙ bulk_as old.node st c.args.now place act c.args.statuses.now c.args.callbacks.now c.args.sync.now c.in-Some.fids.now e) c.take_all.ensures

pub returns-in-None : goal.returns-in-None
returns-in-None c =
    let old = c.args.self.now in
    let st = old.state.client in
    none_behind statuses_wanted st (λ (place : ℕ) (act : Going). takes_plain old.node st place)
    (λ (place : ℕ) (act : Going). takes_bulk old.node st c.args.now place act c.args.statuses.now c.args.callbacks.now c.args.sync.now) c.args.lines old c.take_plain_behind.new.self c.take_plain_behind.result c.in-None.ensures
    (λ place act e. bulk_none old.node st c.args.now place act c.args.statuses.now c.args.callbacks.now c.args.sync.now (call_of st act) e) c.take_plain_behind.ensures
