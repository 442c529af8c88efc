use Rattle.std.proofs.Common.{◌≡◌, ℕ, List, [], ◌∷◌, ◌++◌, Some, None, true, false, ap, map, filter, sym, ◌∙◌}
use Rattle.afs_num.specs.declared.calls.FsCall.{FsCall}
use Rattle.afs_num.specs.declared.histories.ReadBody.TheVariants as seen
use Rattle.spec_rows.specs.Going.{ClientState, Going}
use Rattle.spec_rows.specs.ClientRow.{body_told, call_of, cache_entry_told, takes_data, takes_entry, takes_plain}
use Rattle.afs_cache.specs.Wanted.{body_wanted}
use Rattle.afs_cache.proofs.Replying.{data_as, none_behind, some_behind}
use Rattle.afs_cache.proofs.node.CacheManager.take_data.Goals as goal

pub returns-in-Some : goal.returns-in-Some
returns-in-Some c =
    let old = c.args.self.now in
    let st = old.state.client in
    some_behind body_wanted st c.in-Some.fid
    (λ (place : ℕ) (act : Going) (call : FsCall). takes_entry old.node st c.args.now place act (cache_entry_told st.callee c.in-Some.fid c.args.status.now c.args.callback.now c.args.sync.now (Some (body_told c.args.status.now.file_type c.args.contents))) (seen.Contents (body_told c.args.status.now.file_type c.args.contents)))
    (λ (place : ℕ) (act : Going). takes_data old.node st c.args.now place act c.args.contents c.args.status.now c.args.callback.now c.args.sync.now) c.args.lines old c.take_body.new.self c.take_body.result c.in-Some.ensures
    (λ place act e. data_as old.node st c.args.now place act c.args.contents c.args.status.now c.args.callback.now c.args.sync.now (call_of st act) (Some c.in-Some.fid) e) c.take_body.ensures

pub returns-in-None : goal.returns-in-None
returns-in-None c =
    let old = c.args.self.now in
    let st = old.state.client in
    none_behind body_wanted st (λ (place : ℕ) (act : Going). takes_plain old.node st place)
    (λ (place : ℕ) (act : Going). takes_data old.node st c.args.now place act c.args.contents c.args.status.now c.args.callback.now c.args.sync.now) c.args.lines old c.take_plain_behind.new.self c.take_plain_behind.result c.in-None.ensures
    (λ place act e. data_as old.node st c.args.now place act c.args.contents c.args.status.now c.args.callback.now c.args.sync.now (call_of st act) None e) c.take_plain_behind.ensures
