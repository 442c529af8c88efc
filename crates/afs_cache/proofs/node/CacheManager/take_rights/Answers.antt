use Rattle.std.proofs.Common.{◌≡◌, ℕ, List, [], ◌∷◌, ◌++◌, Some, None, true, false, ap, map, filter, sym, ◌∙◌}
use Rattle.afs_num.specs.declared.calls.FsCall.{FsCall}
use Rattle.spec_rows.specs.Going.{ClientState, Going}
use Rattle.spec_rows.specs.ClientRow.{call_of, takes_list, takes_plain}
use Rattle.afs_cache.specs.Wanted.{rights_wanted, shows_rights}
use Rattle.afs_cache.proofs.Replying.{none_behind, rights_as, rights_none, some_behind}
use Rattle.afs_cache.proofs.node.CacheManager.take_rights.Goals as goal

pub returns-in-Some : goal.returns-in-Some
returns-in-Some c clock =
    let old = c.args.self.now in
    let st = old.state.client in
    some_behind rights_wanted st c.in-Some.fid
    (λ (place : ℕ) (act : Going) (call : FsCall). shows_rights old.node st place act c.in-Some.fid c.args.status.now.sync_counter c.args.sync.now.release c.args.text)
    (λ (place : ℕ) (act : Going). takes_list old.node st clock place act c.args.text c.args.status.now c.args.sync.now) c.args.lines old c.take_list.new.self c.take_list.result c.in-Some.ensures
    (λ place act e. rights_as old.node st clock place act c.args.text c.args.status.now c.args.sync.now c.in-Some.fid e) c.take_list.ensures

pub returns-in-None : goal.returns-in-None
returns-in-None c clock =
    let old = c.args.self.now in
    let st = old.state.client in
    none_behind rights_wanted st (λ (place : ℕ) (act : Going). takes_plain old.node st place)
    (λ (place : ℕ) (act : Going). takes_list old.node st clock place act c.args.text c.args.status.now c.args.sync.now) c.args.lines old c.take_plain_behind.new.self c.take_plain_behind.result c.in-None.ensures
    (λ place act e. rights_none old.node st clock place act c.args.text c.args.status.now c.args.sync.now (call_of st act) e) c.take_plain_behind.ensures
