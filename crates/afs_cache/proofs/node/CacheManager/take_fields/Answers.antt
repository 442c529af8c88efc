use Rattle.std.proofs.Common.{◌≡◌, ℕ, List, Some, None, ap, sym}
use Rattle.spec_rows.specs.Going.{ClientState, Going}
use Rattle.afs_num.specs.declared.calls.FsCall.{FsCall}
use Rattle.spec_rows.specs.ClientRow.{call_of, takes_plain, takes_status}
use Rattle.afs_cache.specs.Wanted.{fields_by, fields_stored, takes_fields}
use Rattle.afs_cache.proofs.Replying.{none_taken, some_taken}
use Rattle.afs_cache.proofs.node.CacheManager.take_fields.Goals as goal

pub returns-in-Some : goal.returns-in-Some
returns-in-Some c =
    let old = c.args.self.now in
    let st = old.state.client in
    some_taken fields_stored st c.in-Some.fid (λ (place : ℕ) (act : Going). takes_status old.node st c.args.now place c.in-Some.fid c.args.status.now) (λ (place : ℕ) (act : Going). takes_fields old.node st c.args.now place c.args.status.now)
    old c.take_status.new.self c.take_status.result c.in-Some.ensures (λ place act e. ap (fields_by old.node st c.args.now place c.args.status.now (call_of st act)) e) c.take_status.ensures

pub returns-in-None : goal.returns-in-None
returns-in-None c =
    let old = c.args.self.now in
    let st = old.state.client in
    none_taken fields_stored st (λ (place : ℕ) (act : Going). takes_plain old.node st place) (λ (place : ℕ) (act : Going). takes_fields old.node st c.args.now place c.args.status.now)
    old c.take_plain.new.self c.take_plain.result c.in-None.ensures (λ place act e. ap (fields_by old.node st c.args.now place c.args.status.now (call_of st act)) e) c.take_plain.ensures
