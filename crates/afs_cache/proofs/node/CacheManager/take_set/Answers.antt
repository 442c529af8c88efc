use Rattle.std.proofs.Common.{◌≡◌, ℕ, List, Some, None, ap, sym, ◌∙◌}
use Rattle.std.specs.Option.{option_map}
use Rattle.afs_num.specs.declared.types.Fid.{Fid}
use Rattle.spec_rows.specs.Going.{ClientState, Going}
use Rattle.spec_rows.specs.ClientRow.{call_of, takes_bytes, takes_set}
use Rattle.afs_cache.specs.Wanted.{bytes_stored, takes_fields}
use Rattle.afs_cache.specs.declared.storing.Stored.{Stored}
use Rattle.afs_cache.proofs.Replying.{none_taken, set_as, some_taken}
use Rattle.afs_cache.proofs.node.CacheManager.take_set.Goals as goal

pub returns-in-Some : goal.returns-in-Some
returns-in-Some c =
    let old = c.args.self.now in
    let st = old.state.client in
    let x : Fid × List ℕ = (c.in-Some.stored.fid, c.in-Some.stored.contents) in
    some_taken bytes_stored st x (λ (place : ℕ) (act : Going). takes_bytes old.node st c.args.now place x.0 c.args.status.now x.1) (λ (place : ℕ) (act : Going). takes_set old.node st c.args.now place c.args.status.now) old c.take_bytes.new.self c.take_bytes.result
    (ap (option_map (λ (s : Stored). (s.fid, s.contents))) (sym c.in-Some.is) ∙ c.in_ok-stored.ensures)
    (λ place act e. set_as old.node st c.args.now place c.args.status.now (call_of st act) (Some x) e) c.take_bytes.ensures

pub returns-in-None : goal.returns-in-None
returns-in-None c =
    let old = c.args.self.now in
    let st = old.state.client in
    none_taken bytes_stored st (λ (place : ℕ) (act : Going). takes_fields old.node st c.args.now place c.args.status.now) (λ (place : ℕ) (act : Going). takes_set old.node st c.args.now place c.args.status.now) old c.take_fields.new.self c.take_fields.result
    (ap (option_map (λ (s : Stored). (s.fid, s.contents))) (sym c.in-None.is) ∙ c.in_ok-stored.ensures)
    (λ place act e. set_as old.node st c.args.now place c.args.status.now (call_of st act) None e) c.take_fields.ensures
