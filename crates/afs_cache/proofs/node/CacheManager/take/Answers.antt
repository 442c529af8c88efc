use Rattle.afs_num.specs.declared.calls.FsCall.{FsCall}
use Rattle.spec_rows.specs.Going.{ClientState, Going}
use Rattle.spec_rows.specs.ClientRow.{takes, takes_plain}
use Rattle.afs_cache.specs.Managing.{by_call}
use Rattle.afs_cache.proofs.Answering.{takes_same}
use Rattle.std.proofs.Common.{◌≡◌, ℕ, List, [], ◌∷◌, ◌++◌, Some, None, true, false, ap, map, filter, sym, ◌∙◌}
use Rattle.afs_cache.proofs.Replying.{each_call, others_as, taken_as, used_as}
use Rattle.afs_cache.proofs.node.CacheManager.take.Goals as goal

pub returns-in-FetchData : goal.returns-in-FetchData
returns-in-FetchData c =
    let old = c.args.self.now in
    used_as old.node old.state.client c.args.now _ c.args.reply c.no_lines-lines.result old c.take_data.new.self c.take_data.result (sym c.in-FetchData.is) c.no_lines-lines.ensures c.take_data.ensures

pub returns-in-FetchAcl : goal.returns-in-FetchAcl
returns-in-FetchAcl c =
    let old = c.args.self.now in
    used_as old.node old.state.client c.args.now _ c.args.reply c.no_lines-lines.result old c.take_rights.new.self c.take_rights.result (sym c.in-FetchAcl.is) c.no_lines-lines.ensures (c.take_rights.ensures c.args.now)

pub returns-in-FetchStatus : goal.returns-in-FetchStatus
returns-in-FetchStatus c =
    let old = c.args.self.now in
    used_as old.node old.state.client c.args.now _ c.args.reply c.no_lines-lines.result old c.take_shown.new.self c.take_shown.result (sym c.in-FetchStatus.is) c.no_lines-lines.ensures c.take_shown.ensures

pub returns-in-BulkStatus : goal.returns-in-BulkStatus
returns-in-BulkStatus c =
    let old = c.args.self.now in
    used_as old.node old.state.client c.args.now _ c.args.reply c.no_lines-lines.result old c.take_bulk.new.self c.take_bulk.result (sym c.in-BulkStatus.is) c.no_lines-lines.ensures c.take_bulk.ensures

pub returns-in-StoreData : goal.returns-in-StoreData
returns-in-StoreData c =
    let old = c.args.self.now in
    taken_as old.node old.state.client c.args.now _ c.args.reply old c.take_set.new.self c.take_set.result (sym c.in-StoreData.is) c.take_set.ensures

pub returns-in-StoreAcl : goal.returns-in-StoreAcl
returns-in-StoreAcl c =
    let old = c.args.self.now in
    taken_as old.node old.state.client c.args.now _ c.args.reply old c.take_set-in-StoreAcl.new.self c.take_set-in-StoreAcl.result (sym c.in-StoreAcl.is) c.take_set-in-StoreAcl.ensures

pub returns-in-StoreStatus : goal.returns-in-StoreStatus
returns-in-StoreStatus c =
    let old = c.args.self.now in
    taken_as old.node old.state.client c.args.now _ c.args.reply old c.take_set-in-StoreStatus.new.self c.take_set-in-StoreStatus.result (sym c.in-StoreStatus.is) c.take_set-in-StoreStatus.ensures

pub returns-in-GiveUpCallBacks : goal.returns-in-GiveUpCallBacks
returns-in-GiveUpCallBacks c =
    let old = c.args.self.now in
    taken_as old.node old.state.client c.args.now _ c.args.reply old c.take_given.new.self c.take_given.result (sym c.in-GiveUpCallBacks.is) c.take_given.ensures

pub returns : goal.returns
returns c =
    let old = c.args.self.now in
    let st = old.state.client in
    takes_same (λ (place : ℕ). by_call st place (λ (act : Going). takes_plain old.node st place) st.running) (λ (place : ℕ). by_call st place (λ (act : Going) (call : FsCall). takes old.node st c.args.now place act call c.args.reply) st.running) old c.take_plain.new.self c.take_plain.result
    (λ place. each_call st place (λ (act : Going). takes_plain old.node st place) (λ (act : Going) (call : FsCall). takes old.node st c.args.now place act call c.args.reply) st.running
    (λ act call. others_as old.node st c.args.now place act call c.args.reply c.in_default.not-FetchData c.in_default.not-FetchAcl c.in_default.not-FetchStatus c.in_default.not-BulkStatus c.in_default.not-StoreData c.in_default.not-StoreAcl c.in_default.not-StoreStatus c.in_default.not-GiveUpCallBacks))
    c.take_plain.ensures
