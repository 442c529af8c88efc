use Rattle.std.proofs.Common.{◌≡◌, ◌<◌, ◌+◌, ℕ, Bool, true, false, cond, ◌||◌, ◌&&◌, List, [], ◌∷◌, ◌++◌, map, filter, Option, Some, None, Ok, Err, refl, ap, sym, subst, ◌∙◌}
use Rattle.afs_num.specs.declared.calls.FsCall.{FsCall}
use Rattle.spec_rows.specs.Going.{Going}
use Rattle.afs_cache.proofs.Replying.{reading_as}
use Rattle.afs_cache.proofs.Siting.{reads_none}
use Rattle.afs_cache.proofs.node.CacheManager.take_reading.Goals as goal

pub returns-in-FetchData : goal.returns-in-FetchData
returns-in-FetchData c =
    let old = c.args.self.now in
    reading_as old.node old.state.client c.args.now _ c.args.reply c.args.lines old c.take_data.new.self c.take_data.result (sym c.in-FetchData.is) c.take_data.ensures

pub returns-in-FetchAcl : goal.returns-in-FetchAcl
returns-in-FetchAcl c =
    let old = c.args.self.now in
    reading_as old.node old.state.client c.args.now _ c.args.reply c.args.lines old c.take_rights.new.self c.take_rights.result (sym c.in-FetchAcl.is) (c.take_rights.ensures c.args.now)

pub returns-in-FetchStatus : goal.returns-in-FetchStatus
returns-in-FetchStatus c =
    let old = c.args.self.now in
    reading_as old.node old.state.client c.args.now _ c.args.reply c.args.lines old c.take_shown.new.self c.take_shown.result (sym c.in-FetchStatus.is) c.take_shown.ensures

pub returns-in-BulkStatus : goal.returns-in-BulkStatus
returns-in-BulkStatus c =
    let old = c.args.self.now in
    reading_as old.node old.state.client c.args.now _ c.args.reply c.args.lines old c.take_bulk.new.self c.take_bulk.result (sym c.in-BulkStatus.is) c.take_bulk.ensures

pub returns : goal.returns
returns c = absurd (reads_none c.args.reply c.in_default.not-FetchData c.in_default.not-FetchAcl c.in_default.not-FetchStatus c.in_default.not-BulkStatus c.requires.reads)
