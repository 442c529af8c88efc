use Rattle.std.proofs.Common.{◌≡◌, ◌+◌, ℕ, ap, subst, ◌∙◌}
use Rattle.std.specs.Prelude.{OnOk}
use Rattle.spec_model.specs.Messages.{received_by}
use Rattle.spec_rows.specs.Callbacks as row
use Rattle.spec_rows.specs.Callbacks.{turned_in}
use Rattle.spec_rows.specs.ServerRow.{device_calls}
use Rattle.spec_volrows.specs.FileRow.{file_decides}
use Rattle.afs_server.specs.Handling.{calls_served, holds_seen, server_seen}
use Rattle.afs_server.proofs.Wholly.{calls_decided, called_after, done_after, draws_after, left_down, serves_after, some_down, step_at, store_after, told_after, prepared_after}
use Rattle.afs_server.proofs.server.FileServer.handle.Goals as goal

pub returns-clause-step : goal.returns-clause-step
returns-clause-step g c place =
    step_at c.args.now place (received_by calls_served c.args.bytes.now) c.args.self.now c.take_bytes.new.self c.args.store.now c.take_bytes.new.store c.take_bytes.result c.take_bytes.ensures.does

pub returns-clause-serves : goal.returns-clause-serves
returns-clause-serves g c =
    let s = c.args.store.now in
    let d = file_decides s.node (holds_seen s) (server_seen c.args.self.now s) c.args.now (received_by calls_served c.args.bytes.now) in
    let turn = turned_in s.node (server_seen c.args.self.now s) c.args.now (row.expired c.args.now (server_seen c.args.self.now s).backs) d (received_by calls_served c.args.bytes.now) in
    serves_after c.args.now d turn c.args.self.now c.take_bytes.new.self s c.take_bytes.new.store c.take_bytes.result c.take_bytes.ensures.does

pub returns-clause-store : goal.returns-clause-store
returns-clause-store g c =
    let s = c.args.store.now in
    let d = file_decides s.node (holds_seen s) (server_seen c.args.self.now s) c.args.now (received_by calls_served c.args.bytes.now) in
    let turn = turned_in s.node (server_seen c.args.self.now s) c.args.now (row.expired c.args.now (server_seen c.args.self.now s).backs) d (received_by calls_served c.args.bytes.now) in
    store_after c.args.now d turn c.args.self.now c.take_bytes.new.self s c.take_bytes.new.store c.take_bytes.result c.take_bytes.ensures.does

pub returns-clause-kept : goal.returns-clause-kept
returns-clause-kept g c =
    let s = c.args.store.now in
    let d = file_decides s.node (holds_seen s) (server_seen c.args.self.now s) c.args.now (received_by calls_served c.args.bytes.now) in
    let turn = turned_in s.node (server_seen c.args.self.now s) c.args.now (row.expired c.args.now (server_seen c.args.self.now s).backs) d (received_by calls_served c.args.bytes.now) in
    done_after c.args.now d turn c.args.self.now c.take_bytes.new.self s c.take_bytes.new.store c.take_bytes.result c.take_bytes.ensures.does

pub returns-clause-prepared : goal.returns-clause-prepared
returns-clause-prepared g c =
    let s = c.args.store.now in
    let d = file_decides s.node (holds_seen s) (server_seen c.args.self.now s) c.args.now (received_by calls_served c.args.bytes.now) in
    let turn = turned_in s.node (server_seen c.args.self.now s) c.args.now (row.expired c.args.now (server_seen c.args.self.now s).backs) d (received_by calls_served c.args.bytes.now) in
    prepared_after c.args.now d turn c.args.self.now c.take_bytes.new.self s c.take_bytes.new.store c.take_bytes.result c.take_bytes.ensures.does

pub returns-clause-draws : goal.returns-clause-draws
returns-clause-draws g c =
    let s = c.args.store.now in
    let d = file_decides s.node (holds_seen s) (server_seen c.args.self.now s) c.args.now (received_by calls_served c.args.bytes.now) in
    draws_after c.args.now d (received_by calls_served c.args.bytes.now) c.args.self.now c.take_bytes.new.self s c.take_bytes.new.store c.take_bytes.result c.take_bytes.ensures.does

pub returns-clause-down : goal.returns-clause-down
returns-clause-down g c =
    let s = c.args.store.now in
    let d = file_decides s.node (holds_seen s) (server_seen c.args.self.now s) c.args.now (received_by calls_served c.args.bytes.now) in
    let turn = turned_in s.node (server_seen c.args.self.now s) c.args.now (row.expired c.args.now (server_seen c.args.self.now s).backs) d (received_by calls_served c.args.bytes.now) in
    some_down c.args.now d turn c.args.self.now c.take_bytes.new.self s c.take_bytes.new.store c.take_bytes.result c.take_bytes.ensures.does

pub returns-clause-interrupted : goal.returns-clause-interrupted
returns-clause-interrupted g c =
    let s = c.args.store.now in
    let d = file_decides s.node (holds_seen s) (server_seen c.args.self.now s) c.args.now (received_by calls_served c.args.bytes.now) in
    let turn = turned_in s.node (server_seen c.args.self.now s) c.args.now (row.expired c.args.now (server_seen c.args.self.now s).backs) d (received_by calls_served c.args.bytes.now) in
    left_down c.args.now d turn c.args.self.now c.take_bytes.new.self s c.take_bytes.new.store c.take_bytes.result c.take_bytes.ensures.does

pub returns-clause-quiet : goal.returns-clause-quiet
returns-clause-quiet g c = c.take_bytes.ensures.disk.quiet

pub returns-clause-any_moment : goal.returns-clause-any_moment
returns-clause-any_moment g c = c.take_bytes.ensures.disk.any_moment

pub returns-clause-reached : goal.returns-clause-reached
returns-clause-reached g c = c.take_bytes.ensures.disk.reached

pub returns-clause-left : goal.returns-clause-left
returns-clause-left g c = c.take_bytes.ensures.disk.left

pub returns-clause-fits : goal.returns-clause-fits
returns-clause-fits g c = c.take_bytes.ensures.disk.fits

pub returns-clause-told : goal.returns-clause-told
returns-clause-told g c = c.take_bytes.ensures.disk.told

pub returns-clause-effects : goal.returns-clause-effects
returns-clause-effects g c r written ls =
    let s = c.args.store.now in
    let d = file_decides s.node (holds_seen s) (server_seen c.args.self.now s) c.args.now (received_by calls_served c.args.bytes.now) in
    let turn = turned_in s.node (server_seen c.args.self.now s) c.args.now (row.expired c.args.now (server_seen c.args.self.now s).backs) d (received_by calls_served c.args.bytes.now) in
    told_after c.args.now d turn c.args.self.now c.take_bytes.new.self s c.take_bytes.new.store c.take_bytes.result c.take_bytes.ensures.does r written ls

pub returns-clause-most : goal.returns-clause-most
returns-clause-most g c = c.take_bytes.ensures.disk.most

pub returns-clause-limit : goal.returns-clause-limit
returns-clause-limit g c = c.take_bytes.ensures.disk.limited

pub returns-clause-ran : goal.returns-clause-ran
returns-clause-ran g c = c.take_bytes.ensures.disk.ran

pub returns-clause-setting : goal.returns-clause-setting
returns-clause-setting g c = c.take_bytes.ensures.disk.set

pub returns-clause-calls : goal.returns-clause-calls
returns-clause-calls g c =
    let s = c.args.store.now in
    let d = file_decides s.node (holds_seen s) (server_seen c.args.self.now s) c.args.now (received_by calls_served c.args.bytes.now) in
    called_after (server_seen c.args.self.now s) s.durable c.args.now d c.take_bytes.result _ _ c.take_bytes.ensures.disk.called
