use Rattle.std.proofs.Common.{refl}
use Rattle.spec_model.specs.Messages.{received_by}
use Rattle.afs_locdb.specs.Handling.{loc_calls_served, loc_decided_then}
use Rattle.afs_locdb.specs.Seen.{loc_seen}
use Rattle.afs_locdb.proofs.Wholly.{called_after, done_after, left_down, serves_after, some_down, step_at, store_after, told_after, prepared_after}
use Rattle.afs_locdb.proofs.database.LocDb.handle.Goals as goal

pub returns-clause-step : goal.returns-clause-step
returns-clause-step g c place = step_at (loc_decided_then c.args.self.now c.args.bytes.now) c.args.self.now c.take_bytes.new.self place (received_by loc_calls_served c.args.bytes.now) c.take_bytes.result refl c.take_bytes.ensures.does

pub take_bytes-requires-clause-serves : goal.take_bytes-requires-clause-serves
take_bytes-requires-clause-serves g c = c.requires.serves.here

pub returns-clause-serves : goal.returns-clause-serves
returns-clause-serves g c =
    serves_after (loc_decided_then c.args.self.now c.args.bytes.now) c.args.self.now c.take_bytes.new.self (received_by loc_calls_served c.args.bytes.now) c.take_bytes.result refl c.requires.serves.settled c.take_bytes.ensures.does

pub returns-clause-store : goal.returns-clause-store
returns-clause-store g c = store_after (loc_decided_then c.args.self.now c.args.bytes.now) c.args.self.now c.take_bytes.new.self c.take_bytes.result c.take_bytes.ensures.does

pub returns-clause-kept : goal.returns-clause-kept
returns-clause-kept g c = done_after (loc_decided_then c.args.self.now c.args.bytes.now) c.args.self.now c.take_bytes.new.self c.take_bytes.result c.take_bytes.ensures.does

pub returns-clause-prepared : goal.returns-clause-prepared
returns-clause-prepared g c = prepared_after (loc_decided_then c.args.self.now c.args.bytes.now) c.args.self.now c.take_bytes.new.self c.take_bytes.result c.take_bytes.ensures.does

pub returns-clause-down : goal.returns-clause-down
returns-clause-down g c = some_down (loc_decided_then c.args.self.now c.args.bytes.now) c.args.self.now c.take_bytes.new.self c.take_bytes.result c.take_bytes.ensures.does

pub returns-clause-interrupted : goal.returns-clause-interrupted
returns-clause-interrupted g c = left_down (loc_decided_then c.args.self.now c.args.bytes.now) c.args.self.now c.take_bytes.new.self c.take_bytes.result c.take_bytes.ensures.does

pub returns-clause-told : goal.returns-clause-told
returns-clause-told g c = c.take_bytes.ensures.disk.told

pub returns-clause-quiet : goal.returns-clause-quiet
returns-clause-quiet g c = c.take_bytes.ensures.disk.quiet

pub returns-clause-any_moment : goal.returns-clause-any_moment
returns-clause-any_moment g c = c.take_bytes.ensures.disk.any_moment

pub returns-clause-reached : goal.returns-clause-reached
returns-clause-reached g c = c.take_bytes.ensures.disk.reached

pub returns-clause-left : goal.returns-clause-left
returns-clause-left g c = c.take_bytes.ensures.disk.left

pub returns-clause-fits : goal.returns-clause-fits
returns-clause-fits g c = c.take_bytes.ensures.disk.fits

pub returns-clause-effects : goal.returns-clause-effects
returns-clause-effects g c = told_after (loc_decided_then c.args.self.now c.args.bytes.now) c.args.self.now c.take_bytes.result

pub returns-clause-most : goal.returns-clause-most
returns-clause-most g c = c.take_bytes.ensures.disk.most

pub returns-clause-limit : goal.returns-clause-limit
returns-clause-limit g c = c.take_bytes.ensures.disk.limited

pub returns-clause-calls : goal.returns-clause-calls
returns-clause-calls g c = called_after (loc_seen c.args.self.now) (loc_decided_then c.args.self.now c.args.bytes.now) c.args.self.now.store.durable c.take_bytes.result _ _ c.take_bytes.ensures.disk.called

pub returns-clause-ran : goal.returns-clause-ran
returns-clause-ran g c = c.take_bytes.ensures.disk.ran

pub returns-clause-setting : goal.returns-clause-setting
returns-clause-setting g c = c.take_bytes.ensures.disk.set
