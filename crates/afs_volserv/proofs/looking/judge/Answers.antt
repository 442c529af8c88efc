use Rattle.afs_volserv.specs.Seen.{durable_seen}
use Rattle.afs_volanswers.proofs.Looked.{made_as_written}
use Rattle.afs_volserv.proofs.looking.judge.Goals as goal

pub returns-clause-decides : goal.returns-clause-decides
returns-clause-decides g c =
    (c.in_ok-verdict.ensures (durable_seen c.args.store.now) (record { named_is = c.find_named-named.ensures; held_is = c.find_held-held.ensures.held; room_is = c.has_room-has_room.ensures; listed_is = c.in_ok-listed.ensures.list })).decides

pub returns-clause-told : goal.returns-clause-told
returns-clause-told g c =
    (c.in_ok-verdict.ensures (durable_seen c.args.store.now) (record { named_is = c.find_named-named.ensures; held_is = c.find_held-held.ensures.held; room_is = c.has_room-has_room.ensures; listed_is = c.in_ok-listed.ensures.list })).told

pub returns-clause-made : goal.returns-clause-made
returns-clause-made g c =
    made_as_written c.args.store.now.durable c.find_held-held.result c.in_ok-verdict.verdict c.find_held-held.ensures.there
    (c.in_ok-verdict.ensures (durable_seen c.args.store.now) (record { named_is = c.find_named-named.ensures; held_is = c.find_held-held.ensures.held; room_is = c.has_room-has_room.ensures; listed_is = c.in_ok-listed.ensures.list })).made
