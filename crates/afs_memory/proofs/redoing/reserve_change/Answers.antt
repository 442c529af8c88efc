use Rattle.std.proofs.Common.{◌∙◌, ap, sym, subst, arith, is_some}
use Rattle.afs_seats.specs.Seated.{seen_as, Seated}
use Rattle.afs_volume.specs.Taking.{HasRoom}
use Rattle.afs_memory.specs.States.{HasRoomIn}
use Rattle.afs_shelves.proofs.Lists.{on_ok}
use Rattle.afs_shelves.proofs.Numbers.{put_numbered}
use Rattle.afs_shelves.specs.Numbered.{shelf_number, AreShelved}
use Rattle.afs_shelves.specs.Shelving.{shelved}
use Rattle.afs_shelves.specs.declared.shelf.Shelf.{Shelf}
use Rattle.afs_memory.proofs.Redone.{its_room, keeps_same, no_room_needed, same_seen, still_room}
use Rattle.afs_memory.proofs.redoing.reserve_change.Goals as goal

pub returns-in-Ok-clause-room : goal.returns-in-Ok-clause-room
returns-in-Ok-clause-room c =
    on_ok c.reserved-shelf.result.1 (HasRoom c.reserved-shelf.result.0.volume c.args.change.now) (HasRoomIn c.put.new.self.table c.args.id c.args.change.now)
    (λ room x e. its_room c.args.id c.reserved-shelf.result.0 x c.take.new.self.table c.put.new.self.table c.args.change.now c.in-Ok.ensures.ok room e) c.reserved-shelf.ensures.room

pub returns-in-Ok-clause-same : goal.returns-in-Ok-clause-same
returns-in-Ok-clause-same c =
    same_seen c.args.id c.in-Some.shelf c.reserved-shelf.result.0 c.args.volumes.now.table c.take.new.self.table c.put.new.self.table c.take.ensures.ascends (sym c.take.ensures.value ∙ c.in-Some.is) c.reserved-shelf.ensures.stored c.take.ensures.table c.in-Ok.ensures.ok

pub returns-in-Ok-clause-numbered : goal.returns-in-Ok-clause-numbered
returns-in-Ok-clause-numbered c =
    put_numbered shelf_number c.args.id c.in-Some.shelf c.reserved-shelf.result.0 c.args.volumes.now.table c.take.new.self.table c.put.new.self.table c.requires.numbered (sym c.take.ensures.value ∙ c.in-Some.is) c.reserved-shelf.ensures.id c.take.ensures.table c.in-Ok.ensures.ok

pub returns-in-Ok-clause-keeps : goal.returns-in-Ok-clause-keeps
returns-in-Ok-clause-keeps c = record {
  room = omega (arith, c.take.ensures.room (ap is_some c.in-Some.is), c.in-Ok.ensures.room);
  changes = still_room c.args.id c.in-Some.shelf c.reserved-shelf.result.0 c.args.volumes.now.table c.take.new.self.table c.put.new.self.table (sym c.take.ensures.value ∙ c.in-Some.is) c.reserved-shelf.ensures.keeps c.take.ensures.table c.in-Ok.ensures.ok;
}

pub returns-in-None-clause-room : goal.returns-in-None-clause-room
returns-in-None-clause-room c = no_room_needed c.args.id c.args.volumes.now.table c.take.new.self.table c.args.change.now (ap (λ (s : Seated Shelf). s.table) c.in-None.ensures.untouched) (sym c.take.ensures.value ∙ c.in-None.is)

pub returns-in-None-clause-same : goal.returns-in-None-clause-same
returns-in-None-clause-same c = ap (λ (s : Seated Shelf). seen_as shelved s.table) c.in-None.ensures.untouched

pub returns-in-None-clause-numbered : goal.returns-in-None-clause-numbered
returns-in-None-clause-numbered c = subst (λ (s : Seated Shelf). AreShelved s.table) (sym c.in-None.ensures.untouched) c.requires.numbered

pub returns-in-None-clause-keeps : goal.returns-in-None-clause-keeps
returns-in-None-clause-keeps c = keeps_same c.args.volumes.now c.take.new.self c.in-None.ensures.untouched
