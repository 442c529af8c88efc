use Rattle.std.proofs.Common.{◌≡◌, ◌+◌, ◌≤◌, ◌<◌, ◌^◌, length, take}
use Rattle.std.specs.Vec.{vec_capacity, vec_len}
use Rattle.indexmap.specs.IndexMap.{get, spare}
use Rattle.spec_breaks.specs.Promises.{lasting}
use Rattle.afs_promise.specs.Granting.{same_holding, held, reach, IsLog}
use Rattle.afs_promise.proofs.grants.Grants.expire.Given as goal

abbrev pub invariant-loop-place : goal.invariant-loop-place
invariant-loop-place l = record {
  is_log : IsLog (get same_holding l.self-inside.latest) l.self-inside.log.items l.self-inside.clients.items l.self-inside.ended l.self-inside.count l.self-inside.next l.self-inside.rising l.self-inside.highest;
  log_room : vec_len l.self-inside.log + l.self-inside.room ≤ vec_capacity l.self-inside.log;
  client_room : vec_len l.self-inside.clients + l.self-inside.room ≤ vec_capacity l.self-inside.clients;
  spare : l.self-inside.room ≤ spare l.self-inside.latest;
  orders : l.self-inside.next + l.self-inside.room < 2 ^ 64;
  room : l.self-inside.room ≡ l.fn.self.room;
  lasts : lasting l.now (held (get same_holding l.self-inside.latest) l.self-inside.log.items) ≡ lasting l.now l.fn.self.promises;
  done : lasting l.now (held (get same_holding l.self-inside.latest) (take l.place l.self-inside.log.items)) ≡ held (get same_holding l.self-inside.latest) (take l.place l.self-inside.log.items);
  until : l.until ≡ reach l.now l.self-inside.rising l.self-inside.ended l.self-inside.log.items;
  within : l.until ≤ length l.self-inside.log.items;
  behind : l.self-inside.ended ≤ l.until;
}
