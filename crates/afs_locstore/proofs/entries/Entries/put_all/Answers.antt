use Rattle.std.proofs.Common.{◌≡◌, ◌∷◌, ◌∙◌, List, length, ap, sym, subst, rules, arith}
use Rattle.std.specs.Vec.Iter.{into_iter_items}
use Rattle.spec_records.specs.LocDurable.{entries_set}
use Rattle.afs_locstore.specs.Listings.{are_placed, CanBeAllPut, HasRoomOf}
use Rattle.afs_locstore.specs.declared.placed.Placed.{Placed}
use Rattle.afs_locstore.proofs.entries.Entries.put_all.Goals as goal

pub loop-one-preserved : goal.loop-one-preserved
loop-one-preserved c =
    let first : into_iter_items c.loop-one.one-iterator ≡ c.in-Some.one ∷ into_iter_items c.next.new.self = search rules in
    let room : HasRoomOf (length (c.in-Some.one ∷ into_iter_items c.next.new.self)) c.loop-one.self.rooms = subst (λ (ps : List Placed). HasRoomOf (length ps) c.loop-one.self.rooms) first c.loop-one.invariant.room in
    record {
      set =
          ap (entries_set (are_placed (into_iter_items c.next.new.self))) c.put.ensures.table
          ∙ (ap (λ (ps : List Placed). entries_set (are_placed ps) c.loop-one.self.table) (sym first) ∙ c.loop-one.invariant.set);
      can = (subst CanBeAllPut first c.loop-one.invariant.can).1;
      room = record {
        entries = omega (arith, room.entries, c.put.ensures.room.entries);
        numbers = omega (arith, room.numbers, c.put.ensures.room.numbers);
        names = omega (arith, room.names, c.put.ensures.room.names);
      };
    }

pub put-requires-clause-can : goal.put-requires-clause-can
put-requires-clause-can c =
    let first : into_iter_items c.loop-one.one-iterator ≡ c.in-Some.one ∷ into_iter_items c.next.new.self = search rules in
    (subst CanBeAllPut first c.loop-one.invariant.can).0

pub put-requires-clause-room : goal.put-requires-clause-room
put-requires-clause-room c =
    let first : into_iter_items c.loop-one.one-iterator ≡ c.in-Some.one ∷ into_iter_items c.next.new.self = search rules in
    let room : HasRoomOf (length (c.in-Some.one ∷ into_iter_items c.next.new.self)) c.loop-one.self.rooms = subst (λ (ps : List Placed). HasRoomOf (length ps) c.loop-one.self.rooms) first c.loop-one.invariant.room in
    record {
      entries = omega (arith, room.entries);
      numbers = omega (arith, room.numbers);
      names = omega (arith, room.names);
    }
