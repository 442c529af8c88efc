use Rattle.std.proofs.Common.{subst, arith, ◌≡◌, ◌<◌, ◌⊎◌, ◌-◌, length, None}
use Rattle.std.specs.Vec.{vec_capacity}
use Rattle.afs_num.specs.Places.{at_place}
use Rattle.afs_clients.specs.Places.{IsLifted, Room}
use Rattle.afs_clients.proofs.Numbers.{back_in, found_at, none_at}
use Rattle.afs_clients.proofs.places.Places.lift.Goals as goal

pub returns-in-Some-clause-some : goal.returns-in-Some-clause-some
returns-in-Some-clause-some g c =
    let inside : c.in-Some.i < length c.self.inside.items.items = omega (arith, c.in-Some.ensures.some.1, c.len.ensures) in
    subst (λ (old : Room g.row.T.Denot). IsLifted c.args.number old (record { items = c.remove.new.self.items; room = vec_capacity c.remove.new.self - length c.remove.new.self.items }) c.remove.result) c.self.view_is (record {
      found = found_at c.args.number c.in-Some.i c.self.inside.items.items c.remove.result c.in-Some.ensures.some.0 inside c.remove.ensures.value;
      back = back_in c.args.number c.in-Some.i c.self.inside.items.items c.remove.new.self.items c.in-Some.ensures.some.0 inside c.remove.ensures.items;
      number = (omega (arith, c.in-Some.ensures.some.0), omega (arith, c.in-Some.ensures.some.0, inside, c.remove.ensures.len));
      room = omega (arith, c.remove.ensures.len, c.remove.ensures.capacity, c.self.inside.items.ok);
    })

pub returns-in-None-clause-none : goal.returns-in-None-clause-none
returns-in-None-clause-none g c =
    let same : c.len.result ≡ length c.self.inside.items.items = omega (arith, c.len.ensures, c.self.inside.items.ok) in
    let past : (c.args.number ≡ 0) ⊎ (length c.self.inside.items.items < c.args.number) = subst (λ n. (c.args.number ≡ 0) ⊎ (n < c.args.number)) same c.in-None.ensures.none in
    subst (λ (old : Room g.row.T.Denot). at_place old.items c.args.number ≡ None) c.self.view_is (none_at c.self.inside.items.items c.args.number past)
