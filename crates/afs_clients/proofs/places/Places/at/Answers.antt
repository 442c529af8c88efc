use Rattle.std.proofs.Common.{refl, sym, subst, ◌≡◌, ◌<◌, ◌+◌, length, Some}
use Rattle.std.proofs.lemmas.List.{length-set}
use Rattle.afs_num.specs.Places.{at_place}
use Rattle.afs_clients.specs.Places.{Room}
use Rattle.afs_clients.proofs.Numbers.{found_at, set_in}
use Rattle.afs_clients.proofs.places.Places.at.Goals as goal

pub returns : goal.returns
returns g c =
    let inside : c.args.i < length c.self.inside.items.items = subst (λ (old : Room g.row.T.Denot). c.args.i < length old.items) (sym c.self.view_is) c.requires in (
      (
        refl,
        λ w.
            rw (← c.self.view_is, ← set_in (c.args.i + 1) c.args.i c.self.inside.items.items w refl, length-set),
      ),
      record {
        writes_back = tt;
        value = subst (λ (old : Room g.row.T.Denot). Some c.index_mut.result.now ≡ at_place old.items (c.args.i + 1)) c.self.view_is (sym (found_at (c.args.i + 1) c.args.i c.self.inside.items.items c.index_mut.result.now refl inside c.index_mut.ensures.value));
      },
    )
