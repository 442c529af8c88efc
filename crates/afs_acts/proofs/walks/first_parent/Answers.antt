use Rattle.std.proofs.Common.{◌≡◌, true, ◌++◌, ◌∷◌, [], List, ℕ, Some, IsSome, drop, refl, ap, sym, ◌∙◌, rules}
use Rattle.spec_rows.specs.Going.{parted}
use Rattle.afs_acts.specs.Needs.{at_of}
use Rattle.afs_acts.specs.Walks.{At, then_on, walk_to, within}
use Rattle.afs_acts.proofs.Coming.{parent_goes}
use Rattle.afs_acts.proofs.walks.first_parent.Goals as goal

pub returns : goal.returns
returns c =
    let way = c.args.way.now in
    let names = c.args.path.now.names in
    let front = c.in-Some.front.now in
    let last = c.in-Some.last.now in
    let known : IsSome c.args.home = search rules in
    let split : names ≡ front ++ last ∷ [] = sym c.as_slice.ensures ∙ c.in-Some.ensures.split in
    let parts : Some (record { front = front; last = last }) ≡ parted names = c.in-Some.ensures.value ∙ ap parted c.as_slice.ensures in
    let start : At = record { fid = way.fid; rest = c.args.rest.now } in
    c.to_directory.ensures
    ∙ (ap (λ (ns : List (List ℕ)). then_on (within last) (walk_to true ns (at_of c.ahead.result))) c.names_ahead.ensures
    ∙ (ap (λ (a : At). then_on (within last) (walk_to true (drop way.names front) a)) c.ahead.ensures
    ∙ parent_goes c.args.home c.args.path.now front last way.names way.fid way.behind c.args.rest.now (walk_to true (drop way.names front) start) c.requires split parts known refl))
