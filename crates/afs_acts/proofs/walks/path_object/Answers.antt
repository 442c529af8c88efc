use Rattle.std.proofs.Common.{◌≡◌, false, List, ℕ, Some, drop, ap, ◌∙◌, rules}
use Rattle.afs_acts.specs.Needs.{at_of}
use Rattle.afs_acts.specs.Walks.{walk_to}
use Rattle.afs_acts.proofs.Coming.{path_goes}
use Rattle.afs_acts.proofs.walks.path_object.Goals as goal

pub returns-in-Some : goal.returns-in-Some
returns-in-Some c =
    let way = c.args.way.now in
    let names = c.args.path.now.names in
    let known : c.args.home ≡ Some c.in-Some.field-0 = search rules in
    let ahead : c.names_ahead.result.now ≡ drop way.names names = c.names_ahead.ensures ∙ ap (drop way.names) c.as_slice.ensures in
    c.walk.ensures
    ∙ (ap (λ (ns : List (List ℕ)). walk_to false ns (at_of c.ahead.result)) ahead
    ∙ (ap (walk_to false (drop way.names names)) c.ahead.ensures ∙ path_goes c.args.home c.args.path.now way.names way.fid way.behind c.args.rest.now c.in-Some.field-0 c.requires known))
