use Rattle.std.proofs.Common.{◌≡◌, ℕ, ◌+◌, ◌∷◌, ◌++◌, List, Some, None, ap, sym, ◌∙◌}
use Rattle.spec_rows.specs.Going.{ClientState, Going}
use Rattle.std.proofs.Common.{subst}
use Rattle.std.proofs.Common.{Option, Vec, Global}
use Rattle.std.specs.Option.{option_map}
use Rattle.afs_acts.specs.declared.known.Location.{Location as Known}
use Rattle.afs_acts.specs.Located.{Puts}
use Rattle.afs_cache.proofs.Sought.{new_taken, same_taken}
use Rattle.afs_cache.proofs.node.CacheManager.locate.Goals as goal

pub returns-in-Some : goal.returns-in-Some
returns-in-Some c = λ k e.
    let old = c.args.self.now in
    new_taken old.node old.state.client c.args.now k c.args.entry.now c.in-Some.table.items old c.go_with_table.new.self c.go_with_table.result (subst (λ (t : Option (Vec Known Global)). Puts c.args.entry.now old.state.client.table (option_map (λ (v : Vec Known Global). v.items) t)) c.in-Some.is c.in_ok-table.ensures) (c.go_with_table.ensures k e)

pub returns-in-None : goal.returns-in-None
returns-in-None c = λ k e.
    let old = c.args.self.now in
    same_taken old.node old.state.client c.args.now k c.args.entry.now old c.go_as_before.new.self c.go_as_before.result (subst (λ (t : Option (Vec Known Global)). Puts c.args.entry.now old.state.client.table (option_map (λ (v : Vec Known Global). v.items) t)) c.in-None.is c.in_ok-table.ensures) (c.go_as_before.ensures k e)
