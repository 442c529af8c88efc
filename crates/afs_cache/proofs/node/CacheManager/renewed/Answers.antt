use Rattle.std.proofs.Common.{◌≡◌, ◌<◌, ◌+◌, ℕ, Bool, true, false, cond, ◌||◌, ◌&&◌, List, [], ◌∷◌, ◌++◌, map, filter, Option, Some, None, Ok, Err, refl, ap, sym, subst, ◌∙◌}
use Rattle.std.specs.Option.{option_copied, option_map}
use Rattle.spec_rows.specs.Going.{Seek}
use Rattle.spec_rows.specs.States.{Location}
use Rattle.afs_acts.specs.Located.{Puts}
use Rattle.afs_acts.specs.declared.known.Location.{Location as Known}
use Rattle.std.proofs.Common.{Vec, Global}
use Rattle.afs_cache.proofs.Siting.{entry_is_fit, renewed_known, renewed_new, renewed_none}
use Rattle.afs_cache.proofs.node.CacheManager.renewed.Goals as goal
use Rattle.afs_cache.specs.Locating.{renewed_in}

pub with_entry-requires : goal.with_entry-requires
with_entry-requires c = entry_is_fit c.args.self.now.node c.args.self.now.state.client c.args.head.now c.args.carried.now c.args.self.now.state.client.seeking c.in-Some.entry.now (ap option_copied (sym c.in-Some.is) ∙ c.entry_sought.ensures) c.requires.sound

pub returns-in_default : goal.returns-in_default
returns-in_default c = renewed_none c.args.self.now.node c.args.self.now.state.client (record { head = c.args.head.now; carried = c.args.carried.now }) c.args.self.now.state.client.seeking (ap option_copied (sym c.in_default.is) ∙ c.entry_sought.ensures)

pub returns-in_ok-renew-in-Some-2 : goal.returns-in_ok-renew-in-Some-2
returns-in_ok-renew-in-Some-2 c =
    let old = c.args.self.now in
    renewed_new old.node old.state.client (record { head = c.args.head.now; carried = c.args.carried.now }) old.state.client.seeking c.in-Some.entry.now c.in-Some-2.table.items c.in_ok-renew-in-Some-2.field-0 c.requires.seeks (ap option_copied (sym c.in-Some.is) ∙ c.entry_sought.ensures)
    (subst (λ (t : Option (Vec Known Global)). Puts c.in-Some.entry.now old.state.client.table (option_map (λ (v : Vec Known Global). v.items) t)) c.in-Some-2.is c.in_ok-table.ensures)
    (c.in_ok-renew-in-Some-2.ensures ∙ ap (λ (t : List Location). renewed_in t old.state.client.seeking) c.deref.ensures.value)
