use Rattle.std.proofs.Common.{◌≡◌, ap, subst, ◌∙◌}
use Rattle.std.specs.Option.{option_map, option_copied}
use Rattle.std.specs.Map.{lookup}
use Rattle.spec_rows.specs.ClientRow.{find_cached}
use Rattle.afs_entries.specs.declared.cache.Slot.{Slot}
use Rattle.afs_entries.specs.Cached.{Kept, entry_at, same_slot}
use Rattle.afs_entries.proofs.Caching.{found}
use Rattle.afs_entries.proofs.cache.Cache.find.Goals as goal

pub returns : goal.returns
returns c =
    let es = c.self.inside.entries.entries in
    subst (λ (k : Kept). option_map (entry_at c.args.fid.now) (option_copied c.peek.result) ≡ find_cached c.args.fid.now k.entries) c.self.view_is
    (ap (option_map (entry_at c.args.fid.now)) (c.peek.ensures ∙ ap (λ (s : Slot). lookup (same_slot s) es) c.slot_for.ensures) ∙ found c.args.fid.now es)
