use Rattle.std.proofs.Common.{ap, ◌∙◌, sym}
use Rattle.afs_entries.specs.declared.drops.Drops.{Drops}
use Rattle.afs_entries.specs.Cached.{drops_of, entry_at}
use Rattle.afs_entries.proofs.drops.Drops.takes.Goals as goal

pub returns-in-Trusted : goal.returns-in-Trusted
returns-in-Trusted c = c.is_trusted.ensures c.args.fid.now ∙ ap (λ (d : Drops). drops_of d (entry_at c.args.fid.now c.args.entry.now)) (sym c.in-Trusted.is)
