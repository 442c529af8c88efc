use Rattle.std.proofs.Common.{◌∙◌, rules}
use Rattle.afs_seats.proofs.Places.{taken_is, less_is}
use Rattle.afs_seats.proofs.seats.take.Goals as goal

pub returns-then-is_at-clause-value : goal.returns-then-is_at-clause-value
returns-then-is_at-clause-value g c = taken_is c.args.number c.place-place.result c.args.items.now.items c.remove.result c.requires (search rules) (search rules) c.remove.ensures.value

pub returns-then-is_at-clause-table : goal.returns-then-is_at-clause-table
returns-then-is_at-clause-table g c = c.remove.ensures.items ∙ less_is c.args.number c.place-place.result c.args.items.now.items c.requires (search rules) (search rules)
