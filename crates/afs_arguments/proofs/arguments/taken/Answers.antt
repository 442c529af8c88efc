use Rattle.std.proofs.Common.{map, string_bytes, refl, sym, ◌∙◌}
use Rattle.afs_arguments.proofs.Asking.{dashes_none, mapped, refused_none}
use Rattle.afs_arguments.proofs.arguments.taken.Goals as goal

pub returns-then-has_dashes : goal.returns-then-has_dashes
returns-then-has_dashes c = dashes_none (map string_bytes c.args.words.now) (sym (mapped string_bytes c.args.words.now c.has_dashes.result c.has_dashes.ensures) ∙ c.if-has_dashes.true)

pub returns-in-Ok : goal.returns-in-Ok
returns-in-Ok c = record {
  dashes = sym (mapped string_bytes c.args.words.now c.has_dashes.result c.has_dashes.ensures) ∙ c.if-has_dashes.false;
  faults = c.in-Ok.ensures.kinds;
  found = c.in-Ok.ensures.found;
}

pub returns : goal.returns
returns c = refused_none (map string_bytes c.args.words.now) c.in-Err.error.kind c.is_memory.result c.is_memory.ensures c.if-is_memory.false c.in-Err.ensures.kinds
