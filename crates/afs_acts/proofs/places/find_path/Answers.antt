use Rattle.std.proofs.Common.{List, ℕ, ap, ◌∙◌}
use Rattle.std.specs.Prelude.{find}
use Rattle.std.specs.Str.{bytes_eq}
use Rattle.afs_num.specs.declared.location_calls.LocEntry.{LocEntry}
use Rattle.spec_rows.specs.Going.{base_of}
use Rattle.afs_acts.proofs.places.find_path.Goals as goal

pub returns : goal.returns
returns c = c.with_name.ensures ∙ ap (λ (name : List ℕ). find (λ (l : LocEntry). bytes_eq l.name name) c.args.table.now) (c.base_of.ensures ∙ ap base_of c.as_slice.ensures)
