use Rattle.std.proofs.Common.{◌≡◌, refl, ◌∙◌}
use Rattle.std.specs.Arc.{arc_value}
use Rattle.spec_records.specs.Entries.{entry_of_line}
use Rattle.afs_acts.proofs.Sites.{server_is}
use Rattle.afs_acts.proofs.known.first_location.Goals as goal

pub invariant_of-result : goal.invariant_of-result
invariant_of-result c =
    let entry : arc_value c.in_ok-new.field-0 ≡ entry_of_line c.args.volume.now = c.in_ok-new.ensures.ok ∙ c.in_ok-entry.ensures in
    rw entry (record { home = refl; node = c.requires; sites = (server_is c.args.volume.now.server c.requires, tt) })
