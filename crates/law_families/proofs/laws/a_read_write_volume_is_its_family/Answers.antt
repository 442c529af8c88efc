use Rattle.law_families.proofs.Walk.{read_write_is_family}
use Rattle.law_families.proofs.laws.a_read_write_volume_is_its_family.Goals as goal

pub returns : goal.returns
returns c = read_write_is_family
