use Rattle.spec_ideal.proofs.Directories.{below_itself, below_trans, below_or_same}
use Rattle.spec_ideal.proofs.directory_laws.byte_order_is_strict.Goals as goal

pub returns : goal.returns
returns c = record { itself = below_itself; trans = below_trans; total = below_or_same }
