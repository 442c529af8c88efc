use Rattle.spec_ideal.proofs.DirectoryBytes.{read_is_spelled}
use Rattle.spec_ideal.proofs.directory_laws.read_directories_are_spelled.Goals as goal

pub returns : goal.returns
returns c = read_is_spelled
