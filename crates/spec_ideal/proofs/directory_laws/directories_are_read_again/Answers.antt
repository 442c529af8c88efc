use Rattle.spec_ideal.proofs.DirectoryBytes.{spelled_is_read}
use Rattle.spec_ideal.proofs.directory_laws.directories_are_read_again.Goals as goal

pub returns : goal.returns
returns c = spelled_is_read
