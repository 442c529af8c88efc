use Rattle.spec_ideal.proofs.Directories.{removed_is_directory, named-without_name}
use Rattle.spec_ideal.proofs.directory_laws.removed_are_gone.Goals as goal

pub returns : goal.returns
returns c = record { directory = removed_is_directory; found = named-without_name }
