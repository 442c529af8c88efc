use Rattle.spec_ideal.proofs.Directories.{added_is_directory, named-with_name}
use Rattle.spec_ideal.proofs.directory_laws.added_are_found.Goals as goal

pub returns : goal.returns
returns c = record { directory = added_is_directory; found = named-with_name }
