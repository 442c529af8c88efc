use Rattle.law_legal.proofs.VersionsAscend.{run_versions}
use Rattle.law_legal.proofs.laws.versions_are_kept.Goals as goal

pub returns : goal.returns
returns c = run_versions
