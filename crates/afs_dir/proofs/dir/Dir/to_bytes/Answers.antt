use Rattle.std.proofs.Common.{◌≡◌, ℕ, List, Ok, rules, sym, subst}
use Rattle.afs_num.specs.declared.directories.Name.{Name}
use Rattle.spec_ideal.specs.Directories.{directory_bytes, directory_of, IsDirectory, FitNames}
use Rattle.spec_ideal.proofs.DirectoryBytes.{spelled_is_read}
use Rattle.afs_dir.proofs.dir.Dir.to_bytes.Goals as goal

pub returns-clause-read : goal.returns-clause-read
unfolding directory_bytes
returns-clause-read c =
    let spelled : c.in_ok-spelled.spelled ≡ directory_bytes c.args.self.now = search rules in
    let is : IsDirectory c.args.self.now = search rules in
    let fits : FitNames c.args.self.now = search rules in
    subst (λ (b : List ℕ). directory_of b ≡ Ok c.args.self.now) (sym spelled) (spelled_is_read c.args.self.now is fits)
