use Rattle.std.proofs.Common.{◌≡◌, ℕ, List, length, Ok, rules, ap, sym, subst, arith}
use Rattle.spec_ideal.specs.Directories.{directory_bytes, directory_of, without_name}
use Rattle.spec_ideal.proofs.Directories.{removed_is_directory}
use Rattle.spec_ideal.proofs.DirectoryBytes.{read_is_spelled}
use Rattle.afs_dir.proofs.Fits.{read_without}
use Rattle.afs_dir.proofs.Lengths.{names_fit}
use Rattle.afs_dir.proofs.listing.Listing.bytes_without.Goals as goal

pub spelled_without-requires-clause-spelled : goal.spelled_without-requires-clause-spelled
spelled_without-requires-clause-spelled c =
    let spelled : directory_bytes c.args.self.now ≡ c.args.bytes.now = (read_is_spelled c.args.bytes.now c.args.self.now (λ i. omega (arith, c.type_inv.bytes i)) c.requires.read).2 in
    search (rules, spelled)

pub returns-clause-read : goal.returns-clause-read
returns-clause-read c =
    let spelled : c.in_ok-spelled.spelled ≡ directory_bytes (without_name c.args.name.now c.args.self.now) = search rules in
    subst (λ (b : List ℕ). directory_of b ≡ Ok (without_name c.args.name.now c.args.self.now)) (sym spelled) (read_without c.args.bytes.now c.args.self.now c.args.name.now (λ i. omega (arith, c.type_inv.bytes i)) c.requires.read)

pub returns-clause-short : goal.returns-clause-short
returns-clause-short c =
    let spelled : c.in_ok-spelled.spelled ≡ directory_bytes (without_name c.args.name.now c.args.self.now) = search rules in
    let is = (read_is_spelled c.args.bytes.now c.args.self.now (λ i. omega (arith, c.type_inv.bytes i)) c.requires.read).0 in
    omega (arith, ap length spelled, names_fit (without_name c.args.name.now c.args.self.now) (removed_is_directory c.args.name.now c.args.self.now is))
