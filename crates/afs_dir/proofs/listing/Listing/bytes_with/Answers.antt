use Rattle.std.proofs.Common.{◌≡◌, ℕ, List, length, Ok, rules, ap, sym, subst, arith}
use Rattle.afs_num.specs.declared.directories.Name.{Name}
use Rattle.spec_ideal.specs.Directories.{directory_bytes, directory_of, with_name, FitsName}
use Rattle.spec_ideal.proofs.Directories.{added_is_directory}
use Rattle.spec_ideal.proofs.DirectoryBytes.{read_is_spelled}
use Rattle.afs_dir.proofs.Fits.{read_with, stands_short}
use Rattle.afs_dir.proofs.Lengths.{names_fit}
use Rattle.afs_dir.proofs.listing.Listing.bytes_with.Goals as goal

pub spelled_with-requires-clause-spelled : goal.spelled_with-requires-clause-spelled
spelled_with-requires-clause-spelled c =
    let spelled : directory_bytes c.args.self.now ≡ c.args.bytes.now = (read_is_spelled c.args.bytes.now c.args.self.now (λ i. omega (arith, c.type_inv.bytes i)) c.requires.read).2 in
    search (rules, spelled)

pub spelled_with-requires-clause-short : goal.spelled_with-requires-clause-short
spelled_with-requires-clause-short c = stands_short c.args.name.now c.args.self.now c.requires.added

pub returns-clause-read : goal.returns-clause-read
returns-clause-read c =
    let n : Name = record { name = c.args.name.now; vnode = c.args.vnode; unique = c.args.unique } in
    let spelled : c.in_ok-spelled.spelled ≡ directory_bytes (with_name n c.args.self.now) = search rules in
    let fits : FitsName n = search rules in
    subst (λ (b : List ℕ). directory_of b ≡ Ok (with_name n c.args.self.now)) (sym spelled) (read_with c.args.bytes.now c.args.self.now n (λ i. omega (arith, c.type_inv.bytes i)) c.requires.read fits c.requires.added)

pub returns-clause-short : goal.returns-clause-short
returns-clause-short c =
    let n : Name = record { name = c.args.name.now; vnode = c.args.vnode; unique = c.args.unique } in
    let spelled : c.in_ok-spelled.spelled ≡ directory_bytes (with_name n c.args.self.now) = search rules in
    let is = (read_is_spelled c.args.bytes.now c.args.self.now (λ i. omega (arith, c.type_inv.bytes i)) c.requires.read).0 in
    omega (arith, ap length spelled, names_fit (with_name n c.args.self.now) (added_is_directory n c.args.self.now is c.requires.added))
