-- The bytes that spell the names of a directory.
use Rattle.std.proofs.Common.{◌≡◌, ℕ, List, [], Result, Ok, Err, refl, sym, ap, ◌∙◌, arith, true}
use Rattle.afs_num.specs.declared.directories.Name.{Name}
use Rattle.spec_ideal.specs.Directories.{directory_bytes, directory_of}
use Rattle.spec_ideal.proofs.DirectoryBytes.{spelled_is_read}
use Rattle.afs_volume.specs.Seen.{names_read, names_spelled, kind_seen, names_seen, seen, IsReadable}
use Rattle.afs_num.specs.declared.vnodes.Vnode as image
use Rattle.spec_ideal.specs.Operations.{is_kind}
use Rattle.spec_ideal.specs.Volumes.{a_directory, a_file, a_link, VnodeKind}

nothing_read : directory_of (directory_bytes []) ≡ Ok []
nothing_read = spelled_is_read [] (record { ordered = refl; few = omega arith }) tt

read_by : (bytes : List ℕ) (r : Result (List Name) ℕ) → directory_of bytes ≡ r → directory_bytes (names_read r) ≡ bytes → directory_of bytes ≡ Ok (names_read r)
read_by bytes (Ok names) is spelled = is
read_by bytes (Err e) is spelled = ap directory_of (sym spelled) ∙ nothing_read

-- bytes that spell the names as which they are read, are read as these
pub names_again : (bytes : List ℕ) → directory_bytes (names_spelled bytes) ≡ bytes → directory_of bytes ≡ Ok (names_spelled bytes)
unfolding names_spelled
names_again bytes spelled = read_by bytes (directory_of bytes) refl spelled

kind_is : (k : VnodeKind) → is_kind k a_directory ≡ true → k ≡ a_directory
kind_is a_directory e = refl
kind_is a_file e = absurd cc
kind_is a_link e = absurd cc

pub contents_read : (x : image.Vnode) → IsReadable x → is_kind (seen x).kind a_directory ≡ true → directory_of x.contents ≡ Ok (seen x).names
unfolding seen
contents_read x readable is =
    let kind = kind_is (kind_seen x.kind) is in
    names_again x.contents (readable.1.0 kind) ∙ ap (λ (k : VnodeKind). Ok (names_seen k x.contents)) (sym kind)
