-- An image with a good access list and good contents can be read.
use Rattle.std.proofs.Common.{◌≡◌, ℕ, ◌%◌, Bool, true, false, List, Result, Ok, Err, Option, Some, None, is_some, cond, nat_eq, refl, sym, ap, ◌∙◌, arith}
use Rattle.std.specs.Prelude.{◌==◌, ◌||◌}
use Rattle.std.specs.Prelude as prelude
use Rattle.std.proofs.lemmas.Bool.Decides.{nat_tests}
use Rattle.afs_num.specs.declared.directories.Name.{Name}
use Rattle.afs_num.specs.declared.vnodes.Vnode as image
use Rattle.spec_ideal.specs.AccessLists.{acl_at}
use Rattle.spec_ideal.specs.Directories.{directory_bytes, directory_of}
use Rattle.afs_xdr.specs.Words.{IsBytes}
use Rattle.spec_ideal.specs.Images.{Image, value_of}
use Rattle.spec_ideal.specs.VnodeImage.{kind_fits}
use Rattle.spec_ideal.specs.Volumes.{Vnode}
use Rattle.spec_ideal.proofs.DirectoryBytes.{read_is_spelled}
use Rattle.spec_dumps.specs.Streams.{are_good_contents, is_good_acl, is_ok}
use Rattle.afs_volume.specs.Assembling.{can_be_read}
use Rattle.afs_volume.specs.Seen.{names_read, names_spelled, seen, IsReadable}
use Rattle.afs_volume.proofs.Folded.{value_seen}
use Rattle.afs_volume.proofs.Readable.{directory_read, other_read, readable_directory, readable_other}
use Rattle.afs_restore.specs.Filling.{ImageIsGood, IsMade}

ok_is : {A E : Type 0} (r : Result A E) → is_ok r ≡ true → prelude.is_ok r ≡ true
ok_is {A} {E} (Ok x) e = refl
ok_is {A} {E} (Err f) e = absurd cc

other_kind : (vnode kind : ℕ) (b : Bool) → (vnode % 2 == 1) ≡ b → nat_eq kind 2 ≡ false → cond b (nat_eq kind 2) (nat_eq kind 1 || nat_eq kind 3) ≡ true → (nat_eq kind 1 || nat_eq kind 3) ≡ true
other_kind vnode kind true is not e = absurd (let z : true ≡ false = sym e ∙ not in cc)
other_kind vnode kind false is not e = e

good_by : (x : image.Vnode) (b : Bool) → nat_eq x.kind 2 ≡ b → kind_fits x.vnode x.kind ≡ true → is_good_acl x.kind x.acl ≡ true → (x.kind ≡ 2 → directory_bytes (names_spelled x.contents) ≡ x.contents) → IsReadable x
unfolding kind_fits
good_by x true is fits acl spelled =
    let kind : x.kind ≡ 2 = grind (arith, nat_tests, is) in
    readable_directory x kind (spelled kind) (ok_is (acl_at x.acl) (rw is at acl))
good_by x false is fits acl spelled =
    readable_other x is (rw (other_kind x.vnode x.kind (x.vnode % 2 == 1) refl is fits) (rw is at acl))

pub readable_is : (x : image.Vnode) → kind_fits x.vnode x.kind ≡ true → is_good_acl x.kind x.acl ≡ true → (x.kind ≡ 2 → directory_bytes (names_spelled x.contents) ≡ x.contents) → IsReadable x
readable_is x fits acl spelled = good_by x (nat_eq x.kind 2) refl fits acl spelled

-- ---- a good image

spelled_by : (bytes : List ℕ) (r : Result (List Name) ℕ) → IsBytes bytes → directory_of bytes ≡ r → is_ok r ≡ true → directory_bytes (names_read r) ≡ bytes
spelled_by bytes (Ok names) fits e ok = (read_is_spelled bytes names fits e).2
spelled_by bytes (Err f) fits e ok = absurd cc

good_spelled : (x : image.Vnode) → IsBytes x.contents → are_good_contents x.kind x.contents ≡ true → x.kind ≡ 2 → directory_bytes (names_spelled x.contents) ≡ x.contents
unfolding names_spelled
good_spelled x fits good kind =
    let is : nat_eq x.kind 2 ≡ true = grind (arith, nat_tests, kind) in
    spelled_by x.contents (directory_of x.contents) fits refl (rw is at good)

pub good_made : (p : ℕ × ℕ) (x : image.Vnode) → ImageIsGood p x → IsBytes x.contents → IsMade p x
good_made p x good fits = record { number = good.number; fits = good.fits; readable = readable_is x good.kind good.acl (good_spelled x fits good.contents) }

read_by : (x : image.Vnode) (b : Bool) → nat_eq x.kind 2 ≡ b → kind_fits x.vnode x.kind ≡ true → is_good_acl x.kind x.acl ≡ true → are_good_contents x.kind x.contents ≡ true → can_be_read x ≡ true
unfolding kind_fits
read_by x true is fits acl contents =
    let kind : x.kind ≡ 2 = grind (arith, nat_tests, is) in
    directory_read x kind ∙ rw (ok_is (directory_of x.contents) (rw is at contents), ok_is (acl_at x.acl) (rw is at acl)) refl
read_by x false is fits acl contents = other_read x is ∙ rw (other_kind x.vnode x.kind (x.vnode % 2 == 1) refl is fits) (rw is at acl)

valued_by : (i : Image) (o : Option Vnode) → value_of i ≡ o → is_some o ≡ true → value_of i ≡ Some (seen i)
valued_by i None e some = absurd cc
valued_by i (Some x) e some = e ∙ ap (λ (y : Vnode). Some y) (sym (value_seen i x e))

-- what is good has a value
pub good_valued : (p : ℕ × ℕ) (i : Image) → ImageIsGood p i → value_of i ≡ Some (seen i)
good_valued p i good = valued_by i (value_of i) refl (read_by i (nat_eq i.kind 2) refl good.kind good.acl good.contents)
