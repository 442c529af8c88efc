-- An image that can be seen is that of the vnode as which it is seen.
use Rattle.std.proofs.Common.{◌≡◌, ℕ, List, true, is_ok, refl, sym}
use Rattle.afs_num.specs.declared.vnodes.Vnode as image
use Rattle.spec_ideal.specs.AccessLists.{acl_at}
use Rattle.spec_ideal.specs.Directories.{directory_bytes}
use Rattle.spec_ideal.specs.Images.{acl_by, image_of}
use Rattle.spec_ideal.specs.Volumes.{VnodeKind, a_directory, a_file, a_link, bytes_by, Vnode}
use Rattle.afs_volume.specs.Seen.{seen, kind_seen, contents_seen, list_seen, names_seen, names_spelled, text_by, IsReadable}
use Rattle.afs_volume.proofs.Texts.{text_is_list}

acl_again : (k : VnodeKind) (x : Vnode) (text : List ℕ) → x.acl ≡ list_seen k text → (k ≡ a_directory → is_ok (acl_at text) ≡ true) → text_by k text ≡ text → acl_by k x ≡ text
acl_again a_directory x text is good none = rw is (sym (text_is_list text (good refl)))
acl_again a_file x text is good none = none
acl_again a_link x text is good none = none

bytes_again : (k : VnodeKind) (x : Vnode) (bytes : List ℕ) → x.contents ≡ contents_seen k bytes → x.names ≡ names_seen k bytes → (k ≡ a_directory → directory_bytes (names_spelled bytes) ≡ bytes) → bytes_by k x ≡ bytes
bytes_again a_directory x bytes is names spelled = rw names (spelled refl)
bytes_again a_file x bytes is names spelled = is
bytes_again a_link x bytes is names spelled = is

pub image_again : (x : image.Vnode) → IsReadable x → image_of x.vnode x.server_time (seen x) ≡ x
unfolding seen
image_again x h =
    let k = kind_seen x.kind in
    rw (acl_again k (seen x) x.acl refl h.1.1.0 h.1.1.1, bytes_again k (seen x) x.contents refl refl h.1.0, h.0) refl
