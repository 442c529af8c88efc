-- How the image of a vnode after an edit is seen.
use Rattle.std.proofs.Common.{◌≡◌, ℕ, List, true, Option, Some, None, Result, Ok, Err, is_ok, refl, sym, ap, subst, ◌∙◌}
use Rattle.std.specs.Option.{option_map}
use Rattle.afs_num.specs.declared.acls.AccessList.{AccessList}
use Rattle.afs_num.specs.declared.directories.Name.{Name}
use Rattle.afs_num.specs.declared.vnodes.Vnode as image
use Rattle.spec_ideal.specs.AccessLists.{acl_at}
use Rattle.spec_ideal.specs.Operations.{acl_read}
use Rattle.spec_ideal.specs.Volumes.{VnodeKind, a_directory, a_file, a_link, Vnode, amended, has_body, or_old, with_status}
use Rattle.afs_changes.specs.Drawing.{HasOwn}
use Rattle.afs_changes.specs.Planning.{amend_seen, list_given}
use Rattle.afs_changes.specs.Images.{body_left, list_left, image_amended}
use Rattle.afs_volume.specs.Seen.{seen, kind_seen, contents_seen, names_seen, names_spelled, list_seen, is_list, list_read, list_spelled}
use Rattle.afs_changes.specs.declared.edits.Amend.{Amend}

names_kept : (o : Option (List ℕ)) (old : List ℕ) → names_spelled (or_old o old) ≡ or_old (option_map names_spelled o) (names_spelled old)
names_kept None old = refl
names_kept (Some bytes) old = refl

read_by : {E : Type 0} (r : Result AccessList E) (old : AccessList) → is_ok r ≡ true → list_read r ≡ or_old (acl_read r) old
read_by {E} (Ok a) old good = refl
read_by {E} (Err e) old good = absurd cc

list_kept : (a : Amend) (o : Option (List ℕ)) (old : List ℕ) → a.acl ≡ o → list_spelled (or_old o old) ≡ or_old (list_given o) (list_spelled old)
unfolding list_spelled
list_kept a None old is = refl
list_kept a (Some text) old is = read_by (acl_at text) (list_read (acl_at old)) (subst (λ (o : Option (List ℕ)). is_list o ≡ true) is a.list_spelled)

body_same : (o : Option (List ℕ)) (p : Option (List ℕ)) → has_body o p ≡ has_body o (option_map names_spelled p)
body_same None None = refl
body_same None (Some bytes) = refl
body_same (Some bytes) p = refl

contents_left : (k : VnodeKind) (c : ℕ) (a : Amend) (x : Vnode) (bytes : List ℕ) → x.contents ≡ contents_seen k bytes → HasOwn k (amended c (amend_seen a) x) → contents_seen k (body_left k a bytes) ≡ or_old a.contents x.contents
contents_left a_directory c a x bytes is own = sym own
contents_left a_file c a x bytes is own = rw is refl
contents_left a_link c a x bytes is own = rw is refl

names_left : (k : VnodeKind) (c : ℕ) (a : Amend) (x : Vnode) (bytes : List ℕ) → x.names ≡ names_seen k bytes → HasOwn k (amended c (amend_seen a) x) → names_seen k (body_left k a bytes) ≡ or_old (option_map names_spelled a.names) x.names
names_left a_directory c a x bytes is own = names_kept a.names bytes ∙ ap (λ (ns : List Name). or_old (option_map names_spelled a.names) ns) (sym is)
names_left a_file c a x bytes is own = sym own.0
names_left a_link c a x bytes is own = sym own.0

acl_left : (k : VnodeKind) (c : ℕ) (a : Amend) (x : Vnode) (text : List ℕ) → x.acl ≡ list_seen k text → HasOwn k (amended c (amend_seen a) x) → list_seen k (list_left k a text) ≡ or_old (list_given a.acl) x.acl
acl_left a_directory c a x text is own = list_kept a a.acl text refl ∙ ap (λ (l : AccessList). or_old (list_given a.acl) l) (sym is)
acl_left a_file c a x text is own = sym own.1
acl_left a_link c a x text is own = sym own.1

seen_by : (c now : ℕ) (a : Amend) (x : image.Vnode) → HasOwn (seen x).kind (amended c (amend_seen a) (seen x)) → with_status a.status (seen (image_amended c now a x)) ≡ amended c (amend_seen a) (seen x)
unfolding seen
seen_by c now a x own =
    let k = kind_seen x.kind in
    rw (contents_left k c a (seen x) x.contents refl own, names_left k c a (seen x) x.contents refl own, acl_left k c a (seen x) x.acl refl own, body_same a.contents a.names) refl

pub amended_seen : (c now : ℕ) (a : Amend) (x y : image.Vnode) → y ≡ image_amended c now a x → HasOwn (seen x).kind (amended c (amend_seen a) (seen x)) → with_status a.status (seen y) ≡ amended c (amend_seen a) (seen x)
amended_seen c now a x y is own = rw is (seen_by c now a x own)
