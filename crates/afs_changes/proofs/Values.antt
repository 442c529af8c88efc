-- An image that can be seen has what it is seen as for its value.
use Rattle.std.proofs.Common.{◌≡◌, ℕ, Bool, true, false, List, [], ◌∷◌, if◌then◌else◌, Option, Some, None, Result, Ok, Err, is_ok, nat_eq, refl, sym, ◌∙◌}
use Rattle.std.specs.Option.{option_map}
use Rattle.std.specs.List.{AllByRecursion}
use Rattle.afs_num.specs.declared.acls.AccessList.{AccessList}
use Rattle.afs_num.specs.declared.vnodes.Vnode as image
use Rattle.spec_ideal.specs.AccessLists.{acl_at, acl_text, Refusal}
use Rattle.spec_ideal.specs.Directories.{directory_bytes, directory_of}
use Rattle.spec_ideal.specs.Images.{image_of, value_of}
use Rattle.spec_ideal.specs.Tables.{Table, get}
use Rattle.spec_ideal.specs.Volumes.{VnodeKind, a_directory, a_file, a_link, Vnode}
use Rattle.afs_changes.specs.Drawing.{shown_by}
use Rattle.afs_volume.specs.Seen.{all_seen, seen, kind_seen, contents_seen, list_read, list_seen, list_spelled, names_seen, names_spelled, AreReadable, IsReadable}
use Rattle.afs_volume.proofs.Tables.{got}
use Rattle.afs_volume.proofs.Texts.{text_is_list}
use Rattle.afs_volume.proofs.Spelled.{names_again}

good_by : (r : Result AccessList Refusal) → is_ok r ≡ true → r ≡ Ok (list_read r)
good_by (Ok a) good = refl
good_by (Err e) good = absurd cc

list_again : (text : List ℕ) → is_ok (acl_at text) ≡ true → acl_at text ≡ Ok (list_spelled text)
unfolding list_spelled
list_again text good = good_by (acl_at text) good

-- a vnode that has an image has a value
abbrev IsValued : VnodeKind → Vnode → Type 0
IsValued k x = (n time : ℕ) → value_of (image_of n time (record x { kind = k })) ≡ Some (record x { kind = k })

valued : (k : VnodeKind) (x : Vnode) (bytes text : List ℕ) → x.contents ≡ contents_seen k bytes → x.names ≡ names_seen k bytes → x.acl ≡ list_seen k text → (k ≡ a_directory → directory_bytes (names_spelled bytes) ≡ bytes) → (k ≡ a_directory → is_ok (acl_at text) ≡ true) → IsValued k x
unfolding value_of
valued a_directory x bytes text contents names list spelled good n time =
    let dir : directory_of (directory_bytes x.names) ≡ Ok x.names = rw (names, spelled refl) (names_again bytes (spelled refl)) in
    let acl : acl_at (acl_text x.acl) ≡ Ok x.acl = rw (list, ← text_is_list text (good refl)) (list_again text (good refl)) in
    rw (dir, acl, contents) refl
valued a_file x bytes text contents names list spelled good n time = rw (names, list) refl
valued a_link x bytes text contents names list spelled good n time = rw (names, list) refl

pub value_again : (i : image.Vnode) → IsReadable i → (n time : ℕ) → value_of (image_of n time (seen i)) ≡ Some (seen i)
unfolding seen
value_again i h n time = valued (kind_seen i.kind) (seen i) i.contents i.acl refl refl refl h.1.0 h.1.1.0 n time

-- ---- what is found among images

abbrev pub IsSeenOf : Vnode → Type 0
IsSeenOf x = (i : image.Vnode) × (IsReadable i × (seen i ≡ x))

shown_by_one : (b : Bool) (i : image.Vnode) (o : Option Vnode) (x : Vnode) → IsReadable i → (o ≡ Some x → IsSeenOf x) → (if b then Some (seen i) else o) ≡ Some x → IsSeenOf x
shown_by_one true i o x h more is = (i, (h, let z : seen i ≡ x = cc in z))
shown_by_one false i o x h more is = more is

pub shown_is : (n : ℕ) (is : List image.Vnode) (x : Vnode) → AllByRecursion IsReadable is → get n (shown_by is) ≡ Some x → IsSeenOf x
shown_is n [] x all e = absurd cc
shown_is n (i ∷ is) x all e = shown_by_one (nat_eq i.vnode n) i (get n (shown_by is)) x all.0 (λ h. shown_is n is x all.1 h) e

seen_by : (n : ℕ) (t : Table image.Vnode) (o : Option image.Vnode) (x : Vnode) → AreReadable t → get n t ≡ o → option_map seen o ≡ Some x → IsSeenOf x
seen_by n t None x all is e = absurd cc
seen_by n t (Some i) x all is e = (i, (all n i is, let z : seen i ≡ x = cc in z))

pub seen_is : (n : ℕ) (t : Table image.Vnode) (x : Vnode) → AreReadable t → get n (all_seen t) ≡ Some x → IsSeenOf x
seen_is n t x all e = seen_by n t (get n t) x all refl (sym (got n t) ∙ e)
