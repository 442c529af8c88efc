-- A volume that passes the test of soundness is sound.
use Rattle.std.proofs.Common.{◌≡◌, ℕ, ◌+◌, true, [], ◌∷◌, Option, Some, None, Result, Ok, Err, List, is_ok, refl, arith, sym, subst, ◌∙◌}
use Rattle.std.specs.Option.{option_map}
use Rattle.afs_num.specs.declared.acls.AccessList.{AccessList}
use Rattle.afs_num.specs.declared.directories.Name.{Name}
use Rattle.afs_num.specs.declared.vnodes.Vnode as image
use Rattle.afs_num.specs.declared.volumes.VolumeHead.{VolumeHead}
use Rattle.spec_ideal.specs.AccessLists.{acl_at, Refusal, IsAccessList}
use Rattle.spec_ideal.specs.Directories.{directory_of, IsDirectory}
use Rattle.spec_ideal.specs.SetUp.{new_root}
use Rattle.spec_ideal.specs.Soundness.{IsSound}
use Rattle.spec_ideal.specs.Tables.{Table, get, AscendsFrom}
use Rattle.spec_ideal.specs.Volumes.{VnodeKind, a_file, a_directory, a_link}
use Rattle.spec_ideal.specs.Volumes as ideal
use Rattle.spec_ideal.proofs.AccessLists.{read_is_text}
use Rattle.spec_ideal.proofs.Laid.{first_sound}
use Rattle.spec_ideal.proofs.ReadNames.{read_is_directory}
use Rattle.spec_records.specs.Laws.{IsRead}
use Rattle.spec_records.specs.Sound.{is_sound}
use Rattle.spec_records.proofs.Tested.{passed, passes}
use Rattle.afs_volume.specs.Seen.{seen, all_seen, list_read, list_seen, list_spelled, names_read, names_seen, names_spelled, volume_seen, kind_seen, AreReadable, IsReadable}
use Rattle.afs_volume.proofs.Tables.{got}

-- ---- what is seen of a directory is one

names_by : (bytes : List ℕ) (r : Result (List Name) ℕ) → directory_of bytes ≡ r → IsDirectory (names_read r)
names_by bytes (Ok names) is = read_is_directory bytes names is
names_by bytes (Err e) is = record { ordered = refl; few = omega arith }

list_by : (text : List ℕ) (r : Result AccessList Refusal) → acl_at text ≡ r → is_ok r ≡ true → IsAccessList (list_read r)
list_by text (Ok a) is good = (read_is_text text a is).0
list_by text (Err e) is good = absurd cc

kind_by : (k : VnodeKind) (bytes text : List ℕ) → is_ok (acl_at text) ≡ true → k ≡ a_directory → IsDirectory (names_seen k bytes) × IsAccessList (list_seen k text)
unfolding names_spelled list_spelled
kind_by a_directory bytes text good is = (names_by bytes (directory_of bytes) refl, list_by text (acl_at text) refl good)
kind_by a_file bytes text good is = absurd cc
kind_by a_link bytes text good is = absurd cc

pub is_read : (x : image.Vnode) → IsReadable x → IsRead (seen x)
unfolding seen
is_read x h is = kind_by (kind_seen x.kind) x.contents x.acl (h.1.1.0 is) is

seen_from : (n : ℕ) (t : Table image.Vnode) (o : Option image.Vnode) (y : ideal.Vnode) → AreReadable t → get n t ≡ o → option_map seen o ≡ Some y → IsRead y
seen_from n t None y all is e = absurd cc
seen_from n t (Some x) y all is e = subst IsRead (let z : seen x ≡ y = cc in z) (is_read x (all n x is))

-- ---- the volume

pub volume_sound : (head : VolumeHead) (t : Table image.Vnode) → AreReadable t → is_sound (volume_seen head t) ≡ true → IsSound (volume_seen head t)
volume_sound head t all test = passed (volume_seen head t) (λ n y e. seen_from n t (get n t) y all refl (sym (got n t) ∙ e)) test

-- what is a volume besides its vnodes and its next unique number makes no difference
pub same_vnodes : (head other : VolumeHead) (t : Table image.Vnode) → AreReadable t → other.unique ≡ head.unique → is_sound (volume_seen head t) ≡ true → is_sound (volume_seen other t) ≡ true
same_vnodes head other t all unique test =
    passes (volume_seen other t) (first_sound [] (volume_seen head t) (volume_seen other t) (volume_sound head t all test) unique refl)

-- a new volume
pub new_sound : (head : VolumeHead) (t : Table image.Vnode) → head.unique ≡ 2 → all_seen t ≡ (1, new_root) ∷ [] → is_sound (volume_seen head t) ≡ true
unfolding is_sound
new_sound head t unique is = rw (unique, is) refl

unseen_up : (n : ℕ) (t : Table image.Vnode) → AscendsFrom n (all_seen t) → AscendsFrom n t
unfolding all_seen
unseen_up n [] up = tt
unseen_up n (p ∷ ps) up = (up.0, unseen_up (p.0 + 1) ps up.1)

-- its vnodes stand by their numbers
pub in_order : (head : VolumeHead) (t : Table image.Vnode) → AreReadable t → is_sound (volume_seen head t) ≡ true → AscendsFrom 1 t
in_order head t all test = unseen_up 1 t (volume_sound head t all test).ascending
