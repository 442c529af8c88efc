-- Rows on set-up: what lines lay, and their refusals.
use Rattle.std.proofs.Common.{◌≡◌, ℕ, List, [], ◌∷◌, Option, Some, None, refl}
use Rattle.std.specs.Prelude.{codes, Result, Ok, Err}
use Rattle.std.specs.Option.{option_map}
use Rattle.afs_num.specs.Names.{name_ok}
use Rattle.afs_num.specs.declared.directories.Name.{Name}
use Rattle.spec_history.specs.declared.acts.Written.TheVariants.{Hex, Fill}
use Rattle.spec_history.specs.declared.scripts.SetupLine.TheVariants as lines
use Rattle.spec_history.specs.declared.scripts.VolumeLine.{VolumeLine}
use Rattle.spec_shape.specs.Reading.{◌>>=◌}
use Rattle.afs_xdr.specs.Words.{word, opaque, pad}
use Rattle.spec_ideal.specs.AccessLists.{rights_of, acl_at, count_at, line_number_at, named_at, name_at, acl_entry_at}
use Rattle.spec_ideal.specs.Directories.{bytes_below, directory_bytes, name_bytes}
use Rattle.spec_ideal.specs.Tables.{get}
use Rattle.spec_ideal.specs.Volumes.{Vnode, Volume}
use Rattle.spec_ideal.specs.SetUp.{new_volume, led, a_dir, a_file_of, a_link_to, laid_at, acl_laid, laid, laid_all, first_volume, empty_volume}
use Rattle.spec_ideal.proofs.Operated.{name}

abbrev empty : Volume
empty = new_volume 5 (codes "v") 0 0 4

abbrev path : List ℕ → List (List ℕ)
path one = one ∷ []

-- a directory d with a file f of three bytes
abbrev filled : Result Volume ℕ
filled = do
  v ← laid_at 5 (path (codes "d")) a_dir empty
  laid_at 5 (codes "d" ∷ codes "f" ∷ []) (a_file_of (codes "abc")) v

abbrev then : (Volume → Result Volume ℕ) → Result Volume ℕ
then f = filled >>= f

abbrev word_of : (Vnode → ℕ) → ℕ → Result Volume ℕ → Option ℕ
word_of f n (Ok v) = option_map f (get n v.vnodes)
word_of f n (Err code) = None

abbrev head_of : (Volume → ℕ) → Result Volume ℕ → Option ℕ
head_of f (Ok v) = Some (f v)
head_of f (Err code) = None

abbrev code_of : Result Volume ℕ → ℕ
code_of (Ok v) = 0
code_of (Err code) = code

abbrev names_of : Result Volume ℕ → Option (List Name)
names_of (Ok v) = option_map (λ (x : Vnode). x.names) (get 3 v.vnodes)
names_of (Err code) = None

abbrev bytes_of : Result Volume ℕ → Option (List ℕ)
bytes_of (Ok v) = option_map (λ (x : Vnode). x.contents) (get 2 v.vnodes)
bytes_of (Err code) = None

the_root_alone : head_of (λ v. v.next) (Ok empty) ≡ Some 2
unfolding laid_at acl_laid led rights_of acl_at count_at line_number_at acl_entry_at name_at named_at bytes_below directory_bytes name_bytes opaque word pad name_ok
the_root_alone = refl

counter_stays_1 : head_of (λ v. v.counter) filled ≡ Some 1
unfolding laid_at acl_laid led rights_of acl_at count_at line_number_at acl_entry_at name_at named_at bytes_below directory_bytes name_bytes opaque word pad name_ok
counter_stays_1 = refl

two_uniques_are_given : head_of (λ v. v.next) filled ≡ Some 4
unfolding laid_at acl_laid led rights_of acl_at count_at line_number_at acl_entry_at name_at named_at bytes_below directory_bytes name_bytes opaque word pad name_ok
two_uniques_are_given = refl

index_of_the_directory : word_of (λ x. x.index) 3 filled ≡ Some 1
unfolding laid_at acl_laid led rights_of acl_at count_at line_number_at acl_entry_at name_at named_at bytes_below directory_bytes name_bytes opaque word pad name_ok
index_of_the_directory = refl

data_version_of_the_directory : word_of (λ x. x.data_version) 3 filled ≡ Some 1
unfolding laid_at acl_laid led rights_of acl_at count_at line_number_at acl_entry_at name_at named_at bytes_below directory_bytes name_bytes opaque word pad name_ok
data_version_of_the_directory = refl

change_counter_of_the_directory : word_of (λ x. x.changed) 3 filled ≡ Some 1
unfolding laid_at acl_laid led rights_of acl_at count_at line_number_at acl_entry_at name_at named_at bytes_below directory_bytes name_bytes opaque word pad name_ok
change_counter_of_the_directory = refl

index_of_the_root : word_of (λ x. x.index) 1 filled ≡ Some 1
unfolding laid_at acl_laid led rights_of acl_at count_at line_number_at acl_entry_at name_at named_at bytes_below directory_bytes name_bytes opaque word pad name_ok
index_of_the_root = refl

index_of_the_file : word_of (λ x. x.index) 2 filled ≡ Some 1
unfolding laid_at acl_laid led rights_of acl_at count_at line_number_at acl_entry_at name_at named_at bytes_below directory_bytes name_bytes opaque word pad name_ok
index_of_the_file = refl

data_version_of_the_file : word_of (λ x. x.data_version) 2 filled ≡ Some 1
unfolding laid_at acl_laid led rights_of acl_at count_at line_number_at acl_entry_at name_at named_at bytes_below directory_bytes name_bytes opaque word pad name_ok
data_version_of_the_file = refl

links_of_the_root : word_of (λ x. x.links) 1 filled ≡ Some 3
unfolding laid_at acl_laid led rights_of acl_at count_at line_number_at acl_entry_at name_at named_at bytes_below directory_bytes name_bytes opaque word pad name_ok
links_of_the_root = refl

parent_of_the_file : word_of (λ x. x.parent) 2 filled ≡ Some 3
unfolding laid_at acl_laid led rights_of acl_at count_at line_number_at acl_entry_at name_at named_at bytes_below directory_bytes name_bytes opaque word pad name_ok
parent_of_the_file = refl

names_of_the_directory : names_of filled ≡ Some (name (codes "f") 2 3 ∷ [])
unfolding laid_at acl_laid led rights_of acl_at count_at line_number_at acl_entry_at name_at named_at bytes_below directory_bytes name_bytes opaque word pad name_ok
names_of_the_directory = refl

bytes_of_the_file : bytes_of filled ≡ Some (codes "abc")
unfolding laid_at acl_laid led rights_of acl_at count_at line_number_at acl_entry_at name_at named_at bytes_below directory_bytes name_bytes opaque word pad name_ok
bytes_of_the_file = refl

text_of_a_link : bytes_of (laid_at 5 (path (codes "l")) (a_link_to (codes "to")) empty) ≡ Some (codes "to")
unfolding laid_at acl_laid led rights_of acl_at count_at line_number_at acl_entry_at name_at named_at bytes_below directory_bytes name_bytes opaque word pad name_ok
text_of_a_link = refl

list_of_the_root : code_of (acl_laid 5 [] (codes "0\n0\n") empty) ≡ 0
unfolding laid_at acl_laid led rights_of acl_at count_at line_number_at acl_entry_at name_at named_at bytes_below directory_bytes name_bytes opaque word pad name_ok
list_of_the_root = refl

list_of_a_file : code_of (then (acl_laid 5 (codes "d" ∷ codes "f" ∷ []) (codes "0\n0\n"))) ≡ 20
unfolding laid_at acl_laid led rights_of acl_at count_at line_number_at acl_entry_at name_at named_at bytes_below directory_bytes name_bytes opaque word pad name_ok
list_of_a_file = refl

list_of_no_name : code_of (then (acl_laid 5 (path (codes "x")) (codes "0\n0\n"))) ≡ 2
unfolding laid_at acl_laid led rights_of acl_at count_at line_number_at acl_entry_at name_at named_at bytes_below directory_bytes name_bytes opaque word pad name_ok
list_of_no_name = refl

no_list : code_of (acl_laid 5 [] (codes "0\n") empty) ≡ 22
unfolding laid_at acl_laid led rights_of acl_at count_at line_number_at acl_entry_at name_at named_at bytes_below directory_bytes name_bytes opaque word pad name_ok
no_list = refl

no_path : code_of (laid_at 5 [] a_dir empty) ≡ 22
unfolding laid_at acl_laid led rights_of acl_at count_at line_number_at acl_entry_at name_at named_at bytes_below directory_bytes name_bytes opaque word pad name_ok
no_path = refl

no_such_directory : code_of (then (laid_at 5 (codes "x" ∷ codes "y" ∷ []) a_dir)) ≡ 2
unfolding laid_at acl_laid led rights_of acl_at count_at line_number_at acl_entry_at name_at named_at bytes_below directory_bytes name_bytes opaque word pad name_ok
no_such_directory = refl

a_file_on_the_way : code_of (then (laid_at 5 (codes "d" ∷ codes "f" ∷ codes "y" ∷ codes "z" ∷ []) a_dir)) ≡ 20
unfolding laid_at acl_laid led rights_of acl_at count_at line_number_at acl_entry_at name_at named_at bytes_below directory_bytes name_bytes opaque word pad name_ok
a_file_on_the_way = refl

below_a_file : code_of (then (laid_at 5 (codes "d" ∷ codes "f" ∷ codes "y" ∷ []) a_dir)) ≡ 20
unfolding laid_at acl_laid led rights_of acl_at count_at line_number_at acl_entry_at name_at named_at bytes_below directory_bytes name_bytes opaque word pad name_ok
below_a_file = refl

a_name_that_is_there : code_of (then (laid_at 5 (path (codes "d")) (a_file_of []))) ≡ 17
unfolding laid_at acl_laid led rights_of acl_at count_at line_number_at acl_entry_at name_at named_at bytes_below directory_bytes name_bytes opaque word pad name_ok
a_name_that_is_there = refl

a_bad_name : code_of (laid_at 5 (path (codes "..")) a_dir empty) ≡ 22
unfolding laid_at acl_laid led rights_of acl_at count_at line_number_at acl_entry_at name_at named_at bytes_below directory_bytes name_bytes opaque word pad name_ok
a_bad_name = refl

above_the_quota : code_of (laid_at 5 (path (codes "a")) (a_file_of (codes "abc")) (record empty { quota = 1 })) ≡ 109
unfolding laid_at acl_laid led rights_of acl_at count_at line_number_at acl_entry_at name_at named_at bytes_below directory_bytes name_bytes opaque word pad name_ok
above_the_quota = refl

at_the_quota : code_of (laid_at 5 (path (codes "a")) (a_file_of (codes "abc")) (record empty { quota = 2 })) ≡ 0
unfolding laid_at acl_laid led rights_of acl_at count_at line_number_at acl_entry_at name_at named_at bytes_below directory_bytes name_bytes opaque word pad name_ok
at_the_quota = refl

in_a_read_only_volume : code_of (laid_at 5 (path (codes "a")) a_dir (record empty { kind = 1 })) ≡ 30
unfolding laid_at acl_laid led rights_of acl_at count_at line_number_at acl_entry_at name_at named_at bytes_below directory_bytes name_bytes opaque word pad name_ok
in_a_read_only_volume = refl

-- ---- a script's volume with a line of each kind

abbrev of_each : VolumeLine
of_each = record {
  id = 5;
  name = codes "v";
  server = 1;
  quota = 8;
  lines = lines.Directory (path (codes "d"))
      ∷ lines.File (codes "d" ∷ codes "f" ∷ []) (Fill 3 97)
      ∷ lines.Link (path (codes "l")) (Hex (codes "d/f"))
      ∷ lines.AccessList (path (codes "d")) (Hex (codes "1\n0\namy\t9\n"))
      ∷ [];
}

all_are_accepted : code_of (laid_all 5 of_each.lines (empty_volume of_each)) ≡ 0
unfolding laid_at acl_laid led rights_of acl_at count_at line_number_at acl_entry_at name_at named_at bytes_below directory_bytes name_bytes opaque word pad name_ok
all_are_accepted = refl

three_uniques_are_given : (first_volume of_each).next ≡ 5
unfolding laid_at acl_laid led rights_of acl_at count_at line_number_at acl_entry_at name_at named_at bytes_below directory_bytes name_bytes opaque word pad name_ok
three_uniques_are_given = refl

its_counter : (first_volume of_each).counter ≡ 1
unfolding laid_at acl_laid led rights_of acl_at count_at line_number_at acl_entry_at name_at named_at bytes_below directory_bytes name_bytes opaque word pad name_ok
its_counter = refl

names_of_its_root : option_map (λ (x : Vnode). x.names) (get 1 (first_volume of_each).vnodes) ≡ Some (name (codes "d") 3 2 ∷ name (codes "l") 4 4 ∷ [])
unfolding laid_at acl_laid led rights_of acl_at count_at line_number_at acl_entry_at name_at named_at bytes_below directory_bytes name_bytes opaque word pad name_ok
names_of_its_root = refl

bytes_of_its_file : option_map (λ (x : Vnode). x.contents) (get 2 (first_volume of_each).vnodes) ≡ Some (97 ∷ 97 ∷ 97 ∷ [])
unfolding laid_at acl_laid led rights_of acl_at count_at line_number_at acl_entry_at name_at named_at bytes_below directory_bytes name_bytes opaque word pad name_ok
bytes_of_its_file = refl

text_of_its_link : option_map (λ (x : Vnode). x.contents) (get 4 (first_volume of_each).vnodes) ≡ Some (codes "d/f")
unfolding laid_at acl_laid led rights_of acl_at count_at line_number_at acl_entry_at name_at named_at bytes_below directory_bytes name_bytes opaque word pad name_ok
text_of_its_link = refl

list_of_its_directory : option_map (λ (x : Vnode). x.acl) (get 3 (first_volume of_each).vnodes) ≡ Some (record { positive = (record { name = codes "amy"; rights = 9 }) ∷ []; negative = [] })
unfolding laid_at acl_laid led rights_of acl_at count_at line_number_at acl_entry_at name_at named_at bytes_below directory_bytes name_bytes opaque word pad name_ok
list_of_its_directory = refl

index_of_its_directory : option_map (λ (x : Vnode). x.index) (get 3 (first_volume of_each).vnodes) ≡ Some 1
unfolding laid_at acl_laid led rights_of acl_at count_at line_number_at acl_entry_at name_at named_at bytes_below directory_bytes name_bytes opaque word pad name_ok
index_of_its_directory = refl

a_refused_line_lays_nothing : first_volume (record of_each { lines = lines.Directory (path (codes "d")) ∷ lines.Link (path (codes "d")) (Hex (codes "x")) ∷ [] }) ≡ first_volume (record of_each { lines = lines.Directory (path (codes "d")) ∷ [] })
unfolding laid_at acl_laid led rights_of acl_at count_at line_number_at acl_entry_at name_at named_at bytes_below directory_bytes name_bytes opaque word pad name_ok
a_refused_line_lays_nothing = refl

but_not_all_are_accepted : code_of (laid_all 5 (lines.Directory (path (codes "d")) ∷ lines.Link (path (codes "d")) (Hex (codes "x")) ∷ []) (empty_volume of_each)) ≡ 17
unfolding laid_at acl_laid led rights_of acl_at count_at line_number_at acl_entry_at name_at named_at bytes_below directory_bytes name_bytes opaque word pad name_ok
but_not_all_are_accepted = refl

-- a list's text has 1,024 bytes at most: one of as many noughts is no list, and a longer one is too large
a_text_too_large : code_of (laid 5 (lines.AccessList [] (Fill 1025 48)) empty) ≡ 27
unfolding laid_at acl_laid led rights_of acl_at count_at line_number_at acl_entry_at name_at named_at bytes_below directory_bytes name_bytes opaque word pad name_ok
a_text_too_large = refl

the_largest_text : code_of (laid 5 (lines.AccessList [] (Fill 1024 48)) empty) ≡ 22
unfolding laid_at acl_laid led rights_of acl_at count_at line_number_at acl_entry_at name_at named_at bytes_below directory_bytes name_bytes opaque word pad name_ok
the_largest_text = refl
