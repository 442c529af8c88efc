-- The words ask for a form exactly where they are read so.
use Rattle.std.proofs.Common.{◌≡◌, ℕ, List, [], ◌∷◌, ◌++◌, Bool, true, false, cond, not, ◌&&◌, Option, Some, None, IsSome, codes, refl, sym, ap, ◌∙◌, ◌⊎◌, inl, inr, drop, take, nat_eq, bytes_eq}
use Rattle.std.proofs.lemmas.List.{take-append-drop}
use Rattle.std.specs.List.{starts_with}
use Rattle.std.specs.Option.{option_map}
use Rattle.std.proofs.lemmas.Slice.Eq.{bytes_eq-Decides}
use Rattle.afs_disk.specs.declared.bank.Place.{Place}
use Rattle.afs_disk.specs.declared.bank.Place.TheVariants.{Memory, Folder}
use Rattle.afs_command.specs.declared.statuses.Form.{Form}
use Rattle.afs_command.specs.declared.statuses.Form.TheVariants.{Gen, Replay}
use Rattle.afs_command.specs.Forms.{form_by, form_in, generated_in, is_disks, is_name, is_wire, name_in, name_of, number_behind, number_in, of_three, of_two, asked_in, options_behind, options_in, place_of, with_folder, AreOptions, Asks, HaveForm, IsNumber, IsPlace, IsWire, Options}

some_injective : {A : Type 0} {x y : A} → Some x ≡ Some y → x ≡ y
some_injective p = cc

-- ---- what is asked is read

not_false : (b : Bool) → not b ≡ true → b ≡ false
not_false true p = sym p
not_false false p = refl

-- a name isn't an option
name_is_not_wire : (name : List ℕ) → is_name name ≡ true → is_wire name ≡ false
name_is_not_wire [] named = refl
name_is_not_wire (letter ∷ more) named = rw (not_false (nat_eq letter 45) named) refl

abbrev folder_of : Place → Option (List ℕ)
folder_of Memory = None
folder_of (Folder name) = Some name

abbrev options_of : Bool → Place → Options
options_of wire place = record { wire = wire; folder = folder_of place }

named : (wire : Bool) (name : List ℕ) → is_name name ≡ true → with_folder wire (name_of name) ≡ Some (options_of wire (Folder name))
named wire name is = rw (is) refl

named_in : (wire : Bool) (name : List ℕ) → is_name name ≡ true → with_folder wire (name_in (codes "--disks=" ++ name)) ≡ Some (options_of wire (Folder name))
named_in wire name is = rw (is) refl

two_words : (name : List ℕ) → is_name name ≡ true → options_in (codes "--disks" ∷ name ∷ []) ≡ Some (options_of false (Folder name))
two_words name is = rw (name_is_not_wire name is) (named false name is)

-- with this option told and these words for the place, in either order
read_told : (wire : Bool) (place : Place) (told kept : List (List ℕ)) → IsWire wire told → IsPlace place kept → options_in (told ++ kept) ≡ Some (options_of wire place)
read_told false Memory told kept w p = rw (w, p) refl
read_told true Memory told kept w p = rw (w, p) refl
read_told false (Folder name) told kept w (is, inl p) = rw (w, p) (two_words name is)
read_told false (Folder name) told kept w (is, inr p) = rw (w, p) (named_in false name is)
read_told true (Folder name) told kept w (is, inl p) = rw (w, p) (named true name is)
read_told true (Folder name) told kept w (is, inr p) = rw (w, p) (named_in true name is)

read_kept : (wire : Bool) (place : Place) (told kept : List (List ℕ)) → IsWire wire told → IsPlace place kept → options_in (kept ++ told) ≡ Some (options_of wire place)
read_kept false Memory told kept w p = rw (w, p) refl
read_kept true Memory told kept w p = rw (w, p) refl
read_kept false (Folder name) told kept w (is, inl p) = rw (w, p) (two_words name is)
read_kept false (Folder name) told kept w (is, inr p) = rw (w, p) (named_in false name is)
read_kept true (Folder name) told kept w (is, inl p) = rw (w, p) (named true name is)
read_kept true (Folder name) told kept w (is, inr p) = rw (w, p) (named_in true name is)

read_options : (wire : Bool) (place : Place) (words : List (List ℕ)) → AreOptions wire place words → options_in words ≡ Some (options_of wire place)
read_options wire place words o = either o.order where
  either : (words ≡ o.told ++ o.kept) ⊎ (words ≡ o.kept ++ o.told) → options_in words ≡ Some (options_of wire place)
  either (inl p) = rw (p) (read_told wire place o.told o.kept o.is_wire o.is_place)
  either (inr p) = rw (p) (read_kept wire place o.told o.kept o.is_wire o.is_place)

place_again : (place : Place) → place_of (folder_of place) ≡ place
place_again Memory = refl
place_again (Folder name) = refl

pub read_as_asked : (form : Form) (words : List (List ℕ)) → Asks form words → form_in words ≡ Some form
read_as_asked (Replay wire place) words a =
    rw (a.1.0, read_options wire place a.0 a.1.1) (ap (λ (p : Place). Some (Replay wire p)) (place_again place))
read_as_asked (Gen number) words a = rw (a.1.0, a.1.1) refl

pub have_form_is_read : (words : List (List ℕ)) → HaveForm words → IsSome (form_in words)
have_form_is_read words h = rw (read_as_asked h.0 words h.1) refl

-- ---- what is read is asked

alike : (a b : List ℕ) → bytes_eq a b ≡ true → a ≡ b
alike a b = (bytes_eq-Decides a b).0

both_true : (a b : Bool) → (a && b) ≡ true → (a ≡ true) × (b ≡ true)
both_true true b p = (refl, p)
both_true false b p = absurd cc

-- where a word is tested, one of two comes of it
tested : {A : Type 0} (b : Bool) (x y z : A) → cond b x y ≡ z → ((b ≡ true) × (x ≡ z)) ⊎ ((b ≡ false) × (y ≡ z))
tested true x y z p = inl (refl, p)
tested false x y z p = inr (refl, p)

-- a folder was named
record IsNamed (wire : Bool) (folder : Option (List ℕ)) (o : Options) : Type 0 where
  name : List ℕ
  found : folder ≡ Some name
  are : o ≡ options_of wire (Folder name)

was_named : (wire : Bool) (folder : Option (List ℕ)) (o : Options) → with_folder wire folder ≡ Some o → IsNamed wire folder o
was_named wire None o p = absurd cc
was_named wire (Some name) o p = record { name = name; found = refl; are = sym (some_injective p) }

name_is : (word name : List ℕ) → name_of word ≡ Some name → (word ≡ name) × (is_name name ≡ true)
name_is word name p = either (tested (is_name word) (Some word) None (Some name) p) where
  either : ((is_name word ≡ true) × (Some word ≡ Some name)) ⊎ ((is_name word ≡ false) × (None ≡ Some name)) → (word ≡ name) × (is_name name ≡ true)
  either (inl q) = (some_injective q.1, rw (← some_injective q.1) q.0)
  either (inr q) = absurd cc

name_is_in : (word name : List ℕ) → name_in word ≡ Some name → (word ≡ codes "--disks=" ++ name) × (is_name name ≡ true)
name_is_in word name p = either (tested (starts_with nat_eq word (codes "--disks=")) (name_of (drop 8 word)) None (Some name) p) where
  either : ((starts_with nat_eq word (codes "--disks=") ≡ true) × (name_of (drop 8 word) ≡ Some name)) ⊎ ((starts_with nat_eq word (codes "--disks=") ≡ false) × (None ≡ Some name)) → (word ≡ codes "--disks=" ++ name) × (is_name name ≡ true)
  either (inl q) =
      let behind = name_is (drop 8 word) name q.1 in
      (sym (take-append-drop 8 word) ∙ (ap (λ (front : List ℕ). front ++ drop 8 word) (sym (alike (codes "--disks=") (take 8 word) q.0)) ∙ ap (λ (rest : List ℕ). codes "--disks=" ++ rest) behind.0), behind.1)
  either (inr q) = absurd cc

-- these options, told before the place or behind it
told_first : (wire : Bool) (place : Place) (told kept words : List (List ℕ)) → IsWire wire told → IsPlace place kept → words ≡ told ++ kept → AreOptions wire place words
told_first wire place told kept words w p are = record { told = told; kept = kept; is_wire = w; is_place = p; order = inl are }

kept_first : (wire : Bool) (place : Place) (told kept words : List (List ℕ)) → IsWire wire told → IsPlace place kept → words ≡ kept ++ told → AreOptions wire place words
kept_first wire place told kept words w p are = record { told = told; kept = kept; is_wire = w; is_place = p; order = inr are }

abbrev AreAsked : Options → List (List ℕ) → Type 0
AreAsked o words = AreOptions o.wire (place_of o.folder) words

asked_alone : (word : List ℕ) (o : Options) → IsNamed false (name_in word) o → AreAsked o (word ∷ [])
asked_alone word o n =
    let is = name_is_in word n.name n.found in
    rw (n.are) (told_first false (Folder n.name) [] (word ∷ []) (word ∷ []) refl (is.1, inr (ap (λ (w : List ℕ). w ∷ []) is.0)) refl)

asked_in_two : (first second : List ℕ) (o : Options) → first ≡ codes "--disks" → IsNamed false (name_of second) o → AreAsked o (first ∷ second ∷ [])
asked_in_two first second o d n =
    let is = name_is second n.name n.found in
    rw (n.are) (told_first false (Folder n.name) [] (first ∷ second ∷ []) (first ∷ second ∷ []) refl (is.1, inl (rw (d, is.0) refl)) refl)

asked_behind_wire : (first second : List ℕ) (o : Options) → first ≡ codes "--wire" → IsNamed true (name_in second) o → AreAsked o (first ∷ second ∷ [])
asked_behind_wire first second o w n =
    let is = name_is_in second n.name n.found in
    rw (n.are) (told_first true (Folder n.name) (first ∷ []) (second ∷ []) (first ∷ second ∷ []) (rw (w) refl) (is.1, inr (ap (λ (x : List ℕ). x ∷ []) is.0)) refl)

asked_before_wire : (first second : List ℕ) (o : Options) → second ≡ codes "--wire" → IsNamed true (name_in first) o → AreAsked o (first ∷ second ∷ [])
asked_before_wire first second o w n =
    let is = name_is_in first n.name n.found in
    rw (n.are) (kept_first true (Folder n.name) (second ∷ []) (first ∷ []) (first ∷ second ∷ []) (rw (w) refl) (is.1, inr (ap (λ (x : List ℕ). x ∷ []) is.0)) refl)

asked_by_wire_and_two : (a b c : List ℕ) (o : Options) → a ≡ codes "--wire" → b ≡ codes "--disks" → IsNamed true (name_of c) o → AreAsked o (a ∷ b ∷ c ∷ [])
asked_by_wire_and_two a b c o w d n =
    let is = name_is c n.name n.found in
    rw (n.are) (told_first true (Folder n.name) (a ∷ []) (b ∷ c ∷ []) (a ∷ b ∷ c ∷ []) (rw (w) refl) (is.1, inl (rw (d, is.0) refl)) refl)

asked_by_two_and_wire : (a b c : List ℕ) (o : Options) → a ≡ codes "--disks" → c ≡ codes "--wire" → IsNamed true (name_of b) o → AreAsked o (a ∷ b ∷ c ∷ [])
asked_by_two_and_wire a b c o d w n =
    let is = name_is b n.name n.found in
    rw (n.are) (kept_first true (Folder n.name) (c ∷ []) (a ∷ b ∷ []) (a ∷ b ∷ c ∷ []) (rw (w) refl) (is.1, inl (rw (d, is.0) refl)) refl)

asked_of_one : (word : List ℕ) (o : Options) → options_in (word ∷ []) ≡ Some o → AreAsked o (word ∷ [])
asked_of_one word o p = either (tested (is_wire word) (Some (options_of true Memory)) (with_folder false (name_in word)) (Some o) p) where
  either : ((is_wire word ≡ true) × (Some (options_of true Memory) ≡ Some o)) ⊎ ((is_wire word ≡ false) × (with_folder false (name_in word) ≡ Some o)) → AreAsked o (word ∷ [])
  either (inl q) = rw (← some_injective q.1) (told_first true Memory (word ∷ []) [] (word ∷ []) (ap (λ (w : List ℕ). w ∷ []) (alike word (codes "--wire") q.0)) refl refl)
  either (inr q) = asked_alone word o (was_named false (name_in word) o q.1)

asked_of_two : (a b : List ℕ) (o : Options) → of_two a b ≡ Some o → AreAsked o (a ∷ b ∷ [])
asked_of_two a b o p =
    first (tested (is_wire a) (with_folder true (name_in b)) (cond (is_wire b) (with_folder true (name_in a)) (cond (is_disks a) (with_folder false (name_of b)) None)) (Some o) p) where
      third : ((is_disks a ≡ true) × (with_folder false (name_of b) ≡ Some o)) ⊎ ((is_disks a ≡ false) × (None ≡ Some o)) → AreAsked o (a ∷ b ∷ [])
      third (inl q) = asked_in_two a b o (alike a (codes "--disks") q.0) (was_named false (name_of b) o q.1)
      third (inr q) = absurd cc

      second : ((is_wire b ≡ true) × (with_folder true (name_in a) ≡ Some o)) ⊎ ((is_wire b ≡ false) × (cond (is_disks a) (with_folder false (name_of b)) None ≡ Some o)) → AreAsked o (a ∷ b ∷ [])
      second (inl q) = asked_before_wire a b o (alike b (codes "--wire") q.0) (was_named true (name_in a) o q.1)
      second (inr q) = third (tested (is_disks a) (with_folder false (name_of b)) None (Some o) q.1)

      first : ((is_wire a ≡ true) × (with_folder true (name_in b) ≡ Some o)) ⊎ ((is_wire a ≡ false) × (cond (is_wire b) (with_folder true (name_in a)) (cond (is_disks a) (with_folder false (name_of b)) None) ≡ Some o)) → AreAsked o (a ∷ b ∷ [])
      first (inl q) = asked_behind_wire a b o (alike a (codes "--wire") q.0) (was_named true (name_in b) o q.1)
      first (inr q) = second (tested (is_wire b) (with_folder true (name_in a)) (cond (is_disks a) (with_folder false (name_of b)) None) (Some o) q.1)

asked_of_three : (a b c : List ℕ) (o : Options) → of_three a b c ≡ Some o → AreAsked o (a ∷ b ∷ c ∷ [])
asked_of_three a b c o p =
    first (tested (is_wire a && is_disks b) (with_folder true (name_of c)) (cond (is_disks a && is_wire c) (with_folder true (name_of b)) None) (Some o) p) where
      second : ((is_disks a && is_wire c ≡ true) × (with_folder true (name_of b) ≡ Some o)) ⊎ ((is_disks a && is_wire c ≡ false) × (None ≡ Some o)) → AreAsked o (a ∷ b ∷ c ∷ [])
      second (inl q) =
          let both = both_true (is_disks a) (is_wire c) q.0 in
          asked_by_two_and_wire a b c o (alike a (codes "--disks") both.0) (alike c (codes "--wire") both.1) (was_named true (name_of b) o q.1)
      second (inr q) = absurd cc

      first : ((is_wire a && is_disks b ≡ true) × (with_folder true (name_of c) ≡ Some o)) ⊎ ((is_wire a && is_disks b ≡ false) × (cond (is_disks a && is_wire c) (with_folder true (name_of b)) None ≡ Some o)) → AreAsked o (a ∷ b ∷ c ∷ [])
      first (inl q) =
          let both = both_true (is_wire a) (is_disks b) q.0 in
          asked_by_wire_and_two a b c o (alike a (codes "--wire") both.0) (alike b (codes "--disks") both.1) (was_named true (name_of c) o q.1)
      first (inr q) = second (tested (is_disks a && is_wire c) (with_folder true (name_of b)) None (Some o) q.1)

asked_options : (words : List (List ℕ)) (o : Options) → options_in words ≡ Some o → AreAsked o words
asked_options [] o p = rw (← some_injective p) (told_first false Memory [] [] [] refl refl refl)
asked_options (a ∷ []) o p = asked_of_one a o p
asked_options (a ∷ b ∷ []) o p = asked_of_two a b o p
asked_options (a ∷ b ∷ c ∷ []) o p = asked_of_three a b c o p
asked_options (a ∷ b ∷ c ∷ d ∷ more) o p = absurd cc

asked_replay : (words : List (List ℕ)) (read : Option Options) (form : Form) → read ≡ asked_in words → form_by None read ≡ Some form → Asks form words
asked_replay [] None form are q = absurd cc
asked_replay [] (Some o) form are q = absurd cc
asked_replay (word ∷ words) None form are q = absurd cc
asked_replay (word ∷ words) (Some o) form are q = either (bytes_eq word (codes "replay")) refl are where
  either : (is : Bool) → bytes_eq word (codes "replay") ≡ is → Some o ≡ options_behind is words → Asks form (word ∷ words)
  either true is p = rw (← some_injective q) (words, (ap (λ (w : List ℕ). w ∷ words) (alike word (codes "replay") is), asked_options words o (sym p)))
  either false is p = absurd cc

-- the number stands alone behind `gen`
asked_number : (words : List (List ℕ)) (number : ℕ) → number_in words ≡ Some number → (word : List ℕ) × ((words ≡ word ∷ []) × IsNumber number word)
asked_number [] number p = absurd cc
asked_number (word ∷ []) number p = (word, (refl, p))
asked_number (a ∷ b ∷ more) number p = absurd cc

asked_generated : (words : List (List ℕ)) (number : ℕ) → generated_in words ≡ Some number → Asks (Gen number) words
asked_generated [] number p = absurd cc
asked_generated (word ∷ words) number p = either (bytes_eq word (codes "gen")) refl p where
  either : (is : Bool) → bytes_eq word (codes "gen") ≡ is → number_behind is words ≡ Some number → Asks (Gen number) (word ∷ words)
  either true is q =
      let alone = asked_number words number q in
      (alone.0, (ap (λ (w : List ℕ). w ∷ words) (alike word (codes "gen") is) ∙ ap (λ (ws : List (List ℕ)). codes "gen" ∷ ws) alone.1.0, alone.1.1))
  either false is q = absurd cc

pub asked_as_read : (words : List (List ℕ)) (form : Form) → form_in words ≡ Some form → Asks form words
asked_as_read words form p = either (generated_in words) refl p where
  either : (made : Option ℕ) → generated_in words ≡ made → form_by made (asked_in words) ≡ Some form → Asks form words
  either (Some number) is q = rw (← some_injective q) (asked_generated words number is)
  either None is q = asked_replay words (asked_in words) form refl q
