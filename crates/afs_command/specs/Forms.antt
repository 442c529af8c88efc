-- The forms of the words behind the program's name.
use Rattle.std.specs.Prelude.{◌≡◌, ◌⊎◌, ℕ, List, [], ◌∷◌, ◌++◌, Bool, true, false, not, ◌&&◌, Option, Some, None, codes, nat_eq, drop, if◌then◌else◌}
use Rattle.std.specs.List.{starts_with}
use Rattle.std.specs.Option.{option_map}
use Rattle.afs_disk.specs.declared.bank.Place.{Place}
use Rattle.afs_disk.specs.declared.bank.Place.TheVariants.{Memory, Folder}
use Rattle.std.specs.Str.{bytes_eq}
use Rattle.afs_command.specs.declared.statuses.Form.{Form}
use Rattle.spec_model.specs.ScriptWords.{ranged}
use Rattle.afs_command.specs.declared.statuses.Form.TheVariants.{Gen, Replay}

-- ---- what the forms are

-- an option that asks for the bytes of messages
abbrev pub IsWire : Bool → List (List ℕ) → Type 0
IsWire false words = words ≡ []
IsWire true words = words ≡ codes "--wire" ∷ []

-- a folder has a name, which doesn't begin as an option does
abbrev pub is_name : List ℕ → Bool
is_name [] = false
is_name (letter ∷ more) = not (nat_eq letter 45)

-- an option that says where the disks are: in memory where it isn't there, else in files of a folder, in one word or in two
abbrev pub IsPlace : Place → List (List ℕ) → Type 0
IsPlace Memory words = words ≡ []
IsPlace (Folder name) words = (is_name name ≡ true) × ((words ≡ codes "--disks" ∷ name ∷ []) ⊎ (words ≡ (codes "--disks=" ++ name) ∷ []))

-- the options stand in either order
pub record AreOptions (wire : Bool) (place : Place) (words : List (List ℕ)) : Type 0 where
  pub told : List (List ℕ)
  pub kept : List (List ℕ)
  pub is_wire : IsWire wire told
  pub is_place : IsPlace place kept
  pub order : (words ≡ told ++ kept) ⊎ (words ≡ kept ++ told)

-- a number from 1 to 1,000, in decimal without leading zeros
abbrev pub IsNumber : ℕ → List ℕ → Type 0
IsNumber number word = ranged 1 1000 word ≡ Some number

-- These words ask for this: a script is played by its schedule over disks of this place, and its messages are told with their
-- bytes or without; or the script that is made for a number is played, and its summary told.
abbrev pub Asks : Form → List (List ℕ) → Type 0
Asks (Replay wire place) words = (options : List (List ℕ)) × ((words ≡ codes "replay" ∷ options) × AreOptions wire place options)
Asks (Gen number) words = (word : List ℕ) × ((words ≡ codes "gen" ∷ word ∷ []) × IsNumber number word)

-- these words have one of the forms
abbrev pub HaveForm : List (List ℕ) → Type 0
HaveForm words = (form : Form) × Asks form words

-- ---- how they are read

abbrev pub is_wire : List ℕ → Bool
is_wire word = bytes_eq word (codes "--wire")

abbrev pub is_disks : List ℕ → Bool
is_disks word = bytes_eq word (codes "--disks")

abbrev pub name_of : List ℕ → Option (List ℕ)
name_of word = if is_name word then Some word else None

abbrev pub name_in : List ℕ → Option (List ℕ)
name_in word = if starts_with nat_eq word (codes "--disks=") then name_of (drop 8 word) else None

-- the bytes of messages are asked for or not, and a folder may be named
pub record Options : Type 0 where
  pub wire : Bool
  pub folder : Option (List ℕ)

abbrev pub with_folder : Bool → Option (List ℕ) → Option Options
with_folder wire None = None
with_folder wire (Some name) = Some (record { wire = wire; folder = Some name })

abbrev pub of_two : List ℕ → List ℕ → Option Options
of_two a b = if is_wire a then with_folder true (name_in b) else (if is_wire b then with_folder true (name_in a) else (if is_disks a then with_folder false (name_of b) else None))

abbrev pub of_three : List ℕ → List ℕ → List ℕ → Option Options
of_three a b c = if is_wire a && is_disks b then with_folder true (name_of c) else (if is_disks a && is_wire c then with_folder true (name_of b) else None)

abbrev pub options_in : List (List ℕ) → Option Options
options_in [] = Some (record { wire = false; folder = None })
options_in (a ∷ []) = if is_wire a then Some (record { wire = true; folder = None }) else with_folder false (name_in a)
options_in (a ∷ b ∷ []) = of_two a b
options_in (a ∷ b ∷ c ∷ []) = of_three a b c
options_in (a ∷ b ∷ c ∷ d ∷ more) = None

abbrev pub options_behind : Bool → List (List ℕ) → Option Options
options_behind true words = options_in words
options_behind false words = None

abbrev pub asked_in : List (List ℕ) → Option Options
asked_in [] = None
asked_in (word ∷ words) = options_behind (bytes_eq word (codes "replay")) words

abbrev pub place_of : Option (List ℕ) → Place
place_of None = Memory
place_of (Some name) = Folder name

-- the number that stands alone behind `gen`
abbrev pub number_in : List (List ℕ) → Option ℕ
number_in [] = None
number_in (word ∷ []) = ranged 1 1000 word
number_in (a ∷ b ∷ more) = None

abbrev pub number_behind : Bool → List (List ℕ) → Option ℕ
number_behind true words = number_in words
number_behind false words = None

abbrev pub generated_in : List (List ℕ) → Option ℕ
generated_in [] = None
generated_in (word ∷ words) = number_behind (bytes_eq word (codes "gen")) words

-- a script is to be made, or one is to be played as options ask
abbrev pub form_by : Option ℕ → Option Options → Option Form
form_by (Some number) asked = Some (Gen number)
form_by None asked = option_map (λ (o : Options). Replay o.wire (place_of o.folder)) asked

abbrev pub form_in : List (List ℕ) → Option Form
form_in words = form_by (generated_in words) (asked_in words)
