-- Lists of words: what they ask, and what clap makes of them.
use Rattle.std.proofs.Common.{◌≡◌, List, [], ◌∷◌, true, false, not, ◌&&◌, Some, codes, map, refl, is_some}
use Rattle.std.specs.List.{list_all}
use Rattle.clap.proofs.OnLiterals.{clap_on_literals}
use Rattle.clap.specs.Faults.{fault_of}
use Rattle.clap.specs.Walk.{Text, is_empty}
use Rattle.afs_disk.specs.declared.bank.Place.TheVariants.{Memory, Folder}
use Rattle.spec_model.specs.ScriptWords.{numeral, ranged}
use Rattle.afs_command.specs.Forms.{form_in}
use Rattle.afs_command.specs.declared.statuses.Form.{Form}
use Rattle.afs_command.specs.declared.statuses.Form.TheVariants.{Gen, Replay}
use Rattle.afs_arguments.specs.Program.{program}

-- ---- words that have a form

record Row : Type 0 where
  words : List Text
  form : Form

abbrev asked : List Row
asked =
    record { words = codes "replay" ∷ []; form = Replay false Memory }
    ∷ record { words = codes "replay" ∷ codes "--wire" ∷ []; form = Replay true Memory }
    ∷ record { words = codes "replay" ∷ codes "--disks" ∷ codes "d" ∷ []; form = Replay false (Folder (codes "d")) }
    ∷ record { words = codes "replay" ∷ codes "--disks=d" ∷ []; form = Replay false (Folder (codes "d")) }
    ∷ record { words = codes "replay" ∷ codes "--wire" ∷ codes "--disks" ∷ codes "d" ∷ []; form = Replay true (Folder (codes "d")) }
    ∷ record { words = codes "replay" ∷ codes "--disks" ∷ codes "d" ∷ codes "--wire" ∷ []; form = Replay true (Folder (codes "d")) }
    ∷ record { words = codes "replay" ∷ codes "--wire" ∷ codes "--disks=d" ∷ []; form = Replay true (Folder (codes "d")) }
    ∷ record { words = codes "replay" ∷ codes "--disks=d" ∷ codes "--wire" ∷ []; form = Replay true (Folder (codes "d")) }
    ∷ record { words = codes "replay" ∷ codes "--disks" ∷ codes "d and more" ∷ []; form = Replay false (Folder (codes "d and more")) }
    ∷ record { words = codes "replay" ∷ codes "--disks=d=--wire" ∷ []; form = Replay false (Folder (codes "d=--wire")) }
    ∷ record { words = codes "replay" ∷ codes "--disks==" ∷ []; form = Replay false (Folder (codes "=")) }
    ∷ record { words = codes "replay" ∷ codes "--disks" ∷ codes "replay" ∷ []; form = Replay false (Folder (codes "replay")) }
    ∷ record { words = codes "replay" ∷ codes "--disks" ∷ (195 ∷ 164 ∷ []) ∷ []; form = Replay false (Folder (195 ∷ 164 ∷ [])) }
    ∷ record { words = codes "gen" ∷ codes "1" ∷ []; form = Gen 1 }
    ∷ record { words = codes "gen" ∷ codes "4" ∷ []; form = Gen 4 }
    ∷ record { words = codes "gen" ∷ codes "1000" ∷ []; form = Gen 1000 }
    ∷ []

they_ask : map (λ (row : Row). form_in row.words) asked ≡ map (λ (row : Row). Some row.form) asked
unfolding ranged numeral
they_ask = refl

they_are_taken : list_all (λ (row : Row). is_empty (fault_of program row.words)) asked ≡ true
unfolding clap_on_literals
they_are_taken = refl

-- ---- words that have none

abbrev refused : List (List Text)
refused =
    []
    ∷ ([] ∷ [])
    ∷ (codes "Replay" ∷ [])
    ∷ (codes "replays" ∷ [])
    ∷ (codes "run" ∷ [])
    ∷ (codes "run" ∷ codes "--wire" ∷ [])
    ∷ (codes "gen" ∷ [])
    ∷ (codes "Gen" ∷ codes "4" ∷ [])
    ∷ (codes "gens" ∷ codes "4" ∷ [])
    ∷ (codes "4" ∷ codes "gen" ∷ [])
    ∷ (codes "gen" ∷ codes "-4" ∷ [])
    ∷ (codes "gen" ∷ codes "4" ∷ codes "5" ∷ [])
    ∷ (codes "gen" ∷ codes "4" ∷ codes "--wire" ∷ [])
    ∷ (codes "gen" ∷ codes "--wire" ∷ codes "4" ∷ [])
    ∷ (codes "gen" ∷ codes "--disks=d" ∷ codes "4" ∷ [])
    ∷ (codes "gen" ∷ codes "--N" ∷ codes "4" ∷ [])
    ∷ (codes "gen" ∷ codes "4" ∷ codes "replay" ∷ [])
    ∷ (codes "replay" ∷ codes "gen" ∷ [])
    ∷ (codes "gen" ∷ codes "--help" ∷ [])
    ∷ (codes "help" ∷ [])
    ∷ (codes "help" ∷ codes "replay" ∷ [])
    ∷ (codes "--help" ∷ [])
    ∷ (codes "-h" ∷ [])
    ∷ (codes "--version" ∷ [])
    ∷ (codes "-V" ∷ [])
    ∷ (codes "--" ∷ [])
    ∷ (codes "--" ∷ codes "replay" ∷ [])
    ∷ (codes "--wire" ∷ codes "replay" ∷ [])
    ∷ (codes "--disks" ∷ codes "d" ∷ codes "replay" ∷ [])
    ∷ (codes "replay" ∷ [] ∷ [])
    ∷ (codes "replay" ∷ codes "replay" ∷ [])
    ∷ (codes "replay" ∷ codes "help" ∷ [])
    ∷ (codes "replay" ∷ codes "--help" ∷ [])
    ∷ (codes "replay" ∷ codes "-h" ∷ [])
    ∷ (codes "replay" ∷ codes "--version" ∷ [])
    ∷ (codes "replay" ∷ codes "-V" ∷ [])
    ∷ (codes "replay" ∷ codes "-" ∷ [])
    ∷ (codes "replay" ∷ codes "--" ∷ codes "--wire" ∷ [])
    ∷ (codes "replay" ∷ codes "--Wire" ∷ [])
    ∷ (codes "replay" ∷ codes "-wire" ∷ [])
    ∷ (codes "replay" ∷ codes "-w" ∷ [])
    ∷ (codes "replay" ∷ codes "--wir" ∷ [])
    ∷ (codes "replay" ∷ codes "--wires" ∷ [])
    ∷ (codes "replay" ∷ codes "--wire=" ∷ [])
    ∷ (codes "replay" ∷ codes "--wire=x" ∷ [])
    ∷ (codes "replay" ∷ codes "--wire" ∷ codes "true" ∷ [])
    ∷ (codes "replay" ∷ codes "--wire" ∷ codes "--wire" ∷ [])
    ∷ (codes "replay" ∷ codes "--wire" ∷ codes "replay" ∷ [])
    ∷ (codes "replay" ∷ codes "--disks" ∷ [])
    ∷ (codes "replay" ∷ codes "--disk" ∷ codes "d" ∷ [])
    ∷ (codes "replay" ∷ codes "--disks" ∷ codes "-d" ∷ [])
    ∷ (codes "replay" ∷ codes "--disks" ∷ codes "--" ∷ [])
    ∷ (codes "replay" ∷ codes "--disks" ∷ codes "--wire" ∷ [])
    ∷ (codes "replay" ∷ codes "--wire" ∷ codes "--disks" ∷ [])
    ∷ (codes "replay" ∷ codes "--disks" ∷ codes "d" ∷ codes "e" ∷ [])
    ∷ (codes "replay" ∷ codes "--disks=d" ∷ codes "e" ∷ [])
    ∷ (codes "replay" ∷ codes "--disks" ∷ codes "d" ∷ codes "--disks" ∷ codes "d" ∷ [])
    ∷ (codes "replay" ∷ codes "--disks=d" ∷ codes "--disks=d" ∷ [])
    ∷ (codes "replay" ∷ codes "--disks=d" ∷ codes "--disks" ∷ codes "d" ∷ [])
    ∷ (codes "replay" ∷ codes "--wire" ∷ codes "--disks" ∷ codes "d" ∷ codes "--wire" ∷ [])
    ∷ []

-- clap refuses these
they_are_refused : list_all (λ (words : List Text). not (is_some (form_in words)) && not (is_empty (fault_of program words))) refused ≡ true
unfolding clap_on_literals ranged numeral
they_are_refused = refl

abbrev looked_over : List (List Text)
looked_over =
    (codes "replay" ∷ codes "--" ∷ [])
    ∷ (codes "replay" ∷ codes "--wire" ∷ codes "--" ∷ [])
    ∷ (codes "replay" ∷ codes "--disks=d" ∷ codes "--" ∷ [])
    ∷ (codes "replay" ∷ codes "--disks" ∷ [] ∷ [])
    ∷ (codes "replay" ∷ codes "--disks=" ∷ [])
    ∷ (codes "replay" ∷ codes "--wire" ∷ codes "--disks=" ∷ [])
    ∷ (codes "replay" ∷ codes "--disks" ∷ codes "-" ∷ [])
    ∷ (codes "replay" ∷ codes "--disks=-" ∷ [])
    ∷ (codes "replay" ∷ codes "--disks=-d" ∷ [])
    ∷ (codes "replay" ∷ codes "--disks=--" ∷ [])
    ∷ (codes "replay" ∷ codes "--disks=--wire" ∷ codes "--wire" ∷ [])
    ∷ (codes "gen" ∷ [] ∷ [])
    ∷ (codes "gen" ∷ codes "0" ∷ [])
    ∷ (codes "gen" ∷ codes "04" ∷ [])
    ∷ (codes "gen" ∷ codes "+4" ∷ [])
    ∷ (codes "gen" ∷ codes "4x" ∷ [])
    ∷ (codes "gen" ∷ codes "1001" ∷ [])
    ∷ (codes "gen" ∷ codes "-" ∷ [])
    ∷ (codes "gen" ∷ codes "--" ∷ codes "4" ∷ [])
    ∷ (codes "gen" ∷ codes "replay" ∷ [])
    ∷ []

-- clap takes these, and what looks them over refuses them
they_are_looked_over : list_all (λ (words : List Text). not (is_some (form_in words)) && is_empty (fault_of program words)) looked_over ≡ true
unfolding clap_on_literals ranged numeral
they_are_looked_over = refl
