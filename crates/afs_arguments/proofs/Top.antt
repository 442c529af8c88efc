-- What clap makes of all the words.
use Rattle.std.proofs.Common.{◌≡◌, ℕ, List, [], ◌∷◌, ◌++◌, Bool, true, false, cond, Option, Some, None, codes, refl, sym, ap, subst, ◌∙◌, bytes_eq, append_assoc, append-nil, is_some, ◌⊎◌, inl, inr}
use Rattle.std.specs.List.{fold}
use Rattle.std.specs.Prelude.{slice_get}
use Rattle.std.specs.Str.{chars}
use Rattle.clap.specs.Faults.{check_fault, defaults_fault, entered_fault, fault_of, flags_fault, level_fault, settle_fault, turn_fault, walk_fault}
use Rattle.clap.specs.Kinds.{Kinds, or_else}
use Rattle.clap.specs.Lexer.{long_of, short_of}
use Rattle.clap.specs.Simple.{App, entered, subcommand_of}
use Rattle.clap.specs.Walk.{Names, Row, Text, Walk, bundle_met, finished, first_of, nothing_held, one_of, settled, walk_from, walked, with_default}
use Rattle.clap.specs.declared.error.kind.ErrorKind.TheVariants.{InvalidSubcommand, UnknownArgument}
use Rattle.clap.proofs.FaultLemmas.{stopped_fault}
use Rattle.afs_disk.specs.declared.bank.Place.{Place}
use Rattle.afs_command.specs.Forms.{form_by, form_in, AreOptions}
use Rattle.afs_arguments.specs.Found.{checked, flag_text, made_by}
use Rattle.afs_arguments.specs.Program.{program}
use Rattle.afs_arguments.proofs.Leaf.{disks, leaf, made_leaf, made_rules, rules, top, wire}
use Rattle.afs_arguments.proofs.Made.{finds_one, made_rows, takes_word}
use Rattle.afs_arguments.proofs.Words.{alike, not_none, IsPlainIn}
use Rattle.afs_arguments.proofs.Walks.{NoDashes, Passes, finds, first, front, rows_at, second, start}
use Rattle.afs_arguments.proofs.Takes.{takes}

abbrev names : Names
names = (codes "replay", []) ∷ (codes "gen", []) ∷ []

-- ---- another word first than the name of a command

stray : (word : Text) → bytes_eq (codes "replay") word ≡ false → bytes_eq (codes "gen") word ≡ false → bytes_eq word (codes "--") ≡ false → turn_fault top names (walk_from nothing_held) word ≡ [] → ⊥
unfolding flags_fault bundle_met
stray word no_replay no_gen d e = by_long (long_of word) refl where
  by_first : (x : ℕ) (more : Text) (letter : Option ℕ) → long_of word ≡ None → short_of word ≡ Some (x ∷ more) → slice_get (chars (x ∷ more)) 0 ≡ letter → ⊥
  by_first x more None l s is =
      let there : turn_fault top names (walk_from nothing_held) word ≡ UnknownArgument ∷ InvalidSubcommand ∷ [] = rw (no_replay, no_gen, d, l, s, is) refl in
      not_none _ _ (sym there ∙ e)
  by_first x more (Some letter) l s is =
      let there : turn_fault top names (walk_from nothing_held) word ≡ UnknownArgument ∷ [] = rw (no_replay, no_gen, d, l, s, is) refl in
      not_none _ _ (sym there ∙ e)

  by_short : (flags : Option Text) → long_of word ≡ None → short_of word ≡ flags → ⊥
  by_short None l s =
      let there : turn_fault top names (walk_from nothing_held) word ≡ UnknownArgument ∷ InvalidSubcommand ∷ [] = rw (no_replay, no_gen, d, l, s) refl in
      not_none _ _ (sym there ∙ e)
  by_short (Some []) l s =
      let there : turn_fault top names (walk_from nothing_held) word ≡ UnknownArgument ∷ InvalidSubcommand ∷ [] = rw (no_replay, no_gen, d, l, s) refl in
      not_none _ _ (sym there ∙ e)
  by_short (Some (x ∷ more)) l s = by_first x more (slice_get (chars (x ∷ more)) 0) l s refl

  by_long : (cut : Option (Text × Option Text)) → long_of word ≡ cut → ⊥
  by_long None l = by_short (short_of word) l refl
  by_long (Some p) l =
      let there : turn_fault top names (walk_from nothing_held) word ≡ UnknownArgument ∷ [] = rw (no_replay, no_gen, d, l) refl in
      not_none _ _ (sym there ∙ e)

no_command : (word : Text) (rest : List Text) → bytes_eq (codes "replay") word ≡ false → bytes_eq (codes "gen") word ≡ false → bytes_eq word (codes "--") ≡ false → fault_of program (word ∷ rest) ≡ [] → ⊥
unfolding walk_fault
no_command word rest no_replay no_gen d e =
    stray word no_replay no_gen d (first (turn_fault top names (walk_from nothing_held) word) (walk_fault top names (walked [] names (walk_from nothing_held) word) rest)
    (first (walk_fault top names (walk_from nothing_held) (word ∷ rest)) _ e))

-- ---- the name of a command first

-- where the command of this name was met, and these words came behind it
abbrev met : Text → List Text → Walk
met name words = record (walk_from nothing_held) { stopped = Some (name, words) }

stops : (name : Text) (words behind : List Text) → fold (walked [] names) (met name behind) words ≡ met name (behind ++ words)
unfolding walked
stops name [] behind = ap (met name) (sym (append-nil behind))
stops name (word ∷ rest) behind = stops name rest (behind ++ word ∷ []) ∙ ap (met name) (append_assoc behind (word ∷ []) rest)

-- defaults aren't refused
passed : (has : Bool) (next : Kinds) → next ≡ [] → or_else (cond has [] []) next ≡ []
passed true next e = e
passed false next e = e

no_defaults : (rows : List Row) → defaults_fault rows rules ≡ []
unfolding defaults_fault
no_defaults rows = passed _ (defaults_fault (with_default rows wire) (disks ∷ [])) (passed _ [] refl)

abbrev whole : App
whole = record { top = top; subs = leaf ∷ made_leaf ∷ [] }

-- the faults of the words behind a name, by where the walk through them stopped
abbrev faults_at : Text → List Text → Walk → Kinds
faults_at name rest w =
    or_else (walk_fault top names (walk_from nothing_held) (name ∷ rest)) (or_else (entered_fault whole w.stopped)
    (or_else (settle_fault [] false w.held) (or_else (defaults_fault (settled [] w.held).rows []) (check_fault top (finished [] w.held) (is_some (entered whole w.stopped))))))

fault_is : (rest : List Text) → fault_of program (codes "replay" ∷ rest) ≡ or_else (level_fault leaf [] nothing_held rest false []) []
unfolding walk_fault walked defaults_fault
fault_is rest =
    ap (faults_at (codes "replay") rest) (stops (codes "replay") rest [])
    ∙ ap (λ (k : Kinds). or_else k (or_else (level_fault leaf [] nothing_held rest false []) [])) (stopped_fault top names (walk_from nothing_held) (codes "replay", []) rest)

made_fault_is : (rest : List Text) → fault_of program (codes "gen" ∷ rest) ≡ or_else (level_fault made_leaf [] nothing_held rest false []) []
unfolding walk_fault walked defaults_fault
made_fault_is rest =
    ap (faults_at (codes "gen") rest) (stops (codes "gen") rest [])
    ∙ ap (λ (k : Kinds). or_else k (or_else (level_fault made_leaf [] nothing_held rest false []) [])) (stopped_fault top names (walk_from nothing_held) (codes "gen", []) rest)

passes_from : (rest : List Text) → fault_of program (codes "replay" ∷ rest) ≡ [] → Passes start rest
passes_from rest e =
    let level = first (level_fault leaf [] nothing_held rest false []) [] (sym (fault_is rest) ∙ e) in
    record { walk = first _ _ level; last = first _ _ (second _ _ level) }

passes_to : (rest : List Text) → Passes start rest → fault_of program (codes "replay" ∷ rest) ≡ []
passes_to rest p =
    let level : level_fault leaf [] nothing_held rest false [] ≡ [] = rw (p.walk, p.last, no_defaults (rows_at start rest)) refl in
    fault_is rest ∙ ap (λ (k : Kinds). or_else k []) level

found_is : (rest : List Text) → subcommand_of program (codes "replay" ∷ rest) ≡ Some (codes "replay", fold with_default (rows_at start rest) rules)
unfolding walked
found_is rest = ap (λ (w : Walk). entered whole w.stopped) (stops (codes "replay") rest [])

made_found_is : (rest : List Text) → subcommand_of program (codes "gen" ∷ rest) ≡ Some (codes "gen", made_rows rest)
unfolding walked
made_found_is rest = ap (λ (w : Walk). entered whole w.stopped) (stops (codes "gen") rest [])

-- ---- all words

-- clap finds the options of a replay, and they are what the words ask
pub record Reads (words : List Text) : Type 0 where
  pub wire : Bool
  pub folder : Option Text
  pub rows : List Row
  pub found : subcommand_of program words ≡ Some (codes "replay", rows)
  pub flag : one_of (codes "wire") rows ≡ Some (flag_text wire)
  pub name : first_of (codes "disks") rows ≡ folder
  pub form : form_in words ≡ form_by None (checked wire folder)

-- clap finds a word behind `gen`, and no more words are there
pub record ReadsMade (words : List Text) : Type 0 where
  pub word : Text
  pub rows : List Row
  pub found : subcommand_of program words ≡ Some (codes "gen", rows)
  pub name : first_of (codes "N") rows ≡ Some word
  pub form : form_in words ≡ made_by (Some word)

behind_replay : (rest : List Text) → NoDashes rest → fault_of program (codes "replay" ∷ rest) ≡ [] → Reads (codes "replay" ∷ rest)
behind_replay rest none e =
    let f = finds rest none (passes_from rest e) in
    record { wire = f.wire; folder = f.folder; rows = fold with_default (rows_at start rest) rules; found = found_is rest; flag = f.flag; name = f.name; form = ap (form_by None) f.form }

behind_gen : (rest : List Text) → NoDashes rest → fault_of program (codes "gen" ∷ rest) ≡ [] → ReadsMade (codes "gen" ∷ rest)
behind_gen rest none e =
    let f = finds_one rest none (first (level_fault made_leaf [] nothing_held rest false []) [] (sym (made_fault_is rest) ∙ e)) in
    record { word = f.word; rows = made_rows rest; found = made_found_is rest; name = f.name; form = ap (λ (ws : List Text). form_in (codes "gen" ∷ ws)) f.are }

pub reads : (words : List Text) → NoDashes words → fault_of program words ≡ [] → Reads words ⊎ ReadsMade words
unfolding walk_fault defaults_fault
reads [] none e = absurd (not_none _ _ e)
reads (word ∷ rest) none e = by_replay (bytes_eq (codes "replay") word) refl where
  by_gen : (is : Bool) → bytes_eq (codes "gen") word ≡ is → bytes_eq (codes "replay") word ≡ false → Reads (word ∷ rest) ⊎ ReadsMade (word ∷ rest)
  by_gen true is no_replay =
      let same = alike (codes "gen") word is in
      inr (subst (λ (t : Text). NoDashes (t ∷ rest) → fault_of program (t ∷ rest) ≡ [] → ReadsMade (t ∷ rest)) same (λ n p. behind_gen rest n p) none e)
  by_gen false is no_replay = absurd (no_command word rest no_replay is (front word rest none) e)

  by_replay : (is : Bool) → bytes_eq (codes "replay") word ≡ is → Reads (word ∷ rest) ⊎ ReadsMade (word ∷ rest)
  by_replay true is =
      let same = alike (codes "replay") word is in
      inl (subst (λ (t : Text). NoDashes (t ∷ rest) → fault_of program (t ∷ rest) ≡ [] → Reads (t ∷ rest)) same (λ n p. behind_replay rest n p) none e)
  by_replay false is = by_gen (bytes_eq (codes "gen") word) refl is

pub takes_replay : (wire : Bool) (place : Place) (options : List Text) → AreOptions wire place options → fault_of program (codes "replay" ∷ options) ≡ []
takes_replay wire place options o = passes_to options (takes wire place options o)

pub takes_made : (word : Text) → IsPlainIn made_rules word → fault_of program (codes "gen" ∷ word ∷ []) ≡ []
takes_made word p = made_fault_is (word ∷ []) ∙ ap (λ (k : Kinds). or_else k []) (takes_word word p)
