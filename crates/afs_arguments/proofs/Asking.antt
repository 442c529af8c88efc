-- What clap finds is what the words ask.
use Rattle.std.proofs.Common.{◌≡◌, List, [], Bool, true, false, Option, Some, None, codes, refl, sym, ap, ap₂, subst, ◌∙◌, map, bytes_eq, true≢false, IsTrue, ◌↔◌, ◌⊎◌, inl, inr}
use Rattle.std.specs.List.{list_any}
use Rattle.std.specs.Option.{option_map}
use Rattle.clap.proofs.WalkLemmas.{list_any-map, one_text-rows}
use Rattle.clap.specs.Faults.{fault_of, is_simple_and_free}
use Rattle.clap.specs.Kinds.{IsAmong}
use Rattle.clap.specs.Matches.{one_text}
use Rattle.clap.specs.Simple.{is_simple, subcommand_rows}
use Rattle.clap.specs.Walk.{Row, Text, one_of, rows_of}
use Rattle.clap.specs.declared.parser.matches.ArgMatches.TheViews.{out-SubCommand}
use Rattle.clap.specs.declared.parser.matches.SubCommand.{SubCommand}
use Rattle.std.specs.Box.{box_value}
use Rattle.std.specs.Prelude.{Box}
use Rattle.clap.specs.declared.error.kind.ErrorKind.{ErrorKind}
use Rattle.clap.specs.declared.error.kind.ErrorKind.TheVariants.{OutOfMemory}
use Rattle.clap.specs.declared.parser.matches.Found.{Found}
use Rattle.afs_command.specs.Forms.{form_by, form_in, Asks, Options}
use Rattle.afs_command.specs.declared.statuses.Form.{Form}
use Rattle.afs_command.specs.declared.statuses.Form.TheVariants.{Gen, Replay}
use Rattle.afs_arguments.specs.Found.{checked, flag_text, made_by, Finds, FindsIn, FindsWord, IsTaken, IsTakenAs}
use Rattle.afs_arguments.specs.Program.{program}
use Rattle.afs_command.proofs.Asked.{asked_as_read}
use Rattle.afs_arguments.proofs.Walks.{NoDashes}
use Rattle.afs_arguments.proofs.Takes.{lacks}
use Rattle.afs_arguments.proofs.Leaf.{made_rules}
use Rattle.afs_arguments.proofs.Words.{name_is_plain, number_is_name, some_is}
use Rattle.afs_arguments.proofs.Top.{reads, takes_made, takes_replay, Reads, ReadsMade}

pub simple : is_simple program ≡ true
simple = refl

pub simple_and_free : is_simple_and_free program ≡ true
simple_and_free = refl

-- ---- words that ask for something

pub record Taken (words : List Text) : Type 0 where
  pub taken : fault_of program words ≡ []
  pub lacks : NoDashes words

-- what is asked is taken
pub asked_is : (words : List Text) (form : Form) → form_in words ≡ Some form → Taken words
asked_is words form is = by form (asked_as_read words form is) where
  by : (form : Form) → Asks form words → Taken words
  by (Replay wire place) asks = record { taken = rw (asks.1.0) (takes_replay wire place asks.0 asks.1.1); lacks = rw (asks.1.0) (lacks wire place asks.0 asks.1.1) }
  by (Gen number) asks =
      let plain = name_is_plain made_rules asks.0 (number_is_name asks.0 number asks.1.1) in
      record { taken = rw (asks.1.0) (takes_made asks.0 plain); lacks = rw (asks.1.0, plain.dashes) refl }

none_asked : (words : List Text) → ((form : Form) → form_in words ≡ Some form → ⊥) → None ≡ form_in words
none_asked words none = either (form_in words) refl where
  either : (asked : Option Form) → form_in words ≡ asked → None ≡ asked
  either None is = refl
  either (Some form) is = absurd (none form is)

pub dashes_none : (words : List Text) → list_any (λ (word : Text). bytes_eq word (codes "--")) words ≡ true → None ≡ form_in words
dashes_none words has = none_asked words (λ form is. true≢false (sym has ∙ (asked_is words form is).lacks))

-- the same, as a test of the words reads it
pub mapped : {A : Type 0} (f : A → Text) (words : List A) (has : Bool) → has ≡ list_any (λ (word : A). bytes_eq (f word) (codes "--")) words → has ≡ list_any (λ (word : Text). bytes_eq word (codes "--")) (map f words)
mapped f words has is = is ∙ list_any-map (λ (word : Text). bytes_eq word (codes "--")) f words

fault_none : (words : List Text) (k : ErrorKind) → IsAmong k (fault_of program words) → None ≡ form_in words
fault_none words k among = none_asked words (λ form is. subst (IsAmong k) ((asked_is words form is).taken) among)

-- an error, but for want of memory, comes only at words that ask for nothing
pub refused_none : (words : List Text) (k : ErrorKind) (is : Bool) → IsTrue is ↔ (k ≡ OutOfMemory) → is ≡ false → (k ≡ OutOfMemory) ⊎ IsAmong k (fault_of program words) → None ≡ form_in words
refused_none words k is tells other (inl memory) = absurd (true≢false (sym (tells.1 memory) ∙ other))
refused_none words k is tells other (inr among) = fault_none words k among

-- ---- what clap finds

-- the two commands have two names
two_names : (a b : List Row) → ◌≡◌ {A = Option (Text × List Row)} (Some (codes "replay", a)) (Some (codes "gen", b)) → ⊥
two_names a b e = true≢false (ap (λ (t : Text). bytes_eq t (codes "replay")) (ap (λ (p : Text × List Row). p.0) (some_is e)))

pub found_replay : (words : List Text) (rows : Option (Text × List Row)) (o : Options) → IsTakenAs words rows → FindsIn rows (Some o) → form_by None (checked o.wire o.folder) ≡ form_in words
found_replay words rows o t f = either (reads words t.dashes t.faults) where
  either : Reads words ⊎ ReadsMade words → form_by None (checked o.wire o.folder) ≡ form_in words
  either (inl r) =
      let same : f.0 ≡ r.rows = ap (λ (p : Text × List Row). p.1) (some_is (sym f.1.0 ∙ (t.found ∙ r.found))) in
      let finds : Finds r.rows o = subst (λ (rs : List Row). Finds rs o) same f.1.1 in
      ap (λ (told : Bool). form_by None (checked told o.folder)) (finds.1 r.wire r.flag) ∙ (ap (λ (name : Option Text). form_by None (checked r.wire name)) (finds.0 ∙ r.name) ∙ sym r.form)
  either (inr m) = absurd (two_names f.0 m.rows (sym f.1.0 ∙ (t.found ∙ m.found)))

pub found_made : (words : List Text) (rows : Option (Text × List Row)) (word : Option Text) → IsTakenAs words rows → FindsIn rows None → FindsWord rows word → made_by word ≡ form_in words
found_made words rows word t f finds = either (reads words t.dashes t.faults) where
  either : Reads words ⊎ ReadsMade words → made_by word ≡ form_in words
  either (inl r) = absurd (f r.rows (t.found ∙ r.found))
  either (inr m) = ap made_by (finds m.rows (t.found ∙ m.found) ∙ m.name) ∙ sym m.form

pub taken_as : {M : Type 0} (words : List Text) (found : Option M) (rows : M → Option (Text × List Row)) (m : M) → found ≡ Some m → IsTaken words (option_map rows found) → IsTakenAs words (rows m)
taken_as {M} words found rows m is taken = subst (λ (o : Option M). IsTaken words (option_map rows o)) is taken

-- the rows of a command are met under its name
module _ {Z : Type 0} where
  pub named_rows : (met : Option (Box SubCommand Z)) (name : Text) (rows : List Row) → option_map (λ (b : Box SubCommand Z). (out-SubCommand (box_value b)).name.now) met ≡ Some name
      → option_map (λ (p : Text × List Row). p.1) (subcommand_rows met) ≡ Some rows → subcommand_rows met ≡ Some (name, rows)
  named_rows None name rows is are = absurd cc
  named_rows (Some b) name rows is are = ap₂ (λ (t : Text) (rs : List Row). Some (t, rs)) (some_is is) (some_is are)

-- ---- the parts

-- a flag that is read from its row
pub told_by : (f : Found) (id : Text) (result : Bool) → (one_text f id ≡ Some (codes "true") → result ≡ true) → (one_text f id ≡ Some (codes "false") → result ≡ false) → (told : Bool) → one_of id (rows_of f) ≡ Some (flag_text told) → result ≡ told
told_by f id result is_set is_not true is = is_set (one_text-rows f id ∙ is)
told_by f id result is_set is_not false is = is_not (one_text-rows f id ∙ is)
