-- How a call of the program ends, by how its parts end.
use Rattle.std.specs.Prelude.{◌≡◌, ◌≤◌, ◌⊎◌, ℕ, List, Bool, Option, Some, None, IsSome, Result, Ok, Err}
use Rattle.std.proofs.Common.{refl, ap, sym, subst, ◌∙◌, inl, inr}
use Rattle.afs_num.specs.declared.scripts.Reason.{Reason}
use Rattle.spec_history.specs.declared.scripts.Script.{Script}
use Rattle.afs_disk.specs.declared.bank.Place.{Place}
use Rattle.afs_disk.specs.declared.bank.Place.TheVariants.{Memory}
use Rattle.afs_generate.specs.Generated.{generated}
use Rattle.spec_model.proofs.ScriptReaders.{range}
use Rattle.afs_grammar.specs.Lines.{script_of}
use Rattle.afs_outside.specs.Outside.{Gives, HadAll}
use Rattle.afs_command.specs.Forms.{form_in, Asks, HaveForm}
use Rattle.afs_command.specs.Spans.{IsUnchanged, RoseBy, Span}
use Rattle.law_all.specs.Lawful.{EachIsLawful}
use Rattle.afs_lending.specs.Outside.{OneRose, Outside}
use Rattle.afs_command.specs.Reading.{GivesNone, GivesScript, level}
use Rattle.afs_cell.specs.Replays.{AtBankFault, EndsReplay, EndsRun, LendingFails, LendsAll}
use Rattle.afs_cell.specs.Made.{EndsMade}
use Rattle.afs_top.specs.Made.{DoesNothing, IsUnmade}
use Rattle.afs_top.specs.Top.{AskMade, AskReplay, CanPlay, Ends, EndsByForm, IsBeforeReplay, IsScript}
use Rattle.afs_command.specs.declared.statuses.Form.{Form}
use Rattle.afs_command.specs.declared.statuses.Form.TheVariants.{Gen, Replay}
use Rattle.afs_command.specs.declared.statuses.Status.{Status}
use Rattle.afs_command.specs.declared.statuses.Status.TheVariants as statuses
use Rattle.afs_command.proofs.Asked.{asked_as_read, read_as_asked}

-- ---- the words

pub replay_is_form : (words : List (List ℕ)) → AskReplay words → HaveForm words
replay_is_form words asked = (Replay asked.0 asked.1.0, asked.1.1)

-- ---- a call that ends before a replay

pub ends_unread : (words : List (List ℕ)) (source : Span (Option (List ℕ))) (faults : Span ℕ) (Tells : Place → Type 0) (Left : Script → Outside → Type 0) (Unlent : Script → Outside → ℕ → ℕ → Type 0) (o : Outside) (status : Status) → AskReplay words → DoesNothing o → GivesNone source faults status → Ends words source faults Tells Left Unlent o status
ends_unread words source faults Tells Left Unlent o statuses.Done form nothing none = absurd none
ends_unread words source faults Tells Left Unlent o statuses.Usage form nothing none = absurd none
ends_unread words source faults Tells Left Unlent o (statuses.Script line reason) form nothing none = record { quiet = none.quiet; asked = form; input = none.input; had = none.had; taken = none.taken; bad = none.bad }
ends_unread words source faults Tells Left Unlent o statuses.ReadFault form nothing none = (form, none)
ends_unread words source faults Tells Left Unlent o statuses.WriteFault form nothing none = absurd none
ends_unread words source faults Tells Left Unlent o statuses.BankFault form nothing none = absurd none
ends_unread words source faults Tells Left Unlent o statuses.OutOfMemory form nothing none = (replay_is_form words form, inl (none, nothing))
ends_unread words source faults Tells Left Unlent o statuses.Limit form nothing none = absurd none

pub none_isnt_usage : (source : Span (Option (List ℕ))) (faults : Span ℕ) (status : Status) → GivesNone source faults status → status ≡ statuses.Usage → ⊥
none_isnt_usage source faults statuses.Done none is = none
none_isnt_usage source faults statuses.Usage none is = none
none_isnt_usage source faults (statuses.Script line reason) none is = absurd cc
none_isnt_usage source faults statuses.ReadFault none is = absurd cc
none_isnt_usage source faults statuses.WriteFault none is = none
none_isnt_usage source faults statuses.BankFault none is = none
none_isnt_usage source faults statuses.OutOfMemory none is = absurd cc
none_isnt_usage source faults statuses.Limit none is = none

not_both : (o : Result Script (ℕ × Reason)) (s : Script) (line : ℕ) (reason : Reason) → o ≡ Ok s → o ≡ Err (line, reason) → ⊥
not_both o s line reason ok err = absurd cc

-- a script isn't refused
isnt_bad : (before : Option (List ℕ)) (input : List ℕ) (line : ℕ) (reason : Reason) → Gives IsScript before → HadAll before input → script_of level input ≡ Err (line, reason) → ⊥
isnt_bad None input line reason gives had bad = absurd gives
isnt_bad (Some left) input line reason gives had bad = not_both (script_of level left) gives.0 line reason gives.1 (ap (script_of level) had ∙ bad)

abbrev Completes : Status → Type 0
Completes status = (status ≡ statuses.Done) ⊎ ((status ≡ statuses.OutOfMemory) ⊎ (status ≡ statuses.Limit))

pub completes_unread : (source : Span (Option (List ℕ))) (faults : Span ℕ) (status : Status) → GivesNone source faults status → Gives IsScript source.before → (RoseBy 1 faults → ⊥) → Completes status
completes_unread source faults statuses.Done none gives fine = absurd none
completes_unread source faults statuses.Usage none gives fine = absurd none
completes_unread source faults (statuses.Script line reason) none gives fine = absurd (isnt_bad source.before none.input line reason gives none.had none.bad)
completes_unread source faults statuses.ReadFault none gives fine = absurd (fine none)
completes_unread source faults statuses.WriteFault none gives fine = absurd none
completes_unread source faults statuses.BankFault none gives fine = absurd none
completes_unread source faults statuses.OutOfMemory none gives fine = inr (inl refl)
completes_unread source faults statuses.Limit none gives fine = absurd none

-- ---- a call with a replay

-- a replay, or the run of a made script
ends_by_form : (words : List (List ℕ)) (source : Span (Option (List ℕ))) (faults : Span ℕ) (Tells : Place → Type 0) (Left : Script → Outside → Type 0) (Unlent : Script → Outside → ℕ → ℕ → Type 0) (o : Outside) (status : Status) → (IsBeforeReplay status → ⊥) → HaveForm words → EndsByForm words source faults Tells Left Unlent o status → Ends words source faults Tells Left Unlent o status
ends_by_form words source faults Tells Left Unlent o statuses.Done before form ends = ends
ends_by_form words source faults Tells Left Unlent o statuses.Usage before form ends = absurd (before tt)
ends_by_form words source faults Tells Left Unlent o (statuses.Script line reason) before form ends = absurd (before tt)
ends_by_form words source faults Tells Left Unlent o statuses.ReadFault before form ends = absurd (before tt)
ends_by_form words source faults Tells Left Unlent o statuses.WriteFault before form ends = ends
ends_by_form words source faults Tells Left Unlent o statuses.BankFault before form ends = ends
ends_by_form words source faults Tells Left Unlent o statuses.OutOfMemory before form ends = (form, inr ends)
ends_by_form words source faults Tells Left Unlent o statuses.Limit before form ends = ends

pub replay_isnt_before : (s : Script) (wire : Bool) (place : Place) (tells left : Type 0) (Unlent : ℕ → ℕ → Type 0) (o : Outside) (status : Status) → EndsReplay s wire place tells left Unlent o status → IsBeforeReplay status → ⊥
replay_isnt_before s wire place tells left Unlent o status ends before = either status ends.how before where
  either : (status : Status) → LendingFails s place Unlent o status ⊎ (LendsAll s place o × EndsRun s wire tells left o status) → IsBeforeReplay status → ⊥
  either statuses.Done how before = before
  either statuses.Usage (inl unlent) before = unlent.why
  either statuses.Usage (inr run) before = run.1
  either (statuses.Script line reason) (inl unlent) before = unlent.why
  either (statuses.Script line reason) (inr run) before = run.1
  either statuses.ReadFault (inl unlent) before = unlent.why
  either statuses.ReadFault (inr run) before = run.1
  either statuses.WriteFault how before = before
  either statuses.BankFault how before = before
  either statuses.OutOfMemory how before = before
  either statuses.Limit how before = before

pub ends_replayed : (words : List (List ℕ)) (source : Span (Option (List ℕ))) (faults : Span ℕ) (Tells : Place → Type 0) (Left : Script → Outside → Type 0) (Unlent : Script → Outside → ℕ → ℕ → Type 0) (o : Outside) (status : Status) (wire : Bool) (place : Place) (s : Script) → Asks (Replay wire place) words → GivesScript source faults s → EachIsLawful s → EndsReplay s wire place (Tells place) (Left s o) (Unlent s o) o status → Ends words source faults Tells Left Unlent o status
ends_replayed words source faults Tells Left Unlent o status wire place s asked gives lawful ends = ends_by_form words source faults Tells Left Unlent o status (λ before. replay_isnt_before s wire place _ _ _ o status ends before) (Replay wire place, asked)
    (inl (record { quiet = gives.quiet; wire = wire; place = place; asked = asked; input = gives.input; had = gives.had; at_end = gives.at_end; script = s; read = gives.read; lawful = lawful; ends = ends }))

is_before : (status : Status) → status ≡ statuses.Usage → IsBeforeReplay status
is_before status is = subst IsBeforeReplay (sym is) tt

pub replay_isnt_usage : (s : Script) (wire : Bool) (place : Place) (tells left : Type 0) (Unlent : ℕ → ℕ → Type 0) (o : Outside) (status : Status) → EndsReplay s wire place tells left Unlent o status → status ≡ statuses.Usage → ⊥
replay_isnt_usage s wire place tells left Unlent o status ends is = replay_isnt_before s wire place tells left Unlent o status ends (is_before status is)

no_bank_fault : (s : Script) (wire : Bool) (tells left : Type 0) (o : Outside) → AtBankFault s wire tells left o → (RoseBy 1 o.bank_faults → ⊥) → (OneRose o.disk_faults → ⊥) → ⊥
no_bank_fault s wire tells left o (inl setting_up) bank disks = disks (setting_up.node, setting_up.rose)
no_bank_fault s wire tells left o (inr (inl reading)) bank disks = disks (reading.server, reading.rose)
no_bank_fault s wire tells left o (inr (inr returning)) bank disks = bank returning.rose

pub completes_replayed : (s : Script) (wire : Bool) (place : Place) (tells left : Type 0) (Unlent : ℕ → ℕ → Type 0) (o : Outside) (status : Status) → EndsReplay s wire place tells left Unlent o status → (RoseBy 1 o.sink_faults → ⊥) → (RoseBy 1 o.bank_faults → ⊥) → (OneRose o.disk_faults → ⊥) → Completes status
completes_replayed s wire place tells left Unlent o status ends sink bank disks = either status ends.how where
  either : (status : Status) → LendingFails s place Unlent o status ⊎ (LendsAll s place o × EndsRun s wire tells left o status) → Completes status
  either statuses.Done how = inl refl
  either statuses.Usage (inl unlent) = absurd unlent.why
  either statuses.Usage (inr run) = absurd run.1
  either (statuses.Script line reason) (inl unlent) = absurd unlent.why
  either (statuses.Script line reason) (inr run) = absurd run.1
  either statuses.ReadFault (inl unlent) = absurd unlent.why
  either statuses.ReadFault (inr run) = absurd run.1
  either statuses.WriteFault (inl unlent) = absurd unlent.why
  either statuses.WriteFault (inr run) = absurd (sink run.1.rose)
  either statuses.BankFault (inl unlent) = absurd (bank unlent.why)
  either statuses.BankFault (inr run) = absurd (no_bank_fault s wire tells left o run.1 bank disks)
  either statuses.OutOfMemory how = inr (inl refl)
  either statuses.Limit how = inr (inr refl)

-- ---- the words

some_form : (o : Option Form) → IsSome o → (form : Form) × (o ≡ Some form)
some_form None some = absurd cc
some_form (Some form) some = (form, refl)

pub have_form : (words : List (List ℕ)) → IsSome (form_in words) → HaveForm words
have_form words some = let form = some_form (form_in words) some in (form.0, asked_as_read words form.0 form.1)

-- what was found in the words is what is read in them
pub as_read : (words : List (List ℕ)) (found : Option Form) (inside form : Form) → found ≡ form_in words → found ≡ Some inside → inside ≡ form → form_in words ≡ Some form
as_read words found inside form read some is = sym read ∙ (some ∙ ap (λ (f : Form). Some f) is)

pub has_form : (words : List (List ℕ)) (form : Form) → form_in words ≡ Some form → HaveForm words
has_form words form read = (form, asked_as_read words form read)

-- a replay as the words ask
pub ends_read : (words : List (List ℕ)) (source : Span (Option (List ℕ))) (faults : Span ℕ) (Tells : Place → Type 0) (Left : Script → Outside → Type 0) (Unlent : Script → Outside → ℕ → ℕ → Type 0) (o : Outside) (status : Status) (wire : Bool) (place : Place) (s : Script) → EndsReplay s wire place (Tells place) (Left s o) (Unlent s o) o status → GivesScript source faults s → EachIsLawful s → form_in words ≡ Some (Replay wire place) → Ends words source faults Tells Left Unlent o status
ends_read words source faults Tells Left Unlent o status wire place s ends gives lawful form = ends_replayed words source faults Tells Left Unlent o status wire place s (asked_as_read words (Replay wire place) form) gives lawful ends

-- ---- a made script

pub made_isnt_before : (number : ℕ) (s : Script) (tells left : Type 0) (Unlent : ℕ → ℕ → Type 0) (o : Outside) (status : Status) → EndsMade number s tells left Unlent o status → IsBeforeReplay status → ⊥
made_isnt_before number s tells left Unlent o statuses.Done ends before = before
made_isnt_before number s tells left Unlent o statuses.Usage (inl unlent) before = unlent.why
made_isnt_before number s tells left Unlent o statuses.Usage (inr run) before = run.1
made_isnt_before number s tells left Unlent o (statuses.Script line reason) (inl unlent) before = unlent.why
made_isnt_before number s tells left Unlent o (statuses.Script line reason) (inr run) before = run.1
made_isnt_before number s tells left Unlent o statuses.ReadFault (inl unlent) before = unlent.why
made_isnt_before number s tells left Unlent o statuses.ReadFault (inr run) before = run.1
made_isnt_before number s tells left Unlent o statuses.WriteFault ends before = before
made_isnt_before number s tells left Unlent o statuses.BankFault ends before = before
made_isnt_before number s tells left Unlent o statuses.OutOfMemory ends before = before
made_isnt_before number s tells left Unlent o statuses.Limit ends before = before

pub ends_made : (words : List (List ℕ)) (source : Span (Option (List ℕ))) (faults : Span ℕ) (Tells : Place → Type 0) (Left : Script → Outside → Type 0) (Unlent : Script → Outside → ℕ → ℕ → Type 0) (o : Outside) (status : Status) (number : ℕ) → form_in words ≡ Some (Gen number) → EachIsLawful (generated number) → IsUnchanged source → IsUnchanged faults
    → IsUnmade o status ⊎ EndsMade number (generated number) (Tells Memory) (Left (generated number) o) (Unlent (generated number) o) o status → Ends words source faults Tells Left Unlent o status
ends_made words source faults Tells Left Unlent o status number form lawful untouched quiet (inl unmade) =
    subst (λ (x : Status). Ends words source faults Tells Left Unlent o x) (sym unmade.0) ((Gen number, asked_as_read words (Gen number) form), inl (quiet, unmade.1))
ends_made words source faults Tells Left Unlent o status number form lawful untouched quiet (inr ends) =
    let asked = asked_as_read words (Gen number) form in
    ends_by_form words source faults Tells Left Unlent o status (λ before. made_isnt_before number (generated number) _ _ _ o status ends before) (Gen number, asked) (inr (record { untouched = untouched; quiet = quiet; number = number; asked = asked; lawful = lawful; ends = ends }))

-- the script that was made is played
pub ends_as_made : (number : ℕ) (s made : Script) → s ≡ made → (tells : Type 0) (Left : Script → Outside → Type 0) (Unlent : Script → Outside → ℕ → ℕ → Type 0) (o : Outside) (status : Status) → EndsMade number s tells (Left s o) (Unlent s o) o status → EndsMade number made tells (Left made o) (Unlent made o) o status
ends_as_made number s made same tells Left Unlent o status ends = subst (λ (x : Script). EndsMade number x tells (Left x o) (Unlent x o) o status) same ends

-- nothing of it comes before a replay
pub made_isnt_early : (number : ℕ) (s : Script) (tells left : Type 0) (Unlent : ℕ → ℕ → Type 0) (o : Outside) (status : Status) → IsUnmade o status ⊎ EndsMade number s tells left Unlent o status → IsBeforeReplay status → ⊥
made_isnt_early number s tells left Unlent o status (inl unmade) before = subst IsBeforeReplay unmade.0 before
made_isnt_early number s tells left Unlent o status (inr ends) before = made_isnt_before number s tells left Unlent o status ends before

pub made_isnt_usage : (number : ℕ) (s : Script) (tells left : Type 0) (Unlent : ℕ → ℕ → Type 0) (o : Outside) (status : Status) → IsUnmade o status ⊎ EndsMade number s tells left Unlent o status → status ≡ statuses.Usage → ⊥
made_isnt_usage number s tells left Unlent o status (inl unmade) is = usage_or_memory status is unmade.0 where
  usage_or_memory : (x : Status) → x ≡ statuses.Usage → x ≡ statuses.OutOfMemory → ⊥
  usage_or_memory x a b = absurd cc
made_isnt_usage number s tells left Unlent o status (inr ends) is = made_isnt_before number s tells left Unlent o status ends (is_before status is)

pub completes_made : (number : ℕ) (s : Script) (tells left : Type 0) (Unlent : ℕ → ℕ → Type 0) (o : Outside) (status : Status) → IsUnmade o status ⊎ EndsMade number s tells left Unlent o status → (RoseBy 1 o.sink_faults → ⊥) → (RoseBy 1 o.bank_faults → ⊥) → (OneRose o.disk_faults → ⊥) → Completes status
completes_made number s tells left Unlent o status (inl unmade) sink bank disks = inr (inl unmade.0)
completes_made number s tells left Unlent o status (inr ends) sink bank disks = either status ends where
  either : (status : Status) → EndsMade number s tells left Unlent o status → Completes status
  either statuses.Done how = inl refl
  either statuses.Usage (inl unlent) = absurd unlent.why
  either statuses.Usage (inr run) = absurd run.1
  either (statuses.Script line reason) (inl unlent) = absurd unlent.why
  either (statuses.Script line reason) (inr run) = absurd run.1
  either statuses.ReadFault (inl unlent) = absurd unlent.why
  either statuses.ReadFault (inr run) = absurd run.1
  either statuses.WriteFault (inl unlent) = absurd unlent.why
  either statuses.WriteFault (inr run) = absurd (sink run.1.rose)
  either statuses.BankFault (inl unlent) = absurd (bank unlent.why)
  either statuses.BankFault (inr (all, inl setting_up)) = absurd (disks (setting_up.node, setting_up.rose))
  either statuses.BankFault (inr (all, inr returning)) = absurd (bank returning.rose)
  either statuses.OutOfMemory how = inr (inl refl)
  either statuses.Limit how = inr (inr refl)

-- ---- which of both is asked for

one_form : (o : Option Form) (a b : Form) → o ≡ Some a → o ≡ Some b → a ≡ b
one_form o a b p q = cc

not_both_forms : (number : ℕ) (wire : Bool) (place : Place) → Gen number ≡ Replay wire place → ⊥
not_both_forms number wire place is = absurd cc

-- words that are read as a replay don't ask for a made script
pub replay_isnt_made : (words : List (List ℕ)) (wire : Bool) (place : Place) → form_in words ≡ Some (Replay wire place) → AskMade words → ⊥
replay_isnt_made words wire place form made = not_both_forms made.0 wire place (one_form (form_in words) (Gen made.0) (Replay wire place) (read_as_asked (Gen made.0) words made.1) form)

pub gives_script : (words : List (List ℕ)) (left : Option (List ℕ)) (wire : Bool) (place : Place) → form_in words ≡ Some (Replay wire place) → CanPlay words left → Gives IsScript left
gives_script words left wire place form (inl replay) = replay.1
gives_script words left wire place form (inr made) = absurd (replay_isnt_made words wire place form made)

pub can_have_form : (words : List (List ℕ)) (left : Option (List ℕ)) → CanPlay words left → HaveForm words
can_have_form words left (inl replay) = replay_is_form words replay.0
can_have_form words left (inr made) = (Gen made.0, made.1)

-- the number is one of those for which a script is made
pub is_few : (words : List (List ℕ)) (number : ℕ) → form_in words ≡ Some (Gen number) → number ≤ 1000
is_few words number form = let asked = asked_as_read words (Gen number) form in (range 1 1000 number asked.0 asked.1.1).1

pub asks_replay : (words : List (List ℕ)) (wire : Bool) (place : Place) → form_in words ≡ Some (Replay wire place) → AskReplay words
asks_replay words wire place form = (wire, (place, asked_as_read words (Replay wire place) form))
