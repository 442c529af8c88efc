-- Worked runs of what survives: a close that was answered, and then one that the disk stopped in; a mode that was set. And disks that
-- lost what they were answered for.
use Rattle.law_legal.proofs.VolumesAreIdeal.{at_home}
use Rattle.spec_history.specs.declared.acts.Act.{Act}
use Rattle.spec_history.specs.declared.acts.Act.TheVariants as acts
use Rattle.spec_history.specs.declared.acts.Operand.TheVariants as operands
use Rattle.spec_history.specs.declared.acts.Written.TheVariants.{Hex}
use Rattle.spec_history.specs.declared.lines.Line.TheVariants as lines
use Rattle.spec_ideal.specs.AccessLists.{acl_text, acl_entry_text, rights_of}
use Rattle.spec_ideal.specs.Directories.{bytes_below, count_at, directory_bytes, directory_of, name_at, name_bytes, names_at, spelled_at, whole_at}
use Rattle.spec_ideal.specs.SetUp.{laid_at, led}
use Rattle.spec_ideal.specs.Tables.{Table, get, set}
use Rattle.spec_ideal.specs.VnodeImage.{image}
use Rattle.spec_ideal.specs.Volumes.{Vnode, Volume}
use Rattle.law_legal.proofs.ServerRemains.{survives}
use Rattle.law_legal.proofs.VolumesSurvive.{run_survives}
use Rattle.law_legal.proofs.Worked.{apart_numbers, file, home, of_cell, script}
use Rattle.law_legal.specs.Ideal.{set_up_entry}
use Rattle.law_legal.specs.Laws.{AreMadeAndKept, IsNoOthers, Survives, found_by_restart}
use Rattle.law_legal.specs.Once.{past_of}
use Rattle.law_legal.specs.Past.{lines_of}
use Rattle.spec_history.specs.declared.lines.Line.{Line}
use Rattle.spec_model.specs.Messages.{spelled}
use Rattle.afs_num.specs.Names.{name_ok}
use Rattle.afs_num.specs.declared.messages.Message.{Message}
use Rattle.afs_num.specs.declared.types.Node.TheVariants.{Client}
use Rattle.spec_records.specs.Durable.{Stored}
use Rattle.spec_records.specs.Records.{head_form, record_bytes, volume_form}
use Rattle.spec_rows.specs.ClientRow.{begin_row, client_row}
use Rattle.spec_rows.specs.Going.{began}
use Rattle.spec_rows.specs.Runs.{Cell, Entry, Fall, Input, Leads, RunsTo, at_rest, begins, first_host, gives, in_step, locations, moved, sets_stop, start, steady, ServerHost}
use Rattle.spec_rows.specs.ServerSteps.{back_timeout_row, server_row, start_row, wake_row}
use Rattle.spec_rows.specs.States.{volume_in}
use Rattle.afs_xdr.specs.Words.{counted_at, opaque, opaque_at, pad, word, word_at}
use Rattle.std.proofs.Common.{inl, inr, sym, ◌≡◌, ℕ, List, [], ◌∷◌, ◌++◌, Option, Some, None, pos, refl, ap}
use Rattle.std.specs.Fmt.{digits}
use Rattle.std.specs.Option.{option_map}
use Rattle.std.specs.Prelude.{codes, map}

-- ---- the run of some inputs, and where it ends

abbrev run : Cell → List Input → List Entry
run c [] = []
run c (x ∷ xs) = (moved c x).entry ∷ run (moved c x).cell xs

abbrev end_of : Cell → List Input → Cell
end_of c [] = c
end_of c (x ∷ xs) = end_of (moved c x).cell xs

led_to : (c : Cell) (xs : List Input) → Leads c xs (run c xs) (end_of c xs)
led_to c [] = refl
led_to c (x ∷ xs) = (refl, led_to (moved c x).cell xs)

run_both : (c : Cell) (xs : List Input) (y : Input) (ys : List Input) → run c (xs ++ y ∷ ys) ≡ run c xs ++ (moved (end_of c xs) y).entry ∷ run (moved (end_of c xs) y).cell ys
run_both c [] y ys = refl
run_both c (x ∷ xs) y ys = ap (λ (es : List Entry). (moved c x).entry ∷ es) (run_both (moved c x).cell xs y ys)

-- its volume is at its one server
no_others : (ls : List Line) → IsNoOthers (script 1) 1 home ls
no_others ls q x = elim (at_home (script 1) home q ls x) [ inl y ↦ sym y.1.1 | inr y ↦ absurd y ]

abbrev fall_of : Option Fall → Fall
fall_of None = at_rest
fall_of (Some fall) = fall

-- the file's index, mode and bytes
record Seen : Type 0 where
  index : ℕ
  mode : ℕ
  bytes : List ℕ

abbrev file_in : Option Volume → Option Seen
file_in None = None
file_in (Some v) = option_map (λ (x : Vnode). record { index = x.index; mode = x.mode; bytes = x.contents }) (get 2 v.vnodes)

-- ---- the first close is answered; the second one stops the server in its step, with its record on the disk

abbrev first_close : Act
first_close = acts.Close (operands.Fid file) (Hex (codes "def"))

abbrev answered : List Input
answered = begins 1 first_close ∷ gives 1 steady ∷ []

abbrev stopped : List Input
stopped = begins 1 (acts.Close (operands.Fid file) (Hex (codes "xyz"))) ∷ sets_stop 1 3 1 ∷ gives 3 steady ∷ []

abbrev inputs : List Input
inputs = answered ++ gives 2 steady ∷ stopped

abbrev before : List Entry
before = run (start (script 1)) answered

abbrev history : List Entry
history = run (start (script 1)) inputs

abbrev past : List Entry
past = past_of (set_up_entry (script 1) ∷ []) history

abbrev last_host : ServerHost
last_host = (end_of (start (script 1)) inputs).hosts 1

abbrev last_fall : Fall
last_fall = fall_of last_host.down

the_run : RunsTo history (script 1) (end_of (start (script 1)) inputs)
the_run = record { inputs = inputs; leads = led_to (start (script 1)) inputs }

-- the server is down, and keeps the bytes that it was answered for; the disk may have those of the second close
is_down : last_host.down ≡ Some last_fall
unfolding moved begin_row client_row server_row back_timeout_row wake_row start_row record_bytes head_form volume_form spelled opaque pad word laid_at led name_ok directory_bytes name_bytes rights_of image acl_text digits acl_entry_text directory_of names_at opaque_at word_at counted_at whole_at count_at name_at spelled_at bytes_below
is_down = refl

keeps_two : file_in (volume_in home last_host.state.lasting.volumes) ≡ Some (record { index = 2; mode = 420; bytes = codes "def" })
unfolding moved begin_row client_row server_row back_timeout_row wake_row start_row record_bytes head_form volume_form spelled opaque pad word laid_at led name_ok directory_bytes name_bytes rights_of image acl_text digits acl_entry_text directory_of names_at opaque_at word_at counted_at whole_at count_at name_at spelled_at bytes_below
keeps_two = refl

has_three : file_in (volume_in home (found_by_restart 1 last_host last_fall).state.lasting.volumes) ≡ Some (record { index = 3; mode = 420; bytes = codes "xyz" })
unfolding moved begin_row client_row server_row back_timeout_row wake_row start_row record_bytes head_form volume_form spelled opaque pad word laid_at led name_ok directory_bytes name_bytes rights_of image acl_text digits acl_entry_text directory_of names_at opaque_at word_at counted_at whole_at count_at name_at spelled_at bytes_below
has_three = refl

-- the law of it
close_is_kept : AreMadeAndKept (script 1) (Client 1) (began (locations (script 1)) first_close) (past_of (set_up_entry (script 1) ∷ []) before) (lines.Given 2 ∷ []) (end_of (start (script 1)) inputs).hosts past
unfolding moved begin_row client_row server_row back_timeout_row wake_row start_row record_bytes head_form volume_form spelled opaque pad word laid_at led name_ok directory_bytes name_bytes rights_of image acl_text digits acl_entry_text directory_of names_at opaque_at word_at counted_at whole_at count_at name_at spelled_at bytes_below
close_is_kept =
    run_survives (script 1) history before (run (end_of (start (script 1)) (answered ++ gives 2 steady ∷ [])) stopped) (moved (end_of (start (script 1)) answered) (gives 2 steady)).entry (lines.Given 2 ∷ []) [] (Client 1) (record { 0 = pos 0 }) (began (locations (script 1)) first_close) (end_of (start (script 1)) inputs)
    (of_cell 1) the_run (run_both (start (script 1)) answered (gives 2 steady) stopped) refl refl tt refl

-- a disk that lost the first close, in what it keeps or in what a restart finds; one that has a step which nobody asked for
abbrev emptied : ServerHost
emptied = record last_host { state = (first_host (script 1) 1).state }

abbrev index_in : Option Seen → ℕ
index_in None = 0
index_in (Some x) = x.index

lost : Survives (script 1) 1 emptied past → ⊥
unfolding moved begin_row client_row server_row back_timeout_row wake_row start_row record_bytes head_form volume_form spelled opaque pad word laid_at led name_ok directory_bytes name_bytes rights_of image acl_text digits acl_entry_text directory_of names_at opaque_at word_at counted_at whole_at count_at name_at spelled_at bytes_below
lost h = apart_numbers 1 2 refl (ap (λ (o : Option Volume). index_in (file_in o)) (h.kept home (no_others (lines_of past))))

lost_in_the_step : Survives (script 1) 1 emptied past → ⊥
unfolding moved begin_row client_row server_row back_timeout_row wake_row start_row record_bytes head_form volume_form spelled opaque pad word laid_at led name_ok directory_bytes name_bytes rights_of image acl_text digits acl_entry_text directory_of names_at opaque_at word_at counted_at whole_at count_at name_at spelled_at bytes_below
lost_in_the_step h = apart_numbers 2 3 refl (ap (λ (o : Option Volume). index_in (file_in o)) (h.after last_fall refl home (no_others (lines_of past))))

abbrev unasked : Message → Message
unasked m = record m { head = record m.head { number = 3 } }

abbrev with_unasked : Fall → Fall
with_unasked (in_step m clock hit) = in_step (unasked m) clock hit
with_unasked fall = fall

kept_from_nobody : Survives (script 1) 1 (record last_host { down = Some (with_unasked last_fall) }) past → ⊥
unfolding moved begin_row client_row server_row back_timeout_row wake_row start_row record_bytes head_form volume_form spelled opaque pad word laid_at led name_ok directory_bytes name_bytes rights_of image acl_text digits acl_entry_text directory_of names_at opaque_at word_at counted_at whole_at count_at name_at spelled_at bytes_below
kept_from_nobody h = apart_numbers 3 2 refl (ap (λ (o : Option Volume). index_in (file_in o)) (h.after (with_unasked last_fall) refl home (no_others (lines_of past))))

-- ---- a mode that was set: the index alone isn't enough

abbrev sets_mode : List Input
sets_mode = begins 1 (acts.SetMode (operands.Fid file) 384) ∷ gives 1 steady ∷ gives 2 steady ∷ []

abbrev mode_past : List Entry
mode_past = past_of (set_up_entry (script 1) ∷ []) (run (start (script 1)) sets_mode)

abbrev mode_host : ServerHost
mode_host = (end_of (start (script 1)) sets_mode).hosts 1

keeps_mode : file_in (volume_in home mode_host.state.lasting.volumes) ≡ Some (record { index = 2; mode = 384; bytes = codes "abc" })
unfolding moved begin_row client_row server_row back_timeout_row wake_row start_row record_bytes head_form volume_form spelled opaque pad word laid_at led name_ok directory_bytes name_bytes rights_of image acl_text digits acl_entry_text directory_of names_at opaque_at word_at counted_at whole_at count_at name_at spelled_at bytes_below
keeps_mode = refl

mode_is_kept : Survives (script 1) 1 mode_host mode_past
mode_is_kept = survives (script 1) (run (start (script 1)) sets_mode) (end_of (start (script 1)) sets_mode) 1 (record { inputs = sets_mode; leads = led_to (start (script 1)) sets_mode })

abbrev old_mode : Option Stored → Table Stored → Table Stored
old_mode None volumes = volumes
old_mode (Some x) volumes = set home (record x { volume = record x.volume { vnodes = map (λ (p : ℕ × Vnode). (p.0, record p.1 { mode = 420 })) x.volume.vnodes } }) volumes

abbrev without_mode : ServerHost
without_mode = record mode_host { state = record mode_host.state { lasting = record mode_host.state.lasting { volumes = old_mode (get home mode_host.state.lasting.volumes) mode_host.state.lasting.volumes } } }

abbrev mode_in : Option Seen → ℕ
mode_in None = 0
mode_in (Some x) = x.mode

lost_mode : Survives (script 1) 1 without_mode mode_past → ⊥
unfolding moved begin_row client_row server_row back_timeout_row wake_row start_row record_bytes head_form volume_form spelled opaque pad word laid_at led name_ok directory_bytes name_bytes rights_of image acl_text digits acl_entry_text directory_of names_at opaque_at word_at counted_at whole_at count_at name_at spelled_at bytes_below
lost_mode h = apart_numbers 420 384 refl (ap (λ (o : Option Volume). mode_in (file_in o)) (h.kept home (no_others (lines_of mode_past))))
