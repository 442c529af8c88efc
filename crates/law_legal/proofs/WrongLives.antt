use Rattle.afs_num.specs.declared.types.Key.{Key}
use Rattle.spec_records.specs.Records.{record_bytes, head_form, volume_form}
use Rattle.spec_rows.specs.ServerSteps.{server_row, back_timeout_row, wake_row, start_row}
use Rattle.spec_history.specs.declared.acts.Act.TheVariants as acts
use Rattle.spec_history.specs.declared.acts.Operand.TheVariants as operands
use Rattle.spec_history.specs.declared.acts.Written.TheVariants.{Hex}
use Rattle.spec_history.specs.declared.scripts.Script.{Script}
use Rattle.spec_model.specs.FsRows.{call_number}
use Rattle.spec_history.specs.declared.lines.Line.{Line}
use Rattle.spec_history.specs.declared.lines.Line.TheVariants as lines
use Rattle.spec_ideal.specs.AccessLists.{rights_of, acl_text, acl_entry_text}
use Rattle.spec_ideal.specs.Directories.{directory_bytes, name_bytes, directory_of, names_at, whole_at, count_at, name_at, spelled_at, bytes_below}
use Rattle.spec_ideal.specs.SetUp.{laid_at, led}
use Rattle.spec_ideal.specs.VnodeImage.{image}
use Rattle.law_legal.proofs.BaseLaws.{some_of}
use Rattle.afs_num.specs.declared.types.Node.{Node}
use Rattle.law_legal.proofs.Worked.{home, by_lines, stores, alters, answer, begun, entries, file, script}
use Rattle.law_legal.specs.Legal.{IsInTurn, IsOpen, KnowsBoot, Legal}
use Rattle.spec_model.specs.Messages.{spelled}
use Rattle.afs_num.specs.Names.{name_ok}
use Rattle.afs_num.specs.declared.types.Fid.{Fid}
use Rattle.spec_rows.specs.ClientRow.{begin_row, client_row}
use Rattle.spec_rows.specs.Going.{Going, asked, next, stored_whole}
use Rattle.spec_rows.specs.Runs.{Entry, Input, begins, client_starts, client_stops, comes_up, gives, moved, server_waits, start, starts_again, steady, stops, waits}
use Rattle.afs_xdr.specs.Words.{opaque, pad, word, opaque_at, word_at, counted_at}
use Rattle.law_legal.specs.Ideal.{set_up_entry}
use Rattle.law_legal.specs.Once.{past_of}
use Rattle.law_legal.specs.Past.{WasSent, SendsTo, has_begun, has_sent, IsFirstOfItsBoot, given_message, sent_of}
use Rattle.afs_num.specs.declared.calls.FsCall.{FsCall}
use Rattle.afs_num.specs.declared.calls.FsCall.TheVariants as calls
use Rattle.afs_num.specs.declared.volume_calls.VolCall.TheVariants as volumes
use Rattle.afs_num.specs.declared.histories.Actor.TheVariants as actors
use Rattle.afs_num.specs.declared.messages.Call.TheVariants as ask
use Rattle.afs_num.specs.declared.types.Half.TheVariants as halves
use Rattle.afs_num.specs.declared.histories.Body.TheVariants as bodies
use Rattle.afs_num.specs.declared.histories.ReadSource.TheVariants.{Cached, Fetched}
use Rattle.afs_num.specs.declared.messages.Carried.TheVariants as carried
use Rattle.afs_num.specs.declared.messages.Reply.{Reply}
use Rattle.afs_num.specs.declared.messages.Message.{Message}
use Rattle.afs_num.specs.declared.types.Node.TheVariants.{Client, Server, Loc}
use Rattle.std.proofs.Common.{arith, eqb-true, ◌<◌, ◌≤◌, ◌≡◌, ◌∙◌, true, false, cond, nat_eq, Bool, ℕ, List, [], ◌∷◌, ◌++◌, Option, None, Some, ap, sym, subst, refl, inl, inr, negsuc, pos}
use Rattle.std.specs.Fmt.{digits}
use Rattle.std.specs.Prelude.{⊤, codes, map, take}
use Rattle.law_legal.proofs.WrongAnswers.{fetch_front, gift_answer, instead, key_of_one, no_client, one_call, roomless, sent_by, shown, step_of, to_boot_two, walk_front}
use Rattle.law_legal.proofs.WrongBreaks.{also, asks_the_time, changes_file, opens_unknown, owes_number, sends_besides, status_not, times_out, times_two_out, true_not, unknown}
use Rattle.law_legal.proofs.WrongCalls.{asked_anew_as_two, changed_as, gift}

-- ---- a client calls a server in a boot that this began

-- it calls it in the next one, before that has begun
called_ahead : Legal (alters 0 to_boot_two (entries (start (script 1)) (begins 1 (acts.Open (operands.Fid file)) ∷ []))) (script 1) → ⊥
unfolding moved begin_row client_row server_row back_timeout_row wake_row start_row record_bytes head_form volume_form spelled opaque pad word laid_at led name_ok directory_bytes name_bytes rights_of image acl_text digits acl_entry_text directory_of names_at opaque_at word_at counted_at whole_at count_at name_at spelled_at bytes_below
called_ahead h = let e : 2 ≡ 1 = h.0.1.1.1.0.0.boot in absurd (omega (arith, e))

-- it had read the file, gave up all that it kept, and looks at the same version again: it shows the contents that it has no more
abbrev given_up_front : List Input
given_up_front =
    begins 1 (acts.Open (operands.Fid file)) ∷ gives 1 steady ∷ gives 2 steady ∷ begins 1 acts.GiveUp ∷ gives 3 steady ∷ gives 4 steady ∷ begins 1 (acts.Stat (operands.Fid file)) ∷ gives 5 steady ∷ gives 6 steady ∷ []

contents_that_were_dropped : Legal (entries (start (script 1)) given_up_front ++ step_of (Client 1) (begun 1 ∷ shown Cached ∷ answer 1 ∷ []) [] ∷ []) (script 1) → ⊥
unfolding moved begin_row client_row server_row back_timeout_row wake_row start_row record_bytes head_form volume_form spelled opaque pad word laid_at led name_ok directory_bytes name_bytes rights_of image acl_text digits acl_entry_text directory_of names_at opaque_at word_at counted_at whole_at count_at name_at spelled_at bytes_below
contents_that_were_dropped h =
    elim h.1.1.1.1.1.1.1.1.1.0.0.0.1.0.1.0.brought.1 [
      | inl x ↦ x.1.1.0
      | inr a ↦ elim a [
        | inl x ↦ status_not _ _ x.1.1.1.1
        | inr b ↦ elim b [ inl x ↦ x.1.1.0 | inr d ↦ d ]
      ]
    ]

-- its server stopped, and began the next boot; it calls it in that, which nobody told it
abbrev AreUngiven : List Entry → Type 0
AreUngiven [] = ⊤
AreUngiven (e ∷ past) = (given_message e.lines (sent_of past) ≡ None) × AreUngiven past

told_nothing : (s : Script) (c server : Node) (boot : ℕ) (past : List Entry) → AreUngiven past → KnowsBoot s c server boot past → boot ≡ 1
told_nothing s c server boot [] u k = k
told_nothing s c server boot (e ∷ past) u (inl i) = let no_ : None ≡ Some i.message = sym u.0 ∙ i.given in absurd cc
told_nothing s c server boot (e ∷ past) u (inr x) = elim x.1 [ inl y ↦ y.1 | inr y ↦ told_nothing s c server boot past u.1 y.1 ]

abbrev guessed_boot : List Entry
guessed_boot = alters 2 to_boot_two (entries (start (script 1)) (stops 1 ∷ starts_again 1 false comes_up ∷ begins 1 (acts.Open (operands.Fid file)) ∷ []))

called_untold : Legal guessed_boot (script 1) → ⊥
unfolding moved begin_row client_row server_row back_timeout_row wake_row start_row record_bytes head_form volume_form spelled opaque pad word laid_at led name_ok directory_bytes name_bytes rights_of image acl_text digits acl_entry_text directory_of names_at opaque_at word_at counted_at whole_at count_at name_at spelled_at bytes_below
called_untold h = let no_ : 2 ≡ 1 = told_nothing (script 1) (Client 1) (Server 1) 2 (past_of (set_up_entry (script 1) ∷ []) guessed_boot) (refl, (refl, (refl, (refl, tt)))) h.1.1.0.1.1.1.0.0.known in absurd (omega (arith, no_))

-- It had read the file, and its own store was timed out three times, so it doesn't know whether that was made. Another client stores, and the first
-- shows what was there before its own store
abbrev given_up_store : List Input
given_up_store =
    begins 1 (acts.Open (operands.Fid file)) ∷ gives 1 steady ∷ gives 2 steady ∷ begins 1 (acts.Close (operands.Fid file) (Hex (codes "def"))) ∷ gives 3 steady ∷ waits 1 ∷ waits 1 ∷ waits 1
    ∷ begins 2 (acts.Close (operands.Fid file) (Hex (codes "ghi"))) ∷ gives 7 steady ∷ []

dead_not : negsuc 0 ≡ pos 0 → ⊥
dead_not e = absurd cc

pub not_asked : Server 1 ≡ Loc → ⊥
not_asked e = absurd cc

shown_when_given_up : Legal (alters 7 (instead (times_two_out 3 ∷ lines.Answer (Client 1) (record { 0 = negsuc 0 }) ∷ [])) (entries (start (script 2)) given_up_store) ++ step_of (Client 1) (begun 1 ∷ shown Cached ∷ answer 1 ∷ []) [] ∷ []) (script 2) → ⊥
unfolding moved begin_row client_row server_row back_timeout_row wake_row start_row record_bytes head_form volume_form spelled opaque pad word laid_at led name_ok directory_bytes name_bytes rights_of image acl_text digits acl_entry_text directory_of names_at opaque_at word_at counted_at whole_at count_at name_at spelled_at bytes_below
shown_when_given_up h = elim h.1.1.1.1.1.1.1.1.1.1.0.0.0.1.0.1.0.brought.0 [ inl x ↦ dead_not x.1.0 | inr y ↦ y.0 (refl, (refl, (not_asked, refl))) ]

-- ---- a client's calls are numbered one by one, in its epoch

-- its first call is its seventh
abbrev as_seven : Entry → Entry
as_seven e = record e { sent = map (λ (m : Message). record m { head = record m.head { number = 7 } }) e.sent }

sent_if : (b : Bool) → cond b true false ≡ true → b ≡ true
sent_if true e = refl
sent_if false e = e

called_seventh_first : Legal (alters 0 as_seven (entries (start (script 1)) (begins 1 (acts.Open (operands.Fid file)) ∷ []))) (script 1) → ⊥
unfolding moved begin_row client_row server_row back_timeout_row wake_row start_row record_bytes head_form volume_form spelled opaque pad word laid_at led name_ok directory_bytes name_bytes rights_of image acl_text digits acl_entry_text directory_of names_at opaque_at word_at counted_at whole_at count_at name_at spelled_at bytes_below
called_seventh_first h = elim h.0.1.1.1.0.0.order [
  | inl e ↦ let no_ : 7 ≡ 1 = e in absurd (omega (arith, no_))
  | inr x ↦ let same : 7 ≡ x.0 = eqb-true 7 x.0 (sent_if (nat_eq 7 x.0) x.1.1) in absurd (omega (arith, same, x.1.0))
]

-- it calls in its next epoch, before it crashed
abbrev in_epoch_two : Entry → Entry
in_epoch_two e = record e { sent = map (λ (m : Message). record m { head = record m.head { epoch = 2 } }) e.sent }

called_in_the_next_epoch : Legal (alters 0 in_epoch_two (entries (start (script 1)) (begins 1 (acts.Open (operands.Fid file)) ∷ []))) (script 1) → ⊥
unfolding moved begin_row client_row server_row back_timeout_row wake_row start_row record_bytes head_form volume_form spelled opaque pad word laid_at led name_ok directory_bytes name_bytes rights_of image acl_text digits acl_entry_text directory_of names_at opaque_at word_at counted_at whole_at count_at name_at spelled_at bytes_below
called_in_the_next_epoch h = let e : 2 ≡ 1 = h.0.1.1.1.0.0.epoch in absurd (omega (arith, e))

-- ---- an act that needs no more calls nobody

called_after_its_end : Legal (step_of (Client 1) (lines.Begin (Client 1) (acts.Open (operands.Fid unknown)) ∷ []) (asks_the_time ∷ []) ∷ []) (script 1) → ⊥
unfolding moved begin_row client_row server_row back_timeout_row wake_row start_row record_bytes head_form volume_form spelled opaque pad word laid_at led name_ok directory_bytes name_bytes rights_of image acl_text digits acl_entry_text directory_of names_at opaque_at word_at counted_at whole_at count_at name_at spelled_at bytes_below
called_after_its_end h = let g = h.0.1.1.1.0.0 in subst (λ (a : Going). IsOpen (next a)) (sym (some_of opens_unknown g.act g.runs)) g.unended

-- ---- what is given back is given back to its server, and is something

abbrev gives_front : List Input
gives_front = begins 1 (acts.Open (operands.Fid file)) ∷ gives 1 steady ∷ gives 2 steady ∷ begins 1 acts.GiveUp ∷ []

abbrev to_client_two : Entry → Entry
to_client_two e = record e { sent = map (λ (m : Message). record m { head = record m.head { to = Client 2 } }) e.sent }

no_client_two : Server 1 ≡ Client 2 → ⊥
no_client_two e = absurd cc

gave_back_to_a_client : Legal (alters 3 to_client_two (entries (start (script 2)) gives_front)) (script 2) → ⊥
unfolding moved begin_row client_row server_row back_timeout_row wake_row start_row record_bytes head_form volume_form spelled opaque pad word laid_at led name_ok directory_bytes name_bytes rights_of image acl_text digits acl_entry_text directory_of names_at opaque_at word_at counted_at whole_at count_at name_at spelled_at bytes_below
gave_back_to_a_client h = elim h.1.1.1.0.1.1.1.0.0.home.0 [ inl x ↦ no_client_two x.1.1 | inr x ↦ x ]

abbrev names_nothing : Entry → Entry
names_nothing e = record e { sent = map (λ (m : Message). record m { carried = carried.Call (codes "guest") (ask.File (calls.GiveUpCallBacks [] [])) }) e.sent }

gave_nothing_back : Legal (alters 3 names_nothing (entries (start (script 1)) gives_front)) (script 1) → ⊥
unfolding moved begin_row client_row server_row back_timeout_row wake_row start_row record_bytes head_form volume_form spelled opaque pad word laid_at led name_ok directory_bytes name_bytes rights_of image acl_text digits acl_entry_text directory_of names_at opaque_at word_at counted_at whole_at count_at name_at spelled_at bytes_below
gave_nothing_back h = h.1.1.1.0.1.1.1.0.0.gives

-- ---- a break is owed once in an entry, and ends once

owed_twice : Legal (alters 3 (owes_number 2) (entries (start (script 2)) changes_file)) (script 2) → ⊥
unfolding moved begin_row client_row server_row back_timeout_row wake_row start_row record_bytes head_form volume_form spelled opaque pad word laid_at led name_ok directory_bytes name_bytes rights_of image acl_text digits acl_entry_text directory_of names_at opaque_at word_at counted_at whole_at count_at name_at spelled_at bytes_below
owed_twice h = h.1.1.1.0.1.1.1.1.1.1.1.1.0 (inl (refl, (refl, refl)))

settled_twice : Legal (alters 5 (also (lines.Settle (Server 1) (Client 1) 1)) (entries (start (script 2)) (changes_file ++ gives 4 steady ∷ gives 5 steady ∷ []))) (script 2) → ⊥
unfolding moved begin_row client_row server_row back_timeout_row wake_row start_row record_bytes head_form volume_form spelled opaque pad word laid_at led name_ok directory_bytes name_bytes rights_of image acl_text digits acl_entry_text directory_of names_at opaque_at word_at counted_at whole_at count_at name_at spelled_at bytes_below
settled_twice h = h.1.1.1.1.1.0.1.1.1.1.1.1.0 (inl (refl, refl))

-- ---- what is given was sent, to the node that is given it

-- a client is given its own call
given_to_another : Legal (entries (start (script 1)) (begins 1 (acts.Open (operands.Fid file)) ∷ []) ++ step_of (Client 1) (lines.Given 1 ∷ []) [] ∷ []) (script 1) → ⊥
unfolding moved begin_row client_row server_row back_timeout_row wake_row start_row record_bytes head_form volume_form spelled opaque pad word laid_at led name_ok directory_bytes name_bytes rights_of image acl_text digits acl_entry_text directory_of names_at opaque_at word_at counted_at whole_at count_at name_at spelled_at bytes_below
given_to_another h = no_client (sym (node_of _ _ (h.1.0.1.0.1.1.1.0 refl)))
  where
    node_of : (a b : Node) → actors.Node a ≡ actors.Node b → a ≡ b
    node_of a b e = cc

given_unsent : Legal (entries (start (script 1)) (begins 1 (acts.Open (operands.Fid file)) ∷ []) ++ step_of (Server 1) (lines.Given 2 ∷ []) [] ∷ []) (script 1) → ⊥
unfolding moved begin_row client_row server_row back_timeout_row wake_row start_row record_bytes head_form volume_form spelled opaque pad word laid_at led name_ok directory_bytes name_bytes rights_of image acl_text digits acl_entry_text directory_of names_at opaque_at word_at counted_at whole_at count_at name_at spelled_at bytes_below
given_unsent h = h.1.0.1.0.1.1.1.0 refl

-- ---- the clock ticks by itself

abbrev at_the_clock : List Line → Entry
at_the_clock ls = record { actor = actors.Clock; lines = ls; sent = []; volumes = [] }

ticked_by_nought : Legal (at_the_clock (lines.Tick 0 ∷ []) ∷ []) (script 1) → ⊥
ticked_by_nought h = let e : 0 < 0 = h.0.0.0.0.1.0 in absurd (omega arith)

ticked_twice : Legal (at_the_clock (lines.Tick 1 ∷ lines.Tick 1 ∷ []) ∷ []) (script 1) → ⊥
ticked_twice h = more_lines _ _ h.0.0.0.0.1.1.1
  where
    more_lines : (l : Line) (ls : List Line) → l ∷ ls ≡ [] → ⊥
    more_lines l ls e = absurd cc

-- ---- a node that begins again takes the next number

begun_in_the_old_epoch : Legal (entries (start (script 1)) (client_stops 1 ∷ []) ++ step_of (Client 1) (lines.Restart (Client 1) 1 ∷ []) [] ∷ []) (script 1) → ⊥
unfolding moved begin_row client_row server_row back_timeout_row wake_row start_row record_bytes head_form volume_form spelled opaque pad word laid_at led name_ok directory_bytes name_bytes rights_of image acl_text digits acl_entry_text directory_of names_at opaque_at word_at counted_at whole_at count_at name_at spelled_at bytes_below
begun_in_the_old_epoch h = let e : 1 ≡ 2 = one_epoch _ _ h.1.0.1.0.1.1.0.0 in absurd (omega (arith, e))
  where
    one_epoch : (a b : ℕ) → lines.Restart (Client 1) a ∷ [] ≡ lines.Restart (Client 1) b ∷ [] → a ≡ b
    one_epoch a b e = cc

abbrev in_boot_three : Line → Line
in_boot_three (lines.Restart n boot) = lines.Restart n 3
in_boot_three l = l

boot_leapt : Legal (alters 1 (by_lines in_boot_three) (entries (start (script 1)) (stops 1 ∷ starts_again 1 false comes_up ∷ []))) (script 1) → ⊥
unfolding moved begin_row client_row server_row back_timeout_row wake_row start_row record_bytes head_form volume_form spelled opaque pad word laid_at led name_ok directory_bytes name_bytes rights_of image acl_text digits acl_entry_text directory_of names_at opaque_at word_at counted_at whole_at count_at name_at spelled_at bytes_below
boot_leapt h = let e : 3 ≤ 2 = h.1.0.1.0.1.1.0.0 in absurd (omega arith)

-- ---- a server that is down does nothing but begin again, or fail to; and one that stops does nothing else

-- it stops once more
stopped_when_down : Legal (entries (start (script 1)) (stops 1 ∷ []) ++ step_of (Server 1) (lines.Crash (Server 1) ∷ []) [] ∷ []) (script 1) → ⊥
unfolding moved begin_row client_row server_row back_timeout_row wake_row start_row record_bytes head_form volume_form spelled opaque pad word laid_at led name_ok directory_bytes name_bytes rights_of image acl_text digits acl_entry_text directory_of names_at opaque_at word_at counted_at whole_at count_at name_at spelled_at bytes_below
stopped_when_down h = h.1.0.1.0.1.1.0

-- its disk is set to stop it
set_when_down : Legal (entries (start (script 1)) (stops 1 ∷ []) ++ step_of (Server 1) (lines.Stop (Server 1) 0 0 ∷ []) [] ∷ []) (script 1) → ⊥
unfolding moved begin_row client_row server_row back_timeout_row wake_row start_row record_bytes head_form volume_form spelled opaque pad word laid_at led name_ok directory_bytes name_bytes rights_of image acl_text digits acl_entry_text directory_of names_at opaque_at word_at counted_at whole_at count_at name_at spelled_at bytes_below
set_when_down h = h.1.0.1.0.1.1.0

-- it tells a client which boot it is in
abbrev its_boot : Message
its_boot = record { head = record { half = halves.Boot; from = Server 1; to = Client 1; epoch = 1; number = 1; boot = 1; stamp = 0; opcode = 130 }; carried = carried.Notice }

noticed_when_down : Legal (entries (start (script 1)) (begins 1 (acts.Open (operands.Fid file)) ∷ stops 1 ∷ []) ++ step_of (Server 1) (lines.Given 1 ∷ []) (its_boot ∷ []) ∷ []) (script 1) → ⊥
unfolding moved begin_row client_row server_row back_timeout_row wake_row start_row record_bytes head_form volume_form spelled opaque pad word laid_at led name_ok directory_bytes name_bytes rights_of image acl_text digits acl_entry_text directory_of names_at opaque_at word_at counted_at whole_at count_at name_at spelled_at bytes_below
noticed_when_down h = h.1.1.0.1.0.1.1.0

-- it does so in the step in which it stops
noticed_and_stopped : Legal (entries (start (script 1)) (begins 1 (acts.Open (operands.Fid file)) ∷ []) ++ step_of (Server 1) (lines.Given 1 ∷ lines.Crash (Server 1) ∷ []) (its_boot ∷ []) ∷ []) (script 1) → ⊥
unfolding moved begin_row client_row server_row back_timeout_row wake_row start_row record_bytes head_form volume_form spelled opaque pad word laid_at led name_ok directory_bytes name_bytes rights_of image acl_text digits acl_entry_text directory_of names_at opaque_at word_at counted_at whole_at count_at name_at spelled_at bytes_below
noticed_and_stopped h = elim h.1.0.1.0.1.1.0 [ inl x ↦ x | inr x ↦ one_sent _ _ x.1 ]
  where
    one_sent : (m : Message) (ms : List Message) → m ∷ ms ≡ [] → ⊥
    one_sent m ms e = absurd cc

-- it is up, and has no room to begin again
full_when_up : Legal (step_of (Server 1) (lines.Full (Server 1) ∷ []) [] ∷ []) (script 1) → ⊥
unfolding moved begin_row client_row server_row back_timeout_row wake_row start_row record_bytes head_form volume_form spelled opaque pad word laid_at led name_ok directory_bytes name_bytes rights_of image acl_text digits acl_entry_text directory_of names_at opaque_at word_at counted_at whole_at count_at name_at spelled_at bytes_below
full_when_up h = elim h.0.1.0.1.1.0 [ inl x ↦ x | inr x ↦ x.0 ]

-- ---- a client times out the call for which it waits, three times at most

-- the same timeout twice
timed_out_again : Legal (entries (start (script 1)) (begins 1 (acts.Open (operands.Fid file)) ∷ waits 1 ∷ []) ++ step_of (Client 1) (times_out 1 ∷ []) [] ∷ []) (script 1) → ⊥
unfolding moved begin_row client_row server_row back_timeout_row wake_row start_row record_bytes head_form volume_form spelled opaque pad word laid_at led name_ok directory_bytes name_bytes rights_of image acl_text digits acl_entry_text directory_of names_at opaque_at word_at counted_at whole_at count_at name_at spelled_at bytes_below
timed_out_again h = elim h.1.1.0.0.0.0.1.sent [ inl x ↦ x.awaited.once (inl (refl, (refl, (refl, (refl, refl))))) | inr x ↦ not_asked x.is ]

-- the reply came
timed_out_when_answered : Legal (entries (start (script 1)) (begins 1 (acts.Open (operands.Fid file)) ∷ gives 1 steady ∷ gives 2 steady ∷ []) ++ step_of (Client 1) (times_out 1 ∷ []) [] ∷ []) (script 1) → ⊥
unfolding moved begin_row client_row server_row back_timeout_row wake_row start_row record_bytes head_form volume_form spelled opaque pad word laid_at led name_ok directory_bytes name_bytes rights_of image acl_text digits acl_entry_text directory_of names_at opaque_at word_at counted_at whole_at count_at name_at spelled_at bytes_below
timed_out_when_answered h = elim h.1.1.1.0.0.0.0.1.sent [ inl x ↦ (let e : None ≡ Some x.awaited.act = x.awaited.runs in absurd cc) | inr x ↦ not_asked x.is ]

-- the act goes on with its next call
timed_out_when_replaced : Legal (entries (start (script 1)) walk_front ++ step_of (Client 1) (times_out 1 ∷ []) [] ∷ []) (script 1) → ⊥
unfolding moved begin_row client_row server_row back_timeout_row wake_row start_row record_bytes head_form volume_form spelled opaque pad word laid_at led name_ok directory_bytes name_bytes rights_of image acl_text digits acl_entry_text directory_of names_at opaque_at word_at counted_at whole_at count_at name_at spelled_at bytes_below
timed_out_when_replaced h = elim h.1.1.1.0.0.0.0.1.sent [ inl g ↦ elim (g.awaited.last 3 _ refl tt refl) [ inl x ↦ (let e : 1 < 1 = x in absurd (omega arith)) | inr x ↦ (let e : 2 ≤ 1 = x.1 in absurd (omega arith)) ] | inr x ↦ not_asked x.is ]

-- the reply comes, and the client leaves it: its act is answered -1 after three timeouts
abbrev pub times_out_as : ℕ → Line
times_out_as n = lines.Timeout (Client 1) (Server 1) 1 1 n

abbrev left_history : List Entry
left_history = alters 2 (instead (lines.Given 2 ∷ [])) (entries (start (script 1)) (begins 1 (acts.Close (operands.Fid file) (Hex (codes "def"))) ∷ gives 1 steady ∷ gives 2 steady ∷ []))
    ++ step_of (Client 1) (times_out_as 1 ∷ []) [] ∷ step_of (Client 1) (times_out_as 2 ∷ []) [] ∷ step_of (Client 1) (times_out_as 3 ∷ lines.Answer (Client 1) (record { 0 = negsuc 0 }) ∷ []) [] ∷ []

-- the calls among the messages have this number
abbrev HaveNumber : ℕ → List Message → Type 0
HaveNumber n [] = ⊤
HaveNumber n (m ∷ ms) = ((user : List ℕ) (call : FsCall) → m.carried ≡ carried.Call user (ask.File call) → n ≡ call_number call) × HaveNumber n ms

abbrev AllHave : ℕ → List Entry → Type 0
AllHave n [] = ⊤
AllHave n (e ∷ past) = HaveNumber n e.sent × AllHave n past

has_number : (n : ℕ) (q : Node) (k : Key) (user : List ℕ) (call : FsCall) (ms : List Message) → HaveNumber n ms → SendsTo q k user call ms → n ≡ call_number call
has_number n q k user call [] h x = absurd x
has_number n q k user call (m ∷ ms) h (inl x) = h.0 user call x.1.1
has_number n q k user call (m ∷ ms) h (inr x) = has_number n q k user call ms h.1 x

one_number : (n : ℕ) (q : Node) (k : Key) (user : List ℕ) (call : FsCall) (past : List Entry) → AllHave n past → WasSent q k user call past → n ≡ call_number call
one_number n q k user call [] h x = absurd x
one_number n q k user call (e ∷ past) h (inl x) = has_number n q k user call e.sent h.0 x
one_number n q k user call (e ∷ past) h (inr x) = one_number n q k user call past h.1 x

told_no_call : (r : Reply) (user : List ℕ) (call : FsCall) → carried.Reply r ≡ carried.Call user (ask.File call) → ⊥
told_no_call r user call e = absurd cc

left_the_reply : Legal left_history (script 1) → ⊥
unfolding moved begin_row client_row server_row back_timeout_row wake_row start_row record_bytes head_form volume_form spelled opaque pad word laid_at led name_ok directory_bytes name_bytes rights_of image acl_text digits acl_entry_text directory_of names_at opaque_at word_at counted_at whole_at count_at name_at spelled_at bytes_below
left_the_reply h =
    let g = h.1.1.1.0.0.0.0.1 in
    let past : List Entry = past_of (set_up_entry (script 1) ∷ []) (take 3 left_history) in
    let all : AllHave 133 past = (tt, (((λ u k e. absurd (told_no_call _ u k e)), tt), (((λ u k e. ap call_number (one_call _ u _ k e)), tt), (tt, tt)))) in
    elim g.sent [ inl t ↦ t.awaited.unanswered.0 ((tt, refl), (refl, one_number 133 (Server 1) (key_of_one 1) t.user t.call past all t.sent)) | inr x ↦ not_asked x.is ]

-- or it only leaves it, and is answered when it comes again
took_no_reply : Legal (alters 2 (instead (lines.Given 2 ∷ [])) (entries (start (script 1)) (begins 1 (acts.Close (operands.Fid file) (Hex (codes "def"))) ∷ gives 1 steady ∷ gives 2 steady ∷ []))) (script 1) → ⊥
unfolding moved begin_row client_row server_row back_timeout_row wake_row start_row record_bytes head_form volume_form spelled opaque pad word laid_at led name_ok directory_bytes name_bytes rights_of image acl_text digits acl_entry_text directory_of names_at opaque_at word_at counted_at whole_at count_at name_at spelled_at bytes_below
took_no_reply h =
    elim (h.1.1.0.1.0.1.1.1.1.0.1
    (record {
      heard = record {
        message = _;
        given = refl;
        to = refl;
        is = tt;
        code = pos 0;
        told = refl;
        its = record { user = codes "guest"; call = stored_whole file (codes "def"); of = refl; from = refl; opcode = refl; last = ((λ is from. inr (refl, omega arith)), ((λ is from. absurd is), tt)) };
      };
      act = _;
      runs = refl;
      called = inr (refl, inl (refl, inl (refl, refl)));
    })
    home refl) [ inl x ↦ x | inr x ↦ x.1 ]

-- its store is refused, and the client leaves that
abbrev refused_history : List Entry
refused_history = entries (start (script 1)) (begins 1 (acts.Close (operands.Fid file) (Hex (codes "def"))) ∷ []) ++ step_of (Server 1) (lines.Given 1 ∷ []) (roomless ∷ []) ∷ step_of (Client 1) (lines.Given 2 ∷ []) [] ∷ []

took_no_refusal : Legal refused_history (script 1) → ⊥
unfolding moved begin_row client_row server_row back_timeout_row wake_row start_row record_bytes head_form volume_form spelled opaque pad word laid_at led name_ok directory_bytes name_bytes rights_of image acl_text digits acl_entry_text directory_of names_at opaque_at word_at counted_at whole_at count_at name_at spelled_at bytes_below
took_no_refusal h =
    elim (h.1.1.0.1.0.1.1.1.1.0.1
    (record {
      heard = record {
        message = roomless;
        given = refl;
        to = refl;
        is = tt;
        code = pos 108;
        told = refl;
        its = record { user = codes "guest"; call = stored_whole file (codes "def"); of = refl; from = refl; opcode = refl; last = ((λ is from. inr (refl, omega arith)), ((λ is from. absurd is), tt)) };
      };
      act = _;
      runs = refl;
      called = inr (refl, inl (refl, inl (refl, refl)));
    })
    home refl) [ inl x ↦ x | inr x ↦ x.1 ]

-- ---- a client makes one call at a time

-- its store, under the next number
abbrev store_of_two : Message
store_of_two = record {
  head = record { half = halves.Call; from = Client 1; to = Server 1; epoch = 1; number = 2; boot = 1; stamp = 0; opcode = 133 };
  carried = carried.Call (codes "guest") (ask.File (stored_whole file (codes "def")));
}

out_of_turn : (k : Key) (e : Entry) (past : List Entry) → has_sent k (sent_of past) ≡ false → has_begun k.node e.lines ≡ false → given_message e.lines (sent_of past) ≡ None → IsInTurn k (e ∷ past) → ⊥
out_of_turn k e past unsent unbegun ungiven (inl x) = true_not (sym x ∙ unsent)
out_of_turn k e past unsent unbegun ungiven (inr (inl x)) = true_not (sym x ∙ unbegun)
out_of_turn k e past unsent unbegun ungiven (inr (inr x)) = let no_ : None ≡ Some x.message = sym ungiven ∙ x.given in absurd cc

-- A client calls twice for its store, before it is answered. The server has no room when it is given the first call, and the act is over with that; and
-- then the store is made by the second
abbrev refused_and_stored : List Entry
refused_and_stored =
    entries (start (script 1)) (begins 1 (acts.Close (operands.Fid file) (Hex (codes "def"))) ∷ [])
    ++ step_of (Client 1) [] (store_of_two ∷ [])
    ∷ step_of (Server 1) (lines.Given 1 ∷ []) (roomless ∷ [])
    ∷ step_of (Client 1) (lines.Given 3 ∷ lines.Answer (Client 1) (record { 0 = pos 108 }) ∷ []) []
    ∷ changed_as 2 2 ∷ []

called_before_its_answer : Legal refused_and_stored (script 1) → ⊥
unfolding moved begin_row client_row server_row back_timeout_row wake_row start_row record_bytes head_form volume_form spelled opaque pad word laid_at led name_ok directory_bytes name_bytes rights_of image acl_text digits acl_entry_text directory_of names_at opaque_at word_at counted_at whole_at count_at name_at spelled_at bytes_below
called_before_its_answer h = out_of_turn (key_of_one 2) (step_of (Client 1) [] (store_of_two ∷ [])) (past_of (set_up_entry (script 1) ∷ []) (take 1 refused_and_stored)) refl refl refl h.1.0.1.1.1.0.0.turn

-- A client times its call out, and calls under another number in place of sending it again. By the first call it is told that its store is made, and it
-- leaves that; by the second, which no server may answer, it is dead
abbrev made_and_dead : List Entry
made_and_dead =
    alters 1 asked_anew_as_two (entries (start (script 1)) (begins 1 (acts.Close (operands.Fid file) (Hex (codes "def"))) ∷ waits 1 ∷ gives 1 steady ∷ []))
    ++ step_of (Client 1) (lines.Given 3 ∷ []) []
    ∷ step_of (Client 1) (times_two_out 1 ∷ []) [] ∷ step_of (Client 1) (times_two_out 2 ∷ []) [] ∷ step_of (Client 1) (times_two_out 3 ∷ lines.Answer (Client 1) (record { 0 = negsuc 0 }) ∷ []) [] ∷ []

called_in_place_of_a_repeat : Legal made_and_dead (script 1) → ⊥
unfolding moved begin_row client_row server_row back_timeout_row wake_row start_row record_bytes head_form volume_form spelled opaque pad word laid_at led name_ok directory_bytes name_bytes rights_of image acl_text digits acl_entry_text directory_of names_at opaque_at word_at counted_at whole_at count_at name_at spelled_at bytes_below
called_in_place_of_a_repeat h = out_of_turn (key_of_one 2) (step_of (Client 1) (times_out_as 1 ∷ []) (store_of_two ∷ [])) (past_of (set_up_entry (script 1) ∷ []) (take 1 made_and_dead)) refl refl refl h.1.0.1.1.1.0.0.turn

-- it tells a third timeout, and goes on waiting
waited_on : Legal (alters 3 (instead (times_out_as 3 ∷ [])) (entries (start (script 1)) (begins 1 (acts.Open (operands.Fid file)) ∷ waits 1 ∷ waits 1 ∷ waits 1 ∷ []))) (script 1) → ⊥
unfolding moved begin_row client_row server_row back_timeout_row wake_row start_row record_bytes head_form volume_form spelled opaque pad word laid_at led name_ok directory_bytes name_bytes rights_of image acl_text digits acl_entry_text directory_of names_at opaque_at word_at counted_at whole_at count_at name_at spelled_at bytes_below
waited_on h = elim h.1.1.1.0.0.0.0.1.sent [ inl x ↦ x.awaited.dead refl | inr x ↦ not_asked x.is ]

-- a server times its call out once more than thrice
timed_out_four_times : Legal (entries (start (script 2)) (changes_file ++ server_waits 1 (Client 1) ∷ server_waits 1 (Client 1) ∷ server_waits 1 (Client 1) ∷ []) ++ step_of (Server 1) (lines.Timeout (Server 1) (Client 1) 1 1 4 ∷ []) [] ∷ []) (script 2) → ⊥
unfolding moved begin_row client_row server_row back_timeout_row wake_row start_row record_bytes head_form volume_form spelled opaque pad word laid_at led name_ok directory_bytes name_bytes rights_of image acl_text digits acl_entry_text directory_of names_at opaque_at word_at counted_at whole_at count_at name_at spelled_at bytes_below
timed_out_four_times h = let e : 4 ≤ 3 = h.1.1.1.1.1.1.1.0.0.0.0.1.few in absurd (omega arith)

-- ---- a client that is given a break drops what it is on

abbrev first_of_server : Key
first_of_server = record { node = Server 1; epoch = 1; number = 1 }

-- it does nothing, and goes on showing what it holds
broken_and_kept : Legal (alters 4 (instead (lines.Given 4 ∷ [])) (entries (start (script 2)) (changes_file ++ gives 4 steady ∷ []))) (script 2) → ⊥
unfolding moved begin_row client_row server_row back_timeout_row wake_row start_row record_bytes head_form volume_form spelled opaque pad word laid_at led name_ok directory_bytes name_bytes rights_of image acl_text digits acl_entry_text directory_of names_at opaque_at word_at counted_at whole_at count_at name_at spelled_at bytes_below
broken_and_kept h =
    let none_ : IsFirstOfItsBoot (Client 1) first_of_server 1 (past_of (set_up_entry (script 2) ∷ []) (entries (start (script 2)) changes_file)) = ((λ x. no_client x.0.1), ((λ x. x), ((λ x. no_client x.0.1), ((λ x. x), ((λ x. x), tt))))) in
    (h.1.1.1.1.0.1.0.1.1.1.1.0.0 first_of_server (record { boot = 1; up = refl; given = ((tt, refl), (refl, refl)); first = none_; latest = λ l x same. elim x [ inl y ↦ absurd (no_client y.0) | inr z ↦ absurd z ] })).0

-- ---- a server answers in the boot in which it is

-- in its next boot it sends again what it had answered to a fetch
abbrev restarts : List Input
restarts = stops 1 ∷ starts_again 1 false comes_up ∷ []

pub two_boots : ◌≡◌ {A = Option ℕ} (Some 2) (Some 1) → ⊥
two_boots e = absurd cc

answered_from_before : Legal (entries (start (script 1)) (fetch_front ++ restarts) ++ step_of (Server 1) [] (sent_by (start (script 1)) fetch_front) ∷ []) (script 1) → ⊥
unfolding moved begin_row client_row server_row back_timeout_row wake_row start_row record_bytes head_form volume_form spelled opaque pad word laid_at led name_ok directory_bytes name_bytes rights_of image acl_text digits acl_entry_text directory_of names_at opaque_at word_at counted_at whole_at count_at name_at spelled_at bytes_below
answered_from_before h = elim (h.1.1.1.1.0.1.0.1.1.1.1.1.0.0.0 1 1 (refl, tt) refl refl) [ inl e ↦ two_boots e | inr x ↦ x.0 ]

-- ---- a notice tells the boot of its sender

-- a client that crashed is given a break that is to its first epoch, and tells that as its own: so it is never given one that it would run
abbrev tells_one : Entry → Entry
tells_one e = record e { sent = map (λ (m : Message). record m { head = record m.head { boot = 1 } }) e.sent }

abbrev crashed_and_called : List Input
crashed_and_called = client_stops 1 ∷ client_starts 1 ∷ begins 1 (acts.Open (operands.Fid file)) ∷ gives 1 steady ∷ gives 2 steady ∷ begins 2 (acts.Close (operands.Fid file) (Hex (codes "def"))) ∷ gives 3 steady ∷ gives 4 steady ∷ []

noticed_an_old_epoch : Legal (alters 7 tells_one (entries (start (script 2)) crashed_and_called)) (script 2) → ⊥
unfolding moved begin_row client_row server_row back_timeout_row wake_row start_row record_bytes head_form volume_form spelled opaque pad word laid_at led name_ok directory_bytes name_bytes rights_of image acl_text digits acl_entry_text directory_of names_at opaque_at word_at counted_at whole_at count_at name_at spelled_at bytes_below
noticed_an_old_epoch h = let e : 2 ≡ 1 = h.1.1.1.1.1.1.1.0.1.0.1.1.1.1.1.0.0.1 refl in absurd (omega (arith, e))

-- ---- what a client calls

-- A client gives a promise back while it opens the file: the server forgets what it promised just before, the client shows the file by that,
-- and a store owes it nothing
abbrev gives_while_opening : List Entry
gives_while_opening =
    step_of (Client 1) (begun 1 ∷ lines.Drop (Client 1) file ∷ []) (sent_by (start (script 2)) (begins 1 (acts.Open (operands.Fid file)) ∷ []))
    ∷ step_of (Server 1) (lines.Given 1 ∷ lines.Grant (Server 1) (Client 1) file 1 7200 ∷ []) (sent_by (start (script 2)) (begins 1 (acts.Open (operands.Fid file)) ∷ gives 1 steady ∷ []))
    ∷ step_of (Client 1) [] (gift ∷ [])
    ∷ step_of (Server 1) (lines.Given 3 ∷ []) (gift_answer ∷ [])
    ∷ step_of (Client 1) (lines.Given 2 ∷ shown Fetched ∷ answer 1 ∷ []) []
    ∷ step_of (Client 2) (stores 2 ∷ []) (sent_by (start (script 2)) (begins 2 (acts.Close (operands.Fid file) (Hex (codes "def"))) ∷ []))
    ∷ step_of (Server 1) (lines.Given 5 ∷ lines.Change (Server 1) (record { node = Client 2; epoch = 1; number = 1 }) 1 ∷ lines.Version (record { fid = file; index = 2; data_version = 2; body = bodies.File (codes "def") }) ∷ []) []
    ∷ step_of (Client 1) (begun 1 ∷ shown Cached ∷ answer 1 ∷ []) [] ∷ []

no_fetch_gives : (f : Fid) → calls.GiveUpCallBacks [] [] ≡ calls.FetchData f (pos 0) (pos 2147483647) → ⊥
no_fetch_gives f e = absurd cc

gave_back_unasked : Legal gives_while_opening (script 2) → ⊥
unfolding moved begin_row client_row server_row back_timeout_row wake_row start_row record_bytes head_form volume_form spelled opaque pad word laid_at led name_ok directory_bytes name_bytes rights_of image acl_text digits acl_entry_text directory_of names_at opaque_at word_at counted_at whole_at count_at name_at spelled_at bytes_below
gave_back_unasked h =
    let x = h.1.1.0.1.1.1.0.0 in
    no_fetch_gives file (subst (λ (a : Going). calls.GiveUpCallBacks [] [] ≡ asked a) (sym (some_of _ x.act x.runs)) x.asks)

-- A client's later call has the lower number: the server runs that first, and then the older one, whose store undoes the later one
abbrev other_number : ℕ → ℕ
other_number n = cond (nat_eq n 1) 2 1

abbrev renumbered : Line → Line
renumbered (lines.Timeout c q epoch number count) = lines.Timeout c q epoch (other_number number) count
renumbered (lines.Change q k count) = lines.Change q (record k { number = other_number k.number }) count
renumbered l = l

abbrev other_order : Entry → Entry
other_order e = record e { lines = map renumbered e.lines; sent = map (λ (m : Message). record m { head = record m.head { number = other_number m.head.number } }) e.sent }

abbrev stores_twice : List Input
stores_twice = begins 1 (acts.Close (operands.Fid file) (Hex (codes "old"))) ∷ waits 1 ∷ waits 1 ∷ waits 1 ∷ begins 1 (acts.Close (operands.Fid file) (Hex (codes "new"))) ∷ gives 4 steady ∷ gives 5 steady ∷ []

abbrev undoes : List Entry
undoes =
    map other_order (entries (start (script 1)) stores_twice)
    ++ step_of (Server 1) (lines.Given 1 ∷ lines.Change (Server 1) (key_of_one 2) 1 ∷ lines.Version (record { fid = file; index = 3; data_version = 3; body = bodies.File (codes "old") }) ∷ []) [] ∷ []

undone_by_an_older_call : Legal undoes (script 1) → ⊥
unfolding moved begin_row client_row server_row back_timeout_row wake_row start_row record_bytes head_form volume_form spelled opaque pad word laid_at led name_ok directory_bytes name_bytes rights_of image acl_text digits acl_entry_text directory_of names_at opaque_at word_at counted_at whole_at count_at name_at spelled_at bytes_below
undone_by_an_older_call h = elim (h.1.1.1.1.0.1.1.1.0.0.last.0 tt refl) [
  | inl x ↦ let e : 1 < 1 = x in absurd (omega arith)
  | inr x ↦ let e : 2 ≤ 1 = x.1 in absurd (omega arith)
]

-- a client's header names another call than it carries
abbrev named_a_store : Entry → Entry
named_a_store e = record e { sent = map (λ (m : Message). record m { head = record m.head { opcode = 133 } }) e.sent }

called_as_a_store : Legal (alters 0 named_a_store (entries (start (script 1)) (begins 1 (acts.Open (operands.Fid file)) ∷ []))) (script 1) → ⊥
unfolding moved begin_row client_row server_row back_timeout_row wake_row start_row record_bytes head_form volume_form spelled opaque pad word laid_at led name_ok directory_bytes name_bytes rights_of image acl_text digits acl_entry_text directory_of names_at opaque_at word_at counted_at whole_at count_at name_at spelled_at bytes_below
called_as_a_store h = let e : 133 ≡ 130 = h.0.1.1.1.0.0.opcode in absurd (omega (arith, e))

-- it sends a volume's call under the key of its store, whose change then stands where that was given
abbrev to_volumes : Message → Message
to_volumes m = record m { carried = carried.Call (codes "guest") (ask.Volume (volumes.DeleteVolume home 1)) }

changed_by_a_volume_call : Legal (alters 0 (sends_besides to_volumes) (entries (start (script 1)) (begins 1 (acts.Close (operands.Fid file) (Hex (codes "def"))) ∷ [])) ++ step_of (Server 1) (lines.Given 2 ∷ lines.Change (Server 1) (key_of_one 1) 1 ∷ lines.Version (record { fid = file; index = 2; data_version = 2; body = bodies.File (codes "def") }) ∷ []) [] ∷ []) (script 1) → ⊥
unfolding moved begin_row client_row server_row back_timeout_row wake_row start_row record_bytes head_form volume_form spelled opaque pad word laid_at led name_ok directory_bytes name_bytes rights_of image acl_text digits acl_entry_text directory_of names_at opaque_at word_at counted_at whole_at count_at name_at spelled_at bytes_below
changed_by_a_volume_call h = h.0.1.1.1.0.1.0
