use Rattle.spec_history.specs.declared.acts.Operand.{Operand}
use Rattle.afs_num.specs.declared.types.Key.{Key}
use Rattle.afs_num.specs.declared.types.Head.{Head}
use Rattle.spec_records.specs.Records.{record_bytes, head_form, volume_form}
use Rattle.spec_rows.specs.ServerSteps.{server_row, back_timeout_row, wake_row, start_row}
use Rattle.spec_history.specs.declared.acts.Act.TheVariants as acts
use Rattle.spec_history.specs.declared.acts.Operand.TheVariants as operands
use Rattle.spec_history.specs.declared.acts.Written.TheVariants.{Hex}
use Rattle.spec_history.specs.declared.scripts.AdminAct.TheVariants as admin_acts
use Rattle.spec_model.specs.CellRows as cell_rows
use Rattle.afs_num.specs.declared.messages.Call.{Call}
use Rattle.spec_history.specs.declared.lines.Line.{Line}
use Rattle.spec_history.specs.declared.lines.Line.TheVariants as lines
use Rattle.spec_ideal.specs.AccessLists.{rights_of, acl_text, acl_entry_text}
use Rattle.spec_ideal.specs.Directories.{directory_bytes, name_bytes, directory_of, names_at, whole_at, count_at, name_at, spelled_at, bytes_below}
use Rattle.spec_ideal.specs.SetUp.{laid_at, led, nothing_set}
use Rattle.spec_ideal.specs.VnodeImage.{image}
use Rattle.law_legal.proofs.BaseLaws.{some_of}
use Rattle.afs_num.specs.declared.types.Node.{Node}
use Rattle.law_legal.proofs.Worked.{home, stores, alters, answer, entries, file, root, script}
use Rattle.law_legal.specs.Legal.{Legal, MayLock, RunsInLoc, WasRefused}
use Rattle.spec_model.specs.Messages.{spelled}
use Rattle.afs_num.specs.Names.{name_ok}
use Rattle.afs_num.specs.declared.types.Fid.{Fid}
use Rattle.spec_rows.specs.ClientRow.{begin_row, client_row, question}
use Rattle.afs_num.specs.declared.location_calls.LocCall.{LocCall}
use Rattle.afs_num.specs.declared.location_calls.LocCall.TheVariants as questions
use Rattle.spec_rows.specs.Going.{Going, began, answers, gives_back, next, stored_whole, no_entry, locates}
use Rattle.spec_rows.specs.Runs.{Entry, Input, begins, gives, locations, moved, start, steady, waits}
use Rattle.afs_xdr.specs.Words.{opaque, pad, word, opaque_at, word_at, counted_at}
use Rattle.law_legal.specs.Ideal.{set_up_entry}
use Rattle.law_legal.specs.Once.{past_of}
use Rattle.law_legal.specs.Past.{HasChangeBy, IsLater, IsLatest, WasSent, has_begun, CalledSince, Ran, answered_key, given_message, lines_of, sent_of, AreWithin, AskedSince}
use Rattle.afs_num.specs.declared.calls.FsCall.{FsCall}
use Rattle.afs_num.specs.declared.calls.FsCall.TheVariants as calls
use Rattle.afs_num.specs.declared.histories.Actor.TheVariants as actors
use Rattle.afs_num.specs.declared.messages.Call.TheVariants as ask
use Rattle.afs_num.specs.declared.types.Half.TheVariants as halves
use Rattle.afs_num.specs.declared.histories.Body.TheVariants as bodies
use Rattle.afs_num.specs.declared.histories.ReadBody.TheVariants as seen
use Rattle.afs_num.specs.declared.histories.ReadSource.TheVariants.{Cached, Fetched}
use Rattle.afs_num.specs.declared.messages.Carried.TheVariants as carried
use Rattle.afs_num.specs.declared.messages.Message.{Message}
use Rattle.afs_num.specs.declared.types.Node.TheVariants.{Client, Server, Loc, Admin}
use Rattle.std.proofs.Common.{arith, ◌<◌, ◌≤◌, ◌≡◌, ◌∙◌, true, false, ℕ, ℤ, List, [], ◌∷◌, ◌++◌, None, Some, ap, sym, subst, refl, inl, inr, negsuc, pos}
use Rattle.std.specs.Fmt.{digits}
use Rattle.std.specs.Prelude.{⊤, codes, drop, map, take}
use Rattle.law_legal.proofs.WrongAnswers.{Among, instead, is_among, key_of_one, no_room, roomless, step_of}
use Rattle.law_legal.proofs.WrongBreaks.{dead_answer, opens_unknown, unknown}
use Rattle.law_legal.proofs.WrongCalls.{asked_anew_as_two, file_apart}
use Rattle.law_legal.proofs.WrongLives.{not_asked, times_out_as, two_boots}

-- ---- a server keeps the reply to what it changed over a restart

-- The server made a store, and went down before its reply came. It runs the call again in its next boot, and has no room for it
abbrev stores_in : ℕ → Message
stores_in boot = record {
  head = record { half = halves.Call; from = Client 1; to = Server 1; epoch = 1; number = 1; boot = boot; stamp = 0; opcode = 133 };
  carried = carried.Call (codes "guest") (ask.File (stored_whole file (codes "def")));
}

abbrev head_of_two : Head
head_of_two = record { half = halves.Reply; from = Server 1; to = Client 1; epoch = 1; number = 1; boot = 2; stamp = 0; opcode = 133 }

abbrev stored_and_stopped : List Entry
stored_and_stopped =
    step_of (Client 1) (stores 1 ∷ []) (stores_in 1 ∷ [])
    ∷ step_of (Server 1) (lines.Given 1 ∷ lines.Change (Server 1) (key_of_one 1) 1 ∷ lines.Version (record { fid = file; index = 2; data_version = 2; body = bodies.File (codes "def") }) ∷ []) []
    ∷ step_of (Server 1) (lines.Crash (Server 1) ∷ []) []
    ∷ step_of (Server 1) (lines.Restart (Server 1) 2 ∷ lines.Owe (Server 1) (Client 1) None 1 ∷ []) []
    ∷ step_of (Client 1) (lines.Timeout (Client 1) (Server 1) 1 1 1 ∷ []) (stores_in 2 ∷ [])
    ∷ step_of (Server 1) (lines.Given 2 ∷ []) (record { head = head_of_two; carried = carried.Refusal (record { 0 = pos 108 }) } ∷ []) ∷ []

-- what that says of the entry that ran it
record RanAgain (e : Entry) (older : List Entry) : Type 0 where
  message : Message
  given : given_message e.lines (sent_of older) ≡ Some message
  boot : message.head.boot ≡ 2
  latest : IsLatest (Server 1) (key_of_one 1) (lines_of older)

ran_again : (past : List Entry) → Ran head_of_two past → Among RanAgain past
ran_again past r = subst (Among RanAgain) (sym r.split) (is_among RanAgain r.newer r.at r.older (record { message = r.message; given = r.given; boot = r.boot; latest = r.latest }))

abbrev NoneOf : (Entry → List Entry → Type 0) → List Entry → Type 0
NoneOf P [] = ⊤
NoneOf P (e ∷ past) = (P e past → ⊥) × NoneOf P past

none_among : (P : Entry → List Entry → Type 0) (past : List Entry) → NoneOf P past → Among P past → ⊥
none_among P [] h x = x
none_among P (e ∷ past) h (inl x) = h.0 x
none_among P (e ∷ past) h (inr x) = none_among P past h.1 x

again_none : (e : Entry) (older : List Entry) → given_message e.lines (sent_of older) ≡ None → RanAgain e older → ⊥
again_none e older none x = let no_ : None ≡ Some x.message = sym none ∙ x.given in absurd cc

again_first : (e : Entry) (older : List Entry) (m : Message) → given_message e.lines (sent_of older) ≡ Some m → m.head.boot ≡ 1 → RanAgain e older → ⊥
again_first e older m at one x = let no_ : 1 ≡ 2 = sym one ∙ (ap (λ (q : Message). q.head.boot) (some_of m x.message (sym at ∙ x.given)) ∙ x.boot) in absurd (omega (arith, no_))

again_changed : (e : Entry) (older : List Entry) → HasChangeBy (Server 1) (key_of_one 1) (lines_of older) → RanAgain e older → ⊥
again_changed e older has x = elim (x.latest (key_of_one 1) has refl) [ inl y ↦ let no_ : 1 < 1 = y in absurd (omega arith) | inr y ↦ let no_ : 1 < 1 = y.1 in absurd (omega arith) ]

refused_what_was_done : Legal stored_and_stopped (script 1) → ⊥
unfolding moved begin_row client_row server_row back_timeout_row wake_row start_row record_bytes head_form volume_form spelled opaque pad word laid_at led name_ok directory_bytes name_bytes rights_of image acl_text digits acl_entry_text directory_of names_at opaque_at word_at counted_at whole_at count_at name_at spelled_at bytes_below
refused_what_was_done h =
    none_among RanAgain (past_of (set_up_entry (script 1) ∷ []) stored_and_stopped) (
      (λ x. again_changed _ _ (inl (refl, refl)) x),
      ((λ x. again_none _ _ refl x), ((λ x. again_none _ _ refl x), ((λ x. again_none _ _ refl x), ((λ x. again_first _ _ _ refl refl x), ((λ x. again_none _ _ refl x), ((λ x. again_none _ _ refl x), tt)))))),
    ) (ran_again _ (h.1.1.1.1.1.0.1.1.0.0 1 1 (refl, tt) refl refl).ran)

-- In one boot the server didn't answer a call, and in the next it makes the store; then it says that it had no room in the boot before
abbrev refused_before : List Entry
refused_before =
    step_of (Client 1) (stores 1 ∷ []) (stores_in 1 ∷ [])
    ∷ step_of (Server 1) (lines.Given 1 ∷ []) []
    ∷ step_of (Server 1) (lines.Crash (Server 1) ∷ []) []
    ∷ step_of (Server 1) (lines.Restart (Server 1) 2 ∷ lines.Owe (Server 1) (Client 1) None 1 ∷ []) []
    ∷ step_of (Client 1) (times_out_as 1 ∷ []) (stores_in 1 ∷ [])
    ∷ step_of (Server 1) (lines.Given 2 ∷ []) (record { head = record head_of_two { half = halves.Boot }; carried = carried.Notice } ∷ [])
    ∷ step_of (Client 1) (lines.Given 3 ∷ []) (stores_in 2 ∷ [])
    ∷ step_of (Server 1) (lines.Given 4 ∷ lines.Change (Server 1) (key_of_one 1) 1 ∷ lines.Version (record { fid = file; index = 2; data_version = 2; body = bodies.File (codes "def") }) ∷ []) []
    ∷ step_of (Server 1) [] (roomless ∷ []) ∷ []

refused_from_before : Legal refused_before (script 1) → ⊥
unfolding moved begin_row client_row server_row back_timeout_row wake_row start_row record_bytes head_form volume_form spelled opaque pad word laid_at led name_ok directory_bytes name_bytes rights_of image acl_text digits acl_entry_text directory_of names_at opaque_at word_at counted_at whole_at count_at name_at spelled_at bytes_below
refused_from_before h = elim (h.1.1.1.1.1.1.1.1.0.1.0.1.1.1.1.1.0.0.0 1 1 (refl, tt) refl refl) [ inl e ↦ two_boots e | inr x ↦ no_room (sym (some_of _ _ x.1)) ]

-- ---- no room for what the act has changed

-- A client asks twice for its store, under two numbers: the server makes the first, and has no room for the second
abbrev no_room_for_two : Message
no_room_for_two = record {
  head = record { half = halves.Reply; from = Server 1; to = Client 1; epoch = 1; number = 2; boot = 1; stamp = 0; opcode = 133 };
  carried = carried.Refusal (record { 0 = pos 108 });
}

abbrev made_first : List Entry
made_first = alters 1 asked_anew_as_two (entries (start (script 1)) (begins 1 (acts.Close (operands.Fid file) (Hex (codes "def"))) ∷ waits 1 ∷ gives 1 steady ∷ []))

abbrev refuses_second : Entry
refuses_second = step_of (Server 1) (lines.Given 2 ∷ []) (no_room_for_two ∷ [])

abbrev made_past_first : List Entry
made_past_first = past_of (set_up_entry (script 1) ∷ []) made_first

one_before_two : (l : Key) → key_of_one 1 ≡ l → IsLater (key_of_one 2) l
one_before_two l e = subst (IsLater (key_of_one 2)) e (inr (refl, omega arith))

two_not_one : key_of_one 2 ≡ key_of_one 1 → ⊥
two_not_one e = let no_ : 2 ≡ 1 = ap (λ (k : Key). k.number) e in absurd (omega (arith, no_))

ran_second : Ran no_room_for_two.head (refuses_second ∷ made_past_first)
unfolding moved begin_row client_row server_row back_timeout_row wake_row start_row record_bytes head_form volume_form spelled opaque pad word laid_at led name_ok directory_bytes name_bytes rights_of image acl_text digits acl_entry_text directory_of names_at opaque_at word_at counted_at whole_at count_at name_at spelled_at bytes_below
ran_second = record {
  newer = [];
  at = refuses_second;
  older = made_past_first;
  split = refl;
  message = record { head = record { half = halves.Call; from = Client 1; to = Server 1; epoch = 1; number = 2; boot = 1; stamp = 0; opcode = 133 }; carried = carried.Call (codes "guest") (ask.File (stored_whole file (codes "def"))) };
  given = refl;
  is_call = tt;
  key = refl;
  opcode = refl;
  boot = refl;
  up = refl;
  callee = refl;
  node = refl;
  first = ((λ x. elim x.1.0.1 [ inl y ↦ let no_ : 1 < 1 = y in absurd (omega arith) | inr y ↦ let no_ : 2 ≤ 1 = y.1 in absurd (omega arith) ]), ((λ x. x), ((λ x. x), ((λ x. x), tt))));
  latest = λ l h same. elim h [ inl x ↦ one_before_two l x.1 | inr x ↦ absurd x ];
}

no_room_for_what_was_made : Legal (made_first ++ refuses_second ∷ []) (script 1) → ⊥
unfolding moved begin_row client_row server_row back_timeout_row wake_row start_row record_bytes head_form volume_form spelled opaque pad word laid_at led name_ok directory_bytes name_bytes rights_of image acl_text digits acl_entry_text directory_of names_at opaque_at word_at counted_at whole_at count_at name_at spelled_at bytes_below ran_second
no_room_for_what_was_made h =
    h.1.1.1.0.1.0.1.1.1.1.1.0.1 1 1 refl refl ran_second (codes "guest") (stored_whole file (codes "def")) refl home refl
    (record { newer = take 1 made_past_first; older = drop 1 made_past_first; split = refl; of_act = refl; changed = key_of_one 1; other = λ e. two_not_one e; change = inl refl; same = refl })

-- A client asks twice for its new directory, under two numbers: the server makes it by the first, and answers the second as if another had made it
abbrev asked_anew_as_three : Entry → Entry
asked_anew_as_three e = record e { sent = map (λ (m : Message). record m { head = record m.head { number = 3 } }) e.sent }

abbrev made_by_two : List Entry
made_by_two =
    alters 3 asked_anew_as_three (entries (start (script 1)) (begins 1 (acts.MakeDirectory (record { volume = codes "proj"; names = codes "d" ∷ [] })) ∷ gives 1 steady ∷ gives 2 steady ∷ waits 1 ∷ gives 3 steady ∷ []))

abbrev there_already : Message
there_already = record {
  head = record { half = halves.Reply; from = Server 1; to = Client 1; epoch = 1; number = 3; boot = 1; stamp = 0; opcode = 141 };
  carried = carried.Refusal (record { 0 = pos 17 });
}

abbrev refuses_third : Entry
refuses_third = step_of (Server 1) (lines.Given 4 ∷ []) (there_already ∷ [])

abbrev made_past_two : List Entry
made_past_two = past_of (set_up_entry (script 1) ∷ []) made_by_two

two_before_three : (l : Key) → key_of_one 2 ≡ l → IsLater (key_of_one 3) l
two_before_three l e = subst (IsLater (key_of_one 3)) e (inr (refl, omega arith))

three_not_two : key_of_one 3 ≡ key_of_one 2 → ⊥
three_not_two e = let no_ : 3 ≡ 2 = ap (λ (k : Key). k.number) e in absurd (omega (arith, no_))

abbrev makes_d : FsCall
makes_d = calls.MakeDir root (codes "d") nothing_set

ran_third : Ran there_already.head (refuses_third ∷ made_past_two)
unfolding moved begin_row client_row server_row back_timeout_row wake_row start_row record_bytes head_form volume_form spelled opaque pad word laid_at led name_ok directory_bytes name_bytes rights_of image acl_text digits acl_entry_text directory_of names_at opaque_at word_at counted_at whole_at count_at name_at spelled_at bytes_below
ran_third = record {
  newer = [];
  at = refuses_third;
  older = made_past_two;
  split = refl;
  message = record { head = record { half = halves.Call; from = Client 1; to = Server 1; epoch = 1; number = 3; boot = 1; stamp = 0; opcode = 141 }; carried = carried.Call (codes "guest") (ask.File makes_d) };
  given = refl;
  is_call = tt;
  key = refl;
  opcode = refl;
  boot = refl;
  up = refl;
  callee = refl;
  node = refl;
  first = (
    (λ x. elim x.1.0.1 [ inl y ↦ let no_ : 1 < 1 = y in absurd (omega arith) | inr y ↦ let no_ : 3 ≤ 2 = y.1 in absurd (omega arith) ]),
    ((λ x. x), ((λ x. x.0.0), ((λ x. elim x.1.0.1 [ inl y ↦ let no_ : 1 < 1 = y in absurd (omega arith) | inr y ↦ let no_ : 3 ≤ 1 = y.1 in absurd (omega arith) ]), ((λ x. x), ((λ x. x), tt))))),
  );
  latest = λ l h same. elim h [ inl x ↦ two_before_three l x.1 | inr x ↦ absurd x ];
}

refused_what_it_made : Legal (made_by_two ++ refuses_third ∷ []) (script 1) → ⊥
unfolding moved begin_row client_row server_row back_timeout_row wake_row start_row record_bytes head_form volume_form spelled opaque pad word laid_at led name_ok directory_bytes name_bytes rights_of image acl_text digits acl_entry_text directory_of names_at opaque_at word_at counted_at whole_at count_at name_at spelled_at bytes_below ran_third
refused_what_it_made h =
    h.1.1.1.1.1.0.1.0.1.1.1.1.1.0.1 1 1 refl refl ran_third (codes "guest") makes_d refl home refl
    (record { newer = take 1 made_past_two; older = drop 1 made_past_two; split = refl; of_act = refl; changed = key_of_one 2; other = λ e. three_not_two e; change = inl refl; same = refl })

-- ---- what an act makes of something else its client isn't told

-- A client has a file in its cache, and gives it a second name. By that the file has a new version, whose status no reply tells; but the client keeps
-- its entry, and shows that
abbrev linked_front : List Input
linked_front =
    begins 1 (acts.Open (operands.Fid file)) ∷ gives 1 steady ∷ gives 2 steady ∷ begins 1 (acts.Link (record { volume = codes "proj"; names = codes "a" ∷ [] }) (record { volume = codes "proj"; names = codes "b" ∷ [] })) ∷ gives 3 steady ∷ gives 4 steady ∷ gives 5 steady ∷ gives 6 steady ∷ []

abbrev linked_status : Line
linked_status = lines.Read (Client 1) file 2 Cached (seen.Status (record { kind = 1; link_count = 2; length = 3; mode = 420 }))

shown_after_a_link : Legal (alters 7 (instead (lines.Given 6 ∷ answer 1 ∷ [])) (entries (start (script 1)) linked_front) ++ step_of (Client 1) (lines.Begin (Client 1) (acts.Stat (operands.Fid file)) ∷ linked_status ∷ answer 1 ∷ []) [] ∷ []) (script 1) → ⊥
unfolding moved begin_row client_row server_row back_timeout_row wake_row start_row record_bytes head_form volume_form spelled opaque pad word laid_at led name_ok directory_bytes name_bytes rights_of image acl_text digits acl_entry_text directory_of names_at opaque_at word_at counted_at whole_at count_at name_at spelled_at bytes_below
shown_after_a_link h =
    elim h.1.1.1.1.1.1.1.1.0.0.0.1.0.1.0.brought.0 [
      | inl x ↦ x.1.1.0
      | inr y ↦ elim y [
        | inl x ↦ let no_ : Cached ≡ Fetched = x.1.1.1.0 in absurd cc
        | inr z ↦ elim z [
          | inl x ↦ file_apart (sym x.1.0)
          | inr w ↦ elim w [
            | inl x ↦ x.1.1.0
            | inr v ↦ elim v [ inl x ↦ let no_ : 1 ≡ 2 = x.1.1.0 in absurd (omega (arith, no_)) | inr u ↦ u ]
          ]
        ]
      ]
    ]

-- ---- the location database lives as its lines tell

-- it is up, and begins again
loc_began_when_up : Legal (step_of Loc (lines.Restart Loc 2 ∷ []) [] ∷ []) (script 1) → ⊥
unfolding moved begin_row client_row server_row back_timeout_row wake_row start_row record_bytes head_form volume_form spelled opaque pad word laid_at led name_ok directory_bytes name_bytes rights_of image acl_text digits acl_entry_text directory_of names_at opaque_at word_at counted_at whole_at count_at name_at spelled_at bytes_below
loc_began_when_up h = elim h.0.1.0.1.1.0.0 [ inl x ↦ x | inr x ↦ x.0 ]

-- it is down, and stops once more
loc_stopped_when_down : Legal (step_of Loc (lines.Crash Loc ∷ []) [] ∷ step_of Loc (lines.Crash Loc ∷ []) [] ∷ []) (script 1) → ⊥
loc_stopped_when_down h = h.1.0.1.0.1.1.0.0

-- it begins again in the boot that it had
loc_began_in_its_boot : Legal (step_of Loc (lines.Crash Loc ∷ []) [] ∷ step_of Loc (lines.Restart Loc 1 ∷ []) [] ∷ []) (script 1) → ⊥
unfolding moved begin_row client_row server_row back_timeout_row wake_row start_row record_bytes head_form volume_form spelled opaque pad word laid_at led name_ok directory_bytes name_bytes rights_of image acl_text digits acl_entry_text directory_of names_at opaque_at word_at counted_at whole_at count_at name_at spelled_at bytes_below
loc_began_in_its_boot h = let e : 1 < 1 = h.1.0.1.0.1.1.0.1.0.0.0 in absurd (omega arith)

-- it leaps over a boot
loc_boot_leapt : Legal (step_of Loc (lines.Crash Loc ∷ []) [] ∷ step_of Loc (lines.Restart Loc 3 ∷ []) [] ∷ []) (script 1) → ⊥
unfolding moved begin_row client_row server_row back_timeout_row wake_row start_row record_bytes head_form volume_form spelled opaque pad word laid_at led name_ok directory_bytes name_bytes rights_of image acl_text digits acl_entry_text directory_of names_at opaque_at word_at counted_at whole_at count_at name_at spelled_at bytes_below
loc_boot_leapt h = let e : 3 ≤ 2 = h.1.0.1.0.1.1.0.0.0 in absurd (omega arith)

-- it locks a volume that nobody asked it to lock
loc_locked_unasked : Legal (step_of Loc (lines.Locked 9 1 16 ∷ []) [] ∷ []) (script 1) → ⊥
unfolding moved begin_row client_row server_row back_timeout_row wake_row start_row record_bytes head_form volume_form spelled opaque pad word laid_at led name_ok directory_bytes name_bytes rights_of image acl_text digits acl_entry_text directory_of names_at opaque_at word_at counted_at whole_at count_at name_at spelled_at bytes_below
loc_locked_unasked h = elim h.0.1.0.1.1.0.1.0.1 [ inl x ↦ x | inr x ↦ (let e : None ≡ Some (carried.Call x.1.0.user (ask.Location x.0)) = x.1.0.carries in absurd cc) ]

-- it answers what nobody asked
abbrev loc_says_none : Message
loc_says_none = record {
  head = record { half = halves.Reply; from = Loc; to = Client 1; epoch = 1; number = 1; boot = 1; stamp = 0; opcode = 503 };
  carried = carried.Refusal (record { 0 = pos no_entry });
}

loc_spoke_unasked : Legal (step_of Loc [] (loc_says_none ∷ []) ∷ []) (script 1) → ⊥
loc_spoke_unasked h = h.0.1.0.1.1.0.1.1

-- ---- a client asks the location database where its act needs to know a place

abbrev asks_place : Node → ℕ → Fid → Message
asks_place callee opcode f = record {
  head = record { half = halves.Call; from = Client 1; to = callee; epoch = 1; number = 1; boot = 1; stamp = 0; opcode = opcode };
  carried = carried.Call (codes "guest") (ask.Location (questions.GetEntryById f.volume));
}

-- it knows where the volume is
first_within : (c : Node) (e : Entry) (past newer : List Entry) (at : Entry) (older : List Entry) → e ∷ past ≡ newer ++ (at ∷ older) → AreWithin c (newer ++ (at ∷ [])) → has_begun c e.lines ≡ false
first_within c e past [] at older split h = let same : at ≡ e = cc in subst (λ (x : Entry). has_begun c x.lines ≡ false) same h.0
first_within c e past (x ∷ newer) at older split h = let same : x ≡ e = cc in subst (λ (y : Entry). has_begun c y.lines ≡ false) same h.0

no_locate : (o : Operand) → next (began (locations (script 1)) (acts.Open (operands.Fid file))) ≡ locates o → ⊥
no_locate o e = absurd cc

asked_needlessly : Legal (step_of (Client 1) (lines.Begin (Client 1) (acts.Open (operands.Fid file)) ∷ []) (asks_place Loc 503 file ∷ []) ∷ []) (script 1) → ⊥
asked_needlessly h =
    let g = h.0.1.1.1.0.0 in
    elim g.why [
      | inl e ↦ no_locate g.operand (ap next (some_of (began (locations (script 1)) (acts.Open (operands.Fid file))) g.act g.runs) ∙ e)
      | inr q ↦ (let no : true ≡ false = first_within (Client 1) (step_of (Client 1) (lines.Begin (Client 1) (acts.Open (operands.Fid file)) ∷ []) (asks_place Loc 503 file ∷ [])) (set_up_entry (script 1) ∷ []) q.1.0.newer q.1.0.at q.1.0.older q.1.0.split q.1.0.within in absurd cc)
    ]

-- it asks under an opcode of another call
asked_under_another_opcode : Legal (step_of (Client 1) (lines.Begin (Client 1) (acts.Open (operands.Fid unknown)) ∷ []) (asks_place Loc 130 unknown ∷ []) ∷ []) (script 1) → ⊥
asked_under_another_opcode h = let e : 130 ≡ 503 = h.0.1.1.1.0.0.opcode in absurd (omega (arith, e))

-- it asks in a boot of which it knows nothing
abbrev asks_another_boot : Message
asks_another_boot = record (asks_place Loc 503 unknown) { head = record (asks_place Loc 503 unknown).head { boot = 2 } }

asked_in_another_boot : Legal (step_of (Client 1) (lines.Begin (Client 1) (acts.Open (operands.Fid unknown)) ∷ []) (asks_another_boot ∷ []) ∷ []) (script 1) → ⊥
asked_in_another_boot h = elim h.0.1.1.1.0.0.known [
  | inl i ↦ (let e : None ≡ Some i.message = i.given in absurd cc)
  | inr x ↦ elim x.1 [
    | inl y ↦ (let e : 2 ≡ 1 = y.1 in absurd (omega (arith, e)))
    | inr y ↦ elim y.1 [
      | inl i ↦ (let e : None ≡ Some i.act = i.runs in absurd cc)
      | inr z ↦ elim z.1 [ inl v ↦ (let e : 2 ≡ 1 = v.1 in absurd (omega (arith, e))) | inr v ↦ (let e : 2 ≡ 1 = v.1 in absurd (omega (arith, e))) ]
    ]
  ]
]

-- it asks a file server
asked_of_a_server : Legal (step_of (Client 1) (lines.Begin (Client 1) (acts.Open (operands.Fid unknown)) ∷ []) (asks_place (Server 1) 503 unknown ∷ []) ∷ []) (script 1) → ⊥
asked_of_a_server h = not_asked h.0.1.1.1.0.0.to

-- no act runs
asked_while_idle : Legal (step_of (Client 1) (lines.Drop (Client 1) file ∷ []) (asks_place Loc 503 file ∷ []) ∷ []) (script 1) → ⊥
unfolding moved begin_row client_row server_row back_timeout_row wake_row start_row record_bytes head_form volume_form spelled opaque pad word laid_at led name_ok directory_bytes name_bytes rights_of image acl_text digits acl_entry_text directory_of names_at opaque_at word_at counted_at whole_at count_at name_at spelled_at bytes_below
asked_while_idle h = let g = h.0.1.1.1.0.0 in let e : None ≡ Some g.act = g.runs in absurd cc

-- The database tells that it has no such volume. The client doesn't take that; it times what it asked out three times, and gives up
abbrev times_asked : ℕ → Line
times_asked n = lines.Timeout (Client 1) Loc 1 1 n

abbrev told_and_dead : List Entry
told_and_dead =
    step_of (Client 1) (lines.Begin (Client 1) (acts.Open (operands.Fid unknown)) ∷ []) (asks_place Loc 503 unknown ∷ [])
    ∷ step_of Loc (lines.Given 1 ∷ []) (loc_says_none ∷ [])
    ∷ step_of (Client 1) (lines.Given 2 ∷ []) []
    ∷ step_of (Client 1) (times_asked 1 ∷ []) (asks_place Loc 503 unknown ∷ [])
    ∷ step_of (Client 1) (times_asked 2 ∷ []) (asks_place Loc 503 unknown ∷ [])
    ∷ step_of (Client 1) (times_asked 3 ∷ dead_answer ∷ []) [] ∷ []

abbrev told_past : List Entry
told_past = past_of (set_up_entry (script 1) ∷ []) (take 3 told_and_dead)

file_not : (u v : List ℕ) (q : LocCall) (call : FsCall) → carried.Call u (ask.Location q) ≡ carried.Call v (ask.File call) → ⊥
file_not u v q call e = absurd cc

one_question : (u v : List ℕ) (p q : LocCall) → carried.Call u (ask.Location p) ≡ carried.Call v (ask.Location q) → p ≡ q
one_question u v p q e = cc

said_no_call : (user : List ℕ) (call : Call) → loc_says_none.carried ≡ carried.Call user call → ⊥
said_no_call user call e = absurd cc

-- what it asked, under its only key
asked_once : (user : List ℕ) (q : LocCall) → AskedSince (key_of_one 1) user q told_past → questions.GetEntryById 7 ≡ q
asked_once user q (inl x) = absurd x.1
asked_once user q (inr x) = elim x.1 [
  | inl y ↦ elim y.1 [ inl z ↦ absurd (said_no_call user (ask.Location q) z.1) | inr none ↦ absurd none ]
  | inr y ↦ elim y.1 [
    | inl z ↦ elim z.1 [ inl w ↦ one_question _ _ _ _ w.1 | inr none ↦ absurd none ]
    | inr z ↦ (let no_ : true ≡ false = z.0 in absurd cc)
  ]
]

-- and of a file server it asked nothing
none_filed : (user : List ℕ) (call : FsCall) → WasSent Loc (key_of_one 1) user call told_past → ⊥
none_filed user call (inl x) = x
none_filed user call (inr (inl x)) = elim x [ inl z ↦ said_no_call user (ask.File call) z.1.1 | inr none ↦ none ]
none_filed user call (inr (inr (inl x))) = elim x [ inl z ↦ file_not _ _ _ _ z.1.1 | inr none ↦ none ]
none_filed user call (inr (inr (inr x))) = elim x [ inl z ↦ z | inr none ↦ none ]

dead_though_told : Legal told_and_dead (script 1) → ⊥
dead_though_told h = elim h.1.1.1.0.0.0.0.1.sent [
  | inl x ↦ none_filed x.user x.call x.sent
  | inr x ↦ x.unanswered.0 ((tt, refl), (refl, ap (λ (q : LocCall). cell_rows.call_number (ask.Location q)) (asked_once x.user x.call x.asked)))
]

-- The database refuses under the opcode of its other look-up, and the client takes that for its answer
abbrev says_none_by_name : Message
says_none_by_name = record loc_says_none { head = record loc_says_none.head { opcode = 504 } }

abbrev heard_another : List Entry
heard_another =
    step_of (Client 1) (lines.Begin (Client 1) (acts.Open (operands.Fid unknown)) ∷ []) (asks_place Loc 503 unknown ∷ [])
    ∷ step_of Loc (lines.Given 1 ∷ []) (says_none_by_name ∷ [])
    ∷ step_of (Client 1) (lines.Given 2 ∷ lines.Answer (Client 1) (record { 0 = pos no_entry }) ∷ []) [] ∷ []

abbrev another_past : List Entry
another_past = past_of (set_up_entry (script 1) ∷ []) (take 2 heard_another)

needs_no_answer : (n : ℕ) → next opens_unknown ≡ answers n → ⊥
needs_no_answer n e = absurd cc

gives_none_back : next opens_unknown ≡ gives_back → ⊥
gives_none_back e = absurd cc

needs_unknown : (o : Operand) → next opens_unknown ≡ locates o → operands.Fid unknown ≡ o
needs_unknown o e = cc

none_called : (k : Key) (user : List ℕ) (call : FsCall) → CalledSince k user call another_past → ⊥
none_called k user call (inl x) = elim x.1 [ inl z ↦ said_no_call user (ask.File call) z.1 | inr none ↦ none ]
none_called k user call (inr x) = elim x.1 [
  | inl y ↦ elim y.1 [ inl z ↦ file_not _ _ _ _ z.1 | inr none ↦ none ]
  | inr y ↦ elim y.1 [ inl z ↦ z.1 | inr z ↦ z.1 ]
]

-- no entry of the client was given a reply
record RefusedAt (e : Entry) (older : List Entry) : Type 0 where
  actor : e.actor ≡ actors.Node (Client 1)
  reply : Message
  by : given_message e.lines (sent_of older) ≡ Some reply

refused_at : (act : Going) (code : ℤ) (own : List Line) → WasRefused (script 1) (Client 1) act code another_past own → Among RefusedAt another_past
refused_at act code own r = subst (Among RefusedAt) (sym r.split) (is_among RefusedAt r.newer r.at r.older (record { actor = r.actor; reply = r.reply; by = r.by }))

none_refused : Among RefusedAt another_past → ⊥
none_refused (inl x) = let e : actors.Node Loc ≡ actors.Node (Client 1) = x.actor in absurd cc
none_refused (inr (inl x)) = let e : None ≡ Some x.reply = x.by in absurd cc
none_refused (inr (inr (inl x))) = let e : actors.Nobody ≡ actors.Node (Client 1) = x.actor in absurd cc
none_refused (inr (inr (inr x))) = x

heard_under_another_opcode : Legal heard_another (script 1) → ⊥
heard_under_another_opcode h =
    let g = h.1.1.0.0.0.1.0.1 in
    let its : opens_unknown ≡ g.act = some_of opens_unknown g.act g.runs in
    elim g.cause [
      | inl x ↦ none_called (answered_key x.reply.head) x.cause.user x.cause.call x.called
      | inr y ↦ elim y [
        | inl x ↦ needs_no_answer x.number (ap next its ∙ x.by)
        | inr z ↦ elim z [
          | inl x ↦ (let e : pos no_entry ≡ negsuc 0 = x.is in absurd cc)
          | inr u ↦ elim u [
            | inl x ↦ gives_none_back (ap next its ∙ x.by)
            | inr t ↦ elim t [
              | inl x ↦ (let e : 504 ≡ 503 = ap (λ (m : Message). m.head.opcode) (some_of says_none_by_name x.heard.reply x.heard.by) ∙ (x.heard.opcode ∙ ap (λ (o : Operand). cell_rows.call_number (ask.Location (question o))) (sym (needs_unknown x.operand (ap next its ∙ x.needs)))) in absurd (omega (arith, e)))
              | inr v ↦ elim v [ inl x ↦ (let e : pos no_entry ≡ negsuc 0 = x.is in absurd cc) | inr x ↦ none_refused (refused_at g.act x.left (lines.Given 2 ∷ []) x.refused) ]
            ]
          ]
        ]
      ]
    ]

-- ---- what the location database does with locks and places, a call asked for

-- it locks a volume where it was asked for an entry
abbrev locked_behind_a_lookup : List Entry
locked_behind_a_lookup =
    step_of (Client 1) (lines.Begin (Client 1) (acts.Open (operands.Fid unknown)) ∷ []) (asks_place Loc 503 unknown ∷ [])
    ∷ step_of Loc (lines.Given 1 ∷ lines.Locked 7 1 16 ∷ []) [] ∷ []

lookup_locks_not : (q : LocCall) (v operation : ℕ) → questions.GetEntryById 7 ≡ q → MayLock q v operation → ⊥
lookup_locks_not q v operation e h = subst (λ (p : LocCall). MayLock p v operation) (sym e) h

loc_locked_for_a_lookup : Legal locked_behind_a_lookup (script 1) → ⊥
unfolding moved begin_row client_row server_row back_timeout_row wake_row start_row record_bytes head_form volume_form spelled opaque pad word laid_at led name_ok directory_bytes name_bytes rights_of image acl_text digits acl_entry_text directory_of names_at opaque_at word_at counted_at whole_at count_at name_at spelled_at bytes_below
loc_locked_for_a_lookup h = elim h.1.0.1.0.1.1.0.1.0.1 [
  | inl x ↦ x
  | inr x ↦ lookup_locks_not x.0 7 16 (one_question _ _ _ _ (some_of _ _ x.1.0.carries)) x.1.1.0.0
]

-- it stops while it does nothing, and its restart tells of a place that nobody asked for
abbrev placed_by_a_restart : List Entry
placed_by_a_restart = step_of Loc (lines.Crash Loc ∷ []) [] ∷ step_of Loc (lines.Located 7 (Server 1) ∷ lines.Restart Loc 2 ∷ []) [] ∷ []

abbrev RanInLoc : Entry → List Entry → Type 0
RanInLoc e older = (call : LocCall) × ((e.actor ≡ actors.Node Loc) × RunsInLoc call older e.lines)

none_ran_in_loc : Among RanInLoc (past_of (set_up_entry (script 1) ∷ []) (take 1 placed_by_a_restart)) → ⊥
none_ran_in_loc (inl x) = let e : None ≡ Some (carried.Call x.1.1.user (ask.Location x.0)) = x.1.1.carries in absurd cc
none_ran_in_loc (inr (inl x)) = let e : actors.Nobody ≡ actors.Node Loc = x.1.0 in absurd cc
none_ran_in_loc (inr (inr x)) = x

loc_placed_unasked : Legal placed_by_a_restart (script 1) → ⊥
unfolding moved begin_row client_row server_row back_timeout_row wake_row start_row record_bytes head_form volume_form spelled opaque pad word laid_at led name_ok directory_bytes name_bytes rights_of image acl_text digits acl_entry_text directory_of names_at opaque_at word_at counted_at whole_at count_at name_at spelled_at bytes_below
loc_placed_unasked h = elim h.1.0.1.0.1.1.0.1.0.1 [
  | inl x ↦ x
  | inr x ↦ none_ran_in_loc (subst (Among RanInLoc) (sym x.1.0.split) (is_among RanInLoc x.1.0.newer x.1.0.at x.1.0.older (x.0, (x.1.0.actor, x.1.0.runs))))
]

-- it answers in the name of a boot that it never had
abbrev says_none_of_another_boot : Message
says_none_of_another_boot = record loc_says_none { head = record loc_says_none.head { boot = 7 } }

abbrev answered_in_a_boot : List Entry
answered_in_a_boot =
    step_of (Client 1) (lines.Begin (Client 1) (acts.Open (operands.Fid unknown)) ∷ []) (asks_place Loc 503 unknown ∷ [])
    ∷ step_of Loc (lines.Given 1 ∷ []) (says_none_of_another_boot ∷ []) ∷ []

loc_answered_of_another_boot : Legal answered_in_a_boot (script 1) → ⊥
unfolding moved begin_row client_row server_row back_timeout_row wake_row start_row record_bytes head_form volume_form spelled opaque pad word laid_at led name_ok directory_bytes name_bytes rights_of image acl_text digits acl_entry_text directory_of names_at opaque_at word_at counted_at whole_at count_at name_at spelled_at bytes_below
loc_answered_of_another_boot h = elim h.1.0.1.0.1.1.0.1.1.1.1 [ inl x ↦ (let e : Some 1 ≡ Some 7 = x in let no_ : 1 ≡ 7 = some_of 1 7 e in absurd (omega (arith, no_))) | inr x ↦ (let e : 1 ≡ 7 = sym x.0 in absurd (omega (arith, e))) ]

-- ---- a script has no act of an administrator, and no client compares the releases of copies

begun_for_an_administrator : Legal (step_of (Client 1) (lines.BeginAdmin (Admin 1) (admin_acts.Backup (codes "proj")) ∷ []) [] ∷ []) (script 1) → ⊥
begun_for_an_administrator h = h.0.0.0.0

stuck_for_an_administrator : Legal (step_of (Client 1) (lines.Stuck (Admin 1) (record { 0 = pos 103 }) ∷ []) [] ∷ []) (script 1) → ⊥
stuck_for_an_administrator h = h.0.0.0.0

dumped_for_an_administrator : Legal (step_of (Client 1) (lines.Dumped (Admin 1) (codes "d1") 280 ∷ []) [] ∷ []) (script 1) → ⊥
dumped_for_an_administrator h = h.0.0.0.0

offered_an_older_release : Legal (step_of (Client 1) (lines.Older (Client 1) 1 2 ∷ []) [] ∷ []) (script 1) → ⊥
offered_an_older_release h = h.0.0.0.0
