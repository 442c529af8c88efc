use Rattle.spec_rows.specs.LocSteps.{loc_row, loc_start_row}
use Rattle.spec_history.specs.declared.acts.Operand.{Operand}
use Rattle.spec_history.specs.declared.acts.Act.{Act}
use Rattle.afs_num.specs.declared.types.Head.{Head}
use Rattle.spec_records.specs.Records.{record_bytes, head_form, volume_form}
use Rattle.spec_rows.specs.ServerSteps.{server_row, back_timeout_row, wake_row, start_row}
use Rattle.spec_history.specs.declared.acts.Act.{Act}
use Rattle.spec_history.specs.declared.acts.Act.TheVariants as acts
use Rattle.spec_history.specs.declared.acts.Operand.TheVariants as operands
use Rattle.spec_history.specs.declared.acts.Written.TheVariants.{Hex}
use Rattle.spec_history.specs.declared.lines.Line.{Line}
use Rattle.spec_history.specs.declared.lines.Line.TheVariants as lines
use Rattle.spec_ideal.specs.AccessLists.{rights_of, acl_text, acl_entry_text}
use Rattle.spec_ideal.specs.Directories.{directory_bytes, name_bytes, directory_of, names_at, whole_at, count_at, name_at, spelled_at, bytes_below}
use Rattle.spec_ideal.specs.SetUp.{laid_at, led, nothing_set}
use Rattle.spec_ideal.specs.VnodeImage.{image}
use Rattle.law_legal.proofs.BaseLaws.{some_of}
use Rattle.afs_num.specs.declared.histories.Actor.{Actor}
use Rattle.afs_num.specs.declared.types.Node.{Node}
use Rattle.law_legal.proofs.Worked.{apart_numbers, home, by_lines, stores, alters, answer, begun, entries, file, root, script}
use Rattle.law_legal.specs.Breaks.{IsNamedIn}
use Rattle.law_legal.specs.Legal.{IsPromisedBy, IsGivenBack, Legal, ideal_answer}
use Rattle.spec_model.specs.Messages.{spelled}
use Rattle.afs_num.specs.Names.{name_ok}
use Rattle.afs_num.specs.declared.types.Fid.{Fid}
use Rattle.spec_rows.specs.ClientRow.{begin_row, client_row}
use Rattle.spec_rows.specs.Going.{Going, began, answers, next, no_entry, locates}
use Rattle.spec_rows.specs.Runs.{Entry, Input, begins, comes_up, gives, locations, moved, nothing, server_waits, start, starts_again, steady, stops, waits}
use Rattle.afs_xdr.specs.Words.{opaque, pad, word, opaque_at, word_at, counted_at}
use Rattle.law_legal.specs.Ideal.{set_up_entry}
use Rattle.law_legal.specs.Once.{past_of}
use Rattle.law_legal.specs.Past.{has_begun, server_boot, Ran, given_message, lines_of, sent_of}
use Rattle.afs_num.specs.declared.calls.AfsCallBack.{AfsCallBack}
use Rattle.afs_num.specs.declared.calls.FsCall.{FsCall}
use Rattle.afs_num.specs.declared.calls.FsCall.TheVariants as calls
use Rattle.afs_num.specs.declared.histories.Actor.TheVariants as actors
use Rattle.afs_num.specs.declared.messages.Call.TheVariants as ask
use Rattle.afs_num.specs.declared.types.Half.TheVariants as halves
use Rattle.afs_num.specs.declared.histories.Body.TheVariants as bodies
use Rattle.afs_num.specs.declared.histories.ReadBody.TheVariants as seen
use Rattle.afs_num.specs.declared.histories.ReadSource.TheVariants.{Cached, Fetched}
use Rattle.afs_num.specs.declared.messages.Carried.TheVariants as carried
use Rattle.afs_num.specs.declared.messages.Reply.TheVariants as tell
use Rattle.afs_num.specs.declared.calls.FsReply.TheVariants as replies
use Rattle.afs_num.specs.declared.messages.Message.{Message}
use Rattle.afs_num.specs.declared.types.Node.TheVariants.{Client, Server, Loc}
use Rattle.std.proofs.Common.{arith, ◌<◌, ◌≤◌, ◌≡◌, ◌∙◌, true, false, ℕ, ℤ, List, [], ◌∷◌, ◌++◌, ◌⊎◌, None, Some, ap, sym, subst, refl, inl, inr, negsuc, pos}
use Rattle.std.specs.Fmt.{digits}
use Rattle.std.specs.Prelude.{codes, drop, map, take}
use Rattle.law_legal.proofs.WrongAnswers.{Among, NeverTo, again_front, fetch_front, gift_answer, head_of_one, instead, is_among, key_of_one, never_to, one_call, one_server, one_user, reply_to_one, restarted, sent_by, shown, step_of, to_boot_two, two_clients}

-- ---- a server that is in one boot answers a call to another

-- what its reply says of the entry that ran it
record RanInOne (e : Entry) (older : List Entry) : Type 0 where
  message : Message
  given : given_message e.lines (sent_of older) ≡ Some message
  up : server_boot (Server 1) (lines_of older) ≡ Some 1

ran_in_one : (past : List Entry) → Ran head_of_one past → Among RanInOne past
ran_in_one past r = subst (Among RanInOne) (sym r.split) (is_among RanInOne r.newer r.at r.older (record { message = r.message; given = r.given; up = r.up }))

in_one_none : (e : Entry) (older : List Entry) → given_message e.lines (sent_of older) ≡ None → RanInOne e older → ⊥
in_one_none e older none x = let no_ : None ≡ Some x.message = sym none ∙ x.given in absurd cc

was_in_two : (e : Entry) (older : List Entry) → server_boot (Server 1) (lines_of older) ≡ Some 2 → RanInOne e older → ⊥
was_in_two e older two x = let no_ : 2 ≡ 1 = some_of 2 1 (sym two ∙ x.up) in absurd (omega (arith, no_))

answered_in_another_boot : Legal (entries (start (script 1)) (restarted ++ begins 1 (acts.Open (operands.Fid file)) ∷ []) ++ step_of (Server 1) (lines.Given 2 ∷ []) reply_to_one ∷ []) (script 1) → ⊥
unfolding moved begin_row client_row server_row back_timeout_row wake_row start_row record_bytes head_form volume_form spelled opaque pad word laid_at led name_ok directory_bytes name_bytes rights_of image acl_text digits acl_entry_text directory_of names_at opaque_at word_at counted_at whole_at count_at name_at spelled_at bytes_below
answered_in_another_boot h =
    elim (ran_in_one _ (h.1.1.1.0.1.1.0.0 1 1 (refl, tt) refl refl).ran) [
      | inl x ↦ was_in_two _ _ refl x
      | inr y ↦ elim y [
        | inl x ↦ in_one_none _ _ refl x
        | inr z ↦ elim z [
          | inl x ↦ in_one_none _ _ refl x
          | inr w ↦ elim w [ inl x ↦ in_one_none _ _ refl x | inr v ↦ elim v [ inl x ↦ in_one_none _ _ refl x | inr u ↦ u ] ]
        ]
      ]
    ]

-- A client gives a promise back by a call that is late: the server began again meanwhile, and the client was promised the file anew.
-- The server takes the call for its own boot, forgets the new promise, and the store behind that owes nothing
abbrev late_gift_front : List Input
late_gift_front = begins 1 (acts.Open (operands.Fid file)) ∷ gives 1 steady ∷ gives 2 steady ∷ begins 1 acts.GiveUp ∷ waits 1 ∷ waits 1 ∷ waits 1 ∷ stops 1 ∷ starts_again 1 false comes_up ∷ gives 6 steady ∷ gives 8 steady ∷ gives 7 steady ∷ gives 9 steady ∷ []

-- what the client sends and is sent behind the restart
abbrev asked_anew : List Message → List Message
asked_anew ms = map (λ (m : Message). record m { head = record m.head { number = 3; boot = 2 } }) ms

abbrev late_gift_rest : List Entry
late_gift_rest =
    step_of (Client 1) (begun 1 ∷ []) (asked_anew (sent_by (start (script 2)) (begins 1 (acts.Open (operands.Fid file)) ∷ [])))
    ∷ step_of (Server 1) (lines.Given 10 ∷ lines.Grant (Server 1) (Client 1) file 1 7200 ∷ []) (asked_anew (sent_by (start (script 2)) (begins 1 (acts.Open (operands.Fid file)) ∷ gives 1 steady ∷ [])))
    ∷ step_of (Client 1) (lines.Given 11 ∷ shown Fetched ∷ answer 1 ∷ []) []
    ∷ step_of (Server 1) (lines.Given 3 ∷ []) (gift_answer ∷ [])
    ∷ to_boot_two (step_of (Client 2) (stores 2 ∷ []) (sent_by (start (script 2)) (begins 2 (acts.Close (operands.Fid file) (Hex (codes "def"))) ∷ [])))
    ∷ step_of (Server 1) (lines.Given 13 ∷ lines.Change (Server 1) (record { node = Client 2; epoch = 1; number = 1 }) 1 ∷ lines.Version (record { fid = file; index = 2; data_version = 2; body = bodies.File (codes "def") }) ∷ []) [] ∷ []

given_back_late : Legal (entries (start (script 2)) late_gift_front ++ late_gift_rest) (script 2) → ⊥
unfolding moved begin_row client_row server_row back_timeout_row wake_row start_row record_bytes head_form volume_form spelled opaque pad word laid_at led name_ok directory_bytes name_bytes rights_of image acl_text digits acl_entry_text directory_of names_at opaque_at word_at counted_at whole_at count_at name_at spelled_at bytes_below
given_back_late h = h.1.1.1.1.1.1.1.1.1.1.1.1.1.1.1.1.1.1.0.0.0.1.0.1.owed 1 file 7200 (λ e. absurd cc) (inl refl) refl (omega arith)

-- ---- the second of two acts that ask the same sends its call under the key of the first, whose reply would answer it

abbrev twice_front : List Input
twice_front = begins 1 (acts.Close (operands.Fid file) (Hex (codes "def"))) ∷ gives 1 steady ∷ gives 2 steady ∷ begins 1 (acts.Close (operands.Fid file) (Hex (codes "def"))) ∷ []

abbrev under_the_old_key : Entry → Entry
under_the_old_key e = record e { sent = map (λ (m : Message). record m { head = record m.head { number = 1 } }) e.sent }

asked_under_an_old_key : Legal (alters 3 under_the_old_key (entries (start (script 1)) twice_front)) (script 1) → ⊥
unfolding moved begin_row client_row server_row back_timeout_row wake_row start_row record_bytes head_form volume_form spelled opaque pad word laid_at led name_ok directory_bytes name_bytes rights_of image acl_text digits acl_entry_text directory_of names_at opaque_at word_at counted_at whole_at count_at name_at spelled_at bytes_below
asked_under_an_old_key h = let e : false ≡ true = h.1.1.1.0.0.1.0.key in absurd cc

-- ---- a client sends a call in another's name, which asks just this

abbrev in_the_name_of_two : Entry → Entry
in_the_name_of_two e = record e { sent = map (λ (m : Message). record m { head = record m.head { from = Client 2 } }) e.sent }

sent_in_another_name : Legal (alters 1 in_the_name_of_two (entries (start (script 2)) (begins 2 (acts.Open (operands.Fid file)) ∷ begins 1 (acts.Open (operands.Fid file)) ∷ []))) (script 2) → ⊥
unfolding moved begin_row client_row server_row back_timeout_row wake_row start_row record_bytes head_form volume_form spelled opaque pad word laid_at led name_ok directory_bytes name_bytes rights_of image acl_text digits acl_entry_text directory_of names_at opaque_at word_at counted_at whole_at count_at name_at spelled_at bytes_below
sent_in_another_name h = let e : actors.Node (Client 1) ≡ actors.Node (Client 2) = h.1.0.0.1.0.sender in absurd cc

-- ---- a call is dead at its third timeout

pub dead_elsewhere : (left : ℤ) → (left ≡ pos 103) ⊎ (left ≡ pos 111) → (negsuc 0 ≡ left) ⊎ (negsuc 0 ≡ pos no_entry) → ⊥
dead_elsewhere left (inl g) (inl e) = let z : negsuc 0 ≡ pos 103 = e ∙ g in absurd cc
dead_elsewhere left (inr g) (inl e) = let z : negsuc 0 ≡ pos 111 = e ∙ g in absurd cc
dead_elsewhere left g (inr e) = absurd cc

dead_at_once : Legal (alters 1 (instead (lines.Timeout (Client 1) (Server 1) 1 1 3 ∷ lines.Answer (Client 1) (record { 0 = negsuc 0 }) ∷ [])) (entries (start (script 1)) (begins 1 (acts.Open (operands.Fid file)) ∷ waits 1 ∷ []))) (script 1) → ⊥
unfolding moved begin_row client_row server_row back_timeout_row wake_row start_row record_bytes head_form volume_form spelled opaque pad word laid_at led name_ok directory_bytes name_bytes rights_of image acl_text digits acl_entry_text directory_of names_at opaque_at word_at counted_at whole_at count_at name_at spelled_at bytes_below
dead_at_once h = elim h.1.0.0.0.0.1.below [ inl x ↦ let e : 3 ≡ 1 = x in absurd (omega (arith, e)) | inr x ↦ x.1.1 ]

-- ---- what the location database didn't tell

abbrev nowhere : Act
nowhere = acts.Open (operands.Path (record { volume = codes "nowhere"; names = codes "x" ∷ [] }))

no_place : (o : Operand) (n : ℕ) → locates o ≡ answers n → ⊥
no_place o n e = absurd cc

answered_unheard : Legal (alters 1 (instead (lines.Answer (Client 1) (record { 0 = pos no_entry }) ∷ [])) (entries (start (script 1)) (begins 1 nowhere ∷ waits 1 ∷ []))) (script 1) → ⊥
unfolding moved begin_row client_row server_row back_timeout_row wake_row start_row loc_row loc_start_row record_bytes head_form volume_form spelled opaque pad word laid_at led name_ok directory_bytes name_bytes rights_of image acl_text digits acl_entry_text directory_of names_at opaque_at word_at counted_at whole_at count_at name_at spelled_at bytes_below
answered_unheard h =
    let g = h.1.0.0.0.0.1 in
    elim g.cause [
      | inl x ↦ let e : None ≡ Some x.reply = x.by in absurd cc
      | inr y ↦ elim y [
        | inl x ↦ no_place _ x.number (ap next (some_of _ _ g.runs) ∙ x.by)
        | inr z ↦ elim z [
          | inl x ↦ let e : pos no_entry ≡ negsuc 0 = x.is in absurd cc
          | inr u ↦ elim u [
            | inl x ↦ (let e : true ≡ false = sym (x.begun) ∙ refl in absurd cc)
            | inr t ↦ elim t [
              | inl x ↦ (let e : None ≡ Some x.heard.reply = x.heard.by in absurd cc)
              | inr v ↦ elim v [ inl x ↦ (let e : pos no_entry ≡ negsuc 0 = x.is in absurd cc) | inr x ↦ (let e : None ≡ Some x.heard.reply = x.heard.by in absurd cc) ]
            ]
          ]
        ]
      ]
    ]

located_by_a_server : Legal (alters 1 (instead (lines.Located home (Server 2) ∷ [])) (entries (start (script 1)) (begins 1 (acts.Open (operands.Fid file)) ∷ gives 1 steady ∷ []))) (script 1) → ⊥
unfolding moved begin_row client_row server_row back_timeout_row wake_row start_row loc_row loc_start_row record_bytes head_form volume_form spelled opaque pad word laid_at led name_ok directory_bytes name_bytes rights_of image acl_text digits acl_entry_text directory_of names_at opaque_at word_at counted_at whole_at count_at name_at spelled_at bytes_below
located_by_a_server h = let e : actors.Node (Server 1) ≡ actors.Node Loc = h.1.0.0.0.0 in absurd cc

-- nothing else is told where its disk is set
stopped_with_more : Legal (alters 1 (instead (lines.Stop Loc 1 0 ∷ lines.Crash Loc ∷ [])) (entries (start (script 1)) (nothing ∷ stops 0 ∷ []))) (script 1) → ⊥
unfolding moved begin_row client_row server_row back_timeout_row wake_row start_row record_bytes head_form volume_form spelled opaque pad word laid_at led name_ok directory_bytes name_bytes rights_of image acl_text digits acl_entry_text directory_of names_at opaque_at word_at counted_at whole_at count_at name_at spelled_at bytes_below
stopped_with_more h = let e : lines.Crash Loc ∷ [] ≡ [] = h.1.0.0.0.0.1.1 in absurd cc

-- ---- who promises

-- a client grants itself what it likes
granted_by_a_client : Legal (alters 0 (instead (begun 1 ∷ lines.Grant (Client 1) (Client 1) file 1 7200 ∷ [])) (entries (start (script 1)) (begins 1 (acts.Open (operands.Fid file)) ∷ []))) (script 1) → ⊥
unfolding moved begin_row client_row server_row back_timeout_row wake_row start_row record_bytes head_form volume_form spelled opaque pad word laid_at led name_ok directory_bytes name_bytes rights_of image acl_text digits acl_entry_text directory_of names_at opaque_at word_at counted_at whole_at count_at name_at spelled_at bytes_below
granted_by_a_client h = h.0.0.0.1.0.0

-- a client asks another server than that of the volume, which grants, and a read rests on that
abbrev by_two : Node → Node
by_two (Server n) = Server 2
by_two n = n

abbrev line_by_two : Line → Line
line_by_two (lines.Grant q c f i x) = lines.Grant (by_two q) c f i x
line_by_two l = l

abbrev message_by_two : Message → Message
message_by_two m = record m { head = record m.head { from = by_two m.head.from; to = by_two m.head.to } }

abbrev actor_by_two : Actor → Actor
actor_by_two (actors.Node n) = actors.Node (by_two n)
actor_by_two a = a

abbrev entry_by_two : Entry → Entry
entry_by_two e = record e { actor = actor_by_two e.actor; lines = map line_by_two e.lines; sent = map message_by_two e.sent }

granted_by_another_server : Legal (map entry_by_two (entries (start (script 1)) (begins 1 (acts.Open (operands.Fid file)) ∷ gives 1 steady ∷ gives 2 steady ∷ []))) (script 1) → ⊥
unfolding moved begin_row client_row server_row back_timeout_row wake_row start_row record_bytes head_form volume_form spelled opaque pad word laid_at led name_ok directory_bytes name_bytes rights_of image acl_text digits acl_entry_text directory_of names_at opaque_at word_at counted_at whole_at count_at name_at spelled_at bytes_below
granted_by_another_server h = elim (h.0.1.1.1.0.0.home file.volume refl) [ inl x ↦ one_server x.1.1 | inr x ↦ x ]

-- ---- rights are read by an act that needs them, of a reply to its call

abbrev rights : Line
rights = lines.Read (Client 1) root 1 Fetched (seen.AccessList (codes "1\n0\nsystem:anyuser\t127\n"))

rights_without_an_act : Legal (alters 0 (λ e. record e { actor = actors.Node (Client 1); lines = rights ∷ [] }) (entries (start (script 1)) (nothing ∷ []))) (script 1) → ⊥
unfolding moved begin_row client_row server_row back_timeout_row wake_row start_row record_bytes head_form volume_form spelled opaque pad word laid_at led name_ok directory_bytes name_bytes rights_of image acl_text digits acl_entry_text directory_of names_at opaque_at word_at counted_at whole_at count_at name_at spelled_at bytes_below
rights_without_an_act h = let e : None ≡ Some h.0.0.0.0.0.1.act = h.0.0.0.0.0.1.runs in absurd cc

rights_without_a_reply : Legal (alters 0 (instead (lines.Begin (Client 1) (acts.GetAccessList (operands.Fid root)) ∷ rights ∷ [])) (entries (start (script 1)) (begins 1 (acts.GetAccessList (operands.Fid root)) ∷ []))) (script 1) → ⊥
unfolding moved begin_row client_row server_row back_timeout_row wake_row start_row record_bytes head_form volume_form spelled opaque pad word laid_at led name_ok directory_bytes name_bytes rights_of image acl_text digits acl_entry_text directory_of names_at opaque_at word_at counted_at whole_at count_at name_at spelled_at bytes_below
rights_without_a_reply h = let e : true ≡ false = h.0.0.0.1.0.1.used.before in absurd cc

-- ---- what is gone shows nothing

abbrev gone_front : List Input
gone_front = begins 1 (acts.Open (operands.Fid file)) ∷ gives 1 steady ∷ gives 2 steady ∷ begins 2 (acts.Remove (record { volume = codes "proj"; names = codes "a" ∷ [] })) ∷ gives 3 steady ∷ gives 4 steady ∷ gives 5 steady ∷ begins 1 (acts.ReadLink (operands.Fid file)) ∷ []

read_when_gone : Legal (alters 7 (instead (lines.Begin (Client 1) (acts.ReadLink (operands.Fid file)) ∷ lines.Read (Client 1) file 2 Cached (seen.Contents bodies.Gone) ∷ answer 1 ∷ [])) (entries (start (script 2)) gone_front)) (script 2) → ⊥
unfolding moved begin_row client_row server_row back_timeout_row wake_row start_row record_bytes head_form volume_form spelled opaque pad word laid_at led name_ok directory_bytes name_bytes rights_of image acl_text digits acl_entry_text directory_of names_at opaque_at word_at counted_at whole_at count_at name_at spelled_at bytes_below
read_when_gone h = h.1.1.1.1.1.1.1.0.0.0.1.0.1.0.whole.0

-- ---- what is given back was dropped

-- a client tells its server that it gives a promise back, and goes on holding what it was promised
gave_back_and_kept : Legal (alters 3 (λ e. record e { lines = lines.Begin (Client 1) acts.GiveUp ∷ [] }) (entries (start (script 1)) (begins 1 (acts.Open (operands.Fid file)) ∷ gives 1 steady ∷ gives 2 steady ∷ begins 1 acts.GiveUp ∷ []))) (script 1) → ⊥
unfolding moved begin_row client_row server_row back_timeout_row wake_row start_row record_bytes head_form volume_form spelled opaque pad word laid_at led name_ok directory_bytes name_bytes rights_of image acl_text digits acl_entry_text directory_of names_at opaque_at word_at counted_at whole_at count_at name_at spelled_at bytes_below
gave_back_and_kept h = h.1.1.1.0.0.1.0.gift.0

-- a client drops a file, fetches it anew, and gives back what it was promised by that: it would be owed nothing, and show it for long
abbrev pub open_front : List Input
open_front = begins 1 (acts.Open (operands.Fid file)) ∷ gives 1 steady ∷ gives 2 steady ∷ []

abbrev pub gift : Message
gift = record { head = record { half = halves.Call; from = Client 1; to = Server 1; epoch = 1; number = 2; boot = 1; stamp = 0; opcode = 147 }; carried = carried.Call (codes "guest") (ask.File (calls.GiveUpCallBacks (file ∷ []) [])) }

-- (no act asks for that call either)
gave_back_what_is_new : Legal (alters 0 (λ e. record e { lines = begun 1 ∷ lines.Drop (Client 1) file ∷ [] }) (alters 2 (λ e. record e { lines = lines.Given 2 ∷ shown Fetched ∷ []; sent = gift ∷ [] }) (entries (start (script 1)) open_front))) (script 1) → ⊥
unfolding moved begin_row client_row server_row back_timeout_row wake_row start_row record_bytes head_form volume_form spelled opaque pad word laid_at led name_ok directory_bytes name_bytes rights_of image acl_text digits acl_entry_text directory_of names_at opaque_at word_at counted_at whole_at count_at name_at spelled_at bytes_below
gave_back_what_is_new h = h.1.1.0.0.1.0.gift.0

-- ---- an entry is given one message

not_none : (l : Line) (ls : List Line) → l ∷ ls ≡ [] → ⊥
not_none l ls e = absurd cc

given_two : Legal (alters 2 (instead (lines.Given 2 ∷ lines.Given 2 ∷ [])) (entries (start (script 1)) (begins 1 (acts.Open (operands.Fid file)) ∷ gives 1 steady ∷ gives 2 steady ∷ []))) (script 1) → ⊥
unfolding moved begin_row client_row server_row back_timeout_row wake_row start_row record_bytes head_form volume_form spelled opaque pad word laid_at led name_ok directory_bytes name_bytes rights_of image acl_text digits acl_entry_text directory_of names_at opaque_at word_at counted_at whole_at count_at name_at spelled_at bytes_below
given_two h = not_none _ _ h.1.1.0.0.0.1.0

-- and begins nothing before
given_behind_a_begin : Legal (alters 3 (instead (begun 1 ∷ lines.Given 2 ∷ [])) (entries (start (script 1)) again_front)) (script 1) → ⊥
unfolding moved begin_row client_row server_row back_timeout_row wake_row start_row record_bytes head_form volume_form spelled opaque pad word laid_at led name_ok directory_bytes name_bytes rights_of image acl_text digits acl_entry_text directory_of names_at opaque_at word_at counted_at whole_at count_at name_at spelled_at bytes_below
given_behind_a_begin h = not_none _ _ h.1.1.1.0.0.0.1.0

-- a stop is set in the step that answers a call
abbrev sets_a_stop_too : Entry → Entry
sets_a_stop_too e = record e { lines = e.lines ++ lines.Stop (Server 1) 0 0 ∷ [] }

set_beside_another : Legal (alters 1 sets_a_stop_too (entries (start (script 1)) fetch_front)) (script 1) → ⊥
unfolding moved begin_row client_row server_row back_timeout_row wake_row start_row record_bytes head_form volume_form spelled opaque pad word laid_at led name_ok directory_bytes name_bytes rights_of image acl_text digits acl_entry_text directory_of names_at opaque_at word_at counted_at whole_at count_at name_at spelled_at bytes_below
set_beside_another h = not_none _ _ h.1.0.0.0.1.1.0.1.0

-- ---- whose an entry is, and which boot a server begins

-- a client acts that the script doesn't have
acted_by_a_stranger : Legal (entries (start (script 2)) (begins 2 (acts.Open (operands.Fid file)) ∷ [])) (script 1) → ⊥
unfolding moved begin_row client_row server_row back_timeout_row wake_row start_row record_bytes head_form volume_form spelled opaque pad word laid_at led name_ok directory_bytes name_bytes rights_of image acl_text digits acl_entry_text directory_of names_at opaque_at word_at counted_at whole_at count_at name_at spelled_at bytes_below
acted_by_a_stranger h = let e : 2 ≤ 1 = h.0.1.0.0.1.1 in absurd (omega arith)

-- a server that stopped begins the boot in which it was: a call from before the stop would run again
abbrev in_boot_one : Line → Line
in_boot_one (lines.Restart n boot) = lines.Restart n 1
in_boot_one l = l

begun_in_the_old_boot : Legal (alters 1 (by_lines in_boot_one) (entries (start (script 1)) (stops 1 ∷ starts_again 1 false comes_up ∷ []))) (script 1) → ⊥
unfolding moved begin_row client_row server_row back_timeout_row wake_row start_row record_bytes head_form volume_form spelled opaque pad word laid_at led name_ok directory_bytes name_bytes rights_of image acl_text digits acl_entry_text directory_of names_at opaque_at word_at counted_at whole_at count_at name_at spelled_at bytes_below
begun_in_the_old_boot h = let e : 1 < 1 = h.1.0.1.0.1.0.0.1 in absurd (omega arith)

-- ---- an act changes things once, were it long over

-- an act sends two calls, and is over before the server runs either: it runs both
abbrev pub asked_anew_as_two : Entry → Entry
asked_anew_as_two e = record e { sent = map (λ (m : Message). record m { head = record m.head { number = 2 } }) e.sent }

abbrev pub changed_as : ℕ → ℕ → Entry
changed_as n index = step_of (Server 1) (lines.Given n ∷ lines.Change (Server 1) (key_of_one n) 1 ∷ lines.Version (record { fid = file; index = index; data_version = index; body = bodies.File (codes "def") }) ∷ []) []

abbrev changes_twice : List Entry
changes_twice = alters 1 asked_anew_as_two (alters 2 asked_anew_as_two (entries (start (script 1)) (begins 1 (acts.Close (operands.Fid file) (Hex (codes "def"))) ∷ waits 1 ∷ waits 1 ∷ waits 1 ∷ []))) ++ changed_as 1 2 ∷ changed_as 2 3 ∷ []

changed_twice : Legal changes_twice (script 1) → ⊥
unfolding moved begin_row client_row server_row back_timeout_row wake_row start_row record_bytes head_form volume_form spelled opaque pad word laid_at led name_ok directory_bytes name_bytes rights_of image acl_text digits acl_entry_text directory_of names_at opaque_at word_at counted_at whole_at count_at name_at spelled_at bytes_below
changed_twice h = h.1.1.1.1.1.0.0.0.1.0.1.alone (past_of [] (drop 2 (take 5 changes_twice))) (past_of (set_up_entry (script 1) ∷ []) (take 2 changes_twice)) refl refl (key_of_one 1) (inl refl) refl

-- ---- an act begins first in its entry, while none runs

-- a client begins an act while another runs, which would never be answered
begun_while_one_runs : Legal (entries (start (script 1)) (begins 1 (acts.Open (operands.Fid file)) ∷ []) ++ step_of (Client 1) (stores 1 ∷ []) [] ∷ []) (script 1) → ⊥
unfolding moved begin_row client_row server_row back_timeout_row wake_row start_row record_bytes head_form volume_form spelled opaque pad word laid_at led name_ok directory_bytes name_bytes rights_of image acl_text digits acl_entry_text directory_of names_at opaque_at word_at counted_at whole_at count_at name_at spelled_at bytes_below
begun_while_one_runs h = let e : Some (began (locations (script 1)) (acts.Open (operands.Fid file))) ≡ None = h.1.0.0.0.0.1.1 in absurd cc

-- an idle client is given a reply once more, and begins an act in that step
begun_behind_a_message : Legal (alters 3 (instead (lines.Given 2 ∷ begun 1 ∷ [])) (entries (start (script 1)) (open_front ++ gives 2 steady ∷ []))) (script 1) → ⊥
unfolding moved begin_row client_row server_row back_timeout_row wake_row start_row record_bytes head_form volume_form spelled opaque pad word laid_at led name_ok directory_bytes name_bytes rights_of image acl_text digits acl_entry_text directory_of names_at opaque_at word_at counted_at whole_at count_at name_at spelled_at bytes_below
begun_behind_a_message h = let e : lines.Given 2 ∷ [] ≡ [] = h.1.1.1.0.0.0.1.0.1.0 in absurd cc

-- ---- a step that times a call out is given no message

timed_out_beside_a_reply : Legal (alters 2 (instead (lines.Given 2 ∷ lines.Timeout (Client 1) (Server 1) 1 1 1 ∷ [])) (entries (start (script 1)) open_front)) (script 1) → ⊥
unfolding moved begin_row client_row server_row back_timeout_row wake_row start_row record_bytes head_form volume_form spelled opaque pad word laid_at led name_ok directory_bytes name_bytes rights_of image acl_text digits acl_entry_text directory_of names_at opaque_at word_at counted_at whole_at count_at name_at spelled_at bytes_below
timed_out_beside_a_reply h = let e : true ≡ false = h.1.1.0.0.0.1.0.0.1.0.0 in absurd cc

-- ---- a server that is up begins again

abbrev begins_again : Entry
begins_again = step_of (Server 1) (lines.Restart (Server 1) 2 ∷ lines.Owe (Server 1) (Client 1) None 1 ∷ []) []

begun_when_up : Legal (begins_again ∷ []) (script 1) → ⊥
unfolding moved begin_row client_row server_row back_timeout_row wake_row start_row record_bytes head_form volume_form spelled opaque pad word laid_at led name_ok directory_bytes name_bytes rights_of image acl_text digits acl_entry_text directory_of names_at opaque_at word_at counted_at whole_at count_at name_at spelled_at bytes_below
begun_when_up h = let e : Some 1 ≡ None = h.0.1.0.1.0.0.0 in absurd cc

-- ---- timeouts count of the node to which the call was sent

-- a client's act is dead by timeouts of a server that it asked nothing
abbrev of_two : Line → Line
of_two (lines.Timeout c q e n k) = lines.Timeout c (Server 2) e n k
of_two l = l

abbrev dead_history : List Entry
dead_history = map (by_lines of_two) (entries (start (script 1)) (begins 1 (acts.Open (operands.Fid file)) ∷ waits 1 ∷ waits 1 ∷ waits 1 ∷ []))

dead_of_another_server : Legal dead_history (script 1) → ⊥
unfolding moved begin_row client_row server_row back_timeout_row wake_row start_row record_bytes head_form volume_form spelled opaque pad word laid_at led name_ok directory_bytes name_bytes rights_of image acl_text digits acl_entry_text directory_of names_at opaque_at word_at counted_at whole_at count_at name_at spelled_at bytes_below
dead_of_another_server h =
    let g = h.1.0.0.0.0.1 in
    let past : List Entry = past_of (set_up_entry (script 1) ∷ []) (take 1 dead_history) in
    let none_ : NeverTo (Server 2) past = ((λ e c. one_server e, tt), (tt, tt)) in
    elim g.sent [ inl x ↦ never_to (Server 2) (record { node = Client 1; epoch = 1; number = 1 }) x.user x.call past none_ x.sent | inr x ↦ let e : Server 2 ≡ Loc = x.is in absurd cc ]

-- a server gives a break up, and its call went to another client
abbrev sent_to_two : Entry → Entry
sent_to_two e = record e { sent = map (λ (m : Message). record m { head = record m.head { to = Client 2 } }) e.sent }

abbrev of_client_two : Line → Line
of_client_two (lines.Timeout s c e n k) = lines.Timeout s (Client 2) e n k
of_client_two l = l

abbrev to_two : Entry → Entry
to_two e = sent_to_two (by_lines of_client_two e)

quit_for_another_client : Legal (alters 3 sent_to_two (alters 4 to_two (alters 5 to_two (alters 6 to_two (entries (start (script 2)) (begins 1 (acts.Open (operands.Fid file)) ∷ gives 1 steady ∷ begins 2 (acts.Close (operands.Fid file) (Hex (codes "def"))) ∷ gives 3 steady ∷ server_waits 1 (Client 1) ∷ server_waits 1 (Client 1) ∷ server_waits 1 (Client 1) ∷ [])))))) (script 2) → ⊥
unfolding moved begin_row client_row server_row back_timeout_row wake_row start_row record_bytes head_form volume_form spelled opaque pad word laid_at led name_ok directory_bytes name_bytes rights_of image acl_text digits acl_entry_text directory_of names_at opaque_at word_at counted_at whole_at count_at name_at spelled_at bytes_below
quit_for_another_client h = elim h.1.1.1.1.1.1.0.0.0.1.0.1.third [ inl t ↦ two_clients t.1.0 | inr none ↦ none ]

-- ---- a call is one by its header too

abbrev as_a_reply : Entry → Entry
as_a_reply e = record e { sent = map (λ (m : Message). record m { head = record m.head { half = halves.Reply } }) e.sent }

reply_not : halves.Reply ≡ halves.Call → ⊥
reply_not e = absurd cc

called_by_a_reply : Legal (alters 0 as_a_reply (entries (start (script 1)) (begins 1 (acts.Open (operands.Fid file)) ∷ []))) (script 1) → ⊥
unfolding moved begin_row client_row server_row back_timeout_row wake_row start_row record_bytes head_form volume_form spelled opaque pad word laid_at led name_ok directory_bytes name_bytes rights_of image acl_text digits acl_entry_text directory_of names_at opaque_at word_at counted_at whole_at count_at name_at spelled_at bytes_below
called_by_a_reply h = reply_not (h.0.0.1.0.half tt)

-- ---- a promise is what the reply to a call of the client carries

abbrev grants : Fid → ℕ → Entry → Entry
grants f index e = record e { lines = lines.Given 1 ∷ lines.Grant (Server 1) (Client 1) f index 7200 ∷ [] }

pub file_apart : file ≡ root → ⊥
file_apart e = let no_ : 2 ≡ 1 = ap (λ (f : Fid). f.vnode) e in absurd (omega (arith, no_))

abbrev asked_past : List Entry
asked_past = past_of (set_up_entry (script 1) ∷ []) (entries (start (script 1)) (begins 1 (acts.Open (operands.Fid file)) ∷ []))

-- a client asks for a file, and is promised its directory, which the reply doesn't show
granted_unasked : Legal (alters 1 (grants root 1) (entries (start (script 1)) (begins 1 (acts.Open (operands.Fid file)) ∷ gives 1 steady ∷ []))) (script 1) → ⊥
unfolding moved begin_row client_row server_row back_timeout_row wake_row start_row record_bytes head_form volume_form spelled opaque pad word laid_at led name_ok directory_bytes name_bytes rights_of image acl_text digits acl_entry_text directory_of names_at opaque_at word_at counted_at whole_at count_at name_at spelled_at bytes_below
granted_unasked h =
    let g = h.1.0.0.0.1.0.1 in
    file_apart (subst (λ (k : FsCall). IsPromisedBy root k (ideal_answer g.user g.call asked_past) asked_past) (sym (one_call _ _ _ _ (some_of _ _ g.carries))) g.promises)

-- the promise tells an index that no version has
granted_ahead : Legal (alters 1 (grants file 2) (entries (start (script 1)) (begins 1 (acts.Open (operands.Fid file)) ∷ gives 1 steady ∷ []))) (script 1) → ⊥
unfolding moved begin_row client_row server_row back_timeout_row wake_row start_row record_bytes head_form volume_form spelled opaque pad word laid_at led name_ok directory_bytes name_bytes rights_of image acl_text digits acl_entry_text directory_of names_at opaque_at word_at counted_at whole_at count_at name_at spelled_at bytes_below
granted_ahead h = let e : Some 1 ≡ Some 2 = h.1.0.0.0.1.0.1.newest in absurd cc

-- a file is made where one was removed: it is promised under the fid of the old one, whose last version tells that it is gone
abbrev made_anew : List Input
made_anew = begins 1 (acts.Remove (record { volume = codes "proj"; names = codes "a" ∷ [] })) ∷ gives 1 steady ∷ gives 2 steady ∷ gives 3 steady ∷ gives 4 steady ∷ begins 1 (acts.Make (record { volume = codes "proj"; names = codes "b" ∷ [] })) ∷ gives 5 steady ∷ gives 6 steady ∷ []

abbrev grants_old : Line → Line
grants_old (lines.Grant s c f i x) = lines.Grant s c file 2 x
grants_old l = l

abbrev made_past : List Entry
made_past = past_of (set_up_entry (script 1) ∷ []) (entries (start (script 1)) made_anew)

abbrev makes_b : FsCall
makes_b = calls.CreateFile root (codes "b") nothing_set

granted_on_the_old_unique : Legal (alters 8 (by_lines grants_old) (entries (start (script 1)) (made_anew ++ gives 7 steady ∷ []))) (script 1) → ⊥
unfolding moved begin_row client_row server_row back_timeout_row wake_row start_row record_bytes head_form volume_form spelled opaque pad word laid_at led name_ok directory_bytes name_bytes rights_of image acl_text digits acl_entry_text directory_of names_at opaque_at word_at counted_at whole_at count_at name_at spelled_at bytes_below
granted_on_the_old_unique h =
    let g = h.1.1.1.1.1.1.1.1.0.0.0.1.1.1.1.0.1 in
    let same : carried.Call (codes "guest") (ask.File makes_b) ≡ carried.Call g.user (ask.File g.call) = some_of _ _ g.carries in
    let old : file ≡ record { volume = home; vnode = 2; unique = 3 } =
    subst (λ (u : List ℕ). IsPromisedBy file makes_b (ideal_answer u makes_b made_past) made_past) (sym (one_user _ _ _ _ same)) (subst (λ (k : FsCall). IsPromisedBy file k (ideal_answer g.user k made_past) made_past) (sym (one_call _ _ _ _ same)) g.promises) in
    apart_numbers 2 3 refl (ap (λ (f : Fid). f.unique) old)

-- ---- all that an act drops when it begins is given back

-- a client drops a file and its directory, gives back the file alone, and is answered that all was given back
abbrev two_opened : List Input
two_opened = begins 1 (acts.Open (operands.Fid file)) ∷ gives 1 steady ∷ gives 2 steady ∷ begins 1 (acts.Open (operands.Fid root)) ∷ gives 3 steady ∷ gives 4 steady ∷ begins 1 acts.GiveUp ∷ gives 5 steady ∷ []

abbrev names_the_file : Entry → Entry
names_the_file e = record e { sent = map (λ (m : Message). record m { carried = carried.Call (codes "guest") (ask.File (calls.GiveUpCallBacks (file ∷ []) [])) }) e.sent }

fids_of : (a b : List Fid) (c d : List AfsCallBack) → calls.GiveUpCallBacks a c ≡ calls.GiveUpCallBacks b d → a ≡ b
fids_of a b c d e = cc

abbrev gave_less_past : List Entry
gave_less_past = past_of (set_up_entry (script 1) ∷ []) (alters 6 names_the_file (entries (start (script 1)) two_opened))

gave_back_less : Legal (alters 6 names_the_file (entries (start (script 1)) (two_opened ++ gives 6 steady ∷ []))) (script 1) → ⊥
unfolding moved begin_row client_row server_row back_timeout_row wake_row start_row record_bytes head_form volume_form spelled opaque pad word laid_at led name_ok directory_bytes name_bytes rights_of image acl_text digits acl_entry_text directory_of names_at opaque_at word_at counted_at whole_at count_at name_at spelled_at bytes_below
gave_back_less h =
    let g = h.1.1.1.1.1.1.1.1.0.0.0.1.0.1 in
    let x : IsGivenBack (script 1) (Client 1) gave_less_past root = g.gives g.act root g.runs (ap (λ (a : Going). a.act) (sym (some_of _ _ g.runs))) refl refl (inl refl) in
    elim x.called [
      | inl y ↦ elim y.1 [ inl z ↦ let e : carried.Reply (tell.File replies.GiveUpCallBacks) ≡ carried.Call (codes "guest") (ask.File (calls.GiveUpCallBacks x.fids x.callbacks)) = z.1 in absurd cc | inr z ↦ z ]
      | inr y ↦ elim y.1 [
        | inl z ↦ elim z.1 [ inl w ↦ elim (subst (IsNamedIn root) (sym (fids_of _ _ _ _ (one_call _ _ _ _ w.1))) x.named) [ inl e ↦ file_apart e | inr e ↦ e ] | inr w ↦ w ]
        | inr z ↦ let e : true ≡ false = subst (λ (n : Node). has_begun n (lines.Begin (Client 1) acts.GiveUp ∷ lines.Drop (Client 1) root ∷ lines.Drop (Client 1) file ∷ []) ≡ false) x.node z.0 in absurd cc
      ]
    ]

-- ---- a restart owes the clients of the script, and nobody else

abbrev owes_two : Entry → Entry
owes_two e = record e { lines = e.lines ++ lines.Owe (Server 1) (Client 2) None 2 ∷ [] }

owed_to_a_stranger : Legal (alters 1 owes_two (entries (start (script 1)) (stops 1 ∷ starts_again 1 false comes_up ∷ []))) (script 1) → ⊥
unfolding moved begin_row client_row server_row back_timeout_row wake_row start_row record_bytes head_form volume_form spelled opaque pad word laid_at led name_ok directory_bytes name_bytes rights_of image acl_text digits acl_entry_text directory_of names_at opaque_at word_at counted_at whole_at count_at name_at spelled_at bytes_below
owed_to_a_stranger h = let e : 2 ≤ 1 = h.1.0.0.0.1.1.0.1.cause.1.1 in absurd (omega arith)

-- ---- what is given back is gone from the step on that answers it, and a call answers nothing

abbrev as_a_call : Entry → Entry
as_a_call e = record e { sent = map (λ (m : Message). record m { head = record m.head { half = halves.Call } }) e.sent }

-- A client asks for the file in vain. It drops that, and gives it back: the server runs the call that was late, and promises the file; and
-- then it answers the gift by a call
abbrev in_vain : List Input
in_vain = begins 1 (acts.Open (operands.Fid file)) ∷ waits 1 ∷ waits 1 ∷ waits 1 ∷ []

abbrev gave_rest : List Entry
gave_rest =
    step_of (Client 1) (lines.Begin (Client 1) acts.GiveUp ∷ lines.Drop (Client 1) file ∷ []) (gift ∷ [])
    ∷ step_of (Server 1) (lines.Given 1 ∷ lines.Grant (Server 1) (Client 1) file 1 7200 ∷ []) []
    ∷ as_a_call (step_of (Server 1) (lines.Given 4 ∷ []) (gift_answer ∷ []))
    ∷ step_of (Client 2) (stores 2 ∷ []) (sent_by (start (script 2)) (begins 2 (acts.Close (operands.Fid file) (Hex (codes "def"))) ∷ []))
    ∷ step_of (Server 1) (lines.Given 6 ∷ lines.Change (Server 1) (record { node = Client 2; epoch = 1; number = 1 }) 1 ∷ lines.Version (record { fid = file; index = 2; data_version = 2; body = bodies.File (codes "def") }) ∷ []) [] ∷ []

answered_by_a_call : Legal (entries (start (script 2)) in_vain ++ gave_rest) (script 2) → ⊥
unfolding moved begin_row client_row server_row back_timeout_row wake_row start_row record_bytes head_form volume_form spelled opaque pad word laid_at led name_ok directory_bytes name_bytes rights_of image acl_text digits acl_entry_text directory_of names_at opaque_at word_at counted_at whole_at count_at name_at spelled_at bytes_below
answered_by_a_call h = h.1.1.1.1.1.1.1.1.0.0.0.1.0.1.owed 1 file 7200 (λ e. absurd cc) (inl refl) refl (omega arith)

-- ---- a reply has the opcode of its call

-- what that says of the entry that ran it
record RanStore (e : Entry) (older : List Entry) : Type 0 where
  message : Message
  given : given_message e.lines (sent_of older) ≡ Some message
  opcode : message.head.opcode ≡ 133

abbrev as_of_a_store : Head
as_of_a_store = record { half = halves.Reply; from = Server 1; to = Client 1; epoch = 1; number = 1; boot = 1; stamp = 0; opcode = 133 }

ran_store : (past : List Entry) → Ran as_of_a_store past → Among RanStore past
ran_store past r = subst (Among RanStore) (sym r.split) (is_among RanStore r.newer r.at r.older (record { message = r.message; given = r.given; opcode = r.opcode }))

stored_none : (e : Entry) (older : List Entry) → given_message e.lines (sent_of older) ≡ None → RanStore e older → ⊥
stored_none e older none x = let no_ : None ≡ Some x.message = sym none ∙ x.given in absurd cc

stored_fetch : (e : Entry) (older : List Entry) (m : Message) → given_message e.lines (sent_of older) ≡ Some m → m.head.opcode ≡ 130 → RanStore e older → ⊥
stored_fetch e older m at fetch x = let no_ : 130 ≡ 133 = sym fetch ∙ (ap (λ (q : Message). q.head.opcode) (some_of m x.message (sym at ∙ x.given)) ∙ x.opcode) in absurd (omega (arith, no_))

answered_as_a_store : Legal (alters 1 (λ e. record e { sent = map (λ (m : Message). record m { head = record m.head { opcode = 133 } }) e.sent }) (entries (start (script 1)) (begins 1 (acts.Open (operands.Fid file)) ∷ gives 1 steady ∷ []))) (script 1) → ⊥
unfolding moved begin_row client_row server_row back_timeout_row wake_row start_row record_bytes head_form volume_form spelled opaque pad word laid_at led name_ok directory_bytes name_bytes rights_of image acl_text digits acl_entry_text directory_of names_at opaque_at word_at counted_at whole_at count_at name_at spelled_at bytes_below
answered_as_a_store h =
    elim (ran_store _ (h.1.0.1.1.0.0 1 1 (refl, tt) refl refl).ran) [
      | inl x ↦ stored_fetch _ _ _ refl refl x
      | inr y ↦ elim y [ inl x ↦ stored_none _ _ refl x | inr z ↦ elim z [ inl x ↦ stored_none _ _ refl x | inr w ↦ w ] ]
    ]
