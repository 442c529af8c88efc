use Rattle.spec_model.specs.Calls.{same_key}
use Rattle.spec_history.specs.declared.acts.Act.{Act}
use Rattle.law_legal.proofs.OwedPasses.{all_lines}
use Rattle.afs_num.specs.declared.types.Key.{Key}
use Rattle.spec_records.specs.Records.{record_bytes, head_form, volume_form}
use Rattle.spec_rows.specs.ServerSteps.{server_row, back_timeout_row, wake_row, start_row}
use Rattle.spec_history.specs.declared.acts.Act.{Act}
use Rattle.spec_history.specs.declared.acts.Act.TheVariants as acts
use Rattle.spec_history.specs.declared.acts.Operand.TheVariants as operands
use Rattle.spec_history.specs.declared.acts.Written.TheVariants.{Hex}
use Rattle.spec_history.specs.declared.scripts.Script.{Script}
use Rattle.spec_history.specs.declared.scripts.SetupLine.TheVariants as setup
use Rattle.afs_num.specs.declared.histories.ReadStatus.{ReadStatus}
use Rattle.spec_history.specs.declared.lines.Line.{Line}
use Rattle.spec_history.specs.declared.lines.Line.TheVariants as lines
use Rattle.spec_ideal.specs.AccessLists.{rights_of, acl_text, acl_entry_text, acl_at, acl_entry_at, named_at, line_number_at}
use Rattle.spec_ideal.specs.AccessLists as access
use Rattle.spec_ideal.specs.Directories.{directory_bytes, name_bytes, directory_of, names_at, whole_at, count_at, name_at, spelled_at, bytes_below}
use Rattle.spec_ideal.specs.SetUp.{acl_laid, laid_at, led}
use Rattle.spec_ideal.specs.VnodeImage.{image}
use Rattle.law_legal.proofs.BaseLaws.{both, same_key-refl, some_of}
use Rattle.law_legal.proofs.KeptPasses.{sent_right}
use Rattle.law_legal.proofs.ActAnsweredRecently.{sent_before}
use Rattle.law_legal.specs.Grants.{GrantOf, IsDropped}
use Rattle.afs_num.specs.declared.types.Node.{Node}
use Rattle.law_legal.proofs.Worked.{home, alters, answer, begun, entries, file, root, script}
use Rattle.law_legal.specs.Breaks.{IsCarried}
use Rattle.law_legal.specs.Legal.{Brings, IsOpen, IsNeededFrom, Legal, ideal_answer, code_given}
use Rattle.spec_model.specs.Messages.{spelled}
use Rattle.afs_num.specs.Names.{name_ok}
use Rattle.afs_num.specs.declared.types.Fid.{Fid}
use Rattle.spec_rows.specs.ClientRow.{begin_row, client_row}
use Rattle.spec_rows.specs.Going.{Going, began, next, no_entry}
use Rattle.spec_rows.specs.Runs.{Entry, Input, begins, client_starts, client_stops, comes_up, gives, locations, moved, server_waits, start, starts_again, steady, stops, ticks}
use Rattle.afs_xdr.specs.Words.{opaque, pad, word, opaque_at, word_at, counted_at}
use Rattle.law_legal.specs.Ideal.{IsLast, last_version, set_up_entry}
use Rattle.afs_num.specs.declared.histories.Version.{Version}
use Rattle.std.specs.Option.{option_map}
use Rattle.law_legal.specs.Once.{past_of}
use Rattle.law_legal.specs.Past.{SendsTo, has_sent, is_called, onto, lines_on, CalledSince, called_key, answered_key, given_message, lines_of, sent_of}
use Rattle.afs_num.specs.declared.calls.FsCall.{FsCall}
use Rattle.afs_num.specs.declared.calls.FsCall.TheVariants as calls
use Rattle.afs_num.specs.declared.volume_calls.VolCall.TheVariants as volumes
use Rattle.afs_num.specs.declared.histories.Actor.TheVariants as actors
use Rattle.afs_num.specs.declared.messages.Call.TheVariants as ask
use Rattle.afs_num.specs.declared.types.Half.TheVariants as halves
use Rattle.afs_num.specs.declared.histories.Body.{Body}
use Rattle.afs_num.specs.declared.histories.Body.TheVariants as bodies
use Rattle.afs_num.specs.declared.histories.ReadBody.TheVariants as seen
use Rattle.afs_num.specs.declared.histories.ReadSource.TheVariants.{Cached, Fetched}
use Rattle.afs_num.specs.declared.messages.Carried.TheVariants as carried
use Rattle.afs_num.specs.declared.messages.Reply.TheVariants as tell
use Rattle.afs_num.specs.declared.calls.FsReply.TheVariants as replies
use Rattle.afs_num.specs.declared.messages.Message.{Message}
use Rattle.afs_num.specs.declared.types.Node.TheVariants.{Client, Server, Loc}
use Rattle.std.proofs.Common.{arith, ◌<◌, ◌≡◌, ◌∙◌, true, false, cond, not, nat_eq, Bool, ℕ, List, [], ◌∷◌, ◌++◌, Option, None, Some, ap, sym, subst, refl, inl, inr, negsuc, pos}
use Rattle.std.specs.Fmt.{digits}
use Rattle.std.specs.Prelude.{◌&&◌, codes, map, take}
use Rattle.law_legal.proofs.WrongAnswers.{Among, fetch_front, for_call, for_none, instead, is_among, key_of_one, one_call, one_server, one_user, ran_for, sent_by, shown, step_of, two_clients}
use Rattle.law_legal.proofs.WrongCalls.{dead_elsewhere, open_front}

-- ---- a break on a file is owed to who was promised it

abbrev owes_one : Entry → Entry
owes_one e = record e { lines = e.lines ++ lines.Owe (Server 1) (Client 1) (Some file) 1 ∷ []; sent = [] }

owed_unpromised : Legal (alters 1 owes_one (entries (start (script 2)) (begins 2 (acts.Close (operands.Fid file) (Hex (codes "def"))) ∷ gives 1 steady ∷ []))) (script 2) → ⊥
unfolding moved begin_row client_row server_row back_timeout_row wake_row start_row record_bytes head_form volume_form spelled opaque pad word laid_at led name_ok directory_bytes name_bytes rights_of image acl_text digits acl_entry_text directory_of names_at opaque_at word_at counted_at whole_at count_at name_at spelled_at bytes_below
owed_unpromised h =
    let g = h.1.0.0.0.1.1.1.0.1.cause.1 in
    let e : None ≡ Some g.0 = g.1.0 in absurd cc

-- a stop of the server is no reason for it, even if a server that stopped might owe something
owed_behind_a_crash : Legal (alters 2 owes_one (entries (start (script 1)) (begins 1 (acts.Open (operands.Fid file)) ∷ gives 1 steady ∷ stops 1 ∷ []))) (script 1) → ⊥
unfolding moved begin_row client_row server_row back_timeout_row wake_row start_row record_bytes head_form volume_form spelled opaque pad word laid_at led name_ok directory_bytes name_bytes rights_of image acl_text digits acl_entry_text directory_of names_at opaque_at word_at counted_at whole_at count_at name_at spelled_at bytes_below
owed_behind_a_crash h = h.1.1.0.0.0.1.0.1.cause.0

-- nor does a server that stopped owe it, settle it or give it up, whatever it changed before
abbrev stops_and_owes : Entry → Entry
stops_and_owes e = record e { lines = e.lines ++ lines.Crash (Server 1) ∷ lines.Owe (Server 1) (Client 1) (Some file) 1 ∷ []; sent = [] }

abbrev pub changes_file : List Input
changes_file = begins 1 (acts.Open (operands.Fid file)) ∷ gives 1 steady ∷ begins 2 (acts.Close (operands.Fid file) (Hex (codes "def"))) ∷ gives 3 steady ∷ []

owed_by_a_stopped_server : Legal (alters 3 stops_and_owes (entries (start (script 2)) changes_file)) (script 2) → ⊥
unfolding moved begin_row client_row server_row back_timeout_row wake_row start_row record_bytes head_form volume_form spelled opaque pad word laid_at led name_ok directory_bytes name_bytes rights_of image acl_text digits acl_entry_text directory_of names_at opaque_at word_at counted_at whole_at count_at name_at spelled_at bytes_below
owed_by_a_stopped_server h = h.1.1.1.0.0.0.1.1.1.1.1.0.1.going (inl refl)

-- nor is it owed for a promise that a break ended before, for one of an older boot, or for one whose time has come
abbrev pub owes_number : ℕ → Entry → Entry
owes_number n e = record e { lines = e.lines ++ lines.Owe (Server 1) (Client 1) (Some file) n ∷ [] }

abbrev stored_again : List Input
stored_again = changes_file ++ gives 4 steady ∷ gives 5 steady ∷ gives 6 steady ∷ begins 2 (acts.Close (operands.Fid file) (Hex (codes "xyz"))) ∷ gives 7 steady ∷ []

owed_again : Legal (alters 8 (owes_number 2) (entries (start (script 2)) stored_again)) (script 2) → ⊥
unfolding moved begin_row client_row server_row back_timeout_row wake_row start_row record_bytes head_form volume_form spelled opaque pad word laid_at led name_ok directory_bytes name_bytes rights_of image acl_text digits acl_entry_text directory_of names_at opaque_at word_at counted_at whole_at count_at name_at spelled_at bytes_below
owed_again h =
    let g = h.1.1.1.1.1.1.1.1.0.0.0.1.1.1.0.1.cause.1 in
    let e : None ≡ Some g.0 = g.1.0 in absurd cc

abbrev stored_in_boot_two : List Input
stored_in_boot_two = begins 1 (acts.Open (operands.Fid file)) ∷ gives 1 steady ∷ stops 1 ∷ starts_again 1 false comes_up ∷ begins 2 (acts.Close (operands.Fid file) (Hex (codes "def"))) ∷ gives 5 steady ∷ gives 6 steady ∷ gives 7 steady ∷ []

owed_in_a_later_boot : Legal (alters 7 (owes_number 3) (entries (start (script 2)) stored_in_boot_two)) (script 2) → ⊥
unfolding moved begin_row client_row server_row back_timeout_row wake_row start_row record_bytes head_form volume_form spelled opaque pad word laid_at led name_ok directory_bytes name_bytes rights_of image acl_text digits acl_entry_text directory_of names_at opaque_at word_at counted_at whole_at count_at name_at spelled_at bytes_below
owed_in_a_later_boot h =
    let g = h.1.1.1.1.1.1.1.0.0.0.1.1.1.0.1.cause.1 in
    let e : None ≡ Some g.0 = g.1.0 in absurd cc

abbrev stored_too_late : List Input
stored_too_late = begins 1 (acts.Open (operands.Fid file)) ∷ gives 1 steady ∷ ticks 7200 ∷ begins 2 (acts.Close (operands.Fid file) (Hex (codes "def"))) ∷ gives 3 steady ∷ []

owed_when_ended : Legal (alters 4 (owes_number 1) (entries (start (script 2)) stored_too_late)) (script 2) → ⊥
unfolding moved begin_row client_row server_row back_timeout_row wake_row start_row record_bytes head_form volume_form spelled opaque pad word laid_at led name_ok directory_bytes name_bytes rights_of image acl_text digits acl_entry_text directory_of names_at opaque_at word_at counted_at whole_at count_at name_at spelled_at bytes_below
owed_when_ended h =
    let g = h.1.1.1.1.0.0.0.1.1.1.0.1.cause.1 in
    let e : 7200 < 7200 = subst (λ (x : ℕ). 7200 < x) (some_of g.0 7200 (sym g.1.0)) g.1.1 in absurd (omega arith)

abbrev stops_first : Entry → Entry
stops_first e = record e { lines = lines.Crash (Server 1) ∷ e.lines; sent = [] }

settled_by_a_stopped_server : Legal (alters 5 stops_first (entries (start (script 2)) (changes_file ++ gives 4 steady ∷ gives 5 steady ∷ []))) (script 2) → ⊥
unfolding moved begin_row client_row server_row back_timeout_row wake_row start_row record_bytes head_form volume_form spelled opaque pad word laid_at led name_ok directory_bytes name_bytes rights_of image acl_text digits acl_entry_text directory_of names_at opaque_at word_at counted_at whole_at count_at name_at spelled_at bytes_below
settled_by_a_stopped_server h = h.1.1.1.1.1.0.0.0.1.1.0.1.going (inl refl)

quit_by_a_stopped_server : Legal (alters 6 stops_first (entries (start (script 2)) (changes_file ++ server_waits 1 (Client 1) ∷ server_waits 1 (Client 1) ∷ server_waits 1 (Client 1) ∷ []))) (script 2) → ⊥
unfolding moved begin_row client_row server_row back_timeout_row wake_row start_row record_bytes head_form volume_form spelled opaque pad word laid_at led name_ok directory_bytes name_bytes rights_of image acl_text digits acl_entry_text directory_of names_at opaque_at word_at counted_at whole_at count_at name_at spelled_at bytes_below
quit_by_a_stopped_server h = h.1.1.1.1.1.1.0.0.0.1.1.0.1.going (inl refl)

-- ---- a client's call is one call: for its own user, and to one server

-- the same call is sent for another user too, who may do what its own may not
abbrev for_ann : Message → Message
for_ann m = record m { carried = carried.Call (codes "ann") (ask.File (calls.FetchData file (pos 0) (pos 2147483647))) }

abbrev pub sends_besides : (Message → Message) → Entry → Entry
sends_besides w e = record e { sent = e.sent ++ map w e.sent }

of_another_user : codes "ann" ≡ codes "guest" → ⊥
of_another_user e = absurd cc

fetched_for_another_user : Legal (alters 0 (sends_besides for_ann) (entries (start (script 1)) (begins 1 (acts.Open (operands.Fid file)) ∷ []))) (script 1) → ⊥
unfolding moved begin_row client_row server_row back_timeout_row wake_row start_row record_bytes head_form volume_form spelled opaque pad word laid_at led name_ok directory_bytes name_bytes rights_of image acl_text digits acl_entry_text directory_of names_at opaque_at word_at counted_at whole_at count_at name_at spelled_at bytes_below
fetched_for_another_user h = of_another_user h.0.1.1.1.0.1.0.own_user

-- or to another server: what it gives back is of none
abbrev to_server_two : Message → Message
to_server_two m = record m { head = record m.head { to = Server 2 } }

asked_two_servers : Legal (alters 3 (sends_besides to_server_two) (entries (start (script 1)) (open_front ++ begins 1 acts.GiveUp ∷ []))) (script 1) → ⊥
unfolding moved begin_row client_row server_row back_timeout_row wake_row start_row record_bytes head_form volume_form spelled opaque pad word laid_at led name_ok directory_bytes name_bytes rights_of image acl_text digits acl_entry_text directory_of names_at opaque_at word_at counted_at whole_at count_at name_at spelled_at bytes_below
asked_two_servers h = one_server (some_of (Server 1) (Server 2) h.1.1.1.0.1.1.1.0.1.0.one_callee)

-- ---- a call goes to the server of what it names

-- bob may not look the root up, and is told who may
abbrev hidden : Script
hidden = record (script 2) { users = record { client = 1; name = codes "bob" } ∷ []; volumes = record { id = home; name = codes "proj"; server = 1; quota = 1000; lines = setup.File (codes "a" ∷ []) (Hex (codes "abc")) ∷ setup.AccessList [] (Hex (codes "1\n0\nann\t127\n")) ∷ [] } ∷ [] }

-- it asks another client, which tells it; no server would
abbrev asks_two : Entry → Entry
asks_two e = record e { sent = map (λ (m : Message). record m { head = record m.head { to = Client 2 } }) e.sent }

abbrev told_by_two : List Message
told_by_two = map (λ (m : Message). record m { head = record m.head { from = Client 2 } }) (sent_by (start (script 1)) (begins 1 (acts.GetAccessList (operands.Fid root)) ∷ gives 1 steady ∷ []))

abbrev hidden_front : List Entry
hidden_front = alters 0 asks_two (entries (start hidden) (begins 1 (acts.GetAccessList (operands.Fid root)) ∷ [])) ++ step_of (Client 2) (lines.Given 1 ∷ []) told_by_two ∷ []

server_not_two : Server 1 ≡ Client 2 → ⊥
server_not_two e = absurd cc

shown_without_the_right : Legal (hidden_front ++ step_of (Client 1) (lines.Given 2 ∷ lines.Read (Client 1) root 1 Fetched (seen.AccessList (codes "1\n0\nann\t127\n")) ∷ []) [] ∷ []) hidden → ⊥
unfolding moved begin_row client_row server_row back_timeout_row wake_row start_row record_bytes head_form volume_form spelled opaque pad word laid_at led name_ok directory_bytes name_bytes rights_of image acl_text digits acl_entry_text directory_of names_at opaque_at word_at counted_at whole_at count_at name_at spelled_at bytes_below acl_laid acl_at acl_entry_at access.name_at named_at line_number_at access.count_at
shown_without_the_right h = elim (h.0.1.1.1.0.0.home root.volume refl) [ inl x ↦ server_not_two x.1.1 | inr x ↦ x ]

-- bob may not read the file either: the server refuses his fetch, and promises him the file
abbrev fetches_all : FsCall
fetches_all = calls.FetchData file (pos 0) (pos 2147483647)

abbrev refused_past : List Entry
refused_past = past_of (set_up_entry hidden ∷ []) (entries (start hidden) (begins 1 (acts.Open (operands.Fid file)) ∷ []))

refused_not : pos 13 ≡ pos 0 → ⊥
refused_not e = absurd cc

granted_with_a_refusal : Legal (alters 1 (instead (lines.Given 1 ∷ lines.Grant (Server 1) (Client 1) file 1 7200 ∷ [])) (entries (start hidden) (begins 1 (acts.Open (operands.Fid file)) ∷ gives 1 steady ∷ []))) hidden → ⊥
unfolding moved begin_row client_row server_row back_timeout_row wake_row start_row record_bytes head_form volume_form spelled opaque pad word laid_at led name_ok directory_bytes name_bytes rights_of image acl_text digits acl_entry_text directory_of names_at opaque_at word_at counted_at whole_at count_at name_at spelled_at bytes_below acl_laid acl_at acl_entry_at access.name_at named_at line_number_at access.count_at
granted_with_a_refusal h =
    let g = h.1.0.0.0.1.0.1 in
    let same : carried.Call (codes "bob") (ask.File fetches_all) ≡ carried.Call g.user (ask.File g.call) = some_of _ _ g.carries in
    refused_not (subst (λ (u : List ℕ). code_given (ideal_answer u fetches_all refused_past) ≡ pos 0) (sym (one_user _ _ _ _ same)) (subst (λ (k : FsCall). code_given (ideal_answer g.user k refused_past) ≡ pos 0) (sym (one_call _ _ _ _ same)) g.code))

-- ---- an act that needs no call doesn't die of one

abbrev pub unknown : Fid
unknown = record { volume = 7; vnode = 2; unique = 2 }

abbrev pub asks_the_time : Message
asks_the_time = record {
  head = record { half = halves.Call; from = Client 1; to = Server 1; epoch = 1; number = 1; boot = 1; stamp = 0; opcode = 153 };
  carried = carried.Call (codes "guest") (ask.File calls.GetTime);
}

abbrev pub times_out : ℕ → Line
times_out n = lines.Timeout (Client 1) (Server 1) 1 1 n

abbrev pub dead_answer : Line
dead_answer = lines.Answer (Client 1) (record { 0 = negsuc 0 })

abbrev pub opens_unknown : Going
opens_unknown = began (locations (script 1)) (acts.Open (operands.Fid unknown))

dead_of_nothing : Legal (step_of (Client 1) (lines.Begin (Client 1) (acts.Open (operands.Fid unknown)) ∷ []) (asks_the_time ∷ []) ∷ step_of (Client 1) (times_out 1 ∷ []) [] ∷ step_of (Client 1) (times_out 2 ∷ []) [] ∷ step_of (Client 1) (times_out 3 ∷ dead_answer ∷ []) [] ∷ []) (script 1) → ⊥
dead_of_nothing h =
    let g = h.1.1.1.0.0.0.1.0.1 in
    elim g.cause [
      | inl x ↦ let e : None ≡ Some x.reply = x.by in absurd cc
      | inr y ↦ elim y [
        | inl x ↦ let e : negsuc 0 ≡ pos x.number = x.is in absurd cc
        | inr z ↦ elim z [
          | inl x ↦ subst (λ (a : Going). IsOpen (next a)) (sym (some_of opens_unknown g.act g.runs)) x.unended
          | inr u ↦ elim u [
            | inl x ↦ (let e : negsuc 0 ≡ pos 0 = x.is in absurd cc)
            | inr t ↦ elim t [
              | inl x ↦ (let e : negsuc 0 ≡ pos no_entry = x.is in absurd cc)
              | inr v ↦ elim v [ inl x ↦ elim x.third [ inl t ↦ (let e : Server 1 ≡ Loc = t.1.0 in absurd cc) | inr none ↦ none ] | inr x ↦ elim x.is [ inl a ↦ dead_elsewhere x.left x.refused.gone (inl a.0) | inr b ↦ dead_elsewhere x.left x.refused.gone (inr b.0) ] ]
            ]
          ]
        ]
      ]
    ]

-- nor does one die that gives promises back, and gave up nothing
abbrev gives_nothing : Message
gives_nothing = record {
  head = record { half = halves.Call; from = Client 1; to = Server 1; epoch = 1; number = 1; boot = 1; stamp = 0; opcode = 147 };
  carried = carried.Call (codes "guest") (ask.File (calls.GiveUpCallBacks [] []));
}

dead_of_no_gift : Legal (step_of (Client 1) (lines.Begin (Client 1) acts.GiveUp ∷ []) (gives_nothing ∷ []) ∷ step_of (Client 1) (times_out 1 ∷ []) [] ∷ step_of (Client 1) (times_out 2 ∷ []) [] ∷ step_of (Client 1) (times_out 3 ∷ dead_answer ∷ []) [] ∷ []) (script 1) → ⊥
dead_of_no_gift h = let g = h.1.1.1.0.0.0.1.0.1 in g.some g.act g.runs (ap (λ (a : Going). a.act) (sym (some_of _ _ g.runs))) refl refl

-- ---- timeouts are of a call that was sent

-- the first two of three are told before the call, which is then dead at its first
dead_at_its_first_timeout : Legal (step_of (Client 1) (times_out 1 ∷ []) [] ∷ step_of (Client 1) (times_out 2 ∷ []) [] ∷ entries (start (script 1)) (begins 1 (acts.Open (operands.Fid file)) ∷ []) ++ step_of (Client 1) (times_out 3 ∷ dead_answer ∷ []) [] ∷ []) (script 1) → ⊥
unfolding moved begin_row client_row server_row back_timeout_row wake_row start_row record_bytes head_form volume_form spelled opaque pad word laid_at led name_ok directory_bytes name_bytes rights_of image acl_text digits acl_entry_text directory_of names_at opaque_at word_at counted_at whole_at count_at name_at spelled_at bytes_below
dead_at_its_first_timeout h = elim h.0.0.0.0.1.sent [ inl x ↦ elim x.sent [ inl y ↦ y | inr y ↦ y ] | inr x ↦ let e : Server 1 ≡ Loc = x.is in absurd cc ]

-- ---- a break is settled or given up by a call that was first sent when it was owed

-- what stands from the entry on which first sent a call of this key
abbrev first_at : Key → List Entry → Option (List Entry)
first_at k [] = None
first_at k (e ∷ past) = cond (has_sent k (sent_of past)) (first_at k past) (cond (has_sent k e.sent) (Some (e ∷ past)) None)

sends_it : (t : Bool) (callee : Node) (k : Key) (user : List ℕ) (call : FsCall) (m : Message) (ms : List Message) → is_called k m.head m.carried ≡ t → (SendsTo callee k user call ms → has_sent k ms ≡ true) → SendsTo callee k user call (m ∷ ms) → cond t true (has_sent k ms) ≡ true
sends_it true callee k user call m ms e w h = refl
sends_it false callee k user call m ms e w (inl h) =
    let yes : is_called k m.head m.carried ≡ true = ap (is_called k m.head) h.1.1 ∙ (ap (λ (l : Key). same_key l k) h.1.0 ∙ same_key-refl k) in let no_ : true ≡ false = sym yes ∙ e in absurd cc
sends_it false callee k user call m ms e w (inr h) = w h

sends_has : (callee : Node) (k : Key) (user : List ℕ) (call : FsCall) (ms : List Message) → SendsTo callee k user call ms → has_sent k ms ≡ true
sends_has callee k user call [] h = absurd h
sends_has callee k user call (m ∷ ms) h = sends_it (is_called k m.head m.carried) callee k user call m ms refl (sends_has callee k user call ms) h

first_is : (k : Key) (newer : List Entry) (at : Entry) (older : List Entry) → has_sent k at.sent ≡ true → has_sent k (sent_of older) ≡ false → first_at k (newer ++ (at ∷ older)) ≡ Some (at ∷ older)
first_is k [] at older is none = rw (none, is) refl
first_is k (e ∷ newer) at older is none = rw (sent_before k newer (at ∷ older) (sent_right k (sent_of older) at.sent is)) (first_is k newer at older is none)

carried_first : (s c : Node) (epoch number : ℕ) (what : Option Fid) (n : ℕ) (past : List Entry) → (x : IsCarried s c epoch number what n past) → first_at (record { node = s; epoch = epoch; number = number }) past ≡ Some (x.sent.at ∷ x.sent.older)
carried_first s c epoch number what n past x =
    let k : Key = record { node = s; epoch = epoch; number = number } in
    ap (first_at k) x.sent.split ∙ first_is k x.sent.newer x.sent.at x.sent.older (sends_has c k x.user x.call x.sent.at.sent x.sent.sent) x.sent.first

-- no break of this number is owed
abbrev is_other_owe : ℕ → Line → Bool
is_other_owe n (lines.Owe s c w k) = not (nat_eq k n)
is_other_owe n l = true

no_such_owe : (newer base ls : List Line) (l : Line) (q : Line → Bool) → all_lines q ls ≡ true → ls ≡ newer ++ (l ∷ base) → q l ≡ false → ⊥
no_such_owe [] base [] l q h e f = absurd cc
no_such_owe [] base (x ∷ ls) l q h e f = let same : x ≡ l = cc in let yes : q l ≡ true = ap q (sym same) ∙ (both (q x) (all_lines q ls) h).0 in let no_ : true ≡ false = sym yes ∙ f in absurd cc
no_such_owe (y ∷ newer) base [] l q h e f = absurd cc
no_such_owe (y ∷ newer) base (x ∷ ls) l q h e f = let rest : ls ≡ newer ++ (l ∷ base) = cc in no_such_owe newer base ls l q (both (q x) (all_lines q ls) h).1 rest f

not_carried : (s c : Node) (epoch number : ℕ) (what : Option Fid) (n : ℕ) (past from : List Entry) → first_at (record { node = s; epoch = epoch; number = number }) past ≡ Some from → all_lines (is_other_owe n) (lines_of from) ≡ true → not (nat_eq n n) ≡ false → IsCarried s c epoch number what n past → ⊥
not_carried s c epoch number what n past from at none own x =
    let same : x.sent.at ∷ x.sent.older ≡ from = some_of (x.sent.at ∷ x.sent.older) from (sym (carried_first s c epoch number what n past x) ∙ at) in
    no_such_owe x.owe.newer x.owe.base (lines_of (x.sent.at ∷ x.sent.older)) (lines.Owe s c what n) (is_other_owe n) (subst (λ (p : List Entry). all_lines (is_other_owe n) (lines_of p) ≡ true) (sym same) none) x.owe.split own

-- a client is called for the first break on its file, drops that and answers; it opens the file again, and a second break becomes owed,
-- which no call has carried yet
abbrev two_breaks : List Input
two_breaks =
    begins 1 (acts.Open (operands.Fid file)) ∷ gives 1 steady ∷ begins 2 (acts.Close (operands.Fid file) (Hex (codes "def"))) ∷ gives 3 steady ∷ gives 2 steady ∷ gives 4 steady ∷ begins 1 (acts.Open (operands.Fid file)) ∷ gives 6 steady ∷ begins 2 (acts.Close (operands.Fid file) (Hex (codes "xyz"))) ∷ gives 8 steady ∷ []

abbrev pub also : Line → Entry → Entry
also l e = record e { lines = e.lines ++ l ∷ [] }

abbrev break_key : Key
break_key = record { node = Server 1; epoch = 1; number = 1 }

-- the old call is timed out, and with it the second break is given up
abbrev quit_front : List Input
quit_front = two_breaks ++ server_waits 1 (Client 1) ∷ server_waits 1 (Client 1) ∷ []

quit_unsent : Legal (alters 12 (also (lines.Quit (Server 1) (Client 1) 2)) (entries (start (script 2)) (quit_front ++ server_waits 1 (Client 1) ∷ []))) (script 2) → ⊥
unfolding moved begin_row client_row server_row back_timeout_row wake_row start_row record_bytes head_form volume_form spelled opaque pad word laid_at led name_ok directory_bytes name_bytes rights_of image acl_text digits acl_entry_text directory_of names_at opaque_at word_at counted_at whole_at count_at name_at spelled_at bytes_below
quit_unsent h =
    let g = h.1.1.1.1.1.1.1.1.1.1.1.1.0.0.0.1.1.0.1 in
    let past : List Entry = past_of (set_up_entry (script 2) ∷ []) (entries (start (script 2)) quit_front) in
    let from : List Entry = past_of (set_up_entry (script 2) ∷ []) (take 4 (entries (start (script 2)) two_breaks)) in
    elim g.third [
      | inl x ↦ not_there g.epoch g.number g.what past from x.1.1.0 x.1.1.1.0 refl refl g.carried
      | inr x ↦ x
    ]
  where
    not_there : (epoch number : ℕ) (what : Option Fid) (past from : List Entry) → 1 ≡ epoch → 1 ≡ number → first_at break_key past ≡ Some from → all_lines (is_other_owe 2) (lines_of from) ≡ true → IsCarried (Server 1) (Client 1) epoch number what 2 past → ⊥
    not_there epoch number what past from e n at none x =
        not_carried (Server 1) (Client 1) 1 1 what 2 past from at none refl (subst (λ (i : ℕ). IsCarried (Server 1) (Client 1) i 1 what 2 past) (sym e) (subst (λ (i : ℕ). IsCarried (Server 1) (Client 1) epoch i what 2 past) (sym n) x))

-- the answer to the old call settles the second break too
settled_unsent : Legal (alters 10 (also (lines.Settle (Server 1) (Client 1) 2)) (entries (start (script 2)) (two_breaks ++ gives 5 steady ∷ []))) (script 2) → ⊥
unfolding moved begin_row client_row server_row back_timeout_row wake_row start_row record_bytes head_form volume_form spelled opaque pad word laid_at led name_ok directory_bytes name_bytes rights_of image acl_text digits acl_entry_text directory_of names_at opaque_at word_at counted_at whole_at count_at name_at spelled_at bytes_below
settled_unsent h =
    let g = h.1.1.1.1.1.1.1.1.1.1.0.0.0.1.1.0.1 in
    let past : List Entry = past_of (set_up_entry (script 2) ∷ []) (entries (start (script 2)) two_breaks) in
    let from : List Entry = past_of (set_up_entry (script 2) ∷ []) (take 4 (entries (start (script 2)) two_breaks)) in
    not_carried (Server 1) (Client 1) 1 1 g.what 2 past from refl refl refl (subst (λ (m : Message). IsCarried (Server 1) (Client 1) m.head.epoch m.head.number g.what 2 past) (sym (some_of _ g.reply g.by)) g.back.carried)

-- a timeout of the client's second call
abbrev pub times_two_out : ℕ → Line
times_two_out n = lines.Timeout (Client 1) (Server 1) 1 2 n

-- ---- what is shown came to the client

abbrev status : ReadStatus
status = record { kind = 1; link_count = 1; length = 3; mode = 420 }

abbrev stat_front : List Input
stat_front = begins 1 (acts.Stat (operands.Fid file)) ∷ gives 1 steady ∷ gives 2 steady ∷ []

-- a client that only ever looked at a file shows what is in it, from its cache
read_what_was_only_looked_at : Legal (entries (start (script 1)) stat_front ++ step_of (Client 1) (begun 1 ∷ shown Cached ∷ answer 1 ∷ []) [] ∷ []) (script 1) → ⊥
unfolding moved begin_row client_row server_row back_timeout_row wake_row start_row record_bytes head_form volume_form spelled opaque pad word laid_at led name_ok directory_bytes name_bytes rights_of image acl_text digits acl_entry_text directory_of names_at opaque_at word_at counted_at whole_at count_at name_at spelled_at bytes_below
read_what_was_only_looked_at h =
    elim h.1.1.1.0.0.0.1.0.1.0.brought.1 [
      | inl x ↦ x.1.1.0
      | inr y ↦ elim y [
        | inl x ↦ let e : seen.Status status ≡ seen.Contents (bodies.File (codes "abc")) = x.1.1.1.1 in absurd cc
        | inr x ↦ x
      ]
    ]

-- an act that needs a status shows what is in the file besides
shown_unneeded : Legal (entries (start (script 1)) open_front ++ step_of (Client 1) (lines.Begin (Client 1) (acts.Stat (operands.Fid file)) ∷ shown Cached ∷ []) [] ∷ []) (script 1) → ⊥
unfolding moved begin_row client_row server_row back_timeout_row wake_row start_row record_bytes head_form volume_form spelled opaque pad word laid_at led name_ok directory_bytes name_bytes rights_of image acl_text digits acl_entry_text directory_of names_at opaque_at word_at counted_at whole_at count_at name_at spelled_at bytes_below
shown_unneeded h = let x = h.1.1.1.0.0.0.1.0.0.1 in subst (λ (a : Going). IsNeededFrom Cached file (seen.Contents (bodies.File (codes "abc"))) (next a)) (sym (some_of _ _ x.runs)) x.needs

-- a client begins to open a file that it has, and shows it in a later entry, to which nothing gave rise
shown_by_itself : Legal (entries (start (script 1)) open_front ++ step_of (Client 1) (begun 1 ∷ []) [] ∷ step_of (Client 1) (shown Cached ∷ []) [] ∷ []) (script 1) → ⊥
unfolding moved begin_row client_row server_row back_timeout_row wake_row start_row record_bytes head_form volume_form spelled opaque pad word laid_at led name_ok directory_bytes name_bytes rights_of image acl_text digits acl_entry_text directory_of names_at opaque_at word_at counted_at whole_at count_at name_at spelled_at bytes_below
shown_by_itself h = elim h.1.1.1.1.0.0.0.0.1.1 [ inl x ↦ let e : false ≡ true = x.0 in absurd cc | inr u ↦ let e : false ≡ true = u.1 in absurd cc ]

-- it had read the file once, and when its promise was over another set the mode; now it looks at the file again, and shows the contents of before as
-- those of the version at which it looked: its server wasn't asked whether it may read them still
abbrev looked_again : List Input
looked_again =
    begins 1 (acts.Open (operands.Fid file)) ∷ gives 1 steady ∷ gives 2 steady ∷ ticks 7200 ∷ begins 2 (acts.SetMode (operands.Fid file) 384) ∷ gives 3 steady ∷ gives 4 steady ∷ begins 1 (acts.Stat (operands.Fid file)) ∷ gives 5 steady ∷ gives 6 steady ∷ []

pub status_not : (a : ReadStatus) (b : Body) → seen.Status a ≡ seen.Contents b → ⊥
status_not a b e = absurd cc

contents_of_another_version : Legal (entries (start (script 2)) looked_again ++ step_of (Client 1) (begun 1 ∷ lines.Read (Client 1) file 2 Cached (seen.Contents (bodies.File (codes "abc"))) ∷ answer 1 ∷ []) [] ∷ []) (script 2) → ⊥
unfolding moved begin_row client_row server_row back_timeout_row wake_row start_row record_bytes head_form volume_form spelled opaque pad word laid_at led name_ok directory_bytes name_bytes rights_of image acl_text digits acl_entry_text directory_of names_at opaque_at word_at counted_at whole_at count_at name_at spelled_at bytes_below
contents_of_another_version h =
    elim h.1.1.1.1.1.1.1.1.1.1.0.0.0.1.0.1.0.brought.1 [
      | inl x ↦ x.1.1.0
      | inr a ↦ elim a [
        | inl x ↦ status_not _ _ x.1.1.1.1
        | inr b ↦ elim b [
          | inl x ↦ two_clients x.0
          | inr d ↦ elim d [
            | inl x ↦ x.1.1.0
            | inr e ↦ elim e [ inl x ↦ let n : 1 ≡ 2 = x.1.1.0 in absurd (omega (arith, n)) | inr x ↦ x ]
          ]
        ]
      ]
    ]

-- a client looks at a file whose mode another sets; it shows the new mode from its cache, of which nothing came to it
abbrev mode_front : List Input
mode_front = stat_front ++ begins 2 (acts.SetMode (operands.Fid file) 384) ∷ gives 3 steady ∷ []

status_that_never_came : Legal (entries (start (script 2)) mode_front ++ step_of (Client 1) (lines.Begin (Client 1) (acts.Stat (operands.Fid file)) ∷ lines.Read (Client 1) file 2 Cached (seen.Status (record status { mode = 384 })) ∷ answer 1 ∷ []) [] ∷ []) (script 2) → ⊥
unfolding moved begin_row client_row server_row back_timeout_row wake_row start_row record_bytes head_form volume_form spelled opaque pad word laid_at led name_ok directory_bytes name_bytes rights_of image acl_text digits acl_entry_text directory_of names_at opaque_at word_at counted_at whole_at count_at name_at spelled_at bytes_below
status_that_never_came h =
    elim h.1.1.1.1.1.0.0.0.1.0.1.0.brought.0 [
      | inl x ↦ x.1.1.0
      | inr y ↦ elim y [ inl x ↦ let e : 1 ≡ 2 = x.1.1.0 in absurd (omega (arith, e)) | inr x ↦ x ]
    ]

-- or by the reply that brings its status
fetched_by_a_status : Legal (alters 2 (instead (lines.Given 2 ∷ shown Fetched ∷ [])) (entries (start (script 1)) stat_front)) (script 1) → ⊥
unfolding moved begin_row client_row server_row back_timeout_row wake_row start_row record_bytes head_form volume_form spelled opaque pad word laid_at led name_ok directory_bytes name_bytes rights_of image acl_text digits acl_entry_text directory_of names_at opaque_at word_at counted_at whole_at count_at name_at spelled_at bytes_below
fetched_by_a_status h =
    let u = h.1.1.0.0.0.1.0.1.0.used refl in
    let past : List Entry = past_of (set_up_entry (script 1) ∷ []) (entries (start (script 1)) (take 2 stat_front)) in
    elim (subst (λ (m : Message). CalledSince (answered_key m.head) (codes "guest") u.used.call past) (sym (some_of _ _ u.used.by)) u.used.called) [
      | inl x ↦ let e : actors.Node (Server 1) ≡ actors.Node (Client 1) = x.0 in absurd cc
      | inr x ↦ elim x.1 [
        | inl y ↦ elim y.1 [
          | inl z ↦ subst (λ (k : FsCall). Brings k file (seen.Contents (bodies.File (codes "abc")))) (sym (one_call _ _ _ _ z.1)) u.of
          | inr z ↦ z
        ]
        | inr y ↦ let e : true ≡ false = y.0 in absurd cc
      ]
    ]

-- what was promised before a crash is dropped by it
gave_none : (e f : Entry) (older rest : List Entry) (ls : List Line) (m : Message) → e ≡ f → f.lines ≡ ls → ((sent : List Message) → given_message ls sent ≡ None) → given_message e.lines (sent_of older) ≡ Some m → ⊥
gave_none e f older rest ls m same is none given = let no_ : None ≡ Some m = sym (none (sent_of older)) ∙ (ap (λ (x : List Line). given_message x (sent_of older)) (sym is) ∙ (ap (λ (x : Entry). given_message x.lines (sent_of older)) (sym same) ∙ given)) in absurd cc

entry_first : (a b : Entry) (p q : List Entry) → a ∷ p ≡ b ∷ q → a ≡ b
entry_first a b p q e = cc

entry_rest : (a b : Entry) (p q : List Entry) → a ∷ p ≡ b ∷ q → p ≡ q
entry_rest a b p q e = cc

crash_since : (server : Node) (a b : Entry) (rest newer : List Entry) (at : Entry) (older : List Entry) (m : Message) (base : List Line) → a ∷ (b ∷ rest) ≡ newer ++ (at ∷ older) → given_message at.lines (sent_of older) ≡ Some m → a.lines ≡ lines.Restart (Client 1) 2 ∷ [] → b.lines ≡ lines.Crash (Client 1) ∷ [] → IsDropped server (Client 1) file (lines_on base newer)
crash_since server a b rest [] at older m base split given up down = absurd (gave_none at a older rest _ m (sym (entry_first a at (b ∷ rest) older split)) up (λ s. refl) given)
crash_since server a b rest (x ∷ []) at older m base split given up down = absurd (gave_none at b older rest _ m (sym (entry_first b at rest older (entry_rest a x (b ∷ rest) (at ∷ older) split))) down (λ s. refl) given)
crash_since server a b rest (x ∷ y ∷ newer) at older m base split given up down =
    let rest_ : b ∷ rest ≡ y ∷ (newer ++ (at ∷ older)) = entry_rest a x (b ∷ rest) (y ∷ (newer ++ (at ∷ older))) split in
    subst (λ (e : Entry). IsDropped server (Client 1) file (onto (onto (lines_on base newer) y.lines) e.lines)) (entry_first a x (b ∷ rest) (y ∷ (newer ++ (at ∷ older))) split)
    (subst (λ (ls : List Line). IsDropped server (Client 1) file (onto (onto (lines_on base newer) y.lines) ls)) (sym up)
    (subst (λ (e : Entry). IsDropped server (Client 1) file (lines.Restart (Client 1) 2 ∷ onto (lines_on base newer) e.lines)) (entry_first b y rest (newer ++ (at ∷ older)) rest_)
    (subst (λ (ls : List Line). IsDropped server (Client 1) file (lines.Restart (Client 1) 2 ∷ onto (lines_on base newer) ls)) (sym down) (inl refl))))

-- a client reads from its cache what it had before it crashed
read_over_a_crash : Legal (entries (start (script 1)) (stat_front ++ client_stops 1 ∷ client_starts 1 ∷ []) ++ step_of (Client 1) (lines.Begin (Client 1) (acts.Stat (operands.Fid file)) ∷ lines.Read (Client 1) file 1 Cached (seen.Status status) ∷ answer 1 ∷ []) [] ∷ []) (script 1) → ⊥
unfolding moved begin_row client_row server_row back_timeout_row wake_row start_row record_bytes head_form volume_form spelled opaque pad word laid_at led name_ok directory_bytes name_bytes rights_of image acl_text digits acl_entry_text directory_of names_at opaque_at word_at counted_at whole_at count_at name_at spelled_at bytes_below
read_over_a_crash h =
    let g = h.1.1.1.1.1.0.0.0.1.0.1.0 in
    g.kept (crash_since g.grant.server _ _ _ g.grant.ran.newer g.grant.ran.at g.grant.ran.older g.grant.ran.message (onto [] g.grant.after) g.grant.ran.split g.grant.ran.given refl refl)

-- ---- what is fetched is what its reply brought

-- each line of these entries meets this test
abbrev all_told : (Line → Bool) → List Entry → Bool
all_told q [] = true
all_told q (e ∷ past) = all_lines q e.lines && all_told q past

told_at : (q : Line → Bool) (newer : List Entry) (at : Entry) (older : List Entry) → all_told q (newer ++ (at ∷ older)) ≡ true → all_lines q at.lines ≡ true
told_at q [] at older h = (both (all_lines q at.lines) (all_told q older) h).0
told_at q (e ∷ newer) at older h = told_at q newer at older (both (all_lines q e.lines) (all_told q (newer ++ (at ∷ older))) h).1

-- no promise of this index was made
abbrev is_other_grant : ℕ → Line → Bool
is_other_grant n (lines.Grant s c f index expiry) = not (nat_eq index n)
is_other_grant n l = true

no_such_grant : (n : ℕ) (c : Node) (f : Fid) (x : ℕ) (reply : Message) (past : List Entry) → (g : GrantOf c f x reply past) → all_told (is_other_grant n) past ≡ true → not (nat_eq n n) ≡ false → g.index ≡ n → ⊥
no_such_grant n c f x reply past g none own same =
    no_such_owe g.before g.after g.ran.at.lines (lines.Grant g.server c f g.index x) (is_other_grant n) (told_at (is_other_grant n) g.ran.newer g.ran.at g.ran.older (subst (λ (p : List Entry). all_told (is_other_grant n) p ≡ true) g.ran.split none)) g.line (ap (λ (i : ℕ). not (nat_eq i n)) same ∙ own)

-- a file is stored anew while the reply with its old contents is under way; its client shows the new ones, which no message brought
fetched_what_came_later : Legal (alters 4 (instead (lines.Given 2 ∷ lines.Read (Client 1) file 2 Fetched (seen.Contents (bodies.File (codes "def"))) ∷ answer 1 ∷ [])) (entries (start (script 2)) (changes_file ++ gives 2 steady ∷ []))) (script 2) → ⊥
unfolding moved begin_row client_row server_row back_timeout_row wake_row start_row record_bytes head_form volume_form spelled opaque pad word laid_at led name_ok directory_bytes name_bytes rights_of image acl_text digits acl_entry_text directory_of names_at opaque_at word_at counted_at whole_at count_at name_at spelled_at bytes_below
fetched_what_came_later h = let g = h.1.1.1.1.0.0.0.1.0.1.0 in no_such_grant 2 _ _ _ _ _ g.grant refl refl (g.exact refl)

-- what the cause of a read of rights says of the entry that ran its call
record RanForRights (e : Entry) (older : List Entry) : Type 0 where
  message : Message
  given : given_message e.lines (sent_of older) ≡ Some message
  key : called_key message.head ≡ key_of_one 1
  last : IsLast root 2 (lines_of older)

rights_none : (e : Entry) (older : List Entry) → given_message e.lines (sent_of older) ≡ None → RanForRights e older → ⊥
rights_none e older none x = let no_ : None ≡ Some x.message = sym none ∙ x.given in absurd cc

rights_of_another : (e : Entry) (older : List Entry) (m : Message) → given_message e.lines (sent_of older) ≡ Some m → m.head.from ≡ Client 2 → RanForRights e older → ⊥
rights_of_another e older m at two x = two_clients (sym two ∙ (ap (λ (q : Message). q.head.from) (some_of m x.message (sym at ∙ x.given)) ∙ ap (λ (k : Key). k.node) x.key))

rights_before : (e : Entry) (older : List Entry) → option_map (λ (v : Version). v.index) (last_version root (lines_of older)) ≡ Some 1 → RanForRights e older → ⊥
rights_before e older one x = let no_ : 1 ≡ 2 = some_of 1 2 (sym one ∙ x.last) in absurd (omega (arith, no_))

-- a list of rights is stored anew while the reply with the old one is under way; its client shows the new one
abbrev ann_alone : List ℕ
ann_alone = codes "1\n0\nann\t127\n"

abbrev listed_anew : List Input
listed_anew = begins 1 (acts.GetAccessList (operands.Fid root)) ∷ gives 1 steady ∷ begins 2 (acts.SetAccessList (operands.Fid root) (Hex ann_alone)) ∷ gives 3 steady ∷ []

abbrev listed_past : List Entry
listed_past = past_of (set_up_entry (script 2) ∷ []) (entries (start (script 2)) listed_anew)

rights_of_another_moment : Legal (alters 4 (instead (lines.Given 2 ∷ lines.Read (Client 1) root 2 Fetched (seen.AccessList ann_alone) ∷ answer 1 ∷ [])) (entries (start (script 2)) (listed_anew ++ gives 2 steady ∷ []))) (script 2) → ⊥
unfolding moved begin_row client_row server_row back_timeout_row wake_row start_row record_bytes head_form volume_form spelled opaque pad word laid_at led name_ok directory_bytes name_bytes rights_of image acl_text digits acl_entry_text directory_of names_at opaque_at word_at counted_at whole_at count_at name_at spelled_at bytes_below acl_laid acl_at acl_entry_at access.name_at named_at line_number_at access.count_at
rights_of_another_moment h =
    let g = h.1.1.1.1.0.0.0.1.0.1 in
    let c = g.cause in
    let there : Among RanForRights listed_past = subst (Among RanForRights) (sym c.ran.split) (is_among RanForRights c.ran.newer c.ran.at c.ran.older (record { message = c.ran.message; given = c.ran.given; key = c.ran.key ∙ ap (λ (m : Message). answered_key m.head) (sym (some_of _ _ g.used.by)); last = g.exact })) in
    elim there [
      | inl x ↦ rights_of_another _ _ _ refl refl x
      | inr y ↦ elim y [
        | inl x ↦ rights_none _ _ refl x
        | inr z ↦ elim z [
          | inl x ↦ rights_before _ _ refl x
          | inr w ↦ elim w [ inl x ↦ rights_none _ _ refl x | inr v ↦ elim v [ inl x ↦ rights_none _ _ refl x | inr u ↦ u ] ]
        ]
      ]
    ]

-- ---- a reply is of its call's kind

abbrev tells_the_time : Entry → Entry
tells_the_time e = record e { sent = map (λ (m : Message). record m { carried = carried.Reply (tell.File (replies.GetTime 0 0)) }) e.sent }

a_fetch_tells_no_time : ◌≡◌ {A = ℕ} 153 130 → ⊥
a_fetch_tells_no_time e = absurd (omega (arith, e))

answered_by_another_kind : Legal (alters 1 tells_the_time (entries (start (script 1)) fetch_front)) (script 1) → ⊥
unfolding moved begin_row client_row server_row back_timeout_row wake_row start_row record_bytes head_form volume_form spelled opaque pad word laid_at led name_ok directory_bytes name_bytes rights_of image acl_text digits acl_entry_text directory_of names_at opaque_at word_at counted_at whole_at count_at name_at spelled_at bytes_below
answered_by_another_kind h =
    elim (ran_for _ _ (h.1.0.1.1.0.0 1 1 (refl, tt) refl refl)) [
      | inl x ↦ for_call _ _ _ _ _ (codes "guest") (calls.FetchData file (pos 0) (pos 2147483647)) (pos 0) refl refl refl x (λ result kind. a_fetch_tells_no_time kind)
      | inr y ↦ elim y [ inl x ↦ for_none _ _ _ _ refl x | inr z ↦ elim z [ inl x ↦ for_none _ _ _ _ refl x | inr w ↦ w ] ]
    ]

-- a server refuses with code 0, which tells nothing of what its client asked
abbrev refuses_with_zero : Entry → Entry
refuses_with_zero e = record e { sent = map (λ (m : Message). record m { carried = carried.Refusal (record { 0 = pos 0 }) }) e.sent }

refused_with_zero : Legal (alters 1 refuses_with_zero (entries (start (script 1)) fetch_front)) (script 1) → ⊥
unfolding moved begin_row client_row server_row back_timeout_row wake_row start_row record_bytes head_form volume_form spelled opaque pad word laid_at led name_ok directory_bytes name_bytes rights_of image acl_text digits acl_entry_text directory_of names_at opaque_at word_at counted_at whole_at count_at name_at spelled_at bytes_below
refused_with_zero h =
    elim (ran_for _ _ (h.1.0.1.1.0.0 1 1 (refl, tt) refl refl)) [
      | inl x ↦ for_call _ _ _ _ _ (codes "guest") (calls.FetchData file (pos 0) (pos 2147483647)) (pos 0) refl refl refl x (λ result kind. kind refl)
      | inr y ↦ elim y [ inl x ↦ for_none _ _ _ _ refl x | inr z ↦ elim z [ inl x ↦ for_none _ _ _ _ refl x | inr w ↦ w ] ]
    ]

-- ---- a client that is down does nothing but begin again

begin_not : (c : Node) (act : Act) (n : Node) (k : ℕ) (ls : List Line) → lines.Begin c act ∷ ls ≡ lines.Restart n k ∷ [] → ⊥
begin_not c act n k ls e = absurd cc

restart_not : (n c : Node) (k : ℕ) → lines.Restart n k ∷ [] ≡ lines.Crash c ∷ [] → ⊥
restart_not n c k e = absurd cc

pub true_not : true ≡ false → ⊥
true_not e = absurd cc

-- one that crashed begins an act
acted_when_down : Legal (entries (start (script 1)) (client_stops 1 ∷ []) ++ entries (start (script 1)) (begins 1 (acts.Open (operands.Fid file)) ∷ [])) (script 1) → ⊥
unfolding moved begin_row client_row server_row back_timeout_row wake_row start_row record_bytes head_form volume_form spelled opaque pad word laid_at led name_ok directory_bytes name_bytes rights_of image acl_text digits acl_entry_text directory_of names_at opaque_at word_at counted_at whole_at count_at name_at spelled_at bytes_below
acted_when_down h = begin_not _ _ _ _ _ h.1.0.1.0.1.1.0.0

-- one that is up begins again
begun_again_when_up : Legal (step_of (Client 1) (lines.Restart (Client 1) 2 ∷ []) [] ∷ []) (script 1) → ⊥
unfolding moved begin_row client_row server_row back_timeout_row wake_row start_row record_bytes head_form volume_form spelled opaque pad word laid_at led name_ok directory_bytes name_bytes rights_of image acl_text digits acl_entry_text directory_of names_at opaque_at word_at counted_at whole_at count_at name_at spelled_at bytes_below
begun_again_when_up h = elim h.0.1.0.1.1.0 [ inl x ↦ restart_not _ _ _ x.0 | inr x ↦ true_not x ]
