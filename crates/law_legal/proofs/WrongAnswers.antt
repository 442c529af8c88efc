-- Histories that are wrong for one reason each: a run, altered in one entry, of which just one condition isn't met. (Some of those of a server
-- that stops or is down, of a timeout, of a read after a refusal, and of a client that makes two calls of one act, more than one condition refuses.)
use Rattle.law_legal.proofs.ActIsMade.{not_sought}
use Rattle.afs_num.specs.declared.types.Key.{Key}
use Rattle.afs_num.specs.declared.types.Head.{Head}
use Rattle.spec_records.specs.Records.{record_bytes, head_form, volume_form}
use Rattle.spec_rows.specs.ServerSteps.{server_row, back_timeout_row, wake_row, start_row}
use Rattle.spec_history.specs.declared.acts.Act.TheVariants as acts
use Rattle.spec_history.specs.declared.acts.Operand.TheVariants as operands
use Rattle.spec_history.specs.declared.acts.Written.TheVariants.{Hex}
use Rattle.spec_history.specs.declared.lines.Line.{Line}
use Rattle.spec_history.specs.declared.lines.Line.TheVariants as lines
use Rattle.spec_ideal.specs.AccessLists.{rights_of, acl_text, acl_entry_text}
use Rattle.spec_ideal.specs.Directories.{directory_bytes, name_bytes, directory_of, names_at, whole_at, count_at, name_at, spelled_at, bytes_below}
use Rattle.spec_ideal.specs.SetUp.{laid_at, led}
use Rattle.spec_ideal.specs.VnodeImage.{image}
use Rattle.law_legal.proofs.BaseLaws.{some_of}
use Rattle.law_legal.proofs.ServerHeardBefore.{ran_heard}
use Rattle.afs_num.specs.declared.types.Node.{Node}
use Rattle.law_legal.proofs.Worked.{alters, answer, begun, entries, file, root, script, six_front}
use Rattle.law_legal.specs.Breaks.{HasStopped}
use Rattle.law_legal.specs.Legal.{Answered, IsKind, IsLastCall, EndsAct, IsResult, Legal, ideal_answer, code_given}
use Rattle.spec_model.specs.Messages.{spelled}
use Rattle.afs_num.specs.Names.{name_ok}
use Rattle.afs_num.specs.declared.types.Fid.{Fid}
use Rattle.spec_rows.specs.ClientRow.{begin_row, client_row}
use Rattle.spec_rows.specs.Going.{Going, answers, asks_for, gives_back, next, reads, stored_whole}
use Rattle.spec_rows.specs.Runs.{Cell, Entry, Input, begins, comes_up, gives, moved, server_waits, sets_stop, start, starts_again, steady, stops, waits}
use Rattle.afs_xdr.specs.Words.{opaque, pad, word, opaque_at, word_at, counted_at}
use Rattle.law_legal.specs.Ideal.{set_up_entry}
use Rattle.law_legal.specs.Once.{past_of}
use Rattle.law_legal.specs.Past.{WasSent, SendsTo, IsCall, CalledSince, IsFirstOfItsBoot, called_key, Ran, answered_key, code_told, given_message, lines_of, sent_of}
use Rattle.afs_num.specs.declared.calls.FsCall.{FsCall}
use Rattle.afs_num.specs.declared.calls.FsCall.TheVariants as calls
use Rattle.afs_num.specs.declared.volume_calls.VolCall.TheVariants as volumes
use Rattle.afs_num.specs.declared.histories.Actor.TheVariants as actors
use Rattle.afs_num.specs.declared.messages.Call.TheVariants as ask
use Rattle.afs_num.specs.declared.types.Half.TheVariants as halves
use Rattle.afs_num.specs.declared.histories.Body.TheVariants as bodies
use Rattle.afs_num.specs.declared.histories.ReadBody.TheVariants as seen
use Rattle.afs_num.specs.declared.histories.ReadSource.{ReadSource}
use Rattle.afs_num.specs.declared.histories.ReadSource.TheVariants.{Cached, Fetched}
use Rattle.afs_num.specs.declared.messages.Carried.TheVariants as carried
use Rattle.afs_num.specs.declared.messages.Reply.TheVariants as tell
use Rattle.afs_num.specs.declared.calls.FsReply.TheVariants as replies
use Rattle.afs_num.specs.declared.messages.Message.{Message}
use Rattle.afs_num.specs.declared.types.Node.TheVariants.{Client, Server, Loc}
use Rattle.std.proofs.Common.{arith, ◌<◌, ◌≤◌, ◌≡◌, ◌∙◌, true, false, ℕ, ℤ, List, [], ◌∷◌, ◌++◌, ◌⊎◌, Option, None, Some, ap, sym, subst, refl, inl, inr, negsuc, pos}
use Rattle.std.specs.Fmt.{digits}
use Rattle.std.specs.Prelude.{⊤, codes, drop, map, take}

-- an entry with other lines, which sends nothing
abbrev pub instead : List Line → Entry → Entry
instead ls e = record e { lines = ls; sent = [] }

no_answer : (f : Fid) (n : ℕ) → reads f ≡ answers n → ⊥
no_answer f n e = absurd cc

no_answer_call : (call : FsCall) (n : ℕ) → asks_for call ≡ answers n → ⊥
no_answer_call call n e = absurd cc

no_gift : (f : Fid) → reads f ≡ gives_back → ⊥
no_gift f e = absurd cc

-- an entry that is found by a split of the past is one of it
abbrev pub Among : (Entry → List Entry → Type 0) → List Entry → Type 0
Among P [] = ⊥
Among P (e ∷ past) = P e past ⊎ Among P past

pub is_among : (P : Entry → List Entry → Type 0) (newer : List Entry) (at : Entry) (older : List Entry) → P at older → Among P (newer ++ (at ∷ older))
is_among P [] at older x = inl x
is_among P (e ∷ newer) at older x = inr (is_among P newer at older x)

pub one_user : (u v : List ℕ) (c d : FsCall) → carried.Call u (ask.File c) ≡ carried.Call v (ask.File d) → u ≡ v
one_user u v c d e = cc

pub one_call : (u v : List ℕ) (c d : FsCall) → carried.Call u (ask.File c) ≡ carried.Call v (ask.File d) → c ≡ d
one_call u v c d e = cc

-- what a server's reply says of the entry that ran its call
pub record RanFor (m : Message) (ls : List Line) (e : Entry) (older : List Entry) : Type 0 where
  pub message : Message
  pub given : given_message e.lines (sent_of older) ≡ Some message
  pub user : List ℕ
  pub call : FsCall
  pub carries : message.carried ≡ carried.Call user (ask.File call)
  pub code : ℤ
  pub told : code_told m.carried ≡ Some code
  pub result : IsResult m.head.from code (ideal_answer user call older) (answered_key m.head) e.lines ls
  pub kind : IsKind call m.carried

pub ran_for : (m : Message) (past : List Entry) → Answered m past → Among (RanFor m (lines_of past)) past
ran_for m past a = subst (Among (RanFor m (lines_of past))) (sym a.ran.split) (is_among (RanFor m (lines_of past)) a.ran.newer a.ran.at a.ran.older (record { message = a.ran.message; given = a.ran.given; user = a.user; call = a.call; carries = a.carries; code = a.code; told = a.told; result = a.result; kind = a.kind }))

-- it isn't one that was given nothing
pub for_none : (m : Message) (ls : List Line) (e : Entry) (older : List Entry) → given_message e.lines (sent_of older) ≡ None → RanFor m ls e older → ⊥
for_none m ls e older none x = let no_ : None ≡ Some x.message = sym none ∙ x.given in absurd cc

-- and of one that was given this call it says what is due to that
pub for_call : (m : Message) (ls : List Line) (e : Entry) (older : List Entry) (k : Message) (user : List ℕ) (call : FsCall) (code : ℤ) → given_message e.lines (sent_of older) ≡ Some k → k.carried ≡ carried.Call user (ask.File call) → code_told m.carried ≡ Some code → RanFor m ls e older
    → (IsResult m.head.from code (ideal_answer user call older) (answered_key m.head) e.lines ls → IsKind call m.carried → ⊥) → ⊥
for_call m ls e older k user call code given is told x w =
    let same : carried.Call user (ask.File call) ≡ carried.Call x.user (ask.File x.call) = sym is ∙ (ap (λ (y : Message). y.carried) (some_of k x.message (sym given ∙ x.given)) ∙ x.carries) in
    let codes_ : x.code ≡ code = some_of x.code code (sym x.told ∙ told) in
    let by_user : IsResult m.head.from x.code (ideal_answer user x.call older) (answered_key m.head) e.lines ls = subst (λ (u : List ℕ). IsResult m.head.from x.code (ideal_answer u x.call older) (answered_key m.head) e.lines ls) (sym (one_user _ _ _ _ same)) x.result in
    let by_call : IsResult m.head.from x.code (ideal_answer user call older) (answered_key m.head) e.lines ls = subst (λ (c : FsCall). IsResult m.head.from x.code (ideal_answer user c older) (answered_key m.head) e.lines ls) (sym (one_call _ _ _ _ same)) by_user in
    w (subst (λ (n : ℤ). IsResult m.head.from n (ideal_answer user call older) (answered_key m.head) e.lines ls) codes_ by_call) (subst (λ (c : FsCall). IsKind c m.carried) (sym (one_call _ _ _ _ same)) x.kind)

-- where the ideal operation gives it code 0, no other is due, but for 108 from a server that wasn't interrupted in it
not_due : (m : Message) (ls : List Line) (e : Entry) (older : List Entry) (k : Message) (user : List ℕ) (call : FsCall) (code : ℤ) → given_message e.lines (sent_of older) ≡ Some k → k.carried ≡ carried.Call user (ask.File call) → code_told m.carried ≡ Some code → code_given (ideal_answer user call older) ≡ pos 0 → (pos 0 ≡ code → ⊥) → (code ≡ pos 108 → HasStopped m.head.from e.lines) → RanFor m ls e older → ⊥
not_due m ls e older k user call code given is told zero other stop x = for_call m ls e older k user call code given is told x (λ result kind. elim result [ inl y ↦ other (sym zero ∙ y.0) | inr y ↦ y.1.1.1 (stop y.0) ])

-- what the last of these inputs makes a node send
abbrev pub sent_by : Cell → List Input → List Message
sent_by c [] = []
sent_by c (x ∷ []) = (moved c x).entry.sent
sent_by c (x ∷ y ∷ xs) = sent_by (moved c x).cell (y ∷ xs)

abbrev pub step_of : Node → List Line → List Message → Entry
step_of n ls ms = record { actor = actors.Node n; lines = ls; sent = ms; volumes = [] }

-- a client is told what is in a file
abbrev pub fetch_front : List Input
fetch_front = begins 1 (acts.Open (operands.Fid file)) ∷ gives 1 steady ∷ []

-- ---- a store is acknowledged by the reply to its walk: nothing was changed

abbrev pub walk_front : List Input
walk_front = begins 1 (acts.Close (operands.Path (record { volume = codes "proj"; names = codes "a" ∷ [] })) (Hex (codes "def"))) ∷ gives 1 steady ∷ gives 2 steady ∷ []

closed_by_the_walk : Legal (alters 2 (instead (lines.Given 2 ∷ answer 1 ∷ [])) (entries (start (script 1)) walk_front)) (script 1) → ⊥
unfolding moved begin_row client_row server_row back_timeout_row wake_row start_row record_bytes head_form volume_form spelled opaque pad word laid_at led name_ok directory_bytes name_bytes rights_of image acl_text digits acl_entry_text directory_of names_at opaque_at word_at counted_at whole_at count_at name_at spelled_at bytes_below
closed_by_the_walk h =
    let g = h.1.1.0.0.0.1.0.1 in
    elim g.cause [
      | inl x ↦ subst (λ (a : Going). EndsAct (next a)) (sym (some_of _ _ g.runs)) (x.ends refl)
      | inr y ↦ elim y [
        | inl x ↦ no_answer _ x.number (ap next (some_of _ _ g.runs) ∙ x.by)
        | inr z ↦ elim z [
          | inl x ↦ let e : pos 0 ≡ negsuc 0 = x.is in absurd cc
          | inr u ↦ elim u [ inl x ↦ no_gift _ (ap next (some_of _ _ g.runs) ∙ x.by) | inr t ↦ not_sought _ _ _ _ _ _ 0 refl refl refl refl t ]
        ]
      ]
    ]

-- an open of a directory is acknowledged by its reply, without the line that shows it and without the 21 that is due
listed_without_a_line : Legal (alters 2 (instead (lines.Given 2 ∷ answer 1 ∷ [])) (entries (start (script 1)) (begins 1 (acts.Open (operands.Fid root)) ∷ gives 1 steady ∷ gives 2 steady ∷ []))) (script 1) → ⊥
unfolding moved begin_row client_row server_row back_timeout_row wake_row start_row record_bytes head_form volume_form spelled opaque pad word laid_at led name_ok directory_bytes name_bytes rights_of image acl_text digits acl_entry_text directory_of names_at opaque_at word_at counted_at whole_at count_at name_at spelled_at bytes_below
listed_without_a_line h =
    let g = h.1.1.0.0.0.1.0.1 in
    elim g.cause [
      | inl x ↦ subst (λ (a : Going). EndsAct (next a)) (sym (some_of _ _ g.runs)) (x.ends refl)
      | inr y ↦ elim y [
        | inl x ↦ no_answer _ x.number (ap next (some_of _ _ g.runs) ∙ x.by)
        | inr z ↦ elim z [
          | inl x ↦ let e : pos 0 ≡ negsuc 0 = x.is in absurd cc
          | inr u ↦ elim u [ inl x ↦ no_gift _ (ap next (some_of _ _ g.runs) ∙ x.by) | inr t ↦ not_sought _ _ _ _ _ _ 0 refl refl refl refl t ]
        ]
      ]
    ]

-- ---- what is done by its read lines alone

given_back : (n : ℕ) → answers n ≡ gives_back → ⊥
given_back n e = absurd cc

of_reply : (o : Option Message) (m k : Message) (code : ℤ) → o ≡ Some m → o ≡ Some k → code_told m.carried ≡ Some code → code_told k.carried ≡ Some (pos 0) → code ≡ pos 0
of_reply o m k code a b c d = some_of code (pos 0) (sym c ∙ (ap (λ (x : Message). code_told x.carried) (some_of m k (sym a ∙ b)) ∙ d))

-- an open is refused, for its file was removed; the client shows what it held of that all the same
abbrev removed_front : List Input
removed_front = begins 1 (acts.Stat (operands.Fid file)) ∷ gives 1 steady ∷ gives 2 steady ∷ begins 2 (acts.Remove (record { volume = codes "proj"; names = codes "a" ∷ [] })) ∷ gives 3 steady ∷ gives 4 steady ∷ gives 5 steady ∷ begins 1 (acts.Open (operands.Fid file)) ∷ gives 7 steady ∷ gives 8 steady ∷ []

abbrev pub shown : ReadSource → Line
shown source = lines.Read (Client 1) file 1 source (seen.Contents (bodies.File (codes "abc")))

shown_against_a_refusal : Legal (alters 9 (instead (lines.Given 8 ∷ shown Cached ∷ answer 1 ∷ [])) (entries (start (script 2)) removed_front)) (script 2) → ⊥
unfolding moved begin_row client_row server_row back_timeout_row wake_row start_row record_bytes head_form volume_form spelled opaque pad word laid_at led name_ok directory_bytes name_bytes rights_of image acl_text digits acl_entry_text directory_of names_at opaque_at word_at counted_at whole_at count_at name_at spelled_at bytes_below
shown_against_a_refusal h =
    let g = h.1.1.1.1.1.1.1.1.1.0.0.0.1.1.0.1 in
    elim g.cause [
      | inl x ↦ subst (λ (a : Going). EndsAct (next a)) (sym (some_of _ _ g.runs)) (x.ends refl)
      | inr y ↦ elim y [
        | inl x ↦ elim x.last [ inl z ↦ let e : false ≡ true = z.0 in absurd cc | inr u ↦ let e : pos 102 ≡ pos 0 = of_reply _ _ u.0.reply _ refl u.0.by refl u.0.told in absurd cc ]
        | inr z ↦ elim z [
          | inl x ↦ let e : pos 0 ≡ negsuc 0 = x.is in absurd cc
          | inr u ↦ elim u [ inl x ↦ given_back _ (ap next (some_of _ _ g.runs) ∙ x.by) | inr t ↦ not_sought _ _ _ _ _ _ 0 refl refl refl refl t ]
        ]
      ]
    ]

-- a reply is given to an act in the entry in which it begins, and what that shows was in the cache
abbrev pub again_front : List Input
again_front = begins 1 (acts.Open (operands.Fid file)) ∷ gives 1 steady ∷ gives 2 steady ∷ begins 1 (acts.Open (operands.Fid file)) ∷ []

begun_with_a_reply : Legal (alters 3 (instead (begun 1 ∷ lines.Given 2 ∷ shown Cached ∷ answer 1 ∷ [])) (entries (start (script 1)) again_front)) (script 1) → ⊥
unfolding moved begin_row client_row server_row back_timeout_row wake_row start_row record_bytes head_form volume_form spelled opaque pad word laid_at led name_ok directory_bytes name_bytes rights_of image acl_text digits acl_entry_text directory_of names_at opaque_at word_at counted_at whole_at count_at name_at spelled_at bytes_below
begun_with_a_reply h =
    let g = h.1.1.1.0.0.0.1.1.1.0.1 in
    elim g.cause [
      | inl x ↦ let e : true ≡ false = x.before in absurd cc
      | inr y ↦ elim y [
        | inl x ↦ elim x.last [ inl z ↦ let e : true ≡ false = z.1 in absurd cc | inr u ↦ let e : true ≡ false = u.0.before in absurd cc ]
        | inr z ↦ elim z [
          | inl x ↦ let e : pos 0 ≡ negsuc 0 = x.is in absurd cc
          | inr u ↦ elim u [ inl x ↦ given_back _ (ap next (some_of _ _ g.runs) ∙ x.by) | inr t ↦ not_sought _ _ _ _ _ _ 0 refl refl refl refl t ]
        ]
      ]
    ]

-- a server refuses what the ideal operation grants, beside its promise
abbrev refuses : Entry → Entry
refuses e = record e { sent = map (λ (m : Message). record m { carried = carried.Refusal (record { 0 = pos 13 }) }) e.sent }

no_thirteen : pos 0 ≡ pos 13 → ⊥
no_thirteen e = absurd cc

thirteen_not : pos 13 ≡ pos 108 → ⊥
thirteen_not e = absurd cc

granted_by_a_refusal : Legal (alters 1 refuses (entries (start (script 1)) fetch_front)) (script 1) → ⊥
unfolding moved begin_row client_row server_row back_timeout_row wake_row start_row record_bytes head_form volume_form spelled opaque pad word laid_at led name_ok directory_bytes name_bytes rights_of image acl_text digits acl_entry_text directory_of names_at opaque_at word_at counted_at whole_at count_at name_at spelled_at bytes_below
granted_by_a_refusal h =
    elim (ran_for _ _ (h.1.0.1.1.0.0 1 1 (refl, tt) refl refl)) [
      | inl x ↦ not_due _ _ _ _ _ (codes "guest") (calls.FetchData file (pos 0) (pos 2147483647)) (pos 13) refl refl refl refl no_thirteen (λ e. absurd (thirteen_not e)) x
      | inr y ↦ elim y [ inl x ↦ for_none _ _ _ _ refl x | inr z ↦ elim z [ inl x ↦ for_none _ _ _ _ refl x | inr w ↦ w ] ]
    ]

-- ---- where a change may stand

-- a store is told one entry after its call was given: the breaks that it owes would hold no reply
abbrev parted : List Entry → List Entry
parted [] = []
parted (e ∷ []) = record e { lines = take 1 e.lines; sent = [] } ∷ record e { lines = drop 1 e.lines } ∷ []
parted (e ∷ f ∷ es) = e ∷ parted (f ∷ es)

changed_an_entry_late : Legal (parted (entries (start (script 2)) six_front)) (script 2) → ⊥
unfolding moved begin_row client_row server_row back_timeout_row wake_row start_row record_bytes head_form volume_form spelled opaque pad word laid_at led name_ok directory_bytes name_bytes rights_of image acl_text digits acl_entry_text directory_of names_at opaque_at word_at counted_at whole_at count_at name_at spelled_at bytes_below
changed_an_entry_late h = let g = h.1.1.1.1.0.0.0.0.1 in elim g.ideal.place [ inl x ↦ x.given | inr y ↦ y.boots ]

-- a break becomes owed an entry before the change that it is for: that change then owes nobody
abbrev owes_ahead : List Entry → List Entry
owes_ahead [] = []
owes_ahead (e ∷ []) = record e { lines = drop 3 e.lines; sent = [] } ∷ record e { lines = take 3 e.lines } ∷ []
owes_ahead (e ∷ f ∷ es) = e ∷ owes_ahead (f ∷ es)

owed_ahead : Legal (owes_ahead (entries (start (script 2)) six_front)) (script 2) → ⊥
unfolding moved begin_row client_row server_row back_timeout_row wake_row start_row record_bytes head_form volume_form spelled opaque pad word laid_at led name_ok directory_bytes name_bytes rights_of image acl_text digits acl_entry_text directory_of names_at opaque_at word_at counted_at whole_at count_at name_at spelled_at bytes_below
owed_ahead h = h.1.1.1.0.0.0.0.1.cause.0

-- no call among the messages is to this node
abbrev pub AreNotTo : Node → List Message → Type 0
AreNotTo q [] = ⊤
AreNotTo q (m ∷ ms) = (m.head.to ≡ q → IsCall m.carried → ⊥) × AreNotTo q ms

abbrev pub NeverTo : Node → List Entry → Type 0
NeverTo q [] = ⊤
NeverTo q (e ∷ past) = AreNotTo q e.sent × NeverTo q past

not_to : (q : Node) (k : Key) (user : List ℕ) (call : FsCall) (ms : List Message) → AreNotTo q ms → SendsTo q k user call ms → ⊥
not_to q k user call [] h x = x
not_to q k user call (m ∷ ms) h (inl x) = h.0 x.0 (subst IsCall (sym x.1.1) tt)
not_to q k user call (m ∷ ms) h (inr x) = not_to q k user call ms h.1 x

pub never_to : (q : Node) (k : Key) (user : List ℕ) (call : FsCall) (past : List Entry) → NeverTo q past → WasSent q k user call past → ⊥
never_to q k user call [] h x = x
never_to q k user call (e ∷ past) h (inl x) = not_to q k user call e.sent h.0 x
never_to q k user call (e ∷ past) h (inr x) = never_to q k user call past h.1 x

pub one_server : Server 1 ≡ Server 2 → ⊥
one_server e = absurd cc

pub no_client : Server 1 ≡ Client 1 → ⊥
no_client e = absurd cc

pub two_clients : Client 2 ≡ Client 1 → ⊥
two_clients e = absurd cc

-- a break is given up by timeouts of before it became owed
abbrev timeouts_first : List Entry → List Entry
timeouts_first (a ∷ b ∷ c ∷ d ∷ e ∷ f ∷ es) = a ∷ b ∷ c ∷ e ∷ f ∷ d ∷ es
timeouts_first es = es

abbrev quit_ahead_history : List Entry
quit_ahead_history = timeouts_first (entries (start (script 2)) (begins 1 (acts.Open (operands.Fid file)) ∷ gives 1 steady ∷ begins 2 (acts.Close (operands.Fid file) (Hex (codes "def"))) ∷ gives 3 steady ∷ server_waits 1 (Client 1) ∷ server_waits 1 (Client 1) ∷ server_waits 1 (Client 1) ∷ []))

quit_ahead : Legal quit_ahead_history (script 2) → ⊥
unfolding moved begin_row client_row server_row back_timeout_row wake_row start_row record_bytes head_form volume_form spelled opaque pad word laid_at led name_ok directory_bytes name_bytes rights_of image acl_text digits acl_entry_text directory_of names_at opaque_at word_at counted_at whole_at count_at name_at spelled_at bytes_below
quit_ahead h =
    let g = h.1.1.1.0.0.0.0.1 in
    let past : List Entry = past_of (set_up_entry (script 2) ∷ []) (take 3 quit_ahead_history) in
    let none_ : NeverTo (Client 1) past = ((λ e c. no_client e, tt), ((λ e c. c, tt), ((λ e c. no_client e, tt), (tt, tt)))) in
    elim g.sent [ inl x ↦ never_to (Client 1) (record { node = Server 1; epoch = 1; number = 1 }) x.user x.call past none_ x.sent | inr x ↦ let e : Client 1 ≡ Loc = x.is in absurd cc ]

-- a promise beside no call, which ends at once: the one before it would seem to be over
abbrev promises_nothing : List Entry → List Entry
promises_nothing [] = []
promises_nothing (e ∷ []) = record e { lines = lines.Grant (Server 1) (Client 1) file 1 0 ∷ []; sent = [] } ∷ record e { lines = take 3 e.lines } ∷ []
promises_nothing (e ∷ f ∷ es) = e ∷ promises_nothing (f ∷ es)

granted_beside_no_call : Legal (promises_nothing (entries (start (script 2)) six_front)) (script 2) → ⊥
unfolding moved begin_row client_row server_row back_timeout_row wake_row start_row record_bytes head_form volume_form spelled opaque pad word laid_at led name_ok directory_bytes name_bytes rights_of image acl_text digits acl_entry_text directory_of names_at opaque_at word_at counted_at whole_at count_at name_at spelled_at bytes_below
granted_beside_no_call h = h.1.1.1.0.0.0.0.1.ran.given

-- a promise to a server, which asked for the file as if it were a client
abbrev asks_as_a_server : Message
asks_as_a_server = record {
  head = record { half = halves.Call; from = Server 2; to = Server 1; epoch = 1; number = 1; boot = 1; stamp = 0; opcode = 130 };
  carried = carried.Call (codes "guest") (ask.File (calls.FetchData file (pos 0) (pos 2147483647)));
}

granted_to_a_server : Legal (step_of (Server 2) [] (asks_as_a_server ∷ []) ∷ step_of (Server 1) (lines.Given 1 ∷ lines.Grant (Server 1) (Server 2) file 1 7200 ∷ []) [] ∷ []) (record (script 1) { servers = 2 }) → ⊥
unfolding moved begin_row client_row server_row back_timeout_row wake_row start_row record_bytes head_form volume_form spelled opaque pad word laid_at led name_ok directory_bytes name_bytes rights_of image acl_text digits acl_entry_text directory_of names_at opaque_at word_at counted_at whole_at count_at name_at spelled_at bytes_below
granted_to_a_server h = h.1.0.0.0.1.0.1.client

-- one that ends before its time
abbrev shortly : Entry → Entry
shortly e = record e { lines = lines.Given 1 ∷ lines.Grant (Server 1) (Client 1) file 1 0 ∷ [] }

granted_shortly : Legal (alters 1 shortly (entries (start (script 1)) (begins 1 (acts.Open (operands.Fid file)) ∷ gives 1 steady ∷ []))) (script 1) → ⊥
unfolding moved begin_row client_row server_row back_timeout_row wake_row start_row record_bytes head_form volume_form spelled opaque pad word laid_at led name_ok directory_bytes name_bytes rights_of image acl_text digits acl_entry_text directory_of names_at opaque_at word_at counted_at whole_at count_at name_at spelled_at bytes_below
granted_shortly h = let e : 0 ≡ 7200 = h.1.0.0.0.1.0.1.lasts in absurd cc

-- a store is answered an entry before its call runs: what that owes holds back nothing
abbrev store_front : List Input
store_front = begins 1 (acts.Close (operands.Fid file) (Hex (codes "def"))) ∷ gives 1 steady ∷ []

abbrev answers_ahead : List Entry → List Entry
answers_ahead [] = []
answers_ahead (e ∷ []) = record e { lines = [] } ∷ record e { sent = [] } ∷ []
answers_ahead (e ∷ f ∷ es) = e ∷ answers_ahead (f ∷ es)

answered_ahead : Legal (answers_ahead (entries (start (script 1)) store_front)) (script 1) → ⊥
unfolding moved begin_row client_row server_row back_timeout_row wake_row start_row record_bytes head_form volume_form spelled opaque pad word laid_at led name_ok directory_bytes name_bytes rights_of image acl_text digits acl_entry_text directory_of names_at opaque_at word_at counted_at whole_at count_at name_at spelled_at bytes_below
answered_ahead h = ran_heard _ _ (h.1.0.1.1.0.0 1 1 (refl, tt) refl refl).ran ((λ x. x), ((λ x. x), ((λ x. x), tt)))

-- the server stops behind the change, and answers in the same entry
abbrev stops_there : Entry → Entry
stops_there e = record e { lines = e.lines ++ lines.Crash (Server 1) ∷ [] }

answered_when_down : Legal (alters 1 stops_there (entries (start (script 1)) store_front)) (script 1) → ⊥
unfolding moved begin_row client_row server_row back_timeout_row wake_row start_row record_bytes head_form volume_form spelled opaque pad word laid_at led name_ok directory_bytes name_bytes rights_of image acl_text digits acl_entry_text directory_of names_at opaque_at word_at counted_at whole_at count_at name_at spelled_at bytes_below
answered_when_down h = (h.1.0.0.1.0.reply (refl, tt) refl 1 refl).1 refl

-- a server that is down runs a call
abbrev after_a_stop : List Entry → List Entry
after_a_stop [] = []
after_a_stop (e ∷ []) = record e { lines = lines.Crash (Server 1) ∷ []; sent = [] } ∷ e ∷ []
after_a_stop (e ∷ f ∷ es) = e ∷ after_a_stop (f ∷ es)

run_when_down : Legal (after_a_stop (entries (start (script 1)) store_front)) (script 1) → ⊥
unfolding moved begin_row client_row server_row back_timeout_row wake_row start_row record_bytes head_form volume_form spelled opaque pad word laid_at led name_ok directory_bytes name_bytes rights_of image acl_text digits acl_entry_text directory_of names_at opaque_at word_at counted_at whole_at count_at name_at spelled_at bytes_below
run_when_down h =
    let g = h.1.1.0.0.0.1.0.1 in
    elim g.ideal.place [
      | inl x ↦ let e : None ≡ Some x.boot = x.up in absurd cc
      | inr y ↦ y.boots
    ]

abbrev pub key_of_one : ℕ → Key
key_of_one n = record { node = Client 1; epoch = 1; number = n }

abbrev pub to_boot_two : Entry → Entry
to_boot_two e = record e { sent = map (λ (m : Message). record m { head = record m.head { boot = 2 } }) e.sent }

-- a server begins again, and a client that doesn't know it asks it in the boot before
abbrev pub restarted : List Input
restarted = stops 1 ∷ starts_again 1 false comes_up ∷ []

-- a server runs a call that is to another boot than its own
run_in_another_boot : Legal (entries (start (script 1)) (restarted ++ begins 1 (acts.Close (operands.Fid file) (Hex (codes "def"))) ∷ []) ++ step_of (Server 1) (lines.Given 2 ∷ lines.Change (Server 1) (key_of_one 1) 1 ∷ lines.Version (record { fid = file; index = 2; data_version = 2; body = bodies.File (codes "def") }) ∷ []) [] ∷ []) (script 1) → ⊥
unfolding moved begin_row client_row server_row back_timeout_row wake_row start_row record_bytes head_form volume_form spelled opaque pad word laid_at led name_ok directory_bytes name_bytes rights_of image acl_text digits acl_entry_text directory_of names_at opaque_at word_at counted_at whole_at count_at name_at spelled_at bytes_below
run_in_another_boot h =
    let g = h.1.1.1.0.0.0.1.0.1 in
    elim g.ideal.place [
      | inl x ↦ let e : 1 ≡ 2 = x.given.1.1 ∙ sym (some_of 2 x.boot x.up) in absurd (omega (arith, e))
      | inr y ↦ y.boots
    ]

-- the server stops in a step; the restart tells its store, and replies for the boot before that there was no room
abbrev stopped_front : List Input
stopped_front = begins 1 (acts.Close (operands.Fid file) (Hex (codes "def"))) ∷ sets_stop 1 3 1 ∷ gives 1 steady ∷ starts_again 1 true comes_up ∷ []

abbrev pub roomless : Message
roomless = record {
  head = record { half = halves.Reply; from = Server 1; to = Client 1; epoch = 1; number = 1; boot = 1; stamp = 0; opcode = 133 };
  carried = carried.Refusal (record { 0 = pos 108 });
}

abbrev says_roomless : Entry → Entry
says_roomless e = record e { sent = roomless ∷ [] }

abbrev roomless_history : List Entry
roomless_history = alters 3 says_roomless (entries (start (script 1)) stopped_front)

pub no_room : pos 0 ≡ pos 108 → ⊥
no_room e = absurd cc

no_room_but_stored : Legal roomless_history (script 1) → ⊥
unfolding moved begin_row client_row server_row back_timeout_row wake_row start_row record_bytes head_form volume_form spelled opaque pad word laid_at led name_ok directory_bytes name_bytes rights_of image acl_text digits acl_entry_text directory_of names_at opaque_at word_at counted_at whole_at count_at name_at spelled_at bytes_below
no_room_but_stored h =
    elim (ran_for _ _ (h.1.1.1.0.1.1.0.0 1 1 (refl, tt) refl refl)) [
      | inl x ↦ for_none _ _ _ _ refl x
      | inr y ↦ elim y [
        | inl x ↦ not_due _ _ _ _ _ (codes "guest") (stored_whole file (codes "def")) (pos 108) refl refl refl refl no_room (λ e. inl refl) x
        | inr z ↦ elim z [
          | inl x ↦ for_none _ _ _ _ refl x
          | inr w ↦ elim w [ inl x ↦ for_none _ _ _ _ refl x | inr v ↦ elim v [ inl x ↦ for_none _ _ _ _ refl x | inr u ↦ u ] ]
          -- TODO: elim with the three causes of the database: not_sought, as patch 2 had it
        ]
      ]
    ]

-- ---- what is fetched is of the running act, and answers it in the entry that reads it

-- a client shows a file by the reply to an older act, while it opens a directory
abbrev old_reply_front : List Input
old_reply_front = begins 1 (acts.Open (operands.Fid file)) ∷ gives 1 steady ∷ gives 2 steady ∷ begins 1 (acts.Open (operands.Fid root)) ∷ gives 2 steady ∷ []

read_of_an_old_reply : Legal (alters 4 (instead (lines.Given 2 ∷ shown Fetched ∷ [])) (entries (start (script 1)) old_reply_front)) (script 1) → ⊥
unfolding moved begin_row client_row server_row back_timeout_row wake_row start_row record_bytes head_form volume_form spelled opaque pad word laid_at led name_ok directory_bytes name_bytes rights_of image acl_text digits acl_entry_text directory_of names_at opaque_at word_at counted_at whole_at count_at name_at spelled_at bytes_below
read_of_an_old_reply h =
    let u = (h.1.1.1.1.0.0.0.1.0.1.0.used refl).used in
    elim (subst (λ (m : Message). CalledSince (answered_key m.head) (codes "guest") u.call (past_of (set_up_entry (script 1) ∷ []) (entries (start (script 1)) (take 4 old_reply_front)))) (sym (some_of _ _ u.by)) u.called) [
      | inl x ↦ elim x.1 [ inl y ↦ let e : 2 ≡ 1 = ap (λ (k : Key). k.number) y.0 in absurd (omega (arith, e)) | inr y ↦ y ]
      | inr x ↦ let e : true ≡ false = x.0 in absurd cc
    ]

-- a client walks to a file, and makes its second call; and then it shows the directory once more, by the reply to the first
abbrev root_shown : Line
root_shown = lines.Read (Client 1) root 1 Fetched (seen.Contents (bodies.Dir (record { name = codes "a"; vnode = 2; unique = 2 } ∷ [])))

shown_once_more : Legal (alters 3 (instead (lines.Given 2 ∷ root_shown ∷ [])) (entries (start (script 1)) (walk_front ++ gives 2 steady ∷ []))) (script 1) → ⊥
unfolding moved begin_row client_row server_row back_timeout_row wake_row start_row record_bytes head_form volume_form spelled opaque pad word laid_at led name_ok directory_bytes name_bytes rights_of image acl_text digits acl_entry_text directory_of names_at opaque_at word_at counted_at whole_at count_at name_at spelled_at bytes_below
shown_once_more h =
    let u = (h.1.1.1.0.0.0.1.0.1.0.used refl).used in
    let past : List Entry = past_of (set_up_entry (script 1) ∷ []) (entries (start (script 1)) walk_front) in
    elim ((subst (λ (m : Message). IsLastCall (answered_key m.head) (sent_of past)) (sym (some_of _ _ u.by)) u.last).1.1.0 tt refl) [
      | inl x ↦ let e : 1 < 1 = x in absurd (omega arith)
      | inr x ↦ let e : 2 ≤ 1 = x.1 in absurd (omega arith)
    ]

-- a client opens a file, and tells so only when the reply comes again
answered_behind_its_read : Legal (alters 2 (instead (lines.Given 2 ∷ shown Fetched ∷ [])) (alters 3 (instead (lines.Given 2 ∷ answer 1 ∷ [])) (entries (start (script 1)) (begins 1 (acts.Open (operands.Fid file)) ∷ gives 1 steady ∷ gives 2 steady ∷ gives 2 steady ∷ [])))) (script 1) → ⊥
unfolding moved begin_row client_row server_row back_timeout_row wake_row start_row record_bytes head_form volume_form spelled opaque pad word laid_at led name_ok directory_bytes name_bytes rights_of image acl_text digits acl_entry_text directory_of names_at opaque_at word_at counted_at whole_at count_at name_at spelled_at bytes_below
answered_behind_its_read h =
    let g = h.1.1.1.0.0.0.1.0.1 in
    elim g.cause [
      | inl x ↦ subst (λ (a : Going). EndsAct (next a)) (sym (some_of _ _ g.runs)) (x.ends refl)
      | inr y ↦ elim y [
        | inl x ↦ elim x.last [ inl z ↦ let e : false ≡ true = z.0 in absurd cc | inr u ↦ let e : false ≡ true = u.1 in absurd cc ]
        | inr z ↦ elim z [
          | inl x ↦ let e : pos 0 ≡ negsuc 0 = x.is in absurd cc
          | inr u ↦ elim u [ inl x ↦ let e : false ≡ true = x.begun in absurd cc | inr t ↦ not_sought _ _ _ _ _ _ 0 refl refl refl refl t ]
        ]
      ]
    ]

-- ---- a server runs a dead call behind a later one of its client, in one boot, and replies to it

abbrev pub head_of_one : Head
head_of_one = record { half = halves.Reply; from = Server 1; to = Client 1; epoch = 1; number = 1; boot = 1; stamp = 0; opcode = 130 }

abbrev pub reply_to_one : List Message
reply_to_one = sent_by (start (script 1)) fetch_front

abbrev old_front : List Input
old_front = begins 1 (acts.Open (operands.Fid file)) ∷ waits 1 ∷ waits 1 ∷ waits 1 ∷ begins 1 (acts.Open (operands.Fid file)) ∷ gives 4 steady ∷ gives 1 steady ∷ []

-- what that says of the entry that ran it
record RanOne (e : Entry) (older : List Entry) : Type 0 where
  message : Message
  given : given_message e.lines (sent_of older) ≡ Some message
  key : called_key message.head ≡ key_of_one 1
  first : IsFirstOfItsBoot (Server 1) (key_of_one 1) 1 older

ran_one : (past : List Entry) → Ran head_of_one past → Among RanOne past
ran_one past r = subst (Among RanOne) (sym r.split) (is_among RanOne r.newer r.at r.older (record { message = r.message; given = r.given; key = r.key; first = r.first }))

was_given_none : (e : Entry) (older : List Entry) → given_message e.lines (sent_of older) ≡ None → RanOne e older → ⊥
was_given_none e older none x = let no_ : None ≡ Some x.message = sym none ∙ x.given in absurd cc

was_given_another : (e : Entry) (older : List Entry) (m : Message) → given_message e.lines (sent_of older) ≡ Some m → m.head.number ≡ 2 → RanOne e older → ⊥
was_given_another e older m at two x = let no_ : 2 ≡ 1 = sym two ∙ (ap (λ (q : Message). q.head.number) (some_of m x.message (sym at ∙ x.given)) ∙ ap (λ (k : Key). k.number) x.key) in absurd (omega (arith, no_))

ran_behind_a_later_one : Legal (alters 6 (λ e. record e { sent = reply_to_one }) (entries (start (script 1)) old_front)) (script 1) → ⊥
unfolding moved begin_row client_row server_row back_timeout_row wake_row start_row record_bytes head_form volume_form spelled opaque pad word laid_at led name_ok directory_bytes name_bytes rights_of image acl_text digits acl_entry_text directory_of names_at opaque_at word_at counted_at whole_at count_at name_at spelled_at bytes_below
ran_behind_a_later_one h =
    elim (ran_one _ (h.1.1.1.1.1.1.0.1.1.0.0 1 1 (refl, tt) refl refl).ran) [
      | inl x ↦ x.first.0 ((tt, refl), ((refl, inr (refl, omega arith)), refl))
      | inr y ↦ elim y [
        | inl x ↦ was_given_another _ _ _ refl refl x
        | inr z ↦ elim z [
          | inl x ↦ was_given_none _ _ refl x
          | inr w ↦ elim w [
            | inl x ↦ was_given_none _ _ refl x
            | inr v ↦ elim v [
              | inl x ↦ was_given_none _ _ refl x
              | inr u ↦ elim u [
                | inl x ↦ was_given_none _ _ refl x
                | inr t ↦ elim t [ inl x ↦ was_given_none _ _ refl x | inr r ↦ elim r [ inl x ↦ was_given_none _ _ refl x | inr q ↦ q ] ]
              ]
            ]
          ]
        ]
      ]
    ]

abbrev pub gift_answer : Message
gift_answer = record { head = record { half = halves.Reply; from = Server 1; to = Client 1; epoch = 1; number = 2; boot = 1; stamp = 0; opcode = 147 }; carried = carried.Reply (tell.File replies.GiveUpCallBacks) }
