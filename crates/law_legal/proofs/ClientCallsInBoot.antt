-- A client calls a server in the boot that the last notice told of it, however many servers a cell has.
use Rattle.law_legal.proofs.ClientCallsAtHome.{IsServer}
use Rattle.law_legal.proofs.DatabaseKeeps.{loc_uncalled}
use Rattle.law_legal.proofs.DatabaseDoes.{IsSoundLoc}
use Rattle.spec_history.specs.declared.acts.Act.{Act}
use Rattle.spec_history.specs.declared.lines.Line.{Line}
use Rattle.spec_history.specs.declared.lines.Line.TheVariants as lines
use Rattle.spec_history.specs.declared.scripts.Script.{Script}
use Rattle.law_legal.proofs.ActLines.{Acts, is_of, who_at, runs_act, last_key}
use Rattle.law_legal.proofs.ActSteps.{begins_acts, falls_acts, given_acts, rises_acts, waits_acts, missed_acts}
use Rattle.law_legal.proofs.OwedPasses.{all_lines}
use Rattle.law_legal.proofs.BaseLaws.{Each, IfCall, OfNotice, at_put, both, each_map, if_call, same_node-refl, same_node-true, some_of, yes_no}
use Rattle.law_legal.proofs.ClientCalls.{AreReplies, IsLastOf, IsUncalled, begins_tame, caller_at, falls_tame, given_tame, rises_tame, told_boot, uncalled_any, waits_tame, sought_tame, missed_tame}
use Rattle.law_legal.proofs.ServerChooses.{disk_works, one_from, risen_from, risen_lines, serves_works, starts_works, times_works, wakes_works}
use Rattle.law_legal.proofs.RunGivenWasSent.{DeliveredStep, begun_ungiven, delivered_moves, waited_ungiven, missed_ungiven}
use Rattle.law_legal.proofs.ActFollows.{none_runs}
use Rattle.law_legal.proofs.ServerHearsInRuns.{client_given}
use Rattle.law_legal.proofs.ServerHears.{replies_to}
use Rattle.law_legal.proofs.ClientCallsInTurn.{is_the_last, its_callee, of_last_call, seek_is_last, KnownBy, callee_is}
use Rattle.law_legal.proofs.CallKeysOnce.{IsKnown, any_told, by_key}
use Rattle.law_legal.proofs.RunsKnown.{Known, served_uncalled, started_uncalled, timed_uncalled, woken_uncalled}
use Rattle.law_legal.proofs.ClientLearnsBoots.{any_call}
use Rattle.law_legal.proofs.ClientLives.{begun_alive, told_alive, versions_alive, waited_alive, Alive, missed_alive}
use Rattle.law_legal.proofs.RunWalk.{EachMove, IsKept, each_moved}
use Rattle.law_legal.proofs.ActCallsInRuns.{quietly, KnownAsked, any_cut, any_message, asked_first, asked_kept, blow_idle, idle_works, loc_idle, sought_acts_in}
use Rattle.law_legal.proofs.ActCalls.{is_idle, of_client, other_node, server_apart, handed_same}
use Rattle.law_legal.proofs.RunSetUp.{all_versions, given_first}
use Rattle.law_legal.proofs.ClientTimesOut.{given_has}
use Rattle.law_legal.proofs.ClientTakesReply.{IsApart, apart, one_client}
use Rattle.law_legal.specs.Ideal.{first_lines, set_up_entry, callee_under}
use Rattle.law_legal.specs.Legal.{IsNoted, KnowsBoot, has_crash_or_restart, has_crashed}
use Rattle.law_legal.specs.Lives.{IsDelivered}
use Rattle.law_legal.specs.Past.{given_message, has_given, lines_of, sent_of, answered_key}
use Rattle.afs_num.specs.Nodes.{same_node}
use Rattle.afs_num.specs.declared.calls.FsCall.{FsCall}
use Rattle.afs_num.specs.declared.histories.Actor.TheVariants as actors
use Rattle.afs_num.specs.declared.messages.Carried.{Carried}
use Rattle.afs_num.specs.declared.messages.Carried.TheVariants as carried
use Rattle.afs_num.specs.declared.messages.Message.{Message}
use Rattle.afs_num.specs.declared.messages.Received.TheVariants.{Whole}
use Rattle.afs_num.specs.declared.types.Head.{Head}
use Rattle.afs_num.specs.declared.types.Node.{Node}
use Rattle.afs_num.specs.declared.types.Node.TheVariants.{Client, Server, Loc}
use Rattle.spec_rows.specs.Callbacks.{put}
use Rattle.spec_rows.specs.ClientRow.{awaits, begin_row, boot_of, boot_or_first, client_row, counts, hears, ignores, is_awaited, reborn, timeout_row, with_boot, sought_by, seek_timeout_row, act_by}
use Rattle.spec_rows.specs.Going.{ClientState, Going, Seek}
use Rattle.law_legal.proofs.RunSteps.{blow_line, server_falls, server_moves, server_rises, server_set, server_stays, loc_becomes}
use Rattle.spec_rows.specs.Runs.{Cell, Entry, Input, Moved, at_rest, begun_by_disk, in_boot, in_step, message_at, moved, start, ticked, voided}
use Rattle.spec_rows.specs.ServerSteps.{back_timeout_row, server_row, wake_row}
use Rattle.spec_rows.specs.States.{KnownBoot}
use Rattle.spec_rows.specs.Steps.{Step}
use Rattle.std.proofs.Common.{suc, ◌≡◌, ◌⊎◌, ◌∙◌, ℕ, inl, inr, Bool, true, false, cond, List, [], ◌∷◌, ◌++◌, Option, Some, None, refl, sym, ap, subst, filter, find, not}

-- ---- the boots that it knows, and a notice

no_loc_server : IsServer Loc → ⊥
no_loc_server x = let no : Loc ≡ Server x.0 = x.1 in absurd cc

-- of these nodes
abbrev pub SameBoots : (Node → Type 0) → ClientState → ClientState → Type 0
SameBoots P c x = (q : Node) → P q → boot_of q x.boots ≡ boot_of q c.boots

-- what it is given is a notice that it awaits, and it takes the boot from that
pub record Notes (n : ℕ) (c : ClientState) (m : Message) (x : ClientState) : Type 0 where
  pub act : Going
  pub runs : c.running ≡ Some act
  pub its : is_awaited c act m.head ≡ true
  pub is : m.carried ≡ carried.Notice
  pub boots : x.boots ≡ with_boot c.callee m.head.boot c.boots

-- or it isn't, and it knows what it knew
pub record NotesNone (P : Node → Type 0) (c : ClientState) (m : Message) (x : ClientState) : Type 0 where
  pub same : SameBoots P c x
  pub none : (act : Going) → c.running ≡ Some act → is_awaited c act m.head ≡ true → m.carried ≡ carried.Notice → ⊥

abbrev pub Hears : (Node → Type 0) → ℕ → ClientState → Message → ClientState → Type 0
Hears P n c m x = Notes n c m x ⊎ NotesNone P c m x

awaited_notice : (P : Node → Type 0) (n clock place : ℕ) (c : ClientState) (act : Going) (m : Message) (t : Bool) → c.running ≡ Some act → m.carried ≡ carried.Notice → is_awaited c act m.head ≡ t → Hears P n c m (cond t (counts (Client n) c clock place act m.head carried.Notice) (ignores c place)).state
awaited_notice P n clock place c act m true r is e = inl (record { act = act; runs = r; its = e; is = is; boots = refl })
awaited_notice P n clock place c act m false r is e = inr (record {
  same = λ q server. refl;
  none = λ b s z k. yes_no (is_awaited c b m.head) z (subst (λ (a : Going). is_awaited c a m.head ≡ false) (some_of act b (sym r ∙ s)) e);
})

awaits_notice : (P : Node → Type 0) (n clock place : ℕ) (c : ClientState) (m : Message) (o : Option Going) → c.running ≡ o → m.carried ≡ carried.Notice → Hears P n c m (awaits (Client n) c clock place m.head carried.Notice o).state
awaits_notice P n clock place c m None r is = inr (record { same = λ q server. refl; none = λ b s z k. none_runs c.running b r s })
awaits_notice P n clock place c m (Some act) r is = awaited_notice P n clock place c act m (is_awaited c act m.head) r is refl

notice_row : (n clock place : ℕ) (c : ClientState) (m : Message) → m.head.to ≡ Client n → m.carried ≡ carried.Notice → client_row (Client n) c clock place (Whole m) ≡ awaits (Client n) c clock place m.head carried.Notice c.running
unfolding client_row
notice_row n clock place c m to is =
    ap (λ (t : Bool). cond t (hears (Client n) c clock place m.head m.carried) (ignores c place)) (ap (λ (q : Node). same_node q (Client n)) to ∙ same_node-refl (Client n)) ∙ ap (λ (x : Carried). hears (Client n) c clock place m.head x) is

-- no other message tells a boot
pub own_seats : (c : Cell) (past : List Entry) (n : ℕ) → Known c past → AreReplies any_told any_told (c.clients n).seats
own_seats c past n K = replies_to (by_key (IsKnown K.keys.callees c.clients)) any_told any_told any_told (λ h x. tt) (λ h x. x) (c.clients n).seats (K.keys.replies n)

abbrev pub IsOld : (Node → Type 0) → ClientState → Node → ℕ → Type 0
IsOld P c q b = P q → b ≡ boot_of q c.boots

other_boots : (P : Node → Type 0) (c : Cell) (past : List Entry) (n place : ℕ) (m : Message) → Known c past → message_at c.sent place ≡ Some m → ((X : Type 0) → OfNotice X m.carried) → SameBoots P (c.clients n) (client_row (Client n) (c.clients n) c.clock place (Whole m)).state
other_boots P c past n place m K at w q server =
    let x : ClientState = c.clients n in
    (given_tame any_told any_told (IsOld P x) n x c.clock place m (own_seats c past n K) (any_call c past x.epoch x.seats place m K.hears at) tt (w (IsOld P x m.head.from m.head.boot))).boots (λ p own. refl) q server

pub told_hears : (P : Node → Type 0) (c : Cell) (past : List Entry) (n place : ℕ) (m : Message) (x : Carried) → Known c past → message_at c.sent place ≡ Some m → m.head.to ≡ Client n → m.carried ≡ x → Hears P n (c.clients n) m (client_row (Client n) (c.clients n) c.clock place (Whole m)).state
told_hears P c past n place m carried.Notice K at to is = subst (λ (st : Step ClientState). Hears P n (c.clients n) m st.state) (sym (notice_row n c.clock place (c.clients n) m to is)) (awaits_notice P n c.clock place (c.clients n) m (c.clients n).running refl is)
told_hears P c past n place m (carried.Call user call) K at to is = inr (record { same = other_boots P c past n place m K at (λ X. subst (OfNotice X) (sym is) tt); none = λ b r z k. (let no_ : carried.Call user call ≡ carried.Notice = sym is ∙ k in absurd cc) })
told_hears P c past n place m (carried.Refusal code) K at to is = inr (record { same = other_boots P c past n place m K at (λ X. subst (OfNotice X) (sym is) tt); none = λ b r z k. (let no_ : carried.Refusal code ≡ carried.Notice = sym is ∙ k in absurd cc) })
told_hears P c past n place m (carried.Reply reply) K at to is = inr (record { same = other_boots P c past n place m K at (λ X. subst (OfNotice X) (sym is) tt); none = λ b r z k. (let no_ : carried.Reply reply ≡ carried.Notice = sym is ∙ k in absurd cc) })

pub begun_boots : (P : Node → Type 0) (c : Cell) (past : List Entry) (n : ℕ) (act : Act) → Known c past → SameBoots P (c.clients n) (begin_row (Client n) (c.clients n) c.clock act).state
begun_boots P c past n act K q server = (begins_tame any_told any_told (IsOld P (c.clients n)) n (c.clients n) c.clock act (own_seats c past n K)).boots (λ p own. refl) q server

pub waited_boots : (P : Node → Type 0) (c : Cell) (past : List Entry) (n : ℕ) (act : Going) → Known c past → (c.clients n).running ≡ Some act → SameBoots P (c.clients n) (timeout_row (Client n) (c.clients n) act).state
waited_boots P c past n act K r q server = (waits_tame any_told any_told (IsOld P (c.clients n)) n (c.clients n) act r (own_seats c past n K)).boots (λ p own. refl) q server

-- the callee's boot is that, and no other changed
pub boot_here : (callee q : Node) (boot : ℕ) (boots : List KnownBoot) → same_node callee q ≡ true → boot_of q (with_boot callee boot boots) ≡ boot
boot_here callee q boot boots e =
    ap (λ (t : Bool). boot_or_first (cond t (Some (record { server = callee; boot = boot })) (find (λ (k : KnownBoot). same_node k.server q) (filter (λ (k : KnownBoot). not (same_node k.server callee)) boots)))) e

pub boot_other : (callee q : Node) (boot : ℕ) (boots : List KnownBoot) → same_node callee q ≡ false → boot_of q (with_boot callee boot boots) ≡ boot_of q boots
boot_other callee q boot boots e =
    told_boot (λ (p : Node) (b : ℕ). same_node callee p ≡ false → b ≡ boot_of p boots) callee boot boots (same_node callee q) q refl (λ z. absurd (yes_no (same_node callee callee) (same_node-refl callee) z)) (λ z. refl) e

-- ---- lines in which it doesn't crash

pub crashed_alive : (c : Node) (ls : List Line) → has_crash_or_restart ls ≡ false → has_crashed c ls ≡ false
crashed_alive c [] h = refl
crashed_alive c (lines.Crash n ∷ ls) h = absurd cc
crashed_alive c (lines.Restart n boot ∷ ls) h = absurd cc
crashed_alive c (l ∷ ls) h = crashed_alive c ls h

pub crashed_other : (i j : ℕ) (ls : List Line) → all_lines (is_of i) ls ≡ true → (i ≡ j → ⊥) → has_crashed (Client j) ls ≡ false
crashed_other i j [] h ne = refl
crashed_other i j (lines.Crash n ∷ ls) h ne =
    let q = both (is_of i (lines.Crash n)) (all_lines (is_of i) ls) h in
    ap (λ (t : Bool). cond t true (has_crashed (Client j) ls)) (other_node n i j q.0 ne) ∙ crashed_other i j ls q.1 ne
crashed_other i j (l ∷ ls) h ne = crashed_other i j ls (both (is_of i l) (all_lines (is_of i) ls) h).1 ne

pub crashed_idle : (j : ℕ) (ls : List Line) → all_lines is_idle ls ≡ true → has_crashed (Client j) ls ≡ false
crashed_idle j [] h = refl
crashed_idle j (lines.Crash n ∷ ls) h =
    let q = both (is_idle (lines.Crash n)) (all_lines is_idle ls) h in
    ap (λ (t : Bool). cond t true (has_crashed (Client j) ls)) (server_apart n j q.0) ∙ crashed_idle j ls q.1
crashed_idle j (l ∷ ls) h = crashed_idle j ls (both (is_idle l) (all_lines is_idle ls) h).1

-- ---- what holds after every entry

abbrev Knows : Script → ℕ → ClientState → List Entry → Type 0
Knows s j x past = (q : Node) → IsServer q → KnowsBoot s (Client j) q (boot_of q x.boots) past

abbrev KnowsIn : Script → Cell → List Entry → Type 0
KnowsIn s c past = (j : ℕ) → Knows s j (c.clients j) past

abbrev pub AreBooted : Script → Cell → List Entry → Type 0
AreBooted s c past = KnownAsked s c past × KnowsIn s c past

-- an entry without such a notice, in which it doesn't crash
abbrev IsUnnoted : Script → ℕ → Entry → List Entry → Type 0
IsUnnoted s j e past = (q : Node) (b : ℕ) → IsServer q → IsNoted s (Client j) q b past e.lines → ⊥

unnoted_knows : (s : Script) (j : ℕ) (x y : ClientState) (e : Entry) (past : List Entry) → IsUnnoted s j e past → has_crashed (Client j) e.lines ≡ false → SameBoots IsServer x y → Knows s j x past → Knows s j y (e ∷ past)
unnoted_knows s j x y e past none alive same h q server = inr ((λ b. none q b server), inr (alive, subst (λ (b : ℕ). KnowsBoot s (Client j) q b past) (sym (same q server)) (h q server)))

ungiven_unnoted : (s : Script) (j : ℕ) (e : Entry) (past : List Entry) → has_given e.lines ≡ false → IsUnnoted s j e past
ungiven_unnoted s j e past none q b server i = yes_no (has_given e.lines) (given_has e.lines (sent_of past) i.message i.given) none

apart_unnoted : (s : Script) (j : ℕ) (e : Entry) (past : List Entry) → IsApart j e past → IsUnnoted s j e past
apart_unnoted s j e past away q b server i = away i.message i.given i.to

-- an entry of another node
other_knows : (s : Script) (c : Cell) (past : List Entry) (e : Entry) (j : ℕ) → IsDelivered e.actor past e.lines → (e.actor ≡ actors.Node (Client j) → ⊥) → has_crashed (Client j) e.lines ≡ false → Knows s j (c.clients j) past → Knows s j (c.clients j) (e ∷ past)
other_knows s c past e j d other alive h = unnoted_knows s j (c.clients j) (c.clients j) e past (apart_unnoted s j e past (apart j e past d other)) alive (λ q server. refl) h

-- a step of the client that is given a message
here_by : (s : Script) (n : ℕ) (past : List Entry) (e : Entry) (c x : ClientState) (m : Message) (q : Node) (t : Bool) → same_node c.callee q ≡ t → Notes n c m x → m.head.from ≡ c.callee → has_crashed (Client n) e.lines ≡ false → ((b : Node) (k : ℕ) → c.callee ≡ b → m.head.boot ≡ k → IsNoted s (Client n) b k past e.lines)
    → ((b : Node) (k : ℕ) → IsNoted s (Client n) b k past e.lines → c.callee ≡ b) → KnowsBoot s (Client n) q (boot_of q c.boots) past → KnowsBoot s (Client n) q (boot_of q x.boots) (e ∷ past)
here_by s n past e c x m q true t a from alive noted only h = inl (noted q (boot_of q x.boots) (same_node-true c.callee q t) (sym (ap (boot_of q) a.boots ∙ boot_here c.callee q m.head.boot c.boots t)))
here_by s n past e c x m q false t a from alive noted only h =
    inr ((λ b i. yes_no (same_node c.callee q) (ap (λ (p : Node). same_node p q) (only q b i) ∙ same_node-refl q) t), inr (alive, subst (λ (b : ℕ). KnowsBoot s (Client n) q b past) (sym (ap (boot_of q) a.boots ∙ boot_other c.callee q m.head.boot c.boots t)) h))

-- while an act waits for the location database, no file server gives it notice
seek_noted : (s : Script) (c : Cell) (past : List Entry) (n : ℕ) (k : Seek) (ls : List Line) (q : Node) (b : ℕ) → KnownAsked s c past → (c.clients n).seeking ≡ Some k → IsNoted s (Client n) q b past ls → IsServer q → ⊥
seek_noted s c past n k ls q b h z i server =
    let x : ClientState = c.clients n in
    let key : answered_key i.message.head ≡ last_key n x = seek_is_last s c past n k i.message.head h z i.to i.its in
    let at : callee_under (answered_key i.message.head) (sent_of past) ≡ Some (h.0.keys.callees (answered_key i.message.head)) = callee_is h.0.keys.callees c.clients n (answered_key i.message.head) (i.its.user, i.its.call) (sent_of past) i.to i.its.of (subst (Each (IfCall (KnownBy h.0.keys.callees c.clients))) (sym h.0.hears.told) h.0.keys.calls) in
    let from : i.message.head.from ≡ Loc = some_of i.message.head.from Loc (sym i.its.from ∙ (at ∙ ap Some (ap h.0.keys.callees key ∙ (h.0.keys.own n ∙ (h.1.seeks n k z).callee)))) in
    let no : Loc ≡ Server server.0 = sym from ∙ (i.server' ∙ server.1) in absurd cc

noted_by : (s : Script) (c : Cell) (past : List Entry) (n : ℕ) (ls : List Line) (q : Node) (b : ℕ) (o : Option Going) (p : Option Seek) → KnownAsked s c past → (c.clients n).running ≡ o → (c.clients n).seeking ≡ p → (i : IsNoted s (Client n) q b past ls) → IsServer q → act_by o p ≡ Some i.act → o ≡ Some i.act
noted_by s c past n ls q b (Some a) p h r z i server is = is
noted_by s c past n ls q b None (Some k) h r z i server is = absurd (seek_noted s c past n k ls q b h z i server)
noted_by s c past n ls q b None None h r z i server is = absurd cc

noted_runs : (s : Script) (c : Cell) (past : List Entry) (n : ℕ) (ls : List Line) (q : Node) (b : ℕ) → KnownAsked s c past → (i : IsNoted s (Client n) q b past ls) → IsServer q → (c.clients n).running ≡ Some i.act
noted_runs s c past n ls q b h i server = noted_by s c past n ls q b (c.clients n).running (c.clients n).seeking h refl refl i server (sym (h.1.acts n) ∙ i.runs)

told_knows : (s : Script) (c : Cell) (past : List Entry) (n place : ℕ) (m : Message) → AreBooted s c past → message_at c.sent place ≡ Some m → m.head.to ≡ Client n → Knows s n (client_row (Client n) (c.clients n) c.clock place (Whole m)).state (of_client n (client_row (Client n) (c.clients n) c.clock place (Whole m)) ∷ past)
told_knows s c past n place m h at to =
    let x : ClientState = c.clients n in
    let st : Step ClientState = client_row (Client n) x c.clock place (Whole m) in
    let e : Entry = of_client n st in
    let K : Known c past = h.0.0 in
    let given : given_message st.lines (sent_of past) ≡ Some m = (client_given c past n place m K.hears to at).given (sent_of past) ∙ (ap (λ (ms : List Message). message_at ms place) K.hears.told ∙ at) in
    let alive : has_crashed (Client n) st.lines ≡ false = crashed_alive (Client n) st.lines (told_alive (Client n) x c.clock place m) in
    let is_m : (q : Node) (b : ℕ) → (i : IsNoted s (Client n) q b past st.lines) → i.message ≡ m = λ q b i. some_of i.message m (sym i.given ∙ given) in
    elim (told_hears IsServer c past n place m m.carried K at to refl) [
      | inl a ↦ λ q server. (let from : m.head.from ≡ x.callee = its_callee x a.act m.head a.its in
          here_by s n past e x st.state m q (same_node x.callee q) refl a from alive
          (λ b k same boot. record { act = a.act; runs = h.0.1.acts n ∙ runs_act x a.act a.runs; message = m; given = given; to = to; is = a.is; its = of_last_call s c past n a.act m.head h.0 a.runs to a.its; server' = from ∙ same; boot' = boot })
          (λ b k i. sym from ∙ (ap (λ (y : Message). y.head.from) (sym (is_m b k i)) ∙ i.server')) (h.1 n q server))
      | inr z ↦ unnoted_knows s n x st.state e past
          (λ q b server i. (let same : i.message ≡ m = is_m q b i in
          let r : x.running ≡ Some i.act = noted_runs s c past n st.lines q b h.0 i server in
          z.none i.act r (subst (λ (y : Message). is_awaited x i.act y.head ≡ true) same (is_the_last s c past n i.act i.message.head h.0 r i.to i.its).awaited) (ap (λ (y : Message). y.carried) (sym same) ∙ i.is)))
          alive z.same (h.1 n)
    ]

-- it stops, and knows nothing then
fallen_knows : (s : Script) (c : Cell) (past : List Entry) (n : ℕ) → Knows s n (reborn c.handed (c.clients n)) (of_client n (record { state = reborn c.handed (c.clients n); lines = lines.Crash (Client n) ∷ []; sent = [] }) ∷ past)
fallen_knows s c past n q server = inr ((λ b i. (let no_ : None ≡ Some i.message = i.given in absurd cc)), inl (ap (λ (t : Bool). cond t true false) (same_node-refl (Client n)), refl))

-- ---- what it sends

abbrev pub KnowsIt : Script → List Entry → Head → List ℕ → FsCall → Type 0
KnowsIt s past head user call = IsServer head.to → KnowsBoot s head.from head.to head.boot past

last_known : (s : Script) (n : ℕ) (x : ClientState) (past : List Entry) → Knows s n x past → (head : Head) (user : List ℕ) (call : FsCall) → IsLastOf n (caller_at x) head → KnowsIt s past head user call
last_known s n x past h head user call l server =
    subst (λ (p : Node). KnowsBoot s p head.to head.boot past) (sym l.from) (subst (λ (q : Node). KnowsBoot s (Client n) q head.boot past) (sym l.to) (subst (λ (b : ℕ). KnowsBoot s (Client n) x.callee b past) (sym l.boot) (h x.callee (subst IsServer l.to server))))

sent_known : (s : Script) (n : ℕ) (st : Step ClientState) (past : List Entry) → Knows s n st.state past → Each (IfCall (λ head user call. IsLastOf n (caller_at st.state) head)) st.sent → Each (IfCall (KnowsIt s past)) st.sent
sent_known s n st past h a = each_map (IfCall (λ head user call. IsLastOf n (caller_at st.state) head)) (IfCall (KnowsIt s past)) (if_call (λ head user call. IsLastOf n (caller_at st.state) head) (KnowsIt s past) (last_known s n st.state past h)) st.sent a

none_known : (s : Script) (past : List Entry) (ms : List Message) → Each IsUncalled ms → Each (IfCall (KnowsIt s past)) ms
none_known s past ms h = each_map IsUncalled (IfCall (KnowsIt s past)) (uncalled_any (KnowsIt s past)) ms h

-- ---- every step

record Boots (s : Script) (past : List Entry) (m : Moved) : Type 0 where
  knows : KnowsIn s m.cell (m.entry ∷ past)
  calls : Each (IfCall (KnowsIt s (m.entry ∷ past))) m.entry.sent

-- where what it is given is delivered
abbrev BootedStep : Script → Cell → List Entry → Moved → Type 0
BootedStep s c past m = DeliveredStep c past m → Boots s past m

client_booted : (s : Script) (c : Cell) (past : List Entry) (n : ℕ) (st : Step ClientState) (m : Moved) → AreBooted s c past → m.entry ≡ of_client n st → m.cell.clients ≡ put n st.state c.clients → Acts n (who_at (c.clients n)) (c.clients n).gifts st → Knows s n st.state (of_client n st ∷ past) → Each (IfCall (λ head user call. IsLastOf n (caller_at st.state) head)) st.sent → IsDelivered (actors.Node (Client n)) past st.lines → Boots s past m
client_booted s c past n st m h entry clients a own calls d = record {
  knows = λ j. subst (λ (f : ℕ → ClientState). Knows s j (f j) (m.entry ∷ past)) (sym clients) (subst (λ (e : Entry). Knows s j (put n st.state c.clients j) (e ∷ past)) (sym entry)
      (at_put n j (λ (x : ClientState). Knows s j x (of_client n st ∷ past)) st.state c.clients
      (λ same. subst (λ (i : ℕ). Knows s i st.state (of_client n st ∷ past)) same own)
      (λ other. other_knows s c past (of_client n st) j d (λ e. other (one_client n j e)) (crashed_other n j st.lines a.of other) (h.1 j))));
  calls = subst (λ (e : Entry). Each (IfCall (KnowsIt s (e ∷ past))) e.sent) (sym entry) (sent_known s n st (of_client n st ∷ past) own calls);
}

idle_booted : (s : Script) (c : Cell) (past : List Entry) (m : Moved) → AreBooted s c past → m.cell.clients ≡ c.clients → ((j : ℕ) → m.entry.actor ≡ actors.Node (Client j) → ⊥) → all_lines is_idle m.entry.lines ≡ true → Each IsUncalled m.entry.sent → IsDelivered m.entry.actor past m.entry.lines → Boots s past m
idle_booted s c past m h same other idle none d = record {
  knows = λ j. subst (λ (f : ℕ → ClientState). Knows s j (f j) (m.entry ∷ past)) (sym same) (other_knows s c past m.entry j d (other j) (crashed_idle j m.entry.lines idle) (h.1 j));
  calls = none_known s (m.entry ∷ past) m.entry.sent none;
}

no_client : (i j : ℕ) → actors.Node (Server i) ≡ actors.Node (Client j) → ⊥
no_client i j e = absurd cc

booted_moves : (s : Script) → EachMove (AreBooted s) (BootedStep s)
booted_moves s = record {
  void = λ c past h d. idle_booted s c past (voided c) h refl (λ j e. absurd cc) refl tt d;
  ticked = λ c past n h d. idle_booted s c past (ticked c (suc n)) h refl (λ j e. absurd cc) refl tt d;
  begun = λ c past n act h r z0 d. (let x : ClientState = c.clients n in let st : Step ClientState = begin_row (Client n) x c.clock act in
      client_booted s c past n st _ h refl refl (begins_acts n x c.clock act r z0)
      (unnoted_knows s n x st.state (of_client n st) past (ungiven_unnoted s n (of_client n st) past (begun_ungiven (Client n) x c.clock act)) (crashed_alive (Client n) st.lines (begun_alive (Client n) x c.clock act)) (begun_boots IsServer c past n act h.0.0) (h.1 n))
      (begins_tame any_told any_told (IsOld IsServer x) n x c.clock act (own_seats c past n h.0.0)).sent d);
  told = λ c past n place m h at to un d. (let x : ClientState = c.clients n in let st : Step ClientState = client_row (Client n) x c.clock place (Whole m) in
      client_booted s c past n st _ h refl refl (given_acts (by_key (IsKnown h.0.0.keys.callees c.clients)) any_told n x c.clock place m (h.0.0.keys.replies n) (h.0.1.seats n)) (told_knows s c past n place m h at to) (client_given c past n place m h.0.0.hears to at).sent d);
  sought = λ c past n place m k h at to z e d. (let x : ClientState = c.clients n in let st : Step ClientState = sought_by (Client n) x c.clock place k m.head m.carried in
      let t = sought_tame any_told any_told (IsOld IsServer x) n x c.clock place k m.head m.carried (λ b own. absurd (no_loc_server own)) (own_seats c past n h.0.0) in
      client_booted s c past n st _ h refl refl (sought_acts_in s c past n place m k h.0.1 at z e)
      (unnoted_knows s n x st.state (of_client n st) past (λ q b server i. seek_noted s c past n k st.lines q b h.0 z i server) (crashed_alive (Client n) st.lines (quietly s c past n place m k (λ y. Alive y.lines) h.0.1 at z e (λ code. refl) refl refl)) (λ q server. t.boots (λ p own. refl) q server) (h.1 n))
      t.sent d);
  missed = λ c past n k h r z d. (let x : ClientState = c.clients n in let st : Step ClientState = seek_timeout_row (Client n) x k in
      let t = missed_tame any_told any_told (IsOld IsServer x) n x k (own_seats c past n h.0.0) in
      client_booted s c past n st _ h refl refl (missed_acts n x k r z)
      (unnoted_knows s n x st.state (of_client n st) past (ungiven_unnoted s n (of_client n st) past (missed_ungiven (Client n) x k)) (crashed_alive (Client n) st.lines (missed_alive (Client n) x k)) (λ q server. t.boots (λ p own. refl) q server) (h.1 n))
      t.sent d);
  loc = λ c past l ls ms h st d. idle_booted s c past (loc_becomes c l ls ms) h refl (λ j e. absurd cc) (loc_idle ls st.lines) (loc_uncalled c l ls ms st) d;
  waited = λ c past n act h r d. (let x : ClientState = c.clients n in let st : Step ClientState = timeout_row (Client n) x act in
      client_booted s c past n st _ h refl refl (waits_acts n x act r)
      (unnoted_knows s n x st.state (of_client n st) past (ungiven_unnoted s n (of_client n st) past (waited_ungiven (Client n) x act)) (crashed_alive (Client n) st.lines (waited_alive (Client n) x act)) (waited_boots IsServer c past n act h.0.0 r) (h.1 n))
      (waits_tame any_told any_told (IsOld IsServer x) n x act r (own_seats c past n h.0.0)).sent d);
  fallen = λ c past n h d. client_booted s c past n (record { state = reborn c.handed (c.clients n); lines = lines.Crash (Client n) ∷ []; sent = [] }) _ h refl refl (falls_acts n c.handed (c.clients n) (handed_same s c past (h.0.1) n)) (fallen_knows s c past n) tt d;
  risen = λ c past n h d. (let x : ClientState = c.clients n in let st : Step ClientState = record { state = x; lines = lines.Restart (Client n) x.epoch ∷ []; sent = [] } in
      client_booted s c past n st _ h refl refl (rises_acts n x) (unnoted_knows s n x x (of_client n st) past (ungiven_unnoted s n (of_client n st) past refl) refl (λ q server. refl) (h.1 n)) tt d);
  served = λ c past i place m armed h up at to d. idle_booted s c past (server_moves c i armed (server_row (Server i) (c.hosts i).state c.clock place (Whole m))) h refl (no_client i) (idle_works any_message i (c.hosts i).state _ _ (serves_works any_message (Server i) (c.hosts i).state c.clock place m (λ rest. tt))) (served_uncalled c past i place m h.0.0 at) d;
  cut = λ c past i place m t h up at to d. idle_booted s c past (server_falls c i (lines.Given place ∷ blow_line i t.stops ∷ []) (in_step m c.clock t)) h refl (no_client i) (blow_idle i t.stops) tt d;
  stopped = λ c past i h up d. idle_booted s c past (server_falls c i (lines.Crash (Server i) ∷ []) at_rest) h refl (no_client i) refl tt d;
  stop_set = λ c past i calls pick armed h up d. idle_booted s c past (server_set c i (lines.Stop (Server i) calls pick) armed) h refl (no_client i) refl tt d;
  fail_set = λ c past i call armed h up d. idle_booted s c past (server_set c i (lines.Fail (Server i) call) armed) h refl (no_client i) refl tt d;
  timed = λ c past i n b armed h up at d. idle_booted s c past (server_moves c i armed (back_timeout_row (Server i) (c.hosts i).state c.clock n b)) h refl (no_client i) (idle_works any_message i (c.hosts i).state _ _ (times_works any_message (Server i) (c.hosts i).state c.clock n b)) (timed_uncalled c past i n b h.0.0) d;
  woken = λ c past i armed h up d. idle_booted s c past (server_moves c i armed (wake_row (Server i) (c.hosts i).state c.clock)) h refl (no_client i) (idle_works any_message i (c.hosts i).state _ _ (wakes_works any_message (Server i) (c.hosts i).state c.clock)) (woken_uncalled c past i h.0.0) d;
  started = λ c past i after fall h down d. idle_booted s c past (server_rises c i (begun_by_disk (Server i) (c.hosts i).state after fall)) h refl (no_client i)
      (idle_works any_message i (c.hosts i).state _ _ (starts_works any_message (Server i) (c.hosts i).state c.clock c.count (begun_by_disk (Server i) (c.hosts i).state after fall) (disk_works any_message (Server i) (c.hosts i).state after fall (risen_lines (Server i) c.clock c.count (begun_by_disk (Server i) (c.hosts i).state after fall)) (any_cut fall) (risen_from (Server i) c.clock c.count (begun_by_disk (Server i) (c.hosts i).state after fall)))))
      (started_uncalled c past i after fall h.0.0 down) d;
  early = λ c past i fall h down d. idle_booted s c past (server_falls c i (lines.Fault (Server i) ∷ []) fall) h refl (no_client i) refl tt d;
  midway = λ c past i after fall h down d. idle_booted s c past (server_stays c i (begun_by_disk (Server i) (c.hosts i).state after fall) (lines.Fault (Server i)) in_boot) h refl (no_client i) (idle_works any_message i (c.hosts i).state _ _ (disk_works any_message (Server i) (c.hosts i).state after fall (lines.Fault (Server i) ∷ []) (any_cut fall) (one_from (Server i) true refl))) tt d;
  full = λ c past i after fall h down d. idle_booted s c past (server_stays c i (begun_by_disk (Server i) (c.hosts i).state after fall) (lines.Full (Server i)) at_rest) h refl (no_client i) (idle_works any_message i (c.hosts i).state _ _ (disk_works any_message (Server i) (c.hosts i).state after fall (lines.Full (Server i) ∷ []) (any_cut fall) (one_from (Server i) true refl))) tt d;
}

step_booted : (s : Script) (c : Cell) (past : List Entry) (x : Input) → IsSoundLoc c.loc.state → AreBooted s c past → Boots s past (moved c x)
step_booted s c past x so h = each_moved (AreBooted s) (BootedStep s) (booted_moves s) c past x so h (each_moved Known DeliveredStep delivered_moves c past x so h.0.0)

pub booted_kept : (s : Script) → IsKept (AreBooted s)
booted_kept s c past x so h = (asked_kept s c past x so h.0, (step_booted s c past x so h).knows)

pub booted_now : (s : Script) (c : Cell) (past : List Entry) (x : Input) → IsSoundLoc c.loc.state → AreBooted s c past → Each (IfCall (KnowsIt s ((moved c x).entry ∷ past))) (moved c x).entry.sent
booted_now s c past x so h = (step_booted s c past x so h).calls

pub booted_first : (s : Script) → AreBooted s (start s) (set_up_entry s ∷ [])
booted_first s = (asked_first s, λ j q server. inr ((λ b i. (let no_ : None ≡ Some i.message = sym (given_first (first_lines s.volumes) [] (all_versions s.volumes)) ∙ i.given in absurd cc)), inr (crashed_alive (Client j) (first_lines s.volumes) (versions_alive (first_lines s.volumes) (all_versions s.volumes)), refl)))
