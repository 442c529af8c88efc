use Rattle.spec_history.specs.declared.acts.Operand.{Operand}
use Rattle.spec_history.specs.declared.acts.Act.{Act}
use Rattle.spec_history.specs.declared.acts.Act.TheVariants as acts
use Rattle.spec_history.specs.declared.lines.Line.{Line}
use Rattle.spec_history.specs.declared.lines.Line.TheVariants as lines
use Rattle.spec_history.specs.declared.scripts.Script.{Script}
use Rattle.spec_ideal.specs.Operations.{volume_changed}
use Rattle.law_legal.proofs.ActLines.{Acts, is_of, last_key, who_at}
use Rattle.law_legal.proofs.ActSteps.{begins_acts, falls_acts, given_acts, rises_acts, waits_acts, missed_acts}
use Rattle.law_legal.proofs.ClientReplyArrives.{Based, arrives, based_first, based_kept}
use Rattle.law_legal.proofs.OwedPasses.{all_lines}
use Rattle.law_legal.proofs.BaseLaws.{at_put, both, same_node-refl, same_node-true, some_of}
use Rattle.law_legal.proofs.VolumeChanges.{run_each}
use Rattle.law_legal.proofs.ServerChooses.{disk_works, one_from, risen_from, risen_lines, serves_works, starts_works, times_works, wakes_works}
use Rattle.law_legal.proofs.ActIsDue.{DueFacts, due_first, due_kept}
use Rattle.law_legal.proofs.CallKeysOnce.{IsKnown, any_told, by_key}
use Rattle.law_legal.proofs.RunWalk.{Behind, EachMove, IsKept, each_moved}
use Rattle.law_legal.proofs.ActCallsInRuns.{any_cut, any_message, blow_idle, idle_works, loc_idle, quietly, sought_acts_in}
use Rattle.law_legal.proofs.ActCalls.{idle_leaves, is_idle, of_client, other_leaves, handed_same, IsSeeking}
use Rattle.law_legal.proofs.KeptOfCell.{AreOurs, trusted_ours'}
use Rattle.law_legal.proofs.ClientWaits.{GivenSilent}
use Rattle.law_legal.proofs.BaseWords.{fids_of_gifts}
use Rattle.law_legal.proofs.ActWalks.{walked_act}
use Rattle.law_legal.specs.Breaks.{IsNamedIn}
use Rattle.law_legal.specs.Cells.{IsOfCell}
use Rattle.law_legal.specs.Ideal.{set_up_entry, user_of}
use Rattle.law_legal.specs.Legal.{GivesAllBack, GivesSomeBack, IsGivenBack, IsKind, drops_in, dropped_first}
use Rattle.law_legal.specs.Parts.{EachEntry, EachLine, LineRule}
use Rattle.law_legal.specs.Past.{CalledSince, HasCode, has_begun, lines_of, running}
use Rattle.spec_model.specs.Calls as pairs
use Rattle.spec_model.specs.Calls.{Admitted, admitted}
use Rattle.spec_model.specs.FsRows.{call_number, reply_number}
use Rattle.afs_num.specs.Nodes.{same_node}
use Rattle.afs_num.specs.declared.calls.AfsCallBack.{AfsCallBack}
use Rattle.afs_num.specs.declared.calls.FsCall.{FsCall}
use Rattle.afs_num.specs.declared.calls.FsCall.TheVariants as calls
use Rattle.afs_num.specs.declared.calls.FsReply.{FsReply}
use Rattle.afs_num.specs.declared.calls.FsReply.TheVariants as replies
use Rattle.afs_num.specs.declared.histories.Actor.{Actor}
use Rattle.afs_num.specs.declared.histories.Actor.TheVariants as actors
use Rattle.afs_num.specs.declared.histories.ReadBody.{ReadBody}
use Rattle.afs_num.specs.declared.messages.Call.TheVariants as ask
use Rattle.afs_num.specs.declared.messages.Carried.{Carried}
use Rattle.afs_num.specs.declared.messages.Carried.TheVariants as carried
use Rattle.afs_num.specs.declared.messages.Message.{Message}
use Rattle.afs_num.specs.declared.messages.Received.TheVariants.{Whole}
use Rattle.afs_num.specs.declared.messages.Reply.TheVariants as tell
use Rattle.afs_num.specs.declared.types.Code.{Code}
use Rattle.afs_num.specs.declared.types.Fid.{Fid}
use Rattle.afs_num.specs.declared.types.Head.{Head}
use Rattle.afs_num.specs.declared.types.Node.{Node}
use Rattle.afs_num.specs.declared.types.Node.TheVariants.{Client, Server}
use Rattle.spec_rows.specs.Callbacks.{put}
use Rattle.spec_rows.specs.ClientRow.{Walked, admits_call, awaits, batch, begin_row, begins_by, behind_batch, breaks, call_by, call_of, calls_again, client_row, counts, dead_code, drop_line, dropped, gift_call, gift_of, with_given, given_promise, given_up_in, gives_by, gives_up, goes_by, hears, ignores, in_order, is_awaited, is_busy_code, is_spent, most_busy, most_reads, reborn, refuses, runs_carried, takes, timeout_row, tries_again, trusted_in, untrusted_in, walked, whole, sought_ends, seek_timeout_row, sought_by, act_sought, seeks_on, timeout_line, act_by, is_gone_code, asks_where, refuses_for_good, volume_asked, most_moved}
use Rattle.spec_rows.specs.Going.{locates, ClientState, Going, Need, answers, began, gives_back, next, read_on, with_read, Seek, operand_in}
use Rattle.law_legal.proofs.RunSteps.{blow_line, server_falls, server_moves, server_rises, server_set, server_stays, loc_becomes}
use Rattle.spec_rows.specs.Runs.{Cell, Entry, Moved, RunsTo, at_rest, begun_by_disk, in_boot, in_step, locations, message_at, start, ticked, voided}
use Rattle.spec_rows.specs.ServerSteps.{back_timeout_row, server_row, wake_row}
use Rattle.spec_rows.specs.States.{CacheEntry, Gift}
use Rattle.spec_rows.specs.Steps.{Step}
use Rattle.std.proofs.Common.{zero, suc, ◌≡◌, ◌+◌, ◌⊎◌, inl, inr, ℕ, pos, negsuc, Bool, true, false, cond, nat_eq, eq-eqb, List, [], ◌∷◌, ◌++◌, map, Option, Some, None, refl, sym, ap, subst, ◌∙◌}
use Rattle.std.specs.Prelude.{⊤, ◌&&◌, nat_lt}
use Rattle.law_legal.proofs.ClientReturns.{Has, Keeps, all_in_order, batch_has, dropped_begins, dropped_names, one_going, told_keeps}

-- ---- what is to be given back at a client

-- of what it gave up when its act began, each is still to be given back, or was
abbrev AllReturn : Script → ℕ → ClientState → List Entry → Type 0
AllReturn s j x past = (a : Going) → x.running ≡ Some a → a.act ≡ acts.GiveUp → (f : Fid) → IsNamedIn f (dropped_first (Client j) past) → Has f x.gifts ⊎ IsGivenBack s (Client j) past f

-- and it gave up something
abbrev SomeReturn : ℕ → ClientState → List Entry → Type 0
SomeReturn j x past = (a : Going) → x.running ≡ Some a → a.act ≡ acts.GiveUp → dropped_first (Client j) past ≡ [] → ⊥

abbrev Returns : Script → ℕ → ClientState → List Entry → Type 0
Returns s j x past = AllReturn s j x past × SomeReturn j x past

abbrev ReturnsOf : Script → (ℕ → ClientState) → List Entry → Type 0
ReturnsOf s clients past = (j : ℕ) → Returns s j (clients j) past

abbrev ReturnsIn : Script → Cell → List Entry → Type 0
ReturnsIn s c past = IsOfCell s → ReturnsOf s c.clients past

abbrev Returned : Script → Cell → List Entry → Type 0
Returned s c past = (Based s c past × DueFacts s c past) × ReturnsIn s c past

first_by : (t : Bool) (f : Fid) (own older : List Fid) → t ≡ false → IsNamedIn f (cond t own older) → IsNamedIn f older
first_by true f own older e h = absurd cc
first_by false f own older e h = h

none_by : (t : Bool) (own older : List Fid) → t ≡ false → cond t own older ≡ [] → older ≡ []
none_by true own older e h = absurd cc
none_by false own older e h = h

-- an entry in which the client begins no act
given_more : (s : Script) (c : Node) (e : Entry) (past : List Entry) (f : Fid) → has_begun c e.lines ≡ false → IsGivenBack s c past f → IsGivenBack s c (e ∷ past) f
given_more s c e past f none g = record { key = g.key; node = g.node; fids = g.fids; callbacks = g.callbacks; called = inr (subst (λ (n : Node). has_begun n e.lines ≡ false) (sym g.node) none, g.called); named = g.named }

other_returns : (s : Script) (j : ℕ) (x : ClientState) (e : Entry) (past : List Entry) → has_begun (Client j) e.lines ≡ false → Returns s j x past → Returns s j x (e ∷ past)
other_returns s j x e past none h = (
  (λ a r is f named. elim (h.0 a r is f (first_by (has_begun (Client j) e.lines) f (drops_in (Client j) e.lines) (dropped_first (Client j) past) none named)) [ inl y ↦ inl y | inr y ↦ inr (given_more s (Client j) e past f none y) ]),
  (λ a r is first. h.1 a r is (none_by (has_begun (Client j) e.lines) (drops_in (Client j) e.lines) (dropped_first (Client j) past) none first)),
)

-- the call of an act that gives back names the first batch
gift_is : (c : ClientState) (a : Going) → a.act ≡ acts.GiveUp → call_of c a ≡ gift_call (batch c.gifts)
gift_is c a is = ap (call_by c.gifts) (ap (λ (y : Act). next (record a { act = y })) is)

-- the call that it waits for gives its batch back
batch_back : (s : Script) (n : ℕ) (c : ClientState) (past : List Entry) (a : Going) (f : Fid) → CalledSince (last_key n c) (user_of s (Client n)) (call_of c a) past → a.act ≡ acts.GiveUp → Has f (batch c.gifts) → IsGivenBack s (Client n) past f
batch_back s n c past a f called is h = record {
  key = last_key n c;
  node = refl;
  fids = fids_of_gifts (batch c.gifts);
  callbacks = map given_promise (batch c.gifts);
  called = subst (λ (k : FsCall). CalledSince (last_key n c) (user_of s (Client n)) k past) (gift_is c a is) called;
  named = h;
}

-- what its act asks was sent since it began
abbrev IsAsking : Script → ℕ → ClientState → List Entry → Type 0
IsAsking s n c past = (a : Going) → c.running ≡ Some a → CalledSince (last_key n c) (user_of s (Client n)) (call_of c a) past

told_returns : (s : Script) (n place : ℕ) (c : ClientState) (clock : ℕ) (m : Message) (past : List Entry) (e : Entry) → e.lines ≡ (client_row (Client n) c clock place (Whole m)).lines → IsAsking s n c past → Returns s n c past → Returns s n (client_row (Client n) c clock place (Whole m)).state (e ∷ past)
told_returns s n place c clock m past e are asking h =
    let K : Keeps n c.running c.gifts (client_row (Client n) c clock place (Whole m)) = told_keeps n c clock place m in
    let none : has_begun (Client n) e.lines ≡ false = ap (has_begun (Client n)) are ∙ K.begins in (
      (λ b rb is f named.
          (let k = K.goes b rb in
          let was : k.0.act ≡ acts.GiveUp = sym k.1.1.0 ∙ is in
          elim (h.0 k.0 k.1.0 was f (first_by (has_begun (Client n) e.lines) f (drops_in (Client n) e.lines) (dropped_first (Client n) past) none named)) [
            | inl y ↦ elim (k.1.1.1 f y) [ inl z ↦ inl z | inr z ↦ inr (given_more s (Client n) e past f none (batch_back s n c past k.0 f (asking k.0 k.1.0) was z)) ]
            | inr y ↦ inr (given_more s (Client n) e past f none y)
          ])),
      (λ b rb is first. (let k = K.goes b rb in h.1 k.0 k.1.0 (sym k.1.1.0 ∙ is) (none_by (has_begun (Client n) e.lines) (drops_in (Client n) e.lines) (dropped_first (Client n) past) none first))),
    )

-- an act begins: what it drops is to be given back
first_case : (t : Bool) (f : Fid) (own older : List Fid) → t ≡ true → IsNamedIn f (cond t own older) → IsNamedIn f own
first_case true f own older e h = h
first_case false f own older e h = absurd cc

gives_all_case : (s : Script) (n : ℕ) (y : ClientState) (act : Going) (es : List CacheEntry) (gs : List Gift) (past : List Entry) (e : Entry) → AreOurs es → in_order (map gift_of es) ≡ gs → e.lines ≡ (gives_by (Client n) y (λ ls. lines.Begin (Client n) acts.GiveUp ∷ dropped (Client n) es ls) act gs).lines → AllReturn s n (gives_by (Client n) y (λ ls. lines.Begin (Client n) acts.GiveUp ∷ dropped (Client n) es ls) act gs).state (e ∷ past)
gives_all_case s n y act es [] past e ours is are b r give f named = let no_ : None ≡ Some b = r in absurd cc
gives_all_case s n y act es (g ∷ gs) past e ours is are b r give f named =
    let begun : has_begun (Client n) e.lines ≡ true = ap (has_begun (Client n)) are ∙ ap (λ (t : Bool). cond t true (has_begun (Client n) (dropped (Client n) es []))) (same_node-refl (Client n)) in
    let own : IsNamedIn f (drops_in (Client n) e.lines) = first_case (has_begun (Client n) e.lines) f (drops_in (Client n) e.lines) (dropped_first (Client n) past) begun named in
    let there : Has f (map gift_of es) = dropped_names n es [] f refl (subst (λ (ls : List Line). IsNamedIn f (drops_in (Client n) ls)) are own) in
    inl (subst (Has f) is (all_in_order es f ours there))

nothing_is : (t : Bool) (f : Fid) (fs : List Fid) → t ≡ true → cond t (f ∷ fs) fs ≡ [] → ⊥
nothing_is true f fs e h = absurd cc
nothing_is false f fs e h = absurd cc

own_by : (t : Bool) (own older : List Fid) → t ≡ true → cond t own older ≡ [] → own ≡ []
own_by true own older e h = h
own_by false own older e h = absurd cc

gives_some_case : (s : Script) (n : ℕ) (y : ClientState) (act : Going) (es : List CacheEntry) (gs : List Gift) (past : List Entry) (e : Entry) → in_order (map gift_of es) ≡ gs → e.lines ≡ (gives_by (Client n) y (λ ls. lines.Begin (Client n) acts.GiveUp ∷ dropped (Client n) es ls) act gs).lines → SomeReturn n (gives_by (Client n) y (λ ls. lines.Begin (Client n) acts.GiveUp ∷ dropped (Client n) es ls) act gs).state (e ∷ past)
gives_some_case s n y act es [] past e is are b r give first = let no_ : None ≡ Some b = r in absurd cc
gives_some_case s n y act [] (g ∷ gs) past e is are b r give first = absurd cc
gives_some_case s n y act (u ∷ es) (g ∷ gs) past e is are b r give first =
    let begun : has_begun (Client n) e.lines ≡ true = ap (has_begun (Client n)) are ∙ ap (λ (t : Bool). cond t true (has_begun (Client n) (dropped (Client n) (u ∷ es) []))) (same_node-refl (Client n)) in
    let own : drops_in (Client n) e.lines ≡ [] = own_by (has_begun (Client n) e.lines) (drops_in (Client n) e.lines) (dropped_first (Client n) past) begun first in
    nothing_is (same_node (Client n) (Client n)) u.fid (drops_in (Client n) (dropped (Client n) es [])) (same_node-refl (Client n)) (subst (λ (ls : List Line). drops_in (Client n) ls ≡ []) are own)

-- an act that begins is the one that runs
goes_act : (n : ℕ) (c : ClientState) (front : List Line → List Line) (w : Walked) (need : Need) (b : Going) → (goes_by (Client n) c front w need).state.running ≡ Some b → b.act ≡ w.act.act
goes_act n c front w (answers k) b e = let no_ : None ≡ Some b = e in absurd cc
goes_act n c front w (locates x) b e = let no_ : None ≡ Some b = e in absurd cc
goes_act n c front w need b e = sym (ap (λ (x : Going). x.act) (one_going w.act b e))

gives_act : (n : ℕ) (c : ClientState) (front : List Line → List Line) (act : Going) (gs : List Gift) (b : Going) → (gives_by (Client n) c front act gs).state.running ≡ Some b → b.act ≡ act.act
gives_act n c front act [] b e = let no_ : None ≡ Some b = e in absurd cc
gives_act n c front act (g ∷ gs) b e = sym (ap (λ (x : Going). x.act) (one_going act b e))

begins_act : (n : ℕ) (c : ClientState) (clock : ℕ) (front : List Line → List Line) (act : Going) (need : Need) (b : Going) → (begins_by (Client n) c clock front act need).state.running ≡ Some b → b.act ≡ act.act
begins_act n c clock front act gives_back b e = gives_act n (record c { cache = untrusted_in clock c.cache }) (λ ls. front (dropped (Client n) (trusted_in clock c.cache) ls)) act (in_order (map gift_of (trusted_in clock c.cache))) b e
begins_act n c clock front act need b e = goes_act n c front (walked (most_reads act) clock act c.cache) (next (walked (most_reads act) clock act c.cache).act) b e ∙ walked_act (most_reads act) clock act c.cache

abbrev is_give : Act → Bool
is_give acts.GiveUp = true
is_give act = false

not_give : (act : Act) → is_give act ≡ false → act ≡ acts.GiveUp → ⊥
not_give act h e = let no_ : true ≡ false = sym (ap is_give e) ∙ h in absurd cc

begun_returns : (s : Script) (n clock : ℕ) (c : ClientState) (act : Act) (past : List Entry) (e : Entry) → AreOurs c.cache → e.lines ≡ (begin_row (Client n) c clock act).lines → Returns s n (begin_row (Client n) c clock act).state (e ∷ past)
unfolding begin_row
begun_returns s n clock c acts.GiveUp past e ours are =
    let y : ClientState = record c { busy = 0; moved = 0; cache = untrusted_in clock c.cache } in
    let es : List CacheEntry = trusted_in clock c.cache in
    (gives_all_case s n y (began c.table acts.GiveUp) es (in_order (map gift_of es)) past e (trusted_ours' clock c.cache ours) refl are, gives_some_case s n y (began c.table acts.GiveUp) es (in_order (map gift_of es)) past e refl are)
begun_returns s n clock c act past e ours are =
    let same : (b : Going) → (begins_by (Client n) (record c { busy = 0; moved = 0 }) clock (λ ls. lines.Begin (Client n) act ∷ ls) (began c.table act) (next (began c.table act))).state.running ≡ Some b → b.act ≡ acts.GiveUp → ⊥ = λ b r give. not_give act refl (sym (begins_act n (record c { busy = 0; moved = 0 }) clock (λ ls. lines.Begin (Client n) act ∷ ls) (began c.table act) (next (began c.table act)) b r) ∙ give) in
    ((λ b r give f named. absurd (same b r give)), (λ b r give first. same b r give))

ended_returns : (s : Script) (n : ℕ) (x : ClientState) (past : List Entry) → x.running ≡ None → Returns s n x past
ended_returns s n x past none = ((λ a r give f named. (let no_ : None ≡ Some a = sym none ∙ r in absurd cc)), (λ a r give first. (let no_ : None ≡ Some a = sym none ∙ r in absurd cc)))

waited_begins : (n : ℕ) (c : ClientState) (act : Going) (t : Bool) → has_begun (Client n) (cond t (tries_again (Client n) c act) (gives_up (Client n) c (call_of c act))).lines ≡ false
waited_begins n c act true = refl
waited_begins n c act false = dropped_begins n (Client n) (given_up_in (volume_changed (call_of c act)) c.cache) (lines.Answer (Client n) dead_code ∷ [])

waited_returns : (s : Script) (n : ℕ) (c : ClientState) (act : Going) (past : List Entry) (e : Entry) (t : Bool) → has_begun (Client n) e.lines ≡ false → Returns s n c past → Returns s n (cond t (tries_again (Client n) c act) (gives_up (Client n) c (call_of c act))).state (e ∷ past)
waited_returns s n c act past e true none h = other_returns s n c e past none h
waited_returns s n c act past e false none h = ended_returns s n (gives_up (Client n) c (call_of c act)).state (e ∷ past) refl

-- ---- every step

idle_returns : (s : Script) (c : Cell) (past : List Entry) (e : Entry) → Returned s c past → all_lines is_idle e.lines ≡ true → IsOfCell s → ReturnsOf s c.clients (e ∷ past)
idle_returns s c past e h idle cell j = other_returns s j (c.clients j) e past (idle_leaves s j e.lines (lines_of past) idle).begins (h.1 cell j)

client_returns : (s : Script) (c : Cell) (past : List Entry) (n : ℕ) (st : Step ClientState) → Returned s c past → all_lines (is_of n) st.lines ≡ true → (IsOfCell s → Returns s n st.state (of_client n st ∷ past)) → IsOfCell s → ReturnsOf s (put n st.state c.clients) (of_client n st ∷ past)
client_returns s c past n st h of own cell j =
    at_put n j (λ (x : ClientState). Returns s j x (of_client n st ∷ past)) st.state c.clients
    (λ same. subst (λ (i : ℕ). Returns s i st.state (of_client n st ∷ past)) same (own cell))
    (λ other. other_returns s j (c.clients j) (of_client n st) past (other_leaves s n j st.lines (lines_of past) of other).begins (h.1 cell j))

abbrev silents : (s : Script) (c : Cell) (past : List Entry) → Returned s c past → GivenSilent s c past
silents s c past h = h.0.0.silent

told_of : (s : Script) (c : Cell) (past : List Entry) (n place : ℕ) (m : Message) → GivenSilent s c past → Acts n (who_at (c.clients n)) (c.clients n).gifts (client_row (Client n) (c.clients n) c.clock place (Whole m))
told_of s c past n place m h = given_acts (by_key (IsKnown h.0.0.0.0.0.keys.callees c.clients)) any_told n (c.clients n) c.clock place m (h.0.0.0.0.0.keys.replies n) (h.0.0.0.0.1.seats n)

missed_idle : (n : ℕ) (c : ClientState) (k : Seek) (t : Bool) → c.running ≡ None → (cond t (seeks_on (Client n) c k) (sought_ends (Client n) c (λ ls. timeout_line (Client n) c 3 ∷ ls) dead_code)).state.running ≡ None
missed_idle n c k true r = r
missed_idle n c k false r = r

returns_moves : (s : Script) → EachMove (Returned s) (Behind (ReturnsIn s))
returns_moves s = record {
  void = λ c past h. idle_returns s c past (voided c).entry h refl;
  ticked = λ c past n h. idle_returns s c past (ticked c (suc n)).entry h refl;
  begun = λ c past n act h r z0. client_returns s c past n _ h (begins_acts n (c.clients n) c.clock act r z0).of (λ cell. begun_returns s n c.clock (c.clients n) act past _ (h.0.1.1.0 cell n).cache refl);
  told = λ c past n place m h at to un. client_returns s c past n _ h (told_of s c past n place m (silents s c past h)).of (λ cell. told_returns s n place (c.clients n) c.clock m past _ refl (λ a r. (silents s c past h).0.0.0.0.1.asked n a r) (h.1 cell n));
  sought = λ c past n place m k h at to z e. client_returns s c past n _ h (sought_acts_in s c past n place m k (silents s c past h).0.0.0.0.1 at z e).of (λ cell. ended_returns s n (sought_by (Client n) (c.clients n) c.clock place k m.head m.carried).state _ (quietly s c past n place m k (λ st. st.state.running ≡ None) (silents s c past h).0.0.0.0.1 at z e (λ code. ((silents s c past h).0.0.0.0.1.seeks n k z).idle) ((silents s c past h).0.0.0.0.1.seeks n k z).idle ((silents s c past h).0.0.0.0.1.seeks n k z).idle));
  missed = λ c past n k h r z. client_returns s c past n _ h (missed_acts n (c.clients n) k r z).of (λ cell. ended_returns s n (seek_timeout_row (Client n) (c.clients n) k).state _ (missed_idle n (c.clients n) k (nat_lt (c.clients n).tries 2) r));
  loc = λ c past l ls ms h st. idle_returns s c past (loc_becomes c l ls ms).entry h (loc_idle ls st.lines);
  waited = λ c past n act h r. client_returns s c past n _ h (waits_acts n (c.clients n) act r).of (λ cell. waited_returns s n (c.clients n) act past _ (nat_lt (c.clients n).tries 2) (waited_begins n (c.clients n) act (nat_lt (c.clients n).tries 2)) (h.1 cell n));
  fallen = λ c past n h. client_returns s c past n _ h (falls_acts n c.handed (c.clients n) (handed_same s c past (silents s c past h).0.0.0.0.1 n)).of (λ cell. ended_returns s n (reborn c.handed (c.clients n)) _ refl);
  risen = λ c past n h. client_returns s c past n _ h (rises_acts n (c.clients n)).of (λ cell. other_returns s n (c.clients n) _ past refl (h.1 cell n));
  served = λ c past i place m armed h up at to. idle_returns s c past (server_moves c i armed (server_row (Server i) (c.hosts i).state c.clock place (Whole m))).entry h (idle_works any_message i (c.hosts i).state _ _ (serves_works any_message (Server i) (c.hosts i).state c.clock place m (λ rest. tt)));
  cut = λ c past i place m t h up at to. idle_returns s c past (server_falls c i (lines.Given place ∷ blow_line i t.stops ∷ []) (in_step m c.clock t)).entry h (blow_idle i t.stops);
  stopped = λ c past i h up. idle_returns s c past (server_falls c i (lines.Crash (Server i) ∷ []) at_rest).entry h refl;
  stop_set = λ c past i calls pick armed h up. idle_returns s c past (server_set c i (lines.Stop (Server i) calls pick) armed).entry h refl;
  fail_set = λ c past i call armed h up. idle_returns s c past (server_set c i (lines.Fail (Server i) call) armed).entry h refl;
  timed = λ c past i n b armed h up at. idle_returns s c past (server_moves c i armed (back_timeout_row (Server i) (c.hosts i).state c.clock n b)).entry h (idle_works any_message i (c.hosts i).state _ _ (times_works any_message (Server i) (c.hosts i).state c.clock n b));
  woken = λ c past i armed h up. idle_returns s c past (server_moves c i armed (wake_row (Server i) (c.hosts i).state c.clock)).entry h (idle_works any_message i (c.hosts i).state _ _ (wakes_works any_message (Server i) (c.hosts i).state c.clock));
  started = λ c past i after fall h down. idle_returns s c past (server_rises c i (begun_by_disk (Server i) (c.hosts i).state after fall)).entry h (idle_works any_message i (c.hosts i).state _ _ (starts_works any_message (Server i) (c.hosts i).state c.clock c.count (begun_by_disk (Server i) (c.hosts i).state after fall) (disk_works any_message (Server i) (c.hosts i).state after fall (risen_lines (Server i) c.clock c.count (begun_by_disk (Server i) (c.hosts i).state after fall)) (any_cut fall) (risen_from (Server i) c.clock c.count (begun_by_disk (Server i) (c.hosts i).state after fall)))));
  early = λ c past i fall h down. idle_returns s c past (server_falls c i (lines.Fault (Server i) ∷ []) fall).entry h refl;
  midway = λ c past i after fall h down. idle_returns s c past (server_stays c i (begun_by_disk (Server i) (c.hosts i).state after fall) (lines.Fault (Server i)) in_boot).entry h (idle_works any_message i (c.hosts i).state _ _ (disk_works any_message (Server i) (c.hosts i).state after fall (lines.Fault (Server i) ∷ []) (any_cut fall) (one_from (Server i) true refl)));
  full = λ c past i after fall h down. idle_returns s c past (server_stays c i (begun_by_disk (Server i) (c.hosts i).state after fall) (lines.Full (Server i)) at_rest).entry h (idle_works any_message i (c.hosts i).state _ _ (disk_works any_message (Server i) (c.hosts i).state after fall (lines.Full (Server i) ∷ []) (any_cut fall) (one_from (Server i) true refl)));
}

returned_kept : (s : Script) → IsKept (Returned s)
returned_kept s c past x so h = ((based_kept s c past x so h.0.0, due_kept s c past x so h.0.1), each_moved (Returned s) (Behind (ReturnsIn s)) (returns_moves s) c past x so h)

-- ---- the answers

-- an act that gives promises back
abbrev Gives : Option Going → Type 0
Gives o = (a : Going) × ((o ≡ Some a) × (a.act ≡ acts.GiveUp))

read_gives : (t : Bool) (f : Fid) (body : ReadBody) (o : Option Going) → Gives (read_on t f body o) → Gives o
read_gives true f body None h = h
read_gives true f body (Some b) h = (b, (refl, ap (λ (x : Going). x.act) (one_going (with_read f body b) h.0 h.1.0) ∙ h.1.1))
read_gives false f body o h = h

ended_gives : (t : Bool) (o : Option Going) → Gives (cond t None o) → Gives o
ended_gives true o h = let no_ : None ≡ Some h.0 = h.1.0 in absurd cc
ended_gives false o h = h

begun_gives : (t x : Bool) (a : Going) (o : Option Going) → cond t true x ≡ false → Gives (cond t (Some a) o) → (x ≡ false) × Gives o
begun_gives true x a o e h = absurd cc
begun_gives false x a o e h = (e, h)

-- it ran before these lines, in which none begins
gives_before : (s : Script) (c : Node) (own o : List Line) → has_begun c own ≡ false → Gives (running s c (own ++ o)) → Gives (running s c o)
gives_before s c [] o none h = h
gives_before s c (lines.Begin m act ∷ own) o none h = let p = begun_gives (same_node m c) (has_begun c own) (began (locations s) act) (running s c (own ++ o)) none h in gives_before s c own o p.0 p.1
gives_before s c (lines.Read m f index source body ∷ own) o none h = gives_before s c own o none (read_gives (same_node m c) f body (running s c (own ++ o)) h)
gives_before s c (lines.Answer m code ∷ own) o none h = gives_before s c own o none (ended_gives (same_node m c) (running s c (own ++ o)) h)
gives_before s c (lines.Crash m ∷ own) o none h = gives_before s c own o none (ended_gives (same_node m c) (running s c (own ++ o)) h)
gives_before s c (l ∷ own) o none h = gives_before s c own o none h

-- an answer with this code is among the lines
abbrev HasAnswer : Code → List Line → Type 0
HasAnswer code [] = ⊥
HasAnswer code (lines.Answer c k ∷ ls) = (k ≡ code) ⊎ HasAnswer code ls
HasAnswer code (l ∷ ls) = HasAnswer code ls

dropped_answer : (m : Node) (es : List CacheEntry) (code k : Code) → HasAnswer code (dropped m es (lines.Answer m k ∷ [])) → k ≡ code
dropped_answer m [] code k (inl e) = e
dropped_answer m [] code k (inr h) = absurd h
dropped_answer m (e ∷ es) code k h = dropped_answer m es code k h

drops_answer : (m : Node) (fs : List Fid) (code : Code) → HasAnswer code (map (drop_line m) fs) → ⊥
drops_answer m [] code h = h
drops_answer m (f ∷ fs) code h = drops_answer m fs code h

-- what a step answers with code 0 while the act gives promises back, it answers where all that was left is in the call that was answered
abbrev IsAll : ClientState → Type 0
IsAll c = (f : Fid) → Has f c.gifts → Has f (batch c.gifts)

abbrev IsAllBehind : ClientState → Code → List Line → Type 0
IsAllBehind c code ls = HasAnswer code ls → IsAll c

either_all : (t : Bool) (c : ClientState) (code : Code) (a b : Step ClientState) → IsAllBehind c code a.lines → IsAllBehind c code b.lines → IsAllBehind c code (cond t a b).lines
either_all true c code a b h k = h
either_all false c code a b h k = k

rest_all : (n : ℕ) (c : ClientState) (place : ℕ) (act : Going) (code : Code) (gs : List Gift) → ((f : Fid) → Has f c.gifts → Has f (batch c.gifts) ⊎ Has f gs) → IsAllBehind c code (gives_by (Client n) c (with_given place) act gs).lines
rest_all n c place act code [] w h f x = elim (w f x) [ inl y ↦ y | inr y ↦ absurd y ]
rest_all n c place act code (g ∷ gs) w h f x = absurd h

differ : (n k : ℕ) → nat_eq n k ≡ false → n ≡ k → ⊥
differ n k apart e = let no_ : true ≡ false = sym (eq-eqb n k e) ∙ apart in absurd cc

takes_all : (n : ℕ) (c : ClientState) (clock place : ℕ) (act : Going) (code : Code) (fids : List Fid) (callbacks : List AfsCallBack) (reply : FsReply) → reply_number reply ≡ 147 → IsAllBehind c code (takes (Client n) c clock place act (calls.GiveUpCallBacks fids callbacks) reply).lines
takes_all n c clock place act code fids callbacks replies.GiveUpCallBacks kind = rest_all n c place act code (behind_batch c.gifts) (λ f h. batch_has c.gifts f h)
takes_all n c clock place act code fids callbacks reply kind = λ h. absurd (differ (reply_number reply) 147 refl kind)

where_all : (n : ℕ) (c : ClientState) (place : ℕ) (act : Going) (code k : Code) (o : Option Operand) → (k.0 ≡ pos 0 → ⊥) → code.0 ≡ pos 0 → IsAllBehind c code (asks_where (Client n) c place act k o).lines
where_all n c place act code k None some zero_told = λ h. elim h [ inl e ↦ absurd (some (ap (λ (x : Code). x.0) e ∙ zero_told)) | inr x ↦ absurd x ]
where_all n c place act code k (Some o) some zero_told = λ h. absurd h

refuses_all : (n : ℕ) (c : ClientState) (place : ℕ) (act : Going) (code k : Code) → (k.0 ≡ pos 0 → ⊥) → code.0 ≡ pos 0 → IsAllBehind c code (refuses (Client n) c place act k).lines
refuses_all n c place act code k some zero_told = either_all (is_busy_code k && nat_lt c.busy most_busy) c code (calls_again (Client n) (record c { busy = c.busy + 1 }) place act) (refuses_for_good (Client n) c place act k) (λ h. absurd h)
    (either_all (is_gone_code k && nat_lt c.moved most_moved) c code _ _ (where_all n c place act code k (operand_in act (volume_asked (call_of c act))) some zero_told) (λ h. elim h [ inl e ↦ absurd (some (ap (λ (x : Code). x.0) e ∙ zero_told)) | inr x ↦ absurd x ]))

abbrev IsGiftKind : Carried → Type 0
IsGiftKind x = IsKind (calls.GiveUpCallBacks [] []) x

counts_all : (n : ℕ) (c : ClientState) (clock place : ℕ) (act : Going) (head : Head) (x : Carried) (code : Code) → act.act ≡ acts.GiveUp → (HasCode x → IsGiftKind x) → code.0 ≡ pos 0 → IsAllBehind c code (counts (Client n) c clock place act head x).lines
counts_all n c clock place act head (carried.Call user call) code is kind z = λ h. absurd h
counts_all n c clock place act head (carried.Refusal k) code is kind z = either_all (is_spent c act) c code _ _ (λ h. absurd h) (refuses_all n c place act code k (kind tt) z)
counts_all n c clock place act head (carried.Reply (tell.File reply)) code is kind z =
    either_all (is_spent c act) c code _ _ (λ h. absurd h)
    (subst (λ (call : FsCall). IsAllBehind c code (takes (Client n) c clock place act call reply).lines) (sym (gift_is c act is)) (takes_all n c clock place act code (fids_of_gifts (batch c.gifts)) (map given_promise (batch c.gifts)) reply (kind tt)))
counts_all n c clock place act head (carried.Reply reply) code is kind z = λ h. absurd h
counts_all n c clock place act head carried.Notice code is kind z = λ h. absurd h

awaited_all : (n : ℕ) (c : ClientState) (clock place : ℕ) (act : Going) (head : Head) (x : Carried) (code : Code) (t : Bool) → is_awaited c act head ≡ t → act.act ≡ acts.GiveUp → (is_awaited c act head ≡ true → HasCode x → IsGiftKind x) → code.0 ≡ pos 0 → IsAllBehind c code (cond t (counts (Client n) c clock place act head x) (ignores c place)).lines
awaited_all n c clock place act head x code true e is kind z = counts_all n c clock place act head x code is (kind e) z
awaited_all n c clock place act head x code false e is kind z = λ h. absurd h

awaits_all : (n : ℕ) (c : ClientState) (clock place : ℕ) (act : Going) (head : Head) (x : Carried) (code : Code) → c.running ≡ Some act → act.act ≡ acts.GiveUp → (is_awaited c act head ≡ true → HasCode x → IsGiftKind x) → code.0 ≡ pos 0 → IsAllBehind c code (awaits (Client n) c clock place head x c.running).lines
awaits_all n c clock place act head x code r is kind z = subst (λ (o : Option Going). IsAllBehind c code (awaits (Client n) c clock place head x o).lines) (sym r) (awaited_all n c clock place act head x code (is_awaited c act head) refl is kind z)

breaks_all : (n : ℕ) (c : ClientState) (place : ℕ) (head : Head) (call : FsCall) (code : Code) → IsAllBehind c code (breaks (Client n) c place head call).lines
breaks_all n c place head (calls.CallBack fs callbacks) code h = absurd (drops_answer (Client n) fs code h)
breaks_all n c place head calls.InitCallBackState code h = absurd h
breaks_all n c place head calls.Probe code h = absurd h
breaks_all n c place head call code h = absurd h

carried_all : (n : ℕ) (c : ClientState) (place : ℕ) (head : Head) (x : Carried) (code : Code) → IsAllBehind c code (runs_carried (Client n) c place head x).lines
carried_all n c place head (carried.Call user (ask.File call)) code = breaks_all n c place head call code
carried_all n c place head (carried.Call user call) code = λ h. absurd h
carried_all n c place head x code = λ h. absurd h

admits_all : (n : ℕ) (c : ClientState) (place : ℕ) (head : Head) (x : Carried) (o : Admitted Message) (code : Code) → IsAllBehind c code (admits_call (Client n) c place head (whole head x) o).lines
admits_all n c place head x pairs.runs code = carried_all n c place head x code
admits_all n c place head x (pairs.kept reply) code = λ h. absurd h
admits_all n c place head x pairs.in_progress code = λ h. absurd h
admits_all n c place head x pairs.older code = λ h. absurd h
admits_all n c place head x (pairs.wrong_boot boot) code = λ h. absurd h

hears_all : (n : ℕ) (c : ClientState) (clock place : ℕ) (act : Going) (head : Head) (x : Carried) (code : Code) → c.running ≡ Some act → act.act ≡ acts.GiveUp → (is_awaited c act head ≡ true → HasCode x → IsGiftKind x) → code.0 ≡ pos 0 → IsAllBehind c code (hears (Client n) c clock place head x).lines
hears_all n c clock place act head (carried.Call user call) code r is kind z = admits_all n c place head (carried.Call user call) (admitted c.epoch c.seats head) code
hears_all n c clock place act head x code r is kind z = awaits_all n c clock place act head x code r is kind z

told_all : (n : ℕ) (c : ClientState) (clock place : ℕ) (act : Going) (m : Message) (code : Code) → c.running ≡ Some act → act.act ≡ acts.GiveUp → (is_awaited c act m.head ≡ true → HasCode m.carried → IsGiftKind m.carried) → code.0 ≡ pos 0 → IsAllBehind c code (client_row (Client n) c clock place (Whole m)).lines
unfolding client_row
told_all n c clock place act m code r is kind z = either_all (same_node m.head.to (Client n)) c code _ _ (hears_all n c clock place act m.head m.carried code r is kind z) (λ h. absurd h)

-- the reply for which it waits is of the kind of what gives promises back
gift_kind : (call : FsCall) (fids : List Fid) (callbacks : List AfsCallBack) (x : Carried) → call ≡ calls.GiveUpCallBacks fids callbacks → IsKind call x → IsGiftKind x
gift_kind call fids callbacks (carried.Refusal code) e h = h
gift_kind call fids callbacks (carried.Reply (tell.File reply)) e h = h ∙ ap call_number e
gift_kind call fids callbacks (carried.Reply (tell.Volume reply)) e h = h
gift_kind call fids callbacks (carried.Reply (tell.Location reply)) e h = h
gift_kind call fids callbacks (carried.Call user c) e h = h
gift_kind call fids callbacks carried.Notice e h = h

-- an answer in an entry of a client gives all back
abbrev pub IsReturned : Script → LineRule
IsReturned s who (lines.Answer c code) past own next = GivesAllBack s c code.0 past own × GivesSomeBack s c past own
IsReturned s who l past own next = ⊤

-- what was given up when the act began was given back, where these lines answer with code 0
abbrev IsBackBehind : Script → ℕ → List Entry → List Line → Type 0
IsBackBehind s n past ls = (code : Code) → HasAnswer code ls → code.0 ≡ pos 0 → Gives (running s (Client n) (lines_of past)) → (f : Fid) → IsNamedIn f (dropped_first (Client n) past) → IsGivenBack s (Client n) past f

-- and something was
abbrev IsSomeBehind : Script → ℕ → List Entry → Type 0
IsSomeBehind s n past = Gives (running s (Client n) (lines_of past)) → dropped_first (Client n) past ≡ [] → ⊥

back_line : (s : Script) (who : Actor) (n : ℕ) (l : Line) (past : List Entry) (own ls : List Line) → is_of n l ≡ true → IsBackBehind s n past (l ∷ ls) → IsSomeBehind s n past → IsReturned s who l past own ls
back_line s who n (lines.Answer c code) past own ls of w some =
    let same : c ≡ Client n = same_node-true c (Client n) of in
    let before : (act : Going) → running s c (own ++ lines_of past) ≡ Some act → act.act ≡ acts.GiveUp → has_begun c own ≡ false → Gives (running s (Client n) (lines_of past)) = λ act r give none. gives_before s (Client n) own (lines_of past) (subst (λ (m : Node). has_begun m own ≡ false) same none) (act, (subst (λ (m : Node). running s m (own ++ lines_of past) ≡ Some act) same r, give)) in (
      (λ act f r give zero_told none named. subst (λ (m : Node). IsGivenBack s m past f) (sym same) (w code (inl refl) zero_told (before act r give none) f (subst (λ (m : Node). IsNamedIn f (dropped_first m past)) same named))),
      (λ act r give none first. some (before act r give none) (subst (λ (m : Node). dropped_first m past ≡ []) same first)),
    )
back_line s who n l past own ls of w some = tt

back_rest : (s : Script) (n : ℕ) (past : List Entry) (l : Line) (ls : List Line) → IsBackBehind s n past (l ∷ ls) → IsBackBehind s n past ls
back_rest s n past (lines.Answer c code) ls w k h = w k (inr h)
back_rest s n past l ls w k h = w k h

back_lines : (s : Script) (who : Actor) (n : ℕ) (past : List Entry) (own ls : List Line) → all_lines (is_of n) ls ≡ true → IsBackBehind s n past ls → IsSomeBehind s n past → EachLine (IsReturned s) who past own ls
back_lines s who n past own [] of w some = tt
back_lines s who n past own (l ∷ ls) of w some = let p = both (is_of n l) (all_lines (is_of n) ls) of in (back_line s who n l past own ls p.0 w some, back_lines s who n past (l ∷ own) ls p.1 (back_rest s n past l ls w) some)

abbrev pub ReturnedIn : Script → List Entry → Entry → Type 0
ReturnedIn s past e = IsOfCell s → (j : ℕ) → e.actor ≡ actors.Node (Client j) → EachLine (IsReturned s) e.actor past [] e.lines

abbrev ReturnedStep : Script → Cell → List Entry → Moved → Type 0
ReturnedStep s c past m = ReturnedIn s past m.entry

-- an act that waits for the location database gives nothing back
seeks_keeps : (s : Script) (c : Cell) (past : List Entry) (n : ℕ) (k : Seek) → Returned s c past → (c.clients n).seeking ≡ Some k → Gives (running s (Client n) (lines_of past)) → ⊥
seeks_keeps s c past n k h z give =
    let A = (silents s c past h).0.0.0.0.1 in
    let q : IsSeeking s n (c.clients n) k past = A.seeks n k z in
    let runs : Some k.act ≡ Some give.0 = sym (A.acts n ∙ (ap (λ (a : Option Going). act_by a (c.clients n).seeking) q.idle ∙ ap act_sought z)) ∙ give.1.0 in
    q.asks (ap (λ (g : Going). g.act) (some_of k.act give.0 runs) ∙ give.1.1)

-- an act that runs is the one for which a server is waited
gives_runs : (s : Script) (c : Cell) (past : List Entry) (n : ℕ) → Returned s c past → (give : Gives (running s (Client n) (lines_of past))) → (c.clients n).running ≡ Some give.0
gives_runs s c past n h give = runs_by (c.clients n).running (c.clients n).seeking refl refl
  where
    runs_by : (r : Option Going) (o : Option Seek) → (c.clients n).running ≡ r → (c.clients n).seeking ≡ o → (c.clients n).running ≡ Some give.0
    runs_by (Some a) o e z = e ∙ (sym (ap (λ (x : Option Going). act_by x (c.clients n).seeking) e) ∙ (sym ((silents s c past h).0.0.0.0.1.acts n) ∙ give.1.0))
    runs_by None (Some k) e z = absurd (seeks_keeps s c past n k h z give)
    runs_by None None e z = (let none : None ≡ Some give.0 = sym (ap (λ (x : Option Going). act_by x (c.clients n).seeking) e ∙ ap act_sought z) ∙ (sym ((silents s c past h).0.0.0.0.1.acts n) ∙ give.1.0) in absurd cc)

told_back : (s : Script) (c : Cell) (past : List Entry) (n place : ℕ) (m : Message) → IsOfCell s → Returned s c past → message_at c.sent place ≡ Some m → m.head.to ≡ Client n → IsBackBehind s n past (client_row (Client n) (c.clients n) c.clock place (Whole m)).lines
told_back s c past n place m cell h at to code has zero_told give f named =
    let a : Going = give.0 in
    let A = (silents s c past h).0.0.0.0.1 in
    let runs : (c.clients n).running ≡ Some a = gives_runs s c past n h give in
    elim ((h.1 cell n).0 a runs give.1.1 f named) [
      | inl y ↦
          batch_back s n (c.clients n) past a f (A.asked n a runs) give.1.1
          (told_all n (c.clients n) c.clock place a m code runs give.1.1
          (λ w has_code. (let t = arrives s c past n place a m h.0.0 at has_code to runs w in gift_kind t.tells.call (fids_of_gifts (batch (c.clients n).gifts)) (map given_promise (batch (c.clients n).gifts)) m.carried (t.call ∙ gift_is (c.clients n) a give.1.1) t.tells.kind)) zero_told has f y)
      | inr y ↦ y
    ]

some_back : (s : Script) (c : Cell) (past : List Entry) (n : ℕ) → IsOfCell s → Returned s c past → IsSomeBehind s n past
some_back s c past n cell h give first = (h.1 cell n).1 give.0 (gives_runs s c past n h give) give.1.1 first

waited_answer : (n : ℕ) (c : ClientState) (act : Going) (t : Bool) (code : Code) → HasAnswer code (cond t (tries_again (Client n) c act) (gives_up (Client n) c (call_of c act))).lines → code.0 ≡ pos 0 → ⊥
waited_answer n c act true code h z = h
waited_answer n c act false code h z = let no_ : negsuc 0 ≡ pos 0 = ap (λ (k : Code). k.0) (dropped_answer (Client n) (given_up_in (volume_changed (call_of c act)) c.cache) code dead_code h) ∙ z in absurd cc

begun_back : (s : Script) (c : Cell) (past : List Entry) (n : ℕ) (ls : List Line) → running s (Client n) (lines_of past) ≡ None → IsBackBehind s n past ls
begun_back s c past n ls none code h z give f named = let no_ : None ≡ Some give.0 = sym none ∙ give.1.0 in absurd cc

server_apart : (s : Script) (past : List Entry) (e : Entry) → ((j : ℕ) → e.actor ≡ actors.Node (Client j) → ⊥) → ReturnedIn s past e
server_apart s past e ne cell j z = absurd (ne j z)

answers_moves : (s : Script) → EachMove (Returned s) (ReturnedStep s)
answers_moves s = record {
  void = λ c past h. server_apart s past (voided c).entry (λ j z. absurd cc);
  ticked = λ c past n h. server_apart s past (ticked c (suc n)).entry (λ j z. absurd cc);
  begun = λ c past n act h r z0 cell j z. back_lines s (actors.Node (Client n)) n past [] (begin_row (Client n) (c.clients n) c.clock act).lines (begins_acts n (c.clients n) c.clock act r z0).of (begun_back s c past n (begin_row (Client n) (c.clients n) c.clock act).lines (((silents s c past h).0.0.0.0.1.acts n ∙ (ap (λ (a : Option Going). act_by a (c.clients n).seeking) r ∙ ap act_sought z0)))) (some_back s c past n cell h);
  told = λ c past n place m h at to un cell j z. back_lines s (actors.Node (Client n)) n past [] (client_row (Client n) (c.clients n) c.clock place (Whole m)).lines (told_of s c past n place m (silents s c past h)).of (told_back s c past n place m cell h at to) (some_back s c past n cell h);
  sought = λ c past n place m k h at to z e cell j w. back_lines s (actors.Node (Client n)) n past [] (sought_by (Client n) (c.clients n) c.clock place k m.head m.carried).lines (sought_acts_in s c past n place m k (silents s c past h).0.0.0.0.1 at z e).of (λ code has zero give f named. absurd (seeks_keeps s c past n k h z give)) (λ give first. seeks_keeps s c past n k h z give);
  missed = λ c past n k h r z cell j w. back_lines s (actors.Node (Client n)) n past [] (seek_timeout_row (Client n) (c.clients n) k).lines (missed_acts n (c.clients n) k r z).of (λ code has zero give f named. absurd (seeks_keeps s c past n k h z give)) (λ give first. seeks_keeps s c past n k h z give);
  loc = λ c past l ls ms h st. server_apart s past (loc_becomes c l ls ms).entry (λ j z. absurd cc);
  waited = λ c past n act h r cell j z. back_lines s (actors.Node (Client n)) n past [] (timeout_row (Client n) (c.clients n) act).lines (waits_acts n (c.clients n) act r).of (λ code has zero_told give f named. absurd (waited_answer n (c.clients n) act (nat_lt (c.clients n).tries 2) code has zero_told)) (some_back s c past n cell h);
  fallen = λ c past n h cell j z. (tt, tt);
  risen = λ c past n h cell j z. (tt, tt);
  served = λ c past i place m armed h up at to. server_apart s past (server_moves c i armed (server_row (Server i) (c.hosts i).state c.clock place (Whole m))).entry (λ j z. absurd cc);
  cut = λ c past i place m t h up at to. server_apart s past (server_falls c i (lines.Given place ∷ blow_line i t.stops ∷ []) (in_step m c.clock t)).entry (λ j z. absurd cc);
  stopped = λ c past i h up. server_apart s past (server_falls c i (lines.Crash (Server i) ∷ []) at_rest).entry (λ j z. absurd cc);
  stop_set = λ c past i calls pick armed h up. server_apart s past (server_set c i (lines.Stop (Server i) calls pick) armed).entry (λ j z. absurd cc);
  fail_set = λ c past i call armed h up. server_apart s past (server_set c i (lines.Fail (Server i) call) armed).entry (λ j z. absurd cc);
  timed = λ c past i n b armed h up at. server_apart s past (server_moves c i armed (back_timeout_row (Server i) (c.hosts i).state c.clock n b)).entry (λ j z. absurd cc);
  woken = λ c past i armed h up. server_apart s past (server_moves c i armed (wake_row (Server i) (c.hosts i).state c.clock)).entry (λ j z. absurd cc);
  started = λ c past i after fall h down. server_apart s past (server_rises c i (begun_by_disk (Server i) (c.hosts i).state after fall)).entry (λ j z. absurd cc);
  early = λ c past i fall h down. server_apart s past (server_falls c i (lines.Fault (Server i) ∷ []) fall).entry (λ j z. absurd cc);
  midway = λ c past i after fall h down. server_apart s past (server_stays c i (begun_by_disk (Server i) (c.hosts i).state after fall) (lines.Fault (Server i)) in_boot).entry (λ j z. absurd cc);
  full = λ c past i after fall h down. server_apart s past (server_stays c i (begun_by_disk (Server i) (c.hosts i).state after fall) (lines.Full (Server i)) at_rest).entry (λ j z. absurd cc);
}

pub run_returned : (s : Script) (h : List Entry) (end : Cell) → RunsTo h s end → EachEntry (ReturnedIn s) (set_up_entry s ∷ []) h
run_returned s h end r =
    run_each (Returned s) (ReturnedIn s) (returned_kept s) (λ c past x so k. each_moved (Returned s) (ReturnedStep s) (answers_moves s) c past x so k) r.inputs s (set_up_entry s ∷ []) h end ((based_first s, due_first s), λ cell j. ended_returns s j ((start s).clients j) (set_up_entry s ∷ []) refl) r.leads
