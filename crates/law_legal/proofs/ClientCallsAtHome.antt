-- A client's file call is to the server that its script gives to the volume of which it asks, however many servers a cell has.
use Rattle.law_legal.proofs.DatabaseKeeps.{loc_uncalled}
use Rattle.law_legal.proofs.ActFollows.{none_runs, AreOfServers, Follows, begins_follow, falls_follow, given_follow, rises_follow, waits_follow, sought_follow, missed_follow}
use Rattle.spec_history.specs.declared.acts.Act.{Act}
use Rattle.spec_history.specs.declared.acts.Act.TheVariants as acts
use Rattle.spec_history.specs.declared.acts.Operand.{Operand}
use Rattle.spec_history.specs.declared.acts.Operand.TheVariants as operands
use Rattle.spec_history.specs.declared.acts.Path.{Path}
use Rattle.spec_history.specs.declared.scripts.Script.{Script}
use Rattle.spec_ideal.specs.Operations.{volume_called, volume_changed}
use Rattle.law_legal.proofs.ActLines.{Acts, IsTheCall, who_at, runs_act}
use Rattle.law_legal.proofs.ActSteps.{begins_acts, falls_acts, given_acts, rises_acts, waits_acts, missed_acts}
use Rattle.law_legal.proofs.BaseLaws.{Each, IfCall, at_put, each_at, each_map, each_more, if_call, some_of}
use Rattle.law_legal.proofs.ClientCalls.{IsUncalled, uncalled_any}
use Rattle.law_legal.proofs.ServerRefusesForGood.{IsFirm}
use Rattle.law_legal.proofs.ClientGifts.{Given, given_first, given_kept}
use Rattle.law_legal.proofs.CallKeysOnce.{IsKnown, any_told, by_key}
use Rattle.law_legal.proofs.RunsKnown.{served_uncalled, started_uncalled, timed_uncalled, woken_uncalled}
use Rattle.law_legal.proofs.RunWalk.{Behind, EachMove, IsKept, each_moved}
use Rattle.law_legal.proofs.ActNeeds.{AreHomesOf, AreIn, IsOf, Wants, call_of, needs_of, of_act}
use Rattle.law_legal.proofs.ActNeedsNext.{asks_change}
use Rattle.law_legal.proofs.ClientCallsByTable.{server_at}
use Rattle.law_legal.proofs.ActNamesVolumes.{IsHomeIn, IsLaid, homes_laid, laid_at, running_homes}
use Rattle.law_legal.proofs.ActCalls.{of_client, handed_same}
use Rattle.law_legal.proofs.ActCallsInRuns.{the_calls, sought_acts_in, placed_in, told_in}
use Rattle.law_legal.specs.Ideal.{IsPutAt, set_up_entry}
use Rattle.law_legal.specs.Past.{lines_of, running}
use Rattle.afs_num.specs.declared.calls.FsCall.{FsCall}
use Rattle.afs_num.specs.declared.calls.FsCall.TheVariants as calls
use Rattle.afs_num.specs.declared.directories.Name.{Name}
use Rattle.afs_num.specs.declared.histories.Body.{Body}
use Rattle.afs_num.specs.declared.histories.Body.TheVariants as bodies
use Rattle.afs_num.specs.declared.histories.ReadStatus.{ReadStatus}
use Rattle.afs_num.specs.declared.messages.Message.{Message}
use Rattle.afs_num.specs.declared.types.Fid.{Fid}
use Rattle.afs_num.specs.declared.types.Head.{Head}
use Rattle.afs_num.specs.declared.types.Node.TheVariants.{Client, Server}
use Rattle.afs_num.specs.declared.types.Node.{Node}
use Rattle.spec_rows.specs.Callbacks.{put}
use Rattle.spec_rows.specs.ClientRow.{call_by, callee_by, callee_of, first_server_of, number_or_none, server_for, volume_asked, act_of}
use Rattle.spec_rows.specs.Going.{ClientState, Going, Homes, Need, Parted, ReadShown, TakenRead, act_needs, answers, asks_for, at_parent, by_body, by_kind, by_statuses, call_for, fid_of, first_body, by_status, first_status, gives_back, has_rights, homes_of, in_directory, in_home, is_even, is_last_name, is_root_path, looked_up, named_first, next, of_one, parted, reading, reading_rights, reading_status, reading_statuses, reads, reads_rights, reads_status, reads_statuses, root_of, shows, statuses_in, step_to, to_object, to_parent, walk, locates, volume_at, operand_in}
use Rattle.spec_rows.specs.Runs.{Cell, Entry, locations, start}
use Rattle.spec_rows.specs.States.{Gift, Location}
use Rattle.spec_rows.specs.Steps.{Step}
use Rattle.std.proofs.Common.{◌≡◌, ℕ, ◌⊎◌, inl, inr, Bool, true, false, cond, List, [], ◌∷◌, ◌++◌, map, Option, Some, None, refl, sym, ap, subst, ◌∙◌, not, nat_eq}
use Rattle.std.specs.Prelude.{⊤, ◌&&◌, ◌||◌}

-- ---- the volumes of which a call asks

abbrev pub IsOneIn : ℕ → List Fid → Type 0
IsOneIn id [] = ⊥
IsOneIn id (f ∷ fs) = (f.volume ≡ id) ⊎ IsOneIn id fs

abbrev pub AsksOf : FsCall → ℕ → Type 0
AsksOf (calls.GiveUpCallBacks fids callbacks) id = ⊥
AsksOf calls.GetTime id = ⊥
AsksOf (calls.BulkStatus fids) id = IsOneIn id fids
AsksOf call id = volume_called call ≡ Some id

-- ---- the callee

one_in : (v id : ℕ) (fs : List Fid) → AreIn v fs → IsOneIn id fs → v ≡ id
one_in v id [] h x = absurd x
one_in v id (f ∷ fs) h (inl e) = sym h.0 ∙ e
one_in v id (f ∷ fs) h (inr x) = one_in v id fs h.1 x

plain_call : (call : FsCall) (id : ℕ) → (volume_changed call ≡ None → ⊥) → AsksOf call id → volume_called call ≡ Some id
plain_call (calls.GiveUpCallBacks fids callbacks) id w h = absurd h
plain_call calls.GetTime id w h = absurd h
plain_call (calls.BulkStatus fids) id w h = absurd (w refl)
plain_call call id w h = h

plain_volume : (call : FsCall) (id : ℕ) → (volume_changed call ≡ None → ⊥) → AsksOf call id → volume_asked call ≡ id
plain_volume (calls.GiveUpCallBacks fids callbacks) id w h = absurd h
plain_volume calls.GetTime id w h = absurd h
plain_volume (calls.BulkStatus fids) id w h = absurd (w refl)
plain_volume call id w h = ap number_or_none h

-- the calls that an act asks for change something
abbrev AsksChanges : Need → Type 0
AsksChanges need = (call : FsCall) → need ≡ asks_for call → volume_changed call ≡ None → ⊥

-- where each volume that it may ask for has its operand's entry at its server, the call goes there
one_server : (c : ClientState) (act : Going) (v id : ℕ) → server_for c.table (operand_in act v) ≡ server_at c.table v → v ≡ id → Server (server_for c.table (operand_in act v)) ≡ Server (server_at c.table id)
one_server c act v id k same = ap (λ (i : ℕ). Server i) (k ∙ ap (server_at c.table) same)

to_volume : (W : Wants) (c : ClientState) (act : Going) (need : Need) (id : ℕ) → IsOf W need → ((v : ℕ) → W.volume v → server_for c.table (operand_in act v) ≡ server_at c.table v) → AsksChanges need → AsksOf (call_by c.gifts need) id → callee_by c act need ≡ Server (server_at c.table id)
to_volume W c act (reads f) id h k w x = one_server c act f.volume id (k f.volume h) (some_of f.volume id x)
to_volume W c act (reads_status f) id h k w x = one_server c act f.volume id (k f.volume h) (some_of f.volume id x)
to_volume W c act (reads_statuses []) id h k w x = absurd x
to_volume W c act (reads_statuses (f ∷ fs)) id h k w x = one_server c act f.volume id (subst (λ (v : ℕ). server_for c.table (operand_in act v) ≡ server_at c.table v) (sym h.1.1.0) (k h.0 h.1.0)) (h.1.1.0 ∙ one_in h.0 id (f ∷ fs) h.1.1 x)
to_volume W c act (reads_rights f) id h k w x = one_server c act f.volume id (k f.volume h) (some_of f.volume id x)
to_volume W c act (asks_for call) id h k w x =
    let same : volume_asked call ≡ id = plain_volume call id (w call refl) x in
    ap (λ (v : ℕ). Server (server_for c.table (operand_in act v))) same ∙ ap (λ (i : ℕ). Server i) (k id (h id (plain_call call id (w call refl) x)))
to_volume W c act gives_back id h k w x = absurd x
to_volume W c act (locates o) id h k w x = absurd x
to_volume W c act (answers n) id h k w x = absurd x

-- a volume of which the call asks is one that the act names
asked_of : (W : Wants) (gs : List Gift) (need : Need) (id : ℕ) → IsOf W need → AsksChanges need → AsksOf (call_by gs need) id → W.volume id
asked_of W gs (reads f) id h w x = call_of W.volume f.volume h id x
asked_of W gs (reads_status f) id h w x = call_of W.volume f.volume h id x
asked_of W gs (reads_statuses fids) id h w x = subst W.volume (one_in h.0 id fids h.1.1 x) h.1.0
asked_of W gs (reads_rights f) id h w x = call_of W.volume f.volume h id x
asked_of W gs (asks_for call) id h w x = h id (plain_call call id (w call refl) x)
asked_of W gs gives_back id h w x = absurd x
asked_of W gs (locates o) id h w x = absurd x
asked_of W gs (answers k) id h w x = absurd x

-- of an act over the script's table
abbrev Wanted : Script → Going → Wants
Wanted s act = of_act (IsHomeIn s.volumes act) (λ (o : Operand). volume_at (locations s) o ≡ None) act.act

needed : (s : Script) (act : Going) → act.homes ≡ homes_of (locations s) act.act → IsOf (Wanted s act) (next act)
needed s act at = needs_of (IsHomeIn s.volumes act) (λ (o : Operand). volume_at (locations s) o ≡ None) act.homes act.act act.reads (subst (λ (z : Homes). AreHomesOf (Wanted s act) z act.act) (sym at) (homes_laid s.volumes act at))

-- so each of its calls goes to the server of its volume
goes_to : (s : Script) (y : ClientState) (act : Going) → y.table ≡ locations s → act.homes ≡ homes_of (locations s) act.act → (id : ℕ) → AsksOf (call_by y.gifts (next act)) id → callee_of y act ≡ Server (server_at (locations s) id)
goes_to s y act t at id w =
    to_volume (Wanted s act) y act (next act) id (needed s act at) (λ v k. subst (λ (ls : List Location). server_for ls (operand_in act v) ≡ server_at ls v) (sym t) k.1) (asks_change act) w ∙ ap (λ (ls : List Location). Server (server_at ls id)) t

asked_laid : (s : Script) (y : ClientState) (act : Going) → act.homes ≡ homes_of (locations s) act.act → (id : ℕ) → AsksOf (call_by y.gifts (next act)) id → IsLaid s.volumes id
asked_laid s y act at id w = (asked_of (Wanted s act) y.gifts (next act) id (needed s act at) (asks_change act) w).0

-- the volume of which the call asks is at the callee
pub asked_at : (s : Script) (y : ClientState) (act : Going) → y.table ≡ locations s → y.callee ≡ callee_of y act → act.homes ≡ homes_of (locations s) act.act → (id : ℕ) → AsksOf (call_by y.gifts (next act)) id → IsPutAt id y.callee s.volumes
asked_at s y act t callee at id w = subst (λ (q : Node). IsPutAt id q s.volumes) (sym (callee ∙ goes_to s y act t at id w)) (laid_at s id (asked_laid s y act at id w))

-- only an act that gives promises back needs that
pub gives_is : (s : Script) (act : Going) → act.homes ≡ homes_of (locations s) act.act → next act ≡ gives_back → act.act ≡ acts.GiveUp
gives_is s act at e = subst (IsOf (Wanted s act)) e (needed s act at)

callee_same : (x y : ClientState) (act : Going) (need : Need) → y.table ≡ x.table → y.gifts ≡ x.gifts → callee_by x act need ≡ callee_by y act need
callee_same x y act gives_back t g = ap first_server_of (sym g)
callee_same x y act need t g = ap (λ (ls : List Location). Server (server_for ls (operand_in act (volume_asked (call_for need))))) (sym t)

-- what an act needs its client asks where that is
abbrev pub CalleesOf : (ℕ → ClientState) → Type 0
CalleesOf clients = (j : ℕ) (act : Going) → (clients j).running ≡ Some act → (clients j).callee ≡ callee_of (clients j) act

-- and what it has to give back is of servers; so its callee is one
abbrev pub GiversOf : (ℕ → ClientState) → Type 0
GiversOf clients = (j : ℕ) → AreOfServers (clients j).gifts

abbrev pub IsServer : Node → Type 0
IsServer n = (i : ℕ) × (n ≡ Server i)

first_giver : (gs : List Gift) → AreOfServers gs → IsServer (first_server_of gs)
first_giver [] h = (1, refl)
first_giver (g ∷ gs) h = h.0

pub asked_server : (x : ClientState) (act : Going) (need : Need) → AreOfServers x.gifts → IsServer (callee_by x act need)
asked_server x act gives_back h = first_giver x.gifts h
asked_server x act need h = (server_for x.table (operand_in act (volume_asked (call_for need))), refl)

pub callee_server : (j : ℕ) (clients : ℕ → ClientState) (act : Going) → CalleesOf clients → GiversOf clients → (clients j).running ≡ Some act → IsServer (clients j).callee
callee_server j clients act h k run = subst IsServer (sym (h j act run)) (asked_server (clients j) act (next act) (k j))

step_callee : (n : ℕ) (c : ClientState) (st : Step ClientState) → ((act : Going) → c.running ≡ Some act → c.callee ≡ callee_of c act) → Acts n (who_at c) c.gifts st → Follows n c st → (act : Going) → st.state.running ≡ Some act → st.state.callee ≡ callee_of st.state act
step_callee n c st h a f act run = elim a.goes [
  | inl r ↦ elim r.act [
    | inl none ↦ absurd (none_runs st.state.running act none run)
    | inr same ↦ (f.stays act run r.last).callee ∙ (h act (sym same.0 ∙ run) ∙ callee_same c st.state act (next act) a.table same.1.0)
  ]
  | inr y ↦ elim y [
    | inl z ↦ z.callee ∙ ap (λ (g : Going). callee_of st.state g) (some_of z.act act (sym z.runs ∙ run))
    | inr z ↦ absurd (none_runs st.state.running act z.act run)
  ]
]

-- ---- every file call

pub record IsHome (s : Script) (head : Head) (user : List ℕ) (call : FsCall) : Type 0 where
  pub server : IsServer head.to
  pub to : (id : ℕ) → AsksOf call id → head.to ≡ Server (server_at (locations s) id)
  pub laid : (id : ℕ) → AsksOf call id → IsLaid s.volumes id

new_home : (s : Script) (n : ℕ) (y : ClientState) → y.table ≡ locations s → AreOfServers y.gifts → ((act : Going) → y.running ≡ Some act → y.callee ≡ callee_of y act) → ((act : Going) → y.running ≡ Some act → act.homes ≡ homes_of (locations s) act.act) → (head : Head) (user : List ℕ) (call : FsCall) → IsTheCall n y head user call → IsHome s head user call
new_home s n y t g h at head user call x = record {
  server = subst IsServer (sym (x.to ∙ h x.act x.runs)) (asked_server y x.act (next x.act) g);
  to = λ id w. x.to ∙ (h x.act x.runs ∙ goes_to s y x.act t (at x.act x.runs) id (subst (λ (f : FsCall). AsksOf f id) x.asks w));
  laid = λ id w. asked_laid s y x.act (at x.act x.runs) id (subst (λ (f : FsCall). AsksOf f id) x.asks w);
}

abbrev pub HomesIn : Script → Cell → List Entry → Type 0
HomesIn s c past = (CalleesOf c.clients × GiversOf c.clients) × Each (IfCall (IsHome s)) c.sent

abbrev pub Addressed : Script → Cell → List Entry → Type 0
Addressed s c past = Given s c past × HomesIn s c past

client_homes : (s : Script) (c : Cell) (past : List Entry) (n : ℕ) (st : Step ClientState) → (c.clients n).table ≡ locations s → running s (Client n) (lines_of past) ≡ act_of (c.clients n) → HomesIn s c past → Acts n (who_at (c.clients n)) (c.clients n).gifts st → Follows n (c.clients n) st → (CalleesOf (put n st.state c.clients) × GiversOf (put n st.state c.clients)) × Each (IfCall (IsHome s)) (c.sent ++ st.sent)
client_homes s c past n st t r h a f =
    let now : (act : Going) → st.state.running ≡ Some act → st.state.callee ≡ callee_of st.state act = step_callee n (c.clients n) st (h.0.0 n) a f in
    let gifts : AreOfServers st.state.gifts = f.servers (h.0.1 n) in
    let homes : (act : Going) → st.state.running ≡ Some act → act.homes ≡ homes_of (locations s) act.act = λ act run. running_homes s (Client n) (lines_of (of_client n st ∷ past)) act (a.runs s t (lines_of past) r ∙ runs_act st.state act run) in (
      (
        λ j. at_put n j (λ (x : ClientState). (act : Going) → x.running ≡ Some act → x.callee ≡ callee_of x act) st.state c.clients (λ same. now) (λ other. h.0.0 j),
        λ j. at_put n j (λ (x : ClientState). AreOfServers x.gifts) st.state c.clients (λ same. gifts) (λ other. h.0.1 j),
      ),
      each_more (IfCall (IsHome s)) c.sent st.sent h.1 (each_map (IfCall (IsTheCall n st.state)) (IfCall (IsHome s)) (if_call (IsTheCall n st.state) (IsHome s) (new_home s n st.state (a.table ∙ t) gifts now homes)) st.sent (the_calls n (c.clients n) st a.goes)),
    )

server_homes : (s : Script) (c : Cell) (past : List Entry) (ms : List Message) → HomesIn s c past → Each IsUncalled ms → (CalleesOf c.clients × GiversOf c.clients) × Each (IfCall (IsHome s)) (c.sent ++ ms)
server_homes s c past ms h none = (h.0, each_more (IfCall (IsHome s)) c.sent ms h.1 (each_map IsUncalled (IfCall (IsHome s)) (uncalled_any (IsHome s)) ms none))

homes_moves : (s : Script) → EachMove (Addressed s) (Behind (HomesIn s))
homes_moves s = record {
  void = λ c past h. h.1;
  ticked = λ c past n h. h.1;
  begun = λ c past n act h r z. client_homes s c past n _ (h.0.0.0.0.1.table n) (h.0.0.0.0.1.acts n) h.1 (begins_acts n (c.clients n) c.clock act r z) (begins_follow n (c.clients n) c.clock act (h.0.1 n).0 r);
  told = λ c past n place m h at to un. client_homes s c past n _ (h.0.0.0.0.1.table n) (h.0.0.0.0.1.acts n) h.1 (given_acts (by_key (IsKnown h.0.0.0.0.0.keys.callees c.clients)) any_told n (c.clients n) c.clock place m (h.0.0.0.0.0.keys.replies n) (h.0.0.0.0.1.seats n)) (given_follow n (c.clients n) c.clock place m (h.0.1 n).0 (each_at (λ m. IsFirm m.head m.carried) c.sent place m at h.0.0.1));
  sought = λ c past n place m k h at to z e. client_homes s c past n _ (h.0.0.0.0.1.table n) (h.0.0.0.0.1.acts n) h.1 (sought_acts_in s c past n place m k h.0.0.0.0.1 at z e) (sought_follow s n (c.clients n) c.clock place k m.head m.carried (placed_in s c past n k h.0.0.0.0.1 z) (told_in s c past n place m k h.0.0.0.0.1 at e) (h.0.1 n).0);
  missed = λ c past n k h r z. client_homes s c past n _ (h.0.0.0.0.1.table n) (h.0.0.0.0.1.acts n) h.1 (missed_acts n (c.clients n) k r z) (missed_follow n (c.clients n) k r (h.0.1 n).0);
  waited = λ c past n act h r. client_homes s c past n _ (h.0.0.0.0.1.table n) (h.0.0.0.0.1.acts n) h.1 (waits_acts n (c.clients n) act r) (waits_follow n (c.clients n) act (h.0.1 n).0);
  fallen = λ c past n h. client_homes s c past n _ (h.0.0.0.0.1.table n) (h.0.0.0.0.1.acts n) h.1 (falls_acts n c.handed (c.clients n) (handed_same s c past (h.0.0.0.0.1) n)) (falls_follow n c.handed (c.clients n));
  risen = λ c past n h. client_homes s c past n _ (h.0.0.0.0.1.table n) (h.0.0.0.0.1.acts n) h.1 (rises_acts n (c.clients n)) (rises_follow n (c.clients n) (h.0.1 n).0);
  loc = λ c past l ls ms h st. server_homes s c past _ h.1 (loc_uncalled c l ls ms st);
  served = λ c past i place m armed h up at to. server_homes s c past _ h.1 (served_uncalled c past i place m h.0.0.0.0.0 at);
  cut = λ c past i place m t h up at to. h.1;
  stopped = λ c past i h up. h.1;
  stop_set = λ c past i calls pick armed h up. h.1;
  fail_set = λ c past i call armed h up. h.1;
  timed = λ c past i n b armed h up at. server_homes s c past _ h.1 (timed_uncalled c past i n b h.0.0.0.0.0);
  woken = λ c past i armed h up. server_homes s c past _ h.1 (woken_uncalled c past i h.0.0.0.0.0);
  started = λ c past i after fall h down. server_homes s c past _ h.1 (started_uncalled c past i after fall h.0.0.0.0.0 down);
  early = λ c past i fall h down. h.1;
  midway = λ c past i after fall h down. h.1;
  full = λ c past i after fall h down. h.1;
}

pub homes_kept : (s : Script) → IsKept (Addressed s)
homes_kept s c past x so h = (given_kept s c past x so h.0, each_moved (Addressed s) (Behind (HomesIn s)) (homes_moves s) c past x so h)

pub homes_first : (s : Script) → Addressed s (start s) (set_up_entry s ∷ [])
homes_first s = (given_first s, ((λ j act r. absurd cc, λ j. tt), tt))
