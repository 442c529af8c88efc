-- A call under a lower stamp than the stored one is refused, and nothing else comes of it.
use Rattle.std.proofs.Common.{◌≡◌, ◌<◌, ◌≤◌, ◌⊎◌, inl, inr, ℕ, zero, suc, Bool, true, false, cond, List, [], ◌∷◌, ◌++◌, Option, Some, None, refl, sym, ap, subst, ◌∙◌, arith}
use Rattle.std.proofs.lemmas.Bool.Decides.{nat_tests}
use Rattle.std.specs.Prelude.{⊤, drop, nat_eq, nat_lt, slice_get, take}
use Rattle.afs_num.specs.Nodes.{same_node}
use Rattle.afs_num.specs.declared.messages.Call.TheVariants as ask
use Rattle.afs_num.specs.declared.messages.Carried.{Carried}
use Rattle.afs_num.specs.declared.messages.Carried.TheVariants as carried
use Rattle.afs_num.specs.declared.messages.Message.{Message}
use Rattle.afs_num.specs.declared.messages.Received.TheVariants.{Whole}
use Rattle.afs_num.specs.declared.types.Head.{Head}
use Rattle.afs_num.specs.declared.types.Node.{Node}
use Rattle.afs_num.specs.declared.types.Node.TheVariants.{Server}
use Rattle.afs_num.specs.declared.volume_calls.VolCall.{VolCall}
use Rattle.spec_history.specs.declared.lines.Line.{Line}
use Rattle.spec_history.specs.declared.lines.Line.TheVariants as lines
use Rattle.spec_model.specs.Calls.{admitted, Admitted}
use Rattle.spec_model.specs.Calls as pairs
use Rattle.spec_ideal.specs.Tables.{Table}
use Rattle.spec_records.specs.Durable.{stamp_of, Durable}
use Rattle.spec_rows.specs.Callbacks.{asked_again, expired, no_turn, repeats_by, turn_for, CallbackStep}
use Rattle.spec_rows.specs.Hosts.{served, served_by, struck, Armed, Blow, Fall, HostStep, Luck}
use Rattle.spec_rows.specs.Runs.{gives, message_at, Entry}
use Rattle.spec_rows.specs.ServerRow as files
use Rattle.spec_rows.specs.ServerRow.{device_calls, does, is_client, not_served, Decision}
use Rattle.spec_rows.specs.ServerSteps.{done}
use Rattle.spec_rows.specs.Steps.{Step}
use Rattle.spec_rows.specs.States.{durable_of, Backs, Held, Lasting, ServerState}
use Rattle.spec_volrows.specs.FileRow.{file_admits, file_decides, file_row, file_runs}
use Rattle.spec_volrows.specs.NodeHosts.{node_kind, NodeHost}
use Rattle.spec_volrows.specs.VolRow.{family_of, holds_of}
use Rattle.spec_volrows.specs.VolStates.{NodeState, Transaction, VolState}
use Rattle.spec_volrows.specs.VolSteps.{dispatches, drops, is_of_client, is_vol_caller, judged, node_device_calls, node_row, refuses_vol, repeats, replies_to, saves, tells_boot, vol_admits, vol_answers, vol_called, vol_decides, vol_device_calls, vol_repeats, vol_row, vol_rests, vol_seated, vol_turn, with_transactions, VolDecision, VolTurn}
use Rattle.spec_history.specs.declared.scripts.Script.{Script}
use Rattle.spec_runs.specs.NodeRuns.{given_at, given_to, has_host, node_moved, node_start, server_stepped, server_up, usual, usually_moved, voided, CellInput, NodeCell, NodeLeads, NodeMoved}
use Rattle.law_legal.proofs.BaseLaws.{at_put}
use Rattle.law_places.specs.Accepting.{cell_behind}
use Rattle.law_stamps.specs.Stamps.{stored_stamp}
use Rattle.law_stamps.proofs.Walk.{never_fall}
use Rattle.law_stored_stamps.specs.Past.{cell_after, HasTheSame, IsOlder, IsVain, PastCallsAreVain}

-- ---- the volume server refuses it, or it was served before

-- nothing is written, and the transactions stay
abbrev LeavesAll : VolState → VolDecision → Type 0
LeavesAll v drops = ⊤
LeavesAll v (tells_boot head) = ⊤
LeavesAll v (repeats reply) = ⊤
LeavesAll v (replies_to head reply ts last) = ts ≡ v.transactions
LeavesAll v (dispatches head x) = ⊥
LeavesAll v (saves head x) = ⊥

either : (P : VolDecision → Type 0) (b : Bool) (x y : VolDecision) → P x → P y → P (cond b x y)
either P true x y h k = h
either P false x y h k = k

is_below : (a b : ℕ) → a < b → nat_lt a b ≡ true
is_below a b h = grind (arith, nat_tests, h)

older_judged : (d : Durable) (v : VolState) (head : Head) (call : VolCall) → head.stamp < stamp_of (family_of call) d → LeavesAll v (judged d v head call)
older_judged d v head call h = rw (is_below head.stamp (stamp_of (family_of call) d) h) refl

older_admits : (d : Durable) (v : VolState) (head : Head) (user : List ℕ) (call : VolCall) (a : Admitted Message) → head.stamp < stamp_of (family_of call) d →
    LeavesAll v (vol_admits d v head (Whole (record { head = head; carried = carried.Call user (ask.Volume call) })) a)
older_admits d v head user call pairs.runs h = either (LeavesAll v) (is_vol_caller head.from) _ (refuses_vol d v head not_served) (older_judged d v head call h) refl
older_admits d v head user call (pairs.kept reply) h = tt
older_admits d v head user call pairs.in_progress h = tt
older_admits d v head user call pairs.older h = tt
older_admits d v head user call (pairs.wrong_boot boot) h = tt

older_decides : (me : Node) (d : Durable) (v : VolState) (head : Head) (user : List ℕ) (call : VolCall) → head.stamp < stamp_of (family_of call) d →
    LeavesAll v (vol_decides me d v (Whole (record { head = head; carried = carried.Call user (ask.Volume call) })))
older_decides me d v head user call h = either (LeavesAll v) (same_node head.to me) _ drops (older_admits d v head user call (admitted d.boot v.seats head) h) tt

-- ---- so it leaves all as it was

record Rests (l : Lasting) (v : VolState) (t : VolTurn) : Type 0 where
  lasting : t.lasting ≡ l
  transactions : t.vol.transactions ≡ v.transactions
  told : t.lines ≡ []

answers_rest : (l : Lasting) (v w : VolState) (b : Backs) (reply : Message) (waits : List ℕ) (again : Bool) → w.transactions ≡ v.transactions → Rests l v (vol_answers l w b [] reply waits again)
answers_rest l v w b reply [] again same = record { lasting = refl; transactions = same; told = refl }
answers_rest l v w b reply (k ∷ ks) again same = record { lasting = refl; transactions = same; told = refl }

one_of : (l : Lasting) (v : VolState) (b : Bool) (x y : VolTurn) → Rests l v x → Rests l v y → Rests l v (cond b x y)
one_of l v true x y h k = h
one_of l v false x y h k = k

again_rests : (l : Lasting) (v : VolState) (b : Backs) (reply : Message) (o : Option Held) (good : Bool) → Rests l v (vol_repeats l v b reply o good)
again_rests l v b reply (Some h) good = one_of l v _ (vol_answers l v b [] reply [] true) (vol_rests l v b) (answers_rest l v v b reply [] true refl) (record { lasting = refl; transactions = refl; told = refl })
again_rests l v b reply None true = answers_rest l v v b reply _ true refl
again_rests l v b reply None false = answers_rest l v v b reply [] true refl

turn_rests : (me : Node) (l : Lasting) (v : VolState) (b : Backs) (d : VolDecision) → LeavesAll v d → Rests l v (vol_turn me l v b d)
turn_rests me l v b drops h = record { lasting = refl; transactions = refl; told = refl }
turn_rests me l v b (tells_boot head) h = record { lasting = refl; transactions = refl; told = refl }
turn_rests me l v b (repeats reply) h = again_rests l v b reply _ _
turn_rests me l v b (replies_to head reply ts last) h = answers_rest l v (vol_seated head reply (with_transactions ts last v)) b reply [] false h
turn_rests me l v b (dispatches head x) h = absurd h
turn_rests me l v b (saves head x) h = absurd h

no_calls : (d : Durable) (v : VolState) (x : VolDecision) → LeavesAll v x → vol_device_calls d x ≡ 0
no_calls d v drops h = refl
no_calls d v (tells_boot head) h = refl
no_calls d v (repeats reply) h = refl
no_calls d v (replies_to head reply ts last) h = refl
no_calls d v (dispatches head x) h = refl
no_calls d v (saves head x) h = absurd h

-- ---- a file server refuses it, too

abbrev Refuses : Decision → Type 0
Refuses files.drops = ⊤
Refuses (files.tells_boot head) = ⊤
Refuses (files.repeats reply) = ⊤
Refuses (files.refuses head code) = ⊤
Refuses (files.shows head r) = ⊥
Refuses (files.saves head c) = ⊥

either_refuses : (b : Bool) (x y : Decision) → Refuses x → Refuses y → Refuses (cond b x y)
either_refuses true x y h k = h
either_refuses false x y h k = k

file_admits_none : (holds : Table ℕ) (s : ServerState) (clock : ℕ) (head : Head) (user : List ℕ) (call : VolCall) (a : Admitted Message) →
    Refuses (file_admits holds s clock head (Whole (record { head = head; carried = carried.Call user (ask.Volume call) })) a)
file_admits_none holds s clock head user call pairs.runs = either_refuses (is_client head.from) _ (files.refuses head not_served) tt tt
file_admits_none holds s clock head user call (pairs.kept reply) = tt
file_admits_none holds s clock head user call pairs.in_progress = tt
file_admits_none holds s clock head user call pairs.older = tt
file_admits_none holds s clock head user call (pairs.wrong_boot boot) = tt

file_refuses : (me : Node) (holds : Table ℕ) (s : ServerState) (clock : ℕ) (head : Head) (user : List ℕ) (call : VolCall) →
    Refuses (file_decides me holds s clock (Whole (record { head = head; carried = carried.Call user (ask.Volume call) })))
file_refuses me holds s clock head user call = either_refuses (same_node head.to me) _ files.drops (file_admits_none holds s clock head user call (admitted s.lasting.boot s.seats head)) tt

record Stays (s : ServerState) (place : ℕ) (after : Step ServerState) : Type 0 where
  lasting : after.state.lasting ≡ s.lasting
  told : after.lines ≡ lines.Given place ∷ []

quiet_by : (b : Bool) (x y : CallbackStep) → x.lines ≡ [] → y.lines ≡ [] → (cond b x y).lines ≡ []
quiet_by true x y h k = h
quiet_by false x y h k = k

again_quiet : (b : Backs) (reply : Message) (o : Option Held) (good : Bool) → (repeats_by b reply o good).lines ≡ []
again_quiet b reply (Some h) good = quiet_by _ (asked_again b reply h.waits) (no_turn b) refl refl
again_quiet b reply None true = refl
again_quiet b reply None false = refl

file_stays : (me : Node) (s : ServerState) (clock place : ℕ) (b : Backs) (d : Decision) → Refuses d → Stays s place (done me s clock place d (turn_for me s clock b d))
file_stays me s clock place b files.drops h = record { lasting = refl; told = refl }
file_stays me s clock place b (files.tells_boot head) h = record { lasting = refl; told = refl }
file_stays me s clock place b (files.repeats reply) h = record { lasting = refl; told = ap (λ (ls : List Line). lines.Given place ∷ ls) (again_quiet b reply _ _) }
file_stays me s clock place b (files.refuses head code) h = record { lasting = refl; told = refl }
file_stays me s clock place b (files.shows head r) h = absurd h
file_stays me s clock place b (files.saves head c) h = absurd h

no_file_calls : (s : ServerState) (clock : ℕ) (d : Decision) → Refuses d → device_calls s clock d ≡ 0
no_file_calls s clock files.drops h = refl
no_file_calls s clock (files.tells_boot head) h = refl
no_file_calls s clock (files.repeats reply) h = refl
no_file_calls s clock (files.refuses head code) h = refl
no_file_calls s clock (files.shows head r) h = absurd h
no_file_calls s clock (files.saves head c) h = absurd h

-- ---- a step of the node

-- it makes no device call; it leaves what outlives a crash, and the transactions; and it tells that the message was given
record StaysSo (me : Node) (s : NodeState) (clock place : ℕ) (m : Message) : Type 0 where
  calls : node_device_calls me s clock (Whole m) ≡ 0
  lasting : (node_row me s clock place (Whole m)).state.file.lasting ≡ s.file.lasting
  transactions : (node_row me s clock place (Whole m)).state.vol.transactions ≡ s.vol.transactions
  told : (node_row me s clock place (Whole m)).lines ≡ lines.Given place ∷ []

module _ (me : Node) (s : NodeState) (clock place : ℕ) (head : Head) (user : List ℕ) (call : VolCall) where
  -- the message
  abbrev the : Message
  the = record { head = head; carried = carried.Call user (ask.Volume call) }

  of_client : is_of_client (Some head.from) ≡ true → StaysSo me s clock place the
  unfolding node_row file_row
  of_client its =
      let d : Decision = file_decides me (holds_of s.vol.transactions) s.file clock (Whole the) in
      let no : Refuses d = file_refuses me (holds_of s.vol.transactions) s.file clock head user call in
      let z : Stays s.file place _ = file_stays me s.file clock place (expired clock s.file.backs) d no in record {
        calls = rw its (no_file_calls s.file clock d no);
        lasting = rw its z.lasting;
        transactions = rw its refl;
        told = rw its z.told;
      }

  of_other : head.stamp < stamp_of (family_of call) (durable_of s.file.lasting) → is_of_client (Some head.from) ≡ false → StaysSo me s clock place the
  unfolding node_row
  of_other below not_its =
      let d : VolDecision = vol_decides me (durable_of s.file.lasting) s.vol (Whole the) in
      let no : LeavesAll s.vol d = older_decides me (durable_of s.file.lasting) s.vol head user call below in
      let z : Rests s.file.lasting s.vol _ = turn_rests me s.file.lasting s.vol (expired clock s.file.backs) d no in record {
        calls = rw not_its (no_calls (durable_of s.file.lasting) s.vol d no);
        lasting = rw not_its z.lasting;
        transactions = rw not_its z.transactions;
        told = rw not_its (ap (λ (ls : List Line). lines.Given place ∷ ls) z.told);
      }

  by_whom : (b : Bool) → is_of_client (Some head.from) ≡ b → head.stamp < stamp_of (family_of call) (durable_of s.file.lasting) → StaysSo me s clock place the
  by_whom true is below = of_client is
  by_whom false is below = of_other below is

stays_so : (me : Node) (s : NodeState) (clock place : ℕ) (m : Message) (user : List ℕ) (call : VolCall) → m.carried ≡ carried.Call user (ask.Volume call) → m.head.stamp < stamp_of (family_of call) (durable_of s.file.lasting) → StaysSo me s clock place m
stays_so me s clock place m user call asks below =
    subst (StaysSo me s clock place) (ap (λ (c : Carried). record { head = m.head; carried = c }) (sym asks)) (by_whom me s clock place m.head user call (is_of_client (Some m.head.from)) refl below)

-- ---- a server of the cell

record HostStays (h : NodeHost) (place : ℕ) (after : HostStep NodeState) : Type 0 where
  same : HasTheSame h after.host
  told : after.lines ≡ lines.Given place ∷ []

unhit : (a : Armed) (luck : Luck) (calls : ℕ) → calls ≡ 0 → struck a luck calls ≡ None
unhit a luck calls is = rw is refl

serves_on : (me : Node) (h : NodeHost) (clock place : ℕ) (m : Message) (o : Option Blow) → o ≡ None → h.down ≡ None → StaysSo me h.state clock place m → HostStays h place (served_by (node_kind me) h clock place m o)
serves_on me h clock place m None is up k = record { same = record { lasting = k.lasting; transactions = k.transactions; down = sym up }; told = k.told }
serves_on me h clock place m (Some b) is up k = absurd cc

host_stays : (me : Node) (h : NodeHost) (clock place : ℕ) (luck : Luck) (m : Message) → h.down ≡ None → StaysSo me h.state clock place m → HostStays h place (served (node_kind me) h clock place luck m)
host_stays me h clock place luck m up k = serves_on me h clock place m (struck h.armed luck (node_device_calls me h.state clock (Whole m))) (unhit h.armed luck _ k.calls) up k

-- ---- an input

-- what comes of it
abbrev Vain : ℕ → ℕ → NodeCell → NodeMoved → Type 0
Vain server place c m = IsVain server place c m.cell m.entry.lines

module _ (c : NodeCell) (server place : ℕ) (luck : Luck) (m : Message) where
  void : Vain server place c (voided c)
  void = record { same = record { lasting = refl; transactions = refl; down = refl }; told = inr refl }

  put_same : (s : HostStep NodeState) → HasTheSame (c.hosts server) s.host → HasTheSame (c.hosts server) ((server_stepped c server s).cell.hosts server)
  put_same s h = at_put server server (HasTheSame (c.hosts server)) s.host c.hosts (λ same. h) (λ other. absurd (other refl))

  up_vain : (d : Option Fall) → (c.hosts server).down ≡ d → StaysSo (Server server) (c.hosts server).state c.clock place m → Vain server place c (server_up c server (served (node_kind (Server server)) (c.hosts server) c.clock place luck m) d)
  up_vain None up k =
      let z : HostStays (c.hosts server) place _ = host_stays (Server server) (c.hosts server) c.clock place luck m up k in
      record { same = put_same (served (node_kind (Server server)) (c.hosts server) c.clock place luck m) z.same; told = inl z.told }
  up_vain (Some fall) up k = void

  if_vain : (b : Bool) (x : NodeMoved) → Vain server place c x → Vain server place c (cond b x (voided c))
  if_vain true x h = h
  if_vain false x h = void

  to_vain : (n : Node) → n ≡ Server server → StaysSo (Server server) (c.hosts server).state c.clock place m → Vain server place c (given_to c place luck m n)
  to_vain n is k = rw is (if_vain (has_host c server) _ (up_vain (c.hosts server).down refl k))

  at_vain : (o : Option Message) → o ≡ Some m → m.head.to ≡ Server server → StaysSo (Server server) (c.hosts server).state c.clock place m → Vain server place c (given_at c place luck o)
  at_vain o is to k = rw is (to_vain m.head.to to k)

  older_vain : (family stamp : ℕ) → stamp ≤ stored_stamp c server family → message_at c.sent place ≡ Some m → IsOlder server family stamp m → Vain server place c (node_moved c (usual (gives place luck)))
  unfolding usually_moved
  older_vain family stamp rises is old =
      let below : m.head.stamp < stamp_of (family_of old.call) (durable_of (c.hosts server).state.file.lasting) =
      (let lt : m.head.stamp < stamp = old.older in
      let here : stored_stamp c server family ≡ stored_stamp c server (family_of old.call) = ap (stored_stamp c server) (sym old.in_it) in
      grind (arith, lt, rises, here)) in
      at_vain (message_at c.sent place) is old.to (stays_so (Server server) (c.hosts server).state c.clock place m old.user old.call old.asks below)

-- ---- a run

-- its entries, and the cells behind them
record At (c : NodeCell) (xs : List CellInput) (k : ℕ) (x : CellInput) (e : Entry) : Type 0 where
  cell : cell_behind c (take (suc k) xs) ≡ (node_moved (cell_behind c (take k xs)) x).cell
  entry : e ≡ (node_moved (cell_behind c (take k xs)) x).entry

led_at : (c : NodeCell) (xs : List CellInput) (es : List Entry) (end : NodeCell) (k : ℕ) (x : CellInput) (e : Entry) → NodeLeads c xs es end → slice_get xs k ≡ Some x → slice_get es k ≡ Some e → At c xs k x e
led_at c [] es end k x e leads is was = absurd cc
led_at c (y ∷ xs) [] end k x e leads is was = absurd cc
led_at c (y ∷ xs) (f ∷ es) end zero x e leads is was = let one : y ≡ x = cc in let two : f ≡ e = cc in record { cell = ap (λ (z : CellInput). (node_moved c z).cell) one; entry = sym two ∙ (leads.0 ∙ ap (λ (z : CellInput). (node_moved c z).entry) one) }
led_at c (y ∷ xs) (f ∷ es) end (suc k) x e leads is was = let z = led_at (node_moved c y).cell xs es end k x e leads.1 is was in record { cell = z.cell; entry = z.entry }

front : {A : Type 0} (n k : ℕ) (xs : List A) → n ≤ k → take k xs ≡ take n xs ++ drop n (take k xs)
front {A} zero k xs le = refl
front {A} (suc n) zero xs le = absurd (omega (arith, le))
front {A} (suc n) (suc k) [] le = refl
front {A} (suc n) (suc k) (x ∷ xs) le = ap (λ (ys : List A). x ∷ ys) (front n k xs (omega (arith, le)))

risen : (s : Script) (inputs : List CellInput) (n k server family : ℕ) → n ≤ k → stored_stamp (cell_after s inputs n) server family ≤ stored_stamp (cell_after s inputs k) server family
risen s inputs n k server family le =
    subst (λ (xs : List CellInput). stored_stamp (cell_after s inputs n) server family ≤ stored_stamp (cell_behind (node_start s) xs) server family) (sym (front n k inputs le)) (never_fall s (take n inputs) (drop n (take k inputs)) server family)

pub past_vain : PastCallsAreVain
past_vain s inputs history end leads n k server family place luck m e le is was there old =
    let c : NodeCell = cell_after s inputs k in
    let at : At (node_start s) inputs k (usual (gives place luck)) e = led_at (node_start s) inputs history end k (usual (gives place luck)) e leads is was in
    let z : Vain server place c (node_moved c (usual (gives place luck))) = older_vain c server place luck m family (stored_stamp (cell_after s inputs n) server family) (risen s inputs n k server family le) there old in
    subst (λ (d : NodeCell). IsVain server place c d e.lines) (sym at.cell) (subst (λ (f : Entry). IsVain server place c (node_moved c (usual (gives place luck))).cell f.lines) (sym at.entry) z)
