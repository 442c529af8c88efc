-- A client at set-up: its acts are within their limits, by the script.
use Rattle.std.proofs.Common.{ap, sym, subst, ◌∙◌, ◌≡◌, ◌≤◌, ℕ, List, [], ◌∷◌, length, Bool, true, false, drop, slice_get, Some, if◌then◌else◌, arith, ◌+◌, ◌++◌}
use Rattle.std.specs.List.{All}
use Rattle.std.proofs.lemmas.List.Elements.{All-cons, All-head, All-nil, All-tail}
use Rattle.afs_num.specs.Nodes.{same_node}
use Rattle.afs_num.specs.declared.types.Node.{Node}
use Rattle.afs_num.specs.declared.types.Node.TheVariants.{Client}
use Rattle.spec_history.specs.declared.acts.Act.{Act}
use Rattle.spec_history.specs.declared.acts.Act.TheVariants as acts
use Rattle.spec_history.specs.declared.scripts.Script.{Script}
use Rattle.spec_history.specs.declared.scripts.Task.{Task}
use Rattle.spec_history.specs.declared.scripts.Task.TheVariants as tasks
use Rattle.spec_history.specs.declared.acts.Operand.{Operand}
use Rattle.spec_history.specs.declared.acts.Operand.TheVariants as operands
use Rattle.afs_acts.specs.Acts.{AreShort, FitsCalls, IsShortCall, IsShortIfAny, IsShortOperand}
use Rattle.spec_model.specs.FsRows.{name_limit}
use Rattle.spec_copyrows.specs.Sites.{new_copies, CopyState}
use Rattle.spec_rows.specs.ClientRow.{new_client}
use Rattle.spec_rows.specs.Going.{operands_of}
use Rattle.spec_rows.specs.Runs.{locations, user_at}
use Rattle.afs_schedule.specs.Schedules.{client_act, doer, tasks_of}
use Rattle.afs_words.specs.declared.nodes.Counts.{Counts}
use Rattle.afs_grammar.specs.CellScripts as script
use Rattle.afs_grammar.specs.CellScripts.{counts_of, FitsTask, IsCellScript, IsName, IsOperand}
use Rattle.afs_clients.specs.Seating.{IsFirstClient, IsShortTask, AreFirstClients}
use Rattle.afs_clients.specs.declared.clients.ClientSeat.{ClientSeat}

abbrev IsShortName : List ℕ → Type 0
IsShortName n = length n ≤ name_limit

names_short : (ns : List (List ℕ)) → All (IsName 256) ns → AreShort ns
names_short [] h = All-nil IsShortName
names_short (n ∷ ns) h = All-cons IsShortName n ns (All-head (IsName 256) n ns h).1 (names_short ns (All-tail (IsName 256) n ns h))

short_call : (a : Act) → script.IsShortAct a → IsShortCall a
short_call (acts.Open o) h = tt
short_call (acts.ListNames o) h = tt
short_call (acts.ReadLink o) h = tt
short_call (acts.Stat o) h = tt
short_call (acts.StatAll o) h = tt
short_call (acts.Close o contents) h = h.1
short_call (acts.Make p) h = names_short p.names h.names
short_call (acts.MakeDirectory p) h = names_short p.names h.names
short_call (acts.Remove p) h = names_short p.names h.names
short_call (acts.RemoveDirectory p) h = names_short p.names h.names
short_call (acts.Move p q) h = (names_short p.names h.0.names, names_short q.names h.1.names)
short_call (acts.Link p q) h = names_short q.names h.1.names
short_call (acts.Symlink p target) h = (names_short p.names h.0.names, h.1)
short_call (acts.SetMode o mode) h = tt
short_call (acts.SetAccessList o text) h = h.1
short_call (acts.GetAccessList o) h = tt
short_call acts.GiveUp h = tt

short_operand : (o : Operand) → IsOperand o → IsShortOperand o
short_operand (operands.Path p) h = h.volume.1
short_operand (operands.Fid f) h = tt

short_first : (a : Act) → script.IsShortAct a → IsShortIfAny (operands_of a).0
short_first (acts.Open o) h = short_operand o h
short_first (acts.ListNames o) h = short_operand o h
short_first (acts.ReadLink o) h = short_operand o h
short_first (acts.Stat o) h = short_operand o h
short_first (acts.StatAll o) h = short_operand o h
short_first (acts.Close o contents) h = short_operand o h.0
short_first (acts.Make p) h = h.volume.1
short_first (acts.MakeDirectory p) h = h.volume.1
short_first (acts.Remove p) h = h.volume.1
short_first (acts.RemoveDirectory p) h = h.volume.1
short_first (acts.Move p q) h = h.0.volume.1
short_first (acts.Link p q) h = h.0.volume.1
short_first (acts.Symlink p target) h = h.0.volume.1
short_first (acts.SetMode o mode) h = short_operand o h
short_first (acts.SetAccessList o text) h = short_operand o h.0
short_first (acts.GetAccessList o) h = short_operand o h
short_first acts.GiveUp h = tt

short_second : (a : Act) → script.IsShortAct a → IsShortIfAny (operands_of a).1
short_second (acts.Move p q) h = h.1.volume.1
short_second (acts.Link p q) h = h.1.volume.1
short_second (acts.Open o) h = tt
short_second (acts.ListNames o) h = tt
short_second (acts.ReadLink o) h = tt
short_second (acts.Stat o) h = tt
short_second (acts.StatAll o) h = tt
short_second (acts.Close o contents) h = tt
short_second (acts.Make p) h = tt
short_second (acts.MakeDirectory p) h = tt
short_second (acts.Remove p) h = tt
short_second (acts.RemoveDirectory p) h = tt
short_second (acts.Symlink p target) h = tt
short_second (acts.SetMode o mode) h = tt
short_second (acts.SetAccessList o text) h = tt
short_second (acts.GetAccessList o) h = tt
short_second acts.GiveUp h = tt

short_act : (a : Act) → script.IsShortAct a → FitsCalls a
short_act a h = record { first = short_first a h; second = short_second a h; call = short_call a h }

short_task : (c : Counts) (t : Task) → FitsTask c t → IsShortTask t
short_task c (tasks.Client n a) h = short_act a h.1
short_task c (tasks.Admin n a) h = tt

kept : (b : Bool) (t : Task) (rest : List Task) → IsShortTask t → All IsShortTask rest → All IsShortTask (if b then t ∷ rest else rest)
kept true t rest short all = All-cons IsShortTask t rest short all
kept false t rest short all = all

tasks_short : (c : Counts) (n : Node) (ts : List Task) → All (FitsTask c) ts → All IsShortTask (tasks_of n ts)
tasks_short c n [] h = All-nil IsShortTask
tasks_short c n (t ∷ ts) h = kept (same_node (doer t) n) t (tasks_of n ts) (short_task c t (All-head (FitsTask c) t ts h)) (tasks_short c n ts (All-tail (FitsTask c) t ts h))

-- ---- the next act, and what is left after it

some_is : {A : Type 0} (x y : A) → Some x ≡ Some y → x ≡ y
some_is {A} x y e = cc

pub first_short : (ts : List Task) (act : Act) → All IsShortTask ts → client_act (slice_get ts 0) ≡ Some act → FitsCalls act
first_short [] act all e = absurd cc
first_short (tasks.Client n a ∷ ts) act all e = subst FitsCalls (some_is a act e) (All-head IsShortTask (tasks.Client n a) ts all)
first_short (tasks.Admin n a ∷ ts) act all e = absurd cc

pub rest_short : (old new : List Task) → new ≡ drop 1 old → All IsShortTask old → All IsShortTask new
rest_short [] new e all = subst (All IsShortTask) (sym e) all
rest_short (t ∷ ts) new e all = subst (All IsShortTask) (sym e) (All-tail IsShortTask t ts all)

pub first_client : (s : Script) (n : ℕ) (seat : ClientSeat) → IsCellScript s → seat.client.node ≡ Client n → seat.client.state ≡ new_copies (new_client 1 s.cache (user_at s n) (locations s)) → seat.is_away ≡ false → seat.plan ≡ tasks_of (Client n) s.tasks → seat.epoch ≡ 1 → IsFirstClient s n seat
first_client s n seat h node state up plan epoch = record {
  state = state;
  up = up;
  plan = plan;
  epoch = epoch;
  handed = record {
    node = node;
    epoch = ap (λ (c : CopyState). c.client.epoch) state ∙ sym epoch;
    capacity = ap (λ (c : CopyState). c.client.capacity) state;
    user = ap (λ (c : CopyState). c.client.user) state;
    acts = subst (λ (more : List Task). All IsShortTask more) (sym plan) (tasks_short (counts_of s) (Client n) s.tasks h.tasks);
  };
}

-- ---- the clients

pub client_more : (s : Script) (i j : ℕ) (cs : List ClientSeat) (c : ClientSeat) → AreFirstClients s i cs → j ≡ i + length cs → IsFirstClient s j c → AreFirstClients s i (cs ++ c ∷ [])
client_more s i j [] c h at one =
    let here : j ≡ i = omega (arith, at) in
    (subst (λ (k : ℕ). IsFirstClient s k c) here one, tt)
client_more s i j (k ∷ cs) c h at one = (h.0, client_more s (i + 1) j cs c h.1 (omega (arith, at)) one)
