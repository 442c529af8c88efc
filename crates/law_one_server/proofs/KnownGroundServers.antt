-- What the steps of servers ask of a cell and of the course of its acts is so behind each run.
use Rattle.std.proofs.Common.{◌≡◌, ◌⊎◌, inl, inr, ℕ, Bool, true, false, cond, List, [], ◌∷◌, Option, Some, None, refl, sym, subst, ◌∙◌}
use Rattle.std.specs.Prelude.{⊤}
use Rattle.afs_num.specs.declared.messages.Call.{Call}
use Rattle.afs_num.specs.declared.messages.Call.TheVariants as ask
use Rattle.afs_num.specs.declared.messages.Carried.{Carried}
use Rattle.afs_num.specs.declared.messages.Carried.TheVariants as carried
use Rattle.afs_num.specs.declared.messages.Message.{Message}
use Rattle.afs_num.specs.declared.types.Node.{Node}
use Rattle.afs_num.specs.declared.types.Node.TheVariants.{Admin, Server}
use Rattle.afs_num.specs.declared.volume_calls.VolCall.{VolCall}
use Rattle.spec_history.specs.declared.scripts.Script.{Script}
use Rattle.spec_ideal.specs.Operations.{is_number}
use Rattle.spec_ideal.specs.Tables.{get}
use Rattle.spec_rows.specs.Hosts.{in_step, Fall}
use Rattle.spec_rows.specs.Runs.{message_at}
use Rattle.spec_volrows.specs.VolLaws.{stamp_at}
use Rattle.spec_volrows.specs.VolStates.{Sending, Transaction}
use Rattle.spec_runs.specs.NodeRuns.{node_moved, node_start, CellInput, NodeCell}
use Rattle.law_walks.specs.Messages.{AllAre, Rules}
use Rattle.law_walks.specs.Sends.{AnswersAre}
use Rattle.law_walks.proofs.AllMessages.{all_are_first, next_all}
use Rattle.law_walks.proofs.LocSends.{loc_makes_any}
use Rattle.law_walks.proofs.Seats.{found_at}
use Rattle.law_walks.proofs.VolDecides.{makes_any}
use Rattle.law_places.specs.Accepting.{cell_behind}
use Rattle.law_transactions.specs.Begun.{IsAskedFor}
use Rattle.law_transactions.proofs.Transactions.{all_get}
use Rattle.law_fences.specs.Claims.{Counts}
use Rattle.law_fences.proofs.Seated.{are_seated, IsSeated}
use Rattle.law_fences.proofs.Standing.{live_stamped}
use Rattle.law_courses.specs.Courses.{course_in}
use Rattle.law_courses.proofs.Runs.{questions_are}
use Rattle.law_numbers.specs.Numbers.{next_volume, IsNumbered, PlaceIsSound}
use Rattle.law_numbers.proofs.Leading.{still_place}
use Rattle.law_numbers.proofs.Walk.{are_apart, drawn_on}
use Rattle.law_one_server.proofs.KnownInService.{IsOfActs, Lives}

-- ---- what acts alone ask, administrators alone send

abbrev AsksOfActs : Call → Type 0
AsksOfActs (ask.Volume call) = IsOfActs call
AsksOfActs (ask.File call) = ⊥
AsksOfActs (ask.Location call) = ⊥

abbrev OfActs : Carried → Type 0
OfActs (carried.Call user call) = AsksOfActs call
OfActs (carried.Refusal code) = ⊥
OfActs (carried.Reply reply) = ⊥
OfActs carried.Notice = ⊥

abbrev Fits : Message → Type 0
Fits m = OfActs m.carried → (n : ℕ) × (m.head.from ≡ Admin n)

one_of : (b : Bool) (x y : Message) → Fits x → Fits y → Fits (cond b x y)
one_of true x y h k = h
one_of false x y h k = k

answers : (me : Node) (boot : ℕ) → AnswersAre Fits me boot
answers me boot = record { notice = λ head to is. absurd is; refusal = λ head code to is. absurd is }

abbrev Any : Node → Sending → Type 0
Any n x = ⊤

abbrev Made : Node → Message → Type 0
Made n m = Fits m

rules : Rules Made Any Fits
rules = record {
  said = λ n m h. h;
  servers = λ i boot. record {
    file = record { answers = answers (Server i) boot; reply = λ head reply to is. absurd is; breaks = λ n known c is. absurd is };
    piece = λ n known number x h is. absurd is;
    forward = λ x code h. one_of (is_number code 0) _ _ (λ is. absurd is) (λ is. absurd is);
    moved = λ x h. tt;
  };
  volumes = λ i d v m q. makes_any Fits (Any (Server i)) (Server i) d v m (λ to. record { reply = λ r is. absurd is; refused = λ code is. absurd is; sends_on = λ x. tt });
  database = λ boot. answers _ boot;
  locations = λ s m q. loc_makes_any Fits s m (λ head reply to is. absurd is);
  clients = λ n. record { answers = λ boot. answers _ boot; reply = λ boot head reply to is. absurd is; call = λ head user call own none is. absurd is; look = λ head user o own none is. absurd is };
  admins = λ n boot. answers _ boot;
  asks = λ n a r run is. (n, refl);
}

sent_led : (c : NodeCell) (xs : List CellInput) → AllAre Made Any Fits c → AllAre Made Any Fits (cell_behind c xs)
sent_led c [] h = h
sent_led c (x ∷ xs) h = sent_led (node_moved c x).cell xs (next_all Made Any Fits rules c h x)

pub askers : (s : Script) (inputs : List CellInput) (place : ℕ) (m : Message) (user : List ℕ) (call : VolCall) → message_at (cell_behind (node_start s) inputs).sent place ≡ Some m → m.carried ≡ carried.Call user (ask.Volume call) → IsOfActs call → (n : ℕ) × (m.head.from ≡ Admin n)
askers s inputs place m user call at is acts =
    let c : NodeCell = cell_behind (node_start s) inputs in
    found_at Fits place c.sent m (sent_led (node_start s) inputs (all_are_first Made Any Fits rules s)).sent at (subst OfActs (sym is) acts)

-- ---- transactions

counted : (o : Option Fall) → (c : NodeCell) (i : ℕ) → (c.hosts i).down ≡ o → Lives c i → Counts o
counted None c i at live = tt
counted (Some f) c i at (inl up) = let no : Some f ≡ None = sym at ∙ up in absurd cc
counted (Some f) c i at (inr cut) = subst Counts (sym cut.1.down ∙ at) tt

pub asked : (s : Script) (inputs : List CellInput) (i number : ℕ) (t : Transaction) → Lives (cell_behind (node_start s) inputs) i → get number ((cell_behind (node_start s) inputs).hosts i).state.vol.transactions ≡ Some t →
    IsAskedFor (cell_behind (node_start s) inputs) i t.volume t.family t.stamp
asked s inputs i number t live at =
    let c : NodeCell = cell_behind (node_start s) inputs in
    let its : IsSeated c i t.volume t.family t.stamp = all_get (λ n volume family stamp. IsSeated c i volume family stamp) 0 number (c.hosts i).state.vol.transactions t (are_seated s inputs i (counted (c.hosts i).down c i refl live)) at in its.asked

pub stamped : (s : Script) (inputs : List CellInput) (i number : ℕ) (t : Transaction) → Lives (cell_behind (node_start s) inputs) i → get number ((cell_behind (node_start s) inputs).hosts i).state.vol.transactions ≡ Some t →
    t.stamp ≡ stamp_at ((cell_behind (node_start s) inputs).hosts i).state.file t.family
stamped s inputs i number t live at =
    let c : NodeCell = cell_behind (node_start s) inputs in
    all_get (λ n volume family stamp. stamp ≡ stamp_at (c.hosts i).state.file family) 0 number (c.hosts i).state.vol.transactions t (live_stamped s inputs i (counted (c.hosts i).down c i refl live)) at

-- ---- questions

pub sound : (s : Script) (inputs : List CellInput) → IsNumbered s → (n e k : ℕ) → PlaceIsSound (next_volume (cell_behind (node_start s) inputs)) (course_in s inputs n e k).place
sound s inputs numbered = questions_are s (λ c p. PlaceIsSound (next_volume c) p) inputs (λ done. (are_apart s done numbered).acts)
    (λ done x p h. let c : NodeCell = cell_behind (node_start s) done in still_place (next_volume c) (next_volume (node_moved c x).cell) (drawn_on s done x numbered) p h) tt
