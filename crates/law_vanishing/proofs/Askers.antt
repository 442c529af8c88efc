-- Administrators alone ask to delete volumes.
use Rattle.std.proofs.Common.{◌≡◌, ℕ, Bool, true, false, cond, List, [], ◌∷◌, Some, refl, sym, subst}
use Rattle.std.specs.Prelude.{⊤}
use Rattle.afs_num.specs.declared.messages.Call.{Call}
use Rattle.afs_num.specs.declared.messages.Call.TheVariants as ask
use Rattle.afs_num.specs.declared.messages.Carried.{Carried}
use Rattle.afs_num.specs.declared.messages.Carried.TheVariants as carried
use Rattle.afs_num.specs.declared.messages.Message.{Message}
use Rattle.afs_num.specs.declared.types.Node.{Node}
use Rattle.afs_num.specs.declared.types.Node.TheVariants.{Admin, Server}
use Rattle.afs_num.specs.declared.volume_calls.VolCall.TheVariants as calls
use Rattle.spec_history.specs.declared.scripts.Script.{Script}
use Rattle.spec_ideal.specs.Operations.{is_number}
use Rattle.spec_rows.specs.Runs.{message_at}
use Rattle.spec_volrows.specs.VolStates.{Sending}
use Rattle.spec_runs.specs.NodeRuns.{node_moved, node_start, CellInput, NodeCell}
use Rattle.law_walks.specs.Messages.{AllAre, Rules}
use Rattle.law_walks.specs.Sends.{AnswersAre}
use Rattle.law_walks.proofs.AllMessages.{all_are_first, next_all}
use Rattle.law_walks.proofs.LocSends.{loc_makes_any}
use Rattle.law_walks.proofs.Seats.{found_at}
use Rattle.law_walks.proofs.VolDecides.{makes_any}
use Rattle.law_places.specs.Accepting.{cell_behind}

abbrev Deletes : Call → Type 0
Deletes (ask.Volume (calls.DeleteVolume family number)) = ⊤
Deletes call = ⊥

abbrev IsDeletion : Carried → Type 0
IsDeletion (carried.Call user call) = Deletes call
IsDeletion (carried.Refusal code) = ⊥
IsDeletion (carried.Reply reply) = ⊥
IsDeletion carried.Notice = ⊥

abbrev Fits : Message → Type 0
Fits m = IsDeletion m.carried → (n : ℕ) × (m.head.from ≡ Admin n)

one_of : (b : Bool) (x y : Message) → Fits x → Fits y → Fits (cond b x y)
one_of true x y h k = h
one_of false x y h k = k

answers : (me : Node) (boot : ℕ) → AnswersAre Fits me boot
answers me boot = record { notice = λ head to is. absurd is; refusal = λ head code to is. absurd is }

abbrev Any : Node → Sending → Type 0
Any n x = ⊤

abbrev Made : Node → Message → Type 0
Made n m = Fits m

rules : Rules Made Any Fits
rules = record {
  said = λ n m h. h;
  servers = λ i boot. record {
    file = record { answers = answers (Server i) boot; reply = λ head reply to is. absurd is; breaks = λ n known c is. absurd is };
    piece = λ n known number x h is. absurd is;
    forward = λ x code h. one_of (is_number code 0) _ _ (λ is. absurd is) (λ is. absurd is);
    moved = λ x h. tt;
  };
  volumes = λ i d v m q. makes_any Fits (Any (Server i)) (Server i) d v m (λ to. record { reply = λ r is. absurd is; refused = λ code is. absurd is; sends_on = λ x. tt });
  database = λ boot. answers _ boot;
  locations = λ s m q. loc_makes_any Fits s m (λ head reply to is. absurd is);
  clients = λ n. record { answers = λ boot. answers _ boot; reply = λ boot head reply to is. absurd is; call = λ head user call own none is. absurd is; look = λ head user o own none is. absurd is };
  admins = λ n boot. answers _ boot;
  asks = λ n a r run is. (n, refl);
}

sent_led : (c : NodeCell) (xs : List CellInput) → AllAre Made Any Fits c → AllAre Made Any Fits (cell_behind c xs)
sent_led c [] h = h
sent_led c (x ∷ xs) h = sent_led (node_moved c x).cell xs (next_all Made Any Fits rules c h x)

pub delete_asker : (s : Script) (inputs : List CellInput) (place : ℕ) (m : Message) (user : List ℕ) (family number : ℕ) → message_at (cell_behind (node_start s) inputs).sent place ≡ Some m → m.carried ≡ carried.Call user (ask.Volume (calls.DeleteVolume family number)) →
    (n : ℕ) × (m.head.from ≡ Admin n)
delete_asker s inputs place m user family number at is =
    let c : NodeCell = cell_behind (node_start s) inputs in
    found_at Fits place c.sent m (sent_led (node_start s) inputs (all_are_first Made Any Fits rules s)).sent at (subst IsDeletion (sym is) tt)
