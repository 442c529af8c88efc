-- Administrators alone ask to release locks, and the location database alone gives stamps.
use Rattle.std.proofs.Common.{◌≡◌, ℕ, Bool, true, false, cond, List, [], ◌∷◌, Some, refl, sym, subst}
use Rattle.std.specs.Prelude.{⊤}
use Rattle.std.specs.List.{AllByRecursion}
use Rattle.afs_num.specs.declared.location_calls.LocCall.TheVariants as calls
use Rattle.afs_num.specs.declared.messages.Call.{Call}
use Rattle.afs_num.specs.declared.messages.Call.TheVariants as ask
use Rattle.afs_num.specs.declared.messages.Carried.{Carried}
use Rattle.afs_num.specs.declared.messages.Carried.TheVariants as carried
use Rattle.afs_num.specs.declared.messages.Message.{Message}
use Rattle.afs_num.specs.declared.types.Node.{Node}
use Rattle.afs_num.specs.declared.types.Node.TheVariants.{Admin, Loc, Server}
use Rattle.spec_history.specs.declared.acts.Operand.{Operand}
use Rattle.spec_history.specs.declared.acts.Operand.TheVariants as operands
use Rattle.spec_history.specs.declared.scripts.Script.{Script}
use Rattle.spec_ideal.specs.Operations.{is_number}
use Rattle.spec_model.proofs.Basics.{same_node-true}
use Rattle.spec_rows.specs.ClientRow.{question}
use Rattle.spec_rows.specs.Runs.{message_at}
use Rattle.spec_volrows.specs.VolStates.{Sending}
use Rattle.spec_runs.specs.NodeRuns.{node_moved, node_start, CellInput, NodeCell}
use Rattle.law_walks.specs.Messages.{AllAre, Rules}
use Rattle.law_walks.specs.Sends.{AnswersAre}
use Rattle.law_walks.proofs.AllMessages.{all_are_first, next_all}
use Rattle.law_walks.proofs.LocSends.{loc_makes_any}
use Rattle.law_walks.proofs.Seats.{found_at}
use Rattle.law_walks.proofs.VolDecides.{makes_any}
use Rattle.law_places.specs.Accepting.{cell_behind}
use Rattle.law_stamps.specs.Given.{given_in}

abbrev AsksRelease : Call → Type 0
AsksRelease (ask.Location (calls.ReleaseLock id)) = ⊤
AsksRelease call = ⊥

abbrev Releases : Carried → Type 0
Releases (carried.Call user call) = AsksRelease call
Releases (carried.Refusal code) = ⊥
Releases (carried.Reply reply) = ⊥
Releases carried.Notice = ⊥

record Fits (m : Message) : Type 0 where
  asked : Releases m.carried → (n : ℕ) × (m.head.from ≡ Admin n)
  gave : (stamp : ℕ) → given_in m.carried ≡ Some stamp → m.head.from ≡ Loc

one_of : (b : Bool) (x y : Message) → Fits x → Fits y → Fits (cond b x y)
one_of true x y h k = h
one_of false x y h k = k

answers : (me : Node) (boot : ℕ) → AnswersAre Fits me boot
answers me boot = record {
  notice = λ head to. record { asked = λ is. absurd is; gave = λ stamp is. absurd cc };
  refusal = λ head code to. record { asked = λ is. absurd is; gave = λ stamp is. absurd cc };
}

abbrev Any : Node → Sending → Type 0
Any n x = ⊤

abbrev Made : Node → Message → Type 0
Made n m = Fits m

looks : (o : Operand) → AsksRelease (ask.Location (question o)) → ⊥
looks (operands.Path p) is = is
looks (operands.Fid f) is = is

rules : Rules Made Any Fits
rules = record {
  said = λ n m h. h;
  servers = λ i boot. record {
    file = record { answers = answers (Server i) boot; reply = λ head reply to. record { asked = λ is. absurd is; gave = λ stamp is. absurd cc }; breaks = λ n known c. record { asked = λ is. absurd is; gave = λ stamp is. absurd cc } };
    piece = λ n known number x h. record { asked = λ is. absurd is; gave = λ stamp is. absurd cc };
    forward = λ x code h. one_of (is_number code 0) _ _ (record { asked = λ is. absurd is; gave = λ stamp is. absurd cc }) (record { asked = λ is. absurd is; gave = λ stamp is. absurd cc });
    moved = λ x h. tt;
  };
  volumes = λ i d v m q. makes_any Fits (Any (Server i)) (Server i) d v m (λ to. record {
    reply = λ r. record { asked = λ is. absurd is; gave = λ stamp is. absurd cc };
    refused = λ code. record { asked = λ is. absurd is; gave = λ stamp is. absurd cc };
    sends_on = λ x. tt;
  });
  database = λ boot. answers _ boot;
  locations = λ s m q. loc_makes_any Fits s m (λ head reply to. record { asked = λ is. absurd is; gave = λ stamp is. same_node-true head.to Loc to });
  clients = λ n. record {
    answers = λ boot. answers _ boot;
    reply = λ boot head reply to. record { asked = λ is. absurd is; gave = λ stamp is. absurd cc };
    call = λ head user call own none. record { asked = λ is. absurd is; gave = λ stamp is. absurd cc };
    look = λ head user o own none. record { asked = λ is. absurd (looks o is); gave = λ stamp is. absurd cc };
  };
  admins = λ n boot. answers _ boot;
  asks = λ n a r run. record { asked = λ is. (n, refl); gave = λ stamp is. absurd cc };
}

sent_led : (c : NodeCell) (xs : List CellInput) → AllAre Made Any Fits c → AllAre Made Any Fits (cell_behind c xs)
sent_led c [] h = h
sent_led c (x ∷ xs) h = sent_led (node_moved c x).cell xs (next_all Made Any Fits rules c h x)

each_fits : (s : Script) (inputs : List CellInput) → AllByRecursion Fits (cell_behind (node_start s) inputs).sent
each_fits s inputs = (sent_led (node_start s) inputs (all_are_first Made Any Fits rules s)).sent

pub releasers : (s : Script) (inputs : List CellInput) (place : ℕ) (m : Message) (user : List ℕ) (id : ℕ) → message_at (cell_behind (node_start s) inputs).sent place ≡ Some m → m.carried ≡ carried.Call user (ask.Location (calls.ReleaseLock id)) → (n : ℕ) × (m.head.from ≡ Admin n)
releasers s inputs place m user id at is = (found_at Fits place (cell_behind (node_start s) inputs).sent m (each_fits s inputs) at).asked (subst Releases (sym is) tt)

pub givers : (s : Script) (inputs : List CellInput) (place : ℕ) (m : Message) (stamp : ℕ) → message_at (cell_behind (node_start s) inputs).sent place ≡ Some m → given_in m.carried ≡ Some stamp → m.head.from ≡ Loc
givers s inputs place m stamp at is = (found_at Fits place (cell_behind (node_start s) inputs).sent m (each_fits s inputs) at).gave stamp is
