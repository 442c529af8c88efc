-- Who gives the numbers of volumes, and who asks for entries: the location database alone gives them, and administrators alone ask.
use Rattle.std.proofs.Common.{◌≡◌, ℕ, Bool, true, false, cond, List, [], None, refl}
use Rattle.std.specs.Prelude.{⊤}
use Rattle.afs_num.specs.declared.location_calls.LocCall.{LocCall}
use Rattle.afs_num.specs.declared.location_calls.LocCall.TheVariants as calls
use Rattle.afs_num.specs.declared.messages.Call.{Call}
use Rattle.afs_num.specs.declared.messages.Call.TheVariants as ask
use Rattle.afs_num.specs.declared.messages.Carried.{Carried}
use Rattle.afs_num.specs.declared.messages.Carried.TheVariants as carried
use Rattle.afs_num.specs.declared.messages.Message.{Message}
use Rattle.afs_num.specs.declared.types.Node.{Node}
use Rattle.afs_num.specs.declared.types.Node.TheVariants.{Admin, Client, Loc, Server}
use Rattle.spec_history.specs.declared.acts.Operand.{Operand}
use Rattle.spec_history.specs.declared.acts.Operand.TheVariants as operands
use Rattle.spec_history.specs.declared.scripts.Script.{Script}
use Rattle.spec_ideal.specs.Operations.{is_number}
use Rattle.spec_rows.specs.ClientRow.{question}
use Rattle.spec_volrows.specs.VolStates.{Sending}
use Rattle.spec_runs.specs.NodeRuns.{node_start, CellInput, NodeCell}
use Rattle.law_walks.specs.Messages.{AllAre, Rules}
use Rattle.law_walks.proofs.AllMessages.{all_are_first, next_all}
use Rattle.law_walks.proofs.LocSends.{loc_makes_any}
use Rattle.law_walks.proofs.VolDecides.{makes_any}
use Rattle.law_places.specs.Accepting.{cell_behind}
use Rattle.law_courses.specs.Courses.{Course}
use Rattle.law_courses.proofs.Runs.{each_run}
use Rattle.law_new_volumes.specs.GivenNumbers.{volume_number_in}

abbrev pub IsAdmin : Node → Type 0
IsAdmin (Admin n) = ⊤
IsAdmin node = ⊥

abbrev pub AsksFor : Node → LocCall → Type 0
AsksFor from (calls.CreateEntry e) = IsAdmin from
AsksFor from call = ⊤

abbrev pub AsksBy : Node → Carried → Type 0
AsksBy from (carried.Call user (ask.Location call)) = AsksFor from call
AsksBy from x = ⊤

abbrev pub GivesBy : Node → Carried → Type 0
GivesBy Loc x = ⊤
GivesBy (Admin n) x = volume_number_in x ≡ None
GivesBy (Server i) x = volume_number_in x ≡ None
GivesBy (Client n) x = volume_number_in x ≡ None

abbrev pub MadeBy : Node → Message → Type 0
MadeBy n m = AsksBy m.head.from m.carried × GivesBy n m.carried

abbrev pub AnyDump : Node → Sending → Type 0
AnyDump n x = ⊤

abbrev pub AskedBy : Message → Type 0
AskedBy m = AsksBy m.head.from m.carried

one_of : (n : Node) (b : Bool) (x y : Message) → MadeBy n x → MadeBy n y → MadeBy n (cond b x y)
one_of n true x y h k = h
one_of n false x y h k = k

looks : (from : Node) (o : Operand) → AsksFor from (question o)
looks from (operands.Path p) = tt
looks from (operands.Fid f) = tt

admin_asks : (n : ℕ) (call : LocCall) → AsksFor (Admin n) call
admin_asks n (calls.CreateEntry e) = tt
admin_asks n call = tt

admin_calls : (n : ℕ) (call : Call) → AsksBy (Admin n) (carried.Call [] call)
admin_calls n (ask.Location call) = admin_asks n call
admin_calls n (ask.File call) = tt
admin_calls n (ask.Volume call) = tt

pub rules : Rules MadeBy AnyDump AskedBy
rules = record {
  said = λ n m h. h.0;
  servers = λ i boot. record {
    file = record { answers = record { notice = λ head to. (tt, refl); refusal = λ head code to. (tt, refl) }; reply = λ head reply to. (tt, refl); breaks = λ n known c. (tt, refl) };
    piece = λ n known number x h. (tt, refl);
    forward = λ x code h. one_of (Server i) (is_number code 0) _ _ (tt, refl) (tt, refl);
    moved = λ x h. tt;
  };
  volumes = λ i d v m q. makes_any (MadeBy (Server i)) (AnyDump (Server i)) (Server i) d v m (λ to. record { reply = λ r. (tt, refl); refused = λ code. (tt, refl); sends_on = λ x. tt });
  database = λ boot. record { notice = λ head to. (tt, tt); refusal = λ head code to. (tt, tt) };
  locations = λ s m q. loc_makes_any (MadeBy Loc) s m (λ head reply to. (tt, tt));
  clients = λ n. record {
    answers = λ boot. record { notice = λ head to. (tt, refl); refusal = λ head code to. (tt, refl) };
    reply = λ boot head reply to. (tt, refl);
    call = λ head user call is none. (tt, refl);
    look = λ head user o is none. (looks head.from o, refl);
  };
  admins = λ n boot. record { notice = λ head to. (tt, refl); refusal = λ head code to. (tt, refl) };
  asks = λ n a r is. (admin_calls n _, refl);
}

-- so it is of all messages of a run
pub all_made : (s : Script) (inputs : List CellInput) → AllAre MadeBy AnyDump AskedBy (cell_behind (node_start s) inputs)
all_made s inputs =
    each_run s (λ (course : Course) (c : NodeCell). AllAre MadeBy AnyDump AskedBy c) (λ done x t h. next_all MadeBy AnyDump AskedBy rules (cell_behind (node_start s) done) h x) (all_are_first MadeBy AnyDump AskedBy rules s) inputs
