-- The calls of a server to other servers ask for no transaction: each is a piece of a dump.
use Rattle.std.proofs.Common.{◌≡◌, ℕ, ℤ, Bool, true, false, cond, List, [], ◌∷◌, refl, sym, ap, subst, ◌∙◌}
use Rattle.std.specs.Prelude.{⊤}
use Rattle.std.specs.List.{AllByRecursion}
use Rattle.afs_num.specs.declared.messages.Call.{Call}
use Rattle.afs_num.specs.declared.messages.Call.TheVariants as ask
use Rattle.afs_num.specs.declared.messages.Carried.{Carried}
use Rattle.afs_num.specs.declared.messages.Carried.TheVariants as carried
use Rattle.afs_num.specs.declared.messages.Message.{Message}
use Rattle.afs_num.specs.declared.messages.Reply.TheVariants as tell
use Rattle.afs_num.specs.declared.types.Head.{Head}
use Rattle.afs_num.specs.declared.types.Node.{Node}
use Rattle.afs_num.specs.declared.types.Node.TheVariants.{Admin, Loc, Server}
use Rattle.afs_num.specs.declared.volume_calls.VolCall.{VolCall}
use Rattle.afs_num.specs.declared.volume_calls.VolCall.TheVariants as calls
use Rattle.afs_num.specs.declared.volume_calls.VolReply.TheVariants as volumes
use Rattle.spec_history.specs.declared.scripts.Script.{Script}
use Rattle.spec_adminrows.specs.AdminRow.{ask_of}
use Rattle.spec_ideal.specs.Operations.{is_number}
use Rattle.spec_rows.specs.ServerRow.{refusal, replied}
use Rattle.spec_volrows.specs.VolStates.{Sending}
use Rattle.spec_runs.specs.NodeRuns.{node_moved, node_start, CellInput, NodeCell}
use Rattle.law_walks.specs.Messages.{cell_after, Rules}
use Rattle.law_walks.specs.Sends.{AnswersAre}
use Rattle.law_walks.proofs.AllMessages.{all_are}
use Rattle.law_walks.proofs.LocSends.{loc_makes_any}
use Rattle.law_walks.proofs.VolDecides.{makes_any}
use Rattle.law_places.specs.Accepting.{cell_behind}
use Rattle.law_transactions.specs.Begun.{AsksFor}

-- a server's call asks for no transaction
abbrev pub AsksNone : VolCall → Node → Type 0
AsksNone call (Server i) = (volume family : ℕ) → AsksFor volume family call → ⊥
AsksNone call n = ⊤

abbrev pub ByCarried : Carried → Node → Type 0
ByCarried (carried.Call user (ask.Volume call)) n = AsksNone call n
ByCarried x n = ⊤

abbrev pub MakesNone : Message → Type 0
MakesNone m = ByCarried m.carried m.head.from

by_admin : (n : ℕ) (call : Call) → ByCarried (carried.Call [] call) (Admin n)
by_admin n (ask.Volume call) = tt
by_admin n (ask.File call) = tt
by_admin n (ask.Location call) = tt

forwarded : (boot : ℕ) (head : Head) (b : Bool) (code : ℤ) → MakesNone (cond b (replied boot head (carried.Reply (tell.Volume volumes.Forward))) (refusal boot head code))
forwarded boot head true code = tt
forwarded boot head false code = tt

answers : (me : Node) (boot : ℕ) → AnswersAre MakesNone me boot
answers me boot = record { notice = λ head to. tt; refusal = λ head code to. tt }

rules : Rules (λ (n : Node). MakesNone) (λ (n : Node) (x : Sending). ⊤) MakesNone
rules = record {
  said = λ n m h. h;
  servers = λ i boot. record {
    file = record { answers = answers (Server i) boot; reply = λ head reply to. tt; breaks = λ n known c. tt };
    piece = λ n known number x h volume family asks. asks;
    forward = λ x code h. forwarded boot x.head (is_number code 0) code;
    moved = λ x h. tt;
  };
  volumes = λ i d v m q. makes_any MakesNone (λ (x : Sending). ⊤) (Server i) d v m (λ to. record { reply = λ r. tt; refused = λ code. tt; sends_on = λ x. tt });
  database = λ boot. answers Loc boot;
  locations = λ s m q. loc_makes_any MakesNone s m (λ head reply to. tt);
  clients = λ n. record { answers = λ boot. answers _ boot; reply = λ boot head reply to. tt; call = λ head user call from none. tt; look = λ head user o from none. tt };
  admins = λ n boot. answers (Admin n) boot;
  asks = λ n a r is. by_admin n (ask_of a r).call;
}

same_cell : (c : NodeCell) (xs : List CellInput) → cell_after c xs ≡ cell_behind c xs
same_cell c [] = refl
same_cell c (x ∷ xs) = same_cell (node_moved c x).cell xs

pub make_none : (s : Script) (inputs : List CellInput) → AllByRecursion MakesNone (cell_behind (node_start s) inputs).sent
make_none s inputs = subst (λ (c : NodeCell). AllByRecursion MakesNone c.sent) (same_cell (node_start s) inputs) (all_are (λ (n : Node). MakesNone) (λ (n : Node) (x : Sending). ⊤) MakesNone rules s inputs).sent

none_by : (x : Carried) (n : Node) (i : ℕ) (user : List ℕ) (call : VolCall) → ByCarried x n → x ≡ carried.Call user (ask.Volume call) → n ≡ Server i → (volume family : ℕ) → AsksFor volume family call → ⊥
none_by x n i user call h is from volume family asks =
    let k : ByCarried (carried.Call user (ask.Volume call)) n = subst (λ (y : Carried). ByCarried y n) is h in
    let z : AsksNone call (Server i) = subst (AsksNone call) from k in z volume family asks

-- such a call is no server's
pub no_server : (m : Message) (i : ℕ) (user : List ℕ) (call : VolCall) → MakesNone m → m.carried ≡ carried.Call user (ask.Volume call) → m.head.from ≡ Server i → (volume family : ℕ) → AsksFor volume family call → ⊥
no_server m i user call h is from = none_by m.carried m.head.from i user call h is from
