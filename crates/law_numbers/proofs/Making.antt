-- Servers and clients write no entries, and tell none.
use Rattle.std.proofs.Common.{◌≡◌, ℕ, Bool, true, false, cond, sym, subst}
use Rattle.std.specs.Prelude.{⊤}
use Rattle.afs_num.specs.declared.location_calls.LocCall.{LocCall}
use Rattle.afs_num.specs.declared.location_calls.LocCall.TheVariants as calls
use Rattle.afs_num.specs.declared.messages.Call.TheVariants as ask
use Rattle.afs_num.specs.declared.messages.Carried.{Carried}
use Rattle.afs_num.specs.declared.messages.Carried.TheVariants as carried
use Rattle.afs_num.specs.declared.messages.Message.{Message}
use Rattle.afs_num.specs.declared.messages.Reply.TheVariants as tell
use Rattle.afs_num.specs.declared.types.Head.{Head}
use Rattle.afs_num.specs.declared.types.Node.{Node}
use Rattle.afs_num.specs.declared.types.Node.TheVariants.{Admin, Client, Loc, Server}
use Rattle.spec_history.specs.declared.acts.Operand.{Operand}
use Rattle.spec_history.specs.declared.acts.Operand.TheVariants as operands
use Rattle.spec_ideal.specs.Operations.{is_number}
use Rattle.spec_rows.specs.ClientRow.{question}
use Rattle.spec_volrows.specs.VolStates.{Sending}
use Rattle.spec_runs.specs.NodeRuns.{NodeCell}
use Rattle.law_walks.specs.Messages.{Rules}
use Rattle.law_walks.proofs.LocSends.{loc_makes_any}
use Rattle.law_walks.proofs.VolDecides.{makes_any}
use Rattle.law_numbers.specs.Numbers.{next_volume, WritesSound}
use Rattle.law_numbers.proofs.Knowing.{CallFrom, Known, KnownBy}

-- it only reads
abbrev pub IsReading : LocCall → Type 0
IsReading (calls.CreateEntry e) = ⊥
IsReading (calls.ReplaceEntry id e) = ⊥
IsReading call = ⊤

abbrev pub IsHarmless : Node → Head → Carried → Type 0
IsHarmless me head (carried.Call user (ask.Location call)) = IsReading call × (head.from ≡ me)
IsHarmless me head (carried.Reply (tell.Location reply)) = ⊥
IsHarmless me head x = ⊤

-- of administrators and of the database nothing is asked here
abbrev pub MadeBy : Node → Message → Type 0
MadeBy (Server i) m = IsHarmless (Server i) m.head m.carried
MadeBy (Client n) m = IsHarmless (Client n) m.head m.carried
MadeBy (Admin n) m = ⊤
MadeBy Loc m = ⊤

abbrev pub AnyDump : Node → Sending → Type 0
AnyDump n x = ⊤

abbrev pub AnyMessage : Message → Type 0
AnyMessage m = ⊤

one_of : (i : ℕ) (b : Bool) (x y : Message) → MadeBy (Server i) x → MadeBy (Server i) y → MadeBy (Server i) (cond b x y)
one_of i true x y h k = h
one_of i false x y h k = k

looks : (o : Operand) → IsReading (question o)
looks (operands.Path p) = tt
looks (operands.Fid f) = tt

pub rules : Rules MadeBy AnyDump AnyMessage
rules = record {
  said = λ n m h. tt;
  servers = λ i boot. record {
    file = record { answers = record { notice = λ head to. tt; refusal = λ head code to. tt }; reply = λ head reply to. tt; breaks = λ n known c. tt };
    piece = λ n known number x h. tt;
    forward = λ x code h. one_of i (is_number code 0) _ _ tt tt;
    moved = λ x h. tt;
  };
  volumes = λ i d v m q. makes_any (MadeBy (Server i)) (AnyDump (Server i)) (Server i) d v m (λ to. record { reply = λ r. tt; refused = λ code. tt; sends_on = λ x. tt });
  database = λ boot. record { notice = λ head to. tt; refusal = λ head code to. tt };
  locations = λ s m q. loc_makes_any (MadeBy Loc) s m (λ head reply to. tt);
  clients = λ n. record { answers = λ boot. record { notice = λ head to. tt; refusal = λ head code to. tt }; reply = λ boot head reply to. tt; call = λ head user call is none. tt; look = λ head user o is none. (looks o, is) };
  admins = λ n boot. record { notice = λ head to. tt; refusal = λ head code to. tt };
  asks = λ n a r is. tt;
}

-- ---- so nothing has to be known of what they send

reading_writes : (n : ℕ) (call : LocCall) → IsReading call → WritesSound n call
reading_writes n (calls.CreateEntry e) h = absurd h
reading_writes n (calls.ReplaceEntry id e) h = absurd h
reading_writes n call h = tt

harmless_by : (c : NodeCell) (me : Node) (head : Head) (x : Carried) → CallFrom c head me → IsHarmless me head x → KnownBy c head x
harmless_by c me head (carried.Call user (ask.Location call)) from h = (reading_writes (next_volume c) call h.0, subst (CallFrom c head) (sym h.1) from)
harmless_by c me head (carried.Reply (tell.Location reply)) from h = absurd h
harmless_by c me head x from h = tt

pub server_known : (c : NodeCell) (i : ℕ) (m : Message) → MadeBy (Server i) m → Known c m
server_known c i m h = harmless_by c (Server i) m.head m.carried tt h

pub client_known : (c : NodeCell) (n : ℕ) (m : Message) → MadeBy (Client n) m → Known c m
client_known c n m h = harmless_by c (Client n) m.head m.carried tt h
