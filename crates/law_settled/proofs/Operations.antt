-- The number of operation of each call that a server makes of another server: it is that of no call to a client.
use Rattle.std.proofs.Common.{◌≡◌, ℕ, Bool, true, false, cond, List, [], ◌∷◌, refl, sym, subst, ◌∙◌}
use Rattle.std.specs.Prelude.{⊤}
use Rattle.std.specs.List.{AllByRecursion}
use Rattle.afs_num.specs.declared.messages.Call.TheVariants as ask
use Rattle.afs_num.specs.declared.messages.Carried.{Carried}
use Rattle.afs_num.specs.declared.messages.Carried.TheVariants as carried
use Rattle.afs_num.specs.declared.messages.Message.{Message}
use Rattle.afs_num.specs.declared.types.Head.{Head}
use Rattle.afs_num.specs.declared.types.Node.{Node}
use Rattle.afs_num.specs.declared.types.Node.TheVariants.{Admin, Client, Loc, Server}
use Rattle.spec_ideal.specs.Operations.{is_number}
use Rattle.spec_model.proofs.Basics.{same_node-true}
use Rattle.spec_volrows.specs.VolStates.{Sending}
use Rattle.spec_volrows.specs.VolSteps.{vol_opcode}
use Rattle.law_walks.specs.Messages.{Rules}
use Rattle.law_walks.specs.Sends.{AnswersAre, FileMakes, IsTo}
use Rattle.law_walks.proofs.LocSends.{loc_makes_any}
use Rattle.law_walks.proofs.VolDecides.{makes_any}

-- a call of a volume server has this number, and none is of the location database
abbrev pub HasOperation : Carried → ℕ → Type 0
HasOperation (carried.Call user (ask.File call)) number = ⊤
HasOperation (carried.Call user (ask.Volume call)) number = number ≡ vol_opcode
HasOperation (carried.Call user (ask.Location call)) number = ⊥
HasOperation c number = ⊤

-- where a server makes it
abbrev pub OfServer : Node → Carried → ℕ → Type 0
OfServer (Server i) c number = HasOperation c number
OfServer n c number = ⊤

-- the message is of this node
pub record IsMadeBy (n : Node) (m : Message) : Type 0 where
  pub from : m.head.from ≡ n
  pub operation : OfServer n m.carried m.head.opcode

abbrev pub IsMadeByServer : Message → Type 0
IsMadeByServer m = (i : ℕ) → m.head.from ≡ Server i → HasOperation m.carried m.head.opcode

abbrev pub IsSentFor : Node → Sending → Type 0
IsSentFor me x = IsTo me x.head

-- what a server makes, and is no call
quiet_of : (n : Node) (c : Carried) (number : ℕ) → HasOperation c number → OfServer n c number
quiet_of (Server i) c number h = h
quiet_of (Client i) c number h = tt
quiet_of (Admin i) c number h = tt
quiet_of Loc c number h = tt

answers_of : (me : Node) (boot : ℕ) → AnswersAre (IsMadeBy me) me boot
answers_of me boot = record { notice = λ head to. record { from = same_node-true head.to me to; operation = quiet_of me carried.Notice _ tt }; refusal = λ head code to. record { from = same_node-true head.to me to; operation = quiet_of me (carried.Refusal (record { 0 = code })) _ tt } }

files_of : (i boot : ℕ) → FileMakes (IsMadeBy (Server i)) (Server i) boot
files_of i boot = record { answers = answers_of (Server i) boot; reply = λ head reply to. record { from = same_node-true head.to (Server i) to; operation = tt }; breaks = λ n known c. record { from = refl; operation = tt } }

forward_of : (me : Node) (b : Bool) (x y : Message) → IsMadeBy me x → IsMadeBy me y → IsMadeBy me (cond b x y)
forward_of me true x y h k = h
forward_of me false x y h k = k

said_of : (n : Node) (m : Message) → IsMadeBy n m → IsMadeByServer m
said_of n m h i from = subst (λ (q : Node). OfServer q m.carried m.head.opcode) (sym h.from ∙ from) h.operation

pub operations : Rules IsMadeBy IsSentFor IsMadeByServer
operations = record {
  said = said_of;
  servers = λ i boot. record {
    file = files_of i boot;
    piece = λ n known number x h. record { from = refl; operation = refl };
    forward = λ x code h. forward_of (Server i) (is_number code 0) _ _ (record { from = same_node-true x.head.to (Server i) h; operation = tt }) (record { from = same_node-true x.head.to (Server i) h; operation = tt });
    moved = λ x h. h;
  };
  volumes = λ i d v m q. makes_any (IsMadeBy (Server i)) (IsSentFor (Server i)) (Server i) d v m
      (λ to. record { reply = λ r. record { from = same_node-true m.head.to (Server i) to; operation = tt }; refused = λ code. record { from = same_node-true m.head.to (Server i) to; operation = tt }; sends_on = λ x. to });
  database = λ boot. answers_of Loc boot;
  locations = λ s m q. loc_makes_any (IsMadeBy Loc) s m (λ head reply to. record { from = same_node-true head.to Loc to; operation = tt });
  clients = λ n. record {
    answers = λ boot. answers_of (Client n) boot;
    reply = λ boot head reply to. record { from = same_node-true head.to (Client n) to; operation = tt };
    call = λ head user call is none. record { from = is; operation = tt };
    look = λ head user o is none. record { from = is; operation = tt };
  };
  admins = λ n boot. answers_of (Admin n) boot;
  asks = λ n a r is. record { from = refl; operation = tt };
}
