-- Each message says of itself that it is of the node that sent it.
use Rattle.std.proofs.Common.{◌≡◌, ℕ, Bool, true, false, cond, List, [], ◌∷◌, refl, subst}
use Rattle.std.specs.Prelude.{⊤}
use Rattle.std.specs.List.{AllByRecursion}
use Rattle.afs_num.specs.declared.histories.Actor.{Actor}
use Rattle.afs_num.specs.declared.histories.Actor.TheVariants as actors
use Rattle.afs_num.specs.declared.messages.Message.{Message}
use Rattle.afs_num.specs.declared.types.Head.{Head}
use Rattle.afs_num.specs.declared.types.Node.{Node}
use Rattle.afs_num.specs.declared.types.Node.TheVariants.{Admin, Client, Loc, Server}
use Rattle.spec_ideal.specs.Operations.{is_number}
use Rattle.spec_model.proofs.Basics.{same_node-true}
use Rattle.spec_rows.specs.Runs.{Entry}
use Rattle.spec_volrows.specs.VolStates.{Sending}
use Rattle.law_walks.specs.Messages.{AreSent, HaveSenders, IsOf, Rules, SendersAreTold}
use Rattle.law_walks.specs.Sends.{AnswersAre, FileMakes, IsTo, SentBy}
use Rattle.law_walks.proofs.AllMessages.{are_sent}
use Rattle.law_walks.proofs.LocSends.{loc_makes_any}
use Rattle.law_walks.proofs.VolDecides.{makes_any}

-- the call that a dump is sent on for was to this server
abbrev IsFor : Node → Sending → Type 0
IsFor me x = IsTo me x.head

to_me : (me : Node) (head : Head) → IsTo me head → head.to ≡ me
to_me me head to = same_node-true head.to me to

answers_of : (me : Node) (boot : ℕ) → AnswersAre (IsOf me) me boot
answers_of me boot = record { notice = λ head to. to_me me head to; refusal = λ head code to. to_me me head to }

files_of : (me : Node) (boot : ℕ) → FileMakes (IsOf me) me boot
files_of me boot = record { answers = answers_of me boot; reply = λ head reply to. to_me me head to; breaks = λ n known c. refl }

forward_of : (me : Node) (boot : ℕ) (head : Head) (b : Bool) (x y : Message) → IsOf me x → IsOf me y → IsOf me (cond b x y)
forward_of me boot head true x y h k = h
forward_of me boot head false x y h k = k

rules : Rules IsOf IsFor (λ (m : Message). ⊤)
rules = record {
  said = λ n m h. tt;
  servers = λ i boot. record { file = files_of (Server i) boot; piece = λ n known number x h. refl; forward = λ x code h. forward_of (Server i) boot x.head (is_number code 0) _ _ (to_me (Server i) x.head h) (to_me (Server i) x.head h); moved = λ x h. h };
  volumes = λ i d v m q. makes_any (IsOf (Server i)) (IsFor (Server i)) (Server i) d v m (λ to. record { reply = λ r. to_me (Server i) m.head to; refused = λ code. to_me (Server i) m.head to; sends_on = λ x. to });
  database = λ boot. answers_of Loc boot;
  locations = λ s m q. loc_makes_any (IsOf Loc) s m (λ head reply to. to_me Loc head to);
  clients = λ n. record { answers = λ boot. answers_of (Client n) boot; reply = λ boot head reply to. to_me (Client n) head to; call = λ head user call is none. is; look = λ head user o is none. is };
  admins = λ n boot. answers_of (Admin n) boot;
  asks = λ n a r is. refl;
}

of_by : (n : Node) (ms : List Message) (who : Actor) → SentBy IsOf ms who → who ≡ actors.Node n → AllByRecursion (IsOf n) ms
of_by n ms (actors.Node k) h e = let same : k ≡ n = cc in subst (λ (j : Node). AllByRecursion (IsOf j) ms) same h
of_by n ms actors.Clock h e = absurd cc
of_by n ms actors.Nobody h e = absurd cc

each_of : (es : List Entry) → AreSent IsOf es → HaveSenders es
each_of [] h = tt
each_of (e ∷ es) h = ((λ n is. of_by n e.sent e.actor h.0 is), each_of es h.1)

pub senders_are_told : SendersAreTold
senders_are_told s inputs history end leads = each_of history (are_sent IsOf IsFor (λ (m : Message). ⊤) rules s inputs history end leads)
