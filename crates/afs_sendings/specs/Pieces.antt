-- What a step of a volume server does with its own calls to other servers, which carry pieces of dumps.
use Rattle.std.specs.Prelude.{◌≡◌, ℕ, ℤ, ◌+◌, List, [], ◌∷◌, ◌++◌, Bool, true, false, not, ◌||◌, Option, Some, None}
use Rattle.afs_num.specs.Nodes.{IsNode}
use Rattle.afs_num.specs.declared.messages.Message.{Message}
use Rattle.afs_num.specs.declared.types.Node.{Node}
use Rattle.afs_num.specs.declared.types.Node.TheVariants.{Server}
use Rattle.spec_ideal.specs.Operations.{is_number}
use Rattle.spec_rows.specs.Callbacks.{put_at}
use Rattle.spec_rows.specs.States.{Unanswered}
use Rattle.afs_callees.specs.Called.{call_to, known_to}
use Rattle.spec_volrows.specs.VolStates.{PieceCall, Sending}
use Rattle.spec_volrows.specs.VolSteps.{piece_message, sent_whole}
use Rattle.afs_sendings.specs.declared.pieces.Pieces.{Pieces}

-- a server's unanswered call carries the next piece of the first of the dumps that go to it
abbrev pub Piece : Type 0
Piece = Unanswered (List Sending)

-- The last number of the node's own calls; the unanswered call to each server, with the dumps that go to it; the servers' boot numbers as
-- they are known; and the messages that go out.
pub record Way : Type 0 where
  pub last : ℕ
  pub calls : Node → Option Piece
  pub known : Node → ℕ
  pub sent : List Message

abbrev pub way_of : Pieces → Way
way_of p = record { last = p.last; calls = call_to p.callees.items; known = known_to p.callees.items; sent = p.sent }

-- ---- as the row has them

abbrev pub call_seen : Piece → PieceCall
call_seen c = record { number = c.number; tries = c.tries; content = tt }

abbrev pub call_or_none : Option Piece → Option PieceCall
call_or_none None = None
call_or_none (Some c) = Some (call_seen c)

abbrev pub calls_in : (Node → Option Piece) → Node → Option PieceCall
calls_in calls n = call_or_none (calls n)

abbrev pub dumps_of : Option Piece → List Sending
dumps_of None = []
dumps_of (Some c) = c.content

abbrev pub sendings_in : (Node → Option Piece) → Node → List Sending
sendings_in calls n = dumps_of (calls n)

-- ---- what is done

abbrev pub first_call : ℕ → List Sending → Piece
first_call last xs = record { number = last + 1; tries = 0; content = xs }

-- these dumps go to the server, the first one from its next piece on; or there is nothing to send
abbrev pub starts : Node → ℕ → Node → List Sending → Way → Way
starts me boot n [] w = record w { calls = put_at n None w.calls }
starts me boot n (x ∷ xs) w = record w {
  last = w.last + 1;
  calls = put_at n (Some (first_call w.last (x ∷ xs))) w.calls;
  sent = w.sent ++ piece_message me boot n (w.known n) (w.last + 1) x ∷ [];
}

-- one more dump goes to the server, behind those that do
abbrev pub adds_by : Node → ℕ → Node → Sending → Way → Option Piece → Way
adds_by me boot n x w None = starts me boot n (x ∷ []) w
adds_by me boot n x w (Some c) = record w { calls = put_at n (Some (record c { content = c.content ++ x ∷ [] })) w.calls }

abbrev pub adds : Node → ℕ → Node → Sending → Way → Way
adds me boot n x w = adds_by me boot n x w (w.calls n)

abbrev pub sends : Message → Way → Way
sends m w = record w { sent = w.sent ++ m ∷ [] }

-- the first dump has ended, and is answered; then the next one goes
abbrev pub ends : Node → ℕ → Node → List Sending → Message → Way → Way
ends me boot n xs reply w = starts me boot n xs (sends reply w)

-- the server told its boot number: the call is sent again
abbrev pub renews : Node → ℕ → Node → ℕ → Piece → Sending → Way → Way
renews me boot n known c x w = record w { known = put_at n known w.known; sent = w.sent ++ piece_message me boot n known c.number x ∷ [] }

-- the call has waited too long, and is sent again
abbrev pub retries : Node → ℕ → Node → Piece → Sending → Way → Way
retries me boot n c x w = record w {
  calls = put_at n (Some (record c { tries = c.tries + 1 })) w.calls;
  sent = w.sent ++ piece_message me boot n (w.known n) c.number x ∷ [];
}

-- where the first dump ends with this code
abbrev pub ends_with : ℤ → Sending → Bool
ends_with code x = not (is_number code 0) || sent_whole x

-- ---- calls are to servers of the cell

abbrev pub is_server : Node → Bool
is_server (Server i) = true
is_server n = false

pub record IsServerNode (n : Node) : Type 0 where
  pub node : IsNode n
  pub server : is_server n ≡ true

abbrev pub IsToOrNone : Node → Option Piece → Type 0
IsToOrNone n None = Unit {0}
IsToOrNone n (Some c) = IsServerNode n

abbrev pub AreTo : (Node → Option Piece) → Type 0
AreTo calls = (n : Node) → IsToOrNone n (calls n)
