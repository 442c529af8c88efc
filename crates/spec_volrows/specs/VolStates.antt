-- What a volume server keeps in memory, and a server node, which is a file server and a volume server over one disk.
use Rattle.std.specs.Prelude.{ℕ, List, [], Option, None}
use Rattle.afs_num.specs.declared.types.Head.{Head}
use Rattle.afs_num.specs.declared.types.Node.{Node}
use Rattle.spec_ideal.specs.Tables.{Table}
use Rattle.spec_rows.specs.States.{Held, Seat, ServerState, Unanswered}

-- A transaction holds a volume of the family under a stamp. Its flags are 1 for a volume that is offline, 2 for one that is busy.
-- `given` are the bytes of the dump that was given to it so far. The stamp is looked at by the laws alone.
pub record Transaction : Type 0 where
  pub volume : ℕ
  pub family : ℕ
  pub flags : ℕ
  pub stamp : ℕ
  pub given : List ℕ

-- a dump that is sent to a transaction at another server: the header of the call that asked for it, the family and the transaction, how
-- many bytes went, and those that are left
pub record Sending : Type 0 where
  pub head : Head
  pub family : ℕ
  pub target : ℕ
  pub at : ℕ
  pub left : List ℕ

-- The volume server's unanswered call to another server carries the next piece of the first dump that is sent there, and nothing besides.
abbrev pub PieceCall : Type 0
PieceCall = Unanswered (Unit {0})

-- Its callers; its transactions by their numbers, and the last number in this boot; for each server the dumps that go to it, the first
-- one being sent, its unanswered call, and the boot number as it knows it; and the replies that wait for breaks
pub record VolState : Type 0 where
  pub seats : List Seat
  pub transactions : Table Transaction
  pub last_transaction : ℕ
  pub sendings : Node → List Sending
  pub calls : Node → Option PieceCall
  pub known : Node → ℕ
  pub held : List Held

-- A server node. Both halves share what outlives a crash, the promises, and the numbers of the node's own calls.
pub record NodeState : Type 0 where
  pub file : ServerState
  pub vol : VolState

-- at set-up, and after a restart: no transactions, and these callers
abbrev pub fresh_vol : List Seat → VolState
fresh_vol seats =
    record { seats = seats; transactions = []; last_transaction = 0; sendings = λ n. []; calls = λ n. None; known = λ n. 1; held = [] }
