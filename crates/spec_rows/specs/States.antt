-- What the nodes keep.
use Rattle.std.specs.Prelude.{ℕ, List, Option, Bool, [], map, Some, None}
use Rattle.afs_num.specs.declared.types.Fid.{Fid}
use Rattle.afs_num.specs.declared.types.Node.{Node}
use Rattle.afs_num.specs.declared.location_calls.LocEntry.{LocEntry}
use Rattle.afs_num.specs.declared.messages.Message.{Message}
use Rattle.afs_num.specs.declared.histories.Body.{Body}
use Rattle.afs_num.specs.declared.histories.ReadStatus.{ReadStatus}
use Rattle.spec_ideal.specs.Tables.{Table, get}
use Rattle.spec_ideal.specs.Volumes.{Volume}
use Rattle.spec_model.specs.Calls.{CallSeat}
use Rattle.afs_num.specs.Nodes.{node_number}
use Rattle.spec_breaks.specs.declared.types.OwedBreak.{OwedBreak}
use Rattle.spec_breaks.specs.Promises.{Lists}
use Rattle.std.specs.Option.{option_map}
use Rattle.spec_model.specs.Messages.{spelled}
use Rattle.spec_records.specs.Durable.{Stored, Kept, Durable}

-- what a callee knows of a caller
abbrev pub Seat : Type 0
Seat = CallSeat Message

-- what a client knows of a volume: the entry of the location database
abbrev pub Location : Type 0
Location = LocEntry

-- the boot number of a server, as a client was told it
pub record KnownBoot : Type 0 where
  pub server : Node
  pub boot : ℕ

-- What a client has cached of a fid: its status under this index, and its body, if it holds that; the server that promised it
-- and until when it is trusted; and the release of the reply that brought it
pub record CacheEntry : Type 0 where
  pub fid : Fid
  pub index : ℕ
  pub status : ReadStatus
  pub body : Option Body
  pub server : Node
  pub expiry : ℕ
  pub release : ℕ

-- ---- what of a file server outlives a crash

-- Its boot number; its volumes; the stamps of families, and the servers to which volumes went, by numbers; by ascending numbers
-- the callers that ever changed something, each with the last call that did and its reply; the length of its journal, and how
-- long that can get
pub record Lasting : Type 0 where
  pub boot : ℕ
  pub volumes : Table Stored
  pub stamps : Table ℕ
  pub forwardings : Table ℕ
  pub kept : List Seat
  pub journal : ℕ
  pub capacity : ℕ

-- the volume of this number
abbrev pub volume_in : ℕ → Table Stored → Option Volume
volume_in id volumes = option_map (λ (s : Stored). s.volume) (get id volumes)

-- on the disk a kept reply is its spelling
abbrev pub kept_reply_bytes : Option Message → List ℕ
kept_reply_bytes None = []
kept_reply_bytes (Some m) = spelled m

abbrev pub kept_of : Seat → Kept
kept_of seat = record { epoch = seat.epoch; number = seat.number; reply = kept_reply_bytes seat.reply }

abbrev pub kept_by_number : List Seat → Table Kept
kept_by_number seats = map (λ (seat : Seat). (node_number seat.caller, kept_of seat)) seats

abbrev pub durable_of : Lasting → Durable
durable_of l = record {
  boot = l.boot;
  volumes = l.volumes;
  stamps = l.stamps;
  forwardings = l.forwardings;
  kept = kept_by_number l.kept;
  journal = l.journal;
  capacity = l.capacity;
}

-- ---- what it has in memory beside its callers

-- the server's unanswered call to a node, and the breaks that it carries
pub record Unanswered (C : Type 0) : Type 0 where
  pub number : ℕ
  pub tries : ℕ
  pub content : C

-- one that brings breaks
abbrev pub BackCall : Type 0
BackCall = Unanswered (List OwedBreak)

-- a reply that goes out once no break of these numbers is owed; it is the call's own, or a kept one that was asked again
pub record Held : Type 0 where
  pub reply : Message
  pub waits : List ℕ
  pub again : Bool

-- Promises and owed breaks; the last number of its own calls in this boot, its unanswered calls, and the boot numbers of the
-- nodes that it calls as it knows them; and the replies that wait
pub record Backs : Type 0 where
  pub lists : Lists
  pub last_call : ℕ
  pub calls : Node → Option BackCall
  pub known : Node → ℕ
  pub held : List Held

-- a promise that a client gives back
pub record Gift : Type 0 where
  pub server : Node
  pub fid : Fid
  pub expiry : ℕ

-- a file server: what outlives a crash; its callers; and the rest
pub record ServerState : Type 0 where
  pub lasting : Lasting
  pub seats : List Seat
  pub backs : Backs
