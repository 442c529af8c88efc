-- What a server decides on a call.
use Rattle.std.specs.Prelude.{◌≡◌, ◌≤◌, ℕ, List, [], ◌∷◌, Bool, true, false, length, Some, Result, Ok, Err}
use Rattle.std.specs.List.{AllByRecursion}
use Rattle.afs_num.specs.Nodes.{IsNode}
use Rattle.afs_num.specs.declared.calls.FsCall.{FsCall}
use Rattle.afs_num.specs.declared.calls.FsCall.TheVariants as calls
use Rattle.afs_num.specs.declared.calls.FsReply.{FsReply}
use Rattle.afs_num.specs.declared.calls.FsReply.TheVariants as replies
use Rattle.afs_num.specs.declared.messages.Call.TheVariants as ask
use Rattle.afs_num.specs.declared.messages.Message.{Message}
use Rattle.afs_num.specs.declared.messages.Reply.TheVariants as tell
use Rattle.afs_num.specs.declared.types.Fid.{Fid}
use Rattle.afs_num.specs.declared.histories.Version.{Version}
use Rattle.afs_num.specs.declared.types.Head.{Head}
use Rattle.afs_num.specs.declared.vnodes.Vnode as image
use Rattle.afs_num.specs.declared.volumes.Change as made
use Rattle.spec_shape.specs.Rows.{IsWithin}
use Rattle.afs_xdr.specs.Words.{AreWords}
use Rattle.spec_model.specs.CellRows.{cell_replies, reply_number, call_number}
use Rattle.spec_model.specs.Calls.{runs, Admitted, call_seat, paired}
use Rattle.spec_model.specs.Heads.{is_zero}
use Rattle.spec_ideal.specs.Operations.{last_count, op, Caller}
use Rattle.spec_ideal.specs.Replies.{change_reply}
use Rattle.spec_ideal.specs.Tables.{get}
use Rattle.spec_ideal.specs.VnodeImage.{image_words}
use Rattle.spec_records.specs.Changes.{images_left, numbers_gone}
use Rattle.spec_records.specs.Durable.{changed_stored, time_in, versions_told}
use Rattle.spec_rows.specs.ServerRow as row
use Rattle.spec_rows.specs.ServerRow.{drops, given_up_read, is_client, refuses, repeats, result, roomed, shows, stored_by, tells_boot, Decision}
use Rattle.spec_rows.specs.States.{ServerState}
use Rattle.afs_callees.specs.Telling.{grants_seen}
use Rattle.afs_callees.specs.declared.telling.Grant.{Grant}
use Rattle.afs_callbacks.specs.Saving.{grant_of, CanBeWritten}
use Rattle.afs_reads.specs.declared.faults.OpFault.{OpFault}
use Rattle.afs_reads.specs.declared.faults.OpFault.TheVariants as faults
use Rattle.afs_reads.specs.Replying.{FitsCall}
use Rattle.afs_decisions.specs.declared.decided.Decided.{Decided}
use Rattle.afs_decisions.specs.declared.decided.Decided.TheVariants as decided
use Rattle.afs_volume.specs.Giving.{volume_of}
use Rattle.afs_shelves.specs.Shelving.{stored_as}
use Rattle.afs_volume.specs.declared.volume.Volume.{Volume}

-- ---- what a reading reply grants

abbrev pub granted_data : Fid → FsReply → List Grant
granted_data f (replies.FetchData contents status callback sync) = grant_of f status ∷ []
granted_data f reply = []

abbrev pub granted_status : Fid → FsReply → List Grant
granted_status f (replies.FetchStatus status callback sync) = grant_of f status ∷ []
granted_status f reply = []

abbrev pub granted_in : FsCall → FsReply → List Grant
granted_in (calls.FetchData f position wanted) reply = granted_data f reply
granted_in (calls.FetchStatus f) reply = granted_status f reply
granted_in call reply = []

-- the call is served by one volume, or by none
abbrev pub is_on_volume : FsCall → Bool
is_on_volume (calls.GiveUpCallBacks fids callbacks) = false
is_on_volume calls.GetTime = false
is_on_volume (calls.BulkStatus fids) = false
is_on_volume call = true

-- ---- decisions

-- a reading that the reply tells, and whose promises these grants are; no promise is given up in it
pub record IsReading (reply : FsReply) (grants : List Grant) (r : row.Reading) : Type 0 where
  pub reply_is : r.reply ≡ reply
  pub grants_are : grants_seen r.granted ≡ grants
  pub nothing : r.given_up ≡ []

-- the counts that a version tells are words
abbrev pub IsCounted : Version → Type 0
IsCounted w = (w.index ≤ last_count) × (w.data_version ≤ last_count)

-- so is how many versions there are
abbrev pub AreCounted : List Version → Type 0
AreCounted ws = (length ws ≤ last_count) × AllByRecursion IsCounted ws

abbrev pub IsOfWords : image.Vnode → Type 0
IsOfWords i = AreWords (image_words i)

-- The change of the volume of this number that is made at this time: what its record says, and its reply. A disk that keeps the
-- volume makes of the record the volume after the change; and the record tells the versions that the change tells, with counts
-- that are words where those of the images are.
pub record IsMade (clock id : ℕ) (c : row.Change) (x : made.Change) : Type 0 where
  pub number : c.id ≡ id
  pub versions : x.versions ≡ row.versions_made c
  pub vnodes : x.vnodes ≡ images_left clock c.edits (result c)
  pub removed : x.removed ≡ numbers_gone c.edits c.before.volume (result c)
  pub counter : x.counter ≡ (result c).counter
  pub unique : x.unique ≡ (result c).next
  pub kept : changed_stored x.counter x.unique x.vnodes x.removed c.before ≡ Some (stored_by clock c)
  pub reply : change_reply c.id c.caller (time_in (stored_by clock c)) (result c) c.shown c.call ≡ Some x.reply
  pub told : versions_told id x.vnodes x.removed (Some c.before) ≡ x.versions
  pub counted : AllByRecursion IsOfWords x.vnodes → AreCounted x.versions

-- what is decided on the call of this header, at this time
abbrev pub Decides : ServerState → ℕ → Head → Decision → Decided → Type 0
Decides s clock head d decided.Drops = d ≡ drops
Decides s clock head d decided.TellsBoot = d ≡ tells_boot head
Decides s clock head d (decided.Repeats reply) = d ≡ repeats reply
Decides s clock head d (decided.Refuses code) = d ≡ refuses head code
Decides s clock head d (decided.Shows reply grants) = (r : row.Reading) × (IsReading reply grants r × (d ≡ shows head r))
Decides s clock head d (decided.GivesUp fids) = d ≡ shows head (given_up_read fids)
Decides s clock head d (decided.Changes id x) = (c : row.Change) × ((get id s.lasting.volumes ≡ Some c.before) × (IsMade clock id c x × (d ≡ roomed s clock head c)))

-- what is decided where a volume answered a call that reads it with this, or one that changes it; nothing, where memory was wanting
abbrev pub ReadsAs : FsCall → Result FsReply OpFault → Decided → Type 0
ReadsAs call (Ok reply) d = d ≡ decided.Shows reply (granted_in call reply)
ReadsAs call (Err (faults.Code code)) d = d ≡ decided.Refuses code.0
ReadsAs call (Err faults.OutOfMemory) d = ⊥

abbrev pub ChangesAs : ℕ → Result made.Change OpFault → Decided → Type 0
ChangesAs id (Ok x) d = d ≡ decided.Changes id x
ChangesAs id (Err (faults.Code code)) d = d ≡ decided.Refuses code.0
ChangesAs id (Err faults.OutOfMemory) d = ⊥

-- what is told has a spelling
abbrev pub CanBeTold : ℕ → Decided → Type 0
CanBeTold opcode (decided.Repeats reply) = IsNode reply.head.to
CanBeTold opcode (decided.Refuses code) = is_zero code ≡ false
CanBeTold opcode (decided.Shows reply grants) = (opcode ≡ reply_number (tell.File reply)) × IsWithin cell_replies (tell.File reply)
CanBeTold opcode (decided.GivesUp fids) = opcode ≡ 147
CanBeTold opcode (decided.Changes id x) = (opcode ≡ reply_number (tell.File x.reply)) × IsWithin cell_replies (tell.File x.reply)
CanBeTold opcode d = Unit {0}

-- ---- limits

-- few promises are granted, and a change has a record
abbrev pub FitsDecided : Decided → Type 0
FitsDecided (decided.Shows reply grants) = length grants ≤ 50
FitsDecided (decided.Changes id x) = CanBeWritten x
FitsDecided d = Unit {0}

-- a change is one by a client
abbrev pub IsByClient : Head → Decided → Type 0
IsByClient head (decided.Changes id x) = is_client head.from ≡ true
IsByClient head d = Unit {0}

-- ---- what is decided, and within its limits

-- on a call of this user on a volume that the server keeps so, as a new one or not
abbrev pub decided_in : Bool → ServerState → ℕ → Head → Caller → FsCall → Volume → Decision
decided_in new s clock head caller call w = row.decided s clock head caller call w.head.id (stored_as new w) (op w.head.id caller call (volume_of w))

-- in any state in which the server keeps the volume so
pub record IsDecisionIn (clock : ℕ) (head : Head) (caller : Caller) (call : FsCall) (w : Volume) (x : Decided) : Type 0 where
  pub decides : (new : Bool) (s : ServerState) → get w.head.id s.lasting.volumes ≡ Some (stored_as new w) → Decides s clock head (decided_in new s clock head caller call w) x
  pub told : CanBeTold head.opcode x
  pub fits : FitsDecided x

-- in this state
pub record IsDecision (s : ServerState) (clock : ℕ) (head : Head) (d : Decision) (x : Decided) : Type 0 where
  pub decides : Decides s clock head d x
  pub told : CanBeTold head.opcode x
  pub fits : FitsDecided x

-- ---- what was received

-- the header is that of a message of this call, which keeps its limits
pub record IsCallUnder (head : Head) (call : FsCall) : Type 0 where
  pub opcode : head.opcode ≡ call_number (ask.File call)
  pub fits : FitsCall call

-- where the decision runs the call, the call's pair is to run
abbrev pub Runs : Decided → Admitted Message → Type 0
Runs decided.Drops a = Unit {0}
Runs decided.TellsBoot a = Unit {0}
Runs (decided.Repeats reply) a = Unit {0}
Runs d a = a ≡ runs

abbrev pub leaves_disk : Decided → Bool
leaves_disk (decided.Changes id x) = false
leaves_disk d = true

-- the decision leaves the disk as it is
abbrev pub LeavesDisk : Decided → Type 0
LeavesDisk (decided.Changes id x) = ⊥
LeavesDisk d = Unit {0}

-- What is decided can be done: a change is one by a client, and where the call runs its pair is to run.
pub record CanBeDone (s : ServerState) (clock : ℕ) (head : Head) (d : Decision) (x : Decided) : Type 0 where
  pub decision : IsDecision s clock head d x
  pub client : IsByClient head x
  pub runs : Runs x (paired head.epoch head.number (call_seat head.from s.seats))
