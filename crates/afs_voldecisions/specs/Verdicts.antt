-- What a volume server decides on a call, in code, and the verdict of its row that this is.
use Rattle.std.specs.Prelude.{◌≡◌, ◌≤◌, ℕ, List, length, Bool, true, false, Option, Some, None, Ok, nat_eq, if◌then◌else◌}
use Rattle.std.specs.Borrow.{Bor}
use Rattle.afs_num.specs.declared.messages.Reply.TheVariants as tell
use Rattle.afs_num.specs.declared.records.RecordBody.{RecordBody}
use Rattle.afs_num.specs.declared.records.RecordBody.TheVariants as bodies
use Rattle.afs_num.specs.declared.volume_calls.ListedVolume.{ListedVolume}
use Rattle.afs_num.specs.declared.volume_calls.VolCall.{VolCall}
use Rattle.afs_num.specs.declared.volume_calls.VolCall.TheVariants as calls
use Rattle.afs_num.specs.declared.volume_calls.VolReply.{VolReply}
use Rattle.afs_num.specs.declared.volume_calls.VolReply.TheVariants as replies
use Rattle.spec_shape.specs.Rows.{IsWithin}
use Rattle.spec_shape.specs.Tables.{IsServer, IsVolumeKind}
use Rattle.spec_ideal.specs.Tables.{get, Table}
use Rattle.spec_model.specs.CellRows.{cell_replies, reply_number}
use Rattle.spec_records.specs.Durable.{Durable, Stored}
use Rattle.spec_records.specs.Records.{most_name, store_table}
use Rattle.spec_dumps.specs.Restores.{restored_from}
use Rattle.spec_fold.specs.Deeds.{has_volume_room}
use Rattle.afs_shelves.specs.Shelving.{stored_as}
use Rattle.afs_volume.specs.declared.volume.Volume.{Volume}
use Rattle.spec_volrows.specs.VolRow as row
use Rattle.spec_volrows.specs.VolRow.{found, list_of}
use Rattle.spec_volrows.specs.VolStates.{Transaction}
use Rattle.afs_voldecisions.specs.declared.transactions.After.{After}
use Rattle.afs_voldecisions.specs.declared.transactions.After.TheVariants as afters
use Rattle.afs_voldecisions.specs.declared.verdicts.Dispatch.{Dispatch}
use Rattle.afs_voldecisions.specs.declared.verdicts.Plan.{Plan}
use Rattle.afs_voldecisions.specs.declared.verdicts.Verdict.{Verdict}
use Rattle.afs_voldecisions.specs.declared.verdicts.Verdict.TheVariants as verdicts

-- ---- verdicts

abbrev pub after_of : After → row.After
after_of afters.Stays = row.stay
after_of (afters.Begins volume family flags stamp) = row.begins volume family flags stamp
after_of (afters.Ends number) = row.ends number
after_of (afters.Gives number given) = row.gives number given

abbrev pub plan_of : Plan → row.Plan
plan_of p = record { reply = p.reply; body = p.body; withdraws = p.withdraws; after = after_of p.after }

abbrev pub dispatch_of : Dispatch → row.Dispatch
dispatch_of x = record { server = x.server; family = x.family; target = x.target; bytes = x.bytes }

abbrev pub verdict_of : Verdict → row.Verdict
verdict_of (verdicts.Refused code after) = row.refused code (after_of after)
verdict_of (verdicts.Accepted plan) = row.accepted (plan_of plan)
verdict_of (verdicts.Sends x) = row.sends (dispatch_of x)

-- the volume that was made to judge the call
abbrev pub made_in : Verdict → Option Volume
made_in (verdicts.Accepted plan) = plan.made
made_in x = None

-- ---- what is told and written has a spelling

-- the reply is to calls of this opcode, and within the limits of a message
abbrev pub IsReplyTo : ℕ → VolReply → Type 0
IsReplyTo opcode reply = (opcode ≡ reply_number (tell.Volume reply)) × IsWithin cell_replies (tell.Volume reply)

-- what is written has a form in a record
abbrev pub HasForm : Option RecordBody → Type 0
HasForm None = Unit {0}
HasForm (Some body) = (store_table.row body).Fits

-- it can be the verdict on a call of this opcode
abbrev pub CanTell : ℕ → Verdict → Type 0
CanTell opcode (verdicts.Refused code after) = nat_eq code 0 ≡ false
CanTell opcode (verdicts.Accepted p) = IsReplyTo opcode p.reply × HasForm p.body
CanTell opcode (verdicts.Sends x) = (opcode ≡ 103) × IsServer x.server

-- This is the row's verdict on a call of this opcode, and can be told. No volume was made to judge it.
pub record IsVerdict (opcode : ℕ) (r : row.Verdict) (x : Verdict) : Type 0 where
  pub decides : verdict_of x ≡ r
  pub told : CanTell opcode x
  pub unmade : made_in x ≡ None

-- ---- volumes that are found

-- where it is of this family
abbrev pub family_in : ℕ → Option Volume → Option Volume
family_in family None = None
family_in family (Some v) = if nat_eq v.head.family family then Some v else None

-- this is what stands under the number
abbrev pub IsShelf : ℕ → Option (Bor Volume) → Option Stored → Type 0
IsShelf id None o = o ≡ None
IsShelf id (Some v) o = (v.now.head.id ≡ id) × ((is_new : Bool) × (o ≡ Some (stored_as is_new v.now)))

-- a record can tell the name and the kind of a volume
abbrev pub IsNamed : List ℕ → ℕ → Type 0
IsNamed name kind = (length name ≤ most_name) × IsVolumeKind kind

-- the row's verdict on a call of this opcode in a transaction, which holds this volume
abbrev pub Judges : ℕ → Volume → (Transaction → Stored → row.Verdict) → Verdict → Type 0
Judges opcode v f x = (is_new : Bool) (t : Transaction) → t.volume ≡ v.head.id → IsVerdict opcode (f t (stored_as is_new v)) x

-- ---- what is looked up for a call

-- the volume that it names besides that of its transaction
abbrev pub named_in : VolCall → Option ℕ
named_in (calls.CreateVolume family id name kind flags quota) = Some id
named_in (calls.Clone family number id name kind) = Some id
named_in (calls.TransCreate family id flags) = Some id
named_in (calls.ReClone family number id) = Some id
named_in call = None

-- it was looked up
abbrev pub IsNamedBy : Durable → VolCall → Option (Bor Volume) → Type 0
IsNamedBy d call named = (id : ℕ) → named_in call ≡ Some id → IsShelf id named (get id d.volumes)

-- its transaction; 0, which is none, where it has none
abbrev pub number_in : VolCall → ℕ
number_in (calls.DeleteVolume family number) = number
number_in (calls.Restore family number offset final piece) = number
number_in (calls.Forward family number from server target) = number
number_in (calls.EndTrans family number) = number
number_in (calls.Clone family number id name kind) = number
number_in (calls.SetFlags family number flags) = number
number_in (calls.GetFlags family number) = number
number_in (calls.Dump family number from offset) = number
number_in (calls.SetForwarding family number server) = number
number_in (calls.GetStatus family number) = number
number_in (calls.ReClone family number id) = number
number_in call = 0

-- the volume of its transaction was looked up
abbrev pub IsHeld : Durable → Table Transaction → VolCall → Option (Bor Volume) → Type 0
IsHeld d ts call held = (t : Transaction) → found (row.family_of call) (number_in call) ts ≡ Some t → IsShelf t.volume held (get t.volume d.volumes)

-- what was found of the disk's durable part: the named volume, that of the transaction, whether there is room for one more, and the
-- volumes of the family where they are asked for
pub record Sees (d : Durable) (ts : Table Transaction) (call : VolCall) (named held : Option (Bor Volume)) (has_room : Bool) (listed : List ListedVolume) : Type 0 where
  pub named_is : IsNamedBy d call named
  pub held_is : IsHeld d ts call held
  pub room_is : has_room ≡ has_volume_room d
  pub listed_is : (family : ℕ) → call ≡ calls.ListVols family → listed ≡ list_of family d

-- ---- a volume that was made to judge a call

-- the one that the dump makes of this one, under its number, and new where that is
pub record IsMadeOf (v : Volume) (id : ℕ) (dump : List ℕ) (w : Volume) : Type 0 where
  pub here : id ≡ v.head.id
  pub number : w.head.id ≡ id
  pub made : (is_new : Bool) → restored_from id (stored_as is_new v) dump ≡ Ok (stored_as is_new w)

abbrev pub IsMadeBy : Volume → Option RecordBody → Volume → Type 0
IsMadeBy v (Some (bodies.Restore id dump)) w = IsMadeOf v id dump w
IsMadeBy v body w = ⊥

abbrev pub IsMadeOrNone : Volume → Option RecordBody → Option Volume → Type 0
IsMadeOrNone v body None = Unit {0}
IsMadeOrNone v body (Some w) = IsMadeBy v body w

abbrev pub IsMadeIn : Volume → Verdict → Type 0
IsMadeIn v (verdicts.Accepted p) = IsMadeOrNone v p.body p.made
IsMadeIn v x = Unit {0}

-- the row's verdict on a call of this opcode in a transaction that holds this volume
pub record IsJudged (opcode : ℕ) (v : Volume) (r : row.Verdict) (x : Verdict) : Type 0 where
  pub decides : verdict_of x ≡ r
  pub told : CanTell opcode x
  pub made : IsMadeIn v x

-- and where that may be none
abbrev pub IsMadeWith : Option (Bor Volume) → Verdict → Type 0
IsMadeWith None x = made_in x ≡ None
IsMadeWith (Some v) x = IsMadeIn v.now x

pub record IsDecided (opcode : ℕ) (held : Option (Bor Volume)) (r : row.Verdict) (x : Verdict) : Type 0 where
  pub decides : verdict_of x ≡ r
  pub told : CanTell opcode x
  pub made : IsMadeWith held x

-- ---- the calls in a transaction

-- it is in none
abbrev pub is_outside : VolCall → Bool
is_outside (calls.CreateVolume family id name kind flags quota) = true
is_outside (calls.TransCreate family id flags) = true
is_outside (calls.ListVols family) = true
is_outside call = false

abbrev pub is_clone : VolCall → Bool
is_clone (calls.Clone family number id name kind) = true
is_clone call = false

-- the row's verdict in a transaction, with its volume
abbrev pub judged_in : Durable → Table Transaction → VolCall → Transaction → Stored → row.Verdict
judged_in d ts (calls.DeleteVolume family number) t s = row.writes replies.DeleteVolume (bodies.Delete t.volume) (Some t.volume) (row.ends number)
judged_in d ts (calls.Restore family number offset final piece) t s = row.restores number offset final piece t s
judged_in d ts (calls.Forward family number from server target) t s = row.forwards family from server target t s
judged_in d ts (calls.EndTrans family number) t s = row.accepted (record { reply = replies.EndTrans; body = None; withdraws = None; after = row.ends number })
judged_in d ts (calls.Clone family number id name kind) t s = row.clones d id name kind t s
judged_in d ts (calls.SetFlags family number flags) t s = row.sets_flags flags t s
judged_in d ts (calls.GetFlags family number) t s = row.tells (replies.GetFlags s.volume.flags)
judged_in d ts (calls.Dump family number from offset) t s = row.dumps from offset t s
judged_in d ts (calls.SetForwarding family number server) t s = row.writes replies.SetForwarding (bodies.Forward t.volume server) None row.stay
judged_in d ts (calls.GetStatus family number) t s = row.tells_status t s
judged_in d ts (calls.ReClone family number id) t s = row.clones_anew number ts id t s (row.volume_of_family family (get id d.volumes))
judged_in d ts call t s = row.refusing row.no_such
