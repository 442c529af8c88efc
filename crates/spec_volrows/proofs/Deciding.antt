-- What holds of each decision of a volume server: where it holds of each refusal of a call that isn't served, and of each call that is judged.
use Rattle.std.proofs.Common.{ℤ, Bool, true, false, cond}
use Rattle.afs_num.specs.Nodes.{same_node}
use Rattle.afs_num.specs.declared.messages.Call.TheVariants as ask
use Rattle.afs_num.specs.declared.messages.Carried.{Carried}
use Rattle.afs_num.specs.declared.messages.Carried.TheVariants as carried
use Rattle.afs_num.specs.declared.messages.Message.{Message}
use Rattle.afs_num.specs.declared.messages.Received.{Received}
use Rattle.afs_num.specs.declared.messages.Received.TheVariants.{Nothing, Unserved, Unreadable, Whole}
use Rattle.afs_num.specs.declared.types.Head.{Head}
use Rattle.afs_num.specs.declared.types.Node.{Node}
use Rattle.afs_num.specs.declared.volume_calls.VolCall.{VolCall}
use Rattle.spec_model.specs.Calls.{admitted, Admitted}
use Rattle.spec_model.specs.Calls as pairs
use Rattle.spec_records.specs.Durable.{Durable}
use Rattle.spec_rows.specs.ServerRow.{not_served}
use Rattle.spec_volrows.specs.VolStates.{VolState}
use Rattle.spec_volrows.specs.VolSteps.{drops, is_vol_caller, judged, refuses_vol, repeats, tells_boot, vol_admits, vol_called, vol_carried, vol_decides, vol_hears, vol_received, VolDecision}

pub record EachOf (d : Durable) (v : VolState) (P : VolDecision → Type 0) : Type 0 where
  pub dropped : P drops
  pub told : (head : Head) → P (tells_boot head)
  pub repeated : (reply : Message) → P (repeats reply)
  pub refused : (head : Head) (code : ℤ) → P (refuses_vol d v head code)
  pub judged : (head : Head) (call : VolCall) → P (judged d v head call)

one_of_two : (P : VolDecision → Type 0) (b : Bool) (x y : VolDecision) → P x → P y → P (cond b x y)
one_of_two P true x y h k = h
one_of_two P false x y h k = k

carried_each : (P : VolDecision → Type 0) (d : Durable) (v : VolState) (head : Head) (c : Carried) → EachOf d v P → P (vol_carried d v head c)
carried_each P d v head (carried.Call user (ask.Volume call)) each = each.judged head call
carried_each P d v head (carried.Call user (ask.File call)) each = each.refused head not_served
carried_each P d v head (carried.Call user (ask.Location call)) each = each.refused head not_served
carried_each P d v head (carried.Refusal code) each = each.dropped
carried_each P d v head (carried.Reply reply) each = each.dropped
carried_each P d v head carried.Notice each = each.dropped

received_each : (P : VolDecision → Type 0) (d : Durable) (v : VolState) (head : Head) (m : Received) → EachOf d v P → P (vol_received d v head m)
received_each P d v head Nothing each = each.dropped
received_each P d v head (Unserved other) each = each.refused head not_served
received_each P d v head (Unreadable other) each = each.refused head _
received_each P d v head (Whole m) each = carried_each P d v head m.carried each

admits_each : (P : VolDecision → Type 0) (d : Durable) (v : VolState) (head : Head) (m : Received) (a : Admitted Message) → EachOf d v P → P (vol_admits d v head m a)
admits_each P d v head m pairs.runs each =
    one_of_two P (is_vol_caller head.from) (vol_received d v head m) (refuses_vol d v head not_served) (received_each P d v head m each) (each.refused head not_served)
admits_each P d v head m (pairs.kept reply) each = each.repeated reply
admits_each P d v head m pairs.in_progress each = each.dropped
admits_each P d v head m pairs.older each = each.dropped
admits_each P d v head m (pairs.wrong_boot boot) each = each.told head

called_each : (P : VolDecision → Type 0) (me : Node) (d : Durable) (v : VolState) (head : Head) (m : Received) → EachOf d v P → P (vol_called me d v head m)
called_each P me d v head m each =
    one_of_two P (same_node head.to me) (vol_admits d v head m (admitted d.boot v.seats head)) drops (admits_each P d v head m (admitted d.boot v.seats head) each) each.dropped

hears_each : (P : VolDecision → Type 0) (me : Node) (d : Durable) (v : VolState) (head : Head) (c : Carried) → EachOf d v P → P (vol_hears me d v head c)
hears_each P me d v head (carried.Call user call) each = called_each P me d v head (Whole (record { head = head; carried = carried.Call user call })) each
hears_each P me d v head (carried.Refusal code) each = each.dropped
hears_each P me d v head (carried.Reply reply) each = each.dropped
hears_each P me d v head carried.Notice each = each.dropped

pub each_decision : (P : VolDecision → Type 0) (me : Node) (d : Durable) (v : VolState) (m : Received) → EachOf d v P → P (vol_decides me d v m)
each_decision P me d v Nothing each = each.dropped
each_decision P me d v (Unserved head) each = called_each P me d v head (Unserved head) each
each_decision P me d v (Unreadable head) each = called_each P me d v head (Unreadable head) each
each_decision P me d v (Whole m) each = hears_each P me d v m.head m.carried each
