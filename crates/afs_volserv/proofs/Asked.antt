-- What is written is asked by a call of the volume server's interface, which was received.
use Rattle.std.proofs.Common.{◌≡◌, Option, Some, None, ap, subst}
use Rattle.afs_num.specs.declared.messages.Call.TheVariants as ask
use Rattle.afs_num.specs.declared.messages.Carried.{Carried}
use Rattle.afs_num.specs.declared.messages.Carried.TheVariants as carried
use Rattle.afs_num.specs.declared.messages.Received.{Received}
use Rattle.afs_num.specs.declared.messages.Received.TheVariants.{Nothing, Unreadable, Unserved, Whole}
use Rattle.afs_num.specs.declared.types.Head.{Head}
use Rattle.afs_num.specs.declared.volume_calls.VolCall.{VolCall}
use Rattle.afs_server_parts.specs.Heard.{IsUnder}
use Rattle.spec_model.specs.CellRows.{cell_calls}
use Rattle.spec_model.specs.Messages.{IsSoundCarried}
use Rattle.spec_records.specs.Durable.{Durable}
use Rattle.spec_shape.specs.Rows.{IsWithin}
use Rattle.spec_volrows.specs.VolStates.{VolState}
use Rattle.afs_volanswers.specs.Deciding.{call_carried, call_in, full_carried, full_for, full_then, IsOfVolumes, IsVolumeCall}

some_is : {A : Type 0} (x y : A) → ◌≡◌ {A = Option A} (Some x) (Some y) → x ≡ y
some_is x y e = cc

carried_some : (c : Carried) → IsOfVolumes c → call_carried c ≡ None → ⊥
carried_some (carried.Call user (ask.Volume call)) is none = absurd cc
carried_some (carried.Call user (ask.File call)) is none = is
carried_some (carried.Call user (ask.Location call)) is none = is
carried_some (carried.Refusal code) is none = is
carried_some (carried.Reply reply) is none = is
carried_some carried.Notice is none = is

pub asked_some : (r : Received) → IsVolumeCall r → call_in r ≡ None → ⊥
asked_some Nothing is none = is
asked_some (Unserved head) is none = is
asked_some (Unreadable head) is none = is
asked_some (Whole m) is none = carried_some m.carried is none

carried_within : (head : Head) (c : Carried) (call : VolCall) → IsSoundCarried head.half head.opcode c → call_carried c ≡ Some call → IsWithin cell_calls (ask.Volume call)
carried_within head (carried.Call user (ask.Volume other)) call sound is = subst (λ (x : VolCall). IsWithin cell_calls (ask.Volume x)) (some_is other call is) sound.3
carried_within head (carried.Call user (ask.File other)) call sound is = absurd cc
carried_within head (carried.Call user (ask.Location other)) call sound is = absurd cc
carried_within head (carried.Refusal code) call sound is = absurd cc
carried_within head (carried.Reply reply) call sound is = absurd cc
carried_within head carried.Notice call sound is = absurd cc

-- within the limits of its row
pub within_of : (head : Head) (r : Received) (call : VolCall) → IsUnder head r → call_in r ≡ Some call → IsWithin cell_calls (ask.Volume call)
within_of head Nothing call under is = absurd cc
within_of head (Unserved other) call under is = absurd cc
within_of head (Unreadable other) call under is = absurd cc
within_of head (Whole m) call under is = carried_within head m.carried call under is

carried_full : (d : Durable) (v : VolState) (head : Head) (c : Carried) (call : VolCall) → call_carried c ≡ Some call → full_carried d v head c ≡ full_for d v head call
carried_full d v head (carried.Call user (ask.Volume other)) call is = ap (full_for d v head) (some_is other call is)
carried_full d v head (carried.Call user (ask.File other)) call is = absurd cc
carried_full d v head (carried.Call user (ask.Location other)) call is = absurd cc
carried_full d v head (carried.Refusal code) call is = absurd cc
carried_full d v head (carried.Reply reply) call is = absurd cc
carried_full d v head carried.Notice call is = absurd cc

pub full_is : (d : Durable) (v : VolState) (head : Head) (r : Received) (call : VolCall) → call_in r ≡ Some call → full_then d v head r ≡ full_for d v head call
full_is d v head Nothing call is = absurd cc
full_is d v head (Unserved other) call is = absurd cc
full_is d v head (Unreadable other) call is = absurd cc
full_is d v head (Whole m) call is = carried_full d v head m.carried call is
