-- A volume server that doesn't serve a call answers as if it had read it; and a step of it that makes a record is that of a message.
use Rattle.std.specs.Prelude.{◌≡◌, ℕ, ℤ, List, Bool, true, false, None, if◌then◌else◌}
use Rattle.std.proofs.Common.{refl, ap, sym, subst}
use Rattle.afs_num.specs.Nodes.{same_node}
use Rattle.afs_num.specs.declared.messages.Call.{Call}
use Rattle.afs_num.specs.declared.messages.Call.TheVariants as ask
use Rattle.afs_num.specs.declared.messages.Carried.{Carried}
use Rattle.afs_num.specs.declared.messages.Carried.TheVariants as carried
use Rattle.afs_num.specs.declared.messages.Message.{Message}
use Rattle.afs_num.specs.declared.messages.Received.{Received}
use Rattle.afs_num.specs.declared.messages.Received.TheVariants.{Nothing, Unserved, Unreadable, Whole}
use Rattle.afs_num.specs.declared.types.Head.{Head}
use Rattle.afs_num.specs.declared.types.Node.{Node}
use Rattle.afs_num.specs.declared.volume_calls.VolCall.{VolCall}
use Rattle.afs_num.specs.declared.volume_calls.VolCall.TheVariants as calls
use Rattle.spec_shape.specs.Tables.{is_among}
use Rattle.spec_model.specs.Calls.{admitted, Admitted}
use Rattle.spec_model.specs.Calls as pairs
use Rattle.spec_model.specs.CellRows.{all_calls, call_number}
use Rattle.spec_model.specs.Messages.{is_unserved, is_whole, received, received_by, FoundBy}
use Rattle.spec_records.specs.Durable.{Durable}
use Rattle.spec_rows.specs.ServerRow.{bad_fields, not_served}
use Rattle.spec_rows.specs.States.{Backs, Lasting}
use Rattle.spec_volrows.specs.VolStates.{VolState}
use Rattle.spec_volrows.specs.VolSteps.{drops, is_vol_caller, is_volume_call, refuses_vol, vol_admits, vol_called, vol_carried, vol_decides, vol_turn, vol_turned, VolDecision}
use Rattle.afs_volserv.specs.Handling.{vol_calls_served, vol_record}
use Rattle.afs_server_parts.proofs.Standing.{among_all, stands_by}

-- ---- what it decides

unserved_volume : (d : Durable) (v : VolState) (head : Head) (user : List ℕ) (call : VolCall) → is_among vol_calls_served (call_number (ask.Volume call)) ≡ false → vol_carried d v head (carried.Call user (ask.Volume call)) ≡ refuses_vol d v head not_served
unserved_volume d v head user (calls.CreateVolume a b c e f g) x = absurd cc
unserved_volume d v head user (calls.DeleteVolume a b) x = absurd cc
unserved_volume d v head user (calls.Restore a b c e f) x = absurd cc
unserved_volume d v head user (calls.Forward a b c e f) x = absurd cc
unserved_volume d v head user (calls.EndTrans a b) x = absurd cc
unserved_volume d v head user (calls.Clone a b c e f) x = absurd cc
unserved_volume d v head user (calls.SetFlags a b c) x = absurd cc
unserved_volume d v head user (calls.GetFlags a b) x = absurd cc
unserved_volume d v head user (calls.TransCreate a b c) x = absurd cc
unserved_volume d v head user (calls.Dump a b c e) x = absurd cc
unserved_volume d v head user (calls.SetForwarding a b c) x = absurd cc
unserved_volume d v head user (calls.GetStatus a b) x = absurd cc
unserved_volume d v head user (calls.ListVols a) x = absurd cc
unserved_volume d v head user (calls.ReClone a b c) x = absurd cc

unserved_call : (d : Durable) (v : VolState) (head : Head) (user : List ℕ) (call : Call) → is_among vol_calls_served (call_number call) ≡ false → vol_carried d v head (carried.Call user call) ≡ refuses_vol d v head not_served
unserved_call d v head user (ask.Volume call) e = unserved_volume d v head user call e
unserved_call d v head user (ask.File call) e = refl
unserved_call d v head user (ask.Location call) e = refl

same_admitted : (d : Durable) (v : VolState) (head : Head) (user : List ℕ) (call : Call) → is_among vol_calls_served (call_number call) ≡ false → (a : Admitted Message) →
    vol_admits d v head (Whole (record { head = head; carried = carried.Call user call })) a ≡ vol_admits d v head (Unserved head) a
same_admitted d v head user call e pairs.runs = ap (λ (x : VolDecision). if is_vol_caller head.from then x else refuses_vol d v head not_served) (unserved_call d v head user call e)
same_admitted d v head user call e (pairs.kept reply) = refl
same_admitted d v head user call e pairs.in_progress = refl
same_admitted d v head user call e pairs.older = refl
same_admitted d v head user call e (pairs.wrong_boot boot) = refl

same_called : (me : Node) (d : Durable) (v : VolState) (head : Head) (user : List ℕ) (call : Call) → is_among vol_calls_served (call_number call) ≡ false →
    vol_called me d v head (Whole (record { head = head; carried = carried.Call user call })) ≡ vol_called me d v head (Unserved head)
same_called me d v head user call e = ap (λ (x : VolDecision). if same_node head.to me then x else drops) (same_admitted d v head user call e (admitted d.boot v.seats head))

-- What is decided is the same, over what the server finds and over the message, and so is what the row then does.
pub record SameTurn (me : Node) (d : Durable) (v : VolState) (m : Message) (found : Received) : Type 0 where
  pub decision : vol_decides me d v found ≡ vol_decides me d v (Whole m)
  pub turn : (l : Lasting) (b : Backs) → vol_turned me l v b (vol_decides me d v found) found ≡ vol_turned me l v b (vol_decides me d v (Whole m)) (Whole m)

same_head : (me : Node) (d : Durable) (v : VolState) (head : Head) (user : List ℕ) (call : Call) → is_among vol_calls_served (call_number call) ≡ false → SameTurn me d v (record { head = head; carried = carried.Call user call }) (Unserved head)
same_head me d v head user call e =
    let same = sym (same_called me d v head user call e) in
    record { decision = same; turn = λ l b. ap (vol_turn me l v b) same }

same_carried : (me : Node) (d : Durable) (v : VolState) (m : Message) (c : Carried) → m.carried ≡ c → SameTurn me d v (record { head = m.head; carried = c }) (Unserved m.head) → SameTurn me d v m (Unserved m.head)
same_carried me d v m c e h = subst (λ (x : Carried). SameTurn me d v (record { head = m.head; carried = x }) (Unserved m.head)) (sym e) h

pub same_turn : (me : Node) (d : Durable) (v : VolState) (m : Message) (found : Received) → FoundBy vol_calls_served m found → SameTurn me d v m found
same_turn me d v m found (is_whole e) = subst (SameTurn me d v m) (sym e) (record { decision = refl; turn = λ l b. refl })
same_turn me d v m found (is_unserved user call is among e) = subst (SameTurn me d v m) (sym e) (same_carried me d v m (carried.Call user call) is (same_head me d v m.head user call among))

-- ---- a call that isn't read makes no record

refused_none : (d : Durable) (v : VolState) (head : Head) (a b : ℤ) (t : Bool) → vol_record (if t then refuses_vol d v head a else refuses_vol d v head b) ≡ None
refused_none d v head a b true = refl
refused_none d v head a b false = refl

admitted_none : (d : Durable) (v : VolState) (head : Head) (r : Received) → (vol_record (vol_admits d v head r pairs.runs) ≡ None) → (a : Admitted Message) → vol_record (vol_admits d v head r a) ≡ None
admitted_none d v head r none pairs.runs = none
admitted_none d v head r none (pairs.kept reply) = refl
admitted_none d v head r none pairs.in_progress = refl
admitted_none d v head r none pairs.older = refl
admitted_none d v head r none (pairs.wrong_boot boot) = refl

called_none : (x : VolDecision) → vol_record x ≡ None → (t : Bool) → vol_record (if t then x else drops) ≡ None
called_none x none true = none
called_none x none false = refl

-- a step that makes one is that of a message
pub volume_message_of : (me : Node) (d : Durable) (v : VolState) (found : Received) → (vol_record (vol_decides me d v found) ≡ None → ⊥) → (m : Message) × (found ≡ Whole m)
volume_message_of me d v Nothing some = absurd (some refl)
volume_message_of me d v (Unserved head) some =
    let a = admitted d.boot v.seats head in
    absurd (some (called_none (vol_admits d v head (Unserved head) a) (admitted_none d v head (Unserved head) (refused_none d v head not_served not_served (is_vol_caller head.from)) a) (same_node head.to me)))
volume_message_of me d v (Unreadable head) some =
    let a = admitted d.boot v.seats head in
    let code : ℤ = if is_volume_call head.opcode then bad_fields else not_served in
    absurd (some (called_none (vol_admits d v head (Unreadable head) a) (admitted_none d v head (Unreadable head) (refused_none d v head code not_served (is_vol_caller head.from)) a) (same_node head.to me)))
volume_message_of me d v (Whole m) some = (m, refl)

-- ---- a message that it reads is one that stands there

volume_call : (n : ℕ) → is_among vol_calls_served n ≡ true → is_among all_calls n ≡ true
volume_call n among = among_all n vol_calls_served (refl, (refl, (refl, (refl, (refl, (refl, (refl, (refl, (refl, (refl, (refl, (refl, (refl, (refl, tt)))))))))))))) among

pub volume_stands : (bytes : List ℕ) (m : Message) → received_by vol_calls_served bytes ≡ Whole m → received bytes ≡ Whole m
volume_stands bytes m is = stands_by vol_calls_served volume_call bytes m is
