-- Which bytes bring a server down: those of a message alone.
use Rattle.std.specs.Prelude.{◌≡◌, ℕ, List, Bool, true, false, None, ℤ, if◌then◌else◌}
use Rattle.std.proofs.Common.{refl}
use Rattle.afs_num.specs.Nodes.{same_node}
use Rattle.afs_num.specs.declared.messages.Message.{Message}
use Rattle.afs_num.specs.declared.messages.Received.{Received}
use Rattle.afs_num.specs.declared.messages.Received.TheVariants.{Nothing, Unserved, Unreadable, Whole}
use Rattle.afs_num.specs.declared.types.Head.{Head}
use Rattle.afs_num.specs.declared.types.Node.{Node}
use Rattle.spec_shape.specs.Tables.{is_among}
use Rattle.spec_ideal.specs.Tables.{Table}
use Rattle.spec_model.specs.Calls.{admitted, Admitted}
use Rattle.spec_model.specs.Calls as pairs
use Rattle.spec_model.specs.CellRows.{all_calls}
use Rattle.spec_model.specs.Messages.{received, received_by}
use Rattle.spec_rows.specs.ServerRow.{code_of_unreadable, drops, is_client, not_served, refuses, Decision}
use Rattle.spec_rows.specs.States.{ServerState}
use Rattle.spec_volrows.specs.FileRow.{file_admits, file_decides}
use Rattle.afs_server.specs.Handling.{calls_served, record_decided}
use Rattle.afs_server_parts.proofs.Standing.{among_all, stands_by}

-- ---- a call that isn't read makes no record

refused_none : (boot clock : ℕ) (head : Head) (a b : ℤ) (t : Bool) → record_decided boot clock (if t then refuses head a else refuses head b) ≡ None
refused_none boot clock head a b true = refl
refused_none boot clock head a b false = refl

admitted_none : (boot clock : ℕ) (holds : Table ℕ) (s : ServerState) (now : ℕ) (head : Head) (r : Received) → (record_decided boot clock (file_admits holds s now head r pairs.runs) ≡ None) → (a : Admitted Message) → record_decided boot clock (file_admits holds s now head r a) ≡ None
admitted_none boot clock holds s now head r none pairs.runs = none
admitted_none boot clock holds s now head r none (pairs.kept reply) = refl
admitted_none boot clock holds s now head r none pairs.in_progress = refl
admitted_none boot clock holds s now head r none pairs.older = refl
admitted_none boot clock holds s now head r none (pairs.wrong_boot number) = refl

called_none : (boot clock : ℕ) (d : Decision) → record_decided boot clock d ≡ None → (t : Bool) → record_decided boot clock (if t then d else drops) ≡ None
called_none boot clock d none true = none
called_none boot clock d none false = refl

-- a step that makes a record is that of a message
pub message_of : (me : Node) (holds : Table ℕ) (s : ServerState) (boot clock : ℕ) (found : Received) → (record_decided boot clock (file_decides me holds s clock found) ≡ None → ⊥) → (m : Message) × (found ≡ Whole m)
message_of me holds s boot clock Nothing some = absurd (some refl)
message_of me holds s boot clock (Unserved head) some =
    let runs = refused_none boot clock head not_served not_served (is_client head.from) in
    let a = admitted s.lasting.boot s.seats head in
    absurd (some (called_none boot clock (file_admits holds s clock head (Unserved head) a) (admitted_none boot clock holds s clock head (Unserved head) runs a) (same_node head.to me)))
message_of me holds s boot clock (Unreadable head) some =
    let runs = refused_none boot clock head (code_of_unreadable head.opcode) not_served (is_client head.from) in
    let a = admitted s.lasting.boot s.seats head in
    absurd (some (called_none boot clock (file_admits holds s clock head (Unreadable head) a) (admitted_none boot clock holds s clock head (Unreadable head) runs a) (same_node head.to me)))
message_of me holds s boot clock (Whole m) some = (m, refl)

-- ---- a message that the server reads is one that stands there

-- it serves calls of the cell
cell_call : (n : ℕ) → is_among calls_served n ≡ true → is_among all_calls n ≡ true
cell_call n among =
    among_all n calls_served (refl, (refl, (refl, (refl, (refl, (refl, (refl, (refl, (refl, (refl, (refl, (refl, (refl, (refl, (refl, (refl, (refl, tt))))))))))))))))) among

pub stands_there : (bytes : List ℕ) (m : Message) → received_by calls_served bytes ≡ Whole m → received bytes ≡ Whole m
stands_there bytes m is = stands_by calls_served cell_call bytes m is
