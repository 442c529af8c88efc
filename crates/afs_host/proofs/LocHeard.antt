-- Which bytes bring the location database down: those of a message alone.
use Rattle.std.specs.Prelude.{◌≡◌, ℕ, List, Bool, true, false, None, ℤ, if◌then◌else◌}
use Rattle.std.proofs.Common.{refl}
use Rattle.afs_num.specs.Nodes.{same_node}
use Rattle.afs_num.specs.declared.messages.Message.{Message}
use Rattle.afs_num.specs.declared.messages.Received.{Received}
use Rattle.afs_num.specs.declared.messages.Received.TheVariants.{Nothing, Unserved, Unreadable, Whole}
use Rattle.afs_num.specs.declared.types.Head.{Head}
use Rattle.afs_num.specs.declared.types.Node.TheVariants.{Loc}
use Rattle.spec_shape.specs.Tables.{is_among}
use Rattle.spec_model.specs.Calls.{admitted, Admitted}
use Rattle.spec_model.specs.Calls as pairs
use Rattle.spec_model.specs.CellRows.{all_calls}
use Rattle.spec_model.specs.Messages.{received, received_by}
use Rattle.spec_rows.specs.LocRow.{admits, drops, loc_decides, loc_serves, refuses, LocDecision, LocState}
use Rattle.spec_rows.specs.ServerRow.{bad_fields, not_served}
use Rattle.afs_locdb.specs.Handling.{loc_calls_served, loc_record_decided}
use Rattle.afs_server_parts.proofs.Standing.{among_all, stands_by}

-- ---- a call that isn't read makes no record

refused_none : (boot : ℕ) (head : Head) (a b : ℤ) (t : Bool) → loc_record_decided boot (if t then refuses head a else refuses head b) ≡ None
refused_none boot head a b true = refl
refused_none boot head a b false = refl

admitted_none : (boot : ℕ) (s : LocState) (head : Head) (r : Received) → (loc_record_decided boot (admits s head r pairs.runs) ≡ None) → (a : Admitted Message) → loc_record_decided boot (admits s head r a) ≡ None
admitted_none boot s head r none pairs.runs = none
admitted_none boot s head r none (pairs.kept reply) = refl
admitted_none boot s head r none pairs.in_progress = refl
admitted_none boot s head r none pairs.older = refl
admitted_none boot s head r none (pairs.wrong_boot number) = refl

called_none : (boot : ℕ) (d : LocDecision) → loc_record_decided boot d ≡ None → (t : Bool) → loc_record_decided boot (if t then d else drops) ≡ None
called_none boot d none true = none
called_none boot d none false = refl

-- a step that makes a record is that of a message
pub loc_message_of : (s : LocState) (boot : ℕ) (found : Received) → (loc_record_decided boot (loc_decides s found) ≡ None → ⊥) → (m : Message) × (found ≡ Whole m)
loc_message_of s boot Nothing some = absurd (some refl)
loc_message_of s boot (Unserved head) some =
    let runs = refused_none boot head not_served not_served (same_node head.from Loc) in
    let a = admitted s.lasting.boot s.seats head in
    absurd (some (called_none boot (admits s head (Unserved head) a) (admitted_none boot s head (Unserved head) runs a) (same_node head.to Loc)))
loc_message_of s boot (Unreadable head) some =
    let runs = refused_none boot head not_served (if loc_serves head.opcode then bad_fields else not_served) (same_node head.from Loc) in
    let a = admitted s.lasting.boot s.seats head in
    absurd (some (called_none boot (admits s head (Unreadable head) a) (admitted_none boot s head (Unreadable head) runs a) (same_node head.to Loc)))
loc_message_of s boot (Whole m) some = (m, refl)

-- ---- a message that it reads is one that stands there

-- it serves calls of the cell
cell_call : (n : ℕ) → is_among loc_calls_served n ≡ true → is_among all_calls n ≡ true
cell_call n among = among_all n loc_calls_served (refl, (refl, (refl, (refl, (refl, (refl, (refl, (refl, (refl, tt))))))))) among

pub loc_stands_there : (bytes : List ℕ) (m : Message) → received_by loc_calls_served bytes ≡ Whole m → received bytes ≡ Whole m
loc_stands_there bytes m is = stands_by loc_calls_served cell_call bytes m is
