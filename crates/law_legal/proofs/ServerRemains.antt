-- What a restart of a server finds holds the ideal volumes, however many servers a cell has.
use Rattle.spec_history.specs.declared.lines.Line.{Line}
use Rattle.spec_history.specs.declared.lines.Line.TheVariants as lines
use Rattle.spec_history.specs.declared.scripts.Script.{Script}
use Rattle.law_legal.proofs.BaseLaws.{at_put}
use Rattle.law_legal.proofs.ServerBoots.{disk_front}
use Rattle.law_legal.proofs.ClientCallsByTable.{only_held}
use Rattle.law_legal.proofs.VolumesAreIdeal.{Held, VolumesIn, one_place, volumes_moves, held_at, at_home}
use Rattle.law_legal.specs.Ideal.{IsAccepted, change_in, change_key, changed_under, first_key, IsPutAt, set_up_entry, volume_after}
use Rattle.law_legal.specs.Once.{past_of}
use Rattle.law_legal.specs.Past.{lines_of, sent_of}
use Rattle.law_legal.specs.ServerParts.{FallsAreKept}
use Rattle.law_legal.specs.Laws.{IsNoOthers, Survives, told_by_restart}
use Rattle.afs_num.specs.declared.types.Key.{Key}
use Rattle.afs_num.specs.declared.types.Node.{Node}
use Rattle.afs_num.specs.declared.types.Node.TheVariants.{Server}
use Rattle.law_legal.proofs.RunSteps.{server_stays}
use Rattle.spec_rows.specs.Steps.{Begun}
use Rattle.spec_rows.specs.Runs.{Cell, Entry, Fall, Moved, RunsTo, begun_by_disk, in_boot, unarmed, ServerHost}
use Rattle.spec_rows.specs.States.{volume_in, ServerState}
use Rattle.std.proofs.Common.{◌≡◌, ℕ, true, List, [], ◌∷◌, ◌++◌, Option, Some, refl, ap, ◌∙◌}

-- a fault changes nothing
fault_key : (ls : List Line) (n : Node) → change_key (ls ++ lines.Fault n ∷ []) ≡ change_key ls
fault_key [] n = refl
fault_key (l ∷ ls) n = ap (first_key (change_in l)) (fault_key ls n)

pub accepts : (s : Script) (id : ℕ) (q : Node) (ls : List Line) → IsPutAt id q s.volumes → IsAccepted s id q ls
accepts s id q [] h = h
accepts s id q (l ∷ ls) h = accepts s id q ls h

-- no other has it
abbrev IsAlone : Script → ℕ → ℕ → Type 0
IsAlone s i id = (q : Node) → IsPutAt id q s.volumes → q ≡ Server i

pub alone : (s : Script) (i id : ℕ) (ls : List Line) → IsNoOthers s i id ls → IsAlone s i id
alone s i id ls h q at = h q (accepts s id q ls at)

-- its record is found, and the disk fails behind it
found_ideal : (s : Script) (c : Cell) (past : List Entry) (i : ℕ) (fall : Fall) (id : ℕ) → Held s c past → (c.hosts i).down ≡ Some fall → IsAlone s i id
    → volume_in id (begun_by_disk (Server i) (c.hosts i).state true fall).state.lasting.volumes ≡ volume_after id (told_by_restart i (c.hosts i) fall ∷ past)
found_ideal s c past i fall id h down only =
    let f : Begun ServerState = begun_by_disk (Server i) (c.hosts i).state true fall in
    let m : Moved = server_stays c i f (lines.Fault (Server i)) in_boot in
    let V : VolumesIn s m.cell (m.entry ∷ past) = (volumes_moves s).midway c past i true fall h down in
    let x : ServerHost = record { state = f.state; down = Some in_boot; armed = unarmed } in
    let keys : change_key m.entry.lines ≡ change_key (f.before []) = ap change_key ((disk_front (Server i) (c.hosts i).state true fall).before (lines.Fault (Server i) ∷ [])) ∙ fault_key (f.before []) (Server i) in
    at_put i i (λ (y : ServerHost). volume_in id f.state.lasting.volumes ≡ volume_in id y.state.lasting.volumes) x c.hosts (λ same. refl) (λ other. absurd (other refl))
    ∙ (only_held s m.cell (m.entry ∷ past) i id V only ∙ ap (λ (k : Option Key). changed_under id k (sent_of past) (volume_after id past)) keys)

pub run_falls : FallsAreKept
run_falls s h end r i fall down id at = found_ideal s end (past_of (set_up_entry s ∷ []) h) i fall id (held_at s h end r) down (λ q there. one_place id q (Server i) s.volumes there (at_home s id (Server i) (lines_of (past_of (set_up_entry s ∷ []) h)) at))

-- what a server holds, and what its interrupted step may have left, of each volume that is no other's
pub survives : (s : Script) (h : List Entry) (end : Cell) (i : ℕ) → RunsTo h s end → Survives s i (end.hosts i) (past_of (set_up_entry s ∷ []) h)
survives s h end i r =
    let past : List Entry = past_of (set_up_entry s ∷ []) h in
    let H : Held s end past = held_at s h end r in
    record {
      kept = λ id no_. only_held s end past i id H.1 (alone s i id (lines_of past) no_);
      after = λ fall down id no_. found_ideal s end past i fall id H down (alone s i id (lines_of past) no_);
    }
