-- What a volume server decides on a call: a stamp that it writes is the call's, for the call's family, and a dump that it sends on goes in the
-- call's family, too.
use Rattle.std.proofs.Common.{◌≡◌, ◌⊎◌, inl, inr, ℕ, ◌+◌, Bool, true, false, cond, List, [], ◌∷◌, ◌++◌, Option, Some, None, Result, Ok, Err, refl, sym, ap, subst, ◌∙◌, nat_eq, nat_lt}
use Rattle.std.specs.Prelude.{⊤, not, ◌||◌, length}
use Rattle.afs_num.specs.Nodes.{same_node}
use Rattle.afs_num.specs.declared.messages.Call.{Call}
use Rattle.afs_num.specs.declared.messages.Call.TheVariants as ask
use Rattle.afs_num.specs.declared.messages.Carried.{Carried}
use Rattle.afs_num.specs.declared.messages.Carried.TheVariants as carried
use Rattle.afs_num.specs.declared.messages.Message.{Message}
use Rattle.afs_num.specs.declared.messages.Received.TheVariants.{Whole}
use Rattle.afs_num.specs.declared.records.RecordBody.{RecordBody}
use Rattle.afs_num.specs.declared.types.Head.{Head}
use Rattle.afs_num.specs.declared.types.Node.{Node}
use Rattle.afs_num.specs.declared.volume_calls.VolCall.{VolCall}
use Rattle.afs_num.specs.declared.volume_calls.VolCall.TheVariants as calls
use Rattle.spec_ideal.specs.Operations.{is_last_count}
use Rattle.spec_ideal.specs.Tables.{get, Table}
use Rattle.spec_dumps.specs.Dumps.{dump_of}
use Rattle.spec_dumps.specs.Restores.{fed, restored_from}
use Rattle.spec_dumps.specs.Streams.{dump_bytes}
use Rattle.spec_fold.specs.Deeds.{has_volume, has_volume_room}
use Rattle.spec_model.specs.Calls.{admitted, Admitted}
use Rattle.spec_model.specs.Calls as pairs
use Rattle.spec_records.specs.Durable.{has_room, stamp_of, Durable, Stored}
use Rattle.spec_records.specs.Records.{most_dump}
use Rattle.spec_rows.specs.ServerRow.{not_served}
use Rattle.spec_volrows.specs.VolRow.{accepted, bad_dump, begins_on, clones_anew, dumps_piece, family_of, found, gives, in_its_volume, in_transaction, volume_held_code, is_held_by_other, is_there_already, no_room_left, part_given, refused, sends, refused_where, verdict, volume_of_family, whole_given, without_family, Dispatch, Plan, Verdict}
use Rattle.spec_volrows.specs.VolStates.{Transaction, VolState}
use Rattle.spec_volrows.specs.VolSteps.{deed_record, dispatches, drops, is_vol_caller, judged, not_written, raised_by, refuses_vol, repeats, replies_to, same_by, same_written, saves, tells_boot, vol_admits, vol_carried, vol_decides, vol_hears, written, Deed, VolDecision}

-- ---- what is sent on

module _ (family : ℕ) where
  abbrev Own : Verdict → Type 0
  Own (sends x) = x.family ≡ family
  Own (accepted p) = ⊤
  Own (refused code after) = ⊤

  unless_own : (b : Bool) (code : ℕ) (v : Verdict) → Own v → Own (refused_where b code v)
  unless_own true code v h = tt
  unless_own false code v h = h

  long_own : (b : Bool) (number : ℕ) (v : Verdict) → Own v → Own (cond b (refused no_room_left (gives number [])) v)
  long_own true number v h = tt
  long_own false number v h = h

  volume_own : (t : Transaction) (g : Transaction → Stored → Verdict) (o : Option Stored) → ((x : Stored) → Own (g t x)) → Own (in_its_volume t g o)
  volume_own t g None h = tt
  volume_own t g (Some x) h = h x

  in_own : (d : Durable) (o : Option Transaction) (g : Transaction → Stored → Verdict) → ((t : Transaction) (x : Stored) → Own (g t x)) → Own (in_transaction d o g)
  in_own d None g h = tt
  in_own d (Some t) g h = volume_own t g (get t.volume d.volumes) (h t)

  whole_own : (number id : ℕ) (bytes : List ℕ) (r : Result Stored ℕ) → Own (whole_given number id bytes r)
  whole_own number id bytes (Ok x) = tt
  whole_own number id bytes (Err e) = tt

  part_own : (number : ℕ) (bytes : List ℕ) (o : Option ℕ) → Own (part_given number bytes o)
  part_own number bytes None = tt
  part_own number bytes (Some e) = tt

  piece_own : (b : Bool) (number id : ℕ) (bytes : List ℕ) (r : Result Stored ℕ) → Own (cond b (part_given number bytes (fed bytes)) (whole_given number id bytes r))
  piece_own true number id bytes r = part_own number bytes (fed bytes)
  piece_own false number id bytes r = whole_own number id bytes r

  anew_own : (number : ℕ) (ts : Table Transaction) (id : ℕ) (t : Transaction) (x : Stored) (o : Option Stored) → Own (clones_anew number ts id t x o)
  anew_own number ts id t x None = tt
  anew_own number ts id t x (Some old) = unless_own (is_held_by_other number id ts) volume_held_code _ (unless_own (is_last_count x.volume.release) no_room_left _ tt)

  dumps_own : (offset : ℕ) (bytes : List ℕ) → Own (dumps_piece offset bytes)
  dumps_own offset bytes = unless_own (nat_lt (length bytes) offset) bad_dump _ tt

  on_own : (ts : Table Transaction) (last stamp id flags : ℕ) (o : Option Stored) → Own (begins_on ts last stamp family id flags o)
  on_own ts last stamp id flags None = tt
  on_own ts last stamp id flags (Some x) = unless_own (is_held_by_other 0 id ts) volume_held_code _ tt

verdict_own : (d : Durable) (ts : Table Transaction) (last stamp : ℕ) (call : VolCall) → Own (family_of call) (verdict d ts last stamp call)
verdict_own d ts last stamp (calls.CreateVolume family id name kind flags quota) = unless_own family (has_volume id d) is_there_already _ (unless_own family (not (has_volume_room d)) no_room_left _ tt)
verdict_own d ts last stamp (calls.DeleteVolume family number) = in_own family d (found family number ts) _ (λ t x. tt)
verdict_own d ts last stamp (calls.Restore family number offset final piece) =
    in_own family d (found family number ts) _ (λ t x. unless_own family (not (nat_eq offset (length t.given))) bad_dump _
    (long_own family (nat_lt most_dump (length (t.given ++ piece))) number _ (piece_own family (nat_eq final 0) number t.volume (t.given ++ piece) (restored_from t.volume x (t.given ++ piece)))))
verdict_own d ts last stamp (calls.Forward family number from server target) = in_own family d (found family number ts) _ (λ t x. refl)
verdict_own d ts last stamp (calls.EndTrans family number) = in_own family d (found family number ts) _ (λ t x. tt)
verdict_own d ts last stamp (calls.Clone family number id name kind) =
    unless_own family (has_volume id d) is_there_already _ (in_own family d (found family number ts) _ (λ t x. unless_own family (not (has_volume_room d) || is_last_count x.volume.release) no_room_left _ tt))
verdict_own d ts last stamp (calls.SetFlags family number flags) = in_own family d (found family number ts) _ (λ t x. tt)
verdict_own d ts last stamp (calls.GetFlags family number) = in_own family d (found family number ts) _ (λ t x. tt)
verdict_own d ts last stamp (calls.TransCreate family id flags) = on_own family ts last stamp id flags (volume_of_family family (get id d.volumes))
verdict_own d ts last stamp (calls.Dump family number from offset) = in_own family d (found family number ts) _ (λ t x. dumps_own family offset (dump_bytes (dump_of t.volume from x)))
verdict_own d ts last stamp (calls.SetForwarding family number server) = in_own family d (found family number ts) _ (λ t x. tt)
verdict_own d ts last stamp (calls.GetStatus family number) = in_own family d (found family number ts) _ (λ t x. tt)
verdict_own d ts last stamp (calls.ListVols family) = tt
verdict_own d ts last stamp (calls.ReClone family number id) = in_own family d (found family number ts) _ (λ t x. anew_own family number ts id t x (volume_of_family family (get id d.volumes)))

-- ---- what is decided

-- what is carried is a volume call in this family
pub record IsIn (x : Carried) (family : ℕ) : Type 0 where
  pub user : List ℕ
  pub call : VolCall
  pub asks : x ≡ carried.Call user (ask.Volume call)
  pub in_family : family_of call ≡ family

-- it writes no stamp, or the call's
abbrev pub Writes : Head → Carried → Deed → Type 0
Writes head x y = (y.stamp ≡ 0) ⊎ (IsIn x y.family × (y.stamp ≡ head.stamp))

abbrev pub Brings : Head → Carried → VolDecision → Type 0
Brings head x (saves h y) = Writes head x y
Brings head x (dispatches h y) = (h ≡ head) × IsIn x y.family
Brings head x (replies_to h reply ts last) = ⊤
Brings head x drops = ⊤
Brings head x (tells_boot h) = ⊤
Brings head x (repeats reply) = ⊤

module _ (d : Durable) (head : Head) (x : Carried) where
  either_brings : (b : Bool) (y z : VolDecision) → Brings head x y → Brings head x z → Brings head x (cond b y z)
  either_brings true y z h k = h
  either_brings false y z h k = k

  full_brings : (ts : Table Transaction) (last : ℕ) (v : Verdict) → Brings head x (not_written d.boot head ts last v)
  full_brings ts last (refused code after) = tt
  full_brings ts last (accepted p) = tt
  full_brings ts last (sends y) = tt

  written_brings : (y : Deed) (full : VolDecision) → Writes head x y → Brings head x full → Brings head x (written d head y full)
  written_brings y full h k = either_brings (has_room d (deed_record head y)) (saves head y) full h k

  module _ (user : List ℕ) (call : VolCall) (is : x ≡ carried.Call user (ask.Volume call)) where
    its_own : (family : ℕ) → family ≡ family_of call → IsIn x family
    its_own family same = record { user = user; call = call; asks = is; in_family = sym same }

    same_written_brings : (ts : Table Transaction) (last : ℕ) (p : Plan) (o : Option RecordBody) → Brings head x (same_written d head ts last p o)
    same_written_brings ts last p None = tt
    same_written_brings ts last p (Some body) = written_brings _ _ (inl refl) (full_brings ts last (accepted p))

    same_brings : (ts : Table Transaction) (last : ℕ) (v : Verdict) → Own (family_of call) v → Brings head x (same_by d head ts last v)
    same_brings ts last (refused code after) h = tt
    same_brings ts last (accepted p) h = same_written_brings ts last p p.body
    same_brings ts last (sends y) h = (refl, its_own y.family h)

    raised_brings : (live : Table Transaction) (last : ℕ) (v : Verdict) (full : VolDecision) → Own (family_of call) v → Brings head x full → Brings head x (raised_by d head (family_of call) live last v full)
    raised_brings live last (refused code after) full h k = written_brings _ full (inr (its_own (family_of call) refl, refl)) k
    raised_brings live last (accepted p) full h k = written_brings _ full (inr (its_own (family_of call) refl, refl)) k
    raised_brings live last (sends y) full h k = (refl, its_own y.family h)

    judged_brings : (v : VolState) → Brings head x (judged d v head call)
    judged_brings v =
        let family : ℕ = family_of call in
        let ts : Table Transaction = v.transactions in
        let last : ℕ = v.last_transaction in
        either_brings (nat_lt head.stamp (stamp_of family d)) _ _ tt
        (either_brings (nat_lt (stamp_of family d) head.stamp) _ _
        (raised_brings (without_family family ts) last (verdict d (without_family family ts) last head.stamp call) _ (verdict_own d (without_family family ts) last head.stamp call) (full_brings ts last (verdict d ts last head.stamp call)))
        (same_brings ts last (verdict d ts last head.stamp call) (verdict_own d ts last head.stamp call)))

carried_brings : (d : Durable) (v : VolState) (head : Head) (user : List ℕ) (call : Call) → Brings head (carried.Call user call) (vol_carried d v head (carried.Call user call))
carried_brings d v head user (ask.Volume call) = judged_brings d head (carried.Call user (ask.Volume call)) user call refl v
carried_brings d v head user (ask.File call) = tt
carried_brings d v head user (ask.Location call) = tt

admits_brings : (d : Durable) (v : VolState) (head : Head) (user : List ℕ) (call : Call) (a : Admitted Message) → Brings head (carried.Call user call) (vol_admits d v head (Whole (record { head = head; carried = carried.Call user call })) a)
admits_brings d v head user call pairs.runs = either_brings d head (carried.Call user call) (is_vol_caller head.from) _ (refuses_vol d v head not_served) (carried_brings d v head user call) tt
admits_brings d v head user call (pairs.kept reply) = tt
admits_brings d v head user call pairs.in_progress = tt
admits_brings d v head user call pairs.older = tt
admits_brings d v head user call (pairs.wrong_boot boot) = tt

hears_brings : (me : Node) (d : Durable) (v : VolState) (head : Head) (x : Carried) → Brings head x (vol_hears me d v head x)
hears_brings me d v head (carried.Call user call) = either_brings d head (carried.Call user call) (same_node head.to me) _ drops (admits_brings d v head user call (admitted d.boot v.seats head)) tt
hears_brings me d v head (carried.Refusal code) = tt
hears_brings me d v head (carried.Reply reply) = tt
hears_brings me d v head carried.Notice = tt

pub decides_brings : (me : Node) (d : Durable) (v : VolState) (m : Message) → Brings m.head m.carried (vol_decides me d v (Whole m))
decides_brings me d v m = hears_brings me d v m.head m.carried
