-- What a volume server decides on a call: of which header it is, which reply it gives, and that a call that runs is above its caller's last one.
use Rattle.std.proofs.Common.{◌≡◌, ℕ, Bool, true, false, cond, List, [], ◌++◌, Option, Some, None, Result, Ok, Err, nat_eq, nat_lt, refl}
use Rattle.std.specs.Prelude.{⊤, not, ◌||◌, length}
use Rattle.afs_num.specs.Nodes.{same_node}
use Rattle.afs_num.specs.declared.messages.Call.TheVariants as ask
use Rattle.afs_num.specs.declared.messages.Carried.{Carried}
use Rattle.afs_num.specs.declared.messages.Carried.TheVariants as carried
use Rattle.afs_num.specs.declared.messages.Message.{Message}
use Rattle.afs_num.specs.declared.messages.Received.TheVariants.{Whole}
use Rattle.afs_num.specs.declared.records.RecordBody.{RecordBody}
use Rattle.afs_num.specs.declared.types.Head.{Head}
use Rattle.afs_num.specs.declared.types.Node.{Node}
use Rattle.afs_num.specs.declared.volume_calls.VolCall.{VolCall}
use Rattle.afs_num.specs.declared.volume_calls.VolCall.TheVariants as calls
use Rattle.afs_num.specs.declared.volume_calls.VolReply.{VolReply}
use Rattle.spec_ideal.specs.Operations.{is_last_count}
use Rattle.spec_ideal.specs.Tables.{get, Table}
use Rattle.spec_model.specs.Calls.{admitted, call_seat, Admitted}
use Rattle.spec_model.specs.Calls as pairs
use Rattle.spec_dumps.specs.Restores.{fed, restored_from}
use Rattle.spec_fold.specs.Deeds.{has_volume, has_volume_room}
use Rattle.spec_records.specs.Durable.{has_room, stamp_of, Durable, Stored}
use Rattle.spec_records.specs.Records.{most_dump}
use Rattle.spec_rows.specs.ServerRow.{reply_head}
use Rattle.spec_rows.specs.States.{Seat}
use Rattle.spec_volrows.specs.VolRow.{accepted, bad_dump, begins_on, clones_anew, dumps_piece, family_of, found, gives, in_its_volume, in_transaction, volume_held_code, is_held_by_other, is_there_already, no_room_left, part_given, refused, sends, refused_where, verdict, volume_of_family, whole_given, without_family, Plan, Verdict}
use Rattle.spec_volrows.specs.VolStates.{Transaction, VolState}
use Rattle.spec_volrows.specs.VolSteps.{deed_record, dispatches, drops, is_vol_caller, judged, not_written, raised_by, repeats, replies_to, same_by, same_written, saves, tells_boot, vol_admits, vol_carried, vol_decides, vol_hears, written, Deed, VolDecision}
use Rattle.law_legal.proofs.BaseLaws.{runs_admitted, same_node-true, Above}
use Rattle.law_keys.specs.Replied.{tells_change, vol_tells_change}

-- ---- an accepted call of which nothing is written is told of no change

abbrev ToldBy : Option RecordBody → VolReply → Type 0
ToldBy None reply = vol_tells_change reply ≡ false
ToldBy (Some body) reply = ⊤

abbrev Tells : Verdict → Type 0
Tells (refused code after) = ⊤
Tells (accepted p) = ToldBy p.body p.reply
Tells (sends x) = ⊤

unless_tells : (b : Bool) (code : ℕ) (v : Verdict) → Tells v → Tells (refused_where b code v)
unless_tells true code v h = tt
unless_tells false code v h = h

long_tells : (b : Bool) (number : ℕ) (v : Verdict) → Tells v → Tells (cond b (refused no_room_left (gives number [])) v)
long_tells true number v h = tt
long_tells false number v h = h

volume_tells : (t : Transaction) (g : Transaction → Stored → Verdict) (o : Option Stored) → ((x : Stored) → Tells (g t x)) → Tells (in_its_volume t g o)
volume_tells t g None h = tt
volume_tells t g (Some x) h = h x

in_tells : (d : Durable) (o : Option Transaction) (g : Transaction → Stored → Verdict) → ((t : Transaction) (x : Stored) → Tells (g t x)) → Tells (in_transaction d o g)
in_tells d None g h = tt
in_tells d (Some t) g h = volume_tells t g (get t.volume d.volumes) (h t)

whole_tells : (number id : ℕ) (bytes : List ℕ) (r : Result Stored ℕ) → Tells (whole_given number id bytes r)
whole_tells number id bytes (Ok x) = tt
whole_tells number id bytes (Err e) = tt

part_tells : (number : ℕ) (bytes : List ℕ) (o : Option ℕ) → Tells (part_given number bytes o)
part_tells number bytes None = refl
part_tells number bytes (Some e) = tt

piece_tells : (b : Bool) (number id : ℕ) (bytes : List ℕ) (r : Result Stored ℕ) → Tells (cond b (part_given number bytes (fed bytes)) (whole_given number id bytes r))
piece_tells true number id bytes r = part_tells number bytes (fed bytes)
piece_tells false number id bytes r = whole_tells number id bytes r

on_tells : (ts : Table Transaction) (last stamp family id flags : ℕ) (o : Option Stored) → Tells (begins_on ts last stamp family id flags o)
on_tells ts last stamp family id flags None = tt
on_tells ts last stamp family id flags (Some x) = unless_tells (is_held_by_other 0 id ts) volume_held_code _ refl

anew_tells : (number : ℕ) (ts : Table Transaction) (id : ℕ) (t : Transaction) (x : Stored) (o : Option Stored) → Tells (clones_anew number ts id t x o)
anew_tells number ts id t x None = tt
anew_tells number ts id t x (Some old) = unless_tells (is_held_by_other number id ts) volume_held_code _ (unless_tells (is_last_count x.volume.release) no_room_left _ tt)

dumps_tells : (offset : ℕ) (bytes : List ℕ) → Tells (dumps_piece offset bytes)
dumps_tells offset bytes = unless_tells (nat_lt (length bytes) offset) bad_dump _ refl

verdict_tells : (d : Durable) (ts : Table Transaction) (last stamp : ℕ) (call : VolCall) → Tells (verdict d ts last stamp call)
verdict_tells d ts last stamp (calls.CreateVolume family id name kind flags quota) = unless_tells (has_volume id d) is_there_already _ (unless_tells (not (has_volume_room d)) no_room_left _ tt)
verdict_tells d ts last stamp (calls.DeleteVolume family number) = in_tells d (found family number ts) _ (λ t x. tt)
verdict_tells d ts last stamp (calls.Restore family number offset final piece) =
    in_tells d (found family number ts) _ (λ t x. unless_tells (not (nat_eq offset (length t.given))) bad_dump _ (long_tells (nat_lt most_dump (length (t.given ++ piece))) number _ (piece_tells (nat_eq final 0) number t.volume (t.given ++ piece) (restored_from t.volume x (t.given ++ piece)))))
verdict_tells d ts last stamp (calls.Forward family number from server target) = in_tells d (found family number ts) _ (λ t x. tt)
verdict_tells d ts last stamp (calls.EndTrans family number) = in_tells d (found family number ts) _ (λ t x. refl)
verdict_tells d ts last stamp (calls.Clone family number id name kind) =
    unless_tells (has_volume id d) is_there_already _ (in_tells d (found family number ts) _ (λ t x. unless_tells (not (has_volume_room d) || is_last_count x.volume.release) no_room_left _ tt))
verdict_tells d ts last stamp (calls.SetFlags family number flags) = in_tells d (found family number ts) _ (λ t x. tt)
verdict_tells d ts last stamp (calls.GetFlags family number) = in_tells d (found family number ts) _ (λ t x. refl)
verdict_tells d ts last stamp (calls.TransCreate family id flags) = on_tells ts last stamp family id flags (volume_of_family family (get id d.volumes))
verdict_tells d ts last stamp (calls.Dump family number from offset) = in_tells d (found family number ts) _ (λ t x. dumps_tells offset _)
verdict_tells d ts last stamp (calls.SetForwarding family number server) = in_tells d (found family number ts) _ (λ t x. tt)
verdict_tells d ts last stamp (calls.GetStatus family number) = in_tells d (found family number ts) _ (λ t x. refl)
verdict_tells d ts last stamp (calls.ListVols family) = refl
verdict_tells d ts last stamp (calls.ReClone family number id) = in_tells d (found family number ts) _ (λ t x. anew_tells number ts id t x (volume_of_family family (get id d.volumes)))

-- ---- of which header a decision is, and with which reply

abbrev pub OfHead : ℕ → Head → VolDecision → Type 0
OfHead boot head (replies_to h reply ts last) = (h ≡ head) × ((reply.head ≡ reply_head boot head) × (tells_change reply.carried ≡ false))
OfHead boot head (dispatches h x) = h ≡ head
OfHead boot head (saves h x) = (h ≡ head) × (x.reply.head ≡ reply_head boot head)
OfHead boot head drops = ⊤
OfHead boot head (tells_boot h) = ⊤
OfHead boot head (repeats reply) = ⊤

module _ (d : Durable) (head : Head) where
  either_of : (b : Bool) (x y : VolDecision) → OfHead d.boot head x → OfHead d.boot head y → OfHead d.boot head (cond b x y)
  either_of true x y h k = h
  either_of false x y h k = k

  full_of : (ts : Table Transaction) (last : ℕ) (v : Verdict) → OfHead d.boot head (not_written d.boot head ts last v)
  full_of ts last (refused code after) = (refl, (refl, refl))
  full_of ts last (accepted p) = (refl, (refl, refl))
  full_of ts last (sends x) = (refl, (refl, refl))

  written_of : (x : Deed) (full : VolDecision) → x.reply.head ≡ reply_head d.boot head → OfHead d.boot head full → OfHead d.boot head (written d head x full)
  written_of x full h k = either_of (has_room d (deed_record head x)) (saves head x) full (refl, h) k

  same_written_of : (ts : Table Transaction) (last : ℕ) (p : Plan) (o : Option RecordBody) → ToldBy o p.reply → OfHead d.boot head (same_written d head ts last p o)
  same_written_of ts last p None h = (refl, (refl, h))
  same_written_of ts last p (Some body) h = written_of _ _ refl (full_of ts last (accepted p))

  same_of : (ts : Table Transaction) (last : ℕ) (v : Verdict) → Tells v → OfHead d.boot head (same_by d head ts last v)
  same_of ts last (refused code after) h = (refl, (refl, refl))
  same_of ts last (accepted p) h = same_written_of ts last p p.body h
  same_of ts last (sends x) h = refl

  raised_of : (family : ℕ) (live : Table Transaction) (last : ℕ) (v : Verdict) (full : VolDecision) → OfHead d.boot head full → OfHead d.boot head (raised_by d head family live last v full)
  raised_of family live last (refused code after) full h = written_of _ full refl h
  raised_of family live last (accepted p) full h = written_of _ full refl h
  raised_of family live last (sends x) full h = refl

  judged_of : (v : VolState) (call : VolCall) → OfHead d.boot head (judged d v head call)
  judged_of v call =
      let family : ℕ = family_of call in
      let stored : ℕ = stamp_of family d in
      let ts : Table Transaction = v.transactions in
      let last : ℕ = v.last_transaction in
      either_of (nat_lt head.stamp stored) _ _ (refl, (refl, refl))
      (either_of (nat_lt stored head.stamp) _ _
      (raised_of family (without_family family ts) last (verdict d (without_family family ts) last head.stamp call) _ (full_of ts last (verdict d ts last head.stamp call)))
      (same_of ts last (verdict d ts last head.stamp call) (verdict_tells d ts last head.stamp call)))

-- ---- a call that runs

-- it is to this node, and to this boot of it; and above its caller's last one
abbrev pub MayRun : Node → ℕ → List Seat → Head → Type 0
MayRun me boot seats head = (head.to ≡ me) × ((head.boot ≡ boot) × Above (call_seat head.from seats) head.epoch head.number)

-- so is what runs
abbrev pub RunsBy : Node → ℕ → List Seat → Head → VolDecision → Type 0
RunsBy me boot seats head (replies_to h reply ts last) = MayRun me boot seats head
RunsBy me boot seats head (dispatches h x) = MayRun me boot seats head
RunsBy me boot seats head (saves h x) = MayRun me boot seats head
RunsBy me boot seats head drops = ⊤
RunsBy me boot seats head (tells_boot h) = ⊤
RunsBy me boot seats head (repeats reply) = ⊤

runs_all : (me : Node) (boot : ℕ) (seats : List Seat) (head : Head) (x : VolDecision) → MayRun me boot seats head → RunsBy me boot seats head x
runs_all me boot seats head (replies_to h reply ts last) k = k
runs_all me boot seats head (dispatches h x) k = k
runs_all me boot seats head (saves h x) k = k
runs_all me boot seats head drops k = tt
runs_all me boot seats head (tells_boot h) k = tt
runs_all me boot seats head (repeats reply) k = tt

pub record Decides (me : Node) (d : Durable) (v : VolState) (head : Head) (x : VolDecision) : Type 0 where
  pub of : OfHead d.boot head x
  pub runs : RunsBy me d.boot v.seats head x

carried_of : (d : Durable) (v : VolState) (head : Head) (c : Carried) → OfHead d.boot head (vol_carried d v head c)
carried_of d v head (carried.Call user (ask.Volume call)) = judged_of d head v call
carried_of d v head (carried.Call user (ask.File call)) = (refl, (refl, refl))
carried_of d v head (carried.Call user (ask.Location call)) = (refl, (refl, refl))
carried_of d v head (carried.Refusal code) = tt
carried_of d v head (carried.Reply reply) = tt
carried_of d v head carried.Notice = tt

admits_decides : (me : Node) (d : Durable) (v : VolState) (head : Head) (c : Carried) (a : Admitted Message) → head.to ≡ me → admitted d.boot v.seats head ≡ a → Decides me d v head (vol_admits d v head (Whole (record { head = head; carried = c })) a)
admits_decides me d v head c pairs.runs to is =
    let k = runs_admitted d.boot v.seats head is in
    record {
      of = either_of d head (is_vol_caller head.from) _ _ (carried_of d v head c) (refl, (refl, refl));
      runs = runs_all me d.boot v.seats head _ (to, (k.0, k.1));
    }
admits_decides me d v head c (pairs.kept reply) to is = record { of = tt; runs = tt }
admits_decides me d v head c pairs.in_progress to is = record { of = tt; runs = tt }
admits_decides me d v head c pairs.older to is = record { of = tt; runs = tt }
admits_decides me d v head c (pairs.wrong_boot boot) to is = record { of = tt; runs = tt }

called_by : (b : Bool) (me : Node) (d : Durable) (v : VolState) (head : Head) (c : Carried) → same_node head.to me ≡ b → Decides me d v head (cond b (vol_admits d v head (Whole (record { head = head; carried = c })) (admitted d.boot v.seats head)) drops)
called_by true me d v head c e = admits_decides me d v head c (admitted d.boot v.seats head) (same_node-true head.to me e) refl
called_by false me d v head c e = record { of = tt; runs = tt }

hears_decides : (me : Node) (d : Durable) (v : VolState) (head : Head) (c : Carried) → Decides me d v head (vol_hears me d v head c)
hears_decides me d v head (carried.Call user call) = called_by (same_node head.to me) me d v head (carried.Call user call) refl
hears_decides me d v head (carried.Refusal code) = record { of = tt; runs = tt }
hears_decides me d v head (carried.Reply reply) = record { of = tt; runs = tt }
hears_decides me d v head carried.Notice = record { of = tt; runs = tt }

pub vol_decides_so : (me : Node) (d : Durable) (v : VolState) (m : Message) → Decides me d v m.head (vol_decides me d v (Whole m))
vol_decides_so me d v m = hears_decides me d v m.head m.carried
