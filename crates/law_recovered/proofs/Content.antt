-- What a volume server tells: a list has the volumes of the family that it has, and its stamp is stored by then; and where it tells that a volume is
-- deleted, or that its flags are set, it writes that.
use Rattle.std.proofs.Common.{◌≡◌, ◌≤◌, ◌<◌, ℕ, ◌+◌, ℤ, Bool, true, false, cond, List, [], ◌∷◌, ◌++◌, Option, Some, None, Result, Ok, Err, refl, sym, ap, subst, ◌∙◌, arith, eqb-true, eq-eqb, nat_eq, nat_lt}
use Rattle.std.specs.Prelude.{⊤, not, ◌||◌, length}
use Rattle.std.proofs.lemmas.Bool.Decides.{nat_tests}
use Rattle.afs_num.specs.Nodes.{same_node}
use Rattle.afs_num.specs.declared.messages.Call.{Call}
use Rattle.afs_num.specs.declared.messages.Call.TheVariants as ask
use Rattle.afs_num.specs.declared.messages.Carried.{Carried}
use Rattle.afs_num.specs.declared.messages.Carried.TheVariants as carried
use Rattle.afs_num.specs.declared.messages.Message.{Message}
use Rattle.afs_num.specs.declared.messages.Received.TheVariants.{Whole}
use Rattle.afs_num.specs.declared.messages.Reply.TheVariants as tell
use Rattle.afs_num.specs.declared.records.RecordBody.{RecordBody}
use Rattle.afs_num.specs.declared.records.RecordBody.TheVariants as bodies
use Rattle.afs_num.specs.declared.volume_calls.ListedVolume.{ListedVolume}
use Rattle.afs_num.specs.declared.types.Head.{Head}
use Rattle.afs_num.specs.declared.types.Node.{Node}
use Rattle.afs_num.specs.declared.volume_calls.VolCall.{VolCall}
use Rattle.afs_num.specs.declared.volume_calls.VolCall.TheVariants as calls
use Rattle.afs_num.specs.declared.volume_calls.VolReply.{VolReply}
use Rattle.afs_num.specs.declared.volume_calls.VolReply.TheVariants as replies
use Rattle.spec_ideal.specs.Operations.{is_last_count}
use Rattle.spec_ideal.specs.Tables.{get, set, AscendsFrom, Table}
use Rattle.spec_ideal.proofs.Tables.{get_below, get_set}
use Rattle.spec_dumps.specs.Dumps.{dump_of}
use Rattle.spec_dumps.specs.Restores.{fed, restored_from}
use Rattle.spec_dumps.specs.Streams.{dump_bytes}
use Rattle.spec_fold.specs.Deeds.{has_volume, has_volume_room}
use Rattle.spec_model.specs.Calls.{admitted, Admitted}
use Rattle.spec_model.specs.Calls as pairs
use Rattle.spec_records.specs.Durable.{has_room, stamp_of, Durable, Stored}
use Rattle.spec_records.specs.Records.{most_dump}
use Rattle.spec_rows.specs.ServerRow.{not_served}
use Rattle.spec_volrows.specs.VolRow.{accepted, bad_dump, begins_on, list_of, busy_or_offline, clones_anew, dumps_piece, family_of, found, gives, in_its_volume, in_transaction, volume_held_code, is_held_by_other, is_there_already, last_after, no_room_left, part_given, refused, sends, transactions_after, refused_where, verdict, volume_of_family, whole_given, without_family, After, Plan, Verdict}
use Rattle.spec_volrows.specs.VolStates.{Transaction, VolState}
use Rattle.spec_volrows.specs.VolSteps.{deed_record, dispatches, drops, is_vol_caller, judged, not_written, or_stamp, raised_by, refuses_vol, repeats, replies_to, same_by, same_written, saves, tells_boot, vol_admits, vol_carried, vol_decides, vol_hears, vol_reply, written, Deed, VolDecision}
use Rattle.law_transactions.specs.Begun.{AsksFor}

-- a list has what there is, and nothing is written for it; and where a volume is deleted, or its flags are set, that is written
pub record IsList (d : Durable) (call : VolCall) (ls : List ListedVolume) : Type 0 where
  pub family : ℕ
  pub is : call ≡ calls.ListVols family
  pub has : ls ≡ list_of family d

pub record IsDeletion (call : VolCall) (body : RecordBody) : Type 0 where
  pub family : ℕ
  pub number : ℕ
  pub id : ℕ
  pub is : call ≡ calls.DeleteVolume family number
  pub writes : body ≡ bodies.Delete id

pub record IsFlagging (call : VolCall) (body : RecordBody) : Type 0 where
  pub family : ℕ
  pub number : ℕ
  pub id : ℕ
  pub flags : ℕ
  pub is : call ≡ calls.SetFlags family number flags
  pub writes : body ≡ bodies.Flags id flags

abbrev OptionFlags : VolCall → Option RecordBody → Type 0
OptionFlags call None = ⊥
OptionFlags call (Some body) = IsFlagging call body

abbrev OptionDeletes : VolCall → Option RecordBody → Type 0
OptionDeletes call None = ⊥
OptionDeletes call (Some body) = IsDeletion call body

abbrev PlanTells : Durable → VolCall → VolReply → Option RecordBody → Type 0
PlanTells d call (replies.ListVols ls) body = IsList d call ls × (body ≡ None)
PlanTells d call replies.DeleteVolume body = OptionDeletes call body
PlanTells d call replies.SetFlags body = OptionFlags call body
PlanTells d call reply body = ⊤

module _ (d : Durable) (call : VolCall) where
  abbrev Told : Verdict → Type 0
  Told (accepted p) = PlanTells d call p.reply p.body
  Told (refused code after) = ⊤
  Told (sends x) = ⊤

  unless_told : (b : Bool) (code : ℕ) (v : Verdict) → Told v → Told (refused_where b code v)
  unless_told true code v h = tt
  unless_told false code v h = h

  long_told : (b : Bool) (number : ℕ) (v : Verdict) → Told v → Told (cond b (refused no_room_left (gives number [])) v)
  long_told true number v h = tt
  long_told false number v h = h

  volume_told : (t : Transaction) (g : Transaction → Stored → Verdict) (o : Option Stored) → ((x : Stored) → Told (g t x)) → Told (in_its_volume t g o)
  volume_told t g None h = tt
  volume_told t g (Some x) h = h x

  in_told : (o : Option Transaction) (g : Transaction → Stored → Verdict) → ((t : Transaction) (x : Stored) → Told (g t x)) → Told (in_transaction d o g)
  in_told None g h = tt
  in_told (Some t) g h = volume_told t g (get t.volume d.volumes) (h t)

  whole_told : (number id : ℕ) (bytes : List ℕ) (r : Result Stored ℕ) → Told (whole_given number id bytes r)
  whole_told number id bytes (Ok x) = tt
  whole_told number id bytes (Err e) = tt

  part_told : (number : ℕ) (bytes : List ℕ) (o : Option ℕ) → Told (part_given number bytes o)
  part_told number bytes None = tt
  part_told number bytes (Some e) = tt

  piece_told : (b : Bool) (number id : ℕ) (bytes : List ℕ) (r : Result Stored ℕ) → Told (cond b (part_given number bytes (fed bytes)) (whole_given number id bytes r))
  piece_told true number id bytes r = part_told number bytes (fed bytes)
  piece_told false number id bytes r = whole_told number id bytes r

  anew_told : (number : ℕ) (ts : Table Transaction) (id : ℕ) (t : Transaction) (x : Stored) (o : Option Stored) → Told (clones_anew number ts id t x o)
  anew_told number ts id t x None = tt
  anew_told number ts id t x (Some old) = unless_told (is_held_by_other number id ts) volume_held_code _ (unless_told (is_last_count x.volume.release) no_room_left _ tt)

  dumps_told : (offset : ℕ) (bytes : List ℕ) → Told (dumps_piece offset bytes)
  dumps_told offset bytes = unless_told (nat_lt (length bytes) offset) bad_dump _ tt

on_told : (d : Durable) (ts : Table Transaction) (last stamp family id flags : ℕ) (o : Option Stored) → Told d (calls.TransCreate family id flags) (begins_on ts last stamp family id flags o)
on_told d ts last stamp family id flags None = tt
on_told d ts last stamp family id flags (Some x) = unless_told d (calls.TransCreate family id flags) (is_held_by_other 0 id ts) volume_held_code _ tt

verdict_told : (d : Durable) (ts : Table Transaction) (last stamp : ℕ) (call : VolCall) → Told d call (verdict d ts last stamp call)
verdict_told d ts last stamp (calls.CreateVolume family id name kind flags quota) =
    let call : VolCall = calls.CreateVolume family id name kind flags quota in
    unless_told d call (has_volume id d) is_there_already _ (unless_told d call (not (has_volume_room d)) no_room_left _ tt)
verdict_told d ts last stamp (calls.DeleteVolume family number) =
    in_told d _ (found family number ts) _ (λ t x. record { family = family; number = number; id = t.volume; is = refl; writes = refl })
verdict_told d ts last stamp (calls.Restore family number offset final piece) =
    let call : VolCall = calls.Restore family number offset final piece in
    in_told d call (found family number ts) _ (λ t x. unless_told d call (not (nat_eq offset (length t.given))) bad_dump _
    (long_told d call (nat_lt most_dump (length (t.given ++ piece))) number _ (piece_told d call (nat_eq final 0) number t.volume (t.given ++ piece) (restored_from t.volume x (t.given ++ piece)))))
verdict_told d ts last stamp (calls.Forward family number from server target) = in_told d _ (found family number ts) _ (λ t x. tt)
verdict_told d ts last stamp (calls.EndTrans family number) = in_told d _ (found family number ts) _ (λ t x. tt)
verdict_told d ts last stamp (calls.Clone family number id name kind) =
    let call : VolCall = calls.Clone family number id name kind in
    unless_told d call (has_volume id d) is_there_already _ (in_told d call (found family number ts) _ (λ t x. unless_told d call (not (has_volume_room d) || is_last_count x.volume.release) no_room_left _ tt))
verdict_told d ts last stamp (calls.SetFlags family number flags) =
    in_told d _ (found family number ts) _ (λ t x. record { family = family; number = number; id = t.volume; flags = flags; is = refl; writes = refl })
verdict_told d ts last stamp (calls.GetFlags family number) = in_told d _ (found family number ts) _ (λ t x. tt)
verdict_told d ts last stamp (calls.TransCreate family id flags) = on_told d ts last stamp family id flags (volume_of_family family (get id d.volumes))
verdict_told d ts last stamp (calls.Dump family number from offset) =
    let call : VolCall = calls.Dump family number from offset in in_told d call (found family number ts) _ (λ t x. dumps_told d call offset (dump_bytes (dump_of t.volume from x)))
verdict_told d ts last stamp (calls.SetForwarding family number server) = in_told d _ (found family number ts) _ (λ t x. tt)
verdict_told d ts last stamp (calls.GetStatus family number) = in_told d _ (found family number ts) _ (λ t x. tt)
verdict_told d ts last stamp (calls.ListVols family) = (record { family = family; is = refl; has = refl }, refl)
verdict_told d ts last stamp (calls.ReClone family number id) =
    let call : VolCall = calls.ReClone family number id in in_told d call (found family number ts) _ (λ t x. anew_told d call number ts id t x (volume_of_family family (get id d.volumes)))

-- ---- behind a decision

-- the stamp that is stored by it
abbrev pub IfTells : Durable → VolCall → RecordBody → Type 0 → Carried → Type 0
IfTells d call body A (carried.Reply (tell.Volume (replies.ListVols ls))) = (IsList d call ls × (body ≡ bodies.Stamp)) × A
IfTells d call body A (carried.Reply (tell.Volume replies.DeleteVolume)) = IsDeletion call body
IfTells d call body A (carried.Reply (tell.Volume replies.SetFlags)) = IsFlagging call body
IfTells d call body A x = ⊤

module _ (d : Durable) (head : Head) (call : VolCall) where
  -- under a raised stamp, or under the stored one
  abbrev pub Content : VolDecision → Type 0
  Content (replies_to h reply ts last) = IfTells d call bodies.Stamp (head.stamp ≤ stamp_of (family_of call) d) reply.carried
  Content (saves h y) = IfTells d call y.body ((y.family ≡ family_of call) × ((y.stamp ≡ head.stamp) × (nat_eq head.stamp 0 ≡ false))) y.reply.carried
  Content drops = ⊤
  Content (tells_boot h) = ⊤
  Content (repeats reply) = ⊤
  Content (dispatches h y) = ⊤

  either_content : (b : Bool) (y z : VolDecision) → Content y → Content z → Content (cond b y z)
  either_content true y z h k = h
  either_content false y z h k = k

  full_content : (ts : Table Transaction) (last : ℕ) (v : Verdict) → Content (not_written d.boot head ts last v)
  full_content ts last (refused code after) = tt
  full_content ts last (accepted p) = tt
  full_content ts last (sends y) = tt

  written_content : (y : Deed) (full : VolDecision) → Content (saves head y) → Content full → Content (written d head y full)
  written_content y full h k = either_content (has_room d (deed_record head y)) (saves head y) full h k

  none_tells : (reply : VolReply) → PlanTells d call reply None → head.stamp ≤ stamp_of (family_of call) d → IfTells d call bodies.Stamp (head.stamp ≤ stamp_of (family_of call) d) (carried.Reply (tell.Volume reply))
  none_tells (replies.ListVols ls) h low = ((h.0, refl), low)
  none_tells replies.DeleteVolume h low = absurd h
  none_tells replies.SetFlags h low = absurd h
  none_tells reply h low = tt

  some_tells : (A : Type 0) (reply : VolReply) (body : RecordBody) → PlanTells d call reply (Some body) → IfTells d call body A (carried.Reply (tell.Volume reply))
  some_tells A (replies.ListVols ls) body h = let no : Some body ≡ None = h.1 in absurd cc
  some_tells A replies.DeleteVolume body h = h
  some_tells A replies.SetFlags body h = h
  some_tells A reply body h = tt

  raised_tells : (A : Type 0) (reply : VolReply) (o : Option RecordBody) → A → PlanTells d call reply o → IfTells d call (or_stamp o) A (carried.Reply (tell.Volume reply))
  raised_tells A (replies.ListVols ls) o a h = ((h.0, ap or_stamp h.1), a)
  raised_tells A replies.DeleteVolume None a h = absurd h
  raised_tells A replies.DeleteVolume (Some body) a h = h
  raised_tells A replies.SetFlags None a h = absurd h
  raised_tells A replies.SetFlags (Some body) a h = h
  raised_tells A reply o a h = tt

  same_written_content : (ts : Table Transaction) (last : ℕ) (p : Plan) (o : Option RecordBody) → PlanTells d call p.reply o → head.stamp ≤ stamp_of (family_of call) d → Content (same_written d head ts last p o)
  same_written_content ts last p None h low = none_tells p.reply h low
  same_written_content ts last p (Some body) h low = written_content _ _ (some_tells _ p.reply body h) (full_content ts last (accepted p))

  same_content : (ts : Table Transaction) (last : ℕ) (v : Verdict) → Told d call v → head.stamp ≤ stamp_of (family_of call) d → Content (same_by d head ts last v)
  same_content ts last (refused code after) h low = tt
  same_content ts last (accepted p) h low = same_written_content ts last p p.body h low
  same_content ts last (sends y) h low = tt

  raised_content : (live : Table Transaction) (last : ℕ) (v : Verdict) (full : VolDecision) → nat_eq head.stamp 0 ≡ false → Told d call v → Content full → Content (raised_by d head (family_of call) live last v full)
  raised_content live last (refused code after) full some h k = written_content _ full tt k
  raised_content live last (accepted p) full some h k = written_content _ full (raised_tells _ p.reply p.body (refl, (refl, some)) h) k
  raised_content live last (sends y) full some h k = tt

  three : (a b : Bool) (x y z : VolDecision) → Content x → (b ≡ true → Content y) → (b ≡ false → Content z) → Content (cond a x (cond b y z))
  three true b x y z h k l = h
  three false true x y z h k l = k refl
  three false false x y z h k l = l refl

  some_stamp : (a b : ℕ) → nat_lt a b ≡ true → nat_eq b 0 ≡ false
  some_stamp a b e = grind (arith, nat_tests, e)

  not_below : (a b : ℕ) → nat_lt a b ≡ false → b ≤ a
  not_below a b e = grind (arith, nat_tests, e)

  judged_content : (v : VolState) → Content (judged d v head call)
  judged_content v =
      let f : ℕ = family_of call in
      let ts : Table Transaction = v.transactions in
      let last : ℕ = v.last_transaction in
      three (nat_lt head.stamp (stamp_of f d)) (nat_lt (stamp_of f d) head.stamp) _ _ _ tt
      (λ above. raised_content (without_family f ts) last (verdict d (without_family f ts) last head.stamp call) _ (some_stamp (stamp_of f d) head.stamp above) (verdict_told d (without_family f ts) last head.stamp call) (full_content ts last (verdict d ts last head.stamp call)))
      (λ e. same_content ts last (verdict d ts last head.stamp call) (verdict_told d ts last head.stamp call) (not_below (stamp_of f d) head.stamp e))

  admits_content : (user : List ℕ) (v : VolState) (a : Admitted Message) → Content (vol_admits d v head (Whole (record { head = head; carried = carried.Call user (ask.Volume call) })) a)
  admits_content user v pairs.runs = either_content (is_vol_caller head.from) _ (refuses_vol d v head not_served) (judged_content v) tt
  admits_content user v (pairs.kept reply) = tt
  admits_content user v pairs.in_progress = tt
  admits_content user v pairs.older = tt
  admits_content user v (pairs.wrong_boot boot) = tt

  hears_content : (me : Node) (user : List ℕ) (v : VolState) → Content (vol_hears me d v head (carried.Call user (ask.Volume call)))
  hears_content me user v = either_content (same_node head.to me) _ drops (admits_content user v (admitted d.boot v.seats head)) tt

-- of a volume call, by its message
pub decides_content : (me : Node) (d : Durable) (v : VolState) (m : Message) (user : List ℕ) (call : VolCall) → m.carried ≡ carried.Call user (ask.Volume call) → Content d m.head call (vol_decides me d v (Whole m))
decides_content me d v m user call is = subst (λ (x : Carried). Content d m.head call (vol_hears me d v m.head x)) (sym is) (hears_content d m.head call me user v)
