-- A volume server that tells the number of a transaction has just begun it, on the volume that the call asked for.
use Rattle.std.proofs.Common.{◌≡◌, ◌≤◌, ◌<◌, ℕ, ◌+◌, ℤ, Bool, true, false, cond, List, [], ◌∷◌, ◌++◌, Option, Some, None, Result, Ok, Err, refl, sym, ap, subst, ◌∙◌, arith, eqb-true, eq-eqb, nat_eq, nat_lt}
use Rattle.std.specs.Prelude.{⊤, not, ◌||◌, length}
use Rattle.std.specs.List.{AllByRecursion}
use Rattle.afs_num.specs.Nodes.{same_node}
use Rattle.afs_num.specs.declared.messages.Call.{Call}
use Rattle.afs_num.specs.declared.messages.Call.TheVariants as ask
use Rattle.afs_num.specs.declared.messages.Carried.{Carried}
use Rattle.afs_num.specs.declared.messages.Carried.TheVariants as carried
use Rattle.afs_num.specs.declared.messages.Message.{Message}
use Rattle.afs_num.specs.declared.messages.Received.TheVariants.{Whole}
use Rattle.afs_num.specs.declared.messages.Reply.TheVariants as tell
use Rattle.afs_num.specs.declared.records.RecordBody.{RecordBody}
use Rattle.afs_num.specs.declared.types.Head.{Head}
use Rattle.afs_num.specs.declared.types.Node.{Node}
use Rattle.afs_num.specs.declared.volume_calls.VolCall.{VolCall}
use Rattle.afs_num.specs.declared.volume_calls.VolCall.TheVariants as calls
use Rattle.afs_num.specs.declared.volume_calls.VolReply.{VolReply}
use Rattle.afs_num.specs.declared.volume_calls.VolReply.TheVariants as replies
use Rattle.spec_ideal.specs.Operations.{is_last_count}
use Rattle.spec_ideal.specs.Tables.{get, set, AscendsFrom, Table}
use Rattle.spec_ideal.proofs.Tables.{get_below, get_set}
use Rattle.spec_dumps.specs.Dumps.{dump_of}
use Rattle.spec_dumps.specs.Restores.{fed, restored_from}
use Rattle.spec_dumps.specs.Streams.{dump_bytes}
use Rattle.spec_fold.specs.Deeds.{has_volume, has_volume_room}
use Rattle.spec_model.specs.Calls.{admitted, Admitted}
use Rattle.spec_model.specs.Calls as pairs
use Rattle.spec_records.specs.Durable.{has_room, stamp_of, Durable, Stored}
use Rattle.spec_records.specs.Records.{most_dump}
use Rattle.spec_rows.specs.ServerRow.{not_served}
use Rattle.spec_volrows.specs.VolRow.{accepted, bad_dump, begins, begins_on, busy_or_offline, clones_anew, dumps_piece, family_of, found, gives, in_its_volume, in_transaction, volume_held_code, is_held_by_other, is_there_already, last_after, no_room_left, part_given, refused, sends, transactions_after, refused_where, verdict, volume_of_family, whole_given, without_family, After, Plan, Verdict}
use Rattle.spec_volrows.specs.VolStates.{Transaction, VolState}
use Rattle.spec_volrows.specs.VolSteps.{deed_record, dispatches, drops, is_vol_caller, judged, not_written, or_stamp, raised_by, refuses_vol, repeats, replies_to, same_by, same_written, saves, tells_boot, vol_admits, vol_carried, vol_decides, vol_hears, vol_reply, written, Deed, VolDecision}
use Rattle.law_transactions.specs.Begun.{AsksFor}

-- ---- what is told

-- the number of a transaction
abbrev pub IfTold : (ℕ → Type 0) → VolReply → Type 0
IfTold F (replies.TransCreate number) = F number
IfTold F (replies.CreateVolume number) = F number
IfTold F reply = ⊤

abbrev pub IfTells : (ℕ → Type 0) → Carried → Type 0
IfTells F (carried.Reply (tell.Volume reply)) = IfTold F reply
IfTells F x = ⊤

pub told_more : (F G : ℕ → Type 0) (reply : VolReply) → ((n : ℕ) → F n → G n) → IfTold F reply → IfTold G reply
told_more F G (replies.TransCreate number) more h = more number h
told_more F G (replies.CreateVolume number) more h = more number h
told_more F G reply more h = tt

-- it begins, on the volume that is asked for
record IsBegun (stamp : ℕ) (call : VolCall) (last : ℕ) (after : After) (number : ℕ) : Type 0 where
  volume : ℕ
  family : ℕ
  flags : ℕ
  new : number ≡ last + 1
  does : after ≡ begins volume family flags stamp
  asks : AsksFor volume family call

module _ (stamp : ℕ) (call : VolCall) (last : ℕ) where
  abbrev Told : Verdict → Type 0
  Told (accepted p) = IfTold (IsBegun stamp call last p.after) p.reply
  Told (refused code after) = ⊤
  Told (sends x) = ⊤

  unless_told : (b : Bool) (code : ℕ) (v : Verdict) → Told v → Told (refused_where b code v)
  unless_told true code v h = tt
  unless_told false code v h = h

  long_told : (b : Bool) (number : ℕ) (v : Verdict) → Told v → Told (cond b (refused no_room_left (gives number [])) v)
  long_told true number v h = tt
  long_told false number v h = h

  volume_told : (t : Transaction) (g : Transaction → Stored → Verdict) (o : Option Stored) → ((x : Stored) → Told (g t x)) → Told (in_its_volume t g o)
  volume_told t g None h = tt
  volume_told t g (Some x) h = h x

  in_told : (d : Durable) (o : Option Transaction) (g : Transaction → Stored → Verdict) → ((t : Transaction) (x : Stored) → Told (g t x)) → Told (in_transaction d o g)
  in_told d None g h = tt
  in_told d (Some t) g h = volume_told t g (get t.volume d.volumes) (h t)

  whole_told : (number id : ℕ) (bytes : List ℕ) (r : Result Stored ℕ) → Told (whole_given number id bytes r)
  whole_told number id bytes (Ok x) = tt
  whole_told number id bytes (Err e) = tt

  part_told : (number : ℕ) (bytes : List ℕ) (o : Option ℕ) → Told (part_given number bytes o)
  part_told number bytes None = tt
  part_told number bytes (Some e) = tt

  piece_told : (b : Bool) (number id : ℕ) (bytes : List ℕ) (r : Result Stored ℕ) → Told (cond b (part_given number bytes (fed bytes)) (whole_given number id bytes r))
  piece_told true number id bytes r = part_told number bytes (fed bytes)
  piece_told false number id bytes r = whole_told number id bytes r

  anew_told : (number : ℕ) (ts : Table Transaction) (id : ℕ) (t : Transaction) (x : Stored) (o : Option Stored) → Told (clones_anew number ts id t x o)
  anew_told number ts id t x None = tt
  anew_told number ts id t x (Some old) = unless_told (is_held_by_other number id ts) volume_held_code _ (unless_told (is_last_count x.volume.release) no_room_left _ tt)

  dumps_told : (offset : ℕ) (bytes : List ℕ) → Told (dumps_piece offset bytes)
  dumps_told offset bytes = unless_told (nat_lt (length bytes) offset) bad_dump _ tt

on_told : (ts : Table Transaction) (last stamp family id flags : ℕ) (o : Option Stored) → Told stamp (calls.TransCreate family id flags) last (begins_on ts last stamp family id flags o)
on_told ts last stamp family id flags None = tt
on_told ts last stamp family id flags (Some x) =
    unless_told stamp (calls.TransCreate family id flags) last (is_held_by_other 0 id ts) volume_held_code _ (record { volume = id; family = family; flags = busy_or_offline flags; new = refl; does = refl; asks = (refl, refl) })

verdict_told : (d : Durable) (ts : Table Transaction) (last stamp : ℕ) (call : VolCall) → Told stamp call last (verdict d ts last stamp call)
verdict_told d ts last stamp (calls.CreateVolume family id name kind flags quota) =
    let call : VolCall = calls.CreateVolume family id name kind flags quota in
    unless_told stamp call last (has_volume id d) is_there_already _ (unless_told stamp call last (not (has_volume_room d)) no_room_left _ (record { volume = id; family = family; flags = 1; new = refl; does = refl; asks = (refl, refl) }))
verdict_told d ts last stamp (calls.DeleteVolume family number) = in_told stamp _ last d (found family number ts) _ (λ t x. tt)
verdict_told d ts last stamp (calls.Restore family number offset final piece) =
    let call : VolCall = calls.Restore family number offset final piece in
    in_told stamp call last d (found family number ts) _ (λ t x. unless_told stamp call last (not (nat_eq offset (length t.given))) bad_dump _
    (long_told stamp call last (nat_lt most_dump (length (t.given ++ piece))) number _ (piece_told stamp call last (nat_eq final 0) number t.volume (t.given ++ piece) (restored_from t.volume x (t.given ++ piece)))))
verdict_told d ts last stamp (calls.Forward family number from server target) = in_told stamp _ last d (found family number ts) _ (λ t x. tt)
verdict_told d ts last stamp (calls.EndTrans family number) = in_told stamp _ last d (found family number ts) _ (λ t x. tt)
verdict_told d ts last stamp (calls.Clone family number id name kind) =
    let call : VolCall = calls.Clone family number id name kind in
    unless_told stamp call last (has_volume id d) is_there_already _ (in_told stamp call last d (found family number ts) _ (λ t x. unless_told stamp call last (not (has_volume_room d) || is_last_count x.volume.release) no_room_left _ tt))
verdict_told d ts last stamp (calls.SetFlags family number flags) = in_told stamp _ last d (found family number ts) _ (λ t x. tt)
verdict_told d ts last stamp (calls.GetFlags family number) = in_told stamp _ last d (found family number ts) _ (λ t x. tt)
verdict_told d ts last stamp (calls.TransCreate family id flags) = on_told ts last stamp family id flags (volume_of_family family (get id d.volumes))
verdict_told d ts last stamp (calls.Dump family number from offset) =
    let call : VolCall = calls.Dump family number from offset in in_told stamp call last d (found family number ts) _ (λ t x. dumps_told stamp call last offset (dump_bytes (dump_of t.volume from x)))
verdict_told d ts last stamp (calls.SetForwarding family number server) = in_told stamp _ last d (found family number ts) _ (λ t x. tt)
verdict_told d ts last stamp (calls.GetStatus family number) = in_told stamp _ last d (found family number ts) _ (λ t x. tt)
verdict_told d ts last stamp (calls.ListVols family) = tt
verdict_told d ts last stamp (calls.ReClone family number id) =
    let call : VolCall = calls.ReClone family number id in in_told stamp call last d (found family number ts) _ (λ t x. anew_told stamp call last number ts id t x (volume_of_family family (get id d.volumes)))

-- ---- behind a decision

-- This call asked for a transaction, and the one of this number, which is among these, is it.
pub record IsFresh (head : Head) (x : Carried) (last : ℕ) (ts : Table Transaction) (number : ℕ) : Type 0 where
  pub user : List ℕ
  pub call : VolCall
  pub volume : ℕ
  pub family : ℕ
  pub t : Transaction
  pub asks : x ≡ carried.Call user (ask.Volume call)
  pub begins : AsksFor volume family call
  pub there : get number ts ≡ Some t
  pub on : (t.volume ≡ volume) × ((t.family ≡ family) × (t.stamp ≡ head.stamp))
  pub low : number ≤ last

module _ (d : Durable) (head : Head) (x : Carried) where
  abbrev pub TellsFresh : VolDecision → Type 0
  TellsFresh (replies_to h reply ts last) = IfTells (IsFresh head x last ts) reply.carried
  TellsFresh (saves h y) = IfTells (IsFresh head x y.last y.transactions) y.reply.carried
  TellsFresh drops = ⊤
  TellsFresh (tells_boot h) = ⊤
  TellsFresh (repeats reply) = ⊤
  TellsFresh (dispatches h y) = ⊤

  either_fresh : (b : Bool) (y z : VolDecision) → TellsFresh y → TellsFresh z → TellsFresh (cond b y z)
  either_fresh true y z h k = h
  either_fresh false y z h k = k

  full_fresh : (ts : Table Transaction) (last : ℕ) (v : Verdict) → TellsFresh (not_written d.boot head ts last v)
  full_fresh ts last (refused code after) = tt
  full_fresh ts last (accepted p) = tt
  full_fresh ts last (sends y) = tt

  written_fresh : (y : Deed) (full : VolDecision) → TellsFresh (saves head y) → TellsFresh full → TellsFresh (written d head y full)
  written_fresh y full h k = either_fresh (has_room d (deed_record head y)) (saves head y) full h k

  module _ (user : List ℕ) (call : VolCall) (is : x ≡ carried.Call user (ask.Volume call)) where
    got : (n : ℕ) (t : Transaction) (ts : Table Transaction) → get n (set n t ts) ≡ Some t
    got n t ts = get_set n n t ts ∙ ap (λ (b : Bool). cond b (Some t) (get n ts)) (eq-eqb n n refl)

    begun_fresh : (ts : Table Transaction) (last : ℕ) (after : After) (number : ℕ) → IsBegun head.stamp call last after number → IsFresh head x (last_after last after) (transactions_after last after ts) number
    begun_fresh ts last after number h =
        let t : Transaction = record { volume = h.volume; family = h.family; flags = h.flags; stamp = head.stamp; given = [] } in
        record {
          user = user;
          call = call;
          volume = h.volume;
          family = h.family;
          t = t;
          asks = is;
          begins = h.asks;
          there = ap (λ (a : After). get number (transactions_after last a ts)) h.does ∙ (ap (λ (n : ℕ). get n (set (last + 1) t ts)) h.new ∙ got (last + 1) t ts);
          on = (refl, (refl, refl));
          low = (let e : number ≡ last + 1 = h.new in let f : last_after last after ≡ last + 1 = ap (last_after last) h.does in omega (arith, e, f));
        }

    reply_fresh : (ts : Table Transaction) (last : ℕ) (after : After) (reply : VolReply) → IfTold (IsBegun head.stamp call last after) reply → IfTold (IsFresh head x (last_after last after) (transactions_after last after ts)) reply
    reply_fresh ts last after reply h = told_more _ _ reply (begun_fresh ts last after) h

    same_written_fresh : (ts : Table Transaction) (last : ℕ) (p : Plan) (o : Option RecordBody) → IfTold (IsBegun head.stamp call last p.after) p.reply → TellsFresh (same_written d head ts last p o)
    same_written_fresh ts last p None h = reply_fresh ts last p.after p.reply h
    same_written_fresh ts last p (Some body) h = written_fresh _ _ (reply_fresh ts last p.after p.reply h) (full_fresh ts last (accepted p))

    same_fresh : (ts : Table Transaction) (last : ℕ) (v : Verdict) → Told head.stamp call last v → TellsFresh (same_by d head ts last v)
    same_fresh ts last (refused code after) h = tt
    same_fresh ts last (accepted p) h = same_written_fresh ts last p p.body h
    same_fresh ts last (sends y) h = tt

    raised_fresh : (family : ℕ) (live : Table Transaction) (last : ℕ) (v : Verdict) (full : VolDecision) → Told head.stamp call last v → TellsFresh full → TellsFresh (raised_by d head family live last v full)
    raised_fresh family live last (refused code after) full h k = written_fresh _ full tt k
    raised_fresh family live last (accepted p) full h k = written_fresh _ full (reply_fresh live last p.after p.reply h) k
    raised_fresh family live last (sends y) full h k = tt

    judged_fresh : (v : VolState) → TellsFresh (judged d v head call)
    judged_fresh v =
        let family : ℕ = family_of call in
        let ts : Table Transaction = v.transactions in
        let last : ℕ = v.last_transaction in
        either_fresh (nat_lt head.stamp (stamp_of family d)) _ _ tt
        (either_fresh (nat_lt (stamp_of family d) head.stamp) _ _
        (raised_fresh family (without_family family ts) last (verdict d (without_family family ts) last head.stamp call) _ (verdict_told d (without_family family ts) last head.stamp call) (full_fresh ts last (verdict d ts last head.stamp call)))
        (same_fresh ts last (verdict d ts last head.stamp call) (verdict_told d ts last head.stamp call)))

carried_fresh : (d : Durable) (v : VolState) (head : Head) (user : List ℕ) (call : Call) → TellsFresh d head (carried.Call user call) (vol_carried d v head (carried.Call user call))
carried_fresh d v head user (ask.Volume call) = judged_fresh d head (carried.Call user (ask.Volume call)) user call refl v
carried_fresh d v head user (ask.File call) = tt
carried_fresh d v head user (ask.Location call) = tt

admits_fresh : (d : Durable) (v : VolState) (head : Head) (user : List ℕ) (call : Call) (a : Admitted Message) → TellsFresh d head (carried.Call user call) (vol_admits d v head (Whole (record { head = head; carried = carried.Call user call })) a)
admits_fresh d v head user call pairs.runs = either_fresh d head (carried.Call user call) (is_vol_caller head.from) _ (refuses_vol d v head not_served) (carried_fresh d v head user call) tt
admits_fresh d v head user call (pairs.kept reply) = tt
admits_fresh d v head user call pairs.in_progress = tt
admits_fresh d v head user call pairs.older = tt
admits_fresh d v head user call (pairs.wrong_boot boot) = tt

hears_fresh : (me : Node) (d : Durable) (v : VolState) (head : Head) (x : Carried) → TellsFresh d head x (vol_hears me d v head x)
hears_fresh me d v head (carried.Call user call) = either_fresh d head (carried.Call user call) (same_node head.to me) _ drops (admits_fresh d v head user call (admitted d.boot v.seats head)) tt
hears_fresh me d v head (carried.Refusal code) = tt
hears_fresh me d v head (carried.Reply reply) = tt
hears_fresh me d v head carried.Notice = tt

pub decides_fresh : (me : Node) (d : Durable) (v : VolState) (m : Message) → TellsFresh d m.head m.carried (vol_decides me d v (Whole m))
decides_fresh me d v m = hears_fresh me d v m.head m.carried

-- ---- in an ascending table a number stands once

named_by : {A : Type 0} (n : ℕ) (p : ℕ × A) (ps : Table A) (x : A) (Q : A → Type 0) (b : Bool) → nat_eq p.0 n ≡ b → AscendsFrom (p.0 + 1) ps → cond b (Some p.1) (get n ps) ≡ Some x → Q x →
    (get n ps ≡ Some x → AllByRecursion (λ (q : ℕ × A). q.0 ≡ n → Q q.1) ps) → ((k : ℕ) → n < k → AscendsFrom k ps → AllByRecursion (λ (q : ℕ × A). q.0 ≡ n → Q q.1) ps) → (p.0 ≡ n → Q p.1) × AllByRecursion (λ (q : ℕ × A). q.0 ≡ n → Q q.1) ps
named_by {A} n p ps x Q true is up there q later above =
    let here : p.1 ≡ x = cc in
    let number : p.0 ≡ n = eqb-true p.0 n is in
    ((λ same. subst Q (sym here) q), above (p.0 + 1) (omega (arith, number)) up)
named_by {A} n p ps x Q false is up there q later above = ((λ same. let no : false ≡ true = sym is ∙ eq-eqb p.0 n same in absurd cc), later there)

none_below : {A : Type 0} (n k : ℕ) (ps : Table A) (Q : A → Type 0) → n < k → AscendsFrom k ps → AllByRecursion (λ (q : ℕ × A). q.0 ≡ n → Q q.1) ps
none_below {A} n k [] Q low up = tt
none_below {A} n k (p ∷ ps) Q low up =
    let here : k ≤ p.0 = up.0 in
    ((λ same. absurd (omega (arith, low, here, same))), none_below n (p.0 + 1) ps Q (omega (arith, low, here)) up.1)

pub all_named : {A : Type 0} (k n : ℕ) (ts : Table A) (x : A) (Q : A → Type 0) → AscendsFrom k ts → get n ts ≡ Some x → Q x → AllByRecursion (λ (q : ℕ × A). q.0 ≡ n → Q q.1) ts
all_named {A} k n [] x Q up there q = absurd cc
all_named {A} k n (p ∷ ps) x Q up there q = named_by n p ps x Q (nat_eq p.0 n) refl up.1 there q (λ later. all_named (p.0 + 1) n ps x Q up.1 later q) (λ j low above. none_below n j ps Q low above)
