-- Which call writes which record at a volume server: and that no record is written under an old stamp, nor one on a volume without its transaction.
use Rattle.std.proofs.Common.{◌≡◌, ℕ, Bool, true, false, cond, List, [], ◌∷◌, ◌++◌, Option, Some, None, Result, Ok, Err, refl, sym, ap, subst, ◌∙◌, ◌⊎◌, ◌≤◌, inl, inr, eqb-true, arith}
use Rattle.std.proofs.lemmas.Bool.Decides.{nat_tests}
use Rattle.std.specs.Prelude.{⊤, ◌&&◌, ◌||◌, not, length, is_some, nat_eq, nat_lt}
use Rattle.afs_num.specs.Nodes.{same_node}
use Rattle.afs_num.specs.declared.messages.Call.TheVariants as ask
use Rattle.afs_num.specs.declared.messages.Carried.{Carried}
use Rattle.afs_num.specs.declared.messages.Carried.TheVariants as carried
use Rattle.afs_num.specs.declared.messages.Message.{Message}
use Rattle.afs_num.specs.declared.messages.Received.TheVariants.{Whole}
use Rattle.afs_num.specs.declared.records.RecordBody.{RecordBody}
use Rattle.afs_num.specs.declared.records.RecordBody.TheVariants as bodies
use Rattle.afs_num.specs.declared.types.Head.{Head}
use Rattle.afs_num.specs.declared.types.Node.{Node}
use Rattle.afs_num.specs.declared.volume_calls.VolCall.{VolCall}
use Rattle.afs_num.specs.declared.volume_calls.VolCall.TheVariants as calls
use Rattle.afs_num.specs.declared.volume_calls.VolReply.TheVariants as replies
use Rattle.spec_ideal.specs.Operations.{is_last_count}
use Rattle.spec_ideal.specs.Tables.{get, Table}
use Rattle.spec_model.specs.Calls.{admitted, Admitted}
use Rattle.spec_model.specs.Calls as pairs
use Rattle.spec_records.specs.Records.{most_dump}
use Rattle.spec_dumps.specs.Dumps.{dump_of}
use Rattle.spec_dumps.specs.Restores.{fed, restored_from}
use Rattle.spec_dumps.specs.Streams.{dump_bytes, piece_at}
use Rattle.spec_volrows.specs.VolRow.{accepted, bad_dump, begins_on, clones_anew, dumps_piece, family_of, found, gives, in_its_volume, in_transaction, volume_held_code, is_held_by_other, is_of_other, is_there_already, last_word, most_piece, no_room_left, of_family, part_given, refused, sends, tells, refused_where, verdict, volume_of_family, whole_given, without_family, Plan, Verdict}
use Rattle.spec_volrows.specs.VolStates.{Transaction, VolState}
use Rattle.spec_volrows.specs.VolSteps.{dispatches, drops, is_vol_caller, judged_by, not_written, or_stamp, raised_by, repeats, replies_to, same_by, same_written, saves, tells_boot, vol_admits, vol_carried, vol_decides, vol_hears, Deed, VolDecision}
use Rattle.spec_records.specs.Durable.{has_room, stamp_of, Durable, Stored}
use Rattle.spec_fold.specs.Deeds.{has_volume, has_volume_room}

-- ---- who writes it

-- the call's transaction is there, and is on this volume
pub record IsIn (ts : Table Transaction) (family number volume : ℕ) : Type 0 where
  pub t : Transaction
  pub there : found family number ts ≡ Some t
  pub on : t.volume ≡ volume

pub record Deletes (ts : Table Transaction) (call : VolCall) (id : ℕ) : Type 0 where
  pub family : ℕ
  pub number : ℕ
  pub is : call ≡ calls.DeleteVolume family number
  pub within : IsIn ts family number id

pub record SetsFlags (ts : Table Transaction) (call : VolCall) (id flags : ℕ) : Type 0 where
  pub family : ℕ
  pub number : ℕ
  pub is : call ≡ calls.SetFlags family number flags
  pub within : IsIn ts family number id

-- a clone is made where no volume has its number, or it is made anew
abbrev pub IsClone : Durable → VolCall → ℕ → ℕ → ℕ → List ℕ → ℕ → Type 0
IsClone d call family number id name kind = ((call ≡ calls.Clone family number id name kind) × (has_volume id d ≡ false)) ⊎ ((call ≡ calls.ReClone family number id) × (has_volume id d ≡ true))

pub record Clones (d : Durable) (ts : Table Transaction) (call : VolCall) (source id : ℕ) (name : List ℕ) (kind : ℕ) : Type 0 where
  pub family : ℕ
  pub number : ℕ
  pub is : IsClone d call family number id name kind
  pub within : IsIn ts family number source

pub record Creates (call : VolCall) (id family : ℕ) (name : List ℕ) (kind flags quota : ℕ) : Type 0 where
  pub is : call ≡ calls.CreateVolume family id name kind flags quota

abbrev pub BodyAsked : Durable → Table Transaction → VolCall → RecordBody → Type 0
BodyAsked d ts call (bodies.Create id family name kind flags quota is_new) = Creates call id family name kind flags quota
BodyAsked d ts call (bodies.Delete id) = Deletes ts call id
BodyAsked d ts call (bodies.Clone source id name kind release) = Clones d ts call source id name kind
BodyAsked d ts call (bodies.Flags id flags) = SetsFlags ts call id flags
BodyAsked d ts call body = ⊤

-- it needs a transaction on its volume
abbrev pub IsWithin : RecordBody → Type 0
IsWithin (bodies.Delete id) = ⊤
IsWithin (bodies.Clone source id name kind release) = ⊤
IsWithin (bodies.Flags id flags) = ⊤
IsWithin body = ⊥

not_both : (b : Bool) → b ≡ false → b ≡ true → ⊥
not_both b e f = let no : true ≡ false = sym f ∙ e in absurd cc

abbrev OptionAsked : Durable → Table Transaction → VolCall → Option RecordBody → Type 0
OptionAsked d ts call None = ⊤
OptionAsked d ts call (Some body) = BodyAsked d ts call body

abbrev Asks : Durable → Table Transaction → VolCall → Verdict → Type 0
Asks d ts call (refused code after) = ⊤
Asks d ts call (accepted p) = OptionAsked d ts call p.body
Asks d ts call (sends x) = ⊤

module _ (d : Durable) (ts : Table Transaction) (last : ℕ) (call : VolCall) where
  unless_asks : (b : Bool) (code : ℕ) (v : Verdict) → Asks d ts call v → Asks d ts call (refused_where b code v)
  unless_asks true code v h = tt
  unless_asks false code v h = h

  unless_asks_if : (b : Bool) (code : ℕ) (v : Verdict) → (b ≡ false → Asks d ts call v) → Asks d ts call (refused_where b code v)
  unless_asks_if true code v h = tt
  unless_asks_if false code v h = h refl

  long_asks : (b : Bool) (number : ℕ) (v : Verdict) → Asks d ts call v → Asks d ts call (cond b (refused no_room_left (gives number [])) v)
  long_asks true number v h = tt
  long_asks false number v h = h

  volume_asks : (t : Transaction) (g : Transaction → Stored → Verdict) (o : Option Stored) → ((s : Stored) → Asks d ts call (g t s)) → Asks d ts call (in_its_volume t g o)
  volume_asks t g None h = tt
  volume_asks t g (Some s) h = h s

  in_asks : (o : Option Transaction) (g : Transaction → Stored → Verdict) → ((t : Transaction) (s : Stored) → o ≡ Some t → Asks d ts call (g t s)) → Asks d ts call (in_transaction d o g)
  in_asks None g h = tt
  in_asks (Some t) g h = volume_asks t g (get t.volume d.volumes) (λ s. h t s refl)

  whole_asks : (number id : ℕ) (bytes : List ℕ) (r : Result Stored ℕ) → Asks d ts call (whole_given number id bytes r)
  whole_asks number id bytes (Ok s) = tt
  whole_asks number id bytes (Err e) = tt

  part_asks : (number : ℕ) (bytes : List ℕ) (o : Option ℕ) → Asks d ts call (part_given number bytes o)
  part_asks number bytes None = tt
  part_asks number bytes (Some e) = tt

  piece_asks : (b : Bool) (number id : ℕ) (bytes : List ℕ) (r : Result Stored ℕ) → Asks d ts call (cond b (part_given number bytes (fed bytes)) (whole_given number id bytes r))
  piece_asks true number id bytes r = part_asks number bytes (fed bytes)
  piece_asks false number id bytes r = whole_asks number id bytes r

  dumps_asks : (offset : ℕ) (bytes : List ℕ) → Asks d ts call (dumps_piece offset bytes)
  dumps_asks offset bytes = unless_asks (nat_lt (length bytes) offset) bad_dump (tells (replies.Dump (last_word offset bytes) (piece_at most_piece offset bytes))) tt

  on_asks : (stamp family id flags : ℕ) (o : Option Stored) → Asks d ts call (begins_on ts last stamp family id flags o)
  on_asks stamp family id flags None = tt
  on_asks stamp family id flags (Some x) = unless_asks (is_held_by_other 0 id ts) volume_held_code _ tt

  there_by : (family : ℕ) (o : Option Stored) (old : Stored) → volume_of_family family o ≡ Some old → is_some o ≡ true
  there_by family None old e = absurd cc
  there_by family (Some s) old e = refl

anew_asks : (d : Durable) (ts : Table Transaction) (last family number id : ℕ) (t : Transaction) (x : Stored) (o : Option Stored) → found family number ts ≡ Some t → volume_of_family family (get id d.volumes) ≡ o → Asks d ts (calls.ReClone family number id) (clones_anew number ts id t x o)
anew_asks d ts last family number id t x None there is = tt
anew_asks d ts last family number id t x (Some old) there is =
    let c : VolCall = calls.ReClone family number id in
    unless_asks d ts last c (is_held_by_other number id ts) volume_held_code _ (unless_asks d ts last c (is_last_count x.volume.release) no_room_left _
    (record { family = family; number = number; is = inr (refl, there_by d ts last c family (get id d.volumes) old is); within = record { t = t; there = there; on = refl } }))

verdict_asks : (d : Durable) (ts : Table Transaction) (last stamp : ℕ) (call : VolCall) → Asks d ts call (verdict d ts last stamp call)
verdict_asks d ts last stamp (calls.CreateVolume family id name kind flags quota) =
    let c : VolCall = calls.CreateVolume family id name kind flags quota in unless_asks d ts last c (has_volume id d) is_there_already _ (unless_asks d ts last c (not (has_volume_room d)) no_room_left _ (record { is = refl }))
verdict_asks d ts last stamp (calls.DeleteVolume family number) = in_asks d ts last (calls.DeleteVolume family number) (found family number ts) _ (λ t s e. record { family = family; number = number; is = refl; within = record { t = t; there = e; on = refl } })
verdict_asks d ts last stamp (calls.Restore family number offset final piece) =
    let c : VolCall = calls.Restore family number offset final piece in
    in_asks d ts last c (found family number ts) _ (λ t s e. unless_asks d ts last c (not (nat_eq offset (length t.given))) bad_dump _ (long_asks d ts last c (nat_lt most_dump (length (t.given ++ piece))) number _ (piece_asks d ts last c (nat_eq final 0) number t.volume (t.given ++ piece) (restored_from t.volume s (t.given ++ piece)))))
verdict_asks d ts last stamp (calls.Forward family number from server target) = in_asks d ts last (calls.Forward family number from server target) (found family number ts) _ (λ t s e. tt)
verdict_asks d ts last stamp (calls.EndTrans family number) = in_asks d ts last (calls.EndTrans family number) (found family number ts) _ (λ t s e. tt)
verdict_asks d ts last stamp (calls.Clone family number id name kind) =
    let c : VolCall = calls.Clone family number id name kind in
    unless_asks_if d ts last c (has_volume id d) is_there_already _ (λ none. in_asks d ts last c (found family number ts) _ (λ t s e. unless_asks d ts last c (not (has_volume_room d) || is_last_count s.volume.release) no_room_left _
    (record { family = family; number = number; is = inl (refl, none); within = record { t = t; there = e; on = refl } })))
verdict_asks d ts last stamp (calls.SetFlags family number flags) = in_asks d ts last (calls.SetFlags family number flags) (found family number ts) _ (λ t s e. record { family = family; number = number; is = refl; within = record { t = t; there = e; on = refl } })
verdict_asks d ts last stamp (calls.GetFlags family number) = in_asks d ts last (calls.GetFlags family number) (found family number ts) _ (λ t s e. tt)
verdict_asks d ts last stamp (calls.TransCreate family id flags) = on_asks d ts last (calls.TransCreate family id flags) stamp family id flags (volume_of_family family (get id d.volumes))
verdict_asks d ts last stamp (calls.Dump family number from offset) = in_asks d ts last (calls.Dump family number from offset) (found family number ts) _ (λ t s e. dumps_asks d ts last (calls.Dump family number from offset) offset (dump_bytes (dump_of t.volume from s)))
verdict_asks d ts last stamp (calls.SetForwarding family number server) = in_asks d ts last (calls.SetForwarding family number server) (found family number ts) _ (λ t s e. tt)
verdict_asks d ts last stamp (calls.GetStatus family number) = in_asks d ts last (calls.GetStatus family number) (found family number ts) _ (λ t s e. tt)
verdict_asks d ts last stamp (calls.ListVols family) = tt
verdict_asks d ts last stamp (calls.ReClone family number id) = in_asks d ts last (calls.ReClone family number id) (found family number ts) _ (λ t s e. anew_asks d ts last family number id t s (volume_of_family family (get id d.volumes)) e refl)

-- ---- under a raised stamp no transaction of the family is left

other_by : (b c : Bool) (family n : ℕ) (p : ℕ × Transaction) (rest : Table Transaction) (t : Transaction) → is_of_other family p ≡ b → nat_eq p.0 n ≡ c → (get n rest ≡ Some t → nat_eq t.family family ≡ false) → get n (cond b (p ∷ rest) rest) ≡ Some t → nat_eq t.family family ≡ false
other_by false c family n p rest t is here later e = later e
other_by true c family n p rest t is here later e = by c here e
  where
    off : (x : Bool) → not x ≡ true → x ≡ false
    off true h = absurd cc
    off false h = refl

    by : (x : Bool) → nat_eq p.0 n ≡ x → cond (nat_eq p.0 n) (Some p.1) (get n rest) ≡ Some t → nat_eq t.family family ≡ false
    by true same e' = let one : p.1 ≡ t = (let z : Some p.1 ≡ Some t = sym (ap (λ (x : Bool). cond x (Some p.1) (get n rest)) same) ∙ e' in cc) in ap (λ (x : Transaction). nat_eq x.family family) (sym one) ∙ off (nat_eq p.1.family family) is
    by false other e' = later (sym (ap (λ (x : Bool). cond x (Some p.1) (get n rest)) other) ∙ e')

other_family : (family n : ℕ) (ts : Table Transaction) (t : Transaction) → get n (without_family family ts) ≡ Some t → nat_eq t.family family ≡ false
other_family family n [] t e = absurd cc
other_family family n (p ∷ ps) t e = other_by (is_of_other family p) (nat_eq p.0 n) family n p (without_family family ps) t refl refl (other_family family n ps t) e

of_by : (b : Bool) (family : ℕ) (x t : Transaction) → nat_eq x.family family ≡ b → cond b (Some x) None ≡ Some t → (x ≡ t) × (nat_eq x.family family ≡ true)
of_by true family x t is e = ((let same : x ≡ t = cc in same), is)
of_by false family x t is e = absurd cc

pub of_family_is : (family : ℕ) (o : Option Transaction) (t : Transaction) → of_family family o ≡ Some t → (o ≡ Some t) × (nat_eq t.family family ≡ true)
of_family_is family None t e = absurd cc
of_family_is family (Some x) t e =
    let z = of_by (nat_eq x.family family) family x t refl e in (ap Some z.0, ap (λ (y : Transaction). nat_eq y.family family) (sym z.0) ∙ z.1)

none_live : (family number : ℕ) (ts : Table Transaction) (t : Transaction) → found family number (without_family family ts) ≡ Some t → ⊥
none_live family number ts t e = let z = of_family_is family (get number (without_family family ts)) t e in not_both (nat_eq t.family family) (other_family family number ts t z.0) z.1

-- ---- a decision

-- the call that is saved, and which body it writes
pub record IsSaved (d : Durable) (v : VolState) (head : Head) (x : Carried) (y : Deed) : Type 0 where
  pub user : List ℕ
  pub call : VolCall
  pub is_call : x ≡ carried.Call user (ask.Volume call)
  pub runs : admitted d.boot v.seats head ≡ pairs.runs
  pub asked : BodyAsked d v.transactions call y.body
  pub low : stamp_of (family_of call) d ≤ head.stamp
  pub stored : IsWithin y.body → stamp_of (family_of call) d ≡ head.stamp

abbrev pub Saves : Durable → VolState → Head → Carried → VolDecision → Type 0
Saves d v head x (saves h y) = IsSaved d v head x y
Saves d v head x drops = ⊤
Saves d v head x (tells_boot h) = ⊤
Saves d v head x (repeats reply) = ⊤
Saves d v head x (replies_to h reply ts last) = ⊤
Saves d v head x (dispatches h y) = ⊤

module _ (d : Durable) (v : VolState) (head : Head) (x : Carried) where
  either : (b : Bool) (y z : VolDecision) → Saves d v head x y → Saves d v head x z → Saves d v head x (cond b y z)
  either true y z h k = h
  either false y z h k = k

  full_saves : (ts : Table Transaction) (last : ℕ) (w : Verdict) → Saves d v head x (not_written d.boot head ts last w)
  full_saves ts last (refused code after) = tt
  full_saves ts last (accepted p) = tt
  full_saves ts last (sends y) = tt

  module _ (user : List ℕ) (call : VolCall) (is : x ≡ carried.Call user (ask.Volume call)) (runs : admitted d.boot v.seats head ≡ pairs.runs) where
    abbrev ts : Table Transaction
    ts = v.transactions

    same_low : (a b : ℕ) → a ≡ b → a ≤ b
    same_low a b is = omega (arith, is)

    same_saves_body : (last : ℕ) (p : Plan) (o : Option RecordBody) → OptionAsked d ts call o → stamp_of (family_of call) d ≡ head.stamp → Saves d v head x (same_written d head ts last p o)
    same_saves_body last p None h stored = tt
    same_saves_body last p (Some body) h stored = either (has_room d _) _ (not_written d.boot head ts last (accepted p)) (record { user = user; call = call; is_call = is; runs = runs; asked = h; low = same_low (stamp_of (family_of call) d) head.stamp stored; stored = λ within. stored }) (full_saves ts last (accepted p))

    same_saves : (last : ℕ) (w : Verdict) → Asks d ts call w → stamp_of (family_of call) d ≡ head.stamp → Saves d v head x (same_by d head ts last w)
    same_saves last (refused code after) h stored = tt
    same_saves last (accepted p) h stored = same_saves_body last p p.body h stored
    same_saves last (sends y) h stored = tt

    -- under a raised stamp no transaction of the family is left
    none_in : (family number volume : ℕ) → family ≡ family_of call → IsIn (without_family (family_of call) ts) family number volume → ⊥
    none_in family number volume same h =
        none_live (family_of call) number ts h.t (ap (λ (f : ℕ). found f number (without_family (family_of call) ts)) (sym same) ∙ h.there)

    clone_family : (family number id : ℕ) (name : List ℕ) (kind : ℕ) → IsClone d call family number id name kind → family ≡ family_of call
    clone_family family number id name kind (inl is') = sym (ap family_of is'.0)
    clone_family family number id name kind (inr is') = sym (ap family_of is'.0)

    raised_none : (body : RecordBody) → BodyAsked d (without_family (family_of call) ts) call body → IsWithin body → ⊥
    raised_none (bodies.Delete id) h within = none_in h.family h.number id (sym (ap family_of h.is)) h.within
    raised_none (bodies.Clone source id name kind release) h within = none_in h.family h.number source (clone_family h.family h.number id name kind h.is) h.within
    raised_none (bodies.Flags id flags) h within = none_in h.family h.number id (sym (ap family_of h.is)) h.within
    raised_none body h within = within

    raised_asked : (body : RecordBody) → BodyAsked d (without_family (family_of call) ts) call body → BodyAsked d ts call body
    raised_asked (bodies.Create id family name kind flags quota is_new) h = record { is = h.is }
    raised_asked (bodies.Delete id) h = absurd (raised_none (bodies.Delete id) h tt)
    raised_asked (bodies.Clone source id name kind release) h = absurd (raised_none (bodies.Clone source id name kind release) h tt)
    raised_asked (bodies.Flags id flags) h = absurd (raised_none (bodies.Flags id flags) h tt)
    raised_asked body h = tt

    module _ (low : stamp_of (family_of call) d ≤ head.stamp) where
      raised_deed : (o : Option RecordBody) (y : Deed) → y.body ≡ or_stamp o → OptionAsked d (without_family (family_of call) ts) call o → IsSaved d v head x y
      raised_deed None y same h = record {
        user = user;
        call = call;
        is_call = is;
        runs = runs;
        asked = subst (BodyAsked d ts call) (sym same) tt;
        low = low;
        stored = λ within. absurd (subst IsWithin same within);
      }
      raised_deed (Some body) y same h = record {
        user = user;
        call = call;
        is_call = is;
        runs = runs;
        asked = subst (BodyAsked d ts call) (sym same) (raised_asked body h);
        low = low;
        stored = λ within. absurd (raised_none body h (subst IsWithin same within));
      }

      raised_saves : (last : ℕ) (w : Verdict) (full : VolDecision) → Asks d (without_family (family_of call) ts) call w → Saves d v head x full → Saves d v head x (raised_by d head (family_of call) (without_family (family_of call) ts) last w full)
      raised_saves last (refused code after) full h k = either (has_room d _) _ full (raised_deed None _ refl tt) k
      raised_saves last (accepted p) full h k = either (has_room d _) _ full (raised_deed p.body _ refl h) k
      raised_saves last (sends y) full h k = tt

    above : (a b : ℕ) → nat_lt a b ≡ true → a ≤ b
    above a b is = grind (arith, nat_tests, is)

    same_stamp : (a b : ℕ) → nat_lt a b ≡ false → nat_lt b a ≡ false → b ≡ a
    same_stamp a b le ge = grind (arith, nat_tests, le, ge)

    judged_by_is : (below above : Bool) → nat_lt head.stamp (stamp_of (family_of call) d) ≡ below → nat_lt (stamp_of (family_of call) d) head.stamp ≡ above → (low high same : VolDecision) → Saves d v head x low → (stamp_of (family_of call) d ≤ head.stamp → Saves d v head x high) → (stamp_of (family_of call) d ≡ head.stamp → Saves d v head x same) → Saves d v head x (cond below low (cond above high same))
    judged_by_is true above is_below is_above low high same a b k = a
    judged_by_is false true is_below is_above low high same a b k = b (above (stamp_of (family_of call) d) head.stamp is_above)
    judged_by_is false false is_below is_above low high same a b k = k (same_stamp head.stamp (stamp_of (family_of call) d) is_below is_above)

    judged_saves : Saves d v head x (judged_by d head (family_of call) (stamp_of (family_of call) d) ts v.last_transaction call)
    judged_saves =
        let live : Table Transaction = without_family (family_of call) ts in
        let last : ℕ = v.last_transaction in
        judged_by_is (nat_lt head.stamp (stamp_of (family_of call) d)) (nat_lt (stamp_of (family_of call) d) head.stamp) refl refl _ _ _ tt
        (λ up. raised_saves up last (verdict d live last head.stamp call) (not_written d.boot head ts last (verdict d ts last head.stamp call)) (verdict_asks d live last head.stamp call) (full_saves ts last (verdict d ts last head.stamp call)))
        (same_saves last (verdict d ts last head.stamp call) (verdict_asks d ts last head.stamp call))

carried_saves : (d : Durable) (v : VolState) (head : Head) (c : Carried) → admitted d.boot v.seats head ≡ pairs.runs → Saves d v head c (vol_carried d v head c)
carried_saves d v head (carried.Call user (ask.Volume call)) runs = judged_saves d v head (carried.Call user (ask.Volume call)) user call refl runs
carried_saves d v head (carried.Call user (ask.File call)) runs = tt
carried_saves d v head (carried.Call user (ask.Location call)) runs = tt
carried_saves d v head (carried.Refusal code) runs = tt
carried_saves d v head (carried.Reply reply) runs = tt
carried_saves d v head carried.Notice runs = tt

admits_saves : (d : Durable) (v : VolState) (head : Head) (c : Carried) (a : Admitted Message) → admitted d.boot v.seats head ≡ a → Saves d v head c (vol_admits d v head (Whole (record { head = head; carried = c })) a)
admits_saves d v head c pairs.runs is = either d v head c (is_vol_caller head.from) _ _ (carried_saves d v head c is) tt
admits_saves d v head c (pairs.kept reply) is = tt
admits_saves d v head c pairs.in_progress is = tt
admits_saves d v head c pairs.older is = tt
admits_saves d v head c (pairs.wrong_boot boot) is = tt

hears_saves : (me : Node) (d : Durable) (v : VolState) (head : Head) (c : Carried) → Saves d v head c (vol_hears me d v head c)
hears_saves me d v head (carried.Call user call) = either d v head (carried.Call user call) (same_node head.to me) _ drops (admits_saves d v head (carried.Call user call) (admitted d.boot v.seats head) refl) tt
hears_saves me d v head (carried.Refusal code) = tt
hears_saves me d v head (carried.Reply reply) = tt
hears_saves me d v head carried.Notice = tt

pub decided_saves : (me : Node) (d : Durable) (v : VolState) (m : Message) → Saves d v m.head m.carried (vol_decides me d v (Whole m))
decided_saves me d v m = hears_saves me d v m.head m.carried
