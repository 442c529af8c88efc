-- What a volume server decides keeps each transaction of the family of its volume, and writes no read-write volume but one that is its family.
use Rattle.std.proofs.Common.{◌≡◌, ◌⊎◌, inl, inr, ℕ, ◌+◌, Bool, true, false, cond, List, [], ◌∷◌, ◌++◌, Option, Some, None, Result, Ok, Err, is_some, refl, sym, ap, subst, ◌∙◌, eqb-true}
use Rattle.std.specs.Prelude.{⊤, ◌||◌, not, length, nat_eq, nat_lt}
use Rattle.afs_num.specs.Nodes.{same_node}
use Rattle.afs_num.specs.declared.messages.Call.TheVariants as ask
use Rattle.afs_num.specs.declared.messages.Carried.{Carried}
use Rattle.afs_num.specs.declared.messages.Carried.TheVariants as carried
use Rattle.afs_num.specs.declared.messages.Message.{Message}
use Rattle.afs_num.specs.declared.messages.Received.TheVariants.{Whole}
use Rattle.afs_num.specs.declared.records.RecordBody.{RecordBody}
use Rattle.afs_num.specs.declared.records.RecordBody.TheVariants as bodies
use Rattle.afs_num.specs.declared.types.Head.{Head}
use Rattle.afs_num.specs.declared.types.Node.{Node}
use Rattle.afs_num.specs.declared.volume_calls.VolCall.{VolCall}
use Rattle.afs_num.specs.declared.volume_calls.VolCall.TheVariants as calls
use Rattle.afs_num.specs.declared.volume_calls.VolReply.TheVariants as replies
use Rattle.spec_ideal.specs.Operations.{is_last_count}
use Rattle.spec_ideal.specs.Tables.{get, set, unset, AscendsFrom, Table}
use Rattle.spec_model.specs.Calls.{admitted, Admitted}
use Rattle.spec_model.specs.Calls as pairs
use Rattle.spec_records.specs.Durable.{has_room, stamp_of, Durable, Stored}
use Rattle.spec_records.specs.Records.{most_dump}
use Rattle.spec_dumps.specs.Dumps.{dump_of}
use Rattle.spec_dumps.specs.Restores.{fed, restored_from}
use Rattle.spec_dumps.specs.Streams.{dump_bytes, piece_at}
use Rattle.spec_fold.specs.Deeds.{created, done_by, has_volume, has_volume_room}
use Rattle.spec_volrows.specs.VolLaws.{AreApart}
use Rattle.spec_volrows.specs.VolRow.{accepted, bad_dump, begins, begins_new, begins_on, clones_anew, dumps_piece, ends, family_of, found, gave, gives, in_its_volume, in_transaction, volume_held_code, is_held_by_other, is_of_other, is_there_already, last_word, most_piece, no_room_left, of_family, part_given, refused, sends, stay, tells, transactions_after, refused_where, verdict, volume_of_family, whole_given, without_family, After, Plan, Verdict}
use Rattle.spec_volrows.specs.VolStates.{Transaction, VolState}
use Rattle.spec_volrows.specs.VolSteps.{dispatches, drops, is_vol_caller, judged_by, not_written, or_stamp, raised_by, repeats, replies_to, same_by, same_written, saves, tells_boot, vol_admits, vol_carried, vol_decides, vol_hears, when_full, VolDecision}
use Rattle.spec_volrows.proofs.VolApart.{behind_found, rest_apart}
use Rattle.law_families.proofs.Making.{CarriesOwn, Fits, MakesOwn}
use Rattle.law_families.proofs.Volumes.{begun_of, body_goes, ended_of, put_found, some_same, wide, AreOf, IsFit, IsOf}

-- ---- transactions that were there

head_found : (c : Bool) (p : Transaction) (o q : Option Transaction) (t : Transaction) → (o ≡ Some t → q ≡ Some t) → cond c (Some p) o ≡ Some t → cond c (Some p) q ≡ Some t
head_found true p o q t later e = e
head_found false p o q t later e = later e

rest_by : (b : Bool) (n : ℕ) (p : ℕ × Transaction) (ps qs : Table Transaction) (t : Transaction) → AscendsFrom (p.0 + 1) ps → (get n qs ≡ Some t → get n ps ≡ Some t) → get n (cond b (p ∷ qs) qs) ≡ Some t → get n (p ∷ ps) ≡ Some t
rest_by true n p ps qs t up later e = head_found (nat_eq p.0 n) p.1 (get n qs) (get n ps) t later e
rest_by false n p ps qs t up later e = behind_found (nat_eq p.0 n) n p ps t refl up (later e)

rest_found : (family m n : ℕ) (ts : Table Transaction) (t : Transaction) → AscendsFrom m ts → get n (without_family family ts) ≡ Some t → get n ts ≡ Some t
rest_found family m n [] t up e = e
rest_found family m n (p ∷ ps) t up e = rest_by (is_of_other family p) n p ps (without_family family ps) t up.1 (rest_found family (p.0 + 1) n ps t up.1) e

rest_of : (v : Table Stored) (last family : ℕ) (ts : Table Transaction) → AreApart v last ts → AreOf v ts → AreOf v (without_family family ts)
rest_of v last family ts apart all n t e = all n t (rest_found family 1 n ts t apart.ascend e)

gave_of : (v : Table Stored) (number : ℕ) (bytes : List ℕ) (o : Option Transaction) (ts : Table Transaction) → get number ts ≡ o → AreOf v ts → AreOf v (gave number bytes o ts)
gave_of v number bytes None ts is all = all
gave_of v number bytes (Some t) ts is all = begun_of v number (record t { given = bytes }) ts (all number t is) all

-- ---- behind a verdict

-- it begins none
abbrev BeginsNone : After → Type 0
BeginsNone (begins id f flags s) = ⊥
BeginsNone stay = ⊤
BeginsNone (ends number) = ⊤
BeginsNone (gives number bytes) = ⊤

after_none : (v : Table Stored) (last : ℕ) (after : After) (ts : Table Transaction) → BeginsNone after → AreOf v ts → AreOf v (transactions_after last after ts)
after_none v last stay ts none all = all
after_none v last (begins id f flags s) ts none all = absurd none
after_none v last (ends number) ts none all = ended_of v number ts all
after_none v last (gives number bytes) ts none all = gave_of v number bytes (get number ts) ts refl all

full_none : (after : After) → BeginsNone (when_full after)
full_none stay = tt
full_none (begins id f flags s) = tt
full_none (ends number) = tt
full_none (gives number bytes) = tt

abbrev after_body : Option RecordBody → Durable → Durable
after_body None d = d
after_body (Some body) d = done_by body d

abbrev BodyFits : Durable → Option RecordBody → Type 0
BodyFits d None = ⊤
BodyFits d (Some body) = IsFit d body

-- what is written, and the transactions behind it
record Leaves (d : Durable) (body : Option RecordBody) (ts : Table Transaction) : Type 0 where
  all : AreOf (after_body body d).volumes ts
  fits : BodyFits d body

abbrev Such : Durable → Table Transaction → ℕ → Verdict → Type 0
Such d ts last (refused code after) = BeginsNone after
Such d ts last (accepted p) = Leaves d p.body (transactions_after last p.after ts)
Such d ts last (sends x) = ⊤

-- ---- verdicts, where the transactions are apart and of the families of their volumes

module _ (d : Durable) (ts : Table Transaction) (last : ℕ) (apart : AreApart d.volumes last ts) (all : AreOf d.volumes ts) where
  unless_such : (b : Bool) (code : ℕ) (v : Verdict) → (b ≡ false → Such d ts last v) → Such d ts last (refused_where b code v)
  unless_such true code v h = tt
  unless_such false code v h = h refl

  long_such : (b : Bool) (number : ℕ) (v : Verdict) → Such d ts last v → Such d ts last (cond b (refused no_room_left (gives number [])) v)
  long_such true number v h = tt
  long_such false number v h = h

  -- with its volume
  volume_such : (t : Transaction) (g : Transaction → Stored → Verdict) (o : Option Stored) → ((s : Stored) → Such d ts last (g t s)) → Such d ts last (in_its_volume t g o)
  volume_such t g None h = tt
  volume_such t g (Some s) h = h s

  in_such_by : (o : Option Transaction) (g : Transaction → Stored → Verdict) → ((t : Transaction) (s : Stored) → o ≡ Some t → Such d ts last (g t s)) → Such d ts last (in_transaction d o g)
  in_such_by None g h = tt
  in_such_by (Some t) g h = volume_such t g (get t.volume d.volumes) (λ s. h t s refl)

  of_by : (b : Bool) (family : ℕ) (x t : Transaction) → nat_eq x.family family ≡ b → cond b (Some x) None ≡ Some t → (Some x ≡ Some t) × (x.family ≡ family)
  of_by true family x t is e = (e, eqb-true x.family family is)
  of_by false family x t is e = absurd cc

  of_family_is : (family : ℕ) (o : Option Transaction) (t : Transaction) → of_family family o ≡ Some t → (o ≡ Some t) × (t.family ≡ family)
  of_family_is family None t e = absurd cc
  of_family_is family (Some x) t e =
      let z = of_by (nat_eq x.family family) family x t refl e in
      let same : x ≡ t = some_same x t (Some x) refl z.0 in (z.0, subst (λ (y : Transaction). y.family ≡ family) same z.1)

  in_such : (family number : ℕ) (g : Transaction → Stored → Verdict) → ((t : Transaction) (s : Stored) → get number ts ≡ Some t → t.family ≡ family → Such d ts last (g t s)) → Such d ts last (in_transaction d (found family number ts) g)
  in_such family number g h = in_such_by (found family number ts) g (λ t s e. let z = of_family_is family (get number ts) t e in h t s z.0 z.1)

  -- a record leaves the transactions that go on
  written_such : (body : RecordBody) → IsFit d body → AreOf (done_by body d).volumes ts
  written_such body fit = wide d.volumes (done_by body d).volumes last ts (body_goes body d fit).follows apart all

  whole_such : (number id : ℕ) (bytes : List ℕ) (r : Result Stored ℕ) → Such d ts last (whole_given number id bytes r)
  whole_such number id bytes (Ok s) = record { all = gave_of (done_by (bodies.Restore id bytes) d).volumes number [] (get number ts) ts refl (written_such (bodies.Restore id bytes) tt); fits = tt }
  whole_such number id bytes (Err e) = tt

  part_such : (number : ℕ) (bytes : List ℕ) (o : Option ℕ) → Such d ts last (part_given number bytes o)
  part_such number bytes None = record { all = gave_of d.volumes number bytes (get number ts) ts refl all; fits = tt }
  part_such number bytes (Some e) = tt

  piece_such : (b : Bool) (number id : ℕ) (bytes : List ℕ) (r : Result Stored ℕ) → Such d ts last (cond b (part_given number bytes (fed bytes)) (whole_given number id bytes r))
  piece_such true number id bytes r = part_such number bytes (fed bytes)
  piece_such false number id bytes r = whole_such number id bytes r

  -- nothing is written, and none begins
  same_such : Leaves d None ts
  same_such = record { all = all; fits = tt }

  dumps_such : (offset : ℕ) (bytes : List ℕ) → Such d ts last (dumps_piece offset bytes)
  dumps_such offset bytes = unless_such (nat_lt (length bytes) offset) bad_dump (tells (replies.Dump (last_word offset bytes) (piece_at most_piece offset bytes))) (λ far. same_such)

  family_by : (b : Bool) (family : ℕ) (x s : Stored) → nat_eq x.volume.family family ≡ b → cond b (Some x) None ≡ Some s → (Some x ≡ Some s) × (x.volume.family ≡ family)
  family_by true family x s is e = (e, eqb-true x.volume.family family is)
  family_by false family x s is e = absurd cc

  -- a volume that is found of the family
  family_is : (family : ℕ) (o : Option Stored) (s : Stored) → volume_of_family family o ≡ Some s → (o ≡ Some s) × (s.volume.family ≡ family)
  family_is family None s e = absurd cc
  family_is family (Some x) s e =
      let z = family_by (nat_eq x.volume.family family) family x s refl e in
      let same : x ≡ s = some_same x s (Some x) refl z.0 in (z.0, subst (λ (y : Stored). y.volume.family ≡ family) same z.1)

  on_such : (stamp family id flags : ℕ) (o : Option Stored) → volume_of_family family (get id d.volumes) ≡ o → Such d ts last (begins_on ts last stamp family id flags o)
  on_such stamp family id flags None is = tt
  on_such stamp family id flags (Some x) is =
      let z = family_is family (get id d.volumes) x is in
      unless_such (is_held_by_other 0 id ts) volume_held_code _ (λ free. record {
        all = begun_of d.volumes (last + 1) _ ts (λ s there. ap (λ (y : Stored). y.volume.family) (some_same s x (get id d.volumes) there z.0) ∙ z.1) all;
        fits = tt;
      })

  anew_such : (number family id : ℕ) (t : Transaction) (x : Stored) (o : Option Stored) → get number ts ≡ Some t → t.family ≡ family → volume_of_family family (get id d.volumes) ≡ o → Such d ts last (clones_anew number ts id t x o)
  anew_such number family id t x None at of is = tt
  anew_such number family id t x (Some old) at of is =
      let z = family_is family (get id d.volumes) old is in
      let body : RecordBody = bodies.Clone t.volume id old.volume.name old.volume.kind (x.volume.release + 1) in
      let fit : IsFit d body = (
        (λ none. let no : true ≡ false = sym (ap is_some z.0) ∙ none in absurd cc),
        λ s o there had. all number t at s there ∙ (of ∙ (sym z.1 ∙ ap (λ (y : Stored). y.volume.family) (some_same old o (get id d.volumes) z.0 had))),
      ) in
      unless_such (is_held_by_other number id ts) volume_held_code _ (λ free. unless_such (is_last_count x.volume.release) no_room_left _ (λ few. record { all = written_such body fit; fits = fit }))

  -- a volume that is made
  created_of : (id family : ℕ) (x : Stored) → is_some (get id d.volumes) ≡ false → x.volume.family ≡ family → IsOf (set id x d.volumes) id family
  created_of id family x none its s e = by (put_found id id x s d.volumes e)
    where
      by : ((id ≡ id) × (x ≡ s)) ⊎ (get id d.volumes ≡ Some s) → s.volume.family ≡ family
      by (inl here) = ap (λ (y : Stored). y.volume.family) (sym here.1) ∙ its
      by (inr there) = let no : true ≡ false = sym (ap is_some there) ∙ none in absurd cc

  verdict_such : (stamp : ℕ) (call : VolCall) → MakesOwn call → Such d ts last (verdict d ts last stamp call)
  verdict_such stamp (calls.CreateVolume family id name kind flags quota) h =
      let body : RecordBody = bodies.Create id family name kind flags quota (begins_new stamp flags) in
      let t : Transaction = record { volume = id; family = family; flags = 1; stamp = stamp; given = [] } in
      unless_such (has_volume id d) is_there_already _ (λ none. unless_such (not (has_volume_room d)) no_room_left _ (λ room.
      record { all = begun_of (done_by body d).volumes (last + 1) t ts (created_of id family (created family name kind flags quota (begins_new stamp flags)) none refl) (written_such body (none, h)); fits = (none, h) }))
  verdict_such stamp (calls.DeleteVolume family number) h = in_such family number _ (λ t x at of. record { all = ended_of (unset t.volume d.volumes) number ts (written_such (bodies.Delete t.volume) tt); fits = tt })
  verdict_such stamp (calls.Restore family number offset final piece) h =
      in_such family number _ (λ t x at of. unless_such (not (nat_eq offset (length t.given))) bad_dump _ (λ next. long_such (nat_lt most_dump (length (t.given ++ piece))) number _ (piece_such (nat_eq final 0) number t.volume (t.given ++ piece) (restored_from t.volume x (t.given ++ piece)))))
  verdict_such stamp (calls.Forward family number from server target) h = in_such family number _ (λ t x at of. tt)
  verdict_such stamp (calls.EndTrans family number) h = in_such family number _ (λ t x at of. record { all = ended_of d.volumes number ts all; fits = tt })
  verdict_such stamp (calls.Clone family number id name kind) h =
      unless_such (has_volume id d) is_there_already _ (λ none. in_such family number _ (λ t x at of. unless_such (not (has_volume_room d) || is_last_count x.volume.release) no_room_left _ (λ room.
      let body : RecordBody = bodies.Clone t.volume id name kind (x.volume.release + 1) in
      let fit : IsFit d body = ((λ new. h), λ s o there had. let no : true ≡ false = sym (ap is_some had) ∙ none in absurd cc) in
      record { all = written_such body fit; fits = fit })))
  verdict_such stamp (calls.SetFlags family number flags) h = in_such family number _ (λ t x at of. record { all = written_such (bodies.Flags t.volume flags) tt; fits = tt })
  verdict_such stamp (calls.GetFlags family number) h = in_such family number _ (λ t x at of. same_such)
  verdict_such stamp (calls.TransCreate family id flags) h = on_such stamp family id flags (volume_of_family family (get id d.volumes)) refl
  verdict_such stamp (calls.Dump family number from offset) h = in_such family number _ (λ t x at of. dumps_such offset (dump_bytes (dump_of t.volume from x)))
  verdict_such stamp (calls.SetForwarding family number server) h = in_such family number _ (λ t x at of. record { all = all; fits = tt })
  verdict_such stamp (calls.GetStatus family number) h = in_such family number _ (λ t x at of. same_such)
  verdict_such stamp (calls.ListVols family) h = same_such
  verdict_such stamp (calls.ReClone family number id) h = in_such family number _ (λ t x at of. anew_such number family id t x (volume_of_family family (get id d.volumes)) at of refl)

-- ---- behind a decision

-- what is written fits, and behind it each transaction is of the family of its volume
abbrev pub Keeps : Durable → VolDecision → Type 0
Keeps d (saves head x) = IsFit d x.body × AreOf (done_by x.body d).volumes x.transactions
Keeps d (replies_to head reply ts last) = AreOf d.volumes ts
Keeps d drops = ⊤
Keeps d (tells_boot head) = ⊤
Keeps d (repeats reply) = ⊤
Keeps d (dispatches head x) = ⊤

either : (d : Durable) (b : Bool) (x y : VolDecision) → Keeps d x → Keeps d y → Keeps d (cond b x y)
either d true x y h k = h
either d false x y h k = k

full_keeps : (d : Durable) (boot : ℕ) (head : Head) (ts : Table Transaction) (last : ℕ) (v : Verdict) → Such d ts last v → AreOf d.volumes ts → Keeps d (not_written boot head ts last v)
full_keeps d boot head ts last (refused code after) h all = after_none d.volumes last after ts h all
full_keeps d boot head ts last (accepted p) h all = after_none d.volumes last (when_full p.after) ts (full_none p.after) all
full_keeps d boot head ts last (sends x) h all = all

same_keeps_body : (d : Durable) (head : Head) (ts : Table Transaction) (last : ℕ) (p : Plan) (o : Option RecordBody) → Leaves d o (transactions_after last p.after ts) → AreOf d.volumes ts → Keeps d (same_written d head ts last p o)
same_keeps_body d head ts last p None h all = h.all
same_keeps_body d head ts last p (Some body) h all =
    either d (has_room d _) _ (not_written d.boot head ts last (accepted p)) (h.fits, h.all) (after_none d.volumes last (when_full p.after) ts (full_none p.after) all)

same_keeps : (d : Durable) (head : Head) (ts : Table Transaction) (last : ℕ) (v : Verdict) → Such d ts last v → AreOf d.volumes ts → Keeps d (same_by d head ts last v)
same_keeps d head ts last (refused code after) h all = after_none d.volumes last after ts h all
same_keeps d head ts last (accepted p) h all = same_keeps_body d head ts last p p.body h all
same_keeps d head ts last (sends x) h all = tt

-- a raised stamp is written alone where the call writes nothing else
stamp_fits : (d : Durable) (o : Option RecordBody) (ts : Table Transaction) → Leaves d o ts → IsFit d (or_stamp o) × AreOf (done_by (or_stamp o) d).volumes ts
stamp_fits d None ts h = (tt, h.all)
stamp_fits d (Some body) ts h = (h.fits, h.all)

raised_keeps : (d : Durable) (head : Head) (family : ℕ) (live : Table Transaction) (last : ℕ) (v : Verdict) (full : VolDecision) → Such d live last v → AreOf d.volumes live → Keeps d full → Keeps d (raised_by d head family live last v full)
raised_keeps d head family live last (refused code after) full h all k = either d (has_room d _) _ full (tt, after_none d.volumes last after live h all) k
raised_keeps d head family live last (accepted p) full h all k = either d (has_room d _) _ full (stamp_fits d p.body (transactions_after last p.after live) h) k
raised_keeps d head family live last (sends x) full h all k = tt

module _ (d : Durable) (v : VolState) (apart : AreApart d.volumes v.last_transaction v.transactions) (all : AreOf d.volumes v.transactions) where
  abbrev ts : Table Transaction
  ts = v.transactions

  abbrev last : ℕ
  last = v.last_transaction

  judged_keeps : (head : Head) (family stored : ℕ) (call : VolCall) → MakesOwn call → Keeps d (judged_by d head family stored ts last call)
  judged_keeps head family stored call h =
      let live : Table Transaction = without_family family ts in
      let kept : AreOf d.volumes live = rest_of d.volumes last family ts apart all in
      let own : Such d ts last (verdict d ts last head.stamp call) = verdict_such d ts last apart all head.stamp call h in
      either d (nat_lt head.stamp stored) _ _ all
      (either d (nat_lt stored head.stamp) _ _
      (raised_keeps d head family live last (verdict d live last head.stamp call) (not_written d.boot head ts last (verdict d ts last head.stamp call)) (verdict_such d live last (rest_apart d.volumes last family ts apart) kept head.stamp call h) kept (full_keeps d d.boot head ts last (verdict d ts last head.stamp call) own all))
      (same_keeps d head ts last (verdict d ts last head.stamp call) own all))

  carried_keeps : (head : Head) (c : Carried) → CarriesOwn c → Keeps d (vol_carried d v head c)
  carried_keeps head (carried.Call user (ask.Volume call)) h = judged_keeps head (family_of call) (stamp_of (family_of call) d) call h
  carried_keeps head (carried.Call user (ask.File call)) h = all
  carried_keeps head (carried.Call user (ask.Location call)) h = all
  carried_keeps head (carried.Refusal code) h = tt
  carried_keeps head (carried.Reply reply) h = tt
  carried_keeps head carried.Notice h = tt

  admits_keeps : (head : Head) (c : Carried) (a : Admitted Message) → CarriesOwn c → Keeps d (vol_admits d v head (Whole (record { head = head; carried = c })) a)
  admits_keeps head c pairs.runs h = either d (is_vol_caller head.from) _ _ (carried_keeps head c h) all
  admits_keeps head c (pairs.kept reply) h = tt
  admits_keeps head c pairs.in_progress h = tt
  admits_keeps head c pairs.older h = tt
  admits_keeps head c (pairs.wrong_boot boot) h = tt

  hears_keeps : (me : Node) (head : Head) (c : Carried) → CarriesOwn c → Keeps d (vol_hears me d v head c)
  hears_keeps me head (carried.Call user call) h = either d (same_node head.to me) _ drops (admits_keeps head (carried.Call user call) (admitted d.boot v.seats head) h) tt
  hears_keeps me head (carried.Refusal code) h = tt
  hears_keeps me head (carried.Reply reply) h = tt
  hears_keeps me head carried.Notice h = tt

  pub decided_keeps : (me : Node) (m : Message) → Fits m → Keeps d (vol_decides me d v (Whole m))
  decided_keeps me m h = hears_keeps me m.head m.carried h
