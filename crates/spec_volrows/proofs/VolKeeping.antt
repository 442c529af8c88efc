-- What a volume server writes can be taken, and leaves the fold of its record.
use Rattle.std.proofs.Common.{◌≡◌, ℕ, Bool, true, false, cond, List, [], ◌∷◌, ◌++◌, Option, Some, None, Result, Ok, Err, refl, sym, ap, ◌∙◌, eq-eqb, eqb-true}
use Rattle.std.specs.Prelude.{⊤, nat_eq, nat_lt, not, ◌||◌, length}
use Rattle.std.specs.List.{AllByRecursion}
use Rattle.afs_num.specs.Nodes.{node_number, node_of, same_node, IsNode}
use Rattle.afs_num.specs.declared.types.Head.{Head}
use Rattle.afs_num.specs.declared.types.Node.{Node}
use Rattle.afs_num.specs.declared.types.Node.TheVariants.{Loc, Server, Client, Admin}
use Rattle.afs_num.specs.declared.volume_calls.VolCall.{VolCall}
use Rattle.afs_num.specs.declared.volume_calls.VolCall.TheVariants as calls
use Rattle.afs_num.specs.declared.records.RecordBody.{RecordBody}
use Rattle.afs_num.specs.declared.records.RecordBody.TheVariants as bodies
use Rattle.afs_num.specs.declared.records.RecordHead.{RecordHead}
use Rattle.spec_ideal.specs.Operations.{is_last_count}
use Rattle.spec_ideal.specs.Tables.{Table, get, set}
use Rattle.spec_dumps.specs.Restores.{fed, restored_from}
use Rattle.spec_fold.specs.Deeds.{can_take, clone_put, done_by, flagged, has_volume, has_volume_room, on_stored, or_as_was, clone_made}
use Rattle.spec_fold.specs.Fold.{body_taken, folded}
use Rattle.spec_records.specs.Durable.{Durable, Kept, Stored, has_room, with_stamp, with_journal}
use Rattle.spec_records.specs.Records.{most_dump}
use Rattle.spec_rows.specs.ServerRow.{seat_for, seat_placed, journal_with}
use Rattle.spec_rows.specs.States.{Lasting, Seat, durable_of, kept_by_number, kept_of}
use Rattle.spec_volrows.proofs.Deciding.{each_decision}
use Rattle.spec_volrows.specs.VolLaws.{DeedsAreFolded, DeedsAreTold, DeedsAreWritable, OfSaved, if_there, withdrawn_by, IsWritable, taken_out}
use Rattle.spec_volrows.specs.VolRow.{Plan, Verdict, accepted, bad_dump, begins_on, clones_anew, dumps_piece, found, gives, in_its_volume, in_transaction, volume_held_code, is_held_by_other, is_there_already, no_room_left, part_given, refused, sends, refused_where, verdict, volume_of_family, whole_given, without_family}
use Rattle.spec_volrows.specs.VolStates.{Transaction}
use Rattle.spec_volrows.specs.VolSteps.{Deed, VolDecision, deed_head, deed_record, judged_by, not_written, or_stamp, raised_by, same_by, same_written, saves, written}

-- ---- verdicts: what an accepted call writes can be taken

unfoldable pub BodyTaken : Durable → Option ℕ → Option RecordBody → Type 0
BodyTaken d w None = w ≡ None
BodyTaken d w (Some body) = (can_take body d ≡ true) × (w ≡ withdrawn_by d body)

unfoldable pub Taken : Durable → Verdict → Type 0
Taken d (refused code after) = ⊤
Taken d (accepted p) = BodyTaken d p.withdraws p.body
Taken d (sends x) = ⊤

unless_taken : (d : Durable) (b : Bool) (code : ℕ) (v : Verdict) → (b ≡ false → Taken d v) → Taken d (refused_where b code v)
unfolding Taken
unless_taken d true code v h = tt
unless_taken d false code v h = h refl

long_taken : (d : Durable) (b : Bool) (number : ℕ) (v : Verdict) → Taken d v → Taken d (cond b (refused no_room_left (gives number [])) v)
unfolding Taken
long_taken d true number v h = tt
long_taken d false number v h = h

in_volume_taken : (d : Durable) (t : Transaction) (f : Transaction → Stored → Verdict) (o : Option Stored) → ((s : Stored) → o ≡ Some s → Taken d (f t s)) → Taken d (in_its_volume t f o)
unfolding Taken
in_volume_taken d t f None h = tt
in_volume_taken d t f (Some s) h = h s refl

in_taken : (d : Durable) (o : Option Transaction) (f : Transaction → Stored → Verdict) → ((t : Transaction) (s : Stored) → get t.volume d.volumes ≡ Some s → Taken d (f t s)) → Taken d (in_transaction d o f)
unfolding Taken
in_taken d None f h = tt
in_taken d (Some t) f h = in_volume_taken d t f (get t.volume d.volumes) (λ s e. h t s e)

has_it : (id : ℕ) (d : Durable) (s : Stored) → get id d.volumes ≡ Some s → has_volume id d ≡ true
has_it id d s e = rw e refl

whole_taken : (d : Durable) (number id : ℕ) (bytes : List ℕ) (s : Stored) (r : Result Stored ℕ) → get id d.volumes ≡ Some s → restored_from id s bytes ≡ r → Taken d (whole_given number id bytes r)
unfolding Taken BodyTaken
whole_taken d number id bytes s (Ok t) there is = (rw (there, is) refl, refl)
whole_taken d number id bytes s (Err offset) there is = tt

part_taken : (d : Durable) (number : ℕ) (bytes : List ℕ) (o : Option ℕ) → Taken d (part_given number bytes o)
unfolding Taken BodyTaken
part_taken d number bytes None = refl
part_taken d number bytes (Some offset) = tt

piece_taken : (b : Bool) (d : Durable) (number : ℕ) (bytes : List ℕ) (t : Transaction) (s : Stored) → get t.volume d.volumes ≡ Some s → Taken d (cond b (part_given number bytes (fed bytes)) (whole_given number t.volume bytes (restored_from t.volume s bytes)))
piece_taken true d number bytes t s there = part_taken d number bytes (fed bytes)
piece_taken false d number bytes t s there = whole_taken d number t.volume bytes s (restored_from t.volume s bytes) there refl

not_false : (a : Bool) → not a ≡ false → a ≡ true
not_false true e = refl
not_false false e = absurd cc

either_false : (a b : Bool) → (a || b) ≡ false → (a ≡ false) × (b ≡ false)
either_false true b e = absurd cc
either_false false b e = (refl, e)

room_or : (a b : Bool) → b ≡ true → (a || b) ≡ true
room_or true b e = refl
room_or false b e = e

begins_taken : (d : Durable) (ts : Table Transaction) (last stamp family id flags : ℕ) (o : Option Stored) → Taken d (begins_on ts last stamp family id flags o)
unfolding Taken BodyTaken
begins_taken d ts last stamp family id flags None = tt
begins_taken d ts last stamp family id flags (Some s) = unless_taken d (is_held_by_other 0 id ts) volume_held_code _ (λ e. refl)

of_family_there : (family : ℕ) (o : Option Stored) (s : Stored) → volume_of_family family o ≡ Some s → (x : Stored) × (o ≡ Some x)
of_family_there family None s e = absurd cc
of_family_there family (Some x) s e = (x, refl)

anew_taken : (d : Durable) (number : ℕ) (ts : Table Transaction) (id : ℕ) (t : Transaction) (s : Stored) (o : Option Stored) → get t.volume d.volumes ≡ Some s → ((old : Stored) → o ≡ Some old → has_volume id d ≡ true) → Taken d (clones_anew number ts id t s o)
unfolding Taken BodyTaken
anew_taken d number ts id t s None there h = tt
anew_taken d number ts id t s (Some old) there h =
    unless_taken d (is_held_by_other number id ts) volume_held_code _ (λ e. unless_taken d (is_last_count s.volume.release) no_room_left _ (λ f. (rw (there, h old refl) refl, ap (if_there id) (sym (h old refl)))))

dumps_taken : (d : Durable) (offset : ℕ) (bytes : List ℕ) → Taken d (dumps_piece offset bytes)
unfolding Taken BodyTaken
dumps_taken d offset bytes = unless_taken d (nat_lt (length bytes) offset) bad_dump _ (λ f. refl)

pub verdict_taken : (d : Durable) (ts : Table Transaction) (last stamp : ℕ) (call : VolCall) → Taken d (verdict d ts last stamp call)
unfolding Taken BodyTaken
verdict_taken d ts last stamp (calls.CreateVolume family id name kind flags quota) =
    unless_taken d (has_volume id d) is_there_already _ (λ e. unless_taken d (not (has_volume_room d)) no_room_left _ (λ f. (rw (e, not_false (has_volume_room d) f) refl, refl)))
verdict_taken d ts last stamp (calls.DeleteVolume family number) = in_taken d (found family number ts) _ (λ t s e. (has_it t.volume d s e, refl))
verdict_taken d ts last stamp (calls.Restore family number offset final piece) =
    in_taken d (found family number ts) _ (λ t s e. unless_taken d (not (nat_eq offset (length t.given))) bad_dump _ (λ f. long_taken d (nat_lt most_dump (length (t.given ++ piece))) number _ (piece_taken (nat_eq final 0) d number (t.given ++ piece) t s e)))
verdict_taken d ts last stamp (calls.Forward family number from server target) = in_taken d (found family number ts) _ (λ t s e. tt)
verdict_taken d ts last stamp (calls.EndTrans family number) = in_taken d (found family number ts) _ (λ t s e. refl)
verdict_taken d ts last stamp (calls.Clone family number id name kind) =
    unless_taken d (has_volume id d) is_there_already _
    (λ f. in_taken d (found family number ts) _ (λ t s e. unless_taken d (not (has_volume_room d) || is_last_count s.volume.release) no_room_left _
    (λ g. (rw e (room_or (has_volume id d) (has_volume_room d) (not_false (has_volume_room d) (either_false (not (has_volume_room d)) (is_last_count s.volume.release) g).0)), ap (if_there id) (sym f)))))
verdict_taken d ts last stamp (calls.SetFlags family number flags) = in_taken d (found family number ts) _ (λ t s e. (has_it t.volume d s e, ap (taken_out t.volume flags) (sym e)))
verdict_taken d ts last stamp (calls.GetFlags family number) = in_taken d (found family number ts) _ (λ t s e. refl)
verdict_taken d ts last stamp (calls.TransCreate family id flags) = begins_taken d ts last stamp family id flags (volume_of_family family (get id d.volumes))
verdict_taken d ts last stamp (calls.Dump family number from offset) = in_taken d (found family number ts) _ (λ t s e. dumps_taken d offset _)
verdict_taken d ts last stamp (calls.SetForwarding family number server) = in_taken d (found family number ts) _ (λ t s e. (has_it t.volume d s e, refl))
verdict_taken d ts last stamp (calls.GetStatus family number) = in_taken d (found family number ts) _ (λ t s e. refl)
verdict_taken d ts last stamp (calls.ListVols family) = refl
verdict_taken d ts last stamp (calls.ReClone family number id) =
    in_taken d (found family number ts) _ (λ t s e. anew_taken d number ts id t s (volume_of_family family (get id d.volumes)) e
    (λ old f. let x = of_family_there family (get id d.volumes) old f in has_it id d x.0 x.1))

-- ---- decisions: what is written can be taken, and fits

Writable : Durable → VolDecision → Type 0
Writable d x = OfSaved (IsWritable d) x

written_by : (b : Bool) (d : Durable) (head : Head) (x : Deed) (full : VolDecision) → has_room d (deed_record head x) ≡ b → can_take x.body d ≡ true → x.withdraws ≡ withdrawn_by d x.body → Writable d full → Writable d (cond b (saves head x) full)
unfolding Writable
written_by true d head x full room taken out h = record { taken = taken; room = room; withdraws = out }
written_by false d head x full room taken out h = h

written_fits : (d : Durable) (head : Head) (x : Deed) (full : VolDecision) → can_take x.body d ≡ true → x.withdraws ≡ withdrawn_by d x.body → Writable d full → Writable d (written d head x full)
written_fits d head x full taken out h = written_by (has_room d (deed_record head x)) d head x full refl taken out h

full_fits : (d : Durable) (boot : ℕ) (head : Head) (ts : Table Transaction) (last : ℕ) (v : Verdict) → Writable d (not_written boot head ts last v)
unfolding Writable
full_fits d boot head ts last (refused code after) = tt
full_fits d boot head ts last (accepted p) = tt
full_fits d boot head ts last (sends x) = tt

same_fits_body : (d : Durable) (head : Head) (ts : Table Transaction) (last : ℕ) (p : Plan) (o : Option RecordBody) → BodyTaken d p.withdraws o → Writable d (same_written d head ts last p o)
unfolding BodyTaken Writable
same_fits_body d head ts last p None h = tt
same_fits_body d head ts last p (Some body) h = written_fits d head _ (not_written d.boot head ts last (accepted p)) h.0 h.1 (full_fits d d.boot head ts last (accepted p))

same_fits : (d : Durable) (head : Head) (ts : Table Transaction) (last : ℕ) (v : Verdict) → Taken d v → Writable d (same_by d head ts last v)
unfolding Taken Writable
same_fits d head ts last (refused code after) h = tt
same_fits d head ts last (accepted p) h = same_fits_body d head ts last p p.body h
same_fits d head ts last (sends x) h = tt

pub stamp_taken : (d : Durable) (w : Option ℕ) (o : Option RecordBody) → BodyTaken d w o → (can_take (or_stamp o) d ≡ true) × (w ≡ withdrawn_by d (or_stamp o))
unfolding BodyTaken
stamp_taken d w None h = (refl, h)
stamp_taken d w (Some body) h = h

raised_fits : (d : Durable) (head : Head) (family : ℕ) (live : Table Transaction) (last : ℕ) (v : Verdict) (full : VolDecision) → Taken d v → Writable d full → Writable d (raised_by d head family live last v full)
unfolding Taken Writable
raised_fits d head family live last (refused code after) full h k = written_fits d head _ full refl refl k
raised_fits d head family live last (accepted p) full h k = let z = stamp_taken d p.withdraws p.body h in written_fits d head _ full z.0 z.1 k
raised_fits d head family live last (sends x) full h k = tt

one_of_three : (d : Durable) (a b : Bool) (x y z : VolDecision) → Writable d x → Writable d y → Writable d z → Writable d (cond a x (cond b y z))
one_of_three d true b x y z h k l = h
one_of_three d false true x y z h k l = k
one_of_three d false false x y z h k l = l

judged_fits : (d : Durable) (head : Head) (family stored : ℕ) (ts : Table Transaction) (last : ℕ) (call : VolCall) → Writable d (judged_by d head family stored ts last call)
unfolding Writable
judged_fits d head family stored ts last call =
    one_of_three d (nat_lt head.stamp stored) (nat_lt stored head.stamp) _ _ _ tt
    (raised_fits d head family (without_family family ts) last (verdict d (without_family family ts) last head.stamp call) (not_written d.boot head ts last (verdict d ts last head.stamp call)) (verdict_taken d (without_family family ts) last head.stamp call) (full_fits d d.boot head ts last (verdict d ts last head.stamp call)))
    (same_fits d head ts last (verdict d ts last head.stamp call) (verdict_taken d ts last head.stamp call))

pub deeds_are_writable : DeedsAreWritable
unfolding Writable
deeds_are_writable me d v m = each_decision (OfSaved (IsWritable d)) me d v m (record {
  dropped = tt;
  told = λ head. tt;
  repeated = λ reply. tt;
  refused = λ head code. tt;
  judged = λ head call. judged_fits d head _ _ v.transactions v.last_transaction call;
})

-- ---- the fold

same_node-refl : (a : Node) → same_node a a ≡ true
same_node-refl Loc = refl
same_node-refl (Server i) = eq-eqb i i refl
same_node-refl (Client i) = eq-eqb i i refl
same_node-refl (Admin i) = eq-eqb i i refl

same_node-true : (a b : Node) → same_node a b ≡ true → a ≡ b
same_node-true Loc Loc e = refl
same_node-true (Server i) (Server j) e = ap Server (eqb-true i j e)
same_node-true (Client i) (Client j) e = ap Client (eqb-true i j e)
same_node-true (Admin i) (Admin j) e = ap Admin (eqb-true i j e)
same_node-true a b e = absurd cc

some_of : {A : Type 0} (x y : A) → Some x ≡ Some y → x ≡ y
some_of {A} x y e = cc

no_number : (u : Bool) (a b : Node) → nat_eq (node_number a) (node_number b) ≡ u → same_node a b ≡ false → IsNode a → IsNode b → u ≡ false
no_number false a b u t p q = refl
no_number true a b u t p q =
    let numbers : node_number a ≡ node_number b = eqb-true (node_number a) (node_number b) u in
    let same : a ≡ b = some_of a b (sym p ∙ (ap node_of numbers ∙ q)) in
    let yes : same_node a b ≡ true = ap (same_node a) (sym same) ∙ same_node-refl a in
    absurd cc

numbers_by : (t : Bool) (a b : Node) → same_node a b ≡ t → IsNode a → IsNode b → nat_eq (node_number a) (node_number b) ≡ t
numbers_by true a b t p q = eq-eqb (node_number a) (node_number b) (ap node_number (same_node-true a b t))
numbers_by false a b t p q = no_number (nat_eq (node_number a) (node_number b)) a b refl t p q

placed_by : (x s : Seat) (seats : List Seat) (a b : Bool) → nat_eq (node_number s.caller) (node_number x.caller) ≡ a → nat_lt (node_number x.caller) (node_number s.caller) ≡ b → kept_by_number (seat_placed x seats) ≡ set (node_number x.caller) (kept_of x) (kept_by_number seats)
    → kept_by_number (cond a (x ∷ seats) (cond b (x ∷ s ∷ seats) (s ∷ seat_placed x seats))) ≡ set (node_number x.caller) (kept_of x) (kept_by_number (s ∷ seats))
placed_by x s seats true b p q ih = rw p refl
placed_by x s seats false true p q ih = rw (p, q) refl
placed_by x s seats false false p q ih = rw (p, q) (ap (λ (t : Table Kept). (node_number s.caller, kept_of s) ∷ t) ih)

kept_placed : (x : Seat) (seats : List Seat) → IsNode x.caller → AllByRecursion (λ (s : Seat). IsNode s.caller) seats → kept_by_number (seat_placed x seats) ≡ set (node_number x.caller) (kept_of x) (kept_by_number seats)
kept_placed x [] n h = refl
kept_placed x (s ∷ seats) n h = placed_by x s seats (same_node s.caller x.caller) (nat_lt (node_number x.caller) (node_number s.caller)) (numbers_by (same_node s.caller x.caller) s.caller x.caller refl h.0 n) refl (kept_placed x seats n h.1)

-- what a record does leaves boot, replies and lengths alone
pub record Keeps (e d : Durable) : Type 0 where
  pub boot : e.boot ≡ d.boot
  pub kept : e.kept ≡ d.kept
  pub journal : e.journal ≡ d.journal
  pub capacity : e.capacity ≡ d.capacity

keeps_itself : (d : Durable) → Keeps d d
keeps_itself d = record { boot = refl; kept = refl; journal = refl; capacity = refl }

stored_keeps : (id : ℕ) (f : Stored → Stored) (o : Option Stored) (d : Durable) → Keeps (on_stored id f o d) d
stored_keeps id f None d = keeps_itself d
stored_keeps id f (Some s) d = record { boot = refl; kept = refl; journal = refl; capacity = refl }

put_keeps : (source id : ℕ) (name : List ℕ) (kind release : ℕ) (s : Stored) (o : Option Stored) (d : Durable) → Keeps (clone_put source id name kind release s o d) d
put_keeps source id name kind release s None d = record { boot = refl; kept = refl; journal = refl; capacity = refl }
put_keeps source id name kind release s (Some old) d = record { boot = refl; kept = refl; journal = refl; capacity = refl }

clone_keeps : (source id : ℕ) (name : List ℕ) (kind release : ℕ) (o : Option Stored) (d : Durable) → Keeps (clone_made source id name kind release o d) d
clone_keeps source id name kind release None d = keeps_itself d
clone_keeps source id name kind release (Some s) d = put_keeps source id name kind release s (get id d.volumes) d

done_keeps : (body : RecordBody) (d : Durable) → Keeps (done_by body d) d
done_keeps (bodies.First volumes) d = keeps_itself d
done_keeps (bodies.Change id counter unique vnodes removed) d = keeps_itself d
done_keeps (bodies.Boot boot) d = keeps_itself d
done_keeps (bodies.Create id family name kind flags quota is_new) d = record { boot = refl; kept = refl; journal = refl; capacity = refl }
done_keeps (bodies.Delete id) d = record { boot = refl; kept = refl; journal = refl; capacity = refl }
done_keeps (bodies.Clone source id name kind release) d = clone_keeps source id name kind release (get source d.volumes) d
done_keeps (bodies.Restore id dump) d = stored_keeps id (λ s. or_as_was s (restored_from id s dump)) (get id d.volumes) d
done_keeps (bodies.Flags id flags) d = stored_keeps id (flagged flags) (get id d.volumes) d
done_keeps (bodies.Forward id to) d = record { boot = refl; kept = refl; journal = refl; capacity = refl }
done_keeps bodies.Stamp d = keeps_itself d

taken_is : (body : RecordBody) (d : Durable) → can_take body d ≡ true → body_taken body d ≡ Some (done_by body d)
taken_is (bodies.First volumes) d e = absurd cc
taken_is (bodies.Change id counter unique vnodes removed) d e = absurd cc
taken_is (bodies.Boot boot) d e = absurd cc
taken_is (bodies.Create id family name kind flags quota is_new) d e = rw e refl
taken_is (bodies.Delete id) d e = rw e refl
taken_is (bodies.Clone source id name kind release) d e = rw e refl
taken_is (bodies.Restore id dump) d e = rw e refl
taken_is (bodies.Flags id flags) d e = rw e refl
taken_is (bodies.Forward id to) d e = rw e refl
taken_is bodies.Stamp d e = refl

stamp_keeps_by : (b : Bool) (family stamp : ℕ) (e d : Durable) → Keeps e d → Keeps (cond b e (record e { stamps = set family stamp e.stamps })) d
stamp_keeps_by true family stamp e d k = k
stamp_keeps_by false family stamp e d k = record { boot = k.boot; kept = k.kept; journal = k.journal; capacity = k.capacity }

stamp_keeps : (h : RecordHead) (e d : Durable) → Keeps e d → Keeps (with_stamp h e) d
stamp_keeps h e d k = stamp_keeps_by (nat_eq h.stamp 0) h.family h.stamp e d k

-- the reply is kept, and the journal is longer
whole_is : (n : ℕ) (f : Durable) (l : Lasting) (k : Table Kept) → Keeps f (durable_of l) → k ≡ kept_by_number l.kept → (new : Table Kept) → (j : List Seat) → new ≡ kept_by_number j →
    with_journal n (record f { kept = new }) ≡ durable_of (record l { volumes = f.volumes; stamps = f.stamps; forwardings = f.forwardings; kept = j; journal = n })
whole_is n f l k keeps old new j is = λ i. record {
  boot = keeps.boot i;
  volumes = f.volumes;
  stamps = f.stamps;
  forwardings = f.forwardings;
  kept = is i;
  journal = n;
  capacity = keeps.capacity i;
}

pub deeds_are_folded : DeedsAreFolded
unfolding folded
deeds_are_folded l head x taken node all =
    let d : Durable = durable_of l in
    let h : RecordHead = deed_head head x in
    let f : Durable = with_stamp h (done_by x.body d) in
    let keeps : Keeps f d = stamp_keeps h (done_by x.body d) d (done_keeps x.body d) in
    let seat : Seat = seat_for head x.reply in
    let new : set (node_number head.from) (kept_of seat) f.kept ≡ kept_by_number (seat_placed seat l.kept) =
    ap (set (node_number head.from) (kept_of seat)) keeps.kept ∙ sym (kept_placed seat l.kept node all) in
    rw (taken_is x.body d taken) (ap (λ (e : Durable). Some e) (whole_is (journal_with (deed_record head x) l) f l (kept_by_number l.kept) keeps refl (set (node_number head.from) (kept_of seat) f.kept) (seat_placed seat l.kept) new))

pub deeds_are_told : DeedsAreTold
deeds_are_told = record { step = λ me l head x. refl; restart = λ me s head x ls. refl }
