-- Nobody asks a volume server for a clone that is a read-write volume: what messages, kept replies and decisions have to do with that.
use Rattle.std.proofs.Common.{◌≡◌, ℕ, Bool, true, false, cond, List, [], ◌∷◌, ◌++◌, Option, Some, None, Result, Ok, Err, is_some, refl, sym, ◌∙◌, nat_eq, nat_lt}
use Rattle.std.specs.Prelude.{⊤, ◌||◌, not, filter, length, if◌then◌else◌}
use Rattle.std.specs.List.{AllByRecursion}
use Rattle.afs_num.specs.Nodes.{node_number, same_node}
use Rattle.afs_num.specs.declared.messages.Call.{Call}
use Rattle.afs_num.specs.declared.messages.Call.TheVariants as ask
use Rattle.afs_num.specs.declared.messages.Carried.{Carried}
use Rattle.afs_num.specs.declared.messages.Carried.TheVariants as carried
use Rattle.afs_num.specs.declared.messages.Message.{Message}
use Rattle.afs_num.specs.declared.messages.Received.TheVariants.{Whole}
use Rattle.afs_num.specs.declared.records.RecordBody.{RecordBody}
use Rattle.afs_num.specs.declared.records.RecordBody.TheVariants as bodies
use Rattle.afs_num.specs.declared.types.Head.{Head}
use Rattle.afs_num.specs.declared.types.Node.{Node}
use Rattle.afs_num.specs.declared.volume_calls.VolCall.{VolCall}
use Rattle.afs_num.specs.declared.volume_calls.VolCall.TheVariants as calls
use Rattle.afs_num.specs.declared.volume_calls.VolReply.TheVariants as replies
use Rattle.spec_ideal.specs.Operations.{is_last_count}
use Rattle.spec_ideal.specs.Tables.{get, Table}
use Rattle.spec_model.specs.Calls.{admitted, call_seat, call_seated, compared, is_last_call, other_seats, pair_below, paired, repeated, started, finished, Admitted}
use Rattle.spec_model.specs.Calls as pairs
use Rattle.afs_num.specs.declared.types.Key.{Key}
use Rattle.spec_records.specs.Durable.{has_room, stamp_of, Durable, Stored}
use Rattle.spec_records.specs.Records.{most_dump}
use Rattle.spec_dumps.specs.Dumps.{dump_of}
use Rattle.spec_dumps.specs.Restores.{fed}
use Rattle.spec_dumps.specs.Streams.{dump_bytes, piece_at}
use Rattle.spec_fold.specs.Deeds.{has_volume, has_volume_room}
use Rattle.spec_rows.specs.ServerRow.{seat_placed}
use Rattle.spec_rows.specs.States.{Seat}
use Rattle.spec_volrows.specs.VolRow.{accepted, bad_dump, begins_on, clones_anew, dumps_piece, family_of, found, gives, in_its_volume, in_transaction, volume_held_code, is_held_by_other, is_there_already, last_after, last_word, most_piece, no_room_left, part_given, refused, sends, tells, transactions_after, refused_where, verdict, volume_of_family, whole_given, without_family, Plan, Verdict}
use Rattle.spec_volrows.specs.VolStates.{Transaction, VolState}
use Rattle.spec_volrows.specs.VolSteps.{deed_record, dispatches, drops, is_vol_caller, judged_by, not_written, or_stamp, raised_by, repeats, replies_to, same_by, same_written, saves, tells_boot, vol_admits, vol_carried, vol_decides, vol_hears, vol_refusal, vol_reply, written, Deed, VolDecision}
use Rattle.law_places.proofs.Shifting.{IsCopy}

-- ---- messages

-- a call for a clone asks for a volume of another kind than 0
abbrev pub MakesCopy : VolCall → Type 0
MakesCopy (calls.Clone family number id name kind) = nat_eq kind 0 ≡ false
MakesCopy call = ⊤

abbrev pub AsksCopy : Call → Type 0
AsksCopy (ask.Volume call) = MakesCopy call
AsksCopy (ask.File call) = ⊤
AsksCopy (ask.Location call) = ⊤

abbrev pub IsCopying : Carried → Type 0
IsCopying (carried.Call user call) = AsksCopy call
IsCopying (carried.Refusal code) = ⊤
IsCopying (carried.Reply reply) = ⊤
IsCopying carried.Notice = ⊤

abbrev pub Copies : Message → Type 0
Copies m = IsCopying m.carried

abbrev pub AllCopies : List Message → Type 0
AllCopies ms = AllByRecursion Copies ms

-- ---- lists

pub all_more : {A : Type 0} (P : A → Type 0) (xs ys : List A) → AllByRecursion P xs → AllByRecursion P ys → AllByRecursion P (xs ++ ys)
all_more {A} P [] ys h k = k
all_more {A} P (x ∷ xs) ys h k = (h.0, all_more P xs ys h.1 k)

all_if : {A : Type 0} (P : A → Type 0) (b : Bool) (x : A) (rest : List A) → P x → AllByRecursion P rest → AllByRecursion P (if b then x ∷ rest else rest)
all_if {A} P true x rest h k = (h, k)
all_if {A} P false x rest h k = k

pub all_filter : {A : Type 0} (P : A → Type 0) (keep : A → Bool) (xs : List A) → AllByRecursion P xs → AllByRecursion P (filter keep xs)
all_filter {A} P keep [] h = tt
all_filter {A} P keep (x ∷ xs) h = all_if P (keep x) x (filter keep xs) h.0 (all_filter P keep xs h.1)

-- ---- kept replies

abbrev pub ReplyCopies : Option Message → Type 0
ReplyCopies None = ⊤
ReplyCopies (Some m) = Copies m

abbrev pub SeatCopies : Seat → Type 0
SeatCopies seat = ReplyCopies seat.reply

abbrev pub SeatsCopy : List Seat → Type 0
SeatsCopy seats = AllByRecursion SeatCopies seats

pub seated_copies : (seat : Seat) (seats : List Seat) → SeatCopies seat → SeatsCopy seats → SeatsCopy (call_seated seat seats)
seated_copies seat seats h k = all_more SeatCopies (other_seats seat.caller seats) (seat ∷ []) (all_filter SeatCopies _ seats k) (h, tt)

placed_by : (a b : Bool) (x s : Seat) (seats rest : List Seat) → SeatCopies x → SeatCopies s → SeatsCopy seats → SeatsCopy rest → SeatsCopy (if a then x ∷ seats else (if b then x ∷ s ∷ seats else s ∷ rest))
placed_by true b x s seats rest h k all later = (h, all)
placed_by false true x s seats rest h k all later = (h, (k, all))
placed_by false false x s seats rest h k all later = (k, later)

pub placed_copies : (seat : Seat) (seats : List Seat) → SeatCopies seat → SeatsCopy seats → SeatsCopy (seat_placed seat seats)
placed_copies x [] h k = (h, tt)
placed_copies x (s ∷ seats) h k = placed_by (same_node s.caller x.caller) (nat_lt (node_number x.caller) (node_number s.caller)) x s seats (seat_placed x seats) h k.0 k.1 (placed_copies x seats h k.1)

abbrev FoundCopies : Option Seat → Type 0
FoundCopies None = ⊤
FoundCopies (Some seat) = SeatCopies seat

found_by : (b : Bool) (s : Seat) (o : Option Seat) → SeatCopies s → FoundCopies o → FoundCopies (if b then Some s else o)
found_by true s o h k = h
found_by false s o h k = k

found_copies : (n : Node) (seats : List Seat) → SeatsCopy seats → FoundCopies (call_seat n seats)
found_copies n [] h = tt
found_copies n (s ∷ seats) h = found_by (same_node s.caller n) s (call_seat n seats) h.0 (found_copies n seats h.1)

-- a kept reply that is sent again
abbrev pub AdmittedCopies : Admitted Message → Type 0
AdmittedCopies (pairs.kept reply) = Copies reply
AdmittedCopies pairs.runs = ⊤
AdmittedCopies pairs.in_progress = ⊤
AdmittedCopies pairs.older = ⊤
AdmittedCopies (pairs.wrong_boot boot) = ⊤

again_copies : (o : Option Message) → ReplyCopies o → AdmittedCopies (repeated o)
again_copies None h = tt
again_copies (Some m) h = h

compared_by : (a b : Bool) (o : Option Message) → ReplyCopies o → AdmittedCopies (if a then pairs.older else (if b then pairs.runs else repeated o))
compared_by true b o h = tt
compared_by false true o h = tt
compared_by false false o h = again_copies o h

paired_copies : (epoch number : ℕ) (o : Option Seat) → FoundCopies o → AdmittedCopies (paired epoch number o)
paired_copies epoch number None h = tt
paired_copies epoch number (Some seat) h = compared_by (pair_below epoch number seat.epoch seat.number) (pair_below seat.epoch seat.number epoch number) seat.reply h

admitted_by : (b : Bool) (boot : ℕ) (o : Admitted Message) → AdmittedCopies o → AdmittedCopies (if b then o else pairs.wrong_boot boot)
admitted_by true boot o h = h
admitted_by false boot o h = tt

pub admitted_copies : (boot : ℕ) (seats : List Seat) (head : Head) → SeatsCopy seats → AdmittedCopies (admitted boot seats head)
admitted_copies boot seats head h = admitted_by (nat_eq head.boot boot) boot _ (paired_copies head.epoch head.number (call_seat head.from seats) (found_copies head.from seats h))

pub started_copies : (key : Key) (seats : List Seat) → SeatsCopy seats → SeatsCopy (started key seats)
started_copies key seats h = seated_copies _ seats tt h

finished_by : (b : Bool) (x : Seat) (seats : List Seat) → SeatCopies x → SeatsCopy seats → SeatsCopy (if b then call_seated x seats else seats)
finished_by true x seats h k = seated_copies x seats h k
finished_by false x seats h k = k

pub finished_copies : (key : Key) (reply : Message) (seats : List Seat) → Copies reply → SeatsCopy seats → SeatsCopy (finished key reply seats)
finished_copies key reply seats h k = finished_by (is_last_call key (call_seat key.node seats)) _ seats h k

-- ---- what a volume server decides

abbrev BodyCopies : Durable → Option RecordBody → Type 0
BodyCopies d None = ⊤
BodyCopies d (Some body) = IsCopy d body

abbrev VerdictCopies : Durable → Verdict → Type 0
VerdictCopies d (refused code after) = ⊤
VerdictCopies d (accepted p) = BodyCopies d p.body
VerdictCopies d (sends x) = ⊤

unless_copies : (d : Durable) (b : Bool) (code : ℕ) (v : Verdict) → VerdictCopies d v → VerdictCopies d (refused_where b code v)
unless_copies d true code v h = tt
unless_copies d false code v h = h

long_copies : (d : Durable) (b : Bool) (number : ℕ) (v : Verdict) → VerdictCopies d v → VerdictCopies d (cond b (refused no_room_left (gives number [])) v)
long_copies d true number v h = tt
long_copies d false number v h = h

volume_copies : (d : Durable) (t : Transaction) (f : Transaction → Stored → Verdict) (o : Option Stored) → ((x : Stored) → VerdictCopies d (f t x)) → VerdictCopies d (in_its_volume t f o)
volume_copies d t f None h = tt
volume_copies d t f (Some x) h = h x

in_copies : (d : Durable) (o : Option Transaction) (f : Transaction → Stored → Verdict) → ((t : Transaction) (x : Stored) → VerdictCopies d (f t x)) → VerdictCopies d (in_transaction d o f)
in_copies d None f h = tt
in_copies d (Some t) f h = volume_copies d t f (get t.volume d.volumes) (h t)

whole_copies : (d : Durable) (number id : ℕ) (bytes : List ℕ) (r : Result Stored ℕ) → VerdictCopies d (whole_given number id bytes r)
whole_copies d number id bytes (Ok x) = tt
whole_copies d number id bytes (Err e) = tt

part_copies : (d : Durable) (number : ℕ) (bytes : List ℕ) (o : Option ℕ) → VerdictCopies d (part_given number bytes o)
part_copies d number bytes None = tt
part_copies d number bytes (Some e) = tt

piece_copies : (d : Durable) (b : Bool) (number id : ℕ) (bytes : List ℕ) (r : Result Stored ℕ) → VerdictCopies d (cond b (part_given number bytes (fed bytes)) (whole_given number id bytes r))
piece_copies d true number id bytes r = part_copies d number bytes (fed bytes)
piece_copies d false number id bytes r = whole_copies d number id bytes r

on_copies : (d : Durable) (ts : Table Transaction) (last stamp family id flags : ℕ) (o : Option Stored) → VerdictCopies d (begins_on ts last stamp family id flags o)
on_copies d ts last stamp family id flags None = tt
on_copies d ts last stamp family id flags (Some x) = unless_copies d (is_held_by_other 0 id ts) volume_held_code _ tt

dumps_copies : (d : Durable) (offset : ℕ) (bytes : List ℕ) → VerdictCopies d (dumps_piece offset bytes)
dumps_copies d offset bytes = unless_copies d (nat_lt (length bytes) offset) bad_dump (tells (replies.Dump (last_word offset bytes) (piece_at most_piece offset bytes))) tt

-- a volume that is cloned anew is there
of_family_some : (family : ℕ) (o : Option Stored) (old : Stored) → volume_of_family family o ≡ Some old → is_some o ≡ true
of_family_some family None old e = absurd cc
of_family_some family (Some s) old e = refl

there_copies : (d : Durable) (id kind : ℕ) → has_volume id d ≡ true → has_volume id d ≡ false → nat_eq kind 0 ≡ false
there_copies d id kind there none = let z : true ≡ false = sym there ∙ none in absurd cc

anew_copies : (d : Durable) (number : ℕ) (ts : Table Transaction) (family id : ℕ) (t : Transaction) (x : Stored) (o : Option Stored) → volume_of_family family (get id d.volumes) ≡ o → VerdictCopies d (clones_anew number ts id t x o)
anew_copies d number ts family id t x None is = tt
anew_copies d number ts family id t x (Some old) is =
    unless_copies d (is_held_by_other number id ts) volume_held_code _ (unless_copies d (is_last_count x.volume.release) no_room_left _ (there_copies d id old.volume.kind (of_family_some family (get id d.volumes) old is)))

verdict_copies : (d : Durable) (ts : Table Transaction) (last stamp : ℕ) (call : VolCall) → MakesCopy call → VerdictCopies d (verdict d ts last stamp call)
verdict_copies d ts last stamp (calls.CreateVolume family id name kind flags quota) h = unless_copies d (has_volume id d) is_there_already _ (unless_copies d (not (has_volume_room d)) no_room_left _ tt)
verdict_copies d ts last stamp (calls.DeleteVolume family number) h = in_copies d (found family number ts) _ (λ t x. tt)
verdict_copies d ts last stamp (calls.Restore family number offset final piece) h =
    in_copies d (found family number ts) _ (λ t x. unless_copies d (not (nat_eq offset (length t.given))) bad_dump _ (long_copies d (nat_lt most_dump (length (t.given ++ piece))) number _ (piece_copies d (nat_eq final 0) number t.volume (t.given ++ piece) _)))
verdict_copies d ts last stamp (calls.Forward family number from server target) h = in_copies d (found family number ts) _ (λ t x. tt)
verdict_copies d ts last stamp (calls.EndTrans family number) h = in_copies d (found family number ts) _ (λ t x. tt)
verdict_copies d ts last stamp (calls.Clone family number id name kind) h =
    unless_copies d (has_volume id d) is_there_already _ (in_copies d (found family number ts) _ (λ t x. unless_copies d (not (has_volume_room d) || is_last_count x.volume.release) no_room_left _ (λ none. h)))
verdict_copies d ts last stamp (calls.SetFlags family number flags) h = in_copies d (found family number ts) _ (λ t x. tt)
verdict_copies d ts last stamp (calls.GetFlags family number) h = in_copies d (found family number ts) _ (λ t x. tt)
verdict_copies d ts last stamp (calls.TransCreate family id flags) h = on_copies d ts last stamp family id flags (volume_of_family family (get id d.volumes))
verdict_copies d ts last stamp (calls.Dump family number from offset) h = in_copies d (found family number ts) _ (λ t x. dumps_copies d offset (dump_bytes (dump_of t.volume from x)))
verdict_copies d ts last stamp (calls.SetForwarding family number server) h = in_copies d (found family number ts) _ (λ t x. tt)
verdict_copies d ts last stamp (calls.GetStatus family number) h = in_copies d (found family number ts) _ (λ t x. tt)
verdict_copies d ts last stamp (calls.ListVols family) h = tt
verdict_copies d ts last stamp (calls.ReClone family number id) h = in_copies d (found family number ts) _ (λ t x. anew_copies d number ts family id t x (volume_of_family family (get id d.volumes)) refl)

-- what is sent, kept or written is such
abbrev pub DecisionCopies : Durable → VolDecision → Type 0
DecisionCopies d drops = ⊤
DecisionCopies d (tells_boot head) = ⊤
DecisionCopies d (repeats reply) = Copies reply
DecisionCopies d (replies_to head reply ts last) = Copies reply
DecisionCopies d (dispatches head x) = ⊤
DecisionCopies d (saves head x) = Copies x.reply × IsCopy d x.body

not_copies : (d : Durable) (boot : ℕ) (head : Head) (ts : Table Transaction) (last : ℕ) (v : Verdict) → DecisionCopies d (not_written boot head ts last v)
not_copies d boot head ts last (refused code after) = tt
not_copies d boot head ts last (accepted p) = tt
not_copies d boot head ts last (sends x) = tt

written_by : (d : Durable) (b : Bool) (head : Head) (x : Deed) (full : VolDecision) → Copies x.reply → IsCopy d x.body → DecisionCopies d full → DecisionCopies d (if b then saves head x else full)
written_by d true head x full r h k = (r, h)
written_by d false head x full r h k = k

written_copies : (d : Durable) (head : Head) (x : Deed) (full : VolDecision) → Copies x.reply → IsCopy d x.body → DecisionCopies d full → DecisionCopies d (written d head x full)
written_copies d head x full r h k = written_by d (has_room d (deed_record head x)) head x full r h k

same_copies_by : (d : Durable) (head : Head) (ts : Table Transaction) (last : ℕ) (p : Plan) (o : Option RecordBody) → BodyCopies d o → DecisionCopies d (same_written d head ts last p o)
same_copies_by d head ts last p None h = tt
same_copies_by d head ts last p (Some body) h = written_copies d head (record {
  reply = vol_reply d.boot head p.reply;
  body = body;
  family = 0;
  stamp = 0;
  withdraws = p.withdraws;
  transactions = transactions_after last p.after ts;
  last = last_after last p.after;
}) (not_written d.boot head ts last (accepted p)) tt h (not_copies d d.boot head ts last (accepted p))

same_copies : (d : Durable) (head : Head) (ts : Table Transaction) (last : ℕ) (v : Verdict) → VerdictCopies d v → DecisionCopies d (same_by d head ts last v)
same_copies d head ts last (refused code after) h = tt
same_copies d head ts last (accepted p) h = same_copies_by d head ts last p p.body h
same_copies d head ts last (sends x) h = tt

stamp_copies : (d : Durable) (o : Option RecordBody) → BodyCopies d o → IsCopy d (or_stamp o)
stamp_copies d None h = tt
stamp_copies d (Some body) h = h

raised_copies : (d : Durable) (head : Head) (family : ℕ) (live : Table Transaction) (last : ℕ) (v : Verdict) (full : VolDecision) → VerdictCopies d v → DecisionCopies d full → DecisionCopies d (raised_by d head family live last v full)
raised_copies d head family live last (refused code after) full h k = written_copies d head (record {
  reply = vol_refusal d.boot head code;
  body = bodies.Stamp;
  family = family;
  stamp = head.stamp;
  withdraws = None;
  transactions = transactions_after last after live;
  last = last_after last after;
}) full tt tt k
raised_copies d head family live last (accepted p) full h k = written_copies d head (record {
  reply = vol_reply d.boot head p.reply;
  body = or_stamp p.body;
  family = family;
  stamp = head.stamp;
  withdraws = p.withdraws;
  transactions = transactions_after last p.after live;
  last = last_after last p.after;
}) full tt (stamp_copies d p.body h) k
raised_copies d head family live last (sends x) full h k = tt

either_copies : (d : Durable) (b : Bool) (x y : VolDecision) → DecisionCopies d x → DecisionCopies d y → DecisionCopies d (cond b x y)
either_copies d true x y h k = h
either_copies d false x y h k = k

judged_copies : (d : Durable) (head : Head) (family stored : ℕ) (ts : Table Transaction) (last : ℕ) (call : VolCall) → MakesCopy call → DecisionCopies d (judged_by d head family stored ts last call)
judged_copies d head family stored ts last call h =
    either_copies d (nat_lt head.stamp stored) _ _ tt
    (either_copies d (nat_lt stored head.stamp) _ _
    (raised_copies d head family (without_family family ts) last (verdict d (without_family family ts) last head.stamp call) (not_written d.boot head ts last (verdict d ts last head.stamp call)) (verdict_copies d (without_family family ts) last head.stamp call h) (not_copies d d.boot head ts last (verdict d ts last head.stamp call)))
    (same_copies d head ts last (verdict d ts last head.stamp call) (verdict_copies d ts last head.stamp call h)))

carried_copies : (d : Durable) (v : VolState) (head : Head) (c : Carried) → IsCopying c → DecisionCopies d (vol_carried d v head c)
carried_copies d v head (carried.Call user (ask.Volume call)) h = judged_copies d head (family_of call) (stamp_of (family_of call) d) v.transactions v.last_transaction call h
carried_copies d v head (carried.Call user (ask.File call)) h = tt
carried_copies d v head (carried.Call user (ask.Location call)) h = tt
carried_copies d v head (carried.Refusal code) h = tt
carried_copies d v head (carried.Reply reply) h = tt
carried_copies d v head carried.Notice h = tt

admits_copies : (d : Durable) (v : VolState) (head : Head) (c : Carried) (a : Admitted Message) → IsCopying c → AdmittedCopies a → DecisionCopies d (vol_admits d v head (Whole (record { head = head; carried = c })) a)
admits_copies d v head c pairs.runs h k = either_copies d (is_vol_caller head.from) _ _ (carried_copies d v head c h) tt
admits_copies d v head c (pairs.kept reply) h k = k
admits_copies d v head c pairs.in_progress h k = tt
admits_copies d v head c pairs.older h k = tt
admits_copies d v head c (pairs.wrong_boot boot) h k = tt

hears_copies : (me : Node) (d : Durable) (v : VolState) (head : Head) (c : Carried) → IsCopying c → SeatsCopy v.seats → DecisionCopies d (vol_hears me d v head c)
hears_copies me d v head (carried.Call user call) h k =
    either_copies d (same_node head.to me) _ drops (admits_copies d v head (carried.Call user call) (admitted d.boot v.seats head) h (admitted_copies d.boot v.seats head k)) tt
hears_copies me d v head (carried.Refusal code) h k = tt
hears_copies me d v head (carried.Reply reply) h k = tt
hears_copies me d v head carried.Notice h k = tt

pub decided_copies : (me : Node) (d : Durable) (v : VolState) (m : Message) → Copies m → SeatsCopy v.seats → DecisionCopies d (vol_decides me d v (Whole m))
decided_copies me d v m h k = hears_copies me d v m.head m.carried h k
