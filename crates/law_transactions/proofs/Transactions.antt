-- What is so of every transaction, by its number, its volume, its family and its stamp, stays so over each step of a server, where it is so
-- of one with a new number for which the step's call asks. The last number doesn't fall.
use Rattle.std.proofs.Common.{◌≡◌, ◌≤◌, ◌<◌, ℕ, ◌+◌, ℤ, Bool, true, false, cond, List, [], ◌∷◌, ◌++◌, Option, Some, None, Result, Ok, Err, refl, sym, subst, arith, eqb-true}
use Rattle.std.specs.Prelude.{⊤, not, ◌||◌, ◌&&◌, filter, length, nat_eq, nat_lt}
use Rattle.std.specs.List.{AllByRecursion}
use Rattle.afs_num.specs.Nodes.{same_node}
use Rattle.afs_num.specs.declared.messages.Call.{Call}
use Rattle.afs_num.specs.declared.messages.Call.TheVariants as ask
use Rattle.afs_num.specs.declared.messages.Carried.{Carried}
use Rattle.afs_num.specs.declared.messages.Carried.TheVariants as carried
use Rattle.afs_num.specs.declared.messages.Message.{Message}
use Rattle.afs_num.specs.declared.messages.Received.TheVariants.{Whole}
use Rattle.afs_num.specs.declared.records.RecordBody.{RecordBody}
use Rattle.afs_num.specs.declared.types.Head.{Head}
use Rattle.afs_num.specs.declared.types.Node.{Node}
use Rattle.afs_num.specs.declared.types.Node.TheVariants.{Server}
use Rattle.afs_num.specs.declared.volume_calls.VolCall.{VolCall}
use Rattle.afs_num.specs.declared.volume_calls.VolCall.TheVariants as calls
use Rattle.spec_ideal.specs.Operations.{is_last_count, is_number}
use Rattle.spec_ideal.specs.Tables.{get, set, unset, Table}
use Rattle.spec_dumps.specs.Dumps.{dump_of}
use Rattle.spec_dumps.specs.Restores.{fed, restored_from}
use Rattle.spec_dumps.specs.Streams.{dump_bytes}
use Rattle.spec_fold.specs.Deeds.{has_volume, has_volume_room}
use Rattle.spec_model.specs.Calls.{admitted, call_seat, is_sent_again, paired, Admitted, key_of}
use Rattle.spec_model.specs.Calls as pairs
use Rattle.spec_records.specs.Durable.{has_room, stamp_of, Durable, Stored}
use Rattle.spec_records.specs.Records.{most_dump}
use Rattle.spec_rows.specs.Callbacks.{expired, is_ready, put_at}
use Rattle.spec_rows.specs.ServerRow.{not_served}
use Rattle.spec_rows.specs.States.{durable_of, Backs, Held, Lasting, Seat}
use Rattle.spec_history.specs.declared.lines.Line.{Line}
use Rattle.spec_volrows.specs.VolRow.{accepted, bad_dump, begins, begins_on, clones_anew, dumps_piece, ends, family_of, found, gave, gives, in_its_volume, in_transaction, volume_held_code, is_held_by_other, is_there_already, last_after, no_room_left, part_given, refused, sends, stay, transactions_after, refused_where, verdict, volume_of_family, whole_given, without_family, After, Dispatch, Plan, Verdict}
use Rattle.spec_volrows.specs.VolStates.{NodeState, PieceCall, Sending, Transaction, VolState}
use Rattle.spec_volrows.specs.VolSteps.{answered_by, code_told, deed_record, dispatches, drops, ends_sending, forward_reply, given_up, sending_goes_on, in_progress, is_awaited, is_of_client, is_vol_caller, judged, piece_gone, next_by, next_piece, node_row, not_written, or_stamp, queued, raised_by, refuses_vol, repeats, replies_to, same_by, same_written, saves, sent_whole, tells_boot, vol_admits, vol_answers, vol_carried, vol_decides, vol_hears, vol_refusal, vol_renews, vol_repeats, vol_rests, vol_seated, vol_timed, vol_told, vol_told_by, vol_turn, vol_turned_by, when_full, with_transactions, written, Deed, VolDecision, VolTurn}
use Rattle.law_transactions.specs.Begun.{AsksFor}

-- of the number, the volume, the family and the stamp of a transaction; numbers above this one are new
module _ (P : ℕ → ℕ → ℕ → ℕ → Type 0) (low : ℕ) where
  abbrev pub Is : ℕ → Transaction → Type 0
  Is n t = P n t.volume t.family t.stamp

  abbrev pub AllAre : Table Transaction → Type 0
  AllAre ts = AllByRecursion (λ (p : ℕ × Transaction). Is p.0 p.1) ts

  -- with the last number
  abbrev pub Fine : ℕ → Table Transaction → Type 0
  Fine last ts = (low ≤ last) × AllAre ts

  set_by : (a b : Bool) (n : ℕ) (x : Transaction) (p : ℕ × Transaction) (ps : Table Transaction) → Is n x → Is p.0 p.1 → AllAre ps → AllAre (set n x ps) → AllAre (cond a ((n, x) ∷ ps) (cond b ((n, x) ∷ p ∷ ps) (p ∷ set n x ps)))
  set_by true b n x p ps h k all later = (h, all)
  set_by false true n x p ps h k all later = (h, (k, all))
  set_by false false n x p ps h k all later = (k, later)

  all_set : (n : ℕ) (x : Transaction) (t : Table Transaction) → Is n x → AllAre t → AllAre (set n x t)
  all_set n x [] h all = (h, tt)
  all_set n x (p ∷ ps) h all = set_by (nat_eq p.0 n) (nat_lt n p.0) n x p ps h all.0 all.1 (all_set n x ps h all.1)

  filter_by : (b : Bool) (p : ℕ × Transaction) (rest : Table Transaction) → Is p.0 p.1 → AllAre rest → AllAre (cond b (p ∷ rest) rest)
  filter_by true p rest h all = (h, all)
  filter_by false p rest h all = all

  all_kept : (keep : ℕ × Transaction → Bool) (t : Table Transaction) → AllAre t → AllAre (filter keep t)
  all_kept keep [] all = tt
  all_kept keep (p ∷ ps) all = filter_by (keep p) p (filter keep ps) all.0 (all_kept keep ps all.1)

  get_by : (b : Bool) (n : ℕ) (p : ℕ × Transaction) (o : Option Transaction) (t : Transaction) → nat_eq p.0 n ≡ b → Is p.0 p.1 → (o ≡ Some t → Is n t) → cond b (Some p.1) o ≡ Some t → Is n t
  get_by true n p o t is h later e = let same : p.1 ≡ t = cc in subst (Is n) same (subst (λ (k : ℕ). Is k p.1) (eqb-true p.0 n is) h)
  get_by false n p o t is h later e = later e

  pub all_get : (n : ℕ) (ts : Table Transaction) (t : Transaction) → AllAre ts → get n ts ≡ Some t → Is n t
  all_get n [] t all e = absurd cc
  all_get n (p ∷ ps) t all e = get_by (nat_eq p.0 n) n p (get n ps) t refl all.0 (all_get n ps t all.1) e

  gave_all : (number : ℕ) (bytes : List ℕ) (o : Option Transaction) (ts : Table Transaction) → AllAre ts → ((t : Transaction) → o ≡ Some t → Is number t) → AllAre (gave number bytes o ts)
  gave_all number bytes None ts all h = all
  gave_all number bytes (Some t) ts all h = all_set number (record t { given = bytes }) ts (h t refl) all

  -- ---- what a call does to them

  abbrev BeginsSuch : After → Type 0
  BeginsSuch (begins id f flags s) = (n : ℕ) → low < n → P n id f s
  BeginsSuch stay = ⊤
  BeginsSuch (ends number) = ⊤
  BeginsSuch (gives number bytes) = ⊤

  one_more : (last : ℕ) → low ≤ last → low < last + 1
  one_more last up = omega (arith, up)

  after_all : (last : ℕ) (after : After) (ts : Table Transaction) → BeginsSuch after → Fine last ts → Fine (last_after last after) (transactions_after last after ts)
  after_all last stay ts h all = all
  after_all last (begins id f flags s) ts h all =
      let up : low ≤ last = all.0 in (omega (arith, up), all_set (last + 1) (record { volume = id; family = f; flags = flags; stamp = s; given = [] }) ts (h (last + 1) (one_more last up)) all.1)
  after_all last (ends number) ts h all = (all.0, all_kept _ ts all.1)
  after_all last (gives number bytes) ts h all = (all.0, gave_all number bytes (get number ts) ts all.1 (λ t e. all_get number ts t all.1 e))

  abbrev Such : Verdict → Type 0
  Such (refused code after) = BeginsSuch after
  Such (accepted p) = BeginsSuch p.after
  Such (sends x) = ⊤

  unless_such : (b : Bool) (code : ℕ) (v : Verdict) → Such v → Such (refused_where b code v)
  unless_such true code v h = tt
  unless_such false code v h = h

  long_such : (b : Bool) (number : ℕ) (v : Verdict) → Such v → Such (cond b (refused no_room_left (gives number [])) v)
  long_such true number v h = tt
  long_such false number v h = h

  volume_such : (t : Transaction) (g : Transaction → Stored → Verdict) (o : Option Stored) → ((x : Stored) → Such (g t x)) → Such (in_its_volume t g o)
  volume_such t g None h = tt
  volume_such t g (Some x) h = h x

  in_such : (d : Durable) (o : Option Transaction) (g : Transaction → Stored → Verdict) → ((t : Transaction) (x : Stored) → Such (g t x)) → Such (in_transaction d o g)
  in_such d None g h = tt
  in_such d (Some t) g h = volume_such t g (get t.volume d.volumes) (h t)

  whole_such : (number id : ℕ) (bytes : List ℕ) (r : Result Stored ℕ) → Such (whole_given number id bytes r)
  whole_such number id bytes (Ok x) = tt
  whole_such number id bytes (Err e) = tt

  part_such : (number : ℕ) (bytes : List ℕ) (o : Option ℕ) → Such (part_given number bytes o)
  part_such number bytes None = tt
  part_such number bytes (Some e) = tt

  piece_such : (b : Bool) (number id : ℕ) (bytes : List ℕ) (r : Result Stored ℕ) → Such (cond b (part_given number bytes (fed bytes)) (whole_given number id bytes r))
  piece_such true number id bytes r = part_such number bytes (fed bytes)
  piece_such false number id bytes r = whole_such number id bytes r

  on_such : (ts : Table Transaction) (last stamp family id flags : ℕ) (o : Option Stored) → ((n : ℕ) → low < n → P n id family stamp) → Such (begins_on ts last stamp family id flags o)
  on_such ts last stamp family id flags None h = tt
  on_such ts last stamp family id flags (Some x) h = unless_such (is_held_by_other 0 id ts) volume_held_code _ h

  anew_such : (number : ℕ) (ts : Table Transaction) (id : ℕ) (t : Transaction) (x : Stored) (o : Option Stored) → Such (clones_anew number ts id t x o)
  anew_such number ts id t x None = tt
  anew_such number ts id t x (Some old) = unless_such (is_held_by_other number id ts) volume_held_code _ (unless_such (is_last_count x.volume.release) no_room_left _ tt)

  verdict_such : (d : Durable) (ts : Table Transaction) (last stamp : ℕ) (call : VolCall) → ((n volume family : ℕ) → low < n → AsksFor volume family call → P n volume family stamp) → Such (verdict d ts last stamp call)
  verdict_such d ts last stamp (calls.CreateVolume family id name kind flags quota) h = unless_such (has_volume id d) is_there_already _ (unless_such (not (has_volume_room d)) no_room_left _ (λ n new. h n id family new (refl, refl)))
  verdict_such d ts last stamp (calls.DeleteVolume family number) h = in_such d (found family number ts) _ (λ t x. tt)
  verdict_such d ts last stamp (calls.Restore family number offset final piece) h =
      in_such d (found family number ts) _ (λ t x. unless_such (not (nat_eq offset (length t.given))) bad_dump _ (long_such (nat_lt most_dump (length (t.given ++ piece))) number _ (piece_such (nat_eq final 0) number t.volume (t.given ++ piece) (restored_from t.volume x (t.given ++ piece)))))
  verdict_such d ts last stamp (calls.Forward family number from server target) h = in_such d (found family number ts) _ (λ t x. tt)
  verdict_such d ts last stamp (calls.EndTrans family number) h = in_such d (found family number ts) _ (λ t x. tt)
  verdict_such d ts last stamp (calls.Clone family number id name kind) h = unless_such (has_volume id d) is_there_already _ (in_such d (found family number ts) _ (λ t x. unless_such (not (has_volume_room d) || is_last_count x.volume.release) no_room_left _ tt))
  verdict_such d ts last stamp (calls.SetFlags family number flags) h = in_such d (found family number ts) _ (λ t x. tt)
  verdict_such d ts last stamp (calls.GetFlags family number) h = in_such d (found family number ts) _ (λ t x. tt)
  verdict_such d ts last stamp (calls.TransCreate family id flags) h = on_such ts last stamp family id flags (volume_of_family family (get id d.volumes)) (λ n new. h n id family new (refl, refl))
  verdict_such d ts last stamp (calls.Dump family number from offset) h = in_such d (found family number ts) _ (λ t x. unless_such (nat_lt (length (dump_bytes (dump_of t.volume from x))) offset) bad_dump _ tt)
  verdict_such d ts last stamp (calls.SetForwarding family number server) h = in_such d (found family number ts) _ (λ t x. tt)
  verdict_such d ts last stamp (calls.GetStatus family number) h = in_such d (found family number ts) _ (λ t x. tt)
  verdict_such d ts last stamp (calls.ListVols family) h = tt
  verdict_such d ts last stamp (calls.ReClone family number id) h = in_such d (found family number ts) _ (λ t x. anew_such number ts id t x (volume_of_family family (get id d.volumes)))

  -- a call that finds no room begins none
  full_such : (after : After) → BeginsSuch (when_full after)
  full_such stay = tt
  full_such (begins id f flags s) = tt
  full_such (ends number) = tt
  full_such (gives number bytes) = tt

  -- ---- behind a decision

  abbrev pub Leaves : VolDecision → Type 0
  Leaves (replies_to head reply ts last) = Fine last ts
  Leaves (saves head x) = Fine x.last x.transactions
  Leaves drops = ⊤
  Leaves (tells_boot head) = ⊤
  Leaves (repeats reply) = ⊤
  Leaves (dispatches head x) = ⊤

  either_leaves : (b : Bool) (x y : VolDecision) → Leaves x → Leaves y → Leaves (cond b x y)
  either_leaves true x y h k = h
  either_leaves false x y h k = k

  full_leaves : (boot : ℕ) (head : Head) (ts : Table Transaction) (last : ℕ) (v : Verdict) → Such v → Fine last ts → Leaves (not_written boot head ts last v)
  full_leaves boot head ts last (refused code after) h all = after_all last after ts h all
  full_leaves boot head ts last (accepted p) h all = after_all last (when_full p.after) ts (full_such p.after) all
  full_leaves boot head ts last (sends x) h all = all

  same_leaves_body : (d : Durable) (head : Head) (ts : Table Transaction) (last : ℕ) (p : Plan) (o : Option RecordBody) → BeginsSuch p.after → Fine last ts → Leaves (same_written d head ts last p o)
  same_leaves_body d head ts last p None h all = after_all last p.after ts h all
  same_leaves_body d head ts last p (Some body) h all = either_leaves (has_room d _) _ (not_written d.boot head ts last (accepted p)) (after_all last p.after ts h all) (full_leaves d.boot head ts last (accepted p) h all)

  same_leaves : (d : Durable) (head : Head) (ts : Table Transaction) (last : ℕ) (v : Verdict) → Such v → Fine last ts → Leaves (same_by d head ts last v)
  same_leaves d head ts last (refused code after) h all = after_all last after ts h all
  same_leaves d head ts last (accepted p) h all = same_leaves_body d head ts last p p.body h all
  same_leaves d head ts last (sends x) h all = tt

  raised_leaves : (d : Durable) (head : Head) (family : ℕ) (live : Table Transaction) (last : ℕ) (v : Verdict) (full : VolDecision) → Such v → Fine last live → Leaves full → Leaves (raised_by d head family live last v full)
  raised_leaves d head family live last (refused code after) full h all k = either_leaves (has_room d _) _ full (after_all last after live h all) k
  raised_leaves d head family live last (accepted p) full h all k = either_leaves (has_room d _) _ full (after_all last p.after live h all) k
  raised_leaves d head family live last (sends x) full h all k = tt

  judged_leaves : (d : Durable) (v : VolState) (head : Head) (call : VolCall) → ((n volume family : ℕ) → low < n → AsksFor volume family call → P n volume family head.stamp) → Fine v.last_transaction v.transactions → Leaves (judged d v head call)
  judged_leaves d v head call h all =
      let f : ℕ = family_of call in
      let live : Table Transaction = without_family f v.transactions in
      let kept : Fine v.last_transaction live = (all.0, all_kept _ v.transactions all.1) in
      let full : VolDecision = not_written d.boot head v.transactions v.last_transaction (verdict d v.transactions v.last_transaction head.stamp call) in
      either_leaves (nat_lt head.stamp (stamp_of f d)) _ _ all
      (either_leaves (nat_lt (stamp_of f d) head.stamp) _ _ (raised_leaves d head f live v.last_transaction (verdict d live v.last_transaction head.stamp call) full (verdict_such d live v.last_transaction head.stamp call h) kept (full_leaves d.boot head v.transactions v.last_transaction _ (verdict_such d v.transactions v.last_transaction head.stamp call h) all))
      (same_leaves d head v.transactions v.last_transaction _ (verdict_such d v.transactions v.last_transaction head.stamp call h) all))

  -- on what a node was given: a call that runs has the boot that the server has
  abbrev pub AskedBy : Durable → Head → Carried → Type 0
  AskedBy d head x = (user : List ℕ) (call : VolCall) (n volume family : ℕ) → low < n → x ≡ carried.Call user (ask.Volume call) → head.boot ≡ d.boot → AsksFor volume family call → P n volume family head.stamp

  carried_leaves : (d : Durable) (v : VolState) (head : Head) (user : List ℕ) (call : Call) → head.boot ≡ d.boot → AskedBy d head (carried.Call user call) → Fine v.last_transaction v.transactions → Leaves (vol_carried d v head (carried.Call user call))
  carried_leaves d v head user (ask.Volume call) now h all = judged_leaves d v head call (λ n volume family new asks. h user call n volume family new refl now asks) all
  carried_leaves d v head user (ask.File call) now h all = all
  carried_leaves d v head user (ask.Location call) now h all = all

  admits_leaves : (d : Durable) (v : VolState) (head : Head) (user : List ℕ) (call : Call) (a : Admitted Message) → (a ≡ pairs.runs → head.boot ≡ d.boot) → AskedBy d head (carried.Call user call) → Fine v.last_transaction v.transactions →
      Leaves (vol_admits d v head (Whole (record { head = head; carried = carried.Call user call })) a)
  admits_leaves d v head user call pairs.runs now h all = either_leaves (is_vol_caller head.from) _ (refuses_vol d v head not_served) (carried_leaves d v head user call (now refl) h all) all
  admits_leaves d v head user call (pairs.kept reply) now h all = tt
  admits_leaves d v head user call pairs.in_progress now h all = tt
  admits_leaves d v head user call pairs.older now h all = tt
  admits_leaves d v head user call (pairs.wrong_boot boot) now h all = tt

  -- a call runs in its boot alone
  runs_by : (b : Bool) (head : Head) (boot : ℕ) (o : Admitted Message) → nat_eq head.boot boot ≡ b → cond b o (pairs.wrong_boot boot) ≡ pairs.runs → head.boot ≡ boot
  runs_by true head boot o is e = eqb-true head.boot boot is
  runs_by false head boot o is e = absurd cc

  runs_now : (boot : ℕ) (seats : List Seat) (head : Head) → admitted boot seats head ≡ pairs.runs → head.boot ≡ boot
  runs_now boot seats head e = runs_by (nat_eq head.boot boot) head boot (paired head.epoch head.number (call_seat head.from seats)) refl e

  hears_leaves : (me : Node) (d : Durable) (v : VolState) (head : Head) (x : Carried) → AskedBy d head x → Fine v.last_transaction v.transactions → Leaves (vol_hears me d v head x)
  hears_leaves me d v head (carried.Call user call) h all = either_leaves (same_node head.to me) _ drops (admits_leaves d v head user call (admitted d.boot v.seats head) (runs_now d.boot v.seats head) h all) tt
  hears_leaves me d v head (carried.Refusal code) h all = tt
  hears_leaves me d v head (carried.Reply reply) h all = tt
  hears_leaves me d v head carried.Notice h all = tt

  -- ---- behind a turn

  abbrev pub TurnFine : VolTurn → Type 0
  TurnFine t = Fine t.vol.last_transaction t.vol.transactions

  answers_all : (l : Lasting) (v : VolState) (b : Backs) (ls : List Line) (reply : Message) (waits : List ℕ) (again : Bool) → Fine v.last_transaction v.transactions → TurnFine (vol_answers l v b ls reply waits again)
  answers_all l v b ls reply [] again all = all
  answers_all l v b ls reply (k ∷ ks) again all = all

  next_all_by : (me : Node) (boot : ℕ) (n : Node) (t : VolTurn) (xs : List Sending) (c : Option PieceCall) → TurnFine t → TurnFine (next_by me boot n t xs c)
  next_all_by me boot n t [] c all = all
  next_all_by me boot n t (x ∷ xs) (Some c) all = all
  next_all_by me boot n t (x ∷ xs) None all = all

  next_all : (me : Node) (boot : ℕ) (n : Node) (t : VolTurn) → TurnFine t → TurnFine (next_piece me boot n t)
  next_all me boot n t all = next_all_by me boot n t (t.vol.sendings n) (t.vol.calls n) all

  either_all : (b : Bool) (x y : VolTurn) → TurnFine x → TurnFine y → TurnFine (cond b x y)
  either_all true x y h k = h
  either_all false x y h k = k

  again_all : (l : Lasting) (v : VolState) (b : Backs) (reply : Message) (o : Option Held) (good : Bool) → Fine v.last_transaction v.transactions → TurnFine (vol_repeats l v b reply o good)
  again_all l v b reply (Some h) good all = either_all _ (vol_answers l v b [] reply [] true) (vol_rests l v b) (answers_all l v b [] reply [] true all) all
  again_all l v b reply None true all = answers_all l v b [] reply _ true all
  again_all l v b reply None false all = answers_all l v b [] reply [] true all

  turn_all : (me : Node) (l : Lasting) (v : VolState) (b : Backs) (d : VolDecision) → Leaves d → Fine v.last_transaction v.transactions → TurnFine (vol_turn me l v b d)
  turn_all me l v b drops h all = all
  turn_all me l v b (tells_boot head) h all = all
  turn_all me l v b (repeats reply) h all = again_all l v b reply _ _ all
  turn_all me l v b (replies_to head reply ts last) h all = answers_all l (vol_seated head reply (with_transactions ts last v)) b [] reply [] false h
  turn_all me l v b (dispatches head x) h all = next_all me l.boot (Server x.server) (vol_rests l (queued head x (in_progress head v)) b) all
  turn_all me l v b (saves head x) h all = answers_all _ (vol_seated head x.reply (with_transactions x.transactions x.last v)) _ _ x.reply _ false h

  ends_all : (me : Node) (l : Lasting) (v : VolState) (b : Backs) (ls : List Line) (n : Node) (xs : List Sending) (x : Sending) (code : ℤ) → Fine v.last_transaction v.transactions → TurnFine (ends_sending me l v b ls n xs x code)
  ends_all me l v b ls n xs x code all = next_all me l.boot n (record {
    lasting = l;
    vol = record v { sendings = put_at n xs v.sendings; calls = put_at n None v.calls; seats = pairs.finished (key_of x.head) (forward_reply l.boot x.head code) v.seats };
    backs = b;
    lines = ls;
    sent = forward_reply l.boot x.head code ∷ [];
  }) all

  answered_all : (me : Node) (l : Lasting) (v : VolState) (b : Backs) (n : Node) (xs : List Sending) (code : ℤ) → Fine v.last_transaction v.transactions → TurnFine (answered_by me l v b n xs code)
  answered_all me l v b n [] code all = all
  answered_all me l v b n (x ∷ xs) code all = either_all (not (is_number code 0) || sent_whole x) (ends_sending me l v b [] n xs x code) (sending_goes_on me l v b n xs x) (ends_all me l v b [] n xs x code all) (next_all me l.boot n (vol_rests l (record v { sendings = put_at n (piece_gone x ∷ xs) v.sendings; calls = put_at n None v.calls }) b) all)

  renews_all : (me : Node) (l : Lasting) (v : VolState) (b : Backs) (n : Node) (known : ℕ) (c : PieceCall) (xs : List Sending) → Fine v.last_transaction v.transactions → TurnFine (vol_renews me l v b n known c xs)
  renews_all me l v b n known c [] all = all
  renews_all me l v b n known c (x ∷ xs) all = all

  told_all_by : (me : Node) (l : Lasting) (v : VolState) (b : Backs) (head : Head) (x : Carried) (o : Option PieceCall) → Fine v.last_transaction v.transactions → TurnFine (vol_told_by me l v b head x o)
  told_all_by me l v b head x None all = all
  told_all_by me l v b head carried.Notice (Some p) all = either_all (is_awaited l.boot p head) _ (vol_rests l v b) (renews_all me l v b head.from head.boot p (v.sendings head.from) all) all
  told_all_by me l v b head (carried.Call user call) (Some p) all = either_all (is_awaited l.boot p head) _ (vol_rests l v b) (answered_all me l v b head.from (v.sendings head.from) (code_told (carried.Call user call)) all) all
  told_all_by me l v b head (carried.Refusal code) (Some p) all = either_all (is_awaited l.boot p head) _ (vol_rests l v b) (answered_all me l v b head.from (v.sendings head.from) (code_told (carried.Refusal code)) all) all
  told_all_by me l v b head (carried.Reply reply) (Some p) all = either_all (is_awaited l.boot p head) _ (vol_rests l v b) (answered_all me l v b head.from (v.sendings head.from) (code_told (carried.Reply reply)) all) all

  told_all : (me : Node) (l : Lasting) (v : VolState) (b : Backs) (head : Head) (x : Carried) → Fine v.last_transaction v.transactions → TurnFine (vol_told me l v b head x)
  told_all me l v b head x all = either_all (same_node head.to me) _ (vol_rests l v b) (told_all_by me l v b head x (v.calls head.from) all) all

  pub timed_all : (me : Node) (l : Lasting) (v : VolState) (b : Backs) (n : Node) (c : PieceCall) (xs : List Sending) → Fine v.last_transaction v.transactions → TurnFine (vol_timed me l v b n c xs)
  timed_all me l v b n c [] all = all
  timed_all me l v b n c (x ∷ xs) all = either_all (is_sent_again c.tries) _ _ all (ends_all me l v b _ n xs x given_up all)

  turned_by : (me : Node) (l : Lasting) (v : VolState) (b : Backs) (d : VolDecision) (head : Head) (x : Carried) → Leaves d → Fine v.last_transaction v.transactions → TurnFine (vol_turned_by me l v b d head x)
  turned_by me l v b d head (carried.Call user call) h all = turn_all me l v b d h all
  turned_by me l v b d head (carried.Refusal code) h all = told_all me l v b head (carried.Refusal code) all
  turned_by me l v b d head (carried.Reply reply) h all = told_all me l v b head (carried.Reply reply) all
  turned_by me l v b d head carried.Notice h all = told_all me l v b head carried.Notice all

  -- ---- behind a step of a node

  abbrev pub NodeFine : NodeState → Type 0
  NodeFine s = Fine s.vol.last_transaction s.vol.transactions

  row_by : (b : Bool) (me : Node) (s : NodeState) (clock place : ℕ) (m : Message) → is_of_client (Some m.head.from) ≡ b → AskedBy (durable_of s.file.lasting) m.head m.carried → NodeFine s → NodeFine (node_row me s clock place (Whole m)).state
  unfolding node_row
  row_by true me s clock place m is h all = rw is all
  row_by false me s clock place m is h all =
      rw is (turned_by me s.file.lasting s.vol (expired clock s.file.backs) (vol_decides me (durable_of s.file.lasting) s.vol (Whole m)) m.head m.carried (hears_leaves me (durable_of s.file.lasting) s.vol m.head m.carried h all) all)

  pub row_all : (me : Node) (s : NodeState) (clock place : ℕ) (m : Message) → AskedBy (durable_of s.file.lasting) m.head m.carried → NodeFine s → NodeFine (node_row me s clock place (Whole m)).state
  row_all me s clock place m h all = row_by (is_of_client (Some m.head.from)) me s clock place m refl h all
