-- The steps of a server: all replies to clients that it makes, keeps, holds and sends are as they were decided, and their changes are told.
use Rattle.std.proofs.Common.{◌≡◌, ℕ, ◌+◌, inl, inr, Bool, true, false, cond, List, [], ◌∷◌, ◌++◌, Option, Some, None, refl, sym, ap, subst, ◌∙◌}
use Rattle.std.specs.Prelude.{⊤, ◌&&◌, length}
use Rattle.std.specs.List.{AllByRecursion}
use Rattle.afs_num.specs.declared.messages.Carried.TheVariants as carried
use Rattle.afs_num.specs.declared.messages.Message.{Message}
use Rattle.afs_num.specs.declared.messages.Reply.TheVariants as tell
use Rattle.afs_num.specs.declared.volume_calls.VolReply.TheVariants as vol_replies
use Rattle.afs_num.specs.declared.messages.Received.TheVariants.{Whole}
use Rattle.afs_num.specs.declared.types.Head.{Head}
use Rattle.afs_num.specs.declared.types.Key.{Key}
use Rattle.afs_num.specs.declared.types.Node.{Node}
use Rattle.spec_history.specs.declared.lines.Line.{Line}
use Rattle.spec_history.specs.declared.lines.Line.TheVariants as lines
use Rattle.spec_ideal.specs.Operations.{is_number}
use Rattle.spec_model.proofs.Basics.{both}
use Rattle.spec_model.specs.Calls.{key_of}
use Rattle.spec_rows.specs.Callbacks.{expired, turned_in}
use Rattle.spec_rows.specs.Hosts.{at_rest, begun_from, comes_up, crashed, ends, fails_early, fails_midway, in_boot, in_step, is_full, restarted, served, served_by, set_to_fail, set_to_stop, without_boot_record, struck, Blow, Fall, HostStep, Luck, Outcome}
use Rattle.spec_rows.specs.ServerRow as file
use Rattle.spec_rows.specs.ServerRow.{begun_after, change_reply_to, does, drops, is_client, promise_ticks, read_reply_to, refusal, refuses, repeats, replied, reply_head, saves, shows, tells_boot, versioned, versions_made, Change, Decision}
use Rattle.spec_rows.specs.States.{durable_of, BackCall}
use Rattle.spec_rows.specs.Steps.{Begun}
use Rattle.spec_volrows.specs.FileRow.{file_row, file_start}
use Rattle.spec_volrows.specs.NodeHosts.{file_begun, node_kind, node_timed_out, node_woken, piece_timed_out, NodeHost}
use Rattle.spec_volrows.specs.VolStates.{NodeState, PieceCall, Sending}
use Rattle.spec_volrows.specs.VolSteps as vol
use Rattle.spec_volrows.specs.VolSteps.{forward_reply, node_begun_after, node_file_decides, node_row, node_start_row, piece_gone, sending_of, vol_decides, VolDecision}
use Rattle.law_walks.specs.Sends.{NodeIs, VolMakes}
use Rattle.law_keys.proofs.Deciding.{vol_decides_so}
use Rattle.law_keys.proofs.Deciding as deciding
use Rattle.law_keys.proofs.FileSeats.{file_decides_so}
use Rattle.law_keys.proofs.FileSeats as seats
use Rattle.law_legal.specs.Past.{answered_key, onto, HasChangeBy}
use Rattle.law_replies.specs.Decided.{answer_decided, answers_client, carries_answer, is_server}
use Rattle.law_replies.specs.Heard.{is_change_told}
use Rattle.law_replies.proofs.Answering.{decided_fits_call, shows_no_change, Fits}
use Rattle.law_replies.proofs.FileParts.{FileMade, Spares}
use Rattle.law_replies.proofs.NodeParts.{back_parts, begun_is, piece_parts, risen_parts, row_parts, woken_parts, CutMade, Made, VolBase}

-- ---- what is asked of a message: where it answers a client, it was decided, and the change that it tells was told by these lines

abbrev pub IsTold : List Line → Message → Type 0
IsTold ls m = is_change_told m.carried ≡ true → HasChangeBy m.head.from (answered_key m.head) ls

abbrev pub IsSaid : (Message → Type 0) → List Line → Message → Type 0
IsSaid D ls m = answers_client m ≡ true → D m × IsTold ls m

-- the call of a dump that is sent on is no client's
abbrev pub IsOthers : Sending → Type 0
IsOthers x = is_client x.head.from ≡ false

-- what was decided on the client's call of an interrupted step is D
abbrev pub FallDecided : (Message → Type 0) → Node → NodeState → Option Fall → Type 0
FallDecided D me s None = ⊤
FallDecided D me s (Some at_rest) = ⊤
FallDecided D me s (Some in_boot) = ⊤
FallDecided D me s (Some (in_step m clock b)) = is_client m.head.from ≡ true → (reply : Message) → answer_decided s.file.lasting.boot clock (node_file_decides me s clock (Whole m)) ≡ Some reply → D reply

not_both : (b : Bool) → b ≡ true → b ≡ false → ⊥
not_both b h k = let z : true ≡ false = sym h ∙ k in absurd cc

-- it is to no client
to_other : (D : Message → Type 0) (ls : List Line) (m : Message) → is_client m.head.to ≡ false → IsSaid D ls m
to_other D ls m other is =
    absurd (not_both (is_client m.head.to) (both (is_client m.head.to) (carries_answer m.carried) (both (is_server m.head.from) (is_client m.head.to && carries_answer m.carried) is).1).0 other)

pub of_other : (D : Message → Type 0) (ls : List Line) (m : Message) → is_server m.head.from ≡ false → IsSaid D ls m
of_other D ls m other is = absurd (not_both (is_server m.head.from) (both (is_server m.head.from) (is_client m.head.to && carries_answer m.carried) is).0 other)

said_spares : (D : Message → Type 0) (ls : List Line) → Spares (IsSaid D ls)
said_spares D ls m none is =
    absurd (not_both (carries_answer m.carried) (both (is_client m.head.to) (carries_answer m.carried) (both (is_server m.head.from) (is_client m.head.to && carries_answer m.carried) is).1).1 none)

untold : (ls : List Line) (m : Message) → is_change_told m.carried ≡ false → IsTold ls m
untold ls m none is = absurd (not_both (is_change_told m.carried) is none)

-- ---- changes stay told

by_later_one : (s : Node) (k : Key) (l : Line) (o : List Line) → HasChangeBy s k o → HasChangeBy s k (l ∷ o)
by_later_one s k (lines.Change q key count) o h = inr h
by_later_one s k l o h = h

pub by_later : (s : Node) (k : Key) (ls o : List Line) → HasChangeBy s k o → HasChangeBy s k (onto o ls)
by_later s k [] o h = h
by_later s k (l ∷ ls) o h = by_later s k ls (l ∷ o) (by_later_one s k l o h)

pub told_later : (ls o : List Line) (m : Message) → IsTold o m → IsTold (onto o ls) m
told_later ls o m h is = by_later m.head.from (answered_key m.head) ls o (h is)

by_here : (me : Node) (k : Key) (count : ℕ) (front rest o : List Line) → HasChangeBy me k (onto o (front ++ lines.Change me k count ∷ rest))
by_here me k count [] rest o = by_later me k rest (lines.Change me k count ∷ o) (inl (refl, refl))
by_here me k count (l ∷ front) rest o = by_here me k count front rest (l ∷ o)

-- ---- what is made

module _ (D : Message → Type 0) (ls : List Line) (me : Node) where
  abbrev P : Message → Type 0
  P = IsSaid D ls

  forward_by : (b : Bool) (x y : Message) → P x → P y → P (cond b x y)
  forward_by true x y h k = h
  forward_by false x y h k = k

  base : (boot : ℕ) → VolBase P IsOthers boot
  base boot = record {
    spares = said_spares D ls;
    forward = λ x code other. forward_by (is_number code 0) (replied boot x.head (carried.Reply (tell.Volume vol_replies.Forward))) (refusal boot x.head code) (to_other D ls _ other) (to_other D ls _ other);
    moved = λ x other. other;
  }

  vol_made : (boot : ℕ) (head : Head) (d : VolDecision) → is_client head.from ≡ false → deciding.OfHead boot head d → VolMakes P IsOthers d
  vol_made boot head vol.drops other of = tt
  vol_made boot head (vol.tells_boot h) other of = tt
  vol_made boot head (vol.repeats reply) other of = tt
  vol_made boot head (vol.replies_to h reply ts last) other of = to_other D ls reply (ap (λ (x : Head). is_client x.to) of.1.0 ∙ other)
  vol_made boot head (vol.dispatches h x) other of = ap (λ (y : Head). is_client y.from) of ∙ other
  vol_made boot head (vol.saves h x) other of = to_other D ls x.reply (ap (λ (y : Head). is_client y.to) of.1 ∙ other)

  -- a change of it is told
  abbrev SavesTold : ℕ → ℕ → Decision → Type 0
  SavesTold boot clock (saves head c) = IsTold ls (change_reply_to boot head clock c)
  SavesTold boot clock d = ⊤

  file_made : (boot clock : ℕ) (asked : Message) (d : Decision) → Fits asked.carried d → ((reply : Message) → answer_decided boot clock d ≡ Some reply → D reply) → SavesTold boot clock d → FileMade P boot clock d
  file_made boot clock asked drops fits new told = tt
  file_made boot clock asked (tells_boot head) fits new told = tt
  file_made boot clock asked (repeats reply) fits new told = tt
  file_made boot clock asked (refuses head code) fits new told = λ is. (new _ refl, untold ls (refusal boot head code) refl)
  file_made boot clock asked (shows head r) fits new told = λ is. (new _ refl, untold ls (read_reply_to boot head (clock + promise_ticks) r) (shows_no_change boot (clock + promise_ticks) head r fits.1.1))
  file_made boot clock asked (saves head c) fits new told = λ is. (new _ refl, told)

  -- of a message that these lines serve
  made_by : (b : Bool) (s : NodeState) (clock : ℕ) (m : Message) → is_client m.head.from ≡ b
      → (is_client m.head.from ≡ true → (reply : Message) → answer_decided s.file.lasting.boot clock (node_file_decides me s clock (Whole m)) ≡ Some reply → D reply)
      → (b ≡ true → SavesTold s.file.lasting.boot clock (node_file_decides me s clock (Whole m))) → Made P IsOthers me b s clock m
  made_by true s clock m is new told = file_made s.file.lasting.boot clock m (node_file_decides me s clock (Whole m)) (decided_fits_call me s clock m) (new is) (told refl)
  made_by false s clock m is new told = vol_made s.file.lasting.boot m.head (vol_decides me (durable_of s.file.lasting) s.vol (Whole m)) is (vol_decides_so me (durable_of s.file.lasting) s.vol m).of

-- ---- a step tells the change that it makes

-- a reply of this server, under the key of its call
saves_told : (me : Node) (ls : List Line) (boot clock : ℕ) (to head : Head) (c : Change) → head ≡ to → to.to ≡ me → HasChangeBy me (key_of head) ls → IsTold ls (change_reply_to boot head clock c)
saves_told me ls boot clock to head c of at h is = subst (λ (q : Node). HasChangeBy q (key_of head) ls) (sym (ap (λ (x : Head). x.to) of ∙ at)) h

module _ (me : Node) (s : NodeState) (clock : ℕ) (m : Message) where
  -- where the line of the change stands in these lines
  abbrev HasIts : List Line → Decision → Type 0
  HasIts ls (saves head c) = HasChangeBy me (key_of head) ls
  HasIts ls d = ⊤

  saves_by : (D : Message → Type 0) (ls : List Line) (d : Decision) → seats.OfHead m.head d → seats.RunsBy me s.file.lasting.boot s.file.seats m.head d → HasIts ls d → SavesTold D ls me s.file.lasting.boot clock d
  saves_by D ls drops of runs h = tt
  saves_by D ls (tells_boot head) of runs h = tt
  saves_by D ls (repeats reply) of runs h = tt
  saves_by D ls (refuses head code) of runs h = tt
  saves_by D ls (shows head r) of runs h = tt
  saves_by D ls (saves head c) of runs h = saves_told me ls s.file.lasting.boot clock m.head head c of runs.0 h

  saved_told : (D : Message → Type 0) (ls : List Line) → HasIts ls (node_file_decides me s clock (Whole m)) → SavesTold D ls me s.file.lasting.boot clock (node_file_decides me s clock (Whole m))
  saved_told D ls h = let k = file_decides_so me s clock m in saves_by D ls (node_file_decides me s clock (Whole m)) k.of k.runs h

  does_tell : (place : ℕ) (d : Decision) (tail o : List Line) → HasIts (onto o (does me s.file clock place d tail).lines) d
  does_tell place drops tail o = tt
  does_tell place (tells_boot head) tail o = tt
  does_tell place (repeats reply) tail o = tt
  does_tell place (refuses head code) tail o = tt
  does_tell place (shows head r) tail o = tt
  does_tell place (saves head c) tail o =
      by_here me (key_of head) (length (versions_made c)) (lines.Given place ∷ []) (versioned (versions_made c) (file.granted me head.from (clock + promise_ticks) (file.granted_in c) tail)) o

  row_tells : (place : ℕ) (o : List Line) → is_client m.head.from ≡ true → HasIts (onto o (node_row me s clock place (Whole m)).lines) (node_file_decides me s clock (Whole m))
  unfolding node_row file_row
  row_tells place o is = rw is (does_tell place (node_file_decides me s clock (Whole m)) (turned_in me s.file clock (expired clock s.file.backs) (node_file_decides me s clock (Whole m)) (Whole m)).lines o)

  -- what a restart finds tells it first
  begun_tells : (d : Decision) (rest o : List Line) → HasIts (onto o ((begun_after me s.file clock d).before rest)) d
  begun_tells drops rest o = tt
  begun_tells (tells_boot head) rest o = tt
  begun_tells (repeats reply) rest o = tt
  begun_tells (refuses head code) rest o = tt
  begun_tells (shows head r) rest o = tt
  begun_tells (saves head c) rest o = by_here me (key_of head) (length (versions_made c)) [] (versioned (versions_made c) rest) o

  found_tells : (rest o : List Line) → is_client m.head.from ≡ true → HasIts (onto o ((node_begun_after me s clock (Whole m)).before rest)) (node_file_decides me s clock (Whole m))
  found_tells rest o is = rw is (begun_tells (node_file_decides me s clock (Whole m)) rest o)

-- ---- a server's step: behind lines `o`, with its own lines

abbrev pub Holds : (Message → Type 0) → List Line → Node → NodeHost → Type 0
Holds D ls me h = NodeIs (IsSaid D ls) IsOthers h.state × FallDecided D me h.state h.down

pub record HostHolds (D : Message → Type 0) (o : List Line) (me : Node) (s : HostStep NodeState) : Type 0 where
  pub holds : Holds D (onto o s.lines) me s.host
  pub sent : AllByRecursion (IsSaid D (onto o s.lines)) s.sent

module _ (D : Message → Type 0) (o : List Line) (me : Node) (h : NodeHost) (has : (ls : List Line) → NodeIs (IsSaid D (onto o ls)) IsOthers h.state) (fallen : FallDecided D me h.state h.down) where
  serves_by : (clock place : ℕ) (m : Message) (b : Option Blow)
      → (is_client m.head.from ≡ true → (reply : Message) → answer_decided h.state.file.lasting.boot clock (node_file_decides me h.state clock (Whole m)) ≡ Some reply → D reply) → HostHolds D o me (served_by (node_kind me) h clock place m b)
  serves_by clock place m None new =
      let ls : List Line = (node_row me h.state clock place (Whole m)).lines in
      let z = row_parts (IsSaid D (onto o ls)) IsOthers me h.state clock place m (base D (onto o ls) me h.state.file.lasting.boot) (has ls)
      (made_by D (onto o ls) me (is_client m.head.from) h.state clock m refl new (λ is. saved_told me h.state clock m D (onto o ls) (row_tells me h.state clock m place o is))) in
      record { holds = (z.has, tt); sent = z.sent }
  serves_by clock place m (Some b) new = record { holds = (has (served_by (node_kind me) h clock place m (Some b)).lines, new); sent = tt }

  pub serves_holds : (clock place : ℕ) (luck : Luck) (m : Message)
      → (is_client m.head.from ≡ true → (reply : Message) → answer_decided h.state.file.lasting.boot clock (node_file_decides me h.state clock (Whole m)) ≡ Some reply → D reply) → HostHolds D o me (served (node_kind me) h clock place luck m)
  serves_holds clock place luck m new = serves_by clock place m (struck h.armed luck _) new

  pub piece_holds : (clock : ℕ) (n : Node) (p : PieceCall) → HostHolds D o me (piece_timed_out me h clock n p)
  piece_holds clock n p =
      let ls : List Line = (piece_timed_out me h clock n p).lines in
      let z = piece_parts (IsSaid D (onto o ls)) IsOthers me h.state clock n p (base D (onto o ls) me h.state.file.lasting.boot) (has ls) in record { holds = (z.has, tt); sent = z.sent }

  pub break_holds : (clock : ℕ) (n : Node) (b : BackCall) → HostHolds D o me (node_timed_out me h clock n b)
  break_holds clock n b =
      let ls : List Line = (node_timed_out me h clock n b).lines in
      let z = back_parts (IsSaid D (onto o ls)) IsOthers me h.state clock n b (said_spares D (onto o ls)) (has ls) in record { holds = (z.has, tt); sent = z.sent }

  pub woken_holds : (clock : ℕ) → HostHolds D o me (node_woken me h clock)
  woken_holds clock =
      let ls : List Line = (node_woken me h clock).lines in
      let z = woken_parts (IsSaid D (onto o ls)) IsOthers me h.state clock (said_spares D (onto o ls)) (has ls) in record { holds = (z.has, tt); sent = z.sent }

  pub crashed_holds : HostHolds D o me (crashed (node_kind me) h)
  crashed_holds = record { holds = (has (lines.Crash me ∷ []), tt); sent = tt }

  pub stop_holds : (calls pick : ℕ) → HostHolds D o me (set_to_stop (node_kind me) h calls pick)
  stop_holds calls pick = record { holds = (has (lines.Stop me calls pick ∷ []), fallen); sent = tt }

  pub fail_holds : (call : ℕ) → HostHolds D o me (set_to_fail (node_kind me) h call)
  fail_holds call = record { holds = (has (lines.Fail me call ∷ []), fallen); sent = tt }

  -- ---- a restart, unless it fails before it has begun

  abbrev BeginsSo : List Line → Bool → Fall → Type 0
  BeginsSo ls after fall = (rest : List Line) × (ls ≡ (begun_from (node_kind me) h.state after fall).before rest)

  cut_made : (ls : List Line) (after : Bool) (fall : Fall) → FallDecided D me h.state (Some fall) → BeginsSo ls after fall → CutMade (IsSaid D (onto o ls)) IsOthers me h.state after fall
  cut_made ls false fall k begins = tt
  cut_made ls true at_rest k begins = tt
  cut_made ls true in_boot k begins = tt
  cut_made ls true (in_step m clock b) k begins =
      made_by D (onto o ls) me (is_client m.head.from) h.state clock m refl k
      (λ is. saved_told me h.state clock m D (onto o ls) (subst (λ (x : List Line). HasIts me h.state clock m (onto o x) (node_file_decides me h.state clock (Whole m))) (sym begins.1) (found_tells me h.state clock m begins.0 o is)))

  begun_holds : (ls : List Line) (after : Bool) (fall : Fall) → FallDecided D me h.state (Some fall) → BeginsSo ls after fall → NodeIs (IsSaid D (onto o ls)) IsOthers (begun_from (node_kind me) h.state after fall).state
  begun_holds ls after fall k begins = begun_is (IsSaid D (onto o ls)) IsOthers me h.state after fall (said_spares D (onto o ls)) (has ls) (cut_made ls after fall k begins)

  start_lines_are : (clock count : ℕ) (f : Begun NodeState) → (rest : List Line) × ((node_start_row me clock count (file_begun f)).lines ≡ f.before rest)
  unfolding node_start_row file_start
  start_lines_are clock count f = (_, refl)

  ends_holds : (clock count : ℕ) (after : Bool) (fall : Fall) (out : Outcome) → FallDecided D me h.state (Some fall) → HostHolds D o me (ends (node_kind me) h clock count (begun_from (node_kind me) h.state after fall) fall out)
  ends_holds clock count after fall comes_up k =
      let f : Begun NodeState = begun_from (node_kind me) h.state after fall in
      let ls : List Line = (node_start_row me clock count (file_begun f)).lines in
      let z = risen_parts (IsSaid D (onto o ls)) IsOthers me clock count (file_begun f) (said_spares D (onto o ls)) (begun_holds ls after fall k (start_lines_are clock count f)).file.kept in
      record { holds = (z.has, tt); sent = z.sent }
  ends_holds clock count after fall fails_early k = record { holds = (has (lines.Fault me ∷ []), k); sent = tt }
  ends_holds clock count after fall fails_midway k = record { holds = (begun_holds ((begun_from (node_kind me) h.state after fall).before (lines.Fault me ∷ [])) after fall k (lines.Fault me ∷ [], refl), tt); sent = tt }
  ends_holds clock count after fall is_full k = record { holds = (begun_holds ((begun_from (node_kind me) h.state after fall).before (lines.Full me ∷ [])) after fall k (lines.Full me ∷ [], refl), tt); sent = tt }

  pub restarts_holds : (clock count : ℕ) (after : Bool) (out : Outcome) (fall : Fall) → h.down ≡ Some fall → HostHolds D o me (restarted (node_kind me) h clock count after out fall)
  restarts_holds clock count after out fall down =
      ends_holds clock count after fall (without_boot_record ((node_kind me).can_start (begun_from (node_kind me) h.state after fall).state) out) (subst (FallDecided D me h.state) down fallen)
