-- A step of a server tells no change; or it tells one, of the client's call that it runs, and behind it the server has the volume that this makes.
use Rattle.std.proofs.Common.{◌≡◌, ℕ, ◌+◌, ◌⊎◌, inl, inr, Bool, true, false, cond, eq-eqb, eqb-true, nat_eq, List, [], ◌∷◌, ◌++◌, Option, Some, None, refl, sym, ap, subst, ◌∙◌}
use Rattle.std.specs.Option.{option_map}
use Rattle.std.specs.Prelude.{⊤, filter, length, map, not, if◌then◌else◌}
use Rattle.afs_num.specs.declared.histories.Version.{Version}
use Rattle.afs_num.specs.declared.messages.Message.{Message}
use Rattle.afs_num.specs.declared.messages.Received.TheVariants.{Whole}
use Rattle.afs_num.specs.declared.types.Head.{Head}
use Rattle.afs_num.specs.declared.types.Node.{Node}
use Rattle.spec_history.specs.declared.lines.Line.{Line}
use Rattle.spec_history.specs.declared.lines.Line.TheVariants as lines
use Rattle.spec_fold.specs.Effects.{effect_by, vanished_lines}
use Rattle.spec_ideal.proofs.Tables.{get_set}
use Rattle.spec_ideal.specs.Tables.{get, set, Table}
use Rattle.spec_ideal.specs.Volumes.{has_bit, Volume}
use Rattle.law_legal.proofs.BaseLaws.{some_of}
use Rattle.law_legal.specs.Legal.{versions_first, IsOfRestart}
use Rattle.law_legal.specs.Past.{onto, sent_of}
use Rattle.spec_model.specs.Calls.{key_of}
use Rattle.spec_records.proofs.Kept.{same_rest}
use Rattle.spec_records.specs.Durable.{Durable, Stored}
use Rattle.spec_rows.specs.Callbacks.{expired, owe_line, risen_turn, turned_in, CallbackStep}
use Rattle.spec_rows.specs.Hosts.{at_rest, begun_from, comes_up, ends, fails_early, fails_midway, fall_line, in_boot, in_step, is_full, restarted, served_by, without_boot_record, Blow, Fall, Outcome}
use Rattle.spec_rows.specs.Runs.{message_at, Entry}
use Rattle.spec_rows.specs.ServerRow as file
use Rattle.spec_rows.specs.ServerRow.{begun_after, does, granted, granted_in, is_unflagged, promise_ticks, stored_by, versioned, versions_made, Change, Decision}
use Rattle.spec_rows.specs.States.{durable_of, ServerState}
use Rattle.spec_rows.specs.Steps.{begun_before, Begun}
use Rattle.spec_volrows.proofs.VolKeeping.{deeds_are_writable}
use Rattle.spec_volrows.proofs.VolTurns.{deeds_are_shown}
use Rattle.spec_volrows.specs.FileRow.{file_row, file_start}
use Rattle.spec_volrows.specs.NodeHosts.{file_begun, node_begun, node_kind, NodeHost}
use Rattle.spec_volrows.specs.VolLaws.{is_saved, IsWritable, OfSaved, ShowsDeed}
use Rattle.spec_volrows.specs.VolRow.{holds_of}
use Rattle.spec_volrows.specs.VolStates.{NodeState}
use Rattle.spec_volrows.specs.VolSteps as vols
use Rattle.spec_volrows.specs.VolSteps.{deed_head, from_of, is_of_client, node_file_decides, node_row, node_start_row, owes_of, vol_begun_after, vol_decides, vol_turned_by, Deed, VolDecision}
use Rattle.law_places.proofs.Choices.{decided_open, Chooses, IsOpenChange}
use Rattle.law_places.proofs.ServerLines.{carried_still, granted_still, volumes_of}
use Rattle.law_places.proofs.Turning.{all_on, is_still, AreStill}
use Rattle.law_latest.proofs.ServerLines.{deed_told, is_no_change, owes_told, plain, server_tells, turned_told_by, vanished_told, weaker, NoChange}
use Rattle.law_changed.proofs.Asked.{decided_asked, IsAsked, OfSave}
use Rattle.law_changed.specs.Changed.{HasStoppedIn, RunsMessage}

-- ---- lines with one change

-- These lines have one change, which the server decided on in this state, behind these entries; no version stands behind those of the change. Then the
-- server has these volumes.
pub record Saves (me : Node) (past : List Entry) (s : ServerState) (after : Table Stored) (ls : List Line) : Type 0 where
  pub front : List Line
  pub message : Message
  pub head : Head
  pub clock : ℕ
  pub change : Change
  pub rest : List Line
  pub split : ls ≡ front ++ (lines.Change me (key_of head) (length (versions_made change)) ∷ versioned (versions_made change) rest)
  pub before : NoChange front
  pub behind : NoChange rest
  pub last : versions_first rest ≡ []
  pub runs : RunsMessage me message past (onto [] front) (versioned (versions_made change) rest)
  pub asked : IsAsked me message.head message.carried head change
  pub chosen : IsOpenChange s change
  pub left : get change.id after ≡ Some (stored_by clock change)

abbrev pub Tells : Node → List Entry → ServerState → Table Stored → List Line → Type 0
Tells me past s after ls = NoChange ls ⊎ Saves me past s after ls

still_first : (ls : List Line) → AreStill ls → versions_first ls ≡ []
still_first [] h = refl
still_first (lines.Version v ∷ ls) h = absurd cc
still_first (l ∷ ls) h = refl

still_no_change : (l : Line) → is_still l ≡ true → is_no_change l ≡ true
still_no_change (lines.Change n key count) h = absurd cc
still_no_change l h = refl

still_plain : (ls : List Line) → AreStill ls → NoChange ls
still_plain ls h = weaker is_still is_no_change still_no_change ls h

got : (id : ℕ) (x : Stored) (t : Table Stored) → get id (set id x t) ≡ Some x
got id x t = get_set id id x t ∙ ap (λ (b : Bool). cond b (Some x) (get id t)) (eq-eqb id id refl)

-- ---- a file server

module _ (me : Node) (past : List Entry) (x : ServerState) (clock place : ℕ) (m : Message) (at : message_at (sent_of past) place ≡ Some m) where
  does_tells : (d : Decision) (ls : List Line) → Chooses x d → OfSave (IsAsked me m.head m.carried) d → AreStill ls → Tells me past x (does me x clock place d []).state.lasting.volumes (does me x clock place d ls).lines
  does_tells file.drops ls c a h = inl (still_plain ls h)
  does_tells (file.tells_boot head) ls c a h = inl (still_plain ls h)
  does_tells (file.repeats reply) ls c a h = inl (still_plain ls h)
  does_tells (file.refuses head code) ls c a h = inl (still_plain ls h)
  does_tells (file.shows head r) ls c a h = inl (still_plain (granted me head.from (clock + promise_ticks) r.granted ls) (granted_still me head.from (clock + promise_ticks) r.granted ls h))
  does_tells (file.saves head y) ls c a h =
      let rest : List Line = granted me head.from (clock + promise_ticks) (granted_in y) ls in
      let still : AreStill rest = granted_still me head.from (clock + promise_ticks) (granted_in y) ls h in
      inr (record {
        front = lines.Given place ∷ [];
        message = m;
        head = head;
        clock = clock;
        change = y;
        rest = rest;
        split = refl;
        before = refl;
        behind = still_plain rest still;
        last = still_first rest still;
        runs = inl at;
        asked = a;
        chosen = c;
        left = got y.id (stored_by clock y) x.lasting.volumes;
      })

module _ (me : Node) (past : List Entry) (s : NodeState) (clock place : ℕ) (m : Message) where
  file_tells : message_at (sent_of past) place ≡ Some m → Tells me past s.file (file_row me (holds_of s.vol.transactions) s.file clock place (Whole m)).state.lasting.volumes (file_row me (holds_of s.vol.transactions) s.file clock place (Whole m)).lines
  unfolding file_row
  file_tells at =
      let d : Decision = node_file_decides me s clock (Whole m) in
      let t : CallbackStep = turned_in me s.file clock (expired clock s.file.backs) d (Whole m) in
      does_tells me past s.file clock place m at d t.lines (decided_open me (holds_of s.vol.transactions) s.file clock (Whole m)) (decided_asked me (holds_of s.vol.transactions) s.file clock m)
      (carried_still me s.file clock (expired clock s.file.backs) d m.head m.carried)

  -- ---- a volume server

  saved_plain : (head : Head) (x : Deed) → is_of_client (from_of (Whole m)) ≡ false → vol_decides me (durable_of s.file.lasting) s.vol (Whole m) ≡ vols.saves head x → NoChange (node_row me s clock place (Whole m)).lines
  saved_plain head x other is =
      let d : Durable = durable_of s.file.lasting in
      let shown : ShowsDeed me s clock place head x (node_row me s clock place (Whole m)) = deeds_are_shown me s clock place (Whole m) head x other is in
      let writable = subst (OfSaved (IsWritable d)) is (deeds_are_writable me d s.vol (Whole m)) in
      let owes : List Line = map (owe_line me) (owes_of x.withdraws (expired clock s.file.backs).lists) in
      subst NoChange (sym shown.lines)
      (plain (effect_by me (deed_head head x) x.body d ++ owes) (all_on server_tells (effect_by me (deed_head head x) x.body d) owes (deed_told me (deed_head head x) x.body d writable.taken) (owes_told me (owes_of x.withdraws (expired clock s.file.backs).lists))))

  quiet_plain : is_of_client (from_of (Whole m)) ≡ false → is_saved (vol_decides me (durable_of s.file.lasting) s.vol (Whole m)) ≡ false → NoChange (node_row me s clock place (Whole m)).lines
  unfolding node_row
  quiet_plain other quiet = rw other (plain (vol_turned_by me s.file.lasting s.vol (expired clock s.file.backs) (vol_decides me (durable_of s.file.lasting) s.vol (Whole m)) m.head m.carried).lines
      (turned_told_by me s.file.lasting s.vol (expired clock s.file.backs) (vol_decides me (durable_of s.file.lasting) s.vol (Whole m)) m.head m.carried quiet))

  vol_plain : (d : VolDecision) → is_of_client (from_of (Whole m)) ≡ false → vol_decides me (durable_of s.file.lasting) s.vol (Whole m) ≡ d → NoChange (node_row me s clock place (Whole m)).lines
  vol_plain (vols.saves head x) other is = saved_plain head x other is
  vol_plain d other is = quiet_plain other (ap is_saved is)

  -- ---- a message

  row_by : (b : Bool) → is_of_client (from_of (Whole m)) ≡ b → message_at (sent_of past) place ≡ Some m → Tells me past s.file (volumes_of (node_row me s clock place (Whole m)).state) (node_row me s clock place (Whole m)).lines
  unfolding node_row
  row_by true is at = rw is (file_tells at)
  row_by false is at = inl (vol_plain (vol_decides me (durable_of s.file.lasting) s.vol (Whole m)) is refl)

fall_plain : (me : Node) (stops : Bool) → NoChange (fall_line me stops ∷ [])
fall_plain me true = refl
fall_plain me false = refl

pub served_tells : (me : Node) (past : List Entry) (h : NodeHost) (clock place : ℕ) (m : Message) (o : Option Blow) → message_at (sent_of past) place ≡ Some m
    → Tells me past h.state.file (volumes_of (served_by (node_kind me) h clock place m o).host.state) (served_by (node_kind me) h clock place m o).lines
served_tells me past h clock place m None at = row_by me past h.state clock place m (is_of_client (from_of (Whole m))) refl at
served_tells me past h clock place m (Some b) at = inl (fall_plain me b.stops)

-- ---- a start leaves a volume that has no flags

unflagged_by : (n : ℕ) → nat_eq n 0 ≡ true → not (has_bit 1 n) ≡ true
unflagged_by n is = ap (λ (i : ℕ). not (has_bit 1 i)) (eqb-true n 0 is)

same_flag : (p : ℕ × Stored) (x : Stored) → Some p.1 ≡ Some x → is_unflagged p ≡ is_unflagged (p.0, x)
same_flag p x e = some_of (is_unflagged p) (is_unflagged (p.0, x)) (ap (option_map (λ (y : Stored). is_unflagged (p.0, y))) e)

kept_by : (id : ℕ) (p : ℕ × Stored) (ps : Table Stored) (x : Stored) (same keep : Bool) → nat_eq p.0 id ≡ same → is_unflagged p ≡ keep → not (has_bit 1 x.volume.flags) ≡ true → (if same then Some p.1 else get id ps) ≡ Some x → (get id ps ≡ Some x → get id (filter is_unflagged ps) ≡ Some x) →
    get id (if keep then p ∷ filter is_unflagged ps else filter is_unflagged ps) ≡ Some x
kept_by id p ps x true true same is un e later = rw same e
kept_by id p ps x true false same is un e later = let no : true ≡ false = sym un ∙ (sym (same_flag p x e) ∙ is) in absurd cc
kept_by id p ps x false true same is un e later = rw same (later e)
kept_by id p ps x false false same is un e later = later e

kept_at : (id : ℕ) (t : Table Stored) (x : Stored) → not (has_bit 1 x.volume.flags) ≡ true → get id t ≡ Some x → get id (filter is_unflagged t) ≡ Some x
kept_at id [] x un e = e
kept_at id (p ∷ ps) x un e = kept_by id p ps x (nat_eq p.0 id) (is_unflagged p) refl refl un e (kept_at id ps x un)

change_unflagged : (clock : ℕ) (c : Change) → nat_eq c.before.volume.flags 0 ≡ true → not (has_bit 1 (stored_by clock c).volume.flags) ≡ true
change_unflagged clock c is = ap (λ (v : Volume). not (has_bit 1 v.flags)) (same_rest c.id c.edits c.before.volume) ∙ unflagged_by c.before.volume.flags is

started_saves : (me : Node) (past : List Entry) (s : ServerState) (after : Table Stored) (ls : List Line) → Tells me past s after ls → Tells me past s (filter is_unflagged after) ls
started_saves me past s after ls (inl h) = inl h
started_saves me past s after ls (inr k) = inr (record {
  front = k.front;
  message = k.message;
  head = k.head;
  clock = k.clock;
  change = k.change;
  rest = k.rest;
  split = k.split;
  before = k.before;
  behind = k.behind;
  last = k.last;
  runs = k.runs;
  asked = k.asked;
  chosen = k.chosen;
  left = kept_at k.change.id after (stored_by k.clock k.change) (change_unflagged k.clock k.change k.chosen.flags) k.left;
})

-- ---- a restart

-- what is known of a server that is down: in the step of which message it stopped
abbrev pub HasFallen : Node → Option Fall → List Entry → Type 0
HasFallen me None past = ⊤
HasFallen me (Some at_rest) past = ⊤
HasFallen me (Some (in_step m clock b)) past = HasStoppedIn me m past
HasFallen me (Some in_boot) past = ⊤

-- what it begins with tells what the interrupted step changed, before the restart
abbrev Begins : Node → List Entry → NodeState → Begun NodeState → Type 0
Begins me past s f = (ls : List Line) → NoChange ls → versions_first ls ≡ [] → IsOfRestart me ls → Tells me past s.file (volumes_of f.state) (f.before ls)

ends_behind : (me : Node) (vs : List Version) (ls : List Line) → IsOfRestart me ls → IsOfRestart me (versioned vs ls)
ends_behind me [] ls h = h
ends_behind me (v ∷ vs) ls h = ends_behind me vs ls h

module _ (me : Node) (past : List Entry) (s : NodeState) where
  none_begins : Begins me past s (begun_before s)
  none_begins ls h first again = inl h

  file_begins : (clock : ℕ) (m : Message) (d : Decision) → HasStoppedIn me m past → Chooses s.file d → OfSave (IsAsked me m.head m.carried) d → Begins me past s (node_begun s (begun_after me s.file clock d))
  file_begins clock m file.drops fell c a ls h first again = inl h
  file_begins clock m (file.tells_boot head) fell c a ls h first again = inl h
  file_begins clock m (file.repeats reply) fell c a ls h first again = inl h
  file_begins clock m (file.refuses head code) fell c a ls h first again = inl h
  file_begins clock m (file.shows head r) fell c a ls h first again = inl h
  file_begins clock m (file.saves head y) fell c a ls h first again = inr (record {
    front = [];
    message = m;
    head = head;
    clock = clock;
    change = y;
    rest = ls;
    split = refl;
    before = refl;
    behind = h;
    last = first;
    runs = inr (refl, (ends_behind me (versions_made y) ls again, fell));
    asked = a;
    chosen = c;
    left = got y.id (stored_by clock y) s.file.lasting.volumes;
  })

  vol_begins : (d : VolDecision) → OfSaved (IsWritable (durable_of s.file.lasting)) d → Begins me past s (node_begun s (vol_begun_after me s.file d))
  vol_begins vols.drops w ls h first again = inl h
  vol_begins (vols.tells_boot head) w ls h first again = inl h
  vol_begins (vols.repeats reply) w ls h first again = inl h
  vol_begins (vols.replies_to head reply ts last) w ls h first again = inl h
  vol_begins (vols.dispatches head x) w ls h first again = inl h
  vol_begins (vols.saves head x) w ls h first again =
      inl (all_on is_no_change (effect_by me (deed_head head x) x.body (durable_of s.file.lasting)) ls (plain (effect_by me (deed_head head x) x.body (durable_of s.file.lasting)) (deed_told me (deed_head head x) x.body (durable_of s.file.lasting) w.taken)) h)

  after_by : (b : Bool) (clock : ℕ) (m : Message) → HasStoppedIn me m past
      → Begins me past s (node_begun s (cond b (begun_after me s.file clock (node_file_decides me s clock (Whole m))) (vol_begun_after me s.file (vol_decides me (durable_of s.file.lasting) s.vol (Whole m)))))
  after_by true clock m fell =
      file_begins clock m (node_file_decides me s clock (Whole m)) fell (decided_open me (holds_of s.vol.transactions) s.file clock (Whole m)) (decided_asked me (holds_of s.vol.transactions) s.file clock m)
  after_by false clock m fell = vol_begins (vol_decides me (durable_of s.file.lasting) s.vol (Whole m)) (deeds_are_writable me (durable_of s.file.lasting) s.vol (Whole m))

  begins : (after : Bool) (fall : Fall) → HasFallen me (Some fall) past → Begins me past s (begun_from (node_kind me) s after fall)
  begins after at_rest fell = none_begins
  begins false (in_step m clock b) fell = none_begins
  begins true (in_step m clock b) fell = after_by (is_of_client (from_of (Whole m))) clock m fell
  begins false in_boot fell = none_begins
  begins true in_boot fell = λ ls h first again. inl (all_on is_no_change (vanished_lines me s.file.lasting.volumes) ls (plain (vanished_lines me s.file.lasting.volumes) (vanished_told me s.file.lasting.volumes)) h)

  risen_tells : (clock count : ℕ) (f : Begun NodeState) → Begins me past s f → Tells me past s.file (volumes_of (node_start_row me clock count (file_begun f)).state) (node_start_row me clock count (file_begun f)).lines
  unfolding node_start_row file_start
  risen_tells clock count f k =
      let ls : List Line = lines.Restart me (f.state.file.lasting.boot + 1) ∷ (vanished_lines me f.state.file.lasting.volumes ++ (risen_turn me clock count).lines) in
      let told : NoChange ls = plain (vanished_lines me f.state.file.lasting.volumes ++ (risen_turn me clock count).lines)
      (all_on server_tells (vanished_lines me f.state.file.lasting.volumes) (risen_turn me clock count).lines (vanished_told me f.state.file.lasting.volumes) (owes_told me (risen_turn me clock count).backs.lists.owed)) in
      started_saves me past s.file (volumes_of f.state) (f.before ls) (k ls told refl (inl refl))

ends_tell : (me : Node) (past : List Entry) (h : NodeHost) (clock count : ℕ) (f : Begun NodeState) (fall : Fall) (o : Outcome) → Begins me past h.state f
    → Tells me past h.state.file (volumes_of (ends (node_kind me) h clock count f fall o).host.state) (ends (node_kind me) h clock count f fall o).lines
ends_tell me past h clock count f fall comes_up k = risen_tells me past h.state clock count f k
ends_tell me past h clock count f fall fails_early k = inl refl
ends_tell me past h clock count f fall fails_midway k = k (lines.Fault me ∷ []) refl refl (inl refl)
ends_tell me past h clock count f fall is_full k = k (lines.Full me ∷ []) refl refl (inl refl)

pub restarted_tells : (me : Node) (past : List Entry) (h : NodeHost) (clock count : ℕ) (after : Bool) (o : Outcome) (fall : Fall) → HasFallen me (Some fall) past
    → Tells me past h.state.file (volumes_of (restarted (node_kind me) h clock count after o fall).host.state) (restarted (node_kind me) h clock count after o fall).lines
restarted_tells me past h clock count after o fall fell =
    ends_tell me past h clock count (begun_from (node_kind me) h.state after fall) fall (without_boot_record ((node_kind me).can_start (begun_from (node_kind me) h.state after fall).state) o) (begins me past h.state after fall fell)
