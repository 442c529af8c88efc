-- The walk over a history: every server knows of each break that it owes in which line that stands, and of each call which breaks it carries.
use Rattle.std.proofs.Common.{◌≡◌, ℕ, ◌+◌, ◌≤◌, inl, Bool, true, false, cond, List, [], ◌∷◌, ◌++◌, Option, Some, None, refl, sym, ap, subst, ◌∙◌, arith, append-nil, eq-eqb, eqb-true, ltb-false, nat_eq}
use Rattle.std.proofs.lemmas.List.{append_assoc}
use Rattle.std.proofs.Math.Nat.{le_refl}
use Rattle.std.specs.Prelude.{⊤, filter, map, length}
use Rattle.std.specs.List.{AllByRecursion}
use Rattle.afs_num.specs.declared.histories.Actor.{Actor}
use Rattle.afs_num.specs.declared.histories.Actor.TheVariants as actors
use Rattle.afs_num.specs.declared.histories.Version.{Version}
use Rattle.afs_num.specs.declared.calls.FsCall.{FsCall}
use Rattle.afs_num.specs.declared.messages.Message.{Message}
use Rattle.afs_num.specs.declared.messages.Received.TheVariants.{Whole}
use Rattle.afs_num.specs.declared.types.Head.{Head}
use Rattle.afs_num.specs.declared.types.Key.{Key}
use Rattle.afs_num.specs.declared.types.Node.{Node}
use Rattle.afs_num.specs.declared.types.Node.TheVariants.{Admin, Client, Loc, Server}
use Rattle.spec_history.specs.declared.lines.Line.{Line}
use Rattle.spec_history.specs.declared.lines.Line.TheVariants as lines
use Rattle.spec_history.specs.declared.scripts.Script.{Script}
use Rattle.spec_breaks.specs.declared.types.OwedBreak.{OwedBreak}
use Rattle.spec_breaks.specs.Promises.{has_break}
use Rattle.spec_fold.specs.Effects.{effect_by, vanished_lines}
use Rattle.law_legal.proofs.BaseLaws.{a_key}
use Rattle.law_legal.proofs.OwedPasses as law
use Rattle.law_legal.proofs.OwedPasses.{is_up}
use Rattle.law_legal.proofs.OwedLoadBreaks.{onto_both}
use Rattle.law_legal.proofs.OwedFacts.{all_both, AllOf, IsOwed}
use Rattle.law_legal.specs.Breaks.{CarriesBreak, HasStopped, HasTimeout}
use Rattle.law_legal.specs.Ideal.{set_up_entry}
use Rattle.law_legal.specs.Past.{lines_of, onto, sent_of}
use Rattle.spec_model.specs.Calls.{is_sent_again, key_of}
use Rattle.spec_rows.specs.Callbacks.{breaks_call, expired, owe_line, quit_line, quits, retries, risen_turn, call_timed_out}
use Rattle.spec_rows.specs.Hosts.{at_rest, begun_from, comes_up, crashed, ends, fails_early, fails_midway, fall_line, in_boot, in_step, is_full, restarted, served_by, without_boot_record, struck, Blow, Fall, HostStep, Outcome}
use Rattle.spec_rows.specs.Runs.{Entry}
use Rattle.spec_rows.specs.ServerRow as file
use Rattle.spec_rows.specs.ServerRow.{begun_after, versions_made, versioned, Decision}
use Rattle.spec_rows.specs.States.{durable_of, BackCall, Backs}
use Rattle.spec_rows.specs.Steps.{begun_before, Begun}
use Rattle.spec_volrows.proofs.VolKeeping.{deeds_are_writable}
use Rattle.spec_volrows.specs.FileRow.{file_start}
use Rattle.spec_volrows.specs.NodeHosts.{file_begun, node_begun, node_kind, node_timed_out, node_woken, piece_timed_out, NodeHost}
use Rattle.spec_volrows.specs.VolLaws.{IsWritable, OfSaved}
use Rattle.spec_volrows.specs.VolStates.{NodeState, PieceCall, Sending}
use Rattle.spec_volrows.specs.VolSteps as vols
use Rattle.spec_volrows.specs.VolSteps.{deed_head, from_of, is_of_client, node_back_timeout_row, node_file_decides, node_start_row, node_wake_row, vol_begun_after, vol_decides, VolDecision}
use Rattle.spec_adminrows.specs.AdminRow.{admin_begin_row, admin_row, admin_timeout_row}
use Rattle.spec_copyrows.specs.CopyRow.{copy_begin_row, copy_row, copy_seek_row, copy_timeout_row}
use Rattle.spec_rows.specs.ServerSteps.{back_timeout_row, wake_row}
use Rattle.spec_runs.specs.NodeRuns.{node_moved, node_start, server_stepped, CellInput, NodeCell, NodeLeads, NodeMoved}
use Rattle.law_walks.proofs.EachKind.{each}
use Rattle.law_walks.proofs.Seats.{placed_is, seated_is}
use Rattle.law_walks.proofs.Senders.{senders_are_told}
use Rattle.law_walks.proofs.VolDecides.{decides_is}
use Rattle.law_walks.specs.Kinds.{Each}
use Rattle.law_walks.specs.Messages.{HaveSenders, IsOf}
use Rattle.law_walks.specs.Sends.{VolIs}
use Rattle.spec_model.proofs.Basics.{both}
use Rattle.law_places.proofs.Turning.{all_lines, all_on}
use Rattle.law_latest.proofs.AdminLines as admins
use Rattle.law_latest.proofs.CopyLines.{copy_begun_tells, copy_missed_tells, copy_tells, copy_waited_tells}
use Rattle.law_latest.proofs.LocLines.{database_tells, loc_crashed, loc_fail_set, loc_restarted, loc_served, loc_stop_set}
use Rattle.law_latest.proofs.ServerLines.{deed_told, owes_told, vanished_told}
use Rattle.law_owed.proofs.Calm.{admin_calm, calm_late, calm_up, client_calm, database_late, database_up, is_calm, is_no_quit, late_up, piece_calm, row_calm, server_calm, stopped_late, AreCalm}
use Rattle.law_owed.proofs.FileTurns.{change_no_call}
use Rattle.law_owed.proofs.NodeSteps.{all_down, late_good, piece_good, risen_good, row_good, woken_good, NodeOwes, Quiet}
use Rattle.law_owed.proofs.Owing.{Alone, CarriesThis, IsKnown, IsKnownBy, IsNoCall, is_file_call, Out, owes_over}
use Rattle.law_owed.specs.Quits.{AreLate, GiveUpLate, QuitsAreLate}

-- ---- breaks that are given up

abbrev who : ℕ → Actor
who i = actors.Node (Server i)

module _ (i : ℕ) (n : Node) (boot last : ℕ) (c : BackCall) (es : List Entry) (out : Out (Server i) n c last boot es) where
  one_late : (t : Bool) (o : OwedBreak) (own : List Line) (rest : List OwedBreak) → 2 ≤ c.tries → IsOwed (Server i) n (lines_of (out.sent.at ∷ out.sent.older)) o → CarriesBreak (breaks_call c.content) o.what → HasTimeout (Server i) n boot c.number 3 own → (HasStopped (Server i) own → ⊥)
      → ((xs : List Line) → HasTimeout (Server i) n boot c.number 3 xs → (HasStopped (Server i) xs → ⊥) → AreLate (who i) es xs (map (quit_line (Server i) n) rest)) → AreLate (who i) es own (map (quit_line (Server i) n) (cond t (o ∷ rest) rest))
  one_late true o own rest twice owed carries third going w = (
    record {
      own_entry = refl;
      quit = record { going = going; epoch = boot; number = c.number; third = third; what = o.what; carried = record { user = []; call = breaks_call c.content; sent = out.sent; carries = carries; owe = owed; up = out.up } };
      first = out.tries 1 (omega arith) (omega arith);
      second = out.tries 2 (omega arith) twice;
    },
    w (quit_line (Server i) n o ∷ own) third going,
  )
  one_late false o own rest twice owed carries third going w = w own third going

  all_late : (os owed : List OwedBreak) (own : List Line) → 2 ≤ c.tries → AllOf (IsOwed (Server i) n (lines_of (out.sent.at ∷ out.sent.older))) os → AllOf (λ (o : OwedBreak). CarriesBreak (breaks_call c.content) o.what) os → HasTimeout (Server i) n boot c.number 3 own → (HasStopped (Server i) own → ⊥)
      → AreLate (who i) es own (map (quit_line (Server i) n) (filter (λ (o : OwedBreak). has_break o.number owed) os))
  all_late [] owed own twice h k third going = tt
  all_late (o ∷ os) owed own twice h k third going =
      one_late (has_break o.number owed) o own (filter (λ (x : OwedBreak). has_break x.number owed) os) twice h.0 k.0 third going (λ xs y z. all_late os owed xs twice h.1 k.1 y z)

  timed_by : (t : Bool) (b : Backs) → is_sent_again c.tries ≡ t → AreLate (who i) es [] (cond t (retries (Server i) boot n c b) (quits (Server i) boot n c b)).lines
  timed_by true b is = (tt, tt)
  timed_by false b is = (tt, all_late c.content b.lists.owed _ (ltb-false c.tries 2 is) out.owes out.carries (inl (refl, (refl, (refl, (refl, refl))))) (λ x. x))

  timed_late : (b : Backs) → AreLate (who i) es [] (call_timed_out (Server i) boot n c b).lines
  timed_late b = timed_by (is_sent_again c.tries) b refl

-- ---- what a restart begins with

record BegunGood (me : Node) (s : NodeState) (f : Begun NodeState) : Type 0 where
  boot : s.file.lasting.boot ≤ f.state.file.lasting.boot
  quiet : Quiet f.state
  pre : List Line
  calm : AreCalm pre
  before : (ls : List Line) → f.before ls ≡ pre ++ ls

versioned_front : (vs : List Version) (ls : List Line) → versioned vs ls ≡ versioned vs [] ++ ls
versioned_front [] ls = refl
versioned_front (v ∷ vs) ls = ap (λ (xs : List Line). lines.Version v ∷ xs) (versioned_front vs ls)

versioned_calm : (vs : List Version) → AreCalm (versioned vs [])
versioned_calm [] = refl
versioned_calm (v ∷ vs) = versioned_calm vs

as_before : (me : Node) (s : NodeState) → Quiet s → BegunGood me s (begun_before s)
as_before me s q = record { boot = le_refl s.file.lasting.boot; quiet = q; pre = []; calm = refl; before = λ ls. refl }

file_begins : (me : Node) (s : NodeState) (clock : ℕ) (d : Decision) → Quiet s → BegunGood me s (node_begun s (begun_after me s.file clock d))
file_begins me s clock file.drops q = as_before me s q
file_begins me s clock (file.tells_boot head) q = as_before me s q
file_begins me s clock (file.repeats reply) q = as_before me s q
file_begins me s clock (file.refuses head code) q = as_before me s q
file_begins me s clock (file.shows head r) q = as_before me s q
file_begins me s clock (file.saves head c) q = record {
  boot = le_refl s.file.lasting.boot;
  quiet = record {
    seats = seated_is IsNoCall _ s.file.seats (change_no_call s.file.lasting.boot head clock c) q.seats;
    kept = placed_is IsNoCall _ s.file.lasting.kept (change_no_call s.file.lasting.boot head clock c) q.kept;
    held = q.held;
    vol_seats = q.vol_seats;
    waiting = q.waiting;
  };
  pre = lines.Change me (key_of head) (length (versions_made c)) ∷ versioned (versions_made c) [];
  calm = versioned_calm (versions_made c);
  before = λ ls. ap (λ (xs : List Line). lines.Change me (key_of head) (length (versions_made c)) ∷ xs) (versioned_front (versions_made c) ls);
}

vol_begins : (me : Node) (s : NodeState) (d : VolDecision) → Quiet s → OfSaved (IsWritable (durable_of s.file.lasting)) d → VolIs IsNoCall IsNoCall (λ (x : Sending). ⊤) me d → BegunGood me s (node_begun s (vol_begun_after me s.file d))
vol_begins me s vols.drops q w is = as_before me s q
vol_begins me s (vols.tells_boot head) q w is = as_before me s q
vol_begins me s (vols.repeats reply) q w is = as_before me s q
vol_begins me s (vols.replies_to head reply ts last) q w is = as_before me s q
vol_begins me s (vols.dispatches head x) q w is = as_before me s q
vol_begins me s (vols.saves head x) q w is = record {
  boot = le_refl s.file.lasting.boot;
  quiet = record { seats = q.seats; kept = placed_is IsNoCall _ s.file.lasting.kept is q.kept; held = q.held; vol_seats = q.vol_seats; waiting = q.waiting };
  pre = effect_by me (deed_head head x) x.body (durable_of s.file.lasting);
  calm = server_calm (effect_by me (deed_head head x) x.body (durable_of s.file.lasting)) (deed_told me (deed_head head x) x.body (durable_of s.file.lasting) w.taken);
  before = λ ls. refl;
}

after_by : (b : Bool) (me : Node) (s : NodeState) (clock : ℕ) (m : Message) → Quiet s
    → BegunGood me s (node_begun s (cond b (begun_after me s.file clock (node_file_decides me s clock (Whole m))) (vol_begun_after me s.file (vol_decides me (durable_of s.file.lasting) s.vol (Whole m)))))
after_by true me s clock m q = file_begins me s clock (node_file_decides me s clock (Whole m)) q
after_by false me s clock m q =
    vol_begins me s (vol_decides me (durable_of s.file.lasting) s.vol (Whole m)) q (deeds_are_writable me (durable_of s.file.lasting) s.vol (Whole m))
    (decides_is IsNoCall IsNoCall (λ (x : Sending). ⊤) me (durable_of s.file.lasting) s.vol m (λ to. record { reply = λ r. refl; refused = λ code. refl; sends_on = λ x. tt }) q.vol_seats)

begins : (me : Node) (s : NodeState) (after : Bool) (fall : Fall) → Quiet s → BegunGood me s (begun_from (node_kind me) s after fall)
begins me s after at_rest q = as_before me s q
begins me s false (in_step m clock b) q = as_before me s q
begins me s true (in_step m clock b) q = after_by (is_of_client (from_of (Whole m))) me s clock m q
begins me s false in_boot q = as_before me s q
begins me s true in_boot q = record {
  boot = omega arith;
  quiet = record { seats = q.kept; kept = q.kept; held = q.held; vol_seats = q.vol_seats; waiting = q.waiting };
  pre = vanished_lines me s.file.lasting.volumes;
  calm = server_calm (vanished_lines me s.file.lasting.volumes) (vanished_told me s.file.lasting.volumes);
  before = λ ls. refl;
}

-- ---- a host

-- what its entry has to say, for itself and for the other servers
record HostGoes (i : ℕ) (s : HostStep NodeState) (e : Entry) (es : List Entry) : Type 0 where
  good : AreLate (who i) es [] e.lines
  owes : NodeOwes (Server i) s.host.down s.host.state (e ∷ es)
  others : (j : ℕ) → nat_eq i j ≡ false → law.all_lines (is_up (Server j)) e.lines ≡ true

-- its state stays, and it goes down or stays so
fallen : (i : ℕ) (d : Option Fall) (fall : Fall) (s : NodeState) (now : NodeState) (e : Entry) (es : List Entry) → e.sent ≡ [] → s.file.lasting.boot ≤ now.file.lasting.boot → Quiet now → NodeOwes (Server i) d s es → NodeOwes (Server i) (Some fall) now (e ∷ es)
fallen i d fall s now e es none le q h = record {
  quiet = q;
  owes = λ up. absurd cc;
  known = subst (λ (ms : List Message). AllOf (IsKnown (Server i) (Some fall) now.file.backs.last_call now.file.lasting.boot) (sent_of es ++ ms)) (sym none)
      (subst (AllOf (IsKnown (Server i) (Some fall) now.file.backs.last_call now.file.lasting.boot)) (sym (append-nil (sent_of es))) (all_down (Server i) d fall s.file.backs.last_call now.file.backs.last_call s.file.lasting.boot now.file.lasting.boot (sent_of es) le h.known));
  alone = λ up. absurd cc;
}

-- it goes on as it is
stays_so : (i : ℕ) (d : Option Fall) (s : NodeState) (e : Entry) (es : List Entry) → e.sent ≡ [] → law.all_lines (is_up (Server i)) e.lines ≡ true → NodeOwes (Server i) d s es → NodeOwes (Server i) d s (e ∷ es)
stays_so i d s e es none up h = record {
  quiet = h.quiet;
  owes = λ z. owes_over (Server i) s.file.lasting.boot s.file.backs e es up (h.owes z);
  known = subst (λ (ms : List Message). AllOf (IsKnown (Server i) d s.file.backs.last_call s.file.lasting.boot) (sent_of es ++ ms)) (sym none) (subst (AllOf (IsKnown (Server i) d s.file.backs.last_call s.file.lasting.boot)) (sym (append-nil (sent_of es))) h.known);
  alone = λ z. subst (λ (ms : List Message). Alone (Server i) s.file.lasting.boot s.file.backs (sent_of es ++ ms)) (sym none) (subst (Alone (Server i) s.file.lasting.boot s.file.backs) (sym (append-nil (sent_of es))) (h.alone z));
}

calm_goes : (i : ℕ) (s : HostStep NodeState) (e : Entry) (es : List Entry) → AreCalm e.lines → NodeOwes (Server i) s.host.down s.host.state (e ∷ es) → HostGoes i s e es
calm_goes i s e es calm h = record { good = calm_late (who i) es [] e.lines calm; owes = h; others = λ j other. calm_up (Server j) e.lines calm }

-- a line that stops this server stops no other
stop_up : (i j : ℕ) (stops : Bool) → nat_eq i j ≡ false → is_up (Server j) (fall_line (Server i) stops) ≡ true
stop_up i j true other = rw other refl
stop_up i j false other = rw other refl

up_both : (q : Line → Bool) (a b : List Line) → law.all_lines q a ≡ true → law.all_lines q b ≡ true → law.all_lines q (a ++ b) ≡ true
up_both q [] b h k = k
up_both q (l ∷ a) b h k = let x = both (q l) (law.all_lines q a) h in rw (x.0, up_both q a b x.1 k) refl

module _ (i : ℕ) (es : List Entry) (h : NodeHost) (owes : NodeOwes (Server i) h.down h.state es) where
  -- ---- given a message

  served_goes_by : (clock place : ℕ) (m : Message) (o : Option Blow) (e : Entry) → h.down ≡ None → e.lines ≡ (served_by (node_kind (Server i)) h clock place m o).lines → e.sent ≡ (served_by (node_kind (Server i)) h clock place m o).sent → HostGoes i (served_by (node_kind (Server i)) h clock place m o) e es
  served_goes_by clock place m None e up told went =
      let calm : AreCalm e.lines = subst AreCalm (sym told) (row_calm (Server i) h.state clock place m) in
      calm_goes i _ e es calm (row_good (Server i) h.state e es (subst (λ (d : Option Fall). NodeOwes (Server i) d h.state es) up owes) (calm_up (Server i) e.lines calm) clock place m told went)
  served_goes_by clock place m (Some b) e up told went = record {
    good = subst (AreLate (who i) es []) (sym told) (stopped_late (who i) es (lines.Given place ∷ []) (fall_line (Server i) b.stops) refl (no_quit b.stops));
    owes = fallen i h.down (in_step m clock b) h.state h.state e es went (le_refl h.state.file.lasting.boot) owes.quiet owes;
    others = λ j other. subst (λ (ls : List Line). law.all_lines (is_up (Server j)) ls ≡ true) (sym told) (rw (stop_up i j b.stops other) refl);
  }
    where
      no_quit : (stops : Bool) → is_no_quit (fall_line (Server i) stops) ≡ true
      no_quit true = refl
      no_quit false = refl

  -- ---- a restart

  begun_goes : (clock count : ℕ) (f : Begun NodeState) (fall : Fall) (o : Outcome) (e : Entry) → h.down ≡ Some fall → BegunGood (Server i) h.state f → e.lines ≡ (ends (node_kind (Server i)) h clock count f fall o).lines → e.sent ≡ (ends (node_kind (Server i)) h clock count f fall o).sent
      → HostGoes i (ends (node_kind (Server i)) h clock count f fall o) e es
  unfolding node_start_row file_start
  begun_goes clock count f fall comes_up e down b told went =
      let owed : List OwedBreak = (risen_turn (Server i) clock count).backs.lists.owed in
      let front : List Line = b.pre ++ (lines.Restart (Server i) (f.state.file.lasting.boot + 1) ∷ vanished_lines (Server i) f.state.file.lasting.volumes) in
      let are : e.lines ≡ front ++ map (owe_line (Server i)) owed = told ∙ (b.before _ ∙ sym (append_assoc b.pre (lines.Restart (Server i) (f.state.file.lasting.boot + 1) ∷ vanished_lines (Server i) f.state.file.lasting.volumes) (map (owe_line (Server i)) owed))) in
      let calm : AreCalm e.lines = subst AreCalm (sym are) (all_on is_calm front (map (owe_line (Server i)) owed)
      (all_on is_calm b.pre (lines.Restart (Server i) (f.state.file.lasting.boot + 1) ∷ vanished_lines (Server i) f.state.file.lasting.volumes) b.calm (server_calm (vanished_lines (Server i) f.state.file.lasting.volumes) (vanished_told (Server i) f.state.file.lasting.volumes)))
      (server_calm (map (owe_line (Server i)) owed) (owes_told (Server i) owed))) in
      calm_goes i _ e es calm
      (risen_good (Server i) h.state fall clock count (file_begun f) (onto (lines_of es) front) e es (subst (λ (d : Option Fall). NodeOwes (Server i) d h.state es) down owes) b.boot b.quiet.kept
      (ap (onto (lines_of es)) are ∙ onto_both (lines_of es) front (map (owe_line (Server i)) owed)) went)
  begun_goes clock count f fall fails_early e down b told went = record {
    good = subst (AreLate (who i) es []) (sym told) (tt, tt);
    owes = fallen i h.down fall h.state h.state e es went (le_refl h.state.file.lasting.boot) owes.quiet owes;
    others = λ j other. subst (λ (ls : List Line). law.all_lines (is_up (Server j)) ls ≡ true) (sym told) (rw (stop_up i j false other) refl);
  }
  begun_goes clock count f fall fails_midway e down b told went =
      let are : e.lines ≡ b.pre ++ lines.Fault (Server i) ∷ [] = told ∙ b.before _ in record {
        good = subst (AreLate (who i) es []) (sym are) (stopped_late (who i) es b.pre (lines.Fault (Server i)) b.calm refl);
        owes = fallen i h.down in_boot h.state f.state e es went b.boot b.quiet owes;
        others = λ j other. subst (λ (ls : List Line). law.all_lines (is_up (Server j)) ls ≡ true) (sym are) (up_both (is_up (Server j)) b.pre (lines.Fault (Server i) ∷ []) (calm_up (Server j) b.pre b.calm) (rw (stop_up i j false other) refl));
      }
  begun_goes clock count f fall is_full e down b told went =
      let are : e.lines ≡ b.pre ++ lines.Full (Server i) ∷ [] = told ∙ b.before _ in
      let calm : AreCalm e.lines = subst AreCalm (sym are) (all_on is_calm b.pre (lines.Full (Server i) ∷ []) b.calm refl) in
      calm_goes i _ e es calm (fallen i h.down at_rest h.state f.state e es went b.boot b.quiet owes)

  restarted_goes : (clock count : ℕ) (after : Bool) (o : Outcome) (fall : Fall) (e : Entry) → h.down ≡ Some fall → e.lines ≡ (restarted (node_kind (Server i)) h clock count after o fall).lines → e.sent ≡ (restarted (node_kind (Server i)) h clock count after o fall).sent
      → HostGoes i (restarted (node_kind (Server i)) h clock count after o fall) e es
  restarted_goes clock count after o fall e down told went =
      let f : Begun NodeState = begun_from (node_kind (Server i)) h.state after fall in
      begun_goes clock count f fall (without_boot_record ((node_kind (Server i)).can_start f.state) o) e down (begins (Server i) h.state after fall owes.quiet) told went

  -- ---- no message

  crashed_goes : (e : Entry) → e.lines ≡ lines.Crash (Server i) ∷ [] → e.sent ≡ [] → HostGoes i (crashed (node_kind (Server i)) h) e es
  crashed_goes e told went = record {
    good = subst (AreLate (who i) es []) (sym told) (tt, tt);
    owes = fallen i h.down at_rest h.state h.state e es went (le_refl h.state.file.lasting.boot) owes.quiet owes;
    others = λ j other. subst (λ (ls : List Line). law.all_lines (is_up (Server j)) ls ≡ true) (sym told) (rw (stop_up i j true other) refl);
  }

  late_goes : (clock : ℕ) (n : Node) (c : BackCall) (e : Entry) → h.down ≡ None → h.state.file.backs.calls n ≡ Some c → e.lines ≡ (call_timed_out (Server i) h.state.file.lasting.boot n c (expired clock h.state.file.backs)).lines → e.sent ≡ (node_back_timeout_row (Server i) h.state clock n c).sent
      → HostGoes i (node_timed_out (Server i) h clock n c) e es
  late_goes clock n c e up at told went =
      let own : NodeOwes (Server i) None h.state es = subst (λ (d : Option Fall). NodeOwes (Server i) d h.state es) up owes in
      let all : (q : Node) → law.all_lines (is_up q) e.lines ≡ true = λ q. subst (λ (ls : List Line). law.all_lines (is_up q) ls ≡ true) (sym told) (late_up q (Server i) h.state.file.lasting.boot n c (expired clock h.state.file.backs)) in
      record {
        good = subst (AreLate (who i) es []) (sym told) (timed_late i n h.state.file.lasting.boot h.state.file.backs.last_call c es ((own.owes refl).outs n c at) (expired clock h.state.file.backs));
        owes = late_good (Server i) h.state e es own (all (Server i)) clock n c at told went;
        others = λ j other. all (Server j);
      }

-- ---- a cell

abbrev pub CellOwes : NodeCell → List Entry → Type 0
CellOwes c es = (i : ℕ) → NodeOwes (Server i) (c.hosts i).down (c.hosts i).state es

abbrev pub Senders : Entry → Type 0
Senders e = (n : Node) → e.actor ≡ actors.Node n → AllByRecursion (IsOf n) e.sent

pub record Goes (es : List Entry) (m : NodeMoved) : Type 0 where
  pub good : AreLate m.entry.actor es [] m.entry.lines
  pub owes : CellOwes m.cell (m.entry ∷ es)

-- what another node sends is no call of this server
other_by : (b : Bool) (me : Node) (d : Option Fall) (last boot : ℕ) (head : Head) → (head.from ≡ me → ⊥) → IsKnownBy me d last boot head b
other_by true me d last boot head ne = λ own. absurd (ne own)
other_by false me d last boot head ne = tt

others_known : (n me : Node) (d : Option Fall) (last boot : ℕ) (ms : List Message) → (n ≡ me → ⊥) → AllByRecursion (IsOf n) ms → AllOf (IsKnown me d last boot) ms
others_known n me d last boot [] ne h = tt
others_known n me d last boot (m ∷ ms) ne h = (other_by (is_file_call m.carried) me d last boot m.head (λ own. ne (sym h.0 ∙ own)), others_known n me d last boot ms ne h.1)

-- nor has it a key of this server
others_this : (n me j : Node) (boot number : ℕ) (call : FsCall) (ms : List Message) → (n ≡ me → ⊥) → AllByRecursion (IsOf n) ms → AllOf (CarriesThis j (a_key me boot number) call) ms
others_this n me j boot number call [] ne h = tt
others_this n me j boot number call (m ∷ ms) ne h = ((λ is to under. absurd (ne (sym h.0 ∙ ap (λ (k : Key). k.node) under))), others_this n me j boot number call ms ne h.1)

passes : (j : ℕ) (d : Option Fall) (s : NodeState) (e : Entry) (es : List Entry) → law.all_lines (is_up (Server j)) e.lines ≡ true → AllOf (IsKnown (Server j) d s.file.backs.last_call s.file.lasting.boot) e.sent → Alone (Server j) s.file.lasting.boot s.file.backs e.sent → NodeOwes (Server j) d s es → NodeOwes (Server j) d s (e ∷ es)
passes j d s e es up known alone h = record {
  quiet = h.quiet;
  owes = λ z. owes_over (Server j) s.file.lasting.boot s.file.backs e es up (h.owes z);
  known = all_both (IsKnown (Server j) d s.file.backs.last_call s.file.lasting.boot) (sent_of es) e.sent h.known known;
  alone = λ z k c at. all_both (CarriesThis k (a_key (Server j) s.file.lasting.boot c.number) (breaks_call c.content)) (sent_of es) e.sent (h.alone z k c at) (alone k c at);
}

apart : (i j : ℕ) → nat_eq i j ≡ false → Server i ≡ Server j → ⊥
apart i j h e = let same : i ≡ j = cc in let yes : nat_eq i j ≡ true = subst (λ (k : ℕ). nat_eq i k ≡ true) same (eq-eqb i i refl) in absurd cc

at_put : (i j : ℕ) (b : Bool) (P : ℕ → NodeHost → Type 0) (x y : NodeHost) → nat_eq i j ≡ b → P i x → (nat_eq i j ≡ false → P j y) → P j (cond b x y)
at_put i j true P x y e h k = subst (λ (n : ℕ). P n x) (eqb-true i j e) h
at_put i j false P x y e h k = k e

server_goes : (c : NodeCell) (i : ℕ) (s : HostStep NodeState) (es : List Entry) → CellOwes c es → Senders (server_stepped c i s).entry → HostGoes i s (server_stepped c i s).entry es → Goes es (server_stepped c i s)
server_goes c i s es h senders g = record {
  good = g.good;
  owes = λ j. at_put i j (nat_eq i j) (λ (k : ℕ) (x : NodeHost). NodeOwes (Server k) x.down x.state ((server_stepped c i s).entry ∷ es)) s.host (c.hosts j) refl g.owes
      (λ other. passes j (c.hosts j).down (c.hosts j).state (server_stepped c i s).entry es (g.others j other) (others_known (Server i) (Server j) _ _ _ s.sent (apart i j other) (senders (Server i) refl)) (λ k b at. others_this (Server i) (Server j) k _ _ _ s.sent (apart i j other) (senders (Server i) refl)) (h j));
}

-- a node that is no server
other_goes : (c : NodeCell) (n : Node) (es : List Entry) (m : NodeMoved) → CellOwes c es → m.cell.hosts ≡ c.hosts → m.entry.actor ≡ actors.Node n → ((j : ℕ) → n ≡ Server j → ⊥) → Senders m.entry → AreLate m.entry.actor es [] m.entry.lines → ((j : ℕ) → law.all_lines (is_up (Server j)) m.entry.lines ≡ true) → Goes es m
other_goes c n es m h same actor ne senders good up = record {
  good = good;
  owes = λ j. subst (λ (f : ℕ → NodeHost). NodeOwes (Server j) (f j).down (f j).state (m.entry ∷ es)) (sym same) (passes j (c.hosts j).down (c.hosts j).state m.entry es (up j) (others_known n (Server j) _ _ _ m.entry.sent (ne j) (senders n actor)) (λ k b at. others_this n (Server j) k _ _ _ m.entry.sent (ne j) (senders n actor)) (h j));
}

-- an entry of nobody
none_goes : (c : NodeCell) (es : List Entry) (m : NodeMoved) → CellOwes c es → m.cell.hosts ≡ c.hosts → m.entry.sent ≡ [] → AreCalm m.entry.lines → Goes es m
none_goes c es m h same none calm = record {
  good = calm_late m.entry.actor es [] m.entry.lines calm;
  owes = λ j. subst (λ (f : ℕ → NodeHost). NodeOwes (Server j) (f j).down (f j).state (m.entry ∷ es)) (sym same)
      (passes j (c.hosts j).down (c.hosts j).state m.entry es (calm_up (Server j) m.entry.lines calm) (subst (AllOf (IsKnown (Server j) (c.hosts j).down (c.hosts j).state.file.backs.last_call (c.hosts j).state.file.lasting.boot)) (sym none) tt) (subst (Alone (Server j) (c.hosts j).state.file.lasting.boot (c.hosts j).state.file.backs) (sym none) (λ k b at. tt)) (h j));
}

not_client : (n j : ℕ) → Client n ≡ Server j → ⊥
not_client n j e = absurd cc

not_admin : (n j : ℕ) → Admin n ≡ Server j → ⊥
not_admin n j e = absurd cc

not_loc : (j : ℕ) → Loc ≡ Server j → ⊥
not_loc j e = absurd cc

abbrev pub Steps : List Entry → NodeMoved → Type 0
Steps es m = Senders m.entry → Goes es m

module _ (c : NodeCell) (es : List Entry) (h : CellOwes c es) where
  client_steps : (n : ℕ) (m : NodeMoved) → m.cell.hosts ≡ c.hosts → m.entry.actor ≡ actors.Node (Client n) → AreCalm m.entry.lines → Steps es m
  client_steps n m same actor calm senders = other_goes c (Client n) es m h same actor (not_client n) senders (calm_late m.entry.actor es [] m.entry.lines calm) (λ j. calm_up (Server j) m.entry.lines calm)

  admin_steps : (n : ℕ) (m : NodeMoved) → m.cell.hosts ≡ c.hosts → m.entry.actor ≡ actors.Node (Admin n) → AreCalm m.entry.lines → Steps es m
  admin_steps n m same actor calm senders = other_goes c (Admin n) es m h same actor (not_admin n) senders (calm_late m.entry.actor es [] m.entry.lines calm) (λ j. calm_up (Server j) m.entry.lines calm)

  loc_steps : (m : NodeMoved) → m.cell.hosts ≡ c.hosts → m.entry.actor ≡ actors.Node Loc → all_lines database_tells m.entry.lines ≡ true → Steps es m
  loc_steps m same actor told senders = other_goes c Loc es m h same actor not_loc senders (database_late m.entry.actor es [] m.entry.lines told) (λ j. database_up j m.entry.lines told)

  piece_goes : (i : ℕ) (n : Node) (p : PieceCall) → (c.hosts i).down ≡ None → Steps es (server_stepped c i (piece_timed_out (Server i) (c.hosts i) c.clock n p))
  piece_goes i n p up senders =
      let e : Entry = (server_stepped c i (piece_timed_out (Server i) (c.hosts i) c.clock n p)).entry in
      let calm : AreCalm e.lines = piece_calm (Server i) (c.hosts i).state c.clock n p in
      server_goes c i _ es h senders (calm_goes i _ e es calm (piece_good (Server i) (c.hosts i).state e es (subst (λ (d : Option Fall). NodeOwes (Server i) d (c.hosts i).state es) up (h i)) (calm_up (Server i) e.lines calm) c.clock n p refl))

  wakes_goes : (i : ℕ) → (c.hosts i).down ≡ None → Steps es (server_stepped c i (node_woken (Server i) (c.hosts i) c.clock))
  unfolding node_wake_row wake_row
  wakes_goes i up senders =
      let e : Entry = (server_stepped c i (node_woken (Server i) (c.hosts i) c.clock)).entry in
      server_goes c i _ es h senders (calm_goes i _ e es refl (woken_good (Server i) (c.hosts i).state e es (subst (λ (d : Option Fall). NodeOwes (Server i) d (c.hosts i).state es) up (h i)) refl c.clock refl))

  break_goes : (i : ℕ) (n : Node) (b : BackCall) → (c.hosts i).down ≡ None → (c.hosts i).state.file.backs.calls n ≡ Some b → Steps es (server_stepped c i (node_timed_out (Server i) (c.hosts i) c.clock n b))
  unfolding node_back_timeout_row back_timeout_row
  break_goes i n b up at senders = server_goes c i _ es h senders (late_goes i es (c.hosts i) (h i) c.clock n b (server_stepped c i (node_timed_out (Server i) (c.hosts i) c.clock n b)).entry up at refl refl)

  pub steps_each : Each (Steps es) c
  steps_each = record {
    void = λ senders. none_goes c es _ h refl refl refl;
    ticks = λ n senders. none_goes c es _ h refl refl refl;
    servers = record {
      serves = λ i place luck m up g senders. server_goes c i _ es h senders (served_goes_by i es (c.hosts i) (h i) c.clock place m (struck (c.hosts i).armed luck _) _ up.up refl refl);
      crashes = λ i up senders. server_goes c i _ es h senders (crashed_goes i es (c.hosts i) (h i) _ refl refl);
      stop_set = λ i calls pick up senders. server_goes c i _ es h senders (calm_goes i _ _ es refl (stays_so i (c.hosts i).down (c.hosts i).state _ es refl refl (h i)));
      fail_set = λ i call up senders. server_goes c i _ es h senders (calm_goes i _ _ es refl (stays_so i (c.hosts i).down (c.hosts i).state _ es refl refl (h i)));
      restarts = λ i after o fall there down senders. server_goes c i _ es h senders (restarted_goes i es (c.hosts i) (h i) c.clock c.count after o fall _ down refl refl);
      piece_late = λ i n p up is. piece_goes i n p up.up;
      break_late = λ i n b up is. break_goes i n b up.up is;
      wakes = λ i up. wakes_goes i up.up;
    };
    database = record {
      serves = λ place luck m up g. loc_steps _ refl refl (loc_served c.loc c.clock place luck m).told;
      crashes = λ up. loc_steps _ refl refl (loc_crashed c.loc).told;
      stop_set = λ calls pick up. loc_steps _ refl refl (loc_stop_set c.loc calls pick).told;
      fail_set = λ call up. loc_steps _ refl refl (loc_fail_set c.loc call).told;
      restarts = λ after o fall down. loc_steps _ refl refl (loc_restarted c.loc c.clock c.count after o fall).told;
    };
    clients = record {
      begins = λ n act up idle. client_steps n _ refl refl (client_calm (copy_begin_row (Client n) (c.clients n) c.clock act).lines (copy_begun_tells (Client n) (c.clients n) c.clock act).told);
      given = λ n place m up g. client_steps n _ refl refl (client_calm (copy_row (Client n) (c.clients n) c.clock place (Whole m)).lines (copy_tells (Client n) (c.clients n) c.clock place m).told);
      seek_late = λ n k up is. client_steps n _ refl refl (client_calm (copy_seek_row (Client n) (c.clients n) k).lines (copy_missed_tells (Client n) (c.clients n) k).told);
      late = λ n act up is. client_steps n _ refl refl (client_calm (copy_timeout_row (Client n) (c.clients n) act).lines (copy_waited_tells (Client n) (c.clients n) act).told);
      stops = λ n up senders. other_goes c (Client n) es _ h refl refl (not_client n) senders (tt, tt) (λ j. refl);
      starts = λ n away senders. other_goes c (Client n) es _ h refl refl (not_client n) senders (tt, tt) (λ j. refl);
    };
    admins = record {
      begins = λ n act up idle. admin_steps n _ refl refl (admin_calm (admin_begin_row (Admin n) (c.admins n) act).lines (admins.begun_tells (Admin n) (c.admins n) act).told);
      given = λ n place m up g. admin_steps n _ refl refl (admin_calm (admin_row (Admin n) (c.admins n) place (Whole m)).lines (admins.given_tells (Admin n) (c.admins n) place m).told);
      late = λ n r up is. admin_steps n _ refl refl (admin_calm (admin_timeout_row (Admin n) (c.admins n) r).lines (admins.waited_tells (Admin n) (c.admins n) r).told);
      stops = λ n up senders. other_goes c (Admin n) es _ h refl refl (not_admin n) senders (tt, tt) (λ j. refl);
      starts = λ n gone senders. other_goes c (Admin n) es _ h refl refl (not_admin n) senders (tt, tt) (λ j. refl);
    };
  }

-- ---- a run

goes_on : (c : NodeCell) (xs : List CellInput) (history : List Entry) (end : NodeCell) (older : List Entry) → NodeLeads c xs history end → HaveSenders history → CellOwes c older → GiveUpLate older history
goes_on c [] [] end older is senders h = tt
goes_on c [] (e ∷ es) end older is senders h = absurd is
goes_on c (x ∷ xs) [] end older is senders h = absurd is
goes_on c (x ∷ xs) (e ∷ es) end older is senders h =
    let m : NodeMoved = node_moved c x in
    let g : Goes older m = each (Steps older) c (steps_each c older h) x (subst Senders is.0 senders.0) in
    subst (λ (y : Entry). GiveUpLate older (y ∷ es)) (sym is.0) (g.good, goes_on m.cell xs es end (m.entry ∷ older) is.1 senders.1 g.owes)

pub first_owes : (s : Script) → CellOwes (node_start s) (set_up_entry s ∷ [])
first_owes s i = record {
  quiet = record { seats = tt; kept = tt; held = tt; vol_seats = tt; waiting = tt };
  owes = λ up. record { owing = tt; outs = λ j c at. absurd cc };
  known = tt;
  alone = λ up j c at. absurd cc;
}

pub quits_late : QuitsAreLate
quits_late s inputs history end leads = goes_on (node_start s) inputs history end (set_up_entry s ∷ []) leads (senders_are_told s inputs history end leads) (first_owes s)
