-- What a step of a server node, up or down, makes of what it owes, with the entry that tells it.
use Rattle.std.proofs.Common.{◌≡◌, ℕ, ◌+◌, ◌<◌, ◌≤◌, Bool, true, false, cond, List, [], ◌∷◌, ◌++◌, Option, Some, None, refl, sym, ap, subst, ◌∙◌, arith}
use Rattle.std.specs.Prelude.{⊤, filter, map, not}
use Rattle.std.specs.List.{AllByRecursion}
use Rattle.std.proofs.Math.Nat.{le_refl, le_trans}
use Rattle.afs_num.specs.declared.calls.FsCall.{FsCall}
use Rattle.afs_num.specs.declared.messages.Carried.{Carried}
use Rattle.afs_num.specs.declared.messages.Carried.TheVariants as carried
use Rattle.afs_num.specs.declared.messages.Message.{Message}
use Rattle.afs_num.specs.declared.messages.Received.TheVariants.{Whole}
use Rattle.afs_num.specs.declared.types.Head.{Head}
use Rattle.afs_num.specs.declared.types.Key.{Key}
use Rattle.afs_num.specs.declared.types.Node.{Node}
use Rattle.spec_history.specs.declared.lines.Line.{Line}
use Rattle.spec_history.specs.declared.lines.Line.TheVariants as lines
use Rattle.spec_breaks.specs.declared.types.OwedBreak.{OwedBreak}
use Rattle.law_legal.proofs.BaseLaws.{a_key}
use Rattle.law_legal.proofs.OwedPasses.{all_lines, is_up}
use Rattle.law_legal.proofs.OwedLoadBreaks.{onto_both}
use Rattle.law_legal.proofs.OwedFacts.{all_both, all_map, AllOf}
use Rattle.law_legal.specs.Past.{lines_of, onto, sent_of, SendsTo}
use Rattle.law_places.proofs.Choices.{decided_open}
use Rattle.spec_rows.specs.Callbacks.{breaks_call, expired, given_out, held_after, is_ready, no_turn, owe_line, pumped, replies_of, risen_turn, starts, starts_by, call_timed_out, turn_for, turned_in, Started, CallbackStep}
use Rattle.spec_rows.specs.Hosts.{Fall}
use Rattle.spec_rows.specs.Runs.{Entry}
use Rattle.spec_rows.specs.ServerRow.{does, drops, refuses, repeats, saves, shows, tells_boot, Decision}
use Rattle.spec_rows.specs.ServerSteps.{back_timeout_row, stepped, wake_row}
use Rattle.spec_rows.specs.States.{durable_of, BackCall, Backs, Held, Lasting, ServerState}
use Rattle.spec_rows.specs.Steps.{Begun}
use Rattle.spec_volrows.specs.FileRow.{file_row, file_start}
use Rattle.spec_volrows.specs.VolRow.{holds_of}
use Rattle.spec_volrows.specs.VolStates.{NodeState, PieceCall, Sending, VolState}
use Rattle.spec_volrows.specs.VolSteps as vols
use Rattle.spec_volrows.specs.VolSteps.{deed_lines, file_stepped, from_of, is_of_client, waits_for_breaks, node_back_timeout_row, node_file_decides, node_row, node_start_row, node_wake_row, owes_of, piece_timeout_row, released, vol_answers, vol_decides, vol_row, vol_stepped, vol_timed, vol_turn, vol_turned, vol_turned_by, VolDecision, VolTurn}
use Rattle.law_walks.proofs.FileSends.{out_is}
use Rattle.law_walks.proofs.Seats.{all_filter, all_more, placed_is, seated_is}
use Rattle.law_walks.proofs.VolDecides.{decides_is}
use Rattle.law_walks.specs.Sends.{HeldAre, HeldIs, SeatsAre, VolIs}
use Rattle.law_owed.proofs.FileTurns.{carried_turn, change_no_call, expired_base, nothing, timed_turn, Base, GoodTurn, IsToldSo}
use Rattle.law_owed.proofs.Owing.{all_begin, known_more, new_owed, no_call_known, no_call_this, owes_over, sends_front, Alone, Begins, CarriesThis, IsKnown, IsKnownBy, IsNoCall, Owes}
use Rattle.law_owed.proofs.VolTurns.{timed_good, turned_good, GoodVol, OwesAreTold, VolBase}

-- what a node keeps and holds are replies, and no calls
pub record Quiet (s : NodeState) : Type 0 where
  pub seats : SeatsAre IsNoCall s.file.seats
  pub kept : SeatsAre IsNoCall s.file.lasting.kept
  pub held : HeldAre IsNoCall s.file.backs.held
  pub vol_seats : SeatsAre IsNoCall s.vol.seats
  pub waiting : HeldAre IsNoCall s.vol.held

pub record NodeOwes (me : Node) (d : Option Fall) (s : NodeState) (es : List Entry) : Type 0 where
  pub quiet : Quiet s
  pub owes : d ≡ None → Owes me s.file.lasting.boot s.file.backs es
  pub known : AllOf (IsKnown me d s.file.backs.last_call s.file.lasting.boot) (sent_of es)
  pub alone : d ≡ None → Alone me s.file.lasting.boot s.file.backs (sent_of es)

-- ---- the end of a step

pub all_known : (me : Node) (d : Option Fall) (last boot : ℕ) (ms : List Message) → AllByRecursion IsNoCall ms → AllOf (IsKnown me d last boot) ms
all_known me d last boot [] h = tt
all_known me d last boot (m ∷ ms) h = (no_call_known me d last boot m h.0, all_known me d last boot ms h.1)

all_this : (j : Node) (k : Key) (call : FsCall) (ms : List Message) → AllByRecursion IsNoCall ms → AllOf (CarriesThis j k call) ms
all_this j k call [] h = tt
all_this j k call (m ∷ ms) h = (no_call_this j k call m h.0, all_this j k call ms h.1)

one_held : (me : Node) (boot : ℕ) (t : Started) (o : OwedBreak) (c : Option BackCall) → (starts_by me boot t o c).backs.held ≡ t.backs.held
one_held me boot t o None = refl
one_held me boot t o (Some c) = refl

starts_held : (me : Node) (boot : ℕ) (os : List OwedBreak) (t : Started) → (starts me boot os t).backs.held ≡ t.backs.held
starts_held me boot [] t = refl
starts_held me boot (o ∷ os) t = starts_held me boot os (starts_by me boot t o (t.backs.calls o.client)) ∙ one_held me boot t o (t.backs.calls o.client)

-- its messages are those of the entry, or the first of them
abbrev GoOut : Entry → List Message → Type 0
GoOut e ms = (j : Node) (k : Key) (call : FsCall) → SendsTo j k [] call ms → SendsTo j k [] call e.sent

record Pumped (me : Node) (boot last : ℕ) (e : Entry) (older : List Entry) (t : CallbackStep) : Type 0 where
  begins : Begins me boot last e older (pumped me boot t)
  held : HeldAre IsNoCall (pumped me boot t).backs.held

pumps : (me : Node) (boot last : ℕ) (e : Entry) (older : List Entry) (t : CallbackStep) → AllOf (IsKnown me None last boot) (sent_of older) → GoOut e (pumped me boot t).sent → GoodTurn me boot last (e ∷ older) t → Pumped me boot last e older t
pumps me boot last e older t before went g =
    let ready : List Held = filter (is_ready t.backs.lists.owed) (t.outs ++ t.backs.held) in
    let replies : AllByRecursion IsNoCall (replies_of ready) = out_is IsNoCall ready (all_filter (HeldIs IsNoCall) (is_ready t.backs.lists.owed) (t.outs ++ t.backs.held) (all_more (HeldIs IsNoCall) t.outs t.backs.held g.outs g.held)) in
    record {
      begins = all_begin me boot last e older t.backs.lists.owed (record { backs = held_after t; sent = given_out t }) before g.owes.owing went (record {
        owes = record { owing = g.owes.owing; outs = g.owes.outs };
        rises = g.rises;
        known = all_both (IsKnown me None t.backs.last_call boot) t.sent (replies_of ready) g.known
            (all_known me None t.backs.last_call boot (replies_of ready) replies);
        earlier = g.earlier;
        alone = λ j k at. all_both (CarriesThis j (a_key me boot k.number) (breaks_call k.content)) t.sent (replies_of ready) (g.alone j k at) (all_this j (a_key me boot k.number) (breaks_call k.content) (replies_of ready) replies);
      });
      held = subst (HeldAre IsNoCall) (sym (starts_held me boot t.backs.lists.owed (record { backs = held_after t; sent = given_out t })))
          (all_filter (HeldIs IsNoCall) (λ (w : Held). not (is_ready t.backs.lists.owed w)) (t.backs.held ++ t.outs) (all_more (HeldIs IsNoCall) t.backs.held t.outs g.held g.outs));
    }

-- a step of the node, whose volume server's replies go out last
ended : (me : Node) (x : ServerState) (v : VolState) (ls more : List Line) (t : CallbackStep) (last : ℕ) (e : Entry) (older : List Entry) → e.sent ≡ (released v ls (stepped me x more t)).sent → AllOf (IsKnown me None last x.lasting.boot) (sent_of older)
    → GoodTurn me x.lasting.boot last (e ∷ older) t → SeatsAre IsNoCall x.seats → SeatsAre IsNoCall x.lasting.kept → SeatsAre IsNoCall v.seats → HeldAre IsNoCall v.held → NodeOwes me None (released v ls (stepped me x more t)).state (e ∷ older)
ended me x v ls more t last e older is before g seats kept vol_seats waiting =
    let boot : ℕ = x.lasting.boot in
    let u : Started = pumped me boot t in
    let out : List Held = filter (is_ready u.backs.lists.owed) v.held in
    let p : Pumped me boot last e older t = pumps me boot last e older t before (λ j k call z. subst (λ (ms : List Message). SendsTo j k [] call ms) (sym is) (sends_front j k [] call u.sent (replies_of out) z)) g in
    let replies : AllByRecursion IsNoCall (replies_of out) = out_is IsNoCall out (all_filter (HeldIs IsNoCall) (is_ready u.backs.lists.owed) v.held waiting) in
    record {
      quiet = record { seats = seats; kept = kept; held = p.held; vol_seats = vol_seats; waiting = all_filter (HeldIs IsNoCall) (waits_for_breaks u.backs.lists.owed) v.held waiting };
      owes = λ up. p.begins.owes;
      known = all_both (IsKnown me None u.backs.last_call boot) (sent_of older) e.sent (known_more me last u.backs.last_call boot (sent_of older) p.begins.rises before)
          (subst (AllOf (IsKnown me None u.backs.last_call boot)) (sym is) (all_both (IsKnown me None u.backs.last_call boot) u.sent (replies_of out) p.begins.known
          (all_known me None u.backs.last_call boot (replies_of out) replies)));
      alone = λ up j k at.
          let P : Message → Type 0 = CarriesThis j (a_key me boot k.number) (breaks_call k.content) in
          all_both P (sent_of older) e.sent (p.begins.earlier j k at) (subst (AllOf P) (sym is) (all_both P u.sent (replies_of out) (p.begins.alone j k at) (all_this j (a_key me boot k.number) (breaks_call k.content) (replies_of out) replies)));
    }

-- ---- a file server's step

record DoneQuiet (me : Node) (x : ServerState) (clock place : ℕ) (d : Decision) : Type 0 where
  seats : SeatsAre IsNoCall (does me x clock place d []).state.seats
  kept : SeatsAre IsNoCall (does me x clock place d []).state.lasting.kept
  boot : (does me x clock place d []).state.lasting.boot ≡ x.lasting.boot

does_quiet : (me : Node) (x : ServerState) (clock place : ℕ) (d : Decision) → SeatsAre IsNoCall x.seats → SeatsAre IsNoCall x.lasting.kept → DoneQuiet me x clock place d
does_quiet me x clock place drops seats kept = record { seats = seats; kept = kept; boot = refl }
does_quiet me x clock place (tells_boot head) seats kept = record { seats = seats; kept = kept; boot = refl }
does_quiet me x clock place (repeats reply) seats kept = record { seats = seats; kept = kept; boot = refl }
does_quiet me x clock place (refuses head code) seats kept = record { seats = seated_is IsNoCall _ x.seats refl seats; kept = kept; boot = refl }
does_quiet me x clock place (shows head r) seats kept = record { seats = seated_is IsNoCall _ x.seats refl seats; kept = kept; boot = refl }
does_quiet me x clock place (saves head c) seats kept =
    record { seats = seated_is IsNoCall _ x.seats (change_no_call x.lasting.boot head clock c) seats; kept = placed_is IsNoCall _ x.lasting.kept (change_no_call x.lasting.boot head clock c) kept; boot = refl }

-- what is saved is told
told_by : (me : Node) (x : ServerState) (e : Entry) (b : Backs) (clock place : ℕ) (d : Decision) → e.lines ≡ (does me x clock place d (turn_for me x clock b d).lines).lines → IsToldSo me e b place clock d
told_by me x e b clock place drops is = tt
told_by me x e b clock place (tells_boot head) is = tt
told_by me x e b clock place (repeats reply) is = tt
told_by me x e b clock place (refuses head code) is = tt
told_by me x e b clock place (shows head r) is = tt
told_by me x e b clock place (saves head c) is = is

module _ (me : Node) (s : NodeState) (e : Entry) (older : List Entry) (h : NodeOwes me None s older) (up : all_lines (is_up me) e.lines ≡ true) where
  base : (clock : ℕ) → Base me s.file.lasting.boot s.file.backs.last_call (e ∷ older) (expired clock s.file.backs)
  base clock =
      expired_base me s.file.lasting.boot s.file.backs.last_call clock (e ∷ older) s.file.backs
      (record { owes = owes_over me s.file.lasting.boot s.file.backs e older up (h.owes refl); rises = le_refl s.file.backs.last_call; held = h.quiet.held; earlier = h.alone refl })

  file_told : (clock place : ℕ) (head : Head) (c : Carried) → e.lines ≡ (file_row me (holds_of s.vol.transactions) s.file clock place (Whole (record { head = head; carried = c }))).lines
      → IsToldSo me e (expired clock s.file.backs) place clock (node_file_decides me s clock (Whole (record { head = head; carried = c })))
  unfolding file_row
  file_told clock place head (carried.Call user call) is = told_by me s.file e (expired clock s.file.backs) clock place (node_file_decides me s clock (Whole (record { head = head; carried = carried.Call user call }))) is
  file_told clock place head (carried.Refusal code) is = tt
  file_told clock place head (carried.Reply reply) is = tt
  file_told clock place head carried.Notice is = tt

  file_good : (clock place : ℕ) (m : Message) → e.lines ≡ (file_row me (holds_of s.vol.transactions) s.file clock place (Whole m)).lines → e.sent ≡ (file_stepped s.vol (file_row me (holds_of s.vol.transactions) s.file clock place (Whole m))).sent
      → NodeOwes me None (file_stepped s.vol (file_row me (holds_of s.vol.transactions) s.file clock place (Whole m))).state (e ∷ older)
  unfolding file_row
  file_good clock place m told went =
      let d : Decision = node_file_decides me s clock (Whole m) in
      let t : CallbackStep = turned_in me s.file clock (expired clock s.file.backs) d (Whole m) in
      let q : DoneQuiet me s.file clock place d = does_quiet me s.file clock place d h.quiet.seats h.quiet.kept in
      let last : ℕ = s.file.backs.last_call in
      let g : GoodTurn me s.file.lasting.boot last (e ∷ older) t =
      carried_turn me last e older (expired clock s.file.backs) s.file h.quiet.seats (base clock) clock place d m.head m.carried (decided_open me (holds_of s.vol.transactions) s.file clock (Whole m)) (file_told clock place m.head m.carried told) in
      ended me (does me s.file clock place d []).state s.vol [] [] t last e older went (subst (λ (n : ℕ). AllOf (IsKnown me None last n) (sent_of older)) (sym q.boot) h.known)
      (subst (λ (n : ℕ). GoodTurn me n last (e ∷ older) t) (sym q.boot) g) q.seats q.kept h.quiet.vol_seats h.quiet.waiting

  pub late_good : (clock : ℕ) (n : Node) (c : BackCall) → s.file.backs.calls n ≡ Some c → e.lines ≡ (call_timed_out me s.file.lasting.boot n c (expired clock s.file.backs)).lines → e.sent ≡ (node_back_timeout_row me s clock n c).sent
      → NodeOwes me None (node_back_timeout_row me s clock n c).state (e ∷ older)
  unfolding node_back_timeout_row back_timeout_row
  late_good clock n c at told went =
      let last : ℕ = s.file.backs.last_call in
      ended me s.file s.vol [] [] (call_timed_out me s.file.lasting.boot n c (expired clock s.file.backs)) last e older went h.known
      (timed_turn me s.file.lasting.boot last e older (expired clock s.file.backs) (base clock) n c at told) h.quiet.seats h.quiet.kept h.quiet.vol_seats h.quiet.waiting

  pub woken_good : (clock : ℕ) → e.sent ≡ (node_wake_row me s clock).sent → NodeOwes me None (node_wake_row me s clock).state (e ∷ older)
  unfolding node_wake_row wake_row
  woken_good clock went =
      let last : ℕ = s.file.backs.last_call in
      ended me s.file s.vol [] [] (no_turn (expired clock s.file.backs)) last e older went h.known (nothing me s.file.lasting.boot last e older (expired clock s.file.backs) (base clock)) h.quiet.seats h.quiet.kept h.quiet.vol_seats h.quiet.waiting

  -- ---- a volume server's step

  vol_base : (clock : ℕ) → VolBase me s.file.backs.last_call (e ∷ older) s.file.lasting s.vol (expired clock s.file.backs)
  vol_base clock = record { base = base clock; kept = h.quiet.kept; seats = h.quiet.vol_seats; waiting = h.quiet.waiting }

  vol_ended : (ls : List Line) (t : VolTurn) → e.sent ≡ (vol_stepped me s.file ls t).sent → GoodVol me s.file.lasting.boot s.file.backs.last_call (e ∷ older) t → NodeOwes me None (vol_stepped me s.file ls t).state (e ∷ older)
  vol_ended ls t went g =
      let last : ℕ = s.file.backs.last_call in
      let turn : CallbackStep = record { backs = t.backs; lines = []; sent = t.sent; outs = [] } in
      let good : GoodTurn me s.file.lasting.boot last (e ∷ older) turn = record { owes = g.base.owes; rises = g.base.rises; known = g.known; held = g.base.held; outs = tt; earlier = g.base.earlier; alone = g.alone } in
      ended me (record s.file { lasting = t.lasting }) t.vol (ls ++ t.lines) [] turn last e older went (subst (λ (n : ℕ). AllOf (IsKnown me None last n) (sent_of older)) (sym g.boots) h.known)
      (subst (λ (n : ℕ). GoodTurn me n last (e ∷ older) turn) (sym g.boots) good) h.quiet.seats g.kept g.seats g.waiting

  answers_lines : (l : Lasting) (v : VolState) (b : Backs) (ls : List Line) (reply : Message) (waits : List ℕ) (again : Bool) → (vol_answers l v b ls reply waits again).lines ≡ ls
  answers_lines l v b ls reply [] again = refl
  answers_lines l v b ls reply (k ∷ ks) again = refl

  -- what is saved tells the breaks that it owes
  vol_told_by : (clock place : ℕ) (d : VolDecision) → e.lines ≡ lines.Given place ∷ (vol_turn me s.file.lasting s.vol (expired clock s.file.backs) d).lines → OwesAreTold me s.file.backs.last_call (e ∷ older) s.file.lasting s.vol (expired clock s.file.backs) (vol_base clock) d
  vol_told_by clock place vols.drops is = tt
  vol_told_by clock place (vols.tells_boot head) is = tt
  vol_told_by clock place (vols.repeats reply) is = tt
  vol_told_by clock place (vols.replies_to head reply ts last) is = tt
  vol_told_by clock place (vols.dispatches head x) is = tt
  vol_told_by clock place (vols.saves head x) is =
      let b : Backs = expired clock s.file.backs in
      let deed : List Line = deed_lines me head x s.file.lasting in
      let os : List OwedBreak = owes_of x.withdraws b.lists in
      new_owed me os (onto (lines.Given place ∷ lines_of older) deed) (e ∷ older)
      (ap (onto (lines_of older)) (is ∙ ap (λ (ls : List Line). lines.Given place ∷ ls) (answers_lines _ _ _ (deed ++ map (owe_line me) os) _ _ _)) ∙ onto_both (lines.Given place ∷ lines_of older) deed (map (owe_line me) os))

  vol_told : (clock place : ℕ) (head : Head) (c : Carried) → e.lines ≡ lines.Given place ∷ (vol_turned_by me s.file.lasting s.vol (expired clock s.file.backs) (vol_decides me (durable_of s.file.lasting) s.vol (Whole (record { head = head; carried = c }))) head c).lines
      → OwesAreTold me s.file.backs.last_call (e ∷ older) s.file.lasting s.vol (expired clock s.file.backs) (vol_base clock) (vol_decides me (durable_of s.file.lasting) s.vol (Whole (record { head = head; carried = c })))
  vol_told clock place head (carried.Call user call) is = vol_told_by clock place (vol_decides me (durable_of s.file.lasting) s.vol (Whole (record { head = head; carried = carried.Call user call }))) is
  vol_told clock place head (carried.Refusal code) is = tt
  vol_told clock place head (carried.Reply reply) is = tt
  vol_told clock place head carried.Notice is = tt

  vol_good : (clock place : ℕ) (m : Message) → e.lines ≡ (vol_row me s clock place (Whole m)).lines → e.sent ≡ (vol_row me s clock place (Whole m)).sent → NodeOwes me None (vol_row me s clock place (Whole m)).state (e ∷ older)
  vol_good clock place m told went =
      let b : Backs = expired clock s.file.backs in
      let d : VolDecision = vol_decides me (durable_of s.file.lasting) s.vol (Whole m) in
      let is : VolIs IsNoCall IsNoCall (λ (x : Sending). ⊤) me d = decides_is IsNoCall IsNoCall (λ (x : Sending). ⊤) me (durable_of s.file.lasting) s.vol m (λ to. record { reply = λ r. refl; refused = λ code. refl; sends_on = λ x. tt }) h.quiet.vol_seats in
      vol_ended (lines.Given place ∷ []) (vol_turned me s.file.lasting s.vol b d (Whole m)) went
      (turned_good me s.file.backs.last_call (e ∷ older) s.file.lasting s.vol b (vol_base clock) d m.head m.carried is (vol_told clock place m.head m.carried told))

  pub piece_good : (clock : ℕ) (n : Node) (c : PieceCall) → e.sent ≡ (piece_timeout_row me s clock n c).sent → NodeOwes me None (piece_timeout_row me s clock n c).state (e ∷ older)
  unfolding piece_timeout_row
  piece_good clock n c went =
      vol_ended [] (vol_timed me s.file.lasting s.vol (expired clock s.file.backs) n c (s.vol.sendings n)) went (timed_good me s.file.backs.last_call (e ∷ older) s.file.lasting s.vol (expired clock s.file.backs) (vol_base clock) n c (s.vol.sendings n))

  -- ---- a message

  row_by : (t : Bool) (clock place : ℕ) (m : Message) → e.lines ≡ (cond t (file_stepped s.vol (file_row me (holds_of s.vol.transactions) s.file clock place (Whole m))) (vol_row me s clock place (Whole m))).lines
      → e.sent ≡ (cond t (file_stepped s.vol (file_row me (holds_of s.vol.transactions) s.file clock place (Whole m))) (vol_row me s clock place (Whole m))).sent
      → NodeOwes me None (cond t (file_stepped s.vol (file_row me (holds_of s.vol.transactions) s.file clock place (Whole m))) (vol_row me s clock place (Whole m))).state (e ∷ older)
  row_by true clock place m told went = file_good clock place m told went
  row_by false clock place m told went = vol_good clock place m told went

  pub row_good : (clock place : ℕ) (m : Message) → e.lines ≡ (node_row me s clock place (Whole m)).lines → e.sent ≡ (node_row me s clock place (Whole m)).sent → NodeOwes me None (node_row me s clock place (Whole m)).state (e ∷ older)
  unfolding node_row
  row_good clock place m told went = row_by (is_of_client (from_of (Whole m))) clock place m told went

-- ---- a step that the disk ends, and a node that is down

known_down : (b : Bool) (me : Node) (d : Option Fall) (fall : Fall) (last more boot now : ℕ) (head : Head) → boot ≤ now → IsKnownBy me d last boot head b → IsKnownBy me (Some fall) more now head b
known_down true me d fall last more boot now head le h = λ own. (le_trans (h own).0 le, λ up. absurd cc)
known_down false me d fall last more boot now head le h = tt

pub all_down : (me : Node) (d : Option Fall) (fall : Fall) (last more boot now : ℕ) (ms : List Message) → boot ≤ now → AllOf (IsKnown me d last boot) ms → AllOf (IsKnown me (Some fall) more now) ms
all_down me d fall last more boot now ms le h = all_map (IsKnown me d last boot) (IsKnown me (Some fall) more now) (λ m k. known_down _ me d fall last more boot now m.head le k) ms h

-- ---- a restart

known_up : (b : Bool) (me : Node) (fall : Fall) (last boot now : ℕ) (head : Head) → boot < now → IsKnownBy me (Some fall) last boot head b → IsKnownBy me None 0 now head b
known_up true me fall last boot now head lt h = λ own. (let low = (h own).0 in omega arith, λ up same. (let low = (h own).0 in absurd (omega arith)))
known_up false me fall last boot now head lt h = tt

pub risen_good : (me : Node) (s : NodeState) (fall : Fall) (clock count : ℕ) (f : Begun ServerState) (base : List Line) (e : Entry) (older : List Entry) → NodeOwes me (Some fall) s older → s.file.lasting.boot ≤ f.state.lasting.boot → SeatsAre IsNoCall f.state.lasting.kept
    → lines_of (e ∷ older) ≡ onto base (map (owe_line me) (risen_turn me clock count).backs.lists.owed) → e.sent ≡ (node_start_row me clock count f).sent → NodeOwes me None (node_start_row me clock count f).state (e ∷ older)
unfolding node_start_row file_start
risen_good me s fall clock count f base e older h le kept told went =
    let boot : ℕ = f.state.lasting.boot + 1 in
    let t : CallbackStep = risen_turn me clock count in
    let before : AllOf (IsKnown me None 0 boot) (sent_of older) =
    all_map (IsKnown me (Some fall) s.file.backs.last_call s.file.lasting.boot) (IsKnown me None 0 boot) (λ m k. known_up _ me fall s.file.backs.last_call s.file.lasting.boot boot m.head (omega arith) k) (sent_of older) h.known in
    let good : GoodTurn me boot 0 (e ∷ older) t = record {
      owes = record { owing = new_owed me t.backs.lists.owed base (e ∷ older) told; outs = λ j c at. absurd cc };
      rises = le_refl 0;
      known = tt;
      held = tt;
      outs = tt;
      earlier = λ j c at. absurd cc;
      alone = λ j c at. tt;
    } in
    let u : Started = pumped me boot t in
    let p : Pumped me boot 0 e older t = pumps me boot 0 e older t before (λ j k call z. subst (λ (ms : List Message). SendsTo j k [] call ms) (sym went) z) good in
    record {
      quiet = record { seats = kept; kept = kept; held = p.held; vol_seats = kept; waiting = tt };
      owes = λ up. p.begins.owes;
      known = all_both (IsKnown me None u.backs.last_call boot) (sent_of older) e.sent (known_more me 0 u.backs.last_call boot (sent_of older) p.begins.rises before)
          (subst (AllOf (IsKnown me None u.backs.last_call boot)) (sym went) p.begins.known);
      alone = λ up j k at.
          let P : Message → Type 0 = CarriesThis j (a_key me boot k.number) (breaks_call k.content) in
          all_both P (sent_of older) e.sent (p.begins.earlier j k at) (subst (AllOf P) (sym went) (p.begins.alone j k at));
    }
