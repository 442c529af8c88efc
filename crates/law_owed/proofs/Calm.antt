-- Which entries stop no server, and give no break up.
use Rattle.std.proofs.Common.{◌≡◌, ℕ, ◌+◌, Bool, true, false, cond, List, [], ◌∷◌, ◌++◌, refl, sym, ap, subst}
use Rattle.std.specs.Prelude.{map, not}
use Rattle.afs_num.specs.Nodes.{same_node}
use Rattle.afs_num.specs.declared.histories.Actor.{Actor}
use Rattle.afs_num.specs.declared.histories.Version.{Version}
use Rattle.afs_num.specs.declared.messages.Message.{Message}
use Rattle.afs_num.specs.declared.messages.Received.TheVariants.{Whole}
use Rattle.afs_num.specs.declared.types.Head.{Head}
use Rattle.afs_num.specs.declared.types.Node.{Node}
use Rattle.afs_num.specs.declared.types.Node.TheVariants.{Admin, Client, Loc, Server}
use Rattle.spec_history.specs.declared.lines.Line.{Line}
use Rattle.spec_history.specs.declared.lines.Line.TheVariants as lines
use Rattle.spec_breaks.specs.declared.types.OwedBreak.{OwedBreak}
use Rattle.spec_fold.specs.Effects.{effect_by}
use Rattle.law_legal.proofs.OwedPasses as law
use Rattle.law_legal.proofs.OwedPasses.{is_up}
use Rattle.spec_model.proofs.Basics.{both}
use Rattle.spec_model.specs.Calls.{is_sent_again}
use Rattle.spec_records.specs.Durable.{Durable}
use Rattle.spec_rows.specs.Callbacks.{expired, owe_line, quit_line, still_owed, call_timed_out, turned_in, CallbackStep}
use Rattle.spec_rows.specs.Runs.{Entry}
use Rattle.spec_rows.specs.ServerRow as file
use Rattle.spec_rows.specs.ServerRow.{does, granted, granted_in, versions_made, promise_ticks, versioned, Decision}
use Rattle.spec_rows.specs.States.{durable_of, BackCall, Backs, ServerState}
use Rattle.spec_volrows.proofs.VolKeeping.{deeds_are_writable}
use Rattle.spec_volrows.proofs.VolTurns.{deeds_are_shown}
use Rattle.spec_volrows.specs.FileRow.{file_row}
use Rattle.spec_volrows.specs.VolLaws.{is_saved, IsWritable, OfSaved, ShowsDeed}
use Rattle.spec_volrows.specs.VolRow.{holds_of}
use Rattle.spec_volrows.specs.VolStates.{NodeState, PieceCall}
use Rattle.spec_volrows.specs.VolSteps as vols
use Rattle.spec_volrows.specs.VolSteps.{deed_head, from_of, is_of_client, node_file_decides, node_row, owes_of, piece_timeout_row, vol_decides, vol_timed, vol_turned_by, Deed, VolDecision}
use Rattle.law_places.proofs.Turning.{all_lines, all_on}
use Rattle.law_latest.proofs.AdminLines.{admin_tells}
use Rattle.law_latest.proofs.ClientLines.{client_tells}
use Rattle.law_latest.proofs.LocLines.{database_tells}
use Rattle.law_latest.proofs.ServerLines.{carried_told, deed_told, granted_told, owes_told, server_tells, timed_told, turned_told_by, weaker, AreOfServer}
use Rattle.law_owed.specs.Quits.{AreLate}

abbrev pub is_calm : Line → Bool
is_calm (lines.Crash n) = false
is_calm (lines.Fault n) = false
is_calm (lines.Quit s c n) = false
is_calm l = true

abbrev pub AreCalm : List Line → Type 0
AreCalm ls = all_lines is_calm ls ≡ true

-- ---- what follows

-- the two words for all lines of one kind say the same
pub as_law : (p q : Line → Bool) → ((l : Line) → p l ≡ true → q l ≡ true) → (ls : List Line) → all_lines p ls ≡ true → law.all_lines q ls ≡ true
as_law p q w [] h = refl
as_law p q w (l ∷ ls) h = let k = both (p l) (all_lines p ls) h in rw (w l k.0, as_law p q w ls k.1) refl

calm_one : (me : Node) (l : Line) → is_calm l ≡ true → is_up me l ≡ true
calm_one me (lines.Crash n) h = absurd cc
calm_one me (lines.Fault n) h = absurd cc
calm_one me l h = refl

pub calm_up : (me : Node) (ls : List Line) → AreCalm ls → law.all_lines (is_up me) ls ≡ true
calm_up me ls h = as_law is_calm (is_up me) (calm_one me) ls h

late_one : (who : Actor) (es : List Entry) (own : List Line) (l : Line) (ls : List Line) → is_calm l ≡ true → AreLate who es (l ∷ own) ls → AreLate who es own (l ∷ ls)
late_one who es own (lines.Quit s c n) ls h k = absurd cc
late_one who es own l ls h k = (tt, k)

pub calm_late : (who : Actor) (es : List Entry) (own ls : List Line) → AreCalm ls → AreLate who es own ls
calm_late who es own [] h = tt
calm_late who es own (l ∷ ls) h = let q = both (is_calm l) (all_lines is_calm ls) h in late_one who es own l ls q.0 (calm_late who es (l ∷ own) ls q.1)

-- ---- by kinds of lines

client_one : (l : Line) → client_tells l ≡ true → is_calm l ≡ true
client_one (lines.Crash n) h = absurd cc
client_one (lines.Fault n) h = absurd cc
client_one (lines.Quit s c n) h = absurd cc
client_one l h = refl

pub client_calm : (ls : List Line) → all_lines client_tells ls ≡ true → AreCalm ls
client_calm ls h = weaker client_tells is_calm client_one ls h

admin_one : (l : Line) → admin_tells l ≡ true → is_calm l ≡ true
admin_one (lines.Crash n) h = absurd cc
admin_one (lines.Fault n) h = absurd cc
admin_one (lines.Quit s c n) h = absurd cc
admin_one l h = refl

pub admin_calm : (ls : List Line) → all_lines admin_tells ls ≡ true → AreCalm ls
admin_calm ls h = weaker admin_tells is_calm admin_one ls h

server_one : (l : Line) → server_tells l ≡ true → is_calm l ≡ true
server_one (lines.Crash n) h = absurd cc
server_one (lines.Fault n) h = absurd cc
server_one (lines.Quit s c n) h = absurd cc
server_one l h = refl

pub server_calm : (ls : List Line) → AreOfServer ls → AreCalm ls
server_calm ls h = weaker server_tells is_calm server_one ls h

-- the database's stops are no server's
apart_loc : (i : ℕ) (n : Node) → same_node n Loc ≡ true → not (same_node n (Server i)) ≡ true
apart_loc i Loc h = refl
apart_loc i (Server j) h = absurd cc
apart_loc i (Client j) h = absurd cc
apart_loc i (Admin j) h = absurd cc

database_one : (i : ℕ) (l : Line) → database_tells l ≡ true → is_up (Server i) l ≡ true
database_one i (lines.Crash n) h = apart_loc i n h
database_one i (lines.Fault n) h = apart_loc i n h
database_one i l h = refl

pub database_up : (i : ℕ) (ls : List Line) → all_lines database_tells ls ≡ true → law.all_lines (is_up (Server i)) ls ≡ true
database_up i ls h = as_law database_tells (is_up (Server i)) (database_one i) ls h

abbrev pub is_no_quit : Line → Bool
is_no_quit (lines.Quit s c n) = false
is_no_quit l = true

no_quit_one : (who : Actor) (es : List Entry) (own : List Line) (l : Line) (ls : List Line) → is_no_quit l ≡ true → AreLate who es (l ∷ own) ls → AreLate who es own (l ∷ ls)
no_quit_one who es own (lines.Quit s c n) ls h k = absurd cc
no_quit_one who es own l ls h k = (tt, k)

no_quit_late : (who : Actor) (es : List Entry) (own ls : List Line) → all_lines is_no_quit ls ≡ true → AreLate who es own ls
no_quit_late who es own [] h = tt
no_quit_late who es own (l ∷ ls) h = let q = both (is_no_quit l) (all_lines is_no_quit ls) h in no_quit_one who es own l ls q.0 (no_quit_late who es (l ∷ own) ls q.1)

database_no_quit : (l : Line) → database_tells l ≡ true → is_no_quit l ≡ true
database_no_quit (lines.Quit s c n) h = absurd cc
database_no_quit l h = refl

pub database_late : (who : Actor) (es : List Entry) (own ls : List Line) → all_lines database_tells ls ≡ true → AreLate who es own ls
database_late who es own ls h = no_quit_late who es own ls (weaker database_tells is_no_quit database_no_quit ls h)

calm_no_quit : (l : Line) → is_calm l ≡ true → is_no_quit l ≡ true
calm_no_quit (lines.Quit s c n) h = absurd cc
calm_no_quit l h = refl

-- behind calm lines a stop
pub stopped_late : (who : Actor) (es : List Entry) (ls : List Line) (l : Line) → AreCalm ls → is_no_quit l ≡ true → AreLate who es [] (ls ++ l ∷ [])
stopped_late who es ls l h k = no_quit_late who es [] (ls ++ l ∷ []) (all_on is_no_quit ls (l ∷ []) (weaker is_calm is_no_quit calm_no_quit ls h) (rw k refl))

-- ---- a server's steps

does_calm : (me : Node) (x : ServerState) (clock place : ℕ) (d : Decision) (ls : List Line) → AreOfServer ls → AreCalm (does me x clock place d ls).lines
does_calm me x clock place file.drops ls h = server_calm ls h
does_calm me x clock place (file.tells_boot head) ls h = server_calm ls h
does_calm me x clock place (file.repeats reply) ls h = server_calm ls h
does_calm me x clock place (file.refuses head code) ls h = server_calm ls h
does_calm me x clock place (file.shows head r) ls h = server_calm (granted me head.from (clock + promise_ticks) r.granted ls) (granted_told me head.from (clock + promise_ticks) r.granted ls h)
does_calm me x clock place (file.saves head c) ls h = versioned_calm (versions_made c) (granted me head.from (clock + promise_ticks) (granted_in c) ls) (server_calm (granted me head.from (clock + promise_ticks) (granted_in c) ls) (granted_told me head.from (clock + promise_ticks) (granted_in c) ls h))
  where
    versioned_calm : (vs : List Version) (xs : List Line) → AreCalm xs → AreCalm (versioned vs xs)
    versioned_calm [] xs k = k
    versioned_calm (v ∷ vs) xs k = versioned_calm vs xs k

file_calm : (me : Node) (s : NodeState) (clock place : ℕ) (m : Message) → AreCalm (file_row me (holds_of s.vol.transactions) s.file clock place (Whole m)).lines
unfolding file_row
file_calm me s clock place m =
    let d : Decision = node_file_decides me s clock (Whole m) in
    let t : CallbackStep = turned_in me s.file clock (expired clock s.file.backs) d (Whole m) in
    does_calm me s.file clock place d t.lines (carried_told me s.file clock (expired clock s.file.backs) d m.head m.carried)

saved_calm : (me : Node) (s : NodeState) (clock place : ℕ) (m : Message) (head : Head) (x : Deed) → is_of_client (from_of (Whole m)) ≡ false → vol_decides me (durable_of s.file.lasting) s.vol (Whole m) ≡ vols.saves head x → AreCalm (node_row me s clock place (Whole m)).lines
saved_calm me s clock place m head x other is =
    let d : Durable = durable_of s.file.lasting in
    let shown : ShowsDeed me s clock place head x (node_row me s clock place (Whole m)) = deeds_are_shown me s clock place (Whole m) head x other is in
    let writable = subst (OfSaved (IsWritable d)) is (deeds_are_writable me d s.vol (Whole m)) in
    let owes : List Line = map (owe_line me) (owes_of x.withdraws (expired clock s.file.backs).lists) in
    subst AreCalm (sym shown.lines)
    (server_calm (effect_by me (deed_head head x) x.body d ++ owes) (all_on server_tells (effect_by me (deed_head head x) x.body d) owes (deed_told me (deed_head head x) x.body d writable.taken) (owes_told me (owes_of x.withdraws (expired clock s.file.backs).lists))))

quiet_calm : (me : Node) (s : NodeState) (clock place : ℕ) (m : Message) → is_of_client (from_of (Whole m)) ≡ false → is_saved (vol_decides me (durable_of s.file.lasting) s.vol (Whole m)) ≡ false → AreCalm (node_row me s clock place (Whole m)).lines
unfolding node_row
quiet_calm me s clock place m other quiet = rw other (server_calm (vol_turned_by me s.file.lasting s.vol (expired clock s.file.backs) (vol_decides me (durable_of s.file.lasting) s.vol (Whole m)) m.head m.carried).lines
    (turned_told_by me s.file.lasting s.vol (expired clock s.file.backs) (vol_decides me (durable_of s.file.lasting) s.vol (Whole m)) m.head m.carried quiet))

vol_calm : (me : Node) (s : NodeState) (clock place : ℕ) (m : Message) (d : VolDecision) → is_of_client (from_of (Whole m)) ≡ false → vol_decides me (durable_of s.file.lasting) s.vol (Whole m) ≡ d → AreCalm (node_row me s clock place (Whole m)).lines
vol_calm me s clock place m (vols.saves head x) other is = saved_calm me s clock place m head x other is
vol_calm me s clock place m d other is = quiet_calm me s clock place m other (ap is_saved is)

row_by : (b : Bool) (me : Node) (s : NodeState) (clock place : ℕ) (m : Message) → is_of_client (from_of (Whole m)) ≡ b → AreCalm (node_row me s clock place (Whole m)).lines
unfolding node_row
row_by true me s clock place m is = rw is (file_calm me s clock place m)
row_by false me s clock place m is = vol_calm me s clock place m (vol_decides me (durable_of s.file.lasting) s.vol (Whole m)) is refl

pub row_calm : (me : Node) (s : NodeState) (clock place : ℕ) (m : Message) → AreCalm (node_row me s clock place (Whole m)).lines
row_calm me s clock place m = row_by (is_of_client (from_of (Whole m))) me s clock place m refl

pub piece_calm : (me : Node) (s : NodeState) (clock : ℕ) (n : Node) (c : PieceCall) → AreCalm (piece_timeout_row me s clock n c).lines
unfolding piece_timeout_row
piece_calm me s clock n c = server_calm (vol_timed me s.file.lasting s.vol (expired clock s.file.backs) n c (s.vol.sendings n)).lines (timed_told me s.file.lasting s.vol (expired clock s.file.backs) n c (s.vol.sendings n))

-- a timed-out call stops no server either
quits_up : (me n : Node) (os : List OwedBreak) (q : Node) → law.all_lines (is_up q) (map (quit_line me n) os) ≡ true
quits_up me n [] q = refl
quits_up me n (o ∷ os) q = quits_up me n os q

either_up : (q : Node) (t : Bool) (a b : CallbackStep) → law.all_lines (is_up q) a.lines ≡ true → law.all_lines (is_up q) b.lines ≡ true → law.all_lines (is_up q) (cond t a b).lines ≡ true
either_up q true a b h k = h
either_up q false a b h k = k

pub late_up : (q me : Node) (boot : ℕ) (n : Node) (c : BackCall) (b : Backs) → law.all_lines (is_up q) (call_timed_out me boot n c b).lines ≡ true
late_up q me boot n c b = either_up q (is_sent_again c.tries) _ _ refl (quits_up me n (still_owed c b) q)
