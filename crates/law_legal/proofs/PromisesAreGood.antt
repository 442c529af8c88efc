-- Each promise of a run is good, however many servers a cell has: it is made where a call runs whose reply promises that.
use Rattle.law_legal.proofs.DatabaseLines.{is_of_loc, all_of_loc}
use Rattle.law_legal.proofs.ActCallsInRuns.{sought_acts_in}
use Rattle.spec_breaks.specs.declared.types.OwedBreak.{OwedBreak}
use Rattle.spec_history.specs.declared.lines.Line.{Line}
use Rattle.spec_history.specs.declared.lines.Line.TheVariants as lines
use Rattle.spec_history.specs.declared.scripts.Script.{Script}
use Rattle.spec_ideal.specs.Operations.{Found, Result, changes, the_user}
use Rattle.spec_ideal.specs.Volumes.{Volume, Vnode, version_at, vnode_of}
use Rattle.law_legal.proofs.ActSteps.{begins_acts, given_acts, waits_acts, missed_acts}
use Rattle.law_legal.proofs.ActLines.{is_of}
use Rattle.law_legal.proofs.OwedPasses.{all_lines, is_still}
use Rattle.law_legal.proofs.BaseLaws.{ByClient, IfCall, OfCall, both, each_at, runs_admitted}
use Rattle.law_legal.proofs.ServerChooses.{risen_lines}
use Rattle.law_legal.proofs.ServerStepsCut.{comes_first, now_up}
use Rattle.law_legal.proofs.VolumeEdits.{Sound, SoundIn, edits_told, live_index, on_top, sound_same}
use Rattle.law_legal.proofs.BaseWords.{IsOne}
use Rattle.law_legal.proofs.VolumeNewVnodes.{made_last, newly}
use Rattle.law_legal.proofs.VolumesAreIdeal.{Held}
use Rattle.law_legal.proofs.VolumeChanges.{run_each}
use Rattle.law_legal.proofs.CallKeysOnce.{IsKnown, any_told, by_key, admitted_latest}
use Rattle.law_legal.proofs.RunWalk.{EachMove, each_moved}
use Rattle.law_legal.proofs.ServerReasons.{AreAmong, IsFile, IsMaking, IsReading, IsThere, Runs, Why, answer_of, answers_after, answers_in, answers_same, held_by, read_same, read_there, why}
use Rattle.law_legal.proofs.ServerFinds.{IsAmong}
use Rattle.law_legal.proofs.RunClock.{HeldTicks, ticks_first, ticks_kept}
use Rattle.law_legal.specs.Breaks.{HasStopped}
use Rattle.law_legal.specs.Ideal.{clock_of, last_version, set_up_entry, volume_after}
use Rattle.law_legal.specs.Legal.{GoodGrant, IsClient, IsPromisedBy, RunsHere, ideal_answer, code_given}
use Rattle.law_legal.specs.Parts.{EachLine}
use Rattle.law_legal.specs.Past.{IsCall, IsCallUnder, given_message, lines_of, sent_of}
use Rattle.law_legal.specs.ServerParts.{GrantsAreGood, IsGrantGood}
use Rattle.afs_num.specs.Nodes.{same_node}
use Rattle.afs_num.specs.declared.calls.FsCall.{FsCall}
use Rattle.afs_num.specs.declared.histories.Actor.{Actor}
use Rattle.afs_num.specs.declared.histories.Actor.TheVariants as actors
use Rattle.afs_num.specs.declared.histories.Version.{Version}
use Rattle.afs_num.specs.declared.messages.Call.TheVariants as ask
use Rattle.afs_num.specs.declared.messages.Carried.{Carried}
use Rattle.afs_num.specs.declared.messages.Carried.TheVariants as carried
use Rattle.afs_num.specs.declared.messages.Message.{Message}
use Rattle.afs_num.specs.declared.messages.Received.TheVariants.{Whole}
use Rattle.afs_num.specs.declared.types.Fid.{Fid}
use Rattle.afs_num.specs.declared.types.Head.{Head}
use Rattle.afs_num.specs.declared.types.Key.{Key}
use Rattle.afs_num.specs.declared.types.Node.{Node}
use Rattle.afs_num.specs.declared.types.Node.TheVariants.{Client, Server, Loc}
use Rattle.spec_rows.specs.Callbacks.{CallbackStep, expired, held_under, is_back_awaited, is_ready, is_seat_of, key_answered, new_owes, owe_line, quit_line, renews_by, repeats_by, risen_turn, settle_line, settles_by, still_owed, turn_for, turned_by}
use Rattle.spec_rows.specs.ClientRow.{begin_row, client_row, timeout_row, sought_by, seek_timeout_row}
use Rattle.law_legal.proofs.RunSteps.{blow_line}
use Rattle.spec_rows.specs.Runs.{Cell, Entry, Fall, Moved, at_rest, begun_by_disk, in_boot, in_step, message_at, start}
use Rattle.spec_rows.specs.ServerRow.{Change, Decision, Reading, begun_after, decides, does, drops, granted, granted_in, versions_made, promise_ticks, refuses, repeats, saves, shows, tells_boot, versioned}
use Rattle.spec_rows.specs.ServerSteps.{back_timeout_row, server_row, start_row, wake_row}
use Rattle.spec_rows.specs.States.{BackCall, Backs, Held as Waiting, ServerState}
use Rattle.spec_model.specs.Calls.{call_seat, key_of}
use Rattle.std.proofs.Common.{◌≡◌, ℕ, ◌+◌, inl, inr, Bool, true, false, cond, List, [], ◌∷◌, ◌++◌, map, length, nat_lt, Option, Some, None, refl, sym, ap, subst, ◌∙◌}
use Rattle.std.specs.Option.{option_map}
use Rattle.std.specs.Prelude.{⊤, ◌&&◌}

-- ---- lines without a grant

still_rule : (who : Actor) (l : Line) (past : List Entry) (own next : List Line) → is_still l ≡ true → IsGrantGood who l past own next
still_rule who (lines.Grant s c f index expiry) past own next h = absurd cc
still_rule who l past own next h = tt

loc_still : (l : Line) → is_of_loc l ≡ true → is_still l ≡ true
loc_still (lines.Grant s c f index expiry) h = absurd cc
loc_still l h = refl

all_still : (who : Actor) (past : List Entry) (own ls : List Line) → all_lines is_still ls ≡ true → EachLine IsGrantGood who past own ls
all_still who past own [] h = tt
all_still who past own (l ∷ ls) h = let q = both (is_still l) (all_lines is_still ls) h in (still_rule who l past own ls q.0, all_still who past (l ∷ own) ls q.1)

versions_still : (vs : List Version) (ls : List Line) → all_lines is_still ls ≡ true → all_lines is_still (versioned vs ls) ≡ true
versions_still [] ls h = h
versions_still (v ∷ vs) ls h = versions_still vs ls h

version_rules : (who : Actor) (past : List Entry) (own : List Line) (vs : List Version) (ls : List Line) → EachLine IsGrantGood who past (on_top vs own) ls → EachLine IsGrantGood who past own (versioned vs ls)
version_rules who past own [] ls h = h
version_rules who past own (v ∷ vs) ls h = (tt, version_rules who past (lines.Version v ∷ own) vs ls h)

of_one : (j : ℕ) (l : Line) → is_of j l ≡ true → is_still l ≡ true
of_one j (lines.Grant s c f index expiry) h = absurd cc
of_one j l h = refl

of_still : (j : ℕ) (ls : List Line) → all_lines (is_of j) ls ≡ true → all_lines is_still ls ≡ true
of_still j [] h = refl
of_still j (l ∷ ls) h = let q = both (is_of j l) (all_lines (is_of j) ls) h in rw (of_one j l q.0, of_still j ls q.1) refl

owes_still : (me : Node) (os : List OwedBreak) → all_lines is_still (map (owe_line me) os) ≡ true
owes_still me [] = refl
owes_still me (o ∷ os) = owes_still me os

settles_still : (me n : Node) (os : List OwedBreak) → all_lines is_still (map (settle_line me n) os) ≡ true
settles_still me n [] = refl
settles_still me n (o ∷ os) = settles_still me n os

quits_still : (me n : Node) (os : List OwedBreak) → all_lines is_still (map (quit_line me n) os) ≡ true
quits_still me n [] = refl
quits_still me n (o ∷ os) = quits_still me n os

either_still : (t : Bool) (a b : CallbackStep) → all_lines is_still a.lines ≡ true → all_lines is_still b.lines ≡ true → all_lines is_still (cond t a b).lines ≡ true
either_still true a b h k = h
either_still false a b h k = k

repeats_still : (b : Backs) (reply : Message) (o : Option Waiting) (good : Bool) → all_lines is_still (repeats_by b reply o good).lines ≡ true
repeats_still b reply (Some w) good = either_still (w.again && is_ready b.lists.owed w) _ _ refl refl
repeats_still b reply None true = refl
repeats_still b reply None false = refl

for_still : (me : Node) (x : ServerState) (clock : ℕ) (b : Backs) (d : Decision) → all_lines is_still (turn_for me x clock b d).lines ≡ true
for_still me x clock b drops = refl
for_still me x clock b (tells_boot head) = refl
for_still me x clock b (repeats reply) = repeats_still b reply (held_under (key_answered reply) b.held) (is_seat_of reply (call_seat reply.head.to x.lasting.kept))
for_still me x clock b (refuses head code) = refl
for_still me x clock b (shows head r) = refl
for_still me x clock b (saves head c) = owes_still me (new_owes head.from (versions_made c) b.lists)

settled_still : (me : Node) (boot : ℕ) (head : Head) (b : Backs) (o : Option BackCall) → all_lines is_still (settles_by me boot head b o).lines ≡ true
settled_still me boot head b None = refl
settled_still me boot head b (Some c) = either_still (is_back_awaited boot c head) _ _ (settles_still me head.from (still_owed c b)) refl

renewed_still : (me : Node) (boot : ℕ) (head : Head) (b : Backs) (o : Option BackCall) → all_lines is_still (renews_by me boot head b o).lines ≡ true
renewed_still me boot head b None = refl
renewed_still me boot head b (Some c) = either_still (is_back_awaited boot c head) _ _ refl refl

turned_still : (me : Node) (x : ServerState) (clock : ℕ) (b : Backs) (d : Decision) (head : Head) (c : Carried) → all_lines is_still (turned_by me x clock b d head c).lines ≡ true
turned_still me x clock b d head (carried.Call user call) = for_still me x clock b d
turned_still me x clock b d head (carried.Refusal code) = either_still (same_node head.to me) _ _ (settled_still me x.lasting.boot head b (b.calls head.from)) refl
turned_still me x clock b d head (carried.Reply reply) = either_still (same_node head.to me) _ _ (settled_still me x.lasting.boot head b (b.calls head.from)) refl
turned_still me x clock b d head carried.Notice = either_still (same_node head.to me) _ _ (renewed_still me x.lasting.boot head b (b.calls head.from)) refl

begun_still : (me : Node) (x : ServerState) (clock : ℕ) (d : Decision) (ls : List Line) → all_lines is_still ls ≡ true → all_lines is_still ((begun_after me x clock d).before ls) ≡ true
begun_still me x clock drops ls h = h
begun_still me x clock (tells_boot head) ls h = h
begun_still me x clock (repeats reply) ls h = h
begun_still me x clock (refuses head code) ls h = h
begun_still me x clock (shows head r) ls h = h
begun_still me x clock (saves head c) ls h = versions_still (versions_made c) ls h

disk_still : (me : Node) (x : ServerState) (after : Bool) (fall : Fall) (ls : List Line) → all_lines is_still ls ≡ true → all_lines is_still ((begun_by_disk me x after fall).before ls) ≡ true
disk_still me x after at_rest ls h = h
disk_still me x false (in_step m clock hit) ls h = h
disk_still me x true (in_step m clock hit) ls h = begun_still me x clock (decides me x clock (Whole m)) ls h
disk_still me x false in_boot ls h = h
disk_still me x true in_boot ls h = h

pub blow_still : (i place : ℕ) (t : Bool) → all_lines is_still (lines.Given place ∷ blow_line i t ∷ []) ≡ true
blow_still i place true = refl
blow_still i place false = refl

-- ---- a grant

grant_more : (server c : Node) (x : ℕ) (g : Found) (past : List Entry) (own : List Line) (f : Found) → GoodGrant server c f.fid f.vnode.index x past own → GoodGrant server c f.fid f.vnode.index x past (lines.Grant server c g.fid g.vnode.index x ∷ own)
grant_more server c x g past own f h = record {
  client = h.client;
  key = h.key;
  node = h.node;
  ran = record { boot = h.ran.boot; up = h.ran.up; given = h.ran.given; first = h.ran.first; latest = h.ran.latest };
  going = h.going;
  user = h.user;
  call = h.call;
  carries = h.carries;
  code = h.code;
  promises = h.promises;
  newest = h.newest;
  lasts = h.lasts;
}

granted_rules : (server c : Node) (who : Actor) (past : List Entry) (own : List Line) (x : ℕ) (fs : List Found) (tail : List Line) → ((f : Found) → IsAmong f fs → GoodGrant server c f.fid f.vnode.index x past own) → all_lines is_still tail ≡ true → EachLine IsGrantGood who past own (granted server c x fs tail)
granted_rules server c who past own x [] tail w h = all_still who past own tail h
granted_rules server c who past own x (f ∷ fs) tail w h = (w f (inl refl), granted_rules server c who past (lines.Grant server c f.fid f.vnode.index x ∷ own) x fs tail (λ g z. grant_more server c x f past own g (w g (inr z))) h)

-- ---- in the step that runs a call

-- what the server has of its volumes is the ideal cell's
pub are_ideal : (s : Script) (c : Cell) (past : List Entry) (i : ℕ) → Held s c past → AreAmong (held_by (c.hosts i).state) (λ id. volume_after id past)
are_ideal s c past i h id v e = sym (h.1.ideal i id (h.1.home i id v e)) ∙ e

pub was_given : (s : Script) (c : Cell) (past : List Entry) (place : ℕ) (m : Message) → Held s c past → message_at c.sent place ≡ Some m → given_message (lines.Given place ∷ []) (sent_of past) ≡ Some m
was_given s c past place m h at = ap (λ (ms : List Message). message_at ms place) h.0.0.hears.told ∙ at

pub runs_here : (s : Script) (c : Cell) (past : List Entry) (i j : ℕ) (m : Message) (own : List Line) → Held s c past → (c.hosts i).down ≡ None → (r : Runs (Server i) (c.hosts i).state m j) → given_message own (sent_of past) ≡ Some m → RunsHere (Server i) (key_of m.head) past own
runs_here s c past i j m own h up r given =
    let boot : ℕ = (c.hosts i).state.lasting.boot in
    record {
      boot = boot;
      up = now_up c past i h.0.0.hears up;
      given = subst (IsCallUnder (Server i) (key_of m.head) boot) (sym given) ((subst IsCall (sym r.carries) tt, r.to), (refl, (runs_admitted boot (c.hosts i).state.seats m.head r.runs).0));
      first = comes_first c past i m j h.0.0.hears up r.from r.runs;
      latest = admitted_latest c (lines_of past) i m.head h.0.0.keys r.runs;
    }

-- what stands in an ideal volume has the last index
there_last : (f : Fid) (v : Volume) (x : Vnode) (ls : List Line) → SoundIn f.volume (Some v) ls → vnode_of f v ≡ Some x → last_version f ls ≡ Some (version_at f.volume f.vnode x)
there_last f v x ls h found = live_index _ _ (h.agree f.vnode f.unique ∙ ap (option_map (version_at f.volume f.vnode)) found)

pub found_last : (s : Script) (c : Cell) (past : List Entry) (f : Found) → Held s c past → IsThere (λ id. volume_after id past) f → last_version f.fid (lines_of past) ≡ Some (version_at f.fid.volume f.fid.vnode f.vnode)
found_last s c past f h t = there_last f.fid t.stored.volume f.vnode (lines_of past) (subst (λ (o : Option Volume). SoundIn f.fid.volume o (lines_of past)) t.at (h.1.sound f.fid.volume)) t.found

there_to : (V W : ℕ → Option Volume) (f : Found) → AreAmong V W → IsThere V f → IsThere W f
there_to V W f w t = record { stored = t.stored; at = w f.fid.volume t.stored.volume t.at; found = t.found }

-- a reading call
pub reading_code : (s : Script) (c : Cell) (past : List Entry) (i : ℕ) (user : List ℕ) (call : FsCall) (r : Reading) → Held s c past → IsReading (held_by (c.hosts i).state) user call r → answers_in (held_by (c.hosts i).state) user call ≡ ideal_answer user call past
reading_code s c past i user call r h is = answers_same (held_by (c.hosts i).state) (λ id. volume_after id past) user call (λ id a. read_same (held_by (c.hosts i).state) (λ n. volume_after n past) call r id (are_ideal s c past i h) is.is a) ∙ answers_after past user call

shows_grant : (s : Script) (c : Cell) (past : List Entry) (i j place : ℕ) (m : Message) (r : Reading) (f : Found) → HeldTicks s c past → (c.hosts i).down ≡ None → message_at c.sent place ≡ Some m → (run : Runs (Server i) (c.hosts i).state m j) → IsReading (held_by (c.hosts i).state) run.user run.call r → IsAmong f r.granted
    → GoodGrant (Server i) m.head.from f.fid f.vnode.index (c.clock + promise_ticks) past (lines.Given place ∷ [])
shows_grant s c past i j place m r f h up at run is z =
    let V : ℕ → Option Volume = held_by (c.hosts i).state in
    let given : given_message (lines.Given place ∷ []) (sent_of past) ≡ Some m = was_given s c past place m h.0 at in
    let q = read_there V run.call r (ideal_answer run.user run.call past) past f is.is z in
    record {
      client = subst IsClient (sym run.from) tt;
      key = key_of m.head;
      node = refl;
      ran = runs_here s c past i j m (lines.Given place ∷ []) h.0 up run given;
      going = λ x. x;
      user = run.user;
      call = run.call;
      carries = ap (option_map (λ (k : Message). k.carried)) given ∙ ap Some run.carries;
      code = ap code_given (sym (reading_code s c past i run.user run.call r h.0 is)) ∙ is.code;
      promises = q.0;
      newest = ap (option_map (λ (v : Version). v.index)) (found_last s c past f h.0 (there_to V (λ id. volume_after id past) f (are_ideal s c past i h.0) q.1));
      lasts = ap (λ (t : ℕ). t + promise_ticks) (sym h.1);
    }

-- a change
over_last : (f : Fid) (vs : List Version) (own o : List Line) → last_version f (on_top vs own ++ o) ≡ last_version f (on_top vs (own ++ o))
over_last f [] own o = refl
over_last f (v ∷ vs) own o = over_last f vs (lines.Version v ∷ own) o

over_clock : (vs : List Version) (own o : List Line) → clock_of (on_top vs own ++ o) ≡ clock_of (own ++ o)
over_clock [] own o = refl
over_clock (v ∷ vs) own o = over_clock vs (lines.Version v ∷ own) o

over_given : (vs : List Version) (own : List Line) (sent : List Message) → given_message (on_top vs own) sent ≡ given_message own sent
over_given [] own sent = refl
over_given (v ∷ vs) own sent = over_given vs (lines.Version v ∷ own) sent

pub over_stopped : (n : Node) (vs : List Version) (own : List Line) → HasStopped n (on_top vs own) → HasStopped n own
over_stopped n [] own h = h
over_stopped n (v ∷ vs) own h = over_stopped n vs (lines.Version v ∷ own) h

saves_grant : (s : Script) (c : Cell) (past : List Entry) (i j place : ℕ) (m : Message) (ch : Change) (f : Found) → HeldTicks s c past → (c.hosts i).down ≡ None → message_at c.sent place ≡ Some m → (run : Runs (Server i) (c.hosts i).state m j) → IsMaking (held_by (c.hosts i).state) run.user run.call ch → IsAmong f (granted_in ch)
    → GoodGrant (Server i) m.head.from f.fid f.vnode.index (c.clock + promise_ticks) past (on_top (versions_made ch) (lines.Change (Server i) (key_of m.head) (length (versions_made ch)) ∷ lines.Given place ∷ []))
saves_grant s c past i j place m ch f h up at run is z =
    let k : Key = key_of m.head in
    let vs : List Version = versions_made ch in
    let v : Volume = ch.before.volume in
    let front : List Line = lines.Change (Server i) k (length vs) ∷ lines.Given place ∷ [] in
    let base : List Line = lines.Change (Server i) k (length vs) ∷ lines.Given place ∷ lines_of past in
    let own : List Line = on_top vs front in
    let there : volume_after ch.id past ≡ Some v = are_ideal s c past i h.0 ch.id v is.at in
    let answer : ideal_answer run.user run.call past ≡ Some (changes ch.edits ch.shown) = sym (answers_after past run.user run.call) ∙ (answer_of (λ id. volume_after id past) run.user run.call ch.id (Some v) is.of_volume there ∙ ap Some is.result) in
    let given : given_message own (sent_of past) ≡ Some m = over_given vs front (sent_of past) ∙ was_given s c past place m h.0 at in
    let new = newly ch.id (the_user run.user) run.call v ch.edits ch.shown past f is.of_volume is.result there (h.0.1.fine i ch.id v is.at).ascends (subst (λ (x : FsCall). IsAmong f (granted_in (record ch { call = x }))) is.called z) in
    let old : Sound ch.id v base = sound_same ch.id (Some v) (lines_of past) base (λ n u. refl) (subst (λ (o : Option Volume). SoundIn ch.id o (lines_of past)) there (h.0.1.sound ch.id)) in
    record {
      client = subst IsClient (sym run.from) tt;
      key = k;
      node = refl;
      ran = runs_here s c past i j m own h.0 up run given;
      going = λ x. over_stopped (Server i) vs front x;
      user = run.user;
      call = run.call;
      carries = ap (option_map (λ (x : Message). x.carried)) given ∙ ap Some run.carries;
      code = ap code_given answer;
      promises = subst (λ (o : Option Result). IsPromisedBy f.fid run.call o past) (sym answer) new.asked;
      newest = ap (option_map (λ (x : Version). x.index)) (over_last f.fid vs front (lines_of past) ∙ made_last ch.id v ch.edits ch.shown run.call past f base new (edits_told ch.id ch.edits v base old).sound);
      lasts = ap (λ (t : ℕ). t + promise_ticks) (sym (over_clock vs front (lines_of past) ∙ h.1));
    }

-- ---- a message is served

does_rules : (s : Script) (c : Cell) (past : List Entry) (i place : ℕ) (m : Message) (d : Decision) (tail : List Line) → HeldTicks s c past → (c.hosts i).down ≡ None → message_at c.sent place ≡ Some m → Why (Server i) (c.hosts i).state m d → all_lines is_still tail ≡ true
    → EachLine IsGrantGood (actors.Node (Server i)) past [] (does (Server i) (c.hosts i).state c.clock place d tail).lines
does_rules s c past i place m drops tail h up at y t = (tt, all_still (actors.Node (Server i)) past (lines.Given place ∷ []) tail t)
does_rules s c past i place m (tells_boot head) tail h up at y t = (tt, all_still (actors.Node (Server i)) past (lines.Given place ∷ []) tail t)
does_rules s c past i place m (repeats reply) tail h up at y t = (tt, all_still (actors.Node (Server i)) past (lines.Given place ∷ []) tail t)
does_rules s c past i place m (refuses head code) tail h up at y t = (tt, all_still (actors.Node (Server i)) past (lines.Given place ∷ []) tail t)
does_rules s c past i place m (shows head r) tail h up at y t = (
  tt,
  subst (λ (x : Head). EachLine IsGrantGood (actors.Node (Server i)) past (lines.Given place ∷ []) (granted (Server i) x.from (c.clock + promise_ticks) r.granted tail)) (sym y.1.why.0)
      (granted_rules (Server i) m.head.from (actors.Node (Server i)) past (lines.Given place ∷ []) (c.clock + promise_ticks) r.granted tail (λ f z. shows_grant s c past i y.0 place m r f h up at y.1.run y.1.why.1 z) t),
)
does_rules s c past i place m (saves head ch) tail h up at y t =
    let who : Actor = actors.Node (Server i) in
    let all : Head → List Line = λ x. lines.Given place ∷ lines.Change (Server i) (key_of x) (length (versions_made ch)) ∷ versioned (versions_made ch) (granted (Server i) x.from (c.clock + promise_ticks) (granted_in ch) tail) in
    subst (λ (x : Head). EachLine IsGrantGood who past [] (all x)) (sym y.1.why.0) (
      tt,
      (
        tt,
        version_rules who past (lines.Change (Server i) (key_of m.head) (length (versions_made ch)) ∷ lines.Given place ∷ []) (versions_made ch) (granted (Server i) m.head.from (c.clock + promise_ticks) (granted_in ch) tail)
            (granted_rules (Server i) m.head.from who past (on_top (versions_made ch) (lines.Change (Server i) (key_of m.head) (length (versions_made ch)) ∷ lines.Given place ∷ [])) (c.clock + promise_ticks) (granted_in ch) tail (λ f z. saves_grant s c past i y.0 place m ch f h up at y.1.run y.1.why.1 z) t),
      ),
    )

-- all calls that are sent are file calls
file_of : (P : Head → List ℕ → FsCall → Type 0) (head : Head) (c : Carried) → OfCall (ByClient P) head c → OfCall (λ h user call. ⊤) head c
file_of P head (carried.Call user (ask.File call)) h = tt
file_of P head (carried.Call user (ask.Volume call)) h = absurd h
file_of P head (carried.Call user (ask.Location call)) h = h
file_of P head (carried.Refusal code) h = tt
file_of P head (carried.Reply reply) h = tt
file_of P head carried.Notice h = tt

pub is_file : (P : Head → List ℕ → FsCall → Type 0) (m : Message) → IfCall P m → IsFile m
is_file P m h = file_of P m.head m.carried h

abbrev GrantStep : Cell → List Entry → Moved → Type 0
GrantStep c past m = EachLine IsGrantGood m.entry.actor past [] m.entry.lines

served_rules : (s : Script) (c : Cell) (past : List Entry) (i place : ℕ) (m : Message) → HeldTicks s c past → (c.hosts i).down ≡ None → message_at c.sent place ≡ Some m → EachLine IsGrantGood (actors.Node (Server i)) past [] (server_row (Server i) (c.hosts i).state c.clock place (Whole m)).lines
unfolding server_row
served_rules s c past i place m h up at =
    let x : ServerState = (c.hosts i).state in
    let d : Decision = decides (Server i) x c.clock (Whole m) in
    does_rules s c past i place m d (turned_by (Server i) x c.clock (expired c.clock x.backs) d m.head m.carried).lines h up at (why (Server i) x c.clock m refl (is_file (IsOne c.sent) m (each_at (IfCall (IsOne c.sent)) c.sent place m at h.0.0.1.ones))) (turned_still (Server i) x c.clock (expired c.clock x.backs) d m.head m.carried)

timed_rules : (me : Node) (who : Actor) (x : ServerState) (clock : ℕ) (past : List Entry) (n : Node) (b : BackCall) → EachLine IsGrantGood who past [] (back_timeout_row me x clock n b).lines
unfolding back_timeout_row
timed_rules me who x clock past n b = all_still who past [] _ (either_still (nat_lt b.tries 2) _ _ refl (quits_still me n (still_owed b (expired clock x.backs))))

woken_rules : (me : Node) (who : Actor) (x : ServerState) (clock : ℕ) (past : List Entry) → EachLine IsGrantGood who past [] (wake_row me x clock).lines
unfolding wake_row
woken_rules me who x clock past = tt

started_rules : (me : Node) (who : Actor) (x : ServerState) (clock count : ℕ) (past : List Entry) (after : Bool) (fall : Fall) → EachLine IsGrantGood who past [] (start_row me clock count (begun_by_disk me x after fall)).lines
unfolding start_row
started_rules me who x clock count past after fall = all_still who past [] _ (disk_still me x after fall (risen_lines me clock count (begun_by_disk me x after fall)) (owes_still me (risen_turn me clock count).backs.lists.owed))

acts_rules : (past : List Entry) (n : ℕ) (ls : List Line) → all_lines (is_of n) ls ≡ true → EachLine IsGrantGood (actors.Node (Client n)) past [] ls
acts_rules past n ls h = all_still (actors.Node (Client n)) past [] ls (of_still n ls h)

grant_moves : (s : Script) → EachMove (HeldTicks s) GrantStep
grant_moves s = record {
  void = λ c past h. (tt, tt);
  ticked = λ c past n h. (tt, tt);
  begun = λ c past n act h r z. acts_rules past n (begin_row (Client n) (c.clients n) c.clock act).lines (begins_acts n (c.clients n) c.clock act r z).of;
  told = λ c past n place m h at to un. acts_rules past n (client_row (Client n) (c.clients n) c.clock place (Whole m)).lines (given_acts (by_key (IsKnown h.0.0.0.keys.callees c.clients)) any_told n (c.clients n) c.clock place m (h.0.0.0.keys.replies n) (h.0.0.1.seats n)).of;
  sought = λ c past n place m k h at to z e. acts_rules past n (sought_by (Client n) (c.clients n) c.clock place k m.head m.carried).lines (sought_acts_in s c past n place m k h.0.0.1 at z e).of;
  missed = λ c past n k h r z. acts_rules past n (seek_timeout_row (Client n) (c.clients n) k).lines (missed_acts n (c.clients n) k r z).of;
  waited = λ c past n act h r. acts_rules past n (timeout_row (Client n) (c.clients n) act).lines (waits_acts n (c.clients n) act r).of;
  fallen = λ c past n h. (tt, tt);
  risen = λ c past n h. (tt, tt);
  loc = λ c past l ls ms h st. all_still (actors.Node Loc) past [] ls (all_of_loc is_still loc_still ls st.lines);
  served = λ c past i place m armed h up at to. served_rules s c past i place m h up at;
  cut = λ c past i place m t h up at to. all_still (actors.Node (Server i)) past [] (lines.Given place ∷ blow_line i t.stops ∷ []) (blow_still i place t.stops);
  stopped = λ c past i h up. (tt, tt);
  stop_set = λ c past i calls pick armed h up. (tt, tt);
  fail_set = λ c past i call armed h up. (tt, tt);
  timed = λ c past i n b armed h up at. timed_rules (Server i) (actors.Node (Server i)) (c.hosts i).state c.clock past n b;
  woken = λ c past i armed h up. woken_rules (Server i) (actors.Node (Server i)) (c.hosts i).state c.clock past;
  started = λ c past i after fall h down. started_rules (Server i) (actors.Node (Server i)) (c.hosts i).state c.clock c.count past after fall;
  early = λ c past i fall h down. (tt, tt);
  midway = λ c past i after fall h down. all_still (actors.Node (Server i)) past [] ((begun_by_disk (Server i) (c.hosts i).state after fall).before (lines.Fault (Server i) ∷ [])) (disk_still (Server i) (c.hosts i).state after fall (lines.Fault (Server i) ∷ []) refl);
  full = λ c past i after fall h down. all_still (actors.Node (Server i)) past [] ((begun_by_disk (Server i) (c.hosts i).state after fall).before (lines.Full (Server i) ∷ [])) (disk_still (Server i) (c.hosts i).state after fall (lines.Full (Server i) ∷ []) refl);
}

pub run_grants : GrantsAreGood
run_grants s h end r =
    run_each (HeldTicks s) (λ past e. EachLine IsGrantGood e.actor past [] e.lines) (ticks_kept s) (λ c past x so k. each_moved (HeldTicks s) GrantStep (grant_moves s) c past x so k) r.inputs s (set_up_entry s ∷ []) h end (ticks_first s) r.leads
