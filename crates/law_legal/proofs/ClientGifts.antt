-- What clients give back they dropped in the very act, and a call is one by its header, however many servers a cell has.
use Rattle.law_legal.proofs.DatabaseKeeps.{loc_own}
use Rattle.spec_history.specs.declared.lines.Line.TheVariants as lines
use Rattle.spec_history.specs.declared.scripts.Script.{Script}
use Rattle.law_legal.proofs.ActLines.{Acts, IsTheCall, who_at}
use Rattle.law_legal.proofs.ActSteps.{begins_acts, falls_acts, given_acts, rises_acts, waits_acts, missed_acts}
use Rattle.law_legal.proofs.OwedPasses.{all_lines}
use Rattle.law_legal.proofs.BaseLaws.{ByClient, Each, IfCall, OfCall, at_put, by_client, each_at, each_map, each_more}
use Rattle.law_legal.proofs.VolumeChanges.{run_each}
use Rattle.law_legal.proofs.ServerChooses.{disk_works, one_from, risen_from, risen_lines, serves_works, starts_works, times_works, wakes_works}
use Rattle.law_legal.proofs.BaseWords.{fids_of_gifts}
use Rattle.law_legal.proofs.ServerRefusesForGood.{IsFirm, IsSentBy}
use Rattle.law_legal.proofs.ActFollows.{Follows, IsSpared, begins_follow, falls_follow, given_follow, rises_follow, waits_follow, sought_follow, missed_follow}
use Rattle.law_legal.proofs.CallKeysOnce.{IsKnown, any_told, by_key}
use Rattle.law_legal.proofs.RunWalk.{Behind, EachMove, IsKept, each_moved}
use Rattle.law_legal.proofs.ActCalls.{Leaves, idle_leaves, is_idle, of_client, other_leaves, handed_same}
use Rattle.law_legal.proofs.ActCallsInRuns.{any_cut, any_message, blow_idle, idle_works, the_calls, loc_idle, sought_acts_in, placed_in, told_in}
use Rattle.law_legal.proofs.KeptPasses.{all_dropped_onto, own_gift}
use Rattle.law_legal.proofs.ServerPosts.{rises_posts, served_posts, times_posts, wakes_posts}
use Rattle.law_legal.proofs.RunMessages.{Posted, posted_first, posted_kept}
use Rattle.law_legal.specs.ClientParts.{GiftsAreDropped, IsFair}
use Rattle.law_legal.specs.Ideal.{set_up_entry}
use Rattle.law_legal.specs.Legal.{AreDropped, GoodGift}
use Rattle.law_legal.specs.Parts.{EachSent}
use Rattle.law_legal.specs.Past.{lines_of}
use Rattle.spec_history.specs.declared.lines.Line.{Line}
use Rattle.afs_num.specs.declared.calls.FsCall.{FsCall}
use Rattle.afs_num.specs.declared.messages.Call.TheVariants as ask
use Rattle.afs_num.specs.declared.messages.Carried.{Carried}
use Rattle.afs_num.specs.declared.messages.Carried.TheVariants as carried
use Rattle.afs_num.specs.declared.messages.Message.{Message}
use Rattle.afs_num.specs.declared.messages.Received.TheVariants.{Whole}
use Rattle.afs_num.specs.declared.types.Head.{Head}
use Rattle.afs_num.specs.declared.types.Node.{Node}
use Rattle.afs_num.specs.declared.types.Node.TheVariants.{Client, Server, Loc}
use Rattle.spec_rows.specs.Callbacks.{put}
use Rattle.spec_rows.specs.Going.{ClientState}
use Rattle.law_legal.proofs.RunSteps.{blow_line, server_falls, server_moves, server_rises, server_set, server_stays, loc_becomes}
use Rattle.spec_rows.specs.Runs.{Cell, Entry, Moved, at_rest, begun_by_disk, in_boot, in_step, start, ticked, voided}
use Rattle.law_legal.proofs.RunSteps.{loc_becomes}
use Rattle.spec_rows.specs.ServerSteps.{back_timeout_row, server_row, wake_row}
use Rattle.spec_rows.specs.Steps.{Step}
use Rattle.std.proofs.Common.{suc, ◌≡◌, ℕ, true, List, [], ◌∷◌, ◌++◌, refl, sym, subst}

-- ---- no refusal asks to come again

abbrev pub FirmIn : Cell → List Entry → Type 0
FirmIn c past = Each (λ m. IsFirm m.head m.carried) c.sent

abbrev PostedFirm : Script → Cell → List Entry → Type 0
PostedFirm s c past = Posted s c past × FirmIn c past

firm_more : (me : Node) (sent ms : List Message) → Each (λ m. IsFirm m.head m.carried) sent → Each (IsSentBy me) ms → Each (λ m. IsFirm m.head m.carried) (sent ++ ms)
firm_more me sent ms h k = each_more (λ m. IsFirm m.head m.carried) sent ms h (each_map (IsSentBy me) (λ m. IsFirm m.head m.carried) (λ m f. f.firm) ms k)

firm_moves : (s : Script) → EachMove (PostedFirm s) (Behind FirmIn)
firm_moves s = record {
  void = λ c past h. h.1;
  ticked = λ c past n h. h.1;
  begun = λ c past n act h r z. firm_more (Client n) c.sent _ h.1 (begins_acts n (c.clients n) c.clock act r z).from;
  told = λ c past n place m h at to un. firm_more (Client n) c.sent _ h.1 (given_acts (by_key (IsKnown h.0.0.0.keys.callees c.clients)) any_told n (c.clients n) c.clock place m (h.0.0.0.keys.replies n) (h.0.0.1.seats n)).from;
  sought = λ c past n place m k h at to z e. firm_more (Client n) c.sent _ h.1 (sought_acts_in s c past n place m k h.0.0.1 at z e).from;
  missed = λ c past n k h r z. firm_more (Client n) c.sent _ h.1 (missed_acts n (c.clients n) k r z).from;
  waited = λ c past n act h r. firm_more (Client n) c.sent _ h.1 (waits_acts n (c.clients n) act r).from;
  fallen = λ c past n h. firm_more (Client n) c.sent [] h.1 tt;
  risen = λ c past n h. firm_more (Client n) c.sent [] h.1 tt;
  loc = λ c past l ls ms h st. firm_more Loc c.sent _ h.1 (loc_own c l ls ms st);
  served = λ c past i place m armed h up at to. firm_more (Server i) c.sent _ h.1 (served_posts (Server i) (c.hosts i).state c.clock place m (h.0.1.0 i).seats (h.0.1.1 i)).0;
  cut = λ c past i place m t h up at to. h.1;
  stopped = λ c past i h up. h.1;
  stop_set = λ c past i calls pick armed h up. h.1;
  fail_set = λ c past i call armed h up. h.1;
  timed = λ c past i n b armed h up at. firm_more (Server i) c.sent _ h.1 (times_posts (Server i) (c.hosts i).state c.clock n b (h.0.1.1 i)).0;
  woken = λ c past i armed h up. firm_more (Server i) c.sent _ h.1 (wakes_posts (Server i) (c.hosts i).state c.clock (h.0.1.1 i)).0;
  started = λ c past i after fall h down. firm_more (Server i) c.sent _ h.1 (rises_posts (Server i) c.clock c.count (begun_by_disk (Server i) (c.hosts i).state after fall)).0;
  early = λ c past i fall h down. h.1;
  midway = λ c past i after fall h down. h.1;
  full = λ c past i after fall h down. h.1;
}

-- ---- what is still to be given back was dropped

abbrev GiftsOf : (ℕ → ClientState) → List Entry → Type 0
GiftsOf clients past = (j : ℕ) → IsSpared (clients j) × AreDropped (Client j) (fids_of_gifts (clients j).gifts) (lines_of past)

abbrev pub GiftsIn : Cell → List Entry → Type 0
GiftsIn c past = GiftsOf c.clients past

abbrev pub Given : Script → Cell → List Entry → Type 0
Given s c past = PostedFirm s c past × GiftsIn c past

idle_gifts : (s : Script) (clients : ℕ → ClientState) (past : List Entry) (e : Entry) → GiftsOf clients past → all_lines is_idle e.lines ≡ true → GiftsOf clients (e ∷ past)
idle_gifts s clients past e h idle j =
    let l : Leaves s j e.lines (lines_of past) = idle_leaves s j e.lines (lines_of past) idle in
    ((h j).0, all_dropped_onto (Client j) (fids_of_gifts (clients j).gifts) e.lines (lines_of past) l.begins l.fetched (h j).1)

client_gifts : (s : Script) (c : Cell) (past : List Entry) (n : ℕ) (st : Step ClientState) → GiftsIn c past → Acts n (who_at (c.clients n)) (c.clients n).gifts st → Follows n (c.clients n) st → GiftsOf (put n st.state c.clients) (of_client n st ∷ past)
client_gifts s c past n st h a f j =
    at_put n j (λ (x : ClientState). IsSpared x × AreDropped (Client j) (fids_of_gifts x.gifts) (lines_of (of_client n st ∷ past))) st.state c.clients
    (λ same. subst (λ (i : ℕ). IsSpared st.state × AreDropped (Client i) (fids_of_gifts st.state.gifts) (lines_of (of_client n st ∷ past))) same (f.spared, f.dropped (lines_of past) (h n).1))
    (λ other. let l : Leaves s j st.lines (lines_of past) = other_leaves s n j st.lines (lines_of past) a.of other in ((h j).0, all_dropped_onto (Client j) (fids_of_gifts (c.clients j).gifts) st.lines (lines_of past) l.begins l.fetched (h j).1))

gift_moves : (s : Script) → EachMove (Given s) (Behind GiftsIn)
gift_moves s = record {
  void = λ c past h. idle_gifts s c.clients past (voided c).entry h.1 refl;
  ticked = λ c past n h. idle_gifts s c.clients past (ticked c (suc n)).entry h.1 refl;
  begun = λ c past n act h r z. client_gifts s c past n _ h.1 (begins_acts n (c.clients n) c.clock act r z) (begins_follow n (c.clients n) c.clock act (h.1 n).0 r);
  told = λ c past n place m h at to un. client_gifts s c past n _ h.1 (given_acts (by_key (IsKnown h.0.0.0.0.keys.callees c.clients)) any_told n (c.clients n) c.clock place m (h.0.0.0.0.keys.replies n) (h.0.0.0.1.seats n)) (given_follow n (c.clients n) c.clock place m (h.1 n).0 (each_at (λ m. IsFirm m.head m.carried) c.sent place m at h.0.1));
  sought = λ c past n place m k h at to z e. client_gifts s c past n _ h.1 (sought_acts_in s c past n place m k h.0.0.0.1 at z e) (sought_follow s n (c.clients n) c.clock place k m.head m.carried (placed_in s c past n k h.0.0.0.1 z) (told_in s c past n place m k h.0.0.0.1 at e) (h.1 n).0);
  missed = λ c past n k h r z. client_gifts s c past n _ h.1 (missed_acts n (c.clients n) k r z) (missed_follow n (c.clients n) k r (h.1 n).0);
  waited = λ c past n act h r. client_gifts s c past n _ h.1 (waits_acts n (c.clients n) act r) (waits_follow n (c.clients n) act (h.1 n).0);
  fallen = λ c past n h. client_gifts s c past n _ h.1 (falls_acts n c.handed (c.clients n) (handed_same s c past (h.0.0.0.1) n)) (falls_follow n c.handed (c.clients n));
  risen = λ c past n h. client_gifts s c past n _ h.1 (rises_acts n (c.clients n)) (rises_follow n (c.clients n) (h.1 n).0);
  loc = λ c past l ls ms h st. idle_gifts s c.clients past (loc_becomes c l ls ms).entry h.1 (loc_idle ls st.lines);
  served = λ c past i place m armed h up at to. idle_gifts s c.clients past (server_moves c i armed (server_row (Server i) (c.hosts i).state c.clock place (Whole m))).entry h.1 (idle_works any_message i (c.hosts i).state _ _ (serves_works any_message (Server i) (c.hosts i).state c.clock place m (λ rest. tt)));
  cut = λ c past i place m t h up at to. idle_gifts s c.clients past (server_falls c i (lines.Given place ∷ blow_line i t.stops ∷ []) (in_step m c.clock t)).entry h.1 (blow_idle i t.stops);
  stopped = λ c past i h up. idle_gifts s c.clients past (server_falls c i (lines.Crash (Server i) ∷ []) at_rest).entry h.1 refl;
  stop_set = λ c past i calls pick armed h up. idle_gifts s c.clients past (server_set c i (lines.Stop (Server i) calls pick) armed).entry h.1 refl;
  fail_set = λ c past i call armed h up. idle_gifts s c.clients past (server_set c i (lines.Fail (Server i) call) armed).entry h.1 refl;
  timed = λ c past i n b armed h up at. idle_gifts s c.clients past (server_moves c i armed (back_timeout_row (Server i) (c.hosts i).state c.clock n b)).entry h.1 (idle_works any_message i (c.hosts i).state _ _ (times_works any_message (Server i) (c.hosts i).state c.clock n b));
  woken = λ c past i armed h up. idle_gifts s c.clients past (server_moves c i armed (wake_row (Server i) (c.hosts i).state c.clock)).entry h.1 (idle_works any_message i (c.hosts i).state _ _ (wakes_works any_message (Server i) (c.hosts i).state c.clock));
  started = λ c past i after fall h down. idle_gifts s c.clients past (server_rises c i (begun_by_disk (Server i) (c.hosts i).state after fall)).entry h.1
      (idle_works any_message i (c.hosts i).state _ _ (starts_works any_message (Server i) (c.hosts i).state c.clock c.count (begun_by_disk (Server i) (c.hosts i).state after fall) (disk_works any_message (Server i) (c.hosts i).state after fall (risen_lines (Server i) c.clock c.count (begun_by_disk (Server i) (c.hosts i).state after fall)) (any_cut fall) (risen_from (Server i) c.clock c.count (begun_by_disk (Server i) (c.hosts i).state after fall)))));
  early = λ c past i fall h down. idle_gifts s c.clients past (server_falls c i (lines.Fault (Server i) ∷ []) fall).entry h.1 refl;
  midway = λ c past i after fall h down. idle_gifts s c.clients past (server_stays c i (begun_by_disk (Server i) (c.hosts i).state after fall) (lines.Fault (Server i)) in_boot).entry h.1 (idle_works any_message i (c.hosts i).state _ _ (disk_works any_message (Server i) (c.hosts i).state after fall (lines.Fault (Server i) ∷ []) (any_cut fall) (one_from (Server i) true refl)));
  full = λ c past i after fall h down. idle_gifts s c.clients past (server_stays c i (begun_by_disk (Server i) (c.hosts i).state after fall) (lines.Full (Server i)) at_rest).entry h.1 (idle_works any_message i (c.hosts i).state _ _ (disk_works any_message (Server i) (c.hosts i).state after fall (lines.Full (Server i) ∷ []) (any_cut fall) (one_from (Server i) true refl)));
}

pub given_kept : (s : Script) → IsKept (Given s)
given_kept s c past x so h = ((posted_kept s c past x so h.0.0, each_moved (PostedFirm s) (Behind FirmIn) (firm_moves s) c past x so h.0), each_moved (Given s) (Behind GiftsIn) (gift_moves s) c past x so h)

pub given_first : (s : Script) → Given s (start s) (set_up_entry s ∷ [])
given_first s = ((posted_first s, tt), λ j. (record { none = λ r. refl; some = λ a r k. refl }, tt))

-- ---- what is sent

abbrev FairStep : Script → Cell → List Entry → Moved → Type 0
FairStep s c past m = EachSent IsFair (m.entry ∷ past) m.entry.sent

client_gift : (n : ℕ) (y : ClientState) (head : Head) (x : Carried) (ls : List Line) → head.from ≡ Client n → AreDropped (Client n) (fids_of_gifts y.gifts) ls → OfCall (ByClient (IsTheCall n y)) head x → GoodGift head x ls
client_gift n y head (carried.Call user (ask.File call)) ls from d w =
    let c : IsTheCall n y head user call = by_client n head.from (IsTheCall n y head user call) from w in
    subst (λ (f : FsCall). GoodGift head (carried.Call user (ask.File f)) ls) (sym c.asks) (own_gift c.act y.gifts head user ls (subst (λ (q : Node). AreDropped q (fids_of_gifts y.gifts) ls) (sym from) d))
client_gift n y head (carried.Call user (ask.Volume call)) ls from d w = absurd w
client_gift n y head (carried.Call user (ask.Location call)) ls from d w = tt
client_gift n y head (carried.Refusal code) ls from d w = tt
client_gift n y head (carried.Reply reply) ls from d w = tt
client_gift n y head carried.Notice ls from d w = tt

client_fair : (n : ℕ) (y : ClientState) (past : List Entry) (ms : List Message) → AreDropped (Client n) (fids_of_gifts y.gifts) (lines_of past) → Each (IsSentBy (Client n)) ms → Each (IfCall (IsTheCall n y)) ms → EachSent IsFair past ms
client_fair n y past [] d by calls = tt
client_fair n y past (m ∷ ms) d by calls = ((by.0.half, client_gift n y m.head m.carried (lines_of past) by.0.from d calls.0), client_fair n y past ms d by.1 calls.1)

acts_fair : (s : Script) (c : Cell) (past : List Entry) (n : ℕ) (st : Step ClientState) → Given s c past → Acts n (who_at (c.clients n)) (c.clients n).gifts st → Follows n (c.clients n) st → EachSent IsFair (of_client n st ∷ past) st.sent
acts_fair s c past n st h a f = client_fair n st.state (of_client n st ∷ past) st.sent (f.dropped (lines_of past) (h.1 n).1) a.from (the_calls n (c.clients n) st a.goes)

loc_fair : (past : List Entry) (ms : List Message) → Each (IsSentBy Loc) ms → EachSent IsFair past ms
loc_fair past [] by = tt
loc_fair past (m ∷ ms) by = ((by.0.half, by.0.gift refl (lines_of past)), loc_fair past ms by.1)

server_fair : (i : ℕ) (past : List Entry) (ms : List Message) → Each (IsSentBy (Server i)) ms → EachSent IsFair past ms
server_fair i past [] by = tt
server_fair i past (m ∷ ms) by = ((by.0.half, by.0.gift refl (lines_of past)), server_fair i past ms by.1)

fair_moves : (s : Script) → EachMove (Given s) (FairStep s)
fair_moves s = record {
  void = λ c past h. tt;
  ticked = λ c past n h. tt;
  begun = λ c past n act h r z. acts_fair s c past n _ h (begins_acts n (c.clients n) c.clock act r z) (begins_follow n (c.clients n) c.clock act (h.1 n).0 r);
  told = λ c past n place m h at to un. acts_fair s c past n _ h (given_acts (by_key (IsKnown h.0.0.0.0.keys.callees c.clients)) any_told n (c.clients n) c.clock place m (h.0.0.0.0.keys.replies n) (h.0.0.0.1.seats n)) (given_follow n (c.clients n) c.clock place m (h.1 n).0 (each_at (λ m. IsFirm m.head m.carried) c.sent place m at h.0.1));
  sought = λ c past n place m k h at to z e. acts_fair s c past n _ h (sought_acts_in s c past n place m k h.0.0.0.1 at z e) (sought_follow s n (c.clients n) c.clock place k m.head m.carried (placed_in s c past n k h.0.0.0.1 z) (told_in s c past n place m k h.0.0.0.1 at e) (h.1 n).0);
  missed = λ c past n k h r z. acts_fair s c past n _ h (missed_acts n (c.clients n) k r z) (missed_follow n (c.clients n) k r (h.1 n).0);
  waited = λ c past n act h r. acts_fair s c past n _ h (waits_acts n (c.clients n) act r) (waits_follow n (c.clients n) act (h.1 n).0);
  fallen = λ c past n h. tt;
  risen = λ c past n h. tt;
  loc = λ c past l ls ms h st. loc_fair ((loc_becomes c l ls ms).entry ∷ past) ms (loc_own c l ls ms st);
  served = λ c past i place m armed h up at to. server_fair i ((server_moves c i armed (server_row (Server i) (c.hosts i).state c.clock place (Whole m))).entry ∷ past) _ (served_posts (Server i) (c.hosts i).state c.clock place m (h.0.0.1.0 i).seats (h.0.0.1.1 i)).0;
  cut = λ c past i place m t h up at to. tt;
  stopped = λ c past i h up. tt;
  stop_set = λ c past i calls pick armed h up. tt;
  fail_set = λ c past i call armed h up. tt;
  timed = λ c past i n b armed h up at. server_fair i ((server_moves c i armed (back_timeout_row (Server i) (c.hosts i).state c.clock n b)).entry ∷ past) _ (times_posts (Server i) (c.hosts i).state c.clock n b (h.0.0.1.1 i)).0;
  woken = λ c past i armed h up. server_fair i ((server_moves c i armed (wake_row (Server i) (c.hosts i).state c.clock)).entry ∷ past) _ (wakes_posts (Server i) (c.hosts i).state c.clock (h.0.0.1.1 i)).0;
  started = λ c past i after fall h down. server_fair i ((server_rises c i (begun_by_disk (Server i) (c.hosts i).state after fall)).entry ∷ past) _ (rises_posts (Server i) c.clock c.count (begun_by_disk (Server i) (c.hosts i).state after fall)).0;
  early = λ c past i fall h down. tt;
  midway = λ c past i after fall h down. tt;
  full = λ c past i after fall h down. tt;
}

pub run_gifts : GiftsAreDropped
run_gifts s h end r = run_each (Given s) (λ past e. EachSent IsFair (e ∷ past) e.sent) (given_kept s) (λ c past x so k. each_moved (Given s) (FairStep s) (fair_moves s) c past x so k) r.inputs s (set_up_entry s ∷ []) h end (given_first s) r.leads
