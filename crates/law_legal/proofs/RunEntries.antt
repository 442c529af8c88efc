-- Each entry of a run is of a node of its script, and each reply that it sends was run, however many servers a cell has.
use Rattle.law_legal.proofs.DatabaseLives.{run_loc_lived, IsLocLived}
use Rattle.law_legal.proofs.DatabaseDoes.{IsSoundLoc}
use Rattle.spec_history.specs.declared.scripts.Script.{Script}
use Rattle.law_legal.proofs.ActAnsweredByChange.{run_takes}
use Rattle.law_legal.proofs.VolumeChanges.{run_each}
use Rattle.law_legal.proofs.RunGivenWasSent.{run_delivered}
use Rattle.law_legal.proofs.ClientHandlesBreaks.{run_handled}
use Rattle.law_legal.proofs.RunsKnown.{Known, known_first, known_kept}
use Rattle.law_legal.proofs.RunSetUp.{AreEntries}
use Rattle.law_legal.proofs.ServerLives.{IsServerLived, run_hosted}
use Rattle.law_legal.proofs.ClientLives.{IsClientLived, run_lived}
use Rattle.law_legal.proofs.RunMembers.{run_entries}
use Rattle.law_legal.proofs.RunWalk.{EachMove, each_moved}
use Rattle.law_legal.specs.Ideal.{set_up_entry}
use Rattle.law_legal.proofs.ServerTellsTruth.{run_true}
use Rattle.law_legal.proofs.ServerKeepsSuccesses.{IsNowTrue, run_successes}
use Rattle.law_legal.proofs.ActUnmade.{run_firsts}
use Rattle.law_legal.specs.Legal.{ArePresent, HandlesBreaks, IsEntryOf, IsLivedBy, RunsFirstOfAct, TakesReply, WereRun}
use Rattle.law_legal.specs.Lives.{IsDelivered}
use Rattle.law_legal.specs.Parts.{EachEntry, EachSent, EntriesAreSound}
use Rattle.law_legal.specs.ServerParts.{IsTruthful}
use Rattle.spec_history.specs.declared.lines.Line.{Line}
use Rattle.afs_num.specs.declared.histories.Actor.{Actor}
use Rattle.afs_num.specs.declared.histories.Actor.TheVariants as actors
use Rattle.afs_num.specs.declared.messages.Message.{Message}
use Rattle.afs_num.specs.declared.types.Node.TheVariants.{Admin, Client, Loc, Server}
use Rattle.spec_rows.specs.Runs.{Cell, Entry, Moved, start}
use Rattle.std.proofs.Common.{◌≡◌, List, [], ◌∷◌, refl}

-- no step lays volumes

abbrev LaysNone : Cell → List Entry → Moved → Type 0
LaysNone c past m = m.entry.volumes ≡ []

none_laid : EachMove Known LaysNone
none_laid = record {
  void = λ c past h. refl;
  ticked = λ c past n h. refl;
  begun = λ c past n act h r z. refl;
  told = λ c past n place m h at to un. refl;
  sought = λ c past n place m k h at to z e. refl;
  missed = λ c past n k h r z. refl;
  loc = λ c past l ls ms h st. refl;
  waited = λ c past n act h r. refl;
  fallen = λ c past n h. refl;
  risen = λ c past n h. refl;
  served = λ c past i place m armed h up at to. refl;
  cut = λ c past i place m t h up at to. refl;
  stopped = λ c past i h up. refl;
  stop_set = λ c past i calls pick armed h up. refl;
  fail_set = λ c past i call armed h up. refl;
  timed = λ c past i n b armed h up at. refl;
  woken = λ c past i armed h up. refl;
  started = λ c past i after fall h down. refl;
  early = λ c past i fall h down. refl;
  midway = λ c past i after fall h down. refl;
  full = λ c past i after fall h down. refl;
}

-- what it sends was run

each_ran : (past : List Entry) (ms : List Message) → EachSent IsTruthful past ms → WereRun past ms
each_ran past [] h = tt
each_ran past (m ∷ ms) h = (
  (λ i j is from to. h.0 i j from to is.1),
  each_ran past ms h.1,
)

-- it is as its node, up or down
lived_by : (who : Actor) (past : List Entry) (ls : List Line) (sent : List Message) → IsClientLived who past ls sent → IsServerLived who past ls sent → IsLocLived who past ls sent → IsLivedBy who past ls sent
lived_by (actors.Node (Client j)) past ls sent c h l = c
lived_by (actors.Node (Server i)) past ls sent c h l = h
lived_by (actors.Node (Admin i)) past ls sent c h l = tt
lived_by (actors.Node Loc) past ls sent c h l = l
lived_by actors.Clock past ls sent c h l = tt
lived_by actors.Nobody past ls sent c h l = tt

each_present : (past : List Entry) (ms : List Message) → EachSent IsNowTrue past ms → EachSent RunsFirstOfAct past ms → ArePresent past ms
each_present past [] h r = tt
each_present past (m ∷ ms) h r = ((h.0, r.0), each_present past ms h.1 r.1)

join : (s : Script) (past es : List Entry) → AreEntries s past es → EachEntry (λ past e. e.volumes ≡ []) past es → EachEntry (λ past e. IsClientLived e.actor past e.lines e.sent) past es → EachEntry (λ past e. IsServerLived e.actor past e.lines e.sent) past es → EachEntry (λ past e. IsLocLived e.actor past e.lines e.sent) past es → EachEntry (λ past e. IsDelivered e.actor past e.lines) past es → EachEntry (λ past e. HandlesBreaks e.actor past e.lines) past es → EachEntry (λ past e. TakesReply s e.actor past e.lines e.sent) past es
    → EachEntry (λ past e. EachSent IsNowTrue (e ∷ past) e.sent) past es → EachEntry (λ past e. EachSent RunsFirstOfAct (e ∷ past) e.sent) past es → EachEntry (λ past e. EachSent IsTruthful (e ∷ past) e.sent) past es → EachEntry (λ past e. IsEntryOf s past e × WereRun (e ∷ past) e.sent) past es
join s past [] a b l h q d k z v w t = tt
join s past (e ∷ es) a b l h q d k z v w t = ((((b.0, a.0.0), (a.0.1, (lived_by e.actor past e.lines e.sent l.0 h.0 q.0, (d.0, ((k.0, z.0), each_present (e ∷ past) e.sent v.0 w.0))))), each_ran (e ∷ past) e.sent t.0), join s (e ∷ past) es a.1 b.1 l.1 h.1 q.1 d.1 k.1 z.1 v.1 w.1 t.1)

pub run_entered : EntriesAreSound
run_entered s h end r =
    join s (set_up_entry s ∷ []) h (run_entries s h end r) (run_each Known (λ past e. e.volumes ≡ []) known_kept (λ c past x so k. each_moved Known LaysNone none_laid c past x so k) r.inputs s (set_up_entry s ∷ []) h end (known_first s) r.leads) (run_lived s h end r) (run_hosted s h end r) (run_loc_lived s h end r) (run_delivered s h end r) (run_handled s h end r) (run_takes s h end r) (run_successes s h end r) (run_firsts s h end r)
    (run_true s h end r)
