-- Each read of a run is good, however many servers a cell has; and what an idle client trusts can be shown.
use Rattle.law_legal.proofs.KeptCameInRuns.{GivenBrought, brought_first, brought_kept, run_brought}
use Rattle.law_legal.proofs.ActAnswersCaused.{cause_by}
use Rattle.law_legal.proofs.ServerTellsTruth.{Truthful, truthful_first, truthful_kept}
use Rattle.law_legal.proofs.RunLinesInPlace.{run_placed}
use Rattle.law_legal.specs.ClientParts.{AreAskedFor}
use Rattle.law_legal.specs.Legal.{Cause, IsBrought, IsInPlace, IsOfClient, as_asked}
use Rattle.law_legal.specs.Ideal.{user_of}
use Rattle.law_legal.specs.Past.{Ran, lines_of}
use Rattle.law_legal.proofs.BaseLaws.{some_of}
use Rattle.law_legal.proofs.RunOfReply.{ran_same}
use Rattle.afs_num.specs.declared.messages.Message.{Message}
use Rattle.spec_rows.specs.Going.{asked, call_for}
use Rattle.afs_num.specs.declared.calls.FsCall.TheVariants as calls
use Rattle.spec_history.specs.declared.lines.Line.{Line}
use Rattle.spec_history.specs.declared.lines.Line.TheVariants as lines
use Rattle.spec_history.specs.declared.scripts.Script.{Script}
use Rattle.law_legal.proofs.VolumeChanges.{run_each}
use Rattle.law_legal.proofs.ActIsDue.{run_due}
use Rattle.law_legal.proofs.KeptRestsInRuns.{run_kept}
use Rattle.law_legal.proofs.KeptIsLookedAt.{IsShown, ShownBy}
use Rattle.law_legal.proofs.RunWalk.{run_keeps}
use Rattle.law_legal.proofs.RunClock.{HeldTicks, ticks_first, ticks_kept}
use Rattle.law_legal.proofs.KeptTrusted.{trusted_good}
use Rattle.law_legal.proofs.KeptTrusting.{Trusts}
use Rattle.law_legal.proofs.KeptWatched.{Watched, shown_now, watched_first, watched_kept}
use Rattle.law_legal.specs.ClientParts.{IsDue, IsUsed, ReadsAreGood}
use Rattle.law_legal.specs.Ideal.{IsLast, set_up_entry}
use Rattle.law_legal.specs.Laws.{TrustedIsGood}
use Rattle.law_legal.specs.Legal.{GoodReadBy}
use Rattle.law_legal.specs.Once.{past_of}
use Rattle.law_legal.specs.Parts.{EachEntry, EachLine}
use Rattle.law_legal.specs.ServerParts.{IsBroughtGood, IsReadGood}
use Rattle.afs_num.specs.declared.histories.Actor.{Actor}
use Rattle.afs_num.specs.declared.histories.ReadBody.{ReadBody}
use Rattle.afs_num.specs.declared.histories.ReadSource.{ReadSource}
use Rattle.afs_num.specs.declared.types.Fid.{Fid}
use Rattle.afs_num.specs.declared.types.Node.{Node}
use Rattle.afs_num.specs.declared.types.Node.TheVariants.{Admin, Client, Loc, Server}
use Rattle.spec_rows.specs.Runs.{Cell, Entry, RunsTo, start}
use Rattle.std.proofs.Common.{ℕ, Bool, true, false, List, [], ◌∷◌, ◌++◌, ◌≡◌, ◌∙◌, ap, sym, subst, pos}
use Rattle.std.specs.Prelude.{⊤}
use Rattle.law_legal.specs.Grants.{is_promised}

-- ---- a line

-- the call by which rights are read has its cause
abbrev CauseFor : (s : Script) (t : Bool) (c : Node) (f : Fid) (source : ReadSource) (body : ReadBody) (past : List Entry) (own : List Line) → IsUsed s t c f source body past own → Type 0
CauseFor s true c f source body past own u = ⊤
CauseFor s false c f source body past own u = (cause : Cause u.used.reply (pos 0) (asked u.act) past own) × (cause.user ≡ user_of s c)

rights_of_client : (s : Script) (x : Cell) (past : List Entry) (own : List Line) (who : Actor) (c : Node) (f : Fid) (source : ReadSource) (body : ReadBody) → Truthful s x past → IsOfClient who c → (u : AreAskedFor s c f source past own) → CauseFor s false c f source body past own u
rights_of_client s x past own who (Client j) f source body h of u =
    let e : asked u.act ≡ calls.FetchAcl f = ap call_for u.needs in
    cause_by s x past own j u.act u.used.reply (pos 0) u.used.call h u.used.by u.used.is_reply u.used.told u.used.to u.used.from u.used.called (ap as_asked (u.asks ∙ e) ∙ sym e)
rights_of_client s x past own who (Server i) f source body h of u = absurd of
rights_of_client s x past own who (Admin i) f source body h of u = absurd of
rights_of_client s x past own who Loc f source body h of u = absurd of

cause_for : (s : Script) (x : Cell) (past : List Entry) (own : List Line) (who : Actor) (t : Bool) (c : Node) (f : Fid) (source : ReadSource) (body : ReadBody) → Truthful s x past → IsOfClient who c → (u : IsUsed s t c f source body past own) → CauseFor s t c f source body past own u
cause_for s x past own who true c f source body h of u = tt
cause_for s x past own who false c f source body h of u = rights_of_client s x past own who c f source body h of u

-- what was the last version where the call ran
last_there : (f : Fid) (index : ℕ) (past : List Entry) (m q : Message) → m ≡ q → (r : Ran m.head past) (t : Ran q.head past) → IsLast f index (lines_of r.older) → IsLast f index (lines_of t.older)
last_there f index past m q same = subst (λ (x : Message). (r : Ran x.head past) (t : Ran q.head past) → IsLast f index (lines_of r.older) → IsLast f index (lines_of t.older)) (sym same)
    (λ r t h. subst (λ (p : List Entry). IsLast f index (lines_of p)) (ran_same q.head past r t) h)

read_good : (s : Script) (t : Bool) (c : Node) (f : Fid) (index : ℕ) (source : ReadSource) (body : ReadBody) (past : List Entry) (own : List Line) → ShownBy s t c f index source body past own → (u : IsUsed s t c f source body past own) → CauseFor s t c f source body past own u → IsBrought s c f index source body (own ++ lines_of past) → GoodReadBy s t c f index source body past own
read_good s true c f index source body past own w u k b = (
  record {
    whole = w.whole;
    not_older = w.not_older;
    used = u.0;
    brought = b;
    reply = w.reply;
    by = w.by;
    expiry = w.expiry;
    grant = w.grant;
    exact = w.exact;
    home = w.home;
    granted = w.granted;
    lasts = w.lasts;
    kept = w.kept;
    newest = w.newest;
  },
  u.1,
)
read_good s false c f index source body past own w u k b = record {
  fetched = u.fetched;
  act = u.act;
  runs = u.runs;
  needs = u.needs;
  used = u.used;
  asks = u.asks;
  whole = w.whole;
  not_older = w.not_older;
  was = w.was;
  cause = k.0;
  own_user = k.1;
  exact = last_there f index past w.reply u.used.reply (some_of w.reply u.used.reply (sym w.by ∙ u.used.by)) w.ran k.0.ran w.exact;
}

lines_good : (s : Script) (x : Cell) (who : Actor) (past : List Entry) (own ls : List Line) → Truthful s x past → EachLine (IsInPlace s) who past own ls → EachLine (IsShown s) who past own ls → EachLine (IsDue s) who past own ls → EachLine (IsBroughtGood s) who past own ls → EachLine (IsReadGood s) who past own ls
lines_good s x who past own [] h p a b q = tt
lines_good s x who past own (lines.Read c f index source body ∷ ls) h p a b q =
    (read_good s _ c f index source body past own a.0 b.0 (cause_for s x past own who (is_promised body) c f source body h p.0.0 b.0) q.0, lines_good s x who past (lines.Read c f index source body ∷ own) ls h p.1 a.1 b.1 q.1)
lines_good s x who past own (l ∷ ls) h p a b q = (tt, lines_good s x who past (l ∷ own) ls h p.1 a.1 b.1 q.1)

abbrev TrueBefore : Script → List Entry → Entry → Type 0
TrueBefore s past e = (c : Cell) × Truthful s c past

entries_good : (s : Script) (past es : List Entry) → EachEntry (TrueBefore s) past es → EachEntry (λ past e. EachLine (IsInPlace s) e.actor past [] e.lines) past es → EachEntry (λ past e. EachLine (IsShown s) e.actor past [] e.lines) past es → EachEntry (λ past e. EachLine (IsDue s) e.actor past [] e.lines) past es → EachEntry (λ past e. EachLine (IsBroughtGood s) e.actor past [] e.lines) past es → EachEntry (λ past e. EachLine (IsReadGood s) e.actor past [] e.lines) past es
entries_good s past [] h p a b q = tt
entries_good s past (e ∷ es) h p a b q = (lines_good s h.0.0 e.actor past [] e.lines h.0.1 p.0 a.0 b.0 q.0, entries_good s (e ∷ past) es h.1 p.1 a.1 b.1 q.1)

pub run_reads : ReadsAreGood
run_reads s h end r =
    entries_good s (set_up_entry s ∷ []) h (run_each (Truthful s) (TrueBefore s) (truthful_kept s) (λ c past x so k. (c, k)) r.inputs s (set_up_entry s ∷ []) h end (truthful_first s) r.leads) (run_placed s h end r)
    (run_each (Watched s) (λ past e. EachLine (IsShown s) e.actor past [] e.lines) (watched_kept s) (λ c past x so W. shown_now s c past x so W) r.inputs s (set_up_entry s ∷ []) h end (watched_first s) r.leads) (run_due s h end r) (run_brought s h end r)

-- ---- what an idle client trusts

run_trusts : (s : Script) (h : List Entry) (end : Cell) → RunsTo h s end → (j : ℕ) → Trusts s j (end.clients j) end.clock (past_of (set_up_entry s ∷ []) h)
run_trusts s h end r j = (run_keeps (Watched s) (watched_kept s) r.inputs s (set_up_entry s ∷ []) h end (watched_first s) r.leads).1 j

pub run_trusted : TrustedIsGood
run_trusted s h end r j idle f e found lasts =
    let ticks = (run_keeps (HeldTicks s) (ticks_kept s) r.inputs s (set_up_entry s ∷ []) h end (ticks_first s) r.leads).1 in
    trusted_good s j (end.clients j) end.clock (past_of (set_up_entry s ∷ []) h) f e ticks (run_trusts s h end r j) (λ g u at. run_kept s h end r j g u at) idle found lasts
    ((run_keeps (GivenBrought s) (brought_kept s) r.inputs s (set_up_entry s ∷ []) h end (brought_first s) r.leads).1 j)
