-- The parts of a legal history, put together: every run is legal, however many servers a cell has.
use Rattle.spec_history.specs.declared.lines.Line.{Line}
use Rattle.spec_history.specs.declared.lines.Line.TheVariants as lines
use Rattle.spec_history.specs.declared.scripts.Script.{Script}
use Rattle.law_legal.proofs.VolumeChanges.{run_ideal}
use Rattle.law_legal.proofs.ClientCallsLegal.{run_claims}
use Rattle.law_legal.proofs.ActAnswersCaused.{run_codes}
use Rattle.law_legal.proofs.RunEntries.{run_entered}
use Rattle.law_legal.proofs.ClientGifts.{run_gifts}
use Rattle.law_legal.proofs.ActChangesOnce.{run_alone}
use Rattle.law_legal.proofs.OwedInRuns.{run_breaks, run_waits}
use Rattle.law_legal.proofs.RunLinesInPlace.{run_placed}
use Rattle.law_legal.proofs.PromisesAreGood.{run_grants}
use Rattle.law_legal.proofs.ReadsAreGood.{run_reads}
use Rattle.law_legal.proofs.RunMessages.{run_own}
use Rattle.law_legal.proofs.OwedOnceInRuns.{run_singly}
use Rattle.law_legal.proofs.ClientTimeouts.{run_timed}
use Rattle.law_legal.specs.ClientParts.{IsAlone, IsFair}
use Rattle.law_legal.specs.Ideal.{set_up_entry}
use Rattle.law_legal.specs.Laws.{RunsAreLegal}
use Rattle.law_legal.specs.Legal.{AreForOnce, AreGood, AreGoodSent, AreOwnCalls, GoodReply, IsEntryOf, IsGood, IsInPlace, LegalAfter, WereRun}
use Rattle.law_legal.specs.Parts.{EachEntry, EachLine, EachSent, IsIdeal, IsOwn, IsOwnCall, LineRule}
use Rattle.law_legal.specs.ServerParts.{GoodReadsAreLegal, IsBreakGood, IsBreakOnce, IsCodeGood, IsGrantGood, IsReadGood, IsTimeoutGood}
use Rattle.afs_num.specs.declared.histories.Actor.{Actor}
use Rattle.afs_num.specs.declared.messages.Message.{Message}
use Rattle.spec_rows.specs.Runs.{Entry}
use Rattle.std.proofs.Common.{List, [], ◌∷◌}

-- all that is asked of a line
record Parts (s : Script) (who : Actor) (l : Line) (past : List Entry) (own next : List Line) : Type 0 where
  place : IsInPlace s who l past own next
  grant : IsGrantGood who l past own next
  ideal : IsIdeal s who l past own next
  alone : IsAlone s who l past own next
  broken : IsBreakGood s who l past own next
  read : IsReadGood s who l past own next
  code : IsCodeGood s who l past own next
  timed : IsTimeoutGood s who l past own next

good_line : (s : Script) (who : Actor) (l : Line) (past : List Entry) (own next : List Line) → Parts s who l past own next → IsGood s who l past own next
good_line s who (lines.Grant server c f index expiry) past own next p = (p.place, p.grant)
good_line s who (lines.Change server k count) past own next p = (p.place, record { ideal = p.ideal.1; once = p.alone.once; alone = p.alone.alone; owed = p.broken })
good_line s who (lines.Read c f index source body) past own next p = (p.place, p.read)
good_line s who (lines.Answer c code) past own next p = (p.place, p.code)
good_line s who (lines.Timeout n callee epoch number count) past own next p = (p.place, p.timed)
good_line s who (lines.Owe server c what n) past own next p = (p.place, p.broken)
good_line s who (lines.Settle server c n) past own next p = (p.place, p.broken)
good_line s who (lines.Quit server c n) past own next p = (p.place, p.broken)
good_line s who l past own next p = p.place

good_lines : (s : Script) (who : Actor) (past : List Entry) (own ls : List Line) → EachLine (IsInPlace s) who past own ls → EachLine IsGrantGood who past own ls → EachLine (IsIdeal s) who past own ls → EachLine (IsAlone s) who past own ls
    → EachLine (IsBreakGood s) who past own ls → EachLine (IsReadGood s) who past own ls → EachLine (IsCodeGood s) who past own ls → EachLine (IsTimeoutGood s) who past own ls → AreGood s who past own ls
good_lines s who past own [] p g i a b r c t = tt
good_lines s who past own (l ∷ ls) p g i a b r c t = (
  good_line s who l past own ls (record { place = p.0; grant = g.0; ideal = i.0; alone = a.0; broken = b.0; read = r.0; code = c.0; timed = t.0 }),
  good_lines s who past (l ∷ own) ls p.1 g.1 i.1 a.1 b.1 r.1 c.1 t.1,
)

good_sent : (past : List Entry) (ms : List Message) → EachSent IsOwn past ms → EachSent IsFair past ms → EachSent GoodReply past ms → AreGoodSent past ms
good_sent past [] o f r = tt
good_sent past (m ∷ ms) o f r = (record { sender = o.0.0; half = f.0.0; reply = r.0; gift = f.0.1; key = o.0.1 }, good_sent past ms o.1 f.1 r.1)

own_sent : (s : Script) (past : List Entry) (ms : List Message) → EachSent (IsOwnCall s) past ms → AreOwnCalls s past ms
own_sent s past [] h = tt
own_sent s past (m ∷ ms) h = (h.0, own_sent s past ms h.1)

once_lines : (who : Actor) (past : List Entry) (own ls : List Line) → EachLine IsBreakOnce who past own ls → AreForOnce past own ls
once_lines who past own [] h = tt
once_lines who past own (l ∷ ls) h = (h.0, once_lines who past (l ∷ own) ls h.1)

-- these rules of every entry
abbrev OfLines : LineRule → List Entry → List Entry → Type 0
OfLines G past es = EachEntry (λ before e. EachLine G e.actor before [] e.lines) past es

abbrev OfSent : (List Entry → Message → Type 0) → List Entry → List Entry → Type 0
OfSent G past es = EachEntry (λ before e. EachSent G (e ∷ before) e.sent) past es

legal_from : (s : Script) (past es : List Entry) → OfLines (IsInPlace s) past es → OfLines IsGrantGood past es → OfLines (IsIdeal s) past es → OfLines (IsAlone s) past es → OfLines (IsBreakGood s) past es → OfLines (IsReadGood s) past es → OfLines (IsCodeGood s) past es
    → OfSent IsOwn past es → OfSent IsFair past es → OfSent GoodReply past es → EachEntry (λ before e. IsEntryOf s before e × WereRun (e ∷ before) e.sent) past es → OfSent (IsOwnCall s) past es → OfLines (IsTimeoutGood s) past es → OfLines IsBreakOnce past es → LegalAfter s past es
legal_from s past [] p g i a b r c o f w n q t u = tt
legal_from s past (e ∷ es) p g i a b r c o f w n q t u = (
  ((good_lines s e.actor past [] e.lines p.0 g.0 i.0 a.0 b.0 r.0 c.0 t.0, good_sent (e ∷ past) e.sent o.0 f.0 w.0), (n.0.0, (n.0.1, (own_sent s (e ∷ past) e.sent q.0, once_lines e.actor past [] e.lines u.0)))),
  legal_from s (e ∷ past) es p.1 g.1 i.1 a.1 b.1 r.1 c.1 o.1 f.1 w.1 n.1 q.1 t.1 u.1,
)

pub run_by_reads : GoodReadsAreLegal
run_by_reads s h end r reads codes =
    legal_from s (set_up_entry s ∷ []) h (run_placed s h end r) (run_grants s h end r) (run_ideal s h end r) (run_alone s h end r) (run_breaks s h end r) reads codes (run_own s h end r) (run_gifts s h end r) (run_waits s h end r) (run_entered s h end r) (run_claims s h end r) (run_timed s h end r) (run_singly s h end r)

pub run_legal : RunsAreLegal
run_legal s h end cell r = run_by_reads s h end r (run_reads s h end r) (run_codes s h end cell r)
