-- What a step plans is the turn of its row.
use Rattle.std.proofs.Common.{◌≡◌, ◌≤◌, ℕ, List, refl, subst, ◌∙◌}
use Rattle.std.specs.Prelude.{Ok}
use Rattle.spec_history.specs.declared.lines.Line.{Line}
use Rattle.afs_num.specs.declared.messages.Message.{Message}
use Rattle.spec_breaks.specs.Promises.{Lists}
use Rattle.spec_breaks.specs.declared.types.OwedBreak.{OwedBreak}
use Rattle.spec_rows.specs.Callbacks as row
use Rattle.spec_rows.specs.Callbacks.{no_turn}
use Rattle.spec_rows.specs.States.{Backs}
use Rattle.afs_server_parts.specs.Ending.{IsPlan, IsPlanOf}
use Rattle.afs_server_parts.specs.Turning.{Goes, IsTurn}
use Rattle.afs_server_parts.specs.declared.ending.Ended.{Ended}
use Rattle.afs_server_parts.specs.declared.turns.Stand.{Stand}
use Rattle.afs_server_parts.specs.declared.turns.Turn.{Turn}
use Rattle.afs_server_parts.proofs.Turning.{turned}
use Rattle.afs_callbacks.specs.Answering.{with_lists, IsReplied}
use Rattle.afs_callbacks.specs.States.{CallbackState}
use Rattle.afs_callbacks.proofs.Turned.{answered_with}

-- what the end of this turn gives
abbrev pub Plans : Turn → Ended → Type 0
Plans t e = (v : row.CallbackStep) → IsTurn v t → IsPlanOf t.stand v e

-- a turn that does this was begun by a node that stands so
pub planned : {T E : Type 0} (f : Stand → Backs → row.CallbackStep) (b : Backs) (s : Stand) (t u : Turn) (x : T) (e : Ended) → IsTurn (no_turn b) t → t.stand ≡ s → Goes {T = T} {E = E} f t u (Ok x) → Plans u e → IsPlanOf s (f s b) e
planned f b s t u x e begun stands goes plans =
    let plan : IsPlanOf t.stand (f t.stand b) e = subst (λ (y : Stand). IsPlanOf y (f t.stand b) e) goes.stand (plans (f t.stand b) (turned (f t.stand) b t u begun goes.turn)) in
    subst (λ (y : Stand). IsPlanOf y (f y b) e) stands plan

-- the same of a turn that is known whole
pub planned_as : (v : row.CallbackStep) (s : Stand) (u : Turn) (e : Ended) → u.stand ≡ s → IsTurn v u → Plans u e → IsPlanOf s v e
planned_as v s u e stands is plans = subst (λ (x : Stand). IsPlanOf x v e) stands (plans v is)

-- with any promises that owe what lasts
pub answered : {T E : Type 0} (f : Backs → row.CallbackStep) (b : Backs) (s : Stand) (l : Lists) (t u : Turn) (x : T) (e : Ended) → IsTurn (no_turn b) t → t.stand ≡ s → l.owed ≡ b.lists.owed →
    Goes {T = T} {E = E} (λ (y : Stand). f) t u (Ok x) → Plans u e → IsPlanOf s (f (with_lists l b)) e
answered f b s l t u x e begun stands owes goes plans = planned_as (f (with_lists l b)) s u e (goes.stand ∙ stands) (answered_with f b l t u begun owes goes.turn) plans

-- other lines take the place of the turn's
pub retold : (s : Stand) (t : row.CallbackStep) (ls ms told : List Line) (e : Ended) → told ≡ ms → IsPlan s t ls e → IsPlan s t ms (record e { outs = record e.outs { lines = told } })
retold s t ls ms told e is plan = record {
  ends = record { backs = plan.ends.backs; sent = plan.ends.sent };
  lines = is;
  drawn = plan.drawn;
  owed = plan.owed;
  calls = plan.calls;
}

-- numbers of calls are drawn behind the last one, whatever is promised
pub answer_drawn : (s : Stand) (k : CallbackState) (reply : Message) (owed : List OwedBreak) (waits : List ℕ) (ls : List Line) (e : Ended) (bytes : List ℕ) → IsReplied s k reply owed waits ls e bytes → s.last ≤ e.last
answer_drawn s k reply owed waits ls e bytes is = (is.answer (record k.lists { owed = owed }) refl).drawn
