-- What becomes of a step of the client's row, where its call goes to its site.
use Rattle.std.proofs.Common.{◌≡◌, ℕ, List, [], ◌∷◌, ◌++◌, Option, Some, None, Result, Ok, Err, refl, ap, sym, subst, ◌∙◌}
use Rattle.spec_history.specs.declared.lines.Line.{Line}
use Rattle.spec_history.specs.declared.lines.Line.TheVariants as lines
use Rattle.spec_history.specs.declared.lines.Outs.{Outs}
use Rattle.spec_model.specs.Steps.{NodeState}
use Rattle.afs_num.specs.declared.types.Node.{Node}
use Rattle.spec_rows.specs.Going.{ClientState, Going}
use Rattle.spec_rows.specs.ClientRow.{calls_step}
use Rattle.spec_rows.specs.Steps.{Step}
use Rattle.afs_calling.specs.Stepping as stepping
use Rattle.afs_calling.proofs.Stepping as stepped
use Rattle.spec_copyrows.specs.CopyRow.{behind_given}
use Rattle.spec_copyrows.specs.Sites.{as_it_is, round_of, sited, sited_in, with_client, CopyState}
use Rattle.spec_copyrows.proofs.Sited.{calls_sited, rests_sited, still_sited}
use Rattle.afs_cache.specs.Managing.{Answers, AnswersStill, Goes, GoesStill, sent_to_site, Takes, TakesStill, telling}

-- ---- a step in its place

pub placed_is : (me : Node) (c : CopyState) (s : Step ClientState) → sent_to_site me c s ≡ sited me c s
unfolding sent_to_site
placed_is me c s = refl

pub still_placed : (me : Node) (c : CopyState) (s : Step ClientState) → s.state.last ≡ c.client.last → sent_to_site me c s ≡ as_it_is c s
still_placed me c s same = placed_is me c s ∙ still_sited me c s same

pub rests_placed : (me : Node) (c : CopyState) (s : Step ClientState) → s.state.running ≡ None → sent_to_site me c s ≡ as_it_is c s
rests_placed me c s none = placed_is me c s ∙ rests_sited me c s none

pub calls_placed : (me : Node) (c : CopyState) (k : ClientState) (act : Going) (front : List Line → List Line) → k.last ≡ c.client.last → sent_to_site me c (calls_step me k act front) ≡ sited_in me c (calls_step me k act front) act (round_of (with_client c k) act)
calls_placed me c k act front same = placed_is me c (calls_step me k act front) ∙ calls_sited me c k act front same

-- ---- steps that are the same, in other words

pub takes_same : {E : Type 0} (step other : ℕ → Step ClientState) (old new : NodeState CopyState) (r : Result Outs E) → ((place : ℕ) → step place ≡ other place) → Takes step old new r → Takes other old new r
takes_same step other old new r same h = stepped.takes_same (λ place. sent_to_site old.node old.state (step place)) (λ place. sent_to_site old.node old.state (other place)) old new r (λ place. ap (sent_to_site old.node old.state) (same place)) h

pub stills_same : {E : Type 0} (step other : ℕ → Step ClientState) (old new : NodeState CopyState) (r : Result Outs E) → ((place : ℕ) → step place ≡ other place) → TakesStill step old new r → TakesStill other old new r
stills_same step other old new r same h = stepped.takes_same (λ place. as_it_is old.state (step place)) (λ place. as_it_is old.state (other place)) old new r (λ place. ap (as_it_is old.state) (same place)) h

pub goes_taken : {E : Type 0} (step : (List Line → List Line) → Step ClientState) (other : ℕ → Step ClientState) (told : List Line) (old new : NodeState CopyState) (r : Result Outs E)
    → ((place : ℕ) → step (λ ls. lines.Given place ∷ (told ++ ls)) ≡ other place) → Goes step told old new r → Takes other old new r
goes_taken step other told old new r same h = stepped.goes_taken (λ front. sent_to_site old.node old.state (step front)) (λ place. sent_to_site old.node old.state (other place)) told old new r (λ place. ap (sent_to_site old.node old.state) (same place)) h

pub goes_answered : {E : Type 0} (step : (List Line → List Line) → Step ClientState) (other : Step ClientState) (told : List Line) (old new : NodeState CopyState) (r : Result Outs E)
    → step (λ ls. told ++ ls) ≡ other → Goes step told old new r → Answers other old new r
goes_answered step other told old new r same h = stepped.goes_answered (λ front. sent_to_site old.node old.state (step front)) (sent_to_site old.node old.state other) told old new r (ap (sent_to_site old.node old.state) same) h

pub still_goes_taken : {E : Type 0} (step : (List Line → List Line) → Step ClientState) (other : ℕ → Step ClientState) (told : List Line) (old new : NodeState CopyState) (r : Result Outs E)
    → ((place : ℕ) → step (λ ls. lines.Given place ∷ (told ++ ls)) ≡ other place) → GoesStill step told old new r → TakesStill other old new r
still_goes_taken step other told old new r same h = stepped.goes_taken (λ front. as_it_is old.state (step front)) (λ place. as_it_is old.state (other place)) told old new r (λ place. ap (as_it_is old.state) (same place)) h

pub still_goes_answered : {E : Type 0} (step : (List Line → List Line) → Step ClientState) (other : Step ClientState) (told : List Line) (old new : NodeState CopyState) (r : Result Outs E)
    → step (λ ls. told ++ ls) ≡ other → GoesStill step told old new r → AnswersStill other old new r
still_goes_answered step other told old new r same h = stepped.goes_answered (λ front. as_it_is old.state (step front)) (as_it_is old.state other) told old new r (ap (as_it_is old.state) same) h

-- ---- a step that makes no call

pub still_taken : {E : Type 0} (step : ℕ → Step ClientState) (old new : NodeState CopyState) (r : Result Outs E) → ((place : ℕ) → (step place).state.last ≡ old.state.client.last) → TakesStill step old new r → Takes step old new r
still_taken step old new r keeps h = stepped.takes_same (λ place. as_it_is old.state (step place)) (λ place. sent_to_site old.node old.state (step place)) old new r (λ place. sym (still_placed old.node old.state (step place) (keeps place))) h

pub rest_answered : {E : Type 0} (step : Step ClientState) (old new : NodeState CopyState) (r : Result Outs E) → step.state.running ≡ None → Answers step old new r → AnswersStill step old new r
rest_answered {E} step old new r none h = subst (λ (s : Step CopyState). stepping.Answers s old new r) (rests_placed old.node old.state step none) h

pub stills_answered : {E : Type 0} (step other : Step ClientState) (old new : NodeState CopyState) (r : Result Outs E) → step ≡ other → AnswersStill step old new r → AnswersStill other old new r
stills_answered step other old new r same h = subst (λ (s : Step ClientState). AnswersStill s old new r) same h

-- ---- lines that were told before

given_none : (ls : List Line) → behind_given [] ls ≡ ls
given_none [] = refl
given_none (l ∷ ls) = refl

pub telling_none : (s : Step ClientState) → telling [] s ≡ s
telling_none s = ap (λ (ls : List Line). record s { lines = ls }) (given_none s.lines)

-- none were
pub told_none : {E : Type 0} (step : ℕ → Step ClientState) (told : List Line) (old new : NodeState CopyState) (r : Result Outs E) → told ≡ [] → Takes (λ place. telling told (step place)) old new r → Takes step old new r
told_none step told old new r e h = takes_same (λ place. telling told (step place)) step old new r (λ place. ap (λ (ls : List Line). telling ls (step place)) e ∙ telling_none (step place)) h
