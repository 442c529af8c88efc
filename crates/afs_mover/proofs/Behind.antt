-- Steps behind lines that were told before.
use Rattle.std.proofs.Common.{◌≡◌, ◌+◌, ℕ, List, [], ◌∷◌, ◌++◌, Option, Some, None, Result, Ok, Err, ap, append_assoc, length, refl, subst, sym, ◌∙◌}
use Rattle.std.specs.declared.alloc.AllocError.{AllocError}
use Rattle.spec_history.specs.declared.lines.Line.{Line}
use Rattle.spec_history.specs.declared.lines.Line.TheVariants as lines
use Rattle.spec_history.specs.declared.lines.Outs.{Outs}
use Rattle.spec_history.specs.declared.scripts.AdminAct.{AdminAct}
use Rattle.spec_model.specs.Messages.{messages_spelled, parcels_read}
use Rattle.spec_model.specs.Steps.{NodeState}
use Rattle.spec_rows.specs.Steps.{Step}
use Rattle.spec_adminrows.specs.AdminRow.{AdminState, ask_message, ask_of, asking, asks_step, ends_step, running_at, turned, with_dump}
use Rattle.spec_adminrows.specs.declared.places.Place.{Place}
use Rattle.spec_adminrows.specs.declared.turns.Running.{Running}
use Rattle.spec_adminrows.specs.declared.turns.Turn.TheVariants as turns
use Rattle.afs_calling.specs.Stepping.{Answers, Makes, Takes}
use Rattle.afs_mover.specs.Steps.{Behind, by_act, rests}

-- ---- the same step, in other words

pub behind_same : {E : Type 0} (step other : List Line → Step AdminState) (told : List Line) (old new : NodeState AdminState) (r : Result Outs E)
    → ((ls : List Line) → step ls ≡ other ls) → Behind step told old new r → Behind other told old new r
behind_same step other told old new (Ok outs) same h = (h.0, λ first. subst (λ (s : Step AdminState). Makes s new.state (λ ls. first ++ ls) outs) (same (first ++ told)) (h.1 first))
behind_same step other told old new (Err e) same h = h

-- behind nothing it is the step of a message, behind the line that names it
pub behind_taken : {E : Type 0} (step : List Line → Step AdminState) (told : List Line) (old new : NodeState AdminState) (r : Result Outs E)
    → told ≡ [] → Behind step told old new r → Takes (λ place. step (lines.Given place ∷ [])) old new r
behind_taken step told old new (Ok outs) none h =
    (h.0, λ place. subst (λ (ls : List Line). Makes (step (lines.Given place ∷ ls)) new.state (λ ms. lines.Given place ∷ ms) outs) none (h.1 (lines.Given place ∷ [])))
behind_taken step told old new (Err e) none h = h

-- with nothing before them it is the whole step
pub behind_answered : {E : Type 0} (step : List Line → Step AdminState) (told : List Line) (whole : Step AdminState) (old new : NodeState AdminState) (r : Result Outs E)
    → step told ≡ whole → Behind step told old new r → Answers whole old new r
behind_answered step told whole old new (Ok outs) same h = (h.0, subst (λ (s : Step AdminState). Makes s new.state (λ ls. ls) outs) same (h.1 []))
behind_answered step told whole old new (Err e) same h = h

-- ---- what the act that runs does

pub acted : {E : Type 0} (step : Running → List Line → Step AdminState) (other : List Line → Step AdminState) (r : Running) (told : List Line) (old new : NodeState AdminState) (result : Result Outs E)
    → Some r ≡ old.state.running → ((ls : List Line) → other ls ≡ step r ls) → Behind other told old new result → Behind (by_act old.state step old.state.running) told old new result
acted step other r told old new result runs same h =
    behind_same other (by_act old.state step old.state.running) told old new result (λ ls. same ls ∙ ap (λ (o : Option Running). by_act old.state step o ls) runs) h

pub idle : {E : Type 0} (step : Running → List Line → Step AdminState) (told : List Line) (old new : NodeState AdminState) (result : Result Outs E)
    → None ≡ old.state.running → Behind (rests old.state) told old new result → Behind (by_act old.state step old.state.running) told old new result
idle step told old new result none h =
    behind_same (rests old.state) (by_act old.state step old.state.running) told old new result (λ ls. ap (λ (o : Option Running). by_act old.state step o ls) none) h

-- ---- what was done

pub asked_behind : (told : List Line) (number : ℕ) (r given : Running) (old new : NodeState AdminState) (outs : Outs)
    → number ≡ old.state.last + 1 → given ≡ r → new ≡ record old { state = asking old.state given } → outs.lines ≡ told
    → parcels_read outs.parcels ≡ messages_spelled (ask_message old.node (record old.state { last = number }) (ask_of old.state given) ∷ [])
    → Behind {E = AllocError} (asks_step old.node old.state r) told old new (Ok outs)
asked_behind told number r given old new outs numbered same moved told_is sent =
    let state : new.state ≡ asking old.state r = ap (λ (n : NodeState AdminState). n.state) moved ∙ ap (asking old.state) same in
    let all_sent : parcels_read outs.parcels ≡ messages_spelled (ask_message old.node (asking old.state r) (ask_of old.state r) ∷ [])
    = sent ∙ (ap (λ (n : ℕ). messages_spelled (ask_message old.node (record old.state { last = n }) (ask_of old.state given) ∷ [])) numbered ∙ ap (λ (x : Running). messages_spelled (ask_message old.node (record old.state { last = old.state.last + 1 }) (ask_of old.state x) ∷ [])) same) in
    (ap (λ (n : NodeState AdminState). n.node) moved, λ first. record { state = state; lines = ap (λ (ls : List Line). first ++ ls) told_is; sent = all_sent })

pub kept_behind : (told : List Line) (act : AdminAct) (label bytes : List ℕ) (place : Place) (number : ℕ) (given : Running) (old mid new : NodeState AdminState) (outs : Outs)
    → number ≡ old.state.last + 1 → given ≡ running_at act place → mid ≡ record old { state = with_dump label bytes old.state } → new ≡ record mid { state = asking mid.state given }
    → outs.lines ≡ told ++ lines.Dumped old.node label (length bytes) ∷ []
    → parcels_read outs.parcels ≡ messages_spelled (ask_message old.node (record old.state { last = number }) (ask_of old.state given) ∷ [])
    → Behind {E = AllocError} (λ ls. turned old.node old.state act ls (turns.Keeps label bytes place)) told old new (Ok outs)
kept_behind told act label bytes place number given old mid new outs numbered same held moved told_is sent =
    let r = running_at act place in
    let node : new.node ≡ old.node = ap (λ (n : NodeState AdminState). n.node) moved ∙ ap (λ (n : NodeState AdminState). n.node) held in
    let before : mid.state ≡ with_dump label bytes old.state = ap (λ (n : NodeState AdminState). n.state) held in
    let state : new.state ≡ asking (with_dump label bytes old.state) r
    = ap (λ (n : NodeState AdminState). n.state) moved ∙ (ap (λ (a : AdminState). asking a given) before ∙ ap (asking (with_dump label bytes old.state)) same) in
    let all_sent : parcels_read outs.parcels ≡ messages_spelled (ask_message old.node (asking (with_dump label bytes old.state) r) (ask_of old.state r) ∷ [])
    = sent ∙ (ap (λ (n : ℕ). messages_spelled (ask_message old.node (record old.state { last = n }) (ask_of old.state given) ∷ [])) numbered ∙ ap (λ (x : Running). messages_spelled (ask_message old.node (record old.state { last = old.state.last + 1 }) (ask_of old.state x) ∷ [])) same) in
    (node, λ first. record { state = state; lines = ap (λ (ls : List Line). first ++ ls) told_is ∙ sym (append_assoc first told (lines.Dumped old.node label (length bytes) ∷ [])); sent = all_sent })

pub ended_behind : (told : List Line) (line : Line) (old new : NodeState AdminState) (outs : Outs)
    → new ≡ record old { state = record old.state { running = None } } → outs.lines ≡ told ++ line ∷ [] → outs.parcels ≡ []
    → Behind {E = AllocError} (λ ls. ends_step old.state (ls ++ line ∷ [])) told old new (Ok outs)
ended_behind told line old new outs ended told_is none = (
  ap (λ (n : NodeState AdminState). n.node) ended,
  λ first. record {
    state = ap (λ (n : NodeState AdminState). n.state) ended;
    lines = ap (λ (ls : List Line). first ++ ls) told_is ∙ sym (append_assoc first told (line ∷ []));
    sent = ap parcels_read none;
  },
)

pub rested_behind : (told : List Line) (old : NodeState AdminState) (outs : Outs) → outs.lines ≡ told → outs.parcels ≡ [] → Behind {E = AllocError} (rests old.state) told old old (Ok outs)
rested_behind told old outs told_is none = (refl, λ first. record { state = refl; lines = ap (λ (ls : List Line). first ++ ls) told_is; sent = ap parcels_read none })
