-- What an act asks goes out; and what answers it turns the act.
use Rattle.std.proofs.Common.{◌≡◌, ◌+◌, ℕ, List, [], ◌∷◌, ◌++◌, Some, Ok, ap, sym, ◌∙◌}
use Rattle.std.specs.declared.alloc.AllocError.{AllocError}
use Rattle.spec_history.specs.declared.lines.Line.{Line}
use Rattle.spec_history.specs.declared.lines.Line.TheVariants as lines
use Rattle.spec_history.specs.declared.lines.Outs.{Outs}
use Rattle.spec_history.specs.declared.scripts.AdminAct.{AdminAct}
use Rattle.afs_num.specs.declared.messages.Reply.{Reply}
use Rattle.afs_num.specs.declared.types.Code.{Code}
use Rattle.afs_num.specs.declared.types.Node.{Node}
use Rattle.afs_num.specs.declared.types.Parcel.{Parcel}
use Rattle.spec_model.specs.Messages.{messages_spelled, parcels_read}
use Rattle.spec_model.specs.Steps.{NodeState}
use Rattle.spec_rows.specs.ClientRow.{boot_of}
use Rattle.spec_rows.specs.Steps.{Step}
use Rattle.spec_adminrows.specs.Acts.{answered, begins_with, refused}
use Rattle.spec_adminrows.specs.AdminRow.{AdminState, admin_begin_row, ask_message, ask_of, dump_held, errand_of, knows_boot, label_in, turned}
use Rattle.spec_adminrows.specs.declared.turns.Ask.{Ask}
use Rattle.spec_adminrows.specs.declared.turns.Running.{Running}
use Rattle.spec_adminrows.specs.declared.turns.Turn.{Turn}
use Rattle.afs_calling.proofs.Stepping.{boot_told_is}
use Rattle.afs_calling.specs.Stepping.{Answers}
use Rattle.afs_mover.specs.Steps.{Behind, asks_in, lines_late, sends_late, sent_under, turns_answered, turns_refused}

-- ---- what goes out

-- under a number, in the boot of its callee that is known
pub sent_as : (me : Node) (a : AdminState) (number boot : ℕ) (r : Running) (q : Ask) (ps : List Parcel) → q ≡ ask_of a r → boot ≡ boot_of q.callee a.boots
    → parcels_read ps ≡ messages_spelled (sent_under me a number boot q ∷ []) → parcels_read ps ≡ messages_spelled (ask_message me (record a { last = number }) (ask_of a r) ∷ [])
sent_as me a number boot r q ps asked known sent =
    sent ∙ (ap (λ (b : ℕ). messages_spelled (sent_under me a number b q ∷ [])) known ∙ ap (λ (x : Ask). messages_spelled (ask_message me (record a { last = number }) x ∷ [])) asked)

-- in the boot that its callee told
pub asked_in : (told : List Line) (boot : ℕ) (r : Running) (q : Ask) (old new : NodeState AdminState) (outs : Outs) → q ≡ ask_of old.state r → new ≡ record old { state = knows_boot old.state q.callee boot } → outs.lines ≡ told
    → parcels_read outs.parcels ≡ messages_spelled (sent_under old.node old.state old.state.last boot q ∷ []) → Behind {E = AllocError} (asks_in old.node old.state boot r) told old new (Ok outs)
asked_in told boot r q old new outs asked noted told_is sent =
    let state : new.state ≡ knows_boot old.state (ask_of old.state r).callee boot
    = ap (λ (n : NodeState AdminState). n.state) noted ∙ ap (λ (x : Ask). knows_boot old.state x.callee boot) asked in
    let all_sent : parcels_read outs.parcels ≡ messages_spelled (ask_message old.node (knows_boot old.state (ask_of old.state r).callee boot) (ask_of old.state r) ∷ [])
    = sent ∙ (ap (λ (b : ℕ). messages_spelled (sent_under old.node old.state old.state.last b q ∷ [])) (sym (boot_told_is q.callee boot old.state.boots))
    ∙ ap (λ (x : Ask). messages_spelled (ask_message old.node (knows_boot old.state x.callee boot) x ∷ [])) asked) in
    (ap (λ (n : NodeState AdminState). n.node) noted, λ first. record { state = state; lines = ap (λ (ls : List Line). first ++ ls) told_is; sent = all_sent })

-- once more, at a timeout
pub sent_late : (told : List Line) (r : Running) (old new : NodeState AdminState) (outs : Outs) → Some r ≡ old.state.running → new ≡ record old { state = record old.state { tries = old.state.tries + 1 } }
    → told ≡ lines_late old.node old.state old.state.running → outs.lines ≡ told → parcels_read outs.parcels ≡ messages_spelled (ask_message old.node old.state (ask_of old.state r) ∷ [])
    → Answers {E = AllocError} (sends_late old.node old.state old.state.running) old new (Ok outs)
sent_late told r old new outs runs counted told_is lines_are sent =
    let step : sends_late old.node old.state (Some r) ≡ sends_late old.node old.state old.state.running = ap (sends_late old.node old.state) runs in (
      ap (λ (n : NodeState AdminState). n.node) counted,
      record {
        state = ap (λ (n : NodeState AdminState). n.state) counted ∙ ap (λ (s : Step AdminState). s.state) step;
        lines = lines_are ∙ (told_is ∙ (ap (lines_late old.node old.state) (sym runs) ∙ ap (λ (s : Step AdminState). s.lines) step));
        sent = sent ∙ ap (λ (s : Step AdminState). messages_spelled s.sent) step;
      },
    )

-- ---- turns

pub answered_same : (me : Node) (a : AdminState) (r : Running) (act : AdminAct) (reply : Reply) (t : Turn) (ls : List Line)
    → act ≡ r.act → t ≡ answered (errand_of a r.act) r.place reply → turned me a act ls t ≡ turns_answered me a reply r ls
answered_same me a r act reply t ls act_is turn_is = ap (turned me a act ls) turn_is ∙ ap (λ (x : AdminAct). turned me a x ls (answered (errand_of a r.act) r.place reply)) act_is

pub refused_same : (me : Node) (a : AdminState) (r : Running) (act : AdminAct) (code : Code) (t : Turn) (ls : List Line)
    → act ≡ r.act → t ≡ refused r.place code → turned me a act ls t ≡ turns_refused me a code r ls
refused_same me a r act code t ls act_is turn_is = ap (turned me a act ls) turn_is ∙ ap (λ (x : AdminAct). turned me a x ls (refused r.place code)) act_is

pub begun_same : (me : Node) (a : AdminState) (act : AdminAct) (told : List Line) (t : Turn) → told ≡ lines.BeginAdmin me act ∷ [] → t ≡ begins_with act (dump_held (label_in act) a.dumps)
    → turned me a act told t ≡ admin_begin_row me a act
unfolding admin_begin_row
begun_same me a act told t told_is turn_is = ap (λ (ls : List Line). turned me a act ls t) told_is ∙ ap (turned me a act (lines.BeginAdmin me act ∷ [])) turn_is
