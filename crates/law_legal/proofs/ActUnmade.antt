-- A server answers a changing call only where no other call of its act had changed something before that ran, however many servers a cell has.
use Rattle.spec_history.specs.declared.lines.Line.{Line}
use Rattle.spec_history.specs.declared.lines.Line.TheVariants as lines
use Rattle.spec_history.specs.declared.scripts.Script.{Script}
use Rattle.spec_ideal.specs.Operations.{volume_changed}
use Rattle.law_legal.proofs.BaseLaws.{ByClient, Each, IfCall, OfCall, by_client}
use Rattle.law_legal.proofs.VolumeChanges.{run_each}
use Rattle.law_legal.proofs.CallKeysOnce.{by_onto}
use Rattle.law_legal.proofs.ActChangesOnce.{AreChanging, Lones, lones_first, lones_kept}
use Rattle.law_legal.proofs.KeptPasses.{lone_at}
use Rattle.law_legal.proofs.ServerSaves.{any_change}
use Rattle.law_legal.proofs.ClientSent.{given_each, older_each}
use Rattle.law_legal.proofs.BaseWords.{AreLone, IsChangingUnder, IsOne}
use Rattle.law_legal.specs.Ideal.{call_under, set_up_entry}
use Rattle.law_legal.specs.Legal.{HasActed, HasChange, RunsFirstOfAct}
use Rattle.law_legal.specs.Parts.{EachEntry, EachSent}
use Rattle.law_legal.specs.Past.{HasChangeBy, Ran, answered_key, called_key, is_of_act, lines_of, sent_of}
use Rattle.afs_num.specs.declared.calls.FsCall.{FsCall}
use Rattle.afs_num.specs.declared.messages.Call.TheVariants as ask
use Rattle.afs_num.specs.declared.messages.Carried.{Carried}
use Rattle.afs_num.specs.declared.messages.Carried.TheVariants as carried
use Rattle.afs_num.specs.declared.messages.Message.{Message}
use Rattle.afs_num.specs.declared.types.Head.{Head}
use Rattle.afs_num.specs.declared.types.Key.{Key}
use Rattle.afs_num.specs.declared.types.Node.TheVariants.{Client}
use Rattle.afs_num.specs.declared.types.Node.{Node}
use Rattle.spec_rows.specs.Runs.{Cell, Entry, RunsTo, moved, start}
use Rattle.std.proofs.Common.{◌≡◌, ℕ, inl, inr, true, List, [], ◌∷◌, ◌++◌, Some, None, refl, sym, ap, subst, ◌∙◌, append_assoc}

-- ---- changes under a key

change_who : (k : Key) (ls : List Line) → HasChange k ls → (q : Node) × HasChangeBy q k ls
change_who k [] h = absurd h
change_who k (lines.Change q l count ∷ ls) (inl e) = (q, inl (refl, e))
change_who k (lines.Change q l count ∷ ls) (inr h) = let r = change_who k ls h in (r.0, inr r.1)
change_who k (l ∷ ls) h = change_who k ls h

by_lines : (q : Node) (k : Key) (newer older : List Entry) → HasChangeBy q k (lines_of older) → HasChangeBy q k (lines_of (newer ++ older))
by_lines q k [] older h = h
by_lines q k (e ∷ newer) older h = by_onto q k e.lines (lines_of (newer ++ older)) (by_lines q k newer older h)

-- ---- a call that ran

-- what is known of all calls is known of one that ran
ran_fact : (P : Head → List ℕ → FsCall → Type 0) (past : List Entry) (j : ℕ) (m : Message) (ran : Ran m.head past) (user : List ℕ) (call : FsCall) → ran.message.carried ≡ carried.Call user (ask.File call) → m.head.to ≡ Client j → Each (IfCall P) (sent_of past) → P ran.message.head user call
ran_fact P past j m ran user call is to all =
    let its : IfCall P ran.message = given_each (IfCall P) ran.at.lines (sent_of ran.older) ran.message ran.given (older_each (IfCall P) ran.newer ran.at ran.older (subst (λ (p : List Entry). Each (IfCall P) (sent_of p)) ran.split all)) in
    by_client j ran.message.head.from (P ran.message.head user call) (ap (λ (k : Key). k.node) ran.key ∙ to) (subst (λ (x : Carried). OfCall (ByClient P) ran.message.head x) is its)

unmade : (past : List Entry) (j : ℕ) (m : Message) (ran : Ran m.head past) (user : List ℕ) (call : FsCall) → ran.message.carried ≡ carried.Call user (ask.File call) → m.head.to ≡ Client j → AreLone (sent_of past) past → AreChanging past → Each (IfCall (IsOne (sent_of past))) (sent_of past) → (id : ℕ) → volume_changed call ≡ Some id → HasActed (answered_key m.head) ran.older → ⊥
unmade past j m ran user call is to lone changing ones id ch x =
    let k : Key = answered_key m.head in
    let l : Key = x.changed in
    let one : call_under (called_key ran.message.head) (sent_of past) ≡ Some (user, call) = ran_fact (IsOne (sent_of past)) past j m ran user call is to ones in
    let mine : IsChangingUnder k (sent_of past) = record { user = user; call = call; one = subst (λ (q : Key). call_under q (sent_of past) ≡ Some (user, call)) ran.key one; changes = λ none. (let no_ : None ≡ Some id = sym none ∙ ch in absurd cc) } in
    let by = change_who l (lines_of ran.older) x.change in
    let has : HasChangeBy by.0 l (lines_of past) = subst (λ (p : List Entry). HasChangeBy by.0 l (lines_of p)) (sym ran.split) (by_lines by.0 l ran.newer (ran.at ∷ ran.older) (by_onto by.0 l ran.at.lines (lines_of ran.older) by.1)) in
    let split : past ≡ (ran.newer ++ (ran.at ∷ x.newer)) ++ x.older = ran.split ∙ (ap (λ (p : List Entry). ran.newer ++ (ran.at ∷ p)) x.split ∙ sym (append_assoc ran.newer (ran.at ∷ x.newer) x.older)) in
    x.other (lone_at (sent_of past) (ran.newer ++ (ran.at ∷ x.newer)) x.older (subst (AreLone (sent_of past)) split lone) j k l (subst (λ (n : Node). is_of_act n k x.older ≡ true) to x.of_act) (subst (λ (n : Node). is_of_act n l x.older ≡ true) to x.same) mine (changing l (any_change by.0 l (lines_of past) has)))

-- ---- every reply

first_of : (s : Script) (c : Cell) (e : Entry) (past : List Entry) → Lones s c (e ∷ past) → (m : Message) → RunsFirstOfAct (e ∷ past) m
first_of s c e past L m i j from to ran user call is id ch x =
    let K = L.0.0.0.0.0.0.0.0 in
    let A = L.0.0.0.0.0.0.0.1 in
    let sent : sent_of (e ∷ past) ≡ c.sent = K.hears.told in
    unmade (e ∷ past) j m ran user call is to L.0.0.0.1.1.0 L.1.0 (subst (λ (ms : List Message). Each (IfCall (IsOne ms)) ms) (sym sent) A.ones) id ch x

firsts_of : (s : Script) (c : Cell) (e : Entry) (past : List Entry) → Lones s c (e ∷ past) → (ms : List Message) → EachSent RunsFirstOfAct (e ∷ past) ms
firsts_of s c e past L [] = tt
firsts_of s c e past L (m ∷ ms) = (first_of s c e past L m, firsts_of s c e past L ms)

pub run_firsts : (s : Script) (history : List Entry) (end : Cell) → RunsTo history s end → EachEntry (λ past e. EachSent RunsFirstOfAct (e ∷ past) e.sent) (set_up_entry s ∷ []) history
run_firsts s h end r =
    run_each (Lones s) (λ past e. EachSent RunsFirstOfAct (e ∷ past) e.sent) (lones_kept s) (λ c past x so k. firsts_of s (moved c x).cell (moved c x).entry past (lones_kept s c past x so k) (moved c x).entry.sent) r.inputs s (set_up_entry s ∷ []) h end (lones_first s) r.leads
