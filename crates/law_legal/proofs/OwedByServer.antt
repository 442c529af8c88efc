-- What each server of a run promises and owes, and what clients that answer its breaks have given up.
use Rattle.spec_breaks.specs.declared.types.OwedBreak.{OwedBreak}
use Rattle.spec_breaks.specs.declared.types.Promise.{Promise}
use Rattle.spec_history.specs.declared.scripts.Script.{Script}
use Rattle.law_legal.proofs.BaseLaws.{IfDone, OfReply, OfServer, by_server, each_at}
use Rattle.law_legal.proofs.RunWalk.{run_keeps}
use Rattle.law_legal.proofs.OwedRules.{BackedAt, Breaks}
use Rattle.law_legal.proofs.OwedInRuns.{breaks_first, breaks_kept}
use Rattle.law_legal.proofs.OwedFacts.{AllOf, DoneIn, DroppedOwe, IsIn, IsPromised, promise_to}
use Rattle.law_legal.specs.Ideal.{set_up_entry}
use Rattle.law_legal.specs.Laws.{BreaksAreOwed, GrantsAreKept, IsHandled, IsOwedIn, IsPromisedIn, RepliesFollowDrops}
use Rattle.law_legal.specs.Once.{past_of}
use Rattle.law_legal.specs.Past.{HasCode}
use Rattle.afs_num.specs.declared.messages.Carried.{Carried}
use Rattle.afs_num.specs.declared.messages.Carried.TheVariants as carried
use Rattle.afs_num.specs.declared.messages.Message.{Message}
use Rattle.afs_num.specs.declared.types.Head.{Head}
use Rattle.afs_num.specs.declared.types.Fid.{Fid}
use Rattle.afs_num.specs.declared.types.Node.{Node}
use Rattle.afs_num.specs.declared.types.Node.TheVariants.{Client, Server}
use Rattle.spec_rows.specs.Runs.{Cell, Entry, RunsTo, start}
use Rattle.std.proofs.Common.{◌≡◌, ℕ, inl, inr, List, [], ◌∷◌, Option, sym, ap, subst, ◌∙◌}
use Rattle.std.specs.List.{AllByRecursion}

backs_at : (s : Script) (h : List Entry) (end : Cell) → RunsTo h s end → Breaks s end (past_of (set_up_entry s ∷ []) h)
backs_at s h end r = run_keeps (Breaks s) (breaks_kept s) r.inputs s (set_up_entry s ∷ []) h end (breaks_first s) r.leads

kept_promise : (p : Promise) (ps : List Promise) → IsPromised p ps → IsPromisedIn p ps
kept_promise p [] h = h
kept_promise p (q ∷ ps) (inl e) = inl e
kept_promise p (q ∷ ps) (inr h) = inr (kept_promise p ps h)

pub run_promised : GrantsAreKept
run_promised s h end r i c f expiry e lasts =
    let B : Breaks s end (past_of (set_up_entry s ∷ []) h) = backs_at s h end r in
    let p = (B.backed.all i).promised c f expiry e lasts in
    (p.0, kept_promise (promise_to c f expiry) (end.hosts i).state.backs.lists.promises p.1)

owed_by : (os : List OwedBreak) (o : OwedBreak) (c : Node) (what : Option Fid) (n : ℕ) → IsIn o os → o.client ≡ c → o.what ≡ what → o.number ≡ n → IsOwedIn os c what n
owed_by [] o c what n h a b d = h
owed_by (x ∷ os) o c what n (inl e) a b d = inl (ap (λ (y : OwedBreak). y.client) e ∙ a, (ap (λ (y : OwedBreak). y.what) e ∙ b, ap (λ (y : OwedBreak). y.number) e ∙ d))
owed_by (x ∷ os) o c what n (inr h) a b d = inr (owed_by os o c what n h a b d)

pub run_owed : BreaksAreOwed
run_owed s h end r i newer at older before after c what n split line =
    let B : Breaks s end (past_of (set_up_entry s ∷ []) h) = backs_at s h end r in
    elim ((B.backed.all i).accounted newer at older before after c what n split line) [
      | inl ended ↦ inl ended
      | inr y ↦ inr (y.0, owed_by (end.hosts i).state.backs.lists.owed y.1.o c what n y.1.is_in y.1.client y.1.on y.1.number)
    ]

done_in : (i : ℕ) (c : Carried) (to : Node) (X : Type 0) → HasCode c → to ≡ Server i → OfReply (OfServer to X) c → X
done_in i (carried.Call user call) to X is e h = absurd is
done_in i (carried.Refusal code) to X is e h = by_server i to X e h
done_in i (carried.Reply reply) to X is e h = by_server i to X e h
done_in i carried.Notice to X is e h = absurd is

handled_all : (i j : ℕ) (head : Head) (past : List Entry) (os : List OwedBreak) → AllOf (DroppedOwe (Server i) (Client j) head.epoch head.number past) os → AllByRecursion (IsHandled i j head past) os
handled_all i j head past [] h = tt
handled_all i j head past (o ∷ os) h = (h.0, handled_all i j head past os h.1)

pub run_handled : RepliesFollowDrops
run_handled s h end r i j place m b at code to from up boot call number =
    let past : List Entry = past_of (set_up_entry s ∷ []) h in
    let B : Breaks s end past = backs_at s h end r in
    let x : BackedAt i (end.hosts i) end.clients end.clock end.sent past = B.backed.all i in
    let P : Message → Type 0 = DoneIn (Server i) (end.hosts i).down (end.hosts i).state.backs.calls (end.hosts i).state.backs.last_call (end.hosts i).state.lasting.boot past in
    let d : P m = done_in i m.carried m.head.to (P m) code to (each_at (IfDone P) end.sent place m at x.dones) in
    let same : d.client ≡ Client j = sym d.from ∙ from in
    handled_all i j m.head past b.content (subst (λ (q : Node). AllOf (DroppedOwe (Server i) q m.head.epoch m.head.number past) b.content) same ((d.done to).dropped b up boot (ap (end.hosts i).state.backs.calls same ∙ call) number))
