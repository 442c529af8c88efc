-- Each reply of a server to a client tells what the ideal operation made of the call that its entry was given, however many servers a cell has.
use Rattle.law_legal.proofs.DatabaseDoes.{IsSoundLoc}
use Rattle.spec_history.specs.declared.scripts.Script.{Script}
use Rattle.law_legal.proofs.ClientCallsAtHome.{Addressed, AsksOf, IsHome as IsAddressed, IsOneIn, homes_first, homes_kept}
use Rattle.law_legal.proofs.BaseLaws.{Each, IfCall, each_map, if_call}
use Rattle.law_legal.proofs.VolumeChanges.{run_each}
use Rattle.law_legal.proofs.ClientCallsByTable.{HomesIn, IsHome}
use Rattle.law_legal.proofs.VolumesAreIdeal.{Held, held_kept, volumes_first}
use Rattle.law_legal.proofs.RunWalk.{Behind, IsKept, each_moved}
use Rattle.law_legal.proofs.ActCallsInRuns.{asked_first}
use Rattle.law_legal.proofs.ServerReasons.{IsAsked, IsOneOf}
use Rattle.law_legal.proofs.ServerTells.{IsTold, Tells}
use Rattle.law_legal.proofs.ServerTellsInRuns.{ToldIn, Telling, told_first, told_moves}
use Rattle.law_legal.specs.Ideal.{set_up_entry}
use Rattle.law_legal.specs.Parts.{EachSent}
use Rattle.law_legal.specs.Past.{sent_of}
use Rattle.law_legal.specs.ServerParts.{IsTruthful, RepliesAreTrue}
use Rattle.afs_num.specs.declared.calls.FsCall.{FsCall}
use Rattle.afs_num.specs.declared.calls.FsCall.TheVariants as calls
use Rattle.afs_num.specs.declared.messages.Message.{Message}
use Rattle.afs_num.specs.declared.types.Fid.{Fid}
use Rattle.spec_rows.specs.Runs.{Cell, Entry, Input, moved, start}
use Rattle.std.proofs.Common.{ℕ, inl, inr, List, [], ◌∷◌, ◌++◌, sym, subst}

-- ---- where calls are sent

of_fids : (id : ℕ) (fs : List Fid) → IsOneOf id fs → IsOneIn id fs
of_fids id [] h = h
of_fids id (f ∷ fs) (inl e) = inl e
of_fids id (f ∷ fs) (inr h) = inr (of_fids id fs h)

pub asks_of : (call : FsCall) (id : ℕ) → IsAsked call id → AsksOf call id
asks_of (calls.GiveUpCallBacks fids callbacks) id h = h
asks_of calls.GetTime id h = h
asks_of (calls.BulkStatus fids) id h = of_fids id fids h
asks_of call id h = h

homes_in : (s : Script) (c : Cell) (past : List Entry) → Addressed s c past → HomesIn s c
homes_in s c past h = each_map (IfCall (IsAddressed s)) (IfCall (IsHome s)) (if_call (IsAddressed s) (IsHome s) (λ head user call x id a. x.to id (asks_of call id a))) c.sent h.1.1

-- ---- every step

abbrev pub Truthful : Script → Cell → List Entry → Type 0
Truthful s c past = (Held s c past × Addressed s c past) × ToldIn c past

telling : (s : Script) (c : Cell) (past : List Entry) → Truthful s c past → Telling s c past
telling s c past h = ((h.0.0, homes_in s c past h.0.1), h.1)

pub truthful_kept : (s : Script) → IsKept (Truthful s)
truthful_kept s c past x so h = ((held_kept s c past x so h.0.0, homes_kept s c past x so h.0.1), each_moved (Telling s) (Behind ToldIn) (told_moves s) c past x so (telling s c past h))

pub truthful_first : (s : Script) → Truthful s (start s) (set_up_entry s ∷ [])
truthful_first s = (((asked_first s, volumes_first s), homes_first s), told_first s)

-- ---- the law

each_behind : (T : Message → Type 0) (a b : List Message) → Each T (a ++ b) → Each T b
each_behind T [] b h = h
each_behind T (m ∷ a) b h = each_behind T a b h.1

true_of : (past : List Entry) (m : Message) → IsTold past m → IsTruthful past m
true_of past m w i j from to code =
    let t : Tells m past = w i j from to code in
    record { ran = t.ran; user = t.user; call = t.call; carries = t.carries; code = t.code; told = t.told; result = t.result; kind = t.kind }

all_true : (past : List Entry) (ms : List Message) → Each (IsTold past) ms → EachSent IsTruthful past ms
all_true past [] h = tt
all_true past (m ∷ ms) h = (true_of past m h.0, all_true past ms h.1)

step_true : (s : Script) (c : Cell) (past : List Entry) (x : Input) → IsSoundLoc c.loc.state → Truthful s c past → EachSent IsTruthful ((moved c x).entry ∷ past) (moved c x).entry.sent
step_true s c past x so h =
    let e : Entry = (moved c x).entry in
    let k : Truthful s (moved c x).cell (e ∷ past) = truthful_kept s c past x so h in
    let all : Each (IsTold (e ∷ past)) (sent_of past ++ e.sent) = subst (Each (IsTold (e ∷ past))) (sym k.0.0.0.0.hears.told) k.1.sends in
    all_true (e ∷ past) e.sent (each_behind (IsTold (e ∷ past)) (sent_of past) e.sent all)

pub run_true : RepliesAreTrue
run_true s h end r =
    run_each (Truthful s) (λ past e. EachSent IsTruthful (e ∷ past) e.sent) (truthful_kept s) (λ c past x so k. step_true s c past x so k) r.inputs s (set_up_entry s ∷ []) h end (truthful_first s) r.leads
