-- A server that sets flags in a transaction sets those of the transaction's volume; so a fence that is done closes the family's own volume.
use Rattle.std.proofs.Common.{◌≡◌, ◌<◌, ◌⊎◌, inl, inr, ℕ, ◌+◌, Bool, true, false, cond, List, [], ◌∷◌, Option, Some, None, refl, sym, ap, subst, ◌∙◌, arith, eqb-true, eq-eqb, nat_eq, nat_lt}
use Rattle.std.proofs.lemmas.Bool.Decides.{nat_tests}
use Rattle.std.specs.Prelude.{⊤, ◌&&◌, not, filter}
use Rattle.std.specs.List.{AllByRecursion}
use Rattle.afs_num.specs.Nodes.{same_node}
use Rattle.afs_num.specs.declared.messages.Call.TheVariants as ask
use Rattle.afs_num.specs.declared.messages.Carried.{Carried}
use Rattle.afs_num.specs.declared.messages.Carried.TheVariants as carried
use Rattle.afs_num.specs.declared.messages.Message.{Message}
use Rattle.afs_num.specs.declared.messages.Received.TheVariants.{Whole}
use Rattle.afs_num.specs.declared.messages.Reply.TheVariants as tell
use Rattle.afs_num.specs.declared.records.RecordBody.{RecordBody}
use Rattle.afs_num.specs.declared.records.RecordBody.TheVariants as bodies
use Rattle.afs_num.specs.declared.types.Head.{Head}
use Rattle.afs_num.specs.declared.types.Node.{Node}
use Rattle.afs_num.specs.declared.types.Node.TheVariants.{Server}
use Rattle.afs_num.specs.declared.volume_calls.VolCall.{VolCall}
use Rattle.afs_num.specs.declared.volume_calls.VolCall.TheVariants as calls
use Rattle.afs_num.specs.declared.volume_calls.VolReply.TheVariants as volumes
use Rattle.spec_ideal.specs.Tables.{get, set, Table}
use Rattle.spec_ideal.proofs.Tables.{get_set}
use Rattle.spec_fold.specs.Deeds.{done_by, flagged, on_stored}
use Rattle.spec_model.specs.Calls.{admitted, Admitted}
use Rattle.spec_model.specs.Calls as pairs
use Rattle.spec_records.specs.Durable.{has_room, stamp_of, Durable, Stored}
use Rattle.spec_rows.specs.ServerRow.{not_served}
use Rattle.spec_volrows.specs.VolRow.{accepted, found, in_its_volume, in_transaction, is_of_other, of_family, refused, sends, sets_flags, verdict, without_family, Verdict}
use Rattle.spec_volrows.specs.VolStates.{Transaction, VolState}
use Rattle.spec_volrows.specs.VolSteps.{deed_record, dispatches, drops, is_vol_caller, judged, not_written, raised_by, refuses_vol, repeats, replies_to, same_by, saves, tells_boot, vol_admits, vol_decides, vol_hears, vol_refusal, written, Deed, VolDecision}
use Rattle.spec_history.specs.declared.scripts.Script.{Script}
use Rattle.spec_runs.specs.NodeRuns.{node_start, CellInput, NodeCell}
use Rattle.law_places.specs.Accepting.{cell_behind, is_in_service, has_in_service}
use Rattle.law_transactions.proofs.Transactions.{all_get}
use Rattle.law_fences.specs.Claims.{Finds}
use Rattle.law_fences.specs.Fences.{disk_at, FencesClose, IsFence, SetsFlags}
use Rattle.law_fences.proofs.Fencing.{are_true}

-- ---- once a stamp is raised, none of the family's transactions is there

others_by : (family : ℕ) (b : Bool) (p : ℕ × Transaction) (rest : Table Transaction) → not (nat_eq p.1.family family) ≡ b → AllByRecursion (λ (q : ℕ × Transaction). nat_eq q.1.family family ≡ false) rest →
    AllByRecursion (λ (q : ℕ × Transaction). nat_eq q.1.family family ≡ false) (cond b (p ∷ rest) rest)
others_by family true p rest is h = (not_so (nat_eq p.1.family family) is, h)
  where
    not_so : (b : Bool) → not b ≡ true → b ≡ false
    not_so true e = absurd cc
    not_so false e = refl
others_by family false p rest is h = h

others_all : (family : ℕ) (ts : Table Transaction) → AllByRecursion (λ (q : ℕ × Transaction). nat_eq q.1.family family ≡ false) (without_family family ts)
others_all family [] = tt
others_all family (p ∷ ps) = others_by family (is_of_other family p) p (without_family family ps) refl (others_all family ps)

none_by : (family number : ℕ) (ts : Table Transaction) (o : Option Transaction) → get number ts ≡ o → AllByRecursion (λ (q : ℕ × Transaction). nat_eq q.1.family family ≡ false) ts → of_family family o ≡ None
none_by family number ts None is h = refl
none_by family number ts (Some t) is h =
    let other : nat_eq t.family family ≡ false = all_get (λ (n v f s : ℕ). nat_eq f family ≡ false) 0 number ts t h is in
    ap (λ (b : Bool). cond b (Some t) None) other

none_found : (family number : ℕ) (ts : Table Transaction) → found family number (without_family family ts) ≡ None
none_found family number ts = none_by family number (without_family family ts) (get number (without_family family ts)) refl (others_all family ts)

-- ---- what is written

-- if it tells that flags are set
abbrev IfSet : Type 0 → Carried → Type 0
IfSet A (carried.Reply (tell.Volume volumes.SetFlags)) = A
IfSet A x = ⊤

-- the call's transaction is there, under its stamp, and the flags of its volume are written
record Flagged (d : Durable) (v : VolState) (head : Head) (family number flags : ℕ) (body : RecordBody) : Type 0 where
  t : Transaction
  there : found family number v.transactions ≡ Some t
  stored : stamp_of family d ≡ head.stamp
  writes : body ≡ bodies.Flags t.volume flags

same_stamps : (a b : ℕ) → nat_lt a b ≡ false → nat_lt b a ≡ false → b ≡ a
same_stamps a b e f = grind (arith, nat_tests, e, f)

module _ (d : Durable) (v : VolState) (head : Head) (family number flags : ℕ) where
  abbrev call : VolCall
  call = calls.SetFlags family number flags

  abbrev Sets : VolDecision → Type 0
  Sets (saves h x) = IfSet (Flagged d v head family number flags x.body) x.reply.carried
  Sets (replies_to h reply ts last) = ⊤
  Sets drops = ⊤
  Sets (tells_boot h) = ⊤
  Sets (repeats reply) = ⊤
  Sets (dispatches h x) = ⊤

  either_sets : (b : Bool) (x y : VolDecision) → Sets x → Sets y → Sets (cond b x y)
  either_sets true x y h k = h
  either_sets false x y h k = k

  full_sets : (ts : Table Transaction) (last : ℕ) (w : Verdict) → Sets (not_written d.boot head ts last w)
  full_sets ts last (refused code after) = tt
  full_sets ts last (accepted p) = tt
  full_sets ts last (sends x) = tt

  written_sets : (x : Deed) (full : VolDecision) → Sets (saves head x) → Sets full → Sets (written d head x full)
  written_sets x full h k = either_sets (has_room d (deed_record head x)) (saves head x) full h k

  -- under the stored stamp
  volume_sets : (ts : Table Transaction) (last : ℕ) (t : Transaction) (o : Option Stored) → Flagged d v head family number flags (bodies.Flags t.volume flags) → Sets (same_by d head ts last (in_its_volume t (sets_flags flags) o))
  volume_sets ts last t None h = tt
  volume_sets ts last t (Some s) h = written_sets _ _ h (full_sets ts last (sets_flags flags t s))

  same_sets : (last : ℕ) (o : Option Transaction) → found family number v.transactions ≡ o → stamp_of family d ≡ head.stamp → Sets (same_by d head v.transactions last (in_transaction d o (sets_flags flags)))
  same_sets last None is stored = tt
  same_sets last (Some t) is stored = volume_sets v.transactions last t (get t.volume d.volumes) (record { t = t; there = is; stored = stored; writes = refl })

  -- under a higher one it finds none
  raised_sets : (live : Table Transaction) (last : ℕ) (o : Option Transaction) (full : VolDecision) → o ≡ None → Sets full → Sets (raised_by d head family live last (in_transaction d o (sets_flags flags)) full)
  raised_sets live last None full is k = written_sets _ full tt k
  raised_sets live last (Some t) full is k = absurd cc

  three : (a b : Bool) (x y z : VolDecision) → Sets x → Sets y → (a ≡ false → b ≡ false → Sets z) → Sets (cond a x (cond b y z))
  three true b x y z h k l = h
  three false true x y z h k l = k
  three false false x y z h k l = l refl refl

  judged_sets : Sets (judged d v head call)
  judged_sets =
      let ts : Table Transaction = v.transactions in
      let last : ℕ = v.last_transaction in
      three (nat_lt head.stamp (stamp_of family d)) (nat_lt (stamp_of family d) head.stamp) _ _ _ tt
      (raised_sets (without_family family ts) last (found family number (without_family family ts)) _ (none_found family number ts) (full_sets ts last (verdict d ts last head.stamp call)))
      (λ e f. same_sets last (found family number ts) refl (same_stamps head.stamp (stamp_of family d) e f))

  -- ---- of a message that runs

  abbrev SetsRun : VolDecision → Type 0
  SetsRun (saves h x) = IfSet ((admitted d.boot v.seats head ≡ pairs.runs) × Flagged d v head family number flags x.body) x.reply.carried
  SetsRun (replies_to h reply ts last) = ⊤
  SetsRun drops = ⊤
  SetsRun (tells_boot h) = ⊤
  SetsRun (repeats reply) = ⊤
  SetsRun (dispatches h x) = ⊤

  either_run : (b : Bool) (x y : VolDecision) → SetsRun x → SetsRun y → SetsRun (cond b x y)
  either_run true x y h k = h
  either_run false x y h k = k

  with_run : (A B : Type 0) (x : Carried) → B → IfSet A x → IfSet (B × A) x
  with_run A B (carried.Reply (tell.Volume volumes.SetFlags)) b a = (b, a)
  with_run A B x b a = tt

  runs_so : (x : VolDecision) → admitted d.boot v.seats head ≡ pairs.runs → Sets x → SetsRun x
  runs_so (saves h x) is k = with_run (Flagged d v head family number flags x.body) (admitted d.boot v.seats head ≡ pairs.runs) x.reply.carried is k
  runs_so (replies_to h reply ts last) is k = tt
  runs_so drops is k = tt
  runs_so (tells_boot h) is k = tt
  runs_so (repeats reply) is k = tt
  runs_so (dispatches h x) is k = tt

  module _ (user : List ℕ) where
    abbrev message : Message
    message = record { head = head; carried = carried.Call user (ask.Volume call) }

    admits_run : (a : Admitted Message) → admitted d.boot v.seats head ≡ a → SetsRun (vol_admits d v head (Whole message) a)
    admits_run pairs.runs is = either_run (is_vol_caller head.from) _ (refuses_vol d v head not_served) (runs_so (judged d v head call) is judged_sets) tt
    admits_run (pairs.kept reply) is = tt
    admits_run pairs.in_progress is = tt
    admits_run pairs.older is = tt
    admits_run (pairs.wrong_boot boot) is = tt

    called_run : (me : Node) → SetsRun (vol_hears me d v head (carried.Call user (ask.Volume call)))
    called_run me = either_run (same_node head.to me) _ drops (admits_run (admitted d.boot v.seats head) refl) tt

hears_run : (me : Node) (d : Durable) (v : VolState) (head : Head) (x : Carried) (family number flags : ℕ) (user : List ℕ) → x ≡ carried.Call user (ask.Volume (calls.SetFlags family number flags)) → SetsRun d v head family number flags (vol_hears me d v head x)
hears_run me d v head x family number flags user is = subst (λ (y : Carried). SetsRun d v head family number flags (vol_hears me d v head y)) (sym is) (called_run d v head family number flags user me)

-- ---- then the volume is out of service

some_flags : (flags : ℕ) → (flags ≡ 0 → ⊥) → nat_eq flags 0 ≡ false
some_flags flags some = some_by (nat_eq flags 0) refl
  where
    some_by : (b : Bool) → nat_eq flags 0 ≡ b → b ≡ false
    some_by true is = absurd (some (eqb-true flags 0 is))
    some_by false is = refl

and_false : (a b : Bool) → b ≡ false → (a && b) ≡ false
and_false true b e = e
and_false false b e = refl

closed_by : (d : Durable) (volume flags : ℕ) (o : Option Stored) → get volume d.volumes ≡ o → (flags ≡ 0 → ⊥) → has_in_service (on_stored volume (flagged flags) o d).volumes volume ≡ false
closed_by d volume flags None is some = ap is_in_service is
closed_by d volume flags (Some s) is some =
    ap is_in_service (get_set volume volume (flagged flags s) d.volumes ∙ ap (λ (b : Bool). cond b (Some (flagged flags s)) (get volume d.volumes)) (eq-eqb volume volume refl))
    ∙ and_false (nat_eq (flagged flags s).volume.kind 0) (nat_eq flags 0) (some_flags flags some)

closed : (d : Durable) (volume flags : ℕ) → (flags ≡ 0 → ⊥) → has_in_service (done_by (bodies.Flags volume flags) d).volumes volume ≡ false
closed d volume flags some = closed_by d volume flags (get volume d.volumes) refl some

set_in : (d : Durable) (v : VolState) (head h : Head) (family number flags : ℕ) (x : Deed) (y : VolDecision) → SetsRun d v head family number flags y → y ≡ saves h x → x.reply.carried ≡ carried.Reply (tell.Volume volumes.SetFlags) → (admitted d.boot v.seats head ≡ pairs.runs) × Flagged d v head family number flags x.body
set_in d v head h family number flags x y k is says =
    let z : SetsRun d v head family number flags (saves h x) = subst (SetsRun d v head family number flags) is k in
    subst (IfSet ((admitted d.boot v.seats head ≡ pairs.runs) × Flagged d v head family number flags x.body)) says z

-- it writes the flags of the family's own volume
pub flags_written : (s : Script) (inputs : List CellInput) (admin server epoch number family flags : ℕ) (m : Message) (x : Deed) → IsFence (cell_behind (node_start s) inputs) admin server epoch number family flags m → SetsFlags (cell_behind (node_start s) inputs) server m x → x.body ≡ bodies.Flags family flags
flags_written s inputs admin server epoch number family flags m x fence sets =
    let c : NodeCell = cell_behind (node_start s) inputs in
    let d : Durable = disk_at c server in
    let v : VolState = (c.hosts server).state.vol in
    let z = set_in d v m.head sets.head family fence.transaction flags x (vol_decides (Server server) d v (Whole m)) (hears_run (Server server) d v m.head m.carried family fence.transaction flags fence.user fence.asks) sets.decides sets.says in
    let found' : Finds c server family fence.transaction m z.1.t = record { user = fence.user; call = calls.SetFlags family fence.transaction flags; is_call = fence.asks; live = sets.live; runs = z.0; stored = z.1.stored; there = z.1.there } in
    let own : z.1.t.volume ≡ family = are_true s inputs admin server epoch number fence.transaction family family fence.stamp m z.1.t fence.some fence.told fence.sent found' in
    z.1.writes ∙ ap (λ (k : ℕ). bodies.Flags k flags) own

pub close : FencesClose
close s inputs admin server epoch number family flags m x some fence sets =
    let d : Durable = disk_at (cell_behind (node_start s) inputs) server in
    ap (λ (b : RecordBody). has_in_service (done_by b d).volumes family) (flags_written s inputs admin server epoch number family flags m x fence sets) ∙ closed d family flags some
