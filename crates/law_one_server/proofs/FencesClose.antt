-- Behind a fence that ran the volume is out of service, and so it stays for its act: what the act knows then is known of each fence that ran.
use Rattle.std.proofs.Common.{◌≡◌, ◌⊎◌, ◌≤◌, ◌<◌, inl, inr, ℕ, ◌+◌, zero, suc, Bool, true, false, cond, List, [], ◌∷◌, ◌++◌, Option, Some, None, refl, sym, ap, subst, ◌∙◌, arith, eqb-true, eq-eqb, nat_eq, nat_lt, append-nil, append_assoc}
use Rattle.std.proofs.lemmas.Bool.Decides.{nat_tests}
use Rattle.std.specs.Prelude.{⊤, filter, not, ◌&&◌}
use Rattle.std.specs.List.{AllByRecursion}
use Rattle.afs_num.specs.Nodes.{same_node}
use Rattle.afs_num.specs.declared.messages.Call.{Call}
use Rattle.afs_num.specs.declared.messages.Call.TheVariants as ask
use Rattle.afs_num.specs.declared.messages.Carried.{Carried}
use Rattle.afs_num.specs.declared.messages.Carried.TheVariants as carried
use Rattle.afs_num.specs.declared.messages.Message.{Message}
use Rattle.afs_num.specs.declared.messages.Received.TheVariants.{Whole}
use Rattle.afs_num.specs.declared.messages.Reply.TheVariants as tell
use Rattle.afs_num.specs.declared.records.RecordBody.TheVariants as bodies
use Rattle.afs_num.specs.declared.types.Head.{Head}
use Rattle.afs_num.specs.declared.types.Node.{Node}
use Rattle.afs_num.specs.declared.types.Node.TheVariants.{Server}
use Rattle.afs_num.specs.declared.volume_calls.VolCall.{VolCall}
use Rattle.afs_num.specs.declared.volume_calls.VolCall.TheVariants as calls
use Rattle.afs_num.specs.declared.volume_calls.VolReply.TheVariants as volumes
use Rattle.spec_ideal.specs.Tables.{get, set, Table}
use Rattle.spec_ideal.proofs.Tables.{get_set}
use Rattle.spec_fold.specs.Deeds.{done_by, flagged, on_stored}
use Rattle.spec_model.specs.Calls.{admitted, Admitted}
use Rattle.spec_model.specs.Calls as pairs
use Rattle.spec_records.specs.Durable.{has_room, is_flagged, stamp_of, Durable, Stored}
use Rattle.spec_rows.specs.ServerRow.{is_unflagged, not_served}
use Rattle.spec_volrows.specs.VolRow.{accepted, found, in_its_volume, in_transaction, refused, sends, sets_flags, verdict, without_family, Plan, Verdict}
use Rattle.spec_volrows.specs.VolStates.{Transaction, VolState}
use Rattle.spec_volrows.specs.VolSteps.{deed_record, dispatches, drops, is_vol_caller, judged, not_written, raised_by, refuses_vol, repeats, replies_to, same_by, saves, tells_boot, vol_admits, vol_decides, vol_hears, written, Deed, VolDecision}
use Rattle.law_places.specs.Accepting.{is_in_service, has_in_service}

-- ---- under a stamp that is stored, what is written is what the reply tells

abbrev IsSet : Carried → Type 0
IsSet x = x ≡ carried.Reply (tell.Volume volumes.SetFlags)

module _ (d : Durable) (v : VolState) (head : Head) (family number flags : ℕ) where
  abbrev call : VolCall
  call = calls.SetFlags family number flags

  abbrev Says : VolDecision → Type 0
  Says (saves h x) = IsSet x.reply.carried
  Says (replies_to h reply ts last) = ⊤
  Says drops = ⊤
  Says (tells_boot h) = ⊤
  Says (repeats reply) = ⊤
  Says (dispatches h x) = ⊤

  either_says : (b : Bool) (x y : VolDecision) → Says x → Says y → Says (cond b x y)
  either_says true x y h k = h
  either_says false x y h k = k

  full_says : (ts : Table Transaction) (last : ℕ) (w : Verdict) → Says (not_written d.boot head ts last w)
  full_says ts last (refused code after) = tt
  full_says ts last (accepted p) = tt
  full_says ts last (sends x) = tt

  written_says : (x : Deed) (full : VolDecision) → IsSet x.reply.carried → Says full → Says (written d head x full)
  written_says x full h k = either_says (has_room d (deed_record head x)) (saves head x) full h k

  volume_says : (ts : Table Transaction) (last : ℕ) (t : Transaction) (o : Option Stored) → Says (same_by d head ts last (in_its_volume t (sets_flags flags) o))
  volume_says ts last t None = tt
  volume_says ts last t (Some s) = written_says _ _ refl (full_says ts last (sets_flags flags t s))

  same_says : (ts : Table Transaction) (last : ℕ) (o : Option Transaction) → Says (same_by d head ts last (in_transaction d o (sets_flags flags)))
  same_says ts last None = tt
  same_says ts last (Some t) = volume_says ts last t (get t.volume d.volumes)

  three : (a b : Bool) (x y z : VolDecision) → Says x → b ≡ false → Says z → Says (cond a x (cond b y z))
  three true b x y z h none k = h
  three false true x y z h none k = absurd cc
  three false false x y z h none k = k

  not_below : (a b : ℕ) → b ≤ a → nat_lt a b ≡ false
  not_below a b low = grind (arith, nat_tests, low)

  judged_says : head.stamp ≤ stamp_of family d → Says (judged d v head call)
  judged_says low = three (nat_lt head.stamp (stamp_of family d)) (nat_lt (stamp_of family d) head.stamp) _ _ _ tt (not_below (stamp_of family d) head.stamp low) (same_says v.transactions v.last_transaction (found family number v.transactions))

  module _ (user : List ℕ) (low : head.stamp ≤ stamp_of family d) where
    admits_says : (a : Admitted Message) → Says (vol_admits d v head (Whole (record { head = head; carried = carried.Call user (ask.Volume call) })) a)
    admits_says pairs.runs = either_says (is_vol_caller head.from) _ (refuses_vol d v head not_served) (judged_says low) tt
    admits_says (pairs.kept reply) = tt
    admits_says pairs.in_progress = tt
    admits_says pairs.older = tt
    admits_says (pairs.wrong_boot boot) = tt

    called_says : (me : Node) → Says (vol_hears me d v head (carried.Call user (ask.Volume call)))
    called_says me = either_says (same_node head.to me) _ drops (admits_says (admitted d.boot v.seats head)) tt

-- a call that sets flags, under a stored stamp, and is written: the reply says that they are set
pub says_set : (me : Node) (d : Durable) (v : VolState) (m : Message) (family number flags : ℕ) (user : List ℕ) (h : Head) (x : Deed) → m.carried ≡ carried.Call user (ask.Volume (calls.SetFlags family number flags)) → m.head.stamp ≤ stamp_of family d → vol_decides me d v (Whole m) ≡ saves h x → IsSet x.reply.carried
says_set me d v m family number flags user h x is low decides =
    subst (Says d v m.head family number flags) decides
    (subst (λ (y : Carried). Says d v m.head family number flags (vol_hears me d v m.head y)) (sym is) (called_says d v m.head family number flags user low me))

-- ---- closed volumes stay closed over a start

-- it is none, or one that stays, and is out of service
abbrev StaysOut : Option Stored → Type 0
StaysOut None = ⊤
StaysOut (Some s) = (is_flagged s ≡ false) × (is_in_service (Some s) ≡ false)

out : (o : Option Stored) → StaysOut o → is_in_service o ≡ false
out None h = refl
out (Some s) h = h.1

head_out : (n : ℕ) (p : ℕ × Stored) (rest : Table Stored) (same keep : Bool) → nat_eq p.0 n ≡ same → is_unflagged p ≡ keep → (same ≡ true → StaysOut (Some p.1)) → (same ≡ false → is_in_service (get n rest) ≡ false) → is_in_service (get n (cond keep (p ∷ rest) rest)) ≡ false
head_out n p rest true true is stays own later = ap (λ (b : Bool). is_in_service (cond b (Some p.1) (get n rest))) is ∙ (own refl).1
head_out n p rest true false is stays own later = let flagged' : is_flagged p.1 ≡ true = not_not (is_flagged p.1) stays in absurd (both (is_flagged p.1) flagged' (own refl).0)
  where
    not_not : (b : Bool) → not b ≡ false → b ≡ true
    not_not true e = refl
    not_not false e = absurd cc

    both : (b : Bool) → b ≡ true → b ≡ false → ⊥
    both b e f = let none : true ≡ false = sym e ∙ f in absurd cc
head_out n p rest false true is stays own later = ap (λ (b : Bool). is_in_service (cond b (Some p.1) (get n rest))) is ∙ later refl
head_out n p rest false false is stays own later = later refl

found_out : (n : ℕ) (p : ℕ × Stored) (ps : Table Stored) (same : Bool) → nat_eq p.0 n ≡ same → StaysOut (get n (p ∷ ps)) → (same ≡ true → StaysOut (Some p.1)) × (same ≡ false → StaysOut (get n ps))
found_out n p ps true is h = ((λ e. subst (λ (b : Bool). StaysOut (cond b (Some p.1) (get n ps))) is h), (λ e. absurd cc))
found_out n p ps false is h = ((λ e. absurd cc), (λ e. subst (λ (b : Bool). StaysOut (cond b (Some p.1) (get n ps))) is h))

filter_out : (n : ℕ) (t : Table Stored) → StaysOut (get n t) → has_in_service (filter is_unflagged t) n ≡ false
filter_out n [] h = refl
filter_out n (p ∷ ps) h =
    let z = found_out n p ps (nat_eq p.0 n) refl h in
    head_out n p (filter is_unflagged ps) (nat_eq p.0 n) (is_unflagged p) refl refl z.0 (λ e. filter_out n ps (z.1 e))

-- the flags of a fence: out of service, and no more
and_none : (a : Bool) → (a && false) ≡ false
and_none true = refl
and_none false = refl

fenced_by : (d : Durable) (family : ℕ) (o : Option Stored) → get family d.volumes ≡ o → StaysOut (get family (on_stored family (flagged 2) o d).volumes)
fenced_by d family None is = subst StaysOut (sym is) tt
fenced_by d family (Some s) is =
    subst StaysOut (sym (get_set family family (flagged 2 s) d.volumes ∙ ap (λ (b : Bool). cond b (Some (flagged 2 s)) (get family d.volumes)) (eq-eqb family family refl)))
    (refl, and_none (nat_eq s.volume.kind 0))

fenced : (d : Durable) (family : ℕ) → StaysOut (get family (done_by (bodies.Flags family 2) d).volumes)
fenced d family = fenced_by d family (get family d.volumes) refl

-- what was written, or what a start leaves of it
pub fence_rests : (d : Durable) (family : ℕ) (now : Table Stored) → (now ≡ (done_by (bodies.Flags family 2) d).volumes) ⊎ (now ≡ filter is_unflagged (done_by (bodies.Flags family 2) d).volumes) → has_in_service now family ≡ false
fence_rests d family now (inl is) = ap (λ (t : Table Stored). has_in_service t family) is ∙ out (get family (done_by (bodies.Flags family 2) d).volumes) (fenced d family)
fence_rests d family now (inr is) = ap (λ (t : Table Stored). has_in_service t family) is ∙ filter_out family (done_by (bodies.Flags family 2) d).volumes (fenced d family)
