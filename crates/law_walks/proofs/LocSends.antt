-- The steps of the location database: what it sends and keeps stays P, where what it makes is.
use Rattle.std.proofs.Common.{◌≡◌, ℕ, Bool, true, false, cond, Option, Some, None, refl}
use Rattle.std.specs.Prelude.{⊤}
use Rattle.std.specs.List.{AllByRecursion}
use Rattle.afs_num.specs.Nodes.{same_node}
use Rattle.afs_num.specs.declared.location_calls.LocReply.{LocReply}
use Rattle.afs_num.specs.declared.messages.Call.TheVariants as ask
use Rattle.afs_num.specs.declared.messages.Carried.{Carried}
use Rattle.afs_num.specs.declared.messages.Carried.TheVariants as carried
use Rattle.afs_num.specs.declared.messages.Message.{Message}
use Rattle.afs_num.specs.declared.messages.Received.TheVariants.{Whole}
use Rattle.afs_num.specs.declared.types.Head.{Head}
use Rattle.afs_num.specs.declared.types.Node.TheVariants.{Loc}
use Rattle.spec_model.specs.Calls.{admitted, Admitted}
use Rattle.spec_model.specs.Calls as pairs
use Rattle.spec_records.specs.LocDurable.{loc_has_room}
use Rattle.spec_rows.specs.Hosts.{at_rest, begun_from, comes_up, crashed, ends, fails_early, fails_midway, in_boot, in_step, is_full, restarted, served, served_by, set_to_fail, set_to_stop, struck, Blow, Fall, HostStep, Luck, Outcome}
use Rattle.spec_rows.specs.LocRow.{admits, decided, drops, hears, loc_decides, loc_durable_of, loc_left, loc_op, loc_record_of, loc_saved, loc_sent, refuses, repeats, reply_to, runs_carried, saves, shows, tells_boot, LocChange, LocDecision, LocResult, LocState}
use Rattle.spec_rows.specs.LocRow as row
use Rattle.spec_rows.specs.LocSteps.{loc_begun_after, loc_kind, loc_row, loc_start_row, LocHost}
use Rattle.spec_rows.specs.ServerRow.{no_room, not_served}
use Rattle.spec_rows.specs.Steps.{Begun}
use Rattle.law_walks.specs.Sends.{AdmittedIs, AnswersAre, IsTo, LocIs, LocMakes, SeatsAre}
use Rattle.law_walks.proofs.Seats.{admitted_is, any_seats, placed_is, seated_is}

-- ---- what it decides: on a call to it, or with a kept reply

abbrev Kept : (Message → Type 0) → LocDecision → Type 0
Kept K drops = ⊤
Kept K (tells_boot head) = IsTo Loc head
Kept K (repeats reply) = K reply
Kept K (refuses head code) = IsTo Loc head
Kept K (shows head reply) = IsTo Loc head
Kept K (saves head c) = IsTo Loc head

module _ (K : Message → Type 0) (s : LocState) where
  either : (b : Bool) (x y : LocDecision) → Kept K x → Kept K y → Kept K (cond b x y)
  either true x y h k = h
  either false x y h k = k

  module _ (head : Head) (to : IsTo Loc head) where
    result_kept : (r : LocResult) → Kept K (decided s head r)
    result_kept (row.refused code) = to
    result_kept (row.reads reply) = to
    result_kept (row.changes c) = either (loc_has_room (loc_durable_of s.lasting) (loc_record_of s.lasting.boot head c)) (saves head c) (refuses head no_room) to to

    carried_kept : (c : Carried) → Kept K (runs_carried s head c)
    carried_kept (carried.Call user (ask.Location call)) = result_kept (loc_op head.stamp call s.lasting)
    carried_kept (carried.Call user (ask.File call)) = to
    carried_kept (carried.Call user (ask.Volume call)) = to
    carried_kept (carried.Refusal code) = tt
    carried_kept (carried.Reply reply) = tt
    carried_kept carried.Notice = tt

    admits_kept : (c : Carried) (o : Admitted Message) → AdmittedIs K o → Kept K (admits s head (Whole (record { head = head; carried = c })) o)
    admits_kept c pairs.runs h = either (same_node head.from Loc) (refuses head not_served) (runs_carried s head c) to (carried_kept c)
    admits_kept c (pairs.kept reply) h = h
    admits_kept c pairs.in_progress h = tt
    admits_kept c pairs.older h = tt
    admits_kept c (pairs.wrong_boot boot) h = to

  called_kept : (head : Head) (c : Carried) (b : Bool) → same_node head.to Loc ≡ b → SeatsAre K s.seats → Kept K (cond b (admits s head (Whole (record { head = head; carried = c })) (admitted s.lasting.boot s.seats head)) drops)
  called_kept head c true to h = admits_kept head to c (admitted s.lasting.boot s.seats head) (admitted_is K s.lasting.boot s.seats head h)
  called_kept head c false to h = tt

  hears_kept : (head : Head) (c : Carried) → SeatsAre K s.seats → Kept K (hears s head c)
  hears_kept head (carried.Call user call) h = called_kept head (carried.Call user call) (same_node head.to Loc) refl h
  hears_kept head (carried.Refusal code) h = tt
  hears_kept head (carried.Reply reply) h = tt
  hears_kept head carried.Notice h = tt

-- what it makes for a call, where that is so whatever it answers
makes_by : (P K : Message → Type 0) (boot : ℕ) (d : LocDecision) → Kept K d → ((head : Head) (reply : LocReply) → IsTo Loc head → P (reply_to boot head reply)) → LocMakes P boot d
makes_by P K boot drops h k = tt
makes_by P K boot (tells_boot head) h k = tt
makes_by P K boot (repeats reply) h k = tt
makes_by P K boot (refuses head code) h k = tt
makes_by P K boot (shows head reply) h k = k head reply h
makes_by P K boot (saves head c) h k = k head c.reply h

pub loc_makes_any : (P : Message → Type 0) (s : LocState) (m : Message) → ((head : Head) (reply : LocReply) → IsTo Loc head → P (reply_to s.lasting.boot head reply)) → LocMakes P s.lasting.boot (loc_decides s (Whole m))
loc_makes_any P s m k = makes_by P (λ (x : Message). ⊤) s.lasting.boot (loc_decides s (Whole m)) (hears_kept (λ (x : Message). ⊤) s m.head m.carried (any_seats s.seats)) k

-- ---- a step

pub record LocSends (P : Message → Type 0) (s : HostStep LocState) : Type 0 where
  pub has : LocIs P s.host.state
  pub sent : AllByRecursion P s.sent

module _ (P : Message → Type 0) (h : LocHost) (has : LocIs P h.state) where
  abbrev boot : ℕ
  boot = h.state.lasting.boot

  pub sent_is : (d : LocDecision) → AnswersAre P Loc boot → Kept P d → LocMakes P boot d → AllByRecursion P (loc_sent h.state d)
  sent_is drops a k z = tt
  sent_is (tells_boot head) a k z = (a.notice head k, tt)
  sent_is (repeats reply) a k z = (k, tt)
  sent_is (refuses head code) a k z = (a.refusal head code k, tt)
  sent_is (shows head reply) a k z = (z, tt)
  sent_is (saves head c) a k z = (z, tt)

  pub saved_is : (head : Head) (c : LocChange) → P (reply_to boot head c.reply) → LocIs P (loc_saved head c h.state)
  saved_is head c z = record { seats = seated_is P _ h.state.seats z has.seats; kept = placed_is P _ h.state.lasting.kept z has.kept }

  pub left_is : (d : LocDecision) → AnswersAre P Loc boot → Kept P d → LocMakes P boot d → LocIs P (loc_left h.state d)
  left_is drops a k z = has
  left_is (tells_boot head) a k z = has
  left_is (repeats reply) a k z = has
  left_is (refuses head code) a k z = record { seats = seated_is P _ h.state.seats (a.refusal head code k) has.seats; kept = has.kept }
  left_is (shows head reply) a k z = record { seats = seated_is P _ h.state.seats z has.seats; kept = has.kept }
  left_is (saves head c) a k z = saved_is head c z

  pub serve_by : (clock place : ℕ) (m : Message) (o : Option Blow) → AnswersAre P Loc boot → LocMakes P boot (loc_decides h.state (Whole m)) → LocSends P (served_by loc_kind h clock place m o)
  unfolding loc_row
  serve_by clock place m None a z =
      let k : Kept P (loc_decides h.state (Whole m)) = hears_kept P h.state m.head m.carried has.seats in
      record { has = left_is (loc_decides h.state (Whole m)) a k z; sent = sent_is (loc_decides h.state (Whole m)) a k z }
  serve_by clock place m (Some b) a z = record { has = has; sent = tt }

  pub loc_served : (clock place : ℕ) (luck : Luck) (m : Message) → AnswersAre P Loc boot → LocMakes P boot (loc_decides h.state (Whole m)) → LocSends P (served loc_kind h clock place luck m)
  loc_served clock place luck m a z = serve_by clock place m (struck h.armed luck _) a z

  pub loc_crashed : LocSends P (crashed loc_kind h)
  loc_crashed = record { has = has; sent = tt }

  pub loc_stop_set : (calls pick : ℕ) → LocSends P (set_to_stop loc_kind h calls pick)
  loc_stop_set calls pick = record { has = has; sent = tt }

  pub loc_fail_set : (call : ℕ) → LocSends P (set_to_fail loc_kind h call)
  loc_fail_set call = record { has = has; sent = tt }

  -- ---- a restart

  -- what is decided on the message of an interrupted step makes P, too
  abbrev pub LocCutMakes : Fall → Type 0
  LocCutMakes at_rest = ⊤
  LocCutMakes (in_step m clock b) = LocMakes P boot (loc_decides h.state (Whole m))
  LocCutMakes in_boot = ⊤

  pub after_is : (d : LocDecision) → LocMakes P boot d → LocIs P (loc_begun_after h.state d).state
  after_is drops z = has
  after_is (tells_boot head) z = has
  after_is (repeats reply) z = has
  after_is (refuses head code) z = has
  after_is (shows head reply) z = has
  after_is (saves head c) z = saved_is head c z

  pub begun_is : (after : Bool) (fall : Fall) → LocCutMakes fall → LocIs P (begun_from loc_kind h.state after fall).state
  begun_is after at_rest z = has
  begun_is false (in_step m clock b) z = has
  begun_is true (in_step m clock b) z = after_is (loc_decides h.state (Whole m)) z
  begun_is false in_boot z = has
  begun_is true in_boot z = record { seats = has.kept; kept = has.kept }

  pub ended_is : (clock count : ℕ) (f : Begun LocState) (fall : Fall) (o : Outcome) → LocIs P f.state → LocSends P (ends loc_kind h clock count f fall o)
  unfolding loc_start_row
  ended_is clock count f fall comes_up k = record { has = record { seats = k.kept; kept = k.kept }; sent = tt }
  ended_is clock count f fall fails_early k = record { has = has; sent = tt }
  ended_is clock count f fall fails_midway k = record { has = k; sent = tt }
  ended_is clock count f fall is_full k = record { has = k; sent = tt }

  pub loc_restarted : (clock count : ℕ) (after : Bool) (o : Outcome) (fall : Fall) → LocCutMakes fall → LocSends P (restarted loc_kind h clock count after o fall)
  loc_restarted clock count after o fall z = ended_is clock count (begun_from loc_kind h.state after fall) fall _ (begun_is after fall z)
