-- A step of the location database, and its restart: locks stay the last of their entries, and each reply says for which entry its stamp was
-- drawn.
use Rattle.std.proofs.Common.{◌≡◌, ◌≤◌, ◌<◌, ℕ, Bool, true, false, cond, List, [], ◌∷◌, Option, Some, None, refl, sym, subst}
use Rattle.std.proofs.Math.Nat.{le_refl}
use Rattle.std.specs.Prelude.{⊤}
use Rattle.std.specs.List.{AllByRecursion}
use Rattle.afs_num.specs.Nodes.{same_node}
use Rattle.afs_num.specs.declared.location_calls.LocCall.{LocCall}
use Rattle.afs_num.specs.declared.location_calls.LocReply.{LocReply}
use Rattle.afs_num.specs.declared.location_calls.LocReply.TheVariants as entries
use Rattle.afs_num.specs.declared.messages.Call.{Call}
use Rattle.afs_num.specs.declared.messages.Call.TheVariants as ask
use Rattle.afs_num.specs.declared.messages.Carried.{Carried}
use Rattle.afs_num.specs.declared.messages.Carried.TheVariants as carried
use Rattle.afs_num.specs.declared.messages.Message.{Message}
use Rattle.afs_num.specs.declared.messages.Received.TheVariants.{Whole}
use Rattle.afs_num.specs.declared.types.Head.{Head}
use Rattle.afs_num.specs.declared.types.Node.{Node}
use Rattle.afs_num.specs.declared.types.Node.TheVariants.{Admin, Client, Loc, Server}
use Rattle.spec_model.specs.Calls.{admitted, Admitted}
use Rattle.spec_model.specs.Calls as pairs
use Rattle.spec_adminrows.specs.Acts.{asks_at}
use Rattle.spec_adminrows.specs.AdminRow.{AdminState}
use Rattle.spec_adminrows.specs.declared.places.Creating.TheVariants as creating
use Rattle.spec_adminrows.specs.declared.places.Fresh.{Fresh}
use Rattle.spec_adminrows.specs.declared.places.Place.{Place}
use Rattle.spec_adminrows.specs.declared.places.Place.TheVariants as places
use Rattle.spec_records.specs.LocDurable.{loc_has_room}
use Rattle.spec_rows.specs.Hosts.{at_rest, begun_from, comes_up, ends, fails_early, fails_midway, in_boot, in_step, is_full, restarted, served, served_by, without_boot_record, struck, Blow, Fall, Luck, Outcome}
use Rattle.spec_rows.specs.LocRow.{admits, decided, drops, hears, loc_decides, loc_durable_of, loc_keeps, loc_left, loc_op, loc_record_of, loc_saved, loc_sent, refuses, repeats, reply_to, runs_carried, saves, shows, tells_boot, LocChange, LocDecision, LocResult, LocState}
use Rattle.spec_rows.specs.LocRow as row
use Rattle.spec_rows.specs.LocSteps.{loc_begun_after, loc_kind, loc_row, loc_start_row, LocHost}
use Rattle.spec_rows.specs.ServerRow.{no_room, not_served}
use Rattle.spec_rows.specs.Steps.{Begun}
use Rattle.law_stamps.specs.Given.{given_by}
use Rattle.law_walks.specs.Sends.{AdmittedIs, LocIs}
use Rattle.law_walks.proofs.Seats.{admitted_is, placed_is, seated_is, weaker_seats}
use Rattle.law_courses.specs.Courses.{ask_in, Course, IsUpTo}
use Rattle.law_locks.specs.Lines.{AreInLine, IsDrawnFor}
use Rattle.law_locks.proofs.Asking.{Fits}
use Rattle.law_locks.proofs.Drawing.{call_line, ChangeIsInLine, IsGivenFor, ResultIsInLine}
use Rattle.law_locks.proofs.Gifts.{still_gift, IsGift, MadeBy}

-- ---- what is known of a call that is served

-- an administrator's call is the question of its course
abbrev pub AskedBy : Course → (ℕ → AdminState) → Head → Call → Node → Type 0
AskedBy course admins head call (Admin n) = IsUpTo head.epoch head.number (admins n) × ((ask_in (course n head.epoch head.number)).call ≡ call)
AskedBy course admins head call (Server i) = ⊤
AskedBy course admins head call (Client n) = ⊤
AskedBy course admins head call Loc = ⊤

abbrev pub ServedIn : (ℕ → ℕ) → Course → (ℕ → AdminState) → Head → Carried → Type 0
ServedIn entry_of course admins head (carried.Call user call) = Fits entry_of head.stamp call × AskedBy course admins head call head.from
ServedIn entry_of course admins head (carried.Refusal code) = ⊤
ServedIn entry_of course admins head (carried.Reply reply) = ⊤
ServedIn entry_of course admins head carried.Notice = ⊤

-- ---- a decision

-- the change of a call that was served
record IsSaved (entry_of : ℕ → ℕ) (course : Course) (admins : ℕ → AdminState) (s : LocState) (head : Head) (c : LocChange) : Type 0 where
  call : LocCall
  asked : AskedBy course admins head (ask.Location call) head.from
  line : ChangeIsInLine entry_of s.lasting call c

-- what comes of a step: stamps that were drawn keep their entries
pub record Draws (entry_of : ℕ → ℕ) (course : Course) (admins : ℕ → AdminState) (a b : LocState) (messages : List Message) : Type 0 where
  pub now : ℕ → ℕ
  pub same : (stamp : ℕ) → stamp < a.lasting.next_stamp → now stamp ≡ entry_of stamp
  pub rises : a.lasting.next_stamp ≤ b.lasting.next_stamp
  pub line : AreInLine now b.lasting.next_stamp b.lasting.entries
  pub has : LocIs (IsGift now b.lasting.next_stamp course admins) b
  pub sent : AllByRecursion (IsGift now b.lasting.next_stamp course admins) messages

module _ (entry_of : ℕ → ℕ) (course : Course) (admins : ℕ → AdminState) where
  -- ---- what it answers

  location_same : (x y : LocCall) → ask.Location x ≡ ask.Location y → x ≡ y
  location_same x y e = cc

  -- which entry was made, the question tells
  made_for : (now : ℕ → ℕ) (next : ℕ) (head : Head) (call : LocCall) (stamp : ℕ) (n : Node) → AskedBy course admins head (ask.Location call) n → IsGivenFor now next call (entries.CreateEntry stamp) → MadeBy now next course admins head stamp n
  made_for now next head call stamp (Admin n) asked gives = (asked.0, λ f v at. by f v (subst (λ (p : Place). (asks_at (course n head.epoch head.number).errand p).call ≡ ask.Location call) at asked.1))
    where
      by : (f : Fresh) (v : ℕ) → (asks_at (course n head.epoch head.number).errand (places.Creates f (creating.Enters v))).call ≡ ask.Location call → IsDrawnFor now next v stamp
      by f v same = subst (λ (k : LocCall). IsGivenFor now next k (entries.CreateEntry stamp)) (sym (location_same _ call same)) gives
  made_for now next head call stamp (Server i) asked gives = tt
  made_for now next head call stamp (Client i) asked gives = tt
  made_for now next head call stamp Loc asked gives = tt

  gives_gift : (now : ℕ → ℕ) (next boot : ℕ) (head : Head) (call : LocCall) (reply : LocReply) → AskedBy course admins head (ask.Location call) head.from → IsGivenFor now next call reply → IsGift now next course admins (reply_to boot head reply)
  gives_gift now next boot head call (entries.SetLock stamp e) asked gives = gives
  gives_gift now next boot head call (entries.CreateEntry stamp) asked gives = made_for now next (reply_to boot head (entries.CreateEntry stamp)).head call stamp head.from asked gives
  gives_gift now next boot head call reply asked gives = tt

  shown_gift : (next boot : ℕ) (head : Head) (reply : LocReply) → given_by reply ≡ None → IsGift entry_of next course admins (reply_to boot head reply)
  shown_gift next boot head (entries.SetLock stamp e) none = absurd cc
  shown_gift next boot head (entries.CreateEntry stamp) none = absurd cc
  shown_gift next boot head reply none = tt

  module _ (s : LocState) (line : AreInLine entry_of s.lasting.next_stamp s.lasting.entries) (has : LocIs (IsGift entry_of s.lasting.next_stamp course admins) s) where
    abbrev next : ℕ
    next = s.lasting.next_stamp

    abbrev P : Message → Type 0
    P = IsGift entry_of next course admins

    abbrev Decides : LocDecision → Type 0
    Decides drops = ⊤
    Decides (tells_boot head) = ⊤
    Decides (repeats reply) = P reply
    Decides (refuses head code) = ⊤
    Decides (shows head reply) = given_by reply ≡ None
    Decides (saves head c) = IsSaved entry_of course admins s head c

    either : (b : Bool) (x y : LocDecision) → Decides x → Decides y → Decides (cond b x y)
    either true x y h k = h
    either false x y h k = k

    result_decides : (head : Head) (call : LocCall) (r : LocResult) → AskedBy course admins head (ask.Location call) head.from → ResultIsInLine entry_of s.lasting call r → Decides (decided s head r)
    result_decides head call (row.refused code) asked h = tt
    result_decides head call (row.reads reply) asked h = h
    result_decides head call (row.changes c) asked h = either (loc_has_room (loc_durable_of s.lasting) (loc_record_of s.lasting.boot head c)) (saves head c) (refuses head no_room) (record { call = call; asked = asked; line = h }) tt

    carried_decides : (head : Head) (x : Carried) → ServedIn entry_of course admins head x → Decides (runs_carried s head x)
    carried_decides head (carried.Call user (ask.Location call)) k = result_decides head call (loc_op head.stamp call s.lasting) k.1 (call_line entry_of s.lasting line head.stamp call k.0)
    carried_decides head (carried.Call user (ask.File call)) k = tt
    carried_decides head (carried.Call user (ask.Volume call)) k = tt
    carried_decides head (carried.Refusal code) k = tt
    carried_decides head (carried.Reply reply) k = tt
    carried_decides head carried.Notice k = tt

    admits_decides : (head : Head) (x : Carried) (o : Admitted Message) → ServedIn entry_of course admins head x → AdmittedIs P o → Decides (admits s head (Whole (record { head = head; carried = x })) o)
    admits_decides head x pairs.runs k h = either (same_node head.from Loc) (refuses head not_served) (runs_carried s head x) tt (carried_decides head x k)
    admits_decides head x (pairs.kept reply) k h = h
    admits_decides head x pairs.in_progress k h = tt
    admits_decides head x pairs.older k h = tt
    admits_decides head x (pairs.wrong_boot boot) k h = tt

    hears_decides : (head : Head) (x : Carried) → ServedIn entry_of course admins head x → Decides (hears s head x)
    hears_decides head (carried.Call user call) k = either (same_node head.to Loc) _ drops (admits_decides head (carried.Call user call) (admitted s.lasting.boot s.seats head) k (admitted_is P s.lasting.boot s.seats head has.seats)) tt
    hears_decides head (carried.Refusal code) k = tt
    hears_decides head (carried.Reply reply) k = tt
    hears_decides head carried.Notice k = tt

    -- ---- the state behind it

    abbrev Goes : LocState → List Message → Type 0
    Goes b messages = Draws entry_of course admins s b messages

    pub none_drawn : Goes s []
    none_drawn = record { now = entry_of; same = λ stamp below. refl; rises = le_refl next; line = line; has = has; sent = tt }

    -- it sends, and may keep, a message that gives no new stamp
    sends_one : (m : Message) → P m → Goes s (m ∷ [])
    sends_one m p = record { now = entry_of; same = λ stamp below. refl; rises = le_refl next; line = line; has = has; sent = (p, tt) }

    keeps_one : (head : Head) (m : Message) → P m → Goes (loc_keeps head m s) (m ∷ [])
    keeps_one head m p = record { now = entry_of; same = λ stamp below. refl; rises = le_refl next; line = line; has = record { seats = seated_is P _ s.seats p has.seats; kept = has.kept }; sent = (p, tt) }

    saved_draws : (head : Head) (c : LocChange) → IsSaved entry_of course admins s head c → Goes (loc_saved head c s) (reply_to s.lasting.boot head c.reply ∷ [])
    saved_draws head c k =
        let now : ℕ → ℕ = k.line.now in
        let Q : Message → Type 0 = IsGift now c.next_stamp course admins in
        let new : Q (reply_to s.lasting.boot head c.reply) = gives_gift now c.next_stamp s.lasting.boot head k.call c.reply k.asked k.line.gives in
        let more : (m : Message) → P m → Q m = still_gift entry_of now next c.next_stamp k.line.rises k.line.stays course course admins admins (λ i e j u. refl) (λ i e j u. u) in
        record {
          now = now;
          same = k.line.stays;
          rises = k.line.rises;
          line = k.line.line;
          has = record { seats = seated_is Q _ s.seats new (weaker_seats P Q s.seats more has.seats); kept = placed_is Q _ s.lasting.kept new (weaker_seats P Q s.lasting.kept more has.kept) };
          sent = (new, tt);
        }

    left_draws : (d : LocDecision) → Decides d → Goes (loc_left s d) (loc_sent s d)
    left_draws drops k = none_drawn
    left_draws (tells_boot head) k = sends_one _ tt
    left_draws (repeats reply) k = sends_one reply k
    left_draws (refuses head code) k = keeps_one head _ tt
    left_draws (shows head reply) k = keeps_one head _ (shown_gift next s.lasting.boot head reply k)
    left_draws (saves head c) k = saved_draws head c k

    unsent : (b : LocState) (ms : List Message) → Goes b ms → Goes b []
    unsent b ms h = record { now = h.now; same = h.same; rises = h.rises; line = h.line; has = h.has; sent = tt }

    after_draws : (d : LocDecision) → Decides d → Goes (loc_begun_after s d).state []
    after_draws (saves head c) k = unsent _ _ (saved_draws head c k)
    after_draws drops k = none_drawn
    after_draws (tells_boot head) k = none_drawn
    after_draws (repeats reply) k = none_drawn
    after_draws (refuses head code) k = none_drawn
    after_draws (shows head reply) k = none_drawn

    -- it begins again with what it kept on its disk
    revived_draws : (b : LocState) → Goes b [] → Goes (row.loc_revived b) []
    revived_draws b h = record { now = h.now; same = h.same; rises = h.rises; line = h.line; has = record { seats = h.has.kept; kept = h.has.kept }; sent = tt }

    begun_draws : (after : Bool) (fall : Fall) → ((m : Message) (clock : ℕ) (b : Blow) → fall ≡ in_step m clock b → ServedIn entry_of course admins m.head m.carried) → Goes (begun_from loc_kind s after fall).state []
    begun_draws after at_rest k = none_drawn
    begun_draws false (in_step m clock b) k = none_drawn
    begun_draws true (in_step m clock b) k = after_draws (loc_decides s (Whole m)) (hears_decides m.head m.carried (k m clock b refl))
    begun_draws false in_boot k = none_drawn
    begun_draws true in_boot k = revived_draws s none_drawn

-- ---- its steps

module _ (entry_of : ℕ → ℕ) (course : Course) (admins : ℕ → AdminState) (h : LocHost) (line : AreInLine entry_of h.state.lasting.next_stamp h.state.lasting.entries) (has : LocIs (IsGift entry_of h.state.lasting.next_stamp course admins) h.state) where
  abbrev Steps : LocState → List Message → Type 0
  Steps b messages = Draws entry_of course admins h.state b messages

  serve_by : (clock place : ℕ) (m : Message) (o : Option Blow) → ServedIn entry_of course admins m.head m.carried → Steps (served_by loc_kind h clock place m o).host.state (served_by loc_kind h clock place m o).sent
  unfolding loc_row
  serve_by clock place m None k = left_draws entry_of course admins h.state line has (loc_decides h.state (Whole m)) (hears_decides entry_of course admins h.state line has m.head m.carried k)
  serve_by clock place m (Some b) k = none_drawn entry_of course admins h.state line has

  pub serve_draws : (clock place : ℕ) (luck : Luck) (m : Message) → ServedIn entry_of course admins m.head m.carried → Steps (served loc_kind h clock place luck m).host.state (served loc_kind h clock place luck m).sent
  serve_draws clock place luck m k = serve_by clock place m (struck h.armed luck (loc_kind.device_calls h.state clock (Whole m))) k

  ends_draws : (clock count : ℕ) (f : Begun LocState) (fall : Fall) (o : Outcome) → Steps f.state [] → Steps (ends loc_kind h clock count f fall o).host.state (ends loc_kind h clock count f fall o).sent
  unfolding loc_start_row
  ends_draws clock count f fall comes_up b = revived_draws entry_of course admins h.state line has f.state b
  ends_draws clock count f fall fails_early b = none_drawn entry_of course admins h.state line has
  ends_draws clock count f fall fails_midway b = b
  ends_draws clock count f fall is_full b = b

  pub restart_draws : (clock count : ℕ) (after : Bool) (o : Outcome) (fall : Fall) → ((m : Message) (at : ℕ) (b : Blow) → fall ≡ in_step m at b → ServedIn entry_of course admins m.head m.carried) →
      Steps (restarted loc_kind h clock count after o fall).host.state (restarted loc_kind h clock count after o fall).sent
  restart_draws clock count after o fall k = ends_draws clock count (begun_from loc_kind h.state after fall) fall (without_boot_record (loc_kind.can_start (begun_from loc_kind h.state after fall).state) o) (begun_draws entry_of course admins h.state line has after fall k)
