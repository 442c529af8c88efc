-- The steps of the location database: what it tells is sound, and a number that it tells for the call of a release that runs is new to it.
use Rattle.std.proofs.Common.{◌≡◌, ◌≤◌, ◌<◌, ℕ, Bool, true, false, Option, Some, None, refl, sym, subst, arith}
use Rattle.std.proofs.Math.Nat.{le_refl, le_trans}
use Rattle.afs_num.specs.declared.location_calls.LocReply.{LocReply}
use Rattle.afs_num.specs.declared.location_calls.LocReply.TheVariants as replies
use Rattle.afs_num.specs.declared.messages.Call.TheVariants as ask
use Rattle.afs_num.specs.declared.messages.Carried.{Carried}
use Rattle.afs_num.specs.declared.messages.Carried.TheVariants as carried
use Rattle.afs_num.specs.declared.messages.Message.{Message}
use Rattle.afs_num.specs.declared.messages.Received.TheVariants.{Whole}
use Rattle.afs_num.specs.declared.types.Head.{Head}
use Rattle.afs_num.specs.declared.types.Node.{Node}
use Rattle.afs_num.specs.declared.types.Node.TheVariants.{Admin, Client, Loc, Server}
use Rattle.spec_adminrows.specs.declared.turns.Running.{Running}
use Rattle.spec_rows.specs.Hosts.{at_rest, begun_from, comes_up, ends, fails_early, fails_midway, in_boot, in_step, is_full, served_by, Blow, Fall, HostStep, Outcome}
use Rattle.spec_rows.specs.LocRow.{drops, loc_decides, loc_left, refuses, repeats, saves, shows, tells_boot, LocChange, LocDecision, LocState}
use Rattle.spec_rows.specs.LocSteps.{loc_begun_after, loc_kind, loc_row, loc_start_row}
use Rattle.spec_rows.specs.ServerRow.{reply_head}
use Rattle.spec_rows.specs.Steps.{Begun}
use Rattle.spec_runs.specs.NodeRuns.{loc_stepped, NodeCell}
use Rattle.law_walks.specs.Messages.{FallIs}
use Rattle.law_walks.specs.Sends.{AnswersAre, LocIs, LocMakes}
use Rattle.law_walks.proofs.LocSends.{begun_is, ended_is, serve_by, LocSends}
use Rattle.law_numbers.specs.Numbers.{next_volume, PlaceIsSound}
use Rattle.law_numbers.proofs.Drawing.{decides_draws, same_on, saved_on, still_sound, CarriesSound, Drawn, Draws, DrawsOn, IsLocationCall, Tells}
use Rattle.law_numbers.proofs.Knowing.{CallFrom, Known, KnownBy, NewTo, ReplyIs}
use Rattle.law_numbers.proofs.Leading.{new_at}

-- ---- what is known of a call to it

pub carries : (c : NodeCell) (head : Head) (x : Carried) → KnownBy c head x → CarriesSound (next_volume c) x
carries c head (carried.Call user (ask.Location call)) h = h.0
carries c head (carried.Call user (ask.File call)) h = tt
carries c head (carried.Call user (ask.Volume call)) h = tt
carries c head (carried.Refusal code) h = tt
carries c head (carried.Reply reply) h = tt
carries c head carried.Notice h = tt

from_of : (c : NodeCell) (head : Head) (x : Carried) → IsLocationCall x → KnownBy c head x → CallFrom c head head.from
from_of c head (carried.Call user (ask.Location call)) is h = h.1
from_of c head (carried.Call user (ask.File call)) is h = absurd is
from_of c head (carried.Call user (ask.Volume call)) is h = absurd is
from_of c head (carried.Refusal code) is h = absurd is
from_of c head (carried.Reply reply) is h = absurd is
from_of c head carried.Notice is h = absurd is

-- ---- what it tells, in a cell behind one whose next number is n

module _ (n : ℕ) (first : 1 ≤ n) (d : NodeCell) (acts : (a : ℕ) (r : Running) → (d.admins a).running ≡ Some r → PlaceIsSound n r.place) where
  new_to : (boot : ℕ) (head : Head) (k : ℕ) (who : Node) → k ≡ n → CallFrom d head who → NewTo d (reply_head boot head) k who
  new_to boot head k (Admin a) is from = record { up_to = from; now = λ last r run. new_at n k r.place is (acts a r run) }
  new_to boot head k (Client a) is from = tt
  new_to boot head k (Server a) is from = tt
  new_to boot head k Loc is from = tt

  tells_is : (boot m : ℕ) (head : Head) (reply : LocReply) → m ≤ next_volume d → CallFrom d head head.from → Tells n m reply → ReplyIs d (reply_head boot head) reply
  tells_is boot m head (replies.SetLock stamp e) le from h = still_sound m (next_volume d) e le h
  tells_is boot m head (replies.GetNewVolumeId k) le from h = let is : k ≡ n = h.0 in let low : n < m = h.1 in ((omega (arith, first, is), omega (arith, is, low, le)), new_to boot head k head.from is from)
  tells_is boot m head reply le from h = tt

  -- what is written is behind it
  abbrev pub Wrote : LocDecision → Type 0
  Wrote dec = (h : Head) (x : LocChange) → dec ≡ saves h x → x.next_id ≤ next_volume d

  makes_by : (boot : ℕ) (head : Head) (x : Carried) (dec : LocDecision) → KnownBy d head x → n ≤ next_volume d → Draws n head x dec → Wrote dec → LocMakes (Known d) boot dec
  makes_by boot head x drops known le draws wrote = tt
  makes_by boot head x (tells_boot h) known le draws wrote = tt
  makes_by boot head x (repeats reply) known le draws wrote = tt
  makes_by boot head x (refuses h code) known le draws wrote = tt
  makes_by boot head x (shows h reply) known le draws wrote = subst (λ (y : Head). ReplyIs d (reply_head boot y) reply) (sym draws.its) (tells_is boot n head reply le (from_of d head x draws.asked known) draws.so)
  makes_by boot head x (saves h c) known le draws wrote = subst (λ (y : Head). ReplyIs d (reply_head boot y) c.reply) (sym draws.its) (tells_is boot c.next_id head c.reply (wrote h c refl) (from_of d head x draws.asked known) draws.so.tells)

-- ---- its state

left_on : (s : LocState) (head : Head) (x : Carried) (dec : LocDecision) → Drawn s → Draws s.lasting.next_id head x dec → DrawsOn s (loc_left s dec)
left_on s head x (saves h c) k z = saved_on s h c k z.so
left_on s head x drops k z = same_on s k
left_on s head x (tells_boot h) k z = same_on s k
left_on s head x (repeats reply) k z = same_on s k
left_on s head x (refuses h code) k z = record { drawn = record { first = k.first; entries = k.entries }; rises = le_refl s.lasting.next_id }
left_on s head x (shows h reply) k z = record { drawn = record { first = k.first; entries = k.entries }; rises = le_refl s.lasting.next_id }

left_next : (s : LocState) (dec : LocDecision) (h : Head) (c : LocChange) → dec ≡ saves h c → c.next_id ≤ (loc_left s dec).lasting.next_id
left_next s dec h c is = subst (λ (x : LocDecision). c.next_id ≤ (loc_left s x).lasting.next_id) (sym is) (le_refl c.next_id)

after_on : (s : LocState) (head : Head) (x : Carried) (dec : LocDecision) → Drawn s → Draws s.lasting.next_id head x dec → DrawsOn s (loc_begun_after s dec).state
after_on s head x (saves h c) k z = saved_on s h c k z.so
after_on s head x drops k z = same_on s k
after_on s head x (tells_boot h) k z = same_on s k
after_on s head x (repeats reply) k z = same_on s k
after_on s head x (refuses h code) k z = same_on s k
after_on s head x (shows h reply) k z = same_on s k

after_next : (s : LocState) (dec : LocDecision) (h : Head) (c : LocChange) → dec ≡ saves h c → c.next_id ≤ (loc_begun_after s dec).state.lasting.next_id
after_next s dec h c is = subst (λ (x : LocDecision). c.next_id ≤ (loc_begun_after s x).state.lasting.next_id) (sym is) (le_refl c.next_id)

-- ---- steps, in a cell of which all is known

module _ (c : NodeCell) (drawn : Drawn c.loc.state) (acts : (a : ℕ) (r : Running) → (c.admins a).running ≡ Some r → PlaceIsSound (next_volume c) r.place) where
  abbrev s : LocState
  s = c.loc.state

  abbrev n : ℕ
  n = next_volume c

  draws_of : (m : Message) → Known c m → Draws n m.head m.carried (loc_decides s (Whole m))
  draws_of m known = decides_draws s drawn.entries m (carries c m.head m.carried known)

  answers : (d : NodeCell) (boot : ℕ) → AnswersAre (Known d) Loc boot
  answers d boot = record { notice = λ head to. tt; refusal = λ head code to. tt }

  module _ (clock place : ℕ) (m : Message) (known : Known c m) where
    abbrev step : Option Blow → HostStep LocState
    step o = served_by loc_kind c.loc clock place m o

    pub serve_on : (o : Option Blow) → DrawsOn s (step o).host.state
    unfolding loc_row
    serve_on None = left_on s m.head m.carried (loc_decides s (Whole m)) drawn (draws_of m known)
    serve_on (Some b) = same_on s drawn

    serve_wrote : (h : Head) (x : LocChange) → loc_decides s (Whole m) ≡ saves h x → x.next_id ≤ next_volume (loc_stepped c (step None)).cell
    unfolding loc_row
    serve_wrote h x is = left_next s (loc_decides s (Whole m)) h x is

    pub serve_sends : (o : Option Blow) → n ≤ next_volume (loc_stepped c (step o)).cell → LocIs (Known (loc_stepped c (step o)).cell) s → Known (loc_stepped c (step o)).cell m → LocSends (Known (loc_stepped c (step o)).cell) (step o)
    serve_sends None up has now =
        let d : NodeCell = (loc_stepped c (step None)).cell in
        serve_by (Known d) c.loc has clock place m None (answers d s.lasting.boot) (makes_by n drawn.first d acts s.lasting.boot m.head m.carried (loc_decides s (Whole m)) now up (draws_of m known) serve_wrote)
    serve_sends (Some b) up has now = record { has = has; sent = tt }

    pub serve_fell : (o : Option Blow) → Known (loc_stepped c (step o)).cell m → FallIs (Known (loc_stepped c (step o)).cell) (step o).host.down
    serve_fell None now = tt
    serve_fell (Some b) now = now

  -- ---- a restart

  pub begun_on : (after : Bool) (fall : Fall) → FallIs (Known c) (Some fall) → DrawsOn s (begun_from loc_kind s after fall).state
  begun_on after at_rest known = same_on s drawn
  begun_on false (in_step m clock b) known = same_on s drawn
  begun_on true (in_step m clock b) known = after_on s m.head m.carried (loc_decides s (Whole m)) drawn (draws_of m known)
  begun_on false in_boot known = same_on s drawn
  begun_on true in_boot known = record { drawn = record { first = drawn.first; entries = drawn.entries }; rises = le_refl n }

  module _ (clock count : ℕ) where
    abbrev end : Begun LocState → Fall → Outcome → HostStep LocState
    end f fall o = ends loc_kind c.loc clock count f fall o

    pub ends_on : (f : Begun LocState) (fall : Fall) (o : Outcome) → DrawsOn s f.state → DrawsOn s (end f fall o).host.state
    unfolding loc_start_row
    ends_on f fall comes_up k = record { drawn = record { first = k.drawn.first; entries = k.drawn.entries }; rises = k.rises }
    ends_on f fall fails_early k = same_on s drawn
    ends_on f fall fails_midway k = k
    ends_on f fall is_full k = k

    pub ends_fell : (d : NodeCell) (f : Begun LocState) (fall : Fall) (o : Outcome) → FallIs (Known d) (Some fall) → FallIs (Known d) (end f fall o).host.down
    ends_fell d f fall comes_up known = tt
    ends_fell d f fall fails_early known = known
    ends_fell d f fall fails_midway known = tt
    ends_fell d f fall is_full known = tt

    end_next : (f : Begun LocState) (fall : Fall) (o : Outcome) → (o ≡ fails_early → ⊥) → f.state.lasting.next_id ≤ (end f fall o).host.state.lasting.next_id
    unfolding loc_start_row
    end_next f fall comes_up goes = le_refl f.state.lasting.next_id
    end_next f fall fails_early goes = absurd (goes refl)
    end_next f fall fails_midway goes = le_refl f.state.lasting.next_id
    end_next f fall is_full goes = le_refl f.state.lasting.next_id

    abbrev cell : Begun LocState → Fall → Outcome → NodeCell
    cell f fall o = (loc_stepped c (end f fall o)).cell

    -- behind the interrupted step
    after_sends : (m : Message) (at : ℕ) (b : Blow) (o : Outcome) → (o ≡ fails_early → ⊥) → Known c m → n ≤ next_volume (cell (begun_from loc_kind s true (in_step m at b)) (in_step m at b) o) →
        LocIs (Known (cell (begun_from loc_kind s true (in_step m at b)) (in_step m at b) o)) s → Known (cell (begun_from loc_kind s true (in_step m at b)) (in_step m at b) o) m →
        LocSends (Known (cell (begun_from loc_kind s true (in_step m at b)) (in_step m at b) o)) (end (begun_from loc_kind s true (in_step m at b)) (in_step m at b) o)
    after_sends m at b o goes known up has now =
        let f : Begun LocState = begun_from loc_kind s true (in_step m at b) in
        let d : NodeCell = cell f (in_step m at b) o in
        let dec : LocDecision = loc_decides s (Whole m) in
        ended_is (Known d) c.loc has clock count f (in_step m at b) o
        (begun_is (Known d) c.loc has true (in_step m at b) (makes_by n drawn.first d acts s.lasting.boot m.head m.carried dec now up (draws_of m known) (λ h x is. le_trans (after_next s dec h x is) (end_next f (in_step m at b) o goes))))

    pub restart_sends : (after : Bool) (fall : Fall) (o : Outcome) → FallIs (Known c) (Some fall) → n ≤ next_volume (cell (begun_from loc_kind s after fall) fall o) → LocIs (Known (cell (begun_from loc_kind s after fall) fall o)) s →
        FallIs (Known (cell (begun_from loc_kind s after fall) fall o)) (Some fall) → LocSends (Known (cell (begun_from loc_kind s after fall) fall o)) (end (begun_from loc_kind s after fall) fall o)
    restart_sends after at_rest o known up has now = let d : NodeCell = cell (begun_from loc_kind s after at_rest) at_rest o in ended_is (Known d) c.loc has clock count (begun_from loc_kind s after at_rest) at_rest o has
    restart_sends false (in_step m at b) o known up has now = let d : NodeCell = cell (begun_from loc_kind s false (in_step m at b)) (in_step m at b) o in ended_is (Known d) c.loc has clock count (begun_from loc_kind s false (in_step m at b)) (in_step m at b) o has
    restart_sends true (in_step m at b) comes_up known up has now = after_sends m at b comes_up (λ e. absurd cc) known up has now
    restart_sends true (in_step m at b) fails_early known up has now = record { has = has; sent = tt }
    restart_sends true (in_step m at b) fails_midway known up has now = after_sends m at b fails_midway (λ e. absurd cc) known up has now
    restart_sends true (in_step m at b) is_full known up has now = after_sends m at b is_full (λ e. absurd cc) known up has now
    restart_sends false in_boot o known up has now = let d : NodeCell = cell (begun_from loc_kind s false in_boot) in_boot o in ended_is (Known d) c.loc has clock count (begun_from loc_kind s false in_boot) in_boot o has
    restart_sends true in_boot o known up has now =
        let d : NodeCell = cell (begun_from loc_kind s true in_boot) in_boot o in ended_is (Known d) c.loc has clock count (begun_from loc_kind s true in_boot) in_boot o (begun_is (Known d) c.loc has true in_boot tt)
