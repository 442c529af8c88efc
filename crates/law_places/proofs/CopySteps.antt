-- The steps of a client that reads read-only volumes too: they tell nothing of which servers accept stores.
use Rattle.std.proofs.Common.{◌≡◌, ℕ, Bool, true, false, cond, not, List, [], ◌∷◌, ◌++◌, Option, Some, None, refl}
use Rattle.std.specs.Prelude.{◌&&◌, ◌||◌, nat_lt, filter}
use Rattle.std.specs.List.{list_any}
use Rattle.spec_history.specs.declared.acts.Act.{Act}
use Rattle.spec_history.specs.declared.lines.Line.{Line}
use Rattle.spec_history.specs.declared.lines.Line.TheVariants as lines
use Rattle.spec_ideal.specs.Operations.{volume_changed}
use Rattle.spec_model.specs.Calls.{is_sent_again, last_timeout}
use Rattle.afs_num.specs.Nodes.{same_node}
use Rattle.afs_num.specs.declared.location_calls.LocEntry.{LocEntry}
use Rattle.afs_num.specs.declared.messages.Carried.{Carried}
use Rattle.afs_num.specs.declared.messages.Carried.TheVariants as carried
use Rattle.afs_num.specs.declared.messages.Message.{Message}
use Rattle.afs_num.specs.declared.messages.Received.TheVariants.{Whole}
use Rattle.afs_num.specs.declared.messages.Reply.TheVariants as tell
use Rattle.afs_num.specs.declared.types.Code.{Code}
use Rattle.afs_num.specs.declared.types.Node.{Node}
use Rattle.spec_rows.specs.ClientRow.{begin_row, call_of, dropped, given_up_in, guest_row, is_awaited, is_busy_code, is_spent, left_in, seek_timeout_row, timeout_line, timeout_row}
use Rattle.spec_rows.specs.Going.{ClientState, Going, Seek}
use Rattle.spec_rows.specs.States.{CacheEntry, Seat}
use Rattle.spec_rows.specs.Steps.{Step}
use Rattle.spec_copyrows.specs.CopyRow.{answers_at, answers_in, answers_to, behind_given, by_release, copy_begin_row, copy_row, copy_seek_row, copy_timeout_row, dies_at, dropping, entry_told, hears_by, is_below_release, is_over, offer_in, offers, refuses_at, renewing, tells_new, times_out, uses, uses_newer, without_older, Offer}
use Rattle.spec_copyrows.specs.Sites.{as_it_is, asked_since, behind_first, calls_round, goes_round, leaves_site, round_left, round_of, seen_of, sited, sited_by, sited_in, unasked, with_client, CopyState, Round}
use Rattle.law_places.proofs.ClientSteps.{begun_quiet, dropped_still, guest_quiet, missed_quiet, waited_quiet, Quiet}
use Rattle.law_places.proofs.Copies.{AllCopies, SeatsCopy}
use Rattle.law_places.proofs.Turning.{all_lines, all_on, is_still, AreStill}

-- With these kept replies before it. What it keeps behind it stays as it was in this.
pub record CopyQuiet (seats : List Seat) (s : Step CopyState) : Type 0 where
  pub told : AreStill s.lines
  pub sent : AllCopies s.sent
  pub seats' : SeatsCopy seats → SeatsCopy s.state.client.seats

either_quiet : (t : Bool) (seats : List Seat) (a b : Step CopyState) → CopyQuiet seats a → CopyQuiet seats b → CopyQuiet seats (cond t a b)
either_quiet true seats a b h k = h
either_quiet false seats a b h k = k

-- ---- its calls go to sites

still_quiet : (c : CopyState) (seats : List Seat) (s : Step ClientState) → Quiet seats s → CopyQuiet seats (as_it_is c s)
still_quiet c seats s q = record { told = q.told; sent = q.sent; seats' = q.seats' }

left_still : (me : Node) (r : Round) (seen : ℕ) (o : Option ℕ) → is_still (round_left me r seen o) ≡ true
left_still me r seen None = refl
left_still me r seen (Some n) = refl

last_still : (l : Line) → is_still l ≡ true → AreStill (l ∷ [])
last_still l h = rw h refl

goes_quiet : (me : Node) (c : CopyState) (act : Going) (r : Round) (sites : List ℕ) (ls : List Line) → AreStill ls → CopyQuiet c.client.seats (goes_round me c act r sites ls)
goes_quiet me c act r [] ls h = record { told = all_on is_still ls (round_left me r (seen_of c r.volume) r.offered ∷ []) h (last_still _ (left_still me r (seen_of c r.volume) r.offered)); sent = tt; seats' = λ k. k }
goes_quiet me c act r (server ∷ others) ls h = record { told = h; sent = (tt, tt); seats' = λ k. k }

round_quiet : (me : Node) (c : CopyState) (act : Going) (r : Round) (ls : List Line) → AreStill ls → CopyQuiet c.client.seats (calls_round me c act r ls)
round_quiet me c act r ls h = goes_quiet me c act r r.sites ls h

sited_in_quiet : (me : Node) (c : CopyState) (seats : List Seat) (s : Step ClientState) (act : Going) (o : Option Round) → Quiet seats s → CopyQuiet seats (sited_in me c s act o)
sited_in_quiet me c seats s act None q = still_quiet c seats s q
sited_in_quiet me c seats s act (Some r) q =
    let round = round_quiet me (with_client c (unasked c.client s.state)) act r s.lines q.told in
    record { told = round.told; sent = round.sent; seats' = λ k. round.seats' (q.seats' k) }

sited_by_quiet : (me : Node) (c : CopyState) (seats : List Seat) (s : Step ClientState) (o : Option Going) → Quiet seats s → CopyQuiet seats (sited_by me c s o)
sited_by_quiet me c seats s None q = still_quiet c seats s q
sited_by_quiet me c seats s (Some act) q = sited_in_quiet me c seats s act (round_of (with_client c s.state) act) q

sited_quiet : (me : Node) (c : CopyState) (seats : List Seat) (s : Step ClientState) → Quiet seats s → CopyQuiet seats (sited me c s)
sited_quiet me c seats s q = sited_by_quiet me c seats s (asked_since c.client.last s.state) q

-- ---- an act begins

pub copy_begun_quiet : (me : Node) (c : CopyState) (clock : ℕ) (act : Act) → CopyQuiet c.client.seats (copy_begin_row me c clock act)
unfolding copy_begin_row
copy_begun_quiet me c clock act = sited_quiet me (record c { round = None }) c.client.seats (begin_row me c.client clock act) (begun_quiet me c.client clock act)

-- ---- what a site answers

behind_by : (b : Bool) (drops ls : List Line) → AreStill drops → (b && all_lines is_still ls) ≡ true → (b && all_lines is_still (drops ++ ls)) ≡ true
behind_by true drops ls k h = all_on is_still drops ls k h
behind_by false drops ls k h = absurd cc

module _ (me : Node) (c : CopyState) (clock place : ℕ) (m : Message) (copies : SeatsCopy c.client.seats) where
  uses_quiet : CopyQuiet c.client.seats (uses me c clock place m)
  uses_quiet = sited_quiet me c c.client.seats (guest_row me c.client clock place (Whole m)) (guest_quiet me c.client clock place m copies)

  behind_still : (es : List CacheEntry) (ls : List Line) → AreStill ls → AreStill (behind_given (dropped me es []) ls)
  behind_still es [] h = dropped_still me es [] refl
  behind_still es (l ∷ ls) h = behind_by (is_still l) (dropped me es []) ls (dropped_still me es [] refl) h

  newer_quiet : (id n : ℕ) → CopyQuiet c.client.seats (uses_newer me c clock place m id n)
  newer_quiet id n =
      let q = guest_quiet me (without_older c id n).client clock place m copies in
      sited_quiet me (without_older c id n) c.client.seats (dropping me (filter (is_below_release id n) c.client.cache) (guest_row me (without_older c id n).client clock place (Whole m)))
      (record { told = behind_still (filter (is_below_release id n) c.client.cache) (guest_row me (without_older c id n).client clock place (Whole m)).lines q.told; sent = q.sent; seats' = q.seats' })

  leaves_quiet : (act : Going) (r : Round) → CopyQuiet c.client.seats (leaves_site me c act r (lines.Given place ∷ []))
  leaves_quiet act r = round_quiet me c act (record r { sites = behind_first r.sites }) (lines.Given place ∷ []) refl

  release_quiet : (act : Going) (r : Round) (n : ℕ) → CopyQuiet c.client.seats (by_release me c clock place m act r n)
  release_quiet act r n =
      either_quiet (nat_lt n (seen_of c r.volume)) c.client.seats _ _ (leaves_quiet act (record r { offered = Some n }))
      (either_quiet (nat_lt (seen_of c r.volume) n) c.client.seats _ _ (newer_quiet r.volume n) uses_quiet)

  offers_quiet : (act : Going) (r : Round) (o : Option Offer) → CopyQuiet c.client.seats (offers me c clock place m act r o)
  offers_quiet act r None = uses_quiet
  offers_quiet act r (Some o) = either_quiet (is_spent c.client act || list_any (is_over clock) o.expiries) c.client.seats _ _ (round_quiet me c act r (lines.Given place ∷ []) refl) (release_quiet act r o.release)

  answer_quiet : (act : Going) (r : Round) (x : Carried) → CopyQuiet c.client.seats (answers_at me c clock place m act r x)
  answer_quiet act r (carried.Refusal code) = either_quiet (is_busy_code code || is_spent c.client act) c.client.seats _ _ uses_quiet (leaves_quiet act (record r { refusal = Some code }))
  answer_quiet act r (carried.Reply (tell.File reply)) = offers_quiet act r (offer_in reply)
  answer_quiet act r x = uses_quiet

  round_answer_quiet : (act : Going) (o : Option Round) → CopyQuiet c.client.seats (answers_in me c clock place m act o)
  round_answer_quiet act None = uses_quiet
  round_answer_quiet act (Some r) = answer_quiet act r m.carried

  running_quiet : (o : Option Going) → CopyQuiet c.client.seats (answers_to me c clock place m o)
  running_quiet None = uses_quiet
  running_quiet (Some act) = either_quiet (same_node m.head.to me && is_awaited c.client act m.head) c.client.seats _ _ (round_answer_quiet act (round_of c act)) uses_quiet

seeking_quiet : (me : Node) (c : CopyState) (clock place : ℕ) (m : Message) (s : Seek) (o : Option LocEntry) → SeatsCopy c.client.seats → CopyQuiet c.client.seats (uses me (with_client c (renewing c.client s o)) clock place m)
seeking_quiet me c clock place m s None copies = uses_quiet me c clock place m copies
seeking_quiet me c clock place m s (Some e) copies = uses_quiet me (with_client c (renewing c.client s (Some e))) clock place m copies

heard_quiet : (me : Node) (c : CopyState) (clock place : ℕ) (m : Message) (o : Option Seek) → SeatsCopy c.client.seats → CopyQuiet c.client.seats (hears_by me c clock place m o)
heard_quiet me c clock place m None copies = running_quiet me c clock place m copies c.client.running
heard_quiet me c clock place m (Some s) copies = either_quiet (tells_new me c.client m s) c.client.seats _ _ (seeking_quiet me c clock place m s (entry_told m.carried) copies) (uses_quiet me c clock place m copies)

pub copy_quiet : (me : Node) (c : CopyState) (clock place : ℕ) (m : Message) → SeatsCopy c.client.seats → CopyQuiet c.client.seats (copy_row me c clock place (Whole m))
unfolding copy_row
copy_quiet me c clock place m copies = heard_quiet me c clock place m c.client.seeking copies

-- ---- timeouts

dies_quiet : (me : Node) (c : CopyState) (act : Going) (r : Round) → CopyQuiet c.client.seats (dies_at me c act r)
dies_quiet me c act r =
    round_quiet me (with_client c (record c.client { cache = left_in (volume_changed (call_of c.client act)) c.client.cache })) act (record r { sites = behind_first r.sites })
    (timeout_line me c.client last_timeout ∷ dropped me (given_up_in (volume_changed (call_of c.client act)) c.client.cache) [])
    (dropped_still me (given_up_in (volume_changed (call_of c.client act)) c.client.cache) [] refl)

timed_quiet : (me : Node) (c : CopyState) (act : Going) (o : Option Round) → CopyQuiet c.client.seats (times_out me c act o)
timed_quiet me c act None = still_quiet c c.client.seats (timeout_row me c.client act) (waited_quiet me c.client act)
timed_quiet me c act (Some r) = either_quiet (is_sent_again c.client.tries) c.client.seats _ _ (still_quiet c c.client.seats (timeout_row me c.client act) (waited_quiet me c.client act)) (dies_quiet me c act r)

pub copy_waited_quiet : (me : Node) (c : CopyState) (act : Going) → CopyQuiet c.client.seats (copy_timeout_row me c act)
unfolding copy_timeout_row
copy_waited_quiet me c act = timed_quiet me c act (round_of c act)

pub copy_missed_quiet : (me : Node) (c : CopyState) (k : Seek) → CopyQuiet c.client.seats (copy_seek_row me c k)
copy_missed_quiet me c k = still_quiet c c.client.seats (seek_timeout_row me c.client k) (missed_quiet me c.client k)
