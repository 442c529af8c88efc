-- The steps of a client that reads read-only volumes too: what it sends and keeps stays P, where what it makes is.
use Rattle.std.proofs.Common.{ℕ, Bool, true, false, cond, List, [], ◌∷◌, Option, Some, None, refl}
use Rattle.std.specs.Prelude.{◌&&◌, ◌||◌, nat_lt, filter}
use Rattle.std.specs.List.{list_any, AllByRecursion}
use Rattle.spec_history.specs.declared.acts.Act.{Act}
use Rattle.spec_history.specs.declared.lines.Line.{Line}
use Rattle.spec_history.specs.declared.lines.Line.TheVariants as lines
use Rattle.spec_ideal.specs.Operations.{volume_changed}
use Rattle.spec_model.specs.Calls.{is_sent_again, last_timeout}
use Rattle.afs_num.specs.Nodes.{same_node}
use Rattle.afs_num.specs.declared.location_calls.LocEntry.{LocEntry}
use Rattle.afs_num.specs.declared.messages.Carried.{Carried}
use Rattle.afs_num.specs.declared.messages.Carried.TheVariants as carried
use Rattle.afs_num.specs.declared.messages.Message.{Message}
use Rattle.afs_num.specs.declared.messages.Received.TheVariants.{Whole}
use Rattle.afs_num.specs.declared.messages.Reply.TheVariants as tell
use Rattle.afs_num.specs.declared.types.Node.{Node}
use Rattle.spec_rows.specs.ClientRow.{begin_row, call_of, dropped, given_up_in, guest_row, is_awaited, is_busy_code, is_spent, left_in, seek_timeout_row, timeout_line, timeout_row}
use Rattle.spec_rows.specs.Going.{ClientState, Going, Seek}
use Rattle.spec_rows.specs.States.{Seat}
use Rattle.spec_rows.specs.Steps.{Step}
use Rattle.spec_copyrows.specs.CopyRow.{answers_at, answers_in, answers_to, by_release, copy_begin_row, copy_row, copy_seek_row, copy_timeout_row, dies_at, dropping, entry_told, hears_by, is_below_release, is_over, offer_in, offers, renewing, tells_new, times_out, uses, uses_newer, without_older, Offer}
use Rattle.spec_copyrows.specs.Sites.{as_it_is, asked_since, behind_first, calls_round, goes_round, leaves_site, round_of, seen_of, sited, sited_by, sited_in, unasked, with_client, CopyState, Round}
use Rattle.law_walks.specs.Sends.{ClientMakes, SeatsAre}
use Rattle.law_walks.proofs.ClientSends.{begun_sends, guest_sends, missed_sends, waited_sends, Sends}

-- With these kept replies before it. What it keeps behind it stays P where they are.
pub record CopySends (P : Message → Type 0) (seats : List Seat) (s : Step CopyState) : Type 0 where
  pub sent : AllByRecursion P s.sent
  pub seats' : SeatsAre P seats → SeatsAre P s.state.client.seats

module _ (P : Message → Type 0) (me : Node) (makes : ClientMakes P me) where
  either_sends : (t : Bool) (seats : List Seat) (a b : Step CopyState) → CopySends P seats a → CopySends P seats b → CopySends P seats (cond t a b)
  either_sends true seats a b h k = h
  either_sends false seats a b h k = k

  -- ---- its calls go to sites

  still_sends : (c : CopyState) (seats : List Seat) (s : Step ClientState) → Sends P seats s → CopySends P seats (as_it_is c s)
  still_sends c seats s q = record { sent = q.sent; seats' = q.seats' }

  goes_sends : (c : CopyState) (act : Going) (r : Round) (sites : List ℕ) (ls : List Line) → CopySends P c.client.seats (goes_round me c act r sites ls)
  goes_sends c act r [] ls = record { sent = tt; seats' = λ k. k }
  goes_sends c act r (server ∷ others) ls = record { sent = (makes.call _ _ _ refl refl, tt); seats' = λ k. k }

  round_sends : (c : CopyState) (act : Going) (r : Round) (ls : List Line) → CopySends P c.client.seats (calls_round me c act r ls)
  round_sends c act r ls = goes_sends c act r r.sites ls

  sited_in_sends : (c : CopyState) (seats : List Seat) (s : Step ClientState) (act : Going) (o : Option Round) → Sends P seats s → CopySends P seats (sited_in me c s act o)
  sited_in_sends c seats s act None q = still_sends c seats s q
  sited_in_sends c seats s act (Some r) q =
      let round = round_sends (with_client c (unasked c.client s.state)) act r s.lines in
      record { sent = round.sent; seats' = λ k. round.seats' (q.seats' k) }

  sited_by_sends : (c : CopyState) (seats : List Seat) (s : Step ClientState) (o : Option Going) → Sends P seats s → CopySends P seats (sited_by me c s o)
  sited_by_sends c seats s None q = still_sends c seats s q
  sited_by_sends c seats s (Some act) q = sited_in_sends c seats s act (round_of (with_client c s.state) act) q

  sited_sends : (c : CopyState) (seats : List Seat) (s : Step ClientState) → Sends P seats s → CopySends P seats (sited me c s)
  sited_sends c seats s q = sited_by_sends c seats s (asked_since c.client.last s.state) q

  -- ---- an act begins

  pub client_begun : (c : CopyState) (clock : ℕ) (act : Act) → CopySends P c.client.seats (copy_begin_row me c clock act)
  unfolding copy_begin_row
  client_begun c clock act = sited_sends (record c { round = None }) c.client.seats (begin_row me c.client clock act) (begun_sends P me makes c.client clock act)

  -- ---- what a site answers

  module _ (c : CopyState) (clock place : ℕ) (m : Message) (has : SeatsAre P c.client.seats) where
    uses_sends : CopySends P c.client.seats (uses me c clock place m)
    uses_sends = sited_sends c c.client.seats (guest_row me c.client clock place (Whole m)) (guest_sends P me makes c.client clock place m has)

    newer_sends : (id n : ℕ) → CopySends P c.client.seats (uses_newer me c clock place m id n)
    newer_sends id n =
        let q = guest_sends P me makes (without_older c id n).client clock place m has in
        sited_sends (without_older c id n) c.client.seats (dropping me (filter (is_below_release id n) c.client.cache) (guest_row me (without_older c id n).client clock place (Whole m)))
        (record { sent = q.sent; seats' = q.seats' })

    leaves_sends : (act : Going) (r : Round) → CopySends P c.client.seats (leaves_site me c act r (lines.Given place ∷ []))
    leaves_sends act r = round_sends c act (record r { sites = behind_first r.sites }) (lines.Given place ∷ [])

    release_sends : (act : Going) (r : Round) (n : ℕ) → CopySends P c.client.seats (by_release me c clock place m act r n)
    release_sends act r n =
        either_sends (nat_lt n (seen_of c r.volume)) c.client.seats _ _ (leaves_sends act (record r { offered = Some n }))
        (either_sends (nat_lt (seen_of c r.volume) n) c.client.seats _ _ (newer_sends r.volume n) uses_sends)

    offers_sends : (act : Going) (r : Round) (o : Option Offer) → CopySends P c.client.seats (offers me c clock place m act r o)
    offers_sends act r None = uses_sends
    offers_sends act r (Some o) = either_sends (is_spent c.client act || list_any (is_over clock) o.expiries) c.client.seats _ _ (round_sends c act r (lines.Given place ∷ [])) (release_sends act r o.release)

    answer_sends : (act : Going) (r : Round) (x : Carried) → CopySends P c.client.seats (answers_at me c clock place m act r x)
    answer_sends act r (carried.Refusal code) = either_sends (is_busy_code code || is_spent c.client act) c.client.seats _ _ uses_sends (leaves_sends act (record r { refusal = Some code }))
    answer_sends act r (carried.Reply (tell.File reply)) = offers_sends act r (offer_in reply)
    answer_sends act r x = uses_sends

    round_answer_sends : (act : Going) (o : Option Round) → CopySends P c.client.seats (answers_in me c clock place m act o)
    round_answer_sends act None = uses_sends
    round_answer_sends act (Some r) = answer_sends act r m.carried

    running_sends : (o : Option Going) → CopySends P c.client.seats (answers_to me c clock place m o)
    running_sends None = uses_sends
    running_sends (Some act) = either_sends (same_node m.head.to me && is_awaited c.client act m.head) c.client.seats _ _ (round_answer_sends act (round_of c act)) uses_sends

  seeking_sends : (c : CopyState) (clock place : ℕ) (m : Message) (s : Seek) (o : Option LocEntry) → SeatsAre P c.client.seats → CopySends P c.client.seats (uses me (with_client c (renewing c.client s o)) clock place m)
  seeking_sends c clock place m s None has = uses_sends c clock place m has
  seeking_sends c clock place m s (Some e) has = uses_sends (with_client c (renewing c.client s (Some e))) clock place m has

  heard_sends : (c : CopyState) (clock place : ℕ) (m : Message) (o : Option Seek) → SeatsAre P c.client.seats → CopySends P c.client.seats (hears_by me c clock place m o)
  heard_sends c clock place m None has = running_sends c clock place m has c.client.running
  heard_sends c clock place m (Some s) has = either_sends (tells_new me c.client m s) c.client.seats _ _ (seeking_sends c clock place m s (entry_told m.carried) has) (uses_sends c clock place m has)

  pub client_given : (c : CopyState) (clock place : ℕ) (m : Message) → SeatsAre P c.client.seats → CopySends P c.client.seats (copy_row me c clock place (Whole m))
  unfolding copy_row
  client_given c clock place m has = heard_sends c clock place m c.client.seeking has

  -- ---- timeouts

  dies_sends : (c : CopyState) (act : Going) (r : Round) → CopySends P c.client.seats (dies_at me c act r)
  dies_sends c act r =
      round_sends (with_client c (record c.client { cache = left_in (volume_changed (call_of c.client act)) c.client.cache })) act (record r { sites = behind_first r.sites })
      (timeout_line me c.client last_timeout ∷ dropped me (given_up_in (volume_changed (call_of c.client act)) c.client.cache) [])

  timed_sends : (c : CopyState) (act : Going) (o : Option Round) → CopySends P c.client.seats (times_out me c act o)
  timed_sends c act None = still_sends c c.client.seats (timeout_row me c.client act) (waited_sends P me makes c.client act)
  timed_sends c act (Some r) = either_sends (is_sent_again c.client.tries) c.client.seats _ _ (still_sends c c.client.seats (timeout_row me c.client act) (waited_sends P me makes c.client act)) (dies_sends c act r)

  pub client_late : (c : CopyState) (act : Going) → CopySends P c.client.seats (copy_timeout_row me c act)
  unfolding copy_timeout_row
  client_late c act = timed_sends c act (round_of c act)

  pub client_seek_late : (c : CopyState) (k : Seek) → CopySends P c.client.seats (copy_seek_row me c k)
  client_seek_late c k = still_sends c c.client.seats (seek_timeout_row me c.client k) (missed_sends P me makes c.client k)
