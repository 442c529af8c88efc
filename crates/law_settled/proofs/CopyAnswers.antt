-- The steps of a client that reads read-only volumes too: what it tells those that call it.
use Rattle.std.proofs.Common.{ℕ, inl, inr, ◌++◌, Bool, true, false, cond, List, [], ◌∷◌, Option, Some, None, refl}
use Rattle.std.specs.Prelude.{◌&&◌, ◌||◌, nat_lt, filter}
use Rattle.std.specs.List.{list_any, AllByRecursion}
use Rattle.spec_history.specs.declared.acts.Act.{Act}
use Rattle.spec_history.specs.declared.lines.Line.{Line}
use Rattle.spec_history.specs.declared.lines.Line.TheVariants as lines
use Rattle.spec_ideal.specs.Operations.{volume_changed}
use Rattle.spec_model.specs.Calls.{is_sent_again, last_timeout}
use Rattle.afs_num.specs.Nodes.{same_node}
use Rattle.afs_num.specs.declared.location_calls.LocEntry.{LocEntry}
use Rattle.afs_num.specs.declared.messages.Carried.{Carried}
use Rattle.afs_num.specs.declared.messages.Carried.TheVariants as carried
use Rattle.afs_num.specs.declared.messages.Message.{Message}
use Rattle.afs_num.specs.declared.messages.Received.TheVariants.{Whole}
use Rattle.afs_num.specs.declared.messages.Reply.TheVariants as tell
use Rattle.afs_num.specs.declared.types.Node.{Node}
use Rattle.spec_rows.specs.ClientRow.{begin_row, call_of, dropped, given_up_in, guest_row, is_awaited, is_busy_code, is_spent, left_in, seek_timeout_row, timeout_line, timeout_row}
use Rattle.spec_rows.specs.Going.{ClientState, Going, Seek}
use Rattle.spec_rows.specs.States.{Seat}
use Rattle.spec_rows.specs.Steps.{Step}
use Rattle.spec_copyrows.specs.CopyRow.{answers_at, answers_in, answers_to, behind_given, by_release, copy_begin_row, copy_row, copy_seek_row, copy_timeout_row, dies_at, dropping, entry_told, hears_by, is_below_release, is_over, offer_in, offers, renewing, tells_new, times_out, uses, uses_newer, without_older, Offer}
use Rattle.spec_copyrows.specs.Sites.{as_it_is, asked_since, behind_first, calls_round, goes_round, leaves_site, round_of, seen_of, sited, sited_by, sited_in, unasked, with_client, CopyState, Round}
use Rattle.law_legal.specs.Breaks.{HasDrop}
use Rattle.law_walks.specs.Sends.{SeatsAre}
use Rattle.law_settled.proofs.ClientAnswers.{asks_answers, begun_asks, guest_answers, missed_asks, waited_asks, Answers, DropsIn, IsTold, Makes}

-- T holds of each code that it tells; and of what it keeps for callers, if it held before
pub record CopyAnswers (T : Message → Type 0) (seats : List Seat) (s : Step CopyState) : Type 0 where
  pub sent : AllByRecursion (IsTold T) s.sent
  pub kept : SeatsAre T seats → SeatsAre T s.state.client.seats

-- ---- no drop is lost where its calls go to sites

step_drops : (l : Line) (ls more : List Line) → DropsIn ls more → DropsIn (l ∷ ls) (l ∷ more)
step_drops (lines.Drop m g) ls more h s c what (inl x) = inl x
step_drops (lines.Drop m g) ls more h s c what (inr x) = inr (h s c what x)
step_drops (lines.DropAll m q) ls more h s c what (inl x) = inl x
step_drops (lines.DropAll m q) ls more h s c what (inr x) = inr (h s c what x)
step_drops l ls more h s c what x = h s c what x

more_drops : (l : Line) (ls : List Line) → DropsIn ls (l ∷ ls)
more_drops (lines.Drop m g) ls s c what x = inr x
more_drops (lines.DropAll m q) ls s c what x = inr x
more_drops l ls s c what x = x

pub front_drops : (ls more : List Line) → DropsIn ls (ls ++ more)
front_drops [] more s c what x = absurd x
front_drops (l ∷ ls) more s c what x = step_drops l ls (ls ++ more) (front_drops ls more) s c what x

pub last_drops : (front ls : List Line) → DropsIn ls (front ++ ls)
last_drops [] ls s c what x = x
last_drops (l ∷ front) ls s c what x = more_drops l (front ++ ls) s c what (last_drops front ls s c what x)

behind_drops : (drops ls : List Line) → DropsIn ls (behind_given drops ls)
behind_drops drops [] s c what x = absurd x
behind_drops drops (l ∷ ls) s c what x = step_drops l ls (drops ++ ls) (last_drops drops ls) s c what x

goes_drops : (me : Node) (c : CopyState) (act : Going) (r : Round) (sites : List ℕ) (ls : List Line) → DropsIn ls (goes_round me c act r sites ls).lines
goes_drops me c act r [] ls s d what x = front_drops ls _ s d what x
goes_drops me c act r (server ∷ others) ls s d what x = x

sited_in_drops : (me : Node) (c : CopyState) (s : Step ClientState) (act : Going) (o : Option Round) → DropsIn s.lines (sited_in me c s act o).lines
sited_in_drops me c s act None q d what x = x
sited_in_drops me c s act (Some r) q d what x = goes_drops me (with_client c (unasked c.client s.state)) act r r.sites s.lines q d what x

sited_by_drops : (me : Node) (c : CopyState) (s : Step ClientState) (o : Option Going) → DropsIn s.lines (sited_by me c s o).lines
sited_by_drops me c s None q d what x = x
sited_by_drops me c s (Some act) q d what x = sited_in_drops me c s act (round_of (with_client c s.state) act) q d what x

sited_drops : (me : Node) (c : CopyState) (s : Step ClientState) → DropsIn s.lines (sited me c s).lines
sited_drops me c s = sited_by_drops me c s (asked_since c.client.last s.state)

module _ (T : Message → Type 0) (me : Node) where
  either_answers : (t : Bool) (seats : List Seat) (a b : Step CopyState) → CopyAnswers T seats a → CopyAnswers T seats b → CopyAnswers T seats (cond t a b)
  either_answers true seats a b h k = h
  either_answers false seats a b h k = k

  -- ---- its calls go to sites

  still_answers : (c : CopyState) (seats : List Seat) (s : Step ClientState) → Answers T seats s → CopyAnswers T seats (as_it_is c s)
  still_answers c seats s q = record { sent = q.sent; kept = q.kept }

  goes_answers : (c : CopyState) (act : Going) (r : Round) (sites : List ℕ) (ls : List Line) → CopyAnswers T c.client.seats (goes_round me c act r sites ls)
  goes_answers c act r [] ls = record { sent = tt; kept = λ k. k }
  goes_answers c act r (server ∷ others) ls = record { sent = ((λ code. absurd code), tt); kept = λ k. k }

  round_answers : (c : CopyState) (act : Going) (r : Round) (ls : List Line) → CopyAnswers T c.client.seats (calls_round me c act r ls)
  round_answers c act r ls = goes_answers c act r r.sites ls

  sited_in_answers : (c : CopyState) (seats : List Seat) (s : Step ClientState) (act : Going) (o : Option Round) → Answers T seats s → CopyAnswers T seats (sited_in me c s act o)
  sited_in_answers c seats s act None q = still_answers c seats s q
  sited_in_answers c seats s act (Some r) q =
      let round = round_answers (with_client c (unasked c.client s.state)) act r s.lines in
      record { sent = round.sent; kept = λ k. round.kept (q.kept k) }

  sited_by_answers : (c : CopyState) (seats : List Seat) (s : Step ClientState) (o : Option Going) → Answers T seats s → CopyAnswers T seats (sited_by me c s o)
  sited_by_answers c seats s None q = still_answers c seats s q
  sited_by_answers c seats s (Some act) q = sited_in_answers c seats s act (round_of (with_client c s.state) act) q

  sited_answers : (c : CopyState) (seats : List Seat) (s : Step ClientState) → Answers T seats s → CopyAnswers T seats (sited me c s)
  sited_answers c seats s q = sited_by_answers c seats s (asked_since c.client.last s.state) q

  -- ---- an act begins

  pub client_begun : (c : CopyState) (clock : ℕ) (act : Act) → CopyAnswers T c.client.seats (copy_begin_row me c clock act)
  unfolding copy_begin_row
  client_begun c clock act = sited_answers (record c { round = None }) c.client.seats (begin_row me c.client clock act) (asks_answers T c.client.seats (begin_row me c.client clock act) (begun_asks me c.client clock act))

  -- ---- what a site answers

  module _ (m : Message) (told : List Line) (makes : Makes T me m told) where
    chosen : (t : Bool) (seats : List Seat) (a b : Step CopyState) → (DropsIn a.lines told → CopyAnswers T seats a) → (DropsIn b.lines told → CopyAnswers T seats b) → DropsIn (cond t a b).lines told → CopyAnswers T seats (cond t a b)
    chosen true seats a b h k has = h has
    chosen false seats a b h k has = k has

    module _ (c : CopyState) (clock place : ℕ) (old : SeatsAre T c.client.seats) where
      uses_answers : DropsIn (uses me c clock place m).lines told → CopyAnswers T c.client.seats (uses me c clock place m)
      uses_answers has =
          let s : Step ClientState = guest_row me c.client clock place (Whole m) in
          sited_answers c c.client.seats s (guest_answers T me m told makes c.client clock place old (λ q d what x. has q d what (sited_drops me c s q d what x)))

      newer_answers : (id n : ℕ) → DropsIn (uses_newer me c clock place m id n).lines told → CopyAnswers T c.client.seats (uses_newer me c clock place m id n)
      newer_answers id n has =
          let s : Step ClientState = guest_row me (without_older c id n).client clock place (Whole m) in
          let over : Step ClientState = dropping me (filter (is_below_release id n) c.client.cache) s in
          let q = guest_answers T me m told makes (without_older c id n).client clock place old
          (λ q d what x. has q d what (sited_drops me (without_older c id n) over q d what (behind_drops (dropped me (filter (is_below_release id n) c.client.cache) []) s.lines q d what x))) in
          sited_answers (without_older c id n) c.client.seats over (record { sent = q.sent; kept = q.kept })

      leaves_answers : (act : Going) (r : Round) → CopyAnswers T c.client.seats (leaves_site me c act r (lines.Given place ∷ []))
      leaves_answers act r = round_answers c act (record r { sites = behind_first r.sites }) (lines.Given place ∷ [])

      release_answers : (act : Going) (r : Round) (n : ℕ) → DropsIn (by_release me c clock place m act r n).lines told → CopyAnswers T c.client.seats (by_release me c clock place m act r n)
      release_answers act r n has =
          chosen (nat_lt n (seen_of c r.volume)) c.client.seats _ _ (λ x. leaves_answers act (record r { offered = Some n }))
          (λ x. chosen (nat_lt (seen_of c r.volume) n) c.client.seats _ _ (newer_answers r.volume n) uses_answers x) has

      offers_answers : (act : Going) (r : Round) (o : Option Offer) → DropsIn (offers me c clock place m act r o).lines told → CopyAnswers T c.client.seats (offers me c clock place m act r o)
      offers_answers act r None has = uses_answers has
      offers_answers act r (Some o) has = chosen (is_spent c.client act || list_any (is_over clock) o.expiries) c.client.seats _ _ (λ x. round_answers c act r (lines.Given place ∷ [])) (release_answers act r o.release) has

      site_answers : (act : Going) (r : Round) (x : Carried) → DropsIn (answers_at me c clock place m act r x).lines told → CopyAnswers T c.client.seats (answers_at me c clock place m act r x)
      site_answers act r (carried.Refusal code) has = chosen (is_busy_code code || is_spent c.client act) c.client.seats _ _ uses_answers (λ x. leaves_answers act (record r { refusal = Some code })) has
      site_answers act r (carried.Reply (tell.File reply)) has = offers_answers act r (offer_in reply) has
      site_answers act r x has = uses_answers has

      any_round : (act : Going) (o : Option Round) → DropsIn (answers_in me c clock place m act o).lines told → CopyAnswers T c.client.seats (answers_in me c clock place m act o)
      any_round act None has = uses_answers has
      any_round act (Some r) has = site_answers act r m.carried has

      running_answers : (o : Option Going) → DropsIn (answers_to me c clock place m o).lines told → CopyAnswers T c.client.seats (answers_to me c clock place m o)
      running_answers None has = uses_answers has
      running_answers (Some act) has = chosen (same_node m.head.to me && is_awaited c.client act m.head) c.client.seats _ _ (any_round act (round_of c act)) uses_answers has

    seeking_answers : (c : CopyState) (clock place : ℕ) (s : Seek) (o : Option LocEntry) → SeatsAre T c.client.seats → DropsIn (uses me (with_client c (renewing c.client s o)) clock place m).lines told → CopyAnswers T c.client.seats (uses me (with_client c (renewing c.client s o)) clock place m)
    seeking_answers c clock place s None old has = uses_answers c clock place old has
    seeking_answers c clock place s (Some e) old has = uses_answers (with_client c (renewing c.client s (Some e))) clock place old has

    heard_answers : (c : CopyState) (clock place : ℕ) (o : Option Seek) → SeatsAre T c.client.seats → DropsIn (hears_by me c clock place m o).lines told → CopyAnswers T c.client.seats (hears_by me c clock place m o)
    heard_answers c clock place None old has = running_answers c clock place old c.client.running has
    heard_answers c clock place (Some s) old has = chosen (tells_new me c.client m s) c.client.seats _ _ (seeking_answers c clock place s (entry_told m.carried) old) (uses_answers c clock place old) has

    pub client_given : (c : CopyState) (clock place : ℕ) → SeatsAre T c.client.seats → DropsIn (copy_row me c clock place (Whole m)).lines told → CopyAnswers T c.client.seats (copy_row me c clock place (Whole m))
    unfolding copy_row
    client_given c clock place old has = heard_answers c clock place c.client.seeking old has

  -- ---- timeouts

  dies_answers : (c : CopyState) (act : Going) (r : Round) → CopyAnswers T c.client.seats (dies_at me c act r)
  dies_answers c act r =
      round_answers (with_client c (record c.client { cache = left_in (volume_changed (call_of c.client act)) c.client.cache })) act (record r { sites = behind_first r.sites })
      (timeout_line me c.client last_timeout ∷ dropped me (given_up_in (volume_changed (call_of c.client act)) c.client.cache) [])

  timed_answers : (c : CopyState) (act : Going) (o : Option Round) → CopyAnswers T c.client.seats (times_out me c act o)
  timed_answers c act None = still_answers c c.client.seats (timeout_row me c.client act) (asks_answers T c.client.seats (timeout_row me c.client act) (waited_asks me c.client act))
  timed_answers c act (Some r) = either_answers (is_sent_again c.client.tries) c.client.seats _ _ (still_answers c c.client.seats (timeout_row me c.client act) (asks_answers T c.client.seats (timeout_row me c.client act) (waited_asks me c.client act))) (dies_answers c act r)

  pub client_late : (c : CopyState) (act : Going) → CopyAnswers T c.client.seats (copy_timeout_row me c act)
  unfolding copy_timeout_row
  client_late c act = timed_answers c act (round_of c act)

  pub client_seek_late : (c : CopyState) (k : Seek) → CopyAnswers T c.client.seats (copy_seek_row me c k)
  client_seek_late c k = still_answers c c.client.seats (seek_timeout_row me c.client k) (asks_answers T c.client.seats (seek_timeout_row me c.client k) (missed_asks me c.client k))
