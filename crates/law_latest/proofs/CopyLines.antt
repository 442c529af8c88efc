-- The steps of a client that reads read-only volumes too: they tell lines of clients alone.
use Rattle.std.proofs.Common.{◌≡◌, ℕ, Bool, true, false, cond, List, [], ◌∷◌, ◌++◌, Option, Some, None, refl}
use Rattle.std.specs.Prelude.{◌&&◌, ◌||◌, nat_lt, filter}
use Rattle.std.specs.List.{list_any}
use Rattle.spec_history.specs.declared.acts.Act.{Act}
use Rattle.spec_history.specs.declared.lines.Line.{Line}
use Rattle.spec_history.specs.declared.lines.Line.TheVariants as lines
use Rattle.spec_ideal.specs.Operations.{volume_changed}
use Rattle.spec_model.specs.Calls.{is_sent_again, last_timeout}
use Rattle.afs_num.specs.Nodes.{same_node}
use Rattle.afs_num.specs.declared.location_calls.LocEntry.{LocEntry}
use Rattle.afs_num.specs.declared.messages.Carried.{Carried}
use Rattle.afs_num.specs.declared.messages.Carried.TheVariants as carried
use Rattle.afs_num.specs.declared.messages.Message.{Message}
use Rattle.afs_num.specs.declared.messages.Received.TheVariants.{Whole}
use Rattle.afs_num.specs.declared.messages.Reply.TheVariants as tell
use Rattle.afs_num.specs.declared.types.Node.{Node}
use Rattle.spec_rows.specs.ClientRow.{begin_row, call_of, dropped, given_up_in, guest_row, is_awaited, is_busy_code, is_spent, left_in, seek_timeout_row, timeout_line, timeout_row}
use Rattle.spec_rows.specs.Going.{ClientState, Going, Seek}
use Rattle.spec_rows.specs.States.{CacheEntry}
use Rattle.spec_rows.specs.Steps.{Step}
use Rattle.spec_copyrows.specs.CopyRow.{answers_at, answers_in, answers_to, behind_given, by_release, copy_begin_row, copy_row, copy_seek_row, copy_timeout_row, dies_at, dropping, entry_told, hears_by, is_below_release, is_over, offer_in, offers, renewing, tells_new, times_out, uses, uses_newer, without_older, Offer}
use Rattle.spec_copyrows.specs.Sites.{as_it_is, asked_since, behind_first, calls_round, goes_round, leaves_site, round_left, round_of, seen_of, sited, sited_by, sited_in, unasked, with_client, CopyState, Round}
use Rattle.law_latest.proofs.ClientLines.{begun_tells, client_tells, dropped_of_client, guest_tells, missed_tells, waited_tells, AreOfClient, Tells}
use Rattle.law_places.proofs.Turning.{all_lines, all_on}

pub record CopyTells (s : Step CopyState) : Type 0 where
  pub told : AreOfClient s.lines

either_tells : (t : Bool) (a b : Step CopyState) → CopyTells a → CopyTells b → CopyTells (cond t a b)
either_tells true a b h k = h
either_tells false a b h k = k

-- ---- its calls go to sites

still_tells : (c : CopyState) (s : Step ClientState) → Tells s → CopyTells (as_it_is c s)
still_tells c s q = record { told = q.told }

left_of_client : (me : Node) (r : Round) (seen : ℕ) (o : Option ℕ) → client_tells (round_left me r seen o) ≡ true
left_of_client me r seen None = refl
left_of_client me r seen (Some n) = refl

last_of_client : (l : Line) → client_tells l ≡ true → AreOfClient (l ∷ [])
last_of_client l h = rw h refl

goes_tells : (me : Node) (c : CopyState) (act : Going) (r : Round) (sites : List ℕ) (ls : List Line) → AreOfClient ls → CopyTells (goes_round me c act r sites ls)
goes_tells me c act r [] ls h = record { told = all_on client_tells ls (round_left me r (seen_of c r.volume) r.offered ∷ []) h (last_of_client _ (left_of_client me r (seen_of c r.volume) r.offered)) }
goes_tells me c act r (server ∷ others) ls h = record { told = h }

round_tells : (me : Node) (c : CopyState) (act : Going) (r : Round) (ls : List Line) → AreOfClient ls → CopyTells (calls_round me c act r ls)
round_tells me c act r ls h = goes_tells me c act r r.sites ls h

sited_in_tells : (me : Node) (c : CopyState) (s : Step ClientState) (act : Going) (o : Option Round) → Tells s → CopyTells (sited_in me c s act o)
sited_in_tells me c s act None q = still_tells c s q
sited_in_tells me c s act (Some r) q =
    let round = round_tells me (with_client c (unasked c.client s.state)) act r s.lines q.told in
    record { told = round.told }

sited_by_tells : (me : Node) (c : CopyState) (s : Step ClientState) (o : Option Going) → Tells s → CopyTells (sited_by me c s o)
sited_by_tells me c s None q = still_tells c s q
sited_by_tells me c s (Some act) q = sited_in_tells me c s act (round_of (with_client c s.state) act) q

sited_tells : (me : Node) (c : CopyState) (s : Step ClientState) → Tells s → CopyTells (sited me c s)
sited_tells me c s q = sited_by_tells me c s (asked_since c.client.last s.state) q

-- ---- an act begins

pub copy_begun_tells : (me : Node) (c : CopyState) (clock : ℕ) (act : Act) → CopyTells (copy_begin_row me c clock act)
unfolding copy_begin_row
copy_begun_tells me c clock act = sited_tells me (record c { round = None }) (begin_row me c.client clock act) (begun_tells me c.client clock act)

-- ---- what a site answers

behind_by : (b : Bool) (drops ls : List Line) → AreOfClient drops → (b && all_lines client_tells ls) ≡ true → (b && all_lines client_tells (drops ++ ls)) ≡ true
behind_by true drops ls k h = all_on client_tells drops ls k h
behind_by false drops ls k h = absurd cc

module _ (me : Node) (c : CopyState) (clock place : ℕ) (m : Message) where
  uses_tells : CopyTells (uses me c clock place m)
  uses_tells = sited_tells me c (guest_row me c.client clock place (Whole m)) (guest_tells me c.client clock place m)

  behind_of_client : (es : List CacheEntry) (ls : List Line) → AreOfClient ls → AreOfClient (behind_given (dropped me es []) ls)
  behind_of_client es [] h = dropped_of_client me es [] refl
  behind_of_client es (l ∷ ls) h = behind_by (client_tells l) (dropped me es []) ls (dropped_of_client me es [] refl) h

  newer_tells : (id n : ℕ) → CopyTells (uses_newer me c clock place m id n)
  newer_tells id n =
      let q = guest_tells me (without_older c id n).client clock place m in
      sited_tells me (without_older c id n) (dropping me (filter (is_below_release id n) c.client.cache) (guest_row me (without_older c id n).client clock place (Whole m)))
      (record { told = behind_of_client (filter (is_below_release id n) c.client.cache) (guest_row me (without_older c id n).client clock place (Whole m)).lines q.told })

  leaves_tells : (act : Going) (r : Round) → CopyTells (leaves_site me c act r (lines.Given place ∷ []))
  leaves_tells act r = round_tells me c act (record r { sites = behind_first r.sites }) (lines.Given place ∷ []) refl

  release_tells : (act : Going) (r : Round) (n : ℕ) → CopyTells (by_release me c clock place m act r n)
  release_tells act r n =
      either_tells (nat_lt n (seen_of c r.volume)) _ _ (leaves_tells act (record r { offered = Some n }))
      (either_tells (nat_lt (seen_of c r.volume) n) _ _ (newer_tells r.volume n) uses_tells)

  offers_tells : (act : Going) (r : Round) (o : Option Offer) → CopyTells (offers me c clock place m act r o)
  offers_tells act r None = uses_tells
  offers_tells act r (Some o) = either_tells (is_spent c.client act || list_any (is_over clock) o.expiries) _ _ (round_tells me c act r (lines.Given place ∷ []) refl) (release_tells act r o.release)

  answer_tells : (act : Going) (r : Round) (x : Carried) → CopyTells (answers_at me c clock place m act r x)
  answer_tells act r (carried.Refusal code) = either_tells (is_busy_code code || is_spent c.client act) _ _ uses_tells (leaves_tells act (record r { refusal = Some code }))
  answer_tells act r (carried.Reply (tell.File reply)) = offers_tells act r (offer_in reply)
  answer_tells act r x = uses_tells

  round_answer_tells : (act : Going) (o : Option Round) → CopyTells (answers_in me c clock place m act o)
  round_answer_tells act None = uses_tells
  round_answer_tells act (Some r) = answer_tells act r m.carried

  running_tells : (o : Option Going) → CopyTells (answers_to me c clock place m o)
  running_tells None = uses_tells
  running_tells (Some act) = either_tells (same_node m.head.to me && is_awaited c.client act m.head) _ _ (round_answer_tells act (round_of c act)) uses_tells

seeking_tells : (me : Node) (c : CopyState) (clock place : ℕ) (m : Message) (s : Seek) (o : Option LocEntry) → CopyTells (uses me (with_client c (renewing c.client s o)) clock place m)
seeking_tells me c clock place m s None = uses_tells me c clock place m
seeking_tells me c clock place m s (Some e) = uses_tells me (with_client c (renewing c.client s (Some e))) clock place m

heard_tells : (me : Node) (c : CopyState) (clock place : ℕ) (m : Message) (o : Option Seek) → CopyTells (hears_by me c clock place m o)
heard_tells me c clock place m None = running_tells me c clock place m c.client.running
heard_tells me c clock place m (Some s) = either_tells (tells_new me c.client m s) _ _ (seeking_tells me c clock place m s (entry_told m.carried)) (uses_tells me c clock place m)

pub copy_tells : (me : Node) (c : CopyState) (clock place : ℕ) (m : Message) → CopyTells (copy_row me c clock place (Whole m))
unfolding copy_row
copy_tells me c clock place m = heard_tells me c clock place m c.client.seeking

-- ---- timeouts

dies_tells : (me : Node) (c : CopyState) (act : Going) (r : Round) → CopyTells (dies_at me c act r)
dies_tells me c act r =
    round_tells me (with_client c (record c.client { cache = left_in (volume_changed (call_of c.client act)) c.client.cache })) act (record r { sites = behind_first r.sites })
    (timeout_line me c.client last_timeout ∷ dropped me (given_up_in (volume_changed (call_of c.client act)) c.client.cache) [])
    (dropped_of_client me (given_up_in (volume_changed (call_of c.client act)) c.client.cache) [] refl)

timed_tells : (me : Node) (c : CopyState) (act : Going) (o : Option Round) → CopyTells (times_out me c act o)
timed_tells me c act None = still_tells c (timeout_row me c.client act) (waited_tells me c.client act)
timed_tells me c act (Some r) = either_tells (is_sent_again c.client.tries) _ _ (still_tells c (timeout_row me c.client act) (waited_tells me c.client act)) (dies_tells me c act r)

pub copy_waited_tells : (me : Node) (c : CopyState) (act : Going) → CopyTells (copy_timeout_row me c act)
unfolding copy_timeout_row
copy_waited_tells me c act = timed_tells me c act (round_of c act)

pub copy_missed_tells : (me : Node) (c : CopyState) (k : Seek) → CopyTells (copy_seek_row me c k)
copy_missed_tells me c k = still_tells c (seek_timeout_row me c.client k) (missed_tells me c.client k)
