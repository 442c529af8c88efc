-- The same of a client that reads read-only volumes too, whose calls in those go to their sites.
use Rattle.std.proofs.Common.{◌≡◌, ℕ, inl, inr, Bool, true, false, cond, List, [], ◌∷◌, Option, Some, None, refl, sym, ap, subst, ◌∙◌, arith}
use Rattle.std.specs.Prelude.{◌&&◌, ◌||◌, nat_lt, filter}
use Rattle.std.specs.List.{list_any, AllByRecursion}
use Rattle.spec_history.specs.declared.acts.Act.{Act}
use Rattle.spec_history.specs.declared.lines.Line.{Line}
use Rattle.spec_history.specs.declared.lines.Line.TheVariants as lines
use Rattle.spec_ideal.specs.Operations.{volume_changed}
use Rattle.spec_model.specs.Calls.{is_sent_again, last_timeout}
use Rattle.afs_num.specs.Nodes.{same_node}
use Rattle.afs_num.specs.declared.location_calls.LocEntry.{LocEntry}
use Rattle.afs_num.specs.declared.messages.Carried.{Carried}
use Rattle.afs_num.specs.declared.messages.Carried.TheVariants as carried
use Rattle.afs_num.specs.declared.messages.Message.{Message}
use Rattle.afs_num.specs.declared.messages.Received.TheVariants.{Whole}
use Rattle.afs_num.specs.declared.messages.Reply.TheVariants as tell
use Rattle.afs_num.specs.declared.types.Node.{Node}
use Rattle.spec_rows.specs.ClientRow.{begin_row, call_of, dropped, given_up_in, guest_row, is_awaited, is_busy_code, is_spent, left_in, seek_timeout_row, timeout_line, timeout_row}
use Rattle.spec_rows.specs.Going.{ClientState, Going, Seek}
use Rattle.spec_rows.specs.States.{Seat}
use Rattle.spec_rows.specs.Steps.{Step}
use Rattle.spec_copyrows.specs.CopyRow.{answers_at, answers_in, answers_to, by_release, copy_begin_row, copy_row, copy_seek_row, copy_timeout_row, dies_at, dropping, entry_told, hears_by, is_below_release, is_over, offer_in, offers, renewing, tells_new, times_out, uses, uses_newer, without_older, Offer}
use Rattle.spec_copyrows.specs.Sites.{as_it_is, asked_since, asking_at, behind_first, calls_round, goes_round, leaves_site, round_of, seen_of, sited, sited_by, sited_in, unasked, with_client, CopyState, Round}
use Rattle.law_walks.specs.Sends.{SeatsAre}
use Rattle.law_legal.proofs.BaseLaws.{Below}
use Rattle.law_once.proofs.ClientAsks.{begun_asks, guest_asks, missed_asks, waited_asks}
use Rattle.law_once.proofs.Pending.{now_call, pending, seek_ask, From, GoesOn, NoCall, Pending, SaysNow}

-- a step of such a client, from what waited, with these kept replies before it
pub record AsksCopy (me : Node) (p : Pending) (seats : List Seat) (b : ClientState) (ms : List Message) : Type 0 where
  pub goes : GoesOn p (pending b)
  pub sent : AllByRecursion (SaysNow me (pending b)) ms
  pub seats' : SeatsAre NoCall seats → SeatsAre NoCall b.seats

abbrev pub FromCopy : Node → CopyState → Step CopyState → Type 0
FromCopy me c s = AsksCopy me (pending c.client) c.client.seats s.state.client s.sent

module _ (me : Node) where
  either_asks : (t : Bool) (c : CopyState) (a b : Step CopyState) → FromCopy me c a → FromCopy me c b → FromCopy me c (cond t a b)
  either_asks true c a b h k = h
  either_asks false c a b h k = k

  -- ---- its calls go to sites

  still_asks : (a c : CopyState) (s : Step ClientState) → From me a.client s → FromCopy me a (as_it_is c s)
  still_asks a c s q = record { goes = q.goes; sent = q.sent; seats' = q.seats' }

  -- whatever waited in it, where it has the pair of the other
  goes_asks : (a c : CopyState) (act : Going) (r : Round) (sites : List ℕ) (ls : List Line) → c.client.epoch ≡ a.client.epoch → c.client.last ≡ a.client.last → (SeatsAre NoCall a.client.seats → SeatsAre NoCall c.client.seats) → FromCopy me a (goes_round me c act r sites ls)
  goes_asks a c act r [] ls epoch last kept = record {
    goes = inr (record { epoch = epoch; last = last; file = λ x h. absurd cc; seek = λ x h. absurd cc });
    sent = tt;
    seats' = kept;
  }
  goes_asks a c act r (server ∷ others) ls epoch last kept = record {
    goes = inl (inr (sym epoch, omega arith), inr refl);
    sent = (λ call. now_call me (asking_at c.client act server) act refl, tt);
    seats' = kept;
  }

  round_asks : (c : CopyState) (act : Going) (r : Round) (ls : List Line) → FromCopy me c (calls_round me c act r ls)
  round_asks c act r ls = goes_asks c c act r r.sites ls refl refl (λ k. k)

  sited_in_asks : (a c : CopyState) (s : Step ClientState) (act : Going) (o : Option Round) → c.client.epoch ≡ a.client.epoch → c.client.last ≡ a.client.last → From me a.client s → FromCopy me a (sited_in me c s act o)
  sited_in_asks a c s act None epoch last q = still_asks a c s q
  sited_in_asks a c s act (Some r) epoch last q = goes_asks a (with_client c (unasked c.client s.state)) act r r.sites s.lines q.epoch last q.seats'

  sited_by_asks : (a c : CopyState) (s : Step ClientState) (o : Option Going) → c.client.epoch ≡ a.client.epoch → c.client.last ≡ a.client.last → From me a.client s → FromCopy me a (sited_by me c s o)
  sited_by_asks a c s None epoch last q = still_asks a c s q
  sited_by_asks a c s (Some act) epoch last q = sited_in_asks a c s act (round_of (with_client c s.state) act) epoch last q

  sited_asks : (a c : CopyState) (s : Step ClientState) → c.client.epoch ≡ a.client.epoch → c.client.last ≡ a.client.last → From me a.client s → FromCopy me a (sited me c s)
  sited_asks a c s epoch last q = sited_by_asks a c s (asked_since c.client.last s.state) epoch last q

  -- ---- an act begins

  pub client_begun : (c : CopyState) (clock : ℕ) (act : Act) → FromCopy me c (copy_begin_row me c clock act)
  unfolding copy_begin_row
  client_begun c clock act = sited_asks c (record c { round = None }) (begin_row me c.client clock act) refl refl (begun_asks me c.client clock act)

  -- ---- what a site answers

  module _ (c : CopyState) (clock place : ℕ) (m : Message) (has : SeatsAre NoCall c.client.seats) where
    uses_asks : FromCopy me c (uses me c clock place m)
    uses_asks = sited_asks c c (guest_row me c.client clock place (Whole m)) refl refl (guest_asks me c.client clock place m has)

    newer_asks : (id n : ℕ) → FromCopy me c (uses_newer me c clock place m id n)
    newer_asks id n =
        let q = guest_asks me (without_older c id n).client clock place m has in
        sited_asks c (without_older c id n) (dropping me (filter (is_below_release id n) c.client.cache) (guest_row me (without_older c id n).client clock place (Whole m))) refl refl
        (record { epoch = q.epoch; goes = q.goes; sent = q.sent; seats' = q.seats' })

    leaves_asks : (act : Going) (r : Round) → FromCopy me c (leaves_site me c act r (lines.Given place ∷ []))
    leaves_asks act r = round_asks c act (record r { sites = behind_first r.sites }) (lines.Given place ∷ [])

    release_asks : (act : Going) (r : Round) (n : ℕ) → FromCopy me c (by_release me c clock place m act r n)
    release_asks act r n =
        either_asks (nat_lt n (seen_of c r.volume)) c _ _ (leaves_asks act (record r { offered = Some n }))
        (either_asks (nat_lt (seen_of c r.volume) n) c _ _ (newer_asks r.volume n) uses_asks)

    offers_asks : (act : Going) (r : Round) (o : Option Offer) → FromCopy me c (offers me c clock place m act r o)
    offers_asks act r None = uses_asks
    offers_asks act r (Some o) = either_asks (is_spent c.client act || list_any (is_over clock) o.expiries) c _ _ (round_asks c act r (lines.Given place ∷ [])) (release_asks act r o.release)

    answer_asks : (act : Going) (r : Round) (x : Carried) → FromCopy me c (answers_at me c clock place m act r x)
    answer_asks act r (carried.Refusal code) = either_asks (is_busy_code code || is_spent c.client act) c _ _ uses_asks (leaves_asks act (record r { refusal = Some code }))
    answer_asks act r (carried.Reply (tell.File reply)) = offers_asks act r (offer_in reply)
    answer_asks act r x = uses_asks

    round_answer_asks : (act : Going) (o : Option Round) → FromCopy me c (answers_in me c clock place m act o)
    round_answer_asks act None = uses_asks
    round_answer_asks act (Some r) = answer_asks act r m.carried

    running_asks : (o : Option Going) → FromCopy me c (answers_to me c clock place m o)
    running_asks None = uses_asks
    running_asks (Some act) = either_asks (same_node m.head.to me && is_awaited c.client act m.head) c _ _ (round_answer_asks act (round_of c act)) uses_asks

  -- what the client waited for before, where it is the same
  as_before : (a c : CopyState) (s : Step CopyState) → (pending c.client).epoch ≡ (pending a.client).epoch → (pending c.client).last ≡ (pending a.client).last → (pending c.client).file ≡ (pending a.client).file → (pending a.client).seek ≡ (pending c.client).seek →
      AsksCopy me (pending c.client) a.client.seats s.state.client s.sent → FromCopy me a s
  as_before a c s epoch last file seek q = record {
    goes = elim q.goes [
      | inl later ↦ inl (
        subst (λ (e : ℕ). Below e (pending a.client).last (pending s.state.client).epoch (pending s.state.client).last) epoch
            (subst (λ (n : ℕ). Below (pending c.client).epoch n (pending s.state.client).epoch (pending s.state.client).last) last later.0),
        later.1,
      )
      | inr stays ↦ inr (record { epoch = stays.epoch ∙ epoch; last = stays.last ∙ last; file = λ x h. sym file ∙ stays.file x h; seek = λ x h. seek ∙ stays.seek x h })
    ];
    sent = q.sent;
    seats' = q.seats';
  }

  seeking_asks : (c : CopyState) (clock place : ℕ) (m : Message) (s : Seek) (o : Option LocEntry) → c.client.seeking ≡ Some s → SeatsAre NoCall c.client.seats → FromCopy me c (uses me (with_client c (renewing c.client s o)) clock place m)
  seeking_asks c clock place m s None is has = uses_asks c clock place m has
  seeking_asks c clock place m s (Some e) is has = as_before c (with_client c (renewing c.client s (Some e))) (uses me (with_client c (renewing c.client s (Some e))) clock place m) refl refl refl (ap (seek_ask c.client.user) is) (uses_asks (with_client c (renewing c.client s (Some e))) clock place m has)

  heard_asks : (c : CopyState) (clock place : ℕ) (m : Message) (o : Option Seek) → c.client.seeking ≡ o → SeatsAre NoCall c.client.seats → FromCopy me c (hears_by me c clock place m o)
  heard_asks c clock place m None is has = running_asks c clock place m has c.client.running
  heard_asks c clock place m (Some s) is has = either_asks (tells_new me c.client m s) c _ _ (seeking_asks c clock place m s (entry_told m.carried) is has) (uses_asks c clock place m has)

  pub client_given : (c : CopyState) (clock place : ℕ) (m : Message) → SeatsAre NoCall c.client.seats → FromCopy me c (copy_row me c clock place (Whole m))
  unfolding copy_row
  client_given c clock place m has = heard_asks c clock place m c.client.seeking refl has

  -- ---- timeouts

  dies_asks : (c : CopyState) (act : Going) (r : Round) → FromCopy me c (dies_at me c act r)
  dies_asks c act r =
      round_asks (with_client c (record c.client { cache = left_in (volume_changed (call_of c.client act)) c.client.cache })) act (record r { sites = behind_first r.sites })
      (timeout_line me c.client last_timeout ∷ dropped me (given_up_in (volume_changed (call_of c.client act)) c.client.cache) [])

  timed_asks : (c : CopyState) (act : Going) (o : Option Round) → c.client.running ≡ Some act → FromCopy me c (times_out me c act o)
  timed_asks c act None is = still_asks c c (timeout_row me c.client act) (waited_asks me c.client act is)
  timed_asks c act (Some r) is = either_asks (is_sent_again c.client.tries) c _ _ (still_asks c c (timeout_row me c.client act) (waited_asks me c.client act is)) (dies_asks c act r)

  pub client_late : (c : CopyState) (act : Going) → c.client.running ≡ Some act → FromCopy me c (copy_timeout_row me c act)
  unfolding copy_timeout_row
  client_late c act is = timed_asks c act (round_of c act) is

  pub client_seek_late : (c : CopyState) (k : Seek) → c.client.seeking ≡ Some k → FromCopy me c (copy_seek_row me c k)
  client_seek_late c k is = still_asks c c (seek_timeout_row me c.client k) (missed_asks me c.client k is)
