-- A decision of the location database gives the next number, to the call that it is on, or none.
use Rattle.std.proofs.Common.{◌≡◌, ◌≤◌, ◌<◌, ℕ, ◌+◌, Bool, false, cond, Option, Some, None, refl, sym, ap, subst, arith, ◌∙◌, nat_lt}
use Rattle.std.proofs.Math.Nat.{le_refl}
use Rattle.std.proofs.lemmas.Bool.{le-ltb, lt-ltb}
use Rattle.afs_num.specs.declared.location_calls.LocCall.{LocCall}
use Rattle.afs_num.specs.declared.location_calls.LocReply.{LocReply}
use Rattle.afs_num.specs.declared.location_calls.LocReply.TheVariants as replies
use Rattle.afs_num.specs.declared.messages.Message.{Message}
use Rattle.afs_num.specs.declared.messages.Received.TheVariants.{Whole}
use Rattle.afs_num.specs.declared.types.Head.{Head}
use Rattle.afs_num.specs.declared.types.Key.{Key}
use Rattle.spec_model.specs.Calls.{key_of}
use Rattle.spec_rows.specs.LocRow.{drops, loc_decides, loc_left, refuses, repeats, reply_to, saves, shows, tells_boot, LocChange, LocDecision, LocState}
use Rattle.spec_rows.specs.LocSteps.{loc_begun_after}
use Rattle.law_walks.specs.Sends.{LocMakes}
use Rattle.law_families.specs.Entries.{AreKeyed}
use Rattle.law_keys.specs.Replied.{loc_tells_change}
use Rattle.law_keys.proofs.LocSeats.{loc_decides_so, OfHead}
use Rattle.law_one_server.proofs.DatabaseSteps.{each_call, hears_serves, Is, IsServed, OfCalls, Serves}
use Rattle.law_new_volumes.specs.GivenNumbers.{number_given, GivesOwn}

-- ---- what a call gives

-- nothing, or the next number, which is drawn then
abbrev pub GivesNext : ℕ → Option ℕ → ℕ → Type 0
GivesNext n None m = n ≤ m
GivesNext n (Some id) m = (id ≡ n) × (n < m)

abbrev Given : LocState → LocCall → LocChange → Type 0
Given s call c = GivesNext s.lasting.next_id (number_given c.reply) c.next_id

one_above : (n : ℕ) → n < n + 1
one_above n = omega (arith)

of_calls : (s : LocState) (stamp : ℕ) → OfCalls s.lasting stamp (Given s)
of_calls s stamp = record {
  locks = λ id operation force l at. le_refl s.lasting.next_id;
  makes = λ e free. le_refl s.lasting.next_id;
  frees = λ id l at held. le_refl s.lasting.next_id;
  writes = λ id e l at held. le_refl s.lasting.next_id;
  deletes = λ id l at held. le_refl s.lasting.next_id;
  draws = (refl, one_above s.lasting.next_id);
}

-- a call that is served
pub served_gives : (s : LocState) (m : Message) (c : LocChange) → AreKeyed s.lasting.entries → IsServed s m c → GivesNext s.lasting.next_id (number_given c.reply) c.next_id
served_gives s m c keyed z = subst (Is s.lasting keyed m.head.stamp (Given s) (of_calls s m.head.stamp) z.call) z.does (each_call s.lasting keyed m.head.stamp (Given s) (of_calls s m.head.stamp) z.call)

-- ---- whose a number is

-- from this number on they are this call's
abbrev from_on : ℕ → Key → (ℕ → Key) → ℕ → Key
from_on n key owner id = cond (nat_lt id n) (owner id) key

own_now : (n : ℕ) (key : Key) (owner : ℕ → Key) (id : ℕ) → id ≡ n → key ≡ from_on n key owner id
own_now n key owner id same = sym (ap (λ (b : Bool). cond b (owner id) key) (le-ltb id n (subst (λ (k : ℕ). k ≤ id) same (le_refl id))))

own_before : (n : ℕ) (key : Key) (owner : ℕ → Key) (id : ℕ) → id < n → from_on n key owner id ≡ owner id
own_before n key owner id below = ap (λ (b : Bool). cond b (owner id) key) (lt-ltb id n below)

gives_on : (n m : ℕ) (o : Option ℕ) → GivesNext n o m → n ≤ m
gives_on n m None h = h
gives_on n m (Some id) h = let more : n < m = h.1 in omega (arith, more)

-- the next number behind a decision
abbrev pub next_behind : ℕ → LocDecision → ℕ
next_behind n (saves head c) = c.next_id
next_behind n drops = n
next_behind n (tells_boot head) = n
next_behind n (repeats reply) = n
next_behind n (refuses head code) = n
next_behind n (shows head reply) = n

pub next_left : (s : LocState) (d : LocDecision) → (loc_left s d).lasting.next_id ≡ next_behind s.lasting.next_id d
next_left s (saves head c) = refl
next_left s drops = refl
next_left s (tells_boot head) = refl
next_left s (repeats reply) = refl
next_left s (refuses head code) = refl
next_left s (shows head reply) = refl

pub next_begun : (s : LocState) (d : LocDecision) → (loc_begun_after s d).state.lasting.next_id ≡ next_behind s.lasting.next_id d
next_begun s (saves head c) = refl
next_begun s drops = refl
next_begun s (tells_boot head) = refl
next_begun s (repeats reply) = refl
next_begun s (refuses head code) = refl
next_begun s (shows head reply) = refl

-- What comes of a decision: numbers that were drawn before stay whose they were, and what it makes gives them so.
pub record Draws (owner : ℕ → Key) (first n boot : ℕ) (d : LocDecision) : Type 0 where
  pub now : ℕ → Key
  pub stays : (id : ℕ) → id < n → now id ≡ owner id
  pub rises : n ≤ next_behind n d
  pub makes : LocMakes (GivesOwn now first (next_behind n d)) boot d

quiet : (owner : ℕ → Key) (first n boot : ℕ) (head : Head) (reply : LocReply) → loc_tells_change reply ≡ false → GivesOwn owner first n (reply_to boot head reply)
quiet owner first n boot head (replies.GetNewVolumeId id) none = absurd cc
quiet owner first n boot head reply none = λ id e. absurd cc

pub draws : (s : LocState) (m : Message) (d : LocDecision) (owner : ℕ → Key) (first : ℕ) → AreKeyed s.lasting.entries → first ≤ s.lasting.next_id → OfHead m.head d → Serves s m d → Draws owner first s.lasting.next_id s.lasting.boot d
draws s m (saves head c) owner first keyed low of served =
    let n : ℕ = s.lasting.next_id in
    let gives : GivesNext n (number_given c.reply) c.next_id = served_gives s m c keyed served in
    let now : ℕ → Key = from_on n (key_of head) owner in
    record {
      now = now;
      stays = own_before n (key_of head) owner;
      rises = gives_on n c.next_id (number_given c.reply) gives;
      makes = λ id e.
          let one : (id ≡ n) × (n < c.next_id) = subst (λ (o : Option ℕ). GivesNext n o c.next_id) e gives in
          let same : id ≡ n = one.0 in let less : n < c.next_id = one.1 in
          ((omega (arith, low, same), omega (arith, less, same)), own_now n (key_of head) owner id one.0);
    }
draws s m (shows head reply) owner first keyed low of served = record { now = owner; stays = λ id below. refl; rises = le_refl s.lasting.next_id; makes = quiet owner first s.lasting.next_id s.lasting.boot head reply of.1 }
draws s m drops owner first keyed low of served = record { now = owner; stays = λ id below. refl; rises = le_refl s.lasting.next_id; makes = tt }
draws s m (tells_boot head) owner first keyed low of served = record { now = owner; stays = λ id below. refl; rises = le_refl s.lasting.next_id; makes = tt }
draws s m (repeats reply) owner first keyed low of served = record { now = owner; stays = λ id below. refl; rises = le_refl s.lasting.next_id; makes = tt }
draws s m (refuses head code) owner first keyed low of served = record { now = owner; stays = λ id below. refl; rises = le_refl s.lasting.next_id; makes = tt }

pub decides_draws : (s : LocState) (m : Message) (owner : ℕ → Key) (first : ℕ) → AreKeyed s.lasting.entries → first ≤ s.lasting.next_id → Draws owner first s.lasting.next_id s.lasting.boot (loc_decides s (Whole m))
decides_draws s m owner first keyed low = draws s m (loc_decides s (Whole m)) owner first keyed low (loc_decides_so s m).of (hears_serves s m.head m.carried)

pub still_own : (owner now : ℕ → Key) (first n k : ℕ) → n ≤ k → ((id : ℕ) → id < n → now id ≡ owner id) → (m : Message) → GivesOwn owner first n m → GivesOwn now first k m
still_own owner now first n k le same m h id e =
    let below : id < n = (h id e).0.1 in
    (((h id e).0.0, omega (arith, below, le)), (h id e).1 ∙ sym (same id below))
