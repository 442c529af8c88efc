-- Kept replies: what is asked of all of them goes on, and the one that is sent again has it.
use Rattle.std.proofs.Common.{◌≡◌, ℕ, zero, suc, Bool, true, false, List, [], ◌∷◌, ◌++◌, Option, Some, None, subst, nat_eq, nat_lt}
use Rattle.std.specs.Prelude.{⊤, filter, if◌then◌else◌}
use Rattle.std.specs.List.{AllByRecursion}
use Rattle.afs_num.specs.Nodes.{node_number, same_node}
use Rattle.afs_num.specs.declared.messages.Message.{Message}
use Rattle.afs_num.specs.declared.types.Head.{Head}
use Rattle.afs_num.specs.declared.types.Key.{Key}
use Rattle.afs_num.specs.declared.types.Node.{Node}
use Rattle.spec_model.specs.Calls.{admitted, call_seat, call_seated, compared, finished, is_last_call, other_seats, pair_below, paired, repeated, started, Admitted}
use Rattle.spec_model.specs.Calls as pairs
use Rattle.spec_rows.specs.Runs.{message_at}
use Rattle.spec_rows.specs.ServerRow.{seat_placed}
use Rattle.spec_rows.specs.States.{Seat}
use Rattle.law_walks.specs.Sends.{AdmittedIs, KeptIs, SeatIs, SeatsAre}

-- ---- lists

pub all_more : {A : Type 0} (P : A → Type 0) (xs ys : List A) → AllByRecursion P xs → AllByRecursion P ys → AllByRecursion P (xs ++ ys)
all_more {A} P [] ys h k = k
all_more {A} P (x ∷ xs) ys h k = (h.0, all_more P xs ys h.1 k)

all_if : {A : Type 0} (P : A → Type 0) (b : Bool) (x : A) (rest : List A) → P x → AllByRecursion P rest → AllByRecursion P (if b then x ∷ rest else rest)
all_if {A} P true x rest h k = (h, k)
all_if {A} P false x rest h k = k

pub all_filter : {A : Type 0} (P : A → Type 0) (keep : A → Bool) (xs : List A) → AllByRecursion P xs → AllByRecursion P (filter keep xs)
all_filter {A} P keep [] h = tt
all_filter {A} P keep (x ∷ xs) h = all_if P (keep x) x (filter keep xs) h.0 (all_filter P keep xs h.1)

-- what holds of each more weakly holds of all
pub weaker_all : {A : Type 0} (P Q : A → Type 0) (xs : List A) → ((x : A) → P x → Q x) → AllByRecursion P xs → AllByRecursion Q xs
weaker_all {A} P Q [] more h = tt
weaker_all {A} P Q (x ∷ xs) more h = (more x h.0, weaker_all P Q xs more h.1)

-- what holds of all messages holds of the one at a place
pub found_at : (P : Message → Type 0) (place : ℕ) (ms : List Message) (m : Message) → AllByRecursion P ms → message_at ms place ≡ Some m → P m
found_at P zero [] m h e = absurd cc
found_at P zero (x ∷ ms) m h e = absurd cc
found_at P (suc zero) [] m h e = absurd cc
found_at P (suc zero) (x ∷ ms) m h e = let same : x ≡ m = cc in subst P same h.0
found_at P (suc (suc n)) [] m h e = absurd cc
found_at P (suc (suc n)) (x ∷ ms) m h e = found_at P (suc n) ms m h.1 e

-- ---- kept replies

abbrev FoundIs : (Message → Type 0) → Option Seat → Type 0
FoundIs P None = ⊤
FoundIs P (Some seat) = SeatIs P seat

pub weaker_kept : (P Q : Message → Type 0) (o : Option Message) → ((m : Message) → P m → Q m) → KeptIs P o → KeptIs Q o
weaker_kept P Q None more h = tt
weaker_kept P Q (Some m) more h = more m h

pub weaker_seats : (P Q : Message → Type 0) (seats : List Seat) → ((m : Message) → P m → Q m) → SeatsAre P seats → SeatsAre Q seats
weaker_seats P Q seats more h = weaker_all (SeatIs P) (SeatIs Q) seats (λ seat k. weaker_kept P Q seat.reply more k) h

-- nothing is asked
any_kept : (o : Option Message) → KeptIs (λ (k : Message). ⊤) o
any_kept None = tt
any_kept (Some k) = tt

pub any_seats : (seats : List Seat) → SeatsAre (λ (k : Message). ⊤) seats
any_seats [] = tt
any_seats (s ∷ seats) = (any_kept s.reply, any_seats seats)

module _ (P : Message → Type 0) where
  pub seated_is : (seat : Seat) (seats : List Seat) → SeatIs P seat → SeatsAre P seats → SeatsAre P (call_seated seat seats)
  seated_is seat seats h k = all_more (SeatIs P) (other_seats seat.caller seats) (seat ∷ []) (all_filter (SeatIs P) _ seats k) (h, tt)

  placed_by : (a b : Bool) (x s : Seat) (seats rest : List Seat) → SeatIs P x → SeatIs P s → SeatsAre P seats → SeatsAre P rest → SeatsAre P (if a then x ∷ seats else (if b then x ∷ s ∷ seats else s ∷ rest))
  placed_by true b x s seats rest h k all later = (h, all)
  placed_by false true x s seats rest h k all later = (h, (k, all))
  placed_by false false x s seats rest h k all later = (k, later)

  pub placed_is : (seat : Seat) (seats : List Seat) → SeatIs P seat → SeatsAre P seats → SeatsAre P (seat_placed seat seats)
  placed_is x [] h k = (h, tt)
  placed_is x (s ∷ seats) h k = placed_by (same_node s.caller x.caller) (nat_lt (node_number x.caller) (node_number s.caller)) x s seats (seat_placed x seats) h k.0 k.1 (placed_is x seats h k.1)

  found_by : (b : Bool) (s : Seat) (o : Option Seat) → SeatIs P s → FoundIs P o → FoundIs P (if b then Some s else o)
  found_by true s o h k = h
  found_by false s o h k = k

  found_is : (n : Node) (seats : List Seat) → SeatsAre P seats → FoundIs P (call_seat n seats)
  found_is n [] h = tt
  found_is n (s ∷ seats) h = found_by (same_node s.caller n) s (call_seat n seats) h.0 (found_is n seats h.1)

  again_is : (o : Option Message) → KeptIs P o → AdmittedIs P (repeated o)
  again_is None h = tt
  again_is (Some m) h = h

  compared_by : (a b : Bool) (o : Option Message) → KeptIs P o → AdmittedIs P (if a then pairs.older else (if b then pairs.runs else repeated o))
  compared_by true b o h = tt
  compared_by false true o h = tt
  compared_by false false o h = again_is o h

  paired_is : (epoch number : ℕ) (o : Option Seat) → FoundIs P o → AdmittedIs P (paired epoch number o)
  paired_is epoch number None h = tt
  paired_is epoch number (Some seat) h = compared_by (pair_below epoch number seat.epoch seat.number) (pair_below seat.epoch seat.number epoch number) seat.reply h

  admitted_by : (b : Bool) (boot : ℕ) (o : Admitted Message) → AdmittedIs P o → AdmittedIs P (if b then o else pairs.wrong_boot boot)
  admitted_by true boot o h = h
  admitted_by false boot o h = tt

  pub admitted_is : (boot : ℕ) (seats : List Seat) (head : Head) → SeatsAre P seats → AdmittedIs P (admitted boot seats head)
  admitted_is boot seats head h = admitted_by (nat_eq head.boot boot) boot _ (paired_is head.epoch head.number (call_seat head.from seats) (found_is head.from seats h))

  pub started_is : (key : Key) (seats : List Seat) → SeatsAre P seats → SeatsAre P (started key seats)
  started_is key seats h = seated_is _ seats tt h

  finished_by : (b : Bool) (x : Seat) (seats : List Seat) → SeatIs P x → SeatsAre P seats → SeatsAre P (if b then call_seated x seats else seats)
  finished_by true x seats h k = seated_is x seats h k
  finished_by false x seats h k = k

  pub finished_is : (key : Key) (reply : Message) (seats : List Seat) → P reply → SeatsAre P seats → SeatsAre P (finished key reply seats)
  finished_is key reply seats h k = finished_by (is_last_call key (call_seat key.node seats)) _ seats h k
