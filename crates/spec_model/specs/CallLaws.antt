-- Laws about the calls of a callee in one boot, whose replies are bytes.
use Rattle.std.specs.Prelude.{◌≡◌, ℕ, List, [], ◌∷◌, false, Option, Some, None, ◌⊎◌, if◌then◌else◌}
use Rattle.afs_num.specs.declared.types.Head.{Head}
use Rattle.afs_num.specs.declared.types.Key.{Key}
use Rattle.spec_model.specs.Calls.{same_key, key_of, CallSeat, pair_below, runs, kept, call_seat, paired, admitted, started, finished}

pub data CallEvent : Type 0 where
  starts : Key → CallEvent
  finishes : Key → List ℕ → CallEvent

-- the seats after these events, the newest of them first, from a table without callers
abbrev pub seats_after : List CallEvent → List (CallSeat (List ℕ))
seats_after [] = []
seats_after (starts key ∷ past) = started key (seats_after past)
seats_after (finishes key reply ∷ past) = finished key reply (seats_after past)

-- only calls that are to run are started
abbrev pub StartsWhatRuns : List CallEvent → Type 0
StartsWhatRuns [] = Unit {0}
StartsWhatRuns (starts key ∷ past) = (paired key.epoch key.number (call_seat key.node (seats_after past)) ≡ runs) × StartsWhatRuns past
StartsWhatRuns (finishes key reply ∷ past) = StartsWhatRuns past

abbrev pub WasStarted : Key → List CallEvent → Type 0
WasStarted key [] = ⊥
WasStarted key (starts other ∷ past) = (other ≡ key) ⊎ WasStarted key past
WasStarted key (finishes other reply ∷ past) = WasStarted key past

-- the reply with which this call ended last
abbrev pub last_reply : Key → List CallEvent → Option (List ℕ)
last_reply key [] = None
last_reply key (starts other ∷ past) = last_reply key past
last_reply key (finishes other reply ∷ past) = if same_key other key then Some reply else last_reply key past

-- a call of a caller that has started this one or a newer one doesn't run in that boot, whatever starts and ends afterwards
abbrev pub CallsRunOnce : Type 0
CallsRunOnce =
    (boot : ℕ) (past : List CallEvent) (key : Key) (head : Head) → StartsWhatRuns past → WasStarted key past → head.from ≡ key.node → pair_below key.epoch key.number head.epoch head.number ≡ false
    → admitted boot (seats_after past) head ≡ runs → ⊥

-- a kept reply is the one with which that very call ended
abbrev pub KeptAreOfTheirCalls : Type 0
KeptAreOfTheirCalls = (boot : ℕ) (past : List CallEvent) (head : Head) (reply : List ℕ) → admitted boot (seats_after past) head ≡ kept reply → last_reply (key_of head) past ≡ Some reply
