-- A node of the cell with a disk of its own: its host. What an input makes of one host, and what it tells and sends then. It is the
-- same for every kind of node; what one kind does with a message, and how it begins again, is its `NodeKind`.
use Rattle.std.specs.Prelude.{◌≡◌, ◌≤◌, ℕ, zero, suc, ◌+◌, ◌-◌, List, [], ◌∷◌, Bool, true, false, not, ◌&&◌, ◌||◌, nat_eq, nat_lt, Option, Some, None, if◌then◌else◌}
use Rattle.std.specs.Option.{option_map}
use Rattle.afs_num.specs.declared.messages.Message.{Message}
use Rattle.afs_num.specs.declared.messages.Received.{Received}
use Rattle.afs_num.specs.declared.messages.Received.TheVariants.{Whole}
use Rattle.afs_num.specs.declared.types.Node.{Node}
use Rattle.spec_history.specs.declared.lines.Line.{Line}
use Rattle.spec_history.specs.declared.lines.Line.TheVariants as lines
use Rattle.spec_rows.specs.Steps.{begun_before, Begun, Step}

-- ---- the disk of a host, in numbers of its calls

-- A device call that isn't made: which one of the step, whether the disk was set to that (it failed by itself, else), whether it
-- was stopped there (it failed, else), and its pick.
pub record Blow : Type 0 where
  pub call : ℕ
  pub is_set : Bool
  pub stops : Bool
  pub pick : ℕ

-- where the disk is set to stop, after so many calls and with a pick, and at which call it is set to fail
pub record Armed : Type 0 where
  pub stop : Option (ℕ × ℕ)
  pub fail : Option ℕ

abbrev pub unarmed : Armed
unarmed = record { stop = None; fail = None }

-- in a step the disk does as it was set to, or fails by itself at this call
pub data Luck : Type 0 where
  steady : Luck
  gives_out : ℕ → Luck

-- it fails by itself at no call, or at one of the step's, from the first on
abbrev pub IsLuck : Luck → Type 0
IsLuck steady = Unit {0}
IsLuck (gives_out call) = 1 ≤ call

abbrev pub GivesOut : Luck → Type 0
GivesOut steady = ⊥
GivesOut (gives_out call) = Unit {0}

abbrev pub stop_blow : Option (ℕ × ℕ) → Option Blow
stop_blow None = None
stop_blow (Some s) = Some (record { call = s.0 + 1; is_set = true; stops = true; pick = s.1 })

abbrev pub fail_blow : Option ℕ → Option Blow
fail_blow None = None
fail_blow (Some k) = Some (record { call = k; is_set = true; stops = false; pick = 0 })

abbrev pub own_blow : Luck → Option Blow
own_blow steady = None
own_blow (gives_out k) = Some (record { call = k; is_set = false; stops = false; pick = 0 })

-- the earlier of two; of two at one call the first
abbrev pub sooner : Option Blow → Option Blow → Option Blow
sooner None b = b
sooner (Some a) None = Some a
sooner (Some a) (Some b) = if nat_lt b.call a.call then Some b else Some a

-- a step without device calls is never hit
abbrev pub within : ℕ → Option Blow → Option Blow
within zero b = None
within (suc calls) None = None
within (suc calls) (Some b) = if nat_lt (suc calls) b.call then None else Some b

-- what hits a step of so many device calls
abbrev pub struck : Armed → Luck → ℕ → Option Blow
struck a luck calls = within calls (sooner (sooner (stop_blow a.stop) (fail_blow a.fail)) (own_blow luck))

-- what is left after so many calls were made
abbrev pub lowered : ℕ → Armed → Armed
lowered calls a = record { stop = option_map (λ (s : ℕ × ℕ). (s.0 - calls, s.1)) a.stop; fail = option_map (λ (k : ℕ). k - calls) a.fail }

-- ---- a host that is down

-- It stopped between two steps, or in the step of this message, which came at this clock, by this blow, or in a restart, while its
-- boot record was written.
pub data Fall : Type 0 where
  at_rest : Fall
  in_step : Message → ℕ → Blow → Fall
  in_boot : Fall

-- how a restart ends: its boot record is on the disk; the disk fails before that is begun, or while it is written; or it
-- doesn't fit
pub data Outcome : Type 0 where
  comes_up : Outcome
  fails_early : Outcome
  fails_midway : Outcome
  is_full : Outcome

-- the disk failed by itself
abbrev pub Fails : Outcome → Type 0
Fails comes_up = ⊥
Fails fails_early = Unit {0}
Fails fails_midway = Unit {0}
Fails is_full = ⊥

-- What is left by a blow to which the disk was set. The step's record is whole on the disk only where the last of its four calls, the
-- sync of the opened gate, is the one that wasn't made. And the disk failed at that call, so that what was written stays; or it stopped
-- there, with the pick that leaves what was written.
abbrev pub leaves_after : Blow → Bool
leaves_after b = nat_eq b.call 4 && (not b.stops || nat_eq b.pick 1)

-- Whether a restart may begin so, before the interrupted step or after it. Of a disk that failed by itself nothing is said.
abbrev pub MayFind : Fall → Bool → Type 0
MayFind at_rest after = Unit {0}
MayFind (in_step m clock b) after = b.is_set ≡ true → after ≡ leaves_after b
MayFind in_boot after = Unit {0}

abbrev pub MayBegin : Option Fall → Bool → Type 0
MayBegin None after = Unit {0}
MayBegin (Some fall) after = MayFind fall after

-- ---- hosts

-- the node's state, whether it is down (its state is then that from before the interrupted step), and how its disk is set
pub record Host (S : Type 0) : Type 0 where
  pub state : S
  pub down : Option Fall
  pub armed : Armed

-- a step of a host: the host as it is then, its lines, and the messages that it sends
pub record HostStep (S : Type 0) : Type 0 where
  pub host : Host S
  pub lines : List Line
  pub sent : List Message

-- A kind of node, as its host sees it, where its state is one of S: which node it is; how many device calls it makes with what was
-- found in a message's bytes, at this clock; its row, at this clock and for the message of this place; with what a restart begins
-- behind a step that this message began, at this clock, and that was interrupted with its record whole, and with what behind a restart
-- that was; the step of its restart, at this clock, in a cell of so many clients; and whether the record of the next boot can be made.
pub record NodeKind (S : Type 0) : Type 0 where
  pub me : Node
  pub device_calls : S → ℕ → Received → ℕ
  pub row : S → ℕ → ℕ → Received → Step S
  pub begun_after : S → ℕ → Message → Begun S
  pub begun_again : S → Begun S
  pub start : ℕ → ℕ → Begun S → Step S
  pub can_start : S → Bool

-- it makes a step of its row, and its disk is then set so
abbrev pub goes : {S : Type 0} → Armed → Step S → HostStep S
goes {S} armed s = record { host = record { state = s.state; down = None; armed = armed }; lines = s.lines; sent = s.sent }

-- it goes down, or stays so, with the state that it had
abbrev pub falls : {S : Type 0} → Host S → List Line → Fall → HostStep S
falls {S} h ls fall = record { host = record h { down = Some fall; armed = unarmed }; lines = ls; sent = [] }

-- its disk is set
abbrev pub sets : {S : Type 0} → Host S → Line → Armed → HostStep S
sets {S} h l armed = record { host = record h { armed = armed }; lines = l ∷ []; sent = [] }

-- a node goes down: it was stopped, or its disk failed
abbrev pub fall_line : Node → Bool → Line
fall_line me true = lines.Crash me
fall_line me false = lines.Fault me

-- ---- a message

-- it makes the step of its row on what it finds in the bytes that it is given, and what its disk is set to is lowered by the
-- device calls of that
abbrev pub given : {S : Type 0} → NodeKind S → Host S → ℕ → ℕ → Received → HostStep S
given {S} kind h clock place found = goes (lowered (kind.device_calls h.state clock found) h.armed) (kind.row h.state clock place found)

-- the step is done, or its disk ends it
abbrev pub served_by : {S : Type 0} → NodeKind S → Host S → ℕ → ℕ → Message → Option Blow → HostStep S
served_by {S} kind h clock place m None = given kind h clock place (Whole m)
served_by {S} kind h clock place m (Some b) = falls h (lines.Given place ∷ fall_line kind.me b.stops ∷ []) (in_step m clock b)

-- given the message of this place, with this luck of its disk
abbrev pub served : {S : Type 0} → NodeKind S → Host S → ℕ → ℕ → Luck → Message → HostStep S
served {S} kind h clock place luck m = served_by kind h clock place m (struck h.armed luck (kind.device_calls h.state clock (Whole m)))

-- ---- no message

-- it crashes
abbrev pub crashed : {S : Type 0} → NodeKind S → Host S → HostStep S
crashed {S} kind h = falls h (lines.Crash kind.me ∷ []) at_rest

-- its disk is to pass so many calls and then to stop it, with this pick
abbrev pub set_to_stop : {S : Type 0} → NodeKind S → Host S → ℕ → ℕ → HostStep S
set_to_stop {S} kind h calls pick = sets h (lines.Stop kind.me calls pick) (record h.armed { stop = Some (calls, pick) })

-- its disk is to fail at this call
abbrev pub set_to_fail : {S : Type 0} → NodeKind S → Host S → ℕ → HostStep S
set_to_fail {S} kind h call = sets h (lines.Fail kind.me call) (record h.armed { fail = Some call })

-- ---- a restart

-- what a restart begins with, where it finds the disk as before the interrupted step, or as after it
abbrev pub begun_from : {S : Type 0} → NodeKind S → S → Bool → Fall → Begun S
begun_from {S} kind s after at_rest = begun_before s
begun_from {S} kind s false (in_step m clock b) = begun_before s
begun_from {S} kind s true (in_step m clock b) = kind.begun_after s clock m
begun_from {S} kind s false in_boot = begun_before s
begun_from {S} kind s true in_boot = kind.begun_again s

-- where no record of a boot can be made, none is begun
abbrev pub without_boot_record : Bool → Outcome → Outcome
without_boot_record can fails_early = fails_early
without_boot_record can fails_midway = if can then fails_midway else is_full
without_boot_record can o = if can then comes_up else is_full

-- it stays down, in the state that was found
abbrev pub stays : {S : Type 0} → Begun S → Line → Fall → HostStep S
stays {S} f l fall = record { host = record { state = f.state; down = Some fall; armed = unarmed }; lines = f.before (l ∷ []); sent = [] }

-- it begins with this, and ends so
abbrev pub ends : {S : Type 0} → NodeKind S → Host S → ℕ → ℕ → Begun S → Fall → Outcome → HostStep S
ends {S} kind h clock count f fall comes_up = goes unarmed (kind.start clock count f)
ends {S} kind h clock count f fall fails_early = falls h (lines.Fault kind.me ∷ []) fall
ends {S} kind h clock count f fall fails_midway = stays f (lines.Fault kind.me) in_boot
ends {S} kind h clock count f fall is_full = stays f (lines.Full kind.me) at_rest

-- in a cell of so many clients: the disk was found as before the interrupted step or as after it, and the restart ends so
abbrev pub restarted : {S : Type 0} → NodeKind S → Host S → ℕ → ℕ → Bool → Outcome → Fall → HostStep S
restarted {S} kind h clock count after outcome fall =
    ends kind h clock count (begun_from kind h.state after fall) fall (without_boot_record (kind.can_start (begun_from kind h.state after fall).state) outcome)
