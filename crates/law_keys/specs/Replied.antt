-- Replies of volume servers and of the location database: each is to a call that ran in the boot that it carries.
use Rattle.std.specs.Prelude.{◌≡◌, ◌⊎◌, ℕ, List, [], ◌∷◌, Bool, true, false}
use Rattle.std.specs.List.{AllByRecursion}
use Rattle.afs_num.specs.declared.location_calls.LocReply.{LocReply}
use Rattle.afs_num.specs.declared.location_calls.LocReply.TheVariants as loc
use Rattle.afs_num.specs.declared.messages.Carried.{Carried}
use Rattle.afs_num.specs.declared.messages.Carried.TheVariants as carried
use Rattle.afs_num.specs.declared.messages.Message.{Message}
use Rattle.afs_num.specs.declared.messages.Reply.TheVariants as tell
use Rattle.afs_num.specs.declared.volume_calls.VolReply.{VolReply}
use Rattle.afs_num.specs.declared.volume_calls.VolReply.TheVariants as vol
use Rattle.spec_history.specs.declared.scripts.Script.{Script}
use Rattle.spec_model.specs.Calls.{key_of}
use Rattle.spec_runs.specs.NodeRuns.{node_start, CellInput, NodeCell}
use Rattle.law_walks.specs.Sends.{HeldAre, SeatsAre}
use Rattle.law_places.specs.Accepting.{cell_behind}
use Rattle.law_legal.specs.Past.{answered_key}
use Rattle.law_keys.specs.Once.{IsSpent}
use Rattle.law_keys.specs.Ran.{ran_in, RanCall}

-- ---- replies

-- it is one of a volume server or of the location database, and no refusal
abbrev pub is_told : Carried → Bool
is_told (carried.Reply (tell.Volume reply)) = true
is_told (carried.Reply (tell.Location reply)) = true
is_told c = false

-- It tells of a change. The reply to a restore doesn't: each piece of a dump has one, and the last alone changes the volume.
abbrev pub vol_tells_change : VolReply → Bool
vol_tells_change (vol.CreateVolume number) = true
vol_tells_change vol.DeleteVolume = true
vol_tells_change (vol.Clone counter release) = true
vol_tells_change (vol.ReClone counter release) = true
vol_tells_change vol.SetFlags = true
vol_tells_change vol.SetForwarding = true
vol_tells_change reply = false

abbrev pub loc_tells_change : LocReply → Bool
loc_tells_change (loc.CreateEntry stamp) = true
loc_tells_change loc.DeleteEntry = true
loc_tells_change (loc.GetNewVolumeId id) = true
loc_tells_change loc.ReplaceEntry = true
loc_tells_change (loc.SetLock stamp e) = true
loc_tells_change loc.ReleaseLock = true
loc_tells_change reply = false

abbrev pub tells_change : Carried → Bool
tells_change (carried.Reply (tell.Volume reply)) = vol_tells_change reply
tells_change (carried.Reply (tell.Location reply)) = loc_tells_change reply
tells_change c = false

-- ---- the call that a reply is to

-- It ran at the reply's sender, in the boot that the reply carries, and under the key that it answers. Where the reply tells of a change, the
-- call changed something.
pub record IsAnswered (r : RanCall) (m : Message) : Type 0 where
  pub callee : r.callee ≡ m.head.from
  pub boot : r.boot ≡ m.head.boot
  pub key : key_of r.head ≡ answered_key m.head
  pub opcode : r.head.opcode ≡ m.head.opcode
  pub changed : tells_change m.carried ≡ true → r.changed ≡ true

-- it is so of one of these calls
abbrev pub AnyOf : (RanCall → Type 0) → List RanCall → Type 0
AnyOf P [] = ⊥
AnyOf P (r ∷ rs) = P r ⊎ AnyOf P rs

-- If it is such a reply, and no refusal, it answers one of these calls.
abbrev pub WasRun : List RanCall → Message → Type 0
WasRun rs m = is_told m.carried ≡ true → AnyOf (λ (r : RanCall). IsAnswered r m) rs

-- where it tells of a change, its key is spent
abbrev pub HasSpent : NodeCell → Message → Type 0
HasSpent c m = tells_change m.carried ≡ true → IsSpent c m.head.from (answered_key m.head)

-- ---- of each message that was sent, and of each reply that a server or the database keeps, in memory or on its disk, or holds until breaks end

pub record OfEach (P : Message → Type 0) (c : NodeCell) : Type 0 where
  pub sent : AllByRecursion P c.sent
  pub servers : (i : ℕ) → SeatsAre P (c.hosts i).state.vol.seats
  pub disks : (i : ℕ) → SeatsAre P (c.hosts i).state.file.lasting.kept
  pub held : (i : ℕ) → HeldAre P (c.hosts i).state.vol.held
  pub database : SeatsAre P c.loc.state.seats
  pub disk : SeatsAre P c.loc.state.lasting.kept

-- Such a reply, be it late, kept or sent again, is to a call that ran before, in the boot that it carries.
abbrev pub RepliesWereRun : Type 0
RepliesWereRun = (s : Script) (inputs : List CellInput) → OfEach (WasRun (ran_in (node_start s) inputs)) (cell_behind (node_start s) inputs)

-- So whoever is told of a change knows that no copy of its call can run any more, nor any earlier call of its own there.
abbrev pub AnsweredAreSpent : Type 0
AnsweredAreSpent = (s : Script) (inputs : List CellInput) → OfEach (HasSpent (cell_behind (node_start s) inputs)) (cell_behind (node_start s) inputs)
