-- What an entry tells of the life of its node: what it is given, how the node stops, and how it begins again.
use Rattle.spec_history.specs.declared.lines.Line.{Line}
use Rattle.spec_history.specs.declared.lines.Line.TheVariants as lines
use Rattle.law_legal.specs.Past.{IsCall, given_message, has_given, sent_of, server_boot}
use Rattle.afs_num.specs.Nodes.{same_node}
use Rattle.afs_num.specs.declared.histories.Actor.{Actor}
use Rattle.afs_num.specs.declared.histories.Actor.TheVariants as actors
use Rattle.afs_num.specs.declared.messages.Message.{Message}
use Rattle.afs_num.specs.declared.types.Node.{Node}
use Rattle.spec_rows.specs.Runs.{Entry}
use Rattle.std.specs.Prelude.{◌≡◌, ◌≤◌, ◌+◌, ◌⊎◌, ℕ, List, [], ◌∷◌, true, Option, Some, None, ⊤, if◌then◌else◌}

-- ---- what is given

-- there is such a message, and it is to this node
abbrev pub IsTo : Actor → Option Message → Type 0
IsTo who None = ⊥
IsTo who (Some m) = who ≡ actors.Node m.head.to

-- what an entry is given was sent before, to its node
abbrev pub IsDelivered : Actor → List Entry → List Line → Type 0
IsDelivered who past ls = has_given ls ≡ true → IsTo who (given_message ls (sent_of past))

-- ---- numbers of lives, by lines, the newest first

-- a client's epoch: one more than its crashes
abbrev pub epoch_after : Node → List Line → ℕ
epoch_after c [] = 1
epoch_after c (lines.Crash n ∷ older) = if same_node n c then epoch_after c older + 1 else epoch_after c older
epoch_after c (l ∷ older) = epoch_after c older

-- a failure in a step of a server that is up writes no boot; one in a restart may have written the next
abbrev pub boot_written : Option ℕ → ℕ → ℕ
boot_written None last = last + 1
boot_written (Some boot) last = last

-- the highest boot that a server can have written to its disk: the one that it told last, and one more for each restart since in which its
-- disk failed
abbrev pub last_written : Node → List Line → ℕ
last_written s [] = 1
last_written s (lines.Restart n boot ∷ older) = if same_node n s then boot else last_written s older
last_written s (lines.Fault n ∷ older) = if same_node n s then boot_written (server_boot s older) (last_written s older) else last_written s older
last_written s (l ∷ older) = last_written s older

-- ---- an entry of a server

abbrev pub AreOwes : List Line → Type 0
AreOwes [] = ⊤
AreOwes (lines.Owe s c what n ∷ ls) = AreOwes ls
AreOwes ls = ⊥

abbrev pub AreCalls : List Message → Type 0
AreCalls [] = ⊤
AreCalls (m ∷ ms) = IsCall m.carried × AreCalls ms

-- One that is down tells first what an interrupted step left. Then it begins again, in a boot not above `most`, owes its breaks, and sends
-- calls alone; or its disk fails or has no room for that, and it sends nothing
abbrev pub IsStart : ℕ → List Line → List Message → Type 0
IsStart most [] sent = ⊥
IsStart most (lines.Change s k count ∷ ls) sent = IsStart most ls sent
IsStart most (lines.Version v ∷ ls) sent = IsStart most ls sent
IsStart most (lines.Locked v stamp operation ∷ ls) sent = IsStart most ls sent
IsStart most (lines.Unlocked v ∷ ls) sent = IsStart most ls sent
IsStart most (lines.Recovered v ∷ ls) sent = IsStart most ls sent
IsStart most (lines.Located v server ∷ ls) sent = IsStart most ls sent
IsStart most (lines.Restart s boot ∷ ls) sent = (boot ≤ most) × (AreOwes ls × AreCalls sent)
IsStart most (lines.Fault s ∷ ls) sent = (ls ≡ []) × (sent ≡ [])
IsStart most (lines.Full s ∷ ls) sent = (ls ≡ []) × (sent ≡ [])
IsStart most (l ∷ ls) sent = ⊥

-- no stop and no restart is told, whole or failed
abbrev pub TellsNoStop : List Line → Type 0
TellsNoStop [] = ⊤
TellsNoStop (lines.Crash n ∷ ls) = ⊥
TellsNoStop (lines.Fault n ∷ ls) = ⊥
TellsNoStop (lines.Restart n boot ∷ ls) = ⊥
TellsNoStop (lines.Full n ∷ ls) = ⊥
TellsNoStop (l ∷ ls) = TellsNoStop ls

-- a stop is told: a crash, alone or after what was given; or a fault after what was given
abbrev pub TellsStop : List Line → Type 0
TellsStop (lines.Crash n ∷ []) = ⊤
TellsStop (lines.Given place ∷ lines.Crash n ∷ []) = ⊤
TellsStop (lines.Given place ∷ lines.Fault n ∷ []) = ⊤
TellsStop ls = ⊥

-- One that is up goes on, or stops and does nothing else
abbrev pub IsHostLived : Option ℕ → ℕ → List Line → List Message → Type 0
IsHostLived None most ls sent = IsStart most ls sent
IsHostLived (Some boot) most ls sent = TellsNoStop ls ⊎ (TellsStop ls × (sent ≡ []))
