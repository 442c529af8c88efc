-- The order of the lines: each first word has the turns from which to which it may come, and the turn that it leads to.
use Rattle.std.specs.Prelude.{ℕ, Bool, true, false, ◌-◌, ◌&&◌, nat_eq, nat_le, if◌then◌else◌}
use Rattle.afs_grammar.specs.declared.spellings.FirstWord.{FirstWord}
use Rattle.afs_grammar.specs.declared.spellings.FirstWord.TheVariants as words

-- behind `cell` and `servers` a script may leave out what it needn't say; events stand behind `schedule`
abbrev pub from_turn : FirstWord → ℕ
from_turn words.Cell = 0
from_turn words.Servers = 1
from_turn words.Act = 12
from_turn words.Deliver = 12
from_turn words.Drain = 12
from_turn words.Timeout = 12
from_turn words.Wake = 12
from_turn words.Tick = 12
from_turn words.Crash = 12
from_turn words.Restart = 12
from_turn words.Stop = 12
from_turn words.Fail = 12
from_turn _ = 2

abbrev pub next_turn : FirstWord → ℕ
next_turn words.Cell = 1
next_turn words.Servers = 2
next_turn words.Clients = 3
next_turn words.Admins = 4
next_turn words.Cache = 5
next_turn words.Capacity = 6
next_turn words.User = 7
next_turn words.Volume = 8
next_turn words.Dir = 9
next_turn words.File = 9
next_turn words.Link = 9
next_turn words.Acl = 9
next_turn words.Do = 10
next_turn words.Plan = 11
next_turn words.Schedule = 12
next_turn words.End = 14
next_turn _ = 13

-- lines of this word may stand side by side
abbrev pub repeats : FirstWord → Bool
repeats words.Cell = false
repeats words.Servers = false
repeats words.Clients = false
repeats words.Admins = false
repeats words.Cache = false
repeats words.Capacity = false
repeats words.Schedule = false
repeats words.End = false
repeats _ = true

abbrev pub to_turn : FirstWord → ℕ
to_turn first = if repeats first then next_turn first else next_turn first - 1

abbrev pub is_due : ℕ → FirstWord → Bool
is_due turn first = nat_le (from_turn first) turn && nat_le turn (to_turn first)

-- the line `end` was read
abbrev pub has_ended : ℕ → Bool
has_ended turn = nat_eq turn 14
