-- What a server heard.
use Rattle.afs_num.specs.declared.messages.Received.{Received}
use Rattle.afs_num.specs.declared.messages.Received.TheVariants.{Whole}
use Rattle.afs_num.specs.declared.types.Head.{Head}
use Rattle.spec_model.specs.Messages.{IsSoundCarried}

-- the header is that of what was received, and so of a call that has a spelling, where it was read whole
abbrev pub IsUnder : Head → Received → Type 0
IsUnder head (Whole m) = IsSoundCarried head.half head.opcode m.carried
IsUnder head r = Unit {0}
