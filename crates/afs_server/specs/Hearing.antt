-- Replies and notices that a server gets to its own calls.
use Rattle.std.specs.Prelude.{ℕ, Option, Some, None}
use Rattle.afs_num.specs.declared.types.Head.{Head}
use Rattle.afs_num.specs.declared.types.Node.{Node}
use Rattle.spec_rows.specs.Callbacks as row
use Rattle.spec_rows.specs.Callbacks.{if_to, no_turn, renews, renews_by, settles, settles_by}
use Rattle.spec_rows.specs.States.{BackCall, Backs}

-- what the row does with a reply or a refusal, and with a notice
abbrev pub answered_turn : Node → ℕ → Head → Backs → row.CallbackStep
answered_turn me boot head b = if_to me head b (settles_by me boot head b (b.calls head.from))

abbrev pub noticed_turn : Node → ℕ → Head → Backs → row.CallbackStep
noticed_turn me boot head b = if_to me head b (renews_by me boot head b (b.calls head.from))

-- the same, by the call that the message is to
abbrev pub settled_turn : Node → Head → Backs → Option BackCall → row.CallbackStep
settled_turn me head b None = no_turn b
settled_turn me head b (Some c) = settles me head.from c b

abbrev pub renewed_turn : Node → ℕ → Head → Backs → Option BackCall → row.CallbackStep
renewed_turn me boot head b None = no_turn b
renewed_turn me boot head b (Some c) = renews me boot head.from head.boot c b
