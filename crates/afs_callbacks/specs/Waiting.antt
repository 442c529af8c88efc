-- What a timeout leaves of the promises.
use Rattle.std.specs.Prelude.{if◌then◌else◌}
use Rattle.spec_breaks.specs.Promises.{Lists}
use Rattle.spec_model.specs.Calls.{is_sent_again}
use Rattle.spec_rows.specs.Callbacks.{ends_all}
use Rattle.spec_rows.specs.States.{BackCall}

-- the last gives the breaks up
abbrev pub lists_timed : BackCall → Lists → Lists
lists_timed c l = if is_sent_again c.tries then l else ends_all c.content l
