-- What of a client no step changes.
use Rattle.std.specs.Prelude.{ℕ, List}
use Rattle.spec_rows.specs.Going.{ClientState}

-- its user, how many entries its cache may have, and its epoch
abbrev pub lasting : ClientState → List ℕ × (ℕ × ℕ)
lasting c = (c.user, (c.capacity, c.epoch))
