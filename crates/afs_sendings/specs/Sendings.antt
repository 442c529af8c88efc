-- Dumps that are sent to other servers.
use Rattle.std.specs.Prelude.{List, [], ◌∷◌, Option, Some, None}
use Rattle.spec_volrows.specs.VolStates.{Sending}

abbrev pub first_of : List Sending → Option Sending
first_of [] = None
first_of (x ∷ xs) = Some x

abbrev pub rest_of : List Sending → List Sending
rest_of [] = []
rest_of (x ∷ xs) = xs
