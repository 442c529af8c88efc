-- Worked histories that are refused, each for one reason.
use Rattle.std.proofs.Common.{ℕ, List, [], ◌∷◌}
use Rattle.afs_num.specs.declared.histories.Actor.TheVariants as actors
use Rattle.afs_num.specs.declared.types.Node.TheVariants.{Client, Server}
use Rattle.spec_history.specs.declared.lines.Line.{Line}
use Rattle.spec_history.specs.declared.lines.Line.TheVariants as lines
use Rattle.spec_rows.specs.Runs.{Entry}
use Rattle.law_owed.specs.Quits.{GiveUpLate}

-- an entry of this server with such lines
abbrev tells : ℕ → List Line → Entry
tells server ls = record { actor = actors.Node (Server server); lines = ls; sent = []; volumes = [] }

-- the first server gives its break 1 up
abbrev quits : Line
quits = lines.Quit (Server 1) (Client 1) 1

-- its call 1 in boot 1 is timed out so often
abbrev times_out : ℕ → Line
times_out count = lines.Timeout (Server 1) (Client 1) 1 1 count

-- without a timeout in that entry
untimed : GiveUpLate [] (tells 1 (times_out 1 ∷ []) ∷ tells 1 (times_out 2 ∷ []) ∷ tells 1 (times_out 3 ∷ []) ∷ tells 1 (quits ∷ []) ∷ []) → ⊥
untimed h = absurd h.1.1.1.0.0.quit.third

-- the second timeout was never told
too_soon : GiveUpLate [] (tells 1 (times_out 3 ∷ quits ∷ []) ∷ []) → ⊥
too_soon h = absurd h.0.1.0.second

-- another server's
of_another : GiveUpLate [] (tells 2 (quits ∷ []) ∷ []) → ⊥
of_another h = let no = h.0.0.own_entry in absurd cc
