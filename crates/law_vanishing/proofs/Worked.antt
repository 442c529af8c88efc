-- Worked lines: which tell that a volume vanishes at a server; and histories that are refused.
use Rattle.std.proofs.Common.{◌≡◌, ◌⊎◌, inl, inr, ℕ, ◌+◌, zero, suc, true, false, [], ◌∷◌, Some, None, refl}
use Rattle.afs_num.specs.declared.histories.Actor.TheVariants as actors
use Rattle.afs_num.specs.declared.messages.Message.{Message}
use Rattle.afs_num.specs.declared.types.Node.TheVariants.{Server}
use Rattle.spec_history.specs.declared.lines.Line.TheVariants as lines
use Rattle.spec_history.specs.declared.scripts.Script.{Script}
use Rattle.spec_rows.proofs.Worked.{home, script}
use Rattle.spec_rows.specs.Runs.{message_at, Entry}
use Rattle.spec_runs.specs.NodeRuns.{has_host, node_start}
use Rattle.law_vanishing.specs.Vanishing.{tells_vanish, IsAskedWell, IsUnfilled, VanishElsewhere}

-- ---- lines

-- one line on this volume at this server does, wherever it stands
told_alone : tells_vanish home (Server 1) (lines.Vanish home (Server 1) ∷ []) ≡ true
told_alone = refl

told_behind : tells_vanish home (Server 1) (lines.Given 1 ∷ lines.Vanish home (Server 1) ∷ []) ≡ true
told_behind = refl

-- no other does
of_another : tells_vanish home (Server 1) (lines.Vanish (home + 1) (Server 1) ∷ []) ≡ false
of_another = refl

at_another : tells_vanish home (Server 1) (lines.Vanish home (Server 2) ∷ []) ≡ false
at_another = refl

of_a_fence : tells_vanish home (Server 1) (lines.Fence home (Server 1) ∷ []) ≡ false
of_a_fence = refl

-- ---- what may not stand

-- a cell of two servers; the script's volume is at the first
abbrev two : Script
two = record (script 1) { servers = 2 }

abbrev deletes : ℕ → Entry
deletes n = record { actor = actors.Node (Server n); lines = lines.Vanish home (Server n) ∷ []; sent = []; volumes = [] }

none_sent : (place : ℕ) (m : Message) → message_at [] place ≡ Some m → ⊥
none_sent zero m e = absurd cc
none_sent (suc zero) m e = absurd cc
none_sent (suc (suc n)) m e = absurd cc

unasked : (n : ℕ) → (has_host (node_start two) n ≡ true) → IsAskedWell two [] n home ⊎ IsUnfilled (node_start two) n home → ⊥
unasked n there (inl x) = none_sent x.asked.place x.asked.m x.asked.sent
unasked n there (inr x) = let up : None ≡ Some x.fall = x.down in absurd cc

-- A volume vanishes where nobody asked for it, and the server goes on: at the server that has it, and at one that doesn't.
vanishes_unasked : VanishElsewhere two [] (deletes 1 ∷ []) → ⊥
vanishes_unasked h = unasked 1 refl (h 0 home 1 (deletes 1) refl refl refl)

vanishes_elsewhere_unasked : VanishElsewhere two [] (deletes 2 ∷ []) → ⊥
vanishes_elsewhere_unasked h = unasked 2 refl (h 0 home 2 (deletes 2) refl refl refl)
