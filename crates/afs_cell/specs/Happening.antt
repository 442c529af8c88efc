-- How what happened at a node is told.
use Rattle.std.specs.Prelude.{◌≡◌, ◌+◌, [], ◌∷◌, ◌++◌, true, length, Option, Result, Ok, Err}
use Rattle.afs_num.specs.declared.types.Node.{Node}
use Rattle.spec_history.specs.declared.lines.Line.{Line}
use Rattle.afs_cell.specs.Worlds.{WorldState}
use Rattle.afs_cell.specs.declared.faults.WorldFault.{WorldFault}
use Rattle.afs_cell.specs.declared.faults.WorldFault.TheVariants as faults
use Rattle.afs_clients.specs.declared.happening.Happened.{Happened}
use Rattle.afs_clients.specs.declared.happening.Happened.TheVariants as happened
use Rattle.afs_clients.specs.Happening.{entry_of, front_lines, void_entry}

-- ---- what is told of it

-- want of memory leaves the world as it is here
abbrev pub Wants : {D : Type 0} → WorldState D → WorldState D → WorldFault → Type 0
Wants {D} now new e = (e ≡ faults.OutOfMemory) × (new ≡ now)

-- nothing happened, and that is told
abbrev pub NothingSettles : {D : Type 0} → WorldState D → WorldState D → Result (Unit {0}) WorldFault → Type 0
NothingSettles {D} old new (Ok done) = new ≡ record old { history = old.history ++ void_entry ∷ [] }
NothingSettles {D} old new (Err e) = Wants old new e

-- what happened at this node is told behind this line, and its messages are sent
abbrev pub Settles : {D : Type 0} → Node → Option Line → Happened → WorldState D → WorldState D → Result (Unit {0}) WorldFault → Type 0
Settles {D} node front happened.Nothing old new (Ok done) = new ≡ record old { history = old.history ++ void_entry ∷ [] }
Settles {D} node front happened.Nothing old new (Err e) = Wants old new e
Settles {D} node front (happened.Step outs) old new (Ok done) =
    new ≡ record old { wire = old.wire ++ outs.parcels; history = old.history ++ entry_of node (front_lines front ++ outs.lines) (length outs.parcels) ∷ [] }
Settles {D} node front (happened.Step outs) old new (Err e) = Wants (record old { is_lost = true }) new e
Settles {D} node front happened.Unchanged old new (Ok done) = ⊥
Settles {D} node front happened.Unchanged old new (Err e) = Wants old new e
Settles {D} node front happened.Lost old new (Ok done) = ⊥
Settles {D} node front happened.Lost old new (Err e) = Wants (record old { is_lost = true }) new e
