-- Entries of which each is found under its own number stand under these.
use Rattle.std.proofs.Common.{◌≡◌, ◌+◌, ℕ, [], ◌∷◌, Some}
use Rattle.spec_ideal.specs.Tables.{AscendsFrom, Table}
use Rattle.law_legal.specs.Database.{AreKeyed}
use Rattle.afs_locstore.specs.Listings.{StandByNumber}
use Rattle.afs_locstore.proofs.Listed.{here, later}
use Rattle.spec_records.specs.LocRecords.{Listed}

pub keyed : (m : ℕ) (t : Table Listed) → AscendsFrom m t → StandByNumber t → AreKeyed t
keyed m [] up found = tt
keyed m (p ∷ ps) up found = (found p.0 p.1 (here p ps), keyed (p.0 + 1) ps up.1 (λ n l e. found n l (later n l p ps up.1 e)))
