use Rattle.std.proofs.Common.{subst}
use Rattle.spec_ideal.specs.Tables.{AscendsFrom}
use Rattle.afs_locstore.specs.Listings.{Listings, StandByNumber}
use Rattle.afs_locstore.proofs.entries.Entries.are_keyed.Goals as goal

pub returns-clause-keyed : goal.returns-clause-keyed
returns-clause-keyed c = subst (λ (v : Listings). StandByNumber v.table) c.self.view_is c.self.invariant.keyed

pub returns-clause-ordered : goal.returns-clause-ordered
returns-clause-ordered c = subst (λ (v : Listings). AscendsFrom 0 v.table) c.self.view_is c.self.invariant.ordered
