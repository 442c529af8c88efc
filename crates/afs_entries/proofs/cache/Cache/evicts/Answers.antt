use Rattle.std.proofs.Common.{subst, arith}
use Rattle.afs_entries.specs.Cached.{IsSound, cached}
use Rattle.afs_entries.proofs.Listing.{apart}
use Rattle.afs_entries.proofs.Removing.{map_length}
use Rattle.afs_entries.proofs.cache.Cache.evicts.Goals as goal

pub returns-in-Some-clause-sound : goal.returns-in-Some-clause-sound
returns-in-Some-clause-sound c =
    let es = c.self.inside.entries.entries in
    let long = map_length cached es in
    let few = c.self.invariant.few in
    subst IsSound c.self.view_is (record { some = c.self.invariant.some; few = omega (arith, long, few); apart = apart es c.len-count.ensures.valid.0 })

pub returns-in-None-clause-sound : goal.returns-in-None-clause-sound
returns-in-None-clause-sound c =
    let es = c.self.inside.entries.entries in
    let long = map_length cached es in
    let few = c.self.invariant.few in
    subst IsSound c.self.view_is (record { some = c.self.invariant.some; few = omega (arith, long, few); apart = apart es c.len-count.ensures.valid.0 })
