use Rattle.std.proofs.Common.{◌≡◌, ◌∙◌, ◌≤◌, [], List, Some, Bor, ℕ, ap, length, map, refl, sym, subst}
use Rattle.std.proofs.lemmas.List.{length-map}
use Rattle.spec_history.specs.declared.scripts.VolumeLine.{VolumeLine}
use Rattle.spec_records.specs.Durable.{most_volumes}
use Rattle.afs_seats.specs.Seated.{seen_as}
use Rattle.afs_volume.specs.Taking.{stored_of}
use Rattle.afs_setup.proofs.Laid.{first_fits, first_is, first_taken}
use Rattle.afs_setup.proofs.laying.first_record.Goals as goal

pub returns-clause-value : goal.returns-clause-value
returns-clause-value c =
    first_is (map (λ (l : Bor VolumeLine). l.now) c.args.volumes.now) (seen_as stored_of c.in_ok-laid.laid.table) c.no_head-head.result c.in_ok-volumes.volumes c.in_ok-laid.ensures.laid c.no_head-head.ensures.value c.in_ok-volumes.ensures.told

few_lines : (lines : List (Bor VolumeLine)) → length (map (λ (l : Bor VolumeLine). l.now) lines) ≤ most_volumes → length lines ≤ most_volumes
few_lines lines few = subst (λ (n : ℕ). n ≤ most_volumes) (length-map lines (λ (l : Bor VolumeLine). l.now)) few

pub returns-clause-fits : goal.returns-clause-fits
returns-clause-fits c =
    first_fits c.no_head-head.result c.in_ok-laid.laid.table c.in_ok-volumes.volumes (length c.args.volumes.now) c.no_head-head.ensures.fits c.in_ok-volumes.ensures.told c.in_ok-laid.ensures.few (few_lines c.args.volumes.now c.requires.few) c.in_ok-volumes.ensures.fits

pub returns-clause-taken : goal.returns-clause-taken
returns-clause-taken c = λ d none.
    first_taken c.in_ok-laid.laid.table c.in_ok-volumes.volumes (length c.args.volumes.now) d c.in_ok-volumes.ensures.told c.in_ok-laid.ensures.few (few_lines c.args.volumes.now c.requires.few) c.in_ok-volumes.ensures.taken none

pub returns-clause-first : goal.returns-clause-first
returns-clause-first c = refl
