use Rattle.std.proofs.Common.{◌++◌, ap, subst, sym, ◌∙◌, List}
use Rattle.std.specs.List.{All}
use Rattle.std.proofs.lemmas.List.Elements.{All-tail}
use Rattle.spec_history.specs.declared.scripts.VolumeLine.{VolumeLine}
use Rattle.spec_rows.specs.Runs.{locations_in}
use Rattle.afs_acts.specs.Acts.{HasServer}
use Rattle.afs_acts.proofs.Told.{first_line, told_on}
use Rattle.afs_acts.proofs.known.locations.Goals as goal

pub loop-volume-preserved : goal.loop-volume-preserved
loop-volume-preserved c =
    let v = c.in-Some.volume.now in
    let more = c.in-Some.more.now in
    let lines = first_line c.loop-volume.rest.now v more (sym c.in-Some.ensures.value) in
    record {
      told = told_on c.loop-volume.table.items c.add_place.new.table.items v more c.is_told.result c.is_told.ensures (c.in_ok-add_place.ensures (locations_in more)) ∙ (ap (λ (vs : List VolumeLine). c.loop-volume.table.items ++ locations_in vs) (sym lines) ∙ c.loop-volume.invariant.told);
      servers = All-tail HasServer v more (subst (All HasServer) lines c.loop-volume.invariant.servers);
    }
