use Rattle.std.proofs.Common.{◌<◌, ℕ, Option, sym, subst}
use Rattle.std.specs.Prelude.{IfSome}
use Rattle.spec_records.specs.LocRecords.{listed_form, Listed}
use Rattle.afs_locstore.proofs.Sites.{site_is_small}
use Rattle.afs_locstore.proofs.state.tell_set.Goals as goal

pub tell_located-requires : goal.tell_located-requires
tell_located-requires c =
    let l : Listed = record { entry = c.listed.inside.entry; lock = c.listed.inside.lock } in
    subst (λ (o : Option ℕ). IfSome o (λ n. n < 256)) (sym c.site_of.ensures) (site_is_small l (subst listed_form.Fits (sym c.listed.view_is) c.requires))
