use Rattle.std.proofs.Common.{◌∙◌, ap, is_some, sym}
use Rattle.afs_volume.specs.Giving.{volume_of}
use Rattle.afs_setup.proofs.Laid.{is_laid_out, laid_so}
use Rattle.afs_setup.proofs.laying.volume_laid.Goals as goal

pub lay_all-requires : goal.lay_all-requires
lay_all-requires c =
    ap is_some (laid_so c.args.line.now c.in_ok-volume.volume c.as_slice-name.result.now c.as_slice.result.now c.in_ok-volume.ensures.id c.in_ok-volume.ensures.value c.as_slice-name.ensures c.as_slice.ensures) ∙ c.requires.accepted

pub returns-clause-laid : goal.returns-clause-laid
returns-clause-laid c =
    sym (laid_so c.args.line.now c.in_ok-volume.volume c.as_slice-name.result.now c.as_slice.result.now c.in_ok-volume.ensures.id c.in_ok-volume.ensures.value c.as_slice-name.ensures c.as_slice.ensures) ∙ c.in_ok-lay_all.ensures.laid

pub returns-clause-as_set_up : goal.returns-clause-as_set_up
returns-clause-as_set_up c = record { times = c.lay_all.ensures.times c.in_ok-volume.ensures.times; out = is_laid_out c.args.line.now (volume_of c.lay_all.new.volume) (returns-clause-laid c) }
