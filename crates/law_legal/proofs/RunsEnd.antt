-- The end of a run: what its servers hold, and that what was acknowledged is kept.
use Rattle.law_legal.proofs.VolumesAreIdeal.{run_volumes}
use Rattle.law_legal.proofs.VolumesSurvive.{run_survives}
use Rattle.law_legal.specs.Laws.{RunsEndWell}

pub run_ends : RunsEndWell
run_ends s history end cell r = record {
  held = run_volumes s history end r;
  kept = λ before after e first rest c code act split line runs is zero. run_survives s history before after e first rest c code act end cell r split line runs is zero;
}
