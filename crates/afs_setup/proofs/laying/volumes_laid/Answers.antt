use Rattle.std.proofs.Common.{◌≡◌, ◌∷◌, ◌+◌, Bor, List, drop, map, subst}
use Rattle.spec_history.specs.declared.scripts.VolumeLine.{VolumeLine}
use Rattle.afs_volstore.specs.Laying.{HaveShortNames}
use Rattle.afs_setup.proofs.Laid.{next_of, next_volume, still_few, still_laid}
use Rattle.afs_memory.specs.Numbered.{volume_number}
use Rattle.afs_shelves.proofs.Numbers.{now_numbered}
use Rattle.afs_setup.proofs.laying.volumes_laid.Goals as goal

pub loop-line-preserved : goal.loop-line-preserved
loop-line-preserved c =
    let i = c.loop-line.line-index in
    let line = c.line-item.result.now in
    let rest : List VolumeLine = map (λ (l : Bor VolumeLine). l.now) (drop (i + 1) c.args.lines.now) in
    let first : map (λ (l : Bor VolumeLine). l.now) (drop i c.args.lines.now) ≡ line ∷ rest = next_of (λ (l : Bor VolumeLine). l.now) c.args.lines.now i c.line-item.result c.loop-line-test.true c.line-item.is in
    record {
      laid = next_volume line rest (map (λ (l : Bor VolumeLine). l.now) (drop i c.args.lines.now)) c.in_ok-volume.volume c.loop-line.volumes.table c.put.new.self.table _ first c.loop-line.invariant.laid c.in_ok-volume.ensures.laid c.in_ok-volume.ensures.as_set_up.times c.in_ok-put.ensures.ok;
      names = (let all : HaveShortNames (line ∷ rest) = subst HaveShortNames first c.loop-line.invariant.names in all.1);
      as_set_up = still_laid line.id c.in_ok-volume.volume c.loop-line.volumes.table c.put.new.self.table c.in_ok-put.ensures.ok c.in_ok-volume.ensures.as_set_up c.loop-line.invariant.as_set_up;
      numbered = now_numbered volume_number line.id c.in_ok-volume.volume c.loop-line.volumes.table c.put.new.self.table c.in_ok-put.ensures.ok c.in_ok-volume.ensures.id c.loop-line.invariant.numbered;
      few = still_few line.id i c.in_ok-volume.volume c.loop-line.volumes.table c.put.new.self.table c.in_ok-put.ensures.ok c.loop-line.invariant.few;
    }
