use Rattle.std.proofs.Common.{◌≡◌, ◌∷◌, ◌∙◌, sym, rules}
use Rattle.std.specs.Vec.Iter.{into_iter_items}
use Rattle.afs_memory.specs.Redos.{IsMadeAgain}
use Rattle.afs_memory.proofs.Redone.{none_more, one_more}
use Rattle.afs_memory.proofs.redoing.put_volumes.Goals as goal

pub loop-volume-preserved : goal.loop-volume-preserved
loop-volume-preserved c =
    let first : into_iter_items c.loop-volume.volume-iterator ≡ c.in-Some.volume ∷ into_iter_items c.next.new.self = search rules in
    let again : IsMadeAgain c.in-Some.volume = search rules in
    let put = c.put_volume.ensures.put (search rules) in
    record {
      kept = λ d. one_more c.in-Some.volume (into_iter_items c.next.new.self) (into_iter_items c.loop-volume.volume-iterator) c.loop-volume.volumes.table c.put_volume.new.volumes.table first again put.0 put.1 d ∙ c.loop-volume.invariant.kept d;
      again = search rules;
      numbered = c.put_volume.ensures.numbered;
      room = search rules;
    }

pub returns-then-not-put_volume-clause-many : goal.returns-then-not-put_volume-clause-many
returns-then-not-put_volume-clause-many c = λ e d.
    let first : into_iter_items c.loop-volume.volume-iterator ≡ c.in-Some.volume ∷ into_iter_items c.next.new.self = search rules in
    let again : IsMadeAgain c.in-Some.volume = search rules in
    sym (c.loop-volume.invariant.kept d) ∙ none_more c.in-Some.volume (into_iter_items c.next.new.self) (into_iter_items c.loop-volume.volume-iterator) c.loop-volume.volumes.table first again (c.put_volume.ensures.many (search rules)) d
