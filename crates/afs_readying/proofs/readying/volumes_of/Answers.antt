use Rattle.std.proofs.Common.{◌≡◌, ◌∷◌, ◌++◌, ◌∙◌, ap, sym, map, None, List, rules}
use Rattle.std.specs.Vec.Iter.{into_iter_items}
use Rattle.afs_num.specs.declared.records.StoredVolume.{StoredVolume}
use Rattle.spec_records.specs.Durable.{stored_of, with_volumes}
use Rattle.afs_memory.specs.Redos.{told}
use Rattle.afs_readying.proofs.Readied.{none_among}
use Rattle.afs_readying.proofs.readying.volumes_of.Goals as goal

pub returns-in_err-volume-clause-bad : goal.returns-in_err-volume-clause-bad
returns-in_err-volume-clause-bad c = λ e d.
    let first : into_iter_items c.loop-one.one-iterator ≡ c.in-Some.one ∷ into_iter_items c.next.new.self = search rules in
    let none : stored_of c.in-Some.one ≡ None = search rules in
    ap (λ (vs : List StoredVolume). with_volumes vs d) (sym c.loop-one.invariant.told ∙ ap (λ (vs : List StoredVolume). map told c.loop-one.volumes ++ vs) first) ∙ none_among (map told c.loop-one.volumes) c.in-Some.one (into_iter_items c.next.new.self) none d
