use Rattle.std.proofs.Common.{◌++◌, List, ℕ, [], ◌∷◌, ap, ◌∙◌}
use Rattle.afs_xdr.specs.Words.{words}
use Rattle.spec_dumps.specs.Streams.{end_magic, end_tag}
use Rattle.afs_dump.specs.Telling.{parts_told}
use Rattle.afs_dump.proofs.Told.{volume_told}
use Rattle.afs_dump.proofs.dumping.dump.Goals as goal

pub returns : goal.returns
returns c =
    let v = c.args.v.now in
    c.in_ok-bytes.ensures
    ∙ (c.in_ok-into_vec.ensures
    ∙ (c.in_ok-words.ensures.ok
    ∙ (ap (λ (z : List ℕ). z ++ words (end_tag ∷ end_magic ∷ [])) (c.in_ok-write_parts.ensures ∙ ap (λ (z : List ℕ). z ++ parts_told c.args.from v.head v.vnodes.table) c.in_ok-w.ensures)
    ∙ volume_told v c.args.from)))
