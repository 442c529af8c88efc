use Rattle.afs_words.proofs.FirstPart.{first_part, only_part}
use Rattle.afs_words.proofs.parts.cut_at.Goals as goal

pub returns-then-place-bytes : goal.returns-then-place-bytes
returns-then-place-bytes c = first_part _ _ _ _ _ c.place_of-place.ensures c.if-place-bytes.true c.split_at-then-place-bytes.ensures.front c.split_at.ensures.back

pub returns-else-place-bytes : goal.returns-else-place-bytes
returns-else-place-bytes c = only_part _ _ _ c.place_of-place.ensures c.if-place-bytes.false
