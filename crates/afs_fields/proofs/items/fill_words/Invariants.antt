use Rattle.std.proofs.Common.{◌≡◌, ◌-◌, take, length}
use Rattle.afs_xdr.specs.Reading.{KeepsEnd}
use Rattle.afs_xdr.specs.Words.{word_at}
use Rattle.spec_shape.specs.Items.{items_at}
use Rattle.spec_shape.proofs.Loops.{with_front}
use Rattle.afs_fields.proofs.items.fill_words.Given as goal

-- the words so far and those still to read are all
abbrev pub invariant-loop-place : goal.invariant-loop-place
invariant-loop-place l = record {
  places : length l.words ≡ length l.fn.words;
  all : with_front (take l.place-index l.words) (items_at word_at (length l.fn.words - l.place-index) l.r.left) ≡ items_at word_at (length l.fn.words) l.fn.r.left;
  end : KeepsEnd l.fn.r l.r;
}
