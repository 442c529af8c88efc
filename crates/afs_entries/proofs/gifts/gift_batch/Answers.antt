use Rattle.std.proofs.Common.{ap, ◌∙◌, take, ℕ}
use Rattle.afs_entries.proofs.Batches.{front}
use Rattle.afs_entries.proofs.gifts.gift_batch.Goals as goal

pub returns : goal.returns
returns c = c.split_at.ensures.front ∙ (ap (λ (n : ℕ). take n c.args.gifts.now) c.batch_len.ensures.value ∙ front c.args.gifts.now)
