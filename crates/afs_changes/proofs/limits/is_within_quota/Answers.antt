use Rattle.std.proofs.Common.{◌≡◌, ◌+◌, ℕ, leb, nat_lt, not, subst, arith}
use Rattle.spec_ideal.specs.Volumes.{blocks_in, edited_all}
use Rattle.afs_changes.specs.Planning.{edits_seen}
use Rattle.afs_volume.specs.Giving.{volume_of}
use Rattle.afs_changes.proofs.Sums.{blocks_follow, within}
use Rattle.afs_changes.proofs.limits.is_within_quota.Goals as goal

pub returns : goal.returns
returns c =
    let v = volume_of c.args.volume.now in
    let es = edits_seen c.args.edits.now in
    let after : ℕ = blocks_in (edited_all c.args.volume.now.head.id es v).vnodes in
    let follow = blocks_follow c.args.volume.now.head.id es v c.requires.apart c.requires.ordered in
    let total : after + c.blocks_before.result ≡ c.from-blocks.result + c.blocks_after.result = omega (arith, follow, c.blocks_before.ensures.value, c.blocks_after.ensures.value, c.blocks-2.ensures, c.from-blocks.ensures) in
    subst (λ (q : ℕ). leb (c.from-blocks.result + c.blocks_after.result) (c.quota.result + c.blocks_before.result) ≡ not (nat_lt q after)) c.quota.ensures.value (within c.from-blocks.result c.blocks_after.result c.quota.result c.blocks_before.result after total)
