use Rattle.std.proofs.Common.{◌≡◌, Option, Some, ap}
use Rattle.std.specs.Option.{option_copied, option_map}
use Rattle.afs_entries.specs.Cached.{entry_at}
use Rattle.afs_asking.proofs.Telling.{trusted_below, untrusted_below}
use Rattle.afs_asking.proofs.replies.is_below.Goals as goal

pub returns-then-not-is_trusted : goal.returns-then-not-is_trusted
returns-then-not-is_trusted c fid =
    untrusted_below c.args.now c.args.index (option_map (entry_at fid) (option_copied c.args.entry)) (entry_at fid c.in-Some.entry.now) c.is_trusted.result (ap (λ o. option_map (entry_at fid) (option_copied o)) c.in-Some.is) (c.is_trusted.ensures fid) c.if-not-is_trusted.true

pub returns-else-not-is_trusted : goal.returns-else-not-is_trusted
returns-else-not-is_trusted c fid =
    trusted_below c.args.now c.args.index (option_map (entry_at fid) (option_copied c.args.entry)) (entry_at fid c.in-Some.entry.now) c.is_trusted.result c.stands_below.result (ap (λ o. option_map (entry_at fid) (option_copied o)) c.in-Some.is) (c.is_trusted.ensures fid) c.if-not-is_trusted.false c.stands_below.ensures
