use Rattle.std.proofs.Common.{◌≡◌, sym, ◌∙◌}
use Rattle.std.specs.Option.{option_copied}
use Rattle.afs_acts.specs.Walks.{need_of}
use Rattle.afs_entries.specs.Cached.{entry_at, in_sight}
use Rattle.afs_asking.proofs.Walking.{found_is, untrusted_found, trusted_found}
use Rattle.afs_asking.proofs.looks.look_up.Goals as goal

pub returns-then-not-is_trusted : goal.returns-then-not-is_trusted
returns-then-not-is_trusted c =
    let entry = entry_at c.in-Some.fid c.in-Some-find.entry.now in
    let need = need_of c.args.need.now in
    found_is c.args.now (in_sight c.args.sight.cache.now (option_copied c.args.sight.fresh)) need c.in-Some.fid entry _ c.in-Some.ensures c.in-Some-find.ensures
    (untrusted_found c.args.now need entry (sym (c.is_trusted.ensures c.in-Some.fid) ∙ c.if-not-is_trusted.true))

pub returns-in-Some-2 : goal.returns-in-Some-2
returns-in-Some-2 c =
    let entry = entry_at c.in-Some.fid c.in-Some-find.entry.now in
    let need = need_of c.args.need.now in
    found_is c.args.now (in_sight c.args.sight.cache.now (option_copied c.args.sight.fresh)) need c.in-Some.fid entry _ c.in-Some.ensures c.in-Some-find.ensures
    (trusted_found c.args.now need entry c.in-Some-2.body (sym (c.is_trusted.ensures c.in-Some.fid) ∙ c.if-not-is_trusted.false) (sym (c.in_ok-body.ensures c.in-Some.fid) ∙ c.in-Some-2.is))
