use Rattle.std.proofs.Common.{◌≡◌, ℕ}
use Rattle.spec_rows.specs.ClientRow.{calls_again}
use Rattle.afs_cache.specs.Managing.{by_act}
use Rattle.afs_cache.proofs.Placing.{told_none}
use Rattle.afs_cache.proofs.node.CacheManager.call_again.Goals as goal

pub returns : goal.returns
returns c =
    let old = c.args.self.now in
    told_none (λ (place : ℕ). by_act old.state.client place (calls_again old.node old.state.client place) old.state.client.running) c.no_lines-lines.result old c.call_again_behind.new.self c.call_again_behind.result c.no_lines-lines.ensures c.call_again_behind.ensures
