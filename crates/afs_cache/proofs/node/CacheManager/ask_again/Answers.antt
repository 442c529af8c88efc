use Rattle.std.proofs.Common.{◌≡◌, ℕ, ◌+◌, ◌∷◌, ◌++◌, List, Some, None, ap, sym, ◌∙◌}
use Rattle.spec_rows.specs.Going.{ClientState, Going}
use Rattle.afs_cache.proofs.Sought.{again_taken}
use Rattle.afs_cache.proofs.node.CacheManager.ask_again.Goals as goal

pub returns : goal.returns
returns c =
    again_taken c.args.self.now c.note_database.new.self c.args.boot c.sought.result.now c.in_ok-outs.outs c.sought.ensures c.in_ok-note_database.ensures.ok c.in_ok-outs.ensures.lines c.in_ok-outs.ensures.sent
