use Rattle.std.proofs.Common.{◌+◌, ◌-◌, ◌++◌, ◌∷◌, [], ℕ, List, append_assoc, ap, sym, ◌∙◌}
use Rattle.spec_adminrows.specs.Asks.{from_to}
use Rattle.afs_adminparts.proofs.Surveys.{next_server}
use Rattle.afs_adminparts.proofs.surveying.all_servers.Goals as goal

pub loop-before-preserved : goal.loop-before-preserved
loop-before-preserved c =
    let i = c.loop-before.before in
    let most = c.args.servers in
    let behind = from_to (i + 1 + 1) (most - (i + 1)) in
    ap (λ (ss : List ℕ). ss ++ behind) c.in_ok-push.ensures.ok
    ∙ (append_assoc c.loop-before.all ((i + 1) ∷ []) behind
    ∙ (ap (λ (ss : List ℕ). c.loop-before.all ++ ss) (sym (next_server i most c.loop-before-test.true)) ∙ c.loop-before.invariant))
