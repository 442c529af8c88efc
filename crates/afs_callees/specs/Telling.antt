-- The lines of what a reply grants.
use Rattle.std.specs.Prelude.{ℕ, List, map}
use Rattle.afs_num.specs.declared.types.Node.{Node}
use Rattle.spec_history.specs.declared.lines.Line.{Line}
use Rattle.spec_history.specs.declared.lines.Line.TheVariants as lines
use Rattle.spec_ideal.specs.Operations.{Found}
use Rattle.afs_callees.specs.declared.telling.Grant.{Grant}

abbrev pub grant_line : Node → Node → ℕ → Grant → Line
grant_line server client expiry g = lines.Grant server client g.fid g.index expiry

-- what a reply grants of these vnodes
abbrev pub grants_seen : List Found → List Grant
grants_seen fs = map (λ (f : Found). record { fid = f.fid; index = f.vnode.index }) fs
