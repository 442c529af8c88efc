-- A message that says of itself that it is of another node than sent it: such a history is refused.
use Rattle.std.proofs.Common.{◌≡◌, [], ◌∷◌, refl}
use Rattle.afs_num.specs.declared.histories.Actor.TheVariants as actors
use Rattle.afs_num.specs.declared.messages.Carried.TheVariants as carried
use Rattle.afs_num.specs.declared.types.Half.TheVariants as halves
use Rattle.afs_num.specs.declared.types.Node.{Node}
use Rattle.afs_num.specs.declared.types.Node.TheVariants.{Admin, Loc, Server}
use Rattle.spec_rows.specs.Runs.{Entry}
use Rattle.law_walks.specs.Messages.{HaveSenders}

-- this node sends a notice in that node's name
abbrev says : Node → Node → Entry
says n from = record {
  actor = actors.Node n;
  lines = [];
  sent = record { head = record { half = halves.Boot; from = from; to = Admin 1; epoch = 1; number = 1; boot = 2; stamp = 0; opcode = 0 }; carried = carried.Notice } ∷ [];
  volumes = [];
}

its_own : HaveSenders (says (Server 1) (Server 1) ∷ [])
its_own = ((λ n is. let same : Server 1 ≡ n = cc in (same, tt)), tt)

in_the_databases_name : HaveSenders (says (Server 1) Loc ∷ []) → ⊥
in_the_databases_name h = let same : Loc ≡ Server 1 = (h.0 (Server 1) refl).0 in absurd cc
