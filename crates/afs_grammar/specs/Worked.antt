-- Some scripts, and what is read of each: the first bad line and its reason, or the script.
use Rattle.std.specs.Prelude.{◌≡◌, ℕ, List, [], ◌∷◌, ◌++◌, Some, Ok, Err, codes}
use Rattle.afs_num.specs.declared.scripts.Reason.{Reason}
use Rattle.afs_num.specs.declared.scripts.Reason.TheVariants as reasons
use Rattle.afs_num.specs.declared.types.Node.TheVariants as nodes
use Rattle.spec_history.specs.declared.acts.Act.TheVariants as acts
use Rattle.spec_history.specs.declared.acts.Operand.TheVariants as operands
use Rattle.spec_history.specs.declared.scripts.Event.TheVariants as events
use Rattle.spec_history.specs.declared.scripts.Task.TheVariants as tasks
use Rattle.afs_grammar.specs.Lines.{script_of}

abbrev pub whole : ℕ
whole = 10

abbrev pub head : List ℕ
head = codes "cell 1\nservers 1\n"

abbrev pub with_client : List ℕ
with_client = codes "cell 1\nservers 1\nclients 1\n"

-- the line that is bad, and why
abbrev pub IsBad : ℕ → List ℕ → ℕ → Reason → Type 0
IsBad level bytes line reason = script_of level bytes ≡ Err (line, reason)

pub record BadLines : Type 0 where
  pub no_cell : IsBad whole (codes "servers 1\n") 1 reasons.Order
  pub unknown : IsBad whole (codes "cell 1\nserver 1\n") 2 reasons.Word
  pub no_end : IsBad whole head 3 reasons.Missing
  pub too_many_servers : IsBad 6 (codes "cell 1\nservers 2\n") 2 reasons.Limit
  pub all_digits : IsBad whole (head ++ codes "volume 123 s1 1\n") 3 reasons.Name
  pub no_such_client : IsBad whole (with_client ++ codes "do c2 open @1.2.2\n") 4 reasons.Node
  pub plain_escaped : IsBad whole (with_client ++ codes "do c1 open a/%41\n") 4 reasons.Path
  pub filled_too_much : IsBad whole (with_client ++ codes "do c1 close a fill:2097153:00\n") 4 reasons.Limit
  pub ticks_too_many : IsBad whole (head ++ codes "schedule\ntick 600000000\ntick 600000000\n") 5 reasons.Limit
  pub word_before_the_sum : IsBad whole (head ++ codes "schedule\ntick 600000000\ntick 600000000 x\n") 5 reasons.Word
  pub behind_the_end : IsBad whole (head ++ codes "end\n\n") 4 reasons.Order

abbrev pub OneIsRead : Type 0
OneIsRead = script_of whole (with_client ++ codes "do c1 open @536870912.2.2\nschedule\nact c1\ndrain\nend\n") ≡ Ok (record {
  servers = 1;
  clients = 1;
  admins = 0;
  cache = 64;
  capacity = 268435456;
  users = [];
  volumes = [];
  tasks = tasks.Client 1 (acts.Open (operands.Fid (record { volume = 536870912; vnode = 2; unique = 2 }))) ∷ [];
  plans = [];
  schedule = Some (events.Act (nodes.Client 1) ∷ events.Drain ∷ []);
})
