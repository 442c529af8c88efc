use Rattle.std.proofs.Common.{◌≡◌, ◌≤◌, List, drop}
use Rattle.spec_breaks.specs.Promises.{Lists}
use Rattle.spec_rows.specs.Callbacks.{starts}
use Rattle.spec_rows.specs.States.{Held}
use Rattle.afs_callees.specs.Called.{AreGoodCalls}
use Rattle.afs_server_parts.specs.Turning.{started_with}
use Rattle.afs_server_parts.proofs.pumping.start_all.Given as goal

abbrev pub invariant-loop-oldest : goal.invariant-loop-oldest
invariant-loop-oldest l = record {
  started : (ls : Lists) (hs : List Held) → ls.owed ≡ l.owed → starts l.stand.node l.stand.boot (drop l.oldest-index l.owed) (started_with ls hs l.calls) ≡ starts l.stand.node l.stand.boot l.owed (started_with ls hs l.fn.calls);
  good : AreGoodCalls l.fn.calls.callees.items → AreGoodCalls l.calls.callees.items;
  drawn : l.fn.calls.last ≤ l.calls.last;
}
