-- A file server's callbacks, lent to the volume server beside it.
use Rattle.std.specs.Borrow.{Fml, Lends, MutBor}
use Rattle.afs_callbacks.specs.States.{CallbackState}
use Rattle.afs_callbacks.specs.contracts.callbacks.Callbacks.{the_row as callbacks_row}
use Rattle.afs_server.specs.Seen.{Memory}
use Rattle.afs_server.specs.contracts.server.FileServer.{the_row}

-- what the borrower leaves there is what the server has then; all else of it stays
abbrev pub LendsCallbacks : MutBor Memory → MutBor CallbackState → Fml
LendsCallbacks s r = Lends the_row callbacks_row s r (λ w. record s.now { lists = w.lists; callees = w.callees; held = w.held })
