-- What a timeout leaves of the promises, and of the numbers that are drawn.
use Rattle.std.proofs.Common.{◌≡◌, ℕ, Bool, true, false, cond, refl}
use Rattle.std.specs.Prelude.{nat_lt}
use Rattle.afs_num.specs.declared.types.Node.{Node}
use Rattle.spec_breaks.specs.Promises.{Lists}
use Rattle.spec_rows.specs.Callbacks as row
use Rattle.spec_rows.specs.Callbacks.{ends_all, call_timed_out}
use Rattle.spec_rows.specs.States.{BackCall, Backs}
use Rattle.afs_callbacks.specs.Waiting.{lists_timed}

timed_by : (b : Bool) (t u : row.CallbackStep) (l : Lists) (k : Lists) → t.backs.lists ≡ l → u.backs.lists ≡ k → (cond b t u).backs.lists ≡ cond b l k
timed_by true t u l k p q = p
timed_by false t u l k p q = q

pub timed_lists : (me : Node) (boot : ℕ) (n : Node) (c : BackCall) (b : Backs) → (call_timed_out me boot n c b).backs.lists ≡ lists_timed c b.lists
timed_lists me boot n c b = timed_by (nat_lt c.tries 2) _ _ b.lists (ends_all c.content b.lists) refl refl

last_by : (b : Bool) (t u : row.CallbackStep) (k : ℕ) → t.backs.last_call ≡ k → u.backs.last_call ≡ k → (cond b t u).backs.last_call ≡ k
last_by true t u k p q = p
last_by false t u k p q = q

pub timed_last : (me : Node) (boot : ℕ) (n : Node) (c : BackCall) (b : Backs) → (call_timed_out me boot n c b).backs.last_call ≡ b.last_call
timed_last me boot n c b = last_by (nat_lt c.tries 2) _ _ b.last_call refl refl
