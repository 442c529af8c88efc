-- Each vnode of a volume has its time.
use Rattle.std.proofs.Common.{◌≡◌, ℕ, Bool, true, false, cond, [], ◌∷◌, Option, Some, nat_eq, ap}
use Rattle.afs_num.specs.declared.vnodes.Vnode as image
use Rattle.spec_ideal.specs.Tables.{Table, get}
use Rattle.spec_records.specs.Durable.{or_zero}
use Rattle.afs_volume.specs.Taking.{times_in}

time_by : (b : Bool) (p : ℕ × image.Vnode) (x : image.Vnode) (o : Option image.Vnode) (time : Option ℕ) → (o ≡ Some x → or_zero time ≡ x.server_time) → cond b (Some p.1) o ≡ Some x → or_zero (cond b (Some p.1.server_time) time) ≡ x.server_time
time_by true p x o time more e = ap (λ (y : image.Vnode). y.server_time) (let z : p.1 ≡ x = cc in z)
time_by false p x o time more e = more e

pub times_are : (t : Table image.Vnode) (n : ℕ) (x : image.Vnode) → get n t ≡ Some x → or_zero (get n (times_in t)) ≡ x.server_time
times_are [] n x e = absurd cc
times_are (p ∷ ps) n x e = time_by (nat_eq p.0 n) p x (get n ps) (get n (times_in ps)) (times_are ps n x) e
