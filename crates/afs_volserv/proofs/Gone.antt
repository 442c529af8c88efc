-- What the withdrawn promises of a volume leave.
use Rattle.std.proofs.Common.{◌≡◌, ◌≤◌, ℕ, ◌++◌, Option, Some, None, refl, sym, arith, append-nil}
use Rattle.std.specs.Prelude.{not}
use Rattle.std.specs.List.{All}
use Rattle.std.proofs.lemmas.List.Elements.{All-filter}
use Rattle.spec_breaks.specs.Promises.{expired, promise_on_volume, Lists}
use Rattle.spec_breaks.specs.declared.types.Promise.{Promise}
use Rattle.spec_volrows.specs.VolSteps.{owes_of, withdraws_from}
use Rattle.afs_promise.proofs.Lists.{volume_both}
use Rattle.afs_callbacks.proofs.Lasting.{lasting_promised}
use Rattle.afs_callbacks.specs.States.{IsPromiseToNode}
use Rattle.afs_sharing.proofs.Drawn.{breaks_drawn, expired_draws}

pub gone_owed : (w : Option ℕ) (l : Lists) → (withdraws_from w l).owed ≡ l.owed ++ owes_of w l
gone_owed None l = sym (append-nil l.owed)
gone_owed (Some id) l = refl

gone_promised : (w : Option ℕ) (l : Lists) → All IsPromiseToNode l.promises → All IsPromiseToNode (withdraws_from w l).promises
gone_promised None l all = all
gone_promised (Some id) l all = All-filter (λ (p : Promise). not (promise_on_volume id p)) IsPromiseToNode l.promises all

gone_drawn : (w : Option ℕ) (l : Lists) → breaks_drawn (withdraws_from w l) ≡ breaks_drawn l
gone_drawn None l = refl
gone_drawn (Some id) l = let both = volume_both id l.promises in omega (arith, both)

-- at this time
pub gone_to_nodes : (w : Option ℕ) (now : ℕ) (l : Lists) → All IsPromiseToNode l.promises → All IsPromiseToNode (withdraws_from w (expired now l)).promises
gone_to_nodes w now l all = gone_promised w (expired now l) (lasting_promised now l.promises all)

pub gone_draws : (w : Option ℕ) (now : ℕ) (l : Lists) → breaks_drawn (withdraws_from w (expired now l)) ≤ breaks_drawn l
gone_draws w now l = let same = gone_drawn w (expired now l) in let less = expired_draws now l in omega (arith, same, less)
