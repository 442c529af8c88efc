use Rattle.std.specs.Prelude.{◌≡◌, ◌+◌, [], ◌∷◌, List, ℕ, Ok, length}
use Rattle.std.proofs.Common.{refl, rules, ap, sym, ◌∙◌, arith}
use Rattle.std.specs.Vec.Iter.{into_iter_items}
use Rattle.std.proofs.lemmas.List.{nil_from_length}
use Rattle.afs_disk.specs.declared.disks.Lent.{Lent}
use Rattle.std.proofs.Math.Nat.{le_refl}
use Rattle.afs_lending.specs.Lending.{all_kept, kept_disks, with_faults}
use Rattle.afs_lending.proofs.Returns.{all_back, all_quiet, cause_next, goes_on, gone_back, none_yet, sum_next}
use Rattle.afs_lending.proofs.lending.give_back.Goals as goal

pub loop-found-init : goal.loop-found-init
loop-found-init g c =
    let e = c.give_one-taken.ensures in
    let given = c.into_iter-found-iterator.ensures.into_iter_gives.0 in
    let rest = kept_disks (1 + 0) (into_iter_items c.into_iter-found-iterator.result) in
    let lent : Lent g.row.B-D.Denot = record { node = 0; disk = c.args.database } in
    let all : lent ∷ rest ≡ all_kept c.args.database c.args.left.items = ap (all_kept c.args.database) given in
    let before = g.B.Bank.faults c.args.bank.now in
    record {
      place = omega (arith, ap length given);
      back = goes_on g.B.D.Disk.seen (lent ∷ rest) rest (all_kept c.args.database c.args.left.items) lent (g.B.Bank.given c.args.bank.now) (g.B.Bank.given c.give_one-taken.new.bank) (g.B.Bank.given c.args.bank.now) before before (g.B.Bank.faults c.give_one-taken.new.bank) (Ok tt) c.give_one-taken.result refl e.never_falls
          (none_yet g.B.D.Disk.seen (lent ∷ rest) (all_kept c.args.database c.args.left.items) (g.B.Bank.given c.args.bank.now) before (Ok tt) all) e.goes;
      cause = cause_next (Ok tt) c.give_one-taken.result before before (g.B.Bank.faults c.give_one-taken.new.bank) (le_refl before) e.never_falls tt e.cause;
      counts = λ n. sum_next g.B.D.Disk.faults (all_kept c.args.database c.args.left.items) rest lent n (g.B.Bank.lent_faults c.args.bank.now n) (g.B.Bank.lent_faults c.give_one-taken.new.bank n) (sym all) (e.faults n);
      lends = e.lends;
      never_falls = e.never_falls;
    }

pub loop-found-preserved : goal.loop-found-preserved
loop-found-preserved g c =
    let i = c.loop-found.invariant in
    let e = c.give_one-all.ensures in
    let n = 1 + c.loop-found.before in
    let step : n + 1 ≡ 1 + (c.loop-found.before + 1) = omega (arith) in
    let steps : into_iter_items c.loop-found.found-iterator ≡ c.in-Some.found ∷ into_iter_items c.next.new.self = search rules in
    let lent : Lent g.row.B-D.Denot = record { node = n; disk = c.disk_in.result } in
    let rest : List (Lent g.row.B-D.Denot) = kept_disks (1 + (c.loop-found.before + 1)) (into_iter_items c.next.new.self) in
    let next : kept_disks n (into_iter_items c.loop-found.found-iterator) ≡ lent ∷ rest =
    ap (kept_disks n) steps ∙ (ap (λ (d : g.row.B-D.Denot). record { node = n; disk = d } ∷ kept_disks (n + 1) (into_iter_items c.next.new.self)) (sym c.disk_in.ensures)
    ∙ ap (λ (k : ℕ). lent ∷ kept_disks k (into_iter_items c.next.new.self)) step) in
    record {
      place = omega (arith, i.place, ap length steps);
      back = goes_on g.B.D.Disk.seen (kept_disks n (into_iter_items c.loop-found.found-iterator)) rest (all_kept c.args.database c.args.left.items) lent (g.B.Bank.given c.loop-found.bank) (g.B.Bank.given c.give_one-all.new.bank) (g.B.Bank.given c.args.bank.now) (g.B.Bank.faults c.args.bank.now) (g.B.Bank.faults c.loop-found.bank) (g.B.Bank.faults c.give_one-all.new.bank) c.loop-found.all c.give_one-all.result next e.never_falls i.back e.goes;
      cause = cause_next c.loop-found.all c.give_one-all.result (g.B.Bank.faults c.args.bank.now) (g.B.Bank.faults c.loop-found.bank) (g.B.Bank.faults c.give_one-all.new.bank) i.never_falls e.never_falls i.cause e.cause;
      counts = λ m. sum_next g.B.D.Disk.faults (kept_disks n (into_iter_items c.loop-found.found-iterator)) rest lent m (g.B.Bank.lent_faults c.loop-found.bank m) (g.B.Bank.lent_faults c.give_one-all.new.bank m) next (e.faults m) ∙ i.counts m;
      lends = e.lends ∙ i.lends;
      never_falls = omega (arith, i.never_falls, e.never_falls);
    }

pub returns-clause-all : goal.returns-clause-all
returns-clause-all g c =
    let none : into_iter_items c.loop-found.found-iterator ≡ [] = nil_from_length (into_iter_items c.loop-found.found-iterator) (sym c.loop-found.found-iterator.rest.ok.0 ∙ c.in-None.ensures.steps.0) in
    all_back g.B.D.Disk.seen (kept_disks (1 + c.loop-found.before) (into_iter_items c.loop-found.found-iterator)) (all_kept c.args.database c.args.left.items) (g.B.Bank.given c.loop-found.bank) (g.B.Bank.given c.args.bank.now) _ _ c.loop-found.all
    (ap (kept_disks (1 + c.loop-found.before)) none) c.loop-found.invariant.back

pub returns-clause-back : goal.returns-clause-back
returns-clause-back g c =
    let none : into_iter_items c.loop-found.found-iterator ≡ [] = nil_from_length (into_iter_items c.loop-found.found-iterator) (sym c.loop-found.found-iterator.rest.ok.0 ∙ c.in-None.ensures.steps.0) in
    gone_back g.B.D.Disk.seen (kept_disks (1 + c.loop-found.before) (into_iter_items c.loop-found.found-iterator)) (all_kept c.args.database c.args.left.items) (g.B.Bank.given c.loop-found.bank) (g.B.Bank.given c.args.bank.now) _ _ c.loop-found.all
    (ap (kept_disks (1 + c.loop-found.before)) none) c.loop-found.invariant.back

pub returns-clause-quiet : goal.returns-clause-quiet
returns-clause-quiet g c =
    all_quiet g.B.D.Disk.seen (kept_disks (1 + c.loop-found.before) (into_iter_items c.loop-found.found-iterator)) (all_kept c.args.database c.args.left.items) (g.B.Bank.given c.loop-found.bank) (g.B.Bank.given c.args.bank.now) _ _ c.loop-found.all c.loop-found.invariant.back

pub returns-clause-faults : goal.returns-clause-faults
returns-clause-faults g c = λ n.
    let none : into_iter_items c.loop-found.found-iterator ≡ [] = nil_from_length (into_iter_items c.loop-found.found-iterator) (sym c.loop-found.found-iterator.rest.ok.0 ∙ c.in-None.ensures.steps.0) in
    let left : List (Lent g.row.B-D.Denot) → ℕ = λ ds. with_faults g.B.D.Disk.faults ds n (g.B.Bank.lent_faults c.loop-found.bank n) in
    sym (ap left (ap (kept_disks (1 + c.loop-found.before)) none)) ∙ c.loop-found.invariant.counts n
