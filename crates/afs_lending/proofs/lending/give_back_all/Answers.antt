use Rattle.std.specs.Prelude.{◌≡◌, [], ◌∷◌, List}
use Rattle.std.proofs.Common.{refl, rules, ap, sym, ◌∙◌, arith}
use Rattle.std.specs.Vec.Iter.{into_iter_items}
use Rattle.std.proofs.lemmas.List.{nil_from_length}
use Rattle.afs_disk.specs.declared.disks.Lent.{Lent}
use Rattle.afs_lending.specs.Lending.{with_faults}
use Rattle.afs_lending.proofs.Returns.{all_back, all_quiet, cause_next, goes_on, gone_back, none_yet, sum_next}
use Rattle.afs_lending.proofs.lending.give_back_all.Goals as goal

pub loop-lent-init : goal.loop-lent-init
loop-lent-init g c =
    let all : into_iter_items c.into_iter-lent-iterator.result ≡ c.args.disks = search rules in
    record {
      back = none_yet g.B.D.Disk.seen _ _ _ _ _ all;
      cause = tt;
      counts = λ n. ap (λ (ds : List (Lent g.row.B-D.Denot)). with_faults g.B.D.Disk.faults ds n (g.B.Bank.lent_faults c.args.bank.now n)) all;
      lends = refl;
      never_falls = omega (arith);
    }

pub loop-lent-preserved : goal.loop-lent-preserved
loop-lent-preserved g c =
    let i = c.loop-lent.invariant in
    let e = c.give_one-all.ensures in
    let steps : into_iter_items c.loop-lent.lent-iterator ≡ c.in-Some.lent ∷ into_iter_items c.next.new.self = search rules in
    record {
      back = goes_on g.B.D.Disk.seen (into_iter_items c.loop-lent.lent-iterator) (into_iter_items c.next.new.self) c.args.disks c.in-Some.lent (g.B.Bank.given c.loop-lent.bank) (g.B.Bank.given c.give_one-all.new.bank) (g.B.Bank.given c.args.bank.now) (g.B.Bank.faults c.args.bank.now) (g.B.Bank.faults c.loop-lent.bank) (g.B.Bank.faults c.give_one-all.new.bank) c.loop-lent.all c.give_one-all.result steps e.never_falls i.back e.goes;
      cause = cause_next c.loop-lent.all c.give_one-all.result (g.B.Bank.faults c.args.bank.now) (g.B.Bank.faults c.loop-lent.bank) (g.B.Bank.faults c.give_one-all.new.bank) i.never_falls e.never_falls i.cause e.cause;
      counts = λ m. sum_next g.B.D.Disk.faults (into_iter_items c.loop-lent.lent-iterator) (into_iter_items c.next.new.self) c.in-Some.lent m (g.B.Bank.lent_faults c.loop-lent.bank m) (g.B.Bank.lent_faults c.give_one-all.new.bank m) steps (e.faults m) ∙ i.counts m;
      lends = e.lends ∙ i.lends;
      never_falls = omega (arith, i.never_falls, e.never_falls);
    }

pub returns-clause-all : goal.returns-clause-all
returns-clause-all g c =
    let none : into_iter_items c.loop-lent.lent-iterator ≡ [] = nil_from_length (into_iter_items c.loop-lent.lent-iterator) (sym c.loop-lent.lent-iterator.rest.ok.0 ∙ c.in-None.ensures.steps.0) in
    all_back g.B.D.Disk.seen (into_iter_items c.loop-lent.lent-iterator) c.args.disks (g.B.Bank.given c.loop-lent.bank) (g.B.Bank.given c.args.bank.now) _ _ c.loop-lent.all none c.loop-lent.invariant.back

pub returns-clause-back : goal.returns-clause-back
returns-clause-back g c =
    let none : into_iter_items c.loop-lent.lent-iterator ≡ [] = nil_from_length (into_iter_items c.loop-lent.lent-iterator) (sym c.loop-lent.lent-iterator.rest.ok.0 ∙ c.in-None.ensures.steps.0) in
    gone_back g.B.D.Disk.seen (into_iter_items c.loop-lent.lent-iterator) c.args.disks (g.B.Bank.given c.loop-lent.bank) (g.B.Bank.given c.args.bank.now) _ _ c.loop-lent.all none c.loop-lent.invariant.back

pub returns-clause-quiet : goal.returns-clause-quiet
returns-clause-quiet g c =
    all_quiet g.B.D.Disk.seen (into_iter_items c.loop-lent.lent-iterator) c.args.disks (g.B.Bank.given c.loop-lent.bank) (g.B.Bank.given c.args.bank.now) _ _ c.loop-lent.all c.loop-lent.invariant.back
