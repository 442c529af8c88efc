use Rattle.std.specs.Prelude.{◌≡◌, ◌+◌, ◌++◌, ◌∷◌, [], ℕ, List, IsSome, option_map, length}
use Rattle.std.proofs.Common.{ap, sym, subst, ◌∙◌, arith, length-append}
use Rattle.afs_disk.specs.declared.bank.Lend.{Lend}
use Rattle.afs_disk.specs.declared.disks.Lent.{Lent}
use Rattle.afs_lending.specs.Lending.{lends, AreLent, AreUnused, LentTell}
use Rattle.afs_lending.proofs.Lends.{each_told, lends_front, lent_more, lent_next, told_more, unused_more, AreTold}
use Rattle.afs_lending.proofs.lending.lend_all.Goals as goal

pub loop-before-preserved : goal.loop-before-preserved
loop-before-preserved g c =
    let i = c.loop-before.invariant in
    let e = c.in-Ok-lend.ensures in
    let made = c.with_room.ensures in
    let before = c.loop-before.disks.items in
    let now = c.put_last.ensures.items in
    let lent : Lent g.row.B-D.Denot = record { node = c.args.first + c.loop-before.before; disk = c.with_room.result } in
    let longer : length c.put_last.new.all.items ≡ length before + 1 = ap length now ∙ length-append before (lent ∷ []) in
    let node : c.args.first + c.loop-before.before ≡ c.args.first + length before = omega (arith, i.count) in
    record {
      lent = subst (AreLent g.B.D.Disk.limit c.args.capacity c.args.first) (sym now) (lent_more g.B.D.Disk.limit c.args.capacity c.args.first before lent i.lent (omega (arith, i.count)) (made.limit ∙ e.limit));
      count = omega (arith, longer, i.count);
      room = omega (arith, i.room, c.put_last.ensures.room);
      lends = lent_next c.args.place.now c.args.capacity c.args.first (length before) (g.B.Bank.lends c.args.bank.now) (g.B.Bank.lends c.loop-before.bank) (g.B.Bank.lends c.lend.new.self) (c.args.first + c.loop-before.before) i.lends e.lends node
          ∙ ap (λ (k : ℕ). option_map (λ (ls : List Lend). ls ++ lends c.args.place.now c.args.capacity c.args.first k) (g.B.Bank.lends c.args.bank.now)) (sym longer);
      tells = λ t. e.tells c.args.place.now (i.tells t);
      told = λ t. subst (AreTold g.B.D.Disk.seen) (sym now) (told_more g.B.D.Disk.seen before lent (i.told t) (subst IsSome (sym made.seen) (e.told (i.tells t))));
      unused = subst (AreUnused g.B.D.Disk.faults) (sym now) (unused_more g.B.D.Disk.faults before lent i.unused (made.faults ∙ e.unused));
      counts = λ n. e.lent n ∙ i.counts n;
      given = e.given ∙ i.given;
      quiet = e.quiet (λ failed. absurd cc) ∙ i.quiet;
      never_falls = omega (arith, i.never_falls, e.never_falls);
    }

pub returns-clause-some : goal.returns-clause-some
returns-clause-some g c =
    let i = c.loop-before.invariant in
    lends_front c.args.place.now c.args.capacity c.args.first (length c.loop-before.disks.items) c.args.count (g.B.Bank.lends c.args.bank.now) (g.B.Bank.lends c.loop-before.bank) i.lends (omega (arith, i.count, c.loop-before.auto.before-end))

pub returns-clause-tells : goal.returns-clause-tells
returns-clause-tells g c = λ t.
    subst (LentTell g.B.D.Disk.seen) (sym c.from_vec-2.ensures) (each_told g.B.D.Disk.seen c.loop-before.disks.items (c.loop-before.invariant.told t))

pub returns-clause-lends : goal.returns-clause-lends
returns-clause-lends g c =
    let i = c.loop-before.invariant in
    let all : length c.loop-before.disks.items ≡ c.args.count = omega (arith, i.count, c.loop-before.auto.before-end, c.loop-before-test.false) in
    i.lends ∙ ap (λ (k : ℕ). option_map (λ (ls : List Lend). ls ++ lends c.args.place.now c.args.capacity c.args.first k) (g.B.Bank.lends c.args.bank.now)) all

pub returns-in-Err-clause-some : goal.returns-in-Err-clause-some
returns-in-Err-clause-some g c =
    let i = c.loop-before.invariant in
    lends_front c.args.place.now c.args.capacity c.args.first (length c.loop-before.disks.items) c.args.count (g.B.Bank.lends c.args.bank.now) (g.B.Bank.lends c.lend.new.self) (c.in-Err.ensures.none ∙ i.lends) (omega (arith, i.count, c.loop-before.auto.before-end))

pub returns-in-Err-clause-back_lends : goal.returns-in-Err-clause-back_lends
returns-in-Err-clause-back_lends g c =
    c.in-Err.ensures.none ∙ (c.loop-before.invariant.lends
    ∙ ap (λ (ls : List (Lent g.row.B-D.Denot)). option_map (λ (ds : List Lend). ds ++ lends c.args.place.now c.args.capacity c.args.first (length ls)) (g.B.Bank.lends c.args.bank.now)) (sym c.from_vec.ensures))
