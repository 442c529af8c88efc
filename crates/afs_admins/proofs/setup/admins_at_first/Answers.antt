use Rattle.std.proofs.Common.{ap, arith, subst, sym, ◌≡◌, ◌++◌, ◌+◌, [], ◌∷◌, List, length}
use Rattle.std.proofs.lemmas.List.{length-append}
use Rattle.afs_admins.specs.Seating.{AreFirstAdmins}
use Rattle.afs_admins.specs.declared.admins.AdminSeat.{AdminSeat}
use Rattle.afs_admins.proofs.Seated.{admin_more}
use Rattle.afs_admins.proofs.setup.admins_at_first.Goals as goal

pub loop-before-preserved : goal.loop-before-preserved
loop-before-preserved c =
    let i = c.loop-before.invariant in
    let seats : List AdminSeat = c.loop-before.admins.items in
    let seat : AdminSeat = c.in_ok-new.field-0 in
    let items : c.push.new.self.items ≡ seats ++ seat ∷ [] = c.in_ok-push.ensures.items in
    let count = i.count in
    let longer = ap (λ (all : List AdminSeat). length all) items in
    let more = length-append seats (seat ∷ []) in
    record {
      first = subst (λ (all : List AdminSeat). AreFirstAdmins c.args.script.now 1 all) (sym items) (admin_more c.args.script.now 1 (c.loop-before.before + 1) seats seat i.first (omega (arith, count)) c.in_ok-new.ensures);
      count = omega (arith, longer, more, count);
    }
