use Rattle.std.proofs.Common.{◌≡◌, ◌≤◌, ◌+◌, Some, [], ◌∷◌, ◌++◌, length, rules, arith, sym, ◌∙◌, ap, subst, length-append}
use Rattle.afs_disk.specs.Disk.{LeavesOnly}
use Rattle.afs_journal.specs.Records.{whole_records, IsBeforeOrAfter}
use Rattle.afs_journal.specs.Left.{LeavesByPick, ReachesCall}
use Rattle.afs_journal.specs.Log.{Log}
use Rattle.afs_journal.proofs.Broken.{left_from, reached_from}
use Rattle.afs_journal.proofs.Sound.{settled_now, told_is, told_from, length-spelled, spells_next, still_settled, with_room}
use Rattle.afs_journal.proofs.journal.Journal.append.Goals as goal

pub put-requires-clause-room : goal.put-requires-clause-room
put-requires-clause-room g c =
    let long = length-spelled c.deref.result.now (c.self.inside.count + 1) c.args.rec.now (c.deref.ensures.value ∙ c.in_ok-spell.ensures.is) in
    record {
      calls = omega (arith, c.in_ok-make_room.ensures.disk.calls);
      bytes = omega (arith, long, c.in_ok-make_room.ensures.disk.bytes);
      end = omega (arith, long, c.in_ok-make_room.ensures.disk.end);
    }

pub returns-in-Ok-clause-added : goal.returns-in-Ok-clause-added
returns-in-Ok-clause-added g c = λ bytes told.
    let here : g.D.Disk.seen c.self.inside.disk ≡ Some bytes = ap (λ (j : Log g.row.D.Denot). g.D.Disk.seen j.disk) c.self.view_is ∙ told in
    let settled = (c.self.invariant.at_rest c.if-self.false).settled bytes here in
    let mid_settled = still_settled g.D.Disk.seen g.D.Disk.left_by g.D.Disk.size g.D.Disk.may_leave g.D.Disk.moment g.D.Disk.left_since c.self.inside.disk c.make_room.new.disk c.self.inside.count c.self.inside.gate bytes c.make_room.ensures.same settled in
    let fit : c.self.inside.gate + 1 + length c.args.rec.now + 9 ≤ c.capacity-capacity.result = search rules in
    let spells = spells_next c.deref.result.now c.self.inside.count c.args.rec.now (c.deref.ensures.value ∙ c.in_ok-spell.ensures.is) (omega (arith, fit, c.self.invariant.small, c.capacity-capacity.ensures)) (omega (arith, fit, c.self.invariant.small, c.self.invariant.counts, c.capacity-capacity.ensures)) in
    c.in-Ok.ensures.done c.self.inside.count c.args.rec.now bytes spells (c.make_room.ensures.same.same_seen ∙ here) mid_settled

pub returns-in-Ok-clause-any_moment : goal.returns-in-Ok-clause-any_moment
returns-in-Ok-clause-any_moment g c = λ shut bytes told.
    let here : g.D.Disk.seen c.self.inside.disk ≡ Some bytes = ap (λ (j : Log g.row.D.Denot). g.D.Disk.seen j.disk) c.self.view_is ∙ told in
    let settled = (c.self.invariant.at_rest c.if-self.false).settled bytes here in
    let mid_settled = still_settled g.D.Disk.seen g.D.Disk.left_by g.D.Disk.size g.D.Disk.may_leave g.D.Disk.moment g.D.Disk.left_since c.self.inside.disk c.make_room.new.disk c.self.inside.count c.self.inside.gate bytes c.make_room.ensures.same settled in
    let fit : c.self.inside.gate + 1 + length c.args.rec.now + 9 ≤ c.capacity-capacity.result = search rules in
    let spells = spells_next c.deref.result.now c.self.inside.count c.args.rec.now (c.deref.ensures.value ∙ c.in_ok-spell.ensures.is) (omega (arith, fit, c.self.invariant.small, c.capacity-capacity.ensures)) (omega (arith, fit, c.self.invariant.small, c.self.invariant.counts, c.capacity-capacity.ensures)) in
    let run = c.put.ensures.any_moment c.self.inside.count c.args.rec.now bytes spells (c.make_room.ensures.same.same_seen ∙ here) mid_settled in
    subst (λ (d : g.row.D.Denot). LeavesOnly g.D.Disk.moment g.D.Disk.left_since d c.put.new.disk (IsBeforeOrAfter (whole_records bytes) c.args.rec.now)) (ap (λ (j : Log g.row.D.Denot). j.disk) c.self.view_is)
    (with_room g.D.Disk.seen g.D.Disk.left_by g.D.Disk.size g.D.Disk.may_leave g.D.Disk.moment g.D.Disk.left_since g.met.D.Disk.just_now c.self.inside.disk c.make_room.new.disk c.put.new.disk c.self.inside.count c.self.inside.gate c.args.rec.now bytes c.make_room.ensures.same settled run)

pub returns-in-Err-clause-any_moment : goal.returns-in-Err-clause-any_moment
returns-in-Err-clause-any_moment g c = λ shut bytes told.
    let here : g.D.Disk.seen c.self.inside.disk ≡ Some bytes = ap (λ (j : Log g.row.D.Denot). g.D.Disk.seen j.disk) c.self.view_is ∙ told in
    let settled = (c.self.invariant.at_rest c.if-self.false).settled bytes here in
    let mid_settled = still_settled g.D.Disk.seen g.D.Disk.left_by g.D.Disk.size g.D.Disk.may_leave g.D.Disk.moment g.D.Disk.left_since c.self.inside.disk c.make_room.new.disk c.self.inside.count c.self.inside.gate bytes c.make_room.ensures.same settled in
    let fit : c.self.inside.gate + 1 + length c.args.rec.now + 9 ≤ c.capacity-capacity.result = search rules in
    let spells = spells_next c.deref.result.now c.self.inside.count c.args.rec.now (c.deref.ensures.value ∙ c.in_ok-spell.ensures.is) (omega (arith, fit, c.self.invariant.small, c.capacity-capacity.ensures)) (omega (arith, fit, c.self.invariant.small, c.self.invariant.counts, c.capacity-capacity.ensures)) in
    let run = c.put.ensures.any_moment c.self.inside.count c.args.rec.now bytes spells (c.make_room.ensures.same.same_seen ∙ here) mid_settled in
    subst (λ (d : g.row.D.Denot). LeavesOnly g.D.Disk.moment g.D.Disk.left_since d c.put.new.disk (IsBeforeOrAfter (whole_records bytes) c.args.rec.now)) (ap (λ (j : Log g.row.D.Denot). j.disk) c.self.view_is)
    (with_room g.D.Disk.seen g.D.Disk.left_by g.D.Disk.size g.D.Disk.may_leave g.D.Disk.moment g.D.Disk.left_since g.met.D.Disk.just_now c.self.inside.disk c.make_room.new.disk c.put.new.disk c.self.inside.count c.self.inside.gate c.args.rec.now bytes c.make_room.ensures.same settled run)

pub returns-in-Err-clause-reached : goal.returns-in-Err-clause-reached
returns-in-Err-clause-reached g c = λ failed.
    subst (λ (d : g.row.D.Denot). ReachesCall (g.D.Disk.setting d) (g.D.Disk.calls d) (g.D.Disk.calls c.put.new.disk)) (ap (λ (j : Log g.row.D.Denot). j.disk) c.self.view_is)
    (reached_from (g.D.Disk.setting c.self.inside.disk) (g.D.Disk.setting c.make_room.new.disk) (g.D.Disk.calls c.self.inside.disk) (g.D.Disk.calls c.make_room.new.disk) (g.D.Disk.calls c.put.new.disk) c.make_room.ensures.setting c.make_room.ensures.calls c.put.ensures.reached)

pub returns-in-Err-clause-left : goal.returns-in-Err-clause-left
returns-in-Err-clause-left g c = λ failed bytes told.
    let here : g.D.Disk.seen c.self.inside.disk ≡ Some bytes = ap (λ (j : Log g.row.D.Denot). g.D.Disk.seen j.disk) c.self.view_is ∙ told in
    let settled = (c.self.invariant.at_rest c.if-self.false).settled bytes here in
    let mid_settled = still_settled g.D.Disk.seen g.D.Disk.left_by g.D.Disk.size g.D.Disk.may_leave g.D.Disk.moment g.D.Disk.left_since c.self.inside.disk c.make_room.new.disk c.self.inside.count c.self.inside.gate bytes c.make_room.ensures.same settled in
    let fit : c.self.inside.gate + 1 + length c.args.rec.now + 9 ≤ c.capacity-capacity.result = search rules in
    let spells = spells_next c.deref.result.now c.self.inside.count c.args.rec.now (c.deref.ensures.value ∙ c.in_ok-spell.ensures.is) (omega (arith, fit, c.self.invariant.small, c.capacity-capacity.ensures)) (omega (arith, fit, c.self.invariant.small, c.self.invariant.counts, c.capacity-capacity.ensures)) in
    let run = c.put.ensures.left c.self.inside.count c.args.rec.now bytes spells (c.make_room.ensures.same.same_seen ∙ here) mid_settled in
    subst (λ (d : g.row.D.Denot). LeavesByPick g.D.Disk.left_by g.D.Disk.calls g.D.Disk.setting (whole_records bytes) c.args.rec.now d c.put.new.disk) (ap (λ (j : Log g.row.D.Denot). j.disk) c.self.view_is)
    (left_from g.D.Disk.left_by g.D.Disk.calls g.D.Disk.setting (whole_records bytes) c.args.rec.now c.self.inside.disk c.make_room.new.disk c.put.new.disk c.make_room.ensures.setting c.make_room.ensures.calls run)

pub invariant_of-self-in-Ok : goal.invariant_of-self-in-Ok
invariant_of-self-in-Ok g c =
    let fit : c.self.inside.gate + 1 + length c.args.rec.now + 9 ≤ c.capacity-capacity.result = search rules in
    let long = length-spelled c.deref.result.now (c.self.inside.count + 1) c.args.rec.now (c.deref.ensures.value ∙ c.in_ok-spell.ensures.is) in
    let ends : g.D.Disk.size c.put.new.disk ≡ c.self.inside.gate + (length c.args.rec.now + 9) + 1 = omega (arith, long, c.in-Ok.ensures.size) in
    let spells = spells_next c.deref.result.now c.self.inside.count c.args.rec.now (c.deref.ensures.value ∙ c.in_ok-spell.ensures.is) (omega (arith, fit, c.self.invariant.small, c.capacity-capacity.ensures)) (omega (arith, fit, c.self.invariant.small, c.self.invariant.counts, c.capacity-capacity.ensures)) in
    record {
      counts = omega (arith, c.self.invariant.counts);
      few = omega (arith, fit, c.self.invariant.counts, c.self.invariant.small, c.capacity-capacity.ensures);
      short = omega (arith, fit, c.self.invariant.small, c.capacity-capacity.ensures);
      small = omega (arith, c.put.ensures.limit, c.make_room.ensures.limit, c.self.invariant.small);
      at_rest = λ rest. record {
        ends = ends;
        settled = λ bytes told.
            let was = told_is (g.D.Disk.seen c.make_room.new.disk) (c.put.ensures.told.0 (told_from (g.D.Disk.seen c.put.new.disk) bytes told)) in
            let settled = (c.self.invariant.at_rest c.if-self.false).settled was.0 (sym c.make_room.ensures.same.same_seen ∙ was.1) in
            let mid_settled = still_settled g.D.Disk.seen g.D.Disk.left_by g.D.Disk.size g.D.Disk.may_leave g.D.Disk.moment g.D.Disk.left_since c.self.inside.disk c.make_room.new.disk c.self.inside.count c.self.inside.gate was.0 c.make_room.ensures.same settled in
            let journal = c.in-Ok.ensures.done c.self.inside.count c.args.rec.now was.0 spells was.1 mid_settled in
            let counted : c.self.inside.count + 1 ≡ length (whole_records was.0 ++ c.args.rec.now ∷ []) = omega (arith, settled.counted, length-append (whole_records was.0) (c.args.rec.now ∷ [])) in
            settled_now _ (c.self.inside.count + 1) (c.self.inside.gate + (length c.args.rec.now + 9)) (g.D.Disk.seen c.put.new.disk) (g.D.Disk.may_leave c.put.new.disk) bytes journal counted (g.met.D.Disk.measures c.put.new.disk bytes told ∙ ends) told;
      };
    }
