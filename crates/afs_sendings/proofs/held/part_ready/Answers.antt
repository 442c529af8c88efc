use Rattle.std.proofs.Common.{◌≡◌, ◌++◌, ◌∷◌, List, length, rules, sym, ap, ◌∙◌, arith}
use Rattle.std.specs.Prelude.{filter}
use Rattle.std.specs.Vec.Iter.{into_iter_items}
use Rattle.spec_model.specs.Messages.{messages_spelled, parcels_read}
use Rattle.spec_rows.specs.Callbacks.{is_ready, replies_of}
use Rattle.spec_rows.specs.States.{Held}
use Rattle.spec_volrows.specs.VolSteps.{waits_for_breaks}
use Rattle.afs_sendings.proofs.Waiting.{held_next, sent_next}
use Rattle.afs_sendings.proofs.held.part_ready.Goals as goal

pub loop-one-preserved : goal.loop-one-preserved
loop-one-preserved c =
    let ready = is_ready c.args.owed.now.breaks in
    let waits = waits_for_breaks c.args.owed.now.breaks in
    let one = c.in-Some.one in
    let rest = into_iter_items c.next.new.self in
    let next : into_iter_items c.loop-one.one-iterator ≡ one ∷ rest = search rules in
    let before = c.loop-one.invariant in
    let few = ap (λ (hs : List Held). length hs) next in
    let out_few = before.out in
    let on_few = before.on in
    let out_more = c.send_or_hold.ensures.out_room in
    let on_more = c.send_or_hold.ensures.on_room in
    record {
      sent = ap (λ xs. xs ++ messages_spelled (replies_of (filter ready rest))) c.send_or_hold.ensures.sent ∙ (sent_next ready c.loop-one.out.items one rest ∙ (ap (λ (hs : List Held). parcels_read c.loop-one.out.items ++ messages_spelled (replies_of (filter ready hs))) (sym next) ∙ before.sent));
      held = ap (λ (hs : List Held). hs ++ filter waits rest) c.send_or_hold.ensures.held ∙ (held_next waits c.loop-one.on.items one rest ∙ (ap (λ (hs : List Held). c.loop-one.on.items ++ filter waits hs) (sym next) ∙ before.held));
      out = omega (arith, few, out_few, out_more);
      on = omega (arith, few, on_few, on_more);
    }
