use Rattle.std.proofs.Common.{ap, arith, subst, sym, ◌≡◌, ◌++◌, ◌+◌, [], ◌∷◌, List, length}
use Rattle.std.proofs.lemmas.List.{length-append}
use Rattle.afs_clients.specs.Seating.{AreFirstClients}
use Rattle.afs_clients.specs.declared.clients.ClientSeat.{ClientSeat}
use Rattle.afs_clients.proofs.Shortened.{client_more}
use Rattle.afs_clients.proofs.setup.clients_at_first.Goals as goal

pub loop-before-preserved : goal.loop-before-preserved
loop-before-preserved c =
    let i = c.loop-before.invariant in
    let seats : List ClientSeat = c.loop-before.clients.items in
    let seat : ClientSeat = c.in_ok-new.field-0 in
    let items : c.push.new.self.items ≡ seats ++ seat ∷ [] = c.in_ok-push.ensures.items in
    let count = i.count in
    let longer = ap (λ (cs : List ClientSeat). length cs) items in
    let more = length-append seats (seat ∷ []) in
    record {
      first = subst (λ (cs : List ClientSeat). AreFirstClients c.args.script.now 1 cs) (sym items) (client_more c.args.script.now 1 (c.loop-before.before + 1) seats seat i.first (omega (arith, count)) c.in_ok-new.ensures);
      count = omega (arith, longer, more, count);
    }
