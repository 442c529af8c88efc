use Rattle.std.proofs.Common.{◌≡◌, map, take}
use Rattle.spec_rows.specs.ClientRow.{given_promise}
use Rattle.spec_rows.specs.States.{Gift}
use Rattle.afs_entries.proofs.gifts.gift_call.Given as goal

abbrev pub invariant-loop-gift : goal.invariant-loop-gift
invariant-loop-gift l = record {
  fids : l.fids ≡ map (λ (g : Gift). g.fid) (take l.gift-index l.gifts);
  callbacks : l.callbacks ≡ map given_promise (take l.gift-index l.gifts);
}
