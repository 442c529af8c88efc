-- What comes next is written behind the text so far.
use Rattle.std.proofs.Common.{ap, arith, length, length-drop, rules, ◌≡◌, ◌+◌, ◌-◌, List}
use Rattle.afs_num.specs.declared.types.Parcel.{Parcel}
use Rattle.afs_text.specs.Telling.{sent_by}
use Rattle.afs_lending.proofs.Behind.{puts_behind, puts_no_more}
use Rattle.afs_cell.proofs.writing.put_next.Goals as goal

pub put_entries-requires-clause-all : goal.put_entries-requires-clause-all
put_entries-requires-clause-all g c =
    omega (arith, ap (λ (ps : List Parcel). length ps) c.parcels-parcels.ensures.parcels, length-drop (c.args.world.now.gone.sent - c.args.world.now.gone.messages) c.args.world.now.wire, c.parcels-parcels.ensures.gone.0, c.parcels-parcels.ensures.gone.1, ap sent_by c.history.ensures, c.requires.all)

pub returns-in_err-written : goal.returns-in_err-written
returns-in_err-written g c = λ text start count p. puts_no_more text _ start _ count _ c.args.written _ (search rules) (search rules) p

-- the first place is that behind the messages of the entries before
pub returns : goal.returns
returns g c =
    let place : c.sent.result - length c.parcels-parcels.result.now + 1 ≡ c.args.world.now.gone.sent + 1 =
    omega (arith, ap (λ (ps : List Parcel). length ps) c.parcels-parcels.ensures.parcels, length-drop (c.args.world.now.gone.sent - c.args.world.now.gone.messages) c.args.world.now.wire, c.parcels-parcels.ensures.gone.0, c.parcels-parcels.ensures.gone.1, c.sent.ensures.sent) in
    λ text start count p. puts_behind text _ start _ _ count _ _ c.args.written _ (search rules) p
    (rw (← place, ← c.parcels-parcels.ensures.parcels, ← c.entries_before.ensures, ← c.history.ensures) c.put_entries.ensures)
