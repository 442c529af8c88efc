use Rattle.std.proofs.Common.{◌≡◌, nat_lt, rules}
use Rattle.std.specs.List.{insert, prefix_len}
use Rattle.spec_ideal.specs.Volumes.{edit_number}
use Rattle.afs_changes.specs.Planning.{edit_seen}
use Rattle.afs_changes.specs.declared.edits.Edit.{Edit}
use Rattle.afs_changes.proofs.Placed.{placed_at}
use Rattle.afs_changes.proofs.naming.put_in_place.Goals as goal

pub returns : goal.returns
returns c =
    let place : c.place_of-place.result ≡ prefix_len (λ (d : Edit). nat_lt (edit_number (edit_seen d)) c.number.result) c.args.edits.now.items = search rules in
    let is : c.insert.new.self.items ≡ insert c.args.edits.now.items c.place_of-place.result c.args.edit = search rules in
    placed_at c.args.edit c.args.edits.now.items c.insert.new.self.items c.number.result c.place_of-place.result c.number.ensures place is
