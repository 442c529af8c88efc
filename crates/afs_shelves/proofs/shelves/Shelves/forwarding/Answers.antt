use Rattle.std.proofs.Common.{◌∙◌, ap, sym}
use Rattle.std.specs.Option.{option_map}
use Rattle.afs_num.specs.Nodes.{node_number}
use Rattle.afs_seats.proofs.Places.{get_seen}
use Rattle.afs_shelves.proofs.shelves.Shelves.forwarding.Goals as goal

pub returns : goal.returns
returns c = ap (option_map node_number) (c.copied.ensures ∙ c.get.ensures) ∙ sym (get_seen node_number c.args.id c.args.self.now.forwardings.table)
