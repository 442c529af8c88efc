use Rattle.std.proofs.Common.{◌∙◌, ap}
use Rattle.afs_memory.specs.declared.memory.State.{State}
use Rattle.afs_memory.specs.States.{kept_in, parts_of, parts_seen}
use Rattle.afs_memory.proofs.Held.{parts_noted}
use Rattle.afs_memory.proofs.memory.State.note.Goals as goal

pub returns : goal.returns
returns c =
    let volumes = c.args.self.now.shelves.volumes.table in
    let forwardings = c.args.self.now.shelves.forwardings.table in
    ap (λ (s : State). parts_of s) c.keep.ensures.rest
    ∙ (ap (λ (s : State). parts_seen s.boot s.shelves.volumes.table s.shelves.forwardings.table s.stamps.table c.keep.new.self.kept.table) c.raise.ensures.rest
    ∙ parts_noted c.args.head c.args.self.now.boot volumes forwardings c.args.self.now.stamps.table c.raise.new.self.stamps.table c.args.self.now.kept.table c.keep.new.self.kept.table c.raise.ensures.table
    (c.keep.ensures.table ∙ ap (λ (s : State). kept_in c.args.head.caller c.args.head.epoch c.args.head.number c.args.head.reply s.kept.table) c.raise.ensures.rest))
