use Rattle.afs_memory.specs.States.{kept_seen}
use Rattle.afs_shelves.proofs.Found.{nth_none}
use Rattle.afs_memory.proofs.Held.{all_bytes, all_known, nth_reply}
use Rattle.afs_seats.proofs.Seen.{seen_up}
use Rattle.afs_memory.proofs.memory.State.kept_at.Goals as goal

pub returns-in-Some-clause-some : goal.returns-in-Some-clause-some
returns-in-Some-clause-some c = nth_reply c.args.place c.args.self.now.kept.table c.in-Some.item.now c.args.self.now.called c.in-Some.ensures.value

pub returns-in-None-clause-none : goal.returns-in-None-clause-none
returns-in-None-clause-none c = nth_none kept_seen c.args.place c.args.self.now.kept.table c.in-None.ensures.value

pub returns-in-Some-clause-ordered : goal.returns-in-Some-clause-ordered
returns-in-Some-clause-ordered c = seen_up kept_seen 0 c.args.self.now.kept.table c.at.ensures.ascends

pub returns-in-Some-clause-nodes : goal.returns-in-Some-clause-nodes
returns-in-Some-clause-nodes c = all_known c.args.self.now.kept.table c.args.self.now.called

pub returns-in-None-clause-ordered : goal.returns-in-None-clause-ordered
returns-in-None-clause-ordered c = seen_up kept_seen 0 c.args.self.now.kept.table c.at.ensures.ascends

pub returns-in-None-clause-nodes : goal.returns-in-None-clause-nodes
returns-in-None-clause-nodes c = all_known c.args.self.now.kept.table c.args.self.now.called

pub returns-in-Some-clause-bytes : goal.returns-in-Some-clause-bytes
returns-in-Some-clause-bytes c = all_bytes c.args.self.now.kept.table c.args.self.now.called

pub returns-in-None-clause-bytes : goal.returns-in-None-clause-bytes
returns-in-None-clause-bytes c = all_bytes c.args.self.now.kept.table c.args.self.now.called
