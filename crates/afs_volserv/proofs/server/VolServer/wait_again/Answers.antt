use Rattle.afs_volserv.proofs.Stepping.{draws_on, waits_step}
use Rattle.afs_volserv.proofs.server.VolServer.wait_again.Goals as goal

pub keep_at-outs-requires : goal.keep_at-outs-requires
keep_at-outs-requires g c = draws_on c.args.callbacks.now c.args.store.now c.args.now c.last_number.result c.new-none.result c.in_ok-ended.ended c.last_number.ensures c.in_ok-ended.ensures

pub returns : goal.returns
returns g c =
    waits_step c.args.self.now c.hold_again.new.self c.args.callbacks.now c.keep_at-outs.new.callbacks c.args.store.now c.keep_at-outs.new.store c.args.now c.last_number.result c.new-none.result c.in_ok-ended.ended c.keep_at-outs.result c.args.reply c.args.waits
    c.last_number.ensures c.in_ok-ended.ensures c.new-none.ensures c.keep_at-outs.ensures.callbacks c.keep_at-outs.ensures.store c.keep_at-outs.ensures.outs c.hold_again.ensures.held c.hold_again.ensures.release c.requires.beside c.requires.serves
