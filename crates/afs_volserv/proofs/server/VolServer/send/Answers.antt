use Rattle.afs_volserv.proofs.Stepping.{draws_on, sent_step}
use Rattle.afs_volserv.proofs.server.VolServer.send.Goals as goal

pub keep_at-outs-requires : goal.keep_at-outs-requires
keep_at-outs-requires g c = draws_on c.args.callbacks.now c.args.store.now c.args.now c.last_number.result c.args.sent c.in_ok-ended.ended c.last_number.ensures c.in_ok-ended.ensures

pub returns : goal.returns
returns g c =
    sent_step c.args.self.now c.args.callbacks.now c.keep_at-outs.new.callbacks c.args.store.now c.keep_at-outs.new.store c.args.now c.last_number.result c.args.sent c.in_ok-ended.ended c.keep_at-outs.result
    c.last_number.ensures c.in_ok-ended.ensures c.keep_at-outs.ensures.callbacks c.keep_at-outs.ensures.store c.keep_at-outs.ensures.outs c.requires.beside c.requires.serves
