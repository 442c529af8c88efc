use Rattle.std.proofs.Common.{arith}
use Rattle.afs_locrecord.proofs.records.decode_loc_record.Goals as goal

pub returns-clause-fits : goal.returns-clause-fits
returns-clause-fits c = (c.read_loc_records_are_spelled.ensures c.args.bytes.now c.in_ok-rec.rec (λ i. omega (arith, c.type_inv.bytes i)) c.in_ok-rec.ensures).0

pub returns-clause-spelled : goal.returns-clause-spelled
returns-clause-spelled c = (c.read_loc_records_are_spelled.ensures c.args.bytes.now c.in_ok-rec.rec (λ i. omega (arith, c.type_inv.bytes i)) c.in_ok-rec.ensures).1
