use Rattle.std.proofs.Common.{◌≤◌, ◌<◌, length, ◌∙◌, rules}
use Rattle.afs_ground.proofs.Grounds.{fault_as, ground_put, is_there, none_there, refused, refuses, same_server, takes}
use Rattle.afs_ground.proofs.ground.SetUpGroundGround.lay.Goals as goal

pub returns-then-place-len-clause-fits : goal.returns-then-place-len-clause-fits
returns-then-place-len-clause-fits c = λ ls h.
    let le : length c.args.self.now.volumes.items ≤ c.args.place = search rules in
    none_there c.args.capacity c.args.place c.args.line.now c.args.self.now.volumes.items ls le h

pub returns-in_err-lay-clause-fits : goal.returns-in_err-lay-clause-fits
returns-in_err-lay-clause-fits c = λ ls h.
    let lt : c.args.place < length c.args.self.now.volumes.items = search rules in
    let there = is_there c.args.self.now.volumes.items c.args.place c.index_mut.result.now lt c.index_mut.ensures.value in
    fault_as _ c.in_err-lay.field-0.0 _ (refuses c.args.capacity c.args.place c.args.line.now c.args.self.now.volumes.items ls c.index_mut.result.now c.in_err-lay.field-0.0 there h c.in_err-lay.ensures.value) (search rules)

pub returns-in_err-must-clause-fits : goal.returns-in_err-must-clause-fits
returns-in_err-must-clause-fits c = λ ls h.
    let lt : c.args.place < length c.args.self.now.volumes.items = search rules in
    let there = is_there c.args.self.now.volumes.items c.args.place c.index_mut.result.now lt c.index_mut.ensures.value in
    let here = same_server c.args.self.now.volumes.items c.args.place c.index.result.now c.index_mut.result.now (is_there c.args.self.now.volumes.items c.args.place c.index.result.now lt c.index.ensures) there in
    refused _ c.in_err-must.field-0.0 _
    (takes c.args.capacity c.args.place c.args.line.now c.args.self.now.volumes.items ls c.index_mut.result.now c.lay.new.self c.index.result.now.server c.fits_server.result there h c.in_ok-lay.ensures.laid c.in_ok-lay.ensures.value here c.fits_server.ensures ∙ search rules)
    (search rules)

pub returns-clause-fits : goal.returns-clause-fits
returns-clause-fits c = λ ls h.
    let lt : c.args.place < length c.args.self.now.volumes.items = search rules in
    let there = is_there c.args.self.now.volumes.items c.args.place c.index_mut.result.now lt c.index_mut.ensures.value in
    let here = same_server c.args.self.now.volumes.items c.args.place c.index.result.now c.index_mut.result.now (is_there c.args.self.now.volumes.items c.args.place c.index.result.now lt c.index.ensures) there in
    takes c.args.capacity c.args.place c.args.line.now c.args.self.now.volumes.items ls c.index_mut.result.now c.lay.new.self c.index.result.now.server c.fits_server.result there h c.in_ok-lay.ensures.laid c.in_ok-lay.ensures.value here c.fits_server.ensures
    ∙ search rules

pub returns-clause-lays : goal.returns-clause-lays
returns-clause-lays c = λ ls h.
    let lt : c.args.place < length c.args.self.now.volumes.items = search rules in
    let there = is_there c.args.self.now.volumes.items c.args.place c.index_mut.result.now lt c.index_mut.ensures.value in
    ground_put c.args.self.now.volumes.items ls c.args.place c.index_mut.result.now c.lay.new.self c.args.line.now there h c.in_ok-lay.ensures.laid
