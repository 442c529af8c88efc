use Rattle.std.proofs.Common.{◌≡◌, ◌∙◌, List, ◌++◌, [], ◌∷◌, rules, subst, sym}
use Rattle.afs_ground.specs.Grounds.{IsGround}
use Rattle.afs_ground.specs.declared.laid.Laid.{Laid}
use Rattle.afs_ground.proofs.Grounds.{added, ground_push, refused}
use Rattle.afs_ground.proofs.ground.SetUpGroundGround.add.Goals as goal

pub returns-in_err-must-clause-fits : goal.returns-in_err-must-clause-fits
returns-in_err-must-clause-fits c = λ ls h next.
    let items : c.push.new.self.items ≡ c.args.self.now.volumes.items ++ c.in_ok-new.field-0 ∷ [] = search rules in
    refused _ c.in_err-must.field-0.0 _
    (added c.args.capacity c.args.self.now.volumes.items c.push.new.self.items ls c.in_ok-new.field-0 c.args.volume.now c.fits.result items h c.in_ok-new.ensures next c.fits.ensures ∙ search rules) (search rules)

pub returns-clause-fits : goal.returns-clause-fits
returns-clause-fits c = λ ls h next.
    let items : c.push.new.self.items ≡ c.args.self.now.volumes.items ++ c.in_ok-new.field-0 ∷ [] = search rules in
    added c.args.capacity c.args.self.now.volumes.items c.push.new.self.items ls c.in_ok-new.field-0 c.args.volume.now c.fits.result items h c.in_ok-new.ensures next c.fits.ensures ∙ search rules

pub returns-clause-lays : goal.returns-clause-lays
returns-clause-lays c = λ ls h next.
    let items : c.push.new.self.items ≡ c.args.self.now.volumes.items ++ c.in_ok-new.field-0 ∷ [] = search rules in
    subst (λ (gs : List Laid). IsGround gs (ls ++ c.args.volume.now ∷ [])) (sym items) (ground_push c.args.self.now.volumes.items ls c.in_ok-new.field-0 c.args.volume.now h c.in_ok-new.ensures next)
