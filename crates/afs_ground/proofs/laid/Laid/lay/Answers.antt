use Rattle.std.proofs.Common.{ℕ, Err, Result, refl, subst}
use Rattle.spec_ideal.specs.SetUp.{laid}
use Rattle.spec_ideal.specs.Volumes.{Volume}
use Rattle.afs_volume.specs.Giving.{volume_of}
use Rattle.afs_words.specs.Reads.{Gives}
use Rattle.afs_grammar.specs.Lines.{setup_accepts}
use Rattle.afs_ground.proofs.Grounds.{laid_same, still_laid}
use Rattle.afs_ground.proofs.laid.Laid.lay.Goals as goal

pub returns-in-Err-clause-value : goal.returns-in-Err-clause-value
returns-in-Err-clause-value c = λ l h.
    let v = c.args.self.now.volume in
    subst (λ (r : Result Volume ℕ). Gives (setup_accepts r) (Err c.refusal.result)) (laid_same c.args.self.now c.args.line.now l h)
    (c.refusal.ensures (laid v.head.id c.args.line.now (volume_of v)) c.in-Err.ensures.lays.0)

pub returns-clause-laid : goal.returns-clause-laid
returns-clause-laid c = λ l h. still_laid c.args.self.now _ c.args.line.now l h refl refl c.lay.ensures.id c.in-Ok.ensures.lays c.volume_size-self.ensures
