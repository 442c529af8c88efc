-- Each chunk goes on behind those before it.
use Rattle.spec_model.specs.LineText.{hex_text}
use Rattle.afs_text.proofs.Laid.{lays_end, lays_itself, lays_more, lays_no_more}
use Rattle.afs_text.proofs.Sent.{hex_laid, hex_left}
use Rattle.afs_text.proofs.bytes.lay_hex.Goals as goal

pub loop-rest-init : goal.loop-rest-init
loop-rest-init g c = lays_itself _ _ _ _

pub loop-rest-preserved : goal.loop-rest-preserved
loop-rest-preserved g c =
    lays_more (hex_text c.split_at.result.0.now) (hex_text c.split_at.result.1.now) _ _ _ _ _ _ _ _ _ _ _ (hex_left _ _ _ _ _ _ _ _ _ _ _ c.split_at.ensures.front c.split_at.ensures.back c.loop-rest.invariant) c.in_ok-lay_chunk.ensures

pub returns-in_err-lay_chunk : goal.returns-in_err-lay_chunk
returns-in_err-lay_chunk g c =
    lays_no_more (hex_text c.split_at.result.0.now) (hex_text c.split_at.result.1.now) _ _ c.loop-rest.piece _ _ _ _ _ _ _ _ _ (hex_left _ _ _ _ _ _ _ _ _ _ _ c.split_at.ensures.front c.split_at.ensures.back c.loop-rest.invariant) c.from_residual.ensures.0 c.in_err-lay_chunk.ensures

pub returns : goal.returns
returns g c = lays_end _ _ _ _ _ _ _ _ (hex_laid _ _ _ _ _ _ _ _ c.loop-rest-test.false c.loop-rest.invariant)
