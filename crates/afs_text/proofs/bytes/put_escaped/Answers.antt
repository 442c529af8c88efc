use Rattle.std.proofs.Common.{refl}
use Rattle.std.specs.List.{flat_map}
use Rattle.spec_model.specs.LineText.{name_byte, name_text}
use Rattle.afs_outside.proofs.Puts.{completes_more, completes_stop, completes_end, at_item, at_end}
use Rattle.afs_text.proofs.bytes.put_escaped.Goals as goal

pub loop-b-preserved : goal.loop-b-preserved
loop-b-preserved g c =
    completes_more _ _ _ _ _ _ _ _ _ _ (at_item (flat_map (name_byte)) _ _ _ _ _ _ _ 0 _ c.loop-b-test.true refl c.loop-b.invariant) c.in_ok-put_name_byte.ensures

pub returns-in_err-put_name_byte : goal.returns-in_err-put_name_byte
unfolding name_text
returns-in_err-put_name_byte g c =
    completes_stop _ _ _ _ _ _ _ _ _ _ _ (at_item (flat_map (name_byte)) _ _ _ _ _ _ _ 0 _ c.loop-b-test.true refl c.loop-b.invariant) c.from_residual.ensures.0 c.in_err-put_name_byte.ensures

pub returns : goal.returns
unfolding name_text
returns g c = completes_end _ _ _ _ _ _ (at_end (flat_map (name_byte)) _ _ _ _ _ _ _ c.loop-b-test.false c.loop-b.invariant)
