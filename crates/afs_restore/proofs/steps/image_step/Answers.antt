use Rattle.std.proofs.Common.{ℕ, Option, refl, ap, ◌∙◌, drop}
use Rattle.spec_dumps.specs.Fields.{took}
use Rattle.spec_dumps.specs.Streams.{next_at}
use Rattle.afs_restore.specs.Steps.{stage_of}
use Rattle.afs_restore.specs.declared.steps.Step.{Step}
use Rattle.afs_restore.specs.declared.steps.Step.TheVariants as steps
use Rattle.afs_restore.proofs.Handed.{handed_up}
use Rattle.afs_restore.proofs.Lists.{get_here}
use Rattle.afs_restore.proofs.Stages.{end_taken, image_first, image_stopped, image_taken, nowhere_stopped, stops_at}
use Rattle.afs_restore.proofs.steps.image_step.Goals as goal

pub returns-in_err-next-clause-steps : goal.returns-in_err-next-clause-steps
returns-in_err-next-clause-steps c =
    rw (handed_up c.from_residual.result _ c.from_residual.ensures.1)
    (stops_at {X = Option ℕ} {Z = Step} next_at (λ o. o) (λ s. stage_of s c.args.parts.now) (stage_of (steps.Image c.args.place) c.args.parts.now) _ c.args.r.now c.next.new.r (image_first c.args.place c.args.parts.now) c.in_err-next.ensures)

pub returns-in-None-clause-steps : goal.returns-in-None-clause-steps
returns-in-None-clause-steps c =
    let rest = c.next.new.r.left in
    end_taken c.args.place c.args.parts.now c.args.r.now.left rest (c.in_ok-next.ensures ∙ ap (λ (o : Option ℕ). took o rest) c.in-None.is)

pub returns-in-None-place_of-clause-steps : goal.returns-in-None-place_of-clause-steps
returns-in-None-place_of-clause-steps c =
    let mid = c.next.new.r.left in
    let is = c.split_at.ensures.back ∙ ap (drop c.args.place) c.as_slice.ensures.value in
    nowhere_stopped c.args.place c.in-Some.number c.args.parts.now c.split_at.result.1.now c.args.r.now.left mid is (c.in_ok-next.ensures ∙ ap (λ (o : Option ℕ). took o mid) c.in-Some.is) c.in-None-place_of.ensures

pub returns-in_err-parts-in-Some-place_of-clause-steps : goal.returns-in_err-parts-in-Some-place_of-clause-steps
returns-in_err-parts-in-Some-place_of-clause-steps c =
    let mid = c.next.new.r in
    let k = c.in-Some-place_of.found in
    let is = c.split_at.ensures.back ∙ ap (drop c.args.place) c.as_slice.ensures.value in
    rw (handed_up c.from_residual-in_err-parts-in-Some-place_of.result _ c.from_residual-in_err-parts-in-Some-place_of.ensures.1)
    (image_stopped {Z = Step} (λ s. stage_of s c.args.parts.now) c.args.place k c.in-Some.number _ _ c.args.parts.now c.split_at.result.1.now c.args.r.now mid c.image_words.new.r is (c.in_ok-next.ensures ∙ ap (λ (o : Option ℕ). took o mid.left) c.in-Some.is)
    (get_here k c.split_at.result.1.now (0, 0) c.in-Some-place_of.ensures.0) c.in-Some-place_of.ensures c.in_err-parts-in-Some-place_of.ensures)

pub returns-in_ok-parts-in-Some-place_of-clause-steps : goal.returns-in_ok-parts-in-Some-place_of-clause-steps
returns-in_ok-parts-in-Some-place_of-clause-steps c =
    let mid = c.next.new.r.left in
    let k = c.in-Some-place_of.found in
    let is = c.split_at.ensures.back ∙ ap (drop c.args.place) c.as_slice.ensures.value in
    image_taken c.args.place k c.in-Some.number _ c.in_ok-parts-in-Some-place_of.field-0 c.args.parts.now _ c.split_at.result.1.now c.args.r.now.left mid c.image_words.new.r.left is (c.in_ok-next.ensures ∙ ap (λ (o : Option ℕ). took o mid) c.in-Some.is)
    (get_here k c.split_at.result.1.now (0, 0) c.in-Some-place_of.ensures.0) c.in-Some-place_of.ensures c.in_ok-parts-in-Some-place_of.ensures refl
