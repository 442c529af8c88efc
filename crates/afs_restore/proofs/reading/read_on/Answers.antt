use Rattle.std.proofs.Common.{◌≡◌, ℕ, ◌-◌, length, drop, subst, sym, ◌∙◌, rules, arith}
use Rattle.std.specs.Prelude.{Err}
use Rattle.spec_dumps.specs.Fields.{took}
use Rattle.spec_dumps.specs.Laws.{IsReading}
use Rattle.afs_restore.specs.ReadOn.{bytes_read, Reaches}
use Rattle.afs_restore.specs.Reading.{ReadsField}
use Rattle.afs_restore.specs.Steps.{stage_of, stepped_past, StaysThere}
use Rattle.afs_restore.specs.declared.parts.Parts.{Parts}
use Rattle.afs_restore.specs.declared.steps.Step.{Step}
use Rattle.afs_restore.specs.declared.steps.Step.TheVariants as steps
use Rattle.afs_restore.specs.declared.stops.Stop.{Stop}
use Rattle.afs_restore.specs.declared.stops.Stop.TheVariants as stops
use Rattle.afs_restore.proofs.Fed.{end_over, keeps_then, reads_next, reaches, refused_here, waits_here}
use Rattle.afs_restore.proofs.Fronts.{front_less, front_place, same_bytes, step_front}
use Rattle.afs_restore.proofs.reading.read_on.Goals as goal

pub loop-r-preserved : goal.loop-r-preserved
loop-r-preserved c =
    let i = c.loop-r.invariant in
    let bytes = c.args.bytes.now in
    let step = c.loop-r.step in
    let next = c.in-Ok.next in
    let p = c.loop-r.parts in
    let q = c.take_step.new.parts in
    let left = c.loop-r.r.left in
    let rest = c.take_step.new.r.left in
    let e : stepped_past (stage_of step p) left ≡ took (stage_of next q) rest = c.in-Ok.ensures.steps in
    let front = step_front step p (stage_of next q) left rest i.may i.fits e in
    let less = front_less (stage_of step p) (stage_of next q) left rest front in
    let many = i.many in
    let within = i.within in
    let now = c.left_len-left.ensures in
    record {
      may = c.in-Ok.ensures.step;
      many = now;
      within = omega (arith, less, many, within, now);
      place = subst (λ (n : ℕ). rest ≡ drop (length bytes - n) bytes) (sym now) (front_place (stage_of step p) (stage_of next q) bytes left rest (length bytes - c.loop-r.left) i.place front);
      fits = front.fits;
      same = same_bytes step next p q left rest front ∙ i.same;
      reading = reads_next (bytes_read c.args.from c.args.parts.now bytes) left rest (stage_of step p) (stage_of next q) e i.reading;
      kept = keeps_then c.args.parts.now p q i.kept c.in-Ok.ensures.kept;
    }

pub loop-r-smaller : goal.loop-r-smaller
loop-r-smaller c =
    let i = c.loop-r.invariant in
    let p = c.loop-r.parts in
    let q = c.take_step.new.parts in
    let step = c.loop-r.step in
    let next = c.in-Ok.next in
    let left = c.loop-r.r.left in
    let rest = c.take_step.new.r.left in
    front_less (stage_of step p) (stage_of next q) left rest (step_front step p (stage_of next q) left rest i.may i.fits c.in-Ok.ensures.steps)

pub returns-in-Err-Cut-clause-read : goal.returns-in-Err-Cut-clause-read
returns-in-Err-Cut-clause-read c =
    let i = c.loop-r.invariant in
    let bytes = c.args.bytes.now in
    let from = c.args.from in
    let before = c.args.parts.now in
    let step = c.loop-r.step in
    let p = c.loop-r.parts in
    let q = c.take_step.new.parts in
    let stop : ReadsField {X = Step} (stepped_past (stage_of step p)) (λ s. stage_of s q) c.loop-r.r c.take_step.new.r (Err stops.Cut) =
    subst (λ (e : Stop). ReadsField {X = Step} (stepped_past (stage_of step p)) (λ s. stage_of s q) c.loop-r.r c.take_step.new.r (Err e)) c.in-Err-Cut.field-0-is c.in-Err-Cut.ensures.steps in
    let stays : StaysThere p q (Err stops.Cut) = subst (λ (e : Stop). StaysThere p q (Err e)) c.in-Err-Cut.field-0-is c.in-Err-Cut.ensures.stays in
    let not : step ≡ steps.End → ⊥ = search rules in (
      subst (λ (z : Parts). Reaches from before bytes step z c.loop-r.left) (sym stays) (reaches from step before p bytes c.loop-r.r.left c.loop-r.left i.many i.within i.place i.may i.same i.reading),
      waits_here step p (bytes_read from before bytes) c.loop-r.r.left _ c.take_step.new.r.left _ not stop i.reading c.left_len.ensures,
    )

pub returns-in-Err-Bad-clause-read : goal.returns-in-Err-Bad-clause-read
returns-in-Err-Bad-clause-read c =
    let i = c.loop-r.invariant in
    let bytes = c.args.bytes.now in
    let from = c.args.from in
    let before = c.args.parts.now in
    let step = c.loop-r.step in
    let p = c.loop-r.parts in
    let q = c.take_step.new.parts in
    let stop : ReadsField {X = Step} (stepped_past (stage_of step p)) (λ s. stage_of s q) c.loop-r.r c.take_step.new.r (Err stops.Bad) =
    subst (λ (e : Stop). ReadsField {X = Step} (stepped_past (stage_of step p)) (λ s. stage_of s q) c.loop-r.r c.take_step.new.r (Err e)) c.in-Err-Bad.field-0-is c.in-Err-Bad.ensures.steps in
    let stays : StaysThere p q (Err stops.Bad) = subst (λ (e : Stop). StaysThere p q (Err e)) c.in-Err-Bad.field-0-is c.in-Err-Bad.ensures.stays in (
      subst (λ (z : Parts). Reaches from before bytes step z c.loop-r.left) (sym stays) (reaches from step before p bytes c.loop-r.r.left c.loop-r.left i.many i.within i.place i.may i.same i.reading),
      refused_here step p (bytes_read from before bytes) c.loop-r.r.left c.take_step.new.r.left _ stop i.reading c.left_len-in-Err-Bad.ensures,
    )

pub returns-then-left-gt0-clause-read : goal.returns-then-left-gt0-clause-read
returns-then-left-gt0-clause-read c =
    let i = c.loop-r.invariant in
    let bytes = c.args.bytes.now in
    let from = c.args.from in
    let before = c.args.parts.now in
    let p = c.loop-r.parts in
    let end : c.loop-r.step ≡ steps.End = search rules in
    let all = bytes_read from before bytes in (
      reaches from c.loop-r.step before p bytes c.loop-r.r.left c.loop-r.left i.many i.within i.place i.may i.same i.reading,
      end_over p all c.loop-r.r.left c.loop-r.left i.many (search rules) (subst (λ (s : Step). IsReading all (stage_of s p) c.loop-r.r.left) end i.reading),
    )
