-- What a restorer makes of a volume.
use Rattle.std.proofs.Common.{◌≡◌, ℕ, ◌-◌, List, [], length, Option, Some, None, refl, sym, ap, subst, ◌∙◌}
use Rattle.std.specs.Prelude.{Result, Err}
use Rattle.spec_records.specs.Durable.{Stored}
use Rattle.spec_dumps.specs.Dumps.{Dump}
use Rattle.spec_dumps.specs.Fields.{FieldTaken, took, cut_at, bad_at}
use Rattle.spec_dumps.specs.Restores.{end_length, fed, restored_from, finished_by, made_or, offset_in, refused_at, restored}
use Rattle.spec_dumps.specs.Streams.{dump_at, dump_ended, FitsDump}
use Rattle.spec_dumps.proofs.Streams.{dump_spelled}
use Rattle.afs_restore.specs.Parts.{dump_in}
use Rattle.afs_restore.specs.ReadOn.{bytes_read, IsFed, IsFedSoFar, Waits}
use Rattle.afs_restore.specs.declared.faults.DumpFault.{DumpFault}
use Rattle.afs_restore.specs.declared.faults.DumpFault.TheVariants.{Bad}
use Rattle.afs_restore.specs.declared.parts.Parts.{Parts}
use Rattle.afs_restore.specs.declared.steps.Step.{Step}
use Rattle.afs_restore.specs.declared.steps.Step.TheVariants as steps
use Rattle.afs_restore.proofs.Fed.{at_the_end}

-- ---- a stream that was refused, or that isn't whole

refused_by : (bytes : List ℕ) (o : FieldTaken Dump) (k id : ℕ) (s : Stored) → refused_at bytes o ≡ Some k → finished_by id s bytes o ≡ Err k
refused_by bytes (took d rest) k id s e = absurd cc
refused_by bytes (cut_at left) k id s e = absurd cc
refused_by bytes (bad_at left) k id s e = let z : offset_in bytes left ≡ k = cc in ap (λ (n : ℕ). Err n) z

pub refused_finished : (bytes : List ℕ) (k id : ℕ) (s : Stored) → fed bytes ≡ Some k → restored_from id s bytes ≡ Err k
unfolding fed restored_from
refused_finished bytes k id s e = refused_by bytes (dump_at bytes) k id s e

cut_finished : (bytes left : List ℕ) (id short : ℕ) (s : Stored) → dump_at bytes ≡ cut_at left → short ≡ length left → restored_from id s bytes ≡ Err (length bytes - short)
unfolding restored_from
cut_finished bytes left id short s e is = ap (finished_by id s bytes) e ∙ ap (λ (n : ℕ). Err (length bytes - n)) (sym is)

pub waits_finished : (step : Step) (bytes pending : List ℕ) (id short : ℕ) (s : Stored) → (step ≡ steps.End → ⊥) → Waits step bytes pending short → restored_from id s bytes ≡ Err (length bytes - short)
waits_finished steps.Headers bytes pending id short s not w = cut_finished bytes w.0 id short s w.1.0 w.1.1
waits_finished steps.Count bytes pending id short s not w = cut_finished bytes w.0 id short s w.1.0 w.1.1
waits_finished (steps.Pair more least) bytes pending id short s not w = cut_finished bytes w.0 id short s w.1.0 w.1.1
waits_finished (steps.Image place) bytes pending id short s not w = cut_finished bytes w.0 id short s w.1.0 w.1.1
waits_finished (steps.Acl place) bytes pending id short s not w = cut_finished bytes w.0 id short s w.1.0 w.1.1
waits_finished (steps.Contents place) bytes pending id short s not w = cut_finished bytes w.0 id short s w.1.0 w.1.1
waits_finished steps.Magic bytes pending id short s not w = cut_finished bytes w.0 id short s w.1.0 w.1.1
waits_finished steps.End bytes pending id short s not w = absurd (not refl)

-- ---- a whole one

pub whole_is : (p : Parts) (pending : List ℕ) (count short : ℕ) → IsFedSoFar steps.End p pending count short → dump_at (bytes_read steps.End p pending) ≡ took (dump_in p) []
whole_is p pending count short h = at_the_end p (bytes_read steps.End p pending) pending h.stands.reading ∙ ap (dump_ended (dump_in p)) h.waits

pub whole_fits : (p : Parts) (pending : List ℕ) (count short : ℕ) → IsFedSoFar steps.End p pending count short → FitsDump (dump_in p)
whole_fits p pending count short h = (dump_spelled (bytes_read steps.End p pending) (dump_in p) [] h.fits (whole_is p pending count short h)).fits

pub whole_finished : (p : Parts) (pending : List ℕ) (id count short : ℕ) (s : Stored) (o : Option Stored) → IsFedSoFar steps.End p pending count short → restored id s (dump_in p) ≡ o →
    restored_from id s (bytes_read steps.End p pending) ≡ made_or (count - end_length) o
unfolding restored_from
whole_finished p pending id count short s o h e =
    ap (finished_by id s (bytes_read steps.End p pending)) (whole_is p pending count short h)
    ∙ (ap (made_or (length (bytes_read steps.End p pending) - end_length)) e ∙ ap (λ (n : ℕ). made_or (n - end_length) o) (sym h.many))

-- ---- a restorer

pub none_refused : (o : Option ℕ) → ((offset : ℕ) → o ≡ Some offset → ⊥) → o ≡ None
none_refused None none = refl
none_refused (Some offset) none = absurd (none offset refl)

-- it wasn't refused, and is at the end
pub is_whole : (step : Step) (p : Parts) (pending : List ℕ) (count short : ℕ) (o : Option ℕ) → o ≡ None → step ≡ steps.End → IsFed step p pending count short o → IsFedSoFar steps.End p pending count short
is_whole step p pending count short o none end h =
    subst (λ (s : Step). IsFedSoFar s p pending count short) end (subst (λ (z : Option ℕ). IsFed step p pending count short z) none h)

pub whole_seen : (step : Step) (p : Parts) (pending bytes : List ℕ) (id count short : ℕ) (s : Stored) (o : Option Stored) → step ≡ steps.End → bytes_read step p pending ≡ bytes → IsFedSoFar steps.End p pending count short → restored id s (dump_in p) ≡ o →
    restored_from id s bytes ≡ made_or (count - end_length) o
whole_seen step p pending bytes id count short s o end seen h e =
    subst (λ (t : List ℕ). restored_from id s t ≡ made_or (count - end_length) o) (ap (λ (z : Step). bytes_read z p pending) (sym end) ∙ seen) (whole_finished p pending id count short s o h e)

pub refused_seen : (step : Step) (p : Parts) (pending bytes : List ℕ) (id count short offset : ℕ) (s : Stored) (o : Option ℕ) → o ≡ Some offset → bytes_read step p pending ≡ bytes → IsFed step p pending count short o → restored_from id s bytes ≡ Err offset
refused_seen step p pending bytes id count short offset s o is seen h =
    subst (λ (t : List ℕ). restored_from id s t ≡ Err offset) seen (refused_finished (bytes_read step p pending) offset id s (subst (λ (z : Option ℕ). IsFed step p pending count short z) is h))

pub waits_seen : (step : Step) (p : Parts) (pending bytes : List ℕ) (id count short : ℕ) (s : Stored) (o : Option ℕ) → o ≡ None → (step ≡ steps.End → ⊥) → bytes_read step p pending ≡ bytes → IsFed step p pending count short o → restored_from id s bytes ≡ Err (count - short)
waits_seen step p pending bytes id count short s o none not seen h =
    let so_far : IsFedSoFar step p pending count short = subst (λ (z : Option ℕ). IsFed step p pending count short z) none h in
    subst (λ (t : List ℕ). restored_from id s t ≡ Err (count - short)) seen
    (waits_finished step (bytes_read step p pending) pending id short s not so_far.waits ∙ ap (λ (n : ℕ). Err (n - short)) (sym so_far.many))

pub same_fault : {T : Type 0} (f : DumpFault) (offset : ℕ) (r : Result T DumpFault) → r ≡ Err f → r ≡ Err (Bad offset) → f ≡ Bad offset
same_fault {T} f offset r a b = let z : Err f ≡ Err (Bad offset) = sym a ∙ b in cc
