-- What the source holds is no script.
use Rattle.std.specs.Prelude.{◌<◌, ℕ, List, [], ◌++◌, length, Option, Some, None, Err}
use Rattle.std.proofs.Common.{◌∙◌, inl, inr}
use Rattle.std.specs.Io.KnownBytes.{Consumes, IsAtEnd}
use Rattle.spec_history.specs.declared.scripts.Script.{Script}
use Rattle.afs_grammar.proofs.TooLong.{longer_as_front}
use Rattle.afs_outside.specs.Outside.{HadAll, TakesTooMuch}
use Rattle.afs_command.specs.Spans.{IsUnchanged, Span}
use Rattle.afs_command.specs.Reading.{refusal_status, IsLongRefusal, RefusedBy, GivesNone, level, most_script_bytes}
use Rattle.afs_command.specs.declared.scripts.Refusal.{Refusal}
use Rattle.afs_command.specs.declared.scripts.Refusal.TheVariants as refusals

pub long_refusal : (bytes : List ℕ) (r : Refusal) → 16777216 < length bytes → RefusedBy {A = Script} bytes (Err r) → IsLongRefusal bytes r
long_refusal bytes (refusals.Script line reason) long bad = λ rest. longer_as_front level bytes rest long ∙ bad
long_refusal bytes refusals.OutOfMemory long bad = tt

-- a front of all that the source had left
had_behind : (before after : Option (List ℕ)) (front : List ℕ) → Consumes before after front → (rest : List ℕ) × HadAll before (front ++ rest)
had_behind None after front taken = ([], tt)
had_behind (Some left) None front taken = absurd taken
had_behind (Some left) (Some rest) front taken = (rest, taken)

pub none_of_long : (source : Span (Option (List ℕ))) (faults : Span ℕ) (front : List ℕ) (r : Refusal) → IsUnchanged faults → TakesTooMuch most_script_bytes source.before source.after front → IsLongRefusal front r → GivesNone source faults (refusal_status r)
none_of_long source faults front (refusals.Script line reason) quiet taken bad =
    let all = had_behind source.before source.after front taken.consumed in
    record { quiet = quiet; input = front ++ all.0; had = all.1; taken = inr (front, taken); bad = bad all.0 }
none_of_long source faults front refusals.OutOfMemory quiet taken bad = quiet

pub none_of_bad : (source : Span (Option (List ℕ))) (faults : Span ℕ) (input : List ℕ) (r : Refusal) → IsUnchanged faults → HadAll source.before input → IsAtEnd source.after → RefusedBy {A = Script} input (Err r) → GivesNone source faults (refusal_status r)
none_of_bad source faults input (refusals.Script line reason) quiet had end bad = record { quiet = quiet; input = input; had = had; taken = inl end; bad = bad }
none_of_bad source faults input refusals.OutOfMemory quiet had end bad = quiet
