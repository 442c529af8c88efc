-- What the volumes are after a line was laid in one of them.
use Rattle.std.proofs.Common.{◌≡◌, ℕ, zero, suc, ◌<◌, List, [], ◌∷◌, length, Option, Some, None, Ok, get_or, slice_get, slice_set, Result, Err, refl, sym, ap, subst, ◌∙◌}
use Rattle.std.proofs.lemmas.Option.{slice_get-get_or, slice_get_within}
use Rattle.spec_history.specs.declared.scripts.SetupLine.{SetupLine}
use Rattle.spec_history.specs.declared.scripts.VolumeLine.{VolumeLine}
use Rattle.afs_num.specs.declared.scripts.Reason.{Reason}
use Rattle.spec_model.specs.ScriptWords.{◌>>=◌}
use Rattle.afs_words.specs.Reads.{Gives}
use Rattle.afs_words.specs.declared.faults.LineFault.{LineFault}
use Rattle.afs_words.specs.declared.faults.LineFault.TheVariants as faults
use Rattle.afs_grammar.specs.Heard.{Hears}
use Rattle.afs_grammar.specs.Lines.{line_fits, line_fits_in, line_laid, line_laid_in, place_of, setup_accepted, setup_laid, with_line, LinesRead}

there_by : (capacity place : ℕ) (x : SetupLine) (ls : List VolumeLine) (u : Unit {0}) (o : Option VolumeLine) → slice_get ls place ≡ o → line_fits_in capacity place x ls o ≡ Ok u → place < length ls
there_by capacity place x ls u None is e = absurd cc
there_by capacity place x ls u (Some l) is e = slice_get_within ls place l is

-- where a line is accepted there is a volume
pub is_there : (capacity place : ℕ) (x : SetupLine) (ls : List VolumeLine) (u : Unit {0}) → line_fits capacity place x ls ≡ Ok u → place < length ls
unfolding line_fits
is_there capacity place x ls u e = there_by capacity place x ls u (slice_get ls place) refl e

-- the volume of a place that is there
pub line_put : (place : ℕ) (x : SetupLine) (ls : List VolumeLine) (d : VolumeLine) → place < length ls → slice_set ls place (with_line x (get_or ls place d)) ≡ line_laid place x ls
line_put place x ls d lt = ap (line_laid_in place x ls) (sym (slice_get-get_or ls place d lt))

set_long : {A : Type 0} (xs : List A) (i : ℕ) (x : A) → length (slice_set xs i x) ≡ length xs
set_long {A} [] i x = refl
set_long {A} (y ∷ ys) zero x = refl
set_long {A} (y ∷ ys) (suc i) x = ap suc (set_long ys i x)

as_long_by : (place : ℕ) (x : SetupLine) (ls : List VolumeLine) (o : Option VolumeLine) → length (line_laid_in place x ls o) ≡ length ls
as_long_by place x ls None = refl
as_long_by place x ls (Some l) = set_long ls place (with_line x l)

pub as_long : (place : ℕ) (x : SetupLine) (ls : List VolumeLine) → length (line_laid place x ls) ≡ length ls
as_long place x ls = as_long_by place x ls (slice_get ls place)

-- a refusal is that of the line
pub refused_as : (level : ℕ) (r new : LinesRead) (name : List ℕ) (place : ℕ) (x : SetupLine) (e : LineFault) (res : Result (Unit {0}) LineFault) → res ≡ Err e → place ≡ place_of name r.volumes → Gives (setup_accepted level r place x) (Err e) → Hears (setup_laid level r name x) new res
unfolding setup_laid
refused_as level r new name place x (faults.Bad reason) res is at refused =
    subst (λ (q : Result (Unit {0}) LineFault). Hears (setup_laid level r name x) new q) (sym is)
    (ap (λ (o : Result (Unit {0}) Reason). o >>= (λ (u : Unit {0}). Ok (record r { volumes = line_laid (place_of name r.volumes) x r.volumes }))) (ap (λ (k : ℕ). setup_accepted level r k x) (sym at) ∙ refused))
refused_as level r new name place x faults.OutOfMemory res is at refused = subst (λ (q : Result (Unit {0}) LineFault). Hears (setup_laid level r name x) new q) (sym is) tt
