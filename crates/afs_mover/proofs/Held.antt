-- Dumps that are held fit.
use Rattle.std.proofs.Common.{◌≡◌, ◌≤◌, ◌+◌, ℕ, Bool, true, false, cond, List, [], ◌∷◌, ◌++◌, Option, Some, None, ap, filter, find, length, subst, sym, ◌∙◌, arith}
use Rattle.std.specs.Option.{option_map}
use Rattle.afs_adminparts.specs.Fitting.{FitDumps, FitsDump, FitsDumpIfAny}
use Rattle.spec_adminrows.specs.AdminRow.{dump_held, has_label, has_other_label}
use Rattle.spec_adminrows.specs.declared.turns.HeldDump.{HeldDump}

kept_if : (b : Bool) (d dump : HeldDump) (rest : List HeldDump) → FitsDump d.bytes → FitDumps (rest ++ dump ∷ []) → FitDumps (cond b (d ∷ rest) rest ++ dump ∷ [])
kept_if true d dump rest h k = (h, k)
kept_if false d dump rest h k = k

pub fits_put : (label : List ℕ) (dump : HeldDump) (ds : List HeldDump) → FitsDump dump.bytes → FitDumps ds → FitDumps (filter (has_other_label label) ds ++ dump ∷ [])
fits_put label dump [] h fit = (h, tt)
fits_put label dump (d ∷ ds) h fit = kept_if (has_other_label label d) d dump (filter (has_other_label label) ds) fit.0 (fits_put label dump ds h fit.1)

found_if : (b : Bool) (d : HeldDump) (o : Option HeldDump) → FitsDump d.bytes → FitsDumpIfAny (option_map (λ (x : HeldDump). x.bytes) o) → FitsDumpIfAny (option_map (λ (x : HeldDump). x.bytes) (cond b (Some d) o))
found_if true d o h k = h
found_if false d o h k = k

pub fits_held : (label : List ℕ) (ds : List HeldDump) → FitDumps ds → FitsDumpIfAny (dump_held label ds)
fits_held label [] fit = tt
fits_held label (d ∷ ds) fit = found_if (has_label label d) d (find (has_label label) ds) fit.0 (fits_held label ds fit.1)

one_fewer : (b : Bool) (d : HeldDump) (kept ds : List HeldDump) → length kept ≤ length ds → length (cond b (d ∷ kept) kept) ≤ length (d ∷ ds)
one_fewer true d kept ds h = omega (arith, h)
one_fewer false d kept ds h = omega (arith, h)

pub fewer : (p : HeldDump → Bool) (ds : List HeldDump) → length (filter p ds) ≤ length ds
fewer p [] = omega arith
fewer p (d ∷ ds) = one_fewer (p d) d (filter p ds) ds (fewer p ds)

-- its bytes, or those of the other
abbrev or_else : HeldDump → Option HeldDump → List ℕ
or_else e None = e.bytes
or_else e (Some d) = d.bytes

fits_found : (o : Option HeldDump) (d : HeldDump) (bytes : List ℕ) → Some d ≡ o → bytes ≡ d.bytes → FitsDumpIfAny (option_map (λ (x : HeldDump). x.bytes) o) → FitsDump bytes
fits_found None d bytes found same fit = absurd cc
fits_found (Some e) d bytes found same fit =
    let is : bytes ≡ e.bytes = same ∙ ap (λ (o : Option HeldDump). or_else e o) found in
    subst FitsDump (sym is) fit

-- the bytes of a dump that was found
pub found_fits : (label : List ℕ) (ds : List HeldDump) (d : HeldDump) (bytes : List ℕ) → FitDumps ds → Some d ≡ find (has_label label) ds → bytes ≡ d.bytes → FitsDump bytes
found_fits label ds d bytes fit found same = fits_found (find (has_label label) ds) d bytes found same (fits_held label ds fit)
