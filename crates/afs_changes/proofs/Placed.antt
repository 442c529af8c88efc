-- Names that are added, and edits that are put in their place.
use Rattle.std.proofs.Common.{◌≡◌, ℕ, ◌+◌, Bool, true, false, not, List, [], ◌∷◌, ◌++◌, length, Option, Some, None, nat_lt, is_some, refl, ap, ◌∙◌, suc, arith, if◌then◌else◌, sym}
use Rattle.std.specs.Prelude.{◌&&◌}
use Rattle.std.specs.List.{insert, prefix_len}
use Rattle.afs_num.specs.Names.{name_ok}
use Rattle.afs_num.specs.declared.directories.Name.{Name}
use Rattle.spec_ideal.specs.Directories.{most_names, named, add_refused}
use Rattle.spec_ideal.specs.Operations.{adds_name, first_failing}
use Rattle.spec_ideal.specs.Volumes.{ascending, edit_number, edit_put}
use Rattle.spec_ideal.specs.Volumes as ideal
use Rattle.afs_changes.specs.Planning.{edit_seen, edits_seen, placed_among}
use Rattle.afs_changes.specs.declared.edits.Edit.{Edit}

added_by_tests : (good name there room : Bool) → ◌≡◌ {A = Option ℕ} (if good && name then (if not there then (if room then None else Some 27) else Some 17) else Some 22) (if good then (if not name then Some 22 else (if there then Some 17 else (if room then None else Some 27))) else Some 22)
added_by_tests true true true room = refl
added_by_tests true true false room = refl
added_by_tests true false there room = refl
added_by_tests false name there room = refl

pub added_by : (name : List ℕ) (names : List Name) (good : Bool) → first_failing (adds_name name names good) ≡ (if good then add_refused name names else Some 22)
added_by name names good = added_by_tests good (name_ok name) (is_some (named name names)) (nat_lt (length names) most_names)

one_further : (e d : Edit) (k : ℕ) (ds : List Edit) → insert (d ∷ ds) (1 + k) e ≡ d ∷ insert ds k e
one_further e d k ds =
    let next : 1 + k ≡ suc k = omega arith in
    ap (λ (n : ℕ). insert (d ∷ ds) n e) next

placed_by : (b : Bool) (e d : Edit) (k : ℕ) (ds : List Edit) → edits_seen (insert ds k e) ≡ edit_put (edit_seen e) (edits_seen ds) → edits_seen (insert (d ∷ ds) (if b then 1 + k else 0) e) ≡ (if b then edit_seen d ∷ edit_put (edit_seen e) (edits_seen ds) else edit_seen e ∷ edit_seen d ∷ edits_seen ds)
placed_by true e d k ds is = ap edits_seen (one_further e d k ds) ∙ ap (λ (t : List ideal.Edit). edit_seen d ∷ t) is
placed_by false e d k ds is = refl

pub put_in_place : (e : Edit) (es : List Edit) → edits_seen (insert es (prefix_len (λ (d : Edit). nat_lt (edit_number (edit_seen d)) (edit_number (edit_seen e))) es) e) ≡ edit_put (edit_seen e) (edits_seen es)
put_in_place e [] = refl
put_in_place e (d ∷ ds) = placed_by (nat_lt (edit_number (edit_seen d)) (edit_number (edit_seen e))) e d (prefix_len (λ (c : Edit). nat_lt (edit_number (edit_seen c)) (edit_number (edit_seen e))) ds) ds (put_in_place e ds)

pub placed_at : (e : Edit) (es new : List Edit) (n k : ℕ) → n ≡ edit_number (edit_seen e) → k ≡ prefix_len (λ (d : Edit). nat_lt (edit_number (edit_seen d)) n) es → new ≡ insert es k e → edits_seen new ≡ edit_put (edit_seen e) (edits_seen es)
placed_at e es new n k number place is = rw (is, place, number) (put_in_place e es)

pub placed_none : (es : List ideal.Edit) → placed_among es [] ≡ ascending es
placed_none [] = refl
placed_none (e ∷ es) = ap (edit_put e) (placed_none es)

among_last : (es : List ideal.Edit) (e : ideal.Edit) (ps : List ideal.Edit) → placed_among (es ++ e ∷ []) ps ≡ placed_among es (edit_put e ps)
among_last [] e ps = refl
among_last (d ∷ ds) e ps = ap (edit_put d) (among_last ds e ps)

seen_last : (es : List Edit) (e : Edit) → edits_seen (es ++ e ∷ []) ≡ edits_seen es ++ edit_seen e ∷ []
seen_last [] e = refl
seen_last (d ∷ ds) e = ap (λ (t : List ideal.Edit). edit_seen d ∷ t) (seen_last ds e)

pub taken_last : (all rest : List Edit) (e : Edit) (ps new : List ideal.Edit) → all ≡ rest ++ e ∷ [] → new ≡ edit_put (edit_seen e) ps → placed_among (edits_seen rest) new ≡ placed_among (edits_seen all) ps
taken_last all rest e ps new is more = rw (is, seen_last rest e, among_last (edits_seen rest) (edit_seen e) ps, more) refl

-- a name that passes the tests may be added
may_by : (good : Bool) (refused : Option ℕ) → (if good then refused else Some 22) ≡ None → refused ≡ None
may_by true refused e = e
may_by false refused e = absurd cc

pub may_be_added : (name : List ℕ) (names : List Name) (good : Bool) → first_failing (adds_name name names good) ≡ None → add_refused name names ≡ None
may_be_added name names good e = may_by good (add_refused name names) (sym (added_by name names good) ∙ e)
