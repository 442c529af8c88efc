-- The first bad line of a script decides.
use Rattle.std.proofs.Common.{◌≡◌, ℕ, ◌+◌, ◌-◌, ◌<◌, true, List, [], ◌∷◌, ◌++◌, length, nat_eq, Ok, Err, Result, ap, ◌∙◌, arith, refl, append_assoc}
use Rattle.std.specs.List.{list_all}
use Rattle.std.proofs.lemmas.List.Splits.{length-slice_split}
use Rattle.afs_num.specs.declared.scripts.Reason.{Reason}
use Rattle.spec_history.specs.declared.scripts.Script.{Script}
use Rattle.spec_model.specs.ScriptWords.{◌>>=◌, parts}
use Rattle.spec_model.specs.Script.{at_line}
use Rattle.spec_model.specs.ScriptText.{is_part, closed, room_behind}
use Rattle.spec_model.proofs.ScriptLines.{both, cut_off, uncut}
use Rattle.afs_grammar.specs.Lines.{LinesRead, nothing_read, line_at, last_at, lines_read_from, script_of}
use Rattle.afs_grammar.specs.FirstBad.{lines_read}

steps : (level : ℕ) (r : LinesRead) (number room : ℕ) (line : List ℕ) (new : List (List ℕ)) → 0 < length new → lines_read_from level r number room (line ∷ new) ≡ (at_line (number + 1) (line_at level r (number + 1) room line) >>= (λ (s : LinesRead). lines_read_from level s (number + 1) (room - (length line + 1)) new))
steps level r number room line [] lt = absurd (omega arith)
steps level r number room line (next ∷ more) lt = refl

pub line_then : (level : ℕ) (r : LinesRead) (number room : ℕ) (line rest : List ℕ) → is_part 10 line ≡ true → lines_read_from level r number room (parts 10 (line ++ 10 ∷ rest)) ≡ (at_line (number + 1) (line_at level r (number + 1) room line) >>= (λ (s : LinesRead). lines_read_from level s (number + 1) (room - (length line + 1)) (parts 10 rest)))
line_then level r number room line rest h =
    ap (lines_read_from level r number room) (cut_off 10 line rest refl h)
    ∙ steps level r number room line (parts 10 rest) (omega (arith, length-slice_split (λ b. nat_eq b 10) rest))

-- what is behind a good line is read behind it
onward : (o : Result LinesRead (ℕ × Reason)) (r : LinesRead) (f : LinesRead → Result LinesRead (ℕ × Reason)) (g : LinesRead → Result Script (ℕ × Reason)) (x : Result Script (ℕ × Reason)) → (o >>= f) ≡ Ok r → ((s : LinesRead) → f s ≡ Ok r → g s ≡ x) → (o >>= g) ≡ x
onward (Ok s) r f g x e ih = ih s e
onward (Err y) r f g x e ih = absurd cc

abbrev okay : LinesRead → Result LinesRead (ℕ × Reason)
okay x = Ok x

same_ok : (x y : LinesRead) → okay x ≡ okay y → x ≡ y
same_ok x y e = cc

pub behind_lines : (level : ℕ) (lines : List (List ℕ)) (old r : LinesRead) (number room : ℕ) (rest : List ℕ) → list_all (is_part 10) lines ≡ true → lines_read level old number room lines ≡ Ok r → lines_read_from level old number room (parts 10 (closed lines ++ rest)) ≡ lines_read_from level r (number + length lines) (room_behind room lines) (parts 10 rest)
behind_lines level [] old r number room rest h e =
    ap (λ (s : LinesRead). lines_read_from level s number room (parts 10 rest)) (same_ok old r e)
    ∙ ap (λ (k : ℕ). lines_read_from level r k room (parts 10 rest)) (let z : number ≡ number + 0 = omega arith in z)
behind_lines level (line ∷ lines) old r number room rest h e =
    let hs = both (is_part 10 line) (list_all (is_part 10) lines) h in
    ap (λ (bs : List ℕ). lines_read_from level old number room (parts 10 bs)) (append_assoc line (10 ∷ closed lines) rest)
    ∙ (line_then level old number room line (closed lines ++ rest) hs.0
    ∙ onward (at_line (number + 1) (line_at level old (number + 1) room line)) r (λ s. lines_read level s (number + 1) (room - (length line + 1)) lines) (λ s. lines_read_from level s (number + 1) (room - (length line + 1)) (parts 10 (closed lines ++ rest))) _ e
    (λ s f. behind_lines level lines s r (number + 1) (room - (length line + 1)) rest hs.1 f
    ∙ ap (λ (k : ℕ). lines_read_from level r k (room_behind (room - (length line + 1)) lines) (parts 10 rest)) (let z : number + 1 + length lines ≡ number + length (line ∷ lines) = omega arith in z)))

zero_more : (n : ℕ) → 0 + n ≡ n
zero_more n = omega arith

pub first_bad_line : (level : ℕ) (lines : List (List ℕ)) (line rest : List ℕ) (r : LinesRead) (reason : Reason) → list_all (is_part 10) lines ≡ true → is_part 10 line ≡ true → lines_read level nothing_read 0 16777216 lines ≡ Ok r → line_at level r (length lines + 1) (room_behind 16777216 lines) line ≡ Err reason → script_of level (closed lines ++ (line ++ 10 ∷ rest)) ≡ Err (length lines + 1, reason)
unfolding script_of
first_bad_line level lines line rest r reason hs h e bad =
    behind_lines level lines nothing_read r 0 16777216 (line ++ 10 ∷ rest) hs e
    ∙ (ap (λ (k : ℕ). lines_read_from level r k (room_behind 16777216 lines) (parts 10 (line ++ 10 ∷ rest))) (zero_more (length lines))
    ∙ (line_then level r (length lines) (room_behind 16777216 lines) line rest h
    ∙ ap (λ (o : Result LinesRead Reason). at_line (length lines + 1) o >>= (λ (s : LinesRead). lines_read_from level s (length lines + 1) (room_behind 16777216 lines - (length line + 1)) (parts 10 rest))) bad))

pub last_line : (level : ℕ) (lines : List (List ℕ)) (last : List ℕ) (r : LinesRead) → list_all (is_part 10) lines ≡ true → is_part 10 last ≡ true → lines_read level nothing_read 0 16777216 lines ≡ Ok r → script_of level (closed lines ++ last) ≡ at_line (length lines + 1) (last_at r (length lines + 1) (room_behind 16777216 lines) last)
unfolding script_of
last_line level lines last r hs h e =
    behind_lines level lines nothing_read r 0 16777216 last hs e
    ∙ (ap (λ (k : ℕ). lines_read_from level r k (room_behind 16777216 lines) (parts 10 last)) (zero_more (length lines))
    ∙ ap (lines_read_from level r (length lines) (room_behind 16777216 lines)) (uncut 10 last h))
