-- A text that is longer than a script may be is no script, and its reading stops in the front that is too long.
use Rattle.std.proofs.Common.{◌≡◌, ℕ, ◌+◌, ◌-◌, ◌<◌, ◌≤◌, ◌⊎◌, inl, inr, Bool, true, false, not, List, [], ◌∷◌, ◌++◌, length, nat_eq, nat_le, nat_lt, Ok, Err, Result, ap, sym, subst, ◌∙◌, arith, refl, append_assoc, append-nil, length-append, eqb-true, ltb-true}
use Rattle.std.proofs.lemmas.Bool.Decides.{nat_tests}
use Rattle.afs_num.specs.declared.scripts.Reason.{Reason}
use Rattle.afs_num.specs.declared.scripts.Reason.TheVariants as reasons
use Rattle.spec_model.specs.ScriptWords.{◌>>=◌, must, parts}
use Rattle.spec_model.specs.ScriptText.{is_part}
use Rattle.spec_history.specs.declared.scripts.Script.{Script}
use Rattle.spec_model.specs.Script.{at_line}
use Rattle.spec_model.proofs.ScriptLines.{all_append, uncut}
use Rattle.afs_grammar.specs.Lines.{LinesRead, nothing_read, line_at, last_at, lines_read_from, script_of}
use Rattle.afs_grammar.proofs.FirstBad.{line_then}

is_or : (t : Bool) → (t ≡ true) ⊎ (t ≡ false)
is_or true = inl refl
is_or false = inr refl

with_byte : (line : List ℕ) (b : ℕ) → is_part 10 line ≡ true → nat_eq b 10 ≡ false → is_part 10 (line ++ b ∷ []) ≡ true
with_byte line b h e = all_append (λ x. not (nat_eq x 10)) line (b ∷ []) h (rw e refl)

must_false : (t : Bool) (reason : Reason) → t ≡ false → must t reason ≡ Err reason
must_false t reason e = rw e refl

passed : {A : Type 0} → (t : Bool) (reason : Reason) (f : Unit {0} → Result A Reason) (x : A) → (must t reason >>= f) ≡ Ok x → t ≡ true
passed true reason f x e = refl
passed false reason f x e = absurd cc

not_less : (n m : ℕ) → m ≤ n → nat_lt n m ≡ false
not_less n m le = grind (arith, nat_tests)

not_most : (n m : ℕ) → m < n → nat_le n m ≡ false
not_most n m lt = grind (arith, nat_tests)

line_too_long : (level : ℕ) (r : LinesRead) (number room : ℕ) (line : List ℕ) → room ≤ length line → line_at level r number room line ≡ Err reasons.Limit
unfolding line_at
line_too_long level r number room line le = rw (must_false (nat_lt (length line) room) reasons.Limit (not_less (length line) room le)) refl

last_too_long : (r : LinesRead) (number room : ℕ) (last : List ℕ) → room < length last → last_at r number room last ≡ Err reasons.Limit
unfolding last_at
last_too_long r number room last lt = rw (must_false (nat_le (length last) room) reasons.Limit (not_most (length last) room lt)) refl

-- a good line is within the room
line_within : (level : ℕ) (r s : LinesRead) (number room : ℕ) (line : List ℕ) → line_at level r number room line ≡ Ok s → length line < room
unfolding line_at
line_within level r s number room line e = ltb-true (length line) room (passed (nat_lt (length line) room) reasons.Limit _ s e)

-- what is behind a good line is the same
same_behind : (o : Result LinesRead Reason) (n : ℕ) (f g : LinesRead → Result Script (ℕ × Reason)) → ((s : LinesRead) → o ≡ Ok s → f s ≡ g s) → (at_line n o >>= f) ≡ (at_line n o >>= g)
same_behind (Ok s) n f g h = h s refl
same_behind (Err reason) n f g h = refl

none_behind : (o : Result LinesRead Reason) (n : ℕ) (f : LinesRead → Result Script (ℕ × Reason)) (x : Script) → ((s : LinesRead) → o ≡ Ok s → f s ≡ Ok x → ⊥) → (at_line n o >>= f) ≡ Ok x → ⊥
none_behind (Ok s) n f x h e = h s refl e
none_behind (Err reason) n f x h e = absurd cc

-- the room that is left behind a good line is still too small
still_long : (line bytes : List ℕ) (b room : ℕ) → room < length (line ++ b ∷ bytes) → length line < room → room - (length line + 1) < length bytes
still_long line bytes b room lt within = omega (arith, length-append line (b ∷ bytes), lt, within)

-- a line that begins with too long a front is too long
over_long : (level : ℕ) (rest line : List ℕ) (r : LinesRead) (number room : ℕ) → is_part 10 line ≡ true → room < length line → lines_read_from level r number room (parts 10 (line ++ rest)) ≡ Err (number + 1, reasons.Limit)
over_long level [] line r number room h lt =
    ap (λ (bs : List ℕ). lines_read_from level r number room (parts 10 bs)) (append-nil line)
    ∙ (ap (lines_read_from level r number room) (uncut 10 line h)
    ∙ ap (at_line (number + 1)) (last_too_long r (number + 1) room line lt))
over_long level (b ∷ rest) line r number room h lt = elim (is_or (nat_eq b 10)) [
  | inl e ↦ ap (λ (x : ℕ). lines_read_from level r number room (parts 10 (line ++ x ∷ rest))) (eqb-true b 10 e)
      ∙ (line_then level r number room line rest h
      ∙ ap (λ (o : Result LinesRead Reason). at_line (number + 1) o >>= (λ (s : LinesRead). lines_read_from level s (number + 1) (room - (length line + 1)) (parts 10 rest))) (line_too_long level r (number + 1) room line (let z : room ≤ length line = omega (arith, lt) in z)))
  | inr e ↦ ap (λ (bs : List ℕ). lines_read_from level r number room (parts 10 bs)) (sym (append_assoc line (b ∷ []) rest))
      ∙ over_long level rest (line ++ b ∷ []) r number room (with_byte line b h e) (let z : room < length (line ++ b ∷ []) = omega (arith, length-append line (b ∷ []), lt) in z)
]

front_decides : (level : ℕ) (bytes line rest : List ℕ) (r : LinesRead) (number room : ℕ) → is_part 10 line ≡ true → room < length (line ++ bytes) → lines_read_from level r number room (parts 10 (line ++ (bytes ++ rest))) ≡ lines_read_from level r number room (parts 10 (line ++ bytes))
front_decides level [] line rest r number room h lt =
    let long : room < length line = omega (arith, length-append line [], lt) in
    over_long level rest line r number room h long ∙ sym (over_long level [] line r number room h long)
front_decides level (b ∷ bytes) line rest r number room h lt = elim (is_or (nat_eq b 10)) [
  | inl e ↦ subst (λ (x : ℕ). lines_read_from level r number room (parts 10 (line ++ x ∷ (bytes ++ rest))) ≡ lines_read_from level r number room (parts 10 (line ++ x ∷ bytes))) (sym (eqb-true b 10 e))
      (line_then level r number room line (bytes ++ rest) h
      ∙ (same_behind (line_at level r (number + 1) room line) (number + 1) (λ s. lines_read_from level s (number + 1) (room - (length line + 1)) (parts 10 (bytes ++ rest))) (λ s. lines_read_from level s (number + 1) (room - (length line + 1)) (parts 10 bytes))
      (λ s good. front_decides level bytes [] rest s (number + 1) (room - (length line + 1)) refl (still_long line bytes b room lt (line_within level r s (number + 1) room line good)))
      ∙ sym (line_then level r number room line bytes h)))
  | inr e ↦ ap (λ (bs : List ℕ). lines_read_from level r number room (parts 10 bs)) (sym (append_assoc line (b ∷ []) (bytes ++ rest)))
      ∙ (front_decides level bytes (line ++ b ∷ []) rest r number room (with_byte line b h e) (subst (λ (bs : List ℕ). room < length bs) (sym (append_assoc line (b ∷ []) bytes)) lt)
      ∙ ap (λ (bs : List ℕ). lines_read_from level r number room (parts 10 bs)) (append_assoc line (b ∷ []) bytes))
]

not_whole : (level : ℕ) (bytes line : List ℕ) (r : LinesRead) (number room : ℕ) (s : Script) → is_part 10 line ≡ true → room < length (line ++ bytes) → lines_read_from level r number room (parts 10 (line ++ bytes)) ≡ Ok s → ⊥
not_whole level [] line r number room s h lt e =
    let limit = over_long level [] line r number room h (let z : room < length line = omega (arith, length-append line [], lt) in z) in
    absurd cc
not_whole level (b ∷ bytes) line r number room s h lt e = elim (is_or (nat_eq b 10)) [
  | inl same ↦ none_behind (line_at level r (number + 1) room line) (number + 1) (λ q. lines_read_from level q (number + 1) (room - (length line + 1)) (parts 10 bytes)) s
      (λ q good. not_whole level bytes [] q (number + 1) (room - (length line + 1)) s refl (still_long line bytes b room lt (line_within level r q (number + 1) room line good)))
      (sym (line_then level r number room line bytes h) ∙ (ap (λ (x : ℕ). lines_read_from level r number room (parts 10 (line ++ x ∷ bytes))) (sym (eqb-true b 10 same)) ∙ e))
  | inr other ↦ not_whole level bytes (line ++ b ∷ []) r number room s (with_byte line b h other) (subst (λ (bs : List ℕ). room < length bs) (sym (append_assoc line (b ∷ []) bytes)) lt)
      (ap (λ (bs : List ℕ). lines_read_from level r number room (parts 10 bs)) (append_assoc line (b ∷ []) bytes) ∙ e)
]

-- what stands behind a front that is too long changes nothing
pub longer_as_front : (level : ℕ) (bytes rest : List ℕ) → 16777216 < length bytes → script_of level (bytes ++ rest) ≡ script_of level bytes
unfolding script_of
longer_as_front level bytes rest lt = front_decides level bytes [] rest nothing_read 0 16777216 refl lt

pub too_long_is_none : (level : ℕ) (bytes : List ℕ) (s : Script) → 16777216 < length bytes → script_of level bytes ≡ Ok s → ⊥
unfolding script_of
too_long_is_none level bytes s lt e = not_whole level bytes [] nothing_read 0 16777216 s refl lt e
