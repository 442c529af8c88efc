-- The acts are put one behind the other.
use Rattle.std.specs.Prelude.{◌≡◌, ◌<◌, ℕ, suc, ◌+◌, ◌-◌, List, [], ◌∷◌, ◌++◌}
use Rattle.std.proofs.Common.{ap, sym, ◌∙◌, append_assoc, append-nil, arith}
use Rattle.spec_history.specs.declared.scripts.Task.{Task}
use Rattle.spec_history.specs.declared.scripts.SetupLine.{SetupLine}
use Rattle.afs_generate.specs.Generated.{act_drawn_at, acts_from, admin_act_behind, made_file_line, lines_from, tasks_at}

-- one act more
pub goes_on : (n k x more : ℕ) (before after : List Task) → after ≡ before ++ tasks_at (act_drawn_at k x).0 (admin_act_behind n k) → before ++ acts_from n (suc more) k x ≡ after ++ acts_from n more (k + 1) (act_drawn_at k x).1
unfolding acts_from
goes_on n k x more before after is =
    sym (append_assoc before (tasks_at (act_drawn_at k x).0 (admin_act_behind n k)) (acts_from n more (k + 1) (act_drawn_at k x).1)) ∙ ap (λ (ts : List Task). ts ++ acts_from n more (k + 1) (act_drawn_at k x).1) (sym is)

-- none is left
pub ends : (n more k x : ℕ) (tasks : List Task) → more ≡ 0 → tasks ++ acts_from n more k x ≡ tasks
unfolding acts_from
ends n more k x tasks none = ap (λ (m : ℕ). tasks ++ acts_from n m k x) none ∙ append-nil tasks

one_more : (m : ℕ) → 0 < m → suc (m - 1) ≡ m
one_more m some = omega (arith, some)

-- so it is in a loop, with so many left
pub goes_on_by : (n k x left : ℕ) (before after all : List Task) → 0 < left → before ++ acts_from n left k x ≡ all → after ≡ before ++ tasks_at (act_drawn_at k x).0 (admin_act_behind n k) → after ++ acts_from n (left - 1) (k + 1) (act_drawn_at k x).1 ≡ all
goes_on_by n k x left before after all some is next = sym (goes_on n k x (left - 1) before after next) ∙ (ap (λ (m : ℕ). before ++ acts_from n m k x) (one_more left some) ∙ is)

-- lines of files are put one behind the other
next_line : (left file : ℕ) (before after : List SetupLine) → after ≡ before ++ made_file_line file ∷ [] → after ++ lines_from left (file + 3) ≡ before ++ lines_from (suc left) file
unfolding lines_from
next_line left file before after next = ap (λ (ls : List SetupLine). ls ++ lines_from left (file + 3)) next ∙ append_assoc before (made_file_line file ∷ []) (lines_from left (file + 3))

pub line_goes_on : (left file : ℕ) (before after all : List SetupLine) → 0 < left → before ++ lines_from left file ≡ all → after ≡ before ++ made_file_line file ∷ [] → after ++ lines_from (left - 1) (file + 3) ≡ all
line_goes_on left file before after all some is next = next_line (left - 1) file before after next ∙ (ap (λ (m : ℕ). before ++ lines_from m file) (one_more left some) ∙ is)

pub lines_end : (left file : ℕ) (lines all : List SetupLine) → left ≡ 0 → lines ++ lines_from left file ≡ all → lines ≡ all
unfolding lines_from
lines_end left file lines all none is = sym (append-nil lines) ∙ (ap (λ (m : ℕ). lines ++ lines_from m file) (sym none) ∙ is)

pub acts_end : (n left k x : ℕ) (tasks all : List Task) → left ≡ 0 → tasks ++ acts_from n left k x ≡ all → tasks ≡ all
acts_end n left k x tasks all none is = sym (ends n left k x tasks none) ∙ is
