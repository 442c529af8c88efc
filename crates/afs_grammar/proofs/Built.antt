-- From the sixth level on every act is built, with every operand.
use Rattle.std.proofs.Common.{◌≡◌, ℕ, ◌≤◌, false, List, [], ◌∷◌, Option, Some, None, nat_lt, refl, arith}
use Rattle.std.proofs.lemmas.Bool.{le-ltb}
use Rattle.afs_grammar.specs.Forms.{act_level, is_unbuilt_operand, is_unbuilt_task}
use Rattle.afs_grammar.specs.Spellings.{act_spelled}
use Rattle.afs_grammar.specs.declared.spellings.ActWord.{ActWord}
use Rattle.afs_grammar.specs.declared.spellings.ActWord.TheVariants as acts

highest : (act : Option ActWord) → act_level act ≤ 6
highest None = omega arith
highest (Some acts.Open) = omega arith
highest (Some acts.List) = omega arith
highest (Some acts.ReadLink) = omega arith
highest (Some acts.Stat) = omega arith
highest (Some acts.StatAll) = omega arith
highest (Some acts.Close) = omega arith
highest (Some acts.Make) = omega arith
highest (Some acts.MkDir) = omega arith
highest (Some acts.Rm) = omega arith
highest (Some acts.RmDir) = omega arith
highest (Some acts.Mv) = omega arith
highest (Some acts.Ln) = omega arith
highest (Some acts.Symlink) = omega arith
highest (Some acts.ChMod) = omega arith
highest (Some acts.SetAcl) = omega arith
highest (Some acts.GetAcl) = omega arith
highest (Some acts.GiveUp) = omega arith

operands_built : (level : ℕ) (ws : List (List ℕ)) → 6 ≤ level → is_unbuilt_operand level ws ≡ false
operands_built level [] le = refl
operands_built level (operand ∷ more) le = let whole : nat_lt level 5 ≡ false = le-ltb level 5 (omega (arith, le)) in rw whole refl

pub all_built : (level : ℕ) (ws : List (List ℕ)) → 6 ≤ level → is_unbuilt_task level ws ≡ false
all_built level [] le = refl
all_built level (node ∷ []) le = refl
all_built level (node ∷ act ∷ more) le =
    let has : nat_lt level (act_level (act_spelled act)) ≡ false = le-ltb level (act_level (act_spelled act)) (omega (arith, le, highest (act_spelled act))) in
    rw has (operands_built level more le)
