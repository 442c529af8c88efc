-- What narrower forms have.
use Rattle.std.specs.Prelude.{◌≡◌, ◌<◌, ℕ, List, Ok}
use Rattle.spec_history.specs.declared.scripts.Script.{Script}
use Rattle.afs_grammar.specs.Lines.{script_of}

-- below the level of several servers a script has one
abbrev pub NarrowFormsHaveOneServer : Type 0
NarrowFormsHaveOneServer = (level : ℕ) (bytes : List ℕ) (s : Script) → script_of level bytes ≡ Ok s → level < 7 → s.servers ≡ 1
