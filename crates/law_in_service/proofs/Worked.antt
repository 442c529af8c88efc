-- What it is to be in service; cells in which a recovery may not end, each for one reason; and histories at whose ends `recovered` may be told, or may not.
use Rattle.std.proofs.Common.{◌≡◌, ℕ, true, false, List, [], ◌∷◌, Bool, Option, Some, None, refl, sym, ap, ◌∙◌, nat_eq}
use Rattle.afs_num.specs.declared.histories.Actor.TheVariants as actors
use Rattle.afs_num.specs.declared.types.Node.{Node}
use Rattle.afs_num.specs.declared.types.Node.TheVariants.{Loc, Server}
use Rattle.spec_history.specs.declared.lines.Line.{Line}
use Rattle.spec_history.specs.declared.lines.Line.TheVariants as lines
use Rattle.spec_fold.specs.Deeds.{created, flagged}
use Rattle.spec_dumps.specs.Clones.{cloned}
use Rattle.spec_records.specs.Durable.{Stored}
use Rattle.spec_history.specs.declared.scripts.Script.{Script}
use Rattle.spec_rows.proofs.Worked.{home, script}
use Rattle.spec_rows.specs.Runs.{Entry}
use Rattle.spec_runs.specs.NodeRuns.{has_host, NodeCell}
use Rattle.law_places.specs.Accepting.{accepts, is_in_service, serves_at}
use Rattle.law_stamps.specs.Told.{place_by_lines}
use Rattle.law_one_server.specs.Knows.{listed_site}
use Rattle.law_recovered.specs.Copies.{has_copy_at}
use Rattle.law_in_service.specs.Service.{AcceptsAlone, ServesAlone}

-- a copy that isn't filled yet isn't in service, nor is one that is closed; it is once its flags are set to 0
unfilled_rests : (family quota : ℕ) (name : List ℕ) → is_in_service (Some (created family name 0 3 quota false)) ≡ false
unfilled_rests family quota name = refl

closed_rests : (family quota : ℕ) (name : List ℕ) → is_in_service (Some (flagged 2 (created family name 0 3 quota false))) ≡ false
closed_rests family quota name = refl

opened_serves : (family quota : ℕ) (name : List ℕ) → is_in_service (Some (flagged 0 (created family name 0 3 quota false))) ≡ true
opened_serves family quota name = refl

-- a read-only volume never is, whatever its flags
read_only_rests : (name : List ℕ) (release : ℕ) (s : Stored) → is_in_service (Some (cloned name 1 release s)) ≡ false
read_only_rests name release s = refl

abbrev is_first : Option ℕ → Bool
is_first None = false
is_first (Some i) = nat_eq i 1

-- the named server has the volume out of service, or hasn't it
out_of_service : (c : NodeCell) (volume : ℕ) → serves_at c volume 1 ≡ false → ServesAlone c volume 1 → ⊥
out_of_service c volume rests k = let none : true ≡ false = sym k.serves ∙ rests in absurd cc

-- a second copy, though the first server has it in service
a_second_copy : (c : NodeCell) (volume : ℕ) → has_host c 2 ≡ true → has_copy_at c volume 2 ≡ true → ServesAlone c volume 1 → ⊥
a_second_copy c volume there has k = let none : false ≡ true = ap (λ (i : ℕ). nat_eq i 1) (k.alone 2 there has) in absurd cc

-- the database names another server
another_is_named : (c : NodeCell) (volume : ℕ) → listed_site c volume ≡ Some 2 → ServesAlone c volume 1 → ⊥
another_is_named c volume named k = let none : false ≡ true = ap is_first (sym named ∙ k.named) in absurd cc

-- as it was told, no server accepts its stores
none_accepts : (s : Script) (history : List Entry) (volume : ℕ) → accepts s history volume 1 ≡ false → AcceptsAlone s history volume 1 → ⊥
none_accepts s history volume rests k = let none : true ≡ false = sym k.accepted ∙ rests in absurd cc

-- or a second one does
two_accept : (s : Script) (history : List Entry) (volume : ℕ) → accepts s history volume 2 ≡ true → AcceptsAlone s history volume 1 → ⊥
two_accept s history volume also k = let none : false ≡ true = ap (λ (i : ℕ). nat_eq i 1) (k.one 2 also) in absurd cc

-- ---- a move from the first server to the second, cut short, and what a recovery makes of it

-- a cell of two servers; the script's volume is at the first
abbrev two : Script
two = record (script 1) { servers = 2 }

abbrev told_by : Node → List Line → Entry
told_by n ls = record { actor = actors.Node n; lines = ls; sent = []; volumes = [] }

abbrev fences : ℕ → Entry
fences n = told_by (Server n) (lines.Given 1 ∷ lines.Fence home (Server n) ∷ [])

abbrev locates : ℕ → Entry
locates n = told_by Loc (lines.Given 2 ∷ lines.Located home (Server n) ∷ [])

abbrev enables : ℕ → Entry
enables n = told_by (Server n) (lines.Given 3 ∷ lines.Enable home (Server n) ∷ [])

-- behind the fence: it comes into service again where it was
abbrev stays_here : List Entry
stays_here = fences 1 ∷ enables 1 ∷ []

here_accepts : accepts two stays_here home 1 ≡ true
here_accepts = refl

there_rests : accepts two stays_here home 2 ≡ false
there_rests = refl

here_is_told : place_by_lines two stays_here home ≡ Some (Server 1)
here_is_told = refl

-- behind the decision: it comes into service at the new server
abbrev goes_there : List Entry
goes_there = fences 1 ∷ locates 2 ∷ enables 2 ∷ []

there_accepts : accepts two goes_there home 2 ≡ true
there_accepts = refl

here_rests : accepts two goes_there home 1 ≡ false
here_rests = refl

there_is_told : place_by_lines two goes_there home ≡ Some (Server 2)
there_is_told = refl

-- it is left out of service
left_shut : AcceptsAlone two (fences 1 ∷ []) home 1 → ⊥
left_shut k = let none : false ≡ true = k.accepted in absurd cc

-- it comes into service where it was, though the database was told the new server
comes_back : AcceptsAlone two (fences 1 ∷ locates 2 ∷ enables 1 ∷ []) home 1 → ⊥
comes_back k = let none : false ≡ true = ap is_second k.located in absurd cc
  where
    is_second : Option Node → Bool
    is_second (Some (Server i)) = nat_eq i 1
    is_second n = false

-- it comes into service at the new server, and wasn't fenced at the old one
without_a_fence : AcceptsAlone two (locates 2 ∷ enables 2 ∷ []) home 2 → ⊥
without_a_fence k = let none : false ≡ true = ap (λ (i : ℕ). nat_eq i 2) (k.one 1 refl) in absurd cc
