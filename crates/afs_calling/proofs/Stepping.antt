-- Steps that are the same, in other words.
use Rattle.std.proofs.Common.{◌≡◌, ℕ, true, List, [], ◌∷◌, ◌++◌, Result, Ok, Err, refl, subst}
use Rattle.std.proofs.lemmas.Bool.{eq-eqb}
use Rattle.afs_num.specs.Nodes.{same_node}
use Rattle.afs_num.specs.declared.types.Node.{Node}
use Rattle.afs_num.specs.declared.types.Node.TheVariants as nodes
use Rattle.spec_history.specs.declared.lines.Line.{Line}
use Rattle.spec_history.specs.declared.lines.Line.TheVariants as lines
use Rattle.spec_history.specs.declared.lines.Outs.{Outs}
use Rattle.spec_model.specs.Steps.{NodeState}
use Rattle.spec_rows.specs.States.{KnownBoot}
use Rattle.spec_rows.specs.ClientRow.{boot_of, with_boot}
use Rattle.spec_rows.specs.Steps.{Step}
use Rattle.afs_calling.specs.Stepping.{Answers, Goes, Makes, Takes}

pub takes_same : {S E : Type 0} (step other : ℕ → Step S) (old new : NodeState S) (r : Result Outs E) → ((place : ℕ) → step place ≡ other place) → Takes step old new r → Takes other old new r
takes_same {S} step other old new (Ok outs) same h = (h.0, λ place. subst (λ (s : Step S). Makes s new.state (λ ls. lines.Given place ∷ ls) outs) (same place) (h.1 place))
takes_same step other old new (Err e) same h = h

-- what goes behind lines that were told, is taken behind the line that names the message
pub goes_taken : {S E : Type 0} (step : (List Line → List Line) → Step S) (other : ℕ → Step S) (told : List Line) (old new : NodeState S) (r : Result Outs E)
    → ((place : ℕ) → step (λ ls. lines.Given place ∷ (told ++ ls)) ≡ other place) → Goes step told old new r → Takes other old new r
goes_taken {S} step other told old new (Ok outs) same h = (h.0, λ place. subst (λ (s : Step S). Makes s new.state (λ ls. lines.Given place ∷ ls) outs) (same place) (h.1 (lines.Given place ∷ [])))
goes_taken step other told old new (Err e) same h = h

pub goes_answered : {S E : Type 0} (step : (List Line → List Line) → Step S) (other : Step S) (told : List Line) (old new : NodeState S) (r : Result Outs E)
    → step (λ ls. told ++ ls) ≡ other → Goes step told old new r → Answers other old new r
goes_answered {S} step other told old new (Ok outs) same h = (h.0, subst (λ (s : Step S). Makes s new.state (λ ls. ls) outs) same (h.1 []))
goes_answered step other told old new (Err e) same h = h

-- ---- the boot number that a callee tells

same_refl : (n : Node) → same_node n n ≡ true
same_refl nodes.Loc = refl
same_refl (nodes.Server i) = eq-eqb i i refl
same_refl (nodes.Client i) = eq-eqb i i refl
same_refl (nodes.Admin i) = eq-eqb i i refl

pub boot_told_is : (server : Node) (boot : ℕ) (boots : List KnownBoot) → boot_of server (with_boot server boot boots) ≡ boot
boot_told_is server boot boots = rw (same_refl server) refl
