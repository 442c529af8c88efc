-- A step of a message stands behind the line of its place.
use Rattle.std.proofs.Common.{◌≡◌, ℕ, List, [], ◌∷◌, refl, sym, ap, subst, ◌∙◌}
use Rattle.afs_num.specs.declared.types.Node.{Node}
use Rattle.spec_history.specs.declared.lines.Line.{Line}
use Rattle.spec_history.specs.declared.lines.Line.TheVariants as lines
use Rattle.spec_history.specs.declared.lines.Outs.{Outs}
use Rattle.spec_rows.specs.Callbacks as row
use Rattle.spec_rows.specs.ServerRow.{does, drops, tells_boot, repeats, refuses, shows, saves, Decision}
use Rattle.spec_rows.specs.ServerSteps.{done, stepped}
use Rattle.spec_rows.specs.States.{ServerState}
use Rattle.afs_volstore.specs.Stores.{Store}
use Rattle.afs_server.specs.Handling.{lines_behind, Makes}
use Rattle.afs_server.specs.Seen.{Memory}

does_lines : (me : Node) (s : ServerState) (clock place : ℕ) (d : Decision) (ls : List Line) → (does me s clock place d ls).lines ≡ lines.Given place ∷ lines_behind (does me s clock 0 d ls).lines
does_lines me s clock place drops ls = refl
does_lines me s clock place (tells_boot head) ls = refl
does_lines me s clock place (repeats reply) ls = refl
does_lines me s clock place (refuses head code) ls = refl
does_lines me s clock place (shows head r) ls = refl
does_lines me s clock place (saves head c) ls = refl

does_state : (me : Node) (s : ServerState) (clock place : ℕ) (d : Decision) → (does me s clock place d []).state ≡ (does me s clock 0 d []).state
does_state me s clock place drops = refl
does_state me s clock place (tells_boot head) = refl
does_state me s clock place (repeats reply) = refl
does_state me s clock place (refuses head code) = refl
does_state me s clock place (shows head r) = refl
does_state me s clock place (saves head c) = refl

-- what is done on a decision, as the step of the message of any place
pub given_at : {D : Type 0} (me : Node) (before : ServerState) (clock place : ℕ) (d : Decision) (t : row.CallbackStep) (m : Memory) (s : Store D) (outs : Outs) →
    Makes (stepped me (does me before clock 0 d []).state (lines_behind (does me before clock 0 d t.lines).lines) t) [] m s outs → Makes (done me before clock place d t) (lines.Given place ∷ []) m s outs
given_at {D} me before clock place d t m s outs made =
    subst (λ (x : ServerState). Makes (stepped me x (does me before clock place d t.lines).lines t) (lines.Given place ∷ []) m s outs) (sym (does_state me before clock place d))
    record { state = made.state; lines = ap (λ (ls : List Line). lines.Given place ∷ ls) made.lines ∙ sym (does_lines me before clock place d t.lines); sent = made.sent }
