-- Turns in which a message goes out or a reply is given, and what they leave of the promises.
use Rattle.std.proofs.Common.{◌≡◌, ℕ, Bool, true, false, cond, ◌&&◌, List, [], Option, Some, None, refl, ap, subst, ◌∙◌}
use Rattle.afs_num.specs.declared.messages.Message.{Message}
use Rattle.spec_breaks.specs.Promises.{Lists}
use Rattle.spec_rows.specs.Callbacks as row
use Rattle.spec_rows.specs.Callbacks.{asked_again, is_ready, no_turn, repeats_by}
use Rattle.spec_rows.specs.States.{Backs, Held}
use Rattle.afs_server_parts.specs.Turning.{backs_with, IsTurn}
use Rattle.afs_server_parts.specs.declared.turns.Turn.{Turn}
use Rattle.afs_server_parts.proofs.Turning.{backs_of}
use Rattle.afs_callbacks.specs.Answering.{with_lists}

-- with any promises that owe what lasts
pub answered_with : (f : Backs → row.CallbackStep) (b : Backs) (l : Lists) (t u : Turn) → IsTurn (no_turn b) t → l.owed ≡ b.lists.owed → ((k : Lists) → k.owed ≡ t.owed.items → IsTurn (f (backs_with k t.held t.calls)) u) →
    IsTurn (f (with_lists l b)) u
answered_with f b l t u is e h = subst (λ (x : Backs). IsTurn (f x) u) (ap (with_lists l) (backs_of b t is)) (h l (e ∙ is.owed))

asked_backs : (t : Bool) (b : Backs) (m : Message) (ws : List ℕ) → (cond t (asked_again b m ws) (no_turn b)).backs ≡ b
asked_backs true b m ws = refl
asked_backs false b m ws = refl

pub repeated_backs : (b : Backs) (m : Message) (o : Option Held) (good : Bool) → (repeats_by b m o good).backs ≡ b
repeated_backs b m (Some h) good = asked_backs (h.again && is_ready b.lists.owed h) b m h.waits
repeated_backs b m None true = refl
repeated_backs b m None false = refl

asked_lines : (t : Bool) (b : Backs) (m : Message) (ws : List ℕ) → (cond t (asked_again b m ws) (no_turn b)).lines ≡ []
asked_lines true b m ws = refl
asked_lines false b m ws = refl

pub repeated_lines : (b : Backs) (m : Message) (o : Option Held) (good : Bool) → (repeats_by b m o good).lines ≡ []
repeated_lines b m (Some h) good = asked_lines (h.again && is_ready b.lists.owed h) b m h.waits
repeated_lines b m None true = refl
repeated_lines b m None false = refl
