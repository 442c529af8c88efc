-- An administrator does with a message what it does with what it finds in its bytes.
use Rattle.std.proofs.Common.{refl, ap, sym, ◌∙◌, ◌≡◌, ℕ, List, [], ◌∷◌, false, if◌then◌else◌}
use Rattle.afs_num.specs.Nodes.{same_node}
use Rattle.afs_num.specs.declared.messages.Carried.{Carried}
use Rattle.afs_num.specs.declared.messages.Carried.TheVariants as carried
use Rattle.afs_num.specs.declared.messages.Message.{Message}
use Rattle.afs_num.specs.declared.messages.Received.{Received}
use Rattle.afs_num.specs.declared.messages.Received.TheVariants.{Unserved, Whole}
use Rattle.afs_num.specs.declared.types.Node.{Node}
use Rattle.afs_num.specs.declared.types.Node.TheVariants.{Admin}
use Rattle.spec_history.specs.declared.lines.Line.TheVariants as lines
use Rattle.spec_history.specs.declared.lines.Outs.{Outs}
use Rattle.spec_model.specs.Messages.{is_unserved, is_whole, messages_spelled, FoundBy}
use Rattle.spec_rows.specs.Steps.{Step}
use Rattle.spec_adminrows.specs.AdminRow.{admin_row, called, gets, takes_in, told, AdminState}
use Rattle.afs_calling.specs.Stepping.{Makes}
use Rattle.afs_admins.specs.Happening.{AdminMakes}
use Rattle.afs_admins.specs.declared.admins.AdminSeat.{AdminSeat}

-- a call is answered by its header
call_is : (me : Node) (a : AdminState) (place : ℕ) (m : Message) (x : Carried) → m.carried ≡ x → called a place m.head ≡ gets me a place m.head x → takes_in me a place (Unserved m.head) ≡ takes_in me a place (Whole m)
call_is me a place m x is same =
    ap (λ (s : Step AdminState). if same_node m.head.to me then s else told a place []) (same ∙ ap (gets me a place m.head) (sym is))

row_is : (me : Node) (a : AdminState) (place : ℕ) (m n : Received) → takes_in me a place m ≡ takes_in me a place n → admin_row me a place m ≡ admin_row me a place n
unfolding admin_row
row_is me a place m n same = same

pub admin_finds : (me : Node) (a : AdminState) (place : ℕ) (m : Message) (found : Received) → FoundBy [] m found → admin_row me a place found ≡ admin_row me a place (Whole m)
admin_finds me a place m found (is_whole e) = ap (admin_row me a place) e
admin_finds me a place m found (is_unserved user call is far e) =
    ap (admin_row me a place) e ∙ row_is me a place (Unserved m.head) (Whole m) (call_is me a place m (carried.Call user call) is refl)

-- what an administrator did with what it found, it did with the message
pub hears_message : (n place : ℕ) (node : Node) (found : Received) (m : Message) (old new : AdminSeat) (outs : Outs) → node ≡ Admin n → FoundBy [] m found → old.is_away ≡ false → new.is_away ≡ old.is_away
    → Makes (admin_row node old.mover.state place found) new.mover.state (λ ls. lines.Given place ∷ ls) outs → AdminMakes (lines.Given place ∷ []) (admin_row (Admin n) old.mover.state place (Whole m)) old new outs
hears_message n place node found m old new outs me finds up same h =
    let row : admin_row node old.mover.state place found ≡ admin_row (Admin n) old.mover.state place (Whole m) =
    ap (λ (k : Node). admin_row k old.mover.state place found) me ∙ admin_finds (Admin n) old.mover.state place m found finds in
    record {
      up = up;
      stays_up = same ∙ up;
      state = h.state ∙ ap (λ (s : Step AdminState). s.state) row;
      lines = h.lines ∙ ap (λ (s : Step AdminState). s.lines) row;
      sent = h.sent ∙ ap (λ (s : Step AdminState). messages_spelled s.sent) row;
    }
