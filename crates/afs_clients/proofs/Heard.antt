-- A client does with a message what it does with what it finds in its bytes.
use Rattle.std.proofs.Common.{refl, ap, sym, ◌∙◌, ◌≡◌, ℕ, List, [], ◌∷◌, Bool, true, false, cond, Option, Some, None, if◌then◌else◌}
use Rattle.std.specs.Prelude.{◌&&◌}
use Rattle.afs_num.specs.Nodes.{same_node}
use Rattle.afs_num.specs.declared.calls.FsCall.TheVariants as calls
use Rattle.afs_num.specs.declared.messages.Call.{Call}
use Rattle.afs_num.specs.declared.messages.Call.TheVariants as ask
use Rattle.afs_num.specs.declared.messages.Carried.{Carried}
use Rattle.afs_num.specs.declared.messages.Carried.TheVariants as carried
use Rattle.afs_num.specs.declared.messages.Message.{Message}
use Rattle.afs_num.specs.declared.messages.Received.{Received}
use Rattle.afs_num.specs.declared.messages.Received.TheVariants.{Unserved, Whole}
use Rattle.afs_num.specs.declared.types.Head.{Head}
use Rattle.afs_num.specs.declared.types.Node.{Node}
use Rattle.afs_num.specs.declared.types.Node.TheVariants.{Client}
use Rattle.spec_history.specs.declared.lines.Line.TheVariants as lines
use Rattle.spec_history.specs.declared.lines.Outs.{Outs}
use Rattle.spec_shape.specs.Tables.{is_among}
use Rattle.spec_model.specs.CellRows.{call_number, client_calls}
use Rattle.spec_model.specs.Messages.{is_unserved, is_whole, messages_spelled, FoundBy}
use Rattle.spec_model.specs.Calls.{admitted, Admitted}
use Rattle.spec_model.specs.Calls as pairs
use Rattle.spec_copyrows.specs.CopyRow.{answers_in, answers_to, copy_row, hears_by, uses}
use Rattle.spec_copyrows.specs.Sites.{round_of, sited, CopyState, Round}
use Rattle.spec_rows.specs.ClientRow.{admits_call, client_row, guest_row, ignores, is_awaited, refused_with, replies_step, runs_carried, sought_or, takes_in, whole}
use Rattle.spec_rows.specs.ServerRow.{not_served}
use Rattle.spec_rows.specs.Going.{ClientState, Going, Seek}
use Rattle.spec_rows.specs.Steps.{Step}
use Rattle.afs_cache.specs.Managing.{Makes}
use Rattle.afs_clients.specs.Happening.{ClientMakes}
use Rattle.afs_clients.specs.declared.clients.ClientSeat.{ClientSeat}

unserved : (me : Node) (c : ClientState) (place : ℕ) (head : Head) (user : List ℕ) (call : Call) → is_among client_calls (call_number call) ≡ false → replies_step c place head [] (refused_with not_served) ≡ runs_carried me c place head (carried.Call user call)
unserved me c place head user (ask.File (calls.CallBack fids callbacks)) e = absurd cc
unserved me c place head user (ask.File calls.InitCallBackState) e = absurd cc
unserved me c place head user (ask.File calls.Probe) e = absurd cc
unserved me c place head user (ask.File call) e = refl
unserved me c place head user (ask.Volume call) e = refl
unserved me c place head user (ask.Location call) e = refl

same_answer : (me : Node) (c : ClientState) (place : ℕ) (head : Head) (user : List ℕ) (call : Call) (a : Admitted Message) → is_among client_calls (call_number call) ≡ false
    → admits_call me c place head (Unserved head) a ≡ admits_call me c place head (whole head (carried.Call user call)) a
same_answer me c place head user call pairs.runs e = unserved me c place head user call e
same_answer me c place head user call (pairs.kept reply) e = refl
same_answer me c place head user call pairs.in_progress e = refl
same_answer me c place head user call pairs.older e = refl
same_answer me c place head user call (pairs.wrong_boot boot) e = refl

same_step : (me : Node) (c : ClientState) (clock place : ℕ) (head : Head) (user : List ℕ) (call : Call) → is_among client_calls (call_number call) ≡ false
    → takes_in me c clock place (Unserved head) ≡ takes_in me c clock place (whole head (carried.Call user call))
same_step me c clock place head user call e = ap (λ (s : Step ClientState). if same_node head.to me then s else ignores c place) (same_answer me c place head user call (admitted c.epoch c.seats head) e)

unserved_row : (me : Node) (c : ClientState) (clock place : ℕ) (head : Head) (user : List ℕ) (call : Call) → is_among client_calls (call_number call) ≡ false
    → client_row me c clock place (Unserved head) ≡ client_row me c clock place (whole head (carried.Call user call))
unfolding client_row
unserved_row me c clock place head user call far = same_step me c clock place head user call far

-- a call answers no question
no_answer : (me : Node) (c : ClientState) (clock place : ℕ) (head : Head) (user : List ℕ) (call : Call) (o : Option Seek)
    → client_row me c clock place (whole head (carried.Call user call)) ≡ sought_or me c clock place (record { head = head; carried = carried.Call user call }) o
no_answer me c clock place head user call None = refl
no_answer me c clock place head user call (Some k) = refl

pub client_finds : (me : Node) (c : ClientState) (clock place : ℕ) (m : Message) (found : Received) → FoundBy client_calls m found → guest_row me c clock place found ≡ guest_row me c clock place (Whole m)
client_finds me c clock place m found (is_whole e) = ap (guest_row me c clock place) e
client_finds me c clock place m found (is_unserved user call is far e) =
    ap (guest_row me c clock place) e
    ∙ (unserved_row me c clock place m.head user call far ∙ (no_answer me c clock place m.head user call c.seeking ∙ ap (λ (x : Carried). guest_row me c clock place (whole m.head x)) (sym is)))

-- ---- a call answers no call of the act that runs, so it comes to no site's answer

module _ (me : Node) (c : CopyState) (clock place : ℕ) (head : Head) (user : List ℕ) (call : Call) where
  abbrev calling : Message
  calling = record { head = head; carried = carried.Call user call }

  in_round : (act : Going) (o : Option Round) → answers_in me c clock place calling act o ≡ uses me c clock place calling
  in_round act None = refl
  in_round act (Some r) = refl

  by_test : (b : Bool) (act : Going) → cond b (answers_in me c clock place calling act (round_of c act)) (uses me c clock place calling) ≡ uses me c clock place calling
  by_test true act = in_round act (round_of c act)
  by_test false act = refl

  while_running : (o : Option Going) → answers_to me c clock place calling o ≡ uses me c clock place calling
  while_running None = refl
  while_running (Some act) = by_test (same_node head.to me && is_awaited c.client act head) act

  while_seeking : (o : Option Seek) → hears_by me c clock place calling o ≡ uses me c clock place calling
  while_seeking None = while_running c.client.running
  while_seeking (Some s) = refl

  is_used : copy_row me c clock place (whole head (carried.Call user call)) ≡ sited me c (guest_row me c.client clock place (whole head (carried.Call user call)))
  unfolding copy_row
  is_used = while_seeking c.client.seeking

call_used : (me : Node) (c : CopyState) (clock place : ℕ) (m : Message) (user : List ℕ) (call : Call) → m.carried ≡ carried.Call user call → copy_row me c clock place (Whole m) ≡ sited me c (guest_row me c.client clock place (Whole m))
call_used me c clock place m user call is =
    ap (λ (x : Carried). copy_row me c clock place (whole m.head x)) is
    ∙ (is_used me c clock place m.head user call ∙ ap (λ (x : Carried). sited me c (guest_row me c.client clock place (whole m.head x))) (sym is))

unserved_used : (me : Node) (c : CopyState) (clock place : ℕ) (head : Head) → copy_row me c clock place (Unserved head) ≡ sited me c (guest_row me c.client clock place (Unserved head))
unfolding copy_row
unserved_used me c clock place head = refl

pub copy_finds : (me : Node) (c : CopyState) (clock place : ℕ) (m : Message) (found : Received) → FoundBy client_calls m found → copy_row me c clock place found ≡ copy_row me c clock place (Whole m)
copy_finds me c clock place m found (is_whole e) = ap (copy_row me c clock place) e
copy_finds me c clock place m found (is_unserved user call is far e) =
    ap (copy_row me c clock place) e
    ∙ (unserved_used me c clock place m.head
    ∙ (ap (sited me c) (client_finds me c.client clock place m (Unserved m.head) (is_unserved user call is far refl)) ∙ sym (call_used me c clock place m user call is)))

-- what a client did with what it found, it did with the message
pub hears_message : (n clock place : ℕ) (node : Node) (found : Received) (m : Message) (old new : ClientSeat) (outs : Outs) → node ≡ Client n → FoundBy client_calls m found → old.is_away ≡ false → new.is_away ≡ old.is_away
    → Makes (copy_row node old.client.state clock place found) new.client.state (λ ls. lines.Given place ∷ ls) outs → ClientMakes (lines.Given place ∷ []) (copy_row (Client n) old.client.state clock place (Whole m)) old new outs
hears_message n clock place node found m old new outs me finds up same h =
    let row : copy_row node old.client.state clock place found ≡ copy_row (Client n) old.client.state clock place (Whole m) =
    ap (λ (k : Node). copy_row k old.client.state clock place found) me ∙ copy_finds (Client n) old.client.state clock place m found finds in
    record {
      up = up;
      stays_up = same ∙ up;
      state = h.state ∙ ap (λ (s : Step CopyState). s.state) row;
      lines = h.lines ∙ ap (λ (s : Step CopyState). s.lines) row;
      sent = h.sent ∙ ap (λ (s : Step CopyState). messages_spelled s.sent) row;
    }
