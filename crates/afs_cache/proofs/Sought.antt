-- What an act does that asks the location database.
use Rattle.std.proofs.Common.{◌≡◌, ◌<◌, ◌+◌, ℕ, Bool, true, false, cond, ◌&&◌, List, [], ◌∷◌, ◌++◌, Option, Some, None, Result, Ok, Err, refl, ap, sym, subst, ◌∙◌}
use Rattle.std.specs.Prelude.{IfOk, IfSome, IsSome, nat_lt}
use Rattle.afs_num.specs.Nodes.{same_node}
use Rattle.afs_num.specs.declared.location_calls.LocEntry.{LocEntry}
use Rattle.afs_num.specs.declared.location_calls.LocReply.{LocReply}
use Rattle.afs_num.specs.declared.location_calls.LocReply.TheVariants as answered
use Rattle.afs_num.specs.declared.messages.Carried.{Carried}
use Rattle.afs_num.specs.declared.messages.Carried.TheVariants as carried
use Rattle.afs_num.specs.declared.messages.Message.{Message}
use Rattle.afs_num.specs.declared.messages.Received.{Received}
use Rattle.afs_num.specs.declared.messages.Received.TheVariants.{Whole}
use Rattle.afs_num.specs.declared.messages.Reply.{Reply}
use Rattle.afs_num.specs.declared.messages.Reply.TheVariants as tell
use Rattle.afs_num.specs.declared.types.Code.{Code}
use Rattle.afs_num.specs.declared.types.Head.{Head}
use Rattle.afs_num.specs.declared.types.Node.{Node}
use Rattle.afs_num.specs.declared.types.Node.TheVariants as nodes
use Rattle.spec_history.specs.declared.acts.Operand.{Operand}
use Rattle.spec_history.specs.declared.lines.Line.{Line}
use Rattle.spec_history.specs.declared.lines.Line.TheVariants as lines
use Rattle.spec_history.specs.declared.lines.Outs.{Outs}
use Rattle.spec_model.specs.Messages.{HasSpelling, messages_spelled, parcels_read}
use Rattle.spec_model.specs.Steps.{NodeState}
use Rattle.spec_shape.specs.Tables.{IsEntry}
use Rattle.spec_rows.specs.States.{Gift, Location}
use Rattle.spec_rows.specs.Going.{ClientState, Going, Left, Seek, filled, next, operand_in, volume_at}
use Rattle.spec_rows.specs.ClientRow.{act_sought, answers_step, asks_where, boot_of, call_of, calls_again, callee_of, client_row, dead_code, entry_in, with_given, guest_row, has_location, ignores, is_gone_code, is_sought, knows_place, located, located_by, located_on, most_moved, moved_on, no_entry_code, put_location, refuses_for_good, seek_timeout_row, seeks_again, seeks_on, seeks_step, sought_by, sought_ends, sought_or, takes_in, timeout_line, volume_asked, walks_on, with_boot, call_by, calls_step}
use Rattle.spec_rows.specs.Steps.{Step}
use Rattle.afs_acts.specs.Located.{Puts}
use Rattle.std.specs.declared.alloc.AllocError.{AllocError}
use Rattle.afs_cache.specs.Acting.{called_by, sought_from}
use Rattle.afs_asking.specs.Asking.{Asking, asking_of, is_giving}
use Rattle.afs_cache.specs.Locating.{IsAskedAnew, Sought, calls_elsewhere, entry_told, found_by, found_on, goes_as_before, goes_by_table, operand_called}
use Rattle.afs_cache.specs.Managing.{Makes, Takes, by_act, number_limit, sought_by_head, sent_to_site, TakesStill}
use Rattle.afs_cache.proofs.Answering.{boot_told_is, takes_same}
use Rattle.afs_cache.proofs.Planning.{called_as}
use Rattle.afs_cache.proofs.Replying.{chosen_else, chosen_then, each_act, with_act}
use Rattle.afs_cache.proofs.Placing.{still_taken}
use Rattle.spec_copyrows.specs.Sites.{with_client, CopyState}

-- ---- a volume is gone

-- the act asks where to
pub seeks_where : (me : Node) (c : ClientState) (place : ℕ) (a : Asking) (told : List Line) (act : Going) (code : Code) (o : Operand) (left : Left) → Some a ≡ asking_of c.running c.gifts → told ≡ [] → act ≡ a.going → left ≡ record { server = c.callee; code = code }
    → seeks_step me (record c { moved = c.moved + 1 }) (record { act = act; operand = o; left = Some left }) c.cache (λ ls. lines.Given place ∷ (told ++ ls)) ≡ by_act c place (λ g. asks_where me c place g code (Some o)) c.running
seeks_where me c place a told act code o left run t e l =
    ap (λ (xs : List Line). seeks_step me (record c { moved = c.moved + 1 }) (record { act = act; operand = o; left = Some left }) c.cache (λ ls. lines.Given place ∷ (xs ++ ls))) t
    ∙ (ap (λ (g : Going). seeks_step me (record c { moved = c.moved + 1 }) (record { act = g; operand = o; left = Some left }) c.cache (with_given place)) e
    ∙ (ap (λ (x : Left). seeks_step me (record c { moved = c.moved + 1 }) (record { act = a.going; operand = o; left = Some x }) c.cache (with_given place)) l
    ∙ with_act c place a (λ g. asks_where me c place g code (Some o)) run))

where_as : (me : Node) (c : ClientState) (place : ℕ) (code : Code) (x : Option Operand) (running : Option Going) → x ≡ operand_called c running
    → by_act c place (λ act. asks_where me c place act code x) running ≡ by_act c place (λ act. asks_where me c place act code (operand_in act (volume_asked (call_of c act)))) running
where_as me c place code x None e = refl
where_as me c place code x (Some act) e = ap (asks_where me c place act code) e

pub where_taken : {E : Type 0} (me : Node) (c : ClientState) (code : Code) (x : Option Operand) (old new : NodeState CopyState) (r : Result Outs E) → x ≡ operand_called c c.running
    → Takes (λ place. by_act c place (λ act. asks_where me c place act code x) c.running) old new r → Takes (λ place. by_act c place (λ act. asks_where me c place act code (operand_in act (volume_asked (call_of c act)))) c.running) old new r
where_taken me c code x old new r e h =
    takes_same (λ place. by_act c place (λ act. asks_where me c place act code x) c.running) (λ place. by_act c place (λ act. asks_where me c place act code (operand_in act (volume_asked (call_of c act)))) c.running) old new r
    (λ place. where_as me c place code x c.running e) h

-- it has no operand there
pub nowhere_taken : {E : Type 0} (me : Node) (c : ClientState) (a : Asking) (code : Code) (old new : NodeState CopyState) (r : Result Outs E) → Some a ≡ asking_of c.running c.gifts → None ≡ operand_called c c.running
    → Takes (λ place. answers_step me c place code) old new r → Takes (λ place. by_act c place (λ act. asks_where me c place act code (operand_in act (volume_asked (call_of c act)))) c.running) old new r
nowhere_taken me c a code old new r run e h =
    where_taken me c code None old new r e
    (takes_same (λ place. answers_step me c place code) (λ place. by_act c place (λ act. asks_where me c place act code None) c.running) old new r (λ place. with_act c place a (λ act. asks_where me c place act code None) run) h)

pub moves_taken : {E : Type 0} (me : Node) (c : ClientState) (code : Code) (old new : NodeState CopyState) (r : Result Outs E) → true ≡ (is_gone_code code && nat_lt c.moved most_moved)
    → Takes (λ place. by_act c place (λ act. asks_where me c place act code (operand_in act (volume_asked (call_of c act)))) c.running) old new r → Takes (λ place. by_act c place (λ act. refuses_for_good me c place act code) c.running) old new r
moves_taken me c code old new r e h =
    takes_same (λ place. by_act c place (λ act. asks_where me c place act code (operand_in act (volume_asked (call_of c act)))) c.running) (λ place. by_act c place (λ act. refuses_for_good me c place act code) c.running) old new r
    (λ place. each_act c place (λ act. asks_where me c place act code (operand_in act (volume_asked (call_of c act)))) (λ act. refuses_for_good me c place act code) c.running
    (λ act. chosen_then (is_gone_code code && nat_lt c.moved most_moved) (asks_where me c place act code (operand_in act (volume_asked (call_of c act)))) (answers_step me c place code) e)) h

pub stays_taken : {E : Type 0} (me : Node) (c : ClientState) (a : Asking) (code : Code) (old new : NodeState CopyState) (r : Result Outs E) → Some a ≡ asking_of c.running c.gifts → false ≡ (is_gone_code code && nat_lt c.moved most_moved)
    → Takes (λ place. answers_step me c place code) old new r → Takes (λ place. by_act c place (λ act. refuses_for_good me c place act code) c.running) old new r
stays_taken me c a code old new r run e h =
    takes_same (λ place. answers_step me c place code) (λ place. by_act c place (λ act. refuses_for_good me c place act code) c.running) old new r
    (λ place. chosen_else (is_gone_code code && nat_lt c.moved most_moved) (asks_where me c place a.going code (operand_in a.going (volume_asked (call_of c a.going)))) (answers_step me c place code) e ∙ with_act c place a (λ act. refuses_for_good me c place act code) run) h

-- ---- the database answers

kept : {A : Type 0} (b : Bool) (x y : A) → true ≡ b → x ≡ cond b x y
kept true x y e = refl
kept false x y e = absurd cc

pub some_is : {A : Type 0} (x y : A) → Some x ≡ Some y → x ≡ y
some_is {A} x y e = cc

-- it has its call again
anew_by : {E : Type 0} (c : ClientState) (k : Seek) (act : Going) (gifts : List Gift) (r : Result Asking E) → act ≡ k.act → gifts ≡ c.gifts → IfOk r (λ a. a ≡ record { going = act; gifts = gifts }) → IfOk r (λ a. a ≡ record { going = k.act; gifts = c.gifts })
anew_by c k act gifts r e g h =
    subst (λ (x : Going). IfOk r (λ a. a ≡ record { going = x; gifts = c.gifts })) e (subst (λ (gs : List Gift). IfOk r (λ a. a ≡ record { going = act; gifts = gs })) g h)

no_more : {E : Type 0} (r : Result Asking E) → IfOk r (λ a. Unit {0})
no_more (Ok a) = tt
no_more (Err e) = tt

pub asked_anew : {E : Type 0} (c : ClientState) (o : Option Seek) (act : Going) (gifts : List Gift) (r : Result Asking E) → Some act ≡ act_sought o → gifts ≡ c.gifts → IfOk r (λ a. a ≡ record { going = act; gifts = gifts }) → IfOk r (IsAskedAnew c o)
asked_anew c None act gifts r e g h = no_more r
asked_anew c (Some k) act gifts r e g h = anew_by c k act gifts r (some_is act k.act e) g h

pub anew_callee : (c : ClientState) (k : Seek) (a : Asking) (callee : Node) → a ≡ record { going = k.act; gifts = c.gifts } → callee ≡ called_by (is_giving (next a.going)) c.table a.going a.gifts (call_by a.gifts (next a.going)) → callee ≡ callee_of c k.act
anew_callee c k a callee q e = e ∙ (ap (λ (x : Asking). called_by (is_giving (next x.going)) c.table x.going x.gifts (call_by x.gifts (next x.going))) q ∙ called_as (next k.act) k.act c)

pub anew_gifts : (c : ClientState) (o : Option Seek) (a : Asking) → IsSome o → IsAskedAnew c o a → a.gifts ≡ c.gifts
anew_gifts c None a s h = absurd cc
anew_gifts c (Some k) a s h = ap (λ (x : Asking). x.gifts) h

pub anew_going : (c : ClientState) (k : Seek) (a : Asking) → a ≡ record { going = k.act; gifts = c.gifts } → a.going ≡ k.act
anew_going c k a h = ap (λ (x : Asking). x.going) h

-- behind no other lines
pub calls_alone : (me : Node) (c : ClientState) (place : ℕ) (a : Asking) (told : List Line) → a.gifts ≡ c.gifts → told ≡ [] → calls_step me (record c { gifts = a.gifts }) a.going (λ ls. lines.Given place ∷ (told ++ ls)) ≡ calls_again me c place a.going
calls_alone me c place a told g t =
    ap (λ (xs : List Line). calls_step me (record c { gifts = a.gifts }) a.going (λ ls. lines.Given place ∷ (xs ++ ls))) t ∙ ap (λ (gs : List Gift). calls_step me (record c { gifts = gs }) a.going (with_given place)) g

-- the table names the server that was left, or another one
pub stays_there : {E : Type 0} (me : Node) (c : ClientState) (act : Going) (left : Left) (old new : NodeState CopyState) (r : Result Outs E) → true ≡ same_node (callee_of c act) left.server
    → Takes (λ place. sought_ends me c (with_given place) left.code) old new r → Takes (λ place. calls_elsewhere me c place act left) old new r
stays_there me c act left old new r e h =
    takes_same (λ place. sought_ends me c (with_given place) left.code) (λ place. calls_elsewhere me c place act left) old new r
    (λ place. chosen_then (same_node (callee_of c act) left.server) (sought_ends me c (with_given place) left.code) (calls_again me c place act) e) h

pub goes_elsewhere : (me : Node) (c : ClientState) (act : Going) (left : Left) (place : ℕ) → false ≡ same_node (callee_of c act) left.server → calls_again me c place act ≡ calls_elsewhere me c place act left
goes_elsewhere me c act left place e = chosen_else (same_node (callee_of c act) left.server) (sought_ends me c (with_given place) left.code) (calls_again me c place act) e

-- the table has the number, or hasn't
pub found_taken : {E : Type 0} (me : Node) (c : ClientState) (clock : ℕ) (k : Seek) (id : ℕ) (old new : NodeState CopyState) (r : Result Outs E) → Some id ≡ volume_at c.table k.operand
    → Takes (λ place. found_on me c clock place k k.left) old new r → Takes (λ place. goes_by_table me c clock place k) old new r
found_taken me c clock k id old new r e h = takes_same (λ place. found_on me c clock place k k.left) (λ place. goes_by_table me c clock place k) old new r (λ place. ap (found_by me c clock place k) e) h

pub missed_taken : {E : Type 0} (me : Node) (c : ClientState) (clock : ℕ) (k : Seek) (old new : NodeState CopyState) (r : Result Outs E) → None ≡ volume_at c.table k.operand
    → Takes (λ place. sought_ends me c (with_given place) no_entry_code) old new r → Takes (λ place. goes_by_table me c clock place k) old new r
missed_taken me c clock k old new r e h = takes_same (λ place. sought_ends me c (with_given place) no_entry_code) (λ place. goes_by_table me c clock place k) old new r (λ place. ap (found_by me c clock place k) e) h

-- what the row says of it
on_as : (me : Node) (c : ClientState) (clock place : ℕ) (k : Seek) (o : Option ℕ) → k.left ≡ None → found_by me c clock place k o ≡ located_on me c clock place k.act o
on_as me c clock place k None e = refl
on_as me c clock place k (Some id) e = ap (found_on me c clock place k) e

moved_as : (me : Node) (c : ClientState) (clock place : ℕ) (k : Seek) (left : Left) (o : Option ℕ) → k.left ≡ Some left → found_by me c clock place k o ≡ moved_on me c place k.act left o
moved_as me c clock place k left None e = refl
moved_as me c clock place k left (Some id) e = ap (found_on me c clock place k) e

-- the table that comes with the entry
new_by : (me : Node) (c : ClientState) (clock place : ℕ) (k : Seek) (l : Location) (left : Option Left) → k.left ≡ left → has_location l c.table ≡ false → goes_by_table me (knows_place l c) clock place k ≡ located me c clock place k l left
new_by me c clock place k l None e n = on_as me (knows_place l c) clock place k (volume_at (knows_place l c).table k.operand) e
new_by me c clock place k l (Some left) e n =
    moved_as me (knows_place l c) clock place k left (volume_at (knows_place l c).table k.operand) e
    ∙ chosen_else (has_location l c.table) (sought_ends me c (with_given place) left.code) (moved_on me (knows_place l c) place k.act left (volume_at (knows_place l c).table k.operand)) (sym n)

pub new_taken : {E : Type 0} (me : Node) (c : ClientState) (clock : ℕ) (k : Seek) (l : Location) (table : List Location) (old new : NodeState CopyState) (r : Result Outs E) → Puts l c.table (Some table)
    → Takes (λ place. goes_by_table me (record c { table = table }) clock place k) old new r → Takes (λ place. located me c clock place k l k.left) old new r
new_taken me c clock k l table old new r p h =
    takes_same (λ place. goes_by_table me (record c { table = table }) clock place k) (λ place. located me c clock place k l k.left) old new r
    (λ place. ap (λ (t : List Location). goes_by_table me (record c { table = t }) clock place k) p.1 ∙ new_by me c clock place k l k.left refl p.0) h

-- the table had it
same_as : (me : Node) (c : ClientState) (clock place : ℕ) (k : Seek) (l : Location) (left : Option Left) → k.left ≡ left → has_location l c.table ≡ true → goes_as_before me c clock place k left ≡ located me c clock place k l left
same_as me c clock place k l None e n =
    on_as me c clock place k (volume_at c.table k.operand) e
    ∙ ap (λ (t : List Location). located_on me (record c { table = t }) clock place k.act (volume_at t k.operand)) (kept (has_location l c.table) c.table _ (sym n))
same_as me c clock place k l (Some left) e n = chosen_then (has_location l c.table) (sought_ends me c (with_given place) left.code) _ (sym n)

pub same_taken : {E : Type 0} (me : Node) (c : ClientState) (clock : ℕ) (k : Seek) (l : Location) (old new : NodeState CopyState) (r : Result Outs E) → Puts l c.table None
    → Takes (λ place. goes_as_before me c clock place k k.left) old new r → Takes (λ place. located me c clock place k l k.left) old new r
same_taken me c clock k l old new r p h = takes_same (λ place. goes_as_before me c clock place k k.left) (λ place. located me c clock place k l k.left) old new r (λ place. same_as me c clock place k l k.left refl p) h

-- ---- entries of replies are within their limits

looked_up : (reply : LocReply) (head : Head) → HasSpelling (record { head = head; carried = carried.Reply (tell.Location reply) }) → IfSome (entry_in reply) IsEntry
looked_up (answered.CreateEntry stamp) head h = tt
looked_up answered.DeleteEntry head h = tt
looked_up (answered.GetEntryById e) head h = h.1.2.0
looked_up (answered.GetEntryByName e) head h = h.1.2.0
looked_up (answered.GetNewVolumeId volume) head h = tt
looked_up answered.ReplaceEntry head h = tt
looked_up (answered.SetLock stamp e) head h = tt
looked_up answered.ReleaseLock head h = tt
looked_up (answered.ListEntry index e) head h = tt

pub entry_fits : (reply : Reply) (head : Head) → HasSpelling (record { head = head; carried = carried.Reply reply }) → IfSome (entry_told reply) IsEntry
entry_fits (tell.File reply) head h = tt
entry_fits (tell.Volume reply) head h = tt
entry_fits (tell.Location reply) head h = looked_up reply head h

pub told_as : (me : Node) (c : ClientState) (clock place : ℕ) (k : Seek) (head : Head) (reply : Reply) → located_by me c clock place k (entry_told reply) ≡ sought_by me c clock place k head (carried.Reply reply)
told_as me c clock place k head (tell.File reply) = refl
told_as me c clock place k head (tell.Volume reply) = refl
told_as me c clock place k head (tell.Location reply) = refl

-- ---- the boot number of the database

asked_again : (old new : NodeState CopyState) (boot : ℕ) (k : Seek) (outs : Outs) → new ≡ record old { state = with_client old.state (record old.state.client { boots = with_boot nodes.Loc boot old.state.client.boots }) } → outs.lines ≡ []
    → parcels_read outs.parcels ≡ messages_spelled (sought_from old.node old.state.client old.state.client.last boot k.operand ∷ []) → TakesStill {E = AllocError} (λ place. seeks_again old.node old.state.client place k boot) old new (Ok outs)
asked_again old new boot k outs n l p = (
  ap (λ (s : NodeState CopyState). s.node) n,
  λ place. record {
    state = ap (λ (s : NodeState CopyState). s.state) n;
    lines = ap (λ (ls : List Line). lines.Given place ∷ ls) l;
    sent = p ∙ ap (λ (b : ℕ). messages_spelled (sought_from old.node old.state.client old.state.client.last b k.operand ∷ [])) (sym (boot_told_is nodes.Loc boot old.state.client.boots));
  },
)

pub again_taken : (old new : NodeState CopyState) (boot : ℕ) (found : Seek) (outs : Outs) → Some found ≡ old.state.client.seeking → new ≡ record old { state = with_client old.state (record old.state.client { boots = with_boot nodes.Loc boot old.state.client.boots }) } → outs.lines ≡ []
    → parcels_read outs.parcels ≡ messages_spelled (sought_from old.node old.state.client old.state.client.last boot found.operand ∷ []) → (k : Seek) → old.state.client.seeking ≡ Some k → Takes {E = AllocError} (λ place. seeks_again old.node old.state.client place k boot) old new (Ok outs)
again_taken old new boot found outs f n l p k e =
    still_taken {E = AllocError} (λ place. seeks_again old.node old.state.client place k boot) old new (Ok outs) (λ place. refl)
    (asked_again old new boot k outs n l (p ∙ ap (λ (x : Seek). messages_spelled (sought_from old.node old.state.client old.state.client.last boot x.operand ∷ [])) (some_is found k (f ∙ e))))

-- ---- whose answer a message is

sought_when : {E : Type 0} (me : Node) (c : ClientState) (clock : ℕ) (m : Message) (o : Option Seek) (old new : NodeState CopyState) (r : Result Outs E) → true ≡ sought_by_head me c m.head m.carried o
    → ((k : Seek) → o ≡ Some k → Takes (λ place. sought_by me c clock place k m.head m.carried) old new r) → Takes (λ place. sought_or me c clock place m o) old new r
sought_when me c clock m None old new r e h = absurd cc
sought_when me c clock m (Some k) old new r e h =
    takes_same (λ place. sought_by me c clock place k m.head m.carried) (λ place. sought_or me c clock place m (Some k)) old new r
    (λ place. chosen_then (is_sought me c k m.head m.carried) (sought_by me c clock place k m.head m.carried) (client_row me c clock place (Whole m)) e) (h k refl)

pub sought_taken : {E : Type 0} (me : Node) (clock : ℕ) (head : Head) (x : Carried) (old new : NodeState CopyState) (r : Result Outs E) → true ≡ sought_by_head me old.state.client head x old.state.client.seeking
    → Sought (λ place k. sought_by me old.state.client clock place k head x) old new r → Takes (λ place. guest_row me old.state.client clock place (Whole (record { head = head; carried = x }))) old new r
sought_taken me clock head x old new r e h = sought_when me old.state.client clock (record { head = head; carried = x }) old.state.client.seeking old new r e h

unsought_as : (me : Node) (c : ClientState) (clock place : ℕ) (m : Message) (o : Option Seek) → false ≡ sought_by_head me c m.head m.carried o → client_row me c clock place (Whole m) ≡ sought_or me c clock place m o
unsought_as me c clock place m None e = refl
unsought_as me c clock place m (Some k) e = chosen_else (is_sought me c k m.head m.carried) (sought_by me c clock place k m.head m.carried) (client_row me c clock place (Whole m)) e

pub row_is : (me : Node) (c : ClientState) (clock place : ℕ) (r : Received) → takes_in me c clock place r ≡ client_row me c clock place r
unfolding client_row
row_is me c clock place r = refl

pub unsought_taken : {E : Type 0} (me : Node) (c : ClientState) (clock : ℕ) (head : Head) (x : Carried) (old new : NodeState CopyState) (r : Result Outs E) → false ≡ sought_by_head me c head x c.seeking
    → Takes (λ place. takes_in me c clock place (Whole (record { head = head; carried = x }))) old new r → Takes (λ place. guest_row me c clock place (Whole (record { head = head; carried = x }))) old new r
unsought_taken me c clock head x old new r e h =
    let m : Message = record { head = head; carried = x } in
    takes_same (λ place. takes_in me c clock place (Whole m)) (λ place. guest_row me c clock place (Whole m)) old new r (λ place. row_is me c clock place (Whole m) ∙ unsought_as me c clock place m c.seeking e) h

pub seeks_for : (me : Node) (c : ClientState) (head : Head) (x : Carried) (o : Option Seek) → true ≡ sought_by_head me c head x o → IsSome o
seeks_for me c head x None e = absurd cc
seeks_for me c head x (Some k) e = refl

-- where memory was wanting the client has its own again
pub back_again : (old mid new last : NodeState CopyState) (table known : List Location) → mid ≡ record old { state = with_client old.state (record old.state.client { table = table }) } → known ≡ old.state.client.table → new ≡ mid
    → last ≡ record new { state = with_client new.state (record new.state.client { table = known }) } → last ≡ old
back_again old mid new last table known m b n l =
    l ∙ (ap (λ (s : NodeState CopyState). record s { state = with_client s.state (record s.state.client { table = known }) }) (n ∙ m) ∙ ap (λ (t : List Location). record old { state = with_client old.state (record old.state.client { table = t }) }) b)

-- with another table its call goes where it would go
pub table_taken : (step : ClientState → ℕ → Step ClientState) (old mid new : NodeState CopyState) (table : List Location) (outs : Outs) → mid ≡ record old { state = with_client old.state (record old.state.client { table = table }) }
    → Takes {E = AllocError} (λ place. step mid.state.client place) mid new (Ok outs) → Takes {E = AllocError} (λ place. step (record old.state.client { table = table }) place) old new (Ok outs)
unfolding sent_to_site
table_taken step old mid new table outs m h = subst (λ (s : NodeState CopyState). Takes {E = AllocError} (λ (place : ℕ). step s.state.client place) s new (Ok outs)) m h

-- ---- the act that waits, renewed

pub seeking_back : (old mid new last : NodeState CopyState) (seeking known : Option Seek) → mid ≡ record old { state = with_client old.state (record old.state.client { seeking = seeking }) } → known ≡ old.state.client.seeking → new ≡ mid
    → last ≡ record new { state = with_client new.state (record new.state.client { seeking = known }) } → last ≡ old
seeking_back old mid new last seeking known m b n l =
    l ∙ (ap (λ (s : NodeState CopyState). record s { state = with_client s.state (record s.state.client { seeking = known }) }) (n ∙ m) ∙ ap (λ (o : Option Seek). record old { state = with_client old.state (record old.state.client { seeking = o }) }) b)

pub seeking_taken : (step : ClientState → ℕ → Step ClientState) (old mid new : NodeState CopyState) (seeking : Option Seek) (outs : Outs) → mid ≡ record old { state = with_client old.state (record old.state.client { seeking = seeking }) }
    → Takes {E = AllocError} (λ place. step mid.state.client place) mid new (Ok outs) → Takes {E = AllocError} (λ place. step (record old.state.client { seeking = seeking }) place) old new (Ok outs)
unfolding sent_to_site
seeking_taken step old mid new seeking outs m h = subst (λ (s : NodeState CopyState). Takes {E = AllocError} (λ (place : ℕ). step s.state.client place) s new (Ok outs)) m h
