-- The steps of a server node: a message of a client goes to its file server, every other to its volume server; then the file server
-- sends what waited for breaks, and breaks; and last the volume server sends what waited for breaks.
use Rattle.std.specs.Prelude.{ℕ, ◌+◌, List, [], ◌∷◌, ◌++◌, Bool, true, false, not, ◌&&◌, ◌||◌, Option, Some, None, ℤ, pos, negsuc, nat_eq, nat_lt, map, filter, length, drop, if◌then◌else◌}
use Rattle.std.specs.List.{list_any}
use Rattle.afs_num.specs.Nodes.{same_node}
use Rattle.afs_num.specs.declared.messages.Call.TheVariants as ask
use Rattle.afs_num.specs.declared.messages.Carried.{Carried}
use Rattle.afs_num.specs.declared.messages.Carried.TheVariants as carried
use Rattle.afs_num.specs.declared.messages.Message.{Message}
use Rattle.afs_num.specs.declared.messages.Received.{Received}
use Rattle.afs_num.specs.declared.messages.Received.TheVariants.{Nothing, Unserved, Unreadable, Whole}
use Rattle.afs_num.specs.declared.messages.Reply.TheVariants as tell
use Rattle.afs_num.specs.declared.records.RecordBody.{RecordBody}
use Rattle.afs_num.specs.declared.records.RecordBody.TheVariants as bodies
use Rattle.afs_num.specs.declared.records.RecordHead.{RecordHead}
use Rattle.afs_num.specs.declared.records.StoreRecord.{StoreRecord}
use Rattle.afs_num.specs.declared.types.Half.TheVariants as halves
use Rattle.afs_num.specs.declared.types.Head.{Head}
use Rattle.afs_num.specs.declared.types.Node.{Node}
use Rattle.afs_num.specs.declared.types.Node.TheVariants.{Server, Admin}
use Rattle.afs_num.specs.declared.volume_calls.VolCall.{VolCall}
use Rattle.afs_num.specs.declared.volume_calls.VolCall.TheVariants as calls
use Rattle.afs_num.specs.declared.volume_calls.VolReply.{VolReply}
use Rattle.afs_num.specs.declared.volume_calls.VolReply.TheVariants as replies
use Rattle.spec_history.specs.declared.lines.Line.{Line}
use Rattle.spec_history.specs.declared.lines.Line.TheVariants as lines
use Rattle.spec_breaks.specs.declared.types.OwedBreak.{OwedBreak}
use Rattle.spec_breaks.specs.Promises as lists
use Rattle.spec_breaks.specs.Promises.{Lists}
use Rattle.spec_ideal.specs.Operations.{is_number}
use Rattle.spec_ideal.specs.Tables.{Table}
use Rattle.spec_model.specs.Calls.{admitted, call_seat, call_seated, finished, is_sent_again, last_timeout, Admitted, key_of}
use Rattle.spec_model.specs.Calls as pairs
use Rattle.spec_model.specs.Messages.{spelled}
use Rattle.spec_records.specs.Changes.{keeping}
use Rattle.spec_records.specs.Durable.{has_room, placing, stamp_of, with_stamp, Durable}
use Rattle.spec_dumps.specs.Streams.{is_last_at, piece_at}
use Rattle.spec_rows.specs.Callbacks.{alls, expired, held_under, is_ready, is_seat_of, key_answered, break_numbers, owe_line, put_at, replies_of, timeout_line}
use Rattle.spec_rows.specs.ServerRow.{bad_fields, begun_after, boot_told, device_calls, is_client, journal_with, not_served, refusal, replied, seat_for, seat_placed, Decision}
use Rattle.spec_rows.specs.ServerSteps.{back_timeout_row, stepped, wake_row}
use Rattle.spec_rows.specs.States.{durable_of, BackCall, Backs, Held, Lasting, Seat, ServerState}
use Rattle.spec_rows.specs.Steps.{begun_before, Begun, Step}
use Rattle.spec_fold.specs.Deeds.{done_by}
use Rattle.spec_fold.specs.Effects.{effect_by}
use Rattle.spec_volrows.specs.FileRow.{file_decides, file_row, file_start}
use Rattle.spec_volrows.specs.VolRow.{accepted, family_of, gives, holds_of, last_after, last_word, most_piece, no_room_left, old_stamp, refused, sends, stay, transactions_after, verdict, without_family, After, Dispatch, Plan, Verdict}
use Rattle.spec_volrows.specs.VolStates.{fresh_vol, NodeState, PieceCall, Sending, Transaction, VolState}

-- ---- replies

abbrev pub vol_reply : ℕ → Head → VolReply → Message
vol_reply boot head reply = replied boot head (carried.Reply (tell.Volume reply))

abbrev pub vol_refusal : ℕ → Head → ℕ → Message
vol_refusal boot head code = refusal boot head (pos code)

-- ---- decisions

-- What is written: the reply, the record's body (that of a stamp alone where nothing else is written), the stamp that it raises (0 and 0
-- where none), the volume whose promises are withdrawn, and the transactions after it with the last number.
pub record Deed : Type 0 where
  pub reply : Message
  pub body : RecordBody
  pub family : ℕ
  pub stamp : ℕ
  pub withdraws : Option ℕ
  pub transactions : Table Transaction
  pub last : ℕ

-- A message is dropped; it tells the boot number to a caller that has another; it is answered with the kept reply; with a reply of which
-- nothing is written, and then these are the transactions and their last number; a dump is sent; or something is written.
pub data VolDecision : Type 0 where
  drops : VolDecision
  tells_boot : Head → VolDecision
  repeats : Message → VolDecision
  replies_to : Head → Message → Table Transaction → ℕ → VolDecision
  dispatches : Head → Dispatch → VolDecision
  saves : Head → Deed → VolDecision

-- its record
abbrev pub deed_head : Head → Deed → RecordHead
deed_head head x = record (keeping (key_of head) (spelled x.reply)) { family = x.family; stamp = x.stamp }

abbrev pub deed_record : Head → Deed → StoreRecord
deed_record head x = record { head = deed_head head x; body = x.body }

-- a piece that is refused for want of room is forgotten, with those before it
abbrev pub when_full : After → After
when_full (gives number bytes) = gives number []
when_full after = stay

abbrev pub replies_after : ℕ → Head → Table Transaction → ℕ → Message → After → VolDecision
replies_after boot head ts last reply after = replies_to head reply (transactions_after last after ts) (last_after last after)

-- The record of an accepted call, or that of a raised stamp, doesn't fit. Then no stamp is raised and no transaction has ended: the call is
-- judged over the transactions as they were, and what isn't refused so finds no room.
abbrev pub not_written : ℕ → Head → Table Transaction → ℕ → Verdict → VolDecision
not_written boot head ts last (refused code after) = replies_after boot head ts last (vol_refusal boot head code) after
not_written boot head ts last (accepted p) = replies_after boot head ts last (vol_refusal boot head no_room_left) (when_full p.after)
not_written boot head ts last (sends x) = replies_to head (vol_refusal boot head no_room_left) ts last

-- what is written, if it fits
abbrev pub written : Durable → Head → Deed → VolDecision → VolDecision
written d head x full = if has_room d (deed_record head x) then saves head x else full

-- under the stored stamp
abbrev pub same_written : Durable → Head → Table Transaction → ℕ → Plan → Option RecordBody → VolDecision
same_written d head ts last p None = replies_after d.boot head ts last (vol_reply d.boot head p.reply) p.after
same_written d head ts last p (Some body) = written d head
    (record {
      reply = vol_reply d.boot head p.reply;
      body = body;
      family = 0;
      stamp = 0;
      withdraws = p.withdraws;
      transactions = transactions_after last p.after ts;
      last = last_after last p.after;
    })
    (not_written d.boot head ts last (accepted p))

abbrev pub same_by : Durable → Head → Table Transaction → ℕ → Verdict → VolDecision
same_by d head ts last (refused code after) = replies_after d.boot head ts last (vol_refusal d.boot head code) after
same_by d head ts last (accepted p) = same_written d head ts last p p.body
same_by d head ts last (sends x) = dispatches head x

-- a raised stamp is written alone where the call writes nothing else
abbrev pub or_stamp : Option RecordBody → RecordBody
or_stamp None = bodies.Stamp
or_stamp (Some body) = body

-- Under a higher stamp: that is stored, whatever the answer, and the family's transactions have ended; `live` are the others. A call that
-- is sent on would store nothing, but none is: it asks for a transaction of the family.
abbrev pub raised_by : Durable → Head → ℕ → Table Transaction → ℕ → Verdict → VolDecision → VolDecision
raised_by d head family live last (refused code after) full = written d head
    (record {
      reply = vol_refusal d.boot head code;
      body = bodies.Stamp;
      family = family;
      stamp = head.stamp;
      withdraws = None;
      transactions = transactions_after last after live;
      last = last_after last after;
    })
    full
raised_by d head family live last (accepted p) full = written d head
    (record {
      reply = vol_reply d.boot head p.reply;
      body = or_stamp p.body;
      family = family;
      stamp = head.stamp;
      withdraws = p.withdraws;
      transactions = transactions_after last p.after live;
      last = last_after last p.after;
    })
    full
raised_by d head family live last (sends x) full = dispatches head x

abbrev pub judged_by : Durable → Head → ℕ → ℕ → Table Transaction → ℕ → VolCall → VolDecision
judged_by d head family stored ts last call =
    if nat_lt head.stamp stored then replies_to head (vol_refusal d.boot head old_stamp) ts last
    else (if nat_lt stored head.stamp then raised_by d head family (without_family family ts) last (verdict d (without_family family ts) last head.stamp call)
    (not_written d.boot head ts last (verdict d ts last head.stamp call))
    else same_by d head ts last (verdict d ts last head.stamp call))

abbrev pub judged : Durable → VolState → Head → VolCall → VolDecision
judged d v head call = judged_by d head (family_of call) (stamp_of (family_of call) d) v.transactions v.last_transaction call

abbrev pub is_volume_call : ℕ → Bool
is_volume_call opcode = list_any (nat_eq opcode) (100 ∷ 101 ∷ 102 ∷ 103 ∷ 104 ∷ 105 ∷ 106 ∷ 107 ∷ 108 ∷ 109 ∷ 111 ∷ 113 ∷ 116 ∷ 120 ∷ [])

abbrev pub refuses_vol : Durable → VolState → Head → ℤ → VolDecision
refuses_vol d v head code = replies_to head (refusal d.boot head code) v.transactions v.last_transaction

abbrev pub vol_carried : Durable → VolState → Head → Carried → VolDecision
vol_carried d v head (carried.Call user (ask.Volume call)) = judged d v head call
vol_carried d v head (carried.Call user call) = refuses_vol d v head not_served
vol_carried d v head c = drops

-- by what was found in its bytes
abbrev pub vol_received : Durable → VolState → Head → Received → VolDecision
vol_received d v head Nothing = drops
vol_received d v head (Unserved other) = refuses_vol d v head not_served
vol_received d v head (Unreadable other) = refuses_vol d v head (if is_volume_call head.opcode then bad_fields else not_served)
vol_received d v head (Whole m) = vol_carried d v head m.carried

-- servers and administrators are served, and no other node
abbrev pub is_vol_caller : Node → Bool
is_vol_caller (Server n) = true
is_vol_caller (Admin n) = true
is_vol_caller n = false

abbrev pub vol_admits : Durable → VolState → Head → Received → Admitted Message → VolDecision
vol_admits d v head r pairs.runs = if is_vol_caller head.from then vol_received d v head r else refuses_vol d v head not_served
vol_admits d v head r (pairs.kept reply) = repeats reply
vol_admits d v head r pairs.in_progress = drops
vol_admits d v head r pairs.older = drops
vol_admits d v head r (pairs.wrong_boot boot) = tells_boot head

abbrev pub vol_called : Node → Durable → VolState → Head → Received → VolDecision
vol_called me d v head r = if same_node head.to me then vol_admits d v head r (admitted d.boot v.seats head) else drops

abbrev pub vol_hears : Node → Durable → VolState → Head → Carried → VolDecision
vol_hears me d v head (carried.Call user call) = vol_called me d v head (Whole (record { head = head; carried = carried.Call user call }))
vol_hears me d v head c = drops

abbrev pub vol_decides : Node → Durable → VolState → Received → VolDecision
vol_decides me d v Nothing = drops
vol_decides me d v (Unserved head) = vol_called me d v head (Unserved head)
vol_decides me d v (Unreadable head) = vol_called me d v head (Unreadable head)
vol_decides me d v (Whole m) = vol_hears me d v m.head m.carried

-- ---- what a decision does

-- its state and what it shares with the file server, its further lines, and what it sends
pub record VolTurn : Type 0 where
  pub lasting : Lasting
  pub vol : VolState
  pub backs : Backs
  pub lines : List Line
  pub sent : List Message

abbrev pub vol_rests : Lasting → VolState → Backs → VolTurn
vol_rests l v b = record { lasting = l; vol = v; backs = b; lines = []; sent = [] }

abbrev pub held_vol : Message → List ℕ → Bool → Held
held_vol reply waits again = record { reply = reply; waits = waits; again = again }

-- a reply goes out at once where it waits for nothing
abbrev pub vol_answers : Lasting → VolState → Backs → List Line → Message → List ℕ → Bool → VolTurn
vol_answers l v b ls reply [] again = record { lasting = l; vol = v; backs = b; lines = ls; sent = reply ∷ [] }
vol_answers l v b ls reply (k ∷ ks) again = record { lasting = l; vol = record v { held = v.held ++ held_vol reply (k ∷ ks) again ∷ [] }; backs = b; lines = ls; sent = [] }

abbrev pub vol_seated : Head → Message → VolState → VolState
vol_seated head reply v = record v { seats = call_seated (seat_for head reply) v.seats }

abbrev pub with_transactions : Table Transaction → ℕ → VolState → VolState
with_transactions ts last v = record v { transactions = ts; last_transaction = last }

-- the promises on a volume are withdrawn
abbrev pub withdraws_from : Option ℕ → Lists → Lists
withdraws_from None l = l
withdraws_from (Some id) l = lists.withdraws_volume id l

abbrev pub owes_of : Option ℕ → Lists → List OwedBreak
owes_of None l = []
owes_of (Some id) l = lists.owes_from l.last_owed (lists.by_fid (lists.hits_on id l.promises))

-- what is written: the fold of the record
abbrev pub vol_lasting : Head → Deed → Lasting → Durable → Lasting
vol_lasting head x l e = record l {
  volumes = e.volumes;
  stamps = e.stamps;
  forwardings = e.forwardings;
  kept = seat_placed (seat_for head x.reply) l.kept;
  journal = journal_with (deed_record head x) l;
}

abbrev pub deed_done : Head → Deed → Lasting → Lasting
deed_done head x l = vol_lasting head x l (with_stamp (deed_head head x) (done_by x.body (durable_of l)))

abbrev pub deed_lines : Node → Head → Deed → Lasting → List Line
deed_lines me head x l = effect_by me (deed_head head x) x.body (durable_of l)

-- the server's own calls to other servers: one piece at a time, the dumps one after the other

abbrev pub vol_opcode : ℕ
vol_opcode = 102

abbrev pub piece_message : Node → ℕ → Node → ℕ → ℕ → Sending → Message
piece_message me boot n known number x = record {
  head = record { half = halves.Call; from = me; to = n; epoch = boot; number = number; boot = known; stamp = x.head.stamp; opcode = vol_opcode };
  carried = carried.Call [] (ask.Volume (calls.Restore x.family x.target x.at (last_word 0 x.left) (piece_at most_piece 0 x.left)));
}

-- the next piece goes out where no call to that server is unanswered
abbrev pub next_by : Node → ℕ → Node → VolTurn → List Sending → Option PieceCall → VolTurn
next_by me boot n t [] c = t
next_by me boot n t (x ∷ xs) (Some c) = t
next_by me boot n t (x ∷ xs) None = record t {
  vol = record t.vol { calls = put_at n (Some (record { number = t.backs.last_call + 1; tries = 0; content = tt })) t.vol.calls };
  backs = record t.backs { last_call = t.backs.last_call + 1 };
  sent = t.sent ++ piece_message me boot n (t.vol.known n) (t.backs.last_call + 1) x ∷ [];
}

abbrev pub next_piece : Node → ℕ → Node → VolTurn → VolTurn
next_piece me boot n t = next_by me boot n t (t.vol.sendings n) (t.vol.calls n)

abbrev pub sending_of : Head → Dispatch → Sending
sending_of head x = record { head = head; family = x.family; target = x.target; at = 0; left = x.bytes }

-- a Forward is in progress until its dump went
abbrev pub in_progress : Head → VolState → VolState
in_progress head v = record v { seats = pairs.started (key_of head) v.seats }

abbrev pub queued : Head → Dispatch → VolState → VolState
queued head x v = record v { sendings = put_at (Server x.server) (v.sendings (Server x.server) ++ sending_of head x ∷ []) v.sendings }

abbrev pub dispatched : Node → Lasting → VolState → Backs → Head → Dispatch → VolTurn
dispatched me l v b head x = next_piece me l.boot (Server x.server) (vol_rests l (queued head x (in_progress head v)) b)

-- A kept reply. Of one that waits nothing is sent, as the call is in progress; where the breaks on all have ended in this very step, and
-- it was asked for again, it is sent beside the one that waited.
abbrev pub vol_repeats : Lasting → VolState → Backs → Message → Option Held → Bool → VolTurn
vol_repeats l v b reply (Some h) good = if h.again && is_ready b.lists.owed h then vol_answers l v b [] reply [] true else vol_rests l v b
vol_repeats l v b reply None true = vol_answers l v b [] reply (alls b.lists.owed) true
vol_repeats l v b reply None false = vol_answers l v b [] reply [] true

abbrev pub vol_turn : Node → Lasting → VolState → Backs → VolDecision → VolTurn
vol_turn me l v b drops = vol_rests l v b
vol_turn me l v b (tells_boot head) = record { lasting = l; vol = v; backs = b; lines = []; sent = boot_told l.boot head ∷ [] }
vol_turn me l v b (repeats reply) = vol_repeats l v b reply (held_under (key_answered reply) v.held) (is_seat_of reply (call_seat reply.head.to l.kept))
vol_turn me l v b (replies_to head reply ts last) = vol_answers l (vol_seated head reply (with_transactions ts last v)) b [] reply [] false
vol_turn me l v b (dispatches head x) = dispatched me l v b head x
vol_turn me l v b (saves head x) =
    vol_answers (deed_done head x l) (vol_seated head x.reply (with_transactions x.transactions x.last v)) (record b { lists = withdraws_from x.withdraws b.lists })
    (deed_lines me head x l ++ map (owe_line me) (owes_of x.withdraws b.lists)) x.reply (break_numbers (owes_of x.withdraws b.lists) ++ alls b.lists.owed) false

-- ---- answers to its own calls

abbrev pub code_told : Carried → ℤ
code_told (carried.Refusal code) = code.0
code_told c = pos 0

-- the reply to a Forward: 0, or the code with which a piece was refused
abbrev pub forward_reply : ℕ → Head → ℤ → Message
forward_reply boot head code = if is_number code 0 then replied boot head (carried.Reply (tell.Volume replies.Forward)) else refusal boot head code

-- The dump has gone, or is given up: its reply goes out, and is kept where the call is still its caller's last one; then the next dump goes.
abbrev pub ends_sending : Node → Lasting → VolState → Backs → List Line → Node → List Sending → Sending → ℤ → VolTurn
ends_sending me l v b ls n xs x code = next_piece me l.boot n (record {
  lasting = l;
  vol = record v { sendings = put_at n xs v.sendings; calls = put_at n None v.calls; seats = finished (key_of x.head) (forward_reply l.boot x.head code) v.seats };
  backs = b;
  lines = ls;
  sent = forward_reply l.boot x.head code ∷ [];
})

-- the bytes of the piece went
abbrev pub piece_gone : Sending → Sending
piece_gone x = record x { at = x.at + length (piece_at most_piece 0 x.left); left = drop most_piece x.left }

abbrev pub sending_goes_on : Node → Lasting → VolState → Backs → Node → List Sending → Sending → VolTurn
sending_goes_on me l v b n xs x =
    next_piece me l.boot n (vol_rests l (record v { sendings = put_at n (piece_gone x ∷ xs) v.sendings; calls = put_at n None v.calls }) b)

abbrev pub sent_whole : Sending → Bool
sent_whole x = is_last_at most_piece 0 x.left

abbrev pub answered_by : Node → Lasting → VolState → Backs → Node → List Sending → ℤ → VolTurn
answered_by me l v b n [] code = vol_rests l v b
answered_by me l v b n (x ∷ xs) code =
    if not (is_number code 0) || sent_whole x then ends_sending me l v b [] n xs x code else sending_goes_on me l v b n xs x

abbrev pub is_awaited : ℕ → PieceCall → Head → Bool
is_awaited boot c head = nat_eq head.epoch boot && (nat_eq head.number c.number && nat_eq head.opcode vol_opcode)

abbrev pub vol_renews : Node → Lasting → VolState → Backs → Node → ℕ → PieceCall → List Sending → VolTurn
vol_renews me l v b n known c [] = vol_rests l v b
vol_renews me l v b n known c (x ∷ xs) = record {
  lasting = l;
  vol = record v { known = put_at n known v.known };
  backs = b;
  lines = [];
  sent = piece_message me l.boot n known c.number x ∷ [];
}

abbrev pub vol_told_by : Node → Lasting → VolState → Backs → Head → Carried → Option PieceCall → VolTurn
vol_told_by me l v b head c None = vol_rests l v b
vol_told_by me l v b head carried.Notice (Some p) =
    if is_awaited l.boot p head then vol_renews me l v b head.from head.boot p (v.sendings head.from) else vol_rests l v b
vol_told_by me l v b head c (Some p) =
    if is_awaited l.boot p head then answered_by me l v b head.from (v.sendings head.from) (code_told c) else vol_rests l v b

abbrev pub vol_told : Node → Lasting → VolState → Backs → Head → Carried → VolTurn
vol_told me l v b head c = if same_node head.to me then vol_told_by me l v b head c (v.calls head.from) else vol_rests l v b

-- a message: a call, or an answer to one of its own
abbrev pub vol_turned_by : Node → Lasting → VolState → Backs → VolDecision → Head → Carried → VolTurn
vol_turned_by me l v b d head (carried.Call user call) = vol_turn me l v b d
vol_turned_by me l v b d head c = vol_told me l v b head c

abbrev pub vol_turned : Node → Lasting → VolState → Backs → VolDecision → Received → VolTurn
vol_turned me l v b d Nothing = vol_rests l v b
vol_turned me l v b d (Unserved head) = vol_turn me l v b d
vol_turned me l v b d (Unreadable head) = vol_turn me l v b d
vol_turned me l v b d (Whole m) = vol_turned_by me l v b d m.head m.carried

-- ---- its timeouts: the last gives the dump up

-- -1: a call was given up
abbrev pub given_up : ℤ
given_up = negsuc 0

abbrev pub vol_timed : Node → Lasting → VolState → Backs → Node → PieceCall → List Sending → VolTurn
vol_timed me l v b n c [] = vol_rests l v b
vol_timed me l v b n c (x ∷ xs) =
    if is_sent_again c.tries then record {
      lasting = l;
      vol = record v { calls = put_at n (Some (record c { tries = c.tries + 1 })) v.calls };
      backs = b;
      lines = timeout_line me l.boot n c.number (c.tries + 1) ∷ [];
      sent = piece_message me l.boot n (v.known n) c.number x ∷ [];
    }
    else ends_sending me l v b (timeout_line me l.boot n c.number last_timeout ∷ []) n xs x given_up

-- ---- the end of each step

-- replies of the volume server whose breaks have ended go out last
abbrev pub waits_for_breaks : List OwedBreak → Held → Bool
waits_for_breaks os h = not (is_ready os h)

abbrev pub released : VolState → List Line → Step ServerState → Step NodeState
released v ls s = record {
  state = record { file = s.state; vol = record v { held = filter (waits_for_breaks s.state.backs.lists.owed) v.held } };
  lines = ls;
  sent = s.sent ++ replies_of (filter (is_ready s.state.backs.lists.owed) v.held);
}

-- the file server's step
abbrev pub file_stepped : VolState → Step ServerState → Step NodeState
file_stepped v s = released v s.lines s

-- what the volume server did, and then what the file server does with promises
abbrev pub vol_stepped : Node → ServerState → List Line → VolTurn → Step NodeState
vol_stepped me s ls t =
    released t.vol (ls ++ t.lines) (stepped me (record s { lasting = t.lasting }) [] (record { backs = t.backs; lines = []; sent = t.sent; outs = [] }))

-- whose message it is
abbrev pub from_of : Received → Option Node
from_of Nothing = None
from_of (Unserved head) = Some head.from
from_of (Unreadable head) = Some head.from
from_of (Whole m) = Some m.head.from

abbrev pub is_of_client : Option Node → Bool
is_of_client None = true
is_of_client (Some n) = is_client n

abbrev pub vol_row : Node → NodeState → ℕ → ℕ → Received → Step NodeState
vol_row me s clock place m =
    vol_stepped me s.file (lines.Given place ∷ []) (vol_turned me s.file.lasting s.vol (expired clock s.file.backs) (vol_decides me (durable_of s.file.lasting) s.vol m) m)

-- what the file server decides beside the volume server
abbrev pub node_file_decides : Node → NodeState → ℕ → Received → Decision
node_file_decides me s clock m = file_decides me (holds_of s.vol.transactions) s.file clock m

-- the node, given the message of this place
unfoldable pub node_row : Node → NodeState → ℕ → ℕ → Received → Step NodeState
node_row me s clock place m =
    if is_of_client (from_of m) then file_stepped s.vol (file_row me (holds_of s.vol.transactions) s.file clock place m) else vol_row me s clock place m

-- its unanswered call to another server is timed out
unfoldable pub piece_timeout_row : Node → NodeState → ℕ → Node → PieceCall → Step NodeState
piece_timeout_row me s clock n c = vol_stepped me s.file [] (vol_timed me s.file.lasting s.vol (expired clock s.file.backs) n c (s.vol.sendings n))

-- and its unanswered call to a client
unfoldable pub node_back_timeout_row : Node → NodeState → ℕ → Node → BackCall → Step NodeState
node_back_timeout_row me s clock n c = file_stepped s.vol (back_timeout_row me s.file clock n c)

-- time has passed
unfoldable pub node_wake_row : Node → NodeState → ℕ → Step NodeState
node_wake_row me s clock = file_stepped s.vol (wake_row me s.file clock)

-- ---- a restart: both halves begin with the kept replies of the disk

abbrev pub node_risen : Step ServerState → List Seat → Step NodeState
node_risen s kept = record { state = record { file = s.state; vol = fresh_vol kept }; lines = s.lines; sent = s.sent }

unfoldable pub node_start_row : Node → ℕ → ℕ → Begun ServerState → Step NodeState
node_start_row me clock count begun = node_risen (file_start me clock count begun) begun.state.lasting.kept

-- ---- a step that its disk ended: its effect is told by the restart

abbrev pub vol_begun_after : Node → ServerState → VolDecision → Begun ServerState
vol_begun_after me s (saves head x) = record { state = record s { lasting = deed_done head x s.lasting }; before = λ ls. deed_lines me head x s.lasting ++ ls }
vol_begun_after me s d = begun_before s

-- what a restart begins with behind a step whose record is whole on the disk
abbrev pub node_begun_after : Node → NodeState → ℕ → Received → Begun ServerState
node_begun_after me s clock m =
    if is_of_client (from_of m) then begun_after me s.file clock (node_file_decides me s clock m)
    else vol_begun_after me s.file (vol_decides me (durable_of s.file.lasting) s.vol m)

-- the device calls of a step: those that its record takes, and none where it has none
abbrev pub vol_device_calls : Durable → VolDecision → ℕ
vol_device_calls d (saves head x) = (placing d (deed_record head x)).calls
vol_device_calls d other = 0

abbrev pub node_device_calls : Node → NodeState → ℕ → Received → ℕ
node_device_calls me s clock m =
    if is_of_client (from_of m) then device_calls s.file clock (node_file_decides me s clock m)
    else vol_device_calls (durable_of s.file.lasting) (vol_decides me (durable_of s.file.lasting) s.vol m)
