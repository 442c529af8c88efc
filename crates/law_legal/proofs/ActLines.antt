-- What the steps of a client tell of its acts, and what it asks for them: the lines tell which act runs, a call is that of the act
-- that runs, and calls under one pair are one.
use Rattle.spec_history.specs.declared.acts.Act.TheVariants as acts
use Rattle.law_legal.specs.Breaks.{HasTimeout}
use Rattle.spec_history.specs.declared.acts.Act.{Act}
use Rattle.spec_history.specs.declared.lines.Line.{Line}
use Rattle.spec_history.specs.declared.lines.Line.TheVariants as lines
use Rattle.spec_history.specs.declared.scripts.Script.{Script}
use Rattle.law_legal.proofs.OwedPasses.{all_lines}
use Rattle.law_legal.proofs.BaseLaws.{Each, IfCall, found-cached-fid, same_fid-true, same_node-refl, some_of, asks_lookup, LastSeat, kept_last}
use Rattle.law_legal.proofs.ClientCalls.{IsUncalled}
use Rattle.spec_history.specs.declared.acts.Operand.{Operand}
use Rattle.law_legal.proofs.ServerRefusesForGood.{IsFirm, IsSentBy}
use Rattle.law_legal.specs.Legal.{IsInPlace, IsNeeded, IsNeededFrom, IsOperandOf}
use Rattle.law_legal.proofs.ServerSeats.{AreSeated, code_half, seated}
use Rattle.law_legal.specs.Parts.{EachLine}
use Rattle.law_legal.specs.Past.{HasCode, has_begun, has_given, lines_of, onto, running, called_key}
use Rattle.spec_model.specs.CellRows as cell_rows
use Rattle.spec_model.specs.Calls as pairs
use Rattle.spec_model.specs.FsRows.{call_number}
use Rattle.spec_model.specs.Calls.{paired, call_seat, key_of}
use Rattle.afs_num.specs.Fids.{same_fid}
use Rattle.afs_num.specs.Nodes.{same_node}
use Rattle.afs_num.specs.declared.calls.FsCall.{FsCall}
use Rattle.afs_num.specs.declared.histories.Actor.TheVariants as actors
use Rattle.afs_num.specs.declared.histories.Body.{Body}
use Rattle.afs_num.specs.declared.histories.Body.{Body}
use Rattle.afs_num.specs.declared.histories.ReadBody.{ReadBody}
use Rattle.afs_num.specs.declared.histories.ReadBody.TheVariants as seen
use Rattle.afs_num.specs.declared.messages.Call.TheVariants as ask
use Rattle.afs_num.specs.declared.messages.Carried.{Carried}
use Rattle.afs_num.specs.declared.messages.Carried.TheVariants as carried
use Rattle.afs_num.specs.declared.messages.Message.{Message}
use Rattle.afs_num.specs.declared.types.Code.{Code}
use Rattle.afs_num.specs.declared.types.Fid.{Fid}
use Rattle.afs_num.specs.declared.types.Head.{Head}
use Rattle.afs_num.specs.declared.types.Key.{Key}
use Rattle.afs_num.specs.declared.types.Node.{Node}
use Rattle.afs_num.specs.declared.types.Node.TheVariants.{Client, Loc}
use Rattle.spec_rows.specs.ClientRow.{boot_of, question, Look, Walked, asking, body_seen, call_message, call_of, callee_by, calls_step, drop_line, dropped, ends_step, find_cached, with_given, gives_by, goes_by, ignores, is_trusted, looked, most_reads, replies_step, shown_by, status_look, not_walked, timeout_line, told_step, used_first, walked, walked_at, walked_by, walked_with, walks_on, with_statuses, act_by, act_of, act_sought, is_gone_code, seek_message, seeking_for, seeks_step, callee_of}
use Rattle.spec_rows.specs.Going.{ClientState, Going, Need, answers, began, gives_back, next, reads, reads_status, with_read, Left, Seek, locates, act_needs, operands_of}
use Rattle.afs_num.specs.declared.location_calls.LocCall.{LocCall}
use Rattle.spec_rows.specs.Runs.{Entry, locations}
use Rattle.spec_rows.specs.ServerRow.{replied, reply_head}
use Rattle.spec_rows.specs.States.{CacheEntry, Gift, Location, Seat}
use Rattle.spec_rows.specs.Steps.{Step}
use Rattle.std.proofs.Common.{zero, suc, ◌+◌, ◌≡◌, ℕ, ◌⊎◌, inl, inr, Bool, true, false, cond, List, [], ◌∷◌, ◌++◌, map, Option, Some, None, refl, sym, subst, ap, ◌∙◌}
use Rattle.std.specs.Prelude.{⊤, ◌&&◌}

-- ---- its lines

-- a line that this client tells
abbrev pub is_of : ℕ → Line → Bool
is_of j (lines.Begin n act) = same_node n (Client j)
is_of j (lines.Given place) = true
is_of j (lines.Read n f index source body) = same_node n (Client j)
is_of j (lines.Answer n code) = same_node n (Client j)
is_of j (lines.Timeout n callee epoch number count) = same_node n (Client j)
is_of j (lines.Crash n) = same_node n (Client j)
is_of j (lines.Restart n boot) = same_node n (Client j)
is_of j (lines.Drop n f) = same_node n (Client j)
is_of j (lines.DropAll n server) = same_node n (Client j)
is_of j l = false

pub one_of : (j : ℕ) (rest : Bool) → rest ≡ true → (same_node (Client j) (Client j) && rest) ≡ true
one_of j rest h = rw (same_node-refl (Client j), h) refl

-- ---- what of a client its acts and calls show

pub record Who : Type 0 where
  pub epoch : ℕ
  pub last : ℕ
  pub user : List ℕ
  pub table : List Location
  pub running : Option Going
  pub seeking : Option Seek
  pub callee : Node
  pub tries : ℕ
  pub seats : List Seat

abbrev pub who_at : ClientState → Who
who_at c = record { epoch = c.epoch; last = c.last; user = c.user; table = c.table; running = c.running; seeking = c.seeking; callee = c.callee; tries = c.tries; seats = c.seats }

-- the act that it began and that isn't answered, whomever it waits for
abbrev pub began_by : Who → Option Going
began_by x = act_by x.running x.seeking

pub runs_act : (c : ClientState) (act : Going) → c.running ≡ Some act → act_of c ≡ Some act
runs_act c act r = ap (λ (a : Option Going). act_by a c.seeking) r

-- one that waits for the location database
pub seeks_act : (c : ClientState) (k : Seek) → c.running ≡ None → c.seeking ≡ Some k → act_of c ≡ Some k.act
seeks_act c k r z = ap (λ (a : Option Going). act_by a c.seeking) r ∙ ap act_sought z

-- the key of its last call
abbrev pub last_key : ℕ → ClientState → Key
last_key j c = record { node = Client j; epoch = c.epoch; number = c.last }

-- the call is that of the act that runs, under the last pair
pub record IsTheCall (j : ℕ) (c : ClientState) (head : Head) (user : List ℕ) (call : FsCall) : Type 0 where
  pub key : key_of head ≡ last_key j c
  pub act : Going
  pub runs : c.running ≡ Some act
  pub user' : user ≡ c.user
  pub asks : call ≡ call_of c act
  pub to : head.to ≡ c.callee
  pub opcode : head.opcode ≡ call_number call

-- it has the pair that it had, and goes on with the act that ran or with none; or it asks for an act, under the next pair; or no act of it
-- waits for a server, and its pair has risen: it stopped, or asks where a volume is
pub record Rests (j : ℕ) (x : Who) (gs : List Gift) (s : Step ClientState) : Type 0 where
  pub epoch : s.state.epoch ≡ x.epoch
  pub last : s.state.last ≡ x.last
  pub act : (s.state.running ≡ None) ⊎ ((s.state.running ≡ x.running) × ((s.state.gifts ≡ gs) × (has_begun (Client j) s.lines ≡ false)))
  pub sent : Each (IfCall (IsTheCall j s.state)) s.sent

pub record Asks (j : ℕ) (x : Who) (s : Step ClientState) : Type 0 where
  pub epoch : s.state.epoch ≡ x.epoch
  pub last : s.state.last ≡ x.last + 1
  pub act : Going
  pub runs : s.state.running ≡ Some act
  pub sent : s.sent ≡ call_message (Client j) s.state act ∷ []
  pub callee : s.state.callee ≡ callee_of s.state act

-- it falls: it begins again in the next epoch
abbrev pub Halts : ℕ → Who → Step ClientState → Type 0
Halts j x s = (s.state.epoch ≡ x.epoch + 1) × ((s.state.last ≡ 0) × (s.lines ≡ lines.Crash (Client j) ∷ []))

-- or it asks the location database, under the next pair
abbrev pub Turns : ℕ → Who → Step ClientState → Type 0
Turns j x s = (s.state.epoch ≡ x.epoch) × ((s.state.last ≡ x.last + 1) × ((o : Operand) × (s.sent ≡ seek_message (Client j) s.state o ∷ [])))

pub record Stops (j : ℕ) (x : Who) (s : Step ClientState) : Type 0 where
  pub act : s.state.running ≡ None
  pub sent : Each IsUncalled s.sent
  pub how : Halts j x s ⊎ Turns j x s

-- what is asked of the location database is asked under the client's last key, by an act that waits for it
pub record IsTheSeek (j : ℕ) (y : ClientState) (head : Head) (user : List ℕ) (call : LocCall) : Type 0 where
  pub key : called_key head ≡ last_key j y
  pub its : Seek
  pub seeks : y.seeking ≡ Some its
  pub user' : user ≡ y.user
  pub asks : call ≡ question its.operand
  pub to : head.to ≡ Loc
  pub opcode : head.opcode ≡ cell_rows.call_number (ask.Location call)
  pub boot : head.boot ≡ boot_of Loc y.boots

abbrev pub OfSeek : (Head → List ℕ → LocCall → Type 0) → Head → Carried → Type 0
OfSeek P head (carried.Call user (ask.Location call)) = P head user call
OfSeek P head x = ⊤

abbrev pub IfSeek : (Head → List ℕ → LocCall → Type 0) → Message → Type 0
IfSeek P m = OfSeek P m.head m.carried

abbrev pub IsOwnSeek : ℕ → ClientState → Message → Type 0
IsOwnSeek j y m = IfSeek (IsTheSeek j y) m

pub code_seek : (j : ℕ) (y : ClientState) (head : Head) (x : Carried) → HasCode x → OfSeek (IsTheSeek j y) head x
code_seek j y head (carried.Call user call) h = absurd h
code_seek j y head (carried.Refusal code) h = tt
code_seek j y head (carried.Reply reply) h = tt
code_seek j y head carried.Notice h = tt

pub own_seek : (j : ℕ) (y : ClientState) (k : Seek) → y.seeking ≡ Some k → IsOwnSeek j y (seek_message (Client j) y k.operand)
own_seek j y k z = record { key = refl; its = k; seeks = z; user' = refl; asks = refl; to = refl; opcode = refl; boot = refl }

pub kept_code : (t : Bool) (me : Node) (boot : ℕ) (ss : List Seat) (head : Head) (m : Message) → AreSeated me ss → cond t (paired head.epoch head.number (call_seat head.from ss)) (pairs.wrong_boot boot) ≡ pairs.kept m → HasCode m.carried
kept_code true me boot ss head m h e = let l : LastSeat head.epoch head.number (call_seat head.from ss) m = kept_last head.epoch head.number (call_seat head.from ss) m e in (h head.from l.seat m l.at l.reply).reply.1
kept_code false me boot ss head m h e = absurd cc

-- it waited for the location database, and does still
pub record SeeksOn (j : ℕ) (x : Who) (k : Seek) (s : Step ClientState) : Type 0 where
  pub before : x.seeking ≡ Some k
  pub running : s.state.running ≡ x.running
  pub epoch : s.state.epoch ≡ x.epoch
  pub last : s.state.last ≡ x.last
  pub callee : s.state.callee ≡ x.callee
  pub tries : (s.state.tries ≡ x.tries) ⊎ ((s.state.tries ≡ x.tries + 1) × ((o : List Line) → HasTimeout (Client j) x.callee x.epoch x.last (x.tries + 1) (onto o s.lines)))
  pub begins : has_begun (Client j) s.lines ≡ false

-- or it asks that now
pub record SeeksNow (j : ℕ) (x : Who) (k : Seek) (s : Step ClientState) : Type 0 where
  pub running : s.state.running ≡ None
  pub callee : s.state.callee ≡ Loc
  pub tries : s.state.tries ≡ 0
  pub above : (s.state.epoch ≡ x.epoch) × (s.state.last ≡ x.last + 1)
  pub gone : (left : Left) → k.left ≡ Some left → is_gone_code left.code ≡ true
  pub its : (left : Left) → k.left ≡ Some left → IsOperandOf k.act k.operand
  pub sent : s.sent ≡ seek_message (Client j) s.state k.operand ∷ []
  pub needs : k.left ≡ None → next k.act ≡ locates k.operand
  pub asks : k.act.act ≡ acts.GiveUp → ⊥

-- all these lines stand where they may
abbrev pub AreInPlace : Script → ℕ → List Entry → List Line → List Line → Type 0
AreInPlace S j past own ls = EachLine (IsInPlace S) (actors.Node (Client j)) past own ls

pub record Acts (j : ℕ) (x : Who) (gs : List Gift) (s : Step ClientState) : Type 0 where
  pub user : s.state.user ≡ x.user
  pub table : s.state.table ≡ x.table
  pub of : all_lines (is_of j) s.lines ≡ true
  pub runs : (S : Script) → x.table ≡ locations S → (o : List Line) → running S (Client j) o ≡ began_by x → running S (Client j) (onto o s.lines) ≡ act_of s.state
  pub goes : Rests j x gs s ⊎ (Asks j x s ⊎ Stops j x s)
  pub seeks : (k : Seek) → s.state.seeking ≡ Some k → SeeksOn j x k s ⊎ SeeksNow j x k s
  pub each : (S : Script) (past : List Entry) → x.table ≡ locations S → running S (Client j) (lines_of past) ≡ began_by x → AreInPlace S j past [] s.lines
  pub seats : AreSeated (Client j) x.seats → AreSeated (Client j) s.state.seats
  pub keys : Each (IsOwnSeek j s.state) s.sent
  pub from : Each (IsSentBy (Client j)) s.sent

-- ---- what stands before further lines

-- where the lines come to once these stand before them
pub record Comes (j : ℕ) (g : Going) (S : Script) (o : List Line) (front : List Line → List Line) : Type 0 where
  pub to : List Line
  pub runs : running S (Client j) to ≡ Some g
  pub on : (ls : List Line) → onto o (front ls) ≡ onto to ls

-- behind them no message is given, and no act begins
abbrev pub IsTail : ℕ → List Line → Type 0
IsTail j ls = (has_given ls ≡ false) × (has_begun (Client j) ls ≡ false)

-- the first lines of a step, with which an act comes so far
pub record Front (j : ℕ) (table : List Location) (before : Option Going) (g : Going) (front : List Line → List Line) : Type 0 where
  pub of : (ls : List Line) → all_lines (is_of j) ls ≡ true → all_lines (is_of j) (front ls) ≡ true
  pub comes : (S : Script) → table ≡ locations S → (o : List Line) → running S (Client j) o ≡ before → Comes j g S o front
  pub each : (S : Script) (past : List Entry) (ls : List Line) → table ≡ locations S → running S (Client j) (lines_of past) ≡ before → IsTail j ls → ((own : List Line) → running S (Client j) (own ++ lines_of past) ≡ Some g → AreInPlace S j past own ls) → AreInPlace S j past [] (front ls)

-- further ones
pub record More (j : ℕ) (g h : Going) (more : List Line → List Line) : Type 0 where
  pub of : (ls : List Line) → all_lines (is_of j) ls ≡ true → all_lines (is_of j) (more ls) ≡ true
  pub comes : (S : Script) (o : List Line) → running S (Client j) o ≡ Some g → Comes j h S o more
  pub tail : (ls : List Line) → IsTail j ls → IsTail j (more ls)
  pub each : (S : Script) (past : List Entry) (own ls : List Line) → running S (Client j) (own ++ lines_of past) ≡ Some g → ((own' : List Line) → running S (Client j) (own' ++ lines_of past) ≡ Some h → AreInPlace S j past own' ls) → AreInPlace S j past own (more ls)

-- one behind another
pub then_front : (j : ℕ) (table : List Location) (before : Option Going) (g h : Going) (front more : List Line → List Line) → Front j table before g front → More j g h more → Front j table before h (λ ls. front (more ls))
then_front j table before g h front more f m = record {
  of = λ ls q. f.of (more ls) (m.of ls q);
  comes = λ S t o r. let a : Comes j g S o front = f.comes S t o r in let b : Comes j h S a.to more = m.comes S a.to a.runs in
      record { to = b.to; runs = b.runs; on = λ ls. a.on (more ls) ∙ b.on ls };
  each = λ S past ls t r tail k. f.each S past (more ls) t r (m.tail ls tail) (λ own q. m.each S past own ls q k);
}

then_more : (j : ℕ) (f g h : Going) (front more : List Line → List Line) → More j f g front → More j g h more → More j f h (λ ls. front (more ls))
then_more j f g h front more a b = record {
  of = λ ls q. a.of (more ls) (b.of ls q);
  comes = λ S o r. let x : Comes j g S o front = a.comes S o r in let y : Comes j h S x.to more = b.comes S x.to x.runs in
      record { to = y.to; runs = y.runs; on = λ ls. x.on (more ls) ∙ y.on ls };
  tail = λ ls q. a.tail (more ls) (b.tail ls q);
  each = λ S past own ls r k. a.each S past own (more ls) r (λ o q. b.each S past o ls q k);
}

pub given_front : (j : ℕ) (table : List Location) (g : Going) (place : ℕ) → Front j table (Some g) g (with_given place)
given_front j table g place = record { of = λ ls q. q; comes = λ S t o r. record { to = lines.Given place ∷ o; runs = r; on = λ ls. refl }; each = λ S past ls t r tail k. (refl, k (lines.Given place ∷ []) r) }

pub begin_front : (j : ℕ) (table : List Location) (act : Act) → Front j table None (began table act) (λ ls. lines.Begin (Client j) act ∷ ls)
begin_front j table act = record {
  of = λ ls q. one_of j (all_lines (is_of j) ls) q;
  comes = λ S t o r. record { to = lines.Begin (Client j) act ∷ o; runs = ap (λ (b : Bool). cond b (Some (began (locations S) act)) (running S (Client j) o)) (same_node-refl (Client j)) ∙ ap (λ (l : List Location). Some (began l act)) (sym t); on = λ ls. refl };
  each = λ S past ls t r tail k. ((refl, (refl, r)), k (lines.Begin (Client j) act ∷ []) (ap (λ (b : Bool). cond b (Some (began (locations S) act)) (running S (Client j) (lines_of past))) (same_node-refl (Client j)) ∙ ap (λ (l : List Location). Some (began l act)) (sym t)));
}

pub timeout_front : (j : ℕ) (c : ClientState) (table : List Location) (g : Going) (count : ℕ) → Front j table (Some g) g (λ ls. timeout_line (Client j) c count ∷ ls)
timeout_front j c table g count = record { of = λ ls q. one_of j (all_lines (is_of j) ls) q; comes = λ S t o r. record { to = timeout_line (Client j) c count ∷ o; runs = r; on = λ ls. refl }; each = λ S past ls t r tail k. ((refl, ((refl, refl), tail)), k (timeout_line (Client j) c count ∷ []) r) }

drop_more : (j : ℕ) (g : Going) (f : Fid) → More j g g (λ ls. lines.Drop (Client j) f ∷ ls)
drop_more j g f = record { of = λ ls q. one_of j (all_lines (is_of j) ls) q; comes = λ S o r. record { to = lines.Drop (Client j) f ∷ o; runs = r; on = λ ls. refl }; tail = λ ls q. q; each = λ S past own ls r k. (refl, k (lines.Drop (Client j) f ∷ own) r) }

none_more : (j : ℕ) (g : Going) → More j g g (λ ls. ls)
none_more j g = record { of = λ ls q. q; comes = λ S o r. record { to = o; runs = r; on = λ ls. refl }; tail = λ ls q. q; each = λ S past own ls r k. k own r }

pub dropped_more : (j : ℕ) (g : Going) (es : List CacheEntry) → More j g g (dropped (Client j) es)
dropped_more j g [] = none_more j g
dropped_more j g (e ∷ es) = then_more j g g g (λ ls. lines.Drop (Client j) e.fid ∷ ls) (dropped (Client j) es) (drop_more j g e.fid) (dropped_more j g es)

-- reads take an act on
abbrev pub read_all : List Look → Going → Going
read_all [] act = act
read_all (l ∷ looks) act = read_all looks (with_read l.fid l.body act)

pub look_more : (j : ℕ) (g : Going) (l : Look) → IsNeededFrom l.source l.fid l.body (next g) → More j g (with_read l.fid l.body g) (λ ls. lines.Read (Client j) l.fid l.index l.source l.body ∷ ls)
look_more j g l need = record {
  of = λ ls q. one_of j (all_lines (is_of j) ls) q;
  comes = λ S o r. record { to = lines.Read (Client j) l.fid l.index l.source l.body ∷ o; runs = rw (same_node-refl (Client j), r) refl; on = λ ls. refl };
  tail = λ ls q. q;
  each = λ S past own ls r k. ((refl, record { act = g; runs = r; needs = need }), k (lines.Read (Client j) l.fid l.index l.source l.body ∷ own) (rw (same_node-refl (Client j), r) refl));
}

-- each is what the act needs, as far as it has come by those before
abbrev pub AreNeeded : Going → List Look → Type 0
AreNeeded g [] = ⊤
AreNeeded g (l ∷ looks) = IsNeededFrom l.source l.fid l.body (next g) × AreNeeded (with_read l.fid l.body g) looks

pub looked_more : (j : ℕ) (g : Going) (looks : List Look) → AreNeeded g looks → More j g (read_all looks g) (looked (Client j) looks)
looked_more j g [] need = none_more j g
looked_more j g (l ∷ looks) need = then_more j g (with_read l.fid l.body g) (read_all looks (with_read l.fid l.body g)) (λ ls. lines.Read (Client j) l.fid l.index l.source l.body ∷ ls) (looked (Client j) looks) (look_more j g l need.0) (looked_more j (with_read l.fid l.body g) looks need.1)

-- ---- what an act reads from the cache

abbrev ReadsOn : (Going → List CacheEntry → Walked) → Type 0
ReadsOn more = (act : Going) (cache : List CacheEntry) → read_all (more act cache).looks act ≡ (more act cache).act

with_reads : (more : Going → List CacheEntry → Walked) (act : Going) (cache : List CacheEntry) (e : CacheEntry) (o : Option ReadBody) → ReadsOn more → read_all (walked_with more act cache e o).looks act ≡ (walked_with more act cache e o).act
with_reads more act cache e None w = refl
with_reads more act cache e (Some body) w = w (with_read e.fid body act) (used_first e cache)

trusted_reads : (t : Bool) (more : Going → List CacheEntry → Walked) (act : Going) (cache : List CacheEntry) (e : CacheEntry) (o : Option ReadBody) → ReadsOn more → read_all (cond t (walked_with more act cache e o) (not_walked act cache)).looks act ≡ (cond t (walked_with more act cache e o) (not_walked act cache)).act
trusted_reads true more act cache e o w = with_reads more act cache e o w
trusted_reads false more act cache e o w = refl

at_reads : (more : Going → List CacheEntry → Walked) (clock : ℕ) (act : Going) (cache : List CacheEntry) (need : Need) (o : Option CacheEntry) → ReadsOn more → read_all (walked_at more clock act cache need o).looks act ≡ (walked_at more clock act cache need o).act
at_reads more clock act cache need None w = refl
at_reads more clock act cache need (Some e) w = trusted_reads (is_trusted clock e) more act cache e (shown_by need e) w

by_reads : (more : Going → List CacheEntry → Walked) (clock : ℕ) (act : Going) (cache : List CacheEntry) (need : Need) → ReadsOn more → read_all (walked_by more clock act cache need).looks act ≡ (walked_by more clock act cache need).act
by_reads more clock act cache (reads f) w = at_reads more clock act cache (reads f) (find_cached f cache) w
by_reads more clock act cache (reads_status f) w = at_reads more clock act cache (reads_status f) (find_cached f cache) w
by_reads more clock act cache need w = refl

pub walked_reads : (n clock : ℕ) (act : Going) (cache : List CacheEntry) → read_all (walked n clock act cache).looks act ≡ (walked n clock act cache).act
walked_reads zero clock act cache = refl
walked_reads (suc n) clock act cache = by_reads (walked n clock) clock act cache (next act) (walked_reads n clock)

-- what it reads from the cache it needs
abbrev NeedsOn : (Going → List CacheEntry → Walked) → Type 0
NeedsOn more = (act : Going) (cache : List CacheEntry) → AreNeeded act (more act cache).looks

with_needed : (more : Going → List CacheEntry → Walked) (act : Going) (cache : List CacheEntry) (e : CacheEntry) (o : Option ReadBody) → ((body : ReadBody) → o ≡ Some body → IsNeeded e.fid body (next act)) → NeedsOn more → AreNeeded act (walked_with more act cache e o).looks
with_needed more act cache e None h w = tt
with_needed more act cache e (Some body) h w = (h body refl, w (with_read e.fid body act) (used_first e cache))

trusted_needed : (t : Bool) (more : Going → List CacheEntry → Walked) (act : Going) (cache : List CacheEntry) (e : CacheEntry) (o : Option ReadBody) → ((body : ReadBody) → o ≡ Some body → IsNeeded e.fid body (next act)) → NeedsOn more → AreNeeded act (cond t (walked_with more act cache e o) (not_walked act cache)).looks
trusted_needed true more act cache e o h w = with_needed more act cache e o h w
trusted_needed false more act cache e o h w = tt

at_needed : (more : Going → List CacheEntry → Walked) (clock : ℕ) (act : Going) (cache : List CacheEntry) (need : Need) (o : Option CacheEntry) → ((e : CacheEntry) → o ≡ Some e → (body : ReadBody) → shown_by need e ≡ Some body → IsNeeded e.fid body (next act)) → NeedsOn more → AreNeeded act (walked_at more clock act cache need o).looks
at_needed more clock act cache need None h w = tt
at_needed more clock act cache need (Some e) h w = trusted_needed (is_trusted clock e) more act cache e (shown_by need e) (h e refl) w

body_needed : (f : Fid) (e : CacheEntry) (o : Option Body) (body : ReadBody) → same_fid e.fid f ≡ true → body_seen o ≡ Some body → IsNeeded e.fid body (reads f)
body_needed f e None body same h = absurd cc
body_needed f e (Some b) body same h = subst (λ (x : ReadBody). IsNeeded e.fid x (reads f)) (some_of (seen.Contents b) body h) (sym (same_fid-true e.fid f same))

status_needed : (f : Fid) (e : CacheEntry) (body : ReadBody) → same_fid e.fid f ≡ true → Some (seen.Status e.status) ≡ Some body → IsNeeded e.fid body (reads_status f)
status_needed f e body same h = subst (λ (x : ReadBody). IsNeeded e.fid x (reads_status f)) (some_of (seen.Status e.status) body h) (sym (same_fid-true e.fid f same))

by_needed : (more : Going → List CacheEntry → Walked) (clock : ℕ) (act : Going) (cache : List CacheEntry) (need : Need) → next act ≡ need → NeedsOn more → AreNeeded act (walked_by more clock act cache need).looks
by_needed more clock act cache (reads f) is w =
    at_needed more clock act cache (reads f) (find_cached f cache) (λ e found body h. subst (IsNeeded e.fid body) (sym is) (body_needed f e e.body body (found-cached-fid f cache e found) h)) w
by_needed more clock act cache (reads_status f) is w =
    at_needed more clock act cache (reads_status f) (find_cached f cache) (λ e found body h. subst (IsNeeded e.fid body) (sym is) (status_needed f e body (found-cached-fid f cache e found) h)) w
by_needed more clock act cache need is w = tt

walked_needed : (n clock : ℕ) (act : Going) (cache : List CacheEntry) → AreNeeded act (walked n clock act cache).looks
walked_needed zero clock act cache = tt
walked_needed (suc n) clock act cache = by_needed (walked n clock) clock act cache (next act) refl (walked_needed n clock)

pub statuses_needed : (es : List CacheEntry) (act : Going) → AreNeeded act (map status_look es)
statuses_needed [] act = tt
statuses_needed (e ∷ es) act = (tt, statuses_needed es (with_read e.fid (seen.Status e.status) act))

pub status_reads : (es : List CacheEntry) (act : Going) → read_all (map status_look es) act ≡ with_statuses es act
status_reads [] act = refl
status_reads (e ∷ es) act = status_reads es (with_read e.fid (seen.Status e.status) act)

-- ---- its ends

pub told_acts : (j : ℕ) (c : ClientState) (place : ℕ) (ms : List Message) → Each (IfCall (IsTheCall j c)) ms → Each (IsOwnSeek j c) ms → Each (IsSentBy (Client j)) ms → Acts j (who_at c) c.gifts (told_step c place ms)
told_acts j c place ms h ks own = record { user = refl; table = refl; of = refl; runs = λ S t o r. r; goes = inl (record { epoch = refl; last = refl; act = inr (refl, (refl, refl)); sent = h }); seeks = λ k e. inl (record { before = e; running = refl; epoch = refl; last = refl; callee = refl; tries = inl refl; begins = refl }); each = λ S past t r. (refl, tt); seats = λ k. k; keys = ks; from = own }

pub ignores_acts : (j : ℕ) (c : ClientState) (place : ℕ) → Acts j (who_at c) c.gifts (ignores c place)
ignores_acts j c place = told_acts j c place [] tt tt tt

pub answered : (j : ℕ) (S : Script) (code : Code) (o : List Line) → running S (Client j) (lines.Answer (Client j) code ∷ o) ≡ None
answered j S code o = rw (same_node-refl (Client j)) refl

pub ends_acts : (j : ℕ) (gs : List Gift) (c : ClientState) (cache : List CacheEntry) (front : List Line → List Line) (code : Code) (g : Going) → Front j c.table (act_of c) g front → Acts j (who_at c) gs (ends_step (Client j) c cache front code)
ends_acts j gs c cache front code g f = record {
  user = refl;
  table = refl;
  of = f.of (lines.Answer (Client j) code ∷ []) (one_of j true refl);
  runs = λ S t o r. let a : Comes j g S o front = f.comes S t o r in ap (running S (Client j)) (a.on (lines.Answer (Client j) code ∷ [])) ∙ answered j S code a.to;
  goes = inl (record { epoch = refl; last = refl; act = inl refl; sent = tt });
  seeks = λ k e. absurd cc;
  each = λ S past t r. f.each S past (lines.Answer (Client j) code ∷ []) t r (refl, refl) (λ own q. ((refl, record { act = g; runs = q }), tt));
  seats = λ k. k;
  keys = tt;
  from = tt;
}

asking_callee : (c : ClientState) (act : Going) (need : Need) → callee_by c act need ≡ callee_by (asking c act) act need
asking_callee c act gives_back = refl
asking_callee c act need = refl

pub calls_acts : (j : ℕ) (gs : List Gift) (c : ClientState) (act : Going) (front : List Line → List Line) → Front j c.table (act_of c) act front → Acts j (who_at c) gs (calls_step (Client j) c act front)
calls_acts j gs c act front f = record {
  user = refl;
  table = refl;
  of = f.of [] refl;
  runs = λ S t o r. let a : Comes j act S o front = f.comes S t o r in ap (running S (Client j)) (a.on []) ∙ a.runs;
  goes = inr (inl (record { epoch = refl; last = refl; act = act; runs = refl; sent = refl; callee = asking_callee c act (next act) }));
  seeks = λ k e. absurd cc;
  each = λ S past t r. f.each S past [] t r (refl, refl) (λ own q. tt);
  seats = λ k. k;
  keys = (tt, tt);
  from = (record { from = refl; half = λ z. refl; firm = tt; gift = λ z ls. absurd cc }, tt);
}

-- an act that gives promises back asks for no place
locates_not : (g : Going) (o : Operand) → next g ≡ locates o → g.act ≡ acts.GiveUp → ⊥
locates_not g o is e = let no : gives_back ≡ locates o = sym (ap (λ (a : Act). act_needs g.homes a g.reads) e) ∙ is in absurd cc

pub one_of_act : (t : Bool) (a : Act) (o : Operand) → cond t (operands_of a).1 (operands_of a).0 ≡ Some o → a ≡ acts.GiveUp → ⊥
one_of_act true a o is e = let no : None ≡ Some o = sym (ap (λ (x : Act). (operands_of x).1) e) ∙ is in absurd cc
one_of_act false a o is e = let no : None ≡ Some o = sym (ap (λ (x : Act). (operands_of x).0) e) ∙ is in absurd cc

-- it asks where a volume is
pub seeks_acts : (j : ℕ) (gs : List Gift) (c : ClientState) (k : Seek) (cache : List CacheEntry) (front : List Line → List Line) → ((left : Left) → k.left ≡ Some left → is_gone_code left.code ≡ true) → ((left : Left) → k.left ≡ Some left → IsOperandOf k.act k.operand) → (k.left ≡ None → next k.act ≡ locates k.operand) → (k.act.act ≡ acts.GiveUp → ⊥) → Front j c.table (act_of c) k.act front → Acts j (who_at c) gs (seeks_step (Client j) c k cache front)
seeks_acts j gs c k cache front gone its needs asks f = record {
  user = refl;
  table = refl;
  of = f.of [] refl;
  runs = λ S t o r. let a : Comes j k.act S o front = f.comes S t o r in ap (running S (Client j)) (a.on []) ∙ a.runs;
  goes = inr (inr (record { act = refl; sent = ((refl, (refl, asks_lookup k.operand)), tt); how = inr (refl, (refl, (k.operand, refl))) }));
  seeks = λ o e. let same : k ≡ o = some_of k o e in inr (record { running = refl; callee = refl; tries = refl; above = (refl, refl); gone = subst (λ (q : Seek). (left : Left) → q.left ≡ Some left → is_gone_code left.code ≡ true) same gone; its = subst (λ (q : Seek). (left : Left) → q.left ≡ Some left → IsOperandOf q.act q.operand) same its; sent = ap (λ (q : Seek). seek_message (Client j) (seeking_for c k cache) q.operand ∷ []) same; needs = subst (λ (q : Seek). q.left ≡ None → next q.act ≡ locates q.operand) same needs; asks = subst (λ (q : Seek). q.act.act ≡ acts.GiveUp → ⊥) same asks });
  each = λ S past t r. f.each S past [] t r (refl, refl) (λ own q. tt);
  seats = λ k. k;
  keys = (own_seek j (seeking_for c k cache) k refl, tt);
  from = (record { from = refl; half = λ z. refl; firm = tt; gift = λ z ls. absurd cc }, tt);
}

goes_acts : (j : ℕ) (gs : List Gift) (c : ClientState) (front : List Line → List Line) (w : Walked) (need : Need) → next w.act ≡ need → Front j c.table (act_of c) w.act (λ ls. front (looked (Client j) w.looks ls)) → Acts j (who_at c) gs (goes_by (Client j) c front w need)
goes_acts j gs c front w (answers n) is f = ends_acts j gs c w.cache (λ ls. front (looked (Client j) w.looks ls)) _ w.act f
goes_acts j gs c front w (locates o) is f = seeks_acts j gs c (record { act = w.act; operand = o; left = None }) w.cache (λ ls. front (looked (Client j) w.looks ls)) (λ left z. absurd cc) (λ left z. absurd cc) (λ z. is) (locates_not w.act o is) f
goes_acts j gs c front w need is f = calls_acts j gs (record c { cache = w.cache }) w.act (λ ls. front (looked (Client j) w.looks ls)) f

pub walks_acts : (j : ℕ) (gs : List Gift) (c : ClientState) (clock : ℕ) (front : List Line → List Line) (act : Going) (cache : List CacheEntry) → Front j c.table (act_of c) act front → Acts j (who_at c) gs (walks_on (Client j) c clock front act cache)
walks_acts j gs c clock front act cache f =
    let w : Walked = walked (most_reads act) clock act cache in
    goes_acts j gs c front w (next w.act) refl (subst (λ (g : Going). Front j c.table (act_of c) g (λ ls. front (looked (Client j) w.looks ls))) (walked_reads (most_reads act) clock act cache) (then_front j c.table (act_of c) act (read_all w.looks act) front (looked (Client j) w.looks) f (looked_more j act w.looks (walked_needed (most_reads act) clock act cache))))

pub gives_acts : (j : ℕ) (gs : List Gift) (c : ClientState) (front : List Line → List Line) (act : Going) (more : List Gift) → Front j c.table (act_of c) act front → Acts j (who_at c) gs (gives_by (Client j) c front act more)
gives_acts j gs c front act [] f = ends_acts j gs c c.cache front _ act f
gives_acts j gs c front act (g ∷ more) f = calls_acts j gs (record c { gifts = g ∷ more }) act front f

-- the lines of a break's drops leave the act that runs
pub record Quiet (j : ℕ) (ls : List Line) : Type 0 where
  pub of : all_lines (is_of j) ls ≡ true
  pub runs : (S : Script) (o : List Line) → running S (Client j) (onto o ls) ≡ running S (Client j) o
  pub begins : has_begun (Client j) ls ≡ false
  pub each : (S : Script) (past : List Entry) (own : List Line) → AreInPlace S j past own ls

pub drops_quiet : (j : ℕ) (fs : List Fid) → Quiet j (map (drop_line (Client j)) fs)
drops_quiet j [] = record { of = refl; runs = λ S o. refl; begins = refl; each = λ S past own. tt }
drops_quiet j (f ∷ fs) = let q : Quiet j (map (drop_line (Client j)) fs) = drops_quiet j fs in record { of = one_of j _ q.of; runs = λ S o. q.runs S (lines.Drop (Client j) f ∷ o); begins = q.begins; each = λ S past own. (refl, q.each S past (lines.Drop (Client j) f ∷ own)) }

pub replies_acts : (j : ℕ) (x : Who) (gs : List Gift) (c : ClientState) (place : ℕ) (head : Head) (ls : List Line) (y : Carried) → who_at c ≡ x → c.gifts ≡ gs → Quiet j ls → IfCall (IsTheCall j (replies_step c place head ls y).state) (replied c.epoch head y) → head.to ≡ Client j → HasCode y → IsFirm (reply_head c.epoch head) y → Acts j x gs (replies_step c place head ls y)
replies_acts j x gs c place head ls y same gifts q h to code firm = record {
  user = ap (λ (w : Who). w.user) same;
  table = ap (λ (w : Who). w.table) same;
  of = q.of;
  runs = λ S t o r. q.runs S (lines.Given place ∷ o) ∙ (r ∙ sym (ap began_by same));
  goes = inl (record { epoch = ap (λ (w : Who). w.epoch) same; last = ap (λ (w : Who). w.last) same; act = inr (ap (λ (w : Who). w.running) same, (gifts, q.begins)); sent = (h, tt) });
  seeks = λ k e. inl (record { before = sym (ap (λ (w : Who). w.seeking) same) ∙ e; running = ap (λ (w : Who). w.running) same; epoch = ap (λ (w : Who). w.epoch) same; last = ap (λ (w : Who). w.last) same; callee = ap (λ (w : Who). w.callee) same; tries = inl (ap (λ (w : Who). w.tries) same); begins = q.begins });
  each = λ S past t r. (refl, q.each S past (lines.Given place ∷ []));
  seats = λ k. seated (Client j) c.epoch head y c.seats to code firm (subst (AreSeated (Client j)) (sym (ap (λ (w : Who). w.seats) same)) k);
  keys = (code_seek j (replies_step c place head ls y).state (replied c.epoch head y).head y code, tt);
  from = (record { from = to; half = code_half (replied c.epoch head y) code; firm = firm; gift = λ z ls. absurd cc }, tt);
}

pub either_acts : (t : Bool) (j : ℕ) (x : Who) (gs : List Gift) (a b : Step ClientState) → Acts j x gs a → Acts j x gs b → Acts j x gs (cond t a b)
either_acts true j x gs a b h k = h
either_acts false j x gs a b h k = k
