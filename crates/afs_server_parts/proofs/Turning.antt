-- A plan is the turn of its row.
use Rattle.std.proofs.Common.{◌≡◌, ℕ, Bool, true, false, cond, ◌&&◌, List, [], ◌∷◌, ◌++◌, not, Option, Some, None, refl, sym, ap, subst, ◌∙◌, append_assoc}
use Rattle.std.specs.Prelude.{filter, is_some}
use Rattle.std.proofs.lemmas.List.{map-append}
use Rattle.std.proofs.lemmas.List.Elements.{filter-append}
use Rattle.afs_num.specs.declared.types.Node.{Node}
use Rattle.afs_num.specs.declared.messages.Message.{Message}
use Rattle.spec_model.specs.Calls.{is_sent_again}
use Rattle.spec_history.specs.declared.lines.Line.{Line}
use Rattle.spec_breaks.specs.Promises.{Lists, break_ended}
use Rattle.spec_breaks.specs.declared.types.OwedBreak.{OwedBreak}
use Rattle.spec_rows.specs.Callbacks as row
use Rattle.spec_rows.specs.Callbacks.{ends_all, given_out, held_after, is_ready, replies_of, starts_by, no_turn, Started}
use Rattle.spec_rows.specs.States.{BackCall, Backs, Held}
use Rattle.afs_callees.specs.Called.{call_to, known_to}
use Rattle.afs_server_parts.specs.declared.turns.Calls.{Calls}
use Rattle.afs_server_parts.specs.declared.turns.Turn.{Turn}
use Rattle.afs_server_parts.specs.Turning.{backs_with, breaks_left, started_with, turn_with, waits_again, IsFresh, IsTurn}

pub ends_owed : (bs : List OwedBreak) (l : Lists) → (ends_all bs l).owed ≡ breaks_left bs l.owed
ends_owed [] l = refl
ends_owed (b ∷ bs) l = ends_owed bs (break_ended b.number l)

-- part by part
pub turn_is : (l : Lists) (t : Turn) (k : ℕ) (cs : Node → Option BackCall) (kn : Node → ℕ) (hs : List Held) (ls : List Line) (ms : List Message) (os : List Held) →
    l.owed ≡ t.owed.items → t.calls.last ≡ k → call_to t.calls.callees.items ≡ cs → known_to t.calls.callees.items ≡ kn → t.held ≡ hs → t.lines ≡ ls → t.calls.sent ≡ ms → t.outs ≡ os →
    IsTurn (record { backs = record { lists = l; last_call = k; calls = cs; known = kn; held = hs }; lines = ls; sent = ms; outs = os }) t
turn_is l t k cs kn hs ls ms os o a b c d e f g = record {
  owed = o;
  same = λ i. record { backs = record { lists = l; last_call = a i; calls = b i; known = c i; held = d i }; lines = e i; sent = f i; outs = g i };
}

pub started_is : (l : Lists) (hs : List Held) (c : Calls) (k : ℕ) (cs : Node → Option BackCall) (kn : Node → ℕ) (ms : List Message) →
    c.last ≡ k → call_to c.callees.items ≡ cs → known_to c.callees.items ≡ kn → c.sent ≡ ms →
    started_with l hs c ≡ record { backs = record { lists = l; last_call = k; calls = cs; known = kn; held = hs }; sent = ms }
started_is l hs c k cs kn ms a b d e = λ i. record { backs = record { lists = l; last_call = a i; calls = b i; known = d i; held = hs }; sent = e i }

-- a plan in which nothing happens, as its parts
pub fresh_of : (b : Backs) (t : Turn) → IsTurn (no_turn b) t → IsFresh t
fresh_of b t is = record { lines = ap (λ (x : row.CallbackStep). x.lines) is.same; sent = ap (λ (x : row.CallbackStep). x.sent) is.same; outs = ap (λ (x : row.CallbackStep). x.outs) is.same }

pub backs_of : (b : Backs) (t : Turn) → IsTurn (no_turn b) t → backs_with b.lists t.held t.calls ≡ b
backs_of b t is = ap (λ (x : row.CallbackStep). x.backs) is.same

pub turned : (f : Backs → row.CallbackStep) (b : Backs) (t u : Turn) → IsTurn (no_turn b) t → ((l : Lists) → l.owed ≡ t.owed.items → IsTurn (f (backs_with l t.held t.calls)) u) → IsTurn (f b) u
turned f b t u is h = subst (λ (x : Backs). IsTurn (f x) u) (backs_of b t is) (h b.lists is.owed)

-- ---- the replies that wait no more

-- what is sent and what still waits, as the code goes through both lists
pub released : (l : Lists) (t : Turn) (hs : List Held) (u : Calls) → l.owed ≡ t.owed.items → u.last ≡ t.calls.last → call_to u.callees.items ≡ call_to t.calls.callees.items → known_to u.callees.items ≡ known_to t.calls.callees.items →
    u.sent ≡ (t.calls.sent ++ replies_of (filter (is_ready t.owed.items) t.outs)) ++ replies_of (filter (is_ready t.owed.items) t.held) →
    hs ≡ filter (λ (h : Held). not (is_ready t.owed.items h)) t.held ++ filter (λ (h : Held). not (is_ready t.owed.items h)) t.outs →
    started_with l hs u ≡ record { backs = held_after (turn_with l t); sent = given_out (turn_with l t) }
released l t hs u o a b c sent held =
    let ready : t.calls.sent ++ replies_of (filter (is_ready t.owed.items) (t.outs ++ t.held)) ≡ u.sent =
    ap (λ (xs : List Held). t.calls.sent ++ replies_of xs) (filter-append (is_ready t.owed.items) t.outs t.held)
    ∙ (ap (λ (ms : List Message). t.calls.sent ++ ms) (map-append (λ (h : Held). h.reply) (filter (is_ready t.owed.items) t.outs) (filter (is_ready t.owed.items) t.held))
    ∙ (sym (append_assoc t.calls.sent (replies_of (filter (is_ready t.owed.items) t.outs)) (replies_of (filter (is_ready t.owed.items) t.held))) ∙ sym sent)) in
    let given : t.calls.sent ++ replies_of (filter (is_ready l.owed) (t.outs ++ t.held)) ≡ u.sent =
    ap (λ (os : List OwedBreak). t.calls.sent ++ replies_of (filter (is_ready os) (t.outs ++ t.held))) o ∙ ready in
    let waits : filter (λ (h : Held). not (is_ready l.owed h)) (t.held ++ t.outs) ≡ hs =
    ap (λ (os : List OwedBreak). filter (λ (h : Held). not (is_ready os h)) (t.held ++ t.outs)) o
    ∙ (filter-append (λ (h : Held). not (is_ready t.owed.items h)) t.held t.outs ∙ sym held) in
    λ i. record { backs = record { lists = l; last_call = a i; calls = b i; known = c i; held = sym waits i }; sent = sym given i }

-- ---- a node that has no unanswered call

pub not_waiting : (o : Option BackCall) → is_some o ≡ false → o ≡ None
not_waiting None e = refl
not_waiting (Some c) e = absurd cc

-- ---- a kept reply that is asked again

abbrev numbers : {A : Type 0} → A → Option A
numbers x = Some x

numbers_of : {A : Type 0} (x y : A) → numbers x ≡ numbers y → x ≡ y
numbers_of x y e = cc

asks_by : (t : Bool) (b : Backs) (m : Message) (ws w : List ℕ) → cond t (Some ws) None ≡ Some w → cond t (row.asked_again b m ws) (no_turn b) ≡ row.asked_again b m w
asks_by true b m ws w e = ap (row.asked_again b m) (numbers_of ws w e)
asks_by false b m ws w e = absurd cc

asks_at : (b : Backs) (m : Message) (o : Option Held) (good : Bool) (w : List ℕ) → waits_again b.lists.owed o good ≡ Some w → row.repeats_by b m o good ≡ row.asked_again b m w
asks_at b m (Some h) good w e = asks_by (h.again && is_ready b.lists.owed h) b m h.waits w e
asks_at b m None true w e = ap (row.asked_again b m) (numbers_of (row.alls b.lists.owed) w e)
asks_at b m None false w e = ap (row.asked_again b m) (numbers_of [] w e)

pub asks_again : (t : Turn) (b : Backs) (os : List OwedBreak) (m : Message) (o : Option Held) (good : Bool) (w : List ℕ) → b.lists.owed ≡ os → waits_again os o good ≡ Some w → IsTurn (row.asked_again b m w) t → IsTurn (row.repeats_by b m o good) t
asks_again t b os m o good w q e is = subst (λ (x : row.CallbackStep). IsTurn x t) (sym (asks_at b m o good w (ap (λ (xs : List OwedBreak). waits_again xs o good) q ∙ e))) is

-- ---- a timeout that isn't the last, and the last

pub timed_first : (me : Node) (boot : ℕ) (n : Node) (c : BackCall) (b : Backs) (t : Turn) → is_sent_again c.tries ≡ true → IsTurn (row.retries me boot n c b) t → IsTurn (row.call_timed_out me boot n c b) t
timed_first me boot n c b t first is = subst (λ (x : Bool). IsTurn (cond x (row.retries me boot n c b) (row.quits me boot n c b)) t) (sym first) is

pub timed_last : (me : Node) (boot : ℕ) (n : Node) (c : BackCall) (b : Backs) (t : Turn) → is_sent_again c.tries ≡ false → IsTurn (row.quits me boot n c b) t → IsTurn (row.call_timed_out me boot n c b) t
timed_last me boot n c b t last is = subst (λ (x : Bool). IsTurn (cond x (row.retries me boot n c b) (row.quits me boot n c b)) t) (sym last) is
