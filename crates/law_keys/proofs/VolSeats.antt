-- What a volume server's step does to what its node remembers of callers.
use Rattle.std.proofs.Common.{◌≡◌, ◌⊎◌, inl, inr, ℕ, ℤ, Bool, true, false, cond, List, [], ◌∷◌, Option, Some, None, refl, sym, ap, subst, ◌∙◌, arith}
use Rattle.std.specs.Prelude.{not, ◌&&◌, ◌||◌, filter}
use Rattle.afs_num.specs.Nodes.{same_node}
use Rattle.afs_num.specs.declared.messages.Carried.{Carried}
use Rattle.afs_num.specs.declared.messages.Carried.TheVariants as carried
use Rattle.afs_num.specs.declared.messages.Message.{Message}
use Rattle.afs_num.specs.declared.messages.Received.TheVariants.{Whole}
use Rattle.afs_num.specs.declared.types.Head.{Head}
use Rattle.afs_num.specs.declared.types.Node.{Node}
use Rattle.afs_num.specs.declared.types.Node.TheVariants.{Server}
use Rattle.spec_history.specs.declared.lines.Line.{Line}
use Rattle.spec_ideal.specs.Operations.{is_number}
use Rattle.spec_model.specs.Calls.{call_seat, call_seated, finished, is_sent_again, key_of}
use Rattle.spec_rows.specs.Callbacks.{expired, held_under, is_ready, is_seat_of, key_answered, put_at}
use Rattle.spec_rows.specs.ServerRow.{is_client, seat_for}
use Rattle.spec_rows.specs.States.{durable_of, Backs, Held, Lasting, Seat, ServerState}
use Rattle.spec_rows.specs.Steps.{Begun}
use Rattle.spec_volrows.specs.VolStates.{NodeState, PieceCall, Sending, VolState}
use Rattle.spec_volrows.specs.VolSteps.{answered_by, code_told, deed_done, dispatches, drops, ends_sending, forward_reply, given_up, sending_goes_on, in_progress, is_awaited, piece_gone, next_by, next_piece, piece_timeout_row, queued, repeats, replies_to, saves, sent_whole, tells_boot, vol_answers, vol_begun_after, vol_decides, vol_renews, vol_repeats, vol_rests, vol_row, vol_seated, vol_timed, vol_told, vol_told_by, vol_turn, vol_turned_by, with_transactions, Deed, VolDecision, VolTurn}
use Rattle.law_legal.proofs.BaseLaws.{Above}
use Rattle.law_keys.specs.Ran.{ran_of_vol, that_changed}
use Rattle.law_keys.proofs.Deciding.{vol_decides_so, Decides, MayRun, OfHead, RunsBy}
use Rattle.law_keys.proofs.Memories.{ended_sits, pair, pair_in, pair_of, placed_own, placed_sits, seated_own, seated_sits, Done, Finds, IsAbove, Keeps, Memory, Steps, Stores}

-- ---- what a server node remembers: each half has its own callers

abbrev pub last_at : List Seat → List Seat → Node → Option (ℕ × ℕ)
last_at file vol n = cond (is_client n) (pair_of (call_seat n file)) (pair_of (call_seat n vol))

abbrev pub memory_by : Lasting → List Seat → List Seat → Memory
memory_by l file vol = record { boot = l.boot; last = last_at file vol; kept = λ n. pair_of (call_seat n l.kept) }

abbrev pub memory : NodeState → Memory
memory s = memory_by s.file.lasting s.file.seats s.vol.seats

pub above_pair : (o : Option Seat) (e n : ℕ) → Above o e n → IsAbove (pair_of o) e n
above_pair None e n h = tt
above_pair (Some seat) e n h = h

-- ---- turns that run no call

record Sits (l : Lasting) (v : VolState) (t : VolTurn) : Type 0 where
  lasting : t.lasting ≡ l
  seats : (n : Node) → pair_of (call_seat n t.vol.seats) ≡ pair_of (call_seat n v.seats)

still_sits : (l : Lasting) (v : VolState) (b : Backs) → Sits l v (vol_rests l v b)
still_sits l v b = record { lasting = refl; seats = λ n. refl }

answers_sits : (l : Lasting) (v : VolState) (b : Backs) (ls : List Line) (reply : Message) (waits : List ℕ) (again : Bool) → Sits l v (vol_answers l v b ls reply waits again)
answers_sits l v b ls reply [] again = record { lasting = refl; seats = λ n. refl }
answers_sits l v b ls reply (k ∷ ks) again = record { lasting = refl; seats = λ n. refl }

next_sits_by : (me : Node) (boot : ℕ) (n : Node) (t : VolTurn) (xs : List Sending) (c : Option PieceCall) → Sits t.lasting t.vol (next_by me boot n t xs c)
next_sits_by me boot n t [] c = record { lasting = refl; seats = λ m. refl }
next_sits_by me boot n t (x ∷ xs) (Some c) = record { lasting = refl; seats = λ m. refl }
next_sits_by me boot n t (x ∷ xs) None = record { lasting = refl; seats = λ m. refl }

next_sits : (me : Node) (boot : ℕ) (n : Node) (t : VolTurn) → Sits t.lasting t.vol (next_piece me boot n t)
next_sits me boot n t = next_sits_by me boot n t (t.vol.sendings n) (t.vol.calls n)

one_sits : (l : Lasting) (v : VolState) (b : Bool) (x y : VolTurn) → Sits l v x → Sits l v y → Sits l v (cond b x y)
one_sits l v true x y h k = h
one_sits l v false x y h k = k

repeats_sits : (l : Lasting) (v : VolState) (b : Backs) (reply : Message) (o : Option Held) (good : Bool) → Sits l v (vol_repeats l v b reply o good)
repeats_sits l v b reply (Some h) good = one_sits l v (h.again && is_ready b.lists.owed h) _ _ (answers_sits l v b [] reply [] true) (still_sits l v b)
repeats_sits l v b reply None true = answers_sits l v b [] reply _ true
repeats_sits l v b reply None false = answers_sits l v b [] reply [] true

ends_sits : (me : Node) (l : Lasting) (v : VolState) (b : Backs) (ls : List Line) (n : Node) (xs : List Sending) (x : Sending) (code : ℤ) → Sits l v (ends_sending me l v b ls n xs x code)
ends_sits me l v b ls n xs x code = let z = next_sits me l.boot n (record {
  lasting = l;
  vol = record v { sendings = put_at n xs v.sendings; calls = put_at n None v.calls; seats = finished (key_of x.head) (forward_reply l.boot x.head code) v.seats };
  backs = b;
  lines = ls;
  sent = forward_reply l.boot x.head code ∷ [];
}) in record { lasting = z.lasting; seats = λ m. z.seats m ∙ ended_sits (key_of x.head) (forward_reply l.boot x.head code) v.seats m }

goes_sits : (me : Node) (l : Lasting) (v : VolState) (b : Backs) (n : Node) (xs : List Sending) (x : Sending) → Sits l v (sending_goes_on me l v b n xs x)
goes_sits me l v b n xs x = let z = next_sits me l.boot n (vol_rests l (record v { sendings = put_at n (piece_gone x ∷ xs) v.sendings; calls = put_at n None v.calls }) b) in record { lasting = z.lasting; seats = z.seats }

answered_sits : (me : Node) (l : Lasting) (v : VolState) (b : Backs) (n : Node) (xs : List Sending) (code : ℤ) → Sits l v (answered_by me l v b n xs code)
answered_sits me l v b n [] code = still_sits l v b
answered_sits me l v b n (x ∷ xs) code = one_sits l v (not (is_number code 0) || sent_whole x) _ _ (ends_sits me l v b [] n xs x code) (goes_sits me l v b n xs x)

renews_sits : (me : Node) (l : Lasting) (v : VolState) (b : Backs) (n : Node) (known : ℕ) (c : PieceCall) (xs : List Sending) → Sits l v (vol_renews me l v b n known c xs)
renews_sits me l v b n known c [] = still_sits l v b
renews_sits me l v b n known c (x ∷ xs) = record { lasting = refl; seats = λ m. refl }

told_sits_by : (me : Node) (l : Lasting) (v : VolState) (b : Backs) (head : Head) (c : Carried) (o : Option PieceCall) → Sits l v (vol_told_by me l v b head c o)
told_sits_by me l v b head c None = still_sits l v b
told_sits_by me l v b head carried.Notice (Some p) = one_sits l v (is_awaited l.boot p head) _ _ (renews_sits me l v b head.from head.boot p (v.sendings head.from)) (still_sits l v b)
told_sits_by me l v b head (carried.Call user call) (Some p) = one_sits l v (is_awaited l.boot p head) _ _ (answered_sits me l v b head.from (v.sendings head.from) (code_told (carried.Call user call))) (still_sits l v b)
told_sits_by me l v b head (carried.Refusal code) (Some p) = one_sits l v (is_awaited l.boot p head) _ _ (answered_sits me l v b head.from (v.sendings head.from) (code_told (carried.Refusal code))) (still_sits l v b)
told_sits_by me l v b head (carried.Reply reply) (Some p) = one_sits l v (is_awaited l.boot p head) _ _ (answered_sits me l v b head.from (v.sendings head.from) (code_told (carried.Reply reply))) (still_sits l v b)

told_sits : (me : Node) (l : Lasting) (v : VolState) (b : Backs) (head : Head) (c : Carried) → Sits l v (vol_told me l v b head c)
told_sits me l v b head c = one_sits l v (same_node head.to me) _ _ (told_sits_by me l v b head c (v.calls head.from)) (still_sits l v b)

timed_sits : (me : Node) (l : Lasting) (v : VolState) (b : Backs) (n : Node) (c : PieceCall) (xs : List Sending) → Sits l v (vol_timed me l v b n c xs)
timed_sits me l v b n c [] = still_sits l v b
timed_sits me l v b n c (x ∷ xs) = one_sits l v (is_sent_again c.tries) _ _ (record { lasting = refl; seats = λ m. refl }) (ends_sits me l v b _ n xs x given_up)

-- ---- and what that is to the node's memory

last_same : (b : Bool) (f v w : Option (ℕ × ℕ)) → w ≡ v → cond b f w ≡ cond b f v
last_same b f v w e = ap (λ (x : Option (ℕ × ℕ)). cond b f x) e

sits_keeps : (l : Lasting) (v : VolState) (t : VolTurn) (file : List Seat) → Sits l v t → Keeps (memory_by l file v.seats) (memory_by t.lasting file t.vol.seats)
sits_keeps l v t file h = record {
  boot = ap (λ (k : Lasting). k.boot) h.lasting;
  last = λ n. last_same (is_client n) (pair_of (call_seat n file)) (pair_of (call_seat n v.seats)) (pair_of (call_seat n t.vol.seats)) (h.seats n);
  kept = λ n. ap (λ (k : Lasting). pair_of (call_seat n k.kept)) h.lasting;
}

-- ---- a call that runs

-- of a node that is no client the volume server's seat is its last one
last_by : (b : Bool) (n : Node) (x : Seat) (f v w : Option (ℕ × ℕ)) → ((x.caller ≡ n) × (w ≡ Some (pair x))) ⊎ (w ≡ v) → ((x.caller ≡ n) × (cond b f w ≡ Some (pair x))) ⊎ (cond b f w ≡ cond b f v)
last_by true n x f v w h = inr refl
last_by false n x f v w (inl new) = inl new
last_by false n x f v w (inr same) = inr same

own_last : (b : Bool) (f w : Option (ℕ × ℕ)) (p : ℕ × ℕ) → w ≡ Some p → b ≡ false → cond b f w ≡ Some p
own_last true f w p e is = absurd cc
own_last false f w p e is = e

above_last : (b : Bool) (f v : Option (ℕ × ℕ)) (e n : ℕ) → b ≡ false → IsAbove v e n → IsAbove (cond b f v) e n
above_last true f v e n is h = absurd cc
above_last false f v e n is h = h

abbrev seat_of : Head → Option Message → Seat
seat_of head reply = record { caller = head.from; epoch = head.epoch; number = head.number; reply = reply }

sat : (x : Seat) (seats : List Seat) (n : Node) (w : Option (ℕ × ℕ)) → w ≡ pair_of (call_seat n (call_seated x seats)) → ((x.caller ≡ n) × (w ≡ Some (pair x))) ⊎ (w ≡ pair_of (call_seat n seats))
sat x seats n w e = elim (seated_sits x seats n) [ inl new ↦ inl (new.0, e ∙ new.1) | inr same ↦ inr (e ∙ same) ]

module _ (me : Node) (l : Lasting) (v : VolState) (file : List Seat) where
  abbrev here : Memory
  here = memory_by l file v.seats

  none_stored : (w : List Seat) (head : Head) → Stores here (memory_by l file w) (record { callee = me; boot = l.boot; head = head; changed = false })
  none_stored w head = record { boot = refl; own = λ did. absurd cc; kept = λ n. inr refl }

  deed_stored : (w : List Seat) (head : Head) (x : Deed) → Stores here (memory_by (deed_done head x l) file w) (record { callee = me; boot = l.boot; head = head; changed = true })
  deed_stored w head x = record { boot = refl; own = λ did. placed_own (seat_for head x.reply) l.kept; kept = λ n. placed_sits (seat_for head x.reply) l.kept n }

  -- it takes its caller's seat, be its reply there or not
  takes_done : (k : Lasting) (t : VolTurn) (w : VolState) (head : Head) (reply : Option Message) (changed : Bool) → MayRun me l.boot v.seats head → is_client head.from ≡ false → Sits k w t → w.seats ≡ call_seated (seat_of head reply) v.seats
      → Stores here (memory_by k file t.vol.seats) (record { callee = me; boot = l.boot; head = head; changed = changed })
      → Done me here (memory_by t.lasting file t.vol.seats) (record { callee = me; boot = l.boot; head = head; changed = changed })
  takes_done k t w head reply changed may other sits is stores =
      let seats : (n : Node) → pair_of (call_seat n t.vol.seats) ≡ pair_of (call_seat n (call_seated (seat_of head reply) v.seats)) = λ n. sits.seats n ∙ ap (λ (s : List Seat). pair_of (call_seat n s)) is in
      record {
        runs = record {
          callee = refl;
          boot = refl;
          above = above_last (is_client head.from) (pair_of (call_seat head.from file)) (pair_of (call_seat head.from v.seats)) head.epoch head.number other (above_pair (call_seat head.from v.seats) head.epoch head.number may.1.1);
          named = record { callee = may.0; boot = may.1.0 };
        };
        stores = subst (λ (z : Lasting). Stores here (memory_by z file t.vol.seats) (record { callee = me; boot = l.boot; head = head; changed = changed })) (sym sits.lasting) stores;
        own = own_last (is_client head.from) (pair_of (call_seat head.from file)) (pair_of (call_seat head.from t.vol.seats)) (pair_in head) (seats head.from ∙ seated_own (seat_of head reply) v.seats) other;
        last = λ n. last_by (is_client n) n (seat_of head reply) (pair_of (call_seat n file)) (pair_of (call_seat n v.seats)) (pair_of (call_seat n t.vol.seats)) (sat (seat_of head reply) v.seats n (pair_of (call_seat n t.vol.seats)) (seats n));
      }

  -- what is decided on a call
  turn_steps : (b : Backs) (d : VolDecision) (head : Head) → OfHead l.boot head d → RunsBy me l.boot v.seats head d → is_client head.from ≡ false → Steps me here (memory_by (vol_turn me l v b d).lasting file (vol_turn me l v b d).vol.seats) (ran_of_vol me l.boot d)
  turn_steps b drops head of runs other = sits_keeps l v _ file (still_sits l v b)
  turn_steps b (tells_boot h) head of runs other = sits_keeps l v (vol_turn me l v b (tells_boot h)) file (record { lasting = refl; seats = λ n. refl })
  turn_steps b (repeats reply) head of runs other = sits_keeps l v _ file (repeats_sits l v b reply (held_under (key_answered reply) v.held) (is_seat_of reply (call_seat reply.head.to l.kept)))
  turn_steps b (replies_to h reply ts last) head of runs other =
      let t : VolTurn = vol_turn me l v b (replies_to h reply ts last) in
      takes_done l t (vol_seated h reply (with_transactions ts last v)) h (Some reply) false (subst (MayRun me l.boot v.seats) (sym of.0) runs) (subst (λ (x : Head). is_client x.from ≡ false) (sym of.0) other)
      (answers_sits l (vol_seated h reply (with_transactions ts last v)) b [] reply [] false) refl (none_stored t.vol.seats h)
  turn_steps b (dispatches h x) head of runs other =
      let w : VolState = queued h x (in_progress h v) in
      let t : VolTurn = vol_turn me l v b (dispatches h x) in
      let z = next_sits me l.boot (Server x.server) (vol_rests l w b) in
      takes_done l t w h None false (subst (MayRun me l.boot v.seats) (sym of) runs) (subst (λ (y : Head). is_client y.from ≡ false) (sym of) other) (record { lasting = z.lasting; seats = z.seats }) refl (none_stored t.vol.seats h)
  turn_steps b (saves h x) head of runs other =
      let w : VolState = vol_seated h x.reply (with_transactions x.transactions x.last v) in
      let t : VolTurn = vol_turn me l v b (saves h x) in
      let z = answers_sits (deed_done h x l) w _ _ x.reply _ false in
      takes_done (deed_done h x l) t w h (Some x.reply) true (subst (MayRun me l.boot v.seats) (sym of.0) runs) (subst (λ (y : Head). is_client y.from ≡ false) (sym of.0) other) (record { lasting = z.lasting; seats = z.seats }) refl (deed_stored t.vol.seats h x)

-- ---- its steps

turned_steps : (me : Node) (s : NodeState) (clock : ℕ) (head : Head) (c : Carried) → is_client head.from ≡ false
    → Steps me (memory s) (memory_by (vol_turned_by me s.file.lasting s.vol (expired clock s.file.backs) (vol_decides me (durable_of s.file.lasting) s.vol (Whole (record { head = head; carried = c }))) head c).lasting s.file.seats
    (vol_turned_by me s.file.lasting s.vol (expired clock s.file.backs) (vol_decides me (durable_of s.file.lasting) s.vol (Whole (record { head = head; carried = c }))) head c).vol.seats)
    (ran_of_vol me s.file.lasting.boot (vol_decides me (durable_of s.file.lasting) s.vol (Whole (record { head = head; carried = c }))))
turned_steps me s clock head (carried.Call user call) other =
    let m : Message = record { head = head; carried = carried.Call user call } in
    let k : Decides me (durable_of s.file.lasting) s.vol head _ = vol_decides_so me (durable_of s.file.lasting) s.vol m in
    turn_steps me s.file.lasting s.vol s.file.seats (expired clock s.file.backs) (vol_decides me (durable_of s.file.lasting) s.vol (Whole m)) head k.of k.runs other
turned_steps me s clock head (carried.Refusal code) other = sits_keeps s.file.lasting s.vol _ s.file.seats (told_sits me s.file.lasting s.vol (expired clock s.file.backs) head (carried.Refusal code))
turned_steps me s clock head (carried.Reply reply) other = sits_keeps s.file.lasting s.vol _ s.file.seats (told_sits me s.file.lasting s.vol (expired clock s.file.backs) head (carried.Reply reply))
turned_steps me s clock head carried.Notice other = sits_keeps s.file.lasting s.vol _ s.file.seats (told_sits me s.file.lasting s.vol (expired clock s.file.backs) head carried.Notice)

pub vol_steps : (me : Node) (s : NodeState) (clock place : ℕ) (m : Message) → is_client m.head.from ≡ false
    → Steps me (memory s) (memory (vol_row me s clock place (Whole m)).state) (ran_of_vol me s.file.lasting.boot (vol_decides me (durable_of s.file.lasting) s.vol (Whole m)))
vol_steps me s clock place m other = turned_steps me s clock m.head m.carried other

pub piece_keeps : (me : Node) (s : NodeState) (clock : ℕ) (n : Node) (c : PieceCall) → Keeps (memory s) (memory (piece_timeout_row me s clock n c).state)
unfolding piece_timeout_row
piece_keeps me s clock n c = sits_keeps s.file.lasting s.vol _ s.file.seats (timed_sits me s.file.lasting s.vol (expired clock s.file.backs) n c (s.vol.sendings n))

-- ---- an interrupted step whose record is found

abbrev pub cut_memory : NodeState → Begun ServerState → Memory
cut_memory s f = memory_by f.state.lasting f.state.seats s.vol.seats

pub vol_finds_by : (me : Node) (s : NodeState) (d : VolDecision) (head : Head) → OfHead s.file.lasting.boot head d → RunsBy me s.file.lasting.boot s.vol.seats head d → is_client head.from ≡ false
    → Finds me (memory s) (cut_memory s (vol_begun_after me s.file d)) (filter that_changed (ran_of_vol me s.file.lasting.boot d))
vol_finds_by me s drops head of runs other = record { boot = omega (arith); kept = λ n. refl }
vol_finds_by me s (tells_boot h) head of runs other = record { boot = omega (arith); kept = λ n. refl }
vol_finds_by me s (repeats reply) head of runs other = record { boot = omega (arith); kept = λ n. refl }
vol_finds_by me s (replies_to h reply ts last) head of runs other = record { boot = omega (arith); kept = λ n. refl }
vol_finds_by me s (dispatches h x) head of runs other = record { boot = omega (arith); kept = λ n. refl }
vol_finds_by me s (saves h x) head of runs other =
    let may : MayRun me s.file.lasting.boot s.vol.seats h = subst (MayRun me s.file.lasting.boot s.vol.seats) (sym of.0) runs in
    let not_client : is_client h.from ≡ false = subst (λ (y : Head). is_client y.from ≡ false) (sym of.0) other in
    record {
      runs = record {
        callee = refl;
        boot = refl;
        above = above_last (is_client h.from) (pair_of (call_seat h.from s.file.seats)) (pair_of (call_seat h.from s.vol.seats)) h.epoch h.number not_client (above_pair (call_seat h.from s.vol.seats) h.epoch h.number may.1.1);
        named = record { callee = may.0; boot = may.1.0 };
      };
      stores = record { boot = refl; own = λ did. placed_own (seat_for h x.reply) s.file.lasting.kept; kept = λ n. placed_sits (seat_for h x.reply) s.file.lasting.kept n };
    }

pub vol_finds : (me : Node) (s : NodeState) (m : Message) → is_client m.head.from ≡ false
    → Finds me (memory s) (cut_memory s (vol_begun_after me s.file (vol_decides me (durable_of s.file.lasting) s.vol (Whole m)))) (filter that_changed (ran_of_vol me s.file.lasting.boot (vol_decides me (durable_of s.file.lasting) s.vol (Whole m))))
vol_finds me s m other =
    let k : Decides me (durable_of s.file.lasting) s.vol m.head _ = vol_decides_so me (durable_of s.file.lasting) s.vol m in
    vol_finds_by me s (vol_decides me (durable_of s.file.lasting) s.vol (Whole m)) m.head k.of k.runs other
