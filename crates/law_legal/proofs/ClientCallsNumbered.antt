-- The calls of a client are numbered one by one in each epoch, however many servers a cell has.
use Rattle.spec_history.specs.declared.acts.Operand.{Operand}
use Rattle.spec_history.specs.declared.scripts.Script.{Script}
use Rattle.law_legal.proofs.ActLines.{Acts, Asks, Rests, last_key, who_at, SeeksOn, SeeksNow}
use Rattle.law_legal.proofs.ActSteps.{begins_acts, falls_acts, given_acts, rises_acts, waits_acts, missed_acts}
use Rattle.law_legal.proofs.BaseLaws.{at_put, same_key-refl}
use Rattle.law_legal.proofs.CallKeysOnce.{IsKnown, any_told, by_key}
use Rattle.law_legal.proofs.ClientLives.{Lived, lived_first, lived_kept}
use Rattle.law_legal.proofs.RunWalk.{Behind, EachMove, IsKept, each_moved}
use Rattle.law_legal.proofs.ActCallsInRuns.{same_key_at, sought_acts_in}
use Rattle.law_legal.proofs.ActCalls.{handed_same}
use Rattle.law_legal.proofs.KeptPasses.{sent_left, sent_right, called_right, called_left}
use Rattle.law_legal.specs.Ideal.{set_up_entry}
use Rattle.law_legal.specs.Legal.{IsInOrder}
use Rattle.law_legal.specs.Past.{has_sent, has_called}
use Rattle.afs_num.specs.declared.messages.Message.{Message}
use Rattle.afs_num.specs.declared.types.Key.{Key}
use Rattle.afs_num.specs.declared.types.Node.TheVariants.{Client}
use Rattle.spec_rows.specs.Callbacks.{put}
use Rattle.spec_rows.specs.ClientRow.{call_message, seek_message}
use Rattle.spec_rows.specs.Going.{ClientState, Going, Seek}
use Rattle.spec_rows.specs.Runs.{Cell, Entry, start}
use Rattle.spec_rows.specs.Steps.{Step}
use Rattle.std.proofs.Common.{arith, ◌+◌, ◌≡◌, ◌⊎◌, ℕ, inl, inr, Bool, true, false, cond, List, [], ◌∷◌, ◌++◌, None, refl, sym, ap, subst, ◌∙◌, Some, Option}

-- it made no call in this epoch, and waits for none; or the last one was sent, and its number goes on from the one before
abbrev pub IsNumbered : ℕ → ClientState → List Message → Type 0
IsNumbered j x sent = ((x.last ≡ 0) × ((x.running ≡ None) × (x.seeking ≡ None))) ⊎ ((has_called (last_key j x) sent ≡ true) × IsInOrder (last_key j x) sent)

order_more : (k : Key) (a b : List Message) → IsInOrder k a → IsInOrder k (a ++ b)
order_more k a b (inl e) = inl e
order_more k a b (inr y) = inr (y.0, (y.1.0, called_left (record k { number = y.0 }) a b y.1.1))

numbered_more : (j : ℕ) (x : ClientState) (a b : List Message) → IsNumbered j x a → IsNumbered j x (a ++ b)
numbered_more j x a b (inl e) = inl e
numbered_more j x a b (inr y) = inr (called_left (last_key j x) a b y.0, order_more (last_key j x) a b y.1)

-- ---- a step of a client

-- where it neither waited for the location database nor asks it now, it waits for it not
none_seeks : (j : ℕ) (c : ClientState) (st : Step ClientState) (p : Option Seek) → Acts j (who_at c) c.gifts st → st.state.seeking ≡ p → ((k : Seek) → SeeksOn j (who_at c) k st → ⊥) → ((k : Seek) → SeeksNow j (who_at c) k st → ⊥) → st.state.seeking ≡ None
none_seeks j c st None a z on now = z
none_seeks j c st (Some k) a z on now = absurd (elim (a.seeks k z) [ inl x ↦ on k x | inr x ↦ now k x ])

not_more : (a b : ℕ) → a ≡ b → a ≡ b + 1 → ⊥
not_more a b e f = absurd (omega (arith, e, f))

rests_numbered : (j : ℕ) (c : ClientState) (st : Step ClientState) (sent : List Message) → Acts j (who_at c) c.gifts st → Rests j (who_at c) c.gifts st → IsNumbered j c sent → IsNumbered j st.state (sent ++ st.sent)
rests_numbered j c st sent a r (inl e) =
    let still : st.state.seeking ≡ None = none_seeks j c st st.state.seeking a refl (λ k x. (let no : None ≡ Some k = sym e.1.1 ∙ x.before in absurd cc)) (λ k x. not_more st.state.last c.last r.last x.above.1) in
    elim r.act [
      | inl none ↦ inl (r.last ∙ e.0, (none, still))
      | inr same ↦ inl (r.last ∙ e.0, (same.0 ∙ e.1.0, still))
    ]
rests_numbered j c st sent a r (inr y) =
    let same : last_key j st.state ≡ last_key j c = same_key_at j c st.state r.epoch r.last in
    inr (subst (λ (k : Key). has_called k (sent ++ st.sent) ≡ true) (sym same) (called_left (last_key j c) sent st.sent y.0), subst (λ (k : Key). IsInOrder k (sent ++ st.sent)) (sym same) (order_more (last_key j c) sent st.sent y.1))

its_own : (j : ℕ) (y : ClientState) (act : Going) → has_called (last_key j y) (call_message (Client j) y act ∷ []) ≡ true
its_own j y act = ap (λ (t : Bool). cond t true false) (same_key-refl (last_key j y))

own_question : (j : ℕ) (y : ClientState) (o : Operand) → has_called (last_key j y) (seek_message (Client j) y o ∷ []) ≡ true
own_question j y o = ap (λ (t : Bool). cond t true false) (same_key-refl (last_key j y))

number_after : (j : ℕ) (c : ClientState) (st : Step ClientState) (more sent : List Message) → st.state.epoch ≡ c.epoch → st.state.last ≡ c.last + 1 → IsNumbered j c sent → IsInOrder (last_key j st.state) (sent ++ more)
number_after j c st more sent epoch last (inl e) = inl (last ∙ ap (λ (k : ℕ). k + 1) e.0)
number_after j c st more sent epoch last (inr y) =
    inr (c.last, (last, subst (λ (e : ℕ). has_called (record { node = Client j; epoch = e; number = c.last }) (sent ++ more) ≡ true) (sym epoch) (called_left (last_key j c) sent more y.0)))

step_numbered : (j : ℕ) (c : ClientState) (st : Step ClientState) (sent : List Message) → Acts j (who_at c) c.gifts st → IsNumbered j c sent → IsNumbered j st.state (sent ++ st.sent)
step_numbered j c st sent a h = elim a.goes [
  | inl r ↦ rests_numbered j c st sent a r h
  | inr y ↦ elim y [
    | inl z ↦ inr (called_right (last_key j st.state) sent st.sent (subst (λ (ms : List Message). has_called (last_key j st.state) ms ≡ true) (sym z.sent) (its_own j st.state z.act)), number_after j c st st.sent sent z.epoch z.last h)
    | inr z ↦ elim z.how [
      | inl f ↦ inl (f.1.0, (z.act, none_seeks j c st st.state.seeking a refl (λ k x. not_more st.state.epoch c.epoch x.epoch f.0) (λ k x. not_more st.state.epoch c.epoch x.above.0 f.0)))
      | inr t ↦ inr (called_right (last_key j st.state) sent st.sent (subst (λ (ms : List Message). has_called (last_key j st.state) ms ≡ true) (sym t.1.1.1) (own_question j st.state t.1.1.0)), number_after j c st st.sent sent t.0 t.1.0 h)
    ]
  ]
]

-- ---- every step

abbrev pub NumbersIn : Cell → List Entry → Type 0
NumbersIn c past = (j : ℕ) → IsNumbered j (c.clients j) c.sent

abbrev pub Numbered : Script → Cell → List Entry → Type 0
Numbered s c past = Lived s c past × NumbersIn c past

client_numbered : (c : Cell) (past : List Entry) (n : ℕ) (st : Step ClientState) → NumbersIn c past → Acts n (who_at (c.clients n)) (c.clients n).gifts st → (j : ℕ) → IsNumbered j (put n st.state c.clients j) (c.sent ++ st.sent)
client_numbered c past n st h a j =
    at_put n j (λ (x : ClientState). IsNumbered j x (c.sent ++ st.sent)) st.state c.clients
    (λ same. subst (λ (i : ℕ). IsNumbered i st.state (c.sent ++ st.sent)) same (step_numbered n (c.clients n) st c.sent a (h n))) (λ other. numbered_more j (c.clients j) c.sent st.sent (h j))

server_numbered : (c : Cell) (past : List Entry) (ms : List Message) → NumbersIn c past → (j : ℕ) → IsNumbered j (c.clients j) (c.sent ++ ms)
server_numbered c past ms h j = numbered_more j (c.clients j) c.sent ms (h j)

numbers_moves : (s : Script) → EachMove (Numbered s) (Behind NumbersIn)
numbers_moves s = record {
  void = λ c past h. h.1;
  ticked = λ c past n h. h.1;
  begun = λ c past n act h r z0. client_numbered c past n _ h.1 (begins_acts n (c.clients n) c.clock act r z0);
  told = λ c past n place m h at to un. client_numbered c past n _ h.1 (given_acts (by_key (IsKnown h.0.0.0.0.keys.callees c.clients)) any_told n (c.clients n) c.clock place m (h.0.0.0.0.keys.replies n) (h.0.0.0.1.seats n));
  sought = λ c past n place m k h at to z e. client_numbered c past n _ h.1 (sought_acts_in s c past n place m k h.0.0.0.1 at z e);
  missed = λ c past n k h r z. client_numbered c past n _ h.1 (missed_acts n (c.clients n) k r z);
  loc = λ c past l ls ms h st. server_numbered c past _ h.1;
  waited = λ c past n act h r. client_numbered c past n _ h.1 (waits_acts n (c.clients n) act r);
  fallen = λ c past n h. client_numbered c past n _ h.1 (falls_acts n c.handed (c.clients n) (handed_same s c past (h.0.0.0.1) n));
  risen = λ c past n h. client_numbered c past n _ h.1 (rises_acts n (c.clients n));
  served = λ c past i place m armed h up at to. server_numbered c past _ h.1;
  cut = λ c past i place m t h up at to. h.1;
  stopped = λ c past i h up. h.1;
  stop_set = λ c past i calls pick armed h up. h.1;
  fail_set = λ c past i call armed h up. h.1;
  timed = λ c past i n b armed h up at. server_numbered c past _ h.1;
  woken = λ c past i armed h up. server_numbered c past _ h.1;
  started = λ c past i after fall h down. server_numbered c past _ h.1;
  early = λ c past i fall h down. h.1;
  midway = λ c past i after fall h down. h.1;
  full = λ c past i after fall h down. h.1;
}

pub numbered_kept : (s : Script) → IsKept (Numbered s)
numbered_kept s c past x so h = (lived_kept s c past x so h.0, each_moved (Numbered s) (Behind NumbersIn) (numbers_moves s) c past x so h)

pub numbered_first : (s : Script) → Numbered s (start s) (set_up_entry s ∷ [])
numbered_first s = (lived_first s, λ j. inl (refl, (refl, refl)))
