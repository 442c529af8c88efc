use Rattle.law_legal.specs.Grants.{IsChangedByOther}
use Rattle.law_legal.proofs.VolumeEdits.{touches}
use Rattle.spec_breaks.specs.declared.types.Promise.{Promise}
use Rattle.spec_breaks.specs.Promises.{is_promise, with_promise, is_hit, owes_from}
use Rattle.law_legal.proofs.PromiseLists.{Owed, hits, staying, with_promises, without_promises, owes_all, risen_as}
use Rattle.std.proofs.Common.{◌≡◌, ◌+◌, ◌≤◌, ◌⊎◌, inl, inr, Bool, true, false, cond, ℕ, zero, suc, List, [], ◌∷◌, ◌++◌, Option, Some, None, refl, sym, ap, subst, ◌∙◌, arith, eq-eqb, append-nil}
use Rattle.std.specs.Prelude.{map, filter, not, ◌&&◌, length}
use Rattle.std.proofs.Math.Nat.{le_refl, le_trans}
use Rattle.afs_num.specs.Fids.{same_fid}
use Rattle.afs_num.specs.Nodes.{same_node}
use Rattle.afs_num.specs.declared.types.Fid.{Fid}
use Rattle.afs_num.specs.declared.types.Key.{Key}
use Rattle.afs_num.specs.declared.types.Node.{Node}
use Rattle.afs_num.specs.declared.types.Node.TheVariants.{Client}
use Rattle.afs_num.specs.declared.messages.Message.{Message}
use Rattle.spec_ideal.specs.Operations.{Found}
use Rattle.law_legal.proofs.OwedPasses.{unbroken_back, unbroken_last, Stepping, all_lines, is_up, is_still, is_oweless, is_unchanging, is_still_to, grant_back_to, stopped_back, front_onto, owes_over, ended_over, calls_same, backed_step, seated_over, waits_over, owed_over, call_over, live_back, zero_back, live_given, before_own, rising_back, head_same, tail_same}
use Rattle.law_legal.proofs.BaseLaws.{both, same_node-true, same_node-refl, same_fid-refl, same_fid-true, Above, IfBack, IfDone, each_map, if_back, if_done, some_of}
use Rattle.law_legal.proofs.OwedFacts.{AllOf, all_map, all_both, all_filter, IsGranted, IsIn, IsNumberIn, AccountedBy, WaitedBy, HeldWaits, IsOwed, BackIn, DoneIn, BackedIn, Promised, IsPromised, promise_to, Numbered, IsClient, Rising, ToClients, is_held}
use Rattle.law_legal.proofs.OwedTurns.{IsServing, loaded, kept_in}
use Rattle.law_legal.specs.Breaks.{unbroken_until, promised_until, expiry_of, kept_until, HasOwe, last_number, lines_with_gifts, drops_of, HasStopped}
use Rattle.spec_rows.specs.Callbacks.{alls, break_numbers, is_reply_to, key_answered, owe_line}
use Rattle.law_legal.specs.Ideal.{clock_of}
use Rattle.law_legal.specs.Legal.{IsUnbroken, HasRisen, HasChange, AreGood, IsChanged}
use Rattle.spec_history.specs.declared.lines.Line.{Line}
use Rattle.law_legal.specs.Past.{onto, lines_of, sent_of, given_message, called_key, IsCallUnder}
use Rattle.spec_rows.specs.Runs.{Entry, Fall}
use Rattle.spec_rows.specs.ServerRow.{granted, promise_ticks}
use Rattle.spec_rows.specs.States.{Seat, Held, Backs}
use Rattle.spec_model.specs.Calls.{call_seat}
use Rattle.afs_num.specs.declared.histories.Version.{Version}
use Rattle.spec_history.specs.declared.scripts.Script.{Script}
use Rattle.afs_num.specs.declared.histories.Actor.TheVariants as actors
use Rattle.spec_history.specs.declared.lines.Line.TheVariants as lines
use Rattle.law_legal.proofs.OwedLoad.{NewReply, all_granted, all_waited, down_zero, held_here, held_next, in_all, key_held, more_held, own_past, two_all}

-- ---- new breaks

pub lines_both : (q : Line → Bool) (a b : List Line) → all_lines q a ≡ true → all_lines q b ≡ true → all_lines q (a ++ b) ≡ true
lines_both q [] b h k = k
lines_both q (l ∷ a) b h k = let x = both (q l) (all_lines q a) h in rw (x.0, lines_both q a b x.1 k) refl

lines_front : (q : Line → Bool) (a b : List Line) → all_lines q (a ++ b) ≡ true → all_lines q a ≡ true
lines_front q [] b h = refl
lines_front q (l ∷ a) b h = let x = both (q l) (all_lines q (a ++ b)) h in rw (x.0, lines_front q a b x.1) refl

pub owes_up : (me : Node) (os : List Owed) → all_lines (is_up me) (map (owe_line me) os) ≡ true
owes_up me [] = refl
owes_up me (o ∷ os) = owes_up me os

pub owes_still : (me : Node) (os : List Owed) → all_lines is_still (map (owe_line me) os) ≡ true
owes_still me [] = refl
owes_still me (o ∷ os) = owes_still me os

pub owes_still_to : (me : Node) (c : Node) (os : List Owed) → all_lines (is_still_to c) (map (owe_line me) os) ≡ true
owes_still_to me c [] = refl
owes_still_to me c (o ∷ os) = owes_still_to me c os

pub owes_unchanging : (me : Node) (os : List Owed) → all_lines is_unchanging (map (owe_line me) os) ≡ true
owes_unchanging me [] = refl
owes_unchanging me (o ∷ os) = owes_unchanging me os

-- the clock doesn't rise
abbrev pub is_tickless : Line → Bool
is_tickless (lines.Tick n) = false
is_tickless l = true

pub owes_tickless : (me : Node) (os : List Owed) → all_lines is_tickless (map (owe_line me) os) ≡ true
owes_tickless me [] = refl
owes_tickless me (o ∷ os) = owes_tickless me os

pub tick_before : (l : Line) (o : List Line) → is_tickless l ≡ true → clock_of (l ∷ o) ≡ clock_of o
tick_before (lines.Tick n) o h = absurd cc
tick_before l o h = refl

pub clock_back : (ls o : List Line) → all_lines is_tickless ls ≡ true → clock_of (onto o ls) ≡ clock_of o
clock_back [] o h = refl
clock_back (l ∷ ls) o h = let q = both (is_tickless l) (all_lines is_tickless ls) h in clock_back ls (l ∷ o) q.1 ∙ tick_before l o q.0

record OweFound (os : List Owed) (c : Node) (what : Option Fid) (n : ℕ) : Type 0 where
  o : Owed
  is_in : IsIn o os
  client : o.client ≡ c
  on : o.what ≡ what
  number : o.number ≡ n

owe_same : (me : Node) (o : Owed) (c : Node) (what : Option Fid) (n : ℕ) → owe_line me o ≡ lines.Owe me c what n → (o.client ≡ c) × ((o.what ≡ what) × (o.number ≡ n))
owe_same me o c what n e = (cc, (cc, cc))

found_in : (me : Node) (os : List Owed) (before after : List Line) (c : Node) (what : Option Fid) (n : ℕ) → map (owe_line me) os ≡ before ++ lines.Owe me c what n ∷ after → OweFound os c what n
found_in me [] [] after c what n e = absurd cc
found_in me [] (x ∷ before) after c what n e = absurd cc
found_in me (o ∷ os) [] after c what n e = let q = owe_same me o c what n (head_same (owe_line me o) _ _ after e) in record { o = o; is_in = inl refl; client = q.0; on = q.1.0; number = q.1.1 }
found_in me (o ∷ os) (x ∷ before) after c what n e = let f : OweFound os c what n = found_in me os before after c what n (tail_same (owe_line me o) x _ _ e) in record { o = f.o; is_in = inr f.is_in; client = f.client; on = f.on; number = f.number }

owes_found : (me : Node) (pre : List Line) (os : List Owed) (before after : List Line) (c : Node) (what : Option Fid) (n : ℕ) → all_lines is_oweless pre ≡ true → pre ++ map (owe_line me) os ≡ before ++ lines.Owe me c what n ∷ after → OweFound os c what n
owes_found me [] os before after c what n h e = found_in me os before after c what n e
owes_found me (l ∷ pre) os [] after c what n h e = let a : is_oweless l ≡ false = ap is_oweless (head_same l _ _ after e) in let b = (both (is_oweless l) (all_lines is_oweless pre) h).0 in absurd cc
owes_found me (l ∷ pre) os (x ∷ before) after c what n h e = owes_found me pre os before after c what n (both (is_oweless l) (all_lines is_oweless pre) h).1 (tail_same l x _ _ e)

pub onto_both : (o a b : List Line) → onto o (a ++ b) ≡ onto (onto o a) b
onto_both o [] b = refl
onto_both o (l ∷ a) b = onto_both (l ∷ o) a b

-- each stands in its entry
owes_at : (me : Node) (os : List Owed) (base : List Line) → AllOf (λ (o : Owed). IsOwed me o.client (onto base (map (owe_line me) os)) o) os
owes_at me [] base = tt
owes_at me (o ∷ os) base = (
  record { newer = onto [] (map (owe_line me) os); base = base; split = front_onto [] (owe_line me o ∷ base) (map (owe_line me) os); up = λ x. stopped_back me (map (owe_line me) os) [] (owes_up me os) x },
  owes_at me os (owe_line me o ∷ base),
)

in_second : (o : Owed) (a b : List Owed) → IsIn o b → IsIn o (a ++ b)
in_second o [] b h = h
in_second o (x ∷ a) b h = inr (in_second o a b h)

in_front : (o : Owed) (a b : List Owed) → IsIn o a → IsIn o (a ++ b)
in_front o [] b h = absurd h
in_front o (x ∷ a) b (inl e) = inl e
in_front o (x ∷ a) b (inr h) = inr (in_front o a b h)

pub number_of : (o : Owed) (os : List Owed) (n : ℕ) → IsIn o os → o.number ≡ n → IsNumberIn n (break_numbers os)
number_of o [] n h e = absurd h
number_of o (x ∷ os) n (inl q) e = inl (ap (λ (z : Owed). z.number) q ∙ e)
number_of o (x ∷ os) n (inr h) e = inr (number_of o os n h e)

pub number_front : (n : ℕ) (a b : List ℕ) → IsNumberIn n a → IsNumberIn n (a ++ b)
number_front n [] b h = absurd h
number_front n (k ∷ a) b (inl e) = inl e
number_front n (k ∷ a) b (inr h) = inr (number_front n a b h)

pub number_second : (n : ℕ) (a b : List ℕ) → IsNumberIn n b → IsNumberIn n (a ++ b)
number_second n [] b h = h
number_second n (k ∷ a) b h = inr (number_second n a b h)

reply_to_key : (k : Key) (m : Message) → key_answered m ≡ k → is_reply_to k m ≡ true
reply_to_key k m e = subst (λ (z : Key). is_reply_to z m ≡ true) e (rw (same_node-refl m.head.to, eq-eqb m.head.epoch m.head.epoch refl, eq-eqb m.head.number m.head.number refl) refl)

held_last : (k : Key) (hs : List Held) (hd : Held) → key_answered hd.reply ≡ k → is_held k (hs ++ hd ∷ []) ≡ true
held_last k [] hd e = held_here (is_reply_to k hd.reply) false (reply_to_key k hd.reply e)
held_last k (h ∷ hs) hd e = held_next (is_reply_to k h.reply) (is_held k (hs ++ hd ∷ [])) (held_last k hs hd e)

-- a break on a fid that ends with the last grant
-- a promise to another client
abbrev pub IsOfOther : Node → Promise → Type 0
IsOfOther n p = p.client ≡ n → ⊥

other_by : (a b : Bool) (n : Node) (p : Promise) → same_node p.client n ≡ b → (a && not b) ≡ true → IsOfOther n p
other_by a true n p e h = let z = both a false h in absurd cc
other_by a false n p e h = λ q. let yes : same_node p.client n ≡ true = ap (λ (m : Node). same_node m n) q ∙ same_node-refl n in absurd cc

first_other : (t : Bool) (n : Node) (p : Promise) (ps : List Promise) → (t ≡ true → IsOfOther n p) → AllOf (IsOfOther n) ps → AllOf (IsOfOther n) (cond t (p ∷ ps) ps)
first_other true n p ps w h = (w refl, h)
first_other false n p ps w h = h

hit_other : (n : Node) (f : Fid) (ps : List Promise) → AllOf (IsOfOther n) (filter (is_hit n f) ps)
hit_other n f [] = tt
hit_other n f (p ∷ ps) = first_other (is_hit n f p) n p (filter (is_hit n f) ps) (λ t. other_by (same_fid p.fid f) (same_node p.client n) n p refl t) (hit_other n f ps)

-- what a client's change withdraws are promises to others
pub hits_other : (n : Node) (vs : List Version) (ps : List Promise) → AllOf (IsOfOther n) (hits n vs ps)
hits_other n [] ps = tt
hits_other n (v ∷ vs) ps = all_both (IsOfOther n) (filter (is_hit n v.fid) ps) (hits n vs (filter (λ p. not (is_hit n v.fid p)) ps)) (hit_other n v.fid ps) (hits_other n vs (filter (λ p. not (is_hit n v.fid p)) ps))

that_one : (P : Promise → Type 0) (t : Bool) (p : Promise) (ps : List Promise) → (t ≡ true → P p) → AllOf P ps → AllOf P (cond t (p ∷ ps) ps)
that_one P true p ps w h = (w refl, h)
that_one P false p ps w h = h

-- and on what changed
abbrev pub IsHit : Node → List Version → Promise → Type 0
IsHit n vs p = (touches p.fid vs ≡ true) × IsOfOther n p

hit_here : (n : Node) (v : Version) (vs : List Version) (ps : List Promise) → AllOf (IsHit n (v ∷ vs)) (filter (is_hit n v.fid) ps)
hit_here n v vs [] = tt
hit_here n v vs (p ∷ ps) = that_one (IsHit n (v ∷ vs)) (is_hit n v.fid p) p (filter (is_hit n v.fid) ps)
    (λ t. (let e : p.fid ≡ v.fid = same_fid-true p.fid v.fid (both (same_fid p.fid v.fid) (not (same_node p.client n)) t).0 in rw (ap (λ (f : Fid). same_fid v.fid f) e ∙ same_fid-refl v.fid) refl, other_by (same_fid p.fid v.fid) (same_node p.client n) n p refl t)) (hit_here n v vs ps)

touched_more : (t : Bool) (u : Bool) → u ≡ true → cond t true u ≡ true
touched_more true u e = refl
touched_more false u e = e

pub hits_hit : (n : Node) (vs : List Version) (ps : List Promise) → AllOf (IsHit n vs) (hits n vs ps)
hits_hit n [] ps = tt
hits_hit n (v ∷ vs) ps = all_both (IsHit n (v ∷ vs)) (filter (is_hit n v.fid) ps) (hits n vs (filter (λ p. not (is_hit n v.fid p)) ps)) (hit_here n v vs ps)
    (all_map (IsHit n vs) (IsHit n (v ∷ vs)) (λ p x. (touched_more (same_fid v.fid p.fid) (touches p.fid vs) x.0, x.1)) (hits n vs (filter (λ p. not (is_hit n v.fid p)) ps)) (hits_hit n vs (filter (λ p. not (is_hit n v.fid p)) ps)))

pub record NewOwe (me : Node) (n : Node) (ls : List Line) (o : Owed) : Type 0 where
  pub other : o.client ≡ n → ⊥
  pub fid : Fid
  pub on : o.what ≡ Some fid
  pub granted : promised_until me o.client fid ls ≡ Some o.expiry

pub all_new : (me : Node) (n : Node) (ls : List Line) (k : ℕ) (ps : List Promise) → AllOf (IsGranted me ls) ps → AllOf (IsOfOther n) ps → AllOf (NewOwe me n ls) (owes_from k ps)
all_new me n ls k [] h o = tt
all_new me n ls k (p ∷ ps) h o = (record { other = o.0; fid = p.fid; on = refl; granted = unbroken_last me p.client p.fid p.expiry ls h.0 }, all_new me n ls (k + 1) ps h.1 o.1)

-- of the promises some are withdrawn, and the others stay
pub all_hits : (P : Promise → Type 0) (n : Node) (vs : List Version) (ps : List Promise) → AllOf P ps → AllOf P (hits n vs ps)
all_hits P n [] ps h = tt
all_hits P n (v ∷ vs) ps h = all_both P (filter (is_hit n v.fid) ps) (hits n vs (filter (λ p. not (is_hit n v.fid p)) ps)) (all_filter P (is_hit n v.fid) ps h) (all_hits P n vs (filter (λ p. not (is_hit n v.fid p)) ps) (all_filter P (λ p. not (is_hit n v.fid p)) ps h))

pub all_left : (P : Promise → Type 0) (n : Node) (vs : List Version) (ps : List Promise) → AllOf P ps → AllOf P (staying n vs ps)
all_left P n [] ps h = h
all_left P n (v ∷ vs) ps h = all_left P n vs (filter (λ p. not (is_hit n v.fid p)) ps) (all_filter P (λ p. not (is_hit n v.fid p)) ps h)

in_first : (p : Promise) (a b : List Promise) → IsPromised p a → IsPromised p (a ++ b)
in_first p [] b h = absurd h
in_first p (q ∷ a) b (inl e) = inl e
in_first p (q ∷ a) b (inr h) = inr (in_first p a b h)

in_last : (p : Promise) (a b : List Promise) → IsPromised p b → IsPromised p (a ++ b)
in_last p [] b h = h
in_last p (q ∷ a) b h = inr (in_last p a b h)

filter_by : (t : Bool) (q : Promise → Bool) (p : Promise) (ps : List Promise) → q p ≡ t → IsPromised p ps → IsPromised p (filter q ps) ⊎ IsPromised p (filter (λ z. not (q z)) ps)
filter_by true q p ps e h = inl (kept_in q p ps h e)
filter_by false q p ps e h = inr (kept_in (λ z. not (q z)) p ps h (ap not e))

-- a promise is withdrawn, or stays
hit_or_left : (n : Node) (vs : List Version) (ps : List Promise) (p : Promise) → IsPromised p ps → IsPromised p (hits n vs ps) ⊎ IsPromised p (staying n vs ps)
hit_or_left n [] ps p h = inr h
hit_or_left n (v ∷ vs) ps p h = elim (filter_by (is_hit n v.fid p) (is_hit n v.fid) p ps refl h) [
  | inl x ↦ inl (in_first p (filter (is_hit n v.fid) ps) (hits n vs (filter (λ z. not (is_hit n v.fid z)) ps)) x)
  | inr x ↦ elim (hit_or_left n vs (filter (λ z. not (is_hit n v.fid z)) ps) p x) [ inl y ↦ inl (in_last p (filter (is_hit n v.fid) ps) (hits n vs (filter (λ z. not (is_hit n v.fid z)) ps)) y) | inr y ↦ inr y ]
]

hit_test : (a b : Bool) → a ≡ true → (b ≡ true → ⊥) → (a && not b) ≡ true
hit_test true true e h = absurd (h refl)
hit_test true false e h = refl
hit_test false b e h = absurd cc

-- another's promise on a fid that changes is withdrawn
pub touched_hit : (n j : Node) (f : Fid) (x : ℕ) (vs : List Version) (ps : List Promise) → (j ≡ n → ⊥) → IsChanged f vs → IsPromised (promise_to j f x) ps → IsPromised (promise_to j f x) (hits n vs ps)
touched_hit n j f x [] ps ne c h = absurd c
touched_hit n j f x (v ∷ vs) ps ne (inl e) h = in_first (promise_to j f x) (filter (is_hit n v.fid) ps) (hits n vs (filter (λ z. not (is_hit n v.fid z)) ps)) (kept_in (is_hit n v.fid) (promise_to j f x) ps h (hit_test (same_fid f v.fid) (same_node j n) (ap (same_fid f) e ∙ same_fid-refl f) (λ t. ne (same_node-true j n t))))
touched_hit n j f x (v ∷ vs) ps ne (inr c) h = elim (filter_by (is_hit n v.fid (promise_to j f x)) (is_hit n v.fid) (promise_to j f x) ps refl h) [
  | inl y ↦ in_first (promise_to j f x) (filter (is_hit n v.fid) ps) (hits n vs (filter (λ z. not (is_hit n v.fid z)) ps)) y
  | inr y ↦ in_last (promise_to j f x) (filter (is_hit n v.fid) ps) (hits n vs (filter (λ z. not (is_hit n v.fid z)) ps)) (touched_hit n j f x vs (filter (λ z. not (is_hit n v.fid z)) ps) ne c y)
]

pub has_owe : (me : Node) (j : Node) (f : Fid) (x k : ℕ) (ps : List Promise) → IsPromised (promise_to j f x) ps → HasOwe me j (Some f) (map (owe_line me) (owes_from k ps))
has_owe me j f x k [] h = absurd h
has_owe me j f x k (q ∷ ps) (inl e) = inl (refl, (ap (λ (p : Promise). p.client) e, ap (λ (p : Promise). Some p.fid) e))
has_owe me j f x k (q ∷ ps) (inr h) = inr (has_owe me j f x (k + 1) ps h)

dead_by : (t : Bool) (o : Option ℕ) (y : ℕ) → t ≡ true → cond t None o ≡ Some y → ⊥
dead_by true o y e k = absurd cc
dead_by false o y e k = absurd cc

owe_dead : (me : Node) (j : Node) (f : Fid) (x y k : ℕ) (q : Promise) (base : List Line) → q ≡ promise_to j f x → kept_until me j f (lines.Owe me q.client (Some q.fid) k ∷ base) ≡ Some y → ⊥
owe_dead me j f x y k q base e l = dead_by (same_node me me && (same_node j j && same_fid f f)) (kept_until me j f base) y (rw (same_node-refl me, same_node-refl j, same_fid-refl f) refl)
    (subst (λ (p : Promise). kept_until me j f (lines.Owe me p.client (Some p.fid) k ∷ base) ≡ Some y) e l)

-- a grant that is owed lasts no more
owed_dead : (me : Node) (j : Node) (f : Fid) (x y k : ℕ) (ps : List Promise) (base : List Line) → IsPromised (promise_to j f x) ps → kept_until me j f (onto base (map (owe_line me) (owes_from k ps))) ≡ Some y → ⊥
owed_dead me j f x y k [] base h l = absurd h
owed_dead me j f x y k (q ∷ ps) base (inl e) l = owe_dead me j f x y (k + 1) q base e (live_back me j f y (map (owe_line me) (owes_from (k + 1) ps)) (lines.Owe me q.client (Some q.fid) (k + 1) ∷ base) (owes_still me (owes_from (k + 1) ps)) l)
owed_dead me j f x y k (q ∷ ps) base (inr h) l = owed_dead me j f x y (k + 1) ps (lines.Owe me q.client (Some q.fid) (k + 1) ∷ base) h l

-- behind a change
-- behind a grant
not_promise : (b : Bool) (n j : Node) (f g : Fid) → (same_node j n && same_fid g f) ≡ b → (same_node n j && same_fid f g) ≡ false → not (same_node j n && same_fid g f) ≡ true
not_promise true n j f g e h =
    let q = both (same_node j n) (same_fid g f) e in
    let yes : (same_node n j && same_fid f g) ≡ true = subst (λ (k : Node). (same_node n k && same_fid f g) ≡ true) (sym (same_node-true j n q.0)) (subst (λ (z : Fid). (same_node n n && same_fid f z) ≡ true) (sym (same_fid-true g f q.1)) (rw (same_node-refl n, same_fid-refl f) refl)) in
    absurd cc
not_promise false n j f g e h = ap not e

grant_promised : (t : Bool) (n j : Node) (f g : Fid) (x y : ℕ) (o : Option ℕ) (ps : List Promise) → (same_node n j && same_fid f g) ≡ t → (o ≡ Some y → IsPromised (promise_to j g y) ps) → cond t (Some x) o ≡ Some y
    → IsPromised (promise_to j g y) (filter (λ q. not (is_promise n f q)) ps ++ promise_to n f x ∷ [])
grant_promised true n j f g x y o ps e h l =
    let q = both (same_node n j) (same_fid f g) e in
    in_last (promise_to j g y) (filter (λ z. not (is_promise n f z)) ps) (promise_to n f x ∷ []) (inl (subst (λ (z : ℕ). promise_to n f z ≡ promise_to j g y) (sym (some_of x y l)) (subst (λ (z : Fid). promise_to n z y ≡ promise_to j g y) (sym (same_fid-true f g q.1)) (ap (λ (z : Node). promise_to z g y) (same_node-true n j q.0)))))
grant_promised false n j f g x y o ps e h l = in_first (promise_to j g y) (filter (λ z. not (is_promise n f z)) ps) (promise_to n f x ∷ []) (kept_in (λ z. not (is_promise n f z)) (promise_to j g y) ps (h l) (not_promise (same_node j n && same_fid g f) n j f g refl e))

promised_now : (me : Node) (n : Node) (f : Fid) (x index clock : ℕ) (base : List Line) (ps : List Promise) → Promised me None ps clock base → Promised me None (with_promise n x f ps) clock (lines.Grant me n f index x ∷ base)
promised_now me n f x index clock base ps h j g y l t = (
  refl,
  grant_promised (same_node n j && same_fid f g) n j f g x y (kept_until me j g base) ps refl (λ k. (h j g y k t).1)
      (subst (λ (own : Bool). cond (own && (same_node n j && same_fid f g)) (Some x) (kept_until me j g base) ≡ Some y) (same_node-refl me) l),
)

-- grants, and lines behind them
pub onto_granted : (me : Node) (n : Node) (x : ℕ) (fs : List Found) (tail o : List Line) → onto o (granted me n x fs tail) ≡ onto (onto o (granted me n x fs [])) tail
onto_granted me n x [] tail o = refl
onto_granted me n x (f ∷ fs) tail o = onto_granted me n x fs tail (lines.Grant me n f.fid f.vnode.index x ∷ o)

in_either : (p : Promise) (a b : List Promise) → IsPromised p (a ++ b) → IsPromised p a ⊎ IsPromised p b
in_either p [] b h = inr h
in_either p (q ∷ a) b (inl e) = inl (inl e)
in_either p (q ∷ a) b (inr h) = elim (in_either p a b h) [ inl x ↦ inl (inr x) | inr x ↦ inr x ]

kept_by : (t : Bool) (q : Promise → Bool) (p x : Promise) (rest all : List Promise) → q x ≡ t → (IsPromised p rest → IsPromised p all × (q p ≡ true)) → IsPromised p (cond t (x ∷ rest) rest) → IsPromised p (x ∷ all) × (q p ≡ true)
kept_by true q p x rest all e w (inl z) = (inl z, subst (λ (y : Promise). q y ≡ true) z e)
kept_by true q p x rest all e w (inr z) = let k = w z in (inr k.0, k.1)
kept_by false q p x rest all e w z = let k = w z in (inr k.0, k.1)

in_filter_both : (q : Promise → Bool) (p : Promise) (ps : List Promise) → IsPromised p (filter q ps) → IsPromised p ps × (q p ≡ true)
in_filter_both q p [] h = absurd h
in_filter_both q p (x ∷ ps) h = kept_by (q x) q p x (filter q ps) ps refl (in_filter_both q p ps) h

-- what is promised beside some that are withdrawn still is when more is promised
with_left : (n : Node) (x : ℕ) (f : Fid) (p : Promise) (ps qs hs : List Promise) → ((q : Promise) → IsPromised q ps → IsPromised q hs ⊎ IsPromised q qs) → IsPromised p (with_promise n x f ps) → IsPromised p hs ⊎ IsPromised p (with_promise n x f qs)
with_left n x f p ps qs hs w h = elim (in_either p (filter (λ z. not (is_promise n f z)) ps) (promise_to n f x ∷ []) h) [
  | inl y ↦ let k = in_filter_both (λ z. not (is_promise n f z)) p ps y in elim (w p k.0) [
    | inl z ↦ inl z
    | inr z ↦ inr (in_first p (filter (λ z. not (is_promise n f z)) qs) (promise_to n f x ∷ []) (kept_in (λ z. not (is_promise n f z)) p qs z k.1))
  ]
  | inr y ↦ inr (in_last p (filter (λ z. not (is_promise n f z)) qs) (promise_to n f x ∷ []) y)
]

all_with_left : (n : Node) (x : ℕ) (fs : List Found) (ps qs hs : List Promise) → ((q : Promise) → IsPromised q ps → IsPromised q hs ⊎ IsPromised q qs) → (p : Promise) → IsPromised p (with_promises n x fs ps) → IsPromised p hs ⊎ IsPromised p (with_promises n x fs qs)
all_with_left n x [] ps qs hs w p h = w p h
all_with_left n x (f ∷ fs) ps qs hs w p h = all_with_left n x fs (with_promise n x f.fid ps) (with_promise n x f.fid qs) hs (λ q z. with_left n x f.fid q ps qs hs w z) p h

pub all_promised : (me : Node) (n : Node) (x clock : ℕ) (fs : List Found) (base : List Line) (ps : List Promise) → Promised me None ps clock base → Promised me None (with_promises n x fs ps) clock (onto base (granted me n x fs []))
all_promised me n x clock [] base ps h = h
all_promised me n x clock (f ∷ fs) base ps h = all_promised me n x clock fs (lines.Grant me n f.fid f.vnode.index x ∷ base) (with_promise n x f.fid ps) (promised_now me n f.fid x f.vnode.index clock base ps h)

-- ---- promises that a client gives up

dropped_promised : (t : Bool) (n j : Node) (f g : Fid) (y : ℕ) (o : Option ℕ) (ps : List Promise) → (same_node n j && same_fid f g) ≡ t → (o ≡ Some y → IsPromised (promise_to j g y) ps) → cond t None o ≡ Some y
    → IsPromised (promise_to j g y) (filter (λ q. not (is_promise n f q)) ps)
dropped_promised true n j f g y o ps e h l = absurd cc
dropped_promised false n j f g y o ps e h l = kept_in (λ z. not (is_promise n f z)) (promise_to j g y) ps (h l) (not_promise (same_node j n && same_fid g f) n j f g refl e)

pub gone_promised : (me : Node) (n : Node) (clock : ℕ) (fs : List Fid) (base : List Line) (ps : List Promise) → Promised me None ps clock base → Promised me None (without_promises n fs ps) clock (onto base (drops_of n fs))
gone_promised me n clock [] base ps h = h
gone_promised me n clock (f ∷ fs) base ps h = gone_promised me n clock fs (lines.Drop n f ∷ base) (filter (λ p. not (is_promise n f p)) ps)
    (λ j g y l t. (refl, dropped_promised (same_node n j && same_fid f g) n j f g y (kept_until me j g base) ps refl (λ k. (h j g y k t).1) l))

pub gone_granted : (me : Node) (n : Node) (fs : List Fid) (ls : List Line) (ps : List Promise) → AllOf (IsGranted me ls) ps → AllOf (IsGranted me ls) (without_promises n fs ps)
gone_granted me n [] ls ps h = h
gone_granted me n (f ∷ fs) ls ps h = gone_granted me n fs ls (filter (λ p. not (is_promise n f p)) ps) (all_filter (IsGranted me ls) (λ p. not (is_promise n f p)) ps h)

-- ---- promises are made to clients

all_to_clients : (x : ℕ) (n : Node) (fs : List Found) (ps : List Promise) → IsClient n → AllOf (λ (p : Promise). IsClient p.client) ps → AllOf (λ (p : Promise). IsClient p.client) (with_promises n x fs ps)
all_to_clients x n [] ps is h = h
all_to_clients x n (f ∷ fs) ps is h = all_to_clients x n fs (with_promise n x f.fid ps) is (all_both (λ (p : Promise). IsClient p.client) (filter (λ q. not (is_promise n f.fid q)) ps) (promise_to n f.fid x ∷ []) (all_filter (λ (p : Promise). IsClient p.client) (λ q. not (is_promise n f.fid q)) ps h) (is, tt))

pub granted_to_client : (x n : ℕ) (fs : List Found) (ps : List Promise) → AllOf (λ (p : Promise). IsClient p.client) ps → AllOf (λ (p : Promise). IsClient p.client) (with_promises (Client n) x fs ps)
granted_to_client x n fs ps h = all_to_clients x (Client n) fs ps tt h

pub gone_to_clients : (n : Node) (fs : List Fid) (ps : List Promise) → AllOf (λ (p : Promise). IsClient p.client) ps → AllOf (λ (p : Promise). IsClient p.client) (without_promises n fs ps)
gone_to_clients n [] ps h = h
gone_to_clients n (f ∷ fs) ps h = gone_to_clients n fs (filter (λ p. not (is_promise n f p)) ps) (all_filter (λ (p : Promise). IsClient p.client) (λ p. not (is_promise n f p)) ps h)

pub owes_to_clients : (k : ℕ) (ps : List Promise) → AllOf (λ (p : Promise). IsClient p.client) ps → AllOf (λ (o : Owed). IsClient o.client) (owes_from k ps)
owes_to_clients k [] h = tt
owes_to_clients k (p ∷ ps) h = (h.0, owes_to_clients (k + 1) ps h.1)

pub all_clients : (x k m : ℕ) → AllOf (λ (o : Owed). IsClient o.client) (owes_all x k m)
all_clients x k zero = tt
all_clients x k (suc m) = (tt, all_clients x (k + 1) m)

-- ---- a change, and what it owes

pub left_promised : (me : Node) (n : Node) (k x clock : ℕ) (vs : List Version) (ps : List Promise) (fs : List Found) (e : Entry) (past : List Entry) (front : List Line) → e.lines ≡ front ++ granted me n x fs (map (owe_line me) (owes_from k (hits n vs ps))) → all_lines is_still front ≡ true → Promised me None ps clock (before_own me e past)
    → Promised me None (with_promises n x fs (staying n vs ps)) clock (lines_with_gifts me (e ∷ past))
left_promised me n k x clock vs ps fs e past front are still h j f y l t =
    let owes : List Line = map (owe_line me) (owes_from k (hits n vs ps)) in
    let base : List Line = onto (before_own me e past) front in
    let mid : List Line = onto base (granted me n x fs []) in
    let here : kept_until me j f (onto mid owes) ≡ Some y = subst (λ (ls : List Line). kept_until me j f ls ≡ Some y) (ap (onto (before_own me e past)) are ∙ (onto_both (before_own me e past) front (granted me n x fs owes) ∙ onto_granted me n x fs owes base)) l in
    let before = live_back me j f y owes mid (owes_still me (owes_from k (hits n vs ps))) here in
    let had : IsPromised (promise_to j f y) (with_promises n x fs ps) = (all_promised me n x clock fs base ps (λ i g z a b. h i g z (live_back me i g z front (before_own me e past) still a) b) j f y before t).1 in
    elim (all_with_left n x fs ps (staying n vs ps) (hits n vs ps) (λ q z. hit_or_left n vs ps q z) (promise_to j f y) had) [
      | inl z ↦ absurd (owed_dead me j f y y k (hits n vs ps) mid z here)
      | inr z ↦ (refl, z)
    ]

-- ---- a promise that stays is on none of the breaks

unlike_by : (t : Bool) (n : Node) (vs : List Version) (p h : Promise) → (same_node h.client p.client && same_fid h.fid p.fid) ≡ t → (IsHit n vs p → ⊥) → IsHit n vs h → t ≡ false
unlike_by true n vs p h e safe hit =
    let q = both (same_node h.client p.client) (same_fid h.fid p.fid) e in
    absurd (safe (subst (λ (f : Fid). touches f vs ≡ true) (same_fid-true h.fid p.fid q.1) hit.0, λ z. hit.1 (same_node-true h.client p.client q.0 ∙ z)))
unlike_by false n vs p h e safe hit = refl

apart_owe : (s t : Bool) (o : Option ℕ) → t ≡ false → cond (s && t) None o ≡ o
apart_owe true true o e = absurd cc
apart_owe true false o e = refl
apart_owe false t o e = refl

unlike_owes : (me : Node) (n : Node) (vs : List Version) (p : Promise) (k : ℕ) (hs : List Promise) (o : List Line) → (IsHit n vs p → ⊥) → AllOf (IsHit n vs) hs → unbroken_until me p.client p.fid (onto o (map (owe_line me) (owes_from k hs))) ≡ unbroken_until me p.client p.fid o
unlike_owes me n vs p k [] o safe hit = refl
unlike_owes me n vs p k (h ∷ hs) o safe hit =
    unlike_owes me n vs p (k + 1) hs (lines.Owe me h.client (Some h.fid) (k + 1) ∷ o) safe hit.1
    ∙ apart_owe (same_node me me) (same_node h.client p.client && same_fid h.fid p.fid) (unbroken_until me p.client p.fid o) (unlike_by (same_node h.client p.client && same_fid h.fid p.fid) n vs p h refl safe hit.0)

all_any : (P : Promise → Type 0) → ((p : Promise) → P p) → (ps : List Promise) → AllOf P ps
all_any P w [] = tt
all_any P w (p ∷ ps) = (w p, all_any P w ps)

pub filtered : (q : Promise → Bool) (ps : List Promise) → AllOf (λ (p : Promise). q p ≡ true) (filter q ps)
filtered q [] = tt
filtered q (p ∷ ps) = that_one (λ (x : Promise). q x ≡ true) (q p) p (filter q ps) (λ t. t) (filtered q ps)

missed_by : (a b t : Bool) → (a && not b) ≡ t → not t ≡ true → a ≡ true → b ≡ true
missed_by true true t e h is = refl
missed_by true false t e h is = let no_ : true ≡ t = e in absurd cc
missed_by false b t e h is = absurd cc

safe_by : (t : Bool) (n : Node) (v : Version) (vs : List Version) (p : Promise) → same_fid v.fid p.fid ≡ t → not (is_hit n v.fid p) ≡ true → (IsHit n vs p → ⊥) → cond t true (touches p.fid vs) ≡ true → IsOfOther n p → ⊥
safe_by true n v vs p e missed safe touched other =
    let same : same_fid p.fid v.fid ≡ true = ap (λ (f : Fid). same_fid f v.fid) (sym (same_fid-true v.fid p.fid e)) ∙ same_fid-refl v.fid in
    other (same_node-true p.client n (missed_by (same_fid p.fid v.fid) (same_node p.client n) (is_hit n v.fid p) refl missed same))
safe_by false n v vs p e missed safe touched other = safe (touched, other)

stays_safe : (n : Node) (vs : List Version) (ps : List Promise) → AllOf (λ (p : Promise). IsHit n vs p → ⊥) (staying n vs ps)
stays_safe n [] ps = all_any (λ (p : Promise). IsHit n [] p → ⊥) (λ p hit. let no_ : false ≡ true = hit.0 in absurd cc) ps
stays_safe n (v ∷ vs) ps =
    let rest : List Promise = filter (λ p. not (is_hit n v.fid p)) ps in
    two_all (λ (p : Promise). not (is_hit n v.fid p) ≡ true) (λ (p : Promise). IsHit n vs p → ⊥) (λ (p : Promise). IsHit n (v ∷ vs) p → ⊥) (λ p missed safe hit. safe_by (same_fid v.fid p.fid) n v vs p refl missed safe hit.0 hit.1) (staying n vs rest)
    (all_left (λ (p : Promise). not (is_hit n v.fid p) ≡ true) n vs rest (filtered (λ p. not (is_hit n v.fid p)) ps)) (stays_safe n vs rest)

all_with : (P : Promise → Type 0) (n : Node) (x : ℕ) (fs : List Found) (ps : List Promise) → ((f : Fid) → P (record { client = n; fid = f; expiry = x })) → AllOf P ps → AllOf P (with_promises n x fs ps)
all_with P n x [] ps w h = h
all_with P n x (f ∷ fs) ps w h = all_with P n x fs (with_promise n x f.fid ps) w (all_both P (filter (λ q. not (is_promise n f.fid q)) ps) _ (all_filter P (λ q. not (is_promise n f.fid q)) ps h) (w f.fid, tt))

-- the promises behind a change
pub left_granted : (me : Node) (n : Node) (k x : ℕ) (vs : List Version) (ps : List Promise) (fs : List Found) (e : Entry) (past : List Entry) (front : List Line) → e.lines ≡ front ++ granted me n x fs (map (owe_line me) (owes_from k (hits n vs ps))) → all_lines is_still front ≡ true → all_lines (is_up me) front ≡ true → all_lines is_oweless front ≡ true → AllOf (IsGranted me (lines_of past)) ps
    → AllOf (IsGranted me (lines_of (e ∷ past))) (with_promises n x fs (staying n vs ps))
left_granted me n k x vs ps fs e past front are still up oweless h =
    let owes : List Line = map (owe_line me) (owes_from k (hits n vs ps)) in
    let base : List Line = onto (lines_of past) front in
    let mid : List Line = onto base (granted me n x fs []) in
    let first : AllOf (IsGranted me base) (staying n vs ps) = all_map (IsGranted me (lines_of past)) (IsGranted me base) (λ p z. unbroken_back me p.client p.fid front (lines_of past) still up oweless ∙ z) (staying n vs ps) (all_left (IsGranted me (lines_of past)) n vs ps h) in
    let second : AllOf (IsGranted me mid) (with_promises n x fs (staying n vs ps)) = all_granted me n x fs base (staying n vs ps) first in
    subst (λ (ls : List Line). AllOf (IsGranted me ls) (with_promises n x fs (staying n vs ps))) (sym (ap (onto (lines_of past)) are ∙ (onto_both (lines_of past) front (granted me n x fs owes) ∙ onto_granted me n x fs owes base)))
    (two_all (λ (p : Promise). IsHit n vs p → ⊥) (IsGranted me mid) (IsGranted me (onto mid owes)) (λ p safe z. unlike_owes me n vs p k (hits n vs ps) mid safe (hits_hit n vs ps) ∙ z) (with_promises n x fs (staying n vs ps)) (all_with (λ (p : Promise). IsHit n vs p → ⊥) n x fs (staying n vs ps) (λ f hit. hit.1 refl) (stays_safe n vs ps)) second)

pub record Changing (me : Node) (n : Node) (b : Backs) (seats now : List Seat) (e : Entry) (past : List Entry) (pre : List Line) (os : List Owed) (hd : Held) (m : Message) : Type 0 where
  pub are : e.lines ≡ pre ++ map (owe_line me) os
  pub up : all_lines (is_up me) pre ≡ true
  pub still : (c : Node) → (c ≡ n → ⊥) → all_lines (is_still_to c) pre ≡ true
  pub oweless : all_lines is_oweless pre ≡ true
  pub given : given_message e.lines (sent_of past) ≡ Some m
  pub key : key_answered hd.reply ≡ called_key m.head
  pub above : Above (call_seat m.head.from seats) m.head.epoch m.head.number
  pub seat : (n : Node) (x y : ℕ) → Above (call_seat n now) x y → Above (call_seat n seats) x y
  pub reply : NewReply me now (e ∷ past) hd
  pub changed : (k : Key) → HasChange k (lines_of (e ∷ past)) → HasChange k (lines_of past) ⊎ Above (call_seat k.node seats) k.epoch k.number
  pub owes : AllOf (NewOwe me n (lines_of past)) os
  pub own : (n : ℕ) → IsNumberIn n (break_numbers os) → IsNumberIn n hd.waits
  pub all : (n : ℕ) → IsNumberIn n (alls b.lists.owed) → IsNumberIn n hd.waits

pub change_loaded : (me : Node) (n : Node) (b : Backs) (ps : List Promise) (more boot : ℕ) (seats now : List Seat) (cs : ℕ → Option Seat) (clock : ℕ) (sent : List Message) (e : Entry) (past : List Entry) (pre : List Line) (os : List Owed) (hd : Held) (m : Message) → BackedIn me None b boot seats cs clock sent past → AllOf (IsGranted me (lines_of (e ∷ past))) ps → Promised me None ps clock (lines_with_gifts me (e ∷ past)) → Numbered me None more (lines_of (e ∷ past)) → Rising me (lines_of (e ∷ past)) → ToClients ps os → Changing me n b seats now e past pre os hd m
    → BackedIn me None (record b { lists = record { promises = ps; owed = b.lists.owed ++ os; last_owed = more }; held = b.held ++ hd ∷ [] }) boot now cs clock sent (e ∷ past)
change_loaded me who b ps more boot seats now cs clock sent e past pre os hd m h granted promised numbered rising clients w =
    let after : Backs = record b { lists = record { promises = ps; owed = b.lists.owed ++ os; last_owed = more }; held = b.held ++ hd ∷ [] } in
    let up : all_lines (is_up me) e.lines ≡ true = subst (λ (ls : List Line). all_lines (is_up me) ls ≡ true) (sym w.are) (lines_both (is_up me) pre _ w.up (owes_up me os)) in
    let still : (c : Node) → (c ≡ who → ⊥) → all_lines (is_still_to c) e.lines ≡ true = λ c ne. subst (λ (ls : List Line). all_lines (is_still_to c) ls ≡ true) (sym w.are) (lines_both (is_still_to c) pre _ (w.still c ne) (owes_still_to me c os)) in
    let found : (before after : List Line) (c : Node) (what : Option Fid) (n : ℕ) → e.lines ≡ before ++ lines.Owe me c what n ∷ after → OweFound os c what n = λ before after c what n line. owes_found me pre os before after c what n w.oweless (sym w.are ∙ line) in
    let not_all : (before after : List Line) (c : Node) (what : Option Fid) (n : ℕ) → e.lines ≡ before ++ lines.Owe me c what n ∷ after → what ≡ None → ⊥ = λ before after c what n line z. let f = found before after c what n line in let x = in_all (NewOwe me who (lines_of past)) f.o os f.is_in w.owes in let y : Some x.fid ≡ None = sym x.on ∙ (f.on ∙ z) in absurd cc in
    let under : (k : Key) (t : ℕ) → IsCallUnder me k t (given_message e.lines (sent_of past)) → called_key m.head ≡ k = λ k t y. (subst (λ (o : Option Message). IsCallUnder me k t o) w.given y).1.0 in
    let none : is_held (key_answered hd.reply) b.held ≡ true → ⊥ = λ y. key_held me b boot seats cs clock sent past (called_key m.head) h w.above (subst (λ (k : Key). is_held k b.held ≡ true) w.key y) in
    let s : Stepping me None None b after clock clock e past = record {
      was_up = λ x. x;
      up = λ x. up;
      or_stopped = λ x. inl x;
      later = le_refl _;
      new = λ before rest c what n line. let f = found before rest c what n line in let x = in_all (NewOwe me who (lines_of past)) f.o os f.is_in w.owes in inr (
        refl,
        record {
          o = f.o;
          is_in = in_second f.o b.lists.owed os f.is_in;
          number = f.number;
          client = f.client;
          on = f.on;
          expiry = subst (λ (z : Option Fid). expiry_of me c z (onto (lines_of past) before) ≡ Some f.o.expiry) (sym x.on ∙ f.on) (subst (λ (z : Node). promised_until me z x.fid (onto (lines_of past) before) ≡ Some f.o.expiry) f.client
              (grant_back_to me f.o.client x.fid before (lines_of past) (lines_front (is_still_to f.o.client) before _ (subst (λ (ls : List Line). all_lines (is_still_to f.o.client) ls ≡ true) line (still f.o.client x.other))) ∙ x.granted));
          waits = λ k t y. inr (held_last k b.held hd (w.key ∙ under k t y));
        },
      );
      gone = λ o x. inl (in_front o b.lists.owed os x);
      held = λ k x. more_held k b.held (hd ∷ []) x;
      last = le_refl _;
      calls = calls_same b.calls b.last_call;
    } in
    subst (λ (ms : List Message). BackedIn me None after boot now cs clock ms (e ∷ past)) (append-nil sent)
    (backed_step me None None b after boot seats now cs cs clock clock sent [] e past s h (λ x. granted) promised numbered rising (λ x. record { promised = clients.promised; owed = all_both (λ (o : Owed). IsClient o.client) b.lists.owed os (h.clients x).owed clients.owed })
    (λ x. all_both (λ (o : Owed). IsOwed me o.client (lines_of (e ∷ past)) o) b.lists.owed os (owed_over me e past b.lists.owed up (h.owing x))
    (subst (λ (ls : List Line). AllOf (λ (o : Owed). IsOwed me o.client ls o) os) (sym (ap (onto (lines_of past)) w.are ∙ onto_both (lines_of past) pre (map (owe_line me) os))) (owes_at me os (onto (lines_of past) pre))))
    (λ x. all_both (HeldWaits me now clock (e ∷ past)) b.held (hd ∷ [])
    (all_map (HeldWaits me seats clock past) (HeldWaits me now clock (e ∷ past)) (λ q y. waits_over me seats now clock clock e past q (le_refl _) (w.changed (key_answered q.reply))
    (λ before rest c what n line. ((λ t z. absurd (y.under (subst (λ (k : Key). Above (call_seat k.node seats) k.epoch k.number) (under (key_answered q.reply) t z) w.above))), not_all before rest c what n line)) w.seat y) b.held (h.waiting refl)) (
      record {
        client = w.reply.client;
        to = w.reply.to;
        from = w.reply.from;
        is_reply = w.reply.is_reply;
        under = w.reply.under;
        own = owes_over me (AccountedBy me None b.lists.owed b.held clock) (WaitedBy me hd clock) e past (λ y z c what n line t k. let f = found y z c what n line in inr (w.own n (number_of f.o os n f.is_in f.number)))
            (λ newer at older y z c what n u. own_past me b boot seats cs clock sent e past hd newer at older y z c what n h none u) h.accounted;
        all = λ y. all_waited me b boot seats cs clock sent e past hd h w.all not_all;
      },
      tt,
    ))
    (λ x j c at. call_over me j c b.last_call b.last_call boot e past (le_refl _) up (h.outs x j c at)) tt tt
    (λ j seat k x y. seated_over me None None b after boot clock clock e past s j k (h.seated j seat k x y)))

-- the number of the last break
top_owe : (me c : Node) (what : Option Fid) (n : ℕ) (ls : List Line) → last_number me (lines.Owe me c what n ∷ ls) ≡ n
top_owe me c what n ls = rw (same_node-refl me) refl

-- numbers of new breaks
pub numbers_good : (me : Node) → IsServing me → (s : Script) (k : ℕ) (ps : List Promise) (past : List Entry) (own : List Line) → last_number me (own ++ lines_of past) ≡ k → (HasStopped me own → ⊥) → AllOf (λ (p : Promise). IsChangedByOther me p.client p.fid own) ps → AllOf (λ (p : Promise). IsUnbroken me p.client p.fid past) ps → AreGood s (actors.Node me) past own (map (owe_line me) (owes_from k ps))
numbers_good me serving s k [] past own h up w g = tt
numbers_good me serving s k (p ∷ ps) past own h up w g = ((serving, record { going = up; number = ap (λ (i : ℕ). i + 1) (sym h); cause = (w.0, g.0) }), numbers_good me serving s (k + 1) ps past (lines.Owe me p.client (Some p.fid) (k + 1) ∷ own) (top_owe me p.client (Some p.fid) (k + 1) (own ++ lines_of past)) up w.1 g.1)

pub numbers_rise : (me : Node) (k : ℕ) (ps : List Promise) (base : List Line) → last_number me base ≡ k → last_number me (onto base (map (owe_line me) (owes_from k ps))) ≡ k + length (owes_from k ps)
numbers_rise me k [] base h = omega arith
numbers_rise me k (p ∷ ps) base h = let x : last_number me (onto (lines.Owe me p.client (Some p.fid) (k + 1) ∷ base) (map (owe_line me) (owes_from (k + 1) ps))) ≡ (k + 1) + length (owes_from (k + 1) ps) = numbers_rise me (k + 1) ps (lines.Owe me p.client (Some p.fid) (k + 1) ∷ base) (top_owe me p.client (Some p.fid) (k + 1) base) in omega arith

pub owes_rising : (me : Node) (k : ℕ) (ps : List Promise) (base : List Line) → last_number me base ≡ k → Rising me base → Rising me (onto base (map (owe_line me) (owes_from k ps)))
owes_rising me k [] base le h = h
owes_rising me k (p ∷ ps) base le h = owes_rising me (k + 1) ps (lines.Owe me p.client (Some p.fid) (k + 1) ∷ base) (top_owe me p.client (Some p.fid) (k + 1) base) (λ e. omega arith, h)

alls_rising : (me : Node) (x k m : ℕ) (base : List Line) → last_number me base ≡ k → Rising me base → Rising me (onto base (map (owe_line me) (owes_all x k m)))
alls_rising me x k zero base le h = h
alls_rising me x k (suc m) base le h = alls_rising me x (k + 1) m (lines.Owe me (Client (k + 1)) None (k + 1) ∷ base) (top_owe me (Client (k + 1)) None (k + 1) base) (λ e. omega arith, h)

pub alls_good : (me : Node) → IsServing me → (s : Script) (x k m : ℕ) (past : List Entry) (own : List Line) → last_number me (own ++ lines_of past) ≡ k → (HasStopped me own → ⊥) → HasRisen me own → k + m ≤ s.clients → AreGood s (actors.Node me) past own (map (owe_line me) (owes_all x k m))
alls_good me serving s x k zero past own h up w few = tt
alls_good me serving s x k (suc m) past own h up w few = ((serving, record { going = up; number = ap (λ (i : ℕ). i + 1) (sym h); cause = (w, (omega arith, omega arith)) }), alls_good me serving s x (k + 1) m past (lines.Owe me (Client (k + 1)) None (k + 1) ∷ own) (top_owe me (Client (k + 1)) None (k + 1) (own ++ lines_of past)) up w (omega arith))

pub alls_rise : (me : Node) (x k m : ℕ) (base : List Line) → last_number me base ≡ k → last_number me (onto base (map (owe_line me) (owes_all x k m))) ≡ k + m
alls_rise me x k zero base h = omega arith
alls_rise me x k (suc m) base h = let y : last_number me (onto (lines.Owe me (Client (k + 1)) None (k + 1) ∷ base) (map (owe_line me) (owes_all x (k + 1) m))) ≡ (k + 1) + m = alls_rise me x (k + 1) m (lines.Owe me (Client (k + 1)) None (k + 1) ∷ base) (top_owe me (Client (k + 1)) None (k + 1) base) in omega arith

-- ---- a restart

pub record OnAll (expiry : ℕ) (o : Owed) : Type 0 where
  pub on : o.what ≡ None
  pub expires : o.expiry ≡ expiry

pub on_all : (expiry k m : ℕ) → AllOf (OnAll expiry) (owes_all expiry k m)
on_all expiry k zero = tt
on_all expiry k (suc m) = (record { on = refl; expires = refl }, on_all expiry (k + 1) m)

not_now : (e boot : ℕ) → e ≤ boot → e ≡ boot + 1 → ⊥
not_now e boot a b = absurd (omega arith)

pub rise_loaded : (me : Node) (count : ℕ) (d : Option Fall) (b : Backs) (boot : ℕ) (seats now : List Seat) (cs : ℕ → Option Seat) (clock : ℕ) (sent : List Message) (e : Entry) (past : List Entry) (pre : List Line) → (d ≡ None → ⊥) → BackedIn me d b boot seats cs clock sent past → clock_of (lines_of past) ≡ clock
    → e.lines ≡ pre ++ (risen_as me clock count).lines → all_lines is_oweless pre ≡ true → all_lines is_tickless pre ≡ true → all_lines is_still pre ≡ true → given_message e.lines (sent_of past) ≡ None → BackedIn me None (loaded (risen_as me clock count)) (boot + 1) now cs clock sent (e ∷ past)
rise_loaded me count d b boot seats now cs clock sent e past pre ne h time are oweless tickless still given =
    let os : List Owed = owes_all (clock + promise_ticks) 0 count in
    let all : AllOf (OnAll (clock + promise_ticks)) os = on_all (clock + promise_ticks) 0 count in
    let ticks : all_lines is_tickless e.lines ≡ true = subst (λ (ls : List Line). all_lines is_tickless ls ≡ true) (sym are) (lines_both is_tickless pre _ tickless (owes_tickless me os)) in
    record {
      granted = λ x. tt;
      numbered =
          let zero : last_number me (onto (lines_of past) pre) ≡ 0 = zero_back me pre (lines_of past) oweless (down_zero me d b.lists.last_owed (lines_of past) ne h.numbered) in
          subst (λ (ls : List Line). last_number me ls ≡ count) (sym (ap (onto (lines_of past)) are ∙ onto_both (lines_of past) pre (map (owe_line me) os)))
          (let y : last_number me (onto (onto (lines_of past) pre) (map (owe_line me) os)) ≡ 0 + count = alls_rise me (clock + promise_ticks) 0 count (onto (lines_of past) pre) zero in omega arith);
      rising =
          let zero : last_number me (onto (lines_of past) pre) ≡ 0 = zero_back me pre (lines_of past) oweless (down_zero me d b.lists.last_owed (lines_of past) ne h.numbered) in
          subst (Rising me) (sym (ap (onto (lines_of past)) are ∙ onto_both (lines_of past) pre (map (owe_line me) os))) (alls_rising me (clock + promise_ticks) 0 count (onto (lines_of past) pre) zero (rising_back me pre (lines_of past) oweless h.rising));
      clients = λ x. record { promised = tt; owed = all_clients (clock + promise_ticks) 0 count };
      promised = λ j f x l t. absurd (ne (h.promised j f x (live_given me j f x e past (live_back me j f x e.lines (before_own me e past) (subst (λ (ls : List Line). all_lines is_still ls ≡ true) (sym are) (lines_both is_still pre _ still (owes_still me os))) l)) t).0);
      accounted = owes_over me (AccountedBy me d b.lists.owed b.held clock) (AccountedBy me None os [] clock) e past
          (λ before rest c what n line. let f = owes_found me pre os before rest c what n oweless (sym are ∙ line) in let x = in_all (OnAll (clock + promise_ticks)) f.o os f.is_in all in inr (
            refl,
            record {
              o = f.o;
              is_in = f.is_in;
              number = f.number;
              client = f.client;
              on = f.on;
              expiry = subst (λ (z : Option Fid). expiry_of me c z (onto (lines_of past) before) ≡ Some f.o.expiry) (sym x.on ∙ f.on)
                  (ap Some (ap (λ (t : ℕ). t + 7200) (clock_back before (lines_of past) (lines_front is_tickless before _ (subst (λ (ls : List Line). all_lines is_tickless ls ≡ true) line ticks)) ∙ time) ∙ sym x.expires));
              waits = λ k t y. absurd (subst (λ (o : Option Message). IsCallUnder me k t o) given y);
            },
          ))
          (λ newer at older before rest c what n x. elim x [ inl y ↦ inl (ended_over me e clock clock newer at older before rest c what n (le_refl _) y) | inr y ↦ absurd (ne y.0) ]) h.accounted;
      owing = λ x. subst (λ (ls : List Line). AllOf (λ (o : Owed). IsOwed me o.client ls o) os) (sym (ap (onto (lines_of past)) are ∙ onto_both (lines_of past) pre (map (owe_line me) os))) (owes_at me os (onto (lines_of past) pre));
      waiting = λ x. tt;
      outs = λ x j c at. absurd cc;
      calls = each_map (IfBack (BackIn me d b.calls b.last_call boot)) (IfBack (BackIn me None (λ n. None) 0 (boot + 1))) (if_back (BackIn me d b.calls b.last_call boot) (BackIn me None (λ n. None) 0 (boot + 1)) (λ head user call x. record { client = x.client; to = x.to; booted = λ own. le_trans (x.booted own) (omega arith); below = λ own y z. absurd (not_now head.epoch boot (x.booted own) z); is = λ c own y z. absurd (not_now head.epoch boot (x.booted own) z) })) sent h.calls;
      dones = each_map (IfDone (DoneIn me d b.calls b.last_call boot past)) (IfDone (DoneIn me None (λ n. None) 0 (boot + 1) (e ∷ past))) (if_done (DoneIn me d b.calls b.last_call boot past) (DoneIn me None (λ n. None) 0 (boot + 1) (e ∷ past)) (λ m x. record { client = x.client; from = x.from; done = λ own. record { booted = le_trans (x.done own).booted (omega arith); below = λ y z. absurd (not_now m.head.epoch boot (x.done own).booted z); dropped = λ c y z. absurd (not_now m.head.epoch boot (x.done own).booted z) } })) sent h.dones;
      seated = λ j seat m x y. let z = h.seated j seat m x y in record { to = z.to; from = z.from; is_reply = z.is_reply; done = record { booted = le_trans z.done.booted (omega arith); below = λ u v. absurd (not_now m.head.epoch boot z.done.booted v); dropped = λ c u v. absurd (not_now m.head.epoch boot z.done.booted v) } };
    }
