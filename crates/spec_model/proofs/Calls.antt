-- In one boot no call runs again, and a kept reply is that of its call.
use Rattle.std.proofs.Common.{◌≡◌, ℕ, ◌≤◌, inl, inr, Bool, true, false, cond, eqb, not, List, [], ◌∷◌, ◌++◌, length, Option, Some, None, refl, sym, ap, subst, ◌∙◌, arith, eq-eqb, eqb-true}
use Rattle.std.specs.Prelude.{◌&&◌, ⊤}
use Rattle.afs_num.specs.Nodes.{same_node}
use Rattle.afs_num.specs.declared.types.Head.{Head}
use Rattle.afs_num.specs.declared.types.Key.{Key}
use Rattle.afs_num.specs.declared.types.Node.{Node}
use Rattle.spec_model.specs.Calls.{same_key, key_of, CallSeat, Admitted, pair_below, runs, kept, wrong_boot, call_seat, call_seated, paired, admitted, is_last_call}
use Rattle.spec_model.specs.CallLaws.{CallEvent, starts, finishes, seats_after, StartsWhatRuns, WasStarted, last_reply}
use Rattle.spec_model.proofs.Basics.{both, yes_no, same_node-true, node_apart, same_key-refl, Below, UpTo, below-false, up_to_below, below_up_to, below_not, up_to_same, runs_above, LastSeat, kept_last, at_seat}

abbrev Seat : Type 0
Seat = CallSeat (List ℕ)

abbrev begun : Key → Seat
begun key = record { caller = key.node; epoch = key.epoch; number = key.number; reply = None }

abbrev done : Key → List ℕ → Seat
done key reply = record { caller = key.node; epoch = key.epoch; number = key.number; reply = Some reply }

-- ---- the pair of a call against that of a seat

runs_by : (t : Bool) (boot : ℕ) (v : Admitted (List ℕ)) → cond t v (wrong_boot boot) ≡ runs → v ≡ runs
runs_by true boot v e = e
runs_by false boot v e = absurd cc

answers_by : (t : Bool) (boot : ℕ) (v : Admitted (List ℕ)) (x : List ℕ) → cond t v (wrong_boot boot) ≡ kept x → v ≡ kept x
answers_by true boot v x e = e
answers_by false boot v x e = absurd cc

-- ---- a call that was started

-- this call or a newer one is the seat's
abbrev IsSeated : Key → Option Seat → Type 0
IsSeated key None = ⊥
IsSeated key (Some s) = UpTo key.epoch key.number s.epoch s.number

over : (key : Key) (e n : ℕ) (o : Option Seat) → IsSeated key o → paired e n o ≡ runs → Below key.epoch key.number e n
over key e n None h r = absurd h
over key e n (Some s) h r = up_to_below _ _ _ _ _ _ h (runs_above e n (Some s) r)

at_last : (key other : Key) (o : Option Seat) → IsSeated key o → is_last_call other o ≡ true → UpTo key.epoch key.number other.epoch other.number
at_last key other None h t = absurd h
at_last key other (Some s) h t =
    let p = both (eqb s.epoch other.epoch) (eqb s.number other.number) t in
    subst (λ (d : ℕ). UpTo key.epoch key.number d other.number) (eqb-true _ _ p.0) (subst (λ (m : ℕ). UpTo key.epoch key.number s.epoch m) (eqb-true _ _ p.1) h)

finish_holds : (t : Bool) (key other : Key) (r : List ℕ) (seats : List Seat) → is_last_call other (call_seat other.node seats) ≡ t → IsSeated key (call_seat key.node seats)
    → IsSeated key (call_seat key.node (cond t (call_seated (done other r) seats) seats))
finish_holds true key other r seats t h =
    at_seat (done other r) key.node seats (IsSeated key)
    (λ q. at_last key other (call_seat key.node seats) h (ap (λ (m : Node). is_last_call other (call_seat m seats)) (sym q) ∙ t)) (λ ne. h)
finish_holds false key other r seats t h = h

started_holds : (key other : Key) (seats : List Seat) → other ≡ key → IsSeated key (call_seat key.node (call_seated (begun other) seats))
started_holds key other seats e =
    at_seat (begun other) key.node seats (IsSeated key) (λ q. up_to_same _ _ _ _ (ap (λ (k : Key). k.epoch) (sym e)) (ap (λ (k : Key). k.number) (sym e)))
    (λ ne. absurd (ne (ap (λ (k : Key). k.node) e)))

passes_holds : (key other : Key) (seats : List Seat) → paired other.epoch other.number (call_seat other.node seats) ≡ runs → IsSeated key (call_seat key.node seats)
    → IsSeated key (call_seat key.node (call_seated (begun other) seats))
passes_holds key other seats a h =
    at_seat (begun other) key.node seats (IsSeated key)
    (λ q. below_up_to _ _ _ _ (over key other.epoch other.number (call_seat key.node seats) h (ap (λ (m : Node). paired other.epoch other.number (call_seat m seats)) (sym q) ∙ a))) (λ ne. h)

holds : (past : List CallEvent) (key : Key) → StartsWhatRuns past → WasStarted key past → IsSeated key (call_seat key.node (seats_after past))
holds [] key a w = absurd w
holds (starts other ∷ past) key a (inl e) = started_holds key other (seats_after past) e
holds (starts other ∷ past) key a (inr w) = passes_holds key other (seats_after past) a.0 (holds past key a.1 w)
holds (finishes other r ∷ past) key a w =
    finish_holds (is_last_call other (call_seat other.node (seats_after past))) key other r (seats_after past) refl (holds past key a w)

pub calls_once : (boot : ℕ) (past : List CallEvent) (key : Key) (head : Head) → StartsWhatRuns past → WasStarted key past → head.from ≡ key.node
    → pair_below key.epoch key.number head.epoch head.number ≡ false → admitted boot (seats_after past) head ≡ runs → ⊥
calls_once boot past key head a w f p e =
    let r : paired head.epoch head.number (call_seat head.from (seats_after past)) ≡ runs = runs_by (eqb head.boot boot) boot _ e in
    let h : IsSeated key (call_seat head.from (seats_after past)) = subst (λ (m : Node). IsSeated key (call_seat m (seats_after past))) (sym f) (holds past key a w) in
    below_not _ _ _ _ (over key head.epoch head.number _ h r) (below-false _ _ _ _ p)

-- ---- a reply that is kept

abbrev key_at : Node → ℕ → ℕ → Key
key_at m e n = record { node = m; epoch = e; number = n }

-- what is kept ended that call
abbrev Owns : Node → List CallEvent → Option Seat → Type 0
Owns m past None = ⊤
Owns m past (Some s) = (r : List ℕ) → s.reply ≡ Some r → last_reply (key_at m s.epoch s.number) past ≡ Some r

begun_owns : (m : Node) (other : Key) (past : List CallEvent) → Owns m past (Some (begun other))
begun_owns m other past r e = absurd cc

same_start : (m : Node) (other : Key) (past : List CallEvent) (o : Option Seat) → Owns m past o → Owns m (starts other ∷ past) o
same_start m other past None h = tt
same_start m other past (Some s) h = h

same_at : (m : Node) (k : Key) → k.node ≡ m → same_key k (key_at m k.epoch k.number) ≡ true
same_at m k q = subst (λ (n : Node). same_key k (key_at n k.epoch k.number) ≡ true) q (same_key-refl k)

done_owns : (m : Node) (other : Key) (x : List ℕ) (past : List CallEvent) → other.node ≡ m → Owns m (finishes other x ∷ past) (Some (done other x))
done_owns m other x past q r e = rw (same_at m other q) e

passed : (m : Node) (other : Key) (x : List ℕ) (past : List CallEvent) (o : Option Seat) → ((s : Seat) → o ≡ Some s → same_key other (key_at m s.epoch s.number) ≡ false) → Owns m past o
    → Owns m (finishes other x ∷ past) o
passed m other x past None d h = tt
passed m other x past (Some s) d h = λ r e. rw (d s refl) (h r e)

of_another : (m : Node) (other : Key) (e n : ℕ) → (other.node ≡ m → ⊥) → same_key other (key_at m e n) ≡ false
of_another m other e n ne = rw (node_apart other.node m ne) refl

not_last : (t : Bool) (m : Node) (other : Key) (seats : List Seat) (s : Seat) → same_key other (key_at m s.epoch s.number) ≡ t → call_seat m seats ≡ Some s
    → is_last_call other (call_seat other.node seats) ≡ false → t ≡ false
not_last false m other seats s t a f = refl
not_last true m other seats s t a f =
    let p = both (same_node other.node m) (eqb other.epoch s.epoch && eqb other.number s.number) t in
    let q = both (eqb other.epoch s.epoch) (eqb other.number s.number) p.1 in
    let at : call_seat other.node seats ≡ Some s = ap (λ (n : Node). call_seat n seats) (same_node-true other.node m p.0) ∙ a in
    let no : is_last_call other (Some s) ≡ false = ap (is_last_call other) (sym at) ∙ f in
    let yes : is_last_call other (Some s) ≡ true = rw (eq-eqb s.epoch other.epoch (sym (eqb-true _ _ q.0)), eq-eqb s.number other.number (sym (eqb-true _ _ q.1))) refl in
    absurd (yes_no _ yes no)

finish_owns : (t : Bool) (m : Node) (other : Key) (x : List ℕ) (past : List CallEvent) (seats : List Seat) → is_last_call other (call_seat other.node seats) ≡ t → Owns m past (call_seat m seats)
    → Owns m (finishes other x ∷ past) (call_seat m (cond t (call_seated (done other x) seats) seats))
finish_owns true m other x past seats t h =
    at_seat (done other x) m seats (Owns m (finishes other x ∷ past)) (λ q. done_owns m other x past q)
    (λ ne. passed m other x past (call_seat m seats) (λ s e. of_another m other s.epoch s.number ne) h)
finish_owns false m other x past seats t h =
    passed m other x past (call_seat m seats) (λ s e. not_last (same_key other (key_at m s.epoch s.number)) m other seats s refl e t) h

owns : (past : List CallEvent) (m : Node) → Owns m past (call_seat m (seats_after past))
owns [] m = tt
owns (starts other ∷ past) m =
    at_seat (begun other) m (seats_after past) (Owns m (starts other ∷ past)) (λ q. begun_owns m other (starts other ∷ past))
    (λ ne. same_start m other past (call_seat m (seats_after past)) (owns past m))
owns (finishes other x ∷ past) m =
    finish_owns (is_last_call other (call_seat other.node (seats_after past))) m other x past (seats_after past) refl (owns past m)

own_reply : (head : Head) (past : List CallEvent) (o : Option Seat) (x : List ℕ) → LastSeat head.epoch head.number o x → Owns head.from past o → last_reply (key_of head) past ≡ Some x
own_reply head past o x l h =
    let own : Owns head.from past (Some l.seat) = subst (Owns head.from past) l.at h in
    subst (λ (d : ℕ). last_reply (key_at head.from d head.number) past ≡ Some x) l.epoch (subst (λ (n : ℕ). last_reply (key_at head.from l.seat.epoch n) past ≡ Some x) l.number (own x l.reply))

pub kept_of_call : (boot : ℕ) (past : List CallEvent) (head : Head) (reply : List ℕ) → admitted boot (seats_after past) head ≡ kept reply → last_reply (key_of head) past ≡ Some reply
kept_of_call boot past head reply e =
    let k : paired head.epoch head.number (call_seat head.from (seats_after past)) ≡ kept reply = answers_by (eqb head.boot boot) boot _ reply e in
    own_reply head past (call_seat head.from (seats_after past)) reply (kept_last head.epoch head.number _ reply k) (owns past head.from)
