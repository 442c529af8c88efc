-- Small laws: fids, nodes and keys; pairs of epoch and number; seats; what is found; lists of messages.
use Rattle.afs_num.specs.declared.histories.ReadStatus.{ReadStatus}
use Rattle.afs_num.specs.declared.histories.Body.{Body}
use Rattle.spec_rows.specs.Callbacks.{put}
use Rattle.spec_rows.specs.ClientRow.{find_cached, used_first, is_trusted, refreshed}
use Rattle.law_legal.specs.Ideal.{raised}
use Rattle.spec_model.specs.Calls.{same_key, CallSeat, Admitted, runs, kept, older, pair_below, caller_of, call_seat, call_seated, repeated, paired, admitted}
use Rattle.spec_rows.specs.Runs.{message_at}
use Rattle.spec_rows.specs.States.{CacheEntry, Seat}
use Rattle.spec_model.proofs.Keyed.{IsExact, found_own, at_last}
use Rattle.std.proofs.Common.{◌≡◌, ℕ, zero, suc, ◌+◌, ◌<◌, ◌≤◌, ◌⊎◌, inl, inr, Bool, true, false, cond, eqb, ltb, not, List, [], ◌∷◌, ◌++◌, map, Option, Some, None, refl, sym, ap, subst, ◌∙◌, arith, eq-eqb, eqb-true, ltb-true, ltb-false, nat_eq}
use Rattle.std.specs.Prelude.{filter, ◌&&◌, ⊤}
use Rattle.std.specs.Option.{option_map}
use Rattle.std.proofs.Math.Nat.{max-le, eq-or-lt_of_le}
use Rattle.afs_num.specs.Fids.{same_fid}
use Rattle.afs_num.specs.Nodes.{same_node}
use Rattle.afs_num.specs.declared.types.Fid.{Fid}
use Rattle.afs_num.specs.declared.types.Head.{Head}
use Rattle.afs_num.specs.declared.types.Key.{Key}
use Rattle.afs_num.specs.declared.types.Node.{Node}
use Rattle.afs_num.specs.declared.types.Node.TheVariants.{Loc, Server, Client, Admin}
use Rattle.afs_num.specs.declared.location_calls.LocCall.{LocCall}
use Rattle.afs_num.specs.declared.location_calls.LocCall.TheVariants as loc
use Rattle.spec_history.specs.declared.acts.Operand.{Operand}
use Rattle.spec_history.specs.declared.acts.Operand.TheVariants as operands
use Rattle.spec_rows.specs.ClientRow.{question}
use Rattle.spec_rows.specs.ServerRow.{is_client}
use Rattle.afs_num.specs.declared.calls.FsCall.{FsCall}
use Rattle.afs_num.specs.declared.messages.Carried.{Carried}
use Rattle.afs_num.specs.declared.messages.Message.{Message}
use Rattle.afs_num.specs.declared.messages.Carried.TheVariants as carried
use Rattle.afs_num.specs.declared.messages.Call.TheVariants as ask
use Rattle.spec_model.specs.Calls as pairs

-- ---- fids, nodes, keys

pub both : (a b : Bool) → (a && b) ≡ true → (a ≡ true) × (b ≡ true)
both true b e = (refl, e)
both false b e = absurd cc

pub yes_no : (b : Bool) → b ≡ true → b ≡ false → ⊥
yes_no b t f = absurd cc

abbrev fid_of : ℕ → ℕ → ℕ → Fid
fid_of v n u = record { volume = v; vnode = n; unique = u }

pub same_fid-true : (a b : Fid) → same_fid a b ≡ true → a ≡ b
same_fid-true a b e =
    let p = both (eqb a.volume b.volume) (eqb a.vnode b.vnode && eqb a.unique b.unique) e in
    let q = both (eqb a.vnode b.vnode) (eqb a.unique b.unique) p.1 in
    ap (λ (v : ℕ). fid_of v a.vnode a.unique) (eqb-true _ _ p.0) ∙ (ap (λ (n : ℕ). fid_of b.volume n a.unique) (eqb-true _ _ q.0) ∙ ap (fid_of b.volume b.vnode) (eqb-true _ _ q.1))

pub same_fid-refl : (a : Fid) → same_fid a a ≡ true
same_fid-refl a = rw (eq-eqb a.volume a.volume refl, eq-eqb a.vnode a.vnode refl, eq-eqb a.unique a.unique refl) refl

pub apart : (f g : Fid) → same_fid f g ≡ false → f ≡ g → ⊥
apart f g ne e = let yes : same_fid f g ≡ true = ap (λ (x : Fid). same_fid x g) e ∙ same_fid-refl g in absurd cc

pub same_node-true : (a b : Node) → same_node a b ≡ true → a ≡ b
same_node-true Loc Loc e = refl
same_node-true (Server i) (Server j) e = ap Server (eqb-true i j e)
same_node-true (Client i) (Client j) e = ap Client (eqb-true i j e)
same_node-true (Admin i) (Admin j) e = ap Admin (eqb-true i j e)
same_node-true a b e = absurd cc

pub same_node-refl : (a : Node) → same_node a a ≡ true
same_node-refl Loc = refl
same_node-refl (Server i) = eq-eqb i i refl
same_node-refl (Client i) = eq-eqb i i refl
same_node-refl (Admin i) = eq-eqb i i refl

node_apart_by : (a b : Node) (t : Bool) → same_node a b ≡ t → (a ≡ b → ⊥) → t ≡ false
node_apart_by a b true e ne = absurd (ne (same_node-true a b e))
node_apart_by a b false e ne = refl

pub node_apart : (a b : Node) → (a ≡ b → ⊥) → same_node a b ≡ false
node_apart a b ne = node_apart_by a b (same_node a b) refl ne

number_of : Node → ℕ
number_of (Client i) = i
number_of n = 0

pub client_number : (i j : ℕ) → Client i ≡ Client j → i ≡ j
unfolding number_of
client_number i j e = ap number_of e

pub same_key-refl : (k : Key) → same_key k k ≡ true
same_key-refl k = rw (same_node-refl k.node, eq-eqb k.epoch k.epoch refl, eq-eqb k.number k.number refl) refl

abbrev pub a_key : Node → ℕ → ℕ → Key
a_key n e k = record { node = n; epoch = e; number = k }

pub same_key-true : (k l : Key) → same_key k l ≡ true → k ≡ l
same_key-true k l e =
    let p = both (same_node k.node l.node) (eqb k.epoch l.epoch && eqb k.number l.number) e in
    let q = both (eqb k.epoch l.epoch) (eqb k.number l.number) p.1 in
    ap (λ (n : Node). a_key n k.epoch k.number) (same_node-true k.node l.node p.0) ∙ (ap (λ (x : ℕ). a_key l.node x k.number) (eqb-true _ _ q.0) ∙ ap (a_key l.node l.epoch) (eqb-true _ _ q.1))

-- ---- pairs of epoch and number

abbrev pub Below : ℕ → ℕ → ℕ → ℕ → Type 0
Below e n d m = (e < d) ⊎ ((e ≡ d) × (n < m))

abbrev pub UpTo : ℕ → ℕ → ℕ → ℕ → Type 0
UpTo e n d m = (e < d) ⊎ ((e ≡ d) × (n ≤ m))

below_by : (e n d m : ℕ) (a : Bool) → ltb e d ≡ a → cond a true (eqb e d && ltb n m) ≡ true → Below e n d m
below_by e n d m true a t = inl (ltb-true e d a)
below_by e n d m false a t = let p = both (eqb e d) (ltb n m) t in inr (eqb-true e d p.0, ltb-true n m p.1)

pub below-true : (e n d m : ℕ) → pair_below e n d m ≡ true → Below e n d m
below-true e n d m t = below_by e n d m (ltb e d) refl t

less_by : (e d : ℕ) → (d ≡ e) ⊎ (d < e) → (e ≡ d → ⊥) → d < e
less_by e d (inl q) ne = absurd (ne (sym q))
less_by e d (inr l) ne = l

from_by : (e n d m : ℕ) (a b : Bool) → ltb e d ≡ a → eqb e d ≡ b → cond a true (b && ltb n m) ≡ false → UpTo d m e n
from_by e n d m true b a x t = absurd cc
from_by e n d m false true a x t = inr (sym (eqb-true e d x), ltb-false n m t)
from_by e n d m false false a x t =
    let ne : e ≡ d → ⊥ = λ q. let y : eqb e d ≡ true = eq-eqb e d q in absurd cc in
    inl (less_by e d (eq-or-lt_of_le (ltb-false e d a)) ne)

pub below-false : (e n d m : ℕ) → pair_below e n d m ≡ false → UpTo d m e n
below-false e n d m t = from_by e n d m (ltb e d) (eqb e d) refl refl t

pub up_to_below : (e n d m b k : ℕ) → UpTo e n d m → Below d m b k → Below e n b k
up_to_below e n d m b k (inl x) (inl y) = inl (omega arith)
up_to_below e n d m b k (inl x) (inr y) = let q : d ≡ b = y.0 in inl (omega arith)
up_to_below e n d m b k (inr x) (inl y) = let q : e ≡ d = x.0 in inl (omega arith)
up_to_below e n d m b k (inr x) (inr y) = let q : n ≤ m = x.1 in let r : m < k = y.1 in inr (x.0 ∙ y.0, omega arith)

pub below_up_to : (e n d m : ℕ) → Below e n d m → UpTo e n d m
below_up_to e n d m (inl x) = inl x
below_up_to e n d m (inr x) = let q : n < m = x.1 in inr (x.0, omega arith)

pub below_not : (e n d m : ℕ) → Below e n d m → UpTo d m e n → ⊥
below_not e n d m (inl x) (inl y) = absurd (omega arith)
below_not e n d m (inl x) (inr y) = let q : d ≡ e = y.0 in absurd (omega arith)
below_not e n d m (inr x) (inl y) = let q : e ≡ d = x.0 in absurd (omega arith)
below_not e n d m (inr x) (inr y) = let q : n < m = x.1 in let r : m ≤ n = y.1 in absurd (omega arith)

pub up_to_both : (e n d m : ℕ) → UpTo e n d m → UpTo d m e n → (e ≡ d) × (n ≡ m)
up_to_both e n d m (inl x) (inl y) = absurd (omega arith)
up_to_both e n d m (inl x) (inr y) = let q : d ≡ e = y.0 in absurd (omega arith)
up_to_both e n d m (inr x) (inl y) = let q : e ≡ d = x.0 in absurd (omega arith)
up_to_both e n d m (inr x) (inr y) = let q : n ≤ m = x.1 in let r : m ≤ n = y.1 in (x.0, omega arith)

pub up_to_same : (e n d m : ℕ) → e ≡ d → n ≡ m → UpTo e n d m
up_to_same e n d m p q = inr (p, omega arith)

pub up_to_next : (e n d m : ℕ) → UpTo e n d m → UpTo e n d (m + 1)
up_to_next e n d m (inl x) = inl x
up_to_next e n d m (inr x) = let q : n ≤ m = x.1 in inr (x.0, omega arith)

pub below_more : (e n d m b k : ℕ) → Below e n d m → UpTo d m b k → Below e n b k
below_more e n d m b k (inl x) (inl y) = inl (omega arith)
below_more e n d m b k (inl x) (inr y) = let q : d ≡ b = y.0 in inl (omega arith)
below_more e n d m b k (inr x) (inl y) = let q : e ≡ d = x.0 in inl (omega arith)
below_more e n d m b k (inr x) (inr y) = let q : n < m = x.1 in let r : m ≤ k = y.1 in inr (x.0 ∙ y.0, omega arith)

pub up_to_by : (e n d m : ℕ) → UpTo e n d m → Below e n d m ⊎ ((e ≡ d) × (n ≡ m))
up_to_by e n d m (inl x) = inl (inl x)
up_to_by e n d m (inr x) = elim (eq-or-lt_of_le x.1) [ inl q ↦ inr (x.0, q) | inr l ↦ inl (inr (x.0, l)) ]

-- what is not above stays behind the next number
pub next_not : (e n d m : ℕ) → UpTo e n d m → e ≡ d → n ≡ m + 1 → ⊥
next_not e n d m (inl x) p q = absurd (omega arith)
next_not e n d m (inr x) p q = let y : n ≤ m = x.1 in absurd (omega arith)

-- ---- a seat, and a call above it

abbrev pub Above : {R : Type 0} → Option (CallSeat R) → ℕ → ℕ → Type 0
Above {R} None e n = ⊤
Above {R} (Some seat) e n = Below seat.epoch seat.number e n

-- what is up to something above is above
pub above_up : {R : Type 0} (o : Option (CallSeat R)) (e n d m : ℕ) → Above o e n → UpTo e n d m → Above o d m
above_up {R} None e n d m a b = tt
above_up {R} (Some seat) e n d m a b = below_more _ _ _ _ _ _ a b

abbrev stands : {R : Type 0} → Option R → Bool → Bool → Admitted R
stands {R} reply a b = cond a older (cond b runs (repeated reply))

newer_by : {R : Type 0} (reply : Option R) (a b : Bool) → stands reply a b ≡ runs → b ≡ true
newer_by reply true b e = absurd cc
newer_by reply false true e = refl
newer_by None false false e = absurd cc
newer_by (Some x) false false e = absurd cc

-- a call that is to run is above its caller's seat
pub runs_above : {R : Type 0} (e n : ℕ) (o : Option (CallSeat R)) → paired e n o ≡ runs → Above o e n
runs_above e n None r = tt
runs_above e n (Some seat) r = below-true _ _ _ _ (newer_by seat.reply (pair_below e n seat.epoch seat.number) (pair_below seat.epoch seat.number e n) r)

not_by : {R : Type 0} (e n : ℕ) (seat : CallSeat R) (a b : Bool) → (stands seat.reply a b ≡ runs → ⊥) → pair_below e n seat.epoch seat.number ≡ a → pair_below seat.epoch seat.number e n ≡ b → Below seat.epoch seat.number e n → ⊥
not_by e n seat true b ne x y l = below_not _ _ _ _ l (below_up_to _ _ _ _ (below-true _ _ _ _ x))
not_by e n seat false true ne x y l = ne refl
not_by e n seat false false ne x y l = below_not _ _ _ _ l (below-false _ _ _ _ y)

-- and any other is not
pub not_above : {R : Type 0} (e n : ℕ) (o : Option (CallSeat R)) → (paired e n o ≡ runs → ⊥) → Above o e n → ⊥
not_above e n None ne a = ne refl
not_above e n (Some seat) ne a = not_by e n seat (pair_below e n seat.epoch seat.number) (pair_below seat.epoch seat.number e n) ne refl refl a

-- the reply of the seat's own call
pub record LastSeat {R : Type 0} (e n : ℕ) (o : Option (CallSeat R)) (r : R) : Type 0 where
  pub seat : CallSeat R
  pub at : o ≡ Some seat
  pub reply : seat.reply ≡ Some r
  pub epoch : seat.epoch ≡ e
  pub number : seat.number ≡ n

last_by : {R : Type 0} (e n : ℕ) (seat : CallSeat R) (r : Option R) (reply : R) (a b : Bool) → seat.reply ≡ r → stands r a b ≡ kept reply → pair_below e n seat.epoch seat.number ≡ a → pair_below seat.epoch seat.number e n ≡ b
    → LastSeat e n (Some seat) reply
last_by e n seat r reply true b is k x y = absurd cc
last_by e n seat r reply false true is k x y = absurd cc
last_by e n seat None reply false false is k x y = absurd cc
last_by e n seat (Some z) reply false false is k x y =
    let p : z ≡ reply = cc in
    let q = up_to_both seat.epoch seat.number e n (below-false _ _ _ _ x) (below-false _ _ _ _ y) in
    record { seat = seat; at = refl; reply = is ∙ ap Some p; epoch = q.0; number = q.1 }

pub kept_last : {R : Type 0} (e n : ℕ) (o : Option (CallSeat R)) (reply : R) → paired e n o ≡ kept reply → LastSeat e n o reply
kept_last e n None reply k = absurd cc
kept_last e n (Some seat) reply k = last_by e n seat seat.reply reply (pair_below e n seat.epoch seat.number) (pair_below seat.epoch seat.number e n) refl k refl refl

-- ---- the seats, after one was taken

pub exact_node : IsExact same_node
exact_node = record { exact = same_node-true; itself = same_node-refl }

pub own_seat : {R : Type 0} (x : CallSeat R) (seats : List (CallSeat R)) → call_seat x.caller (call_seated x seats) ≡ Some x
own_seat {R} x seats = found_own (caller_of {R = R}) same_node exact_node x seats

pub at_seat : {R : Type 0} (x : CallSeat R) (m : Node) (seats : List (CallSeat R)) (P : Option (CallSeat R) → Type 0) → (x.caller ≡ m → P (Some x)) → ((x.caller ≡ m → ⊥) → P (call_seat m seats)) → P (call_seat m (call_seated x seats))
at_seat {R} x m seats P a b = at_last (caller_of {R = R}) same_node exact_node x m seats P a b

-- ---- a map changed at one place

put_by : {A : Type 0} (t : Bool) (P : A → Type 0) (x y : A) → (t ≡ true → P x) → (t ≡ false → P y) → P (cond t x y)
put_by true P x y a b = a refl
put_by false P x y a b = b refl

pub at_put : {A : Type 0} (c j : ℕ) (P : A → Type 0) (x : A) (h : ℕ → A) → (c ≡ j → P x) → ((c ≡ j → ⊥) → P (h j)) → P (put c x h j)
at_put c j P x h a b = put_by (eqb c j) P x (h j) (λ t. a (eqb-true c j t)) (λ t. b (λ e. let y = eq-eqb c j e in absurd cc))

-- ---- files

found_cached_by : (b : Bool) (f : Fid) (u : CacheEntry) (us : List CacheEntry) (v : CacheEntry) → (find_cached f us ≡ Some v → same_fid v.fid f ≡ true) → same_fid u.fid f ≡ b → cond b (Some u) (find_cached f us) ≡ Some v → same_fid v.fid f ≡ true
found_cached_by true f u us v ih h e = let p : u ≡ v = cc in subst (λ (w : CacheEntry). same_fid w.fid f ≡ true) p h
found_cached_by false f u us v ih h e = ih e

pub found-cached-fid : (f : Fid) (vs : List CacheEntry) (v : CacheEntry) → find_cached f vs ≡ Some v → same_fid v.fid f ≡ true
found-cached-fid f [] v e = absurd cc
found-cached-fid f (u ∷ us) v e = found_cached_by (same_fid u.fid f) f u us v (λ h. found-cached-fid f us v h) refl e

abbrev without : Fid → List CacheEntry → List CacheEntry
without f cache = filter (λ e. not (same_fid e.fid f)) cache

-- a file other than the one that was taken out is found as before
left_by : (b t : Bool) (f g : Fid) (u : CacheEntry) (rest old : List CacheEntry) → same_fid u.fid f ≡ b → same_fid u.fid g ≡ t → (f ≡ g → ⊥) → find_cached g rest ≡ find_cached g old
    → find_cached g (cond (not b) (u ∷ rest) rest) ≡ cond t (Some u) (find_cached g old)
left_by true true f g u rest old a t ne ih = absurd (ne (sym (same_fid-true u.fid f a) ∙ same_fid-true u.fid g t))
left_by true false f g u rest old a t ne ih = ih
left_by false t f g u rest old a e ne ih = rw (e, ih) refl

found-left : (f g : Fid) (es : List CacheEntry) → (f ≡ g → ⊥) → find_cached g (without f es) ≡ find_cached g es
found-left f g [] ne = refl
found-left f g (u ∷ us) ne = left_by (same_fid u.fid f) (same_fid u.fid g) f g u (without f us) us refl refl ne (found-left f g us ne)

first_by : (t : Bool) (g : Fid) (n : CacheEntry) (es : List CacheEntry) (v : CacheEntry) → same_fid n.fid g ≡ t → cond t (Some n) (find_cached g (without n.fid es)) ≡ Some v → ((n.fid ≡ g) × (n ≡ v)) ⊎ ((n.fid ≡ g → ⊥) × (find_cached g es ≡ Some v))
first_by true g n es v t e = inl (same_fid-true n.fid g t, cc)
first_by false g n es v t e = let ne = apart n.fid g t in inr (ne, sym (found-left n.fid g es ne) ∙ e)

-- the entry that was used is found, or another that was there
pub found-first : (g : Fid) (n : CacheEntry) (es : List CacheEntry) (v : CacheEntry) → find_cached g (used_first n es) ≡ Some v → ((n.fid ≡ g) × (n ≡ v)) ⊎ ((n.fid ≡ g → ⊥) × (find_cached g es ≡ Some v))
found-first g n es v e = first_by (same_fid n.fid g) g n es v refl e

refreshed_fid_by : (c : Bool) (i : ℕ) (t : ReadStatus) (b : Option Body → Option Body) (v : CacheEntry) → (cond c (record v { index = i; status = t; body = b v.body }) v).fid ≡ v.fid
refreshed_fid_by true i t b v = refl
refreshed_fid_by false i t b v = refl

cached_by : (c : Bool) (h : CacheEntry → CacheEntry) (v : CacheEntry) (o : Option CacheEntry) → cond c (Some (h v)) (option_map h o) ≡ option_map h (cond c (Some v) o)
cached_by true h v o = refl
cached_by false h v o = refl

pub found-refreshed : (clock : ℕ) (f g : Fid) (i : ℕ) (t : ReadStatus) (b : Option Body → Option Body) (vs : List CacheEntry) → find_cached g (map (refreshed clock f i t b) vs) ≡ option_map (refreshed clock f i t b) (find_cached g vs)
found-refreshed clock f g i t b [] = refl
found-refreshed clock f g i t b (v ∷ vs) = rw (refreshed_fid_by (same_fid v.fid f && is_trusted clock v) i t b v, found-refreshed clock f g i t b vs) (cached_by (same_fid v.fid g) (refreshed clock f i t b) v (find_cached g vs))

-- ---- every call, every reply in a list of messages

-- where a volume is
abbrev pub IsLookup : LocCall → Type 0
IsLookup (loc.GetEntryById id) = ⊤
IsLookup (loc.GetEntryByName name) = ⊤
IsLookup call = ⊥

-- of the location database clients ask nothing but that, and nobody else asks it
abbrev pub IsSeek : Head → LocCall → Type 0
IsSeek head call = (head.to ≡ Loc) × ((is_client head.from ≡ true) × IsLookup call)

pub asks_lookup : (o : Operand) → IsLookup (question o)
asks_lookup (operands.Path p) = tt
asks_lookup (operands.Fid f) = tt

pub not_loc : (head : Head) (n : Node) (A : Type 0) → head.to ≡ n → same_node n Loc ≡ false → head.to ≡ Loc → A
not_loc head n A to ne is = absurd (let no : same_node n Loc ≡ true = subst (λ (q : Node). same_node q Loc ≡ true) (sym is ∙ to) refl in absurd cc)

abbrev pub OfCall : (Head → List ℕ → FsCall → Type 0) → Head → Carried → Type 0
OfCall P head (carried.Call user (ask.File call)) = P head user call
OfCall P head (carried.Call user (ask.Location call)) = IsSeek head call
OfCall P head (carried.Call user call) = ⊥
OfCall P head c = ⊤

abbrev pub OfReply : Type 0 → Carried → Type 0
OfReply P (carried.Refusal code) = P
OfReply P (carried.Reply reply) = P
OfReply P c = ⊤

abbrev pub OfNotice : Type 0 → Carried → Type 0
OfNotice P carried.Notice = P
OfNotice P c = ⊤

-- of a client, or of a server
abbrev pub OfClient : Node → Type 0 → Type 0
OfClient (Client n) X = X
OfClient n X = ⊤

abbrev pub OfServer : Node → Type 0 → Type 0
OfServer (Server n) X = X
OfServer n X = ⊤

-- the calls of clients, and replies and notices to clients
abbrev pub ByClient : (Head → List ℕ → FsCall → Type 0) → Head → List ℕ → FsCall → Type 0
ByClient P head user call = OfClient head.from (P head user call)

abbrev pub IfCall : (Head → List ℕ → FsCall → Type 0) → Message → Type 0
IfCall P m = OfCall (ByClient P) m.head m.carried

abbrev pub IfReply : (Message → Type 0) → Message → Type 0
IfReply P m = OfReply (OfClient m.head.to (P m)) m.carried

-- the calls of servers, and the replies to them
abbrev pub ByServer : (Head → List ℕ → FsCall → Type 0) → Head → List ℕ → FsCall → Type 0
ByServer P head user call = OfServer head.from (P head user call)

abbrev pub IfBack : (Head → List ℕ → FsCall → Type 0) → Message → Type 0
IfBack P m = OfCall (ByServer P) m.head m.carried

abbrev pub IfDone : (Message → Type 0) → Message → Type 0
IfDone P m = OfReply (OfServer m.head.to (P m)) m.carried

pub of_client : (n : Node) (X Y : Type 0) → (X → Y) → OfClient n X → OfClient n Y
of_client (Client n) X Y w h = w h
of_client (Server n) X Y w h = tt
of_client (Admin n) X Y w h = tt
of_client Loc X Y w h = tt

pub of_server : (n : Node) (X Y : Type 0) → (X → Y) → OfServer n X → OfServer n Y
of_server (Client n) X Y w h = tt
of_server (Server n) X Y w h = w h
of_server (Admin n) X Y w h = tt
of_server Loc X Y w h = tt

pub server_any : (n : Node) (X : Type 0) → X → OfServer n X
server_any (Client n) X h = tt
server_any (Server n) X h = h
server_any (Admin n) X h = tt
server_any Loc X h = tt

pub by_client : (j : ℕ) (n : Node) (X : Type 0) → n ≡ Client j → OfClient n X → X
by_client j n X e h = subst (λ (m : Node). OfClient m X) e h

pub by_server : (j : ℕ) (n : Node) (X : Type 0) → n ≡ Server j → OfServer n X → X
by_server j n X e h = subst (λ (m : Node). OfServer m X) e h

abbrev pub Each : (Message → Type 0) → List Message → Type 0
Each P [] = ⊤
Each P (m ∷ ms) = P m × Each P ms

pub each_more : (P : Message → Type 0) (a b : List Message) → Each P a → Each P b → Each P (a ++ b)
each_more P [] b h k = k
each_more P (m ∷ a) b h k = (h.0, each_more P a b h.1 k)

pub each_map : (P Q : Message → Type 0) → ((m : Message) → P m → Q m) → (a : List Message) → Each P a → Each Q a
each_map P Q w [] h = tt
each_map P Q w (m ∷ a) h = (w m h.0, each_map P Q w a h.1)

pub each_at : (P : Message → Type 0) (a : List Message) (p : ℕ) (m : Message) → message_at a p ≡ Some m → Each P a → P m
each_at P [] p m e h = absurd cc
each_at P (x ∷ a) zero m e h = absurd cc
each_at P (x ∷ a) (suc zero) m e h = let one : x ≡ m = cc in subst P one h.0
each_at P (x ∷ a) (suc (suc p)) m e h = each_at P a (suc p) m e h.1

pub of_call : (P Q : Head → List ℕ → FsCall → Type 0) → ((head : Head) (user : List ℕ) (call : FsCall) → P head user call → Q head user call) → (head : Head) (c : Carried) → OfCall P head c → OfCall Q head c
of_call P Q w head (carried.Call user (ask.File call)) h = w head user call h
of_call P Q w head (carried.Call user (ask.Volume call)) h = absurd h
of_call P Q w head (carried.Call user (ask.Location call)) h = h
of_call P Q w head (carried.Refusal code) h = tt
of_call P Q w head (carried.Reply reply) h = tt
of_call P Q w head carried.Notice h = tt

pub if_call : (P Q : Head → List ℕ → FsCall → Type 0) → ((head : Head) (user : List ℕ) (call : FsCall) → P head user call → Q head user call) → (m : Message) → IfCall P m → IfCall Q m
if_call P Q w m h = of_call (ByClient P) (ByClient Q) (λ head user call. of_client head.from (P head user call) (Q head user call) (w head user call)) m.head m.carried h

pub if_back : (P Q : Head → List ℕ → FsCall → Type 0) → ((head : Head) (user : List ℕ) (call : FsCall) → P head user call → Q head user call) → (m : Message) → IfBack P m → IfBack Q m
if_back P Q w m h = of_call (ByServer P) (ByServer Q) (λ head user call. of_server head.from (P head user call) (Q head user call) (w head user call)) m.head m.carried h

pub of_reply : (P Q : Type 0) → (P → Q) → (c : Carried) → OfReply P c → OfReply Q c
of_reply P Q w (carried.Call user call) h = tt
of_reply P Q w (carried.Refusal code) h = w h
of_reply P Q w (carried.Reply reply) h = w h
of_reply P Q w carried.Notice h = tt

pub if_reply : (P Q : Message → Type 0) → ((m : Message) → P m → Q m) → (m : Message) → IfReply P m → IfReply Q m
if_reply P Q w m h = of_reply (OfClient m.head.to (P m)) (OfClient m.head.to (Q m)) (of_client m.head.to (P m) (Q m) (w m)) m.carried h

pub if_done : (P Q : Message → Type 0) → ((m : Message) → P m → Q m) → (m : Message) → IfDone P m → IfDone Q m
if_done P Q w m h = of_reply (OfServer m.head.to (P m)) (OfServer m.head.to (Q m)) (of_server m.head.to (P m) (Q m) (w m)) m.carried h

pub of_notice : (P Q : Type 0) → (P → Q) → (c : Carried) → OfNotice P c → OfNotice Q c
of_notice P Q w (carried.Call user call) h = tt
of_notice P Q w (carried.Refusal code) h = tt
of_notice P Q w (carried.Reply reply) h = tt
of_notice P Q w carried.Notice h = w h

-- further messages change no place
pub at_more : (a b : List Message) (p : ℕ) (m : Message) → message_at a p ≡ Some m → message_at (a ++ b) p ≡ Some m
at_more [] b p m e = absurd cc
at_more (x ∷ a) b zero m e = absurd cc
at_more (x ∷ a) b (suc zero) m e = e
at_more (x ∷ a) b (suc (suc p)) m e = at_more a b (suc p) m e

-- ---- numbers

pub raised_up_to : (t : Bool) (i base k : ℕ) → (t ≡ true → i ≤ k) → base ≤ k → raised t i base ≤ k
raised_up_to true i base k a b = max-le (a refl) b
raised_up_to false i base k a b = b

pub some_of : {A : Type 0} (x y : A) → Some x ≡ Some y → x ≡ y
some_of x y e = cc

-- ---- what a server runs

-- what a server runs is to its boot, and above its caller's seat
admitted_by : (t : Bool) (boot : ℕ) (seats : List Seat) (head : Head) → nat_eq head.boot boot ≡ t → cond t (paired head.epoch head.number (call_seat head.from seats)) (pairs.wrong_boot boot) ≡ pairs.runs → (head.boot ≡ boot) × Above (call_seat head.from seats) head.epoch head.number
admitted_by true boot seats head t e = (eqb-true head.boot boot t, runs_above head.epoch head.number (call_seat head.from seats) e)
admitted_by false boot seats head t e = absurd cc

pub runs_admitted : (boot : ℕ) (seats : List Seat) (head : Head) → admitted boot seats head ≡ pairs.runs → (head.boot ≡ boot) × Above (call_seat head.from seats) head.epoch head.number
runs_admitted boot seats head e = admitted_by (nat_eq head.boot boot) boot seats head refl e
