-- What a host does to what its node remembers of callers, of whatever kind it is.
use Rattle.std.proofs.Common.{◌≡◌, ℕ, Bool, true, false, List, [], ◌∷◌, Option, Some, None, sym, subst}
use Rattle.std.specs.Prelude.{⊤, filter}
use Rattle.std.specs.List.{AllByRecursion}
use Rattle.afs_num.specs.declared.messages.Message.{Message}
use Rattle.afs_num.specs.declared.messages.Received.TheVariants.{Whole}
use Rattle.afs_num.specs.declared.types.Node.{Node}
use Rattle.spec_rows.specs.Hosts.{at_rest, begun_from, comes_up, crashed, ends, fails_early, fails_midway, in_boot, in_step, is_full, restarted, served, served_by, without_boot_record, struck, Blow, Fall, Host, NodeKind, Luck, Outcome}
use Rattle.spec_rows.specs.Steps.{Begun}
use Rattle.law_keys.specs.Ran.{ran_found, ran_restarted, ran_served, that_changed, unless_early, unless_hit, RanCall}
use Rattle.law_keys.specs.Once.{AreInOrder}
use Rattle.law_keys.proofs.Memories.{all_follow, done_known, keeps_all_stored, keeps_known, nothing_stored, other_known, other_stored, rises_known, rises_stored, stores_stored, AreKnown, AreStored, Finds, FoundNothing, Keeps, Memory, Rises, Steps}

-- the calls that ran before others, with these, the last of them first
abbrev pub grown : List RanCall → List RanCall → List RanCall
grown before [] = before
grown before (r ∷ rs) = grown (r ∷ before) rs

abbrev pub AreOf : Node → List RanCall → Type 0
AreOf me rs = AllByRecursion (λ (r : RanCall). r.callee ≡ me) rs

-- ---- a step, and what is found behind an interrupted one

pub record AreAfter (me : Node) (m : Memory) (before new : List RanCall) : Type 0 where
  pub order : AreInOrder before new
  pub own : AreOf me new
  pub stored : AreStored me m (grown before new)

steps_after : (me : Node) (a b : Memory) (before new : List RanCall) → Steps me a b new → AreStored me a before → AreKnown me a before → AreAfter me b before new
steps_after me a b before [] k stored known = record { order = tt; own = tt; stored = keeps_all_stored me a b before k stored }
steps_after me a b before (r ∷ []) k stored known = record {
  order = ((all_follow me a before r k.runs stored known, k.runs.named), tt);
  own = (k.runs.callee, tt);
  stored = stores_stored me a b before r k.runs k.stores known.lower stored;
}
steps_after me a b before (r ∷ q ∷ rs) k stored known = absurd k

steps_known : (me : Node) (a b : Memory) (before new : List RanCall) → Steps me a b new → AreKnown me a before → AreKnown me b (grown before new)
steps_known me a b before [] k known = keeps_known me a b before k known
steps_known me a b before (r ∷ []) k known = done_known me a b before r k known
steps_known me a b before (r ∷ q ∷ rs) k known = absurd k

finds_after : (me : Node) (a b : Memory) (before new : List RanCall) → Finds me a b new → AreStored me a before → AreKnown me a before → AreAfter me b before new
finds_after me a b before [] k stored known = record { order = tt; own = tt; stored = nothing_stored me a b before k stored }
finds_after me a b before (r ∷ []) k stored known = record {
  order = ((all_follow me a before r k.runs stored known, k.runs.named), tt);
  own = (k.runs.callee, tt);
  stored = stores_stored me a b before r k.runs k.stores known.lower stored;
}
finds_after me a b before (r ∷ q ∷ rs) k stored known = absurd k

-- ---- calls of other callees

apart_stored : (me : Node) (m : Memory) (before new : List RanCall) → AllByRecursion (λ (r : RanCall). r.callee ≡ me → ⊥) new → AreStored me m before → AreStored me m (grown before new)
apart_stored me m before [] o h = h
apart_stored me m before (r ∷ rs) o h = apart_stored me m (r ∷ before) rs o.1 (other_stored me m before r o.0 h)

apart_known : (me : Node) (m : Memory) (before new : List RanCall) → AllByRecursion (λ (r : RanCall). r.callee ≡ me → ⊥) new → AreKnown me m before → AreKnown me m (grown before new)
apart_known me m before [] o h = h
apart_known me m before (r ∷ rs) o h = apart_known me m (r ∷ before) rs o.1 (other_known me m before r o.0 h)

-- ---- hosts

-- what it has in memory counts: it is up, or it is seen as before an interrupted step
abbrev pub Counts : Option Fall → Type 0
Counts None = ⊤
Counts (Some (in_step m clock b)) = ⊤
Counts (Some at_rest) = ⊥
Counts (Some in_boot) = ⊥

-- a kind of node that remembers its callers
pub record Remembers {S : Type 0} (kind : NodeKind S) (ran : S → ℕ → Message → List RanCall) (mem : S → Memory) : Type 0 where
  pub steps : (s : S) (clock place : ℕ) (m : Message) → Steps kind.me (mem s) (mem (kind.row s clock place (Whole m)).state) (ran s clock m)
  pub finds : (s : S) (clock : ℕ) (m : Message) → Finds kind.me (mem s) (mem (kind.begun_after s clock m).state) (filter that_changed (ran s clock m))
  pub again : (s : S) → FoundNothing (mem s) (mem (kind.begun_again s).state)
  pub rises : (clock count : ℕ) (f : Begun S) → Rises (mem f.state) (mem (kind.start clock count f).state)

pub record HostKnows {S : Type 0} (me : Node) (mem : S → Memory) (h : Host S) (before : List RanCall) : Type 0 where
  pub stored : AreStored me (mem h.state) before
  pub known : Counts h.down → AreKnown me (mem h.state) before

pub record Goes {S : Type 0} (me : Node) (mem : S → Memory) (h : Host S) (before new : List RanCall) : Type 0 where
  pub order : AreInOrder before new
  pub own : AreOf me new
  pub knows : HostKnows me mem h (grown before new)

pub still_goes : {S : Type 0} (me : Node) (mem : S → Memory) (h : Host S) (before : List RanCall) → HostKnows me mem h before → Goes me mem h before []
still_goes {S} me mem h before k = record { order = tt; own = tt; knows = k }

pub apart_knows : {S : Type 0} (me : Node) (mem : S → Memory) (h : Host S) (before new : List RanCall) → AllByRecursion (λ (r : RanCall). r.callee ≡ me → ⊥) new → HostKnows me mem h before → HostKnows me mem h (grown before new)
apart_knows {S} me mem h before new o k = record { stored = apart_stored me (mem h.state) before new o k.stored; known = λ c. apart_known me (mem h.state) before new o (k.known c) }

counted : (o : Option Fall) → o ≡ None → Counts o
counted o e = subst Counts (sym e) tt

module _ {S : Type 0} (kind : NodeKind S) (ran : S → ℕ → Message → List RanCall) (mem : S → Memory) (r : Remembers kind ran mem) where
  served_goes : (h : Host S) (clock place : ℕ) (m : Message) (o : Option Blow) (before : List RanCall) → h.down ≡ None → HostKnows kind.me mem h before → Goes kind.me mem (served_by kind h clock place m o).host before (unless_hit o (ran h.state clock m))
  served_goes h clock place m None before up k =
      let known : AreKnown kind.me (mem h.state) before = k.known (counted h.down up) in
      let z = steps_after kind.me (mem h.state) (mem (kind.row h.state clock place (Whole m)).state) before (ran h.state clock m) (r.steps h.state clock place m) k.stored known in
      record { order = z.order; own = z.own; knows = record { stored = z.stored; known = λ c. steps_known kind.me (mem h.state) (mem (kind.row h.state clock place (Whole m)).state) before (ran h.state clock m) (r.steps h.state clock place m) known } }
  served_goes h clock place m (Some b) before up k = record { order = tt; own = tt; knows = record { stored = k.stored; known = λ c. k.known (counted h.down up) } }

  pub serve_goes : (h : Host S) (clock place : ℕ) (luck : Luck) (m : Message) (before : List RanCall) → h.down ≡ None → HostKnows kind.me mem h before → Goes kind.me mem (served kind h clock place luck m).host before (ran_served kind ran h clock luck m)
  serve_goes h clock place luck m before up k = served_goes h clock place m (struck h.armed luck (kind.device_calls h.state clock (Whole m))) before up k

  pub crash_goes : (h : Host S) (before : List RanCall) → HostKnows kind.me mem h before → Goes kind.me mem (crashed kind h).host before []
  crash_goes h before k = record { order = tt; own = tt; knows = record { stored = k.stored; known = λ c. absurd c } }

  begun_after : (s : S) (after : Bool) (fall : Fall) (before : List RanCall) → AreStored kind.me (mem s) before → (Counts (Some fall) → AreKnown kind.me (mem s) before) → AreAfter kind.me (mem (begun_from kind s after fall).state) before (ran_found ran s after fall)
  begun_after s after at_rest before stored known = record { order = tt; own = tt; stored = stored }
  begun_after s false (in_step m clock b) before stored known = record { order = tt; own = tt; stored = stored }
  begun_after s true (in_step m clock b) before stored known = finds_after kind.me (mem s) (mem (kind.begun_after s clock m).state) before (filter that_changed (ran s clock m)) (r.finds s clock m) stored (known tt)
  begun_after s false in_boot before stored known = record { order = tt; own = tt; stored = stored }
  begun_after s true in_boot before stored known = record { order = tt; own = tt; stored = nothing_stored kind.me (mem s) (mem (kind.begun_again s).state) before (r.again s) stored }

  ends_go : (h : Host S) (clock count : ℕ) (f : Begun S) (fall : Fall) (o : Outcome) (before new : List RanCall) → h.down ≡ Some fall → HostKnows kind.me mem h before → AreAfter kind.me (mem f.state) before new → Goes kind.me mem (ends kind h clock count f fall o).host before (unless_early o new)
  ends_go h clock count f fall comes_up before new down k z = record {
    order = z.order;
    own = z.own;
    knows = record {
      stored = rises_stored kind.me (mem f.state) (mem (kind.start clock count f).state) (grown before new) (r.rises clock count f) z.stored;
      known = λ c. rises_known kind.me (mem f.state) (mem (kind.start clock count f).state) (grown before new) (r.rises clock count f) z.stored;
    };
  }
  ends_go h clock count f fall fails_early before new down k z = record { order = tt; own = tt; knows = record { stored = k.stored; known = λ c. k.known (subst Counts (sym down) c) } }
  ends_go h clock count f fall fails_midway before new down k z = record { order = z.order; own = z.own; knows = record { stored = z.stored; known = λ c. absurd c } }
  ends_go h clock count f fall is_full before new down k z = record { order = z.order; own = z.own; knows = record { stored = z.stored; known = λ c. absurd c } }

  pub restart_goes : (h : Host S) (clock count : ℕ) (after : Bool) (o : Outcome) (fall : Fall) (before : List RanCall) → h.down ≡ Some fall → HostKnows kind.me mem h before → Goes kind.me mem (restarted kind h clock count after o fall).host before (ran_restarted kind ran h after o fall)
  restart_goes h clock count after o fall before down k =
      ends_go h clock count (begun_from kind h.state after fall) fall (without_boot_record (kind.can_start (begun_from kind h.state after fall).state) o) before (ran_found ran h.state after fall) down k
      (begun_after h.state after fall before k.stored (λ c. k.known (subst Counts (sym down) c)))

-- a step that runs no call
pub keeps_goes : {S : Type 0} (me : Node) (mem : S → Memory) (h g : Host S) (before : List RanCall) → Keeps (mem h.state) (mem g.state) → (Counts g.down → Counts h.down) → HostKnows me mem h before → Goes me mem g before []
keeps_goes {S} me mem h g before k down is = record { order = tt; own = tt; knows = record { stored = keeps_all_stored me (mem h.state) (mem g.state) before k is.stored; known = λ c. keeps_known me (mem h.state) (mem g.state) before k (is.known (down c)) } }
