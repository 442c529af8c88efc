-- How long the lists are after each edit, and what holds of them.
use Rattle.std.proofs.Common.{◌≡◌, ℕ, suc, ◌+◌, ◌<◌, ◌≤◌, Bool, true, false, not, List, [], ◌∷◌, length, filter, drop, get_or, drop-cons, if◌then◌else◌, refl, ap, sym, ◌∙◌, arith, length-append}
use Rattle.std.specs.Ordering.{is_lt}
use Rattle.afs_num.specs.Fids.{fid_order}
use Rattle.afs_num.specs.declared.types.Fid.{Fid}
use Rattle.afs_num.specs.declared.types.Node.{Node}
use Rattle.spec_breaks.specs.declared.types.Promise.{Promise}
use Rattle.afs_promise.specs.declared.types.Grant.{Grant}
use Rattle.spec_breaks.specs.Promises.{is_promise, without_promise, with_promise, with_promises, is_hit, hits, left, promise_put, by_fid, hits_on, left_off, promise_on_volume}
use Rattle.afs_promise.specs.Granting.{promises_in}

pub filter_few : (q : Promise → Bool) (ps : List Promise) → length (filter q ps) ≤ length ps
filter_few q [] = omega arith
filter_few q (p ∷ ps) = by (q p) (filter_few q ps)
  where
    by : (t : Bool) → length (filter q ps) ≤ length ps → length (if t then p ∷ filter q ps else filter q ps) ≤ length (p ∷ ps)
    by true later = omega (arith, later)
    by false later = omega (arith, later)

pub filter_both : (q : Promise → Bool) (ps : List Promise) → length (filter q ps) + length (filter (λ p. not (q p)) ps) ≡ length ps
filter_both q [] = refl
filter_both q (p ∷ ps) = by (q p) (filter_both q ps)
  where
    by : (t : Bool) → length (filter q ps) + length (filter (λ p. not (q p)) ps) ≡ length ps → length (if t then p ∷ filter q ps else filter q ps) + length (if not t then p ∷ filter (λ p. not (q p)) ps else filter (λ p. not (q p)) ps) ≡ length (p ∷ ps)
    by true later = omega (arith, later)
    by false later = omega (arith, later)

pub with_few : (client : Node) (expiry : ℕ) (fid : Fid) (ps : List Promise) → length (with_promise client expiry fid ps) ≤ length ps + 1
with_few client expiry fid ps = omega (arith, length-append (without_promise client fid ps) (record { client = client; fid = fid; expiry = expiry } ∷ []), filter_few (λ p. not (is_promise client fid p)) ps)

placed_long : (p : Promise) (qs : List Promise) → length (promise_put p qs) ≡ length qs + 1
placed_long p [] = refl
placed_long p (q ∷ qs) = by (is_lt (fid_order q.fid p.fid)) (placed_long p qs)
  where
    by : (t : Bool) → length (promise_put p qs) ≡ length qs + 1 → length (if t then q ∷ promise_put p qs else p ∷ q ∷ qs) ≡ length (q ∷ qs) + 1
    by true later = omega (arith, later)
    by false later = omega arith

pub by_fid_long : (ps : List Promise) → length (by_fid ps) ≡ length ps
by_fid_long [] = refl
by_fid_long (p ∷ ps) = omega (arith, placed_long p (by_fid ps), by_fid_long ps)

pub promises_long : (gs : List Grant) → length (promises_in gs) ≡ length gs
promises_long [] = refl
promises_long (g ∷ gs) = omega (arith, promises_long gs)

-- of a volume's promises as many go as were held on it
pub volume_long : (volume : ℕ) (gs : List Grant) (ps : List Promise) → promises_in gs ≡ by_fid (hits_on volume ps) → length gs + length (left_off volume ps) ≡ length ps
volume_long volume gs ps e = omega (arith, promises_long gs, ap (λ (l : List Promise). length l) e, by_fid_long (hits_on volume ps), filter_both (promise_on_volume volume) ps)

pub next_granted : (client : Node) (expiry i : ℕ) (fids : List Fid) (d : Fid) (ps new all : List Promise) → i < length fids → new ≡ with_promise client expiry (get_or fids i d) ps → with_promises client expiry (drop i fids) ps ≡ all → with_promises client expiry (drop (i + 1) fids) new ≡ all
next_granted client expiry i fids d ps new all lt e rest =
    let one : drop (i + 1) fids ≡ drop (suc i) fids = ap (λ (n : ℕ). drop n fids) (let z : i + 1 ≡ suc i = omega arith in z) in
    ap (λ (l : List Fid). with_promises client expiry l new) one ∙ (ap (with_promises client expiry (drop (suc i) fids)) e ∙ (sym (ap (λ (l : List Fid). with_promises client expiry l ps) (drop-cons fids i d lt)) ∙ rest))

pub next_long : (client : Node) (expiry : ℕ) (fid : Fid) (ps new : List Promise) → new ≡ with_promise client expiry fid ps → length new ≤ length ps + 1
next_long client expiry fid ps new e = omega (arith, ap (λ (l : List Promise). length l) e, with_few client expiry fid ps)

-- of a fid's promises as many go as don't stay
pub hits_both : (except : Node) (fid : Fid) (ps : List Promise) → length (hits except fid ps) + length (left except fid ps) ≡ length ps
hits_both except fid ps = filter_both (is_hit except fid) ps

pub volume_both : (volume : ℕ) (ps : List Promise) → length (by_fid (hits_on volume ps)) + length (left_off volume ps) ≡ length ps
volume_both volume ps = omega (arith, by_fid_long (hits_on volume ps), filter_both (promise_on_volume volume) ps)

pub with_all_few : (client : Node) (expiry : ℕ) (fids : List Fid) (ps : List Promise) → length (with_promises client expiry fids ps) ≤ length ps + length fids
with_all_few client expiry [] ps = omega arith
with_all_few client expiry (fid ∷ fids) ps = omega (arith, with_all_few client expiry fids (with_promise client expiry fid ps), with_few client expiry fid ps)
