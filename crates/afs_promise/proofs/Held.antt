-- What is held after an edit of the latest grants.
use Rattle.std.proofs.Common.{◌≡◌, ℕ, ◌+◌, ◌<◌, ◌&&◌, Bool, true, false, List, [], ◌∷◌, ◌++◌, Option, Some, None, nat_eq, if◌then◌else◌, refl, ap, sym, ◌∙◌, arith}
use Rattle.std.proofs.lemmas.Bool.Decides.{nat_tests}
use Rattle.afs_num.specs.Fids.{same_fid}
use Rattle.afs_num.specs.Nodes.{same_node}
use Rattle.afs_num.specs.declared.types.Fid.{Fid}
use Rattle.afs_num.specs.declared.types.Node.{Node}
use Rattle.afs_num.specs.declared.types.Node.TheVariants.{Loc, Server, Client, Admin}
use Rattle.spec_breaks.specs.declared.types.Promise.{Promise}
use Rattle.afs_promise.specs.declared.types.Grant.{Grant}
use Rattle.afs_promise.specs.declared.types.Holding.{Holding}
use Rattle.spec_breaks.specs.Promises.{is_promise, without_promise}
use Rattle.afs_promise.specs.Granting.{holding, holding_in, same_holding, has_order, is_held, held, Rises}

nats_flip : (i j : ℕ) → nat_eq i j ≡ nat_eq j i
nats_flip i j = grind (arith, nat_tests)

fids_flip : (f g : Fid) → ((nat_eq f.volume g.volume) && ((nat_eq f.vnode g.vnode) && (nat_eq f.unique g.unique))) ≡ same_fid g f
fids_flip f g = rw (nats_flip f.volume g.volume, nats_flip f.vnode g.vnode, nats_flip f.unique g.unique) refl

numbered_flip : (i j : ℕ) (f g : Fid) → ((nat_eq i j) && ((nat_eq f.volume g.volume) && ((nat_eq f.vnode g.vnode) && (nat_eq f.unique g.unique)))) ≡ (nat_eq j i && same_fid g f)
numbered_flip i j f g = rw (fids_flip f g, nats_flip i j) refl

-- two keys are the same where the clients and the fids are
pub same_key : (c d : Node) (f g : Fid) → same_holding (holding c f) (holding d g) ≡ (same_node d c && same_fid g f)
same_key Loc Loc f g = fids_flip f g
same_key Loc (Server j) f g = refl
same_key Loc (Client j) f g = refl
same_key Loc (Admin j) f g = refl
same_key (Server i) Loc f g = refl
same_key (Server i) (Server j) f g = numbered_flip i j f g
same_key (Server i) (Client j) f g = refl
same_key (Server i) (Admin j) f g = refl
same_key (Client i) Loc f g = refl
same_key (Client i) (Server j) f g = refl
same_key (Client i) (Client j) f g = numbered_flip i j f g
same_key (Client i) (Admin j) f g = refl
same_key (Admin i) Loc f g = refl
same_key (Admin i) (Server j) f g = refl
same_key (Admin i) (Client j) f g = refl
same_key (Admin i) (Admin j) f g = numbered_flip i j f g

left_out : (c : Node) (f : Fid) (p : Promise) (ps qs : List Promise) (is was now : Bool) → is_promise c f p ≡ is → now ≡ (if is then false else was) → qs ≡ without_promise c f ps
    → (if now then p ∷ qs else qs) ≡ without_promise c f (if was then p ∷ ps else ps)
left_out c f p ps qs true true now is e later = rw (e, is) later
left_out c f p ps qs true false now is e later = rw e later
left_out c f p ps qs false true now is e later = rw (e, is) (ap (λ (x : List Promise). p ∷ x) later)
left_out c f p ps qs false false now is e later = rw e later

unheld : (k : Holding) (g : Grant) (new old : Option Grant) (same : Bool) → new ≡ (if same then None else old) → has_order g.order new ≡ (if same then false else has_order g.order old)
unheld k g new old true e = ap (λ (x : Option Grant). has_order g.order x) e
unheld k g new old false e = ap (λ (x : Option Grant). has_order g.order x) e

-- once the client's latest grant on the fid is gone, it holds nothing there
pub removed : (new old : Holding → Option Grant) (c : Node) (f : Fid) → ((q : Holding) → new q ≡ (if same_holding (holding c f) q then None else old q)) → (log : List Grant) → held new log ≡ without_promise c f (held old log)
removed new old c f h [] = refl
removed new old c f h (g ∷ gs) =
    left_out c f g.promise (held old gs) (held new gs) (same_holding (holding c f) (holding_in g)) (is_held old g) (is_held new g)
    (sym (same_key c g.promise.client f g.promise.fid)) (unheld (holding c f) g (new (holding_in g)) (old (holding_in g)) (same_holding (holding c f) (holding_in g)) (h (holding_in g))) (removed new old c f h gs)

replaced_by : (x g : Grant) (new old : Option Grant) (same : Bool) → g.order < x.order → new ≡ (if same then Some x else old) → has_order g.order new ≡ (if same then false else has_order g.order old)
replaced_by x g new old true lt e = ap (λ (o : Option Grant). has_order g.order o) e ∙ (let no : nat_eq x.order g.order ≡ false = grind (arith, nat_tests, lt) in no)
replaced_by x g new old false lt e = ap (λ (o : Option Grant). has_order g.order o) e

-- a later grant takes the place of the client's old one
pub replaced : (new old : Holding → Option Grant) (c : Node) (f : Fid) (x : Grant) (low : ℕ) → ((q : Holding) → new q ≡ (if same_holding (holding c f) q then Some x else old q)) → (log : List Grant) → Rises low x.order log → held new log ≡ without_promise c f (held old log)
replaced new old c f x low h [] up = refl
replaced new old c f x low h (g ∷ gs) up =
    left_out c f g.promise (held old gs) (held new gs) (same_holding (holding c f) (holding_in g)) (is_held old g) (is_held new g)
    (sym (same_key c g.promise.client f g.promise.fid)) (replaced_by x g (new (holding_in g)) (old (holding_in g)) (same_holding (holding c f) (holding_in g)) (rises_below g.order x.order gs up.1) (h (holding_in g))) (replaced new old c f x (g.order + 1) h gs up.1)
  where
    rises_below : (n high : ℕ) (gs : List Grant) → Rises (n + 1) high gs → n < high
    rises_below n high [] up = omega (arith, up)
    rises_below n high (g ∷ gs) up = omega (arith, up.0, rises_below g.order high gs up.1)

-- the latest grant stands last
pub held_last : (latest : Holding → Option Grant) (log : List Grant) (g : Grant) → is_held latest g ≡ true → held latest (log ++ g ∷ []) ≡ held latest log ++ g.promise ∷ []
held_last latest [] g is = rw is refl
held_last latest (h ∷ hs) g is = front (is_held latest h) h.promise (held latest hs) (held latest (hs ++ g ∷ [])) g.promise (held_last latest hs g is)
  where
    front : (b : Bool) (p : Promise) (ps qs : List Promise) (last : Promise) → qs ≡ ps ++ last ∷ [] → (if b then p ∷ qs else qs) ≡ (if b then p ∷ ps else ps) ++ last ∷ []
    front true p ps qs last e = ap (λ (x : List Promise). p ∷ x) e
    front false p ps qs last e = e
