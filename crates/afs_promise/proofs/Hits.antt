-- The oldest promise that a change withdraws is the first one in the order of granting.
use Rattle.std.proofs.Common.{◌≡◌, ◌⊎◌, inl, inr, ℕ, ◌+◌, ◌≤◌, ◌||◌, Bool, true, false, not, List, [], ◌∷◌, ◌++◌, length, filter, Option, Some, None, nat_eq, nat_lt, if◌then◌else◌, refl, ap, sym, subst, ◌∙◌, arith, length-append}
use Rattle.std.specs.List.{list_any}
use Rattle.std.proofs.lemmas.Bool.Decides.{nat_tests}
use Rattle.std.proofs.lemmas.List.Elements.{filter-append}
use Rattle.afs_num.specs.Fids.{same_fid}
use Rattle.afs_num.specs.Nodes.{same_node}
use Rattle.afs_num.specs.declared.types.Fid.{Fid}
use Rattle.afs_num.specs.declared.types.Node.{Node}
use Rattle.afs_num.specs.declared.types.Node.TheVariants.{Loc, Server, Client, Admin}
use Rattle.spec_breaks.specs.declared.types.Promise.{Promise}
use Rattle.afs_promise.specs.declared.types.Grant.{Grant}
use Rattle.afs_promise.specs.declared.types.Holding.{Holding}
use Rattle.spec_breaks.specs.Promises.{without_promise, is_hit, hits, left}
use Rattle.afs_promise.specs.Granting.{holding, holding_in, same_holding, has_order, is_held, held, IsIn, hit_of, earlier, oldest, IsLog}
use Rattle.afs_promise.proofs.Held.{removed, same_key}
use Rattle.afs_promise.proofs.Split.{IsWithout, Split, split, and_both, holding_itself}

nats_are_one : {i j : ℕ} → nat_eq i j ≡ true → i ≡ j
nats_are_one {i} {j} e = grind (arith, nat_tests, e)

pub nodes_are_one : (a b : Node) → same_node a b ≡ true → a ≡ b
nodes_are_one Loc Loc e = refl
nodes_are_one (Server i) (Server j) e = ap Server (nats_are_one e)
nodes_are_one (Client i) (Client j) e = ap Client (nats_are_one e)
nodes_are_one (Admin i) (Admin j) e = ap Admin (nats_are_one e)
nodes_are_one a b e = absurd cc

abbrev made : ℕ → ℕ → ℕ → Fid
made a b c = record { volume = a; vnode = b; unique = c }

pub fids_are_one : (f g : Fid) → same_fid f g ≡ true → f ≡ g
fids_are_one f g e =
    let a = and_both (nat_eq f.volume g.volume) _ e in
    let b = and_both (nat_eq f.vnode g.vnode) (nat_eq f.unique g.unique) a.1 in
    parts f.volume g.volume f.vnode g.vnode f.unique g.unique (nats_are_one a.0) (nats_are_one b.0) (nats_are_one b.1)
  where
    parts : (a b c d e f : ℕ) → a ≡ b → c ≡ d → e ≡ f → made a c e ≡ made b d f
    parts a b c d e f p q r = λ i. made (p i) (q i) (r i)

module _ (latest : Holding → Option Grant) (except : Node) (fid : Fid) where
  -- what is found is no later than this
  pub record Found (order : ℕ) (o : Option Grant) : Type 0 where
    pub grant : Grant
    pub is : o ≡ Some grant
    pub early : grant.order ≤ order

  earlier_or_same : (t : Bool) (b h : Grant) → nat_lt h.order b.order ≡ t → Found b.order (if t then Some h else Some b)
  earlier_or_same true b h e = record { grant = h; is = refl; early = grind (arith, nat_tests, e) }
  earlier_or_same false b h e = record { grant = b; is = refl; early = omega arith }

  still : (o : Option Grant) (b : Grant) → Found b.order (earlier (Some b) o)
  still None b = record { grant = b; is = refl; early = omega arith }
  still (Some h) b = earlier_or_same (nat_lt h.order b.order) b h refl

  later : (n : ℕ) (m : ℕ) (o : Option Grant) → m ≤ n → Found m o → Found n o
  later n m o le f = record { grant = f.grant; is = f.is; early = omega (arith, le, f.early) }

  stays : (n : ℕ) (best : Option Grant) (cs : List Node) → Found n best → Found n (oldest latest except fid best cs)
  stays n best [] f = f
  stays n best (c ∷ cs) f =
      let next : Found n (earlier best (hit_of latest except fid c)) = subst (λ (o : Option Grant). Found n (earlier o (hit_of latest except fid c))) (sym f.is) (later n f.grant.order (earlier (Some f.grant) (hit_of latest except fid c)) f.early (still (hit_of latest except fid c) f.grant)) in
      stays n (earlier best (hit_of latest except fid c)) cs next

  joins_by : (t : Bool) (b h : Grant) → nat_lt h.order b.order ≡ t → Found h.order (if t then Some h else Some b)
  joins_by true b h e = record { grant = h; is = refl; early = omega arith }
  joins_by false b h e = record { grant = b; is = refl; early = grind (arith, nat_tests, e) }

  joins : (best : Option Grant) (h : Grant) → Found h.order (earlier best (Some h))
  joins None h = record { grant = h; is = refl; early = omega arith }
  joins (Some b) h = joins_by (nat_lt h.order b.order) b h refl

  -- no client's is earlier than the oldest
  none_earlier : (best : Option Grant) (cs : List Node) (c : Node) (h : Grant) → list_any (same_node c) cs ≡ true → hit_of latest except fid c ≡ Some h → Found h.order (oldest latest except fid best cs)
  none_earlier best [] c h any hit = absurd cc
  none_earlier best (d ∷ ds) c h any hit = by (same_node c d) refl any (λ rest. none_earlier (earlier best (hit_of latest except fid d)) ds c h rest hit)
    where
      by : (t : Bool) → same_node c d ≡ t → (t || list_any (same_node c) ds) ≡ true → (list_any (same_node c) ds ≡ true → Found h.order (oldest latest except fid best (d ∷ ds))) → Found h.order (oldest latest except fid best (d ∷ ds))
      by true e any rest =
          let is : hit_of latest except fid d ≡ Some h = ap (hit_of latest except fid) (sym (nodes_are_one c d e)) ∙ hit in
          stays h.order (earlier best (hit_of latest except fid d)) ds (subst (λ (o : Option Grant). Found h.order (earlier best o)) (sym is) (joins best h))
      by false e any rest = rest any

  -- the oldest is one of the best and of what the clients hold
  pub record Origin (best : Option Grant) (g : Grant) : Type 0 where
    pub is : (best ≡ Some g) ⊎ ((c : Node) × (hit_of latest except fid c ≡ Some g))

  one_of : (best o : Option Grant) (g : Grant) → earlier best o ≡ Some g → (best ≡ Some g) ⊎ (o ≡ Some g)
  one_of None o g e = inr e
  one_of (Some b) None g e = inl e
  one_of (Some b) (Some h) g e = by (nat_lt h.order b.order) e
    where
      by : (t : Bool) → (if t then Some h else Some b) ≡ Some g → (Some b ≡ Some g) ⊎ (Some h ≡ Some g)
      by true e = inr e
      by false e = inl e

  comes_from : (best : Option Grant) (cs : List Node) (g : Grant) → oldest latest except fid best cs ≡ Some g → Origin best g
  comes_from best [] g e = record { is = inl e }
  comes_from best (c ∷ cs) g e = by (comes_from (earlier best (hit_of latest except fid c)) cs g e).is
    where
      by : (earlier best (hit_of latest except fid c) ≡ Some g) ⊎ ((d : Node) × (hit_of latest except fid d ≡ Some g)) → Origin best g
      by (inl e) = first (one_of best (hit_of latest except fid c) g e)
        where
          first : (best ≡ Some g) ⊎ (hit_of latest except fid c ≡ Some g) → Origin best g
          first (inl e) = record { is = inl e }
          first (inr e) = record { is = inr (c, e) }
      by (inr e) = record { is = inr e }

  from_hit : (g : Grant) → Origin None g → (c : Node) × (hit_of latest except fid c ≡ Some g)
  from_hit g o = by o.is
    where
      by : (None ≡ Some g) ⊎ ((c : Node) × (hit_of latest except fid c ≡ Some g)) → (c : Node) × (hit_of latest except fid c ≡ Some g)
      by (inl e) = absurd cc
      by (inr e) = e

-- ---- the client and the fid of a grant under a key

pub own_client : (c : Node) (f : Fid) (g : Grant) → holding_in g ≡ holding c f → (g.promise.client ≡ c) × (g.promise.fid ≡ f)
own_client c f g e =
    let same : same_holding (holding c f) (holding_in g) ≡ true = subst (λ (k : Holding). same_holding (holding c f) k ≡ true) (sym e) (holding_itself (holding c f)) in
    let both = and_both (same_node g.promise.client c) (same_fid g.promise.fid f) (sym (same_key c g.promise.client f g.promise.fid) ∙ same) in
    (nodes_are_one g.promise.client c both.0, fids_are_one g.promise.fid f both.1)

not_true : (b : Bool) → not b ≡ true → b ≡ false
not_true false e = refl
not_true true e = absurd cc

pub hit_is : (except : Node) (fid : Fid) (p : Promise) → is_hit except fid p ≡ true → (p.fid ≡ fid) × (same_node p.client except ≡ false)
hit_is except fid p e = let both = and_both (same_fid p.fid fid) (not (same_node p.client except)) e in (fids_are_one p.fid fid both.0, not_true (same_node p.client except) both.1)

-- ---- filters

pub all_left : (q : Promise → Bool) (ps : List Promise) → filter q ps ≡ [] → ps ≡ filter (λ p. not (q p)) ps
all_left q [] e = refl
all_left q (p ∷ ps) e = by (q p) e (all_left q ps)
  where
    by : (t : Bool) → (if t then p ∷ filter q ps else filter q ps) ≡ [] → (filter q ps ≡ [] → ps ≡ filter (λ p. not (q p)) ps) → p ∷ ps ≡ (if not t then p ∷ filter (λ p. not (q p)) ps else filter (λ p. not (q p)) ps)
    by true e later = absurd cc
    by false e later = ap (λ (l : List Promise). p ∷ l) (later e)

pub none_held : (latest : Holding → Option Grant) (q : Promise → Bool) (log : List Grant) → ((x : Grant) → IsIn x log → is_held latest x ≡ true → q x.promise ≡ true → ⊥) → filter q (held latest log) ≡ []
none_held latest q [] never = refl
none_held latest q (g ∷ gs) never = by (is_held latest g) (q g.promise) refl refl (none_held latest q gs (λ x i. never x (inr i)))
  where
    by : (h t : Bool) → is_held latest g ≡ h → q g.promise ≡ t → filter q (held latest gs) ≡ [] → filter q (if h then g.promise ∷ held latest gs else held latest gs) ≡ []
    by true true e f later = absurd (never g (inl refl) e f)
    by true false e f later = rw f later
    by false t e f later = later

in_before : (x : Grant) (before behind : List Grant) → IsIn x before → IsIn x (before ++ behind)
in_before x [] behind i = absurd i
in_before x (h ∷ hs) behind (inl e) = inl e
in_before x (h ∷ hs) behind (inr i) = inr (in_before x hs behind i)

-- ---- the oldest is the first

pub record IsHeldBy (latest : Holding → Option Grant) (x h : Grant) : Type 0 where
  pub is : latest (holding_in x) ≡ Some h
  pub order : h.order ≡ x.order

pub held_by : (latest : Holding → Option Grant) (x : Grant) → is_held latest x ≡ true → (h : Grant) × IsHeldBy latest x h
held_by latest x e = by (latest (holding_in x)) refl e
  where
    by : (o : Option Grant) → latest (holding_in x) ≡ o → has_order x.order o ≡ true → (h : Grant) × IsHeldBy latest x h
    by None f e = absurd cc
    by (Some h) f e = (h, record { is = f; order = nats_are_one e })

module _ {latest : Holding → Option Grant} {log : List Grant} {clients : List Node} {ended count next : ℕ} {rising : Bool} {highest : ℕ} (except : Node) (fid : Fid) (is : IsLog latest log clients ended count next rising highest) where
  chosen_hit : (c : Node) (h : Grant) → same_node c except ≡ false → latest (holding c fid) ≡ Some h → hit_of latest except fid c ≡ Some h
  chosen_hit c h e f = rw e f

  pub hit_found : (x : Grant) → is_held latest x ≡ true → is_hit except fid x.promise ≡ true → Found latest except fid x.order (oldest latest except fid None clients)
  hit_found x e hit =
      let h = held_by latest x e in
      let own = own_client x.promise.client x.promise.fid h.0 (is.found (holding_in x) h.0 h.1.is).1 in
      let facts = hit_is except fid x.promise hit in
      let apart : same_node h.0.promise.client except ≡ false = ap (λ (c : Node). same_node c except) own.0 ∙ facts.1 in
      let under : latest (holding h.0.promise.client fid) ≡ Some h.0 = (λ i. latest (holding (own.0 i) (sym facts.0 i))) ∙ h.1.is in
      subst (λ (n : ℕ). Found latest except fid n (oldest latest except fid None clients)) h.1.order (none_earlier latest except fid None clients h.0.promise.client h.0 (is.known (holding_in x) h.0 h.1.is) (chosen_hit h.0.promise.client h.0 apart under))

  pub no_hits : oldest latest except fid None clients ≡ None → hits except fid (held latest log) ≡ []
  no_hits none = none_held latest (is_hit except fid) log (λ x i e hit. let f = hit_found x e hit in (let wrong : None ≡ Some f.grant = sym none ∙ f.is in absurd cc))

  hit_parts : (c : Node) (g : Grant) → hit_of latest except fid c ≡ Some g → (same_node c except ≡ false) × (latest (holding c fid) ≡ Some g)
  hit_parts c g e = by (same_node c except) refl e
    where
      by : (t : Bool) → same_node c except ≡ t → (if t then None else latest (holding c fid)) ≡ Some g → (same_node c except ≡ false) × (latest (holding c fid) ≡ Some g)
      by true f e = absurd cc
      by false f e = (f, e)

  -- the oldest is held, and a hit
  pub record IsFirst (g : Grant) : Type 0 where
    pub is_in : IsIn g log
    pub latest_is : latest (holding_in g) ≡ Some g
    pub hit : is_hit except fid g.promise ≡ true

  pub first_is : (g : Grant) → oldest latest except fid None clients ≡ Some g → IsFirst g
  first_is g e =
      let from = from_hit latest except fid g (comes_from latest except fid None clients g e) in
      let parts = hit_parts from.0 g from.1 in
      let found = is.found (holding from.0 fid) g parts.1 in
      let own = own_client from.0 fid g found.1 in
      record {
        is_in = found.0;
        latest_is = ap latest found.1 ∙ parts.1;
        hit = rw (own.1, own.0, parts.0, fid_itself fid) refl;
      }
    where
      fid_itself : (f : Fid) → same_fid f f ≡ true
      fid_itself f = rw (one f.volume, one f.vnode, one f.unique) refl
        where
          one : (n : ℕ) → nat_eq n n ≡ true
          one n = grind (arith, nat_tests)

  -- what goes is the first hit, and what is no hit stays
  pub first_goes : (new : Holding → Option Grant) (g : Grant) → IsWithout (holding_in g) latest new → oldest latest except fid None clients ≡ Some g → hits except fid (held latest log) ≡ g.promise ∷ hits except fid (held new log)
  first_goes new g without e =
      let first = first_is g e in
      let s = split latest new (holding_in g) g without first.latest_is refl 0 next log is.rises first.is_in in
      let early : filter (is_hit except fid) (held latest s.before) ≡ [] = none_held latest (is_hit except fid) s.before (λ x i h hit. let f = hit_found x h hit in let same : f.grant ≡ g = (let o : Some f.grant ≡ Some g = sym f.is ∙ e in cc) in absurd (omega (arith, f.early, ap (λ (y : Grant). y.order) same, s.earlier x i))) in
      ap (filter (is_hit except fid)) s.was
      ∙ (filter-append (is_hit except fid) (held latest s.before) (g.promise ∷ held latest s.behind)
      ∙ (rw (early, first.hit) (ap (λ (l : List Promise). g.promise ∷ l) (sym (ap (filter (is_hit except fid)) s.is ∙ (filter-append (is_hit except fid) (held latest s.before) (held latest s.behind) ∙ ap (λ (l : List Promise). l ++ filter (is_hit except fid) (held latest s.behind)) early))))))

  without_first : Grant → Holding → Option Grant
  without_first g q = if same_holding (holding_in g) q then None else latest q

  gone : (g : Grant) → held (without_first g) log ≡ without_promise g.promise.client g.promise.fid (held latest log)
  unfolding without_first
  gone g = removed (without_first g) latest g.promise.client g.promise.fid (λ q. refl) log

  pub first_hit : (g : Grant) → oldest latest except fid None clients ≡ Some g → hits except fid (held latest log) ≡ g.promise ∷ hits except fid (without_promise g.promise.client g.promise.fid (held latest log))
  unfolding without_first
  first_hit g e = first_goes (without_first g) g (λ q. refl) e ∙ ap (λ (ps : List Promise). g.promise ∷ hits except fid ps) (gone g)

  parted : (g : Grant) → oldest latest except fid None clients ≡ Some g → Split latest (without_first g) log g
  unfolding without_first
  parted g e = let first = first_is g e in split latest (without_first g) (holding_in g) g (λ q. refl) first.latest_is refl 0 next log is.rises first.is_in

  pub others_stay : (g : Grant) → oldest latest except fid None clients ≡ Some g → left except fid (without_promise g.promise.client g.promise.fid (held latest log)) ≡ left except fid (held latest log)
  others_stay g e =
      let s = parted g e in
      let q : Promise → Bool = λ p. not (is_hit except fid p) in
      let behind : filter (λ p. not (is_hit except fid p)) (g.promise ∷ held latest s.behind) ≡ filter (λ p. not (is_hit except fid p)) (held latest s.behind) = rw (first_is g e).hit refl in
      ap (left except fid) (sym (gone g) ∙ s.is)
      ∙ (filter-append (λ p. not (is_hit except fid p)) (held latest s.before) (held latest s.behind)
      ∙ (ap (λ (ps : List Promise). left except fid (held latest s.before) ++ ps) (sym behind)
      ∙ sym (ap (left except fid) s.was ∙ filter-append (λ p. not (is_hit except fid p)) (held latest s.before) (g.promise ∷ held latest s.behind))))

  pub one_fewer : (g : Grant) → oldest latest except fid None clients ≡ Some g → length (without_promise g.promise.client g.promise.fid (held latest log)) + 1 ≡ length (held latest log)
  one_fewer g e =
      let s = parted g e in
      omega (
        arith,
        ap (λ (ps : List Promise). length ps) (gone g),
        ap (λ (ps : List Promise). length ps) s.is,
        ap (λ (ps : List Promise). length ps) s.was,
        length-append (held latest s.before) (held latest s.behind),
        length-append (held latest s.before) (g.promise ∷ held latest s.behind),
      )
