-- Once the reply to a call for statuses or rights was read, an act needs nothing that an entry of a cache shows.
use Rattle.std.proofs.Common.{◌≡◌, ◌<◌, ℕ, zero, suc, Bool, true, false, cond, ◌||◌, not, List, [], ◌∷◌, ◌++◌, map, Option, Some, None, Result, Ok, Err, IsSome, nat_eq, refl, ap, sym, subst, ◌∙◌, append_assoc, arith}
use Rattle.std.proofs.lemmas.List.{append-nil}
use Rattle.std.specs.List.{All}
use Rattle.std.proofs.lemmas.List.Elements.{All-nil, All-cons}
use Rattle.spec_history.specs.declared.acts.Act.{Act}
use Rattle.spec_history.specs.declared.acts.Act.TheVariants as acts
use Rattle.spec_history.specs.declared.acts.Operand.{Operand}
use Rattle.spec_history.specs.declared.acts.Operand.TheVariants as operands
use Rattle.spec_history.specs.declared.acts.Path.{Path}
use Rattle.spec_ideal.proofs.Basics.{same_fid-refl}
use Rattle.afs_num.specs.declared.types.Fid.{Fid}
use Rattle.afs_num.specs.declared.calls.FsCall.{FsCall}
use Rattle.afs_num.specs.declared.calls.FsCall.TheVariants as calls
use Rattle.afs_num.specs.declared.histories.Body.{Body}
use Rattle.afs_num.specs.declared.histories.Body.TheVariants as bodies
use Rattle.afs_num.specs.declared.histories.ReadBody.{ReadBody}
use Rattle.afs_num.specs.declared.histories.ReadBody.TheVariants as seen
use Rattle.afs_num.specs.declared.histories.ReadStatus.{ReadStatus}
use Rattle.afs_num.specs.Fids.{same_fid}
use Rattle.spec_rows.specs.States.{CacheEntry, Gift}
use Rattle.spec_rows.specs.Going as going
use Rattle.spec_rows.specs.Going.{Need, ReadShown, TakenRead, Homes, Going, taken_body, taken_status, first_body, first_status, has_rights, by_status, is_root_path, is_last_name, looked_up, named_first, next, with_read}
use Rattle.spec_rows.specs.ClientRow.{call_by, not_walked, walked, walked_by, with_statuses, Walked}
use Rattle.afs_acts.specs.Walks.{At, Within, then_on, goes_to, body_by, body_at, entry_by, reached, along, walk_to, at_root, path_at, fid_at, object_at, parent_at}
use Rattle.afs_acts.specs.Needs.{are_read, linked, moved, needed_by, NeedsNoEntry, statuses_by, statuses_seen}
use Rattle.afs_acts.proofs.Reaching.{Any, IsWithinSo, Reaches, goes_fits, body_reached, object_reached, path_reached, parent_reached, shown_fits, one_volume, root_or}
use Rattle.afs_acts.proofs.Walking.{needs_are}

-- the same, with more reads behind
abbrev pub more_taken : {A : Type 0} → List ReadShown → TakenRead A → TakenRead A
more_taken more t = record { found = t.found; rest = t.rest ++ more }

abbrev pub more_at : List ReadShown → At → At
more_at more a = record { fid = a.fid; rest = a.rest ++ more }

-- ---- what was found is found

body_by_more : (b : Bool) (body : ReadBody) (rest more : List ReadShown) (later longer : Option (TakenRead Body)) (t : TakenRead Body) → (later ≡ Some t → longer ≡ Some (more_taken more t)) → taken_body b body rest later ≡ Some t
    → taken_body b body (rest ++ more) longer ≡ Some (more_taken more t)
body_by_more true (seen.Contents body) rest more later longer t ih h = let same : record { found = body; rest = rest } ≡ t = cc in ap (λ (x : TakenRead Body). Some (more_taken more x)) same
body_by_more true (seen.Status status) rest more later longer t ih h = ih h
body_by_more true (seen.AccessList text) rest more later longer t ih h = ih h
body_by_more false (seen.Contents body) rest more later longer t ih h = ih h
body_by_more false (seen.Status status) rest more later longer t ih h = ih h
body_by_more false (seen.AccessList text) rest more later longer t ih h = ih h

pub body_more : (f : Fid) (rs more : List ReadShown) (t : TakenRead Body) → first_body f rs ≡ Some t → first_body f (rs ++ more) ≡ Some (more_taken more t)
body_more f [] more t h = absurd cc
body_more f (r ∷ rs) more t h = body_by_more (same_fid r.fid f) r.body rs more (first_body f rs) (first_body f (rs ++ more)) t (body_more f rs more t) h

-- what was reached is reached
abbrev pub Keeps : {A : Type 0} → (A → A) → Result A Need → Result A Need → Type 0
Keeps {A} m r s = (x : A) → r ≡ Ok x → s ≡ Ok (m x)

then_keeps : {A B : Type 0} (m : A → A) (n : B → B) (f g : A → Result B Need) (r s : Result A Need) → Keeps m r s → ((x : A) → Keeps n (f x) (g (m x))) → Keeps n (then_on f r) (then_on g s)
then_keeps {A} {B} m n f g (Ok x) s h k y e = ap (then_on g) (h x refl) ∙ k x y e
then_keeps {A} {B} m n f g (Err need) s h k y e = absurd cc

module _ (more : List ReadShown) where
  body_by_keeps : (f : Fid) (o p : Option (TakenRead Body)) → ((t : TakenRead Body) → o ≡ Some t → p ≡ Some (more_taken more t)) → Keeps (more_taken more) (body_by f o) (body_by f p)
  body_by_keeps f None p h x e = absurd cc
  body_by_keeps f (Some t) p h x e = let same : t ≡ x = cc in ap (body_by f) (h t refl) ∙ ap (λ (y : TakenRead Body). Ok (more_taken more y)) same

  pub body_keeps : (a : At) → Keeps (more_taken more) (body_at a) (body_at (more_at more a))
  body_keeps a = body_by_keeps a.fid (first_body a.fid a.rest) (first_body a.fid (a.rest ++ more)) (body_more a.fid a.rest more)

  reached_keeps : (rest : List ReadShown) (r : Result Fid Need) → Keeps (more_at more) (reached rest r) (reached (rest ++ more) r)
  reached_keeps rest (Ok f) x e = let same : record { fid = f; rest = rest } ≡ x = cc in ap (λ (y : At). Ok (more_at more y)) same
  reached_keeps rest (Err need) x e = absurd cc

  along_keeps : (inner : Bool) (name : List ℕ) (a : At) → Keeps (more_at more) (along inner name a) (along inner name (more_at more a))
  along_keeps inner name a =
      then_keeps (more_taken more) (more_at more) (λ (t : TakenRead Body). reached t.rest (entry_by inner a.fid.volume (looked_up name t.found))) (λ (t : TakenRead Body). reached t.rest (entry_by inner a.fid.volume (looked_up name t.found))) (body_at a) (body_at (more_at more a))
      (body_keeps a) (λ t. reached_keeps t.rest (entry_by inner a.fid.volume (looked_up name t.found)))

  walk_keeps : (all : Bool) (names : List (List ℕ)) (a : At) → Keeps (more_at more) (walk_to all names a) (walk_to all names (more_at more a))
  walk_keeps all [] a x e = let same : a ≡ x = cc in ap (λ (y : At). Ok (more_at more y)) same
  walk_keeps all (name ∷ names) a x e =
      then_keeps (more_at more) (more_at more) (walk_to all names) (walk_to all names) (along (all || not (is_last_name names)) name a) (along (all || not (is_last_name names)) name (more_at more a)) (along_keeps (all || not (is_last_name names)) name a) (walk_keeps all names) x e

  path_keeps : (home : Option ℕ) (p : Path) (rs : List ReadShown) → Keeps (more_at more) (path_at home p rs) (path_at home p (rs ++ more))
  path_keeps None p rs x e = absurd cc
  path_keeps (Some id) p rs x e = walk_keeps false p.names (at_root id rs) x e

  fid_keeps : (home : Option ℕ) (f : Fid) (rs : List ReadShown) → Keeps (more_at more) (fid_at home f rs) (fid_at home f (rs ++ more))
  fid_keeps None f rs x e = absurd cc
  fid_keeps (Some id) f rs x e = let same : record { fid = f; rest = rs } ≡ x = cc in ap (λ (y : At). Ok (more_at more y)) same

  pub object_keeps : (home : Option ℕ) (o : Operand) (rs : List ReadShown) → Keeps (more_at more) (object_at home o rs) (object_at home o (rs ++ more))
  object_keeps home (operands.Fid f) rs = fid_keeps home f rs
  object_keeps home (operands.Path p) rs = path_keeps home p rs

-- ---- calls for statuses and rights

abbrev pub IsShowing : FsCall → Type 0
IsShowing (calls.FetchStatus f) = Unit {0}
IsShowing (calls.BulkStatus fs) = Unit {0}
IsShowing (calls.FetchAcl f) = Unit {0}
IsShowing c = ⊥

-- what was read shows the status that a call asks for
abbrev pub Shows : FsCall → List ReadShown → Type 0
Shows (calls.FetchStatus f) more = (rest : List ReadShown) → IsSome (first_status f (rest ++ more))
Shows c more = Unit {0}

module _ (gifts : List Gift) where
  -- no such call is made for it
  abbrev IsPlain : Need → Type 0
  IsPlain need = IsShowing (call_by gifts need) → ⊥

  asks : (f : Fid) → IsPlain (going.reads f)
  asks f h = h

  told : (n : ℕ) → n < 2147483648 → IsPlain (going.answers n)
  told n small h = h

  sought : (o : Operand) → IsPlain (going.locates o)
  sought o h = h

  any_names : (names : List (List ℕ)) → All (Any {A = List ℕ}) names
  any_names [] = All-nil Any
  any_names (name ∷ names) = All-cons Any name names tt (any_names names)

  on_object_plain : (home : Option ℕ) (o : Operand) (rs : List ReadShown) (call : Fid → FsCall) → ((f : Fid) → IsShowing (call f) → ⊥) → IsPlain (goes_to (λ (a : At). going.asks_for (call a.fid)) (object_at home o rs))
  on_object_plain home o rs call h = goes_fits IsPlain asks told Any _ (object_at home o rs) (object_reached IsPlain asks told home o rs (sought o)) (λ a k. h a.fid)

  in_parent_plain : (home : Option ℕ) (p : Path) (rs : List ReadShown) (call : Fid → List ℕ → FsCall) → ((d : Fid) (name : List ℕ) → IsShowing (call d name) → ⊥)
      → IsPlain (goes_to (λ (w : Within). going.asks_for (call w.directory w.name)) (parent_at home p rs))
  in_parent_plain home p rs call h =
      goes_fits IsPlain asks told (IsWithinSo Any) _ (parent_at home p rs) (parent_reached IsPlain asks told Any home p rs (any_names p.names) (sought (operands.Path p))) (λ w k. h w.directory w.name)

  -- an act of another kind makes none
  abbrev IsPlainAct : Act → Type 0
  IsPlainAct (acts.Stat o) = ⊥
  IsPlainAct (acts.StatAll o) = ⊥
  IsPlainAct (acts.GetAccessList o) = ⊥
  IsPlainAct a = Unit {0}

  plain : (h : Homes) (a : Act) (rs : List ReadShown) → IsPlainAct a → IsPlain (needed_by h a rs)
  plain h (acts.Open o) rs s = shown_fits IsPlain asks told 0 21 22 h.first o rs (sought o) (omega arith) (omega arith) (omega arith)
  plain h (acts.ListNames o) rs s = shown_fits IsPlain asks told 20 0 20 h.first o rs (sought o) (omega arith) (omega arith) (omega arith)
  plain h (acts.ReadLink o) rs s = shown_fits IsPlain asks told 22 21 0 h.first o rs (sought o) (omega arith) (omega arith) (omega arith)
  plain h (acts.Close o contents) rs s = on_object_plain h.first o rs _ (λ f k. k)
  plain h (acts.SetMode o mode) rs s = on_object_plain h.first o rs _ (λ f k. k)
  plain h (acts.SetAccessList o text) rs s = on_object_plain h.first o rs _ (λ f k. k)
  plain h (acts.Make p) rs s = in_parent_plain h.first p rs _ (λ d name k. k)
  plain h (acts.MakeDirectory p) rs s = in_parent_plain h.first p rs _ (λ d name k. k)
  plain h (acts.Symlink p target) rs s = in_parent_plain h.first p rs _ (λ d name k. k)
  plain h (acts.Remove p) rs s = in_parent_plain h.first p rs _ (λ d name k. k)
  plain h (acts.RemoveDirectory p) rs s = in_parent_plain h.first p rs _ (λ d name k. k)
  plain h (acts.Move p q) rs s =
      root_or IsPlain asks told (is_root_path p || is_root_path q) _
      (goes_fits IsPlain asks told (IsWithinSo Any) _ (parent_at h.first p rs) (parent_reached IsPlain asks told Any h.first p rs (any_names p.names) (sought (operands.Path p)))
      (λ d k. goes_fits IsPlain asks told (IsWithinSo Any) (moved d) (parent_at h.second q d.rest) (parent_reached IsPlain asks told Any h.second q d.rest (any_names q.names) (sought (operands.Path q)))
      (λ e l. one_volume IsPlain asks told (nat_eq d.directory.volume e.directory.volume) _ (λ m. m))))
  plain h (acts.Link p q) rs s =
      root_or IsPlain asks told (is_root_path q) _
      (goes_fits IsPlain asks told Any _ (path_at h.first p rs) (path_reached IsPlain asks told h.first p rs (sought (operands.Path p)))
      (λ a k. goes_fits IsPlain asks told (IsWithinSo Any) (linked a) (parent_at h.second q a.rest) (parent_reached IsPlain asks told Any h.second q a.rest (any_names q.names) (sought (operands.Path q)))
      (λ d l. one_volume IsPlain asks told (nat_eq a.fid.volume d.directory.volume) _ (λ m. m))))
  plain h (acts.Stat o) rs s = absurd s
  plain h (acts.StatAll o) rs s = absurd s
  plain h (acts.GetAccessList o) rs s = absurd s
  plain h acts.GiveUp rs s = λ k. k

  -- ---- what is needed once such a call's reply was read

  module _ (c : FsCall) (shows : IsShowing c) (more : List ReadShown) (seen_by : Shows c more) where
    -- the call is made for it
    abbrev Makes : Need → Type 0
    Makes need = call_by gifts need ≡ c

    never : (need : Need) → IsPlain need → Makes need → ⊥
    never need h e = h (subst IsShowing (sym e) shows)

    other : (h : Homes) (a : Act) (rs : List ReadShown) → IsPlainAct a → Makes (needed_by h a rs) → ⊥
    other h a rs s e = never (needed_by h a rs) (plain h a rs s) e

    goes_keeps : {A : Type 0} (m : A → A) (k l : A → Need) (r s : Result A Need) → Keeps m r s → Reaches IsPlain asks told (Any {A = A}) r → ((x : A) → Makes (k x) → NeedsNoEntry (l (m x))) → Makes (goes_to k r) → NeedsNoEntry (goes_to l s)
    goes_keeps {A} m k l (Ok x) s h reach step e = subst NeedsNoEntry (sym (ap (goes_to l) (h x refl))) (step x e)
    goes_keeps {A} m k l (Err need) s h reach step e = absurd (never need reach e)

    -- of a status
    found_status : (f : Fid) (o : Option (TakenRead ReadStatus)) → IsSome o → NeedsNoEntry (by_status f o)
    found_status f None h = absurd cc
    found_status f (Some t) h = tt

    status_by : (f : Fid) (rest : List ReadShown) (o : Option (TakenRead ReadStatus)) → Makes (by_status f o) → NeedsNoEntry (by_status f (first_status f (rest ++ more)))
    status_by f rest None e = found_status f (first_status f (rest ++ more)) (subst (λ (d : FsCall). Shows d more) (sym e) seen_by rest)
    status_by f rest (Some t) e = absurd (never (going.answers 0) (told 0 (omega arith)) e)

    -- of statuses
    all_seen : (b : Bool) (fs : List Fid) → NeedsNoEntry (cond b (going.answers 0) (going.reads_statuses fs))
    all_seen true fs = tt
    all_seen false fs = tt

    statuses_by_body : (volume : ℕ) (rs : List ReadShown) (b : Body) → NeedsNoEntry (statuses_seen volume rs b)
    statuses_by_body volume rs (bodies.Dir names) = all_seen (are_read (named_first volume names) rs) (named_first volume names)
    statuses_by_body volume rs (bodies.File b) = tt
    statuses_by_body volume rs (bodies.Link b) = tt
    statuses_by_body volume rs bodies.Gone = tt

    statuses_at : (a : At) → Makes (statuses_by a (body_at a)) → NeedsNoEntry (statuses_by (more_at more a) (body_at (more_at more a)))
    statuses_at a =
        goes_keeps (more_taken more) (λ (t : TakenRead Body). statuses_seen a.fid.volume t.rest t.found) (λ (t : TakenRead Body). statuses_seen a.fid.volume t.rest t.found) (body_at a) (body_at (more_at more a)) (body_keeps more a)
        (body_reached IsPlain asks told a.fid (first_body a.fid a.rest)) (λ t e. statuses_by_body a.fid.volume (t.rest ++ more) t.found)

    -- of rights
    rights_by : (b : Bool) (f : Fid) → NeedsNoEntry (cond b (going.answers 0) (going.reads_rights f))
    rights_by true f = tt
    rights_by false f = tt

    rests : (h : Homes) (a : Act) (rs : List ReadShown) → Makes (needed_by h a rs) → NeedsNoEntry (needed_by h a (rs ++ more))
    rests h (acts.Stat o) rs e =
        goes_keeps (more_at more) _ _ (object_at h.first o rs) (object_at h.first o (rs ++ more)) (object_keeps more h.first o rs) (object_reached IsPlain asks told h.first o rs (sought o)) (λ a k. status_by a.fid a.rest (first_status a.fid a.rest) k) e
    rests h (acts.StatAll o) rs e =
        goes_keeps (more_at more) _ _ (object_at h.first o rs) (object_at h.first o (rs ++ more)) (object_keeps more h.first o rs) (object_reached IsPlain asks told h.first o rs (sought o)) statuses_at e
    rests h (acts.GetAccessList o) rs e =
        goes_keeps (more_at more) _ _ (object_at h.first o rs) (object_at h.first o (rs ++ more)) (object_keeps more h.first o rs) (object_reached IsPlain asks told h.first o rs (sought o)) (λ a k. rights_by (has_rights a.fid (a.rest ++ more)) a.fid) e
    rests h (acts.Open o) rs e = absurd (other h (acts.Open o) rs tt e)
    rests h (acts.ListNames o) rs e = absurd (other h (acts.ListNames o) rs tt e)
    rests h (acts.ReadLink o) rs e = absurd (other h (acts.ReadLink o) rs tt e)
    rests h (acts.Close o contents) rs e = absurd (other h (acts.Close o contents) rs tt e)
    rests h (acts.SetMode o mode) rs e = absurd (other h (acts.SetMode o mode) rs tt e)
    rests h (acts.SetAccessList o text) rs e = absurd (other h (acts.SetAccessList o text) rs tt e)
    rests h (acts.Make p) rs e = absurd (other h (acts.Make p) rs tt e)
    rests h (acts.MakeDirectory p) rs e = absurd (other h (acts.MakeDirectory p) rs tt e)
    rests h (acts.Symlink p target) rs e = absurd (other h (acts.Symlink p target) rs tt e)
    rests h (acts.Remove p) rs e = absurd (other h (acts.Remove p) rs tt e)
    rests h (acts.RemoveDirectory p) rs e = absurd (other h (acts.RemoveDirectory p) rs tt e)
    rests h (acts.Move p q) rs e = absurd (other h (acts.Move p q) rs tt e)
    rests h (acts.Link p q) rs e = absurd (other h (acts.Link p q) rs tt e)
    rests h acts.GiveUp rs e = absurd (other h acts.GiveUp rs tt e)

    pub next_rests : (g : Going) → call_by gifts (next g) ≡ c → NeedsNoEntry (next (record g { reads = g.reads ++ more }))
    next_rests g e =
        subst NeedsNoEntry (sym (needs_are g.homes g.act (g.reads ++ more))) (rests g.homes g.act g.reads (ap (call_by gifts) (sym (needs_are g.homes g.act g.reads)) ∙ e))

-- ---- by the calls

status_on : (b : Bool) (body : ReadBody) (rest : List ReadShown) (later : Option (TakenRead ReadStatus)) → IsSome later → IsSome (taken_status b body rest later)
status_on true (seen.Contents body) rest later h = h
status_on true (seen.Status status) rest later h = refl
status_on true (seen.AccessList text) rest later h = h
status_on false (seen.Contents body) rest later h = h
status_on false (seen.Status status) rest later h = h
status_on false (seen.AccessList text) rest later h = h

abbrev status_shown : Fid → ReadStatus → ReadShown
status_shown f status = record { fid = f; body = seen.Status status }

status_last : (f : Fid) (status : ReadStatus) (rest : List ReadShown) → IsSome (first_status f (rest ++ status_shown f status ∷ []))
status_last f status [] = rw (same_fid-refl f) refl
status_last f status (r ∷ rest) = status_on (same_fid r.fid f) r.body (rest ++ status_shown f status ∷ []) (first_status f (rest ++ status_shown f status ∷ [])) (status_last f status rest)

-- after a status
pub status_rests : (gifts : List Gift) (f : Fid) (status : ReadStatus) (g : Going) → call_by gifts (next g) ≡ calls.FetchStatus f → NeedsNoEntry (next (with_read f (seen.Status status) g))
status_rests gifts f status g e = next_rests gifts (calls.FetchStatus f) tt (status_shown f status ∷ []) (status_last f status) g e

-- after rights
pub rights_rest : (gifts : List Gift) (f : Fid) (text : List ℕ) (g : Going) → call_by gifts (next g) ≡ calls.FetchAcl f → NeedsNoEntry (next (with_read f (seen.AccessList text) g))
rights_rest gifts f text g e = next_rests gifts (calls.FetchAcl f) tt (record { fid = f; body = seen.AccessList text } ∷ []) tt g e

-- after statuses
abbrev statuses_shown : List CacheEntry → List ReadShown
statuses_shown es = map (λ (e : CacheEntry). status_shown e.fid e.status) es

pub all_shown : (es : List CacheEntry) (g : Going) → record g { reads = g.reads ++ statuses_shown es } ≡ with_statuses es g
all_shown [] g = ap (λ (rs : List ReadShown). record g { reads = rs }) (append-nil g.reads)
all_shown (e ∷ es) g =
    ap (λ (rs : List ReadShown). record g { reads = rs }) (sym (append_assoc g.reads (status_shown e.fid e.status ∷ []) (statuses_shown es))) ∙ all_shown es (with_read e.fid (seen.Status e.status) g)

pub statuses_rest : (gifts : List Gift) (fids : List Fid) (es : List CacheEntry) (g : Going) → call_by gifts (next g) ≡ calls.BulkStatus fids → NeedsNoEntry (next (with_statuses es g))
statuses_rest gifts fids es g e = subst (λ (later : Going). NeedsNoEntry (next later)) (all_shown es g) (next_rests gifts (calls.BulkStatus fids) tt (statuses_shown es) tt g e)

-- ---- it reads nothing from the cache

stays_by : (more : Going → List CacheEntry → Walked) (clock : ℕ) (g : Going) (cache : List CacheEntry) (need : Need) → NeedsNoEntry need → walked_by more clock g cache need ≡ not_walked g cache
stays_by more clock g cache (going.reads f) h = absurd h
stays_by more clock g cache (going.reads_status f) h = absurd h
stays_by more clock g cache (going.reads_statuses fs) h = refl
stays_by more clock g cache (going.reads_rights f) h = refl
stays_by more clock g cache (going.asks_for c) h = refl
stays_by more clock g cache going.gives_back h = refl
stays_by more clock g cache (going.locates o) h = refl
stays_by more clock g cache (going.answers n) h = refl

pub walked_stays : (n clock : ℕ) (g : Going) (cache : List CacheEntry) → NeedsNoEntry (next g) → walked n clock g cache ≡ not_walked g cache
walked_stays zero clock g cache h = refl
walked_stays (suc n) clock g cache h = stays_by (walked n clock) clock g cache (next g) h
