-- Promises that are granted, and those whose time has come.
use Rattle.std.proofs.Common.{◌≡◌, ℕ, Bool, true, false, cond, not, List, [], ◌∷◌, ◌++◌, map, refl, sym, ap, ◌∙◌}
use Rattle.std.specs.Prelude.{filter, nat_lt}
use Rattle.std.specs.List.{All}
use Rattle.std.proofs.lemmas.List.{append-nil}
use Rattle.std.proofs.lemmas.List.Elements.{filter-append, All-filter, All-push}
use Rattle.afs_num.specs.Nodes.{IsNode}
use Rattle.afs_num.specs.declared.types.Fid.{Fid}
use Rattle.afs_num.specs.declared.types.Node.{Node}
use Rattle.spec_breaks.specs.Promises.{expired, gives_up, grants_all, is_promise, lasting, with_promise, with_promises, without_promise, Lists}
use Rattle.spec_breaks.specs.declared.types.Promise.{Promise}
use Rattle.spec_history.specs.declared.lines.Line.{Line}
use Rattle.spec_ideal.specs.Operations.{Found}
use Rattle.spec_rows.specs.Callbacks.{fids_found, gives_up_all, grants_found}
use Rattle.spec_rows.specs.ServerRow as row
use Rattle.spec_rows.specs.ServerRow.{granted}
use Rattle.afs_callees.specs.Telling.{grant_line, grants_seen}
use Rattle.afs_callees.specs.declared.telling.Grant.{Grant}
use Rattle.afs_callbacks.specs.States.{IsPromiseToNode}

-- ---- two filters, one after the other

swapped_by : {A : Type 0} (a b : Bool) (p q : A → Bool) (x : A) (xs ys : List A) → p x ≡ a → q x ≡ b → filter p xs ≡ filter q ys → filter p (cond b (x ∷ xs) xs) ≡ filter q (cond a (x ∷ ys) ys)
swapped_by {A} true true p q x xs ys e f h = rw (e, f) (ap (λ (zs : List A). x ∷ zs) h)
swapped_by {A} true false p q x xs ys e f h = rw f h
swapped_by {A} false true p q x xs ys e f h = rw e h
swapped_by {A} false false p q x xs ys e f h = h

pub filters_swap : {A : Type 0} (p q : A → Bool) (xs : List A) → filter p (filter q xs) ≡ filter q (filter p xs)
filters_swap {A} p q [] = refl
filters_swap {A} p q (x ∷ xs) = swapped_by (p x) (q x) p q x (filter q xs) (filter p xs) refl refl (filters_swap p q xs)

-- ---- a promise that lasts stays where others end

lasting_with : (now : ℕ) (client : Node) (expiry : ℕ) (fid : Fid) (ps : List Promise) → nat_lt now expiry ≡ true → lasting now (with_promise client expiry fid ps) ≡ with_promise client expiry fid (lasting now ps)
lasting_with now client expiry fid ps lasts =
    filter-append (λ (p : Promise). nat_lt now p.expiry) (without_promise client fid ps) (record { client = client; fid = fid; expiry = expiry } ∷ [])
    ∙ rw lasts (ap (λ (qs : List Promise). qs ++ record { client = client; fid = fid; expiry = expiry } ∷ []) (filters_swap (λ (p : Promise). nat_lt now p.expiry) (λ (p : Promise). not (is_promise client fid p)) ps))

lasting_with_all : (now : ℕ) (client : Node) (expiry : ℕ) (fids : List Fid) (ps : List Promise) → nat_lt now expiry ≡ true → lasting now (with_promises client expiry fids ps) ≡ with_promises client expiry fids (lasting now ps)
lasting_with_all now client expiry [] ps lasts = refl
lasting_with_all now client expiry (fid ∷ fids) ps lasts =
    lasting_with_all now client expiry fids (with_promise client expiry fid ps) lasts ∙ ap (with_promises client expiry fids) (lasting_with now client expiry fid ps lasts)

-- so it is all one which comes first
pub grants_last : (now : ℕ) (client : Node) (expiry : ℕ) (fids : List Fid) (l : Lists) → nat_lt now expiry ≡ true → expired now (grants_all client expiry fids l) ≡ grants_all client expiry fids (expired now l)
grants_last now client expiry fids l lasts = ap (λ (ps : List Promise). record (expired now l) { promises = ps }) (lasting_with_all now client expiry fids l.promises lasts)

-- ---- promises are to nodes

with_to_nodes : (client : Node) (expiry : ℕ) (fids : List Fid) (ps : List Promise) → IsNode client → All IsPromiseToNode ps → All IsPromiseToNode (with_promises client expiry fids ps)
with_to_nodes client expiry [] ps node h = h
with_to_nodes client expiry (fid ∷ fids) ps node h =
    with_to_nodes client expiry fids (with_promise client expiry fid ps) node
    (All-push IsPromiseToNode _ _ (All-filter (λ (p : Promise). not (is_promise client fid p)) IsPromiseToNode ps h) node)

pub granted_to_nodes : (client : Node) (expiry : ℕ) (fids : List Fid) (l : Lists) → IsNode client → All IsPromiseToNode l.promises → All IsPromiseToNode (grants_all client expiry fids l).promises
granted_to_nodes client expiry fids l node h = with_to_nodes client expiry fids l.promises node h

pub given_up_to_nodes : (n : Node) (fids : List Fid) (l : Lists) → All IsPromiseToNode l.promises → All IsPromiseToNode (gives_up_all n fids l).promises
given_up_to_nodes n [] l h = h
given_up_to_nodes n (f ∷ fids) l h = given_up_to_nodes n fids (gives_up n f l) (All-filter (λ (p : Promise). not (is_promise n f p)) IsPromiseToNode l.promises h)

-- no break is owed or ends
pub given_up_owed : (n : Node) (fids : List Fid) (l : Lists) → (gives_up_all n fids l).owed ≡ l.owed
given_up_owed n [] l = refl
given_up_owed n (f ∷ fids) l = given_up_owed n fids (gives_up n f l)

-- ---- what is told of them

pub fids_seen : (fs : List Found) → map (λ (g : Grant). g.fid) (grants_seen fs) ≡ fids_found fs
fids_seen [] = refl
fids_seen (f ∷ fs) = ap (λ (gs : List Fid). f.fid ∷ gs) (fids_seen fs)

pub lines_granted : (me client : Node) (expiry : ℕ) (fs : List Found) (ls : List Line) → map (grant_line me client expiry) (grants_seen fs) ++ ls ≡ granted me client expiry fs ls
lines_granted me client expiry [] ls = refl
lines_granted me client expiry (f ∷ fs) ls = ap (λ (ks : List Line). grant_line me client expiry (record { fid = f.fid; index = f.vnode.index }) ∷ ks) (lines_granted me client expiry fs ls)

-- ---- a reading is shown, of which no promise is given up

pub shown_lists : (now : ℕ) (client : Node) (expiry : ℕ) (grants : List Grant) (r : row.Reading) (l : Lists) → grants_seen r.granted ≡ grants → r.given_up ≡ [] → nat_lt now expiry ≡ true →
    expired now (grants_all client expiry (map (λ (g : Grant). g.fid) grants) l) ≡ grants_found client expiry r.granted (gives_up_all client r.given_up (expired now l))
shown_lists now client expiry grants r l are nothing lasts =
    let fids : map (λ (g : Grant). g.fid) grants ≡ fids_found r.granted = sym (ap (map (λ (g : Grant). g.fid)) are) ∙ fids_seen r.granted in
    grants_last now client expiry (map (λ (g : Grant). g.fid) grants) l lasts
    ∙ (ap (λ (fs : List Fid). grants_all client expiry fs (expired now l)) fids
    ∙ ap (λ (us : List Fid). grants_found client expiry r.granted (gives_up_all client us (expired now l))) (sym nothing))

pub shown_lines : (me client : Node) (expiry : ℕ) (grants : List Grant) (fs : List Found) → grants_seen fs ≡ grants → map (grant_line me client expiry) grants ≡ granted me client expiry fs []
shown_lines me client expiry grants fs are =
    ap (map (grant_line me client expiry)) (sym are) ∙ (sym (append-nil (map (grant_line me client expiry) (grants_seen fs))) ∙ lines_granted me client expiry fs [])
