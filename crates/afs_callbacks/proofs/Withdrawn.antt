-- What a change withdraws, and the breaks that are owed for it.
use Rattle.std.proofs.Common.{◌≡◌, ◌≤◌, ◌+◌, ℕ, Bool, true, false, cond, not, ◌&&◌, ◌||◌, List, [], ◌∷◌, ◌++◌, length, Option, Some, refl, sym, ap, ◌∙◌, arith, append_assoc}
use Rattle.std.specs.Prelude.{filter, nat_lt}
use Rattle.std.specs.List.{All}
use Rattle.std.proofs.lemmas.List.{append-nil, length-append}
use Rattle.std.proofs.lemmas.List.Elements.{filter-append, All-append, All-cons, All-filter, All-head, All-nil, All-tail}
use Rattle.std.proofs.lemmas.List.Filters.{length-filter_both}
use Rattle.afs_num.specs.Fids.{same_fid}
use Rattle.afs_num.specs.Nodes.{same_node}
use Rattle.afs_num.specs.declared.calls.FsCall.{FsCall}
use Rattle.afs_num.specs.declared.calls.FsCall.TheVariants as calls
use Rattle.afs_num.specs.declared.calls.FsReply.{FsReply}
use Rattle.afs_num.specs.declared.calls.FsReply.TheVariants as replies
use Rattle.afs_num.specs.declared.histories.Version.{Version}
use Rattle.afs_num.specs.declared.types.Fid.{Fid}
use Rattle.afs_num.specs.declared.types.Node.{Node}
use Rattle.spec_ideal.specs.Operations.{Caller}
use Rattle.spec_ideal.specs.Replies.{change_reply}
use Rattle.spec_ideal.specs.Volumes.{Volume}
use Rattle.spec_ideal.proofs.Basics.{same_fid-refl, same_fid-true}
use Rattle.spec_model.proofs.Basics.{same_node-refl, same_node-true}
use Rattle.spec_breaks.specs.Promises.{expired, grants_all, hits, is_hit, is_promise, left, lasting, owes_from, with_promise, with_promises, withdraws, without_promise, Lists}
use Rattle.spec_breaks.specs.declared.types.OwedBreak.{OwedBreak}
use Rattle.spec_breaks.specs.declared.types.Promise.{Promise}
use Rattle.spec_rows.specs.Callbacks.{fids_found, new_owes, withdraws_all}
use Rattle.spec_rows.specs.ServerRow.{granted_new}
use Rattle.afs_callees.specs.Telling.{grants_seen}
use Rattle.afs_server_parts.specs.Turning.{IsBreakToNode}
use Rattle.afs_callbacks.specs.Saving.{breaks_new, fids_changed, fids_granted, has_fid, hits_each, hits_fresh, new_grants, withdraws_each}
use Rattle.afs_callbacks.specs.States.{IsPromiseToNode}
use Rattle.afs_callbacks.proofs.Granting.{fids_seen, filters_swap, grants_last}

abbrev some : {A : Type 0} → A → Option A
some x = Some x

some_is : {A : Type 0} (x y : A) → some x ≡ some y → x ≡ y
some_is x y e = cc

-- ---- breaks are numbered one behind the other

pub owes_append : (k : ℕ) (ps qs : List Promise) → owes_from k (ps ++ qs) ≡ owes_from k ps ++ owes_from (k + length ps) qs
owes_append k [] qs = ap (λ (j : ℕ). owes_from j qs) (omega arith)
owes_append k (p ∷ ps) qs =
    ap (λ (os : List OwedBreak). record { number = k + 1; client = p.client; what = Some p.fid; expiry = p.expiry } ∷ os)
    (owes_append (k + 1) ps qs ∙ ap (λ (j : ℕ). owes_from (k + 1) ps ++ owes_from j qs) (omega arith))

pub new_owes_are : (n : Node) (vs : List Version) (l : Lists) → new_owes n vs l ≡ owes_from l.last_owed (hits_each n (fids_changed vs) l.promises)
new_owes_are n [] l = refl
new_owes_are n (v ∷ vs) l =
    ap (λ (os : List OwedBreak). owes_from l.last_owed (hits n v.fid l.promises) ++ os) (new_owes_are n vs (withdraws n v.fid l))
    ∙ sym (owes_append l.last_owed (hits n v.fid l.promises) (hits_each n (fids_changed vs) (left n v.fid l.promises)))

-- ---- what is left of the lists

pub withdraws_are : (n : Node) (vs : List Version) (l : Lists) → withdraws_all n vs l ≡ withdraws_each n (fids_changed vs) l
withdraws_are n [] l = refl
withdraws_are n (v ∷ vs) l = withdraws_are n vs (withdraws n v.fid l)

pub withdrawn_owed : (n : Node) (fs : List Fid) (l : Lists) → (withdraws_each n fs l).owed ≡ l.owed ++ owes_from l.last_owed (hits_each n fs l.promises)
withdrawn_owed n [] l = sym (append-nil l.owed)
withdrawn_owed n (f ∷ fs) l =
    withdrawn_owed n fs (withdraws n f l)
    ∙ (append_assoc l.owed (owes_from l.last_owed (hits n f l.promises)) _
    ∙ ap (λ (os : List OwedBreak). l.owed ++ os) (sym (owes_append l.last_owed (hits n f l.promises) (hits_each n fs (left n f l.promises)))))

-- what may still be owed is no more
pub hit_or_left : (n : Node) (f : Fid) (ps : List Promise) → length (hits n f ps) + length (left n f ps) ≡ length ps
hit_or_left n f ps = length-filter_both (is_hit n f) (λ (p : Promise). not (is_hit n f p)) (λ p. refl) ps

pub few_hits : (n : Node) (fs : List Fid) (ps : List Promise) → length (hits_each n fs ps) ≤ length ps
few_hits n [] ps = omega arith
few_hits n (f ∷ fs) ps =
    let both = hit_or_left n f ps in
    let rest = few_hits n fs (left n f ps) in
    let all = length-append (hits n f ps) (hits_each n fs (left n f ps)) in
    omega (arith, both, rest, all)

pub filter_few : (q : Promise → Bool) (ps : List Promise) → length (filter q ps) ≤ length ps
filter_few q ps = let both = length-filter_both q (λ (p : Promise). not (q p)) (λ p. refl) ps in omega (arith, both)

pub few_lasting : (n : Node) (fs : List Fid) (now : ℕ) (ps : List Promise) → length (hits_each n fs (lasting now ps)) ≤ length ps
few_lasting n fs now ps =
    let hit = few_hits n fs (lasting now ps) in
    let less = filter_few (λ (p : Promise). nat_lt now p.expiry) ps in
    omega (arith, hit, less)

pub withdrawn_few : (n : Node) (f : Fid) (l : Lists) → (withdraws n f l).last_owed + length (withdraws n f l).promises ≡ l.last_owed + length l.promises
withdrawn_few n f l = let both = hit_or_left n f l.promises in omega (arith, both)

-- ---- to nodes

each_to_nodes : (n : Node) (fs : List Fid) (ps : List Promise) → All IsPromiseToNode ps → All IsPromiseToNode (hits_each n fs ps)
each_to_nodes n [] ps h = All-nil IsPromiseToNode
each_to_nodes n (f ∷ fs) ps h =
    All-append IsPromiseToNode (hits n f ps) (hits_each n fs (left n f ps)) (All-filter (is_hit n f) IsPromiseToNode ps h)
    (each_to_nodes n fs (left n f ps) (All-filter (λ (p : Promise). not (is_hit n f p)) IsPromiseToNode ps h))

pub owes_to_nodes : (k : ℕ) (ps : List Promise) → All IsPromiseToNode ps → All IsBreakToNode (owes_from k ps)
owes_to_nodes k [] h = All-nil IsBreakToNode
owes_to_nodes k (p ∷ ps) h = All-cons IsBreakToNode _ (owes_from (k + 1) ps) (All-head IsPromiseToNode p ps h) (owes_to_nodes (k + 1) ps (All-tail IsPromiseToNode p ps h))

pub found_to_nodes : (n : Node) (fs : List Fid) (now : ℕ) (ps : List Promise) → All IsPromiseToNode ps → All IsPromiseToNode (hits_each n fs (lasting now ps))
found_to_nodes n fs now ps h = each_to_nodes n fs (lasting now ps) (All-filter (λ (p : Promise). nat_lt now p.expiry) IsPromiseToNode ps h)

pub new_to_nodes : (n : Node) (fs : List Fid) (now : ℕ) (l : Lists) → All IsPromiseToNode l.promises → All IsBreakToNode (breaks_new n fs now l)
new_to_nodes n fs now l h = owes_to_nodes l.last_owed (hits_each n fs (lasting now l.promises)) (each_to_nodes n fs (lasting now l.promises) (All-filter (λ (p : Promise). nat_lt now p.expiry) IsPromiseToNode l.promises h))

pub left_to_nodes : (n : Node) (fs : List Fid) (l : Lists) → All IsPromiseToNode l.promises → All IsPromiseToNode (withdraws_each n fs l).promises
left_to_nodes n [] l h = h
left_to_nodes n (f ∷ fs) l h = left_to_nodes n fs (withdraws n f l) (All-filter (λ (p : Promise). not (is_hit n f p)) IsPromiseToNode l.promises h)

-- ---- all are looked up in the promises before

none_by : (b : Bool) (q : Promise → Bool) (p : Promise) (ps : List Promise) → q p ≡ b → filter q (filter (λ (x : Promise). not (q x)) ps) ≡ [] → filter q (cond (not b) (p ∷ filter (λ (x : Promise). not (q x)) ps) (filter (λ (x : Promise). not (q x)) ps)) ≡ []
none_by true q p ps e h = h
none_by false q p ps e h = rw e h

-- what is hit once isn't hit again
none_left : (q : Promise → Bool) (ps : List Promise) → filter q (filter (λ (x : Promise). not (q x)) ps) ≡ []
none_left q [] = refl
none_left q (p ∷ ps) = none_by (q p) q p ps refl (none_left q ps)

pub first_of : (a b : Bool) → (a && b) ≡ true → a ≡ true
first_of true b e = refl
first_of false b e = absurd cc

both_hit : (n : Node) (f g : Fid) (p : Promise) (a : Bool) → same_fid g f ≡ false → is_hit n f p ≡ true → is_hit n g p ≡ a → a ≡ false
both_hit n f g p false apart hit is = refl
both_hit n f g p true apart hit is =
    let at_f = same_fid-true p.fid f (first_of (same_fid p.fid f) (not (same_node p.client n)) hit) in
    let at_g = same_fid-true p.fid g (first_of (same_fid p.fid g) (not (same_node p.client n)) is) in
    let same : same_fid g f ≡ true = ap (λ (x : Fid). same_fid x f) (sym at_g ∙ at_f) ∙ same_fid-refl f in
    absurd cc

kept_by : (a b : Bool) (n : Node) (f g : Fid) (p : Promise) (ps qs : List Promise) → is_hit n f p ≡ a → is_hit n g p ≡ b → (a ≡ true → b ≡ false) → filter (is_hit n f) qs ≡ filter (is_hit n f) ps →
    filter (is_hit n f) (cond (not b) (p ∷ qs) qs) ≡ cond a (p ∷ filter (is_hit n f) ps) (filter (is_hit n f) ps)
kept_by true true n f g p ps qs e d h ih = let no = h refl in absurd cc
kept_by true false n f g p ps qs e d h ih = rw e (ap (λ (xs : List Promise). p ∷ xs) ih)
kept_by false true n f g p ps qs e d h ih = ih
kept_by false false n f g p ps qs e d h ih = rw e ih

-- a fid's promises stay where those of another are withdrawn
hits_stay : (n : Node) (f g : Fid) (ps : List Promise) → same_fid g f ≡ false → hits n f (left n g ps) ≡ hits n f ps
hits_stay n f g [] apart = refl
hits_stay n f g (p ∷ ps) apart = kept_by (is_hit n f p) (is_hit n g p) n f g p ps (left n g ps) refl refl (λ hit. both_hit n f g p (is_hit n g p) apart hit refl) (hits_stay n f g ps apart)

abbrev pub left_each : Node → List Fid → List Promise → List Promise
left_each n [] ps = ps
left_each n (f ∷ fs) ps = left_each n fs (left n f ps)

left_behind : (n : Node) (fs : List Fid) (f : Fid) (ps : List Promise) → left_each n (fs ++ f ∷ []) ps ≡ left n f (left_each n fs ps)
left_behind n [] f ps = refl
left_behind n (g ∷ fs) f ps = left_behind n fs f (left n g ps)

empty_if : (b : Bool) (xs ys : List Promise) → xs ≡ [] → ys ≡ [] → cond b xs ys ≡ []
empty_if true xs ys p q = p
empty_if false xs ys p q = q

hits_by : (b c : Bool) (n : Node) (f g : Fid) (ps : List Promise) → same_fid g f ≡ b → cond c [] (hits n f (left n g ps)) ≡ cond (b || c) [] (hits n f ps)
hits_by true c n f g ps e = empty_if c [] (hits n f (left n g ps)) refl (ap (λ (x : Fid). hits n f (left n x ps)) (same_fid-true g f e) ∙ none_left (is_hit n f) ps)
hits_by false c n f g ps e = ap (cond c []) (hits_stay n f g ps e)

hits_among : (n : Node) (fs : List Fid) (f : Fid) (ps : List Promise) → hits n f (left_each n fs ps) ≡ cond (has_fid fs f) [] (hits n f ps)
hits_among n [] f ps = refl
hits_among n (g ∷ fs) f ps = hits_among n fs f (left n g ps) ∙ hits_by (same_fid g f) (has_fid fs f) n f g ps refl

fresh_from : (n : Node) (before fs : List Fid) (ps : List Promise) → hits_fresh n before fs ps ≡ hits_each n fs (left_each n before ps)
fresh_from n before [] ps = refl
fresh_from n before (f ∷ fs) ps =
    ap (λ (xs : List Promise). xs ++ hits_fresh n (before ++ f ∷ []) fs ps) (sym (hits_among n before f ps))
    ∙ ap (λ (xs : List Promise). hits n f (left_each n before ps) ++ xs) (fresh_from n (before ++ f ∷ []) fs ps ∙ ap (hits_each n fs) (left_behind n before f ps))

pub fresh_are : (n : Node) (fs : List Fid) (ps : List Promise) → hits_fresh n [] fs ps ≡ hits_each n fs ps
fresh_are n fs ps = fresh_from n [] fs ps

-- ---- a node's own grants and what its change withdraws

off_by : (a b : Bool) → b ≡ true → (a && not b) ≡ false
off_by true b e = rw e refl
off_by false b e = refl

own_not : (n : Node) (f : Fid) (p : Promise) → p.client ≡ n → is_hit n f p ≡ false
own_not n f p own = off_by (same_fid p.fid f) (same_node p.client n) (ap (λ (x : Node). same_node x n) own ∙ same_node-refl n)

own_by : (b c : Bool) (n : Node) (f g : Fid) (p : Promise) (ps : List Promise) → is_hit n f p ≡ b → is_promise n g p ≡ c → (c ≡ true → b ≡ false) → filter (is_hit n f) (without_promise n g ps) ≡ filter (is_hit n f) ps →
    filter (is_hit n f) (cond (not c) (p ∷ without_promise n g ps) (without_promise n g ps)) ≡ cond b (p ∷ filter (is_hit n f) ps) (filter (is_hit n f) ps)
own_by true true n f g p ps e d h ih = let no = h refl in absurd cc
own_by true false n f g p ps e d h ih = rw e (ap (λ (xs : List Promise). p ∷ xs) ih)
own_by false true n f g p ps e d h ih = ih
own_by false false n f g p ps e d h ih = rw e ih

own_hits : (n : Node) (f g : Fid) (ps : List Promise) → hits n f (without_promise n g ps) ≡ hits n f ps
own_hits n f g [] = refl
own_hits n f g (p ∷ ps) =
    own_by (is_hit n f p) (is_promise n g p) n f g p ps refl refl (λ is. own_not n f p (same_node-true p.client n (first_of (same_node p.client n) (same_fid p.fid g) is))) (own_hits n f g ps)

granted_hits : (n : Node) (e : ℕ) (f g : Fid) (ps : List Promise) → hits n f (with_promise n e g ps) ≡ hits n f ps
granted_hits n e f g ps =
    filter-append (is_hit n f) (without_promise n g ps) (record { client = n; fid = g; expiry = e } ∷ [])
    ∙ rw (own_not n f (record { client = n; fid = g; expiry = e }) refl) (append-nil (hits n f (without_promise n g ps)) ∙ own_hits n f g ps)

granted_left : (n : Node) (e : ℕ) (f g : Fid) (ps : List Promise) → left n f (with_promise n e g ps) ≡ with_promise n e g (left n f ps)
granted_left n e f g ps =
    filter-append (λ (p : Promise). not (is_hit n f p)) (without_promise n g ps) (record { client = n; fid = g; expiry = e } ∷ [])
    ∙ rw (own_not n f (record { client = n; fid = g; expiry = e }) refl)
    (ap (λ (qs : List Promise). qs ++ record { client = n; fid = g; expiry = e } ∷ []) (filters_swap (λ (p : Promise). not (is_hit n f p)) (λ (p : Promise). not (is_promise n g p)) ps))

pub all_hits : (n : Node) (e : ℕ) (f : Fid) (gs : List Fid) (ps : List Promise) → hits n f (with_promises n e gs ps) ≡ hits n f ps
all_hits n e f [] ps = refl
all_hits n e f (g ∷ gs) ps = all_hits n e f gs (with_promise n e g ps) ∙ granted_hits n e f g ps

pub all_left : (n : Node) (e : ℕ) (f : Fid) (gs : List Fid) (ps : List Promise) → left n f (with_promises n e gs ps) ≡ with_promises n e gs (left n f ps)
all_left n e f [] ps = refl
all_left n e f (g ∷ gs) ps = all_left n e f gs (with_promise n e g ps) ∙ ap (with_promises n e gs) (granted_left n e f g ps)

one_granted : (n : Node) (e : ℕ) (f : Fid) (gs : List Fid) (l : Lists) → withdraws n f (grants_all n e gs l) ≡ grants_all n e gs (withdraws n f l)
one_granted n e f gs l = λ i. record {
  promises = all_left n e f gs l.promises i;
  owed = l.owed ++ owes_from l.last_owed (all_hits n e f gs l.promises i);
  last_owed = l.last_owed + length (all_hits n e f gs l.promises i);
}

each_granted : (n : Node) (e : ℕ) (fs gs : List Fid) (l : Lists) → withdraws_each n fs (grants_all n e gs l) ≡ grants_all n e gs (withdraws_each n fs l)
each_granted n e [] gs l = refl
each_granted n e (f ∷ fs) gs l = ap (withdraws_each n fs) (one_granted n e f gs l) ∙ each_granted n e fs gs (withdraws n f l)

-- so it is all one whether it grants first or last
pub granted_first : (now : ℕ) (n : Node) (e : ℕ) (fs gs : List Fid) (l : Lists) → nat_lt now e ≡ true → withdraws_each n fs (expired now (grants_all n e gs l)) ≡ grants_all n e gs (withdraws_each n fs (expired now l))
granted_first now n e fs gs l lasts = ap (withdraws_each n fs) (grants_last now n e gs l lasts) ∙ each_granted n e fs gs (expired now l)

-- ---- what the reply to a change grants is what the row grants of its new vnode

pub change_grants : (id : ℕ) (caller : Caller) (times : Fid → ℕ) (v : Volume) (n : ℕ) (call : FsCall) (reply : FsReply) → change_reply id caller times v n call ≡ Some reply → grants_seen (granted_new id v n call) ≡ new_grants reply
change_grants id caller times v n (calls.StoreData f status position stored file_length contents) reply e = ap new_grants (some_is _ reply e)
change_grants id caller times v n (calls.StoreAcl f acl) reply e = ap new_grants (some_is _ reply e)
change_grants id caller times v n (calls.StoreStatus f status) reply e = ap new_grants (some_is _ reply e)
change_grants id caller times v n (calls.RemoveFile d name) reply e = ap new_grants (some_is _ reply e)
change_grants id caller times v n (calls.CreateFile d name status) reply e = ap new_grants (some_is _ reply e)
change_grants id caller times v n (calls.Rename d old f new) reply e = ap new_grants (some_is _ reply e)
change_grants id caller times v n (calls.Symlink d name target status) reply e = ap new_grants (some_is _ reply e)
change_grants id caller times v n (calls.Link d name f) reply e = ap new_grants (some_is _ reply e)
change_grants id caller times v n (calls.MakeDir d name status) reply e = ap new_grants (some_is _ reply e)
change_grants id caller times v n (calls.RemoveDir d name) reply e = ap new_grants (some_is _ reply e)
change_grants id caller times v n call reply e = absurd cc

-- one at most
pub few_granted : (reply : FsReply) → length (fids_granted (new_grants reply)) ≤ 1
few_granted (replies.CreateFile fid status directory callback sync) = omega arith
few_granted (replies.MakeDir fid status directory callback sync) = omega arith
few_granted reply = omega arith

pub granted_fids : (id : ℕ) (caller : Caller) (times : Fid → ℕ) (v : Volume) (n : ℕ) (call : FsCall) (reply : FsReply) → change_reply id caller times v n call ≡ Some reply → fids_granted (new_grants reply) ≡ fids_found (granted_new id v n call)
granted_fids id caller times v n call reply e = ap fids_granted (sym (change_grants id caller times v n call reply e)) ∙ fids_seen (granted_new id v n call)
