-- What becomes of promises and owed breaks in a step, told at once: the lists after changes of several fids, after several
-- promises were given up, and after a restart.
use Rattle.std.proofs.Common.{◌≡◌, ℕ, ◌+◌, zero, suc, length, List, [], ◌∷◌, ◌++◌, Some, None, refl, sym, ap, ◌∙◌, arith, append-nil}
use Rattle.std.proofs.lemmas.List.{append_assoc}
use Rattle.std.specs.Prelude.{filter, map, not}
use Rattle.afs_num.specs.declared.types.Fid.{Fid}
use Rattle.afs_num.specs.declared.types.Head.{Head}
use Rattle.afs_num.specs.declared.types.Node.{Node}
use Rattle.afs_num.specs.declared.types.Node.TheVariants.{Client}
use Rattle.afs_num.specs.declared.histories.Version.{Version}
use Rattle.spec_ideal.specs.Operations.{Found}
use Rattle.spec_breaks.specs.declared.types.Promise.{Promise}
use Rattle.spec_breaks.specs.declared.types.OwedBreak.{OwedBreak}
use Rattle.spec_breaks.specs.Promises as lists
use Rattle.spec_breaks.specs.Promises.{Lists, is_hit, owes_from, without_promise, without_break}
use Rattle.spec_rows.specs.Callbacks.{CallbackStep, fids_found, gives_up_all, withdraws_all, new_owes, ends_all, ends_call, put_at, replies_turn, turn_for, owe_line, break_numbers, alls, risen_turn, owed_to_clients}
use Rattle.spec_rows.specs.ServerRow.{Change, Reading, saves, shows, versions_made, granted_in, change_reply_to, read_reply_to, promise_ticks}
use Rattle.spec_rows.specs.States.{Backs, BackCall, ServerState}

abbrev pub Owed : Type 0
Owed = OwedBreak

-- one after the other
abbrev pub with_promises : Node → ℕ → List Found → List Promise → List Promise
with_promises n expiry fs ps = lists.with_promises n expiry (fids_found fs) ps

abbrev pub without_promises : Node → List Fid → List Promise → List Promise
without_promises n [] ps = ps
without_promises n (f ∷ fs) ps = without_promises n fs (without_promise n f ps)

-- the promises that changes of these fids withdraw, fid by fid, and those that stay
abbrev pub hits : Node → List Version → List Promise → List Promise
hits n [] ps = []
hits n (v ∷ vs) ps = filter (is_hit n v.fid) ps ++ hits n vs (filter (λ p. not (is_hit n v.fid p)) ps)

abbrev pub staying : Node → List Version → List Promise → List Promise
staying n [] ps = ps
staying n (v ∷ vs) ps = staying n vs (filter (λ p. not (is_hit n v.fid p)) ps)

-- ---- changes

owes_more : (k : ℕ) (a b : List Promise) → owes_from k (a ++ b) ≡ owes_from k a ++ owes_from (k + length a) b
owes_more k [] b = ap (λ (i : ℕ). owes_from i b) (omega arith)
owes_more k (p ∷ a) b = ap (λ (os : List OwedBreak). record { number = k + 1; client = p.client; what = Some p.fid; expiry = p.expiry } ∷ os) (owes_more (k + 1) a b ∙ ap (λ (i : ℕ). owes_from (k + 1) a ++ owes_from i b) (omega arith))

long_more : (a b : List Promise) → length (a ++ b) ≡ length a + length b
long_more [] b = omega arith
long_more (p ∷ a) b = let e : length (a ++ b) ≡ length a + length b = long_more a b in omega arith

long_owes : (k : ℕ) (ps : List Promise) → length (owes_from k ps) ≡ length ps
long_owes k [] = refl
long_owes k (p ∷ ps) = ap (λ (n : ℕ). suc n) (long_owes (k + 1) ps)

-- the lists after changes by this node, at once
abbrev pub withdrawn_all : Node → List Version → Lists → Lists
withdrawn_all n vs l = record l {
  promises = staying n vs l.promises;
  owed = l.owed ++ owes_from l.last_owed (hits n vs l.promises);
  last_owed = l.last_owed + length (owes_from l.last_owed (hits n vs l.promises));
}

abbrev lists_of : List Promise → List OwedBreak → ℕ → Lists
lists_of ps os last = record { promises = ps; owed = os; last_owed = last }

pub withdrawn_is : (n : Node) (vs : List Version) (l : Lists) → withdraws_all n vs l ≡ withdrawn_all n vs l
withdrawn_is n [] l = ap (λ (os : List OwedBreak). lists_of l.promises os l.last_owed) (sym (append-nil l.owed)) ∙ ap (λ (k : ℕ). lists_of l.promises (l.owed ++ []) k) (omega arith)
withdrawn_is n (v ∷ vs) l =
    let a : List Promise = filter (is_hit n v.fid) l.promises in
    let stay : List Promise = filter (λ p. not (is_hit n v.fid p)) l.promises in
    let b : List Promise = hits n vs stay in
    let k : ℕ = l.last_owed in
    let longs : length (owes_from (k + length a) b) ≡ length b = long_owes (k + length a) b in
    let whole : length (owes_from k (a ++ b)) ≡ length (a ++ b) = long_owes k (a ++ b) in
    let both : length (a ++ b) ≡ length a + length b = long_more a b in
    withdrawn_is n vs (lists.withdraws n v.fid l)
    ∙ (ap (λ (os : List OwedBreak). lists_of (staying n vs stay) os ((k + length a) + length (owes_from (k + length a) b))) (append_assoc l.owed (owes_from k a) (owes_from (k + length a) b) ∙ ap (λ (os : List OwedBreak). l.owed ++ os) (sym (owes_more k a b)))
    ∙ ap (λ (i : ℕ). lists_of (staying n vs stay) (l.owed ++ owes_from k (a ++ b)) i) (omega arith))

pub new_owes_are : (n : Node) (vs : List Version) (l : Lists) → new_owes n vs l ≡ owes_from l.last_owed (hits n vs l.promises)
new_owes_are n [] l = refl
new_owes_are n (v ∷ vs) l =
    let a : List Promise = filter (is_hit n v.fid) l.promises in
    let stay : List Promise = filter (λ p. not (is_hit n v.fid p)) l.promises in
    ap (λ (os : List OwedBreak). owes_from l.last_owed a ++ os) (new_owes_are n vs (lists.withdraws n v.fid l)) ∙ sym (owes_more l.last_owed a (hits n vs stay))

-- the whole turn of a change
abbrev pub saves_turn : Node → ServerState → ℕ → Backs → Head → Change → CallbackStep
saves_turn me s clock b head c =
    replies_turn (record b { lists = record (withdrawn_all head.from (versions_made c) b.lists) { promises = with_promises head.from (clock + promise_ticks) (granted_in c) (staying head.from (versions_made c) b.lists.promises) } })
    (map (owe_line me) (owes_from b.lists.last_owed (hits head.from (versions_made c) b.lists.promises)))
    (change_reply_to s.lasting.boot head clock c) (break_numbers (owes_from b.lists.last_owed (hits head.from (versions_made c) b.lists.promises)) ++ alls b.lists.owed)

abbrev saves_by : Node → ServerState → ℕ → Backs → Head → Change → Lists → List OwedBreak → CallbackStep
saves_by me s clock b head c l os =
    replies_turn (record b { lists = record l { promises = with_promises head.from (clock + promise_ticks) (granted_in c) l.promises } }) (map (owe_line me) os) (change_reply_to s.lasting.boot head clock c) (break_numbers os ++ alls b.lists.owed)

pub saves_turn_is : (me : Node) (s : ServerState) (clock : ℕ) (b : Backs) (head : Head) (c : Change) → turn_for me s clock b (saves head c) ≡ saves_turn me s clock b head c
saves_turn_is me s clock b head c =
    ap (λ (l : Lists). saves_by me s clock b head c l (new_owes head.from (versions_made c) b.lists)) (withdrawn_is head.from (versions_made c) b.lists)
    ∙ ap (λ (os : List OwedBreak). saves_by me s clock b head c (withdrawn_all head.from (versions_made c) b.lists) os) (new_owes_are head.from (versions_made c) b.lists)

-- ---- promises given up

pub given_up_is : (n : Node) (fs : List Fid) (l : Lists) → gives_up_all n fs l ≡ record l { promises = without_promises n fs l.promises }
given_up_is n [] l = refl
given_up_is n (f ∷ fs) l = given_up_is n fs (lists.gives_up n f l)

-- the whole turn of a reading call
abbrev pub shows_turn : Node → ServerState → ℕ → Backs → Head → Reading → CallbackStep
shows_turn me s clock b head r =
    replies_turn (record b { lists = record b.lists { promises = with_promises head.from (clock + promise_ticks) r.granted (without_promises head.from r.given_up b.lists.promises) } }) []
    (read_reply_to s.lasting.boot head (clock + promise_ticks) r) []

pub shows_turn_is : (me : Node) (s : ServerState) (clock : ℕ) (b : Backs) (head : Head) (r : Reading) → turn_for me s clock b (shows head r) ≡ shows_turn me s clock b head r
shows_turn_is me s clock b head r =
    ap (λ (l : Lists). replies_turn (record b { lists = record l { promises = with_promises head.from (clock + promise_ticks) r.granted l.promises } }) [] (read_reply_to s.lasting.boot head (clock + promise_ticks) r) []) (given_up_is head.from r.given_up b.lists)

-- ---- a call's end

abbrev pub without_all : List OwedBreak → List OwedBreak → List OwedBreak
without_all [] xs = xs
without_all (o ∷ os) xs = without_all os (without_break o.number xs)

pub ends_all_is : (os : List OwedBreak) (l : Lists) → ends_all os l ≡ record l { owed = without_all os l.owed }
ends_all_is [] l = refl
ends_all_is (o ∷ os) l = ends_all_is os (lists.break_ended o.number l)

abbrev pub ended_call : Node → BackCall → Backs → Backs
ended_call n c b = record b { calls = put_at n None b.calls; lists = record b.lists { owed = without_all c.content b.lists.owed } }

pub ended_is : (n : Node) (c : BackCall) (b : Backs) → ends_call n c b ≡ ended_call n c b
ended_is n c b = ap (λ (l : Lists). record b { calls = put_at n None b.calls; lists = l }) (ends_all_is c.content b.lists)

-- ---- a restart

abbrev pub owes_all : ℕ → ℕ → ℕ → List OwedBreak
owes_all expiry k zero = []
owes_all expiry k (suc m) = record { number = k + 1; client = Client (k + 1); what = None; expiry = expiry } ∷ owes_all expiry (k + 1) m

owed_at : (expiry k m : ℕ) (ps : List Promise) (os : List OwedBreak) → owed_to_clients expiry k m (lists_of ps os k) ≡ lists_of ps (os ++ owes_all expiry k m) (k + m)
owed_at expiry k zero ps os = ap (λ (xs : List OwedBreak). lists_of ps xs k) (sym (append-nil os)) ∙ ap (λ (i : ℕ). lists_of ps (os ++ []) i) (omega arith)
owed_at expiry k (suc m) ps os =
    let o : OwedBreak = record { number = k + 1; client = Client (k + 1); what = None; expiry = expiry } in
    owed_at expiry (k + 1) m ps (os ++ o ∷ [])
    ∙ (ap (λ (xs : List OwedBreak). lists_of ps xs ((k + 1) + m)) (append_assoc os (o ∷ []) (owes_all expiry (k + 1) m)) ∙ ap (λ (i : ℕ). lists_of ps (os ++ o ∷ owes_all expiry (k + 1) m) i) (omega arith))

-- the whole turn of a restart
abbrev pub risen_by : Node → Lists → CallbackStep
risen_by me l = record { backs = record { lists = l; last_call = 0; calls = λ n. None; known = λ n. 1; held = [] }; lines = map (owe_line me) l.owed; sent = []; outs = [] }

abbrev pub risen_as : Node → ℕ → ℕ → CallbackStep
risen_as me clock count = risen_by me (lists_of [] (owes_all (clock + promise_ticks) 0 count) count)

pub risen_is : (me : Node) (clock count : ℕ) → risen_turn me clock count ≡ risen_as me clock count
risen_is me clock count = ap (risen_by me) (owed_at (clock + promise_ticks) 0 count [] [] ∙ ap (λ (n : ℕ). lists_of [] (owes_all (clock + promise_ticks) 0 count) n) (omega arith))
