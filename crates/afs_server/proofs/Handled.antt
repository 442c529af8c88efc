-- The numbers that a message makes a server draw.
use Rattle.std.proofs.Common.{◌≡◌, ◌≤◌, ◌+◌, ℕ, Bool, true, false, cond, not, List, [], ◌∷◌, length, Option, Some, None, refl, ap, ◌∙◌, arith}
use Rattle.std.proofs.lemmas.List.{length-append}
use Rattle.std.proofs.lemmas.List.Filters.{length-filter_both}
use Rattle.afs_num.specs.Nodes.{same_node}
use Rattle.afs_num.specs.declared.calls.FsCall.{FsCall}
use Rattle.afs_num.specs.declared.calls.FsCall.TheVariants as calls
use Rattle.afs_num.specs.declared.histories.Version.{Version}
use Rattle.afs_num.specs.declared.messages.Carried.{Carried}
use Rattle.afs_num.specs.declared.messages.Carried.TheVariants as carried
use Rattle.afs_num.specs.declared.messages.Received.{Received}
use Rattle.afs_num.specs.declared.messages.Received.TheVariants.{Nothing, Unserved, Unreadable, Whole}
use Rattle.afs_num.specs.declared.types.Fid.{Fid}
use Rattle.afs_num.specs.declared.types.Head.{Head}
use Rattle.afs_num.specs.declared.types.Node.{Node}
use Rattle.spec_ideal.specs.Operations.{Found}
use Rattle.spec_ideal.specs.Volumes.{Volume}
use Rattle.spec_model.specs.Calls.{call_seat}
use Rattle.spec_breaks.specs.Promises.{gives_up, is_hit, is_promise, withdraws, with_promise, with_promises, without_promise, Lists}
use Rattle.spec_breaks.specs.declared.types.Promise.{Promise}
use Rattle.spec_rows.specs.Callbacks as row
use Rattle.spec_rows.specs.Callbacks.{fids_found, gives_up_all, grants_found, held_under, is_back_awaited, is_seat_of, key_answered, no_turn, renews_by, settles_by, turn_for, turned_by, turned_in, withdraws_all}
use Rattle.spec_rows.specs.ServerRow.{drops, granted_in, granted_new, versions_made, promise_ticks, refuses, repeats, result, saves, shows, tells_boot, Decision}
use Rattle.spec_rows.specs.States.{BackCall, Backs, ServerState}
use Rattle.afs_server.proofs.Drawn.{ended_draws}
use Rattle.afs_callbacks.proofs.Turned.{repeated_backs}
use Rattle.afs_sharing.proofs.Drawn.{breaks_drawn, filter_shorter}

-- ---- the lists of promises, with the breaks that they may become

-- a new promise is one more at most
with_one : (n : Node) (expiry : ℕ) (f : Fid) (ps : List Promise) → length (with_promise n expiry f ps) ≤ length ps + 1
with_one n expiry f ps =
    let less = filter_shorter (λ (p : Promise). not (is_promise n f p)) ps in
    let more = length-append (without_promise n f ps) (record { client = n; fid = f; expiry = expiry } ∷ []) in
    omega (arith, less, more)

with_all : (n : Node) (expiry : ℕ) (fs : List Fid) (ps : List Promise) → length (with_promises n expiry fs ps) ≤ length ps + length fs
with_all n expiry [] ps = omega arith
with_all n expiry (f ∷ fs) ps =
    let one = with_one n expiry f ps in
    let rest = with_all n expiry fs (with_promise n expiry f ps) in
    omega (arith, one, rest)

found_fids : (fs : List Found) → length (fids_found fs) ≡ length fs
found_fids [] = refl
found_fids (f ∷ fs) = let rest = found_fids fs in omega (arith, rest)

pub granted_draws : (n : Node) (expiry : ℕ) (fs : List Found) (l : Lists) → breaks_drawn (grants_found n expiry fs l) ≤ breaks_drawn l + length fs
granted_draws n expiry fs l =
    let more = with_all n expiry (fids_found fs) l.promises in
    let fids = found_fids fs in
    omega (arith, more, fids)

pub given_up_draws : (n : Node) (fs : List Fid) (l : Lists) → breaks_drawn (gives_up_all n fs l) ≤ breaks_drawn l
given_up_draws n [] l = omega arith
given_up_draws n (f ∷ fs) l =
    let less = filter_shorter (λ (p : Promise). not (is_promise n f p)) l.promises in
    let rest = given_up_draws n fs (gives_up n f l) in
    omega (arith, less, rest)

-- a promise that is withdrawn becomes a break
withdrawn_draws : (n : Node) (f : Fid) (l : Lists) → breaks_drawn (withdraws n f l) ≡ breaks_drawn l
withdrawn_draws n f l =
    let both = length-filter_both (is_hit n f) (λ (p : Promise). not (is_hit n f p)) (λ p. refl) l.promises in
    omega (arith, both)

pub withdrawn_all_draw : (n : Node) (vs : List Version) (l : Lists) → breaks_drawn (withdraws_all n vs l) ≡ breaks_drawn l
withdrawn_all_draw n [] l = refl
withdrawn_all_draw n (v ∷ vs) l = withdrawn_all_draw n vs (withdraws n v.fid l) ∙ withdrawn_draws n v.fid l

-- a change promises one new vnode at most
one_new : (id : ℕ) (v : Volume) (n : ℕ) (call : FsCall) → length (granted_new id v n call) ≤ 1
one_new id v n (calls.CreateFile d name status) = omega arith
one_new id v n (calls.MakeDir d name status) = omega arith
one_new id v n call = omega arith

-- ---- what is done on a decision

-- no more promises are granted than a message has room for
abbrev pub GrantsFew : Decision → Type 0
GrantsFew (shows head r) = length r.granted ≤ 50
GrantsFew d = Unit {0}

-- it draws no number of a call before its end, and of few breaks
pub record DrawsFew (b : Backs) (t : row.CallbackStep) : Type 0 where
  pub last : t.backs.last_call ≡ b.last_call
  pub breaks : breaks_drawn t.backs.lists ≤ breaks_drawn b.lists + 50

same_draws : (b : Backs) (t : row.CallbackStep) → t.backs ≡ b → DrawsFew b t
same_draws b t same = let lists = ap (λ (x : Backs). breaks_drawn x.lists) same in record { last = ap (λ (x : Backs). x.last_call) same; breaks = omega (arith, lists) }

for_draws : (me : Node) (s : ServerState) (clock : ℕ) (b : Backs) (d : Decision) → GrantsFew d → DrawsFew b (turn_for me s clock b d)
for_draws me s clock b drops few = same_draws b _ refl
for_draws me s clock b (tells_boot head) few = same_draws b _ refl
for_draws me s clock b (repeats reply) few = same_draws b _ (repeated_backs b reply (held_under (key_answered reply) b.held) (is_seat_of reply (call_seat reply.head.to s.lasting.kept)))
for_draws me s clock b (refuses head code) few = same_draws b _ refl
for_draws me s clock b (shows head r) few =
    let up = given_up_draws head.from r.given_up b.lists in
    let granted = granted_draws head.from (clock + promise_ticks) r.granted (gives_up_all head.from r.given_up b.lists) in
    record { last = refl; breaks = omega (arith, few, up, granted) }
for_draws me s clock b (saves head c) few =
    let gone = withdrawn_all_draw head.from (versions_made c) b.lists in
    let granted = granted_draws head.from (clock + promise_ticks) (granted_in c) (withdraws_all head.from (versions_made c) b.lists) in
    let one = one_new c.id (result c) c.shown c.call in
    record { last = refl; breaks = omega (arith, gone, granted, one) }

-- ---- and on a message

if_draws : (t : Bool) (b : Backs) (u : row.CallbackStep) → DrawsFew b u → DrawsFew b (cond t u (no_turn b))
if_draws true b u few = few
if_draws false b u few = same_draws b (no_turn b) refl

settled_draws : (me : Node) (boot : ℕ) (head : Head) (b : Backs) (o : Option BackCall) → DrawsFew b (settles_by me boot head b o)
settled_draws me boot head b None = same_draws b (no_turn b) refl
settled_draws me boot head b (Some c) =
    let same = ended_draws c.content b.lists in
    if_draws (is_back_awaited boot c head) b _ (record { last = refl; breaks = omega (arith, same) })

renewed_draws : (me : Node) (boot : ℕ) (head : Head) (b : Backs) (o : Option BackCall) → DrawsFew b (renews_by me boot head b o)
renewed_draws me boot head b None = same_draws b (no_turn b) refl
renewed_draws me boot head b (Some c) = if_draws (is_back_awaited boot c head) b _ (record { last = refl; breaks = omega arith })

by_draws : (me : Node) (s : ServerState) (clock : ℕ) (b : Backs) (d : Decision) (head : Head) (c : Carried) → GrantsFew d → DrawsFew b (turned_by me s clock b d head c)
by_draws me s clock b d head (carried.Call user call) few = for_draws me s clock b d few
by_draws me s clock b d head (carried.Refusal code) few = if_draws (same_node head.to me) b _ (settled_draws me s.lasting.boot head b (b.calls head.from))
by_draws me s clock b d head (carried.Reply reply) few = if_draws (same_node head.to me) b _ (settled_draws me s.lasting.boot head b (b.calls head.from))
by_draws me s clock b d head carried.Notice few = if_draws (same_node head.to me) b _ (renewed_draws me s.lasting.boot head b (b.calls head.from))

pub in_draws : (me : Node) (s : ServerState) (clock : ℕ) (b : Backs) (d : Decision) (m : Received) → GrantsFew d → DrawsFew b (turned_in me s clock b d m)
in_draws me s clock b d Nothing few = same_draws b (no_turn b) refl
in_draws me s clock b d (Unserved head) few = for_draws me s clock b d few
in_draws me s clock b d (Unreadable head) few = for_draws me s clock b d few
in_draws me s clock b d (Whole m) few = by_draws me s clock b d m.head m.carried few
