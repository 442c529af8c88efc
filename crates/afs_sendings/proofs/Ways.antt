-- What a step does with its own calls is what its row does.
use Rattle.std.proofs.Common.{◌≡◌, ℕ, Bool, true, false, cond, List, [], ◌∷◌, ◌++◌, Option, Some, None, refl, sym, ap, subst, ◌∙◌}
use Rattle.std.specs.Prelude.{ℤ, ◌+◌}
use Rattle.afs_num.specs.Nodes.{same_node}
use Rattle.afs_num.specs.declared.messages.Message.{Message}
use Rattle.afs_num.specs.declared.types.Head.{Head}
use Rattle.afs_num.specs.declared.types.Node.{Node}
use Rattle.afs_num.specs.declared.types.Node.TheVariants.{Server}
use Rattle.spec_history.specs.declared.lines.Line.{Line}
use Rattle.spec_model.specs.Calls.{finished, key_of}
use Rattle.spec_model.proofs.Basics.{same_node-refl, same_node-true}
use Rattle.spec_rows.specs.Callbacks.{put_at}
use Rattle.spec_rows.specs.States.{Backs, Lasting}
use Rattle.spec_volrows.specs.VolRow.{Dispatch}
use Rattle.spec_volrows.specs.VolStates.{PieceCall, Sending, VolState}
use Rattle.spec_volrows.specs.VolSteps.{dispatched, ends_sending, forward_reply, sending_goes_on, in_progress, piece_gone, next_by, next_piece, piece_message, sending_of, vol_renews, VolTurn}
use Rattle.afs_sendings.specs.Pieces.{adds, adds_by, call_or_none, call_seen, calls_in, dumps_of, ends, first_call, renews, retries, sendings_in, starts, AreTo, IsToOrNone, Piece, Way}

fun_ext : {A B : Type 0} (f g : A → B) → ((x : A) → f x ≡ g x) → f ≡ g
fun_ext f g h = λ i x. h x i

-- ---- maps from nodes

mapped_by : {A B : Type 0} (f : A → B) (b : Bool) (x y : A) → f (cond b x y) ≡ cond b (f x) (f y)
mapped_by f true x y = refl
mapped_by f false x y = refl

-- what is seen of a map that is changed at one node
pub mapped_put : {A B : Type 0} (f : A → B) (n : Node) (x : A) (h : Node → A) → (λ (m : Node). f (put_at n x h m)) ≡ put_at n (f x) (λ (m : Node). f (h m))
mapped_put f n x h = fun_ext _ _ (λ m. mapped_by f (same_node n m) x (h m))

twice_by : {A : Type 0} (b : Bool) (x y z : A) → cond b x (cond b y z) ≡ cond b x z
twice_by true x y z = refl
twice_by false x y z = refl

pub put_twice : {A : Type 0} (n : Node) (x y : A) (h : Node → A) → put_at n x (put_at n y h) ≡ put_at n x h
put_twice n x y h = fun_ext _ _ (λ m. twice_by (same_node n m) x y (h m))

pub put_here : {A : Type 0} (n : Node) (x : A) (h : Node → A) → put_at n x h n ≡ x
put_here {A} n x h = ap (λ (b : Bool). cond b x (h n)) (same_node-refl n)

same_by : {A : Type 0} (b : Bool) (n m : Node) (h : Node → A) → (b ≡ true → n ≡ m) → cond b (h n) (h m) ≡ h m
same_by true n m h e = ap h (e refl)
same_by false n m h e = refl

-- what is put again where it was is no change
pub put_same : {A : Type 0} (n : Node) (x : A) (h : Node → A) → h n ≡ x → put_at n x h ≡ h
put_same {A} n x h e = ap (λ (y : A). put_at n y h) (sym e) ∙ fun_ext _ _ (λ m. same_by (same_node n m) n m h (same_node-true n m))

-- ---- as the row has them

-- a state with these calls
abbrev pub with_calls : (Node → Option Piece) → (Node → ℕ) → VolState → VolState
with_calls calls known v = record v { sendings = sendings_in calls; calls = calls_in calls; known = known }

abbrev pub turned_by : Lasting → VolState → Backs → List Line → Way → VolTurn
turned_by l v b ls w = record { lasting = l; vol = with_calls w.calls w.known v; backs = record b { last_call = w.last }; lines = ls; sent = w.sent }

-- nothing was done so far
abbrev pub first_way : (Node → Option Piece) → (Node → ℕ) → Backs → Way
first_way calls known b = record { last = b.last_call; calls = calls; known = known; sent = [] }

-- part by part
turn_is : (l : Lasting) (v : VolState) (b : Backs) (ls : List Line) (w : Way) (ss : Node → List Sending) (cs : Node → Option PieceCall) →
    sendings_in w.calls ≡ ss → calls_in w.calls ≡ cs →
    turned_by l v b ls w ≡ record { lasting = l; vol = record v { sendings = ss; calls = cs; known = w.known }; backs = record b { last_call = w.last }; lines = ls; sent = w.sent }
turn_is l v b ls w ss cs p q = λ i. record { lasting = l; vol = record v { sendings = p i; calls = q i; known = w.known }; backs = record b { last_call = w.last }; lines = ls; sent = w.sent }

-- the row's next piece, where the dumps to the server are these and no call to it is unanswered
started : (me : Node) (l : Lasting) (v : VolState) (b : Backs) (ls : List Line) (n : Node) (xs : List Sending) (calls : Node → Option Piece) (known : Node → ℕ) (ms : List Message) →
    next_by me l.boot n (record { lasting = l; vol = record v { sendings = put_at n xs (sendings_in calls); calls = put_at n None (calls_in calls); known = known }; backs = b; lines = ls; sent = ms }) xs None
    ≡ turned_by l v b ls (starts me l.boot n xs (record { last = b.last_call; calls = calls; known = known; sent = ms }))
started me l v b ls n [] calls known ms =
    sym (turn_is l v b ls (starts me l.boot n [] (record { last = b.last_call; calls = calls; known = known; sent = ms })) _ _
    (mapped_put dumps_of n None calls)
    (mapped_put call_or_none n None calls))
started me l v b ls n (x ∷ xs) calls known ms =
    sym (turn_is l v b ls (starts me l.boot n (x ∷ xs) (record { last = b.last_call; calls = calls; known = known; sent = ms })) _ _
    (mapped_put dumps_of n (Some (first_call b.last_call (x ∷ xs))) calls)
    (mapped_put call_or_none n (Some (first_call b.last_call (x ∷ xs))) calls ∙ sym (put_twice n (Some (call_seen (first_call b.last_call (x ∷ xs)))) None (calls_in calls))))

-- the row looks up what was put there just before
next_at : (me : Node) (boot : ℕ) (n : Node) (t : VolTurn) (xs : List Sending) (c : Option PieceCall) → t.vol.sendings n ≡ xs → t.vol.calls n ≡ c → next_piece me boot n t ≡ next_by me boot n t xs c
next_at me boot n t xs c p q = λ i. next_by me boot n t (p i) (q i)

-- ---- a dump has ended, or a piece of it went

pub ended : (me : Node) (l : Lasting) (v : VolState) (b : Backs) (ls : List Line) (n : Node) (calls : Node → Option Piece) (known : Node → ℕ) (xs : List Sending) (x : Sending) (code : ℤ) →
    ends_sending me l (with_calls calls known v) b ls n xs x code
    ≡ turned_by l (record v { seats = finished (key_of x.head) (forward_reply l.boot x.head code) v.seats }) b ls (ends me l.boot n xs (forward_reply l.boot x.head code) (first_way calls known b))
ended me l v b ls n calls known xs x code =
    next_at me l.boot n _ xs None (put_here n xs (sendings_in calls)) (put_here n None (calls_in calls))
    ∙ started me l (record v { seats = finished (key_of x.head) (forward_reply l.boot x.head code) v.seats }) b ls n xs calls known (forward_reply l.boot x.head code ∷ [])

pub went_on : (me : Node) (l : Lasting) (v : VolState) (b : Backs) (n : Node) (calls : Node → Option Piece) (known : Node → ℕ) (xs : List Sending) (x : Sending) →
    sending_goes_on me l (with_calls calls known v) b n xs x ≡ turned_by l v b [] (starts me l.boot n (piece_gone x ∷ xs) (first_way calls known b))
went_on me l v b n calls known xs x =
    next_at me l.boot n _ (piece_gone x ∷ xs) None (put_here n (piece_gone x ∷ xs) (sendings_in calls)) (put_here n None (calls_in calls))
    ∙ started me l v b [] n (piece_gone x ∷ xs) calls known []

-- ---- a server told its boot number, or its call has waited too long

pub renewed : (me : Node) (l : Lasting) (v : VolState) (b : Backs) (n : Node) (to : ℕ) (calls : Node → Option Piece) (known : Node → ℕ) (c : Piece) (x : Sending) (xs : List Sending) →
    vol_renews me l (with_calls calls known v) b n to (call_seen c) (x ∷ xs) ≡ turned_by l v b [] (renews me l.boot n to c x (first_way calls known b))
renewed me l v b n to calls known c x xs = refl

pub retried : (me : Node) (l : Lasting) (v : VolState) (b : Backs) (ls : List Line) (n : Node) (calls : Node → Option Piece) (known : Node → ℕ) (c : Piece) (x : Sending) → calls n ≡ Some c →
    turned_by l v b ls (retries me l.boot n c x (first_way calls known b))
    ≡ record { lasting = l; vol = record (with_calls calls known v) { calls = put_at n (Some (record (call_seen c) { tries = c.tries + 1 })) (calls_in calls) }; backs = b; lines = ls; sent = piece_message me l.boot n (known n) c.number x ∷ [] }
retried me l v b ls n calls known c x is =
    turn_is l v b ls (retries me l.boot n c x (first_way calls known b)) _ _
    (mapped_put dumps_of n (Some (record c { tries = c.tries + 1 })) calls ∙ put_same n c.content (sendings_in calls) (ap dumps_of is))
    (mapped_put call_or_none n (Some (record c { tries = c.tries + 1 })) calls)

-- ---- a Forward begins

not_started : (me : Node) (boot : ℕ) (n : Node) (t : VolTurn) (xs : List Sending) (c : PieceCall) → next_by me boot n t xs (Some c) ≡ t
not_started me boot n t [] c = refl
not_started me boot n t (x ∷ xs) c = refl

added_by : (me : Node) (l : Lasting) (v : VolState) (b : Backs) (n : Node) (x : Sending) (calls : Node → Option Piece) (known : Node → ℕ) (o : Option Piece) → calls n ≡ o →
    next_by me l.boot n (record { lasting = l; vol = record v { sendings = put_at n (dumps_of o ++ x ∷ []) (sendings_in calls); calls = calls_in calls; known = known }; backs = b; lines = []; sent = [] }) (dumps_of o ++ x ∷ []) (call_or_none o)
    ≡ turned_by l v b [] (adds_by me l.boot n x (first_way calls known b) o)
added_by me l v b n x calls known None is =
    ap (λ (cs : Node → Option PieceCall). next_by me l.boot n (record { lasting = l; vol = record v { sendings = put_at n (x ∷ []) (sendings_in calls); calls = cs; known = known }; backs = b; lines = []; sent = [] }) (x ∷ []) None)
    (sym (put_same n None (calls_in calls) (ap call_or_none is)))
    ∙ started me l v b [] n (x ∷ []) calls known []
added_by me l v b n x calls known (Some c) is =
    not_started me l.boot n _ (c.content ++ x ∷ []) (call_seen c)
    ∙ sym (turn_is l v b [] (adds_by me l.boot n x (first_way calls known b) (Some c)) _ _
    (mapped_put dumps_of n (Some (record c { content = c.content ++ x ∷ [] })) calls)
    (mapped_put call_or_none n (Some (record c { content = c.content ++ x ∷ [] })) calls ∙ put_same n (Some (call_seen c)) (calls_in calls) (ap call_or_none is)))

pub added : (me : Node) (l : Lasting) (v : VolState) (b : Backs) (head : Head) (x : Dispatch) (calls : Node → Option Piece) (known : Node → ℕ) →
    dispatched me l (with_calls calls known v) b head x
    ≡ turned_by l (in_progress head v) b [] (adds me l.boot (Server x.server) (sending_of head x) (first_way calls known b))
added me l v b head x calls known =
    next_at me l.boot (Server x.server) _ (dumps_of (calls (Server x.server)) ++ sending_of head x ∷ []) (call_or_none (calls (Server x.server))) (put_here (Server x.server) (dumps_of (calls (Server x.server)) ++ sending_of head x ∷ []) (sendings_in calls)) refl
    ∙ added_by me l (in_progress head v) b (Server x.server) (sending_of head x) calls known (calls (Server x.server)) refl

-- ---- calls are to servers of the cell

to_at : (b : Bool) (n m : Node) (o p : Option Piece) → (b ≡ true → n ≡ m) → IsToOrNone n o → IsToOrNone m p → IsToOrNone m (cond b o p)
to_at true n m o p q here there = subst (λ (k : Node). IsToOrNone k o) (q refl) here
to_at false n m o p q here there = there

-- all are, where one was put that is
pub to_put : (n : Node) (o : Option Piece) (old new : Node → Option Piece) → new ≡ put_at n o old → AreTo old → IsToOrNone n o → AreTo new
to_put n o old new is all here = subst AreTo (sym is) (λ m. to_at (same_node n m) n m o (old m) (same_node-true n m) here (all m))

pub to_same : (old new : Node → Option Piece) → new ≡ old → AreTo old → AreTo new
to_same old new is all = subst AreTo (sym is) all
