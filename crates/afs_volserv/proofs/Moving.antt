-- Dumps that go to other servers: what a step does with its own calls is the row's.
use Rattle.std.proofs.Common.{◌≡◌, ◌≤◌, ◌+◌, ℕ, Bool, true, false, cond, List, [], ◌∷◌, ◌++◌, Option, Some, None, refl, sym, ap, subst, ◌∙◌, arith}
use Rattle.std.specs.Prelude.{ℤ, ◌&&◌}
use Rattle.std.specs.List.{AllByRecursion}
use Rattle.afs_num.specs.Nodes.{same_node}
use Rattle.afs_num.specs.declared.messages.Carried.TheVariants as carried
use Rattle.afs_num.specs.declared.types.Head.{Head}
use Rattle.afs_num.specs.declared.types.Node.{Node}
use Rattle.spec_history.specs.declared.lines.Line.{Line}
use Rattle.spec_history.specs.declared.lines.Outs.{Outs}
use Rattle.spec_model.specs.Calls.{is_sent_again, last_timeout}
use Rattle.spec_rows.specs.Callbacks.{put_at, timeout_line}
use Rattle.spec_rows.specs.States.{Seat}
use Rattle.afs_callees.specs.Called.{call_to, known_to, Callee}
use Rattle.afs_server_parts.specs.declared.ending.Ended.{Ended}
use Rattle.afs_callbacks.specs.States.{CallbackState}
use Rattle.afs_volstore.specs.Stores.{Store}
use Rattle.afs_sendings.specs.Pieces.{adds, adds_by, call_or_none, call_seen, dumps_of, ends_with, first_call, renews, retries, starts, way_of, AreTo, IsServerNode, IsToOrNone, Piece, Way}
use Rattle.afs_sendings.specs.Sendings.{first_of, rest_of}
use Rattle.afs_sendings.specs.declared.pieces.Pieces.{Pieces}
use Rattle.afs_sendings.proofs.Ways.{retried, turned_by}
use Rattle.spec_volrows.specs.VolStates.{Sending}
use Rattle.spec_volrows.specs.VolSteps.{given_up, is_awaited, vol_renews, vol_told_by, VolTurn}
use Rattle.afs_volserv.specs.Handling.{backs_then, vol_answered_then, vol_noticed_then, vol_timed_then, IsStep}
use Rattle.afs_volserv.specs.Seen.{vol_seen, AreAskedByForward, CanRelease, IsAskedByForward, ServesVolumes, StandsBeside, VolMemory}
use Rattle.afs_volserv.specs.Sending.{answered_then, ended_then, heard_by, is_heard, renewed_then, rests_then, way_before, went_then, IsSent}
use Rattle.afs_volserv.proofs.Stepping.{can_still, kept_after, serves_as, stepped, turn_of, with_holds}
use Rattle.afs_sharing.specs.Lasting.{lasting_of}

-- ---- the step

pub moved_step : {D : Type 0} (m new : VolMemory) (k l : CallbackState) (s u : Store D) (now : ℕ) (ls : List Line) (w : Way) (p : Pieces) (callees : List (Callee (List Sending))) (e : Ended) (outs : Outs) (seats : List Seat) →
    way_of p ≡ w → callees ≡ p.callees.items → IsSent now p.last p.sent k s e → w.last ≤ s.drawn + 1 → AreTo (call_to p.callees.items) → AreAskedByForward w.calls → l ≡ kept_after now k e → u ≡ record s { drawn = e.last } → outs ≡ record e.outs { lines = ls } →
    new ≡ record m { seats = seats; callees = callees } → StandsBeside k s → ServesVolumes m s → IsStep (turned_by (lasting_of s.durable) (record (vol_seen m) { seats = seats }) (backs_then k s now) ls w) m new k l s u outs
moved_step {D} m new k l s u now ls w p callees e outs seats way same plan most to asked kept store given is stands serves =
    let moved = with_holds s u e.last store in
    let mine = record m { seats = seats; callees = p.callees.items } in
    let all : new ≡ mine = is ∙ (λ i. record m { seats = seats; callees = same i }) in
    let few : p.last ≤ s.drawn + 1 = subst (λ (n : ℕ). n ≤ s.drawn + 1) (ap (λ (x : Way). x.last) (sym way)) most in
    let their : AreAskedByForward (call_to p.callees.items) = subst AreAskedByForward (ap (λ (x : Way). x.calls) (sym way)) asked in
    let there : ServesVolumes mine u = serves_as m mine s u e.last moved serves refl to their serves.apart serves.flagged (ap (λ (x : Store D). x.holds.table) store ∙ serves.holds) in
    let made = stepped k l s u now p.last p.sent e plan kept moved m new ls outs stands few given (subst (λ (x : VolMemory). ServesVolumes x u) (sym all) there) (ap (λ (x : VolMemory). x.boot) all) (λ more. subst CanRelease (sym all) (can_still m more)) in
    let seen = subst (λ (x : VolMemory). IsStep (turn_of (vol_seen x) k s now p.last ls p.sent) m new k l s u outs) all made in
    subst (λ (x : Way). IsStep (turned_by (lasting_of s.durable) (record (vol_seen m) { seats = seats }) (backs_then k s now) ls x) m new k l s u outs) way seen

-- ---- how many calls are drawn

starts_drawn : (me : Node) (boot : ℕ) (n : Node) (xs : List Sending) (w : Way) → (starts me boot n xs w).last ≤ w.last + 1
starts_drawn me boot n [] w = omega arith
starts_drawn me boot n (x ∷ xs) w = omega arith

pub starts_most : (me : Node) (boot : ℕ) (n : Node) (xs : List Sending) (w : Way) (drawn : ℕ) → w.last ≡ drawn → (starts me boot n xs w).last ≤ drawn + 1
starts_most me boot n xs w drawn is = let most = starts_drawn me boot n xs w in omega (arith, most, is)

adds_by_most : (me : Node) (boot : ℕ) (n : Node) (x : Sending) (w : Way) (o : Option Piece) → (adds_by me boot n x w o).last ≤ w.last + 1
adds_by_most me boot n x w None = starts_drawn me boot n (x ∷ []) w
adds_by_most me boot n x w (Some c) = omega arith

pub adds_most : (me : Node) (boot : ℕ) (n : Node) (x : Sending) (w : Way) → (adds me boot n x w).last ≤ w.last + 1
adds_most me boot n x w = adds_by_most me boot n x w (w.calls n)

pub starts_least : (me : Node) (boot : ℕ) (n : Node) (xs : List Sending) (w : Way) → w.last ≤ (starts me boot n xs w).last
starts_least me boot n [] w = omega arith
starts_least me boot n (x ∷ xs) w = omega arith

adds_by_least : (me : Node) (boot : ℕ) (n : Node) (x : Sending) (w : Way) (o : Option Piece) → w.last ≤ (adds_by me boot n x w o).last
adds_by_least me boot n x w None = starts_least me boot n (x ∷ []) w
adds_by_least me boot n x w (Some c) = omega arith

-- so many are drawn at the end of the step, where the way of the pieces is one of these
pub drawn_on : {D : Type 0} (k : CallbackState) (s : Store D) (now : ℕ) (w : Way) (p : Pieces) (e : Ended) → way_of p ≡ w → s.drawn ≤ w.last → IsSent now p.last p.sent k s e → s.drawn ≤ e.last
drawn_on {D} k s now w p e way least plan = let last = ap (λ (x : Way). x.last) way in let drawn = plan.drawn in omega (arith, last, least, drawn)

pub adds_on : (me : Node) (boot : ℕ) (n : Node) (x : Sending) (w : Way) → w.last ≤ (adds me boot n x w).last
adds_on me boot n x w = adds_by_least me boot n x w (w.calls n)

-- ---- dumps that Forwards asked for

asked_at : (b : Bool) (o p : Option Piece) → AllByRecursion IsAskedByForward (dumps_of o) → AllByRecursion IsAskedByForward (dumps_of p) → AllByRecursion IsAskedByForward (dumps_of (cond b o p))
asked_at true o p here there = here
asked_at false o p here there = there

pub asked_put : (n : Node) (o : Option Piece) (calls : Node → Option Piece) → AllByRecursion IsAskedByForward (dumps_of o) → AreAskedByForward calls → AreAskedByForward (put_at n o calls)
asked_put n o calls here all = λ m. asked_at (same_node n m) o (calls m) here (all m)

pub starts_asked : (me : Node) (boot : ℕ) (n : Node) (xs : List Sending) (w : Way) → AllByRecursion IsAskedByForward xs → AreAskedByForward w.calls → AreAskedByForward (starts me boot n xs w).calls
starts_asked me boot n [] w here all = asked_put n None w.calls tt all
starts_asked me boot n (x ∷ xs) w here all = asked_put n (Some (first_call w.last (x ∷ xs))) w.calls here all

asked_behind : (xs : List Sending) (x : Sending) → AllByRecursion IsAskedByForward xs → IsAskedByForward x → AllByRecursion IsAskedByForward (xs ++ x ∷ [])
asked_behind [] x all one = (one, tt)
asked_behind (y ∷ ys) x all one = (all.0, asked_behind ys x all.1 one)

adds_by_asked : (me : Node) (boot : ℕ) (n : Node) (x : Sending) (w : Way) (o : Option Piece) → AllByRecursion IsAskedByForward (dumps_of o) → IsAskedByForward x → AreAskedByForward w.calls → AreAskedByForward (adds_by me boot n x w o).calls
adds_by_asked me boot n x w None there one all = starts_asked me boot n (x ∷ []) w (one, tt) all
adds_by_asked me boot n x w (Some c) there one all = asked_put n (Some (record c { content = c.content ++ x ∷ [] })) w.calls (asked_behind c.content x there one) all

pub adds_asked : (me : Node) (boot : ℕ) (n : Node) (x : Sending) (w : Way) → IsAskedByForward x → AreAskedByForward w.calls → AreAskedByForward (adds me boot n x w).calls
adds_asked me boot n x w one all = adds_by_asked me boot n x w (w.calls n) (all n) one all

rest_asked : (xs : List Sending) → AllByRecursion IsAskedByForward xs → AllByRecursion IsAskedByForward (rest_of xs)
rest_asked [] all = tt
rest_asked (x ∷ xs) all = all.1

some_is : {A : Type 0} (x y : A) → Some x ≡ Some y → x ≡ y
some_is {A} x y e = cc

first_asked : (xs : List Sending) (x : Sending) → first_of xs ≡ Some x → AllByRecursion IsAskedByForward xs → IsAskedByForward x
first_asked [] x e all = absurd cc
first_asked (y ∷ ys) x e all = subst IsAskedByForward (some_is y x e) all.0

-- what is known of the call to a server
pub record Knows (n : Node) (c : Piece) (x : Sending) : Type 0 where
  pub node : IsServerNode n
  pub first : IsAskedByForward x
  pub rest : AllByRecursion IsAskedByForward (rest_of c.content)
  pub all : AllByRecursion IsAskedByForward c.content

pub called_node : {D : Type 0} (m : VolMemory) (s : Store D) (n : Node) (c : Piece) → ServesVolumes m s → call_to m.callees n ≡ Some c → IsServerNode n
called_node {D} m s n c serves is = subst (IsToOrNone n) is (serves.calls n)

pub knows : {D : Type 0} (m : VolMemory) (s : Store D) (n : Node) (c : Piece) (x : Sending) → ServesVolumes m s → call_to m.callees n ≡ Some c → first_of c.content ≡ Some x → Knows n c x
knows {D} m s n c x serves is first =
    let all : AllByRecursion IsAskedByForward c.content = subst (λ (o : Option Piece). AllByRecursion IsAskedByForward (dumps_of o)) is (serves.asked n) in
    record { node = called_node m s n c serves is; first = first_asked c.content x first all; rest = rest_asked c.content all; all = all }

pub moved_asked : (x : Sending) (n : ℕ) (left : List ℕ) → IsAskedByForward x → IsAskedByForward (record x { at = n; left = left })
moved_asked x n left h = record { head = h.head; forward = h.forward }

chosen : {A : Type 0} (b : Bool) (x y : A) → b ≡ true → x ≡ cond b x y
chosen {A} true x y e = refl
chosen {A} false x y e = absurd cc

other : {A : Type 0} (b : Bool) (x y : A) → b ≡ false → y ≡ cond b x y
other {A} true x y e = absurd cc
other {A} false x y e = refl

-- ---- a piece was answered

module _ {D : Type 0} (m : VolMemory) (k : CallbackState) (s : Store D) (clock : ℕ) (n : Node) (code : ℤ) where
  pub answered_none : (xs : List Sending) → first_of xs ≡ None → rests_then m k s clock ≡ answered_then m k s clock n xs code
  answered_none [] e = refl
  answered_none (x ∷ xs) e = absurd cc

  pub answered_last : (xs : List Sending) (x : Sending) → first_of xs ≡ Some x → ends_with code x ≡ true → ended_then m k s clock [] n (rest_of xs) x code ≡ answered_then m k s clock n xs code
  answered_last [] x e last = absurd cc
  answered_last (y ∷ ys) x e last =
      let same : y ≡ x = some_is y x e in
      ap (λ (z : Sending). ended_then m k s clock [] n ys z code) (sym same) ∙ chosen (ends_with code y) (ended_then m k s clock [] n ys y code) (went_then m k s clock n ys y) (ap (ends_with code) same ∙ last)

  pub answered_more : (xs : List Sending) (x : Sending) → first_of xs ≡ Some x → ends_with code x ≡ false → went_then m k s clock n (rest_of xs) x ≡ answered_then m k s clock n xs code
  answered_more [] x e last = absurd cc
  answered_more (y ∷ ys) x e last =
      let same : y ≡ x = some_is y x e in
      ap (λ (z : Sending). went_then m k s clock n ys z) (sym same) ∙ other (ends_with code y) (ended_then m k s clock [] n ys y code) (went_then m k s clock n ys y) (ap (ends_with code) same ∙ last)

-- ---- to which call an answer is

abbrev heard_as : (Piece → VolTurn) → VolTurn → Option Piece → VolTurn
heard_as turn rests None = rests
heard_as turn rests (Some c) = turn c

abbrev told_as : (Piece → VolTurn) → VolTurn → Node → ℕ → Head → Option Piece → VolTurn
told_as turn rests me boot head None = rests
told_as turn rests me boot head (Some c) = cond (is_awaited boot (call_seen c) head) (turn c) rests

heard_both : (turn : Piece → VolTurn) (rests : VolTurn) (c : Piece) (t a : Bool) → heard_as turn rests (cond (t && a) (Some c) None) ≡ cond t (cond a (turn c) rests) rests
heard_both turn rests c true true = refl
heard_both turn rests c true false = refl
heard_both turn rests c false a = refl

heard_none : (rests : VolTurn) (t : Bool) → rests ≡ cond t rests rests
heard_none rests true = refl
heard_none rests false = refl

heard_in : (turn : Piece → VolTurn) (rests : VolTurn) (me : Node) (boot : ℕ) (head : Head) (o : Option Piece) → heard_as turn rests (heard_by me boot head o) ≡ cond (same_node head.to me) (told_as turn rests me boot head o) rests
heard_in turn rests me boot head None = heard_none rests (same_node head.to me)
heard_in turn rests me boot head (Some c) = heard_both turn rests c (same_node head.to me) (is_awaited boot (call_seen c) head)

heard_of : (me : Node) (boot : ℕ) (head : Head) (c d : Piece) (b : Bool) → Some c ≡ cond b (Some d) None → d ≡ c
heard_of me boot head c d true e = some_is d c (sym e)
heard_of me boot head c d false e = absurd cc

pub heard_is : (me : Node) (boot : ℕ) (head : Head) (o : Option Piece) (c : Piece) → Some c ≡ heard_by me boot head o → o ≡ Some c
heard_is me boot head None c e = absurd cc
heard_is me boot head (Some d) c e = ap (λ (x : Piece). Some x) (heard_of me boot head c d (is_heard me boot head d) e)

module _ {D : Type 0} (m : VolMemory) (k : CallbackState) (s : Store D) (clock : ℕ) (head : Head) where
  told_answer : (code : ℤ) (o : Option Piece) → call_to m.callees head.from ≡ o →
      vol_told_by s.node (lasting_of s.durable) (vol_seen m) (backs_then k s clock) head (carried.Refusal (record { 0 = code })) (call_or_none o)
      ≡ told_as (λ c. answered_then m k s clock head.from c.content code) (rests_then m k s clock) s.node s.durable.boot head o
  told_answer code None e = refl
  told_answer code (Some c) e = ap (λ (q : Option Piece). cond (is_awaited s.durable.boot (call_seen c) head) (answered_then m k s clock head.from (dumps_of q) code) (rests_then m k s clock)) e

  told_notice : (o : Option Piece) → call_to m.callees head.from ≡ o →
      vol_told_by s.node (lasting_of s.durable) (vol_seen m) (backs_then k s clock) head carried.Notice (call_or_none o)
      ≡ told_as (λ c. renewed_then m k s clock head.from head.boot c) (rests_then m k s clock) s.node s.durable.boot head o
  told_notice None e = refl
  told_notice (Some c) e = ap (λ (q : Option Piece). cond (is_awaited s.durable.boot (call_seen c) head) (vol_renews s.node (lasting_of s.durable) (vol_seen m) (backs_then k s clock) head.from head.boot (call_seen c) (dumps_of q)) (rests_then m k s clock)) e

  heard_answer : (code : ℤ) → heard_as (λ c. answered_then m k s clock head.from c.content code) (rests_then m k s clock) (heard_by s.node s.durable.boot head (call_to m.callees head.from)) ≡ vol_answered_then m k s clock head code
  heard_answer code =
      heard_in (λ c. answered_then m k s clock head.from c.content code) (rests_then m k s clock) s.node s.durable.boot head (call_to m.callees head.from)
      ∙ ap (λ (t : VolTurn). cond (same_node head.to s.node) t (rests_then m k s clock)) (sym (told_answer code (call_to m.callees head.from) refl))

  heard_notice : heard_as (λ c. renewed_then m k s clock head.from head.boot c) (rests_then m k s clock) (heard_by s.node s.durable.boot head (call_to m.callees head.from)) ≡ vol_noticed_then m k s clock head
  heard_notice =
      heard_in (λ c. renewed_then m k s clock head.from head.boot c) (rests_then m k s clock) s.node s.durable.boot head (call_to m.callees head.from)
      ∙ ap (λ (t : VolTurn). cond (same_node head.to s.node) t (rests_then m k s clock)) (sym (told_notice (call_to m.callees head.from) refl))

  pub answer_unheard : (code : ℤ) → None ≡ heard_by s.node s.durable.boot head (call_to m.callees head.from) → rests_then m k s clock ≡ vol_answered_then m k s clock head code
  answer_unheard code e = ap (heard_as (λ c. answered_then m k s clock head.from c.content code) (rests_then m k s clock)) e ∙ heard_answer code

  pub answer_heard : (code : ℤ) (c : Piece) → Some c ≡ heard_by s.node s.durable.boot head (call_to m.callees head.from) → answered_then m k s clock head.from c.content code ≡ vol_answered_then m k s clock head code
  answer_heard code c e = ap (heard_as (λ c. answered_then m k s clock head.from c.content code) (rests_then m k s clock)) e ∙ heard_answer code

  pub notice_unheard : None ≡ heard_by s.node s.durable.boot head (call_to m.callees head.from) → rests_then m k s clock ≡ vol_noticed_then m k s clock head
  notice_unheard e = ap (heard_as (λ c. renewed_then m k s clock head.from head.boot c) (rests_then m k s clock)) e ∙ heard_notice

  pub notice_heard : (c : Piece) → Some c ≡ heard_by s.node s.durable.boot head (call_to m.callees head.from) → renewed_then m k s clock head.from head.boot c ≡ vol_noticed_then m k s clock head
  notice_heard c e = ap (heard_as (λ c. renewed_then m k s clock head.from head.boot c) (rests_then m k s clock)) e ∙ heard_notice

-- ---- a call is sent again, or given up

module _ {D : Type 0} (m : VolMemory) (k : CallbackState) (s : Store D) (clock : ℕ) (n : Node) (c : Piece) where
  pub renewed_none : (known : ℕ) → first_of c.content ≡ None → rests_then m k s clock ≡ renewed_then m k s clock n known c
  renewed_none known e = by c.content e
    where
      by : (xs : List Sending) → first_of xs ≡ None → rests_then m k s clock ≡ vol_renews s.node (lasting_of s.durable) (vol_seen m) (backs_then k s clock) n known (call_seen c) xs
      by [] e = refl
      by (x ∷ xs) e = absurd cc

  pub renewed_first : (known : ℕ) (x : Sending) → first_of c.content ≡ Some x →
      turned_by (lasting_of s.durable) (vol_seen m) (backs_then k s clock) [] (renews s.node s.durable.boot n known c x (way_before m s)) ≡ renewed_then m k s clock n known c
  renewed_first known x e = by c.content e
    where
      by : (xs : List Sending) → first_of xs ≡ Some x → turned_by (lasting_of s.durable) (vol_seen m) (backs_then k s clock) [] (renews s.node s.durable.boot n known c x (way_before m s)) ≡ vol_renews s.node (lasting_of s.durable) (vol_seen m) (backs_then k s clock) n known (call_seen c) xs
      by [] e = absurd cc
      by (y ∷ ys) e = ap (λ (z : Sending). turned_by (lasting_of s.durable) (vol_seen m) (backs_then k s clock) [] (renews s.node s.durable.boot n known c z (way_before m s))) (sym (some_is y x e))

  pub timed_none : first_of c.content ≡ None → rests_then m k s clock ≡ vol_timed_then m k s clock n (call_seen c) c.content
  timed_none e = by c.content e
    where
      by : (xs : List Sending) → first_of xs ≡ None → rests_then m k s clock ≡ vol_timed_then m k s clock n (call_seen c) xs
      by [] e = refl
      by (x ∷ xs) e = absurd cc

  pub timed_again : (x : Sending) → call_to m.callees n ≡ Some c → first_of c.content ≡ Some x → is_sent_again c.tries ≡ true →
      turned_by (lasting_of s.durable) (vol_seen m) (backs_then k s clock) (timeout_line s.node s.durable.boot n c.number (c.tries + 1) ∷ []) (retries s.node s.durable.boot n c x (way_before m s)) ≡ vol_timed_then m k s clock n (call_seen c) c.content
  timed_again x is e again = by c.content e
    where
      by : (xs : List Sending) → first_of xs ≡ Some x → turned_by (lasting_of s.durable) (vol_seen m) (backs_then k s clock) (timeout_line s.node s.durable.boot n c.number (c.tries + 1) ∷ []) (retries s.node s.durable.boot n c x (way_before m s)) ≡ vol_timed_then m k s clock n (call_seen c) xs
      by [] e = absurd cc
      by (y ∷ ys) e =
          ap (λ (z : Sending). turned_by (lasting_of s.durable) (vol_seen m) (backs_then k s clock) (timeout_line s.node s.durable.boot n c.number (c.tries + 1) ∷ []) (retries s.node s.durable.boot n c z (way_before m s))) (sym (some_is y x e))
          ∙ (retried s.node (lasting_of s.durable) (vol_seen m) (backs_then k s clock) (timeout_line s.node s.durable.boot n c.number (c.tries + 1) ∷ []) n (call_to m.callees) (known_to m.callees) c y is
          ∙ chosen (is_sent_again c.tries) _ _ again)

  pub timed_last : (x : Sending) → first_of c.content ≡ Some x → is_sent_again c.tries ≡ false →
      ended_then m k s clock (timeout_line s.node s.durable.boot n c.number last_timeout ∷ []) n (rest_of c.content) x given_up ≡ vol_timed_then m k s clock n (call_seen c) c.content
  timed_last x e last = by c.content e
    where
      by : (xs : List Sending) → first_of xs ≡ Some x → ended_then m k s clock (timeout_line s.node s.durable.boot n c.number last_timeout ∷ []) n (rest_of xs) x given_up ≡ vol_timed_then m k s clock n (call_seen c) xs
      by [] e = absurd cc
      by (y ∷ ys) e =
          ap (λ (z : Sending). ended_then m k s clock (timeout_line s.node s.durable.boot n c.number last_timeout ∷ []) n ys z given_up) (sym (some_is y x e))
          ∙ other (is_sent_again c.tries) _ _ last
