-- What is planned is the row's step.
use Rattle.std.proofs.Common.{◌≡◌, ◌+◌, ℕ, List, [], ◌∷◌, ◌++◌, map, length, Option, Some, None, Result, Ok, Err, pos, refl, ap, sym, subst, ◌∙◌, append_assoc}
use Rattle.std.proofs.lemmas.List.{append-nil}
use Rattle.std.specs.Prelude.{slice_get, IfOk}
use Rattle.afs_num.specs.Nodes.{IsNode}
use Rattle.afs_num.specs.declared.types.Code.{Code}
use Rattle.afs_num.specs.declared.types.Node.{Node}
use Rattle.afs_num.specs.declared.types.Fid.{Fid}
use Rattle.spec_history.specs.declared.lines.Line.{Line}
use Rattle.spec_history.specs.declared.lines.Line.TheVariants as lines
use Rattle.spec_history.specs.declared.lines.Outs.{Outs}
use Rattle.spec_model.specs.Messages.{parcels_read, messages_spelled}
use Rattle.spec_rows.specs.States.{CacheEntry, Gift}
use Rattle.spec_rows.specs.Going as going
use Rattle.spec_rows.specs.Going.{ClientState, Going, Need, Seek, next}
use Rattle.spec_rows.specs.ClientRow.{Look, Walked, asking, call_by, callee_by, callee_of, calls_step, ends_step, not_walked, looked, dropped, drop_line, goes_by, goes_on, gives_by, boot_of, put_entries, seeks_step}
use Rattle.spec_rows.specs.Steps.{Step}
use Rattle.afs_entries.specs.Cached.{Kept, touched_all}
use Rattle.afs_asking.specs.Asking.{Asking, code_of, is_giving, operand_of}
use Rattle.spec_model.specs.Steps.{NodeState}
use Rattle.spec_copyrows.specs.Sites.{as_it_is, calls_round, goes_round, left_line, seen_of, sited_in, unasked, with_client, CopyState, Round}
use Rattle.afs_cache.specs.Managing.{Makes, sent_to_site}
use Rattle.afs_cache.specs.Acting.{called_by, sent_to, IsAsking, followed, outs_of, but_for, but_for_these, CanFollow, IsWay, PlansFor, PlansRound, over, round_at, sought, sought_from}
use Rattle.afs_asking.specs.Looking.{HasWalked}
use Rattle.afs_cache.specs.declared.acting.Asks.{Asks}
use Rattle.afs_asking.specs.declared.looks.Walked as program
use Rattle.afs_cache.proofs.Placing.{calls_placed, rests_placed}
use Rattle.afs_cache.specs.declared.acting.Plan.{Plan}
use Rattle.afs_cache.specs.declared.acting.Plan.TheVariants as plans
use Rattle.afs_cache.specs.declared.acting.Seeks.{Seeks}
use Rattle.spec_history.specs.declared.acts.Operand.{Operand}
use Rattle.afs_num.specs.declared.types.Node.TheVariants as nodes

-- ---- plans as such

pub plans_same : (step other : ClientState → (List Line → List Line) → Step ClientState) (told : List Line) (n : NodeState CopyState) (plan : Plan) → ((d : ClientState) (front : List Line → List Line) → step d front ≡ other d front) → PlansFor step told n plan → PlansFor other told n plan
plans_same step other told n plan same p cache busy moved first =
    subst (λ (s : Step ClientState). Makes (sent_to_site n.node n.state s) (followed (but_for_these n.state cache busy moved) plan) (λ ls. first ++ ls) (outs_of plan)) (same (but_for n.state.client cache busy moved) (λ ls. first ++ (told ++ ls))) (p cache busy moved first)

-- what is planned was done
pub done_as : (step : Step CopyState) (c d : CopyState) (plan : Plan) (new : CopyState) (outs : Outs) (front : List Line → List Line) → Makes step (followed d plan) front (outs_of plan) → new ≡ followed c plan → c ≡ d → outs ≡ outs_of plan → Makes step new front outs
done_as step c d plan new outs front m n same o = record {
  state = n ∙ (ap (λ (x : CopyState). followed x plan) same ∙ m.state);
  lines = ap (λ (x : Outs). front x.lines) o ∙ m.lines;
  sent = ap (λ (x : Outs). parcels_read x.parcels) o ∙ m.sent;
}

pub if_ok : {A E : Type 0} (P Q : A → Type 0) (r : Result A E) → ((x : A) → P x → Q x) → IfOk r P → IfOk r Q
if_ok P Q (Ok x) f h = f x h
if_ok P Q (Err e) f h = tt

-- ---- calls

pub asking_made : (me : Node) (c : ClientState) (asked : Asking) (told : List Line) (callee : Node) (outs : Outs)
    → callee ≡ called_by (is_giving (next asked.going)) c.table asked.going asked.gifts (call_by asked.gifts (next asked.going)) → IsNode callee
    → outs.lines ≡ told → parcels_read outs.parcels ≡ messages_spelled (sent_to me c (c.last + 1) callee (boot_of callee c.boots) (call_by asked.gifts (next asked.going)) ∷ []) → IsAsking me c asked.going asked.gifts told (record { asked = asked; callee = callee; round = None; outs = outs })
asking_made me c asked told callee outs e node l s = record {
  going = refl;
  gifts = refl;
  callee = e;
  node = node;
  round = refl;
  lines = l;
  sent = s;
}

some_number : (m n : ℕ) → Some m ≡ Some n → m ≡ n
some_number m n e = cc

pub called_as : (need : Need) (act : Going) (c : ClientState) → called_by (is_giving need) c.table act c.gifts (call_by c.gifts need) ≡ callee_by c act need
called_as (going.reads f) act c = refl
called_as (going.reads_status f) act c = refl
called_as (going.reads_statuses fs) act c = refl
called_as (going.reads_rights f) act c = refl
called_as (going.asks_for call) act c = refl
called_as going.gives_back act c = refl
called_as (going.locates o) act c = refl
called_as (going.answers n) act c = refl

-- in no round
asking_as : (me : Node) (c : CopyState) (act : Going) (gifts : List Gift) (told : List Line) (a : Asks) (cache : List CacheEntry) (busy moved : ℕ) (first : List Line)
    → a.callee ≡ callee_of (record (but_for c.client cache busy moved) { gifts = gifts }) act → IsAsking me c.client act gifts told a
    → Makes (as_it_is c (calls_step me (record (but_for c.client cache busy moved) { gifts = gifts }) act (λ ls. first ++ (told ++ ls)))) (followed (but_for_these c cache busy moved) (plans.Asks a)) (λ ls. first ++ ls) a.outs
asking_as me c act gifts told a cache busy moved first e h = record {
  state = rw (h.going, h.gifts, h.round, e) refl;
  lines = ap (λ (ls : List Line). first ++ ls) (h.lines ∙ sym (append-nil told));
  sent = h.sent ∙ ap (λ (n : Node). messages_spelled (sent_to me c.client (c.client.last + 1) n (boot_of n c.client.boots) (call_by gifts (next act)) ∷ [])) e;
}

pub plans_asking : (n : NodeState CopyState) (x : Asking) (told : List Line) (a : Asks) → round_at n.state x ≡ None → IsAsking n.node n.state.client x.going x.gifts told a
    → PlansFor (λ d front. calls_step n.node (record d { gifts = x.gifts }) x.going front) told n (plans.Asks a)
plans_asking n x told a none h cache busy moved first =
    let k : ClientState = record (but_for n.state.client cache busy moved) { gifts = x.gifts } in
    let front : List Line → List Line = λ ls. first ++ (told ++ ls) in
    subst (λ (s : Step CopyState). Makes s (followed (but_for_these n.state cache busy moved) (plans.Asks a)) (λ ls. first ++ ls) a.outs)
    (sym (calls_placed n.node n.state k x.going front refl ∙ ap (sited_in n.node n.state (calls_step n.node k x.going front) x.going) none))
    (asking_as n.node n.state x.going x.gifts told a cache busy moved first (h.callee ∙ called_as (next x.going) x.going k) h)

-- in a round
site_by : (n : NodeState CopyState) (x : Asking) (r : Round) (told : List Line) (sites : List ℕ) (site : ℕ) (outs : Outs) (cache : List CacheEntry) (busy moved : ℕ) (first : List Line) → slice_get sites 0 ≡ Some site → outs.lines ≡ told
    → parcels_read outs.parcels ≡ messages_spelled (sent_to n.node n.state.client (n.state.client.last + 1) (nodes.Server site) (boot_of (nodes.Server site) n.state.client.boots) (call_by x.gifts (next x.going)) ∷ [])
    → Makes (goes_round n.node (with_client n.state (record (but_for n.state.client cache busy moved) { gifts = x.gifts })) x.going r sites (first ++ told)) (followed (but_for_these n.state cache busy moved) (plans.Asks (record { asked = x; callee = nodes.Server site; round = Some r; outs = outs }))) (λ ls. first ++ ls) outs
site_by n x r told [] site outs cache busy moved first e l m = absurd cc
site_by n x r told (s ∷ others) site outs cache busy moved first e l m =
    let same : s ≡ site = some_number s site e in
    let k : ClientState = record (but_for n.state.client cache busy moved) { gifts = x.gifts } in
    record {
      state = ap (λ (i : ℕ). record n.state { client = record (asking k x.going) { callee = nodes.Server i }; round = Some r }) (sym same);
      lines = ap (λ (ls : List Line). first ++ ls) l;
      sent = m ∙ ap (λ (i : ℕ). messages_spelled (sent_to n.node n.state.client (n.state.client.last + 1) (nodes.Server i) (boot_of (nodes.Server i) n.state.client.boots) (call_by x.gifts (next x.going)) ∷ [])) (sym same);
    }

left_by_sites : (n : NodeState CopyState) (x : Asking) (r : Round) (told : List Line) (sites : List ℕ) (outs : Outs) (cache : List CacheEntry) (busy moved : ℕ) (first : List Line) → slice_get sites 0 ≡ None → outs.lines ≡ told ++ left_line n.node r (seen_of n.state r.volume) ∷ [] → outs.parcels ≡ []
    → Makes (goes_round n.node (with_client n.state (record (but_for n.state.client cache busy moved) { gifts = x.gifts })) x.going r sites (first ++ told)) (followed (but_for_these n.state cache busy moved) (plans.Ends outs)) (λ ls. first ++ ls) outs
left_by_sites n x r told [] outs cache busy moved first e l m = record {
  state = refl;
  lines = ap (λ (ls : List Line). first ++ ls) l ∙ sym (append_assoc first told (left_line n.node r (seen_of n.state r.volume) ∷ []));
  sent = ap parcels_read m;
}
left_by_sites n x r told (s ∷ others) outs cache busy moved first e l m = absurd cc

-- the call that it makes instead is made by the same act
round_asked : (me : Node) (c : CopyState) (k : ClientState) (act : Going) (r : Round) (ls : List Line) (sites : List ℕ) → k.last ≡ c.client.last → k.callee ≡ c.client.callee → k.tries ≡ c.client.tries → k.spoiled ≡ c.client.spoiled
    → goes_round me (with_client c (unasked c.client (asking k act))) act r sites ls ≡ goes_round me (with_client c k) act r sites ls
round_asked me c k act r ls [] p q t s = rw (sym p, sym q, sym t, sym s) refl
round_asked me c k act r ls (site ∷ others) p q t s = rw (sym p) refl

pub site_made : (n : NodeState CopyState) (x : Asking) (r : Round) (told : List Line) (site : ℕ) (outs : Outs) → Some site ≡ slice_get r.sites 0 → outs.lines ≡ told
    → parcels_read outs.parcels ≡ messages_spelled (sent_to n.node n.state.client (n.state.client.last + 1) (nodes.Server site) (boot_of (nodes.Server site) n.state.client.boots) (call_by x.gifts (next x.going)) ∷ [])
    → PlansRound x r told n (plans.Asks (record { asked = x; callee = nodes.Server site; round = Some r; outs = outs }))
site_made n x r told site outs e l m cache busy moved first = site_by n x r told r.sites site outs cache busy moved first (sym e) l m

pub left_made : (n : NodeState CopyState) (x : Asking) (r : Round) (told : List Line) (outs : Outs) → None ≡ slice_get r.sites 0 → outs.lines ≡ told ++ left_line n.node r (seen_of n.state r.volume) ∷ [] → outs.parcels ≡ []
    → PlansRound x r told n (plans.Ends outs)
left_made n x r told outs e l m cache busy moved first = left_by_sites n x r told r.sites outs cache busy moved first (sym e) l m

pub plans_round : (n : NodeState CopyState) (x : Asking) (r : Round) (told : List Line) (plan : Plan) → round_at n.state x ≡ Some r → PlansRound x r told n plan
    → PlansFor (λ d front. calls_step n.node (record d { gifts = x.gifts }) x.going front) told n plan
plans_round n x r told plan some h cache busy moved first =
    let k : ClientState = record (but_for n.state.client cache busy moved) { gifts = x.gifts } in
    let front : List Line → List Line = λ ls. first ++ (told ++ ls) in
    subst (λ (s : Step CopyState). Makes s (followed (but_for_these n.state cache busy moved) plan) (λ ls. first ++ ls) (outs_of plan))
    (sym (calls_placed n.node n.state k x.going front refl ∙ (ap (sited_in n.node n.state (calls_step n.node k x.going front) x.going) some
    ∙ (ap (λ (ls : List Line). calls_round n.node (with_client n.state (unasked n.state.client (asking k x.going))) x.going r (first ++ ls)) (append-nil told)
    ∙ round_asked n.node n.state k x.going r (first ++ told) r.sites refl refl refl refl))))
    (h cache busy moved first)

pub plans_in_round : {E : Type 0} (n : NodeState CopyState) (x : Asking) (r : Round) (told : List Line) (result : Result Plan E) → round_at n.state x ≡ Some r → IfOk result (PlansRound x r told n)
    → IfOk result (λ p. PlansFor (λ d front. calls_step n.node (record d { gifts = x.gifts }) x.going front) told n p)
plans_in_round n x r told result some h = if_ok (PlansRound x r told n) (λ p. PlansFor (λ d front. calls_step n.node (record d { gifts = x.gifts }) x.going front) told n p) result (λ p. plans_round n x r told p some) h

-- ---- answers

pub plans_ending : (n : NodeState CopyState) (code : Code) (told : List Line) (outs : Outs) → outs.lines ≡ told ++ lines.Answer n.node code ∷ [] → outs.parcels ≡ [] → PlansFor (λ d front. ends_step n.node d d.cache front code) told n (plans.Ends outs)
plans_ending n code told outs l p cache busy moved first =
    let step : Step ClientState = ends_step n.node (but_for n.state.client cache busy moved) cache (λ ls. first ++ (told ++ ls)) code in
    let made : Makes (as_it_is n.state step) (followed (but_for_these n.state cache busy moved) (plans.Ends outs)) (λ ls. first ++ ls) outs = record {
      state = refl;
      lines = ap (λ (ls : List Line). first ++ ls) l;
      sent = ap parcels_read p;
    } in
    subst (λ (s : Step CopyState). Makes s (followed (but_for_these n.state cache busy moved) (plans.Ends outs)) (λ ls. first ++ ls) outs) (sym (rests_placed n.node n.state step refl)) made

-- ---- questions

pub plans_seeking : (n : NodeState CopyState) (k : Seek) (told : List Line) (s : Seeks) → s.seeking ≡ k → s.outs.lines ≡ told → parcels_read s.outs.parcels ≡ messages_spelled (sought_from n.node n.state.client (n.state.client.last + 1) (boot_of nodes.Loc n.state.client.boots) s.seeking.operand ∷ [])
    → PlansFor (λ d front. seeks_step n.node d k d.cache front) told n (plans.Seeks s)
plans_seeking n k told s e l m cache busy moved first =
    let step : Step ClientState = seeks_step n.node (but_for n.state.client cache busy moved) k cache (λ ls. first ++ (told ++ ls)) in
    let made : Makes (as_it_is n.state step) (followed (but_for_these n.state cache busy moved) (plans.Seeks s)) (λ ls. first ++ ls) s.outs = record {
      state = ap (λ (x : Seek). with_client n.state (record (sought (but_for n.state.client cache busy moved) s) { seeking = Some x })) e;
      lines = ap (λ (ls : List Line). first ++ ls) (l ∙ sym (append-nil told));
      sent = m ∙ ap (λ (x : Seek). messages_spelled (sought_from n.node n.state.client (n.state.client.last + 1) (boot_of nodes.Loc n.state.client.boots) x.operand ∷ [])) e;
    } in
    subst (λ (x : Step CopyState). Makes x (followed (but_for_these n.state cache busy moved) (plans.Seeks s)) (λ ls. first ++ ls) s.outs) (sym (rests_placed n.node n.state step refl)) made

-- ---- an act goes on

-- it is answered where it needs no more
answers_as : (me : Node) (d : ClientState) (front : List Line → List Line) (act : Going) (code : Code) (need : Need) → Some code ≡ code_of need → ends_step me d d.cache front code ≡ goes_by me d front (not_walked act d.cache) need
answers_as me d front act code (going.reads f) e = absurd cc
answers_as me d front act code (going.reads_status f) e = absurd cc
answers_as me d front act code (going.reads_statuses fs) e = absurd cc
answers_as me d front act code (going.reads_rights f) e = absurd cc
answers_as me d front act code (going.asks_for call) e = absurd cc
answers_as me d front act code going.gives_back e = absurd cc
answers_as me d front act code (going.locates o) e = absurd cc
answers_as me d front act code (going.answers n) e = let same : code ≡ record { 0 = pos n } = cc in ap (ends_step me d d.cache front) same

-- it asks where a volume is
seeks_as : (me : Node) (d : ClientState) (front : List Line → List Line) (act : Going) (o : Operand) (need : Need) → need ≡ going.locates o
    → seeks_step me d (record { act = act; operand = o; left = None }) d.cache front ≡ goes_by me d front (not_walked act d.cache) need
seeks_as me d front act o need e = ap (goes_by me d front (not_walked act d.cache)) (sym e)

-- it calls
calls_as : (me : Node) (d : ClientState) (front : List Line → List Line) (act : Going) (need : Need) → None ≡ code_of need → operand_of need ≡ None → calls_step me d act front ≡ goes_by me d front (not_walked act d.cache) need
calls_as me d front act (going.reads f) e n = refl
calls_as me d front act (going.reads_status f) e n = refl
calls_as me d front act (going.reads_statuses fs) e n = refl
calls_as me d front act (going.reads_rights f) e n = refl
calls_as me d front act (going.asks_for call) e n = refl
calls_as me d front act going.gives_back e n = refl
calls_as me d front act (going.locates o) e n = absurd cc
calls_as me d front act (going.answers n) e m = absurd cc

pub plans_answer : {E : Type 0} (n : NodeState CopyState) (act : Going) (told : List Line) (code : Code) (r : Result Plan E) → Some code ≡ code_of (next act) → IfOk r (λ p. PlansFor (λ d front. ends_step n.node d d.cache front code) told n p) → IfOk r (λ p. PlansFor (λ d front. goes_on n.node d front (not_walked act d.cache)) told n p)
plans_answer n act told code r e h =
    if_ok (λ p. PlansFor (λ d front. ends_step n.node d d.cache front code) told n p) (λ p. PlansFor (λ d front. goes_on n.node d front (not_walked act d.cache)) told n p) r
    (λ p. plans_same (λ d front. ends_step n.node d d.cache front code) (λ d front. goes_on n.node d front (not_walked act d.cache)) told n p (λ d front. answers_as n.node d front act code (next act) e)) h

pub plans_question : {E : Type 0} (n : NodeState CopyState) (act : Going) (o : Operand) (told : List Line) (r : Result Plan E) → next act ≡ going.locates o
    → IfOk r (λ p. PlansFor (λ d front. seeks_step n.node d (record { act = act; operand = o; left = None }) d.cache front) told n p) → IfOk r (λ p. PlansFor (λ d front. goes_on n.node d front (not_walked act d.cache)) told n p)
plans_question n act o told r e h =
    if_ok (λ p. PlansFor (λ d front. seeks_step n.node d (record { act = act; operand = o; left = None }) d.cache front) told n p) (λ p. PlansFor (λ d front. goes_on n.node d front (not_walked act d.cache)) told n p) r
    (λ p. plans_same (λ d front. seeks_step n.node d (record { act = act; operand = o; left = None }) d.cache front) (λ d front. goes_on n.node d front (not_walked act d.cache)) told n p (λ d front. seeks_as n.node d front act o (next act) e)) h

pub plans_call : {E : Type 0} (n : NodeState CopyState) (act : Going) (told : List Line) (r : Result Plan E) → None ≡ code_of (next act) → operand_of (next act) ≡ None
    → IfOk r (λ p. PlansFor (λ d front. calls_step n.node (record d { gifts = n.state.client.gifts }) act front) told n p) → IfOk r (λ p. PlansFor (λ d front. goes_on n.node d front (not_walked act d.cache)) told n p)
plans_call n act told r e o h =
    if_ok (λ p. PlansFor (λ d front. calls_step n.node (record d { gifts = n.state.client.gifts }) act front) told n p) (λ p. PlansFor (λ d front. goes_on n.node d front (not_walked act d.cache)) told n p) r
    (λ p q cache busy moved first. subst (λ (s : Step ClientState). Makes (sent_to_site n.node n.state s) (followed (but_for_these n.state cache busy moved) p) (λ ls. first ++ ls) (outs_of p)) (calls_as n.node (but_for n.state.client cache busy moved) (λ ls. first ++ (told ++ ls)) act (next act) e o) (q cache busy moved first)) h

-- it is the same call, with the gifts that there are
pub plans_gifts : {E : Type 0} (n : NodeState CopyState) (act : Going) (told : List Line) (gifts others : List Gift) (r : Result Plan E) → gifts ≡ others → IfOk r (λ p. PlansFor (λ d front. calls_step n.node (record d { gifts = gifts }) act front) told n p) → IfOk r (λ p. PlansFor (λ d front. calls_step n.node (record d { gifts = others }) act front) told n p)
plans_gifts n act told gifts others r e h = subst (λ (gs : List Gift). IfOk r (λ p. PlansFor (λ d front. calls_step n.node (record d { gifts = gs }) act front) told n p)) e h

pub plans_act : {E : Type 0} (n : NodeState CopyState) (act other : Going) (told : List Line) (gifts : List Gift) (r : Result Plan E) → act ≡ other → IfOk r (λ p. PlansFor (λ d front. calls_step n.node (record d { gifts = gifts }) act front) told n p) → IfOk r (λ p. PlansFor (λ d front. calls_step n.node (record d { gifts = gifts }) other front) told n p)
plans_act n act other told gifts r e h = subst (λ (g : Going). IfOk r (λ p. PlansFor (λ d front. calls_step n.node (record d { gifts = gifts }) g front) told n p)) e h

-- ---- promises are given back

given_by : (me : Node) (act : Going) (gifts : List Gift) (d : ClientState) (front : List Line → List Line) → length gifts ≡ 0 → ends_step me d d.cache front (record { 0 = pos 0 }) ≡ gives_by me d front act gifts
given_by me act [] d front e = refl
given_by me act (g ∷ gs) d front e = absurd cc

giving_by : (me : Node) (act : Going) (gifts : List Gift) (d : ClientState) (front : List Line → List Line) → (length gifts ≡ 0 → ⊥) → calls_step me (record d { gifts = gifts }) act front ≡ gives_by me d front act gifts
giving_by me act [] d front e = absurd (e refl)
giving_by me act (g ∷ gs) d front e = refl

pub plans_given : {E : Type 0} (n : NodeState CopyState) (act : Going) (gifts : List Gift) (told : List Line) (r : Result Plan E) → length gifts ≡ 0 → IfOk r (λ p. PlansFor (λ d front. ends_step n.node d d.cache front (record { 0 = pos 0 })) told n p) → IfOk r (λ p. PlansFor (λ d front. gives_by n.node d front act gifts) told n p)
plans_given n act gifts told r e h =
    if_ok (λ p. PlansFor (λ d front. ends_step n.node d d.cache front (record { 0 = pos 0 })) told n p) (λ p. PlansFor (λ d front. gives_by n.node d front act gifts) told n p) r
    (λ p. plans_same (λ d front. ends_step n.node d d.cache front (record { 0 = pos 0 })) (λ d front. gives_by n.node d front act gifts) told n p (λ d front. given_by n.node act gifts d front e)) h

pub plans_giving : {E : Type 0} (n : NodeState CopyState) (act : Going) (gifts : List Gift) (told : List Line) (r : Result Plan E) → (length gifts ≡ 0 → ⊥) → IfOk r (λ p. PlansFor (λ d front. calls_step n.node (record d { gifts = gifts }) act front) told n p) → IfOk r (λ p. PlansFor (λ d front. gives_by n.node d front act gifts) told n p)
plans_giving n act gifts told r e h =
    if_ok (λ p. PlansFor (λ d front. calls_step n.node (record d { gifts = gifts }) act front) told n p) (λ p. PlansFor (λ d front. gives_by n.node d front act gifts) told n p) r
    (λ p. plans_same (λ d front. calls_step n.node (record d { gifts = gifts }) act front) (λ d front. gives_by n.node d front act gifts) told n p (λ d front. giving_by n.node act gifts d front e)) h

-- ---- lines of reads, and of entries that go

pub looked_front : (me : Node) (ls : List Look) (rest : List Line) → looked me ls rest ≡ looked me ls [] ++ rest
looked_front me [] rest = refl
looked_front me (l ∷ ls) rest = ap (λ (xs : List Line). lines.Read me l.fid l.index l.source l.body ∷ xs) (looked_front me ls rest)

pub dropped_front : (me : Node) (es : List CacheEntry) (rest : List Line) → dropped me es rest ≡ map (drop_line me) (map (λ (e : CacheEntry). e.fid) es) ++ rest
dropped_front me [] rest = refl
dropped_front me (e ∷ es) rest = ap (λ (xs : List Line). lines.Drop me e.fid ∷ xs) (dropped_front me es rest)

-- the lines of reads stand behind those that were told
looked_behind : (me : Node) (first told rest : List Line) (looks : List Look) → first ++ ((told ++ looked me looks []) ++ rest) ≡ first ++ (told ++ looked me looks rest)
looked_behind me first told rest looks =
    ap (λ (xs : List Line). first ++ xs) (append_assoc told (looked me looks []) rest ∙ ap (λ (xs : List Line). told ++ xs) (sym (looked_front me looks rest)))

ends_looked : (me : Node) (d : ClientState) (cache : List CacheEntry) (code : Code) (xs ys : List Line) → xs ≡ ys → ends_step me d cache (λ ls. xs) code ≡ ends_step me d cache (λ ls. ys) code
ends_looked me d cache code xs ys e = ap (λ (zs : List Line). ends_step me d cache (λ ls. zs) code) e

calls_looked : (me : Node) (d : ClientState) (act : Going) (xs ys : List Line) → xs ≡ ys → calls_step me d act (λ ls. xs) ≡ calls_step me d act (λ ls. ys)
calls_looked me d act xs ys e = ap (λ (zs : List Line). calls_step me d act (λ ls. zs)) e

seeks_looked : (me : Node) (d : ClientState) (k : Seek) (cache : List CacheEntry) (xs ys : List Line) → xs ≡ ys → seeks_step me d k cache (λ ls. xs) ≡ seeks_step me d k cache (λ ls. ys)
seeks_looked me d k cache xs ys e = ap (λ (zs : List Line). seeks_step me d k cache (λ ls. zs)) e

looks_by : (me : Node) (d : ClientState) (w : Walked) (told first : List Line) (need : Need) → goes_by me d (λ ls. first ++ ((told ++ looked me w.looks []) ++ ls)) (not_walked w.act d.cache) need ≡ goes_by me d (λ ls. first ++ (told ++ ls)) (over w d.cache) need
looks_by me d w told first (going.reads f) = calls_looked me d w.act _ _ (looked_behind me first told [] w.looks)
looks_by me d w told first (going.reads_status f) = calls_looked me d w.act _ _ (looked_behind me first told [] w.looks)
looks_by me d w told first (going.reads_statuses fs) = calls_looked me d w.act _ _ (looked_behind me first told [] w.looks)
looks_by me d w told first (going.reads_rights f) = calls_looked me d w.act _ _ (looked_behind me first told [] w.looks)
looks_by me d w told first (going.asks_for call) = calls_looked me d w.act _ _ (looked_behind me first told [] w.looks)
looks_by me d w told first going.gives_back = calls_looked me d w.act _ _ (looked_behind me first told [] w.looks)
looks_by me d w told first (going.locates o) = seeks_looked me d (record { act = w.act; operand = o; left = None }) d.cache _ _ (looked_behind me first told [] w.looks)
looks_by me d w told first (going.answers n) = ends_looked me d d.cache (record { 0 = pos n }) _ _ (looked_behind me first told (lines.Answer me (record { 0 = pos n }) ∷ []) w.looks)

pub plans_looked : (n : NodeState CopyState) (w : Walked) (told : List Line) (plan : Plan) → PlansFor (λ d front. goes_on n.node d front (not_walked w.act d.cache)) (told ++ looked n.node w.looks []) n plan → PlansFor (λ d front. goes_on n.node d front (over w d.cache)) told n plan
plans_looked n w told plan p cache busy moved first =
    subst (λ (s : Step ClientState). Makes (sent_to_site n.node n.state s) (followed (but_for_these n.state cache busy moved) plan) (λ ls. first ++ ls) (outs_of plan)) (looks_by n.node (but_for n.state.client cache busy moved) w told first (next w.act)) (p cache busy moved first)

-- a step sets the cache that the walk leaves, whatever it was before
goes_over : (me : Node) (c : ClientState) (cache : List CacheEntry) (busy moved : ℕ) (front : List Line → List Line) (w : Walked) (need : Need) → goes_by me (but_for c cache busy moved) front w need ≡ goes_by me (record c { busy = busy; moved = moved }) front w need
goes_over me c cache busy moved front w (going.reads f) = refl
goes_over me c cache busy moved front w (going.reads_status f) = refl
goes_over me c cache busy moved front w (going.reads_statuses fs) = refl
goes_over me c cache busy moved front w (going.reads_rights f) = refl
goes_over me c cache busy moved front w (going.asks_for call) = refl
goes_over me c cache busy moved front w going.gives_back = refl
goes_over me c cache busy moved front w (going.locates o) = refl
goes_over me c cache busy moved front w (going.answers n) = refl

pub goes_in : (me : Node) (c : ClientState) (cache : List CacheEntry) (busy moved : ℕ) (front : List Line → List Line) (w : Walked) → goes_on me (but_for c cache busy moved) front w ≡ goes_on me (record c { busy = busy; moved = moved }) front w
goes_in me c cache busy moved front w = goes_over me c cache busy moved front w (next w.act)

pub way_planned : (n : NodeState CopyState) (whole : Walked) (entries : List CacheEntry) (told ls : List Line) (w : program.Walked) (plan : Plan) → HasWalked n.node entries whole told w ls
    → PlansFor (λ d front. goes_on n.node d front (not_walked w.going d.cache)) ls n plan → CanFollow n.state.client.last plan → IsWay n whole entries told (record { used = w.used; plan = plan })
way_planned n whole entries told ls w plan h p f =
    let there : PlansFor (λ d front. goes_on n.node d front (not_walked whole.act d.cache)) ls n plan = subst (λ (g : Going). PlansFor (λ d front. goes_on n.node d front (not_walked g d.cache)) ls n plan) h.act p in
    record {
      used = h.cache;
      plan = plans_looked n whole told plan (subst (λ (x : List Line). PlansFor (λ d front. goes_on n.node d front (not_walked whole.act d.cache)) x n plan) h.told there);
      follows = f;
    }

-- ---- a plan was followed

pub plan_goes : (step : ClientState → (List Line → List Line) → Step ClientState) (other : (List Line → List Line) → Step ClientState) (told : List Line) (plan : Plan) (old new : NodeState CopyState) (outs : Outs) (cache : List CacheEntry) (busy moved : ℕ)
    → PlansFor step told old plan → new.node ≡ old.node → new.state ≡ followed (but_for_these old.state cache busy moved) plan → outs ≡ outs_of plan → ((front : List Line → List Line) → step (but_for old.state.client cache busy moved) front ≡ other front)
    → (new.node ≡ old.node) × ((first : List Line) → Makes (sent_to_site old.node old.state (other (λ ls. first ++ (told ++ ls)))) new.state (λ ls. first ++ ls) outs)
plan_goes step other told plan old new outs cache busy moved p n s o same = (
  n,
  λ first. subst (λ (x : Step ClientState). Makes (sent_to_site old.node old.state x) new.state (λ ls. first ++ ls) outs) (same (λ ls. first ++ (told ++ ls)))
      (done_as (sent_to_site old.node old.state (step (but_for old.state.client cache busy moved) (λ ls. first ++ (told ++ ls)))) (but_for_these old.state cache busy moved) (but_for_these old.state cache busy moved) plan new.state outs (λ ls. first ++ ls) (p cache busy moved first) s refl o),
)

pub plan_taken : (step : ClientState → (List Line → List Line) → Step ClientState) (other : ℕ → Step ClientState) (told : List Line) (plan : Plan) (old new : NodeState CopyState) (outs : Outs) (cache : List CacheEntry) (busy moved : ℕ)
    → PlansFor step told old plan → new.node ≡ old.node → new.state ≡ followed (but_for_these old.state cache busy moved) plan → outs ≡ outs_of plan → ((place : ℕ) → step (but_for old.state.client cache busy moved) (λ ls. lines.Given place ∷ (told ++ ls)) ≡ other place)
    → (new.node ≡ old.node) × ((place : ℕ) → Makes (sent_to_site old.node old.state (other place)) new.state (λ ls. lines.Given place ∷ ls) outs)
plan_taken step other told plan old new outs cache busy moved p n s o same = (
  n,
  λ place. subst (λ (x : Step ClientState). Makes (sent_to_site old.node old.state x) new.state (λ ls. lines.Given place ∷ ls) outs) (same place)
      (done_as (sent_to_site old.node old.state (step (but_for old.state.client cache busy moved) (λ ls. lines.Given place ∷ (told ++ ls)))) (but_for_these old.state cache busy moved) (but_for_these old.state cache busy moved) plan new.state outs (λ ls. lines.Given place ∷ ls) (p cache busy moved (lines.Given place ∷ [])) s refl o),
)

-- a plan in a round was followed
pub round_taken : (x : Asking) (r : Round) (told : List Line) (plan : Plan) (old new : NodeState CopyState) (outs : Outs) → PlansRound x r told old plan → x.gifts ≡ old.state.client.gifts → new.node ≡ old.node → new.state ≡ followed old.state plan → outs ≡ outs_of plan → told ≡ []
    → (new.node ≡ old.node) × ((place : ℕ) → Makes (calls_round old.node old.state x.going r (lines.Given place ∷ [])) new.state (λ ls. lines.Given place ∷ ls) outs)
round_taken x r told plan old new outs p g n s o t = (
  n,
  λ place. subst (λ (ls : List Line). Makes (calls_round old.node old.state x.going r (lines.Given place ∷ ls)) new.state (λ rest. lines.Given place ∷ rest) outs) t
      (subst (λ (gs : List Gift). Makes (calls_round old.node (with_client old.state (record old.state.client { gifts = gs })) x.going r (lines.Given place ∷ told)) new.state (λ rest. lines.Given place ∷ rest) outs) g
      (done_as (calls_round old.node (with_client old.state (record old.state.client { gifts = x.gifts })) x.going r (lines.Given place ∷ told)) old.state old.state plan new.state outs (λ ls. lines.Given place ∷ ls) (p old.state.client.cache old.state.client.busy old.state.client.moved (lines.Given place ∷ [])) s refl o)),
)

-- entries were put, and nothing else was changed
pub put_view : (seen old : NodeState CopyState) (k : Kept) (es : List CacheEntry) → seen ≡ old → k ≡ record { entries = put_entries seen.state.client.capacity es seen.state.client.cache; capacity = seen.state.client.capacity }
    → with_client seen.state (record seen.state.client { cache = k.entries; capacity = k.capacity }) ≡ but_for_these old.state (put_entries old.state.client.capacity es old.state.client.cache) old.state.client.busy old.state.client.moved
put_view seen old k es v q =
    ap (λ (x : Kept). with_client seen.state (record seen.state.client { cache = x.entries; capacity = x.capacity })) q
    ∙ ap (λ (s : NodeState CopyState). but_for_these s.state (put_entries s.state.client.capacity es s.state.client.cache) s.state.client.busy s.state.client.moved) v

-- the walk of a way goes on with the cache that it leaves
pub way_goes : (me : Node) (c : ClientState) (cache : List CacheEntry) (busy moved : ℕ) (w : Walked) (front : List Line → List Line) → cache ≡ w.cache → goes_on me (but_for c cache busy moved) front (over w cache) ≡ goes_on me (record c { busy = busy; moved = moved }) front w
way_goes me c cache busy moved w front e = goes_in me c cache busy moved front (over w cache) ∙ ap (λ (es : List CacheEntry). goes_on me (record c { busy = busy; moved = moved }) front (over w es)) e

-- entries were used, and the act waited so often
pub touch_view : (seen old : NodeState CopyState) (k : Kept) (fids : List Fid) (busy moved : ℕ) → seen ≡ old → k ≡ record { entries = touched_all fids seen.state.client.cache; capacity = seen.state.client.capacity }
    → with_client seen.state (record seen.state.client { cache = k.entries; capacity = k.capacity; busy = busy; moved = moved }) ≡ but_for_these old.state (touched_all fids old.state.client.cache) busy moved
touch_view seen old k fids busy moved v q =
    ap (λ (x : Kept). with_client seen.state (record seen.state.client { cache = x.entries; capacity = x.capacity; busy = busy; moved = moved })) q
    ∙ ap (λ (s : NodeState CopyState). but_for_these s.state (touched_all fids s.state.client.cache) busy moved) v

-- an entry was put, and then some were used
pub used_view : (seen put old : NodeState CopyState) (k : Kept) (fids : List Fid) (cache : List CacheEntry) → seen ≡ put → put ≡ record old { state = with_client old.state (record old.state.client { cache = cache }) } → k ≡ record { entries = touched_all fids seen.state.client.cache; capacity = seen.state.client.capacity }
    → record seen { state = with_client seen.state (record seen.state.client { cache = k.entries; capacity = k.capacity }) } ≡ record old { state = with_client old.state (record old.state.client { cache = touched_all fids cache }) }
used_view seen put old k fids cache v p q =
    ap (λ (x : Kept). record seen { state = with_client seen.state (record seen.state.client { cache = x.entries; capacity = x.capacity }) }) q
    ∙ ap (λ (s : NodeState CopyState). record s { state = with_client s.state (record s.state.client { cache = touched_all fids s.state.client.cache }) }) (v ∙ p)
