-- What is behind a settled break: its server was given the client's answer to the call that carried it, and the client dropped what that broke.
use Rattle.std.proofs.Common.{◌≡◌, ℕ, zero, suc, ◌⊎◌, inl, inr, Bool, true, false, cond, List, [], ◌∷◌, ◌++◌, Option, Some, None, refl, sym, ap, subst, ◌∙◌, nat_eq, eq-eqb, eqb-true}
use Rattle.std.proofs.lemmas.List.{append_assoc}
use Rattle.std.specs.List.{AllByRecursion}
use Rattle.std.specs.Prelude.{⊤, ◌&&◌, filter, if◌then◌else◌, map}
use Rattle.afs_num.specs.Nodes.{same_node}
use Rattle.afs_num.specs.declared.calls.FsCall.{FsCall}
use Rattle.afs_num.specs.declared.histories.Actor.{Actor}
use Rattle.afs_num.specs.declared.histories.Actor.TheVariants as actors
use Rattle.afs_num.specs.declared.messages.Call.TheVariants as ask
use Rattle.afs_num.specs.declared.messages.Carried.{Carried}
use Rattle.afs_num.specs.declared.messages.Carried.TheVariants as carried
use Rattle.afs_num.specs.declared.messages.Message.{Message}
use Rattle.afs_num.specs.declared.types.Fid.{Fid}
use Rattle.afs_num.specs.declared.types.Head.{Head}
use Rattle.afs_num.specs.declared.types.Key.{Key}
use Rattle.afs_num.specs.declared.types.Node.{Node}
use Rattle.afs_num.specs.declared.types.Node.TheVariants.{Client, Server}
use Rattle.spec_history.specs.declared.lines.Line.{Line}
use Rattle.spec_history.specs.declared.lines.Line.TheVariants as lines
use Rattle.spec_breaks.specs.declared.types.OwedBreak.{OwedBreak}
use Rattle.spec_breaks.specs.Promises.{has_break}
use Rattle.law_legal.proofs.BaseLaws.{a_key, both, same_key-refl, same_node-true}
use Rattle.law_legal.proofs.OwedFacts.{AllOf, DroppedOwe, IsOwed}
use Rattle.law_legal.proofs.OwedLoad.{two_all}
use Rattle.law_legal.proofs.OwedPasses.{drop_onto, entries_same, entry_same, front_onto}
use Rattle.law_legal.specs.Breaks.{CarriesBreak, GoodSettle, HasDrop, HasStopped, IsGivenUp}
use Rattle.law_legal.specs.Past.{called_key, given_message, has_sent, is_called, lines_of, lines_on, onto, sent_of, HasCode, IsCall}
use Rattle.spec_model.specs.Calls.{same_key}
use Rattle.spec_rows.specs.Callbacks.{breaks_call, breaks_opcode, is_back_awaited, no_turn, opcode_for, settle_line, settles, settles_by, still_owed, CallbackStep}
use Rattle.spec_rows.specs.Runs.{message_at, Entry}
use Rattle.spec_rows.specs.States.{BackCall, Backs}
use Rattle.spec_volrows.specs.VolSteps.{vol_opcode}
use Rattle.law_walks.proofs.Seats.{found_at}
use Rattle.law_owed.proofs.Owing.{is_file_call, CarriesThis, Out}
use Rattle.law_settled.proofs.ClientAnswers.{DropsFor}
use Rattle.law_settled.proofs.CopyAnswers.{front_drops, last_drops}
use Rattle.law_settled.proofs.Handled.{Handled}
use Rattle.law_settled.proofs.Operations.{HasOperation, IsMadeByServer}
use Rattle.law_settled.specs.Settles.{FollowDrop, HasDropSince}

-- ---- the call that the client was given is the one that was first sent under its key

-- what holds of all messages holds of those before
as_all : (P : Message → Type 0) (ms : List Message) → AllOf P ms → AllByRecursion P ms
as_all P [] h = tt
as_all P (m ∷ ms) h = (h.0, as_all P ms h.1)

front_all : (P : Message → Type 0) (a b : List Message) → AllByRecursion P (a ++ b) → AllByRecursion P a
front_all P [] b h = tt
front_all P (m ∷ a) b h = (h.0, front_all P a b h.1)

older_all : (P : Message → Type 0) (newer : List Entry) (at : Entry) (older : List Entry) → AllByRecursion P (sent_of (newer ++ (at ∷ older))) → AllByRecursion P (sent_of older)
older_all P [] at older h = front_all P (sent_of older) at.sent h
older_all P (e ∷ newer) at older h = older_all P newer at older (front_all P (sent_of (newer ++ (at ∷ older))) e.sent h)

-- and a call that was sent before was sent
either_true : (t x y : Bool) → (x ≡ true → y ≡ true) → (if t then true else x) ≡ true → (if t then true else y) ≡ true
either_true true x y w h = refl
either_true false x y w h = w h

sent_front : (k : Key) (a b : List Message) → has_sent k a ≡ true → has_sent k (a ++ b) ≡ true
sent_front k [] b h = absurd cc
sent_front k (m ∷ a) b h = either_true (is_called k m.head m.carried) (has_sent k a) (has_sent k (a ++ b)) (sent_front k a b) h

sent_older : (k : Key) (newer : List Entry) (at : Entry) (older : List Entry) → has_sent k (sent_of older) ≡ true → has_sent k (sent_of (newer ++ (at ∷ older))) ≡ true
sent_older k [] at older h = sent_front k (sent_of older) at.sent h
sent_older k (e ∷ newer) at older h = sent_front k (sent_of (newer ++ (at ∷ older))) e.sent (sent_older k newer at older h)

later_sent : (t x : Bool) → x ≡ true → (if t then true else x) ≡ true
later_sent true x h = refl
later_sent false x h = h

now_sent : (t x : Bool) → t ≡ true → (if t then true else x) ≡ true
now_sent true x h = refl
now_sent false x h = absurd cc

sent_at : (k : Key) (place : ℕ) (ms : List Message) (m : Message) → is_called k m.head m.carried ≡ true → message_at ms place ≡ Some m → has_sent k ms ≡ true
sent_at k zero [] m h e = absurd cc
sent_at k zero (x ∷ ms) m h e = absurd cc
sent_at k (suc zero) [] m h e = absurd cc
sent_at k (suc zero) (x ∷ ms) m h e = let same : m ≡ x = cc in now_sent (is_called k x.head x.carried) (has_sent k ms) (subst (λ (y : Message). is_called k y.head y.carried ≡ true) same h)
sent_at k (suc (suc n)) [] m h e = absurd cc
sent_at k (suc (suc n)) (x ∷ ms) m h e = later_sent (is_called k x.head x.carried) (has_sent k ms) (sent_at k (suc n) ms m h e)

-- an entry that drops something behind a sending of the key, where the key was first sent at another: it stands since then
since_first : (k : Key) (s c : Node) (what : Option Fid) (newer : List Entry) (at : Entry) (older later : List Entry) (first : Entry) (before : List Entry) → newer ++ (at ∷ older) ≡ later ++ (first ∷ before) → has_sent k (sent_of older) ≡ true → has_sent k (sent_of before) ≡ false
    → HasDrop s c what at.lines → HasDrop s c what (lines_on [] later)
since_first k s c what [] at older [] first before same sent new drop =
    let old : older ≡ before = entries_same at first older before same in
    let no : has_sent k (sent_of before) ≡ true = subst (λ (es : List Entry). has_sent k (sent_of es) ≡ true) old sent in
    let no' : true ≡ false = sym no ∙ new in
    absurd cc
since_first k s c what [] at older (x ∷ later) first before same sent new drop = subst (λ (e : Entry). HasDrop s c what (onto (lines_on [] later) e.lines)) (entry_same at x older (later ++ (first ∷ before)) same) (drop_in s c what (lines_on [] later) at.lines drop)
  where
    drop_in : (s c : Node) (what : Option Fid) (o ls : List Line) → HasDrop s c what ls → HasDrop s c what (onto o ls)
    drop_in s c what o [] h = absurd h
    drop_in s c what o (lines.Drop m g ∷ ls) (inl x) = drop_onto s c what ls (lines.Drop m g ∷ o) (inl x)
    drop_in s c what o (lines.Drop m g ∷ ls) (inr x) = drop_in s c what (lines.Drop m g ∷ o) ls x
    drop_in s c what o (lines.DropAll m q ∷ ls) (inl x) = drop_onto s c what ls (lines.DropAll m q ∷ o) (inl x)
    drop_in s c what o (lines.DropAll m q ∷ ls) (inr x) = drop_in s c what (lines.DropAll m q ∷ o) ls x
    drop_in s c what o (l ∷ ls) h = drop_in s c what (l ∷ o) ls h
since_first k s c what (e ∷ newer) at older [] first before same sent new drop =
    let old : newer ++ (at ∷ older) ≡ before = entries_same e first (newer ++ (at ∷ older)) before same in
    let no : has_sent k (sent_of before) ≡ true = subst (λ (es : List Entry). has_sent k (sent_of es) ≡ true) old (sent_older k newer at older sent) in
    let no' : true ≡ false = sym no ∙ new in
    absurd cc
since_first k s c what (e ∷ newer) at older (x ∷ later) first before same sent new drop =
    drop_onto s c what x.lines (lines_on [] later) (since_first k s c what newer at older later first before (entries_same e x (newer ++ (at ∷ older)) (later ++ (first ∷ before)) same) sent new drop)

-- ---- the client dropped what the call breaks

-- a call that carries breaks has another number of operation than one to a server
apart : (a b : ℕ) → nat_eq a b ≡ false → a ≡ b → ⊥
apart a b h e = let yes : nat_eq a b ≡ true = eq-eqb a b e in let no : true ≡ false = sym yes ∙ h in absurd cc

apart_for : (w : Option Fid) → opcode_for w ≡ vol_opcode → ⊥
apart_for None e = apart 205 102 refl e
apart_for (Some f) e = apart 204 102 refl e

apart_by : (os : List OwedBreak) → breaks_opcode os ≡ vol_opcode → ⊥
apart_by [] e = apart 204 102 refl e
apart_by (o ∷ os) e = apart_for o.what e

of_file : (x : Carried) (operation : ℕ) (os : List OwedBreak) → IsCall x → HasOperation x operation → operation ≡ breaks_opcode os → is_file_call x ≡ true
of_file (carried.Call user (ask.File call)) operation os asks of is = refl
of_file (carried.Call user (ask.Volume call)) operation os asks of is = absurd (apart_by os (sym is ∙ of))
of_file (carried.Call user (ask.Location call)) operation os asks of is = absurd of
of_file (carried.Refusal code) operation os call of is = absurd call
of_file (carried.Reply reply) operation os call of is = absurd call
of_file carried.Notice operation os call of is = absurd call

-- the reply that ends this call is under its key
record EndsCall (boot : ℕ) (c : BackCall) (head : Head) : Type 0 where
  epoch : head.epoch ≡ boot
  number : head.number ≡ c.number
  operation : head.opcode ≡ breaks_opcode c.content

ends_call : (boot : ℕ) (c : BackCall) (head : Head) → is_back_awaited boot c head ≡ true → EndsCall boot c head
ends_call boot c head e =
    let x = both (nat_eq head.epoch boot) (nat_eq head.number c.number && nat_eq head.opcode (breaks_opcode c.content)) e in
    let y = both (nat_eq head.number c.number) (nat_eq head.opcode (breaks_opcode c.content)) x.1 in
    record { epoch = eqb-true head.epoch boot x.0; number = eqb-true head.number c.number y.0; operation = eqb-true head.opcode (breaks_opcode c.content) y.1 }

-- what holds of all messages holds of the call that the client was given
handled_is : (Q : Message → Type 0) (s c : Node) (head : Head) (es : List Entry) (h : Handled s c head es) → AllByRecursion Q (sent_of es) → Q h.call
handled_is Q s c head es h all = found_at Q h.place (sent_of h.older) h.call (older_all Q h.newer h.at h.older (subst (λ (xs : List Entry). AllByRecursion Q (sent_of xs)) h.split all)) h.sent

module _ (i n : ℕ) (boot last : ℕ) (c : BackCall) (es : List Entry) (out : Out (Server i) (Client n) c last boot es) where
  given_up : (head : Head) → EndsCall boot c head → Handled (Server i) (Client n) head es → AllOf (CarriesThis (Client n) (a_key (Server i) boot c.number) (breaks_call c.content)) (sent_of es) → AllByRecursion IsMadeByServer (sent_of es)
      → AllOf (DroppedOwe (Server i) (Client n) boot c.number es) c.content
  given_up head ends h alone made =
      let me : Node = Server i in
      let k : Key = a_key me boot c.number in
      let P : Message → Type 0 = CarriesThis (Client n) k (breaks_call c.content) in
      let under : called_key h.call.head ≡ k = h.under ∙ (ap (λ (x : ℕ). a_key me x head.number) ends.epoch ∙ ap (λ (x : ℕ). a_key me boot x) ends.number) in
      let of : HasOperation h.call.carried h.call.head.opcode = handled_is IsMadeByServer me (Client n) head es h made i (ap (λ (x : Key). x.node) under) in
      let file : is_file_call h.call.carried ≡ true = of_file h.call.carried h.call.head.opcode c.content h.calls of (h.opcode ∙ ends.operation) in
      let is : h.call.carried ≡ carried.Call [] (ask.File (breaks_call c.content)) = handled_is P me (Client n) head es h (as_all P (sent_of es) alone) file h.to under in
      let called : is_called k h.call.head h.call.carried ≡ true = subst (λ (x : Carried). is_called k h.call.head x ≡ true) (sym is) (subst (λ (x : Key). same_key x k ≡ true) (sym under) (same_key-refl k)) in
      let drops : DropsFor me (Client n) (carried.Call [] (ask.File (breaks_call c.content))) h.at.lines = subst (λ (x : Carried). DropsFor me (Client n) x h.at.lines) is h.drops in
      two_all (IsOwed me (Client n) (lines_of (out.sent.at ∷ out.sent.older))) (λ (o : OwedBreak). CarriesBreak (breaks_call c.content) o.what) (DroppedOwe me (Client n) boot c.number es)
      (λ o owed carries. record {
        carried = record { user = []; call = breaks_call c.content; sent = out.sent; carries = carries; owe = owed; up = out.up };
        dropped = since_first k me (Client n) o.what h.newer h.at h.older out.sent.newer out.sent.at out.sent.older (sym h.split ∙ out.sent.split) (sent_at k h.place (sent_of h.older) h.call called h.sent) out.sent.first (drops o.what carries);
      }) c.content out.owes out.carries

-- ---- so its breaks are settled rightly

stopped_either : (me : Node) (a b : List Line) → HasStopped me (a ++ b) → HasStopped me a ⊎ HasStopped me b
stopped_either me [] b h = inr h
stopped_either me (lines.Crash n ∷ a) b (inl e) = inl (inl e)
stopped_either me (lines.Crash n ∷ a) b (inr h) = elim (stopped_either me a b h) [ inl x ↦ inl (inr x) | inr x ↦ inr x ]
stopped_either me (lines.Fault n ∷ a) b (inl e) = inl (inl e)
stopped_either me (lines.Fault n ∷ a) b (inr h) = elim (stopped_either me a b h) [ inl x ↦ inl (inr x) | inr x ↦ inr x ]
stopped_either me (l ∷ a) b h = stopped_either me a b h

lines_front : (newer older : List Entry) → lines_of (newer ++ older) ≡ lines_on [] newer ++ lines_of older
lines_front [] older = refl
lines_front (e ∷ newer) older = ap (λ (ls : List Line). onto ls e.lines) (lines_front newer older) ∙ front_onto (lines_on [] newer) (lines_of older) e.lines

-- the drop stands between the line of the break and here
drop_since : (me c : Node) (epoch number : ℕ) (o : OwedBreak) (es : List Entry) (own : List Line) → (HasStopped me own → ⊥) → DroppedOwe me c epoch number es o → HasDropSince me c o.number (own ++ lines_of es)
drop_since me c epoch number o es own going d =
    let s = d.carried.sent in
    let w = d.carried.owe in
    let since : List Line = lines_on [] s.newer in
    record {
      what = o.what;
      newer = own ++ (since ++ w.newer);
      base = w.base;
      split = ap (λ (ls : List Line). own ++ ls) (ap lines_of s.split ∙ (lines_front s.newer (s.at ∷ s.older) ∙ (ap (λ (ls : List Line). since ++ ls) w.split ∙ sym (append_assoc since w.newer (lines.Owe me c o.what o.number ∷ w.base))))) ∙ sym (append_assoc own (since ++ w.newer) (lines.Owe me c o.what o.number ∷ w.base));
      up = λ x. elim (stopped_either me own (since ++ w.newer) x) [ inl y ↦ going y | inr y ↦ elim (stopped_either me since w.newer y) [ inl z ↦ d.carried.up z | inr z ↦ w.up z ] ];
      dropped = last_drops own (since ++ w.newer) me c o.what (front_drops since w.newer me c o.what d.dropped);
    }

-- the entry was given this answer
record IsGivenAnswer (me n : Node) (boot drawn : ℕ) (es : List Entry) (own : List Line) : Type 0 where
  reply : Message
  by : given_message own (sent_of es) ≡ Some reply
  is : HasCode reply.carried
  to : reply.head.to ≡ me
  from : reply.head.from ≡ n
  epoch : reply.head.epoch ≡ boot
  number : reply.head.number ≡ drawn

module _ (i : ℕ) (n : Node) (boot number : ℕ) (es : List Entry) where
  settle_good : (o : OwedBreak) (own : List Line) → IsGivenAnswer (Server i) n boot number es own → DroppedOwe (Server i) n boot number es o → (HasStopped (Server i) own → ⊥) → GoodSettle (Server i) n o.number es own
  settle_good o own r d going = record {
    going = going;
    reply = r.reply;
    by = r.by;
    is = r.is;
    to = r.to;
    from = r.from;
    what = o.what;
    back = subst (λ (x : ℕ). IsGivenUp (Server i) n x r.reply.head.number o.what o.number es) (sym r.epoch) (subst (λ (x : ℕ). IsGivenUp (Server i) n boot x o.what o.number es) (sym r.number) d);
  }

  one_follows : (t : Bool) (o : OwedBreak) (own : List Line) (rest : List OwedBreak) → DroppedOwe (Server i) n boot number es o → IsGivenAnswer (Server i) n boot number es own → (HasStopped (Server i) own → ⊥)
      → ((xs : List Line) → IsGivenAnswer (Server i) n boot number es xs → (HasStopped (Server i) xs → ⊥) → FollowDrop (actors.Node (Server i)) es xs (map (settle_line (Server i) n) rest)) → FollowDrop (actors.Node (Server i)) es own (map (settle_line (Server i) n) (cond t (o ∷ rest) rest))
  one_follows true o own rest d r going w = (
    record { own_entry = refl; drop = drop_since (Server i) n boot number o es own going d; settle = settle_good o own r d going },
    w (settle_line (Server i) n o ∷ own) (record { reply = r.reply; by = r.by; is = r.is; to = r.to; from = r.from; epoch = r.epoch; number = r.number }) going,
  )
  one_follows false o own rest d r going w = w own r going

  all_follow : (os owed : List OwedBreak) (own : List Line) → AllOf (DroppedOwe (Server i) n boot number es) os → IsGivenAnswer (Server i) n boot number es own → (HasStopped (Server i) own → ⊥)
      → FollowDrop (actors.Node (Server i)) es own (map (settle_line (Server i) n) (filter (λ (o : OwedBreak). has_break o.number owed) os))
  all_follow [] owed own h r going = tt
  all_follow (o ∷ os) owed own h r going = one_follows (has_break o.number owed) o own (filter (λ (x : OwedBreak). has_break x.number owed) os) h.0 r going (λ xs y z. all_follow os owed xs h.1 y z)

-- ---- the turn

-- what is known where a message is given to a server that is up
pub record Hears (i : ℕ) (boot last : ℕ) (b : Backs) (es : List Entry) (place : ℕ) (m : Message) : Type 0 where
  pub outs : (j : Node) (c : BackCall) → b.calls j ≡ Some c → Out (Server i) j c last boot es
  pub alone : (j : Node) (c : BackCall) → b.calls j ≡ Some c → AllOf (CarriesThis j (a_key (Server i) boot c.number) (breaks_call c.content)) (sent_of es)
  pub made : AllByRecursion IsMadeByServer (sent_of es)
  pub given : message_at (sent_of es) place ≡ Some m
  pub handled : (n : ℕ) → m.head.from ≡ Client n → m.head.to ≡ Server i → HasCode m.carried → Handled (Server i) (Client n) m.head es

module _ (i boot last : ℕ) (b : Backs) (es : List Entry) (place : ℕ) (m : Message) (h : Hears i boot last b es place m) (code : HasCode m.carried) where
  done_follows : (n : ℕ) (c : BackCall) → b.calls (Client n) ≡ Some c → m.head.from ≡ Client n → m.head.to ≡ Server i → is_back_awaited boot c m.head ≡ true → FollowDrop (actors.Node (Server i)) es (lines.Given place ∷ []) (map (settle_line (Server i) (Client n)) (still_owed c b))
  done_follows n c at from to awaited =
      let ends : EndsCall boot c m.head = ends_call boot c m.head awaited in
      all_follow i (Client n) boot c.number es c.content b.lists.owed (lines.Given place ∷ []) (given_up i n boot last c es (h.outs (Client n) c at) m.head ends (h.handled n from to code) (h.alone (Client n) c at) h.made)
      (record { reply = m; by = h.given; is = code; to = to; from = from; epoch = ends.epoch; number = ends.number }) (λ x. x)

  awaited_by : (t : Bool) (n : ℕ) (c : BackCall) → b.calls (Client n) ≡ Some c → m.head.from ≡ Client n → m.head.to ≡ Server i → is_back_awaited boot c m.head ≡ t → FollowDrop (actors.Node (Server i)) es (lines.Given place ∷ []) (cond t (settles (Server i) (Client n) c b) (no_turn b)).lines
  awaited_by true n c at from to e = done_follows n c at from to e
  awaited_by false n c at from to e = tt

  settles_follow : (n : ℕ) (o : Option BackCall) → b.calls (Client n) ≡ o → m.head.from ≡ Client n → m.head.to ≡ Server i → FollowDrop (actors.Node (Server i)) es (lines.Given place ∷ []) (settles_by (Server i) boot m.head b o).lines
  settles_follow n None at from to = tt
  settles_follow n (Some c) at from to = subst (λ (q : Node). FollowDrop (actors.Node (Server i)) es (lines.Given place ∷ []) (cond (is_back_awaited boot c m.head) (settles (Server i) q c b) (no_turn b)).lines) (sym from) (awaited_by (is_back_awaited boot c m.head) n c at from to refl)

  to_by : (t : Bool) (n : ℕ) → same_node m.head.to (Server i) ≡ t → m.head.from ≡ Client n → FollowDrop (actors.Node (Server i)) es (lines.Given place ∷ []) (cond t (settles_by (Server i) boot m.head b (b.calls m.head.from)) (no_turn b)).lines
  to_by true n e from = settles_follow n (b.calls m.head.from) (ap b.calls (sym from)) from (same_node-true m.head.to (Server i) e)
  to_by false n e from = tt

  pub answer_follows : (n : ℕ) → m.head.from ≡ Client n → FollowDrop (actors.Node (Server i)) es (lines.Given place ∷ []) (cond (same_node m.head.to (Server i)) (settles_by (Server i) boot m.head b (b.calls m.head.from)) (no_turn b)).lines
  answer_follows n from = to_by (same_node m.head.to (Server i)) n refl from
