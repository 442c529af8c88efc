-- How the facts on breaks pass over an entry.
use Rattle.spec_breaks.specs.declared.types.Promise.{Promise}
use Rattle.law_legal.proofs.PromiseLists.{Owed}
use Rattle.afs_num.specs.declared.messages.Carried.{Carried}
use Rattle.std.proofs.Common.{◌≡◌, ℕ, ◌<◌, ◌≤◌, ◌⊎◌, inl, inr, Bool, true, false, cond, List, [], ◌∷◌, ◌++◌, Option, Some, None, refl, sym, ap, subst, ◌∙◌, arith}
use Rattle.std.specs.Prelude.{not, ◌&&◌, cond}
use Rattle.std.proofs.Math.Nat.{le_refl, le_trans}
use Rattle.afs_num.specs.Fids.{same_fid}
use Rattle.afs_num.specs.Nodes.{same_node}
use Rattle.afs_num.specs.declared.types.Fid.{Fid}
use Rattle.afs_num.specs.declared.types.Head.{Head}
use Rattle.afs_num.specs.declared.types.Key.{Key}
use Rattle.afs_num.specs.declared.types.Node.{Node}
use Rattle.afs_num.specs.declared.types.Node.TheVariants.{Client}
use Rattle.afs_num.specs.declared.calls.FsCall.{FsCall}
use Rattle.afs_num.specs.declared.messages.Message.{Message}
use Rattle.law_legal.proofs.BaseLaws.{both, same_node-refl, Above, Each, IfBack, IfDone, each_more, each_map, if_back, if_done}
use Rattle.law_legal.proofs.OwedFacts.{AllOf, all_map, IsGranted, IsIn, IsNumberIn, AccountedBy, WaitedBy, AllWaitedBy, HeldWaits, IsOwed, CallOut, BackIn, DroppedOwe, IsDone, DoneIn, SeatedIn, BackedIn, Promised, Numbered, Rising, ToClients, is_held}
use Rattle.law_legal.specs.Breaks.{FirstSent, IsCarried, unbroken_until, runs_now, returned_in, returned_by, is_entry_of, HasStopped, HasSettled, HasDrop, HasTimeout, promised_until, HasCome, Owes, AllOwes, EndedBy, OweAt, kept_until, is_on_object, last_number, lines_with_gifts, drops_of, fids_given_up, has_answer}
use Rattle.spec_rows.specs.Callbacks.{key_answered, breaks_call}
use Rattle.law_legal.specs.Legal.{HasChange}
use Rattle.afs_num.specs.declared.calls.FsCall.{FsCall}
use Rattle.std.proofs.lemmas.List.{append_assoc}
use Rattle.spec_history.specs.declared.lines.Line.{Line}
use Rattle.law_legal.specs.Past.{onto, lines_on, lines_of, called_key, given_message, sent_of}
use Rattle.spec_rows.specs.Runs.{Entry, Fall}
use Rattle.spec_rows.specs.States.{Seat, BackCall, Held, Backs}
use Rattle.spec_model.specs.Calls.{call_seat}
use Rattle.afs_num.specs.declared.messages.Carried.TheVariants as carried
use Rattle.afs_num.specs.declared.messages.Call.TheVariants as ask
use Rattle.spec_history.specs.declared.lines.Line.TheVariants as lines

-- ---- lines

abbrev pub all_lines : (Line → Bool) → List Line → Bool
all_lines q [] = true
all_lines q (l ∷ ls) = q l && all_lines q ls

-- the line stops no server
abbrev pub is_up : Node → Line → Bool
is_up me (lines.Crash n) = not (same_node n me)
is_up me (lines.Fault n) = not (same_node n me)
is_up me l = true

-- it grants nothing
abbrev pub is_still : Line → Bool
is_still (lines.Grant s c f index expiry) = false
is_still l = true

-- it owes nothing
abbrev pub is_oweless : Line → Bool
is_oweless (lines.Owe s c what n) = false
is_oweless l = true

-- it begins no change
abbrev pub is_unchanging : Line → Bool
is_unchanging (lines.Change s k count) = false
is_unchanging l = true

pub record Plain (me : Node) (ls : List Line) : Type 0 where
  pub up : all_lines (is_up me) ls ≡ true
  pub still : all_lines is_still ls ≡ true
  pub oweless : all_lines is_oweless ls ≡ true
  pub unchanging : all_lines is_unchanging ls ≡ true

settled_more : (s c : Node) (n : ℕ) (l : Line) (o : List Line) → HasSettled s c n o → HasSettled s c n (l ∷ o)
settled_more s c n (lines.Settle q d k) o h = inr h
settled_more s c n (lines.Quit q d k) o h = inr h
settled_more s c n l o h = h

pub settled_onto : (s c : Node) (n : ℕ) (ls o : List Line) → HasSettled s c n o → HasSettled s c n (onto o ls)
settled_onto s c n [] o h = h
settled_onto s c n (l ∷ ls) o h = settled_onto s c n ls (l ∷ o) (settled_more s c n l o h)

stopped_more : (s : Node) (l : Line) (o : List Line) → HasStopped s o → HasStopped s (l ∷ o)
stopped_more s (lines.Crash q) o h = inr h
stopped_more s (lines.Fault q) o h = inr h
stopped_more s l o h = h

pub stopped_onto : (s : Node) (ls o : List Line) → HasStopped s o → HasStopped s (onto o ls)
stopped_onto s [] o h = h
stopped_onto s (l ∷ ls) o h = stopped_onto s ls (l ∷ o) (stopped_more s l o h)

drop_more : (s c : Node) (w : Option Fid) (l : Line) (o : List Line) → HasDrop s c w o → HasDrop s c w (l ∷ o)
drop_more s c w (lines.Drop m g) o h = inr h
drop_more s c w (lines.DropAll m q) o h = inr h
drop_more s c w l o h = h

pub drop_onto : (s c : Node) (w : Option Fid) (ls o : List Line) → HasDrop s c w o → HasDrop s c w (onto o ls)
drop_onto s c w [] o h = h
drop_onto s c w (l ∷ ls) o h = drop_onto s c w ls (l ∷ o) (drop_more s c w l o h)

pub timeout_more : (s c : Node) (e n k : ℕ) (l : Line) (o : List Line) → HasTimeout s c e n k o → HasTimeout s c e n k (l ∷ o)
timeout_more s c e n k (lines.Timeout q d i j t) o h = inr h
timeout_more s c e n k l o h = h

pub timeout_onto : (s c : Node) (e n k : ℕ) (ls o : List Line) → HasTimeout s c e n k o → HasTimeout s c e n k (onto o ls)
timeout_onto s c e n k [] o h = h
timeout_onto s c e n k (l ∷ ls) o h = timeout_onto s c e n k ls (l ∷ o) (timeout_more s c e n k l o h)

stop_not : (me : Node) (n : Node) → not (same_node n me) ≡ true → n ≡ me → ⊥
stop_not me n h e = let yes : same_node n me ≡ true = ap (λ (m : Node). same_node m me) e ∙ same_node-refl me in absurd cc

stopped_before : (me : Node) (l : Line) (o : List Line) → is_up me l ≡ true → HasStopped me (l ∷ o) → HasStopped me o
stopped_before me (lines.Crash n) o h (inl e) = absurd (stop_not me n h e)
stopped_before me (lines.Crash n) o h (inr x) = x
stopped_before me (lines.Fault n) o h (inl e) = absurd (stop_not me n h e)
stopped_before me (lines.Fault n) o h (inr x) = x
stopped_before me l o h x = x

pub stopped_back : (me : Node) (ls o : List Line) → all_lines (is_up me) ls ≡ true → HasStopped me (onto o ls) → HasStopped me o
stopped_back me [] o h x = x
stopped_back me (l ∷ ls) o h x = let q = both (is_up me l) (all_lines (is_up me) ls) h in stopped_before me l o q.0 (stopped_back me ls (l ∷ o) q.1 x)

none_but : (t : Bool) (o : Option ℕ) → not t ≡ true → cond t None o ≡ o
none_but true o h = absurd cc
none_but false o h = refl

unbroken_before : (me : Node) (c : Node) (f : Fid) (l : Line) (o : List Line) → is_still l ≡ true → is_up me l ≡ true → is_oweless l ≡ true → unbroken_until me c f (l ∷ o) ≡ unbroken_until me c f o
unbroken_before me c f (lines.Grant s d g index expiry) o still up oweless = absurd cc
unbroken_before me c f (lines.Crash n) o still up oweless = none_but (same_node n me) _ up
unbroken_before me c f (lines.Fault n) o still up oweless = none_but (same_node n me) _ up
unbroken_before me c f (lines.Owe s d what n) o still up oweless = absurd cc
unbroken_before me c f l o still up oweless = refl

-- lines that grant nothing, stop no server and owe nothing leave it as it is
pub unbroken_back : (me : Node) (c : Node) (f : Fid) (ls o : List Line) → all_lines is_still ls ≡ true → all_lines (is_up me) ls ≡ true → all_lines is_oweless ls ≡ true → unbroken_until me c f (onto o ls) ≡ unbroken_until me c f o
unbroken_back me c f [] o still up oweless = refl
unbroken_back me c f (l ∷ ls) o still up oweless =
    let a = both (is_still l) (all_lines is_still ls) still in
    let b = both (is_up me l) (all_lines (is_up me) ls) up in
    let d = both (is_oweless l) (all_lines is_oweless ls) oweless in
    unbroken_back me c f ls (l ∷ o) a.1 b.1 d.1 ∙ unbroken_before me c f l o a.0 b.0 d.0

grants_by : (t : Bool) (x y : ℕ) (a b : Option ℕ) → (a ≡ Some x → b ≡ Some x) → cond t (Some y) a ≡ Some x → cond t (Some y) b ≡ Some x
grants_by true x y a b w e = e
grants_by false x y a b w e = w e

not_none : (t : Bool) (x : ℕ) (o : Option ℕ) → cond t None o ≡ Some x → o ≡ Some x
not_none true x o e = absurd cc
not_none false x o e = e

-- it is the last grant
pub unbroken_last : (me : Node) (c : Node) (f : Fid) (x : ℕ) (ls : List Line) → unbroken_until me c f ls ≡ Some x → promised_until me c f ls ≡ Some x
unbroken_last me c f x [] e = absurd cc
unbroken_last me c f x (lines.Grant s d g index expiry ∷ o) e = grants_by (same_node s me && (same_node d c && same_fid g f)) x expiry (unbroken_until me c f o) (promised_until me c f o) (unbroken_last me c f x o) e
unbroken_last me c f x (lines.Crash n ∷ o) e = unbroken_last me c f x o (not_none (same_node n me) x _ e)
unbroken_last me c f x (lines.Fault n ∷ o) e = unbroken_last me c f x o (not_none (same_node n me) x _ e)
unbroken_last me c f x (lines.Owe s d what n ∷ o) e = unbroken_last me c f x o (not_none (same_node s me && (same_node d c && is_on_object f what)) x _ e)
unbroken_last me c f x (l ∷ o) e = unbroken_last me c f x o e

-- it grants this client nothing
abbrev pub is_still_to : Node → Line → Bool
is_still_to c (lines.Grant s d f index expiry) = not (same_node d c)
is_still_to c l = true

granted_other : (a b : Bool) (s : Bool) (x : ℕ) (o : Option ℕ) → not a ≡ true → cond (s && (a && b)) (Some x) o ≡ o
granted_other true b s x o h = absurd cc
granted_other false b true x o h = refl
granted_other false b false x o h = refl

grant_before_to : (me : Node) (c : Node) (f : Fid) (l : Line) (o : List Line) → is_still_to c l ≡ true → promised_until me c f (l ∷ o) ≡ promised_until me c f o
grant_before_to me c f (lines.Grant s d g index expiry) o h = granted_other (same_node d c) (same_fid g f) (same_node s me) expiry (promised_until me c f o) h
grant_before_to me c f l o h = refl

pub grant_back_to : (me : Node) (c : Node) (f : Fid) (ls o : List Line) → all_lines (is_still_to c) ls ≡ true → promised_until me c f (onto o ls) ≡ promised_until me c f o
grant_back_to me c f [] o h = refl
grant_back_to me c f (l ∷ ls) o h = let q = both (is_still_to c l) (all_lines (is_still_to c) ls) h in grant_back_to me c f ls (l ∷ o) q.1 ∙ grant_before_to me c f l o q.0

change_before : (k : Key) (l : Line) (o : List Line) → is_unchanging l ≡ true → HasChange k (l ∷ o) → HasChange k o
change_before k (lines.Change s q count) o h x = absurd cc
change_before k l o h x = x

pub change_back : (k : Key) (ls o : List Line) → all_lines is_unchanging ls ≡ true → HasChange k (onto o ls) → HasChange k o
change_back k [] o h x = x
change_back k (l ∷ ls) o h x = let q = both (is_unchanging l) (all_lines is_unchanging ls) h in change_before k l o q.0 (change_back k ls (l ∷ o) q.1 x)

pub head_same : (x y : Line) (a b : List Line) → x ∷ a ≡ y ∷ b → x ≡ y
head_same x y a b e = cc

pub tail_same : (x y : Line) (a b : List Line) → x ∷ a ≡ y ∷ b → a ≡ b
tail_same x y a b e = cc

owe_not : (l : Line) (s c : Node) (what : Option Fid) (n : ℕ) → is_oweless l ≡ true → l ≡ lines.Owe s c what n → ⊥
owe_not l s c what n h e = let x : is_oweless l ≡ false = ap is_oweless e in absurd cc

pub no_owe : (ls before after : List Line) (s c : Node) (what : Option Fid) (n : ℕ) → all_lines is_oweless ls ≡ true → ls ≡ before ++ lines.Owe s c what n ∷ after → ⊥
no_owe [] [] after s c what n h e = absurd cc
no_owe [] (x ∷ before) after s c what n h e = absurd cc
no_owe (l ∷ ls) [] after s c what n h e = owe_not l s c what n (both (is_oweless l) (all_lines is_oweless ls) h).0 (head_same l _ ls after e)
no_owe (l ∷ ls) (x ∷ before) after s c what n h e = no_owe ls before after s c what n (both (is_oweless l) (all_lines is_oweless ls) h).1 (tail_same l x ls _ e)

-- ---- breaks that were owed

pub entry_same : (x y : Entry) (a b : List Entry) → x ∷ a ≡ y ∷ b → x ≡ y
entry_same x y a b e = cc

pub entries_same : (x y : Entry) (a b : List Entry) → x ∷ a ≡ y ∷ b → a ≡ b
entries_same x y a b e = cc

pub owes_over : (s : Node) (Q R : Owes) (e : Entry) (past : List Entry) → ((before after : List Line) (c : Node) (what : Option Fid) (n : ℕ) → e.lines ≡ before ++ lines.Owe s c what n ∷ after → R [] e past before after c what n)
    → ((newer : List Entry) (at : Entry) (older : List Entry) (before after : List Line) (c : Node) (what : Option Fid) (n : ℕ) → Q newer at older before after c what n → R (e ∷ newer) at older before after c what n) → AllOwes s Q past → AllOwes s R (e ∷ past)
owes_over s Q R e past new old h [] at older before after c what n split line =
    let a : e ≡ at = entry_same e at past older split in
    let b : past ≡ older = entries_same e at past older split in
    subst (λ (x : Entry). R [] x older before after c what n) a (subst (λ (x : List Entry). R [] e x before after c what n) b (new before after c what n (subst (λ (x : Entry). x.lines ≡ before ++ lines.Owe s c what n ∷ after) (sym a) line)))
owes_over s Q R e past new old h (x ∷ newer) at older before after c what n split line =
    let a : e ≡ x = entry_same e x past (newer ++ (at ∷ older)) split in
    let b : past ≡ newer ++ (at ∷ older) = entries_same e x past (newer ++ (at ∷ older)) split in
    subst (λ (z : Entry). R (z ∷ newer) at older before after c what n) a (old newer at older before after c what n (h newer at older before after c what n b line))

come_more : (o : Option ℕ) (t u : ℕ) → t ≤ u → HasCome o t → HasCome o u
come_more None t u le h = h
come_more (Some x) t u le h = le_trans h le

pub ended_over : (me : Node) (e : Entry) (t u : ℕ) (newer : List Entry) (at : Entry) (older : List Entry) (before after : List Line) (c : Node) (what : Option Fid) (n : ℕ) → t ≤ u → EndedBy me t newer at older before after c what n → EndedBy me u (e ∷ newer) at older before after c what n
ended_over me e t u newer at older before after c what n le (inl x) = inl (settled_onto me c n e.lines _ x)
ended_over me e t u newer at older before after c what n le (inr (inl x)) = inr (inl (stopped_onto me e.lines _ x))
ended_over me e t u newer at older before after c what n le (inr (inr x)) = inr (inr (come_more _ t u le x))

-- a reply that waits, over an entry that owes and changes nothing
waits_or : (me : Node) (h : Held) (e : Entry) (t u : ℕ) (newer : List Entry) (at : Entry) (older : List Entry) (before after : List Line) (c : Node) (what : Option Fid) (n : ℕ) → t ≤ u → EndedBy me t newer at older before after c what n ⊎ IsNumberIn n h.waits → EndedBy me u (e ∷ newer) at older before after c what n ⊎ IsNumberIn n h.waits
waits_or me h e t u newer at older before after c what n le (inl x) = inl (ended_over me e t u newer at older before after c what n le x)
waits_or me h e t u newer at older before after c what n le (inr x) = inr x

pub waits_over : (me : Node) (seats now : List Seat) (t u : ℕ) (e : Entry) (past : List Entry) (h : Held) → t ≤ u → (HasChange (key_answered h.reply) (lines_of (e ∷ past)) → HasChange (key_answered h.reply) (lines_of past) ⊎ Above (call_seat h.reply.head.to seats) h.reply.head.epoch h.reply.head.number)
    → ((before after : List Line) (c : Node) (what : Option Fid) (n : ℕ) → e.lines ≡ before ++ lines.Owe me c what n ∷ after → WaitedBy me h u [] e past before after c what n × (what ≡ None → ⊥))
    → ((m : Node) (x y : ℕ) → Above (call_seat m now) x y → Above (call_seat m seats) x y) → HeldWaits me seats t past h → HeldWaits me now u (e ∷ past) h
waits_over me seats now t u e past h le change new seat w = record {
  client = w.client;
  to = w.to;
  from = w.from;
  is_reply = w.is_reply;
  under = λ x. w.under (seat _ _ _ x);
  own = owes_over me (WaitedBy me h t) (WaitedBy me h u) e past (λ before after c what n line. (new before after c what n line).0) (λ newer at older before after c what n x boot y. waits_or me h e t u newer at older before after c what n le (x boot y)) w.own;
  all = λ x. elim (change x) [
    | inl y ↦ owes_over me (AllWaitedBy me h t) (AllWaitedBy me h u) e past (λ before after c what n line z. absurd ((new before after c what n line).1 z)) (λ newer at older before after c what n y z. waits_or me h e t u newer at older before after c what n le (y z)) (w.all y)
    | inr y ↦ absurd (w.under y)
  ];
}

-- ---- the server's own calls

-- an unanswered call was there before, or is a new one
abbrev pub CallsPass : (Node → Option BackCall) → ℕ → (Node → Option BackCall) → Type 0
CallsPass old last new = (j : Node) (c : BackCall) → new j ≡ Some c → (last < c.number) ⊎ ((x : BackCall) × ((old j ≡ Some x) × ((x.number ≡ c.number) × (x.content ≡ c.content))))

pub calls_same : (calls : Node → Option BackCall) (last : ℕ) → CallsPass calls last calls
calls_same calls last j c e = inr (c, (e, (refl, refl)))

pub front_onto : (a b ls : List Line) → onto (a ++ b) ls ≡ onto a ls ++ b
front_onto a b [] = refl
front_onto a b (l ∷ ls) = front_onto (l ∷ a) b ls

abbrev pub owe_over : (me : Node) (c : Node) (what : Option Fid) (n : ℕ) (e : Entry) (past : List Entry) → all_lines (is_up me) e.lines ≡ true → OweAt me c what n (lines_of past) → OweAt me c what n (lines_of (e ∷ past))
owe_over me c what n e past up o = record {
  newer = onto o.newer e.lines;
  base = o.base;
  split = ap (λ (ls : List Line). onto ls e.lines) o.split ∙ front_onto o.newer _ e.lines;
  up = λ x. o.up (stopped_back me e.lines o.newer up x);
}

-- the entry that first sent a call, over one entry more
abbrev pub first_over : (callee : Node) (k : Key) (user : List ℕ) (call : FsCall) (e : Entry) (past : List Entry) → FirstSent callee k user call past → FirstSent callee k user call (e ∷ past)
first_over callee k user call e past h = record { newer = e ∷ h.newer; at = h.at; older = h.older; split = ap (λ (p : List Entry). e ∷ p) h.split; sent = h.sent; first = h.first }

abbrev pub carried_over : (me j : Node) (epoch number : ℕ) (what : Option Fid) (n : ℕ) (e : Entry) (past : List Entry) → all_lines (is_up me) e.lines ≡ true → IsCarried me j epoch number what n past → IsCarried me j epoch number what n (e ∷ past)
carried_over me j epoch number what n e past up h = record {
  user = h.user;
  call = h.call;
  sent = first_over j (record { node = me; epoch = epoch; number = number }) h.user h.call e past h.sent;
  carries = h.carries;
  owe = h.owe;
  up = λ x. h.up (stopped_back me e.lines (lines_on [] h.sent.newer) up x);
}

pub dropped_over : (me : Node) (j : Node) (epoch number : ℕ) (e : Entry) (past : List Entry) (o : Owed) → all_lines (is_up me) e.lines ≡ true → DroppedOwe me j epoch number past o → DroppedOwe me j epoch number (e ∷ past) o
dropped_over me j epoch number e past o up d = record { carried = carried_over me j epoch number o.what o.number e past up d.carried; dropped = drop_onto me j o.what e.lines (lines_on [] d.carried.sent.newer) d.dropped }

-- what was owed before these entries, in which the server didn't stop, is owed behind them
stopped_either : (me : Node) (a b : List Line) → HasStopped me (a ++ b) → HasStopped me a ⊎ HasStopped me b
stopped_either me [] b h = inr h
stopped_either me (lines.Crash n ∷ a) b (inl e) = inl (inl e)
stopped_either me (lines.Crash n ∷ a) b (inr h) = elim (stopped_either me a b h) [ inl x ↦ inl (inr x) | inr x ↦ inr x ]
stopped_either me (lines.Fault n ∷ a) b (inl e) = inl (inl e)
stopped_either me (lines.Fault n ∷ a) b (inr h) = elim (stopped_either me a b h) [ inl x ↦ inl (inr x) | inr x ↦ inr x ]
stopped_either me (l ∷ a) b h = stopped_either me a b h

lines_front : (o : List Line) (newer older : List Entry) → lines_on o (newer ++ older) ≡ lines_on [] newer ++ lines_on o older
lines_front o [] older = refl
lines_front o (e ∷ newer) older = ap (λ (ls : List Line). onto ls e.lines) (lines_front o newer older) ∙ front_onto (lines_on [] newer) (lines_on o older) e.lines

pub owe_since : (me c : Node) (what : Option Fid) (n : ℕ) (past newer : List Entry) (at : Entry) (older : List Entry) → past ≡ newer ++ (at ∷ older) → (HasStopped me (lines_on [] newer) → ⊥) → OweAt me c what n (lines_of (at ∷ older)) → OweAt me c what n (lines_of past)
owe_since me c what n past newer at older split up o = record {
  newer = lines_on [] newer ++ o.newer;
  base = o.base;
  split = ap lines_of split ∙ (lines_front [] newer (at ∷ older) ∙ (ap (λ (ls : List Line). lines_on [] newer ++ ls) o.split ∙ sym (append_assoc (lines_on [] newer) o.newer (lines.Owe me c what n ∷ o.base))));
  up = λ x. elim (stopped_either me (lines_on [] newer) o.newer x) [ inl y ↦ up y | inr y ↦ o.up y ];
}

pub call_over : (me : Node) (j : Node) (c : BackCall) (last more boot : ℕ) (e : Entry) (past : List Entry) → last ≤ more → all_lines (is_up me) e.lines ≡ true → CallOut me j c last boot past → CallOut me j c more boot (e ∷ past)
call_over me j c last more boot e past le up h = record {
  number = le_trans h.number le;
  client = h.client;
  sent = first_over j (record { node = me; epoch = boot; number = c.number }) [] (breaks_call c.content) e past h.sent;
  up = λ x. h.up (stopped_back me e.lines (lines_on [] h.sent.newer) up x);
  tries = λ t a b. timeout_onto me j boot c.number t e.lines (lines_of past) (h.tries t a b);
  owes = h.owes;
  carries = h.carries;
}

below_not : (n last : ℕ) (c : BackCall) → last < c.number → n ≤ last → n ≡ c.number → ⊥
below_not n last c a b e = absurd (omega arith)

pub back_pass : (me : Node) (d e : Option Fall) (old new : Node → Option BackCall) (last more boot : ℕ) (head : Head) (user : List ℕ) (call : FsCall) → (e ≡ None → d ≡ None) → last ≤ more → CallsPass old last new → BackIn me d old last boot head user call → BackIn me e new more boot head user call
back_pass me d e old new last more boot head user call up le pass h = record {
  client = h.client;
  to = h.to;
  booted = h.booted;
  below = λ own x y. le_trans (h.below own (up x) y) le;
  is = λ c own x y at q. elim (pass h.client c at) [
    | inl l ↦ absurd (below_not head.number last c l (h.below own (up x) y) q)
    | inr z ↦ h.is z.0 own (up x) y z.1.0 (q ∙ sym z.1.1.0) ∙ ap breaks_call z.1.1.1
  ];
}

pub done_pass : (me : Node) (d e : Option Fall) (old new : Node → Option BackCall) (last more boot : ℕ) (past newer : List Entry) (j : Node) (epoch number : ℕ) → (e ≡ None → d ≡ None) → last ≤ more → CallsPass old last new → (e ≡ None → (o : Owed) → DroppedOwe me j epoch number past o → DroppedOwe me j epoch number newer o)
    → IsDone me d old last boot past j epoch number → IsDone me e new more boot newer j epoch number
done_pass me d e old new last more boot past newer j epoch number up le pass over h = record {
  booted = h.booted;
  below = λ x y. le_trans (h.below (up x) y) le;
  dropped = λ c x y at q. elim (pass j c at) [
    | inl l ↦ absurd (below_not number last c l (h.below (up x) y) q)
    | inr z ↦ all_map (DroppedOwe me j epoch number past) (DroppedOwe me j epoch number newer) (over x) c.content (subst (λ (os : List Owed). AllOf (DroppedOwe me j epoch number past) os) z.1.1.1 (h.dropped z.0 (up x) y z.1.0 (q ∙ sym z.1.1.0)))
  ];
}

-- ---- a step

-- a grant that lasts behind lines that grant nothing lasted before
none_or : (t : Bool) (o : Option ℕ) (x : ℕ) → cond t None o ≡ Some x → o ≡ Some x
none_or true o x e = absurd cc
none_or false o x e = e

live_before : (me : Node) (c : Node) (f : Fid) (x : ℕ) (l : Line) (o : List Line) → is_still l ≡ true → kept_until me c f (l ∷ o) ≡ Some x → kept_until me c f o ≡ Some x
live_before me c f x (lines.Grant s d g index expiry) o h e = absurd cc
live_before me c f x (lines.Crash n) o h e = none_or (same_node n me) _ x e
live_before me c f x (lines.Fault n) o h e = none_or (same_node n me) _ x e
live_before me c f x (lines.Drop m g) o h e = none_or (same_node m c && same_fid g f) _ x e
live_before me c f x (lines.DropAll m q) o h e = none_or (same_node m c && same_node q me) _ x e
live_before me c f x (lines.Owe q d w n) o h e = none_or (same_node q me && (same_node d c && is_on_object f w)) _ x e
live_before me c f x l o h e = e

pub live_back : (me : Node) (c : Node) (f : Fid) (x : ℕ) (ls o : List Line) → all_lines is_still ls ≡ true → kept_until me c f (onto o ls) ≡ Some x → kept_until me c f o ≡ Some x
live_back me c f x [] o h e = e
live_back me c f x (l ∷ ls) o h e = let q = both (is_still l) (all_lines is_still ls) h in live_before me c f x l o q.0 (live_back me c f x ls (l ∷ o) q.1 e)

-- what clients gave up grants nothing
drops_still : (c : Node) (fs : List Fid) → all_lines is_still (drops_of c fs) ≡ true
drops_still c [] = refl
drops_still c (f ∷ fs) = drops_still c fs

same_still : (t : Bool) (c : Node) (fs : List Fid) → all_lines is_still (cond t (drops_of c fs) []) ≡ true
same_still true c fs = drops_still c fs
same_still false c fs = refl

answered_still : (s : Node) (t : Bool) (head : Head) (c : Carried) → all_lines is_still (returned_by s t head c) ≡ true
answered_still s true head (carried.Call user (ask.File call)) = same_still (same_node head.to s) head.from (fids_given_up call)
answered_still s true head (carried.Call user (ask.Volume call)) = refl
answered_still s true head (carried.Call user (ask.Location call)) = refl
answered_still s true head (carried.Refusal code) = refl
answered_still s true head (carried.Reply reply) = refl
answered_still s true head carried.Notice = refl
answered_still s false head c = refl

returned_still : (s : Node) (e : Entry) (o : Option Message) (past : List Entry) → all_lines is_still (returned_in s e o past) ≡ true
returned_still s e None past = refl
returned_still s e (Some m) past = answered_still s (is_entry_of s e.actor && (runs_now s m.head past && has_answer (called_key m.head) e.sent)) m.head m.carried

-- a grant that lasts behind an entry's own lines lasted before what clients gave up in it
pub live_given : (me : Node) (c : Node) (f : Fid) (x : ℕ) (e : Entry) (past : List Entry) → kept_until me c f (onto (lines_with_gifts me past) (returned_in me e (given_message e.lines (sent_of past)) past)) ≡ Some x → kept_until me c f (lines_with_gifts me past) ≡ Some x
live_given me c f x e past l = live_back me c f x (returned_in me e (given_message e.lines (sent_of past)) past) (lines_with_gifts me past) (returned_still me e (given_message e.lines (sent_of past)) past) l

-- the lines before an entry's own
abbrev pub before_own : Node → Entry → List Entry → List Line
before_own me e past = onto (lines_with_gifts me past) (returned_in me e (given_message e.lines (sent_of past)) past)

pub promised_given : (me : Node) (d : Option Fall) (ps : List Promise) (clock : ℕ) (e : Entry) (past : List Entry) → Promised me d ps clock (lines_with_gifts me past) → Promised me d ps clock (before_own me e past)
promised_given me d ps clock e past h j f x l t = h j f x (live_given me j f x e past l) t

pub promised_over : (me : Node) (d : Option Fall) (ps : List Promise) (clock then : ℕ) (e : Entry) (past : List Entry) → all_lines is_still e.lines ≡ true → clock ≤ then → Promised me d ps clock (lines_with_gifts me past) → Promised me d ps then (lines_with_gifts me (e ∷ past))
promised_over me d ps clock then e past still le h j f x l t = h j f x (live_given me j f x e past (live_back me j f x e.lines (before_own me e past) still l)) (omega arith)

-- the breaks were owed in order
rising_before : (me : Node) (l : Line) (o : List Line) → is_oweless l ≡ true → Rising me o → Rising me (l ∷ o)
rising_before me (lines.Owe s c what n) o e h = absurd cc
rising_before me l o e h = h

pub rising_back : (me : Node) (ls o : List Line) → all_lines is_oweless ls ≡ true → Rising me o → Rising me (onto o ls)
rising_back me [] o e h = h
rising_back me (l ∷ ls) o e h = let q = both (is_oweless l) (all_lines is_oweless ls) e in rising_back me ls (l ∷ o) q.1 (rising_before me l o q.0 h)

pub rising_over : (me : Node) (e : Entry) (past : List Entry) → all_lines is_oweless e.lines ≡ true → Rising me (lines_of past) → Rising me (lines_of (e ∷ past))
rising_over me e past oweless h = rising_back me e.lines (lines_of past) oweless h

-- none lasts where the server stopped
stop_none : (me : Node) (t : Bool) (n : Node) (o : Option ℕ) (x : ℕ) → same_node n me ≡ t → n ≡ me → cond t None o ≡ Some x → ⊥
stop_none me true n o x t e l = absurd cc
stop_none me false n o x t e l = let yes : same_node n me ≡ true = ap (λ (m : Node). same_node m me) e ∙ same_node-refl me in absurd cc

stop_line : (me : Node) (c : Node) (f : Fid) (x : ℕ) (l : Line) (o p : List Line) → is_still l ≡ true → (HasStopped me p → kept_until me c f o ≡ Some x → ⊥) → HasStopped me (l ∷ p) → kept_until me c f (l ∷ o) ≡ Some x → ⊥
stop_line me c f x (lines.Crash n) o p h w (inl e) k = stop_none me (same_node n me) n _ x refl e k
stop_line me c f x (lines.Crash n) o p h w (inr s) k = w s (none_or (same_node n me) _ x k)
stop_line me c f x (lines.Fault n) o p h w (inl e) k = stop_none me (same_node n me) n _ x refl e k
stop_line me c f x (lines.Fault n) o p h w (inr s) k = w s (none_or (same_node n me) _ x k)
stop_line me c f x l o p h w s k = w s (live_before me c f x l o h k)

live_stop : (me : Node) (c : Node) (f : Fid) (x : ℕ) (ls o p : List Line) → all_lines is_still ls ≡ true → (HasStopped me p → kept_until me c f o ≡ Some x → ⊥) → HasStopped me (onto p ls) → kept_until me c f (onto o ls) ≡ Some x → ⊥
live_stop me c f x [] o p h w s k = w s k
live_stop me c f x (l ∷ ls) o p h w s k = let q = both (is_still l) (all_lines is_still ls) h in live_stop me c f x ls (l ∷ o) (l ∷ p) q.1 (λ y z. stop_line me c f x l o p q.0 w y z) s k

-- numbers over lines that owe nothing
up_by : (t : Bool) (n : Node) (a : ℕ) → not t ≡ true → cond t 0 a ≡ a
up_by true n a h = absurd cc
up_by false n a h = refl

number_before : (me : Node) (l : Line) (o : List Line) → is_up me l ≡ true → is_oweless l ≡ true → last_number me (l ∷ o) ≡ last_number me o
number_before me (lines.Owe q d w n) o u h = absurd cc
number_before me (lines.Crash n) o u h = up_by (same_node n me) n _ u
number_before me (lines.Fault n) o u h = up_by (same_node n me) n _ u
number_before me l o u h = refl

pub number_back : (me : Node) (ls o : List Line) → all_lines (is_up me) ls ≡ true → all_lines is_oweless ls ≡ true → last_number me (onto o ls) ≡ last_number me o
number_back me [] o u h = refl
number_back me (l ∷ ls) o u h = let p = both (is_up me l) (all_lines (is_up me) ls) u in let q = both (is_oweless l) (all_lines is_oweless ls) h in number_back me ls (l ∷ o) p.1 q.1 ∙ number_before me l o p.0 q.0

pub numbered_over : (me : Node) (d : Option Fall) (last : ℕ) (e : Entry) (past : List Entry) → all_lines (is_up me) e.lines ≡ true → all_lines is_oweless e.lines ≡ true → Numbered me d last (lines_of past) → Numbered me d last (lines_of (e ∷ past))
numbered_over me None last e past u h n = number_back me e.lines (lines_of past) u h ∙ n
numbered_over me (Some fall) last e past u h n = number_back me e.lines (lines_of past) u h ∙ n

-- a stop ends the numbers
zero_by : (t : Bool) (a : ℕ) → a ≡ 0 → cond t 0 a ≡ 0
zero_by true a h = refl
zero_by false a h = h

zero_before : (me : Node) (l : Line) (o : List Line) → is_oweless l ≡ true → last_number me o ≡ 0 → last_number me (l ∷ o) ≡ 0
zero_before me (lines.Owe q d w n) o h z = absurd cc
zero_before me (lines.Crash n) o h z = zero_by (same_node n me) _ z
zero_before me (lines.Fault n) o h z = zero_by (same_node n me) _ z
zero_before me l o h z = z

pub zero_back : (me : Node) (ls o : List Line) → all_lines is_oweless ls ≡ true → last_number me o ≡ 0 → last_number me (onto o ls) ≡ 0
zero_back me [] o h z = z
zero_back me (l ∷ ls) o h z = let q = both (is_oweless l) (all_lines is_oweless ls) h in zero_back me ls (l ∷ o) q.1 (zero_before me l o q.0 z)

zero_stop : (me : Node) (t : Bool) (n : Node) (a : ℕ) → same_node n me ≡ t → n ≡ me → cond t 0 a ≡ 0
zero_stop me true n a t e = refl
zero_stop me false n a t e = let yes : same_node n me ≡ true = ap (λ (m : Node). same_node m me) e ∙ same_node-refl me in absurd cc

zero_line : (me : Node) (l : Line) (o p : List Line) → is_oweless l ≡ true → (HasStopped me p → last_number me o ≡ 0) → HasStopped me (l ∷ p) → last_number me (l ∷ o) ≡ 0
zero_line me (lines.Crash n) o p h w (inl e) = zero_stop me (same_node n me) n _ refl e
zero_line me (lines.Crash n) o p h w (inr s) = zero_by (same_node n me) _ (w s)
zero_line me (lines.Fault n) o p h w (inl e) = zero_stop me (same_node n me) n _ refl e
zero_line me (lines.Fault n) o p h w (inr s) = zero_by (same_node n me) _ (w s)
zero_line me l o p h w s = zero_before me l o h (w s)

zero_stopped : (me : Node) (ls o p : List Line) → all_lines is_oweless ls ≡ true → (HasStopped me p → last_number me o ≡ 0) → HasStopped me (onto p ls) → last_number me (onto o ls) ≡ 0
zero_stopped me [] o p h w s = w s
zero_stopped me (l ∷ ls) o p h w s = let q = both (is_oweless l) (all_lines is_oweless ls) h in zero_stopped me ls (l ∷ o) (l ∷ p) q.1 (λ y. zero_line me l o p q.0 w y) s

numbered_fall : (me : Node) (d : Option Fall) (last : ℕ) (e : Entry) (past : List Entry) → all_lines is_oweless e.lines ≡ true → (d ≡ None → (o : List Line) → HasStopped me (onto o e.lines)) → Numbered me d last (lines_of past) → last_number me (lines_of (e ∷ past)) ≡ 0
numbered_fall me None last e past h stop n = zero_stopped me e.lines (lines_of past) [] h (λ y. absurd y) (stop refl [])
numbered_fall me (Some fall) last e past h stop n = zero_back me e.lines (lines_of past) h n

pub record Stepping (me : Node) (d u : Option Fall) (b now : Backs) (clock then : ℕ) (e : Entry) (past : List Entry) : Type 0 where
  pub was_up : u ≡ None → d ≡ None
  pub up : u ≡ None → all_lines (is_up me) e.lines ≡ true
  pub or_stopped : d ≡ None → (u ≡ None) ⊎ ((o : List Line) → HasStopped me (onto o e.lines))
  pub later : clock ≤ then
  pub new : (before after : List Line) (c : Node) (what : Option Fid) (n : ℕ) → e.lines ≡ before ++ lines.Owe me c what n ∷ after → AccountedBy me u now.lists.owed now.held then [] e past before after c what n
  pub gone : (o : Owed) → IsIn o b.lists.owed → IsIn o now.lists.owed ⊎ ((l : List Line) → HasSettled me o.client o.number (onto l e.lines))
  pub held : (k : Key) → is_held k b.held ≡ true → is_held k now.held ≡ true
  pub last : b.last_call ≤ now.last_call
  pub calls : CallsPass b.calls b.last_call now.calls

open_over : (me : Node) (d u : Option Fall) (b now : Backs) (clock then : ℕ) (e : Entry) (past : List Entry) → Stepping me d u b now clock then e past → (newer : List Entry) (at : Entry) (older : List Entry) (before after : List Line) (c : Node) (what : Option Fid) (n : ℕ)
    → AccountedBy me d b.lists.owed b.held clock newer at older before after c what n → AccountedBy me u now.lists.owed now.held then (e ∷ newer) at older before after c what n
open_over me d u b now clock then e past s newer at older before after c what n (inl x) = inl (ended_over me e clock then newer at older before after c what n s.later x)
open_over me d u b now clock then e past s newer at older before after c what n (inr x) = elim (s.or_stopped x.0) [
  | inl up ↦ elim (s.gone x.1.o x.1.is_in) [
    | inl is ↦ inr (up, record { o = x.1.o; is_in = is; number = x.1.number; client = x.1.client; on = x.1.on; expiry = x.1.expiry; waits = λ k boot y. elim (x.1.waits k boot y) [ inl z ↦ inl (ended_over me e clock then newer at older before after c what n s.later z) | inr z ↦ inr (s.held k z) ] })
    | inr gone ↦ inl (inl (subst (λ (m : Node). HasSettled me m n (onto (lines_on (onto [] after) newer) e.lines)) x.1.client (subst (λ (k : ℕ). HasSettled me x.1.o.client k (onto (lines_on (onto [] after) newer) e.lines)) x.1.number (gone _))))
  ]
  | inr stop ↦ inl (inr (inl (stop _)))
]

pub backed_step : (me : Node) (d u : Option Fall) (b now : Backs) (boot : ℕ) (seats after : List Seat) (cs cz : ℕ → Option Seat) (clock then : ℕ) (sent ms : List Message) (e : Entry) (past : List Entry) → Stepping me d u b now clock then e past → BackedIn me d b boot seats cs clock sent past
    → (u ≡ None → AllOf (IsGranted me (lines_of (e ∷ past))) now.lists.promises) → Promised me u now.lists.promises then (lines_with_gifts me (e ∷ past)) → Numbered me u now.lists.last_owed (lines_of (e ∷ past)) → Rising me (lines_of (e ∷ past)) → (u ≡ None → ToClients now.lists.promises now.lists.owed) → (u ≡ None → AllOf (λ (o : Owed). IsOwed me o.client (lines_of (e ∷ past)) o) now.lists.owed) → (u ≡ None → AllOf (HeldWaits me after then (e ∷ past)) now.held) → (u ≡ None → (j : Node) (c : BackCall) → now.calls j ≡ Some c → CallOut me j c now.last_call boot (e ∷ past))
    → Each (IfBack (BackIn me u now.calls now.last_call boot)) ms → Each (IfDone (DoneIn me u now.calls now.last_call boot (e ∷ past))) ms
    → ((j : ℕ) (seat : Seat) (m : Message) → cz j ≡ Some seat → seat.reply ≡ Some m → SeatedIn me u now.calls now.last_call boot (e ∷ past) j m)
    → BackedIn me u now boot after cz then (sent ++ ms) (e ∷ past)
backed_step me d u b now boot seats after cs cz clock then sent ms e past s h granted promised numbered rising clients owed waiting outs backs dones seated = record {
  granted = granted;
  promised = promised;
  numbered = numbered;
  rising = rising;
  clients = clients;
  owing = owed;
  accounted = owes_over me (AccountedBy me d b.lists.owed b.held clock) (AccountedBy me u now.lists.owed now.held then) e past s.new (open_over me d u b now clock then e past s) h.accounted;
  waiting = waiting;
  outs = outs;
  calls = each_more (IfBack (BackIn me u now.calls now.last_call boot)) sent ms (each_map (IfBack (BackIn me d b.calls b.last_call boot)) (IfBack (BackIn me u now.calls now.last_call boot)) (if_back (BackIn me d b.calls b.last_call boot) (BackIn me u now.calls now.last_call boot)
      (λ head user call x. back_pass me d u b.calls now.calls b.last_call now.last_call boot head user call s.was_up s.last s.calls x)) sent h.calls) backs;
  dones = each_more (IfDone (DoneIn me u now.calls now.last_call boot (e ∷ past))) sent ms (each_map (IfDone (DoneIn me d b.calls b.last_call boot past)) (IfDone (DoneIn me u now.calls now.last_call boot (e ∷ past))) (if_done (DoneIn me d b.calls b.last_call boot past) (DoneIn me u now.calls now.last_call boot (e ∷ past))
      (λ m x. record { client = x.client; from = x.from; done = λ own. done_pass me d u b.calls now.calls b.last_call now.last_call boot past (e ∷ past) x.client m.head.epoch m.head.number s.was_up s.last s.calls (λ y o z. dropped_over me x.client m.head.epoch m.head.number e past o (s.up y) z) (x.done own) })) sent h.dones) dones;
  seated = seated;
}

-- what a client keeps for the server passes likewise
pub seated_over : (me : Node) (d u : Option Fall) (b now : Backs) (boot clock then : ℕ) (e : Entry) (past : List Entry) → Stepping me d u b now clock then e past → (j : ℕ) (m : Message) → SeatedIn me d b.calls b.last_call boot past j m → SeatedIn me u now.calls now.last_call boot (e ∷ past) j m
seated_over me d u b now boot clock then e past s j m x = record {
  to = x.to;
  from = x.from;
  is_reply = x.is_reply;
  done = done_pass me d u b.calls now.calls b.last_call now.last_call boot past (e ∷ past) (Client j) m.head.epoch m.head.number s.was_up s.last s.calls (λ y o z. dropped_over me (Client j) m.head.epoch m.head.number e past o (s.up y) z) x.done;
}

-- ---- a step that leaves what the server has in memory

pub plain_step : (me : Node) (d : Option Fall) (b : Backs) (clock then : ℕ) (e : Entry) (past : List Entry) → Plain me e.lines → clock ≤ then → Stepping me d d b b clock then e past
plain_step me d b clock then e past p le = record {
  was_up = λ x. x;
  up = λ x. p.up;
  or_stopped = λ x. inl x;
  later = le;
  new = λ before after c what n line. absurd (no_owe e.lines before after me c what n p.oweless line);
  gone = λ o x. inl x;
  held = λ k x. x;
  last = le_refl _;
  calls = calls_same b.calls b.last_call;
}

pub plain_waits : (me : Node) (seats now : List Seat) (t u : ℕ) (e : Entry) (past : List Entry) (h : Held) → Plain me e.lines → t ≤ u → ((m : Node) (x y : ℕ) → Above (call_seat m now) x y → Above (call_seat m seats) x y) → HeldWaits me seats t past h → HeldWaits me now u (e ∷ past) h
plain_waits me seats now t u e past h p le seat w = waits_over me seats now t u e past h le (λ x. inl (change_back (key_answered h.reply) e.lines (lines_of past) p.unchanging x)) (λ before after c what n line. absurd (no_owe e.lines before after me c what n p.oweless line)) seat w

pub granted_over : (me : Node) (e : Entry) (past : List Entry) (ps : List Promise) → all_lines is_still e.lines ≡ true → all_lines (is_up me) e.lines ≡ true → all_lines is_oweless e.lines ≡ true → AllOf (IsGranted me (lines_of past)) ps → AllOf (IsGranted me (lines_of (e ∷ past))) ps
granted_over me e past ps still up oweless h = all_map (IsGranted me (lines_of past)) (IsGranted me (lines_of (e ∷ past))) (λ p x. unbroken_back me p.client p.fid e.lines (lines_of past) still up oweless ∙ x) ps h

pub owed_over : (me : Node) (e : Entry) (past : List Entry) (os : List Owed) → all_lines (is_up me) e.lines ≡ true → AllOf (λ (o : Owed). IsOwed me o.client (lines_of past) o) os → AllOf (λ (o : Owed). IsOwed me o.client (lines_of (e ∷ past)) o) os
owed_over me e past os up h = all_map (λ (o : Owed). IsOwed me o.client (lines_of past) o) (λ (o : Owed). IsOwed me o.client (lines_of (e ∷ past)) o) (λ o x. owe_over me o.client o.what o.number e past up x) os h

-- a client's step, or one of nobody: the clock may rise
pub backed_plain : (me : Node) (d : Option Fall) (b : Backs) (boot : ℕ) (seats : List Seat) (cs cz : ℕ → Option Seat) (clock then : ℕ) (sent ms : List Message) (e : Entry) (past : List Entry) → Plain me e.lines → clock ≤ then → BackedIn me d b boot seats cs clock sent past
    → Each (IfBack (BackIn me d b.calls b.last_call boot)) ms → Each (IfDone (DoneIn me d b.calls b.last_call boot (e ∷ past))) ms
    → ((j : ℕ) (seat : Seat) (m : Message) → cz j ≡ Some seat → seat.reply ≡ Some m → SeatedIn me d b.calls b.last_call boot (e ∷ past) j m) → BackedIn me d b boot seats cz then (sent ++ ms) (e ∷ past)
backed_plain me d b boot seats cs cz clock then sent ms e past p le h backs dones seated =
    let s : Stepping me d d b b clock then e past = plain_step me d b clock then e past p le in
    backed_step me d d b b boot seats seats cs cz clock then sent ms e past s h (λ x. granted_over me e past b.lists.promises p.still p.up p.oweless (h.granted x)) (promised_over me d b.lists.promises clock then e past p.still le h.promised) (numbered_over me d b.lists.last_owed e past p.up p.oweless h.numbered) (rising_over me e past p.oweless h.rising) h.clients (λ x. owed_over me e past b.lists.owed p.up (h.owing x))
    (λ x. all_map (HeldWaits me seats clock past) (HeldWaits me seats then (e ∷ past)) (λ q y. plain_waits me seats seats clock then e past q p le (λ m a c z. z) y) b.held (h.waiting x))
    (λ x j c at. call_over me j c b.last_call b.last_call boot e past (le_refl _) p.up (h.outs x j c at)) backs dones seated

-- the server is down, or goes down
pub backed_fall : (me : Node) (d : Option Fall) (fall : Fall) (b : Backs) (boot : ℕ) (seats after : List Seat) (cs : ℕ → Option Seat) (clock : ℕ) (sent : List Message) (e : Entry) (past : List Entry) → all_lines is_oweless e.lines ≡ true → all_lines is_still e.lines ≡ true → (d ≡ None → (o : List Line) → HasStopped me (onto o e.lines)) → BackedIn me d b boot seats cs clock sent past
    → BackedIn me (Some fall) b boot after cs clock (sent ++ []) (e ∷ past)
backed_fall me d fall b boot seats after cs clock sent e past oweless still stop h =
    let s : Stepping me d (Some fall) b b clock clock e past = record {
      was_up = λ x. absurd cc;
      up = λ x. absurd cc;
      or_stopped = λ x. inr (stop x);
      later = le_refl _;
      new = λ before after c what n line. absurd (no_owe e.lines before after me c what n oweless line);
      gone = λ o x. inl x;
      held = λ k x. x;
      last = le_refl _;
      calls = calls_same b.calls b.last_call;
    } in
    backed_step me d (Some fall) b b boot seats after cs cs clock clock sent [] e past s h (λ x. absurd cc)
    (λ j f x l t. absurd (live_stop me j f x e.lines (before_own me e past) [] still (λ y z. y) (stop (h.promised j f x (live_given me j f x e past (live_back me j f x e.lines (before_own me e past) still l)) t).0 []) l)) (numbered_fall me d b.lists.last_owed e past oweless stop h.numbered) (rising_over me e past oweless h.rising) (λ x. absurd cc) (λ x. absurd cc) (λ x. absurd cc) (λ x. absurd cc) tt tt (λ j seat m x y. seated_over me d (Some fall) b b boot clock clock e past s j m (h.seated j seat m x y))
