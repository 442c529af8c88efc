-- What holds of the breaks that a server owes, and of its own calls that carry them; and how that passes over an entry.
use Rattle.spec_model.specs.Calls.{same_key}
use Rattle.std.proofs.Common.{◌≡◌, ℕ, zero, suc, ◌+◌, ◌<◌, ◌≤◌, inl, inr, Bool, true, false, cond, List, [], ◌∷◌, ◌++◌, Option, Some, None, refl, sym, ap, subst, ◌∙◌, arith}
use Rattle.std.specs.Prelude.{⊤, filter, map, not}
use Rattle.std.proofs.Math.Nat.{le_refl, le_trans}
use Rattle.afs_num.specs.Nodes.{same_node}
use Rattle.afs_num.specs.declared.calls.FsCall.{FsCall}
use Rattle.afs_num.specs.declared.messages.Call.TheVariants as ask
use Rattle.afs_num.specs.declared.messages.Carried.{Carried}
use Rattle.afs_num.specs.declared.messages.Carried.TheVariants as carried
use Rattle.afs_num.specs.declared.messages.Message.{Message}
use Rattle.afs_num.specs.declared.types.Fid.{Fid}
use Rattle.afs_num.specs.declared.types.Head.{Head}
use Rattle.afs_num.specs.declared.types.Key.{Key}
use Rattle.afs_num.specs.declared.types.Node.{Node}
use Rattle.spec_history.specs.declared.lines.Line.{Line}
use Rattle.spec_breaks.specs.declared.types.OwedBreak.{OwedBreak}
use Rattle.law_legal.proofs.OwedPasses.{all_lines, first_over, front_onto, is_up, owed_over, stopped_back, timeout_onto}
use Rattle.law_legal.proofs.BaseLaws.{a_key, both, same_key-true, same_node-true}
use Rattle.law_legal.proofs.OwedFacts.{all_both, all_map, AllOf, IsOwed}
use Rattle.law_legal.proofs.OwedTurns.{put_call}
use Rattle.law_legal.specs.Breaks.{CarriesBreak, FirstSent, HasStopped, HasTimeout, NamesIn}
use Rattle.law_legal.specs.Past.{called_key, has_sent, is_called, lines_of, lines_on, onto, sent_of, SendsTo}
use Rattle.spec_rows.specs.Callbacks.{break_message, breaks_call, break_call, carries_for, fid_before, fids_of, first_breaks, is_all, is_break_for, most_breaks, owe_line, started_call, starts, starts_by, Started}
use Rattle.spec_rows.specs.Hosts.{Fall}
use Rattle.spec_rows.specs.Runs.{Entry}
use Rattle.spec_rows.specs.States.{BackCall, Backs}

-- ---- the calls that a server made

abbrev pub is_file_call : Carried → Bool
is_file_call (carried.Call user (ask.File call)) = true
is_file_call c = false

-- a reply, a notice, or a call of another interface
abbrev pub IsNoCall : Message → Type 0
IsNoCall m = is_file_call m.carried ≡ false

-- A file call of this server was made in this boot or in an earlier one. Its number in this boot isn't above the last, while the server is up.
abbrev pub IsKnownBy : Node → Option Fall → ℕ → ℕ → Head → Bool → Type 0
IsKnownBy me d last boot head true = head.from ≡ me → (head.epoch ≤ boot) × (d ≡ None → head.epoch ≡ boot → head.number ≤ last)
IsKnownBy me d last boot head false = ⊤

abbrev pub IsKnown : Node → Option Fall → ℕ → ℕ → Message → Type 0
IsKnown me d last boot m = IsKnownBy me d last boot m.head (is_file_call m.carried)

known_by : (b : Bool) (me : Node) (d : Option Fall) (last boot : ℕ) (head : Head) → b ≡ false → IsKnownBy me d last boot head b
known_by true me d last boot head h = absurd cc
known_by false me d last boot head h = tt

pub no_call_known : (me : Node) (d : Option Fall) (last boot : ℕ) (m : Message) → IsNoCall m → IsKnown me d last boot m
no_call_known me d last boot m h = known_by (is_file_call m.carried) me d last boot m.head h

more_by : (b : Bool) (me : Node) (last more boot : ℕ) (head : Head) → last ≤ more → IsKnownBy me None last boot head b → IsKnownBy me None more boot head b
more_by true me last more boot head le h = λ own. ((h own).0, λ up same. le_trans ((h own).1 up same) le)
more_by false me last more boot head le h = tt

pub known_more : (me : Node) (last more boot : ℕ) (ms : List Message) → last ≤ more → AllOf (IsKnown me None last boot) ms → AllOf (IsKnown me None more boot) ms
known_more me last more boot ms le h = all_map (IsKnown me None last boot) (IsKnown me None more boot) (λ m k. more_by (is_file_call m.carried) me last more boot m.head le k) ms h

-- ---- a call under the next number wasn't sent

apart_by : (t : Bool) (me : Node) (last boot n : ℕ) (head : Head) → last < n → same_key (called_key head) (a_key me boot n) ≡ t → IsKnownBy me None last boot head true → t ≡ false
apart_by false me last boot n head lt e h = refl
apart_by true me last boot n head lt e h =
    let same : called_key head ≡ a_key me boot n = same_key-true _ _ e in
    let low : head.number ≤ last = (h (ap (λ (k : Key). k.node) same)).1 refl (ap (λ (k : Key). k.epoch) same) in
    let high : head.number ≡ n = ap (λ (k : Key). k.number) same in
    absurd (omega arith)

uncalled : (me : Node) (last boot n : ℕ) (head : Head) (x : Carried) → last < n → IsKnownBy me None last boot head (is_file_call x) → is_called (a_key me boot n) head x ≡ false
uncalled me last boot n head (carried.Call user (ask.File call)) lt h = apart_by (same_key (called_key head) (a_key me boot n)) me last boot n head lt refl h
uncalled me last boot n head (carried.Call user (ask.Volume call)) lt h = refl
uncalled me last boot n head (carried.Call user (ask.Location call)) lt h = refl
uncalled me last boot n head (carried.Refusal code) lt h = refl
uncalled me last boot n head (carried.Reply reply) lt h = refl
uncalled me last boot n head carried.Notice lt h = refl

unsent : (me : Node) (last boot n : ℕ) (ms : List Message) → last < n → AllOf (IsKnown me None last boot) ms → has_sent (a_key me boot n) ms ≡ false
unsent me last boot n [] lt h = refl
unsent me last boot n (m ∷ ms) lt h = rw (uncalled me last boot n m.head m.carried lt h.0, unsent me last boot n ms lt h.1) refl

-- ---- an unanswered call

-- it was first sent when its breaks were owed, the server didn't stop since, and each timeout of it was told
pub record Out (me j : Node) (c : BackCall) (last boot : ℕ) (es : List Entry) : Type 0 where
  pub number : c.number ≤ last
  pub sent : FirstSent j (a_key me boot c.number) [] (breaks_call c.content) es
  pub up : HasStopped me (lines_on [] sent.newer) → ⊥
  pub tries : (t : ℕ) → 1 ≤ t → t ≤ c.tries → HasTimeout me j boot c.number t (lines_of es)
  pub owes : AllOf (IsOwed me j (lines_of (sent.at ∷ sent.older))) c.content
  pub carries : AllOf (λ (o : OwedBreak). CarriesBreak (breaks_call c.content) o.what) c.content

pub out_more : (me j : Node) (c : BackCall) (last more boot : ℕ) (es : List Entry) → last ≤ more → Out me j c last boot es → Out me j c more boot es
out_more me j c last more boot es le h = record { number = le_trans h.number le; sent = h.sent; up = h.up; tries = h.tries; owes = h.owes; carries = h.carries }

pub out_over : (me j : Node) (c : BackCall) (last boot : ℕ) (e : Entry) (es : List Entry) → all_lines (is_up me) e.lines ≡ true → Out me j c last boot es → Out me j c last boot (e ∷ es)
out_over me j c last boot e es up h = record {
  number = h.number;
  sent = first_over j (a_key me boot c.number) [] (breaks_call c.content) e es h.sent;
  up = λ x. h.up (stopped_back me e.lines (lines_on [] h.sent.newer) up x);
  tries = λ t a b. timeout_onto me j boot c.number t e.lines (lines_of es) (h.tries t a b);
  owes = h.owes;
  carries = h.carries;
}

-- ---- no call under the key of an unanswered one carries anything else

-- a file call to this node under this key carries this
abbrev pub CarriesThis : Node → Key → FsCall → Message → Type 0
CarriesThis j k call m = is_file_call m.carried ≡ true → m.head.to ≡ j → called_key m.head ≡ k → m.carried ≡ carried.Call [] (ask.File call)

-- so it is of each of these messages, for each unanswered call
abbrev pub Alone : Node → ℕ → Backs → List Message → Type 0
Alone me boot b ms = (j : Node) (c : BackCall) → b.calls j ≡ Some c → AllOf (CarriesThis j (a_key me boot c.number) (breaks_call c.content)) ms

pub no_call_this : (j : Node) (k : Key) (call : FsCall) (m : Message) → IsNoCall m → CarriesThis j k call m
no_call_this j k call m h is to under = let no : true ≡ false = sym is ∙ h in absurd cc

-- what was sent before a number was drawn isn't under that number
below_this : (me j : Node) (last boot n : ℕ) (call : FsCall) (m : Message) → last < n → IsKnown me None last boot m → CarriesThis j (a_key me boot n) call m
below_this me j last boot n call m lt h is to under =
    let known : IsKnownBy me None last boot m.head true = subst (IsKnownBy me None last boot m.head) is h in
    let low : m.head.number ≤ last = (known (ap (λ (x : Key). x.node) under)).1 refl (ap (λ (x : Key). x.epoch) under) in
    let high : m.head.number ≡ n = ap (λ (x : Key). x.number) under in
    absurd (omega arith)

all_below : (me j : Node) (last boot n : ℕ) (call : FsCall) (ms : List Message) → last < n → AllOf (IsKnown me None last boot) ms → AllOf (CarriesThis j (a_key me boot n) call) ms
all_below me j last boot n call ms lt h = all_map (IsKnown me None last boot) (CarriesThis j (a_key me boot n) call) (λ m k. below_this me j last boot n call m lt k) ms h

-- ---- what a server that is up owes

pub record Owes (me : Node) (boot : ℕ) (b : Backs) (es : List Entry) : Type 0 where
  pub owing : AllOf (λ (o : OwedBreak). IsOwed me o.client (lines_of es) o) b.lists.owed
  pub outs : (j : Node) (c : BackCall) → b.calls j ≡ Some c → Out me j c b.last_call boot es

pub owes_over : (me : Node) (boot : ℕ) (b : Backs) (e : Entry) (es : List Entry) → all_lines (is_up me) e.lines ≡ true → Owes me boot b es → Owes me boot b (e ∷ es)
owes_over me boot b e es up h = record { owing = owed_over me e es b.lists.owed up h.owing; outs = λ j c at. out_over me j c b.last_call boot e es up (h.outs j c at) }

-- new breaks stand where the entry tells them last
owes_at : (me : Node) (os : List OwedBreak) (base : List Line) → AllOf (λ (o : OwedBreak). IsOwed me o.client (onto base (map (owe_line me) os)) o) os
owes_at me [] base = tt
owes_at me (o ∷ os) base = (
  record { newer = onto [] (map (owe_line me) os); base = base; split = front_onto [] (owe_line me o ∷ base) (map (owe_line me) os); up = λ x. stopped_back me (map (owe_line me) os) [] (told_up os) x },
  owes_at me os (owe_line me o ∷ base),
)
  where
    told_up : (xs : List OwedBreak) → all_lines (is_up me) (map (owe_line me) xs) ≡ true
    told_up [] = refl
    told_up (x ∷ xs) = told_up xs

pub new_owed : (me : Node) (os : List OwedBreak) (base : List Line) (es : List Entry) → lines_of es ≡ onto base (map (owe_line me) os) → AllOf (λ (o : OwedBreak). IsOwed me o.client (lines_of es) o) os
new_owed me os base es is = subst (λ (ls : List Line). AllOf (λ (o : OwedBreak). IsOwed me o.client ls o) os) (sym is) (owes_at me os base)

-- ---- what a new call carries

names_more : (f g : Fid) (w : Option Fid) (fs : List Fid) → NamesIn w fs → NamesIn w (g ∷ fs)
names_more f g None fs h = h
names_more f g (Some x) fs h = inr h

head_named : (w : Option Fid) (fs : List Fid) → is_all w ≡ false → NamesIn w (fid_before w fs)
head_named None fs h = absurd cc
head_named (Some f) fs h = inl refl

tail_named : (v w : Option Fid) (fs : List Fid) → NamesIn v fs → NamesIn v (fid_before w fs)
tail_named v None fs h = h
tail_named v (Some g) fs h = names_more g g v fs h

abbrev IsOnFid : OwedBreak → Type 0
IsOnFid o = is_all o.what ≡ false

all_named : (os : List OwedBreak) → AllOf IsOnFid os → AllOf (λ (o : OwedBreak). NamesIn o.what (fids_of os)) os
all_named [] h = tt
all_named (o ∷ os) h =
    (head_named o.what (fids_of os) h.0, all_map (λ (x : OwedBreak). NamesIn x.what (fids_of os)) (λ (x : OwedBreak). NamesIn x.what (fid_before o.what (fids_of os))) (λ x y. tail_named x.what o.what (fids_of os) y) os (all_named os h.1))

carried_by : (w : Option Fid) (os xs : List OwedBreak) → is_all w ≡ false → AllOf (λ (o : OwedBreak). NamesIn o.what (fids_of os)) xs → AllOf (λ (o : OwedBreak). CarriesBreak (break_call w os) o.what) xs
carried_by None os xs h k = absurd cc
carried_by (Some f) os xs h k = k

all_carried : (os : List OwedBreak) → AllOf IsOnFid os → AllOf (λ (o : OwedBreak). CarriesBreak (breaks_call os) o.what) os
all_carried [] h = tt
all_carried (o ∷ os) h = carried_by o.what (o ∷ os) (o ∷ os) h.0 (all_named (o ∷ os) h)

all_first : (P : OwedBreak → Type 0) (k : ℕ) (os : List OwedBreak) → AllOf P os → AllOf P (first_breaks k os)
all_first P zero os h = tt
all_first P (suc k) [] h = tt
all_first P (suc k) (o ∷ os) h = (h.0, all_first P k os h.1)

picked_by : (P Q : OwedBreak → Type 0) (t : Bool) (o : OwedBreak) (os : List OwedBreak) → (t ≡ true → P o → Q o) → P o → AllOf Q os → AllOf Q (cond t (o ∷ os) os)
picked_by P Q true o os w h k = (w refl h, k)
picked_by P Q false o os w h k = k

all_picked : (P Q : OwedBreak → Type 0) (q : OwedBreak → Bool) → ((o : OwedBreak) → q o ≡ true → P o → Q o) → (os : List OwedBreak) → AllOf P os → AllOf Q (filter q os)
all_picked P Q q w [] h = tt
all_picked P Q q w (o ∷ os) h = picked_by P Q (q o) o (filter q os) (w o) h.0 (all_picked P Q q w os h.1)

on_fid : (t : Bool) → not t ≡ true → t ≡ false
on_fid true h = absurd cc
on_fid false h = refl

-- picked for this node
record IsPick (me j : Node) (ls : List Line) (o : OwedBreak) : Type 0 where
  owed : IsOwed me j ls o
  fid : IsOnFid o

picks : (me j : Node) (ls : List Line) (os : List OwedBreak) → AllOf (λ (o : OwedBreak). IsOwed me o.client ls o) os → AllOf (IsPick me j ls) (first_breaks most_breaks (filter (is_break_for j) os))
picks me j ls os h =
    all_first (IsPick me j ls) most_breaks (filter (is_break_for j) os)
    (all_picked (λ (o : OwedBreak). IsOwed me o.client ls o) (IsPick me j ls) (is_break_for j)
    (λ o e x. let q = both (same_node o.client j) (not (is_all o.what)) e in record { owed = subst (λ (n : Node). IsOwed me n ls o) (same_node-true _ _ q.0) x; fid = on_fid (is_all o.what) q.1 }) os h)

record AreCarried (me j : Node) (ls : List Line) (os : List OwedBreak) : Type 0 where
  owes : AllOf (IsOwed me j ls) os
  carries : AllOf (λ (o : OwedBreak). CarriesBreak (breaks_call os) o.what) os

are_carried : (me : Node) (w : Option Fid) (o : OwedBreak) (ls : List Line) (owed : List OwedBreak) → o.what ≡ w → IsOwed me o.client ls o → AllOf (λ (x : OwedBreak). IsOwed me x.client ls x) owed → AreCarried me o.client ls (carries_for w o owed)
are_carried me None o ls owed e h k = record { owes = (h, tt); carries = (subst (λ (w : Option Fid). CarriesBreak (break_call w (o ∷ [])) w) (sym e) refl, tt) }
are_carried me (Some f) o ls owed e h k =
    let p = picks me o.client ls owed k in
    let os : List OwedBreak = first_breaks most_breaks (filter (is_break_for o.client) owed) in
    record { owes = all_map (IsPick me o.client ls) (IsOwed me o.client ls) (λ x y. y.owed) os p; carries = all_carried os (all_map (IsPick me o.client ls) IsOnFid (λ x y. y.fid) os p) }

-- ---- calls that begin at the end of a step

pub sends_front : (j : Node) (k : Key) (user : List ℕ) (call : FsCall) (a b : List Message) → SendsTo j k user call a → SendsTo j k user call (a ++ b)
sends_front j k user call [] b h = absurd h
sends_front j k user call (m ∷ a) b (inl x) = inl x
sends_front j k user call (m ∷ a) b (inr x) = inr (sends_front j k user call a b x)

sends_last : (j : Node) (k : Key) (user : List ℕ) (call : FsCall) (a : List Message) (m : Message) → SendsTo j k user call (m ∷ []) → SendsTo j k user call (a ++ m ∷ [])
sends_last j k user call [] m h = h
sends_last j k user call (x ∷ a) m h = inr (sends_last j k user call a m h)

one_sends : (me : Node) (boot : ℕ) (t : Started) (o : OwedBreak) (x : Option BackCall) (j : Node) (k : Key) (user : List ℕ) (call : FsCall) → SendsTo j k user call t.sent → SendsTo j k user call (starts_by me boot t o x).sent
one_sends me boot t o None j k user call h = sends_front j k user call t.sent _ h
one_sends me boot t o (Some c) j k user call h = h

all_send : (me : Node) (boot : ℕ) (os : List OwedBreak) (t : Started) (j : Node) (k : Key) (user : List ℕ) (call : FsCall) → SendsTo j k user call t.sent → SendsTo j k user call (starts me boot os t).sent
all_send me boot [] t j k user call h = h
all_send me boot (o ∷ os) t j k user call h = all_send me boot os (starts_by me boot t o (t.backs.calls o.client)) j k user call (one_sends me boot t o (t.backs.calls o.client) j k user call h)

-- what holds as calls begin: nothing was sent before under a number above the last one of before the step
pub record Begins (me : Node) (boot last : ℕ) (e : Entry) (es : List Entry) (t : Started) : Type 0 where
  pub owes : Owes me boot t.backs (e ∷ es)
  pub rises : last ≤ t.backs.last_call
  pub known : AllOf (IsKnown me None t.backs.last_call boot) t.sent
  pub earlier : Alone me boot t.backs (sent_of es)
  pub alone : Alone me boot t.backs t.sent

one_begins : (me : Node) (boot last : ℕ) (e : Entry) (es : List Entry) (t : Started) (o : OwedBreak) (x : Option BackCall) → AllOf (IsKnown me None last boot) (sent_of es) → IsOwed me o.client (lines_of (e ∷ es)) o
    → ((k : Key) (call : FsCall) → SendsTo o.client k [] call (starts_by me boot t o x).sent → SendsTo o.client k [] call e.sent) → Begins me boot last e es t → Begins me boot last e es (starts_by me boot t o x)
one_begins me boot last e es t o (Some c) before owed went h = h
one_begins me boot last e es t o None before owed went h =
    let n : BackCall = started_call t.backs o in
    let m : Message = break_message me boot o.client (t.backs.known o.client) n in
    let low : last ≤ t.backs.last_call = h.rises in
    let c : AreCarried me o.client (lines_of (e ∷ es)) n.content = are_carried me o.what o (lines_of (e ∷ es)) t.backs.lists.owed refl owed h.owes.owing in
    let new : Out me o.client n (t.backs.last_call + 1) boot (e ∷ es) = record {
      number = le_refl _;
      sent = record {
        newer = [];
        at = e;
        older = es;
        split = refl;
        sent = went (a_key me boot n.number) (breaks_call n.content) (sends_last o.client (a_key me boot n.number) [] (breaks_call n.content) t.sent m (inl (refl, (refl, refl))));
        first = unsent me last boot n.number (sent_of es) (omega arith) before;
      };
      up = λ z. z;
      tries = λ k a b. absurd (omega arith);
      owes = c.owes;
      carries = c.carries;
    } in
    record {
      owes = record {
        owing = h.owes.owing;
        outs = λ j k at. put_call o.client j n k t.backs.calls (Out me j k (t.backs.last_call + 1) boot (e ∷ es)) at
            (λ same it. subst (λ (i : Node). Out me i k (t.backs.last_call + 1) boot (e ∷ es)) same (subst (λ (z : BackCall). Out me o.client z (t.backs.last_call + 1) boot (e ∷ es)) it new))
            (λ old. out_more me j k t.backs.last_call (t.backs.last_call + 1) boot (e ∷ es) (omega arith) (h.owes.outs j k old));
      };
      rises = omega arith;
      known = all_both (IsKnown me None (t.backs.last_call + 1) boot) t.sent (m ∷ []) (known_more me t.backs.last_call (t.backs.last_call + 1) boot t.sent (omega arith) h.known) ((λ own. (le_refl _, λ up same. le_refl _)), tt);
      earlier = λ j k at. put_call o.client j n k t.backs.calls (AllOf (CarriesThis j (a_key me boot k.number) (breaks_call k.content)) (sent_of es)) at
          (λ same it. subst (λ (z : BackCall). AllOf (CarriesThis j (a_key me boot z.number) (breaks_call z.content)) (sent_of es)) it (all_below me j last boot n.number (breaks_call n.content) (sent_of es) (omega arith) before)) (λ old. h.earlier j k old);
      alone = λ j k at. put_call o.client j n k t.backs.calls (AllOf (CarriesThis j (a_key me boot k.number) (breaks_call k.content)) (t.sent ++ m ∷ [])) at
          (λ same it. subst (λ (z : BackCall). AllOf (CarriesThis j (a_key me boot z.number) (breaks_call z.content)) (t.sent ++ m ∷ [])) it
          (all_both (CarriesThis j (a_key me boot n.number) (breaks_call n.content)) t.sent (m ∷ []) (all_below me j t.backs.last_call boot n.number (breaks_call n.content) t.sent (omega arith) h.known) ((λ is to under. refl), tt)))
          (λ old. all_both (CarriesThis j (a_key me boot k.number) (breaks_call k.content)) t.sent (m ∷ []) (h.alone j k old)
          ((λ is to under. (let low : k.number ≤ t.backs.last_call = (h.owes.outs j k old).number in let same : n.number ≡ k.number = ap (λ (x : Key). x.number) under in absurd (omega arith))), tt));
    }

pub all_begin : (me : Node) (boot last : ℕ) (e : Entry) (es : List Entry) (os : List OwedBreak) (t : Started) → AllOf (IsKnown me None last boot) (sent_of es) → AllOf (λ (o : OwedBreak). IsOwed me o.client (lines_of (e ∷ es)) o) os
    → ((j : Node) (k : Key) (call : FsCall) → SendsTo j k [] call (starts me boot os t).sent → SendsTo j k [] call e.sent) → Begins me boot last e es t → Begins me boot last e es (starts me boot os t)
all_begin me boot last e es [] t before owed went h = h
all_begin me boot last e es (o ∷ os) t before owed went h =
    let u : Started = starts_by me boot t o (t.backs.calls o.client) in
    all_begin me boot last e es os u before owed.1 went (one_begins me boot last e es t o (t.backs.calls o.client) before owed.0 (λ k call x. went o.client k call (all_send me boot os u o.client k [] call x)) h)
