-- The walk over a history: each change is of a call that runs, and calls that change something run in the order of their keys.
use Rattle.std.proofs.Common.{◌≡◌, ℕ, ◌⊎◌, inl, inr, Bool, true, false, List, [], ◌∷◌, ◌++◌, refl, sym, ap, subst, ◌∙◌}
use Rattle.std.specs.List.{AllByRecursion}
use Rattle.afs_num.specs.declared.histories.Actor.{Actor}
use Rattle.afs_num.specs.declared.histories.Actor.TheVariants as actors
use Rattle.afs_num.specs.declared.types.Key.{Key}
use Rattle.afs_num.specs.declared.types.Node.{Node}
use Rattle.afs_num.specs.declared.types.Node.TheVariants.{Admin, Client, Server}
use Rattle.spec_history.specs.declared.lines.Line.{Line}
use Rattle.spec_history.specs.declared.lines.Line.TheVariants as lines
use Rattle.spec_history.specs.declared.scripts.Script.{Script}
use Rattle.spec_model.proofs.Basics.{both}
use Rattle.spec_model.specs.Calls.{key_of}
use Rattle.law_legal.proofs.OwedPasses.{front_onto}
use Rattle.law_legal.specs.Ideal.{change_key, first_lines, first_told, set_up_entry, first_where}
use Rattle.law_legal.specs.Past as past
use Rattle.law_legal.specs.Past.{lines_of, onto, HasChangeBy}
use Rattle.spec_ideal.specs.Tables.{Table}
use Rattle.spec_ideal.specs.SetUp.{first_volume}
use Rattle.spec_ideal.specs.Volumes.{version_at, Vnode}
use Rattle.spec_history.specs.declared.scripts.VolumeLine.{VolumeLine}
use Rattle.spec_adminrows.specs.AdminRow.{AdminState}
use Rattle.spec_copyrows.specs.Sites.{CopyState}
use Rattle.spec_rows.specs.Hosts.{HostStep}
use Rattle.spec_rows.specs.LocRow.{LocState}
use Rattle.spec_rows.specs.Runs.{counts_later, Entry}
use Rattle.spec_rows.specs.Steps.{Step}
use Rattle.spec_runs.specs.NodeRuns.{node_moved, node_start, CellInput, NodeCell, NodeLeads, NodeMoved}
use Rattle.law_keys.specs.Once.{AreInOrder, MayFollow}
use Rattle.law_keys.specs.Ran.{ran_by, ran_in, RanCall}
use Rattle.law_keys.specs.Replied.{AnyOf}
use Rattle.law_keys.proofs.EachRan.{each_ran, EachRan}
use Rattle.law_keys.proofs.Hosts.{grown}
use Rattle.law_keys.proofs.Walk.{in_order}
use Rattle.law_places.proofs.Turning.{all_lines, all_on}
use Rattle.law_latest.proofs.AdminLines as admins
use Rattle.law_latest.proofs.AdminLines.{admin_tells, AdminTells}
use Rattle.law_latest.proofs.Changing.{back_plain, piece_plain, restarted_tells, served_tells, woken_plain, Tells, TellsOne}
use Rattle.law_latest.proofs.ClientLines.{client_tells}
use Rattle.law_latest.proofs.CopyLines.{copy_begun_tells, copy_missed_tells, copy_tells, copy_waited_tells, CopyTells}
use Rattle.law_latest.proofs.LocLines.{database_tells, loc_fail_set, loc_restarted, loc_served, loc_stop_set, LocTells}
use Rattle.law_latest.proofs.ServerLines.{is_no_change, weaker, NoChange}
use Rattle.law_latest.specs.Latest.{StandInOrder, ChangesAreLater, FollowInOrder, IsLatestChange}

-- ---- which entries tell a change

client_no_change : (l : Line) → client_tells l ≡ true → is_no_change l ≡ true
client_no_change (lines.Change n key count) h = absurd cc
client_no_change l h = refl

admin_no_change : (l : Line) → admin_tells l ≡ true → is_no_change l ≡ true
admin_no_change (lines.Change n key count) h = absurd cc
admin_no_change l h = refl

database_no_change : (l : Line) → database_tells l ≡ true → is_no_change l ≡ true
database_no_change (lines.Change n key count) h = absurd cc
database_no_change l h = refl

client_plain : (s : Step CopyState) → CopyTells s → NoChange s.lines
client_plain s h = weaker client_tells is_no_change client_no_change s.lines h.told

admin_plain : (s : Step AdminState) → AdminTells s → NoChange s.lines
admin_plain s h = weaker admin_tells is_no_change admin_no_change s.lines h.told

database_plain : (s : HostStep LocState) → LocTells s → NoChange s.lines
database_plain s h = weaker database_tells is_no_change database_no_change s.lines h.told

-- none, or it is a server's
pub record TellsByServer (new : List RanCall) (e : Entry) : Type 0 where
  pub server : ℕ
  pub actor : e.actor ≡ actors.Node (Server server)
  pub one : TellsOne (Server server) new e.lines

abbrev pub EntryTells : NodeMoved → List RanCall → Type 0
EntryTells m new = NoChange m.entry.lines ⊎ TellsByServer new m.entry

of_server : (i : ℕ) (new : List RanCall) (e : Entry) → e.actor ≡ actors.Node (Server i) → Tells (Server i) new e.lines → NoChange e.lines ⊎ TellsByServer new e
of_server i new e is (inl k) = inl k
of_server i new e is (inr k) = inr (record { server = i; actor = is; one = k })

tells_each : (c : NodeCell) → EachRan EntryTells c
tells_each c = record {
  void = inl refl;
  ticks = λ n. inl refl;
  serves = λ i place luck m up g. of_server i _ _ refl (served_tells (Server i) (c.hosts i) c.clock place luck m);
  restarts = λ i after o fall down. of_server i _ _ refl (restarted_tells (Server i) (c.hosts i) c.clock c.count after o fall);
  crashes = λ i up. inl refl;
  stop_set = λ i calls pick up. inl refl;
  fail_set = λ i call up. inl refl;
  piece_late = λ i n p up. inl (piece_plain (Server i) (c.hosts i) c.clock n p);
  break_late = λ i n b up. inl (back_plain (Server i) (c.hosts i) c.clock n b);
  wakes = λ i up. inl (woken_plain (Server i) (c.hosts i) c.clock);
  loc_serves = λ place luck m up g. inl (database_plain _ (loc_served c.loc c.clock place luck m));
  loc_restarts = λ after o fall down. inl (database_plain _ (loc_restarted c.loc c.clock c.count after o fall));
  loc_crashes = λ up. inl refl;
  loc_stop_set = λ calls pick up. inl refl;
  loc_fail_set = λ call up. inl refl;
  clients = record {
    begins = λ n act up idle. inl (client_plain _ (copy_begun_tells (Client n) (c.clients n) c.clock act));
    given = λ n place m up g. inl (client_plain _ (copy_tells (Client n) (c.clients n) c.clock place m));
    seek_late = λ n k up is. inl (client_plain _ (copy_missed_tells (Client n) (c.clients n) k));
    late = λ n act up is. inl (client_plain _ (copy_waited_tells (Client n) (c.clients n) act));
    stops = λ n up. inl refl;
    starts = λ n away. inl refl;
  };
  admins = record {
    begins = λ n act up idle. inl (admin_plain _ (admins.begun_tells (Admin n) (c.admins n) act));
    given = λ n place m up g. inl (admin_plain _ (admins.given_tells (Admin n) (c.admins n) place m));
    late = λ n r up is. inl (admin_plain _ (admins.waited_tells (Admin n) (c.admins n) r));
    stops = λ n up. inl refl;
    starts = λ n gone. inl refl;
  };
}

pub tells : (c : NodeCell) (x : CellInput) → EntryTells (node_moved c x) (ran_by c x)
tells c x = each_ran EntryTells c (tells_each c) x

-- ---- looking back over lines

change_before : (s : Node) (k : Key) (l : Line) (o : List Line) → is_no_change l ≡ true → HasChangeBy s k (l ∷ o) → HasChangeBy s k o
change_before s k (lines.Change n key count) o h x = absurd cc
change_before s k l o h x = x

change_back : (s : Node) (k : Key) (ls o : List Line) → NoChange ls → HasChangeBy s k (onto o ls) → HasChangeBy s k o
change_back s k [] o h x = x
change_back s k (l ∷ ls) o h x = let q = both (is_no_change l) (all_lines is_no_change ls) h in change_before s k l o q.0 (change_back s k ls (l ∷ o) q.1 x)

key_before : (l : Line) (o : List Line) → is_no_change l ≡ true → change_key (l ∷ o) ≡ change_key o
key_before (lines.Change n key count) o h = absurd cc
key_before l o h = refl

key_back : (ls o : List Line) → NoChange ls → change_key (onto o ls) ≡ change_key o
key_back [] o h = refl
key_back (l ∷ ls) o h = let q = both (is_no_change l) (all_lines is_no_change ls) h in key_back ls (l ∷ o) q.1 ∙ key_before l o q.0

-- over lines with one change
one_back : (s me : Node) (k key : Key) (count : ℕ) (front rest o : List Line) → NoChange front → NoChange rest → HasChangeBy s k (onto o (front ++ (lines.Change me key count ∷ rest))) → HasChangeBy s k o ⊎ ((me ≡ s) × (key ≡ k))
one_back s me k key count [] rest o h r x = elim (change_back s k rest (lines.Change me key count ∷ o) r x) [ inl y ↦ inr y | inr y ↦ inl y ]
one_back s me k key count (l ∷ front) rest o h r x =
    let q = both (is_no_change l) (all_lines is_no_change front) h in elim (one_back s me k key count front rest (l ∷ o) q.1 r x) [ inl y ↦ inl (change_before s k l o q.0 y) | inr y ↦ inr y ]

-- ---- lines that are good

plain_one : (who : Actor) (before : List Entry) (own : List Line) (l : Line) (ls : List Line) → is_no_change l ≡ true → StandInOrder who before (l ∷ own) ls → StandInOrder who before own (l ∷ ls)
plain_one who before own (lines.Change n key count) ls h k = absurd cc
plain_one who before own l ls h k = (tt, k)

plain_later : (who : Actor) (before : List Entry) (own ls : List Line) → NoChange ls → StandInOrder who before own ls
plain_later who before own [] h = tt
plain_later who before own (l ∷ ls) h = let q = both (is_no_change l) (all_lines is_no_change ls) h in plain_one who before own l ls q.0 (plain_later who before (l ∷ own) ls q.1)

one_later : (who : Actor) (before : List Entry) (own front rest : List Line) (me : Node) (key : Key) (count : ℕ) → NoChange front → NoChange rest → IsLatestChange who me key before (onto own front) → StandInOrder who before own (front ++ (lines.Change me key count ∷ rest))
one_later who before own [] rest me key count h r k = (k, plain_later who before (lines.Change me key count ∷ own) rest r)
one_later who before own (l ∷ front) rest me key count h r k =
    let q = both (is_no_change l) (all_lines is_no_change front) h in plain_one who before own l (front ++ (lines.Change me key count ∷ rest)) q.0 (one_later who before (l ∷ own) front rest me key count q.1 r k)

-- ---- calls that ran before

-- the call made a change under the key at this server
abbrev Made : Node → Key → RanCall → Type 0
Made s k r = (r.callee ≡ s) × ((key_of r.head ≡ k) × (r.changed ≡ true))

any_grown : (P : RanCall → Type 0) (before new : List RanCall) → AnyOf P before → AnyOf P (grown before new)
any_grown P before [] h = h
any_grown P before (r ∷ rs) h = any_grown P (r ∷ before) rs (inr h)

found : (P Q : RanCall → Type 0) (X : Type 0) (rs : List RanCall) → ((r : RanCall) → P r → Q r → X) → AnyOf P rs → AllByRecursion Q rs → X
found P Q X [] w h k = absurd h
found P Q X (r ∷ rs) w (inl h) k = w r h k.0
found P Q X (r ∷ rs) w (inr h) k = found P Q X rs w h k.1

in_order_split : (before new rest : List RanCall) → AreInOrder before (new ++ rest) → AreInOrder before new × AreInOrder (grown before new) rest
in_order_split before [] rest h = (tt, h)
in_order_split before (r ∷ rs) rest h = let k = in_order_split (r ∷ before) rs rest h.1 in ((h.0, k.0), k.1)

-- each change that was told is of such a call
abbrev AreOfCalls : List RanCall → List Entry → Type 0
AreOfCalls before es = (i : ℕ) (k : Key) → HasChangeBy (Server i) k (lines_of es) → AnyOf (Made (Server i) k) before

later_key : (a b k l : Key) → a ≡ k → b ≡ l → past.IsLater a b → past.IsLater k l
later_key a b k l e f h = subst (λ (x : Key). past.IsLater x l) e (subst (past.IsLater a) f h)

-- of a call that runs now, the key is later
earlier : (s : Node) (k l : Key) (r b : RanCall) → Made s k r → l.node ≡ k.node → Made s l b → MayFollow b r → past.IsLater k l
earlier s k l r b now same old follow =
    later_key (key_of r.head) (key_of b.head) k l now.1.0 old.1.0
    (follow.pair (old.0 ∙ sym now.0) (ap (λ (x : Key). x.node) old.1.0 ∙ (same ∙ sym (ap (λ (x : Key). x.node) now.1.0))) (inr old.1.1))

record Passes (before new : List RanCall) (es : List Entry) (e : Entry) : Type 0 where
  good : StandInOrder e.actor es [] e.lines
  told : AreOfCalls (grown before new) (e ∷ es)

plain_passes : (before new : List RanCall) (es : List Entry) (e : Entry) → NoChange e.lines → AreOfCalls before es → Passes before new es e
plain_passes before new es e h told = record {
  good = plain_later e.actor es [] e.lines h;
  told = λ i k x. any_grown (Made (Server i) k) before new (told i k (change_back (Server i) k e.lines (lines_of es) h x));
}

-- the one that runs now is the last of all
last_ran : (P : RanCall → Type 0) (before new : List RanCall) (r : RanCall) → new ≡ r ∷ [] → P r → AnyOf P (grown before new)
last_ran P before new r is h = subst (λ (rs : List RanCall). AnyOf P (grown before rs)) (sym is) (inl h)

one_passes : (before new : List RanCall) (es : List Entry) (e : Entry) → AreInOrder before new → TellsByServer new e → AreOfCalls before es → Passes before new es e
one_passes before new es e order t told =
    let me : Node = Server t.server in
    let k = t.one in
    let now : Made me k.key k.r = (k.callee, (k.under, k.changed)) in
    let follow : AllByRecursion (λ (b : RanCall). MayFollow b k.r) before = (subst (AreInOrder before) k.ran order).0.0 in
    let good : IsLatestChange e.actor me k.key es (onto [] k.front) = record {
      own_entry = t.actor;
      only = key_back k.front [] k.before;
      latest = λ l x same. found (Made me l) (λ (b : RanCall). MayFollow b k.r) (past.IsLater k.key l) before (λ b old f. earlier me k.key l k.r b now same old f)
          (told t.server l (change_back me l k.front (lines_of es) k.before (subst (HasChangeBy me l) (sym (front_onto [] (lines_of es) k.front)) x))) follow;
    } in
    record {
      good = subst (StandInOrder e.actor es []) (sym k.split) (one_later e.actor es [] k.front k.rest me k.key k.count k.before k.after good);
      told = λ i l x. elim (one_back (Server i) me l k.key k.count k.front k.rest (lines_of es) k.before k.after (subst (λ (ls : List Line). HasChangeBy (Server i) l (onto (lines_of es) ls)) k.split x)) [
        | inl y ↦ any_grown (Made (Server i) l) before new (told i l y)
        | inr y ↦ last_ran (Made (Server i) l) before new k.r k.ran (k.callee ∙ y.0, (k.under ∙ y.1, k.changed))
      ];
    }

passes : (before new : List RanCall) (es : List Entry) (m : NodeMoved) → AreInOrder before new → EntryTells m new → AreOfCalls before es → Passes before new es m.entry
passes before new es m order (inl h) told = plain_passes before new es m.entry h told
passes before new es m order (inr t) told = one_passes before new es m.entry order t told

-- ---- a run

follows : (c : NodeCell) (xs : List CellInput) (es : List Entry) (end : NodeCell) (before : List RanCall) (older : List Entry) → NodeLeads c xs es end → AreInOrder before (ran_in c xs) → AreOfCalls before older → FollowInOrder older es
follows c [] [] end before older is order told = tt
follows c [] (e ∷ es) end before older is order told = absurd is
follows c (x ∷ xs) [] end before older is order told = absurd is
follows c (x ∷ xs) (e ∷ es) end before older is order told =
    let m : NodeMoved = node_moved c x in
    let k = in_order_split before (ran_by c x) (ran_in m.cell xs) order in
    let p : Passes before (ran_by c x) older m.entry = passes before (ran_by c x) older m k.0 (tells c x) told in
    subst (λ (y : Entry). FollowInOrder older (y ∷ es)) (sym is.0) (p.good, follows m.cell xs es end (grown before (ran_by c x)) (m.entry ∷ older) is.1 k.1 p.told)

-- ---- set-up tells no change

told_plain : (id : ℕ) (t : Table Vnode) (tail : List Line) → NoChange tail → NoChange (first_told id t tail)
told_plain id [] tail h = h
told_plain id (p ∷ ps) tail h = told_plain id ps (lines.Version (version_at id p.0 p.1) ∷ tail) h

unless_plain : (b : Bool) (xs ys : List Line) → NoChange xs → NoChange ys → NoChange (first_where b xs ys)
unless_plain true xs ys h k = h
unless_plain false xs ys h k = k

first_plain : (vs : List VolumeLine) → NoChange (first_lines vs)
first_plain [] = refl
first_plain (v ∷ vs) =
    unless_plain (counts_later v.id vs) (first_lines vs) (first_lines vs ++ first_told v.id (first_volume v).vnodes []) (first_plain vs) (all_on is_no_change (first_lines vs) (first_told v.id (first_volume v).vnodes []) (first_plain vs) (told_plain v.id (first_volume v).vnodes [] refl))

first_of_calls : (s : Script) → AreOfCalls [] (set_up_entry s ∷ [])
first_of_calls s i k x = absurd (change_back (Server i) k (first_lines s.volumes) [] (first_plain s.volumes) x)

pub changes_later : ChangesAreLater
changes_later s inputs history end leads = follows (node_start s) inputs history end [] (set_up_entry s ∷ []) leads (in_order s inputs) (first_of_calls s)
