-- Each change of a run is what the ideal cell makes of the call that ran, however many servers a cell has.
use Rattle.law_legal.proofs.DatabaseDoes.{IsSoundLoc}
use Rattle.spec_history.specs.declared.lines.Line.{Line}
use Rattle.spec_history.specs.declared.lines.Line.TheVariants as lines
use Rattle.spec_history.specs.declared.scripts.Script.{Script}
use Rattle.spec_ideal.specs.Operations.{volume_called}
use Rattle.spec_ideal.specs.Tables.{Table}
use Rattle.law_legal.proofs.ActSteps.{begins_acts, given_acts, waits_acts, missed_acts}
use Rattle.law_legal.proofs.ActLines.{is_of}
use Rattle.law_legal.proofs.OwedPasses.{all_lines}
use Rattle.law_legal.proofs.BaseLaws.{Above, IfCall, both, each_at, runs_admitted}
use Rattle.law_legal.proofs.ServerChooses.{Saves, Works, disk_works, is_from, risen_from, risen_lines, serves_works, starts_works, times_works, wakes_works}
use Rattle.law_legal.proofs.ServerStepsCut.{CutOf, CutsIn, KnownCuts, comes_first, cuts_moves, now_up}
use Rattle.law_legal.proofs.VolumeEdits.{on_top}
use Rattle.law_legal.proofs.BaseWords.{IsOne, Origin}
use Rattle.law_legal.proofs.VolumesAreIdeal.{AreBlank, CutIs, Held, IsCalled, IsSent, Saved, blank_by, blank_key, blow_blank, cut_by, found_volume, from_blank, held_kept, is_blank, no_more, of_blank, of_this, own_from, saved_at, volumes_first, loc_blank}
use Rattle.law_legal.proofs.CallKeysOnce.{HasRun, IsKnown, any_told, by_key, latest_by, new_key, not_run}
use Rattle.law_legal.proofs.RunSetUp.{any_home}
use Rattle.law_legal.proofs.RunWalk.{Behind, EachMove, IsKept, each_moved, first_sound, sound_moved}
use Rattle.law_legal.proofs.ActCallsInRuns.{asked_first, sought_acts_in}
use Rattle.law_legal.proofs.ServerSaves.{first_on}
use Rattle.law_legal.specs.Breaks.{HasStopped}
use Rattle.law_legal.specs.Ideal.{change_key, set_up_entry, user_of}
use Rattle.law_legal.specs.Legal.{IsOfRestart, HasChangeBy, IdealChange, IsNew, as_asked, versions_first}
use Rattle.law_legal.specs.Parts.{ChangesAreIdeal, EachEntry, EachLine, IsIdeal}
use Rattle.law_legal.specs.Past.{IsLatest, Called, IsCall, IsCallUnder, IsFirstOfItsBoot, given_message, lines_of, onto, sent_of}
use Rattle.spec_model.specs.Calls.{call_seat, key_of}
use Rattle.afs_num.specs.declared.calls.FsCall.{FsCall}
use Rattle.afs_num.specs.declared.calls.FsCall.TheVariants as calls
use Rattle.afs_num.specs.declared.histories.Actor.{Actor}
use Rattle.afs_num.specs.declared.histories.Actor.TheVariants as actors
use Rattle.afs_num.specs.declared.histories.Version.{Version}
use Rattle.afs_num.specs.declared.messages.Message.{Message}
use Rattle.afs_num.specs.declared.types.Head.{Head}
use Rattle.afs_num.specs.declared.types.Key.{Key}
use Rattle.afs_num.specs.declared.types.Node.{Node}
use Rattle.afs_num.specs.declared.types.Node.TheVariants.{Server, Loc}
use Rattle.spec_records.specs.Durable.{Stored}
use Rattle.law_legal.proofs.RunSteps.{blow_line}
use Rattle.spec_rows.specs.Steps.{Begun}
use Rattle.spec_rows.specs.Runs.{Cell, Entry, Fall, Input, Leads, Moved, begun_by_disk, message_at, moved, start}
use Rattle.spec_rows.specs.ServerRow.{versions_made, versioned}
use Rattle.spec_rows.specs.States.{ServerState}
use Rattle.std.proofs.Common.{◌≡◌, ℕ, ◌⊎◌, inl, inr, Bool, true, length, List, [], ◌∷◌, ◌++◌, Some, None, refl, sym, ap, subst, ◌∙◌}

-- ---- lines without a change

blank_rule : (s : Script) (who : Actor) (l : Line) (past : List Entry) (own next : List Line) → is_blank l ≡ true → IsIdeal s who l past own next
blank_rule s who (lines.Change q k count) past own next h = absurd cc
blank_rule s who l past own next h = tt

all_blank : (s : Script) (who : Actor) (past : List Entry) (own ls : List Line) → AreBlank ls → EachLine (IsIdeal s) who past own ls
all_blank s who past own [] h = tt
all_blank s who past own (l ∷ ls) h = let q = both (is_blank l) _ h in (blank_rule s who l past own ls q.0, all_blank s who past (l ∷ own) ls q.1)

blank_lines : (s : Script) (who : Actor) (past : List Entry) (own ls more : List Line) → AreBlank ls → EachLine (IsIdeal s) who past (onto own ls) more → EachLine (IsIdeal s) who past own (ls ++ more)
blank_lines s who past own [] more h k = k
blank_lines s who past own (l ∷ ls) more h k = let q = both (is_blank l) _ h in (blank_rule s who l past own (ls ++ more) q.0, blank_lines s who past (l ∷ own) ls more q.1 k)

version_lines : (s : Script) (who : Actor) (past : List Entry) (own : List Line) (vs : List Version) (ls : List Line) → EachLine (IsIdeal s) who past (on_top vs own) ls → EachLine (IsIdeal s) who past own (versioned vs ls)
version_lines s who past own [] ls h = h
version_lines s who past own (v ∷ vs) ls h = (tt, version_lines s who past (lines.Version v ∷ own) vs ls h)

pub blank_onto : (o ls : List Line) → AreBlank o → AreBlank ls → AreBlank (onto o ls)
blank_onto o [] h k = h
blank_onto o (l ∷ ls) h k = let q = both (is_blank l) _ k in blank_onto (l ∷ o) ls (rw (q.0, h) refl) q.1

new_line : (k : Key) (l : Line) (o : List Line) → is_blank l ≡ true → IsNew k o → IsNew k (l ∷ o)
new_line k (lines.Change q j count) o h x = absurd cc
new_line k l o h x = x

new_over : (k : Key) (own o : List Line) → AreBlank own → IsNew k o → IsNew k (own ++ o)
new_over k [] o h x = x
new_over k (l ∷ own) o h x = let q = both (is_blank l) _ h in new_line k l (own ++ o) q.0 (new_over k own o q.1 x)

by_line : (s : Node) (k : Key) (l : Line) (o : List Line) → is_blank l ≡ true → HasChangeBy s k (l ∷ o) → HasChangeBy s k o
by_line s k (lines.Change q j count) o h x = absurd cc
by_line s k l o h x = x

by_over : (s : Node) (k : Key) (own o : List Line) → AreBlank own → HasChangeBy s k (own ++ o) → HasChangeBy s k o
by_over s k [] o h x = x
by_over s k (l ∷ own) o h x = let q = both (is_blank l) _ h in by_over s k own o q.1 (by_line s k l (own ++ o) q.0 x)

pub none_first : (ls : List Line) → AreBlank ls → versions_first ls ≡ []
none_first [] h = refl
none_first (lines.Version v ∷ ls) h = absurd cc
none_first (l ∷ ls) h = refl

ends_behind : (s : Node) (vs : List Version) (ls : List Line) → IsOfRestart s ls → IsOfRestart s (versioned vs ls)
ends_behind s [] ls h = h
ends_behind s (v ∷ vs) ls h = ends_behind s vs ls h

-- a call on one volume is as its act asks it
plain_call : (call : FsCall) (id : ℕ) → volume_called call ≡ Some id → as_asked call ≡ call
plain_call (calls.GiveUpCallBacks fids callbacks) id e = absurd cc
plain_call call id e = refl

-- ---- where a change stands

-- the entry was given this message, and the change stands behind that
pub record IsServed (c : Cell) (i : ℕ) (m : Message) (front : List Line) : Type 0 where
  pub place : ℕ
  pub front' : front ≡ lines.Given place ∷ []
  pub at : message_at c.sent place ≡ Some m
  pub up : (c.hosts i).down ≡ None

-- or the change stands first, in a restart behind the step that was interrupted
pub record IsBegun (c : Cell) (past : List Entry) (i : ℕ) (m : Message) (front rest : List Line) : Type 0 where
  pub front' : front ≡ []
  pub boots : IsOfRestart (Server i) rest
  pub cut : CutOf i (c.hosts i).state m past

abbrev pub IsPlaced : Cell → List Entry → ℕ → Message → List Line → List Line → Type 0
IsPlaced c past i m front rest = IsSent c.sent m × (IsServed c i m front ⊎ IsBegun c past i m front rest)

-- the call is the one under its key
placed_called : (s : Script) (c : Cell) (past : List Entry) (i : ℕ) (b : Table Stored) (ls : List Line) → Held s c past → Saves (IsPlaced c past i) (Server i) (c.hosts i).state b ls → Saves (IsCalled c.sent) (Server i) (c.hosts i).state b ls
placed_called s c past i b ls h S = record {
  message = S.message;
  head = S.head;
  change = S.change;
  clock = S.clock;
  chosen = S.chosen;
  front = S.front;
  rest = S.rest;
  split = S.split;
  before = S.before;
  behind = S.behind;
  left = S.left;
  given = each_at (IfCall (IsOne c.sent)) c.sent S.given.0.0 S.message S.given.0.1 h.0.1.ones;
}

abbrev KnownBy : Cell → (Key → Node) → Head → List ℕ → FsCall → Type 0
KnownBy c callees head user call = IsKnown callees c.clients head.to (key_of head)

-- what is asked of the lines before it
own_given : (c : Cell) (past : List Entry) (i : ℕ) (m : Message) (front : List Line) → sent_of past ≡ c.sent → (x : IsServed c i m front) → given_message (onto [] front) (sent_of past) ≡ Some m
own_given c past i m front told x = ap (λ (f : List Line). given_message (onto [] f) (sent_of past)) x.front' ∙ (ap (λ (ms : List Message). message_at ms x.place) told ∙ x.at)

not_stopped : (c : Cell) (past : List Entry) (i : ℕ) (m : Message) (front rest : List Line) → IsServed c i m front ⊎ IsBegun c past i m front rest → HasStopped (Server i) (onto [] front) → ⊥
not_stopped c past i m front rest (inl x) z = subst (λ (f : List Line). HasStopped (Server i) (onto [] f)) x.front' z
not_stopped c past i m front rest (inr x) z = subst (λ (f : List Line). HasStopped (Server i) (onto [] f)) x.front' z

pub change_ideal : (s : Script) (c : Cell) (past : List Entry) (i : ℕ) (b : Table Stored) (ls : List Line) → Held s c past → (S : Saves (IsPlaced c past i) (Server i) (c.hosts i).state b ls)
    → IdealChange s (Server i) (key_of S.head) (length (versions_made S.change)) past (onto [] S.front) (versioned (versions_made S.change) S.rest)
unfolding placed_called
change_ideal s c past i b ls h S =
    let m : Message = S.message in
    let x : ServerState = (c.hosts i).state in
    let vs : List Version = versions_made S.change in
    let own : List Line = onto [] S.front in
    let j : ℕ = S.chosen.client in
    let user : List ℕ = S.chosen.user in
    let call : FsCall = S.chosen.call in
    let callees : Key → Node = h.0.0.keys.callees in
    let k : Key = key_of S.head in
    let key : key_of m.head ≡ k = ap key_of (sym S.chosen.head') in
    let blank : AreBlank own = blank_onto [] S.front refl (blank_by (is_from (Server i)) (from_blank (Server i)) S.front S.before) in
    let rest : AreBlank S.rest = blank_by (is_from (Server i)) (from_blank (Server i)) S.rest S.behind in
    let d : Saved past user call S.change.id S.change.before.volume k = saved_at s c.hosts c.sent past i b ls h.1 h.0.0.hears.told (placed_called s c past i b ls h S) in
    let o : Origin s past m.head user call = of_this (Origin s past) j m.head m.carried user call S.chosen.from S.chosen.carries (each_at (IfCall (Origin s past)) c.sent S.given.0.0 m S.given.0.1 h.0.1.origins) in
    let at : IsKnown callees c.clients m.head.to (key_of m.head) = of_this (KnownBy c callees) j m.head m.carried user call S.chosen.from S.chosen.carries (each_at (IfCall (KnownBy c callees)) c.sent S.given.0.0 m S.given.0.1 h.0.0.keys.calls) in
    let known : IsKnown callees c.clients (Server i) k = subst (λ (q : Node). IsKnown callees c.clients q k) S.chosen.to (subst (IsKnown callees c.clients m.head.to) key at) in
    let a = runs_admitted x.lasting.boot x.seats m.head S.chosen.runs in
    let above : Above (call_seat k.node x.lasting.kept) k.epoch k.number = subst (λ (l : Key). Above (call_seat l.node x.lasting.kept) l.epoch l.number) key ((h.0.0.keys.sound i).lower m.head.from m.head.epoch m.head.number a.1) in
    let under : (boot : ℕ) → boot ≡ x.lasting.boot → IsCallUnder (Server i) k boot (Some m) = λ boot e. ((subst IsCall (sym S.chosen.carries) tt, S.chosen.to), (key, a.0 ∙ sym e)) in
    let found = found_volume S.change.id x.lasting.volumes S.change.before S.chosen.found in
    let first : versions_first (versioned vs S.rest) ≡ vs = first_on vs S.rest (none_first S.rest rest) in
    record {
      fresh = new_over k own (lines_of past) blank (new_key (HasRun callees c.clients c.hosts) k (lines_of past) (not_run callees c.clients c.hosts i k known above) h.0.0.keys.ran);
      latest = λ l y node. latest_by c.clients c.hosts c.sent (lines_of past) i k h.0.0.keys above l (by_over (Server i) l own (lines_of past) blank y) node;
      place = elim S.given.1 [
        | inl y ↦ inl (record {
          boot = x.lasting.boot;
          up = now_up c past i h.0.0.hears y.up;
          given = subst (IsCallUnder (Server i) k x.lasting.boot) (sym (own_given c past i m S.front h.0.0.hears.told y)) (under x.lasting.boot refl);
          first = subst (λ (l : Key). IsFirstOfItsBoot (Server i) l x.lasting.boot past) key (comes_first c past i m j h.0.0.hears y.up S.chosen.from S.chosen.runs);
          latest = latest_by c.clients c.hosts c.sent (lines_of past) i k h.0.0.keys above;
        })
        | inr y ↦ inr (record {
          alone = ap (onto []) y.front';
          boots = ends_behind (Server i) vs S.rest y.boots;
          newer = y.cut.newer;
          at = y.cut.at;
          older = y.cut.older;
          split = y.cut.split;
          actor = y.cut.actor;
          ran = record {
            boot = x.lasting.boot;
            up = y.cut.up;
            given = subst (IsCallUnder (Server i) k x.lasting.boot) (sym y.cut.given) (under x.lasting.boot refl);
            first = subst (λ (l : Key). IsFirstOfItsBoot (Server i) l x.lasting.boot y.cut.older) key (y.cut.first j S.chosen.from S.chosen.runs);
            latest = subst (λ (l : Key). IsLatest (Server i) l (lines_of y.cut.older)) key (y.cut.latest S.chosen.runs);
          };
          stopped = y.cut.stopped;
          since = y.cut.since;
        })
      ];
      going = not_stopped c past i m S.front S.rest S.given.1;
      only = ap change_key (sym (no_more own)) ∙ blank_key own [] blank;
      user = user;
      call = call;
      act = o.act;
      called = subst (λ (l : Key). Called s l user call o.act past) key o.called;
      one = d.one;
      own_user = o.own_user ∙ ap (λ (l : Key). user_of s l.node) key;
      own_call = sym (plain_call call S.change.id S.chosen.of_volume) ∙ o.own_call;
      id = S.change.id;
      of_volume = S.chosen.of_volume;
      before = S.change.before.volume;
      at = d.at;
      edits = S.change.edits;
      shown = S.change.shown;
      result = S.chosen.result;
      versions = first;
      number = ap length (sym first);
      home = any_home s S.change.id (Server i) (own ++ lines_of past) (h.1.home i S.change.id S.change.before.volume found);
    }

-- ---- every step

works_ideal : (s : Script) (c : Cell) (past : List Entry) (i : ℕ) (b : Table Stored) (ls : List Line) → Held s c past → Works (IsPlaced c past i) (Server i) (c.hosts i).state b ls → EachLine (IsIdeal s) (actors.Node (Server i)) past [] ls
works_ideal s c past i b ls h (inl w) = all_blank s (actors.Node (Server i)) past [] ls (blank_by (is_from (Server i)) (from_blank (Server i)) ls w.lines)
works_ideal s c past i b ls h (inr S) =
    let who : Actor = actors.Node (Server i) in
    let vs : List Version = versions_made S.change in
    let l : Line = lines.Change (Server i) (key_of S.head) (length vs) in
    subst (EachLine (IsIdeal s) who past []) (sym S.split)
    (blank_lines s who past [] S.front (l ∷ versioned vs S.rest) (blank_by (is_from (Server i)) (from_blank (Server i)) S.front S.before)
    ((refl, change_ideal s c past i b ls h S), version_lines s who past (l ∷ onto [] S.front) vs S.rest (all_blank s who past (on_top vs (l ∷ onto [] S.front)) S.rest (blank_by (is_from (Server i)) (from_blank (Server i)) S.rest S.behind))))

abbrev pub HeldCuts : Script → Cell → List Entry → Type 0
HeldCuts s c past = Held s c past × CutsIn c past

abbrev pub IdealStep : Script → Cell → List Entry → Moved → Type 0
IdealStep s c past m = EachLine (IsIdeal s) m.entry.actor past [] m.entry.lines

acts_ideal : (s : Script) (c : Cell) (past : List Entry) (n : ℕ) (who : Actor) (ls : List Line) → all_lines (is_of n) ls ≡ true → EachLine (IsIdeal s) who past [] ls
acts_ideal s c past n who ls h = all_blank s who past [] ls (blank_by (is_of n) (of_blank n) ls h)

-- the message of an interrupted step, where its change comes first
pub cut_placed : (s : Script) (c : Cell) (past : List Entry) (i : ℕ) (rest : List Line) → HeldCuts s c past → IsOfRestart (Server i) rest → CutIs (λ m. IsPlaced c past i m [] rest) (c.hosts i).down
cut_placed s c past i rest h ends m clock hit e = (h.0.1.cut i m clock hit e, inr (record { front' = refl; boots = ends; cut = h.1 i m clock hit e }))

stays_ideal : (s : Script) (c : Cell) (past : List Entry) (i : ℕ) (after : Bool) (fall : Fall) (l : Line) → HeldCuts s c past → (c.hosts i).down ≡ Some fall → is_from (Server i) l ≡ true → IsOfRestart (Server i) (l ∷ []) → EachLine (IsIdeal s) (actors.Node (Server i)) past [] ((begun_by_disk (Server i) (c.hosts i).state after fall).before (l ∷ []))
stays_ideal s c past i after fall l h down from ends =
    works_ideal s c past i _ _ h.0 (disk_works (IsPlaced c past i) (Server i) (c.hosts i).state after fall (l ∷ []) (cut_by (λ m. IsPlaced c past i m [] (l ∷ [])) (c.hosts i).down fall down (cut_placed s c past i (l ∷ []) h ends)) (rw from refl))

pub ideal_moves : (s : Script) → EachMove (HeldCuts s) (IdealStep s)
ideal_moves s = record {
  void = λ c past h. (tt, tt);
  ticked = λ c past n h. (tt, tt);
  begun = λ c past n act h r z. acts_ideal s c past n _ _ (begins_acts n (c.clients n) c.clock act r z).of;
  told = λ c past n place m h at to un. acts_ideal s c past n _ _ (given_acts (by_key (IsKnown h.0.0.0.keys.callees c.clients)) any_told n (c.clients n) c.clock place m (h.0.0.0.keys.replies n) (h.0.0.1.seats n)).of;
  sought = λ c past n place m k h at to z e. acts_ideal s c past n _ _ (sought_acts_in s c past n place m k h.0.0.1 at z e).of;
  missed = λ c past n k h r z. acts_ideal s c past n _ _ (missed_acts n (c.clients n) k r z).of;
  waited = λ c past n act h r. acts_ideal s c past n _ _ (waits_acts n (c.clients n) act r).of;
  fallen = λ c past n h. (tt, tt);
  risen = λ c past n h. (tt, tt);
  loc = λ c past l ls ms h st. all_blank s (actors.Node Loc) past [] ls (loc_blank ls st.lines);
  served = λ c past i place m armed h up at to. works_ideal s c past i _ _ h.0 (serves_works (IsPlaced c past i) (Server i) (c.hosts i).state c.clock place m (λ rest. ((place, at), inl (record { place = place; front' = refl; at = at; up = up }))));
  cut = λ c past i place m t h up at to. all_blank s (actors.Node (Server i)) past [] (lines.Given place ∷ blow_line i t.stops ∷ []) (blow_blank i place t.stops);
  stopped = λ c past i h up. (tt, tt);
  stop_set = λ c past i calls pick armed h up. (tt, tt);
  fail_set = λ c past i call armed h up. (tt, tt);
  timed = λ c past i n b armed h up at. works_ideal s c past i _ _ h.0 (times_works (IsPlaced c past i) (Server i) (c.hosts i).state c.clock n b);
  woken = λ c past i armed h up. works_ideal s c past i _ _ h.0 (wakes_works (IsPlaced c past i) (Server i) (c.hosts i).state c.clock);
  started = λ c past i after fall h down.
      let f : Begun ServerState = begun_by_disk (Server i) (c.hosts i).state after fall in
      let ls : List Line = risen_lines (Server i) c.clock c.count f in
      works_ideal s c past i _ _ h.0 (starts_works (IsPlaced c past i) (Server i) (c.hosts i).state c.clock c.count f
      (disk_works (IsPlaced c past i) (Server i) (c.hosts i).state after fall ls (cut_by (λ m. IsPlaced c past i m [] ls) (c.hosts i).down fall down (cut_placed s c past i ls h (inl refl))) (risen_from (Server i) c.clock c.count f)));
  early = λ c past i fall h down. (tt, tt);
  midway = λ c past i after fall h down. stays_ideal s c past i after fall (lines.Fault (Server i)) h down (own_from i) (inl refl);
  full = λ c past i after fall h down. stays_ideal s c past i after fall (lines.Full (Server i)) h down (own_from i) (inl refl);
}

pub cuts_kept : (s : Script) → IsKept (HeldCuts s)
cuts_kept s c past x so h = (held_kept s c past x so h.0, each_moved KnownCuts (Behind CutsIn) cuts_moves c past x so (h.0.0.0, h.1))

pub cuts_first : (s : Script) → HeldCuts s (start s) (set_up_entry s ∷ [])
cuts_first s = ((asked_first s, volumes_first s), λ i m clock hit e. absurd cc)

-- each entry of a run is what each step gives
pub run_each_from : (P : Cell → List Entry → Type 0) (G : List Entry → Entry → Type 0) → IsKept P → ((c : Cell) (past : List Entry) (x : Input) → IsSoundLoc c.loc.state → P c past → G past (moved c x).entry) → (xs : List Input) (c : Cell) (past es : List Entry) (end : Cell) → IsSoundLoc c.loc.state → P c past → Leads c xs es end → EachEntry G past es
run_each_from P G w g [] c past [] end so h r = tt
run_each_from P G w g [] c past (e ∷ es) end so h r = absurd r
run_each_from P G w g (x ∷ xs) c past [] end so h r = absurd r
run_each_from P G w g (x ∷ xs) c past (e ∷ es) end so h r =
    subst (λ (y : Entry). EachEntry G past (y ∷ es)) (sym r.0) (g c past x so h, run_each_from P G w g xs (moved c x).cell ((moved c x).entry ∷ past) es end (sound_moved c past x so) (w c past x so h) r.1)

pub run_each : (P : Cell → List Entry → Type 0) (G : List Entry → Entry → Type 0) → IsKept P → ((c : Cell) (past : List Entry) (x : Input) → IsSoundLoc c.loc.state → P c past → G past (moved c x).entry) → (xs : List Input) (s : Script) (past es : List Entry) (end : Cell) → P (start s) past → Leads (start s) xs es end → EachEntry G past es
run_each P G w g xs s past es end h r = run_each_from P G w g xs (start s) past es end (first_sound s) h r

pub run_ideal : ChangesAreIdeal
run_ideal s h end r =
    run_each (HeldCuts s) (λ past e. EachLine (IsIdeal s) e.actor past [] e.lines) (cuts_kept s) (λ c past x so k. each_moved (HeldCuts s) (IdealStep s) (ideal_moves s) c past x so k) r.inputs s (set_up_entry s ∷ []) h end (cuts_first s) r.leads
