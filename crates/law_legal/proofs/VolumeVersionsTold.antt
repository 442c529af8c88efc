-- What each entry of a run tells of versions: nothing, or one change, which is that of the ideal volume; however many servers a cell has.
use Rattle.spec_model.specs.Calls.{key_of}
use Rattle.law_legal.proofs.ActCallsInRuns.{sought_acts_in}
use Rattle.law_legal.proofs.DatabaseDoes.{IsSoundLoc}
use Rattle.spec_history.specs.declared.lines.Line.{Line}
use Rattle.spec_history.specs.declared.lines.Line.TheVariants as lines
use Rattle.spec_history.specs.declared.scripts.Script.{Script}
use Rattle.spec_ideal.specs.Tables.{Table}
use Rattle.spec_ideal.specs.Volumes.{Volume, counted, edited_all, versions_by}
use Rattle.law_legal.proofs.ActSteps.{begins_acts, given_acts, waits_acts, missed_acts}
use Rattle.law_legal.proofs.ActLines.{is_of}
use Rattle.law_legal.proofs.VersionsAscend.{Ascend, HeldAscend, ascend_first, ascend_kept}
use Rattle.law_legal.proofs.OwedPasses.{all_lines}
use Rattle.law_legal.proofs.VolumeChanges.{HeldCuts, IsPlaced, change_ideal, cut_placed, cuts_first, cuts_kept, none_first}
use Rattle.law_legal.proofs.ServerChooses.{AreFrom, Works, disk_works, is_from, risen_from, risen_lines, serves_works, starts_works, times_works, wakes_works}
use Rattle.law_legal.proofs.VolumeEdits.{Grow, SoundIn, edits_told, sound_same}
use Rattle.law_legal.proofs.BaseWords.{IsFine}
use Rattle.law_legal.proofs.ClientCallsByTable.{IsPlaced as IsPlaced', placed, server_at}
use Rattle.law_legal.proofs.VolumesAreIdeal.{AreBlank, Changes, Held, VolumesIn, blank_by, blank_last, blow_blank, changes_all, cut_by, from_blank, of_blank, own_from, loc_blank}
use Rattle.law_legal.proofs.CallKeysOnce.{IsKnown, any_told, by_key}
use Rattle.law_legal.proofs.RunWalk.{EachMove, IsKept, each_moved}
use Rattle.law_legal.proofs.ServerSaves.{first_on}
use Rattle.law_legal.specs.Ideal.{IsPutAt, set_up_entry, volume_after}
use Rattle.law_legal.specs.Legal.{IsOfRestart, IdealChange}
use Rattle.law_legal.specs.Past.{lines_of, onto}
use Rattle.afs_num.specs.declared.histories.Actor.TheVariants as actors
use Rattle.afs_num.specs.declared.histories.Version.{Version}
use Rattle.afs_num.specs.declared.types.Key.{Key}
use Rattle.afs_num.specs.declared.types.Node.TheVariants.{Server}
use Rattle.spec_records.specs.Durable.{Stored}
use Rattle.law_legal.proofs.RunSteps.{server_stays}
use Rattle.spec_rows.specs.Steps.{Begun}
use Rattle.spec_rows.specs.States.{ServerState}
use Rattle.spec_rows.specs.Runs.{Cell, Entry, Fall, Input, Moved, at_rest, begun_by_disk, in_boot, locations, moved, start}
use Rattle.spec_rows.specs.ServerRow.{Change, versions_made, versioned}
use Rattle.std.proofs.Common.{◌≡◌, ℕ, ◌⊎◌, inl, inr, Bool, true, cond, eq-eqb, length, List, [], ◌∷◌, ◌++◌, Option, Some, None, refl, sym, ap, subst, ◌∙◌}
use Rattle.std.specs.Prelude.{⊤}

-- ---- an entry

-- a server's entry tells this change, and of versions nothing else
pub record IsSaved (s : Script) (past : List Entry) (e : Entry) : Type 0 where
  pub server : ℕ
  pub actor : e.actor ≡ actors.Node (Server server)
  pub key : Key
  pub count : ℕ
  pub front : List Line
  pub rest : List Line
  pub versions : List Version
  pub split : e.lines ≡ front ++ (lines.Change (Server server) key count ∷ versioned versions rest)
  pub before : AreBlank front
  pub behind : AreBlank rest
  pub from_front : AreFrom (Server server) front
  pub from_rest : AreFrom (Server server) rest
  pub ideal : IdealChange s (Server server) key count past (onto [] front) (versioned versions rest)
  pub are : versions ≡ versions_by ideal.id ideal.edits ideal.before
  pub grow : Grow ideal.id versions (lines.Change (Server server) key count ∷ onto (lines_of past) front)
  pub after : volume_after ideal.id (e ∷ past) ≡ Some (counted (edited_all ideal.id ideal.edits ideal.before))

-- what is told by now agrees with the ideal volumes, which are at their servers
pub record IsAgreed (s : Script) (past : List Entry) : Type 0 where
  pub sound : (id : ℕ) → SoundIn id (volume_after id past) (lines_of past)
  pub ascend : Ascend (lines_of past)
  pub fine : (id : ℕ) (v : Volume) → volume_after id past ≡ Some v → IsFine v
  pub home : (id : ℕ) (v : Volume) → volume_after id past ≡ Some v → IsPutAt id (Server (server_at (locations s) id)) s.volumes

-- each entry but the oldest, which is the set-up, tells no version, or such a change
abbrev pub IsTold : Script → Entry → List Entry → Type 0
IsTold s e past = (AreBlank e.lines ⊎ IsSaved s past e) ⊎ (past ≡ [])

abbrev pub AreRecorded : Script → List Entry → Type 0
AreRecorded s [] = ⊤
AreRecorded s (e ∷ past) = (IsTold s e past × IsAgreed s (e ∷ past)) × AreRecorded s past

home_by : (s : Script) (c : Cell) (past : List Entry) (id : ℕ) (v : Volume) → VolumesIn s c past → volume_after id past ≡ Some v → IsPlaced' id s.volumes (locations s) → IsPutAt id (Server (server_at (locations s) id)) s.volumes
home_by s c past id v V at (inl x) = x
home_by s c past id v V at (inr away) = let no_ : None ≡ Some v = sym (V.none id (λ i. away (Server i))) ∙ at in absurd cc

pub agreed : (s : Script) (c : Cell) (past : List Entry) → VolumesIn s c past → Ascend (lines_of past) → IsAgreed s past
agreed s c past V a =
    let home : (id : ℕ) (v : Volume) → volume_after id past ≡ Some v → IsPutAt id (Server (server_at (locations s) id)) s.volumes = λ id v at. home_by s c past id v V at (placed id s.volumes) in
    record { sound = V.sound; ascend = a; fine = λ id v at. V.fine (server_at (locations s) id) id v (V.ideal (server_at (locations s) id) id (home id v at) ∙ at); home = home }

-- ---- what a step tells

abbrev ToldStep : Script → Cell → List Entry → Moved → Type 0
ToldStep s c past m = AreBlank m.entry.lines ⊎ IsSaved s past m.entry

saved_from : (s : Script) (past : List Entry) (e : Entry) (i : ℕ) (k : Key) (front rest : List Line) (vs : List Version) → e.volumes ≡ [] → e.actor ≡ actors.Node (Server i) → e.lines ≡ front ++ (lines.Change (Server i) k (length vs) ∷ versioned vs rest) → AreFrom (Server i) front → AreFrom (Server i) rest
    → IdealChange s (Server i) k (length vs) past (onto [] front) (versioned vs rest) → ((id : ℕ) → SoundIn id (volume_after id past) (lines_of past)) → IsSaved s past e
saved_from s past e i k front rest vs none actor split from_front from_rest I sound =
    let before : AreBlank front = blank_by (is_from (Server i)) (from_blank (Server i)) front from_front in
    let behind : AreBlank rest = blank_by (is_from (Server i)) (from_blank (Server i)) rest from_rest in
    let are : vs ≡ versions_by I.id I.edits I.before = sym (first_on vs rest (none_first rest behind)) ∙ I.versions in
    let base : List Line = lines.Change (Server i) k (length vs) ∷ onto (lines_of past) front in
    let N : Volume = counted (edited_all I.id I.edits I.before) in
    let q : Changes I.id N past e = changes_all past e (Server i) k I.user I.call I.id I.before I.edits I.shown front rest none (subst (λ (ws : List Version). e.lines ≡ front ++ (lines.Change (Server i) k (length ws) ∷ versioned ws rest)) are split) before behind I.one I.of_volume I.at I.result (sound I.id) in
    record {
      server = i;
      actor = actor;
      key = k;
      count = length vs;
      front = front;
      rest = rest;
      versions = vs;
      split = split;
      before = before;
      behind = behind;
      from_front = from_front;
      from_rest = from_rest;
      ideal = I;
      are = are;
      grow = subst (λ (ws : List Version). Grow I.id ws base) (sym are)
          (edits_told I.id I.edits I.before base (sound_same I.id (Some I.before) (lines_of past) base (λ n u. blank_last _ front (lines_of past) before) (subst (λ (o : Option Volume). SoundIn I.id o (lines_of past)) I.at (sound I.id)))).grow;
      after = q.after I.id ∙ ap (λ (t : Bool). cond t (Some N) (volume_after I.id past)) (eq-eqb I.id I.id refl);
    }

works_saved : (s : Script) (c : Cell) (past : List Entry) (i : ℕ) (b : Table Stored) (e : Entry) → Held s c past → e.volumes ≡ [] → e.actor ≡ actors.Node (Server i) → Works (IsPlaced c past i) (Server i) (c.hosts i).state b e.lines → AreBlank e.lines ⊎ IsSaved s past e
works_saved s c past i b e h none actor (inl w) = inl (blank_by (is_from (Server i)) (from_blank (Server i)) e.lines w.lines)
works_saved s c past i b e h none actor (inr S) =
    inr (saved_from s past e i (key_of S.head) S.front S.rest (versions_made S.change) none actor S.split S.before S.behind (change_ideal s c past i b e.lines h S) h.1.sound)

acts_told : (s : Script) (past : List Entry) (n : ℕ) (e : Entry) → all_lines (is_of n) e.lines ≡ true → AreBlank e.lines ⊎ IsSaved s past e
acts_told s past n e h = inl (blank_by (is_of n) (of_blank n) e.lines h)

stays_saved : (s : Script) (c : Cell) (past : List Entry) (i : ℕ) (after : Bool) (fall now : Fall) (l : Line) → HeldCuts s c past → (c.hosts i).down ≡ Some fall → is_from (Server i) l ≡ true → IsOfRestart (Server i) (l ∷ []) → ToldStep s c past (server_stays c i (begun_by_disk (Server i) (c.hosts i).state after fall) l now)
stays_saved s c past i after fall now l h down from ends =
    works_saved s c past i _ (server_stays c i (begun_by_disk (Server i) (c.hosts i).state after fall) l now).entry h.0 refl refl (disk_works (IsPlaced c past i) (Server i) (c.hosts i).state after fall (l ∷ []) (cut_by (λ m. IsPlaced c past i m [] (l ∷ [])) (c.hosts i).down fall down (cut_placed s c past i (l ∷ []) h ends)) (rw from refl))

told_moves : (s : Script) → EachMove (HeldCuts s) (ToldStep s)
told_moves s = record {
  void = λ c past h. inl refl;
  ticked = λ c past n h. inl refl;
  begun = λ c past n act h r z. acts_told s past n _ (begins_acts n (c.clients n) c.clock act r z).of;
  told = λ c past n place m h at to un. acts_told s past n _ (given_acts (by_key (IsKnown h.0.0.0.keys.callees c.clients)) any_told n (c.clients n) c.clock place m (h.0.0.0.keys.replies n) (h.0.0.1.seats n)).of;
  sought = λ c past n place m k h at to z e. acts_told s past n _ (sought_acts_in s c past n place m k h.0.0.1 at z e).of;
  missed = λ c past n k h r z. acts_told s past n _ (missed_acts n (c.clients n) k r z).of;
  waited = λ c past n act h r. acts_told s past n _ (waits_acts n (c.clients n) act r).of;
  fallen = λ c past n h. inl refl;
  risen = λ c past n h. inl refl;
  loc = λ c past l ls ms h st. inl (loc_blank ls st.lines);
  served = λ c past i place m armed h up at to. works_saved s c past i _ _ h.0 refl refl (serves_works (IsPlaced c past i) (Server i) (c.hosts i).state c.clock place m (λ rest. ((place, at), inl (record { place = place; front' = refl; at = at; up = up }))));
  cut = λ c past i place m t h up at to. inl (blow_blank i place t.stops);
  stopped = λ c past i h up. inl refl;
  stop_set = λ c past i calls pick armed h up. inl refl;
  fail_set = λ c past i call armed h up. inl refl;
  timed = λ c past i n b armed h up at. works_saved s c past i _ _ h.0 refl refl (times_works (IsPlaced c past i) (Server i) (c.hosts i).state c.clock n b);
  woken = λ c past i armed h up. works_saved s c past i _ _ h.0 refl refl (wakes_works (IsPlaced c past i) (Server i) (c.hosts i).state c.clock);
  started = λ c past i after fall h down.
      let f : Begun ServerState = begun_by_disk (Server i) (c.hosts i).state after fall in
      let ls : List Line = risen_lines (Server i) c.clock c.count f in
      works_saved s c past i _ _ h.0 refl refl (starts_works (IsPlaced c past i) (Server i) (c.hosts i).state c.clock c.count f
      (disk_works (IsPlaced c past i) (Server i) (c.hosts i).state after fall ls (cut_by (λ m. IsPlaced c past i m [] ls) (c.hosts i).down fall down (cut_placed s c past i ls h (inl refl))) (risen_from (Server i) c.clock c.count f)));
  early = λ c past i fall h down. inl refl;
  midway = λ c past i after fall h down. stays_saved s c past i after fall in_boot (lines.Fault (Server i)) h down (own_from i) (inl refl);
  full = λ c past i after fall h down. stays_saved s c past i after fall at_rest (lines.Full (Server i)) h down (own_from i) (inl refl);
}

-- ---- every step

pub record Recorded (s : Script) (c : Cell) (past : List Entry) : Type 0 where
  pub cuts : HeldCuts s c past
  pub ascends : HeldAscend s c past
  pub all : AreRecorded s past

pub told_now : (s : Script) (c : Cell) (past : List Entry) (x : Input) → IsSoundLoc c.loc.state → Recorded s c past → AreBlank (moved c x).entry.lines ⊎ IsSaved s past (moved c x).entry
told_now s c past x so h = each_moved (HeldCuts s) (ToldStep s) (told_moves s) c past x so h.cuts

pub recorded_kept : (s : Script) → IsKept (Recorded s)
recorded_kept s c past x so h =
    let k : HeldAscend s (moved c x).cell ((moved c x).entry ∷ past) = ascend_kept s c past x so h.ascends in
    record { cuts = cuts_kept s c past x so h.cuts; ascends = k; all = ((inl (told_now s c past x so h), agreed s (moved c x).cell ((moved c x).entry ∷ past) k.0.1 k.1), h.all) }

pub recorded_first : (s : Script) → Recorded s (start s) (set_up_entry s ∷ [])
recorded_first s = let k : HeldAscend s (start s) (set_up_entry s ∷ []) = ascend_first s in record { cuts = cuts_first s; ascends = k; all = ((inr refl, agreed s (start s) (set_up_entry s ∷ []) k.0.1 k.1), tt) }

pub told_at : (s : Script) (newer : List Entry) (e d : Entry) (older : List Entry) → AreRecorded s (newer ++ (e ∷ (d ∷ older))) → AreBlank e.lines ⊎ IsSaved s (d ∷ older) e
told_at s [] e d older h = elim h.0.0 [
  | inl x ↦ x
  | inr z ↦ absurd cc
]
told_at s (y ∷ newer) e d older h = told_at s newer e d older h.1

pub below_agreed : (s : Script) (newer : List Entry) (at d : Entry) (older : List Entry) → AreRecorded s (newer ++ (at ∷ (d ∷ older))) → IsAgreed s (d ∷ older)
below_agreed s [] at d older h = h.1.0.1
below_agreed s (y ∷ newer) at d older h = below_agreed s newer at d older h.1
