-- The versions of an object ascend, and its server holds the last one, however many servers a cell has.
use Rattle.spec_model.specs.Calls.{key_of}
use Rattle.law_legal.proofs.ActWalks.{onto_last}
use Rattle.law_legal.proofs.VolumesAreIdeal.{at_home, AreBlank, Held, IsCalled, VolumesIn, blank_by, blank_last, blow_blank, cut_by, cut_call, from_blank, held_kept, is_blank, of_blank, own_from, saved_at, volumes_first, volumes_moves, loc_blank}
use Rattle.law_legal.proofs.OwedLoadBreaks.{onto_both}
use Rattle.spec_history.specs.declared.lines.Line.{Line}
use Rattle.spec_history.specs.declared.lines.Line.TheVariants as lines
use Rattle.spec_history.specs.declared.scripts.Script.{Script}
use Rattle.spec_ideal.specs.Tables.{Table}
use Rattle.spec_ideal.specs.Volumes.{Volume}
use Rattle.law_legal.proofs.ActSteps.{begins_acts, given_acts, waits_acts, missed_acts}
use Rattle.law_legal.proofs.ActLines.{is_of}
use Rattle.law_legal.proofs.OwedPasses.{all_lines}
use Rattle.law_legal.proofs.BaseLaws.{IfCall, at_put, both, each_at}
use Rattle.law_legal.proofs.ServerBoots.{disk_front}
use Rattle.law_legal.proofs.ServerChooses.{Works, disk_works, is_from, risen_from, risen_lines, serves_works, starts_works, times_works, wakes_works}
use Rattle.law_legal.proofs.VolumeEdits.{Ones, Sound, SoundIn, Tops, edits_told, fid_at, index_in, last_of, on_top, ones, sound_same, tops}
use Rattle.law_legal.proofs.CallKeysOnce.{IsKnown, any_told, by_key}
use Rattle.law_legal.proofs.BaseWords.{IsOne}
use Rattle.law_legal.proofs.RunSetUp.{FirstFacts, first_facts}
use Rattle.law_legal.proofs.RunWalk.{Behind, EachMove, IsKept as IsKeptBy, each_moved, run_keeps}
use Rattle.law_legal.proofs.ActCallsInRuns.{asked_first, sought_acts_in}
use Rattle.law_legal.proofs.ServerSaves.{onto_versioned, versions_by_next}
use Rattle.law_legal.proofs.VersionsLatest.{has_onto, holding_by, later_by}
use Rattle.law_legal.specs.Ideal.{HasVersion, first_lines, IsPutAt, last_version, set_up_entry, versions_in, volume_after}
use Rattle.law_legal.specs.Laws.{IsHeldSince, told_by_restart}
use Rattle.law_legal.specs.Once.{past_of}
use Rattle.law_legal.specs.Past.{lines_of, onto}
use Rattle.law_legal.specs.ServerParts.{VersionsAreKept}
use Rattle.afs_num.specs.declared.histories.Body.{Body}
use Rattle.afs_num.specs.declared.histories.Version.{Version}
use Rattle.afs_num.specs.declared.messages.Received.TheVariants.{Whole}
use Rattle.afs_num.specs.declared.types.Fid.{Fid}
use Rattle.afs_num.specs.declared.types.Key.{Key}
use Rattle.afs_num.specs.declared.types.Node.{Node}
use Rattle.afs_num.specs.declared.types.Node.TheVariants.{Client, Server}
use Rattle.spec_records.specs.Durable.{Stored}
use Rattle.spec_rows.specs.ClientRow.{begin_row, client_row, timeout_row, sought_by, seek_timeout_row}
use Rattle.law_legal.proofs.RunSteps.{blow_line, server_stays}
use Rattle.spec_rows.specs.Steps.{Begun}
use Rattle.spec_rows.specs.Runs.{Cell, Entry, Fall, Moved, RunsTo, at_rest, begun_by_disk, first_volumes, in_boot, start, unarmed, ServerHost}
use Rattle.spec_rows.specs.ServerRow.{Change, versions_made, versioned}
use Rattle.spec_rows.specs.States.{volume_in, ServerState}
use Rattle.std.proofs.Common.{suc, ◌≡◌, ℕ, ◌≤◌, inl, inr, Bool, true, length, List, [], ◌∷◌, Option, Some, refl, sym, ap, subst, ◌∙◌}

-- ---- lines that tell no version

blank_line : (f : Fid) (i : ℕ) (b : Body) (l : Line) (o : List Line) → is_blank l ≡ true → HasVersion f i b (l ∷ o) → HasVersion f i b o
blank_line f i b (lines.Change q k n) o h x = x
blank_line f i b (lines.Version v) o h x = absurd cc
blank_line f i b l o h x = x

blank_has : (f : Fid) (i : ℕ) (b : Body) (ls o : List Line) → AreBlank ls → HasVersion f i b (onto o ls) → HasVersion f i b o
blank_has f i b [] o h x = x
blank_has f i b (l ∷ ls) o h x = let q = both (is_blank l) (all_lines is_blank ls) h in blank_line f i b l o q.0 (blank_has f i b ls (l ∷ o) q.1 x)

-- each version is at most the last one of its object, and there is one body under each index
pub record Ascend (ls : List Line) : Type 0 where
  pub top : Tops ls
  pub one : Ones ls

blank_ascend : (ls o : List Line) → AreBlank ls → Ascend o → Ascend (onto o ls)
blank_ascend ls o h a = record {
  top = λ f i b x. subst (λ (v : Option Version). i ≤ index_in v) (sym (blank_last f ls o h)) (a.top f i b (blank_has f i b ls o h x));
  one = λ f i b d x y. a.one f i b d (blank_has f i b ls o h x) (blank_has f i d ls o h y);
}

under_change : (q : Node) (k : Key) (n : ℕ) (o : List Line) → Ascend o → Ascend (lines.Change q k n ∷ o)
under_change q k n o a = record { top = λ f i b x. a.top f i b x; one = λ f i b d x y. a.one f i b d x y }

-- ---- a step of a server

abbrev pub AscendIn : Cell → List Entry → Type 0
AscendIn c past = Ascend (lines_of past)

abbrev pub HeldAscend : Script → Cell → List Entry → Type 0
HeldAscend s c past = Held s c past × AscendIn c past

works_ascend : (s : Script) (c : Cell) (past : List Entry) (i : ℕ) (b : Table Stored) (ls : List Line) → HeldAscend s c past → Works (IsCalled c.sent) (Server i) (c.hosts i).state b ls → Ascend (onto (lines_of past) ls)
works_ascend s c past i b ls h (inl w) = blank_ascend ls (lines_of past) (blank_by (is_from (Server i)) (from_blank (Server i)) ls w.lines) h.1
works_ascend s c past i b ls h (inr S) =
    let ch : Change = S.change in
    let v : Volume = ch.before.volume in
    let vs : List Version = versions_made ch in
    let before : AreBlank S.front = blank_by (is_from (Server i)) (from_blank (Server i)) S.front S.before in
    let behind : AreBlank S.rest = blank_by (is_from (Server i)) (from_blank (Server i)) S.rest S.behind in
    let l : Line = lines.Change (Server i) (key_of S.head) (length vs) in
    let base : List Line = l ∷ onto (lines_of past) S.front in
    let on : onto (lines_of past) ls ≡ onto (on_top vs base) S.rest = ap (onto (lines_of past)) S.split ∙ (onto_both (lines_of past) S.front (l ∷ versioned vs S.rest) ∙ onto_versioned vs S.rest base) in
    let at : volume_after ch.id past ≡ Some v = (saved_at s c.hosts c.sent past i b ls h.0.1 h.0.0.0.hears.told S).at in
    let old : Sound ch.id v base = sound_same ch.id (Some v) (lines_of past) base (λ n u. blank_last (fid_at ch.id n u) S.front (lines_of past) before) (subst (λ (o : Option Volume). SoundIn ch.id o (lines_of past)) at (h.0.1.sound ch.id)) in
    let a : Ascend (onto (lines_of past) S.front) = blank_ascend S.front (lines_of past) before h.1 in
    let g = (edits_told ch.id ch.edits v base old).grow in
    let top : Tops base = (under_change (Server i) (key_of S.head) (length vs) (onto (lines_of past) S.front) a).top in
    let one : Ones base = (under_change (Server i) (key_of S.head) (length vs) (onto (lines_of past) S.front) a).one in
    let now : Ascend (on_top vs base) = record { top = tops ch.id vs base g top; one = ones ch.id vs base (versions_in base) (λ f. last_of f base) (versions_by_next ch.id ch.edits v base old) g top one } in
    subst Ascend (sym on) (blank_ascend S.rest (on_top vs base) behind now)

acts_ascend : (past : List Entry) (n : ℕ) (ls : List Line) → Ascend (lines_of past) → all_lines (is_of n) ls ≡ true → Ascend (onto (lines_of past) ls)
acts_ascend past n ls a h = blank_ascend ls (lines_of past) (blank_by (is_of n) (of_blank n) ls h) a

fall_ascend : (s : Script) (c : Cell) (past : List Entry) (i : ℕ) (after : Bool) (fall : Fall) (rest : List Line) → HeldAscend s c past → (c.hosts i).down ≡ Some fall → all_lines (is_from (Server i)) rest ≡ true → Works (IsCalled c.sent) (Server i) (c.hosts i).state (begun_by_disk (Server i) (c.hosts i).state after fall).state.lasting.volumes ((begun_by_disk (Server i) (c.hosts i).state after fall).before rest)
fall_ascend s c past i after fall rest h down from = disk_works (IsCalled c.sent) (Server i) (c.hosts i).state after fall rest (cut_by (IfCall (IsOne c.sent)) (c.hosts i).down fall down (cut_call s c past i h.0)) from

stays_ascend : (s : Script) (c : Cell) (past : List Entry) (i : ℕ) (after : Bool) (fall now : Fall) (l : Line) → HeldAscend s c past → (c.hosts i).down ≡ Some fall → is_from (Server i) l ≡ true → Behind AscendIn c past (server_stays c i (begun_by_disk (Server i) (c.hosts i).state after fall) l now)
stays_ascend s c past i after fall now l h down from = works_ascend s c past i _ _ h (fall_ascend s c past i after fall (l ∷ []) h down (rw from refl))

ascend_moves : (s : Script) → EachMove (HeldAscend s) (Behind AscendIn)
ascend_moves s = record {
  void = λ c past h. blank_ascend (lines.Void ∷ []) (lines_of past) refl h.1;
  ticked = λ c past n h. blank_ascend (lines.Tick (suc n) ∷ []) (lines_of past) refl h.1;
  begun = λ c past n act h r z. acts_ascend past n (begin_row (Client n) (c.clients n) c.clock act).lines h.1 (begins_acts n (c.clients n) c.clock act r z).of;
  told = λ c past n place m h at to un. acts_ascend past n (client_row (Client n) (c.clients n) c.clock place (Whole m)).lines h.1 (given_acts (by_key (IsKnown h.0.0.0.keys.callees c.clients)) any_told n (c.clients n) c.clock place m (h.0.0.0.keys.replies n) (h.0.0.1.seats n)).of;
  sought = λ c past n place m k h at to z e. acts_ascend past n (sought_by (Client n) (c.clients n) c.clock place k m.head m.carried).lines h.1 (sought_acts_in s c past n place m k h.0.0.1 at z e).of;
  missed = λ c past n k h r z. acts_ascend past n (seek_timeout_row (Client n) (c.clients n) k).lines h.1 (missed_acts n (c.clients n) k r z).of;
  waited = λ c past n act h r. acts_ascend past n (timeout_row (Client n) (c.clients n) act).lines h.1 (waits_acts n (c.clients n) act r).of;
  fallen = λ c past n h. blank_ascend (lines.Crash (Client n) ∷ []) (lines_of past) refl h.1;
  risen = λ c past n h. blank_ascend (lines.Restart (Client n) (c.clients n).epoch ∷ []) (lines_of past) refl h.1;
  loc = λ c past l ls ms h st. blank_ascend ls (lines_of past) (loc_blank ls st.lines) h.1;
  served = λ c past i place m armed h up at to. works_ascend s c past i _ _ h (serves_works (IsCalled c.sent) (Server i) (c.hosts i).state c.clock place m (λ rest. each_at (IfCall (IsOne c.sent)) c.sent place m at h.0.0.1.ones));
  cut = λ c past i place m t h up at to. blank_ascend (lines.Given place ∷ blow_line i t.stops ∷ []) (lines_of past) (blow_blank i place t.stops) h.1;
  stopped = λ c past i h up. blank_ascend (lines.Crash (Server i) ∷ []) (lines_of past) refl h.1;
  stop_set = λ c past i calls pick armed h up. blank_ascend (lines.Stop (Server i) calls pick ∷ []) (lines_of past) refl h.1;
  fail_set = λ c past i call armed h up. blank_ascend (lines.Fail (Server i) call ∷ []) (lines_of past) refl h.1;
  timed = λ c past i n b armed h up at. works_ascend s c past i _ _ h (times_works (IsCalled c.sent) (Server i) (c.hosts i).state c.clock n b);
  woken = λ c past i armed h up. works_ascend s c past i _ _ h (wakes_works (IsCalled c.sent) (Server i) (c.hosts i).state c.clock);
  started = λ c past i after fall h down.
      let f : Begun ServerState = begun_by_disk (Server i) (c.hosts i).state after fall in
      works_ascend s c past i _ _ h (starts_works (IsCalled c.sent) (Server i) (c.hosts i).state c.clock c.count f (fall_ascend s c past i after fall (risen_lines (Server i) c.clock c.count f) h down (risen_from (Server i) c.clock c.count f)));
  early = λ c past i fall h down. blank_ascend (lines.Fault (Server i) ∷ []) (lines_of past) refl h.1;
  midway = λ c past i after fall h down. stays_ascend s c past i after fall in_boot (lines.Fault (Server i)) h down (own_from i);
  full = λ c past i after fall h down. stays_ascend s c past i after fall at_rest (lines.Full (Server i)) h down (own_from i);
}

pub ascend_kept : (s : Script) → IsKeptBy (HeldAscend s)
ascend_kept s c past x so h = (held_kept s c past x so h.0, each_moved (HeldAscend s) (Behind AscendIn) (ascend_moves s) c past x so h)

pub ascend_first : (s : Script) → HeldAscend s (start s) (set_up_entry s ∷ [])
ascend_first s = let facts : FirstFacts (first_volumes s.volumes) (onto [] (first_lines s.volumes)) = first_facts s.volumes in ((asked_first s, volumes_first s), record { top = facts.top; one = facts.one })

-- ---- what a server holds of a version

kept_in : (s : Script) (c : Cell) (past : List Entry) (i : ℕ) (v : Version) → VolumesIn s c past → Ascend (lines_of past) → IsPutAt v.fid.volume (Server i) s.volumes → HasVersion v.fid v.index v.body (lines_of past) → IsHeldSince v (c.hosts i).state.lasting.volumes (lines_of past)
kept_in s c past i v V a at told =
    let id : ℕ = v.fid.volume in
    let l = later_by v.fid v.index v.body (lines_of past) (last_version v.fid (lines_of past)) refl told a.top a.one in
    let h = holding_by v.fid l.last (volume_in id (c.hosts i).state.lasting.volumes) (lines_of past) (subst (λ (o : Option Volume). SoundIn id o (lines_of past)) (sym (V.ideal i id at)) (V.sound id)) l.is in
    record { last = l.last; is_last = l.is; since = l.since; same = l.same; volume = h.volume; at = h.at; held = h.held }

-- where the record of the interrupted step is found, and the disk fails behind it
kept_behind : (s : Script) (c : Cell) (past : List Entry) (i : ℕ) (v : Version) (fall : Fall) → HeldAscend s c past → (c.hosts i).down ≡ Some fall → IsPutAt v.fid.volume (Server i) s.volumes → HasVersion v.fid v.index v.body (lines_of past)
    → IsHeldSince v (begun_by_disk (Server i) (c.hosts i).state true fall).state.lasting.volumes (lines_of (told_by_restart i (c.hosts i) fall ∷ past))
kept_behind s c past i v fall h down at told =
    let f : Begun ServerState = begun_by_disk (Server i) (c.hosts i).state true fall in
    let m : Moved = server_stays c i f (lines.Fault (Server i)) in_boot in
    let V : VolumesIn s m.cell (m.entry ∷ past) = (volumes_moves s).midway c past i true fall h.0 down in
    let a : Ascend (lines_of (m.entry ∷ past)) = (ascend_moves s).midway c past i true fall h down in
    let x : ServerHost = record { state = f.state; down = Some in_boot; armed = unarmed } in
    let k : IsHeldSince v (m.cell.hosts i).state.lasting.volumes (lines_of (m.entry ∷ past)) = kept_in s m.cell (m.entry ∷ past) i v V a at (has_onto v.fid v.index v.body m.entry.lines (lines_of past) told) in
    let l : lines_of (m.entry ∷ past) ≡ lines.Fault (Server i) ∷ onto (lines_of past) (f.before []) =
    ap (onto (lines_of past)) ((disk_front (Server i) (c.hosts i).state true fall).before (lines.Fault (Server i) ∷ [])) ∙ onto_last (lines_of past) (f.before []) (lines.Fault (Server i)) in
    let here : (m.cell.hosts i).state.lasting.volumes ≡ f.state.lasting.volumes = at_put i i (λ (y : ServerHost). y.state.lasting.volumes ≡ f.state.lasting.volumes) x c.hosts (λ same. refl) (λ other. absurd (other refl)) in
    record { last = k.last; is_last = sym (ap (last_version v.fid) l) ∙ k.is_last; since = k.since; same = k.same; volume = k.volume; at = ap (volume_in v.fid.volume) (sym here) ∙ k.at; held = k.held }

ascend_at : (s : Script) (h : List Entry) (end : Cell) → RunsTo h s end → HeldAscend s end (past_of (set_up_entry s ∷ []) h)
ascend_at s h end r = run_keeps (HeldAscend s) (ascend_kept s) r.inputs s (set_up_entry s ∷ []) h end (ascend_first s) r.leads

pub run_versions : VersionsAreKept
run_versions s h end r i v home told =
    let past : List Entry = past_of (set_up_entry s ∷ []) h in
    let k : HeldAscend s end past = ascend_at s h end r in
    let at : IsPutAt v.fid.volume (Server i) s.volumes = at_home s v.fid.volume (Server i) (lines_of past) home in
    (kept_in s end past i v k.0.1 k.1 at told, λ fall down. kept_behind s end past i v fall k down at told)
