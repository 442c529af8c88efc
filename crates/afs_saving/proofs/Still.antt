-- What a step does to the disk: nothing, or what the commit of its record does.
use Rattle.std.proofs.Common.{◌≡◌, ◌≤◌, ◌+◌, ◌⊎◌, inl, inr, ⊎_elim, ℕ, List, Option, Some, None, refl, sym, subst, ◌∙◌, arith}
use Rattle.std.specs.Prelude.{◌↔◌, Result, Ok, Err, IsErrOf, IsSome, OnOk}
use Rattle.std.specs.Result.{IsErrAnd}
use Rattle.std.proofs.lemmas.Result.{err_from_is_err_and}
use Rattle.afs_disk.specs.Disk.{PassesAll, Rose, Setting, Trips}
use Rattle.afs_disk.specs.Words.{LeavesOnlyBy, SameDiskBy}
use Rattle.afs_disk.specs.declared.disk.Disk.{Ghosts}
use Rattle.afs_journal.specs.Words.{SameCountsBy}
use Rattle.afs_store.specs.Folding.{Folding}
use Rattle.afs_store.specs.Stores.{LeftAround}
use Rattle.afs_journal.specs.Records.{whole_records}
use Rattle.afs_journal.proofs.Broken.{left_from, reached_from}
use Rattle.afs_saving.specs.Saving.{calls_for, IsStill, IsWritten, LeavesPrepared, OnDisk, Ran}
use Rattle.afs_server_parts.specs.declared.faults.NodeFault.{NodeFault}
use Rattle.afs_server_parts.specs.declared.faults.NodeFault.TheVariants as nodes

-- a fault is handed up
pub handed_up : {T : Type 0} (r : Result T NodeFault) (fault : NodeFault) → IsErrAnd r (λ (e : NodeFault). e ≡ fault) → r ≡ Err fault
handed_up {T} r fault h = let p = err_from_is_err_and r h in subst (λ (e : NodeFault). r ≡ Err e) p.2 p.1

-- a want of memory is handed up as a node's fault
pub out_of_memory : {T : Type 0} (r : Result T NodeFault) → IsErrAnd r (λ (e : NodeFault). e ≡ nodes.OutOfMemory) → r ≡ Err nodes.OutOfMemory
out_of_memory {T} r h = handed_up r nodes.OutOfMemory h

abbrev some_of : {R : Type 0} → R → Option R
some_of {R} r = Some r

as_told : (o p : Option (List ℕ)) → p ≡ o → IsSome p ↔ IsSome o
as_told o p e = (λ h. subst (λ (q : Option (List ℕ)). IsSome q) e h, λ h. subst (λ (q : Option (List ℕ)). IsSome q) (sym e) h)

none_called : (setting : Setting) (n : ℕ) → PassesAll setting n n
none_called setting n = λ call above within trips. absurd (omega (arith, above, within))

pub same_disk : {D : Type 0} (w : Ghosts D) (old : D) → SameDiskBy w old old
same_disk {D} w old = record {
  same_seen = refl;
  same_picks = λ pick. refl;
  same_size = refl;
  leaves = λ c h. h;
  left = λ c h. h;
  same_moment = refl;
  since = λ t c h. h;
  was = λ t c h. h;
}

pub same_counts : {D : Type 0} (w : Ghosts D) (old : D) → SameCountsBy w old old
same_counts {D} w old = record { same_faults = refl; same_own_faults = refl; same_calls = refl; same_setting = refl; same_limit = refl }

-- ---- what is left prepared

-- where no device call was made, what was prepared before
pub prepared_still : {R T : Type 0} (decided old new : Option R) (result : Result T NodeFault) → IsStill decided result → new ≡ old → LeavesPrepared decided old new result
prepared_still {R} {T} None old new result still same = same
prepared_still {R} {T} (Some r) old new (Ok x) still same = absurd cc
prepared_still {R} {T} (Some r) old new (Err nodes.OutOfMemory) still same = inl same
prepared_still {R} {T} (Some r) old new (Err nodes.Down) still same = absurd still

-- nothing, where the disk failed while the record was written
pub none_prepared : {R T : Type 0} (decided old new : Option R) (result : Result T NodeFault) → result ≡ Err nodes.Down → (decided ≡ None → ⊥) → new ≡ None → LeavesPrepared decided old new result
none_prepared {R} {T} None old new result is some none = absurd (some refl)
none_prepared {R} {T} (Some r) old new result is some none = subst (λ (x : Result T NodeFault). LeavesPrepared (some_of r) old new x) (sym is) none

-- ---- the disk

module _ {R K M P D : Type 0} (k : Folding R K M P) (w : Ghosts D) where
  abbrev pub OfDisk : {T : Type 0} → Option R → K → D → D → Result T NodeFault → Type 0
  OfDisk {T} decided d old new result = OnDisk k w decided d old new result

  abbrev pub Same : D → D → Type 0
  Same old new = SameDiskBy w old new

  abbrev pub Counts : D → D → Type 0
  Counts old new = SameCountsBy w old new

  not_written : {T : Type 0} (decided : Option R) (r : R) (result : Result T NodeFault) → IsStill decided result → IsWritten r decided result → ⊥
  not_written {T} None r (Ok x) still is = absurd cc
  not_written {T} (Some q) r (Ok x) still is = absurd cc
  not_written {T} decided r (Err nodes.OutOfMemory) still is = is
  not_written {T} decided r (Err nodes.Down) still is = still

  not_down : {T : Type 0} (decided : Option R) (result : Result T NodeFault) → IsStill decided result → IsErrOf result nodes.Down → ⊥
  not_down {T} decided (Ok x) still down = absurd cc
  not_down {T} decided (Err nodes.OutOfMemory) still down = absurd cc
  not_down {T} decided (Err nodes.Down) still down = still

  none_more : {T : Type 0} (decided : Option R) (d : K) (old new : D) (result : Result T NodeFault) → IsStill decided result → w.calls new ≡ w.calls old → OnOk result (w.calls new ≡ w.calls old + calls_for decided)
  none_more {T} None d old new (Ok x) still same = omega (arith, same)
  none_more {T} (Some r) d old new (Ok x) still same = absurd cc
  none_more {T} decided d old new (Err fault) still same = tt

  ran_none : {T : Type 0} (decided : Option R) (old new : D) (result : Result T NodeFault) → IsStill decided result → Counts old new → Ran w old new result
  ran_none {T} decided old new (Ok x) still counts = record {
    never_falls = let e = counts.same_faults in omega (arith, e);
    own_never_falls = let e = counts.same_own_faults in omega (arith, e);
    down = λ is. absurd cc;
    passed = subst (PassesAll (w.setting old) (w.calls old)) (sym counts.same_calls) (none_called (w.setting old) (w.calls old));
  }
  ran_none {T} decided old new (Err nodes.OutOfMemory) still counts = record {
    never_falls = let e = counts.same_faults in omega (arith, e);
    own_never_falls = let e = counts.same_own_faults in omega (arith, e);
    down = λ is. absurd cc;
    passed = tt;
  }
  ran_none {T} decided old new (Err nodes.Down) still counts = absurd still

  -- nothing but the room changed
  pub is_still : {T : Type 0} (decided : Option R) (d : K) (old new : D) (result : Result T NodeFault) → IsStill decided result → Same old new → Counts old new → OfDisk decided d old new result
  is_still {T} decided d old new result still same counts = record {
    told = as_told (w.seen old) (w.seen new) same.same_seen;
    quiet = λ is. (same, counts);
    any_moment = λ r is. absurd (not_written decided r result still is);
    reached = λ down. absurd (not_down decided result still down);
    left = λ down. absurd (not_down decided result still down);
    fits = λ r is. absurd (not_written decided r result still is);
    most = let e = counts.same_calls in (omega (arith, e), omega (arith, e));
    limited = counts.same_limit;
    called = none_more decided d old new result still counts.same_calls;
    ran = ran_none decided old new result still counts;
    set = counts.same_setting;
  }

  -- the same disk
  pub is_same : {T : Type 0} (decided : Option R) (d : K) (old new : D) (result : Result T NodeFault) → IsStill decided result → new ≡ old → OfDisk decided d old new result
  is_same {T} decided d old new result still same = subst (λ (x : D). OfDisk decided d old x result) (sym same) (is_still decided d old old result still (same_disk w old) (same_counts w old))

  -- ---- behind what changed the room alone

  both_same : (old mid new : D) → Same old mid → Same mid new → Same old new
  both_same old mid new a b = record {
    same_seen = b.same_seen ∙ a.same_seen;
    same_picks = λ pick. b.same_picks pick ∙ a.same_picks pick;
    same_size = b.same_size ∙ a.same_size;
    leaves = λ c h. a.leaves c (b.leaves c h);
    left = λ c h. b.left c (a.left c h);
    same_moment = b.same_moment ∙ a.same_moment;
    since = λ t c h. a.since t c (b.since t c h);
    was = λ t c h. b.was t c (a.was t c h);
  }

  both_count : (old mid new : D) → Counts old mid → Counts mid new → Counts old new
  both_count old mid new a b = record {
    same_faults = b.same_faults ∙ a.same_faults;
    same_own_faults = b.same_own_faults ∙ a.same_own_faults;
    same_calls = b.same_calls ∙ a.same_calls;
    same_setting = b.same_setting ∙ a.same_setting;
    same_limit = b.same_limit ∙ a.same_limit;
  }

  moved : (old mid new : D) (P : List ℕ → Type 0) → Same old mid → LeavesOnlyBy w mid new P → LeavesOnlyBy w old new P
  moved old mid new P same only = record {
    later = subst (λ (m : ℕ). m ≤ w.moment new) same.same_moment only.later;
    each = subst (λ (m : ℕ). (c : List ℕ) → w.left_since new m c → P c) same.same_moment only.each;
    before = λ t c le left. ⊎_elim (λ was. inl (same.since t c was)) (λ held. inr held) (only.before t c (subst (λ (m : ℕ). t ≤ m) (sym same.same_moment) le) left);
  }

  ran_down : (old mid new : D) → Counts old mid → Rose (w.faults mid) (w.faults new) × (Trips (w.setting mid) (w.calls new) ⊎ Rose (w.own_faults mid) (w.own_faults new)) → Rose (w.faults old) (w.faults new) × (Trips (w.setting old) (w.calls new) ⊎ Rose (w.own_faults old) (w.own_faults new))
  ran_down old mid new counts is =
      subst (λ (n : ℕ). Rose n (w.faults new) × (Trips (w.setting old) (w.calls new) ⊎ Rose (w.own_faults old) (w.own_faults new))) counts.same_faults
      (subst (λ (n : ℕ). Rose (w.faults mid) (w.faults new) × (Trips (w.setting old) (w.calls new) ⊎ Rose n (w.own_faults new))) counts.same_own_faults
      (subst (λ (s : Setting). Rose (w.faults mid) (w.faults new) × (Trips s (w.calls new) ⊎ Rose (w.own_faults mid) (w.own_faults new))) counts.same_setting is))

  passed_from : {T : Type 0} (old mid new : D) (result : Result T NodeFault) → Counts old mid → OnOk result (PassesAll (w.setting mid) (w.calls mid) (w.calls new)) → OnOk result (PassesAll (w.setting old) (w.calls old) (w.calls new))
  passed_from {T} old mid new result counts is =
      subst (λ (n : ℕ). OnOk result (PassesAll (w.setting old) n (w.calls new))) counts.same_calls (subst (λ (s : Setting). OnOk result (PassesAll s (w.calls mid) (w.calls new))) counts.same_setting is)

  pub behind : {T : Type 0} (decided : Option R) (d : K) (old mid new : D) (result : Result T NodeFault) → Same old mid → Counts old mid → OfDisk decided d mid new result → OfDisk decided d old new result
  behind {T} decided d old mid new result same counts then = record {
    told = subst (λ (o : Option (List ℕ)). IsSome (w.seen new) ↔ IsSome o) same.same_seen then.told;
    quiet = λ is. let q = then.quiet is in (both_same old mid new same q.0, both_count old mid new counts q.1);
    any_moment = λ r is bytes told. moved old mid new (LeftAround k (whole_records bytes) r d) same (then.any_moment r is bytes (same.same_seen ∙ told));
    reached = λ down. reached_from (w.setting old) (w.setting mid) (w.calls old) (w.calls mid) (w.calls new) counts.same_setting counts.same_calls (then.reached down);
    left = λ down r has bytes told. left_from w.left_by w.calls w.setting (whole_records bytes) (k.spelled r) old mid new counts.same_setting counts.same_calls (then.left down r has bytes (same.same_seen ∙ told));
    fits = then.fits;
    most = subst (λ (n : ℕ). (n ≤ w.calls new) × (w.calls new ≤ n + 4)) counts.same_calls then.most;
    limited = then.limited ∙ counts.same_limit;
    called = subst (λ (n : ℕ). OnOk result (w.calls new ≡ n + calls_for decided)) counts.same_calls then.called;
    ran = record {
      never_falls = subst (λ (n : ℕ). n ≤ w.faults new) counts.same_faults then.ran.never_falls;
      own_never_falls = subst (λ (n : ℕ). n ≤ w.own_faults new) counts.same_own_faults then.ran.own_never_falls;
      down = λ down. ran_down old mid new counts (then.ran.down down);
      passed = passed_from old mid new result counts then.ran.passed;
    };
    set = then.set ∙ counts.same_setting;
  }

  -- with another value at Ok
  pub with_value : {S T : Type 0} (decided : Option R) (d : K) (old new : D) (x : S) (y : T) → OfDisk {T = S} decided d old new (Ok x) → OfDisk {T = T} decided d old new (Ok y)
  with_value {S} {T} None d old new x y is = record { told = is.told; quiet = is.quiet; any_moment = is.any_moment; reached = λ z. absurd cc; left = λ z. absurd cc; fits = is.fits; most = is.most; limited = is.limited; called = is.called; ran = record { never_falls = is.ran.never_falls; own_never_falls = is.ran.own_never_falls; down = λ z. absurd cc; passed = is.ran.passed }; set = is.set }
  with_value {S} {T} (Some r) d old new x y is = record { told = is.told; quiet = is.quiet; any_moment = is.any_moment; reached = λ z. absurd cc; left = λ z. absurd cc; fits = is.fits; most = is.most; limited = is.limited; called = is.called; ran = record { never_falls = is.ran.never_falls; own_never_falls = is.ran.own_never_falls; down = λ z. absurd cc; passed = is.ran.passed }; set = is.set }

  fault_by : {S T : Type 0} (decided : Option R) (d : K) (old new : D) → OfDisk {T = S} decided d old new (Err nodes.OutOfMemory) → OfDisk {T = T} decided d old new (Err nodes.OutOfMemory)
  fault_by {S} {T} None d old new is = record { told = is.told; quiet = is.quiet; any_moment = λ r z. absurd z; reached = λ z. absurd cc; left = λ z. absurd cc; fits = λ r z. absurd z; most = is.most; limited = is.limited; called = tt; ran = record { never_falls = is.ran.never_falls; own_never_falls = is.ran.own_never_falls; down = λ z. absurd cc; passed = tt }; set = is.set }
  fault_by {S} {T} (Some r) d old new is = record { told = is.told; quiet = is.quiet; any_moment = λ r z. absurd z; reached = λ z. absurd cc; left = λ z. absurd cc; fits = λ r z. absurd z; most = is.most; limited = is.limited; called = tt; ran = record { never_falls = is.ran.never_falls; own_never_falls = is.ran.own_never_falls; down = λ z. absurd cc; passed = tt }; set = is.set }

  down_by : {S T : Type 0} (decided : Option R) (d : K) (old new : D) → OfDisk {T = S} decided d old new (Err nodes.Down) → OfDisk {T = T} decided d old new (Err nodes.Down)
  down_by {S} {T} None d old new is = record { told = is.told; quiet = is.quiet; any_moment = is.any_moment; reached = λ z. is.reached refl; left = λ z. is.left refl; fits = is.fits; most = is.most; limited = is.limited; called = tt; ran = record { never_falls = is.ran.never_falls; own_never_falls = is.ran.own_never_falls; down = λ z. is.ran.down refl; passed = tt }; set = is.set }
  down_by {S} {T} (Some r) d old new is = record { told = is.told; quiet = is.quiet; any_moment = is.any_moment; reached = λ z. is.reached refl; left = λ z. is.left refl; fits = is.fits; most = is.most; limited = is.limited; called = tt; ran = record { never_falls = is.ran.never_falls; own_never_falls = is.ran.own_never_falls; down = λ z. is.ran.down refl; passed = tt }; set = is.set }

  pub with_fault : {S T : Type 0} (decided : Option R) (d : K) (old new : D) (fault : NodeFault) → OfDisk {T = S} decided d old new (Err fault) → OfDisk {T = T} decided d old new (Err fault)
  with_fault {S} {T} decided d old new nodes.OutOfMemory is = fault_by decided d old new is
  with_fault {S} {T} decided d old new nodes.Down is = down_by decided d old new is
