-- A node went down in a step that its disk ended: as it was stopped, or as the disk failed.
use Rattle.std.specs.Prelude.{◌≡◌, ◌↔◌, ℕ, List, Bool, true, false, Option, Some, None, IfSome, IsSome}
use Rattle.std.proofs.Common.{refl, ap, sym, subst, ◌∙◌}
use Rattle.afs_num.specs.declared.types.Node.{Node}
use Rattle.spec_history.specs.declared.lines.Line.{Line}
use Rattle.spec_history.specs.declared.lines.Line.TheVariants as lines
use Rattle.afs_disk.specs.Disk.{IsBeyond, LeavesJust}
use Rattle.spec_rows.specs.Hosts.{Armed, fall_line}
use Rattle.afs_host.specs.Seats.{Resting}
use Rattle.afs_host.specs.Views.{count_mark, StoreView}
use Rattle.afs_host.specs.Serving.{HasGoneDown}
use Rattle.afs_host.specs.Setting.{pick_of, stops_now}

-- what is left of the disk, whichever it was
pub record Remains {D : Type 0} (seen : D → Option (List ℕ)) (may_leave : D → List ℕ → Type 0) (faults limit : D → ℕ) (v : StoreView D) (s : Resting D) : Type 0 where
  pub mark : s.mark ≡ count_mark v.count
  pub told : IsSome (seen s.disk) ↔ IsSome (seen v.fuse.disk)
  pub image : IsSome (seen s.disk) → (c : List ℕ) → may_leave s.disk c → may_leave v.fuse.disk c
  pub same_faults : faults s.disk ≡ faults v.fuse.disk
  pub same_limit : limit s.disk ≡ limit v.fuse.disk

-- the disk as it was
pub as_it_was : {D : Type 0} (seen : D → Option (List ℕ)) (may_leave : D → List ℕ → Type 0) (faults limit : D → ℕ) (v : StoreView D) (s : Resting D) → s ≡ record { disk = v.fuse.disk; mark = count_mark v.count } → Remains seen may_leave faults limit v s
as_it_was {D} seen may_leave faults limit v s is = subst (Remains seen may_leave faults limit v) (sym is) (record {
  mark = refl;
  told = ((λ told. told), (λ told. told));
  image = λ told c left. left;
  same_faults = refl;
  same_limit = refl;
})

no_crash : (n m : Node) → lines.Fault n ≡ lines.Crash m → ⊥
no_crash n m e = absurd cc

no_fault : (n m : Node) → lines.Crash n ≡ lines.Fault m → ⊥
no_fault n m e = absurd cc

-- by a stop
pub stopped_so : {D : Type 0} (seen : D → Option (List ℕ)) (left_by : D → ℕ → Option (List ℕ)) (may_leave : D → List ℕ → Type 0) (faults limit : D → ℕ) (v : StoreView D) (armed : Armed) (s : Resting D) (came : Bool) (node : Node) → (IsBeyond v.fuse.stop v.fuse.calls → came ≡ true) → (came ≡ true → IsBeyond v.fuse.stop v.fuse.calls) →
    node ≡ v.node → stops_now came armed ≡ true → Remains seen may_leave faults limit v s → seen s.disk ≡ left_by v.fuse.disk (pick_of armed) → IfSome (seen s.disk) (λ bytes. LeavesJust bytes (may_leave s.disk)) → HasGoneDown seen left_by may_leave faults limit v armed s (lines.Crash node)
stopped_so {D} seen left_by may_leave faults limit v armed s came node came_so came_is is stops left picked rests = record {
  came = came;
  came_so = came_so;
  came_is = came_is;
  line_is = ap (λ (n : Node). lines.Crash n) is ∙ ap (fall_line v.node) (sym stops);
  mark = left.mark;
  told = left.told;
  image = left.image;
  picked = λ crash. picked;
  rests = λ crash. rests;
  stays = λ fault. absurd (no_fault node v.node fault);
  same_faults = left.same_faults;
  same_limit = left.same_limit;
}

-- or by a failure
pub failed_so : {D : Type 0} (seen : D → Option (List ℕ)) (left_by : D → ℕ → Option (List ℕ)) (may_leave : D → List ℕ → Type 0) (faults limit : D → ℕ) (v : StoreView D) (armed : Armed) (s : Resting D) (came : Bool) (node : Node) → (IsBeyond v.fuse.stop v.fuse.calls → came ≡ true) → (came ≡ true → IsBeyond v.fuse.stop v.fuse.calls) →
    node ≡ v.node → stops_now came armed ≡ false → Remains seen may_leave faults limit v s → s.disk ≡ v.fuse.disk → HasGoneDown seen left_by may_leave faults limit v armed s (lines.Fault node)
failed_so {D} seen left_by may_leave faults limit v armed s came node came_so came_is is stops left same = record {
  came = came;
  came_so = came_so;
  came_is = came_is;
  line_is = ap (λ (n : Node). lines.Fault n) is ∙ ap (fall_line v.node) (sym stops);
  mark = left.mark;
  told = left.told;
  image = left.image;
  picked = λ crash. absurd (no_crash node v.node crash);
  rests = λ crash. absurd (no_crash node v.node crash);
  stays = λ fault. same;
  same_faults = left.same_faults;
  same_limit = left.same_limit;
}

-- a crash with a pick leaves a disk at rest
pub at_rest_then : (seen : Option (List ℕ)) (before now : List ℕ → Type 0) → IfSome seen (λ bytes. before bytes × LeavesJust bytes now) → IfSome seen (λ bytes. LeavesJust bytes now)
at_rest_then None before now image = image
at_rest_then (Some bytes) before now image = image.1
