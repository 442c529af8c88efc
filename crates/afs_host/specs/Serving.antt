-- What becomes of a node that is up and is given a message, of whatever kind it is.
use Rattle.std.specs.Prelude.{◌≡◌, ◌↔◌, ℕ, List, Bool, true, Option, IfSome, IsSome}
use Rattle.afs_num.specs.declared.messages.Message.{Message}
use Rattle.spec_history.specs.declared.lines.Line.{Line}
use Rattle.spec_history.specs.declared.lines.Line.TheVariants as lines
use Rattle.spec_history.specs.declared.lines.Outs.{Outs}
use Rattle.afs_disk.specs.Disk.{IsBeyond, LeavesJust}
use Rattle.spec_rows.specs.Hosts.{fall_line, served, Armed, GivesOut, Host, HostStep, IsLuck, NodeKind, Luck}
use Rattle.afs_host.specs.Seats.{Resting}
use Rattle.afs_host.specs.Setting.{pick_of, stops_now}
use Rattle.afs_host.specs.Views.{count_mark, StoreView}

-- What became of a node that was given a message: it is up, and gave this out; or it went down, as this line tells. Or memory
-- ran out, and then nothing was done.
pub data Served (U D : Type 0) : Type 0 where
  is_up : U → Outs → Served U D
  is_down : Resting D → Line → Served U D
  unchanged : U → Served U D

-- With some luck of the disk the step of the host, of a node of this kind, is this. Where the disk fails by itself, its count rose.
pub record HasServed {S : Type 0} (kind : NodeKind S) (h : Host S) (clock place : ℕ) (m : Message) (Is : HostStep S → Type 0) (rose : Type 0) : Type 0 where
  pub luck : Luck
  pub is_luck : IsLuck luck
  pub is : Is (served kind h clock place luck m)
  pub blame : GivesOut luck → rose

-- ---- a step that the disk ended

-- A node whose step was broken went down as its disk was stopped, or failed, and this line tells which. Where it was stopped, its
-- disk is what a crash with the pick that was set leaves of the disk as it was when the stop came; where the disk failed, it is as
-- it was then. So it is of every kind of node, by what its host sees of its store.
pub record HasGoneDown {D : Type 0} (seen : D → Option (List ℕ)) (left_by : D → ℕ → Option (List ℕ)) (may_leave : D → List ℕ → Type 0) (faults limit : D → ℕ) (v : StoreView D) (armed : Armed) (s : Resting D) (line : Line) : Type 0 where
  pub came : Bool
  pub came_so : IsBeyond v.fuse.stop v.fuse.calls → came ≡ true
  pub came_is : came ≡ true → IsBeyond v.fuse.stop v.fuse.calls
  pub line_is : line ≡ fall_line v.node (stops_now came armed)
  pub mark : s.mark ≡ count_mark v.count
  pub told : IsSome (seen s.disk) ↔ IsSome (seen v.fuse.disk)
  pub image : IsSome (seen s.disk) → (c : List ℕ) → may_leave s.disk c → may_leave v.fuse.disk c
  pub picked : line ≡ lines.Crash v.node → seen s.disk ≡ left_by v.fuse.disk (pick_of armed)
  pub rests : line ≡ lines.Crash v.node → IfSome (seen s.disk) (λ bytes. LeavesJust bytes (may_leave s.disk))
  pub stays : line ≡ lines.Fault v.node → s.disk ≡ v.fuse.disk
  pub same_faults : faults s.disk ≡ faults v.fuse.disk
  pub same_limit : limit s.disk ≡ limit v.fuse.disk
