-- How a server's disk is set to stop or to fail, as the program keeps it.
use Rattle.std.specs.Prelude.{◌≡◌, ◌≤◌, ℕ, ◌+◌, Bool, true, false, Option, Some, None, nat_lt, nat_eq, ◌&&◌, ◌||◌}
use Rattle.std.specs.Option.{option_map}
use Rattle.afs_disk.specs.Fuses.{Fused}
use Rattle.spec_rows.specs.Runs as runs
use Rattle.afs_host.specs.declared.setting.Armed.{Armed}
use Rattle.afs_host.specs.declared.setting.Stop.{Stop}

abbrev pub armed_seen : Armed → runs.Armed
armed_seen a = record { stop = option_map (λ (s : Stop). (s.passes, s.pick)) a.stop; fail = a.fail }

-- A fuse stops and fails where it was set to, counted from its calls so far; a failure is due at a call that is yet to come.
pub record IsSet {D : Type 0} (armed : runs.Armed) (fuse : Fused D) : Type 0 where
  pub stop : fuse.stop ≡ option_map (λ (s : ℕ × ℕ). fuse.calls + s.0) armed.stop
  pub fail : fuse.fail ≡ option_map (λ (k : ℕ). fuse.calls + k) armed.fail
  pub due : (k : ℕ) → armed.fail ≡ Some k → 1 ≤ k

-- ---- which of the two ended a step

-- a stop after so many calls comes no later than a failure: at the same call the stop wins
abbrev pub stops_by : ℕ → Option ℕ → Bool
stops_by passes None = true
stops_by passes (Some call) = nat_lt passes call

-- a stop is set that comes no later than a failure, and it came, or no call was left to pass
abbrev pub stops_at : Bool → Option (ℕ × ℕ) → Option ℕ → Bool
stops_at came None fail = false
stops_at came (Some s) fail = stops_by s.0 fail && (came || nat_eq s.0 0)

abbrev pub stops_now : Bool → runs.Armed → Bool
stops_now came a = stops_at came a.stop a.fail

-- ---- what a stop leaves

-- The pick that was set with the stop. Where none was set it is the one that leaves what a read gives.
abbrev pub pick_at : Option (ℕ × ℕ) → ℕ
pick_at None = 1
pick_at (Some s) = s.1

abbrev pub pick_of : runs.Armed → ℕ
pick_of a = pick_at a.stop
