-- The steps of the location database tell its own lines alone.
use Rattle.std.proofs.Common.{◌≡◌, ℕ, Bool, true, false, List, [], ◌∷◌, Option, Some, None, refl}
use Rattle.std.specs.Prelude.{nat_eq, if◌then◌else◌}
use Rattle.afs_num.specs.Nodes.{same_node}
use Rattle.afs_num.specs.declared.messages.Message.{Message}
use Rattle.afs_num.specs.declared.messages.Received.TheVariants.{Whole}
use Rattle.afs_num.specs.declared.types.Node.TheVariants.{Loc}
use Rattle.spec_history.specs.declared.lines.Line.{Line}
use Rattle.spec_history.specs.declared.lines.Line.TheVariants as lines
use Rattle.spec_ideal.specs.Tables.{get, Table}
use Rattle.spec_records.specs.Entries.{site_of}
use Rattle.spec_records.specs.LocEffects.{deed_told, located_lines, lock_before, lock_told, same_site, site_before}
use Rattle.spec_records.specs.LocRecords.{leaves, removes, sets, EntryDeed, Listed, Lock}
use Rattle.spec_rows.specs.Hosts.{at_rest, begun_from, comes_up, crashed, ends, fails_early, fails_midway, fall_line, in_boot, in_step, is_full, restarted, served, served_by, set_to_fail, set_to_stop, struck, Blow, Fall, HostStep, Luck, Outcome}
use Rattle.spec_rows.specs.LocRow.{drops, loc_decides, refuses, repeats, saves, shows, tells_boot, LocDecision, LocState}
use Rattle.spec_rows.specs.LocSteps.{loc_begun_after, loc_kind, loc_row, loc_start_row, loc_told, LocHost}
use Rattle.spec_rows.specs.Steps.{Begun}
use Rattle.law_places.proofs.Turning.{all_lines, all_on}

-- a line that it tells
abbrev pub database_tells : Line → Bool
database_tells (lines.Given place) = true
database_tells (lines.Locked v stamp operation) = true
database_tells (lines.Unlocked v) = true
database_tells (lines.Recovered v) = true
database_tells (lines.Located v server) = true
database_tells (lines.Crash n) = same_node n Loc
database_tells (lines.Fault n) = same_node n Loc
database_tells (lines.Restart n boot) = same_node n Loc
database_tells (lines.Full n) = same_node n Loc
database_tells (lines.Stop n calls pick) = same_node n Loc
database_tells (lines.Fail n call) = same_node n Loc
database_tells l = false

abbrev pub AreOfDatabase : List Line → Type 0
AreOfDatabase ls = all_lines database_tells ls ≡ true

pub record LocTells (s : HostStep LocState) : Type 0 where
  pub told : AreOfDatabase s.lines

-- ---- what a step tells

new_told : (b : Bool) (l : Line) → database_tells l ≡ true → AreOfDatabase (if b then [] else l ∷ [])
new_told true l h = refl
new_told false l h = rw h refl

gone_told : (v : ℕ) (b : Bool) → AreOfDatabase (if b then lines.Recovered v ∷ lines.Unlocked v ∷ [] else lines.Unlocked v ∷ [])
gone_told v true = refl
gone_told v false = refl

locks_told : (v : ℕ) (before after : Option Lock) → AreOfDatabase (lock_told v before after)
locks_told v None (Some l) = refl
locks_told v (Some k) (Some l) = new_told (nat_eq k.stamp l.stamp) (lines.Locked v l.stamp l.operation) refl
locks_told v (Some k) None = gone_told v k.forced
locks_told v None None = refl

sites_told : (v : ℕ) (before after : Option ℕ) → AreOfDatabase (located_lines v before after)
sites_told v before None = refl
sites_told v before (Some i) = new_told (same_site before (Some i)) (lines.Located v _) refl

deeds_told : (deed : EntryDeed) (t : Table Listed) → AreOfDatabase (deed_told deed t)
deeds_told (sets l) t =
    all_on database_tells (lock_told l.entry.read_write (lock_before (get l.entry.read_write t)) l.lock) _ (locks_told l.entry.read_write (lock_before (get l.entry.read_write t)) l.lock)
    (sites_told l.entry.read_write (site_before (get l.entry.read_write t)) (site_of l.entry))
deeds_told (removes e) t = refl
deeds_told leaves t = refl

decision_told : (s : LocState) (d : LocDecision) → AreOfDatabase (loc_told s d)
decision_told s (saves head c) = deeds_told c.deed s.lasting.entries
decision_told s drops = refl
decision_told s (tells_boot head) = refl
decision_told s (repeats reply) = refl
decision_told s (refuses head code) = refl
decision_told s (shows head reply) = refl

-- ---- as a host

fall_told : (stops : Bool) → AreOfDatabase (fall_line Loc stops ∷ [])
fall_told true = refl
fall_told false = refl

serve_by : (h : LocHost) (clock place : ℕ) (m : Message) (o : Option Blow) → LocTells (served_by loc_kind h clock place m o)
unfolding loc_row
serve_by h clock place m None = record { told = decision_told h.state (loc_decides h.state (Whole m)) }
serve_by h clock place m (Some b) = record { told = fall_told b.stops }

pub loc_served : (h : LocHost) (clock place : ℕ) (luck : Luck) (m : Message) → LocTells (served loc_kind h clock place luck m)
loc_served h clock place luck m = serve_by h clock place m (struck h.armed luck _)

pub loc_crashed : (h : LocHost) → LocTells (crashed loc_kind h)
loc_crashed h = record { told = refl }

pub loc_stop_set : (h : LocHost) (calls pick : ℕ) → LocTells (set_to_stop loc_kind h calls pick)
loc_stop_set h calls pick = record { told = refl }

pub loc_fail_set : (h : LocHost) (call : ℕ) → LocTells (set_to_fail loc_kind h call)
loc_fail_set h call = record { told = refl }

-- ---- a restart

record LocBegins (f : Begun LocState) : Type 0 where
  told : (ls : List Line) → AreOfDatabase ls → AreOfDatabase (f.before ls)

after_begins : (s : LocState) (d : LocDecision) → LocBegins (loc_begun_after s d)
after_begins s (saves head c) = record { told = λ ls h. all_on database_tells (deed_told c.deed s.lasting.entries) ls (deeds_told c.deed s.lasting.entries) h }
after_begins s drops = record { told = λ ls h. h }
after_begins s (tells_boot head) = record { told = λ ls h. h }
after_begins s (repeats reply) = record { told = λ ls h. h }
after_begins s (refuses head code) = record { told = λ ls h. h }
after_begins s (shows head reply) = record { told = λ ls h. h }

begins : (s : LocState) (after : Bool) (fall : Fall) → LocBegins (begun_from loc_kind s after fall)
begins s after at_rest = record { told = λ ls h. h }
begins s false (in_step m clock b) = record { told = λ ls h. h }
begins s true (in_step m clock b) = after_begins s (loc_decides s (Whole m))
begins s false in_boot = record { told = λ ls h. h }
begins s true in_boot = record { told = λ ls h. h }

ends_by : (h : LocHost) (clock count : ℕ) (f : Begun LocState) (fall : Fall) (o : Outcome) → LocBegins f → LocTells (ends loc_kind h clock count f fall o)
unfolding loc_start_row
ends_by h clock count f fall comes_up b = record { told = b.told _ refl }
ends_by h clock count f fall fails_early b = record { told = refl }
ends_by h clock count f fall fails_midway b = record { told = b.told _ refl }
ends_by h clock count f fall is_full b = record { told = b.told _ refl }

pub loc_restarted : (h : LocHost) (clock count : ℕ) (after : Bool) (o : Outcome) (fall : Fall) → LocTells (restarted loc_kind h clock count after o fall)
loc_restarted h clock count after o fall = ends_by h clock count (begun_from loc_kind h.state after fall) fall _ (begins h.state after fall)
