-- No step of a file server tells a volume to be made.
use Rattle.std.proofs.Common.{◌≡◌, ℕ, Bool, true, false, List, [], ◌∷◌, ◌++◌, Option, Some, None, refl, sym, subst, inl, inr}
use Rattle.afs_num.specs.declared.histories.Version.{Version}
use Rattle.afs_num.specs.declared.messages.Message.{Message}
use Rattle.afs_num.specs.declared.messages.Received.TheVariants.{Whole}
use Rattle.afs_num.specs.declared.types.Node.{Node}
use Rattle.spec_history.specs.declared.lines.Line.{Line}
use Rattle.spec_history.specs.declared.lines.Line.TheVariants as lines
use Rattle.spec_ideal.specs.Tables.{Table}
use Rattle.spec_records.specs.Durable.{Stored}
use Rattle.spec_rows.specs.Hosts.{comes_up, ends, fails_early, fails_midway, fall_line, is_full, restarted, served, served_by, without_boot_record, struck, Blow, Fall, Luck, Outcome}
use Rattle.spec_rows.specs.ServerHosts.{begun_by_disk, can_start, server_kind, timed_out, woken, ServerHost}
use Rattle.spec_rows.specs.ServerRow.{versions_made, versioned}
use Rattle.spec_rows.specs.States.{BackCall, ServerState}
use Rattle.law_legal.proofs.OwedPasses.{all_lines}
use Rattle.law_legal.proofs.BaseLaws.{both}
use Rattle.law_legal.proofs.ServerChooses.{is_from, one_from, risen_from, risen_lines, serves_works, starts_works, disk_works, times_works, wakes_works, AreFrom, Works}
use Rattle.law_legal.proofs.ActCallsInRuns.{any_cut, any_message}
use Rattle.spec_runs.specs.NodeRuns.{volumes_made}

-- whatever the server has
abbrev pub MakesNothing : List Line → Type 0
MakesNothing ls = (stored : Table Stored) → volumes_made ls stored ≡ []

unmade_from : (me : Node) (ls : List Line) → AreFrom me ls → MakesNothing ls
unmade_from me [] h stored = refl
unmade_from me (lines.Made server id count ∷ ls) h stored = absurd cc
unmade_from me (l ∷ ls) h stored = unmade_from me ls (both (is_from me l) (all_lines (is_from me) ls) h).1 stored

unmade_before : (me : Node) (front rest : List Line) → AreFrom me front → MakesNothing rest → MakesNothing (front ++ rest)
unmade_before me [] rest h r stored = r stored
unmade_before me (lines.Made server id count ∷ ls) rest h r stored = absurd cc
unmade_before me (l ∷ ls) rest h r stored = unmade_before me ls rest (both (is_from me l) (all_lines (is_from me) ls) h).1 r stored

unmade_versions : (vs : List Version) (rest : List Line) → MakesNothing rest → MakesNothing (versioned vs rest)
unmade_versions [] rest r stored = r stored
unmade_versions (v ∷ vs) rest r stored = unmade_versions vs rest r stored

unmade_works : (me : Node) (x : ServerState) (after : Table Stored) (ls : List Line) → Works any_message me x after ls → MakesNothing ls
unmade_works me x after ls (inl h) = unmade_from me ls h.lines
unmade_works me x after ls (inr h) =
    subst MakesNothing (sym h.split) (unmade_before me h.front _ h.before (λ stored. unmade_versions (versions_made h.change) h.rest (unmade_from me h.rest h.behind) stored))

-- ---- each step of its host

unmade_fall : (me : Node) (stops : Bool) → MakesNothing (fall_line me stops ∷ [])
unmade_fall me true stored = refl
unmade_fall me false stored = refl

unmade_by : (me : Node) (h : ServerHost) (clock place : ℕ) (m : Message) (b : Option Blow) → MakesNothing (served_by (server_kind me) h clock place m b).lines
unmade_by me h clock place m None = unmade_works me h.state _ _ (serves_works any_message me h.state clock place m (λ rest. tt))
unmade_by me h clock place m (Some b) = unmade_fall me b.stops

pub unmade_served : (me : Node) (h : ServerHost) (clock place : ℕ) (luck : Luck) (m : Message) → MakesNothing (served (server_kind me) h clock place luck m).lines
unmade_served me h clock place luck m = unmade_by me h clock place m (struck h.armed luck ((server_kind me).device_calls h.state clock (Whole m)))

pub unmade_timed : (me : Node) (h : ServerHost) (clock : ℕ) (n : Node) (b : BackCall) → MakesNothing (timed_out me h clock n b).lines
unmade_timed me h clock n b = unmade_works me h.state _ _ (times_works any_message me h.state clock n b)

pub unmade_woken : (me : Node) (h : ServerHost) (clock : ℕ) → MakesNothing (woken me h clock).lines
unmade_woken me h clock = unmade_works me h.state _ _ (wakes_works any_message me h.state clock)

module _ (me : Node) (h : ServerHost) (clock count : ℕ) (after : Bool) (fall : Fall) where
  -- with what it begins, and these lines behind that
  unmade_begun : (ls : List Line) → AreFrom me ls → MakesNothing ((begun_by_disk me h.state after fall).before ls)
  unmade_begun ls from = unmade_works me h.state _ _ (disk_works any_message me h.state after fall ls (any_cut fall) from)

  unmade_ends : (o : Outcome) → MakesNothing (ends (server_kind me) h clock count (begun_by_disk me h.state after fall) fall o).lines
  unmade_ends comes_up =
      let f = begun_by_disk me h.state after fall in
      unmade_works me h.state _ _ (starts_works any_message me h.state clock count f (disk_works any_message me h.state after fall (risen_lines me clock count f) (any_cut fall) (risen_from me clock count f)))
  unmade_ends fails_early = λ stored. refl
  unmade_ends fails_midway = unmade_begun (lines.Fault me ∷ []) (one_from me true refl)
  unmade_ends is_full = unmade_begun (lines.Full me ∷ []) (one_from me true refl)

pub unmade_restarted : (me : Node) (h : ServerHost) (clock count : ℕ) (after : Bool) (o : Outcome) (fall : Fall) → MakesNothing (restarted (server_kind me) h clock count after o fall).lines
unmade_restarted me h clock count after o fall = unmade_ends me h clock count after fall (without_boot_record (can_start (begun_by_disk me h.state after fall).state) o)
