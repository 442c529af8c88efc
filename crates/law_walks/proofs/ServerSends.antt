-- The steps of a server node: what it sends and keeps stays P, where what it makes is.
use Rattle.std.proofs.Common.{ℕ, ◌+◌, Bool, true, false, Option, Some, None}
use Rattle.std.specs.Prelude.{⊤}
use Rattle.std.specs.List.{AllByRecursion}
use Rattle.afs_num.specs.declared.messages.Message.{Message}
use Rattle.afs_num.specs.declared.messages.Received.TheVariants.{Whole}
use Rattle.afs_num.specs.declared.types.Node.{Node}
use Rattle.spec_rows.specs.Hosts.{at_rest, begun_from, comes_up, crashed, ends, fails_early, fails_midway, in_boot, in_step, is_full, restarted, served, served_by, set_to_fail, set_to_stop, without_boot_record, struck, Blow, Fall, HostStep, Luck, Outcome}
use Rattle.spec_rows.specs.ServerHosts.{can_start}
use Rattle.spec_rows.specs.ServerRow.{begun_after}
use Rattle.spec_rows.specs.States.{durable_of, BackCall, ServerState}
use Rattle.spec_rows.specs.Steps.{Begun}
use Rattle.spec_volrows.specs.NodeHosts.{node_kind, node_timed_out, node_woken, piece_timed_out, NodeHost}
use Rattle.spec_volrows.specs.VolRow.{holds_of}
use Rattle.spec_volrows.specs.VolStates.{NodeState, PieceCall, Sending}
use Rattle.spec_volrows.specs.VolSteps as vols
use Rattle.spec_volrows.specs.VolSteps.{dispatches, from_of, is_of_client, node_file_decides, replies_to, vol_begun_after, vol_decides, VolDecision}
use Rattle.law_walks.specs.Sends.{FileIs, FileMakes, NodeIs, ServerMakes, VolIs, VolMakes}
use Rattle.law_walks.proofs.FileSends.{either_file, file_begins}
use Rattle.law_walks.proofs.Seats.{placed_is}
use Rattle.law_walks.proofs.VolDecides.{decides_all}
use Rattle.law_walks.proofs.VolSends.{back_sends, piece_sends, risen_sends, row_sends, woken_sends}

-- what comes of a step of a server's host
pub record HostSends (P : Message → Type 0) (S : Sending → Type 0) (s : HostStep NodeState) : Type 0 where
  pub has : NodeIs P S s.host.state
  pub sent : AllByRecursion P s.sent

-- what is decided on the message of an interrupted step makes P, too
abbrev pub CutMakes : (Message → Type 0) → (Sending → Type 0) → Node → NodeState → Fall → Type 0
CutMakes P S me s at_rest = ⊤
CutMakes P S me s (in_step m clock b) = VolMakes P S (vol_decides me (durable_of s.file.lasting) s.vol (Whole m))
CutMakes P S me s in_boot = ⊤

module _ (P : Message → Type 0) (S : Sending → Type 0) (me : Node) (h : NodeHost) (has : NodeIs P S h.state) where
  pub serve_by : (clock place : ℕ) (m : Message) (o : Option Blow) → ServerMakes P S me h.state.file.lasting.boot → VolMakes P S (vol_decides me (durable_of h.state.file.lasting) h.state.vol (Whole m)) → HostSends P S (served_by (node_kind me) h clock place m o)
  serve_by clock place m None makes k = let z = row_sends P S me h.state clock place m makes has k in record { has = z.has; sent = z.sent }
  serve_by clock place m (Some b) makes k = record { has = has; sent = tt }

  pub server_served : (clock place : ℕ) (luck : Luck) (m : Message) → ServerMakes P S me h.state.file.lasting.boot → VolMakes P S (vol_decides me (durable_of h.state.file.lasting) h.state.vol (Whole m)) →
      HostSends P S (served (node_kind me) h clock place luck m)
  server_served clock place luck m makes k = serve_by clock place m (struck h.armed luck ((node_kind me).device_calls h.state clock (Whole m))) makes k

  pub server_piece_late : (clock : ℕ) (n : Node) (c : PieceCall) → ServerMakes P S me h.state.file.lasting.boot → HostSends P S (piece_timed_out me h clock n c)
  server_piece_late clock n c makes = let z = piece_sends P S me h.state clock n c makes has in record { has = z.has; sent = z.sent }

  pub server_break_late : (clock : ℕ) (n : Node) (c : BackCall) → ServerMakes P S me h.state.file.lasting.boot → HostSends P S (node_timed_out me h clock n c)
  server_break_late clock n c makes = let z = back_sends P S me h.state clock n c makes has in record { has = z.has; sent = z.sent }

  pub server_woken : (clock : ℕ) → ServerMakes P S me h.state.file.lasting.boot → HostSends P S (node_woken me h clock)
  server_woken clock makes = let z = woken_sends P S me h.state clock makes has in record { has = z.has; sent = z.sent }

  pub server_crashed : HostSends P S (crashed (node_kind me) h)
  server_crashed = record { has = has; sent = tt }

  pub server_stop_set : (calls pick : ℕ) → HostSends P S (set_to_stop (node_kind me) h calls pick)
  server_stop_set calls pick = record { has = has; sent = tt }

  pub server_fail_set : (call : ℕ) → HostSends P S (set_to_fail (node_kind me) h call)
  server_fail_set call = record { has = has; sent = tt }

  -- ---- a restart

  pub with_file_is : (file : ServerState) → FileIs P file → NodeIs P S (record h.state { file = file })
  with_file_is file k = record { file = k; seats = has.seats; held = has.held; sendings = has.sendings }

  pub vol_begins : (d : VolDecision) → VolIs P P S me d → FileIs P (vol_begun_after me h.state.file d).state
  vol_begins vols.drops k = has.file
  vol_begins (vols.tells_boot head) k = has.file
  vol_begins (vols.repeats reply) k = has.file
  vol_begins (replies_to head reply ts last) k = has.file
  vol_begins (dispatches head x) k = has.file
  vol_begins (vols.saves head x) k = record { seats = has.file.seats; kept = placed_is P _ h.state.file.lasting.kept k has.file.kept; held = has.file.held }

  pub begun_is : (after : Bool) (fall : Fall) → FileMakes P me h.state.file.lasting.boot → CutMakes P S me h.state fall → NodeIs P S (begun_from (node_kind me) h.state after fall).state
  begun_is after at_rest makes k = has
  begun_is false (in_step m clock b) makes k = has
  begun_is true (in_step m clock b) makes k =
      with_file_is _ (either_file P me (is_of_client (from_of (Whole m))) (begun_after me h.state.file clock (node_file_decides me h.state clock (Whole m))) (vol_begun_after me h.state.file (vol_decides me (durable_of h.state.file.lasting) h.state.vol (Whole m)))
      (file_begins P me (holds_of h.state.vol.transactions) h.state.file clock m makes has.file)
      (vol_begins (vol_decides me (durable_of h.state.file.lasting) h.state.vol (Whole m)) (decides_all P S me (durable_of h.state.file.lasting) h.state.vol m k has.seats)))
  begun_is false in_boot makes k = has
  begun_is true in_boot makes k = with_file_is _ (record { seats = has.file.kept; kept = has.file.kept; held = has.file.held })

  pub ended_is : (clock count : ℕ) (f : Begun NodeState) (fall : Fall) (o : Outcome) → ((boot : ℕ) → FileMakes P me boot) → NodeIs P S f.state → HostSends P S (ends (node_kind me) h clock count f fall o)
  ended_is clock count f fall comes_up makes k = let z = risen_sends P S me clock count (record { state = f.state.file; before = f.before }) (makes (f.state.file.lasting.boot + 1)) k.file.kept in record { has = z.has; sent = z.sent }
  ended_is clock count f fall fails_early makes k = record { has = has; sent = tt }
  ended_is clock count f fall fails_midway makes k = record { has = k; sent = tt }
  ended_is clock count f fall is_full makes k = record { has = k; sent = tt }

  pub server_restarted : (clock count : ℕ) (after : Bool) (o : Outcome) (fall : Fall) → ((boot : ℕ) → FileMakes P me boot) → CutMakes P S me h.state fall → HostSends P S (restarted (node_kind me) h clock count after o fall)
  server_restarted clock count after o fall makes k =
      let f : Begun NodeState = begun_from (node_kind me) h.state after fall in
      ended_is clock count f fall (without_boot_record (can_start f.state.file) o) makes (begun_is after fall (makes h.state.file.lasting.boot) k)
