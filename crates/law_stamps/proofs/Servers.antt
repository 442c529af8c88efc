-- The stamps and the transactions of a server node as a host.
use Rattle.std.proofs.Common.{◌≡◌, ◌≤◌, ℕ, Bool, true, false, Option, Some, None, subst}
use Rattle.std.proofs.Math.Nat.{le_refl, le_trans}
use Rattle.std.specs.Prelude.{⊤}
use Rattle.afs_num.specs.declared.messages.Message.{Message}
use Rattle.afs_num.specs.declared.messages.Received.TheVariants.{Whole}
use Rattle.afs_num.specs.declared.types.Node.{Node}
use Rattle.spec_rows.specs.Hosts.{at_rest, begun_from, comes_up, crashed, ends, fails_early, fails_midway, in_boot, in_step, is_full, restarted, served, served_by, without_boot_record, struck, Blow, Fall, Luck, Outcome}
use Rattle.spec_rows.specs.ServerHosts.{can_start}
use Rattle.spec_rows.specs.States.{BackCall}
use Rattle.spec_rows.specs.Steps.{Begun}
use Rattle.spec_volrows.proofs.VolNodes.{nodes_stay_apart, nodes_stay_stamped}
use Rattle.spec_volrows.specs.NodeHosts.{file_begun, node_kind, node_timed_out, node_woken, piece_timed_out, NodeHost}
use Rattle.spec_volrows.specs.VolLaws.{stamp_at, Follows, IsApart, IsStamped}
use Rattle.spec_volrows.specs.VolStates.{NodeState, PieceCall}

-- What holds of the state before an interrupted step, too; of a server that is down else nothing is asked.
abbrev pub StampedBy : Option Fall → NodeState → Type 0
StampedBy None s = IsStamped s
StampedBy (Some (in_step m clock b)) s = IsStamped s
StampedBy (Some at_rest) s = ⊤
StampedBy (Some in_boot) s = ⊤

abbrev pub ApartBy : Option Fall → NodeState → Type 0
ApartBy None s = IsApart s
ApartBy (Some fall) s = ⊤

pub record Stands (h : NodeHost) : Type 0 where
  pub stamped : StampedBy h.down h.state
  pub apart : ApartBy h.down h.state

-- no stamp fell
abbrev pub Rises : NodeHost → NodeHost → Type 0
Rises a b = (f : ℕ) → stamp_at a.state.file f ≤ stamp_at b.state.file f

pub record Goes (a b : NodeHost) : Type 0 where
  pub stands : Stands b
  pub rises : Rises a b

pub none_rises : (h : NodeHost) → Rises h h
none_rises h f = le_refl (stamp_at h.state.file f)

up_stamped : (h : NodeHost) → h.down ≡ None → Stands h → IsStamped h.state
up_stamped h up k = subst (λ (o : Option Fall). StampedBy o h.state) up k.stamped

up_apart : (h : NodeHost) → h.down ≡ None → Stands h → IsApart h.state
up_apart h up k = subst (λ (o : Option Fall). ApartBy o h.state) up k.apart

serve_by : (me : Node) (h : NodeHost) (clock place : ℕ) (m : Message) (o : Option Blow) → h.down ≡ None → Stands h → Goes h (served_by (node_kind me) h clock place m o).host
serve_by me h clock place m None up k =
    let z : Follows h.state.file _ = nodes_stay_stamped.given me h.state clock place (Whole m) (up_stamped h up k) in
    record { stands = record { stamped = z.stamped; apart = nodes_stay_apart.given me h.state clock place (Whole m) (up_apart h up k) }; rises = z.rises }
serve_by me h clock place m (Some b) up k = record { stands = record { stamped = up_stamped h up k; apart = tt }; rises = none_rises h }

pub serve_goes : (me : Node) (h : NodeHost) (clock place : ℕ) (luck : Luck) (m : Message) → h.down ≡ None → Stands h → Goes h (served (node_kind me) h clock place luck m).host
serve_goes me h clock place luck m up k = serve_by me h clock place m (struck h.armed luck ((node_kind me).device_calls h.state clock (Whole m))) up k

pub crash_goes : (me : Node) (h : NodeHost) → Goes h (crashed (node_kind me) h).host
crash_goes me h = record { stands = record { stamped = tt; apart = tt }; rises = none_rises h }

pub back_goes : (me : Node) (h : NodeHost) (clock : ℕ) (n : Node) (b : BackCall) → h.down ≡ None → Stands h → Goes h (node_timed_out me h clock n b).host
back_goes me h clock n b up k =
    let z : Follows h.state.file _ = nodes_stay_stamped.back me h.state clock n b (up_stamped h up k) in
    record { stands = record { stamped = z.stamped; apart = nodes_stay_apart.back me h.state clock n b (up_apart h up k) }; rises = z.rises }

pub piece_goes : (me : Node) (h : NodeHost) (clock : ℕ) (n : Node) (p : PieceCall) → h.down ≡ None → Stands h → Goes h (piece_timed_out me h clock n p).host
piece_goes me h clock n p up k =
    let z : Follows h.state.file _ = nodes_stay_stamped.late me h.state clock n p (up_stamped h up k) in
    record { stands = record { stamped = z.stamped; apart = nodes_stay_apart.late me h.state clock n p (up_apart h up k) }; rises = z.rises }

pub wake_goes : (me : Node) (h : NodeHost) (clock : ℕ) → h.down ≡ None → Stands h → Goes h (node_woken me h clock).host
wake_goes me h clock up k =
    let z : Follows h.state.file _ = nodes_stay_stamped.woken me h.state clock (up_stamped h up k) in
    record { stands = record { stamped = z.stamped; apart = nodes_stay_apart.woken me h.state clock (up_apart h up k) }; rises = z.rises }

-- ---- a restart

begun_rises : (me : Node) (s : NodeState) (after : Bool) (fall : Fall) → StampedBy (Some fall) s → (f : ℕ) → stamp_at s.file f ≤ stamp_at (begun_from (node_kind me) s after fall).state.file f
begun_rises me s after at_rest h f = le_refl (stamp_at s.file f)
begun_rises me s false (in_step m clock b) h f = le_refl (stamp_at s.file f)
begun_rises me s true (in_step m clock b) h f = nodes_stay_stamped.cut me s clock (Whole m) h f
begun_rises me s false in_boot h f = le_refl (stamp_at s.file f)
begun_rises me s true in_boot h f = le_refl (stamp_at s.file f)

ends_go : (me : Node) (h : NodeHost) (clock count : ℕ) (f : Begun NodeState) (fall : Fall) (o : Outcome) → h.down ≡ Some fall → Stands h → ((n : ℕ) → stamp_at h.state.file n ≤ stamp_at f.state.file n) → Goes h (ends (node_kind me) h clock count f fall o).host
ends_go me h clock count f fall comes_up down k rises =
    let z : Follows f.state.file _ = nodes_stay_stamped.started me clock count (file_begun f) in
    record { stands = record { stamped = z.stamped; apart = nodes_stay_apart.started me clock count (file_begun f) }; rises = λ n. le_trans (rises n) (z.rises n) }
ends_go me h clock count f fall fails_early down k rises = record { stands = record { stamped = subst (λ (o : Option Fall). StampedBy o h.state) down k.stamped; apart = tt }; rises = none_rises h }
ends_go me h clock count f fall fails_midway down k rises = record { stands = record { stamped = tt; apart = tt }; rises = rises }
ends_go me h clock count f fall is_full down k rises = record { stands = record { stamped = tt; apart = tt }; rises = rises }

pub restart_goes : (me : Node) (h : NodeHost) (clock count : ℕ) (after : Bool) (o : Outcome) (fall : Fall) → h.down ≡ Some fall → Stands h → Goes h (restarted (node_kind me) h clock count after o fall).host
restart_goes me h clock count after o fall down k =
    let f : Begun NodeState = begun_from (node_kind me) h.state after fall in
    ends_go me h clock count f fall (without_boot_record (can_start f.state.file) o) down k (begun_rises me h.state after fall (subst (λ (o : Option Fall). StampedBy o h.state) down k.stamped))
