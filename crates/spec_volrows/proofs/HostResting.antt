-- The host of a node whose callers are clients does what the host of its file server does.
use Rattle.std.proofs.Common.{◌≡◌, ℕ, Bool, true, false, List, [], Option, Some, None, refl, ap, ◌∙◌}
use Rattle.std.specs.Prelude.{if◌then◌else◌}
use Rattle.afs_num.specs.declared.messages.Message.{Message}
use Rattle.afs_num.specs.declared.messages.Received.{Received}
use Rattle.afs_num.specs.declared.messages.Received.TheVariants.{Whole}
use Rattle.afs_num.specs.declared.types.Node.{Node}
use Rattle.spec_rows.specs.Hosts.{at_rest, begun_from, comes_up, ends, fails_early, fails_midway, given, goes, in_boot, in_step, is_full, lowered, restarted, served, served_by, without_boot_record, struck, Blow, Fall, Luck, Outcome}
use Rattle.spec_rows.specs.ServerHosts.{can_start, timed_out, woken, ServerHost}
use Rattle.spec_rows.specs.ServerRow.{begun_after, device_calls, is_client}
use Rattle.spec_rows.specs.ServerSteps.{back_timeout_row, wake_row}
use Rattle.spec_rows.specs.States.{durable_of, BackCall, Seat, ServerState}
use Rattle.spec_rows.specs.Steps.{Begun, Step}
use Rattle.spec_volrows.specs.FileHosts.{file_kind}
use Rattle.spec_volrows.specs.FileRow.{file_decides}
use Rattle.spec_volrows.specs.NodeHosts.{node_begun, node_kind, node_timed_out, node_woken}
use Rattle.spec_volrows.specs.RestingHosts.{callers_after, resting_host, resting_state, resting_step, IsOfClient, RestingHostsAreFiles}
use Rattle.spec_volrows.specs.VolStates.{fresh_vol, NodeState}
use Rattle.spec_volrows.specs.VolSteps.{from_of, is_of_client, node_device_calls, node_back_timeout_row, node_row, node_start_row, node_wake_row, vol_begun_after, vol_decides, vol_device_calls}
use Rattle.spec_volrows.proofs.VolResting.{clients_leave, none_held}

-- ---- a message

rest_calls : (me : Node) (callers : List Seat) (s : ServerState) (clock : ℕ) (found : Received) → is_of_client (from_of found) ≡ true → node_device_calls me (resting_state callers s) clock found ≡ device_calls s clock (file_decides me [] s clock found)
rest_calls me callers s clock found client =
    ap (λ (b : Bool). if b then device_calls s clock (file_decides me [] s clock found) else vol_device_calls (durable_of s.lasting) (vol_decides me (durable_of s.lasting) (fresh_vol callers) found)) client

rest_given : (me : Node) (callers : List Seat) (h : ServerHost) (clock place : ℕ) (found : Received) → is_of_client (from_of found) ≡ true → given (node_kind me) (resting_host callers h) clock place found ≡ resting_step callers (given (file_kind me) h clock place found)
rest_given me callers h clock place found client =
    ap (λ (n : ℕ). goes (lowered n h.armed) (node_row me (resting_state callers h.state) clock place found)) (rest_calls me callers h.state clock found client)
    ∙ ap (λ (s : Step NodeState). goes (lowered (device_calls h.state clock (file_decides me [] h.state clock found)) h.armed) s) (clients_leave me (resting_state callers h.state) clock place found refl client)

rest_by : (me : Node) (callers : List Seat) (h : ServerHost) (clock place : ℕ) (m : Message) (o : Option Blow) → is_client m.head.from ≡ true → served_by (node_kind me) (resting_host callers h) clock place m o ≡ resting_step callers (served_by (file_kind me) h clock place m o)
rest_by me callers h clock place m None client = rest_given me callers h clock place (Whole m) client
rest_by me callers h clock place m (Some b) client = refl

rest_served : (me : Node) (callers : List Seat) (h : ServerHost) (clock place : ℕ) (luck : Luck) (m : Message) → is_client m.head.from ≡ true → served (node_kind me) (resting_host callers h) clock place luck m ≡ resting_step callers (served (file_kind me) h clock place luck m)
rest_served me callers h clock place luck m client =
    rest_by me callers h clock place m (struck h.armed luck (node_device_calls me (resting_state callers h.state) clock (Whole m))) client
    ∙ ap (λ (n : ℕ). resting_step callers (served_by (file_kind me) h clock place m (struck h.armed luck n))) (rest_calls me callers h.state clock (Whole m) client)

-- ---- no message

rest_timed : (me : Node) (callers : List Seat) (h : ServerHost) (clock : ℕ) (n : Node) (b : BackCall) → node_timed_out me (resting_host callers h) clock n b ≡ resting_step callers (timed_out me h clock n b)
unfolding node_back_timeout_row
rest_timed me callers h clock n b = ap (goes h.armed) (none_held (fresh_vol callers) (back_timeout_row me h.state clock n b) refl)

rest_woken : (me : Node) (callers : List Seat) (h : ServerHost) (clock : ℕ) → node_woken me (resting_host callers h) clock ≡ resting_step callers (woken me h clock)
unfolding node_wake_row
rest_woken me callers h clock = ap (goes h.armed) (none_held (fresh_vol callers) (wake_row me h.state clock) refl)

-- ---- a restart

rest_begins : (me : Node) (callers : List Seat) (s : ServerState) (after : Bool) (fall : Fall) → IsOfClient fall → begun_from (node_kind me) (resting_state callers s) after fall ≡ node_begun (resting_state callers s) (begun_from (file_kind me) s after fall)
rest_begins me callers s after at_rest of = refl
rest_begins me callers s false (in_step m clock b) of = refl
rest_begins me callers s true (in_step m clock b) of =
    ap (λ (t : Bool). node_begun (resting_state callers s) (if t then begun_after me s clock (file_decides me [] s clock (Whole m)) else vol_begun_after me s (vol_decides me (durable_of s.lasting) (fresh_vol callers) (Whole m)))) of
rest_begins me callers s false in_boot of = refl
rest_begins me callers s true in_boot of = refl

rest_ends : (me : Node) (callers : List Seat) (h : ServerHost) (clock count : ℕ) (f : Begun ServerState) (fall : Fall) (o : Outcome) →
    ends (node_kind me) (resting_host callers h) clock count (node_begun (resting_state callers h.state) f) fall o ≡ resting_step (callers_after callers f o) (ends (file_kind me) h clock count f fall o)
unfolding node_start_row
rest_ends me callers h clock count f fall comes_up = refl
rest_ends me callers h clock count f fall fails_early = refl
rest_ends me callers h clock count f fall fails_midway = refl
rest_ends me callers h clock count f fall is_full = refl

rest_starts : (me : Node) (callers : List Seat) (h : ServerHost) (clock count : ℕ) (after : Bool) (outcome : Outcome) (fall : Fall) → IsOfClient fall →
    restarted (node_kind me) (resting_host callers h) clock count after outcome fall
    ≡ resting_step (callers_after callers (begun_from (file_kind me) h.state after fall) (without_boot_record (can_start (begun_from (file_kind me) h.state after fall).state) outcome)) (restarted (file_kind me) h clock count after outcome fall)
rest_starts me callers h clock count after outcome fall of =
    let f = begun_from (file_kind me) h.state after fall in
    ap (λ (g : Begun NodeState). ends (node_kind me) (resting_host callers h) clock count g fall (without_boot_record (can_start g.state.file) outcome)) (rest_begins me callers h.state after fall of)
    ∙ rest_ends me callers h clock count f fall (without_boot_record (can_start f.state) outcome)

pub hosts_rest : RestingHostsAreFiles
hosts_rest = record { given_found = rest_given; served_it = rest_served; timed = rest_timed; passed = rest_woken; begins = rest_begins; starts_again = rest_starts }
