-- The host of a file server whose volumes are all in service is that of a file server alone.
use Rattle.std.proofs.Common.{◌≡◌, ℕ, Bool, true, false, List, [], ◌++◌, Option, Some, None, refl, ap, ◌∙◌}
use Rattle.afs_num.specs.declared.messages.Message.{Message}
use Rattle.afs_num.specs.declared.messages.Received.{Received}
use Rattle.afs_num.specs.declared.messages.Received.TheVariants.{Whole}
use Rattle.afs_num.specs.declared.types.Node.{Node}
use Rattle.spec_history.specs.declared.lines.Line.{Line}
use Rattle.spec_rows.specs.Hosts.{at_rest, begun_from, comes_up, ends, fails_early, fails_midway, given, goes, in_boot, in_step, is_full, lowered, restarted, served, served_by, without_boot_record, struck, unarmed, Blow, Fall, Luck, Outcome}
use Rattle.spec_rows.specs.ServerHosts.{can_start, server_kind, ServerHost}
use Rattle.spec_rows.specs.ServerRow.{begun_after, decides, device_calls, revived, Decision}
use Rattle.spec_rows.specs.States.{ServerState}
use Rattle.spec_rows.specs.Steps.{Begun, Step}
use Rattle.spec_fold.proofs.Vanishing.{none_vanish}
use Rattle.spec_volrows.specs.FileHosts.{file_kind, OpenHostsArePlain}
use Rattle.spec_volrows.specs.FileLaws.{IsOpen}
use Rattle.spec_volrows.specs.FileRow.{file_decides, file_row}
use Rattle.spec_volrows.proofs.CellOpen.{begun_open}
use Rattle.spec_volrows.proofs.FileOpen.{open_plain}

-- ---- a message

same_calls : (me : Node) (s : ServerState) (clock : ℕ) (found : Received) → IsOpen s → device_calls s clock (file_decides me [] s clock found) ≡ device_calls s clock (decides me s clock found)
same_calls me s clock found open' = ap (λ (d : Decision). device_calls s clock d) (open_plain.decided me s clock found open')

given_plain : (me : Node) (h : ServerHost) (clock place : ℕ) (found : Received) → IsOpen h.state → given (file_kind me) h clock place found ≡ given (server_kind me) h clock place found
given_plain me h clock place found open' =
    ap (λ (n : ℕ). goes (lowered n h.armed) (file_row me [] h.state clock place found)) (same_calls me h.state clock found open')
    ∙ ap (λ (s : Step ServerState). goes (lowered (device_calls h.state clock (decides me h.state clock found)) h.armed) s) (open_plain.row me h.state clock place found open')

by_plain : (me : Node) (h : ServerHost) (clock place : ℕ) (m : Message) (o : Option Blow) → IsOpen h.state → served_by (file_kind me) h clock place m o ≡ served_by (server_kind me) h clock place m o
by_plain me h clock place m None open' = given_plain me h clock place (Whole m) open'
by_plain me h clock place m (Some b) open' = refl

served_plain : (me : Node) (h : ServerHost) (clock place : ℕ) (luck : Luck) (m : Message) → IsOpen h.state → served (file_kind me) h clock place luck m ≡ served (server_kind me) h clock place luck m
served_plain me h clock place luck m open' =
    by_plain me h clock place m (struck h.armed luck (device_calls h.state clock (file_decides me [] h.state clock (Whole m)))) open'
    ∙ ap (λ (n : ℕ). served_by (server_kind me) h clock place m (struck h.armed luck n)) (same_calls me h.state clock (Whole m) open')

-- ---- a restart

abbrev told_first : ServerState → List Line → Begun ServerState
told_first s front = record { state = revived s; before = λ ls. front ++ ls }

begun_plain : (me : Node) (s : ServerState) (after : Bool) (fall : Fall) → IsOpen s → begun_from (file_kind me) s after fall ≡ begun_from (server_kind me) s after fall
begun_plain me s after at_rest open' = refl
begun_plain me s false (in_step m clock b) open' = refl
begun_plain me s true (in_step m clock b) open' = ap (λ (d : Decision). begun_after me s clock d) (open_plain.decided me s clock (Whole m) open')
begun_plain me s false in_boot open' = refl
begun_plain me s true in_boot open' = ap (told_first s) (none_vanish me s.lasting.volumes open'.volumes)

ends_plain : (me : Node) (h : ServerHost) (clock count : ℕ) (f : Begun ServerState) (fall : Fall) (o : Outcome) → IsOpen f.state → ends (file_kind me) h clock count f fall o ≡ ends (server_kind me) h clock count f fall o
ends_plain me h clock count f fall comes_up open' = ap (goes unarmed) (open_plain.start me clock count f open')
ends_plain me h clock count f fall fails_early open' = refl
ends_plain me h clock count f fall fails_midway open' = refl
ends_plain me h clock count f fall is_full open' = refl

restarted_plain : (me : Node) (h : ServerHost) (clock count : ℕ) (after : Bool) (o : Outcome) (fall : Fall) → IsOpen h.state → restarted (file_kind me) h clock count after o fall ≡ restarted (server_kind me) h clock count after o fall
restarted_plain me h clock count after o fall open' =
    ap (λ (f : Begun ServerState). ends (file_kind me) h clock count f fall (without_boot_record (can_start f.state) o)) (begun_plain me h.state after fall open')
    ∙ ends_plain me h clock count (begun_from (server_kind me) h.state after fall) fall (without_boot_record (can_start (begun_from (server_kind me) h.state after fall).state) o) (begun_open me h.state after fall open')

pub hosts_plain : OpenHostsArePlain
hosts_plain = record { given_found = given_plain; served_it = served_plain; begins = begun_plain; starts_again = restarted_plain }
