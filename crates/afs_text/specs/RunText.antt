-- The text of the lines of a run whose clients take every act.
use Rattle.std.specs.Prelude.{ℕ, List, ◌++◌, codes}
use Rattle.std.specs.List.{flat_map}
use Rattle.std.specs.Fmt.{decimal, signed_decimal}
use Rattle.afs_num.specs.Texts.{node_text}
use Rattle.afs_num.specs.declared.types.Code.{Code}
use Rattle.afs_num.specs.declared.types.Node.{Node}
use Rattle.spec_model.specs.LineText.{answer_text, change_text, crash_text, drop_all_text, drop_text, enable_text, fail_text, fault_text, fence_text, full_text, given_text, grant_text, located_text, locked_text, made_text, owe_text, quit_text, read_text, recovered_text, released_text, restart_text, settle_text, stop_text, tick_text, timeout_text, unlocked_text, vanish_text, version_text, name_text}
use Rattle.spec_history.specs.declared.lines.Line.{Line}
use Rattle.spec_history.specs.declared.lines.Line.TheVariants as lines
use Rattle.afs_text.specs.ActText.{act_text, admin_act_text, begin_text}

-- ---- answers that tell more than a code, and dumps

-- an answer 105, with the release that was offered last and the one that the client has seen
unfoldable pub older_text : Node → ℕ → ℕ → List ℕ
older_text node offered seen = codes "answer " ++ (node_text node ++ (codes " 105 " ++ (decimal offered ++ (codes " " ++ (decimal seen ++ codes "\n")))))

unfoldable pub stuck_text : Node → Code → List ℕ
stuck_text node code = codes "answer " ++ (node_text node ++ (codes " " ++ (signed_decimal code.0 ++ codes " stuck\n")))

unfoldable pub dumped_text : Node → List ℕ → ℕ → List ℕ
dumped_text node label size = codes "dumped " ++ (node_text node ++ (codes " " ++ (name_text label ++ (codes " " ++ (decimal size ++ codes "\n")))))

-- ---- lines

unfoldable pub line_text : Line → List ℕ
line_text (lines.Begin node act) = begin_text node (act_text act)
line_text (lines.Given place) = given_text place
line_text (lines.Grant server client fid index expiry) = grant_text server client fid index expiry
line_text (lines.Change server key count) = change_text server key count
line_text (lines.Version version) = version_text version
line_text (lines.Read client fid index source body) = read_text client fid index source body
line_text (lines.Answer node code) = answer_text node code
line_text (lines.Timeout caller callee epoch number count) = timeout_text caller callee epoch number count
line_text (lines.Tick ticks) = tick_text ticks
line_text (lines.Stop node calls pick) = stop_text node calls pick
line_text (lines.Fail node calls) = fail_text node calls
line_text (lines.Crash node) = crash_text node
line_text (lines.Fault node) = fault_text node
line_text (lines.Restart node boot) = restart_text node boot
line_text (lines.Full node) = full_text node
line_text (lines.Drop client fid) = drop_text client fid
line_text (lines.DropAll client server) = drop_all_text client server
line_text (lines.Owe server client fid number) = owe_text server client fid number
line_text (lines.Settle server client number) = settle_text server client number
line_text (lines.Quit server client number) = quit_text server client number
line_text (lines.Made server volume count) = made_text server volume count
line_text (lines.Fence volume server) = fence_text volume server
line_text (lines.Enable volume server) = enable_text volume server
line_text (lines.Vanish volume server) = vanish_text volume server
line_text (lines.Released family volume release server) = released_text family volume release server
line_text (lines.Locked volume stamp operation) = locked_text volume stamp operation
line_text (lines.Unlocked volume) = unlocked_text volume
line_text (lines.Recovered volume) = recovered_text volume
line_text (lines.Located volume server) = located_text volume server
line_text (lines.Older node offered seen) = older_text node offered seen
line_text (lines.BeginAdmin node act) = begin_text node (admin_act_text act)
line_text (lines.Stuck node code) = stuck_text node code
line_text (lines.Dumped node label size) = dumped_text node label size
line_text lines.Void = codes "void\n"

unfoldable pub lines_text : List Line → List ℕ
lines_text ls = flat_map line_text ls
