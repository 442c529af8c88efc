-- Numbers that a text writes whole. A text writes 64 digits of a number, the last ones where it has more.
use Rattle.std.specs.Prelude.{ℕ, suc, ◌^◌, ◌<◌, List, [], ◌∷◌, Option, Some, None, ℤ, pos, negsuc}
use Rattle.afs_num.specs.declared.types.Fid.{Fid}
use Rattle.afs_num.specs.declared.types.Head.{Head}
use Rattle.afs_num.specs.declared.types.Key.{Key}
use Rattle.afs_num.specs.declared.types.Node.{Node}
use Rattle.afs_num.specs.declared.types.Node.TheVariants.{Loc, Server, Client, Admin}
use Rattle.afs_num.specs.declared.directories.Name.{Name}
use Rattle.afs_num.specs.declared.messages.Message.{Message}
use Rattle.afs_num.specs.declared.histories.Actor.{Actor}
use Rattle.afs_num.specs.declared.histories.Actor.TheVariants as actors
use Rattle.afs_num.specs.declared.histories.Body.{Body}
use Rattle.afs_num.specs.declared.histories.Body.TheVariants as bodies
use Rattle.afs_num.specs.declared.histories.ReadBody.{ReadBody}
use Rattle.afs_num.specs.declared.histories.ReadBody.TheVariants.{Contents, Status, AccessList}
use Rattle.afs_num.specs.declared.histories.ReadStatus.{ReadStatus}
use Rattle.afs_num.specs.declared.histories.Version.{Version}
use Rattle.spec_history.specs.declared.acts.Act.{Act}
use Rattle.spec_history.specs.declared.acts.Act.TheVariants as acts
use Rattle.spec_history.specs.declared.acts.Operand.{Operand}
use Rattle.spec_history.specs.declared.acts.Operand.TheVariants as operands
use Rattle.spec_history.specs.declared.acts.Written.{Written}
use Rattle.spec_history.specs.declared.acts.Written.TheVariants.{Hex, Fill}
use Rattle.spec_history.specs.declared.scripts.AdminAct.{AdminAct}
use Rattle.spec_history.specs.declared.scripts.AdminAct.TheVariants as admin_acts
use Rattle.spec_history.specs.declared.lines.Line.{Line}
use Rattle.spec_history.specs.declared.lines.Line.TheVariants as lines
use Rattle.spec_model.specs.Text.{code_carried}
use Rattle.spec_rows.specs.Runs.{Entry}

-- ---- numbers and what names nodes, objects and calls

abbrev pub IsWhole : ℕ → Type 0
IsWhole n = n < 10 ^ 64

abbrev pub IsWholeSigned : ℤ → Type 0
IsWholeSigned (pos n) = IsWhole n
IsWholeSigned (negsuc n) = IsWhole (suc n)

abbrev pub IsWholeNode : Node → Type 0
IsWholeNode Loc = Unit {0}
IsWholeNode (Server i) = IsWhole i
IsWholeNode (Client i) = IsWhole i
IsWholeNode (Admin i) = IsWhole i

abbrev pub IsWholeFid : Fid → Type 0
IsWholeFid f = IsWhole f.volume × IsWhole f.vnode × IsWhole f.unique

abbrev pub IsWholeKey : Key → Type 0
IsWholeKey k = IsWholeNode k.node × IsWhole k.epoch × IsWhole k.number

abbrev pub IsWholeOwed : Option Fid → Type 0
IsWholeOwed (Some fid) = IsWholeFid fid
IsWholeOwed None = Unit {0}

-- ---- acts

-- a mode is written in octal
abbrev pub IsWholeMode : ℕ → Type 0
IsWholeMode mode = mode < 8 ^ 64

abbrev pub IsWholeOperand : Operand → Type 0
IsWholeOperand (operands.Path p) = Unit {0}
IsWholeOperand (operands.Fid f) = IsWholeFid f

abbrev pub IsWholeWritten : Written → Type 0
IsWholeWritten (Hex bytes) = Unit {0}
IsWholeWritten (Fill count byte) = IsWhole count

abbrev pub IsWholeAct : Act → Type 0
IsWholeAct (acts.Open o) = IsWholeOperand o
IsWholeAct (acts.ListNames o) = IsWholeOperand o
IsWholeAct (acts.ReadLink o) = IsWholeOperand o
IsWholeAct (acts.Stat o) = IsWholeOperand o
IsWholeAct (acts.StatAll o) = IsWholeOperand o
IsWholeAct (acts.Close o contents) = IsWholeOperand o × IsWholeWritten contents
IsWholeAct (acts.Make p) = Unit {0}
IsWholeAct (acts.MakeDirectory p) = Unit {0}
IsWholeAct (acts.Remove p) = Unit {0}
IsWholeAct (acts.RemoveDirectory p) = Unit {0}
IsWholeAct (acts.Move p q) = Unit {0}
IsWholeAct (acts.Link p q) = Unit {0}
IsWholeAct (acts.Symlink p target) = IsWholeWritten target
IsWholeAct (acts.SetMode o mode) = IsWholeOperand o × IsWholeMode mode
IsWholeAct (acts.SetAccessList o text) = IsWholeOperand o × IsWholeWritten text
IsWholeAct (acts.GetAccessList o) = IsWholeOperand o
IsWholeAct acts.GiveUp = Unit {0}

abbrev pub IsWholeAdminAct : AdminAct → Type 0
IsWholeAdminAct (admin_acts.Create name server quota) = IsWhole server × IsWhole quota
IsWholeAdminAct (admin_acts.Restore name server label) = IsWhole server
IsWholeAdminAct (admin_acts.AddSite name server) = IsWhole server
IsWholeAdminAct (admin_acts.Backup name) = Unit {0}
IsWholeAdminAct (admin_acts.Release name) = Unit {0}
IsWholeAdminAct (admin_acts.Move name server) = IsWhole server
IsWholeAdminAct (admin_acts.Dump name label from) = IsWhole from
IsWholeAdminAct (admin_acts.Remove name) = Unit {0}
IsWholeAdminAct (admin_acts.Recover name) = Unit {0}

-- ---- what versions and reads hold

abbrev pub IsWholeName : Name → Type 0
IsWholeName n = IsWhole n.vnode × IsWhole n.unique

abbrev pub AreWholeNames : List Name → Type 0
AreWholeNames [] = Unit {0}
AreWholeNames (n ∷ ns) = IsWholeName n × AreWholeNames ns

abbrev pub IsWholeBody : Body → Type 0
IsWholeBody (bodies.File contents) = Unit {0}
IsWholeBody (bodies.Dir names) = AreWholeNames names
IsWholeBody (bodies.Link target) = Unit {0}
IsWholeBody bodies.Gone = Unit {0}

abbrev pub IsWholeStatus : ReadStatus → Type 0
IsWholeStatus s = IsWhole s.kind × IsWhole s.link_count × IsWhole s.length × IsWhole s.mode

abbrev pub IsWholeReadBody : ReadBody → Type 0
IsWholeReadBody (Contents body) = IsWholeBody body
IsWholeReadBody (Status status) = IsWholeStatus status
IsWholeReadBody (AccessList text) = Unit {0}

abbrev pub IsWholeVersion : Version → Type 0
IsWholeVersion v = IsWholeFid v.fid × IsWhole v.index × IsWhole v.data_version × IsWholeBody v.body

-- ---- lines

abbrev pub IsWholeLine : Line → Type 0
IsWholeLine (lines.Begin node act) = IsWholeNode node × IsWholeAct act
IsWholeLine (lines.Given place) = IsWhole place
IsWholeLine (lines.Grant server client fid index expiry) = IsWholeNode server × IsWholeNode client × IsWholeFid fid × IsWhole index × IsWhole expiry
IsWholeLine (lines.Change server key count) = IsWholeNode server × IsWholeKey key × IsWhole count
IsWholeLine (lines.Version version) = IsWholeVersion version
IsWholeLine (lines.Read client fid index source body) = IsWholeNode client × IsWholeFid fid × IsWhole index × IsWholeReadBody body
IsWholeLine (lines.Answer node code) = IsWholeNode node × IsWholeSigned code.0
IsWholeLine (lines.Timeout caller callee epoch number count) = IsWholeNode caller × IsWholeNode callee × IsWhole epoch × IsWhole number × IsWhole count
IsWholeLine (lines.Tick ticks) = IsWhole ticks
IsWholeLine (lines.Stop node calls pick) = IsWholeNode node × IsWhole calls × IsWhole pick
IsWholeLine (lines.Fail node calls) = IsWholeNode node × IsWhole calls
IsWholeLine (lines.Crash node) = IsWholeNode node
IsWholeLine (lines.Fault node) = IsWholeNode node
IsWholeLine (lines.Restart node boot) = IsWholeNode node × IsWhole boot
IsWholeLine (lines.Full node) = IsWholeNode node
IsWholeLine (lines.Drop client fid) = IsWholeNode client × IsWholeFid fid
IsWholeLine (lines.DropAll client server) = IsWholeNode client × IsWholeNode server
IsWholeLine (lines.Owe server client fid number) = IsWholeNode server × IsWholeNode client × IsWholeOwed fid × IsWhole number
IsWholeLine (lines.Settle server client number) = IsWholeNode server × IsWholeNode client × IsWhole number
IsWholeLine (lines.Quit server client number) = IsWholeNode server × IsWholeNode client × IsWhole number
IsWholeLine (lines.Made server volume count) = IsWholeNode server × IsWhole volume × IsWhole count
IsWholeLine (lines.Fence volume server) = IsWhole volume × IsWholeNode server
IsWholeLine (lines.Enable volume server) = IsWhole volume × IsWholeNode server
IsWholeLine (lines.Vanish volume server) = IsWhole volume × IsWholeNode server
IsWholeLine (lines.Released family volume release server) = IsWhole family × IsWhole volume × IsWhole release × IsWholeNode server
IsWholeLine (lines.Locked volume stamp operation) = IsWhole volume × IsWhole stamp × IsWhole operation
IsWholeLine (lines.Unlocked volume) = IsWhole volume
IsWholeLine (lines.Recovered volume) = IsWhole volume
IsWholeLine (lines.Located volume server) = IsWhole volume × IsWholeNode server
IsWholeLine (lines.Older node offered seen) = IsWholeNode node × IsWhole offered × IsWhole seen
IsWholeLine (lines.BeginAdmin node act) = IsWholeNode node × IsWholeAdminAct act
IsWholeLine (lines.Stuck node code) = IsWholeNode node × IsWholeSigned code.0
IsWholeLine (lines.Dumped node label size) = IsWholeNode node × IsWhole size
IsWholeLine lines.Void = Unit {0}

abbrev pub AreWholeLines : List Line → Type 0
AreWholeLines [] = Unit {0}
AreWholeLines (l ∷ ls) = IsWholeLine l × AreWholeLines ls

-- ---- messages and entries

-- what a line tells of a header
abbrev pub IsWholeHead : Head → Type 0
IsWholeHead h = IsWholeNode h.from × IsWholeNode h.to × IsWhole h.opcode × IsWhole h.epoch × IsWhole h.number

abbrev pub IsWholeMessage : Message → Type 0
IsWholeMessage m = IsWholeHead m.head × IsWholeSigned (code_carried m.carried)

abbrev pub AreWholeMessages : List Message → Type 0
AreWholeMessages [] = Unit {0}
AreWholeMessages (m ∷ ms) = IsWholeMessage m × AreWholeMessages ms

abbrev pub IsWholeActor : Actor → Type 0
IsWholeActor (actors.Node node) = IsWholeNode node
IsWholeActor actors.Clock = Unit {0}
IsWholeActor actors.Nobody = Unit {0}

abbrev pub IsWholeEntry : Entry → Type 0
IsWholeEntry e = IsWholeActor e.actor × AreWholeLines e.lines × AreWholeMessages e.sent

abbrev pub AreWholeEntries : List Entry → Type 0
AreWholeEntries [] = Unit {0}
AreWholeEntries (e ∷ es) = IsWholeEntry e × AreWholeEntries es
