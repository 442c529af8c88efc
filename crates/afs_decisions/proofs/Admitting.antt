-- What is decided on a call, by what becomes of it.
use Rattle.std.proofs.Common.{◌≡◌, ℕ, Bool, true, false, cond, List, [], refl, sym, ap, subst, ◌∙◌}
use Rattle.std.specs.Prelude.{nat_eq}
use Rattle.afs_num.specs.Nodes.{same_node}
use Rattle.afs_num.specs.declared.calls.FsCall.{FsCall}
use Rattle.afs_num.specs.declared.calls.FsCall.TheVariants as calls
use Rattle.afs_num.specs.declared.calls.FsReply.TheVariants as replies
use Rattle.afs_num.specs.declared.messages.Message.{Message}
use Rattle.afs_num.specs.declared.messages.Received.{Received}
use Rattle.afs_num.specs.declared.messages.Received.TheVariants.{Whole}
use Rattle.afs_num.specs.declared.types.Head.{Head}
use Rattle.afs_num.specs.declared.types.Node.{Node}
use Rattle.spec_model.specs.Calls as pairs
use Rattle.spec_model.specs.Calls.{admitted, call_seat, paired, Admitted}
use Rattle.spec_model.specs.Messages.{HasSpelling}
use Rattle.spec_ideal.specs.Operations.{the_user, volume_called}
use Rattle.spec_ideal.specs.Tables.{Table}
use Rattle.spec_rows.specs.ServerRow.{drops, is_client, not_served, refuses, time_read}
use Rattle.spec_rows.specs.States.{Seat, ServerState}
use Rattle.spec_volrows.specs.FileRow.{file_admits, file_called, file_received, file_runs, file_serves, file_volume}
use Rattle.afs_message.specs.Spelled.{Spells}
use Rattle.afs_callees.specs.declared.telling.Grant.{Grant}
use Rattle.afs_decisions.specs.Deciding.{is_on_volume, CanBeTold, Decides, IsByClient, Runs}
use Rattle.afs_decisions.specs.declared.decided.Decided.{Decided}
use Rattle.afs_decisions.specs.declared.decided.Decided.TheVariants as decided

-- ---- calls of clients

pub by_client : (head : Head) (d : Decided) → is_client head.from ≡ true → IsByClient head d
by_client head decided.Drops is = tt
by_client head decided.TellsBoot is = tt
by_client head (decided.Repeats reply) is = tt
by_client head (decided.Refuses code) is = tt
by_client head (decided.Shows reply grants) is = tt
by_client head (decided.GivesUp fids) is = tt
by_client head (decided.Changes id x) is = is

pub client_runs : (holds : Table ℕ) (s : ServerState) (clock : ℕ) (head : Head) (r : Received) (d : Decided) → is_client head.from ≡ true → Decides s clock head (file_received holds s clock head r) d → Decides s clock head (file_runs holds s clock head r) d
client_runs holds s clock head r d is decides = rw is decides

pub other_runs : (holds : Table ℕ) (s : ServerState) (clock : ℕ) (head : Head) (r : Received) → is_client head.from ≡ false → file_runs holds s clock head r ≡ refuses head not_served
other_runs holds s clock head r is = rw is refl

-- ---- by what becomes of the call

runs_by : (b : Bool) (a : Admitted Message) (boot : ℕ) → cond b a (pairs.wrong_boot boot) ≡ pairs.runs → a ≡ pairs.runs
runs_by true a boot e = e
runs_by false a boot e = absurd cc

pub paired_runs : (boot : ℕ) (seats : List Seat) (head : Head) → admitted boot seats head ≡ pairs.runs → paired head.epoch head.number (call_seat head.from seats) ≡ pairs.runs
paired_runs boot seats head e = runs_by (nat_eq head.boot boot) (paired head.epoch head.number (call_seat head.from seats)) boot e

pub runs_any : (d : Decided) (a : Admitted Message) → a ≡ pairs.runs → Runs d a
runs_any decided.Drops a e = tt
runs_any decided.TellsBoot a e = tt
runs_any (decided.Repeats reply) a e = tt
runs_any (decided.Refuses code) a e = e
runs_any (decided.Shows reply grants) a e = e
runs_any (decided.GivesUp fids) a e = e
runs_any (decided.Changes id x) a e = e

same_message : (m n : Message) → ◌≡◌ {A = Received} (Whole m) (Whole n) → m ≡ n
same_message m n e = cc

pub kept_decides : (holds : Table ℕ) (s : ServerState) (clock : ℕ) (head : Head) (r : Received) (a : Admitted Message) (m reply : Message) (bytes : List ℕ) → a ≡ pairs.kept m → Spells m bytes → Spells reply bytes → Decides s clock head (file_admits holds s clock head r a) (decided.Repeats reply)
kept_decides holds s clock head r a m reply bytes e is spells = ap (file_admits holds s clock head r) (e ∙ ap pairs.kept (same_message m reply (sym is.read ∙ spells.read)))

pub kept_can_be_told : (opcode : ℕ) (reply : Message) → HasSpelling reply → CanBeTold opcode (decided.Repeats reply)
kept_can_be_told opcode reply sound = sound.0.1

-- ---- the call is for this server

pub called_here : (me : Node) (holds : Table ℕ) (s : ServerState) (clock : ℕ) (head : Head) (r : Received) (d : Decided) → same_node head.to me ≡ true → Decides s clock head (file_admits holds s clock head r (admitted s.lasting.boot s.seats head)) d → Decides s clock head (file_called me holds s clock head r) d
called_here me holds s clock head r d is decides = rw is decides

pub called_elsewhere : (me : Node) (holds : Table ℕ) (s : ServerState) (clock : ℕ) (head : Head) (r : Received) → same_node head.to me ≡ false → file_called me holds s clock head r ≡ drops
called_elsewhere me holds s clock head r is = rw is refl

-- ---- a call that one volume serves

serves_as : (holds : Table ℕ) (s : ServerState) (clock : ℕ) (head : Head) (user : List ℕ) (call : FsCall) → is_on_volume call ≡ true → file_serves holds s clock head user call ≡ file_volume holds s clock head (the_user user) call (volume_called call)
serves_as holds s clock head user (calls.GiveUpCallBacks fids callbacks) is = absurd cc
serves_as holds s clock head user calls.GetTime is = absurd cc
serves_as holds s clock head user (calls.BulkStatus fids) is = absurd cc
serves_as holds s clock head user call is = refl

pub volume_serves : (holds : Table ℕ) (s : ServerState) (clock : ℕ) (head : Head) (user : List ℕ) (call : FsCall) (d : Decided) → is_on_volume call ≡ true → Decides s clock head (file_volume holds s clock head (the_user user) call (volume_called call)) d → Decides s clock head (file_serves holds s clock head user call) d
volume_serves holds s clock head user call d is decides = subst (λ x. Decides s clock head x d) (sym (serves_as holds s clock head user call is)) decides

pub time_told : (holds : Table ℕ) (s : ServerState) (clock : ℕ) (head : Head) (user : List ℕ) (call : FsCall) (grants : List Grant) → call ≡ calls.GetTime → grants ≡ [] → Decides s clock head (file_serves holds s clock head user call) (decided.Shows (replies.GetTime clock 0) grants)
time_told holds s clock head user call grants is none =
    (time_read clock, (record { reply_is = refl; grants_are = sym none; nothing = refl }, ap (file_serves holds s clock head user) is))
