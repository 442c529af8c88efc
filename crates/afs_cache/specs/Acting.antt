-- What an act does next: it is planned while the client is as it was, and then done without memory.
use Rattle.std.specs.Prelude.{◌≡◌, ◌<◌, ℕ, ◌+◌, List, [], ◌∷◌, ◌++◌, Bool, true, false, Option, Some, None, map}
use Rattle.afs_num.specs.Nodes.{IsNode}
use Rattle.afs_num.specs.declared.types.Head.{Head}
use Rattle.afs_num.specs.declared.types.Half.TheVariants as halves
use Rattle.afs_num.specs.declared.types.Node.{Node}
use Rattle.afs_num.specs.declared.types.Node.TheVariants as nodes
use Rattle.afs_num.specs.declared.calls.FsCall.{FsCall}
use Rattle.afs_num.specs.declared.messages.Call.TheVariants as ask
use Rattle.afs_num.specs.declared.messages.Message.{Message}
use Rattle.spec_history.specs.declared.acts.Operand.{Operand}
use Rattle.spec_history.specs.declared.lines.Line.{Line}
use Rattle.spec_history.specs.declared.lines.Outs.{Outs}
use Rattle.spec_model.specs.CellRows as cell_rows
use Rattle.spec_model.specs.FsRows.{call_number}
use Rattle.spec_model.specs.Messages.{parcels_read, messages_spelled}
use Rattle.spec_model.specs.Steps.{NodeState}
use Rattle.spec_rows.specs.States.{CacheEntry, Gift, Location}
use Rattle.spec_rows.specs.Going.{ClientState, Going, next, operand_in}
use Rattle.spec_rows.specs.ClientRow.{Walked, boot_of, call_by, drop_line, first_server_of, goes_on, most_reads, question, server_for, volume_asked, walked}
use Rattle.spec_rows.specs.Steps.{Step}
use Rattle.spec_copyrows.specs.Sites.{calls_round, round_in, round_or, with_client, CopyState, Round}
use Rattle.afs_entries.specs.Cached.{in_sight, left, listed, touched_all, unlisted}
use Rattle.afs_entries.specs.declared.cache.Fresh.{Fresh}
use Rattle.afs_entries.specs.declared.drops.Drops.{Drops}
use Rattle.afs_entries.specs.declared.drops.Drops.TheVariants as drops
use Rattle.afs_asking.specs.Asking.{calling, is_giving}
use Rattle.afs_asking.specs.Asking.{Asking}
use Rattle.afs_cache.specs.Managing.{Makes, number_limit, sent_to_site}
use Rattle.afs_cache.specs.declared.acting.Asks.{Asks}
use Rattle.afs_cache.specs.declared.acting.Dropping.{Dropping}
use Rattle.afs_cache.specs.declared.acting.Plan.{Plan}
use Rattle.afs_cache.specs.declared.acting.Plan.TheVariants as plans
use Rattle.afs_cache.specs.declared.acting.Seeks.{Seeks}
use Rattle.afs_cache.specs.declared.acting.Way.{Way}

-- ---- a call

abbrev pub head_of : Node → ℕ → ℕ → Node → ℕ → FsCall → Head
head_of me epoch number callee boot call = record { half = halves.Call; from = me; to = callee; epoch = epoch; number = number; boot = boot; stamp = 0; opcode = call_number call }

abbrev pub question_head : Node → ℕ → ℕ → ℕ → Operand → Head
question_head me epoch number boot o =
    record { half = halves.Call; from = me; to = nodes.Loc; epoch = epoch; number = number; boot = boot; stamp = 0; opcode = cell_rows.call_number (ask.Location (question o)) }

-- the call under this number to this callee, in its boot
abbrev pub sent_to : Node → ClientState → ℕ → Node → ℕ → FsCall → Message
sent_to me c number callee boot call = calling (head_of me c.epoch number callee boot call) c.user (ask.File call)

abbrev pub called_by : Bool → List Location → Going → List Gift → FsCall → Node
called_by true table act gifts call = first_server_of gifts
called_by false table act gifts call = nodes.Server (server_for table (operand_in act (volume_asked call)))

-- an act has asked for what it needs where the table names, and told these lines
pub record IsAsking (me : Node) (c : ClientState) (act : Going) (given : List Gift) (told : List Line) (a : Asks) : Type 0 where
  pub going : a.asked.going ≡ act
  pub gifts : a.asked.gifts ≡ given
  pub callee : a.callee ≡ called_by (is_giving (next act)) c.table act given (call_by given (next act))
  pub node : IsNode a.callee
  pub round : a.round ≡ None
  pub lines : a.outs.lines ≡ told
  pub sent : parcels_read a.outs.parcels ≡ messages_spelled (sent_to me c (c.last + 1) a.callee (boot_of a.callee c.boots) (call_by given (next act)) ∷ [])

-- the question for this operand under this number, in this boot of the location database
abbrev pub sought_from : Node → ClientState → ℕ → ℕ → Operand → Message
sought_from me c number boot o = calling (question_head me c.epoch number boot o) c.user (ask.Location (question o))

-- ---- plans

abbrev pub waiting : ClientState → Asks → ClientState
waiting c a = record c { last = c.last + 1; tries = 0; running = Some a.asked.going; callee = a.callee; spoiled = false; gifts = a.asked.gifts; seeking = None }

abbrev pub sought : ClientState → Seeks → ClientState
sought c s = record c { last = c.last + 1; tries = 0; running = None; callee = nodes.Loc; spoiled = false; gifts = []; seeking = Some s.seeking }

-- the round in whose volume an act calls
abbrev pub round_at : CopyState → Asking → Option Round
round_at c a = round_in c a.going (volume_asked (call_by a.gifts (next a.going)))

-- the state in which a plan leaves the client, and what is given out
abbrev pub followed : CopyState → Plan → CopyState
followed c (plans.Ends outs) = with_client c (record c.client { running = None; gifts = []; seeking = None })
followed c (plans.Asks asks) = record c { client = waiting c.client asks; round = round_or asks.round c.round }
followed c (plans.Seeks seeks) = with_client c (sought c.client seeks)

abbrev pub outs_of : Plan → Outs
outs_of (plans.Ends outs) = outs
outs_of (plans.Asks asks) = asks.outs
outs_of (plans.Seeks seeks) = seeks.outs

-- a call is for a node, and has a number behind the last one
abbrev pub CanFollow : ℕ → Plan → Type 0
CanFollow last (plans.Ends outs) = Unit {0}
CanFollow last (plans.Asks asks) = IsNode asks.callee × (last < number_limit)
CanFollow last (plans.Seeks seeks) = last < number_limit

-- the entries of the volume that a call may change
abbrev pub changed_in : Option ℕ → Drops
changed_in None = drops.Nothing
changed_in (Some volume) = drops.Volume volume

-- the client as it is but for its cache, and for how often the act was told to wait, and asked where a volume went
abbrev pub but_for : ClientState → List CacheEntry → ℕ → ℕ → ClientState
but_for c cache busy moved = record c { cache = cache; busy = busy; moved = moved }

-- the same of a client that reads read-only volumes too
abbrev pub but_for_these : CopyState → List CacheEntry → ℕ → ℕ → CopyState
but_for_these c cache busy moved = with_client c (but_for c.client cache busy moved)

-- a plan for this step behind lines that were told before, whatever the cache is by then
abbrev pub PlansFor : (ClientState → (List Line → List Line) → Step ClientState) → List Line → NodeState CopyState → Plan → Type 0
PlansFor step told n plan = (cache : List CacheEntry) (busy moved : ℕ) (first : List Line) →
    Makes (sent_to_site n.node n.state (step (but_for n.state.client cache busy moved) (λ ls. first ++ (told ++ ls)))) (followed (but_for_these n.state cache busy moved) plan) (λ ls. first ++ ls) (outs_of plan)

-- a plan for a call in this round
abbrev pub PlansRound : Asking → Round → List Line → NodeState CopyState → Plan → Type 0
PlansRound a r told n plan = (cache : List CacheEntry) (busy moved : ℕ) (first : List Line) →
    Makes (calls_round n.node (with_client n.state (record (but_for n.state.client cache busy moved) { gifts = a.gifts })) a.going r (first ++ told)) (followed (but_for_these n.state cache busy moved) plan) (λ ls. first ++ ls) (outs_of plan)

-- where an act came along its walk from the cache, with another cache
abbrev pub over : Walked → List CacheEntry → Walked
over w cache = record w { cache = cache }

-- ---- entries that go

-- these entries are to go, and it was told behind these lines
pub record IsDropping (me : Node) (cache : List CacheEntry) (d : Drops) (told : List Line) (x : Dropping) : Type 0 where
  pub fids : x.fids.items ≡ listed d cache
  pub rest : unlisted x.fids.items cache ≡ left d cache
  pub lines : x.lines ≡ told ++ map (drop_line me) x.fids.items

-- ---- ways

-- the cache as it will be with an entry that comes
abbrev pub seen_with : ClientState → Option Fresh → List CacheEntry
seen_with c fresh = in_sight (record { entries = c.cache; capacity = c.capacity }) fresh

abbrev pub whole_walk : ℕ → Going → List CacheEntry → Walked
whole_walk clock act entries = walked (most_reads act) clock act entries

-- an act walks as far as these entries show what it needs, behind lines that were told before, and this is planned then
pub record IsWay (n : NodeState CopyState) (w : Walked) (entries : List CacheEntry) (told : List Line) (way : Way) : Type 0 where
  pub used : touched_all way.used.items entries ≡ w.cache
  pub plan : PlansFor (λ d front. goes_on n.node d front (over w d.cache)) told n way.plan
  pub follows : CanFollow n.state.client.last way.plan
