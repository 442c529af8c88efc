-- What a break does behind the reply to it.
use Rattle.std.proofs.Common.{◌≡◌, ℕ, ℤ, Bool, true, false, cond, ◌||◌, List, [], ◌∷◌, Result, Ok, Err, refl, ap, sym, subst, ◌∙◌}
use Rattle.std.specs.declared.alloc.AllocError.{AllocError}
use Rattle.afs_num.specs.declared.types.Fid.{Fid}
use Rattle.afs_num.specs.Nodes.{same_node}
use Rattle.afs_num.specs.declared.types.Code.{Code}
use Rattle.afs_num.specs.declared.types.Node.{Node}
use Rattle.afs_num.specs.declared.messages.Message.{Message}
use Rattle.afs_num.specs.declared.messages.Received.{Received}
use Rattle.afs_num.specs.declared.messages.Received.TheVariants.{Unreadable, Unserved}
use Rattle.afs_num.specs.declared.types.Head.{Head}
use Rattle.afs_num.specs.declared.calls.AfsCallBack.{AfsCallBack}
use Rattle.afs_num.specs.declared.calls.FsCall.{FsCall}
use Rattle.afs_num.specs.declared.calls.FsCall.TheVariants as calls
use Rattle.afs_num.specs.declared.messages.Call.{Call}
use Rattle.afs_num.specs.declared.messages.Call.TheVariants as ask
use Rattle.afs_num.specs.declared.messages.Carried.{Carried}
use Rattle.afs_num.specs.declared.messages.Carried.TheVariants as carried
use Rattle.spec_history.specs.declared.lines.Line.{Line}
use Rattle.spec_history.specs.declared.lines.Line.TheVariants as lines
use Rattle.spec_history.specs.declared.lines.Outs.{Outs}
use Rattle.spec_model.specs.Steps.{NodeState}
use Rattle.spec_rows.specs.States.{CacheEntry}
use Rattle.spec_rows.specs.Going.{ClientState}
use Rattle.spec_rows.specs.ServerRow.{bad_fields, not_served}
use Rattle.spec_shape.specs.Tables.{is_among}
use Rattle.spec_model.specs.CellRows.{client_calls}
use Rattle.spec_model.specs.Calls.{Admitted, admitted}
use Rattle.spec_model.specs.Calls as pairs
use Rattle.spec_rows.specs.ClientRow.{admits_call, breaks, ignores, refused_with, replies_step, runs_call, runs_carried, takes_in}
use Rattle.afs_cache.specs.Serving.{admits_asking, runs_asking, takes_asking}
use Rattle.afs_cache.specs.declared.serving.Asking.{Asking}
use Rattle.afs_cache.specs.declared.serving.Asking.TheVariants as askings
use Rattle.spec_rows.specs.Steps.{Step}
use Rattle.afs_entries.specs.Cached.{unlisted}
use Rattle.spec_copyrows.specs.Sites.{as_it_is, with_client, CopyState}
use Rattle.afs_cache.specs.Managing.{Makes, TakesStill}

either_is : (a b : Bool) → (a || b) ≡ cond a true b
either_is true b = refl
either_is false b = refl

-- the client without these entries, whose reply is spoiled if so
abbrev pub lost : ClientState → List CacheEntry → Bool → ClientState
lost c cache named = record c { cache = cache; spoiled = cond named true c.spoiled }

abbrev pub after_loss : List Fid → Bool → ClientState → ClientState
after_loss fids named c = record c { cache = unlisted fids c.cache; spoiled = named || c.spoiled }

abbrev loss : List Fid → Bool → CopyState → CopyState
loss fids named c = with_client c (after_loss fids named c.client)

makes_broken : (old : NodeState CopyState) (mid : CopyState) (place : ℕ) (head : Head) (ls : List Line) (x : Carried) (fids : List Fid) (named : Bool) (outs : Outs) → Makes (as_it_is old.state (replies_step old.state.client place head ls x)) mid (λ rest. lines.Given place ∷ rest) outs
    → Makes (as_it_is old.state (replies_step (lost old.state.client (unlisted fids old.state.client.cache) named) place head ls x)) (loss fids named mid) (λ rest. lines.Given place ∷ rest) outs
makes_broken old mid place head ls x fids named outs m = record {
  state = ap (loss fids named) m.state ∙ ap (λ (b : Bool). with_client old.state (record (replies_step old.state.client place head ls x).state { cache = unlisted fids old.state.client.cache; spoiled = b })) (either_is named old.state.client.spoiled);
  lines = m.lines;
  sent = m.sent;
}

-- the reply was made, and then the entries went
pub broken : (old mid new : NodeState CopyState) (head : Head) (ls told : List Line) (x : Carried) (fids : List Fid) (named : Bool) (cache : List CacheEntry) (outs : Outs)
    → TakesStill {E = AllocError} (λ place. replies_step old.state.client place head told x) old mid (Ok outs) → told ≡ ls → unlisted fids old.state.client.cache ≡ cache
    → new ≡ record mid { state = loss fids named mid.state }
    → TakesStill {E = AllocError} (λ place. replies_step (lost old.state.client cache named) place head ls x) old new (Ok outs)
broken old mid new head ls told x fids named cache outs made is left last = (
  ap (λ (n : NodeState CopyState). n.node) last ∙ made.0,
  λ place.
      let put = makes_broken old mid.state place head told x fids named outs (made.1 place) in
      let behind = subst (λ (us : List Line). Makes (as_it_is old.state (replies_step (lost old.state.client (unlisted fids old.state.client.cache) named) place head us x)) (loss fids named mid.state) (λ rest. lines.Given place ∷ rest) outs) is put in
      let gone = subst (λ (es : List CacheEntry). Makes (as_it_is old.state (replies_step (lost old.state.client es named) place head ls x)) (loss fids named mid.state) (λ rest. lines.Given place ∷ rest) outs) left behind in
      subst (λ (n : NodeState CopyState). Makes (as_it_is old.state (replies_step (lost old.state.client cache named) place head ls x)) n.state (λ rest. lines.Given place ∷ rest) outs) (sym last) gone,
)

-- the same, where the parts are told by equations
pub breaks_by : (old mid new : NodeState CopyState) (head : Head) (ls told : List Line) (x spelled : Carried) (fids : List Fid) (named seen : Bool) (cache : List CacheEntry) (outs : Outs)
    → TakesStill {E = AllocError} (λ place. replies_step old.state.client place head told spelled) old mid (Ok outs) → told ≡ ls → spelled ≡ x → seen ≡ named → unlisted fids old.state.client.cache ≡ cache
    → new ≡ record mid { state = loss fids seen mid.state }
    → TakesStill {E = AllocError} (λ place. replies_step (lost old.state.client cache named) place head ls x) old new (Ok outs)
breaks_by old mid new head ls told x spelled fids named seen cache outs made is same so left last =
    let done = broken old mid new head ls told spelled fids seen cache outs made is left last in
    let said = subst (λ (y : Carried). TakesStill {E = AllocError} (λ (place : ℕ). replies_step (lost old.state.client cache seen) place head ls y) old new (Ok outs)) same done in
    subst (λ (b : Bool). TakesStill {E = AllocError} (λ (place : ℕ). replies_step (lost old.state.client cache b) place head ls x) old new (Ok outs)) so said

-- ---- calls that no client serves

pub refused_others : (me : Node) (c : ClientState) (place : ℕ) (head : Head) (call : FsCall) → ((fs : List Fid) (cs : List AfsCallBack) → call ≡ calls.CallBack fs cs → ⊥) → (call ≡ calls.InitCallBackState → ⊥) → (call ≡ calls.Probe → ⊥)
    → breaks me c place head call ≡ replies_step c place head [] (refused_with not_served)
refused_others me c place head (calls.FetchData qf qp qn) no_break no_all no_probe = refl
refused_others me c place head (calls.FetchAcl qf) no_break no_all no_probe = refl
refused_others me c place head (calls.FetchStatus qf) no_break no_all no_probe = refl
refused_others me c place head (calls.StoreData qf qs qp qn ql qb) no_break no_all no_probe = refl
refused_others me c place head (calls.StoreAcl qf qa) no_break no_all no_probe = refl
refused_others me c place head (calls.StoreStatus qf qs) no_break no_all no_probe = refl
refused_others me c place head (calls.RemoveFile qd qn) no_break no_all no_probe = refl
refused_others me c place head (calls.CreateFile qd qn qs) no_break no_all no_probe = refl
refused_others me c place head (calls.Rename qd qn qe qm) no_break no_all no_probe = refl
refused_others me c place head (calls.Symlink qd qn qt qs) no_break no_all no_probe = refl
refused_others me c place head (calls.Link qd qn qf) no_break no_all no_probe = refl
refused_others me c place head (calls.MakeDir qd qn qs) no_break no_all no_probe = refl
refused_others me c place head (calls.RemoveDir qd qn) no_break no_all no_probe = refl
refused_others me c place head (calls.GiveUpCallBacks qfs qcs) no_break no_all no_probe = refl
refused_others me c place head (calls.GetVolumeStatus qv) no_break no_all no_probe = refl
refused_others me c place head calls.GetTime no_break no_all no_probe = refl
refused_others me c place head (calls.BulkStatus qfs) no_break no_all no_probe = refl
refused_others me c place head (calls.CallBack fs cs) no_break no_all no_probe = absurd (no_break fs cs refl)
refused_others me c place head calls.InitCallBackState no_break no_all no_probe = absurd (no_all refl)
refused_others me c place head calls.Probe no_break no_all no_probe = absurd (no_probe refl)

-- ---- what is asked

pub same_call : (me : Node) (c : ClientState) (place : ℕ) (head : Head) (user : List ℕ) (call : Call) → runs_asking me c place head (askings.Call call) ≡ runs_carried me c place head (carried.Call user call)
same_call me c place head user (ask.File call) = refl
same_call me c place head user (ask.Volume call) = refl
same_call me c place head user (ask.Location call) = refl

-- a test that was passed
pub chosen : (b : Bool) (x y : Step ClientState) → true ≡ b → x ≡ cond b x y
chosen true x y h = refl
chosen false x y h = absurd cc

admits_as : (me : Node) (c : ClientState) (place : ℕ) (head : Head) (r : Received) (asking : Asking) (a : Admitted Message) → runs_asking me c place head asking ≡ runs_call me c place head r → admits_asking me c place head asking a ≡ admits_call me c place head r a
admits_as me c place head r asking pairs.runs h = h
admits_as me c place head r asking (pairs.kept reply) h = refl
admits_as me c place head r asking pairs.in_progress h = refl
admits_as me c place head r asking pairs.older h = refl
admits_as me c place head r asking (pairs.wrong_boot boot) h = refl

pub unserved_as : (me : Node) (c : ClientState) (clock place : ℕ) (head : Head) → takes_asking me c place head (askings.Refused (record { 0 = not_served })) ≡ takes_in me c clock place (Unserved head)
unserved_as me c clock place head =
    ap (λ (s : Step ClientState). cond (same_node head.to me) s (ignores c place)) (admits_as me c place head (Unserved head) (askings.Refused (record { 0 = not_served })) (admitted c.epoch c.seats head) refl)

pub unreadable_as : (me : Node) (c : ClientState) (clock place : ℕ) (head : Head) (code : Code) → code.0 ≡ cond (is_among client_calls head.opcode) bad_fields not_served → takes_asking me c place head (askings.Refused code) ≡ takes_in me c clock place (Unreadable head)
unreadable_as me c clock place head code h =
    ap (λ (s : Step ClientState). cond (same_node head.to me) s (ignores c place))
    (admits_as me c place head (Unreadable head) (askings.Refused code) (admitted c.epoch c.seats head) (ap (λ (n : ℤ). replies_step c place head [] (refused_with n)) h))

-- ---- it draws no number

breaks_keep : (me : Node) (c : ClientState) (place : ℕ) (head : Head) (call : FsCall) → (breaks me c place head call).state.last ≡ c.last
breaks_keep me c place head (calls.FetchData qf qp qn) = refl
breaks_keep me c place head (calls.FetchAcl qf) = refl
breaks_keep me c place head (calls.FetchStatus qf) = refl
breaks_keep me c place head (calls.StoreData qf qs qp qn ql qb) = refl
breaks_keep me c place head (calls.StoreAcl qf qa) = refl
breaks_keep me c place head (calls.StoreStatus qf qs) = refl
breaks_keep me c place head (calls.RemoveFile qd qn) = refl
breaks_keep me c place head (calls.CreateFile qd qn qs) = refl
breaks_keep me c place head (calls.Rename qd qn qe qm) = refl
breaks_keep me c place head (calls.Symlink qd qn qt qs) = refl
breaks_keep me c place head (calls.Link qd qn qf) = refl
breaks_keep me c place head (calls.MakeDir qd qn qs) = refl
breaks_keep me c place head (calls.RemoveDir qd qn) = refl
breaks_keep me c place head (calls.GiveUpCallBacks qfs qcs) = refl
breaks_keep me c place head (calls.GetVolumeStatus qv) = refl
breaks_keep me c place head calls.GetTime = refl
breaks_keep me c place head (calls.BulkStatus qfs) = refl
breaks_keep me c place head (calls.CallBack qfs qcs) = refl
breaks_keep me c place head calls.InitCallBackState = refl
breaks_keep me c place head calls.Probe = refl

runs_keep : (me : Node) (c : ClientState) (place : ℕ) (head : Head) (asking : Asking) → (runs_asking me c place head asking).state.last ≡ c.last
runs_keep me c place head (askings.Call (ask.File call)) = breaks_keep me c place head call
runs_keep me c place head (askings.Call (ask.Volume call)) = refl
runs_keep me c place head (askings.Call (ask.Location call)) = refl
runs_keep me c place head (askings.Refused code) = refl

pub admits_keep : (me : Node) (c : ClientState) (place : ℕ) (head : Head) (asking : Asking) (a : Admitted Message) → (admits_asking me c place head asking a).state.last ≡ c.last
admits_keep me c place head asking pairs.runs = runs_keep me c place head asking
admits_keep me c place head asking (pairs.kept reply) = refl
admits_keep me c place head asking pairs.in_progress = refl
admits_keep me c place head asking pairs.older = refl
admits_keep me c place head asking (pairs.wrong_boot boot) = refl

chosen_keep : (c : ClientState) (b : Bool) (s t : Step ClientState) → s.state.last ≡ c.last → t.state.last ≡ c.last → (cond b s t).state.last ≡ c.last
chosen_keep c true s t h k = h
chosen_keep c false s t h k = k

pub asking_keeps : (me : Node) (c : ClientState) (place : ℕ) (head : Head) (asking : Asking) → (takes_asking me c place head asking).state.last ≡ c.last
asking_keeps me c place head asking = chosen_keep c (same_node head.to me) (admits_asking me c place head asking (admitted c.epoch c.seats head)) (ignores c place) (admits_keep me c place head asking (admitted c.epoch c.seats head)) refl
