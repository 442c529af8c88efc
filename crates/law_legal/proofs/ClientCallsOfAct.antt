-- What a client sends is the call of its running act, under its last pair, to the server of what it names, however many servers a cell has.
use Rattle.law_legal.proofs.DatabaseKeeps.{loc_uncalled}
use Rattle.spec_history.specs.declared.lines.Line.{Line}
use Rattle.spec_history.specs.declared.scripts.Script.{Script}
use Rattle.law_legal.proofs.ActLines.{Acts, IsTheCall, last_key, who_at, IfSeek, OfSeek}
use Rattle.law_legal.proofs.ActSteps.{begins_acts, falls_acts, given_acts, rises_acts, waits_acts, missed_acts}
use Rattle.law_legal.proofs.ClientCallsAtHome.{AsksOf, IsHome, IsOneIn}
use Rattle.law_legal.proofs.BaseLaws.{ByClient, Each, IfCall, OfCall, UpTo, at_put, by_client, each_map, if_call}
use Rattle.law_legal.proofs.ClientCalls.{IsUncalled, uncalled_any}
use Rattle.law_legal.proofs.KeptAtHome.{GivesHome}
use Rattle.law_legal.proofs.CallKeysOnce.{IsKnown, any_told, by_key, known_pair}
use Rattle.law_legal.proofs.RunsKnown.{served_uncalled, started_uncalled, timed_uncalled, woken_uncalled}
use Rattle.law_legal.proofs.ActNamesVolumes.{laid_at}
use Rattle.law_legal.proofs.RunWalk.{EachMove}
use Rattle.law_legal.proofs.ActCallsInRuns.{KnownAsked, the_calls, sought_acts_in}
use Rattle.law_legal.proofs.ActCalls.{handed_same, IsUpToLast}
use Rattle.law_legal.proofs.RunSetUp.{any_home}
use Rattle.law_legal.specs.Ideal.{IsPutAt}
use Rattle.law_legal.specs.Legal.{AcceptsEach, IsAtHome, IsLastCall}
use Rattle.law_legal.specs.Past.{IsCall}
use Rattle.afs_num.specs.declared.calls.FsCall.{FsCall}
use Rattle.afs_num.specs.declared.calls.FsCall.TheVariants as calls
use Rattle.afs_num.specs.declared.messages.Call.TheVariants as ask
use Rattle.afs_num.specs.declared.messages.Carried.{Carried}
use Rattle.afs_num.specs.declared.messages.Carried.TheVariants as carried
use Rattle.afs_num.specs.declared.messages.Message.{Message}
use Rattle.afs_num.specs.declared.types.Fid.{Fid}
use Rattle.afs_num.specs.declared.types.Head.{Head}
use Rattle.afs_num.specs.declared.types.Key.{Key}
use Rattle.afs_num.specs.declared.types.Node.TheVariants.{Client}
use Rattle.afs_num.specs.declared.types.Node.{Node}
use Rattle.spec_rows.specs.Callbacks.{put}
use Rattle.spec_rows.specs.Going.{ClientState}
use Rattle.spec_rows.specs.Runs.{Cell, Entry, Moved}
use Rattle.spec_model.specs.Calls.{key_of}
use Rattle.spec_rows.specs.Steps.{Step}
use Rattle.std.proofs.Common.{◌≡◌, ℕ, inl, inr, List, [], ◌∷◌, refl, sym, subst}

-- ---- what is sent now

-- it is its client's call, behind the step
pub record IsNow (clients : ℕ → ClientState) (head : Head) (user : List ℕ) (call : FsCall) : Type 0 where
  pub client : ℕ
  pub its : IsTheCall client (clients client) head user call

abbrev pub AsksNow : Cell → List Entry → Moved → Type 0
AsksNow c past m = Each (IfCall (IsNow m.cell.clients)) m.entry.sent

client_now : (c : Cell) (n : ℕ) (st : Step ClientState) → Acts n (who_at (c.clients n)) (c.clients n).gifts st → Each (IfCall (IsNow (put n st.state c.clients))) st.sent
client_now c n st a =
    let now : (head : Head) (user : List ℕ) (call : FsCall) → IsTheCall n st.state head user call → IsNow (put n st.state c.clients) head user call = λ head user call x. record {
      client = n;
      its = at_put n n (λ (y : ClientState). IsTheCall n y head user call) st.state c.clients (λ same. x) (λ other. absurd (other refl));
    } in
    each_map (IfCall (IsTheCall n st.state)) (IfCall (IsNow (put n st.state c.clients))) (if_call (IsTheCall n st.state) (IsNow (put n st.state c.clients)) now) st.sent (the_calls n (c.clients n) st a.goes)

none_now : (c : Cell) (ms : List Message) → Each IsUncalled ms → Each (IfCall (IsNow c.clients)) ms
none_now c ms h = each_map IsUncalled (IfCall (IsNow c.clients)) (uncalled_any (IsNow c.clients)) ms h

pub asks_moves : (s : Script) → EachMove (KnownAsked s) AsksNow
asks_moves s = record {
  void = λ c past h. tt;
  ticked = λ c past n h. tt;
  begun = λ c past n act h r z0. client_now c n _ (begins_acts n (c.clients n) c.clock act r z0);
  told = λ c past n place m h at to un. client_now c n _ (given_acts (by_key (IsKnown h.0.keys.callees c.clients)) any_told n (c.clients n) c.clock place m (h.0.keys.replies n) (h.1.seats n));
  sought = λ c past n place m k h at to z e. client_now c n _ (sought_acts_in s c past n place m k h.1 at z e);
  missed = λ c past n k h r z. client_now c n _ (missed_acts n (c.clients n) k r z);
  loc = λ c past l ls ms h st. none_now c _ (loc_uncalled c l ls ms st);
  waited = λ c past n act h r. client_now c n _ (waits_acts n (c.clients n) act r);
  fallen = λ c past n h. client_now c n _ (falls_acts n c.handed (c.clients n) (handed_same s c past (h.1) n));
  risen = λ c past n h. client_now c n _ (rises_acts n (c.clients n));
  served = λ c past i place m armed h up at to. none_now c _ (served_uncalled c past i place m h.0 at);
  cut = λ c past i place m t h up at to. tt;
  stopped = λ c past i h up. tt;
  stop_set = λ c past i calls pick armed h up. tt;
  fail_set = λ c past i call armed h up. tt;
  timed = λ c past i n b armed h up at. none_now c _ (timed_uncalled c past i n b h.0);
  woken = λ c past i armed h up. none_now c _ (woken_uncalled c past i h.0);
  started = λ c past i after fall h down. none_now c _ (started_uncalled c past i after fall h.0 down);
  early = λ c past i fall h down. tt;
  midway = λ c past i after fall h down. tt;
  full = λ c past i after fall h down. tt;
}

-- ---- no call of the client is later

abbrev KnownBy : (Key → Node) → (ℕ → ClientState) → Head → List ℕ → FsCall → Type 0
KnownBy callees clients head user call = IsKnown callees clients head.to (key_of head)

pub up_to_last : (callees : Key → Node) (clients : ℕ → ClientState) (n : ℕ) (head : Head) (x : Carried) → IsCall x → head.from ≡ Client n → OfCall (ByClient (KnownBy callees clients)) head x → OfSeek (IsUpToLast clients) head x → UpTo head.epoch head.number (clients n).epoch (clients n).last
up_to_last callees clients n head (carried.Call user (ask.File call)) is from h q = known_pair callees clients head.to (key_of head) n from (by_client n head.from (KnownBy callees clients head user call) from h)
up_to_last callees clients n head (carried.Call user (ask.Volume call)) is from h q = absurd h
up_to_last callees clients n head (carried.Call user (ask.Location call)) is from h q = q n from
up_to_last callees clients n head (carried.Refusal code) is from h q = absurd is
up_to_last callees clients n head (carried.Reply reply) is from h q = absurd is
up_to_last callees clients n head carried.Notice is from h q = absurd is

pub its_last : (callees : Key → Node) (clients : ℕ → ClientState) (n : ℕ) (k : Key) (ms : List Message) → k ≡ last_key n (clients n) → Each (IfCall (KnownBy callees clients)) ms → Each (IfSeek (IsUpToLast clients)) ms → IsLastCall k ms
its_last callees clients n k [] key h q = tt
its_last callees clients n k (m ∷ ms) key h q = (
  λ is from. subst (λ (l : Key). UpTo m.head.epoch m.head.number l.epoch l.number) (sym key) (up_to_last callees clients n m.head m.carried is (subst (λ (l : Key). m.head.from ≡ l.node) key from) h.0 q.0),
  its_last callees clients n k ms key h.1 q.1,
)

-- ---- the callee accepts stores of what the call names

accepts_each : (s : Script) (n : Node) (fids : List Fid) (ls : List Line) → ((id : ℕ) → IsOneIn id fids → IsPutAt id n s.volumes) → AcceptsEach s n fids ls
accepts_each s n [] ls w = tt
accepts_each s n (f ∷ fs) ls w = (any_home s f.volume n ls (w f.volume (inl refl)), accepts_each s n fs ls (λ id x. w id (inr x)))

at_home_by : (s : Script) (n : Node) (call : FsCall) (ls : List Line) → ((id : ℕ) → AsksOf call id → IsPutAt id n s.volumes) → GivesHome s n call → IsAtHome s n call ls
at_home_by s n (calls.BulkStatus fids) ls w g = accepts_each s n fids ls w
at_home_by s n (calls.GiveUpCallBacks fids callbacks) ls w g = accepts_each s n fids ls g
at_home_by s n calls.GetTime ls w g = λ id e. absurd cc
at_home_by s n call ls w g = λ id e. any_home s id n ls (w id e)

pub is_at_home : (s : Script) (head : Head) (user : List ℕ) (call : FsCall) (ls : List Line) → IsHome s head user call → GivesHome s head.to call → IsAtHome s head.to call ls
is_at_home s head user call ls h g = at_home_by s head.to call ls (λ id x. subst (λ (q : Node). IsPutAt id q s.volumes) (sym (h.to id x)) (laid_at s id (h.laid id x))) g
