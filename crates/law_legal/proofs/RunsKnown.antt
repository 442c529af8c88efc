-- What is known of every run, however many servers its cell has: of keys, and of what servers heard. And what no server sends.
use Rattle.spec_model.specs.Calls.{key_of}
use Rattle.spec_history.specs.declared.scripts.Script.{Script}
use Rattle.law_legal.proofs.BaseLaws.{Each, IfCall, each_at, each_map, if_call, some_of}
use Rattle.law_legal.proofs.ClientCalls.{IsAnswer, IsUncalled, answer_over, any_call}
use Rattle.law_legal.proofs.ServerHears.{HearsIn}
use Rattle.law_legal.proofs.ServerHearsInRuns.{first_hears, moved_hears, stands_first}
use Rattle.law_legal.proofs.ServerKeepsKeys.{IsDue, IsCutBy, IsSound, decides_due, disk_begins, memory_of, serves_step, starts_step, times_step, wakes_step}
use Rattle.law_legal.proofs.CallKeysOnce.{HasCut, IsCutOf, IsKnown, StandsIn, any_told, by_key, moved_keeps, sound_over}
use Rattle.law_legal.proofs.RunWalk.{IsKept, Behind, each_moved}
use Rattle.law_legal.proofs.ServerPosts.{HoldsIn, SitsHolds, holds_moves}
use Rattle.law_legal.proofs.ServerSeatsAll.{SitsIn, sits_moves}
use Rattle.law_legal.specs.Ideal.{set_up_entry}
use Rattle.law_legal.specs.Past.{lines_of}
use Rattle.afs_num.specs.declared.messages.Message.{Message}
use Rattle.afs_num.specs.declared.messages.Received.TheVariants.{Whole}
use Rattle.afs_num.specs.declared.types.Key.{Key}
use Rattle.afs_num.specs.declared.types.Node.{Node}
use Rattle.afs_num.specs.declared.types.Node.TheVariants.{Server}
use Rattle.spec_rows.specs.Callbacks.{replies_of}
use Rattle.spec_rows.specs.Runs.{Blow, Cell, Entry, Fall, at_rest, begun_by_disk, in_boot, in_step, message_at, start}
use Rattle.spec_rows.specs.ServerRow.{decides}
use Rattle.spec_rows.specs.ServerSteps.{back_timeout_row, server_row, start_row, wake_row}
use Rattle.spec_rows.specs.States.{BackCall, ServerState}
use Rattle.std.proofs.Common.{◌≡◌, ℕ, Bool, List, [], ◌∷◌, Option, Some, None, refl, subst}

pub record Known (c : Cell) (past : List Entry) : Type 0 where
  pub keys : StandsIn c (lines_of past)
  pub hears : HearsIn c past
  -- what servers keep, and hold back, is their own
  pub posts : SitsHolds c past

pub known_kept : IsKept Known
known_kept c past x s K = record { keys = moved_keeps c (lines_of past) x s K.keys; hears = moved_hears c past x s K.hears K.keys; posts = (each_moved SitsIn (Behind SitsIn) sits_moves c past x s K.posts.0, each_moved SitsHolds (Behind HoldsIn) holds_moves c past x s K.posts) }

pub known_first : (s : Script) → Known (start s) (set_up_entry s ∷ [])
known_first s = record {
  keys = stands_first s;
  hears = first_hears s;
  posts = (λ i. record { seats = λ n seat m e. absurd cc; kept = λ n seat m e. absurd cc }, λ i. tt);
}

-- ---- a server sends no call of a client

any_sound : (c : Cell) (past : List Entry) (i : ℕ) → Known c past → IsSound any_told any_told (memory_of (c.hosts i).state)
any_sound c past i K = sound_over (by_key (IsKnown K.keys.callees c.clients)) any_told (λ h x. tt) (memory_of (c.hosts i).state) (K.keys.sound i)

any_held : (c : Cell) (past : List Entry) (i : ℕ) → Known c past → Each (IsAnswer any_told any_told) (replies_of (c.hosts i).state.backs.held)
any_held c past i K = each_map _ _ (answer_over (by_key (IsKnown K.keys.callees c.clients)) any_told any_told any_told (λ h x. tt) (λ h x. x)) (replies_of (c.hosts i).state.backs.held) (K.keys.held i)

uncalled : (ms : List Message) → Each (IsAnswer any_told any_told) ms → Each IsUncalled ms
uncalled ms h = each_map (IsAnswer any_told any_told) IsUncalled (λ m a. a.0) ms h

pub any_given : (c : Cell) (past : List Entry) (place : ℕ) (m : Message) → Known c past → message_at c.sent place ≡ Some m → IfCall (λ h user call. any_told h) m
any_given c past place m K at = if_call (λ h user call. IsKnown K.keys.callees c.clients h.to (key_of h)) (λ h user call. any_told h) (λ h user call x. tt) m (each_at _ c.sent place m at K.keys.calls)

pub served_uncalled : (c : Cell) (past : List Entry) (i place : ℕ) (m : Message) → Known c past → message_at c.sent place ≡ Some m → Each IsUncalled (server_row (Server i) (c.hosts i).state c.clock place (Whole m)).sent
served_uncalled c past i place m K at =
    let x : ServerState = (c.hosts i).state in
    let sound : IsSound any_told any_told (memory_of x) = any_sound c past i K in
    uncalled _ (serves_step any_told any_told i x c.clock place m sound (any_held c past i K) (decides_due any_told any_told (Server i) x c.clock m refl sound.seats (any_call any_told x.lasting.boot x.seats m.head m.carried (any_given c past place m K at)) (λ to. tt))).sent

pub timed_uncalled : (c : Cell) (past : List Entry) (i : ℕ) (n : Node) (b : BackCall) → Known c past → Each IsUncalled (back_timeout_row (Server i) (c.hosts i).state c.clock n b).sent
timed_uncalled c past i n b K = uncalled _ (times_step any_told any_told i (c.hosts i).state c.clock n b (any_sound c past i K) (any_held c past i K)).sent

pub woken_uncalled : (c : Cell) (past : List Entry) (i : ℕ) → Known c past → Each IsUncalled (wake_row (Server i) (c.hosts i).state c.clock).sent
woken_uncalled c past i K = uncalled _ (wakes_step any_told any_told i (c.hosts i).state c.clock (any_sound c past i K) (any_held c past i K)).sent

-- the message of an interrupted step
cut_any : (K : Node → Key → Type 0) (x : ServerState) (fall : Fall) → IsCutOf K fall → IsCutBy any_told x.lasting.boot x.seats fall
cut_any K x (in_step m clock hit) h = any_call any_told x.lasting.boot x.seats m.head m.carried (if_call (λ h user call. K h.to (key_of h)) (λ h user call. any_told h) (λ h user call z. tt) m h)
cut_any K x at_rest h = tt
cut_any K x in_boot h = tt

has_cut : (K : Node → Key → Type 0) (o : Option Fall) (fall : Fall) → o ≡ Some fall → HasCut K o → IsCutOf K fall
has_cut K None fall e h = absurd cc
has_cut K (Some f) fall e h = subst (IsCutOf K) (some_of f fall e) h

pub started_uncalled : (c : Cell) (past : List Entry) (i : ℕ) (after : Bool) (fall : Fall) → Known c past → (c.hosts i).down ≡ Some fall → Each IsUncalled (start_row (Server i) c.clock c.count (begun_by_disk (Server i) (c.hosts i).state after fall)).sent
started_uncalled c past i after fall K down =
    let x : ServerState = (c.hosts i).state in
    uncalled _ (starts_step any_told any_told i x c.clock c.count (begun_by_disk (Server i) x after fall)
    (disk_begins any_told any_told (Server i) x after fall refl (any_sound c past i K) (any_held c past i K) (cut_any (IsKnown K.keys.callees c.clients) x fall (has_cut (IsKnown K.keys.callees c.clients) (c.hosts i).down fall down (K.keys.falls i))) (λ h to. tt))).sent

-- so is what it decides there
pub cut_due : (c : Cell) (past : List Entry) (i : ℕ) (m : Message) (clock : ℕ) (hit : Blow) → Known c past → (c.hosts i).down ≡ Some (in_step m clock hit) → IsDue any_told any_told (Server i) (c.hosts i).state (decides (Server i) (c.hosts i).state clock (Whole m))
cut_due c past i m clock hit K down =
    let x : ServerState = (c.hosts i).state in
    decides_due any_told any_told (Server i) x clock m refl (any_sound c past i K).seats (cut_any (IsKnown K.keys.callees c.clients) x (in_step m clock hit) (has_cut (IsKnown K.keys.callees c.clients) (c.hosts i).down (in_step m clock hit) down (K.keys.falls i))) (λ to. tt)
