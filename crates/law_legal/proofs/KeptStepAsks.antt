-- What a client's step must tell of its cache and its reads, so that what holds of them passes over it.
use Rattle.law_legal.proofs.ActChangesOnce.{has_under, pair_behind}
use Rattle.law_legal.proofs.ActFollows.{none_runs, more_not}
use Rattle.spec_history.specs.declared.lines.Line.{Line}
use Rattle.spec_history.specs.declared.lines.Line.TheVariants as lines
use Rattle.spec_history.specs.declared.scripts.Script.{Script}
use Rattle.law_legal.proofs.ActLines.{Acts, Asks, IsTheCall, is_of, last_key, who_at}
use Rattle.law_legal.proofs.ClientReplyArrives.{Based, IsFetched, around, told_sent}
use Rattle.law_legal.proofs.BaseLaws.{ByClient, Each, IfCall, OfCall, by_client}
use Rattle.law_legal.proofs.VolumeEdits.{index_in}
use Rattle.law_legal.proofs.BaseWords.{IsChangingUnder, IsOne, IsWhole, Reached, Seen}
use Rattle.law_legal.proofs.VolumesAreIdeal.{AreBlank, blank_by, of_blank}
use Rattle.law_legal.proofs.KeptIsLookedAt.{IsShown, ReadsUpTo}
use Rattle.law_legal.proofs.KeptByOwnStep.{HasDone, IsMoved, IsSound, IsStill, IsTurn, reached_own, stands_moved, stands_new, stands_still, stands_stored, waits_moved, waits_still}
use Rattle.law_legal.proofs.ActCallsInRuns.{next_key, same_key_at, the_calls}
use Rattle.law_legal.proofs.ActCalls.{of_client, unsent}
use Rattle.law_legal.proofs.KeptTrusting.{Stands, Trusts, since_rest}
use Rattle.law_legal.specs.ClientParts.{is_silent}
use Rattle.law_legal.specs.Grants.{IsWithdrawn, has_fetched}
use Rattle.law_legal.specs.Ideal.{IsLast, Reach, change_key, last_version, highest_reached, highest_over}
use Rattle.law_legal.specs.Parts.{EachLine}
use Rattle.law_legal.specs.Past.{Sends, given_message, has_begun, has_sent, lines_of, sent_of}
use Rattle.afs_num.specs.declared.calls.FsCall.{FsCall}
use Rattle.afs_num.specs.declared.histories.Actor.TheVariants as actors
use Rattle.afs_num.specs.declared.messages.Carried.{Carried}
use Rattle.afs_num.specs.declared.messages.Message.{Message}
use Rattle.afs_num.specs.declared.types.Fid.{Fid}
use Rattle.afs_num.specs.declared.types.Key.{Key}
use Rattle.afs_num.specs.declared.types.Node.{Node}
use Rattle.afs_num.specs.declared.types.Node.TheVariants.{Client}
use Rattle.spec_rows.specs.ClientRow.{call_by, find_cached}
use Rattle.spec_rows.specs.Going.{ClientState, Going, next}
use Rattle.spec_rows.specs.Runs.{Cell, Entry}
use Rattle.spec_rows.specs.States.{CacheEntry, Gift}
use Rattle.spec_rows.specs.Steps.{Step}
use Rattle.std.proofs.Common.{◌≡◌, ◌<◌, ℕ, ◌⊎◌, inl, inr, Bool, true, false, List, [], ◌∷◌, ◌++◌, Option, Some, None, refl, sym, ap, subst, ◌∙◌}

-- ---- an entry behind the step

-- the client waits on
abbrev pub IsSame : ClientState → Step ClientState → Type 0
IsSame x st = (st.state.running ≡ x.running) → (st.state.last ≡ x.last) → ⊥

-- it was there; and where the client goes on to another call, what it waited for is done
pub record IsOld (s : Script) (n : ℕ) (x : ClientState) (clock : ℕ) (st : Step ClientState) (past : List Entry) (f : Fid) (e : CacheEntry) : Type 0 where
  pub found : find_cached f x.cache ≡ Some e
  pub fetched : has_fetched (Client n) f st.lines ≡ false
  pub after : IsSame x st → clock < e.expiry → (S : Stands s n x clock f e past) → IsWithdrawn e.server (Client n) f (since_rest s n f e past S.rests) ⊎ HasDone n x f e.server past
  pub low : clock < e.expiry → Seen n f e.index (of_client n st ∷ past)

-- it was fetched
pub record IsNew (s : Script) (n : ℕ) (x : ClientState) (clock : ℕ) (st : Step ClientState) (past : List Entry) (f : Fid) (e : CacheEntry) : Type 0 where
  pub message : Message
  pub fetched : has_fetched (Client n) f st.lines ≡ true
  pub given : given_message st.lines (sent_of past) ≡ Some message
  pub shown : IsFetched s n message e.server (last_key n x) past f e.index e.status e.body e.expiry
  pub moved : IsSame x st
  pub low : clock < e.expiry → Seen n f e.index (of_client n st ∷ past)

-- the client's own store refreshed it
pub record IsFreshed (s : Script) (n : ℕ) (x : ClientState) (clock : ℕ) (st : Step ClientState) (past : List Entry) (f : Fid) (e : CacheEntry) : Type 0 where
  pub was : CacheEntry
  pub found : find_cached f x.cache ≡ Some was
  pub same : record was { index = e.index; status = e.status; body = e.body } ≡ e
  pub act : Going
  pub runs : x.running ≡ Some act
  pub idle : st.state.running ≡ None
  pub fetched : has_fetched (Client n) f st.lines ≡ false
  pub whole : IsWhole f e.index e.status e.body past
  pub newer : List Entry
  pub at : Entry
  pub older : List Entry
  pub split : past ≡ newer ++ (at ∷ older)
  pub key : change_key at.lines ≡ Some (last_key n x)
  pub last : IsLast f e.index (lines_of (at ∷ older))
  pub low : clock < e.expiry → Seen n f e.index (of_client n st ∷ past)

abbrev pub Kind : (s : Script) (n : ℕ) (x : ClientState) (clock : ℕ) (st : Step ClientState) (past : List Entry) (f : Fid) (e : CacheEntry) → Type 0
Kind s n x clock st past f e = IsOld s n x clock st past f e ⊎ (IsNew s n x clock st past f e ⊎ IsFreshed s n x clock st past f e)

pub record Result (s : Script) (n : ℕ) (x : ClientState) (clock : ℕ) (past : List Entry) (st : Step ClientState) : Type 0 where
  pub shown : EachLine (IsShown s) (actors.Node (Client n)) past [] st.lines
  pub up : (f : Fid) → ReadsUpTo (Client n) f (index_in (last_version f (lines_of past))) st.lines
  pub quiet : has_begun (Client n) st.lines ≡ false → (act : Going) → st.state.running ≡ Some act → st.state.running ≡ x.running → st.state.last ≡ x.last → is_silent st.lines ≡ true
  pub zero' : (act : Going) → st.state.running ≡ Some act → (st.state.last ≡ x.last → ⊥) → (f : Fid) → (highest_reached (Client n) f (of_client n st ∷ past)).made ≡ 0
  pub entries : (f : Fid) (e : CacheEntry) → find_cached f st.state.cache ≡ Some e → Kind s n x clock st past f e

-- ---- silent lines show nothing

pub silent_reach : (c : Node) (f : Fid) (past : List Entry) (own : Bool) (r : Reach) (ls : List Line) → AreBlank ls → is_silent ls ≡ true → highest_over c f past own r ls ≡ r
silent_reach c f past own r [] b q = refl
silent_reach c f past own r (lines.Begin m act ∷ ls) b q = absurd cc
silent_reach c f past own r (lines.Read m g index source body ∷ ls) b q = absurd cc
silent_reach c f past own r (lines.Answer m code ∷ ls) b q = absurd cc
silent_reach c f past own r (lines.Change m k count ∷ ls) b q = absurd cc
silent_reach c f past own r (lines.Version v ∷ ls) b q = absurd cc
silent_reach c f past own r (l ∷ ls) b q = silent_reach c f past own r ls b q

-- ---- what is known of the step

the_sent : (n : ℕ) (y : ClientState) (ms : List Message) (l : Key) (user : List ℕ) (call : FsCall) → l.node ≡ Client n → Each (IfCall (IsTheCall n y)) ms → Sends l user call ms → (act : Going) × ((y.running ≡ Some act) × (l ≡ last_key n y))
the_sent n y [] l user call node h z = absurd z
the_sent n y (m ∷ ms) l user call node h (inl z) =
    let from : m.head.from ≡ Client n = ap (λ (k : Key). k.node) z.0 ∙ node in
    let t : IsTheCall n y m.head user call = by_client n m.head.from (IsTheCall n y m.head user call) from (subst (λ (x : Carried). OfCall (ByClient (IsTheCall n y)) m.head x) z.1 h.0) in
    (t.act, (t.runs, sym z.0 ∙ t.key))
the_sent n y (m ∷ ms) l user call node h (inr z) = the_sent n y ms l user call node h.1 z

turn : (s : Script) (c : Cell) (past : List Entry) (n : ℕ) (st : Step ClientState) → Acts n (who_at (c.clients n)) (c.clients n).gifts st → IsTurn n st
turn s c past n st a = record { blank = blank_by (is_of n) (of_blank n) st.lines a.of; sends = λ l user call node z. the_sent n st.state st.sent l user call node (the_calls n (c.clients n) st a.goes) z }

sound : (s : Script) (c : Cell) (past : List Entry) (n : ℕ) → Based s c past → IsSound n (c.clients n) past
sound s c past n B =
    let K = B.truthful.0.0.0.0.keys in
    record {
      ones = subst (λ (ms : List Message). Each (IfCall (IsOne ms)) ms) (sym (told_sent s c past B)) B.truthful.0.0.0.1.ones;
      pairs = λ l node has. pair_behind K.callees c.clients n l c.sent node (subst (λ (ms : List Message). has_sent l ms ≡ true) (told_sent s c past B) has) K.calls;
    }

asked_moved : (s : Script) (c : Cell) (past : List Entry) (n : ℕ) (st : Step ClientState) → Based s c past → Asks n (who_at (c.clients n)) st → IsMoved n st.state past
asked_moved s c past n st B z =
    let K = B.truthful.0.0.0.0.keys in
    let none : has_sent (last_key n st.state) (sent_of past) ≡ false = subst (λ (ms : List Message). has_sent (last_key n st.state) ms ≡ false) (sym (told_sent s c past B)) (unsent K.callees c.clients n (last_key n st.state) c.sent (next_key n c.clients st z) K.calls).0 in
    record {
      unsent = λ act r. none;
      unchanged = λ act r has. let u : IsChangingUnder (last_key n st.state) (sent_of past) = B.lones.1.0 (last_key n st.state) has in
          (let yes : has_sent (last_key n st.state) (sent_of past) ≡ true = has_under (last_key n st.state) (sent_of past) (u.user, u.call) u.one in let no_ : false ≡ true = sym none ∙ yes in absurd cc);
    }

idle_moved : (n : ℕ) (y : ClientState) (past : List Entry) → y.running ≡ None → IsMoved n y past
idle_moved n y past none = record { unsent = λ act r. absurd (none_runs y.running act none r); unchanged = λ act r. absurd (none_runs y.running act none r) }

-- ---- the client moved on

pub idle_done : (n : ℕ) (x : ClientState) (f : Fid) (server : Node) (past : List Entry) → x.running ≡ None → HasDone n x f server past
idle_done n x f server past none = ((λ act r. absurd (none_runs x.running act none r)), λ act r. absurd (none_runs x.running act none r))

moved_entry : (s : Script) (c : Cell) (past : List Entry) (n : ℕ) (st : Step ClientState) (f : Fid) (e : CacheEntry) → Based s c past → Trusts s n (c.clients n) c.clock past → IsTurn n st → IsMoved n st.state past → ((f : Fid) (server : Node) → IsSame (c.clients n) st ⊎ HasDone n (c.clients n) f server past)
    → ((act : Going) → st.state.running ≡ Some act → (g : Fid) → (highest_reached (Client n) g (of_client n st ∷ past)).made ≡ 0) → Kind s n (c.clients n) c.clock st past f e → Stands s n st.state c.clock f e (of_client n st ∷ past)
moved_entry s c past n st f e B T U M d zero (inl o) =
    let S : Stands s n (c.clients n) c.clock f e past = T.entries f e o.found in
    stands_moved s n (c.clients n) c.clock st past f e U (sound s c past n B) (around s c past n B) M o.fetched S (λ lasts. elim (d f e.server) [ inl w ↦ o.after w lasts S | inr h ↦ inr h ]) o.low (λ act r. zero act r f)
moved_entry s c past n st f e B T U M d zero (inr (inl o)) = stands_new s n (c.clients n) c.clock st past o.message f e U (sound s c past n B) M o.fetched o.given o.shown o.low (λ act r. zero act r f)
moved_entry s c past n st f e B T U M d zero (inr (inr o)) =
    subst (λ (u : CacheEntry). Stands s n st.state c.clock f u (of_client n st ∷ past)) o.same
    (stands_stored s n (c.clients n) o.act c.clock st past f o.was (record o.was { index = e.index; status = e.status; body = e.body }) o.newer o.at o.older U (sound s c past n B) (around s c past n B) o.runs o.idle o.fetched (T.entries f o.was o.found) refl refl o.whole o.split o.key o.last (λ lasts. o.low (subst (λ (i : ℕ). c.clock < i) (ap (λ (u : CacheEntry). u.expiry) o.same) lasts)))

still_entry : (s : Script) (c : Cell) (past : List Entry) (n : ℕ) (st : Step ClientState) (f : Fid) (e : CacheEntry) → Trusts s n (c.clients n) c.clock past → IsTurn n st → IsStill n (c.clients n) st.state → st.state.last ≡ (c.clients n).last → is_silent st.lines ≡ true → Kind s n (c.clients n) c.clock st past f e → Stands s n st.state c.clock f e (of_client n st ∷ past)
still_entry s c past n st f e T U q last silent (inl o) =
    let same : highest_reached (Client n) f (of_client n st ∷ past) ≡ highest_reached (Client n) f past = silent_reach (Client n) f past false (highest_reached (Client n) f past) st.lines U.blank silent in
    stands_still s n (c.clients n) c.clock st past f e U q o.fetched (ap (λ (r : Reach). r.seen) same) (ap (λ (r : Reach). r.made) same) (T.entries f e o.found)
still_entry s c past n st f e T U q last silent (inr (inl o)) = absurd (o.moved q.running last)
still_entry s c past n st f e T U q last silent (inr (inr o)) = absurd (none_runs st.state.running o.act o.idle (q.running ∙ o.runs))

-- whether an act ran
ran_or : (o : Option Going) → (o ≡ None) ⊎ ((act : Going) × (o ≡ Some act))
ran_or None = inl refl
ran_or (Some act) = inr (act, refl)

pub trusts_own : (s : Script) (c : Cell) (past : List Entry) (n : ℕ) (st : Step ClientState) → Based s c past → Trusts s n (c.clients n) c.clock past → Acts n (who_at (c.clients n)) (c.clients n).gifts st → Result s n (c.clients n) c.clock past st → Trusts s n st.state c.clock (of_client n st ∷ past)
trusts_own s c past n st B T a R =
    let x : ClientState = c.clients n in
    let U : IsTurn n st = turn s c past n st a in
    let reached : (f : Fid) → Reached (Client n) f (index_in (last_version f (lines_of (of_client n st ∷ past)))) (of_client n st ∷ past) = λ f. reached_own s n x c.clock st past f U (R.up f) T in
    let idle : st.state.running ≡ None → Trusts s n st.state c.clock (of_client n st ∷ past) = λ none. record {
      entries = λ f e found. moved_entry s c past n st f e B T U (idle_moved n st.state past none) (λ g server. elim (ran_or x.running) [
        | inl z ↦ inr (idle_done n x g server past z)
        | inr z ↦ inl (λ same last. none_runs st.state.running z.0 none (same ∙ z.1))
      ]) (λ act r. absurd (none_runs st.state.running act none r)) (R.entries f e found);
      waits = λ act r. absurd (none_runs st.state.running act none r);
      reached = reached;
    } in
    elim a.goes [
      | inl r ↦ elim r.act [
        | inl none ↦ idle none
        | inr same ↦ elim (ran_or st.state.running) [
          | inl none ↦ idle none
          | inr now ↦
              (let q : IsStill n x st.state = record { running = same.0; key = same_key_at n x st.state r.epoch r.last; call = λ act. ap (λ (gs : List Gift). call_by gs (next act)) same.1.0 } in
              let silent : is_silent st.lines ≡ true = R.quiet same.1.1 now.0 now.1 same.0 r.last in
              let equal : (f : Fid) → highest_reached (Client n) f (of_client n st ∷ past) ≡ highest_reached (Client n) f past = λ f. silent_reach (Client n) f past false (highest_reached (Client n) f past) st.lines U.blank silent in
              record {
                entries = λ f e found. still_entry s c past n st f e T U q r.last silent (R.entries f e found);
                waits = λ act run. waits_still n x st past act U q (λ f. ap (λ (z : Reach). z.seen) (equal f)) (λ f. ap (λ (z : Reach). z.made) (equal f)) T.reached (T.waits act (sym same.0 ∙ run));
                reached = reached;
              })
        ]
      ]
      | inr y ↦ elim y [
        | inl z ↦
            (let M : IsMoved n st.state past = asked_moved s c past n st B z in
            let zero : (act : Going) → st.state.running ≡ Some act → (g : Fid) → (highest_reached (Client n) g (of_client n st ∷ past)).made ≡ 0 = λ act run. R.zero' act run (λ same. more_not st.state.last x.last z.last same) in
            record {
              entries = λ f e found. moved_entry s c past n st f e B T U M (λ g server. inl (λ same last. more_not st.state.last x.last z.last last)) zero (R.entries f e found);
              waits = λ act run. waits_moved n st past act U M run (zero act run);
              reached = reached;
            })
        | inr z ↦ idle z.act
      ]
    ]
