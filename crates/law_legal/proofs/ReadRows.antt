-- What the rows of a client tell of its cache and its reads: the steps that read nothing, and those that read on from the cache.
use Rattle.law_legal.proofs.ActFollows.{none_runs, more_not}
use Rattle.spec_history.specs.declared.lines.Line.{Line}
use Rattle.spec_history.specs.declared.lines.Line.TheVariants as lines
use Rattle.spec_history.specs.declared.scripts.Script.{Script}
use Rattle.law_legal.proofs.ActLines.{last_key}
use Rattle.law_legal.proofs.ClientReplyArrives.{IsFetched}
use Rattle.law_legal.proofs.OwedPasses.{all_lines}
use Rattle.law_legal.proofs.BaseLaws.{both, some_of}
use Rattle.law_legal.proofs.VolumeEdits.{index_in}
use Rattle.law_legal.proofs.BaseWords.{Seen}
use Rattle.law_legal.proofs.VolumesAreIdeal.{AreBlank, blank_last}
use Rattle.law_legal.proofs.KeptRests.{Spares}
use Rattle.law_legal.proofs.VersionsLast.{withdrawn_onto}
use Rattle.law_legal.proofs.KeptIsLookedAt.{AllReady, AreLooks, HasNoZero, IsShown, ReadsUpTo, Ready, both_up, looks_good, looks_up, made_still, reach_blank, seen_up, walked_looks, begun_by}
use Rattle.law_legal.proofs.KeptByOwnStep.{HasDone}
use Rattle.law_legal.proofs.ActCalls.{of_client}
use Rattle.law_legal.proofs.KeptStepAsks.{IsSame, Result}
use Rattle.law_legal.proofs.VolumeVersionsTold.{IsAgreed}
use Rattle.law_legal.proofs.KeptTrusting.{Rests, Stands, Trusts, since_rest}
use Rattle.law_legal.proofs.ActWalks.{walked_found}
use Rattle.law_legal.specs.ClientParts.{IsFetchedEntry, is_silent}
use Rattle.law_legal.specs.Grants.{IsDropped, IsWithdrawn, fetch_reply, has_fetched, is_promised, since}
use Rattle.law_legal.specs.Ideal.{IsPutAt, Reach, clock_of, last_version, highest_reached, highest_over}
use Rattle.law_legal.specs.Parts.{EachLine}
use Rattle.law_legal.specs.Past.{given_message, has_begun, lines_of, onto, sent_of}
use Rattle.afs_num.specs.Fids.{same_fid}
use Rattle.afs_num.specs.Nodes.{same_node}
use Rattle.afs_num.specs.declared.histories.Actor.{Actor}
use Rattle.afs_num.specs.declared.histories.Actor.TheVariants as actors
use Rattle.afs_num.specs.declared.histories.ReadSource.TheVariants.{Cached, Fetched}
use Rattle.afs_num.specs.declared.histories.Version.{Version}
use Rattle.afs_num.specs.declared.messages.Message.{Message}
use Rattle.afs_num.specs.declared.types.Fid.{Fid}
use Rattle.afs_num.specs.declared.types.Node.{Node}
use Rattle.afs_num.specs.declared.types.Node.TheVariants.{Client}
use Rattle.spec_rows.specs.ClientRow.{Look, Walked, drop_line, dropped, find_cached, goes_by, looked, most_reads, walked, walks_on}
use Rattle.spec_rows.specs.Going.{ClientState, Going, Need, answers, next, locates}
use Rattle.spec_rows.specs.Runs.{Entry}
use Rattle.spec_rows.specs.States.{CacheEntry}
use Rattle.spec_rows.specs.Steps.{Step}
use Rattle.std.proofs.Common.{◌≡◌, ◌≤◌, ◌<◌, ◌+◌, ℕ, ◌⊎◌, inl, inr, Bool, true, false, cond, List, [], ◌∷◌, ◌++◌, map, Some, pos, refl, sym, ap, subst, ◌∙◌, arith, le_of_eq, None}
use Rattle.std.specs.Option.{option_map}
use Rattle.std.specs.Prelude.{⊤, ◌&&◌}
use Rattle.law_legal.proofs.OwedLoad.{held_or}

-- ---- lines that read nothing

abbrev pub is_unread : Line → Bool
is_unread (lines.Read n f index source body) = false
is_unread l = true

abbrev pub AreUnread : List Line → Type 0
AreUnread ls = all_lines is_unread ls ≡ true

unread_line : (s : Script) (who : Actor) (l : Line) (past : List Entry) (own next : List Line) → is_unread l ≡ true → IsShown s who l past own next
unread_line s who (lines.Read n f index source body) past own next h = absurd cc
unread_line s who l past own next h = tt

pub unread_shown : (s : Script) (who : Actor) (past : List Entry) (own ls : List Line) → AreUnread ls → EachLine (IsShown s) who past own ls
unread_shown s who past own [] h = tt
unread_shown s who past own (l ∷ ls) h = let q = both (is_unread l) _ h in (unread_line s who l past own ls q.0, unread_shown s who past (l ∷ own) ls q.1)

pub unread_up : (c : Node) (f : Fid) (k : ℕ) (ls : List Line) → AreUnread ls → ReadsUpTo c f k ls
unread_up c f k [] h = tt
unread_up c f k (lines.Read n g index source body ∷ ls) h = absurd cc
unread_up c f k (l ∷ ls) h = unread_up c f k ls h

pub unread_fetched : (c : Node) (f : Fid) (ls : List Line) → AreUnread ls → has_fetched c f ls ≡ false
unread_fetched c f [] h = refl
unread_fetched c f (lines.Read n g index source body ∷ ls) h = absurd cc
unread_fetched c f (l ∷ ls) h = unread_fetched c f ls h

pub dropped_unread : (m : Node) (es : List CacheEntry) (ls : List Line) → AreUnread ls → AreUnread (dropped m es ls)
dropped_unread m [] ls h = h
dropped_unread m (e ∷ es) ls h = dropped_unread m es ls h

pub dropped_blank : (m : Node) (es : List CacheEntry) (ls : List Line) → AreBlank ls → AreBlank (dropped m es ls)
dropped_blank m [] ls h = h
dropped_blank m (e ∷ es) ls h = dropped_blank m es ls h

pub dropped_zero : (c m : Node) (es : List CacheEntry) (ls : List Line) → HasNoZero c ls → HasNoZero c (dropped m es ls)
dropped_zero c m [] ls h = h
dropped_zero c m (e ∷ es) ls h = dropped_zero c m es ls h

pub drops_unread : (m : Node) (fs : List Fid) → AreUnread (map (drop_line m) fs)
drops_unread m [] = refl
drops_unread m (f ∷ fs) = drops_unread m fs

pub drops_blank : (m : Node) (fs : List Fid) → AreBlank (map (drop_line m) fs)
drops_blank m [] = refl
drops_blank m (f ∷ fs) = drops_blank m fs

pub drops_zero : (c m : Node) (fs : List Fid) → HasNoZero c (map (drop_line m) fs)
drops_zero c m [] = tt
drops_zero c m (f ∷ fs) = drops_zero c m fs

pub drops_silent : (m : Node) (fs : List Fid) → is_silent (map (drop_line m) fs) ≡ true
drops_silent m [] = refl
drops_silent m (f ∷ fs) = drops_silent m fs

-- ---- steps that read nothing

-- the client waits on, or is idle
pub quiet_result : (s : Script) (n : ℕ) (x : ClientState) (clock : ℕ) (past : List Entry) (st : Step ClientState) → Trusts s n x clock past → AreBlank st.lines → AreUnread st.lines → HasNoZero (Client n) st.lines → is_silent st.lines ≡ true → st.state.running ≡ x.running → st.state.last ≡ x.last
    → ((f : Fid) (e : CacheEntry) → find_cached f st.state.cache ≡ Some e → find_cached f x.cache ≡ Some e) → Result s n x clock past st
quiet_result s n x clock past st T b u z q run last sub = record {
  shown = unread_shown s (actors.Node (Client n)) past [] st.lines u;
  up = λ f. unread_up (Client n) f _ st.lines u;
  quiet = λ nb act now same l. q;
  zero' = λ act r other. absurd (other last);
  entries = λ f e found. inl (record {
    found = sub f e found;
    fetched = unread_fetched (Client n) f st.lines u;
    after = λ other. absurd (other run last);
    low = λ lasts. seen_up (Client n) f past false (highest_reached (Client n) f past) st.lines e.index b z ((T.entries f e (sub f e found)).low lasts) (unread_up (Client n) f e.index st.lines u);
  });
}

-- what must be told of an entry that stays where its client goes on
pub record IsLeft (s : Script) (n : ℕ) (x : ClientState) (clock : ℕ) (st : Step ClientState) (past : List Entry) (f : Fid) (e : CacheEntry) : Type 0 where
  pub found : find_cached f x.cache ≡ Some e
  pub done' : clock < e.expiry → (S : Stands s n x clock f e past) → IsWithdrawn e.server (Client n) f (since_rest s n f e past S.rests) ⊎ HasDone n x f e.server past
  pub low : clock < e.expiry → Seen n f e.index (of_client n st ∷ past)

-- no act runs, before or behind it
pub rest_result : (s : Script) (n : ℕ) (x : ClientState) (clock : ℕ) (past : List Entry) (st : Step ClientState) → Trusts s n x clock past → AreBlank st.lines → AreUnread st.lines → HasNoZero (Client n) st.lines → x.running ≡ None → st.state.running ≡ None → st.state.last ≡ x.last
    → ((f : Fid) (e : CacheEntry) → find_cached f st.state.cache ≡ Some e → find_cached f x.cache ≡ Some e) → Result s n x clock past st
rest_result s n x clock past st T b u z none idle last sub = record {
  shown = unread_shown s (actors.Node (Client n)) past [] st.lines u;
  up = λ f. unread_up (Client n) f _ st.lines u;
  quiet = λ nb act now. absurd (none_runs st.state.running act idle now);
  zero' = λ act r other. absurd (other last);
  entries = λ f e found. inl (record {
    found = sub f e found;
    fetched = unread_fetched (Client n) f st.lines u;
    after = λ other. absurd (other (idle ∙ sym none) last);
    low = λ lasts. seen_up (Client n) f past false (highest_reached (Client n) f past) st.lines e.index b z ((T.entries f e (sub f e found)).low lasts) (unread_up (Client n) f e.index st.lines u);
  });
}

-- the client goes on, to another call or to none
pub moved_result : (s : Script) (n : ℕ) (x : ClientState) (clock : ℕ) (past : List Entry) (st : Step ClientState) → AreUnread st.lines → (has_begun (Client n) st.lines ≡ false → IsSame x st) → ((act : Going) → st.state.running ≡ Some act → (f : Fid) → (highest_reached (Client n) f (of_client n st ∷ past)).made ≡ 0)
    → ((f : Fid) (e : CacheEntry) → find_cached f st.state.cache ≡ Some e → IsLeft s n x clock st past f e) → Result s n x clock past st
moved_result s n x clock past st u other zero left = record {
  shown = unread_shown s (actors.Node (Client n)) past [] st.lines u;
  up = λ f. unread_up (Client n) f _ st.lines u;
  quiet = λ nb act now same last. absurd (other nb same last);
  zero' = λ act r w. zero act r;
  entries = λ f e found. let l : IsLeft s n x clock st past f e = left f e found in inl (record { found = l.found; fetched = unread_fetched (Client n) f st.lines u; after = λ w lasts S. l.done' lasts S; low = l.low });
}

-- ---- lines in front of what is read on

fetched_onto : (c : Node) (f : Fid) (ls o : List Line) → has_fetched c f ls ≡ false → has_fetched c f (onto o ls) ≡ has_fetched c f o
fetched_onto c f [] o h = refl
fetched_onto c f (lines.Read m g index Fetched body ∷ ls) o h =
    let p = begun_by (is_promised body && (same_node m c && same_fid g f)) (has_fetched c f ls) h in
    fetched_onto c f ls (lines.Read m g index Fetched body ∷ o) p.1 ∙ ap (λ (t : Bool). cond t true (has_fetched c f o)) p.0
fetched_onto c f (lines.Read m g index Cached body ∷ ls) o h = fetched_onto c f ls (lines.Read m g index Cached body ∷ o) h
fetched_onto c f (l ∷ ls) o h = fetched_onto c f ls (l ∷ o) h

fetched_both : (c : Node) (f : Fid) (a b : List Line) → has_fetched c f a ≡ false → has_fetched c f (a ++ b) ≡ has_fetched c f b
fetched_both c f [] b h = refl
fetched_both c f (lines.Read m g index Fetched body ∷ a) b h =
    let p = begun_by (is_promised body && (same_node m c && same_fid g f)) (has_fetched c f a) h in
    ap (λ (t : Bool). cond t true (has_fetched c f (a ++ b))) p.0 ∙ fetched_both c f a b p.1
fetched_both c f (lines.Read m g index Cached body ∷ a) b h = fetched_both c f a b h
fetched_both c f (l ∷ a) b h = fetched_both c f a b h

fetched_front : (c : Node) (f : Fid) (a b : List Line) → has_fetched c f a ≡ true → has_fetched c f (a ++ b) ≡ true
fetched_front c f [] b h = absurd cc
fetched_front c f (lines.Read m g index Fetched body ∷ a) b h = held_or (is_promised body && (same_node m c && same_fid g f)) (has_fetched c f a) (has_fetched c f (a ++ b)) h (fetched_front c f a b)
fetched_front c f (lines.Read m g index Cached body ∷ a) b h = fetched_front c f a b h
fetched_front c f (l ∷ a) b h = fetched_front c f a b h

looks_none : (n clock : ℕ) (cache : List CacheEntry) (f : Fid) (looks : List Look) (tail : List Line) → AreLooks clock cache looks → has_fetched (Client n) f (looked (Client n) looks tail) ≡ has_fetched (Client n) f tail
looks_none n clock cache f [] tail h = refl
looks_none n clock cache f (l ∷ looks) tail h =
    ap (λ (k : Look). has_fetched (Client n) f (lines.Read (Client n) k.fid k.index k.source k.body ∷ looked (Client n) looks tail)) h.0.same ∙ looks_none n clock cache f looks tail h.1

looked_begun : (n : ℕ) (looks : List Look) (tail : List Line) → has_begun (Client n) (looked (Client n) looks tail) ≡ has_begun (Client n) tail
looked_begun n [] tail = refl
looked_begun n (l ∷ looks) tail = looked_begun n looks tail

looked_blank : (n : ℕ) (looks : List Look) (tail : List Line) → AreBlank tail → AreBlank (looked (Client n) looks tail)
looked_blank n [] tail h = h
looked_blank n (l ∷ looks) tail h = looked_blank n looks tail h

up_both : (c : Node) (f : Fid) (k : ℕ) (a b : List Line) → ReadsUpTo c f k a → ReadsUpTo c f k b → ReadsUpTo c f k (a ++ b)
up_both c f k [] b h w = w
up_both c f k (lines.Read n g index source body ∷ a) b h w = (h.0, up_both c f k a b h.1 w)
up_both c f k (l ∷ a) b h w = up_both c f k a b h w

pub record FrontOld (s : Script) (n : ℕ) (x : ClientState) (clock : ℕ) (past : List Entry) (ls : List Line) (f : Fid) (e : CacheEntry) : Type 0 where
  pub found : find_cached f x.cache ≡ Some e
  pub fetched : has_fetched (Client n) f ls ≡ false
  pub spares : Spares e.server n f ls
  pub low : clock < e.expiry → (highest_over (Client n) f past false (highest_reached (Client n) f past) ls).seen ≤ e.index

pub record FrontNew (s : Script) (n : ℕ) (x : ClientState) (clock : ℕ) (past : List Entry) (ls : List Line) (f : Fid) (e : CacheEntry) : Type 0 where
  pub act : Going
  pub runs : x.running ≡ Some act
  pub message : Message
  pub fetched : has_fetched (Client n) f ls ≡ true
  pub back : has_fetched (Client n) f (onto [] ls) ≡ true
  pub given : (tail : List Line) → given_message (ls ++ tail) (sent_of past) ≡ Some message
  pub given_back : given_message (onto [] ls) (sent_of past) ≡ Some message
  pub shown : IsFetched s n message e.server (last_key n x) past f e.index e.status e.body e.expiry
  pub spares : Spares e.server n f ls
  pub low : (highest_over (Client n) f past false (highest_reached (Client n) f past) ls).seen ≤ e.index

-- these lines stand before what is read on, and the cache is then this
pub record IsFront (s : Script) (n : ℕ) (x : ClientState) (clock : ℕ) (past : List Entry) (front : List Line → List Line) (ls : List Line) (first : List CacheEntry) : Type 0 where
  pub on : (tail : List Line) → front tail ≡ ls ++ tail
  pub blank : AreBlank ls
  pub shown : (tail : List Line) → EachLine (IsShown s) (actors.Node (Client n)) past (onto [] ls) tail → EachLine (IsShown s) (actors.Node (Client n)) past [] (ls ++ tail)
  pub up : (f : Fid) → ReadsUpTo (Client n) f (index_in (last_version f (lines_of past))) ls
  pub zero' : (f : Fid) → (highest_over (Client n) f past false (highest_reached (Client n) f past) ls).made ≡ 0
  pub ticks : clock_of (onto (lines_of past) ls) ≡ clock
  pub each : (f : Fid) (e : CacheEntry) → find_cached f first ≡ Some e → FrontOld s n x clock past ls f e ⊎ FrontNew s n x clock past ls f e
  pub done' : (f : Fid) (server : Node) → HasDone n x f server past

pub ready_old : (s : Script) (n : ℕ) (x : ClientState) (clock : ℕ) (past : List Entry) (ls : List Line) (f : Fid) (e : CacheEntry) → AreBlank ls → Trusts s n x clock past → ((g : Fid) (u : CacheEntry) → find_cached g x.cache ≡ Some u → IsFetchedEntry n g u past) → HasDone n x f e.server past → clock < e.expiry → FrontOld s n x clock past ls f e → Ready s n f e past ls
ready_old s n x clock past ls f e b T K D lasts F =
    let S : Stands s n x clock f e past = T.entries f e F.found in
    let r : Rests s n f e past = S.rests in
    let none : has_fetched (Client n) f (onto [] ls) ≡ false = fetched_onto (Client n) f ls [] F.fetched in
    let new : List Line = since_rest s n f e past r in
    record {
      reply = r.reply;
      by = ap (λ (t : Bool). cond t (given_message (onto [] ls) (sent_of past)) (fetch_reply (Client n) f past)) none ∙ r.by;
      grant = r.grant;
      home = subst (λ (q : Node). IsPutAt f.volume q s.volumes) (sym r.server) r.home;
      whole = r.whole;
      least = r.least;
      kept = λ d. (K f e F.found).kept (r.calm (F.spares new (subst (λ (q : Node). IsDropped q (Client n) f (onto new ls)) r.server d)));
      low = F.low lasts;
      newest = elim (S.fresh lasts) [
        | inl w ↦ inl (withdrawn_onto r.grant.server (Client n) f ls new (subst (λ (q : Node). IsWithdrawn q (Client n) f new) (sym r.server) w))
        | inr H ↦ inr (ap (option_map (λ (v : Version). v.index)) (blank_last f ls (lines_of past) b) ∙ H.plain D.0)
      ];
    }

ready_new : (s : Script) (n : ℕ) (x : ClientState) (clock : ℕ) (past : List Entry) (ls : List Line) (f : Fid) (e : CacheEntry) → AreBlank ls → FrontNew s n x clock past ls f e → Ready s n f e past ls
ready_new s n x clock past ls f e b F =
    let r = F.shown in
    let new : List Line = since (Client n) f e.expiry F.message past r.grant in
    record {
      reply = F.message;
      by = ap (λ (t : Bool). cond t (given_message (onto [] ls) (sent_of past)) (fetch_reply (Client n) f past)) F.back ∙ F.given_back;
      grant = r.grant;
      home = subst (λ (q : Node). IsPutAt f.volume q s.volumes) (sym r.server) r.home;
      whole = r.whole;
      least = r.least;
      kept = λ d. r.kept (F.spares new (subst (λ (q : Node). IsDropped q (Client n) f (onto new ls)) r.server d));
      low = F.low;
      newest = elim r.newest [
        | inl w ↦ inl (withdrawn_onto r.grant.server (Client n) f ls new (subst (λ (q : Node). IsWithdrawn q (Client n) f new) (sym r.server) w))
        | inr last ↦ inr (ap (option_map (λ (v : Version). v.index)) (blank_last f ls (lines_of past) b) ∙ last)
      ];
    }

all_ready : (s : Script) (n : ℕ) (x : ClientState) (clock : ℕ) (past : List Entry) (front : List Line → List Line) (ls : List Line) (first : List CacheEntry) → IsFront s n x clock past front ls first → Trusts s n x clock past → ((g : Fid) (u : CacheEntry) → find_cached g x.cache ≡ Some u → IsFetchedEntry n g u past) → AllReady s n clock first past ls
all_ready s n x clock past front ls first F T K f e found lasts = elim (F.each f e found) [
  | inl o ↦ ready_old s n x clock past ls f e F.blank T K (F.done' f e.server) lasts o
  | inr o ↦ ready_new s n x clock past ls f e F.blank o
]

-- ---- what is read on

-- the last lines of a step
abbrev IsEnd : ℕ → List Line → Type 0
IsEnd n tail = (AreBlank tail × AreUnread tail) × (has_begun (Client n) tail ≡ false)

index_up : (s : Script) (n : ℕ) (x : ClientState) (clock : ℕ) (past : List Entry) (front : List Line → List Line) (ls : List Line) (first : List CacheEntry) → IsFront s n x clock past front ls first → Trusts s n x clock past → IsAgreed s past → (f : Fid) (e : CacheEntry) → find_cached f first ≡ Some e → e.index ≤ index_in (last_version f (lines_of past))
index_up s n x clock past front ls first F T A f e found = elim (F.each f e found) [
  | inl o ↦ A.ascend.top f e.index _ (T.entries f e o.found).rests.whole.told
  | inr o ↦ A.ascend.top f e.index _ o.shown.whole.told
]

-- a step with these lines behind what was read
pub read_result : (s : Script) (n : ℕ) (x : ClientState) (clock : ℕ) (past : List Entry) (front : List Line → List Line) (ls : List Line) (first : List CacheEntry) (looks : List Look) (tail : List Line) (st : Step ClientState) → st.lines ≡ front (looked (Client n) looks tail) → IsEnd n tail → AreLooks clock first looks → ((f : Fid) (e : CacheEntry) → find_cached f st.state.cache ≡ Some e → find_cached f first ≡ Some e)
    → IsFront s n x clock past front ls first → Trusts s n x clock past → IsAgreed s past → ((g : Fid) (u : CacheEntry) → find_cached g x.cache ≡ Some u → IsFetchedEntry n g u past) → (has_begun (Client n) st.lines ≡ false → IsSame x st) → ((act : Going) → x.running ≡ Some act → IsSame x st) → Result s n x clock past st
read_result s n x clock past front ls first looks tail st is end looks_ sub F T A K begun moved =
    let who : Actor = actors.Node (Client n) in
    let all : List Line = looked (Client n) looks tail in
    let on : st.lines ≡ ls ++ all = is ∙ F.on all in
    let r : Fid → Reach = λ f. highest_over (Client n) f past false (highest_reached (Client n) f past) ls in
    let over : (f : Fid) → highest_reached (Client n) f (of_client n st ∷ past) ≡ highest_over (Client n) f past false (r f) all = λ f. ap (highest_over (Client n) f past false (highest_reached (Client n) f past)) on ∙ reach_blank (Client n) f past false (highest_reached (Client n) f past) ls all F.blank in
    let blank : AreBlank all = looked_blank n looks tail end.0.0 in
    let low : (f : Fid) (e : CacheEntry) → find_cached f first ≡ Some e → (r f).seen ≤ e.index → Seen n f e.index (of_client n st ∷ past) = λ f e found h.
    subst (λ (z : Reach). z.seen ≤ e.index) (sym (over f)) (both_up (Client n) f past false (r f) all e.index blank (subst (λ (i : ℕ). i ≤ e.index) (sym (F.zero' f)) (omega arith)) h
    (looks_up n clock first looks tail f e.index looks_ (λ u z w. le_of_eq (ap (λ (y : CacheEntry). y.index) (some_of u e (sym z ∙ found)))) (unread_up (Client n) f e.index tail end.0.1))).1 in
    record {
      shown = subst (EachLine (IsShown s) who past []) (sym on) (F.shown all (looks_good s who n clock past ls first looks tail F.blank F.ticks looks_ (all_ready s n x clock past front ls first F T K) (λ o. unread_shown s who past o tail end.0.1)));
      up = λ f. subst (ReadsUpTo (Client n) f (index_in (last_version f (lines_of past)))) (sym on) (up_both (Client n) f (index_in (last_version f (lines_of past))) ls all (F.up f)
          (looks_up n clock first looks tail f (index_in (last_version f (lines_of past))) looks_ (λ e z w. index_up s n x clock past front ls first F T A f e z) (unread_up (Client n) f _ tail end.0.1)));
      quiet = λ nb act now same last. absurd (begun nb same last);
      zero' = λ act run other f. ap (λ (z : Reach). z.made) (over f) ∙ (made_still (Client n) f past false (r f) all blank (looked_begun n looks tail ∙ end.1) ∙ F.zero' f);
      entries = λ f e found. elim (F.each f e (sub f e found)) [
        | inl o ↦ inl (record {
          found = o.found;
          fetched = ap (has_fetched (Client n) f) on ∙ (fetched_both (Client n) f ls all o.fetched ∙ (looks_none n clock first f looks tail looks_ ∙ unread_fetched (Client n) f tail end.0.1));
          after = λ w lasts S. inr (F.done' f e.server);
          low = λ lasts. low f e (sub f e found) (o.low lasts);
        })
        | inr o ↦ inr (inl (record {
          message = o.message;
          fetched = ap (has_fetched (Client n) f) on ∙ fetched_front (Client n) f ls all o.fetched;
          given = ap (λ (z : List Line). given_message z (sent_of past)) on ∙ o.given all;
          shown = o.shown;
          moved = moved o.act o.runs;
          low = λ lasts. low f e (sub f e found) o.low;
        }))
      ];
    }

begun_moved : (n : ℕ) (x : ClientState) (st : Step ClientState) (front : List Line → List Line) (all : List Line) → ((tail : List Line) → has_begun (Client n) (front tail) ≡ true) ⊎ ((act : Going) × (x.running ≡ Some act)) → st.lines ≡ front all → ((act : Going) → x.running ≡ Some act → IsSame x st) → has_begun (Client n) st.lines ≡ false → IsSame x st
begun_moved n x st front all (inl w) is run none = let yes : has_begun (Client n) st.lines ≡ true = ap (has_begun (Client n)) is ∙ w all in let no_ : true ≡ false = sym yes ∙ none in absurd cc
begun_moved n x st front all (inr r) is run none = run r.0 r.1

-- an act goes on: it is answered, or asks
goes_result : (s : Script) (n : ℕ) (x y : ClientState) (clock : ℕ) (past : List Entry) (front : List Line → List Line) (ls : List Line) (first : List CacheEntry) (w : Walked) (need : Need) → y.last ≡ x.last → AreLooks clock first w.looks → ((f : Fid) (e : CacheEntry) → find_cached f w.cache ≡ Some e → find_cached f first ≡ Some e)
    → IsFront s n x clock past front ls first → Trusts s n x clock past → IsAgreed s past → ((g : Fid) (u : CacheEntry) → find_cached g x.cache ≡ Some u → IsFetchedEntry n g u past) → ((tail : List Line) → has_begun (Client n) (front tail) ≡ true) ⊎ ((act : Going) × (x.running ≡ Some act)) → Result s n x clock past (goes_by (Client n) y front w need)
goes_result s n x y clock past front ls first w (answers k) last looks sub F T A K b =
    let st : Step ClientState = goes_by (Client n) y front w (answers k) in
    let run : (act : Going) → x.running ≡ Some act → IsSame x st = λ act r same l. none_runs st.state.running act refl (same ∙ r) in
    read_result s n x clock past front ls first w.looks (lines.Answer (Client n) (record { 0 = pos k }) ∷ []) st refl ((refl, refl), refl) looks sub F T A K (begun_moved n x st front (looked (Client n) w.looks (lines.Answer (Client n) (record { 0 = pos k }) ∷ [])) b refl run) run
goes_result s n x y clock past front ls first w (locates o) last looks sub F T A K b =
    let st : Step ClientState = goes_by (Client n) y front w (locates o) in
    let run : IsSame x st = λ same l. more_not st.state.last x.last (ap (λ (i : ℕ). i + 1) last) l in
    read_result s n x clock past front ls first w.looks [] st refl ((refl, refl), refl) looks sub F T A K (λ z. run) (λ act r. run)
goes_result s n x y clock past front ls first w need last looks sub F T A K b =
    let st : Step ClientState = goes_by (Client n) y front w need in
    let run : IsSame x st = λ same l. more_not st.state.last x.last (ap (λ (i : ℕ). i + 1) last) l in
    read_result s n x clock past front ls first w.looks [] st refl ((refl, refl), refl) looks sub F T A K (λ z. run) (λ act r. run)

pub walks_result : (s : Script) (n : ℕ) (x y : ClientState) (clock : ℕ) (past : List Entry) (front : List Line → List Line) (ls : List Line) (act : Going) (first : List CacheEntry) → y.last ≡ x.last → IsFront s n x clock past front ls first → Trusts s n x clock past → IsAgreed s past → ((g : Fid) (u : CacheEntry) → find_cached g x.cache ≡ Some u → IsFetchedEntry n g u past)
    → ((tail : List Line) → has_begun (Client n) (front tail) ≡ true) ⊎ ((b : Going) × (x.running ≡ Some b)) → Result s n x clock past (walks_on (Client n) y clock front act first)
walks_result s n x y clock past front ls act first last F T A K b =
    let w : Walked = walked (most_reads act) clock act first in
    goes_result s n x y clock past front ls first w (next w.act) last (walked_looks (most_reads act) clock first act first (λ g u z. z)) (λ f e z. walked_found (most_reads act) clock act first f e z) F T A K b
