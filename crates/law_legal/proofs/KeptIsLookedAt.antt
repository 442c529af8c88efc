-- What a client's own lines show it, and that what it reads from its cache is good.
use Rattle.spec_history.specs.declared.lines.Line.{Line}
use Rattle.spec_history.specs.declared.lines.Line.TheVariants as lines
use Rattle.spec_history.specs.declared.scripts.Script.{Script}
use Rattle.law_legal.proofs.BaseLaws.{both, found-cached-fid, raised_up_to, same_fid-true, some_of}
use Rattle.law_legal.proofs.VolumeEdits.{granted_in, index_in}
use Rattle.law_legal.proofs.BaseWords.{IsWhole}
use Rattle.law_legal.proofs.VolumesAreIdeal.{AreBlank, is_blank}
use Rattle.law_legal.proofs.VersionsLatest.{has_onto}
use Rattle.law_legal.proofs.RunSetUp.{any_home}
use Rattle.law_legal.proofs.KeptApart.{used_found}
use Rattle.law_legal.proofs.ActWalks.{back_again, onto_last, own_lines, shown_good, shown_promised}
use Rattle.law_legal.specs.Grants.{GrantOf, IsDropped, IsWithdrawn, is_promised, read_reply, since, until}
use Rattle.law_legal.specs.Ideal.{IsAccepted, HasVersion, IsLast, Reach, WasLast, clock_of, IsPutAt, is_zero_code, last_version, raised, highest_reached, highest_over, highest_seen}
use Rattle.law_legal.specs.Legal.{Shows}
use Rattle.law_legal.specs.Parts.{EachLine, LineRule}
use Rattle.law_legal.specs.Past.{Ran, given_message, has_begun, lines_of, onto, sent_of}
use Rattle.afs_num.specs.Fids.{same_fid}
use Rattle.afs_num.specs.Nodes.{same_node}
use Rattle.afs_num.specs.declared.histories.Actor.{Actor}
use Rattle.afs_num.specs.declared.histories.ReadBody.{ReadBody}
use Rattle.afs_num.specs.declared.histories.ReadSource.{ReadSource}
use Rattle.afs_num.specs.declared.histories.ReadSource.TheVariants.{Cached, Fetched}
use Rattle.afs_num.specs.declared.histories.Version.{Version}
use Rattle.afs_num.specs.declared.messages.Message.{Message}
use Rattle.afs_num.specs.declared.types.Fid.{Fid}
use Rattle.afs_num.specs.declared.types.Node.{Node}
use Rattle.afs_num.specs.declared.types.Node.TheVariants.{Client}
use Rattle.spec_rows.specs.ClientRow.{Look, Walked, find_cached, is_trusted, look_at, looked, shown_by, not_walked, used_first, walked, walked_at, walked_by, walked_with}
use Rattle.spec_rows.specs.Going.{Going, Need, next, reads, reads_status, with_read}
use Rattle.spec_rows.specs.Runs.{Entry}
use Rattle.spec_rows.specs.States.{CacheEntry}
use Rattle.std.proofs.Common.{◌≡◌, ◌≤◌, ◌<◌, zero, suc, ℕ, ◌⊎◌, inl, inr, Bool, true, false, cond, ltb-true, List, [], ◌∷◌, ◌++◌, Option, Some, None, refl, sym, ap, subst, ◌∙◌, arith, le_of_eq}
use Rattle.std.specs.Prelude.{⊤, ◌&&◌}

-- ---- what the client has seen, behind its own lines

abbrev pub ReadsUpTo : Node → Fid → ℕ → List Line → Type 0
ReadsUpTo c f n [] = ⊤
ReadsUpTo c f n (lines.Read m g index source body ∷ ls) = ((same_node m c && same_fid g f) ≡ true → index ≤ n) × ReadsUpTo c f n ls
ReadsUpTo c f n (l ∷ ls) = ReadsUpTo c f n ls

-- no answer 0 is among them
abbrev pub HasNoZero : Node → List Line → Type 0
HasNoZero c [] = ⊤
HasNoZero c (lines.Answer m code ∷ ls) = ((same_node m c && is_zero_code code) ≡ false) × HasNoZero c ls
HasNoZero c (l ∷ ls) = HasNoZero c ls

made_reset : (t : Bool) (m n : ℕ) → m ≤ n → cond t 0 m ≤ n
made_reset true m n h = omega arith
made_reset false m n h = h

pub both_up : (c : Node) (f : Fid) (past : List Entry) (own : Bool) (r : Reach) (ls : List Line) (n : ℕ) → AreBlank ls → r.made ≤ n → r.seen ≤ n → ReadsUpTo c f n ls → ((highest_over c f past own r ls).made ≤ n) × ((highest_over c f past own r ls).seen ≤ n)
both_up c f past own r [] n b m s u = (m, s)
both_up c f past own r (lines.Begin k act ∷ ls) n b m s u = both_up c f past own (record { made = cond (same_node k c) 0 r.made; seen = r.seen }) ls n b (made_reset (same_node k c) r.made n m) s u
both_up c f past own r (lines.Read k g index source body ∷ ls) n b m s u = both_up c f past own (record { made = r.made; seen = raised (same_node k c && same_fid g f) index r.seen }) ls n b m (raised_up_to (same_node k c && same_fid g f) index r.seen n u.0 s) u.1
both_up c f past own r (lines.Answer k code ∷ ls) n b m s u = both_up c f past own (record { made = r.made; seen = raised (same_node k c && is_zero_code code) r.made r.seen }) ls n b m (raised_up_to (same_node k c && is_zero_code code) r.made r.seen n (λ t. m) s) u
both_up c f past own r (lines.Change q k count ∷ ls) n b m s u = absurd cc
both_up c f past own r (lines.Version v ∷ ls) n b m s u = absurd cc
both_up c f past own r (l ∷ ls) n b m s u = both_up c f past own r ls n b m s u

seen_zero : (t : Bool) (a b n : ℕ) → t ≡ false → b ≤ n → raised t a b ≤ n
seen_zero true a b n e h = absurd cc
seen_zero false a b n e h = h

pub seen_up : (c : Node) (f : Fid) (past : List Entry) (own : Bool) (r : Reach) (ls : List Line) (n : ℕ) → AreBlank ls → HasNoZero c ls → r.seen ≤ n → ReadsUpTo c f n ls → (highest_over c f past own r ls).seen ≤ n
seen_up c f past own r [] n b z s u = s
seen_up c f past own r (lines.Begin k act ∷ ls) n b z s u = seen_up c f past own (record { made = cond (same_node k c) 0 r.made; seen = r.seen }) ls n b z s u
seen_up c f past own r (lines.Read k g index source body ∷ ls) n b z s u = seen_up c f past own (record { made = r.made; seen = raised (same_node k c && same_fid g f) index r.seen }) ls n b z (raised_up_to (same_node k c && same_fid g f) index r.seen n u.0 s) u.1
seen_up c f past own r (lines.Answer k code ∷ ls) n b z s u = seen_up c f past own (record { made = r.made; seen = raised (same_node k c && is_zero_code code) r.made r.seen }) ls n b z.1 (seen_zero (same_node k c && is_zero_code code) r.made r.seen n z.0 s) u
seen_up c f past own r (lines.Change q k count ∷ ls) n b z s u = absurd cc
seen_up c f past own r (lines.Version v ∷ ls) n b z s u = absurd cc
seen_up c f past own r (l ∷ ls) n b z s u = seen_up c f past own r ls n b z s u

pub begun_by : (t b : Bool) → cond t true b ≡ false → (t ≡ false) × (b ≡ false)
begun_by true b e = absurd cc
begun_by false b e = (refl, e)

pub made_still : (c : Node) (f : Fid) (past : List Entry) (own : Bool) (r : Reach) (ls : List Line) → AreBlank ls → has_begun c ls ≡ false → (highest_over c f past own r ls).made ≡ r.made
made_still c f past own r [] b h = refl
made_still c f past own r (lines.Begin k act ∷ ls) b h = let p = begun_by (same_node k c) (has_begun c ls) h in made_still c f past own (record { made = cond (same_node k c) 0 r.made; seen = r.seen }) ls b p.1 ∙ ap (λ (t : Bool). cond t 0 r.made) p.0
made_still c f past own r (lines.Read k g index source body ∷ ls) b h = made_still c f past own (record { made = r.made; seen = raised (same_node k c && same_fid g f) index r.seen }) ls b h
made_still c f past own r (lines.Answer k code ∷ ls) b h = made_still c f past own (record { made = r.made; seen = raised (same_node k c && is_zero_code code) r.made r.seen }) ls b h
made_still c f past own r (lines.Change q k count ∷ ls) b h = absurd cc
made_still c f past own r (lines.Version v ∷ ls) b h = absurd cc
made_still c f past own r (l ∷ ls) b h = made_still c f past own r ls b h

pub reach_blank : (c : Node) (f : Fid) (past : List Entry) (own : Bool) (r : Reach) (a d : List Line) → AreBlank a → highest_over c f past own r (a ++ d) ≡ highest_over c f past own (highest_over c f past own r a) d
reach_blank c f past own r [] d b = refl
reach_blank c f past own r (lines.Begin k act ∷ a) d b = reach_blank c f past own (record { made = cond (same_node k c) 0 r.made; seen = r.seen }) a d b
reach_blank c f past own r (lines.Read k g index source body ∷ a) d b = reach_blank c f past own (record { made = r.made; seen = raised (same_node k c && same_fid g f) index r.seen }) a d b
reach_blank c f past own r (lines.Answer k code ∷ a) d b = reach_blank c f past own (record { made = r.made; seen = raised (same_node k c && is_zero_code code) r.made r.seen }) a d b
reach_blank c f past own r (lines.Change q k count ∷ a) d b = absurd cc
reach_blank c f past own r (lines.Version v ∷ a) d b = absurd cc
reach_blank c f past own r (l ∷ a) d b = reach_blank c f past own r a d b

-- ---- what is asked of a read but for the reply that was used

pub record ShownRead (s : Script) (c : Node) (f : Fid) (index : ℕ) (source : ReadSource) (body : ReadBody) (past : List Entry) (own : List Line) : Type 0 where
  pub whole : Shows f index body past own
  pub not_older : highest_seen c f past own ≤ index
  pub reply : Message
  pub by : read_reply c f source past own ≡ Some reply
  pub expiry : ℕ
  pub grant : GrantOf c f expiry reply past
  pub exact : source ≡ Fetched → grant.index ≡ index
  pub home : IsAccepted s f.volume grant.server (until c f expiry reply past grant)
  pub granted : (v : Version) → last_version f (until c f expiry reply past grant) ≡ Some v → v.index ≤ index
  pub lasts : clock_of (own ++ lines_of past) < expiry
  pub kept : IsDropped grant.server c f (own ++ since c f expiry reply past grant) → ⊥
  pub newest : IsWithdrawn grant.server c f (own ++ since c f expiry reply past grant) ⊎ IsLast f index (own ++ lines_of past)

pub record ShownRights (c : Node) (f : Fid) (index : ℕ) (body : ReadBody) (past : List Entry) (own : List Line) : Type 0 where
  pub whole : Shows f index body past own
  pub not_older : highest_seen c f past own ≤ index
  pub was : WasLast c f index (own ++ lines_of past)
  pub reply : Message
  pub by : given_message own (sent_of past) ≡ Some reply
  pub ran : Ran reply.head past
  pub exact : IsLast f index (lines_of ran.older)

abbrev pub ShownBy : Script → Bool → Node → Fid → ℕ → ReadSource → ReadBody → List Entry → List Line → Type 0
ShownBy s true c f index source body past own = ShownRead s c f index source body past own
ShownBy s false c f index source body past own = ShownRights c f index body past own

abbrev pub IsShown : Script → LineRule
IsShown s who (lines.Read c f index source body) past own next = ShownBy s (is_promised body) c f index source body past own
IsShown s who l past own next = ⊤

-- ---- an entry of the cache that can be shown, behind these lines of its step, the oldest first

pub record Ready (s : Script) (n : ℕ) (f : Fid) (e : CacheEntry) (past : List Entry) (ls : List Line) : Type 0 where
  pub reply : Message
  pub by : read_reply (Client n) f Cached past (onto [] ls) ≡ Some reply
  pub grant : GrantOf (Client n) f e.expiry reply past
  pub home : IsPutAt f.volume grant.server s.volumes
  pub whole : IsWhole f e.index e.status e.body past
  pub least : index_in (last_version f (until (Client n) f e.expiry reply past grant)) ≤ e.index
  pub kept : IsDropped grant.server (Client n) f (onto (since (Client n) f e.expiry reply past grant) ls) → ⊥
  pub low : (highest_over (Client n) f past false (highest_reached (Client n) f past) ls).seen ≤ e.index
  pub newest : IsWithdrawn grant.server (Client n) f (onto (since (Client n) f e.expiry reply past grant) ls) ⊎ IsLast f e.index (onto (lines_of past) ls)

-- one more read from the cache
ready_more : (s : Script) (n : ℕ) (f g : Fid) (e : CacheEntry) (past : List Entry) (ls : List Line) (index : ℕ) (body : ReadBody) → AreBlank ls → (g ≡ f → index ≤ e.index) → Ready s n f e past ls → Ready s n f e past (ls ++ lines.Read (Client n) g index Cached body ∷ [])
ready_more s n f g e past ls index body b up r =
    let x : Line = lines.Read (Client n) g index Cached body in
    let new : List Line = since (Client n) f e.expiry r.reply past r.grant in
    record {
      reply = r.reply;
      by = subst (λ (o : List Line). read_reply (Client n) f Cached past o ≡ Some r.reply) (sym (onto_last [] ls x)) r.by;
      grant = r.grant;
      home = r.home;
      whole = r.whole;
      least = r.least;
      kept = λ d. r.kept (subst (IsDropped r.grant.server (Client n) f) (onto_last new ls x) d);
      low = subst (λ (z : Reach). z.seen ≤ e.index) (sym (reach_blank (Client n) f past false (highest_reached (Client n) f past) ls (x ∷ []) b))
          (raised_up_to (same_node (Client n) (Client n) && same_fid g f) index (highest_over (Client n) f past false (highest_reached (Client n) f past) ls).seen e.index (λ t. up (same_fid-true g f (both (same_node (Client n) (Client n)) (same_fid g f) t).1)) r.low);
      newest = elim r.newest [
        | inl w ↦ inl (subst (IsWithdrawn r.grant.server (Client n) f) (sym (onto_last new ls x)) w)
        | inr last ↦ inr (subst (IsLast f e.index) (sym (onto_last (lines_of past) ls x)) last)
      ];
    }

-- what can be shown is read well
pub ready_good : (s : Script) (n clock : ℕ) (past : List Entry) (ls : List Line) (need : Need) (e : CacheEntry) (body : ReadBody) → clock_of (onto (lines_of past) ls) ≡ clock → clock < e.expiry → shown_by need e ≡ Some body → Ready s n e.fid e past ls → ShownRead s (Client n) e.fid e.index Cached body past (onto [] ls)
ready_good s n clock past ls need e body ticks lasts shown r =
    let new : List Line = since (Client n) e.fid e.expiry r.reply past r.grant in
    record {
      whole = shown_good need e body past (onto [] ls) r.whole (subst (HasVersion e.fid e.index r.whole.is) (own_lines ls (lines_of past)) (has_onto e.fid e.index r.whole.is ls (lines_of past) r.whole.told)) shown;
      not_older = subst (λ (o : List Line). (highest_over (Client n) e.fid past false (highest_reached (Client n) e.fid past) o).seen ≤ e.index) (sym (back_again ls)) r.low;
      reply = r.reply;
      by = r.by;
      expiry = e.expiry;
      grant = r.grant;
      exact = λ e. absurd cc;
      home = any_home s e.fid.volume r.grant.server (until (Client n) e.fid e.expiry r.reply past r.grant) r.home;
      granted = λ v z. granted_in _ v e.index r.least z;
      lasts = subst (λ (o : List Line). clock_of o < e.expiry) (own_lines ls (lines_of past)) (subst (λ (t : ℕ). t < e.expiry) (sym ticks) lasts);
      kept = λ d. r.kept (subst (IsDropped r.grant.server (Client n) e.fid) (sym (own_lines ls new)) d);
      newest = elim r.newest [
        | inl w ↦ inl (subst (IsWithdrawn r.grant.server (Client n) e.fid) (own_lines ls new) w)
        | inr last ↦ inr (subst (IsLast e.fid e.index) (own_lines ls (lines_of past)) last)
      ];
    }

-- ---- reads from the cache

-- what was looked at is a trusted entry
pub record IsLook (clock : ℕ) (cache : List CacheEntry) (l : Look) : Type 0 where
  pub need : Need
  pub entry : CacheEntry
  pub found : find_cached entry.fid cache ≡ Some entry
  pub lasts : clock < entry.expiry
  pub shown : shown_by need entry ≡ Some l.body
  pub same : l ≡ look_at Cached entry l.body

abbrev pub AreLooks : ℕ → List CacheEntry → List Look → Type 0
AreLooks clock cache [] = ⊤
AreLooks clock cache (l ∷ looks) = IsLook clock cache l × AreLooks clock cache looks

abbrev Within : List CacheEntry → List CacheEntry → Type 0
Within a b = (g : Fid) (u : CacheEntry) → find_cached g a ≡ Some u → find_cached g b ≡ Some u

abbrev Looks : ℕ → List CacheEntry → (Going → List CacheEntry → Walked) → Type 0
Looks clock first more = (act : Going) (cache : List CacheEntry) → Within cache first → AreLooks clock first (more act cache).looks

with_looks : (more : Going → List CacheEntry → Walked) (clock : ℕ) (first : List CacheEntry) (act : Going) (cache : List CacheEntry) (need : Need) (e : CacheEntry) (o : Option ReadBody) → find_cached e.fid cache ≡ Some e → clock < e.expiry → shown_by need e ≡ o → Within cache first → Looks clock first more → AreLooks clock first (walked_with more act cache e o).looks
with_looks more clock first act cache need e None found lasts shown w h = tt
with_looks more clock first act cache need e (Some body) found lasts shown w h = (
  record { need = need; entry = e; found = w e.fid e found; lasts = lasts; shown = shown; same = refl },
  h (with_read e.fid body act) (used_first e cache) (λ g u z. w g u (used_found g e cache u found z)),
)

trusted_looks : (t : Bool) (more : Going → List CacheEntry → Walked) (clock : ℕ) (first : List CacheEntry) (act : Going) (cache : List CacheEntry) (need : Need) (e : CacheEntry) → is_trusted clock e ≡ t → find_cached e.fid cache ≡ Some e → Within cache first → Looks clock first more → AreLooks clock first (cond t (walked_with more act cache e (shown_by need e)) (not_walked act cache)).looks
trusted_looks true more clock first act cache need e t found w h = with_looks more clock first act cache need e (shown_by need e) found (ltb-true _ _ t) refl w h
trusted_looks false more clock first act cache need e t found w h = tt

at_looks : (more : Going → List CacheEntry → Walked) (clock : ℕ) (first : List CacheEntry) (act : Going) (cache : List CacheEntry) (need : Need) (f : Fid) (o : Option CacheEntry) → find_cached f cache ≡ o → Within cache first → Looks clock first more → AreLooks clock first (walked_at more clock act cache need o).looks
at_looks more clock first act cache need f None found w h = tt
at_looks more clock first act cache need f (Some e) found w h =
    trusted_looks (is_trusted clock e) more clock first act cache need e refl (ap (λ (g : Fid). find_cached g cache) (same_fid-true e.fid f (found-cached-fid f cache e found)) ∙ found) w h

by_looks : (more : Going → List CacheEntry → Walked) (clock : ℕ) (first : List CacheEntry) (act : Going) (cache : List CacheEntry) (need : Need) → Within cache first → Looks clock first more → AreLooks clock first (walked_by more clock act cache need).looks
by_looks more clock first act cache (reads f) w h = at_looks more clock first act cache (reads f) f (find_cached f cache) refl w h
by_looks more clock first act cache (reads_status f) w h = at_looks more clock first act cache (reads_status f) f (find_cached f cache) refl w h
by_looks more clock first act cache need w h = tt

pub walked_looks : (k clock : ℕ) (first : List CacheEntry) → Looks clock first (walked k clock)
walked_looks zero clock first act cache w = tt
walked_looks (suc k) clock first act cache w = by_looks (walked k clock) clock first act cache (next act) w (walked_looks k clock first)

pub blank_both : (a b : List Line) → AreBlank a → AreBlank b → AreBlank (a ++ b)
blank_both [] b h k = k
blank_both (l ∷ a) b h k = let q = both (is_blank l) _ h in rw (q.0, blank_both a b q.1 k) refl

pub blank_read : (ls : List Line) (n : ℕ) (f : Fid) (index : ℕ) (source : ReadSource) (body : ReadBody) → AreBlank ls → AreBlank (ls ++ lines.Read (Client n) f index source body ∷ [])
blank_read ls n f index source body h = blank_both ls (lines.Read (Client n) f index source body ∷ []) h refl

-- ---- they are good, and show nothing above the entries

pub by_promise : (s : Script) (t : Bool) (c : Node) (f : Fid) (index : ℕ) (source : ReadSource) (body : ReadBody) (past : List Entry) (own : List Line) → t ≡ true → ShownRead s c f index source body past own → ShownBy s t c f index source body past own
by_promise s true c f index source body past own e g = g
by_promise s false c f index source body past own e g = absurd cc

abbrev pub AllReady : Script → ℕ → ℕ → List CacheEntry → List Entry → List Line → Type 0
AllReady s n clock cache past ls = (f : Fid) (e : CacheEntry) → find_cached f cache ≡ Some e → clock < e.expiry → Ready s n f e past ls

look_good : (s : Script) (n clock : ℕ) (past : List Entry) (ls : List Line) (cache : List CacheEntry) (l : Look) → clock_of (onto (lines_of past) ls) ≡ clock → (x : IsLook clock cache l) → AllReady s n clock cache past ls → ShownBy s (is_promised l.body) (Client n) l.fid l.index l.source l.body past (onto [] ls)
look_good s n clock past ls cache l ticks x ready =
    subst (λ (k : Look). ShownBy s (is_promised k.body) (Client n) k.fid k.index k.source k.body past (onto [] ls)) (sym x.same)
    (by_promise s (is_promised l.body) (Client n) x.entry.fid x.entry.index Cached l.body past (onto [] ls) (shown_promised x.need x.entry l.body x.shown) (ready_good s n clock past ls x.need x.entry l.body ticks x.lasts x.shown (ready x.entry.fid x.entry x.found x.lasts)))

pub looks_good : (s : Script) (who : Actor) (n clock : ℕ) (past : List Entry) (ls : List Line) (cache : List CacheEntry) (looks : List Look) (tail : List Line) → AreBlank ls → clock_of (onto (lines_of past) ls) ≡ clock → AreLooks clock cache looks → AllReady s n clock cache past ls → ((o : List Line) → EachLine (IsShown s) who past o tail) → EachLine (IsShown s) who past (onto [] ls) (looked (Client n) looks tail)
looks_good s who n clock past ls cache [] tail b ticks h ready t = t (onto [] ls)
looks_good s who n clock past ls cache (l ∷ looks) tail b ticks h ready t =
    let x : Line = lines.Read (Client n) l.fid l.index l.source l.body in
    let e : CacheEntry = h.0.entry in
    let same : x ≡ lines.Read (Client n) e.fid e.index Cached l.body = ap (λ (k : Look). lines.Read (Client n) k.fid k.index k.source k.body) h.0.same in (
      look_good s n clock past ls cache l ticks h.0 ready,
      subst (λ (o : List Line). EachLine (IsShown s) who past o (looked (Client n) looks tail)) (onto_last [] ls x)
          (looks_good s who n clock past (ls ++ x ∷ []) cache looks tail (subst (λ (y : Line). AreBlank (ls ++ y ∷ [])) (sym same) (blank_read ls n e.fid e.index Cached l.body b))
          (ap clock_of (onto_last (lines_of past) ls x) ∙ (ap (λ (y : Line). clock_of (y ∷ onto (lines_of past) ls)) same ∙ ticks)) h.1
          (λ f u found lasts. subst (λ (y : Line). Ready s n f u past (ls ++ y ∷ [])) (sym same) (ready_more s n f e.fid u past ls e.index l.body b (λ z. le_of_eq (ap (λ (k : CacheEntry). k.index) (some_of e u (sym h.0.found ∙ (ap (λ (g : Fid). find_cached g cache) z ∙ found))))) (ready f u found lasts))) t),
    )

pub looks_up : (n clock : ℕ) (cache : List CacheEntry) (looks : List Look) (tail : List Line) (f : Fid) (k : ℕ) → AreLooks clock cache looks → ((e : CacheEntry) → find_cached f cache ≡ Some e → clock < e.expiry → e.index ≤ k) → ReadsUpTo (Client n) f k tail → ReadsUpTo (Client n) f k (looked (Client n) looks tail)
looks_up n clock cache [] tail f k h w t = t
looks_up n clock cache (l ∷ looks) tail f k h w t = (
  (λ z. subst (λ (x : ℕ). x ≤ k) (sym (ap (λ (y : Look). y.index) h.0.same)) (w h.0.entry (ap (λ (g : Fid). find_cached g cache) (sym (ap (λ (y : Look). y.fid) (sym h.0.same) ∙ same_fid-true l.fid f (both (same_node (Client n) (Client n)) (same_fid l.fid f) z).1)) ∙ h.0.found) h.0.lasts)),
  looks_up n clock cache looks tail f k h.1 w t,
)
