-- What a client reads of a reply is good, and so is what it reads on from its cache behind that.
use Rattle.spec_history.specs.declared.lines.Line.{Line}
use Rattle.spec_history.specs.declared.lines.Line.TheVariants as lines
use Rattle.spec_history.specs.declared.scripts.Script.{Script}
use Rattle.spec_ideal.specs.Operations.{volume_changed}
use Rattle.law_legal.proofs.ActLines.{last_key}
use Rattle.law_legal.proofs.KeptApart.{found_filter, found_out, put_found}
use Rattle.law_legal.proofs.ClientReplyArrives.{Arrives, Based, IsFetched, around, fetched, index_is, is_its_call}
use Rattle.law_legal.proofs.VersionsAscend.{Ascend}
use Rattle.law_legal.proofs.BaseLaws.{both, found-cached-fid, raised_up_to, same_fid-refl, same_fid-true, same_node-refl}
use Rattle.law_legal.proofs.VolumeEdits.{granted_in, index_in}
use Rattle.law_legal.proofs.BaseWords.{IsBody, IsWhole, Seen}
use Rattle.law_legal.proofs.ReadFetches.{IsRights}
use Rattle.law_legal.proofs.VolumesAreIdeal.{AreBlank, blank_last}
use Rattle.law_legal.proofs.KeptRests.{AreElse, IsAmong, Spares, all_fetched, dropped_fetched, dropped_spares, else_none, fetched_off, fetched_on, looks_spare, none_fetched, not_true, other_fid}
use Rattle.law_legal.proofs.VersionsLast.{withdrawn_onto}
use Rattle.law_legal.proofs.VersionsLatest.{has_onto}
use Rattle.law_legal.proofs.RunSetUp.{any_home}
use Rattle.law_legal.proofs.KeptIsLookedAt.{HasNoZero, IsShown, ReadsUpTo, ShownRead, blank_read, by_promise, made_still, reach_blank, seen_up, begun_by}
use Rattle.law_legal.proofs.ActAnsweredRecently.{ran_within}
use Rattle.law_legal.proofs.VolumeVersionsTold.{IsAgreed}
use Rattle.law_legal.proofs.KeptResolves.{done_reading}
use Rattle.law_legal.proofs.KeptStepAsks.{Result}
use Rattle.law_legal.proofs.ReadRows.{FrontNew, FrontOld, IsFront, dropped_blank, dropped_unread, dropped_zero, unread_up, walks_result}
use Rattle.law_legal.proofs.KeptTrusting.{IsKeyed, Trusts}
use Rattle.law_legal.proofs.ActWalks.{back_again, lines_assoc, looked_message, looked_more, onto_last, own_lines}
use Rattle.law_legal.specs.Grants.{IsDropped, IsWithdrawn, has_fetched, is_promised, since, until}
use Rattle.law_legal.specs.Ideal.{HasVersion, IsLast, IsPutAt, Reach, Unless, WasBefore, WasLast, clock_of, last_version, highest_reached, highest_over}
use Rattle.law_legal.specs.Legal.{Shows}
use Rattle.law_legal.specs.Parts.{EachLine}
use Rattle.law_legal.specs.Past.{AreWithin, begins_act, code_told, given_message, has_begun, is_called, is_new_to_act, lines_of, onto, sent_of}
use Rattle.afs_num.specs.Fids.{same_fid}
use Rattle.afs_num.specs.Nodes.{same_node}
use Rattle.afs_num.specs.declared.histories.Actor.{Actor}
use Rattle.afs_num.specs.declared.histories.Actor.TheVariants as actors
use Rattle.afs_num.specs.declared.histories.Body.{Body}
use Rattle.afs_num.specs.declared.histories.ReadBody.{ReadBody}
use Rattle.afs_num.specs.declared.histories.ReadBody.TheVariants as seen
use Rattle.afs_num.specs.declared.histories.ReadSource.TheVariants.{Fetched}
use Rattle.afs_num.specs.declared.histories.ReadStatus.{ReadStatus}
use Rattle.afs_num.specs.declared.histories.Version.{Version}
use Rattle.afs_num.specs.declared.messages.Message.{Message}
use Rattle.afs_num.specs.declared.types.Fid.{Fid}
use Rattle.afs_num.specs.declared.types.Key.{Key}
use Rattle.afs_num.specs.declared.types.Node.{Node}
use Rattle.afs_num.specs.declared.types.Node.TheVariants.{Client}
use Rattle.spec_rows.specs.ClientRow.{body_kept, call_of, dropped, find_cached, with_given, is_older, joined, look_at, looked, put_entries, put_entry, read_lines, status_look, takes_rights, walks_on, with_statuses}
use Rattle.spec_rows.specs.Going.{ClientState, Going, with_read}
use Rattle.spec_rows.specs.Runs.{Cell, Entry, message_at}
use Rattle.spec_rows.specs.States.{CacheEntry}
use Rattle.std.proofs.Common.{◌≡◌, ◌≤◌, ◌<◌, ℕ, ◌⊎◌, inl, inr, Bool, true, false, cond, filter, not, eqb-true, nat_eq, nat_lt, ltb-false, List, [], ◌∷◌, ◌++◌, map, Option, Some, None, pos, refl, sym, ap, subst, ◌∙◌, append-nil, le_of_eq}
use Rattle.std.specs.Option.{option_map}
use Rattle.std.specs.Prelude.{⊤, ◌&&◌, ◌||◌}
use Rattle.law_legal.proofs.ActFollows.{named_later}

-- ---- one object

-- what was fetched shows its body or its status
abbrev pub IsShowing : ReadStatus → Option Body → ReadBody → Type 0
IsShowing status body (seen.Contents b) = body ≡ Some b
IsShowing status body (seen.Status t) = t ≡ status
IsShowing status body (seen.AccessList text) = ⊥

shows_by : (f : Fid) (index : ℕ) (status : ReadStatus) (body : Option Body) (b : ReadBody) (past : List Entry) (own : List Line) → (w : IsWhole f index status body past) → HasVersion f index w.is (own ++ lines_of past) → IsShowing status body b → Shows f index b past own
shows_by f index status body (seen.Contents b) past own w told e =
    let h : IsBody (Some b) w.is = subst (λ (o : Option Body). IsBody o w.is) e w.holds in
    (h.1, subst (λ (y : Body). HasVersion f index y (own ++ lines_of past)) (sym h.0) told)
shows_by f index status body (seen.Status t) past own w told e = subst (λ (y : ReadStatus). Shows f index (seen.Status y) past own) (sym e) ((w.is, told), w.been)
shows_by f index status body (seen.AccessList text) past own w told e = absurd e

-- a read of what was fetched, behind these lines, the oldest first
fetched_shown : (s : Script) (n clock : ℕ) (m : Message) (from : Node) (k : Key) (past : List Entry) (f : Fid) (index : ℕ) (status : ReadStatus) (body : Option Body) (expiry : ℕ) (b : ReadBody) (ls : List Line) → AreBlank ls → clock_of (onto (lines_of past) ls) ≡ clock → clock < expiry → given_message (onto [] ls) (sent_of past) ≡ Some m
    → (highest_over (Client n) f past false (highest_reached (Client n) f past) ls).seen ≤ index → Spares from n f ls → IsShowing status body b → IsFetched s n m from k past f index status body expiry → ShownRead s (Client n) f index Fetched b past (onto [] ls)
fetched_shown s n clock m from k past f index status body expiry b ls blank ticks lasts by low spares shows F =
    let new : List Line = since (Client n) f expiry m past F.grant in
    record {
      whole = shows_by f index status body b past (onto [] ls) F.whole (subst (HasVersion f index F.whole.is) (own_lines ls (lines_of past)) (has_onto f index F.whole.is ls (lines_of past) F.whole.told)) shows;
      not_older = subst (λ (o : List Line). (highest_over (Client n) f past false (highest_reached (Client n) f past) o).seen ≤ index) (sym (back_again ls)) low;
      reply = m;
      by = by;
      expiry = expiry;
      grant = F.grant;
      exact = λ e. F.exact;
      home = any_home s f.volume F.grant.server (until (Client n) f expiry m past F.grant) (subst (λ (q : Node). IsPutAt f.volume q s.volumes) (sym F.server) F.home);
      granted = λ v z. granted_in _ v index F.least z;
      lasts = subst (λ (o : List Line). clock_of o < expiry) (own_lines ls (lines_of past)) (subst (λ (t : ℕ). t < expiry) (sym ticks) lasts);
      kept = λ d. F.kept (spares new (subst (λ (q : Node). IsDropped q (Client n) f (onto new ls)) F.server (subst (IsDropped F.grant.server (Client n) f) (sym (own_lines ls new)) d)));
      newest = elim F.newest [
        | inl w ↦ inl (subst (IsWithdrawn F.grant.server (Client n) f) (own_lines ls new) (withdrawn_onto F.grant.server (Client n) f ls new (subst (λ (q : Node). IsWithdrawn q (Client n) f new) (sym F.server) w)))
        | inr last ↦ inr (subst (IsLast f index) (own_lines ls (lines_of past)) (ap (option_map (λ (v : Version). v.index)) (blank_last f ls (lines_of past) blank) ∙ last))
      ];
    }

-- the entry that is put may keep the body of the one before, where that has its index
kept_by : (t : Bool) (f : Fid) (index : ℕ) (status : ReadStatus) (o : CacheEntry) (past : List Entry) → nat_eq o.index index ≡ t → Ascend (lines_of past) → IsWhole f index status None past → IsWhole f o.index o.status o.body past → IsWhole f index status (cond t o.body None) past
kept_by false f index status o past e A w h = w
kept_by true f index status o past e A w h =
    let same : o.index ≡ index = eqb-true o.index index e in
    record { is = h.is; told = subst (λ (i : ℕ). HasVersion f i h.is (lines_of past)) same h.told; holds = h.holds; been = w.been }

body_whole : (f : Fid) (index : ℕ) (status : ReadStatus) (b : Option Body) (old : Option CacheEntry) (past : List Entry) → Ascend (lines_of past) → IsWhole f index status b past → ((o : CacheEntry) → old ≡ Some o → IsWhole f o.index o.status o.body past) → IsWhole f index status (body_kept b index old) past
body_whole f index status (Some b) old past A w h = w
body_whole f index status None None past A w h = w
body_whole f index status None (Some o) past A w h = kept_by (nat_eq o.index index) f index status o past refl A w (h o refl)

with_body : (s : Script) (n : ℕ) (m : Message) (from : Node) (k : Key) (past : List Entry) (f : Fid) (index : ℕ) (status : ReadStatus) (a b : Option Body) (expiry : ℕ) → IsWhole f index status b past → IsFetched s n m from k past f index status a expiry → IsFetched s n m from k past f index status b expiry
with_body s n m from k past f index status a b expiry w F = record { grant = F.grant; server = F.server; exact = F.exact; home = F.home; whole = w; least = F.least; kept = F.kept; low = F.low; newest = F.newest; ran = F.ran; key = F.key }

-- one entry, of its fid
abbrev pub IsBrought : Script → ℕ → ClientState → Message → List Entry → CacheEntry → Type 0
IsBrought s n x m past u = IsFetched s n m u.server (last_key n x) past u.fid u.index u.status u.body u.expiry

-- ---- what was known before, behind lines that show something of other objects

pub fid_of : (f : Fid) (cache : List CacheEntry) (e : CacheEntry) → find_cached f cache ≡ Some e → e.fid ≡ f
fid_of f cache e found = same_fid-true e.fid f (found-cached-fid f cache e found)

abbrev pub IsTaken : Script → Cell → List Entry → ℕ → ℕ → Going → Message → Type 0
IsTaken s c past n place act m = (Arrives s c past n act m × (message_at (sent_of past) place ≡ Some m)) × ((code_told m.carried ≡ Some (pos 0)) × (volume_changed (call_of (c.clients n) act) ≡ None))

-- ---- one entry

entry_new : (s : Script) (c : Cell) (past : List Entry) (n place : ℕ) (act : Going) (m : Message) (u : CacheEntry) (body : ReadBody) (f : Fid) (e : CacheEntry) → Based s c past → Trusts s n (c.clients n) c.clock past → IsTaken s c past n place act m → is_promised body ≡ true → IsBrought s n (c.clients n) m past u → u.fid ≡ f → joined u (c.clients n).cache ≡ e
    → FrontNew s n (c.clients n) c.clock past (lines.Given place ∷ lines.Read (Client n) u.fid u.index Fetched body ∷ []) f e
entry_new s c past n place act m u body f e B T a p F is put =
    let x : ClientState = c.clients n in
    let A : IsAgreed s past = (around s c past n B).agreed in
    let read : (o : Bool) → cond (is_promised body && (same_node (Client n) (Client n) && same_fid u.fid f)) true o ≡ true = λ o. fetched_on (is_promised body) (same_node (Client n) (Client n)) (same_fid u.fid f) o p (same_node-refl (Client n)) (ap (λ (g : Fid). same_fid g f) is ∙ same_fid-refl f) in
    record {
      act = act;
      runs = a.0.0.runs;
      message = m;
      fetched = read false;
      back = read false;
      given = λ tail. a.0.1;
      given_back = a.0.1;
      shown = subst (λ (v : CacheEntry). IsFetched s n m v.server (last_key n x) past f v.index v.status v.body v.expiry) put (subst (λ (g : Fid). IsFetched s n m u.server (last_key n x) past g u.index u.status (joined u x.cache).body u.expiry) is
          (with_body s n m u.server (last_key n x) past u.fid u.index u.status u.body (joined u x.cache).body u.expiry (body_whole u.fid u.index u.status u.body (find_cached u.fid x.cache) past A.ascend F.whole (λ o z. (T.entries u.fid o z).rests.whole)) F));
      spares = λ o d. d;
      low = subst (λ (i : ℕ). (highest_over (Client n) f past false (highest_reached (Client n) f past) (lines.Given place ∷ lines.Read (Client n) u.fid u.index Fetched body ∷ [])).seen ≤ i) (ap (λ (v : CacheEntry). v.index) put)
          (raised_up_to (same_node (Client n) (Client n) && same_fid u.fid f) u.index (highest_reached (Client n) f past).seen u.index (λ t. le_of_eq refl) (subst (λ (g : Fid). Seen n g u.index past) is F.low));
    }

entry_old : (s : Script) (c : Cell) (past : List Entry) (n place : ℕ) (u : CacheEntry) (body : ReadBody) (f : Fid) (e : CacheEntry) → Trusts s n (c.clients n) c.clock past → (u.fid ≡ f → ⊥) → find_cached f (c.clients n).cache ≡ Some e → FrontOld s n (c.clients n) c.clock past (lines.Given place ∷ lines.Read (Client n) u.fid u.index Fetched body ∷ []) f e
entry_old s c past n place u body f e T ne found =
    let off : same_fid u.fid f ≡ false = other_fid u.fid f (same_fid u.fid f) refl ne in
    record {
      found = found;
      fetched = fetched_off (is_promised body) (same_node (Client n) (Client n)) (same_fid u.fid f) false off;
      spares = λ o d. d;
      low = λ lasts. raised_up_to (same_node (Client n) (Client n) && same_fid u.fid f) u.index (highest_reached (Client n) f past).seen e.index (λ t. (let yes : same_fid u.fid f ≡ true = (both (same_node (Client n) (Client n)) (same_fid u.fid f) t).1 in let no_ : false ≡ true = sym off ∙ yes in absurd cc)) ((T.entries f e found).low lasts);
    }

entry_front : (s : Script) (c : Cell) (past : List Entry) (n place : ℕ) (act : Going) (m : Message) (u : CacheEntry) (body : ReadBody) (capacity : ℕ) → Based s c past → Trusts s n (c.clients n) c.clock past → IsTaken s c past n place act m → is_promised body ≡ true → IsShowing u.status u.body body → c.clock < u.expiry → IsBrought s n (c.clients n) m past u
    → IsFront s n (c.clients n) c.clock past (read_lines (Client n) place (look_at Fetched u body)) (lines.Given place ∷ lines.Read (Client n) u.fid u.index Fetched body ∷ []) (put_entry capacity u (c.clients n).cache)
entry_front s c past n place act m u body capacity B T a p shows lasts F =
    let x : ClientState = c.clients n in
    let A : IsAgreed s past = (around s c past n B).agreed in
    record {
      on = λ tail. refl;
      blank = refl;
      shown = λ tail h. (
        tt,
        (
          by_promise s (is_promised body) (Client n) u.fid u.index Fetched body past (lines.Given place ∷ []) p
              (fetched_shown s n c.clock m u.server (last_key n x) past u.fid u.index u.status u.body u.expiry body (lines.Given place ∷ []) refl B.ticks.1 lasts a.0.1 F.low (λ o d. d) shows F),
          h,
        ),
      );
      up = λ f. ((λ t. subst (λ (g : Fid). u.index ≤ index_in (last_version g (lines_of past))) (same_fid-true u.fid f (both (same_node (Client n) (Client n)) (same_fid u.fid f) t).1) (A.ascend.top u.fid u.index F.whole.is F.whole.told)), tt);
      zero' = λ f. (T.waits act a.0.0.runs).made a.1.1 f;
      ticks = B.ticks.1;
      each = λ f e found. elim (put_found capacity f u x.cache e found) [
        | inl z ↦ inr (entry_new s c past n place act m u body f e B T a p F z.0 z.1)
        | inr z ↦ inl (entry_old s c past n place u body f e T z.0 z.1)
      ];
      done' = λ f server. done_reading n x act f server past a.0.0.runs a.1.1;
    }

pub entry_result : (s : Script) (c : Cell) (past : List Entry) (n place : ℕ) (act : Going) (m : Message) (u : CacheEntry) (body : ReadBody) → Based s c past → Trusts s n (c.clients n) c.clock past → IsTaken s c past n place act m → is_promised body ≡ true → IsShowing u.status u.body body → c.clock < u.expiry → IsBrought s n (c.clients n) m past u
    → Result s n (c.clients n) c.clock past (walks_on (Client n) (c.clients n) c.clock (read_lines (Client n) place (look_at Fetched u body)) (with_read u.fid body act) (put_entry (c.clients n).capacity u (c.clients n).cache))
entry_result s c past n place act m u body B T a p shows lasts F =
    let x : ClientState = c.clients n in
    walks_result s n x x c.clock past (read_lines (Client n) place (look_at Fetched u body)) (lines.Given place ∷ lines.Read (Client n) u.fid u.index Fetched body ∷ []) (with_read u.fid body act) (put_entry x.capacity u x.cache) refl
    (entry_front s c past n place act m u body x.capacity B T a p shows lasts F) T (around s c past n B).agreed (λ g v z. (B.kept.1 n).1 g v z) (inr (act, a.0.0.runs))

-- ---- several statuses

-- each was brought, under the index that its object had
abbrev pub AllBrought : Script → ℕ → ClientState → Message → List Entry → List Entry → List CacheEntry → Type 0
AllBrought s n x m past older [] = ⊤
AllBrought s n x m past older (u ∷ us) = (IsBrought s n x m past u × (index_in (last_version u.fid (lines_of older)) ≡ u.index)) × AllBrought s n x m past older us

abbrev pub AllTrusted : ℕ → List CacheEntry → Type 0
AllTrusted clock [] = ⊤
AllTrusted clock (u ∷ us) = (clock < u.expiry) × AllTrusted clock us

abbrev read_of : ℕ → CacheEntry → Line
read_of n u = lines.Read (Client n) u.fid u.index Fetched (seen.Status u.status)

reach_read : (n : ℕ) (f : Fid) (past : List Entry) (ls : List Line) (u : CacheEntry) (k : ℕ) → AreBlank ls → (u.fid ≡ f → u.index ≤ k) → (highest_over (Client n) f past false (highest_reached (Client n) f past) ls).seen ≤ k → (highest_over (Client n) f past false (highest_reached (Client n) f past) (ls ++ read_of n u ∷ [])).seen ≤ k
reach_read n f past ls u k b up h = subst (λ (z : Reach). z.seen ≤ k) (sym (reach_blank (Client n) f past false (highest_reached (Client n) f past) ls (read_of n u ∷ []) b))
    (raised_up_to (same_node (Client n) (Client n) && same_fid u.fid f) u.index (highest_over (Client n) f past false (highest_reached (Client n) f past) ls).seen k (λ t. up (same_fid-true u.fid f (both (same_node (Client n) (Client n)) (same_fid u.fid f) t).1)) h)

-- none shows more than the last index of its object there
abbrev AreLow : ℕ → List Entry → List Line → List CacheEntry → Type 0
AreLow n past ls [] = ⊤
AreLow n past ls (u ∷ us) = ((highest_over (Client n) u.fid past false (highest_reached (Client n) u.fid past) ls).seen ≤ u.index) × AreLow n past ls us

low_more : (s : Script) (n : ℕ) (x : ClientState) (m : Message) (past older : List Entry) (ls : List Line) (v : CacheEntry) (us : List CacheEntry) → AreBlank ls → index_in (last_version v.fid (lines_of older)) ≡ v.index → AllBrought s n x m past older us → AreLow n past ls us → AreLow n past (ls ++ read_of n v ∷ []) us
low_more s n x m past older ls v [] b e h w = tt
low_more s n x m past older ls v (u ∷ us) b e h w = (
  reach_read n u.fid past ls v u.index b (λ z. le_of_eq (sym e ∙ (ap (λ (g : Fid). index_in (last_version g (lines_of older))) z ∙ h.0.1))) w.0,
  low_more s n x m past older ls v us b e h.1 w.1,
)

statuses_shown : (s : Script) (n clock : ℕ) (x : ClientState) (m : Message) (past older : List Entry) (es : List CacheEntry) (ls tail : List Line) → AllBrought s n x m past older es → AllTrusted clock es → AreBlank ls → clock_of (onto (lines_of past) ls) ≡ clock → given_message (onto [] ls) (sent_of past) ≡ Some m → ((q : Node) (f : Fid) → Spares q n f ls) → AreLow n past ls es
    → EachLine (IsShown s) (actors.Node (Client n)) past (onto [] (ls ++ looked (Client n) (map status_look es) [])) tail → EachLine (IsShown s) (actors.Node (Client n)) past (onto [] ls) (looked (Client n) (map status_look es) tail)
statuses_shown s n clock x m past older [] ls tail h t b ticks given spares low w = subst (λ (o : List Line). EachLine (IsShown s) (actors.Node (Client n)) past (onto [] o) tail) (append-nil ls) w
statuses_shown s n clock x m past older (u ∷ us) ls tail h t b ticks given spares low w =
    let l : Line = read_of n u in
    let rest : List Line = looked (Client n) (map status_look us) [] in (
      fetched_shown s n clock m u.server (last_key n x) past u.fid u.index u.status u.body u.expiry (seen.Status u.status) ls b ticks t.0 given low.0 (spares u.server u.fid) refl h.0.0,
      subst (λ (o : List Line). EachLine (IsShown s) (actors.Node (Client n)) past o (looked (Client n) (map status_look us) tail)) (onto_last [] ls l)
          (statuses_shown s n clock x m past older us (ls ++ l ∷ []) tail h.1 t.1 (blank_read ls n u.fid u.index Fetched (seen.Status u.status) b) (ap clock_of (onto_last (lines_of past) ls l) ∙ ticks) (ap (λ (o : List Line). given_message o (sent_of past)) (onto_last [] ls l) ∙ given)
          (λ q f o d. spares q f o (subst (IsDropped q (Client n) f) (onto_last o ls l) d)) (low_more s n x m past older ls u us b h.0.1 h.1 low.1)
          (subst (λ (o : List Line). EachLine (IsShown s) (actors.Node (Client n)) past (onto [] o) tail) (sym (lines_assoc ls rest l)) w)),
    )

-- which of them a cache then has
puts_kind : (s : Script) (n : ℕ) (x : ClientState) (m : Message) (past older : List Entry) (capacity : ℕ) (es cache : List CacheEntry) (f : Fid) (e : CacheEntry) → Ascend (lines_of past) → AllBrought s n x m past older es → ((g : Fid) (o : CacheEntry) → find_cached g cache ≡ Some o → IsWhole g o.index o.status o.body past) → find_cached f (put_entries capacity es cache) ≡ Some e
    → (IsAmong f es × (IsFetched s n m e.server (last_key n x) past f e.index e.status e.body e.expiry × (index_in (last_version f (lines_of older)) ≡ e.index))) ⊎ (AreElse f es × (find_cached f cache ≡ Some e))
puts_kind s n x m past older capacity [] cache f e A h w found = inr (tt, found)
puts_kind s n x m past older capacity (u ∷ us) cache f e A h w found =
    let v : CacheEntry = joined u cache in
    let F : IsFetched s n m u.server (last_key n x) past u.fid u.index u.status v.body u.expiry = with_body s n m u.server (last_key n x) past u.fid u.index u.status u.body v.body u.expiry (body_whole u.fid u.index u.status u.body (find_cached u.fid cache) past A h.0.0.whole (λ o z. w u.fid o z)) h.0.0 in
    elim (puts_kind s n x m past older capacity us (put_entry capacity u cache) f e A h.1 (λ g o z. elim (put_found capacity g u cache o z) [
      | inl p ↦ subst (λ (y : CacheEntry). IsWhole g y.index y.status y.body past) p.1 (subst (λ (k : Fid). IsWhole k u.index u.status v.body past) p.0 F.whole)
      | inr p ↦ w g o p.1
    ]) found) [
      | inl y ↦ inl (inr y.0, y.1)
      | inr y ↦ elim (put_found capacity f u cache e y.1) [
        | inl z ↦ inl (
          inl z.0,
          subst (λ (k : CacheEntry). IsFetched s n m k.server (last_key n x) past f k.index k.status k.body k.expiry × (index_in (last_version f (lines_of older)) ≡ k.index)) z.1
              (subst (λ (g : Fid). IsFetched s n m u.server (last_key n x) past g u.index u.status v.body u.expiry × (index_in (last_version g (lines_of older)) ≡ u.index)) z.0 (F, h.0.1)),
        )
        | inr z ↦ inr ((z.0, y.0), z.1)
      ]
    ]

kept_fetched : (n : ℕ) (f : Fid) (es : List CacheEntry) (o : List Line) → has_fetched (Client n) f o ≡ true → has_fetched (Client n) f (onto o (looked (Client n) (map status_look es) [])) ≡ true
kept_fetched n f [] o h = h
kept_fetched n f (u ∷ us) o h = kept_fetched n f us (read_of n u ∷ o) (named_later (true && (same_node (Client n) (Client n) && same_fid u.fid f)) (has_fetched (Client n) f o) h)

back_fetched : (n : ℕ) (f : Fid) (es : List CacheEntry) (o : List Line) → IsAmong f es → has_fetched (Client n) f (onto o (looked (Client n) (map status_look es) [])) ≡ true
back_fetched n f [] o h = absurd h
back_fetched n f (u ∷ us) o (inl e) = kept_fetched n f us (read_of n u ∷ o) (fetched_on true (same_node (Client n) (Client n)) (same_fid u.fid f) (has_fetched (Client n) f o) refl (same_node-refl (Client n)) (ap (λ (g : Fid). same_fid g f) e ∙ same_fid-refl f))
back_fetched n f (u ∷ us) o (inr h) = back_fetched n f us (read_of n u ∷ o) h

statuses_up : (s : Script) (n : ℕ) (x : ClientState) (m : Message) (past older : List Entry) (es : List CacheEntry) (f : Fid) (k : ℕ) (tail : List Line) → AllBrought s n x m past older es → ((u : CacheEntry) → u.fid ≡ f → IsBrought s n x m past u → index_in (last_version u.fid (lines_of older)) ≡ u.index → u.index ≤ k) → ReadsUpTo (Client n) f k tail → ReadsUpTo (Client n) f k (looked (Client n) (map status_look es) tail)
statuses_up s n x m past older [] f k tail h w t = t
statuses_up s n x m past older (u ∷ us) f k tail h w t = ((λ z. w u (same_fid-true u.fid f (both (same_node (Client n) (Client n)) (same_fid u.fid f) z).1) h.0.0 h.0.1), statuses_up s n x m past older us f k tail h.1 w t)

else_up : (n : ℕ) (es : List CacheEntry) (f : Fid) (k : ℕ) → AreElse f es → ReadsUpTo (Client n) f k (looked (Client n) (map status_look es) [])
else_up n [] f k h = tt
else_up n (u ∷ us) f k h = ((λ z. absurd (h.0 (same_fid-true u.fid f (both (same_node (Client n) (Client n)) (same_fid u.fid f) z).1))), else_up n us f k h.1)

statuses_blank : (n : ℕ) (es : List CacheEntry) → AreBlank (looked (Client n) (map status_look es) [])
statuses_blank n [] = refl
statuses_blank n (u ∷ us) = statuses_blank n us

statuses_zero : (n : ℕ) (es : List CacheEntry) → HasNoZero (Client n) (looked (Client n) (map status_look es) [])
statuses_zero n [] = tt
statuses_zero n (u ∷ us) = statuses_zero n us

statuses_begun : (n : ℕ) (es : List CacheEntry) → has_begun (Client n) (looked (Client n) (map status_look es) []) ≡ false
statuses_begun n [] = refl
statuses_begun n (u ∷ us) = statuses_begun n us

statuses_clock : (n : ℕ) (es : List CacheEntry) (o : List Line) → clock_of (onto o (looked (Client n) (map status_look es) [])) ≡ clock_of o
statuses_clock n [] o = refl
statuses_clock n (u ∷ us) o = statuses_clock n us (read_of n u ∷ o)

first_low : (s : Script) (n place : ℕ) (x : ClientState) (m : Message) (past older : List Entry) (es : List CacheEntry) → AllBrought s n x m past older es → AreLow n past (lines.Given place ∷ []) es
first_low s n place x m past older [] h = tt
first_low s n place x m past older (u ∷ us) h = (h.0.0.low, first_low s n place x m past older us h.1)

bulk_front : (s : Script) (c : Cell) (past older : List Entry) (n place : ℕ) (act : Going) (m : Message) (es : List CacheEntry) (capacity : ℕ) → Based s c past → Trusts s n (c.clients n) c.clock past → IsTaken s c past n place act m → AllTrusted c.clock es → AllBrought s n (c.clients n) m past older es
    → IsFront s n (c.clients n) c.clock past (λ ls. with_given place (looked (Client n) (map status_look es) ls)) (lines.Given place ∷ looked (Client n) (map status_look es) []) (put_entries capacity es (c.clients n).cache)
bulk_front s c past older n place act m es capacity B T a trusted h =
    let x : ClientState = c.clients n in
    let A : IsAgreed s past = (around s c past n B).agreed in
    let rs : List Line = looked (Client n) (map status_look es) [] in
    record {
      on = λ tail. ap (λ (o : List Line). lines.Given place ∷ o) (looked_more (Client n) (map status_look es) tail);
      blank = statuses_blank n es;
      shown = λ tail w. (
        tt,
        subst (EachLine (IsShown s) (actors.Node (Client n)) past (lines.Given place ∷ [])) (looked_more (Client n) (map status_look es) tail)
            (statuses_shown s n c.clock x m past older es (lines.Given place ∷ []) tail h trusted refl B.ticks.1 a.0.1 (λ q f o d. d) (first_low s n place x m past older es h) w),
      );
      up = λ f. statuses_up s n x m past older es f (index_in (last_version f (lines_of past))) [] h (λ u e F i. subst (λ (g : Fid). u.index ≤ index_in (last_version g (lines_of past))) e (A.ascend.top u.fid u.index F.whole.is F.whole.told)) tt;
      zero' = λ f. made_still (Client n) f past false (highest_reached (Client n) f past) (lines.Given place ∷ rs) (statuses_blank n es) (statuses_begun n es) ∙ (T.waits act a.0.0.runs).made a.1.1 f;
      ticks = statuses_clock n es (lines.Given place ∷ lines_of past) ∙ B.ticks.1;
      each = λ f e found. elim (puts_kind s n x m past older capacity es x.cache f e A.ascend h (λ g o z. (T.entries g o z).rests.whole) found) [
        | inl z ↦ inr (record {
          act = act;
          runs = a.0.0.runs;
          message = m;
          fetched = all_fetched n f es [] z.0;
          back = back_fetched n f es (lines.Given place ∷ []) z.0;
          given = λ tail. a.0.1;
          given_back = looked_message (Client n) (map status_look es) (lines.Given place ∷ []) (sent_of past) ∙ a.0.1;
          shown = z.1.0;
          spares = λ o d. looks_spare e.server n f (map status_look es) [] (λ p q. q) (lines.Given place ∷ o) d;
          low = seen_up (Client n) f past false (highest_reached (Client n) f past) (lines.Given place ∷ rs) e.index (statuses_blank n es) (statuses_zero n es) z.1.0.low
              (statuses_up s n x m past older es f e.index [] h (λ u same F i. le_of_eq (sym i ∙ (ap (λ (g : Fid). index_in (last_version g (lines_of older))) same ∙ z.1.1))) tt);
        })
        | inr z ↦ inl (record {
          found = z.1;
          fetched = none_fetched n f es [] z.0;
          spares = λ o d. looks_spare e.server n f (map status_look es) [] (λ p q. q) (lines.Given place ∷ o) d;
          low = λ lasts. seen_up (Client n) f past false (highest_reached (Client n) f past) (lines.Given place ∷ rs) e.index (statuses_blank n es) (statuses_zero n es) ((T.entries f e z.1).low lasts) (else_up n es f e.index z.0);
        })
      ];
      done' = λ f server. done_reading n x act f server past a.0.0.runs a.1.1;
    }

pub bulk_result : (s : Script) (c : Cell) (past older : List Entry) (n place : ℕ) (act : Going) (m : Message) (es : List CacheEntry) → Based s c past → Trusts s n (c.clients n) c.clock past → IsTaken s c past n place act m → AllTrusted c.clock es → AllBrought s n (c.clients n) m past older es
    → Result s n (c.clients n) c.clock past (walks_on (Client n) (c.clients n) c.clock (λ ls. with_given place (looked (Client n) (map status_look es) ls)) (with_statuses es act) (put_entries (c.clients n).capacity es (c.clients n).cache))
bulk_result s c past older n place act m es B T a trusted h =
    let x : ClientState = c.clients n in
    walks_result s n x x c.clock past (λ ls. with_given place (looked (Client n) (map status_look es) ls)) (lines.Given place ∷ looked (Client n) (map status_look es) []) (with_statuses es act) (put_entries x.capacity es x.cache) refl
    (bulk_front s c past older n place act m es x.capacity B T a trusted h) T (around s c past n B).agreed (λ g v z. (B.kept.1 n).1 g v z) (inr (act, a.0.0.runs))

-- ---- rights

within_line : (c : Node) (f : Fid) (i : ℕ) (l : Line) (ls : List Line) → begins_act c l ≡ false → WasLast c f i ls → WasLast c f i (l ∷ ls)
within_line c f i l ls e h = inr (subst (λ (t : Bool). Unless t (IsLast f i ls ⊎ WasBefore c f i ls)) (sym e) h)

within_lines : (c : Node) (f : Fid) (i : ℕ) (ls o : List Line) → has_begun c ls ≡ false → WasLast c f i o → WasLast c f i (onto o ls)
within_lines c f i [] o e h = h
within_lines c f i (l ∷ ls) o e h = let p = begun_by (begins_act c l) (has_begun c ls) e in within_lines c f i ls (l ∷ o) p.1 (within_line c f i l o p.0 h)

within_entries : (c : Node) (f : Fid) (i : ℕ) (es older : List Entry) → AreWithin c es → WasLast c f i (lines_of older) → WasLast c f i (lines_of (es ++ older))
within_entries c f i [] older w h = h
within_entries c f i (e ∷ es) older w h = within_lines c f i e.lines (lines_of (es ++ older)) w.0 (within_entries c f i es older w.1 h)

regroup : (a : List Entry) (x : Entry) (b : List Entry) → (a ++ x ∷ []) ++ b ≡ a ++ (x ∷ b)
regroup [] x b = refl
regroup (y ∷ a) x b = ap (λ (p : List Entry). y ∷ p) (regroup a x b)

low_by : (t lt rel : Bool) (i index : ℕ) → t ≡ true → nat_lt i index ≡ lt → (t && (lt || rel)) ≡ false → index ≤ i
low_by true true rel i index a e h = absurd cc
low_by true false rel i index a e h = ltb-false i index e
low_by false lt rel i index a e h = absurd cc

older_low : (f : Fid) (e : CacheEntry) (index release : ℕ) → e.fid ≡ f → is_older f index release e ≡ false → index ≤ e.index
older_low f e index release same h = low_by (same_fid e.fid f) (nat_lt e.index index) (nat_lt e.release release) e.index index (ap (λ (g : Fid). same_fid g f) same ∙ same_fid-refl f) refl h

has_given : (n : ℕ) (f : Fid) (i : ℕ) (b : Body) (place : ℕ) (past : List Entry) → HasVersion f i b (lines_of past) → HasVersion f i b (lines.Given place ∷ lines_of past)
has_given n f i b place past h = h

dropped_more : (m : Node) (es : List CacheEntry) (tail : List Line) → dropped m es tail ≡ dropped m es [] ++ tail
dropped_more m [] tail = refl
dropped_more m (e ∷ es) tail = ap (λ (o : List Line). lines.Drop m e.fid ∷ o) (dropped_more m es tail)

dropped_begun : (n : ℕ) (es : List CacheEntry) → has_begun (Client n) (dropped (Client n) es []) ≡ false
dropped_begun n [] = refl
dropped_begun n (e ∷ es) = dropped_begun n es

dropped_clock : (m : Node) (es : List CacheEntry) (o : List Line) → clock_of (onto o (dropped m es [])) ≡ clock_of o
dropped_clock m [] o = refl
dropped_clock m (e ∷ es) o = dropped_clock m es (lines.Drop m e.fid ∷ o)

drops_shown : (s : Script) (who : Actor) (n : ℕ) (past : List Entry) (es : List CacheEntry) (own tail : List Line) → EachLine (IsShown s) who past (onto own (dropped (Client n) es [])) tail → EachLine (IsShown s) who past own (dropped (Client n) es [] ++ tail)
drops_shown s who n past [] own tail h = h
drops_shown s who n past (e ∷ es) own tail h = (tt, drops_shown s who n past es (lines.Drop (Client n) e.fid ∷ own) tail h)

rights_front : (s : Script) (c : Cell) (past : List Entry) (n place : ℕ) (act : Going) (m : Message) (f : Fid) (index release : ℕ) (text : List ℕ) → Based s c past → Trusts s n (c.clients n) c.clock past → (a : IsTaken s c past n place act m) → IsRights f index text past a.0.0.tells.ran.older
    → IsFront s n (c.clients n) c.clock past (λ ls. read_lines (Client n) place (record { fid = f; index = index; source = Fetched; body = seen.AccessList text }) (dropped (Client n) (filter (is_older f index release) (c.clients n).cache) ls)) (lines.Given place ∷ lines.Read (Client n) f index Fetched (seen.AccessList text) ∷ dropped (Client n) (filter (is_older f index release) (c.clients n).cache) []) (filter (λ e. not (is_older f index release e)) (c.clients n).cache)
rights_front s c past n place act m f index release text B T a R =
    let x : ClientState = c.clients n in
    let A : IsAgreed s past = (around s c past n B).agreed in
    let es : List CacheEntry = filter (is_older f index release) x.cache in
    let l : Line = lines.Read (Client n) f index Fetched (seen.AccessList text) in
    let ran = a.0.0.tells.ran in
    let its : is_called (last_key n x) ran.message.head ran.message.carried ≡ true = is_its_call (last_key n x) ran.message.head ran.message.carried a.0.0.tells.user a.0.0.tells.call a.0.0.tells.carries (ran.key ∙ a.0.0.key) in
    let low : Seen n f index past = subst (λ (i : ℕ). Seen n f i past) (index_is (last_version f (lines_of ran.older)) index R.last) ((T.waits act a.0.0.runs).given ran.newer ran.at ran.older ran.split (subst (IsKeyed (last_key n x)) (sym ran.given) its) f) in
    let within : AreWithin (Client n) (ran.newer ++ ran.at ∷ []) = ran_within (Client n) m.head past a.0.0.tells.user a.0.0.tells.call ran a.0.0.tells.carries (subst (λ (k : Key). is_new_to_act (Client n) k past ≡ true) (sym a.0.0.key) (B.truthful.0.0.0.1.late n act a.0.0.runs)) in
    let was : WasLast (Client n) f index (lines_of past) = subst (λ (p : List Entry). WasLast (Client n) f index (lines_of p)) (sym (ran.split ∙ sym (regroup ran.newer ran.at ran.older))) (within_entries (Client n) f index (ran.newer ++ ran.at ∷ []) ran.older within (inl R.last)) in
    record {
      on = λ tail. ap (λ (o : List Line). lines.Given place ∷ l ∷ o) (dropped_more (Client n) es tail);
      blank = dropped_blank (Client n) es [] refl;
      shown = λ tail w. (
        tt,
        (
          record { whole = ((R.is, has_given n f index R.is place past R.told), R.been); not_older = low; was = within_line (Client n) f index (lines.Given place) (lines_of past) refl was; reply = m; by = a.0.1; ran = ran; exact = R.last },
          drops_shown s (actors.Node (Client n)) n past es (l ∷ lines.Given place ∷ []) tail w,
        ),
      );
      up = λ g. ((λ t. subst (λ (k : Fid). index ≤ index_in (last_version k (lines_of past))) (same_fid-true f g (both (same_node (Client n) (Client n)) (same_fid f g) t).1) (A.ascend.top f index R.is R.told)), unread_up (Client n) g (index_in (last_version g (lines_of past))) (dropped (Client n) es []) (dropped_unread (Client n) es [] refl));
      zero' = λ g. made_still (Client n) g past false (highest_reached (Client n) g past) (lines.Given place ∷ l ∷ dropped (Client n) es []) (dropped_blank (Client n) es [] refl) (dropped_begun n es) ∙ (T.waits act a.0.0.runs).made a.1.1 g;
      ticks = dropped_clock (Client n) es (l ∷ lines.Given place ∷ lines_of past) ∙ B.ticks.1;
      each = λ g e found.
          let p = found_filter (λ u. not (is_older f index release u)) g x.cache e (B.kept.1 n).0 found in
          let not_older : is_older f index release e ≡ false = not_true (is_older f index release e) p.1 in
          let none : AreElse g es = else_none g es (found_out (is_older f index release) g x.cache e (B.kept.1 n).0 p.0 not_older) in
          inl (record {
            found = p.0;
            fetched = dropped_fetched n g es [];
            spares = λ o d. dropped_spares e.server n g es [] none (λ q z. z) (l ∷ lines.Given place ∷ o) d;
            low = λ lasts. seen_up (Client n) g past false (highest_reached (Client n) g past) (lines.Given place ∷ l ∷ dropped (Client n) es []) e.index (dropped_blank (Client n) es [] refl) (dropped_zero (Client n) (Client n) es [] tt) ((T.entries g e p.0).low lasts)
                ((λ t. older_low f e index release (fid_of g x.cache e p.0 ∙ sym (same_fid-true f g (both (same_node (Client n) (Client n)) (same_fid f g) t).1)) not_older), unread_up (Client n) g e.index (dropped (Client n) es []) (dropped_unread (Client n) es [] refl));
          });
      done' = λ g server. done_reading n x act g server past a.0.0.runs a.1.1;
    }

pub rights_result : (s : Script) (c : Cell) (past : List Entry) (n place : ℕ) (act : Going) (m : Message) (f : Fid) (index release : ℕ) (text : List ℕ) → Based s c past → Trusts s n (c.clients n) c.clock past → (a : IsTaken s c past n place act m) → IsRights f index text past a.0.0.tells.ran.older
    → Result s n (c.clients n) c.clock past (takes_rights (Client n) (c.clients n) c.clock place act f index release text)
rights_result s c past n place act m f index release text B T a R =
    let x : ClientState = c.clients n in
    walks_result s n x x c.clock past (λ ls. read_lines (Client n) place (record { fid = f; index = index; source = Fetched; body = seen.AccessList text }) (dropped (Client n) (filter (is_older f index release) x.cache) ls)) (lines.Given place ∷ lines.Read (Client n) f index Fetched (seen.AccessList text) ∷ dropped (Client n) (filter (is_older f index release) x.cache) []) (with_read f (seen.AccessList text) act) (filter (λ e. not (is_older f index release e)) x.cache) refl
    (rights_front s c past n place act m f index release text B T a R) T (around s c past n B).agreed (λ g v z. (B.kept.1 n).1 g v z) (inr (act, a.0.0.runs))
