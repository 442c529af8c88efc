-- Entries are given up behind what was told, and then a step is made.
use Rattle.std.proofs.Common.{◌≡◌, ℕ, true, false, List, [], ◌∷◌, ◌++◌, map, filter, None, Result, Ok, Err, pos, refl, ap, sym, subst, ◌∙◌, append_assoc}
use Rattle.afs_num.specs.declared.types.Code.{Code}
use Rattle.afs_num.specs.declared.types.Fid.{Fid}
use Rattle.afs_num.specs.declared.types.Node.{Node}
use Rattle.spec_history.specs.declared.acts.Act.{Act}
use Rattle.spec_history.specs.declared.lines.Line.{Line}
use Rattle.spec_history.specs.declared.lines.Line.TheVariants as lines
use Rattle.spec_history.specs.declared.lines.Outs.{Outs}
use Rattle.spec_model.specs.Steps.{NodeState}
use Rattle.spec_rows.specs.States.{CacheEntry, Gift}
use Rattle.spec_rows.specs.Going as going
use Rattle.spec_rows.specs.Going.{ClientState, Going, Need, Seek, began, next}
use Rattle.spec_rows.specs.ClientRow.{Walked, begin_row, begins_by, calls_step, drop_line, dropped, ends_step, gift_of, gives_all, gives_by, goes_by, goes_on, in_order, looked, seeks_step, not_walked, trusted_in, untrusted_in, walks_on}
use Rattle.spec_rows.specs.Steps.{Step}
use Rattle.afs_entries.specs.Cached.{Kept, drops_of, left, unlisted}
use Rattle.afs_entries.specs.declared.drops.Drops.{Drops}
use Rattle.afs_entries.specs.declared.drops.Drops.TheVariants as drops
use Rattle.afs_asking.specs.Asking.{is_giving}
use Rattle.afs_cache.specs.Managing.{Answers, Goes, Makes, sent_to_site}
use Rattle.afs_cache.specs.Acting.{but_for, followed, IsDropping, outs_of, PlansFor, but_for_these}
use Rattle.afs_cache.specs.declared.acting.Dropping.{Dropping}
use Rattle.afs_cache.specs.declared.acting.Plan.{Plan}
use Rattle.afs_cache.proofs.Answering.{goes_answered}
use Rattle.afs_cache.proofs.Planning.{done_as, dropped_front, goes_in}
use Rattle.spec_copyrows.specs.Sites.{with_client, CopyState}

-- ---- steps behind lines that are the same

ends_front : (me : Node) (c : ClientState) (cache : List CacheEntry) (code : Code) (f g : List Line → List Line) → ((ls : List Line) → f ls ≡ g ls) → ends_step me c cache f code ≡ ends_step me c cache g code
ends_front me c cache code f g h = ap (λ (ls : List Line). ends_step me c cache (λ (xs : List Line). ls) code) (h (lines.Answer me code ∷ []))

calls_front : (me : Node) (c : ClientState) (act : Going) (f g : List Line → List Line) → ((ls : List Line) → f ls ≡ g ls) → calls_step me c act f ≡ calls_step me c act g
calls_front me c act f g h = ap (λ (ls : List Line). calls_step me c act (λ (xs : List Line). ls)) (h [])

seeks_front : (me : Node) (c : ClientState) (k : Seek) (cache : List CacheEntry) (f g : List Line → List Line) → ((ls : List Line) → f ls ≡ g ls) → seeks_step me c k cache f ≡ seeks_step me c k cache g
seeks_front me c k cache f g h = ap (λ (ls : List Line). seeks_step me c k cache (λ (xs : List Line). ls)) (h [])

gives_front : (me : Node) (c : ClientState) (act : Going) (gifts : List Gift) (f g : List Line → List Line) → ((ls : List Line) → f ls ≡ g ls) → gives_by me c f act gifts ≡ gives_by me c g act gifts
gives_front me c act [] f g h = ends_front me c c.cache (record { 0 = pos 0 }) f g h
gives_front me c act (x ∷ xs) f g h = calls_front me (record c { gifts = x ∷ xs }) act f g h

goes_front_by : (me : Node) (c : ClientState) (f g : List Line → List Line) (w : Walked) (need : Need) → ((ls : List Line) → f ls ≡ g ls) → goes_by me c f w need ≡ goes_by me c g w need
goes_front_by me c f g w (going.reads fid) h = calls_front me (record c { cache = w.cache }) w.act (λ (ls : List Line). f (looked me w.looks ls)) (λ (ls : List Line). g (looked me w.looks ls)) (λ ls. h (looked me w.looks ls))
goes_front_by me c f g w (going.reads_status fid) h = calls_front me (record c { cache = w.cache }) w.act (λ (ls : List Line). f (looked me w.looks ls)) (λ (ls : List Line). g (looked me w.looks ls)) (λ ls. h (looked me w.looks ls))
goes_front_by me c f g w (going.reads_statuses fids) h = calls_front me (record c { cache = w.cache }) w.act (λ (ls : List Line). f (looked me w.looks ls)) (λ (ls : List Line). g (looked me w.looks ls)) (λ ls. h (looked me w.looks ls))
goes_front_by me c f g w (going.reads_rights fid) h = calls_front me (record c { cache = w.cache }) w.act (λ (ls : List Line). f (looked me w.looks ls)) (λ (ls : List Line). g (looked me w.looks ls)) (λ ls. h (looked me w.looks ls))
goes_front_by me c f g w (going.asks_for call) h = calls_front me (record c { cache = w.cache }) w.act (λ (ls : List Line). f (looked me w.looks ls)) (λ (ls : List Line). g (looked me w.looks ls)) (λ ls. h (looked me w.looks ls))
goes_front_by me c f g w going.gives_back h = calls_front me (record c { cache = w.cache }) w.act (λ (ls : List Line). f (looked me w.looks ls)) (λ (ls : List Line). g (looked me w.looks ls)) (λ ls. h (looked me w.looks ls))
goes_front_by me c f g w (going.locates o) h = seeks_front me c (record { act = w.act; operand = o; left = None }) w.cache (λ (ls : List Line). f (looked me w.looks ls)) (λ (ls : List Line). g (looked me w.looks ls)) (λ ls. h (looked me w.looks ls))
goes_front_by me c f g w (going.answers n) h = ends_front me c w.cache (record { 0 = pos n }) (λ (ls : List Line). f (looked me w.looks ls)) (λ (ls : List Line). g (looked me w.looks ls)) (λ ls. h (looked me w.looks ls))

pub goes_front : (me : Node) (c : ClientState) (f g : List Line → List Line) (w : Walked) → ((ls : List Line) → f ls ≡ g ls) → goes_on me c f w ≡ goes_on me c g w
goes_front me c f g w h = goes_front_by me c f g w (next w.act) h

-- ---- lines of entries that go

dropped_told : (me : Node) (cache : List CacheEntry) (d : Drops) (told first ls : List Line) (x : Dropping) → IsDropping me cache d told x → first ++ (x.lines ++ ls) ≡ first ++ (told ++ dropped me (filter (drops_of d) cache) ls)
dropped_told me cache d told first ls x h =
    ap (λ (xs : List Line). first ++ (xs ++ ls)) h.lines
    ∙ (ap (λ (xs : List Line). first ++ xs) (append_assoc told (map (drop_line me) x.fids.items) ls)
    ∙ ap (λ (xs : List Line). first ++ (told ++ xs)) (ap (λ (fs : List Fid). map (drop_line me) fs ++ ls) h.fids ∙ sym (dropped_front me (filter (drops_of d) cache) ls)))

-- ---- a plan behind them was followed

pub plan_moves : (step : ClientState → (List Line → List Line) → Step ClientState) (other : (List Line → List Line) → Step ClientState) (told more : List Line) (plan : Plan) (old new : NodeState CopyState) (outs : Outs) (cache : List CacheEntry) (busy moved : ℕ)
    → PlansFor step more old plan → new.node ≡ old.node → new.state ≡ followed (but_for_these old.state cache busy moved) plan → outs ≡ outs_of plan → ((first : List Line) → step (but_for old.state.client cache busy moved) (λ ls. first ++ (more ++ ls)) ≡ other (λ ls. first ++ (told ++ ls)))
    → (new.node ≡ old.node) × ((first : List Line) → Makes (sent_to_site old.node old.state (other (λ ls. first ++ (told ++ ls)))) new.state (λ ls. first ++ ls) outs)
plan_moves step other told more plan old new outs cache busy moved p n s o same = (
  n,
  λ first. subst (λ (x : Step ClientState). Makes (sent_to_site old.node old.state x) new.state (λ ls. first ++ ls) outs) (same first)
      (done_as (sent_to_site old.node old.state (step (but_for old.state.client cache busy moved) (λ ls. first ++ (more ++ ls)))) (but_for_these old.state cache busy moved) (but_for_these old.state cache busy moved) plan new.state outs (λ ls. first ++ ls) (p cache busy moved first) s refl o),
)

-- ---- the steps

-- the act is answered
pub ends_dropped : (me : Node) (c : ClientState) (d : Drops) (told first : List Line) (x : Dropping) (code : Code) → IsDropping me c.cache d told x
    → ends_step me (but_for c (unlisted x.fids.items c.cache) c.busy c.moved) (unlisted x.fids.items c.cache) (λ ls. first ++ (x.lines ++ ls)) code ≡ ends_step me c (left d c.cache) (λ ls. first ++ (told ++ dropped me (filter (drops_of d) c.cache) ls)) code
ends_dropped me c d told first x code h =
    ap (λ (es : List CacheEntry). ends_step me c es (λ ls. first ++ (x.lines ++ ls)) code) h.rest
    ∙ ends_front me c (left d c.cache) code (λ ls. first ++ (x.lines ++ ls)) (λ ls. first ++ (told ++ dropped me (filter (drops_of d) c.cache) ls)) (λ ls. dropped_told me c.cache d told first ls x h)

-- the act goes on
pub goes_dropped : (me : Node) (c : ClientState) (d : Drops) (told first : List Line) (x : Dropping) (act : Going) → IsDropping me c.cache d told x
    → goes_on me (but_for c (unlisted x.fids.items c.cache) c.busy c.moved) (λ ls. first ++ (x.lines ++ ls)) (not_walked act (unlisted x.fids.items c.cache)) ≡ goes_on me c (λ ls. first ++ (told ++ dropped me (filter (drops_of d) c.cache) ls)) (not_walked act (left d c.cache))
goes_dropped me c d told first x act h =
    goes_in me c (unlisted x.fids.items c.cache) c.busy c.moved (λ ls. first ++ (x.lines ++ ls)) (not_walked act (unlisted x.fids.items c.cache))
    ∙ (ap (λ (es : List CacheEntry). goes_on me c (λ ls. first ++ (x.lines ++ ls)) (not_walked act es)) h.rest
    ∙ goes_front me c (λ ls. first ++ (x.lines ++ ls)) (λ ls. first ++ (told ++ dropped me (filter (drops_of d) c.cache) ls)) (not_walked act (left d c.cache)) (λ ls. dropped_told me c.cache d told first ls x h))

-- the promises are given back
pub gives_dropped : (me : Node) (c : ClientState) (clock : ℕ) (told first : List Line) (x : Dropping) (gifts : List Gift) (act : Going) → IsDropping me c.cache (drops.Trusted clock) told x → gifts ≡ in_order (map gift_of (trusted_in clock c.cache))
    → gives_by me (but_for c (unlisted x.fids.items c.cache) 0 0) (λ ls. first ++ (x.lines ++ ls)) act gifts ≡ gives_all me (record c { busy = 0; moved = 0 }) clock act (λ ls. first ++ (told ++ ls))
gives_dropped me c clock told first x gifts act h q =
    ap (λ (es : List CacheEntry). gives_by me (but_for c es 0 0) (λ ls. first ++ (x.lines ++ ls)) act gifts) h.rest
    ∙ (ap (gives_by me (but_for c (untrusted_in clock c.cache) 0 0) (λ ls. first ++ (x.lines ++ ls)) act) q
    ∙ gives_front me (but_for c (untrusted_in clock c.cache) 0 0) act (in_order (map gift_of (trusted_in clock c.cache))) (λ ls. first ++ (x.lines ++ ls)) (λ ls. first ++ (told ++ dropped me (trusted_in clock c.cache) ls)) (λ ls. dropped_told me c.cache (drops.Trusted clock) told first ls x h))

-- ---- the cache was changed, and nothing else

pub changed_view : (change : List CacheEntry → List CacheEntry) (seen old : NodeState CopyState) (k : Kept) → seen ≡ old → k ≡ record { entries = change seen.state.client.cache; capacity = seen.state.client.capacity }
    → with_client seen.state (record seen.state.client { cache = k.entries; capacity = k.capacity }) ≡ but_for_these old.state (change old.state.client.cache) old.state.client.busy old.state.client.moved
changed_view change seen old k v q =
    ap (λ (x : Kept). with_client seen.state (record seen.state.client { cache = x.entries; capacity = x.capacity })) q
    ∙ ap (λ (s : NodeState CopyState). but_for_these s.state (change s.state.client.cache) s.state.client.busy s.state.client.moved) v

-- the same, and the act waited so often
pub changed_busy : (change : List CacheEntry → List CacheEntry) (seen old : NodeState CopyState) (k : Kept) (busy moved : ℕ) → seen ≡ old → k ≡ record { entries = change seen.state.client.cache; capacity = seen.state.client.capacity }
    → with_client seen.state (record seen.state.client { cache = k.entries; capacity = k.capacity; busy = busy; moved = moved }) ≡ but_for_these old.state (change old.state.client.cache) busy moved
changed_busy change seen old k busy moved v q =
    ap (λ (x : Kept). with_client seen.state (record seen.state.client { cache = x.entries; capacity = x.capacity; busy = busy; moved = moved })) q
    ∙ ap (λ (s : NodeState CopyState). but_for_these s.state (change s.state.client.cache) busy moved) v

-- ---- an act begins

begins_giving : (me : Node) (c : ClientState) (clock : ℕ) (front : List Line → List Line) (act : Going) (need : Need) → is_giving need ≡ true → gives_all me c clock act front ≡ begins_by me c clock front act need
begins_giving me c clock front act (going.reads f) e = absurd cc
begins_giving me c clock front act (going.reads_status f) e = absurd cc
begins_giving me c clock front act (going.reads_statuses fs) e = absurd cc
begins_giving me c clock front act (going.reads_rights f) e = absurd cc
begins_giving me c clock front act (going.asks_for call) e = absurd cc
begins_giving me c clock front act going.gives_back e = refl
begins_giving me c clock front act (going.locates o) e = absurd cc
begins_giving me c clock front act (going.answers n) e = absurd cc

begins_walking : (me : Node) (c : ClientState) (clock : ℕ) (front : List Line → List Line) (act : Going) (need : Need) → is_giving need ≡ false → walks_on me c clock front act c.cache ≡ begins_by me c clock front act need
begins_walking me c clock front act (going.reads f) e = refl
begins_walking me c clock front act (going.reads_status f) e = refl
begins_walking me c clock front act (going.reads_statuses fs) e = refl
begins_walking me c clock front act (going.reads_rights f) e = refl
begins_walking me c clock front act (going.asks_for call) e = refl
begins_walking me c clock front act going.gives_back e = absurd cc
begins_walking me c clock front act (going.locates o) e = refl
begins_walking me c clock front act (going.answers n) e = refl

pub goes_same : {E : Type 0} (step other : (List Line → List Line) → Step ClientState) (told : List Line) (old new : NodeState CopyState) (r : Result Outs E) → ((front : List Line → List Line) → step front ≡ other front) → Goes step told old new r → Goes other told old new r
goes_same step other told old new (Ok outs) same h = (h.0, λ first. subst (λ (s : Step ClientState). Makes (sent_to_site old.node old.state s) new.state (λ ls. first ++ ls) outs) (same (λ ls. first ++ (told ++ ls))) (h.1 first))
goes_same step other told old new (Err e) same h = h

pub begun_giving : {E : Type 0} (me : Node) (c : ClientState) (clock : ℕ) (act : Going) (told : List Line) (old new : NodeState CopyState) (r : Result Outs E) → is_giving (next act) ≡ true → Goes (λ front. gives_all me (record c { busy = 0; moved = 0 }) clock act front) told old new r
    → Goes (λ front. begins_by me (record c { busy = 0; moved = 0 }) clock front act (next act)) told old new r
begun_giving me c clock act told old new r e h =
    goes_same (λ front. gives_all me (record c { busy = 0; moved = 0 }) clock act front) (λ front. begins_by me (record c { busy = 0; moved = 0 }) clock front act (next act)) told old new r (λ front. begins_giving me (record c { busy = 0; moved = 0 }) clock front act (next act) e) h

pub begun_walking : {E : Type 0} (me : Node) (c : ClientState) (clock : ℕ) (act : Going) (told : List Line) (old new : NodeState CopyState) (r : Result Outs E) → is_giving (next act) ≡ false → Goes (λ front. walks_on me (record c { busy = 0; moved = 0 }) clock front act c.cache) told old new r
    → Goes (λ front. begins_by me (record c { busy = 0; moved = 0 }) clock front act (next act)) told old new r
begun_walking me c clock act told old new r e h =
    goes_same (λ front. walks_on me (record c { busy = 0; moved = 0 }) clock front act c.cache) (λ front. begins_by me (record c { busy = 0; moved = 0 }) clock front act (next act)) told old new r (λ front. begins_walking me (record c { busy = 0; moved = 0 }) clock front act (next act) e) h

pub begun : {E : Type 0} (me : Node) (c : ClientState) (clock : ℕ) (act : Act) (g : Going) (told : List Line) (old new : NodeState CopyState) (r : Result Outs E) → g ≡ began c.table act → told ≡ lines.Begin me act ∷ []
    → Goes (λ front. begins_by me (record c { busy = 0; moved = 0 }) clock front g (next g)) told old new r → Answers (begin_row me c clock act) old new r
unfolding begin_row
begun me c clock act g told old new r e t h =
    goes_answered (λ front. begins_by me (record c { busy = 0; moved = 0 }) clock front g (next g)) (begin_row me c clock act) told old new r
    (ap (λ (xs : List Line). begins_by me (record c { busy = 0; moved = 0 }) clock (λ ls. xs ++ ls) g (next g)) t
    ∙ ap (λ (x : Going). begins_by me (record c { busy = 0; moved = 0 }) clock (λ ls. lines.Begin me act ∷ ls) x (next x)) e) h
