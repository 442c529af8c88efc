-- The walk of an act along its cache, turn by turn.
use Rattle.std.proofs.Common.{◌≡◌, ◌≤◌, ℕ, zero, suc, Bool, true, false, cond, not, List, [], ◌∷◌, ◌++◌, filter, Option, Some, None, refl, ap, sym, subst, ◌∙◌, append_assoc, arith}
use Rattle.std.proofs.lemmas.List.{append-nil}
use Rattle.afs_num.specs.Fids.{same_fid}
use Rattle.afs_num.specs.declared.types.Fid.{Fid}
use Rattle.afs_num.specs.declared.types.Node.{Node}
use Rattle.afs_num.specs.declared.histories.ReadBody.{ReadBody}
use Rattle.afs_num.specs.declared.histories.ReadSource.TheVariants.{Cached}
use Rattle.spec_history.specs.declared.lines.Line.{Line}
use Rattle.spec_ideal.proofs.Basics.{same_fid-true}
use Rattle.spec_rows.specs.States.{CacheEntry}
use Rattle.spec_rows.specs.Going as going
use Rattle.spec_rows.specs.Going.{Going, Need, next, with_read}
use Rattle.spec_rows.specs.ClientRow.{Look, Walked, find_cached, used_first, is_trusted, look_at, looked, not_walked, behind, shown_by, walked_with, walked_at, walked_by, walked}
use Rattle.afs_entries.specs.Cached.{first_by, touched, touched_all}
use Rattle.afs_entries.proofs.Listing.{found_under}
use Rattle.afs_asking.specs.Looking.{read_line, fid_needed, found_with, found_at, found_of, found_by, Notes, Turns, comes_to, IsOnWay, HasWalked}
use Rattle.afs_asking.specs.declared.looks.Walked as program

-- ---- what is used stays found

kept_by : (b : Bool) (f g : Fid) (x : CacheEntry) (rest : List CacheEntry) (o : Option CacheEntry) → same_fid x.fid g ≡ b → same_fid g f ≡ false → find_cached f rest ≡ o → find_cached f (cond (not b) (x ∷ rest) rest) ≡ cond (same_fid x.fid f) (Some x) o
kept_by true f g x rest o t h ih =
    let other : same_fid x.fid f ≡ false = ap (λ (y : Fid). same_fid y f) (same_fid-true x.fid g t) ∙ h in
    rw other ih
kept_by false f g x rest o t h ih = ap (λ (y : Option CacheEntry). cond (same_fid x.fid f) (Some x) y) ih

kept_found : (f g : Fid) (es : List CacheEntry) → same_fid g f ≡ false → find_cached f (filter (λ (e : CacheEntry). not (same_fid e.fid g)) es) ≡ find_cached f es
kept_found f g [] h = refl
kept_found f g (x ∷ es) h = kept_by (same_fid x.fid g) f g x (filter (λ (e : CacheEntry). not (same_fid e.fid g)) es) (find_cached f es) refl h (kept_found f g es h)

first_found_by : (b : Bool) (f g : Fid) (e : CacheEntry) (es : List CacheEntry) → same_fid e.fid f ≡ b → find_cached g es ≡ Some e → cond b (Some e) (find_cached f (filter (λ (x : CacheEntry). not (same_fid x.fid e.fid)) es)) ≡ find_cached f es
first_found_by true f g e es t q =
    let here : g ≡ f = sym (found_under g es e q) ∙ same_fid-true e.fid f t in
    sym q ∙ ap (λ (y : Fid). find_cached y es) here
first_found_by false f g e es t q = kept_found f e.fid es t

first_found : (f g : Fid) (es : List CacheEntry) (o : Option CacheEntry) → find_cached g es ≡ o → find_cached f (first_by es o) ≡ find_cached f es
first_found f g es None q = refl
first_found f g es (Some e) q = first_found_by (same_fid e.fid f) f g e es refl q

touched_found : (f g : Fid) (es : List CacheEntry) → find_cached f (touched g es) ≡ find_cached f es
touched_found f g es = first_found f g es (find_cached g es) refl

pub all_found : (f : Fid) (gs : List Fid) (es : List CacheEntry) → find_cached f (touched_all gs es) ≡ find_cached f es
all_found f [] es = refl
all_found f (g ∷ gs) es = all_found f gs (touched g es) ∙ touched_found f g es

pub touched_last : (gs : List Fid) (f : Fid) (es : List CacheEntry) → touched_all (gs ++ f ∷ []) es ≡ touched f (touched_all gs es)
touched_last [] f es = refl
touched_last (g ∷ gs) f es = touched_last gs f (touched g es)

found_of_after : (clock : ℕ) (gs : List Fid) (es : List CacheEntry) (need : Need) (o : Option Fid) → found_of clock (touched_all gs es) need o ≡ found_of clock es need o
found_of_after clock gs es need None = refl
found_of_after clock gs es need (Some f) = ap (found_at clock need) (all_found f gs es)

pub found_after : (clock : ℕ) (gs : List Fid) (es : List CacheEntry) (need : Need) → found_by clock (touched_all gs es) need ≡ found_by clock es need
found_after clock gs es need = found_of_after clock gs es need (fid_needed need)

-- ---- one turn

abbrev turned : (Going → List CacheEntry → Walked) → Going → List CacheEntry → Option Look → Walked
turned more act cache None = not_walked act cache
turned more act cache (Some l) = behind l (more (with_read l.fid l.body act) (touched l.fid cache))

with_is : (more : Going → List CacheEntry → Walked) (act : Going) (cache : List CacheEntry) (e : CacheEntry) (o : Option ReadBody) → touched e.fid cache ≡ used_first e cache → walked_with more act cache e o ≡ turned more act cache (found_with e o)
with_is more act cache e None h = refl
with_is more act cache e (Some body) h = ap (λ (es : List CacheEntry). behind (look_at Cached e body) (more (with_read e.fid body act) es)) (sym h)

trusted_is : (b : Bool) (more : Going → List CacheEntry → Walked) (act : Going) (cache : List CacheEntry) (need : Need) (e : CacheEntry) → touched e.fid cache ≡ used_first e cache
    → cond b (walked_with more act cache e (shown_by need e)) (not_walked act cache) ≡ turned more act cache (cond b (found_with e (shown_by need e)) None)
trusted_is true more act cache need e h = with_is more act cache e (shown_by need e) h
trusted_is false more act cache need e h = refl

at_is : (more : Going → List CacheEntry → Walked) (clock : ℕ) (act : Going) (cache : List CacheEntry) (need : Need) (f : Fid) (o : Option CacheEntry) → find_cached f cache ≡ o → walked_at more clock act cache need o ≡ turned more act cache (found_at clock need o)
at_is more clock act cache need f None q = refl
at_is more clock act cache need f (Some e) q =
    let here : find_cached e.fid cache ≡ Some e = ap (λ (y : Fid). find_cached y cache) (found_under f cache e q) ∙ q in
    trusted_is (is_trusted clock e) more act cache need e (ap (first_by cache) here)

turn_is : (more : Going → List CacheEntry → Walked) (clock : ℕ) (act : Going) (cache : List CacheEntry) (need : Need) → walked_by more clock act cache need ≡ turned more act cache (found_by clock cache need)
turn_is more clock act cache (going.reads f) = at_is more clock act cache (going.reads f) f (find_cached f cache) refl
turn_is more clock act cache (going.reads_status f) = at_is more clock act cache (going.reads_status f) f (find_cached f cache) refl
turn_is more clock act cache (going.reads_statuses fs) = refl
turn_is more clock act cache (going.reads_rights f) = refl
turn_is more clock act cache (going.asks_for c) = refl
turn_is more clock act cache going.gives_back = refl
turn_is more clock act cache (going.locates o) = refl
turn_is more clock act cache (going.answers n) = refl

comes : (left clock : ℕ) (cache : List CacheEntry) (w : program.Walked) (o : Option Look) → found_by clock cache (next w.going) ≡ o → comes_to (suc left) clock cache w ≡ turned (walked left clock) w.going (touched_all w.used.items cache) o
comes left clock cache w o q =
    turn_is (walked left clock) clock w.going (touched_all w.used.items cache) (next w.going)
    ∙ ap (turned (walked left clock) w.going (touched_all w.used.items cache)) (found_after clock w.used.items cache (next w.going) ∙ q)

-- where nothing is found, the walk is made
ends_by : (left clock : ℕ) (cache : List CacheEntry) (w : program.Walked) → found_by clock cache (next w.going) ≡ None → comes_to left clock cache w ≡ not_walked w.going (touched_all w.used.items cache)
ends_by zero clock cache w q = refl
ends_by (suc left) clock cache w q = comes left clock cache w None q

walked_on : (me : Node) (clock : ℕ) (cache : List CacheEntry) (whole : Walked) (told : List Line) (left : ℕ) (w : program.Walked) (ls : List Line)
    → comes_to left clock cache w ≡ not_walked w.going (touched_all w.used.items cache) → IsOnWay me clock cache whole told left w ls → HasWalked me cache whole told w ls
walked_on me clock cache whole told left w ls e h = record {
  short = h.short;
  need = h.need;
  act = sym (ap (λ (x : Walked). x.act) e) ∙ h.act;
  cache = sym (ap (λ (x : Walked). x.cache) e) ∙ h.cache;
  told = sym (append-nil ls) ∙ (sym (ap (λ (x : Walked). ls ++ looked me x.looks []) e) ∙ h.told);
}

-- all reads were made
pub all_read : (me : Node) (clock : ℕ) (cache : List CacheEntry) (whole : Walked) (told : List Line) (left : ℕ) (w : program.Walked) (ls : List Line) → left ≤ 0 → IsOnWay me clock cache whole told left w ls → HasWalked me cache whole told w ls
all_read me clock cache whole told zero w ls le h = walked_on me clock cache whole told zero w ls refl h
all_read me clock cache whole told (suc left) w ls le h = absurd (omega (arith, le))

stopped_at : (me : Node) (clock : ℕ) (cache : List CacheEntry) (whole : Walked) (told : List Line) (left : ℕ) (read : Bool) (w new : program.Walked) (ls new_ls : List Line) (o : Option Look)
    → found_by clock cache (next w.going) ≡ o → Turns me o read w new ls new_ls → read ≡ false → IsOnWay me clock cache whole told left w ls → HasWalked me cache whole told new new_ls
stopped_at me clock cache whole told left read w new ls new_ls None q t f h =
    subst (λ (x : program.Walked). HasWalked me cache whole told x new_ls) (sym t.1)
    (subst (λ (x : List Line). HasWalked me cache whole told w x) (sym t.2) (walked_on me clock cache whole told left w ls (ends_by left clock cache w q) h))
stopped_at me clock cache whole told left read w new ls new_ls (Some l) q t f h = absurd cc

-- the cache shows nothing of what is needed
pub stopped : (me : Node) (clock : ℕ) (cache : List CacheEntry) (whole : Walked) (told : List Line) (left : ℕ) (read : Bool) (w new : program.Walked) (ls new_ls : List Line)
    → Turns me (found_by clock cache (next w.going)) read w new ls new_ls → read ≡ false → IsOnWay me clock cache whole told left w ls → HasWalked me cache whole told new new_ls
stopped me clock cache whole told left read w new ls new_ls t f h = stopped_at me clock cache whole told left read w new ls new_ls (found_by clock cache (next w.going)) refl t f h

noted : (left clock : ℕ) (cache : List CacheEntry) (me : Node) (l : Look) (w new : program.Walked) (ls new_ls : List Line) → Notes me l w new ls new_ls → walked left clock (with_read l.fid l.body w.going) (touched l.fid (touched_all w.used.items cache)) ≡ comes_to left clock cache new
noted left clock cache me l w new ls new_ls n =
    ap (λ (es : List CacheEntry). walked left clock (with_read l.fid l.body w.going) es) (sym (ap (λ (gs : List Fid). touched_all gs cache) n.used ∙ touched_last w.used.items l.fid cache))
    ∙ ap (λ (g : Going). walked left clock g (touched_all new.used.items cache)) (sym n.act)

gone_on : (me : Node) (clock : ℕ) (cache : List CacheEntry) (whole : Walked) (told : List Line) (left : ℕ) (l : Look) (w new : program.Walked) (ls new_ls : List Line)
    → comes_to (suc left) clock cache w ≡ behind l (comes_to left clock cache new) → Notes me l w new ls new_ls → IsOnWay me clock cache whole told (suc left) w ls → IsOnWay me clock cache whole told left new new_ls
gone_on me clock cache whole told left l w new ls new_ls e n h = record {
  short = rw n.act h.short;
  need = n.need;
  act = sym (ap (λ (x : Walked). x.act) e) ∙ h.act;
  cache = sym (ap (λ (x : Walked). x.cache) e) ∙ h.cache;
  told =
      ap (λ (x : List Line). x ++ looked me (comes_to left clock cache new).looks []) n.told
      ∙ (append_assoc ls (read_line me l ∷ []) (looked me (comes_to left clock cache new).looks [])
      ∙ (sym (ap (λ (x : Walked). ls ++ looked me x.looks []) e) ∙ h.told));
}

turned_at : (me : Node) (clock : ℕ) (cache : List CacheEntry) (whole : Walked) (told : List Line) (left : ℕ) (read : Bool) (w new : program.Walked) (ls new_ls : List Line) (o : Option Look)
    → found_by clock cache (next w.going) ≡ o → Turns me o read w new ls new_ls → read ≡ true → IsOnWay me clock cache whole told (suc left) w ls → IsOnWay me clock cache whole told left new new_ls
turned_at me clock cache whole told left read w new ls new_ls None q t f h = absurd cc
turned_at me clock cache whole told left read w new ls new_ls (Some l) q t f h =
    gone_on me clock cache whole told left l w new ls new_ls (comes left clock cache w (Some l) q ∙ ap (behind l) (noted left clock cache me l w new ls new_ls t.1)) t.1 h

-- one read was made
pub turns_on : (me : Node) (clock : ℕ) (cache : List CacheEntry) (whole : Walked) (told : List Line) (left : ℕ) (read : Bool) (w new : program.Walked) (ls new_ls : List Line)
    → Turns me (found_by clock cache (next w.going)) read w new ls new_ls → read ≡ true → IsOnWay me clock cache whole told (suc left) w ls → IsOnWay me clock cache whole told left new new_ls
turns_on me clock cache whole told left read w new ls new_ls t f h = turned_at me clock cache whole told left read w new ls new_ls (found_by clock cache (next w.going)) refl t f h

-- ---- what is looked up

pub found_is : (clock : ℕ) (cache : List CacheEntry) (need : Need) (f : Fid) (e : CacheEntry) (o : Option Look) → Some f ≡ fid_needed need → Some e ≡ find_cached f cache → found_at clock need (Some e) ≡ o → o ≡ found_by clock cache need
found_is clock cache need f e o p q r = sym r ∙ (ap (found_at clock need) q ∙ ap (found_of clock cache need) p)

pub untrusted_found : (clock : ℕ) (need : Need) (e : CacheEntry) → is_trusted clock e ≡ false → found_at clock need (Some e) ≡ None
untrusted_found clock need e h = ap (λ (b : Bool). cond b (found_with e (shown_by need e)) None) h

pub trusted_found : (clock : ℕ) (need : Need) (e : CacheEntry) (body : ReadBody) → is_trusted clock e ≡ true → shown_by need e ≡ Some body → found_at clock need (Some e) ≡ Some (look_at Cached e body)
trusted_found clock need e body h q = ap (λ (b : Bool). cond b (found_with e (shown_by need e)) None) h ∙ ap (found_with e) q
