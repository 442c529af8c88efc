-- What replies tell, item by item.
use Rattle.std.proofs.Common.{◌++◌, drop, length, map, not, slice_index_or, ◌≡◌, ◌<◌, ◌+◌, ◌||◌, ℕ, Bool, true, false, List, [], ◌∷◌, Option, Some, None, refl, ap, sym, subst, ◌∙◌}
use Rattle.std.specs.Prelude.{nat_eq, if◌then◌else◌}
use Rattle.std.specs.List.{list_any}
use Rattle.std.proofs.lemmas.List.{append-nil, drop_more}
use Rattle.afs_entries.specs.Cached.{entry_of}
use Rattle.afs_entries.specs.declared.cache.Fresh.{Fresh}
use Rattle.afs_num.specs.declared.types.Fid.{Fid}
use Rattle.afs_num.specs.declared.types.Node.{Node}
use Rattle.afs_num.specs.declared.calls.AfsCallBack.{AfsCallBack}
use Rattle.afs_num.specs.declared.calls.AfsFetchStatus.{AfsFetchStatus}
use Rattle.afs_num.specs.declared.calls.AfsVolSync.{AfsVolSync}
use Rattle.spec_rows.specs.States.{CacheEntry}
use Rattle.spec_rows.specs.ClientRow.{entries_told, cache_entry_told, stands_below, is_trusted}
use Rattle.afs_asking.specs.Telling.{Told, first_told}

abbrev told_on : Node → AfsVolSync → Option Told → List CacheEntry
told_on server sync None = []
told_on server sync (Some t) = cache_entry_told server t.fid t.status t.callback sync None ∷ entries_told server sync t.fids t.statuses t.callbacks

told_is : (server : Node) (sync : AfsVolSync) (fids : List Fid) (statuses : List AfsFetchStatus) (callbacks : List AfsCallBack) → entries_told server sync fids statuses callbacks ≡ told_on server sync (first_told fids statuses callbacks)
told_is server sync [] ss cs = refl
told_is server sync (f ∷ fs) [] cs = refl
told_is server sync (f ∷ fs) (s ∷ ss) [] = refl
told_is server sync (f ∷ fs) (s ∷ ss) (c ∷ cs) = refl

pub told_none : (server : Node) (sync : AfsVolSync) (fids : List Fid) (statuses : List AfsFetchStatus) (callbacks : List AfsCallBack) → first_told fids statuses callbacks ≡ None → entries_told server sync fids statuses callbacks ≡ []
told_none server sync fids statuses callbacks e = told_is server sync fids statuses callbacks ∙ ap (told_on server sync) e

pub told_some : (server : Node) (sync : AfsVolSync) (fids : List Fid) (statuses : List AfsFetchStatus) (callbacks : List AfsCallBack) (t : Told) → first_told fids statuses callbacks ≡ Some t
    → entries_told server sync fids statuses callbacks ≡ cache_entry_told server t.fid t.status t.callback sync None ∷ entries_told server sync t.fids t.statuses t.callbacks
told_some server sync fids statuses callbacks t e = told_is server sync fids statuses callbacks ∙ ap (told_on server sync) e

-- ---- one after the other

pushed : (all : List Fresh) (f : Fresh) (rest : List CacheEntry) → map entry_of (all ++ f ∷ []) ++ rest ≡ map entry_of all ++ (entry_of f ∷ rest)
pushed [] f rest = refl
pushed (a ∷ all) f rest = ap (λ (es : List CacheEntry). entry_of a ∷ es) (pushed all f rest)

pub told_more : (server : Node) (sync : AfsVolSync) (fids : List Fid) (statuses : List AfsFetchStatus) (callbacks : List AfsCallBack) (t : Told) (all now : List Fresh) (f : Fresh) (whole : List CacheEntry) → Some t ≡ first_told fids statuses callbacks → now ≡ all ++ f ∷ []
    → entry_of f ≡ cache_entry_told server t.fid t.status t.callback sync None → map entry_of all ++ entries_told server sync fids statuses callbacks ≡ whole → map entry_of now ++ entries_told server sync t.fids t.statuses t.callbacks ≡ whole
told_more server sync fids statuses callbacks t all now f whole e p q w =
    ap (λ (fs : List Fresh). map entry_of fs ++ entries_told server sync t.fids t.statuses t.callbacks) p
    ∙ (pushed all f (entries_told server sync t.fids t.statuses t.callbacks)
    ∙ (ap (λ (x : CacheEntry). map entry_of all ++ (x ∷ entries_told server sync t.fids t.statuses t.callbacks)) q
    ∙ (ap (λ (es : List CacheEntry). map entry_of all ++ es) (sym (told_some server sync fids statuses callbacks t (sym e))) ∙ w)))

pub told_all : (server : Node) (sync : AfsVolSync) (fids : List Fid) (statuses : List AfsFetchStatus) (callbacks : List AfsCallBack) (all : List Fresh) (whole : List CacheEntry) → None ≡ first_told fids statuses callbacks → map entry_of all ++ entries_told server sync fids statuses callbacks ≡ whole
    → map entry_of all ≡ whole
told_all server sync fids statuses callbacks all whole e w =
    sym (append-nil (map entry_of all)) ∙ (ap (λ (es : List CacheEntry). map entry_of all ++ es) (sym (told_none server sync fids statuses callbacks (sym e))) ∙ w)

-- ---- one that can't be used any more

item_next : (xs : List Fresh) (i : ℕ) (x : Fresh) → i < length xs → x ≡ slice_index_or xs i x → drop i xs ≡ x ∷ drop (i + 1) xs
item_next xs i x lt is = drop_more xs i x lt ∙ ap (λ (y : Fresh). y ∷ drop (i + 1) xs) (sym is)

abbrev spent_in : ℕ → List Fresh → Bool
spent_in now all = list_any (λ (e : CacheEntry). not (is_trusted now e)) (map entry_of all)

pub one_spent : (now : ℕ) (all : List Fresh) (i : ℕ) (f : Fresh) (b : Bool) → i < length all → f ≡ slice_index_or all i f → b ≡ is_trusted now (entry_of f) → b ≡ false → spent_in now (drop i all) ≡ spent_in now all → true ≡ spent_in now all
one_spent now all i f b lt is q n inv =
    sym (ap (λ (t : Bool). not t || spent_in now (drop (i + 1) all)) (sym q ∙ n)) ∙ (ap (spent_in now) (sym (item_next all i f lt is)) ∙ inv)

pub none_spent : (now : ℕ) (all : List Fresh) (i : ℕ) (f : Fresh) (b : Bool) → i < length all → f ≡ slice_index_or all i f → b ≡ is_trusted now (entry_of f) → b ≡ true → spent_in now (drop i all) ≡ spent_in now all → spent_in now (drop (i + 1) all) ≡ spent_in now all
none_spent now all i f b lt is q n inv =
    sym (ap (λ (t : Bool). not t || spent_in now (drop (i + 1) all)) (sym q ∙ n)) ∙ (ap (spent_in now) (sym (item_next all i f lt is)) ∙ inv)

-- ---- an entry just below an index

abbrev below_when : ℕ → CacheEntry → Bool → Bool
below_when index e t = if t then nat_eq (e.index + 1) index else true

pub untrusted_below : (clock index : ℕ) (o : Option CacheEntry) (e : CacheEntry) (b : Bool) → o ≡ Some e → b ≡ is_trusted clock e → b ≡ false → not b ≡ stands_below clock index o
untrusted_below clock index o e b p q n = ap not n ∙ (ap (below_when index e) (sym n ∙ q) ∙ ap (stands_below clock index) (sym p))

pub trusted_below : (clock index : ℕ) (o : Option CacheEntry) (e : CacheEntry) (b s : Bool) → o ≡ Some e → b ≡ is_trusted clock e → b ≡ true → s ≡ nat_eq (e.index + 1) index → s ≡ stands_below clock index o
trusted_below clock index o e b s p q n h = h ∙ (ap (below_when index e) (sym n ∙ q) ∙ ap (stands_below clock index) (sym p))
