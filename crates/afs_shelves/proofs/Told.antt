-- What is told of volumes is what the records of a volume server tell.
use Rattle.std.proofs.Common.{◌≡◌, ℕ, ◌+◌, ◌≤◌, List, [], ◌∷◌, ◌++◌, length, map, drop, Bool, true, false, Option, Some, None, min, refl, sym, ap, subst, ◌∙◌, slice_get, append_assoc, if◌then◌else◌}
use Rattle.std.specs.Option.{option_map}
use Rattle.std.proofs.lemmas.List.{append-nil, map-append}
use Rattle.spec_history.specs.declared.lines.Line.{Line}
use Rattle.spec_history.specs.declared.lines.Line.TheVariants as lines
use Rattle.afs_num.specs.declared.histories.Version.{Version}
use Rattle.afs_num.specs.declared.types.Node.{Node}
use Rattle.afs_num.specs.declared.vnodes.Vnode as image
use Rattle.spec_ideal.specs.SetUp.{first_versions}
use Rattle.spec_ideal.specs.Tables.{Table, get}
use Rattle.spec_ideal.specs.Volumes.{version_at}
use Rattle.spec_records.specs.Durable.{is_flagged, Stored}
use Rattle.spec_fold.specs.Effects.{lines_told_of, vanish_lines, vanished_lines, version_lines}
use Rattle.afs_seats.specs.Seated.{seen_as}
use Rattle.afs_volume.specs.Seen.{all_seen, seen}
use Rattle.afs_volume.proofs.Upward.{same_length}
use Rattle.afs_shelves.specs.Shelving.{shelved}
use Rattle.afs_shelves.specs.Words.{in_words, version_within, AreInWords}
use Rattle.afs_shelves.specs.declared.shelf.Shelf.{Shelf}
use Rattle.afs_shelves.proofs.Lists.{drop_end, drop_none, drop_step}

-- ---- in words

joined : (xs ys : List Line) → AreInWords xs → AreInWords ys → AreInWords (xs ++ ys)
joined xs ys a b = map-append in_words xs ys ∙ (ap (λ (l : List Line). l ++ map in_words ys) a ∙ ap (λ (l : List Line). xs ++ l) b)

-- with one line more
pub one_more : (ls : List Line) (l : Line) (ms : List Line) → ms ≡ ls ++ l ∷ [] → in_words l ≡ l → AreInWords ls → AreInWords ms
one_more ls l ms e is are = subst AreInWords (sym e) (joined ls (l ∷ []) are (ap (λ (x : Line). x ∷ []) is))

-- ---- a whole volume

-- what is told of the vnodes from a place on
abbrev pub rest_told : ℕ → List (ℕ × image.Vnode) → List Line
rest_told id t = version_lines (first_versions id (all_seen t))

first_told : (id : ℕ) (p : ℕ × image.Vnode) (ps : List (ℕ × image.Vnode)) → rest_told id (p ∷ ps) ≡ lines.Version (version_at id p.0 (seen p.1)) ∷ rest_told id ps
unfolding all_seen
first_told id p ps = refl

none_told : (id : ℕ) → rest_told id [] ≡ []
unfolding all_seen
none_told id = refl

pub place_told : (id i : ℕ) (t : Table image.Vnode) (p : ℕ × image.Vnode) (ls ms : List Line) → slice_get t i ≡ Some p → ms ≡ ls ++ lines.Version (version_at id p.0 (seen p.1)) ∷ [] → ms ++ rest_told id (drop (i + 1) t) ≡ ls ++ rest_told id (drop i t)
place_told id i t p ls ms there e =
    ap (λ (l : List Line). l ++ rest_told id (drop (i + 1) t)) e
    ∙ (append_assoc ls (lines.Version (version_at id p.0 (seen p.1)) ∷ []) (rest_told id (drop (i + 1) t))
    ∙ ap (λ (l : List Line). ls ++ l) (sym (ap (rest_told id) (drop_step t i p there) ∙ first_told id p (drop (i + 1) t))))

pub no_place : (id i : ℕ) (t : Table image.Vnode) (ls : List Line) → slice_get t i ≡ None → ls ++ rest_told id (drop (i + 1) t) ≡ ls ++ rest_told id (drop i t)
no_place id i t ls none = ap (λ (r : Table image.Vnode). ls ++ rest_told id r) (drop_none t i none)

-- when no place is left
pub whole_told : (server : Node) (id place : ℕ) (t : Table image.Vnode) (ls ms : List Line) → ms ++ rest_told id (drop place t) ≡ ls ++ (lines.Made server id (length t) ∷ rest_told id t) → length t ≤ place
    → ms ≡ ls ++ (lines.Made server id (length (all_seen t)) ∷ rest_told id t)
whole_told server id place t ls ms told end =
    let none : rest_told id (drop place t) ≡ [] = ap (rest_told id) (drop_end t place end) ∙ none_told id in
    sym (append-nil ms)
    ∙ (ap (λ (l : List Line). ms ++ l) (sym none) ∙ (told ∙ ap (λ (n : ℕ). ls ++ (lines.Made server id n ∷ rest_told id t)) (sym (same_length t))))

-- ---- volumes that go

abbrev pub rest_gone : Node → Table Shelf → List Line
rest_gone server t = vanished_lines server (seen_as shelved t)

gone_by : (server : Node) (p : ℕ × Shelf) (ps : Table Shelf) (ls ms : List Line) (b : Bool) → is_flagged (shelved p.1) ≡ b → ms ≡ ls ++ (if b then vanish_lines server p.0 (shelved p.1) else []) → ms ++ rest_gone server ps ≡ ls ++ rest_gone server (p ∷ ps)
gone_by server p ps ls ms b flagged e =
    ap (λ (l : List Line). l ++ rest_gone server ps) e
    ∙ (append_assoc ls (if b then vanish_lines server p.0 (shelved p.1) else []) (rest_gone server ps)
    ∙ ap (λ (c : Bool). ls ++ ((if c then vanish_lines server p.0 (shelved p.1) else []) ++ rest_gone server ps)) (sym flagged))

pub gone_told : (server : Node) (i : ℕ) (t : Table Shelf) (p : ℕ × Shelf) (ls ms : List Line) (b : Bool) → slice_get t i ≡ Some p → is_flagged (shelved p.1) ≡ b → ms ≡ ls ++ (if b then vanish_lines server p.0 (shelved p.1) else [])
    → ms ++ rest_gone server (drop (i + 1) t) ≡ ls ++ rest_gone server (drop i t)
gone_told server i t p ls ms b there flagged e =
    gone_by server p (drop (i + 1) t) ls ms b flagged e ∙ ap (λ (r : Table Shelf). ls ++ rest_gone server r) (sym (drop_step t i p there))

pub no_gone : (server : Node) (i : ℕ) (t : Table Shelf) (ls : List Line) → slice_get t i ≡ None → ls ++ rest_gone server (drop (i + 1) t) ≡ ls ++ rest_gone server (drop i t)
no_gone server i t ls none = ap (λ (r : Table Shelf). ls ++ rest_gone server r) (drop_none t i none)

-- ---- of the volume of a number

pub lines_there : (tell : Stored → List Line) (o : Option Stored) (s : Stored) (ls ms : List Line) → o ≡ Some s → ms ≡ ls ++ tell s → ms ≡ ls ++ lines_told_of tell o
lines_there tell o s ls ms there e = e ∙ ap (λ (q : Option Stored). ls ++ lines_told_of tell q) (sym there)

-- ---- of lines that are in words as they are

pub in_words_too : (ls es : List Line) → ls ≡ es → AreInWords ls → ls ≡ map in_words es
in_words_too ls es is are = sym are ∙ ap (map in_words) is
