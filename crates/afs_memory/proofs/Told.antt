-- What a change tells, vnode by vnode.
use Rattle.std.proofs.Common.{◌≡◌, ℕ, zero, suc, ◌+◌, ◌≤◌, true, List, [], ◌∷◌, ◌++◌, length, map, drop, Option, Some, None, is_some, min, refl, sym, ap, subst, ◌∙◌, arith, slice_get, append_assoc}
use Rattle.std.specs.List.{AllByRecursion}
use Rattle.std.specs.Option.{option_map}
use Rattle.std.proofs.lemmas.List.{length-map}
use Rattle.spec_history.specs.declared.lines.Line.{Line}
use Rattle.spec_history.specs.declared.lines.Line.TheVariants as lines
use Rattle.afs_num.specs.declared.histories.Version.{Version}
use Rattle.afs_num.specs.declared.types.Key.{Key}
use Rattle.afs_num.specs.declared.types.Node.{Node}
use Rattle.afs_num.specs.declared.vnodes.Vnode as image
use Rattle.spec_ideal.specs.Images.{value_of}
use Rattle.spec_ideal.specs.Operations.{last_count}
use Rattle.spec_ideal.specs.Tables.{Table, get, set}
use Rattle.spec_ideal.specs.Volumes.{Vnode, Volume, gone_at}
use Rattle.spec_records.specs.Durable.{change_lines, gone_versions, outcome_versions, with_outcomes, with_removed}
use Rattle.afs_seats.proofs.Places.{get_seen, set_seen}
use Rattle.afs_volume.specs.Seen.{all_seen, kind_seen, seen, IsReadable}
use Rattle.afs_volume.proofs.Folded.{value_seen}
use Rattle.afs_volume.proofs.Readable.{readable_kind}
use Rattle.afs_shelves.proofs.Lists.{drop_none, drop_step}
use Rattle.afs_memory.specs.Telling.{in_words, outcome_at, outcomes_seen, told_at, value_there, version_within}

-- ---- the places of images

pub one_placed : (is rest : List image.Vnode) (i : ℕ) (x : image.Vnode) (t u : Table (Option ℕ)) → rest ≡ drop i is → slice_get is i ≡ Some x → u ≡ set x.vnode (Some i) t
    → with_outcomes (drop (i + 1) is) (outcomes_seen is u) ≡ with_outcomes rest (outcomes_seen is t)
one_placed is rest i x t u at there put =
    let value : outcome_at is (Some i) ≡ value_of x = ap value_there there in
    let placed : outcomes_seen is u ≡ set x.vnode (value_of x) (outcomes_seen is t) =
    ap (outcomes_seen is) put ∙ (sym (set_seen (outcome_at is) x.vnode (Some i) t) ∙ ap (λ (o : Option Vnode). set x.vnode o (outcomes_seen is t)) value) in
    ap (with_outcomes (drop (i + 1) is)) placed ∙ sym (ap (λ (r : List image.Vnode). with_outcomes r (outcomes_seen is t)) (at ∙ drop_step is i x there))

pub one_gone : (is : List image.Vnode) (ns : List ℕ) (i n : ℕ) (t u : Table (Option ℕ)) → slice_get ns i ≡ Some n → u ≡ set n None t
    → with_removed (drop (i + 1) ns) (outcomes_seen is u) ≡ with_removed (drop i ns) (outcomes_seen is t)
one_gone is ns i n t u there put =
    let gone : outcomes_seen is u ≡ set n None (outcomes_seen is t) = ap (outcomes_seen is) put ∙ sym (set_seen (outcome_at is) n None t) in
    ap (with_removed (drop (i + 1) ns)) gone ∙ sym (ap (λ (r : List ℕ). with_removed r (outcomes_seen is t)) (drop_step ns i n there))

-- ---- versions

one_by : (id : ℕ) (v : Volume) (n : ℕ) (o : Option Vnode) (ps : Table (Option Vnode)) → outcome_versions id v ((n, o) ∷ ps) ≡ told_at id v n o ++ outcome_versions id v ps
one_by id v n None ps = refl
one_by id v n (Some x) ps = refl

map_append : {A B : Type 0} (f : A → B) (xs ys : List A) → map f (xs ++ ys) ≡ map f xs ++ map f ys
map_append {A} {B} f [] ys = refl
map_append {A} {B} f (x ∷ xs) ys = ap (λ (l : List B). f x ∷ l) (map_append f xs ys)

seen_drop : {A B : Type 0} (f : A → B) (i : ℕ) (t : List A) → map f (drop i t) ≡ drop i (map f t)
seen_drop {A} {B} f zero t = refl
seen_drop {A} {B} f (suc i) [] = refl
seen_drop {A} {B} f (suc i) (x ∷ xs) = seen_drop f i xs

-- what was told, and what is told of this vnode and of those behind it
pub one_told : (id : ℕ) (v : Volume) (is : List image.Vnode) (t : Table (Option ℕ)) (i n : ℕ) (o : Option ℕ) (out new : List Version) → slice_get t i ≡ Some (n, o) → new ≡ out ++ map version_within (told_at id v n (outcome_at is o))
    → new ++ map version_within (outcome_versions id v (outcomes_seen is (drop (i + 1) t))) ≡ out ++ map version_within (outcome_versions id v (outcomes_seen is (drop i t)))
one_told id v is t i n o out new there told =
    let rest : Table (Option Vnode) = outcomes_seen is (drop (i + 1) t) in
    let here : outcome_versions id v (outcomes_seen is (drop i t)) ≡ told_at id v n (outcome_at is o) ++ outcome_versions id v rest =
    ap (λ (l : Table (Option ℕ)). outcome_versions id v (outcomes_seen is l)) (drop_step t i (n, o) there) ∙ one_by id v n (outcome_at is o) rest in
    ap (λ (l : List Version). l ++ map version_within (outcome_versions id v rest)) told
    ∙ (append_assoc out (map version_within (told_at id v n (outcome_at is o))) (map version_within (outcome_versions id v rest))
    ∙ ap (λ (l : List Version). out ++ l) (sym (map_append version_within (told_at id v n (outcome_at is o)) (outcome_versions id v rest)) ∙ ap (map version_within) (sym here)))

-- an image that has been read has a value, which is as it is seen
some_seen : (x : image.Vnode) (o : Option Vnode) → value_of x ≡ o → is_some o ≡ true → value_of x ≡ Some (seen x)
some_seen x None is e = absurd cc
some_seen x (Some y) is e = is ∙ ap (λ (z : Vnode). Some z) (sym (value_seen x y is))

pub value_is_seen : (x : image.Vnode) → IsReadable x → value_of x ≡ Some (seen x)
value_is_seen x read = some_seen x (value_of x) refl (readable_kind (kind_seen x.kind) x refl read)

pub read_there : (is : List image.Vnode) (i : ℕ) (x : image.Vnode) → AllByRecursion IsReadable is → slice_get is i ≡ Some x → IsReadable x
read_there [] i x all e = absurd cc
read_there (y ∷ ys) zero x all e = subst IsReadable (let is : y ≡ x = cc in is) all.0
read_there (y ∷ ys) (suc i) x all e = read_there ys i x all.1 e

-- what a vnode that is there tells where it goes
pub told_gone : (id n : ℕ) (t : Table image.Vnode) (x : image.Vnode) → get n t ≡ Some x → gone_versions id n (get n (all_seen t)) ≡ gone_at id n (seen x) ∷ []
unfolding all_seen
told_gone id n t x e = ap (λ (o : Option Vnode). gone_versions id n o) (get_seen seen n t ∙ ap (option_map seen) e)

pub told_none : (id n : ℕ) (t : Table image.Vnode) → get n t ≡ None → gone_versions id n (get n (all_seen t)) ≡ []
unfolding all_seen
told_none id n t e = ap (λ (o : Option Vnode). gone_versions id n o) (get_seen seen n t ∙ ap (option_map seen) e)

pub outcome_there : (is : List image.Vnode) (i : ℕ) (x : image.Vnode) → AllByRecursion IsReadable is → slice_get is i ≡ Some x → outcome_at is (Some i) ≡ Some (seen x)
outcome_there is i x all there = ap value_there there ∙ value_is_seen x (read_there is i x all there)

-- ---- lines

told_each : (vs : List Version) → map in_words (map lines.Version vs) ≡ map lines.Version (map version_within vs)
told_each [] = refl
told_each (v ∷ vs) = ap (λ (l : List Line). lines.Version (version_within v) ∷ l) (told_each vs)

pub lines_are : (server : Node) (key : Key) (full vs : List Version) → vs ≡ map version_within full → lines.Change server key (min (length vs) last_count) ∷ map lines.Version vs ≡ map in_words (change_lines server key full)
lines_are server key full vs is =
    let long : length vs ≡ length full = ap length is ∙ length-map full version_within in
    ap (λ (n : ℕ). lines.Change server key (min n last_count) ∷ map lines.Version vs) long
    ∙ ap (λ (l : List Line). lines.Change server key (min (length full) last_count) ∷ l) (ap (map lines.Version) is ∙ sym (told_each full))
