-- A text that is made place by place.
use Rattle.std.proofs.Common.{◌≡◌, ℕ, zero, suc, ◌+◌, ◌≤◌, Bool, List, [], ◌∷◌, ◌++◌, Some, None, length, map, take, slice_get, refl, ap, sym, ◌∙◌, append_assoc, append-nil, arith}
use Rattle.std.specs.Prelude.{codes}
use Rattle.std.specs.Option.{option_map}
use Rattle.std.specs.List.{flat_map}
use Rattle.std.proofs.lemmas.Grind.{flat_map-append}
use Rattle.std.proofs.lemmas.List.{take_all, length-map}
use Rattle.afs_num.specs.declared.types.Node.{Node}
use Rattle.afs_num.specs.declared.types.Node.TheVariants.{Server}
use Rattle.afs_num.specs.declared.histories.Version.{Version}
use Rattle.afs_num.specs.declared.vnodes.Vnode as image
use Rattle.spec_ideal.specs.Tables.{Table}
use Rattle.spec_ideal.specs.Volumes.{type_of, version_at, Vnode}
use Rattle.spec_records.specs.Durable.{Durable}
use Rattle.afs_text.specs.FinalText.{final_text, servers_text, version_line_text, vnode_text, volume_text}
use Rattle.afs_shelves.specs.Shelving.{stored_as}
use Rattle.afs_volume.specs.Seen.{all_seen, kind_seen, seen, IsReadable}
use Rattle.afs_volume.specs.Taking.{stored_of}
use Rattle.afs_volume.specs.declared.volume.Volume.{Volume}
use Rattle.afs_final.specs.Telling.{text_at}

pub pushed : {A : Type 0} (text : A → List ℕ) (xs ys : List A) (x : A) → ys ≡ xs ++ x ∷ [] → flat_map text ys ≡ flat_map text xs ++ text x
pushed {A} text xs ys x is = ap (flat_map text) is ∙ (flat_map-append text xs (x ∷ []) ∙ ap (λ (t : List ℕ). flat_map text xs ++ t) (append-nil (text x)))

none_taken : {A : Type 0} (i : ℕ) → take {A = A} i [] ≡ []
none_taken zero = refl
none_taken (suc i) = refl

next_take : {A : Type 0} (x : A) (xs : List A) (i : ℕ) → take (suc i + 1) (x ∷ xs) ≡ x ∷ take (i + 1) xs
next_take {A} x xs i = ap (λ (k : ℕ). take k (x ∷ xs)) (let z : suc i + 1 ≡ suc (i + 1) = omega arith in z)

pub one_more : {A : Type 0} (text : A → List ℕ) (xs : List A) (i : ℕ) → flat_map text (take (i + 1) xs) ≡ flat_map text (take i xs) ++ text_at text (slice_get xs i)
one_more {A} text [] i = ap (flat_map text) (none_taken {A = A} (i + 1)) ∙ sym (ap (λ (ys : List A). flat_map text ys ++ []) (none_taken {A = A} i))
one_more {A} text (x ∷ xs) zero = append-nil (text x)
one_more {A} text (x ∷ xs) (suc i) =
    ap (flat_map text) (next_take x xs i) ∙ (ap (λ (t : List ℕ). text x ++ t) (one_more text xs i) ∙ sym (append_assoc (text x) (flat_map text (take i xs)) (text_at text (slice_get xs i))))

-- the next place was told
pub goes_on : {A : Type 0} (text : A → List ℕ) (xs : List A) (i : ℕ) (now next start : List ℕ) → now ≡ start ++ flat_map text (take i xs) → next ≡ now ++ text_at text (slice_get xs i) → next ≡ start ++ flat_map text (take (i + 1) xs)
goes_on {A} text xs i now next start so_far put =
    put
    ∙ (ap (λ (t : List ℕ). t ++ text_at text (slice_get xs i)) so_far
    ∙ (append_assoc start (flat_map text (take i xs)) (text_at text (slice_get xs i)) ∙ ap (λ (t : List ℕ). start ++ t) (sym (one_more text xs i))))

-- nothing stands in this place, nor behind it
pub none_left : {A : Type 0} (xs : List A) (i : ℕ) → slice_get xs i ≡ None → take i xs ≡ xs
none_left {A} [] i e = none_taken i
none_left {A} (x ∷ xs) zero e = absurd cc
none_left {A} (x ∷ xs) (suc i) e = ap (λ (ys : List A). x ∷ ys) (none_left xs i e)

-- ---- vnodes

abbrev seen_pair : ℕ × image.Vnode → ℕ × Vnode
seen_pair p = (p.0, seen p.1)

slice_map : {A B : Type 0} (f : A → B) (xs : List A) (i : ℕ) → slice_get (map f xs) i ≡ option_map f (slice_get xs i)
slice_map {A} {B} f [] i = refl
slice_map {A} {B} f (x ∷ xs) zero = refl
slice_map {A} {B} f (x ∷ xs) (suc i) = slice_map f xs i

pub seen_at : (t : Table image.Vnode) (i : ℕ) (p : ℕ × image.Vnode) → slice_get t i ≡ Some p → slice_get (all_seen t) i ≡ Some (p.0, seen p.1)
unfolding all_seen
seen_at t i p e = slice_map seen_pair t i ∙ ap (option_map seen_pair) e

pub unseen_at : (t : Table image.Vnode) (i : ℕ) → slice_get t i ≡ None → slice_get (all_seen t) i ≡ None
unfolding all_seen
unseen_at t i e = slice_map seen_pair t i ∙ ap (option_map seen_pair) e

pub all_taken : (t : Table image.Vnode) (i : ℕ) → length t ≤ i → take i (all_seen t) ≡ all_seen t
unfolding all_seen
all_taken t i le = take_all i (map seen_pair t) (omega (arith, le, length-map t seen_pair))

pub shown_is : (id : ℕ) (x : image.Vnode) (v : Version) → IsReadable x → v ≡ version_at id x.vnode (seen x) → version_line_text x.kind v ≡ vnode_text id (x.vnode, seen x)
unfolding seen
shown_is id x v h is = ap (λ (k : ℕ). version_line_text k v) (sym h.0) ∙ ap (version_line_text (type_of (kind_seen x.kind))) is

-- ---- volumes

-- whether a volume is new isn't told
pub same_volume : (server : Node) (id : ℕ) (is_new : Bool) (v : Volume) → volume_text server (id, stored_as is_new v) ≡ volume_text server (id, stored_of v)
unfolding volume_text
same_volume server id is_new v = refl

-- ---- servers

pub next_server : (i : ℕ) (d : Durable) (ds : List Durable) (now next whole : List ℕ) → now ++ servers_text (i + 1) (d ∷ ds) ≡ whole → next ≡ now ++ flat_map (volume_text (Server (i + 1))) d.volumes → next ++ servers_text (i + 1 + 1) ds ≡ whole
next_server i d ds now next whole so_far put =
    ap (λ (t : List ℕ). t ++ servers_text (i + 1 + 1) ds) put ∙ (append_assoc now (flat_map (volume_text (Server (i + 1))) d.volumes) (servers_text (i + 1 + 1) ds) ∙ so_far)

pub all_told : (i : ℕ) (ds rest : List Durable) (now : List ℕ) → rest ≡ [] → now ++ servers_text (i + 1) rest ≡ servers_text 1 ds → codes "final\n" ++ (now ++ codes "end\n") ≡ final_text ds
unfolding final_text
all_told i ds rest now none so_far =
    let whole : now ≡ servers_text 1 ds = sym (append-nil now) ∙ (ap (λ (xs : List Durable). now ++ servers_text (i + 1) xs) (sym none) ∙ so_far) in
    ap (λ (t : List ℕ). codes "final\n" ++ (t ++ codes "end\n")) whole
