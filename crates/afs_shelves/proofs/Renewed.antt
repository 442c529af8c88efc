-- What is made of a volume doesn't ask whether it is new.
use Rattle.std.proofs.Common.{◌≡◌, ℕ, List, [], ◌∷◌, Bool, true, false, Option, Some, None, refl, ap, ◌∙◌, if◌then◌else◌}
use Rattle.std.specs.Prelude.{Result, Ok, Err, ◌-◌, ◌&&◌, length}
use Rattle.std.specs.List.{list_all}
use Rattle.std.specs.Option.{option_map}
use Rattle.spec_ideal.specs.Images.{Image, value_of}
use Rattle.spec_ideal.specs.Tables.{Table}
use Rattle.spec_ideal.specs.Volumes.{Vnode}
use Rattle.spec_shape.specs.Taking.{◌>>=◌}
use Rattle.spec_records.specs.Durable.{allowed, changed_stored, counted_as, is_there, with_image, with_images, without, without_one, Stored}
use Rattle.spec_dumps.specs.Dumps.{Dump}
use Rattle.spec_dumps.specs.Fields.{FieldTaken, took, cut_at, bad_at}
use Rattle.spec_dumps.specs.Restores.{allowed_with, end_length, restored_from, finished_by, image_in, made_or, offset_in, restored, restored_vnodes, stored_with, vnode_by, with_timed, Timed}
use Rattle.spec_dumps.specs.Streams.{dump_at}

abbrev pub as_new : Bool → Stored → Stored
as_new b s = record s { is_new = b }

allowed_by : (b c : Bool) (s : Stored) → (if c then Some (as_new b s) else None) ≡ option_map (as_new b) (if c then Some s else None)
allowed_by b true s = refl
allowed_by b false s = refl

allowed_new : (b : Bool) (s : Stored) → allowed (as_new b s) ≡ option_map (as_new b) (allowed s)
allowed_new b s = allowed_by b _ s

-- ---- a dump

vnode_new : (b : Bool) (o : Option Image) (n unique : ℕ) (s : Stored) → vnode_by o n unique (as_new b s) ≡ vnode_by o n unique s
vnode_new b None n unique s = refl
vnode_new b (Some i) n unique s = refl

vnodes_new : (b : Bool) (ps : List (ℕ × ℕ)) (is : List Image) (s : Stored) → restored_vnodes ps is (as_new b s) ≡ restored_vnodes ps is s
vnodes_new b [] is s = refl
vnodes_new b (p ∷ ps) is s =
    ap (λ (o : Option Timed). with_timed p.0 o (restored_vnodes ps is (as_new b s))) (vnode_new b (image_in p.0 is) p.0 p.1 s)
    ∙ ap (with_timed p.0 (vnode_by (image_in p.0 is) p.0 p.1 s)) (vnodes_new b ps is s)

allowed_with_new : (b : Bool) (id : ℕ) (s : Stored) (d : Dump) (o : Option (Table Timed)) → allowed_with id (as_new b s) d o ≡ option_map (as_new b) (allowed_with id s d o)
allowed_with_new b id s d None = refl
allowed_with_new b id s d (Some t) = allowed_new b (stored_with id s d t)

restored_new : (b : Bool) (id : ℕ) (s : Stored) (d : Dump) → restored id (as_new b s) d ≡ option_map (as_new b) (restored id s d)
restored_new b id s d =
    ap (allowed_with id (as_new b s) d) (vnodes_new b d.live d.images s) ∙ allowed_with_new b id s d (restored_vnodes d.live d.images s)

-- the result is new or isn't, as the volume was
abbrev pub renewed : Bool → Result Stored ℕ → Result Stored ℕ
renewed b (Ok s) = Ok (as_new b s)
renewed b (Err offset) = Err offset

made_new : (b : Bool) (offset : ℕ) (o : Option Stored) → made_or offset (option_map (as_new b) o) ≡ renewed b (made_or offset o)
made_new b offset None = refl
made_new b offset (Some s) = refl

finished_by_new : (b : Bool) (id : ℕ) (s : Stored) (bytes : List ℕ) (r : FieldTaken Dump) → finished_by id (as_new b s) bytes r ≡ renewed b (finished_by id s bytes r)
finished_by_new b id s bytes (took d rest) =
    ap (made_or (length bytes - end_length)) (restored_new b id s d) ∙ made_new b (length bytes - end_length) (restored id s d)
finished_by_new b id s bytes (cut_at left) = refl
finished_by_new b id s bytes (bad_at left) = refl

pub finished_new : (b : Bool) (id : ℕ) (s : Stored) (bytes : List ℕ) → restored_from id (as_new b s) bytes ≡ renewed b (restored_from id s bytes)
unfolding restored_from
finished_new b id s bytes = finished_by_new b id s bytes (dump_at bytes)

-- ---- a change

images_by : (b : Bool) (i : Image) (is : List Image) (s : Stored) (o : Option Vnode) → ((t : Stored) → with_images is (as_new b t) ≡ option_map (as_new b) (with_images is t))
    → (o >>= λ x. with_images is (with_image i x (as_new b s))) ≡ option_map (as_new b) (o >>= λ x. with_images is (with_image i x s))
images_by b i is s None later = refl
images_by b i is s (Some x) later = later (with_image i x s)

images_new : (b : Bool) (is : List Image) (s : Stored) → with_images is (as_new b s) ≡ option_map (as_new b) (with_images is s)
images_new b [] s = refl
images_new b (i ∷ is) s = images_by b i is s (value_of i) (images_new b is)

without_new : (b : Bool) (ns : List ℕ) (s : Stored) → without ns (as_new b s) ≡ as_new b (without ns s)
without_new b [] s = refl
without_new b (n ∷ ns) s = without_new b ns (without_one n s)

taken_by : (b : Bool) (counter unique : ℕ) (removed : List ℕ) (o : Option Stored)
    → (option_map (as_new b) o >>= λ t. allowed (without removed (counted_as counter unique t))) ≡ option_map (as_new b) (o >>= λ t. allowed (without removed (counted_as counter unique t)))
taken_by b counter unique removed None = refl
taken_by b counter unique removed (Some t) =
    ap allowed (without_new b removed (counted_as counter unique t)) ∙ allowed_new b (without removed (counted_as counter unique t))

changed_by : (b c : Bool) (counter unique : ℕ) (is : List Image) (removed : List ℕ) (s : Stored)
    → (if c then (with_images is (as_new b s) >>= λ t. allowed (without removed (counted_as counter unique t))) else None)
    ≡ option_map (as_new b) (if c then (with_images is s >>= λ t. allowed (without removed (counted_as counter unique t))) else None)
changed_by b true counter unique is removed s =
    ap (λ (o : Option Stored). o >>= λ t. allowed (without removed (counted_as counter unique t))) (images_new b is s) ∙ taken_by b counter unique removed (with_images is s)
changed_by b false counter unique is removed s = refl

there_new : (b : Bool) (ns : List ℕ) (s : Stored) → list_all (is_there (as_new b s)) ns ≡ list_all (is_there s) ns
there_new b [] s = refl
there_new b (n ∷ ns) s = ap (λ (c : Bool). is_there s n && c) (there_new b ns s)

pub changed_new : (b : Bool) (counter unique : ℕ) (is : List Image) (removed : List ℕ) (s : Stored)
    → changed_stored counter unique is removed (as_new b s) ≡ option_map (as_new b) (changed_stored counter unique is removed s)
changed_new b counter unique is removed s =
    ap (λ (c : Bool). if c then (with_images is (as_new b s) >>= λ t. allowed (without removed (counted_as counter unique t))) else None) (there_new b removed s)
    ∙ changed_by b (list_all (is_there s) removed) counter unique is removed s
