-- What is read is spelled so, and what is spelled is read: fields.
use Rattle.std.proofs.Common.{◌≡◌, ℕ, ◌+◌, List, [], ◌∷◌, ◌++◌, length, Result, Ok, Err, refl, sym, ap, subst, ◌∙◌, append_assoc}
use Rattle.std.proofs.lemmas.List.Concat.{flat_map-cons}
use Rattle.afs_xdr.specs.declared.faults.XdrFault.{XdrFault}
use Rattle.afs_xdr.specs.Words.{word_at, opaque_at}
use Rattle.spec_shape.specs.Items.{list_at, fid_at, store_status_at, status_at, callback_at, sync_at, volume_kind_at, server_at, listed_volume_at, entry_at}
use Rattle.spec_shape.specs.Spelling.{fid, callback, status, list, listed_volume, listed_volume_words, field_spelled, fields_spelled}
use Rattle.spec_shape.specs.Reading.{◌>>=◌, read_as, in_place, signed_at, field_at, fields_at}
use Rattle.spec_shape.specs.Tables.{IsCount, IsOf, AreOf, IsInRange, AreInRange, IsListedVolume}
use Rattle.std.specs.List.{AllByRecursion}
use Rattle.afs_num.specs.declared.volume_calls.ListedVolume.{ListedVolume}
use Rattle.afs_xdr.specs.Words.{AreWords}
use Rattle.spec_shape.specs.declared.faults.ShapeFault.{ShapeFault}
use Rattle.spec_shape.specs.declared.kinds.Kind.{Kind}
use Rattle.spec_shape.specs.declared.kinds.Kind.TheVariants as kinds
use Rattle.spec_shape.specs.declared.kinds.Field.{Field}
use Rattle.spec_shape.specs.declared.kinds.Field.TheVariants as fields
use Rattle.spec_shape.proofs.Codecs.{IsBytes, Takes, Takes-then, IsCodec, ok_is, word_codec, signed_codec, volume_kind_codec, server_codec, opaque_codec, list_codec, fid_codec, store_status_codec, status_codec, callback_codec, sync_codec}
use Rattle.spec_shape.proofs.Entries.{listed_volume_codec, entry_codec, each_apart, each_together}

-- a field that was taken from the front, of this kind
pub record TakesField (k : Kind) (bytes : List ℕ) (f : Field) (rest : List ℕ) : Type 0 where
  pub takes : Takes bytes (field_spelled f) rest
  pub is_of : IsOf k f
  pub in_range : IsInRange f

read_as_ok : {X : Type 0} (r : Result (X × List ℕ) XdrFault) (made : X → Field) (f : Field) (rest : List ℕ) → read_as made r ≡ Ok (f, rest) → (x : X) × (r ≡ Ok (x, rest)) × (made x ≡ f)
read_as_ok {X} (Ok x) made f rest e =
    let both : (made x.0, x.1) ≡ (f, rest) = ok_is (made x.0, x.1) (f, rest) e in
    (x.0, ap (λ (t : List ℕ). Ok (x.0, t)) (ap (λ (p : Field × List ℕ). p.1) both), ap (λ (p : Field × List ℕ). p.0) both)
read_as_ok (Err d) made f rest e = absurd cc

takes_as : {X : Type 0} (k : Kind) (made : X → Field) (at : List ℕ → Result (X × List ℕ) XdrFault) (spell : X → List ℕ) (Fits : X → Type 0) → IsCodec at spell Fits
    → ((x : X) → field_spelled (made x) ≡ spell x) → ((x : X) → Fits x → IsOf k (made x)) → ((x : X) → Fits x → IsInRange (made x))
    → (bytes : List ℕ) (f : Field) (rest : List ℕ) → IsBytes bytes → read_as made (at bytes) ≡ Ok (f, rest) → TakesField k bytes f rest
takes_as {X} k made at spell Fits codec spelled kept ranged bytes f rest fits e =
    let r = read_as_ok (at bytes) made f rest e in
    let t = codec.takes bytes r.0 rest fits r.1 in
    let here : TakesField k bytes (made r.0) rest = record { takes = subst (λ (w : List ℕ). Takes bytes w rest) (sym (spelled r.0)) t.0; is_of = kept r.0 t.1; in_range = ranged r.0 t.1 } in
    subst (λ (g : Field). TakesField k bytes g rest) r.2 here

abbrev IsListedInWords : ListedVolume → Type 0
IsListedInWords v = IsListedVolume v × AreWords (listed_volume_words v)

volumes_codec : (most : ℕ) → IsCodec (list_at listed_volume_at most) (list listed_volume) (λ xs. IsCount most (length xs) × AllByRecursion IsListedInWords xs)
volumes_codec most = list_codec listed_volume_at listed_volume IsListedInWords most listed_volume_codec

apart : (vs : List ListedVolume) → AllByRecursion IsListedInWords vs → AllByRecursion IsListedVolume vs × AllByRecursion (λ v. AreWords (listed_volume_words v)) vs
apart vs h = each_apart IsListedVolume (λ v. AreWords (listed_volume_words v)) vs h

pub field_takes : (k : Kind) (bytes : List ℕ) (f : Field) (rest : List ℕ) → IsBytes bytes → field_at k bytes ≡ Ok (f, rest) → TakesField k bytes f rest
unfolding field_at
field_takes kinds.Nothing bytes f rest fits e = absurd cc
field_takes kinds.Word bytes f rest fits e = takes_as kinds.Word fields.Word word_at _ _ word_codec (λ x. refl) (λ x h. tt) (λ x h. h) bytes f rest fits e
field_takes kinds.Signed bytes f rest fits e = takes_as kinds.Signed fields.Signed signed_at _ _ signed_codec (λ x. refl) (λ x h. tt) (λ x h. h) bytes f rest fits e
field_takes kinds.VolumeKind bytes f rest fits e = takes_as kinds.VolumeKind fields.VolumeKind volume_kind_at _ _ volume_kind_codec (λ x. refl) (λ x h. h.0) (λ x h. h.1) bytes f rest fits e
field_takes kinds.Server bytes f rest fits e = takes_as kinds.Server fields.Server server_at _ _ server_codec (λ x. refl) (λ x h. h.0) (λ x h. h.1) bytes f rest fits e
field_takes kinds.Entry bytes f rest fits e = takes_as kinds.Entry fields.Entry entry_at _ _ entry_codec (λ x. refl) (λ x h. h.0) (λ x h. h.1) bytes f rest fits e
field_takes kinds.Fid bytes f rest fits e = takes_as kinds.Fid fields.Fid fid_at _ _ fid_codec (λ x. refl) (λ x h. tt) (λ x h. h) bytes f rest fits e
field_takes kinds.StoreStatus bytes f rest fits e = takes_as kinds.StoreStatus fields.StoreStatus store_status_at _ _ store_status_codec (λ x. refl) (λ x h. tt) (λ x h. h) bytes f rest fits e
field_takes kinds.FetchStatus bytes f rest fits e = takes_as kinds.FetchStatus fields.FetchStatus status_at _ _ status_codec (λ x. refl) (λ x h. tt) (λ x h. h) bytes f rest fits e
field_takes kinds.CallBack bytes f rest fits e = takes_as kinds.CallBack fields.CallBack callback_at _ _ callback_codec (λ x. refl) (λ x h. tt) (λ x h. h) bytes f rest fits e
field_takes kinds.VolSync bytes f rest fits e = takes_as kinds.VolSync fields.VolSync sync_at _ _ sync_codec (λ x. refl) (λ x h. tt) (λ x h. h) bytes f rest fits e
field_takes (kinds.Opaque most) bytes f rest fits e = takes_as (kinds.Opaque most) fields.Opaque (opaque_at most) _ _ (opaque_codec most) (λ x. refl) (λ x h. h) (λ x h. tt) bytes f rest fits e
field_takes (kinds.Fids most) bytes f rest fits e = takes_as (kinds.Fids most) fields.Fids (list_at fid_at most) _ _ (list_codec fid_at fid _ most fid_codec) (λ x. refl) (λ x h. h.0) (λ x h. h.1) bytes f rest fits e
field_takes (kinds.CallBacks most) bytes f rest fits e = takes_as (kinds.CallBacks most) fields.CallBacks (list_at callback_at most) _ _ (list_codec callback_at callback _ most callback_codec) (λ x. refl) (λ x h. h.0) (λ x h. h.1) bytes f rest fits e
field_takes (kinds.Statuses most) bytes f rest fits e = takes_as (kinds.Statuses most) fields.Statuses (list_at status_at most) _ _ (list_codec status_at status _ most status_codec) (λ x. refl) (λ x h. h.0) (λ x h. h.1) bytes f rest fits e
field_takes (kinds.Volumes most) bytes f rest fits e = takes_as (kinds.Volumes most) fields.Volumes (list_at listed_volume_at most) _ _ (volumes_codec most) (λ x. refl) (λ x h. (h.0, (apart x h.1).0)) (λ x h. (apart x h.1).1) bytes f rest fits e

pub field_again : (k : Kind) (f : Field) (rest : List ℕ) → IsOf k f → IsInRange f → field_at k (field_spelled f ++ rest) ≡ Ok (f, rest)
unfolding field_at
field_again kinds.Word (fields.Word n) rest h r = ap (read_as fields.Word) (word_codec.again n rest r)
field_again kinds.Signed (fields.Signed z) rest h r = ap (read_as fields.Signed) (signed_codec.again z rest r)
field_again kinds.VolumeKind (fields.VolumeKind n) rest h r = ap (read_as fields.VolumeKind) (volume_kind_codec.again n rest (h, r))
field_again kinds.Server (fields.Server n) rest h r = ap (read_as fields.Server) (server_codec.again n rest (h, r))
field_again kinds.Entry (fields.Entry x) rest h r = ap (read_as fields.Entry) (entry_codec.again x rest (h, r))
field_again kinds.Fid (fields.Fid x) rest h r = ap (read_as fields.Fid) (fid_codec.again x rest r)
field_again kinds.StoreStatus (fields.StoreStatus x) rest h r = ap (read_as fields.StoreStatus) (store_status_codec.again x rest r)
field_again kinds.FetchStatus (fields.FetchStatus x) rest h r = ap (read_as fields.FetchStatus) (status_codec.again x rest r)
field_again kinds.CallBack (fields.CallBack x) rest h r = ap (read_as fields.CallBack) (callback_codec.again x rest r)
field_again kinds.VolSync (fields.VolSync x) rest h r = ap (read_as fields.VolSync) (sync_codec.again x rest r)
field_again (kinds.Opaque most) (fields.Opaque bytes) rest h r = ap (read_as fields.Opaque) ((opaque_codec most).again bytes rest h)
field_again (kinds.Fids most) (fields.Fids xs) rest h r = ap (read_as fields.Fids) ((list_codec fid_at fid _ most fid_codec).again xs rest (h, r))
field_again (kinds.CallBacks most) (fields.CallBacks xs) rest h r = ap (read_as fields.CallBacks) ((list_codec callback_at callback _ most callback_codec).again xs rest (h, r))
field_again (kinds.Statuses most) (fields.Statuses xs) rest h r = ap (read_as fields.Statuses) ((list_codec status_at status _ most status_codec).again xs rest (h, r))
field_again (kinds.Volumes most) (fields.Volumes xs) rest h r = ap (read_as fields.Volumes) ((volumes_codec most).again xs rest (h.0, each_together IsListedVolume (λ v. AreWords (listed_volume_words v)) xs h.1 r))
field_again _ _ rest h r = absurd h

-- ---- the fields of a shape

pub bind_ok : {A B E : Type 0} (r : Result A E) (f : A → Result B E) (y : B) → (r >>= f) ≡ Ok y → (x : A) × (r ≡ Ok x) × (f x ≡ Ok y)
bind_ok (Ok x) f y e = (x, refl, e)
bind_ok (Err d) f y e = absurd cc

pub in_place_ok : {A : Type 0} (place : ℕ) (r : Result A XdrFault) (x : A) → in_place place r ≡ Ok x → r ≡ Ok x
in_place_ok place (Ok y) x e = cc
in_place_ok place (Err f) x e = absurd cc

abbrev pub shape_done : {A : Type 0} → A → Result A ShapeFault
shape_done x = Ok x

-- fields that were taken from the front, of these kinds
pub record TakesFields (ks : List Kind) (bytes : List ℕ) (fs : List Field) (rest : List ℕ) : Type 0 where
  pub takes : Takes bytes (fields_spelled fs) rest
  pub are_of : AreOf ks fs
  pub in_range : AreInRange fs

pub shape_ok_is : {A : Type 0} (x y : A) → shape_done x ≡ shape_done y → x ≡ y
shape_ok_is x y e = cc

pub fields_take : (place : ℕ) (ks : List Kind) (bytes : List ℕ) (fs : List Field) (rest : List ℕ) → IsBytes bytes → fields_at place ks bytes ≡ Ok (fs, rest) → TakesFields ks bytes fs rest
unfolding fields_at
fields_take place [] bytes fs rest fits e =
    subst (λ (y : List Field × List ℕ). TakesFields [] bytes y.0 y.1) (shape_ok_is ([], bytes) (fs, rest) e) (record { takes = record { parts = refl; rest_fits = fits }; are_of = tt; in_range = tt })
fields_take place (k ∷ ks) bytes fs rest fits e =
    let a = bind_ok (in_place place (field_at k bytes)) (λ first. fields_at (place + 1) ks first.1 >>= λ others. Ok (first.0 ∷ others.0, others.1)) (fs, rest) e in
    let b = bind_ok (fields_at (place + 1) ks a.0.1) (λ others. Ok (a.0.0 ∷ others.0, others.1)) (fs, rest) a.2 in
    let first = field_takes k bytes a.0.0 a.0.1 fits (in_place_ok place (field_at k bytes) a.0 a.1) in
    let second = fields_take (place + 1) ks a.0.1 b.0.0 b.0.1 first.takes.rest_fits b.1 in
    let both = Takes-then bytes (field_spelled a.0.0) a.0.1 (fields_spelled b.0.0) b.0.1 first.takes second.takes in
    let made : List Field × List ℕ = (a.0.0 ∷ b.0.0, b.0.1) in
    let here : TakesFields (k ∷ ks) bytes made.0 made.1 = record { takes = rw flat_map-cons both; are_of = (first.is_of, second.are_of); in_range = (first.in_range, second.in_range) } in
    subst (λ (y : List Field × List ℕ). TakesFields (k ∷ ks) bytes y.0 y.1) (shape_ok_is made (fs, rest) b.2) here

pub fields_again : (place : ℕ) (ks : List Kind) (fs : List Field) (rest : List ℕ) → AreOf ks fs → AreInRange fs → fields_at place ks (fields_spelled fs ++ rest) ≡ Ok (fs, rest)
unfolding fields_at
fields_again place [] [] rest h r = refl
fields_again place (k ∷ ks) (f ∷ fs) rest h r =
    let regrouped : fields_spelled (f ∷ fs) ++ rest ≡ field_spelled f ++ (fields_spelled fs ++ rest) = ap (λ (t : List ℕ). t ++ rest) (flat_map-cons field_spelled f fs) ∙ append_assoc (field_spelled f) (fields_spelled fs) rest in
    ap (fields_at place (k ∷ ks)) regrouped ∙ rw (field_again k f (fields_spelled fs ++ rest) h.0 r.0, fields_again (place + 1) ks fs rest h.1 r.1) refl
fields_again place [] (f ∷ fs) rest h r = absurd h
fields_again place (k ∷ ks) [] rest h r = absurd h
