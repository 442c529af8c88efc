-- What is read is spelled so, and what is spelled is read: volumes in a list, sites and location entries.
use Rattle.std.proofs.Common.{◌≡◌, ℕ, List, [], ◌∷◌, ◌++◌, Result, Ok, refl, sym, ap, subst, ◌∙◌, append_assoc, append-nil}
use Rattle.std.specs.List.{AllByRecursion}
use Rattle.std.proofs.lemmas.List.Concat.{flat_map-cons}
use Rattle.afs_num.specs.declared.volume_calls.ListedVolume.{ListedVolume}
use Rattle.afs_num.specs.declared.location_calls.LocSite.{LocSite}
use Rattle.afs_num.specs.declared.location_calls.LocEntry.{LocEntry}
use Rattle.afs_xdr.specs.declared.faults.XdrFault.{XdrFault}
use Rattle.afs_xdr.specs.Words.{AreWords, ◌>>=◌, word, words, opaque, word_at, opaque_at}
use Rattle.spec_shape.specs.Items.{list_at, volume_kind_at, server_at, listed_volume_at, site_at, entry_at, volume_name_limit, site_limit}
use Rattle.spec_shape.specs.Spelling.{list, listed_volume, site, entry, listed_volume_words, site_words, entry_words}
use Rattle.spec_shape.specs.Tables.{IsListedVolume, IsSite, IsEntry}
use Rattle.spec_shape.proofs.Codecs.{Takes, Takes-then, IsCodec, bind_ok, bind_assoc, ok_is, word_codec, opaque_codec, list_codec, volume_kind_codec, server_codec, fits_codec}

-- ---- one value behind another

abbrev both_at : {X Y : Type 0} → (List ℕ → Result (X × List ℕ) XdrFault) → (List ℕ → Result (Y × List ℕ) XdrFault) → List ℕ → Result ((X × Y) × List ℕ) XdrFault
both_at at next bytes = at bytes >>= λ x. next x.1 >>= λ y. Ok ((x.0, y.0), y.1)

both_codec : {X Y : Type 0} {at : List ℕ → Result (X × List ℕ) XdrFault} {next : List ℕ → Result (Y × List ℕ) XdrFault} {spell : X → List ℕ} {spell_next : Y → List ℕ} {Fits : X → Type 0} {FitsNext : Y → Type 0}
    → IsCodec at spell Fits → IsCodec next spell_next FitsNext → IsCodec (both_at at next) (λ p. spell p.0 ++ spell_next p.1) (λ p. Fits p.0 × FitsNext p.1)
both_codec {X} {Y} {at} {next} {spell} {spell_next} {Fits} {FitsNext} first second = record {
  takes = λ bytes p rest fits e.
      let a = bind_ok (at bytes) (λ x. next x.1 >>= λ y. Ok ((x.0, y.0), y.1)) (p, rest) e in
      let b = bind_ok (next a.0.1) (λ y. Ok ((a.0.0, y.0), y.1)) (p, rest) a.2 in
      let t = first.takes bytes a.0.0 a.0.1 fits a.1 in
      let u = second.takes a.0.1 b.0.0 b.0.1 t.0.rest_fits b.1 in
      let both = Takes-then bytes (spell a.0.0) a.0.1 (spell_next b.0.0) b.0.1 t.0 u.0 in
      subst (λ (y : (X × Y) × List ℕ). Takes bytes (spell y.0.0 ++ spell_next y.0.1) y.1 × (Fits y.0.0 × FitsNext y.0.1)) (ok_is ((a.0.0, b.0.0), b.0.1) (p, rest) b.2) (both, (t.1, u.1));
  again = λ p rest fits. ap (both_at at next) (append_assoc (spell p.0) (spell_next p.1) rest) ∙ rw (first.again p.0 (spell_next p.1 ++ rest) fits.0, second.again p.1 rest fits.1) refl;
}

-- the same bytes, seen as another value
seen_codec : {X Y : Type 0} {at : List ℕ → Result (X × List ℕ) XdrFault} {spell : X → List ℕ} {Fits : X → Type 0} (made : X → Y) (told : Y → X) (seen_at : List ℕ → Result (Y × List ℕ) XdrFault) (seen_spell : Y → List ℕ)
    → IsCodec at spell Fits → ((y : Y) → made (told y) ≡ y) → ((x : X) → told (made x) ≡ x)
    → ((bytes : List ℕ) → seen_at bytes ≡ (at bytes >>= λ x. Ok (made x.0, x.1))) → ((y : Y) → spell (told y) ≡ seen_spell y) → IsCodec seen_at seen_spell (λ y. Fits (told y))
seen_codec {X} {Y} {at} {spell} {Fits} made told seen_at seen_spell codec back forth is spelled = record {
  takes = λ bytes y rest fits e.
      let a = bind_ok (at bytes) (λ x. Ok (made x.0, x.1)) (y, rest) (sym (is bytes) ∙ e) in
      let t = codec.takes bytes a.0.0 a.0.1 fits a.1 in
      let here = subst (λ (x : X). Takes bytes (spell x) a.0.1 × Fits x) (sym (forth a.0.0)) t in
      let there = subst (λ (p : Y × List ℕ). Takes bytes (spell (told p.0)) p.1 × Fits (told p.0)) (ok_is (made a.0.0, a.0.1) (y, rest) a.2) here in
      (subst (λ (w : List ℕ). Takes bytes w rest) (spelled y) there.0, there.1);
  again = λ y rest fits. is (seen_spell y ++ rest) ∙ rw (sym (spelled y), codec.again (told y) rest fits) (ap (λ (v : Y). Ok (v, rest)) (back y));
}

-- ---- their words

last_word : (n : ℕ) → word n ≡ words (n ∷ [])
last_word n = sym (flat_map-cons word n [] ∙ append-nil (word n))

word_then : (n : ℕ) (ns : List ℕ) (t : List ℕ) → t ≡ words ns → word n ++ t ≡ words (n ∷ ns)
word_then n ns t e = ap (λ (w : List ℕ). word n ++ w) e ∙ sym (flat_map-cons word n ns)

words_then : (n : ℕ) (ns rest t : List ℕ) → t ≡ words ns ++ rest → word n ++ t ≡ words (n ∷ ns) ++ rest
words_then n ns rest t e = ap (λ (w : List ℕ). word n ++ w) e ∙ (sym (append_assoc (word n) (words ns) rest) ∙ ap (λ (w : List ℕ). w ++ rest) (sym (flat_map-cons word n ns)))

-- ---- volumes in a list

listed_of : ℕ × (ℕ × (ℕ × ℕ)) → ListedVolume
listed_of p = record { volume = p.0; kind = p.1.0; flags = p.1.1.0; release = p.1.1.1 }

abbrev listed_parts : ListedVolume → ℕ × (ℕ × (ℕ × ℕ))
listed_parts v = (v.volume, (v.kind, (v.flags, v.release)))

listed_by_parts : (bytes : List ℕ) → listed_volume_at bytes ≡ (both_at word_at (both_at volume_kind_at (both_at word_at word_at)) bytes >>= λ p. Ok (listed_of p.0, p.1))
unfolding listed_volume_at listed_of
listed_by_parts bytes = simp bind_assoc

listed_spelled : (v : ListedVolume) → word v.volume ++ (word v.kind ++ (word v.flags ++ word v.release)) ≡ listed_volume v
listed_spelled v = word_then v.volume (v.kind ∷ v.flags ∷ v.release ∷ []) _ (word_then v.kind (v.flags ∷ v.release ∷ []) _ (word_then v.flags (v.release ∷ []) _ (last_word v.release)))

pub listed_volume_codec : IsCodec listed_volume_at listed_volume (λ v. IsListedVolume v × AreWords (listed_volume_words v))
unfolding listed_of
listed_volume_codec =
    fits_codec (λ v. IsListedVolume v × AreWords (listed_volume_words v))
    (seen_codec listed_of listed_parts listed_volume_at listed_volume (both_codec word_codec (both_codec volume_kind_codec (both_codec word_codec word_codec))) (λ v. refl) (λ p. refl) listed_by_parts listed_spelled)
    (λ v h. (h.1.0.0, (h.0, (h.1.0.1, (h.1.1.0, (h.1.1.1, tt))))))
    (λ v h. (h.1.0, ((h.0, h.1.1.0), (h.1.1.1.0, h.1.1.1.1.0))))

-- ---- sites

site_of : ℕ × ℕ → LocSite
site_of p = record { server = p.0; flags = p.1 }

abbrev site_parts : LocSite → ℕ × ℕ
site_parts s = (s.server, s.flags)

site_by_parts : (bytes : List ℕ) → site_at bytes ≡ (both_at server_at word_at bytes >>= λ p. Ok (site_of p.0, p.1))
unfolding site_at site_of
site_by_parts bytes = simp bind_assoc

site_spelled : (s : LocSite) → word s.server ++ word s.flags ≡ site s
site_spelled s = word_then s.server (s.flags ∷ []) _ (last_word s.flags)

pub site_codec : IsCodec site_at site (λ s. IsSite s × AreWords (site_words s))
unfolding site_of
site_codec =
    fits_codec (λ s. IsSite s × AreWords (site_words s))
    (seen_codec site_of site_parts site_at site (both_codec server_codec word_codec) (λ s. refl) (λ p. refl) site_by_parts site_spelled)
    (λ s h. (h.0.0, (h.0.1, (h.1, tt))))
    (λ s h. ((h.0, h.1.0), h.1.1.0))

-- ---- entries

-- what holds of each, apart and together
pub each_apart : {T : Type 0} (P Q : T → Type 0) (xs : List T) → AllByRecursion (λ x. P x × Q x) xs → AllByRecursion P xs × AllByRecursion Q xs
each_apart P Q [] h = (tt, tt)
each_apart P Q (x ∷ xs) h = let rest = each_apart P Q xs h.1 in ((h.0.0, rest.0), (h.0.1, rest.1))

pub each_together : {T : Type 0} (P Q : T → Type 0) (xs : List T) → AllByRecursion P xs → AllByRecursion Q xs → AllByRecursion (λ x. P x × Q x) xs
each_together P Q [] p q = tt
each_together P Q (x ∷ xs) p q = ((p.0, q.0), each_together P Q xs p.1 q.1)

abbrev EntryParts : Type 0
EntryParts = List ℕ × (ℕ × (ℕ × (ℕ × (ℕ × List LocSite))))

entry_of : EntryParts → LocEntry
entry_of p = record { name = p.0; read_write = p.1.0; read_only = p.1.1.0; backup = p.1.1.1.0; flags = p.1.1.1.1.0; sites = p.1.1.1.1.1 }

abbrev entry_parts : LocEntry → EntryParts
entry_parts e = (e.name, (e.read_write, (e.read_only, (e.backup, (e.flags, e.sites)))))

abbrev sites_at : List ℕ → Result (List LocSite × List ℕ) XdrFault
sites_at bytes = list_at site_at site_limit bytes

abbrev name_at : List ℕ → Result (List ℕ × List ℕ) XdrFault
name_at bytes = opaque_at volume_name_limit bytes

entry_by_parts : (bytes : List ℕ) → entry_at bytes ≡ (both_at name_at (both_at word_at (both_at word_at (both_at word_at (both_at word_at sites_at)))) bytes >>= λ p. Ok (entry_of p.0, p.1))
unfolding entry_at entry_of
entry_by_parts bytes = simp bind_assoc

entry_spelled : (e : LocEntry) → opaque e.name ++ (word e.read_write ++ (word e.read_only ++ (word e.backup ++ (word e.flags ++ list site e.sites)))) ≡ entry e
entry_spelled e =
    let sites = list site e.sites in
    ap (λ (w : List ℕ). opaque e.name ++ w)
    (words_then e.read_write (e.read_only ∷ e.backup ∷ e.flags ∷ []) sites _ (words_then e.read_only (e.backup ∷ e.flags ∷ []) sites _ (words_then e.backup (e.flags ∷ []) sites _ (words_then e.flags [] sites sites refl))))

-- an entry within its limits, whose numbers are words
abbrev pub FitsEntry : LocEntry → Type 0
FitsEntry e = IsEntry e × (AreWords (entry_words e) × AllByRecursion (λ s. AreWords (site_words s)) e.sites)

abbrev IsSiteInWords : LocSite → Type 0
IsSiteInWords s = IsSite s × AreWords (site_words s)

pub entry_codec : IsCodec entry_at entry FitsEntry
unfolding entry_of
entry_codec =
    fits_codec FitsEntry
    (seen_codec entry_of entry_parts entry_at entry (both_codec (opaque_codec volume_name_limit) (both_codec word_codec (both_codec word_codec (both_codec word_codec (both_codec word_codec (list_codec site_at site IsSiteInWords site_limit site_codec))))))
    (λ e. refl) (λ p. refl) entry_by_parts entry_spelled)
    (λ e h.
    let last = h.1.1.1.1.1 in
    let sites = each_apart IsSite (λ s. AreWords (site_words s)) e.sites last.1 in
    (record { name = h.0; count = last.0; sites = sites.0 }, ((h.1.0, (h.1.1.0, (h.1.1.1.0, (h.1.1.1.1.0, tt)))), sites.1)))
    (λ e h.
    let words = h.1.0 in
    (h.0.name, (words.0, (words.1.0, (words.1.1.0, (words.1.1.1.0, (h.0.count, each_together IsSite (λ s. AreWords (site_words s)) e.sites h.0.sites h.1.1)))))))
