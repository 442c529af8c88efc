-- The records of the location database: what is read as one is spelled so, and what is spelled is read.
use Rattle.std.proofs.Common.{arith, ◌≡◌, ℕ, ◌<◌, ◌^◌, Bool, true, false, cond, List, [], ◌∷◌, ◌++◌, length, not, Option, Some, None, refl, sym, ap, subst, ◌∙◌, inl, inr}
use Rattle.std.specs.Prelude.{◌&&◌, nat_eq, nat_lt}
use Rattle.std.proofs.lemmas.Bool.{eqb-true}
use Rattle.afs_num.specs.declared.location_calls.LocEntry.{LocEntry}
use Rattle.afs_num.specs.declared.location_calls.LocSite.{LocSite}
use Rattle.spec_shape.specs.Rows.{empty_entry}
use Rattle.spec_shape.proofs.Codecs.{IsBytes}
use Rattle.spec_records.specs.Forms.{word_form, text_form, ◌before◌, list_form}
use Rattle.spec_records.specs.LocRecords.{Boot, Database, EntryDeed, First, FitsLocRecord, Listed, LocBody, LocRecord, Lock, deed_form, deed_made, deed_parts, each, entry_form, entry_made, entry_parts, is_empty, is_no_entry, leaves, listed_form, loc_record, loc_record_at, loc_record_bytes, loc_table, lock_form, lock_made, lock_parts, most_sites, removes, row, sets, site_form, sites_form, unlocked_by}
use Rattle.spec_records.specs.Records.{body_in, flag_form, made_at_end, made_behind, most_name, server_form, spelled_in, FitsIn}
use Rattle.spec_records.proofs.Forms.{IsSoundForm, before_sound, known_sound, list_sound, only_sound, some_is, text_sound, word_sound}
use Rattle.spec_records.proofs.Spelled.{IsRowOf, IsSoundTable, RowIsSoundIn, TakesEnd, TakesField, at_end, behind, behind_again, both_true, chosen, flag_sound, in_rows, none_is_some, server_sound, table_read, table_spelled}

-- ---- an entry

site_sound : IsSoundForm site_form
site_sound = known_sound (server_form before word_form) (λ (s : LocSite). (s.server, s.flags)) (λ p. Some (record { server = p.0; flags = p.1 })) (before_sound server_form word_form server_sound word_sound) (λ p s e. ap (λ (x : LocSite). (x.server, x.flags)) (sym (some_is (record { server = p.0; flags = p.1 }) s e)))

sites_sound : IsSoundForm sites_form
sites_sound = only_sound (λ (sites : List LocSite). not (nat_lt most_sites (length sites))) (list_form site_form) (list_sound site_form site_sound)

entry_sound : IsSoundForm entry_form
unfolding entry_form
entry_sound =
    known_sound (text_form most_name before word_form before word_form before word_form before word_form before sites_form) entry_parts entry_made
    (before_sound (text_form most_name) (word_form before word_form before word_form before word_form before sites_form) (text_sound most_name)
    (before_sound word_form (word_form before word_form before word_form before sites_form) word_sound
    (before_sound word_form (word_form before word_form before sites_form) word_sound
    (before_sound word_form (word_form before sites_form) word_sound
    (before_sound word_form sites_form word_sound sites_sound)))))
    (λ p x e. ap entry_parts (sym (some_is _ x e)))

not_so : (b : Bool) → not b ≡ true → b ≡ false
not_so true e = absurd cc
not_so false e = refl

lock_told : (p : ℕ × (ℕ × Bool)) (o : Option Lock) → lock_made p ≡ Some o → lock_parts o ≡ p
lock_told p o e = elim (chosen (nat_eq p.0 0) (cond (nat_eq p.1.0 0 && not p.1.1) (Some None) None) (Some (Some (record { operation = p.0; stamp = p.1.0; forced = p.1.1 }))) (Some o) e) [
  | inl a ↦ elim (chosen (nat_eq p.1.0 0 && not p.1.1) (Some None) None (Some o) a.1) [
    | inl c ↦
        (let b = both_true (nat_eq p.1.0 0) (not p.1.1) c.0 in
        ap lock_parts (sym (some_is None o c.1)) ∙ (ap (λ (n : ℕ). (n, (0, false))) (sym (eqb-true p.0 0 a.0)) ∙ (ap (λ (n : ℕ). (p.0, (n, false))) (sym (eqb-true p.1.0 0 b.0)) ∙ ap (λ (t : Bool). (p.0, (p.1.0, t))) (sym (not_so p.1.1 b.1)))))
    | inr c ↦ absurd (none_is_some o c.1)
  ]
  | inr a ↦ ap lock_parts (sym (some_is (Some (record { operation = p.0; stamp = p.1.0; forced = p.1.1 })) o a.1))
]

lock_sound : IsSoundForm lock_form
lock_sound = known_sound (word_form before word_form before flag_form) lock_parts lock_made (before_sound word_form (word_form before flag_form) word_sound (before_sound word_form flag_form word_sound flag_sound)) lock_told

listed_sound : IsSoundForm listed_form
listed_sound = known_sound (entry_form before lock_form) (λ (l : Listed). (l.entry, l.lock)) (λ p. Some (record { entry = p.0; lock = p.1 })) (before_sound entry_form lock_form entry_sound lock_sound) (λ p l e. ap (λ (x : Listed). (x.entry, x.lock)) (sym (some_is (record { entry = p.0; lock = p.1 }) l e)))

-- ---- what a record does

unlocked_is : (o : Option Lock) (d : Option EntryDeed) (x : EntryDeed) → unlocked_by o d ≡ Some x → (o ≡ None) × (d ≡ Some x)
unlocked_is None d x e = (refl, e)
unlocked_is (Some l) d x e = absurd (none_is_some x e)

empty_is : {A : Type 0} (xs : List A) → is_empty xs ≡ true → xs ≡ []
empty_is {A} [] e = refl
empty_is {A} (x ∷ xs) e = absurd cc

abbrev entry_of : List ℕ → ℕ → ℕ → ℕ → ℕ → List LocSite → LocEntry
entry_of name id copy backup flags sites = record { name = name; read_write = id; read_only = copy; backup = backup; flags = flags; sites = sites }

is_none : (e : LocEntry) → is_no_entry e ≡ true → e ≡ empty_entry
is_none e h =
    let a = both_true (is_empty e.name) _ h in
    let b = both_true (nat_eq e.read_write 0) _ a.1 in
    let c = both_true (nat_eq e.read_only 0) _ b.1 in
    let d = both_true (nat_eq e.backup 0) _ c.1 in
    let f = both_true (nat_eq e.flags 0) (is_empty e.sites) d.1 in
    ap (λ (x : List ℕ). entry_of x e.read_write e.read_only e.backup e.flags e.sites) (empty_is e.name a.0)
    ∙ (ap (λ (n : ℕ). entry_of [] n e.read_only e.backup e.flags e.sites) (eqb-true e.read_write 0 b.0)
    ∙ (ap (λ (n : ℕ). entry_of [] 0 n e.backup e.flags e.sites) (eqb-true e.read_only 0 c.0)
    ∙ (ap (λ (n : ℕ). entry_of [] 0 0 n e.flags e.sites) (eqb-true e.backup 0 d.0)
    ∙ (ap (λ (n : ℕ). entry_of [] 0 0 0 n e.sites) (eqb-true e.flags 0 f.0)
    ∙ ap (λ (ss : List LocSite). entry_of [] 0 0 0 0 ss) (empty_is e.sites f.1)))))

abbrev both_in : LocEntry → Option Lock → Listed
both_in e o = record { entry = e; lock = o }

deed_told : (p : ℕ × Listed) (d : EntryDeed) → deed_made p ≡ Some d → deed_parts d ≡ p
deed_told p d e = elim (chosen (nat_eq p.0 0) (Some (sets p.1)) _ (Some d) e) [
  | inl a ↦ ap deed_parts (sym (some_is (sets p.1) d a.1)) ∙ ap (λ (n : ℕ). (n, p.1)) (sym (eqb-true p.0 0 a.0))
  | inr a ↦ elim (chosen (nat_eq p.0 1) (unlocked_by p.1.lock (Some (removes p.1.entry))) _ (Some d) a.1) [
    | inl b ↦
        (let u = unlocked_is p.1.lock (Some (removes p.1.entry)) d b.1 in
        ap deed_parts (sym (some_is (removes p.1.entry) d u.1)) ∙ (ap (λ (o : Option Lock). (1, both_in p.1.entry o)) (sym u.0) ∙ ap (λ (n : ℕ). (n, p.1)) (sym (eqb-true p.0 1 b.0))))
    | inr b ↦ elim (chosen (nat_eq p.0 2 && is_no_entry p.1.entry) (unlocked_by p.1.lock (Some leaves)) None (Some d) b.1) [
      | inl c ↦
          (let t = both_true (nat_eq p.0 2) (is_no_entry p.1.entry) c.0 in
          let u = unlocked_is p.1.lock (Some leaves) d c.1 in
          ap deed_parts (sym (some_is leaves d u.1))
          ∙ (ap (λ (x : LocEntry). (2, both_in x None)) (sym (is_none p.1.entry t.1)) ∙ (ap (λ (o : Option Lock). (2, both_in p.1.entry o)) (sym u.0) ∙ ap (λ (n : ℕ). (n, p.1)) (sym (eqb-true p.0 2 t.0)))))
      | inr c ↦ absurd (none_is_some d c.1)
    ]
  ]
]

deed_sound : IsSoundForm deed_form
deed_sound = known_sound (word_form before listed_form) deed_parts deed_made (before_sound word_form listed_form word_sound listed_sound) deed_told

-- ---- rows

abbrev IsLocRow : ℕ → List ℕ → LocBody → Type 0
IsLocRow number bytes x = IsRowOf loc_table number bytes x

abbrev RowIsSound : LocBody → Type 0
RowIsSound d = RowIsSoundIn loc_table d

first_row : (bytes : List ℕ) (x : LocBody) → (TakesField (list_form listed_form) (TakesField word_form (TakesField word_form TakesEnd))) First bytes x → IsLocRow (row (First [] 0 0)).number bytes x
first_row bytes x t = subst (λ (y : LocBody). IsLocRow (row (First [] 0 0)).number bytes y) {x = First t.0 t.1.1.1.1.0 t.1.1.1.1.1.1.1.1.0} t.1.1.1.1.1.1.1.1.1.1.1.1.1 (record { numbered = refl; spelled = t.1.1.0 ∙ ap (λ (s : List ℕ). (list_form listed_form).spelled t.0 ++ s) (t.1.1.1.1.1.1.0 ∙ ap (λ (s : List ℕ). word_form.spelled t.1.1.1.1.0 ++ s) (t.1.1.1.1.1.1.1.1.1.1.0 ∙ ap (λ (s : List ℕ). word_form.spelled t.1.1.1.1.1.1.1.1.0 ++ s) (t.1.1.1.1.1.1.1.1.1.1.1.1.0))); fits = (t.1.1.1.0, (t.1.1.1.1.1.1.1.0, (t.1.1.1.1.1.1.1.1.1.1.1.0, tt))) })

first_sound : RowIsSound (First [] 0 0)
first_sound bytes x fits e = first_row bytes x ((behind (list_form listed_form) (list_sound listed_form listed_sound) (made_behind word_form (made_behind word_form made_at_end)) (TakesField word_form (TakesField word_form TakesEnd)) (behind word_form word_sound (made_behind word_form made_at_end) (TakesField word_form TakesEnd) (behind word_form word_sound made_at_end TakesEnd at_end))) First bytes x fits e)

boot_row : (bytes : List ℕ) (x : LocBody) → (TakesField word_form TakesEnd) Boot bytes x → IsLocRow (row (Boot 0)).number bytes x
boot_row bytes x t = subst (λ (y : LocBody). IsLocRow (row (Boot 0)).number bytes y) {x = Boot t.0} t.1.1.1.1.1 (record { numbered = refl; spelled = t.1.1.0 ∙ ap (λ (s : List ℕ). word_form.spelled t.0 ++ s) (t.1.1.1.1.0); fits = (t.1.1.1.0, tt) })

boot_sound : RowIsSound (Boot 0)
boot_sound bytes x fits e = boot_row bytes x ((behind word_form word_sound made_at_end TakesEnd at_end) Boot bytes x fits e)

database_row : (bytes : List ℕ) (x : LocBody) → (TakesField deed_form (TakesField word_form (TakesField word_form TakesEnd))) Database bytes x → IsLocRow (row (Database leaves 0 0)).number bytes x
database_row bytes x t = subst (λ (y : LocBody). IsLocRow (row (Database leaves 0 0)).number bytes y) {x = Database t.0 t.1.1.1.1.0 t.1.1.1.1.1.1.1.1.0} t.1.1.1.1.1.1.1.1.1.1.1.1.1 (record { numbered = refl; spelled = t.1.1.0 ∙ ap (λ (s : List ℕ). deed_form.spelled t.0 ++ s) (t.1.1.1.1.1.1.0 ∙ ap (λ (s : List ℕ). word_form.spelled t.1.1.1.1.0 ++ s) (t.1.1.1.1.1.1.1.1.1.1.0 ∙ ap (λ (s : List ℕ). word_form.spelled t.1.1.1.1.1.1.1.1.0 ++ s) (t.1.1.1.1.1.1.1.1.1.1.1.1.0))); fits = (t.1.1.1.0, (t.1.1.1.1.1.1.1.0, (t.1.1.1.1.1.1.1.1.1.1.1.0, tt))) })

database_sound : RowIsSound (Database leaves 0 0)
database_sound bytes x fits e = database_row bytes x ((behind deed_form deed_sound (made_behind word_form (made_behind word_form made_at_end)) (TakesField word_form (TakesField word_form TakesEnd)) (behind word_form word_sound (made_behind word_form made_at_end) (TakesField word_form TakesEnd) (behind word_form word_sound made_at_end TakesEnd at_end))) Database bytes x fits e)

body_takes : (number : ℕ) (bytes : List ℕ) (x : LocBody) → IsBytes bytes → body_in loc_table number bytes ≡ Some x → IsLocRow number bytes x
body_takes number bytes x fits e = in_rows loc_table number bytes x each (first_sound, (boot_sound, (database_sound, tt))) fits e

body_again : (x : LocBody) → (row x).Fits → body_in loc_table (row x).number (row x).spelled ≡ Some x
body_again (First v1 v2 v3) fits =
    behind_again (list_form listed_form) (list_sound listed_form listed_sound) (made_behind word_form (made_behind word_form made_at_end)) First v1 (word_form.spelled v2 ++ (word_form.spelled v3 ++ [])) fits.0
    ∙ (behind_again word_form word_sound (made_behind word_form made_at_end) (First v1) v2 (word_form.spelled v3 ++ []) fits.1.0 ∙ behind_again word_form word_sound made_at_end (First v1 v2) v3 [] fits.1.1.0)
body_again (Boot v1) fits = behind_again word_form word_sound made_at_end Boot v1 [] fits.0
body_again (Database v1 v2 v3) fits =
    behind_again deed_form deed_sound (made_behind word_form (made_behind word_form made_at_end)) Database v1 (word_form.spelled v2 ++ (word_form.spelled v3 ++ [])) fits.0
    ∙ (behind_again word_form word_sound (made_behind word_form made_at_end) (Database v1) v2 (word_form.spelled v3 ++ []) fits.1.0 ∙ behind_again word_form word_sound made_at_end (Database v1 v2) v3 [] fits.1.1.0)

number_small : (x : LocBody) → (row x).number < 2 ^ 32
number_small (First v1 v2 v3) = omega arith
number_small (Boot v1) = omega arith
number_small (Database v1 v2 v3) = omega arith

-- ---- records

loc_sound : IsSoundTable loc_table
loc_sound = record { takes = body_takes; again = body_again; small = number_small }

pub loc_record_read : (r : LocRecord) → FitsLocRecord r → loc_record_at (loc_record_bytes r) ≡ Some r
unfolding loc_record_at loc_record_bytes
loc_record_read r fits = table_read loc_table loc_sound loc_record r.head r.body fits

pub loc_record_spelled : (bytes : List ℕ) (r : LocRecord) → IsBytes bytes → loc_record_at bytes ≡ Some r → FitsLocRecord r × (loc_record_bytes r ≡ bytes)
unfolding loc_record_at loc_record_bytes
loc_record_spelled bytes r fits e =
    let a = table_spelled loc_table loc_sound loc_record bytes r fits e in
    subst (λ (y : LocRecord). FitsIn loc_table y.head y.body × (spelled_in loc_table y.head y.body ≡ bytes)) {x = loc_record a.head a.body} a.is (a.fits, a.spelled)
