-- What a change leaves has a form in a record, and what is listed fits into a message.
use Rattle.std.proofs.Common.{◌≡◌, ◌≤◌, ◌<◌, ◌^◌, ℕ, Bool, true, false, List, [], ◌∷◌, length, not, Option, Some, None, refl, arith, le-leb, le-ltb, lit<, ltb-false, if◌then◌else◌}
use Rattle.std.specs.Prelude.{◌&&◌, nat_eq, nat_le, nat_lt}
use Rattle.std.specs.List.{AllByRecursion}
use Rattle.std.proofs.lemmas.Bool.{leb-true}
use Rattle.afs_num.specs.declared.location_calls.LocEntry.{LocEntry}
use Rattle.afs_num.specs.declared.location_calls.LocSite.{LocSite}
use Rattle.spec_model.proofs.Basics.{both}
use Rattle.spec_records.specs.LocRecords.{deed_form, entry_form, leaves, listed_form, lock_form, most_sites, removes, sets, site_form, Listed, Lock}
use Rattle.spec_records.specs.Records.{flag_form, server_form}
use Rattle.spec_shape.specs.Rows.{empty_entry}
use Rattle.spec_shape.specs.Spelling.{entry_words, site_words}
use Rattle.spec_shape.specs.Tables.{IsEntry, IsSite}
use Rattle.afs_xdr.specs.Words.{AreWords}

-- ---- locks, entries with them, deeds

flag_fits : (b : Bool) → flag_form.Fits b
flag_fits true = (lit< tt, refl)
flag_fits false = (lit< tt, refl)

made_by : (b : Bool) (l : Lock) (o : Option (Option Lock)) → b ≡ false → (if b then o else Some (Some l)) ≡ Some (Some l)
made_by true l o e = absurd cc
made_by false l o e = refl

pub lock_fits : (l : Lock) → nat_eq l.operation 0 ≡ false → l.operation < 2 ^ 32 → l.stamp < 2 ^ 32 → lock_form.Fits (Some l)
lock_fits l some operation stamp = ((operation, (stamp, flag_fits l.forced)), made_by (nat_eq l.operation 0) l (if nat_eq l.stamp 0 && not l.forced then Some None else None) some)

pub none_fits : lock_form.Fits None
none_fits = ((lit< tt, (lit< tt, flag_fits false)), refl)

pub listed_fits : (e : LocEntry) (o : Option Lock) → entry_form.Fits e → lock_form.Fits o → listed_form.Fits (record { entry = e; lock = o })
listed_fits e o entry lock = ((entry, lock), refl)

pub sets_fits : (l : Listed) → listed_form.Fits l → deed_form.Fits (sets l)
sets_fits l fits = ((lit< tt, fits), refl)

pub removes_fits : (e : LocEntry) → entry_form.Fits e → deed_form.Fits (removes e)
removes_fits e fits = ((lit< tt, listed_fits e None fits none_fits), refl)

no_entry_fits : entry_form.Fits empty_entry
unfolding entry_form
no_entry_fits = (((omega arith, lit< tt), (lit< tt, (lit< tt, (lit< tt, (lit< tt, ((lit< tt, tt), refl)))))), refl)

pub leaves_fits : deed_form.Fits leaves
leaves_fits = ((lit< tt, listed_fits empty_entry None no_entry_fits none_fits), refl)

-- ---- entries in messages

passes : {A : Type 0} (b : Bool) (x y : A) → (if b then Some x else None) ≡ Some y → b ≡ true
passes {A} true x y e = refl
passes {A} false x y e = absurd cc

server_within : (n : ℕ) → server_form.Fits n → (1 ≤ n) × (n ≤ 8)
server_within n fits =
    let p = both (nat_le 1 n) (nat_le n 8) (passes (nat_le 1 n && nat_le n 8) n n fits.1) in
    (leb-true 1 n p.0, leb-true n 8 p.1)

sites_within : (ss : List LocSite) → AllByRecursion site_form.Fits ss → AllByRecursion IsSite ss
sites_within [] fits = tt
sites_within (s ∷ ss) fits = (server_within s.server fits.0.0.0, sites_within ss fits.1)

not_more : (b : Bool) → not b ≡ true → b ≡ false
not_more true e = absurd cc
not_more false e = refl

-- what has a form fits into a message
pub entry_within : (e : LocEntry) → entry_form.Fits e → IsEntry e
unfolding entry_form
entry_within e fits = record {
  name = fits.0.0;
  count = (ltb-false most_sites (length e.sites) (not_more (nat_lt most_sites (length e.sites)) (passes (not (nat_lt most_sites (length e.sites))) e.sites e.sites fits.0.1.1.1.1.1.1)), fits.0.1.1.1.1.1.0.0);
  sites = sites_within e.sites fits.0.1.1.1.1.1.0.1;
}

-- ---- and back

server_formed : (n : ℕ) → n < 2 ^ 32 → (1 ≤ n) × (n ≤ 8) → server_form.Fits n
server_formed n word is = (word, rw (le-leb 1 n is.0, le-leb n 8 is.1) refl)

sites_formed : (ss : List LocSite) → AllByRecursion IsSite ss → AllByRecursion (λ (s : LocSite). AreWords (site_words s)) ss → AllByRecursion site_form.Fits ss
sites_formed [] are words = tt
sites_formed (s ∷ ss) are words = (((server_formed s.server words.0.0 are.0, words.0.1.0), refl), sites_formed ss are.1 words.1)

pub entry_formed : (e : LocEntry) → IsEntry e → AreWords (entry_words e) → AllByRecursion (λ (s : LocSite). AreWords (site_words s)) e.sites → entry_form.Fits e
unfolding entry_form
entry_formed e is words sites =
    ((is.name, (words.0, (words.1.0, (words.1.1.0, (words.1.1.1.0, ((is.count.1, sites_formed e.sites is.sites sites), rw (le-ltb most_sites (length e.sites) is.count.0) refl)))))), refl)
