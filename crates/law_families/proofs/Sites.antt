-- The server that an entry names, behind what administrators write: a move names another, and nothing else does.
use Rattle.std.proofs.Common.{◌≡◌, ℕ, ◌-◌, ◌*◌, ◌/◌, ◌%◌, ◌^◌, ◌+◌, Bool, true, false, cond, List, [], ◌∷◌, ◌++◌, Option, Some, None, refl, sym, ap, ◌∙◌, arith}
use Rattle.std.proofs.lemmas.Bool.Decides.{nat_tests}
use Rattle.std.proofs.lemmas.Nat.Bits.{and_pow, bit_at_lowest}
use Rattle.std.specs.Prelude.{◌&&◌, not, find, map, nat_eq}
use Rattle.std.specs.List.{list_any}
use Rattle.std.specs.Option.{option_map}
use Rattle.afs_num.specs.declared.location_calls.LocEntry.{LocEntry}
use Rattle.afs_num.specs.declared.location_calls.LocSite.{LocSite}
use Rattle.spec_ideal.specs.Volumes.{has_bit}
use Rattle.spec_records.specs.Entries.{is_read_write, site_of}
use Rattle.spec_adminrows.specs.Entries.{entry_added, entry_backed, entry_moved, entry_released, is_read_only_site, new_entry, new_site, read_only_site, site_moved, site_released, without_bit}

-- ---- flags: the lowest bit is taken away

-- the flag of a read-write volume is the third bit
third_bit : (n m : ℕ) → n / 4 % 2 ≡ m / 4 % 2 → has_bit 4 n ≡ has_bit 4 m
third_bit n m same = ap (λ (x : ℕ). not (nat_eq x 0)) (and_pow n 2 ∙ (ap (λ (x : ℕ). x * 2 ^ 2) same ∙ sym (and_pow m 2)))

lowest_bit : (n : ℕ) → has_bit 1 n ≡ not (nat_eq (n % 2) 0)
lowest_bit n = ap (λ (x : ℕ). not (nat_eq x 0)) (and_pow n 0 ∙ (ap (λ (x : ℕ). x * 2 ^ 0) (bit_at_lowest n) ∙ omega arith))

is_odd : (n : ℕ) → has_bit 1 n ≡ true → n % 2 ≡ 1
is_odd n has = let z : not (nat_eq (n % 2) 0) ≡ true = sym (lowest_bit n) ∙ has in grind (arith, nat_tests, z)

without_by : (b : Bool) (n : ℕ) → has_bit 1 n ≡ b → has_bit 4 (cond b (n - 1) n) ≡ has_bit 4 n
without_by true n has = let odd : n % 2 ≡ 1 = is_odd n has in third_bit (n - 1) n (omega (arith, odd))
without_by false n has = refl

without_lowest : (n : ℕ) → has_bit 4 (without_bit new_site n) ≡ has_bit 4 n
without_lowest n = without_by (has_bit 1 n) n refl

-- ---- sites, each by itself

abbrev server : LocSite → ℕ
server s = s.server

-- the site of the read-write volume stays that, and its server becomes another
site_by : (f : LocSite → LocSite) (g : ℕ → ℕ) (s : LocSite) (x y : Option LocSite) (a b : Bool) → is_read_write s ≡ a → b ≡ a → (is_read_write s ≡ true → (f s).server ≡ g s.server) → option_map server x ≡ option_map g (option_map server y) →
    option_map server (cond b (Some (f s)) x) ≡ option_map g (option_map server (cond a (Some s) y))
site_by f g s x y true true is same to later = ap Some (to is)
site_by f g s x y false false is same to later = later
site_by f g s x y true false is same to later = absurd cc
site_by f g s x y false true is same to later = absurd cc

sites_by : (f : LocSite → LocSite) (g : ℕ → ℕ) → ((s : LocSite) → is_read_write (f s) ≡ is_read_write s) → ((s : LocSite) → is_read_write s ≡ true → (f s).server ≡ g s.server) → (sites : List LocSite) →
    option_map server (find is_read_write (map f sites)) ≡ option_map g (option_map server (find is_read_write sites))
sites_by f g same to [] = refl
sites_by f g same to (s ∷ sites) = site_by f g s (find is_read_write (map f sites)) (find is_read_write sites) (is_read_write s) (is_read_write (f s)) refl (same s) (to s) (sites_by f g same to sites)

-- ---- what is written

-- one more site at the end
added_by : (b : Bool) (s : LocSite) (x y : Option LocSite) → option_map server x ≡ option_map server y → option_map server (cond b (Some s) x) ≡ option_map server (cond b (Some s) y)
added_by true s x y same = refl
added_by false s x y same = same

added_to : (n : ℕ) (sites : List LocSite) → option_map server (find is_read_write (sites ++ record { server = n; flags = new_site + read_only_site } ∷ [])) ≡ option_map server (find is_read_write sites)
added_to n [] = refl
added_to n (s ∷ sites) = added_by (is_read_write s) s (find is_read_write (sites ++ record { server = n; flags = new_site + read_only_site } ∷ [])) (find is_read_write sites) (added_to n sites)

pub added_site : (n : ℕ) (e : LocEntry) → site_of (entry_added n e) ≡ site_of e
added_site n e = added_to n e.sites

pub backed_site : (backup : ℕ) (e : LocEntry) → site_of (entry_backed backup e) ≡ site_of e
backed_site backup e = refl

released_by : (b : Bool) (s : LocSite) → is_read_write (cond b (record s { flags = without_bit new_site s.flags }) s) ≡ is_read_write s
released_by true s = without_lowest s.flags
released_by false s = refl

server_by : (b : Bool) (s : LocSite) → (cond b (record s { flags = without_bit new_site s.flags }) s).server ≡ s.server
server_by true s = refl
server_by false s = refl

same_server : (o : Option ℕ) → option_map (λ (n : ℕ). n) o ≡ o
same_server None = refl
same_server (Some n) = refl

pub released_site : (read_only : ℕ) (reached : List ℕ) (e : LocEntry) → site_of (entry_released read_only reached e) ≡ site_of e
released_site read_only reached e =
    sites_by (site_released reached) (λ (n : ℕ). n) (λ s. released_by (is_read_only_site s && list_any (nat_eq s.server) reached) s) (λ s is. server_by (is_read_only_site s && list_any (nat_eq s.server) reached) s) e.sites ∙ same_server (site_of e)

moved_by : (b : Bool) (target : ℕ) (s : LocSite) → is_read_write (cond b (record s { server = target }) s) ≡ is_read_write s
moved_by true target s = refl
moved_by false target s = refl

target_by : (b : Bool) (target : ℕ) (s : LocSite) → b ≡ true → (cond b (record s { server = target }) s).server ≡ target
target_by true target s is = refl
target_by false target s is = absurd cc

-- where the entry names a server at all
pub moved_site : (target home : ℕ) (e : LocEntry) → site_of e ≡ Some home → site_of (entry_moved target e) ≡ Some target
moved_site target home e named =
    sites_by (site_moved target) (λ (n : ℕ). target) (λ s. moved_by (is_read_write s) target s) (λ s is. target_by (is_read_write s) target s is) e.sites ∙ ap (λ (o : Option ℕ). option_map (λ (n : ℕ). target) o) named
