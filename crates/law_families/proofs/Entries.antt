-- Calls of the location database leave entries that share no volume, where an entry is replaced by one of its own number.
use Rattle.std.proofs.Common.{◌≡◌, ◌<◌, ◌⊎◌, inl, inr, ℕ, ℤ, ◌+◌, Bool, true, false, cond, [], ◌∷◌, Option, Some, None, refl, sym, ap, subst, ◌∙◌, arith, eqb-true, eq-eqb}
use Rattle.std.specs.Prelude.{⊤, ◌&&◌, ◌||◌, not, find, length, nat_eq, nat_lt}
use Rattle.std.specs.List.{list_any}
use Rattle.afs_num.specs.Names.{volume_name_ok}
use Rattle.afs_num.specs.declared.location_calls.LocCall.{LocCall}
use Rattle.afs_num.specs.declared.location_calls.LocCall.TheVariants as calls
use Rattle.afs_num.specs.declared.location_calls.LocEntry.{LocEntry}
use Rattle.afs_num.specs.declared.location_calls.LocReply.{LocReply}
use Rattle.afs_num.specs.declared.location_calls.LocReply.TheVariants as replies
use Rattle.spec_ideal.specs.Tables.{get, set, unset, AscendsFrom, Table}
use Rattle.spec_ideal.proofs.Tables.{get_below}
use Rattle.spec_records.specs.LocDurable.{entries_after}
use Rattle.spec_records.specs.LocRecords.{Listed, Lock}
use Rattle.spec_rows.specs.LocRow.{all_listed, any_other, entry_fits, found_id, has_id, holds, is_barred, is_force, is_named, is_operation, is_other, loc_op, locks_for, shares_id, with_entry, with_lock, LocLasting, LocResult}
use Rattle.spec_rows.specs.LocRow as row
use Rattle.law_families.specs.Entries.{AreApart, AreKeyed, ShareNone}
use Rattle.law_families.proofs.Volumes.{left_found, put_found}

-- ---- what is found among entries

get_here : (p : ℕ × Listed) (ps : Table Listed) → get p.0 (p ∷ ps) ≡ Some p.1
get_here p ps = ap (λ (b : Bool). cond b (Some p.1) (get p.0 ps)) (eq-eqb p.0 p.0 refl)

-- one behind the first has another number
get_behind : (p : ℕ × Listed) (ps : Table Listed) (k : ℕ) (l : Listed) (b : Bool) → AscendsFrom (p.0 + 1) ps → nat_eq p.0 k ≡ b → get k ps ≡ Some l → cond b (Some p.1) (get k ps) ≡ Some l
get_behind p ps k l true up same there =
    let here : p.0 ≡ k = eqb-true p.0 k same in
    let below : k < p.0 + 1 = omega (arith, here) in
    let no : None ≡ Some l = sym (get_below (p.0 + 1) k ps below up) ∙ there in absurd cc
get_behind p ps k l false up same there = there

-- it stands somewhere, and was found by the test
record IsFound (test : Listed → Bool) (t : Table Listed) (l : Listed) : Type 0 where
  key : ℕ
  there : get key t ≡ Some l
  its : test l ≡ true

found_by : (test : Listed → Bool) (p : ℕ × Listed) (ps : Table Listed) (l : Listed) (b : Bool) → AscendsFrom (p.0 + 1) ps → test p.1 ≡ b → (find test (all_listed ps) ≡ Some l → IsFound test ps l) → cond b (Some p.1) (find test (all_listed ps)) ≡ Some l → IsFound test (p ∷ ps) l
found_by test p ps l true up is later e = let same : p.1 ≡ l = cc in record { key = p.0; there = get_here p ps ∙ e; its = subst (λ (x : Listed). test x ≡ true) same is }
found_by test p ps l false up is later e = let x = later e in record { key = x.key; there = get_behind p ps x.key l (nat_eq p.0 x.key) up refl x.there; its = x.its }

found_there : (m : ℕ) (test : Listed → Bool) (t : Table Listed) (l : Listed) → AscendsFrom m t → find test (all_listed t) ≡ Some l → IsFound test t l
found_there m test [] l up e = absurd cc
found_there m test (p ∷ ps) l up e = found_by test p ps l (test p.1) up.1 refl (found_there (p.0 + 1) test ps l up.1) e

-- what is found stands under its own number
pub found_own : (test : Listed → Bool) (t : Table Listed) (l : Listed) → AreKeyed t → find test (all_listed t) ≡ Some l → get l.entry.read_write t ≡ Some l
found_own test t l h e = let x = found_there 0 test t l h.ascends e in subst (λ (k : ℕ). get k t ≡ Some l) (sym (h.keyed x.key l x.there)) x.there

-- something is found, where an entry passes
here_by : (c b : Bool) (p l : Listed) (q o : Option Listed) (test : Listed → Bool) → test p ≡ b → test l ≡ true → (q ≡ Some l → o ≡ None → ⊥) → cond c (Some p) q ≡ Some l → cond b (Some p) o ≡ None → ⊥
here_by c true p l q o test is its later at e = absurd cc
here_by true false p l q o test is its later at e = let same : p ≡ l = cc in let no : true ≡ false = sym its ∙ (ap test (sym same) ∙ is) in absurd cc
here_by false false p l q o test is its later at e = later at e

some_found : (test : Listed → Bool) (t : Table Listed) (k : ℕ) (l : Listed) → get k t ≡ Some l → test l ≡ true → find test (all_listed t) ≡ None → ⊥
some_found test [] k l at its e = absurd cc
some_found test (p ∷ ps) k l at its e = here_by (nat_eq p.0 k) (test p.1) p.1 l (get k ps) (find test (all_listed ps)) test refl its (λ there none. some_found test ps k l there its none) at e

-- none passes
none_by : (c b : Bool) (p l : Listed) (q : Option Listed) (rest : Bool) (test : Listed → Bool) → test p ≡ b → (b || rest) ≡ false → (rest ≡ false → q ≡ Some l → test l ≡ false) → cond c (Some p) q ≡ Some l → test l ≡ false
none_by c true p l q rest test is none later at = absurd cc
none_by true false p l q rest test is none later at = let same : p ≡ l = cc in ap test (sym same) ∙ is
none_by false false p l q rest test is none later at = later none at

none_passes : (test : Listed → Bool) (t : Table Listed) (k : ℕ) (l : Listed) → list_any test (all_listed t) ≡ false → get k t ≡ Some l → test l ≡ false
none_passes test [] k l none at = absurd cc
none_passes test (p ∷ ps) k l none at = none_by (nat_eq p.0 k) (test p.1) p.1 l (get k ps) (list_any test (all_listed ps)) test refl none (λ rest there. none_passes test ps k l rest there) at

-- ---- numbers of entries

either_true : (a b : Bool) → (a || b) ≡ true → (a ≡ true) ⊎ (b ≡ true)
either_true true b e = inl refl
either_true false b e = inr e

neither : (a b : Bool) → (a || b) ≡ false → (a ≡ false) × (b ≡ false)
neither true b e = absurd cc
neither false b e = (refl, e)

both_true : (a b : Bool) → (a && b) ≡ true → (a ≡ true) × (b ≡ true)
both_true true b e = (refl, e)
both_true false b e = absurd cc

not_both : (b : Bool) → b ≡ true → b ≡ false → ⊥
not_both b e f = absurd (let no : true ≡ false = sym e ∙ f in cc)

-- one number of the new entry, other than 0, is none of the other's
shares_by : (new e : LocEntry) (id : ℕ) → shares_id new e ≡ false → ((nat_eq new.read_write id ≡ true) ⊎ ((nat_eq new.read_only id ≡ true) ⊎ (nat_eq new.backup id ≡ true))) → has_id id e ≡ true → ⊥
shares_by new e id none (inl is) has = not_both (has_id id e) has (ap (λ (k : ℕ). has_id k e) (sym (eqb-true new.read_write id is)) ∙ (neither (has_id new.read_write e) _ none).0)
shares_by new e id none (inr (inl is)) has = not_both (has_id id e) has (ap (λ (k : ℕ). has_id k e) (sym (eqb-true new.read_only id is)) ∙ (neither (has_id new.read_only e) (has_id new.backup e) (neither (has_id new.read_write e) _ none).1).0)
shares_by new e id none (inr (inr is)) has = not_both (has_id id e) has (ap (λ (k : ℕ). has_id k e) (sym (eqb-true new.backup id is)) ∙ (neither (has_id new.read_only e) (has_id new.backup e) (neither (has_id new.read_write e) _ none).1).1)

one_of_three : (e : LocEntry) (id : ℕ) → has_id id e ≡ true → (nat_eq e.read_write id ≡ true) ⊎ ((nat_eq e.read_only id ≡ true) ⊎ (nat_eq e.backup id ≡ true))
one_of_three e id has = by (either_true (nat_eq e.read_write id) _ (both_true (not (nat_eq id 0)) _ has).1)
  where
    by : (nat_eq e.read_write id ≡ true) ⊎ ((nat_eq e.read_only id || nat_eq e.backup id) ≡ true) → (nat_eq e.read_write id ≡ true) ⊎ ((nat_eq e.read_only id ≡ true) ⊎ (nat_eq e.backup id ≡ true))
    by (inl is) = inl is
    by (inr is) = inr (either_true (nat_eq e.read_only id) (nat_eq e.backup id) is)

pub none_shared : (new e : LocEntry) → shares_id new e ≡ false → ShareNone new e
none_shared new e none id one two = shares_by new e id none (one_of_three new id one) two

-- it has its own number
has_own : (e : LocEntry) (id : ℕ) → e.read_write ≡ id → nat_eq id 0 ≡ false → has_id id e ≡ true
has_own e id is not_none = rw (not_none, eq-eqb e.read_write id is) refl

-- By its own number an entry is found, and no other.
pub found_id_own : (t : Table Listed) (k : ℕ) (l : Listed) → AreKeyed t → AreApart t → nat_eq k 0 ≡ false → get k t ≡ Some l → found_id k t ≡ Some l
found_id_own t k l h apart not_none at = by (found_id k t) refl
  where
    test : Listed → Bool
    test x = has_id k x.entry

    by : (o : Option Listed) → found_id k t ≡ o → o ≡ Some l
    by None is = absurd (some_found (λ (x : Listed). has_id k x.entry) t k l at (has_own l.entry k (h.keyed k l at) not_none) is)
    by (Some m) is =
        let x = found_there 0 (λ (y : Listed). has_id k y.entry) t m h.ascends is in
        same x.key m (nat_eq x.key k) refl x.there x.its
      where
        same : (j : ℕ) (y : Listed) (b : Bool) → nat_eq j k ≡ b → get j t ≡ Some y → has_id k y.entry ≡ true → Some y ≡ Some l
        same j y true is at_j its = sym at_j ∙ (ap (λ (i : ℕ). get i t) (eqb-true j k is) ∙ at)
        same j y false is at_j its = absurd (apart j k y l at_j at (λ e. not_both (nat_eq j k) (eq-eqb j k e) is) k its (has_own l.entry k (h.keyed k l at) not_none))

-- ---- an entry is set

pub set_apart : (t : Table Listed) (key : ℕ) (x : Listed) → AreApart t → ((j : ℕ) (m : Listed) → get j t ≡ Some m → (key ≡ j → ⊥) → ShareNone x.entry m.entry) → AreApart (set key x t)
set_apart t key x apart differs k j l m at_k at_j other id one two = by (put_found key k x l t at_k) (put_found key j x m t at_j)
  where
    by : ((key ≡ k) × (x ≡ l)) ⊎ (get k t ≡ Some l) → ((key ≡ j) × (x ≡ m)) ⊎ (get j t ≡ Some m) → ⊥
    by (inl a) (inl b) = other (sym a.0 ∙ b.0)
    by (inl a) (inr b) = differs j m b (λ same. other (sym a.0 ∙ same)) id (subst (λ (y : Listed). has_id id y.entry ≡ true) (sym a.1) one) two
    by (inr a) (inl b) = differs k l a (λ same. other (sym same ∙ b.0)) id (subst (λ (y : Listed). has_id id y.entry ≡ true) (sym b.1) two) one
    by (inr a) (inr b) = apart k j l m a b other id one two

-- the same entry, with another lock
pub lock_apart : (t : Table Listed) (l : Listed) (lock : Option Lock) → AreApart t → get l.entry.read_write t ≡ Some l → AreApart (set l.entry.read_write (record { entry = l.entry; lock = lock }) t)
lock_apart t l lock apart at = set_apart t l.entry.read_write (record { entry = l.entry; lock = lock }) apart (λ j m at_j other. apart l.entry.read_write j l m at at_j other)

unset_apart : (t : Table Listed) (key : ℕ) → AreApart t → AreApart (unset key t)
unset_apart t key apart k j l m at_k at_j other = apart k j l m (left_found key k l t at_k) (left_found key j m t at_j) other

-- a new entry, in the place of one of its number or of none
new_apart : (t : Table Listed) (e : LocEntry) (lock : Option Lock) → AreApart t → any_other None (shares_id e) t ≡ false → AreApart (set e.read_write (record { entry = e; lock = lock }) t)
new_apart t e lock apart none = set_apart t e.read_write (record { entry = e; lock = lock }) apart (λ j m at other. none_shared e m.entry (none_passes (λ (l : Listed). is_other None l.entry && shares_id e l.entry) t j m none at))

other_by : (a b : Bool) → a ≡ true → (a && b) ≡ false → b ≡ false
other_by true b is e = e
other_by false b is e = absurd cc

is_other_by : (b : Bool) → (b ≡ true → ⊥) → not b ≡ true
is_other_by true h = absurd (h refl)
is_other_by false h = refl

replaced_apart : (t : Table Listed) (l : Listed) (e : LocEntry) (lock : Option Lock) → AreKeyed t → AreApart t → l.entry.read_write ≡ e.read_write → any_other (Some l.entry) (shares_id e) t ≡ false → AreApart (set e.read_write (record { entry = e; lock = lock }) t)
replaced_apart t l e lock h apart same none = set_apart t e.read_write (record { entry = e; lock = lock }) apart (λ j m at other.
    none_shared e m.entry (other_by (not (nat_eq m.entry.read_write l.entry.read_write)) (shares_id e m.entry)
    (is_other_by (nat_eq m.entry.read_write l.entry.read_write) (λ is. other (sym same ∙ (sym (eqb-true m.entry.read_write l.entry.read_write is) ∙ h.keyed j m at))))
    (none_passes (λ (x : Listed). is_other (Some l.entry) x.entry && shares_id e x.entry) t j m none at)))

-- Where a new entry was made there was none of its number.
pub made_new : (t : Table Listed) (e : LocEntry) → AreKeyed t → nat_eq e.read_write 0 ≡ false → any_other None (shares_id e) t ≡ false → get e.read_write t ≡ None
made_new t e h not_none none = by (get e.read_write t) refl
  where
    by : (o : Option Listed) → get e.read_write t ≡ o → o ≡ None
    by None is = refl
    by (Some l) is =
        let no : shares_id e l.entry ≡ false = none_passes (λ (x : Listed). is_other None x.entry && shares_id e x.entry) t e.read_write l none is in
        absurd (none_shared e l.entry no e.read_write (has_own e e.read_write refl not_none) (has_own l.entry e.read_write (h.keyed e.read_write l is) not_none))

-- ---- a call

-- a call that replaces an entry names the one whose lock it holds
abbrev pub WritesOwn : LocLasting → ℕ → LocCall → Type 0
WritesOwn d stamp (calls.ReplaceEntry id e) = (l : Listed) → found_id id d.entries ≡ Some l → holds stamp l.lock ≡ true → l.entry.read_write ≡ e.read_write
WritesOwn d stamp call = ⊤

abbrev pub LeavesApart : LocLasting → LocResult → Type 0
LeavesApart d (row.refused code) = ⊤
LeavesApart d (row.reads reply) = ⊤
LeavesApart d (row.changes c) = AreApart (entries_after c.deed d.entries)

module _ (d : LocLasting) (h : AreKeyed d.entries) (apart : AreApart d.entries) where
  either : (b : Bool) (x y : LocResult) → LeavesApart d x → LeavesApart d y → LeavesApart d (cond b x y)
  either true x y j k = j
  either false x y j k = k

  unless_apart : (b : Bool) (code : ℤ) (more : LocResult) → (b ≡ false → LeavesApart d more) → LeavesApart d (cond b (row.refused code) more)
  unless_apart true code more k = tt
  unless_apart false code more k = k refl

  if_held : (b : Bool) (r : LocResult) → (b ≡ true → LeavesApart d r) → LeavesApart d (cond b r (row.refused row.is_locked))
  if_held true r k = k refl
  if_held false r k = tt

  fits_apart : (old : Option LocEntry) (new : LocEntry) (more : LocResult) → (any_other old (shares_id new) d.entries ≡ false → LeavesApart d more) → LeavesApart d (entry_fits old new d.entries more)
  fits_apart old new more k =
      unless_apart (not (volume_name_ok new.name)) row.bad_name _ (λ good.
      unless_apart (any_other old (shares_id new) d.entries) row.taken_id _ (λ none.
      unless_apart (any_other old (is_named new.name) d.entries) row.taken_name _ (λ free. unless_apart (nat_lt row.most_listed_sites (length new.sites)) row.too_many_sites more (λ few. k none))))

  entry_apart : (o : Option Listed) (more : Listed → LocResult) → ((l : Listed) → o ≡ Some l → LeavesApart d (more l)) → LeavesApart d (with_entry o more)
  entry_apart None more k = tt
  entry_apart (Some l) more k = k l refl

  held_apart : (stamp : ℕ) (o : Option Listed) (more : Listed → LocResult) → ((l : Listed) → o ≡ Some l → holds stamp l.lock ≡ true → LeavesApart d (more l)) → LeavesApart d (with_lock stamp o more)
  held_apart stamp o more k = entry_apart o _ (λ l is. if_held (holds stamp l.lock) (more l) (λ held. k l is held))

  locks_apart : (e : LocEntry) (operation : ℕ) (forced : Bool) (reply : LocReply) → ((lock : Option Lock) → AreApart (set e.read_write (record { entry = e; lock = lock }) d.entries)) → LeavesApart d (row.locks d e operation forced reply)
  locks_apart e operation forced reply k = either (nat_lt d.next_stamp _) _ _ (k _) tt

  found_at : (id : ℕ) (l : Listed) → found_id id d.entries ≡ Some l → get l.entry.read_write d.entries ≡ Some l
  found_at id l is = found_own (λ (x : Listed). has_id id x.entry) d.entries l h is

  for_apart : (operation force : ℕ) (l : Listed) → get l.entry.read_write d.entries ≡ Some l → LeavesApart d (locks_for d operation force l)
  for_apart operation force l at =
      either (is_barred l.lock force) _ _ tt (either (is_operation operation) _ _ (locks_apart l.entry operation (is_force force) (replies.SetLock d.next_stamp l.entry) (λ lock. lock_apart d.entries l lock apart at)) tt)

  pub call_apart : (stamp : ℕ) (call : LocCall) → WritesOwn d stamp call → LeavesApart d (loc_op stamp call d)
  call_apart stamp (calls.CreateEntry e) own = fits_apart None e _ (λ none. locks_apart e row.made_for false (replies.CreateEntry d.next_stamp) (λ lock. new_apart d.entries e lock apart none))
  call_apart stamp (calls.DeleteEntry id) own = held_apart stamp (found_id id d.entries) _ (λ l is held. unset_apart d.entries l.entry.read_write apart)
  call_apart stamp (calls.GetEntryById id) own = entry_apart (found_id id d.entries) _ (λ l is. tt)
  call_apart stamp (calls.GetEntryByName name) own = entry_apart (row.found_name name d.entries) _ (λ l is. tt)
  call_apart stamp calls.GetNewVolumeId own = either (nat_lt d.next_id _) _ _ apart tt
  call_apart stamp (calls.ReplaceEntry id e) own =
      held_apart stamp (found_id id d.entries) _ (λ l is held. fits_apart (Some l.entry) e _ (λ none. replaced_apart d.entries l e l.lock h apart (own l is held) none))
  call_apart stamp (calls.SetLock id operation force) own = entry_apart (found_id id d.entries) _ (λ l is. for_apart operation force l (found_at id l is))
  call_apart stamp (calls.ReleaseLock id) own = held_apart stamp (found_id id d.entries) _ (λ l is held. lock_apart d.entries l None apart (found_at id l is))
  call_apart stamp (calls.ListEntry index) own = entry_apart (row.nth index (all_listed d.entries)) _ (λ l is. tt)
