-- What a call of the location database makes of locks: each stays the last of its entry, where a call that writes an entry is under a stamp of
-- that very entry.
use Rattle.std.proofs.Common.{◌≡◌, ◌≤◌, ◌<◌, ◌⊎◌, inl, inr, ℕ, ℤ, ◌+◌, Bool, true, false, cond, [], ◌∷◌, Option, Some, None, refl, sym, ap, subst, arith, ◌∙◌, nat_eq, nat_lt, eq-eqb, eqb-true}
use Rattle.std.proofs.lemmas.Bool.Decides.{nat_tests}
use Rattle.std.specs.Prelude.{⊤, find, length, not, if◌then◌else◌}
use Rattle.afs_num.specs.Names.{volume_name_ok}
use Rattle.afs_num.specs.declared.location_calls.LocCall.{LocCall}
use Rattle.afs_num.specs.declared.location_calls.LocCall.TheVariants as calls
use Rattle.afs_num.specs.declared.location_calls.LocEntry.{LocEntry}
use Rattle.afs_num.specs.declared.location_calls.LocReply.{LocReply}
use Rattle.afs_num.specs.declared.location_calls.LocReply.TheVariants as replies
use Rattle.spec_ideal.specs.Tables.{get, set, unset, AscendsFrom, Table}
use Rattle.spec_ideal.proofs.Tables.{ascends_set, ascends_unset, get_below, get_set, get_unset}
use Rattle.spec_records.specs.LocDurable.{entries_after}
use Rattle.spec_records.specs.LocRecords.{sets, Listed, Lock}
use Rattle.spec_rows.specs.LocRow.{all_listed, any_other, entry_fits, found_id, holds, is_barred, is_force, is_named, is_operation, loc_op, locks_for, sets_to, shares_id, with_entry, with_lock, LocChange, LocLasting, LocResult}
use Rattle.spec_rows.specs.LocRow as row
use Rattle.law_stamps.specs.Given.{given_by}
use Rattle.law_locks.specs.Lines.{AreInLine, IsDrawnFor, IsLastOf, LockIsLast}

-- ---- what is found

some_of : {A : Type 0} (x y : A) → Some x ≡ Some y → x ≡ y
some_of {A} x y e = cc

get_here : (p : ℕ × Listed) (ps : Table Listed) → get p.0 (p ∷ ps) ≡ Some p.1
get_here p ps = ap (λ (b : Bool). cond b (Some p.1) (get p.0 ps)) (eq-eqb p.0 p.0 refl)

-- one behind the first has another number
get_behind_by : (p : ℕ × Listed) (ps : Table Listed) (k : ℕ) (l : Listed) (b : Bool) → AscendsFrom (p.0 + 1) ps → nat_eq p.0 k ≡ b → get k ps ≡ Some l → cond b (Some p.1) (get k ps) ≡ Some l
get_behind_by p ps k l true up same there =
    let here : p.0 ≡ k = eqb-true p.0 k same in
    let below : k < p.0 + 1 = omega (arith, here) in
    let no : None ≡ Some l = sym (get_below (p.0 + 1) k ps below up) ∙ there in absurd cc
get_behind_by p ps k l false up same there = there

-- where it is
record IsThere (t : Table Listed) (l : Listed) : Type 0 where
  key : ℕ
  there : get key t ≡ Some l

found_by : (m : ℕ) (test : Listed → Bool) (p : ℕ × Listed) (ps : Table Listed) (l : Listed) (b : Bool) → AscendsFrom (p.0 + 1) ps → (find test (all_listed ps) ≡ Some l → IsThere ps l) → cond b (Some p.1) (find test (all_listed ps)) ≡ Some l → IsThere (p ∷ ps) l
found_by m test p ps l true up later e = record { key = p.0; there = get_here p ps ∙ e }
found_by m test p ps l false up later e = let x = later e in record { key = x.key; there = get_behind_by p ps x.key l (nat_eq p.0 x.key) up refl x.there }

found_there : (m : ℕ) (test : Listed → Bool) (t : Table Listed) (l : Listed) → AscendsFrom m t → find test (all_listed t) ≡ Some l → IsThere t l
found_there m test [] l up e = absurd cc
found_there m test (p ∷ ps) l up e = found_by m test p ps l (test p.1) up.1 (found_there (p.0 + 1) test ps l up.1) e

-- under its own number
found_own : (entry_of : ℕ → ℕ) (next : ℕ) (t : Table Listed) (test : Listed → Bool) (l : Listed) → AreInLine entry_of next t → find test (all_listed t) ≡ Some l → get l.entry.read_write t ≡ Some l
found_own entry_of next t test l h e = let x = found_there 0 test t l h.ascends e in subst (λ (k : ℕ). get k t ≡ Some l) (sym (h.keyed x.key l x.there)) x.there

zero_below : (n : ℕ) → 0 ≤ n
zero_below n = omega (arith)

nat_below : (a b : ℕ) → nat_lt a b ≡ true → a < b
nat_below a b e = grind (arith, nat_tests, e)

nat_top : (a b : ℕ) → nat_lt a b ≡ false → a < b + 1 → a ≡ b
nat_top a b e le = grind (arith, nat_tests, e, le)

-- ---- an entry is set

-- what is found behind that: the new one, or one that was there
set_found : {P : Type 0} (key k : ℕ) (x l : Listed) (t : Table Listed) (b : Bool) → nat_eq key k ≡ b → (if b then Some x else get k t) ≡ Some l → (key ≡ k → x ≡ l → P) → ((key ≡ k → ⊥) → get k t ≡ Some l → P) → P
set_found {P} key k x l t true same e new old = new (eqb-true key k same) (some_of x l e)
set_found {P} key k x l t false same e new old = old (λ is. let no : false ≡ true = sym same ∙ eq-eqb key k is in absurd cc) e

module _ (entry_of : ℕ → ℕ) (next : ℕ) (t : Table Listed) (h : AreInLine entry_of next t) where
  -- with the lock that it had, or with none
  set_as : (e : LocEntry) (lock : Option Lock) → LockIsLast entry_of next e.read_write lock → AreInLine entry_of next (set e.read_write (record { entry = e; lock = lock }) t)
  set_as e lock last = record {
    begins = h.begins;
    ascends = ascends_set 0 e.read_write (record { entry = e; lock = lock }) t (zero_below e.read_write) h.ascends;
    keyed = λ k l is. set_found e.read_write k (record { entry = e; lock = lock }) l t (nat_eq e.read_write k) refl (sym (get_set k e.read_write (record { entry = e; lock = lock }) t) ∙ is)
        (λ key same. subst (λ (x : Listed). x.entry.read_write ≡ k) same key) (λ other there. h.keyed k l there);
    locks = λ k l is. set_found e.read_write k (record { entry = e; lock = lock }) l t (nat_eq e.read_write k) refl (sym (get_set k e.read_write (record { entry = e; lock = lock }) t) ∙ is)
        (λ key same. subst (λ (x : Listed). LockIsLast entry_of next k x.lock) same (subst (λ (j : ℕ). LockIsLast entry_of next j lock) key last)) (λ other there. h.locks k l there);
  }

  -- the stamp that is drawn now is for this entry
  abbrev drawn_for : ℕ → ℕ → ℕ
  drawn_for key b = if nat_eq b next then key else entry_of b

  drawn_own : (key : ℕ) → drawn_for key next ≡ key
  drawn_own key = ap (λ (b : Bool). if b then key else entry_of next) (eq-eqb next next refl)

  drawn_by : (key b : ℕ) (same : Bool) → nat_eq b next ≡ same → b < next → (if same then key else entry_of b) ≡ entry_of b
  drawn_by key b true same below = let is : b ≡ next = eqb-true b next same in absurd (omega (arith, is, below))
  drawn_by key b false same below = refl

  pub drawn_before : (key b : ℕ) → b < next → drawn_for key b ≡ entry_of b
  drawn_before key b below = drawn_by key b (nat_eq b next) refl below

  -- below the next, or it
  one_of : (b : ℕ) → b < next + 1 → (b < next) ⊎ (b ≡ next)
  one_of b le = by (nat_lt b next) refl
    where
      by : (less : Bool) → nat_lt b next ≡ less → (b < next) ⊎ (b ≡ next)
      by true is = inl (nat_below b next is)
      by false is = inr (nat_top b next is le)

  -- the locks of other entries
  others_last : (key k : ℕ) (o : Option Lock) → (key ≡ k → ⊥) → LockIsLast entry_of next k o → LockIsLast (drawn_for key) (next + 1) k o
  others_last key k None other last = tt
  others_last key k (Some q) other last =
      let drawn : q.stamp < next = last.drawn in
      record { drawn = omega (arith, drawn); its = drawn_before key q.stamp last.drawn ∙ last.its; last = λ b le its. by b (one_of b le) its }
    where
      by : (b : ℕ) → (b < next) ⊎ (b ≡ next) → drawn_for key b ≡ k → b ≤ q.stamp
      by b (inl below) its = last.last b below (sym (drawn_before key b below) ∙ its)
      by b (inr is) its = absurd (other (sym (drawn_own key) ∙ (ap (drawn_for key) (sym is) ∙ its)))

  -- it is locked anew
  lock_as : (e : LocEntry) (operation : ℕ) (forced : Bool) → AreInLine (drawn_for e.read_write) (next + 1) (set e.read_write (record { entry = e; lock = Some (record { operation = operation; stamp = next; forced = forced }) }) t)
  lock_as e operation forced =
      let new : Listed = record { entry = e; lock = Some (record { operation = operation; stamp = next; forced = forced }) } in
      record {
        begins = (let some : 0 < next = h.begins in omega (arith, some));
        ascends = ascends_set 0 e.read_write new t (zero_below e.read_write) h.ascends;
        keyed = λ k l is. set_found e.read_write k new l t (nat_eq e.read_write k) refl (sym (get_set k e.read_write new t) ∙ is) (λ key same. subst (λ (x : Listed). x.entry.read_write ≡ k) same key) (λ other there. h.keyed k l there);
        locks = λ k l is. set_found e.read_write k new l t (nat_eq e.read_write k) refl (sym (get_set k e.read_write new t) ∙ is)
            (λ key same. subst (λ (x : Listed). LockIsLast (drawn_for e.read_write) (next + 1) k x.lock) same (own_last e.read_write k key)) (λ other there. others_last e.read_write k l.lock other (h.locks k l there));
      }
    where
      own_last : (key k : ℕ) → key ≡ k → IsLastOf (drawn_for key) (next + 1) k next
      own_last key k is = record { drawn = omega (arith); its = drawn_own key ∙ is; last = λ b le its. omega (arith, le) }

  -- an entry goes
  unset_found : {P : Type 0} (key k : ℕ) (l : Listed) (b : Bool) → (if b then None else get k t) ≡ Some l → (get k t ≡ Some l → P) → P
  unset_found {P} key k l true e old = absurd cc
  unset_found {P} key k l false e old = old e

  unset_as : (key : ℕ) → AreInLine entry_of next (unset key t)
  unset_as key = record {
    begins = h.begins;
    ascends = ascends_unset 0 key t h.ascends;
    keyed = λ k l is. unset_found key k l (nat_eq key k) (sym (get_unset k key t) ∙ is) (λ there. h.keyed k l there);
    locks = λ k l is. unset_found key k l (nat_eq key k) (sym (get_unset k key t) ∙ is) (λ there. h.locks k l there);
  }

-- ---- what a call does

-- a call that writes an entry is under a stamp of that entry
abbrev pub CallFits : (ℕ → ℕ) → ℕ → LocCall → Type 0
CallFits entry_of stamp (calls.ReplaceEntry id e) = (e.read_write ≡ id) × (entry_of stamp ≡ id)
CallFits entry_of stamp call = ⊤

-- the entry that a stamp is given for, by what is asked and what is answered
abbrev pub IsGivenFor : (ℕ → ℕ) → ℕ → LocCall → LocReply → Type 0
IsGivenFor entry_of next call (replies.SetLock stamp e) = IsDrawnFor entry_of next e.read_write stamp
IsGivenFor entry_of next (calls.CreateEntry e) (replies.CreateEntry stamp) = IsDrawnFor entry_of next e.read_write stamp
IsGivenFor entry_of next call reply = ⊤

pub record ChangeIsInLine (entry_of : ℕ → ℕ) (d : LocLasting) (call : LocCall) (c : LocChange) : Type 0 where
  pub now : ℕ → ℕ
  pub stays : (b : ℕ) → b < d.next_stamp → now b ≡ entry_of b
  pub rises : d.next_stamp ≤ c.next_stamp
  pub line : AreInLine now c.next_stamp (entries_after c.deed d.entries)
  pub gives : IsGivenFor now c.next_stamp call c.reply

abbrev pub ResultIsInLine : (ℕ → ℕ) → LocLasting → LocCall → LocResult → Type 0
ResultIsInLine entry_of d call (row.refused code) = ⊤
ResultIsInLine entry_of d call (row.reads reply) = given_by reply ≡ None
ResultIsInLine entry_of d call (row.changes c) = ChangeIsInLine entry_of d call c

-- a lock that is held under this stamp is of the stamp's entry
held_key : (entry_of : ℕ → ℕ) (next key stamp : ℕ) (o : Option Lock) → holds stamp o ≡ true → LockIsLast entry_of next key o → entry_of stamp ≡ key
held_key entry_of next key stamp None e last = absurd cc
held_key entry_of next key stamp (Some q) e last = ap entry_of (sym (eqb-true q.stamp stamp e)) ∙ last.its

module _ (entry_of : ℕ → ℕ) (d : LocLasting) (h : AreInLine entry_of d.next_stamp d.entries) where
  abbrev Line : LocCall → LocResult → Type 0
  Line call r = ResultIsInLine entry_of d call r

  either : (call : LocCall) (b : Bool) (x y : LocResult) → Line call x → Line call y → Line call (cond b x y)
  either call true x y j k = j
  either call false x y j k = k

  unless_line : (call : LocCall) (b : Bool) (code : ℤ) (more : LocResult) → Line call more → Line call (cond b (row.refused code) more)
  unless_line call true code more k = tt
  unless_line call false code more k = k

  if_held : (call : LocCall) (b : Bool) (r : LocResult) → (b ≡ true → Line call r) → Line call (cond b r (row.refused row.is_locked))
  if_held call true r k = k refl
  if_held call false r k = tt

  fits_line : (call : LocCall) (old : Option LocEntry) (new : LocEntry) (more : LocResult) → Line call more → Line call (entry_fits old new d.entries more)
  fits_line call old new more k =
      unless_line call (not (volume_name_ok new.name)) row.bad_name _
      (unless_line call (any_other old (shares_id new) d.entries) row.taken_id _
      (unless_line call (any_other old (is_named new.name) d.entries) row.taken_name _ (unless_line call (nat_lt row.most_listed_sites (length new.sites)) row.too_many_sites more k)))

  entry_line : (call : LocCall) (o : Option Listed) (more : Listed → LocResult) → ((l : Listed) → o ≡ Some l → Line call (more l)) → Line call (with_entry o more)
  entry_line call None more k = tt
  entry_line call (Some l) more k = k l refl

  lock_line : (call : LocCall) (stamp : ℕ) (o : Option Listed) (more : Listed → LocResult) → ((l : Listed) → o ≡ Some l → holds stamp l.lock ≡ true → Line call (more l)) → Line call (with_lock stamp o more)
  lock_line call stamp o more k = entry_line call o _ (λ l is. if_held call (holds stamp l.lock) (more l) (λ held. k l is held))

  -- an entry that is found by one of its numbers stands under its own
  found_at : (id : ℕ) (l : Listed) → found_id id d.entries ≡ Some l → get l.entry.read_write d.entries ≡ Some l
  found_at id l is = found_own entry_of d.next_stamp d.entries _ l h is

  -- it is locked under the stamp that is drawn
  locks_line : (call : LocCall) (e : LocEntry) (operation : ℕ) (forced : Bool) (reply : LocReply) → IsGivenFor (drawn_for entry_of d.next_stamp d.entries h e.read_write) (d.next_stamp + 1) call reply → Line call (row.locks d e operation forced reply)
  locks_line call e operation forced reply gives = either call (nat_lt d.next_stamp _) (row.changes (record {
    deed = sets (record { entry = e; lock = Some (record { operation = operation; stamp = d.next_stamp; forced = forced }) });
    next_id = d.next_id;
    next_stamp = d.next_stamp + 1;
    reply = reply;
  })) _ (record {
    now = drawn_for entry_of d.next_stamp d.entries h e.read_write;
    stays = drawn_before entry_of d.next_stamp d.entries h e.read_write;
    rises = omega (arith);
    line = lock_as entry_of d.next_stamp d.entries h e operation forced;
    gives = gives;
  }) tt

  -- nothing is drawn
  same_line : (call : LocCall) (c : LocChange) → c.next_stamp ≡ d.next_stamp → AreInLine entry_of d.next_stamp (entries_after c.deed d.entries) → IsGivenFor entry_of d.next_stamp call c.reply → ChangeIsInLine entry_of d call c
  same_line call c same line gives = record {
    now = entry_of;
    stays = λ b below. refl;
    rises = (let e : c.next_stamp ≡ d.next_stamp = same in omega (arith, e));
    line = subst (λ (n : ℕ). AreInLine entry_of n (entries_after c.deed d.entries)) (sym same) line;
    gives = subst (λ (n : ℕ). IsGivenFor entry_of n call c.reply) (sym same) gives;
  }

  for_line : (id operation force : ℕ) (l : Listed) → Line (calls.SetLock id operation force) (locks_for d operation force l)
  for_line id operation force l =
      let call : LocCall = calls.SetLock id operation force in
      let drawn : d.next_stamp < d.next_stamp + 1 = omega (arith) in
      either call (is_barred l.lock force) _ _ tt
      (either call (is_operation operation) _ _ (locks_line call l.entry operation (is_force force) (replies.SetLock d.next_stamp l.entry) ((h.begins, drawn), drawn_own entry_of d.next_stamp d.entries h l.entry.read_write)) tt)

  -- the entry that a call under this stamp writes is the one whose lock it holds
  written_key : (stamp : ℕ) (id : ℕ) (e : LocEntry) (l : Listed) → get l.entry.read_write d.entries ≡ Some l → holds stamp l.lock ≡ true → (e.read_write ≡ id) × (entry_of stamp ≡ id) → l.entry.read_write ≡ e.read_write
  written_key stamp id e l there held fits = sym (held_key entry_of d.next_stamp l.entry.read_write stamp l.lock held (h.locks l.entry.read_write l there)) ∙ (fits.1 ∙ sym fits.0)

  pub call_line : (stamp : ℕ) (call : LocCall) → CallFits entry_of stamp call → Line call (loc_op stamp call d)
  call_line stamp (calls.CreateEntry e) fits =
      let drawn : d.next_stamp < d.next_stamp + 1 = omega (arith) in
      fits_line (calls.CreateEntry e) None e _ (locks_line (calls.CreateEntry e) e row.made_for false (replies.CreateEntry d.next_stamp) ((h.begins, drawn), drawn_own entry_of d.next_stamp d.entries h e.read_write))
  call_line stamp (calls.DeleteEntry id) fits =
      lock_line (calls.DeleteEntry id) stamp (found_id id d.entries) _ (λ l is held. same_line (calls.DeleteEntry id) _ refl (unset_as entry_of d.next_stamp d.entries h l.entry.read_write) tt)
  call_line stamp (calls.GetEntryById id) fits = entry_line (calls.GetEntryById id) (found_id id d.entries) _ (λ l is. refl)
  call_line stamp (calls.GetEntryByName name) fits = entry_line (calls.GetEntryByName name) (row.found_name name d.entries) _ (λ l is. refl)
  call_line stamp calls.GetNewVolumeId fits = either calls.GetNewVolumeId (nat_lt d.next_id _) _ _ (same_line calls.GetNewVolumeId _ refl h tt) tt
  call_line stamp (calls.ReplaceEntry id e) fits =
      lock_line (calls.ReplaceEntry id e) stamp (found_id id d.entries) _ (λ l is held. fits_line (calls.ReplaceEntry id e) (Some l.entry) e _
      (same_line (calls.ReplaceEntry id e) _ refl (set_as entry_of d.next_stamp d.entries h e l.lock (subst (λ (k : ℕ). LockIsLast entry_of d.next_stamp k l.lock) (written_key stamp id e l (found_at id l is) held fits) (h.locks l.entry.read_write l (found_at id l is)))) tt))
  call_line stamp (calls.SetLock id operation force) fits = entry_line (calls.SetLock id operation force) (found_id id d.entries) _ (λ l is. for_line id operation force l)
  call_line stamp (calls.ReleaseLock id) fits =
      lock_line (calls.ReleaseLock id) stamp (found_id id d.entries) _ (λ l is held. same_line (calls.ReleaseLock id) _ refl (set_as entry_of d.next_stamp d.entries h l.entry None tt) tt)
  call_line stamp (calls.ListEntry index) fits = entry_line (calls.ListEntry index) (row.nth index (all_listed d.entries)) _ (λ l is. refl)
