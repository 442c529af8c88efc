-- The location database by itself: each of its calls sets one entry, removes one that is listed, or draws a number; so its entries and
-- locks stay in order, and what it keeps is the fold of its records.
use Rattle.spec_model.specs.Calls.{key_of}
use Rattle.std.proofs.Common.{arith, ◌≡◌, ◌≤◌, ◌<◌, ◌+◌, ◌⊎◌, ℕ, ℤ, Bool, true, false, cond, nat_eq, nat_lt, List, [], ◌∷◌, Option, Some, None, inl, inr, refl, sym, ap, subst, ◌∙◌, eq-eqb, if◌then◌else◌}
use Rattle.std.specs.Prelude.{find, is_some, length, not}
use Rattle.afs_num.specs.Names.{volume_name_ok}
use Rattle.afs_num.specs.declared.location_calls.LocCall.{LocCall}
use Rattle.afs_num.specs.declared.location_calls.LocCall.TheVariants as calls
use Rattle.afs_num.specs.declared.location_calls.LocEntry.{LocEntry}
use Rattle.afs_num.specs.declared.location_calls.LocReply.{LocReply}
use Rattle.afs_num.specs.declared.location_calls.LocReply.TheVariants as replies
use Rattle.afs_num.specs.declared.messages.Message.{Message}
use Rattle.spec_model.specs.Messages.{spelled}
use Rattle.spec_records.specs.Changes.{keeping}
use Rattle.spec_shape.specs.Taking.{◌>>=◌}
use Rattle.spec_ideal.specs.Operations.{last_count}
use Rattle.spec_ideal.specs.Tables.{get, set, unset, Table}
use Rattle.law_legal.specs.Database.{AreDrawn, AreKeyed, IsDrawn, IsInOrder, LocChangesAreFolded, LocChangesKeepOrder, LocStartsAreFolded, Rises}
use Rattle.law_legal.proofs.BaseLaws.{some_of}
use Rattle.law_legal.proofs.ServerDiskKeeps.{kept_placed}
use Rattle.spec_records.specs.Durable.{Kept}
use Rattle.spec_records.specs.LocDurable.{can_do, entries_after, loc_folded, loc_placing, loc_with_journal, loc_with_reply, numbered_as, LocDurable}
use Rattle.spec_records.specs.LocRecords.{leaves, removes, sets, EntryDeed, Listed, Lock}
use Rattle.spec_rows.specs.LocRow.{all_listed, any_other, bad_name, changes, entry_fits, found_id, found_name, entry_goes, has_id, holds, is_barred, is_force, is_locked, is_named, is_operation, loc_durable_of, loc_lasting_after, loc_op, loc_record_of, locks, locks_for, made_for, most_listed_sites, no_such_operation, nth, reads, refused, reply_to, sets_to, shares_id, taken_id, taken_name, too_many_sites, with_entry, LocChange, LocLasting, LocResult}
use Rattle.spec_rows.specs.ServerRow.{no_room, seat_for}

-- ---- what is found is listed

abbrev IsListed : Listed → Table Listed → Type 0
IsListed x [] = ⊥
IsListed x (p ∷ ps) = (p.1 ≡ x) ⊎ IsListed x ps

found_by : (b : Bool) (x y : Listed) (o : Option Listed) (P : Type 0) → cond b (Some y) o ≡ Some x → (o ≡ Some x → P) → (y ≡ x) ⊎ P
found_by true x y o P e ih = inl (some_of y x e)
found_by false x y o P e ih = inr (ih e)

found_listed : (test : Listed → Bool) (t : Table Listed) (x : Listed) → find test (all_listed t) ≡ Some x → IsListed x t
found_listed test [] x e = absurd cc
found_listed test (p ∷ ps) x e = found_by (test p.1) x p.1 (find test (all_listed ps)) (IsListed x ps) e (found_listed test ps x)

-- ---- tests whose outcome is a change

abbrev change_or : LocChange → LocResult → LocChange
change_or d (changes c) = c
change_or d r = d

same_change : (a b : LocChange) → changes a ≡ changes b → a ≡ b
same_change a b e = ap (change_or a) e

entry_there : (o : Option Listed) (more : Listed → LocResult) (c : LocChange) → with_entry o more ≡ changes c → (x : Listed) × ((o ≡ Some x) × (more x ≡ changes c))
entry_there None more c e = absurd cc
entry_there (Some x) more c e = (x, (refl, e))

no_read : (reply : LocReply) (c : LocChange) → reads reply ≡ changes c → ⊥
no_read reply c e = absurd cc

passes : (b : Bool) (code : ℤ) (r : LocResult) (c : LocChange) → cond b r (refused code) ≡ changes c → r ≡ changes c
passes true code r c e = e
passes false code r c e = absurd cc

passes_not : (b : Bool) (code : ℤ) (r : LocResult) (c : LocChange) → cond b (refused code) r ≡ changes c → r ≡ changes c
passes_not true code r c e = absurd cc
passes_not false code r c e = e

-- ---- what each call does

-- It sets an entry with a lock whose stamp was drawn, if all were; it removes one that is listed, or leaves all. And no counter falls.
abbrev Deeds : LocLasting → LocChange → Type 0
Deeds l c = ((x : Listed) × ((c.deed ≡ sets x) × (AreDrawn l.next_stamp l.entries → IsDrawn c.next_stamp x.lock))) ⊎ (((x : Listed) × ((c.deed ≡ removes x.entry) × IsListed x l.entries)) ⊎ (c.deed ≡ leaves))

record HasDone (l : LocLasting) (c : LocChange) : Type 0 where
  rises : Rises l c
  deeds : Deeds l c

-- an entry that was found has a lock whose stamp was drawn
listed_drawn : (next : ℕ) (x : Listed) (t : Table Listed) → IsListed x t → AreDrawn next t → IsDrawn next x.lock
listed_drawn next x [] is h = absurd is
listed_drawn next x (p ∷ ps) is h = elim is [
  | inl same ↦ subst (λ (y : Listed). IsDrawn next y.lock) same h.0
  | inr later ↦ listed_drawn next x ps later h.1
]

set_done : (l : LocLasting) (e : LocEntry) (lock : Option Lock) (reply : LocReply) (c : LocChange) → sets_to l e lock reply ≡ changes c → (AreDrawn l.next_stamp l.entries → IsDrawn l.next_stamp lock) → HasDone l c
set_done l e lock reply c is drawn =
    let x : Listed = record { entry = e; lock = lock } in
    let d : LocChange = record { deed = sets x; next_id = l.next_id; next_stamp = l.next_stamp; reply = reply } in
    subst (HasDone l) (same_change d c is) (record { rises = record { ids = omega arith; stamps = omega arith }; deeds = inl (x, (refl, drawn)) })

lock_done : (l : LocLasting) (e : LocEntry) (operation : ℕ) (forced : Bool) (reply : LocReply) (c : LocChange) → locks l e operation forced reply ≡ changes c → HasDone l c
lock_done l e operation forced reply c is =
    let x : Listed = record { entry = e; lock = Some (record { operation = operation; stamp = l.next_stamp; forced = forced }) } in
    let d : LocChange = record { deed = sets x; next_id = l.next_id; next_stamp = l.next_stamp + 1; reply = reply } in
    subst (HasDone l) (same_change d c (passes (nat_lt l.next_stamp last_count) no_room (changes d) c is)) (record { rises = record { ids = omega arith; stamps = omega arith }; deeds = inl (x, (refl, λ all. omega arith)) })

fits_done : (l : LocLasting) (old : Option LocEntry) (new : LocEntry) (more : LocResult) (c : LocChange) → entry_fits old new l.entries more ≡ changes c → more ≡ changes c
fits_done l old new more c is =
    let sites : LocResult = cond (nat_lt most_listed_sites (length new.sites)) (refused too_many_sites) more in
    let names : LocResult = cond (any_other old (is_named new.name) l.entries) (refused taken_name) sites in
    let ids : LocResult = cond (any_other old (shares_id new) l.entries) (refused taken_id) names in
    passes_not (nat_lt most_listed_sites (length new.sites)) too_many_sites more c
    (passes_not (any_other old (is_named new.name) l.entries) taken_name sites c
    (passes_not (any_other old (shares_id new) l.entries) taken_id names c
    (passes_not (not (volume_name_ok new.name)) bad_name ids c is)))

-- what is done with an entry whose lock is held under this stamp
abbrev held : ℕ → (Listed → LocResult) → Listed → LocResult
held stamp more x = if holds stamp x.lock then more x else refused is_locked

op_done : (stamp : ℕ) (call : LocCall) (l : LocLasting) (c : LocChange) → loc_op stamp call l ≡ changes c → HasDone l c
op_done stamp (calls.CreateEntry e) l c is = lock_done l e made_for false (replies.CreateEntry l.next_stamp) c (fits_done l None e (locks l e made_for false (replies.CreateEntry l.next_stamp)) c is)
op_done stamp (calls.DeleteEntry id) l c is =
    let a = entry_there (found_id id l.entries) (held stamp (entry_goes l)) c is in
    let d : LocChange = record { deed = removes a.0.entry; next_id = l.next_id; next_stamp = l.next_stamp; reply = replies.DeleteEntry } in
    subst (HasDone l) (same_change d c (passes (holds stamp a.0.lock) is_locked (entry_goes l a.0) c a.1.1)) (record { rises = record { ids = omega arith; stamps = omega arith }; deeds = inr (inl (a.0, (refl, found_listed (λ (x : Listed). has_id id x.entry) l.entries a.0 a.1.0))) })
op_done stamp (calls.GetEntryById id) l c is = let a = entry_there (found_id id l.entries) (λ (x : Listed). reads (replies.GetEntryById x.entry)) c is in absurd (no_read (replies.GetEntryById a.0.entry) c a.1.1)
op_done stamp (calls.GetEntryByName name) l c is = let a = entry_there (found_name name l.entries) (λ (x : Listed). reads (replies.GetEntryByName x.entry)) c is in absurd (no_read (replies.GetEntryByName a.0.entry) c a.1.1)
op_done stamp calls.GetNewVolumeId l c is =
    let d : LocChange = record { deed = leaves; next_id = l.next_id + 1; next_stamp = l.next_stamp; reply = replies.GetNewVolumeId l.next_id } in
    subst (HasDone l) (same_change d c (passes (nat_lt l.next_id last_count) no_room (changes d) c is)) (record { rises = record { ids = omega arith; stamps = omega arith }; deeds = inr (inr refl) })
op_done stamp (calls.ReplaceEntry id e) l c is =
    let more : Listed → LocResult = λ (x : Listed). entry_fits (Some x.entry) e l.entries (sets_to l e x.lock replies.ReplaceEntry) in
    let a = entry_there (found_id id l.entries) (held stamp more) c is in
    let b = passes (holds stamp a.0.lock) is_locked (more a.0) c a.1.1 in
    set_done l e a.0.lock replies.ReplaceEntry c (fits_done l (Some a.0.entry) e (sets_to l e a.0.lock replies.ReplaceEntry) c b) (λ all. listed_drawn l.next_stamp a.0 l.entries (found_listed (λ (x : Listed). has_id id x.entry) l.entries a.0 a.1.0) all)
op_done stamp (calls.SetLock id operation force) l c is =
    let a = entry_there (found_id id l.entries) (locks_for l operation force) c is in
    let reply : LocReply = replies.SetLock l.next_stamp a.0.entry in
    let locked : LocResult = locks l a.0.entry operation (is_force force) reply in
    let known : LocResult = cond (is_operation operation) locked (refused no_such_operation) in
    lock_done l a.0.entry operation (is_force force) reply c (passes (is_operation operation) no_such_operation locked c (passes_not (is_barred a.0.lock force) is_locked known c a.1.1))
op_done stamp (calls.ReleaseLock id) l c is =
    let more : Listed → LocResult = λ (x : Listed). sets_to l x.entry None replies.ReleaseLock in
    let a = entry_there (found_id id l.entries) (held stamp more) c is in
    set_done l a.0.entry None replies.ReleaseLock c (passes (holds stamp a.0.lock) is_locked (more a.0) c a.1.1) (λ all. tt)
op_done stamp (calls.ListEntry index) l c is = let a = entry_there (nth index (all_listed l.entries)) (λ (x : Listed). reads (replies.ListEntry (index + 1) x.entry)) c is in absurd (no_read (replies.ListEntry (index + 1) a.0.entry) c a.1.1)

-- ---- entries stay under their numbers, and locks under stamps that were drawn

keyed_by : (a b : Bool) (n : ℕ) (x : Listed) (p : ℕ × Listed) (ps : Table Listed) (rest : Table Listed) → x.entry.read_write ≡ n → AreKeyed (p ∷ ps) → AreKeyed rest → AreKeyed (cond a ((n, x) ∷ ps) (cond b ((n, x) ∷ p ∷ ps) (p ∷ rest)))
keyed_by true b n x p ps rest is h ih = (is, h.1)
keyed_by false true n x p ps rest is h ih = (is, h)
keyed_by false false n x p ps rest is h ih = (h.0, ih)

pub keyed_set : (x : Listed) (t : Table Listed) → AreKeyed t → AreKeyed (set x.entry.read_write x t)
keyed_set x [] h = (refl, tt)
keyed_set x (p ∷ ps) h = keyed_by (nat_eq p.0 x.entry.read_write) (nat_lt x.entry.read_write p.0) x.entry.read_write x p ps (set x.entry.read_write x ps) refl h (keyed_set x ps h.1)

keyed_left : (b : Bool) (p : ℕ × Listed) (rest : Table Listed) → p.1.entry.read_write ≡ p.0 → AreKeyed rest → AreKeyed (cond b (p ∷ rest) rest)
keyed_left true p rest is h = (is, h)
keyed_left false p rest is h = h

keyed_unset : (n : ℕ) (t : Table Listed) → AreKeyed t → AreKeyed (unset n t)
keyed_unset n [] h = tt
keyed_unset n (p ∷ ps) h = keyed_left (not (nat_eq p.0 n)) p (unset n ps) h.0 (keyed_unset n ps h.1)

drawn_by : (next : ℕ) (a b : Bool) (n : ℕ) (x : Listed) (p : ℕ × Listed) (ps : Table Listed) (rest : Table Listed) → IsDrawn next x.lock → AreDrawn next (p ∷ ps) → AreDrawn next rest → AreDrawn next (cond a ((n, x) ∷ ps) (cond b ((n, x) ∷ p ∷ ps) (p ∷ rest)))
drawn_by next true b n x p ps rest is h ih = (is, h.1)
drawn_by next false true n x p ps rest is h ih = (is, h)
drawn_by next false false n x p ps rest is h ih = (h.0, ih)

pub drawn_set : (next n : ℕ) (x : Listed) (t : Table Listed) → IsDrawn next x.lock → AreDrawn next t → AreDrawn next (set n x t)
drawn_set next n x [] is h = (is, tt)
drawn_set next n x (p ∷ ps) is h = drawn_by next (nat_eq p.0 n) (nat_lt n p.0) n x p ps (set n x ps) is h (drawn_set next n x ps is h.1)

drawn_left : (next : ℕ) (b : Bool) (p : ℕ × Listed) (rest : Table Listed) → IsDrawn next p.1.lock → AreDrawn next rest → AreDrawn next (cond b (p ∷ rest) rest)
drawn_left next true p rest is h = (is, h)
drawn_left next false p rest is h = h

drawn_unset : (next n : ℕ) (t : Table Listed) → AreDrawn next t → AreDrawn next (unset n t)
drawn_unset next n [] h = tt
drawn_unset next n (p ∷ ps) h = drawn_left next (not (nat_eq p.0 n)) p (unset n ps) h.0 (drawn_unset next n ps h.1)

drawn_one : (a b : ℕ) (o : Option Lock) → a ≤ b → IsDrawn a o → IsDrawn b o
drawn_one a b None le h = tt
drawn_one a b (Some k) le h = let l : a ≤ b = le in let m : k.stamp < a = h in omega arith

drawn_more : (a b : ℕ) (t : Table Listed) → a ≤ b → AreDrawn a t → AreDrawn b t
drawn_more a b [] le h = tt
drawn_more a b (p ∷ ps) le h = (drawn_one a b p.1.lock le h.0, drawn_more a b ps le h.1)

deeds_keep : (l : LocLasting) (c : LocChange) → l.next_stamp ≤ c.next_stamp → Deeds l c → IsInOrder l.next_stamp l.entries → IsInOrder c.next_stamp (entries_after c.deed l.entries)
deeds_keep l c le d h =
    let drawn : AreDrawn c.next_stamp l.entries = drawn_more l.next_stamp c.next_stamp l.entries le h.drawn in
    elim d [
      | inl s ↦ subst (λ (y : EntryDeed). IsInOrder c.next_stamp (entries_after y l.entries)) (sym s.1.0) (record { keyed = keyed_set s.0 l.entries h.keyed; drawn = drawn_set c.next_stamp s.0.entry.read_write s.0 l.entries (s.1.1 h.drawn) drawn })
      | inr o ↦ elim o [
        | inl r ↦ subst (λ (y : EntryDeed). IsInOrder c.next_stamp (entries_after y l.entries)) (sym r.1.0) (record { keyed = keyed_unset r.0.entry.read_write l.entries h.keyed; drawn = drawn_unset c.next_stamp r.0.entry.read_write l.entries drawn })
        | inr e ↦ subst (λ (y : EntryDeed). IsInOrder c.next_stamp (entries_after y l.entries)) (sym e) (record { keyed = h.keyed; drawn = drawn })
      ]
    ]

pub loc_ordered : LocChangesKeepOrder
loc_ordered stamp call l c is h =
    let d : HasDone l c = op_done stamp call l c is in
    (d.rises, deeds_keep l c d.rises.stamps d.deeds h)

-- ---- the disk

there_by : (a : Bool) (x : Listed) (p : ℕ × Listed) (ps : Table Listed) → nat_eq p.0 x.entry.read_write ≡ a → (is_some (get x.entry.read_write ps) ≡ true) ⊎ (a ≡ true) → is_some (get x.entry.read_write (p ∷ ps)) ≡ true
there_by true x p ps e h = rw e refl
there_by false x p ps e (inl z) = rw e z
there_by false x p ps e (inr z) = absurd cc

-- one that is listed is there
listed_there : (x : Listed) (t : Table Listed) → AreKeyed t → IsListed x t → is_some (get x.entry.read_write t) ≡ true
listed_there x [] h is = absurd is
listed_there x (p ∷ ps) h is = elim is [
  | inl same ↦ there_by (nat_eq p.0 x.entry.read_write) x p ps refl (inr (eq-eqb p.0 x.entry.read_write (sym h.0 ∙ ap (λ (y : Listed). y.entry.read_write) same)))
  | inr later ↦ there_by (nat_eq p.0 x.entry.read_write) x p ps refl (inl (listed_there x ps h.1 later))
]

deeds_can : (l : LocLasting) (c : LocChange) → Deeds l c → AreKeyed l.entries → can_do c.deed l.entries ≡ true
deeds_can l c d h = elim d [
  | inl s ↦ ap (λ (y : EntryDeed). can_do y l.entries) s.1.0
  | inr o ↦ elim o [
    | inl r ↦ ap (λ (y : EntryDeed). can_do y l.entries) r.1.0 ∙ listed_there r.0 l.entries h r.1.1
    | inr e ↦ ap (λ (y : EntryDeed). can_do y l.entries) e
  ]
]

pub loc_folds : LocChangesAreFolded
unfolding loc_folded
loc_folds l head stamp call c is keyed node nodes =
    let d : HasDone l c = op_done stamp call l c is in
    let m : Message = reply_to l.boot head c.reply in
    let before : LocDurable = loc_durable_of l in
    ap (λ (b : Bool). (if b then Some (numbered_as c.next_id c.next_stamp (record before { entries = entries_after c.deed l.entries })) else None) >>= λ e. Some (loc_with_journal (loc_placing before (loc_record_of l.boot head c)).journal (loc_with_reply (Some head.from) (keeping (key_of head) (spelled m)) e))) (deeds_can l c d.deeds keyed)
    ∙ ap (λ (k : Table Kept). Some (record (loc_durable_of (loc_lasting_after head c l)) { kept = k })) (sym (kept_placed (seat_for head m) l.kept node nodes))

pub loc_start_folds : LocStartsAreFolded
unfolding loc_folded
loc_start_folds l = refl
