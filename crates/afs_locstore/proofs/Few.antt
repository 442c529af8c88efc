-- Each record is longer than the number of entries that it adds.
use Rattle.std.proofs.Common.{◌≡◌, ◌≤◌, ℕ, suc, ◌+◌, Bool, true, false, not, List, [], ◌∷◌, ◌++◌, length, Option, Some, None, nat_eq, nat_lt, refl, sym, ap, ◌∙◌, arith, if◌then◌else◌}
use Rattle.std.specs.List.{flat_map}
use Rattle.std.proofs.lemmas.List.{length-append}
use Rattle.std.proofs.lemmas.List.Concat.{flat_map-cons}
use Rattle.afs_num.specs.declared.records.RecordHead.{RecordHead}
use Rattle.afs_num.specs.declared.types.Node.{Node}
use Rattle.spec_ideal.specs.Tables.{set, unset, Table}
use Rattle.spec_shape.specs.Taking.{◌>>=◌}
use Rattle.afs_xdr.specs.Words.{opaque, word}
use Rattle.spec_records.specs.LocDurable.{can_do, entries_after, entries_set, loc_body_taken, loc_first_folded, loc_fold_all, loc_fold_from, loc_folded, loc_is_first, loc_place_length, loc_placing, loc_with_journal, loc_with_reply, nothing_listed, numbered_as, LocDurable}
use Rattle.spec_records.specs.LocRecords.{entry_form, leaves, listed_form, loc_record_at, loc_record_bytes, removes, sets, Boot, Database, EntryDeed, First, Listed, LocBody, LocRecord}
use Rattle.spec_records.specs.Records.{head_form}
use Rattle.spec_records.proofs.Forms.{bound, some_is}
use Rattle.afs_locstore.specs.Few.{EntriesAreFew}

-- ---- the entries that a record adds

set_by : (n : ℕ) (x : Listed) (p : ℕ × Listed) (ps rest : Table Listed) (same below : Bool) → length rest ≤ suc (length ps) → length (if same then (n, x) ∷ ps else (if below then (n, x) ∷ p ∷ ps else p ∷ rest)) ≤ suc (length (p ∷ ps))
set_by n x p ps rest true below le = omega arith
set_by n x p ps rest false true le = omega arith
set_by n x p ps rest false false le = omega (arith, le)

set_few : (n : ℕ) (x : Listed) (t : Table Listed) → length (set n x t) ≤ suc (length t)
set_few n x [] = omega arith
set_few n x (p ∷ ps) = set_by n x p ps (set n x ps) (nat_eq p.0 n) (nat_lt n p.0) (set_few n x ps)

sets_few : (ls : List Listed) (t : Table Listed) → length (entries_set ls t) ≤ length ls + length t
sets_few [] t = omega arith
sets_few (l ∷ ls) t = omega (arith, sets_few ls (set l.entry.read_write l t), set_few l.entry.read_write l t)

left_by : (p : ℕ × Listed) (ps rest : Table Listed) (keeps : Bool) → length rest ≤ length ps → length (if keeps then p ∷ rest else rest) ≤ length (p ∷ ps)
left_by p ps rest true le = omega (arith, le)
left_by p ps rest false le = omega (arith, le)

unset_few : (n : ℕ) (t : Table Listed) → length (unset n t) ≤ length t
unset_few n [] = omega arith
unset_few n (p ∷ ps) = left_by p ps (unset n ps) (not (nat_eq p.0 n)) (unset_few n ps)

abbrev added : LocBody → ℕ
added (First ls next_id next_stamp) = length ls
added body = 1

after_few : (x : EntryDeed) (t : Table Listed) → length (entries_after x t) ≤ 1 + length t
after_few (sets l) t = omega (arith, set_few l.entry.read_write l t)
after_few (removes e) t = omega (arith, unset_few e.read_write t)
after_few leaves t = omega arith

deed_few : (x : EntryDeed) (a b : ℕ) (d e : LocDurable) (can : Bool) → (if can then Some (numbered_as a b (record d { entries = entries_after x d.entries })) else None) ≡ Some e → length e.entries ≤ 1 + length d.entries
deed_few x a b d e true h = rw (ap (λ (y : LocDurable). y.entries) (sym (some_is (numbered_as a b (record d { entries = entries_after x d.entries })) e h))) (after_few x d.entries)
deed_few x a b d e false h = absurd cc

body_few : (b : LocBody) (d e : LocDurable) → loc_body_taken b d ≡ Some e → length e.entries ≤ added b + length d.entries
body_few (First ls next_id next_stamp) d e h = rw (ap (λ (y : LocDurable). y.entries) (sym (some_is _ e h))) (sets_few ls d.entries)
body_few (Boot boot) d e h = rw (ap (λ (y : LocDurable). y.entries) (sym (some_is _ e h))) (omega arith)
body_few (Database x next_id next_stamp) d e h = deed_few x next_id next_stamp d e (can_do x d.entries) h

-- ---- how long a record is

entry_long : (l : Listed) → 1 ≤ length (listed_form.spelled l)
unfolding entry_form opaque word
entry_long l = omega arith

all_long : (ls : List Listed) → length ls ≤ length (flat_map listed_form.spelled ls)
all_long [] = omega arith
all_long (l ∷ ls) =
    rw (flat_map-cons listed_form.spelled l ls) (omega (arith, length-append (listed_form.spelled l) (flat_map listed_form.spelled ls), entry_long l, all_long ls))

behind : (a b : List ℕ) (n : ℕ) → n ≤ length b → n ≤ length (a ++ b)
behind a b n le = omega (arith, length-append a b, le)

before : (a b : List ℕ) (n : ℕ) → n ≤ length a → n ≤ length (a ++ b)
before a b n le = omega (arith, length-append a b, le)

first_long : (h : RecordHead) (ls : List Listed) (next_id next_stamp : ℕ) → length ls ≤ length (loc_record_bytes (record { head = h; body = First ls next_id next_stamp }))
unfolding loc_record_bytes
first_long h ls next_id next_stamp =
    behind (word 1) _ (length ls) (behind (head_form.spelled h) _ (length ls) (before (word (length ls) ++ flat_map listed_form.spelled ls) _ (length ls) (behind (word (length ls)) (flat_map listed_form.spelled ls) (length ls) (all_long ls))))

record_long : (h : RecordHead) (b : LocBody) → added b ≤ loc_place_length (record { head = h; body = b })
record_long h (First ls next_id next_stamp) = omega (arith, first_long h ls next_id next_stamp)
record_long h (Boot boot) = omega arith
record_long h (Database x next_id next_stamp) = omega arith

-- ---- the fold

reply_keeps : (o : Option Node) (h : RecordHead) (d : LocDurable) → (loc_with_reply o h d).entries ≡ d.entries
reply_keeps None h d = refl
reply_keeps (Some n) h d = refl

folded_few : (r : LocRecord) (d e : LocDurable) → loc_folded r d ≡ Some e → length d.entries ≤ d.journal → length e.entries ≤ e.journal
unfolding loc_folded
folded_few r d e h few =
    let a = bound (loc_body_taken r.body d) (λ f. Some (loc_with_journal (loc_placing d r).journal (loc_with_reply r.head.caller r.head f))) e h in
    let is : loc_with_journal (loc_placing d r).journal (loc_with_reply r.head.caller r.head a.0) ≡ e = some_is _ e a.1.1 in
    let entries : length e.entries ≡ length a.0.entries = ap (λ (x : LocDurable). length x.entries) (sym is) ∙ ap length (reply_keeps r.head.caller r.head a.0) in
    let journal : e.journal ≡ d.journal + loc_place_length r = ap (λ (x : LocDurable). x.journal) (sym is) in
    omega (arith, entries, journal, few, body_few r.body d a.0 a.1.0, record_long r.head r.body)

from_few : (records : List (List ℕ)) (d e : LocDurable) → loc_fold_from records d ≡ Some e → length d.entries ≤ d.journal → length e.entries ≤ e.journal
from_few [] d e h few = rw (sym (some_is d e h)) few
from_few (b ∷ bs) d e h few =
    let r = bound (loc_record_at b) (λ q. (loc_folded q d >>= loc_fold_from bs)) e h in
    let f = bound (loc_folded r.0 d) (loc_fold_from bs) e r.1.1 in
    from_few bs f.0 e f.1.1 (folded_few r.0 d f.0 f.1.0 few)

first_is : (b : Bool) (o : Option LocDurable) (e : LocDurable) → (if b then o else None) ≡ Some e → o ≡ Some e
first_is true o e h = h
first_is false o e h = absurd cc

all_few : (capacity : ℕ) (records : List (List ℕ)) (e : LocDurable) → loc_fold_all capacity records ≡ Some e → length e.entries ≤ e.journal
all_few capacity [] e h = absurd cc
all_few capacity (b ∷ bs) e h =
    let r = bound (loc_record_at b) (λ q. (loc_first_folded q (nothing_listed capacity) >>= loc_fold_from bs)) e h in
    let f = bound (loc_first_folded r.0 (nothing_listed capacity)) (loc_fold_from bs) e r.1.1 in
    let first : loc_folded r.0 (nothing_listed capacity) ≡ Some f.0 = first_is (loc_is_first r.0.body) _ f.0 f.1.0 in
    from_few bs f.0 e f.1.1 (folded_few r.0 (nothing_listed capacity) f.0 first (omega arith))

pub are_few : EntriesAreFew
are_few records d stands = all_few d.capacity records d stands
