-- One more record of the location database, and what it leaves alone.
use Rattle.std.proofs.Common.{◌≡◌, ℕ, Bool, true, false, List, [], ◌∷◌, ◌++◌, Option, Some, None, if◌then◌else◌, refl, sym, ap, ◌∙◌, ◌+◌}
use Rattle.spec_shape.specs.Taking.{◌>>=◌}
use Rattle.afs_num.specs.declared.types.Node.{Node}
use Rattle.afs_num.specs.declared.records.RecordHead.{RecordHead}
use Rattle.spec_records.specs.LocDurable.{can_do, entries_after, loc_body_taken, loc_boot_record, loc_first_folded, loc_fold_all, loc_fold_from, loc_folded, loc_placing, loc_with_journal, loc_with_reply, nothing_listed, numbered_as, LocDurable, LocStandFor}
use Rattle.spec_records.specs.LocLaws.{loc_started}
use Rattle.spec_records.specs.LocRecords.{loc_record_at, loc_record_bytes, Boot, Database, First, FitsLocRecord, LocBody, LocRecord}
use Rattle.spec_records.proofs.Forms.{bound, some_is}
use Rattle.spec_records.proofs.LocSpelled.{loc_record_read}

-- ---- the capacity stays

chosen_keeps : (b : Bool) (d e f : LocDurable) → (if b then Some f else None) ≡ Some e → f.capacity ≡ d.capacity → e.capacity ≡ d.capacity
chosen_keeps true d e f h keeps = ap (λ (x : LocDurable). x.capacity) (sym (some_is f e h)) ∙ keeps
chosen_keeps false d e f h keeps = absurd cc

body_keeps : (body : LocBody) (d e : LocDurable) → loc_body_taken body d ≡ Some e → e.capacity ≡ d.capacity
body_keeps (First ls next_id next_stamp) d e h = ap (λ (x : LocDurable). x.capacity) (sym (some_is _ e h))
body_keeps (Boot boot) d e h = ap (λ (x : LocDurable). x.capacity) (sym (some_is _ e h))
body_keeps (Database deed next_id next_stamp) d e h = chosen_keeps (can_do deed d.entries) d e (numbered_as next_id next_stamp (record d { entries = entries_after deed d.entries })) h refl

reply_keeps : (o : Option Node) (h : RecordHead) (d : LocDurable) → (loc_with_reply o h d).capacity ≡ d.capacity
reply_keeps None h d = refl
reply_keeps (Some n) h d = refl

folded_keeps : (r : LocRecord) (d e : LocDurable) → loc_folded r d ≡ Some e → e.capacity ≡ d.capacity
unfolding loc_folded
folded_keeps r d e h =
    let a = bound (loc_body_taken r.body d) (λ f. Some (loc_with_journal (loc_placing d r).journal (loc_with_reply r.head.caller r.head f))) e h in
    ap (λ (x : LocDurable). x.capacity) (sym (some_is (loc_with_journal (loc_placing d r).journal (loc_with_reply r.head.caller r.head a.0)) e a.1.1)) ∙ (reply_keeps r.head.caller r.head a.0 ∙ body_keeps r.body d a.0 a.1.0)

-- ---- one more record

more_from : (bs : List (List ℕ)) (bytes : List ℕ) (r : LocRecord) (c d e : LocDurable) → loc_fold_from bs c ≡ Some d → loc_record_at bytes ≡ Some r → loc_folded r d ≡ Some e → loc_fold_from (bs ++ bytes ∷ []) c ≡ Some e
more_from [] bytes r c d e h is takes = rw (is, some_is c d h, takes) refl
more_from (b ∷ bs) bytes r c d e h is takes =
    let p = bound (loc_record_at b) (λ q. (loc_folded q c >>= loc_fold_from bs)) d h in
    let f = bound (loc_folded p.0 c) (loc_fold_from bs) d p.1.1 in
    rw (p.1.0, f.1.0) (more_from bs bytes r f.0 d e f.1.1 is takes)

more_all : (capacity : ℕ) (bs : List (List ℕ)) (bytes : List ℕ) (r : LocRecord) (d e : LocDurable) → loc_fold_all capacity bs ≡ Some d → loc_record_at bytes ≡ Some r → loc_folded r d ≡ Some e → loc_fold_all capacity (bs ++ bytes ∷ []) ≡ Some e
more_all capacity [] bytes r d e h is takes = absurd cc
more_all capacity (b ∷ bs) bytes r d e h is takes =
    let p = bound (loc_record_at b) (λ q. (loc_first_folded q (nothing_listed capacity) >>= loc_fold_from bs)) d h in
    let f = bound (loc_first_folded p.0 (nothing_listed capacity)) (loc_fold_from bs) d p.1.1 in
    rw (p.1.0, f.1.0) (more_from bs bytes r f.0 d e f.1.1 is takes)

pub loc_one_more : (records : List (List ℕ)) (r : LocRecord) (d e : LocDurable) → LocStandFor records d → FitsLocRecord r → loc_folded r d ≡ Some e → LocStandFor (records ++ loc_record_bytes r ∷ []) e
loc_one_more records r d e stands fits takes =
    ap (λ (n : ℕ). loc_fold_all n (records ++ loc_record_bytes r ∷ [])) (folded_keeps r d e takes) ∙ more_all d.capacity records (loc_record_bytes r) r d e stands (loc_record_read r fits) takes

-- ---- a start

pub loc_start_kept : (d : LocDurable) → loc_folded (loc_boot_record (d.boot + 1)) d ≡ Some (loc_started d)
unfolding loc_folded
loc_start_kept d = refl
