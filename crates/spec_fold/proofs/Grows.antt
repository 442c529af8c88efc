-- One more record, and what it leaves alone.
use Rattle.std.proofs.Common.{◌≡◌, ℕ, Bool, true, false, List, [], ◌∷◌, ◌++◌, Option, Some, None, if◌then◌else◌, refl, sym, ap, ◌∙◌}
use Rattle.std.specs.Prelude.{nat_eq}
use Rattle.afs_num.specs.declared.records.RecordBody.{RecordBody}
use Rattle.afs_num.specs.declared.records.RecordBody.TheVariants as bodies
use Rattle.afs_num.specs.declared.records.RecordHead.{RecordHead}
use Rattle.afs_num.specs.declared.records.StoredVolume.{StoredVolume}
use Rattle.afs_num.specs.declared.records.StoreRecord.{StoreRecord}
use Rattle.afs_num.specs.declared.types.Node.{Node}
use Rattle.spec_shape.specs.Taking.{◌>>=◌}
use Rattle.spec_ideal.specs.Tables.{get}
use Rattle.spec_records.specs.Durable.{booted, changed_stored, noted, nothing_on, placing, replaced, stored_of, with_journal, with_reply, with_stamp, with_stored, with_volumes, Durable, Stored}
use Rattle.spec_records.specs.Records.{record_at, record_bytes, FitsRecord}
use Rattle.spec_records.proofs.Forms.{bound, some_is}
use Rattle.spec_records.proofs.Spelled.{record_read}
use Rattle.spec_dumps.specs.Restores.{restored_from}
use Rattle.spec_fold.specs.Deeds.{can_take, clone_made, clone_put, flagged, on_stored, or_as_was}
use Rattle.spec_fold.specs.Fold.{body_taken, first_folded, fold_all, fold_from, folded, StandFor}

-- ---- the capacity stays

chosen_keeps : (b : Bool) (d e f : Durable) → (if b then None else Some f) ≡ Some e → f.capacity ≡ d.capacity → e.capacity ≡ d.capacity
chosen_keeps true d e f h keeps = absurd cc
chosen_keeps false d e f h keeps = ap (λ (x : Durable). x.capacity) (sym (some_is f e h)) ∙ keeps

volumes_keep : (ss : List StoredVolume) (d e : Durable) → with_volumes ss d ≡ Some e → e.capacity ≡ d.capacity
volumes_keep [] d e h = ap (λ (x : Durable). x.capacity) (sym (some_is d e h))
volumes_keep (s ∷ ss) d e h =
    let a = bound (stored_of s) (λ x. (with_stored s.head.id x d >>= with_volumes ss)) e h in
    let b = bound (with_stored s.head.id a.0 d) (with_volumes ss) e a.1.1 in
    volumes_keep ss b.0 e b.1.1 ∙ chosen_keeps _ d b.0 _ b.1.0 refl

replaced_keeps : (id : ℕ) (o : Option Stored) (d e : Durable) → replaced id o d ≡ Some e → e.capacity ≡ d.capacity
replaced_keeps id None d e h = absurd cc
replaced_keeps id (Some s) d e h = ap (λ (x : Durable). x.capacity) (sym (some_is _ e h))

taken_keeps : (b : Bool) (f d e : Durable) → f.capacity ≡ d.capacity → (if b then Some f else None) ≡ Some e → e.capacity ≡ d.capacity
taken_keeps true f d e keeps h = ap (λ (x : Durable). x.capacity) (sym (some_is f e h)) ∙ keeps
taken_keeps false f d e keeps h = absurd cc

stored_keeps : (id : ℕ) (f : Stored → Stored) (o : Option Stored) (d : Durable) → (on_stored id f o d).capacity ≡ d.capacity
stored_keeps id f None d = refl
stored_keeps id f (Some s) d = refl

put_keeps : (source id : ℕ) (name : List ℕ) (kind release : ℕ) (s : Stored) (o : Option Stored) (d : Durable) → (clone_put source id name kind release s o d).capacity ≡ d.capacity
put_keeps source id name kind release s None d = refl
put_keeps source id name kind release s (Some old) d = refl

clone_keeps : (source id : ℕ) (name : List ℕ) (kind release : ℕ) (o : Option Stored) (d : Durable) → (clone_made source id name kind release o d).capacity ≡ d.capacity
clone_keeps source id name kind release None d = refl
clone_keeps source id name kind release (Some s) d = put_keeps source id name kind release s (get id d.volumes) d

body_keeps : (body : RecordBody) (d e : Durable) → body_taken body d ≡ Some e → e.capacity ≡ d.capacity
body_keeps (bodies.First volumes) d e h = volumes_keep volumes d e h
body_keeps (bodies.Change id counter unique vnodes removed) d e h =
    let a = bound (get id d.volumes) (λ s. replaced id (changed_stored counter unique vnodes removed s) d) e h in
    replaced_keeps id (changed_stored counter unique vnodes removed a.0) d e a.1.1
body_keeps (bodies.Boot boot) d e h = ap (λ (x : Durable). x.capacity) (sym (some_is (booted boot d) e h))
body_keeps (bodies.Create id family name kind flags quota is_new) d e h =
    taken_keeps (can_take (bodies.Create id family name kind flags quota is_new) d) _ d e refl h
body_keeps (bodies.Delete id) d e h = taken_keeps (can_take (bodies.Delete id) d) _ d e refl h
body_keeps (bodies.Clone source id name kind release) d e h =
    taken_keeps (can_take (bodies.Clone source id name kind release) d) _ d e (clone_keeps source id name kind release (get source d.volumes) d) h
body_keeps (bodies.Restore id dump) d e h =
    taken_keeps (can_take (bodies.Restore id dump) d) _ d e (stored_keeps id (λ s. or_as_was s (restored_from id s dump)) (get id d.volumes) d) h
body_keeps (bodies.Flags id flags) d e h = taken_keeps (can_take (bodies.Flags id flags) d) _ d e (stored_keeps id (flagged flags) (get id d.volumes) d) h
body_keeps (bodies.Forward id to) d e h = taken_keeps (can_take (bodies.Forward id to) d) _ d e refl h
body_keeps bodies.Stamp d e h = taken_keeps true d d e refl h

stamp_keeps : (b : Bool) (h : RecordHead) (d e : Durable) → e.capacity ≡ d.capacity → (if b then d else e).capacity ≡ d.capacity
stamp_keeps true h d e k = refl
stamp_keeps false h d e k = k

reply_keeps : (o : Option Node) (h : RecordHead) (d : Durable) → (with_reply o h d).capacity ≡ d.capacity
reply_keeps None h d = refl
reply_keeps (Some n) h d = refl

noted_keeps : (h : RecordHead) (d : Durable) → (noted h d).capacity ≡ d.capacity
noted_keeps h d = reply_keeps h.caller h (with_stamp h d) ∙ stamp_keeps (nat_eq h.stamp 0) h d _ refl

folded_keeps : (r : StoreRecord) (d e : Durable) → folded r d ≡ Some e → e.capacity ≡ d.capacity
unfolding folded
folded_keeps r d e h =
    let a = bound (body_taken r.body d) (λ f. Some (with_journal (placing d r).journal (noted r.head f))) e h in
    ap (λ (x : Durable). x.capacity) (sym (some_is (with_journal (placing d r).journal (noted r.head a.0)) e a.1.1)) ∙ (noted_keeps r.head a.0 ∙ body_keeps r.body d a.0 a.1.0)

-- ---- one more record

more_from : (bs : List (List ℕ)) (bytes : List ℕ) (r : StoreRecord) (c d e : Durable) → fold_from bs c ≡ Some d → record_at bytes ≡ Some r → folded r d ≡ Some e → fold_from (bs ++ bytes ∷ []) c ≡ Some e
more_from [] bytes r c d e h is takes = rw (is, some_is c d h, takes) refl
more_from (b ∷ bs) bytes r c d e h is takes =
    let p = bound (record_at b) (λ q. (folded q c >>= fold_from bs)) d h in
    let f = bound (folded p.0 c) (fold_from bs) d p.1.1 in
    rw (p.1.0, f.1.0) (more_from bs bytes r f.0 d e f.1.1 is takes)

more_all : (capacity : ℕ) (bs : List (List ℕ)) (bytes : List ℕ) (r : StoreRecord) (d e : Durable) → fold_all capacity bs ≡ Some d → record_at bytes ≡ Some r → folded r d ≡ Some e → fold_all capacity (bs ++ bytes ∷ []) ≡ Some e
more_all capacity [] bytes r d e h is takes = absurd cc
more_all capacity (b ∷ bs) bytes r d e h is takes =
    let p = bound (record_at b) (λ q. (first_folded q (nothing_on capacity) >>= fold_from bs)) d h in
    let f = bound (first_folded p.0 (nothing_on capacity)) (fold_from bs) d p.1.1 in
    rw (p.1.0, f.1.0) (more_from bs bytes r f.0 d e f.1.1 is takes)

pub one_more : (records : List (List ℕ)) (r : StoreRecord) (d e : Durable) → StandFor records d → FitsRecord r → folded r d ≡ Some e → StandFor (records ++ record_bytes r ∷ []) e
one_more records r d e stands fits takes =
    ap (λ (n : ℕ). fold_all n (records ++ record_bytes r ∷ [])) (folded_keeps r d e takes) ∙ more_all d.capacity records (record_bytes r) r d e stands (record_read r fits) takes
