-- What a disk keeps, and what it goes on keeping.
use Rattle.std.proofs.Common.{◌≡◌, ℕ, List, [], ◌∷◌, ◌++◌, true, ◌+◌, Option, Some, is_some, inl, length, arith, length-append, sym, subst, ap, ◌∙◌}
use Rattle.afs_journal.specs.Log.{IsJournal}
use Rattle.afs_journal.specs.Records.{journal_bytes, whole_records}
use Rattle.afs_store.specs.Folding.{Folding}
use Rattle.afs_store.specs.Sound.{IsSound}
use Rattle.afs_store.specs.Stores.{IsCounted, IsKept, LeftAround, StandFor, Stands}
use Rattle.afs_store.proofs.Folding.{one_more, some_of}
use Rattle.afs_store.proofs.FoldsOn.{some_is}

-- one more is counted
pub counted_more : (rec : List ℕ) (count more : ℕ) (seen now : Option (List ℕ)) (leaves : List ℕ → Type 0) → IsCounted count seen → more ≡ count + 1 → (is_some now ≡ true → is_some seen ≡ true)
    → ((content : List ℕ) → seen ≡ Some content → IsJournal (whole_records content ++ rec ∷ []) now leaves) → IsCounted more now
counted_more rec count more seen now leaves counted is told added bytes at =
    let was = some_of seen (told (ap is_some at)) in
    let journal = added was.0 was.1 in
    let records : whole_records bytes ≡ whole_records was.0 ++ rec ∷ [] = ap whole_records (some_is bytes (journal_bytes (whole_records was.0 ++ rec ∷ [])) (sym at ∙ journal.now)) ∙ journal.stands in
    ap length records ∙ (let z : length (whole_records was.0 ++ rec ∷ []) ≡ more = omega (arith, length-append (whole_records was.0) (rec ∷ []), counted was.0 was.1, is) in z)

module _ {R T S P : Type 0} (k : Folding R T S P) where
  -- a crash leaves what is kept
  pub stands_now : (d : T) (seen : Option (List ℕ)) (may_leave : List ℕ → Type 0) (bytes : List ℕ) → IsKept k d seen may_leave → seen ≡ Some bytes → (c : List ℕ) → may_leave c → Stands k c d
  stands_now d seen may_leave bytes kept told c left = subst (λ (b : List ℕ). Stands k b d) (sym (kept.durable bytes told c left)) (kept.stands bytes told)

  pub left_now : (r : R) (d : T) (seen : Option (List ℕ)) (may_leave : List ℕ → Type 0) (bytes : List ℕ) → IsKept k d seen may_leave → seen ≡ Some bytes → (c : List ℕ) → may_leave c → LeftAround k (whole_records bytes) r d c
  left_now r d seen may_leave bytes kept told c left = (inl (ap whole_records (kept.durable bytes told c left)), inl (stands_now d seen may_leave bytes kept told c left))

  -- room alone changed
  pub kept_same : (d : T) (seen now : Option (List ℕ)) (may_leave leaves : List ℕ → Type 0) → IsKept k d seen may_leave → now ≡ seen → ((c : List ℕ) → leaves c → may_leave c) → IsKept k d now leaves
  kept_same d seen now may_leave leaves kept same within = record {
    stands = λ bytes told. kept.stands bytes (sym same ∙ told);
    durable = λ bytes told c left. kept.durable bytes (sym same ∙ told) c (within c left);
  }

  -- the same with the same length of the journal, on the same disk
  pub kept_on : (gate gate2 limit limit2 : ℕ) (d d2 : T) (seen now : Option (List ℕ)) (may_leave leaves : List ℕ → Type 0) → gate2 ≡ gate → limit2 ≡ limit → d2 ≡ d → IsKept k (k.placed (gate + 1) limit d) seen may_leave → now ≡ seen
      → ((c : List ℕ) → leaves c → may_leave c) → IsKept k (k.placed (gate2 + 1) limit2 d2) now leaves
  kept_on gate gate2 limit limit2 d d2 seen now may_leave leaves a b e kept same within = rw (a, b, e) (kept_same (k.placed (gate + 1) limit d) seen now may_leave leaves kept same within)

  -- one record more is kept
  pub kept_more : IsSound k → (r : R) (rec : List ℕ) (j c : ℕ) (d e : T) (seen now : Option (List ℕ)) (may_leave leaves : List ℕ → Type 0) → IsKept k (k.placed j c d) seen may_leave → k.Fits r → k.spelled r ≡ rec → k.folded r (k.placed j c d) ≡ Some e
      → (is_some now ≡ true → is_some seen ≡ true) → ((content : List ℕ) → seen ≡ Some content → IsJournal (whole_records content ++ rec ∷ []) now leaves) → IsKept k e now leaves
  kept_more sound r rec j c d e seen now may_leave leaves kept fits spelled is told added = record {
    stands = λ bytes at.
        let was = some_of seen (told (ap is_some at)) in
        let journal = added was.0 was.1 in
        let here : journal_bytes (whole_records was.0 ++ rec ∷ []) ≡ bytes = some_is _ bytes (sym journal.now ∙ at) in
        let records : whole_records bytes ≡ whole_records was.0 ++ k.spelled r ∷ [] = ap whole_records (sym here) ∙ (journal.stands ∙ ap (λ (b : List ℕ). whole_records was.0 ++ b ∷ []) (sym spelled)) in
        subst (λ (rs : List (List ℕ)). StandFor k rs e) (sym records) (one_more k sound (whole_records was.0) r j c d e (kept.stands was.0 was.1) fits is);
    durable = λ bytes at b left.
        let was = some_of seen (told (ap is_some at)) in
        let journal = added was.0 was.1 in
        journal.durable b left ∙ some_is _ bytes (sym journal.now ∙ at);
  }
