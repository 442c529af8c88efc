-- A store over a journal that was taken up.
use Rattle.std.proofs.Common.{◌≡◌, ℕ, ◌+◌, Bool, true, false, not, List, [], length, Option, Some, None, is_some, if◌then◌else◌, refl, sym, ap, subst, ◌∙◌, arith}
use Rattle.std.specs.Option.{option_map}
use Rattle.afs_num.specs.declared.faults.StoreFault.{StoreFault}
use Rattle.afs_num.specs.declared.faults.StoreFault.TheVariants as faults
use Rattle.spec_history.specs.declared.lines.Line.{Line}
use Rattle.afs_num.specs.declared.records.Mark.{Mark}
use Rattle.afs_num.specs.declared.types.Node.{Node}
use Rattle.afs_disk.specs.Disk.{Setting}
use Rattle.afs_journal.specs.Log.{IsJournal}
use Rattle.afs_journal.specs.Records.{journal_bytes, whole_records}
use Rattle.afs_store.specs.Folding.{Folding}
use Rattle.afs_store.specs.Folds.{places_length, wanted_lines, TellsLast}
use Rattle.afs_store.specs.Opening.{lines_begun, same_mark, IsAttachFault, IsFoldFault}
use Rattle.afs_store.specs.Sound.{IsSound}
use Rattle.afs_store.specs.Stores.{IsCaused, IsCounted, IsKept, StandFor}
use Rattle.afs_store.proofs.Folding.{some_of}
use Rattle.afs_store.proofs.FoldsOn.{journal_length, some_is}

-- so many records are found as stand there
pub counted_taken_up : (count : ℕ) (found : List (List ℕ)) (before seen : Option (List ℕ)) (may_leave : List ℕ → Type 0) → count ≡ length found → ((bytes : List ℕ) → before ≡ Some bytes → found ≡ whole_records bytes)
    → ((bytes : List ℕ) → before ≡ Some bytes → IsJournal (whole_records bytes) seen may_leave) → (is_some seen ≡ true → is_some before ≡ true) → IsCounted count seen
counted_taken_up count found before seen may_leave counted is rests told bytes at =
    let was = some_of before (told (ap is_some at)) in
    let here : whole_records bytes ≡ whole_records was.0 = ap whole_records (some_is bytes (journal_bytes (whole_records was.0)) (sym at ∙ (rests was.0 was.1).now)) ∙ (rests was.0 was.1).stands in
    ap length here ∙ (ap length (sym (is was.0 was.1)) ∙ sym counted)

module _ {R T S P : Type 0} (k : Folding R T S P) where
  -- the disk is at rest with records that stand for this
  pub kept_by : (d : T) (records : List (List ℕ)) (seen : Option (List ℕ)) (may_leave : List ℕ → Type 0) → IsJournal records seen may_leave → StandFor k records d → IsKept k d seen may_leave
  kept_by d records seen may_leave journal stands = record {
    stands = λ bytes at. subst (λ (rs : List (List ℕ)). StandFor k rs d) (sym (ap whole_records (some_is bytes (journal_bytes records) (sym at ∙ journal.now)) ∙ journal.stands)) stands;
    durable = λ bytes at c left. journal.durable c left ∙ some_is (journal_bytes records) bytes (sym journal.now ∙ at);
  }

  -- what is kept where the disk told its bytes before
  pub kept_where : (d : T) (seen before : Option (List ℕ)) (may_leave : List ℕ → Type 0) → (is_some seen ≡ true → is_some before ≡ true) → ((bytes : List ℕ) → before ≡ Some bytes → IsKept k d seen may_leave) → IsKept k d seen may_leave
  kept_where d seen before may_leave told kept = record {
    stands = λ bytes at. (let was = some_of before (told (ap is_some at)) in (kept was.0 was.1).stands bytes at);
    durable = λ bytes at. (let was = some_of before (told (ap is_some at)) in (kept was.0 was.1).durable bytes at);
  }

  -- What was kept is kept of a disk that was taken up anew: its records are the same.
  pub kept_again : (d : T) (before seen : Option (List ℕ)) (may_leave might_leave : List ℕ → Type 0) → IsKept k d before might_leave → ((bytes : List ℕ) → before ≡ Some bytes → IsJournal (whole_records bytes) seen may_leave) → (is_some seen ≡ true → is_some before ≡ true)
      → IsKept k d seen may_leave
  kept_again d before seen may_leave might_leave kept rests told =
      kept_where d seen before may_leave told (λ bytes at. kept_by d (whole_records bytes) seen may_leave (rests bytes at) (kept.stands bytes at))

  -- what records that were found make
  pub record AreFolded (found slice : List (List ℕ)) (d : T) : Type 0 where
    pub same : slice ≡ found
    pub folds : (c : ℕ) → k.fold_all c slice ≡ Some (k.placed (1 + places_length slice) c d)

  found_fold : (found slice records : List (List ℕ)) (d : T) (c : ℕ) → AreFolded found slice d → found ≡ records → k.fold_all c records ≡ Some (k.placed (1 + places_length records) c d)
  found_fold found slice records d c are is = subst (λ (rs : List (List ℕ)). k.fold_all c rs ≡ Some (k.placed (1 + places_length rs) c d)) (are.same ∙ is) (are.folds c)

  module _ (sound : IsSound k) where
    -- the journal is as long as its records' places
    stands_so : (gate limit size : ℕ) (d : T) (records : List (List ℕ)) → length (journal_bytes records) ≡ size → size ≡ gate + 1 → k.fold_all limit records ≡ Some (k.placed (1 + places_length records) limit d)
        → StandFor k records (k.placed (gate + 1) limit d)
    stands_so gate limit size d records long ends folds =
        ap (λ (n : ℕ). k.fold_all n records) (sound.sized (gate + 1) limit d)
        ∙ (folds ∙ ap (λ (j : ℕ). Some (k.placed j limit d)) (let z : 1 + places_length records ≡ gate + 1 = omega (arith, long, ends, journal_length records) in z))

    kept_so : (gate limit size : ℕ) (d : T) (records : List (List ℕ)) (seen : Option (List ℕ)) (may_leave : List ℕ → Type 0) → IsJournal records seen may_leave → ((bytes : List ℕ) → seen ≡ Some bytes → length bytes ≡ size) → size ≡ gate + 1
        → k.fold_all limit records ≡ Some (k.placed (1 + places_length records) limit d) → IsKept k (k.placed (gate + 1) limit d) seen may_leave
    kept_so gate limit size d records seen may_leave journal measures ends folds =
        kept_by (k.placed (gate + 1) limit d) records seen may_leave journal (stands_so gate limit size d records (measures (journal_bytes records) journal.now) ends folds)

    pub kept_folded : (gate limit size : ℕ) (d : T) (found slice : List (List ℕ)) (seen : Option (List ℕ)) (may_leave : List ℕ → Type 0) → AreFolded found slice d → ((bytes : List ℕ) → seen ≡ Some bytes → IsJournal found seen may_leave)
        → ((bytes : List ℕ) → seen ≡ Some bytes → length bytes ≡ size) → size ≡ gate + 1 → IsKept k (k.placed (gate + 1) limit d) seen may_leave
    kept_folded gate limit size d found slice seen may_leave are rests measures ends =
        kept_where (k.placed (gate + 1) limit d) seen seen may_leave (λ e. e) (λ bytes at. kept_so gate limit size d found seen may_leave (rests bytes at) measures ends (found_fold found slice found d limit are refl))

  -- ---- the lines of a restart

  by_mark : (b : Bool) (o : Option (List Line)) → option_map (λ (e : List Line). if b then [] else k.in_words e) o ≡ option_map (wanted_lines k (not b)) o
  by_mark true None = refl
  by_mark true (Some e) = refl
  by_mark false None = refl
  by_mark false (Some e) = refl

  pub are_begun : (node : Node) (told : Mark) (c count : ℕ) (records found : List (List ℕ)) (b : Bool) (ls : List Line) → found ≡ records → count ≡ length found → b ≡ same_mark (record { generation = 0; records = count }) told → TellsLast k node (not b) found ls
      → lines_begun k node told c records ≡ Some ls
  are_begun node told c count records found b ls is counted mark tells =
      let same : same_mark (record { generation = 0; records = length records }) told ≡ b =
      ap (λ (n : ℕ). same_mark (record { generation = 0; records = n }) told) (ap length (sym is) ∙ sym counted) ∙ sym mark in
      ap (λ (m : Bool). option_map (λ (e : List Line). if m then [] else k.in_words e) (k.last_effect node c records)) same
      ∙ (by_mark b (k.last_effect node c records) ∙ (ap (λ (rs : List (List ℕ)). option_map (wanted_lines k (not b)) (k.last_effect node c rs)) (sym is) ∙ tells c))

-- ---- faults

-- a fault that isn't the disk's, where no count rose
pub fault_without : (setting : Setting) (last before now own_before own_now : ℕ) (e : StoreFault) → IsFoldFault e → (now ≡ before) × (own_now ≡ own_before) → IsCaused setting last before now own_before own_now e
fault_without setting last before now own_before own_now (faults.Full used capacity) is same = same
fault_without setting last before now own_before own_now faults.Failed is same = absurd is
fault_without setting last before now own_before own_now faults.Closed is same = same
fault_without setting last before now own_before own_now (faults.BadRecord n) is same = same
fault_without setting last before now own_before own_now faults.OutOfMemory is same = same

pub fault_at_attach : (e : StoreFault) → IsFoldFault e → IsAttachFault e
fault_at_attach (faults.Full used capacity) is = is
fault_at_attach faults.Failed is = tt
fault_at_attach faults.Closed is = is
fault_at_attach (faults.BadRecord n) is = tt
fault_at_attach faults.OutOfMemory is = tt
