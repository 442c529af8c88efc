-- What is read of a disk.
use Rattle.std.specs.Prelude.{◌≤◌, ◌↔◌, IsSome}
use Rattle.std.proofs.Common.{◌≡◌, ℕ, ◌+◌, List, [], ◌∷◌, Option, Some, None, refl, ap, sym, ◌∙◌}
use Rattle.afs_num.specs.declared.faults.StoreFault.{StoreFault}
use Rattle.afs_num.specs.declared.faults.StoreFault.TheVariants as store
use Rattle.afs_num.specs.declared.records.StoreRecord.{StoreRecord}
use Rattle.afs_disk.specs.Disk.{Setting}
use Rattle.afs_journal.specs.Records.{whole_records}
use Rattle.spec_shape.specs.Taking.{◌>>=◌}
use Rattle.spec_fold.specs.Fold.{bad_from, first_bad, first_folded, fold_all, fold_from, folded, bad_by}
use Rattle.spec_records.specs.Durable.{nothing_on, Durable}
use Rattle.spec_records.specs.Records.{record_at}
use Rattle.afs_volstore.specs.Stands.{StandsForVolumes}
use Rattle.spec_records.proofs.Forms.{bound}
use Rattle.afs_volstore.specs.Opening.{IsAttachFault}
use Rattle.afs_volstore.specs.Stores.{IsCaused}
use Rattle.afs_final.specs.Reading.{refused, IsRead}

-- ---- records that stand for something can be taken

good_from : (number : ℕ) (bs : List (List ℕ)) (c d : Durable) → fold_from bs c ≡ Some d → bad_from number bs c ≡ None
good_from number [] c d h = refl
good_from number (b ∷ bs) c d h =
    let p = bound (record_at b) (λ q. (folded q c >>= fold_from bs)) d h in
    let f = bound (folded p.0 c) (fold_from bs) d p.1.1 in
    let takes : (record_at b >>= λ q. folded q c) ≡ Some f.0 = ap (λ (o : Option StoreRecord). o >>= λ q. folded q c) p.1.0 ∙ f.1.0 in
    ap (λ (o : Option Durable). bad_by number o (bad_from (number + 1) bs)) takes ∙ good_from (number + 1) bs f.0 d f.1.1

none_bad : (capacity : ℕ) (bs : List (List ℕ)) (d : Durable) → fold_all capacity bs ≡ Some d → first_bad capacity bs ≡ None
none_bad capacity [] d h = absurd cc
none_bad capacity (b ∷ bs) d h =
    let p = bound (record_at b) (λ q. (first_folded q (nothing_on capacity) >>= fold_from bs)) d h in
    let f = bound (first_folded p.0 (nothing_on capacity)) (fold_from bs) d p.1.1 in
    let takes : (record_at b >>= λ q. first_folded q (nothing_on capacity)) ≡ Some f.0 = ap (λ (o : Option StoreRecord). o >>= λ q. first_folded q (nothing_on capacity)) p.1.0 ∙ f.1.0 in
    ap (λ (o : Option Durable). bad_by 1 o (bad_from 2 bs)) takes ∙ good_from 2 bs f.0 d f.1.1

none_some : (number : ℕ) → None ≡ Some number → ⊥
none_some number e = absurd cc

stands_for_none : (capacity number : ℕ) (bytes : List ℕ) (d : Durable) → first_bad capacity (whole_records bytes) ≡ Some number → d.capacity ≡ capacity → StandsForVolumes bytes d → ⊥
stands_for_none capacity number bytes d bad same stands =
    none_some number (sym (none_bad capacity (whole_records bytes) d (ap (λ (n : ℕ). fold_all n (whole_records bytes)) (sym same) ∙ stands)) ∙ bad)

-- ---- a disk of which no store could be made

pub refused_so : {D : Type 0} (seen : D → Option (List ℕ)) (faults limit : D → ℕ) (disk d : D) (setting : Setting) (last own_before own_now : ℕ) (refusal : StoreFault) → IsAttachFault refusal → faults disk ≤ faults d → IsSome (seen d) ↔ IsSome (seen disk)
    → IsCaused setting last (faults disk) (faults d) own_before own_now refusal → ((n : ℕ) → refusal ≡ store.BadRecord n → (bytes : List ℕ) → seen disk ≡ Some bytes → first_bad (limit disk) (whole_records bytes) ≡ Some n) → IsRead seen faults limit disk (refused refusal d)
refused_so {D} seen faults limit disk d setting last own_before own_now (store.Full used capacity) is falls told caused bad = absurd is
refused_so {D} seen faults limit disk d setting last own_before own_now store.Failed is falls told caused bad = record { is = caused.0; never_falls = falls; told = told }
refused_so {D} seen faults limit disk d setting last own_before own_now store.Closed is falls told caused bad = absurd is
refused_so {D} seen faults limit disk d setting last own_before own_now (store.BadRecord n) is falls told caused bad = record {
  is = (caused.0, λ bytes at p same stands. stands_for_none (limit disk) n bytes p (bad n refl bytes at) same stands);
  never_falls = falls;
  told = told;
}
refused_so {D} seen faults limit disk d setting last own_before own_now store.OutOfMemory is falls told caused bad = record { is = caused.0; never_falls = falls; told = told }
