-- A store over a disk that was taken up.
use Rattle.std.proofs.Common.{◌≡◌, ℕ, ◌+◌, Bool, false, List, length, Option, Some, None, Result, Ok, Err, is_some, refl, sym, ap, subst, ◌∙◌}
use Rattle.std.specs.Prelude.{IsSome, MatchResult, OnOk}
use Rattle.afs_num.specs.declared.faults.StoreFault.{StoreFault}
use Rattle.afs_num.specs.declared.types.Node.{Node}
use Rattle.afs_disk.specs.Disk.{PassesAll, Setting}
use Rattle.afs_journal.specs.Log.{IsJournal, Log, Rests}
use Rattle.afs_journal.specs.Records.{journal_bytes, whole_records}
use Rattle.afs_store.specs.Folding.{Folding}
use Rattle.afs_store.specs.Rereading.{disk_after, IsAttached, IsMade, IsNotMade, IsRefused}
use Rattle.afs_store.specs.Stores.{IsKept, StandFor, Stands, StoreOf}
use Rattle.afs_store.proofs.Attached.{fault_at_attach, fault_without}
use Rattle.afs_store.proofs.Folding.{some_of}

-- what is told of a journal that was found on a disk
pub record IsFound {D : Type 0} (seen : D → Option (List ℕ)) (may_leave : D → List ℕ → Type 0) (faults own_faults calls : D → ℕ) (setting : D → Setting) (limit : D → ℕ) (disk : D) (log : Log D) : Type 0 where
  pub found : (bytes : List ℕ) → seen disk ≡ Some bytes → log.found ≡ whole_records bytes
  pub at_rest : (bytes : List ℕ) → seen disk ≡ Some bytes → IsJournal (whole_records bytes) (seen log.disk) (may_leave log.disk)
  pub told : IsSome (seen log.disk) → IsSome (seen disk)
  pub counted : log.count ≡ length log.found
  pub open_is : log.closed ≡ false
  pub passed : PassesAll (setting disk) (calls disk) (calls log.disk)
  pub quiet : (faults log.disk ≡ faults disk) × (own_faults log.disk ≡ own_faults disk)
  pub rests : (bytes : List ℕ) → seen disk ≡ Some bytes → Rests bytes → calls log.disk ≡ calls disk + 2
  pub same_limit : limit log.disk ≡ limit disk

module _ {R T S P D : Type 0} (k : Folding R T S P) (seen : D → Option (List ℕ)) (may_leave : D → List ℕ → Type 0) (faults own_faults calls : D → ℕ) (setting : D → Setting) (limit : D → ℕ) (node : Node) (disk : D) (log : Log D)
    (is : IsFound seen may_leave faults own_faults calls setting limit disk log) where
  -- it is at rest with what was found
  pub rests_so : (bytes : List ℕ) → seen log.disk ≡ Some bytes → IsJournal log.found (seen log.disk) (may_leave log.disk)
  rests_so bytes at =
      let was = some_of (seen disk) (is.told (ap is_some at)) in
      subst (λ (rs : List (List ℕ)). IsJournal rs (seen log.disk) (may_leave log.disk)) (sym (is.found was.0 was.1)) (is.at_rest was.0 was.1)

  stands_so : (d : T) (bytes : List ℕ) → IsKept k d (seen log.disk) (may_leave log.disk) → seen disk ≡ Some bytes → Stands k bytes d
  stands_so d bytes kept at =
      let rest = is.at_rest bytes at in
      subst (λ (rs : List (List ℕ)). StandFor k rs d) rest.stands (kept.stands (journal_bytes (whole_records bytes)) rest.now)

  whole_so : (s : StoreOf D R T) → IsMade (Stands k) k.capacity seen may_leave limit node log s → s ≡ record { durable = s.durable; disk = log.disk; node = node; prepared = None; closed = false; count = log.count; drawn = 0 }
  whole_so s made = made.rest ∙ ap (λ (b : Bool). record { durable = s.durable; disk = log.disk; node = node; prepared = None; closed = b; count = log.count; drawn = 0 }) is.open_is

  pub attached_so : (s : StoreOf D R T) → IsMade (Stands k) k.capacity seen may_leave limit node log s → IsAttached (Stands k) k.capacity seen may_leave calls setting limit node disk s
  attached_so s made =
      subst (λ (x : StoreOf D R T). IsAttached (Stands k) k.capacity seen may_leave calls setting limit node disk x) (sym (whole_so s made))
      (record {
        stands = λ bytes at. stands_so s.durable bytes made.kept at;
        at_rest = is.at_rest;
        count = λ bytes at. is.counted ∙ ap (λ (rs : List (List ℕ)). length rs) (is.found bytes at);
        rest = refl;
        capacity = made.capacity ∙ is.same_limit;
        kept = made.kept;
        passed = is.passed;
        rests = is.rests;
      })

  pub refused_so : (e : StoreFault × D) → IsNotMade k.first_bad log e → IsRefused k.first_bad seen faults own_faults calls setting limit disk e
  refused_so e not = record {
    refusal = fault_at_attach e.0 not.refusal;
    bad = λ n same bytes at. subst (λ (rs : List (List ℕ)). k.first_bad (limit disk) rs ≡ Some n) (is.found bytes at) (not.bad n same (limit disk));
    caused = fault_without (setting disk) (calls e.1) (faults disk) (faults e.1) (own_faults disk) (own_faults e.1) e.0 not.refusal (subst (λ (d : D). (faults d ≡ faults disk) × (own_faults d ≡ own_faults disk)) (sym not.disk_is) is.quiet);
  }

  pub comes_so : (r : Result (StoreOf D R T) (StoreFault × D)) → MatchResult r (IsMade (Stands k) k.capacity seen may_leave limit node log) (IsNotMade k.first_bad log)
      → MatchResult r (IsAttached (Stands k) k.capacity seen may_leave calls setting limit node disk) (IsRefused k.first_bad seen faults own_faults calls setting limit disk)
  comes_so (Ok s) made = attached_so s made
  comes_so (Err e) not = refused_so e not

  pub disk_is : (r : Result (StoreOf D R T) (StoreFault × D)) → MatchResult r (IsMade (Stands k) k.capacity seen may_leave limit node log) (IsNotMade k.first_bad log) → disk_after r ≡ log.disk
  disk_is (Ok s) made = ap (λ (x : StoreOf D R T). x.disk) made.rest
  disk_is (Err e) not = not.disk_is

  pub quiet_so : (r : Result (StoreOf D R T) (StoreFault × D)) → MatchResult r (IsMade (Stands k) k.capacity seen may_leave limit node log) (IsNotMade k.first_bad log) → OnOk r ((faults (disk_after r) ≡ faults disk) × (own_faults (disk_after r) ≡ own_faults disk))
  quiet_so (Ok s) made = subst (λ (d : D). (faults d ≡ faults disk) × (own_faults d ≡ own_faults disk)) (sym (ap (λ (x : StoreOf D R T). x.disk) made.rest)) is.quiet
  quiet_so (Err e) not = tt
