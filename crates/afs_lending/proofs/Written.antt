-- What was written of a text.
use Rattle.std.specs.Prelude.{◌≡◌, ℕ, List, [], ◌++◌, Option, Some, None, Result, Ok, Err, IsOk, IsErr, OnOk, ◌≤◌, ◌<◌, ◌⊎◌, ◌+◌, ◌-◌, true, false}
use Rattle.std.proofs.Common.{subst, sym, append-nil, inl, inr, arith}
use Rattle.std.specs.Io.KnownBytes.{Appends}
use Rattle.afs_disk.specs.declared.bank.LendFault.{LendFault}
use Rattle.afs_disk.specs.declared.bank.LendFault.TheVariants as lending
use Rattle.afs_outside.specs.declared.outside.Failed.{Failed}
use Rattle.afs_outside.specs.Outside.{AppendsFront, Puts}
use Rattle.afs_command.specs.Spans.{span, Span, RoseBy}
use Rattle.afs_lending.specs.Outside.{WritesText}
use Rattle.afs_lending.specs.Parts.{lend_status, TellsLeft}
use Rattle.afs_command.specs.declared.statuses.Status.{Status}
use Rattle.afs_command.specs.declared.statuses.Status.TheVariants as statuses
use Rattle.std.proofs.lemmas.Bool.Decides.{leb_tells}
use Rattle.std.proofs.Math.Dec.{leb}
use Rattle.afs_disk.specs.Fuses.{last_of_counter}
use Rattle.afs_outside.specs.Outside as outside

pub rose_outside : (before after : ℕ) → outside.Rose before after → RoseBy 1 (span before after)
rose_outside before after rose = either (leb_tells (before + 1) last_of_counter) where
  either : ((leb (before + 1) last_of_counter ≡ true) × (before + 1 ≤ last_of_counter)) ⊎ ((leb (before + 1) last_of_counter ≡ false) × (last_of_counter < before + 1)) → RoseBy 1 (span before after)
  either (inl few) = inl (omega (arith, rose, few.1))
  either (inr many) = inr (omega (arith, rose, many.1))

-- what was put of a text was written, or a beginning of it
written_by : {T : Type 0} (x : List ℕ) (a b passed : Option (List ℕ)) (f g : ℕ) (r : Result T Failed) → OnOk r (passed ≡ b) → Puts x a b f g r → WritesText (span a b) passed (span f g) x
written_by x a b passed f g (Ok v) all p = inl (p.whole, (all, p.cause.quiet))
written_by x a b passed f g (Err e) all p = inr (rose_outside f g p.cause.cause, p.front)

-- and nothing after it
pub passed_by : {T : Type 0} (x : List ℕ) (a b passed : Option (List ℕ)) (f g : ℕ) (r : Result T Failed) → OnOk r (passed ≡ b) → Puts (x ++ []) a b f g r → WritesText (span a b) passed (span f g) x
passed_by x a b passed f g r all p = written_by x a b passed f g r all (subst (λ (t : List ℕ). Puts t a b f g r) (append-nil x) p)

-- a disk couldn't be read
untold_so : {T E : Type 0} (written : Result T E) (history final : List ℕ) (fault : Option LendFault) (why : LendFault) (sink : Span (Option (List ℕ))) (passed : Option (List ℕ)) (faults : Span ℕ) → fault ≡ Some why → WritesText sink passed faults history → TellsLeft written history final fault sink passed faults (lend_status why)
untold_so written history final fault lending.Failed sink passed faults e text = (e, text)
untold_so written history final fault lending.OutOfMemory sink passed faults e text = (inl e, text)

pub untold : {T E : Type 0} (written : Result T E) (history final : List ℕ) (fault : Option LendFault) (why : LendFault) (sink : Span (Option (List ℕ))) (passed : Option (List ℕ)) (faults : Span ℕ) (status : Status) → status ≡ lend_status why → fault ≡ Some why → WritesText sink passed faults history → TellsLeft written history final fault sink passed faults status
untold written history final fault why sink passed faults status is e text = subst (λ (x : Status). TellsLeft written history final fault sink passed faults x) (sym is) (untold_so written history final fault why sink passed faults e text)

-- each could, but there was no memory for what they keep
pub no_memory : {T E : Type 0} (written : Result T E) (history final : List ℕ) (fault : Option LendFault) (sink : Span (Option (List ℕ))) (passed : Option (List ℕ)) (faults : Span ℕ) (status : Status) → status ≡ lend_status lending.OutOfMemory → fault ≡ None → IsOk written → WritesText sink passed faults history → TellsLeft written history final fault sink passed faults status
no_memory written history final fault sink passed faults status is none ok text = subst (λ (x : Status). TellsLeft written history final fault sink passed faults x) (sym is) (inr (none, ok), text)

-- the text was written with what was told of the disks
pub all_told : {T U E : Type 0} (written : Result U E) (text more final : List ℕ) (fault : Option LendFault) (a b passed : Option (List ℕ)) (f g : ℕ) (r : Result T Failed) → IsOk r → fault ≡ None → more ≡ final → OnOk r (passed ≡ b) → Puts (text ++ more) a b f g r → TellsLeft written text final fault (span a b) passed (span f g) statuses.Done
all_told written text more final fault a b passed f g (Ok v) ok none same all p = (none, (subst (λ (t : List ℕ). Appends a b (text ++ t)) same p.whole, (all, p.cause.quiet)))
all_told written text more final fault a b passed f g (Err e) ok none same all p = absurd cc

pub not_all_told : {T U E : Type 0} (written : Result U E) (text more final : List ℕ) (fault : Option LendFault) (a b passed : Option (List ℕ)) (f g : ℕ) (r : Result T Failed) → IsErr r → fault ≡ None → more ≡ final → Puts (text ++ more) a b f g r → TellsLeft written text final fault (span a b) passed (span f g) statuses.WriteFault
not_all_told written text more final fault a b passed f g (Ok v) failed none same p = absurd cc
not_all_told written text more final fault a b passed f g (Err e) failed none same p = (none, (subst (λ (t : List ℕ). AppendsFront a b (text ++ t)) same p.front, rose_outside f g p.cause.cause))
