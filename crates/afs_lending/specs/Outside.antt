-- What a call of the program does outside: to the sink, and to the bank of its disks.
use Rattle.std.specs.Prelude.{◌≡◌, ◌≤◌, ◌⊎◌, ℕ, List, Option}
use Rattle.std.specs.Io.KnownBytes.{Appends}
use Rattle.afs_disk.specs.declared.bank.Lend.{Lend}
use Rattle.afs_lending.specs.Lending.{HasFailed}
use Rattle.afs_outside.specs.Outside.{AppendsFront}
use Rattle.afs_command.specs.Spans.{IsUnchanged, RoseBy, Span}

-- What a call sees outside: the bytes that the sink holds, and after the call those that it has passed on; what the bank lent, and the
-- disks that it was given back, each by its node and its bytes, where these are told. The counts are of faults: of the sink, of the bank,
-- and, for each number of a node, of the disks of that node that the bank was given back.
pub record Outside : Type 0 where
  pub sink : Span (Option (List ℕ))
  pub passed : Option (List ℕ)
  pub lends : Span (Option (List Lend))
  pub given : Span (Option (List (ℕ × List ℕ)))
  pub sink_faults : Span ℕ
  pub bank_faults : Span ℕ
  pub disk_faults : ℕ → Span ℕ

abbrev pub DidNotRise : Span ℕ → Type 0
DidNotRise count = count.after ≤ count.before

-- one of these counts rose
abbrev pub OneRose : (ℕ → Span ℕ) → Type 0
OneRose counts = (n : ℕ) × RoseBy 1 (counts n)

-- So many failed: the count rose so, and where none failed it stands.
abbrev pub SoManyFailed : ℕ → Span ℕ → Type 0
SoManyFailed n count = HasFailed n count.before count.after

-- all of the text was written, nothing of it waits in the sink, and the sink didn't fail
abbrev pub WritesWhole : Span (Option (List ℕ)) → Option (List ℕ) → Span ℕ → List ℕ → Type 0
WritesWhole sink passed faults text = Appends sink.before sink.after text × ((passed ≡ sink.after) × IsUnchanged faults)

-- so it was, or where the sink failed, a beginning of the text was written
abbrev pub WritesText : Span (Option (List ℕ)) → Option (List ℕ) → Span ℕ → List ℕ → Type 0
WritesText sink passed faults text = WritesWhole sink passed faults text ⊎ (RoseBy 1 faults × AppendsFront sink.before sink.after text)

abbrev pub WritesAll : Outside → List ℕ → Type 0
WritesAll o text = WritesWhole o.sink o.passed o.sink_faults text

abbrev pub Writes : Outside → List ℕ → Type 0
Writes o text = WritesText o.sink o.passed o.sink_faults text
